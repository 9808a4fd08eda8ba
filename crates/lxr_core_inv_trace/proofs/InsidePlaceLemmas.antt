-- What helpers find in an epoch: what stands at a place, which references it has and had, and the names of the snapshot of the trace that
-- runs. All that they know of places is told of the epoch's beginning, and holds of its moments.
use Rattle.std.proofs.Common.{◌≡◌, ℕ, ◌<◌, ◌≤◌, sym, ap, subst, ◌∙◌, arith, List, IsTrue, length, get_or}
use Rattle.std.specs.Prelude.{Option, Some, None, slice_get}
use Rattle.std.proofs.lemmas.Option.{slice_get-get_or}
use Rattle.lxr_layout.specs.declared.Name.{Name}
use Rattle.lxr_layout.specs.declared.limits.Limits.{Limits}
use Rattle.lxr_layout.specs.declared.LogEntry.{LogEntry}
use Rattle.lxr_layout.specs.Places.{field_word}
use Rattle.lxr_graph.specs.Names.{IsSetOf, has}
use Rattle.lxr_graph.specs.State.{Object, object_at, refs_of}
use Rattle.lxr_image.specs.Tables.{Tables}
use Rattle.lxr_image.specs.Image.{place_word}
use Rattle.lxr_image.specs.Reads.{granule_of}
use Rattle.lxr_model.specs.Moments.{Moment, Trace}
use Rattle.lxr_model.specs.Reachable.{Reachable, Refers}
use Rattle.lxr_invariant.specs.AbstractState.{AbstractState, members}
use Rattle.lxr_invariant.specs.Tracing.{IsTracedBy}
use Rattle.lxr_invariant.proofs.NameLemmas.{in_first}
use Rattle.lxr_core_invariant.specs.EpochStates.{Beginning, EpochState, limits_of, moment_of}
use Rattle.lxr_core_invariant.specs.Counted.{StandsAt, references_at}
use Rattle.lxr_core_invariant.specs.Epoch.{IsEpoch}
use Rattle.lxr_core_invariant.proofs.HeldLemmas.{IsHeld, reference_held}
use Rattle.lxr_core_invariant.proofs.PauseLemmas.{AreUnmoved, HaveOnePause, one_pause, unmoved}
use Rattle.lxr_core_invariant.proofs.TellingLemmas.{one_place}
use Rattle.lxr_core_invariant.proofs.FieldLemmas.{name_found}

-- places and granules count from one, and from zero
pub granule_tells : (p q : ℕ) → 1 ≤ p → 1 ≤ q → granule_of p ≡ granule_of q → p ≡ q
granule_tells p q some_p some_q e = omega arith

-- the names of the snapshot of a trace
pub record HasSnapshot (trace : Trace) : Type 0 where
  pub names : List Name
  pub reachable : IsSetOf names (Reachable trace.state)

-- a trace that runs between epochs has them
snapshot_with : (l : Limits) (t : Tables) (entries : List LogEntry) (g : AbstractState) (trace : Trace) (o : Option Trace) → o ≡ Some trace → IsTracedBy l t entries g o → HasSnapshot trace
snapshot_with l t entries g trace None e traced = absurd (cc)
snapshot_with l t entries g trace (Some other) e traced =
    let same : other ≡ trace = cc in
    subst HasSnapshot same (record { names = traced.snapshot; reachable = traced.reachable })

module _ (b : Beginning) (s : EpochState) (is : IsEpoch b s) where
  abbrev was : Moment
  was = b.abstract_state.moment

  abbrev now : Moment
  now = moment_of b s

  abbrev stood : Name → ℕ
  stood = b.abstract_state.at

  pause : HaveOnePause was now
  pause = one_pause b s is

  pub still : AreUnmoved was.unreclaimed stood s.at
  still = unmoved b s is

  -- so a trace that runs in an epoch does
  pub snapshot_of : (trace : Trace) → now.trace ≡ Some trace → HasSnapshot trace
  snapshot_of trace runs = snapshot_with (limits_of b) _ _ b.abstract_state trace was.trace (sym pause.trace ∙ runs) is.begins.between.safepoint.traced

  -- ---- what stands at a place

  pub member_now : (n : Name) → IsTrue (has was.unreclaimed n) → IsTrue (has now.unreclaimed n)
  member_now n h = subst (λ z. IsTrue (has z n)) (sym pause.unreclaimed) h

  pub member_was : (n : Name) → IsTrue (has now.unreclaimed n) → IsTrue (has was.unreclaimed n)
  member_was n h = subst (λ z. IsTrue (has z n)) pause.unreclaimed h

  in_heap : (n : Name) → IsTrue (has now.unreclaimed n) → IsTrue (has (members now) n)
  in_heap n h = in_first now.unreclaimed now.made n h

  pub placed : (n : Name) → IsTrue (has now.unreclaimed n) → 1 ≤ s.at n
  placed n h = (is.image.placed.image.stands n (in_heap n h)).2.placed

  -- what stood at a place as the epoch opened stands there
  pub stands_now : (place : ℕ) → StandsAt was stood place → StandsAt now s.at place
  stands_now place st = record { name = st.name; member = member_now st.name st.member; stands = st.stands ∙ sym (still st.name st.member) }

  -- what begins at its granule stands there
  pub begins_there : (place : ℕ) (n : Name) → StandsAt now s.at place → IsTrue (has now.unreclaimed n) → granule_of (s.at n) ≡ granule_of place → s.at n ≡ place
  begins_there place n st member e = granule_tells (s.at n) place (placed n member) (subst (λ p. 1 ≤ p) (sym st.stands) (placed st.name st.member)) e

  pub one_name : (n o : Name) → IsTrue (has now.unreclaimed n) → IsTrue (has now.unreclaimed o) → s.at n ≡ s.at o → n ≡ o
  one_name n o in_n in_o e = one_place s.tables (limits_of b).blocks s.at now.state.graph (members now) n o is.image.placed.image (in_heap n in_n) (in_heap o in_o) e

  -- ---- its references

  -- those that it had at the last pause
  pub references_there : (place : ℕ) (u : Name) → IsTrue (has now.unreclaimed u) → place ≡ s.at u → references_at was stood place ≡ refs_of (object_at now.last.graph u)
  references_there place u in_u there =
      let u_was = member_was u in_u in
      let name = name_found stood was.unreclaimed u place u_was
      (λ x h e. one_name x u (member_now x h) in_u (still x h ∙ e ∙ sym (still u u_was))) (there ∙ still u u_was) in
      ap (λ z. refs_of (object_at was.last.graph z)) name ∙ ap (λ z. refs_of (object_at z.graph u)) (sym pause.last)

  -- it has as many now
  as_many : (u : Name) (o : Object) → IsTrue (has now.unreclaimed u) → object_at now.state.graph u ≡ Some o → length (refs_of (object_at now.last.graph u)) ≡ length o.refs
  as_many u o in_u there =
      let shaped = is.lives.objects u in_u in
      let last : length (refs_of (object_at now.last.graph u)) ≡ length shaped.0.refs = ap (λ z. length (refs_of z)) shaped.2 in
      let same : length shaped.1.refs ≡ length o.refs = ap (λ z. length (refs_of z)) (sym shaped.3 ∙ there) in
      last ∙ sym shaped.4.refs ∙ same

  -- a reference whose word is the place of an object refers to it
  refers_to : (u n : Name) (o : Object) (index : ℕ) (r : Option Name) → object_at now.state.graph u ≡ Some o → slice_get o.refs index ≡ Some r → IsHeld now r → IsTrue (has now.unreclaimed n)
      → place_word s.at r ≡ s.at n → Refers now.state.graph u n
  refers_to u n o index None there read held in_n e = let some = placed n in_n in absurd (omega (arith, some, e))
  refers_to u n o index (Some v) there read held in_n e =
      let same = one_place s.tables (limits_of b).blocks s.at now.state.graph (members now) v n is.image.placed.image held (in_heap n in_n) e in
      (index, ap (λ z. slice_get (refs_of z) index) there ∙ read ∙ ap (λ z. Some (Some z)) same)

  -- so what a tracer reads of an object is what that refers to now
  pub read_now : (place index : ℕ) (u n : Name) → IsTrue (has now.unreclaimed u) → IsTrue (has now.unreclaimed n) → place ≡ s.at u → index < length (references_at was stood place)
      → s.tables.heap (field_word place index) ≡ s.at n → Refers now.state.graph u n
  read_now place index u n in_u in_n there within word =
      let st = is.image.placed.image.stands u (in_heap u in_u) in
      let many : length (references_at was stood place) ≡ length st.0.refs = ap length (references_there place u in_u there) ∙ as_many u st.0 in_u st.1 in
      let read = slice_get-get_or st.0.refs index None (omega (arith, many, within)) in
      let held = reference_held now u st.0 index (get_or st.0.refs index None) is.lives (in_heap u in_u) st.1 read in
      refers_to u n st.0 index (get_or st.0.refs index None) st.1 read held in_n
      (sym (st.2.refs index (get_or st.0.refs index None) read) ∙ ap (λ p. s.tables.heap (field_word p index)) (sym there) ∙ word)
