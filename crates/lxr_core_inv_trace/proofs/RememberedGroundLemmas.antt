-- What tracers find below them while they remember: unreclaimed objects, each where it stood, with as many references as its header tells; and
-- in a reference that wasn't stored to since the last pause the place of what it held then.
use Rattle.std.proofs.Common.{◌≡◌, ℕ, ◌+◌, ◌*◌, ◌^◌, ◌<◌, ◌≤◌, sym, ap, subst, ◌∙◌, inl, inr, ◌⊎◌, arith, false, List, IsTrue, length}
use Rattle.std.specs.Prelude.{Option, Some, None, slice_get}
use Rattle.std.proofs.lemmas.Bool.{false_from_ne_true}
use Rattle.std.proofs.lemmas.Option.{slice_get_within}
use Rattle.lxr_layout.specs.declared.limits.Limits.{Limits}
use Rattle.lxr_layout.specs.declared.Header.TheVariants as header
use Rattle.lxr_layout.specs.declared.Name.{Name}
use Rattle.lxr_layout.specs.declared.Shape.{Shape}
use Rattle.lxr_layout.specs.declared.TheConstants.{WORDS_IN_BLOCK}
use Rattle.lxr_layout.specs.Places.{field_word, first_word}
use Rattle.lxr_layout.specs.Spaces.{AreLimits}
use Rattle.lxr_graph.specs.Names.{IsSetOf, has}
use Rattle.lxr_graph.specs.State.{object_at, refs_of}
use Rattle.lxr_graph.proofs.NameSets.{not_both}
use Rattle.lxr_image.specs.Tables.{Tables}
use Rattle.lxr_image.specs.Reads.{granule_of}
use Rattle.lxr_image.proofs.TableLaws.{reuse_fits}
use Rattle.lxr_model.specs.Moments.{Field, Moment, Trace}
use Rattle.lxr_model.specs.Reachable.{Reachable}
use Rattle.lxr_model_counting.specs.Distinct.{has_field}
use Rattle.lxr_model_counting.specs.Following.{FollowsPause}
use Rattle.lxr_model_counting.proofs.DistinctLemmas.{tested}
use Rattle.lxr_invariant.specs.AbstractState.{members}
use Rattle.lxr_invariant.specs.Standing.{HasBits, word_of_field}
use Rattle.lxr_invariant.specs.Tracing.{IsInSnapshot, MarksStayInside}
use Rattle.lxr_invariant.proofs.NameLemmas.{in_first}
use Rattle.lxr_core_invariant.specs.EpochStates.{Beginning, EpochState, limits_of, moment_of}
use Rattle.lxr_core_invariant.specs.Events.{TellsObject}
use Rattle.lxr_core_invariant.specs.Counted.{references_at}
use Rattle.lxr_core_invariant.specs.Inside.{StaysInsideWhile}
use Rattle.lxr_core_invariant.specs.Logged.{with_cleared}
use Rattle.lxr_core_invariant.specs.Remembered.{StillHolds}
use Rattle.lxr_core_invariant.specs.Epoch.{IsEpoch}
use Rattle.lxr_core_invariant.proofs.FieldLemmas.{name_found}
use Rattle.lxr_invariant.proofs.FieldLemmas.{field_found}
use Rattle.lxr_core_invariant.proofs.PauseLemmas.{AreUnmoved, HaveOnePause, one_pause, unmoved}
use Rattle.lxr_core_inv_counts.proofs.GroundLemmas as counts

-- What tracers find below them.
pub record IsGround (l : Limits) (t : Tables) (m : Moment) (at : Name → ℕ) : Type 0 where
  pub limits : AreLimits l
  pub follows : FollowsPause m
  pub placed : (n : Name) → IsTrue (has m.unreclaimed n) → 1 ≤ at n
  pub started : (n : Name) → IsTrue (has m.unreclaimed n) → IsTrue (t.starts (granule_of (at n)))
  pub refs : (place : ℕ) (n : Name) → IsTrue (has m.unreclaimed n) → place ≡ at n → references_at m at place ≡ refs_of (object_at m.last.graph n)
  pub few : (n : Name) → IsTrue (has m.unreclaimed n) → length (refs_of (object_at m.last.graph n)) ≤ 1023
  pub told : (n o : Name) (shape : Shape) → IsTrue (has m.unreclaimed n) → TellsObject (t.heap (first_word (at n))) o shape → shape.refs ≡ length (refs_of (object_at m.last.graph n))
  pub in_heap : (n : Name) → IsTrue (has m.unreclaimed n) → first_word (at n) + 1 + length (refs_of (object_at m.last.graph n)) ≤ WORDS_IN_BLOCK * l.blocks
  pub word : (n v : Name) (i : ℕ) → StillHolds t m at n i v → t.heap (field_word (at n) i) ≡ at v
  pub reuse : (line : ℕ) → t.reuse line < 2 ^ 32

module _ (b : Beginning) (s : EpochState) (is : IsEpoch b s) where
  abbrev was : Moment
  was = b.abstract_state.moment

  abbrev now : Moment
  now = moment_of b s

  abbrev stood : Name → ℕ
  stood = b.abstract_state.at

  pub pause : HaveOnePause was now
  pause = one_pause b s is

  pub still : AreUnmoved was.unreclaimed stood s.at
  still = unmoved b s is

  pub member_now : (n : Name) → IsTrue (has was.unreclaimed n) → IsTrue (has now.unreclaimed n)
  member_now n h = subst (λ z. IsTrue (has z n)) (sym pause.unreclaimed) h

  pub member_was : (n : Name) → IsTrue (has now.unreclaimed n) → IsTrue (has was.unreclaimed n)
  member_was n h = subst (λ z. IsTrue (has z n)) pause.unreclaimed h

  in_heap_now : (n : Name) → IsTrue (has now.unreclaimed n) → IsTrue (has (members now) n)
  in_heap_now n h = in_first now.unreclaimed now.made n h

  below : counts.IsGround (limits_of b) s.tables was stood
  below = counts.ground_of b s is

  -- ---- references

  -- what a reference held at the last pause, told of the moment now
  held_last : (n : Name) (i : ℕ) (r : Option Name) → slice_get (refs_of (object_at was.last.graph n)) i ≡ Some r → slice_get (refs_of (object_at now.last.graph n)) i ≡ Some r
  held_last n i r held = ap (λ z. slice_get (refs_of (object_at z.graph n)) i) pause.last ∙ held

  -- an object has as many references as it had
  pub as_many : (n : Name) → IsTrue (has now.unreclaimed n) → length (refs_of (object_at now.state.graph n)) ≡ length (refs_of (object_at was.last.graph n))
  as_many n h =
      let shaped = is.lives.objects n h in
      ap (λ z. length (refs_of z)) shaped.3 ∙ shaped.4.refs ∙ sym (ap (λ z. length (refs_of z)) shaped.2) ∙ ap (λ z. length (refs_of (object_at z.graph n))) pause.last

  -- a reference whose unlogged bit is set is none of those that these bits say were stored to
  pub unlogged_tells : (fields : List Field) (n : Name) (i : ℕ) → HasBits s.tables (with_cleared now fields) s.at now.unreclaimed → IsTrue (has now.unreclaimed n) → i < length (refs_of (object_at now.state.graph n))
      → IsTrue (s.tables.unlogged (word_of_field s.at n i)) → has_field fields (n, i) ≡ false
  unlogged_tells fields n i bits member within set =
      let x = (bits.unlogged (word_of_field s.at n i)).0 set in
      let found = field_found s.tables (limits_of b).blocks s.at now.state.graph (members now) is.image.placed.image x.0 n x.1 i (in_heap_now x.0 x.2.member) (in_heap_now n member) x.2.index within (sym x.2.word) in
      ap (λ z. has_field fields (z, i)) (sym found.0) ∙ ap (λ j. has_field fields (x.0, j)) (sym found.1) ∙ x.2.unwritten

  -- what wasn't cleared wasn't stored to
  unwritten_there : (n : Name) (i : ℕ) → has_field s.cleared (n, i) ≡ false → has_field now.written (n, i) ≡ false
  unwritten_there n i clear = false_from_ne_true (has_field now.written (n, i)) (λ w. not_both (has_field s.cleared (n, i)) (is.logged.written n i w) clear)

  -- a reference that holds what it held has that one's place
  word_there : (n v : Name) (i : ℕ) → StillHolds s.tables was stood n i v → s.tables.heap (field_word (stood n) i) ≡ stood v
  word_there n v i holds =
      let member = member_now n holds.member in
      let within = slice_get_within (refs_of (object_at was.last.graph n)) i (Some v) holds.held in
      let many = as_many n member in
      let set : IsTrue (s.tables.unlogged (word_of_field s.at n i)) = ap (λ p. s.tables.unlogged (field_word p i)) (still n holds.member) ∙ holds.unlogged in
      let clear = unlogged_tells s.cleared n i is.logged.bits member (omega (arith, within, many)) set in
      let x = is.image.placed.image.stands n (in_heap_now n member) in
      let read : slice_get x.0.refs i ≡ Some (Some v) =
      ap (λ z. slice_get (refs_of z) i) (sym x.1) ∙ is.lives.unwritten n i member (unwritten_there n i clear) ∙ held_last n i (Some v) holds.held in
      let in_v = is.begins.between.safepoint.holds.follows.closed n v holds.member (i, holds.held) in
      ap (λ p. s.tables.heap (field_word p i)) (sym (still n holds.member)) ∙ x.2.refs i (Some v) read ∙ still v in_v

  -- the header of an unreclaimed object tells how many it has
  told_there : (n o : Name) (shape : Shape) → IsTrue (has was.unreclaimed n) → TellsObject (s.tables.heap (first_word (stood n))) o shape → shape.refs ≡ length (refs_of (object_at was.last.graph n))
  told_there n o shape member told =
      let x = below.stands n member in
      let same : header.Object o shape ≡ header.Object n x.shape = sym told ∙ x.told in
      let shapes : shape ≡ x.shape = cc in
      ap (λ (z : Shape). z.refs) shapes ∙ x.refs

  few_there : (n : Name) → IsTrue (has was.unreclaimed n) → length (refs_of (object_at was.last.graph n)) ≤ 1023
  few_there n member =
      let x = is.image.placed.image.stands n (in_heap_now n (member_now n member)) in
      let own = ap (λ z. length (refs_of z)) x.1 in
      let many = as_many n (member_now n member) in
      let fits = x.2.whole.shape.0 in
      omega (arith, own, many, fits)

  pub ground_of : IsGround (limits_of b) s.tables was stood
  ground_of = record {
    limits = below.limits;
    follows = below.follows;
    placed = λ n h. (below.stands n h).placed;
    started = below.starts.each;
    refs = λ place n h there. ap (λ z. refs_of (object_at was.last.graph z)) (name_found stood was.unreclaimed n place h (λ x k e. below.one x n k h e) there);
    few = few_there;
    told = told_there;
    in_heap = λ n h. let x = below.stands n h in let fits = x.in_heap in let own = x.refs in omega (arith, fits, own);
    word = word_there;
    reuse = λ line. subst (λ (f : ℕ → ℕ). f line < 2 ^ 32) (sym (ap (λ (z : Tables). z.reuse) is.fixed.tables)) (reuse_fits (limits_of b) b.space.words line);
  }

  -- ---- what a tracer marks

  -- a gray object that isn't marked is of the snapshot, or has no references
  pub marks_snapshot : (trace : Trace) (snapshot : List Name) → now.trace ≡ Some trace → IsSetOf snapshot (Reachable trace.state) → (n : Name) → IsTrue (has was.unreclaimed n) → IsTrue (s.tables.grays (granule_of (stood n)))
      → s.tables.marks (granule_of (stood n)) ≡ false → IsTrue (has snapshot n) ⊎ (length (refs_of (object_at was.last.graph n)) ≡ 0)
  marks_snapshot trace snapshot runs names n member gray clear =
      let inside : StaysInsideWhile b s (Some trace) = subst (StaysInsideWhile b s) runs is.inside in
      by inside.marks (inside.marks.grays n (member_now n member) (ap (λ p. s.tables.grays (granule_of p)) (still n member) ∙ gray))
    where
      garbage_small : (marks : MarksStayInside s.tables now s.at trace) → object_at trace.state.graph n ≡ None → IsTrue (has trace.unreclaimed n) → has snapshot n ≡ false → length (refs_of (object_at was.last.graph n)) ≡ 0
      garbage_small marks none old other =
          let stays = marks.garbage n (record { member = old; unreachable = λ r. not_both (has snapshot n) ((names.members n).1 r) other }) in
          sym (as_many n (member_now n member)) ∙ ap length stays.references ∙ ap (λ z. length (refs_of z)) none

      by : (marks : MarksStayInside s.tables now s.at trace) → IsInSnapshot now trace n → IsTrue (has snapshot n) ⊎ (length (refs_of (object_at was.last.graph n)) ≡ 0)
      by marks (inl reached) = inl ((names.members n).1 reached)
      by marks (inr younger) = elim (marks.members n (member_now n member)) [
        | inr q ↦ absurd (not_both (s.tables.marks (granule_of (s.at n))) q.1 (ap (λ p. s.tables.marks (granule_of p)) (still n member) ∙ clear))
        | inl old ↦ elim (tested (has snapshot n)) [ inl h ↦ inl h | inr other ↦ inr (garbage_small marks younger.0 old other) ]
      ]
