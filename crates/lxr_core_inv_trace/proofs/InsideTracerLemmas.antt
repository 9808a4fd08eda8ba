-- Tracers keep marks inside: what they mark is gray, what they load is what a marked object refers to now, and what they make gray they have loaded.
use Rattle.std.proofs.Common.{◌≡◌, ℕ, ◌+◌, ◌<◌, ◌≤◌, refl, sym, ap, subst, ◌∙◌, inl, inr, Bool, true, false, cond, IsTrue}
use Rattle.std.specs.Prelude.{nat_lt, Option, Some, None, slice_get, slice_set}
use Rattle.lxr_layout.specs.declared.Name.{Name}
use Rattle.lxr_layout.specs.Places.{field_word}
use Rattle.lxr_graph.specs.Names.{has}
use Rattle.lxr_image.specs.Tables.{Tables}
use Rattle.lxr_image.specs.Reads.{granule_of}
use Rattle.lxr_model.specs.Moments.{Moment, Trace}
use Rattle.lxr_invariant.specs.Tracing.{IsInSnapshot}
use Rattle.lxr_invariant.proofs.EntryLemmas.{changed_cases}
use Rattle.lxr_core_access.specs.declared.Access.{Access}
use Rattle.lxr_core_access.specs.Accesses.{done_to}
use Rattle.lxr_core_access.specs.Tracers.{Attempts, IsTry, Tracing, TracerGoes, begins, goes_on, pocket, nothing, scanned_next, tracer_access, Rests, AsksGray, AsksObject, Marks, ReadsShape, Scans, AsksReferent, GraysReferent, AsksBlock, ReadsReuse, DrawsNumber, Enters, FindsNothing}
use Rattle.lxr_core_access.specs.Tracers as goes
use Rattle.lxr_core_invariant.specs.EpochStates.{Beginning, EpochState, limits_of, moment_of}
use Rattle.lxr_core_invariant.specs.Covered.{grayed_by}
use Rattle.lxr_core_invariant.specs.Decremented.{MayTrace}
use Rattle.lxr_core_invariant.specs.Inside.{StaysInside}
use Rattle.lxr_core_invariant.specs.Traced.{KnowsObjects}
use Rattle.lxr_core_invariant.specs.Epoch.{IsEpoch}
use Rattle.lxr_core_invariant.proofs.ShowingLemmas.{shown_cases}
use Rattle.lxr_invariant.proofs.InsideLemmas.{refers_inside}
use Rattle.lxr_core_inv_trace.proofs.InsidePlaceLemmas.{HasSnapshot, granule_tells, member_now, placed, read_now, snapshot_of, still}
use Rattle.lxr_core_inv_trace.proofs.InsideBitLemmas.{IsInsideAt, SetsBits, after_access, bits_inside}

-- the place whose object a tracer marks
abbrev pub marked_by : Tracing → Option ℕ
marked_by (Marks place) = Some place
marked_by _ = None

-- a tracer's access marks at most one object, makes at most one gray, and claims none
access_sets : (blocks : ℕ) (t : Tables) (d : Tracing) → SetsBits t (after_access t (tracer_access blocks d)) (marked_by d) (grayed_by d)
access_sets blocks t (Marks place) = record {
  marks = λ k set. elim (changed_cases t.marks (granule_of place) true k) [ inl q ↦ inr (place, refl, q.0) | inr q ↦ inl (sym q.1 ∙ set) ];
  stay_marked = λ k set. elim (changed_cases t.marks (granule_of place) true k) [ inl q ↦ q.1 | inr q ↦ q.1 ∙ set ];
  grays = λ k set. inl set;
}
access_sets blocks t (GraysReferent place refs index referent) = record {
  marks = λ k set. inl set;
  stay_marked = λ k set. set;
  grays = λ k set. elim (changed_cases t.grays (granule_of referent) true k) [ inl q ↦ inr (referent, refl, q.0) | inr q ↦ inl (sym q.1 ∙ set) ];
}
access_sets blocks t _ = record { marks = λ k set. inl set; stay_marked = λ k set. set; grays = λ k set. inl set }

access_dones : (blocks : ℕ) (t : Tables) (d : Tracing) → (after_access t (tracer_access blocks d)).dones ≡ t.dones
access_dones blocks t Rests = refl
access_dones blocks t (AsksGray place) = refl
access_dones blocks t _ = refl

-- what it tries first has nothing loaded, nor has it at the next reference
try_unloaded : (blocks p : ℕ) (d : Tracing) → IsTry blocks d → grayed_by d ≡ Some p → ⊥
try_unloaded blocks p d (pocket place some within) e = cc
try_unloaded blocks p d (nothing) e = cc

next_unloaded : (place refs index p : ℕ) → grayed_by (scanned_next place refs index) ≡ Some p → ⊥
next_unloaded place refs index p e = by (nat_lt index refs) e
  where
    by : (more : Bool) → grayed_by (cond more (Scans place refs index) Rests) ≡ Some p → ⊥
    by true k = cc
    by false k = cc

module _ (b : Beginning) (s : EpochState) (is : IsEpoch b s) (trace : Trace) (runs : (moment_of b s).trace ≡ Some trace) (inside : StaysInside s.tables (moment_of b s) s.at s.tracers trace) where
  abbrev now : Moment
  now = moment_of b s

  snapshot : HasSnapshot trace
  snapshot = snapshot_of b s is trace runs

  -- what a tracer has loaded is inside
  abbrev HasLoadedInside : Tracing → Type 0
  HasLoadedInside d = (n : Name) → grayed_by d ≡ Some (s.at n) → IsTrue (has now.unreclaimed n) → IsInSnapshot now trace n

  -- a tracer is about to do a step: what it knows, and what it has loaded
  record IsReady (d : Tracing) : Type 0 where
    knows : KnowsObjects (limits_of b).blocks s.tables b.abstract_state.moment b.abstract_state.at d
    loaded : HasLoadedInside d

  ready : (i : ℕ) (before about : Tracing) → slice_get s.tracers i ≡ Some before → Attempts (limits_of b).blocks before about → IsReady about
  ready i before about shows (begins d (pocket place some within)) = record { knows = (some, within); loaded = λ n e. absurd (cc) }
  ready i before about shows (begins d (nothing)) = record { knows = tt; loaded = λ n e. absurd (cc) }
  ready i before about shows (goes_on d) = record { knows = is.scanned.knows i before shows; loaded = λ n e member. inside.loaded i before n shows e member }

  -- what it marks was gray
  mark_inside : (d : Tracing) → IsReady d → (p : ℕ) → marked_by d ≡ Some p → IsInsideAt now s.at trace p
  mark_inside (Marks place) at_it p e = λ n member there. let same : place ≡ p = cc in inside.marks.grays n member (ap s.tables.grays (there ∙ ap granule_of (sym same)) ∙ at_it.knows.1)
  mark_inside _ at_it p e = absurd (cc)

  -- what it makes gray it has loaded
  loaded_there : (d : Tracing) → IsReady d → (referent : ℕ) → 1 ≤ referent → grayed_by d ≡ Some referent → IsInsideAt now s.at trace referent
  loaded_there d at_it referent some e n member there =
      let stands = granule_tells (s.at n) referent (placed b s is n member) some there in
      at_it.loaded n (e ∙ ap Some (sym stands)) member

  gray_inside : (d : Tracing) → IsReady d → (p : ℕ) → grayed_by d ≡ Some p → IsInsideAt now s.at trace p
  gray_inside (AsksReferent place refs index referent) at_it p e =
      let same : referent ≡ p = cc in
      subst (IsInsideAt now s.at trace) same (loaded_there (AsksReferent place refs index referent) at_it referent at_it.knows.1.0 refl)
  gray_inside (GraysReferent place refs index referent) at_it p e =
      let same : referent ≡ p = cc in
      let st = at_it.knows.1 in
      let there : referent ≡ s.at st.name = st.stands ∙ sym (still b s is st.name st.member) in
      subst (IsInsideAt now s.at trace) same
      (loaded_there (GraysReferent place refs index referent) at_it referent (subst (λ z. 1 ≤ z) (sym there) (placed b s is st.name (member_now b s is st.name st.member))) refl)
  gray_inside _ at_it p e = absurd (cc)

  -- what it reads of a marked object is inside
  scanned_inside : (place refs index : ℕ) → IsReady (Scans place refs index) → (n : Name) → IsTrue (has now.unreclaimed n) → s.tables.heap (field_word place index) ≡ s.at n → IsInSnapshot now trace n
  scanned_inside place refs index at_it n member word =
      let u : Name = at_it.knows.stands.name in
      let in_u = member_now b s is u at_it.knows.stands.member in
      let there : place ≡ s.at u = at_it.knows.stands.stands ∙ sym (still b s is u at_it.knows.stands.member) in
      let marked = inside.marks.marks u in_u (ap (λ z. s.tables.marks (granule_of z)) (sym there) ∙ at_it.knows.marked) in
      let refers = read_now b s is place index u n in_u member there (subst (λ z. index < z) at_it.knows.refs_are at_it.knows.within) word in
      refers_inside s.tables now s.at trace inside.marks snapshot.names snapshot.reachable u n in_u marked refers member

  -- what it has loaded after a step is inside
  goes_inside : (d e : Tracing) → TracerGoes (limits_of b).blocks (limits_of b).remember s.tables d e → IsReady d → HasLoadedInside e
  goes_inside d e (goes.asks_gray place) at_it n k member = absurd (cc)
  goes_inside d e (goes.is_white place next try) at_it n k member = absurd (try_unloaded (limits_of b).blocks (s.at n) next try k)
  goes_inside d e (goes.is_none place gray next clear try) at_it n k member = absurd (try_unloaded (limits_of b).blocks (s.at n) next try k)
  goes_inside d e (goes.is_object place set) at_it n k member = absurd (cc)
  goes_inside d e (goes.marked_before place next set try) at_it n k member = absurd (try_unloaded (limits_of b).blocks (s.at n) next try k)
  goes_inside d e (goes.marks place clear) at_it n k member = absurd (cc)
  goes_inside d e (goes.reads_shape place name shape told) at_it n k member = absurd (next_unloaded place shape.refs 0 (s.at n) k)
  goes_inside d e (goes.scans_nil place refs index zero) at_it n k member = absurd (next_unloaded place refs (index + 1) (s.at n) k)
  goes_inside d e (goes.scans place refs index some) at_it n k member = scanned_inside place refs index at_it n member (cc)
  goes_inside d e (goes.finds_young place refs index referent clear) at_it n k member = absurd (next_unloaded place refs (index + 1) (s.at n) k)
  goes_inside d e (goes.finds_object place refs index referent set) at_it n k member = at_it.loaded n k member
  goes_inside d e (goes.grays place refs index referent) at_it n k member = absurd (cc)
  goes_inside d e (goes.is_other place refs index referent other) at_it n k member = absurd (next_unloaded place refs (index + 1) (s.at n) k)
  goes_inside d e (goes.is_chosen place refs index referent chosen) at_it n k member = absurd (cc)
  goes_inside d e (goes.reads_reuse place refs index) at_it n k member = absurd (cc)
  goes_inside d e (goes.is_full place refs index counter full) at_it n k member = absurd (next_unloaded place refs (index + 1) (s.at n) k)
  goes_inside d e (goes.has_room place refs index counter room) at_it n k member = absurd (cc)
  goes_inside d e (goes.enters place refs index counter number) at_it n k member = absurd (next_unloaded place refs (index + 1) (s.at n) k)
  goes_inside d e (goes.finds_nothing) at_it n k member = absurd (cc)

  module _ (i : ℕ) (access : Access) (after : Tracing) (may : MayTrace b s i access after) where
    abbrev about : Tracing
    about = may.steps.about

    abbrev then_tables : Tables
    then_tables = done_to s.tables access

    at_about : IsReady about
    at_about = ready i may.before about may.shows may.steps.attempts

    -- no object is claimed
    dones_stay : then_tables.dones ≡ s.tables.dones
    dones_stay = subst (λ (o : Option Access). (after_access s.tables o).dones ≡ s.tables.dones) may.steps.access_is (access_dones (limits_of b).blocks s.tables about)

    pub trace_inside : StaysInside then_tables now s.at (slice_set s.tracers i after) trace
    trace_inside = record {
      marks = bits_inside s.tables then_tables now s.at trace (marked_by about) (grayed_by about)
          (subst (λ (o : Option Access). SetsBits s.tables (after_access s.tables o) (marked_by about) (grayed_by about)) may.steps.access_is (access_sets (limits_of b).blocks s.tables about))
          (record {
            marked_inside = mark_inside about at_about;
            grayed_inside = gray_inside about at_about;
            dones = λ n member done. inside.marks.dones n member (ap (λ f. f (granule_of (s.at n))) (sym dones_stay) ∙ done);
            undone = λ n g. ap (λ f. f (granule_of (s.at n))) dones_stay ∙ (inside.marks.garbage n g).undone;
          })
          inside.marks;
      loaded = λ j d n shows e member. elim (shown_cases s.tracers i may.before after j d may.shows shows) [
        | inl q ↦ goes_inside about after may.steps.goes at_about n (ap grayed_by (sym q.1) ∙ e) member
        | inr q ↦ inside.loaded j d n q.1 e member
      ];
    }
