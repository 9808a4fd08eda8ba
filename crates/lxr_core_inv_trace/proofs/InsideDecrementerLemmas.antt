-- Decrementers keep marks inside: what they make gray is what a dead object referred to, and what they claim is dead, as garbage isn't.
use Rattle.std.proofs.Common.{◌≡◌, ℕ, refl, sym, ap, subst, ◌∙◌, inl, inr, true, IsTrue}
use Rattle.std.specs.Prelude.{Option, Some, None, slice_get}
use Rattle.std.proofs.lemmas.Bool.{false_from_ne_true}
use Rattle.lxr_layout.specs.declared.Name.{Name}
use Rattle.lxr_graph.specs.Names.{has}
use Rattle.lxr_image.specs.Tables.{Tables}
use Rattle.lxr_image.specs.Reads.{granule_of}
use Rattle.lxr_model.specs.Dead.{Dead}
use Rattle.lxr_model.specs.Moments.{Moment, Trace}
use Rattle.lxr_model.specs.Reachable.{Refers}
use Rattle.lxr_invariant.specs.Counting.{is_done}
use Rattle.lxr_invariant.specs.Tracing.{IsInSnapshot}
use Rattle.lxr_invariant.proofs.EntryLemmas.{changed_cases}
use Rattle.lxr_core_access.specs.declared.Access.{Access}
use Rattle.lxr_core_access.specs.Accesses.{done_to}
use Rattle.lxr_core_access.specs.Decrementers.{Attempts, Decrementing, begins, goes_on, pocket, «list», decrementer_access, Rests, MakesGray}
use Rattle.lxr_core_invariant.specs.EpochStates.{Beginning, EpochState, limits_of, moment_of}
use Rattle.lxr_core_invariant.specs.Counted.{AreCountedIn, KnowsCounts}
use Rattle.lxr_core_invariant.specs.Covered.{made_gray_by}
use Rattle.lxr_core_invariant.specs.Decremented.{MayDecrement, decremented}
use Rattle.lxr_core_invariant.specs.Inside.{StaysInside}
use Rattle.lxr_core_invariant.specs.Epoch.{IsEpoch}
use Rattle.lxr_core_invariant.proofs.PauseLemmas.{dead_stays, one_pause}
use Rattle.lxr_invariant.proofs.InsideLemmas.{garbage_not_dead, inside_unless_garbage, referred_inside}
use Rattle.lxr_core_inv_trace.proofs.InsidePlaceLemmas.{HasSnapshot, begins_there, member_now, member_was, one_name, references_there, snapshot_of, stands_now, still}
use Rattle.lxr_core_inv_trace.proofs.InsideBitLemmas.{IsInsideAt, SetsBits, after_access, bits_inside}

-- a decrementer's access marks nothing, and makes at most one object gray
access_sets : (t : Tables) (d : Decrementing) → SetsBits t (after_access t (decrementer_access d)) None (made_gray_by d)
access_sets t (MakesGray place refs index referent) = record {
  marks = λ k set. inl set;
  stay_marked = λ k set. set;
  grays = λ k set. elim (changed_cases t.grays (granule_of referent) true k) [ inl q ↦ inr (referent, refl, q.0) | inr q ↦ inl (sym q.1 ∙ set) ];
}
access_sets t Rests = record { marks = λ k set. inl set; stay_marked = λ k set. set; grays = λ k set. inl set }
access_sets t _ = record { marks = λ k set. inl set; stay_marked = λ k set. set; grays = λ k set. inl set }

module _ (b : Beginning) (s : EpochState) (is : IsEpoch b s) (trace : Trace) (runs : (moment_of b s).trace ≡ Some trace) (inside : StaysInside s.tables (moment_of b s) s.at s.tracers trace) where
  abbrev now : Moment
  now = moment_of b s

  snapshot : HasSnapshot trace
  snapshot = snapshot_of b s is trace runs

  -- what it makes gray is inside, since a dead object, which is inside, referred to it
  gray_inside : (d : Decrementing) → KnowsCounts (limits_of b).blocks s.tables b.abstract_state.moment b.abstract_state.at d → (p : ℕ) → made_gray_by d ≡ Some p → IsInsideAt now s.at trace p
  gray_inside (MakesGray place refs index referent) knows p e = λ n member there.
      let same : referent ≡ p = cc in
      let done = knows.0.done in
      let held = knows.1 in
      let u : Name = done.name in
      let v : Name = held.held in
      let in_u = member_now b s is u done.member in
      let in_v = member_now b s is v held.member in
      let dead_inside = inside.marks.dones u in_u (ap (λ z. s.tables.dones (granule_of z)) (still b s is u done.member) ∙ done.done) in
      let refers : Refers now.last.graph u v =
      (index, ap (λ rs. slice_get rs index) (sym (references_there b s is place u in_u (done.stands ∙ sym (still b s is u done.member)))) ∙ held.reference) in
      let stands = begins_there b s is referent n (stands_now b s is referent (record { name = v; member = held.member; stands = held.stands })) member (there ∙ ap granule_of (sym same)) in
      let name : n ≡ v = one_name b s is n v member in_v (stands ∙ held.stands ∙ sym (still b s is v held.member)) in
      subst (IsInSnapshot now trace) (sym name) (referred_inside s.tables now s.at trace inside.marks snapshot.names snapshot.reachable u v in_u dead_inside refers in_v)
  gray_inside _ knows p e = absurd (cc)

  -- what it is about to do is what it was about to do, or tries a place or the list
  about_inside : (i : ℕ) (before about : Decrementing) → slice_get s.decrementers i ≡ Some before → Attempts (limits_of b).blocks before about → (p : ℕ) → made_gray_by about ≡ Some p → IsInsideAt now s.at trace p
  about_inside i before about shows (begins d (pocket place some within)) p e = absurd (cc)
  about_inside i before about shows (begins d «list») p e = absurd (cc)
  about_inside i before about shows (goes_on d) p e = gray_inside before (is.counted.knows i before shows) p e

  module _ (i : ℕ) (access : Access) (after : Decrementing) (may : MayDecrement b s i access after) (counted : AreCountedIn b (decremented s i access after)) where
    abbrev then_tables : Tables
    then_tables = done_to s.tables access

    -- what is done then is dead
    done_dead : (n : Name) → IsTrue (has now.unreclaimed n) → IsTrue (is_done then_tables s.at n) → Dead now.last now.unreclaimed now.stuck n
    done_dead n member done =
        let n_was = member_was b s is n member in
        dead_stays b.abstract_state.moment now n (one_pause b s is) (counted.dead n n_was (ap (λ z. then_tables.dones (granule_of z)) (sym (still b s is n n_was)) ∙ done))

    pub decrement_inside : StaysInside then_tables now s.at s.tracers trace
    decrement_inside = record {
      marks = bits_inside s.tables then_tables now s.at trace None (made_gray_by may.steps.about)
          (subst (λ (o : Option Access). SetsBits s.tables (after_access s.tables o) None (made_gray_by may.steps.about)) may.steps.access_is (access_sets s.tables may.steps.about))
          (record {
            marked_inside = λ p e. absurd (cc);
            grayed_inside = about_inside i may.before may.steps.about may.shows may.steps.attempts;
            dones = λ n member done.
                inside_unless_garbage s.tables now s.at trace inside.marks snapshot.names snapshot.reachable n member
                (λ g. garbage_not_dead s.tables now s.at trace inside.marks is.lives n g (done_dead n member done));
            undone = λ n g. false_from_ne_true (is_done then_tables s.at n) (λ done.
                garbage_not_dead s.tables now s.at trace inside.marks is.lives n g (done_dead n (inside.marks.garbage n g).member done));
          })
          inside.marks;
      loaded = inside.loaded;
    }
