-- Counts and pending decrements in an epoch: mutators and tracers change none of them, each step of a decrementer keeps them and is sound, no live
-- object is done, and from the opening to the close they are those of a safepoint.
use Rattle.std.proofs.Common.{◌≡◌, ℕ, ◌+◌, refl, sym, ap, subst, ◌∙◌, inl, inr, arith, IsTrue}
use Rattle.std.specs.Prelude.{⊤, Option, Some, None, slice_get, slice_set}
use Rattle.lxr_layout.specs.declared.Name.{Name}
use Rattle.lxr_layout.specs.declared.TheConstants.{DECREMENT_COUNT, DECREMENT_CURSOR, PAUSE_WORD, REMEMBERED_CURSOR}
use Rattle.lxr_graph.specs.Names.{has}
use Rattle.lxr_graph.proofs.NameSets.{not_both}
use Rattle.lxr_image.specs.Tables.{Tables}
use Rattle.lxr_image.specs.Reads.{granule_of}
use Rattle.lxr_model.specs.Moments.{Moment}
use Rattle.lxr_model_counting.proofs.DeathLemmas.{live_not_dead}
use Rattle.lxr_model_counting.proofs.DistinctLemmas.{tested}
use Rattle.lxr_invariant.specs.Counting.{HasCounts, is_done}
use Rattle.lxr_invariant.proofs.EntryLemmas.{changed_other}
use Rattle.lxr_core_access.specs.declared.Access.{Access}
use Rattle.lxr_core_access.specs.Accesses.{done_to}
use Rattle.lxr_core_access.specs.Decrementers.{Decrementing, ReadsEntry}
use Rattle.lxr_core_access.specs.Tracers.{Tracing, Rests, AsksGray, AsksObject, Marks, ReadsShape, Scans, AsksReferent, GraysReferent, AsksBlock, ReadsReuse, DrawsNumber, Enters, FindsNothing, tracer_access}
use Rattle.lxr_core_invariant.specs.ThreadStates.{ThreadState}
use Rattle.lxr_core_invariant.specs.EpochStates.{Beginning, EpochState, limits_of, moment_of, opening_tables}
use Rattle.lxr_core_invariant.specs.Events.{Event}
use Rattle.lxr_core_invariant.specs.Events as event
use Rattle.lxr_core_invariant.specs.Happening.{happen, with_cursor}
use Rattle.lxr_core_invariant.specs.Counted.{AreCounted, AreCountedIn, KnowsCounts, handled_by}
use Rattle.lxr_core_invariant.specs.Decremented.{DecrementerLeaves, IsSound, MayDecrement, decremented}
use Rattle.lxr_core_invariant.specs.Epoch.{DecrementersRest, IsEpoch}
use Rattle.lxr_core_invariant.specs.Laws.{ClosingCounts, CountsAreKept, DecrementersAreSound, DecrementersKeepCounts, LiveIsUndone, OpeningCounts, TracersKeepCounts}
use Rattle.lxr_core_invariant.proofs.PauseLemmas.{counts_unmoved, dead_stays, decrements_unmoved, one_pause, unmoved}
use Rattle.lxr_core_inv_counts.proofs.HandLemmas.{hands_rest, soon_rest}
use Rattle.lxr_core_inv_counts.proofs.GroundLemmas.{IsGround, ground_of, same_listed}
use Rattle.lxr_core_inv_counts.proofs.TurnLemmas.{AgreesOnCounts, counted_still}
use Rattle.lxr_core_inv_counts.proofs.StepLemmas.{IsAbout, after_access, is_about, step_counted}
use Rattle.lxr_core_inv_counts.proofs.SoundLemmas.{IsSoundWhere, step_sound}

-- ---- mutators

-- tables in which counts, dones and the list of decrements are those of others
quiet : (b : Beginning) (s : EpochState) (u : Tables) → AreCountedIn b s → u.counts ≡ s.tables.counts → u.dones ≡ s.tables.dones → u.decs ≡ s.tables.decs
    → u.cursors DECREMENT_CURSOR ≡ s.tables.cursors DECREMENT_CURSOR → u.cursors DECREMENT_COUNT ≡ s.tables.cursors DECREMENT_COUNT
    → AreCounted (limits_of b).blocks u s.decrementers b.abstract_state.moment b.abstract_state.at
quiet b s u is counts dones decs cursor number =
    counted_still (limits_of b).blocks s.tables u s.decrementers b.abstract_state.moment b.abstract_state.at (record { counts = counts; dones = dones; decs = decs; cursor = cursor; number = number }) is

-- each event of a mutator leaves what counts are made of
event_counted : (b : Beginning) (s : EpochState) (i : ℕ) (v : ThreadState) (e : Event) → AreCountedIn b s → AreCountedIn b (happen b s i v e)
event_counted b s i v (event.PutsValue o place refs index value) is = quiet b s _ is refl refl refl refl refl
event_counted b s i v (event.AddsValue o place refs index value) is = quiet b s _ is refl refl refl refl refl
event_counted b s i v (event.ClearsFirst e n) is = quiet b s _ is refl refl refl refl refl
event_counted b s i v (event.StoresReference o place index value) is = quiet b s _ is refl refl refl refl refl
event_counted b s i v (event.SwapsReference o dest place index value) is = quiet b s _ is refl refl refl refl refl
event_counted b s i v event.DrawsRun is = quiet b s _ is refl refl refl refl refl
event_counted b s i v event.DrawsBlock is = quiet b s _ is refl refl refl refl refl
event_counted b s i v (event.Wipes place shape wiped) is = quiet b s _ is refl refl refl refl refl
event_counted b s i v (event.MakesObject o dest place shape) is = quiet b s _ is refl refl refl refl refl
event_counted b s i v (event.Asks o r) is = quiet b s _ is refl refl refl refl refl
event_counted b s i v (event.Leaves why) is = quiet b s _ is refl refl refl refl refl
event_counted b s i v _ is = is

pub counts_are_kept : CountsAreKept
counts_are_kept b s i v e is shown may = event_counted b s i v e is.counted

-- ---- decrementers

module _ (b : Beginning) (s : EpochState) (i : ℕ) (access : Access) (after : Decrementing) (is : IsEpoch b s) (may : MayDecrement b s i access after) where
  abbrev m : Moment
  m = b.abstract_state.moment

  abbrev at : Name → ℕ
  at = b.abstract_state.at

  ground : IsGround (limits_of b) s.tables m at
  ground = ground_of b s is

  ready : IsAbout (limits_of b).blocks s.tables s.decrementers m at i may.steps.about
  ready = is_about (limits_of b) s.tables s.decrementers m at i may.before may.steps.about ground is.counted may.shows may.steps.attempts

  keeps : AreCountedIn b (decremented s i access after)
  keeps =
      let counted = step_counted (limits_of b) s.tables ready.all m at ground ready.counted i may.steps.about after ready.shows may.steps.goes in
      subst (λ ds. AreCounted (limits_of b).blocks (done_to s.tables access) ds m at) (ready.after after)
      (subst (λ (o : Option Access). AreCounted (limits_of b).blocks (after_access s.tables o) (slice_set ready.all i after) m at) may.steps.access_is counted)

  sound : IsSound b s access × DecrementerLeaves s.tables (done_to s.tables access)
  sound =
      let x = subst (IsSoundWhere (limits_of b) s.tables) may.steps.access_is (step_sound (limits_of b) s.tables ready.all m at ground ready.counted i may.steps.about ready.shows) in
      (record { may = x.may; leaves = x.leaves }, x.decrementer_leaves)

pub decrementers_keep_counts : DecrementersKeepCounts
decrementers_keep_counts b s i access after is may = keeps b s i access after is may

pub decrementers_are_sound : DecrementersAreSound
decrementers_are_sound b s i access after is may = sound b s i access after is may

-- ---- tracers

-- the access of a step, where it has one, leaves what counts are made of
abbrev CountsStayBy : Tables → Option Access → Type 0
CountsStayBy t None = ⊤
CountsStayBy t (Some access) = AgreesOnCounts t (done_to t access)

-- tables of which none changed
counts_stay : (t : Tables) → AgreesOnCounts t t
counts_stay t = record { counts = refl; dones = refl; decs = refl; cursor = refl; number = refl }

-- each step of a tracer
tracer_leaves : (blocks : ℕ) (t : Tables) (d : Tracing) → CountsStayBy t (tracer_access blocks d)
tracer_leaves blocks t Rests = tt
tracer_leaves blocks t (AsksGray place) = counts_stay t
tracer_leaves blocks t (AsksObject place gray) = counts_stay t
tracer_leaves blocks t (Marks place) = record { counts = refl; dones = refl; decs = refl; cursor = refl; number = refl }
tracer_leaves blocks t (ReadsShape place) = counts_stay t
tracer_leaves blocks t (Scans place refs index) = counts_stay t
tracer_leaves blocks t (AsksReferent place refs index referent) = counts_stay t
tracer_leaves blocks t (GraysReferent place refs index referent) = record { counts = refl; dones = refl; decs = refl; cursor = refl; number = refl }
tracer_leaves blocks t (AsksBlock place refs index referent) = counts_stay t
tracer_leaves blocks t (ReadsReuse place refs index) = counts_stay t
tracer_leaves blocks t (DrawsNumber place refs index counter) = record {
  counts = refl;
  dones = refl;
  decs = refl;
  cursor = changed_other t.cursors REMEMBERED_CURSOR (t.cursors REMEMBERED_CURSOR + 1) DECREMENT_CURSOR (λ e. absurd (omega arith));
  number = changed_other t.cursors REMEMBERED_CURSOR (t.cursors REMEMBERED_CURSOR + 1) DECREMENT_COUNT (λ e. absurd (omega arith));
}
tracer_leaves blocks t (Enters place refs index counter number) = record { counts = refl; dones = refl; decs = refl; cursor = refl; number = refl }
tracer_leaves blocks t FindsNothing = counts_stay t

pub tracers_keep_counts : TracersKeepCounts
tracers_keep_counts b s i access after is may =
    counted_still (limits_of b).blocks s.tables (done_to s.tables access) s.decrementers b.abstract_state.moment b.abstract_state.at
    (subst (CountsStayBy s.tables) may.steps.access_is (tracer_leaves (limits_of b).blocks s.tables may.steps.about)) is.counted

-- ---- the opening

pub opening_counts : OpeningCounts
opening_counts b ds begins rest few =
    let t : Tables = with_cursor (opening_tables b) PAUSE_WORD 0 in
    let m : Moment = b.abstract_state.moment in
    let at : Name → ℕ = b.abstract_state.at in
    let counts = begins.between.safepoint.holds.counts in
    let none = begins.between.undecremented.none_done in
    let drawn = begins.between.undecremented.none_drawn in
    record {
      stuck = counts.stuck;
      below = counts.below;
      exact = λ n h k. let a = counts.exact n h k in let c = hands_rest t m at ds n rest in omega (arith, a, c);
      done = counts.done;
      dead = λ n h k. not_both (is_done (opening_tables b) at n) k (none (granule_of (at n)));
      one_handler = λ i j d e place at_i at_j by_d by_e. absurd (let r = ap handled_by (rest i d at_i) in let nobody : None ≡ Some place = sym r ∙ by_d in cc);
      drew = λ i number there. absurd (rests_drew i number there);
      one_drawer = λ i j number at_i at_j. absurd (rests_drew i number at_i);
      knows = λ i d there. subst (KnowsCounts (limits_of b).blocks t m at) (sym (rest i d there)) tt;
      few = few;
      drawn = let a = soon_rest (t.cursors DECREMENT_COUNT) ds rest in omega (arith, a, drawn);
    }
  where
    -- none of them has drawn
    rests_drew : (i number : ℕ) → slice_get ds i ≡ Some (ReadsEntry number) → ⊥
    rests_drew i number there = let none = rest i (ReadsEntry number) there in cc

-- ---- no live object is done

pub live_is_undone : LiveIsUndone
live_is_undone b s n is live member =
    let one = one_pause b s is in
    let was : IsTrue (has b.abstract_state.moment.unreclaimed n) = subst (λ us. IsTrue (has us n)) one.unreclaimed member in
    elim (tested (is_done s.tables s.at n)) [
      | inl k ↦
          let d = is.counted.dead n was (ap (λ p. s.tables.dones (granule_of p)) (sym (unmoved b s is n was)) ∙ k) in
          let d_now = dead_stays b.abstract_state.moment (moment_of b s) n one d in
          absurd (live_not_dead (moment_of b s) is.lives n live d_now)
      | inr k ↦ k
    ]

-- ---- the close

-- with nothing in hand, counts are those of a safepoint
counts_at_rest : (b : Beginning) (s : EpochState) → IsEpoch b s → DecrementersRest s → HasCounts s.tables b.abstract_state.moment b.abstract_state.at
counts_at_rest b s is rest =
    let counted = is.counted in
    record {
      stuck = counted.stuck;
      below = counted.below;
      exact = λ n h k.
          let a = counted.exact n h k in
          let c = hands_rest s.tables b.abstract_state.moment b.abstract_state.at s.decrementers n rest in
          omega (arith, a, c);
      held = λ n h k none.
          let e = same_listed b s is (b.abstract_state.at n) in
          is.begins.between.safepoint.holds.counts.held n h k (omega (arith, e, none));
      done = counted.done;
      dead = counted.dead;
    }

pub closing_counts : ClosingCounts
closing_counts b s is rest =
    let one = one_pause b s is in
    record {
      counts = counts_unmoved s.tables b.abstract_state.moment (moment_of b s) b.abstract_state.at s.at one (unmoved b s is) (counts_at_rest b s is rest);
      decrements = decrements_unmoved (limits_of b) s.tables b.abstract_state.moment (moment_of b s) b.abstract_state.at s.at one (unmoved b s is) (ground_of b s is).decrements;
    }
