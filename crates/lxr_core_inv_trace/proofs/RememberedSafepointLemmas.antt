-- As an epoch opens, what is remembered between epochs gives what is remembered in it, and where all rest the other way round.
use Rattle.std.proofs.Common.{◌≡◌, ℕ, ◌+◌, ◌/◌, ◌≤◌, refl, sym, ap, subst, ◌∙◌, inl, inr, ◌⊎◌, arith, true, false, List, IsTrue, []}
use Rattle.std.specs.Prelude.{◌&&◌, not, Option, Some, None, slice_get}
use Rattle.std.proofs.lemmas.Bool.{and_parts}
use Rattle.std.proofs.lemmas.Option.{slice_get_within}
use Rattle.lxr_layout.specs.declared.limits.Limits.{Limits}
use Rattle.lxr_layout.specs.declared.Name.{Name}
use Rattle.lxr_layout.specs.declared.TheConstants.{GRANULES_IN_BLOCK, PAUSE_WORD, REMEMBERED_CURSOR, WORDS_IN_LINE}
use Rattle.lxr_layout.specs.Places.{field_word}
use Rattle.lxr_layout.specs.Runs.{word_of_entry}
use Rattle.lxr_graph.specs.Names.{IsSetOf, has}
use Rattle.lxr_graph.specs.State.{object_at, refs_of}
use Rattle.lxr_graph.proofs.NameSets.{one_set}
use Rattle.lxr_image.specs.Tables.{Tables}
use Rattle.lxr_image.specs.Reads.{granule_of}
use Rattle.lxr_blocks.specs.States.{state_in}
use Rattle.lxr_model.specs.Moments.{Moment, Trace, rememberable}
use Rattle.lxr_model.specs.Reachable.{Reachable}
use Rattle.lxr_model_counting.specs.Distinct.{has_field}
use Rattle.lxr_invariant.specs.AbstractState.{AbstractState}
use Rattle.lxr_invariant.specs.Standing.{HasBits, word_of_field}
use Rattle.lxr_invariant.specs.Tracing.{HasOverflowed, IsInChosen, IsRemembered, IsRememberedSoFar, IsScanned, IsTracedBy, is_unscanned, unscanned_slots}
use Rattle.lxr_invariant.proofs.EntryLemmas.{changed_other}
use Rattle.lxr_invariant.proofs.ScanLemmas.{fewer_slots, slots}
use Rattle.lxr_core_access.specs.Tracers.{Tracing, Rests}
use Rattle.lxr_core_invariant.specs.EpochStates.{Beginning, EpochState, IsBeginning, limits_of, moment_of, opening_tables}
use Rattle.lxr_core_invariant.specs.Happening.{with_cursor}
use Rattle.lxr_core_invariant.specs.Remembered.{AreRemembered, AreRememberedWhile, HasEntry, IsBeingEntered, IsRememberedLater, IsRemembering, KnowsFields, StillHolds, entered_by, remembers_from, undrawn}
use Rattle.lxr_core_invariant.specs.Epoch.{IsEpoch, TracersRest}
use Rattle.lxr_core_invariant.specs.Laws.{AllRest, ClosingRemembered, OpeningRemembered}
use Rattle.lxr_core_inv_trace.proofs.RememberedGroundLemmas.{member_was, pause, still, unlogged_tells}
use Rattle.lxr_core_inv_trace.proofs.RememberedSlotLemmas.{undrawn_rest}
use Rattle.lxr_core_inv_trace.proofs.RememberedTurnLemmas.{KeepsRemembered, remembered_still}

-- all tracers are between two units
abbrev AllTracersRest : List Tracing → Type 0
AllTracersRest ts = (i : ℕ) (d : Tracing) → slice_get ts i ≡ Some d → d ≡ Rests

-- then none is about to write an entry, and none is ahead of a reference
none_enters : (ts : List Tracing) (k : ℕ) → AllTracersRest ts → ¬ IsBeingEntered ts k
none_enters ts k rest (j, d, shows, by) = let none : None ≡ Some k = sym (ap entered_by (rest j d shows)) ∙ by in cc

none_later : (ts : List Tracing) (place i : ℕ) → AllTracersRest ts → ¬ IsRememberedLater ts place i
none_later ts place i rest later = let none : ◌≡◌ {A = Option (ℕ × ℕ)} None (Some (place, later.first)) = sym (ap remembers_from (rest later.number later.tracer later.shows)) ∙ later.from in cc

-- ---- the opening

module _ (l : Limits) (t : Tables) (ts : List Tracing) (g : AbstractState) (trace : Trace) (rest : AllTracersRest ts) where
  abbrev m : Moment
  m = g.moment

  entry_there : (n : Name) (i : ℕ) → IsRemembered l t g.at n i → HasEntry l t ts g.at n i
  entry_there n i (k, drawn, within, word) = record { number = k; drawn = drawn; within = within; written = none_enters ts k rest; word = word }

  -- nothing was stored to, so that each reference holds what it held at the last pause
  remembered_there : (snapshot : List Name) → IsSetOf snapshot (Reachable trace.state) → m.written ≡ []
      → ((n : Name) (i : ℕ) → IsTrue (has m.unreclaimed n) → has_field m.written (n, i) ≡ false → slice_get (refs_of (object_at m.state.graph n)) i ≡ slice_get (refs_of (object_at m.last.graph n)) i)
      → IsRememberedSoFar l t m g.at trace snapshot → AreRemembered l t ts m g.at trace
  remembered_there snapshot names unwritten same is = record {
    fields = λ n v i scan holds chosen.
        elim (is.fields n v i holds.member scan (same n i holds.member (ap (λ ws. has_field ws (n, i)) unwritten) ∙ holds.held) holds.unlogged chosen) [
          | inl entry ↦ inl (entry_there n i entry)
          | inr over ↦ inr (inl over)
        ];
    entries = λ k below within free. is.entries k below within;
    knows = λ j d shows. subst (KnowsFields l t m g.at) (sym (rest j d shows)) tt;
    one_number = λ i j d e k at_i at_j by_d by_e. absurd (none_enters ts k rest (i, d, at_i, by_d));
    bound = λ other others.
        let alike = one_set others names in
        let ahead = undrawn_rest m g.at ts rest in
        let bound = is.bound in
        subst (λ ns. t.cursors REMEMBERED_CURSOR + unscanned_slots t m g.at ns + undrawn m g.at ts ≤ rememberable trace ns) (sym alike) (omega (arith, ahead, bound));
  }

-- the pause word is cleared, and nothing else
opened_keeps : (t : Tables) → KeepsRemembered t (with_cursor t PAUSE_WORD 0)
opened_keeps t =
    let same = changed_other t.cursors PAUSE_WORD 0 REMEMBERED_CURSOR (λ e. absurd (omega (arith, e))) in
    record { keeps = record { unlogged = λ w k. k; reuse = refl; states = refl; drawn = omega (arith, same) }; marks = refl; remembered = refl; drawn = same }

opened_while : (b : Beginning) (s : EpochState) (o : Option Trace) → IsBeginning b → s.tables ≡ with_cursor (opening_tables b) PAUSE_WORD 0 → TracersRest s
    → IsTracedBy (limits_of b) (opening_tables b) b.space.logged.items b.abstract_state o → AreRememberedWhile b s o
opened_while b s None begins tables rest holds = tt
opened_while b s (Some trace) begins tables rest holds =
    let m : Moment = b.abstract_state.moment in
    let t : Tables = opening_tables b in
    let remembered = remembered_there (limits_of b) t s.tracers b.abstract_state trace rest holds.snapshot holds.reachable begins.between.unwritten begins.between.safepoint.holds.follows.unwritten holds.remembered in
    subst (λ (u : Tables). AreRemembered (limits_of b) u s.tracers m b.abstract_state.at trace) (sym tables)
    (remembered_still (limits_of b) t (with_cursor t PAUSE_WORD 0) s.tracers m b.abstract_state.at trace (opened_keeps t) remembered)

pub opening_remembered : OpeningRemembered
opening_remembered b s opens = record {
  few_pauses = opens.few_pauses;
  traced = opened_while b s b.abstract_state.moment.trace opens.begins opens.tables opens.tracers opens.begins.between.safepoint.traced;
  idle = λ unchosen. record {
    none = λ j d shows k. subst IsRemembering (opens.tracers j d shows) k;
    drawn = ap (λ (z : Tables). z.cursors REMEMBERED_CURSOR) opens.tables ∙ (opened_keeps (opening_tables b)).drawn;
  };
}

-- ---- the close

module _ (b : Beginning) (s : EpochState) (is : IsEpoch b s) (rest : AllRest s) (bits : HasBits s.tables (moment_of b s) s.at (moment_of b s).unreclaimed) where
  abbrev was : Moment
  was = b.abstract_state.moment

  abbrev now : Moment
  now = moment_of b s

  abbrev stood : Name → ℕ
  stood = b.abstract_state.at

  place : (n : Name) → IsTrue (has now.unreclaimed n) → s.at n ≡ stood n
  place n h = still b s is n (member_was b s is n h)

  -- a reference whose unlogged bit is set holds what it held at the last pause
  still_holds : (n v : Name) (i : ℕ) → IsTrue (has now.unreclaimed n) → slice_get (refs_of (object_at now.state.graph n)) i ≡ Some (Some v) → IsTrue (s.tables.unlogged (word_of_field s.at n i))
      → StillHolds s.tables was stood n i v
  still_holds n v i member holds set =
      let within = slice_get_within (refs_of (object_at now.state.graph n)) i (Some v) holds in
      let unwritten : has_field now.written (n, i) ≡ false = unlogged_tells b s is now.written n i bits member within set in
      record {
        member = member_was b s is n member;
        held = ap (λ z. slice_get (refs_of (object_at z.graph n)) i) (sym (pause b s is).last) ∙ sym (is.lives.unwritten n i member unwritten) ∙ holds;
        unlogged = ap (λ p. s.tables.unlogged (field_word p i)) (sym (place n member)) ∙ set;
      }

  scanned_then : (trace : Trace) (n : Name) → IsTrue (has now.unreclaimed n) → IsScanned s.tables s.at trace n → IsScanned s.tables stood trace n
  scanned_then trace n member (inl marked) = inl (ap (λ p. s.tables.marks (granule_of p)) (sym (place n member)) ∙ marked)
  scanned_then trace n member (inr promoted) = inr promoted

  -- what a reference held at the last pause stands where it stood
  chosen_then : (n v : Name) (i : ℕ) → StillHolds s.tables was stood n i v → IsInChosen s.tables s.at v → IsInChosen s.tables stood v
  chosen_then n v i holds chosen =
      let in_v = is.begins.between.safepoint.holds.follows.closed n v holds.member (i, holds.held) in
      ap (λ p. state_in s.tables (granule_of p / GRANULES_IN_BLOCK)) (sym (still b s is v in_v)) ∙ chosen

  entry_now : (n : Name) (i : ℕ) → IsTrue (has now.unreclaimed n) → HasEntry (limits_of b) s.tables s.tracers stood n i → IsRemembered (limits_of b) s.tables s.at n i
  entry_now n i member entry = (
    entry.number,
    entry.drawn,
    entry.within,
    entry.word ∙ ap (λ p. word_of_entry (limits_of b).blocks (s.tables.reuse (field_word p i / WORDS_IN_LINE)) (record { 0 = p }) i) (sym (place n member)),
  )

  -- what is still to be scanned was so, at the places of the last pause
  still_unscanned : (n : Name) → is_unscanned s.tables now s.at n ≡ true → is_unscanned s.tables was stood n ≡ true
  still_unscanned n e =
      let member : IsTrue (has now.unreclaimed n) = (and_parts (has now.unreclaimed n) (not (s.tables.marks (granule_of (s.at n)))) e).0 in
      ap (λ us. has us n && not (s.tables.marks (granule_of (stood n)))) (sym (pause b s is).unreclaimed) ∙ ap (λ p. has now.unreclaimed n && not (s.tables.marks (granule_of p))) (sym (place n member)) ∙ e

  module _ (trace : Trace) (snapshot : List Name) (names : IsSetOf snapshot (Reachable trace.state)) (remembered : AreRemembered (limits_of b) s.tables s.tracers was stood trace) where
    fields_now : (n v : Name) (i : ℕ) → IsTrue (has now.unreclaimed n) → IsScanned s.tables s.at trace n → slice_get (refs_of (object_at now.state.graph n)) i ≡ Some (Some v)
        → IsTrue (s.tables.unlogged (word_of_field s.at n i)) → IsInChosen s.tables s.at v → IsRemembered (limits_of b) s.tables s.at n i ⊎ HasOverflowed (limits_of b) s.tables
    fields_now n v i member scan holds set chosen =
        let held = still_holds n v i member holds set in
        elim (remembered.fields n v i (scanned_then trace n member scan) held (chosen_then n v i held chosen)) [
          | inl entry ↦ inl (entry_now n i member entry)
          | inr (inl over) ↦ inr over
          | inr (inr later) ↦ absurd (none_later s.tracers (stood n) i rest.tracers later)
        ]

    -- the sum is that of the last pause
    bound_now : s.tables.cursors REMEMBERED_CURSOR + unscanned_slots s.tables now s.at snapshot ≤ rememberable trace snapshot
    bound_now =
        let bound = remembered.bound snapshot names in
        let fewer = fewer_slots was.last.graph now.last.graph (is_unscanned s.tables was stood) (is_unscanned s.tables now s.at) snapshot (λ n e. (still_unscanned n e, ap (λ z. slots z.graph n) (pause b s is).last)) in
        omega (arith, bound, fewer)

    remembered_now : IsRememberedSoFar (limits_of b) s.tables now s.at trace snapshot
    remembered_now = record {
      fields = fields_now;
      entries = λ k below within. remembered.entries k below within (none_enters s.tracers k rest.tracers);
      bound = bound_now;
    }

pub closing_remembered : ClosingRemembered
closing_remembered b s trace snapshot is rest bits runs names =
    let remembered : AreRememberedWhile b s (Some trace) = subst (AreRememberedWhile b s) (sym (pause b s is).trace ∙ runs) is.remembered.traced in
    remembered_now b s is rest bits trace snapshot names remembered
