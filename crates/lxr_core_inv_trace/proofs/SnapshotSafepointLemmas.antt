-- The snapshot is covered in an epoch as it is at a safepoint: as the epoch opens, when no log has an entry yet, and where all actors are
-- between two units, when nothing is in hand.
use Rattle.std.proofs.Common.{◌≡◌, ℕ, refl, sym, ap, subst, ◌∙◌, inl, inr, arith, List, [], length, map}
use Rattle.std.specs.Prelude.{Option, Some, None, slice_get}
use Rattle.std.proofs.lemmas.List.Sorted.{length_permutation}
use Rattle.std.proofs.lemmas.Option.{slice_get_within}
use Rattle.lxr_layout.specs.declared.LogEntry.{LogEntry}
use Rattle.lxr_layout.specs.declared.Name.{Name}
use Rattle.lxr_layout.specs.declared.TheConstants.{PAUSE_WORD}
use Rattle.lxr_graph.specs.State.{object_at, refs_of}
use Rattle.lxr_graph.proofs.NameSets.{not_both}
use Rattle.lxr_image.specs.Tables.{Tables}
use Rattle.lxr_image.specs.Reads.{granule_of}
use Rattle.lxr_image.specs.Spaces.{tables_of}
use Rattle.lxr_model.specs.Moments.{Moment, Trace, moment}
use Rattle.lxr_model_counting.specs.Distinct.{has_field}
use Rattle.lxr_invariant.specs.Counting.{is_done}
use Rattle.lxr_invariant.specs.Standing.{entry_of, word_of_field}
use Rattle.lxr_invariant.specs.Tracing.{IsCovered, IsOldValue, IsToBeScanned, IsTracedBy, TraceHolds}
use Rattle.lxr_core_access.specs.Decrementers.{Decrementing, MakesGray}
use Rattle.lxr_core_access.specs.Tracers.{Tracing}
use Rattle.lxr_core_invariant.specs.EpochStates.{Beginning, EpochState, IsBeginning, limits_of, moment_of, opening_tables}
use Rattle.lxr_core_invariant.specs.Logged.{logs_of}
use Rattle.lxr_core_invariant.specs.Happening.{with_cursor}
use Rattle.lxr_core_invariant.specs.Covered.{IsCoveredBy, IsCoveredByIn, IsCoveredIn, IsCoveredWhile, IsHandledLater, IsInHand, IsScannedLater, SeesTrace, WaitsIn, grayed_by, handles_from, made_gray_by, scans_from}
use Rattle.lxr_core_invariant.specs.Laws.{AllRest, ClosingCover, OpeningCover}

-- ---- the opening

module _ (b : Beginning) (begins : IsBeginning b) (entries : List LogEntry) (ds : List Decrementing) (ts : List Tracing) where
  abbrev m : Moment
  m = b.abstract_state.moment

  abbrev at : Name → ℕ
  at = b.abstract_state.at

  abbrev t : Tables
  t = with_cursor (opening_tables b) PAUSE_WORD 0

  unwritten : m.written ≡ []
  unwritten = begins.between.unwritten

  -- nothing was stored to, so nothing is logged
  none_logged : (p : ℕ) → IsOldValue b.space.logged.items p → ⊥
  none_logged p (k, entry, there, old) =
      let few = length_permutation (map (entry_of m at) m.written) b.space.logged.items begins.between.safepoint.holds.logs in
      let none = ap (λ ws. length (map (entry_of m at) ws)) unwritten in
      let within = slice_get_within b.space.logged.items k entry there in
      omega (arith, few, none, within)

  covered_then : (n : Name) → IsCovered (tables_of b.space) m at b.space.logged.items n → IsCoveredIn t m at entries ds ts n
  covered_then n (inl reclaimed) = inl reclaimed
  covered_then n (inr (inl gray)) = inr (gray.0, inl gray.1)
  covered_then n (inr (inr (inl marked))) = inr (marked.0, inr (inl marked.1))
  covered_then n (inr (inr (inr old))) = absurd (none_logged (at n) old.1)

  waits_then : (u v : Name) (i : ℕ) → IsToBeScanned (tables_of b.space) m at u i v → WaitsIn t m at ds ts u i v
  waits_then u v i waits = record {
    member = waits.member;
    unscanned = inl waits.unmarked;
    unhandled = inl waits.undone;
    unlogged = (begins.between.safepoint.holds.bits.unlogged (word_of_field at u i)).1 (
      u,
      i,
      record {
        member = waits.member;
        index = slice_get_within (refs_of (object_at m.state.graph u)) i (Some v) waits.holds;
        unwritten = ap (λ ws. has_field ws (u, i)) unwritten;
        word = refl;
      },
    );
    holds = waits.holds;
  }

  pub covered_as_it_opens : ((k : ℕ) (d : Decrementing) → slice_get ds k ≡ Some d → SeesTrace d) → (trace : Trace) → TraceHolds (limits_of b) (tables_of b.space) b.space.logged.items b.abstract_state trace
      → IsCoveredBy t m at entries ds ts trace
  covered_as_it_opens seen trace is = record {
    world = covered_then _ is.covered.world;
    registers = λ n holds. covered_then n (is.covered.registers n holds);
    references = λ u v i reached held. elim (is.covered.references u v i reached held) [ inl covered ↦ inl (covered_then v covered) | inr waits ↦ inr (waits_then u v i waits) ];
    handled = λ u v i h done held. not_both (is_done t at u) done (begins.between.undecremented.none_done (granule_of (at u)));
    seen = seen;
  }

pub opening_cover : OpeningCover
opening_cover b s opens = subst (IsCoveredWhile b s) (ap (λ (z : Moment). z.trace) same) (by b.abstract_state.moment.trace opens.begins.between.safepoint.traced)
  where
    -- the moment is that of the beginning
    same : b.abstract_state.moment ≡ moment_of b s
    same = opens.begins.moment ∙ ap (moment (limits_of b).threads) (sym opens.history)

    seen : (k : ℕ) (d : Decrementing) → slice_get s.decrementers k ≡ Some d → SeesTrace d
    seen k d there = subst SeesTrace (sym (opens.decrementers k d there)) tt

    covered : (trace : Trace) → TraceHolds (limits_of b) (tables_of b.space) b.space.logged.items b.abstract_state trace → IsCoveredByIn b s trace
    covered trace is =
        let entries = logs_of s.thread_states in
        let opened = covered_as_it_opens b opens.begins entries s.decrementers s.tracers seen trace is in
        subst (λ (m : Moment). IsCoveredBy s.tables m s.at entries s.decrementers s.tracers trace) same
        (subst (λ (at : Name → ℕ). IsCoveredBy s.tables b.abstract_state.moment at entries s.decrementers s.tracers trace) (sym opens.at)
        (subst (λ (t : Tables). IsCoveredBy t b.abstract_state.moment b.abstract_state.at entries s.decrementers s.tracers trace) (sym opens.tables) opened))

    by : (o : Option Trace) → IsTracedBy (limits_of b) (tables_of b.space) b.space.logged.items b.abstract_state o → IsCoveredWhile b s o
    by None is = tt
    by (Some trace) is = covered trace is

-- ---- the close

module _ (b : Beginning) (s : EpochState) (rest : AllRest s) where
  abbrev now : Moment
  now = moment_of b s

  -- nothing is at an object, and nothing is in hand
  none_scans : (place i : ℕ) → IsScannedLater s.tracers place i → ⊥
  none_scans place i later = let none : ◌≡◌ {A = Option (ℕ × ℕ)} None (Some (place, later.first)) = sym (ap scans_from (rest.tracers later.number later.tracer later.shows)) ∙ later.from in cc

  none_handles : (place i : ℕ) → IsHandledLater s.decrementers place i → ⊥
  none_handles place i later = let none : ◌≡◌ {A = Option (ℕ × ℕ)} None (Some (place, later.first)) = sym (ap handles_from (rest.decrementers later.number later.decrementer later.shows)) ∙ later.from in cc

  none_in_hand : (place : ℕ) → IsInHand s.decrementers s.tracers place → ⊥
  none_in_hand place (inl (k, d, there, makes)) = let none : None ≡ Some place = sym (ap made_gray_by (rest.decrementers k d there)) ∙ makes in cc
  none_in_hand place (inr (k, d, there, grays)) = let none : None ≡ Some place = sym (ap grayed_by (rest.tracers k d there)) ∙ grays in cc

  none_makes : (place refs i referent k : ℕ) → slice_get s.decrementers k ≡ Some (MakesGray place refs i referent) → ⊥
  none_makes place refs i referent k there = let none : None ≡ Some referent = sym (ap made_gray_by (rest.decrementers k (MakesGray place refs i referent) there)) in cc

  covered_now : (n : Name) → IsCoveredIn s.tables now s.at (logs_of s.thread_states) s.decrementers s.tracers n → IsCovered s.tables now s.at (logs_of s.thread_states) n
  covered_now n (inl reclaimed) = inl reclaimed
  covered_now n (inr (h, inl gray)) = inr (inl (h, gray))
  covered_now n (inr (h, inr (inl marked))) = inr (inr (inl (h, marked)))
  covered_now n (inr (h, inr (inr (inl old)))) = inr (inr (inr (h, old)))
  covered_now n (inr (h, inr (inr (inr hand)))) = absurd (none_in_hand (s.at n) hand)

  waits_now : (u v : Name) (i : ℕ) → WaitsIn s.tables now s.at s.decrementers s.tracers u i v → IsToBeScanned s.tables now s.at u i v
  waits_now u v i waits = record {
    member = waits.member;
    unmarked = elim waits.unscanned [ inl clear ↦ clear | inr later ↦ absurd (none_scans (s.at u) i later) ];
    undone = elim waits.unhandled [ inl clear ↦ clear | inr later ↦ absurd (none_handles (s.at u) i later) ];
    holds = waits.holds;
  }

pub closing_cover : ClosingCover
closing_cover b s trace is rest runs =
    let covered : IsCoveredByIn b s trace = subst (IsCoveredWhile b s) runs is.covered in
    record {
      covered = record {
        world = covered_now b s rest _ covered.world;
        registers = λ n holds. covered_now b s rest n (covered.registers n holds);
        references = λ u v i reached held. elim (covered.references u v i reached held) [ inl found ↦ inl (covered_now b s rest v found) | inr waits ↦ inr (waits_now b s rest u v i waits) ];
      };
      handled = λ u v h done (i, held). elim (covered.handled u v i h done held) [
        | inl gray ↦ gray
        | inr q ↦ absurd (elim q [ inl later ↦ none_handles b s rest (s.at u) i later | inr (k, refs, there) ↦ none_makes b s rest (s.at u) refs i (s.at v) k there ])
      ];
    }
