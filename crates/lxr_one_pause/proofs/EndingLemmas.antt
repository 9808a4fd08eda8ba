-- The steps of a pause that ends a trace, one after another: each finds what it asks for. Once what isn't marked is swept, all that is left is
-- marked, so each reference of it that leads into a Chosen block is remembered, and evacuation finds it.
use Rattle.std.proofs.Common.{◌≡◌, ℕ, ◌^◌, ◌<◌, sym, ap, subst, ◌∙◌, inl, inr, false, List, IsTrue}
use Rattle.std.specs.Prelude.{None}
use Rattle.lxr_layout.specs.declared.Name.{Name}
use Rattle.lxr_graph.specs.Names.{has, without}
use Rattle.lxr_graph.proofs.NameSets.{not_both, without_parts}
use Rattle.lxr_image.specs.declared.space.Space.{Space}
use Rattle.lxr_image.specs.declared.space.Tally.{Tally}
use Rattle.lxr_image.specs.Spaces.{IsSpace, Turns, tables_of}
use Rattle.lxr_image.specs.Reads.{granule_of}
use Rattle.lxr_model.specs.Moments.{Moment}
use Rattle.lxr_model_counting.proofs.DistinctLemmas.{tested}
use Rattle.lxr_invariant.specs.AbstractState.{AbstractState}
use Rattle.lxr_invariant.specs.Tracing.{IsMarked}
use Rattle.lxr_remset.specs.Remembering.{RemembersChosen}
use Rattle.lxr_evac_blocks.specs.Releasing.{with_releases}
use Rattle.lxr_evac_moving.specs.declared.evacuating.Evacuated.{Evacuated}
use Rattle.lxr_evac_moving.specs.Evacuation.{CanEvacuate, EvacuatesChosen, evacuated_of}
use Rattle.lxr_pause_decrements.specs.Finishing.{CanFinish, Finishes}
use Rattle.lxr_pause_trace.specs.Tracing.{CanFinishTrace, FinishesTrace}
use Rattle.lxr_sweep_unmarked.specs.Sweeping.{CanSweep, SweepsUnmarked, swept_moment}
use Rattle.lxr_one_pause.specs.Pausing.{SameRemembered}
use Rattle.lxr_one_pause.specs.Steps.{with_evacuated}
use Rattle.lxr_one_pause.specs.Tracing.{CanEnd, Ends, SetsTrace, drained}
use Rattle.lxr_one_pause.proofs.BlocksLemmas.{chosen_alike}
use Rattle.lxr_one_pause.proofs.RememberedLemmas.{entries_still, remembered_still, same_kept}
use Rattle.lxr_one_pause.proofs.TracingLemmas.{can_finish, can_finish_trace, can_sweep_ended, end_remembered}

module _ (s : Space) (g : AbstractState) (can : CanEnd s g) (found : Space) (finishes : (m : Moment) (at : Name → ℕ) → CanFinish s m at → (gone : List Name) × Finishes s found m at gone) where
  abbrev gone : List Name
  gone = (finishes g.moment g.at (can_finish s g can.drains)).0

  finish : Finishes s found g.moment g.at gone
  finish = (finishes g.moment g.at (can_finish s g can.drains)).1

  -- the moment once the dead are gone
  abbrev pub left : Moment
  left = drained g gone

  pub may_finish_trace : CanFinishTrace found left g.at
  may_finish_trace = can_finish_trace s g can.drains found gone finish

  module _ (traced : Space) (traces : (m : Moment) (at : Name → ℕ) → CanFinishTrace found m at → FinishesTrace found traced m at) where
    trace : FinishesTrace found traced left g.at
    trace = traces left g.at may_finish_trace

    pub may_sweep : CanSweep traced left g.at
    may_sweep = can_sweep_ended s g can found gone finish traced trace

    module _ (cleared : Space) (sweeps : (m : Moment) (at : Name → ℕ) → CanSweep traced m at → (swept : List Name) × (third : List Name) × SweepsUnmarked traced cleared m at swept third) where
      abbrev swept : List Name
      swept = (sweeps left g.at may_sweep).0

      abbrev third : List Name
      third = (sweeps left g.at may_sweep).1

      sweep : SweepsUnmarked traced cleared left g.at swept third
      sweep = (sweeps left g.at may_sweep).2

      -- the moment once what isn't marked is swept
      abbrev pub last : Moment
      last = swept_moment left swept third

      was_left : (n : Name) → IsTrue (has last.unreclaimed n) → IsTrue (has left.unreclaimed n) × (has swept n ≡ false)
      was_left n h = without_parts left.unreclaimed swept n (without_parts (without left.unreclaimed swept) third n h).0

      was_marked : (n : Name) → IsTrue (has last.unreclaimed n) → IsMarked (tables_of traced) g.at n
      was_marked n h = elim (tested ((tables_of traced).marks (granule_of (g.at n)))) [
        | inl marked ↦ marked
        | inr unmarked ↦ not_both (has swept n) ((sweep.swept_are n).1 ((was_left n h).0, unmarked)) (was_left n h).1
      ]

      same_set : SameRemembered (tables_of traced) (tables_of cleared)
      same_set = same_kept (tables_of traced) (tables_of cleared) sweep.keeps

      same_limits : cleared.limits ≡ found.limits
      same_limits = ap (λ (x : Space). x.limits) sweep.space ∙ ap (λ (x : Space). x.limits) trace.space

      remembers : RemembersChosen found.limits (tables_of cleared) last g.at
      remembers =
          let marked = end_remembered s g can found gone finish traced trace in
          record {
            fields = λ n v i member holds chosen. remembered_still found.limits (tables_of traced) (tables_of cleared) same_set g.at n i sweep.keeps.reuse
                (marked.fields n v i (was_left n member).0 (was_marked n member) holds (chosen_alike (tables_of traced) (tables_of cleared) _ sweep.states chosen));
            entries = entries_still found.limits (tables_of traced) (tables_of cleared) same_set marked.entries;
          }

      pub may_evacuate : CanEvacuate cleared last g.at
      may_evacuate = record {
        holds = sweep.holds;
        settled = record { same = can.drains.settled.same; none_made = can.drains.settled.none_made; none_written = can.drains.settled.none_written };
        undecremented = sweep.undecremented;
        empty = sweep.empty;
        remembers = subst (λ l. RemembersChosen l (tables_of cleared) last g.at) (sym same_limits) remembers;
      }

      module _ (evacuated : Space) (answer : Evacuated) (evacuates : (m : Moment) (at : Name → ℕ) → CanEvacuate cleared m at
          → (at' : Name → ℕ) × (moved : List Name) × (kept : List Name) × EvacuatesChosen cleared evacuated m at at' moved kept × (answer ≡ evacuated_of moved kept)) where
        abbrev at' : Name → ℕ
        at' = (evacuates last g.at may_evacuate).0

        abbrev moved : List Name
        moved = (evacuates last g.at may_evacuate).1

        abbrev kept : List Name
        kept = (evacuates last g.at may_evacuate).2

        evacuation : EvacuatesChosen cleared evacuated last g.at at' moved kept
        evacuation = (evacuates last g.at may_evacuate).3

        same_tally : evacuated.tally ≡ s.tally
        same_tally = ap (λ (x : Space). x.tally) evacuation.space ∙ ap (λ (x : Space). x.tally) sweep.space ∙ ap (λ (x : Space). x.tally) trace.space ∙ ap (λ (x : Space). x.tally) finish.space

        -- what is moved and kept can be counted
        pub few_moved : evacuated.tally.moved < 2 ^ 63
        few_moved = subst (λ (t : Tally). t.moved < 2 ^ 63) (sym same_tally) can.counted.0

        pub few_kept : evacuated.tally.kept < 2 ^ 63
        few_kept = subst (λ (t : Tally). t.kept < 2 ^ 63) (sym same_tally) can.counted.1

        module _ (tallied : Space) (counts : tallied ≡ with_evacuated evacuated answer) where
          pub space_tallied : IsSpace tallied
          space_tallied = subst IsSpace (sym counts) (record { limits = evacuation.holds.space.limits; size = evacuation.holds.space.size })

          module _ (released x : Space) (releases : Turns tallied released (with_releases (tables_of tallied) tallied.limits.blocks)) (sets : SetsTrace released x None) where
            tallied_is : tallied ≡ with_evacuated evacuated (evacuated_of moved kept)
            tallied_is = counts ∙ ap (with_evacuated evacuated) (evacuates last g.at may_evacuate).4

            pub ends : Ends s x g
            ends = record {
              gone = gone;
              swept = swept;
              third = third;
              at' = at';
              moved = moved;
              kept = kept;
              found = found;
              traced = traced;
              cleared = cleared;
              evacuated = evacuated;
              released = released;
              finishes = finish;
              traces = trace;
              sweeps = sweep;
              evacuates = evacuation;
              releases = subst (λ y. Turns y released (with_releases (tables_of y) y.limits.blocks)) tallied_is releases;
              sets = sets;
            }
