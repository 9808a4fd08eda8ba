-- An epoch keeps what is known of lines: at each moment of it they are the opening's.
use Rattle.std.proofs.Common.{ap, subst, sym, ◌∙◌}
use Rattle.lxr_actor.specs.declared.Core.{Core}
use Rattle.lxr_image.specs.Settled.{KeepsOpenLines}
use Rattle.lxr_image.specs.Tables.{Tables, tables_in}
use Rattle.lxr_core_invariant.specs.Drawn.{AreFixed}
use Rattle.lxr_core_invariant.specs.EpochStates.{Beginning, EpochState, limits_of}
use Rattle.lxr_core.specs.declared.actors.AnyActor.{AnyActor}
use Rattle.lxr_core.specs.Executions.{EpochKeepsLines}
use Rattle.lxr_core.proofs.ExecutionLemmas.{all_kept, same_core}

-- two moments of one epoch have the same lines
between : (b : Beginning) (s t : EpochState) → AreFixed b s → AreFixed b t → KeepsOpenLines s.tables t.tables
between b s t first last = record {
  starts = λ g. ap (λ (z : Tables). z.starts g) last.tables ∙ sym (ap (λ (z : Tables). z.starts g) first.tables);
  outs = λ g. ap (λ (z : Tables). z.outs g) last.tables ∙ sym (ap (λ (z : Tables). z.outs g) first.tables);
  states = λ g. ap (λ (z : Tables). z.states g) last.tables ∙ sym (ap (λ (z : Tables). z.states g) first.tables);
  counts = λ g none. (let opened = sym (ap (λ (z : Tables). z.starts g) first.tables) ∙ none in last.counts g opened ∙ sym (first.counts g opened));
}

-- the law
pub epoch_keeps_lines : EpochKeepsLines
epoch_keeps_lines b execution holds schedule =
    let after = (all_kept b execution schedule holds).0 in
    subst (λ (core : Core AnyActor). KeepsOpenLines (tables_in (limits_of b) execution.core.words) (tables_in (limits_of b) core.words)) (same_core b execution schedule)
    (between b _ _ holds.1.epoch.fixed after.1.epoch.fixed)
