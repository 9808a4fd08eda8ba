-- An epoch that is opened can run: its actors rest, there are as many of each kind as before, and its invariant has each next step fit
-- and no line move.
use Rattle.std.proofs.Common.{◌≡◌, ℕ, ◌<◌, ap, subst, sym, ◌∙◌, arith, length}
use Rattle.std.proofs.lemmas.List.{length-map}
use Rattle.lxr_layout.specs.declared.limits.Limits.{Limits}
use Rattle.lxr_layout.specs.Spaces.{all_regions, region_begin}
use Rattle.lxr_image.specs.declared.space.Space.{Space}
use Rattle.lxr_actor.specs.Run.{core_of}
use Rattle.lxr_core_invariant.specs.EpochStates.{limits_of}
use Rattle.lxr_core.specs.Filling.{unfilled}
use Rattle.lxr_core.specs.Opening.{execution_at}
use Rattle.lxr_core.proofs.AgainLemmas.{started_rest}
use Rattle.lxr_core.proofs.LineLemmas.{epoch_keeps_lines}
use Rattle.lxr_shared.specs.Sharing.{KeepsLinesAlways}
use Rattle.lxr_shared.proofs.Openings.{opened_have_ends}
use Rattle.lxr_shared.proofs.StartedLemmas.{started_helpers}
use Rattle.lxr_run_replay.proofs.ClosingLemmas.{can_be_replayed}
use Rattle.lxr_run_threads.specs.Running.{OpenedEpochsCanRun}

-- a space has words
words_stand : (l : Limits) (n : ℕ) → n ≡ region_begin l all_regions → 0 < n
words_stand l n is = omega arith

-- ---- the whole

pub opened_can_run : OpenedEpochsCanRun
opened_can_run options b space opened actors started have limits opens holds =
    let same : limits_of b ≡ opened.limits = sym (ap (λ (s : Space). s.limits) opens.space.rest ∙ limits) in
    let helpers = started_helpers space.registers.items actors started opens.actors in
    record {
      words = words_stand (limits_of b) (length opened.words) holds.1.size;
      fits = can_be_replayed b (execution_at b opened started) holds;
      lines = subst (λ (l : Limits). KeepsLinesAlways l (core_of opened.words started)) same (epoch_keeps_lines b (execution_at b opened started) holds);
      resting = started_rest space.registers.items actors started opens.actors;
      ends = opened_have_ends space opened actors started opens;
      few = let many = sym (length-map started unfilled) ∙ opens.actors.as_many in let few = have.few in omega arith;
      workers = have.workers;
      decrementers = helpers.decrementers ∙ have.decrementers;
      tracers = helpers.tracers ∙ have.tracers;
    }
