use Rattle.std.proofs.Common.{◌∙◌, subst, sym}
use Rattle.lxr_layout.specs.declared.runs.Run.{Run}
use Rattle.lxr_image.specs.Spaces.{Turns, tables_of}
use Rattle.lxr_blocks.specs.Handing.{handed_out}
use Rattle.lxr_blocks.specs.Lines.{IsFreeRun}
use Rattle.lxr_core_close.proofs.HandingLemmas.{next_run, run_handed}
use Rattle.lxr_core_close.proofs.handing.hand_out_run.Goals as goal

pub run_of-run-requires : goal.run_of-run-requires
run_of-run-requires c =
    let r = next_run c.requires.0 c.requires.1 c.args.space.now c.args.number c.requires.2 c.requires.3 in
    (r.0, r.1.run, c.run_at.ensures ∙ r.1.word)

pub hand_out-requires-clause-run : goal.hand_out-requires-clause-run
hand_out-requires-clause-run c =
    let r = next_run c.requires.0 c.requires.1 c.args.space.now c.args.number c.requires.2 c.requires.3 in
    subst (λ (z : Run). IsFreeRun (tables_of c.args.space.now) c.args.space.now.limits.blocks z) (sym (c.run_of-run.ensures r.0 r.1.run (c.run_at.ensures ∙ r.1.word))) r.1.free

pub returns : goal.returns
returns c listed start is small =
    let r = next_run listed start c.args.space.now c.args.number is small in
    run_handed listed start c.args.space.now c.hand_out.new.space c.args.number r.0 is r.1
    (subst (λ (z : Run). Turns c.args.space.now c.hand_out.new.space (handed_out (tables_of c.args.space.now) z)) (c.run_of-run.ensures r.0 r.1.run (c.run_at.ensures ∙ r.1.word)) c.hand_out.ensures)
