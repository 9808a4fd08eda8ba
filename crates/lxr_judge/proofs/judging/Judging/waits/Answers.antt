use Rattle.lxr_judge.proofs.judging.Judging.waits.Goals as goal

pub leaves_no_run-requires : goal.leaves_no_run-requires
leaves_no_run-requires c = (rw c.in-Some-New.field-0-is at (c.in-Some-New.ensures.formed c.requires.readable)).1
