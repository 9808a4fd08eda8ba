use Rattle.std.proofs.Common.{subst, sym}
use Rattle.lxr_graph.specs.declared.Op.{Op}
use Rattle.lxr_judge.specs.Standing.{TriedCall}
use Rattle.lxr_judge.proofs.judging.Judging.take_operation.Goals as goal

pub returns-in_ok-made-in-New : goal.returns-in_ok-made-in-New
returns-in_ok-made-in-New c = λ h keeps.
    let P : Op → Type 0 = λ o. TriedCall c.args.sources.now h c.args.thread o c.take_new.new.self c.in_ok-made-in-New.made in
    subst P (sym c.in-New.is) (c.in_ok-made-in-New.ensures h keeps)
