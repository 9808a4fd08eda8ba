use Rattle.std.proofs.Common.{arith}
use Rattle.lxr_run_replay.proofs.ShiftLemmas.{taken_out}
use Rattle.lxr_run_replay.proofs.numbers.Unfinished.remove.Goals as goal

pub returns : goal.returns
returns c =
    let fits = c.self.invariant in
    let sixteen = c.self.told in
    taken_out c.self.inside.numbers c.copy_within.new.self c.args.self.now c.self.inside.count c.args.place c.requires (omega arith) c.self.view_is c.copy_within.ensures.after
