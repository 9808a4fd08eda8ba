use Rattle.std.proofs.Common.{subst}
use Rattle.lxr_placing.specs.Placing.{Serves}
use Rattle.lxr_direct.proofs.MakingLemmas.{make_done, next_made}
use Rattle.lxr_direct.proofs.operating.make.Goals as goal

pub returns-in-Some : goal.returns-in-Some
returns-in-Some c = λ g may.
    let name = next_made c.args.thread c.args.serial in
    let served = subst (Serves c.args.space.now c.serve.new.space name c.args.dest c.args.shape) c.in-Some.is c.serve.ensures.serves in
    (make_done c.args.space.now c.serve.new.space g c.args.thread c.args.serial c.args.dest c.args.shape c.in-Some.field-0 may served, served.room, λ no. no)
