use Rattle.std.proofs.Common.{◌<◌, subst, sym}
use Rattle.lxr_graph.specs.Step.{IsFormedFor}
use Rattle.lxr_mutator.specs.Operating.{dest_of}
use Rattle.lxr_mutator.proofs.NowLemmas.{dest_now, formed_now}
use Rattle.lxr_mutator.proofs.mutator.Mutator.told_op.Goals as goal

pub returns-clause-formed : goal.returns-clause-formed
returns-clause-formed c = subst (λ o. IsFormedFor c.args.self.now.width o) (sym c.requires.op) (formed_now c.args.self.now c.operation.ensures.sound)

pub returns-clause-named : goal.returns-clause-named
returns-clause-named c = subst (λ o. dest_of o < c.args.self.now.width) (sym c.requires.op) (dest_now c.args.self.now c.operation.ensures.sound)
