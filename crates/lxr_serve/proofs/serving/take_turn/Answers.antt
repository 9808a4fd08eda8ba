use Rattle.std.proofs.Common.{◌≡◌, true, false}
use Rattle.lxr_serve.specs.Answering.{passes}
use Rattle.lxr_serve.proofs.serving.take_turn.Goals as goal

pub returns-in-Some : goal.returns-in-Some
returns-in-Some c = c.serve_or_refuse.ensures

pub returns-in-None : goal.returns-in-None
returns-in-None c = λ h. (
  h,
  passes c.args.mutator.now c.args.space.now c.args.served h (λ waits. let e : false ≡ true = c.in-None.ensures.some.1 waits in absurd (cc)),
)
