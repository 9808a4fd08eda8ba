use Rattle.lxr_serve.proofs.LoopLemmas.{HasTaken}
use Rattle.lxr_serve.proofs.serving.serve_waiting.Given as goal

abbrev pub invariant-loop-number : goal.invariant-loop-number
invariant-loop-number l = HasTaken l.fn.collected l.fn.actors l.fn.space l.number l.actors l.space l.served
