use Rattle.std.proofs.Common.{map}
use Rattle.lxr_text_script.proofs.Loops.{ThreadsOn}
use Rattle.lxr_text_script.proofs.reading.read_bodies.Given as goal

abbrev pub invariant-loop-done : goal.invariant-loop-done
invariant-loop-done l = ThreadsOn l.version l.initial.lines l.lines l.count l.done (map (λ operations. operations.items) l.bodies.items)
