use Rattle.std.proofs.Common.{length}
use Rattle.lxr_text_script.proofs.Items.{Keeps}
use Rattle.lxr_text_script.proofs.lines.Scanner.next.Given as goal

abbrev pub invariant-loop-number : goal.invariant-loop-number
invariant-loop-number l = Keeps l.initial.self l.self

abbrev pub decreases-loop-number : goal.decreases-loop-number
decreases-loop-number l = length l.self.rest.now
