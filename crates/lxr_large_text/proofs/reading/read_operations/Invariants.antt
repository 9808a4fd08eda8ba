use Rattle.std.proofs.Common.{length}
use Rattle.lxr_text_script.specs.Scanner.{items_left}
use Rattle.lxr_large_text.proofs.Loops.{ReadsOn}
use Rattle.lxr_large_text.proofs.reading.read_operations.Given as goal

abbrev pub invariant-loop-item : goal.invariant-loop-item
invariant-loop-item l = ReadsOn l.initial.lines l.lines l.operations.items

abbrev pub decreases-loop-item : goal.decreases-loop-item
decreases-loop-item l = length (items_left l.lines)
