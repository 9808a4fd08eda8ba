use Rattle.std.proofs.Common.{◌≡◌, drop}
use Rattle.lxr_text_script.proofs.Digits.{read_on}
use Rattle.lxr_text_script.proofs.numbers.number_of.Given as goal

abbrev pub invariant-loop-byte : goal.invariant-loop-byte
invariant-loop-byte l = read_on l.value (drop l.byte-index l.word) ≡ read_on 0 l.word
