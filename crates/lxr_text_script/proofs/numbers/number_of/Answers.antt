use Rattle.std.proofs.Common.{◌<◌, length, sym, ◌∙◌, arith}
use Rattle.std.proofs.lemmas.Bool.{eqb-true, eqb-false}
use Rattle.lxr_text_script.proofs.Digits.{no_number, stops, ends}
use Rattle.lxr_text_script.proofs.numbers.number_of.Goals as goal

pub returns-then-is_empty : goal.returns-then-is_empty
returns-then-is_empty c = sym (no_number c.args.word.now (eqb-true _ 0 (sym c.is_empty.ensures ∙ c.if-is_empty.true)))

pub returns-in_err-value : goal.returns-in_err-value
returns-in_err-value c = c.from_residual.ensures ∙ stops c.loop-byte.value c.loop-byte.byte-index c.args.word.now c.loop-byte-test.true c.in_err-value.ensures c.loop-byte.invariant

pub returns : goal.returns
returns c =
    let no = eqb-false _ 0 (sym c.is_empty.ensures ∙ c.if-is_empty.false) in
    let some : 0 < length c.args.word.now = omega (arith, no) in
    ends c.loop-byte.value c.loop-byte.byte-index c.args.word.now some c.loop-byte-test.false c.loop-byte.invariant
