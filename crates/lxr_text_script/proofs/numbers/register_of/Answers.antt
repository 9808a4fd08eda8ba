use Rattle.std.proofs.Common.{◌<◌, length, sym, ◌∙◌, arith}
use Rattle.std.proofs.lemmas.Bool.{eqb-true, eqb-false}
use Rattle.lxr_text_script.proofs.Digits.{is_register, no_register}
use Rattle.lxr_text_script.proofs.numbers.register_of.Goals as goal

pub returns-then-is_empty : goal.returns-then-is_empty
returns-then-is_empty c =
    let none = eqb-true _ 0 (sym c.is_empty.ensures ∙ c.if-is_empty.true) in
    sym (no_register c.args.word.now (λ long first. absurd (omega (arith, none))))

pub returns-then-word-ne114 : goal.returns-then-word-ne114
returns-then-word-ne114 c = sym (no_register c.args.word.now (λ long first. absurd (omega arith)))

pub returns-in_err-number_of : goal.returns-in_err-number_of
returns-in_err-number_of c =
    let some = eqb-false _ 0 (sym c.is_empty.ensures ∙ c.if-is_empty.false) in
    let long : 0 < length c.args.word.now = omega (arith, some) in
    sym (rw (is_register c.args.word.now long c.if-word-ne114.false, sym c.number_of.ensures, c.in_err-number_of.was) (sym c.from_residual.ensures))

pub returns : goal.returns
returns c =
    let some = eqb-false _ 0 (sym c.is_empty.ensures ∙ c.if-is_empty.false) in
    let long : 0 < length c.args.word.now = omega (arith, some) in
    sym (rw (is_register c.args.word.now long c.if-word-ne114.false, sym c.number_of.ensures, c.in_ok-number_of.was) (sym c.register_numbered.ensures))
