use Rattle.std.proofs.Common.{◌∙◌, ap, sym}
use Rattle.lxr_c_base.specs.Codes.{code_in, number_of, told, written_over}
use Rattle.lxr_c.proofs.arrays.lxr_array_length.Goals as goal

pub returns-in-Err : goal.returns-in-Err
returns-in-Err c =
    let is = sym c.in-Err.is ∙ c.length_told.ensures in
    (c.length.result, c.length.ensures, c.number.ensures ∙ ap (λ a. number_of (code_in a)) is, ap (λ a. written_over c.args.length.now (told (λ n. n) a)) is)

pub returns-in-Ok : goal.returns-in-Ok
returns-in-Ok c =
    let is = sym c.in-Ok.is ∙ c.length_told.ensures in
    (c.length.result, c.length.ensures, c.number-in-Ok.ensures ∙ ap (λ a. number_of (code_in a)) is, ap (λ a. written_over c.args.length.now (told (λ n. n) a)) is)
