use Rattle.std.proofs.Common.{◌∙◌, ap, sym}
use Rattle.lxr_c_base.specs.Codes.{code_in, number_of, told, written_over}
use Rattle.lxr_c.proofs.lxr_shape.Goals as goal

pub returns-in-Err : goal.returns-in-Err
returns-in-Err c =
    let is = sym c.in-Err.is ∙ c.of_object.ensures in (
      c.shape.result,
      c.shape.ensures,
      c.number.ensures ∙ ap (λ a. number_of (code_in a)) is,
      ap (λ a. written_over c.args.refs.now (told (λ s. s.0.refs) a)) is,
      ap (λ a. written_over c.args.words.now (told (λ s. s.0.values) a)) is,
      ap (λ a. written_over c.args.blocks.now (told (λ s. s.1) a)) is,
    )

pub returns-in-Ok : goal.returns-in-Ok
returns-in-Ok c =
    let is = sym c.in-Ok.is ∙ c.of_object.ensures in (
      c.shape.result,
      c.shape.ensures,
      c.number-in-Ok.ensures ∙ ap (λ a. number_of (code_in a)) is,
      ap (λ a. written_over c.args.refs.now (told (λ s. s.0.refs) a)) is,
      ap (λ a. written_over c.args.words.now (told (λ s. s.0.values) a)) is,
      ap (λ a. written_over c.args.blocks.now (told (λ s. s.1) a)) is,
    )
