use Rattle.std.proofs.Common.{◌≡◌, ◌≢◌, ◌≤◌, ◌∙◌, ap, arith, Some}
use mathlib.Core.Logic.{∥∥₁_elim}
use Rattle.std.specs.Coded.{le_prop}
use Rattle.lxr_c_words.specs.declared.form.Form.TheVariants as form
use Rattle.lxr_c_words.proofs.FormLemmas.{has_body, has_data}
use Rattle.lxr_c_words.proofs.form.form_of.Goals as goal

pub returns-then-blocks-eq0-clause-form : goal.returns-then-blocks-eq0-clause-form
returns-then-blocks-eq0-clause-form c = λ h is.
    let none : c.in_ok-shape.blocks ≡ 0 = omega arith in
    let same : c.from.result ≡ c.in_ok-shape.shape.values = omega arith in
    ap (λ k. Some (form.Data k)) same ∙ has_data c.args.heap.now h is c.args.base c.in_ok-shape.shape c.in_ok-shape.blocks (c.in_ok-shape.ensures h is) none

pub count_in_body-requires-clause-blocks : goal.count_in_body-requires-clause-blocks
count_in_body-requires-clause-blocks c =
    let least : 1 ≤ c.in_ok-shape.blocks = omega arith in
    let some : c.in_ok-shape.blocks ≢ 0 = λ e. absurd (omega (arith, e, least)) in (
      least,
      ∥∥₁_elim c.requires.holds le_prop (λ of. (has_body c.args.heap.now of.0 of.1 c.args.base c.in_ok-shape.shape c.in_ok-shape.blocks (c.in_ok-shape.ensures of.0 of.1) some).few),
    )

pub count_in_body-requires-clause-there : goal.count_in_body-requires-clause-there
count_in_body-requires-clause-there c = λ h is.
    let least : 1 ≤ c.in_ok-shape.blocks = omega arith in
    let some : c.in_ok-shape.blocks ≢ 0 = λ e. absurd (omega (arith, e, least)) in
    has_body c.args.heap.now h is c.args.base c.in_ok-shape.shape c.in_ok-shape.blocks (c.in_ok-shape.ensures h is) some
