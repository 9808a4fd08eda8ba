use Rattle.std.proofs.Common.{◌∙◌, ap}
use Rattle.lxr_large_model.specs.History.{large_state}
use Rattle.lxr_c_arrays.specs.Sides.{length_by, references_held}
use Rattle.lxr_c_arrays.proofs.side.array_length.Goals as goal

pub returns : goal.returns
returns c = λ h is.
    c.length_by.ensures ∙ ap (λ r. length_by r c.root_length.result) (c.in-Some.ensures h is) ∙ ap (length_by (references_held (large_state h) c.args.base)) (c.root_length.ensures.told h is)
