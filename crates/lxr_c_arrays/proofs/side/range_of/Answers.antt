use Rattle.std.proofs.Common.{◌+◌, ◌≡◌, ◌∙◌, ap}
use Rattle.lxr_large_model.specs.History.{large_state}
use Rattle.lxr_c_arrays.specs.Sides.{range_by, range_held, references_held}
use Rattle.lxr_c_arrays.proofs.side.range_of.Goals as goal

pub returns-clause-told : goal.returns-clause-told
returns-clause-told c = λ h is.
    let end : c.from.result + c.from-2.result ≡ c.args.first + c.args.count = cc in
    c.range_by.ensures
    ∙ ap (range_by c.in-Some.references c.root_length.result c.args.part c.args.array) end
    ∙ ap (λ r. range_held r c.root_length.result c.args.part c.args.array (c.args.first + c.args.count)) (c.in-Some.ensures h is)
    ∙ ap (λ r. range_held (references_held (large_state h) c.args.array) r c.args.part c.args.array (c.args.first + c.args.count)) (c.root_length.ensures.told h is)
