use Rattle.std.proofs.Common.{◌≡◌, ◌∙◌, ap, None}
use Rattle.std.specs.Prelude.{slice_get, unwrap_or}
use Rattle.std.proofs.lemmas.Option.{unwrap_or-slice_get}
use Rattle.lxr_graph.specs.declared.Op.TheVariants as op
use Rattle.lxr_mutator.proofs.agenda.operation_at.Goals as goal

pub returns-in-None : goal.returns-in-None
returns-in-None c =
    let ops = c.args.operations.now.items in
    let none : None ≡ slice_get ops c.args.number = cc in
    ap (λ o. unwrap_or o op.End) none ∙ unwrap_or-slice_get ops c.args.number op.End
