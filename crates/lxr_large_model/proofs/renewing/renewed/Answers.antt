use Rattle.std.proofs.Common.{arith, ap, sym, ◌∙◌}
use Rattle.lxr_graph.specs.Renewing.{serial_in}
use Rattle.lxr_large_model.proofs.SerialLemmas.{counted_below, counts_few, first_is_world}
use Rattle.lxr_large_model.proofs.renewing.renewed.Goals as goal

pub overflow_cast-result : goal.overflow_cast-result
overflow_cast-result c =
    let below = counted_below c.args.counts.now c.args.name c.place_among.result c.requires.2 c.place_among.ensures in
    let few = counts_few c.args.counts.now c.requires.0 c.requires.1 in
    omega (arith, below, few)

pub returns-in-0 : goal.returns-in-0
returns-in-0 c = λ ns are.
    let zero = c.in-0.is in
    let told = c.place_among.ensures in
    let e = told ∙ ap (λ us. serial_in us c.args.name) are.names in
    sym (first_is_world ns c.args.name (omega (arith, zero, e)))
