use Rattle.std.proofs.Common.{ap, ◌∙◌}
use Rattle.lxr_graph.specs.Listing.{with_name}
use Rattle.lxr_pause_increments.proofs.counts.report_stuck.Goals as goal

pub returns : goal.returns
returns c = λ n shape h.
    ap (λ z. record c.args.space.now { report = record c.args.space.now.report { stuck = z } }) (c.push.ensures ∙ ap (λ z. with_name c.args.space.now.report.stuck z.0) (c.object.ensures n shape h))
