use Rattle.std.proofs.Common.{◌+◌}
use Rattle.lxr_graph.specs.declared.report.Kind.TheVariants.{Plain}
use Rattle.lxr_one_pause.proofs.report.begin_report.Goals as goal

pub returns : goal.returns
returns c = λ i. record c.args.space.now {
  report = record {
    number = c.args.space.now.pauses + 1;
    kind = Plain;
    promoted = c.clear.ensures i;
    dead = c.clear-2.ensures i;
    stuck = c.clear-3.ensures i;
    swept = c.clear-4.ensures i;
    counts = record c.new-space.result { items = c.new-space.ensures i };
    told = c.clear-5.ensures i;
  };
}
