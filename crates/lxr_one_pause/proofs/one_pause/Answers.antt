use Rattle.lxr_one_pause.proofs.WholeLemmas.{at', counted_traced, few_pauses, few_tallied, free_traced, grays_avoid, grays_lie, is_untold, leads, may_count, names_once, pause_made, space_counted, space_traced, stands, traces_may}
use Rattle.lxr_one_pause.proofs.one_pause.Goals as goal

pub decide_kind-kind-requires-clause-space : goal.decide_kind-kind-requires-clause-space
decide_kind-kind-requires-clause-space c = space_counted c.args.space.now c.settle_counts.new.space c.requires.space.0 c.requires.space.1 c.settle_counts.ensures

pub decide_kind-kind-requires-clause-heap : goal.decide_kind-kind-requires-clause-heap
decide_kind-kind-requires-clause-heap c = grays_lie c.args.space.now c.settle_counts.new.space c.requires.space.0 c.requires.space.1 c.settle_counts.ensures

pub decide_kind-kind-requires-clause-free : goal.decide_kind-kind-requires-clause-free
decide_kind-kind-requires-clause-free c = grays_avoid c.args.space.now c.settle_counts.new.space c.requires.space.0 c.requires.space.1 c.settle_counts.ensures

pub trace_by_kind-requires : goal.trace_by_kind-requires
trace_by_kind-requires c = (
  stands c.args.space.now c.settle_counts.new.space c.requires.space.0 c.requires.space.1 c.settle_counts.ensures c.args.ask c.args.pace c.decide_kind-kind.result c.decide_kind-kind.ensures,
  traces_may c.args.space.now c.settle_counts.new.space c.requires.space.0 c.requires.space.1 c.settle_counts.ensures c.args.ask c.args.pace c.decide_kind-kind.result c.decide_kind-kind.ensures,
)

pub settle_lines-requires-clause-space : goal.settle_lines-requires-clause-space
settle_lines-requires-clause-space c =
    space_traced c.args.space.now c.settle_counts.new.space c.requires.space.0 c.requires.space.1 c.settle_counts.ensures c.args.ask c.args.pace c.decide_kind-kind.result c.decide_kind-kind.ensures
    c.trace_by_kind.new.space c.trace_by_kind.ensures

pub settle_lines-requires-clause-free : goal.settle_lines-requires-clause-free
settle_lines-requires-clause-free c =
    free_traced c.args.space.now c.settle_counts.new.space c.requires.space.0 c.requires.space.1 c.settle_counts.ensures c.args.ask c.args.pace c.decide_kind-kind.result c.decide_kind-kind.ensures
    c.trace_by_kind.new.space c.trace_by_kind.ensures

pub settle_lines-requires-clause-counted : goal.settle_lines-requires-clause-counted
settle_lines-requires-clause-counted c =
    counted_traced c.args.space.now c.settle_counts.new.space c.requires.space.0 c.requires.space.1 c.settle_counts.ensures c.args.ask c.args.pace c.decide_kind-kind.result c.decide_kind-kind.ensures
    c.trace_by_kind.new.space c.trace_by_kind.ensures

pub order_report-requires : goal.order_report-requires
order_report-requires c =
    names_once c.args.space.now c.settle_counts.new.space c.requires.space.0 c.requires.space.1 c.settle_counts.ensures c.args.ask c.args.pace c.decide_kind-kind.result c.decide_kind-kind.ensures
    c.trace_by_kind.new.space c.trace_by_kind.ensures c.settle_lines.new.space c.settle_lines.ensures.states

pub count_where_drained-requires : goal.count_where_drained-requires
count_where_drained-requires c = (
  leads c.args.space.now c.settle_counts.new.space c.requires.space.0 c.requires.space.1 c.settle_counts.ensures c.args.ask c.args.pace c.decide_kind-kind.result c.decide_kind-kind.ensures
      c.trace_by_kind.new.space c.trace_by_kind.ensures c.settle_lines.new.space c.settle_lines.ensures.states c.order_report.new.report c.order_report.ensures,
  at' c.args.space.now c.settle_counts.new.space c.requires.space.0 c.requires.space.1 c.settle_counts.ensures c.args.ask c.args.pace c.decide_kind-kind.result c.decide_kind-kind.ensures
      c.trace_by_kind.new.space c.trace_by_kind.ensures,
  may_count c.args.space.now c.settle_counts.new.space c.requires.space.0 c.requires.space.1 c.settle_counts.ensures c.args.ask c.args.pace c.decide_kind-kind.result c.decide_kind-kind.ensures
      c.trace_by_kind.new.space c.trace_by_kind.ensures c.settle_lines.new.space c.settle_lines.ensures.states c.order_report.new.report c.order_report.ensures,
)

pub count_pause-requires-clause-number : goal.count_pause-requires-clause-number
count_pause-requires-clause-number c =
    few_pauses c.args.space.now c.settle_counts.new.space c.requires.space.0 c.requires.space.1 c.settle_counts.ensures c.args.ask c.args.pace c.decide_kind-kind.result c.decide_kind-kind.ensures
    c.trace_by_kind.new.space c.trace_by_kind.ensures c.settle_lines.new.space c.settle_lines.ensures.states c.order_report.new.report c.order_report.ensures
    c.count_where_drained.new.space c.count_where_drained.ensures

pub count_pause-requires-clause-tally : goal.count_pause-requires-clause-tally
count_pause-requires-clause-tally c =
    few_tallied c.args.space.now c.settle_counts.new.space c.requires.space.0 c.requires.space.1 c.settle_counts.ensures c.args.ask c.args.pace c.decide_kind-kind.result c.decide_kind-kind.ensures
    c.trace_by_kind.new.space c.trace_by_kind.ensures c.settle_lines.new.space c.settle_lines.ensures.states c.order_report.new.report c.order_report.ensures
    c.count_where_drained.new.space c.count_where_drained.ensures

pub returns-clause-untold : goal.returns-clause-untold
returns-clause-untold c =
    is_untold c.args.space.now c.settle_counts.new.space c.requires.space.0 c.requires.space.1 c.settle_counts.ensures c.args.ask c.args.pace c.decide_kind-kind.result c.decide_kind-kind.ensures
    c.trace_by_kind.new.space c.trace_by_kind.ensures c.settle_lines.new.space c.settle_lines.ensures.states c.order_report.new.report c.order_report.ensures
    c.count_where_drained.new.space c.count_where_drained.ensures c.count_pause.new.space c.count_pause.ensures

pub returns-clause-pauses : goal.returns-clause-pauses
returns-clause-pauses c g can = (
  at' c.args.space.now c.settle_counts.new.space g can c.settle_counts.ensures c.args.ask c.args.pace c.decide_kind-kind.result c.decide_kind-kind.ensures c.trace_by_kind.new.space c.trace_by_kind.ensures,
  pause_made c.args.space.now c.settle_counts.new.space g can c.settle_counts.ensures c.args.ask c.args.pace c.decide_kind-kind.result c.decide_kind-kind.ensures
      c.trace_by_kind.new.space c.trace_by_kind.ensures c.settle_lines.new.space c.settle_lines.ensures.states c.order_report.new.report c.order_report.ensures
      c.count_where_drained.new.space c.count_where_drained.ensures c.count_pause.new.space c.count_pause.ensures,
)
