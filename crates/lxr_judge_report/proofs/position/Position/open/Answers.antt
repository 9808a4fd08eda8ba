-- What is kept at the opening.
use Rattle.std.proofs.Common.{ap, map}
use Rattle.lxr_judge_report.specs.Fields.{field_of}
use Rattle.lxr_judge_report.proofs.PauseLemmas.{opened_is_at}
use Rattle.lxr_judge_report.proofs.position.Position.open.Goals as goal

pub returns : goal.returns
returns c = opened_is_at _ c.args.threads (record {
  state = c.in_ok-graph.ensures;
  number = c.in_ok-last.ensures.number;
  unreclaimed = c.in_ok-last.ensures.unreclaimed;
  stuck = c.in_ok-last.ensures.stuck;
  trace = c.in_ok-last.ensures.trace;
  tells = c.in_ok-last.ensures.state;
  made = c.in_ok-made.ensures;
  written = ap (λ ks. map field_of ks) c.new-3.ensures.empty;
})
