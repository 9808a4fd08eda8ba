-- A pause does to what is kept what the model's pause does to the moment.
use Rattle.std.proofs.Common.{ap, subst, sym, ◌∙◌}
use Rattle.lxr_graph.specs.History.{report_of}
use Rattle.lxr_judge_report.specs.Positions.{Present}
use Rattle.lxr_judge_report.specs.Stages.{IsLastAfter}
use Rattle.lxr_judge_report.proofs.PauseLemmas.{paused_moves}
use Rattle.lxr_judge_report.proofs.position.Position.pause.Goals as goal

pub returns-clause-moves : goal.returns-clause-moves
returns-clause-moves c =
    let report = report_of c.args.report.now in
    let anew = c.begin_anew.ensures in
    paused_moves c.args.self.now c.begin_anew.new.self report (record {
      state = ap (λ (p : Present). p.state) anew;
      last = subst (IsLastAfter c.args.self.now report) (sym (ap (λ (p : Present). p.last) anew)) c.in_ok-last.ensures;
      made = ap (λ (p : Present). p.made) anew ∙ c.in_ok-made.ensures;
      written = ap (λ (p : Present). p.written) anew;
    })
