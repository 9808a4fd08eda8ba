-- A call does to what is kept what the model's call does to the moment.
use Rattle.std.proofs.Common.{◌≡◌, ap, sym, ◌∙◌}
use Rattle.lxr_graph.specs.State.{State}
use Rattle.lxr_judge_report.specs.Fields.{made_with, fields_with}
use Rattle.lxr_judge_report.specs.Positions.{Present}
use Rattle.lxr_judge_report.proofs.CallLemmas.{called_moves}
use Rattle.lxr_judge_report.proofs.position.Position.call.Goals as goal

pub returns-clause-moves : goal.returns-clause-moves
returns-clause-moves c =
    let rest = c.in_ok-reply.ensures.rest in
    let made = c.in_ok-note_made.ensures in
    let written = c.in_ok-note_written.ensures in
    let state : c.note_written.new.self.state ≡ c.step.new.self.state = ap (λ (p : Present). p.state) written ∙ ap (λ (p : Present). p.state) made in
    let fields : c.note_made.new.self.written ≡ c.args.self.now.written = ap (λ (p : Present). p.written) made ∙ ap (λ (p : Present). p.written) rest in
    called_moves c.args.self.now c.note_written.new.self c.args.thread c.args.op c.in_ok-reply.reply (record {
      thread = c.requires.thread.0;
      row = c.requires.thread.1;
      formed = c.requires.op;
      step = c.in_ok-reply.ensures.step ∙ ap (λ (s : State). (s, c.in_ok-reply.reply)) (sym state);
      last = ap (λ (p : Present). p.last) written ∙ ap (λ (p : Present). p.last) made ∙ ap (λ (p : Present). p.last) rest;
      made = ap (λ (p : Present). p.made) written ∙ ap (λ (p : Present). p.made) made ∙ ap (λ (p : Present). made_with p.made c.in_ok-reply.reply) rest;
      written = ap (λ (p : Present). p.written) written ∙ (λ i. fields_with (fields i) (c.target-target.ensures i) c.in_ok-reply.reply);
    })
