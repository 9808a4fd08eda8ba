use Rattle.std.proofs.Common.{sym, refl, subst}
use Rattle.lxr_graph.specs.Step.{step}
use Rattle.lxr_graph.specs.declared.Reply.{Reply}
use Rattle.lxr_model.specs.Moments.{state_at}
use Rattle.lxr_model.specs.Legal.{Replies}
use Rattle.lxr_judge.specs.declared.judging.Judging.{Judging}
use Rattle.lxr_judge.specs.Taking.{next_line}
use Rattle.lxr_judge.proofs.JudgingLemmas.{keep_call, never, other_fails, row_there, seat_there, seats_few, short_here, step_is, step_replies}
use Rattle.lxr_judge.proofs.TryLemmas.{own_printed}
use Rattle.lxr_judge.proofs.judging.Judging.take_step.Goals as goal

pub call-requires-clause-thread : goal.call-requires-clause-thread
call-requires-clause-thread c = seat_there c.args.sources.now c.args.self.now c.args.thread c.requires.judging c.requires.thread.0 c.requires.thread.1

pub call-requires-clause-room : goal.call-requires-clause-room
call-requires-clause-room c = row_there c.args.sources.now c.args.self.now c.args.thread c.requires.judging c.requires.thread.0

pub returns-then-not-branch : goal.returns-then-not-branch
returns-then-not-branch c = λ h keeps says r replies printed.
    let e = c.args.sources.now in
    let reply = step_is e c.args.self.now h c.args.thread c.args.op c.in_ok-reply.reply _ keeps c.in_ok-reply.ensures.step in
    other_fails e.terms h c.args.thread c.args.op r (next_line e c.args.thread h) says
    (λ own. never c.in_ok-is_printed.field-0 c.if-not-branch.true c.in_ok-is_printed.ensures.exact.1 (own_printed c.args.op (step (state_at e.terms h) c.args.thread c.args.op).1 c.in_ok-reply.reply (next_line e c.args.thread h) _ reply (sym (c.next_line-line.ensures h keeps.progress)) own))
    replies printed

pub returns : goal.returns
returns c = λ h keeps says.
    let e = c.args.sources.now in
    let reply = step_is e c.args.self.now h c.args.thread c.args.op c.in_ok-reply.reply _ keeps c.in_ok-reply.ensures.step in
    let after : Judging = record { position = c.call.new.self; progress = c.note_call.new.self; page = c.is_printed.new.page } in (
      c.in_ok-reply.reply,
      subst (λ (r : Reply). Replies e.terms h c.args.thread c.args.op r) reply (step_replies e.terms h c.args.thread c.args.op),
      own_printed c.args.op c.in_ok-reply.reply c.in_ok-reply.reply _ (next_line e c.args.thread h) refl (c.next_line-line.ensures h keeps.progress) (c.in_ok-is_printed.ensures.exact.0 c.if-not-branch.false),
      keep_call e c.args.self.now after h c.args.thread c.args.op c.in_ok-reply.reply c.in_ok-reply.ensures.moves c.note_call.ensures c.in_ok-is_printed.ensures.empty c.requires.thread.0 (seats_few e c.args.thread c.requires.judging.readable c.requires.thread.1) (short_here e c.args.self.now h c.requires.judging keeps) keeps,
    )
