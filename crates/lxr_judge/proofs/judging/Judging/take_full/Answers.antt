use Rattle.std.proofs.Common.{Bool, sym, refl, subst}
use Rattle.lxr_graph.specs.declared.Op.TheVariants as op
use Rattle.lxr_graph.specs.declared.Reply.TheVariants as reply
use Rattle.lxr_judge.specs.declared.judging.Judging.{Judging}
use Rattle.lxr_judge.specs.Taking.{next_line}
use Rattle.lxr_judge.specs.Standing.{TriedCall}
use Rattle.lxr_judge.proofs.JudgingLemmas.{full_fails, keep_full, never, seats_few, short_here}
use Rattle.lxr_judge.proofs.judging.Judging.take_full.Goals as goal

pub returns-then-full : goal.returns-then-full
returns-then-full c = λ h keeps says.
    let e = c.args.sources.now in
    let after : Judging = record { position = c.args.self.now.position; progress = c.note_call.new.self; page = c.args.self.now.page } in
    let P : Bool → Type 0 = λ b. TriedCall e h c.args.thread (op.New c.args.dest c.args.shape) after b in
    subst P (sym c.if-full.true) (
      reply.Full,
      (c.in_ok-full.ensures h keeps).0 c.if-full.true,
      says,
      keep_full e c.args.self.now after h c.args.thread c.args.dest c.args.shape refl c.note_call.ensures refl c.requires.thread.0 (seats_few e c.args.thread c.requires.judging.readable c.requires.thread.1) (short_here e c.args.self.now h c.requires.judging keeps) keeps,
    )

pub returns-else-full : goal.returns-else-full
returns-else-full c = λ h keeps says.
    let e = c.args.sources.now in
    let P : Bool → Type 0 = λ b. TriedCall e h c.args.thread (op.New c.args.dest c.args.shape) c.args.self.now b in
    subst P (sym c.if-full.false) (λ r replies printed.
    full_fails e.terms h c.args.thread c.args.dest c.args.shape r (next_line e c.args.thread h) says (never c.in_ok-full.full c.if-full.false (c.in_ok-full.ensures h keeps).1) replies printed)
