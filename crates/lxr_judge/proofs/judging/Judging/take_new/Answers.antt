use Rattle.std.proofs.Common.{refl, sym}
use Rattle.lxr_graph.specs.declared.Op.TheVariants as op
use Rattle.lxr_graph.specs.declared.Reply.TheVariants as reply
use Rattle.lxr_judge.specs.declared.judging.Judging.{Judging}
use Rattle.lxr_judge.specs.Taking.{next_line}
use Rattle.lxr_judge.proofs.JudgingLemmas.{keep_page, never}
use Rattle.lxr_judge.proofs.TryLemmas.{own_printed}
use Rattle.lxr_judge.proofs.judging.Judging.take_new.Goals as goal

pub returns : goal.returns
returns c = λ h keeps.
    let e = c.args.sources.now in
    let here : Judging = record { position = c.args.self.now.position; progress = c.args.self.now.progress; page = c.is_printed.new.page } in
    c.in_ok-taken.ensures h (keep_page e c.args.self.now here h refl refl c.in_ok-says_full.ensures.empty keeps)
    (λ printed. never c.in_ok-says_full.says_full c.if-says_full.false c.in_ok-says_full.ensures.exact.1 (own_printed (op.New c.args.dest c.args.shape) reply.Full reply.Full (next_line e c.args.thread h) _ refl (sym (c.next_line-line.ensures h keeps.progress)) printed))
