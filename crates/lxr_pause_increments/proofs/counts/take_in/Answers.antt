use Rattle.std.proofs.Common.{◌<◌, sym, ap, subst, ◌∙◌, length}
use Rattle.lxr_graph.specs.Listing.{with_name}
use Rattle.lxr_image.specs.declared.space.Space.{Space}
use Rattle.lxr_pause_increments.proofs.TakenLemmas.{promoted_space}
use Rattle.lxr_pause_increments.proofs.counts.take_in.Goals as goal

pub push-requires : goal.push-requires
push-requires c =
    let h = c.requires.stands in
    let rest = promoted_space c.args.space.now c.promote_within-now.new.space c.args.place c.promote_within-now.result h.0 h.1 h.2 (c.promote_within-now.ensures.promotes h.0 h.1 h.2) in
    subst (λ (s : Space). length s.report.promoted.items < s.report.promoted.room) (sym rest) c.requires.promoted

pub push-requires-2 : goal.push-requires-2
push-requires-2 c =
    let h = c.requires.stands in
    let rest = promoted_space c.args.space.now c.promote_within-now.new.space c.args.place c.promote_within-now.result h.0 h.1 h.2 (c.promote_within-now.ensures.promotes h.0 h.1 h.2) in
    subst (λ (s : Space). length s.work.items < s.work.room) (sym rest) c.requires.work

pub returns-clause-takes : goal.returns-clause-takes
returns-clause-takes c = λ n shape h e.
    let middle = c.promote_within-now.new.space in
    let promoted = c.push.ensures ∙ ap (with_name middle.report.promoted) e in
    record {
      promoted = middle;
      promotes = c.promote_within-now.ensures.promotes n shape h;
      rest = λ i. record middle { work = c.push-2.ensures i; report = record middle.report { promoted = promoted i } };
    }
