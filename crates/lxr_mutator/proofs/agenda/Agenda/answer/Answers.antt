use Rattle.std.proofs.Common.{◌≡◌, ◌∙◌, ◌++◌, ◌∷◌, ◌<◌, [], ap, arith, length, length-append, subst, sym}
use Rattle.std.specs.Prelude.{List}
use Rattle.std.proofs.lemmas.Option.{same_Some}
use Rattle.lxr_graph.specs.declared.Reply.{Reply}
use Rattle.lxr_mutator.specs.Agendas.{IsKeptIn, dialogue}
use Rattle.lxr_mutator.specs.Dialogues.{Dialogue, op_at_hand}
use Rattle.lxr_mutator.specs.Keeping.{kept_with}
use Rattle.lxr_mutator.proofs.AgendaLemmas.{last_at, next_is, stays_kept}
use Rattle.lxr_mutator.proofs.agenda.Agenda.answer.Goals as goal

pub invariant_of-self : goal.invariant_of-self
invariant_of-self c =
    let a = c.self.inside in
    let d = dialogue a in
    let r = c.args.reply in
    let is = c.self.invariant in
    let told = c.and-self-inside.ensures in
    let with_items : List Reply → Dialogue = λ rs. record d { replies = record d.replies { items = rs } } in
    let more = ap length told ∙ length-append a.answers.items (r ∷ []) in
    let answered = is.answered in
    let same : c.in-Some.newest ≡ r = sym (same_Some r c.in-Some.newest c.in-Some.is) in
    record {
      ordered = is.ordered;
      answered = omega (arith, more, answered);
      most = is.most;
      at_hand = λ undone. c.keep_reply.ensures.next ∙ next_is d r a.kept a.at_hand is.kept (subst (λ rs. length rs < length a.orders.items) told undone) ∙ ap (λ rs. op_at_hand (with_items rs)) (sym told);
      newest = sym (last_at c.and-self-inside.result.items a.answers.items r told);
      kept = subst (λ rs. IsKeptIn (with_items rs) c.keep_reply.new.kept) (sym told) (subst (IsKeptIn (with_items (a.answers.items ++ r ∷ []))) (sym (c.keep_reply.ensures.kept ∙ ap (kept_with a.kept) same)) (stays_kept d r a.kept is.kept));
    }
