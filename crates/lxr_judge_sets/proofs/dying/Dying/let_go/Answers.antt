use Rattle.std.proofs.Common.{◌≡◌, ◌∙◌, arith, inl, inr, sym}
use Rattle.lxr_judge_sets.specs.ByName.{value_at}
use Rattle.lxr_judge_sets.proofs.DyingLemmas.{dying_joins, dying_stays}
use Rattle.lxr_judge_sets.proofs.dying.Dying.let_go.Goals as goal
use Rattle.lxr_judge_sets.proofs.dying.Dying.let_go.Goals.{else-at-via-then-at+else-of-eq0, else-at-via-else-at}

pub returns-in_ok-insert : goal.returns-in_ok-insert
returns-in_ok-insert c = λ s us stuck seen k held is.
    dying_joins s us stuck seen k held c.args.self.now c.args.name c.insert.new.self is (sym c.at.ensures ∙ c.if-at.true)
    (sym c.of.ensures ∙ c.if-of-eq0.true) c.in_ok-insert.ensures.ok

pub returns-else-at : goal.returns-else-at
returns-else-at c = λ s us stuck seen k held is.
    dying_stays s us stuck seen k held c.args.self.now c.args.name is (elim c.else-at.branch [
      | else-at-via-then-at+else-of-eq0 w ↦ inr (inr (λ (e : value_at c.args.self.now.counts c.args.name ≡ 0).
          let some = w.if-of-eq0.false in
          let count = w.of.ensures in
          omega (arith, e, some, count)))
      | else-at-via-else-at w ↦ inr (inl (sym c.at.ensures ∙ w.if-at.false))
    ])
