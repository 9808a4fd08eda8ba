use Rattle.std.proofs.Common.{All, subst}
use Rattle.std.proofs.lemmas.List.Elements.{All-cons, All-head, All-rest}
use Rattle.lxr_run_threads.specs.Working.{HasPassed, IsPassOf}
use Rattle.lxr_run_threads.specs.declared.dealing.Hand.{Hand}
use Rattle.lxr_run_threads.proofs.workers.+hands.Goals as goal

-- The first worker and the others are all of them.

pub let_work-work-requires-clause-passes : goal.let_work-work-requires-clause-passes
let_work-work-requires-clause-passes g t c κs within =
    All-head (λ hand. All (IsPassOf c.args.table.now) hand.passes.items) c.in-Some.hand.now c.in-Some.others.now
    (subst (All (λ hand. All (IsPassOf c.args.table.now) hand.passes.items)) c.in-Some.ensures.cases.0 c.requires.passes)

pub let_work-let_both_work-requires-clause-pass : goal.let_work-let_both_work-requires-clause-pass
let_work-let_both_work-requires-clause-pass g t c κs within =
    All-head (λ hand. All (IsPassOf c.args.table.now) hand.passes.items) c.in-Some.hand.now c.in-Some.others.now
    (subst (All (λ hand. All (IsPassOf c.args.table.now) hand.passes.items)) c.in-Some.ensures.cases.0 c.requires.passes)

pub let_work-let_both_work-requires-clause-passes : goal.let_work-let_both_work-requires-clause-passes
let_work-let_both_work-requires-clause-passes g t c κs within =
    All-rest (λ hand. All (IsPassOf c.args.table.now) hand.passes.items) c.in-Some.hand.now c.in-Some.others.now c.args.hands.now c.in-Some.ensures.cases.0 c.requires.passes

pub let_work-returns-then-is_empty-clause-passed : goal.let_work-returns-then-is_empty-clause-passed
let_work-returns-then-is_empty-clause-passed g t c = λ all.
    let Q : Hand → Type 0 = λ hand. All (HasPassed (g.G.Gate.passed c.args.gate.now)) hand.passes.items in
    All-cons Q _ _
    (c.work.ensures.passed (All-head Q c.in-Some.hand.now c.in-Some.others.now (subst (All Q) c.in-Some.ensures.cases.0 all)))
    (All-rest Q c.in-Some.hand.now c.in-Some.others.now c.args.hands.now c.in-Some.ensures.cases.0 all)

pub let_work-returns-else-is_empty-clause-passed : goal.let_work-returns-else-is_empty-clause-passed
let_work-returns-else-is_empty-clause-passed g t c = λ all.
    let Q : Hand → Type 0 = λ hand. All (HasPassed (g.G.Gate.passed c.args.gate.now)) hand.passes.items in
    All-cons Q _ _
    (c.let_both_work.ensures.passed (All-head Q c.in-Some.hand.now c.in-Some.others.now (subst (All Q) c.in-Some.ensures.cases.0 all)))
    (c.let_both_work.ensures.all_passed (All-rest Q c.in-Some.hand.now c.in-Some.others.now c.args.hands.now c.in-Some.ensures.cases.0 all))
