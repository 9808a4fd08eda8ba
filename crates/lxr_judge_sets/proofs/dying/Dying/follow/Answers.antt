use Rattle.std.proofs.Common.{◌≡◌, ◌≤◌, ◌+◌, [], arith, length, subst, sym}
use Rattle.std.specs.Prelude.{Some, slice_get}
use Rattle.lxr_judge_sets.specs.Dying.{IsDying}
use Rattle.lxr_judge_sets.proofs.LeadingLemmas.{ended}
use Rattle.lxr_judge_sets.proofs.DyingLemmas.{dying_next}
use Rattle.lxr_judge_sets.proofs.dying.Dying.follow.Goals as goal

pub loop-name-preserved : goal.loop-name-preserved
loop-name-preserved c = λ us stuck is.
    let state = c.args.graph.now in
    let next = c.loop-name.next in
    let dying = c.loop-name.self in
    let at : slice_get dying.gone next ≡ Some c.in-Some.name = sym c.in-Some.ensures.name in
    c.in_ok-lower_held.ensures state us stuck (next + 1)
    (subst (λ rs. IsDying state us stuck us (next + 1) rs dying) (sym c.references.ensures)
    (dying_next state us stuck next dying c.in-Some.name (c.loop-name.invariant us stuck is) at))

pub returns : goal.returns
returns c = λ us stuck is.
    let now = c.loop-name.invariant us stuck is in
    let all : length c.loop-name.self.gone ≤ c.loop-name.next =
    ended c.loop-name.self.gone c.loop-name.next (sym c.in_default.ensures.name) in
    let within = now.within in
    let whole : c.loop-name.next ≡ length c.loop-name.self.gone = omega (arith, all, within) in
    subst (λ k. IsDying c.args.graph.now us stuck us k [] c.loop-name.self) whole now
