use Rattle.std.proofs.Common.{◌≡◌, subst, sym}
use Rattle.std.specs.Prelude.{None, Some, slice_get}
use Rattle.lxr_judge_sets.specs.Leading.{Finds}
use Rattle.lxr_judge_sets.proofs.LeadingLemmas.{ended, following-begins, following-ends, following-more}
use Rattle.lxr_judge_sets.proofs.search.follow.Goals as goal

pub loop-name-init : goal.loop-name-init
loop-name-init g c = following-begins c.args.graph.now.graph (g.C.Candidates.may c.args.candidates.now) c.args.found.now

pub loop-name-preserved : goal.loop-name-preserved
loop-name-preserved g c =
    let may = g.C.Candidates.may c.args.candidates.now in
    let found = c.loop-name.found in
    let name = c.in-Some.name in
    let at : slice_get found c.loop-name.next ≡ Some name = sym c.in-Some.ensures.name in
    following-more c.args.graph.now.graph may c.args.found.now found c.find_held.new.found c.loop-name.next name c.loop-name.invariant at
    (subst (λ rs. Finds may found rs c.find_held.new.found) c.references.ensures c.in_ok-find_held.ensures)

pub returns : goal.returns
returns g c =
    let none : slice_get c.loop-name.found c.loop-name.next ≡ None = sym c.in_default.ensures.name in
    following-ends c.args.graph.now.graph (g.C.Candidates.may c.args.candidates.now) c.args.found.now
    c.loop-name.found c.loop-name.next c.loop-name.invariant
    (ended c.loop-name.found c.loop-name.next none)
