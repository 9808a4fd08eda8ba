use Rattle.std.proofs.Common.{ap, inl, inr}
use Rattle.std.proofs.lemmas.Bool.{iff_false}
use Rattle.lxr_c_heap.proofs.host.HostHeap.try_store_through.Goals as goal

pub returns-then-is_at_end-clause-aside : goal.returns-then-is_at_end-clause-aside
returns-then-is_at_end-clause-aside c = λ e. inl (c.is_at_end.ensures.0 c.if-is_at_end.true)

pub returns-clause-early : goal.returns-clause-early
returns-clause-early c = λ e. iff_false c.is_at_end.ensures c.if-is_at_end.false

pub returns-clause-aside : goal.returns-clause-aside
returns-clause-aside c = λ e. inr (c.try_store_through.ensures.aside e)

pub returns-clause-unchanged : goal.returns-clause-unchanged
returns-clause-unchanged c = λ e. ap (λ h. record c.args.self.now { heap = h }) (c.try_store_through.ensures.unchanged e)
