use Rattle.std.proofs.Common.{sym, subst}
use Rattle.lxr_one_pause.specs.Tracing.{HasTraced, MayTrace}
use Rattle.lxr_one_pause.proofs.tracing.trace_by_kind.Goals as goal

pub returns-in-Begin : goal.returns-in-Begin
returns-in-Begin c g can =
    subst (λ k. HasTraced k c.args.space.now c.begin.new.space g) (sym c.in-Begin.is) (c.begin.ensures g (subst (λ k. MayTrace k c.args.space.now g) c.in-Begin.is can))

pub returns-in-End : goal.returns-in-End
returns-in-End c g can =
    subst (λ k. HasTraced k c.args.space.now c.end.new.space g) (sym c.in-End.is) (c.end.ensures g (subst (λ k. MayTrace k c.args.space.now g) c.in-End.is can))

pub returns-in-Collect : goal.returns-in-Collect
returns-in-Collect c g can =
    subst (λ k. HasTraced k c.args.space.now c.collect.new.space g) (sym c.in-Collect.is) (c.collect.ensures g (subst (λ k. MayTrace k c.args.space.now g) c.in-Collect.is can))
