use Rattle.std.proofs.Common.{◌+◌, ap, subst}
use Rattle.lxr_graph.specs.declared.Op.TheVariants as op
use Rattle.lxr_direct.specs.Known.{stored_if}
use Rattle.lxr_direct.specs.Operating.{Operates}
use Rattle.lxr_large_model.specs.History.{large_moment}
use Rattle.lxr_heap.specs.Holding.{abstract_of}
use Rattle.lxr_heap.proofs.EarlyLemmas.{log_alike}
use Rattle.lxr_heap.proofs.HeapLemmas.{may_operate, standing}
use Rattle.lxr_heap.proofs.KnownLemmas.{store_replied}
use Rattle.lxr_heap.proofs.known.store_reference.Goals as goal

pub store_to-requires-clause-state : goal.store_to-requires-clause-state
store_to-requires-clause-state c = let (h, is) = c.requires.holds in (abstract_of c.args.heap.now h is.at, c.args.heap.now.made + 1, may_operate c.args.heap.now h is)

pub returns-then-not-store_to-clause-acts : goal.returns-then-not-store_to-clause-acts
returns-then-not-store_to-clause-acts c = λ h is.
    let x = c.args.heap.now in
    let came = subst (λ b. Operates x.space c.store_to.new.space (abstract_of x h is.at) 1 (op.Store c.args.object.register c.args.index c.args.source) (stored_if b)) c.if-not-store_to.true
    (c.store_to.ensures.done (abstract_of x h is.at) (x.made + 1) (may_operate x h is)) in
    ((log_alike (large_moment h) x.gone.items is.follows is.gone x.space 1 (op.Store c.args.object.register c.args.index c.args.source)).0 came.0, ap (λ s. record x { space = s }) came.1)

pub returns-clause-acts : goal.returns-clause-acts
returns-clause-acts c = λ h is.
    let x = c.args.heap.now in
    store_replied x h is c.store_to.new.space c.args.object.register c.args.index c.args.source (c.requires.register, c.requires.source)
    (λ at stands. subst (λ b. Operates x.space c.store_to.new.space (abstract_of x h at) 1 (op.Store c.args.object.register c.args.index c.args.source) (stored_if b)) c.if-not-store_to.false
    (c.store_to.ensures.done (abstract_of x h at) (x.made + 1) (may_operate x h (standing x h is at stands))))
