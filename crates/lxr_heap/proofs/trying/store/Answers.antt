use Rattle.std.proofs.Common.{◌+◌, ap, false, inl, inr}
use Rattle.lxr_graph.specs.declared.Reply.TheVariants as reply
use Rattle.lxr_heap.specs.Holding.{abstract_of}
use Rattle.lxr_heap.proofs.AsideLemmas.{aside_heap}
use Rattle.lxr_heap.proofs.HeapLemmas.{may_operate, standing}
use Rattle.lxr_heap.proofs.KnownLemmas.{store_replied}
use Rattle.lxr_heap.proofs.trying.store.Goals as goal

pub try_store-requires : goal.try_store-requires
try_store-requires c = let (h, is) = c.requires.holds in record { state = (abstract_of c.args.heap.now h is.at, c.args.heap.now.made + 1, may_operate c.args.heap.now h is) }

pub returns-then-not-try_store-clause-aside : goal.returns-then-not-try_store-clause-aside
returns-then-not-try_store-clause-aside c = λ e h is.
    let x = c.args.heap.now in
    aside_heap x h is c.args.base c.args.index c.args.source (c.try_store.ensures.aside c.if-not-try_store.true (abstract_of x h is.at) (x.made + 1) (may_operate x h is))

pub returns-then-not-try_store-clause-unchanged : goal.returns-then-not-try_store-clause-unchanged
returns-then-not-try_store-clause-unchanged c = λ e. ap (λ s. record c.args.heap.now { space = s }) (c.try_store.ensures.unchanged c.if-not-try_store.true)

pub returns-clause-done : goal.returns-clause-done
returns-clause-done c = λ e.
    let x = c.args.heap.now in (
      reply.Stored,
      tt,
      λ h is.
          store_replied x h is c.try_store.new.space c.args.base c.args.index c.args.source (c.requires.base, c.requires.source)
          (λ at stands. c.try_store.ensures.stored c.if-not-try_store.false (abstract_of x h at) (x.made + 1) (may_operate x h (standing x h is at stands))),
    )
