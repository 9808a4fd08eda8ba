use Rattle.std.proofs.Common.{◌≡◌, ◌+◌, subst}
use Rattle.std.specs.Prelude.{◌↔◌, IsTrue, None}
use Rattle.lxr_graph.specs.State.{State, register_at}
use Rattle.lxr_heap.specs.Holding.{abstract_of}
use Rattle.lxr_heap.proofs.HeapLemmas.{may_operate}
use Rattle.lxr_heap.proofs.looking.is_nil.Goals as goal

pub is_nil-requires : goal.is_nil-requires
is_nil-requires c = let (h, is) = c.requires.holds in record { state = (abstract_of c.args.heap.now h is.at, c.args.heap.now.made + 1, may_operate c.args.heap.now h is) }

pub returns : goal.returns
returns c = λ h is.
    let x = c.args.heap.now in
    subst (λ (s : State). IsTrue c.is_nil.result ↔ (register_at s 1 c.args.register ≡ None)) is.state (c.is_nil.ensures (abstract_of x h is.at) (x.made + 1) (may_operate x h is))
