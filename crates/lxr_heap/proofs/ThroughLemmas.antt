-- A load or a store through a reference is three operations of the heap, as it is of its space.
use Rattle.std.proofs.Common.{◌≡◌, ℕ, ◌+◌, ◌<◌, refl, sym, ap, subst, Bool, true, false, List, ◌∷◌}
use Rattle.std.specs.Prelude.{Option, IsTrue}
use Rattle.lxr_layout.specs.declared.Name.{Name}
use Rattle.lxr_graph.specs.declared.Op.{Op}
use Rattle.lxr_graph.specs.declared.Op.TheVariants as op
use Rattle.lxr_graph.specs.declared.Reply.TheVariants as reply
use Rattle.lxr_image.specs.declared.space.Space.{Space}
use Rattle.lxr_direct.specs.Through as direct
use Rattle.lxr_direct.specs.Through.{IsDoneThere, IsStoredThere}
use Rattle.lxr_large_model.specs.declared.LargeOp.TheVariants as large_op
use Rattle.lxr_large_model.specs.declared.LargeReply.TheVariants as large_reply
use Rattle.lxr_large_model.specs.History.{LargeItem, Called}
use Rattle.lxr_heap.specs.declared.heap.Heap.{Heap}
use Rattle.lxr_heap.specs.Holding.{IsHeapOf, abstract_of}
use Rattle.lxr_heap.specs.Through.{LoadsThrough, StoresThrough}
use Rattle.lxr_heap.specs.Trying.{Does}
use Rattle.lxr_heap.proofs.ActingLemmas.{replied_small}
use Rattle.lxr_heap.proofs.HeapLemmas.{behind, may_operate, standing}
use Rattle.lxr_heap.proofs.KnownLemmas.{store_replied}

-- ---- one operation

module _ (x : Heap) (space : Space) where
  abbrev then : Heap
  then = behind x space x.bodies x.made

  pub load_does : (dest base i : ℕ) (held : Option Name) → (dest < x.space.limits.registers) × (base < x.space.limits.registers) → IsDoneThere x.space space 1 (op.Load dest base i) (reply.Loaded held) → Does x then (op.Load dest base i)
  load_does dest base i held small each = (
    reply.Loaded held,
    tt,
    λ h is.
        replied_small x h is space (op.Load dest base i) (reply.Loaded held) x.made small tt refl (λ at stands. each (abstract_of x h at) (x.made + 1) (may_operate x h (standing x h is at stands))) ((λ no. no), (λ no. no)),
  )

  pub nil_does : (dest : ℕ) → dest < x.space.limits.registers → IsDoneThere x.space space 1 (op.Nil dest) reply.Cleared → Does x then (op.Nil dest)
  nil_does dest small each = (
    reply.Cleared,
    tt,
    λ h is. replied_small x h is space (op.Nil dest) reply.Cleared x.made small tt refl (λ at stands. each (abstract_of x h at) (x.made + 1) (may_operate x h (standing x h is at stands))) ((λ no. no), (λ no. no)),
  )

  pub store_does : (base i source : ℕ) → (base < x.space.limits.registers) × (source < x.space.limits.registers) → IsStoredThere x.space space 1 base i source → Does x then (op.Store base i source)
  store_does base i source small each = (
    reply.Stored,
    tt,
    λ h is. store_replied x h is space base i source small (λ at stands. each (abstract_of x h at) (x.made + 1) (may_operate x h (standing x h is at stands))),
  )

-- ---- three in a row

module _ (x : Heap) (space : Space) (root i j own : ℕ) (there : root < x.space.limits.registers) (small : own < x.space.limits.registers) where
  pub loads_does : (dest : ℕ) → dest < x.space.limits.registers → direct.LoadsThrough x.space space 1 dest root i j own → LoadsThrough x (behind x space x.bodies x.made) dest root i j own
  loads_does dest fits through =
      let entered : Heap = behind x through.entered x.bodies x.made in
      let loaded : Heap = behind x through.loaded x.bodies x.made in
      let first : entered.space.limits.registers ≡ x.space.limits.registers = ap (λ (s : Space). s.limits.registers) through.keeps.0 in
      let second : loaded.space.limits.registers ≡ x.space.limits.registers = ap (λ (s : Space). s.limits.registers) through.keeps.1 in
      record {
        entered = entered;
        loaded = loaded;
        enters = load_does x through.entered own root i through.part (small, there) through.enters;
        loads = load_does entered through.loaded dest own j through.element (subst (λ n. (dest < n) × (own < n)) (sym first) (fits, small)) through.loads;
        leaves = nil_does loaded space own (subst (λ n. own < n) (sym second) small) through.leaves;
      }

  pub stores_does : (source : ℕ) → source < x.space.limits.registers → direct.StoresThrough x.space space 1 root i j source own → StoresThrough x (behind x space x.bodies x.made) root i j source own
  stores_does source fits through =
      let entered : Heap = behind x through.entered x.bodies x.made in
      let stored : Heap = behind x through.stored x.bodies x.made in
      let first : entered.space.limits.registers ≡ x.space.limits.registers = ap (λ (s : Space). s.limits.registers) through.keeps.0 in
      let second : stored.space.limits.registers ≡ x.space.limits.registers = ap (λ (s : Space). s.limits.registers) through.keeps.1 in
      record {
        entered = entered;
        stored = stored;
        enters = load_does x through.entered own root i through.part (small, there) through.enters;
        stores = store_does entered through.stored own j source (subst (λ n. (own < n) × (source < n)) (sym first) (small, fits)) through.stores;
        leaves = nil_does stored space own (subst (λ n. own < n) (sym second) small) through.leaves;
        made = refl;
        pauses = ap (λ (s : Space). s.pauses) through.keeps.0;
      }

-- ---- histories

-- a heap of some history
does_hold : (x y : Heap) (h : List LargeItem) (o : Op) → IsHeapOf x h → Does x y o → (k : List LargeItem) × IsHeapOf y k
does_hold x y h o is (r, such, each) = (Called (large_op.Small o) (large_reply.Small r) ∷ h, (each h is).holds)

-- so after three
three_hold : (x m n y : Heap) (h : List LargeItem) (one two three : Op) → IsHeapOf x h → Does x m one → Does m n two → Does n y three → (k : List LargeItem) × IsHeapOf y k
three_hold x m n y h one two three is first second last =
    let (i, at_m) = does_hold x m h one is first in
    let (j, at_n) = does_hold m n i two at_m second in
    does_hold n y j three at_n last

-- whether it was done or not
pub loads_hold : (x y : Heap) (h : List LargeItem) (dest root i j own : ℕ) (done : Bool) → IsHeapOf x h → (IsTrue done → LoadsThrough x y dest root i j own) → (done ≡ false → y ≡ x) → (k : List LargeItem) × IsHeapOf y k
loads_hold x y h dest root i j own true is through same =
    let l = through refl in three_hold x l.entered l.loaded y h (op.Load own root i) (op.Load dest own j) (op.Nil own) is l.enters l.loads l.leaves
loads_hold x y h dest root i j own false is through same = (h, subst (λ z. IsHeapOf z h) (sym (same refl)) is)

pub stores_hold : (x y : Heap) (h : List LargeItem) (root i j source own : ℕ) (done : Bool) → IsHeapOf x h → (IsTrue done → StoresThrough x y root i j source own) → (done ≡ false → y ≡ x) → (k : List LargeItem) × IsHeapOf y k
stores_hold x y h root i j source own true is through same =
    let l = through refl in three_hold x l.entered l.stored y h (op.Load own root i) (op.Store own j source) (op.Nil own) is l.enters l.stores l.leaves
stores_hold x y h root i j source own false is through same = (h, subst (λ z. IsHeapOf z h) (sym (same refl)) is)
