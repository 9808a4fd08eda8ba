-- What an operation may want is told by what it is: one that makes no object finds its place, and one that stores no reference has nothing to log.
use Rattle.std.proofs.Common.{◌≡◌, ℕ, ◌≤◌, refl, arith, Option, Some, None}
use Rattle.std.specs.Prelude.{slice_get}
use Rattle.lxr_layout.specs.declared.Name.{Name}
use Rattle.lxr_graph.specs.declared.Op.TheVariants as op
use Rattle.lxr_graph.specs.State.{State, object_at, refs_of, register_at, values_of}
use Rattle.lxr_graph.specs.Step.{get_from, got, load_from, loaded, put_at, put_to}
use Rattle.lxr_graph.proofs.FormLemmas.{formed_more}
use Rattle.lxr_model.specs.Moments.{Moment}
use Rattle.lxr_large_model.specs.declared.LargeOp.{LargeOp}
use Rattle.lxr_large_model.specs.declared.LargeOp.TheVariants as large_op
use Rattle.lxr_large_model.specs.State.{LargeState, body_of}
use Rattle.lxr_large_model.specs.Step.{get_from as get_large, got as got_large, large_step, put_at as put_large_at, put_to as put_large, word_in}
use Rattle.lxr_heap.specs.declared.heap.Heap.{Heap}
use Rattle.lxr_heap.specs.Acting.{FindsNoLog, FindsNoPlace, MayBeCalled, made_by}
use Rattle.lxr_heap.specs.Holding.{made_with}
use Rattle.lxr_c_base.specs.Requests.{IsMaking, IsQuiet, IsStoring}

-- ---- each may be called

pub quiet_may : (registers : ℕ) (o : LargeOp) → IsQuiet registers o → MayBeCalled registers o
quiet_may registers (large_op.Small (op.New dest shape)) is = absurd is
quiet_may registers (large_op.Small (op.Store base index source)) is = absurd is
quiet_may registers (large_op.Big dest blocks) is = absurd is
quiet_may registers o is = is

pub making_may : (registers : ℕ) (o : LargeOp) → IsMaking registers o → MayBeCalled registers o
making_may registers (large_op.Small (op.New dest shape)) is = is
making_may registers (large_op.Big dest blocks) is = is
making_may registers o is = absurd is

pub storing_may : (registers : ℕ) (o : LargeOp) → IsStoring registers o → MayBeCalled registers o
storing_may registers (large_op.Small (op.Store base index source)) is = is
storing_may registers o is = absurd is

-- what may be called of some registers may be called of more
pub may_more : (m n : ℕ) (o : LargeOp) → m ≤ n → MayBeCalled m o → MayBeCalled n o
may_more m n (large_op.Small o) few may = (formed_more m n o few may.0, may.1)
may_more m n (large_op.Big dest blocks) few (named, some, most) = (omega (arith, few, named), some, most)
may_more m n (large_op.BigPut base index value) few named = omega (arith, few, named)
may_more m n (large_op.BigGet base index) few named = omega (arith, few, named)

pub quiet_more : (m n : ℕ) (o : LargeOp) → m ≤ n → IsQuiet m o → IsQuiet n o
quiet_more m n (large_op.Small (op.New dest shape)) few is = absurd is
quiet_more m n (large_op.Small (op.Store base index source)) few is = absurd is
quiet_more m n (large_op.Big dest blocks) few is = absurd is
quiet_more m n o few is = may_more m n o few is

pub making_more : (m n : ℕ) (o : LargeOp) → m ≤ n → IsMaking m o → IsMaking n o
making_more m n (large_op.Small (op.New dest shape)) few is = may_more m n (large_op.Small (op.New dest shape)) few is
making_more m n (large_op.Big dest blocks) few is = may_more m n (large_op.Big dest blocks) few is
making_more m n o few is = absurd is

pub storing_more : (m n : ℕ) (o : LargeOp) → m ≤ n → IsStoring m o → IsStoring n o
storing_more m n (large_op.Small (op.Store base index source)) few is = may_more m n (large_op.Small (op.Store base index source)) few is
storing_more m n o few is = absurd is

-- ---- pauses

pub quiet_place : (registers : ℕ) (x : Heap) (o : LargeOp) → IsQuiet registers o → FindsNoPlace x o → ⊥
quiet_place registers x (large_op.Small (op.New dest shape)) is none = is
quiet_place registers x (large_op.Big dest blocks) is none = is
quiet_place registers x o is none = none

pub quiet_log : (registers : ℕ) (x : Heap) (m : Moment) (o : LargeOp) → IsQuiet registers o → FindsNoLog x m o → ⊥
quiet_log registers x m (large_op.Small (op.Store base index source)) is full = is
quiet_log registers x m o is full = full

-- ---- objects

load_tells : (s : State) (dest i : ℕ) (held : Option Name) (made : ℕ) → made_with made (load_from s 1 dest i held).1 ≡ made
load_tells s dest i None made = refl
load_tells s dest i (Some n) made = at_field (slice_get (refs_of (object_at s.graph n)) i)
  where
    at_field : (found : Option (Option Name)) → made_with made (loaded s 1 dest found).1 ≡ made
    at_field None = refl
    at_field (Some v) = refl

put_tells : (s : State) (i value : ℕ) (held : Option Name) (made : ℕ) → made_with made (put_to s i value held).1 ≡ made
put_tells s i value None made = refl
put_tells s i value (Some n) made = at_field (slice_get (values_of (object_at s.graph n)) i)
  where
    at_field : (found : Option ℕ) → made_with made (put_at s n i value found).1 ≡ made
    at_field None = refl
    at_field (Some v) = refl

get_tells : (s : State) (i : ℕ) (held : Option Name) (made : ℕ) → made_with made (get_from s i held).1 ≡ made
get_tells s i None made = refl
get_tells s i (Some n) made = at_field (slice_get (values_of (object_at s.graph n)) i)
  where
    at_field : (found : Option ℕ) → made_with made (got found) ≡ made
    at_field None = refl
    at_field (Some v) = refl

big_put_tells : (s : LargeState) (i value : ℕ) (held : Option Name) (made : ℕ) → made_by made (put_large s i value held).1 ≡ made
big_put_tells s i value None made = refl
big_put_tells s i value (Some n) made = at_word (word_in (body_of s.large n) i)
  where
    at_word : (found : Option ℕ) → made_by made (put_large_at s n i value found).1 ≡ made
    at_word None = refl
    at_word (Some v) = refl

big_get_tells : (s : LargeState) (i : ℕ) (held : Option Name) (made : ℕ) → made_by made (get_large s i held) ≡ made
big_get_tells s i None made = refl
big_get_tells s i (Some n) made = at_word (word_in (body_of s.large n) i)
  where
    at_word : (found : Option ℕ) → made_by made (got_large found) ≡ made
    at_word None = refl
    at_word (Some v) = refl

-- the reply of an operation that makes nothing tells of no new object
pub quiet_makes : (registers : ℕ) (s : LargeState) (o : LargeOp) (made : ℕ) → IsQuiet registers o → made_by made (large_step s o).1 ≡ made
quiet_makes registers s (large_op.Small (op.New dest shape)) made is = absurd is
quiet_makes registers s (large_op.Small (op.Load dest base index)) made is = load_tells s.small dest index (register_at s.small 1 base) made
quiet_makes registers s (large_op.Small (op.Store base index source)) made is = absurd is
quiet_makes registers s (large_op.Small (op.Put base index value)) made is = put_tells s.small index value (register_at s.small 1 base) made
quiet_makes registers s (large_op.Small (op.Get base index)) made is = get_tells s.small index (register_at s.small 1 base) made
quiet_makes registers s (large_op.Small (op.Swap dest base index source)) made is = absurd is.1
quiet_makes registers s (large_op.Small (op.Add base index value)) made is = absurd is.1
quiet_makes registers s (large_op.Small (op.Move dest source)) made is = refl
quiet_makes registers s (large_op.Small (op.Nil dest)) made is = refl
quiet_makes registers s (large_op.Small (op.Same left right)) made is = refl
quiet_makes registers s (large_op.Small op.Pause) made is = refl
quiet_makes registers s (large_op.Small op.Collect) made is = refl
quiet_makes registers s (large_op.Small op.End) made is = refl
quiet_makes registers s (large_op.Big dest blocks) made is = absurd is
quiet_makes registers s (large_op.BigPut base index value) made is = big_put_tells s index value (register_at s.small 1 base) made
quiet_makes registers s (large_op.BigGet base index) made is = big_get_tells s index (register_at s.small 1 base) made
