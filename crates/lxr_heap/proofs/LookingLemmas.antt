-- What is told of a register and of what it holds, by the state that a heap stands for; and how many blocks are Free.
use Rattle.std.proofs.Common.{◌≡◌, ℕ, zero, suc, ◌+◌, refl, sym, ap, ◌∙◌, arith, Bool, true, false, cond, List, [], ◌∷◌, length, Option, Some, None}
use Rattle.std.specs.Prelude.{◌==◌, if◌then◌else◌}
use Rattle.std.proofs.lemmas.List.{length-append}
use Rattle.lxr_layout.specs.declared.Name.{Name}
use Rattle.lxr_layout.specs.declared.Shape.{Shape}
use Rattle.lxr_graph.specs.declared.Op.{Op}
use Rattle.lxr_graph.specs.declared.Reply.{Reply}
use Rattle.lxr_graph.specs.State.{State, object_at, register_at}
use Rattle.lxr_graph.specs.Step.{step}
use Rattle.lxr_image.specs.Settled.{free_below}
use Rattle.lxr_image.specs.Tables.{Tables}
use Rattle.lxr_blocks.specs.Listing.{block_frees, joined, listed_frees, lists_block}
use Rattle.lxr_blocks.specs.declared.states.BlockState.TheVariants.{Chosen, Free, Partly, Whole, World}
use Rattle.lxr_blocks.specs.States.{state_in, state_of}
use Rattle.lxr_direct.specs.Operating.{named_shape, shape_found}
use Rattle.lxr_large_model.specs.declared.LargeOp.TheVariants as large_op
use Rattle.lxr_large_model.specs.declared.LargeReply.TheVariants as large_reply
use Rattle.lxr_large_model.specs.History.{LargeItem, large_moment, large_state}
use Rattle.lxr_large_model.specs.Step.{IsLargeReply}
use Rattle.lxr_large_model.specs.State.{body_of as large_of}
use Rattle.lxr_large_bodies.specs.Bodies.{Body, blocks_in, body_of}
use Rattle.lxr_heap.specs.declared.heap.Heap.{Heap}
use Rattle.lxr_heap.specs.Bulk.{base_held}
use Rattle.lxr_heap.specs.Holding.{IsHeapOf, IsWhole}
use Rattle.lxr_heap.specs.Looking.{body_blocks, shape_held}
use Rattle.lxr_heap.proofs.BlockLemmas.{found_whole}
use Rattle.lxr_heap.proofs.BodyLemmas.{words_of, words_same}
use Rattle.lxr_heap.proofs.BulkLemmas.{base_is}
use Rattle.lxr_heap.proofs.CallLemmas.{held_is_kept}

none_named : (s : State) (v : Option Name) → None ≡ named_shape s v → v ≡ None
none_named s None e = refl
none_named s (Some n) e = cc

some_named : (s : State) (v : Option Name) (n : Name) (shape : Shape) → Some (n, shape) ≡ named_shape s v → (v ≡ Some n) × (shape ≡ shape_found (object_at s.graph n))
some_named s None n shape e = cc
some_named s (Some m) n shape e =
    let pair : (n, shape) ≡ (m, shape_found (object_at s.graph m)) = cc in
    let name : n ≡ m = ap (λ (p : Name × Shape). p.0) pair in
    (ap Some (sym name), ap (λ (p : Name × Shape). p.1) pair ∙ ap (λ q. shape_found (object_at s.graph q)) (sym name))

-- how many blocks a body has, by its words
blocks_words : (blocks : ℕ) (found : Option Body) → ((b : Body) → found ≡ Some b → IsWhole blocks b) → blocks_in found ≡ body_blocks (words_of found)
blocks_words blocks None whole = refl
blocks_words blocks (Some b) whole = let long = (whole b refl).words in omega (arith, long)

pub nothing_held : (x : Heap) (h : List LargeItem) (is : IsHeapOf x h) (base : ℕ) → None ≡ named_shape (large_moment h).state (register_at (large_moment h).state 1 base) → None ≡ shape_held (large_state h) (base_held h base)
nothing_held x h is base none =
    let nil = none_named (large_moment h).state (register_at (large_moment h).state 1 base) none in
    sym (ap (shape_held (large_state h)) (base_is x h is base None (sym nil)))

pub shape_told : (x : Heap) (h : List LargeItem) (is : IsHeapOf x h) (base : ℕ) (n : Name) (shape : Shape) (blocks : ℕ) → Some (n, shape) ≡ named_shape (large_moment h).state (register_at (large_moment h).state 1 base)
    → blocks ≡ blocks_in (body_of x.bodies.bodies n) → Some (shape, blocks) ≡ shape_held (large_state h) (base_held h base)
shape_told x h is base n shape blocks told held =
    let both = some_named (large_moment h).state (register_at (large_moment h).state 1 base) n shape told in
    let there : base_held h base ≡ Some n = base_is x h is base (Some n) (sym both.0) in
    let shaped : shape ≡ shape_found (object_at (large_state h).small.graph n) = both.1 ∙ ap (λ (s : State). shape_found (object_at s.graph n)) is.state in
    let words = words_same (large_moment h) x.bodies.bodies (large_state h).large n is.bodies (held_is_kept x h is base n both.0) in
    let counted : blocks ≡ body_blocks (large_of (large_state h).large n) =
    held ∙ blocks_words x.bodies.blocks (body_of x.bodies.bodies n) (λ b found. found_whole x.bodies.blocks x.bodies.bodies n b is.apart found) ∙ ap body_blocks words in
    (λ i. Some (shaped i, counted i)) ∙ sym (ap (shape_held (large_state h)) there)

-- what a step of the object graph replies at the moment, the model's step replies
pub small_reply : (x : Heap) (h : List LargeItem) → IsHeapOf x h → (o : Op) (r : Reply) → r ≡ (step (large_moment h).state 1 o).1 → IsLargeReply (large_state h) (large_op.Small o) (large_reply.Small r)
small_reply x h is o r told = ap large_reply.Small (sym (told ∙ ap (λ (s : State). (step s 1 o).1) is.state))

-- ---- Free blocks

one_listed : (b : ℕ) (c : Bool) → length (cond c (b ∷ []) []) ≡ cond c 1 0
one_listed b true = refl
one_listed b false = refl

-- a block is listed where its state is that of a Free one
listed_where_free : (n : ℕ) → lists_block (state_of n) ≡ (n == 0)
listed_where_free n = told (n == 0) (n == 1) (n == 2) (n == 3)
  where
    told : (a b c d : Bool) → lists_block (if a then Free else (if b then Partly else (if c then Whole else (if d then Chosen else World)))) ≡ a
    told true b c d = refl
    told false true c d = refl
    told false false true d = refl
    told false false false true = refl
    told false false false false = refl

-- so as many blocks are listed as are Free
pub frees_are_listed : (t : Tables) (blocks : ℕ) → free_below t blocks ≡ length (listed_frees t blocks)
unfolding free_below joined
frees_are_listed t zero = refl
frees_are_listed t (suc b) =
    ap (λ k. k + (if t.states b == 0 then 1 else 0)) (frees_are_listed t b)
    ∙ ap (λ x. length (joined (block_frees t) b) + (if x then 1 else 0)) (sym (listed_where_free (t.states b)))
    ∙ sym (length-append (joined (block_frees t) b) (block_frees t b) ∙ ap (λ k. length (joined (block_frees t) b) + k) (one_listed b (lists_block (state_in t b))))
