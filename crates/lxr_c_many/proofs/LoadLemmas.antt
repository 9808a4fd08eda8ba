-- References that are loaded one after another: objects stay as they are, and the base is left what it holds up to the last.
use Rattle.std.proofs.Common.{◌≡◌, ◌≢◌, ℕ, ◌+◌, ◌-◌, ◌<◌, ◌∙◌, refl, sym, ap, subst, arith, inl, inr, true≢false, None, List, [], ◌∷◌, ◌++◌, length, get_or, take, nat_eq}
use Rattle.std.specs.Prelude.{IsTrue, nat_lt, not, option_map, unwrap_or}
use Rattle.std.proofs.lemmas.Bool.{cases_lt, eq-eqb, le-ltb}
use Rattle.std.proofs.lemmas.List.{get_or-take, length-take-le}
use Rattle.std.proofs.lemmas.List.Folds.{list_all_at}
use Rattle.lxr_graph.specs.declared.Op.TheVariants as op
use Rattle.lxr_graph.specs.declared.Reply.TheVariants as reply
use Rattle.lxr_graph.specs.State.{Graph, object_at, refs_of, register_at}
use Rattle.lxr_large_model.specs.declared.LargeOp.TheVariants as large_op
use Rattle.lxr_large_model.specs.declared.LargeReply.TheVariants as large_reply
use Rattle.lxr_large_model.specs.History.{LargeItem, large_state}
use Rattle.lxr_large_model.specs.State.{LargeState}
use Rattle.lxr_c_heap.specs.declared.host.HostHeap.{HostHeap}
use Rattle.lxr_c_heap.specs.Hosting.{Replies}
use Rattle.lxr_c_many.specs.Fields.{are_registers, leave_base, load_of, reference_at}
use Rattle.lxr_c_many.specs.Following.{Follows, newest_first}
use Rattle.lxr_c_many.proofs.FollowLemmas.{newest_more}
use Rattle.lxr_c_many.proofs.StateLemmas.{load_graph, load_register}

-- ---- registers

-- a number among those of registers is small
pub register_small : (registers : ℕ) (rs : List ℕ) (i : ℕ) → IsTrue (are_registers registers rs) → i < length rs → get_or rs i 0 < registers
register_small registers rs i all within = elim (cases_lt (get_or rs i 0) registers) [
  | inl less ↦ less
  | inr over ↦ absurd (true≢false (sym all ∙ list_all_at (λ r. nat_lt r registers) rs i 0 within (le-ltb (get_or rs i 0) registers over)))
]

-- none but the last is the base
pub other_than_base : (base : ℕ) (targets : List ℕ) (i : ℕ) → IsTrue (leave_base base targets) → i + 1 < length targets → base ≢ get_or targets i 0
other_than_base base targets i all within same =
    let others : List ℕ = take (length targets - 1) targets in
    let long = length-take-le (length targets - 1) targets (omega arith) in
    let at = get_or-take (length targets - 1) targets i 0 (omega (arith, within)) in
    true≢false (sym all ∙ list_all_at (λ r. not (nat_eq r base)) others i 0 (omega (arith, long, within)) (ap not (eq-eqb (get_or others i 0) base (at ∙ sym same))))

-- ---- loads

-- so many references were loaded
pub record Loaded (x : HostHeap) (h : List LargeItem) (base first : ℕ) (targets : List ℕ) (i : ℕ) (y : HostHeap) : Type 0 where
  pub follows : Follows x h y (newest_first (load_of (large_state h) base) first (take i targets))
  pub graph : (large_state (newest_first (load_of (large_state h) base) first (take i targets) ++ h)).small.graph ≡ (large_state h).small.graph
  pub held : i < length targets → register_at (large_state (newest_first (load_of (large_state h) base) first (take i targets) ++ h)).small 1 base ≡ register_at (large_state h).small 1 base

pub loaded_none : (x : HostHeap) (h : List LargeItem) (base first : ℕ) (targets : List ℕ) → Loaded x h base first targets 0 x
loaded_none x h base first targets = record { follows = refl; graph = refl; held = λ some. refl }

-- what is loaded next is what the object referred to before the first
same_reference : (s t : LargeState) (base i : ℕ) → s.small.graph ≡ t.small.graph → register_at s.small 1 base ≡ register_at t.small 1 base → reference_at s base i ≡ reference_at t base i
same_reference s t base i graph held =
    ap (λ (g : Graph). get_or (unwrap_or (option_map (λ n. refs_of (object_at g n)) (register_at s.small 1 base)) []) i None) graph
    ∙ ap (λ v. get_or (unwrap_or (option_map (λ n. refs_of (object_at t.small.graph n)) v) []) i None) held

module _ (x y z : HostHeap) (h : List LargeItem) (base first : ℕ) (targets : List ℕ) (i index : ℕ) (apart : IsTrue (leave_base base targets)) (loaded : Loaded x h base first targets i y) (within : i < length targets) (is : index ≡ first + i) where
  abbrev new : List LargeItem
  new = newest_first (load_of (large_state h) base) first (take i targets)

  abbrev s : LargeState
  s = large_state (new ++ h)

  abbrev dest : ℕ
  dest = get_or targets i 0

  more : newest_first (load_of (large_state h) base) first (take (i + 1) targets) ≡ load_of (large_state h) base (first + i) dest ∷ new
  more = newest_more (load_of (large_state h) base) first i targets 0 within

  load : Replies y z (new ++ h) (large_op.Small (op.Load dest base index)) (large_reply.Small (reply.Loaded (reference_at s base index)))
      → Replies y z (new ++ h) (large_op.Small (op.Load dest base (first + i))) (large_reply.Small (reply.Loaded (reference_at (large_state h) base (first + i))))
  load replies =
      subst (λ v. Replies y z (new ++ h) (large_op.Small (op.Load dest base (first + i))) (large_reply.Small (reply.Loaded v))) (same_reference s (large_state h) base (first + i) loaded.graph (loaded.held within))
      (subst (λ k. Replies y z (new ++ h) (large_op.Small (op.Load dest base k)) (large_reply.Small (reply.Loaded (reference_at s base k)))) is replies)

  -- and was loaded
  pub loaded_more : Replies y z (new ++ h) (large_op.Small (op.Load dest base index)) (large_reply.Small (reply.Loaded (reference_at s base index))) → Loaded x h base first targets (i + 1) z
  loaded_more replies = record {
    follows = subst (Follows x h z) (sym more) (y, loaded.follows, load replies);
    graph = ap (λ items. (large_state (items ++ h)).small.graph) more ∙ load_graph s.small 1 dest (first + i) (register_at s.small 1 base) ∙ loaded.graph;
    held = λ further. ap (λ items. register_at (large_state (items ++ h)).small 1 base) more
        ∙ load_register s.small dest base (first + i) (register_at s.small 1 base) (other_than_base base targets i apart further)
        ∙ loaded.held within;
  }
