-- Right behind a pause that collected, the bodies of what is reachable can leave no run of blocks where none is left.
use Rattle.std.proofs.Common.{◌≡◌, ◌≢◌, ℕ, ◌/◌, ◌≤◌, refl, sym, ap, subst, ◌∙◌, arith, Bool, true, false, List, [], ◌∷◌, Option, Some, None}
use Rattle.std.specs.Prelude.{◌||◌, IsTrue, length}
use Rattle.std.specs.List.{AllByRecursion}
use Rattle.lxr_layout.specs.declared.Name.{Name}
use Rattle.lxr_graph.specs.Names.{AreInOrder, IsSetOf, has, without}
use Rattle.lxr_graph.specs.State.{State, world_name}
use Rattle.lxr_graph.proofs.NameSets.{has_one, in_order-without, in_without, not_both, same_names, without_parts}
use Rattle.lxr_model.specs.Full.{slots_touched}
use Rattle.lxr_model.specs.Moments.{Moment}
use Rattle.lxr_model.specs.Reachable.{Reachable}
use Rattle.lxr_large_model.specs.Full.{AreReachable, LeaveNoBlocks, body_slots}
use Rattle.lxr_large_model.specs.History.{LargeItem, large_moment, large_state}
use Rattle.lxr_large_model.specs.State.{Large, body_of as large_of}
use Rattle.lxr_large_bodies.specs.Bodies.{Body, body_of}
use Rattle.lxr_heap.specs.declared.heap.Heap.{Heap}
use Rattle.lxr_heap.specs.Acting.{HasRun}
use Rattle.lxr_heap.specs.Holding.{IsCollected, IsHeapOf, IsMade, IsWhole}
use Rattle.lxr_heap.proofs.BlockLemmas.{found_all, found_named, found_whole, no_run_left, same_sums, slots_by}
use Rattle.lxr_heap.proofs.BodyLemmas.{held_names, held_pass, words_of, words_same}

-- the slots of a body by its words
pub slots_words : (blocks k : ℕ) (found : Option Body) → ((b : Body) → found ≡ Some b → IsWhole blocks b) → slots_by k found ≡ body_slots k (words_of found)
slots_words blocks k None whole = refl
slots_words blocks k (Some b) whole =
    let long = (whole b refl).words in
    let same : b.blocks ≡ length b.words / 4096 = omega (arith, long) in
    ap (slots_touched k) same

-- names of the thread
pub of_thread : (made : ℕ) (ls : List Large) → AllByRecursion (IsMade made) ls → AllByRecursion (λ (l : Large). l.name.thread ≡ 1) ls
of_thread made [] all = tt
of_thread made (l ∷ ls) all = (all.0.thread, of_thread made ls all.1)

-- a name that isn't one of the world's alone isn't the world, and one of another thread isn't either
not_world : (n : Name) → has (world_name ∷ []) n ≡ false → n ≢ world_name
not_world n other is = not_both (has (world_name ∷ []) n) (subst (λ m. IsTrue (has (world_name ∷ []) m)) (sym is) refl) other

pub not_ours : (n : Name) → n.thread ≡ 1 → IsTrue (has (world_name ∷ []) n) → ⊥
not_ours n own one = let zero : n.thread ≡ 0 = ap (λ (q : Name). q.thread) (has_one world_name n one) in absurd (omega (arith, own, zero))

-- where exactly the reachable is unreclaimed, these are the reachable names but the world
reachable_set : (m : Moment) → AreInOrder m.unreclaimed → IsCollected m → IsSetOf (without m.unreclaimed (world_name ∷ [])) (λ o. Reachable m.state o × (o ≢ world_name))
reachable_set m order c = record {
  in_order = in_order-without m.unreclaimed (world_name ∷ []) order;
  members = λ n. (
    λ h. let both = without_parts m.unreclaimed (world_name ∷ []) n h in ((c.exactly n).0 both.0, not_world n both.1),
    λ is. in_without m.unreclaimed (world_name ∷ []) n ((c.exactly n).1 is.0) (λ one. is.1 (has_one world_name n one)),
  );
}

pub blocks_full : (x : Heap) (h : List LargeItem) (k : ℕ) → IsHeapOf x h → 1 ≤ k → IsTrue x.fresh → ¬ HasRun x.bodies k
    → (ns : List Name) × AreReachable (large_state h) ns × LeaveNoBlocks (large_state h) ns x.bodies.blocks k
blocks_full x h k is some fresh none =
    let m = large_moment h in
    let s = large_state h in
    let bs = x.bodies.bodies in
    let c = is.collected (is.fresh.0 fresh) in
    let ns : List Name = without m.unreclaimed (world_name ∷ []) in
    let names = held_names (λ q. q.thread ≡ 1) m bs s.large is.bodies (of_thread x.made s.large is.names) in
    let passed = held_pass m bs s.large is.bodies in
    let all : (n : Name) (b : Body) → body_of bs n ≡ Some b → IsTrue (has ns n) = λ n b found.
    let same : b.name ≡ n = sym (same_names n b.name (found_named bs n b found)) in
    let old : (has m.unreclaimed b.name || has m.made b.name) ≡ true = found_all (λ b. (has m.unreclaimed b.name || has m.made b.name) ≡ true) bs n b passed found in
    let own : b.name.thread ≡ 1 = found_all (λ b. b.name.thread ≡ 1) bs n b names found in
    subst (λ q. IsTrue (has ns q)) same (in_without m.unreclaimed (world_name ∷ []) b.name (only_old (has m.unreclaimed b.name) (has m.made b.name) (ap (λ z. has z b.name) c.made) old) (not_ours b.name own)) in
    let kept : (n : Name) → IsTrue (has ns n) → (has m.unreclaimed n || has m.made n) ≡ true = λ n member.
    ap (λ t. t || has m.made n) (without_parts m.unreclaimed (world_name ∷ []) n member).0 in
    let left = no_run_left x.bodies k ns some none is.apart all in
    let sums = same_sums (λ n. slots_by k (body_of bs n)) (λ n. body_slots k (large_of s.large n)) ns (λ n member.
    slots_words x.bodies.blocks k (body_of bs n) (λ b found. found_whole x.bodies.blocks bs n b is.apart found) ∙ ap (body_slots k) (words_same m bs s.large n is.bodies (kept n member))) in (
      ns,
      subst (λ (z : State). IsSetOf ns (λ o. Reachable z o × (o ≢ world_name))) is.state (reachable_set m is.follows.unreclaimed c),
      subst (λ t. x.bodies.blocks / k ≤ t) sums left,
    )
  where
    only_old : (old made : Bool) → made ≡ false → (old || made) ≡ true → old ≡ true
    only_old true made none some = refl
    only_old false made none some = let no : true ≡ false = sym some ∙ none in absurd (cc)
