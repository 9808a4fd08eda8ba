-- Events that write nothing to the heap: objects stay where they are, also where an operation stands in the history that
-- changes no object.
use Rattle.std.proofs.Common.{◌≡◌, ℕ, ◌+◌, refl, sym, ap, subst, ◌∙◌, inl, inr, Bool, true, false, List, ◌++◌}
use Rattle.std.specs.Prelude.{Option, Some, None, IsTrue, slice_get, slice_set}
use Rattle.lxr_layout.specs.declared.Name.{Name}
use Rattle.lxr_layout.specs.Places.{first_word}
use Rattle.lxr_graph.specs.declared.Op.{Op}
use Rattle.lxr_graph.specs.declared.Op.TheVariants as op
use Rattle.lxr_graph.specs.declared.Reply.{Reply}
use Rattle.lxr_graph.specs.declared.Reply.TheVariants as reply
use Rattle.lxr_graph.specs.History.{Item}
use Rattle.lxr_graph.specs.Names.{has}
use Rattle.lxr_graph.specs.State.{State, object_at, register_at, refs_of, values_of, world_name}
use Rattle.lxr_graph.specs.Step.{add_to, added, get_from, got, load_from, loaded, put_at, put_to, step, store_to, stored, swap_in, swapped}
use Rattle.lxr_image.specs.Tables.{Tables}
use Rattle.lxr_image.specs.Image.{IsImage}
use Rattle.lxr_model.specs.Moments.{Field, Moment, after_call, made_after, moment}
use Rattle.lxr_model.proofs.HistoryLemmas.{made_old}
use Rattle.lxr_model_counting.specs.Following.{FollowsPause}
use Rattle.lxr_model_counting.proofs.ReplyLemmas.{state_after_step}
use Rattle.lxr_invariant.specs.AbstractState.{members}
use Rattle.lxr_invariant.proofs.NameLemmas.{in_either, in_first, in_second}
use Rattle.lxr_invariant.proofs.FrameLemmas.{image_still}
use Rattle.lxr_core_invariant.specs.ThreadStates.{ThreadState}
use Rattle.lxr_core_invariant.specs.EpochStates.{Beginning, Extends, EpochState, called, limits_of, moment_of, same}
use Rattle.lxr_core_invariant.specs.Epoch.{IsEpoch}
use Rattle.lxr_core_invariant.specs.Imaged.{IsPlacedIn, Knows}
use Rattle.lxr_core_invariant.specs.Happening.{stands}
use Rattle.lxr_core_inv_heap.proofs.ImageKnowLemmas.{KeepsMembers, KeepsWiped, all_kept, knows_on, still_placed}

-- ---- what was a member is one

-- a call leaves the members members
pub call_members : (m : Moment) (t : ℕ) (o : Op) (r : Reply) (n : Name) → IsTrue (has (members m) n) → IsTrue (has (members (after_call m t o r)) n)
call_members m t o r n h = elim (in_either m.unreclaimed m.made n h) [
  | inl k ↦ in_first m.unreclaimed (made_after m.made r) n k
  | inr k ↦ in_second m.unreclaimed (made_after m.made r) n (made_old m.made r n k)
]

-- as do the calls of an epoch
members_stay : (threads every : ℕ) (h k : List Item) → Extends threads every h k → (n : Name) → IsTrue (has (members (moment threads h)) n) → IsTrue (has (members (moment threads k)) n)
members_stay threads every h k same n is = is
members_stay threads every h k (called j t o r before step) n is = call_members (moment threads j) t o r n (members_stay threads every h j before n is)

-- what stood in the heap as the epoch opened does so
pub opening_member : (b : Beginning) (s : EpochState) → IsEpoch b s → (n : Name) → IsTrue (has (members b.abstract_state.moment) n) → IsTrue (has (members (moment_of b s)) n)
opening_member b s is n h = members_stay (limits_of b).threads b.every b.history s.history is.extends n (subst (λ m. IsTrue (has (members m) n)) is.begins.moment h)

-- the world does
pub world_member : (m : Moment) → FollowsPause m → IsTrue (has (members m) world_name)
world_member m follows = in_first m.unreclaimed m.made world_name (follows.stuck world_name follows.world)

-- ---- events that change no heap word and no history

-- what is wiped stays so where no heap word is written
pub same_wiped : (t u : Tables) (v : ThreadState) → u.heap ≡ t.heap → KeepsWiped t u v.stage
same_wiped t u v heap place shape wiped e is = record { within = is.within; zeros = λ k h. ap (λ f. f (first_word place + 1 + k)) heap ∙ is.zeros k h }

-- what there is after an event that changes what its mutator shows, and tables beside the heap
abbrev pub quiet : EpochState → ℕ → ThreadState → Tables → List Field → EpochState
quiet s i w t cleared = record s { thread_states = slice_set s.thread_states i w; tables = t; cleared = cleared }

-- objects stay placed by such an event
pub quiet_placed : (b : Beginning) (s : EpochState) (i : ℕ) (v w : ThreadState) (t : Tables) (cleared : List Field) → IsEpoch b s → slice_get s.thread_states i ≡ Some v → t.heap ≡ s.tables.heap → Knows s.tables (moment_of b s) s.at w w.stage
    → IsPlacedIn b (quiet s i w t cleared)
quiet_placed b s i v w t cleared is shown heap knows =
    let m : Moment = moment_of b s in
    still_placed b s (quiet s i w t cleared) i v w is.image.placed shown (world_member m is.lives) (opening_member b s is)
    (image_still s.tables t (limits_of b).blocks s.at m.state.graph (members m) (members m) heap (λ n h. h) is.image.placed.image)
    (all_kept m s.at) (λ j x differ e. same_wiped s.tables t x heap)
    (knows_on s.tables t m m s.at s.at w w.stage (all_kept m s.at) (same_wiped s.tables t w heap) knows) refl

-- ---- operations that change no object

-- a reply of an operation that changed no object
abbrev pub leaves_objects : Reply → Bool
leaves_objects (reply.New n) = false
leaves_objects reply.Stored = false
leaves_objects (reply.Swapped old) = false
leaves_objects reply.Put = false
leaves_objects (reply.Added old) = false
leaves_objects _ = true

-- no reply both changed an object and changed none
no_leave : {P : Type 0} → false ≡ true → P
no_leave e = absurd (cc)

-- the graph and the names made stay where the reply says so
pub record LeavesObjects (s : State) (p : State × Reply) : Type 0 where
  pub graph : p.0.graph ≡ s.graph
  pub made : (ns : List Name) → made_after ns p.1 ≡ ns

-- a load that finds a base changes no object
load_leaves : (s : State) (t dest : ℕ) (found : Option (Option Name)) → LeavesObjects s (loaded s t dest found)
load_leaves s t dest None = record { graph = refl; made = λ ns. refl }
load_leaves s t dest (Some v) = record { graph = refl; made = λ ns. refl }

-- nor does any load
loads_leave : (s : State) (t dest i : ℕ) (base : Option Name) → LeavesObjects s (load_from s t dest i base)
loads_leave s t dest i None = record { graph = refl; made = λ ns. refl }
loads_leave s t dest i (Some n) = load_leaves s t dest (slice_get (refs_of (object_at s.graph n)) i)

-- a store to a base changes none unless it replies `stored`
store_leaves : (s : State) (n : Name) (i : ℕ) (v : Option Name) (found : Option (Option Name)) → leaves_objects (stored s n i v found).1 ≡ true → LeavesObjects s (stored s n i v found)
store_leaves s n i v None e = record { graph = refl; made = λ ns. refl }
store_leaves s n i v (Some old) e = no_leave e

-- nor does any store
stores_leave : (s : State) (i : ℕ) (v base : Option Name) → leaves_objects (store_to s i v base).1 ≡ true → LeavesObjects s (store_to s i v base)
stores_leave s i v None e = record { graph = refl; made = λ ns. refl }
stores_leave s i v (Some n) e = store_leaves s n i v (slice_get (refs_of (object_at s.graph n)) i) e

-- a swap at a base changes none unless it replies `swapped`
swapped_leaves : (s : State) (t dest : ℕ) (n : Name) (i : ℕ) (v : Option Name) (found : Option (Option Name)) → leaves_objects (swapped s t dest n i v found).1 ≡ true → LeavesObjects s (swapped s t dest n i v found)
swapped_leaves s t dest n i v None e = record { graph = refl; made = λ ns. refl }
swapped_leaves s t dest n i v (Some old) e = no_leave e

-- nor does any swap
swaps_leave : (s : State) (t dest i : ℕ) (v base : Option Name) → leaves_objects (swap_in s t dest i v base).1 ≡ true → LeavesObjects s (swap_in s t dest i v base)
swaps_leave s t dest i v None e = record { graph = refl; made = λ ns. refl }
swaps_leave s t dest i v (Some n) e = swapped_leaves s t dest n i v (slice_get (refs_of (object_at s.graph n)) i) e

-- a put to a base changes none unless it replies `put`
put_leaves : (s : State) (n : Name) (i v : ℕ) (found : Option ℕ) → leaves_objects (put_at s n i v found).1 ≡ true → LeavesObjects s (put_at s n i v found)
put_leaves s n i v None e = record { graph = refl; made = λ ns. refl }
put_leaves s n i v (Some old) e = no_leave e

-- nor does any put
puts_leave : (s : State) (i v : ℕ) (base : Option Name) → leaves_objects (put_to s i v base).1 ≡ true → LeavesObjects s (put_to s i v base)
puts_leave s i v None e = record { graph = refl; made = λ ns. refl }
puts_leave s i v (Some n) e = put_leaves s n i v (slice_get (values_of (object_at s.graph n)) i) e

-- an add to a base changes none unless it replies `added`
added_leaves : (s : State) (n : Name) (i v : ℕ) (found : Option ℕ) → leaves_objects (added s n i v found).1 ≡ true → LeavesObjects s (added s n i v found)
added_leaves s n i v None e = record { graph = refl; made = λ ns. refl }
added_leaves s n i v (Some old) e = no_leave e

-- nor does any add
adds_leave : (s : State) (i v : ℕ) (base : Option Name) → leaves_objects (add_to s i v base).1 ≡ true → LeavesObjects s (add_to s i v base)
adds_leave s i v None e = record { graph = refl; made = λ ns. refl }
adds_leave s i v (Some n) e = added_leaves s n i v (slice_get (values_of (object_at s.graph n)) i) e

-- a get from a base changes none
got_leaves : (s : State) (found : Option ℕ) → LeavesObjects s (s, got found)
got_leaves s None = record { graph = refl; made = λ ns. refl }
got_leaves s (Some v) = record { graph = refl; made = λ ns. refl }

-- nor does any get
gets_leave : (s : State) (i : ℕ) (base : Option Name) → LeavesObjects s (get_from s i base)
gets_leave s i None = record { graph = refl; made = λ ns. refl }
gets_leave s i (Some n) = got_leaves s (slice_get (values_of (object_at s.graph n)) i)

-- a step leaves objects where its reply says so
pub step_leaves : (s : State) (t : ℕ) (o : Op) → leaves_objects (step s t o).1 ≡ true → LeavesObjects s (step s t o)
step_leaves s t (op.New dest shape) e = no_leave e
step_leaves s t (op.Load dest base i) e = loads_leave s t dest i (register_at s t base)
step_leaves s t (op.Store base i source) e = stores_leave s i (register_at s t source) (register_at s t base) e
step_leaves s t (op.Put base i v) e = puts_leave s i v (register_at s t base) e
step_leaves s t (op.Get base i) e = gets_leave s i (register_at s t base)
step_leaves s t (op.Swap dest base i source) e = swaps_leave s t dest i (register_at s t source) (register_at s t base) e
step_leaves s t (op.Add base i v) e = adds_leave s i v (register_at s t base) e
step_leaves s t (op.Move dest source) e = record { graph = refl; made = λ ns. refl }
step_leaves s t (op.Nil dest) e = record { graph = refl; made = λ ns. refl }
step_leaves s t (op.Same left right) e = record { graph = refl; made = λ ns. refl }
step_leaves s t op.Pause e = record { graph = refl; made = λ ns. refl }
step_leaves s t op.Collect e = record { graph = refl; made = λ ns. refl }
step_leaves s t op.End e = record { graph = refl; made = λ ns. refl }

-- the moment once an operation of a thread stands in the history with its reply
abbrev pub next_moment : Moment → ℕ → Op → Moment
next_moment m t o = after_call m t o (step m.state t o).1

-- its state is that of the step
pub next_state : (m : Moment) (t : ℕ) (o : Op) → (next_moment m t o).state ≡ (step m.state t o).0
next_state m t o = state_after_step m.state t o

-- members keep objects of their shapes where the graph stays
graph_kept : (m k : Moment) (at : Name → ℕ) → k.state.graph ≡ m.state.graph → members k ≡ members m → KeepsMembers m k at at
graph_kept m k at graph names = record {
  member = λ n h. subst (λ ns. IsTrue (has ns n)) (sym names) h;
  place = λ n h. refl;
  object = λ n o h e. (o, ap (λ g. object_at g n) graph ∙ e, refl);
}

-- ---- events by which an operation that changes no object stands in the history

-- objects stay placed by such an event
pub call_placed : (b : Beginning) (s : EpochState) (i : ℕ) (v w : ThreadState) (o : Op) (t : Tables) → IsEpoch b s → slice_get s.thread_states i ≡ Some v → t.heap ≡ s.tables.heap → leaves_objects (step (moment_of b s).state v.thread o).1 ≡ true
    → ((u : Tables) (m : Moment) (at : Name → ℕ) → Knows u m at w w.stage) → IsPlacedIn b (stands b s i v o w t)
call_placed b s i v w o t is shown heap leaves knows =
    let m : Moment = moment_of b s in
    let k : Moment = next_moment m v.thread o in
    let left = step_leaves m.state v.thread o leaves in
    let graph : k.state.graph ≡ m.state.graph = ap (λ (z : State). z.graph) (next_state m v.thread o) ∙ left.graph in
    let names : members k ≡ members m = ap (λ ns. m.unreclaimed ++ ns) (left.made m.made) in
    let image = image_still s.tables t (limits_of b).blocks s.at m.state.graph (members m) (members m) heap (λ n h. h) is.image.placed.image in
    still_placed b s (stands b s i v o w t) i v w is.image.placed shown (world_member m is.lives) (opening_member b s is)
    (subst (λ g. IsImage t (limits_of b).blocks s.at g (members k)) (sym graph) (subst (λ ns. IsImage t (limits_of b).blocks s.at m.state.graph ns) (sym names) image))
    (graph_kept m k s.at graph names) (λ j u differ e. same_wiped s.tables t u heap) (knows t k s.at) refl
