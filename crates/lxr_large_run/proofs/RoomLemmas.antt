-- Why a pause is made that nobody asked for: what is kept can leave no room where none is found, and the log is full of fields that were written.
use Rattle.std.proofs.Common.{◌≡◌, ℕ, ◌-◌, ◌/◌, ◌≤◌, ◌∙◌, sym, ap, subst, inl, inr, arith, Bool, true, false, List, [], ◌∷◌, Some}
use Rattle.std.specs.Prelude.{◌||◌, IsTrue}
use Rattle.std.proofs.lemmas.Bool.{or_cases, or_left, or_right}
use Rattle.lxr_layout.specs.declared.Name.{Name}
use Rattle.lxr_layout.specs.declared.Shape.{Shape}
use Rattle.lxr_layout.specs.Objects.{line_count}
use Rattle.lxr_graph.specs.declared.Op.TheVariants as op
use Rattle.lxr_graph.specs.declared.report.Kind.TheVariants as kind
use Rattle.lxr_graph.specs.Names.{has, union}
use Rattle.lxr_graph.specs.State.{State, world_name}
use Rattle.lxr_graph.proofs.NameSets.{in_without, same_names, union_cases, union_left, union_right, without_parts}
use Rattle.lxr_image.specs.Spaces.{tables_of}
use Rattle.lxr_blocks.specs.Placing.{IsFull}
use Rattle.lxr_invariant.specs.Lines.{chosen_count}
use Rattle.lxr_model.specs.Full.{LeaveNoRun}
use Rattle.lxr_model.specs.Moments.{Moment}
use Rattle.lxr_full.specs.Room.{HasWorld}
use Rattle.lxr_full.proofs.RoomLemmas.{all_leave_no_run}
use Rattle.lxr_text_script.specs.declared.TheConstants.{SCRIPT_REGISTERS}
use Rattle.lxr_large_model.specs.declared.LargeOp.{LargeOp}
use Rattle.lxr_large_model.specs.declared.LargeOp.TheVariants as large_op
use Rattle.lxr_large_model.specs.Full.{LargeTerms, LeaveNoBlocks, LeaveNoLines, body_slots, kept_names}
use Rattle.lxr_large_model.specs.History.{LargeItem, large_moment, large_state}
use Rattle.lxr_large_model.specs.Pauses.{IsMadeFor, most_logged}
use Rattle.lxr_large_model.specs.State.{body_of as large_of, handle}
use Rattle.lxr_large_bodies.specs.Bodies.{Body, body_of}
use Rattle.lxr_heap.specs.declared.heap.Heap.{Heap}
use Rattle.lxr_heap.specs.Acting.{FindsNoLog, FindsNoPlace, HasRun, MayBeCalled, WantsPause}
use Rattle.lxr_heap.specs.Holding.{IsHeapOf, abstract_after, terms_of}
use Rattle.lxr_heap.specs.Pausing.{kind_asked}
use Rattle.lxr_heap.proofs.BlockLemmas.{found_all, found_named, found_whole, no_run_left, same_sums, slots_by}
use Rattle.lxr_heap.proofs.BodyLemmas.{held_names, held_pass, words_same}
use Rattle.lxr_heap.proofs.CallLemmas.{rests_all}
use Rattle.lxr_heap.proofs.FullLemmas.{not_ours, of_thread, slots_words}
use Rattle.lxr_heap.proofs.MomentLemmas.{none_chosen}
use Rattle.lxr_heap.proofs.WantingLemmas.{log_room, logged_are}

-- ---- no room

-- what is kept can leave no lines for a shape
lines_none : (x : Heap) (h : List LargeItem) → IsHeapOf x h → x.gone.items ≡ [] → (shape : Shape) → IsFull x.space shape → LeaveNoLines (terms_of x) (large_state h) (kept_names (large_moment h)) shape
lines_none x h is none_gone shape full =
    let rests = rests_all x h is none_gone in
    let g = abstract_after h is.at in
    let m = large_moment h in
    let none = all_leave_no_run x.space g shape rests.safepoint.holds rests.outs (subst (λ (z : State). HasWorld z.graph) (sym is.state) is.world) full in
    let unchosen = none_chosen x.space g rests is.untraced in
    let all : x.space.limits.blocks - chosen_count (tables_of x.space) x.space.limits.blocks ≡ x.space.limits.blocks = omega (arith, unchosen) in
    subst (λ (z : State). LeaveNoRun z.graph (kept_names m) x.space.limits.blocks (line_count shape)) is.state (subst (λ b. LeaveNoRun m.state.graph (kept_names m) b (line_count shape)) all none)

-- a name that is unreclaimed or was made since, and isn't the world, is kept
is_kept : (m : Moment) (n : Name) → (has m.unreclaimed n || has m.made n) ≡ true → (IsTrue (has (world_name ∷ []) n) → ⊥) → IsTrue (has (kept_names m) n)
is_kept m n some other = in_without (union m.made m.unreclaimed) (world_name ∷ []) n (elim (or_cases (has m.unreclaimed n) (has m.made n) some) [
  | inl old ↦ union_right m.made m.unreclaimed n old
  | inr new ↦ union_left m.made m.unreclaimed n new
]) other

kept_is : (m : Moment) (n : Name) → IsTrue (has (kept_names m) n) → (has m.unreclaimed n || has m.made n) ≡ true
kept_is m n member = elim (union_cases m.made m.unreclaimed n (without_parts (union m.made m.unreclaimed) (world_name ∷ []) n member).0) [
  | inl new ↦ or_right (has m.unreclaimed n) (has m.made n) new
  | inr old ↦ or_left (has m.unreclaimed n) (has m.made n) old
]

-- it can leave no run of blocks for a body
blocks_none : (x : Heap) (h : List LargeItem) → IsHeapOf x h → (k : ℕ) → 1 ≤ k → ¬ HasRun x.bodies k → LeaveNoBlocks (large_state h) (kept_names (large_moment h)) x.bodies.blocks k
blocks_none x h is k some none =
    let m = large_moment h in
    let s = large_state h in
    let bs = x.bodies.bodies in
    let ns : List Name = kept_names m in
    let names = held_names (λ q. q.thread ≡ 1) m bs s.large is.bodies (of_thread x.made s.large is.names) in
    let passed = held_pass m bs s.large is.bodies in
    let all : (n : Name) (b : Body) → body_of bs n ≡ Some b → IsTrue (has ns n) = λ n b found.
    let same : b.name ≡ n = sym (same_names n b.name (found_named bs n b found)) in
    let old : (has m.unreclaimed b.name || has m.made b.name) ≡ true = found_all (λ b. (has m.unreclaimed b.name || has m.made b.name) ≡ true) bs n b passed found in
    let own : b.name.thread ≡ 1 = found_all (λ b. b.name.thread ≡ 1) bs n b names found in
    subst (λ q. IsTrue (has ns q)) same (is_kept m b.name old (not_ours b.name own)) in
    let left = no_run_left x.bodies k ns some none is.apart all in
    let sums = same_sums (λ n. slots_by k (body_of bs n)) (λ n. body_slots k (large_of s.large n)) ns (λ n member.
    slots_words x.bodies.blocks k (body_of bs n) (λ b found. found_whole x.bodies.blocks bs n b is.apart found) ∙ ap (body_slots k) (words_same m bs s.large n is.bodies (kept_is m n member))) in
    subst (λ t. x.bodies.blocks / k ≤ t) sums left

-- so a pause that collects is made for what finds no place
room_made : (x : Heap) (h : List LargeItem) → IsHeapOf x h → x.gone.items ≡ [] → (o : LargeOp) → MayBeCalled SCRIPT_REGISTERS o → FindsNoPlace x o → IsMadeFor (terms_of x) h kind.Collect o
room_made x h is gone (large_op.Small (op.New dest shape)) may full = lines_none x h is gone shape full
room_made x h is gone (large_op.Big dest blocks) may (inl full) = inl (lines_none x h is gone handle full)
room_made x h is gone (large_op.Big dest blocks) may (inr none) = inr (blocks_none x h is blocks may.1 none)
room_made x h is gone o may none = absurd none

-- ---- a full log

-- a plain pause is made for what finds no room in the log
log_made : (terms : LargeTerms) (x : Heap) (h : List LargeItem) → IsHeapOf x h → x.space.limits.log ≡ most_logged → (o : LargeOp) → FindsNoLog x (large_moment h) o → IsMadeFor terms h kind.Plain o
log_made terms x h is many (large_op.Small (op.Store base i source)) log =
    let full = log.1 in
    let few = is.stands.0.safepoint.holds.few_logs in
    let (all, some) = log_room x h is in
    let same = logged_are x h is in
    omega (arith, full, few, all, many, same)
log_made terms x h is many o log = absurd log

-- ---- a pause that is wanted

-- it is made for the operation
pub wanted_made : (terms : LargeTerms) (x : Heap) (h : List LargeItem) → IsHeapOf x h → x.gone.items ≡ [] → (o : LargeOp) (collect : Bool) → MayBeCalled SCRIPT_REGISTERS o → terms_of x ≡ terms → x.space.limits.log ≡ most_logged → WantsPause x h o collect → IsMadeFor terms h (kind_asked collect) o
wanted_made terms x h is gone o true may same many none = subst (λ t. IsMadeFor t h kind.Collect o) same (room_made x h is gone o may none)
wanted_made terms x h is gone o false may same many log = log_made terms x h is many o log
