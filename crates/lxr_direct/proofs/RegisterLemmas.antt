-- Operations on registers alone.
use Rattle.std.proofs.Common.{◌≡◌, ℕ, ◌+◌, ◌-◌, ◌*◌, ◌<◌, ◌≤◌, refl, sym, ap, subst, ◌∙◌, arith, List, ◌++◌, length, map, nat_eq, replicate, take, drop}
use Rattle.std.specs.Prelude.{Option, Some, None, slice_get, slice_set}
use Rattle.std.proofs.lemmas.List.{drop-map, length-append, length-drop, length-set, length-take, map-append, take-map}
use Rattle.lxr_layout.specs.declared.TheConstants.{REGISTERS}
use Rattle.lxr_layout.specs.declared.Name.{Name}
use Rattle.lxr_layout.specs.declared.Place.{Place}
use Rattle.lxr_layout.specs.Registers.{nil}
use Rattle.lxr_graph.specs.declared.Op.{Op}
use Rattle.lxr_graph.specs.declared.Op.TheVariants as op
use Rattle.lxr_graph.specs.declared.Reply.{Reply}
use Rattle.lxr_graph.specs.declared.Reply.TheVariants as reply
use Rattle.lxr_graph.specs.Names.{same_held}
use Rattle.lxr_graph.specs.State.{register_at, register_index}
use Rattle.lxr_graph.specs.Step.{IsWellFormed, cleared, step}
use Rattle.lxr_image.specs.declared.space.Space.{Space}
use Rattle.lxr_image.specs.Spaces.{tables_of}
use Rattle.lxr_image.specs.Image.{ArePlacesOf, place_word}
use Rattle.lxr_image.proofs.ImageLemmas.{register_keeps_places}
use Rattle.lxr_model.specs.Moments.{after_call}
use Rattle.lxr_model_counting.specs.Following.{FollowsPause, IsStepReply}
use Rattle.lxr_model_counting.proofs.FollowingLemmas.{call_follows}
use Rattle.lxr_invariant.specs.AbstractState.{AbstractState}
use Rattle.lxr_core_invariant.proofs.HeldLemmas.{in_register}
use Rattle.lxr_core_invariant.proofs.TellingLemmas.{same_by_place}
use Rattle.lxr_placing.proofs.ServedLemmas.{row_of_thread}
use Rattle.lxr_direct.specs.Operating.{IsDone, MayOperate, with_places, without_registers}
use Rattle.lxr_direct.proofs.DoneLemmas.{MakesNothing, done_turned, done_unchanged, holding, registers_turned}
use Rattle.lxr_direct.proofs.HeldLemmas.{register_place}
use Rattle.lxr_direct.proofs.TurnedLemmas.{turned}

-- ---- a register gets a place

-- a call of the thread that replies as a step does leads to a moment that follows
pub follows_call : (s : Space) (g : AbstractState) (t serial : ℕ) (o : Op) (r : Reply) → MayOperate s g t serial → IsWellFormed o → IsStepReply g.moment.state t o r → FollowsPause (after_call g.moment t o r)
follows_call s g t serial o r may formed reply = call_follows g.moment t o r may.rests.safepoint.holds.follows formed reply

-- the thread has a row, and there is such a thread
pub row_there : (s : Space) (g : AbstractState) (t serial : ℕ) → MayOperate s g t serial → (t < length g.moment.state.graph) × (1 ≤ t)
row_there s g t serial may = (row_of_thread s g t may.rests may.thread.0 may.thread.1, may.thread.0)

-- one register holds another name
pub register_turned : (s : Space) (g : AbstractState) (t serial dest : ℕ) (o : Op) (r : Reply) (p : Place) (v : Option Name) → MakesNothing s g t o → MayOperate s g t serial → IsWellFormed o → IsStepReply g.moment.state t o r
    → after_call g.moment t o r ≡ turned g.moment (holding g.moment.state (slice_set g.moment.state.registers (register_index t dest) v)) g.moment.written → r ≡ (step g.moment.state t o).1 → p.0 ≡ place_word g.at v
    → IsDone s (with_places s (slice_set s.registers.items (register_index t dest) p)) g t o r
register_turned s g t serial dest o r p v leaves may formed is_reply moment reply place =
    let held : List (Option Name) = slice_set g.moment.state.registers (register_index t dest) v in
    let places : List Place = slice_set s.registers.items (register_index t dest) p in
    done_turned s g t serial o r (holding g.moment.state held) g.moment.written s.words places s.logged.items leaves may moment reply
    (registers_turned s g t serial held places may (subst FollowsPause moment (follows_call s g t serial o r may formed is_reply))
    (register_keeps_places g.at s.registers.items g.moment.state.registers (register_index t dest) p v may.rests.safepoint.holds.image.registers place)
    (length-set s.registers.items (register_index t dest) p))

pub move_done : (s : Space) (g : AbstractState) (t serial dest source : ℕ) (p : Place) → MayOperate s g t serial → (dest < REGISTERS) × (source < REGISTERS) → slice_get s.registers.items (register_index t source) ≡ Some p
    → IsDone s (with_places s (slice_set s.registers.items (register_index t dest) p)) g t (op.Move dest source) reply.Moved
move_done s g t serial dest source p may small there =
    register_turned s g t serial dest (op.Move dest source) reply.Moved p (register_at g.moment.state t source) (λ after kept. kept) may small (refl, (row_there s g t serial may).0, (row_there s g t serial may).1) refl refl (register_place s g t serial source p may there)

pub nil_done : (s : Space) (g : AbstractState) (t serial dest : ℕ) → MayOperate s g t serial → dest < REGISTERS
    → IsDone s (with_places s (slice_set s.registers.items (register_index t dest) nil)) g t (op.Nil dest) reply.Cleared
nil_done s g t serial dest may small =
    register_turned s g t serial dest (op.Nil dest) reply.Cleared nil None (λ after kept. kept) may small (refl, (row_there s g t serial may).0, (row_there s g t serial may).1) refl refl refl

-- ---- whether two are the same

pub same_done : (s : Space) (g : AbstractState) (t serial left right : ℕ) (p q : Place) → MayOperate s g t serial → slice_get s.registers.items (register_index t left) ≡ Some p
    → slice_get s.registers.items (register_index t right) ≡ Some q → IsDone s s g t (op.Same left right) (reply.Same (nat_eq p.0 q.0))
same_done s g t serial left right p q may there_p there_q =
    let follows = may.rests.safepoint.holds.follows in
    let v : Option Name = register_at g.moment.state t left in
    let w : Option Name = register_at g.moment.state t right in
    let same : same_held v w ≡ nat_eq p.0 q.0 =
    same_by_place (tables_of s) s.limits.blocks g.at g.moment v w p.0 q.0 may.rests.safepoint.holds.image.image (in_register g.moment t left follows) (in_register g.moment t right follows)
    (register_place s g t serial left p may there_p) (register_place s g t serial right q may there_q) in
    done_unchanged s g t serial (op.Same left right) (reply.Same (nat_eq p.0 q.0)) (λ after kept. kept) may refl (ap reply.Same (sym same))

-- ---- the end

-- 256 in a row are nil
cleared_places : (at : Name → ℕ) (places : List Place) (held : List (Option Name)) (t : ℕ) → ArePlacesOf at places held → ArePlacesOf at (without_registers places t) (cleared held t)
cleared_places at places held t are =
    let a : ℕ = REGISTERS * (t - 1) in
    let b : ℕ = REGISTERS * (t - 1) + REGISTERS in
    let f : Place → ℕ = λ p. p.0 in
    let h : Option Name → ℕ = place_word at in
    map-append f (take a places ++ replicate REGISTERS nil) (drop b places)
    ∙ ap (λ z. z ++ map f (drop b places)) (map-append f (take a places) (replicate REGISTERS nil))
    ∙ ap (λ z. (z ++ map f (replicate REGISTERS nil)) ++ map f (drop b places)) (sym (take-map f a places) ∙ ap (take a) are ∙ take-map h a held)
    ∙ ap (λ z. (map h (take a held) ++ map h (replicate REGISTERS None)) ++ z) (sym (drop-map f b places) ∙ ap (drop b) are ∙ drop-map h b held)
    ∙ ap (λ z. z ++ map h (drop b held)) (sym (map-append h (take a held) (replicate REGISTERS None)))
    ∙ sym (map-append h (take a held ++ replicate REGISTERS None) (drop b held))

length_cleared : (places : List Place) (t : ℕ) → REGISTERS * (t - 1) + REGISTERS ≤ length places → length (without_registers places t) ≡ length places
length_cleared places t many =
    let a = length-take (REGISTERS * (t - 1)) places in
    let b = length-drop (REGISTERS * (t - 1) + REGISTERS) places in
    length-append (take (REGISTERS * (t - 1)) places ++ replicate REGISTERS nil) (drop (REGISTERS * (t - 1) + REGISTERS) places)
    ∙ ap (λ z. z + length (drop (REGISTERS * (t - 1) + REGISTERS) places)) (length-append (take (REGISTERS * (t - 1)) places) (replicate REGISTERS nil))
    ∙ grind (arith, a, b, many)

pub end_done : (s : Space) (g : AbstractState) (t serial : ℕ) → MayOperate s g t serial → REGISTERS * (t - 1) + REGISTERS ≤ length s.registers.items → IsDone s (with_places s (without_registers s.registers.items t)) g t op.End reply.Ended
end_done s g t serial may many =
    let held : List (Option Name) = cleared g.moment.state.registers t in
    done_turned s g t serial op.End reply.Ended (holding g.moment.state held) g.moment.written s.words (without_registers s.registers.items t) s.logged.items (λ after kept. kept) may refl refl
    (registers_turned s g t serial held (without_registers s.registers.items t) may (follows_call s g t serial op.End reply.Ended may tt (refl, (row_there s g t serial may).0, (row_there s g t serial may).1))
    (cleared_places g.at s.registers.items g.moment.state.registers t may.rests.safepoint.holds.image.registers) (length_cleared s.registers.items t many))
