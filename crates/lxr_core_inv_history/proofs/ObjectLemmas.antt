-- Operations on the object that a base register holds are answered as the model does.
use Rattle.std.proofs.Common.{◌≡◌, ℕ, ◌+◌, ◌^◌, ◌%◌, ◌<◌, ◌≤◌, refl, sym, ap, subst, ◌∙◌, length, get_or}
use Rattle.std.specs.Prelude.{Option, Some, None, slice_set}
use Rattle.lxr_layout.specs.declared.TheConstants.{REGISTERS}
use Rattle.lxr_layout.specs.declared.Name.{Name}
use Rattle.lxr_layout.specs.declared.Place.{Place}
use Rattle.lxr_layout.specs.Places.{field_word, place_in}
use Rattle.lxr_graph.specs.declared.Op.{Op}
use Rattle.lxr_graph.specs.declared.Op.TheVariants as op
use Rattle.lxr_graph.specs.declared.Reply.{Reply}
use Rattle.lxr_graph.specs.declared.Reply.TheVariants as reply
use Rattle.lxr_graph.specs.State.{Object, State, object_at, register_at, shape_of, with_reference, with_register, with_value}
use Rattle.lxr_graph.specs.Step.{step}
use Rattle.lxr_image.specs.Tables.{Tables}
use Rattle.lxr_image.specs.Image.{place_word}
use Rattle.lxr_model.specs.Moments.{Moment}
use Rattle.lxr_invariant.specs.AbstractState.{members}
use Rattle.lxr_core_invariant.specs.ThreadStates.{ThreadState}
use Rattle.lxr_core_invariant.specs.Events.{Does, base_of, found_reply, indexed, value_word}
use Rattle.lxr_core_invariant.specs.Happening.{MayFindNone}
use Rattle.lxr_core_invariant.specs.Imaged.{KnowsReference, KnowsValue}
use Rattle.lxr_core_invariant.proofs.TellingLemmas.{told_is}
use Rattle.lxr_core_invariant.proofs.ShowingLemmas.{op_formed}
use Rattle.lxr_core_invariant.proofs.ActingLemmas.{Acts, base_held, base_holds, reference_base, same_pair, value_base}
use Rattle.lxr_core_invariant.proofs.ReadLemmas.{reference_read, value_read}
use Rattle.lxr_core_invariant.proofs.ReplyStepLemmas.{add_ok, add_range, get_ok, get_range, load_ok, load_range, put_ok, put_range, store_ok, store_range, swap_ok, swap_range}
use Rattle.lxr_core_inv_history.proofs.RegisterLemmas.{set_holds}
use Rattle.lxr_core_inv_history.proofs.AnswerLemmas.{Answers, answers_by, answers_still, same_registers}

-- the base register of an operation holds what the one of its name does
held_there : (s : State) (t r i base index : ℕ) (n : Name) → ◌≡◌ {A = Option (ℕ × ℕ)} (Some (r, i)) (Some (base, index)) → register_at s t base ≡ Some n → register_at s t r ≡ Some n
held_there s t r i base index n e holds = ap (register_at s t) (same_pair r i base index e).0 ∙ holds

-- and its index is the operation's
past_there : (r i base index n : ℕ) → ◌≡◌ {A = Option (ℕ × ℕ)} (Some (r, i)) (Some (base, index)) → n ≤ index → n ≤ i
past_there r i base index n e past = subst (λ z. n ≤ z) (sym (same_pair r i base index e).1) past

-- an index past what the operation may index is answered by `range`
range_with : (s : State) (t : ℕ) (o : Op) (base index : ℕ) (n : Name) (x : Object) → base_of o ≡ Some (base, index) → register_at s t base ≡ Some n → object_at s.graph n ≡ Some x
    → indexed o (shape_of x) ≤ index → step s t o ≡ (s, reply.Range)
range_with s t (op.New d shape) base index n x named holds is past = absurd (cc)
range_with s t (op.Load d r i) base index n x named holds is past = load_range s t d r i n x (held_there s t r i base index n named holds) is (past_there r i base index (length x.refs) named past)
range_with s t (op.Store r i source) base index n x named holds is past = store_range s t r i source n x (held_there s t r i base index n named holds) is (past_there r i base index (length x.refs) named past)
range_with s t (op.Put r i value) base index n x named holds is past = put_range s t r i value n x (held_there s t r i base index n named holds) is (past_there r i base index (length x.values) named past)
range_with s t (op.Get r i) base index n x named holds is past = get_range s t r i n x (held_there s t r i base index n named holds) is (past_there r i base index (length x.values) named past)
range_with s t (op.Swap d r i source) base index n x named holds is past = swap_range s t d r i source n x (held_there s t r i base index n named holds) is (past_there r i base index (length x.refs) named past)
range_with s t (op.Add r i value) base index n x named holds is past = add_range s t r i value n x (held_there s t r i base index n named holds) is (past_there r i base index (length x.values) named past)
range_with s t (op.Move d source) base index n x named holds is past = absurd (cc)
range_with s t (op.Nil d) base index n x named holds is past = absurd (cc)
range_with s t (op.Same left right) base index n x named holds is past = absurd (cc)
range_with s t op.Pause base index n x named holds is past = absurd (cc)
range_with s t op.Collect base index n x named holds is past = absurd (cc)
range_with s t op.End base index n x named holds is past = absurd (cc)

-- so a mutator that finds neither a reference nor a data word answers
pub range_answers : (t : Tables) (blocks : ℕ) (at : Name → ℕ) (m : Moment) (v : ThreadState) (o : Op) → Acts t blocks at m v → MayFindNone t v o → Answers at m v o reply.Range v.registers
range_answers t blocks at m v o known may =
    let reads = may.reads in
    let found = base_held t blocks at m v o may.place may.index known reads.does reads.on in
    let told = told_is t blocks at m.state.graph (members m) found.name reads.name found.object may.shape may.place known.image found.member found.is found.stands reads.told in
    answers_still t blocks at m v o reply.Range m.state known
    (range_with m.state v.thread o found.base may.index found.name found.object found.named found.holds found.is (subst (λ z. indexed o z ≤ may.index) told.1 may.past)) refl

-- a load or a swap takes the place of the reference that the model finds
pub record Takes (t : Tables) (at : Name → ℕ) (m : Moment) (v : ThreadState) (o : Op) (dest place index : ℕ) : Type 0 where
  pub found : Option Name
  pub answers : Answers at m v o (found_reply o found) (slice_set v.registers dest (place_in (t.heap (field_word place index))))
  pub place_is : (place_in (t.heap (field_word place index))).0 ≡ place_word at found

-- an operation that takes such a reference into a register, where it leads to a state with the registers of before but for this one
take_answers : (t : Tables) (blocks : ℕ) (at : Name → ℕ) (m : Moment) (v : ThreadState) (o : Op) (r : Reply) (dest : ℕ) (found : Option Name) (s : State) → Acts t blocks at m v → dest < REGISTERS → s.registers ≡ m.state.registers
    → step m.state v.thread o ≡ (with_register s v.thread dest found, r) → (p : Place) → p.0 ≡ place_word at found → Answers at m v o r (slice_set v.registers dest p)
take_answers t blocks at m v o r dest found s known small same steps p place_is =
    answers_by at m v o r (slice_set v.registers dest p) (with_register s v.thread dest found) steps
    (set_holds s at v dest (length m.state.graph) p found (same_registers m.state s at v known.holds same) known.thread known.row (ap length same ∙ known.follows.registers) small place_is)

-- a load of a reference that is known
pub load_answers : (t : Tables) (blocks : ℕ) (at : Name → ℕ) (m : Moment) (v : ThreadState) (dest base place index : ℕ) → Acts t blocks at m v → Does v (op.Load dest base index) → KnowsReference m at v place index
    → Takes t at m v (op.Load dest base index) dest place index
load_answers t blocks at m v dest base place index known does knows =
    let o : Op = op.Load dest base index in
    let there = reference_base t blocks at m v o place index known does knows in
    let of = there.of in
    let found : Option Name = get_or of.object.refs index None in
    let place_is = reference_read t blocks at m v o place index known there in
    record {
      found = found;
      answers = take_answers t blocks at m v o (reply.Loaded found) dest found m.state known (op_formed v o known.formed does).0 refl
          (load_ok m.state v.thread dest base index of.name of.object (base_holds at m v o place index base of refl) of.is there.within)
          (place_in (t.heap (field_word place index))) place_is;
      place_is = place_is;
    }

-- a swap of one
pub swap_answers : (t : Tables) (blocks : ℕ) (at : Name → ℕ) (m : Moment) (v : ThreadState) (dest base place index source : ℕ) → Acts t blocks at m v → Does v (op.Swap dest base index source) → KnowsReference m at v place index
    → Takes t at m v (op.Swap dest base index source) dest place index
swap_answers t blocks at m v dest base place index source known does knows =
    let o : Op = op.Swap dest base index source in
    let there = reference_base t blocks at m v o place index known does knows in
    let of = there.of in
    let found : Option Name = get_or of.object.refs index None in
    let place_is = reference_read t blocks at m v o place index known there in
    record {
      found = found;
      answers = take_answers t blocks at m v o (reply.Swapped found) dest found (record m.state { graph = with_reference m.state.graph of.name index (register_at m.state v.thread source) (Some of.object) })
          known (op_formed v o known.formed does).0 refl
          (swap_ok m.state v.thread dest base index source of.name of.object (base_holds at m v o place index base of refl) of.is there.within)
          (place_in (t.heap (field_word place index))) place_is;
      place_is = place_is;
    }

-- a store to a reference that is known
pub store_answers : (t : Tables) (blocks : ℕ) (at : Name → ℕ) (m : Moment) (v : ThreadState) (base place index source : ℕ) → Acts t blocks at m v → Does v (op.Store base index source) → KnowsReference m at v place index
    → Answers at m v (op.Store base index source) reply.Stored v.registers
store_answers t blocks at m v base place index source known does knows =
    let o : Op = op.Store base index source in
    let found = reference_base t blocks at m v o place index known does knows in
    let of = found.of in
    answers_still t blocks at m v o reply.Stored (record m.state { graph = with_reference m.state.graph of.name index (register_at m.state v.thread source) (Some of.object) }) known
    (store_ok m.state v.thread base index source of.name of.object (base_holds at m v o place index base of refl) of.is found.within) refl

-- a put to a data word that is known
pub put_answers : (t : Tables) (blocks : ℕ) (at : Name → ℕ) (m : Moment) (v : ThreadState) (base place refs index value : ℕ) → Acts t blocks at m v → Does v (op.Put base index value) → KnowsValue m at v place refs index
    → Answers at m v (op.Put base index value) reply.Put v.registers
put_answers t blocks at m v base place refs index value known does knows =
    let o : Op = op.Put base index value in
    let found = value_base t blocks at m v o place refs index known does knows in
    let of = found.of in
    answers_still t blocks at m v o reply.Put (record m.state { graph = with_value m.state.graph of.name index value (Some of.object) }) known
    (put_ok m.state v.thread base index value of.name of.object (base_holds at m v o place index base of refl) of.is found.within) refl

-- a get of a data word that is known
pub get_answers : (t : Tables) (blocks : ℕ) (at : Name → ℕ) (m : Moment) (v : ThreadState) (base place refs index : ℕ) → Acts t blocks at m v → Does v (op.Get base index) → KnowsValue m at v place refs index
    → Answers at m v (op.Get base index) (reply.Got (t.heap (value_word place refs index))) v.registers
get_answers t blocks at m v base place refs index known does knows =
    let o : Op = op.Get base index in
    let found = value_base t blocks at m v o place refs index known does knows in
    let of = found.of in
    answers_still t blocks at m v o (reply.Got (t.heap (value_word place refs index))) m.state known
    (get_ok m.state v.thread base index of.name of.object (base_holds at m v o place index base of refl) of.is found.within
    ∙ ap (λ z. (m.state, reply.Got z)) (sym (value_read t blocks at m v o place refs index known found))) refl

-- an add to one
pub add_answers : (t : Tables) (blocks : ℕ) (at : Name → ℕ) (m : Moment) (v : ThreadState) (base place refs index value : ℕ) → Acts t blocks at m v → Does v (op.Add base index value) → KnowsValue m at v place refs index
    → Answers at m v (op.Add base index value) (reply.Added (t.heap (value_word place refs index))) v.registers
add_answers t blocks at m v base place refs index value known does knows =
    let o : Op = op.Add base index value in
    let found = value_base t blocks at m v o place refs index known does knows in
    let of = found.of in
    let after : State = record m.state { graph = with_value m.state.graph of.name index ((get_or of.object.values index 0 + value) % 2 ^ 64) (Some of.object) } in
    answers_still t blocks at m v o (reply.Added (t.heap (value_word place refs index))) after known
    (add_ok m.state v.thread base index value of.name of.object (base_holds at m v o place index base of refl) of.is found.within
    ∙ ap (λ z. (after, reply.Added z)) (sym (value_read t blocks at m v o place refs index known found))) refl
