-- What is known of a mutator as an event happens to it.
use Rattle.std.proofs.Common.{◌≡◌, ◌≢◌, ℕ, ◌+◌, ◌-◌, ◌*◌, ◌<◌, ◌≤◌, refl, sym, ap, subst, ◌∙◌, inl, inr, ◌⊎◌, arith, List, length}
use Rattle.std.specs.Prelude.{All, Option, Some, None, IsTrue, slice_get}
use Rattle.std.specs.Option.{option_map_or}
use Rattle.std.proofs.lemmas.List.{length-map}
use Rattle.std.proofs.lemmas.Option.{slice_get_within}
use Rattle.lxr_layout.specs.declared.TheConstants.{MOST_BLOCKS, REGISTERS}
use Rattle.lxr_layout.specs.declared.Name.{Name}
use Rattle.lxr_layout.specs.declared.Place.{Place}
use Rattle.lxr_graph.specs.declared.Op.{Op}
use Rattle.lxr_graph.specs.declared.Op.TheVariants as op
use Rattle.lxr_graph.specs.History.{Item}
use Rattle.lxr_graph.specs.Names.{has}
use Rattle.lxr_graph.specs.State.{Object, object_at, register_at}
use Rattle.lxr_graph.specs.Step.{IsWellFormed}
use Rattle.lxr_image.specs.Tables.{Tables}
use Rattle.lxr_image.specs.Image.{IsImage, place_word}
use Rattle.lxr_model.specs.Moments.{Moment, moment}
use Rattle.lxr_model_counting.specs.Following.{FollowsPause}
use Rattle.lxr_invariant.specs.AbstractState.{members}
use Rattle.lxr_core_invariant.specs.ThreadStates.{ThreadState, held}
use Rattle.lxr_core_invariant.specs.EpochStates.{Beginning, Extends, EpochState, same, called, limits_of, moment_of}
use Rattle.lxr_core_invariant.specs.Events.{Does, WorksOn, base_of}
use Rattle.lxr_core_invariant.specs.Imaged.{HoldsRegisters, KnowsReference, KnowsValue}
use Rattle.lxr_core_invariant.specs.Epoch.{IsEpoch}
use Rattle.lxr_core_invariant.proofs.HeldLemmas.{IsHeld, in_register}
use Rattle.lxr_core_invariant.proofs.TellingLemmas.{one_place, placed_there}
use Rattle.lxr_core_invariant.proofs.ShowingLemmas.{op_formed}

-- A mutator acts on the image of a moment: its registers hold what those of its thread do, its operations are well formed,
-- and its thread is one of the model's.
pub record Acts (t : Tables) (blocks : ℕ) (at : Name → ℕ) (m : Moment) (v : ThreadState) : Type 0 where
  pub few : blocks ≤ MOST_BLOCKS
  pub follows : FollowsPause m
  pub image : IsImage t blocks at m.state.graph (members m)
  pub holds : HoldsRegisters m.state at v
  pub formed : All IsWellFormed v.operations
  pub thread : 1 ≤ v.thread
  pub row : v.thread < length m.state.graph

-- calls leave the state of the last pause
pub last_stays : (threads every : ℕ) (h k : List Item) → Extends threads every h k → (moment threads k).last ≡ (moment threads h).last
last_stays threads every h k (same) = refl
last_stays threads every h k (called l t o r before is) = last_stays threads every h l before

-- a history that goes on is the same, or longer
pub same_or_longer : (threads every : ℕ) (h k : List Item) → Extends threads every h k → (k ≡ h) ⊎ (length h < length k)
same_or_longer threads every h k (same) = inl refl
same_or_longer threads every h k (called l t o r before is) = elim (same_or_longer threads every h l before) [
  | inl e ↦ let as_long = ap length e in inr (omega (arith, as_long))
  | inr longer ↦ inr (omega (arith, longer))
]

-- rows are counted by registers, 256 for each but the world's
as_many_rows : (registers before now last threads : ℕ) → registers ≡ REGISTERS * threads → registers ≡ REGISTERS * (before - 1) → now ≡ last → before ≡ last → 1 ≤ threads → now ≡ threads + 1
as_many_rows registers before now last threads a b c d e = omega arith

-- the graph has a row for the world and one for each thread
pub row_count : (b : Beginning) (s : EpochState) (i : ℕ) → IsEpoch b s → i < (limits_of b).threads → length (moment_of b s).state.graph ≡ (limits_of b).threads + 1
row_count b s i is small =
    let holds = is.begins.between.safepoint.holds in
    let words : length b.space.registers.items ≡ length b.abstract_state.moment.state.registers =
    sym (length-map b.space.registers.items (λ (p : Place). p.0)) ∙ ap length holds.image.registers ∙ length-map b.abstract_state.moment.state.registers (place_word b.abstract_state.at) in
    let last : (moment_of b s).last ≡ b.abstract_state.moment.last =
    last_stays (limits_of b).threads b.every b.history s.history is.extends ∙ sym (ap (λ z. z.last) is.begins.moment) in
    as_many_rows (length b.space.registers.items) (length b.abstract_state.moment.state.graph) (length (moment_of b s).state.graph) (length b.abstract_state.moment.last.graph) (limits_of b).threads
    holds.as_many.0 (words ∙ holds.follows.registers) (is.lives.rows ∙ ap (λ z. length z.graph) last) holds.follows.rows (omega arith)

-- so it is of each mutator in an epoch
pub acts : (b : Beginning) (s : EpochState) (i : ℕ) (v : ThreadState) → IsEpoch b s → slice_get s.thread_states i ≡ Some v → Acts s.tables (limits_of b).blocks s.at (moment_of b s) v
acts b s i v is shown =
    let number = is.called.threads i v shown in
    let within = slice_get_within s.thread_states i v shown in
    let small : i < (limits_of b).threads = let e = is.called.as_many in omega (arith, e, within) in
    let rows = row_count b s i is small in
    record {
      few = is.begins.between.safepoint.holds.space.limits.blocks.1;
      follows = is.lives;
      image = is.image.placed.image;
      holds = is.image.registers i v shown;
      formed = (is.called.each i v shown).formed;
      thread = omega (arith, number);
      row = omega (arith, number, rows, small);
    }

-- ---- what a mutator works on

-- the object that a mutator works on, by a base register and an index
pub record IsBase (at : Name → ℕ) (m : Moment) (v : ThreadState) (o : Op) (place index : ℕ) : Type 0 where
  pub base : ℕ
  pub named : base_of o ≡ Some (base, index)
  pub name : Name
  pub object : Object
  pub holds : register_at m.state v.thread base ≡ Some name
  pub member : IsTrue (has (members m) name)
  pub is : object_at m.state.graph name ≡ Some object
  pub stands : place ≡ at name

-- a register and an index that are equal as a pair
pub same_pair : (a b c d : ℕ) → ◌≡◌ {A = Option (ℕ × ℕ)} (Some (a, b)) (Some (c, d)) → (a ≡ c) × (b ≡ d)
same_pair a b c d e = (ap (λ (z : Option (ℕ × ℕ)). option_map_or (λ (q : ℕ × ℕ). q.0) z a) e, ap (λ (z : Option (ℕ × ℕ)). option_map_or (λ (q : ℕ × ℕ). q.1) z b) e)

-- the base register is one of 256
base_small : (o : Op) (base index : ℕ) → IsWellFormed o → base_of o ≡ Some (base, index) → base < REGISTERS
base_small (op.New d shape) base index formed e = absurd (cc)
base_small (op.Load d r i) base index formed e = let k = (same_pair r i base index e).0 in subst (λ z. z < REGISTERS) k formed.1
base_small (op.Store r i source) base index formed e = let k = (same_pair r i base index e).0 in subst (λ z. z < REGISTERS) k formed.0
base_small (op.Put r i value) base index formed e = let k = (same_pair r i base index e).0 in subst (λ z. z < REGISTERS) k formed
base_small (op.Get r i) base index formed e = let k = (same_pair r i base index e).0 in subst (λ z. z < REGISTERS) k formed
base_small (op.Swap d r i source) base index formed e = let k = (same_pair r i base index e).0 in subst (λ z. z < REGISTERS) k formed.1
base_small (op.Add r i value) base index formed e = let k = (same_pair r i base index e).0 in subst (λ z. z < REGISTERS) k formed
base_small (op.Move d source) base index formed e = absurd (cc)
base_small (op.Nil d) base index formed e = absurd (cc)
base_small (op.Same left right) base index formed e = absurd (cc)
base_small op.Pause base index formed e = absurd (cc)
base_small op.Collect base index formed e = absurd (cc)
base_small op.End base index formed e = absurd (cc)

-- a base register whose place isn't nil
base_with : (t : Tables) (blocks : ℕ) (at : Name → ℕ) (m : Moment) (v : ThreadState) (o : Op) (place base index : ℕ) (found : Option Name) → Acts t blocks at m v → base_of o ≡ Some (base, index)
    → place ≢ 0 → register_at m.state v.thread base ≡ found → place ≡ place_word at found → IsHeld m found → IsBase at m v o place index
base_with t blocks at m v o place base index None known named some holds stands member = absurd (some stands)
base_with t blocks at m v o place base index (Some n) known named some holds stands member =
    let there = known.image.stands n member in
    record { base = base; named = named; name = n; object = there.0; holds = holds; member = member; is = there.1; stands = stands }

-- a base register that isn't nil holds a member
pub base_held : (t : Tables) (blocks : ℕ) (at : Name → ℕ) (m : Moment) (v : ThreadState) (o : Op) (place index : ℕ) → Acts t blocks at m v → Does v o → WorksOn v place index → IsBase at m v o place index
base_held t blocks at m v o place index known does on =
    let same_op : Some on.now ≡ Some o = sym on.is ∙ does in
    let now : on.now ≡ o = cc in
    let named : base_of o ≡ Some (on.base, index) = ap base_of (sym now) ∙ on.named in
    let small = base_small o on.base index (op_formed v o known.formed does) named in
    base_with t blocks at m v o place on.base index (register_at m.state v.thread on.base) known named on.some refl (sym on.held ∙ known.holds.places on.base small) (in_register m v.thread on.base known.follows)

-- the base register of the operation holds it
pub base_holds : (at : Name → ℕ) (m : Moment) (v : ThreadState) (o : Op) (place index base : ℕ) → (of : IsBase at m v o place index) → base_of o ≡ Some (base, index) → register_at m.state v.thread base ≡ Some of.name
base_holds at m v o place index base of e = ap (register_at m.state v.thread) (same_pair base index of.base index (sym e ∙ of.named)).0 ∙ of.holds

-- a base register that is nil holds nothing
pub base_nil : (t : Tables) (blocks : ℕ) (at : Name → ℕ) (m : Moment) (v : ThreadState) (base : ℕ) → Acts t blocks at m v → base < REGISTERS → (held v base).0 ≡ 0 → register_at m.state v.thread base ≡ None
base_nil t blocks at m v base known small nothing =
    nil_with (register_at m.state v.thread base) (in_register m v.thread base known.follows) (sym (known.holds.places base small) ∙ nothing)
  where
    nil_with : (found : Option Name) → IsHeld m found → place_word at found ≡ 0 → found ≡ None
    nil_with None member e = refl
    nil_with (Some n) member e = absurd (placed_there t blocks at m.state.graph (members m) n known.image member e)

-- a reference that a mutator knows is one of the object that its base register holds
pub record IsReferenceBase (at : Name → ℕ) (m : Moment) (v : ThreadState) (o : Op) (place index : ℕ) : Type 0 where
  pub of : IsBase at m v o place index
  pub within : index < length of.object.refs

-- so it is of each reference that is known
pub reference_base : (t : Tables) (blocks : ℕ) (at : Name → ℕ) (m : Moment) (v : ThreadState) (o : Op) (place index : ℕ) → Acts t blocks at m v → Does v o → KnowsReference m at v place index
    → IsReferenceBase at m v o place index
reference_base t blocks at m v o place index known does knows =
    let found = base_held t blocks at m v o place index known does knows.on in
    let st = knows.stands in
    let name : st.name ≡ found.name = one_place t blocks at m.state.graph (members m) st.name found.name known.image st.member found.member (sym st.stands ∙ found.stands) in
    let e : Some st.object ≡ Some found.object = sym st.is ∙ ap (object_at m.state.graph) name ∙ found.is in
    let same : st.object ≡ found.object = cc in
    record { of = found; within = subst (λ z. index < length z.refs) same st.within }

-- and so for a data word
pub record IsValueBase (at : Name → ℕ) (m : Moment) (v : ThreadState) (o : Op) (place refs index : ℕ) : Type 0 where
  pub of : IsBase at m v o place index
  pub refs_are : refs ≡ length of.object.refs
  pub within : index < length of.object.values

-- and of each data word that is known
pub value_base : (t : Tables) (blocks : ℕ) (at : Name → ℕ) (m : Moment) (v : ThreadState) (o : Op) (place refs index : ℕ) → Acts t blocks at m v → Does v o → KnowsValue m at v place refs index
    → IsValueBase at m v o place refs index
value_base t blocks at m v o place refs index known does knows =
    let found = base_held t blocks at m v o place index known does knows.on in
    let st = knows.stands in
    let name : st.name ≡ found.name = one_place t blocks at m.state.graph (members m) st.name found.name known.image st.member found.member (sym st.stands ∙ found.stands) in
    let e : Some st.object ≡ Some found.object = sym st.is ∙ ap (object_at m.state.graph) name ∙ found.is in
    let same : st.object ≡ found.object = cc in
    record { of = found; refs_are = subst (λ z. refs ≡ length z.refs) same st.refs_are; within = subst (λ z. index < length z.values) same st.within }
