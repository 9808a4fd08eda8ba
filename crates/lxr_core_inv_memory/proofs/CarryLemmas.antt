-- What a call of the model leaves of the objects that stand: they have their shapes, and a `new` alone makes one.
use Rattle.std.proofs.Common.{◌≡◌, ℕ, ◌<◌, ◌≤◌, refl, sym, ap, ◌∙◌, inl, inr, arith, List, ◌∷◌, length}
use Rattle.std.specs.Prelude.{⊤, Option, Some, None, IsTrue, slice_get}
use Rattle.lxr_layout.specs.declared.Name.{Name}
use Rattle.lxr_graph.specs.declared.Op.{Op}
use Rattle.lxr_graph.specs.declared.Op.TheVariants as op
use Rattle.lxr_graph.specs.declared.Reply.TheVariants as reply
use Rattle.lxr_graph.specs.History.{Call}
use Rattle.lxr_graph.specs.Names.{has}
use Rattle.lxr_graph.specs.State.{Object, State, object_at, refs_of, values_of, register_at}
use Rattle.lxr_graph.specs.Step.{add_to, added, get_from, got, load_from, loaded, put_at, put_to, step, store_to, stored, swap_in, swapped}
use Rattle.lxr_image.specs.Tables.{Tables}
use Rattle.lxr_image.specs.Image.{granules_of}
use Rattle.lxr_model.specs.Moments.{Field, Moment, after_call}
use Rattle.lxr_model.proofs.HistoryLemmas.{made_cases, made_old}
use Rattle.lxr_model_counting.specs.Following.{FollowsPause, HasShapeOf}
use Rattle.lxr_model_counting.proofs.ReplyLemmas.{state_after_step}
use Rattle.lxr_model_counting.proofs.StoreLemmas.{step_keeps}
use Rattle.lxr_invariant.specs.AbstractState.{members}
use Rattle.lxr_invariant.specs.Lines.{Covers}
use Rattle.lxr_invariant.proofs.NameLemmas.{in_either, in_first, in_second}
use Rattle.lxr_core_invariant.specs.ThreadStates.{ThreadState}
use Rattle.lxr_core_invariant.specs.EpochStates.{Beginning, EpochState, moment_of}
use Rattle.lxr_core_invariant.specs.Drawn.{IsOfMember}
use Rattle.lxr_core_invariant.specs.Epoch.{IsEpoch}
use Rattle.lxr_core_invariant.proofs.ActingLemmas.{acts}

-- ---- what a call that isn't a `new` makes

-- an operation that is no `new`
abbrev pub IsNoNew : Op → Type 0
IsNoNew (op.New dest shape) = ⊥
IsNoNew _ = ⊤

-- a load replies no new name, by what it found
loaded_none : (s : State) (t dest : ℕ) (found : Option (Option Name)) (n : Name) → (loaded s t dest found).1 ≡ reply.New n → ⊥
loaded_none s t dest None n e = cc
loaded_none s t dest (Some v) n e = cc

-- nor by what its base register holds
load_none : (s : State) (t dest i : ℕ) (base : Option Name) (n : Name) → (load_from s t dest i base).1 ≡ reply.New n → ⊥
load_none s t dest i None n e = cc
load_none s t dest i (Some b) n e = loaded_none s t dest (slice_get (refs_of (object_at s.graph b)) i) n e

-- a store replies no new name, by what it found
stored_none : (s : State) (b : Name) (i : ℕ) (v : Option Name) (found : Option (Option Name)) (n : Name) → (stored s b i v found).1 ≡ reply.New n → ⊥
stored_none s b i v None n e = cc
stored_none s b i v (Some old) n e = cc

-- nor by what its base register holds
store_none : (s : State) (i : ℕ) (v base : Option Name) (n : Name) → (store_to s i v base).1 ≡ reply.New n → ⊥
store_none s i v None n e = cc
store_none s i v (Some b) n e = stored_none s b i v (slice_get (refs_of (object_at s.graph b)) i) n e

-- a swap replies no new name, by what it found
swapped_none : (s : State) (t dest : ℕ) (b : Name) (i : ℕ) (v : Option Name) (found : Option (Option Name)) (n : Name) → (swapped s t dest b i v found).1 ≡ reply.New n → ⊥
swapped_none s t dest b i v None n e = cc
swapped_none s t dest b i v (Some old) n e = cc

-- nor by what its base register holds
swap_none : (s : State) (t dest i : ℕ) (v base : Option Name) (n : Name) → (swap_in s t dest i v base).1 ≡ reply.New n → ⊥
swap_none s t dest i v None n e = cc
swap_none s t dest i v (Some b) n e = swapped_none s t dest b i v (slice_get (refs_of (object_at s.graph b)) i) n e

-- a put replies no new name, by what it found
put_found_none : (s : State) (b : Name) (i v : ℕ) (found : Option ℕ) (n : Name) → (put_at s b i v found).1 ≡ reply.New n → ⊥
put_found_none s b i v None n e = cc
put_found_none s b i v (Some old) n e = cc

-- nor by what its base register holds
put_none : (s : State) (i v : ℕ) (base : Option Name) (n : Name) → (put_to s i v base).1 ≡ reply.New n → ⊥
put_none s i v None n e = cc
put_none s i v (Some b) n e = put_found_none s b i v (slice_get (values_of (object_at s.graph b)) i) n e

-- an add replies no new name, by what it found
added_none : (s : State) (b : Name) (i v : ℕ) (found : Option ℕ) (n : Name) → (added s b i v found).1 ≡ reply.New n → ⊥
added_none s b i v None n e = cc
added_none s b i v (Some old) n e = cc

-- nor by what its base register holds
add_none : (s : State) (i v : ℕ) (base : Option Name) (n : Name) → (add_to s i v base).1 ≡ reply.New n → ⊥
add_none s i v None n e = cc
add_none s i v (Some b) n e = added_none s b i v (slice_get (values_of (object_at s.graph b)) i) n e

-- a get replies no new name, by what it found
got_none : (found : Option ℕ) (n : Name) → got found ≡ reply.New n → ⊥
got_none None n e = cc
got_none (Some v) n e = cc

-- nor by what its base register holds
get_none : (s : State) (i : ℕ) (base : Option Name) (n : Name) → (get_from s i base).1 ≡ reply.New n → ⊥
get_none s i None n e = cc
get_none s i (Some b) n e = got_none (slice_get (values_of (object_at s.graph b)) i) n e

-- it makes nothing
makes_none : (s : State) (t : ℕ) (o : Op) (n : Name) → IsNoNew o → (step s t o).1 ≡ reply.New n → ⊥
makes_none s t (op.New dest shape) n other e = other
makes_none s t (op.Load dest base index) n other e = load_none s t dest index (register_at s t base) n e
makes_none s t (op.Store base index source) n other e = store_none s index (register_at s t source) (register_at s t base) n e
makes_none s t (op.Put base index value) n other e = put_none s index value (register_at s t base) n e
makes_none s t (op.Get base index) n other e = get_none s index (register_at s t base) n e
makes_none s t (op.Swap dest base index source) n other e = swap_none s t dest index (register_at s t source) (register_at s t base) n e
makes_none s t (op.Add base index value) n other e = add_none s index value (register_at s t base) n e
makes_none s t (op.Move dest source) n other e = cc
makes_none s t (op.Nil dest) n other e = cc
makes_none s t (op.Same left right) n other e = cc
makes_none s t op.Pause n other e = cc
makes_none s t op.Collect n other e = cc
makes_none s t op.End n other e = cc

-- ---- objects from one epoch state to the next

-- objects of one shape take as many granules
pub granules_same : (a c : Object) → HasShapeOf c a → granules_of c ≡ granules_of a
granules_same a c h = let refs = h.refs in let values = h.values in omega (arith, refs, values)

-- where an object covers a granule, so does another of as many granules at the same place
pub covers_moved : (g h : List (List Object)) (at to : Name → ℕ) (n : Name) (o a : Object) (k : ℕ) → to n ≡ at n → granules_of o ≡ granules_of a → object_at g n ≡ Some a → Covers h to n o k → Covers g at n a k
covers_moved g h at to n o a k same size is covers =
    let first = covers.first in
    let behind = covers.behind in
    record { object = is; first = omega (arith, first, same); behind = omega (arith, behind, same, size) }

-- No object begins to stand: each member is one that was, where it was and of the shape that it had.
pub record Carries (b : Beginning) (s u : EpochState) : Type 0 where
  pub at : u.at ≡ s.at
  pub members : (n : Name) (g : ℕ) → IsOfMember b u n g → IsOfMember b s n g
  pub made : (n : Name) (o : Object) → IsTrue (has (moment_of b u).made n) → object_at (moment_of b u).state.graph n ≡ Some o
      → (a : Object) × IsTrue (has (moment_of b s).made n) × (object_at (moment_of b s).state.graph n ≡ Some a) × (granules_of o ≡ granules_of a)
  pub makes : (n : Name) → IsTrue (has (moment_of b s).made n) → IsTrue (has (moment_of b u).made n)

-- the history stays
pub still_carries : (b : Beginning) (s : EpochState) (t : Tables) (thread_states : List ThreadState) (cleared : List Field) → Carries b s (record s { tables = t; thread_states = thread_states; cleared = cleared })
still_carries b s t thread_states cleared = record { at = refl; members = λ n g of. record { member = of.member; object = of.object; covers = of.covers }; made = λ n o h is. (o, h, is, refl); makes = λ n h. h }

-- a moment and the one after a call that isn't a `new`
record Follows (m k : Moment) : Type 0 where
  was_made : (n : Name) → IsTrue (has k.made n) → IsTrue (has m.made n)
  is_made : (n : Name) → IsTrue (has m.made n) → IsTrue (has k.made n)
  unreclaimed : k.unreclaimed ≡ m.unreclaimed
  shapes : (n : Name) (a : Object) → object_at m.state.graph n ≡ Some a → (c : Object) × (object_at k.state.graph n ≡ Some c) × HasShapeOf c a

-- a call that is no `new` makes nothing and keeps shapes
call_follows : (m : Moment) (t : ℕ) (o : Op) → t < length m.state.graph → 1 ≤ t → FollowsPause m → IsNoNew o → Follows m (after_call m t o (step m.state t o).1)
call_follows m t o thread some lives other =
    let registers = lives.registers in
    let keeps = step_keeps m.state t o thread (omega (arith, registers, thread, some)) in
    record {
      was_made = λ n h. elim (made_cases m.made (step m.state t o).1 n h) [ inl k ↦ k | inr e ↦ absurd (makes_none m.state t o n other e) ];
      is_made = λ n h. made_old m.made (step m.state t o).1 n h;
      unreclaimed = refl;
      shapes = λ n a is. let now = keeps.shapes n a is in
          (now.0, ap (λ (z : State). object_at z.graph n) (state_after_step m.state t o) ∙ now.1, now.2);
    }

-- an operation that isn't a `new` stands
pub call_carries : (b : Beginning) (s : EpochState) (i : ℕ) (v : ThreadState) (o : Op) (t : Tables) (thread_states : List ThreadState) (cleared : List Field) → IsEpoch b s → slice_get s.thread_states i ≡ Some v → IsNoNew o
    → Carries b s (record s { tables = t; thread_states = thread_states; cleared = cleared; history = Call v.thread o (step (moment_of b s).state v.thread o).1 ∷ s.history })
call_carries b s i v o t thread_states cleared is there other =
    let m : Moment = moment_of b s in
    let k : Moment = after_call m v.thread o (step m.state v.thread o).1 in
    let known = acts b s i v is there in
    let follows = call_follows m v.thread o known.row known.thread is.lives other in
    let was_member : (n : Name) → IsTrue (has (members k) n) → IsTrue (has (members m) n) = λ n h. elim (in_either k.unreclaimed k.made n h) [
      | inl a ↦ in_first m.unreclaimed m.made n a
      | inr a ↦ in_second m.unreclaimed m.made n (follows.was_made n a)
    ] in
    let was : (n : Name) (c : Object) → IsTrue (has (members k) n) → object_at k.state.graph n ≡ Some c → (a : Object) × (object_at m.state.graph n ≡ Some a) × (granules_of c ≡ granules_of a) = λ n c h there.
    let a = is.image.placed.image.stands n (was_member n h) in
    let now = follows.shapes n a.0 a.1 in
    let both : Some c ≡ Some now.0 = sym there ∙ now.1 in
    let same : c ≡ now.0 = cc in
    (a.0, a.1, ap granules_of same ∙ granules_same a.0 now.0 now.2) in
    record {
      at = refl;
      members = λ n g of. let a = was n of.object of.member of.covers.object in
          record { member = was_member n of.member; object = a.0; covers = covers_moved m.state.graph k.state.graph s.at s.at n of.object a.0 g refl a.2 a.1 of.covers };
      made = λ n c h there. let a = was n c (in_second k.unreclaimed k.made n h) there in (a.0, follows.was_made n h, a.1, a.2);
      makes = follows.is_made;
    }
