-- A heap stands for the state behind a call, once its space and its bodies do. What depends on the state alone is one record, so that it is
-- carried over whole.
use Rattle.std.proofs.Common.{◌≡◌, ℕ, ◌+◌, ◌<◌, refl, sym, ap, subst, ◌∙◌, inl, inr, arith, true, false, List, [], ◌∷◌, length}
use Rattle.std.specs.List.{AllByRecursion}
use Rattle.lxr_layout.specs.declared.TheConstants.{REGISTERS}
use Rattle.lxr_layout.specs.declared.Name.{Name}
use Rattle.lxr_graph.specs.Names.{has, same_name}
use Rattle.lxr_graph.specs.State.{State, next_name, row_of}
use Rattle.lxr_graph.specs.Step.{state_after, step}
use Rattle.lxr_graph.specs.declared.Op.{Op}
use Rattle.lxr_graph.specs.declared.Op.TheVariants as op
use Rattle.lxr_graph.specs.declared.Reply.{Reply}
use Rattle.lxr_graph.specs.declared.Reply.TheVariants as reply
use Rattle.lxr_graph.proofs.NameSets.{same_names}
use Rattle.lxr_image.specs.declared.space.Space.{Space}
use Rattle.lxr_model.specs.Moments.{Moment, after_call, made_after}
use Rattle.lxr_model_counting.proofs.ReplyLemmas.{state_after_step}
use Rattle.lxr_model_counting.proofs.StoreLemmas.{shape_through, step_keeps}
use Rattle.lxr_graph.specs.State.{world}
use Rattle.lxr_full.specs.Room.{HasWorld}
use Rattle.lxr_direct.specs.Operating.{IsOfFirstVersion, KeepsBeside, MayOperate}
use Rattle.lxr_large_model.specs.declared.LargeOp.TheVariants as large_op
use Rattle.lxr_large_model.specs.declared.LargeReply.TheVariants as large_reply
use Rattle.lxr_large_model.specs.Full.{IsFresh, LargeReplies, LargeTerms}
use Rattle.lxr_large_model.specs.History.{LargeItem, Called, large_moment, large_state}
use Rattle.lxr_large_model.specs.State.{Large, LargeState}
use Rattle.lxr_large_model.specs.Step.{large_after}
use Rattle.lxr_large_bodies.specs.Bodies.{Held, rank_of}
use Rattle.lxr_large_bodies.specs.Kept.{HoldsBodies}
use Rattle.lxr_heap.specs.declared.heap.Heap.{Heap}
use Rattle.lxr_heap.specs.Acting.{IsRefusal}
use Rattle.lxr_heap.specs.Holding.{IsHeapOf, IsMade, StandAt, abstract_of, made_with, terms_of}
use Rattle.lxr_heap.proofs.BodyLemmas.{held_still, made_still}
use Rattle.lxr_heap.proofs.RowLemmas.{step_counts}

-- ---- what a heap is called with

pub one_thread : (x : Heap) (h : List LargeItem) → IsHeapOf x h → x.space.limits.threads ≡ 1
one_thread x h is = ap (λ l. l.threads) is.limits

-- the thread may do an operation, and its next object has the next number
pub may_operate : (x : Heap) (h : List LargeItem) → (is : IsHeapOf x h) → MayOperate x.space (abstract_of x h is.at) 1 (x.made + 1)
may_operate x h is =
    let one = one_thread x h is in
    record {
      rests = is.stands.0;
      untraced = is.untraced;
      thread = (omega arith, omega (arith, one));
      next = ap (λ (s : State). next_name s.graph 1) is.state ∙ is.next;
    }

-- a heap of a history is that with its objects at any places where they stand
abbrev pub standing : (x : Heap) (h : List LargeItem) → IsHeapOf x h → (at : Name → ℕ) → StandAt x h at → IsHeapOf x h
standing x h is at stands = record is { at = at; stands = stands }

-- ---- what depends on the state alone

pub record StandsFor (made : ℕ) (held : Held) (m : Moment) (s : LargeState) : Type 0 where
  pub state : m.state ≡ s.small
  pub world : HasWorld s.small.graph
  pub next : next_name s.small.graph 1 ≡ record { thread = 1; serial = made + 1 }
  pub names : AllByRecursion (IsMade made) s.large
  pub bodies : HoldsBodies held m s.large

pub stands : (x : Heap) (h : List LargeItem) → IsHeapOf x h → StandsFor x.made x.bodies (large_moment h) (large_state h)
stands x h is = record { state = is.state; world = is.world; next = is.next; names = is.names; bodies = is.bodies }

-- ---- names

-- names of more that were made
pub names_more : (made : ℕ) (ls : List Large) → AllByRecursion (IsMade made) ls → AllByRecursion (IsMade (made + 1)) ls
names_more made [] all = tt
names_more made (l ∷ ls) all = let le = all.0.serial in (record { thread = all.0.thread; serial = omega (arith, le) }, names_more made ls all.1)

-- what was made is named otherwise than what comes next
other_name : (made : ℕ) (l : Large) (n : Name) → n ≡ record { thread = 1; serial = made + 1 } → IsMade made l → same_name l.name n ≡ false
other_name made l n is was = elim (same_name l.name n) as (λ c. same_name l.name n ≡ c → c ≡ false) [
  | true ↦ λ same.
      let le = was.serial in
      let e : l.name.serial ≡ made + 1 = ap (λ (q : Name). q.serial) (same_names l.name n same ∙ is) in
      absurd (omega (arith, le, e))
  | false ↦ λ e. refl
] refl

pub other_names : (made : ℕ) (n : Name) (ls : List Large) → n ≡ record { thread = 1; serial = made + 1 } → AllByRecursion (IsMade made) ls → AllByRecursion (λ (l : Large). same_name l.name n ≡ false) ls
other_names made n [] is all = tt
other_names made n (l ∷ ls) is all = (other_name made l n is all.0, other_names made n ls is all.1)

-- and stands before it
lower_rank : (made : ℕ) (l : Large) (n : Name) → n ≡ record { thread = 1; serial = made + 1 } → IsMade made l → rank_of l.name < rank_of n
lower_rank made l n is was =
    let le = was.serial in
    let own = was.thread in
    let t : n.thread ≡ 1 = ap (λ (q : Name). q.thread) is in
    let s : n.serial ≡ made + 1 = ap (λ (q : Name). q.serial) is in
    omega (arith, le, own, t, s)

pub lower_and_other : (made : ℕ) (n : Name) (ls : List Large) → n ≡ record { thread = 1; serial = made + 1 } → AllByRecursion (IsMade made) ls
    → AllByRecursion (λ (l : Large). (rank_of l.name < rank_of n) × (same_name l.name n ≡ false)) ls
lower_and_other made n [] is all = tt
lower_and_other made n (l ∷ ls) is all = ((lower_rank made l n is all.0, other_name made l n is all.0), lower_and_other made n ls is all.1)

all_same : (ms ns : List Name) (ls : List Large) → ms ≡ ns → AllByRecursion (λ (l : Large). has ms l.name ≡ has ns l.name) ls
all_same ms ns [] e = tt
all_same ms ns (l ∷ ls) e = (ap (λ z. has z l.name) e, all_same ms ns ls e)

-- ---- one step

-- the next name, where a row is as long as the reply tells
pub next_after : (s : State) (s' : State) (made : ℕ) (r : Reply) → length (row_of s'.graph 1) ≡ made_with (length (row_of s.graph 1)) r → next_name s.graph 1 ≡ record { thread = 1; serial = made + 1 }
    → next_name s'.graph 1 ≡ record { thread = 1; serial = made_with made r + 1 }
next_after s s' made (reply.New n) long next = let k = ap (λ (q : Name). q.serial) next in ap (λ i. record { thread = 1; serial = i }) (omega (arith, long, k))
next_after s s' made r long next = let k = ap (λ (q : Name). q.serial) next in ap (λ i. record { thread = 1; serial = i }) (ap (λ i. i + 1) long ∙ k)

names_with : (made : ℕ) (r : Reply) (ls : List Large) → AllByRecursion (IsMade made) ls → AllByRecursion (IsMade (made_with made r)) ls
names_with made (reply.New n) ls all = names_more made ls all
names_with made _ ls all = all

-- a step of the object graph
pub stepped : (made : ℕ) (held : Held) (m : Moment) (s : LargeState) (o : Op) (r : Reply) → 1 < length m.state.graph → length m.state.registers ≡ REGISTERS → IsOfFirstVersion o → r ≡ (step m.state 1 o).1
    → StandsFor made held m s → StandsFor (made_with made r) held (after_call m 1 o r) (record s { small = (step s.small 1 o).0 })
stepped made held m s o r rows many first is old =
    let there : 1 < length s.small.graph = subst (λ (z : State). 1 < length z.graph) old.state rows in
    let all : length s.small.registers ≡ REGISTERS = subst (λ (z : State). length z.registers ≡ REGISTERS) old.state many in
    let counts = step_counts s.small o there first in
    let told : r ≡ (step s.small 1 o).1 = is ∙ ap (λ (z : State). (step z 1 o).1) old.state in
    let keeps = step_keeps s.small 1 o there (omega (arith, all)) in
    let now = keeps.shapes (record { thread = 0; serial = 0 }) old.world.0 old.world.1 in
    record {
      state = ap (state_after m.state 1 o) is ∙ state_after_step m.state 1 o ∙ ap (λ (z : State). (step z 1 o).0) old.state;
      world = (now.0, now.1, shape_through world old.world.0 now.0 now.2 old.world.2);
      next = next_after s.small (step s.small 1 o).0 made r (counts.length ∙ ap (made_with (length (row_of s.small.graph 1))) (sym told)) old.next;
      names = names_with made r s.large old.names;
      bodies = held_still m (after_call m 1 o r) held.bodies s.large refl
          (elim (counts.made m.made) [
            | inl e ↦ all_same (made_after m.made r) m.made s.large (ap (made_after m.made) told ∙ e)
            | inr e ↦ subst (λ ns. AllByRecursion (λ (l : Large). has ns l.name ≡ has m.made l.name) s.large) (sym (ap (made_after m.made) told ∙ e))
                (made_still (next_name s.small.graph 1) m.made s.large (other_names made (next_name s.small.graph 1) s.large old.next old.names))
          ]) old.bodies;
    }

-- ---- what a reply of a step says of states and histories

pub record IsStep (terms : LargeTerms) (h : List LargeItem) (o : Op) (r : Reply) : Type 0 where
  pub replies : LargeReplies terms h (large_op.Small o) (large_reply.Small r)
  pub state : large_after (large_state h) (large_op.Small o) (large_reply.Small r) ≡ record (large_state h) { small = (step (large_state h).small 1 o).0 }
  pub stale : IsFresh (Called (large_op.Small o) (large_reply.Small r) ∷ h) → ⊥
  pub refused : IsRefusal (large_op.Small o) (large_reply.Small r) → ⊥

is_step : (terms : LargeTerms) (h : List LargeItem) (o : Op) → IsStep terms h o (step (large_state h).small 1 o).1
is_step terms h (op.New dest shape) = record { replies = refl; state = refl; stale = λ no. no; refused = λ no. no }
is_step terms h o = record { replies = refl; state = refl; stale = λ no. no; refused = λ no. no }

pub is_step_of : (terms : LargeTerms) (h : List LargeItem) (m : Moment) (o : Op) (r : Reply) → m.state ≡ (large_state h).small → r ≡ (step m.state 1 o).1 → IsStep terms h o r
is_step_of terms h m o r same is = subst (IsStep terms h o) (sym (is ∙ ap (λ (z : State). (step z 1 o).1) same)) (is_step terms h o)

-- ---- the heap behind a call

-- the heap with another space and other bodies, that has made so many, and behind which no pause is fresh
abbrev pub behind : Heap → Space → Held → ℕ → Heap
behind x space held made = record x { space = space; bodies = held; made = made; fresh = false }

-- what a call leaves of a space
pub record Keeps (before after : Space) : Type 0 where
  pub limits : after.limits ≡ before.limits
  pub tally : after.tally ≡ before.tally
  pub pauses : after.pauses ≡ before.pauses

pub keeps_beside : (before after : Space) → KeepsBeside before after → Keeps before after
keeps_beside before after e = record { limits = ap (λ (s : Space). s.limits) e; tally = ap (λ (s : Space). s.tally) e; pauses = ap (λ (s : Space). s.pauses) e }

pub same_terms : (x : Heap) (space : Space) (held : Held) (made : ℕ) → Keeps x.space space → held.blocks ≡ x.bodies.blocks → terms_of (behind x space held made) ≡ terms_of x
same_terms x space held made keeps blocks = λ i. record { blocks = (keeps.limits i).blocks; bodies = blocks i; registers = (keeps.limits i).registers }
