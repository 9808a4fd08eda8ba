-- What evacuation does: objects of Chosen blocks are moved away, and what referred to them refers to their new places.
use Rattle.std.specs.Prelude.{◌≡◌, ◌≢◌, ℕ, ◌+◌, ◌*◌, ◌%◌, ◌^◌, ◌≤◌, ◌↔◌, ◌⊎◌, false, Some, List, [], IsTrue, length, slice_get}
use Rattle.lxr_layout.specs.declared.Name.{Name}
use Rattle.lxr_layout.specs.declared.TheConstants.{DECREMENT_COUNT, GRANULES_IN_BLOCK}
use Rattle.lxr_layout.specs.Objects.{moved_word}
use Rattle.lxr_layout.specs.Places.{first_word}
use Rattle.lxr_graph.specs.Names.{IsSetOf, has}
use Rattle.lxr_graph.specs.State.{Object, object_at, refs_of, shape_of}
use Rattle.lxr_image.specs.declared.space.Space.{Space}
use Rattle.lxr_image.specs.Spaces.{tables_of}
use Rattle.lxr_blocks.specs.Placing.{IsFull}
use Rattle.lxr_blocks.specs.States.{KeepsState}
use Rattle.lxr_model.specs.Moments.{Moment}
use Rattle.lxr_invariant.specs.Copied.{CopiesLieOnFreeLines, HasCopy, HasWord}
use Rattle.lxr_invariant.specs.Counting.{IsUndecremented}
use Rattle.lxr_invariant.specs.Quiescent.{HoldsMoment}
use Rattle.lxr_invariant.specs.Settled.{IsSettled}
use Rattle.lxr_invariant.specs.Standing.{word_of_field}
use Rattle.lxr_invariant.specs.Tracing.{HasOverflowed, IsGray, IsInChosen, IsMarked}
use Rattle.lxr_remset.specs.Remembering.{RemembersChosen}
use Rattle.lxr_evac_moving.specs.declared.evacuating.Evacuated.{Evacuated}

-- The objects of Chosen blocks may be moved away: counting is done and no decrement waits, and each reference that leads to one of them is
-- remembered, or the set has overflowed.
pub record CanEvacuate (s : Space) (m : Moment) (at : Name → ℕ) : Type 0 where
  pub holds : HoldsMoment s m at
  pub settled : IsSettled m
  pub undecremented : IsUndecremented (tables_of s) m at
  pub empty : (tables_of s).cursors DECREMENT_COUNT ≡ 0
  pub remembers : RemembersChosen s.limits (tables_of s) m at

-- an unreclaimed object stands in a Chosen block
pub record IsToMove (s : Space) (m : Moment) (at : Name → ℕ) (n : Name) : Type 0 where
  pub member : IsTrue (has m.unreclaimed n)
  pub chosen : IsInChosen (tables_of s) at n

-- a heap word is a reference of an unreclaimed object to one of these names
pub record RefersToOne (m : Moment) (at : Name → ℕ) (names : List Name) (w : ℕ) : Type 0 where
  pub holder : Name
  pub held : Name
  pub index : ℕ
  pub member : IsTrue (has m.unreclaimed holder)
  pub holds : slice_get (refs_of (object_at m.state.graph holder)) index ≡ Some (Some held)
  pub one : IsTrue (has names held)
  pub word : w ≡ word_of_field at holder index

-- Objects of Chosen blocks are moved to lines that were free, out of these blocks, with their marks, grays and counts, and nothing names an
-- old place any more. One is kept where it is only if the remembered set has overflowed, and then all are, or if neither free lines in a row
-- outside Chosen blocks fit it nor what is left of the lines that a pause placed on last. Where one stood, the word of its new place is
-- left; no other heap word has changed but those of the new places and the references to what has moved. A line is out where it was, and
-- where it has a moved object, for which it is counted as handed out once more where it wasn't out. Lists, cursors and entries stay, and no
-- block has become Chosen or World or ceased to be so. Nothing else has changed.
pub record EvacuatesChosen (before after : Space) (m : Moment) (at at' : Name → ℕ) (moved kept : List Name) : Type 0 where
  pub holds : HoldsMoment after m at'
  pub undecremented : IsUndecremented (tables_of after) m at'
  pub moved_are : IsSetOf moved (λ n. IsToMove before m at n × (at' n ≢ at n))
  pub kept_are : IsSetOf kept (λ n. IsToMove before m at n × (at' n ≡ at n))
  pub few : length moved + length kept ≤ GRANULES_IN_BLOCK * before.limits.blocks
  pub others : (n : Name) → has moved n ≡ false → at' n ≡ at n
  pub away : (n : Name) → IsTrue (has moved n) → ¬ IsInChosen (tables_of after) at' n
  pub onto : CopiesLieOnFreeLines before m at at' moved
  pub wanting : (n : Name) (o : Object) → IsTrue (has kept n) → object_at m.state.graph n ≡ Some o → HasOverflowed before.limits (tables_of before) ⊎ IsFull after (shape_of o)
  pub all_kept : HasOverflowed before.limits (tables_of before) → moved ≡ []
  pub marks : (n : Name) → IsTrue (has m.unreclaimed n) → IsMarked (tables_of after) at' n ↔ IsMarked (tables_of before) at n
  pub grays : (n : Name) → IsTrue (has m.unreclaimed n) → IsGray (tables_of after) at' n ↔ IsGray (tables_of before) at n
  pub left_behind : (n : Name) → IsTrue (has moved n) → (tables_of after).heap (first_word (at n)) ≡ moved_word (at' n)
  pub heap : (w : ℕ) → ((n : Name) → IsTrue (has moved n) → (w ≢ first_word (at n)) × ¬ HasWord m.state.graph at' n w) → ¬ RefersToOne m at' moved w
      → (tables_of after).heap w ≡ (tables_of before).heap w
  pub outs : (line : ℕ) → IsTrue ((tables_of after).outs line) ↔ (IsTrue ((tables_of before).outs line) ⊎ HasCopy m.state.graph at at' moved line)
  pub counted : (line : ℕ) → HasCopy m.state.graph at at' moved line → (tables_of before).outs line ≡ false → (tables_of after).reuse line ≡ ((tables_of before).reuse line + 1) % 2 ^ 32
  pub uncounted : (line : ℕ) → ¬ (HasCopy m.state.graph at at' moved line × ((tables_of before).outs line ≡ false)) → (tables_of after).reuse line ≡ (tables_of before).reuse line
  pub states : (b : ℕ) → KeepsState (tables_of before) (tables_of after) b
  pub tables : tables_of after ≡ record (tables_of before) {
    heap = (tables_of after).heap;
    starts = (tables_of after).starts;
    marks = (tables_of after).marks;
    grays = (tables_of after).grays;
    counts = (tables_of after).counts;
    unlogged = (tables_of after).unlogged;
    outs = (tables_of after).outs;
    reuse = (tables_of after).reuse;
    states = (tables_of after).states;
  }
  pub space : after ≡ record before {
    words = after.words;
    registers = record before.registers { items = after.registers.items };
    deferred = record before.deferred { items = after.deferred.items };
    rest_next = after.rest_next;
    rest_end = after.rest_end;
  }

-- the answer tells how many objects were moved, and how many were kept
abbrev pub evacuated_of : List Name → List Name → Evacuated
evacuated_of moved kept = record { moved = length moved; kept = length kept }
