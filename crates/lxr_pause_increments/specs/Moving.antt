-- Where objects stand while promoted ones are copied, one after another, and what refers to them meanwhile.
use Rattle.std.specs.Prelude.{◌≡◌, ◌≢◌, ℕ, ◌+◌, ◌*◌, ◌%◌, ◌^◌, ◌<◌, ◌≤◌, ◌⊎◌, ◌↔◌, ◌&&◌, not, false, Some, List, IsTrue, if◌then◌else◌}
use Rattle.lxr_layout.specs.declared.Name.{Name}
use Rattle.lxr_layout.specs.declared.TheConstants.{GRANULES_IN_BLOCK}
use Rattle.lxr_layout.specs.declared.runs.Run.{Run}
use Rattle.lxr_layout.specs.Objects.{line_count, moved_word}
use Rattle.lxr_layout.specs.Places.{first_word}
use Rattle.lxr_graph.specs.Names.{has}
use Rattle.lxr_graph.specs.State.{Object, object_at, shape_of, world_name}
use Rattle.lxr_image.specs.declared.space.Space.{Space}
use Rattle.lxr_image.specs.Spaces.{tables_of}
use Rattle.lxr_image.specs.Reads.{granule_of}
use Rattle.lxr_image.specs.Image.{ArePlacesOf, granules_of}
use Rattle.lxr_blocks.specs.Kept.{IsAmong, IsKeptGranule, KeepsGranules}
use Rattle.lxr_blocks.specs.Placing.{IsRest}
use Rattle.lxr_blocks.specs.States.{IsOpenRun, KeepsFree, KeepsState}
use Rattle.lxr_model.specs.Moments.{Field, Moment}
use Rattle.lxr_model_counting.specs.Distinct.{has_field}
use Rattle.lxr_invariant.specs.AbstractState.{members}
use Rattle.lxr_invariant.specs.Copied.{CopiesLieOnFreeLines, HasCopy, HasWord}
use Rattle.lxr_invariant.specs.Lines.{AvoidChosen}
use Rattle.lxr_invariant.specs.Standing.{word_of_field}
use Rattle.lxr_pause_promote.specs.Either.{HoldEither, IsPlaceOf, StandsNow}

-- `at` tells where objects stood as increments began, `now` where they stand.

-- a member has a granule, where it stands or where it stood
pub record IsTaken (m : Moment) (at now : Name → ℕ) (k : ℕ) : Type 0 where
  pub name : Name
  pub object : Object
  pub place : ℕ
  pub member : IsTrue (has (members m) name)
  pub is : object_at m.state.graph name ≡ Some object
  pub place_is : IsPlaceOf at now name place
  pub among : IsAmong (granule_of place) (granules_of object) k

-- Objects of a moment stand in a space, where these were promoted so far and all others stand where they stood. `found` is the space as
-- increments found it.
pub record IsMoving (s found : Space) (m : Moment) (at now : Name → ℕ) (promoted : List Name) : Type 0 where
  pub stands : (n : Name) → IsTrue (has (members m) n) → (o : Object) × (object_at m.state.graph n ≡ Some o) × StandsNow (tables_of s) s.limits.blocks at now n o
  pub others : (n : Name) → has promoted n ≡ false → now n ≡ at n
  -- where a copied object stood, its new place is told
  pub left_behind : (n : Name) → IsTrue (has promoted n) → now n ≢ at n → (tables_of s).heap (first_word (at n)) ≡ moved_word (now n)
  pub stood : (n : Name) (o : Object) → IsTrue (has (members m) n) → object_at m.state.graph n ≡ Some o → (1 ≤ at n) × (granule_of (at n) + granules_of o ≤ GRANULES_IN_BLOCK * s.limits.blocks)
  -- no two objects share a place, nor reach into one another
  pub own : (n u : Name) (p : ℕ) → IsTrue (has (members m) n) → IsTrue (has (members m) u) → IsPlaceOf at now n p → IsPlaceOf at now u p → n ≡ u
  pub apart : (n u : Name) (a b : Object) (p q : ℕ) → IsTrue (has (members m) n) → IsTrue (has (members m) u) → object_at m.state.graph n ≡ Some a → object_at m.state.graph u ≡ Some b
      → IsPlaceOf at now n p → IsPlaceOf at now u q → p ≢ q → (granule_of p + granules_of a ≤ granule_of q) ⊎ (granule_of q + granules_of b ≤ granule_of p)
  -- nothing is placed on them
  pub rest : IsRest s
  pub kept : KeepsGranules s (IsTaken m at now)
  -- nor on what was kept before; copies lie on what was open then
  pub kept_before : KeepsGranules s (IsKeptGranule found)
  pub onto : CopiesLieOnFreeLines found m at now promoted
  pub registers : HoldEither at now s.registers.items m.state.registers
  pub deferred : ArePlacesOf at s.deferred.items m.last.registers
  pub world : at world_name ≡ 1
  -- what has changed since: a line is out where it was, and where it has a copy, for which it is counted once more
  pub outs : (line : ℕ) → IsTrue ((tables_of s).outs line) ↔ (IsTrue ((tables_of found).outs line) ⊎ HasCopy m.state.graph at now promoted line)
  pub reuse : (line : ℕ) → (tables_of s).reuse line ≡ if (tables_of s).outs line && not ((tables_of found).outs line) then (((tables_of found).reuse line + 1) % 2 ^ 32) else (tables_of found).reuse line
  pub heap : (w : ℕ) → ((n : Name) → IsTrue (has promoted n) → now n ≢ at n → w ≢ first_word (at n)) → ((n : Name) → IsTrue (has promoted n) → ¬ HasWord m.state.graph now n w)
      → ((field : Field) → IsTrue (has_field m.written field) → w ≢ word_of_field at field.0 field.1) → (tables_of s).heap w ≡ (tables_of found).heap w
  pub states : (b : ℕ) → KeepsState (tables_of found) (tables_of s) b
  pub free : KeepsFree (tables_of found) (tables_of s)
  -- no new object stands in a Chosen block
  pub unchosen : AvoidChosen (tables_of s) now m.made
  -- what is promoted where it was made found no room, and lines only become fewer
  pub stay : (n : Name) (o : Object) (q : Run) → IsTrue (has promoted n) → now n ≡ at n → object_at m.state.graph n ≡ Some o → IsOpenRun (tables_of s) s.limits.blocks q → q.lines < line_count (shape_of o)
