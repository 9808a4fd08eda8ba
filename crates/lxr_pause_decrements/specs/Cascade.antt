-- What holds of a space in the middle of its decrements.
use Rattle.std.specs.Prelude.{◌≡◌, ◌≢◌, ℕ, ◌+◌, ◌*◌, ◌<◌, ◌≤◌, ◌↔◌, ◌⊎◌, ⊤, Bool, true, false, if◌then◌else◌, Option, Some, None, List, [], ◌++◌, IsTrue, length, min, slice_get, map, reverse}
use Rattle.lxr_layout.specs.declared.Name.{Name}
use Rattle.lxr_layout.specs.declared.Place.{Place}
use Rattle.lxr_layout.specs.declared.Shape.{Shape}
use Rattle.lxr_layout.specs.declared.limits.Limits.{Limits}
use Rattle.lxr_layout.specs.declared.TheConstants.{DECREMENT_COUNT, DECREMENT_CURSOR, GRANULES_IN_BLOCK, STUCK, TRACING_WORD}
use Rattle.lxr_layout.specs.Objects.{FitsShape, header_word}
use Rattle.lxr_layout.specs.Places.{first_word}
use Rattle.lxr_base.specs.Roomy.{Roomy, pushed}
use Rattle.lxr_graph.specs.Listing.{NameList, with_name}
use Rattle.lxr_graph.specs.Names.{has, same_name, without}
use Rattle.lxr_graph.specs.State.{Object, object_at, refs_of, shape_of}
use Rattle.lxr_image.specs.declared.space.Space.{Space}
use Rattle.lxr_image.specs.Tables.{Tables, changed}
use Rattle.lxr_image.specs.Spaces.{IsSpace, tables_of}
use Rattle.lxr_image.specs.Reads.{IsName, granule_of}
use Rattle.lxr_image.specs.Image.{AreApart, granules_of, place_word}
use Rattle.lxr_model.specs.Dead.{Dead}
use Rattle.lxr_model.specs.Moments.{Moment, Trace}
use Rattle.lxr_model.specs.Reachable.{Refers}
use Rattle.lxr_model.specs.References.{occurrences, references, references_from}
use Rattle.lxr_model_counting.specs.Distinct.{IsDistinct}
use Rattle.lxr_model_counting.specs.Lowering.{IsLowered, IsOver, TakenFrom, once}
use Rattle.lxr_invariant.specs.Keeping.{KeepsListsAndCounters}
use Rattle.lxr_invariant.specs.Counting.{HasDecrements, count_at, entries_between, is_done, listed_at, occurrences_from, passing, undone, waiting_at}
use Rattle.lxr_invariant.specs.Lines.{AvoidFree, HasMarks, tracing_word}
use Rattle.lxr_invariant.specs.Standing.{HasBits, place_of}
use Rattle.lxr_invariant.specs.Tracing.{IsGray}
use Rattle.lxr_pause_decrements.specs.Wipe.{LosesBits}
use Rattle.lxr_blocks.specs.Clearing.{without_object}

-- A stage of the decrements: what stands for the space while they are done. No code holds it.
pub record CascadeStage : Type 0 where
  pub moment : Moment
  pub at : Name → ℕ
  -- the tables as they were when decrements began, and the names that the report had then
  pub was : Tables
  pub before : List Name
  -- what is reclaimed so far, newest first, and of it what still lies in the worklist
  pub gone : List Name
  pub work : List Name
  -- what lies under that in the worklist: places of what was handled, to whose references the decrements come later, or what a sweep
  -- leaves there, which they do not take
  pub under : List Place
  -- what waits to be lowered beside the list of decrements and the references of `work`
  pub extra : Name → ℕ
  -- how often a name is still to be made gray by the object that is just being released
  pub ungrayed : Name → ℕ
  -- how often a name is still to be looked at by the pass that seeks what was dropped: at the places of the entries of the list that
  -- decrementers drew, and among the references of what they handled
  pub unseen : Name → ℕ

-- the unreclaimed names that are left
abbrev pub kept : CascadeStage → List Name
kept st = without st.moment.unreclaimed st.gone

-- no object is just being released
abbrev pub IsBetween : CascadeStage → Type 0
IsBetween st = (o : Name) → st.ungrayed o ≡ 0

-- an object's header stands at its place in the heap; of its fields nothing is said
pub record Founded (heap : ℕ → ℕ) (blocks : ℕ) (at : Name → ℕ) (n : Name) (o : Object) : Type 0 where
  pub placed : 1 ≤ at n
  pub name : IsName n
  pub shape : FitsShape (shape_of o)
  pub header : heap (first_word (at n)) ≡ header_word n (shape_of o)
  pub fits : granule_of (at n) + granules_of o ≤ GRANULES_IN_BLOCK * blocks

-- What the decrements never change: unreclaimed objects stand apart at their places, with as many references as they had
-- at the last pause, and the dead hold the references that they had there.
pub record Ground (heap : ℕ → ℕ) (blocks : ℕ) (m : Moment) (at : Name → ℕ) : Type 0 where
  pub distinct : IsDistinct m.unreclaimed
  pub stands : (n : Name) → IsTrue (has m.unreclaimed n)
      → (o : Object) × (object_at m.state.graph n ≡ Some o) × Founded heap blocks at n o × (length (refs_of (object_at m.last.graph n)) ≡ length o.refs)
  pub fields : (n : Name) (i : ℕ) (r : Option Name) → Dead m.last m.unreclaimed m.stuck n → slice_get (refs_of (object_at m.last.graph n)) i ≡ Some r
      → heap (first_word (at n) + 1 + i) ≡ place_word at r
  pub apart : (x y : Name) (a b : Object) → IsTrue (has m.unreclaimed x) → IsTrue (has m.unreclaimed y) → same_name x y ≡ false
      → object_at m.state.graph x ≡ Some a → object_at m.state.graph y ≡ Some b → AreApart at x a y b
  pub closed : (u n : Name) → IsTrue (has m.unreclaimed u) → Refers m.last.graph u n → IsTrue (has m.unreclaimed n)

-- how often a name waits to be lowered
abbrev pub waits : Tables → CascadeStage → Name → ℕ
waits t st n = waiting_at t (st.at n) + references_from st.moment.last.graph st.work n + st.extra n

-- Grays while a trace runs. Of what is left gray is what was gray, and what some reclaimed object has made gray: one that is dead and
-- referred to it. What lies in the worklist has still to do so, and so has in part what is just being released.
pub record GraysSoFar (before after : ℕ → Bool) (m : Moment) (at : Name → ℕ) (gone work : List Name) (ungrayed : Name → ℕ) : Type 0 where
  pub stays : (n : Name) → IsTrue (has (without m.unreclaimed gone) n) → IsTrue (before (granule_of (at n))) → IsTrue (after (granule_of (at n)))
  pub referred : (n : Name) → IsTrue (has (without m.unreclaimed gone) n) → IsTrue (after (granule_of (at n)))
      → IsTrue (before (granule_of (at n))) ⊎ ((u : Name) × Dead m.last m.unreclaimed m.stuck u × Refers m.last.graph u n)
  pub released : (u n : Name) → IsTrue (has gone u) → has work u ≡ false → Refers m.last.graph u n → IsTrue (has (without m.unreclaimed gone) n)
      → IsTrue (after (granule_of (at n))) ⊎ (1 ≤ ungrayed n)
  pub reclaimed : (n : Name) → IsTrue (has gone n) → after (granule_of (at n)) ≡ false
  pub others : (k : ℕ) → ((n : Name) → IsTrue (has m.unreclaimed n) → granule_of (at n) ≢ k) → after k ≡ before k

-- where none runs, a reclaimed object loses its gray bit, and no other bit changes
abbrev pub AreGrayed : Option Trace → (ℕ → Bool) → (ℕ → Bool) → Moment → (Name → ℕ) → List Name → List Name → (Name → ℕ) → Type 0
AreGrayed None before after m at gone work ungrayed = LosesBits before after at gone
AreGrayed (Some trace) before after m at gone work ungrayed = GraysSoFar before after m at gone work ungrayed

-- while a trace runs, what a done object referred to and is left is gray
abbrev pub HandledGray : Option Trace → Tables → Moment → (Name → ℕ) → List Name → Type 0
HandledGray None t m at gone = ⊤
HandledGray (Some trace) t m at gone =
    (u n : Name) → IsTrue (has m.unreclaimed u) → IsTrue (is_done t at u) → Refers m.last.graph u n → has gone n ≡ false → IsGray t at n

-- Some objects are reclaimed: what is left has its bits and marks, what is gone is reported, each once, and there is room to
-- report what may still go. Each that is gone took its start bit with it.
pub record Remains (l : Limits) (t : Tables) (d : NameList) (st : CascadeStage) : Type 0 where
  pub ground : Ground t.heap l.blocks st.moment st.at
  pub stuck : (n : Name) → IsTrue (has st.moment.unreclaimed n) → IsTrue (has st.moment.stuck n) → count_at t st.at n ≡ STUCK
  pub below : (n : Name) → IsTrue (has st.moment.unreclaimed n) → has st.moment.stuck n ≡ false → count_at t st.at n < STUCK
  pub bits : HasBits t st.moment st.at (kept st)
  pub marks : HasMarks t st.moment.state.graph st.at (kept st)
  pub unused : AvoidFree t st.at st.moment.unreclaimed
  pub lost_marks : LosesBits st.was.marks t.marks st.at st.gone
  pub tracing : t.cursors TRACING_WORD ≡ tracing_word st.moment.trace
  pub decrements : HasDecrements l t st.moment st.at
  pub once : IsDistinct (reverse st.gone)
  pub reported : d.items ≡ st.before ++ reverse st.gone
  pub fewer : length st.gone + passing t.starts (GRANULES_IN_BLOCK * l.blocks) ≡ passing st.was.starts (GRANULES_IN_BLOCK * l.blocks)
  pub dead_room : length d.items + passing t.starts (GRANULES_IN_BLOCK * l.blocks) ≤ d.room

-- Some of what decrementers have handled is reclaimed, and its places lie in the worklist, oldest first. A count is the references
-- from what is left and isn't done, and what waits in the list of decrements; what is gone or done is dead, and has no count. What is
-- unstuck was referred to at the last pause or stands in that list, drawn or not.
pub record Handling (l : Limits) (t : Tables) (w : Roomy Place) (d : NameList) (st : CascadeStage) : Type 0 where
  pub remains : Remains l t d st
  pub exact : (n : Name) → IsTrue (has st.moment.unreclaimed n) → has st.moment.stuck n ≡ false
      → count_at t st.at n ≡ references st.moment.last (undone t st.at (kept st)) n + waiting_at t (st.at n)
  pub held : (n : Name) → IsTrue (has st.moment.unreclaimed n) → has st.moment.stuck n ≡ false
      → references st.moment.last st.moment.unreclaimed n + listed_at t (st.at n) ≢ 0
  pub dead : (n : Name) → IsTrue (has st.gone n) → Dead st.moment.last st.moment.unreclaimed st.moment.stuck n
  pub zero : (n : Name) → IsTrue (has st.gone n) → count_at t st.at n ≡ 0
  pub done_dead : (n : Name) → IsTrue (has st.moment.unreclaimed n) → IsTrue (is_done t st.at n) → Dead st.moment.last st.moment.unreclaimed st.moment.stuck n
  pub done_zero : (n : Name) → IsTrue (has st.moment.unreclaimed n) → IsTrue (is_done t st.at n) → count_at t st.at n ≡ 0
  pub grays : AreGrayed st.moment.trace st.was.grays t.grays st.moment st.at st.gone [] st.ungrayed
  pub handled : HandledGray st.moment.trace t st.moment st.at st.gone
  pub places : w.items ≡ map (place_of st.at) (reverse st.gone)
  pub between : IsBetween st
  pub work_room : GRANULES_IN_BLOCK * l.blocks ≤ w.room

-- Some counts are lowered, and no done bit is set any more: what is left has a count of its references from what is left and of
-- what waits, and what has none is gone, unless it is still to be looked at. There is room in the worklist for what may still go.
pub record Cascade (l : Limits) (t : Tables) (w : Roomy Place) (d : NameList) (st : CascadeStage) : Type 0 where
  pub remains : Remains l t d st
  pub lowered : IsLowered st.moment.last st.moment.unreclaimed st.moment.stuck st.gone (count_at t st.at) (waits t st)
  pub seen : (n : Name) → IsTrue (has st.moment.unreclaimed n) → has st.moment.stuck n ≡ false → st.unseen n ≡ 0
      → count_at t st.at n ≡ 0 → IsTrue (has st.gone n)
  pub none_done : (k : ℕ) → t.dones k ≡ false
  pub grays : AreGrayed st.moment.trace st.was.grays t.grays st.moment st.at st.gone st.work st.ungrayed
  pub work : w.items ≡ st.under ++ map (place_of st.at) st.work
  pub work_gone : (n : Name) → IsTrue (has st.work n) → IsTrue (has st.gone n)
  pub work_room : length w.items + passing t.starts (GRANULES_IN_BLOCK * l.blocks) ≤ w.room

-- a space at a stage
pub record IsAt (s : Space) (st : CascadeStage) : Type 0 where
  pub space : IsSpace s
  pub cascade : Cascade s.limits (tables_of s) s.work s.report.dead st

-- a space while what is handled is reclaimed
pub record IsHandling (s : Space) (st : CascadeStage) : Type 0 where
  pub space : IsSpace s
  pub handling : Handling s.limits (tables_of s) s.work s.report.dead st

-- what is left to do: each object that isn't reclaimed may come into the worklist once
abbrev pub to_do : Space → ℕ
to_do s = passing (tables_of s).starts (GRANULES_IN_BLOCK * s.limits.blocks) + length s.work.items

-- the stage with other names gone and in the worklist, and other names waiting
abbrev pub later : CascadeStage → List Name → List Name → (Name → ℕ) → CascadeStage
later st gone work extra = record st { gone = gone; work = work; extra = extra }

-- the stage with other names to be looked at
abbrev pub looking : CascadeStage → (Name → ℕ) → CascadeStage
looking st unseen = record st { unseen = unseen }

-- the stage with other names to be made gray
abbrev pub graying : CascadeStage → (Name → ℕ) → CascadeStage
graying st ungrayed = record st { ungrayed = ungrayed }

-- the bits with one more set, where a trace runs
abbrev pub grayed_if : Bool → (ℕ → Bool) → ℕ → ℕ → Bool
grayed_if tracing f g = if tracing then changed f g true else f

-- a name at its place waits once more than the rest says
pub record Waiting (s : Space) (place : ℕ) (st : CascadeStage) (r : Name) (rest : Name → ℕ) : Type 0 where
  pub stage : IsAt s st
  pub member : IsTrue (has st.moment.unreclaimed r)
  pub stands : place ≡ st.at r
  pub taken : TakenFrom st.extra r rest

-- at some later stage nothing but the rest waits beside the lists
abbrev pub Reaches : Space → CascadeStage → (Name → ℕ) → Type 0
Reaches s st rest = (gone : List Name) × (work : List Name) × IsAt s (later st gone work rest)

-- the header of an object stands at a place
pub record IsHeader (t : Tables) (place : ℕ) (n : Name) (shape : Shape) : Type 0 where
  pub name : IsName n
  pub fits : FitsShape shape
  pub header : t.heap (first_word place) ≡ header_word n shape

-- the space with other words, another worklist and other names of the dead in its report
abbrev pub with_lists : Space → List ℕ → Roomy Place → NameList → Space
with_lists s words work dead = record s { words = words; work = work; report = record s.report { dead = dead } }

-- the object at a place begins no more, and is reported
pub record Buries (before after : Space) (p : Place) (n : Name) (shape : Shape) : Type 0 where
  pub tables : tables_of after ≡ without_object (tables_of before) p.0 shape
  pub rest : after ≡ with_lists before after.words before.work (with_name before.report.dead n)

-- so it is, and it waits in the worklist
pub record Reclaims (before after : Space) (p : Place) (n : Name) (shape : Shape) : Type 0 where
  pub tables : tables_of after ≡ without_object (tables_of before) p.0 shape
  pub rest : after ≡ with_lists before after.words (pushed before.work p) (with_name before.report.dead n)

-- the tables with so many entries in the list of decrements
abbrev pub with_length : Tables → ℕ → Tables
with_length t n = record t { cursors = changed t.cursors DECREMENT_COUNT n }

-- the tables that decrements never write, and the cursors but for those of their list
pub record TablesStay (t u : Tables) : Type 0 where
  pub keeps : KeepsListsAndCounters t u
  pub decs : u.decs ≡ t.decs
  pub outs : u.outs ≡ t.outs
  pub states : u.states ≡ t.states

-- what is left as it was where tables stay so: all but words, the worklist and the dead of the report
pub record LeavesBy (Stay : Tables → Tables → Type 0) (before after : Space) : Type 0 where
  pub tables : Stay (tables_of before) (tables_of after)
  pub rest : after ≡ with_lists before after.words after.work after.report.dead
  pub work_room : after.work.room ≡ before.work.room
  pub dead_room : after.report.dead.room ≡ before.report.dead.room
  pub dead_listed : after.report.dead.listed ≡ before.report.dead.listed

-- what the decrements leave
abbrev pub Leaves : Space → Space → Type 0
Leaves before after = LeavesBy TablesStay before after

-- what one lowering leaves
pub record Keeps (before after : Space) : Type 0 where
  pub leaves : Leaves before after
  pub cursors : (tables_of after).cursors ≡ (tables_of before).cursors

-- the references that a name's object had at the last pause
abbrev pub held_by : CascadeStage → Name → List (Option Name)
held_by st r = refs_of (object_at st.moment.last.graph r)

-- a reclaimed name out of the worklist, whose references wait, and what they hold is to be made gray
pub record Releasing (s : Space) (place : ℕ) (st : CascadeStage) (r : Name) (rest : Name → ℕ) : Type 0 where
  pub stage : IsAt s st
  pub gone : IsTrue (has st.gone r)
  pub stands : place ≡ st.at r
  pub extra : (o : Name) → st.extra o ≡ rest o + occurrences (held_by st r) o
  pub ungrayed : (o : Name) → st.ungrayed o ≡ occurrences (held_by st r) o

-- the dead object of a name has a reference number i
pub record HasField (place i : ℕ) (st : CascadeStage) (r : Name) : Type 0 where
  pub member : IsTrue (has st.moment.unreclaimed r)
  pub dead : Dead st.moment.last st.moment.unreclaimed st.moment.stuck r
  pub stands : place ≡ st.at r
  pub index : i < length (held_by st r)

-- its references wait from number i on, and what these hold is to be made gray
pub record FieldWaits (s : Space) (place i : ℕ) (st : CascadeStage) (r : Name) (rest : Name → ℕ) : Type 0 where
  pub stage : IsAt s st
  pub field : HasField place i st r
  pub extra : (o : Name) → st.extra o ≡ rest o + occurrences_from (held_by st r) i o
  pub ungrayed : (o : Name) → st.ungrayed o ≡ occurrences_from (held_by st r) i o

-- the worklist is to be emptied down to a length
pub record Draining (s : Space) (floor : ℕ) (st : CascadeStage) : Type 0 where
  pub stage : IsAt s st
  pub under : length st.under ≡ floor
  pub between : IsBetween st

-- nothing but what lies under it is left in the worklist at some later stage
abbrev pub Drains : Space → CascadeStage → Type 0
Drains s st = (gone : List Name) × IsAt s (later st gone [] st.extra)

-- what was dropped is sought: nothing lies in the worklist above a length
pub record IsLooking (s : Space) (floor : ℕ) (st : CascadeStage) : Type 0 where
  pub stage : IsAt s st
  pub work : st.work ≡ []
  pub under : length st.under ≡ floor
  pub between : IsBetween st

-- a name at its place is to be looked at once more than the rest says
pub record LooksAt (s : Space) (place floor : ℕ) (st : CascadeStage) (r : Name) (rest : Name → ℕ) : Type 0 where
  pub looking : IsLooking s floor st
  pub member : IsTrue (has st.moment.unreclaimed r)
  pub stands : place ≡ st.at r
  pub taken : (o : Name) → IsTrue (has st.moment.unreclaimed o) → st.unseen o ≡ once o r + rest o

-- the references of a dead object are to be looked at from number i on
pub record LooksFrom (s : Space) (place i floor : ℕ) (st : CascadeStage) (r : Name) (rest : Name → ℕ) : Type 0 where
  pub looking : IsLooking s floor st
  pub field : HasField place i st r
  pub unseen : (o : Name) → st.unseen o ≡ rest o + occurrences_from (held_by st r) i o

-- all references of a dead object are to be looked at
pub record LooksThrough (s : Space) (place floor : ℕ) (st : CascadeStage) (r : Name) (rest : Name → ℕ) : Type 0 where
  pub looking : IsLooking s floor st
  pub dead : Dead st.moment.last st.moment.unreclaimed st.moment.stuck r
  pub stands : place ≡ st.at r
  pub unseen : (o : Name) → st.unseen o ≡ rest o + occurrences (held_by st r) o

-- how many entries of the list of decrements are drawn
abbrev pub drawn_count : Tables → ℕ
drawn_count t = min (t.cursors DECREMENT_CURSOR) (t.cursors DECREMENT_COUNT)

-- how often a place stands among the drawn entries, from a number on
abbrev pub drawn_from : Tables → ℕ → ℕ → ℕ
drawn_from t k p = entries_between t.decs k (drawn_count t) p

-- the stage at which places of handled names lie in the worklist, whose references are still to be looked at, and so are some names
-- in the list of decrements
abbrev pub seeking : CascadeStage → List Name → (Name → ℕ) → CascadeStage
seeking st handled drawn = record st { under = map (place_of st.at) handled; unseen = λ o. references_from st.moment.last.graph handled o + drawn o }

-- such a stage, at which nothing waits but in the list of decrements
pub record IsSeeking (s : Space) (st : CascadeStage) (handled : List Name) (drawn : Name → ℕ) : Type 0 where
  pub stage : IsAt s (seeking st handled drawn)
  pub work : st.work ≡ []
  pub between : IsBetween st
  pub extra : (o : Name) → st.extra o ≡ 0
  pub dead : (n : Name) → IsTrue (has handled n) → Dead st.moment.last st.moment.unreclaimed st.moment.stuck n

-- nothing waits but in the list of decrements, and no name is still to be looked at
pub record IsOpening (s : Space) (st : CascadeStage) : Type 0 where
  pub stage : IsAt s st
  pub work : st.work ≡ []
  pub under : st.under ≡ []
  pub between : IsBetween st
  pub extra : (o : Name) → st.extra o ≡ 0
  pub unseen : (o : Name) → st.unseen o ≡ 0

-- nothing waits, and the list of decrements is empty
pub record IsEmptied (s : Space) (st : CascadeStage) : Type 0 where
  pub opening : IsOpening s st
  pub drawn : (tables_of s).cursors DECREMENT_CURSOR ≡ 0
  pub waiting : (tables_of s).cursors DECREMENT_COUNT ≡ 0

-- so it is, and exactly the dead are gone
pub record IsFinished (s : Space) (st : CascadeStage) : Type 0 where
  pub emptied : IsEmptied s st
  pub empty : IsOver st.moment.unreclaimed st.moment.stuck st.gone (count_at (tables_of s) st.at)
  pub gone : (o : Name) → IsTrue (has st.gone o) ↔ Dead st.moment.last st.moment.unreclaimed st.moment.stuck o
