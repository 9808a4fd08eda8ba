-- What holds of a space while what swept objects referred to is lowered.
use Rattle.std.specs.Prelude.{◌≡◌, ℕ, ◌+◌, ◌<◌, Option, Some, List, [], IsTrue, length, drop, map, slice_get}
use Rattle.lxr_layout.specs.declared.Name.{Name}
use Rattle.lxr_layout.specs.Places.{first_word}
use Rattle.lxr_graph.specs.Names.{has, without}
use Rattle.lxr_graph.specs.State.{object_at, refs_of}
use Rattle.lxr_image.specs.declared.space.Space.{Space}
use Rattle.lxr_image.specs.Tables.{Tables}
use Rattle.lxr_image.specs.Spaces.{tables_of}
use Rattle.lxr_image.specs.Image.{place_word}
use Rattle.lxr_model.specs.Moments.{Moment}
use Rattle.lxr_model.specs.References.{occurrences, references_from}
use Rattle.lxr_invariant.specs.AbstractState.{leaving}
use Rattle.lxr_invariant.specs.Counting.{occurrences_from}
use Rattle.lxr_invariant.specs.Standing.{place_of}
use Rattle.lxr_pause_decrements.specs.Cascade.{CascadeStage, Ground, IsAt}

-- A stage of lowering: what stands for the space meanwhile. No code holds it.
pub record ReleaseStage : Type 0 where
  -- the moment as the sweep began, and its places
  pub moment : Moment
  pub at : Name → ℕ
  -- what is swept, in the order of the worklist
  pub swept : List Name
  -- the tables when it was taken out, and the names that the report of the dead had then
  pub was : Tables
  pub before : List Name
  -- what died since, newest first, and of it what still lies in the worklist
  pub gone : List Name
  pub work : List Name
  -- what waits to be lowered beside the references of `work`
  pub extra : Name → ℕ

-- the names that aren't swept
abbrev pub unswept : ReleaseStage → List Name
unswept st = without st.moment.unreclaimed st.swept

-- the stage of the decrements: swept objects are no more, their places lie under the worklist, what they referred to isn't made gray, and
-- nothing was dropped
abbrev pub cascade_of : ReleaseStage → CascadeStage
cascade_of st = record {
  moment = leaving st.moment (unswept st);
  at = st.at;
  was = st.was;
  before = st.before;
  gone = st.gone;
  work = st.work;
  under = map (place_of st.at) st.swept;
  extra = st.extra;
  ungrayed = λ o. 0;
  unseen = λ o. 0;
}

-- the stage with other names gone and in the worklist, and other names waiting
abbrev pub lowered_to : ReleaseStage → List Name → List Name → (Name → ℕ) → ReleaseStage
lowered_to st gone work extra = record st { gone = gone; work = work; extra = extra }

-- the references of a name's object
abbrev pub references_of : ReleaseStage → Name → List (Option Name)
references_of st r = refs_of (object_at st.moment.last.graph r)

-- The space is at a stage. Swept objects have left their words in the heap.
pub record IsReleasing (s : Space) (st : ReleaseStage) : Type 0 where
  pub stage : IsAt s (cascade_of st)
  pub ground : Ground (tables_of s).heap s.limits.blocks st.moment st.at
  pub members : (n : Name) → IsTrue (has st.swept n) → IsTrue (has st.moment.unreclaimed n)
  pub fields : (n : Name) (i : ℕ) (r : Option Name) → IsTrue (has st.swept n) → slice_get (references_of st n) i ≡ Some r
      → (tables_of s).heap (first_word (st.at n) + 1 + i) ≡ place_word st.at r

-- at some later stage nothing but the rest waits
abbrev pub ReachesSwept : Space → ReleaseStage → (Name → ℕ) → Type 0
ReachesSwept s st rest = (gone : List Name) × (work : List Name) × IsReleasing s (lowered_to st gone work rest)

-- the references of the swept object at a place wait from number i on
pub record FieldIsLeft (s : Space) (place i : ℕ) (st : ReleaseStage) (r : Name) (rest : Name → ℕ) : Type 0 where
  pub stage : IsReleasing s st
  pub swept : IsTrue (has st.swept r)
  pub stands : place ≡ st.at r
  pub index : i < length (references_of st r)
  pub extra : (o : Name) → st.extra o ≡ rest o + occurrences_from (references_of st r) i o

-- then they do from the next one on
abbrev pub MayLowerLeft : Space → ℕ → ℕ → Type 0
MayLowerLeft s place i = (st : ReleaseStage) × (r : Name) × (rest : Name → ℕ) × FieldIsLeft s place i st r rest

abbrev pub LowersLeft : Space → Space → ℕ → ℕ → Type 0
LowersLeft before after place i =
    (st : ReleaseStage) (r : Name) (rest : Name → ℕ) → FieldIsLeft before place i st r rest → ReachesSwept after st (λ o. rest o + occurrences_from (references_of st r) (i + 1) o)

-- all references of the swept object at a place wait
pub record ObjectIsLeft (s : Space) (place : ℕ) (st : ReleaseStage) (r : Name) (rest : Name → ℕ) : Type 0 where
  pub stage : IsReleasing s st
  pub swept : IsTrue (has st.swept r)
  pub stands : place ≡ st.at r
  pub extra : (o : Name) → st.extra o ≡ rest o + occurrences (references_of st r) o

-- then none does
abbrev pub MayReleaseSwept : Space → ℕ → Type 0
MayReleaseSwept s place = (st : ReleaseStage) × (r : Name) × (rest : Name → ℕ) × ObjectIsLeft s place st r rest

abbrev pub ReleasesSwept : Space → Space → ℕ → Type 0
ReleasesSwept before after place = (st : ReleaseStage) (r : Name) (rest : Name → ℕ) → ObjectIsLeft before place st r rest → ReachesSwept after st rest

-- the references of the swept names from a number on
abbrev pub left_from : ReleaseStage → ℕ → Name → ℕ
left_from st i o = references_from st.moment.last.graph (drop i st.swept) o

-- the references of all swept objects wait, and nothing else
pub record AllAreLeft (s : Space) (st : ReleaseStage) : Type 0 where
  pub stage : IsReleasing s st
  pub no_work : st.work ≡ []
  pub extra : (o : Name) → st.extra o ≡ left_from st 0 o

-- then nothing waits, and what died by it is gone
abbrev pub MayReleaseAll : Space → Type 0
MayReleaseAll s = (st : ReleaseStage) × AllAreLeft s st

abbrev pub ReleasesAll : Space → Space → Type 0
ReleasesAll before after = (st : ReleaseStage) → AllAreLeft before st → (gone : List Name) × IsReleasing after (lowered_to st gone [] (λ o. 0))
