-- What each step of the decrements asks, and from which stage to which it leads.
use Rattle.std.specs.Prelude.{◌≡◌, ℕ, ◌+◌, false, List, [], ◌++◌, length, reverse}
use Rattle.lxr_layout.specs.declared.Name.{Name}
use Rattle.lxr_layout.specs.declared.Place.{Place}
use Rattle.lxr_image.specs.declared.space.Space.{Space}
use Rattle.lxr_image.specs.Spaces.{tables_of}
use Rattle.lxr_model.specs.Dead.{Dead}
use Rattle.lxr_model_counting.specs.Lowering.{once}
use Rattle.lxr_invariant.specs.Counting.{occurrences_from}
use Rattle.lxr_pause_decrements.specs.Cascade.{CascadeStage, Draining, Drains, FieldWaits, HasField, IsAt, IsEmptied, IsFinished, IsHandling, IsOpening, IsSeeking, LooksAt, LooksFrom, LooksThrough, Reaches, Releasing, Waiting, drawn_from, graying, held_by, later, looking, seeking}

-- Some of what was handled is reclaimed, and its places are put at the end of the worklist. What wasn't done isn't.
pub record ReclaimsSomeHandled (before after : Space) : Type 0 where
  pub stage : (st : CascadeStage) → IsHandling before st → (gone : List Name) × IsHandling after (later st gone st.work st.extra)
  pub added : (places : List Place) × (after.work.items ≡ before.work.items ++ places)
  pub dones : (k : ℕ) → (tables_of before).dones k ≡ false → (tables_of after).dones k ≡ false

-- what is handled may be reclaimed where a reference of a dead object tells
abbrev pub MayReclaimField : Space → ℕ → ℕ → Type 0
MayReclaimField s place i = (st : CascadeStage) × (r : Name) × IsHandling s st × HasField place i st r

-- and where all references of a dead object do
abbrev pub MayReclaimReferents : Space → ℕ → Type 0
MayReclaimReferents s place = (st : CascadeStage) × (r : Name) × IsHandling s st × Dead st.moment.last st.moment.unreclaimed st.moment.stuck r × (place ≡ st.at r)

-- all that was handled is to be reclaimed; then nothing is done, all waits in the list of decrements, and what was dropped is to be
-- looked for at the drawn entries of the list and among what the handled objects referred to
abbrev pub MayReclaimAllHandled : Space → Type 0
MayReclaimAllHandled s = (st : CascadeStage) × IsHandling s st

abbrev pub ReclaimsAllHandled : Space → Space → Type 0
ReclaimsAllHandled before after = (st : CascadeStage) → IsHandling before st
    → (gone : List Name) × IsSeeking after (later st gone [] (λ o. 0)) (reverse gone) (λ o. drawn_from (tables_of after) 0 (st.at o))

-- the space is at some stage
abbrev pub IsMidway : Space → Type 0
IsMidway s = (st : CascadeStage) × IsAt s st

-- the object at a place waits to be lowered once; then it does no more
abbrev pub MayLower : Space → ℕ → Type 0
MayLower s place = (st : CascadeStage) × (r : Name) × (rest : Name → ℕ) × Waiting s place st r rest

abbrev pub Lowers : Space → Space → ℕ → Type 0
Lowers before after place = (st : CascadeStage) (r : Name) (rest : Name → ℕ) → Waiting before place st r rest → Reaches after st rest

-- the references of the dead object at a place wait from number i on; then they do from the next one on, and what this one holds is
-- gray if a trace runs
abbrev pub MayLowerField : Space → ℕ → ℕ → Type 0
MayLowerField s place i = (st : CascadeStage) × (r : Name) × (rest : Name → ℕ) × FieldWaits s place i st r rest

abbrev pub LowersField : Space → Space → ℕ → ℕ → Type 0
LowersField before after place i =
    (st : CascadeStage) (r : Name) (rest : Name → ℕ) → FieldWaits before place i st r rest
    → Reaches after (graying st (occurrences_from (held_by st r) (i + 1))) (λ o. rest o + occurrences_from (held_by st r) (i + 1) o)

-- all references of the reclaimed object at a place wait; then none does, and what they hold is gray if a trace runs
abbrev pub MayRelease : Space → ℕ → Type 0
MayRelease s place = (st : CascadeStage) × (r : Name) × (rest : Name → ℕ) × Releasing s place st r rest

abbrev pub Releases : Space → Space → ℕ → Type 0
Releases before after place = (st : CascadeStage) (r : Name) (rest : Name → ℕ) → Releasing before place st r rest → Reaches after (graying st (λ o. 0)) rest

-- the worklist is to be emptied down to a length; then it is
abbrev pub MayEmpty : Space → ℕ → Type 0
MayEmpty s floor = (st : CascadeStage) × Draining s floor st

abbrev pub Empties : Space → Space → ℕ → Type 0
Empties before after floor = (st : CascadeStage) → Draining before floor st → Drains after st

-- the object at a place is to be looked at once; then it is no more: if it had no count it is reclaimed, with what dies by it
abbrev pub MayDrop : Space → ℕ → ℕ → Type 0
MayDrop s place floor = (st : CascadeStage) × (r : Name) × (rest : Name → ℕ) × LooksAt s place floor st r rest

abbrev pub Drops : Space → Space → ℕ → ℕ → Type 0
Drops before after place floor = (st : CascadeStage) (r : Name) (rest : Name → ℕ) → LooksAt before place floor st r rest → Drains after (looking st rest)

-- the references of the dead object at a place are to be looked at from number i on; then they are from the next one on
abbrev pub MayDropField : Space → ℕ → ℕ → ℕ → Type 0
MayDropField s place i floor = (st : CascadeStage) × (r : Name) × (rest : Name → ℕ) × LooksFrom s place i floor st r rest

abbrev pub DropsField : Space → Space → ℕ → ℕ → ℕ → Type 0
DropsField before after place i floor =
    (st : CascadeStage) (r : Name) (rest : Name → ℕ) → LooksFrom before place i floor st r rest
    → Drains after (looking st (λ o. rest o + occurrences_from (held_by st r) (i + 1) o))

-- all references of the dead object at a place are to be looked at; then none is
abbrev pub MayDropReferents : Space → ℕ → Type 0
MayDropReferents s place = (st : CascadeStage) × (r : Name) × (rest : Name → ℕ) × LooksThrough s place (length s.work.items) st r rest

abbrev pub DropsReferents : Space → Space → ℕ → Type 0
DropsReferents before after place =
    (st : CascadeStage) (r : Name) (rest : Name → ℕ) → LooksThrough before place (length before.work.items) st r rest → Drains after (looking st rest)

-- the drawn entries of the list are to be looked at, and what the handled objects referred to
abbrev pub MayDropAll : Space → Type 0
MayDropAll s = (st : CascadeStage) × (handled : List Name) × IsSeeking s st handled (λ o. drawn_from (tables_of s) 0 (st.at o))

-- then only what the handled objects referred to is
abbrev pub DropsDrawn : Space → Space → Type 0
DropsDrawn before after = (st : CascadeStage) (handled : List Name) → IsSeeking before st handled (λ o. drawn_from (tables_of before) 0 (st.at o))
    → (gone : List Name) × IsSeeking after (later st gone [] (λ o. 0)) handled (λ o. 0)

abbrev pub MayDropReferred : Space → Type 0
MayDropReferred s = (st : CascadeStage) × (handled : List Name) × IsSeeking s st handled (λ o. 0)

-- and at last nothing is
abbrev pub DropsReferred : Space → Space → Type 0
DropsReferred before after = (st : CascadeStage) (handled : List Name) → IsSeeking before st handled (λ o. 0)
    → (gone : List Name) × IsOpening after (seeking (later st gone [] (λ o. 0)) [] (λ o. 0))

abbrev pub DropsAll : Space → Space → Type 0
DropsAll before after = (st : CascadeStage) (handled : List Name) → IsSeeking before st handled (λ o. drawn_from (tables_of before) 0 (st.at o))
    → (gone : List Name) × IsOpening after (seeking (later st gone [] (λ o. 0)) [] (λ o. 0))

-- the last decrement of the list is taken out of it, and the object at its place waits
abbrev pub TakesLast : Space → Space → ℕ → Type 0
TakesLast before after place = (st : CascadeStage) → IsAt before st → (r : Name) × Waiting after place (later st st.gone st.work (λ o. st.extra o + once o r)) r st.extra

-- the rest of the list of decrements, of which nothing waits, is taken out of it
abbrev pub EmptiesList : Space → Space → Type 0
EmptiesList before after = (st : CascadeStage) → IsOpening before st → IsEmptied after st

-- nothing waits but in the list of decrements; then it is empty, and exactly the dead are gone
abbrev pub MayLowerAll : Space → Type 0
MayLowerAll s = (st : CascadeStage) × IsOpening s st

abbrev pub LowersAll : Space → Space → Type 0
LowersAll before after = (st : CascadeStage) → IsOpening before st → (gone : List Name) × IsFinished after (later st gone [] (λ o. 0))
