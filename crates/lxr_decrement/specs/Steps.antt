-- The single steps of a decrementer: which action is next, and what it makes of the word that it finds.
use Rattle.std.specs.Prelude.{ℕ, ◌+◌, ◌-◌, ◌*◌, ◌/◌, ◌%◌, ◌^◌, Bool, true, false, ◌&&◌, ◌||◌, nat_eq, nat_lt, if◌then◌else◌, Option, Some, None}
use Rattle.lxr_layout.specs.declared.TheConstants.{COUNT_BITS, DECREMENT_COUNT, DECREMENT_CURSOR, STUCK}
use Rattle.lxr_layout.specs.declared.Place.{Place}
use Rattle.lxr_layout.specs.declared.limits.Regions.{Regions}
use Rattle.lxr_tables.specs.declared.counts.TheConstants.{COUNTS_IN_WORD}
use Rattle.lxr_actor.specs.declared.Action.{Action}
use Rattle.lxr_actor.specs.declared.Kindred.TheVariants.{Add, Sub}
use Rattle.lxr_actor.specs.Machine.{Machine}
use Rattle.lxr_helper.specs.Helpers.{Outcome, Work, ends, goes_to, helper_machine, tries_next}
use Rattle.lxr_helper.specs.Words.{granule_of, has_bit, references_in, referent_in}
use Rattle.lxr_helper.specs.Looks.{bit_setting, graying, header_look, load, reference_look, start_look, tracing_look}
use Rattle.lxr_decrement.specs.declared.phases.DecEnd.{DecEnd}
use Rattle.lxr_decrement.specs.declared.phases.DecEnd.TheVariants.{Worked, Nothing}
use Rattle.lxr_decrement.specs.declared.phases.Handling.{Handling}
use Rattle.lxr_decrement.specs.declared.phases.Handling.TheVariants.{Entry, References}
use Rattle.lxr_decrement.specs.declared.phases.DecrementerPhase.{DecrementerPhase}
use Rattle.lxr_decrement.specs.declared.phases.DecrementerPhase.TheVariants as phase
use Rattle.lxr_decrement.specs.Decrementing.{DecrementerState, rests_in}
use Rattle.lxr_decrement.specs.Phases.{IsIn}
use Rattle.lxr_decrement.specs.Words.{count_in, is_uncounted, listed_in}

-- ---- actions

-- the count of the object at a place is looked at
abbrev pub count_look : Regions → Place → Action
count_look r place = load (r.counts + granule_of place / COUNTS_IN_WORD)

-- the object at a place is claimed by its done bit
abbrev pub claim : Regions → Place → Action
claim r place = bit_setting r.dones place

-- the count of the object at a place is lowered by one
abbrev pub lowering : Regions → Place → Action
lowering r place = record {
  kind = Sub;
  word = r.counts + granule_of place / COUNTS_IN_WORD;
  operand = 2 ^ (COUNT_BITS * (granule_of place % COUNTS_IN_WORD));
}

-- the cursor of decrements and their number are looked at, a number is drawn, and the entry of a number is looked at
abbrev pub cursor_look : Regions → Action
cursor_look r = load (r.cursors + DECREMENT_CURSOR)

-- how many decrements wait in the list is looked at
abbrev pub number_look : Regions → Action
number_look r = load (r.cursors + DECREMENT_COUNT)

-- a number of the list of decrements is drawn
abbrev pub drawing : Regions → Action
drawing r = record { kind = Add; word = r.cursors + DECREMENT_CURSOR; operand = 1 }

-- the entry of this number is looked at
abbrev pub entry_look : Regions → ℕ → Action
entry_look r number = load (r.decs + number)

-- the action of a phase; at rest there is none until a unit begins
abbrev pub action_in : Regions → DecrementerPhase → Option Action
action_in r phase.Resting = None
action_in r (phase.AsksCount place) = Some (count_look r place)
action_in r (phase.AsksStart place uncounted) = Some (start_look r place)
action_in r (phase.Claims place) = Some (claim r place)
action_in r (phase.ReadsHeader place) = Some (header_look r place)
action_in r (phase.AsksTracing place refs) = Some (tracing_look r)
action_in r (phase.ReadsReference place refs index traced) = Some (reference_look r place index)
action_in r (phase.MakesGray place refs index referent) = Some (graying r referent)
action_in r (phase.AsksLowered referent handling) = Some (count_look r referent)
action_in r (phase.Lowers referent handling) = Some (lowering r referent)
action_in r phase.AsksCursor = Some (cursor_look r)
action_in r (phase.AsksNumber cursor) = Some (number_look r)
action_in r (phase.Draws count) = Some (drawing r)
action_in r (phase.ReadsEntry number) = Some (entry_look r number)

-- ---- where a step leads

-- it asks for the count of this place, or goes to the list of decrements where there is none
abbrev pub question : Option Place → DecrementerPhase
question None = phase.AsksCursor
question (Some place) = phase.AsksCount place

-- a reference or an entry is done with: the next reference comes, or the unit is through
abbrev pub handled : Handling → Outcome DecrementerPhase DecEnd
handled Entry = ends Worked
handled (References place refs next traced) = if nat_lt next refs then goes_to (phase.ReadsReference place refs next traced) else ends Worked

-- an entry was read: what it refers to is lowered next
abbrev pub entered : Option Place → Outcome DecrementerPhase DecEnd
entered None = handled Entry
entered (Some referent) = goes_to (phase.AsksLowered referent Entry)

-- the reference of this index was read: what it refers to is lowered next, and before that made gray where a trace runs
abbrev pub referred : Place → ℕ → ℕ → Bool → Option Place → Outcome DecrementerPhase DecEnd
referred place refs index traced None = handled (References place refs (index + 1) traced)
referred place refs index false (Some referent) = goes_to (phase.AsksLowered referent (References place refs (index + 1) false))
referred place refs index true (Some referent) = goes_to (phase.MakesGray place refs index referent)

-- the count of what is to be lowered was this: one that is 0 or stuck is left as it is
abbrev pub counted : Place → Handling → ℕ → Outcome DecrementerPhase DecEnd
counted referent handling count = if nat_eq count 0 || nat_eq count STUCK then handled handling else goes_to (phase.Lowers referent handling)

-- so many decrements are listed, and the cursor was this
abbrev pub compared : ℕ → ℕ → Outcome DecrementerPhase DecEnd
compared cursor count = if nat_lt cursor count then goes_to (phase.Draws count) else ends Nothing

-- this number was drawn, and so many decrements are listed
abbrev pub drawn : ℕ → ℕ → Outcome DecrementerPhase DecEnd
drawn count number = if nat_lt number count then goes_to (phase.ReadsEntry number) else ends Nothing

-- the step of its phase, which found this word, leads there
abbrev pub leads_in : Regions → DecrementerPhase → ℕ → Outcome DecrementerPhase DecEnd
leads_in r phase.Resting word = goes_to phase.Resting
leads_in r (phase.AsksCount place) word = goes_to (phase.AsksStart place (is_uncounted place word))
leads_in r (phase.AsksStart place uncounted) word = if uncounted && has_bit place word then goes_to (phase.Claims place) else tries_next
leads_in r (phase.Claims place) word = if has_bit place word then tries_next else goes_to (phase.ReadsHeader place)
leads_in r (phase.ReadsHeader place) word = goes_to (phase.AsksTracing place (references_in r place word))
leads_in r (phase.AsksTracing place refs) word = handled (References place refs 0 (nat_eq word 1))
leads_in r (phase.ReadsReference place refs index traced) word = referred place refs index traced (referent_in r word)
leads_in r (phase.MakesGray place refs index referent) word = goes_to (phase.AsksLowered referent (References place refs (index + 1) true))
leads_in r (phase.AsksLowered referent handling) word = counted referent handling (count_in referent word)
leads_in r (phase.Lowers referent handling) word = handled handling
leads_in r phase.AsksCursor word = goes_to (phase.AsksNumber word)
leads_in r (phase.AsksNumber cursor) word = compared cursor (listed_in r word)
leads_in r (phase.Draws count) word = drawn count word
leads_in r (phase.ReadsEntry number) word = entered (referent_in r word)

-- where a count was lowered, an object whose last reference is gone goes into the pocket
abbrev pub keeps_in : DecrementerPhase → ℕ → Option Place
keeps_in (phase.Lowers referent handling) word = if nat_eq (count_in referent word) 1 then Some referent else None
keeps_in p word = None

-- ---- units

-- a unit ended so that found nothing to do
abbrev pub is_nothing : DecEnd → Bool
is_nothing Worked = false
is_nothing Nothing = true

-- The most steps that are left of a unit that looks at a pocket of so many places: three for each, two for an object's
-- header and the tracing word, and four for each of its references.
abbrev pub left_looking : ℕ → ℕ
left_looking places = 3 * places + 2 + 4 * 1023

-- the most steps that are left of a unit once a reference or an entry is done with
abbrev pub left_handling : Handling → ℕ
left_handling Entry = 0
left_handling (References place refs next traced) = 4 * (refs - next)

-- the most steps that are left of its unit, by the places of its pocket and its phase
abbrev pub left_in : ℕ → DecrementerPhase → ℕ
left_in places phase.Resting = left_looking places
left_in places (phase.AsksCount place) = left_looking places + 3
left_in places (phase.AsksStart place uncounted) = left_looking places + 2
left_in places (phase.Claims place) = left_looking places + 1
left_in places (phase.ReadsHeader place) = 2 + 4 * 1023
left_in places (phase.AsksTracing place refs) = 1 + 4 * refs
left_in places (phase.ReadsReference place refs index traced) = 4 * (refs - index)
left_in places (phase.MakesGray place refs index referent) = 4 * (refs - (index + 1)) + 3
left_in places (phase.AsksLowered referent handling) = left_handling handling + 2
left_in places (phase.Lowers referent handling) = left_handling handling + 1
left_in places phase.AsksCursor = 6
left_in places (phase.AsksNumber cursor) = 5
left_in places (phase.Draws count) = 4
left_in places (phase.ReadsEntry number) = 3

-- the work of decrementers
abbrev pub decrementer_work : Work DecrementerPhase DecEnd
decrementer_work = record {
  resting = phase.Resting;
  rests = rests_in;
  question = question;
  nothing = Nothing;
  is_nothing = is_nothing;
  action = action_in;
  keeps = keeps_in;
  leads = leads_in;
  left = left_in;
  may = IsIn;
}

-- what a decrementer means
abbrev pub decrementer_machine : Machine DecrementerState
decrementer_machine = helper_machine decrementer_work
