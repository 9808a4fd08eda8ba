-- The single steps of a tracer: which action is next, and what it makes of the word that it finds.
use Rattle.std.specs.Prelude.{ℕ, ◌+◌, ◌-◌, ◌*◌, ◌/◌, Bool, true, false, ◌&&◌, nat_lt, if◌then◌else◌, Option, Some, None}
use Rattle.lxr_layout.specs.declared.TheConstants.{REMEMBERED_CURSOR}
use Rattle.lxr_layout.specs.declared.Place.{Place}
use Rattle.lxr_layout.specs.declared.limits.Regions.{Regions}
use Rattle.lxr_layout.specs.Places.{block_at}
use Rattle.lxr_layout.specs.Runs.{word_of_entry}
use Rattle.lxr_actor.specs.declared.Action.{Action}
use Rattle.lxr_actor.specs.declared.Kindred.TheVariants.{Add, Store}
use Rattle.lxr_actor.specs.Machine.{Machine}
use Rattle.lxr_helper.specs.Helpers.{Outcome, Work, ends, goes_to, helper_machine, tries_next}
use Rattle.lxr_helper.specs.Words.{has_bit, references_in, referent_in}
use Rattle.lxr_helper.specs.Looks.{bit_look, bit_setting, graying, header_look, load, reference_look, start_look, tracing_look}
use Rattle.lxr_trace.specs.declared.phases.Scan.{Scan}
use Rattle.lxr_trace.specs.declared.phases.TraceEnd.{TraceEnd}
use Rattle.lxr_trace.specs.declared.phases.TraceEnd.TheVariants.{Worked, Nothing, RememberFull}
use Rattle.lxr_trace.specs.declared.phases.TracerPhase.{TracerPhase}
use Rattle.lxr_trace.specs.declared.phases.TracerPhase.TheVariants as phase
use Rattle.lxr_trace.specs.Tracing.{TracerState, rests_in}
use Rattle.lxr_trace.specs.Phases.{IsIn}
use Rattle.lxr_trace.specs.Words.{counter_in, heap_blocks, is_chosen, line_of_field, remember_room}

-- ---- actions

-- the gray bit of the object at a place is looked at, and the object is marked
abbrev pub gray_look : Regions → Place → Action
gray_look r place = bit_look r.grays place

-- the object at a place is marked
abbrev pub marking : Regions → Place → Action
marking r place = bit_setting r.marks place

-- the state of a place's block is looked at
abbrev pub state_look : Regions → Place → Action
state_look r place = load (r.states + block_at place.0)

-- the reuse counter of the line of an object's reference is looked at
abbrev pub reuse_look : Regions → Place → ℕ → Action
reuse_look r place index = load (r.reuse + line_of_field place index / 2)

-- a number of the remembered set is drawn, and the entry of that number is stored
abbrev pub drawing : Regions → Action
drawing r = record { kind = Add; word = r.cursors + REMEMBERED_CURSOR; operand = 1 }

-- the entry of this number is written: the counter of its line, and the reference
abbrev pub entering : Regions → ℕ → ℕ → Place → ℕ → Action
entering r number counter place index = record { kind = Store; word = r.remembered + number; operand = word_of_entry (heap_blocks r) counter place index }

-- the action of a phase; at rest there is none until a unit begins
abbrev pub action_in : Regions → TracerPhase → Option Action
action_in r phase.Resting = None
action_in r (phase.AsksGray place) = Some (gray_look r place)
action_in r (phase.AsksObject place gray) = Some (start_look r place)
action_in r (phase.Marks place) = Some (marking r place)
action_in r (phase.ReadsShape place) = Some (header_look r place)
action_in r (phase.Scans scan) = Some (reference_look r scan.place scan.index)
action_in r (phase.AsksReferent scan referent) = Some (start_look r referent)
action_in r (phase.GraysReferent scan referent) = Some (graying r referent)
action_in r (phase.AsksBlock scan referent) = Some (state_look r referent)
action_in r (phase.ReadsReuse scan) = Some (reuse_look r scan.place scan.index)
action_in r (phase.DrawsNumber scan counter) = Some (drawing r)
action_in r (phase.Enters scan counter number) = Some (entering r number counter scan.place scan.index)
action_in r phase.FindsNothing = Some (tracing_look r)

-- ---- where a step leads

-- it asks whether the object at this place is gray, or finds nothing where there is no place
abbrev pub question : Option Place → TracerPhase
question None = phase.FindsNothing
question (Some place) = phase.AsksGray place

-- how a scan ends, by whether a number was drawn that is past the remembered set
abbrev pub end_of : Bool → TraceEnd
end_of false = Worked
end_of true = RememberFull

-- the reference of a scan comes, or the object is scanned whole where that one is behind the last
abbrev pub at_reference : Scan → Outcome TracerPhase TraceEnd
at_reference scan = if nat_lt scan.index scan.refs then goes_to (phase.Scans scan) else ends (end_of scan.overflowed)

-- the reference of a scan is done with, and the next one comes
abbrev pub scanned : Scan → Outcome TracerPhase TraceEnd
scanned scan = at_reference (record scan { index = scan.index + 1 })

-- the object at a place, which has so many references, is scanned from the first of them on
abbrev pub scan_from_first : Place → ℕ → Scan
scan_from_first place refs = record { place = place; refs = refs; index = 0; overflowed = false }

-- the reference of a scan was read, and this is what it refers to
abbrev pub referred : Scan → Option Place → Outcome TracerPhase TraceEnd
referred scan None = scanned scan
referred scan (Some referent) = goes_to (phase.AsksReferent scan referent)

-- this number of the remembered set was drawn
abbrev pub drawn : Regions → Scan → ℕ → ℕ → Outcome TracerPhase TraceEnd
drawn r scan counter number = if nat_lt number (remember_room r) then goes_to (phase.Enters scan counter number) else scanned (record scan { overflowed = true })

-- the step of its phase, which found this word, leads there
abbrev pub leads_in : Regions → TracerPhase → ℕ → Outcome TracerPhase TraceEnd
leads_in r phase.Resting word = goes_to phase.Resting
leads_in r (phase.AsksGray place) word = goes_to (phase.AsksObject place (has_bit place word))
leads_in r (phase.AsksObject place gray) word = if gray && has_bit place word then goes_to (phase.Marks place) else tries_next
leads_in r (phase.Marks place) word = if has_bit place word then tries_next else goes_to (phase.ReadsShape place)
leads_in r (phase.ReadsShape place) word = at_reference (scan_from_first place (references_in r place word))
leads_in r (phase.Scans scan) word = referred scan (referent_in r word)
leads_in r (phase.AsksReferent scan referent) word = if has_bit referent word then goes_to (phase.GraysReferent scan referent) else scanned scan
leads_in r (phase.GraysReferent scan referent) word = goes_to (phase.AsksBlock scan referent)
leads_in r (phase.AsksBlock scan referent) word = if is_chosen word then goes_to (phase.ReadsReuse scan) else scanned scan
leads_in r (phase.ReadsReuse scan) word = goes_to (phase.DrawsNumber scan (counter_in word (line_of_field scan.place scan.index)))
leads_in r (phase.DrawsNumber scan counter) word = drawn r scan counter word
leads_in r (phase.Enters scan counter number) word = scanned scan
leads_in r phase.FindsNothing word = ends Nothing

-- where a referent was made gray, its place goes into the pocket, unless it was gray before
abbrev pub keeps_in : TracerPhase → ℕ → Option Place
keeps_in (phase.GraysReferent scan referent) word = if has_bit referent word then None else Some referent
keeps_in p word = None

-- ---- units

-- a unit ended so that found nothing to do
abbrev pub is_nothing : TraceEnd → Bool
is_nothing Nothing = true
is_nothing how = false

-- The most steps that are left of a unit that looks at a pocket of so many places: three for each, one for an object's
-- header, and seven for each of its references.
abbrev pub left_looking : ℕ → ℕ
left_looking places = 3 * places + 1 + 7 * 1023

-- the most steps that are left of a scan once its reference is done with
abbrev pub left_behind : Scan → ℕ
left_behind scan = 7 * (scan.refs - (scan.index + 1))

-- the most steps that are left of its unit, by the places of its pocket and its phase
abbrev pub left_in : ℕ → TracerPhase → ℕ
left_in places phase.Resting = left_looking places
left_in places (phase.AsksGray place) = left_looking places + 3
left_in places (phase.AsksObject place gray) = left_looking places + 2
left_in places (phase.Marks place) = left_looking places + 1
left_in places (phase.ReadsShape place) = 1 + 7 * 1023
left_in places (phase.Scans scan) = left_behind scan + 7
left_in places (phase.AsksReferent scan referent) = left_behind scan + 6
left_in places (phase.GraysReferent scan referent) = left_behind scan + 5
left_in places (phase.AsksBlock scan referent) = left_behind scan + 4
left_in places (phase.ReadsReuse scan) = left_behind scan + 3
left_in places (phase.DrawsNumber scan counter) = left_behind scan + 2
left_in places (phase.Enters scan counter number) = left_behind scan + 1
left_in places phase.FindsNothing = 1

-- the work of tracers
abbrev pub tracer_work : Work TracerPhase TraceEnd
tracer_work = record {
  resting = phase.Resting;
  rests = rests_in;
  question = question;
  nothing = Nothing;
  is_nothing = is_nothing;
  action = action_in;
  keeps = keeps_in;
  leads = leads_in;
  left = left_in;
  may = IsIn;
}

-- what a tracer means
abbrev pub tracer_machine : Machine TracerState
tracer_machine = helper_machine tracer_work

-- a place is offered: it goes into the pocket, where it is one of the heap and there is room for it
abbrev pub offered : TracerState → Place → TracerState × Bool
offered t place = tracer_machine.offered t place
