-- What a decrementer's machine shows of itself.
use Rattle.lxr_layout.specs.declared.limits.Limits.{Limits}
use Rattle.lxr_decrement.specs.declared.phases.DecrementerPhase.{DecrementerPhase}
use Rattle.lxr_decrement.specs.declared.phases.DecrementerPhase.TheVariants as phase
use Rattle.lxr_decrement.specs.declared.phases.Handling as machine
use Rattle.lxr_decrement.specs.declared.phases.Handling.TheVariants as handled
use Rattle.lxr_decrement.specs.Decrementing.{DecrementerState}
use Rattle.lxr_decrement.specs.Steps.{decrementer_work}
use Rattle.lxr_core_access.specs.Decrementers.{Decrementing, Handling, Entry, References, Rests, AsksCount, AsksStart, Claims, ReadsHeader, AsksTracing, ReadsReference, MakesGray, AsksLowered, Lowers, AsksCursor, AsksNumber, Draws, ReadsEntry}
use Rattle.lxr_core_sim_helpers.specs.HelperStepping as helper

-- whose references it handles
abbrev pub handling_of : machine.Handling → Handling
handling_of handled.Entry = Entry
handling_of (handled.References place refs next traced) = References place.0 refs next traced

-- what it is about to do, by its phase
abbrev pub decrementing_in : DecrementerPhase → Decrementing
decrementing_in phase.Resting = Rests
decrementing_in (phase.AsksCount place) = AsksCount place.0
decrementing_in (phase.AsksStart place uncounted) = AsksStart place.0 uncounted
decrementing_in (phase.Claims place) = Claims place.0
decrementing_in (phase.ReadsHeader place) = ReadsHeader place.0
decrementing_in (phase.AsksTracing place refs) = AsksTracing place.0 refs
decrementing_in (phase.ReadsReference place refs index traced) = ReadsReference place.0 refs index traced
decrementing_in (phase.MakesGray place refs index referent) = MakesGray place.0 refs index referent.0
decrementing_in (phase.AsksLowered referent handling) = AsksLowered referent.0 (handling_of handling)
decrementing_in (phase.Lowers referent handling) = Lowers referent.0 (handling_of handling)
decrementing_in phase.AsksCursor = AsksCursor
decrementing_in (phase.AsksNumber cursor) = AsksNumber cursor
decrementing_in (phase.Draws count) = Draws count
decrementing_in (phase.ReadsEntry number) = ReadsEntry number

-- what a decrementer is about to do
abbrev pub decrementing_of : DecrementerState → Decrementing
decrementing_of d = decrementing_in d.phase

-- a decrementer of a space of these limits
abbrev pub IsDecrementerOf : Limits → DecrementerState → Type 0
IsDecrementerOf l d = helper.IsHelperOf decrementer_work decrementing_in l d
