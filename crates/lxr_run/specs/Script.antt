-- Where the script of a run comes from, or the case that is judged, and why there is none.
use Rattle.std.specs.Prelude.{◌≡◌, ℕ, ◌+◌, ◌^◌, ◌<◌, ⊤, List, IfSome, IsTrue, Ok, Err, length, take}
use Rattle.lxr_case.specs.Reading.{IsCaseOf, IsRefusedFor}
use Rattle.lxr_case.specs.declared.Case.{Case}
use Rattle.lxr_case.specs.declared.fault.CaseError.{CaseError}
use Rattle.lxr_case.specs.declared.fault.CaseError.TheVariants as case_error
use Rattle.lxr_model.specs.Belongs.{Script}
use Rattle.lxr_text_stream.specs.Streams.{IsAtEnd}
use Rattle.lxr_text_script.specs.Limits.{IsScript, most_bytes}
use Rattle.lxr_text_script.specs.Operations.{Read}
use Rattle.lxr_text_script.specs.Reading.{lists_in, reading_of, threads_in}
use Rattle.lxr_text_script.specs.declared.fault.ScriptFault.{ScriptFault}
use Rattle.lxr_text_script.specs.Load.{load}
use Rattle.lxr_large_model.specs.declared.LargeOp.{LargeOp}
use Rattle.lxr_large_text.specs.Limits.{IsLargeScript}
use Rattle.lxr_large_text.specs.Reading.{large_reading_of}
use Rattle.lxr_words.specs.Options.{reading_of as words_read, script_commands, thread_commands}
use Rattle.lxr_words.specs.declared.Command.{Command}
use Rattle.lxr_words.specs.declared.Command.TheVariants.{Judge, Large, Load, Map, Order, Run}
use Rattle.lxr_words.specs.declared.Options.{Options}
use Rattle.lxr_run.specs.Runs.{IsUntouched, HasFailed, Stream}
use Rattle.lxr_run.specs.declared.refusal.Refusal.{Refusal}
use Rattle.lxr_run.specs.declared.refusal.Refusal.TheVariants as refusal
use Rattle.lxr_run.specs.declared.script.AnyScript.{AnyScript}
use Rattle.lxr_run.specs.declared.script.AnyScript.TheVariants as any

-- In the following, reading says what the bytes of a sort of scripts come to.

-- ---- the script

-- a script is all that was left of an input, which was read to its end
pub record IsReadFrom {I X : Type 0} (reading : List ℕ → Read X) (input : Stream I) (script : X) : Type 0 where
  pub bytes : IfSome (input.bytes input.before) (λ bytes. reading bytes ≡ Ok script)
  pub end : IsAtEnd (input.bytes input.after)

-- a case is all that was left of an input, which was read to its end
pub record IsCaseReadFrom {I : Type 0} (input : Stream I) (case : Case) : Type 0 where
  pub bytes : IfSome (input.bytes input.before) (λ bytes. IsCaseOf bytes case)
  pub end : IsAtEnd (input.bytes input.after)

-- A script of threads is that of a command: what is read from the input, or what `load` makes from its seed, and then nothing is read. `large`
-- and `judge` run no threads.
abbrev pub IsGivenBy : {I : Type 0} → Command → Options → Stream I → Script → Type 0
IsGivenBy Run options input script = IsReadFrom reading_of input script
IsGivenBy Map options input script = IsReadFrom reading_of input script
IsGivenBy Order options input script = IsReadFrom reading_of input script
IsGivenBy Judge options input script = ⊥
IsGivenBy Large options input script = ⊥
IsGivenBy (Load seed) options input script = IsUntouched input × (script ≡ load seed options.threads options.rounds)

-- operations on large objects are those of a command: what `large` reads from the input
abbrev pub IsLargeGivenBy : {I : Type 0} → Command → Stream I → List LargeOp → Type 0
IsLargeGivenBy Large input operations = IsReadFrom large_reading_of input operations
IsLargeGivenBy _ input operations = ⊥

-- a case is that of a command: what `judge` reads from the input
abbrev pub IsCaseGivenBy : {I : Type 0} → Command → Stream I → Case → Type 0
IsCaseGivenBy Judge input case = IsCaseReadFrom input case
IsCaseGivenBy _ input case = ⊥

-- a script of any sort, or a case, is that of the command
abbrev pub IsAnyGivenBy : {I : Type 0} → Options → Stream I → AnyScript → Type 0
IsAnyGivenBy options input (any.Threads lists) = IsGivenBy options.command options input (lists_in lists)
IsAnyGivenBy options input (any.Large operations) = IsLargeGivenBy options.command input operations.items
IsAnyGivenBy options input (any.Case case) = IsCaseGivenBy options.command input case

-- a case can be judged: its script is one that is read, and its items can be counted
pub record CanBeJudged (case : Case) : Type 0 where
  pub threads : case.script.threads ≡ length (threads_in case.script)
  pub script : IsScript (threads_in case.script)
  pub order : length case.order.items + 1 < 2 ^ 32

-- it is within the limits of its sort
abbrev pub IsWithinLimits : AnyScript → Type 0
IsWithinLimits (any.Threads lists) = IsScript (lists_in lists)
IsWithinLimits (any.Large operations) = IsLargeScript operations.items
IsWithinLimits (any.Case case) = CanBeJudged case

-- a run of threads was asked for with these options and this script
pub record WasAsked {I : Type 0} (words : List (List ℕ)) (input : Stream I) (options : Options) (script : Script) : Type 0 where
  pub accepted : words_read words ≡ Ok options
  pub given : IsGivenBy options.command options input script

-- the same of a script with large objects
pub record WasAskedLarge {I : Type 0} (words : List (List ℕ)) (input : Stream I) (options : Options) (operations : List LargeOp) : Type 0 where
  pub accepted : words_read words ≡ Ok options
  pub given : IsLargeGivenBy options.command input operations

-- the same of a case that is to be judged
pub record WasAskedToJudge {I : Type 0} (words : List (List ℕ)) (input : Stream I) (options : Options) (case : Case) : Type 0 where
  pub accepted : words_read words ≡ Ok options
  pub given : IsCaseGivenBy options.command input case

-- ---- no script, and no case

-- a longer input than a script may be is judged by its front of one byte more, and is refused
unfoldable pub judged_part : List ℕ → List ℕ
judged_part bytes = take (most_bytes + 1) bytes

-- bytes are no script of a sort, and this is their first fault
abbrev pub IsNoScript : {X : Type 0} → (List ℕ → Read X) → List ℕ → ScriptFault → Type 0
IsNoScript reading bytes wrong = reading (judged_part bytes) ≡ Err wrong

-- bytes are no case, and this is why
abbrev pub IsNoCase : List ℕ → CaseError → Type 0
IsNoCase bytes why = IsRefusedFor (judged_part bytes) why

-- bytes are no script that a command takes, and this is their first fault; `judge` takes a case, and `load` nothing
abbrev pub IsNoScriptFor : Command → List ℕ → ScriptFault → Type 0
IsNoScriptFor Run bytes wrong = IsNoScript reading_of bytes wrong
IsNoScriptFor Map bytes wrong = IsNoScript reading_of bytes wrong
IsNoScriptFor Order bytes wrong = IsNoScript reading_of bytes wrong
IsNoScriptFor Judge bytes wrong = ⊥
IsNoScriptFor Large bytes wrong = IsNoScript large_reading_of bytes wrong
IsNoScriptFor (Load seed) bytes wrong = ⊥

-- why an input gave no script of a sort: it is none, or it failed; want of memory is free
abbrev pub GivesNone : {I X : Type 0} → (List ℕ → Read X) → Refusal → Stream I → Type 0
GivesNone reading (refusal.Words wrong) input = ⊥
GivesNone reading (refusal.Script wrong) input = IfSome (input.bytes input.before) (λ bytes. IsNoScript reading bytes wrong)
GivesNone reading refusal.CaseParts input = ⊥
GivesNone reading (refusal.CaseItem line) input = ⊥
GivesNone reading refusal.ReadFault input = HasFailed input
GivesNone reading refusal.Memory input = ⊤

-- why an input gave no case: it is none, or it failed; want of memory is free
abbrev pub GivesNoCase : {I : Type 0} → Refusal → Stream I → Type 0
GivesNoCase (refusal.Words wrong) input = ⊥
GivesNoCase (refusal.Script wrong) input = IfSome (input.bytes input.before) (λ bytes. IsNoCase bytes (case_error.Script wrong))
GivesNoCase refusal.CaseParts input = IfSome (input.bytes input.before) (λ bytes. IsNoCase bytes case_error.Parts)
GivesNoCase (refusal.CaseItem line) input = IfSome (input.bytes input.before) (λ bytes. IsNoCase bytes (case_error.Item line))
GivesNoCase refusal.ReadFault input = HasFailed input
GivesNoCase refusal.Memory input = ⊤

-- why there was nothing for a command; `load` makes its own, for which memory may run out
abbrev pub GivesNoScript : {I : Type 0} → Command → Refusal → Stream I → Type 0
GivesNoScript Run why input = GivesNone reading_of why input
GivesNoScript Map why input = GivesNone reading_of why input
GivesNoScript Order why input = GivesNone reading_of why input
GivesNoScript Judge why input = GivesNoCase why input
GivesNoScript Large why input = GivesNone large_reading_of why input
GivesNoScript (Load seed) why input = why ≡ refusal.Memory

-- ---- what is asked for

-- the words are accepted, and ask for a script that is read, alone or in a case: those of `run`, `map`, `order`, `judge` and `large`
abbrev pub AsksToRead : List (List ℕ) → Type 0
AsksToRead words = (options : Options) × (words_read words ≡ Ok options) × IsTrue (script_commands options.command)

-- the words are accepted, and ask for a run of threads: those of `run`, `map`, `order` and `load`
abbrev pub AsksForThreads : List (List ℕ) → Type 0
AsksForThreads words = (options : Options) × (words_read words ≡ Ok options) × IsTrue (thread_commands options.command)

-- the words are accepted, and ask for a case to be judged: those of `judge`
abbrev pub AsksToJudge : List (List ℕ) → Type 0
AsksToJudge words = (options : Options) × (words_read words ≡ Ok options) × (options.command ≡ Judge)

-- the words are accepted, and there was nothing for their command
abbrev pub AsksInVain : {I : Type 0} → Refusal → List (List ℕ) → Stream I → Type 0
AsksInVain why words input = (options : Options) × (words_read words ≡ Ok options) × GivesNoScript options.command why input

-- why a run was refused before its first operation; want of memory is free
abbrev pub HasCause : {I : Type 0} → Refusal → List (List ℕ) → Stream I → Type 0
HasCause (refusal.Words wrong) words input = words_read words ≡ Err wrong
HasCause (refusal.Script wrong) words input = AsksInVain (refusal.Script wrong) words input
HasCause refusal.CaseParts words input = AsksInVain refusal.CaseParts words input
HasCause (refusal.CaseItem line) words input = AsksInVain (refusal.CaseItem line) words input
HasCause refusal.ReadFault words input = AsksInVain refusal.ReadFault words input
HasCause refusal.Memory words input = ⊤
