-- What the errors of a run's parts are to the run.
use Rattle.lxr_case.specs.declared.fault.CaseError.{CaseError}
use Rattle.lxr_case.specs.declared.fault.CaseError.TheVariants as case_error
use Rattle.lxr_text_script.specs.declared.fault.ScriptError.{ScriptError}
use Rattle.lxr_text_script.specs.declared.fault.ScriptError.TheVariants as script_error
use Rattle.lxr_text_stream.specs.declared.transfer.ReadError.{ReadError}
use Rattle.lxr_text_stream.specs.declared.transfer.ReadError.TheVariants as read_error
use Rattle.lxr_text_stream.specs.declared.transfer.WriteError.{WriteError}
use Rattle.lxr_text_stream.specs.declared.transfer.WriteError.TheVariants as write_error
use Rattle.lxr_words.specs.declared.WordError.{WordError}
use Rattle.lxr_words.specs.declared.WordError.TheVariants as word_error
use Rattle.lxr_run.specs.declared.refusal.Refusal.{Refusal}
use Rattle.lxr_run.specs.declared.refusal.Refusal.TheVariants as refusal
use Rattle.lxr_run.specs.declared.attempt.Stop.{Stop}
use Rattle.lxr_run.specs.declared.attempt.Stop.TheVariants as stop

-- an input that wasn't read
abbrev pub refusal_of_read : ReadError → Refusal
refusal_of_read read_error.Fault = refusal.ReadFault
refusal_of_read read_error.Memory = refusal.Memory

-- bytes that gave no script
abbrev pub refusal_of_script : ScriptError → Refusal
refusal_of_script (script_error.Fault wrong) = refusal.Script wrong
refusal_of_script script_error.Memory = refusal.Memory

-- bytes that gave no case
abbrev pub refusal_of_case : CaseError → Refusal
refusal_of_case case_error.Parts = refusal.CaseParts
refusal_of_case (case_error.Script wrong) = refusal.Script wrong
refusal_of_case (case_error.Item line) = refusal.CaseItem line
refusal_of_case case_error.Memory = refusal.Memory

-- words that gave no options
abbrev pub refusal_of_words : WordError → Refusal
refusal_of_words (word_error.Fault wrong) = refusal.Words wrong
refusal_of_words word_error.Memory = refusal.Memory

-- an output that wasn't written: where it failed, nothing is told
abbrev pub stop_of_write : WriteError → Stop
stop_of_write write_error.Fault = stop.Output
stop_of_write write_error.Memory = stop.Refused refusal.Memory
