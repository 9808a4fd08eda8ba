-- The lines that say why bytes are no case.
use Rattle.std.specs.Prelude.{◌++◌, codes}
use Rattle.std.specs.Fmt.{decimal}
use Rattle.lxr_text_script.specs.declared.fault.ScriptError.{ScriptError}
use Rattle.lxr_text_script.specs.declared.fault.ScriptError.TheVariants as script
use Rattle.lxr_text_script.specs.Faults.{fault_text}
use Rattle.lxr_text_script.specs.Lines.{Text}
use Rattle.lxr_case.specs.declared.fault.CaseError.{CaseError}
use Rattle.lxr_case.specs.declared.fault.CaseError.TheVariants as error

-- why there is no case where there is no script
abbrev pub of_script : ScriptError → CaseError
of_script (script.Fault f) = error.Script f
of_script script.Memory = error.Memory

-- the line of a refusal
abbrev pub case_error_text : CaseError → Text
case_error_text error.Parts = codes "lxr: case: parts\n"
case_error_text (error.Script f) = fault_text f
case_error_text (error.Item n) = codes "lxr: case line " ++ (decimal n ++ codes ": item\n")
case_error_text error.Memory = codes "lxr: out of memory\n"
