-- The lines that say why a script was refused.
use Rattle.std.specs.Prelude.{ℕ, [], ◌∷◌, ◌++◌, codes}
use Rattle.std.specs.Fmt.{decimal}
use Rattle.lxr_text_script.specs.declared.fault.ScriptFault.{ScriptFault}
use Rattle.lxr_text_script.specs.declared.fault.ScriptFault.TheVariants as fault
use Rattle.lxr_text_script.specs.declared.fault.ScriptError.{ScriptError}
use Rattle.lxr_text_script.specs.declared.fault.ScriptError.TheVariants as error
use Rattle.lxr_text_script.specs.Lines.{Text}

-- a fault of line n
abbrev pub of_line : ℕ → Text → Text
of_line n what = codes "lxr: script line " ++ (decimal n ++ (codes ": " ++ (what ++ 10 ∷ [])))

-- the line of a fault
abbrev pub fault_text : ScriptFault → Text
fault_text (fault.Header n) = of_line n (codes "header")
fault_text (fault.Threads n) = of_line n (codes "threads")
fault_text (fault.Operation n) = of_line n (codes "operation")
fault_text (fault.Number n) = of_line n (codes "number")
fault_text (fault.Register n) = of_line n (codes "register")
fault_text (fault.Shape n) = of_line n (codes "shape")
fault_text (fault.Field n) = of_line n (codes "field")
fault_text (fault.TooManyOperations n) = of_line n (codes "too many operations")
fault_text (fault.NoEnd n) = of_line n (codes "no end")
fault_text (fault.AfterEnd n) = of_line n (codes "after end")
fault_text fault.TooLong = codes "lxr: script: too long" ++ 10 ∷ []

-- the line of a refusal
abbrev pub error_text : ScriptError → Text
error_text (error.Fault f) = fault_text f
error_text error.Memory = codes "lxr: out of memory" ++ 10 ∷ []
