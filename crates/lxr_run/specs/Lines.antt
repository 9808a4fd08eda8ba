-- The one line on the errors' stream that says why the program refused.
use Rattle.std.specs.Prelude.{ℕ, List, [], ◌∷◌, ◌++◌, codes}
use Rattle.lxr_words.specs.WordFault.{error_line_of}
use Rattle.lxr_text_script.specs.Faults.{fault_text}
use Rattle.lxr_case.specs.Faults.{case_error_text}
use Rattle.lxr_case.specs.declared.fault.CaseError.TheVariants as case
use Rattle.lxr_run.specs.declared.refusal.Refusal.{Refusal}
use Rattle.lxr_run.specs.declared.refusal.Refusal.TheVariants as refusal

-- the line of a refusal, with its line feed
abbrev pub refusal_text : Refusal → List ℕ
refusal_text (refusal.Words wrong) = error_line_of wrong
refusal_text (refusal.Script wrong) = fault_text wrong
refusal_text refusal.CaseParts = case_error_text case.Parts
refusal_text (refusal.CaseItem line) = case_error_text (case.Item line)
refusal_text refusal.ReadFault = codes "lxr: read fault" ++ 10 ∷ []
refusal_text refusal.Memory = codes "lxr: out of memory" ++ 10 ∷ []
