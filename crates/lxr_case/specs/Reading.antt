-- What the bytes of a case say: a script, an output and an order, or why there is no case.
use Rattle.std.specs.Prelude.{◌≡◌, ℕ, ◌<◌, ◌≤◌, ◌⊎◌, Result, Ok, Err, List, length}
use Rattle.lxr_graph.specs.declared.Op.{Op}
use Rattle.lxr_text_script.specs.declared.fault.ScriptFault.{ScriptFault}
use Rattle.lxr_text_script.specs.declared.fault.ScriptFault.TheVariants as fault
use Rattle.lxr_text_script.specs.Limits.{most_bytes}
use Rattle.lxr_text_script.specs.Lines.{Text}
use Rattle.lxr_text_script.specs.Reading.{reading_of, threads_in}
use Rattle.lxr_case.specs.declared.Case.{Case}
use Rattle.lxr_case.specs.declared.fault.CaseError.{CaseError}
use Rattle.lxr_case.specs.declared.fault.CaseError.TheVariants as error
use Rattle.lxr_case.specs.Parts.{IsDivided, script_part, output_part, order_part}
use Rattle.lxr_case.specs.Items.{SayItems, IsFirstWithoutItem, worded_from}

-- the bytes are a case: a script, an output whatever it has, and an order of calls of the script's threads and of pauses
pub record IsCaseOf (bytes : Text) (case : Case) : Type 0 where
  pub short : length bytes ≤ most_bytes
  pub output_at : ℕ
  pub order_at : ℕ
  pub divided : IsDivided bytes output_at order_at
  pub script : reading_of (script_part bytes output_at) ≡ Ok (threads_in case.script)
  pub output : case.output.items ≡ output_part bytes output_at order_at
  pub order : SayItems (length (threads_in case.script)) (worded_from 1 (order_part bytes order_at)) case.order.items

-- the bytes in front of the output are no script, for this fault
pub record HasScriptFault (bytes : Text) (why : ScriptFault) : Type 0 where
  pub short : length bytes ≤ most_bytes
  pub output_at : ℕ
  pub order_at : ℕ
  pub divided : IsDivided bytes output_at order_at
  pub refused : reading_of (script_part bytes output_at) ≡ Err why

-- there is a script, and line n of the order is the first that has words and says no item
pub record HasItemFault (bytes : Text) (n : ℕ) : Type 0 where
  pub short : length bytes ≤ most_bytes
  pub output_at : ℕ
  pub order_at : ℕ
  pub divided : IsDivided bytes output_at order_at
  pub threads : List (List Op)
  pub script : reading_of (script_part bytes output_at) ≡ Ok threads
  pub order : IsFirstWithoutItem (length threads) (worded_from 1 (order_part bytes order_at)) n

-- why bytes are no case; want of memory is free
abbrev pub IsRefusedFor : Text → CaseError → Type 0
IsRefusedFor bytes error.Parts = (length bytes ≤ most_bytes) × ((output order : ℕ) → ¬ IsDivided bytes output order)
IsRefusedFor bytes (error.Script why) = ((most_bytes < length bytes) × (why ≡ fault.TooLong)) ⊎ HasScriptFault bytes why
IsRefusedFor bytes (error.Item line) = HasItemFault bytes line
IsRefusedFor bytes error.Memory = Unit {0}

-- the answer to the parts of a case
abbrev pub AnswersParts : Text → Text → Text → Result Case CaseError → Type 0
AnswersParts script output order (Ok case) =
    (reading_of script ≡ Ok (threads_in case.script))
    × (case.output.items ≡ output)
    × SayItems (length (threads_in case.script)) (worded_from 1 order) case.order.items
AnswersParts script output order (Err error.Parts) = ⊥
AnswersParts script output order (Err (error.Script why)) = reading_of script ≡ Err why
AnswersParts script output order (Err (error.Item n)) =
    (threads : List (List Op)) × (reading_of script ≡ Ok threads) × IsFirstWithoutItem (length threads) (worded_from 1 order) n
AnswersParts script output order (Err error.Memory) = Unit {0}

-- the answer to bytes
abbrev pub AnswersCase : Text → Result Case CaseError → Type 0
AnswersCase bytes (Ok case) = IsCaseOf bytes case
AnswersCase bytes (Err error) = IsRefusedFor bytes error
