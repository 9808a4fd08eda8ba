-- A case that is accepted was read to its end and can be judged, and bytes that are refused were refused for what was read of them.
use Rattle.std.proofs.Common.{◌≡◌, ℕ, suc, ◌+◌, ◌^◌, ◌<◌, ◌≤◌, refl, sym, ap, subst, ◌∙◌, Bool, true, false, List, [], ◌∷◌, length, map, filter, arith, length-drop}
use Rattle.std.specs.Prelude.{◌==◌, Some, IfSome, if◌then◌else◌}
use Rattle.std.specs.List.{slice_split}
use Rattle.std.specs.Str.Lines.{lines, lines_of_parts}
use Rattle.std.proofs.lemmas.List.{length-map}
use Rattle.std.proofs.lemmas.List.Splits.{length-slice_split}
use Rattle.std.proofs.lemmas.List.Sums.{count_by-le-length, length-filter}
use Rattle.lxr_text_script.specs.declared.TheConstants.{MOST_BYTES}
use Rattle.lxr_text_script.specs.Lines.{Line, Text, numbered}
use Rattle.lxr_text_script.specs.Limits.{IsScript}
use Rattle.lxr_text_script.specs.Reading.{threads_in}
use Rattle.lxr_text_stream.specs.declared.transfer.ReadError.{ReadError}
use Rattle.lxr_text_stream.specs.declared.transfer.ReadError.TheVariants as read_error
use Rattle.lxr_text_stream.specs.Streams.{IsAtEnd, Takes}
use Rattle.lxr_graph.specs.declared.Item.{Item}
use Rattle.lxr_case.specs.declared.Case.{Case}
use Rattle.lxr_case.specs.declared.fault.CaseError.{CaseError}
use Rattle.lxr_case.specs.declared.fault.CaseError.TheVariants as case_error
use Rattle.lxr_case.specs.Items.{SayItems, has_words, item_of, worded_from}
use Rattle.lxr_case.specs.Parts.{order_line, order_part}
use Rattle.lxr_case.specs.Reading.{IsCaseOf, IsRefusedFor}
use Rattle.lxr_run.specs.Causes.{refusal_of_case, refusal_of_read}
use Rattle.lxr_run.specs.Runs.{HasFailed, Stream}
use Rattle.lxr_run.specs.Script.{CanBeJudged, GivesNoCase, IsCaseReadFrom, IsNoCase, judged_part}
use Rattle.lxr_run.proofs.InputLemmas.{if_some-weaker, judged_is, said_whole}

-- ---- the items of an order can be counted

-- one line or none is one at most
one_at_most : (b : Bool) (x : Text) → length (if b then [] else x ∷ []) ≤ 1
one_at_most true x = omega arith
one_at_most false x = omega arith

-- there are no more lines than parts between line feeds
lines_few : (parts : List Text) → length (lines_of_parts parts) ≤ length parts
lines_few [] = omega arith
lines_few (x ∷ []) = one_at_most (length x == 0) x
lines_few (x ∷ y ∷ more) = let rest = lines_few (y ∷ more) in omega (arith, rest)

-- there are as many numbered lines as lines
numbered_length : (n : ℕ) (ls : List Text) → length (numbered n ls) ≡ length ls
numbered_length n [] = refl
numbered_length n (l ∷ ls) = ap (λ k. suc k) (numbered_length (n + 1) ls)

-- an order has one item more than bytes at most
items_few : (threads : ℕ) (text : Text) (items : List Item) → SayItems threads (worded_from 1 text) items → length items ≤ length text + 1
items_few threads text items said =
    let parts = slice_split (λ b. b == 10) text in
    let ls = numbered 1 (lines text) in
    let items_are : length items ≡ length (worded_from 1 text) =
    sym (length-map items Some) ∙ ap length (sym said) ∙ length-map (worded_from 1 text) (λ line. item_of threads line.words) in
    let worded_are = length-filter (λ (line : Line). has_words line.words) ls in
    let worded_le = count_by-le-length (λ (line : Line). has_words line.words) ls in
    let numbered_are = numbered_length 1 (lines text) in
    let lines_le = lines_few parts in
    let parts_are = length-slice_split (λ b. b == 10) text in
    let feeds_le = count_by-le-length (λ b. b == 10) text in
    omega (arith, items_are, worded_are, worded_le, numbered_are, lines_le, parts_are, feeds_le)

-- so a case that is read can be judged
pub can_be_judged : (bytes : Text) (case : Case) → IsCaseOf bytes case → case.script.threads ≡ length (threads_in case.script) → IsScript (threads_in case.script) → CanBeJudged case
can_be_judged bytes case is threads script =
    let few = items_few (length (threads_in case.script)) (order_part bytes is.order_at) case.order.items is.order in
    let rest = length-drop (is.order_at + length order_line) bytes in
    record { threads = threads; script = script; order = omega (arith, few, rest, is.short) }

-- ---- a case that is accepted is read whole

pub case_read_from : {I : Type 0} (input : Stream I) (read : List ℕ) (case : Case) → Takes (input.bytes input.before) (input.bytes input.after) read
    → (length read ≤ MOST_BYTES → IsAtEnd (input.bytes input.after)) → IsCaseOf read case → IsCaseReadFrom input case
case_read_from input read case takes end is =
    let whole = said_whole (λ bytes. IsCaseOf bytes case) (λ bytes of. of.short) (input.bytes input.before) (input.bytes input.after) read takes end is in
    record { bytes = whole.1; end = whole.0 }

-- what was read is a case
pub case_right : {I : Type 0} (input : Stream I) (case : Case) (bytes : List ℕ) → IsCaseReadFrom input case → input.bytes input.before ≡ Some bytes → ((other : Case) → ¬ IsCaseOf bytes other) → ⊥
case_right input case bytes given told none = none case (subst (λ o. IfSome o (λ bytes. IsCaseOf bytes case)) told given.bytes)

-- ---- no case

-- an input that wasn't read
pub case_unread_by : {I : Type 0} (input : Stream I) (e : ReadError) → (e ≡ read_error.Fault → HasFailed input) → GivesNoCase (refusal_of_read e) input
case_unread_by input read_error.Fault failed = failed refl
case_unread_by input read_error.Memory failed = tt

-- bytes that were refused
module _ {I : Type 0} (input : Stream I) (read : List ℕ) (takes : Takes (input.bytes input.before) (input.bytes input.after) read)
    (end : length read ≤ MOST_BYTES → IsAtEnd (input.bytes input.after)) (limited : length read ≤ MOST_BYTES + 1) where
  no_case : (e : CaseError) → IsRefusedFor read e → IfSome (input.bytes input.before) (λ bytes. IsNoCase bytes e)
  no_case e refused =
      if_some-weaker (input.bytes input.before) (λ bytes. judged_part bytes ≡ read) (λ bytes. IsNoCase bytes e) (judged_is (input.bytes input.before) (input.bytes input.after) read takes end limited)
      (λ bytes is. subst (λ z. IsRefusedFor z e) (sym is) refused)

  pub case_refused_by : (e : CaseError) → IsRefusedFor read e → GivesNoCase (refusal_of_case e) input
  case_refused_by case_error.Parts refused = no_case case_error.Parts refused
  case_refused_by (case_error.Script wrong) refused = no_case (case_error.Script wrong) refused
  case_refused_by (case_error.Item line) refused = no_case (case_error.Item line) refused
  case_refused_by case_error.Memory refused = tt
