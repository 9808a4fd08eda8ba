-- A script that is accepted was read to its end, and one that is refused was refused for what was read of it.
use Rattle.std.proofs.Common.{⊎_elim, ◌≡◌, ℕ, ◌+◌, ◌<◌, ◌≤◌, refl, sym, ap, subst, ◌∙◌, List, [], ◌++◌, length, take, arith, Bool, true, false}
use Rattle.std.specs.Prelude.{Option, Some, None, IfErr, IfSome, IsErrAnd, Ok, Err, Result, nat_le, if◌then◌else◌}
use Rattle.std.proofs.lemmas.List.{append-nil, take_at, take_all}
use Rattle.std.proofs.lemmas.Bool.{cases_lt, leb-true}
use Rattle.lxr_text_script.specs.declared.TheConstants.{MOST_BYTES}
use Rattle.lxr_text_script.specs.declared.fault.ScriptFault.{ScriptFault}
use Rattle.lxr_text_script.specs.declared.fault.ScriptError.{ScriptError}
use Rattle.lxr_text_script.specs.declared.fault.ScriptError.TheVariants as script_error
use Rattle.lxr_text_script.specs.Operations.{Read}
use Rattle.lxr_text_script.specs.Reading.{Fails, reading_of}
use Rattle.lxr_text_stream.specs.declared.transfer.ReadError.{ReadError}
use Rattle.lxr_text_stream.specs.declared.transfer.ReadError.TheVariants as read_error
use Rattle.lxr_text_stream.specs.Streams.{IsAtEnd, Takes}
use Rattle.lxr_model.specs.Belongs.{Script}
use Rattle.lxr_large_model.specs.declared.LargeOp.{LargeOp}
use Rattle.lxr_large_text.specs.Reading.{large_reading_of}
use Rattle.lxr_words.specs.declared.Command.{Command}
use Rattle.lxr_words.specs.declared.Command.TheVariants.{Judge, Large, Load, Map, Order, Run}
use Rattle.lxr_words.specs.declared.Options.{Options}
use Rattle.lxr_words.specs.declared.WordFault.{WordFault}
use Rattle.lxr_words.specs.declared.WordError.{WordError}
use Rattle.lxr_words.specs.declared.WordError.TheVariants as word_error
use Rattle.lxr_words.specs.Options.{Answers, reading_of as words_read, script_commands}
use Rattle.lxr_run.specs.Causes.{refusal_of_read, refusal_of_script, refusal_of_words}
use Rattle.lxr_run.specs.Runs.{HasFailed, Stream}
use Rattle.lxr_run.specs.Script.{AsksToRead, GivesNone, GivesNoScript, HasCause, IsNoScript, IsReadFrom, judged_part}
use Rattle.lxr_run.specs.declared.refusal.Refusal.{Refusal}
use Rattle.lxr_run.specs.declared.refusal.Refusal.TheVariants as refusal

-- ---- the part of the input that is judged

-- so many bytes and one more, cut from what was read and what comes after it, are what was read
front_is : (n : ℕ) (read rest : List ℕ) → (length read ≤ n → rest ≡ []) → length read ≤ n + 1 → take (n + 1) (read ++ rest) ≡ read
front_is n read rest end limited =
    ⊎_elim
    (λ (more : n < length read). take_at read rest (n + 1) (omega arith))
    (λ (short : length read ≤ n). ap (λ z. take (n + 1) (read ++ z)) (end short) ∙ ap (take (n + 1)) (append-nil read) ∙ take_all (n + 1) read (omega arith))
    (cases_lt n (length read))

-- the same of what was left of an input, where it is told
judged_front : (n : ℕ) (left left' : Option (List ℕ)) (read : List ℕ) → Takes left left' read → (length read ≤ n → IsAtEnd left') → length read ≤ n + 1
    → IfSome left (λ bytes. take (n + 1) bytes ≡ read)
judged_front n left None read takes end limited = subst (λ z. IfSome z (λ bytes. take (n + 1) bytes ≡ read)) (sym takes) tt
judged_front n left (Some rest) read takes end limited = subst (λ z. IfSome z (λ bytes. take (n + 1) bytes ≡ read)) (sym takes) (front_is n read rest end limited)

-- what is judged of an input is what was read of it
pub judged_is : (left left' : Option (List ℕ)) (read : List ℕ) → Takes left left' read → (length read ≤ MOST_BYTES → IsAtEnd left') → length read ≤ MOST_BYTES + 1
    → IfSome left (λ bytes. judged_part bytes ≡ read)
unfolding judged_part
judged_is left left' read takes end limited = judged_front MOST_BYTES left left' read takes end limited

-- what follows from a fact of a value holds where there is one
pub if_some-weaker : {X : Type 0} (o : Option X) (P Q : X → Type 0) → IfSome o P → ((x : X) → P x → Q x) → IfSome o Q
if_some-weaker None P Q h f = tt
if_some-weaker (Some x) P Q h f = f x h

-- what follows from what an error is known to be
pub if_err : {A B : Type 0} (r : Result A B) (P Q : B → Type 0) → IsErrAnd r P → ((e : B) → P e → Q e) → IfErr r Q
if_err (Ok x) P Q known f = tt
if_err (Err e) P Q known f = f e known

-- ---- a script that is accepted is read whole

-- a result behind a test is Ok only where the test holds
test_passed : {X Y : Type 0} (b : Bool) (x : Result X Y) (f : Y) (y : X) → (if b then x else Err f) ≡ Ok y → b ≡ true
test_passed true x f y e = refl
test_passed false x f y e = absurd (cc)

-- an accepted script has at most 67,108,864 bytes
pub accepted_short : (bytes : List ℕ) (script : Script) → reading_of bytes ≡ Ok script → length bytes ≤ MOST_BYTES
unfolding reading_of
accepted_short bytes script accepted =
    leb-true (length bytes) MOST_BYTES (test_passed (nat_le (length bytes) MOST_BYTES) _ _ _ accepted)

-- so has one with large objects
pub large_accepted_short : (bytes : List ℕ) (operations : List LargeOp) → large_reading_of bytes ≡ Ok operations → length bytes ≤ MOST_BYTES
unfolding large_reading_of
large_accepted_short bytes operations accepted =
    leb-true (length bytes) MOST_BYTES (test_passed (nat_le (length bytes) MOST_BYTES) _ _ _ accepted)

-- it is judged whole
pub judged_whole : (bytes : List ℕ) → length bytes ≤ MOST_BYTES → judged_part bytes ≡ bytes
unfolding judged_part
judged_whole bytes short = take_all (MOST_BYTES + 1) bytes (omega arith)

-- In the following, says tells what bytes are, and they are no more than a script may have.
module _ (says : List ℕ → Type 0) (limited : (bytes : List ℕ) → says bytes → length bytes ≤ MOST_BYTES) where
  -- such bytes were read to their end, and are all that was left of the input
  pub said_whole : (left left' : Option (List ℕ)) (read : List ℕ) → Takes left left' read → (length read ≤ MOST_BYTES → IsAtEnd left') → says read → IsAtEnd left' × IfSome left says
  said_whole left None read takes end said = (tt, subst (λ z. IfSome z says) (sym takes) tt)
  said_whole left (Some rest) read takes end said =
      let none : rest ≡ [] = end (limited read said) in
      let whole : read ++ rest ≡ read = ap (λ z. read ++ z) none ∙ append-nil read in
      (none, subst (λ z. IfSome z says) (sym takes) (subst says (sym whole) said))

-- a way of reading accepts no more bytes than a script may have
abbrev pub AcceptsShort : {X : Type 0} → (List ℕ → Read X) → Type 0
AcceptsShort {X} reading = (bytes : List ℕ) (script : X) → reading bytes ≡ Ok script → length bytes ≤ MOST_BYTES

-- In the following, reading is such a way.
module _ {X : Type 0} (reading : List ℕ → Read X) (short : AcceptsShort reading) where
  pub read_from : {I : Type 0} (input : Stream I) (read : List ℕ) (script : X) → Takes (input.bytes input.before) (input.bytes input.after) read
      → (length read ≤ MOST_BYTES → IsAtEnd (input.bytes input.after)) → reading read ≡ Ok script → IsReadFrom reading input script
  read_from input read script takes end accepted =
      let whole = said_whole (λ bytes. reading bytes ≡ Ok script) (λ bytes is. short bytes script is) (input.bytes input.before) (input.bytes input.after) read takes end accepted in
      record { bytes = whole.1; end = whole.0 }

  -- what was read is right
  pub read_right : {I : Type 0} (input : Stream I) (script : X) (bytes : List ℕ) (wrong : ScriptFault) → IsReadFrom reading input script → input.bytes input.before ≡ Some bytes → IsNoScript reading bytes wrong → ⊥
  read_right input script bytes wrong given told noscript =
      let is : reading bytes ≡ Ok script = subst (λ o. IfSome o (λ bytes. reading bytes ≡ Ok script)) told given.bytes in
      let judged : reading (judged_part bytes) ≡ Ok script = ap reading (judged_whole bytes (short bytes script is)) ∙ is in cc

-- ---- no script

-- an input that wasn't read
pub unread_by : {I X : Type 0} (reading : List ℕ → Read X) (input : Stream I) (e : ReadError) → (e ≡ read_error.Fault → HasFailed input) → GivesNone reading (refusal_of_read e) input
unread_by reading input read_error.Fault failed = failed refl
unread_by reading input read_error.Memory failed = tt

-- bytes that were refused
pub refused_by : {I X : Type 0} (reading : List ℕ → Read X) (input : Stream I) (read : List ℕ) (e : ScriptError) → Takes (input.bytes input.before) (input.bytes input.after) read
    → (length read ≤ MOST_BYTES → IsAtEnd (input.bytes input.after)) → length read ≤ MOST_BYTES + 1 → Fails e (reading read) → GivesNone reading (refusal_of_script e) input
refused_by reading input read (script_error.Fault wrong) takes end limited fails =
    if_some-weaker (input.bytes input.before) (λ bytes. judged_part bytes ≡ read) (λ bytes. IsNoScript reading bytes wrong) (judged_is (input.bytes input.before) (input.bytes input.after) read takes end limited)
    (λ bytes is. ap reading is ∙ fails)
refused_by reading input read script_error.Memory takes end limited fails = tt

-- words that were refused
pub words_cause : {I : Type 0} (words : List (List ℕ)) (input : Stream I) (e : WordError) → Answers (words_read words) (Err e) → HasCause (refusal_of_words e) words input
words_cause words input (word_error.Fault wrong) answers = answers
words_cause words input word_error.Memory answers = tt

-- wrong words are no cause for that
never_words : {I : Type 0} (command : Command) (input : Stream I) (wrong : WordFault) → GivesNoScript command (refusal.Words wrong) input → ⊥
never_words Run input wrong none = none
never_words Map input wrong none = none
never_words Order input wrong none = none
never_words Judge input wrong none = none
never_words Large input wrong none = none
never_words (Load seed) input wrong none = let e : refusal.Words wrong ≡ refusal.Memory = none in absurd (cc)

-- words that were accepted, and gave no script
pub input_cause : {I : Type 0} (words : List (List ℕ)) (input : Stream I) (options : Options) (why : Refusal) → words_read words ≡ Ok options → GivesNoScript options.command why input → HasCause why words input
input_cause words input options (refusal.Words wrong) accepted none = absurd (never_words options.command input wrong none)
input_cause words input options (refusal.Script wrong) accepted none = (options, accepted, none)
input_cause words input options refusal.CaseParts accepted none = (options, accepted, none)
input_cause words input options (refusal.CaseItem line) accepted none = (options, accepted, none)
input_cause words input options refusal.ReadFault accepted none = (options, accepted, none)
input_cause words input options refusal.Memory accepted none = tt

-- words that ask for no script leave the input as it was
pub unread_where : {X : Type 0} (words : List (List ℕ)) (options : Options) (reads : Bool) (x y : X) → words_read words ≡ Ok options → script_commands options.command ≡ reads
    → (script_commands options.command ≡ false → y ≡ x) → ¬ AsksToRead words → y ≡ x
unread_where words options true x y accepted is unread none = absurd (none (options, accepted, is))
unread_where words options false x y accepted is unread none = unread is
