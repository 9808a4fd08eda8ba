-- The canonical spelling of a script is in the grammar, and its words are plain.
use Rattle.std.proofs.Common.{◌≡◌, ℕ, ◌+◌, ◌<◌, ◌≤◌, ◌^◌, true, List, [], ◌∷◌, length, Ok, refl, arith, subst}
use Rattle.std.specs.List.{AllByRecursion}
use Rattle.std.specs.Fmt.{decimal}
use Rattle.std.specs.Str.{all_ascii_digits}
use Rattle.std.specs.Str.Parse.{digits_value}
use Rattle.std.proofs.lemmas.Bool.{and_from}
use Rattle.std.proofs.lemmas.Fmt.{decimal_is_IsNumeral, digits_decimal, digits_value-decimal}
use Rattle.std.proofs.lemmas.Str.Parse.{IsNumeralModel, numerals_by_value, tells_all_ascii_digits}
use Rattle.std.proofs.lemmas.List.Elements.{recursion_from_All}
use Rattle.lxr_graph.specs.declared.Op.{Op}
use Rattle.lxr_graph.specs.declared.Op.TheVariants as op
use Rattle.lxr_text_script.specs.declared.TheConstants.{MOST_BYTES, SCRIPT_REGISTERS}
use Rattle.lxr_text_script.specs.declared.Version.{Version}
use Rattle.lxr_text_script.specs.declared.Version.TheVariants.{One, Two}
use Rattle.lxr_text_script.specs.Lines.{Text}
use Rattle.lxr_text_script.specs.Reading.{reading_of}
use Rattle.lxr_text_script.specs.Spelling.{later, operation_version, operation_words, operations_before, register, script_lines, script_version, spelling_of, thread_lines, thread_version}
use Rattle.lxr_text_script.specs.Grammar.{IsNumber, IsRegister, IsSize, SpellsOperation, new, load, store, put, get, swap, add, move, nil, same, pause, collect, SpellsOperations, ended, operation, SpellsThreads, over, thread, Spells, script, version_word}
use Rattle.lxr_text_script.specs.Limits.{IsOperation, IsThread, IsScript}
use Rattle.lxr_text_script.proofs.Plain.{are_high, are_lines, digits_high, is_line, is_plain, items_are}
use Rattle.lxr_text_script.proofs.Spelled.{text_taken}

pub digits_of_number : IsNumeralModel (λ ds. all_ascii_digits ds ≡ true) (digits_value 10)
digits_of_number = numerals_by_value (λ ds. all_ascii_digits ds ≡ true) tells_all_ascii_digits

pub number_written : (n : ℕ) → n < 2 ^ 64 → IsNumber (decimal n) n
number_written n small = record {
  some = (decimal_is_IsNumeral n small).0.0;
  digits = digits_decimal digits_of_number n small;
  value = digits_value-decimal digits_of_number n small;
  small = small;
}

register_written : (r : ℕ) → r < SCRIPT_REGISTERS → IsRegister (register r) r
register_written r small = record { digits = decimal r; is = refl; number = number_written r (omega arith); small = small }

size_written : (n : ℕ) → n ≤ 1023 → IsSize (decimal n) n
size_written n small = record { number = number_written n (omega arith); small = small }

pub high_number : (n : ℕ) → n < 2 ^ 64 → are_high (decimal n) ≡ true
high_number n small = digits_high (decimal n) (digits_decimal digits_of_number n small)

pub some_plain : (word : Text) → 0 < length word → are_high word ≡ true → is_plain word ≡ true
some_plain [] long e = absurd (omega arith)
some_plain (b ∷ bs) long e = e

pub plain_number : (n : ℕ) → n < 2 ^ 64 → is_plain (decimal n) ≡ true
plain_number n small = some_plain (decimal n) (decimal_is_IsNumeral n small).0.0 (high_number n small)

plain_size : (n : ℕ) → n ≤ 1023 → is_plain (decimal n) ≡ true
plain_size n small = plain_number n (omega arith)

high_register : (r : ℕ) → r < SCRIPT_REGISTERS → are_high (decimal r) ≡ true
high_register r small = high_number r (omega arith)

-- a version that is at least the later of two is at least each of them
first_of_later : (a b version : Version) → later (later a b) version ≡ version → later a version ≡ version
first_of_later One b version e = refl
first_of_later Two b version e = e

second_of_later : (a b version : Version) → later (later a b) version ≡ version → later b version ≡ version
second_of_later One b version e = e
second_of_later Two One version e = refl
second_of_later Two Two version e = e

later_itself : (version : Version) → later version version ≡ version
later_itself One = refl
later_itself Two = refl

-- an operation is spelled under each version that has it
operation_written : (version : Version) (o : Op) → IsOperation o → later (operation_version o) version ≡ version → SpellsOperation version (operation_words o) o
unfolding operation_words
operation_written version (op.New dest shape) fits has = new (register_written dest fits.well_formed.0) (size_written shape.refs fits.well_formed.1.0) (size_written shape.values fits.well_formed.1.1)
operation_written version (op.Load dest base index) fits has = load (register_written dest fits.well_formed.0) (register_written base fits.well_formed.1) (size_written index fits.written)
operation_written version (op.Store base index source) fits has = store (register_written base fits.well_formed.0) (size_written index fits.written) (register_written source fits.well_formed.1)
operation_written version (op.Put base index value) fits has = put (register_written base fits.well_formed) (size_written index fits.written.0) (number_written value fits.written.1)
operation_written version (op.Get base index) fits has = get (register_written base fits.well_formed) (size_written index fits.written)
operation_written version (op.Swap dest base index source) fits has = subst (λ v. SpellsOperation v (operation_words (op.Swap dest base index source)) (op.Swap dest base index source)) has (swap (register_written dest fits.well_formed.0) (register_written base fits.well_formed.1) (size_written index fits.written) (register_written source fits.well_formed.2))
operation_written version (op.Add base index value) fits has = subst (λ v. SpellsOperation v (operation_words (op.Add base index value)) (op.Add base index value)) has (add (register_written base fits.well_formed) (size_written index fits.written.0) (number_written value fits.written.1))
operation_written version (op.Move dest source) fits has = move (register_written dest fits.well_formed.0) (register_written source fits.well_formed.1)
operation_written version (op.Nil dest) fits has = nil (register_written dest fits.well_formed)
operation_written version (op.Same left right) fits has = same (register_written left fits.well_formed.0) (register_written right fits.well_formed.1)
operation_written version op.Pause fits has = pause
operation_written version op.Collect fits has = collect
operation_written version op.End fits has = absurd fits.written

operation_plain : (o : Op) → IsOperation o → is_line (operation_words o) ≡ true
unfolding operation_words
operation_plain (op.New dest shape) fits = rw (high_register dest fits.well_formed.0, plain_size shape.refs fits.well_formed.1.0, plain_size shape.values fits.well_formed.1.1) refl
operation_plain (op.Load dest base index) fits = rw (high_register dest fits.well_formed.0, high_register base fits.well_formed.1, plain_size index fits.written) refl
operation_plain (op.Store base index source) fits = rw (high_register base fits.well_formed.0, plain_size index fits.written, high_register source fits.well_formed.1) refl
operation_plain (op.Put base index value) fits = rw (high_register base fits.well_formed, plain_size index fits.written.0, plain_number value fits.written.1) refl
operation_plain (op.Get base index) fits = rw (high_register base fits.well_formed, plain_size index fits.written) refl
operation_plain (op.Swap dest base index source) fits = rw (high_register dest fits.well_formed.0, high_register base fits.well_formed.1, plain_size index fits.written, high_register source fits.well_formed.2) refl
operation_plain (op.Add base index value) fits = rw (high_register base fits.well_formed, plain_size index fits.written.0, plain_number value fits.written.1) refl
operation_plain (op.Move dest source) fits = rw (high_register dest fits.well_formed.0, high_register source fits.well_formed.1) refl
operation_plain (op.Nil dest) fits = rw (high_register dest fits.well_formed) refl
operation_plain (op.Same left right) fits = rw (high_register left fits.well_formed.0, high_register right fits.well_formed.1) refl
operation_plain op.Pause fits = refl
operation_plain op.Collect fits = refl
operation_plain op.End fits = absurd fits.written

operations_written : (version : Version) (operations : List Op) (rest : List (List Text)) → AllByRecursion IsOperation operations → later (thread_version operations) version ≡ version
    → SpellsOperations version (operations_before operations rest) operations rest
operations_written version [] rest fits has = ended
operations_written version (o ∷ operations) rest fits has =
    operation (operation_written version o fits.0 (first_of_later (operation_version o) (thread_version operations) version has))
    (operations_written version operations rest fits.1 (second_of_later (operation_version o) (thread_version operations) version has))

operations_plain : (operations : List Op) (rest : List (List Text)) → AllByRecursion IsOperation operations → are_lines rest ≡ true → are_lines (operations_before operations rest) ≡ true
operations_plain [] rest fits plain = plain
operations_plain (o ∷ operations) rest fits plain = and_from _ _ (operation_plain o fits.0) (operations_plain operations rest fits.1 plain)

threads_written : (version : Version) (t : ℕ) (threads : List (List Op)) → t + length threads < 2 ^ 64 → AllByRecursion IsThread threads → later (script_version threads) version ≡ version
    → SpellsThreads version t (thread_lines t threads) threads []
threads_written version t [] small fits has = over
threads_written version t (operations ∷ threads) small fits has =
    let mine = first_of_later (thread_version operations) (script_version threads) version has in
    let others = second_of_later (thread_version operations) (script_version threads) version has in
    thread (number_written t (omega arith)) (operations_written version operations (thread_lines (t + 1) threads) (recursion_from_All IsOperation operations fits.0.each) mine)
    (threads_written version (t + 1) threads (omega arith) fits.1 others)

-- the word of a version is plain
version_plain : (version : Version) → is_plain (version_word version) ≡ true
version_plain One = refl
version_plain Two = refl

threads_plain : (t : ℕ) (threads : List (List Op)) → t + length threads < 2 ^ 64 → AllByRecursion IsThread threads → are_lines (thread_lines t threads) ≡ true
threads_plain t [] small fits = refl
threads_plain t (operations ∷ threads) small fits =
    let number = plain_number t (omega arith) in
    let others = operations_plain operations (thread_lines (t + 1) threads) (recursion_from_All IsOperation operations fits.0.each) (threads_plain (t + 1) threads (omega arith) fits.1) in
    rw (number, others) refl

-- a script that fits is read from its spelling
pub read_again : (threads : List (List Op)) → IsScript threads → length (spelling_of threads) ≤ MOST_BYTES → reading_of (spelling_of threads) ≡ Ok threads
unfolding spelling_of
read_again threads fits short =
    let few = fits.greatest in
    let each = recursion_from_All IsThread threads fits.each in
    let count = plain_number (length threads) (omega (arith, few)) in
    let bodies = threads_plain 1 threads (omega (arith, few)) each in
    let version = script_version threads in
    let plain : are_lines (script_lines threads) ≡ true = rw (version_plain version, count, bodies) refl in
    let spelled : Spells (script_lines threads) threads = script (number_written (length threads) (omega (arith, few))) (threads_written version 1 threads (omega (arith, few)) each (later_itself version)) in
    text_taken (spelling_of threads) threads short (rw (items_are 1 (script_lines threads) plain) spelled) fits
