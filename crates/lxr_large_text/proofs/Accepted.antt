-- What is read is within the limits of a script with large objects.
use Rattle.std.proofs.Common.{◌≡◌, ℕ, ◌+◌, ◌<◌, ◌≤◌, ◌^◌, true, false, ◌&&◌, cond, List, [], ◌∷◌, length, Result, Ok, Err, refl, arith, ltb, leb, codes, IfOk}
use Rattle.std.proofs.lemmas.Bool.{and_parts, ltb-true, leb-true, le-leb}
use Rattle.std.specs.List.{AllByRecursion}
use Rattle.std.specs.Str.{bytes_eq}
use Rattle.std.proofs.lemmas.List.Elements.{All-from_recursion}
use Rattle.lxr_base.specs.Roomy.{Roomy}
use Rattle.lxr_text_script.specs.declared.fault.ScriptError.{ScriptError}
use Rattle.lxr_text_script.specs.declared.fault.ScriptFault.TheVariants as fault
use Rattle.lxr_graph.specs.declared.Op.{Op}
use Rattle.lxr_text_script.specs.declared.Version.TheVariants.{One}
use Rattle.lxr_text_script.specs.Spelling.{operation_version}
use Rattle.lxr_text_script.specs.Grammar.{IsNumber, IsRegister, SpellsOperation, new, load, store, put, get, move, nil, same, pause, collect}
use Rattle.lxr_text_script.specs.Lines.{Text, Line, end_from, items_from}
use Rattle.lxr_text_script.specs.Operations.{Read, ◌>>=◌, number_at, operation_of, register_at}
use Rattle.lxr_text_script.specs.Reading.{Gives, are, nothing_after}
use Rattle.lxr_text_script.specs.declared.TheConstants.{MOST_BYTES}
use Rattle.lxr_text_script.proofs.Accepted.{any, number_read, operation_fits, operation_read, register_read, tested, then_fits}
use Rattle.lxr_large_model.specs.declared.TheConstants.{MOST_BODY_BLOCKS, MOST_BODY_INDEX}
use Rattle.lxr_large_model.specs.declared.LargeOp.{LargeOp}
use Rattle.lxr_large_model.specs.declared.LargeOp.TheVariants as op
use Rattle.lxr_large_text.specs.Limits.{IsLargeOperation, IsLargeScript}
use Rattle.lxr_large_text.specs.Operations.{big_of, blocks_at, body_index_at, get_of, large_operation_of, put_of, small_of}
use Rattle.lxr_large_text.specs.Reading.{large_header_of, large_reading_of, large_script_of, next_operation, operations_of}

blocks_read : (n : ℕ) (word : Text) → IfOk (blocks_at n word) (λ k. (1 ≤ k) × (k ≤ MOST_BODY_BLOCKS))
unfolding blocks_at
blocks_read n word = then_fits (IsNumber word) (λ k. (1 ≤ k) × (k ≤ MOST_BODY_BLOCKS)) (number_at n word) _ (number_read n word) (λ k is.
    tested (λ k. (1 ≤ k) × (k ≤ MOST_BODY_BLOCKS)) (leb 1 k && leb k MOST_BODY_BLOCKS) _ k (λ e. let both = and_parts (leb 1 k) (leb k MOST_BODY_BLOCKS) e in (leb-true 1 k both.0, leb-true k MOST_BODY_BLOCKS both.1)))

index_read : (n : ℕ) (word : Text) → IfOk (body_index_at n word) (λ k. k ≤ MOST_BODY_INDEX)
unfolding body_index_at
index_read n word = then_fits (IsNumber word) (λ k. k ≤ MOST_BODY_INDEX) (number_at n word) _ (number_read n word) (λ k is.
    tested (λ k. k ≤ MOST_BODY_INDEX) (leb k MOST_BODY_INDEX) _ k (λ e. leb-true k MOST_BODY_INDEX e))

big_read : (n : ℕ) (words : List Text) → IfOk (big_of n words) IsLargeOperation
unfolding big_of
big_read n [] = tt
big_read n (a ∷ []) = tt
big_read n (a ∷ b ∷ []) =
    then_fits (IsRegister a) IsLargeOperation (register_at n a) _ (register_read n a) (λ dest a_is.
    then_fits (λ k. (1 ≤ k) × (k ≤ MOST_BODY_BLOCKS)) IsLargeOperation (blocks_at n b) _ (blocks_read n b) (λ blocks b_is.
    record { well_formed = (a_is.small, b_is.0, b_is.1); written = tt; first = tt }))
big_read n (a ∷ b ∷ d ∷ words) = tt

put_read : (n : ℕ) (words : List Text) → IfOk (put_of n words) IsLargeOperation
unfolding put_of
put_read n [] = tt
put_read n (a ∷ []) = tt
put_read n (a ∷ b ∷ []) = tt
put_read n (a ∷ b ∷ c ∷ []) =
    then_fits (IsRegister a) IsLargeOperation (register_at n a) _ (register_read n a) (λ base a_is.
    then_fits (λ k. k ≤ MOST_BODY_INDEX) IsLargeOperation (body_index_at n b) _ (index_read n b) (λ index b_is.
    then_fits (IsNumber c) IsLargeOperation (number_at n c) _ (number_read n c) (λ value c_is.
    record { well_formed = a_is.small; written = (b_is, c_is.small); first = tt })))
put_read n (a ∷ b ∷ c ∷ d ∷ words) = tt

get_read : (n : ℕ) (words : List Text) → IfOk (get_of n words) IsLargeOperation
unfolding get_of
get_read n [] = tt
get_read n (a ∷ []) = tt
get_read n (a ∷ b ∷ []) =
    then_fits (IsRegister a) IsLargeOperation (register_at n a) _ (register_read n a) (λ base a_is.
    then_fits (λ k. k ≤ MOST_BODY_INDEX) IsLargeOperation (body_index_at n b) _ (index_read n b) (λ index b_is.
    record { well_formed = a_is.small; written = b_is; first = tt }))
get_read n (a ∷ b ∷ d ∷ words) = tt

-- what is spelled in the first version is one of its operations
first_has : {words : List Text} {o : Op} → SpellsOperation One words o → operation_version o ≡ One
first_has (new d r v) = refl
first_has (load d b i) = refl
first_has (store b i s) = refl
first_has (put b i v) = refl
first_has (get b i) = refl
first_has (move d s) = refl
first_has (nil d) = refl
first_has (same l r) = refl
first_has pause = refl
first_has collect = refl

small_read : (n : ℕ) (words : List Text) → IfOk (small_of n words) IsLargeOperation
unfolding small_of
small_read n words = then_fits (SpellsOperation One words) IsLargeOperation (operation_of One n words) _ (operation_read One n words) (λ o is.
    let fits = operation_fits is in record { well_formed = fits.well_formed; written = fits.written; first = first_has is })

-- the one or the other
either : (b : _) (x y : Read LargeOp) → IfOk x IsLargeOperation → IfOk y IsLargeOperation → IfOk (cond b x y) IsLargeOperation
either true x y p q = p
either false x y p q = q

operation_read_large : (n : ℕ) (words : List Text) → IfOk (large_operation_of n words) IsLargeOperation
unfolding large_operation_of
operation_read_large n [] = tt
operation_read_large n (word ∷ words) =
    either (bytes_eq word (codes "big")) _ _ (big_read n words) (
    either (bytes_eq word (codes "bput")) _ _ (put_read n words) (
    either (bytes_eq word (codes "bget")) _ _ (get_read n words) (small_read n (word ∷ words))))

next_read : (before : ℕ) (line : Line) → IfOk (next_operation before line) (λ o. (before < 1048576) × IsLargeOperation o)
unfolding next_operation
next_read before line = then_fits IsLargeOperation _ (large_operation_of line.number line.words) _ (operation_read_large line.number line.words) (λ o is.
    tested (λ p. (before < 1048576) × IsLargeOperation p) (ltb before 1048576) _ o (λ e. (ltb-true _ _ e, is)))

-- what operations are read to be
record AreRead (before : ℕ) (read : List LargeOp × List Line) : Type 0 where
  each : AllByRecursion IsLargeOperation read.0
  room : before + length read.0 ≤ 1048576

operations_read : (end before : ℕ) (lines : List Line) → before ≤ 1048576 → IfOk (operations_of end before lines) (AreRead before)
unfolding operations_of
operations_read end before [] room = tt
operations_read end before (line ∷ others) room = elim (are line.words (codes "end" ∷ [])) as (λ v. IfOk (cond v (Ok ([], others)) (next_operation before line >>= λ o. operations_of end (before + 1) others >>= λ more. Ok (o ∷ more.0, more.1))) (AreRead before)) [
  | true ↦ record { each = tt; room = omega (arith, room) }
  | false ↦ then_fits _ (AreRead before) (next_operation before line) _ (next_read before line) (λ o is.
      then_fits (AreRead (before + 1)) (AreRead before) (operations_of end (before + 1) others) _ (operations_read end (before + 1) others (let lt = is.0 in omega arith)) (λ more reads.
      record { each = (is.1, reads.each); room = let le = reads.room in omega arith }))
]

script_read : (end : ℕ) (lines : List Line) → IfOk (large_script_of end lines) IsLargeScript
unfolding large_script_of
script_read end lines =
    then_fits _ IsLargeScript (large_header_of end lines) _ (any (large_header_of end lines)) (λ first _.
    then_fits (AreRead 0) IsLargeScript (operations_of end 0 first) _ (operations_read end 0 first (omega arith)) (λ operations reads.
    then_fits _ IsLargeScript (nothing_after operations.1) _ (any (nothing_after operations.1)) (λ _ _.
    record { count = let le = reads.room in omega arith; each = All-from_recursion IsLargeOperation operations.0 reads.each })))

text_read : (text : Text) → IfOk (large_reading_of text) IsLargeScript
unfolding large_reading_of
text_read text = elim (leb (length text) MOST_BYTES) as (λ v. IfOk (cond v (large_script_of (end_from 1 text) (items_from 1 text)) (Err fault.TooLong)) IsLargeScript) [
  | true ↦ script_read (end_from 1 text) (items_from 1 text)
  | false ↦ tt
]

-- and so is an answer that is what was read
pub answer_fits : (result : Result (Roomy LargeOp) ScriptError) (text : Text) → Gives (λ operations. operations.items) result (large_reading_of text) → IfOk result (λ operations. IsLargeScript operations.items)
answer_fits (Ok whole) text is = rw is at (text_read text)
answer_fits (Err e) text is = tt

pub within : (text : Text) → length text ≤ MOST_BYTES → large_reading_of text ≡ large_script_of (end_from 1 text) (items_from 1 text)
unfolding large_reading_of
within text le = let yes : leb (length text) MOST_BYTES ≡ true = le-leb _ _ le in rw yes refl
