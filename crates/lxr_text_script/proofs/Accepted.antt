-- What is read is within the limits of a script.
use Rattle.std.proofs.Common.{◌≡◌, ℕ, zero, suc, ◌+◌, ◌<◌, ◌≤◌, ◌^◌, Bool, true, false, ◌&&◌, cond, List, [], ◌∷◌, length, Option, Some, None, Result, Ok, Err, refl, sym, ap, arith, ltb, leb, codes, IfOk, eqb, nat_eq, subst, lit≤}
use Rattle.std.proofs.lemmas.Bool.{and_parts, false≢true, eqb-true, ltb-true, leb-true, le-leb}
use Rattle.std.specs.Bool.{⊤}
use Rattle.std.specs.Option.{MatchOption, option_and_then, option_map_or}
use Rattle.std.specs.List.{AllByRecursion}
use Rattle.std.specs.Str.{all_ascii_digits, bytes_eq}
use Rattle.std.proofs.lemmas.Slice.Eq.{bytes_eq-Decides, slice_eq-Decides}
use Rattle.std.specs.Str.Parse.{digits_value}
use Rattle.std.proofs.lemmas.List.Elements.{All-from_recursion}
use Rattle.lxr_graph.specs.declared.Op.{Op}
use Rattle.lxr_graph.specs.declared.Op.TheVariants as op
use Rattle.lxr_text_script.specs.declared.Script.{Script}
use Rattle.lxr_text_script.specs.declared.TheConstants.{MOST_BYTES, SCRIPT_REGISTERS}
use Rattle.lxr_text_script.specs.declared.Version.{Version}
use Rattle.lxr_text_script.specs.declared.Version.TheVariants.{One, Two}
use Rattle.lxr_text_script.specs.declared.fault.ScriptError.{ScriptError}
use Rattle.lxr_text_script.specs.declared.fault.ScriptFault.{ScriptFault}
use Rattle.lxr_text_script.specs.declared.fault.ScriptFault.TheVariants as fault
use Rattle.lxr_text_script.specs.Lines.{Text, Line, end_from, items_from, texts}
use Rattle.lxr_text_script.specs.Numbers.{number_of, register_numbered, register_of}
use Rattle.lxr_text_script.specs.Operations.{Read, ◌>>=◌, or_fault, number_at, register_at, size_at, index_at, new_of, load_of, store_of, put_of, get_of, swap_of, add_of, move_of, nil_of, same_of, alone, first_of, second_of, operation_of}
use Rattle.lxr_text_script.specs.Reading.{Gives, are, bodies_of, header_of, is_opening, next_operation, nothing_after, number_after, opening_of, operations_of, reading_of, script_of, thread_count, threads_in, threads_of, version_of, header_version}
use Rattle.lxr_text_script.specs.Grammar.{IsNumber, IsRegister, IsSize, SpellsOperation, new, load, store, put, get, swap, add, move, nil, same, pause, collect, SpellsOperations, ended, operation, SpellsThreads, over, thread, Spells, script, version_word}
use Rattle.lxr_text_script.specs.Limits.{IsOperation, IsThread, IsScript}

-- what holds of each value that a part gives, and from there of what is read after it, holds of the whole
pub then_fits : {A B : Type 0} (Q : A → Type 0) (P : B → Type 0) (r : Read A) (next : A → Read B) → IfOk r Q → ((x : A) → Q x → IfOk (next x) P) → IfOk (r >>= next) P
then_fits Q P (Ok x) next first more = more x first
then_fits Q P (Err f) next first more = tt

pub any : {A : Type 0} (r : Read A) → IfOk r (λ _. ⊤)
any (Ok x) = tt
any (Err f) = tt

-- a test of what was read
pub tested : {A : Type 0} (P : A → Type 0) (b : Bool) (f : ScriptFault) (x : A) → (b ≡ true → P x) → IfOk (cond b (Ok x) (Err f)) P
tested P true f x p = p refl
tested P false f x p = tt

optional : (P : ℕ → Type 0) (f : ScriptFault) (o : Option ℕ) → MatchOption o ⊤ P → IfOk (or_fault f o) P
optional P f None p = tt
optional P f (Some x) p = p

guarded : (P : ℕ → Type 0) (b : Bool) (x : ℕ) → (b ≡ true → P x) → MatchOption (cond b (Some x) None) ⊤ P
guarded P true x p = p refl
guarded P false x p = tt

number_spelled : (word : Text) → MatchOption (number_of word) ⊤ (IsNumber word)
unfolding number_of
number_spelled word = guarded (IsNumber word) ((ltb 0 (length word) && all_ascii_digits word) && ltb (digits_value 10 word) (2 ^ 64)) (digits_value 10 word)
    (λ e. let parts = and_parts (ltb 0 (length word) && all_ascii_digits word) (ltb (digits_value 10 word) (2 ^ 64)) e in
    let front = and_parts (ltb 0 (length word)) (all_ascii_digits word) parts.0 in
    record { some = ltb-true _ _ front.0; digits = front.1; value = refl; small = ltb-true _ _ parts.1 })

numbered : (digits : Text) (o : Option ℕ) → MatchOption o ⊤ (IsNumber digits) → MatchOption (option_and_then register_numbered o) ⊤ (IsRegister (114 ∷ digits))
numbered digits None is = tt
numbered digits (Some n) is = guarded (IsRegister (114 ∷ digits)) (ltb n SCRIPT_REGISTERS) n (λ e. record { digits = digits; is = refl; number = is; small = ltb-true n SCRIPT_REGISTERS e })

register_spelled : (word : Text) → MatchOption (register_of word) ⊤ (IsRegister word)
unfolding register_of
register_spelled [] = tt
register_spelled (b ∷ digits) = elim (eqb b 114) as (λ v. eqb b 114 ≡ v → MatchOption (cond v (option_and_then register_numbered (number_of digits)) None) ⊤ (IsRegister (b ∷ digits))) [
  | true ↦ λ e. rw (eqb-true b 114 e) (numbered digits (number_of digits) (number_spelled digits))
  | false ↦ λ e. tt
] refl

pub number_read : (n : ℕ) (word : Text) → IfOk (number_at n word) (IsNumber word)
number_read n word = optional (IsNumber word) _ (number_of word) (number_spelled word)

pub register_read : (n : ℕ) (word : Text) → IfOk (register_at n word) (IsRegister word)
register_read n word = optional (IsRegister word) _ (register_of word) (register_spelled word)

size_read : (n : ℕ) (word : Text) → IfOk (size_at n word) (IsSize word)
unfolding size_at
size_read n word = then_fits (IsNumber word) (IsSize word) (number_at n word) _ (number_read n word) (λ size is. tested (IsSize word) (leb size 1023) _ size (λ e. record { number = is; small = leb-true size 1023 e }))

index_read : (n : ℕ) (word : Text) → IfOk (index_at n word) (IsSize word)
unfolding index_at
index_read n word = then_fits (IsNumber word) (IsSize word) (number_at n word) _ (number_read n word) (λ index is. tested (IsSize word) (leb index 1023) _ index (λ e. record { number = is; small = leb-true index 1023 e }))

new_read : (version : Version) (n : ℕ) (words : List Text) → IfOk (new_of n words) (SpellsOperation version (codes "new" ∷ words))
unfolding new_of
new_read version n [] = tt
new_read version n (a ∷ []) = tt
new_read version n (a ∷ b ∷ []) = tt
new_read version n (a ∷ b ∷ c ∷ []) =
    then_fits (IsRegister a) (SpellsOperation _ _) (register_at n a) _ (register_read n a) (λ a_value a_is.
    then_fits (IsSize b) (SpellsOperation _ _) (size_at n b) _ (size_read n b) (λ b_value b_is.
    then_fits (IsSize c) (SpellsOperation _ _) (size_at n c) _ (size_read n c) (λ c_value c_is. new a_is b_is c_is)))
new_read version n (a ∷ b ∷ c ∷ d ∷ words) = tt

load_read : (version : Version) (n : ℕ) (words : List Text) → IfOk (load_of n words) (SpellsOperation version (codes "load" ∷ words))
unfolding load_of
load_read version n [] = tt
load_read version n (a ∷ []) = tt
load_read version n (a ∷ b ∷ []) = tt
load_read version n (a ∷ b ∷ c ∷ []) =
    then_fits (IsRegister a) (SpellsOperation _ _) (register_at n a) _ (register_read n a) (λ a_value a_is.
    then_fits (IsRegister b) (SpellsOperation _ _) (register_at n b) _ (register_read n b) (λ b_value b_is.
    then_fits (IsSize c) (SpellsOperation _ _) (index_at n c) _ (index_read n c) (λ c_value c_is. load a_is b_is c_is)))
load_read version n (a ∷ b ∷ c ∷ d ∷ words) = tt

store_read : (version : Version) (n : ℕ) (words : List Text) → IfOk (store_of n words) (SpellsOperation version (codes "store" ∷ words))
unfolding store_of
store_read version n [] = tt
store_read version n (a ∷ []) = tt
store_read version n (a ∷ b ∷ []) = tt
store_read version n (a ∷ b ∷ c ∷ []) =
    then_fits (IsRegister a) (SpellsOperation _ _) (register_at n a) _ (register_read n a) (λ a_value a_is.
    then_fits (IsSize b) (SpellsOperation _ _) (index_at n b) _ (index_read n b) (λ b_value b_is.
    then_fits (IsRegister c) (SpellsOperation _ _) (register_at n c) _ (register_read n c) (λ c_value c_is. store a_is b_is c_is)))
store_read version n (a ∷ b ∷ c ∷ d ∷ words) = tt

put_read : (version : Version) (n : ℕ) (words : List Text) → IfOk (put_of n words) (SpellsOperation version (codes "put" ∷ words))
unfolding put_of
put_read version n [] = tt
put_read version n (a ∷ []) = tt
put_read version n (a ∷ b ∷ []) = tt
put_read version n (a ∷ b ∷ c ∷ []) =
    then_fits (IsRegister a) (SpellsOperation _ _) (register_at n a) _ (register_read n a) (λ a_value a_is.
    then_fits (IsSize b) (SpellsOperation _ _) (index_at n b) _ (index_read n b) (λ b_value b_is.
    then_fits (IsNumber c) (SpellsOperation _ _) (number_at n c) _ (number_read n c) (λ c_value c_is. put a_is b_is c_is)))
put_read version n (a ∷ b ∷ c ∷ d ∷ words) = tt

get_read : (version : Version) (n : ℕ) (words : List Text) → IfOk (get_of n words) (SpellsOperation version (codes "get" ∷ words))
unfolding get_of
get_read version n [] = tt
get_read version n (a ∷ []) = tt
get_read version n (a ∷ b ∷ []) =
    then_fits (IsRegister a) (SpellsOperation _ _) (register_at n a) _ (register_read n a) (λ a_value a_is.
    then_fits (IsSize b) (SpellsOperation _ _) (index_at n b) _ (index_read n b) (λ b_value b_is. get a_is b_is))
get_read version n (a ∷ b ∷ d ∷ words) = tt

move_read : (version : Version) (n : ℕ) (words : List Text) → IfOk (move_of n words) (SpellsOperation version (codes "move" ∷ words))
unfolding move_of
move_read version n [] = tt
move_read version n (a ∷ []) = tt
move_read version n (a ∷ b ∷ []) =
    then_fits (IsRegister a) (SpellsOperation _ _) (register_at n a) _ (register_read n a) (λ a_value a_is.
    then_fits (IsRegister b) (SpellsOperation _ _) (register_at n b) _ (register_read n b) (λ b_value b_is. move a_is b_is))
move_read version n (a ∷ b ∷ d ∷ words) = tt

nil_read : (version : Version) (n : ℕ) (words : List Text) → IfOk (nil_of n words) (SpellsOperation version (codes "nil" ∷ words))
unfolding nil_of
nil_read version n [] = tt
nil_read version n (a ∷ []) =
    then_fits (IsRegister a) (SpellsOperation _ _) (register_at n a) _ (register_read n a) (λ a_value a_is. nil a_is)
nil_read version n (a ∷ d ∷ words) = tt

same_read : (version : Version) (n : ℕ) (words : List Text) → IfOk (same_of n words) (SpellsOperation version (codes "same" ∷ words))
unfolding same_of
same_read version n [] = tt
same_read version n (a ∷ []) = tt
same_read version n (a ∷ b ∷ []) =
    then_fits (IsRegister a) (SpellsOperation _ _) (register_at n a) _ (register_read n a) (λ a_value a_is.
    then_fits (IsRegister b) (SpellsOperation _ _) (register_at n b) _ (register_read n b) (λ b_value b_is. same a_is b_is))
same_read version n (a ∷ b ∷ d ∷ words) = tt

swap_read : (n : ℕ) (words : List Text) → IfOk (swap_of n words) (SpellsOperation Two (codes "swap" ∷ words))
unfolding swap_of
swap_read n [] = tt
swap_read n (a ∷ []) = tt
swap_read n (a ∷ b ∷ []) = tt
swap_read n (a ∷ b ∷ c ∷ []) = tt
swap_read n (a ∷ b ∷ c ∷ d ∷ []) =
    then_fits (IsRegister a) (SpellsOperation _ _) (register_at n a) _ (register_read n a) (λ a_value a_is.
    then_fits (IsRegister b) (SpellsOperation _ _) (register_at n b) _ (register_read n b) (λ b_value b_is.
    then_fits (IsSize c) (SpellsOperation _ _) (index_at n c) _ (index_read n c) (λ c_value c_is.
    then_fits (IsRegister d) (SpellsOperation _ _) (register_at n d) _ (register_read n d) (λ d_value d_is. swap a_is b_is c_is d_is))))
swap_read n (a ∷ b ∷ c ∷ d ∷ e ∷ words) = tt

add_read : (n : ℕ) (words : List Text) → IfOk (add_of n words) (SpellsOperation Two (codes "add" ∷ words))
unfolding add_of
add_read n [] = tt
add_read n (a ∷ []) = tt
add_read n (a ∷ b ∷ []) = tt
add_read n (a ∷ b ∷ c ∷ []) =
    then_fits (IsRegister a) (SpellsOperation _ _) (register_at n a) _ (register_read n a) (λ a_value a_is.
    then_fits (IsSize b) (SpellsOperation _ _) (index_at n b) _ (index_read n b) (λ b_value b_is.
    then_fits (IsNumber c) (SpellsOperation _ _) (number_at n c) _ (number_read n c) (λ c_value c_is. add a_is b_is c_is)))
add_read n (a ∷ b ∷ c ∷ d ∷ words) = tt

pause_read : (version : Version) (n : ℕ) (words : List Text) → IfOk (alone op.Pause n words) (SpellsOperation version (codes "pause" ∷ words))
unfolding alone
pause_read version n [] = pause
pause_read version n (a ∷ words) = tt

collect_read : (version : Version) (n : ℕ) (words : List Text) → IfOk (alone op.Collect n words) (SpellsOperation version (codes "collect" ∷ words))
unfolding alone
collect_read version n [] = collect
collect_read version n (a ∷ words) = tt

-- a word that is the given one, or another
named : (version : Version) (word name : Text) (words : List Text) (x y : Read Op) → IfOk x (SpellsOperation version (name ∷ words)) → IfOk y (SpellsOperation version (word ∷ words))
    → IfOk (cond (bytes_eq word name) x y) (SpellsOperation version (word ∷ words))
named version word name words x y px py = elim (bytes_eq word name) as (λ v. bytes_eq word name ≡ v → IfOk (cond v x y) (SpellsOperation version (word ∷ words))) [
  | true ↦ λ e. let same : word ≡ name = (bytes_eq-Decides word name).0 e in rw same px
  | false ↦ λ e. py
] refl

first_read : (version : Version) (n : ℕ) (word : Text) (words : List Text) → IfOk (first_of n word words) (SpellsOperation version (word ∷ words))
unfolding first_of
first_read version n word words =
    named version word (codes "new") words _ _ (new_read version n words) (
    named version word (codes "load") words _ _ (load_read version n words) (
    named version word (codes "store") words _ _ (store_read version n words) (
    named version word (codes "put") words _ _ (put_read version n words) (
    named version word (codes "get") words _ _ (get_read version n words) (
    named version word (codes "move") words _ _ (move_read version n words) (
    named version word (codes "nil") words _ _ (nil_read version n words) (
    named version word (codes "same") words _ _ (same_read version n words) (
    named version word (codes "pause") words _ _ (pause_read version n words) (
    named version word (codes "collect") words _ _ (collect_read version n words) tt)))))))))

pub operation_read : (version : Version) (n : ℕ) (words : List Text) → IfOk (operation_of version n words) (SpellsOperation version words)
unfolding operation_of second_of
operation_read version n [] = tt
operation_read One n (word ∷ words) = first_read One n word words
operation_read Two n (word ∷ words) =
    named Two word (codes "swap") words _ _ (swap_read n words) (
    named Two word (codes "add") words _ _ (add_read n words) (first_read Two n word words))

next_read : (version : Version) (before : ℕ) (line : Line) → IfOk (next_operation version before line) (λ o. (before < 1048576) × SpellsOperation version line.words o)
unfolding next_operation
next_read version before line = then_fits (SpellsOperation version line.words) _ (operation_of version line.number line.words) _ (operation_read version line.number line.words) (λ o is.
    tested (λ p. (before < 1048576) × SpellsOperation version line.words p) (ltb before 1048576) _ o (λ e. (ltb-true _ _ e, is)))

these_very : (line words : List Text) → are line words ≡ true → line ≡ words
these_very line words e = (slice_eq-Decides bytes_eq-Decides line words (are line words) refl).0 e

-- what is spelled is within the limits
pub operation_fits : {version : Version} {words : List Text} {o : Op} → SpellsOperation version words o → IsOperation o
operation_fits (new d r v) = record { well_formed = (d.small, (r.small, v.small)); written = tt }
operation_fits (load d b i) = record { well_formed = (d.small, b.small); written = i.small }
operation_fits (store b i s) = record { well_formed = (b.small, s.small); written = i.small }
operation_fits (put b i v) = record { well_formed = b.small; written = (i.small, v.small) }
operation_fits (get b i) = record { well_formed = b.small; written = i.small }
operation_fits (swap d b i s) = record { well_formed = (d.small, b.small, s.small); written = i.small }
operation_fits (add b i v) = record { well_formed = b.small; written = (i.small, v.small) }
operation_fits (move d s) = record { well_formed = (d.small, s.small); written = tt }
operation_fits (nil d) = record { well_formed = d.small; written = tt }
operation_fits (same l r) = record { well_formed = (l.small, r.small); written = tt }
operation_fits pause = record { well_formed = tt; written = tt }
operation_fits collect = record { well_formed = tt; written = tt }

operations_fit : {version : Version} {lines rest : List (List Text)} {operations : List Op} → SpellsOperations version lines operations rest → AllByRecursion IsOperation operations
operations_fit ended = tt
operations_fit (operation first others) = (operation_fits first, operations_fit others)

-- what the operations of a thread are read from
pub record ReadsThread (version : Version) (before : ℕ) (lines : List Line) (read : List Op × List Line) : Type 0 where
  pub spelled : SpellsOperations version (texts lines) read.0 (texts read.1)
  pub room : before + length read.0 ≤ 1048576

operations_read : (version : Version) (end before : ℕ) (lines : List Line) → before ≤ 1048576 → IfOk (operations_of version end before lines) (ReadsThread version before lines)
unfolding operations_of
operations_read version end before [] room = tt
operations_read version end before (line ∷ others) room = elim (are line.words (codes "end" ∷ [])) as (λ v. are line.words (codes "end" ∷ []) ≡ v → IfOk (cond v (Ok ([], others)) (next_operation version before line >>= λ o. operations_of version end (before + 1) others >>= λ more. Ok (o ∷ more.0, more.1))) (ReadsThread version before (line ∷ others))) [
  | true ↦ λ e. record { spelled = rw (these_very line.words (codes "end" ∷ []) e) ended; room = omega arith }
  | false ↦ λ e. then_fits _ (ReadsThread version before (line ∷ others)) (next_operation version before line) _ (next_read version before line) (λ o is.
      then_fits (ReadsThread version (before + 1) others) (ReadsThread version before (line ∷ others)) (operations_of version end (before + 1) others) _ (operations_read version end (before + 1) others (let lt = is.0 in omega arith)) (λ more reads.
      record { spelled = operation is.1 reads.spelled; room = let le = reads.room in omega arith }))
] refl

-- the line that a name and a number make
after_is : (name : Text) (words : List Text) → MatchOption (number_after name words) ⊤ (λ n. (number : Text) × (words ≡ name ∷ number ∷ []) × IsNumber number n)
unfolding number_after
after_is name [] = tt
after_is name (word ∷ []) = tt
after_is name (word ∷ number ∷ []) = elim (bytes_eq word name) as (λ v. bytes_eq word name ≡ v → MatchOption (cond v (number_of number) None) ⊤ (λ n. (digits : Text) × (word ∷ number ∷ [] ≡ name ∷ digits ∷ []) × IsNumber digits n)) [
  | true ↦ λ e. let same : word ≡ name = (bytes_eq-Decides word name).0 e in found (number_of number) (ap (λ (w : Text). w ∷ number ∷ []) same) (number_spelled number)
  | false ↦ λ e. tt
] refl
  where
    found : (o : Option ℕ) → word ∷ number ∷ [] ≡ name ∷ number ∷ [] → MatchOption o ⊤ (IsNumber number) → MatchOption o ⊤ (λ n. (digits : Text) × (word ∷ number ∷ [] ≡ name ∷ digits ∷ []) × IsNumber digits n)
    found None e is = tt
    found (Some n) e is = (number, e, is)
after_is name (word ∷ number ∷ more ∷ words) = tt

-- a line `thread t` and the lines after it
pub record Opens (t : ℕ) (lines body : List Line) : Type 0 where
  pub number : Text
  pub is : texts lines ≡ (codes "thread" ∷ number ∷ []) ∷ texts body
  pub says : IsNumber number t

the_number : (t : ℕ) (o : Option ℕ) (P : ℕ → Type 0) → MatchOption o ⊤ P → option_map_or (λ n. nat_eq n t) o false ≡ true → P t
the_number t None P p e = absurd (false≢true e)
the_number t (Some n) P p e = subst P (eqb-true n t e) p

opening_read : (end t : ℕ) (lines : List Line) → IfOk (opening_of end t lines) (Opens t lines)
unfolding opening_of
opening_read end t [] = tt
opening_read end t (line ∷ others) = tested (Opens t (line ∷ others)) (is_opening t line.words) _ others (λ e.
    let is = the_number t (number_after (codes "thread") line.words) _ (after_is (codes "thread") line.words) e in
    record { number = is.0; is = ap (λ (words : List Text). words ∷ texts others) is.1; says = is.2 })

-- what so many threads are read from
pub record ReadsThreads (version : Version) (count t : ℕ) (lines : List Line) (read : List (List Op) × List Line) : Type 0 where
  pub spelled : SpellsThreads version t (texts lines) read.0 (texts read.1)
  pub as_many : length read.0 ≡ count
  pub each : AllByRecursion IsThread read.0

bodies_read : (version : Version) (end count t : ℕ) (lines : List Line) → IfOk (bodies_of version end count t lines) (ReadsThreads version count t lines)
unfolding bodies_of
bodies_read version end zero t lines = record { spelled = over; as_many = refl; each = tt }
bodies_read version end (suc count) t lines =
    then_fits (Opens t lines) (ReadsThreads version (suc count) t lines) (opening_of end t lines) _ (opening_read end t lines) (λ body opens.
    then_fits (ReadsThread version 0 body) (ReadsThreads version (suc count) t lines) (operations_of version end 0 body) _ (operations_read version end 0 body (lit≤ tt)) (λ operations reads.
    then_fits (ReadsThreads version count (t + 1) operations.1) (ReadsThreads version (suc count) t lines) (bodies_of version end count (t + 1) operations.1) _ (bodies_read version end count (t + 1) operations.1) (λ others more.
    record {
      spelled = rw opens.is (thread opens.says reads.spelled more.spelled);
      as_many = ap suc more.as_many;
      each = (record { count = let le = reads.room in omega arith; each = All-from_recursion IsOperation operations.0 (operations_fit reads.spelled) }, more.each);
    })))

-- what a word that names a version is
version_read : (word : Text) → MatchOption (version_of word) ⊤ (λ version. word ≡ version_word version)
version_read word = elim (bytes_eq word (codes "1")) as (λ v. bytes_eq word (codes "1") ≡ v → MatchOption (cond v (Some One) (cond (bytes_eq word (codes "2")) (Some Two) None)) ⊤ (λ version. word ≡ version_word version)) [
  | true ↦ λ e. (bytes_eq-Decides word (codes "1")).0 e
  | false ↦ λ e. elim (bytes_eq word (codes "2")) as (λ v. bytes_eq word (codes "2") ≡ v → MatchOption (cond v (Some Two) None) ⊤ (λ version. word ≡ version_word version)) [
    | true ↦ λ e. (bytes_eq-Decides word (codes "2")).0 e
    | false ↦ λ e. tt
  ] refl
] refl

-- the line that a version makes
header_is : (words : List Text) → MatchOption (header_version words) ⊤ (λ version. words ≡ codes "lxr" ∷ version_word version ∷ [])
unfolding header_version
header_is [] = tt
header_is (word ∷ []) = tt
header_is (word ∷ name ∷ []) = elim (bytes_eq word (codes "lxr")) as (λ v. bytes_eq word (codes "lxr") ≡ v → MatchOption (cond v (version_of name) None) ⊤ (λ version. word ∷ name ∷ [] ≡ codes "lxr" ∷ version_word version ∷ [])) [
  | true ↦ λ e. named_so ((bytes_eq-Decides word (codes "lxr")).0 e) (version_of name) (version_read name)
  | false ↦ λ e. tt
] refl
  where
    named_so : word ≡ codes "lxr" → (o : Option Version) → MatchOption o ⊤ (λ version. name ≡ version_word version) → MatchOption o ⊤ (λ version. word ∷ name ∷ [] ≡ codes "lxr" ∷ version_word version ∷ [])
    named_so e None is = tt
    named_so e (Some version) is = rw (e, is) refl
header_is (word ∷ name ∷ more ∷ words) = tt

-- the first line of a script, with the lines after it
header_read : (end : ℕ) (lines : List Line) → IfOk {T = Version × List Line} (header_of end lines) (λ read. texts lines ≡ (codes "lxr" ∷ version_word read.0 ∷ []) ∷ texts read.1)
unfolding header_of
header_read end [] = tt
header_read end (line ∷ others) = found (header_version line.words) (header_is line.words)
  where
    found : (o : Option Version) → MatchOption o ⊤ (λ version. line.words ≡ codes "lxr" ∷ version_word version ∷ [])
        → IfOk {T = Version × List Line} (or_fault (fault.Header line.number) o >>= λ version. Ok (version, others)) (λ read. texts (line ∷ others) ≡ (codes "lxr" ∷ version_word read.0 ∷ []) ∷ texts read.1)
    found None is = tt
    found (Some version) is = ap (λ (words : List Text). words ∷ texts others) is

-- the second line
pub record Counts (lines : List Line) (read : ℕ × List Line) : Type 0 where
  pub number : Text
  pub is : texts lines ≡ (codes "threads" ∷ number ∷ []) ∷ texts read.1
  pub says : IsNumber number read.0
  pub least : 1 ≤ read.0
  pub greatest : read.0 ≤ 16

in_range : (words : List Text) (o : Option ℕ) → MatchOption o ⊤ (λ n. (number : Text) × (words ≡ codes "threads" ∷ number ∷ []) × IsNumber number n)
    → MatchOption (thread_count o) ⊤ (λ n. (number : Text) × (words ≡ codes "threads" ∷ number ∷ []) × IsNumber number n × (1 ≤ n) × (n ≤ 16))
in_range words None is = tt
in_range words (Some n) is = guarded (λ n. (number : Text) × (words ≡ codes "threads" ∷ number ∷ []) × IsNumber number n × (1 ≤ n) × (n ≤ 16)) (leb 1 n && leb n 16) n
    (λ e. let both = and_parts (leb 1 n) (leb n 16) e in (is.0, is.1, is.2, leb-true 1 n both.0, leb-true n 16 both.1))

threads_read : (end : ℕ) (lines : List Line) → IfOk (threads_of end lines) (Counts lines)
unfolding threads_of
threads_read end [] = tt
threads_read end (line ∷ others) =
    let Q : ℕ → Type 0 = λ n. (number : Text) × (line.words ≡ codes "threads" ∷ number ∷ []) × IsNumber number n × (1 ≤ n) × (n ≤ 16) in
    then_fits Q (Counts (line ∷ others)) _ _ (optional Q _ (thread_count (number_after (codes "threads") line.words)) (in_range line.words (number_after (codes "threads") line.words) (after_is (codes "threads") line.words))) (λ n is. record {
      number = is.0;
      is = ap (λ (words : List Text). words ∷ texts others) is.1;
      says = is.2;
      least = is.3;
      greatest = is.4;
    })

last_read : (lines : List Line) → IfOk (nothing_after lines) (λ _. lines ≡ [])
last_read [] = refl
last_read (line ∷ lines) = tt

pub script_read : (end : ℕ) (lines : List Line) → IfOk (script_of end lines) (λ threads. Spells (texts lines) threads × IsScript threads)
unfolding script_of
script_read end lines =
    let P : List (List Op) → Type 0 = λ threads. Spells (texts lines) threads × IsScript threads in
    then_fits _ P (header_of end lines) _ (header_read end lines) (λ first header.
    then_fits (Counts first.1) P (threads_of end first.1) _ (threads_read end first.1) (λ counted counts.
    then_fits (ReadsThreads first.0 counted.0 1 counted.1) P (bodies_of first.0 end counted.0 1 counted.1) _ (bodies_read first.0 end counted.0 1 counted.1) (λ bodies reads.
    then_fits _ P (nothing_after bodies.1) _ (last_read bodies.1) (λ _ none.
    let number = rw (sym reads.as_many) at counts.says in
    let lines_of : SpellsThreads first.0 1 (texts counted.1) bodies.0 [] = rw none at reads.spelled in (
      rw (header, counts.is) (script number lines_of),
      record {
        least = rw reads.as_many counts.least;
        greatest = rw reads.as_many counts.greatest;
        each = All-from_recursion IsThread bodies.0 reads.each;
      },
    )))))

also : (F : Type 0) (words : List (List Text)) (r : Read (List (List Op))) → F → IfOk r (λ threads. Spells words threads × IsScript threads) → IfOk r (λ threads. F × Spells words threads × IsScript threads)
also F words (Ok threads) f p = (f, p.0, p.1)
also F words (Err e) f p = tt

-- what is accepted isn't too long, has a spelling in the grammar, and is within the limits
pub text_read : (text : Text) → IfOk (reading_of text) (λ threads. (length text ≤ MOST_BYTES) × Spells (texts (items_from 1 text)) threads × IsScript threads)
unfolding reading_of
text_read text = elim (leb (length text) MOST_BYTES) as (λ v. leb (length text) MOST_BYTES ≡ v → IfOk (cond v (script_of (end_from 1 text) (items_from 1 text)) (Err fault.TooLong)) (λ threads. (length text ≤ MOST_BYTES) × Spells (texts (items_from 1 text)) threads × IsScript threads)) [
  | true ↦ λ e. also _ _ (script_of (end_from 1 text) (items_from 1 text)) (leb-true (length text) MOST_BYTES e) (script_read (end_from 1 text) (items_from 1 text))
  | false ↦ λ e. tt
] refl

-- and so is an answer that is what was read
pub answer_fits : (result : Result Script ScriptError) (text : Text) → Gives threads_in result (reading_of text) → IfOk result (λ script. IsScript (threads_in script))
answer_fits (Ok whole) text is = let read = rw is at (text_read text) in read.2
answer_fits (Err e) text is = tt

pub within : (text : Text) → length text ≤ MOST_BYTES → reading_of text ≡ script_of (end_from 1 text) (items_from 1 text)
unfolding reading_of
within text le = let yes : leb (length text) MOST_BYTES ≡ true = le-leb _ _ le in rw yes refl
