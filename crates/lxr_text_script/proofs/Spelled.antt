-- What is spelled in the grammar, within the limits, is accepted as what it spells.
use Rattle.std.proofs.Common.{◌≡◌, ℕ, ◌+◌, ◌<◌, ◌≤◌, false, List, [], ◌∷◌, length, Some, Ok, refl, ◌∙◌, arith, codes}
use Rattle.std.proofs.lemmas.Bool.{lt-ltb, le-leb, eq-eqb}
use Rattle.std.specs.List.{AllByRecursion}
use Rattle.std.proofs.lemmas.List.Elements.{recursion_from_All}
use Rattle.lxr_graph.specs.declared.Op.{Op}
use Rattle.lxr_text_script.specs.declared.TheConstants.{MOST_BYTES}
use Rattle.lxr_text_script.specs.declared.Version.{Version}
use Rattle.lxr_text_script.specs.declared.Version.TheVariants.{One, Two}
use Rattle.lxr_text_script.specs.Lines.{Text, Line, end_from, items_from, texts}
use Rattle.lxr_text_script.specs.Numbers.{number_of, register_of}
use Rattle.lxr_text_script.specs.Operations.{◌>>=◌, number_at, register_at, size_at, index_at, new_of, load_of, store_of, put_of, get_of, swap_of, add_of, move_of, nil_of, same_of, alone, first_of, second_of, operation_of}
use Rattle.lxr_text_script.specs.Reading.{are, bodies_of, header_of, next_operation, nothing_after, number_after, opening_of, operations_of, reading_of, script_of, threads_of, header_version}
use Rattle.lxr_text_script.specs.Grammar.{IsNumber, IsRegister, IsSize, SpellsOperation, new, load, store, put, get, swap, add, move, nil, same, pause, collect, SpellsOperations, ended, operation, SpellsThreads, over, thread, Spells, script, version_word}
use Rattle.lxr_text_script.specs.Limits.{IsThread, IsScript}
use Rattle.lxr_text_script.proofs.Accepted.{within}

pub number_is : {word : Text} {n : ℕ} → IsNumber word n → number_of word ≡ Some n
unfolding number_of
number_is is =
    let some = lt-ltb _ _ is.some in
    let small = lt-ltb _ _ is.small in
    rw (is.value, some, is.digits, small) refl

register_is : {word : Text} {r : ℕ} → IsRegister word r → register_of word ≡ Some r
unfolding register_of
register_is is =
    let small = lt-ltb _ _ is.small in
    rw (is.is, number_is is.number, small) refl

module _ (n : ℕ) where
  number_taken : {word : Text} {v : ℕ} → IsNumber word v → number_at n word ≡ Ok v
  number_taken is = rw (number_is is) refl

  register_taken : {word : Text} {r : ℕ} → IsRegister word r → register_at n word ≡ Ok r
  register_taken is = rw (register_is is) refl

  size_taken : {word : Text} {size : ℕ} → IsSize word size → size_at n word ≡ Ok size
  unfolding size_at
  size_taken is = let small = le-leb _ _ is.small in rw (number_is is.number, small) refl

  index_taken : {word : Text} {index : ℕ} → IsSize word index → index_at n word ≡ Ok index
  unfolding index_at
  index_taken is = let small = le-leb _ _ is.small in rw (number_is is.number, small) refl

  -- a word that isn't one of the two more is read alike in both versions
  alike : (version : Version) (word : Text) (words : List Text) → second_of n word words ≡ first_of n word words → operation_of version n (word ∷ words) ≡ first_of n word words
  unfolding operation_of
  alike One word words e = refl
  alike Two word words e = e

  operation_taken : {version : Version} {words : List Text} {o : Op} → SpellsOperation version words o → operation_of version n words ≡ Ok o
  unfolding operation_of first_of second_of new_of load_of store_of put_of get_of swap_of add_of move_of nil_of same_of alone
  operation_taken {version} (new d r v) = alike version _ _ refl ∙ rw (register_is d, size_taken r, size_taken v) refl
  operation_taken {version} (load d b i) = alike version _ _ refl ∙ rw (register_is d, register_is b, index_taken i) refl
  operation_taken {version} (store b i s) = alike version _ _ refl ∙ rw (register_is b, index_taken i, register_is s) refl
  operation_taken {version} (put b i v) = alike version _ _ refl ∙ rw (register_is b, index_taken i, number_is v) refl
  operation_taken {version} (get b i) = alike version _ _ refl ∙ rw (register_is b, index_taken i) refl
  operation_taken (swap d b i s) = rw (register_is d, register_is b, index_taken i, register_is s) refl
  operation_taken (add b i v) = rw (register_is b, index_taken i, number_is v) refl
  operation_taken {version} (move d s) = alike version _ _ refl ∙ rw (register_is d, register_is s) refl
  operation_taken {version} (nil d) = alike version _ _ refl ∙ rw (register_is d) refl
  operation_taken {version} (same l r) = alike version _ _ refl ∙ rw (register_is l, register_is r) refl
  operation_taken {version} pause = alike version _ _ refl
  operation_taken {version} collect = alike version _ _ refl

-- no operation's line is `end`
is_no_end : {version : Version} {words : List Text} {o : Op} → SpellsOperation version words o → are words (codes "end" ∷ []) ≡ false
is_no_end (new d r v) = refl
is_no_end (load d b i) = refl
is_no_end (store b i s) = refl
is_no_end (put b i v) = refl
is_no_end (get b i) = refl
is_no_end (swap d b i s) = refl
is_no_end (add b i v) = refl
is_no_end (move d s) = refl
is_no_end (nil d) = refl
is_no_end (same l r) = refl
is_no_end pause = refl
is_no_end collect = refl

next_taken : (version : Version) (before : ℕ) (line : Line) (words : List Text) (o : Op) → line.words ≡ words → SpellsOperation version words o → before < 1048576 → next_operation version before line ≡ Ok o
unfolding next_operation
next_taken version before line words o is spelled lt =
    let room = lt-ltb _ _ lt in
    rw (is, operation_taken line.number spelled, room) refl

operations_taken : (version : Version) (end before : ℕ) {words rest : List (List Text)} {operations : List Op} → SpellsOperations version words operations rest → (lines : List Line) → texts lines ≡ words → before + length operations ≤ 1048576
    → (others : List Line) × (texts others ≡ rest) × (operations_of version end before lines ≡ Ok (operations, others))
unfolding operations_of
operations_taken version end before ended [] e room = cc
operations_taken version end before ended (line ∷ others) e room = let is : line.words ≡ codes "end" ∷ [] = cc in (others, cc, rw is refl)
operations_taken version end before (operation first more) [] e room = cc
operations_taken version end before (operation {line = words} {lines = tail} {o = o} {operations = operations} first more) (line ∷ others) e room =
    let is : line.words ≡ words = cc in
    let tails : texts others ≡ tail = cc in
    let later = operations_taken version end (before + 1) more others tails (omega arith) in
    let not_end : are line.words (codes "end" ∷ []) ≡ false = rw is (is_no_end first) in
    let now : next_operation version before line ≡ Ok o = next_taken version before line words o is first (omega arith) in
    (later.0, later.1, rw (not_end, now, later.2) refl)

opening_taken : (end t : ℕ) (lines : List Line) (number : Text) (rest : List (List Text)) → texts lines ≡ (codes "thread" ∷ number ∷ []) ∷ rest → IsNumber number t
    → (body : List Line) × (texts body ≡ rest) × (opening_of end t lines ≡ Ok body)
unfolding opening_of number_after
opening_taken end t [] number rest e says = cc
opening_taken end t (line ∷ others) number rest e says =
    let is : line.words ≡ codes "thread" ∷ number ∷ [] = cc in
    let yes = eq-eqb t t refl in
    (others, cc, rw (is, number_is says, yes) refl)

bodies_taken : (version : Version) (end : ℕ) {t : ℕ} {words rest : List (List Text)} {threads : List (List Op)} → SpellsThreads version t words threads rest → (lines : List Line) → texts lines ≡ words → AllByRecursion IsThread threads
    → (others : List Line) × (texts others ≡ rest) × (bodies_of version end (length threads) t lines ≡ Ok (threads, others))
unfolding bodies_of
bodies_taken version end over lines e each = (lines, e, refl)
bodies_taken version end (thread {t = t} {number = number} {lines = tail} says operations more) lines e each =
    let body = opening_taken end t lines number tail e says in
    let room = each.0.count in
    let read = operations_taken version end 0 operations body.0 body.1 (omega arith) in
    let later = bodies_taken version end more read.0 read.1 each.1 in
    (later.0, later.1, rw (body.2, read.2, later.2) refl)

-- the line of a version names it
header_taken : (version : Version) → header_version (codes "lxr" ∷ version_word version ∷ []) ≡ Some version
unfolding header_version
header_taken One = refl
header_taken Two = refl

script_taken : (end : ℕ) {words : List (List Text)} {threads : List (List Op)} → Spells words threads → (lines : List Line) → texts lines ≡ words → IsScript threads → script_of end lines ≡ Ok threads
unfolding script_of header_of threads_of number_after
script_taken end (script says bodies) [] e fits = cc
script_taken end (script says bodies) (first ∷ []) e fits = cc
script_taken end (script {version = version} {number = number} {lines = tail} {threads = threads} says bodies) (first ∷ second ∷ others) e fits =
    let header : first.words ≡ codes "lxr" ∷ version_word version ∷ [] = cc in
    let count : second.words ≡ codes "threads" ∷ number ∷ [] = cc in
    let tails : texts others ≡ tail = cc in
    let least = le-leb 1 (length threads) fits.least in
    let greatest = le-leb (length threads) 16 fits.greatest in
    let read = bodies_taken version end bodies others tails (recursion_from_All IsThread threads fits.each) in
    rw (header, header_taken version, count, number_is says, least, greatest, read.2) (nothing_left read.0 read.1)
  where
    nothing_left : (lines : List Line) → texts lines ≡ [] → (nothing_after lines >>= λ none. Ok threads) ≡ Ok threads
    nothing_left [] e = refl
    nothing_left (line ∷ lines) e = cc

-- what is spelled and within the limits is accepted
pub text_taken : (text : Text) (threads : List (List Op)) → length text ≤ MOST_BYTES → Spells (texts (items_from 1 text)) threads → IsScript threads → reading_of text ≡ Ok threads
text_taken text threads short spelled fits = within text short ∙ script_taken (end_from 1 text) spelled (items_from 1 text) refl fits
