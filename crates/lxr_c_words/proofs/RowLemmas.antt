-- Words in a row of a body: those behind its first word are the words of the object, as far as that says.
use Rattle.std.proofs.Common.{◌≡◌, ℕ, suc, ◌+◌, ◌-◌, ◌≤◌, ◌∙◌, refl, sym, ap, arith, Some, None, List, [], ◌∷◌, length, take, drop}
use Rattle.std.specs.Prelude.{if◌then◌else◌}
use Rattle.std.proofs.lemmas.Bool.{le-leb}
use Rattle.std.proofs.lemmas.List.{drop-take, length-take, take-take}
use Rattle.lxr_heap.specs.Bulk.{words_from}
use Rattle.lxr_c_words.specs.Words.{words_in_body}

-- the first words of some are words of all
take_of_take : (count i n : ℕ) (words : List ℕ) → i + n ≤ length (take count words) → take n (drop i (take count words)) ≡ take n (drop i words)
take_of_take count i n words within =
    let long = length-take count words in
    let rest : count ≡ i + (count - i) = omega (arith, within, long) in
    ap (λ k. take n (drop i (take k words))) rest ∙ ap (take n) (drop-take i (count - i) words) ∙ take-take n (count - i) (drop i words) (omega (arith, within, long))

-- an object has no more words than its body has behind the first
pub fewer_in_body : (count : ℕ) (words : List ℕ) → length (words_in_body (count ∷ words)) ≤ length words
fewer_in_body count words = let long : length (words_in_body (count ∷ words)) ≡ length (take count words) = refl in let most = length-take count words in omega (arith, long, most)

-- words that are there
pub words_there : (words : List ℕ) (i n : ℕ) → i + n ≤ length words → words_from (Some words) i n ≡ Some (take n (drop i words))
words_there words i n within = ap (λ b. if b then Some (take n (drop i words)) else None) (le-leb (i + n) (length words) within)

-- words of the object stand one further on in its body
pub row_in_body : (body : List ℕ) (i n : ℕ) → 1 ≤ length body → i + n ≤ length (words_in_body body) → words_from (Some body) (i + 1) n ≡ words_from (Some (words_in_body body)) i n
row_in_body [] i n some within = absurd (omega (arith, some))
row_in_body (count ∷ words) i n some within =
    let fewer = fewer_in_body count words in
    let next : i + 1 ≡ suc i = omega arith in
    words_there (count ∷ words) (i + 1) n (omega (arith, within, fewer))
    ∙ ap (λ k. Some (take n (drop k (count ∷ words)))) next
    ∙ ap Some (sym (take_of_take count i n words within))
    ∙ sym (words_there (take count words) i n within)
