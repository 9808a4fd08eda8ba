-- Data words that are read one after another.
use Rattle.std.proofs.Common.{◌≡◌, ℕ, ◌+◌, ◌<◌, ◌≤◌, ◌∙◌, refl, sym, ap, subst, arith, inl, inr, Option, Some, None, List, [], ◌∷◌, ◌++◌, length, get_or, set, take, drop}
use Rattle.std.specs.Prelude.{if◌then◌else◌, nat_le, option_map, unwrap_or}
use Rattle.std.proofs.lemmas.Bool.{cases_Bool, le-leb}
use Rattle.std.proofs.lemmas.List.{append-nil, append_assoc, drop_all, drop_more, get_or-drop, length-drop, length-take-le, set_at, take_more}
use Rattle.lxr_graph.specs.State.{object_at, values_of}
use Rattle.lxr_large_model.specs.State.{LargeState}
use Rattle.lxr_heap.specs.declared.bulk.BodyReply.{BodyReply}
use Rattle.lxr_heap.specs.declared.bulk.BodyReply.TheVariants as body_reply
use Rattle.lxr_heap.specs.Bulk.{words_from}
use Rattle.lxr_c_many.specs.Fields.{comes_to, word_at, words_in}
use Rattle.lxr_c_many.specs.Steps.{HasWords}

-- ---- reading

-- the words that are read, of an object that has them
pub words_are : (s : LargeState) (base first count : ℕ) (old : List ℕ) → HasWords s base (first + count) → unwrap_or (words_from (words_in s base) first count) old ≡ take count (drop first (unwrap_or (words_in s base) []))
words_are s base first count old has =
    ap (λ v. unwrap_or (words_from (option_map (λ n. values_of (object_at s.small.graph n)) v) first count) old) has.held
    ∙ ap (λ b. unwrap_or (if b then Some (take count (drop first (values_of (object_at s.small.graph has.name)))) else None) old) (le-leb (first + count) (length (values_of (object_at s.small.graph has.name))) has.within)
    ∙ sym (ap (λ v. take count (drop first (unwrap_or (option_map (λ n. values_of (object_at s.small.graph n)) v) []))) has.held)

-- so many were read: they stand in front of what was there
abbrev pub Read : LargeState → ℕ → ℕ → List ℕ → ℕ → List ℕ → Type 0
Read s base first old i words = words ≡ take i (drop first (unwrap_or (words_in s base) [])) ++ drop i old

pub read_none : (s : LargeState) (base first : ℕ) (old : List ℕ) → Read s base first old 0 old
read_none s base first old = refl

-- the next one is read in its place
pub read_more : (s : LargeState) (base first : ℕ) (old : List ℕ) (i index w : ℕ) (words : List ℕ) → HasWords s base (first + length old) → Read s base first old i words → i < length old → index ≡ first + i → w ≡ word_at s base index
    → Read s base first old (i + 1) (set words i w)
read_more s base first old i index w words has read within is word =
    let all : List ℕ = unwrap_or (words_in s base) [] in
    let long : first + length old ≤ length all = subst (λ v. first + length old ≤ length (unwrap_or (option_map (λ n. values_of (object_at s.small.graph n)) v) [])) (sym has.held) has.within in
    let dropped = length-drop first all in
    let few : i ≤ length (drop first all) = omega (arith, dropped, long, within) in
    let inside : i < length (drop first all) = omega (arith, dropped, long, within) in
    let front : length (take i (drop first all)) ≡ i = length-take-le i (drop first all) few in
    let w_is : w ≡ get_or (drop first all) i 0 = word ∙ ap (λ k. get_or all k 0) is ∙ sym (get_or-drop first all i 0) in
    ap (λ ws. set ws i w) read
    ∙ ap (λ rest. set (take i (drop first all) ++ rest) i w) (drop_more old i 0 within)
    ∙ set_at (take i (drop first all)) (get_or old i 0) (drop (i + 1) old) w i front
    ∙ ap (λ v. take i (drop first all) ++ v ∷ drop (i + 1) old) w_is
    ∙ sym (append_assoc (take i (drop first all)) (get_or (drop first all) i 0 ∷ []) (drop (i + 1) old))
    ∙ ap (λ ws. ws ++ drop (i + 1) old) (sym (take_more (drop first all) i 0 inside))

-- once all were, they are the words of the object
pub read_all : (s : LargeState) (base first i : ℕ) (old words : List ℕ) → HasWords s base (first + length old) → Read s base first old i words → i ≡ length old → words ≡ unwrap_or (words_from (words_in s base) first (length old)) old
read_all s base first i old words has read all =
    read ∙ ap (λ rest. take i (drop first (unwrap_or (words_in s base) [])) ++ rest) (drop_all i old (omega (arith, all))) ∙ append-nil (take i (drop first (unwrap_or (words_in s base) [])))
    ∙ ap (λ k. take k (drop first (unwrap_or (words_in s base) []))) all
    ∙ sym (words_are s base first (length old) old has)

-- where not all are there, what was there stays
pub none_read : (s : LargeState) (base first : ℕ) (old : List ℕ) (r : BodyReply) → r ≡ comes_to (words_in s base) first (length old) → (r ≡ body_reply.Done → ⊥) → old ≡ unwrap_or (words_from (words_in s base) first (length old)) old
none_read s base first old r found not = by (words_in s base) (λ done. not (found ∙ done))
  where
    by : (all : Option (List ℕ)) → (comes_to all first (length old) ≡ body_reply.Done → ⊥) → old ≡ unwrap_or (words_from all first (length old)) old
    by None other = refl
    by (Some words) other = elim (cases_Bool (nat_le (first + length old) (length words))) [
      | inl fits ↦ absurd (other (ap (λ b. if b then body_reply.Done else body_reply.Range) fits))
      | inr over ↦ sym (ap (λ b. unwrap_or (if b then Some (take (length old) (drop first words)) else None) old) over)
    ]
