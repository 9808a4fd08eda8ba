-- A heap word is that of one member's reference alone.
use Rattle.std.proofs.Common.{◌≡◌, ℕ, ◌+◌, ◌-◌, ◌*◌, ◌<◌, ◌≤◌, refl, subst, inl, inr, ◌⊎◌, arith, true, false, List, length}
use Rattle.std.specs.Prelude.{IsTrue}
use Rattle.lxr_invariant.specs.Standing.{word_of_field}
use Rattle.lxr_layout.specs.declared.Name.{Name}
use Rattle.lxr_graph.specs.Names.{has, same_name}
use Rattle.lxr_graph.specs.State.{Graph, Object, object_at, refs_of}
use Rattle.lxr_graph.proofs.NameSets.{same_names}
use Rattle.lxr_image.specs.Tables.{Tables}
use Rattle.lxr_image.specs.Image.{IsImage}
use Rattle.lxr_image.proofs.ImageLemmas.{words_cover, words_even}

module _ (t : Tables) (blocks : ℕ) (at : Name → ℕ) (g : Graph) (ms : List Name) (image : IsImage t blocks at g ms) where
  -- words within two ranges of words, one behind the other, differ
  near_words : (p q a b i j wa wb : ℕ) → 1 ≤ p → 1 ≤ q → wa ≡ 2 * a → wb ≡ 2 * b → 1 + i < wa → 1 + j < wb → 2 * (p - 1) + 1 + i ≡ 2 * (q - 1) + 1 + j
      → (p - 1 + a ≤ q - 1) ⊎ (q - 1 + b ≤ p - 1) → ⊥
  near_words p q a b i j wa wb hp hq ea eb ia jb e (inl h) = omega arith
  near_words p q a b i j wa wb hp hq ea eb ia jb e (inr h) = omega arith

  -- a reference's word is one of its object
  within_words : (i r v w : ℕ) → i < r → 1 + r + v ≤ w → 1 + i < w
  within_words i r v w h k = omega arith

  -- two objects' references have two words
  fields_apart : (n m : Name) (i j : ℕ) → IsTrue (has ms n) → IsTrue (has ms m) → i < length (refs_of (object_at g n)) → j < length (refs_of (object_at g m))
      → word_of_field at n i ≡ word_of_field at m j → same_name n m ≡ false → ⊥
  fields_apart n m i j hn hm within_n within_m e differ =
      let x = image.stands n hn in let a : Object = x.0 in
      let y = image.stands m hm in let b : Object = y.0 in
      let in_a : i < length a.refs = subst (λ z. i < length (refs_of z)) x.1 within_n in
      let in_b : j < length b.refs = subst (λ z. j < length (refs_of z)) y.1 within_m in
      near_words (at n) (at m) _ _ i j _ _ x.2.placed y.2.placed (words_even a) (words_even b)
      (within_words i (length a.refs) (length a.values) _ in_a (words_cover a)) (within_words j (length b.refs) (length b.values) _ in_b (words_cover b)) e
      (image.apart n m a b hn hm differ x.1 y.1)

  -- one object has one reference at a word
  same_index : (p i j : ℕ) → 2 * (p - 1) + 1 + i ≡ 2 * (p - 1) + 1 + j → i ≡ j
  same_index p i j e = omega arith

  -- two members' references with one word are one
  pub field_found : (n m : Name) (i j : ℕ) → IsTrue (has ms n) → IsTrue (has ms m) → i < length (refs_of (object_at g n)) → j < length (refs_of (object_at g m))
      → word_of_field at n i ≡ word_of_field at m j → (n ≡ m) × (i ≡ j)
  field_found n m i j hn hm within_n within_m e = elim (same_name n m) as (λ c. same_name n m ≡ c → (n ≡ m) × (i ≡ j)) [
    | true ↦ λ k.
        let same : n ≡ m = same_names n m k in
        (same, same_index (at m) i j (subst (λ z. word_of_field at z i ≡ word_of_field at m j) same e))
    | false ↦ λ k. absurd (fields_apart n m i j hn hm within_n within_m e k)
  ] refl
