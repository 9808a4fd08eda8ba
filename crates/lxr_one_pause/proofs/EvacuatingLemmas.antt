-- Granules and words of objects whose places change, and lines that become free where objects are moved away.
use Rattle.std.proofs.Common.{◌≡◌, ◌≢◌, ℕ, ◌+◌, ◌*◌, ◌/◌, ◌-◌, ◌<◌, ◌≤◌, refl, sym, ap, subst, ◌∙◌, inl, inr, arith, Bool, false, List, [], IsTrue, length}
use Rattle.std.specs.Prelude.{Option, Some, None, slice_get}
use Rattle.std.proofs.lemmas.Option.{slice_get_within}
use Rattle.lxr_layout.specs.declared.Name.{Name}
use Rattle.lxr_layout.specs.declared.TheConstants.{GRANULES_IN_BLOCK, LINES_IN_BLOCK, STUCK}
use Rattle.lxr_layout.specs.Objects.{word_count}
use Rattle.lxr_layout.specs.Places.{first_word}
use Rattle.lxr_graph.specs.Names.{has, same_name}
use Rattle.lxr_graph.specs.State.{Graph, Object, object_at, refs_of, shape_of}
use Rattle.lxr_graph.proofs.NameSets.{same_names}
use Rattle.lxr_image.specs.Tables.{Tables}
use Rattle.lxr_image.specs.Reads.{granule_of}
use Rattle.lxr_image.specs.Image.{IsImage, granules_of}
use Rattle.lxr_blocks.specs.Lines.{is_free}
use Rattle.lxr_blocks.proofs.KeptLemmas.{free_line_is_told}
use Rattle.lxr_model_counting.proofs.DistinctLemmas.{tested}
use Rattle.lxr_invariant.specs.Copied.{HasCopy, HasWord}
use Rattle.lxr_invariant.specs.Counting.{count_at}
use Rattle.lxr_invariant.specs.Lines.{Covers, HasMarks, IsMarkOf}
use Rattle.lxr_invariant.specs.Standing.{word_of_field}
use Rattle.lxr_invariant.proofs.PlaceLemmas.{same_object}

-- ---- granules and words of an object at another place

pub covers_at : (g : Graph) (at to : Name → ℕ) (n : Name) (o : Object) (k : ℕ) → at n ≡ to n → Covers g at n o k → Covers g to n o k
covers_at g at to n o k same is = record {
  object = is.object;
  first = subst (λ p. granule_of p ≤ k) same is.first;
  behind = subst (λ p. k < granule_of p + granules_of o) same is.behind;
}

pub word_at : (g : Graph) (at to : Name → ℕ) (n : Name) (w : ℕ) → at n ≡ to n → HasWord g at n w → HasWord g to n w
word_at g at to n w same is = record {
  object = is.object;
  is = is.is;
  first = subst (λ p. first_word p ≤ w) same is.first;
  behind = subst (λ p. w < first_word p + word_count (shape_of is.object)) same is.behind;
}

-- a line has a copy of one of these, from whatever places that are the same for them
pub copy_from : (g : Graph) (at bt to : Name → ℕ) (ns : List Name) (line : ℕ) → ((n : Name) → IsTrue (has ns n) → at n ≡ bt n) → HasCopy g at to ns line → HasCopy g bt to ns line
copy_from g at bt to ns line same c = record {
  name = c.name;
  promoted_is = c.promoted_is;
  moved = λ e. c.moved (e ∙ sym (same c.name c.promoted_is));
  object = c.object;
  granule = c.granule;
  covers = c.covers;
  line_is = c.line_is;
}

pub copy_to : (g : Graph) (at to bt : Name → ℕ) (ns : List Name) (line : ℕ) → ((n : Name) → IsTrue (has ns n) → to n ≡ bt n) → HasCopy g at to ns line → HasCopy g at bt ns line
copy_to g at to bt ns line same c = record {
  name = c.name;
  promoted_is = c.promoted_is;
  moved = λ e. c.moved (same c.name c.promoted_is ∙ e);
  object = c.object;
  granule = c.granule;
  covers = covers_at g to bt c.name c.object c.granule (same c.name c.promoted_is) c.covers;
  line_is = c.line_is;
}

-- an object has a granule at least, and its first word
pub first_granule_of : (g : Graph) (at : Name → ℕ) (n : Name) (o : Object) → object_at g n ≡ Some o → Covers g at n o (granule_of (at n))
first_granule_of g at n o is = record { object = is; first = omega arith; behind = omega arith }

pub first_word_of : (g : Graph) (at : Name → ℕ) (n : Name) (o : Object) → object_at g n ≡ Some o → HasWord g at n (first_word (at n))
first_word_of g at n o is = record { object = o; is = is; first = omega arith; behind = omega arith }

-- the words of its references are its words
pub field_word_of : (g : Graph) (at : Name → ℕ) (n held : Name) (i : ℕ) → slice_get (refs_of (object_at g n)) i ≡ Some (Some held) → HasWord g at n (word_of_field at n i)
field_word_of g at n held i is = by_object (object_at g n) refl
  where
    nothing : (i : ℕ) → slice_get [] i ≡ Some (Some held) → ⊥
    nothing i e = cc

    by_object : (o : Option Object) → object_at g n ≡ o → HasWord g at n (word_of_field at n i)
    by_object None e = let never : slice_get (refs_of None) i ≡ Some (Some held) = subst (λ x. slice_get (refs_of x) i ≡ Some (Some held)) e is in absurd (nothing i never)
    by_object (Some o) e =
        let there : slice_get o.refs i ≡ Some (Some held) = subst (λ x. slice_get (refs_of x) i ≡ Some (Some held)) e is in
        let within : i < length o.refs = slice_get_within o.refs i (Some held) there in
        record { object = o; is = e; first = omega arith; behind = omega (arith, within) }

-- the granule of an even word of an object is one of its granules
pub granule_of_word : (g : Graph) (at : Name → ℕ) (n : Name) (p : ℕ) (is : HasWord g at n (first_word p)) → Covers g at n is.object (granule_of p)
granule_of_word g at n p is =
    let first = is.first in
    let behind = is.behind in
    record { object = is.is; first = omega (arith, first); behind = omega (arith, behind) }

-- ---- two objects share no granule

pub one_of_two : (t : Tables) (blocks : ℕ) (at : Name → ℕ) (g : Graph) (ms : List Name) → IsImage t blocks at g ms → (n o : Name) (a b : Object) (k : ℕ) → IsTrue (has ms n) → IsTrue (has ms o)
    → Covers g at n a k → Covers g at o b k → n ≡ o
one_of_two t blocks at g ms image n o a b k in_n in_o covers others = elim (tested (same_name n o)) [
  | inl same ↦ same_names n o same
  | inr differ ↦
      let n0 = covers.first in
      let n1 = covers.behind in
      let o0 = others.first in
      let o1 = others.behind in
      absurd (elim (image.apart n o a b in_n in_o differ covers.object others.object) [ inl below ↦ omega (arith, n0, n1, o0, o1, below) | inr above ↦ omega (arith, n0, n1, o0, o1, above) ])
]

-- ---- lines that become free

-- a granule of an object lies in the block of its first one
pub same_block : (t : Tables) (blocks : ℕ) (at : Name → ℕ) (g : Graph) (ms : List Name) → IsImage t blocks at g ms → (n : Name) (o : Object) (k : ℕ) → IsTrue (has ms n) → Covers g at n o k
    → k / GRANULES_IN_BLOCK ≡ granule_of (at n) / GRANULES_IN_BLOCK
same_block t blocks at g ms image n o k member covers =
    let there = image.stands n member in
    let same : there.0 ≡ o = same_object g n there.0 o there.1 covers.object in
    let whole : granule_of (at n) / GRANULES_IN_BLOCK ≡ (granule_of (at n) + granules_of o - 1) / GRANULES_IN_BLOCK =
    subst (λ z. granule_of (at n) / GRANULES_IN_BLOCK ≡ (granule_of (at n) + granules_of z - 1) / GRANULES_IN_BLOCK) same there.2.whole.in_block in
    let first = covers.first in
    let behind = covers.behind in
    omega (arith, whole, first, behind)

module _ (t u : Tables) (blocks : ℕ) (g : Graph) (at to : Name → ℕ) (us moved : List Name) (image : IsImage t blocks at g us) (was : HasMarks t g at us) (now : HasMarks u g to us)
    (positive : (n : Name) → IsTrue (has us n) → count_at u to n ≢ 0) (others : (n : Name) → has moved n ≡ false → to n ≡ at n) (IsLeft : ℕ → Type 0)
    (left : (n : Name) → IsTrue (has us n) → IsTrue (has moved n) → IsLeft (granule_of (at n) / GRANULES_IN_BLOCK)) where
  -- a count that isn't 0 stays so, but in the blocks that objects leave
  uncounted_off : (k : ℕ) → ¬ IsLeft (k / GRANULES_IN_BLOCK) → u.counts k ≡ 0 → t.counts k ≡ 0
  uncounted_off k off none =
      was.elsewhere k
      (λ n member here. elim (tested (has moved n)) [
        | inl m ↦ off (subst (λ j. IsLeft (j / GRANULES_IN_BLOCK)) here (left n member m))
        | inr stays ↦ positive n member (ap (λ p. u.counts (granule_of p)) (others n stays) ∙ ap u.counts here ∙ none)
      ])
      (λ n o member object mark. elim (tested (has moved n)) [
        | inl m ↦
            let behind = mark.behind in
            let covers : Covers g at n o k = record { object = object; first = omega (arith, behind); behind = mark.within } in
            off (subst IsLeft (sym (same_block t blocks at g us image n o k member covers)) (left n member m))
        | inr stays ↦
            let same = sym (others n stays) in
            let then : IsMarkOf to n o k = record { begins = mark.begins; behind = subst (λ p. granule_of p < k) same mark.behind; within = subst (λ p. k < granule_of p + granules_of o) same mark.within } in
            let never : STUCK ≡ 0 = sym (now.marked n o k member object then) ∙ none in
            absurd (cc)
      ])

  -- so a line that is free then was free, but in those blocks
  pub free_off : (outs : ℕ → Bool) (line : ℕ) → ¬ IsLeft (line / LINES_IN_BLOCK) → IsTrue (is_free (record u { outs = outs }) line) → IsTrue (is_free (record t { outs = outs }) line)
  free_off outs line off free =
      let is = (free_line_is_told (record u { outs = outs }) line).0 free in
      (free_line_is_told (record t { outs = outs }) line).1 (record {
        in_hand = is.in_hand;
        uncounted = λ k within.
            let here : line / LINES_IN_BLOCK ≡ (16 * line + k) / GRANULES_IN_BLOCK = omega (arith, within) in
            uncounted_off (16 * line + k) (subst (λ b. ¬ IsLeft b) here off) (is.uncounted k within);
      })
