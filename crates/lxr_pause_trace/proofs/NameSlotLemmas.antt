-- How many references are still to be marked is counted by names as by places.
use Rattle.std.proofs.Common.{◌≡◌, ℕ, refl, sym, ap, subst, ◌∙◌, inl, inr, arith, Bool, true, false, cond, List, [], ◌∷◌, IsTrue, length}
use Rattle.std.specs.Prelude.{◌&&◌, filter, map, not}
use Rattle.std.specs.List.{Contains}
use Rattle.std.proofs.lemmas.List.Sums.{sum_by-cons}
use Rattle.lxr_layout.specs.declared.Name.{Name}
use Rattle.lxr_graph.specs.Names.{has}
use Rattle.lxr_graph.specs.State.{object_at, refs_of}
use Rattle.lxr_image.specs.declared.space.Space.{Space}
use Rattle.lxr_image.specs.Spaces.{tables_of}
use Rattle.lxr_image.specs.Tables.{Tables}
use Rattle.lxr_image.specs.Reads.{granule_of}
use Rattle.lxr_model.specs.Moments.{Moment}
use Rattle.lxr_model.specs.References.{reference_slots}
use Rattle.lxr_model_counting.proofs.DistinctLemmas.{has_split}
use Rattle.lxr_pause_trace.specs.Marking.{HasAllLeft, slots_at, slots_in, unmarked_slots}
use Rattle.lxr_pause_trace.specs.Tracing.{CanTrace, HasAllToBeMarked}
use Rattle.lxr_pause_trace.proofs.NamedLemmas.{left_named, read_off, to_be_kept}
use Rattle.lxr_pause_trace.proofs.SlotLemmas.{is_first, is_later}

-- the places of those of these names that are unreclaimed
abbrev pub places_of : Moment → (Name → ℕ) → List Name → List ℕ
places_of m at names = map at (filter (has m.unreclaimed) names)

among : (m : Moment) (at : Name → ℕ) (names : List Name) (n : Name) → IsTrue (has names n) → IsTrue (has m.unreclaimed n) → Contains (places_of m at names) (at n)
among m at [] n h member = absurd (cc)
among m at (x ∷ xs) n h member = elim (has_split x xs n h) [
  | inl same ↦ subst (λ b. Contains (map at (cond b (x ∷ filter (has m.unreclaimed) xs) (filter (has m.unreclaimed) xs))) (at n)) (sym (ap (has m.unreclaimed) (sym same) ∙ member))
      (subst (λ z. Contains (at x ∷ places_of m at xs) (at z)) (sym same) (is_first (at x) (places_of m at xs)))
  | inr later ↦ by (has m.unreclaimed x) (among m at xs n later member)
]
  where
    by : (b : Bool) → Contains (places_of m at xs) (at n) → Contains (map at (cond b (x ∷ filter (has m.unreclaimed) xs) (filter (has m.unreclaimed) xs))) (at n)
    by true there = is_later (at x) (places_of m at xs) (at n) there
    by false there = there

module _ (s : Space) (m : Moment) (at : Name → ℕ) (can : CanTrace s m at) where
  abbrev t : Tables
  t = tables_of s

  pub all_placed : (names : List Name) → HasAllToBeMarked t m at names → HasAllLeft t (places_of m at names)
  all_placed names all p left =
      let x = left_named s m at can p left in
      subst (Contains (places_of m at names)) x.2 (among m at names x.0 (all x.0 x.1) (to_be_kept s m at can x.0 x.1))

  as_many : (n : Name) → IsTrue (has m.unreclaimed n) → slots_at t (at n) ≡ length (refs_of (object_at m.last.graph n))
  as_many n h =
      let o = read_off s m at can n h in
      ap slots_in o.2.header ∙ ap (λ x. length (refs_of x)) (sym o.1) ∙ ap (λ x. length (refs_of (object_at x.graph n))) (sym can.settled.same)

  -- one name more
  one_more : (f : ℕ → Bool) (n : Name) (xs ys : List Name) (b c : Bool) → (b ≡ true → slots_at t (at n) ≡ length (refs_of (object_at m.last.graph n))) → f (granule_of (at n)) ≡ c
      → unmarked_slots t f (map at xs) ≡ reference_slots m.last.graph ys
      → unmarked_slots t f (map at (cond b (n ∷ xs) xs)) ≡ reference_slots m.last.graph (cond (b && not c) (n ∷ ys) ys)
  one_more f n xs ys true true many marked rest =
      let none : cond (f (granule_of (at n))) 0 (slots_at t (at n)) ≡ 0 = ap (λ x. cond x 0 (slots_at t (at n))) marked in
      omega (arith, none, rest)
  one_more f n xs ys true false many unmarked rest =
      let own : cond (f (granule_of (at n))) 0 (slots_at t (at n)) ≡ slots_at t (at n) = ap (λ x. cond x 0 (slots_at t (at n))) unmarked in
      let same = many refl in
      let more = sum_by-cons (λ u. length (refs_of (object_at m.last.graph u))) n ys in
      omega (arith, own, same, more, rest)
  one_more f n xs ys false c many marked rest = rest

  pub slots_by_names : (f : ℕ → Bool) (names : List Name)
      → unmarked_slots t f (places_of m at names) ≡ reference_slots m.last.graph (filter (λ n. has m.unreclaimed n && not (f (granule_of (at n)))) names)
  slots_by_names f [] = refl
  slots_by_names f (n ∷ ns) =
      one_more f n (filter (has m.unreclaimed) ns) (filter (λ x. has m.unreclaimed x && not (f (granule_of (at x)))) ns) (has m.unreclaimed n) (f (granule_of (at n))) (as_many n) refl (slots_by_names f ns)
