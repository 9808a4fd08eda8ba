-- A line that isn't free is overlapped by an object: it is out, or one of its granules has a count. That granule lies in
-- an unreclaimed object, for it would have count 0 otherwise. Which object it is, is found by a search of their names.
use Rattle.std.proofs.Common.{◌≡◌, ◌≢◌, ℕ, zero, suc, ◌+◌, ◌*◌, ◌/◌, ◌<◌, ◌≤◌, sym, ap, subst, ◌∙◌, inl, inr, ◌⊎◌, arith, Bool, true, false, List, [], ◌∷◌}
use Rattle.std.specs.Prelude.{◌&&◌, nat_le, nat_lt, Some, IsTrue}
use Rattle.std.specs.Option.{option_map_or}
use Rattle.std.proofs.lemmas.Bool.{cases_Bool}
use Rattle.std.proofs.lemmas.Bool.Decides.{eqb_tells, nat_tests}
use Rattle.lxr_layout.specs.declared.TheConstants.{GRANULES_IN_LINE}
use Rattle.lxr_layout.specs.declared.Name.{Name}
use Rattle.lxr_graph.specs.State.{Graph, Object, object_at}
use Rattle.lxr_graph.specs.Names.{has}
use Rattle.lxr_image.specs.Tables.{Tables}
use Rattle.lxr_image.specs.Reads.{granule_of}
use Rattle.lxr_image.specs.Image.{IsImage, granules_of}
use Rattle.lxr_blocks.specs.Lines.{is_free}
use Rattle.lxr_blocks.proofs.KeptLemmas.{free_line_is_told}
use Rattle.lxr_model_counting.proofs.DistinctLemmas.{first_has, has_split, later_has}
use Rattle.lxr_invariant.specs.Lines.{Covers, HasMarks, IsMarkOf, IsTakenBy, OutsAreTaken}

-- ---- searches

-- a fact that can be told holds of all the first numbers, or fails for one of them
pub all_or_one : (P : ℕ → Type 0) (n : ℕ) → ((i : ℕ) → P i ⊎ ¬ P i) → ((i : ℕ) → i < n → P i) ⊎ ((i : ℕ) × (i < n) × ¬ P i)
all_or_one P zero told = inl (λ i h. absurd (omega (arith, h)))
all_or_one P (suc n) told = elim (told n) [
  | inr fails ↦ inr (n, omega arith, fails)
  | inl holds ↦ elim (all_or_one P n told) [
    | inr x ↦ inr (x.0, omega (arith, x.1), x.2)
    | inl all ↦ inl (λ i h. elim (eqb_tells i n) [
      | inl e ↦ subst P (sym e.1) holds
      | inr e ↦ let differ = e.1 in all i (omega (arith, h))
    ])
  ]
]

-- a name of a list passes a test, or none does
one_or_none : (p : Name → Bool) (ns : List Name) → ((n : Name) × IsTrue (has ns n) × (p n ≡ true)) ⊎ ((n : Name) → IsTrue (has ns n) → p n ≡ false)
one_or_none p [] = inr (λ n h. absurd (cc))
one_or_none p (m ∷ ns) = elim (cases_Bool (p m)) [
  | inl passes ↦ inl (m, first_has m ns, passes)
  | inr fails ↦ elim (one_or_none p ns) [
    | inl x ↦ inl (x.0, later_has m ns x.0 x.1, x.2)
    | inr none ↦ inr (λ n h. elim (has_split m ns n h) [ inl e ↦ ap p e ∙ fails | inr k ↦ none n k ])
  ]
]

-- ---- granules of objects

-- so many granules from one on have a granule
abbrev reaches : ℕ → ℕ → ℕ → Bool
reaches first granules k = nat_le first k && nat_lt k (first + granules)

-- the object of a name has a granule
abbrev covers : Graph → (Name → ℕ) → ℕ → Name → Bool
covers g at k n = option_map_or (λ o. reaches (granule_of (at n)) (granules_of o) k) (object_at g n) false

covers_is : (g : Graph) (at : Name → ℕ) (k : ℕ) (n : Name) (o : Object) → object_at g n ≡ Some o → covers g at k n ≡ reaches (granule_of (at n)) (granules_of o) k
covers_is g at k n o is = ap (λ z. option_map_or (λ o. reaches (granule_of (at n)) (granules_of o) k) z false) is

reaches_low : (first granules k : ℕ) → reaches first granules k ≡ true → first ≤ k
reaches_low first granules k is = grind (arith, nat_tests)

reaches_high : (first granules k : ℕ) → reaches first granules k ≡ true → k < first + granules
reaches_high first granules k is = grind (arith, nat_tests)

does_reach : (first granules k : ℕ) → first ≤ k → k < first + granules → reaches first granules k ≡ true
does_reach first granules k low high = grind (arith, nat_tests)

covered : (g : Graph) (at : Name → ℕ) (k : ℕ) (n : Name) (o : Object) → object_at g n ≡ Some o → covers g at k n ≡ true → Covers g at n o k
covered g at k n o is told =
    let there = sym (covers_is g at k n o is) ∙ told in
    record {
      object = is;
      first = reaches_low (granule_of (at n)) (granules_of o) k there;
      behind = reaches_high (granule_of (at n)) (granules_of o) k there;
    }

not_covered : (g : Graph) (at : Name → ℕ) (k : ℕ) (n : Name) (o : Object) → object_at g n ≡ Some o → covers g at k n ≡ false → granule_of (at n) ≤ k → k < granule_of (at n) + granules_of o → ⊥
not_covered g at k n o is told low high =
    let there = does_reach (granule_of (at n)) (granules_of o) k low high in
    let is_false = sym (covers_is g at k n o is) ∙ told in cc

some_granules : (o : Object) → 1 ≤ granules_of o
some_granules o = omega arith

-- ---- lines

-- a line that isn't free is out, or one of its granules has a count
out_or_counted : (t : Tables) (line : ℕ) → is_free t line ≡ false → IsTrue (t.outs line) ⊎ ((k : ℕ) × (k / GRANULES_IN_LINE ≡ line) × (t.counts k ≢ 0))
out_or_counted t line taken = elim (cases_Bool (t.outs line)) [
  | inl out ↦ inl out
  | inr in_hand ↦ elim (all_or_one (λ k. t.counts (GRANULES_IN_LINE * line + k) ≡ 0) 16 (λ k. elim (eqb_tells (t.counts (GRANULES_IN_LINE * line + k)) 0) [ inl e ↦ inl e.1 | inr e ↦ inr e.1 ])) [
    | inl none ↦ let free = (free_line_is_told t line).1 (record { in_hand = in_hand; uncounted = none }) in absurd (cc)
    | inr x ↦ inr (GRANULES_IN_LINE * line + x.0, omega (arith, x.1), x.2)
  ]
]

-- a granule that none of the unreclaimed objects has is not counted
uncovered_is_uncounted : (t : Tables) (blocks : ℕ) (g : Graph) (at : Name → ℕ) (us ms : List Name) → IsImage t blocks at g ms → ((n : Name) → IsTrue (has us n) → IsTrue (has ms n))
    → HasMarks t g at us → (k : ℕ) → ((n : Name) → IsTrue (has us n) → covers g at k n ≡ false) → t.counts k ≡ 0
uncovered_is_uncounted t blocks g at us ms image among marks k none = marks.elsewhere k begins_none marks_none
  where
    begins_none : (n : Name) → IsTrue (has us n) → granule_of (at n) ≢ k
    begins_none n h begins =
        let a = image.stands n (among n h) in
        let some = some_granules a.0 in
        not_covered g at k n a.0 a.1 (none n h) (omega (arith, begins)) (omega (arith, begins, some))

    marks_none : (n : Name) (o : Object) → IsTrue (has us n) → object_at g n ≡ Some o → IsMarkOf at n o k → ⊥
    marks_none n o h there mark = let behind = mark.behind in not_covered g at k n o there (none n h) (omega (arith, behind)) mark.within

-- a line that isn't free is overlapped by an object
pub line_taken : (t : Tables) (blocks : ℕ) (g : Graph) (at : Name → ℕ) (us ms : List Name) → IsImage t blocks at g ms → ((n : Name) → IsTrue (has us n) → IsTrue (has ms n))
    → HasMarks t g at us → OutsAreTaken t g at ms → (line : ℕ) → is_free t line ≡ false → IsTakenBy g at ms line
line_taken t blocks g at us ms image among marks outs line taken = elim (out_or_counted t line taken) [
  | inl out ↦ outs.taken line out
  | inr counted ↦ elim (one_or_none (covers g at counted.0) us) [
    | inl x ↦
        let a = image.stands x.0 (among x.0 x.1) in
        (x.0, a.0, counted.0, among x.0 x.1, covered g at counted.0 x.0 a.0 a.1 x.2, counted.1)
    | inr none ↦ absurd (counted.2 (uncovered_is_uncounted t blocks g at us ms image among marks counted.0 none))
  ]
]
