-- How many references the objects of names that pass a test have; and how many are still to be scanned by a trace: fewer once marks are set, or
-- objects reclaimed.
use Rattle.std.proofs.Common.{◌≡◌, ℕ, ◌+◌, ◌≤◌, refl, sym, ap, subst, ◌∙◌, inl, inr, arith, Bool, true, false, cond, List, [], ◌∷◌, length}
use Rattle.std.specs.Prelude.{◌&&◌, not, IsTrue, filter}
use Rattle.std.proofs.lemmas.Bool.{and_from, and_parts, not-true}
use Rattle.std.proofs.lemmas.List.Sums.{sum_by-cons}
use Rattle.lxr_layout.specs.declared.Name.{Name}
use Rattle.lxr_graph.specs.Names.{has}
use Rattle.lxr_graph.specs.State.{Graph, object_at, refs_of}
use Rattle.lxr_image.specs.Tables.{Tables}
use Rattle.lxr_image.specs.Reads.{granule_of}
use Rattle.lxr_model.specs.Moments.{Moment}
use Rattle.lxr_model.specs.References.{reference_slots}
use Rattle.lxr_model_counting.proofs.DistinctLemmas.{has_split}
use Rattle.lxr_invariant.specs.Tracing.{is_unscanned, unscanned_slots}

-- ---- names that pass a test

-- how many references a name's object has
abbrev pub slots : Graph → Name → ℕ
slots g n = length (refs_of (object_at g n))

-- the first name's references count where it passes
slots_split : (g : Graph) (p : Name → Bool) (n : Name) (ns : List Name) → reference_slots g (filter p (n ∷ ns)) ≡ cond (p n) (slots g n) 0 + reference_slots g (filter p ns)
slots_split g p n ns = elim (p n) as (λ c. reference_slots g (cond c (n ∷ filter p ns) (filter p ns)) ≡ cond c (slots g n) 0 + reference_slots g (filter p ns)) [
  | true ↦ sum_by-cons (slots g) n (filter p ns)
  | false ↦ omega arith
]

-- what passes a stronger test counts for no more
counts_less : (a b : Bool) (j k : ℕ) → (a ≡ true → (b ≡ true) × (j ≡ k)) → cond a j 0 ≤ cond b k 0
counts_less true b j k h = let e = h refl in subst (λ c. j ≤ cond c k 0) (sym e.0) (let same = e.1 in omega (arith, same))
counts_less false b j k h = omega arith

-- Fewer names have no more references, in two graphs in which their objects have as many.
pub fewer_slots : (g h : Graph) (p q : Name → Bool) (ns : List Name) → ((n : Name) → q n ≡ true → (p n ≡ true) × (slots h n ≡ slots g n)) → reference_slots h (filter q ns) ≤ reference_slots g (filter p ns)
fewer_slots g h p q [] stronger = omega arith
fewer_slots g h p q (n ∷ ns) stronger =
    let a = slots_split g p n ns in
    let b = slots_split h q n ns in
    let c = counts_less (q n) (p n) (slots h n) (slots g n) (stronger n) in
    let rest = fewer_slots g h p q ns stronger in
    omega (arith, a, b, c, rest)

-- those that pass have no more than all
pub slots_within : (g : Graph) (p : Name → Bool) (ns : List Name) → reference_slots g (filter p ns) ≤ reference_slots g ns
slots_within g p [] = omega arith
slots_within g p (n ∷ ns) =
    let a = slots_split g p n ns in
    let b = sum_by-cons (slots g) n ns in
    let c = counts_less (p n) true (slots g n) (slots g n) (λ e. (refl, refl)) in
    let rest = slots_within g p ns in
    omega (arith, a, b, c, rest)

-- where a name of them no longer passes, its references are taken away
pub slots_without : (g : Graph) (p q : Name → Bool) (ns : List Name) (x : Name) → ((n : Name) → q n ≡ true → p n ≡ true) → IsTrue (has ns x) → p x ≡ true → q x ≡ false
    → reference_slots g (filter q ns) + slots g x ≤ reference_slots g (filter p ns)
slots_without g p q [] x stronger member before after = absurd (cc)
slots_without g p q (n ∷ ns) x stronger member before after =
    let a = slots_split g p n ns in
    let b = slots_split g q n ns in
    elim (has_split n ns x member) [
      | inl same ↦
          let here : cond (p n) (slots g n) 0 ≡ slots g x = ap (λ c. cond c (slots g n) 0) (ap p (sym same) ∙ before) ∙ ap (slots g) (sym same) in
          let gone : cond (q n) (slots g n) 0 ≡ 0 = ap (λ c. cond c (slots g n) 0) (ap q (sym same) ∙ after) in
          let rest = fewer_slots g g p q ns (λ m e. (stronger m e, refl)) in
          omega (arith, a, b, here, gone, rest)
      | inr later ↦
          let c = counts_less (q n) (p n) (slots g n) (slots g n) (λ e. (stronger n e, refl)) in
          let rest = slots_without g p q ns x stronger later before after in
          omega (arith, a, b, c, rest)
    ]

-- ---- what is still to be scanned

-- an object is still to be scanned only where it was, where no mark is cleared
pub still_unscanned : (t u : Tables) (m : Moment) (at : Name → ℕ) (n : Name) → (IsTrue (t.marks (granule_of (at n))) → IsTrue (u.marks (granule_of (at n)))) → is_unscanned u m at n ≡ true → is_unscanned t m at n ≡ true
still_unscanned t u m at n stays = by (has m.unreclaimed n) (t.marks (granule_of (at n))) (u.marks (granule_of (at n))) stays
  where
    by : (a p q : Bool) → (IsTrue p → IsTrue q) → (a && not q) ≡ true → (a && not p) ≡ true
    by false p q more e = e
    by true p true more e = absurd (cc)
    by true false false more e = refl
    by true true false more e = let set = more refl in absurd (cc)

-- so no more references are
pub fewer_unscanned : (t u : Tables) (m : Moment) (at : Name → ℕ) (snapshot : List Name) → ((k : ℕ) → IsTrue (t.marks k) → IsTrue (u.marks k)) → unscanned_slots u m at snapshot ≤ unscanned_slots t m at snapshot
fewer_unscanned t u m at snapshot stay =
    fewer_slots m.last.graph m.last.graph (is_unscanned t m at) (is_unscanned u m at) snapshot (λ n e. (still_unscanned t u m at n (stay (granule_of (at n))) e, refl))

-- an object of the snapshot that comes to be marked has its references taken away
pub one_scanned : (t u : Tables) (m : Moment) (at : Name → ℕ) (snapshot : List Name) (n : Name) → ((k : ℕ) → IsTrue (t.marks k) → IsTrue (u.marks k)) → IsTrue (has snapshot n) → is_unscanned t m at n ≡ true
    → is_unscanned u m at n ≡ false → unscanned_slots u m at snapshot + slots m.last.graph n ≤ unscanned_slots t m at snapshot
one_scanned t u m at snapshot n stay member before after =
    slots_without m.last.graph (is_unscanned t m at) (is_unscanned u m at) snapshot n (λ x. still_unscanned t u m at x (stay (granule_of (at x)))) member before after

-- in another moment, with other tables and places, what is still to be scanned was so: then no more references are
pub fewer_later : (t u : Tables) (m now : Moment) (at to : Name → ℕ) (snapshot : List Name)
    → ((n : Name) → IsTrue (has now.unreclaimed n) → u.marks (granule_of (to n)) ≡ false
    → IsTrue (has m.unreclaimed n) × (t.marks (granule_of (at n)) ≡ false) × (slots now.last.graph n ≡ slots m.last.graph n))
    → unscanned_slots u now to snapshot ≤ unscanned_slots t m at snapshot
fewer_later t u m now at to snapshot was = fewer_slots m.last.graph now.last.graph (is_unscanned t m at) (is_unscanned u now to) snapshot each
  where
    each : (n : Name) → is_unscanned u now to n ≡ true → (is_unscanned t m at n ≡ true) × (slots now.last.graph n ≡ slots m.last.graph n)
    each n e =
        let parts = and_parts (has now.unreclaimed n) (not (u.marks (granule_of (to n)))) e in
        let then = was n parts.0 (not-true (u.marks (granule_of (to n))) parts.1) in
        (and_from (has m.unreclaimed n) (not (t.marks (granule_of (at n)))) then.0 (ap not then.1), then.2)
