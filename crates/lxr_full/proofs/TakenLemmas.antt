-- Objects that take all lines that aren't free touch few slots: the heap is compared with one in which just their lines
-- are out, and each object adds one row of lines to that one.
use Rattle.std.proofs.Common.{◌≡◌, ℕ, ◌+◌, ◌-◌, ◌*◌, ◌/◌, ◌<◌, ◌≤◌, refl, sym, ap, ◌∙◌, inl, inr, ◌⊎◌, arith, Bool, true, false, List, [], ◌∷◌}
use Rattle.std.specs.Prelude.{◌&&◌, ◌||◌, not, nat_lt, Some, IsTrue}
use Rattle.std.specs.Option.{option_map_or}
use Rattle.std.specs.List.{list_any}
use Rattle.std.proofs.lemmas.List.Sums.{sum_by-cons}
use Rattle.std.proofs.lemmas.Bool.{or_cases, or_left, or_right}
use Rattle.std.proofs.lemmas.Bool.Decides.{nat_tests}
use Rattle.lxr_layout.specs.declared.TheConstants.{GRANULES_IN_BLOCK, GRANULES_IN_LINE, LINES_IN_BLOCK}
use Rattle.lxr_layout.specs.declared.Name.{Name}
use Rattle.lxr_layout.specs.Objects.{line_count}
use Rattle.lxr_graph.specs.State.{Graph, Object, object_at, shape_of}
use Rattle.lxr_graph.specs.Names.{has, same_name}
use Rattle.lxr_graph.proofs.NameSets.{same_itself, same_names}
use Rattle.lxr_image.specs.Tables.{Tables}
use Rattle.lxr_image.specs.Reads.{granule_of}
use Rattle.lxr_image.specs.Image.{granules_of}
use Rattle.lxr_blocks.specs.Lines.{are_zero, is_free}
use Rattle.lxr_blocks.proofs.LineLemmas.{all_zero}
use Rattle.lxr_model.specs.Full.{lines_at, slots_taken, slots_touched}
use Rattle.lxr_full.specs.Touched.{touched_slots}
use Rattle.lxr_full.specs.Taken.{IsOverlapped, TakeAllLines, TakenLeavesNoRun, TakenTouchesFew}
use Rattle.lxr_full.proofs.TouchedLemmas.{DifferInRow, free_blocks, more_touched, no_run_touches_all, row_touches_few}

-- ---- which lines objects overlap

-- so many granules from one on overlap a line
abbrev pub overlap : ℕ → ℕ → ℕ → Bool
overlap granule granules line = nat_lt granule (GRANULES_IN_LINE * line + GRANULES_IN_LINE) && nat_lt (GRANULES_IN_LINE * line) (granule + granules)

-- the object of a name overlaps a line
abbrev pub overlaps : (Name → ℕ) → Graph → ℕ → Name → Bool
overlaps at g line n = option_map_or (λ o. overlap (granule_of (at n)) (granules_of o) line) (object_at g n) false

-- the tables, but that just the lines are taken that the objects of these names overlap
abbrev pub taken_by : Tables → (Name → ℕ) → Graph → List Name → Tables
taken_by t at g ns = record t { outs = λ line. list_any (overlaps at g line) ns; counts = λ granule. 0 }

overlaps_is : (at : Name → ℕ) (g : Graph) (line : ℕ) (n : Name) (o : Object) → object_at g n ≡ Some o
    → overlaps at g line n ≡ overlap (granule_of (at n)) (granules_of o) line
overlaps_is at g line n o is = ap (λ z. option_map_or (λ o. overlap (granule_of (at n)) (granules_of o) line) z false) is

does_overlap : (granule granules line : ℕ) → granule < GRANULES_IN_LINE * line + GRANULES_IN_LINE → GRANULES_IN_LINE * line < granule + granules → overlap granule granules line ≡ true
does_overlap granule granules line low high = grind (arith, nat_tests)

overlaps_none : (granule granules line : ℕ) → (line < granule / GRANULES_IN_LINE) ⊎ ((granule + granules + 15) / GRANULES_IN_LINE ≤ line) → overlap granule granules line ≡ false
overlaps_none granule granules line (inl before) =
    let k : GRANULES_IN_LINE * line + GRANULES_IN_LINE ≤ granule = omega (arith, before) in grind (arith, nat_tests, k)
overlaps_none granule granules line (inr behind) =
    let k : granule + granules ≤ GRANULES_IN_LINE * line = omega (arith, behind) in grind (arith, nat_tests, k)

-- what passes a test of names is one of them
any_passes : (passes : Name → Bool) (ns : List Name) (n : Name) → IsTrue (has ns n) → passes n ≡ true → list_any passes ns ≡ true
any_passes passes [] n h is = absurd (cc)
any_passes passes (m ∷ ns) n h is = elim (or_cases (same_name n m) (has ns n) h) [
  | inl own ↦ or_left (passes m) (list_any passes ns) (ap passes (sym (same_names n m own)) ∙ is)
  | inr other ↦ or_right (passes m) (list_any passes ns) (any_passes passes ns n other is)
]

overlapped_is_taken : (t : Tables) (at : Name → ℕ) (g : Graph) (ns : List Name) (line : ℕ) → IsOverlapped at g ns line → is_free (taken_by t at g ns) line ≡ false
overlapped_is_taken t at g ns line is =
    ap (λ b. not b && are_zero (λ granule. 0) (GRANULES_IN_LINE * line) GRANULES_IN_LINE)
    (any_passes (overlaps at g line) ns is.0 is.2
    (overlaps_is at g line is.0 is.1 is.3 ∙ does_overlap (granule_of (at is.0)) (granules_of is.1) line is.4 is.5))

-- ---- one object more

-- an object has granules, all in one block
pub record IsInBlock (g k : ℕ) : Type 0 where
  pub some : 1 ≤ k
  pub block : g / GRANULES_IN_BLOCK ≡ (g + k - 1) / GRANULES_IN_BLOCK

-- it overlaps at most one line more than its words fill
row_is_short : (granule words : ℕ) → (granule + words / 2 + 15) / GRANULES_IN_LINE ≤ granule / GRANULES_IN_LINE + (words + 31) / 32 + 1
row_is_short granule words = omega arith

row_begins : (granule : ℕ) → LINES_IN_BLOCK * (granule / GRANULES_IN_BLOCK) ≤ granule / GRANULES_IN_LINE
row_begins granule = omega arith

row_within : (granule granules : ℕ) → IsInBlock granule granules → (granule + granules + 15) / GRANULES_IN_LINE ≤ LINES_IN_BLOCK * (granule / GRANULES_IN_BLOCK) + LINES_IN_BLOCK
row_within granule granules is = let some = is.some in let block = is.block in omega arith

one_more : (t : Tables) (at : Name → ℕ) (g : Graph) (n : Name) (ns : List Name) (o : Object) → object_at g n ≡ Some o
    → IsInBlock (granule_of (at n)) (granules_of o)
    → DifferInRow (taken_by t at g (n ∷ ns)) (taken_by t at g ns) (granule_of (at n) / GRANULES_IN_BLOCK) (granule_of (at n) / GRANULES_IN_LINE) ((granule_of (at n) + granules_of o + 15) / GRANULES_IN_LINE)
one_more t at g n ns o there is = record {
  begins = row_begins (granule_of (at n));
  within = row_within (granule_of (at n)) (granules_of o) is;
  alike = λ line outside. ap (λ b. not (b || list_any (overlaps at g line) ns) && are_zero (λ granule. 0) (GRANULES_IN_LINE * line) GRANULES_IN_LINE)
      (overlaps_is at g line n o there ∙ overlaps_none (granule_of (at n)) (granules_of o) line outside);
}

-- these objects each lie in one block
abbrev pub LieInBlocks : (Name → ℕ) → Graph → List Name → Type 0
LieInBlocks at g ns = (n : Name) → IsTrue (has ns n) → (o : Object) × (object_at g n ≡ Some o) × IsInBlock (granule_of (at n)) (granules_of o)

few_taken : (t : Tables) (blocks : ℕ) (at : Name → ℕ) (g : Graph) (ns : List Name) (k : ℕ) → 1 ≤ k → LieInBlocks at g ns
    → touched_slots (taken_by t at g ns) blocks k ≤ slots_taken g k ns
few_taken t blocks at g [] k some lie =
    let none = free_blocks (taken_by t at g []) blocks k (λ line past. all_zero (λ granule. 0) (GRANULES_IN_LINE * line) 16 (λ m h. refl)) in omega (arith, none)
few_taken t blocks at g (n ∷ ns) k some lie =
    let own = lie n (or_left (same_name n n) (has ns n) (same_itself n)) in
    let o = own.0 in
    let before = few_taken t blocks at g ns k some (λ m h. lie m (or_right (same_name m n) (has ns m) h)) in
    let more = row_touches_few (taken_by t at g (n ∷ ns)) (taken_by t at g ns) (granule_of (at n) / GRANULES_IN_BLOCK) (granule_of (at n) / GRANULES_IN_LINE)
    ((granule_of (at n) + granules_of o + 15) / GRANULES_IN_LINE) (line_count (shape_of o)) k some (row_is_short (granule_of (at n)) _) (one_more t at g n ns o own.1 own.2) blocks in
    let lines : lines_at g n ≡ line_count (shape_of o) = ap (λ z. option_map_or (λ o. line_count (shape_of o)) z 0) own.1 in
    let here = ap (slots_touched k) lines in
    let sum = sum_by-cons (λ m. slots_touched k (lines_at g m)) n ns in
    omega (arith, before, more, here, sum)

-- ---- the laws

granules_are_some : (o : Object) → 1 ≤ granules_of o
granules_are_some o = omega arith

objects_lie : (t : Tables) (blocks : ℕ) (at : Name → ℕ) (g : Graph) (ms ns : List Name) → TakeAllLines t blocks at g ms ns → LieInBlocks at g ns
objects_lie t blocks at g ms ns is n h =
    let a = is.image.stands n (is.among n h) in
    (a.0, a.1, record { some = granules_are_some a.0; block = a.2.whole.in_block })

pub taken_touches_few : TakenTouchesFew
taken_touches_few t blocks at g ms ns k some is =
    let more = more_touched t (taken_by t at g ns) blocks k (λ line past in_heap taken. overlapped_is_taken t at g ns line (is.lines line past in_heap taken)) in
    let few = few_taken t blocks at g ns k some (objects_lie t blocks at g ms ns is) in
    omega (arith, more, few)

pub taken_leaves_no_run : TakenLeavesNoRun
taken_leaves_no_run t blocks at g ms ns k some blocks_are first is none =
    let all = no_run_touches_all t blocks k blocks_are first none in
    let few = taken_touches_few t blocks at g ms ns k some is in
    omega (arith, all, few)
