-- What is left to mark stands at start bits, and what its references hold is read off the heap.
use Rattle.std.proofs.Common.{◌≡◌, ℕ, ◌+◌, ◌*◌, ◌<◌, ◌≤◌, refl, sym, ap, ◌∙◌, inl, inr, arith, Bool, true, false, cond, nat_le, nat_lt}
use Rattle.std.specs.Prelude.{◌&&◌, Option, Some, None, IsTrue}
use Rattle.std.proofs.lemmas.Bool.{and_parts}
use Rattle.std.proofs.lemmas.Bool.Decides.{leb_tells, nat_tests}
use Rattle.lxr_layout.specs.declared.TheConstants.{MOST_GRANULES, WORDS_IN_BLOCK}
use Rattle.lxr_layout.specs.declared.Name.{Name}
use Rattle.lxr_layout.specs.declared.Shape.{Shape}
use Rattle.lxr_layout.specs.declared.Header.{Header}
use Rattle.lxr_layout.specs.declared.Header.TheVariants.{Object, Moved}
use Rattle.lxr_layout.specs.Objects.{header_of}
use Rattle.lxr_layout.specs.Places.{field_word, first_word}
use Rattle.lxr_image.specs.declared.space.Space.{Space}
use Rattle.lxr_image.specs.Spaces.{IsSpace, tables_of}
use Rattle.lxr_image.specs.Tables.{Tables}
use Rattle.lxr_image.specs.Reads.{StandsWhole, field_at, field_in, granule_of, header_at}
use Rattle.lxr_image.proofs.ReadLemmas.{header_unpacked}
use Rattle.lxr_image.proofs.TableLaws.{no_start_past}
use Rattle.lxr_pause_trace.specs.Marking.{IsDue, IsLeft, IsTraceable, granules, gray, referred, slots_at, slots_in}

-- ---- start bits

pub left_start : (t : Tables) (blocks : ℕ) → IsTraceable t blocks → (p : ℕ) → IsLeft t p → (1 ≤ p) × IsTrue (t.starts (granule_of p))
left_start t blocks is p (gray _ placed g unmarked) = (placed, is.grays (granule_of p) g)
left_start t blocks is q (referred p _ left refers unmarked) = (refers.0, is.closed p q refers)

pub due_start : (t : Tables) (blocks : ℕ) → IsTraceable t blocks → (q : ℕ) → IsDue t q → IsTrue (t.starts (granule_of q))
due_start t blocks is q due = elim due.by [ inl g ↦ is.grays (granule_of q) g | inr r ↦ is.closed r.0 q r.2 ]

-- what is to be found and isn't marked is left to mark
pub due_left : (t : Tables) (q : ℕ) → IsDue t q → t.marks (granule_of q) ≡ false → IsLeft t q
due_left t q due unmarked = elim due.by [ inl g ↦ gray q due.placed g unmarked | inr r ↦ referred r.0 q r.1 r.2 unmarked ]

-- a start bit's place is one of the heap
pub started_place : (s : Space) (p : ℕ) → IsSpace s → 1 ≤ p → IsTrue ((tables_of s).starts (granule_of p)) → (p ≤ granules s) × (p ≤ MOST_GRANULES)
started_place s p space placed start = elim (leb_tells (granules s) (granule_of p)) [
  | inl past ↦ absurd (let none = no_start_past s.limits s.words (granule_of p) space.size past.1 in cc)
  | inr within ↦ let c = within.1 in let blocks = space.limits.blocks in (omega (arith, c, placed), omega (arith, c, placed, blocks.1))
]

-- ---- references

-- what a reference below the number of them holds, by a header
field_of : (t : Tables) (p i : ℕ) (h : Option Header) → i < slots_in h → field_in t p i h ≡ Some (t.heap (field_word p i))
field_of t p i (Some (Object n s)) within = let below : nat_lt i s.refs ≡ true = grind (arith, nat_tests) in ap (λ b. cond b (Some (t.heap (first_word p + 1 + i))) None) below
field_of t p i (Some (Moved q)) within = absurd (omega arith)
field_of t p i None within = absurd (omega arith)

pub field_read : (t : Tables) (p i : ℕ) → i < slots_at t p → field_at t p i ≡ Some (t.heap (field_word p i))
field_read t p i within = field_of t p i (header_at t p) within

-- a reference that holds something is below the number of them
within_of : (t : Tables) (p i q : ℕ) (h : Option Header) → field_in t p i h ≡ Some q → i < slots_in h
within_of t p i q (Some (Object n s)) e = elim (leb_tells s.refs i) [
  | inl past ↦ absurd (let c = past.1 in let not_below : nat_lt i s.refs ≡ false = grind (arith, nat_tests) in let none : None ≡ Some q = sym (ap (λ b. cond b (Some (t.heap (first_word p + 1 + i))) None) not_below) ∙ e in cc)
  | inr within ↦ within.1
]
within_of t p i q (Some (Moved r)) e = absurd (cc)
within_of t p i q None e = absurd (cc)

pub field_within : (t : Tables) (p i q : ℕ) → field_at t p i ≡ Some q → i < slots_at t p
field_within t p i q e = within_of t p i q (header_at t p) e

-- what the header of a whole object says
pub whole_header : (t : Tables) (blocks p : ℕ) (n : Name) (s : Shape) → 1 ≤ p → IsTrue (t.starts (granule_of p)) → StandsWhole t blocks (granule_of p) n s → header_at t p ≡ Some (Object n s)
whole_header t blocks p n s placed start whole =
    let placed_test : nat_le 1 p ≡ true = grind (arith, nat_tests) in
    ap (λ b. cond b (Some (header_of (t.heap (first_word p)))) None) (both (nat_le 1 p) (t.starts (granule_of p)) placed_test start)
    ∙ ap (λ w. Some (header_of w)) whole.header ∙ ap Some (header_unpacked n s whole.name whole.shape)
  where
    both : (x b : Bool) → x ≡ true → b ≡ true → (x && b) ≡ true
    both x b e f = ap (λ z. z && b) e ∙ f

-- the words of an object's references lie in the heap
pub field_place : (t : Tables) (blocks p i : ℕ) → IsTraceable t blocks → 1 ≤ p → IsTrue (t.starts (granule_of p)) → i < slots_at t p → field_word p i < WORDS_IN_BLOCK * blocks
field_place t blocks p i is placed start within =
    let w = is.whole (granule_of p) start in
    let slots : slots_at t p ≡ w.1.refs = ap slots_in (whole_header t blocks p w.0 w.1 placed start w.2) in
    let fits = w.2.in_heap in
    omega (arith, slots, fits)

-- an object has at most 1,023 references
pub slots_small : (t : Tables) (blocks : ℕ) → IsTraceable t blocks → (p : ℕ) → slots_at t p ≤ 1023
slots_small t blocks is p = by (nat_le 1 p && t.starts (granule_of p)) refl
  where
    by : (b : Bool) → (nat_le 1 p && t.starts (granule_of p)) ≡ b → slots_at t p ≤ 1023
    by true is_there =
        let both = and_parts (nat_le 1 p) (t.starts (granule_of p)) is_there in
        let w = is.whole (granule_of p) both.1 in
        let first = both.0 in
        let slots : slots_at t p ≡ w.1.refs = ap slots_in (whole_header t blocks p w.0 w.1 (grind (arith, nat_tests, first)) both.1 w.2) in
        let fits = w.2.shape.0 in
        omega (arith, slots, fits)
    by false none = let slots : slots_at t p ≡ 0 = ap (λ b. slots_in (cond b (Some (header_of (t.heap (first_word p)))) None)) none in omega (arith, slots)
