-- What is told grows by an object at each granule at which one begins, and stays where none begins.
use Rattle.std.proofs.Common.{◌≡◌, ℕ, zero, suc, ◌+◌, ◌-◌, ◌*◌, ◌≤◌, ◌<◌, refl, sym, ap, subst, ◌∙◌, inl, inr, arith, Bool, true, false, cond, [], ◌++◌, length, length-append, IsTrue, List}
use Rattle.std.specs.Int.{bit_at}
use Rattle.std.specs.Prelude.{◌==◌}
use Rattle.std.proofs.lemmas.Bool.Decides.{leb_tells}
use Rattle.std.proofs.lemmas.List.{append-nil}
use Rattle.lxr_base.specs.Bits.{AreLeft, IsNextBit, NoBit, TakesLowest}
use Rattle.lxr_base.proofs.BitLemmas.{all_left, left_behind, next_taken, none_left}
use Rattle.lxr_layout.specs.declared.TheConstants.{GRANULES_IN_BLOCK}
use Rattle.lxr_layout.specs.declared.Header.{Header}
use Rattle.lxr_layout.specs.declared.Header.TheVariants as header
use Rattle.lxr_layout.specs.Objects.{header_of}
use Rattle.lxr_image.specs.declared.space.Space.{Space}
use Rattle.lxr_image.specs.Spaces.{tables_of}
use Rattle.lxr_image.specs.Tables.{Tables}
use Rattle.lxr_pause_queue.specs.Entries.{entries_below, entry_at, entry_in, with_told}
use Rattle.lxr_graph.specs.declared.report.Count.{Count}
use Rattle.lxr_image_search.specs.declared.Wanted.TheVariants.{Object}
use Rattle.lxr_image_search.specs.Search.{NoneWanted}

pub none_below : (t : Tables) → entries_below t 0 ≡ []
unfolding entries_below
none_below t = refl

-- one granule further
pub entries_next : (t : Tables) (g : ℕ) → entries_below t (suc g) ≡ entries_below t g ++ cond (t.starts g) (entry_at t g) []
unfolding entries_below
entries_next t g = refl

pub entries_stay : (t : Tables) (g : ℕ) → t.starts g ≡ false → entries_below t (suc g) ≡ entries_below t g
entries_stay t g none = entries_next t g ∙ ap (λ b. entries_below t g ++ cond b (entry_at t g) []) none ∙ append-nil (entries_below t g)

pub entries_joined : (t : Tables) (g : ℕ) → IsTrue (t.starts g) → entries_below t (suc g) ≡ entries_below t g ++ entry_at t g
entries_joined t g begins = entries_next t g ∙ ap (λ b. entries_below t g ++ cond b (entry_at t g) []) begins

-- where no object begins, nothing more is told
none_told : (t : Tables) (from end : ℕ) → from ≤ end → ((g : ℕ) → from ≤ g → g < end → t.starts g ≡ false) → entries_below t end ≡ entries_below t from
none_told t from zero past none = let first : 0 ≡ from = omega (arith, past) in ap (entries_below t) first
none_told t from (suc k) past none = elim (leb_tells (suc k) from) [
  | inl c ↦ let last : suc k ≡ from = omega (arith, past, c.1) in ap (entries_below t) last
  | inr c ↦
      let before : from ≤ k = omega (arith, c.1) in
      entries_stay t k (none k before (omega arith)) ∙ none_told t from k before (λ g above below. none g above (omega (arith, below)))
]

-- where none is wanted up to a block, nothing more is told before it
pub none_more_told : (s mid : Space) (from end : ℕ) → mid ≡ with_told s (entries_below (tables_of s) (GRANULES_IN_BLOCK * from)) → from ≤ end
    → NoneWanted (tables_of mid) Object (GRANULES_IN_BLOCK * from) (GRANULES_IN_BLOCK * end) → mid ≡ with_told s (entries_below (tables_of s) (GRANULES_IN_BLOCK * end))
none_more_told s mid from end told past none =
    let none_there = subst (λ t. NoneWanted t Object (GRANULES_IN_BLOCK * from) (GRANULES_IN_BLOCK * end)) (ap tables_of told) none in
    told ∙ ap {A = List Count} (with_told s) (sym (none_told (tables_of s) (GRANULES_IN_BLOCK * from) (GRANULES_IN_BLOCK * end) (omega (arith, past)) (λ g above below. none_there g above below)))

-- ---- how many there are

few_in : (count : ℕ) (h : Header) → length (entry_in count h) ≤ 1
few_in count (header.Object n shape) = omega arith
few_in count (header.Moved place) = omega arith

few_at : (t : Tables) (g : ℕ) (b : Bool) → length (cond b (entry_at t g) []) ≤ 1
few_at t g true = few_in (t.counts g) (header_of (t.heap (2 * g)))
few_at t g false = omega arith

pub few_below : (t : Tables) (g : ℕ) → length (entries_below t g) ≤ g
few_below t zero = let none = ap length (none_below t) in omega (arith, none)
few_below t (suc g) =
    let more : length (entries_below t (suc g)) ≡ length (entries_below t g) + length (cond (t.starts g) (entry_at t g) []) =
    ap length (entries_next t g) ∙ length-append (entries_below t g) (cond (t.starts g) (entry_at t g) []) in
    let before = few_below t g in
    let one = few_at t g (t.starts g) in
    omega (arith, more, before, one)

-- ---- the pass over 64 granules

module _ (t : Tables) (at word : ℕ) (tells : (i : ℕ) → i < 64 → t.starts (64 * at + i) ≡ (bit_at word i == 1)) where
  unset : (i : ℕ) → i < 64 → bit_at word i ≡ 0 → t.starts (64 * at + i) ≡ false
  unset i within none = tells i within ∙ ap (λ (b : ℕ). b == 1) none

  passed_over : (from end : ℕ) → end ≤ 64 → NoBit word from end → (g : ℕ) → 64 * at + from ≤ g → g < 64 * at + end → t.starts g ≡ false
  passed_over from end within none g above below =
      let i : ℕ = g - 64 * at in
      let there : 64 * at + i ≡ g = omega (arith, above) in
      ap t.starts (sym there) ∙ unset i (omega (arith, above, below, within)) (none i (omega (arith, above)) (omega (arith, above, below)))

  -- up to the next object and with it
  pub next_told : (from bit : ℕ) → IsNextBit word from bit → entries_below t (64 * at + from) ++ entry_at t (64 * at + bit) ≡ entries_below t (64 * at + (bit + 1))
  next_told from bit next =
      let reached = next.reached in
      let within = next.within in
      let begins : IsTrue (t.starts (64 * at + bit)) = tells bit within ∙ ap (λ (b : ℕ). b == 1) next.set in
      ap (λ es. es ++ entry_at t (64 * at + bit)) (sym (none_told t (64 * at + from) (64 * at + bit) (omega (arith, reached)) (passed_over from bit (omega (arith, within)) next.passed)))
      ∙ sym (entries_joined t (64 * at + bit) begins)
      ∙ ap (entries_below t) (omega arith)

  -- up to the end, where none is left
  pub rest_told : (from : ℕ) → from ≤ 64 → NoBit word from 64 → entries_below t (64 * (at + 1)) ≡ entries_below t (64 * at + from)
  rest_told from within none =
      let end : 64 * (at + 1) ≡ 64 * at + 64 = omega arith in
      ap (entries_below t) end ∙ none_told t (64 * at + from) (64 * at + 64) (omega (arith, within)) (passed_over from 64 (omega arith) none)

-- how far a pass over 64 granules has come: the bits below one are taken, and their objects told
pub record AreToldTo (s mid : Space) (at word rest from : ℕ) : Type 0 where
  pub within : from ≤ 64
  pub left : AreLeft word rest from
  pub told : mid ≡ with_told s (entries_below (tables_of s) (64 * at + from))

-- it begins where those before are told
pub begins_told : (s : Space) (at word : ℕ) → s.report.told.items ≡ entries_below (tables_of s) (64 * at) → AreToldTo s s at word word 0
begins_told s at word told =
    let start : 64 * at ≡ 64 * at + 0 = omega arith in
    record { within = omega arith; left = all_left word; told = ap (with_told s) (told ∙ ap (entries_below (tables_of s)) start) }

module _ (s mid : Space) (at word rest from : ℕ) (is : AreToldTo s mid at word rest from) where
  -- there is room for one more
  pub room_for_next : (after bit : ℕ) → at < 32 * s.limits.blocks → GRANULES_IN_BLOCK * s.limits.blocks ≤ s.report.told.room → TakesLowest rest after bit
      → length mid.report.told.items < mid.report.told.room
  room_for_next after bit inside room takes =
      let next = next_taken word rest after from bit is.left takes in
      let reached = next.reached in
      let within = next.within in
      let few = few_below (tables_of s) (64 * at + from) in
      let left : length (entries_below (tables_of s) (64 * at + from)) < s.report.told.room = omega (arith, inside, reached, within, few, room) in
      subst (λ (z : Space). length z.report.told.items < z.report.told.room) (sym is.told) left

  module _ (tells : (i : ℕ) → i < 64 → (tables_of s).starts (64 * at + i) ≡ (bit_at word i == 1)) where
    -- one more is told
    pub one_more_told : (after bit : ℕ) (new : Space) → TakesLowest rest after bit → new ≡ with_told mid (mid.report.told.items ++ entry_at (tables_of mid) (64 * at + bit))
        → AreToldTo s new at word after (bit + 1)
    one_more_told after bit new takes added =
        let next = next_taken word rest after from bit is.left takes in
        let within = next.within in
        record {
          within = omega (arith, within);
          left = left_behind word rest after from bit is.left takes;
          told = added
              ∙ ap (λ (z : Space). with_told z (z.report.told.items ++ entry_at (tables_of z) (64 * at + bit))) is.told
              ∙ ap (with_told s) (next_told (tables_of s) at word tells from bit next);
        }

    -- no more are left
    pub all_are_told : rest ≡ 0 → mid ≡ with_told s (entries_below (tables_of s) (64 * (at + 1)))
    all_are_told none =
        is.told ∙ ap (with_told s) (sym (rest_told (tables_of s) at word tells from is.within (none_left word rest from is.left none)))

-- ---- the pass over the heap

-- nothing is told at its begin
pub begins_with_none : (s : Space) → s.report.told.items ≡ [] → s ≡ with_told s (entries_below (tables_of s) 0)
begins_with_none s empty = ap (with_told s) (empty ∙ sym (none_below (tables_of s)))

-- the objects of one block more are told
pub told_then : (s mid new : Space) (from end : ℕ) → mid ≡ with_told s (entries_below (tables_of s) from) → new ≡ with_told mid (entries_below (tables_of mid) end)
    → new ≡ with_told s (entries_below (tables_of s) end)
told_then s mid new from end told more = more ∙ ap (λ (z : Space). with_told z (entries_below (tables_of z) end)) told
