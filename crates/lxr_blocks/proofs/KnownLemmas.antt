-- What is known of the lines of a block, and which of its lines are free.
use Rattle.std.proofs.Common.{◌≡◌, ℕ, ◌+◌, ◌-◌, ◌^◌, ◌<◌, ◌≤◌, ◌∙◌, List, refl, inl, inr, arith, true, false}
use Rattle.std.specs.Prelude.{◌↔◌, IfSome, IsBitSet, IsTrue, None, Option, Some}
use Rattle.std.proofs.lemmas.Nat.Bits.{bit_at_ones}
use Rattle.lxr_tables.proofs.BitLemmas.{one_is_set}
use Rattle.lxr_layout.specs.declared.runs.Run.{Run}
use Rattle.lxr_image.specs.Runs.{bits_of, words_of_runs}
use Rattle.lxr_image.specs.Settled.{AreRunsOfFree, HasLongest, HasNoLonger, IsFreeLine, IsLongest, IsMaskOfFree, line_of}
use Rattle.lxr_image.specs.Tables.{Tables}
use Rattle.lxr_blocks.specs.declared.states.BlockState.TheVariants.{Free}
use Rattle.lxr_blocks.specs.Lines.{IsFreeRun, free_in}
use Rattle.lxr_blocks.specs.Listing.{run_words}
use Rattle.lxr_blocks.specs.Masks.{IsMask}
use Rattle.lxr_blocks.specs.States.{state_by_lines}
use Rattle.lxr_blocks.proofs.KeptLemmas.{free_line_is_told}
use Rattle.lxr_image.proofs.RunLemmas.{words_alike}
use Rattle.lxr_blocks.proofs.MaskLemmas.{mask_of_bits}
use Rattle.lxr_blocks.proofs.LineLemmas.{free_lines, taken_by_lines}

pub free_told : (t : Tables) (b i : ℕ) → IsFreeLine t (line_of b i) ↔ IsTrue (free_in t b i)
free_told t b i = let told = free_line_is_told t (line_of b i) in (told.1, told.0)

pub mask_of_known : (t : Tables) (b mask : ℕ) → IsMaskOfFree mask t b → IsMask mask (free_in t b)
mask_of_known t b mask is i within = ((λ set. (free_told t b i).0 ((is i within).0 set)), (λ free. (is i within).1 ((free_told t b i).1 free)))

pub known_of_mask : (t : Tables) (b mask : ℕ) → IsMask mask (free_in t b) → IsMaskOfFree mask t b
known_of_mask t b mask is i within = ((λ set. (free_told t b i).1 ((is i within).0 set)), (λ free. (is i within).1 ((free_told t b i).0 free)))

pub mask_where_known : (o : Option ℕ) (t : Tables) (b : ℕ) → IfSome o (λ mask. IsMaskOfFree mask t b) → IfSome o (λ mask. IsMask mask (free_in t b))
mask_where_known None t b is = tt
mask_where_known (Some mask) t b is = mask_of_known t b mask is

-- the runs of a mask are those of the lines that it tells of
pub runs_of_mask : (t : Tables) (b mask : ℕ) → IsMask mask (free_in t b) → words_of_runs (bits_of mask) b ≡ run_words t b
runs_of_mask t b mask is =
    words_alike (bits_of mask) (free_in t b) b (λ i h. let bits = mask_of_bits mask i h in let own = is i h in ((λ yes. own.0 (bits.1 yes)), (λ yes. bits.0 (own.1 yes))))

pub runs_are_told : (t : Tables) (b : ℕ) → AreRunsOfFree (run_words t b) t b
runs_are_told t b = (free_in t b, (λ i h. ((free_told t b i).1, (free_told t b i).0)), refl)

pub told_runs : (t : Tables) (b : ℕ) (words : List ℕ) → AreRunsOfFree words t b → words ≡ run_words t b
told_runs t b words (free, is, told) =
    told ∙ words_alike free (free_in t b) b (λ i h. let own = free_told t b i in let its = is i h in ((λ yes. own.0 (its.0 yes)), (λ yes. its.1 (own.1 yes))))

-- the longest run of a mask is that of the lines that it tells of
pub longest_known : (t : Tables) (b mask longest : ℕ) → IsMaskOfFree mask t b → IsLongest (λ i. IsBitSet mask i) longest → HasLongest t b longest
longest_known t b mask longest is (bound, reached) = (
  (λ first many within each. bound first many within (λ i h. (is (first + i) (omega (arith, h, within))).1 (each i h))),
  elim reached [ inl none ↦ inl none | inr some ↦ let within = some.1 in inr (some.0, within, λ i h. (is (some.0 + i) (omega (arith, h, within))).0 (some.2 i h)) ],
)

-- where a block's state tells that all its lines are free, they are all in its mask
pub full_of_free : (t : Tables) (b : ℕ) → state_by_lines t b ≡ Free → IsMask (2 ^ 128 - 1) (free_in t b)
full_of_free t b is i within = (
  (λ _. elim (free_in t b i) as (λ x. free_in t b i ≡ x → x ≡ true) [
    | true ↦ λ e. refl
    | false ↦ λ e. absurd (taken_by_lines t b i within e is)
  ] refl),
  (λ _. one_is_set (2 ^ 128 - 1) i (bit_at_ones 128 i within)),
)

-- a run of free lines is no longer than is known
run_no_longer : (t : Tables) (blocks b longest : ℕ) (q : Run) → HasNoLonger t b longest → IsFreeRun t blocks q → q.block ≡ b → q.lines ≤ longest
run_no_longer t blocks b longest q known run same =
    known q.line q.lines run.within
    (λ i h. (free_told t b (q.line + i)).1 (free_lines t blocks b q run same (q.line + i) (omega arith) (omega (arith, h))))

-- so a run that is sought isn't found where it is known to be too long
pub run_shorter : (t : Tables) (blocks lines : ℕ) (q : Run) → 1 ≤ lines → HasNoLonger t q.block (lines - 1) → IsFreeRun t blocks q → q.lines < lines
run_shorter t blocks lines q some known run = let short = run_no_longer t blocks q.block (lines - 1) q known run refl in omega arith
