-- A new object is written word by word.
use Rattle.std.proofs.Common.{◌≡◌, ◌≢◌, ℕ, ◌+◌, ◌*◌, ◌-◌, ◌/◌, ◌<◌, ◌≤◌, ap, arith, cond, sym, true, ◌∙◌}
use Rattle.std.specs.Prelude.{nat_eq, if◌then◌else◌}
use Rattle.std.proofs.lemmas.Bool.Decides.{nat_tests}
use Rattle.lxr_layout.specs.declared.TheConstants.{GRANULES_IN_BLOCK, WORDS_IN_BLOCK}
use Rattle.lxr_layout.specs.declared.Name.{Name}
use Rattle.lxr_layout.specs.declared.Shape.{Shape}
use Rattle.lxr_layout.specs.Objects.{header_word, word_count}
use Rattle.lxr_image.specs.declared.space.Space.{Space}
use Rattle.lxr_image.specs.Spaces.{IsInUsedBlock, Turns, tables_of}
use Rattle.lxr_image.specs.Tables.{Tables}
use Rattle.lxr_blocks.specs.Handing.{is_between}
use Rattle.lxr_blocks.specs.Placing.{granule_count}

-- heap words are zeros
abbrev pub zeroed : Tables → ℕ → ℕ → Tables
zeroed t first end = record t { heap = λ w. if is_between first end w then 0 else t.heap w }

-- a header and, behind it, zeros up to a heap word
abbrev pub begun : Tables → ℕ → ℕ → Name → Shape → Tables
begun t first end n s = record t { heap = λ w. if nat_eq w first then header_word n s else (if is_between first end w then 0 else t.heap w) }

-- the header before more than one word isn't 0
pub header_some : (word : ℕ) (n : Name) (s : Shape) → word ≡ header_word n s → 2 < word_count s → word ≢ 0
header_some word n s is fields none = let e : header_word n s ≡ 0 = sym is ∙ none in omega (arith, e, fields)

header_there : (t : Tables) (first end : ℕ) (n : Name) (s : Shape) → (begun t first end n s).heap first ≡ header_word n s
header_there t first end n s =
    let e : nat_eq first first ≡ true = grind (arith, nat_tests) in
    ap (λ b. cond b (header_word n s) (cond (is_between first end first) 0 (t.heap first))) e

-- so the block of an object that was begun is in use
pub begun_used : (before after : Space) (g at : ℕ) (n : Name) (s : Shape) → Turns before after (begun (tables_of before) (2 * g) at n s) → 2 * g + 2 ≤ at → at < 2 * g + word_count s
    → g + granule_count s ≤ GRANULES_IN_BLOCK * before.limits.blocks → g / GRANULES_IN_BLOCK ≡ (g + granule_count s - 1) / GRANULES_IN_BLOCK → IsInUsedBlock after at
begun_used before after g at n s turns low high heap block =
    let blocks : after.limits.blocks ≡ before.limits.blocks = ap (λ x. x.limits.blocks) turns.rest in
    record {
      other = 2 * g;
      there = omega (arith, blocks, heap, low, high);
      block = omega (arith, block, low, high);
      some = header_some _ n s (ap (λ x. x.heap (2 * g)) turns.tables ∙ header_there (tables_of before) (2 * g) at n s) (omega (arith, low, high));
    }
