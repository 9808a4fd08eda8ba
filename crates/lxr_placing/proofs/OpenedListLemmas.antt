-- An opened space is listed.
use Rattle.std.proofs.Common.{lit≤, ◌≡◌, ℕ, zero, suc, ◌+◌, ◌-◌, ◌*◌, ◌<◌, ◌≤◌, refl, sym, ap, subst, ◌∙◌, arith, true}
use Rattle.std.proofs.lemmas.Bool.Decides.{nat_tests}
use Rattle.std.specs.Prelude.{nat_lt, if◌then◌else◌}
use Rattle.lxr_layout.specs.declared.TheConstants.{FREE_BLOCK_COUNT, GRANULES_IN_LINE, LINES_IN_BLOCK, MOST_BLOCKS}
use Rattle.lxr_layout.specs.declared.limits.Limits.{Limits}
use Rattle.lxr_layout.specs.declared.runs.Run.{Run}
use Rattle.lxr_layout.specs.Spaces.{AreLimits}
use Rattle.lxr_image.specs.declared.space.Space.{Space}
use Rattle.lxr_image.specs.Opened.{IsOpened, first_run, opened_tables}
use Rattle.lxr_image.specs.Spaces.{IsSpace, tables_of}
use Rattle.lxr_blocks.specs.declared.states.BlockState.TheVariants.{Chosen, Free, World}
use Rattle.lxr_blocks.specs.Lines.{free_in}
use Rattle.lxr_blocks.specs.States.{IsOpenRun, state_in}
use Rattle.lxr_blocks.proofs.KeptLemmas.{free_line_is_told}
use Rattle.lxr_invariant.specs.Listed.{FreeBlocksAreListed, IsListed, IsListedWhole, ListsRun, whole_block}
use Rattle.lxr_invariant.proofs.OpeningLemmas.{free_at, uncounted_at}
use Rattle.lxr_placing.proofs.ListedLemmas.{AreLists, listed_by, same_run}

-- each line behind the world's three is free
pub free_line : (l : Limits) (b i : ℕ) → 3 ≤ LINES_IN_BLOCK * b + i → free_in (opened_tables l) b i ≡ true
free_line l b i behind = (free_line_is_told (opened_tables l) (LINES_IN_BLOCK * b + i)).1 (record {
  in_hand = refl;
  uncounted = λ k small. uncounted_at l (GRANULES_IN_LINE * (LINES_IN_BLOCK * b + i) + k) (λ e. omega arith) (λ e. omega arith) (λ e. omega arith);
})

module _ (l : Limits) (some : 1 ≤ l.blocks) (few : l.blocks ≤ MOST_BLOCKS) where
  first_open : IsOpenRun (opened_tables l) l.blocks first_run
  first_open = record {
    run = record { block = omega arith; within = lit≤ tt; free = λ i after before. free_line l 0 i (omega arith) };
    outside = λ e. let k : World ≡ Chosen = e in cc;
  }

  block_open : (b : ℕ) → 1 ≤ b → b < l.blocks → IsOpenRun (opened_tables l) l.blocks (whole_block b)
  block_open b low within = record {
    run = record { block = within; within = lit≤ tt; free = λ i after before. free_line l b i (omega arith) };
    outside = λ e. let k : Free ≡ Chosen = sym (free_at l b low) ∙ e in cc;
  }

  -- the listed block of a number
  pub number_of : (k : ℕ) → k < l.blocks - 1 → (opened_tables l).frees k ≡ k + 1
  number_of k within =
      let test : nat_lt (k + 1) l.blocks ≡ true = grind (arith, nat_tests) in
      ap (λ b. if b then (k + 1) else 0) test

  -- the one listed run
  only_run : (k : ℕ) (r : Run) → k < 1 → ListsRun (opened_tables l) l.blocks k r → first_run ≡ r
  only_run k r within lists =
      let first : k ≡ 0 = omega arith in
      same_run (opened_tables l) l.blocks first_run r few first_open lists.run (ap (opened_tables l).runs (sym first) ∙ lists.word)

  opened_lists : AreLists (opened_tables l) l.blocks
  opened_lists = record {
    no_runs_drawn = refl;
    no_blocks_drawn = refl;
    few_runs = let e : 1 ≤ 64 * l.blocks = omega arith in e;
    few_blocks = let e : l.blocks - 1 ≤ l.blocks = omega arith in e;
    runs = λ k within. let first : k ≡ 0 = omega (arith, within) in (first_run, record { word = ap (opened_tables l).runs first; some = lit≤ tt; run = first_open });
    blocks = λ k within.
        let low : k < l.blocks - 1 = within in
        let number = number_of k low in record {
          block = subst (λ z. z < l.blocks) (sym number) (omega arith);
          run = subst (λ z. IsOpenRun (opened_tables l) l.blocks (whole_block z)) (sym number) (block_open (k + 1) (omega arith) (omega arith));
        };
    runs_apart = λ j k q r less within lists too. let one : k < 1 = within in absurd (omega arith);
    blocks_apart = λ j k less within e.
        let low : k < l.blocks - 1 = within in
        let same : j + 1 ≡ k + 1 = sym (number_of j (omega arith)) ∙ e ∙ number_of k low in
        omega arith;
    all_apart = λ j k r in_runs in_frees lists e.
        let block : 0 ≡ r.block = ap (λ (q : Run). q.block) (only_run j r in_runs lists) in
        let number = number_of k in_frees in
        omega arith;
  }

opened_lists_well : (s : Space) (l : Limits) → IsSpace s → IsOpened s l → IsListed s
opened_lists_well s l space opened =
    let same : s.limits ≡ l = opened.limits in
    let limits : AreLimits l = subst AreLimits same space.limits in
    listed_by s
    (subst (λ (z : Limits). AreLists (tables_of s) z.blocks) (sym same) (subst (λ t. AreLists t l.blocks) (sym opened.tables) (opened_lists l limits.blocks.0 limits.blocks.1)))
    (opened.rest.0 ∙ sym opened.rest.1)

-- in an opened space each block but the world's is listed, and the world's isn't Free
opened_whole : (s : Space) (l : Limits) → IsSpace s → IsOpened s l → FreeBlocksAreListed s
opened_whole s l space opened n below free =
    let low : n < l.blocks = subst (λ (z : Limits). n < z.blocks) opened.limits below in
    let was : state_in (opened_tables l) n ≡ Free = subst (λ t. state_in t n ≡ Free) opened.tables free in
    subst (λ t. (k : ℕ) × (k < t.cursors FREE_BLOCK_COUNT) × (t.frees k ≡ n)) (sym opened.tables) (listed_at n low was)
  where
    listed_at : (m : ℕ) → m < l.blocks → state_in (opened_tables l) m ≡ Free → (k : ℕ) × (k < (opened_tables l).cursors FREE_BLOCK_COUNT) × ((opened_tables l).frees k ≡ m)
    listed_at zero low free = let k : World ≡ Free = free in cc
    listed_at (suc k) low free =
        let within : k < l.blocks - 1 = omega arith in
        let same : k + 1 ≡ suc k = omega arith in
        (k, within, (let test : nat_lt (k + 1) l.blocks ≡ true = grind (arith, nat_tests) in ap (λ b. if b then (k + 1) else 0) test) ∙ same)

pub opened_is_listed : (s : Space) (l : Limits) → IsSpace s → IsOpened s l → IsListedWhole s
opened_is_listed s l space opened = record { listed = opened_lists_well s l space opened; whole = opened_whole s l space opened }
