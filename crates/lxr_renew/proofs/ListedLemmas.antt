-- Runs and free blocks are listed in tables that a renewal leaves.
use Rattle.std.proofs.Common.{◌≡◌, ◌≢◌, ℕ, ◌*◌, ◌<◌, ◌≤◌, sym, ap, subst, ◌∙◌, List}
use Rattle.lxr_layout.specs.declared.Name.{Name}
use Rattle.lxr_layout.specs.declared.TheConstants.{FREE_BLOCK_COUNT, FREE_BLOCK_CURSOR, RUN_COUNT, RUN_CURSOR}
use Rattle.lxr_layout.specs.declared.runs.Run.{Run}
use Rattle.lxr_blocks.specs.declared.states.BlockState.TheVariants.{Free}
use Rattle.lxr_blocks.specs.States.{IsOpenRun, state_in}
use Rattle.lxr_image.specs.declared.space.Space.{Space}
use Rattle.lxr_image.specs.Tables.{Tables}
use Rattle.lxr_image.specs.Spaces.{tables_of}
use Rattle.lxr_invariant.specs.AbstractState.{AbstractState}
use Rattle.lxr_invariant.specs.Listed.{AreApartRuns, IsListedWhole, ListsBlock, ListsRun}
use Rattle.lxr_renew.specs.Renewing.{Renews}
use Rattle.lxr_renew.proofs.ImageLemmas.{with_heads}

-- what is listed in tables for so many blocks
record ListedIn (t : Tables) (blocks : ℕ) : Type 0 where
  no_runs_drawn : t.cursors RUN_CURSOR ≡ 0
  no_blocks_drawn : t.cursors FREE_BLOCK_CURSOR ≡ 0
  few_runs : t.cursors RUN_COUNT ≤ 64 * blocks
  few_blocks : t.cursors FREE_BLOCK_COUNT ≤ blocks
  runs : (k : ℕ) → k < t.cursors RUN_COUNT → (r : Run) × ListsRun t blocks k r
  blocks_listed : (k : ℕ) → k < t.cursors FREE_BLOCK_COUNT → ListsBlock t blocks k
  runs_apart : (j k : ℕ) (q r : Run) → j < k → k < t.cursors RUN_COUNT → ListsRun t blocks j q → ListsRun t blocks k r → AreApartRuns q r
  blocks_apart : (j k : ℕ) → j < k → k < t.cursors FREE_BLOCK_COUNT → t.frees j ≢ t.frees k
  all_apart : (j k : ℕ) (r : Run) → j < t.cursors RUN_COUNT → k < t.cursors FREE_BLOCK_COUNT → ListsRun t blocks j r → r.block ≢ t.frees k
  whole : (n : ℕ) → n < blocks → state_in t n ≡ Free → (k : ℕ) × (k < t.cursors FREE_BLOCK_COUNT) × (t.frees k ≡ n)

listed_in : (s : Space) → IsListedWhole s → ListedIn (tables_of s) s.limits.blocks
listed_in s is =
    let l = is.listed in
    record {
      no_runs_drawn = l.no_runs_drawn;
      no_blocks_drawn = l.no_blocks_drawn;
      few_runs = l.few_runs;
      few_blocks = l.few_blocks;
      runs = l.runs;
      blocks_listed = l.blocks;
      runs_apart = l.runs_apart;
      blocks_apart = l.blocks_apart;
      all_apart = l.all_apart;
      whole = is.whole;
    }

in_listed : (s : Space) → ListedIn (tables_of s) s.limits.blocks → s.rest_next ≡ s.rest_end → IsListedWhole s
in_listed s l none = record {
  listed = record {
    no_runs_drawn = l.no_runs_drawn;
    no_blocks_drawn = l.no_blocks_drawn;
    few_runs = l.few_runs;
    few_blocks = l.few_blocks;
    runs = l.runs;
    blocks = l.blocks_listed;
    runs_apart = l.runs_apart;
    blocks_apart = l.blocks_apart;
    all_apart = l.all_apart;
    no_rest = none;
  };
  whole = l.whole;
}

-- runs that are free outside Chosen blocks are so whatever the heap has
open_still : (t : Tables) (heap : ℕ → ℕ) (blocks : ℕ) (r : Run) → IsOpenRun t blocks r → IsOpenRun (with_heads t heap) blocks r
open_still t heap blocks r is = record { run = record { block = is.run.block; within = is.run.within; free = is.run.free }; outside = is.outside }

open_was : (t : Tables) (heap : ℕ → ℕ) (blocks : ℕ) (r : Run) → IsOpenRun (with_heads t heap) blocks r → IsOpenRun t blocks r
open_was t heap blocks r is = record { run = record { block = is.run.block; within = is.run.within; free = is.run.free }; outside = is.outside }

run_still : (t : Tables) (heap : ℕ → ℕ) (blocks k : ℕ) (r : Run) → ListsRun t blocks k r → ListsRun (with_heads t heap) blocks k r
run_still t heap blocks k r is = record { word = is.word; some = is.some; run = open_still t heap blocks r is.run }

run_was : (t : Tables) (heap : ℕ → ℕ) (blocks k : ℕ) (r : Run) → ListsRun (with_heads t heap) blocks k r → ListsRun t blocks k r
run_was t heap blocks k r is = record { word = is.word; some = is.some; run = open_was t heap blocks r is.run }

listed_still : (t : Tables) (heap : ℕ → ℕ) (blocks : ℕ) → ListedIn t blocks → ListedIn (with_heads t heap) blocks
listed_still t heap blocks l = record {
  no_runs_drawn = l.no_runs_drawn;
  no_blocks_drawn = l.no_blocks_drawn;
  few_runs = l.few_runs;
  few_blocks = l.few_blocks;
  runs = λ k within. let x = l.runs k within in (x.0, run_still t heap blocks k x.0 x.1);
  blocks_listed = λ k within. let x = l.blocks_listed k within in record { block = x.block; run = open_still t heap blocks _ x.run };
  runs_apart = λ j k q r less within is_q is_r. l.runs_apart j k q r less within (run_was t heap blocks j q is_q) (run_was t heap blocks k r is_r);
  blocks_apart = l.blocks_apart;
  all_apart = λ j k r within within' is. l.all_apart j k r within within' (run_was t heap blocks j r is);
  whole = l.whole;
}

-- what is listed stays so
pub renews_listed : (before after : Space) (g : AbstractState) (ns : List Name) → Renews before after g ns → IsListedWhole before → IsListedWhole after
renews_listed before after g ns r is =
    let blocks = ap (λ (s : Space). s.limits.blocks) r.space in
    let rest = ap (λ (s : Space). s.rest_next) r.space ∙ is.listed.no_rest ∙ sym (ap (λ (s : Space). s.rest_end) r.space) in
    in_listed after
    (subst (λ b. ListedIn (tables_of after) b) (sym blocks)
    (subst (λ t. ListedIn t before.limits.blocks) (sym r.tables) (listed_still (tables_of before) (tables_of after).heap before.limits.blocks (listed_in before is))))
    rest
