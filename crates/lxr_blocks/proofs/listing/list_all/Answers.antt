use Rattle.std.proofs.Common.{◌≡◌, ◌+◌, ◌-◌, ◌++◌, ◌∙◌, ap, arith, length, length-append, refl, subst, sym}
use Rattle.lxr_image.specs.Runs.{with_runs}
use Rattle.lxr_image.specs.Spaces.{Turns, tables_of}
use Rattle.lxr_image.proofs.SpaceLemmas.{still_space}
use Rattle.lxr_blocks.specs.Listing.{block_frees, block_runs, joined, listed_frees, listed_runs, numbers_from, with_frees, with_listed}
use Rattle.lxr_blocks.specs.States.{AreFreeBlocks, state_in}
use Rattle.lxr_blocks.specs.declared.states.BlockState.TheVariants.{Free}
use Rattle.lxr_blocks.proofs.ListingLemmas.{frees_over_free, frees_past_used, joined_more, joined_none, length_numbers, listed_frees_more, listed_runs_more, none_listed, runs_over_free}
use Rattle.lxr_blocks.proofs.listing.list_all.Goals as goal

pub loop-block-init : goal.loop-block-init
loop-block-init c =
    let t = tables_of c.args.space.now in
    record {
      space = c.requires;
      turns = none_listed c.args.space.now (joined (block_runs t) 0) (joined (block_frees t) 0) (joined_none (block_runs t)) (joined_none (block_frees t));
      runs = sym (ap length (joined_none (block_runs t)));
      frees = sym (ap length (joined_none (block_frees t)));
      room = omega arith;
      free_room = omega arith;
      within = omega arith;
    }

pub list_block-runs-requires-clause-first : goal.list_block-runs-requires-clause-first
list_block-runs-requires-clause-first c =
    let before = c.loop-block.invariant in let next = c.in-Some.ensures.next in
    let same : c.loop-block.space.limits.blocks ≡ c.args.space.now.limits.blocks = ap (λ z. z.limits.blocks) before.turns.rest in
    let few = before.room in let reached = next.reached in let end = next.within in
    omega (arith, few, reached, end, same)

pub loop-block-preserved : goal.loop-block-preserved
loop-block-preserved c =
    let s = c.args.space.now in let t = tables_of s in
    let before = c.loop-block.invariant in
    let at = c.loop-block.at in let block = c.in-Some.block in
    let next = c.in-Some.ensures.next in
    let listed = c.list_block-runs.ensures in let numbered = c.list_between-frees.ensures in
    let passed = subst (λ u. AreFreeBlocks u at block) before.turns.tables next.passed in
    let used = subst (λ u. state_in u block ≡ Free → ⊥) before.turns.tables next.used in
    let runs_over = runs_over_free t at block next.reached passed in
    let frees_over = frees_over_free t at block next.reached passed ∙ frees_past_used t block used in
    let same_runs = ap (λ u. block_runs u block) before.turns.tables in
    let runs_more : joined (block_runs t) at ++ block_runs (tables_of c.loop-block.space) block ≡ joined (block_runs t) (block + 1) =
    ap (λ xs. joined (block_runs t) at ++ xs) same_runs ∙ ap (λ xs. xs ++ block_runs t block) (sym runs_over) ∙ joined_more (block_runs t) block in
    let first = listed_runs_more s c.loop-block.space c.list_block-runs.new.space c.loop-block.runs (joined (block_runs t) at) (joined (block_frees t) at) (block_runs (tables_of c.loop-block.space) block) (joined (block_runs t) (block + 1))
    before.turns before.runs runs_more listed.runs in
    let many = length-append (joined (block_frees t) at) (numbers_from at (block - at)) in
    let len = length_numbers at (block - at) in
    let all = ap length frees_over in
    let frees = before.frees in let told = numbered.count in let free_room = before.free_room in let room = listed.room in
    let reached = next.reached in let end = next.within in
    let same : c.loop-block.space.limits.blocks ≡ s.limits.blocks = ap (λ z. z.limits.blocks) before.turns.rest in
    record {
      space = still_space c.list_block-runs.new.space c.list_between-frees.new.space (with_frees (tables_of c.list_block-runs.new.space) c.loop-block.frees (numbers_from at (block - at)))
          (still_space c.loop-block.space c.list_block-runs.new.space (with_runs (tables_of c.loop-block.space) c.loop-block.runs (block_runs (tables_of c.loop-block.space) block)) before.space listed.runs refl) numbered.frees refl;
      turns = listed_frees_more s c.list_block-runs.new.space c.list_between-frees.new.space c.loop-block.frees (joined (block_runs t) (block + 1)) (joined (block_frees t) at) (numbers_from at (block - at)) (joined (block_frees t) (block + 1))
          first before.frees frees_over numbered.frees;
      runs = listed.count ∙ (λ j. before.runs j + length (block_runs (tables_of c.loop-block.space) block))
          ∙ sym (length-append (joined (block_runs t) at) (block_runs (tables_of c.loop-block.space) block)) ∙ ap length runs_more;
      frees = omega (arith, many, len, all, frees, told);
      room = (let few = before.room in omega (arith, room, few, reached));
      free_room = omega (arith, told, free_room, reached);
      within = omega (arith, end, same);
    }

-- the blocks behind the last that isn't Free
end_is : (c : goal.After-list_between-frees-2) → c.loop-block.space.limits.blocks ≡ c.args.space.now.limits.blocks
end_is c = ap (λ z. z.limits.blocks) c.loop-block.invariant.turns.rest

last_free : (c : goal.After-list_between-frees-2) → AreFreeBlocks (tables_of c.args.space.now) c.loop-block.at c.args.space.now.limits.blocks
last_free c = subst (AreFreeBlocks (tables_of c.args.space.now) c.loop-block.at) (end_is c)
    (subst (λ u. AreFreeBlocks u c.loop-block.at c.loop-block.space.limits.blocks) c.loop-block.invariant.turns.tables c.in_default.ensures.none)

all_runs : (c : goal.After-list_between-frees-2) → joined (block_runs (tables_of c.args.space.now)) c.loop-block.at ≡ listed_runs (tables_of c.args.space.now) c.args.space.now.limits.blocks
all_runs c = sym (runs_over_free (tables_of c.args.space.now) c.loop-block.at c.args.space.now.limits.blocks c.loop-block.invariant.within (last_free c))

all_frees : (c : goal.After-list_between-frees-2)
    → joined (block_frees (tables_of c.args.space.now)) c.loop-block.at ++ numbers_from c.loop-block.at (c.loop-block.space.limits.blocks - c.loop-block.at) ≡ listed_frees (tables_of c.args.space.now) c.args.space.now.limits.blocks
all_frees c =
    ap (λ n. joined (block_frees (tables_of c.args.space.now)) c.loop-block.at ++ numbers_from c.loop-block.at (n - c.loop-block.at)) (end_is c)
    ∙ frees_over_free (tables_of c.args.space.now) c.loop-block.at c.args.space.now.limits.blocks c.loop-block.invariant.within (last_free c)

pub returns-clause-lists : goal.returns-clause-lists
returns-clause-lists c =
    let s = c.args.space.now in let t = tables_of s in
    let before = c.loop-block.invariant in
    let turns : Turns s c.loop-block.space (with_listed t (listed_runs t s.limits.blocks) (joined (block_frees t) c.loop-block.at)) =
    subst (λ xs. Turns s c.loop-block.space (with_listed t xs (joined (block_frees t) c.loop-block.at))) (all_runs c) before.turns in
    listed_frees_more s c.loop-block.space c.list_between-frees-2.new.space c.loop-block.frees (listed_runs t s.limits.blocks) (joined (block_frees t) c.loop-block.at)
    (numbers_from c.loop-block.at (c.loop-block.space.limits.blocks - c.loop-block.at)) (listed_frees t s.limits.blocks) turns before.frees (all_frees c) c.list_between-frees-2.ensures.frees

pub returns-clause-runs : goal.returns-clause-runs
returns-clause-runs c = c.loop-block.invariant.runs ∙ ap length (all_runs c)

pub returns-clause-frees : goal.returns-clause-frees
returns-clause-frees c =
    let t = tables_of c.args.space.now in
    let blocks = c.loop-block.space.limits.blocks in
    let many = length-append (joined (block_frees t) c.loop-block.at) (numbers_from c.loop-block.at (blocks - c.loop-block.at)) in
    let len = length_numbers c.loop-block.at (blocks - c.loop-block.at) in
    let all = ap length (all_frees c) in
    let count = c.loop-block.invariant.frees in let told = c.list_between-frees-2.ensures.count in
    omega (arith, many, len, all, count, told)
