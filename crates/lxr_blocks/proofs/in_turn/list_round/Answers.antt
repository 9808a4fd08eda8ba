use Rattle.std.proofs.Common.{◌≡◌, ℕ, ◌+◌, ◌<◌, ◌≤◌, [], ◌++◌, ◌∙◌, ap, arith, length, length-append, refl, subst, sym}
use Rattle.lxr_image.specs.Runs.{with_runs}
use Rattle.lxr_image.specs.Spaces.{Turns, tables_of}
use Rattle.lxr_image.proofs.SpaceLemmas.{still_space}
use Rattle.lxr_blocks.specs.InTurn.{round_from, runs_from}
use Rattle.lxr_blocks.specs.Listing.{block_runs}
use Rattle.lxr_blocks.proofs.InTurnLemmas.{runs_more, runs_over_none}
use Rattle.lxr_blocks.proofs.ListingLemmas.{joined_more, joined_none, runs_none}
use Rattle.lxr_blocks.proofs.in_turn.list_round.Goals as goal

pub loop-passed-init : goal.loop-passed-init
loop-passed-init c =
    let s = c.args.space.now in let t = tables_of s in
    let none = joined_none (λ i. block_runs t (round_from s.limits.blocks c.args.from i)) in
    record {
      space = c.requires.space;
      turns = runs_none s 0 (runs_from t s.limits.blocks c.args.from 0) none;
      runs = sym (ap length none);
      room = omega arith;
      few = omega arith;
      within = omega arith;
    }

pub loop-passed-preserved-then-skipped-eq0 : goal.loop-passed-preserved-then-skipped-eq0
loop-passed-preserved-then-skipped-eq0 c =
    let s = c.args.space.now in let t = tables_of s in
    let before = c.loop-passed.invariant in
    let block = c.block_after-block.result in
    let listed = c.list_block-runs.ensures in
    let same : block_runs (tables_of c.loop-passed.space) block ≡ block_runs t (round_from s.limits.blocks c.args.from c.loop-passed.passed) = (λ j. block_runs (before.turns.tables j) (c.block_after-block.ensures.around j)) in
    let more : runs_from t s.limits.blocks c.args.from c.loop-passed.passed ++ block_runs (tables_of c.loop-passed.space) block ≡ runs_from t s.limits.blocks c.args.from (c.loop-passed.passed + 1) =
    ap (λ xs. runs_from t s.limits.blocks c.args.from c.loop-passed.passed ++ xs) same ∙ joined_more (λ i. block_runs t (round_from s.limits.blocks c.args.from i)) c.loop-passed.passed in
    let room = before.room in let told = listed.room in
    record {
      space = still_space c.loop-passed.space c.list_block-runs.new.space (with_runs (tables_of c.loop-passed.space) c.loop-passed.runs (block_runs (tables_of c.loop-passed.space) block)) before.space listed.runs refl;
      turns = runs_more s c.loop-passed.space c.list_block-runs.new.space c.loop-passed.runs (runs_from t s.limits.blocks c.args.from c.loop-passed.passed) (block_runs (tables_of c.loop-passed.space) block)
          (runs_from t s.limits.blocks c.args.from (c.loop-passed.passed + 1)) before.turns before.runs more listed.runs;
      runs = listed.count ∙ (λ j. before.runs j + length (block_runs (tables_of c.loop-passed.space) block))
          ∙ sym (length-append (runs_from t s.limits.blocks c.args.from c.loop-passed.passed) (block_runs (tables_of c.loop-passed.space) block)) ∙ ap length more;
      room = omega (arith, room, told);
      few = omega (arith, told);
      within = omega arith;
    }

pub loop-passed-preserved : goal.loop-passed-preserved
loop-passed-preserved c =
    let s = c.args.space.now in let t = tables_of s in
    let before = c.loop-passed.invariant in
    let ahead = c.without_runs-skipped.ensures in let many = c.without_runs-skipped.result in
    let same : c.loop-passed.space.limits.blocks ≡ s.limits.blocks = ap (λ z. z.limits.blocks) before.turns.rest in
    let few = ahead.few in let end = ahead.within in let within = before.within in let room = before.room in
    let none : (b : ℕ) → c.block_after-block.result ≤ b → b < c.block_after-block.result + many → block_runs t b ≡ [] = subst (λ u. (b : ℕ) → c.block_after-block.result ≤ b → b < c.block_after-block.result + many → block_runs u b ≡ []) before.turns.tables ahead.none in
    let over : runs_from t s.limits.blocks c.args.from (c.loop-passed.passed + many) ≡ runs_from t s.limits.blocks c.args.from c.loop-passed.passed =
    runs_over_none t s.limits.blocks c.args.from c.loop-passed.passed many c.block_after-block.result c.requires.from (omega (arith, few, within)) c.block_after-block.ensures.around (omega (arith, end, same)) none in
    record {
      space = before.space;
      turns = subst (λ xs. Turns s c.loop-passed.space (with_runs t 0 xs)) (sym over) before.turns;
      runs = before.runs ∙ ap length (sym over);
      room = omega (arith, room);
      few = before.few;
      within = omega (arith, few, within);
    }
