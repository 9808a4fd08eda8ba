use Rattle.std.proofs.Common.{◌+◌, arith, inl, inr}
use Rattle.std.proofs.lemmas.Bool.Decides.{eqb_tells, leb_tells}
use Rattle.lxr_image.specs.Spaces.{tables_of}
use Rattle.lxr_blocks.proofs.KnownLemmas.{run_shorter}
use Rattle.lxr_blocks.proofs.placing.fit_among.Goals as goal

pub loop-block-init : goal.loop-block-init
loop-block-init c =
    let s = c.args.space.now in
    let next = c.next_long-block.ensures in
    record {
      reached = next.range.0;
      within = next.range.1;
      none = λ q run from before. run_shorter (tables_of s) s.limits.blocks c.args.lines q c.requires.lines.0 (next.passed q.block from before) run.run;
    }

pub loop-block-preserved : goal.loop-block-preserved
loop-block-preserved c =
    let s = c.args.space.now in
    let is = c.loop-block.invariant in
    let next = c.next_long-block-in-loop-block.ensures in
    let reached = is.reached in let on = next.range.0 in
    record {
      reached = omega (arith, reached, on);
      within = next.range.1;
      none = λ q run from before. elim (leb_tells (c.loop-block.block + 1) q.block) [
        | inl behind ↦ run_shorter (tables_of s) s.limits.blocks c.args.lines q c.requires.lines.0 (next.passed q.block behind.1 before) run.run
        | inr up_to ↦ elim (eqb_tells q.block c.loop-block.block) [
          | inl here ↦ c.in_default.ensures.none q run here.1
          | inr other ↦ let ne = other.1 in let low = up_to.1 in is.none q run from (omega (arith, ne, low))
        ]
      ];
    }
