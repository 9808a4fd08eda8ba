use Rattle.std.proofs.Common.{◌≡◌, ◌+◌, ◌∙◌, arith, subst, sym}
use Rattle.std.specs.Prelude.{max}
use Rattle.lxr_blocks.specs.Masks.{AreEdges}
use Rattle.lxr_blocks.proofs.LineLemmas.{HasFree, NoneLonger, greater_is, has_longer, has_none, longer_end, longer_more, longer_none}
use Rattle.lxr_image.specs.Runs.{bits_of}
use Rattle.lxr_blocks.proofs.MaskLemmas.{longest_bits, mask_of_bits}
use Rattle.lxr_blocks.proofs.states.longest_of.Goals as goal

pub loop-run-init : goal.loop-run-init
loop-run-init c = record {
  within = omega arith;
  edges = c.edges_of-edges.ensures (bits_of c.args.free) (mask_of_bits c.args.free);
  bound = longer_none (bits_of c.args.free) 0;
  reached = has_none (bits_of c.args.free);
}

pub loop-run-preserved : goal.loop-run-preserved
loop-run-preserved c =
    let free = bits_of c.args.free in
    let run = c.in-Some.run' in
    let found = c.in-Some.ensures.run free c.loop-run.line c.loop-run.invariant.edges in
    let next = found.0 in
    let end : c.from.result + c.from-in-Some.result ≡ run.line + run.lines = λ j. c.from.ensures j + c.from-in-Some.ensures j in
    let best : c.max-best.result ≡ max c.loop-run.best run.lines = c.max-best.ensures ∙ greater_is c.loop-run.best run.lines in
    let within = next.ends.within in
    record {
      within = omega arith;
      edges = subst (AreEdges c.in-Some.behind free) (sym end) found.1;
      bound = subst (λ e. NoneLonger free e c.max-best.result) (sym end)
          (subst (NoneLonger free (run.line + run.lines)) (sym best) (longer_more free 0 c.loop-run.line c.loop-run.best run next c.loop-run.invariant.bound));
      reached = subst (HasFree free) (sym best) (has_longer free 0 c.loop-run.line c.loop-run.best run next c.loop-run.invariant.reached);
    }

pub returns : goal.returns
returns c =
    let free = bits_of c.args.free in
    let is = c.loop-run.invariant in
    longest_bits c.args.free c.loop-run.best (longer_end free c.loop-run.line c.loop-run.best (c.in_default.ensures.none free c.loop-run.line is.within is.edges) is.bound) is.reached
