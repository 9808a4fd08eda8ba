use Rattle.std.proofs.Common.{◌∙◌}
use Rattle.lxr_image.specs.Spaces.{tables_of}
use Rattle.lxr_blocks.proofs.LineLemmas.{open_of}
use Rattle.lxr_blocks.proofs.states.longest_outside.Goals as goal

pub returns-in_default : goal.returns-in_default
returns-in_default c =
    let reached = c.longest_in.ensures.reached in
    record {
      bound = λ q is same. c.longest_in.ensures.bound q is.run same;
      reached = λ _. (reached.0, open_of (tables_of c.args.space.now) c.args.space.now.limits.blocks c.args.block reached.0 (λ chosen. c.in_default.not-Chosen (c.state.ensures ∙ chosen)) reached.1 reached.2, reached.3);
    }
