use Rattle.std.proofs.Common.{◌∙◌}
use Rattle.std.proofs.lemmas.Option.{IfSome_then}
use Rattle.lxr_image.specs.Spaces.{tables_of}
use Rattle.lxr_blocks.proofs.LineLemmas.{none_open, open_of}
use Rattle.lxr_blocks.proofs.placing.fit_outside.Goals as goal

pub returns-in_default : goal.returns-in_default
returns-in_default c = record {
  none = none_open c.fit_in.result (tables_of c.args.space.now) c.args.space.now.limits.blocks c.args.block c.args.lines c.fit_in.ensures.none;
  run = IfSome_then c.fit_in.result c.fit_in.ensures.run (λ fit is. (
    open_of (tables_of c.args.space.now) c.args.space.now.limits.blocks c.args.block fit.run (λ chosen. c.in_default.not-Chosen (c.state.ensures ∙ chosen)) is.0 is.1,
    is.1,
    is.2,
  ));
  first = IfSome_then c.fit_in.result c.fit_in.ensures.first (λ fit first q is. first q is.run);
  free = c.fit_in.ensures.free;
}
