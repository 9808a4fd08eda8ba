use Rattle.std.proofs.Common.{◌^◌, ◌<◌, refl, rules}
use Rattle.lxr_image.specs.Spaces.{tables_of}
use Rattle.lxr_blocks.proofs.MaskLemmas.{lowest_first, lowest_fits}
use Rattle.lxr_blocks.proofs.placing.fit_in.Goals as goal

pub returns-clause-run : goal.returns-clause-run
returns-clause-run c =
    let fits : c.in_ok-free.free < 2 ^ 128 = search rules in (
      lowest_fits (tables_of c.args.space.now) c.args.space.now.limits.blocks c.args.block c.in_ok-free.free c.run_starts-starts.result c.args.lines c.requires.block fits c.run_starts-starts.type_inv
          c.requires.lines.0 c.in_ok-free.ensures.free c.run_starts-starts.ensures c.if-starts-eq0.false,
      refl,
      refl,
    )

pub returns-clause-first : goal.returns-clause-first
returns-clause-first c =
    lowest_first (tables_of c.args.space.now) c.args.space.now.limits.blocks c.args.block c.in_ok-free.free c.run_starts-starts.result c.args.lines c.run_starts-starts.type_inv c.in_ok-free.ensures.free c.run_starts-starts.ensures c.if-starts-eq0.false
