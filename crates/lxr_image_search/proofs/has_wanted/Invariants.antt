use Rattle.std.proofs.Common.{◌≡◌, ◌*◌}
use Rattle.lxr_layout.specs.declared.TheConstants.{GRANULES_IN_BLOCK}
use Rattle.lxr_image.specs.Spaces.{tables_of}
use Rattle.lxr_image_search.specs.Search.{NoneWanted}
use Rattle.lxr_image_search.proofs.has_wanted.Given as goal

abbrev pub invariant-loop-at : goal.invariant-loop-at
invariant-loop-at l = l.seen ≡ 0 → NoneWanted (tables_of l.space) l.wanted (GRANULES_IN_BLOCK * l.block) (64 * l.at)
