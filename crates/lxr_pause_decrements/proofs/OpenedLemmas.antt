-- An opened space holds the opening moment, and nothing is reported as dead.
use Rattle.std.proofs.Common.{◌*◌, ap, arith, length}
use Rattle.lxr_layout.specs.declared.TheConstants.{GRANULES_IN_BLOCK}
use Rattle.lxr_image.specs.Spaces.{tables_of}
use Rattle.lxr_image.proofs.OpeningLemmas.{opened_is_image, opened_is_space}
use Rattle.lxr_invariant.proofs.EntryLemmas.{passing_few}
use Rattle.lxr_invariant.proofs.OpeningLemmas.{opening_holds}
use Rattle.lxr_pause_decrements.specs.Opened.{OpenedCanFinish}

pub opened_can_finish : OpenedCanFinish
opened_can_finish s l allowed is =
    let few = passing_few (tables_of s).starts (GRANULES_IN_BLOCK * s.limits.blocks) in
    let dead = ap length is.report.dead in
    let room = is.room.report.dead in
    record {
      holds = opening_holds s l (opened_is_space s l allowed is) is (opened_is_image s l allowed is);
      handled = tt;
      room = omega (arith, few, dead, room);
    }
