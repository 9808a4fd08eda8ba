use Rattle.lxr_evac_blocks.proofs.ReleaseLemmas.{releases_leave_none}
use Rattle.lxr_evac_blocks.proofs.laws.released_are_unchosen.Goals as goal

pub returns : goal.returns
returns c = releases_leave_none
