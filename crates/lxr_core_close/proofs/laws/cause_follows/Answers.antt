use Rattle.lxr_core_close.proofs.CauseLemmas.{cause_follows}
use Rattle.lxr_core_close.proofs.laws.cause_follows.Goals as goal

pub returns : goal.returns
returns c = cause_follows
