use Rattle.lxr_blocks.proofs.RoundLemmas.{none_left_out}
use Rattle.lxr_blocks.proofs.in_turn.no_run_is_left_out.Goals as goal

pub returns : goal.returns
returns c = none_left_out
