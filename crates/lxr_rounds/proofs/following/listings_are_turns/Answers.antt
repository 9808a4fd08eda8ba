use Rattle.lxr_rounds.proofs.TurnLemmas.{listings_are_turns as turns}
use Rattle.lxr_rounds.proofs.following.listings_are_turns.Goals as goal

pub returns : goal.returns
returns c = turns
