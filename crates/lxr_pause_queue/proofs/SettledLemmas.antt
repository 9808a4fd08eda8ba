-- Once increments are done the moment follows the pause that they belong to, and a raised count is the references now and
-- what is to be taken away.
use Rattle.std.proofs.Common.{◌≡◌, ◌+◌, ap, ◌∙◌, IsTrue, List}
use Rattle.lxr_layout.specs.declared.Name.{Name}
use Rattle.lxr_graph.specs.Names.{has}
use Rattle.lxr_model.proofs.ReachableLemmas.{promoted_made}
use Rattle.lxr_model.specs.Moments.{Moment}
use Rattle.lxr_model.specs.References.{references}
use Rattle.lxr_model.specs.Reports.{raised}
use Rattle.lxr_model_counting.specs.Balance.{lowered}
use Rattle.lxr_model_counting.specs.Following.{FollowsPause}
use Rattle.lxr_model_counting.proofs.BalanceLemmas.{found_references, promoted_balance}
use Rattle.lxr_model_counting.proofs.FollowingLemmas.{promoted_follow}
use Rattle.lxr_invariant.specs.Raised.{AreRaised, count_raised, settled, with_promoted}

pub settled_follows : (m : Moment) (promoted stuck : List Name) → FollowsPause m → AreRaised m promoted stuck → FollowsPause (settled m promoted stuck)
settled_follows m promoted stuck follows are = promoted_follow m promoted stuck follows are.promoted_are (λ n h. ((are.stuck_are n).0 h).member)

pub raised_balance : (m : Moment) (promoted stuck : List Name) (o : Name) → FollowsPause m → AreRaised m promoted stuck
    → count_raised m promoted o ≡ references m.state (with_promoted m promoted) o + lowered m o
raised_balance m promoted stuck o follows are =
    let made : (n : Name) → IsTrue (has promoted n) → IsTrue (has m.made n) = λ n h. promoted_made ((are.promoted_are n).0 h) in
    ap (λ x. x + raised m promoted o) (found_references m promoted o follows made) ∙ promoted_balance m promoted o follows are.promoted_once made
