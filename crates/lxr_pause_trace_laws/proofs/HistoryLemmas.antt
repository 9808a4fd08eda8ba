-- A trace that runs after a legal history began over objects that are all still in the graph: no item takes one away. And the state follows
-- its beginning.
use Rattle.std.proofs.Common.{◌≡◌, subst, List, [], ◌∷◌}
use Rattle.std.specs.Prelude.{Some}
use Rattle.lxr_graph.specs.History.{Call, Item, Pause, Renew}
use Rattle.lxr_model.specs.Legal.{IsLegalSoFar}
use Rattle.lxr_model.specs.Moments.{Trace, moment}
use Rattle.lxr_model.specs.Terms.{Terms}
use Rattle.lxr_model.proofs.HistoryLemmas.{RunningGood, TraceGood, good_history}
use Rattle.lxr_invariant.proofs.InsideLemmas.{follows_trace}
use Rattle.lxr_pause_trace_laws.specs.Laws.{HistoryKeepsObjects, InsideFollows, KeepsObjectsOf}

module _ (terms : Terms) (trace : Trace) where
  good_trace : (h : List Item) → IsLegalSoFar terms h → (moment terms.threads h).trace ≡ Some trace → TraceGood trace (moment terms.threads h).state
  good_trace h legal runs = subst (λ o. RunningGood o (moment terms.threads h).state) runs (good_history terms h legal).running

  -- the last pause changed no state
  keeps : (h : List Item) → IsLegalSoFar terms h → (moment terms.threads h).trace ≡ Some trace → KeepsObjectsOf trace (moment terms.threads h)
  keeps [] legal runs = absurd (cc)
  keeps (Renew ns ∷ h) legal runs = absurd (cc)
  keeps (Call t o r ∷ h) legal runs = keeps h legal.0 runs
  keeps (Pause report ∷ h) legal runs = (good_trace (Pause report ∷ h) legal runs).grows

pub history_keeps : HistoryKeepsObjects
history_keeps terms h trace legal runs = (keeps terms trace h legal runs, (good_trace terms trace h legal runs).kept)

pub follows : InsideFollows
follows l t entries g trace is = follows_trace t g.moment g.at trace is.inside is.snapshot is.reachable
