-- What is reachable is neither dead nor swept, and what is left refers to no name that died with it or was swept: so a
-- list that has all that is reachable keeps it.
use Rattle.std.proofs.Common.{inl, inr, arith, List, IsTrue}
use Rattle.lxr_layout.specs.declared.Name.{Name}
use Rattle.lxr_graph.specs.Names.{has, without}
use Rattle.lxr_graph.specs.State.{State, world_name}
use Rattle.lxr_graph.proofs.NameSets.{not_both, without_parts, in_without}
use Rattle.lxr_model.specs.Reachable.{Reachable, the_world, held, referred, Refers, IsClosed}
use Rattle.lxr_model.specs.Dead.{dead}
use Rattle.lxr_model.proofs.ReachableLemmas.{reachable_within, dead_parts, dead_apart}
use Rattle.lxr_model.proofs.DecideLemmas.{find_referrer}
use Rattle.lxr_model_counting.specs.Draining.{DeathLeavesTheReachable, MayBeSwept, SweepLeavesTheReachable, GarbageKeepsItsReferences, LoweredCountsAreReferences}

-- a list without names that aren't reachable, and to which none of the others refers
closed_without : (s : State) (us gone : List Name) → IsClosed s (has us) → ((n : Name) → Reachable s n → IsTrue (has gone n) → ⊥)
    → ((u n : Name) → IsTrue (has (without us gone) u) → Refers s.graph u n → IsTrue (has gone n) → ⊥) → IsClosed s (has (without us gone))
closed_without s us gone closed unreachable unreferred =
    let stays : (n : Name) → Reachable s n → IsTrue (has (without us gone) n) = λ n r. in_without us gone n (reachable_within s (has us) closed n r) (unreachable n r) in
    record {
      world = stays world_name the_world;
      registers = λ n h. stays n (held h);
      references = λ u n k f. in_without us gone n (closed.references u n (without_parts us gone u k).0 f) (unreferred u n k f);
    }

pub death_leaves_reachable : DeathLeavesTheReachable
death_leaves_reachable s us stuck gone closed world are =
    closed_without s us gone closed
    (λ n r d. dead_apart s us stuck (reachable_within s (has us) closed) world n ((are n).0 d) r)
    (λ u n k f d. let at = without_parts us gone u k in not_both (has gone u) ((are u).1 ((dead_parts ((are n).0 d)).each u at.0 f)) at.1)

pub sweep_leaves : (s : State) (us swept : List Name) → IsClosed s (has us) → MayBeSwept s (without us swept) swept → IsClosed s (has (without us swept))
sweep_leaves s us swept closed may = closed_without s us swept closed (λ n r d. may.unreachable n d r) (λ u n k f d. not_both (has swept n) d (may.unreferred u n k f))

pub sweep_leaves_reachable : SweepLeavesTheReachable
sweep_leaves_reachable s us stuck swept gone closed world may are =
    death_leaves_reachable s (without us swept) stuck gone (sweep_leaves s us swept closed may) world are

-- ---- what has a reference

pub garbage_referred : GarbageKeepsItsReferences
garbage_referred s us stuck none o member unstuck unheld = elim (find_referrer s.graph o us) [
  | inl r ↦ (r.0, r.1, r.2, λ away there. away (referred there r.2))
  | inr unreferred ↦ absurd (none o (dead member unstuck unheld (λ u k f. absurd (unreferred u k f))))
]

pub lowered_counts : LoweredCountsAreReferences
lowered_counts s us stuck gone count pending is idle over o k unstuck =
    let at = without_parts us gone o k in
    let exact = is.exact o at.0 unstuck in
    let waits = idle o in
    (omega (arith, exact, waits), λ zero. not_both (has gone o) (over o at.0 unstuck zero) at.1)
