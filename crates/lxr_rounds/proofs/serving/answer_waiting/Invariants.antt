use Rattle.std.proofs.Common.{◌≡◌, ℕ, ◌+◌, false, List, cond}
use Rattle.lxr_graph.specs.declared.report.Kind.{Kind}
use Rattle.lxr_graph.specs.History.{Item}
use Rattle.lxr_invariant.specs.AbstractState.{AbstractState}
use Rattle.lxr_core.specs.Actors.{mutators_in}
use Rattle.lxr_one_pause.specs.Telling.{TellsWanted}
use Rattle.lxr_serve.specs.Serving.{KeepsHelpers}
use Rattle.lxr_rounds_invariant.specs.LoopInvariant.{IsServing, Task, left_of, pace_of}
use Rattle.lxr_rounds.specs.Observing.{Tells}
use Rattle.lxr_rounds.specs.Serving.{BeginsServing}
use Rattle.lxr_rounds.proofs.ServeLemmas.{AnswersOn}
use Rattle.lxr_rounds.proofs.serving.answer_waiting.Given as goal

abbrev pub invariant-loop-space : goal.invariant-loop-space
invariant-loop-space g l =
    record {
      serving : (task : Task) → pace_of task.plan ≡ l.fn.pace → (h : List Item) (m : AbstractState) → BeginsServing task l.fn.space (g.W.Watch.seen l.fn.watch) l.fn.collected (mutators_in l.fn.actors) h m
          → (h' : List Item) × (m' : AbstractState)
          × IsServing task l.space (g.W.Watch.seen l.watch) (mutators_in l.fn.actors) l.fn.space.pauses l.collected (mutators_in l.actors) 0 false h' m'
          × AnswersOn l.fn.pace l.fn.collected (mutators_in l.fn.actors) l.fn.space h l.collected (mutators_in l.actors) l.space h'
          × Tells g.O.Observer.began g.O.Observer.served g.O.Observer.told l.fn.observer l.fn.output h l.observer l.output h';
      room : g.O.Observer.has_room l.observer l.space.pauses;
      helpers : KeepsHelpers l.fn.actors l.actors;
      wants : (kind : Kind) → g.O.Observer.wants l.observer kind ≡ g.O.Observer.wants l.fn.observer kind;
      listed : TellsWanted (g.O.Observer.wants l.fn.observer l.space.report.kind) l.space.report;
    }

abbrev pub decreases-loop-space : goal.decreases-loop-space
decreases-loop-space g l = left_of (mutators_in l.actors) + cond {A = ℕ} l.collected 0 1
