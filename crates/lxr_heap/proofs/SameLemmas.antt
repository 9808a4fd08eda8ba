-- Histories that lead to the same have the same heaps, whatever is told in these of what is left.
use Rattle.std.proofs.Common.{◌≡◌, ℕ, ◌*◌, ◌≤◌, sym, ap, subst, ◌∙◌, List, length}
use Rattle.std.specs.Prelude.{◌↔◌}
use Rattle.lxr_layout.specs.declared.Name.{Name}
use Rattle.lxr_layout.specs.declared.TheConstants.{GRANULES_IN_BLOCK}
use Rattle.lxr_graph.specs.declared.report.Count.{Count}
use Rattle.lxr_graph.specs.declared.report.Report.{Report}
use Rattle.lxr_image.specs.declared.space.Space.{Space}
use Rattle.lxr_image.specs.Spaces.{tables_of}
use Rattle.lxr_model.specs.Moments.{Moment}
use Rattle.lxr_model_counting.specs.Following.{FollowsPause}
use Rattle.lxr_invariant.specs.AbstractState.{AbstractState}
use Rattle.lxr_invariant.specs.Lines.{OutsAreTaken}
use Rattle.lxr_invariant.specs.Quiescent.{IsAtRest}
use Rattle.lxr_pause_queue.specs.Entries.{with_told}
use Rattle.lxr_one_pause.specs.Settling.{survived}
use Rattle.lxr_one_pause.specs.Telling.{with_retold}
use Rattle.lxr_one_pause.proofs.TellingLemmas.{safepoint_retold}
use Rattle.lxr_large_model.specs.Full.{IsFresh}
use Rattle.lxr_large_model.specs.History.{LargeItem, large_moment, large_state}
use Rattle.lxr_large_model.specs.Pauses.{IsLegalLarge}
use Rattle.lxr_heap.specs.declared.heap.Heap.{Heap}
use Rattle.lxr_heap.specs.Holding.{AreGone, CountsObjects, IsCollected, IsHeapOf, StandAt, abstract_of, last_report, terms_of}
use Rattle.lxr_heap.proofs.HeapLemmas.{StandsFor, stands}

-- what one history leads to another leads to
pub record LeadsTo (h k : List LargeItem) : Type 0 where
  pub moment : large_moment h ≡ large_moment k
  pub state : large_state h ≡ large_state k
  pub reported : last_report h ≡ last_report k
  pub fresh : IsFresh k ↔ IsFresh h

-- whatever is told, a space at rest is one of the same state
pub rests_retold : (s : Space) (g : AbstractState) (by : Report) → IsAtRest s g → IsAtRest (with_retold s by) g
rests_retold s g by rests = record {
  safepoint = safepoint_retold s g by rests.safepoint;
  undecremented = rests.undecremented;
  lines = rests.lines;
  outs = rests.outs;
  states = rests.states;
}

-- and so are the objects of a heap, after another history that leads there
pub stands_retold : (x : Heap) (h : List LargeItem) (by : Report) (k : List LargeItem) → LeadsTo h k → (at : Name → ℕ) → StandAt x h at → StandAt (record x { space = with_retold x.space by }) k at
stands_retold x h by k leads at stands = (
  subst (IsAtRest (with_retold x.space by)) (λ i. record { moment = survived (leads.moment i) x.gone.items; at = at; reported = leads.reported i }) (rests_retold x.space (abstract_of x h at) by stands.0),
  subst (λ (m : Moment). OutsAreTaken (tables_of x.space) m.state.graph at m.made) leads.moment stands.1,
)

-- so a heap is also that of another history that leads there, whatever is told
pub retold_heap : (x : Heap) (h : List LargeItem) (is : IsHeapOf x h) (by : Report) (k : List LargeItem) → LeadsTo h k → IsLegalLarge (terms_of x) k → IsHeapOf (record x { space = with_retold x.space by }) k
retold_heap x h is by k leads legal =
    let now = subst (λ m. StandsFor x.made x.bodies m (large_state k)) leads.moment (subst (StandsFor x.made x.bodies (large_moment h)) leads.state (stands x h is)) in
    record {
      legal = legal;
      at = is.at;
      stands = stands_retold x h by k leads is.at is.stands;
      gone = subst (λ m. AreGone m x.gone.items) leads.moment is.gone;
      room = is.room;
      follows = subst FollowsPause leads.moment is.follows;
      few = subst (λ (m : Moment). length m.unreclaimed ≤ GRANULES_IN_BLOCK * x.space.limits.blocks) leads.moment is.few;
      untraced = ap (λ (m : Moment). m.trace) (sym leads.moment) ∙ is.untraced;
      limits = is.limits;
      log = is.log;
      tally = is.tally;
      state = now.state;
      world = now.world;
      next = now.next;
      counts = subst (CountsObjects x.left x.made_before x.made) leads.moment is.counts;
      names = now.names;
      bodies = now.bodies;
      apart = is.apart;
      fresh = (λ f. leads.fresh.1 (is.fresh.0 f), λ f. is.fresh.1 (leads.fresh.0 f));
      collected = λ f. subst IsCollected leads.moment (is.collected (leads.fresh.0 f));
      drained = λ f. is.drained (leads.fresh.0 f);
    }

pub same_heap : (x : Heap) (h : List LargeItem) (is : IsHeapOf x h) (told : List Count) (k : List LargeItem) → LeadsTo h k → IsLegalLarge (terms_of x) k → IsHeapOf (record x { space = with_told x.space told }) k
same_heap x h is told k leads legal = retold_heap x h is (with_told x.space told).report k leads legal
