-- A pause of any kind may trace as its kind asks, and then counting and tracing are done.
use Rattle.std.proofs.Common.{◌≡◌, ℕ, ◌^◌, ◌<◌, refl, sym, ap, subst, List, []}
use Rattle.std.specs.Prelude.{Some, None}
use Rattle.lxr_layout.specs.declared.Name.{Name}
use Rattle.lxr_graph.specs.declared.report.Kind.{Kind}
use Rattle.lxr_graph.specs.declared.report.Kind.TheVariants as kind
use Rattle.lxr_graph.specs.History.{report_of}
use Rattle.lxr_image.specs.declared.space.Space.{Space}
use Rattle.lxr_image.specs.declared.space.Tally.{Tally}
use Rattle.lxr_model.specs.Moments.{Trace, going_on}
use Rattle.lxr_model.specs.Reports.{PauseParts}
use Rattle.lxr_invariant.specs.AbstractState.{AbstractState}
use Rattle.lxr_pause_trace_laws.specs.Laws.{with_slots}
use Rattle.lxr_one_pause.specs.Settling.{Settles, SettlesCounts}
use Rattle.lxr_one_pause.specs.Tracing.{HasTraced, MayTrace}
use Rattle.lxr_one_pause.specs.Pausing.{CanPause}
use Rattle.lxr_one_pause.proofs.BuildingLemmas.{can_drain, now, with_kind}
use Rattle.lxr_one_pause.proofs.KindLemmas.{begin_is, begin_settles, plain_settles}
use Rattle.lxr_one_pause.proofs.MovedLemmas.{end_kind, end_settles}
use Rattle.lxr_one_pause.proofs.SweepingLemmas.{collect_is, collect_settles}

module _ (s k : Space) (g : AbstractState) (can : CanPause s g) (at' : Name → ℕ) (gone : List Name) (counts : SettlesCounts s k g at' gone) (x : Space) where
  -- a pause may trace as its kind asks, where a trace runs that is to end, and none where one is to begin
  pub may_trace : (is : Kind) → (is ≡ kind.Begin → g.moment.trace ≡ None) → ((j : ℕ) → is ≡ kind.End j → (trace : Trace) × (g.moment.trace ≡ Some trace))
      → MayTrace is (with_kind s k g can at' gone counts is) (now s k g can at' gone counts is)
  may_trace kind.Plain none runs = can_drain s k g can at' gone counts kind.Plain
  may_trace kind.Begin none runs = record {
    drains = can_drain s k g can at' gone counts kind.Begin;
    none_runs = ap (going_on g.moment (report_of k.report)) (none refl);
  }
  may_trace (kind.End j) none runs = record {
    drains = can_drain s k g can at' gone counts (kind.End j);
    trace = going (runs j refl).0;
    runs = ap (going_on g.moment (report_of k.report)) (runs j refl).1;
    counted = (subst (λ (t : Tally). t.moved < 2 ^ 63) same_tally can.evacuated.0, subst (λ (t : Tally). t.kept < 2 ^ 63) same_tally can.evacuated.1);
  }
    where
      going : Trace → Trace
      going trace = with_slots g.moment k.report.promoted.items trace

      same_tally : s.tally ≡ k.tally
      same_tally = sym (ap (λ (y : Space). y.tally) counts.space)
  may_trace kind.Collect none runs = can_drain s k g can at' gone counts kind.Collect

  -- Counting and tracing are done then: objects stand at these places, these were moved and kept, and the kind is this one.
  pub record HasSettled (is : Kind) : Type 0 where
    pub to : Name → ℕ
    pub parts : PauseParts
    pub moved : List Name
    pub kept : List Name
    pub settles : Settles s x g to parts moved kept
    pub kind_is : x.report.kind ≡ is

  pub settled_by_kind : (is : Kind) → MayTrace is (with_kind s k g can at' gone counts is) (now s k g can at' gone counts is)
      → HasTraced is (with_kind s k g can at' gone counts is) x (now s k g can at' gone counts is) → HasSettled is
  settled_by_kind kind.Plain may same = record {
    to = at';
    parts = record { first_dead = gone; second_dead = []; third_dead = [] };
    moved = [];
    kept = [];
    settles = subst (λ y. Settles s y g at' (record { first_dead = gone; second_dead = []; third_dead = [] }) [] []) (sym same) (plain_settles s k g can at' gone counts);
    kind_is = ap (λ (y : Space). y.report.kind) same;
  }
  settled_by_kind kind.Begin may begins = record {
    to = at';
    parts = record { first_dead = gone; second_dead = begins.gone; third_dead = [] };
    moved = [];
    kept = [];
    settles = begin_settles s k g can at' gone counts x may begins;
    kind_is = ap (λ (y : Space). y.report.kind) (begin_is s k g can at' gone counts x may begins);
  }
  settled_by_kind (kind.End j) may ends = record {
    to = ends.at';
    parts = record { first_dead = gone; second_dead = ends.gone; third_dead = ends.third };
    moved = ends.moved;
    kept = ends.kept;
    settles = end_settles s k g can at' gone counts x j may ends;
    kind_is = end_kind s k g can at' gone counts x j may ends;
  }
  settled_by_kind kind.Collect may collects = record {
    to = at';
    parts = record { first_dead = gone; second_dead = collects.gone; third_dead = collects.third };
    moved = [];
    kept = [];
    settles = collect_settles s k g can at' gone counts x collects;
    kind_is = ap (λ (y : Space). y.report.kind) (collect_is s k g can at' gone counts x collects);
  }
