-- What a pause does to a run: its history has the pause.
use Rattle.std.proofs.Common.{◌≡◌, ℕ, ◌+◌, ◌*◌, ◌^◌, ◌<◌, ◌≤◌, ◌↔◌, ◌⊎◌, refl, sym, ap, subst, ◌∙◌, inl, inr, arith, List, [], ◌∷◌, length, Bool, true, false, IsTrue}
use Rattle.std.specs.Prelude.{Option, None, Some, slice_get}
use Rattle.lxr_layout.specs.declared.TheConstants.{GRANULES_IN_BLOCK}
use Rattle.lxr_layout.specs.declared.Name.{Name}
use Rattle.lxr_layout.specs.declared.limits.Limits.{Limits}
use Rattle.lxr_graph.specs.declared.report.Kind.TheVariants as kind
use Rattle.lxr_graph.specs.History.{Item, Pause, PauseReport, report_of}
use Rattle.lxr_graph.specs.Names.{has}
use Rattle.lxr_image.specs.declared.space.Space.{Space}
use Rattle.lxr_image.specs.declared.space.Tally.{Tally}
use Rattle.lxr_model.specs.Kinds.{MayStand, MustCollect, OnlyNewsSincePause}
use Rattle.lxr_model.specs.Legal.{IsLegalSoFar, IsPause}
use Rattle.lxr_model.specs.Terms.{Terms}
use Rattle.lxr_model.specs.Moments.{Moment, Trace, after_pause, moment}
use Rattle.lxr_model.specs.Reports.{IsReport}
use Rattle.lxr_model.specs.Belongs.{IsHistorySoFar}
use Rattle.lxr_model.proofs.ReachableLemmas.{promoted_made}
use Rattle.lxr_invariant.specs.AbstractState.{AbstractState, paused}
use Rattle.lxr_full.proofs.RoomLemmas.{log_is_written}
use Rattle.lxr_pause_trace_laws.proofs.HistoryLemmas.{history_keeps}
use Rattle.lxr_one_pause.specs.declared.Ask.{Ask}
use Rattle.lxr_one_pause.specs.declared.Ask.TheVariants as ask
use Rattle.lxr_one_pause.specs.Deciding.{kind_of}
use Rattle.lxr_one_pause.specs.Pausing.{CanPause, KeepsObjects, Pauses}
use Rattle.lxr_sights.specs.Sights.{Looks, Sight, sight_of}
use Rattle.lxr_core.specs.declared.actors.AnyActor.{AnyActor}
use Rattle.lxr_core.specs.Actors.{mutators_in}
use Rattle.lxr_core.specs.Resting.{RestsAfter}
use Rattle.lxr_mutator.specs.Dialogues.{most_operations}
use Rattle.lxr_mutator.specs.Mutating.{Mutating}
use Rattle.lxr_rounds_history.specs.Left.{StandsAfter}
use Rattle.lxr_rounds_history.specs.Sights.{CountsEvacuated, MayMove, SeesTo}
use Rattle.lxr_rounds_history.specs.Tally.{HasNumbersOf, evacuated_in}
use Rattle.lxr_rounds_history.proofs.HistoryLemmas.{history_with_pause}
use Rattle.lxr_rounds_history.proofs.SightLemmas.{sees_pause}
use Rattle.lxr_rounds_history.proofs.SpaceLemmas.{safepoint_tallied}
use Rattle.lxr_rounds_history.proofs.TallyLemmas.{has_numbers, logs_few, pauses_are, replies_few}
use Rattle.lxr_rounds_history.proofs.ThreadSums.{counted_in, one}
use Rattle.lxr_rounds_invariant.specs.LoopInvariant.{FitsCounts, HasCome, HasEvacuatedFew, HaveActors, HaveMutators, IsAskedRight, IsPauseDue, IsPaused, Task, done_of, pace_of, task_limits, terms_of, threads_of}
use Rattle.lxr_rounds_invariant.proofs.ActorLemmas.{as_many, calls_are_done, done_few}
use Rattle.lxr_rounds_invariant.proofs.EvacuatedLemmas.{evacuated_more, moved_fits}
use Rattle.lxr_rounds_invariant.proofs.KindLemmas.{kind_collects, kind_may_stand}

-- ---- numbers

-- each thread has as many replies as it may have operations, with its end and one to spare
replies_within : (task : Task) (h : List Item) (mutators : List Mutating) → HaveMutators task h mutators → (i : ℕ) (a : Mutating) → slice_get mutators i ≡ Some a → length a.replies.items ≤ most_operations (i + 1) + 2
replies_within task h mutators have i a at =
    let rests = have.rest.each i a at in
    let room = rests.mutator.sound.setup.room in
    let most : a.replies.room ≤ most_operations (i + 1) + 2 = subst (λ t. a.replies.room ≤ most_operations t + 2) rests.thread rests.mutator.sound.setup.most in
    let replies = rests.mutator.sound.few_replies in
    omega (arith, room, most, replies)

-- so they do little together
pub all_done_few : (task : Task) (h : List Item) (mutators : List Mutating) → HaveMutators task h mutators → threads_of task ≤ 255 → done_of mutators + 1 < 2 ^ 31
all_done_few task h mutators have threads =
    let many = as_many task h mutators have in
    done_few mutators (replies_within task h mutators have) (omega (arith, many, threads))

-- pauses are numbered from 1, and those of a history are counted in the tally
pub pauses_counted : (task : Task) (space : Space) (seen : Option (List Sight)) (h : List Item) (g : AbstractState)
    → HasCome task space seen h g → space.tally.pauses ≡ space.pauses
pauses_counted task space seen h g come =
    ap (λ (t : Tally). t.pauses) come.tally ∙ pauses_are (terms_of task) h come.history.0 ∙ ap (λ (m : Moment). m.number) (sym come.stands.moment) ∙ sym come.safepoint.numbers.pauses

-- what is logged are the fields that were written
pub logged_is : (task : Task) (space : Space) (seen : Option (List Sight)) (h : List Item) (g : AbstractState)
    → HasCome task space seen h g → length space.logged.items ≡ length (moment (threads_of task) h).written
logged_is task space seen h g come = sym (log_is_written space g come.safepoint) ∙ ap (λ (m : Moment). length m.written) come.stands.moment

-- there are 255 threads at most
pub few_threads : (task : Task) (space : Space) (seen : Option (List Sight)) (h : List Item) (g : AbstractState) → HasCome task space seen h g → threads_of task ≤ 255
few_threads task space seen h g come =
    let limits = come.safepoint.holds.space.limits.threads in
    let same : space.limits.threads ≡ threads_of task = ap (λ (l : Limits). l.threads) come.limits in
    omega arith

-- so the numbers fit, and one pause more does
pub counts_fit : (task : Task) (space : Space) (seen : Option (List Sight)) (h : List Item) (g : AbstractState) (mutators : List Mutating)
    → HasCome task space seen h g → HaveMutators task h mutators → space.pauses ≤ 2 * done_of mutators + 1 → FitsCounts space
counts_fit task space seen h g mutators come have few =
    let all = all_done_few task h mutators have (few_threads task space seen h g come) in
    let told = pauses_counted task space seen h g come in
    let calls = calls_are_done task h mutators come.history.0 have in
    let replies : space.tally.news + space.tally.loads + space.tally.stores ≤ 2 * counted_in one h =
    subst (λ (t : Tally). t.news + t.loads + t.stores ≤ 2 * counted_in one h) (sym come.tally) (replies_few (threads_of task) h) in
    let stored : space.tally.logs + length (moment (threads_of task) h).written ≤ space.tally.stores =
    subst (λ (t : Tally). t.logs + length (moment (threads_of task) h).written ≤ t.stores) (sym come.tally) (logs_few (threads_of task) h) in
    let logged = logged_is task space seen h g come in
    record { pauses = (omega arith, omega arith); logs = omega arith; news = omega arith; loads = omega arith; stores = omega arith }

-- so objects can still be counted
pub news_fit : (task : Task) (space : Space) (seen : Option (List Sight)) (h : List Item) (g : AbstractState) (mutators : List Mutating)
    → HasCome task space seen h g → HaveMutators task h mutators → space.tally.news < 2 ^ 63
news_fit task space seen h g mutators come have =
    let all = all_done_few task h mutators have (few_threads task space seen h g come) in
    let calls = calls_are_done task h mutators come.history.0 have in
    let replies : space.tally.news + space.tally.loads + space.tally.stores ≤ 2 * counted_in one h =
    subst (λ (t : Tally). t.news + t.loads + t.stores ≤ 2 * counted_in one h) (sym come.tally) (replies_few (threads_of task) h) in
    omega arith

-- ---- a pause

-- the space at a safepoint before a pause, with so many log entries counted
abbrev pub safepoint_by : Space → ℕ → Space
safepoint_by s n = record s { tally = record s.tally { logs = s.tally.logs + n } }

abbrev pub at_safepoint : Space → Space
at_safepoint s = safepoint_by s (length s.logged.items)

-- a trace that runs began over objects that are all still in the graph
objects_kept : (terms : Terms) (h : List Item) → IsLegalSoFar terms h → (o : Option Trace) → (moment terms.threads h).trace ≡ o → KeepsObjects (moment terms.threads h) o
objects_kept terms h legal None none = tt
objects_kept terms h legal (Some trace) runs = history_keeps terms h trace legal runs

-- a pause may be made
pub can_pause : (task : Task) (space : Space) (seen : Option (List Sight)) (h : List Item) (g : AbstractState)
    → HasCome task space seen h g → FitsCounts space → CanPause (at_safepoint space) g
can_pause task space seen h g come fits = record {
  safepoint = safepoint_tallied space g (record space.tally { logs = space.tally.logs + length space.logged.items }) come.safepoint;
  objects = subst (λ (m : Moment). KeepsObjects m m.trace) (sym come.stands.moment) (objects_kept (terms_of task) h come.history.0 (moment (threads_of task) h).trace refl);
  counted = fits.pauses;
  evacuated = moved_fits space come.evacuated come.safepoint.holds.space.limits.blocks.1 fits.pauses.0;
}

module _ (task : Task) (before after : Space) (seen amid seen' : Option (List Sight)) (h : List Item) (g : AbstractState)
    (come : HasCome task before seen h g) (due : IsPauseDue task h) (asked : Ask) (right : IsAskedRight task h asked) (at' : Name → ℕ) (pauses : Pauses (at_safepoint before) after g at' asked (pace_of task.plan)) where
  -- its report, and what the space stands for then
  abbrev report : PauseReport
  report = report_of after.report

  abbrev abstract_state : AbstractState
  abstract_state = paused g at' report

  -- it is asked to collect exactly where it must, and to begin a trace only where that is free, or else for a `new` that waits
  right_by_parts : (((asked ≡ ask.Collect) ↔ MustCollect (terms_of task) h) × (asked ≡ ask.Trace → task.plan.trace ≡ 0)) ⊎ ((asked ≡ ask.Collect) × OnlyNewsSincePause h)
  right_by_parts = elim right [
    | inl due ↦ inl (due.collects, due.traces)
    | inr waits ↦ inr waits
  ]

  -- its kind may stand
  stands_so : MayStand (terms_of task) h g.moment report.number report.kind
  stands_so =
      subst (λ k. MayStand (terms_of task) h g.moment report.number k) (sym pauses.kind.kind)
      (subst (λ n. MayStand (terms_of task) h g.moment n (kind_of asked (pace_of task.plan) (g.moment.number + 1) g.moment.trace pauses.kind.traced)) (sym pauses.reports.1.number)
      (kind_may_stand (terms_of task) h g.moment (g.moment.number + 1) (pace_of task.plan) pauses.kind.traced refl refl asked right_by_parts))

  -- it collects exactly where it is asked to
  collects : (report.kind ≡ kind.Collect) ↔ (asked ≡ ask.Collect)
  collects = subst (λ k. (k ≡ kind.Collect) ↔ (asked ≡ ask.Collect)) (sym pauses.kind.kind) (kind_collects asked (pace_of task.plan) (g.moment.number + 1) g.moment.trace pauses.kind.traced)

  is_pause : IsPause (terms_of task) h report
  is_pause = record {
    stands = subst (λ m. MayStand (terms_of task) h m report.number report.kind) come.stands.moment stands_so;
    reports = subst (λ m. IsReport m report) come.stands.moment pauses.reports;
  }

  -- the history, the space, the tally and the sights are those of the run with that pause
  history : IsHistorySoFar (terms_of task) task.script (Pause report ∷ h)
  history = history_with_pause task.renews task.plan task.script h report come.history due.owes_none is_pause due.cause due.early

  stands : StandsAfter (threads_of task) (Pause report ∷ h) abstract_state
  stands = record { moment = ap (λ m. after_pause m report) come.stands.moment; reported = refl }

  limits : after.limits ≡ before.limits
  limits = ap (λ (s : Space). s.limits) pauses.space

  -- how many objects were moved and kept by then
  abbrev all_moved : ℕ
  all_moved = before.tally.moved + length pauses.moved

  abbrev all_kept : ℕ
  all_kept = before.tally.kept + length pauses.kept

  tally : HasNumbersOf (threads_of task) (Pause report ∷ h) after.tally
  tally =
      has_numbers (threads_of task) (Pause report ∷ h) after.tally all_moved all_kept (
      pauses.tally
      ∙ ap (λ n. record before.tally { logs = before.tally.logs + n; pauses = before.tally.pauses + 1; moved = all_moved; kept = all_kept }) (logged_is task before seen h g come)
      ∙ ap (λ (t : Tally). record t { logs = t.logs + length (moment (threads_of task) h).written; pauses = t.pauses + 1; moved = all_moved; kept = all_kept }) come.tally
      )

  evacuated : HasEvacuatedFew after
  evacuated =
      subst (λ (t : Tally). t.moved + t.kept ≤ GRANULES_IN_BLOCK * after.limits.blocks * after.pauses) (sym pauses.tally)
      (subst (λ (s : Space). all_moved + all_kept ≤ GRANULES_IN_BLOCK * s.limits.blocks * s.pauses) (sym pauses.space)
      (evacuated_more (GRANULES_IN_BLOCK * before.limits.blocks) before.pauses before.tally.moved before.tally.kept (length pauses.moved) (length pauses.kept) come.evacuated pauses.evacuates.few))

  -- what was unreclaimed isn't promoted, so it stands where it did, unless it was moved out of a Chosen block
  unmoved : (n : Name) → IsTrue (has g.moment.unreclaimed n) → (at' n ≡ g.at n) ⊎ MayMove report (sight_of (at_safepoint before)) g.at n
  unmoved n was = by (has pauses.moved n) refl
    where
      unpromoted : (b : Bool) → has report.promoted n ≡ b → b ≡ false
      unpromoted false e = refl
      unpromoted true e =
          let made : IsTrue (has g.moment.made n) = promoted_made ((pauses.reports.1.promoted.members n).0 e) in
          absurd (let both : true ≡ false = sym was ∙ come.safepoint.holds.follows.apart n made in cc)

      by : (b : Bool) → has pauses.moved n ≡ b → (at' n ≡ g.at n) ⊎ MayMove report (sight_of (at_safepoint before)) g.at n
      by true e = let evacuee = ((pauses.evacuates.moved_are.members n).0 e).0 in inr (evacuee.ends, evacuee.chosen)
      by false e = inl (pauses.relocates.others n (unpromoted (has report.promoted n) refl) e)

  -- what it moved out of Chosen blocks and what it kept there is counted
  abbrev left : List Name
  left = abstract_state.moment.unreclaimed

  counted : CountsEvacuated report (sight_of (at_safepoint before)) (sight_of after) left g.at at'
  counted = record {
    moved = pauses.moved;
    kept = pauses.kept;
    moved_are = record {
      in_order = pauses.evacuates.moved_are.in_order;
      members = λ n. (
        λ e. let (is, moved) = (pauses.evacuates.moved_are.members n).0 e in (is.stays, (is.ends, is.chosen), moved),
        λ (stays, (ends, chosen), moved). (pauses.evacuates.moved_are.members n).1 (record { ends = ends; stays = stays; chosen = chosen }, moved),
      );
    };
    kept_are = record {
      in_order = pauses.evacuates.kept_are.in_order;
      members = λ n. (
        λ e. let (is, same) = (pauses.evacuates.kept_are.members n).0 e in (is.stays, (is.ends, is.chosen), same),
        λ (stays, (ends, chosen), same). (pauses.evacuates.kept_are.members n).1 (record { ends = ends; stays = stays; chosen = chosen }, same),
      );
    };
    moved_counted = ap (λ (t : Tally). t.moved) pauses.tally;
    kept_counted = ap (λ (t : Tally). t.kept) pauses.tally;
  }

  module _ (untold : after.report.told.items ≡ []) (first : Looks seen amid (sight_of (at_safepoint before))) (second : Looks amid seen' (sight_of after)) where
    sights : SeesTo (threads_of task) (Pause report ∷ h) task.seen seen' at' (evacuated_in after.tally)
    sights = sees_pause (threads_of task) h report task.seen seen amid seen' (sight_of (at_safepoint before)) (sight_of after) come.places at' come.sights first second (record {
      abstract_state = g;
      stands = come.stands;
      at_safepoint = (at_safepoint before, refl, safepoint_tallied before g (record before.tally { logs = before.tally.logs + length before.logged.items }) come.safepoint);
      kept = come.kept;
      abstract_state' = abstract_state;
      stands' = stands;
      between = (after, refl, pauses.between);
      untold = untold;
      places_are = refl;
      unmoved = λ n was stays. unmoved n was;
      evacuated = counted;
    })

    pub paused_after : IsPaused task after seen' h asked
    paused_after = (
      report,
      abstract_state,
      record {
        come = record {
          history = history;
          stands = stands;
          safepoint = pauses.between.safepoint;
          limits = limits ∙ come.limits;
          tally = tally;
          evacuated = evacuated;
          places = at';
          sights = sights;
          kept = λ n member. refl;
        };
        between = pauses.between;
        collects = collects;
      },
    )

-- ---- actors

-- a pause leaves the calls and replies of each thread
pub rests_paused : (l : Limits) (every : ℕ) (h : List Item) (last : PauseReport) (t : ℕ) (m : Mutating) → RestsAfter l every h t m → RestsAfter l every (Pause last ∷ h) t m
rests_paused l every h last t m rests = record {
  mutator = rests.mutator;
  thread = rests.thread;
  every = rests.every;
  log = rests.log;
  spans = rests.spans;
  rests = rests.rests;
  calls = rests.calls;
  replies = rests.replies;
  unnamed = rests.unnamed;
  began = rests.began;
  ended = rests.ended;
}

-- so all mutators rest
pub mutators_paused : (task : Task) (h : List Item) (last : PauseReport) (mutators : List Mutating) → HaveMutators task h mutators → HaveMutators task (Pause last ∷ h) mutators
mutators_paused task h last mutators have = record {
  rest = record {
    as_many = have.rest.as_many;
    each = λ i m at. rests_paused (task_limits task) task.plan.every h last (i + 1) m (have.rest.each i m at);
  };
  script = have.script;
  names = have.names;
}

-- and all actors
pub actors_paused : (task : Task) (h : List Item) (last : PauseReport) (actors : List AnyActor) → HaveActors task h actors → HaveActors task (Pause last ∷ h) actors
actors_paused task h last actors have = record { mutators = mutators_paused task h last (mutators_in actors) have.mutators; helpers = have.helpers; workers = have.workers; tracers = have.tracers; few = have.few }
