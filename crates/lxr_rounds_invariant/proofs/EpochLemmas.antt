-- What an epoch does to a run: it may be opened where the run is between epochs, and once it is closed a pause has a cause.
use Rattle.std.proofs.Common.{◌≡◌, ℕ, suc, ◌+◌, ◌<◌, ◌≤◌, ◌⊎◌, refl, sym, ap, subst, ◌∙◌, inl, inr, arith, IsTrue, List, [], ◌∷◌, length, map}
use Rattle.std.specs.Prelude.{Option}
use Rattle.lxr_layout.specs.declared.Name.{Name}
use Rattle.lxr_layout.specs.declared.limits.Limits.{Limits}
use Rattle.lxr_graph.specs.Names.{has}
use Rattle.lxr_graph.specs.declared.Op.{Op}
use Rattle.lxr_graph.specs.declared.Op.TheVariants as op
use Rattle.lxr_graph.specs.declared.Reply.{Reply}
use Rattle.lxr_graph.specs.declared.Reply.TheVariants as reply
use Rattle.lxr_graph.specs.History.{Item, Call}
use Rattle.lxr_image.specs.declared.space.Space.{Space}
use Rattle.lxr_image.specs.declared.space.Tally.{Tally}
use Rattle.lxr_model.specs.Belongs.{HasCause, IsHistorySoFar, Script}
use Rattle.lxr_model.specs.Kinds.{ends}
use Rattle.lxr_model.specs.Legal.{IsLegalSoFar, OwesNoCall}
use Rattle.lxr_model.specs.Moments.{Moment, moment}
use Rattle.lxr_model_laws.specs.ScriptLaws.{GoesOn}
use Rattle.lxr_model_laws.proofs.ScriptLemmas.{as_many_go_on}
use Rattle.lxr_invariant.specs.AbstractState.{AbstractState}
use Rattle.lxr_invariant.proofs.NameLemmas.{in_first}
use Rattle.lxr_sights.specs.Sights.{Sight}
use Rattle.lxr_mutator.specs.Mutating.{Mutating, is_loaded, is_new, is_stored}
use Rattle.lxr_mutator.proofs.NamingLemmas.{loaded_as, new_as, stored_as}
use Rattle.lxr_core_invariant.specs.EpochStates.{CountsObjects, Extends, called, same}
use Rattle.lxr_core_invariant.proofs.ObjectLemmas.{legal_counts}
use Rattle.lxr_core.specs.declared.actors.AnyActor.{AnyActor}
use Rattle.lxr_core.specs.declared.actors.AnyActor.TheVariants as any
use Rattle.lxr_core.specs.Actors.{decrementers_in, mutators_in, script_of, tracers_in}
use Rattle.lxr_core.specs.Closing.{Closes, HasProgress}
use Rattle.lxr_core.specs.Collecting.{actor_given_up, loads_of, news_of, stores_of, tally_with}
use Rattle.lxr_core.specs.Opening.{Begins}
use Rattle.lxr_core.specs.Ordering.{TellNames}
use Rattle.lxr_core.specs.Resting.{ActorsRestAfter, HelpersRest, RestAfter}
use Rattle.lxr_core.specs.Executions.{Execution}
use Rattle.lxr_core.proofs.ClosingLemmas.{given_script}
use Rattle.lxr_core.proofs.LastingLemmas.{names_given}
use Rattle.lxr_rounds_history.specs.Left.{last_report, plan_limits}
use Rattle.lxr_rounds_history.specs.Histories.{plan_terms}
use Rattle.lxr_rounds_history.specs.Sights.{SeesTo}
use Rattle.lxr_rounds_history.specs.Tally.{HasNumbersOf, counted, evacuated_in, tally_of}
use Rattle.lxr_rounds_history.proofs.HistoryLemmas.{early_extends, history_extends, owes_extends, was_early}
use Rattle.lxr_rounds_history.proofs.SightLemmas.{same_evacuated, sees_epoch}
use Rattle.lxr_rounds_history.proofs.TallyLemmas.{has_numbers, loads_are, news_are, stores_are}
use Rattle.lxr_rounds_history.proofs.ThreadSums.{counted_in, one}
use Rattle.lxr_rounds_invariant.specs.LoopInvariant.{HasCome, HasEvacuatedFew, HasRunEpoch, HaveActors, HaveMutators, IsBetweenEpochs, SomeWait, Task, done_of, task_limits, terms_of, threads_of}
use Rattle.lxr_rounds_invariant.specs.Laws.{EpochsRun, HasClosed, asked_for, beginning_of}
use Rattle.lxr_rounds_invariant.proofs.ActorLemmas.{calls_are_done, ends_are_all, ends_are_fewer, has_begun, kind_is, names_few}
use Rattle.lxr_rounds_invariant.proofs.EvacuatedLemmas.{evacuated_still}
use Rattle.lxr_rounds_invariant.proofs.KindLemmas.{unasked_uncalled}

-- ---- the opening of an epoch

-- an epoch may be opened between epochs
pub may_open : (task : Task) (space : Space) (seen : Option (List Sight)) (actors : List AnyActor) (h : List Item) (g : AbstractState)
    → IsBetweenEpochs task space seen actors h g → Begins (beginning_of task space h g) space actors
may_open task space seen actors h g amid =
    let come = amid.come in
    let threads : threads_of task ≡ space.limits.threads = ap (λ (l : Limits). l.threads) (sym come.limits) in
    record {
      space_is = refl;
      begins = record {
        between = amid.between;
        listed = amid.listed;
        moment = come.stands.moment ∙ ap (λ n. moment n h) threads;
        counted = subst (λ n. CountsObjects n h) threads (legal_counts (terms_of task) h come.history.0);
      };
      actors_rest = subst (λ l. ActorsRestAfter l task.plan.every h actors) (sym come.limits) (record { mutators = amid.actors_rest.mutators.rest; helpers = amid.actors_rest.helpers });
      few = amid.served.few;
      unasked = amid.served.unasked;
    }

-- ---- what an epoch leaves

-- the last report stays
report_extends : (threads every : ℕ) (h k : List Item) → Extends threads every h k → last_report k ≡ last_report h
report_extends threads every h k (same) = refl
report_extends threads every h k (called l t o r before is) = report_extends threads every h l before

-- calls leave what is unreclaimed
unreclaimed_extends : (threads every : ℕ) (h k : List Item) → Extends threads every h k → (moment threads k).unreclaimed ≡ (moment threads h).unreclaimed
unreclaimed_extends threads every h k (same) = refl
unreclaimed_extends threads every h k (called l t o r before is) = unreclaimed_extends threads every h l before

-- as many calls more as the history is longer
calls_extend : (threads every : ℕ) (h k : List Item) → Extends threads every h k → length h + counted_in one k ≡ length k + counted_in one h
calls_extend threads every h k (same) = refl
calls_extend threads every h k (called l t o r before is) = let rest = calls_extend threads every h l before in omega arith

-- a tally with the operations of another
abbrev with_operations : Tally → Tally → Tally
with_operations t from = record t { news = from.news; loads = from.loads; stores = from.stores }

-- a reply changes those alone
counted_rest : (t s : Tally) (r : Reply) → t ≡ with_operations s t → counted t r ≡ with_operations s (counted t r)
counted_rest t s (reply.New n) e = ap (λ (z : Tally). record z { news = t.news + 1 }) e
counted_rest t s (reply.Loaded v) e = ap (λ (z : Tally). record z { loads = t.loads + 1 }) e
counted_rest t s reply.Stored e = ap (λ (z : Tally). record z { stores = t.stores + 1 }) e
counted_rest t s (reply.Swapped v) e = ap (λ (z : Tally). record z { loads = t.loads + 1; stores = t.stores + 1 }) e
counted_rest t s r e = e

-- calls change the numbers of operations alone
tally_extends : (threads every : ℕ) (h k : List Item) → Extends threads every h k → tally_of threads k ≡ with_operations (tally_of threads h) (tally_of threads k)
tally_extends threads every h k (same) = refl
tally_extends threads every h k (called l t o r before is) = counted_rest (tally_of threads l) (tally_of threads h) r (tally_extends threads every h l before)

-- and these are the sums over the threads
tally_told : (task : Task) (h k : List Item) (mutators : List Mutating) → IsHistorySoFar (terms_of task) task.script k → Extends (threads_of task) task.plan.every h k → HaveMutators task k mutators
    → tally_with (tally_of (threads_of task) h) mutators ≡ tally_of (threads_of task) k
tally_told task h k mutators history extends have =
    let legal = history.0 in
    let news : (tally_of (threads_of task) k).news ≡ news_of mutators = news_are (threads_of task) k ∙ kind_is task k mutators legal have is_new new_as news_of refl (λ a mutators. refl) in
    let loads : (tally_of (threads_of task) k).loads ≡ loads_of mutators = loads_are (threads_of task) k ∙ kind_is task k mutators legal have is_loaded loaded_as loads_of refl (λ a mutators. refl) in
    let stores : (tally_of (threads_of task) k).stores ≡ stores_of mutators = stores_are (threads_of task) k ∙ kind_is task k mutators legal have is_stored stored_as stores_of refl (λ a mutators. refl) in
    sym (
    tally_extends (threads_of task) task.plan.every h k extends
    ∙ ap (λ n. sums (tally_of (threads_of task) h) n (tally_of (threads_of task) k).loads (tally_of (threads_of task) k).stores) news
    ∙ ap (λ n. sums (tally_of (threads_of task) h) (news_of mutators) n (tally_of (threads_of task) k).stores) loads
    ∙ ap (λ n. sums (tally_of (threads_of task) h) (news_of mutators) (loads_of mutators) n) stores
    )
  where
    sums : Tally → ℕ → ℕ → ℕ → Tally
    sums t news loads stores = record t { news = news; loads = loads; stores = stores }

-- ---- the closing of an epoch

-- helpers give up nothing
given_helpers : (actors : List AnyActor) → decrementers_in (map actor_given_up actors) ≡ decrementers_in actors
given_helpers [] = refl
given_helpers (any.Mutator m ∷ actors) = given_helpers actors
given_helpers (any.Decrementer d ∷ actors) = ap (λ z. d ∷ z) (given_helpers actors)
given_helpers (any.Tracer d ∷ actors) = given_helpers actors

given_tracers : (actors : List AnyActor) → tracers_in (map actor_given_up actors) ≡ tracers_in actors
given_tracers [] = refl
given_tracers (any.Mutator m ∷ actors) = given_tracers actors
given_tracers (any.Decrementer d ∷ actors) = given_tracers actors
given_tracers (any.Tracer d ∷ actors) = ap (λ z. d ∷ z) (given_tracers actors)

-- once all are through, and not all were before, something was done
all_through_did : (threads every : ℕ) (h k : List Item) → Extends threads every h k → ends h < threads → ends k ≡ threads → length h < length k
all_through_did threads every h k extends fewer all =
    let grow = ends_extend threads every h k extends in
    omega arith
  where
    -- each call more is one end at most
    ends_extend : (threads every : ℕ) (h k : List Item) → Extends threads every h k → ends k + length h ≤ ends h + length k
    ends_extend threads every h k (same) = omega arith
    ends_extend threads every h k (called l t o r before is) = let rest = ends_extend threads every h l before in let one = ends_one t o r l in omega arith
      where
        ends_one : (t : ℕ) (o : Op) (r : Reply) (l : List Item) → ends (Call t o r ∷ l) ≤ suc (ends l)
        ends_one t op.End r l = omega arith
        ends_one t o r l = omega arith

module _ (task : Task) (script : Script) (space mid after : Space) (seen : Option (List Sight)) (before actors : List AnyActor) (h : List Item) (g : AbstractState) (execution : Execution)
    (amid : IsBetweenEpochs task space seen before h g) (on : GoesOn task.script script) (closed : HasClosed (asked_for task script) space mid after actors h g execution) where
  -- the task with what was asked by the end of the epoch, which is for as many threads
  abbrev pub asked : Task
  asked = asked_for task script

  many : threads_of asked ≡ threads_of task
  many = as_many_go_on task.script script on

  -- so what was said of the one is said of the other
  for_asked : (P : ℕ → Type 0) → P (threads_of task) → P (threads_of asked)
  for_asked P = subst P (sym many)

  closes : Closes (beginning_of asked space h g) execution mid after actors
  closes = closed.closes

  -- the limits, the threads and the calls of the epoch are those of the run
  limits : space.limits ≡ task_limits asked
  limits = for_asked (λ n. space.limits ≡ plan_limits task.plan n) amid.come.limits

  threads : space.limits.threads ≡ threads_of asked
  threads = ap (λ (l : Limits). l.threads) limits

  extends : Extends (threads_of asked) task.plan.every h execution.history
  extends = subst (λ n. Extends n task.plan.every h execution.history) threads closes.extends

  owes_none : OwesNoCall (terms_of asked) h
  owes_none = for_asked (λ n. OwesNoCall (plan_terms task.renews task.plan n) h) amid.owes_none

  -- the abstract state of the space at the safepoint
  abbrev pub safepoint_state : AbstractState
  safepoint_state = record g { moment = moment space.limits.threads execution.history; at = execution.at }

  -- it is that of the history
  moment_is : safepoint_state.moment ≡ moment (threads_of asked) execution.history
  moment_is = ap (λ n. moment n execution.history) threads

  -- the actors are those of all that was asked
  have : HaveActors asked execution.history actors
  have = record {
    mutators = record {
      rest = subst (λ l. RestAfter l task.plan.every execution.history (mutators_in actors)) limits closes.actors_rest.mutators;
      script = ap (λ z. script_of (mutators_in z)) closes.gave ∙ given_script execution.core.actors ∙ closed.script;
      names = subst (λ z. TellNames task.names (mutators_in z)) (sym closes.gave) (names_given task.names execution.core.actors closed.names);
    };
    helpers = subst (λ l. HelpersRest l actors) limits closes.actors_rest.helpers;
    workers = ap (λ z. length (decrementers_in z)) closes.gave ∙ ap length (given_helpers execution.core.actors) ∙ closed.workers;
    tracers = ap (λ z. length (tracers_in z)) closes.gave ∙ ap length (given_tracers execution.core.actors) ∙ closed.tracers;
    few = amid.actors_rest.few;
  }

  -- the history is one so far of that
  history : IsHistorySoFar (terms_of asked) script execution.history
  history = history_extends task.renews task.plan task.script script h execution.history amid.come.history amid.owes_none on (names_few asked execution.history (mutators_in actors) have.mutators)
      (subst (λ n. Extends n task.plan.every h execution.history) many extends) (has_begun asked execution.history (mutators_in actors) have.mutators)

  same_limits : after.limits ≡ space.limits
  same_limits = ap (λ (s : Space). s.limits) closes.rest ∙ ap (λ (s : Space). s.limits) closed.words

  -- the tally has the numbers of the history
  tally : HasNumbersOf (threads_of asked) execution.history after.tally
  tally =
      has_numbers (threads_of asked) execution.history after.tally space.tally.moved space.tally.kept (
      closes.tally
      ∙ ap (λ (t : Tally). tally_with t (mutators_in actors)) (ap (λ (s : Space). s.tally) closed.words ∙ for_asked (λ n. HasNumbersOf n h space.tally) amid.come.tally)
      ∙ ap (λ (t : Tally). record t { moved = space.tally.moved; kept = space.tally.kept }) (tally_told asked h execution.history (mutators_in actors) history extends have.mutators)
      )

  -- it evacuates nothing
  moved_still : after.tally.moved ≡ space.tally.moved
  moved_still = ap (λ (t : Tally). t.moved) closes.tally ∙ ap (λ (s : Space). s.tally.moved) closed.words

  kept_still : after.tally.kept ≡ space.tally.kept
  kept_still = ap (λ (t : Tally). t.kept) closes.tally ∙ ap (λ (s : Space). s.tally.kept) closed.words

  evacuated : HasEvacuatedFew after
  evacuated = evacuated_still space after moved_still kept_still
      same_limits (ap (λ (s : Space). s.pauses) closes.rest ∙ ap (λ (s : Space). s.pauses) closed.words) amid.come.evacuated

  -- a member then was a member before
  still : (n : Name) → IsTrue (has safepoint_state.moment.unreclaimed n) → IsTrue (has g.moment.unreclaimed n)
  still n member = subst (λ ns. IsTrue (has ns n))
      (ap (λ (m : Moment). m.unreclaimed) moment_is ∙ unreclaimed_extends (threads_of asked) task.plan.every h execution.history extends
      ∙ ap (λ (m : Moment). m.unreclaimed) (sym (for_asked (λ n. g.moment ≡ moment n h) amid.come.stands.moment))) member

  -- all that holds of the run at the safepoint
  come : HasCome asked after seen execution.history safepoint_state
  come = record {
    history = history;
    stands = record { moment = moment_is; reported = amid.come.stands.reported ∙ sym (report_extends (threads_of asked) task.plan.every h execution.history extends) };
    safepoint = closes.safepoint;
    limits = same_limits ∙ limits;
    tally = tally;
    evacuated = evacuated;
    places = amid.come.places;
    sights = sees_epoch (threads_of asked) task.plan.every h execution.history task.seen seen amid.come.places (evacuated_in after.tally) extends
        (subst (SeesTo (threads_of asked) h task.seen seen amid.come.places) (sym (same_evacuated space.tally after.tally moved_still kept_still))
        (for_asked (λ n. SeesTo n h task.seen seen amid.come.places (evacuated_in space.tally)) amid.come.sights));
    kept = λ n member. closes.unmoved n (in_first g.moment.unreclaimed g.moment.made n (still n member)) ∙ amid.come.kept n (still n member);
  }

  -- the actors have done as many calls more as the history is longer
  grown : length h + done_of (mutators_in actors) ≡ length execution.history + done_of (mutators_in before)
  grown =
      let now = calls_are_done asked execution.history (mutators_in actors) history.0 have.mutators in
      let was = calls_are_done task h (mutators_in before) amid.come.history.0 amid.actors_rest.mutators in
      let more = calls_extend (threads_of asked) task.plan.every h execution.history extends in
      omega arith

  -- not all threads had ended
  fewer : ends h < threads_of asked
  fewer = for_asked (λ n. ends h < n) (ends_are_fewer task h (mutators_in before) amid.come.history.0 amid.actors_rest.mutators amid.more)

  -- the epoch has done something, or a `new` waits
  progress : HasProgress (beginning_of asked space h g) execution (mutators_in actors) → (done_of (mutators_in before) < done_of (mutators_in actors)) ⊎ SomeWait (mutators_in actors)
  progress (inl longer) = inl (let more = grown in omega arith)
  progress (inr (inl waits)) = inr waits
  progress (inr (inr ended)) =
      let all = ends_are_all asked execution.history (mutators_in actors) history.0 have.mutators ended in
      let longer = all_through_did (threads_of asked) task.plan.every h execution.history extends fewer all in
      inl (let more = grown in omega arith)

  -- an epoch has run
  pub epoch_run : HasRunEpoch asked after seen before actors execution.history safepoint_state
  epoch_run = record {
    come = come;
    actors_rest = have;
    news = closes.news;
    due = record {
      cause = subst (λ s. HasCause (terms_of asked) s execution.history) have.mutators.script
          (closed.due.cause amid.all_listed (terms_of asked) (record { threads = sym threads; blocks = ap (λ (l : Limits). l.blocks) (sym limits); evacuate = ap (λ (l : Limits). l.evacuate) (sym limits); log = ap (λ (l : Limits). l.log) (sym limits); every = refl })
          (for_asked (λ n. IsLegalSoFar (plan_terms task.renews task.plan n) h) amid.come.history.0));
      early = early_extends task.renews task.plan script task.plan.every h execution.history extends (was_early task.renews task.plan script h fewer);
      owes_none = owes_extends (terms_of asked) (threads_of asked) task.plan.every h execution.history extends owes_none;
    };
    collects = closes.collects (unasked_uncalled h amid.served.unasked);
    progress = progress (closed.due.progress amid.served.unasked);
    grows = let more = grown in let longer = length_extends (threads_of asked) task.plan.every h execution.history extends in omega arith;
    few = let few = amid.few in let same = ap (λ (s : Space). s.pauses) closes.rest ∙ ap (λ (s : Space). s.pauses) closed.words in omega arith;
  }
    where
      length_extends : (threads every : ℕ) (h k : List Item) → Extends threads every h k → length h ≤ length k
      length_extends threads every h k (same) = omega arith
      length_extends threads every h k (called l t o r before is) = let rest = length_extends threads every h l before in omega arith

-- so it is of each epoch
pub epochs_run : EpochsRun
epochs_run task script space mid after seen before actors h g execution amid on closed = (
  safepoint_state task script space mid after seen before actors h g execution amid on closed,
  epoch_run task script space mid after seen before actors h g execution amid on closed,
  extends task script space mid after seen before actors h g execution amid on closed,
)
