-- How the answering of waiting `new`s goes over the threads, from the pause after an epoch to the next epoch.
use Rattle.std.proofs.Common.{◌≡◌, ◌≢◌, ℕ, suc, ◌+◌, ◌*◌, ◌<◌, ◌≤◌, ◌⊎◌, ◌↔◌, refl, sym, ap, subst, ◌∙◌, inl, inr, ⊎_elim, arith, Bool, true, false, ◌&&◌, ◌||◌, List, ◌∷◌, length, length-set, nat_eq}
use Rattle.std.specs.Prelude.{Option, Some, slice_get, slice_set, if◌then◌else◌}
use Rattle.std.proofs.lemmas.List.{length_push}
use Rattle.std.proofs.lemmas.Bool.{cases_lt}
use Rattle.std.proofs.lemmas.Bool.Decides.{nat_tests}
use Rattle.std.proofs.lemmas.Option.{slice_get_within}
use Rattle.lxr_layout.specs.declared.Shape.{Shape}
use Rattle.lxr_layout.specs.declared.limits.Limits.{Limits}
use Rattle.lxr_graph.specs.declared.Op.{Op}
use Rattle.lxr_graph.specs.declared.Op.TheVariants as op
use Rattle.lxr_graph.specs.declared.Reply.{Reply}
use Rattle.lxr_graph.specs.declared.Reply.TheVariants as reply
use Rattle.lxr_graph.specs.History.{Item, Call, Pause, PauseReport}
use Rattle.lxr_image.specs.declared.space.Space.{Space}
use Rattle.lxr_image.specs.declared.space.Tally.{Tally}
use Rattle.lxr_blocks.specs.Placing.{IsFull}
use Rattle.lxr_model.specs.Belongs.{asks_for_pause, calls_since_pause, has_asked}
use Rattle.lxr_model.specs.Kinds.{MustCollect, OnlyNewsSincePause}
use Rattle.lxr_model.specs.Legal.{KeepsPromise}
use Rattle.lxr_invariant.specs.AbstractState.{AbstractState}
use Rattle.lxr_invariant.specs.Quiescent.{IsQuiescent}
use Rattle.lxr_sights.specs.Sights.{Sight}
use Rattle.lxr_actor.proofs.Runs.{slice_get-set_same}
use Rattle.lxr_mutator.specs.Mutating.{IsWaiting, Mutating, op_now}
use Rattle.lxr_mutator.specs.Mutators.{IsAnswered, IsThrough, answered}
use Rattle.lxr_core_sim_mutator.specs.Showing.{IsNew}
use Rattle.lxr_core.specs.declared.actors.AnyActor.{AnyActor}
use Rattle.lxr_core.specs.Actors.{mutators_in}
use Rattle.lxr_core.specs.Ordering.{ordered_in}
use Rattle.lxr_core.specs.Resting.{HelpersRest, RestsAfter}
use Rattle.lxr_one_pause.specs.declared.Ask.{Ask}
use Rattle.lxr_one_pause.specs.declared.Ask.TheVariants as ask
use Rattle.lxr_serve.specs.Serving.{KeepsHelpers, NewsWait}
use Rattle.lxr_serve.proofs.FitLemmas.{set_each}
use Rattle.lxr_serve.proofs.MutatorLemmas.{AnswersWith, answers_with, with_registers}
use Rattle.lxr_rounds_history.specs.Sights.{SeesTo}
use Rattle.lxr_rounds_history.specs.Tally.{HasNumbersOf, evacuated_in}
use Rattle.lxr_rounds_history.proofs.HistoryLemmas.{promise_kept, since_call, was_early}
use Rattle.lxr_rounds_invariant.specs.LoopInvariant.{HasCome, HasMore, HasPaused, HasRunEpoch, HaveMutators, IsAskedRight, IsBetweenEpochs, IsCollectedSince, IsPauseDue, IsServing, OwesNone, OwesOne, SomeWait, Task, asked_by, done_of, task_limits, terms_of, threads_of}
use Rattle.lxr_rounds_invariant.specs.Laws.{ListsAnew, RunsGoOn}
use Rattle.lxr_rounds_invariant.proofs.ActorLemmas.{as_many, done_more, ends_are_fewer, kept_put, operations_at, pauses_stay_few}
use Rattle.lxr_rounds_invariant.proofs.EvacuatedLemmas.{evacuated_still}
use Rattle.lxr_rounds_invariant.proofs.PauseLemmas.{mutators_paused}
use Rattle.lxr_rounds_invariant.proofs.ServingLemmas.{MayServe, full_cause, full_promise, rests_answered, rests_beside}

-- ---- calls of `new`

-- nothing but such calls stands after the last pause with one more
only_news : (t : ℕ) (o : Op) (r : Reply) (h : List Item) → ((dest : ℕ) × (shape : Shape) × (o ≡ op.New dest shape)) → OnlyNewsSincePause h → OnlyNewsSincePause (Call t o r ∷ h)
only_news t o r h (dest, shape, is) news = subst (λ x. OnlyNewsSincePause (Call t x r ∷ h)) (sym is) news

-- a refusal behind refusals
pub collected_since : (t : ℕ) (o : Op) (h : List Item) → ((dest : ℕ) × (shape : Shape) × (o ≡ op.New dest shape)) → IsCollectedSince h → IsCollectedSince (Call t o reply.Full ∷ h)
collected_since t o h (dest, shape, is) since = subst (λ x. IsCollectedSince (Call t x reply.Full ∷ h)) (sym is) since

-- ---- the beginning

-- after the pause of an epoch no `new` is answered yet, and none is owed its call
pub serving_begins : (task : Task) (space : Space) (seen : Option (List Sight)) (mutators : List Mutating) (h : List Item) (asked : Ask) (collected begins : Bool) (report : PauseReport) (g : AbstractState)
    → HaveMutators task h mutators → NewsWait mutators → HasMore mutators → asked ≡ asked_by collected begins → (asked ≡ ask.Collect) ↔ MustCollect (terms_of task) h → HasPaused task space seen h asked report g
    → IsServing task space seen mutators space.pauses collected mutators 0 false (Pause report ∷ h) g
serving_begins task space seen mutators h asked collected begins report g have news more by right paused = record {
  come = paused.come;
  between = paused.between;
  mutators_rest = mutators_paused task h report mutators have;
  news = news;
  unwaiting = λ i a at below. absurd (omega arith);
  short = λ t low. omega arith;
  none_yet = λ t past. refl;
  unasked = λ t. refl;
  only_news = tt;
  unserved = λ none collects. paused.collects.1 (by ∙ ap (λ c. asked_by c begins) collects);
  more = more;
  owes = inl (record { none = λ waiting. waiting.1 (right.0 (paused.collects.0 waiting.0)); few = omega arith });
  asked = refl;
  progress = inr refl;
}

module _ (task : Task) (space : Space) (seen : Option (List Sight)) (before : List Mutating) (paused : ℕ) (collected : Bool) (mutators : List Mutating) (first : ℕ) (served : Bool) (h : List Item) (g : AbstractState)
    (serving : IsServing task space seen before paused collected mutators first served h g) where
  -- ---- a thread

  -- a pause that collected for a `new` did it for that of the next thread that waits
  owed_next : (a : Mutating) → slice_get mutators first ≡ Some a → IsWaiting a → (one : OwesOne task space before paused collected served mutators h) → (first ≡ one.number) × (a ≡ one.mutator)
  owed_next a at waits one =
      ⊎_elim
      (λ (past : first < one.number). absurd (one.first first a at past waits))
      (λ (late : one.number ≤ first).
      ⊎_elim
      (λ (early : one.number < first). absurd (serving.unwaiting one.number one.mutator one.is early one.waits))
      (λ (same : first ≤ one.number).
      let is : first ≡ one.number = omega arith in
      let both : Some a ≡ Some one.mutator = sym at ∙ ap (slice_get mutators) is ∙ one.is in
      (is, (cc)))
      (cases_lt one.number first))
      (cases_lt first one.number)

  -- so its call keeps what the last pause promised
  promised : (a : Mutating) → slice_get mutators first ≡ Some a → IsWaiting a → (r : Reply) → KeepsPromise (terms_of task) h (Call (first + 1) (op_now a) r)
  promised a at waits r =
      ⊎_elim
      (λ (none : OwesNone task space before paused mutators h). promise_kept (terms_of task) h (Call (first + 1) (op_now a) r) none.none)
      (λ (one : OwesOne task space before paused collected served mutators h).
      let (number, same) = owed_next a at waits one in
      subst (λ n. KeepsPromise (terms_of task) h (Call (n + 1) (op_now a) r)) (sym number) (subst (λ (x : Mutating). KeepsPromise (terms_of task) h (Call (one.number + 1) (op_now x) r)) (sym same) (one.promise r)))
      serving.owes

  -- the `new` of the next thread may be answered, if it waits
  pub may_serve_next : (a : Mutating) → slice_get mutators first ≡ Some a → IsWaiting a → MayServe task space seen (first + 1) a collected served h g
  may_serve_next a at waits =
      let many = as_many task h mutators serving.mutators_rest in
      let within = slice_get_within mutators first a at in
      record {
        come = serving.come;
        between = serving.between;
        thread = (omega arith, omega arith);
        rests = serving.mutators_rest.rest.each first a at;
        operations = operations_at task.script mutators first a serving.mutators_rest.script at;
        waits = waits;
        news = serving.news first a at waits;
        none_yet = serving.none_yet (first + 1) (omega arith);
        unasked = serving.unasked (first + 1);
        unserved = serving.unserved;
        promise = promised a at waits;
      }

  -- one that waits for nothing is passed over
  pub passes : (a : Mutating) → slice_get mutators first ≡ Some a → ¬ IsWaiting a → IsServing task space seen before paused collected mutators (first + 1) served h g
  passes a at idle = record {
    come = serving.come;
    between = serving.between;
    mutators_rest = serving.mutators_rest;
    news = serving.news;
    unwaiting = λ i b here below.
        ⊎_elim
        (λ (earlier : i < first). serving.unwaiting i b here earlier)
        (λ (late : first ≤ i).
        let same : i ≡ first = omega arith in
        let both : Some b ≡ Some a = sym here ∙ ap (slice_get mutators) same ∙ at in
        let is : a ≡ b = cc in
        subst (λ (x : Mutating). ¬ IsWaiting x) is idle)
        (cases_lt i first);
    short = λ t low.
        ⊎_elim
        (λ (past : first < t). let none = serving.none_yet t past in omega arith)
        (λ (early : t ≤ first). serving.short t early)
        (cases_lt first t);
    none_yet = λ t past. serving.none_yet t (omega arith);
    unasked = serving.unasked;
    only_news = serving.only_news;
    unserved = serving.unserved;
    more = serving.more;
    owes = serving.owes;
    asked = serving.asked;
    progress = serving.progress;
  }

  -- ---- one more pause

  module _ (a : Mutating) (at : slice_get mutators first ≡ Some a) (waits : IsWaiting a) (not_yet : (collected ≡ false) ⊎ (served ≡ true)) where
    -- where the `new` of the next thread may not be refused yet, none is owed its call
    pub owes_none : OwesNone task space before paused mutators h
    owes_none =
        ⊎_elim
        (λ (none : OwesNone task space before paused mutators h). none)
        (λ (one : OwesOne task space before paused collected served mutators h).
        ⊎_elim
        (λ (never : collected ≡ false). absurd (let both : true ≡ false = sym one.collected_is ∙ never in cc))
        (λ (some : served ≡ true). absurd (let both : true ≡ false = sym some ∙ one.unserved in cc))
        not_yet)
        serving.owes

    module _ (dest : ℕ) (shape : Shape) (is : op_now a ≡ op.New dest shape) (full : IsFull space shape) where
      -- where there is no room for it, a pause is due that collects for it
      pub collection_due : IsPauseDue task h
      collection_due = record {
        cause = full_cause task space seen (first + 1) a collected served h g dest shape (may_serve_next a at waits) is full;
        early = was_early task.renews task.plan task.script h (ends_are_fewer task h mutators serving.come.history.0 serving.mutators_rest serving.more);
        owes_none = owes_none.none;
      }

      pub collection_right : IsAskedRight task h ask.Collect
      collection_right = inr (refl, serving.only_news)

      -- after that pause its turn comes first
      pub serving_again : (space' : Space) (seen' : Option (List Sight)) (report : PauseReport) (g' : AbstractState) → HasPaused task space' seen' h ask.Collect report g' → space'.pauses ≡ space.pauses + 1
          → IsServing task space' seen' before paused true mutators 0 false (Pause report ∷ h) g'
      serving_again space' seen' report g' has_paused one = record {
        come = has_paused.come;
        between = has_paused.between;
        mutators_rest = mutators_paused task h report mutators serving.mutators_rest;
        news = serving.news;
        unwaiting = λ i b here below. absurd (omega arith);
        short = λ t low. omega arith;
        none_yet = λ t past. refl;
        unasked = λ t. refl;
        only_news = tt;
        unserved = λ none collects. has_paused.collects.1 refl;
        more = serving.more;
        owes = inr (record {
          number = first;
          mutator = a;
          is = at;
          waits = waits;
          first = serving.unwaiting;
          promise = full_promise task space seen (first + 1) a collected served h g dest shape (may_serve_next a at waits) is full report;
          collected_is = refl;
          unserved = refl;
          few = let few = owes_none.few in omega arith;
        });
        asked = serving.asked;
        progress = serving.progress;
      }

-- ---- one thread is answered

-- an answered mutator neither waits nor is through
not_waiting : (m : Mutating) (r : Reply) → IsWaiting (answered m r) → ⊥
not_waiting m r e = let waits = e.0 in cc

not_through : (m : Mutating) (r : Reply) → IsThrough (answered m r) → ⊥
not_through m r through = let e = through.1 in cc

-- a `new` asks for no pause
new_asks_none : (o : Op) → ((dest : ℕ) × (shape : Shape) × (o ≡ op.New dest shape)) → asks_for_pause o ≡ false
new_asks_none o (dest, shape, is) = ap asks_for_pause is

-- a call of another thread doesn't count
since_other : (t u : ℕ) (o : Op) (r : Reply) (h : List Item) → t ≢ u → calls_since_pause t (Call u o r ∷ h) ≡ calls_since_pause t h
since_other t u o r h other =
    let unlike : nat_eq t u ≡ false = grind (arith, nat_tests) in
    ap (λ b. if b then suc (calls_since_pause t h) else calls_since_pause t h) unlike

-- it leaves who has asked for a pause
asked_new : (b asks before : Bool) → asks ≡ false → before ≡ false → ((b && asks) || before) ≡ false
asked_new true asks before e f = ap (λ x. x || before) e ∙ f
asked_new false asks before e f = f

module _ (task : Task) (space space' : Space) (seen : Option (List Sight)) (before : List Mutating) (paused : ℕ) (collected : Bool) (mutators : List Mutating) (first : ℕ) (served served' : Bool) (h : List Item) (g g' : AbstractState)
    (serving : IsServing task space seen before paused collected mutators first served h g) (a b : Mutating) (r : Reply) (at : slice_get mutators first ≡ Some a) (waits : IsWaiting a)
    (reply_is : IsAnswered a b r) where
  answers : AnswersWith a b r
  answers = answers_with a b r (serving.mutators_rest.rest.each first a at).mutator.sound reply_is

  -- it has other registers and the reply
  abbrev given : Mutating
  given = with_registers a answers.registers

  is : b ≡ answered given r
  is = answers.mutator

  -- the next thread, whose `new` is answered, is one of them
  within : first < length mutators
  within = slice_get_within mutators first a at

  news : IsNew a
  news = serving.news first a at waits

  -- all mutators rest for the history with its call
  answered_mutators : HaveMutators task (Call (first + 1) (op_now a) r ∷ h) (slice_set mutators first b)
  answered_mutators = record {
    rest = record {
      as_many = length-set mutators first b ∙ serving.mutators_rest.rest.as_many;
      each = set_each mutators first b (λ i c. RestsAfter (task_limits task) task.plan.every (Call (first + 1) (op_now a) r ∷ h) (i + 1) c) within
          (subst (RestsAfter (task_limits task) task.plan.every (Call (first + 1) (op_now a) r ∷ h) (first + 1)) (sym is)
          (rests_answered (task_limits task) task.plan.every h (first + 1) a answers.registers r (serving.mutators_rest.rest.each first a at) waits answers.are answers.whole))
          (λ i c other here. rests_beside (task_limits task) task.plan.every h (first + 1) (i + 1) c (op_now a) r (λ e. other (omega arith)) (serving.mutators_rest.rest.each i c here));
    };
    script = kept_put (λ (m : Mutating). m.operations) mutators first a b at (ap (λ (m : Mutating). m.operations) is) ∙ serving.mutators_rest.script;
    names = set_each mutators first b (λ i c. c.names ≡ task.names) within
        (ap (λ (m : Mutating). m.names) is ∙ serving.mutators_rest.names first a at)
        (λ i c other here. serving.mutators_rest.names i c here);
  }

  -- one operation more is done
  more_done : done_of (slice_set mutators first b) ≡ done_of mutators + 1
  more_done = done_more mutators first a b at (ap (λ (m : Mutating). length m.replies.items) is ∙ length_push a.replies.items r)

  -- and pauses are as few, with one at most for each `new` that was answered
  owes : space'.pauses ≡ space.pauses → OwesNone task space' before paused (slice_set mutators first b) (Call (first + 1) (op_now a) r ∷ h)
  owes same = record {
    none = tt;
    few =
        ⊎_elim
        (λ (none : OwesNone task space before paused mutators h). let few = none.few in let more = more_done in omega arith)
        (λ (one : OwesOne task space before paused collected served mutators h). let few = one.few in let more = more_done in omega arith)
        serving.owes;
  }

  -- once it is served or refused, it is the turn of the next thread
  pub goes_on : HasCome task space' seen (Call (first + 1) (op_now a) r ∷ h) g' → IsQuiescent space' g' → space'.pauses ≡ space.pauses
      → (served' ≡ false → collected ≡ true → IsCollectedSince (Call (first + 1) (op_now a) r ∷ h))
      → IsServing task space' seen before paused collected (slice_set mutators first b) (first + 1) served' (Call (first + 1) (op_now a) r ∷ h) g'
  goes_on come between same unserved = record {
    come = come;
    between = between;
    mutators_rest = answered_mutators;
    news = set_each mutators first b (λ i c. IsWaiting c → IsNew c) within
        (λ w. absurd (not_waiting given r (subst IsWaiting is w)))
        (λ i c other here. serving.news i c here);
    unwaiting = set_each mutators first b (λ i c. i < first + 1 → ¬ IsWaiting c) within
        (λ below w. not_waiting given r (subst IsWaiting is w))
        (λ i c other here below. serving.unwaiting i c here (omega arith));
    short = λ t low.
        ⊎_elim
        (λ (past : first < t).
        let own : t ≡ first + 1 = omega arith in
        let none = serving.none_yet (first + 1) (omega arith) in
        let one = since_call (first + 1) (op_now a) r h in
        subst (λ n. calls_since_pause n (Call (first + 1) (op_now a) r ∷ h) ≤ 1) (sym own) (omega arith))
        (λ (early : t ≤ first).
        let other = since_other t (first + 1) (op_now a) r h (λ e. absurd (omega arith)) in
        let few = serving.short t early in
        omega arith)
        (cases_lt first t);
    none_yet = λ t past. since_other t (first + 1) (op_now a) r h (λ e. absurd (omega arith)) ∙ serving.none_yet t (omega arith);
    unasked = λ t. asked_new (nat_eq t (first + 1)) (asks_for_pause (op_now a)) (has_asked t h) (new_asks_none (op_now a) news) (serving.unasked t);
    only_news = only_news (first + 1) (op_now a) r h news serving.only_news;
    unserved = unserved;
    more = (first, b, slice_get-set_same mutators first b within, λ through. not_through given r (subst IsThrough is through));
    owes = inl (owes same);
    asked = kept_put ordered_in mutators first a b at (ap ordered_in is) ∙ serving.asked;
    progress = inl (⊎_elim
        (λ (some : done_of before < done_of mutators). let more = more_done in omega arith)
        (λ (none : mutators ≡ before). let was : done_of mutators ≡ done_of before = ap done_of none in let more = more_done in omega arith)
        serving.progress);
  }

-- ---- the end

-- helpers that stay rest still
pub helpers_rest : (l : Limits) (before after : List AnyActor) → KeepsHelpers before after → HelpersRest l before → HelpersRest l after
helpers_rest l before after keeps rest = record {
  order = keeps.order;
  each = λ i d at. rest.each i d (subst (λ ds. slice_get ds i ≡ Some d) keeps.same at);
  tracers = λ i d at. rest.tracers i d (subst (λ ds. slice_get ds i ≡ Some d) keeps.tracers at);
}

-- what a run has come to stays where runs and free blocks are listed anew
pub come_listed : (task : Task) (before after : Space) (seen : Option (List Sight)) (h : List Item) (g : AbstractState) → HasCome task before seen h g → ListsAnew before after g
    → HasCome task after seen h g
come_listed task before after seen h g come lists = record {
  history = come.history;
  stands = come.stands;
  safepoint = lists.between.safepoint;
  limits = lists.limits ∙ come.limits;
  tally = subst (HasNumbersOf (threads_of task) h) (sym lists.tally) come.tally;
  evacuated = evacuated_still before after (ap (λ (t : Tally). t.moved) lists.tally) (ap (λ (t : Tally). t.kept) lists.tally) lists.limits lists.pauses come.evacuated;
  places = come.places;
  sights = subst (SeesTo (threads_of task) h task.seen seen come.places) (sym (ap evacuated_in lists.tally)) come.sights;
  kept = come.kept;
}

module _ (task : Task) (space : Space) (seen : Option (List Sight)) (before : List Mutating) (paused : ℕ) (collected : Bool) (mutators : List Mutating) (first : ℕ) (served : Bool) (h : List Item) (g : AbstractState)
    (serving : IsServing task space seen before paused collected mutators first served h g) (all : first ≡ length mutators) where
  -- once all threads have had their turn, nobody waits
  nobody_waits : (i : ℕ) (a : Mutating) → slice_get mutators i ≡ Some a → IsWaiting a → ⊥
  nobody_waits i a at waits = serving.unwaiting i a at (let within = slice_get_within mutators i a at in omega arith) waits

  -- so none is owed its call
  owes_no_more : OwesNone task space before paused mutators h
  owes_no_more =
      ⊎_elim
      (λ (none : OwesNone task space before paused mutators h). none)
      (λ (one : OwesOne task space before paused collected served mutators h). absurd (nobody_waits one.number one.mutator one.is one.waits))
      serving.owes

  -- and where one waited, something was done
  some_done : SomeWait before → done_of before < done_of mutators
  some_done (i, a, at, waits) =
      ⊎_elim
      (λ (some : done_of before < done_of mutators). some)
      (λ (none : mutators ≡ before). absurd (nobody_waits i a (ap (λ ms. slice_get ms i) none ∙ at) waits))
      serving.progress

  -- no less is done than before
  done_grows : done_of before ≤ done_of mutators
  done_grows =
      ⊎_elim
      (λ (some : done_of before < done_of mutators). omega arith)
      (λ (none : mutators ≡ before). let was : done_of mutators ≡ done_of before = ap done_of none in omega arith)
      serving.progress

-- An epoch ran from `before` to `actors`, and a pause was made behind it. Once all threads have had their turn, and runs and
-- free blocks are listed anew, the run is between two epochs again.
pub amid_again : (task : Task) (safepoint space after : Space) (seen seen' : Option (List Sight)) (before actors actors' : List AnyActor) (paused first : ℕ) (collected served : Bool) (h h' : List Item) (g g' : AbstractState)
    → HasRunEpoch task safepoint seen before actors h g → paused ≡ safepoint.pauses + 1 → IsServing task space seen' (mutators_in actors) paused collected (mutators_in actors') first served h' g' → first ≡ length (mutators_in actors')
    → KeepsHelpers actors actors' → ListsAnew space after g' → IsBetweenEpochs task after seen' actors' h' g'
amid_again task safepoint space after seen seen' before actors actors' paused first collected served h h' g g' ran one serving all keeps lists = record {
  come = come_listed task space after seen' h' g' serving.come lists;
  between = lists.between;
  listed = lists.listed;
  all_listed = lists.all_listed;
  actors_rest = record {
    mutators = serving.mutators_rest;
    helpers = helpers_rest (task_limits task) actors actors' keeps ran.actors_rest.helpers;
    workers = ap length keeps.same ∙ ran.actors_rest.workers;
    tracers = ap length keeps.tracers ∙ ran.actors_rest.tracers;
    few = ran.actors_rest.few;
  };
  served = record {
    unwaiting = nobody_waits task space seen' (mutators_in actors) paused collected (mutators_in actors') first served h' g' serving all;
    few = λ t. ⊎_elim (λ (past : first < t). let none = serving.none_yet t past in omega arith) (λ (early : t ≤ first). serving.short t early) (cases_lt first t);
    unasked = serving.unasked;
  };
  owes_none = last.none;
  few = let few = few_again in let same = lists.pauses in omega arith;
  more = serving.more;
}
  where
    last : OwesNone task space (mutators_in actors) paused (mutators_in actors') h'
    last = owes_no_more task space seen' (mutators_in actors) paused collected (mutators_in actors') first served h' g' serving all

    progress : (done_of (mutators_in before) < done_of (mutators_in actors)) ⊎ SomeWait (mutators_in actors) → (done_of (mutators_in before) < done_of (mutators_in actors)) ⊎ (done_of (mutators_in actors) < done_of (mutators_in actors'))
    progress (inl more) = inl more
    progress (inr some) = inr (some_done task space seen' (mutators_in actors) paused collected (mutators_in actors') first served h' g' serving all some)

    few_again : space.pauses ≤ 2 * done_of (mutators_in actors')
    few_again =
        let few : space.pauses + done_of (mutators_in actors) ≤ paused + done_of (mutators_in actors') = let last_few = last.few in omega arith in
        pauses_stay_few safepoint.pauses (done_of (mutators_in before)) paused (done_of (mutators_in actors)) space.pauses (done_of (mutators_in actors')) ran.few ran.grows (progress ran.progress) one few
        (done_grows task space seen' (mutators_in actors) paused collected (mutators_in actors') first served h' g' serving all)

-- and less is left than before the epoch
pub does_something : (task : Task) (safepoint space : Space) (seen seen' : Option (List Sight)) (before actors actors' : List AnyActor) (paused first : ℕ) (collected served : Bool) (h h' : List Item) (g g' : AbstractState)
    → HasRunEpoch task safepoint seen before actors h g → IsServing task space seen' (mutators_in actors) paused collected (mutators_in actors') first served h' g' → first ≡ length (mutators_in actors')
    → done_of (mutators_in before) < done_of (mutators_in actors')
does_something task safepoint space seen seen' before actors actors' paused first collected served h h' g g' ran serving all =
    ⊎_elim
    (λ (more : done_of (mutators_in before) < done_of (mutators_in actors)).
    let grows = done_grows task space seen' (mutators_in actors) paused collected (mutators_in actors') first served h' g' serving all in
    omega arith)
    (λ (some : SomeWait (mutators_in actors)).
    let more = some_done task space seen' (mutators_in actors) paused collected (mutators_in actors') first served h' g' serving all some in
    let grows = ran.grows in
    omega arith)
    ran.progress

-- so it is of each epoch
pub runs_go_on : RunsGoOn
runs_go_on task safepoint space after seen seen' before actors actors' paused first collected served h h' g g' ran one serving all keeps lists = record {
  amid = amid_again task safepoint space after seen seen' before actors actors' paused first collected served h h' g g' ran one serving all keeps lists;
  more = does_something task safepoint space seen seen' before actors actors' paused first collected served h h' g g' ran serving all;
}
