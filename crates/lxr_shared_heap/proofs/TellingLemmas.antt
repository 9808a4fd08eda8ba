-- The invariant of an epoch holds behind the events that a pass has seen, so what a mutator shows there at rest is told by the history that they led to.
use Rattle.std.proofs.Common.{false, true, ◌≡◌, ◌∙◌, ℕ, ◌+◌, ◌-◌, ◌<◌, refl, sym, ap, subst, arith, List, [], ◌∷◌, ◌++◌, length, take}
use Rattle.std.specs.Option.{option_or}
use Rattle.std.specs.Prelude.{◌↔◌, None, Option, Some, slice_get}
use Rattle.std.proofs.lemmas.List.{length-append, length-map}
use Rattle.std.proofs.lemmas.Option.{slice_get_within}
use Rattle.lxr_layout.specs.declared.limits.Limits.{Limits}
use Rattle.lxr_graph.specs.declared.Op.{Op}
use Rattle.lxr_graph.specs.declared.Reply.{Reply}
use Rattle.lxr_graph.specs.History.{Item, calls_of, replies_of}
use Rattle.lxr_model.specs.Belongs.{IsHistorySoFar, Script, operations_of}
use Rattle.lxr_model_laws.specs.ScriptLaws.{GoesOn}
use Rattle.lxr_model_laws.proofs.ScriptLemmas.{as_many_go_on}
use Rattle.lxr_actor.specs.declared.Core.{Core}
use Rattle.lxr_actor.specs.declared.Event.{Event}
use Rattle.lxr_actor.specs.Run.{run}
use Rattle.lxr_mutator.specs.declared.phases.MutEnd.{MutEnd}
use Rattle.lxr_mutator.specs.declared.phases.MutatorPhase.{MutatorPhase}
use Rattle.lxr_mutator.specs.declared.phases.MutatorPhase.TheVariants as phase
use Rattle.lxr_mutator.specs.Dialogues.{most_operations}
use Rattle.lxr_mutator.specs.Mutating.{Mutating, last_reply, newest_of, reply_in, rests_in}
use Rattle.lxr_mutator.specs.Naming.{all_told_as}
use Rattle.lxr_core_invariant.specs.Called.{HasCalled, IsWithinTurn, waiting_in}
use Rattle.lxr_core_invariant.specs.Epoch.{IsResting}
use Rattle.lxr_core_invariant.specs.EpochStates.{Beginning, EpochState, Extends}
use Rattle.lxr_core_invariant.specs.ThreadStates.{Through, all_of}
use Rattle.lxr_core_invariant.proofs.RestLemmas.{all_replied, none_waits}
use Rattle.lxr_core_sim_mutator.specs.Showing.{HasTold, reason_by, stage_in, told_in}
use Rattle.lxr_core.specs.declared.actors.AnyActor.{AnyActor}
use Rattle.lxr_core.specs.declared.actors.AnyActor.TheVariants as any
use Rattle.lxr_core.specs.Actors.{any_machine, mutators_in, script_of}
use Rattle.lxr_core.specs.Executions.{Execution, HoldsAfter, IsExecution, epoch_state_of, tell_all}
use Rattle.lxr_core.specs.Ordering.{TellNames}
use Rattle.lxr_core.proofs.ExecutionLemmas.{epoch_invariant_holds}
use Rattle.lxr_core.proofs.MappedLemmas.{mapped, mapped_from}
use Rattle.lxr_core.proofs.OrderLemmas.{mutator_at, mutator_from}
use Rattle.lxr_core.proofs.LastingLemmas.{names_run}
use Rattle.lxr_core.proofs.ScriptLemmas.{scripts_go_on}
use Rattle.lxr_core.proofs.ToldLemmas.{shown_in, shown_told, told_as_kept, told_length, told_state}
use Rattle.lxr_shared.specs.Sharing.{Sharing}
use Rattle.lxr_shared_passes.specs.Passing.{IsAt, Passing}
use Rattle.lxr_rounds_history.specs.Growing.{CallsBeginScript, NamesFew}
use Rattle.lxr_rounds_history.proofs.HistoryLemmas.{history_extends}
use Rattle.lxr_rounds_invariant.specs.Laws.{beginning_of}
use Rattle.lxr_rounds_invariant.specs.LoopInvariant.{HaveMutators, Task, terms_of}
use Rattle.lxr_rounds_invariant.proofs.ActorLemmas.{asked_few, found, operations_at}
use Rattle.lxr_shared_heap.specs.declared.settings.Settings.{Settings}
use Rattle.lxr_shared_heap.specs.declared.heap.Stage.{Stage as HeapStage}
use Rattle.lxr_shared_heap.specs.declared.heap.Stage.TheVariants as stage
use Rattle.lxr_shared_heap.specs.Heaps.{DoneIsTold, HasLimits, HasOpened, IsPassOf, MutatorsComeFirst, MutatorsHaveLimits, OpenIsTold, StandsFor, StationsTellHistories, told_behind}
use Rattle.lxr_stations.specs.Living.{AreLive}
use Rattle.lxr_shared_heap.specs.Settings.{plan_in, run_of}
use Rattle.lxr_shared_heap.specs.Telling.{EndsByNewest, HasReplied, HaveReplied, TellsAnswer, TellsHistory, TellsNewest}
use Rattle.lxr_stations.specs.Stations.{Stationed, asked, is_mutator, replied}
use Rattle.lxr_shared_heap.proofs.RecallLemmas.{all_come, newest_recalled}
use Rattle.lxr_stations.proofs.LivingLemmas.{live_run}
use Rattle.lxr_shared_heap.proofs.NewestLemmas.{behind_is, newest_told, told_newest}

-- ---- a mutator at rest

-- the stage of one that rests does
stage_rests : (m : Mutating) (p : MutatorPhase) → rests_in p ≡ true → IsResting (stage_in m p)
stage_rests m phase.Ready rests = tt
stage_rests m phase.Finished rests = tt
stage_rests m p rests = absurd (cc)

-- so its calls and replies are those of the history
has_replied : (b : Beginning) (s : EpochState) (m : Mutating) → HasTold s.history m → HasCalled b s (told_state s.history m) → rests_in m.phase ≡ true → HasReplied m.thread s.history m
has_replied b s m told has rests =
    let resting = stage_rests m m.phase rests in
    let none = none_waits (stage_in m m.phase) resting in
    let many = told_length s.history m told in
    record {
      calls = has.calls ∙ ap (λ n. take n (all_of m.operations)) (omega (arith, none, many));
      replies = told_as_kept s.history m told (all_replied b s (told_state s.history m) (stage_in m m.phase) resting has.replies);
      ended = λ through. sym many ∙ (subst (IsWithinTurn s (told_state s.history m)) (ap (stage_in m) through.0 ∙ ap (λ e. Through (reason_by e)) through.1) has.within_turn).2;
    }

-- mutators that rest behind a history have replied in it
pub have_replied : (task : Task) (h : List Item) (mutators : List Mutating) → HaveMutators task h mutators → HaveReplied h mutators
have_replied task h mutators have i m at = let rests = have.rest.each i m at in record { calls = rests.calls; replies = rests.replies; ended = λ through. rests.ended through.1 }

-- ---- what mutators of an epoch show last

-- as it opened each one's last unit had ended with its thread's newest reply, if with one, and its replies were those of the history
opened_newest : (task : Task) (h : List Item) (epoch : Sharing) (open_epoch : HasOpened task h epoch) (i : ℕ) (m : Mutating) → slice_get (mutators_in open_epoch.running.opened.core.actors) i ≡ Some m
    → EndsByNewest (i + 1) h m × (all_told_as m.names (replies_of (i + 1) h) ≡ m.replies.items)
opened_newest task h epoch open_epoch i m at =
    let shows = ap (λ z. slice_get z i) (sym open_epoch.shown) ∙ mapped (λ (m : Mutating). (m.replies.items, m.end)) (mutators_in open_epoch.running.opened.core.actors) i m at in
    let (x, there, is) = mapped_from (λ (m : Mutating). (m.replies.items, m.end)) (mutators_in open_epoch.actors) i (m.replies.items, m.end) shows in
    let same : m.names ≡ x.names = open_epoch.names i m at ∙ sym (open_epoch.before.actors_rest.mutators.names i x there) in (
      λ r told. subst (λ b. TellsNewest b (i + 1) h r) (sym same) (open_epoch.newest i x there r (ap (λ (z : List Reply × Option MutEnd). reply_in z.1) (sym is) ∙ told)),
      ap (λ b. all_told_as b (replies_of (i + 1) h)) same ∙ (open_epoch.before.actors_rest.mutators.rest.each i x there).replies ∙ ap (λ (z : List Reply × Option MutEnd). z.0) (sym is),
    )

-- so it is behind each schedule, for a history that goes on from there and has its replies
pub ends_newest : (task : Task) (h : List Item) (epoch : Sharing) (open_epoch : HasOpened task h epoch) (threads every : ℕ) (k : List Item) (schedule : List Event) (i : ℕ) (m : Mutating)
    → slice_get (run any_machine open_epoch.running.opened.core schedule).actors i ≡ Some (any.Mutator m) → Extends threads every h k → all_told_as m.names (replies_of (i + 1) k) ≡ m.replies.items → EndsByNewest (i + 1) k m
ends_newest task h epoch open_epoch threads every k schedule i m at extends replied =
    let (a, was, (x, is, recalls)) = all_come open_epoch.running.opened.core schedule i (any.Mutator m) at in
    let there = mutator_at open_epoch.running.opened.core.actors i x open_epoch.running.holds.1.order (was ∙ ap Some is) in
    let (newest, had) = opened_newest task h epoch open_epoch i x there in
    newest_recalled threads every h k (i + 1) x m extends recalls had replied newest

-- what it shows as its newest reply is its thread's
shown_newest : (t : ℕ) (h : List Item) (m : Mutating) → all_told_as m.names (replies_of t h) ≡ m.replies.items → EndsByNewest t h m → (r : Reply) → newest_of m ≡ Some r → TellsNewest m.names t h r
shown_newest t h m replied newest r is = by_last (last_reply m) refl
  where
    by_last : (o : Option Reply) → last_reply m ≡ o → TellsNewest m.names t h r
    by_last None none = newest r (sym (ap (λ z. option_or z (reply_in m.end)) none) ∙ is)
    by_last (Some q) last =
        let within = slice_get_within m.replies.items (length m.replies.items - 1) q last in
        newest_told t h m r replied (omega (arith, within)) is

-- who has replied shows a reply
shown_none : (m : Mutating) → newest_of m ≡ None → m.replies.items ≡ []
shown_none m none = by_replies m.replies.items refl
  where
    by_last : (o : Option Reply) → option_or o (reply_in m.end) ≡ None → o ≡ None
    by_last None is = refl
    by_last (Some r) is = absurd (cc)

    by_replies : (rs : List Reply) → m.replies.items ≡ rs → m.replies.items ≡ []
    by_replies [] same = same
    by_replies (q ∷ rs) same =
        let (r, at) = found (q ∷ rs) (length (q ∷ rs) - 1) (omega arith) in
        let told : last_reply m ≡ Some r = ap (λ xs. slice_get xs (length xs - 1)) same ∙ at in
        absurd (let wrong : Some r ≡ None = sym told ∙ by_last (last_reply m) none in cc)

-- ---- an epoch behind a schedule

module _ (settings : Settings) (script : Script) (h : List Item) (epoch : Sharing) (open_epoch : HasOpened (run_of settings script) h epoch) (schedule : List Event) where
  abbrev b : Beginning
  b = beginning_of (run_of settings script) open_epoch.space h open_epoch.abstract_state

  -- what the schedule has led to
  abbrev now : Execution
  now = tell_all b open_epoch.running.opened schedule

  after : HoldsAfter b open_epoch.running.opened schedule
  after = epoch_invariant_holds b open_epoch.running.opened schedule open_epoch.running.holds

  is : IsExecution b now after.holds.0
  is = after.holds.1

  abbrev state : EpochState
  state = epoch_state_of b now after.holds.0

  -- its actors are those of the epoch's opening behind the schedule
  ran_is : now.core ≡ run any_machine epoch.opening schedule
  ran_is = after.core ∙ ap (λ k. run any_machine k schedule) open_epoch.running.core

  abbrev asked_now : Script
  asked_now = script_of (mutators_in now.core.actors)

  on : GoesOn script asked_now
  on =
      subst (λ s. GoesOn s asked_now) open_epoch.script
      (subst (λ (k : Core AnyActor). GoesOn (script_of (mutators_in open_epoch.running.opened.core.actors)) (script_of (mutators_in k.actors))) (sym after.core)
      (scripts_go_on open_epoch.running.opened.core schedule))

  extends : Extends (length script) settings.every h now.history
  extends = subst (λ n. Extends n settings.every h now.history) (ap (λ (l : Limits). l.threads) open_epoch.before.come.limits) is.epoch.extends

  -- what a mutator shows
  shown : (i : ℕ) (m : Mutating) → slice_get (mutators_in now.core.actors) i ≡ Some m → slice_get state.thread_states i ≡ Some (told_state now.history m)
  shown i m at = mapped (shown_in now.history) (mutators_in now.core.actors) i m at ∙ ap Some (shown_told now.history m (is.told i m at))

  called : (i : ℕ) (m : Mutating) → slice_get (mutators_in now.core.actors) i ≡ Some m → HasCalled b state (told_state now.history m)
  called i m at = is.epoch.called.each i (told_state now.history m) (shown i m at)

  thread : (i : ℕ) (m : Mutating) → slice_get (mutators_in now.core.actors) i ≡ Some m → m.thread ≡ i + 1
  thread i m at = is.epoch.called.threads i (told_state now.history m) (shown i m at)

  -- they tell names as the settings say
  named : TellNames settings.names (mutators_in now.core.actors)
  named = subst (λ (k : Core AnyActor). TellNames settings.names (mutators_in k.actors)) (sym after.core) (names_run settings.names open_epoch.running.opened.core schedule open_epoch.names)

  -- each thread has begun what was asked so far, whether or not its mutator rests
  begun : CallsBeginScript asked_now now.history
  begun t low high =
      let many = length-map (mutators_in now.core.actors) (λ (m : Mutating). m.operations) in
      let (m, at) = found (mutators_in now.core.actors) (t - 1) (omega (arith, many, low, high)) in
      let own : m.thread ≡ t = thread (t - 1) m at ∙ (omega (arith, low)) in
      let number : t - 1 + 1 ≡ t = omega (arith, low) in
      let n = length (told_in now.history m).replies.items + waiting_in (stage_in m m.phase) in
      let calls : calls_of t now.history ≡ take n (all_of m.operations) = subst (λ u. calls_of u now.history ≡ take n (all_of m.operations)) own (called (t - 1) m at).calls in
      let operations : operations_of asked_now t ≡ all_of m.operations =
      subst (λ u. operations_of asked_now u ≡ all_of m.operations) number (operations_at asked_now (mutators_in now.core.actors) (t - 1) m refl at) in
      (n, subst (λ z. calls_of t now.history ≡ take n z) (sym operations) calls)

  -- what it was asked names no more registers than the settings say
  few : NamesFew settings.registers asked_now
  few = subst (λ n. NamesFew n asked_now) (ap (λ (l : Limits). l.registers) open_epoch.before.come.limits) (asked_few open_epoch.space.limits (mutators_in now.core.actors) is.mutators)

  history : IsHistorySoFar (terms_of (run_of settings asked_now)) asked_now now.history
  history = history_extends true (plan_in settings) script asked_now h now.history open_epoch.before.come.history open_epoch.before.owes_none on few extends begun

  -- there is a mutator for each thread
  pub mutator_of : (number : ℕ) → number < length script → (m : Mutating) × (slice_get now.core.actors number ≡ Some (any.Mutator m))
  mutator_of number less =
      let many = sym (length-map (mutators_in now.core.actors) (shown_in now.history)) ∙ is.epoch.called.as_many ∙ ap (λ (l : Limits). l.threads) open_epoch.before.come.limits in
      let (m, at) = found (mutators_in now.core.actors) number (omega (arith, many, less)) in
      (m, mutator_from now.core.actors number m is.order at)

  pub tells : (number : ℕ) (m : Mutating) → slice_get now.core.actors number ≡ Some (any.Mutator m) → rests_in m.phase ≡ true → TellsHistory settings script h now.history number m
  tells number m there rests =
      let at = mutator_at now.core.actors number m is.order there in
      let done = subst (λ t. HasReplied t now.history m) (thread number m at) (has_replied b state m (is.told number m at) (called number m at) rests) in record {
        script' = asked_now;
        goes_on = on;
        extends = extends;
        belongs = history;
        asked = mapped (λ (m : Mutating). m.operations) (mutators_in now.core.actors) number m at;
        names = named number m at;
        replied = done;
        newest = shown_newest (number + 1) now.history m done.replies
            (ends_newest (run_of settings script) h epoch open_epoch (length script) settings.every now.history schedule number m (sym (ap (λ (k : Core AnyActor). slice_get k.actors number) after.core) ∙ there) extends done.replies);
        silent = shown_none m;
      }

  -- a mutator has its limits, for which it was made
  pub limits : (number : ℕ) (m : Mutating) → slice_get now.core.actors number ≡ Some (any.Mutator m) → HasLimits settings number m
  limits number m there =
      let at = mutator_at now.core.actors number m is.order there in
      let live = subst (λ (k : Core AnyActor). AreLive (mutators_in k.actors)) (sym after.core) (live_run open_epoch.running.opened.core schedule open_epoch.live) in record {
        registers = (is.mutators number m at).width ∙ ap (λ (l : Limits). l.registers) open_epoch.before.come.limits;
        room = (live number m at).0 ∙ ap (λ t. most_operations t + 2) (thread number m at);
      }

-- what a mutator's pass shows is so in a history, where it is where the events that it has seen have led it from the epoch's opening, and rests
pub pass_tells : (settings : Settings) (script : Script) (h : List Item) (epoch : Sharing) (open_epoch : HasOpened (run_of settings script) h epoch) (number : ℕ) (p : Passing AnyActor) (m : Mutating)
    → IsAt any_machine epoch.opening p.seen number p.actor → any_machine.rests p.actor ≡ true → p.actor ≡ any.Mutator m
    → TellsHistory settings script h (now settings script h epoch open_epoch p.seen).history number m
pass_tells settings script h epoch open_epoch number p m at rests is =
    tells settings script h epoch open_epoch p.seen number m
    (ap (λ (k : Core AnyActor). slice_get k.actors number) (ran_is settings script h epoch open_epoch p.seen) ∙ at ∙ ap Some is)
    (subst (λ a. any_machine.rests a ≡ true) is rests)

module _ (settings : Settings) (script : Script) (h : List Item) (epoch : Sharing) (open_epoch : HasOpened (run_of settings script) h epoch) (number : ℕ) (p q : Passing AnyActor)
    (p_at : IsAt any_machine epoch.opening p.seen number p.actor) (p_rests : any_machine.rests p.actor ≡ true) (q_at : IsAt any_machine epoch.opening q.seen number q.actor) (q_rests : any_machine.rests q.actor ≡ true) where
  -- a pass that is a mutator's was one before
  was_mutator : (m : Mutating) → q.actor ≡ any.Mutator m → (x : Mutating) × (p.actor ≡ any.Mutator x)
  was_mutator m is =
      let tells = pass_tells settings script h epoch open_epoch number q m q_at q_rests is in
      let less = slice_get_within tells.script' number m.operations tells.asked in
      let many = as_many_go_on script tells.script' tells.goes_on in
      let (x, at) = mutator_of settings script h epoch open_epoch p.seen number (omega (arith, less, many)) in
      let there = ap (λ (k : Core AnyActor). slice_get k.actors number) (ran_is settings script h epoch open_epoch p.seen) ∙ p_at in
      (x, cc)

  -- where it has one reply more, to the operation at that place, that is its thread's newest call
  pub adds_call : (o : Op) (r : Reply) → replied q.actor ≡ replied p.actor ++ r ∷ [] → slice_get (asked q.actor) (length (replied p.actor)) ≡ Some o → TellsAnswer settings script h (now settings script h epoch open_epoch q.seen).history number o r q.actor
  adds_call o r more at = by_kind q.actor refl
    where
      by_kind : (a : AnyActor) → q.actor ≡ a → TellsAnswer settings script h (now settings script h epoch open_epoch q.seen).history number o r q.actor
      by_kind (any.Mutator m) is =
          let (x, was) = was_mutator m is in
          let tells = pass_tells settings script h epoch open_epoch number q m q_at q_rests is in
          let told = pass_tells settings script h epoch open_epoch number p x p_at p_rests was in
          let (kept, as_told, newest) = told_newest settings script h (now settings script h epoch open_epoch q.seen).history (now settings script h epoch open_epoch p.seen).history number x m o r tells told (sym (ap replied is) ∙ more ∙ ap (λ a. replied a ++ r ∷ []) was)
          (ap (slice_get m.operations) (ap (λ a. length (replied a)) (sym was)) ∙ sym (ap (λ a. slice_get (asked a) (length (replied p.actor))) is) ∙ at) in record {
            mutator = m;
            is = is;
            tells = tells;
            replied = kept;
            told = as_told;
            newest = newest;
          }
      by_kind (any.Decrementer d) is = absurd (let many = ap length more ∙ length-append (replied p.actor) (r ∷ []) in let none : length (replied q.actor) ≡ 0 = ap (λ a. length (replied a)) is in omega (arith, many, none))
      by_kind (any.Tracer d) is = absurd (let many = ap length more ∙ length-append (replied p.actor) (r ∷ []) in let none : length (replied q.actor) ≡ 0 = ap (λ a. length (replied a)) is in omega (arith, many, none))

-- the first passes are those of mutators, and no others are
first_of : (settings : Settings) (script : Script) (h : List Item) (epoch : Sharing) (open_epoch : HasOpened (run_of settings script) h epoch) (number : ℕ) (p : Passing AnyActor) → IsAt any_machine epoch.opening p.seen number p.actor
    → any_machine.rests p.actor ≡ true → (number < length script) ↔ (is_mutator p.actor ≡ true)
first_of settings script h epoch open_epoch number p at rests = (first_are, by_kind p.actor refl)
  where
    first_are : number < length script → is_mutator p.actor ≡ true
    first_are less =
        let (m, here) = mutator_of settings script h epoch open_epoch p.seen number less in
        let there = ap (λ (k : Core AnyActor). slice_get k.actors number) (ran_is settings script h epoch open_epoch p.seen) ∙ at in
        let is : p.actor ≡ any.Mutator m = cc in
        ap is_mutator is

    by_kind : (a : AnyActor) → p.actor ≡ a → is_mutator p.actor ≡ true → number < length script
    by_kind (any.Mutator m) is mutator =
        let tells = pass_tells settings script h epoch open_epoch number p m at rests is in
        let less = slice_get_within tells.script' number m.operations tells.asked in
        let many = as_many_go_on script tells.script' tells.goes_on in
        omega (arith, less, many)
    by_kind (any.Decrementer d) is mutator = absurd (let wrong : false ≡ true = sym (ap is_mutator is) ∙ mutator in cc)
    by_kind (any.Tracer d) is mutator = absurd (let wrong : false ≡ true = sym (ap is_mutator is) ∙ mutator in cc)

-- ---- wherever the heap stands

first_at : (settings : Settings) (script : Script) (h : List Item) (number : ℕ) (s : Stationed) (at : HeapStage) → StandsFor (run_of settings script) h at → IsPassOf at number s → (number < length script) ↔ (is_mutator s.pass.actor ≡ true)
first_at settings script h number s (stage.Within live) stands of = first_of settings script h live.epoch stands number s.pass of.pass.at of.pass.rests
first_at settings script h number s (stage.Between space actors) stands of = absurd of
first_at settings script h number s (stage.Ended space actors) stands of = absurd of
first_at settings script h number s stage.Lost stands of = absurd of

pub mutators_come_first : MutatorsComeFirst
mutators_come_first script h heap number s of pass = subst (λ n. (number < n) ↔ (is_mutator s.pass.actor ≡ true)) of.threads (first_at heap.settings script h number s heap.stage of.stands pass)

limits_at : (settings : Settings) (script : Script) (h : List Item) (number : ℕ) (s : Stationed) (m : Mutating) (at : HeapStage) → StandsFor (run_of settings script) h at → IsPassOf at number s → s.pass.actor ≡ any.Mutator m
    → HasLimits settings number m
limits_at settings script h number s m (stage.Within live) stands of actor =
    limits settings script h live.epoch stands s.pass.seen number m
    (ap (λ (k : Core AnyActor). slice_get k.actors number) (ran_is settings script h live.epoch stands s.pass.seen) ∙ of.pass.at ∙ ap Some actor)
limits_at settings script h number s m (stage.Between space actors) stands of actor = absurd of
limits_at settings script h number s m (stage.Ended space actors) stands of actor = absurd of
limits_at settings script h number s m stage.Lost stands of actor = absurd of

pub mutators_have_limits : MutatorsHaveLimits
mutators_have_limits script h heap number s m of pass actor = limits_at heap.settings script h number s m heap.stage of.stands pass actor

told_at : (settings : Settings) (script : Script) (h : List Item) (number : ℕ) (s : Stationed) (m : Mutating) (at : HeapStage) (stands : StandsFor (run_of settings script) h at) → IsPassOf at number s
    → s.pass.actor ≡ any.Mutator m → TellsHistory settings script h (told_behind (run_of settings script) h at stands s.pass.seen) number m
told_at settings script h number s m (stage.Within live) stands of actor = pass_tells settings script h live.epoch stands number s.pass m of.pass.at of.pass.rests actor
told_at settings script h number s m (stage.Between space actors) stands of actor = absurd of
told_at settings script h number s m (stage.Ended space actors) stands of actor = absurd of
told_at settings script h number s m stage.Lost stands of actor = absurd of

adds_at : (settings : Settings) (script : Script) (h : List Item) (number : ℕ) (s t : Stationed) (o : Op) (r : Reply) (at : HeapStage) (stands : StandsFor (run_of settings script) h at) → IsPassOf at number s → IsPassOf at number t
    → replied t.pass.actor ≡ replied s.pass.actor ++ r ∷ [] → slice_get (asked t.pass.actor) (length (replied s.pass.actor)) ≡ Some o → TellsAnswer settings script h (told_behind (run_of settings script) h at stands t.pass.seen) number o r t.pass.actor
adds_at settings script h number s t o r (stage.Within live) stands was later more found =
    adds_call settings script h live.epoch stands number s.pass t.pass was.pass.at was.pass.rests later.pass.at later.pass.rests o r more found
adds_at settings script h number s t o r (stage.Between space actors) stands was later more found = absurd was
adds_at settings script h number s t o r (stage.Ended space actors) stands was later more found = absurd was
adds_at settings script h number s t o r stage.Lost stands was later more found = absurd was

pub stations_tell_histories : StationsTellHistories
stations_tell_histories script h heap number s m of pass actor = told_at heap.settings script h number s m heap.stage of.stands pass actor

pub done_is_told : DoneIsTold
done_is_told script h heap number s o r t of was later (ordered, all, more, reply) =
    adds_at heap.settings script h number s t o r heap.stage of.stands was later reply
    (ap (λ os. slice_get os (length (replied s.pass.actor))) more ∙ ap (slice_get (asked s.pass.actor ++ o ∷ [])) all ∙ behind_is (asked s.pass.actor) o)

pub open_is_told : OpenIsTold
open_is_told script h heap number s r t of was later (turned, less, same, reply) =
    let (o, at) = found (asked s.pass.actor) (length (replied s.pass.actor)) less in
    (o, at, adds_at heap.settings script h number s t o r heap.stage of.stands was later reply (ap (λ os. slice_get os (length (replied s.pass.actor))) same ∙ at))
