-- What the serving of a `new` that waits does to a run: its call joins the history, and its reply those of its mutator.
use Rattle.std.proofs.Common.{◌≡◌, ◌≢◌, ℕ, ◌+◌, ◌<◌, ◌≤◌, refl, sym, ap, subst, ◌∙◌, arith, Bool, true, false, IsTrue, List, [], ◌∷◌, ◌++◌, length, take, nat_eq}
use Rattle.std.specs.Prelude.{Option, Some, None, slice_get, if◌then◌else◌}
use Rattle.std.specs.List.{count_by}
use Rattle.std.proofs.lemmas.List.{length-take-le, length_push, take_more}
use Rattle.std.proofs.lemmas.Bool.{eq-eqb}
use Rattle.std.proofs.lemmas.Bool.Decides.{nat_tests}
use Rattle.std.proofs.lemmas.Option.{get_or_from_slice_get, slice_get_within}
use Rattle.lxr_layout.specs.declared.Name.{Name}
use Rattle.lxr_layout.specs.declared.Place.{Place}
use Rattle.lxr_layout.specs.declared.Shape.{Shape}
use Rattle.lxr_layout.specs.declared.limits.Limits.{Limits}
use Rattle.lxr_graph.specs.declared.Op.{Op}
use Rattle.lxr_graph.specs.declared.Op.TheVariants as op
use Rattle.lxr_graph.specs.declared.Reply.{Reply}
use Rattle.lxr_graph.specs.declared.Reply.TheVariants as reply
use Rattle.lxr_graph.specs.History.{Item, Call, Pause, PauseReport, calls_of, replies_of}
use Rattle.lxr_graph.specs.Names.{has, same_name}
use Rattle.lxr_graph.specs.State.{Object, next_name, object_at}
use Rattle.lxr_graph.specs.Step.{IsFormedFor, IsReply}
use Rattle.lxr_graph.proofs.NameSets.{same_names}
use Rattle.lxr_graph.proofs.RowLemmas.{next_none}
use Rattle.lxr_image.specs.declared.space.Space.{Space}
use Rattle.lxr_image.specs.ImageLaws.{placed}
use Rattle.lxr_blocks.specs.Placing.{IsFull}
use Rattle.lxr_model.specs.Belongs.{HasCause, calls_since_pause, has_asked, next_operation, operations_of}
use Rattle.lxr_model.specs.Legal.{IsWaitedFor, KeepsPromise, Replies}
use Rattle.lxr_model.specs.Moments.{Moment, after_call, moment}
use Rattle.lxr_invariant.specs.AbstractState.{AbstractState}
use Rattle.lxr_invariant.specs.Quiescent.{IsQuiescent}
use Rattle.lxr_invariant.proofs.NameLemmas.{in_first}
use Rattle.lxr_sights.specs.Sights.{Sight}
use Rattle.lxr_placing.specs.Placing.{served_abstract_state}
use Rattle.lxr_serve.proofs.MutatorLemmas.{answered_mutator, with_registers}
use Rattle.lxr_serve.proofs.SpaceLemmas.{IsNewServed}
use Rattle.lxr_mutator.specs.declared.phases.MutEnd.TheVariants as ends
use Rattle.lxr_mutator.specs.Mutating.{IsWaiting, Mutating, is_new, next_name as next_made, op_now}
use Rattle.lxr_mutator.specs.Mutators.{AreRegisters, answered}
use Rattle.lxr_mutator.specs.Naming.{all_told_as, blank, told_as}
use Rattle.lxr_mutator.proofs.NamingLemmas.{told_more, told_news, told_whole}
use Rattle.lxr_mutator.proofs.NowLemmas.{formed_now}
use Rattle.lxr_core_invariant.specs.ThreadStates.{all_of}
use Rattle.lxr_core_invariant.specs.EpochStates.{objects_before}
use Rattle.lxr_core_invariant.proofs.ObjectLemmas.{legal_counts}
use Rattle.lxr_core_sim_mutator.specs.Showing.{IsMutatorOf, IsNew}
use Rattle.lxr_core_sim_mutator.proofs.NamingLemmas.{named_after}
use Rattle.lxr_core.specs.Resting.{RestsAfter}
use Rattle.lxr_core.proofs.ScriptLemmas.{op_is_next}
use Rattle.lxr_rounds_history.specs.Sights.{SeesTo}
use Rattle.lxr_rounds_history.specs.Tally.{counted, evacuated_in}
use Rattle.lxr_rounds_history.proofs.HistoryLemmas.{MayBeCalled, history_with_call, replies_in}
use Rattle.lxr_rounds_history.proofs.RoomLemmas.{is_waited_for, may_be_refused, room_cause}
use Rattle.lxr_rounds_history.proofs.SightLemmas.{same_evacuated, sees_call}
use Rattle.lxr_rounds_history.proofs.TallyLemmas.{has_numbers}
use Rattle.lxr_rounds_invariant.specs.LoopInvariant.{HasCome, IsCollectedSince, Task, task_limits, terms_of, threads_of}
use Rattle.lxr_rounds_invariant.proofs.EvacuatedLemmas.{evacuated_still}

-- the operation whose turn it is names no more registers than the limits say
few_named_now : (l : Limits) (m : Mutating) → IsMutatorOf l m → IsFormedFor l.registers (op_now m)
few_named_now l m is = subst (λ n. IsFormedFor n (op_now m)) is.width (formed_now m is.sound)

-- ---- a `new` whose turn has come

-- Thread t's `new` waits, and its turn has come: the thread has had no call since the last pause, and what that pause promised is kept by this
-- call. Where a collecting pause stands before this call of serving, and none was served in it, nothing but refusals stands after that pause.
pub record MayServe (task : Task) (space : Space) (seen : Option (List Sight)) (t : ℕ) (m : Mutating) (collected served : Bool) (h : List Item) (g : AbstractState) : Type 0 where
  pub come : HasCome task space seen h g
  pub between : IsQuiescent space g
  pub thread : (1 ≤ t) × (t ≤ threads_of task)
  pub rests : RestsAfter (task_limits task) task.plan.every h t m
  pub operations : operations_of task.script t ≡ all_of m.operations
  pub waits : IsWaiting m
  pub news : IsNew m
  pub none_yet : calls_since_pause t h ≡ 0
  pub unasked : has_asked t h ≡ false
  pub unserved : served ≡ false → collected ≡ true → IsCollectedSince h
  pub promise : (r : Reply) → KeepsPromise (terms_of task) h (Call t (op_now m) r)

-- a thread that rests names its next object by its next name in the graph
pub named_next : (task : Task) (space : Space) (seen : Option (List Sight)) (h : List Item) (g : AbstractState) (t : ℕ) (m : Mutating) → HasCome task space seen h g
    → 1 ≤ t → t ≤ threads_of task → RestsAfter (task_limits task) task.plan.every h t m → next_name g.moment.state.graph t ≡ next_made m
named_next task space seen h g t m come some few rests =
    let thread = rests.thread in
    let told : Mutating = record m { replies = record m.replies { items = replies_of m.thread h } } in
    let named = named_after (threads_of task) h told (legal_counts (terms_of task) h come.history.0) (subst (λ n. m.before ≡ objects_before n h) (sym thread) rests.began) (omega (arith, thread, some)) (omega (arith, thread, few)) refl in
    let as_many : count_by is_new (replies_of m.thread h) ≡ count_by is_new m.replies.items =
    sym (told_news m.names (replies_of m.thread h)) ∙ ap (count_by is_new) (subst (λ n. all_told_as m.names (replies_of n h) ≡ m.replies.items) (sym thread) rests.replies) in
    ap (next_name g.moment.state.graph) (sym thread) ∙ ap (λ (n : Moment). next_name n.state.graph m.thread) come.stands.moment ∙ named ∙ (λ j. record { thread = m.thread; serial = m.before + as_many j + 1 })

-- ---- what comes next

-- a thread that rests has as many calls in the history as its mutator keeps replies
many_called : (l : Limits) (every : ℕ) (h : List Item) (t : ℕ) (m : Mutating) → RestsAfter l every h t m → length m.replies.items ≤ length m.operations → length (calls_of t h) ≡ length m.replies.items
many_called l every h t m rests few =
    ap length rests.calls ∙ length-take-le (length m.replies.items) (all_of m.operations) (let one = length_push m.operations op.End in omega arith)

module _ (task : Task) (space : Space) (seen : Option (List Sight)) (t : ℕ) (m : Mutating) (collected served : Bool) (h : List Item) (g : AbstractState)
    (may : MayServe task space seen t m collected served h g) where
  -- some of its operations are left
  more : length m.replies.items < length m.operations
  more = may.rests.mutator.sound.waits may.waits.0

  -- its `new` comes next
  pub next_is : next_operation task.script t h ≡ Some (op_now m)
  next_is =
      ap (λ os. slice_get os (length (calls_of t h))) may.operations
      ∙ ap (slice_get (all_of m.operations)) (many_called (task_limits task) task.plan.every h t m may.rests (omega arith))
      ∙ op_is_next m more

  -- its call may come next
  pub may_answer : (r : Reply) → Replies (terms_of task) h t (op_now m) r → MayBeCalled task.renews task.plan task.script h t (op_now m) r
  may_answer r replies = record {
    thread = may.thread;
    formed = few_named_now (task_limits task) m may.rests.mutator;
    replies = replies;
    promise = may.promise r;
    next = next_is;
    unasked = may.unasked;
    turn = let none = may.none_yet in omega arith;
  }

  -- the name of its object is the next one of its thread
  pub name_is : next_made m ≡ next_name g.moment.state.graph t
  name_is = sym (named_next task space seen h g t m may.come may.thread.0 may.thread.1 may.rests)

  -- no unreclaimed object has it
  name_is_free : (n : Name) → IsTrue (has g.moment.unreclaimed n) → same_name n (next_made m) ≡ false
  name_is_free n member =
      let (o, found, stands) = may.come.safepoint.holds.image.image.stands n (in_first g.moment.unreclaimed g.moment.made n member) in
      let none : object_at g.moment.state.graph (next_made m) ≡ None = subst (λ x. object_at g.moment.state.graph x ≡ None) (sym name_is) (next_none g.moment.state.graph t) in
      by (same_name n (next_made m)) refl o found none
    where
      by : (b : Bool) → same_name n (next_made m) ≡ b → (o : Object) → object_at g.moment.state.graph n ≡ Some o → object_at g.moment.state.graph (next_made m) ≡ None → b ≡ false
      by false e o found none = refl
      by true e o found none =
          let is : n ≡ next_made m = same_names n (next_made m) e in
          let here : object_at g.moment.state.graph (next_made m) ≡ Some o = subst (λ x. object_at g.moment.state.graph x ≡ Some o) is found in
          absurd (let both : Some o ≡ None = sym here ∙ none in cc)

-- ---- the history with its call

-- no other object is placed anew
placed_other : (at : Name → ℕ) (name n : Name) (p : ℕ) → same_name n name ≡ false → placed at name p n ≡ at n
placed_other at name n p other = ap (λ b. if b then p else at n) other

-- the call of a `new` that made an object joins the history
come_with_new : (task : Task) (before after : Space) (seen : Option (List Sight)) (t : ℕ) (h : List Item) (g : AbstractState) (name : Name) (dest : ℕ) (shape : Shape) (place : Place)
    → HasCome task before seen h g → MayBeCalled task.renews task.plan task.script h t (op.New dest shape) (reply.New name) → ((n : Name) → IsTrue (has g.moment.unreclaimed n) → same_name n name ≡ false)
    → name.thread ≡ t → IsNewServed before after g name dest shape place → HasCome task after seen (Call t (op.New dest shape) (reply.New name) ∷ h) (served_abstract_state g name dest shape place)
come_with_new task before after seen t h g name dest shape place come call free own serves = record {
  history = history_with_call task.renews task.plan task.script h t (op.New dest shape) (reply.New name) come.history call;
  stands = record {
    moment = ap (λ u. after_call g.moment u (op.New dest shape) (reply.New name)) own ∙ ap (λ m. after_call m t (op.New dest shape) (reply.New name)) come.stands.moment;
    reported = come.stands.reported;
  };
  safepoint = serves.between.safepoint;
  limits = ap (λ (s : Space). s.limits) serves.others ∙ come.limits;
  tally = has_numbers (threads_of task) (Call t (op.New dest shape) (reply.New name) ∷ h) after.tally before.tally.moved before.tally.kept
      (ap (λ (s : Space). s.tally) serves.others ∙ ap (λ n. record before.tally { news = n }) serves.news ∙ ap (λ t. counted t (reply.New name)) come.tally);
  evacuated = evacuated_still before after (ap (λ (s : Space). s.tally.moved) serves.others) (ap (λ (s : Space). s.tally.kept) serves.others) (ap (λ (s : Space). s.limits) serves.others)
      (ap (λ (s : Space). s.pauses) serves.others) come.evacuated;
  places = come.places;
  sights = sees_call (threads_of task) h t (op.New dest shape) (reply.New name) task.seen seen come.places (evacuated_in after.tally)
      (subst (SeesTo (threads_of task) h task.seen seen come.places) (sym (same_evacuated before.tally after.tally (ap (λ (s : Space). s.tally.moved) serves.others) (ap (λ (s : Space). s.tally.kept) serves.others))) come.sights);
  kept = λ n member. placed_other g.at name n place.0 (free n member) ∙ come.kept n member;
}

-- so does that of the `new` that waited
pub come_served : (task : Task) (before after : Space) (seen : Option (List Sight)) (t : ℕ) (m : Mutating) (collected served : Bool) (h : List Item) (g : AbstractState) (dest : ℕ) (shape : Shape) (place : Place)
    → MayServe task before seen t m collected served h g → op_now m ≡ op.New dest shape → IsNewServed before after g (next_made m) dest shape place
    → HasCome task after seen (Call t (op_now m) (reply.New (next_made m)) ∷ h) (served_abstract_state g (next_made m) dest shape place)
come_served task before after seen t m collected served h g dest shape place may is serves =
    let own : (next_made m).thread ≡ t = may.rests.thread in
    let reply_is : IsReply (moment (threads_of task) h).state t (op.New dest shape) (reply.New (next_made m)) =
    subst (λ (x : Moment). IsReply x.state t (op.New dest shape) (reply.New (next_made m))) may.come.stands.moment
    (subst (λ u. IsReply g.moment.state u (op.New dest shape) (reply.New (next_made m))) own serves.replied) in
    let call : MayBeCalled task.renews task.plan task.script h t (op_now m) (reply.New (next_made m)) =
    may_answer task before seen t m collected served h g may (reply.New (next_made m))
    (subst (λ o. Replies (terms_of task) h t o (reply.New (next_made m))) (sym is) (replies_in task.renews task.plan (threads_of task) h t (op.New dest shape) (reply.New (next_made m)) reply_is)) in
    subst (λ o. HasCome task after seen (Call t o (reply.New (next_made m)) ∷ h) (served_abstract_state g (next_made m) dest shape place)) (sym is)
    (come_with_new task before after seen t h g (next_made m) dest shape place may.come (subst (λ o. MayBeCalled task.renews task.plan task.script h t o (reply.New (next_made m))) is call)
    (name_is_free task before seen t m collected served h g may) own serves)

-- one that finds no room right after a collecting pause is refused, which changes nothing
pub come_refused : (task : Task) (space : Space) (seen : Option (List Sight)) (t : ℕ) (m : Mutating) (h : List Item) (g : AbstractState) (dest : ℕ) (shape : Shape)
    → MayServe task space seen t m true false h g → op_now m ≡ op.New dest shape → IsFull space shape → HasCome task space seen (Call t (op_now m) reply.Full ∷ h) g
come_refused task space seen t m h g dest shape may is full =
    let come = may.come in
    let replies : Replies (terms_of task) h t (op.New dest shape) reply.Full =
    may_be_refused task.renews task.plan task.script h space g t dest shape come.history.0 (may.unserved refl refl) may.between come.stands.moment (ap (λ (l : Limits). l.blocks) come.limits) full in
    let call : MayBeCalled task.renews task.plan task.script h t (op_now m) reply.Full =
    may_answer task space seen t m true false h g may reply.Full (subst (λ o. Replies (terms_of task) h t o reply.Full) (sym is) replies) in
    subst (λ o. HasCome task space seen (Call t o reply.Full ∷ h) g) (sym is)
    (come_with_full task space seen t h g dest shape come (subst (λ o. MayBeCalled task.renews task.plan task.script h t o reply.Full) is call))
  where
    come_with_full : (task : Task) (space : Space) (seen : Option (List Sight)) (t : ℕ) (h : List Item) (g : AbstractState) (dest : ℕ) (shape : Shape)
        → HasCome task space seen h g → MayBeCalled task.renews task.plan task.script h t (op.New dest shape) reply.Full → HasCome task space seen (Call t (op.New dest shape) reply.Full ∷ h) g
    come_with_full task space seen t h g dest shape come call = record {
      history = history_with_call task.renews task.plan task.script h t (op.New dest shape) reply.Full come.history call;
      stands = record { moment = come.stands.moment; reported = come.stands.reported };
      safepoint = come.safepoint;
      limits = come.limits;
      tally = come.tally;
      evacuated = come.evacuated;
      places = come.places;
      sights = sees_call (threads_of task) h t (op.New dest shape) reply.Full task.seen seen come.places (evacuated_in space.tally) come.sights;
      kept = come.kept;
    }

-- one that finds none is a cause of a further one
pub full_cause : (task : Task) (space : Space) (seen : Option (List Sight)) (t : ℕ) (m : Mutating) (collected served : Bool) (h : List Item) (g : AbstractState) (dest : ℕ) (shape : Shape)
    → MayServe task space seen t m collected served h g → op_now m ≡ op.New dest shape → IsFull space shape → HasCause (terms_of task) task.script h
full_cause task space seen t m collected served h g dest shape may is full =
    let come = may.come in
    let formed : IsFormedFor task.plan.registers (op.New dest shape) = subst (IsFormedFor task.plan.registers) is (few_named_now (task_limits task) m may.rests.mutator) in
    room_cause task.renews task.plan task.script h space g t dest shape may.thread.0 may.thread.1 (next_is task space seen t m collected served h g may ∙ ap Some is) may.between come.stands.moment
    come.limits formed.1 full

-- and that one may collect for it: this call keeps what such a pause promises
pub full_promise : (task : Task) (space : Space) (seen : Option (List Sight)) (t : ℕ) (m : Mutating) (collected served : Bool) (h : List Item) (g : AbstractState) (dest : ℕ) (shape : Shape)
    → MayServe task space seen t m collected served h g → op_now m ≡ op.New dest shape → IsFull space shape
    → (report : PauseReport) (r : Reply) → KeepsPromise (terms_of task) (Pause report ∷ h) (Call t (op_now m) r)
full_promise task space seen t m collected served h g dest shape may is full report r =
    let come = may.come in
    let formed : IsFormedFor task.plan.registers (op.New dest shape) = subst (IsFormedFor task.plan.registers) is (few_named_now (task_limits task) m may.rests.mutator) in
    let waited : IsWaitedFor (terms_of task) h (Call t (op.New dest shape) r) =
    is_waited_for task.renews task.plan task.script h space g t dest shape r come.history.0 may.between come.stands.moment come.limits formed.1 full in
    λ stands. subst (λ o. IsWaitedFor (terms_of task) h (Call t o r)) (sym is) waited

-- ---- the mutator with its reply

-- one more of a list's items
one_more : {X : Type 0} (xs : List X) (k : ℕ) (x : X) → slice_get xs k ≡ Some x → take (k + 1) xs ≡ take k xs ++ x ∷ []
one_more xs k x at = take_more xs k x (slice_get_within xs k x at) ∙ ap (λ y. take k xs ++ y ∷ []) (get_or_from_slice_get xs k x x at)

-- a mutator whose `new` is answered, with a reply that has no name to leave out, rests for the history with that call
pub rests_answered : (l : Limits) (every : ℕ) (h : List Item) (t : ℕ) (m : Mutating) (registers : List Place) (r : Reply) → RestsAfter l every h t m → IsWaiting m → AreRegisters m.width registers → blank r ≡ r
    → RestsAfter l every (Call t (op_now m) r ∷ h) t (answered (with_registers m registers) r)
rests_answered l every h t m registers r rests waits are whole =
    let own : nat_eq t t ≡ true = eq-eqb t t refl in
    let more = rests.mutator.sound.waits waits.0 in
    let many : length (m.replies.items ++ r ∷ []) ≡ length m.replies.items + 1 = length_push m.replies.items r in
    record {
      mutator = answered_mutator l m registers r rests.mutator waits are;
      thread = rests.thread;
      every = rests.every;
      log = rests.log;
      spans = rests.spans;
      rests = rests.rests;
      calls =
          ap (λ b. if b then calls_of t h ++ op_now m ∷ [] else calls_of t h) own
          ∙ ap (λ z. z ++ op_now m ∷ []) rests.calls
          ∙ sym (one_more (all_of m.operations) (length m.replies.items) (op_now m) (op_is_next m more))
          ∙ ap (λ n. take n (all_of m.operations)) (sym many);
      replies =
          ap (λ b. all_told_as m.names (if b then replies_of t h ++ r ∷ [] else replies_of t h)) own
          ∙ told_more m.names (replies_of t h) r
          ∙ ap (λ z. z ++ told_as m.names r ∷ []) rests.replies
          ∙ ap (λ x. m.replies.items ++ x ∷ []) (told_whole m.names r whole);
      unnamed = λ none. ap (λ x. Some (ends.OpDone x)) whole;
      began = rests.began;
      ended = λ e. absurd (cc);
    }

-- a call of one thread leaves what the history has of another
pub rests_beside : (l : Limits) (every : ℕ) (h : List Item) (t u : ℕ) (m : Mutating) (o : Op) (r : Reply) → u ≢ t → RestsAfter l every h u m → RestsAfter l every (Call t o r ∷ h) u m
rests_beside l every h t u m o r other rests =
    let unlike : nat_eq u t ≡ false = grind (arith, nat_tests) in
    record {
      mutator = rests.mutator;
      thread = rests.thread;
      every = rests.every;
      log = rests.log;
      spans = rests.spans;
      rests = rests.rests;
      calls = ap (λ b. if b then calls_of u h ++ o ∷ [] else calls_of u h) unlike ∙ rests.calls;
      replies = ap (λ b. all_told_as m.names (if b then replies_of u h ++ r ∷ [] else replies_of u h)) unlike ∙ rests.replies;
      unnamed = rests.unnamed;
      began = rests.began;
      ended = rests.ended;
    }
