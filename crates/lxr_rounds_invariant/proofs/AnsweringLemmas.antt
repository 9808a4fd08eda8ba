-- How one call of serving goes over the threads: it may be made, each turn keeps what holds of a run while waiting `new`s are answered, and
-- it does something.
use Rattle.std.proofs.Common.{◌≡◌, ℕ, zero, suc, ◌+◌, ◌<◌, ◌≤◌, ◌⊎◌, refl, sym, ap, subst, ◌∙◌, inl, inr, ⊎_elim, arith, Bool, true, false, List, [], ◌∷◌, length}
use Rattle.std.specs.Prelude.{Option, Some, slice_get, slice_set}
use Rattle.std.proofs.lemmas.List.{length_push}
use Rattle.std.proofs.lemmas.Option.{slice_get_within}
use Rattle.lxr_layout.specs.declared.Shape.{Shape}
use Rattle.lxr_layout.specs.declared.limits.Limits.{Limits}
use Rattle.lxr_graph.specs.declared.Op.TheVariants as op
use Rattle.lxr_graph.specs.declared.Reply.TheVariants as reply
use Rattle.lxr_graph.specs.declared.report.Kind.TheVariants as kind
use Rattle.lxr_graph.specs.History.{Item, Call, Pause, Renew, PauseReport}
use Rattle.lxr_graph.specs.State.{next_name}
use Rattle.lxr_image.specs.declared.space.Space.{Space}
use Rattle.lxr_blocks.specs.Placing.{IsFull}
use Rattle.lxr_invariant.specs.AbstractState.{AbstractState}
use Rattle.lxr_invariant.specs.Quiescent.{IsQuiescent}
use Rattle.lxr_sights.specs.Sights.{Sight}
use Rattle.lxr_mutator.specs.declared.phases.Waiting.{Waiting}
use Rattle.lxr_mutator.specs.Mutating.{IsWaiting, Mutating, next_name as next_made, op_now}
use Rattle.lxr_core.specs.declared.actors.AnyActor.{AnyActor}
use Rattle.lxr_core.specs.Actors.{mutators_in}
use Rattle.lxr_core.specs.Resting.{FitsThread, HelpersRest, RestsAfter}
use Rattle.lxr_placing.specs.Placing.{served_abstract_state}
use Rattle.lxr_serve.specs.Answering.{AnswersAll, TakeTurns, TakesTurn, WantsCollection, begins, next, passes, refuses, serves}
use Rattle.lxr_serve.specs.Serving.{CanServe}
use Rattle.lxr_serve.proofs.MutatorLemmas.{waits_by, waits_for}
use Rattle.lxr_serve.proofs.SpaceLemmas.{IsNewServed, IsServableBetween, new_served}
use Rattle.lxr_rounds_history.specs.Left.{last_report}
use Rattle.lxr_rounds_invariant.specs.LoopInvariant.{HasCome, IsCollectedSince, IsServing, Task, done_of, task_limits, threads_of}
use Rattle.lxr_rounds_invariant.proofs.ActorLemmas.{as_many, done_more}
use Rattle.lxr_rounds_invariant.proofs.PauseLemmas.{news_fit}
use Rattle.lxr_rounds_invariant.proofs.ServingLemmas.{MayServe, come_refused, come_served, name_is, named_next}
use Rattle.lxr_rounds_invariant.proofs.TurnLemmas.{collected_since, goes_on, may_serve_next}
use Rattle.lxr_rounds_invariant.proofs.TurnLemmas as turn

-- ---- a call may be made

-- right after a collecting pause the last report is one of such a pause
collected_report : (h : List Item) → IsCollectedSince h → (last_report h).kind ≡ kind.Collect
collected_report [] since = absurd since
collected_report (Renew ns ∷ h) since = absurd since
collected_report (Pause report ∷ h) since = since
collected_report (Call t (op.New dest shape) reply.Full ∷ h) since = collected_report h since
collected_report (Call t o r ∷ h) since = absurd since

-- a mutator that rests after a history fits the space
fits : (task : Task) (space : Space) (seen : Option (List Sight)) (h : List Item) (g : AbstractState) (t : ℕ) (m : Mutating) → HasCome task space seen h g
    → 1 ≤ t → t ≤ threads_of task → RestsAfter (task_limits task) task.plan.every h t m → FitsThread space.limits g.moment.state.graph t m
fits task space seen h g t m come some few rests = subst (λ l. FitsThread l g.moment.state.graph t m) (sym come.limits) (record {
  mutator = rests.mutator;
  thread = rests.thread;
  log = rests.log;
  spans = rests.spans;
  rests = rests.rests;
  name = named_next task space seen h g t m come some few rests;
})

-- what waits may be served
pub can_serve : (task : Task) (space : Space) (seen : Option (List Sight)) (before : List Mutating) (paused : ℕ) (collected : Bool) (actors : List AnyActor) (h : List Item) (g : AbstractState)
    → IsServing task space seen before paused collected (mutators_in actors) 0 false h g → HelpersRest (task_limits task) actors → CanServe space g actors collected
can_serve task space seen before paused collected actors h g serving helpers =
    let come = serving.come in
    let many = as_many task h (mutators_in actors) serving.mutators_rest in
    let threads : space.limits.threads ≡ threads_of task = ap (λ (l : Limits). l.threads) come.limits in
    record {
      between = serving.between;
      fit = record {
        as_many = many ∙ sym threads;
        each = λ i m at.
            let within = slice_get_within (mutators_in actors) i m at in
            fits task space seen h g (i + 1) m come (omega arith) (omega arith) (serving.mutators_rest.rest.each i m at);
        helpers = subst (λ l. HelpersRest l actors) (sym come.limits) helpers;
      };
      collected_is = λ collects. ap (λ (r : PauseReport). r.kind) (come.safepoint.numbers.report ∙ come.stands.reported) ∙ collected_report h (serving.unserved refl collects);
      counted = news_fit task space seen h g (mutators_in actors) come serving.mutators_rest;
    }

-- ---- a turn

-- an object can be made for a `new` whose turn has come
servable : (task : Task) (space : Space) (seen : Option (List Sight)) (t : ℕ) (m : Mutating) (collected served : Bool) (h : List Item) (g : AbstractState)
    → MayServe task space seen t m collected served h g → IsServableBetween space g (next_made m)
servable task space seen t m collected served h g may = record {
  between = may.between;
  next = name_is task space seen t m collected served h g may ∙ ap (next_name g.moment.state.graph) (sym may.rests.thread);
}

-- what stands in a list is written back
written_back : {X : Type 0} (xs : List X) (i : ℕ) (x : X) → slice_get xs i ≡ Some x → slice_set xs i x ≡ xs
written_back [] i x at = refl
written_back (y ∷ xs) zero x at = let is : x ≡ y = cc in ap (λ z. z ∷ xs) is
written_back (y ∷ xs) (suc i) x at = ap (λ z. y ∷ z) (written_back xs i x at)

module _ (task : Task) (seen : Option (List Sight)) (before : List Mutating) (paused : ℕ) (collected : Bool) where
  -- what holds while waiting `new`s are answered holds once the turn of one more thread is over
  turn_taken : (now : List Mutating) (n : ℕ) (space space' : Space) (served served' : Bool) (h h' : List Item) (g : AbstractState) (m m' : Mutating) → IsServing task space seen before paused collected now n served h g
      → slice_get now n ≡ Some m → TakesTurn collected (n + 1) m m' space space' served served' h h'
      → (g' : AbstractState) × IsServing task space' seen before paused collected (slice_set now n m') (n + 1) served' h' g'
  turn_taken now n space space' served served' h h' g m m' serving at (passes same same_space same_served same_h idle) = (
    g,
    subst (λ ms. IsServing task same_space seen before paused collected ms (n + 1) same_served same_h g) (sym (written_back now n same at))
        (turn.passes task same_space seen before paused collected now n same_served same_h g serving same at idle),
  )
  turn_taken now n space space' served served' h h' g m m' serving at (serves a b w from to was k waits makes) =
      let is_waiting = waits_by a w waits in
      let may = may_serve_next task from seen before paused collected now n was k g serving a at is_waiting in
      let (dest, shape, is) = may.news in
      let made : IsNewServed from to g (next_made a) dest shape makes.place = new_served from to a b w dest shape g (servable task from seen (n + 1) a collected was k g may) waits is makes in
      let after : AbstractState = served_abstract_state g (next_made a) dest shape makes.place in (
        after,
        goes_on task from to seen before paused collected now n was true k g after serving a b (reply.New (next_made a)) at is_waiting (inr (makes.place, refl, makes.mutator))
            (come_served task from to seen (n + 1) a collected was k g dest shape makes.place may is made) made.between (ap (λ (s : Space). s.pauses) made.others) (λ none. absurd (cc)),
      )
  turn_taken now n space space' served served' h h' g m m' serving at (refuses a b w from to k waits collects refused) =
      let is_waiting = waits_by a w waits in
      let may = may_serve_next task from seen before paused collected now n false k g serving a at is_waiting in
      let (dest, shape, is) = may.news in
      let w_is : w ≡ record { dest = dest; shape = shape } = waits_for a w dest shape waits is in
      let full : IsFull from shape = subst (λ (x : Waiting). IsFull from x.shape) w_is refused.full in
      let come : HasCome task from seen (Call (n + 1) (op_now a) reply.Full ∷ k) g =
      come_refused task from seen (n + 1) a k g dest shape (subst (λ c. MayServe task from seen (n + 1) a c false k g) collects may) is full in (
        g,
        goes_on task from to seen before paused collected now n false false k g g serving a b reply.Full at is_waiting (inl (refl, refused.mutator))
            (subst (λ s. HasCome task s seen (Call (n + 1) (op_now a) reply.Full ∷ k) g) (sym refused.space) come) (subst (λ s. IsQuiescent s g) (sym refused.space) serving.between)
            (ap (λ (s : Space). s.pauses) refused.space) (λ none since. collected_since (n + 1) (op_now a) k may.news (serving.unserved refl since)),
      )

  -- so it holds once those of so many threads are
  pub turns_taken : (mutators : List Mutating) (space : Space) (h : List Item) (g : AbstractState) → IsServing task space seen before paused collected mutators 0 false h g
      → (n : ℕ) (now : List Mutating) (amid : Space) (served : Bool) (k : List Item) → TakeTurns collected mutators space h n now amid served k
      → (g' : AbstractState) × IsServing task amid seen before paused collected now n served k g'
  turns_taken mutators space h g serving n now amid served k (begins) = (g, serving)
  turns_taken mutators space h g serving n now amid served k (next i later from to was is l l' m m' turns at taken) =
      let (g', serving') = turns_taken mutators space h g serving i later from was l turns in
      turn_taken later i from to was is l l' g' m m' serving' at taken

  -- and where a call ends with all
  pub all_answered : (mutators mutators' : List Mutating) (space space' : Space) (h h' : List Item) (g : AbstractState) → IsServing task space seen before paused collected mutators 0 false h g
      → AnswersAll collected mutators mutators' space space' h h'
      → (served : Bool) × (g' : AbstractState) × IsServing task space' seen before paused collected mutators' (length mutators') served h' g'
  all_answered mutators mutators' space space' h h' g serving answers =
      let (g', serving') = turns_taken mutators space h g serving (length mutators) mutators' space' answers.served h' answers.turns in
      let same : length mutators ≡ length mutators' = as_many task h mutators serving.mutators_rest ∙ sym (as_many task h' mutators' serving'.mutators_rest) in
      (answers.served, g', subst (λ n. IsServing task space' seen before paused collected mutators' n answers.served h' g') same serving')

  -- A call has ended at a thread whose `new` finds no room and may not be refused yet.
  pub record IsFullFor (space : Space) (mutators : List Mutating) (h : List Item) : Type 0 where
    pub number : ℕ
    pub served : Bool
    pub abstract_state : AbstractState
    pub serving : IsServing task space seen before paused collected mutators number served h abstract_state
    pub mutator : Mutating
    pub at : slice_get mutators number ≡ Some mutator
    pub waits : IsWaiting mutator
    pub not_yet : (collected ≡ false) ⊎ (served ≡ true)
    pub dest : ℕ
    pub shape : Shape
    pub is : op_now mutator ≡ op.New dest shape
    pub full : IsFull space shape

  pub wants_collection : (mutators mutators' : List Mutating) (space space' : Space) (h h' : List Item) (g : AbstractState) → IsServing task space seen before paused collected mutators 0 false h g
      → WantsCollection collected mutators mutators' space space' h h' → IsFullFor space' mutators' h'
  wants_collection mutators mutators' space space' h h' g serving wants =
      let (g', serving') = turns_taken mutators space h g serving wants.number mutators' space' wants.served h' wants.turns in
      let is_waiting = waits_by wants.mutator wants.waiting wants.waits in
      let (dest, shape, is) = serving'.news wants.number wants.mutator wants.turn is_waiting in
      let w_is : wants.waiting ≡ record { dest = dest; shape = shape } = waits_for wants.mutator wants.waiting dest shape wants.waits is in
      record {
        number = wants.number;
        served = wants.served;
        abstract_state = g';
        serving = serving';
        mutator = wants.mutator;
        at = wants.turn;
        waits = is_waiting;
        not_yet = wants.not_yet;
        dest = dest;
        shape = shape;
        is = is;
        full = subst (λ (x : Waiting). IsFull space' x.shape) w_is wants.full;
      }

-- ---- what a call does

-- no less is done after a turn, and more where a `new` was served
record DoesMore (served served' : Bool) (mutators mutators' : List Mutating) : Type 0 where
  grows : done_of mutators ≤ done_of mutators'
  more : served' ≡ true → (served ≡ true) ⊎ (done_of mutators < done_of mutators')

turn_does : (collected : Bool) (now : List Mutating) (n t : ℕ) (space space' : Space) (served served' : Bool) (h h' : List Item) (m m' : Mutating) → slice_get now n ≡ Some m → TakesTurn collected t m m' space space' served served' h h'
    → DoesMore served served' now (slice_set now n m')
turn_does collected now n t space space' served served' h h' m m' at (passes same same_space same_served same_h idle) =
    let all : done_of (slice_set now n same) ≡ done_of now = ap done_of (written_back now n same at) in
    record { grows = omega arith; more = λ some. inl some }
turn_does collected now n t space space' served served' h h' m m' at (serves a b w from to was k waits makes) =
    let one = done_more now n a b at (ap (λ (x : Mutating). length x.replies.items) makes.mutator ∙ length_push a.replies.items (reply.New (next_made a))) in
    record { grows = omega arith; more = λ some. inr (omega arith) }
turn_does collected now n t space space' served served' h h' m m' at (refuses a b w from to k waits collects refused) =
    let one = done_more now n a b at (ap (λ (x : Mutating). length x.replies.items) refused.mutator ∙ length_push a.replies.items reply.Full) in
    record { grows = omega arith; more = λ some. inr (omega arith) }

-- so it is after those of some threads
turns_do : (collected : Bool) (mutators : List Mutating) (space : Space) (h : List Item) (n : ℕ) (now : List Mutating) (amid : Space) (served : Bool) (k : List Item) → TakeTurns collected mutators space h n now amid served k
    → DoesMore false served mutators now
turns_do collected mutators space h n now amid served k (begins) = record { grows = omega arith; more = λ some. inl some }
turns_do collected mutators space h n now amid served k (next i later from to was is l l' m m' turns at taken) =
    let first = turns_do collected mutators space h i later from was l turns in
    let one = turn_does collected later i (i + 1) from to was is l l' m m' at taken in
    let grows = first.grows in
    let grows' = one.grows in
    record {
      grows = omega arith;
      more = λ some. inr (⊎_elim
          (λ (before : was ≡ true).
          ⊎_elim
          (λ (never : false ≡ true). absurd (cc))
          (λ (more : done_of mutators < done_of later). omega arith)
          (first.more before))
          (λ (more : done_of later < done_of (slice_set later i m')). omega arith)
          (one.more some));
    }

-- a call that ends at a `new` that finds no room has done something, where a collecting pause stood before it
pub record WantsMore (collected : Bool) (mutators mutators' : List Mutating) : Type 0 where
  pub grows : done_of mutators ≤ done_of mutators'
  pub more : collected ≡ true → done_of mutators < done_of mutators'

pub wants_more : (collected : Bool) (mutators mutators' : List Mutating) (space space' : Space) (h h' : List Item) → WantsCollection collected mutators mutators' space space' h h' → WantsMore collected mutators mutators'
wants_more collected mutators mutators' space space' h h' wants =
    let does = turns_do collected mutators space h wants.number mutators' space' wants.served h' wants.turns in
    record {
      grows = does.grows;
      more = λ collects.
          ⊎_elim
          (λ (never : collected ≡ false). absurd (let both : true ≡ false = sym collects ∙ never in cc))
          (λ (some : wants.served ≡ true).
          ⊎_elim
          (λ (never : false ≡ true). absurd (cc))
          (λ (more : done_of mutators < done_of mutators'). more)
          (does.more some))
          wants.not_yet;
    }
