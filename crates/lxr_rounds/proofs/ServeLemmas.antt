-- What comes of a call of serving in the loop over it: where the call ends at a `new` that finds no room, a collecting pause is due, behind
-- which the next call begins; else all are answered.
use Rattle.std.proofs.Common.{◌≡◌, ◌↔◌, IsTrue, ℕ, ◌+◌, ◌*◌, ◌<◌, ◌≤◌, refl, sym, ap, subst, ◌∙◌, ⊎_elim, inl, inr, arith, Bool, true, false, List, ◌∷◌, cond, length}
use Rattle.std.specs.Prelude.{Option}
use Rattle.lxr_layout.specs.declared.Name.{Name}
use Rattle.lxr_layout.specs.declared.Place.{Place}
use Rattle.lxr_layout.specs.declared.Shape.{Shape}
use Rattle.lxr_graph.specs.History.{Item, Pause, PauseReport, report_of}
use Rattle.lxr_image.specs.declared.space.Space.{Space}
use Rattle.lxr_blocks.specs.Placing.{IsPlaced}
use Rattle.lxr_invariant.specs.AbstractState.{AbstractState}
use Rattle.lxr_mutator.specs.Mutating.{Mutating, next_name}
use Rattle.lxr_core.specs.declared.actors.AnyActor.{AnyActor}
use Rattle.lxr_model.specs.Kinds.{MustCollect}
use Rattle.lxr_model.specs.Moments.{Moment, moment}
use Rattle.lxr_one_pause.specs.declared.Ask.{Ask}
use Rattle.lxr_one_pause.specs.declared.Ask.TheVariants as ask
use Rattle.lxr_one_pause.specs.declared.Pace.{Pace}
use Rattle.lxr_serve.specs.Answering.{Answers, AnswersAll, TakeTurns, TakesTurn, WantsCollection, begins, next, passes, refuses, serves}
use Rattle.lxr_serve.specs.Serving.{KeepsHelpers, NewsWait}
use Rattle.lxr_serve.specs.declared.Served.{Served}
use Rattle.lxr_serve.specs.declared.Served.TheVariants as outcome
use Rattle.lxr_sights.specs.Sights.{Sight}
use Rattle.lxr_rounds_invariant.specs.LoopInvariant.{HasCome, HasMore, HasPaused, HaveMutators, IsPaused, IsServing, Task, asked_by, done_of, left_of, pace_of, terms_of, threads_of}
use Rattle.lxr_rounds_invariant.proofs.ActorLemmas.{left_less}
use Rattle.lxr_rounds_invariant.proofs.AnsweringLemmas.{IsFullFor, wants_more}
use Rattle.lxr_rounds_invariant.proofs.TurnLemmas.{collection_due, collection_right, owes_none, serving_again, serving_begins}
use Rattle.lxr_rounds.specs.Answering.{AnswersWaiting, collects}
use Rattle.lxr_rounds.specs.Pausing.{HasComeToPause, MakesPause}
use Rattle.lxr_rounds.specs.Serving.{AreCutOff, BeginsServing}
use Rattle.lxr_rounds.proofs.EndedLemmas.{left_no_more}

-- ---- the beginning

-- a pause is asked to collect exactly where it shall
asked_by_it : (collected tracing : Bool) → (asked_by collected tracing ≡ ask.Collect) ↔ IsTrue collected
asked_by_it true tracing = (λ e. refl, λ e. refl)
asked_by_it false true = (λ e. absurd (cc), λ e. absurd (cc))
asked_by_it false false = (λ e. absurd (cc), λ e. absurd (cc))

-- after the pause of an epoch serving begins
pub begins_serving : (task : Task) (space : Space) (seen : Option (List Sight)) (mutators : List Mutating) (h : List Item) (asked : Ask) (collected tracing : Bool) (report : PauseReport) (g : AbstractState)
    → HaveMutators task h mutators → NewsWait mutators → HasMore mutators → asked ≡ asked_by collected tracing → (asked ≡ ask.Collect) ↔ MustCollect (terms_of task) h → HasPaused task space seen h asked report g
    → BeginsServing task space seen collected mutators (Pause report ∷ h) g
begins_serving task space seen mutators h asked collected tracing report g have news more by right paused = record {
  serving = serving_begins task space seen mutators h asked collected tracing report g have news more by right paused;
  collected_is = (λ e. paused.collects.1 (by ∙ (asked_by_it collected tracing).1 e), λ e. (asked_by_it collected tracing).0 (sym by ∙ paused.collects.0 e));
}

-- ---- one call

-- whatever answers the rest from here on answers all from the beginning
abbrev pub AnswersOn : Pace → Bool → List Mutating → Space → List Item → Bool → List Mutating → Space → List Item → Type 0
AnswersOn pace collected mutators space h collected' middle amid k = (mutators' : List Mutating) (space' : Space) (h' : List Item) → AnswersWaiting pace collected' middle amid k mutators' space' h'
    → AnswersWaiting pace collected mutators space h mutators' space' h'

-- the report of the last pause is that of the space
pub report_is : (task : Task) (space : Space) (seen : Option (List Sight)) (h : List Item) (report : PauseReport) (g : AbstractState) → HasPaused task space seen h ask.Collect report g
    → report_of space.report ≡ report
report_is task space seen h report g paused = paused.come.safepoint.numbers.report ∙ paused.come.stands.reported

module _ (task : Task) (pace : Pace) (seen : Option (List Sight)) (before : List Mutating) (paused : ℕ) (collected : Bool) (paced : pace_of task.plan ≡ pace) where
  module _ (space : Space) (mutators : List Mutating) (h : List Item) (full : IsFullFor task seen before paused collected space mutators h) where
    -- a collecting pause is due for it
    pub comes_to_collect : HasComeToPause ask.Collect pace task space seen h full.abstract_state
    comes_to_collect = record {
      come = full.serving.come;
      due = collection_due task space seen before paused collected mutators full.number full.served h full.abstract_state full.serving full.mutator full.at full.waits full.not_yet full.dest full.shape full.is full.full;
      right = collection_right task space seen before paused collected mutators full.number full.served h full.abstract_state full.serving full.mutator full.at full.waits full.not_yet full.dest full.shape full.is full.full;
      paced = paced;
    }

    -- pauses are few enough for one more
    pub pauses_few : paused ≤ 2 * done_of before + 1 → space.pauses ≤ 2 * done_of mutators + 1
    pauses_few most =
        let none = owes_none task space seen before paused collected mutators full.number full.served h full.abstract_state full.serving full.mutator full.at full.waits full.not_yet in
        let few = none.few in
        let grows : done_of before ≤ done_of mutators = ⊎_elim
        (λ (some : done_of before < done_of mutators). omega arith)
        (λ (same : mutators ≡ before). let was : done_of mutators ≡ done_of before = ap done_of same in omega arith)
        full.serving.progress in
        omega arith

    -- behind it the next call begins
    pub begins_again : (space' : Space) (seen' : Option (List Sight)) (report : PauseReport) (g' : AbstractState) → HasPaused task space' seen' h ask.Collect report g' → space'.pauses ≡ space.pauses + 1
        → IsServing task space' seen' before paused true mutators 0 false (Pause (report_of space'.report) ∷ h) g'
    begins_again space' seen' report g' has_paused one =
        subst (λ r. IsServing task space' seen' before paused true mutators 0 false (Pause r ∷ h) g') (sym (report_is task space' seen' h report g' has_paused))
        (serving_again task space seen before paused collected mutators full.number full.served h full.abstract_state full.serving full.mutator full.at full.waits full.not_yet full.dest full.shape full.is full.full
        space' seen' report g' has_paused one)

-- what answers the rest after a pause that such a call asked for answers all
pub answers_behind : (pace : Pace) (collected0 collected : Bool) (mutators0 mutators middle : List Mutating) (space0 space full paused : Space) (h0 h k : List Item) → AnswersOn pace collected0 mutators0 space0 h0 collected mutators space h
    → WantsCollection collected mutators middle space full h k → MakesPause ask.Collect pace full paused → AnswersOn pace collected0 mutators0 space0 h0 true middle paused (Pause (report_of paused.report) ∷ k)
answers_behind pace collected0 collected mutators0 mutators middle space0 space full paused h0 h k so_far wants makes =
    λ mutators' space' h' rest. so_far mutators' space' h' (collects collected mutators middle mutators' space full paused space' h k h' wants makes rest)

-- less is left from call to call, but for the first one after a pause that didn't collect
pub less_left : (task : Task) (h h' : List Item) (mutators mutators' : List Mutating) (space space' : Space) (k k' : List Item) (collected : Bool) → HaveMutators task h mutators → HaveMutators task h' mutators' → WantsCollection collected mutators mutators' space space' k k'
    → left_of mutators' + cond {A = ℕ} true 0 1 < left_of mutators + cond {A = ℕ} collected 0 1
less_left task h h' mutators mutators' space space' k k' true have have' wants =
    let more = wants_more true mutators mutators' space space' k k' wants in
    let less = left_less task h h' mutators mutators' have have' (more.more refl) in
    omega arith
less_left task h h' mutators mutators' space space' k k' false have have' wants =
    let more = wants_more false mutators mutators' space space' k k' wants in
    let less = left_no_more task h h' mutators mutators' have have' more.grows in
    omega arith

-- a call that doesn't end so has answered all
pub all_of_it : (result : Served) (collected : Bool) (mutators mutators' : List Mutating) (space space' : Space) (h h' : List Item) → ¬ (result ≡ outcome.Collect) → Answers result collected mutators mutators' space space' h h'
    → AnswersAll collected mutators mutators' space space' h h'
all_of_it outcome.All collected mutators mutators' space space' h h' other answers = answers
all_of_it outcome.Collect collected mutators mutators' space space' h h' other answers = absurd (other refl)

-- ---- reports

-- an object that is placed leaves the report
placed_report : (before after : Space) (n : Name) (s : Shape) (p : Place) → IsPlaced before after n s p → after.report ≡ before.report
placed_report before after n s p (inl placed) = ap (λ (x : Space). x.report) placed.changes.rest
placed_report before after n s p (inr (run, placed)) = ap (λ (x : Space). x.report) placed.changes.rest

-- a turn leaves it
turn_report : (collected : Bool) (t : ℕ) (m m' : Mutating) (space space' : Space) (served served' : Bool) (h h' : List Item) → TakesTurn collected t m m' space space' served served' h h' → space'.report ≡ space.report
turn_report collected t m m' space space' served served' h h' (passes same same_space same_served same_h idle) = refl
turn_report collected t m m' space space' served served' h h' (serves a b w from to was k waits makes) =
    ap (λ (x : Space). x.report) makes.counted ∙ ap (λ (x : Space). x.report) makes.served.held
    ∙ placed_report space makes.served.middle (next_name m) w.shape makes.place makes.served.placed
turn_report collected t m m' space space' served served' h h' (refuses a b w from to k waits stands refused) = ap (λ (x : Space). x.report) refused.space

-- so turns do
turns_report : (collected : Bool) (mutators : List Mutating) (space : Space) (h : List Item) (n : ℕ) (now : List Mutating) (amid : Space) (served : Bool) (k : List Item) → TakeTurns collected mutators space h n now amid served k
    → amid.report ≡ space.report
turns_report collected mutators space h n now amid served k (begins) = refl
turns_report collected mutators space h n now amid served k (next i later from to was is l l' m m' turns at taken) =
    turn_report collected (i + 1) m m' from to was is l l' taken ∙ turns_report collected mutators space h i later from was l turns

-- and a call does, however it ends
pub answers_report : (result : Served) (collected : Bool) (mutators mutators' : List Mutating) (space space' : Space) (h h' : List Item) → Answers result collected mutators mutators' space space' h h' → space'.report ≡ space.report
answers_report outcome.All collected mutators mutators' space space' h h' were = turns_report collected mutators space h (length mutators) mutators' space' were.served h' were.turns
answers_report outcome.Collect collected mutators mutators' space space' h h' were = turns_report collected mutators space h were.number mutators' space' were.served h' were.turns

-- ---- pauses

-- a turn makes none
turn_pauses : (threads : ℕ) (collected : Bool) (t : ℕ) (m m' : Mutating) (space space' : Space) (served served' : Bool) (h h' : List Item) → TakesTurn collected t m m' space space' served served' h h'
    → (moment threads h').number ≡ (moment threads h).number
turn_pauses threads collected t m m' space space' served served' h h' (passes same same_space same_served same_h idle) = refl
turn_pauses threads collected t m m' space space' served served' h h' (serves a b w from to was k waits makes) = refl
turn_pauses threads collected t m m' space space' served served' h h' (refuses a b w from to k waits stands refused) = refl

-- so turns do
pub turns_pause : (threads : ℕ) (collected : Bool) (mutators : List Mutating) (space : Space) (h : List Item) (n : ℕ) (now : List Mutating) (amid : Space) (served : Bool) (k : List Item)
    → TakeTurns collected mutators space h n now amid served k → (moment threads k).number ≡ (moment threads h).number
turns_pause threads collected mutators space h n now amid served k (begins) = refl
turns_pause threads collected mutators space h n now amid served k (next i later from to was is l l' m m' turns at taken) =
    turn_pauses threads collected (i + 1) m m' from to was is l l' taken ∙ turns_pause threads collected mutators space h i later from was l turns

-- where no pause was made, as many are counted
pub pauses_same : (task : Task) (space space' : Space) (seen seen' : Option (List Sight)) (h h' : List Item) (g g' : AbstractState) → HasCome task space seen h g → HasCome task space' seen' h' g'
    → (moment (threads_of task) h').number ≡ (moment (threads_of task) h).number → space.pauses ≡ space'.pauses
pauses_same task space space' seen seen' h h' g g' come come' same =
    come.safepoint.numbers.pauses ∙ ap (λ (m : Moment). m.number) come.stands.moment ∙ sym same
    ∙ sym (ap (λ (m : Moment). m.number) come'.stands.moment) ∙ sym come'.safepoint.numbers.pauses

-- where rounds have paused, they are cut off by what is told of the report of their space
pub cut_off : (cut : List Item → List Item → PauseReport → Type 0) (task : Task) (space : Space) (seen : Option (List Sight)) (h k : List Item) (asked : Ask) → IsPaused task space seen k asked → cut h k (report_of space.report) → AreCutOff cut task space seen h
cut_off cut task space seen h k asked (report, g, paused) here = record {
  history = k;
  asked = asked;
  report = report;
  abstract_state = g;
  paused = paused;
  cut_off = subst (cut h k) (paused.come.safepoint.numbers.report ∙ paused.come.stands.reported) here;
}

-- helpers that stay from call to call stay over all of them
pub keeps_on : (before middle after : List AnyActor) → KeepsHelpers before middle → KeepsHelpers middle after → KeepsHelpers before after
keeps_on before middle after first second = record { order = second.order; same = second.same ∙ first.same; tracers = second.tracers ∙ first.tracers }
