-- The pause after an epoch is due and asked right. Behind it all threads have ended, or waiting `new`s are answered and the run is between epochs
-- again.
use Rattle.std.proofs.Common.{◌≡◌, ◌↔◌, IsTrue, ℕ, ◌+◌, ◌*◌, ◌≤◌, refl, sym, ap, subst, ◌∙◌, arith, Bool, false, true, ◌&&◌, ◌||◌, List, ◌∷◌, length}
use Rattle.std.specs.Prelude.{Option, nat_eq}
use Rattle.std.specs.List.{All, list_any}
use Rattle.lxr_graph.specs.History.{Item, Pause, PauseReport}
use Rattle.lxr_image.specs.declared.space.Space.{Space}
use Rattle.lxr_invariant.specs.AbstractState.{AbstractState}
use Rattle.lxr_model.specs.Kinds.{MustCollect}
use Rattle.lxr_core.specs.declared.actors.AnyActor.{AnyActor}
use Rattle.lxr_core.specs.Actors.{mutators_in}
use Rattle.lxr_core.proofs.OrderLemmas.{lengths_add}
use Rattle.lxr_one_pause.specs.declared.Ask.{Ask}
use Rattle.lxr_one_pause.specs.declared.Ask.TheVariants as ask
use Rattle.lxr_one_pause.specs.declared.Pace.{Pace}
use Rattle.lxr_one_pause.specs.Pausing.{Pauses}
use Rattle.lxr_serve.specs.Serving.{KeepsHelpers}
use Rattle.lxr_sights.specs.Sights.{Sight}
use Rattle.lxr_rounds_invariant.specs.LoopInvariant.{FitsCounts, HasPaused, HasRunEpoch, IsServing, Task, asked_by, done_of, pace_of, terms_of}
use Rattle.lxr_rounds_invariant.specs.Laws.{ListsAnew}
use Rattle.lxr_rounds_invariant.proofs.ActorLemmas.{as_many}
use Rattle.lxr_rounds_invariant.proofs.EndLemmas.{run_to}
use Rattle.lxr_rounds_invariant.proofs.PauseLemmas.{can_pause, counts_fit}
use Rattle.lxr_rounds_invariant.proofs.TurnLemmas.{runs_go_on}
use Rattle.lxr_rounds.specs.Answering.{AnswersWaiting}
use Rattle.lxr_rounds.specs.Following.{IsFollowedByPause, IsLast, IsNextDue, asked_for}
use Rattle.lxr_rounds.specs.Pausing.{HasComeToPause, MakesPause, PausesBehind, with_logs_counted}
use Rattle.lxr_rounds.specs.Ending.{NoneGoesOn, actor_collected}
use Rattle.lxr_rounds.specs.Serving.{BeginsServing}
use Rattle.lxr_rounds.proofs.EndedLemmas.{asks_right, comes, has_more, have_all_ended, not_told, traces_right}
use Rattle.lxr_rounds.proofs.ServeLemmas.{begins_serving}

-- what is found of actors after an epoch: whether all threads have ended, whether the pause shall collect, and what it is asked for
pub record AreFound (actors : List AnyActor) (ended collects begins : Bool) (asked : Ask) : Type 0 where
  pub means : IsTrue ended ↔ All NoneGoesOn actors
  pub shall : collects ≡ (ended || list_any actor_collected actors)
  pub is : asked ≡ asked_by collects begins

-- so it is where each was found of what these actors are
pub found : (actors first second : List AnyActor) (ended collects begins : Bool) (asked : Ask) → first ≡ actors → second ≡ actors → IsTrue ended ↔ All NoneGoesOn first → collects ≡ (ended || list_any actor_collected second) → asked ≡ asked_by collects begins
    → AreFound actors ended collects begins asked
found actors first second ended collects begins asked same same' means shall is = record {
  means = subst (λ xs. IsTrue ended ↔ All NoneGoesOn xs) same means;
  shall = subst (λ xs. collects ≡ (ended || list_any actor_collected xs)) same' shall;
  is = is;
}

-- of a run that has made an epoch, with what is found of its actors
module _ (task : Task) (pace : Pace) (paced : pace_of task.plan ≡ pace) (after : Space) (seen : Option (List Sight)) (earlier actors : List AnyActor) (h : List Item) (g : AbstractState)
    (ran : HasRunEpoch task after seen earlier actors h g)
    (ended collects begins : Bool) (asked : Ask) (are : AreFound actors ended collects (begins && nat_eq pace.trace 0) asked) where
  -- what it is asked for, by the plan
  asked_is : asked ≡ asked_for task begins collects
  asked_is = are.is ∙ ap (λ (p : Pace). asked_by collects (begins && nat_eq p.trace 0)) (sym paced)

  -- its pause is asked right
  right : (asked ≡ ask.Collect) ↔ MustCollect (terms_of task) h
  right = asks_right task after seen earlier actors h g ended collects (begins && nat_eq pace.trace 0) asked ran are.means are.shall are.is

  -- it is due
  pub pause_due : HasComeToPause asked pace task after seen h g
  pause_due = comes task after seen earlier actors h g pace asked paced ran (record { collects = right; traces = traces_right task begins collects asked asked_is })

  -- numbers have room for it
  pub pause_fits : FitsCounts after
  pause_fits =
      let few = ran.few in
      let grows = ran.grows in
      counts_fit task after seen h g (mutators_in actors) ran.come ran.actors_rest.mutators (omega arith)

  -- pauses are few enough to answer what waits
  pub pauses_few : (paused : ℕ) → paused ≡ after.pauses + 1 → paused ≤ 2 * done_of (mutators_in actors) + 1
  pauses_few paused one =
      let few = ran.few in
      let grows = ran.grows in
      omega arith

  -- answering leaves as many actors
  pub answered_many : (full : Space) (seen'' : Option (List Sight)) (answered : List AnyActor) (paused first : ℕ) (collected served : Bool) (k : List Item) (g'' : AbstractState)
      → IsServing task full seen'' (mutators_in actors) paused collected (mutators_in answered) first served k g'' → KeepsHelpers actors answered → length answered ≡ length actors
  answered_many full seen'' answered paused first collected served k g'' serving keeps =
      let all = lengths_add answered in
      let all' = lengths_add actors in
      let threads = as_many task k (mutators_in answered) serving.mutators_rest in
      let threads' = as_many task h (mutators_in actors) ran.actors_rest.mutators in
      let decrementers = ap length keeps.same in
      let tracers = ap length keeps.tracers in
      omega arith

  module _ (then : Space) (seen' : Option (List Sight)) (report : PauseReport) (g' : AbstractState) (paused : HasPaused task then seen' h asked report g') (made_pause : MakesPause asked pace after then) where
    -- it was made behind the history of the epoch
    pauses_behind : PausesBehind task asked h after then
    pauses_behind =
        let can = can_pause task after seen h g ran.come pause_fits in
        let (at', pauses) = made_pause g can in
        record {
          abstract_state = g;
          stands = ran.come.stands;
          can = can;
          places = at';
          pauses = subst (λ p. Pauses (with_logs_counted after) then g at' asked p) (sym paced) pauses;
        }

    -- so the epoch is followed by it
    abbrev followed : (collected : Bool) → asked ≡ asked_for task begins collected → IsFollowedByPause task begins collected h after then seen'
    followed collected by = record {
      right = subst (λ a. (a ≡ ask.Collect) ↔ MustCollect (terms_of task) h) by right;
      report = report;
      abstract_state = g';
      paused = subst (λ a. HasPaused task then seen' h a report g') by paused;
      behind = subst (λ a. PausesBehind task a h after then) by pauses_behind;
    }

    -- where all have ended, it is the last
    pub all_done : (told : List Item → List Item → Type 0) → told h (Pause report ∷ h) → ended ≡ true → IsLast begins told task after then seen' actors actors h
    all_done told tells e =
        let collecting : collects ≡ true = are.shall ∙ ap (λ b. b || list_any actor_collected actors) e in
        record {
          ended = have_all_ended task h actors ran.actors_rest (are.means.0 e);
          pause = followed true (asked_is ∙ ap (asked_for task begins) collecting);
          same = refl;
          ran = run_to task after then seen seen' earlier actors h g g' asked report ran (have_all_ended task h actors ran.actors_rest (are.means.0 e)) paused;
          tells = tells;
        }

    -- else serving begins behind it
    pub begun : ended ≡ false → BeginsServing task then seen' collects (mutators_in actors) (Pause report ∷ h) g'
    begun e = begins_serving task then seen' (mutators_in actors) h asked collects (begins && nat_eq pace.trace 0) report g' ran.actors_rest.mutators ran.news (has_more actors (not_told ended are.means e)) are.is right paused

    -- and once all are answered, and lists are made anew, the rounds are between epochs again
    pub goes_on : (e : ended ≡ false) → then.pauses ≡ after.pauses + 1 → (full again : Space) (seen'' : Option (List Sight)) (answered : List AnyActor) (collected served : Bool) (k : List Item) (g'' : AbstractState)
        → IsServing task full seen'' (mutators_in actors) then.pauses collected (mutators_in answered) (length (mutators_in answered)) served k g''
        → AnswersWaiting pace collects (mutators_in actors) then (Pause report ∷ h) (mutators_in answered) full k → KeepsHelpers actors answered → ListsAnew full again g''
        → (lists_so : Space → Space → Type 0) → lists_so full again → (told : List Item → List Item → Type 0) → told h k → IsNextDue begins lists_so told task after again seen'' earlier actors answered h
    goes_on e one full again seen'' answered collected served k g'' serving answers keeps lists lists_so listed_so told tells = record {
      collects = collects;
      paused = then;
      sighted = seen';
      pause = followed collects asked_is;
      serves = begun e;
      answered = full;
      history = k;
      abstract_state = g'';
      answers = subst (λ p. AnswersWaiting p collects (mutators_in actors) then (Pause report ∷ h) (mutators_in answered) full k) (sym paced) answers;
      keeps = keeps;
      asked = serving.asked;
      lists = listed_so;
      again = runs_go_on task after full again seen seen'' earlier actors answered then.pauses (length (mutators_in answered)) collected served h k g g'' ran one serving refl keeps lists;
      tells = tells;
    }
