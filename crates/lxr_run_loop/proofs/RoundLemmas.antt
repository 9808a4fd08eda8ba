-- A round of a run: an epoch and what follows it. Either the run is done then, or it is between two rounds again and less is left to do.
use Rattle.std.proofs.Common.{◌≡◌, ℕ, ap, sym, subst, ◌∙◌, Bool, false, true, List, ◌∷◌}
use Rattle.std.specs.Prelude.{Option}
use Rattle.lxr_graph.specs.History.{Item, Pause, report_of}
use Rattle.lxr_image.specs.declared.space.Space.{Space}
use Rattle.lxr_invariant.specs.AbstractState.{AbstractState}
use Rattle.lxr_core.specs.declared.actors.AnyActor.{AnyActor}
use Rattle.lxr_core.specs.Actors.{mutators_in}
use Rattle.lxr_core.proofs.ScriptLemmas.{full_as}
use Rattle.lxr_sights.specs.Sights.{Sight}
use Rattle.lxr_one_pause.specs.declared.Ask.TheVariants as ask
use Rattle.lxr_rounds_invariant.specs.LoopInvariant.{asked_by}
use Rattle.lxr_rounds_invariant.proofs.ActorLemmas.{left_less}
use Rattle.lxr_run_history.specs.Left.{TellsByOptions}
use Rattle.lxr_run_loop.specs.Courses.{AreFew}
use Rattle.lxr_run_loop.specs.Tasks.{RunTask, WasCutOff, rounds_of}
use Rattle.lxr_run_loop.specs.Telling.{CountsPlaced, FailsReport, NotesServed, StandsBehind, TellsReport}
use Rattle.lxr_run_loop.specs.declared.course.Course.{Course}
use Rattle.lxr_rounds_invariant.specs.LoopInvariant as rounds
use Rattle.lxr_rounds.specs.Observing.{Fails}
use Rattle.lxr_rounds.specs.Serving.{AreCutOff}
use Rattle.lxr_text_stream.specs.declared.transfer.WriteError.{WriteError}
use Rattle.lxr_run_loop.proofs.TellerLemmas.{text_front}
use Rattle.lxr_run_loop.specs.declared.teller.Teller.{Teller}
use Rattle.lxr_run_loop.specs.Drawing.{IsDrawn, by_answers, by_epoch, by_listing}
use Rattle.lxr_placing.specs.Listing.{ListsAll}
use Rattle.lxr_rounds.specs.Following.{HasFollowed, IsFollowedByPause}
use Rattle.lxr_run_loop.specs.Progress.{HasMadeEpoch, HasMadeRound, IsBetweenRounds, IsThere}
use Rattle.lxr_rounds.proofs.EndedLemmas.{left_no_more}

-- ---- the teller

-- what follows an epoch was told
pub told_behind : (lists_so : Space → Space → Type 0) (told : List Item → List Item → Type 0) (ended : Bool) (task : rounds.Task) (before after : Space) (seen : Option (List Sight)) (earlier actors actors' : List AnyActor) (h : List Item)
    → HasFollowed ended false lists_so told task before after seen earlier actors actors' h → (k : List Item) × told h k
told_behind lists_so told true task before after seen earlier actors actors' h last = (Pause last.pause.report ∷ h, last.tells)
told_behind lists_so told false task before after seen earlier actors actors' h next = (next.history, next.tells)

-- the course behind a round
abbrev course_by : Teller → Option ℕ → Course
course_by teller x = record { generator = x; totals = teller.totals; order = teller.order }

pub course_is : (before after : Course) (teller : Teller) (x : Option ℕ) → before.generator ≡ x → after ≡ record before { totals = teller.totals; order = teller.order } → record { generator = x; totals = teller.totals; order = teller.order } ≡ after
course_is before after teller x same is = sym (is ∙ ap (course_by teller) same)

-- where the teller failed the run was cut off
pub was_cut_off : {S : Type 0} (written : S → Option (List ℕ)) (faults : S → ℕ) (task : RunTask) (o : Teller) (w w' : S) (h : List Item) (why : WriteError) (space : Space) (seen : Option (List Sight))
    → AreCutOff (λ j k report. Fails CountsPlaced NotesServed (TellsReport written faults) (FailsReport written faults) o w j why w' k report) (rounds_of task) space seen h → StandsBehind task o (written w) h → TellsByOptions task.options space
    → WasCutOff task space (written w') seen
was_cut_off written faults task o w w' h why space seen cut stands told =
    let come = cut.paused.come in (
      Pause cut.report ∷ cut.history,
      record {
        history = come.history;
        text_front = text_front written faults task o w w' h cut.history cut.report why cut.cut_off stands;
        left = record { left = (cut.abstract_state, record { stands = come.stands; between = cut.paused.between; limits = come.limits; tally = come.tally }); told = told };
        sights = (come.places, come.sights);
      },
    )

-- ---- a round

-- where no trace is wished for none is asked for
untraced : (collects : Bool) → ¬ (asked_by collects false ≡ ask.Trace)
untraced true e = cc
untraced false e = cc

-- of a run that has made an epoch
module _ (task : RunTask) (space after : Space) (written : Option (List ℕ)) (seen : Option (List Sight)) (before actors : List AnyActor) (h : List Item) (g : AbstractState)
    (x x' : Option ℕ) (amid : IsBetweenRounds task space written seen before h g) (drawn : IsDrawn task h x space before) (made : HasMadeEpoch task space after written seen before actors h x x') where
  -- with the pause behind it the history is drawn
  drawn_on : (collects : Bool) (then : Space) (seen' : Option (List Sight)) (pause : IsFollowedByPause (rounds_of task) false collects made.history after then seen') → IsDrawn task (Pause pause.report ∷ made.history) x' then actors
  drawn_on collects then seen' pause =
      let report_is : report_of then.report ≡ pause.report = pause.paused.come.safepoint.numbers.report ∙ pause.paused.come.stands.reported in
      subst (λ r. IsDrawn task (Pause r ∷ made.history) x' then actors) report_is (by_epoch h made.history x x' space after then before actors (asked_by collects false) drawn made.makes pause.right (untraced collects) pause.behind)

  -- By what has followed it the round is made. What was told of the histories before and behind that has a teller that stood behind the one stand behind
  -- the other.
  pub round : (lists_so : Space → Space → Type 0) → ((before after : Space) → lists_so before after → ListsAll before after) → (told : List Item → List Item → Type 0) (ended : Bool) (again : Space) (written' : Option (List ℕ)) (seen' : Option (List Sight)) (actors' : List AnyActor) (teller teller' : Teller)
      → HasFollowed ended false lists_so told (rounds_of task) after again seen' before actors actors' made.history → StandsBehind task teller written made.history
      → ((k : List Item) → told made.history k → StandsBehind task teller written made.history → StandsBehind task teller' written' k) → AreFew teller'.totals again.pauses → TellsByOptions task.options again
      → HasMadeRound task again written' seen' before actors' (record { generator = x'; totals = teller'.totals; order = teller'.order }) ended
  round lists_so all told true again written' seen' actors' teller teller' last stands follows few listed =
      let stands' = follows (Pause last.pause.report ∷ made.history) last.tells stands in
      subst (λ left. IsThere task again written' seen' before left (record { generator = x'; totals = teller'.totals; order = teller'.order })) (sym last.same)
      (record {
        complete = (Pause last.pause.report ∷ made.history, record { rounds = last.ran; text = stands'.text; told = listed }, drawn_on true again seen' last.pause, stands'.totals, stands'.order, made.full);
        no_more = left_no_more (rounds_of task) h made.history (mutators_in before) (mutators_in actors) amid.epochs.actors_rest.mutators made.ran.actors_rest.mutators made.ran.grows;
      })
  round lists_so all told false again written' seen' actors' teller teller' next stands follows few listed =
      let stands' = follows next.history next.tells stands in record {
        under_way = (
          next.history,
          next.abstract_state,
          record { epochs = next.again.amid; threads = amid.threads; text = stands'.text; full = full_as (mutators_in actors') (mutators_in actors) next.asked made.full },
          by_listing next.history x' next.answered again actors'
              (by_answers (Pause next.pause.report ∷ made.history) next.history x' next.pause.abstract_state next.collects next.paused next.answered actors actors' next.sighted
              (drawn_on next.collects next.paused next.sighted next.pause) next.serves next.answers next.keeps)
              (all next.answered again next.lists),
          record { are = stands'.totals; few = few; order = stands'.order },
        );
        less = left_less (rounds_of task) h next.history (mutators_in before) (mutators_in actors') amid.epochs.actors_rest.mutators next.again.amid.actors_rest.mutators next.again.more;
      }
