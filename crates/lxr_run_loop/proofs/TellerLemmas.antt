-- A teller that stood behind a history stands behind the one that it was told of.
use Rattle.std.proofs.Common.{◌≡◌, ℕ, ◌+◌, ◌*◌, ◌^◌, ◌<◌, ◌≤◌, refl, sym, ap, subst, ◌∙◌, arith, Bool, IsTrue, List, ◌∷◌, length}
use Rattle.std.specs.Prelude.{Option, not}
use Rattle.std.proofs.lemmas.Bool.{and_parts}
use Rattle.lxr_layout.specs.declared.TheConstants.{MOST_GRANULES}
use Rattle.lxr_graph.specs.declared.report.Kind.{Kind}
use Rattle.lxr_graph.specs.declared.report.Kind.TheVariants as kind
use Rattle.lxr_graph.specs.History.{Item, Pause, PauseReport}
use Rattle.lxr_image.specs.declared.space.Space.{Space}
use Rattle.lxr_model.specs.Reports.{is_draining}
use Rattle.lxr_mutator.specs.Mutating.{Mutating}
use Rattle.lxr_core.specs.declared.actors.AnyActor.{AnyActor}
use Rattle.lxr_core.specs.Actors.{mutators_in}
use Rattle.lxr_serve.specs.Answering.{Answers, TakeTurns, TakesTurn, begins, next, passes, refuses, serves}
use Rattle.lxr_serve.specs.declared.Served.{Served}
use Rattle.lxr_serve.specs.declared.Served.TheVariants as outcome
use Rattle.lxr_text_print.specs.Reports.{is_plain}
use Rattle.lxr_text_stream.specs.Streams.{Appends, AppendsFront, Rose}
use Rattle.lxr_text_stream.specs.declared.transfer.WriteError.{WriteError}
use Rattle.lxr_text_stream.specs.declared.transfer.WriteError.TheVariants as error
use Rattle.lxr_text_stream.proofs.StreamLemmas.{Appends-append, AppendsFront-after}
use Rattle.lxr_words.specs.declared.Command.{Command}
use Rattle.lxr_words.specs.declared.Command.TheVariants.{Judge, Large, Load, Map, Order, Run}
use Rattle.lxr_words.specs.declared.Options.{Options}
use Rattle.lxr_run_history.specs.declared.totals.Totals.{Totals}
use Rattle.lxr_run_history.specs.Sums.{totals_of, with_report}
use Rattle.lxr_run_history.specs.Texts.{prints_counts, told_by, told_report, told_text}
use Rattle.lxr_rounds.specs.Observing.{Fails, IsNextReport, Tells, WereAnswered, answers, nothing, pause}
use Rattle.lxr_run_loop.specs.declared.teller.Teller.{Teller}
use Rattle.lxr_run_loop.specs.Courses.{AreFew}
use Rattle.lxr_run_loop.specs.Orders.{IsOrderOf, calls_of_first}
use Rattle.lxr_run_loop.specs.Tasks.{RunTask}
use Rattle.lxr_run_loop.specs.Telling.{CountsPlaced, FailsReport, NotesServed, StandsBehind, TellsReport}
use Rattle.lxr_run_loop.proofs.OrderLemmas.{note_follows, notes_follow, serving_notes}
use Rattle.lxr_run_loop.proofs.TextLemmas.{told_call, told_pause}

-- ---- totals

-- one report more keeps totals few
pub totals_few : (totals : Totals) (pauses : ℕ) (report : PauseReport) → AreFew totals pauses → IsNextReport pauses report → AreFew (with_report totals report) (pauses + 1)
totals_few totals pauses report few is = record {
  promoted = more totals.promoted (length report.promoted) few.promoted is.promoted;
  dead = more totals.dead (length report.dead) few.dead is.dead;
  swept = more totals.swept (length report.swept) few.swept is.swept;
  stuck = more totals.stuck (length report.stuck) few.stuck is.stuck;
}
  where
    more : (total named : ℕ) → total ≤ MOST_GRANULES * pauses → named ≤ MOST_GRANULES → total + named ≤ MOST_GRANULES * (pauses + 1)
    more total named so_far own = omega arith

-- so they fit
pub totals_fit : (total pauses : ℕ) → total ≤ MOST_GRANULES * pauses → pauses < 2 ^ 32 → total < 2 ^ 64
totals_fit total pauses few fits = omega arith

-- ---- counts

-- a pause that isn't plain drains
drains : (k : Kind) → IsTrue (not (is_plain k)) → IsTrue (is_draining k)
drains kind.Plain unplain = unplain
drains kind.Begin unplain = refl
drains (kind.End j) unplain = refl
drains kind.Collect unplain = refl

-- so one does whose counts are printed
pub printed_drains : (command : Command) (counts : Bool) (k : Kind) → IsTrue (prints_counts command counts k) → IsTrue (is_draining k)
printed_drains Run counts k prints = drains k (and_parts counts (not (is_plain k)) prints).1
printed_drains Map counts k prints = drains k (and_parts counts (not (is_plain k)) prints).1
printed_drains Order counts k prints = drains k (and_parts counts (not (is_plain k)) prints).1
printed_drains Judge counts k prints = absurd (cc)
printed_drains Large counts k prints = absurd (cc)
printed_drains (Load seed) counts k prints = absurd (cc)

-- ---- what is answered

-- what a history has of reports: their totals, and what is told of them
record SameReports (command : Command) (counts : Bool) (h h' : List Item) : Type 0 where
  totals : totals_of h' ≡ totals_of h
  text : told_by command counts h' ≡ told_by command counts h

-- a turn adds none
turn_reports : (command : Command) (counts : Bool) (collected : Bool) (t : ℕ) (m m' : Mutating) (space space' : Space) (served served' : Bool) (h h' : List Item) → TakesTurn collected t m m' space space' served served' h h'
    → SameReports command counts h h'
turn_reports command counts collected t m m' space space' served served' h h' (passes same same_space same_served same_h idle) = record { totals = refl; text = refl }
turn_reports command counts collected t m m' space space' served served' h h' (serves a b w from to was k waits makes) = record { totals = refl; text = told_call command counts t _ _ k }
turn_reports command counts collected t m m' space space' served served' h h' (refuses a b w from to k waits stands refused) = record { totals = refl; text = told_call command counts t _ _ k }

-- so turns do
turns_report : (command : Command) (counts : Bool) (collected : Bool) (mutators : List Mutating) (space : Space) (h : List Item) (n : ℕ) (now : List Mutating) (amid : Space) (served : Bool) (k : List Item)
    → TakeTurns collected mutators space h n now amid served k → SameReports command counts h k
turns_report command counts collected mutators space h n now amid served k (begins) = record { totals = refl; text = refl }
turns_report command counts collected mutators space h n now amid served k (next i later from to was is l l' m m' turns at taken) =
    let before = turns_report command counts collected mutators space h i later from was l turns in
    let one = turn_reports command counts collected (i + 1) m m' from to was is l l' taken in
    record { totals = one.totals ∙ before.totals; text = one.text ∙ before.text }

answers_report : (command : Command) (counts : Bool) (result : Served) (collected : Bool) (mutators mutators' : List Mutating) (space space' : Space) (h h' : List Item) → Answers result collected mutators mutators' space space' h h'
    → SameReports command counts h h'
answers_report command counts outcome.All collected mutators mutators' space space' h h' were = turns_report command counts collected mutators space h (length mutators) mutators' space' were.served h' were.turns
answers_report command counts outcome.Collect collected mutators mutators' space space' h h' were = turns_report command counts collected mutators space h were.number mutators' space' were.served h' were.turns

-- ---- one thing that is told

module _ {S : Type 0} (written : S → Option (List ℕ)) (faults : S → ℕ) (task : RunTask) where
  -- a report
  stands_behind_pause : (o o' : Teller) (w w' : S) (h : List Item) (report : PauseReport) → TellsReport written faults o w report o' w' → StandsBehind task o (written w) h → StandsBehind task o' (written w') (Pause report ∷ h)
  stands_behind_pause o o' w w' h report tells stands = record {
    options = tells.sums.options ∙ stands.options;
    totals = tells.sums.totals ∙ ap (λ t. with_report t report) stands.totals;
    order = note_follows o.order o'.order h report tells.sums.order stands.order;
    text = subst (Appends task.written (written w')) (sym (told_pause task.options.command task.options.counts h report))
        (Appends-append task.written (written w) (written w') (told_text task.options h) (told_report task.options.command task.options.counts report) stands.text
        (subst (λ (p : Options). Appends (written w) (written w') (told_report p.command p.counts report)) stands.options tells.text));
  }

  -- answers
  stands_behind_answers : (o o2 o' : Teller) (w : S) (h k : List Item) (actors actors' : List AnyActor) (space space' : Space) → CountsPlaced o actors o2 → WereAnswered actors actors' space space' h k → NotesServed o2 space.limits.threads actors' o'
      → StandsBehind task o (written w) h → StandsBehind task o' (written w) k
  stands_behind_answers o o2 o' w h k actors actors' space space' counts were notes stands =
      let same = answers_report task.options.command task.options.counts were.result were.collected (mutators_in actors) (mutators_in actors') space space' h k were.answers in
      let fit = were.can.fit in
      let most = were.can.between.safepoint.holds.space.limits.threads.1 in
      let noted = serving_notes were.result were.collected actors actors' space space' h k o2.placed space.limits.threads fit.helpers.order were.helpers.order fit.as_many
      most (λ i m at. (fit.each i m at).thread) counts.placed were.answers in
      record {
        options = ap (λ (t : Teller). t.options) notes.rest ∙ ap (λ (t : Teller). t.options) counts.rest ∙ stands.options;
        totals = ap (λ (t : Teller). t.totals) notes.rest ∙ ap (λ (t : Teller). t.totals) counts.rest ∙ stands.totals ∙ sym same.totals;
        order = notes_follow o2.order o'.order (calls_of_first o2.placed actors' space.limits.threads) h k notes.order noted
            (subst (λ x. IsOrderOf x h) (sym (ap (λ (t : Teller). t.order) counts.rest)) stands.order);
        text = subst (Appends task.written (written w)) (sym same.text) stands.text;
      }

  -- ---- all that is told

  pub stands_on : (o : Teller) (w : S) (h : List Item) (o' : Teller) (w' : S) (k : List Item) → Tells CountsPlaced NotesServed (TellsReport written faults) o w h o' w' k → StandsBehind task o (written w) h → StandsBehind task o' (written w') k
  stands_on o w h o' w' k (nothing) stands = stands
  stands_on o w h o' w' k (pause o1 o2 w1 w2 l report before told) stands = stands_behind_pause o1 o' w1 w' l report told (stands_on o w h o1 w1 l before stands)
  stands_on o w h o' w' k (answers o1 o2 o3 w1 l m actors actors' space space' before begun were then) stands =
      stands_behind_answers o1 o2 o' w' l k actors actors' space space' begun were then (stands_on o w h o1 w1 l before stands)

-- faults rise
pub faults_on : {S : Type 0} (written : S → Option (List ℕ)) (faults : S → ℕ) (o : Teller) (w : S) (h : List Item) (o' : Teller) (w' : S) (k : List Item) → Tells CountsPlaced NotesServed (TellsReport written faults) o w h o' w' k → faults w ≤ faults w'
faults_on written faults o w h o' w' k (nothing) = omega arith
faults_on written faults o w h o' w' k (pause o1 o2 w1 w2 l report before told) =
    let rise = faults_on written faults o w h o1 w1 l before in
    let more = told.faults_rise in
    omega (arith, rise, more)
faults_on written faults o w h o' w' k (answers o1 o2 o3 w1 l m actors actors' space space' before begun were then) = faults_on written faults o w h o1 w1 l before

-- where it failed, a prefix was written
pub text_front : {S : Type 0} (written : S → Option (List ℕ)) (faults : S → ℕ) (task : RunTask) (o : Teller) (w w' : S) (h k : List Item) (report : PauseReport) (why : WriteError)
    → Fails CountsPlaced NotesServed (TellsReport written faults) (FailsReport written faults) o w h why w' k report → StandsBehind task o (written w) h → AppendsFront task.written (written w') (told_text task.options (Pause report ∷ k))
text_front written faults task o w w' h k report why fails stands =
    let there = stands_on written faults task o w h fails.observer fails.output k fails.tells stands in
    subst (AppendsFront task.written (written w')) (sym (told_pause task.options.command task.options.counts k report))
    (AppendsFront-after task.written (written fails.output) (written w') (told_text task.options k) (told_report task.options.command task.options.counts report) there.text
    (subst (λ (p : Options). AppendsFront (written fails.output) (written w') (told_report p.command p.counts report)) there.options fails.fails.text))

-- and faults have risen, by one or more where a fault is told
pub fails_rise : {S : Type 0} (written : S → Option (List ℕ)) (faults : S → ℕ) (o : Teller) (w w' : S) (h k : List Item) (report : PauseReport) (why : WriteError)
    → Fails CountsPlaced NotesServed (TellsReport written faults) (FailsReport written faults) o w h why w' k report → (faults w ≤ faults w') × (why ≡ error.Fault → Rose (faults w) (faults w'))
fails_rise written faults o w w' h k report why fails =
    let rise = faults_on written faults o w h fails.observer fails.output k fails.tells in
    let more = fails.fails.faults_rise in
    (omega (arith, rise, more), λ fault. rose_before (faults w) (faults fails.output) (faults w') rise (fails.fails.cause fault))
  where
    rose_before : (a b c : ℕ) → a ≤ b → Rose b c → Rose a c
    rose_before a b c less rose = omega (arith, less, rose)
