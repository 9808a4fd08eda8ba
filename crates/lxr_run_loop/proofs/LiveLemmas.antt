-- How many objects a run of a script leaves: the world, and what its pauses promoted and didn't reclaim.
use Rattle.std.proofs.Common.{◌≡◌, ℕ, ◌+◌, ◌≤◌, refl, sym, subst, arith, Bool, true, false, cond, List, [], ◌∷◌, length}
use Rattle.std.specs.Prelude.{Option}
use Rattle.std.specs.Ordering.{is_lt}
use Rattle.std.proofs.lemmas.Bool.{false_from_ne_true}
use Rattle.lxr_layout.specs.declared.Name.{Name}
use Rattle.lxr_graph.specs.declared.Reply.{Reply}
use Rattle.lxr_graph.specs.declared.Reply.TheVariants as reply
use Rattle.lxr_graph.specs.History.{Item, Call, Pause, Renew, PauseReport, report_of}
use Rattle.lxr_graph.specs.Names.{has, insert_name, name_order, same_name}
use Rattle.lxr_image.specs.declared.space.Space.{Space}
use Rattle.lxr_model.specs.Legal.{IsLegalSoFar}
use Rattle.lxr_model.specs.Moments.{made_after, moment}
use Rattle.lxr_model.specs.Terms.{Terms}
use Rattle.lxr_model.proofs.HistoryLemmas.{good_history}
use Rattle.lxr_model.proofs.ReachableLemmas.{promoted_made}
use Rattle.lxr_model.proofs.UnrenewedLemmas.{IsUnrenewed}
use Rattle.lxr_model_laws.proofs.OnceLemmas.{apart, reclaimed_within}
use Rattle.lxr_model_laws.proofs.ReportLemmas.{moments_in_order, reports_in_order}
use Rattle.lxr_model_laws.proofs.TraceLemmas.{running_garbage}
use Rattle.lxr_invariant.proofs.NameLemmas.{in_first, in_second}
use Rattle.lxr_mutator.specs.Mutating.{Mutating}
use Rattle.lxr_core_invariant.specs.EpochStates.{Extends, called, same}
use Rattle.lxr_core.specs.declared.actors.AnyActor.{AnyActor}
use Rattle.lxr_core.specs.Actors.{mutators_in}
use Rattle.lxr_one_pause.specs.declared.Pace.{Pace}
use Rattle.lxr_one_pause.proofs.LeftLemmas.{Reclaims, left_length, without_length}
use Rattle.lxr_serve.specs.Answering.{Answers, TakeTurns, TakesTurn, begins, next, passes, refuses, serves}
use Rattle.lxr_serve.specs.declared.Served.{Served}
use Rattle.lxr_serve.specs.declared.Served.TheVariants as outcome
use Rattle.lxr_run_history.specs.Sums.{totals_of}
use Rattle.lxr_rounds_history.proofs.ThreadSums.{counted_in, one}
use Rattle.lxr_rounds_invariant.specs.LoopInvariant.{pace_of}
use Rattle.lxr_run_loop.specs.Tasks.{RunTask, rounds_of}
use Rattle.lxr_rounds.specs.Answering.{AnswersWaiting, all, collects}
use Rattle.lxr_run_loop.specs.Drawing.{IsDrawn, at_opening, by_answers, by_epoch, by_listing}

-- ---- one pause

-- one object at most is made by a call
insert_few : (n : Name) (ms : List Name) → length (insert_name n ms) ≤ length ms + 1
insert_few n [] = omega arith
insert_few n (m ∷ ms) = elim (is_lt (name_order m n)) as (λ b. length (cond b (m ∷ insert_name n ms) (cond (same_name n m) (m ∷ ms) (n ∷ m ∷ ms))) ≤ length (m ∷ ms) + 1) [
  | true ↦ let rest = insert_few n ms in omega (arith, rest)
  | false ↦ elim (same_name n m) as (λ b. length (cond b (m ∷ ms) (n ∷ m ∷ ms)) ≤ length (m ∷ ms) + 1) [ true ↦ omega arith | false ↦ omega arith ]
]

made_few : (ms : List Name) (r : Reply) → length (made_after ms r) ≤ length ms + 1
made_few ms (reply.New n) = insert_few n ms
made_few ms r = omega arith

-- what a pause behind a history reclaims
reclaims : (terms : Terms) (h : List Item) (report : PauseReport) → IsLegalSoFar terms (Pause report ∷ h) → Reclaims (moment terms.threads h) report
reclaims terms h report legal =
    let m = moment terms.threads h in
    let (parts, is) = legal.2.reports in
    let good = good_history terms h legal.0 in
    let stays = running_garbage terms h legal.0 in
    let ordered = reports_in_order m report (parts, is) in
    let within = reclaimed_within terms.threads m report parts is good stays in
    record {
      unreclaimed = (moments_in_order terms h legal.0).unreclaimed;
      promoted = ordered.promoted;
      dead = ordered.dead;
      swept = ordered.swept;
      new = λ n named. false_from_ne_true (has m.unreclaimed n) (λ old. (good.young n (promoted_made ((is.promoted.members n).0 named))).0 (good.kept n old));
      dead_were = λ n named. within n (in_first report.dead report.swept n named);
      swept_were = λ n named. within n (in_second report.dead report.swept n named);
      once = apart terms.threads m report parts is good stays;
    }

-- ---- a history

-- What the reports of a history say of how many objects are left: the world, and what they promoted and didn't reclaim. They have promoted no
-- more than there were calls.
pub record CountsLeft (threads : ℕ) (h : List Item) : Type 0 where
  pub left : length (moment threads h).unreclaimed + ((totals_of h).dead + (totals_of h).swept) ≡ 1 + (totals_of h).promoted
  pub few : (totals_of h).promoted + length (moment threads h).made ≤ counted_in one h

-- so it is where names were never renewed
pub counts_left : (terms : Terms) (h : List Item) → IsLegalSoFar terms h → IsUnrenewed h → CountsLeft terms.threads h
counts_left terms [] legal unrenewed = record { left = refl; few = omega arith }
counts_left terms (Renew ns ∷ h) legal unrenewed = absurd unrenewed
counts_left terms (Call t o r ∷ h) legal unrenewed =
    let before = counts_left terms h legal.0 unrenewed in
    let few = before.few in
    let more = made_few (moment terms.threads h).made r in
    record { left = before.left; few = omega (arith, few, more) }
counts_left terms (Pause report ∷ h) legal unrenewed =
    let before = counts_left terms h legal.0 unrenewed in
    let left = before.left in
    let few = before.few in
    let is = reclaims terms h report legal in
    let behind = left_length (moment terms.threads h) report is in
    let made = without_length (moment terms.threads h).made report.promoted (moments_in_order terms h legal.0).made is.promoted (λ n named. promoted_made ((legal.2.reports.1.promoted.members n).0 named)) in
    record { left = omega (arith, left, behind); few = omega (arith, few, made) }

-- ---- names are never renewed in the run of a script

extends_unrenewed : (threads every : ℕ) (h k : List Item) → Extends threads every h k → IsUnrenewed h → IsUnrenewed k
extends_unrenewed threads every h k (same) unrenewed = unrenewed
extends_unrenewed threads every h k (called l t o r before is) unrenewed = extends_unrenewed threads every h l before unrenewed

turn_unrenewed : (collected : Bool) (t : ℕ) (m m' : Mutating) (space space' : Space) (served served' : Bool) (h h' : List Item) → TakesTurn collected t m m' space space' served served' h h' → IsUnrenewed h → IsUnrenewed h'
turn_unrenewed collected t m m' space space' served served' h h' (passes n amid was k idle) unrenewed = unrenewed
turn_unrenewed collected t m m' space space' served served' h h' (serves a b w from to was k waits makes) unrenewed = unrenewed
turn_unrenewed collected t m m' space space' served served' h h' (refuses a b w from to k waits stands refused) unrenewed = unrenewed

turns_unrenewed : (collected : Bool) (mutators : List Mutating) (space : Space) (h : List Item) (n : ℕ) (now : List Mutating) (amid : Space) (served : Bool) (k : List Item) → TakeTurns collected mutators space h n now amid served k
    → IsUnrenewed h → IsUnrenewed k
turns_unrenewed collected mutators space h n now amid served k (begins) unrenewed = unrenewed
turns_unrenewed collected mutators space h n now amid served k (next i later from to was is l l' m m' turns at taken) unrenewed =
    turn_unrenewed collected (i + 1) m m' from to was is l l' taken (turns_unrenewed collected mutators space h i later from was l turns unrenewed)

answers_unrenewed : (result : Served) (collected : Bool) (mutators mutators' : List Mutating) (space space' : Space) (h h' : List Item) → Answers result collected mutators mutators' space space' h h' → IsUnrenewed h → IsUnrenewed h'
answers_unrenewed outcome.All collected mutators mutators' space space' h h' answers unrenewed =
    turns_unrenewed collected mutators space h (length mutators) mutators' space' answers.served h' answers.turns unrenewed
answers_unrenewed outcome.Collect collected mutators mutators' space space' h h' answers unrenewed =
    turns_unrenewed collected mutators space h answers.number mutators' space' answers.served h' answers.turns unrenewed

waiting_unrenewed : (pace : Pace) (collected : Bool) (mutators : List Mutating) (space : Space) (h : List Item) (mutators' : List Mutating) (space' : Space) (h' : List Item)
    → AnswersWaiting pace collected mutators space h mutators' space' h' → IsUnrenewed h → IsUnrenewed h'
waiting_unrenewed pace collected mutators space h mutators' space' h' (all c ms ms' s s' k k' answers) unrenewed = answers_unrenewed outcome.All collected mutators mutators' space space' h h' answers unrenewed
waiting_unrenewed pace collected mutators space h mutators' space' h' (collects c ms middle ms' s full paused s' k l k' answers makes rest) unrenewed =
    waiting_unrenewed pace true middle paused (Pause (report_of paused.report) ∷ l) mutators' space' h' rest (answers_unrenewed outcome.Collect collected mutators middle space full h l answers unrenewed)

pub drawn_unrenewed : (task : RunTask) (h : List Item) (x : Option ℕ) (space : Space) (actors : List AnyActor) → IsDrawn task h x space actors → IsUnrenewed h
drawn_unrenewed task h x space actors (at_opening s a opened made) = tt
drawn_unrenewed task h x space actors (by_epoch k l y y' s closed paused a a' asked drawn makes right untraced behind) =
    subst IsUnrenewed (sym makes.history) (extends_unrenewed _ _ k _ makes.closes.extends (drawn_unrenewed task k y s a drawn))
drawn_unrenewed task h x space actors (by_answers k l y g collected s s' a a' seen drawn begun answers keeps) =
    waiting_unrenewed (pace_of (rounds_of task).plan) collected (mutators_in a) s k (mutators_in a') s' l answers (drawn_unrenewed task k y s a drawn)
drawn_unrenewed task h x space actors (by_listing k y s s' a drawn lists) = drawn_unrenewed task k y s a drawn
