-- The sums of a run: its history has a call for each reply that a mutator keeps, and its last pause collected, so that it counted all that is left.
use Rattle.std.proofs.Common.{◌≡◌, ℕ, ◌+◌, ◌-◌, ◌^◌, ◌<◌, ◌≤◌, refl, sym, ap, subst, ◌∙◌, inr, arith, Bool, List, [], ◌∷◌, length, take}
use Rattle.std.specs.Prelude.{Option, if◌then◌else◌}
use Rattle.std.specs.List.{count_by, sum_by}
use Rattle.std.proofs.lemmas.List.{length-map}
use Rattle.std.proofs.lemmas.List.Sums.{count_by-le-length, sum_by-cons}
use Rattle.lxr_layout.specs.declared.limits.Limits.{Limits}
use Rattle.lxr_graph.specs.declared.Op.TheVariants as op
use Rattle.lxr_graph.specs.declared.Reply.{Reply}
use Rattle.lxr_graph.specs.declared.Reply.TheVariants as reply
use Rattle.lxr_graph.specs.declared.report.Count.{Count}
use Rattle.lxr_graph.specs.declared.report.Kind.{Kind}
use Rattle.lxr_graph.specs.declared.report.Kind.TheVariants as kind
use Rattle.lxr_graph.specs.History.{Item, Call, Pause, Renew, PauseReport}
use Rattle.lxr_graph.specs.Names.{union}
use Rattle.lxr_image.specs.declared.space.Space.{Space}
use Rattle.lxr_image.specs.declared.space.Tally.{Tally}
use Rattle.lxr_model.specs.Belongs.{Script}
use Rattle.lxr_model.specs.Full.{IsRightAfterCollecting}
use Rattle.lxr_model.specs.Kinds.{MayStand, ends}
use Rattle.lxr_model.specs.Moments.{moment, unreclaimed_after}
use Rattle.lxr_model.specs.Reports.{AreCounts, count_entry, is_draining}
use Rattle.lxr_mutator.specs.Mutating.{Mutating}
use Rattle.lxr_mutator.proofs.NamingLemmas.{of_kind}
use Rattle.lxr_core.specs.declared.actors.AnyActor.{AnyActor}
use Rattle.lxr_core.specs.declared.actors.AnyActor.TheVariants as any
use Rattle.lxr_core.specs.Actors.{mutators_in}
use Rattle.lxr_core.specs.Ordering.{AreFull}
use Rattle.lxr_core.proofs.OrderLemmas.{mutator_at}
use Rattle.lxr_text_print.specs.declared.summary.Sums.{Sums}
use Rattle.lxr_sights.specs.Sights.{Sight}
use Rattle.lxr_rounds_history.specs.Plan.{Plan}
use Rattle.lxr_run_history.specs.declared.totals.Totals.{Totals}
use Rattle.lxr_rounds_history.specs.Left.{last_report}
use Rattle.lxr_rounds_history.specs.Histories.{IsHistoryWith, script_terms_with}
use Rattle.lxr_run_history.specs.Sums.{fulls_by, fulls_in, operations_in, pauses_in, sums_of, totals_of}
use Rattle.lxr_rounds_history.specs.Tally.{tally_of}
use Rattle.lxr_rounds_history.proofs.TallyLemmas.{pauses_stay}
use Rattle.lxr_rounds_history.proofs.ThreadSums.{counted_in, one, replied}
use Rattle.lxr_rounds_invariant.specs.LoopInvariant.{HasRunTo, Task, done_of, terms_of, threads_of}
use Rattle.lxr_rounds_invariant.proofs.ActorLemmas.{calls_are_done, kind_is}
use Rattle.lxr_rounds_invariant.proofs.PauseLemmas.{all_done_few}
use Rattle.lxr_run_loop.specs.declared.course.Course.{Course}
use Rattle.lxr_run_loop.specs.Progress.{IsComplete}
use Rattle.lxr_run_loop.specs.Tasks as tasks
use Rattle.lxr_run_loop.specs.Tasks.{rounds_of}
use Rattle.lxr_run_loop.specs.Summing.{KeepAll, calls_by, is_full, refusals_by}
use Rattle.lxr_run_loop.proofs.LiveLemmas.{counts_left, drawn_unrenewed}

-- ---- what is counted of actors

-- nothing is counted of none
pub none_counted : (f : AnyActor → ℕ) (actors : List AnyActor) → 0 ≡ sum_by f (take 0 actors)
none_counted f [] = refl
none_counted f (a ∷ actors) = refl

calls_of_actors : (actors : List AnyActor) → sum_by calls_by actors ≡ done_of (mutators_in actors)
calls_of_actors [] = refl
calls_of_actors (any.Mutator m ∷ actors) = let more = sum_by-cons calls_by (any.Mutator m) actors in let rest = calls_of_actors actors in omega arith
calls_of_actors (any.Decrementer d ∷ actors) = let more = sum_by-cons calls_by (any.Decrementer d) actors in let rest = calls_of_actors actors in omega arith
calls_of_actors (any.Tracer d ∷ actors) = let more = sum_by-cons calls_by (any.Tracer d) actors in let rest = calls_of_actors actors in omega arith

-- the refusals of mutators
abbrev refusals_of : List Mutating → ℕ
refusals_of [] = 0
refusals_of (m ∷ mutators) = count_by is_full m.replies.items + refusals_of mutators

refusals_of_actors : (actors : List AnyActor) → sum_by refusals_by actors ≡ refusals_of (mutators_in actors)
refusals_of_actors [] = refl
refusals_of_actors (any.Mutator m ∷ actors) = let more = sum_by-cons refusals_by (any.Mutator m) actors in let rest = refusals_of_actors actors in omega arith
refusals_of_actors (any.Decrementer d ∷ actors) = let more = sum_by-cons refusals_by (any.Decrementer d) actors in let rest = refusals_of_actors actors in omega arith
refusals_of_actors (any.Tracer d ∷ actors) = let more = sum_by-cons refusals_by (any.Tracer d) actors in let rest = refusals_of_actors actors in omega arith

-- no more are refused than done
refusals_few : (mutators : List Mutating) → refusals_of mutators ≤ done_of mutators
refusals_few [] = omega arith
refusals_few (m ∷ mutators) = let here = count_by-le-length is_full m.replies.items in let rest = refusals_few mutators in omega arith

-- ---- what is counted of a history

-- each call is an operation or an end
calls_are : (h : List Item) → counted_in one h ≡ operations_in h + ends h
calls_are [] = refl
calls_are (Renew ns ∷ h) = refl
calls_are (Pause report ∷ h) = calls_are h
calls_are (Call t op.End r ∷ h) = let rest = calls_are h in omega arith
calls_are (Call t o r ∷ h) = let rest = calls_are h in omega arith

is_counted : (r : Reply) → fulls_by r ≡ (if is_full r then 1 else 0)
is_counted reply.Full = refl
is_counted r = refl

fulls_are : (h : List Item) → counted_in (replied is_full) h ≡ fulls_in h
fulls_are [] = refl
fulls_are (Renew ns ∷ h) = refl
fulls_are (Pause report ∷ h) = fulls_are h
fulls_are (Call t o r ∷ h) = let rest = fulls_are h in let here = is_counted r in omega arith

pauses_told : (threads : ℕ) (h : List Item) → (tally_of threads h).pauses ≡ pauses_in h
pauses_told threads [] = refl
pauses_told threads (Renew ns ∷ h) = refl
pauses_told threads (Call t o r ∷ h) = pauses_stay (tally_of threads h) r ∙ pauses_told threads h
pauses_told threads (Pause report ∷ h) = ap (λ n. n + 1) (pauses_told threads h)

-- ---- the last pause

-- all threads have ended
all_ended : (renews : Bool) (plan : Plan) (script : Script) (h : List Item) → IsHistoryWith renews plan script h → ends h ≡ length script
all_ended renews plan script [] whole = absurd whole.belongs.last
all_ended renews plan script (Renew ns ∷ h) whole = absurd whole.belongs.last
all_ended renews plan script (Call t o r ∷ h) whole = absurd whole.belongs.last
all_ended renews plan script (Pause report ∷ h) whole = whole.belongs.last.0

-- so the last pause collects
pub last_collects : (renews : Bool) (plan : Plan) (script : Script) (h : List Item) → IsHistoryWith renews plan script h → IsRightAfterCollecting h
last_collects renews plan script [] whole = absurd whole.belongs.last
last_collects renews plan script (Renew ns ∷ h) whole = absurd whole.belongs.last
last_collects renews plan script (Call t o r ∷ h) whole = absurd whole.belongs.last
last_collects renews plan script (Pause report ∷ h) whole = must report.kind whole.legal.0.2.stands
  where
    must : (k : Kind) → MayStand (script_terms_with renews plan script) h (moment (length script) h) report.number k → k ≡ kind.Collect
    must kind.Collect stands = refl
    must (kind.End j) stands = absurd (stands.0 (inr whole.belongs.last.0))
    must kind.Begin stands = absurd (stands.0 (inr whole.belongs.last.0))
    must kind.Plain stands = absurd (stands.0 (inr whole.belongs.last.0))

-- and its report has a count for each name that is left
counts_all : (renews : Bool) (plan : Plan) (script : Script) (h : List Item) → IsHistoryWith renews plan script h → length (last_report h).counts ≡ length (moment (length script) h).unreclaimed
counts_all renews plan script [] whole = absurd whole.belongs.last
counts_all renews plan script (Renew ns ∷ h) whole = absurd whole.belongs.last
counts_all renews plan script (Call t o r ∷ h) whole = absurd whole.belongs.last
counts_all renews plan script (Pause report ∷ h) whole =
    let counts = subst (AreCounts (moment (length script) h) report) (ap is_draining (last_collects renews plan script (Pause report ∷ h) whole)) whole.legal.0.2.reports.1.counts in
    ap (λ (cs : List Count). length cs) counts
    ∙ length-map (unreclaimed_after (moment (length script) h) report)
    (count_entry (moment (length script) h).state (unreclaimed_after (moment (length script) h) report) (union report.stuck (moment (length script) h).stuck))

-- ---- the sums

-- nine numbers, those of reports by their totals
abbrev pub summed : ℕ → ℕ → ℕ → Totals → ℕ → ℕ → Sums
summed threads operations pauses t full live = record {
  threads = threads;
  operations = operations;
  pauses = pauses;
  promoted = t.promoted;
  dead = t.dead;
  swept = t.swept;
  stuck = t.stuck;
  full = full;
  live = live;
}

-- the actors of a run keep their replies, where no mutator has room for a further operation
pub all_kept : (task : Task) (space : Space) (seen : Option (List Sight)) (actors : List AnyActor) (h : List Item) → HasRunTo task space seen actors h → AreFull (mutators_in actors) → KeepAll actors
all_kept task space seen actors h run full i (any.Mutator m) at = full i m (mutator_at actors i m run.actors_rest.helpers.order at)
all_kept task space seen actors h run full i (any.Decrementer d) at = tt
all_kept task space seen actors h run full i (any.Tracer d) at = tt

same_sums : (threads threads' operations operations' pauses pauses' : ℕ) (t t' : Totals) (full full' live live' : ℕ) → threads ≡ threads' → operations ≡ operations' → pauses ≡ pauses' → t ≡ t' → full ≡ full' → live ≡ live'
    → summed threads operations pauses t full live ≡ summed threads' operations' pauses' t' full' live'
same_sums threads threads' operations operations' pauses pauses' t t' full full' live live' a b c d e f =
    ap (λ x. summed x operations pauses t full live) a
    ∙ ap (λ x. summed threads' x pauses t full live) b
    ∙ ap (λ x. summed threads' operations' x t full live) c
    ∙ ap (λ x. summed threads' operations' pauses' x full live) d
    ∙ ap (λ x. summed threads' operations' pauses' t' x live) e
    ∙ ap (λ x. summed threads' operations' pauses' t' full' x) f

module _ (task : Task) (space : Space) (seen : Option (List Sight)) (actors : List AnyActor) (h : List Item) (run : HasRunTo task space seen actors h) where
  pub threads_are : space.limits.threads ≡ threads_of task
  threads_are = ap (λ (l : Limits). l.threads) run.left.1.limits

  few_calls : done_of (mutators_in actors) + 1 < 2 ^ 31
  few_calls =
      let limits = run.left.1.between.safepoint.holds.space.limits.threads in
      let same = threads_are in
      all_done_few task h (mutators_in actors) run.actors_rest.mutators (omega arith)

  pub calls_fit : sum_by calls_by actors < 2 ^ 64
  calls_fit = let few = few_calls in let same = calls_of_actors actors in omega arith

  pub refusals_fit : sum_by refusals_by actors < 2 ^ 64
  refusals_fit = let few = few_calls in let same = refusals_of_actors actors in let fewer = refusals_few (mutators_in actors) in omega arith

  pub all_calls : sum_by calls_by actors ≡ operations_in h + space.limits.threads
  all_calls =
      let same = calls_of_actors actors in
      let done = calls_are_done task h (mutators_in actors) run.history.legal.0 run.actors_rest.mutators in
      let split = calls_are h in
      let ended = all_ended task.renews task.plan task.script h run.history in
      let threads = threads_are in
      omega arith

  all_refusals : sum_by refusals_by actors ≡ fulls_in h
  all_refusals =
      refusals_of_actors actors ∙ sym (kind_is task h (mutators_in actors) run.history.legal.0 run.actors_rest.mutators is_full (of_kind is_full (λ a b. refl) (λ a b. refl)) refusals_of refl (λ a mutators. refl)) ∙ fulls_are h

  all_pauses : space.tally.pauses ≡ pauses_in h
  all_pauses = ap (λ (t : Tally). t.pauses) run.left.1.tally ∙ pauses_told (threads_of task) h

  all_live : length space.report.counts.items ≡ length (moment (threads_of task) h).unreclaimed
  all_live =
      ap (λ (r : PauseReport). length r.counts) (run.left.1.between.safepoint.numbers.report ∙ run.left.1.stands.reported)
      ∙ counts_all task.renews task.plan task.script h run.history

  pub sums_are : (totals : Totals) → totals ≡ totals_of h → (calls ended refusals live : ℕ) → calls ≡ sum_by calls_by actors → ended ≡ space.limits.threads → refusals ≡ sum_by refusals_by actors
      → live ≡ length space.report.counts.items → summed space.limits.threads (calls - ended) space.tally.pauses totals refusals live ≡ sums_of (threads_of task) h
  sums_are totals are calls ended refusals live calls_is ended_is refusals_is live_is =
      let all = all_calls in
      let operations : calls - ended ≡ operations_in h = omega arith in
      same_sums space.limits.threads (threads_of task) (calls - ended) (operations_in h) space.tally.pauses (pauses_in h) totals (totals_of h) refusals (fulls_in h)
      live (length (moment (threads_of task) h).unreclaimed) threads_are operations all_pauses are (refusals_is ∙ all_refusals) (live_is ∙ all_live)

-- ---- what is left

-- By the totals of a complete run: no more was reclaimed than there was, and what is left is what the last pause counted.
pub record LeavesBy (totals : Totals) (space : Space) : Type 0 where
  pub room : 1 + totals.promoted < 2 ^ 64
  pub gone : totals.dead + totals.swept ≤ 1 + totals.promoted
  pub live : 1 + totals.promoted - totals.dead - totals.swept ≡ length space.report.counts.items

pub leaves : (task : tasks.RunTask) (space : Space) (written : Option (List ℕ)) (seen : Option (List Sight)) (actors : List AnyActor) (course : Course) (totals : Totals) → course.totals ≡ totals
    → IsComplete task space written seen actors course → LeavesBy totals space
leaves task space written seen actors course totals same (h, ran, drawn, are, noted, full) =
    subst (λ t. LeavesBy t space) (sym are ∙ same)
    (let counts = counts_left (terms_of (rounds_of task)) h ran.rounds.history.legal.0 (drawn_unrenewed task h course.generator space actors drawn) in
    let left = counts.left in
    let few = counts.few in
    let live = all_live (rounds_of task) space seen actors h ran.rounds in
    let done = calls_are_done (rounds_of task) h (mutators_in actors) ran.rounds.history.legal.0 ran.rounds.actors_rest.mutators in
    let calls = few_calls (rounds_of task) space seen actors h ran.rounds in
    record { room = omega (arith, few, done, calls); gone = omega (arith, left); live = omega (arith, left, live) })
