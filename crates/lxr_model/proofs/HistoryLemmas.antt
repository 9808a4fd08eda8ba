-- What holds of each moment of a legal history, by induction on the history: what was reachable at the last pause is
-- unreclaimed, what is reachable now was so there or was made since, and so nothing that a pause reclaims is reachable.
use Rattle.std.proofs.Common.{◌≡◌, ℕ, zero, suc, ◌+◌, ◌-◌, ◌<◌, ◌≤◌, refl, sym, ap, subst, ◌∙◌, inl, inr, ◌⊎◌, arith, Bool, true, false, List, [], ◌∷◌, IsTrue, length}
use Rattle.std.specs.Prelude.{Option, Some, None}
use Rattle.std.proofs.lemmas.List.{length-replicate}
use Rattle.lxr_layout.specs.declared.TheConstants.{REGISTERS}
use Rattle.lxr_layout.specs.declared.Name.{Name}
use Rattle.lxr_graph.specs.declared.Op.{Op}
use Rattle.lxr_graph.specs.declared.Op.TheVariants as op
use Rattle.lxr_graph.specs.declared.Reply.{Reply}
use Rattle.lxr_graph.specs.declared.Reply.TheVariants as reply
use Rattle.lxr_graph.specs.declared.report.Kind.{Kind}
use Rattle.lxr_graph.specs.declared.report.Kind.TheVariants as kind
use Rattle.lxr_graph.specs.Names.{has, without, union}
use Rattle.lxr_graph.specs.State.{State, HasObject, world_name, opening, opening_row, opening_registers}
use Rattle.lxr_graph.specs.Step.{step, state_after}
use Rattle.lxr_graph.specs.History.{PauseReport, Item, Call, Pause, Renew}
use Rattle.lxr_graph.proofs.RowCounts.{step_rows}
use Rattle.lxr_graph.proofs.NameSets.{has_one, insert_cases, insert_new, insert_old, union_cases, union_left, union_right, without_parts, in_without}
use Rattle.lxr_model.specs.Reachable.{Reachable, the_world, held, referred, Refers}
use Rattle.lxr_model.specs.Dead.{Dead, by_register, by_kept, by_promoted}
use Rattle.lxr_model.specs.Renewing.{IsStart}
use Rattle.lxr_model.specs.Terms.{Terms}
use Rattle.lxr_model.specs.Moments.{Trace, Moment, moment, opening_moment, after_pause, made_after, going_on, trace_after, left_by, unreclaimed_after}
use Rattle.lxr_model.specs.Reports.{PauseParts, IsReportWith, IsSwept, IsSweptAtEnd, AreDrained, kept_names, remaining_names}
use Rattle.lxr_model.specs.Legal.{IsLegalSoFar, Replies}
use Rattle.lxr_model.specs.HistoryLaws.{ReclaimedAreUnreachable, ReachableAreKept, ReachableAreOldOrMade, MadeAreYoung, RowsAreThreads}
use Rattle.lxr_model.proofs.ReachableLemmas.{dead_apart, dead_parts, promoted_made, reachable_within}
use Rattle.lxr_model.proofs.StepLemmas.{Gets, gets-append, gets-replicate, step_reaches}
use Rattle.lxr_model.proofs.ObjectLemmas.{step_facts, no_object}

-- a trace that runs: no object was lost since it began, what is reachable now was so there or is younger, and what was
-- unreclaimed there had its object there
pub record TraceGood (trace : Trace) (s : State) : Type 0 where
  pub grows : (n : Name) → HasObject trace.state.graph n → HasObject s.graph n
  pub reach : (n : Name) → Reachable s n → Reachable trace.state n ⊎ (HasObject trace.state.graph n → ⊥)
  pub kept : (n : Name) → IsTrue (has trace.unreclaimed n) → HasObject trace.state.graph n

abbrev pub RunningGood : Option Trace → State → Type 0
RunningGood None s = Unit {0}
RunningGood (Some trace) s = TraceGood trace s

pub record Good (threads : ℕ) (last : State) (us stuck : List Name) (trace : Option Trace) (made : List Name) (s : State) : Type 0 where
  pub world_stuck : IsTrue (has stuck world_name)
  pub within : (n : Name) → Reachable last n → IsTrue (has us n)
  pub kept : (n : Name) → IsTrue (has us n) → HasObject last.graph n
  pub grows : (n : Name) → HasObject last.graph n → HasObject s.graph n
  pub young : (n : Name) → IsTrue (has made n) → (HasObject last.graph n → ⊥) × HasObject s.graph n
  pub reach : (n : Name) → Reachable s n → Reachable last n ⊎ IsTrue (has made n)
  pub running : RunningGood trace s
  pub rows : length s.graph ≡ threads + 1

abbrev pub GoodAt : ℕ → Moment → Type 0
GoodAt threads m = Good threads m.last m.unreclaimed m.stuck m.trace m.made m.state

-- ---- the opening

opening_holds : (threads : ℕ) (n : Name) → Gets (opening_registers threads) (Some n) → world_name ≡ n
opening_holds zero n (i, e) = absurd (cc)
opening_holds (suc t) n g = elim (gets-append (opening_registers t) opening_row (Some n) g) [
  | inl h ↦ opening_holds t n h
  | inr h ↦ in_row n h
]
  where
    in_row : (n : Name) → Gets opening_row (Some n) → world_name ≡ n
    in_row n (zero, e) = cc
    in_row n (suc i, e) = let nil : None ≡ Some n = gets-replicate (REGISTERS - 1) None (Some n) (i, e) in absurd (cc)

opening_reach : (threads : ℕ) (n : Name) → Reachable (opening threads) n → world_name ≡ n
opening_reach threads n the_world = refl
opening_reach threads n (held h) = opening_holds threads n h
opening_reach threads n (referred {m = m} r f) =
    let is : world_name ≡ m = opening_reach threads m r in
    let g : Refers (opening threads).graph world_name n = subst (λ x. Refers (opening threads).graph x n) (sym is) f in
    let nil : None ≡ Some n = gets-replicate 64 None (Some n) g in absurd (cc)

good_opening : (threads : ℕ) → GoodAt threads (opening_moment threads)
good_opening threads = record {
  world_stuck = refl;
  within = λ n r. subst (λ x. IsTrue (has (world_name ∷ []) x)) (opening_reach threads n r) refl;
  kept = λ n h. subst (HasObject (opening threads).graph) (sym (has_one world_name n h)) refl;
  grows = λ n e. e;
  young = λ n h. absurd (cc);
  reach = λ n r. inl r;
  running = tt;
  rows = ap suc (length-replicate threads []) ∙ omega arith;
}

-- ---- a call

pub made_cases : (ms : List Name) (r : Reply) (n : Name) → IsTrue (has (made_after ms r) n) → IsTrue (has ms n) ⊎ (r ≡ reply.New n)
made_cases ms (reply.New q) n h = elim (insert_cases q ms n h) [ inl e ↦ inr (ap reply.New (sym e)) | inr k ↦ inl k ]
made_cases ms _ n h = inl h

pub made_old : (ms : List Name) (r : Reply) (n : Name) → IsTrue (has ms n) → IsTrue (has (made_after ms r) n)
made_old ms (reply.New q) n h = insert_old q ms n h
made_old ms _ n h = h

made_new : (ms : List Name) (r : Reply) (n : Name) → r ≡ reply.New n → IsTrue (has (made_after ms r) n)
made_new ms r n e = subst (λ x. IsTrue (has (made_after ms x) n)) (sym e) (insert_new n ms)

-- `new full` changes nothing, and any other call is a step
pub call_cases : (terms : Terms) (h : List Item) (t : ℕ) (o : Op) (r : Reply) (s : State) (ms : List Name) → (moment terms.threads h).state ≡ s → Replies terms h t o r
    → ((state_after s t o r ≡ s) × (made_after ms r ≡ ms)) ⊎ ((state_after s t o r ≡ (step s t o).0) × ((step s t o).1 ≡ r))
call_cases terms h t (op.New dest shape) reply.Full s ms is c = inl (refl, refl)
call_cases terms h t (op.New dest shape) r s ms is c = inr (refl, ap (λ x. (step x t (op.New dest shape)).1) (sym is) ∙ c)
call_cases terms h t o r s ms is c = inr (refl, ap (λ x. (step x t o).1) (sym is) ∙ c)

running_step : (trace : Option Trace) (s : State) (t : ℕ) (o : Op) → t < length s.graph → RunningGood trace s → RunningGood trace (step s t o).0
running_step None s t o h good = tt
running_step (Some trace) s t o h good =
    let facts = step_facts s t o h in
    record {
      grows = λ n e. facts.stays n (good.grows n e);
      reach = λ n r. elim (step_reaches s t o h n r) [
        | inl q ↦ good.reach n q
        | inr e ↦ inr (λ k. no_object s.graph n (facts.new n e).0 (good.grows n k))
      ];
      kept = good.kept;
    }

good_step : (threads : ℕ) (last : State) (us stuck : List Name) (trace : Option Trace) (made : List Name) (s : State) (t : ℕ) (o : Op) (r : Reply)
    → t ≤ threads → (step s t o).1 ≡ r → Good threads last us stuck trace made s → Good threads last us stuck trace (made_after made r) (step s t o).0
good_step threads last us stuck trace made s t o r fit e good =
    let rows : length s.graph ≡ threads + 1 = good.rows in
    let h : t < length s.graph = omega arith in
    let facts = step_facts s t o h in
    record {
      world_stuck = good.world_stuck;
      within = good.within;
      kept = good.kept;
      grows = λ n k. facts.stays n (good.grows n k);
      young = λ n k. elim (made_cases made r n k) [
        | inl q ↦ ((good.young n q).0, facts.stays n (good.young n q).1)
        | inr q ↦ (λ x. no_object s.graph n (facts.new n (e ∙ q)).0 (good.grows n x), (facts.new n (e ∙ q)).1)
      ];
      reach = λ n k. elim (step_reaches s t o h n k) [
        | inl q ↦ elim (good.reach n q) [ inl p ↦ inl p | inr p ↦ inr (made_old made r n p) ]
        | inr q ↦ inr (made_new made r n (sym e ∙ q))
      ];
      running = running_step trace s t o h good.running;
      rows = (step_rows s t o).rows ∙ good.rows;
    }

good_call : (terms : Terms) (h : List Item) (t : ℕ) (o : Op) (r : Reply) → t ≤ terms.threads → Replies terms h t o r
    → GoodAt terms.threads (moment terms.threads h) → GoodAt terms.threads (moment terms.threads (Call t o r ∷ h))
good_call terms h t o r fit c good =
    let m = moment terms.threads h in
    elim (call_cases terms h t o r m.state m.made refl c) [
      | inl e ↦ subst (λ (p : State × List Name). Good terms.threads m.last m.unreclaimed m.stuck m.trace p.1 p.0) (λ i. (sym e.0 i, sym e.1 i)) good
      | inr e ↦ subst (λ x. Good terms.threads m.last m.unreclaimed m.stuck m.trace (made_after m.made r) x) (sym e.0) (good_step terms.threads m.last m.unreclaimed m.stuck m.trace m.made m.state t o r fit e.1 good)
    ]

-- ---- a pause: what it reclaims isn't reachable, at each of its parts

module _ (threads : ℕ) (m : Moment) (report : PauseReport) (parts : PauseParts) (is : IsReportWith m parts report) (good : GoodAt threads m) where
  pub first_dead_gone : (n : Name) → IsTrue (has parts.first_dead n) → Reachable m.state n → ⊥
  first_dead_gone n d r =
      let dead : Dead m.last m.unreclaimed m.stuck n = (is.first_dead.members n).0 d in
      elim (good.reach n r) [
        | inl q ↦ dead_apart m.last m.unreclaimed m.stuck good.within good.world_stuck n dead q
        | inr q ↦ (good.young n q).0 (good.kept n (dead_parts dead).member)
      ]

  from_last : (n : Name) → Reachable m.state n → Reachable m.last n → IsTrue (has (kept_names m parts report) n)
  from_last n now r = union_right report.promoted (without m.unreclaimed parts.first_dead) n (in_without m.unreclaimed parts.first_dead n (good.within n r) (λ d. first_dead_gone n d now))

  pub reachable_kept : (n : Name) → Reachable m.state n → IsTrue (has (kept_names m parts report) n)
  reachable_kept n the_world = from_last world_name the_world the_world
  reachable_kept n (held k) = elim (good.reach n (held k)) [
    | inl q ↦ from_last n (held k) q
    | inr q ↦ union_left report.promoted (without m.unreclaimed parts.first_dead) n ((is.promoted.members n).1 (by_register q k))
  ]
  reachable_kept n (referred {m = u} r f) = elim (good.reach n (referred r f)) [
    | inl q ↦ from_last n (referred r f) q
    | inr q ↦ union_left report.promoted (without m.unreclaimed parts.first_dead) n ((is.promoted.members n).1
        (elim (union_cases report.promoted (without m.unreclaimed parts.first_dead) u (reachable_kept u r)) [
          | inl p ↦ by_promoted q ((is.promoted.members u).0 p) f
          | inr k ↦ by_kept u q k f
        ]))
  ]

  pub world_stuck_now : IsTrue (has (union report.stuck m.stuck) world_name)
  world_stuck_now = union_right report.stuck m.stuck world_name good.world_stuck

  second_gone : (b : Bool) → AreDrained m parts report b → (n : Name) → IsTrue (has parts.second_dead n) → Reachable m.state n → ⊥
  second_gone false drained n d r = let k = rw drained.0 at d in cc
  second_gone true drained n d r = dead_apart m.state (kept_names m parts report) (union report.stuck m.stuck) reachable_kept world_stuck_now n ((drained.0.members n).0 d) r

  after_second : (n : Name) → Reachable m.state n → IsTrue (has (without (kept_names m parts report) parts.second_dead) n)
  after_second n r = in_without (kept_names m parts report) parts.second_dead n (reachable_kept n r) (λ d. second_gone _ is.drained n d r)

  end_gone : (trace : Option Trace) → RunningGood trace m.state → IsSweptAtEnd report.swept trace → (n : Name) → IsTrue (has report.swept n) → Reachable m.state n → ⊥
  end_gone None running swept n d r = absurd swept
  end_gone (Some trace) running swept n d r =
      let at = (swept.members n).0 d in
      elim (running.reach n r) [ inl q ↦ at.1 q | inr q ↦ q (running.kept n at.0) ]

  swept_by : (k : Kind) → IsSwept m (without (kept_names m parts report) parts.second_dead) report.swept k → (n : Name) → IsTrue (has report.swept n) → Reachable m.state n → ⊥
  swept_by kind.Plain swept n d r = let k = rw swept at d in cc
  swept_by kind.Begin swept n d r = let k = rw swept at d in cc
  swept_by (kind.End j) swept n d r = end_gone m.trace good.running swept n d r
  swept_by kind.Collect swept n d r = ((swept.members n).0 d).1 r

  pub swept_gone : (n : Name) → IsTrue (has report.swept n) → Reachable m.state n → ⊥
  swept_gone n d r = swept_by report.kind is.swept n d r

  third_gone : (b : Bool) → AreDrained m parts report b → (n : Name) → IsTrue (has parts.third_dead n) → Reachable m.state n → ⊥
  third_gone false drained n d r = let k = rw drained.1 at d in cc
  third_gone true drained n d r =
      dead_apart m.state (remaining_names m parts report) (union report.stuck m.stuck)
      (λ q z. in_without (without (kept_names m parts report) parts.second_dead) report.swept q (after_second q z) (λ x. swept_gone q x z))
      world_stuck_now n ((drained.1.members n).0 d) r

  pub dead_gone : (n : Name) → IsTrue (has report.dead n) → Reachable m.state n → ⊥
  dead_gone n d r = elim ((is.dead.members n).0 d) [
    | inl q ↦ first_dead_gone n q r
    | inr q ↦ elim q [ inl p ↦ second_gone _ is.drained n p r | inr p ↦ third_gone _ is.drained n p r ]
  ]

  -- what is unreclaimed after the pause has its object
  pub left_exists : (n : Name) → IsTrue (has (unreclaimed_after m report) n) → HasObject m.state.graph n
  left_exists n k =
      let a = (without_parts (without (union report.promoted m.unreclaimed) report.dead) report.swept n k).0 in
      let b = (without_parts (union report.promoted m.unreclaimed) report.dead n a).0 in
      elim (union_cases report.promoted m.unreclaimed n b) [
        | inl q ↦ (good.young n (promoted_made ((is.promoted.members n).0 q))).1
        | inr q ↦ good.grows n (good.kept n q)
      ]

  -- a pause leaves what is reachable
  left_has : (ns : List Name) (n : Name) → Reachable m.state n → IsTrue (has ns n) → IsTrue (has (left_by report ns) n)
  left_has ns n r k = in_without (without ns report.dead) report.swept n (in_without ns report.dead n k (λ d. dead_gone n d r)) (λ d. swept_gone n d r)

  in_both : (n : Name) → Reachable m.state n → IsTrue (has (union report.promoted m.unreclaimed) n)
  in_both n r = elim (union_cases report.promoted (without m.unreclaimed parts.first_dead) n (reachable_kept n r)) [
    | inl q ↦ union_left report.promoted m.unreclaimed n q
    | inr q ↦ union_right report.promoted m.unreclaimed n (without_parts m.unreclaimed parts.first_dead n q).0
  ]

  goes_on : (trace : Option Trace) → RunningGood trace m.state → RunningGood (going_on m report trace) m.state
  goes_on None running = tt
  goes_on (Some trace) running = record { grows = running.grows; reach = running.reach; kept = running.kept }

  running_pause : (k : Kind) → RunningGood (trace_after m report k) m.state
  running_pause kind.Plain = goes_on m.trace good.running
  running_pause kind.Begin = record { grows = λ n e. e; reach = λ n r. inl r; kept = left_exists }
  running_pause (kind.End j) = tt
  running_pause kind.Collect = tt

  good_pause : GoodAt threads (after_pause m report)
  good_pause = record {
    world_stuck = left_has (union report.stuck m.stuck) world_name the_world world_stuck_now;
    within = λ n r. left_has (union report.promoted m.unreclaimed) n r (in_both n r);
    kept = left_exists;
    grows = λ n e. e;
    young = λ n k. absurd (cc);
    reach = λ n r. inl r;
    running = running_pause report.kind;
    rows = good.rows;
  }

-- ---- a start

pub start_within : (threads : ℕ) (m : Moment) → IsStart threads m → (n : Name) → Reachable m.last n → IsTrue (has m.unreclaimed n)
start_within threads m start n reached = reachable_within m.state (has m.unreclaimed) start.closed n (subst (λ (s : State). Reachable s n) start.rests reached)

good_start : (threads : ℕ) (m : Moment) → IsStart threads m → m.trace ≡ None → m.made ≡ [] → GoodAt threads m
good_start threads m start none fresh = record {
  world_stuck = start.world_stuck;
  within = start_within threads m start;
  kept = λ n h. subst (λ (s : State). HasObject s.graph n) (sym start.rests) (start.objects n h);
  grows = λ n e. subst (λ (s : State). HasObject s.graph n) start.rests e;
  young = λ n h. absurd (let no : IsTrue (has [] n) = subst (λ ns. IsTrue (has ns n)) fresh h in cc);
  reach = λ n r. inl (subst (λ (s : State). Reachable s n) (sym start.rests) r);
  running = subst (λ t. RunningGood t m.state) (sym none) tt;
  rows = start.rows;
}

-- ---- whole histories

pub good_history : (terms : Terms) (h : List Item) → IsLegalSoFar terms h → GoodAt terms.threads (moment terms.threads h)
good_history terms [] legal = good_opening terms.threads
good_history terms (Call t o r ∷ h) legal = good_call terms h t o r legal.2.thread.1 legal.2.reply (good_history terms h legal.0)
good_history terms (Renew ns ∷ h) legal = good_start terms.threads (moment terms.threads (Renew ns ∷ h)) legal.2.sound refl refl
good_history terms (Pause report ∷ h) legal = good_pause terms.threads (moment terms.threads h) report legal.2.reports.0 legal.2.reports.1 (good_history terms h legal.0)

pub reclaimed_unreachable : ReclaimedAreUnreachable
reclaimed_unreachable terms h report legal o which r =
    let good = good_history terms h legal.0 in
    elim which [
      | inl d ↦ dead_gone terms.threads (moment terms.threads h) report legal.2.reports.0 legal.2.reports.1 good o d r
      | inr d ↦ swept_gone terms.threads (moment terms.threads h) report legal.2.reports.0 legal.2.reports.1 good o d r
    ]

pub reachable_are_kept : ReachableAreKept
reachable_are_kept terms h report legal n r = (good_history terms (Pause report ∷ h) legal).within n r

pub old_or_made : ReachableAreOldOrMade
old_or_made terms h legal n r = (good_history terms h legal).reach n r

pub made_young : MadeAreYoung
made_young terms h legal n k = (good_history terms h legal).young n k

pub rows_threads : RowsAreThreads
rows_threads terms h legal = (good_history terms h legal).rows
