-- The unreclaimed names are closed under references right after a pause. A reference that is new since the last pause is
-- to what was reachable there or was made since; an older one stands between two unreclaimed names, and what it refers to
-- is dead or garbage only with the name that refers to it.
use Rattle.std.proofs.Common.{◌≡◌, ℕ, ◌+◌, ◌<◌, ◌≤◌, refl, sym, subst, inl, inr, ◌⊎◌, arith, Bool, true, false, List, [], ◌∷◌, IsTrue, length}
use Rattle.std.specs.Prelude.{Option, Some, None, is_some, slice_get}
use Rattle.std.proofs.lemmas.Bool.{cases_Bool}
use Rattle.lxr_layout.specs.declared.Name.{Name}
use Rattle.lxr_graph.specs.declared.Op.{Op}
use Rattle.lxr_graph.specs.declared.Reply.{Reply}
use Rattle.lxr_graph.specs.declared.report.Kind.{Kind}
use Rattle.lxr_graph.specs.declared.report.Kind.TheVariants as kind
use Rattle.lxr_graph.specs.Names.{has, without, union, AreInOrder}
use Rattle.lxr_graph.specs.State.{State, Graph, Object, HasObject, object_at, refs_of, world_name, opening}
use Rattle.lxr_graph.specs.Step.{step}
use Rattle.lxr_graph.specs.History.{PauseReport, Item, Call, Pause, Renew}
use Rattle.lxr_graph.proofs.NameSets.{not_both, has_one, union_cases, union_left, union_right, without_parts, in_without, in_order-union, in_order-without, one_list}
use Rattle.lxr_model.specs.Reachable.{Reachable, the_world, held, referred, Refers}
use Rattle.lxr_model.specs.Dead.{by_kept, by_promoted}
use Rattle.lxr_model.specs.Renewing.{IsStart}
use Rattle.lxr_model.specs.Terms.{Terms}
use Rattle.lxr_model.specs.Moments.{Trace, Moment, moment, opening_moment, made_after, after_pause, going_on, trace_after, unreclaimed_after, stuck_after}
use Rattle.lxr_model.specs.Reports.{PauseParts, IsReportWith, AreDrained, IsSwept, IsSweptAtEnd, kept_names, remaining_names}
use Rattle.lxr_model.specs.Legal.{IsLegalSoFar, Replies}
use Rattle.lxr_model.proofs.ReachableLemmas.{dead_apart, dead_parts, promoted_made}
use Rattle.lxr_model.proofs.StepLemmas.{gets-replicate, step_refers}
use Rattle.lxr_model.proofs.HistoryLemmas.{RunningGood, GoodAt, good_history, call_cases, made_old, reachable_kept}
use Rattle.lxr_model.proofs.DrainLemmas.{kept_all, left_parts, left_remain, promoted_fresh, remain_left}
use Rattle.lxr_model.proofs.CollectLemmas.{collected_reachable}
use Rattle.lxr_model_laws.specs.UnreclaimedLaws.{IsGarbage, ReachableWereSoOrAreYounger, UnreclaimedWereSoOrAreYounger, UnreclaimedRemain, UnreclaimedAreClosed, UnreclaimedHaveObjects, StuckAreUnreclaimed, OnlyGarbageRefersToGarbage}
use Rattle.lxr_model_laws.proofs.ReportLemmas.{left_in_order, moments_in_order}
use Rattle.lxr_model_laws.proofs.TraceLemmas.{still_garbage, good_at}

-- an object that refers to something is there
refers_object : (g : Graph) (u n : Name) → Refers g u n → HasObject g u
refers_object g u n (i, e) = look (object_at g u) e
  where
    look : (o : Option Object) → slice_get (refs_of o) i ≡ Some (Some n) → IsTrue (is_some o)
    look None e = absurd (cc)
    look (Some o) e = refl

-- while a trace runs: the last pause lost no object since it began, what refers to garbage did so when it began, and
-- what is unreclaimed was so there or is younger
record TraceClosed (trace : Trace) (last : State) (us : List Name) (s : State) : Type 0 where
  grew : (n : Name) → HasObject trace.state.graph n → HasObject last.graph n
  old : (u n : Name) → Refers s.graph u n → IsGarbage trace n → Refers trace.state.graph u n
  only : (u : Name) → IsTrue (has us u) → HasObject trace.state.graph u → IsTrue (has trace.unreclaimed u)

abbrev RunningClosed : Option Trace → State → List Name → State → Type 0
RunningClosed None last us s = Unit {0}
RunningClosed (Some trace) last us s = TraceClosed trace last us s

record StaysClosed (last : State) (us : List Name) (trace : Option Trace) (made : List Name) (s : State) : Type 0 where
  closed : (u n : Name) → IsTrue (has us u) → Refers last.graph u n → IsTrue (has us n)
  fresh : (u n : Name) → Refers s.graph u n → Refers last.graph u n ⊎ Reachable last n ⊎ IsTrue (has made n)
  running : RunningClosed trace last us s

abbrev ClosedAt : Moment → Type 0
ClosedAt m = StaysClosed m.last m.unreclaimed m.trace m.made m.state

-- ---- the opening and a call

closed_opening : (threads : ℕ) → ClosedAt (opening_moment threads)
closed_opening threads = record {
  closed = λ u n h f.
      let g : Refers (opening threads).graph world_name n = subst (λ x. Refers (opening threads).graph x n) (has_one world_name u h) f in
      let nil : None ≡ Some n = gets-replicate 64 None (Some n) g in absurd (cc);
  fresh = λ u n f. inl f;
  running = tt;
}

running_step : (trace : Option Trace) (last : State) (us : List Name) (s : State) (t : ℕ) (o : Op) → t < length s.graph → RunningGood trace s
    → RunningClosed trace last us s → RunningClosed trace last us (step s t o).0
running_step None last us s t o fit good closed = tt
running_step (Some trace) last us s t o fit good closed = record {
  grew = closed.grew;
  old = λ u n f g. elim (step_refers s t o fit u n f) [ inl k ↦ closed.old u n k g | inr r ↦ absurd (still_garbage trace s good n g r) ];
  only = closed.only;
}

closed_step : (threads : ℕ) (m : Moment) (t : ℕ) (o : Op) (r : Reply) → t < length m.state.graph → GoodAt threads m → ClosedAt m
    → StaysClosed m.last m.unreclaimed m.trace (made_after m.made r) (step m.state t o).0
closed_step threads m t o r fit good closed = record {
  closed = closed.closed;
  fresh = λ u n f. elim (step_refers m.state t o fit u n f) [
    | inl k ↦ elim (closed.fresh u n k) [
      | inl x ↦ inl x
      | inr x ↦ inr (elim x [ inl y ↦ inl y | inr y ↦ inr (made_old m.made r n y) ])
    ]
    | inr k ↦ inr (elim (good.reach n k) [ inl y ↦ inl y | inr y ↦ inr (made_old m.made r n y) ])
  ];
  running = running_step m.trace m.last m.unreclaimed m.state t o fit good.running closed.running;
}

closed_call : (terms : Terms) (h : List Item) (t : ℕ) (o : Op) (r : Reply) → t < length (moment terms.threads h).state.graph → Replies terms h t o r
    → GoodAt terms.threads (moment terms.threads h) → ClosedAt (moment terms.threads h) → ClosedAt (moment terms.threads (Call t o r ∷ h))
closed_call terms h t o r fit c good closed =
    let m = moment terms.threads h in
    elim (call_cases terms h t o r m.state m.made refl c) [
      | inl e ↦ subst (λ (p : State × List Name). StaysClosed m.last m.unreclaimed m.trace p.1 p.0) (λ i. (sym e.0 i, sym e.1 i)) closed
      | inr e ↦ subst (StaysClosed m.last m.unreclaimed m.trace (made_after m.made r)) (sym e.0) (closed_step terms.threads m t o r fit good closed)
    ]

-- ---- a start

closed_start : (threads : ℕ) (m : Moment) → IsStart threads m → m.trace ≡ None → ClosedAt m
closed_start threads m start none = record {
  closed = λ u n h f. start.closed.references u n h (subst (λ (s : State). Refers s.graph u n) start.rests f);
  fresh = λ u n f. inl (subst (λ (s : State). Refers s.graph u n) (sym start.rests) f);
  running = subst (λ t. RunningClosed t m.last m.unreclaimed m.state) (sym none) tt;
}

-- ---- a pause

module _ (threads : ℕ) (m : Moment) (report : PauseReport) (parts : PauseParts) (is : IsReportWith m parts report) (good : GoodAt threads m) (closed : ClosedAt m) where
  -- a kept name that had its object at the last pause was unreclaimed there
  kept_old : (u : Name) → IsTrue (has (kept_names m parts report) u) → HasObject m.last.graph u → IsTrue (has m.unreclaimed u) × (has parts.first_dead u ≡ false)
  kept_old u k o = elim (union_cases report.promoted (without m.unreclaimed parts.first_dead) u k) [
    | inl p ↦ absurd ((good.young u (promoted_made ((is.promoted.members u).0 p))).0 o)
    | inr w ↦ without_parts m.unreclaimed parts.first_dead u w
  ]

  -- what a kept name refers to is kept
  kept_closed : (u n : Name) → IsTrue (has (kept_names m parts report) u) → Refers m.state.graph u n → IsTrue (has (kept_names m parts report) n)
  kept_closed u n k f = elim (closed.fresh u n f) [
    | inl g ↦
        let old = kept_old u k (refers_object m.last.graph u n g) in
        in_kept (closed.closed u n old.0 g) (λ d. not_both (has parts.first_dead u) ((is.first_dead.members u).1 ((dead_parts ((is.first_dead.members n).0 d)).each u old.0 g)) old.1)
    | inr x ↦ elim x [
      | inl r ↦ in_kept (good.within n r) (λ d. dead_apart m.last m.unreclaimed m.stuck good.within good.world_stuck n ((is.first_dead.members n).0 d) r)
      | inr q ↦ union_left report.promoted (without m.unreclaimed parts.first_dead) n ((is.promoted.members n).1
          (elim (union_cases report.promoted (without m.unreclaimed parts.first_dead) u k) [
            | inl p ↦ by_promoted q ((is.promoted.members u).0 p) f
            | inr w ↦ by_kept u q w f
          ]))
    ]
  ]
    where
      in_kept : IsTrue (has m.unreclaimed n) → (IsTrue (has parts.first_dead n) → ⊥) → IsTrue (has (kept_names m parts report) n)
      in_kept h alive = union_right report.promoted (without m.unreclaimed parts.first_dead) n (in_without m.unreclaimed parts.first_dead n h alive)

  second_closed : (b : Bool) → AreDrained m parts report b → (u n : Name) → IsTrue (has (kept_names m parts report) u) → has parts.second_dead u ≡ false → Refers m.state.graph u n
      → IsTrue (has parts.second_dead n) → ⊥
  second_closed false drained u n k alive f d = let e = rw drained.0 at d in cc
  second_closed true drained u n k alive f d = not_both (has parts.second_dead u) ((drained.0.members u).1 ((dead_parts ((drained.0.members n).0 d)).each u k f)) alive

  third_closed : (b : Bool) → AreDrained m parts report b → (u n : Name) → IsTrue (has (remaining_names m parts report) u) → (IsTrue (has parts.third_dead u) → ⊥) → Refers m.state.graph u n
      → IsTrue (has parts.third_dead n) → ⊥
  third_closed false drained u n k alive f d = let e = rw drained.1 at d in cc
  third_closed true drained u n k alive f d = alive ((drained.1.members u).1 ((dead_parts ((drained.1.members n).0 d)).each u k f))

  -- what refers to garbage of the trace that ends is garbage
  end_closed : (trace : Option Trace) → RunningClosed trace m.last m.unreclaimed m.state → IsSweptAtEnd report.swept trace → (u n : Name)
      → IsTrue (has (kept_names m parts report) u) → Refers m.state.graph u n → IsTrue (has report.swept n) → IsTrue (has report.swept u)
  end_closed None running swept u n k f d = absurd swept
  end_closed (Some trace) running swept u n k f d =
      let g : IsGarbage trace n = (swept.members n).0 d in
      let there = running.old u n f g in
      let object = refers_object trace.state.graph u n there in
      (swept.members u).1 (running.only u (kept_old u k (running.grew u object)).0 object, λ r. g.1 (referred r there))

  swept_closed : (kd : Kind) → report.kind ≡ kd → IsSwept m (without (kept_names m parts report) parts.second_dead) report.swept kd → (u n : Name)
      → IsTrue (has (unreclaimed_after m report) u) → IsTrue (has (kept_names m parts report) u) → Refers m.state.graph u n → IsTrue (has report.swept n) → IsTrue (has report.swept u)
  swept_closed kind.Plain e swept u n left k f d = let x = rw swept at d in absurd (cc)
  swept_closed kind.Begin e swept u n left k f d = let x = rw swept at d in absurd (cc)
  swept_closed (kind.End j) e swept u n left k f d = end_closed m.trace closed.running swept u n k f d
  swept_closed kind.Collect e swept u n left k f d =
      absurd (((swept.members n).0 d).1 (referred (collected_reachable m report parts is (reachable_kept threads m report parts is good) e u left) f))

  left_closed : (u n : Name) → IsTrue (has (unreclaimed_after m report) u) → Refers m.state.graph u n → IsTrue (has (unreclaimed_after m report) n)
  left_closed u n left f =
      let remains = left_remain m report parts is u left in
      let a = without_parts (without (kept_names m parts report) parts.second_dead) report.swept u remains in
      let b = without_parts (kept_names m parts report) parts.second_dead u a.0 in
      let alive : IsTrue (has parts.third_dead u) → ⊥ = λ d. not_both (has report.dead u) ((is.dead.members u).1 (inr (inr d))) (left_parts m report u left).1 in
      remain_left m report parts is (promoted_fresh threads m report parts is good) n
      (in_without (without (kept_names m parts report) parts.second_dead) report.swept n
      (in_without (kept_names m parts report) parts.second_dead n (kept_closed u n b.0 f) (second_closed _ is.drained u n b.0 b.1 f))
      (λ d. not_both (has report.swept u) (swept_closed report.kind refl is.swept u n left b.0 f d) a.1))
      (third_closed _ is.drained u n remains alive f)

  only_old : (trace : Trace) → TraceClosed trace m.last m.unreclaimed m.state → (u : Name) → IsTrue (has (unreclaimed_after m report) u) → HasObject trace.state.graph u → IsTrue (has trace.unreclaimed u)
  only_old trace running u left o = elim (union_cases report.promoted m.unreclaimed u (left_parts m report u left).0) [
    | inl p ↦ absurd ((good.young u (promoted_made ((is.promoted.members u).0 p))).0 (running.grew u o))
    | inr k ↦ running.only u k o
  ]

  running_plain : (trace : Option Trace) → RunningGood trace m.state → RunningClosed trace m.last m.unreclaimed m.state → RunningClosed (going_on m report trace) m.state (unreclaimed_after m report) m.state
  running_plain None good running = tt
  running_plain (Some trace) good running = record { grew = good.grows; old = running.old; only = only_old trace running }

  running_pause : (kd : Kind) → RunningClosed (trace_after m report kd) m.state (unreclaimed_after m report) m.state
  running_pause kind.Plain = running_plain m.trace good.running closed.running
  running_pause kind.Begin = record { grew = λ n o. o; old = λ u n f g. f; only = λ u h o. h }
  running_pause (kind.End j) = tt
  running_pause kind.Collect = tt

  closed_pause : ClosedAt (after_pause m report)
  closed_pause = record { closed = left_closed; fresh = λ u n f. inl f; running = running_pause report.kind }

closed_history : (terms : Terms) (h : List Item) → IsLegalSoFar terms h → ClosedAt (moment terms.threads h)
closed_history terms [] legal = closed_opening terms.threads
closed_history terms (Call t o r ∷ h) legal =
    let good = good_history terms h legal.0 in
    let rows : length (moment terms.threads h).state.graph ≡ terms.threads + 1 = good.rows in
    let fit : t ≤ terms.threads = legal.2.thread.1 in
    closed_call terms h t o r (omega arith) legal.2.reply good (closed_history terms h legal.0)
closed_history terms (Renew ns ∷ h) legal = closed_start terms.threads (moment terms.threads (Renew ns ∷ h)) legal.2.sound refl
closed_history terms (Pause report ∷ h) legal =
    closed_pause terms.threads (moment terms.threads h) report legal.2.reports.0 legal.2.reports.1 (good_history terms h legal.0) (closed_history terms h legal.0)

-- ---- the laws

pub unreclaimed_closed : UnreclaimedAreClosed
unreclaimed_closed terms h report legal =
    let good = good_history terms (Pause report ∷ h) legal in
    record {
      world = good.within world_name the_world;
      registers = λ n k. good.within n (held k);
      references = (closed_history terms (Pause report ∷ h) legal).closed;
    }

running_closed : (terms : Terms) (h : List Item) (trace : Trace) → IsLegalSoFar terms h → (moment terms.threads h).trace ≡ Some trace
    → TraceClosed trace (moment terms.threads h).last (moment terms.threads h).unreclaimed (moment terms.threads h).state
running_closed terms h trace legal is =
    let m = moment terms.threads h in
    subst (λ x. RunningClosed x m.last m.unreclaimed m.state) is (closed_history terms h legal).running

pub only_garbage_refers : OnlyGarbageRefersToGarbage
only_garbage_refers terms h trace legal is u n k f g =
    let running = running_closed terms h trace legal is in
    let there = running.old u n f g in
    (running.only u k (refers_object trace.state.graph u n there), λ r. g.1 (referred r there))

pub reachable_were : ReachableWereSoOrAreYounger
reachable_were terms h trace legal is n r = (good_at terms h trace legal is).reach n r

pub unreclaimed_were : UnreclaimedWereSoOrAreYounger
unreclaimed_were terms h trace legal is n k = elim (cases_Bool (is_some (object_at trace.state.graph n))) [
  | inl e ↦ inl ((running_closed terms h trace legal is).only n k e)
  | inr e ↦ inr (λ o. not_both (is_some (object_at trace.state.graph n)) o e)
]

pub have_objects : UnreclaimedHaveObjects
have_objects terms h legal n k = let good = good_history terms h legal in good.grows n (good.kept n k)

pub remain : UnreclaimedRemain
remain terms h report parts legal is =
    let m = moment terms.threads h in
    let good = good_history terms h legal in
    let ordered : AreInOrder m.unreclaimed = (moments_in_order terms h legal).unreclaimed in
    let kept : AreInOrder (kept_names m parts report) =
    in_order-union report.promoted (without m.unreclaimed parts.first_dead) (in_order-without m.unreclaimed parts.first_dead ordered) in
    one_list (unreclaimed_after m report) (without (remaining_names m parts report) parts.third_dead)
    (left_in_order report report.promoted m.unreclaimed ordered)
    (in_order-without (remaining_names m parts report) parts.third_dead
    (in_order-without (without (kept_names m parts report) parts.second_dead) report.swept (in_order-without (kept_names m parts report) parts.second_dead kept)))
    (λ n. (
      λ k. in_without (remaining_names m parts report) parts.third_dead n (left_remain m report parts is n k)
          (λ d. not_both (has report.dead n) ((is.dead.members n).1 (inr (inr d))) (left_parts m report n k).1),
      λ k. let a = without_parts (remaining_names m parts report) parts.third_dead n k in
          remain_left m report parts is (promoted_fresh terms.threads m report parts is good) n a.0 (λ d. not_both (has parts.third_dead n) d a.1),
    ))

stuck_left : (threads : ℕ) (m : Moment) (report : PauseReport) (parts : PauseParts) → IsReportWith m parts report → GoodAt threads m
    → ((n : Name) → IsTrue (has m.stuck n) → IsTrue (has m.unreclaimed n)) → (n : Name) → IsTrue (has (stuck_after m report) n) → IsTrue (has (unreclaimed_after m report) n)
stuck_left threads m report parts is good before n s =
    let a = without_parts (without (union report.stuck m.stuck) report.dead) report.swept n s in
    let b = without_parts (union report.stuck m.stuck) report.dead n a.0 in
    in_without (without (union report.promoted m.unreclaimed) report.dead) report.swept n
    (in_without (union report.promoted m.unreclaimed) report.dead n
    (elim (union_cases report.stuck m.stuck n b.0) [
      | inl k ↦ kept_all m report parts is n ((is.stuck.members n).0 k).0
      | inr k ↦ union_right report.promoted m.unreclaimed n (before n k)
    ])
    (λ d. not_both (has report.dead n) d b.1))
    (λ d. not_both (has report.swept n) d a.1)

pub stuck_unreclaimed : StuckAreUnreclaimed
stuck_unreclaimed terms [] legal n s = s
stuck_unreclaimed terms (Call t o r ∷ h) legal n s = stuck_unreclaimed terms h legal.0 n s
stuck_unreclaimed terms (Renew ns ∷ h) legal n s = legal.2.sound.stuck n s
stuck_unreclaimed terms (Pause report ∷ h) legal n s =
    stuck_left terms.threads (moment terms.threads h) report legal.2.reports.0 legal.2.reports.1 (good_history terms h legal.0) (stuck_unreclaimed terms h legal.0) n s
