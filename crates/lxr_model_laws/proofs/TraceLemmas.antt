-- What was garbage when a trace began stays unreclaimed until the trace ends. The pause that began it was draining, so
-- nothing unstuck was dead there; and to a garbage name only garbage refers, whose objects never change. So whatever
-- would be dead later would have been dead then.
use Rattle.std.proofs.Common.{◌≡◌, ℕ, ◌+◌, ◌<◌, ◌≤◌, refl, sym, ap, subst, ◌∙◌, inl, inr, arith, Bool, true, false, List, [], ◌∷◌, IsTrue, length}
use Rattle.std.specs.Prelude.{Option, Some, None, slice_get}
use Rattle.std.proofs.lemmas.Bool.{false_from_ne_true}
use Rattle.lxr_layout.specs.declared.Name.{Name}
use Rattle.lxr_graph.specs.declared.Op.{Op}
use Rattle.lxr_graph.specs.declared.Reply.{Reply}
use Rattle.lxr_graph.specs.declared.report.Kind.{Kind}
use Rattle.lxr_graph.specs.declared.report.Kind.TheVariants as kind
use Rattle.lxr_graph.specs.Names.{has, without, union}
use Rattle.lxr_graph.specs.State.{State, object_at, refs_of}
use Rattle.lxr_graph.specs.Step.{step}
use Rattle.lxr_graph.specs.History.{PauseReport, Item, Call, Pause, Renew}
use Rattle.lxr_graph.proofs.NameSets.{not_both, union_right, in_without}
use Rattle.lxr_model.specs.Reachable.{Reachable, held, referred}
use Rattle.lxr_model.specs.Dead.{Dead, dead}
use Rattle.lxr_model.specs.Terms.{Terms}
use Rattle.lxr_model.specs.Moments.{Trace, Moment, moment, after_pause, going_on, trace_after, trace_from, stuck_after}
use Rattle.lxr_model.specs.Reports.{PauseParts, IsReportWith, AreDrained, IsSwept, is_draining, kept_names}
use Rattle.lxr_model.specs.Legal.{IsLegalSoFar, Replies}
use Rattle.lxr_model_laws.specs.UnreclaimedLaws.{IsGarbage, GarbageStays, UnstuckGarbageIsReferredTo}
use Rattle.lxr_model.proofs.ObjectLemmas.{step_facts}
use Rattle.lxr_model.proofs.HistoryLemmas.{TraceGood, RunningGood, GoodAt, good_history, call_cases}
use Rattle.lxr_model.proofs.DecideLemmas.{find_referrer}
use Rattle.lxr_model.proofs.DrainLemmas.{nothing_dead, promoted_fresh, still_stuck}

-- nothing unstuck was dead when it began, and garbage that was stuck there still is
pub record Undead (trace : Trace) (stuck : List Name) : Type 0 where
  pub before : List Name
  pub none : (o : Name) → Dead trace.state trace.unreclaimed before o → ⊥
  pub stays : (n : Name) → IsGarbage trace n → IsTrue (has before n) → IsTrue (has stuck n)

-- garbage has the objects in this state that it had when the trace began
abbrev pub SameObjects : Trace → State → Type 0
SameObjects trace s = (n : Name) → IsGarbage trace n → object_at s.graph n ≡ object_at trace.state.graph n

pub record StaysUnreclaimed (trace : Trace) (m : Moment) : Type 0 where
  pub kept : (n : Name) → IsGarbage trace n → IsTrue (has m.unreclaimed n)
  pub last : SameObjects trace m.last
  pub now : SameObjects trace m.state
  pub undead : Undead trace m.stuck

abbrev pub RunningGarbage : Option Trace → Moment → Type 0
RunningGarbage None m = Unit {0}
RunningGarbage (Some trace) m = StaysUnreclaimed trace m

-- garbage that is dead in a later state, among names that have all garbage, was dead when the trace began
was_dead : (trace : Trace) (s : State) (us stuck before : List Name) → ((n : Name) → IsGarbage trace n → IsTrue (has us n)) → SameObjects trace s
    → ((n : Name) → IsGarbage trace n → IsTrue (has before n) → IsTrue (has stuck n))
    → (o : Name) → IsGarbage trace o → Dead s us stuck o → Dead trace.state trace.unreclaimed before o
was_dead trace s us stuck before kept same stays o g (dead member unstuck unheld each) =
    dead g.0
    (false_from_ne_true (has before o) (λ b. not_both (has stuck o) (stays o g b) unstuck))
    (λ h. g.1 (held h))
    (λ u k f.
    let gu : IsGarbage trace u = (k, λ r. g.1 (referred r f)) in
    was_dead trace s us stuck before kept same stays u gu (each u (kept u gu) (f.0, ap (λ x. slice_get (refs_of x) f.0) (same u gu) ∙ f.1)))

pub garbage_undead : (trace : Trace) (s : State) (us stuck : List Name) → ((n : Name) → IsGarbage trace n → IsTrue (has us n)) → SameObjects trace s → Undead trace stuck
    → (o : Name) → IsGarbage trace o → Dead s us stuck o → ⊥
garbage_undead trace s us stuck kept same undead o g d = undead.none o (was_dead trace s us stuck undead.before kept same undead.stays o g d)

-- ---- a call

-- garbage isn't reachable later, since it is no younger than the trace
pub still_garbage : (trace : Trace) (s : State) → TraceGood trace s → (n : Name) → IsGarbage trace n → ¬ Reachable s n
still_garbage trace s good n g r = elim (good.reach n r) [ inl q ↦ g.1 q | inr q ↦ q (good.kept n g.0) ]

same_after : (trace : Trace) (s : State) (t : ℕ) (o : Op) → t < length s.graph → TraceGood trace s → SameObjects trace s → SameObjects trace (step s t o).0
same_after trace s t o h good same n g =
    (step_facts s t o h).same n (good.grows n (good.kept n g.0)) (still_garbage trace s good n g) ∙ same n g

running_call : (terms : Terms) (h : List Item) (t : ℕ) (o : Op) (r : Reply) → t < length (moment terms.threads h).state.graph → Replies terms h t o r
    → GoodAt terms.threads (moment terms.threads h) → (trace : Option Trace) → (moment terms.threads h).trace ≡ trace
    → RunningGarbage trace (moment terms.threads h) → RunningGarbage trace (moment terms.threads (Call t o r ∷ h))
running_call terms h t o r fit c good None is stays = tt
running_call terms h t o r fit c good (Some trace) is stays =
    let m = moment terms.threads h in
    let running : TraceGood trace m.state = subst (λ x. RunningGood x m.state) is good.running in
    record {
      kept = stays.kept;
      last = stays.last;
      now = elim (call_cases terms h t o r m.state m.made refl c) [
        | inl e ↦ subst (SameObjects trace) (sym e.0) stays.now
        | inr e ↦ subst (SameObjects trace) (sym e.0) (same_after trace m.state t o fit running stays.now)
      ];
      undead = stays.undead;
    }

-- ---- a pause

module _ (threads : ℕ) (m : Moment) (report : PauseReport) (parts : PauseParts) (is : IsReportWith m parts report) (good : GoodAt threads m)
    (trace : Trace) (stays : StaysUnreclaimed trace m) where
  pub garbage_not_first : (n : Name) → IsGarbage trace n → IsTrue (has parts.first_dead n) → ⊥
  garbage_not_first n g d = garbage_undead trace m.last m.unreclaimed m.stuck stays.kept stays.last stays.undead n g ((is.first_dead.members n).0 d)

  garbage_kept : (n : Name) → IsGarbage trace n → IsTrue (has (kept_names m parts report) n)
  garbage_kept n g = union_right report.promoted (without m.unreclaimed parts.first_dead) n (in_without m.unreclaimed parts.first_dead n (stays.kept n g) (garbage_not_first n g))

  undead_now : Undead trace (union report.stuck m.stuck)
  undead_now = record {
    before = stays.undead.before;
    none = stays.undead.none;
    stays = λ n g b. union_right report.stuck m.stuck n (stays.undead.stays n g b);
  }

  pub garbage_not_second : (b : Bool) → AreDrained m parts report b → (n : Name) → IsGarbage trace n → IsTrue (has parts.second_dead n) → ⊥
  garbage_not_second false drained n g d = let k = rw drained.0 at d in cc
  garbage_not_second true drained n g d =
      garbage_undead trace m.state (kept_names m parts report) (union report.stuck m.stuck) garbage_kept stays.now undead_now n g ((drained.0.members n).0 d)

  -- a plain pause leaves all garbage
  plain_alive : AreDrained m parts report false → (n : Name) → IsGarbage trace n → has report.dead n ≡ false
  plain_alive drained n g = false_from_ne_true (has report.dead n) (λ d. elim ((is.dead.members n).0 d) [
    | inl q ↦ garbage_not_first n g q
    | inr q ↦ elim q [ inl p ↦ garbage_not_second false drained n g p | inr p ↦ (let k = rw drained.1 at p in cc) ]
  ])

  plain_stays : AreDrained m parts report false → report.swept ≡ [] → StaysUnreclaimed trace (after_pause m report)
  plain_stays drained unswept =
      let none : (n : Name) → has report.swept n ≡ false = λ n. ap (λ ns. has ns n) unswept in
      record {
        kept = λ n g.
            in_without (without (union report.promoted m.unreclaimed) report.dead) report.swept n
            (in_without (union report.promoted m.unreclaimed) report.dead n (union_right report.promoted m.unreclaimed n (stays.kept n g))
            (λ d. not_both (has report.dead n) d (plain_alive drained n g)))
            (λ d. not_both (has report.swept n) d (none n));
        last = stays.now;
        now = stays.now;
        undead = record {
          before = stays.undead.before;
          none = stays.undead.none;
          stays = λ n g b. still_stuck m report n (plain_alive drained n g) (none n) (union_right report.stuck m.stuck n (stays.undead.stays n g b));
        };
      }

begun : (threads : ℕ) (m : Moment) (report : PauseReport) (parts : PauseParts) → IsReportWith m parts report → GoodAt threads m → IsTrue (is_draining report.kind)
    → StaysUnreclaimed (trace_from m report) (after_pause m report)
begun threads m report parts is good drains = record {
  kept = λ n g. g.0;
  last = λ n g. refl;
  now = λ n g. refl;
  undead = record { before = stuck_after m report; none = nothing_dead m report parts is (promoted_fresh threads m report parts is good) drains; stays = λ n g b. b };
}

running_pause : (threads : ℕ) (m : Moment) (report : PauseReport) (parts : PauseParts) → IsReportWith m parts report → GoodAt threads m → RunningGarbage m.trace m
    → (k : Kind) → report.kind ≡ k → RunningGarbage (trace_after m report k) (after_pause m report)
running_pause threads m report parts is good stays kind.Plain e = plain m.trace stays
  where
    plain : (trace : Option Trace) → RunningGarbage trace m → RunningGarbage (going_on m report trace) (after_pause m report)
    plain None stays = tt
    plain (Some trace) stays =
        let still = plain_stays threads m report parts is good trace stays
        (subst (λ k. AreDrained m parts report (is_draining k)) e is.drained)
        (subst (IsSwept m (without (kept_names m parts report) parts.second_dead) report.swept) e is.swept) in
        record { kept = still.kept; last = still.last; now = still.now; undead = record { before = still.undead.before; none = still.undead.none; stays = still.undead.stays } }
running_pause threads m report parts is good stays kind.Begin e = begun threads m report parts is good (ap is_draining e)
running_pause threads m report parts is good stays (kind.End j) e = tt
running_pause threads m report parts is good stays kind.Collect e = tt

pub running_garbage : (terms : Terms) (h : List Item) → IsLegalSoFar terms h → RunningGarbage (moment terms.threads h).trace (moment terms.threads h)
running_garbage terms [] legal = tt
running_garbage terms (Renew ns ∷ h) legal = tt
running_garbage terms (Call t o r ∷ h) legal =
    let good = good_history terms h legal.0 in
    let rows : length (moment terms.threads h).state.graph ≡ terms.threads + 1 = good.rows in
    let fit : t ≤ terms.threads = legal.2.thread.1 in
    running_call terms h t o r (omega arith) legal.2.reply good (moment terms.threads h).trace refl (running_garbage terms h legal.0)
running_garbage terms (Pause report ∷ h) legal =
    running_pause terms.threads (moment terms.threads h) report legal.2.reports.0 legal.2.reports.1 (good_history terms h legal.0) (running_garbage terms h legal.0) report.kind refl

-- ---- the laws

running_at : (terms : Terms) (h : List Item) (trace : Trace) → IsLegalSoFar terms h → (moment terms.threads h).trace ≡ Some trace → StaysUnreclaimed trace (moment terms.threads h)
running_at terms h trace legal is = subst (λ x. RunningGarbage x (moment terms.threads h)) is (running_garbage terms h legal)

pub good_at : (terms : Terms) (h : List Item) (trace : Trace) → IsLegalSoFar terms h → (moment terms.threads h).trace ≡ Some trace → TraceGood trace (moment terms.threads h).state
good_at terms h trace legal is = subst (λ x. RunningGood x (moment terms.threads h).state) is (good_history terms h legal).running

pub garbage_stays : GarbageStays
garbage_stays terms h trace legal is n g =
    let stays = running_at terms h trace legal is in
    (stays.kept n g, still_garbage trace (moment terms.threads h).state (good_at terms h trace legal is) n g, stays.now n g)

-- a search among what was unreclaimed finds who refers to it, since it isn't dead
pub unstuck_referred : UnstuckGarbageIsReferredTo
unstuck_referred terms h trace legal is n g unstuck =
    let undead = (running_at terms h trace legal is).undead in
    elim (find_referrer trace.state.graph n trace.unreclaimed) [
      | inl r ↦ (r.0, (r.1, λ reach. g.1 (referred reach r.2)), r.2)
      | inr none ↦ absurd (undead.none n (dead g.0
          (false_from_ne_true (has undead.before n) (λ b. not_both (has (moment terms.threads h).stuck n) (undead.stays n g b) unstuck))
          (λ k. g.1 (held k))
          (λ u k f. absurd (none u k f))))
    ]
