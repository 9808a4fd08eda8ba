-- The tests of an item hold wherever what they stand for does, and the replies and reports of a legal history are those
-- computed again, since a moment gives one report of a kind. Names are not renewed in it, where its terms forbid that.
use Rattle.std.proofs.Common.{◌≡◌, ◌≢◌, ℕ, ◌+◌, ◌-◌, ◌%◌, ◌<◌, refl, sym, ap, subst, ◌∙◌, inl, inr, arith, true, false, List, [], ◌∷◌, IsTrue, nat_eq, nat_lt}
use Rattle.std.specs.Prelude.{◌↔◌, Option, Some, None, nat_le, not, ◌&&◌, ◌||◌}
use Rattle.std.proofs.lemmas.Bool.{or_left, or_right, and_parts, and_from, not-true, not_from_false, false_from_ne_true}
use Rattle.lxr_layout.specs.declared.Name.{Name}
use Rattle.lxr_layout.specs.declared.Shape.{Shape}
use Rattle.lxr_layout.specs.Objects.{line_count}
use Rattle.lxr_graph.specs.declared.Op.{Op}
use Rattle.lxr_graph.specs.declared.Op.TheVariants as op
use Rattle.lxr_graph.specs.declared.Reply.{Reply}
use Rattle.lxr_graph.specs.declared.Reply.TheVariants as reply
use Rattle.lxr_graph.specs.declared.report.Kind.{Kind}
use Rattle.lxr_graph.specs.declared.report.Kind.TheVariants as kind
use Rattle.lxr_graph.specs.Names.{without, union}
use Rattle.lxr_graph.specs.State.{Graph, world_name}
use Rattle.lxr_graph.specs.Forms.{is_formed_for}
use Rattle.lxr_graph.specs.History.{PauseReport, Item, Call, Pause, Renew}
use Rattle.lxr_graph.proofs.FormLemmas.{formed_for}
use Rattle.lxr_graph.proofs.NameSets.{not_both}
use Rattle.lxr_model.specs.Terms.{Terms}
use Rattle.lxr_model.specs.Moments.{Trace, Moment, moment}
use Rattle.lxr_model.specs.Kinds.{collect_called, ends, MustCollect, MayCollect, OnlyNewsSincePause, IsRunning, MayBegin, NeedsNoTrace, MayStand}
use Rattle.lxr_model.specs.Full.{LeaveNoRun, IsRightAfterCollecting, MayBeFull, slots_in, slots_taken}
use Rattle.lxr_model.specs.Legal.{Replies, StandsForWaiting, IsWaitedFor, KeepsPromise, MayFollow, IsLegalSoFar, OwesNoCall}
use Rattle.lxr_model_decide.specs.Sets.{reachable_names}
use Rattle.lxr_model_decide.specs.Reports.{report_at, CanBe}
use Rattle.lxr_model_decide.specs.Legality.{must_collect, only_news_since_pause, may_collect, is_running, may_begin, needs_no_trace, may_stand, is_collect, leave_no_run, is_right_after_collecting, may_be_full, may_reply, stands_for_waiting, is_waited_for, keeps_promise, owes_no_call, may_follow, all_may_stand, reply_again, item_again, again}
use Rattle.lxr_model_decide.proofs.PartLemmas.{reports_right}
use Rattle.lxr_graph.proofs.NameSets.{one_set}
use Rattle.lxr_model_laws.proofs.ReportLemmas.{report_determined}
use Rattle.lxr_model_decide.specs.Laws.{LegalityIsComputed}
use Rattle.lxr_model_decide.proofs.PartLemmas.{test_from_le}
use Rattle.lxr_model_decide.proofs.LegalityLemmas.{eq_from_test, test_from_eq, must_right, stand_right, collect_kind, others_reachable, run_right, full_right, legal_by_tests}

-- ---- numbers

pub test_from_lt : (a b : ℕ) → a < b → IsTrue (nat_lt a b)
test_from_lt a b h = grind arith

test_from_ne : (a b : ℕ) → a ≢ b → IsTrue (not (nat_eq a b))
test_from_ne a b h = not_from_false (nat_eq a b) (false_from_ne_true (nat_eq a b) (λ e. h (eq_from_test a b e)))

-- ---- where a kind may stand

pub must_test : (terms : Terms) (h : List Item) → MustCollect terms h → IsTrue (must_collect terms h)
must_test terms h (inl k) = or_left (collect_called h) (nat_eq (ends h) terms.threads) k
must_test terms h (inr k) = or_right (collect_called h) (nat_eq (ends h) terms.threads) (test_from_eq (ends h) terms.threads k)

must_not_test : (terms : Terms) (h : List Item) → (MustCollect terms h → ⊥) → IsTrue (not (must_collect terms h))
must_not_test terms h never = not_from_false (must_collect terms h) (false_from_ne_true (must_collect terms h) (λ k. never (must_right terms h k)))

news_test : (h : List Item) → OnlyNewsSincePause h → IsTrue (only_news_since_pause h)
news_test [] e = absurd e
news_test (Renew ns ∷ h) e = absurd e
news_test (Pause report ∷ h) e = refl
news_test (Call t (op.New dest shape) r ∷ h) e = news_test h e
news_test (Call t _ r ∷ h) e = absurd e

collect_test : (terms : Terms) (h : List Item) → MayCollect terms h → IsTrue (may_collect terms h)
collect_test terms h (inl k) = or_left (must_collect terms h) (only_news_since_pause h) (must_test terms h k)
collect_test terms h (inr k) = or_right (must_collect terms h) (only_news_since_pause h) (news_test h k)

running_test : (j : ℕ) (trace : Option Trace) → IsRunning j trace → IsTrue (is_running j trace)
running_test j None e = absurd e
running_test j (Some trace) e = test_from_eq trace.began j e

begin_test : (terms : Terms) (k : ℕ) (trace : Option Trace) → trace ≡ None → MayBegin terms k → IsTrue (may_begin terms k trace)
begin_test terms k None none (inl free) = or_left (nat_eq terms.trace 0) (nat_eq (k % terms.trace) 0) (test_from_eq terms.trace 0 free)
begin_test terms k None none (inr e) = or_right (nat_eq terms.trace 0) (nat_eq (k % terms.trace) 0) (test_from_eq (k % terms.trace) 0 e)
begin_test terms k (Some trace) none e = absurd (cc)

no_trace_test : (terms : Terms) (k : ℕ) (trace : Option Trace) → NeedsNoTrace terms k trace → IsTrue (needs_no_trace terms k trace)
no_trace_test terms k None (inl free) = or_left (nat_eq terms.trace 0) (not (nat_eq (k % terms.trace) 0)) (test_from_eq terms.trace 0 free)
no_trace_test terms k None (inr e) = or_right (nat_eq terms.trace 0) (not (nat_eq (k % terms.trace) 0)) (test_from_ne (k % terms.trace) 0 e)
no_trace_test terms k (Some trace) e = test_from_lt k (trace.began + terms.within) e

stand_test : (terms : Terms) (h : List Item) (m : Moment) (k : ℕ) (i : Kind) → MayStand terms h m k i → IsTrue (may_stand terms h m.trace k i)
stand_test terms h m k kind.Collect e = collect_test terms h e
stand_test terms h m k (kind.End j) e = and_from (not (must_collect terms h)) (is_running j m.trace) (must_not_test terms h e.0) (running_test j m.trace e.1)
stand_test terms h m k kind.Begin e = and_from (not (must_collect terms h)) (may_begin terms k m.trace) (must_not_test terms h e.0) (begin_test terms k m.trace e.1 e.2)
stand_test terms h m k kind.Plain e = and_from (not (must_collect terms h)) (needs_no_trace terms k m.trace) (must_not_test terms h e.0) (no_trace_test terms k m.trace e.1)

-- ---- calls

after_test : (h : List Item) → IsRightAfterCollecting h → IsTrue (is_right_after_collecting h)
after_test [] e = absurd e
after_test (Renew ns ∷ h) e = absurd e
after_test (Pause report ∷ h) e = ap is_collect e
after_test (Call t (op.New dest shape) reply.Full ∷ h) e = after_test h e
after_test (Call t _ _ ∷ h) e = absurd e

run_test : (g : Graph) (ns : List Name) (blocks k : ℕ) → LeaveNoRun g ns blocks k → IsTrue (leave_no_run g ns blocks k)
run_test g ns blocks k e = test_from_le (slots_in k (blocks - 1)) (slots_taken g k ns) e

full_test : (terms : Terms) (h : List Item) (shape : Shape) → MayBeFull terms h shape → IsTrue (may_be_full terms h (moment terms.threads h) shape)
full_test terms h shape e =
    let s = (moment terms.threads h).state in
    let ns = without (reachable_names s) (world_name ∷ []) in
    let q : e.1 ≡ ns = one_set e.2 (others_reachable s) in
    and_from (is_right_after_collecting h) (leave_no_run s.graph ns terms.blocks (line_count shape)) (after_test h e.0)
    (run_test s.graph ns terms.blocks (line_count shape) (subst (λ ns. LeaveNoRun s.graph ns terms.blocks (line_count shape)) q e.3))

replies_test : (terms : Terms) (h : List Item) (t : ℕ) (o : Op) (r : Reply) → Replies terms h t o r
    → IsTrue (may_reply terms h (moment terms.threads h) o r) × (reply_again (moment terms.threads h) t o r ≡ r)
replies_test terms h t (op.New dest shape) reply.Full e = (full_test terms h shape e, refl)
replies_test terms h t (op.New dest shape) r e = (refl, e)
replies_test terms h t o r e = (refl, e)

-- ---- a `new` that was waited for

waited_test : (terms : Terms) (h : List Item) (x : Item) → IsWaitedFor terms h x → IsTrue (is_waited_for terms (moment terms.threads h) x)
waited_test terms h (Call t (op.New dest shape) r) e =
    let m = moment terms.threads h in
    run_test m.state.graph (without (union m.made m.unreclaimed) (world_name ∷ [])) (terms.blocks - terms.evacuate) (line_count shape) e
waited_test terms h (Call t _ r) e = absurd e
waited_test terms h (Pause report) e = absurd e
waited_test terms h (Renew ns) e = absurd e

waiting : (terms : Terms) (h : List Item) (report : PauseReport) → IsTrue (stands_for_waiting terms h report) → StandsForWaiting terms h report
waiting terms h report e =
    let a = and_parts (is_collect report.kind) (not (must_collect terms h)) e in
    (collect_kind report.kind a.0, λ k. not_both (must_collect terms h) (must_test terms h k) (not-true (must_collect terms h) a.1))

not_waiting_test : (terms : Terms) (h : List Item) (report : PauseReport) → (StandsForWaiting terms h report → ⊥) → IsTrue (not (stands_for_waiting terms h report))
not_waiting_test terms h report never =
    not_from_false (stands_for_waiting terms h report) (false_from_ne_true (stands_for_waiting terms h report) (λ k. never (waiting terms h report k)))

promise_test : (terms : Terms) (h : List Item) (x : Item) → KeepsPromise terms h x → IsTrue (keeps_promise terms h x)
promise_test terms [] x e = refl
promise_test terms (Renew ns ∷ h) x e = refl
promise_test terms (Call t o r ∷ h) x e = refl
promise_test terms (Pause report ∷ h) x e =
    let waits = stands_for_waiting terms h report in
    let awaited = is_waited_for terms (moment terms.threads h) x in
    elim waits as (λ b. waits ≡ b → IsTrue (not waits || awaited)) [
      | true ↦ λ k. or_right (not waits) awaited (waited_test terms h x (e (waiting terms h report k)))
      | false ↦ λ k. or_left (not waits) awaited (not_from_false waits k)
    ] refl

owes_test : (terms : Terms) (h : List Item) → OwesNoCall terms h → IsTrue (owes_no_call terms h)
owes_test terms [] e = refl
owes_test terms (Renew ns ∷ h) e = refl
owes_test terms (Call t o r ∷ h) e = refl
owes_test terms (Pause report ∷ h) e = not_waiting_test terms h report e

-- ---- histories

running_some : (j : ℕ) (trace : Option Trace) → IsRunning j trace → trace ≢ None
running_some j None e none = e
running_some j (Some trace) e none = cc

can_be : (terms : Terms) (h : List Item) (m : Moment) (k : ℕ) (i : Kind) → MayStand terms h m k i → CanBe m i
can_be terms h m k kind.Plain e = tt
can_be terms h m k kind.Begin e = tt
can_be terms h m k (kind.End j) e = running_some j m.trace e.1
can_be terms h m k kind.Collect e = tt

follow_test : (terms : Terms) (h : List Item) (x : Item) → terms.renews ≡ false → MayFollow terms h x
    → IsTrue (may_follow terms h (moment terms.threads h) x) × (item_again (moment terms.threads h) x ≡ x)
follow_test terms h (Call t o r) never e =
    let m = moment terms.threads h in
    let a = replies_test terms h t o r e.reply in
    let low = and_from (nat_le 1 t) (nat_le t terms.threads) (test_from_le 1 t e.thread.0) (test_from_le t terms.threads e.thread.1) in
    let formed = and_from (is_formed_for terms.registers o) (may_reply terms h m o r) ((formed_for terms.registers o).1 e.operation) a.0 in
    (and_from (nat_le 1 t && nat_le t terms.threads) (is_formed_for terms.registers o && may_reply terms h m o r) low formed, ap (Call t o) a.1)
follow_test terms h (Renew ns) never e = absurd (let both : true ≡ false = sym e.allowed ∙ never in cc)
follow_test terms h (Pause report) never e =
    let m = moment terms.threads h in
    let can = can_be terms h m report.number report.kind e.stands in (
      stand_test terms h m report.number report.kind e.stands,
      ap Pause (report_determined m (report_at m report.kind) report (reports_right m report.kind can) e.reports refl),
    )

tests_so_far : (terms : Terms) (h : List Item) → terms.renews ≡ false → IsLegalSoFar terms h → IsTrue (all_may_stand terms h) × (again terms h ≡ h)
tests_so_far terms [] never e = (refl, refl)
tests_so_far terms (x ∷ h) never e =
    let rest = tests_so_far terms h never e.0 in
    let follows = follow_test terms h x never e.2 in (
      and_from (all_may_stand terms h) (keeps_promise terms h x && may_follow terms h (moment terms.threads h) x) rest.0
          (and_from (keeps_promise terms h x) (may_follow terms h (moment terms.threads h) x) (promise_test terms h x e.1) follows.0),
      λ i. follows.1 i ∷ rest.1 i,
    )

pub legality_right : LegalityIsComputed
legality_right terms h never = (
  λ legal. let a = tests_so_far terms h never legal.0 in record { stand = a.0; owes = owes_test terms h legal.1; same = a.1 },
  legal_by_tests terms h,
)

-- ---- both ways

pub stand_iff : (terms : Terms) (h : List Item) (m : Moment) (k : ℕ) (i : Kind) → IsTrue (may_stand terms h m.trace k i) ↔ MayStand terms h m k i
stand_iff terms h m k i = (λ e. (stand_right terms h m k i e).0, stand_test terms h m k i)

pub run_iff : (g : Graph) (ns : List Name) (blocks k : ℕ) → IsTrue (leave_no_run g ns blocks k) ↔ LeaveNoRun g ns blocks k
run_iff g ns blocks k = (run_right g ns blocks k, run_test g ns blocks k)

pub full_iff : (terms : Terms) (h : List Item) (shape : Shape) → IsTrue (may_be_full terms h (moment terms.threads h) shape) ↔ MayBeFull terms h shape
full_iff terms h shape = (full_right terms h shape, full_test terms h shape)
