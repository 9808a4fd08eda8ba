-- Each test of an item is right: where it holds, so does what it stands for.
use Rattle.std.proofs.Common.{◌≡◌, ◌≢◌, ℕ, ◌+◌, ◌-◌, ◌%◌, ◌<◌, refl, ap, subst, inl, inr, arith, List, [], ◌∷◌, IsTrue, nat_eq, nat_lt}
use Rattle.std.specs.Prelude.{Option, Some, None, nat_le, not, ◌&&◌, ◌||◌}
use Rattle.std.proofs.lemmas.Bool.{or_cases, or_left, or_right, and_parts, and_from, not-true, not_from_false, false_from_ne_true}
use Rattle.lxr_layout.specs.declared.Name.{Name}
use Rattle.lxr_layout.specs.declared.Shape.{Shape}
use Rattle.lxr_layout.specs.Objects.{line_count}
use Rattle.lxr_graph.specs.declared.Op.{Op}
use Rattle.lxr_graph.specs.declared.Op.TheVariants as op
use Rattle.lxr_graph.specs.declared.Reply.{Reply}
use Rattle.lxr_graph.specs.declared.Reply.TheVariants as reply
use Rattle.lxr_graph.specs.declared.report.Kind.{Kind}
use Rattle.lxr_graph.specs.declared.report.Kind.TheVariants as kind
use Rattle.lxr_graph.specs.Names.{has, without, union, IsSetOf}
use Rattle.lxr_graph.specs.State.{Graph, State, world_name}
use Rattle.lxr_graph.specs.Forms.{is_formed_for}
use Rattle.lxr_graph.specs.History.{PauseReport, Item, Call, Pause, Renew}
use Rattle.lxr_graph.proofs.FormLemmas.{formed_for}
use Rattle.lxr_graph.proofs.NameSets.{not_both, has_one, in_order-without, without_parts, in_without}
use Rattle.lxr_model.specs.Reachable.{Reachable}
use Rattle.lxr_model.specs.Terms.{Terms}
use Rattle.lxr_model.specs.Moments.{Trace, Moment, moment}
use Rattle.lxr_model.specs.Kinds.{collect_called, ends, MustCollect, MayCollect, OnlyNewsSincePause, IsRunning, MayBegin, NeedsNoTrace, MayStand}
use Rattle.lxr_model.specs.Reports.{IsReport}
use Rattle.lxr_model.specs.Full.{LeaveNoRun, IsRightAfterCollecting, MayBeFull, slots_in, slots_taken}
use Rattle.lxr_model.specs.Legal.{Replies, StandsForWaiting, IsWaitedFor, KeepsPromise, MayFollow, IsLegalSoFar, IsLegal, OwesNoCall}
use Rattle.lxr_model_decide.specs.Sets.{reachable_names}
use Rattle.lxr_model_decide.specs.Reports.{CanBe}
use Rattle.lxr_model_decide.specs.Legality.{must_collect, only_news_since_pause, may_collect, is_running, may_begin, needs_no_trace, may_stand, is_collect, leave_no_run, is_right_after_collecting, may_be_full, may_reply, stands_for_waiting, is_waited_for, keeps_promise, owes_no_call, may_follow, all_may_stand, reply_again, item_again, again, IsFoundLegal}
use Rattle.lxr_model_decide.proofs.SetLemmas.{reachable_right}
use Rattle.lxr_model_decide.proofs.PartLemmas.{reports_right, le_from_test}

-- ---- numbers

pub lt_from_test : (a b : ℕ) → IsTrue (nat_lt a b) → a < b
lt_from_test a b h = grind arith

pub eq_from_test : (a b : ℕ) → IsTrue (nat_eq a b) → a ≡ b
eq_from_test a b h = grind arith

ne_from_test : (a b : ℕ) → IsTrue (not (nat_eq a b)) → a ≢ b
ne_from_test a b h e = grind arith

pub test_from_eq : (a b : ℕ) → a ≡ b → IsTrue (nat_eq a b)
test_from_eq a b h = grind arith

-- ---- where a kind may stand

pub must_right : (terms : Terms) (h : List Item) → IsTrue (must_collect terms h) → MustCollect terms h
must_right terms h e = elim (or_cases (collect_called h) (nat_eq (ends h) terms.threads) e) [
  | inl k ↦ inl k
  | inr k ↦ inr (eq_from_test (ends h) terms.threads k)
]

must_not : (terms : Terms) (h : List Item) → IsTrue (not (must_collect terms h)) → MustCollect terms h → ⊥
must_not terms h e (inl k) = not_both (must_collect terms h) (or_left (collect_called h) (nat_eq (ends h) terms.threads) k) (not-true (must_collect terms h) e)
must_not terms h e (inr k) = not_both (must_collect terms h) (or_right (collect_called h) (nat_eq (ends h) terms.threads) (test_from_eq (ends h) terms.threads k))
    (not-true (must_collect terms h) e)

only_news : (h : List Item) → IsTrue (only_news_since_pause h) → OnlyNewsSincePause h
only_news [] e = absurd (cc)
only_news (Renew ns ∷ h) e = absurd (cc)
only_news (Pause report ∷ h) e = tt
only_news (Call t (op.New dest shape) r ∷ h) e = only_news h e
only_news (Call t _ r ∷ h) e = absurd (cc)

collect_right : (terms : Terms) (h : List Item) → IsTrue (may_collect terms h) → MayCollect terms h
collect_right terms h e = elim (or_cases (must_collect terms h) (only_news_since_pause h) e) [
  | inl k ↦ inl (must_right terms h k)
  | inr k ↦ inr (only_news h k)
]

running_right : (j : ℕ) (trace : Option Trace) → IsTrue (is_running j trace) → IsRunning j trace
running_right j None e = absurd (cc)
running_right j (Some trace) e = eq_from_test trace.began j e

running_some : (j : ℕ) (trace : Option Trace) → IsTrue (is_running j trace) → trace ≢ None
running_some j trace e k = not_both (is_running j trace) e (ap (is_running j) k)

begin_right : (terms : Terms) (k : ℕ) (trace : Option Trace) → IsTrue (may_begin terms k trace) → (trace ≡ None) × MayBegin terms k
begin_right terms k None e = elim (or_cases (nat_eq terms.trace 0) (nat_eq (k % terms.trace) 0) e) [
  | inl free ↦ (refl, inl (eq_from_test terms.trace 0 free))
  | inr due ↦ (refl, inr (eq_from_test (k % terms.trace) 0 due))
]
begin_right terms k (Some trace) e = absurd (cc)

no_trace_right : (terms : Terms) (k : ℕ) (trace : Option Trace) → IsTrue (needs_no_trace terms k trace) → NeedsNoTrace terms k trace
no_trace_right terms k None e = elim (or_cases (nat_eq terms.trace 0) (not (nat_eq (k % terms.trace) 0)) e) [
  | inl free ↦ inl (eq_from_test terms.trace 0 free)
  | inr apart ↦ inr (ne_from_test (k % terms.trace) 0 apart)
]
no_trace_right terms k (Some trace) e = lt_from_test k (trace.began + terms.within) e

pub stand_right : (terms : Terms) (h : List Item) (m : Moment) (k : ℕ) (i : Kind) → IsTrue (may_stand terms h m.trace k i) → MayStand terms h m k i × CanBe m i
stand_right terms h m k kind.Collect e = (collect_right terms h e, tt)
stand_right terms h m k (kind.End j) e =
    let a = and_parts (not (must_collect terms h)) (is_running j m.trace) e in
    ((must_not terms h a.0, running_right j m.trace a.1), running_some j m.trace a.1)
stand_right terms h m k kind.Begin e =
    let a = and_parts (not (must_collect terms h)) (may_begin terms k m.trace) e in
    let b = begin_right terms k m.trace a.1 in
    ((must_not terms h a.0, b.0, b.1), tt)
stand_right terms h m k kind.Plain e =
    let a = and_parts (not (must_collect terms h)) (needs_no_trace terms k m.trace) e in
    ((must_not terms h a.0, no_trace_right terms k m.trace a.1), tt)

-- ---- calls

pub collect_kind : (k : Kind) → IsTrue (is_collect k) → k ≡ kind.Collect
collect_kind kind.Collect e = refl
collect_kind kind.Plain e = absurd (cc)
collect_kind kind.Begin e = absurd (cc)
collect_kind (kind.End j) e = absurd (cc)

right_after : (h : List Item) → IsTrue (is_right_after_collecting h) → IsRightAfterCollecting h
right_after [] e = absurd (cc)
right_after (Renew ns ∷ h) e = absurd (cc)
right_after (Pause report ∷ h) e = collect_kind report.kind e
right_after (Call t (op.New dest shape) reply.Full ∷ h) e = right_after h e
right_after (Call t _ _ ∷ h) e = absurd (cc)

pub others_reachable : (s : State) → IsSetOf (without (reachable_names s) (world_name ∷ [])) (λ o. Reachable s o × (o ≢ world_name))
others_reachable s = record {
  in_order = in_order-without (reachable_names s) (world_name ∷ []) (reachable_right s).in_order;
  members = λ o. (
    λ h. let w = without_parts (reachable_names s) (world_name ∷ []) o h in
        (((reachable_right s).members o).0 w.0, λ e. not_both (has (world_name ∷ []) o) (ap (has (world_name ∷ [])) e) w.1),
    λ h. in_without (reachable_names s) (world_name ∷ []) o (((reachable_right s).members o).1 h.0) (λ k. h.1 (has_one world_name o k)),
  );
}

pub run_right : (g : Graph) (ns : List Name) (blocks k : ℕ) → IsTrue (leave_no_run g ns blocks k) → LeaveNoRun g ns blocks k
run_right g ns blocks k e = le_from_test (slots_in k (blocks - 1)) (slots_taken g k ns) e

pub full_right : (terms : Terms) (h : List Item) (shape : Shape) → IsTrue (may_be_full terms h (moment terms.threads h) shape) → MayBeFull terms h shape
full_right terms h shape e =
    let s = (moment terms.threads h).state in
    let ns = without (reachable_names s) (world_name ∷ []) in
    let a = and_parts (is_right_after_collecting h) (leave_no_run s.graph ns terms.blocks (line_count shape)) e in
    (right_after h a.0, ns, others_reachable s, run_right s.graph ns terms.blocks (line_count shape) a.1)

replies_right : (terms : Terms) (h : List Item) (t : ℕ) (o : Op) (r : Reply) → IsTrue (may_reply terms h (moment terms.threads h) o r)
    → reply_again (moment terms.threads h) t o r ≡ r → Replies terms h t o r
replies_right terms h t (op.New dest shape) reply.Full e same = full_right terms h shape e
replies_right terms h t (op.New dest shape) r e same = same
replies_right terms h t o r e same = same

-- ---- a `new` that was waited for

waited_right : (terms : Terms) (h : List Item) (x : Item) → IsTrue (is_waited_for terms (moment terms.threads h) x) → IsWaitedFor terms h x
waited_right terms h (Call t (op.New dest shape) r) e =
    let m = moment terms.threads h in
    run_right m.state.graph (without (union m.made m.unreclaimed) (world_name ∷ [])) (terms.blocks - terms.evacuate) (line_count shape) e
waited_right terms h (Call t _ r) e = absurd (cc)
waited_right terms h (Pause report) e = absurd (cc)
waited_right terms h (Renew ns) e = absurd (cc)

not_waiting : (terms : Terms) (h : List Item) (report : PauseReport) → IsTrue (not (stands_for_waiting terms h report)) → StandsForWaiting terms h report → ⊥
not_waiting terms h report e w = not_both (stands_for_waiting terms h report)
    (and_from (is_collect report.kind) (not (must_collect terms h)) (ap is_collect w.0)
    (not_from_false (must_collect terms h) (false_from_ne_true (must_collect terms h) (λ k. w.1 (must_right terms h k)))))
    (not-true (stands_for_waiting terms h report) e)

pub promise_right : (terms : Terms) (h : List Item) (x : Item) → IsTrue (keeps_promise terms h x) → KeepsPromise terms h x
promise_right terms [] x e = tt
promise_right terms (Renew ns ∷ h) x e = tt
promise_right terms (Call t o r ∷ h) x e = tt
promise_right terms (Pause report ∷ h) x e = λ w. elim (or_cases (not (stands_for_waiting terms h report)) (is_waited_for terms (moment terms.threads h) x) e) [
  | inl k ↦ absurd (not_waiting terms h report k w)
  | inr k ↦ waited_right terms h x k
]

owes_right : (terms : Terms) (h : List Item) → IsTrue (owes_no_call terms h) → OwesNoCall terms h
owes_right terms [] e = tt
owes_right terms (Renew ns ∷ h) e = tt
owes_right terms (Call t o r ∷ h) e = tt
owes_right terms (Pause report ∷ h) e = not_waiting terms h report e

-- ---- histories

same_reply : {t u : ℕ} {o p : Op} {r q : Reply} → Call t o r ≡ Call u p q → r ≡ q
same_reply e = cc

same_report : {a b : PauseReport} → Pause a ≡ Pause b → a ≡ b
same_report e = cc

same_item : {x y : Item} {g h : List Item} → x ∷ g ≡ y ∷ h → x ≡ y
same_item e = cc

same_rest : {x y : Item} {g h : List Item} → x ∷ g ≡ y ∷ h → g ≡ h
same_rest e = cc

pub follow_right : (terms : Terms) (h : List Item) (x : Item) → IsTrue (may_follow terms h (moment terms.threads h) x)
    → item_again (moment terms.threads h) x ≡ x → MayFollow terms h x
follow_right terms h (Call t o r) e same =
    let a = and_parts (nat_le 1 t && nat_le t terms.threads) (is_formed_for terms.registers o && may_reply terms h (moment terms.threads h) o r) e in
    let b = and_parts (nat_le 1 t) (nat_le t terms.threads) a.0 in
    let c = and_parts (is_formed_for terms.registers o) (may_reply terms h (moment terms.threads h) o r) a.1 in
    record {
      thread = (le_from_test 1 t b.0, le_from_test t terms.threads b.1);
      operation = (formed_for terms.registers o).0 c.0;
      reply = replies_right terms h t o r c.1 (same_reply same);
    }
follow_right terms h (Renew ns) e same = absurd (cc)
follow_right terms h (Pause report) e same =
    let a = stand_right terms h (moment terms.threads h) report.number report.kind e in
    record {
      stands = a.0;
      reports = subst (IsReport (moment terms.threads h)) (same_report same) (reports_right (moment terms.threads h) report.kind a.1);
    }

pub legal_so_far : (terms : Terms) (h : List Item) → IsTrue (all_may_stand terms h) → again terms h ≡ h → IsLegalSoFar terms h
legal_so_far terms [] e same = tt
legal_so_far terms (x ∷ h) e same =
    let a = and_parts (all_may_stand terms h) (keeps_promise terms h x && may_follow terms h (moment terms.threads h) x) e in
    let b = and_parts (keeps_promise terms h x) (may_follow terms h (moment terms.threads h) x) a.1 in
    (legal_so_far terms h a.0 (same_rest same), promise_right terms h x b.0, follow_right terms h x b.1 (same_item same))

pub legal_by_tests : (terms : Terms) (h : List Item) → IsFoundLegal terms h → IsLegal terms h
legal_by_tests terms h found = (legal_so_far terms h found.stand found.same, owes_right terms h found.owes)
