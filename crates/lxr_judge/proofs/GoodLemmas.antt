-- Where all items pass and nothing is left over, the history is legal and belongs: what each pause asks of the items behind it was found
-- in the order, and those items took it.
use Rattle.std.proofs.Common.{◌≡◌, ℕ, zero, suc, ◌<◌, ◌≤◌, inl, inr, Bool, IsTrue, List, [], ◌∷◌, Some, None, length, drop, refl, sym, subst, arith}
use Rattle.std.specs.Prelude.{Option, slice_get}
use Rattle.std.specs.List.{list_any}
use Rattle.std.proofs.lemmas.Bool.{or_left, or_right}
use Rattle.lxr_graph.specs.declared.Op.{Op}
use Rattle.lxr_graph.specs.declared.Op.TheVariants as op
use Rattle.lxr_graph.specs.declared.Reply.{Reply}
use Rattle.lxr_graph.specs.declared.Reply.TheVariants as reply
use Rattle.lxr_graph.specs.History.{PauseReport, Item, Call, Pause, Renew}
use Rattle.lxr_graph.specs.declared.Item as ordered
use Rattle.lxr_graph.specs.declared.Item.TheVariants as ordered_as
use Rattle.lxr_model.specs.Terms.{Terms}
use Rattle.lxr_model.specs.Legal.{IsWaitedFor, KeepsPromise, IsLegalSoFar, OwesNoCall}
use Rattle.lxr_model.specs.Belongs.{next_operation, AskedPausesComeFirst, TurnsAreShort, HasCause, PausesHaveCauses, EndsWithPause}
use Rattle.lxr_judge.specs.Evidence.{Evidence, report_count}
use Rattle.lxr_judge.specs.Taking.{pauses_in, IsNextCall, TakesBy, Takes, AreTaken, TakesAll}
use Rattle.lxr_judge.specs.Passing.{is_pause, IsPausedAgain, IsReason, IsWaiting, AllPass}
use Rattle.lxr_judge.specs.Verdicts.{IsGood}
use Rattle.lxr_judge.specs.Laws.{PassingIsGood}

-- ---- places of the order

-- an item that passes a test and doesn't stand before the first n stands behind them
pub stands_behind : (p : ordered.Item → Bool) (items : List ordered.Item) (i n : ℕ) (x : ordered.Item) → slice_get items i ≡ Some x → IsTrue (p x) → n ≤ i → IsTrue (list_any p (drop n items))
stands_behind p [] i n x at passes le = cc
stands_behind p (y ∷ items) zero zero x at passes le = let same : y ≡ x = cc in or_left (p y) (list_any p items) (subst (λ z. IsTrue (p z)) (sym same) passes)
stands_behind p (y ∷ items) (suc i) zero x at passes le = or_right (p y) (list_any p items) (stands_behind p items i zero x at passes (omega arith))
stands_behind p (y ∷ items) zero (suc n) x at passes le = absurd (omega (arith, le))
stands_behind p (y ∷ items) (suc i) (suc n) x at passes le = stands_behind p items i n x at passes (omega (arith, le))

-- a pause takes the place of a pause
pub pause_place : (e : Evidence) (h : List Item) (place : Option ordered.Item) (report : PauseReport) → TakesBy e h place (Pause report) → place ≡ Some ordered_as.Pause
pause_place e h None report takes = absurd takes
pause_place e h (Some (ordered_as.Call t)) report takes = absurd takes
pause_place e h (Some ordered_as.Pause) report takes = refl

-- what stands in the place of a call is the next call of its thread
next_call : (e : Evidence) (h : List Item) (place : Option ordered.Item) (t : ℕ) (x : Item) → place ≡ Some (ordered_as.Call t) → TakesBy e h place x → IsNextCall e h t x
next_call e h place t x is takes = rw is at takes

-- ---- taken

pub pass_taken : (e : Evidence) (h : List Item) → AllPass e h → AreTaken e h
pass_taken e [] all = tt
pass_taken e (x ∷ h) all = (pass_taken e h all.0, all.1.takes)

-- ---- legal

-- what is waited for doesn't depend on the thread or the reply of the `new`
pub waited_whoever : (terms : Terms) (h : List Item) (t u : ℕ) (o : Op) (r q : Reply) → IsWaitedFor terms h (Call t o r) → IsWaitedFor terms h (Call u o q)
waited_whoever terms h t u (op.New dest shape) r q waits = waits
waited_whoever terms h t u (op.Load dest base index) r q waits = absurd waits
waited_whoever terms h t u (op.Store base index source) r q waits = absurd waits
waited_whoever terms h t u (op.Put base index value) r q waits = absurd waits
waited_whoever terms h t u (op.Get base index) r q waits = absurd waits
waited_whoever terms h t u (op.Swap dest base index source) r q waits = absurd waits
waited_whoever terms h t u (op.Add base index value) r q waits = absurd waits
waited_whoever terms h t u (op.Move dest source) r q waits = absurd waits
waited_whoever terms h t u (op.Nil dest) r q waits = absurd waits
waited_whoever terms h t u (op.Same left right) r q waits = absurd waits
waited_whoever terms h t u op.Pause r q waits = absurd waits
waited_whoever terms h t u op.Collect r q waits = absurd waits
waited_whoever terms h t u op.End r q waits = absurd waits

same_operation : {o p : Op} (x : Option Op) → x ≡ Some o → x ≡ Some p → o ≡ p
same_operation x e f = cc

-- the item that takes the place of the `new` that a pause found waiting is the one that was waited for
waited_taken : (e : Evidence) (h : List Item) (report : PauseReport) (t : ℕ) (o : Op) (x : Item) → IsWaiting e h t o → IsNextCall e (Pause report ∷ h) t x → IsWaitedFor e.terms h x
waited_taken e h report t o (Renew ns) waits next = absurd next
waited_taken e h report t o (Pause other) waits next = absurd next
waited_taken e h report t o (Call u p r) waits next =
    let same : o ≡ p = same_operation (next_operation e.script t h) waits.operation next.1 in
    subst (λ (q : Op). IsWaitedFor e.terms h (Call u q r)) same (waited_whoever e.terms h t u o reply.Full r waits.waits)

promise_kept : (e : Evidence) (h : List Item) (x : Item) → AllPass e h → Takes e h x → KeepsPromise e.terms h x
promise_kept e [] x all takes = tt
promise_kept e (Renew ns ∷ h) x all takes = tt
promise_kept e (Call t o r ∷ h) x all takes = tt
promise_kept e (Pause report ∷ h) x all takes = λ waits.
    let found = all.1.belongs.0 waits in
    waited_taken e h report found.0 found.1 x found.2 (next_call e (Pause report ∷ h) (slice_get e.order (suc (length h))) found.0 x found.2.next takes)

pub legal_so_far : (e : Evidence) (h : List Item) → AllPass e h → IsLegalSoFar e.terms h
legal_so_far e [] all = tt
legal_so_far e (x ∷ h) all = (legal_so_far e h all.0, promise_kept e h x all.0 all.1.takes, all.1.legal)

-- behind all ends a pause must collect, so it waits for no `new`
owes_nothing : (terms : Terms) (h : List Item) → EndsWithPause terms h → OwesNoCall terms h
owes_nothing terms [] last = absurd last
owes_nothing terms (Renew ns ∷ h) last = absurd last
owes_nothing terms (Call t o r ∷ h) last = absurd last
owes_nothing terms (Pause report ∷ h) last = λ waits. waits.1 (inr last.0)

-- ---- belonging

asked_first : (e : Evidence) (h : List Item) → AllPass e h → AskedPausesComeFirst h
asked_first e [] all = tt
asked_first e (Renew ns ∷ h) all = tt
asked_first e (Pause report ∷ h) all = asked_first e h all.0
asked_first e (Call t o r ∷ h) all = (asked_first e h all.0, all.1.belongs.0)

turns_short : (e : Evidence) (h : List Item) → AllPass e h → TurnsAreShort e.terms h
turns_short e [] all = tt
turns_short e (Renew ns ∷ h) all = tt
turns_short e (Pause report ∷ h) all = turns_short e h all.0
turns_short e (Call t o r ∷ h) all = (turns_short e h all.0, all.1.belongs.1)

a_cause : (e : Evidence) (h : List Item) → (t : ℕ) × IsReason e h t → HasCause e.terms e.script h
a_cause e h found = inr (found.0, found.1.thread.0, found.1.thread.1, found.1.cause)

-- the pauses before a pause that finds a report have causes
causes_before : (e : Evidence) (i : ℕ) → slice_get e.order i ≡ Some ordered_as.Pause → (h : List Item) → AllPass e h → length h ≤ i → pauses_in h < report_count e → PausesHaveCauses e.terms e.script h
causes_before e i at [] all le lt = tt
causes_before e i at (Renew ns ∷ h) all le lt = tt
causes_before e i at (Call t o r ∷ h) all le lt = causes_before e i at h all.0 (omega (arith, le)) lt
causes_before e i at (Pause report ∷ h) all le lt =
    let again : IsPausedAgain e h = record { behind = stands_behind is_pause e.order i (suc (length h)) ordered_as.Pause at refl le; finds = lt } in
    (causes_before e i at h all.0 (omega (arith, le)) (omega (arith, lt)), a_cause e h (all.1.belongs.1 again))

pauses_caused : (e : Evidence) (h : List Item) → AllPass e h → pauses_in h ≡ report_count e → EndsWithPause e.terms h → PausesHaveCauses e.terms e.script h
pauses_caused e [] all count last = absurd last
pauses_caused e (Renew ns ∷ h) all count last = absurd last
pauses_caused e (Call t o r ∷ h) all count last = absurd last
pauses_caused e (Pause report ∷ h) all count last =
    let at = pause_place e h (slice_get e.order (length h)) report all.1.takes in
    (causes_before e (length h) at h all.0 (omega arith) (omega (arith, count)), inl last.0)

-- ---- all

pub passing_good : PassingIsGood
passing_good e h all order taken last = (
  record { taken = pass_taken e h all; order = order; all = taken },
  (legal_so_far e h all, owes_nothing e.terms h last),
  record {
    calls = taken.calls;
    asked = asked_first e h all;
    turns = turns_short e h all;
    causes = pauses_caused e h all taken.reports last;
    last = last;
  },
)

pub passes_well : (e : Evidence) (h : List Item) → AllPass e h → length h ≡ length e.order → TakesAll e h → EndsWithPause e.terms h → IsGood e
passes_well e h all order taken last =
    let good = passing_good e h all order taken last in
    record { history = h; is_its = good.0; legal = good.1; belongs = good.2 }
