-- What a trial of an item tells: where the tests hold the item passes, and an item that passes meets all of them.
use Rattle.std.proofs.Common.{◌≡◌, ℕ, suc, ◌+◌, ◌<◌, ◌≤◌, inl, inr, ◌⊎◌, Bool, true, false, IsTrue, List, ◌∷◌, Some, None, length, refl, sym, ap, subst, ◌∙◌, arith, nat_eq}
use Rattle.std.specs.Prelude.{◌↔◌, Option, slice_get}
use Rattle.std.proofs.lemmas.Bool.{cond-true, eq-eqb, true≢false}
use Rattle.std.specs.Option.{option_map}
use Rattle.std.proofs.lemmas.Option.{none-some, same_Some, slice_get_within}
use Rattle.lxr_graph.specs.declared.Op.{Op}
use Rattle.lxr_graph.specs.declared.Reply.{Reply}
use Rattle.lxr_graph.specs.declared.report.Kind.{Kind}
use Rattle.lxr_graph.specs.declared.report.Kind.TheVariants as kind
use Rattle.lxr_graph.specs.Step.{IsFormedFor}
use Rattle.lxr_graph.specs.History.{PauseReport, Item, Call, Pause, Renew}
use Rattle.lxr_text_script.specs.Lines.{Text}
use Rattle.lxr_text_print.specs.Reports.{report_text}
use Rattle.lxr_graph.specs.declared.Item as ordered
use Rattle.lxr_graph.specs.declared.Item.TheVariants as ordered_as
use Rattle.lxr_model.specs.Terms.{Terms}
use Rattle.lxr_model.specs.Moments.{Trace, Moment, moment}
use Rattle.lxr_model.specs.Kinds.{IsRunning, MayStand}
use Rattle.lxr_model.specs.Legal.{Replies, IsCall}
use Rattle.lxr_model.specs.Belongs.{next_operation, has_asked, calls_since_pause, EndsWithPause}
use Rattle.lxr_model_laws.proofs.ReportLemmas.{report_determined}
use Rattle.lxr_model_decide.specs.Reports.{report_at, CanBe}
use Rattle.lxr_model_decide.proofs.PartLemmas.{reports_right}
use Rattle.lxr_judge_report.specs.LastPauses.{running_of, began_of}
use Rattle.lxr_judge.specs.declared.judging.Judging.{Judging}
use Rattle.lxr_judge.specs.Evidence.{Evidence, report_count, report_lines}
use Rattle.lxr_judge.specs.Taking.{pauses_in, text_of, IsPrinted, next_line, TakesBy, TakesAll}
use Rattle.lxr_judge.specs.Passing.{Passes, AllPass}
use Rattle.lxr_judge.specs.Standing.{IsReadable, IsJudging, Keeps, MayPause, Tried, TriedCall, TriedEnds, TriedPause}
use Rattle.lxr_judge.specs.Verdicts.{IsGood, FailsFirst, LacksEnd}
use Rattle.lxr_judge.proofs.GoodLemmas.{passes_well}
use Rattle.lxr_judge.proofs.OneLemmas.{call_is, pause_is}

-- ---- pauses

-- what takes the place of a pause, and says what the next report says
pause_taken : (e : Evidence) (h : List Item) (place : Option ordered.Item) (report : PauseReport) → place ≡ Some ordered_as.Pause → pauses_in h < report_count e
    → report_text e.counts report ≡ text_of (report_lines e (pauses_in h)) → TakesBy e h place (Pause report)
pause_taken e h place report is some text = rw is (some, text)

running_some : (j : ℕ) (trace : Option Trace) → IsRunning j trace → trace ≡ None → ⊥
running_some j None running none = running
running_some j (Some t) running none = none-some t (sym none)

kind_can : (terms : Terms) (h : List Item) (m : Moment) (n : ℕ) (k : Kind) → MayStand terms h m n k → CanBe m k
kind_can terms h m n kind.Plain stands = tt
kind_can terms h m n kind.Begin stands = tt
kind_can terms h m n (kind.End j) stands = running_some j m.trace stands.1
kind_can terms h m n kind.Collect stands = tt

pub can_be : (e : Evidence) (h : List Item) (k : Kind) → MayPause e h k → CanBe (moment e.terms.threads h) k
can_be e h k may = let m = moment e.terms.threads h in kind_can e.terms h m (m.number + 1) k may.0

-- where all tests hold, the computed report passes
pub pause_passes : (e : Evidence) (h : List Item) (k : Kind) (report : PauseReport) (text : Text) → slice_get e.order (length h) ≡ Some ordered_as.Pause → pauses_in h < report_count e → text ≡ text_of (report_lines e (pauses_in h))
    → MayPause e h k → report ≡ report_at (moment e.terms.threads h) k → report_text e.counts report ≡ text → Passes e h (Pause report)
pause_passes e h k report text place some is may report_is printed =
    let m = moment e.terms.threads h in
    let right = reports_right m k (can_be e h k may) in
    let P : PauseReport → Type 0 = λ r. report_text e.counts r ≡ text → Passes e h (Pause r) in
    subst P (sym report_is) (λ same. record {
      takes = pause_taken e h (slice_get e.order (length h)) (report_at m k) place some (same ∙ is);
      legal = record { stands = may.0; reports = right };
      belongs = (λ waits. may.2 (waits.0, waits.1), may.1);
    }) printed

-- a report of a kind that passes is the computed one, and all tests hold
pub record Passed (e : Evidence) (h : List Item) (k : Kind) (report : PauseReport) : Type 0 where
  pub may : MayPause e h k
  pub is_at : report ≡ report_at (moment e.terms.threads h) k
  pub number : report.number ≡ (moment e.terms.threads h).number + 1
  pub text : report_text e.counts report ≡ text_of (report_lines e (pauses_in h))

pub pause_passed : (e : Evidence) (h : List Item) (k : Kind) (report : PauseReport) → report.kind ≡ k → Passes e h (Pause report) → Passed e h k report
pause_passed e h k report is passes =
    let m = moment e.terms.threads h in
    let number = passes.legal.reports.1.number in
    let stands : MayStand e.terms h m (m.number + 1) k = subst (λ (i : Kind). MayStand e.terms h m (m.number + 1) i) is (subst (λ (n : ℕ). MayStand e.terms h m n report.kind) number passes.legal.stands) in
    let may : MayPause e h k = (stands, passes.belongs.1, λ waits. passes.belongs.0 (is ∙ waits.0, waits.1)) in
    record {
      may = may;
      is_at = report_determined m report (report_at m k) passes.legal.reports (reports_right m k (can_be e h k may)) is;
      number = number;
      text = (pause_is e h (slice_get e.order (length h)) report passes.takes).1;
    }

-- ---- calls

-- where all tests hold, a call passes
pub call_passes : (e : Evidence) (h : List Item) (t : ℕ) (o : Op) (r : Reply) → slice_get e.order (length h) ≡ Some (ordered_as.Call t) → 1 ≤ t → t ≤ e.terms.threads → next_operation e.script t h ≡ Some o → IsFormedFor e.terms.registers o
    → Replies e.terms h t o r → IsPrinted o r (next_line e t h) → has_asked t h ≡ false → calls_since_pause t h ≤ e.terms.every → Passes e h (Call t o r)
call_passes e h t o r place low high next formed replies printed asked since = record {
  takes = rw place (refl, next, printed);
  legal = record { thread = (low, high); operation = formed; reply = replies };
  belongs = (asked, let more = cond-true (nat_eq t t) (suc (calls_since_pause t h)) (calls_since_pause t h) (eq-eqb t t refl) in omega (arith, more, since));
}

-- a call that passes in the place of thread t is of that thread, and all tests hold
pub record CallPassed (e : Evidence) (h : List Item) (t : ℕ) : Type 0 where
  pub operation : Op
  pub reply : Reply
  pub next : next_operation e.script t h ≡ Some operation
  pub call : IsCall e.terms h t operation reply
  pub printed : IsPrinted operation reply (next_line e t h)
  pub asked : has_asked t h ≡ false
  pub since : calls_since_pause t h ≤ e.terms.every

same_place : (place : Option ordered.Item) (t u : ℕ) → place ≡ Some (ordered_as.Call t) → place ≡ Some (ordered_as.Call u) → u ≡ t
same_place place t u a b = cc

no_pause : {P : Type 0} (place : Option ordered.Item) (t : ℕ) → place ≡ Some (ordered_as.Call t) → place ≡ Some ordered_as.Pause → P
no_pause place t a b = absurd (cc)

own_passed : (e : Evidence) (h : List Item) (t : ℕ) (o : Op) (r : Reply) → Passes e h (Call t o r) → CallPassed e h t
own_passed e h t o r passes =
    let is = call_is e h (slice_get e.order (length h)) t o r passes.takes in
    let more = cond-true (nat_eq t t) (suc (calls_since_pause t h)) (calls_since_pause t h) (eq-eqb t t refl) in
    let points = passes.belongs.1 in
    record {
      operation = o;
      reply = r;
      next = is.1;
      call = passes.legal;
      printed = is.2;
      asked = passes.belongs.0;
      since = omega (arith, more, points);
    }

pub call_passed : (e : Evidence) (h : List Item) (t : ℕ) (x : Item) → slice_get e.order (length h) ≡ Some (ordered_as.Call t) → Passes e h x → CallPassed e h t
call_passed e h t (Renew ns) place passes = absurd passes.belongs
call_passed e h t (Pause report) place passes = no_pause (slice_get e.order (length h)) t place (pause_is e h (slice_get e.order (length h)) report passes.takes).0
call_passed e h t (Call u o r) place passes =
    let same = same_place (slice_get e.order (length h)) t u place (call_is e h (slice_get e.order (length h)) u o r passes.takes).0 in
    own_passed e h t o r (subst (λ (v : ℕ). Passes e h (Call v o r)) same passes)

-- what passes in the place of a pause is a pause
pub pause_in_place : (e : Evidence) (h : List Item) (x : Item) → slice_get e.order (length h) ≡ Some ordered_as.Pause → Passes e h x → (report : PauseReport) × (x ≡ Pause report)
pause_in_place e h (Renew ns) place passes = absurd passes.belongs
pause_in_place e h (Pause report) place passes = (report, refl)
pause_in_place e h (Call t o r) place passes = no_pause (slice_get e.order (length h)) t (call_is e h (slice_get e.order (length h)) t o r passes.takes).0 place

-- ---- pauses that end a trace

running_is : (trace : Option Trace) (j began : ℕ) → IsRunning j trace → Some began ≡ option_map began_of (option_map running_of trace) → j ≡ began
running_is None j began running is = absurd running
running_is (Some t) j began running is = sym running ∙ sym (same_Some began t.began is)

none_runs : {P : Type 0} (trace : Option Trace) (j : ℕ) → IsRunning j trace → None ≡ option_map began_of (option_map running_of trace) → P
none_runs None j running is = absurd running
none_runs (Some t) j running is = absurd (none-some t.began is)

end_runs : (e : Evidence) (h : List Item) (report : PauseReport) (j : ℕ) → report.kind ≡ kind.End j → Passes e h (Pause report) → IsRunning j (moment e.terms.threads h).trace
end_runs e h report j is passes = let m = moment e.terms.threads h in (subst (λ (k : Kind). MayStand e.terms h m report.number k) is passes.legal.stands).1

-- where no trace runs, no pause that ends one passes
pub ends_none : (e : Evidence) (h : List Item) (j k : Judging) → Keeps e j h → None ≡ option_map began_of j.position.last.trace → TriedEnds e h k false
ends_none e h j k keeps is = λ report n kind_is passes.
    none_runs (moment e.terms.threads h).trace n (end_runs e h report n kind_is passes) (is ∙ ap (option_map began_of) keeps.position.last.trace)

-- the pause that ends the trace that runs is the one to try
pub ends_tried : (e : Evidence) (h : List Item) (j k : Judging) (began : ℕ) (taken : Bool) → Keeps e j h → Some began ≡ option_map began_of j.position.last.trace → TriedPause e h (kind.End began) k taken → TriedEnds e h k taken
ends_tried e h j k began true keeps is tried = tried
ends_tried e h j k began false keeps is tried = λ report n kind_is passes.
    let same = running_is (moment e.terms.threads h).trace n began (end_runs e h report n kind_is passes) (is ∙ ap (option_map began_of) keeps.position.last.trace) in
    tried report (kind_is ∙ ap (λ (x : ℕ). kind.End x) same) passes

kinds : (k : Kind) → (k ≡ kind.Plain) ⊎ ((k ≡ kind.Begin) ⊎ ((k ≡ kind.Collect) ⊎ ((n : ℕ) × (k ≡ kind.End n))))
kinds kind.Plain = inl refl
kinds kind.Begin = inr (inl refl)
kinds kind.Collect = inr (inr (inl refl))
kinds (kind.End n) = inr (inr (inr (n, refl)))

-- no pause passes of which no kind does
pub no_pause_passes : (e : Evidence) (h : List Item) (x : Item) → slice_get e.order (length h) ≡ Some ordered_as.Pause → ((report : PauseReport) → report.kind ≡ kind.Plain → Passes e h (Pause report) → ⊥)
    → ((report : PauseReport) → report.kind ≡ kind.Begin → Passes e h (Pause report) → ⊥) → ((report : PauseReport) → report.kind ≡ kind.Collect → Passes e h (Pause report) → ⊥)
    → ((report : PauseReport) (n : ℕ) → report.kind ≡ kind.End n → Passes e h (Pause report) → ⊥) → Passes e h x → ⊥
no_pause_passes e h x place plain begin collect end passes =
    let found = pause_in_place e h x place passes in
    let own = subst (Passes e h) found.1 passes in
    elim (kinds found.0.kind) [
      | inl is ↦ plain found.0 is own
      | inr (inl is) ↦ begin found.0 is own
      | inr (inr (inl is)) ↦ collect found.0 is own
      | inr (inr (inr is)) ↦ end found.0 is.0 is.1 own
    ]

-- ---- trials

-- a pause that passes finds a report
pub pause_finds : (e : Evidence) (h : List Item) (place : Option ordered.Item) (report : PauseReport) → TakesBy e h place (Pause report) → pauses_in h < report_count e
pause_finds e h None report takes = absurd takes
pause_finds e h (Some (ordered_as.Call t)) report takes = absurd takes
pause_finds e h (Some ordered_as.Pause) report takes = takes.0

-- without a report no pause passes
pub no_report : (e : Evidence) (h : List Item) (x : Item) (finds : Bool) → slice_get e.order (length h) ≡ Some ordered_as.Pause → finds ≡ false → (IsTrue finds ↔ (pauses_in h < report_count e)) → Passes e h x → ⊥
no_report e h x finds place out told passes =
    let found = pause_in_place e h x place passes in
    let own = subst (Passes e h) found.1 passes in
    true≢false (sym (told.1 (pause_finds e h (slice_get e.order (length h)) found.0 own.takes)) ∙ out)

pub pause_tried : (e : Evidence) (h : List Item) (k : Kind) (j : Judging) (b : Bool) → b ≡ true → TriedPause e h k j b → Tried e h j true
pause_tried e h k j true is tried = tried
pause_tried e h k j false is tried = absurd (true≢false (sym is))

pub pause_failed : (e : Evidence) (h : List Item) (k : Kind) (j : Judging) (b : Bool) → b ≡ false → TriedPause e h k j b → (report : PauseReport) → report.kind ≡ k → Passes e h (Pause report) → ⊥
pause_failed e h k j true is tried = absurd (true≢false is)
pause_failed e h k j false is tried = tried

-- the last trial of a pause tells of all
pub ends_all : (e : Evidence) (h : List Item) (j : Judging) (b : Bool) → slice_get e.order (length h) ≡ Some ordered_as.Pause → ((report : PauseReport) → report.kind ≡ kind.Plain → Passes e h (Pause report) → ⊥)
    → ((report : PauseReport) → report.kind ≡ kind.Begin → Passes e h (Pause report) → ⊥) → ((report : PauseReport) → report.kind ≡ kind.Collect → Passes e h (Pause report) → ⊥) → TriedEnds e h j b → Tried e h j b
ends_all e h j true place plain begin collect tried = tried
ends_all e h j false place plain begin collect tried = λ x passes. no_pause_passes e h x place plain begin collect tried passes

-- an operation has a reply by one line, told in other words
pub own_printed : (o : Op) (a b : Reply) (l m : Option Text) → a ≡ b → l ≡ m → IsPrinted o a l → IsPrinted o b m
own_printed o a b l m reply line printed = subst (λ (z : Option Text). IsPrinted o b z) line (subst (λ (z : Reply). IsPrinted o z l) reply printed)

same_next : (next : Option Op) (o p : Op) → next ≡ Some o → next ≡ Some p → o ≡ p
same_next next o p a b = cc

-- the trial of an operation tells of the item
pub call_tried : (e : Evidence) (h : List Item) (t : ℕ) (o : Op) (j : Judging) (b : Bool) → slice_get e.order (length h) ≡ Some (ordered_as.Call t) → (1 ≤ t) × (t ≤ e.terms.threads) → next_operation e.script t h ≡ Some o → IsFormedFor e.terms.registers o
    → (has_asked t h ≡ false) × (calls_since_pause t h ≤ e.terms.every) → TriedCall e h t o j b → Tried e h j b
call_tried e h t o j true place thread next formed points tried =
    (Call t o tried.0, call_passes e h t o tried.0 place thread.0 thread.1 next formed tried.1 tried.2 points.0 points.1, tried.3)
call_tried e h t o j false place thread next formed points tried = λ x passes.
    let q = call_passed e h t x place passes in
    let same = same_next (next_operation e.script t h) o q.operation next q.next in
    tried q.reply (subst (λ (p : Op). Replies e.terms h t p q.reply) (sym same) q.call.reply) (subst (λ (p : Op). IsPrinted p q.reply (next_line e t h)) (sym same) q.printed)

pub no_next : (e : Evidence) (h : List Item) (t : ℕ) (x : Item) → slice_get e.order (length h) ≡ Some (ordered_as.Call t) → next_operation e.script t h ≡ None → Passes e h x → ⊥
no_next e h t x place none passes = let q = call_passed e h t x place passes in none-some q.operation (sym none ∙ q.next)

pub no_thread : (e : Evidence) (h : List Item) (t : ℕ) (x : Item) (has : Bool) → slice_get e.order (length h) ≡ Some (ordered_as.Call t) → has ≡ false → (IsTrue has ↔ ((1 ≤ t) × (t ≤ e.terms.threads))) → Passes e h x → ⊥
no_thread e h t x has place out told passes = let q = call_passed e h t x place passes in true≢false (sym (told.1 q.call.thread) ∙ out)

pub no_turn : (e : Evidence) (h : List Item) (t : ℕ) (x : Item) (goes : Bool) → slice_get e.order (length h) ≡ Some (ordered_as.Call t) → goes ≡ false → (IsTrue goes ↔ ((has_asked t h ≡ false) × (calls_since_pause t h ≤ e.terms.every))) → Passes e h x → ⊥
no_turn e h t x goes place out told passes = let q = call_passed e h t x place passes in true≢false (sym (told.1 (q.asked, q.since)) ∙ out)

-- ---- the whole order

-- the judge stands behind the first items, all of which passed
pub record PassedTo (e : Evidence) (j : Judging) (n : ℕ) : Type 0 where
  pub history : List Item
  pub keeps : Keeps e j history
  pub pass : AllPass e history
  pub count : length history ≡ n

pub passed_judging : (e : Evidence) (j : Judging) (n : ℕ) → IsReadable e → n < length e.order → PassedTo e j n → IsJudging e j
passed_judging e j n readable lt passed = record {
  readable = readable;
  history = passed.history;
  keeps = passed.keeps;
  pass = passed.pass;
  left = let a = passed.count in omega (arith, a, lt);
}

passed_tried : (e : Evidence) (j k : Judging) (n : ℕ) (b : Bool) → b ≡ true → (passed : PassedTo e j n) → Tried e passed.history k b → PassedTo e k (n + 1)
passed_tried e j k n false is passed tried = absurd (true≢false (sym is))
passed_tried e j k n true is passed tried = record {
  history = tried.0 ∷ passed.history;
  keeps = tried.2;
  pass = (passed.pass, tried.1);
  count = let a = passed.count in omega (arith, a);
}

place_of : (e : Evidence) (j : Judging) (n : ℕ) (x : ordered.Item) → slice_get e.order n ≡ Some x → (passed : PassedTo e j n) → slice_get e.order (length passed.history) ≡ Some x
place_of e j n x at passed = subst (λ (k : ℕ). slice_get e.order k ≡ Some x) (sym passed.count) at

pub passed_more : (e : Evidence) (j k : Judging) (n : ℕ) (x : ordered.Item) (b : Bool) → b ≡ true → slice_get e.order n ≡ Some x → PassedTo e j n
    → ((h : List Item) → Keeps e j h → slice_get e.order (length h) ≡ Some x → Tried e h k b) → PassedTo e k (n + 1)
passed_more e j k n x b is at passed tries = passed_tried e j k n b is passed (tries passed.history passed.keeps (place_of e j n x at passed))

failed_tried : (e : Evidence) (j k : Judging) (n : ℕ) (b : Bool) → b ≡ false → n < length e.order → (passed : PassedTo e j n) → Tried e passed.history k b → FailsFirst e (n + 1)
failed_tried e j k n true is lt passed tried = absurd (true≢false is)
failed_tried e j k n false is lt passed tried = record {
  before = passed.history;
  pass = passed.pass;
  place = let a = passed.count in omega (arith, a);
  is_item = omega (arith, lt);
  fails = tried;
}

pub fails_here : (e : Evidence) (j k : Judging) (n : ℕ) (x : ordered.Item) (b : Bool) → b ≡ false → slice_get e.order n ≡ Some x → PassedTo e j n
    → ((h : List Item) → Keeps e j h → slice_get e.order (length h) ≡ Some x → Tried e h k b) → FailsFirst e (n + 1)
fails_here e j k n x b is at passed tries =
    failed_tried e j k n b is (slice_get_within e.order n x at) passed (tries passed.history passed.keeps (place_of e j n x at passed))

pub good_here : (e : Evidence) (j : Judging) (n : ℕ) (whole : Bool) → n ≡ length e.order → whole ≡ true → PassedTo e j n
    → ((h : List Item) → Keeps e j h → AllPass e h → IsTrue whole ↔ (TakesAll e h × EndsWithPause e.terms h)) → IsGood e
good_here e j n whole end is passed told =
    let both = (told passed.history passed.keeps passed.pass).0 is in
    passes_well e passed.history passed.pass (passed.count ∙ end) both.0 both.1

pub lacks_here : (e : Evidence) (j : Judging) (n : ℕ) (whole : Bool) → n ≡ length e.order → whole ≡ false → PassedTo e j n
    → ((h : List Item) → Keeps e j h → AllPass e h → IsTrue whole ↔ (TakesAll e h × EndsWithPause e.terms h)) → LacksEnd e (length e.order + 1)
lacks_here e j n whole end is passed told = record {
  history = passed.history;
  pass = passed.pass;
  order = passed.count ∙ end;
  place = omega arith;
  lacks = λ both. true≢false (sym ((told passed.history passed.keeps passed.pass).1 both) ∙ is);
}
