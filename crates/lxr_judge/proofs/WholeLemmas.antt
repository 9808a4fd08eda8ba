-- The items of a history that is legal and belongs pass: what a pause asks of the items behind it is found in the order, since the history
-- has those items, and they took it.
use Rattle.std.proofs.Common.{◌≡◌, ℕ, zero, suc, ◌+◌, ◌-◌, ◌<◌, ◌≤◌, inl, inr, Bool, true, false, IsTrue, List, [], ◌∷◌, ◌++◌, Some, None, length, drop, refl, sym, ap, subst, ◌∙◌, arith, nat_eq}
use Rattle.std.specs.Prelude.{Option, slice_get, slice_index_or}
use Rattle.std.specs.List.{list_any}
use Rattle.std.proofs.lemmas.Bool.{or_right, cond-false, cases_Bool}
use Rattle.std.proofs.lemmas.List.{length_push}
use Rattle.std.proofs.lemmas.Option.{slice_get_within, none-some}
use Rattle.lxr_layout.specs.declared.Name.{Name}
use Rattle.lxr_graph.specs.declared.Op.{Op}
use Rattle.lxr_graph.specs.declared.Op.TheVariants as op
use Rattle.lxr_graph.specs.declared.Reply.{Reply}
use Rattle.lxr_graph.specs.declared.Reply.TheVariants as reply
use Rattle.lxr_graph.specs.History.{PauseReport, Item, Call, Pause, Renew, calls_of}
use Rattle.lxr_text_script.specs.Lines.{Text}
use Rattle.lxr_graph.specs.declared.Item as ordered
use Rattle.lxr_graph.specs.declared.Item.TheVariants as ordered_as
use Rattle.lxr_model.specs.Terms.{Terms}
use Rattle.lxr_model.proofs.UnrenewedLemmas.{IsUnrenewed}
use Rattle.lxr_model.specs.Kinds.{ends}
use Rattle.lxr_model.specs.Legal.{IsWaitedFor, IsLegalSoFar, IsLegal}
use Rattle.lxr_model.specs.Belongs.{operations_of, next_operation, is_new, writes_reference, AskedPausesComeFirst, TurnsAreShort, IsCauseOf, PausesHaveCauses, LastPauseWasEarly, EndsWithPause, Belongs}
use Rattle.lxr_judge.specs.Evidence.{Evidence, reply_lines}
use Rattle.lxr_judge.specs.Taking.{next_line, TakesBy, AreTaken, TakesAll, IsHistoryOf}
use Rattle.lxr_judge.specs.Passing.{is_call_of, is_pause, HasLine, HasNextCall, GoesOn, IsReason, IsWaiting, HasWaiting, HasReason, KeepsPoints, AllPass}
use Rattle.lxr_judge.specs.Laws.{GoodItemsPass}
use Rattle.lxr_judge.proofs.GoodLemmas.{pass_taken, stands_behind, waited_whoever}

-- the items above, oldest first, on top of a history
abbrev pub onto : List Item → List Item → List Item
onto [] h = h
onto (x ∷ above) h = onto above (x ∷ h)

-- ---- what holds of a history holds of what is below

taken_at : (e : Evidence) (above h : List Item) → AreTaken e (onto above h) → AreTaken e h
taken_at e [] h all = all
taken_at e (x ∷ above) h all = (taken_at e above (x ∷ h) all).0

-- nothing takes a renewal
takes_none : (e : Evidence) (h : List Item) (place : Option ordered.Item) (ns : List Name) → TakesBy e h place (Renew ns) → ⊥
takes_none e h None ns takes = takes
takes_none e h (Some (ordered_as.Call t)) ns takes = takes
takes_none e h (Some ordered_as.Pause) ns takes = takes

-- names are never renewed below either
unrenewed_below : (x : Item) (h : List Item) → IsUnrenewed (x ∷ h) → IsUnrenewed h
unrenewed_below (Renew ns) h none = absurd none
unrenewed_below (Pause report) h none = none
unrenewed_below (Call t o r) h none = none

pub unrenewed_at : (above h : List Item) → IsUnrenewed (onto above h) → IsUnrenewed h
unrenewed_at [] h none = none
unrenewed_at (x ∷ above) h none = unrenewed_below x h (unrenewed_at above (x ∷ h) none)

-- what is taken is no renewal
taken_unrenewed : (e : Evidence) (h : List Item) → AreTaken e h → IsUnrenewed h
taken_unrenewed e [] all = tt
taken_unrenewed e (Pause report ∷ h) all = taken_unrenewed e h all.0
taken_unrenewed e (Call t o r ∷ h) all = taken_unrenewed e h all.0
taken_unrenewed e (Renew ns ∷ h) all = takes_none e h (slice_get e.order (length h)) ns all.1

pub pass_unrenewed : (e : Evidence) (h : List Item) → AllPass e h → IsUnrenewed h
pass_unrenewed e h all = taken_unrenewed e h (pass_taken e h all)

pub legal_at : (terms : Terms) (above h : List Item) → IsLegalSoFar terms (onto above h) → IsLegalSoFar terms h
legal_at terms [] h all = all
legal_at terms (x ∷ above) h all = (legal_at terms above (x ∷ h) all).0

-- a call joins what was asked of the calls below it
asked_below : (x : Item) (h : List Item) → IsUnrenewed (x ∷ h) → AskedPausesComeFirst (x ∷ h) → AskedPausesComeFirst h
asked_below (Renew ns) h none all = absurd none
asked_below (Pause report) h none all = all
asked_below (Call t o r) h none all = all.0

asked_at : (above h : List Item) → IsUnrenewed (onto above h) → AskedPausesComeFirst (onto above h) → AskedPausesComeFirst h
asked_at [] h none all = all
asked_at (x ∷ above) h none all = asked_below x h (unrenewed_at above (x ∷ h) none) (asked_at above (x ∷ h) none all)

turns_below : (terms : Terms) (x : Item) (h : List Item) → IsUnrenewed (x ∷ h) → TurnsAreShort terms (x ∷ h) → TurnsAreShort terms h
turns_below terms (Renew ns) h none all = absurd none
turns_below terms (Pause report) h none all = all
turns_below terms (Call t o r) h none all = all.0

turns_at : (terms : Terms) (above h : List Item) → IsUnrenewed (onto above h) → TurnsAreShort terms (onto above h) → TurnsAreShort terms h
turns_at terms [] h none all = all
turns_at terms (x ∷ above) h none all = turns_below terms x h (unrenewed_at above (x ∷ h) none) (turns_at terms above (x ∷ h) none all)

causes_below : (e : Evidence) (x : Item) (h : List Item) → IsUnrenewed (x ∷ h) → PausesHaveCauses e.terms e.script (x ∷ h) → PausesHaveCauses e.terms e.script h
causes_below e (Renew ns) h none all = absurd none
causes_below e (Pause report) h none all = all.0
causes_below e (Call t o r) h none all = all

causes_at : (e : Evidence) (above h : List Item) → IsUnrenewed (onto above h) → PausesHaveCauses e.terms e.script (onto above h) → PausesHaveCauses e.terms e.script h
causes_at e [] h none all = all
causes_at e (x ∷ above) h none all = causes_below e x h (unrenewed_at above (x ∷ h) none) (causes_at e above (x ∷ h) none all)

-- ---- pauses but the last are early

-- while not all threads have ended, they hadn't at the last pause
ends_early : (terms : Terms) (h : List Item) → ends h < terms.threads → LastPauseWasEarly terms h
ends_early terms [] lt = tt
ends_early terms (Renew ns ∷ h) lt = tt
ends_early terms (Pause report ∷ h) lt = lt
ends_early terms (Call t op.End r ∷ h) lt = ends_early terms h (omega (arith, lt))
ends_early terms (Call t o r ∷ h) lt = ends_early terms h lt

early_below : (terms : Terms) (x : Item) (h : List Item) → IsUnrenewed (x ∷ h) → LastPauseWasEarly terms (x ∷ h) → LastPauseWasEarly terms h
early_below terms (Renew ns) h none early = absurd none
early_below terms (Pause report) h none lt = ends_early terms h lt
early_below terms (Call t o r) h none early = early

early_under : (terms : Terms) (x : Item) (h : List Item) → EndsWithPause terms (x ∷ h) → LastPauseWasEarly terms h
early_under terms (Renew ns) h last = absurd last
early_under terms (Pause report) h last = last.1
early_under terms (Call t o r) h last = absurd last

-- below the last item the last pause was early
end_early : (terms : Terms) (x : Item) (above h : List Item) → IsUnrenewed (onto above (x ∷ h)) → EndsWithPause terms (onto above (x ∷ h)) → LastPauseWasEarly terms h
end_early terms x [] h none last = early_under terms x h last
end_early terms x (y ∷ above) h none last = early_below terms x h (unrenewed_at (y ∷ above) (x ∷ h) none) (end_early terms y above (x ∷ h) none last)

-- ---- calls above

pub call_place : (e : Evidence) (h : List Item) (place : Option ordered.Item) (t : ℕ) (o : Op) (r : Reply) → TakesBy e h place (Call t o r)
    → (place ≡ Some (ordered_as.Call t)) × (next_operation e.script t h ≡ Some o)
call_place e h None t o r takes = absurd takes
call_place e h (Some (ordered_as.Call u)) t o r takes =
    let same : t ≡ u = takes.0 in
    (ap (λ (v : ℕ). Some (ordered_as.Call v)) (sym same), subst (λ (v : ℕ). next_operation e.script v h ≡ Some o) (sym same) takes.1)
call_place e h (Some ordered_as.Pause) t o r takes = absurd takes

behind_less : (p : ordered.Item → Bool) (items : List ordered.Item) (n : ℕ) → IsTrue (list_any p (drop (suc n) items)) → IsTrue (list_any p (drop n items))
behind_less p [] zero some = some
behind_less p [] (suc n) some = some
behind_less p (x ∷ items) zero some = or_right (p x) (list_any p items) some
behind_less p (x ∷ items) (suc n) some = behind_less p items n some

-- a thread that has more calls with the items above has one in the order from there on
called_above : (e : Evidence) (t : ℕ) (above h : List Item) → AreTaken e (onto above h) → length (calls_of t h) < length (calls_of t (onto above h)) → IsTrue (list_any (is_call_of t) (drop (length h) e.order))
called_above e t [] h all lt = absurd (omega (arith, lt))
called_above e t (Renew ns ∷ above) h all lt = absurd (unrenewed_at above (Renew ns ∷ h) (taken_unrenewed e (onto above (Renew ns ∷ h)) all))
called_above e t (Pause report ∷ above) h all lt = behind_less (is_call_of t) e.order (length h) (called_above e t above (Pause report ∷ h) all lt)
called_above e t (Call u o r ∷ above) h all lt = elim (cases_Bool (nat_eq t u)) [
  | inl same ↦ stands_behind (is_call_of t) e.order (length h) (length h) (ordered_as.Call u)
      (call_place e h (slice_get e.order (length h)) u o r (taken_at e above (Call u o r ∷ h) all).1).0 same (omega arith)
  | inr other ↦
      let less : length (calls_of t (Call u o r ∷ h)) < length (calls_of t (onto above (Call u o r ∷ h))) =
      subst (λ (os : List Op). length os < length (calls_of t (onto above (Call u o r ∷ h)))) (sym (cond-false (nat_eq t u) (calls_of t h ++ o ∷ []) (calls_of t h) other)) lt in
      behind_less (is_call_of t) e.order (length h) (called_above e t above (Call u o r ∷ h) all less)
]

-- ---- lines

any_line : (o : Op) (line : Text) → HasLine (Some o) (Some line)
any_line op.End line = tt
any_line o line = refl

some_line : (o : Op) (lines : List Text) (k : ℕ) → k < length lines → HasLine (Some o) (slice_get lines k)
some_line o [] k lt = absurd (omega (arith, lt))
some_line o (line ∷ lines) zero lt = any_line o line
some_line o (line ∷ lines) (suc k) lt = some_line o lines k (omega (arith, lt))

-- an operation, or behind the last the end, has its line where there are as many lines as operations
line_found : (os : List Op) (lines : List Text) (k : ℕ) (o : Op) → length lines ≡ length os → slice_get (os ++ op.End ∷ []) k ≡ Some o → HasLine (Some o) (slice_get lines k)
line_found [] [] zero o same at = subst (λ (p : Op). HasLine (Some p) None) (let is : op.End ≡ o = cc in is) tt
line_found [] [] (suc k) o same at = absurd (none-some o at)
line_found [] (line ∷ lines) k o same at = absurd (omega (arith, same))
line_found (p ∷ os) [] k o same at = absurd (omega (arith, same))
line_found (p ∷ os) (line ∷ lines) zero o same at = any_line o line
line_found (p ∷ os) (line ∷ lines) (suc k) o same at = line_found os lines k o (omega (arith, same)) at

has_call : (e : Evidence) (h g : List Item) (t : ℕ) (o : Op) → TakesAll e h → 1 ≤ t → t ≤ e.terms.threads → next_operation e.script t g ≡ Some o → HasNextCall e g t
has_call e h g t o all low high next =
    let os = slice_index_or e.script (t - 1) [] in
    let more : length (operations_of e.script t) ≡ length os + 1 = length_push os op.End in
    let same = all.replies t low high in
    let count : length (reply_lines e t) ≡ length os = omega (arith, more, same) in
    subst (λ (p : Option Op). HasLine p (next_line e t g)) (sym next) (line_found os (reply_lines e t) (length (calls_of t g)) o count next)

-- ---- reasons

-- a whole history of the case that is legal and belongs
record IsWhole (e : Evidence) (h : List Item) : Type 0 where
  is_its : IsHistoryOf e h
  legal : IsLegal e.terms h
  belongs : Belongs e.terms e.script h

goes_on : (e : Evidence) (above g : List Item) (report : PauseReport) (t : ℕ) (o : Op) → IsWhole e (onto above (Pause report ∷ g)) → 1 ≤ t → t ≤ e.terms.threads → next_operation e.script t g ≡ Some o → GoesOn e g t
goes_on e above g report t o whole low high next =
    let all = whole.is_its.all in
    let inside : length (calls_of t g) < length (operations_of e.script t) = slice_get_within (operations_of e.script t) (length (calls_of t g)) o next in
    let count : length (calls_of t (onto above (Pause report ∷ g))) ≡ length (operations_of e.script t) = ap length (all.calls t low high) in
    record {
      behind = called_above e t above (Pause report ∷ g) whole.is_its.taken (omega (arith, inside, count));
      finds = has_call e (onto above (Pause report ∷ g)) g t o all low high next;
    }

-- what a thread that waits does next is an operation
next_is : (o : Option Op) (p : Option Op → Bool) → p None ≡ false → IsTrue (p o) → (q : Op) × (o ≡ Some q)
next_is None p none some = let no : true ≡ false = sym some ∙ none in absurd (cc)
next_is (Some q) p none some = (q, refl)

reason_at : (e : Evidence) (above g : List Item) (report : PauseReport) → IsWhole e (onto above (Pause report ∷ g)) → (t : ℕ) → 1 ≤ t → t ≤ e.terms.threads → IsCauseOf e.terms e.script g t → IsReason e g t
reason_at e above g report whole t low high cause = record {
  thread = (low, high);
  cause = cause;
  shown = elim cause [
    | inl asked ↦ inl asked
    | inr (inl long) ↦ inr (inl long)
    | inr (inr (inl new)) ↦ let next = next_is (next_operation e.script t g) is_new refl new.0 in inr (inr (goes_on e above g report t next.0 whole low high next.1))
    | inr (inr (inr write)) ↦ let next = next_is (next_operation e.script t g) writes_reference refl write.0 in inr (inr (goes_on e above g report t next.0 whole low high next.1))
  ];
}

nothing_behind : (p : ordered.Item → Bool) (items : List ordered.Item) (n : ℕ) → n ≡ length items → IsTrue (list_any p (drop n items)) → ⊥
nothing_behind p [] zero all some = cc
nothing_behind p [] (suc n) all some = cc
nothing_behind p (x ∷ items) zero all some = omega (arith, all)
nothing_behind p (x ∷ items) (suc n) all some = nothing_behind p items n (omega (arith, all)) some

has_reason : (e : Evidence) (above g : List Item) (report : PauseReport) → IsWhole e (onto above (Pause report ∷ g)) → HasReason e g
has_reason e [] g report whole = λ again. absurd (nothing_behind is_pause e.order (suc (length g)) whole.is_its.order again.behind)
has_reason e (x ∷ above) g report whole = λ again.
    let none = taken_unrenewed e (onto above (x ∷ Pause report ∷ g)) whole.is_its.taken in
    let early : ends g < e.terms.threads = end_early e.terms x above (Pause report ∷ g) none whole.belongs.last in
    elim (causes_at e (x ∷ above) (Pause report ∷ g) none whole.belongs.causes).1 [
      | inl all ↦ absurd (omega (arith, early, all))
      | inr found ↦ (found.0, reason_at e (x ∷ above) g report whole found.0 found.1 found.2 found.3)
    ]

-- ---- a `new` that waits

waits_at : (e : Evidence) (x : Item) (above g : List Item) (report : PauseReport) → IsWhole e (onto above (x ∷ Pause report ∷ g)) → IsWaitedFor e.terms g x → (t : ℕ) × (o : Op) × IsWaiting e g t o
waits_at e (Renew ns) above g report whole waits = absurd waits
waits_at e (Pause other) above g report whole waits = absurd waits
waits_at e (Call t o r) above g report whole waits =
    let here = call_place e (Pause report ∷ g) (slice_get e.order (suc (length g))) t o r (taken_at e above (Call t o r ∷ Pause report ∷ g) whole.is_its.taken).1 in
    let call = (legal_at e.terms above (Call t o r ∷ Pause report ∷ g) whole.legal.0).2 in (
      t,
      o,
      record {
        thread = call.thread;
        next = here.0;
        finds = has_call e (onto above (Call t o r ∷ Pause report ∷ g)) g t o whole.is_its.all call.thread.0 call.thread.1 here.1;
        operation = here.1;
        waits = waited_whoever e.terms g t t o r reply.Full waits;
      },
    )

has_waiting : (e : Evidence) (above g : List Item) (report : PauseReport) → IsWhole e (onto above (Pause report ∷ g)) → HasWaiting e g report
has_waiting e [] g report whole = λ waits. absurd (whole.legal.1 waits)
has_waiting e (x ∷ above) g report whole = λ waits.
    waits_at e x above g report whole ((legal_at e.terms above (x ∷ Pause report ∷ g) whole.legal.0).1 waits)

-- ---- all

points_at : (e : Evidence) (above h : List Item) (x : Item) → IsWhole e (onto above (x ∷ h)) → KeepsPoints e h x
points_at e above h (Pause report) whole = (has_waiting e above h report whole, has_reason e above h report whole)
points_at e above h (Call t o r) whole =
    let none = taken_unrenewed e (onto above (Call t o r ∷ h)) whole.is_its.taken in
    ((asked_at above (Call t o r ∷ h) none whole.belongs.asked).1, (turns_at e.terms above (Call t o r ∷ h) none whole.belongs.turns).1)
points_at e above h (Renew ns) whole = absurd (taken_unrenewed e (Renew ns ∷ h) (taken_at e above (Renew ns ∷ h) whole.is_its.taken))

all_pass : (e : Evidence) (above h : List Item) → IsWhole e (onto above h) → AllPass e h
all_pass e above [] whole = tt
all_pass e above (x ∷ h) whole = (
  all_pass e (x ∷ above) h whole,
  record {
    takes = (taken_at e above (x ∷ h) whole.is_its.taken).1;
    legal = (legal_at e.terms above (x ∷ h) whole.legal.0).2;
    belongs = points_at e above h x whole;
  },
)

pub good_pass : GoodItemsPass
good_pass e h is_its legal belongs = all_pass e [] h (record { is_its = is_its; legal = legal; belongs = belongs })
