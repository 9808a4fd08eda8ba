-- Where a judge has the lines of a whole history and its order, each item of the order takes its own call, reply line and report.
use Rattle.std.proofs.Common.{◌≡◌, ◌≢◌, ℕ, suc, ◌+◌, ◌-◌, ◌<◌, ◌≤◌, inl, inr, List, [], ◌∷◌, ◌++◌, Some, None, length, map, refl, sym, ap, ◌∙◌, arith, codes, nat_eq, append-nil}
use Rattle.std.specs.Prelude.{Option, slice_get, slice_index_or, if◌then◌else◌}
use Rattle.std.specs.Option.{option_map}
use Rattle.std.proofs.lemmas.Bool.{cases_Bool, cond-true, cond-false}
use Rattle.std.proofs.lemmas.List.{length_push, length-map}
use Rattle.std.proofs.lemmas.Option.{none-some, same_Some, slice_get-map, slice_get_within}
use Rattle.lxr_graph.specs.declared.Item as ordered
use Rattle.lxr_graph.specs.declared.Item.TheVariants as ordered_as
use Rattle.lxr_graph.specs.declared.Op.{Op}
use Rattle.lxr_graph.specs.declared.Op.TheVariants as op
use Rattle.lxr_graph.specs.declared.Reply.{Reply}
use Rattle.lxr_graph.specs.History.{PauseReport, Item, Call, Pause, Renew, calls_of}
use Rattle.lxr_graph.specs.Order.{order_of}
use Rattle.lxr_text_script.specs.Lines.{Text}
use Rattle.lxr_text_print.specs.Replies.{call_text}
use Rattle.lxr_text_print.specs.Reports.{report_text}
use Rattle.lxr_model.specs.Legal.{IsCall}
use Rattle.lxr_model.proofs.UnrenewedLemmas.{IsUnrenewed}
use Rattle.lxr_model.specs.Belongs.{operations_of, next_operation}
use Rattle.lxr_judge.specs.Evidence.{Evidence, report_count, report_lines, reply_lines}
use Rattle.lxr_judge.specs.Taking.{pauses_in, text_of, IsLineOf, IsPrinted, next_line, TakesBy, AreTaken}
use Rattle.lxr_judge.specs.Verdicts.{IsGood}
use Rattle.lxr_judge.proofs.PartLemmas.{Grows, IsWhole, added_at, before_no_end, early_no_end, get_front, next_at, same_self, whole_unrenewed}
use Rattle.lxr_judge.proofs.WholeLemmas.{legal_at, onto, unrenewed_at}

-- ---- the lines of a history

-- the reports of a history's pauses, oldest first
abbrev pub reports_of : List Item → List PauseReport
reports_of [] = []
reports_of (Renew ns ∷ h) = []
reports_of (Pause report ∷ h) = reports_of h ++ report ∷ []
reports_of (Call t o r ∷ h) = reports_of h

-- the lines of an operation and its reply: one, but none for the end
abbrev pub call_lines : Op → Reply → List Text
call_lines op.End r = []
call_lines o r = call_text o r ∷ []

-- the lines of thread t's calls, oldest first
abbrev pub replied_lines : ℕ → List Item → List Text
replied_lines t [] = []
replied_lines t (Renew ns ∷ h) = []
replied_lines t (Pause report ∷ h) = replied_lines t h
replied_lines t (Call u o r ∷ h) = if nat_eq t u then replied_lines t h ++ call_lines o r else replied_lines t h

-- a line with its line feed
abbrev pub ended : Text → Text
ended line = line ++ codes "\n"

-- what a judge has is a whole history's own: its order, the text of each report, and the lines of each thread's replies
pub record IsOwn (e : Evidence) (h : List Item) : Type 0 where
  pub order : e.order ≡ order_of h
  pub count : report_count e ≡ length (reports_of h)
  pub reports : (i : ℕ) (report : PauseReport) → slice_get (reports_of h) i ≡ Some report → report_text e.counts report ≡ text_of (report_lines e i)
  pub replies : (t : ℕ) → 1 ≤ t → t ≤ e.terms.threads → map ended (reply_lines e t) ≡ replied_lines t h

-- ---- what is read

order_grows : Grows order_of
order_grows (Renew ns) h none = absurd none
order_grows (Pause report) h none = (ordered_as.Pause ∷ [], refl)
order_grows (Call t o r) h none = (ordered_as.Call t ∷ [], refl)

reports_grow : Grows reports_of
reports_grow (Renew ns) h none = absurd none
reports_grow (Pause report) h none = (report ∷ [], refl)
reports_grow (Call t o r) h none = ([], sym (append-nil (reports_of h)))

replies_grow : (t : ℕ) → Grows (replied_lines t)
replies_grow t (Renew ns) h none = absurd none
replies_grow t (Pause report) h none = ([], sym (append-nil (replied_lines t h)))
replies_grow t (Call u o r) h none = elim (cases_Bool (nat_eq t u)) [
  | inl same ↦ (call_lines o r, cond-true (nat_eq t u) (replied_lines t h ++ call_lines o r) (replied_lines t h) same)
  | inr other ↦ ([], cond-false (nat_eq t u) (replied_lines t h ++ call_lines o r) (replied_lines t h) other ∙ sym (append-nil (replied_lines t h)))
]

-- a call of the thread adds its line
own_lines : (t : ℕ) (o : Op) (r : Reply) (h : List Item) → replied_lines t (Call t o r ∷ h) ≡ replied_lines t h ++ call_lines o r
own_lines t o r h = cond-true (nat_eq t t) (replied_lines t h ++ call_lines o r) (replied_lines t h) (same_self t)

order_length : (h : List Item) → IsUnrenewed h → length (order_of h) ≡ length h
order_length [] none = refl
order_length (Renew ns ∷ h) none = absurd none
order_length (Pause report ∷ h) none = let p = length_push (order_of h) ordered_as.Pause in let n = order_length h none in omega (arith, p, n)
order_length (Call t o r ∷ h) none = let p = length_push (order_of h) (ordered_as.Call t) in let n = order_length h none in omega (arith, p, n)

reports_length : (h : List Item) → length (reports_of h) ≡ pauses_in h
reports_length [] = refl
reports_length (Renew ns ∷ h) = refl
reports_length (Pause report ∷ h) = let p = length_push (reports_of h) report in let n = reports_length h in omega (arith, p, n)
reports_length (Call t o r ∷ h) = reports_length h

-- ---- operations that print a line

-- how many lines an operation prints
weight : Op → ℕ
weight op.End = 0
weight o = 1

-- how many lines operations print
weights : List Op → ℕ
weights [] = 0
weights (o ∷ os) = weight o + weights os

line_weight : (o : Op) (r : Reply) → length (call_lines o r) ≡ weight o
unfolding weight
line_weight op.End r = refl
line_weight o r = refl

weights_push : (os : List Op) (o : Op) → weights (os ++ o ∷ []) ≡ weights os + weight o
unfolding weights
weights_push [] o = omega arith
weights_push (p ∷ os) o = let n = weights_push os o in omega (arith, n)

lines_append : (xs ys : List Text) → length (xs ++ ys) ≡ length xs + length ys
lines_append [] ys = omega arith
lines_append (x ∷ xs) ys = let n = lines_append xs ys in omega (arith, n)

-- a thread has as many lines as its calls print
lines_count : (t : ℕ) (h : List Item) → length (replied_lines t h) ≡ weights (calls_of t h)
unfolding weights
lines_count t [] = refl
lines_count t (Renew ns ∷ h) = refl
lines_count t (Pause report ∷ h) = lines_count t h
lines_count t (Call u o r ∷ h) = elim (cases_Bool (nat_eq t u)) [
  | inl same ↦
      let a = ap length (cond-true (nat_eq t u) (replied_lines t h ++ call_lines o r) (replied_lines t h) same) in
      let b = ap weights (cond-true (nat_eq t u) (calls_of t h ++ o ∷ []) (calls_of t h) same) in
      let c = lines_append (replied_lines t h) (call_lines o r) in
      let d = weights_push (calls_of t h) o in
      let e = line_weight o r in
      let n = lines_count t h in
      a ∙ (omega (arith, c, d, e, n) ∙ sym b)
  | inr other ↦
      ap length (cond-false (nat_eq t u) (replied_lines t h ++ call_lines o r) (replied_lines t h) other) ∙ (lines_count t h ∙ sym (ap weights (cond-false (nat_eq t u) (calls_of t h ++ o ∷ []) (calls_of t h) other)))
]

prints : (o : Op) → o ≢ op.End → weight o ≡ 1
unfolding weight
prints op.End some = absurd (some refl)
prints o some = refl

-- operations without an end print a line each
no_end_count : (os : List Op) → ((k : ℕ) (o : Op) → slice_get os k ≡ Some o → o ≢ op.End) → weights os ≡ length os
unfolding weights
no_end_count [] none = refl
no_end_count (o ∷ os) none =
    let first = prints o (none 0 o refl) in
    let rest = no_end_count os (λ k p at. none (suc k) p at) in
    omega (arith, first, rest)

-- ---- items

-- a whole history of the case, with its own lines
record IsMine (e : Evidence) (h : List Item) : Type 0 where
  whole : IsWhole e.terms e.script h
  own : IsOwn e h

-- names are never renewed in it
mine_unrenewed : (e : Evidence) (h : List Item) → IsMine e h → IsUnrenewed h
mine_unrenewed e h mine = whole_unrenewed e.terms e.script h mine.whole

-- the item of the order in the place of an item of the history
place_at : (e : Evidence) (above h : List Item) (x : Item) (y : ordered.Item) → IsMine e (onto above (x ∷ h)) → order_of (x ∷ h) ≡ order_of h ++ y ∷ [] → slice_get e.order (length h) ≡ Some y
place_at e above h x y mine adds =
    let none = mine_unrenewed e (onto above (x ∷ h)) mine in
    ap (λ (items : List ordered.Item). slice_get items (length h)) mine.own.order ∙ (ap (λ (n : ℕ). slice_get (order_of (onto above (x ∷ h))) n) (sym (order_length h (unrenewed_at (x ∷ above) h none))) ∙ added_at order_of order_grows above h x y none adds)

line_is : (o : Op) (r : Reply) (found : Option Text) → option_map ended found ≡ Some (call_text o r) → IsLineOf o r found
line_is o r None is = absurd (none-some (call_text o r) is)
line_is o r (Some line) is = sym (same_Some (ended line) (call_text o r) is)

lines_of : (o : Op) (r : Reply) → o ≢ op.End → call_lines o r ≡ call_text o r ∷ []
lines_of op.End r some = absurd (some refl)
lines_of o r some = refl

line_at : (e : Evidence) (above h : List Item) (t : ℕ) (o : Op) (r : Reply) → IsMine e (onto above (Call t o r ∷ h)) → 1 ≤ t → t ≤ e.terms.threads → o ≢ op.End → IsLineOf o r (next_line e t h)
line_at e above h t o r mine low high some =
    let count : length (replied_lines t h) ≡ length (calls_of t h) = lines_count t h ∙ no_end_count (calls_of t h) (before_no_end e.terms e.script above h t o r mine.whole low high) in
    let added = added_at (replied_lines t) (replies_grow t) above h (Call t o r) (call_text o r) (mine_unrenewed e (onto above (Call t o r ∷ h)) mine) (own_lines t o r h ∙ ap (λ (ls : List Text). replied_lines t h ++ ls) (lines_of o r some)) in
    let there : slice_get (map ended (reply_lines e t)) (length (calls_of t h)) ≡ Some (call_text o r) =
    ap (λ (ls : List Text). slice_get ls (length (calls_of t h))) (mine.own.replies t low high) ∙ (ap (λ (n : ℕ). slice_get (replied_lines t (onto above (Call t o r ∷ h))) n) (sym count) ∙ added) in
    line_is o r (next_line e t h) (sym (slice_get-map ended (reply_lines e t) (length (calls_of t h))) ∙ there)

printed_at : (e : Evidence) (above h : List Item) (t : ℕ) (o : Op) (r : Reply) → IsMine e (onto above (Call t o r ∷ h)) → IsCall e.terms h t o r → IsPrinted o r (next_line e t h)
printed_at e above h t op.End r mine call = sym call.reply
printed_at e above h t o r mine call = line_at e above h t o r mine call.thread.0 call.thread.1 (λ same. absurd (cc))

call_taken : (e : Evidence) (h : List Item) (place : Option ordered.Item) (t : ℕ) (o : Op) (r : Reply) → place ≡ Some (ordered_as.Call t) → next_operation e.script t h ≡ Some o → IsPrinted o r (next_line e t h) → TakesBy e h place (Call t o r)
call_taken e h place t o r is next printed = rw is (refl, next, printed)

pause_taken : (e : Evidence) (h : List Item) (place : Option ordered.Item) (report : PauseReport) → place ≡ Some ordered_as.Pause → pauses_in h < report_count e
    → report_text e.counts report ≡ text_of (report_lines e (pauses_in h)) → TakesBy e h place (Pause report)
pause_taken e h place report is some text = rw is (some, text)

takes_at : (e : Evidence) (above h : List Item) (x : Item) → IsMine e (onto above (x ∷ h)) → TakesBy e h (slice_get e.order (length h)) x
takes_at e above h (Call t o r) mine =
    let call = (legal_at e.terms above (Call t o r ∷ h) mine.whole.legal.0).2 in
    call_taken e h (slice_get e.order (length h)) t o r (place_at e above h (Call t o r) (ordered_as.Call t) mine refl) (next_at e.terms e.script above h t o r mine.whole call.thread.0 call.thread.1) (printed_at e above h t o r mine call)
takes_at e above h (Renew ns) mine = absurd (unrenewed_at above (Renew ns ∷ h) (mine_unrenewed e (onto above (Renew ns ∷ h)) mine))
takes_at e above h (Pause report) mine =
    let count = reports_length h in
    let at = added_at reports_of reports_grow above h (Pause report) report (mine_unrenewed e (onto above (Pause report ∷ h)) mine) refl in
    let inside = slice_get_within (reports_of (onto above (Pause report ∷ h))) (length (reports_of h)) report at in
    let all = mine.own.count in
    let text = mine.own.reports (length (reports_of h)) report at ∙ ap (λ (n : ℕ). text_of (report_lines e n)) count in
    pause_taken e h (slice_get e.order (length h)) report (place_at e above h (Pause report) ordered_as.Pause mine refl) (omega (arith, count, inside, all)) text

taken_at : (e : Evidence) (above h : List Item) → IsMine e (onto above h) → AreTaken e h
taken_at e above [] mine = tt
taken_at e above (x ∷ h) mine = (taken_at e (x ∷ above) h mine, takes_at e above h x mine)

-- ---- the whole

-- a thread has a line for each of its operations
lines_whole : (e : Evidence) (h : List Item) (t : ℕ) → IsMine e h → 1 ≤ t → t ≤ e.terms.threads → length (reply_lines e t) + 1 ≡ length (operations_of e.script t)
unfolding weight
lines_whole e h t mine low high =
    let os = slice_index_or e.script (t - 1) [] in
    let count = length_push os op.End in
    let a = sym (length-map (reply_lines e t) ended) ∙ (ap length (mine.own.replies t low high) ∙ (lines_count t h ∙ ap weights (mine.whole.belongs.calls t low high))) in
    let b = weights_push os op.End in
    let c = no_end_count os (λ k o at. early_no_end e.script t k o mine.whole.fits low (omega (arith, high, mine.whole.threads)) (let within = slice_get_within os k o at in omega (arith, within, count)) (get_front os (op.End ∷ []) k o at)) in
    omega (arith, a, b, c, count)

-- what a whole history prints is judged good by its lines
pub own_good : (e : Evidence) (h : List Item) → IsWhole e.terms e.script h → IsOwn e h → IsGood e
own_good e h whole own =
    let mine : IsMine e h = record { whole = whole; own = own } in
    record {
      history = h;
      is_its = record {
        taken = taken_at e [] h mine;
        order = sym (order_length h (mine_unrenewed e h mine)) ∙ ap length (sym own.order);
        all = record {
          calls = whole.belongs.calls;
          replies = λ t low high. lines_whole e h t mine low high;
          reports = sym (reports_length h) ∙ sym own.count;
        };
      };
      legal = whole.legal;
      belongs = whole.belongs;
    }
