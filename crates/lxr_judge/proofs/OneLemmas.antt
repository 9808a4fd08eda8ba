-- What an item takes and passes with is one thing: a line tells `full` from a name, a report its kind, and all else is determined by the
-- graph. So a case has one verdict.
use Rattle.std.proofs.Common.{◌≡◌, ℕ, ◌<◌, inl, inr, ◌⊎◌, Bool, true, List, [], ◌∷◌, ◌++◌, nat_eq, Some, None, length, refl, sym, ap, subst, ◌∙◌, arith, append_assoc}
use Rattle.std.specs.Prelude.{Option, slice_get, slice_index, codes, decimal}
use Rattle.std.specs.List.{list_any}
use Rattle.std.proofs.lemmas.Bool.{cases_lt, cases_order, or_right, true≢false}
use Rattle.std.proofs.lemmas.List.{append_cancel_left, append_cancel_right}
use Rattle.lxr_layout.specs.declared.Name.{Name}
use Rattle.lxr_layout.specs.declared.Shape.{Shape}
use Rattle.lxr_graph.specs.declared.Op.{Op}
use Rattle.lxr_graph.specs.declared.Op.TheVariants as op
use Rattle.lxr_graph.specs.declared.Reply.{Reply}
use Rattle.lxr_graph.specs.declared.Reply.TheVariants as reply
use Rattle.lxr_graph.specs.declared.report.Kind.{Kind}
use Rattle.lxr_graph.specs.declared.report.Kind.TheVariants as kind
use Rattle.lxr_graph.specs.State.{next_name}
use Rattle.lxr_graph.specs.History.{PauseReport, Item, Call, Pause, Renew}
use Rattle.lxr_text_script.specs.Lines.{Text}
use Rattle.lxr_text_print.specs.Lines.{name_text}
use Rattle.lxr_text_print.specs.Replies.{call_text}
use Rattle.lxr_text_print.specs.Reports.{counts_text, names_text, pause_text, report_text}
use Rattle.lxr_graph.specs.declared.Item as ordered
use Rattle.lxr_graph.specs.declared.Item.TheVariants as ordered_as
use Rattle.lxr_model.specs.Terms.{Terms}
use Rattle.lxr_model.specs.Moments.{Trace, Moment, moment, state_at}
use Rattle.lxr_model.specs.Kinds.{IsRunning, MayStand}
use Rattle.lxr_model.specs.Legal.{Replies}
use Rattle.lxr_model_laws.proofs.ReportLemmas.{report_determined}
use Rattle.lxr_text_script.specs.Reading.{threads_in}
use Rattle.lxr_judge_output.specs.Form.{Gathered, output_read}
use Rattle.lxr_case.specs.declared.Case.{Case}
use Rattle.lxr_case.specs.declared.Terms as given
use Rattle.lxr_model.specs.Belongs.{next_operation, EndsWithPause}
use Rattle.lxr_judge.specs.declared.verdict.Verdict.{Verdict}
use Rattle.lxr_judge.specs.declared.verdict.Verdict.TheVariants as verdict
use Rattle.lxr_judge.specs.Evidence.{Evidence, evidence_of, report_lines}
use Rattle.lxr_judge.specs.Taking.{pauses_in, text_of, IsLineOf, IsPrinted, next_line, TakesBy, TakesAll}
use Rattle.lxr_judge.specs.Passing.{Passes, AllPass}
use Rattle.lxr_judge.specs.Verdicts.{IsGood, FailsFirst, LacksEnd, IsVerdictBy}
use Rattle.lxr_judge.specs.Laws.{VerdictsAreOne}
use Rattle.lxr_judge.proofs.WholeLemmas.{good_pass}

-- ---- lines

-- a dot
is_dot : ℕ → Bool
is_dot b = nat_eq b 46

has_dot : (xs ys : List ℕ) → list_any is_dot (xs ++ 46 ∷ ys) ≡ true
unfolding is_dot
has_dot [] ys = refl
has_dot (x ∷ xs) ys = or_right (is_dot x) (list_any is_dot (xs ++ 46 ∷ ys)) (has_dot xs ys)

-- `full` has none
no_dot : (xs ys : List ℕ) → xs ++ 46 ∷ ys ≡ codes "full" → ⊥
unfolding is_dot
no_dot xs ys e = let both : list_any is_dot (codes "full") ≡ true = ap (list_any is_dot) (sym e) ∙ has_dot xs ys in true≢false (sym both)

-- the line of a `new` says a name or `full`
full_or_name : (n : Name) (line : Text) (dest : ℕ) (o : Op) (a b : List ℕ) → a ≡ codes "new" ++ 32 ∷ codes "full" → b ≡ codes "new" ++ 32 ∷ name_text n → a ≡ b → ⊥
full_or_name n line dest o a b full name same =
    let both : codes "new" ++ 32 ∷ name_text n ≡ codes "new" ++ 32 ∷ codes "full" = sym name ∙ (sym same ∙ full) in
    let rest : 32 ∷ name_text n ≡ 32 ∷ codes "full" = append_cancel_left (codes "new") (32 ∷ name_text n) (32 ∷ codes "full") both in
    let words : name_text n ≡ codes "full" = cc in
    no_dot (decimal n.thread) (decimal n.serial) words

new_line : (o : Op) (r q : Reply) (line : Option Text) → IsLineOf o r line → IsLineOf o q line → call_text o r ≡ call_text o q
new_line o r q None a b = absurd a
new_line o r q (Some line) a b = a ∙ sym b

-- where the step of a `new` replies a name, its line isn't that of `full`
pub not_full : (terms : Terms) (h : List Item) (t dest : ℕ) (shape : Shape) (line : Option Text) → IsLineOf (op.New dest shape) reply.Full line
    → IsLineOf (op.New dest shape) (reply.New (next_name (state_at terms h).graph t)) line → ⊥
not_full terms h t dest shape line a b =
    let n = next_name (state_at terms h).graph t in
    let same = new_line (op.New dest shape) reply.Full (reply.New n) line a b in
    let front = append_cancel_right (codes "new" ++ 32 ∷ codes "full") (codes "new" ++ 32 ∷ name_text n) (codes "\n") same in
    full_or_name n [] dest op.End (codes "new" ++ 32 ∷ codes "full") (codes "new" ++ 32 ∷ name_text n) refl refl front

-- a `new` has one reply by its line
one_new : (terms : Terms) (h : List Item) (t dest : ℕ) (shape : Shape) (r q : Reply) (line : Option Text) → Replies terms h t (op.New dest shape) r → Replies terms h t (op.New dest shape) q
    → IsLineOf (op.New dest shape) r line → IsLineOf (op.New dest shape) q line → r ≡ q
one_new terms h t dest shape reply.Full reply.Full line a b x y = refl
one_new terms h t dest shape reply.Full q line a b x y = absurd (not_full terms h t dest shape line x (subst (λ (z : Reply). IsLineOf (op.New dest shape) z line) (sym b) y))
one_new terms h t dest shape r reply.Full line a b x y = absurd (not_full terms h t dest shape line y (subst (λ (z : Reply). IsLineOf (op.New dest shape) z line) (sym a) x))
one_new terms h t dest shape r q line a b x y = sym a ∙ b

-- an operation has one reply by its line
one_reply : (terms : Terms) (h : List Item) (t : ℕ) (o : Op) (r q : Reply) (line : Option Text) → Replies terms h t o r → Replies terms h t o q → IsPrinted o r line → IsPrinted o q line → r ≡ q
one_reply terms h t (op.New dest shape) r q line a b x y = one_new terms h t dest shape r q line a b x y
one_reply terms h t o r q line a b x y = sym a ∙ b

-- ---- reports

-- the words of a kind
kind_text : Kind → List ℕ
kind_text kind.Plain = codes "plain"
kind_text kind.Begin = codes "begin"
kind_text (kind.End j) = codes "end" ++ 32 ∷ decimal j
kind_text kind.Collect = codes "collect"

-- their first letter
letter : Kind → ℕ
letter kind.Plain = 112
letter kind.Begin = 98
letter (kind.End j) = 101
letter kind.Collect = 99

first_letter : (k : Kind) (rest : List ℕ) → slice_index (kind_text k ++ rest) 0 ≡ letter k
unfolding kind_text letter
first_letter kind.Plain rest = refl
first_letter kind.Begin rest = refl
first_letter (kind.End j) rest = refl
first_letter kind.Collect rest = refl

pause_line : (n : ℕ) (k : Kind) → pause_text n k ≡ (codes "pause" ++ 32 ∷ (decimal n ++ 32 ∷ kind_text k)) ++ codes "\n"
unfolding pause_text kind_text
pause_line n kind.Plain = refl
pause_line n kind.Begin = refl
pause_line n (kind.End j) = refl
pause_line n kind.Collect = refl

regroup_line : (f d t n r : List ℕ) → ((f ++ 32 ∷ (d ++ 32 ∷ t)) ++ n) ++ r ≡ (f ++ 32 ∷ d) ++ 32 ∷ (t ++ (n ++ r))
regroup_line f d t n r = simp append_assoc refl

regroup_report : (p a b c d e : List ℕ) → p ++ a ++ b ++ c ++ d ++ e ≡ p ++ (a ++ b ++ c ++ d ++ e)
regroup_report p a b c d e = simp append_assoc refl

-- the text of a report begins with its number and, behind a space, its kind
report_line : (counts : Bool) (report : PauseReport) → (rest : List ℕ)
    × (report_text counts report ≡ (codes "pause" ++ 32 ∷ decimal report.number) ++ 32 ∷ (kind_text report.kind ++ rest))
report_line counts r =
    let a = names_text (codes "promoted") r.promoted in
    let b = names_text (codes "dead") r.dead in
    let c = names_text (codes "stuck") r.stuck in
    let d = names_text (codes "swept") r.swept in
    let e = counts_text counts r in
    let rest = a ++ b ++ c ++ d ++ e in (
      codes "\n" ++ rest,
      regroup_report (pause_text r.number r.kind) a b c d e ∙ (ap (λ (front : List ℕ). front ++ rest) (pause_line r.number r.kind) ∙ regroup_line (codes "pause") (decimal r.number) (kind_text r.kind) (codes "\n") rest),
    )

behind_head : {a b : ℕ} {xs ys : List ℕ} → a ∷ xs ≡ b ∷ ys → xs ≡ ys
behind_head e = cc

-- reports of one number with one text have kinds with one first letter
same_letter : (counts : Bool) (a b : PauseReport) → a.number ≡ b.number → report_text counts a ≡ report_text counts b → letter a.kind ≡ letter b.kind
same_letter counts a b number same =
    let x = report_line counts a in
    let y = report_line counts b in
    let front = codes "pause" ++ 32 ∷ decimal a.number in
    let there : report_text counts b ≡ front ++ 32 ∷ (kind_text b.kind ++ y.0) = y.1 ∙ ap (λ (n : ℕ). (codes "pause" ++ 32 ∷ decimal n) ++ 32 ∷ (kind_text b.kind ++ y.0)) (sym number) in
    let both : front ++ 32 ∷ (kind_text a.kind ++ x.0) ≡ front ++ 32 ∷ (kind_text b.kind ++ y.0) = sym x.1 ∙ (same ∙ there) in
    let rest = behind_head (append_cancel_left front (32 ∷ (kind_text a.kind ++ x.0)) (32 ∷ (kind_text b.kind ++ y.0)) both) in
    sym (first_letter a.kind x.0) ∙ (ap (λ (xs : List ℕ). slice_index xs 0) rest ∙ first_letter b.kind y.0)

one_trace : (i j : ℕ) (trace : Option Trace) → IsRunning i trace → IsRunning j trace → i ≡ j
one_trace i j None a b = absurd a
one_trace i j (Some trace) a b = sym a ∙ b

same_kind : (terms : Terms) (h : List Item) (m : Moment) (n : ℕ) (k l : Kind) → MayStand terms h m n k → MayStand terms h m n l → letter k ≡ letter l → k ≡ l
unfolding letter
same_kind terms h m n kind.Plain kind.Plain a b e = refl
same_kind terms h m n kind.Plain kind.Begin a b e = absurd (omega (arith, e))
same_kind terms h m n kind.Plain (kind.End j) a b e = absurd (omega (arith, e))
same_kind terms h m n kind.Plain kind.Collect a b e = absurd (omega (arith, e))
same_kind terms h m n kind.Begin kind.Plain a b e = absurd (omega (arith, e))
same_kind terms h m n kind.Begin kind.Begin a b e = refl
same_kind terms h m n kind.Begin (kind.End j) a b e = absurd (omega (arith, e))
same_kind terms h m n kind.Begin kind.Collect a b e = absurd (omega (arith, e))
same_kind terms h m n (kind.End i) kind.Plain a b e = absurd (omega (arith, e))
same_kind terms h m n (kind.End i) kind.Begin a b e = absurd (omega (arith, e))
same_kind terms h m n (kind.End i) (kind.End j) a b e = ap (λ (k : ℕ). kind.End k) (one_trace i j m.trace a.1 b.1)
same_kind terms h m n (kind.End i) kind.Collect a b e = absurd (omega (arith, e))
same_kind terms h m n kind.Collect kind.Plain a b e = absurd (omega (arith, e))
same_kind terms h m n kind.Collect kind.Begin a b e = absurd (omega (arith, e))
same_kind terms h m n kind.Collect (kind.End j) a b e = absurd (omega (arith, e))
same_kind terms h m n kind.Collect kind.Collect a b e = refl

-- ---- one item

pub call_is : (e : Evidence) (h : List Item) (place : Option ordered.Item) (t : ℕ) (o : Op) (r : Reply) → TakesBy e h place (Call t o r)
    → (place ≡ Some (ordered_as.Call t)) × (next_operation e.script t h ≡ Some o) × IsPrinted o r (next_line e t h)
call_is e h None t o r takes = absurd takes
call_is e h (Some (ordered_as.Call u)) t o r takes =
    let same : t ≡ u = takes.0 in
    (ap (λ (v : ℕ). Some (ordered_as.Call v)) (sym same), subst (λ (v : ℕ). next_operation e.script v h ≡ Some o) (sym same) takes.1, subst (λ (v : ℕ). IsPrinted o r (next_line e v h)) (sym same) takes.2)
call_is e h (Some ordered_as.Pause) t o r takes = absurd takes

pub pause_is : (e : Evidence) (h : List Item) (place : Option ordered.Item) (report : PauseReport) → TakesBy e h place (Pause report)
    → (place ≡ Some ordered_as.Pause) × (report_text e.counts report ≡ text_of (report_lines e (pauses_in h)))
pause_is e h None report takes = absurd takes
pause_is e h (Some (ordered_as.Call t)) report takes = absurd takes
pause_is e h (Some ordered_as.Pause) report takes = (refl, takes.1)

call_no_pause : {P : Type 0} (place : Option ordered.Item) (t : ℕ) → place ≡ Some (ordered_as.Call t) → place ≡ Some ordered_as.Pause → P
call_no_pause place t a b = absurd (cc)

same_thread : (place : Option ordered.Item) (t u : ℕ) → place ≡ Some (ordered_as.Call t) → place ≡ Some (ordered_as.Call u) → t ≡ u
same_thread place t u a b = cc

same_op : (next : Option Op) (o p : Op) → next ≡ Some o → next ≡ Some p → o ≡ p
same_op next o p a b = cc

-- the same thread, the same operation and the same reply make the same call
same_call : {t u : ℕ} {o p : Op} {r q : Reply} → t ≡ u → o ≡ p → r ≡ q → Call t o r ≡ Call u p q
same_call a b c = λ i. Call (a i) (b i) (c i)

one_call : (e : Evidence) (h : List Item) (t u : ℕ) (o p : Op) (r q : Reply) → Passes e h (Call t o r) → Passes e h (Call u p q) → Call t o r ≡ Call u p q
one_call e h t u o p r q a b =
    let place = slice_get e.order (length h) in
    let x = call_is e h place t o r a.takes in
    let y = call_is e h place u p q b.takes in
    let thread = same_thread place t u x.0 y.0 in
    let there = subst (λ (v : ℕ). next_operation e.script v h ≡ Some p) (sym thread) y.1 in
    let operation = same_op (next_operation e.script t h) o p x.1 there in
    let replies = subst (λ (v : ℕ). Replies e.terms h v o q) (sym thread) (subst (λ (z : Op). Replies e.terms h u z q) (sym operation) b.legal.reply) in
    let printed = subst (λ (v : ℕ). IsPrinted o q (next_line e v h)) (sym thread) (subst (λ (z : Op). IsPrinted z q (next_line e u h)) (sym operation) y.2) in
    same_call thread operation (one_reply e.terms h t o r q (next_line e t h) a.legal.reply replies x.2 printed)

one_pause : (e : Evidence) (h : List Item) (a b : PauseReport) → Passes e h (Pause a) → Passes e h (Pause b) → a ≡ b
one_pause e h a b x y =
    let m = moment e.terms.threads h in
    let place = slice_get e.order (length h) in
    let number : a.number ≡ b.number = x.legal.reports.1.number ∙ sym y.legal.reports.1.number in
    let text = (pause_is e h place a x.takes).1 ∙ sym (pause_is e h place b y.takes).1 in
    let stands = subst (λ (n : ℕ). MayStand e.terms h m n b.kind) (sym number) y.legal.stands in
    report_determined m a b x.legal.reports y.legal.reports (same_kind e.terms h m a.number a.kind b.kind x.legal.stands stands (same_letter e.counts a b number text))

one_item : (e : Evidence) (h : List Item) (x y : Item) → Passes e h x → Passes e h y → x ≡ y
one_item e h (Renew ns) y a b = absurd a.belongs
one_item e h (Call t o r) (Renew ns) a b = absurd b.belongs
one_item e h (Pause report) (Renew ns) a b = absurd b.belongs
one_item e h (Call t o r) (Call u p q) a b = one_call e h t u o p r q a b
one_item e h (Pause a) (Pause b) x y = ap Pause (one_pause e h a b x y)
one_item e h (Call t o r) (Pause b) x y =
    let place = slice_get e.order (length h) in
    call_no_pause place t (call_is e h place t o r x.takes).0 (pause_is e h place b y.takes).0
one_item e h (Pause a) (Call t o r) x y =
    let place = slice_get e.order (length h) in
    call_no_pause place t (call_is e h place t o r y.takes).0 (pause_is e h place a x.takes).0

-- ---- one history

-- histories of one length, all of whose items pass, are one
one_history : (e : Evidence) (g h : List Item) → AllPass e g → AllPass e h → length g ≡ length h → g ≡ h
one_history e [] [] a b same = refl
one_history e [] (y ∷ h) a b same = absurd (omega (arith, same))
one_history e (x ∷ g) [] a b same = absurd (omega (arith, same))
one_history e (x ∷ g) (y ∷ h) a b same =
    let rest = one_history e g h a.0 b.0 (omega (arith, same)) in
    let first = one_item e h x y (subst (λ (z : List Item). Passes e z x) rest a.1) b.1 in
    λ i. first i ∷ rest i

-- behind a shorter history some item passes
some_passes : (e : Evidence) (g h : List Item) → AllPass e g → AllPass e h → length g < length h → (x : Item) × Passes e g x
some_passes e g [] a b lt = absurd (omega (arith, lt))
some_passes e g (x ∷ h) a b lt = elim (cases_lt (length g) (length h)) [
  | inl less ↦ some_passes e g h a b.0 less
  | inr same ↦ let is : h ≡ g = one_history e h g b.0 a (omega (arith, lt, same)) in (x, subst (λ (z : List Item). Passes e z x) is b.1)
]

-- ---- one verdict

good_fails : {P : Type 0} (e : Evidence) (n : ℕ) → IsGood e → FailsFirst e n → P
good_fails e n good fails =
    let pass = good_pass e good.history good.is_its good.legal good.belongs in
    let more = some_passes e fails.before good.history fails.pass pass (omega (arith, fails.place, fails.is_item, good.is_its.order)) in
    absurd (fails.fails more.0 more.1)

good_lacks : {P : Type 0} (e : Evidence) (n : ℕ) → IsGood e → LacksEnd e n → P
good_lacks e n good lacks =
    let pass = good_pass e good.history good.is_its good.legal good.belongs in
    let same = one_history e good.history lacks.history pass lacks.pass (good.is_its.order ∙ sym lacks.order) in
    absurd (lacks.lacks (subst (λ (h : List Item). TakesAll e h × EndsWithPause e.terms h) same (good.is_its.all, good.belongs.last)))

fails_lacks : {P : Type 0} (e : Evidence) (n m : ℕ) → FailsFirst e n → LacksEnd e m → P
fails_lacks e n m fails lacks =
    let more = some_passes e fails.before lacks.history fails.pass lacks.pass (omega (arith, fails.place, fails.is_item, lacks.order)) in
    absurd (fails.fails more.0 more.1)

one_failure : (e : Evidence) (n m : ℕ) → FailsFirst e n → FailsFirst e m → n ≡ m
one_failure e n m a b = elim (cases_order (length a.before) (length b.before)) [
  | inl same ↦ omega (arith, same, a.place, b.place)
  | inr (inl less) ↦ let more = some_passes e a.before b.before a.pass b.pass less in absurd (a.fails more.0 more.1)
  | inr (inr less) ↦ let more = some_passes e b.before a.before b.pass a.pass less in absurd (b.fails more.0 more.1)
]

one_number : (e : Evidence) (n m : ℕ) → FailsFirst e n ⊎ LacksEnd e n → FailsFirst e m ⊎ LacksEnd e m → n ≡ m
one_number e n m (inl a) (inl b) = one_failure e n m a b
one_number e n m (inl a) (inr b) = fails_lacks e n m a b
one_number e n m (inr a) (inl b) = fails_lacks e m n b a
one_number e n m (inr a) (inr b) = a.place ∙ sym b.place

never_good : {P : Type 0} (e : Evidence) (n : ℕ) → IsGood e → FailsFirst e n ⊎ LacksEnd e n → P
never_good e n good (inl fails) = good_fails e n good fails
never_good e n good (inr lacks) = good_lacks e n good lacks

one_by : (case : Case) (terms : given.Terms) (gathered : Option (Gathered Text)) (v w : Verdict) → IsVerdictBy case terms gathered v → IsVerdictBy case terms gathered w → v ≡ w
one_by case terms None verdict.Yes w a b = absurd a
one_by case terms None v verdict.Yes a b = absurd b
one_by case terms None (verdict.No n) (verdict.No m) a b = ap verdict.No (a ∙ sym b)
one_by case terms (Some g) verdict.Yes verdict.Yes a b = refl
one_by case terms (Some g) verdict.Yes (verdict.No m) a b = never_good (evidence_of case terms g) m a b
one_by case terms (Some g) (verdict.No n) verdict.Yes a b = never_good (evidence_of case terms g) n b a
one_by case terms (Some g) (verdict.No n) (verdict.No m) a b = ap verdict.No (one_number (evidence_of case terms g) n m a b)

pub verdicts_one : VerdictsAreOne
verdicts_one case terms v w a b = one_by case terms (output_read terms.counts (length (threads_in case.script)) case.output.items) v w a b
