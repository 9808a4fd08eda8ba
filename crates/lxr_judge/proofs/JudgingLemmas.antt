-- What a judge's tests tell of the history behind which it stands.
use Rattle.std.proofs.Common.{◌≡◌, ℕ, suc, ◌+◌, ◌-◌, ◌^◌, ◌<◌, ◌≤◌, inl, inr, Bool, true, false, IsTrue, List, [], ◌∷◌, ◌++◌, Some, None, length, take, drop, refl, sym, ap, subst, ◌∙◌, arith, lit≤, nat_eq, min}
use Rattle.std.specs.Prelude.{◌↔◌, Option, IfSome, slice_get, slice_index_or}
use Rattle.std.specs.List.{list_any}
use Rattle.std.specs.Option.{option_map}
use Rattle.std.proofs.lemmas.Bool.{cases_Bool, cases_lt, cond-true, cond-false, eqb-true, eq-eqb, and_parts, and_from, true≢false}
use Rattle.std.proofs.lemmas.List.{length_push, take_more, take_all}
use Rattle.std.proofs.lemmas.Option.{same_Some, slice_get_within, get_or_from_slice_get}
use Rattle.lxr_layout.specs.declared.TheConstants.{REGISTERS}
use Rattle.lxr_layout.specs.declared.Shape.{Shape}
use Rattle.lxr_layout.specs.Objects.{line_count}
use Rattle.lxr_graph.specs.declared.Op.{Op}
use Rattle.lxr_graph.specs.declared.Op.TheVariants as op
use Rattle.lxr_graph.specs.declared.Reply.{Reply}
use Rattle.lxr_graph.specs.declared.Reply.TheVariants as reply
use Rattle.lxr_graph.specs.declared.report.Kind.{Kind}
use Rattle.lxr_graph.specs.declared.report.Kind.TheVariants as kind
use Rattle.lxr_graph.specs.Step.{IsFormedFor, IsWellFormed, step}
use Rattle.lxr_graph.specs.Names.{union, without}
use Rattle.lxr_graph.specs.State.{State, row_of, world_name}
use Rattle.lxr_graph.specs.History.{PauseReport, Item, Call, Pause, Renew, calls_of}
use Rattle.lxr_graph.proofs.FormLemmas.{formed_more}
use Rattle.lxr_graph.proofs.RowLemmas.{slice_get-push}
use Rattle.lxr_text_script.specs.declared.TheConstants.{SCRIPT_REGISTERS}
use Rattle.lxr_text_script.specs.Lines.{Text}
use Rattle.lxr_graph.specs.declared.Item as ordered
use Rattle.lxr_model.specs.Terms.{Terms}
use Rattle.lxr_model.specs.Moments.{Trace, moment, state_at}
use Rattle.lxr_model.specs.Kinds.{MayStand}
use Rattle.lxr_model.specs.Full.{MayBeFull}
use Rattle.lxr_model.specs.Legal.{Replies}
use Rattle.lxr_model.specs.Belongs.{operations_of, next_operation}
use Rattle.lxr_model_decide.specs.Legality.{must_collect, only_news_since_pause, may_stand, is_right_after_collecting}
use Rattle.lxr_model_decide.specs.Reports.{report_at, CanBe}
use Rattle.lxr_model_decide.proofs.LegalityLemmas.{must_right}
use Rattle.lxr_model_decide.proofs.TestLemmas.{full_iff, must_test, run_iff, stand_iff}
use Rattle.lxr_judge_report.specs.LastPauses.{running_of, began_of}
use Rattle.lxr_judge_report.specs.Positions.{Present, IsAt, kept_leave_no_run, reached_leave_no_run}
use Rattle.lxr_judge_report.specs.Positions as position
use Rattle.lxr_judge.specs.declared.judging.Judging.{Judging}
use Rattle.lxr_judge.specs.Evidence.{Evidence, reply_lines}
use Rattle.lxr_judge.specs.declared.progress.Progress.{Progress}
use Rattle.lxr_judge.specs.Progress.{Tells, called, paused}
use Rattle.lxr_judge.specs.Taking.{IsLineOf, IsPrinted}
use Rattle.lxr_judge.specs.Passing.{IsReason, HasReason, IsWaiting, AllPass}
use Rattle.lxr_judge.specs.Standing.{IsReadable, IsJudging, Keeps, LeavesNoRun, MayCollectHere, MayPause, SaysNoFull, Stays, TakesAllOf, stands_by}
use Rattle.lxr_judge.proofs.OneLemmas.{not_full}
use Rattle.lxr_judge.proofs.WholeLemmas.{call_place, pass_unrenewed}
use Rattle.lxr_judge.proofs.ProgressLemmas.{calls_few, pauses_few, call_told, pause_told}
use Rattle.lxr_judge.proofs.RoomLemmas.{rows_are, row_short, number_is}

-- what stands behind an item, by how many stand before it
pub behind_is : (p : ordered.Item → Bool) (order : List ordered.Item) (items n : ℕ) (answer : Bool) → items ≡ n → answer ≡ list_any p (drop (items + 1) order) → answer ≡ list_any p (drop (suc n) order)
behind_is p order items n answer same is = let e : items + 1 ≡ suc n = omega (arith, same) in is ∙ ap (λ (k : ℕ). list_any p (drop k order)) e

-- ---- operations

-- an operation of a thread names registers of scripts
scripted_next : (e : Evidence) (t k : ℕ) (o : Op) → IsReadable e → 1 ≤ t → t ≤ e.terms.threads → slice_get (operations_of e.script t) k ≡ Some o → IsFormedFor SCRIPT_REGISTERS o
scripted_next e t k o readable low high at =
    let os = slice_index_or e.script (t - 1) [] in
    let inside : t - 1 < length e.script = omega (arith, low, high, readable.threads) in
    let thread = readable.script.each (t - 1) [] inside in
    let found = sym (slice_get-push os op.End k) ∙ at in
    elim (cases_Bool (nat_eq k (length os))) [
      | inl last ↦
          let is : op.End ≡ o = same_Some op.End o (sym (cond-true (nat_eq k (length os)) (Some op.End) (slice_get os k) last) ∙ found) in
          subst (IsFormedFor SCRIPT_REGISTERS) is tt
      | inr other ↦
          let there : slice_get os k ≡ Some o = sym (cond-false (nat_eq k (length os)) (Some op.End) (slice_get os k) other) ∙ found in
          subst (IsFormedFor SCRIPT_REGISTERS) (get_or_from_slice_get os k o op.End there) (thread.each k op.End (slice_get_within os k o there)).well_formed
    ]

-- the calls of a thread are the first of its operations
pub calls_first : (e : Evidence) (h : List Item) (t : ℕ) → AllPass e h → calls_of t h ≡ take (length (calls_of t h)) (operations_of e.script t)
calls_first e [] t all = refl
calls_first e (Renew ns ∷ h) t all = refl
calls_first e (Pause report ∷ h) t all = calls_first e h t all.0
calls_first e (Call u o r ∷ h) t all = elim (cases_Bool (nat_eq t u)) [
  | inl same ↦
      let cs = calls_of t h in
      let ops = operations_of e.script t in
      let here : calls_of t (Call u o r ∷ h) ≡ cs ++ o ∷ [] = cond-true (nat_eq t u) (cs ++ o ∷ []) cs same in
      let is : u ≡ t = sym (eqb-true t u same) in
      let at : slice_get ops (length cs) ≡ Some o = subst (λ (v : ℕ). next_operation e.script v h ≡ Some o) is (call_place e h (slice_get e.order (length h)) u o r all.1.takes).1 in
      let more : take (length cs + 1) ops ≡ cs ++ o ∷ [] =
      take_more ops (length cs) o (slice_get_within ops (length cs) o at)
      ∙ (ap (λ (x : Op). take (length cs) ops ++ x ∷ []) (get_or_from_slice_get ops (length cs) o o at) ∙ ap (λ (xs : List Op). xs ++ o ∷ []) (sym (calls_first e h t all.0))) in
      let count : length (calls_of t (Call u o r ∷ h)) ≡ length cs + 1 = ap length here ∙ length_push cs o in
      here ∙ (sym more ∙ ap (λ (n : ℕ). take n ops) (sym count))
  | inr other ↦
      let here : calls_of t (Call u o r ∷ h) ≡ calls_of t h = cond-false (nat_eq t u) (calls_of t h ++ o ∷ []) (calls_of t h) other in
      here ∙ (calls_first e h t all.0 ∙ ap (λ (xs : List Op). take (length xs) (operations_of e.script t)) (sym here))
]

-- a thread that had more calls than operations took all, where it has as many lines
pub took_iff : (e : Evidence) (h : List Item) (t ops calls lines : ℕ) → AllPass e h → ops + 1 ≡ length (operations_of e.script t) → calls ≡ length (calls_of t h) → lines ≡ length (reply_lines e t) → ops < calls
    → (IsTrue (nat_eq lines ops) → TakesAllOf e h t) × (TakesAllOf e h t → IsTrue (nat_eq lines ops))
took_iff e h t ops calls lines all count had has more = (
  λ same.
      let equal = eqb-true lines ops same in
      (calls_first e h t all ∙ take_all (length (calls_of t h)) (operations_of e.script t) (omega (arith, count, had, more)), omega (arith, equal, has, count)),
  λ took. eq-eqb lines ops (let e = took.1 in omega (arith, e, has, count)),
)

-- ---- kinds

stands_as : (terms : Terms) (h : List Item) (trace : Option Trace) (n : ℕ) (k : Kind)
    → stands_by (must_collect terms h) (only_news_since_pause h) (option_map (λ (t : Trace). t.began) trace) n terms.trace terms.within k ≡ may_stand terms h trace n k
stands_as terms h None n kind.Plain = refl
stands_as terms h (Some t) n kind.Plain = refl
stands_as terms h None n kind.Begin = refl
stands_as terms h (Some t) n kind.Begin = refl
stands_as terms h None n (kind.End j) = refl
stands_as terms h (Some t) n (kind.End j) = refl
stands_as terms h None n kind.Collect = refl
stands_as terms h (Some t) n kind.Collect = refl

began_kept : (trace : Option Trace) → option_map began_of (option_map running_of trace) ≡ option_map (λ (t : Trace). t.began) trace
began_kept None = refl
began_kept (Some t) = refl

-- what is computed of a kind tells whether it may stand
pub stands_told : (e : Evidence) (h : List Item) (j : Judging) (answer must : Bool) (began : Option ℕ) (n trace within : ℕ) (k : Kind) → Keeps e j h
    → answer ≡ stands_by must j.progress.only_news began n trace within k → must ≡ must_collect e.terms h → began ≡ option_map began_of j.position.last.trace → n ≡ j.position.last.number + 1
    → trace ≡ e.terms.trace → within ≡ e.terms.within
    → IsTrue answer ↔ MayStand e.terms h (moment e.terms.threads h) ((moment e.terms.threads h).number + 1) k
stands_told e h j answer must began n trace within k keeps is must_is began_is n_is trace_is within_is =
    let m = moment e.terms.threads h in
    let last = keeps.position.last in
    let a : began ≡ option_map (λ (t : Trace). t.began) m.trace = began_is ∙ (ap (option_map began_of) last.trace ∙ began_kept m.trace) in
    let b : n ≡ m.number + 1 = n_is ∙ ap (λ (x : ℕ). x + 1) last.number in
    let same : answer ≡ may_stand e.terms h m.trace (m.number + 1) k =
    is ∙ (rw (must_is, keeps.progress.only_news, a, b, trace_is, within_is) (stands_as e.terms h m.trace (m.number + 1) k)) in
    (λ holds. (stand_iff e.terms h m (m.number + 1) k).0 (sym same ∙ holds), λ may. same ∙ (stand_iff e.terms h m (m.number + 1) k).1 may)

-- ---- full

pub not_full_here : (e : Evidence) (h : List Item) (j : Judging) (shape : Shape) → Keeps e j h → j.progress.collected ≡ false → (IsTrue false → MayBeFull e.terms h shape) × (MayBeFull e.terms h shape → IsTrue false)
not_full_here e h j shape keeps out = (
  λ never. absurd (true≢false (sym never)),
  λ full.
      let m = moment e.terms.threads h in
      let tested = and_parts (is_right_after_collecting h) (reached_leave_no_run e.terms.blocks (line_count shape) m) ((full_iff e.terms h shape).1 full) in
      sym out ∙ (keeps.progress.collected ∙ tested.0),
)

pub full_here : (e : Evidence) (h : List Item) (j : Judging) (shape : Shape) (full : Bool) (blocks lines : ℕ) → Keeps e j h → position.Tells j.position (reached_leave_no_run blocks lines) full → blocks ≡ e.terms.blocks
    → lines ≡ line_count shape → j.progress.collected ≡ true → IsTrue full ↔ MayBeFull e.terms h shape
full_here e h j shape full blocks lines keeps tells blocks_is lines_is here =
    let m = moment e.terms.threads h in
    let same : full ≡ reached_leave_no_run e.terms.blocks (line_count shape) m = tells m keeps.position ∙ (rw (blocks_is, lines_is) refl) in
    let after : is_right_after_collecting h ≡ true = sym keeps.progress.collected ∙ here in (
      λ is. (full_iff e.terms h shape).0 (and_from (is_right_after_collecting h) (reached_leave_no_run e.terms.blocks (line_count shape) m) after (sym same ∙ is)),
      λ may. same ∙ (and_parts (is_right_after_collecting h) (reached_leave_no_run e.terms.blocks (line_count shape) m) ((full_iff e.terms h shape).1 may)).1,
    )

-- where a `new` may not reply `full`, and its line says that, no reply is right
pub full_fails : (terms : Terms) (h : List Item) (t dest : ℕ) (shape : Shape) (r : Reply) (line : Option Text) → IsLineOf (op.New dest shape) reply.Full line → (MayBeFull terms h shape → ⊥)
    → Replies terms h t (op.New dest shape) r → IsPrinted (op.New dest shape) r line → ⊥
full_fails terms h t dest shape reply.Full line says never replies printed = never replies
full_fails terms h t dest shape r line says never replies printed =
    not_full terms h t dest shape line says (subst (λ (z : Reply). IsLineOf (op.New dest shape) z line) (sym replies) printed)

-- ---- runs

pub none_here : (e : Evidence) (h : List Item) (j : Judging) (shape : Shape) (none : Bool) (blocks lines : ℕ) → Keeps e j h → position.Tells j.position (kept_leave_no_run blocks lines) none
    → blocks ≡ e.terms.blocks - e.terms.evacuate → lines ≡ line_count shape → IsTrue none ↔ LeavesNoRun e h shape
none_here e h j shape none blocks lines keeps tells blocks_is lines_is =
    let m = moment e.terms.threads h in
    let same : none ≡ kept_leave_no_run (e.terms.blocks - e.terms.evacuate) (line_count shape) m = tells m keeps.position ∙ (rw (blocks_is, lines_is) refl) in (
      λ is. (run_iff m.state.graph (without (union m.made m.unreclaimed) (world_name ∷ [])) (e.terms.blocks - e.terms.evacuate) (line_count shape)).0 (sym same ∙ is),
      λ waits. same ∙ (run_iff m.state.graph (without (union m.made m.unreclaimed) (world_name ∷ [])) (e.terms.blocks - e.terms.evacuate) (line_count shape)).1 waits,
    )

-- ---- steps

-- the reply of a step is a reply, and no other is but `full`
pub step_replies : (terms : Terms) (h : List Item) (t : ℕ) (o : Op) → Replies terms h t o (step (state_at terms h) t o).1
step_replies terms h t (op.New dest shape) = refl
step_replies terms h t o = refl

pub other_fails : (terms : Terms) (h : List Item) (t : ℕ) (o : Op) (r : Reply) (line : Option Text) → SaysNoFull o line → (IsPrinted o (step (state_at terms h) t o).1 line → ⊥)
    → Replies terms h t o r → IsPrinted o r line → ⊥
other_fails terms h t (op.New dest shape) reply.Full line none never replies printed = none printed
other_fails terms h t (op.New dest shape) r line none never replies printed = never (subst (λ (z : Reply). IsPrinted (op.New dest shape) z line) (sym replies) printed)
other_fails terms h t o r line none never replies printed = never (subst (λ (z : Reply). IsPrinted o z line) (sym replies) printed)

-- an operation that is no `new` has no line that says `full`
pub says_none : (o : Op) (line : Option Text) → ((dest : ℕ) (shape : Shape) → o ≡ op.New dest shape → ⊥) → SaysNoFull o line
says_none (op.New dest shape) line other = absurd (other dest shape refl)
says_none o line other = tt

-- what would say that a false test holds is never the case
pub never : {P : Type 0} (b : Bool) → b ≡ false → (P → IsTrue b) → P → ⊥
never b out holds p = true≢false (sym (holds p) ∙ out)

-- ---- threads

pub one_further : (e : Evidence) (h : List Item) (n t : ℕ) → ((u : ℕ) → 1 ≤ u → u ≤ n → TakesAllOf e h u) → TakesAllOf e h (n + 1) → 1 ≤ t → t ≤ n + 1 → TakesAllOf e h t
one_further e h n t before here low high = elim (cases_lt n t) [
  | inr within ↦ before t low within
  | inl next ↦ let is : n + 1 ≡ t = omega (arith, next, high) in subst (λ (u : ℕ). TakesAllOf e h u) is here
]

pub none_further : (e : Evidence) (h : List Item) (n t : ℕ) (b : Bool) → ((u : ℕ) → u ≤ n → IsReason e h u → ⊥) → b ≡ false → (IsReason e h (n + 1) → IsTrue b) → t ≤ n + 1 → IsReason e h t → ⊥
none_further e h n t b before out holds high reason = elim (cases_lt n t) [
  | inr within ↦ before t within reason
  | inl next ↦ let is : t ≡ n + 1 = omega (arith, next, high) in never b out holds (subst (λ (u : ℕ). IsReason e h u) is reason)
]

-- ---- a collecting pause

pub collects_here : (e : Evidence) (h : List Item) (must : Bool) → must ≡ true → must ≡ must_collect e.terms h → IsTrue true ↔ MayCollectHere e h
collects_here e h must holds is = (λ a. λ never_must. absurd (never_must (must_right e.terms h (sym is ∙ holds))), λ may. refl)

pub waits_here : (e : Evidence) (h : List Item) (must waits : Bool) → must ≡ false → must ≡ must_collect e.terms h → (IsTrue waits ↔ ((t : ℕ) × (o : Op) × IsWaiting e h t o)) → IsTrue waits ↔ MayCollectHere e h
waits_here e h must waits out is told = (λ a. λ never_must. told.0 a, λ may. told.1 (may (λ asked. true≢false (sym (must_test e.terms h asked) ∙ (sym is ∙ out)))))

pub pause_collects : (e : Evidence) (h : List Item) (k : Kind) (stands reason may : Bool) → k ≡ kind.Collect → stands ≡ true → reason ≡ true
    → (IsTrue stands ↔ MayStand e.terms h (moment e.terms.threads h) ((moment e.terms.threads h).number + 1) k) → (IsTrue reason ↔ HasReason e h) → (IsTrue may ↔ MayCollectHere e h) → IsTrue may ↔ MayPause e h k
pause_collects e h k stands reason may is a b stand has told =
    (λ holds. (stand.0 a, has.0 b, λ waits. told.0 holds waits.1), λ all. told.1 (λ never_must. all.2 (is, never_must)))

pub pause_other : (e : Evidence) (h : List Item) (k : Kind) (stands reason : Bool) → (k ≡ kind.Collect → ⊥) → stands ≡ true → reason ≡ true
    → (IsTrue stands ↔ MayStand e.terms h (moment e.terms.threads h) ((moment e.terms.threads h).number + 1) k) → (IsTrue reason ↔ HasReason e h) → IsTrue true ↔ MayPause e h k
pause_other e h k stands reason other a b stand has = (λ holds. (stand.0 a, has.0 b, λ waits. absurd (other waits.0)), λ all. refl)

-- ---- a judge at work

pub seats_few : (e : Evidence) (t : ℕ) → IsReadable e → t ≤ e.terms.threads → t ≤ 16
seats_few e t readable high = let few = readable.script.greatest in let count = readable.threads in omega (arith, high, few, count)

pub short_here : (e : Evidence) (j : Judging) (h : List Item) → IsJudging e j → Keeps e j h → length h + 1 < 2 ^ 32
short_here e j h judging keeps =
    let a = keeps.progress.items in
    let b = judging.keeps.progress.items in
    let c = judging.left in
    let d = judging.readable.order in
    omega (arith, a, b, c, d)

pub number_small : (e : Evidence) (j : Judging) → IsJudging e j → j.position.last.number < 2 ^ 32 - 1
number_small e j judging =
    let a = judging.keeps.position.last.number in
    let b = number_is e judging.history judging.pass in
    let few = pauses_few judging.history in
    let c = judging.left in
    let d = judging.readable.order in
    omega (arith, a, b, few, c, d)

pub number_next : (e : Evidence) (j : Judging) (h : List Item) (n : ℕ) → IsJudging e j → Keeps e j h → n ≡ min (j.position.last.number + 1) (2 ^ 32 - 1) → n ≡ (moment e.terms.threads h).number + 1
number_next e j h n judging keeps is =
    let a = keeps.position.last.number in
    let b = number_small e j judging in
    omega (arith, is, a, b)

-- the page doesn't matter while it is empty
pub keep_page : (e : Evidence) (j k : Judging) (h : List Item) → k.position ≡ j.position → k.progress ≡ j.progress → k.page ≡ [] → Keeps e j h → Keeps e k h
keep_page e j k h position_is progress_is page keeps = record {
  position = subst (λ (p : Present). IsAt p (moment e.terms.threads h)) (sym position_is) keeps.position;
  progress = subst (λ (p : Progress). Tells e.terms p h) (sym progress_is) keeps.progress;
  page = page;
}

pub judging_page : (e : Evidence) (j k : Judging) → k.position ≡ j.position → k.progress ≡ j.progress → k.page ≡ [] → IsJudging e j → IsJudging e k
judging_page e j k position_is progress_is page judging = record {
  readable = judging.readable;
  history = judging.history;
  keeps = keep_page e j k judging.history position_is progress_is page judging.keeps;
  pass = judging.pass;
  left = judging.left;
}

-- a trial that failed leaves the judge where it stood
pub stays_keeps : (e : Evidence) (j k : Judging) (h : List Item) (b : Bool) → b ≡ false → Stays j k b → Keeps e j h → Keeps e k h
stays_keeps e j k h true out stays keeps = absurd (true≢false out)
stays_keeps e j k h false out stays keeps = subst (λ (z : Judging). Keeps e z h) (sym stays) keeps

pub stays_judging : (e : Evidence) (j k : Judging) (b : Bool) → b ≡ false → Stays j k b → IsJudging e j → IsJudging e k
stays_judging e j k true out stays judging = absurd (true≢false out)
stays_judging e j k false out stays judging = subst (IsJudging e) (sym stays) judging

-- behind a `full` nothing but what is counted has changed
pub keep_full : (e : Evidence) (j k : Judging) (h : List Item) (t dest : ℕ) (shape : Shape) → k.position ≡ j.position → k.progress ≡ called j.progress t (op.New dest shape) reply.Full → k.page ≡ j.page → 1 ≤ t → t ≤ 16
    → length h + 1 < 2 ^ 32 → Keeps e j h → Keeps e k (Call t (op.New dest shape) reply.Full ∷ h)
keep_full e j k h t dest shape position_is progress_is page_is low high short keeps = record {
  position = subst (λ (p : Present). IsAt p (moment e.terms.threads h)) (sym position_is) keeps.position;
  progress = subst (λ (p : Progress). Tells e.terms p (Call t (op.New dest shape) reply.Full ∷ h)) (sym progress_is) (call_told j.progress e.terms h t (op.New dest shape) reply.Full low high short keeps.progress);
  page = page_is ∙ keeps.page;
}

pub keep_call : (e : Evidence) (j k : Judging) (h : List Item) (t : ℕ) (o : Op) (r : Reply) → position.MovesByCall j.position k.position t o r → k.progress ≡ called j.progress t o r → k.page ≡ [] → 1 ≤ t → t ≤ 16
    → length h + 1 < 2 ^ 32 → Keeps e j h → Keeps e k (Call t o r ∷ h)
keep_call e j k h t o r moves progress_is page low high short keeps = record {
  position = moves (moment e.terms.threads h) keeps.position;
  progress = subst (λ (p : Progress). Tells e.terms p (Call t o r ∷ h)) (sym progress_is) (call_told j.progress e.terms h t o r low high short keeps.progress);
  page = page;
}

pub keep_pause : (e : Evidence) (j k : Judging) (h : List Item) (report : PauseReport) (i : Kind) (threads : ℕ) → position.MovesByPause j.position k.position report → CanBe (moment e.terms.threads h) i
    → report ≡ report_at (moment e.terms.threads h) i → k.progress ≡ paused j.progress threads i → threads ≡ e.terms.threads → k.page ≡ [] → length h + 1 < 2 ^ 32 → Keeps e j h → Keeps e k (Pause report ∷ h)
keep_pause e j k h report i threads moves can is progress_is threads_is page short keeps =
    let m = moment e.terms.threads h in
    let kind_is : report.kind ≡ i = ap (λ (r : PauseReport). r.kind) is in
    record {
      position = moves m keeps.position (subst (CanBe m) (sym kind_is) can) (is ∙ ap (report_at m) (sym kind_is));
      progress = subst (λ (p : Progress). Tells e.terms p (Pause report ∷ h)) (sym (progress_is ∙ (ap (λ (n : ℕ). paused j.progress n i) threads_is ∙ ap (paused j.progress e.terms.threads) (sym kind_is))))
          (pause_told j.progress e.terms h report short keeps.progress);
      page = page;
    }

-- ---- what a step asks for

pub seat_there : (e : Evidence) (j : Judging) (t : ℕ) → IsJudging e j → 1 ≤ t → t ≤ e.terms.threads → (0 < t) × (t < length j.position.state.graph)
seat_there e j t judging low high =
    let a = ap (λ (s : State). length s.graph) judging.keeps.position.state in
    let b = rows_are e.terms.threads judging.history (pass_unrenewed e judging.history judging.pass) in
    (omega (arith, low), omega (arith, high, a, b))

pub row_there : (e : Evidence) (j : Judging) (t : ℕ) → IsJudging e j → 1 ≤ t → length (row_of j.position.state.graph t) < 2 ^ 32 - 1
row_there e j t judging low =
    let a = ap (λ (s : State). length (row_of s.graph t)) judging.keeps.position.state in
    let b = row_short e.terms.threads t judging.history (pass_unrenewed e judging.history judging.pass) low in
    let few = calls_few t judging.history in
    let c = judging.left in
    let d = judging.readable.order in
    omega (arith, a, b, few, c, d)

-- an operation that was found is well formed
pub formed_some : (e : Evidence) (t k : ℕ) (found : Option Op) → found ≡ slice_get (operations_of e.script t) k → 1 ≤ t → t ≤ e.terms.threads → IsReadable e → IfSome found IsWellFormed
formed_some e t k None is low high readable = tt
formed_some e t k (Some o) is low high readable = formed_more SCRIPT_REGISTERS REGISTERS o (lit≤ tt) (scripted_next e t k o readable low high (sym is))

-- and names registers that the terms allow
pub named_some : (e : Evidence) (t k : ℕ) (found : Option Op) → found ≡ slice_get (operations_of e.script t) k → 1 ≤ t → t ≤ e.terms.threads → IsReadable e → IfSome found (IsFormedFor e.terms.registers)
named_some e t k None is low high readable = tt
named_some e t k (Some o) is low high readable = subst (λ n. IsFormedFor n o) (sym readable.registers) (scripted_next e t k o readable low high (sym is))

-- the reply of the step that a position took is that of the step behind h
pub step_is : (e : Evidence) (j : Judging) (h : List Item) (t : ℕ) (o : Op) (r : Reply) (after : State) → Keeps e j h → step j.position.state t o ≡ (after, r) → (step (state_at e.terms h) t o).1 ≡ r
step_is e j h t o r after keeps taken = sym (ap (λ (s : State). (step s t o).1) keeps.position.state) ∙ ap (λ (p : State × Reply). p.1) taken
