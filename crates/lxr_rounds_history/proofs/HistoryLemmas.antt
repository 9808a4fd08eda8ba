-- How the history of a run grows: by the calls of an epoch, by the call of a `new` that waited, by a pause that has a
-- cause, and by its end.
use Rattle.std.proofs.Common.{◌≡◌, ℕ, suc, ◌-◌, ◌<◌, ◌≤◌, refl, sym, ap, subst, ◌∙◌, inr, arith, Bool, true, false, List, [], ◌∷◌, ◌++◌, length, drop, nat_eq}
use Rattle.std.specs.Prelude.{All, Some, slice_get, slice_index_or, if◌then◌else◌}
use Rattle.std.proofs.Math.Seq.{take-append_seam}
use Rattle.std.proofs.lemmas.List.{get_or_push, length_push, take-append-drop}
use Rattle.std.proofs.lemmas.List.Elements.{All-push, All-take}
use Rattle.std.proofs.lemmas.Bool.{eq-eqb}
use Rattle.std.proofs.lemmas.Bool.Decides.{nat_tests}
use Rattle.lxr_graph.specs.declared.Op.{Op}
use Rattle.lxr_graph.specs.declared.Op.TheVariants as op
use Rattle.lxr_graph.specs.declared.Reply.{Reply}
use Rattle.lxr_graph.specs.declared.Reply.TheVariants as reply
use Rattle.lxr_graph.specs.History.{Item, Call, Pause, Renew, PauseReport, calls_of}
use Rattle.lxr_graph.specs.Step.{IsFormedFor, IsReply}
use Rattle.lxr_model.specs.Moments.{moment}
use Rattle.lxr_model.specs.Kinds.{ends}
use Rattle.lxr_model.specs.Legal.{IsLegalSoFar, IsPause, KeepsPromise, OwesNoCall, Replies}
use Rattle.lxr_model.specs.Terms.{Terms}
use Rattle.lxr_model.specs.Belongs.{AskedPausesComeFirst, CallsBeginOperations, EarlierPausesWereEarly, HasCause, IsHistorySoFar, LastPauseWasEarly, PausesHaveCauses, Script, TurnsAreShort, calls_since_pause, has_asked, next_operation, operations_of}
use Rattle.lxr_model_laws.specs.ScriptLaws.{GoesOn}
use Rattle.lxr_model_laws.proofs.ScriptLemmas.{as_many_go_on, causes_on}
use Rattle.lxr_core_invariant.specs.EpochStates.{Extends, same, called}
use Rattle.lxr_rounds_history.specs.Plan.{Plan}
use Rattle.lxr_rounds_history.specs.Growing.{CallsBeginScript, HasEnded, NamesFew}
use Rattle.lxr_rounds_history.specs.Histories.{IsHistoryWith, plan_terms, script_terms_with}

-- ---- promises

-- where no pause stands at the end for a `new` that is still to come, anything may come
pub promise_kept : (terms : Terms) (h : List Item) (x : Item) → OwesNoCall terms h → KeepsPromise terms h x
promise_kept terms [] x none = tt
promise_kept terms (Renew ns ∷ h) x none = tt
promise_kept terms (Call t o r ∷ h) x none = tt
promise_kept terms (Pause report ∷ h) x none = λ waiting. absurd (none waiting)

-- so it is after the calls of an epoch
pub owes_extends : (terms : Terms) (threads every : ℕ) (h k : List Item) → Extends threads every h k → OwesNoCall terms h → OwesNoCall terms k
owes_extends terms threads every h k (same) none = none
owes_extends terms threads every h k (called l t o r before is) none = tt

-- ---- the calls of an epoch

-- the reply of a step may stand
pub replies_in : (renews : Bool) (plan : Plan) (threads : ℕ) (h : List Item) (t : ℕ) (o : Op) (r : Reply) → IsReply (moment threads h).state t o r → Replies (plan_terms renews plan threads) h t o r
replies_in renews plan threads h t (op.New dest shape) reply.Full is = absurd (cc)
replies_in renews plan threads h t (op.New dest shape) r is = is
replies_in renews plan threads h t o r is = is

-- a call counts for its own thread
pub since_call : (t : ℕ) (o : Op) (r : Reply) (h : List Item) → calls_since_pause t (Call t o r ∷ h) ≡ suc (calls_since_pause t h)
since_call t o r h = ap (λ b. if b then suc (calls_since_pause t h) else calls_since_pause t h) (eq-eqb t t refl)

-- each call of a thread names few registers
abbrev pub CallsNameFew : ℕ → ℕ → List Item → Type 0
CallsNameFew registers threads h = (t : ℕ) → 1 ≤ t → t ≤ threads → All (IsFormedFor registers) (calls_of t h)

-- so it is where each is one of its operations, or its end
calls_name_few : (registers : ℕ) (script : Script) (h : List Item) → NamesFew registers script → CallsBeginScript script h → CallsNameFew registers (length script) h
calls_name_few registers script h few begun t low high =
    let (n, calls) = begun t low high in
    let asked : All (IsFormedFor registers) (operations_of script t) = All-push (IsFormedFor registers) (slice_index_or script (t - 1) []) op.End (few (t - 1) [] (omega (arith, low, high))) tt in
    subst (All (IsFormedFor registers)) (sym calls) (All-take (IsFormedFor registers) n (operations_of script t) asked)

-- of a list with one more item, all but that one
all_but_last : {X : Type 0} (P : X → Type 0) (xs : List X) (x : X) → All P (xs ++ x ∷ []) → All P xs
all_but_last P xs x all = subst (All P) (take-append_seam xs (x ∷ [])) (All-take P (length xs) (xs ++ x ∷ []) all)

-- and that one
last_of_all : {X : Type 0} (P : X → Type 0) (xs : List X) (x : X) → All P (xs ++ x ∷ []) → P x
last_of_all P xs x all = let one = length_push xs x in subst P (get_or_push xs x x (length xs) refl) (all (length xs) x (omega (arith, one)))

-- it is so before the newest call
before_call : (registers threads t : ℕ) (o : Op) (r : Reply) (h : List Item) → CallsNameFew registers threads (Call t o r ∷ h) → CallsNameFew registers threads h
before_call registers threads t o r h few u low high = by (nat_eq u t) (few u low high)
  where
    by : (mine : Bool) → All (IsFormedFor registers) (if mine then calls_of u h ++ o ∷ [] else calls_of u h) → All (IsFormedFor registers) (calls_of u h)
    by true all = all_but_last (IsFormedFor registers) (calls_of u h) o all
    by false all = all

-- and of that one
newest_call : (registers threads t : ℕ) (o : Op) (r : Reply) (h : List Item) → (1 ≤ t) × (t ≤ threads) → CallsNameFew registers threads (Call t o r ∷ h) → IsFormedFor registers o
newest_call registers threads t o r h thread few =
    last_of_all (IsFormedFor registers) (calls_of t h) o
    (subst (λ b. All (IsFormedFor registers) (if b then calls_of t h ++ o ∷ [] else calls_of t h)) (eq-eqb t t refl) (few t thread.0 thread.1))

-- the calls of an epoch are legal where they name no more registers than the plan allows
pub legal_extends : (renews : Bool) (plan : Plan) (threads every : ℕ) (h k : List Item) → Extends threads every h k → CallsNameFew plan.registers threads k → IsLegalSoFar (plan_terms renews plan threads) h
    → OwesNoCall (plan_terms renews plan threads) h → IsLegalSoFar (plan_terms renews plan threads) k
legal_extends renews plan threads every h k (same) few legal none = legal
legal_extends renews plan threads every h k (called l t o r before is) few legal none =
    let was = legal_extends renews plan threads every h l before (before_call plan.registers threads t o r l few) legal none in
    let owes = owes_extends (plan_terms renews plan threads) threads every h l before none in
    let formed = newest_call plan.registers threads t o r l is.thread few in
    (was, promise_kept (plan_terms renews plan threads) l (Call t o r) owes, record { thread = is.thread; operation = formed; reply = replies_in renews plan threads l t o r is.reply })

-- none stands where its thread waits for a pause that it asked for
pub asked_extends : (threads every : ℕ) (h k : List Item) → Extends threads every h k → AskedPausesComeFirst h → AskedPausesComeFirst k
asked_extends threads every h k (same) first = first
asked_extends threads every h k (called l t o r before is) first = (asked_extends threads every h l before first, is.unasked)

-- turns stay short
pub turns_extend : (renews : Bool) (plan : Plan) (threads : ℕ) (h k : List Item) → Extends threads plan.every h k → TurnsAreShort (plan_terms renews plan threads) h → TurnsAreShort (plan_terms renews plan threads) k
turns_extend renews plan threads h k (same) short = short
turns_extend renews plan threads h k (called l t o r before is) short =
    (turns_extend renews plan threads h l before short, let turn = is.turn in let one = since_call t o r l in omega arith)

-- no pause is among them
pub causes_extend : (renews : Bool) (plan : Plan) (script : Script) (every : ℕ) (h k : List Item) → Extends (length script) every h k
    → PausesHaveCauses (script_terms_with renews plan script) script h → PausesHaveCauses (script_terms_with renews plan script) script k
causes_extend renews plan script every h k (same) causes = causes
causes_extend renews plan script every h k (called l t o r before is) causes = causes_extend renews plan script every h l before causes

-- so the last pause stays
pub early_extends : (renews : Bool) (plan : Plan) (script : Script) (every : ℕ) (h k : List Item) → Extends (length script) every h k
    → LastPauseWasEarly (script_terms_with renews plan script) h → LastPauseWasEarly (script_terms_with renews plan script) k
early_extends renews plan script every h k (same) early = early
early_extends renews plan script every h k (called l t o r before is) early = early_extends renews plan script every h l before early

-- and those before it
pub earlier_extends : (renews : Bool) (plan : Plan) (script : Script) (every : ℕ) (h k : List Item) → Extends (length script) every h k
    → EarlierPausesWereEarly (script_terms_with renews plan script) h → EarlierPausesWereEarly (script_terms_with renews plan script) k
earlier_extends renews plan script every h k (same) early = early
earlier_extends renews plan script every h k (called l t o r before is) early = earlier_extends renews plan script every h l before early

-- as many of a thread's operations and its end are a beginning of them
pub calls_begin : (renews : Bool) (plan : Plan) (script : Script) (h : List Item) → CallsBeginScript script h → CallsBeginOperations (script_terms_with renews plan script) script h
calls_begin renews plan script h begun = λ t low high.
    let (n, calls) = begun t low high in
    (drop n (operations_of script t), ap (λ z. z ++ drop n (operations_of script t)) calls ∙ take-append-drop n (operations_of script t))

-- after an epoch it is a history so far of all that was asked by then
pub history_extends : (renews : Bool) (plan : Plan) (script script' : Script) (h k : List Item) → IsHistorySoFar (script_terms_with renews plan script) script h → OwesNoCall (script_terms_with renews plan script) h
    → GoesOn script script' → NamesFew plan.registers script' → Extends (length script) plan.every h k → CallsBeginScript script' k → IsHistorySoFar (script_terms_with renews plan script') script' k
history_extends renews plan script script' h k (legal, belongs) none on few extends begun =
    let many = as_many_go_on script script' on in
    subst (λ n. IsHistorySoFar (plan_terms renews plan n) script' k) (sym many) (
      legal_extends renews plan (length script) plan.every h k extends (subst (λ n. CallsNameFew plan.registers n k) many (calls_name_few plan.registers script' k few begun)) legal none,
      record {
        calls = subst (λ n. CallsBeginOperations (plan_terms renews plan n) script' k) many (calls_begin renews plan script' k begun);
        asked = asked_extends (length script) plan.every h k extends belongs.asked;
        turns = turns_extend renews plan (length script) h k extends belongs.turns;
        causes = causes_on (script_terms_with renews plan script) script script' k on (causes_extend renews plan script plan.every h k extends belongs.causes);
        early = earlier_extends renews plan script plan.every h k extends belongs.early;
      },
    )

-- ---- a call between two epochs

-- what is asked of a call that comes next
pub record MayBeCalled (renews : Bool) (plan : Plan) (script : Script) (h : List Item) (t : ℕ) (o : Op) (r : Reply) : Type 0 where
  pub thread : (1 ≤ t) × (t ≤ length script)
  pub formed : IsFormedFor plan.registers o
  pub replies : Replies (script_terms_with renews plan script) h t o r
  pub promise : KeepsPromise (script_terms_with renews plan script) h (Call t o r)
  pub next : next_operation script t h ≡ Some o
  pub unasked : has_asked t h ≡ false
  pub turn : calls_since_pause t h ≤ plan.every

-- the item behind the front of a list comes first in its rest
behind_front : (front rest all : List Op) (o : Op) → front ++ rest ≡ all → slice_get all (length front) ≡ Some o → (tail : List Op) × ((front ++ o ∷ []) ++ tail ≡ all)
behind_front [] [] all o whole at = absurd (let none : slice_get [] 0 ≡ Some o = subst (λ z. slice_get z 0 ≡ Some o) (sym whole) at in cc)
behind_front [] (p ∷ rest) all o whole at =
    let first : Some p ≡ Some o = subst (λ z. slice_get z 0 ≡ Some o) (sym whole) at in
    let is : p ≡ o = cc in
    (rest, subst (λ z. z ∷ rest ≡ all) is whole)
behind_front (p ∷ front) rest [] o whole at = absurd (cc)
behind_front (p ∷ front) rest (q ∷ all) o whole at =
    let tails : front ++ rest ≡ all = cc in
    let heads : p ≡ q = cc in
    let (tail, e) = behind_front front rest all o tails at in
    (tail, ap (λ z. p ∷ z) e ∙ ap (λ z. z ∷ all) heads)

-- a thread's calls with one more, where it is that thread's
one_called : (mine : Bool) (calls rest all : List Op) (o : Op) → calls ++ rest ≡ all → (mine ≡ true → slice_get all (length calls) ≡ Some o)
    → (tail : List Op) × ((if mine then calls ++ o ∷ [] else calls) ++ tail ≡ all)
one_called true calls rest all o whole next = behind_front calls rest all o whole (next refl)
one_called false calls rest all o whole next = (rest, whole)

-- the next operation of a thread joins its calls
calls_with : (renews : Bool) (plan : Plan) (script : Script) (h : List Item) (t : ℕ) (o : Op) (r : Reply) → CallsBeginOperations (script_terms_with renews plan script) script h → next_operation script t h ≡ Some o
    → CallsBeginOperations (script_terms_with renews plan script) script (Call t o r ∷ h)
calls_with renews plan script h t o r calls next = λ u low high.
    let (rest, whole) = calls u low high in
    one_called (nat_eq u t) (calls_of u h) rest (operations_of script u) o whole
    (λ mine. let is : t ≡ u = grind (arith, nat_tests) in subst (λ v. next_operation script v h ≡ Some o) is next)

-- with it the history is one so far
pub history_with_call : (renews : Bool) (plan : Plan) (script : Script) (h : List Item) (t : ℕ) (o : Op) (r : Reply) → IsHistorySoFar (script_terms_with renews plan script) script h
    → MayBeCalled renews plan script h t o r → IsHistorySoFar (script_terms_with renews plan script) script (Call t o r ∷ h)
history_with_call renews plan script h t o r (legal, belongs) may = (
  (legal, may.promise, record { thread = may.thread; operation = may.formed; reply = may.replies }),
  record {
    calls = calls_with renews plan script h t o r belongs.calls may.next;
    asked = (belongs.asked, may.unasked);
    turns = (belongs.turns, let turn = may.turn in let one = since_call t o r h in omega arith);
    causes = belongs.causes;
    early = belongs.early;
  },
)

-- ---- a pause

-- so it is with a pause that has a cause and may stand there, where at the last one not all threads had ended
pub history_with_pause : (renews : Bool) (plan : Plan) (script : Script) (h : List Item) (report : PauseReport) → IsHistorySoFar (script_terms_with renews plan script) script h
    → OwesNoCall (script_terms_with renews plan script) h → IsPause (script_terms_with renews plan script) h report → HasCause (script_terms_with renews plan script) script h
    → LastPauseWasEarly (script_terms_with renews plan script) h → IsHistorySoFar (script_terms_with renews plan script) script (Pause report ∷ h)
history_with_pause renews plan script h report (legal, belongs) none pause cause early = (
  (legal, promise_kept (script_terms_with renews plan script) h (Pause report) none, pause),
  record { calls = belongs.calls; asked = belongs.asked; turns = belongs.turns; causes = (belongs.causes, cause); early = early },
)

-- ---- the end

-- where not all threads have ended, they hadn't at the last pause
pub was_early : (renews : Bool) (plan : Plan) (script : Script) (h : List Item) → ends h < length script → LastPauseWasEarly (script_terms_with renews plan script) h
was_early renews plan script [] more = tt
was_early renews plan script (Renew ns ∷ h) more = tt
was_early renews plan script (Pause report ∷ h) more = more
was_early renews plan script (Call t op.End r ∷ h) more = was_early renews plan script h (omega arith)
was_early renews plan script (Call t o r ∷ h) more = was_early renews plan script h more

-- where all threads have ended, the next pause makes it whole
pub history_whole : (renews : Bool) (plan : Plan) (script : Script) (h : List Item) (report : PauseReport) → IsHistorySoFar (script_terms_with renews plan script) script (Pause report ∷ h)
    → HasEnded script h → IsHistoryWith renews plan script (Pause report ∷ h)
history_whole renews plan script h report (legal, belongs) whole = record {
  legal = (legal, λ waiting. waiting.1 (inr whole.ended));
  belongs = record {
    calls = whole.calls;
    asked = belongs.asked;
    turns = belongs.turns;
    causes = belongs.causes;
    last = (whole.ended, belongs.early);
  };
}
