-- What is said of a history and a script is said of the history and a script that goes on from it: what a thread is to do next stays, unless
-- that is its end.
use Rattle.std.proofs.Common.{◌≡◌, ℕ, zero, suc, ◌-◌, refl, sym, ap, subst, ◌∙◌, inl, inr, ⊎_elim, arith, ◌<◌, ◌≤◌, Bool, true, false, IsTrue, List, [], ◌∷◌, ◌++◌, length, append-nil}
use Rattle.std.specs.Prelude.{None, Option, Some, slice_get, slice_index_or}
use Rattle.std.proofs.lemmas.Bool.{cases_lt}
use Rattle.std.proofs.lemmas.List.{append_assoc, get_or_past}
use Rattle.lxr_graph.specs.declared.Op.{Op}
use Rattle.lxr_graph.specs.declared.Op.TheVariants as op
use Rattle.lxr_graph.specs.History.{Call, Item, Pause, Renew, calls_of}
use Rattle.lxr_model.specs.Belongs.{CallsBeginOperations, HasCause, IsCauseOf, PausesHaveCauses, Script, is_new, next_operation, operations_of, writes_reference}
use Rattle.lxr_model.specs.Terms.{Terms}
use Rattle.lxr_model_laws.specs.ScriptLaws.{EndedAreAskedNoMore, GoesOn, ScriptsMayGrow}

-- ---- a script that goes on

-- each script goes on from itself
pub goes_on_itself : (script : Script) → GoesOn script script
goes_on_itself [] = tt
goes_on_itself (asked ∷ script) = (([], sym (append-nil asked)), goes_on_itself script)

-- and from what it went on from before
pub goes_on_further : (script script' script'' : Script) → GoesOn script script' → GoesOn script' script'' → GoesOn script script''
goes_on_further [] [] [] on further = tt
goes_on_further (asked ∷ script) (asked' ∷ script') (asked'' ∷ script'') ((more, is), on) ((more', is'), further) =
    ((more ++ more', is' ∙ ap (λ os. os ++ more') is ∙ append_assoc asked more more'), goes_on_further script script' script'' on further)
goes_on_further [] [] (asked'' ∷ script'') on further = absurd further
goes_on_further [] (asked' ∷ script') script'' on further = absurd on
goes_on_further (asked ∷ script) [] script'' on further = absurd on
goes_on_further (asked ∷ script) (asked' ∷ script') [] on further = absurd further

-- it is for as many threads
pub as_many_go_on : (script script' : Script) → GoesOn script script' → length script' ≡ length script
as_many_go_on [] [] on = refl
as_many_go_on (asked ∷ script) (asked' ∷ script') on = ap suc (as_many_go_on script script' on.1)
as_many_go_on [] (asked' ∷ script') on = absurd on
as_many_go_on (asked ∷ script) [] on = absurd on

-- what the thread at an index is asked for goes on
asked_on : (script script' : Script) (n : ℕ) → GoesOn script script' → (more : List Op) × (slice_index_or script' n [] ≡ slice_index_or script n [] ++ more)
asked_on [] [] zero on = ([], refl)
asked_on [] [] (suc n) on = ([], refl)
asked_on (asked ∷ script) (asked' ∷ script') zero on = on.0
asked_on (asked ∷ script) (asked' ∷ script') (suc n) on = asked_on script script' n on.1
asked_on [] (asked' ∷ script') n on = absurd on
asked_on (asked ∷ script) [] n on = absurd on

-- ---- causes

-- what a test finds at an index, neither the end nor nothing, it finds there where more is asked for
found : (f : Option Op → Bool) (asked more : List Op) (k : ℕ) → f (Some op.End) ≡ false → f None ≡ false → IsTrue (f (slice_get (asked ++ op.End ∷ []) k)) → IsTrue (f (slice_get ((asked ++ more) ++ op.End ∷ []) k))
found f [] more zero end none h = absurd (let both : false ≡ true = sym end ∙ h in cc)
found f [] more (suc k) end none h = absurd (let both : false ≡ true = sym none ∙ h in cc)
found f (o ∷ asked) more zero end none h = h
found f (o ∷ asked) more (suc k) end none h = found f asked more k end none h

-- so of the operation that comes next
found_next : (f : Option Op → Bool) (script script' : Script) (h : List Item) (t : ℕ) → f (Some op.End) ≡ false → f None ≡ false → GoesOn script script'
    → IsTrue (f (next_operation script t h)) → IsTrue (f (next_operation script' t h))
found_next f script script' h t end none on is =
    let (more, asked) = asked_on script script' (t - 1) on in
    subst (λ os. IsTrue (f (slice_get (os ++ op.End ∷ []) (length (calls_of t h))))) (sym asked) (found f (slice_index_or script (t - 1) []) more (length (calls_of t h)) end none is)

-- a thread is a cause still
cause_on : (terms : Terms) (script script' : Script) (h : List Item) (t : ℕ) → GoesOn script script' → IsCauseOf terms script h t → IsCauseOf terms script' h t
cause_on terms script script' h t on (inl asked) = inl asked
cause_on terms script script' h t on (inr (inl turn)) = inr (inl turn)
cause_on terms script script' h t on (inr (inr (inl (new, taken)))) = inr (inr (inl (found_next is_new script script' h t refl refl on new, taken)))
cause_on terms script script' h t on (inr (inr (inr (writes, full)))) = inr (inr (inr (found_next writes_reference script script' h t refl refl on writes, full)))

pub has_cause_on : (terms : Terms) (script script' : Script) (h : List Item) → GoesOn script script' → HasCause terms script h → HasCause terms script' h
has_cause_on terms script script' h on (inl ended) = inl ended
has_cause_on terms script script' h on (inr (t, first, last, cause)) = inr (t, first, last, cause_on terms script script' h t on cause)

-- so is each pause's
pub causes_on : (terms : Terms) (script script' : Script) (h : List Item) → GoesOn script script' → PausesHaveCauses terms script h → PausesHaveCauses terms script' h
causes_on terms script script' [] on have = tt
causes_on terms script script' (Renew ns ∷ h) on have = tt
causes_on terms script script' (Call t o r ∷ h) on have = causes_on terms script script' h on have
causes_on terms script script' (Pause report ∷ h) on have = (causes_on terms script script' h on have.0, has_cause_on terms script script' h on have.1)

-- ---- calls

-- calls that begin what was asked for and its end, and aren't all of that, begin what was asked for
within_asked : (calls asked rest : List Op) (o : Op) → calls ++ o ∷ rest ≡ asked ++ op.End ∷ [] → (left : List Op) × (asked ≡ calls ++ left)
within_asked [] asked rest o begin = (asked, refl)
within_asked (c ∷ calls) [] rest o begin = absurd (none calls (let tails : calls ++ o ∷ rest ≡ [] = cc in tails))
  where
    none : (calls : List Op) → calls ++ o ∷ rest ≡ [] → ⊥
    none [] e = cc
    none (d ∷ calls) e = cc
within_asked (c ∷ calls) (a ∷ asked) rest o begin =
    let heads : c ≡ a = cc in
    let tails : calls ++ o ∷ rest ≡ asked ++ op.End ∷ [] = cc in
    let (left, is) = within_asked calls asked rest o tails in
    (left, ap (λ x. x ∷ asked) (sym heads) ∙ ap (λ os. c ∷ os) is)

-- so they begin what is asked for with more
begin_on : (calls rest asked asked' more : List Op) → asked' ≡ asked ++ more → (calls ≡ asked ++ op.End ∷ [] → asked' ++ op.End ∷ [] ≡ asked ++ op.End ∷ []) → calls ++ rest ≡ asked ++ op.End ∷ []
    → (rest' : List Op) × (calls ++ rest' ≡ asked' ++ op.End ∷ [])
begin_on calls [] asked asked' more is ended begin = ([], begin ∙ sym (ended (sym (append-nil calls) ∙ begin)))
begin_on calls (o ∷ rest) asked asked' more is ended begin =
    let (left, within) = within_asked calls asked rest o begin in
    ((left ++ more) ++ op.End ∷ [], sym (append_assoc calls (left ++ more) (op.End ∷ [])) ∙ ap (λ os. os ++ op.End ∷ []) (sym (append_assoc calls left more) ∙ ap (λ os. os ++ more) (sym within) ∙ sym is))

-- where a thread has ended, its operations stay; behind the threads of a script there are none
ended_on : (script script' : Script) (h : List Item) (t : ℕ) → GoesOn script script' → EndedAreAskedNoMore script script' h → 1 ≤ t → calls_of t h ≡ operations_of script t → operations_of script' t ≡ operations_of script t
ended_on script script' h t on ended low all =
    ⊎_elim
    (λ (past : length script < t).
    let many = as_many_go_on script script' on in
    ap (λ os. os ++ op.End ∷ []) (get_or_past script' (t - 1) [] (omega arith) ∙ sym (get_or_past script (t - 1) [] (omega arith))))
    (λ (high : t ≤ length script). ended t low high all)
    (cases_lt (length script) t)

calls_on : (terms : Terms) (script script' : Script) (h : List Item) → GoesOn script script' → EndedAreAskedNoMore script script' h → CallsBeginOperations terms script h → CallsBeginOperations terms script' h
calls_on terms script script' h on ended begin = λ t low high.
    let (more, is) = asked_on script script' (t - 1) on in
    let (rest, was) = begin t low high in
    begin_on (calls_of t h) rest (slice_index_or script (t - 1) []) (slice_index_or script' (t - 1) []) more is (ended_on script script' h t on ended low) was

-- the law
pub scripts_may_grow : ScriptsMayGrow
scripts_may_grow terms script script' h on ended (legal, belongs) = (
  legal,
  record {
    calls = calls_on terms script script' h on ended belongs.calls;
    asked = belongs.asked;
    turns = belongs.turns;
    causes = causes_on terms script script' h on belongs.causes;
    early = belongs.early;
  },
)
