-- Each test of belonging holds exactly where its point does.
use Rattle.std.proofs.Common.{◌≡◌, ℕ, zero, suc, ◌+◌, ◌-◌, ◌≤◌, refl, sym, subst, inl, inr, arith, Bool, true, false, List, [], ◌∷◌, IsTrue, nat_eq, length}
use Rattle.std.specs.Prelude.{◌↔◌, nat_le, not, ◌&&◌, ◌||◌}
use Rattle.std.proofs.lemmas.Bool.{or_cases, or_left, or_right, and_parts, and_from, not-true, not_from_false}
use Rattle.lxr_graph.specs.declared.Op.{Op}
use Rattle.lxr_graph.specs.History.{Item, Call, Pause, Renew, calls_of}
use Rattle.lxr_graph.proofs.NameSets.{not_both}
use Rattle.lxr_model.specs.Terms.{Terms}
use Rattle.lxr_model.specs.Moments.{moment}
use Rattle.lxr_model.specs.Kinds.{ends}
use Rattle.lxr_model.specs.Belongs.{Script, operations_of, has_asked, calls_since_pause, next_operation, is_new, writes_reference, AskedPausesComeFirst, TurnsAreShort, IsCauseOf, HasCause, PausesHaveCauses, LastPauseWasEarly, EndsWithPause, Belongs}
use Rattle.lxr_model_decide.specs.Belonging.{calls_by_thread, operations_by_thread, asked_pauses_come_first, turns_are_short, is_cause, some_thread, has_cause, pauses_have_causes, last_pause_was_early, ends_with_pause, IsFoundBelonging}
use Rattle.lxr_model_decide.specs.Laws.{BelongingIsComputed}
use Rattle.lxr_model_decide.proofs.PartLemmas.{le_from_test, test_from_le}
use Rattle.lxr_model_decide.proofs.TestLemmas.{test_from_lt}
use Rattle.lxr_model_decide.proofs.LegalityLemmas.{lt_from_test, eq_from_test, test_from_eq}

-- ---- calls

same_first : {a b : List Op} {xs ys : List (List Op)} → a ∷ xs ≡ b ∷ ys → a ≡ b
same_first e = cc

same_others : {a b : List Op} {xs ys : List (List Op)} → a ∷ xs ≡ b ∷ ys → xs ≡ ys
same_others e = cc

calls_right : (n : ℕ) (script : Script) (h : List Item) → calls_by_thread n h ≡ operations_by_thread n script
    → (t : ℕ) → 1 ≤ t → t ≤ n → calls_of t h ≡ operations_of script t
calls_right zero script h e t low high = absurd (omega arith)
calls_right (suc n) script h e t low high = elim (nat_eq t (suc n)) as (λ b. nat_eq t (suc n) ≡ b → calls_of t h ≡ operations_of script t) [
  | true ↦ λ k. let q : t ≡ suc n = eq_from_test t (suc n) k in subst (λ u. calls_of u h ≡ operations_of script u) (sym q) (same_first e)
  | false ↦ λ k. calls_right n script h (same_others e) t low (let q : (t ≡ suc n) → ⊥ = λ q. not_both (nat_eq t (suc n)) (test_from_eq t (suc n) q) k in omega arith)
] refl

-- ---- pauses that were asked for, and turns

asked_right : (h : List Item) → IsTrue (asked_pauses_come_first h) → AskedPausesComeFirst h
asked_right [] e = tt
asked_right (Renew ns ∷ h) e = tt
asked_right (Pause report ∷ h) e = asked_right h e
asked_right (Call t o r ∷ h) e = let a = and_parts (asked_pauses_come_first h) (not (has_asked t h)) e in (asked_right h a.0, not-true (has_asked t h) a.1)

turns_right : (terms : Terms) (h : List Item) → IsTrue (turns_are_short terms h) → TurnsAreShort terms h
turns_right terms [] e = tt
turns_right terms (Renew ns ∷ h) e = tt
turns_right terms (Pause report ∷ h) e = turns_right terms h e
turns_right terms (Call t o r ∷ h) e =
    let a = and_parts (turns_are_short terms h) (nat_le (calls_since_pause t (Call t o r ∷ h)) (terms.every + 1)) e in
    (turns_right terms h a.0, le_from_test (calls_since_pause t (Call t o r ∷ h)) (terms.every + 1) a.1)

-- ---- causes

cause_right : (terms : Terms) (script : Script) (h : List Item) (t : ℕ) → IsTrue (is_cause terms script h (moment terms.threads h) t) → IsCauseOf terms script h t
cause_right terms script h t e =
    let m = moment terms.threads h in
    let asked = has_asked t h in
    let long = nat_le terms.every (calls_since_pause t h) in
    let new = is_new (next_operation script t h) in
    let taken = nat_le (terms.blocks - terms.evacuate) (length m.unreclaimed + length m.made) in
    let writes = writes_reference (next_operation script t h) in
    let full = nat_le terms.log (length m.written) in
    elim (or_cases (asked || long) ((new && taken) || (writes && full)) e) [
      | inl k ↦ elim (or_cases asked long k) [
        | inl k ↦ inl k
        | inr k ↦ inr (inl (le_from_test terms.every (calls_since_pause t h) k))
      ]
      | inr k ↦ elim (or_cases (new && taken) (writes && full) k) [
        | inl k ↦ let a = and_parts new taken k in inr (inr (inl (a.0, le_from_test (terms.blocks - terms.evacuate) (length m.unreclaimed + length m.made) a.1)))
        | inr k ↦ let a = and_parts writes full k in inr (inr (inr (a.0, le_from_test terms.log (length m.written) a.1)))
      ]
    ]

thread_found : (p : ℕ → Bool) (n : ℕ) → IsTrue (some_thread p n) → (t : ℕ) × (1 ≤ t) × (t ≤ n) × IsTrue (p t)
thread_found p zero e = absurd (cc)
thread_found p (suc n) e = elim (or_cases (p (suc n)) (some_thread p n) e) [
  | inl k ↦ (suc n, omega arith, omega arith, k)
  | inr k ↦ let r = thread_found p n k in let high : r.0 ≤ n = r.2 in (r.0, r.1, (let l : r.0 ≤ suc n = omega arith in l), r.3)
]

has_cause_right : (terms : Terms) (script : Script) (h : List Item) → IsTrue (has_cause terms script h) → HasCause terms script h
has_cause_right terms script h e =
    elim (or_cases (nat_eq (ends h) terms.threads) (some_thread (is_cause terms script h (moment terms.threads h)) terms.threads) e) [
      | inl k ↦ inl (eq_from_test (ends h) terms.threads k)
      | inr k ↦ let r = thread_found (is_cause terms script h (moment terms.threads h)) terms.threads k in inr (r.0, r.1, r.2, cause_right terms script h r.0 r.3)
    ]

causes_right : (terms : Terms) (script : Script) (h : List Item) → IsTrue (pauses_have_causes terms script h) → PausesHaveCauses terms script h
causes_right terms script [] e = tt
causes_right terms script (Renew ns ∷ h) e = tt
causes_right terms script (Call t o r ∷ h) e = causes_right terms script h e
causes_right terms script (Pause report ∷ h) e =
    let a = and_parts (pauses_have_causes terms script h) (has_cause terms script h) e in
    (causes_right terms script h a.0, has_cause_right terms script h a.1)

-- ---- the end

early_right : (terms : Terms) (h : List Item) → IsTrue (last_pause_was_early terms h) → LastPauseWasEarly terms h
early_right terms [] e = tt
early_right terms (Renew ns ∷ h) e = tt
early_right terms (Call t o r ∷ h) e = early_right terms h e
early_right terms (Pause report ∷ h) e = lt_from_test (ends h) terms.threads e

end_right : (terms : Terms) (h : List Item) → IsTrue (ends_with_pause terms h) → EndsWithPause terms h
end_right terms [] e = absurd (cc)
end_right terms (Renew ns ∷ h) e = absurd (cc)
end_right terms (Call t o r ∷ h) e = absurd (cc)
end_right terms (Pause report ∷ h) e =
    let a = and_parts (nat_eq (ends h) terms.threads) (last_pause_was_early terms h) e in
    (eq_from_test (ends h) terms.threads a.0, early_right terms h a.1)

-- ---- the other way

calls_test : (n : ℕ) (script : Script) (h : List Item) → ((t : ℕ) → 1 ≤ t → t ≤ n → calls_of t h ≡ operations_of script t)
    → calls_by_thread n h ≡ operations_by_thread n script
calls_test zero script h e = refl
calls_test (suc n) script h e =
    let first : calls_of (suc n) h ≡ operations_of script (suc n) = e (suc n) (omega arith) (omega arith) in
    let rest : calls_by_thread n h ≡ operations_by_thread n script = calls_test n script h (λ t low high. e t low (omega arith)) in
    λ i. first i ∷ rest i

asked_test : (h : List Item) → AskedPausesComeFirst h → IsTrue (asked_pauses_come_first h)
asked_test [] e = refl
asked_test (Renew ns ∷ h) e = refl
asked_test (Pause report ∷ h) e = asked_test h e
asked_test (Call t o r ∷ h) e = and_from (asked_pauses_come_first h) (not (has_asked t h)) (asked_test h e.0) (not_from_false (has_asked t h) e.1)

turns_test : (terms : Terms) (h : List Item) → TurnsAreShort terms h → IsTrue (turns_are_short terms h)
turns_test terms [] e = refl
turns_test terms (Renew ns ∷ h) e = refl
turns_test terms (Pause report ∷ h) e = turns_test terms h e
turns_test terms (Call t o r ∷ h) e = and_from (turns_are_short terms h) (nat_le (calls_since_pause t (Call t o r ∷ h)) (terms.every + 1))
    (turns_test terms h e.0) (test_from_le (calls_since_pause t (Call t o r ∷ h)) (terms.every + 1) e.1)

cause_test : (terms : Terms) (script : Script) (h : List Item) (t : ℕ) → IsCauseOf terms script h t → IsTrue (is_cause terms script h (moment terms.threads h) t)
cause_test terms script h t e =
    let m = moment terms.threads h in
    let asked = has_asked t h in
    let long = nat_le terms.every (calls_since_pause t h) in
    let new = is_new (next_operation script t h) in
    let taken = nat_le (terms.blocks - terms.evacuate) (length m.unreclaimed + length m.made) in
    let writes = writes_reference (next_operation script t h) in
    let full = nat_le terms.log (length m.written) in
    elim e [
      | inl k ↦ or_left (asked || long) ((new && taken) || (writes && full)) (or_left asked long k)
      | inr (inl k) ↦ or_left (asked || long) ((new && taken) || (writes && full)) (or_right asked long (test_from_le terms.every (calls_since_pause t h) k))
      | inr (inr (inl k)) ↦ or_right (asked || long) ((new && taken) || (writes && full)) (or_left (new && taken) (writes && full)
          (and_from new taken k.0 (test_from_le (terms.blocks - terms.evacuate) (length m.unreclaimed + length m.made) k.1)))
      | inr (inr (inr k)) ↦ or_right (asked || long) ((new && taken) || (writes && full)) (or_right (new && taken) (writes && full)
          (and_from writes full k.0 (test_from_le terms.log (length m.written) k.1)))
    ]

thread_passes : (p : ℕ → Bool) (n t : ℕ) → 1 ≤ t → t ≤ n → IsTrue (p t) → IsTrue (some_thread p n)
thread_passes p zero t low high e = absurd (omega arith)
thread_passes p (suc n) t low high e = elim (nat_eq t (suc n)) as (λ b. nat_eq t (suc n) ≡ b → IsTrue (some_thread p (suc n))) [
  | true ↦ λ k. or_left (p (suc n)) (some_thread p n) (subst (λ u. IsTrue (p u)) (eq_from_test t (suc n) k) e)
  | false ↦ λ k. or_right (p (suc n)) (some_thread p n) (thread_passes p n t low
      (let q : (t ≡ suc n) → ⊥ = λ q. not_both (nat_eq t (suc n)) (test_from_eq t (suc n) q) k in omega arith) e)
] refl

pub has_cause_test : (terms : Terms) (script : Script) (h : List Item) → HasCause terms script h → IsTrue (has_cause terms script h)
has_cause_test terms script h e =
    let p = is_cause terms script h (moment terms.threads h) in
    elim e [
      | inl k ↦ or_left (nat_eq (ends h) terms.threads) (some_thread p terms.threads) (test_from_eq (ends h) terms.threads k)
      | inr k ↦ or_right (nat_eq (ends h) terms.threads) (some_thread p terms.threads) (thread_passes p terms.threads k.0 k.1 k.2 (cause_test terms script h k.0 k.3))
    ]

causes_test : (terms : Terms) (script : Script) (h : List Item) → PausesHaveCauses terms script h → IsTrue (pauses_have_causes terms script h)
causes_test terms script [] e = refl
causes_test terms script (Renew ns ∷ h) e = refl
causes_test terms script (Call t o r ∷ h) e = causes_test terms script h e
causes_test terms script (Pause report ∷ h) e =
    and_from (pauses_have_causes terms script h) (has_cause terms script h) (causes_test terms script h e.0) (has_cause_test terms script h e.1)

early_test : (terms : Terms) (h : List Item) → LastPauseWasEarly terms h → IsTrue (last_pause_was_early terms h)
early_test terms [] e = refl
early_test terms (Renew ns ∷ h) e = refl
early_test terms (Call t o r ∷ h) e = early_test terms h e
early_test terms (Pause report ∷ h) e = test_from_lt (ends h) terms.threads e

end_test : (terms : Terms) (h : List Item) → EndsWithPause terms h → IsTrue (ends_with_pause terms h)
end_test terms [] e = absurd e
end_test terms (Renew ns ∷ h) e = absurd e
end_test terms (Call t o r ∷ h) e = absurd e
end_test terms (Pause report ∷ h) e = and_from (nat_eq (ends h) terms.threads) (last_pause_was_early terms h) (test_from_eq (ends h) terms.threads e.0) (early_test terms h e.1)

pub end_iff : (terms : Terms) (h : List Item) → IsTrue (ends_with_pause terms h) ↔ EndsWithPause terms h
end_iff terms h = (end_right terms h, end_test terms h)

-- ---- all points

pub belongs_by_tests : (terms : Terms) (script : Script) (h : List Item) → IsFoundBelonging terms script h → Belongs terms script h
belongs_by_tests terms script h found =
    let a = and_parts (asked_pauses_come_first h && turns_are_short terms h) (pauses_have_causes terms script h && ends_with_pause terms h) found.pauses in
    let b = and_parts (asked_pauses_come_first h) (turns_are_short terms h) a.0 in
    let c = and_parts (pauses_have_causes terms script h) (ends_with_pause terms h) a.1 in
    record {
      calls = calls_right terms.threads script h found.calls;
      asked = asked_right h b.0;
      turns = turns_right terms h b.1;
      causes = causes_right terms script h c.0;
      last = end_right terms h c.1;
    }

tests_by_belonging : (terms : Terms) (script : Script) (h : List Item) → Belongs terms script h → IsFoundBelonging terms script h
tests_by_belonging terms script h belongs = record {
  calls = calls_test terms.threads script h belongs.calls;
  pauses = and_from (asked_pauses_come_first h && turns_are_short terms h) (pauses_have_causes terms script h && ends_with_pause terms h)
      (and_from (asked_pauses_come_first h) (turns_are_short terms h) (asked_test h belongs.asked) (turns_test terms h belongs.turns))
      (and_from (pauses_have_causes terms script h) (ends_with_pause terms h) (causes_test terms script h belongs.causes) (end_test terms h belongs.last));
}

pub belonging_right : BelongingIsComputed
belonging_right terms script h = (tests_by_belonging terms script h, belongs_by_tests terms script h)
