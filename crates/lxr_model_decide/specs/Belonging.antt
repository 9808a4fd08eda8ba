-- Whether a history belongs to a script, computed point by point.
use Rattle.std.specs.Prelude.{◌≡◌, ℕ, zero, suc, ◌+◌, ◌-◌, Bool, true, false, not, ◌&&◌, ◌||◌, nat_eq, nat_lt, nat_le, List, [], ◌∷◌, IsTrue, length}
use Rattle.lxr_graph.specs.declared.Op.{Op}
use Rattle.lxr_graph.specs.History.{Item, Call, Pause, Renew, calls_of}
use Rattle.lxr_model.specs.Terms.{Terms}
use Rattle.lxr_model.specs.Moments.{Moment, moment}
use Rattle.lxr_model.specs.Kinds.{ends}
use Rattle.lxr_model.specs.Belongs.{Script, operations_of, has_asked, calls_since_pause, next_operation, is_new, writes_reference}

-- the calls of threads 1 to n, the last thread first
abbrev pub calls_by_thread : ℕ → List Item → List (List Op)
calls_by_thread zero h = []
calls_by_thread (suc n) h = calls_of (suc n) h ∷ calls_by_thread n h

-- the operations of threads 1 to n and their ends, the last thread first
abbrev pub operations_by_thread : ℕ → Script → List (List Op)
operations_by_thread zero script = []
operations_by_thread (suc n) script = operations_of script (suc n) ∷ operations_by_thread n script

-- no thread has a call between its `pause` or `collect` and the next pause
abbrev pub asked_pauses_come_first : List Item → Bool
asked_pauses_come_first [] = true
asked_pauses_come_first (Renew ns ∷ h) = true
asked_pauses_come_first (Pause report ∷ h) = asked_pauses_come_first h
asked_pauses_come_first (Call t o r ∷ h) = asked_pauses_come_first h && not (has_asked t h)

-- between two pauses a thread has at most `every` calls and one more
abbrev pub turns_are_short : Terms → List Item → Bool
turns_are_short terms [] = true
turns_are_short terms (Renew ns ∷ h) = true
turns_are_short terms (Pause report ∷ h) = turns_are_short terms h
turns_are_short terms (Call t o r ∷ h) = turns_are_short terms h && nat_le (calls_since_pause t (Call t o r ∷ h)) (terms.every + 1)

-- a thread is a cause of a pause after h, which leads to m
abbrev pub is_cause : Terms → Script → List Item → Moment → ℕ → Bool
is_cause terms script h m t =
    (has_asked t h || nat_le terms.every (calls_since_pause t h))
    || ((is_new (next_operation script t h) && nat_le (terms.blocks - terms.evacuate) (length m.unreclaimed + length m.made))
    || (writes_reference (next_operation script t h) && nat_le terms.log (length m.written)))

-- one of threads 1 to n passes a test
abbrev pub some_thread : (ℕ → Bool) → ℕ → Bool
some_thread p zero = false
some_thread p (suc n) = p (suc n) || some_thread p n

-- all threads have ended, or some thread is a cause of a pause after h
abbrev pub has_cause : Terms → Script → List Item → Bool
has_cause terms script h = nat_eq (ends h) terms.threads || some_thread (is_cause terms script h (moment terms.threads h)) terms.threads

-- each pause has a cause in what stands before it
abbrev pub pauses_have_causes : Terms → Script → List Item → Bool
pauses_have_causes terms script [] = true
pauses_have_causes terms script (Renew ns ∷ h) = true
pauses_have_causes terms script (Call t o r ∷ h) = pauses_have_causes terms script h
pauses_have_causes terms script (Pause report ∷ h) = pauses_have_causes terms script h && has_cause terms script h

-- at the last pause of h not all threads had ended
abbrev pub last_pause_was_early : Terms → List Item → Bool
last_pause_was_early terms [] = true
last_pause_was_early terms (Renew ns ∷ h) = true
last_pause_was_early terms (Call t o r ∷ h) = last_pause_was_early terms h
last_pause_was_early terms (Pause report ∷ h) = nat_lt (ends h) terms.threads

-- the newest item is a pause, and it is the first before which all threads have ended
abbrev pub ends_with_pause : Terms → List Item → Bool
ends_with_pause terms [] = false
ends_with_pause terms (Renew ns ∷ h) = false
ends_with_pause terms (Call t o r ∷ h) = false
ends_with_pause terms (Pause report ∷ h) = nat_eq (ends h) terms.threads && last_pause_was_early terms h

-- all points but the first
abbrev pub pauses_belong : Terms → Script → List Item → Bool
pauses_belong terms script h =
    (asked_pauses_come_first h && turns_are_short terms h) && (pauses_have_causes terms script h && ends_with_pause terms h)

-- what is found by computing: each thread's calls are its operations, and the pauses belong
pub record IsFoundBelonging (terms : Terms) (script : Script) (h : List Item) : Type 0 where
  pub calls : calls_by_thread terms.threads h ≡ operations_by_thread terms.threads script
  pub pauses : IsTrue (pauses_belong terms script h)
