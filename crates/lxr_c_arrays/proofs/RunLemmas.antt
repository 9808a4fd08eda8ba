-- Operations in turn: some behind others, those behind a code that isn't that of success, and rounds.
use Rattle.std.proofs.Common.{◌≡◌, ◌≢◌, ℕ, zero, suc, ◌+◌, ◌<◌, ◌≤◌, ◌⊎◌, ◌∙◌, refl, sym, subst, arith, inl, inr, List, [], ◌∷◌, ◌++◌}
use Rattle.std.proofs.lemmas.Bool.{cases_lt}
use Rattle.lxr_large_model.specs.History.{LargeItem}
use Rattle.lxr_c_base.specs.declared.codes.Code.{Code}
use Rattle.lxr_c_base.specs.declared.codes.Code.TheVariants as code
use Rattle.lxr_c_heap.specs.declared.host.HostHeap.{HostHeap}
use Rattle.lxr_c_heap.specs.Hosting.{IsHostOf}
use Rattle.lxr_c_many.specs.declared.applying.Told.{Told}
use Rattle.lxr_c_many.specs.declared.asked.Asked.{Asked}
use Rattle.lxr_c_many.specs.Applying.{Performs}
use Rattle.lxr_c_many.proofs.ApplyLemmas.{performs_host}
use Rattle.lxr_c_arrays.specs.Running.{InTurn, Runs, SameRegisters, in_turn}

-- ---- registers

pub same_none : (x : HostHeap) → SameRegisters x x
same_none x = record { named = refl; all = refl }

pub same_on : (x m y : HostHeap) → SameRegisters x m → SameRegisters m y → SameRegisters x y
same_on x m y before after = record { named = after.named ∙ before.named; all = after.all ∙ before.all }

-- ---- one operation

-- a code is that of success, or another
pub code_cases : (c : Code) → (c ≡ code.Done) ⊎ (c ≢ code.Done)
code_cases code.Done = inl refl
code_cases c = inr (λ same. cc)

pub ran_one : (x y : HostHeap) (h k : List LargeItem) (a : Asked) (t : Told) → Performs x h a y k t → Runs x h (a ∷ []) y k t.code
ran_one x y h k a t performs = at_code (code_cases t.code)
  where
    at_code : (t.code ≡ code.Done) ⊎ (t.code ≢ code.Done) → Runs x h (a ∷ []) y k t.code
    at_code (inl done) = (y, k, t, performs, inl (done, (refl, refl, done)))
    at_code (inr failed) = (y, k, t, performs, inr (failed, refl, refl, refl))

-- ---- histories

-- what is led to is the heap of the history that is told
pub runs_host : (x y : HostHeap) (h k : List LargeItem) (ops : List Asked) (c : Code) → IsHostOf x h → Runs x h ops y k c → IsHostOf y k
runs_host x y h k [] c is (same, left, done) = subst (IsHostOf y) (sym left) (subst (λ (z : HostHeap). IsHostOf z h) (sym same) is)
runs_host x y h k (a ∷ ops) c is (m, j, t, performs, inl (done, rest)) = runs_host m y j k ops c (performs_host x m h j a t is performs) rest
runs_host x y h k (a ∷ ops) c is (m, j, t, performs, inr (failed, same, left, told)) =
    subst (IsHostOf y) (sym left) (subst (λ (z : HostHeap). IsHostOf z j) (sym same) (performs_host x m h j a t is performs))

-- some behind others
pub runs_on : (x m y : HostHeap) (h j k : List LargeItem) (ops more : List Asked) (c : Code) → Runs x h ops m j code.Done → Runs m j more y k c → Runs x h (ops ++ more) y k c
runs_on x m y h j k [] more c (same, left, done) rest = subst (λ (z : HostHeap). Runs z h more y k c) same (subst (λ l. Runs m l more y k c) left rest)
runs_on x m y h j k (a ∷ ops) more c (n, l, t, performs, inl (done, before)) rest = (n, l, t, performs, inl (done, runs_on n m y l j k ops more c before rest))
runs_on x m y h j k (a ∷ ops) more c (n, l, t, performs, inr (failed, same, left, told)) rest = absurd (failed (sym told))

-- and some that told success, and what came of the others
pub runs_apart : (x y : HostHeap) (h k : List LargeItem) (ops more : List Asked) → Runs x h (ops ++ more) y k code.Done
    → (m : HostHeap) × (j : List LargeItem) × Runs x h ops m j code.Done × Runs m j more y k code.Done
runs_apart x y h k [] more ran = (x, h, (refl, refl, refl), ran)
runs_apart x y h k (a ∷ ops) more (n, l, t, performs, inl (done, ran)) = let (m, j, before, rest) = runs_apart n y l k ops more ran in (m, j, (n, l, t, performs, inl (done, before)), rest)
runs_apart x y h k (a ∷ ops) more (n, l, t, performs, inr (failed, same, left, told)) = absurd (failed (sym told))

-- none behind one whose code isn't that of success
pub runs_stop : (x y : HostHeap) (h k : List LargeItem) (ops more : List Asked) (c : Code) → Runs x h ops y k c → c ≢ code.Done → Runs x h (ops ++ more) y k c
runs_stop x y h k [] more c (same, left, done) failed = absurd (failed done)
runs_stop x y h k (a ∷ ops) more c (n, l, t, performs, inl (done, before)) failed = (n, l, t, performs, inl (done, runs_stop n y l k ops more c before failed))
runs_stop x y h k (a ∷ ops) more c (n, l, t, performs, inr last) failed = (n, l, t, performs, inr last)

-- ---- in turn

pub turn_none : (x : HostHeap) → InTurn x [] x code.Done
turn_none x = λ h is. (h, (refl, refl, refl))

pub turn_on : (x m y : HostHeap) (ops more : List Asked) (c : Code) → InTurn x ops m code.Done → InTurn m more y c → InTurn x (ops ++ more) y c
turn_on x m y ops more c before after = λ h is.
    let (j, ran) = before h is in
    let (k, runs) = after j (runs_host x m h j ops code.Done is ran) in
    (k, runs_on x m y h j k ops more c ran runs)

pub turn_stop : (x y : HostHeap) (ops more : List Asked) (c : Code) → InTurn x ops y c → c ≢ code.Done → InTurn x (ops ++ more) y c
turn_stop x y ops more c before failed = λ h is. let (k, ran) = before h is in (k, runs_stop x y h k ops more c ran failed)

-- ---- rounds

module _ (f : ℕ → List Asked) (x m y : HostHeap) where
  -- one more
  pub round_more : (i : ℕ) → InTurn x (in_turn f i) m code.Done → InTurn m (f i) y code.Done → InTurn x (in_turn f (i + 1)) y code.Done
  round_more i before after =
      subst (λ n. InTurn x (in_turn f n) y code.Done) (let same : suc i ≡ i + 1 = omega arith in same) (turn_on x m y (in_turn f i) (f i) code.Done before after)

  -- those behind one whose code isn't that of success aren't done
  rounds_stop : (c : Code) (i n : ℕ) → i ≤ n → c ≢ code.Done → InTurn x (in_turn f i) y c → InTurn x (in_turn f n) y c
  rounds_stop c i zero few failed ran = subst (λ k. InTurn x (in_turn f k) y c) (let same : i ≡ 0 = omega (arith, few) in same) ran
  rounds_stop c i (suc n) few failed ran = elim (cases_lt i (suc n)) [
    | inl less ↦ turn_stop x y (in_turn f n) (f n) c (rounds_stop c i n (omega (arith, less)) failed ran) failed
    | inr over ↦ subst (λ k. InTurn x (in_turn f k) y c) (let same : i ≡ suc n = omega (arith, few, over) in same) ran
  ]

  -- so a round is the last
  pub round_stop : (c : Code) (i n : ℕ) → i < n → InTurn x (in_turn f i) m code.Done → InTurn m (f i) y c → c ≢ code.Done → InTurn x (in_turn f n) y c
  round_stop c i n less before after failed = rounds_stop c (suc i) n (omega (arith, less)) failed (turn_on x m y (in_turn f i) (f i) c before after)
