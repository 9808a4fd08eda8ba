-- What is counted of the calls of a history is the sum of what is counted of each thread's.
use Rattle.std.proofs.Common.{◌≡◌, ◌≢◌, ℕ, zero, suc, ◌+◌, ◌<◌, ◌≤◌, refl, sym, ap, ◌∙◌, ⊎_elim, arith, Bool, true, false, List, [], ◌∷◌, ◌++◌, length, take, nat_eq}
use Rattle.std.specs.Prelude.{if◌then◌else◌}
use Rattle.std.specs.List.{All, count_by}
use Rattle.std.proofs.lemmas.List.{length_push, take-append-le, take_all}
use Rattle.std.proofs.lemmas.List.Elements.{All-head, All-tail, All-take}
use Rattle.std.proofs.lemmas.List.Sums.{sum_by-cons, sum_by_push}
use Rattle.std.proofs.lemmas.Bool.{cases_lt}
use Rattle.std.proofs.lemmas.Bool.Decides.{nat_tests}
use Rattle.lxr_layout.specs.declared.Name.{Name}
use Rattle.lxr_graph.specs.declared.Op.{Op}
use Rattle.lxr_graph.specs.declared.Op.TheVariants as op
use Rattle.lxr_graph.specs.declared.Reply.{Reply}
use Rattle.lxr_graph.specs.History.{Item, Call, Pause, Renew, PauseReport, calls_of, replies_of}
use Rattle.lxr_model.specs.Kinds.{ends}
use Rattle.lxr_model.specs.Legal.{IsLegalSoFar}
use Rattle.lxr_model.specs.Terms.{Terms}
use Rattle.lxr_core_invariant.specs.ThreadStates.{all_of, is_end}

-- what is counted of each call and its reply
abbrev pub Weight : Type 0
Weight = Op → Reply → ℕ

-- of all calls of a history, and of those of one thread
abbrev pub counted_in : Weight → List Item → ℕ
counted_in w [] = 0
counted_in w (Renew ns ∷ h) = 0
counted_in w (Pause report ∷ h) = counted_in w h
counted_in w (Call u o r ∷ h) = counted_in w h + w o r

abbrev pub counted_of : Weight → ℕ → List Item → ℕ
counted_of w t [] = 0
counted_of w t (Renew ns ∷ h) = 0
counted_of w t (Pause report ∷ h) = counted_of w t h
counted_of w t (Call u o r ∷ h) = counted_of w t h + (if nat_eq t u then w o r else 0)

-- the sum over so many threads, the first of them t
abbrev pub counted_by : Weight → ℕ → ℕ → List Item → ℕ
counted_by w t zero h = 0
counted_by w t (suc n) h = counted_of w t h + counted_by w (suc t) n h

-- all calls are those of the first threads
abbrev pub AreOfThreads : ℕ → List Item → Type 0
AreOfThreads threads [] = Unit {0}
AreOfThreads threads (Renew ns ∷ h) = Unit {0}
AreOfThreads threads (Pause report ∷ h) = AreOfThreads threads h
AreOfThreads threads (Call t o r ∷ h) = AreOfThreads threads h × ((1 ≤ t) × (t ≤ threads))

-- so it is of a legal history
pub legal_threads : (terms : Terms) (h : List Item) → IsLegalSoFar terms h → AreOfThreads terms.threads h
legal_threads terms [] legal = tt
legal_threads terms (Renew ns ∷ h) legal = tt
legal_threads terms (Pause report ∷ h) legal = legal_threads terms h legal.0
legal_threads terms (Call t o r ∷ h) legal = (legal_threads terms h legal.0, legal.2.thread)

-- ---- a call adds to its thread's part alone

-- a call of another thread adds nothing, one of its own all of it
other_thread : (t u : ℕ) (x : ℕ) → u < t → (if nat_eq t u then x else 0) ≡ 0
other_thread t u x below = let other : nat_eq t u ≡ false = grind (arith, nat_tests) in ap (λ b. if b then x else 0) other

own_thread : (t u : ℕ) (x : ℕ) → u ≡ t → (if nat_eq t u then x else 0) ≡ x
own_thread t u x is = let own : nat_eq t u ≡ true = grind (arith, nat_tests) in ap (λ b. if b then x else 0) own

-- it is none of theirs where its thread comes before them
adds_nothing : (w : Weight) (t n u : ℕ) (o : Op) (r : Reply) (h : List Item) → u < t → counted_by w t n (Call u o r ∷ h) ≡ counted_by w t n h
adds_nothing w t zero u o r h below = refl
adds_nothing w t (suc n) u o r h below =
    let rest = adds_nothing w (suc t) n u o r h (omega arith) in
    let here = other_thread t u (w o r) below in
    omega arith

-- else it is counted for one of them
adds_once : (w : Weight) (t n u : ℕ) (o : Op) (r : Reply) (h : List Item) → t ≤ u → u < t + n → counted_by w t n (Call u o r ∷ h) ≡ counted_by w t n h + w o r
adds_once w t zero u o r h low high = absurd (omega arith)
adds_once w t (suc n) u o r h low high =
    ⊎_elim
    (λ (behind : t < u).
    let rest = adds_once w (suc t) n u o r h (omega arith) (omega arith) in
    let here : (if nat_eq t u then w o r else 0) ≡ 0 = let other : nat_eq t u ≡ false = grind (arith, nat_tests) in ap (λ b. if b then w o r else 0) other in
    omega arith)
    (λ (own : u ≤ t).
    let rest = adds_nothing w (suc t) n u o r h (omega arith) in
    let here = own_thread t u (w o r) (omega arith) in
    omega arith)
    (cases_lt t u)

-- nothing is counted before the first call since names were last renewed, nor for a pause
none_by : (w : Weight) (t n : ℕ) → counted_by w t n [] ≡ 0
none_by w t zero = refl
none_by w t (suc n) = let rest = none_by w (suc t) n in omega arith

renewed_by : (w : Weight) (t n : ℕ) (ns : List Name) (h : List Item) → counted_by w t n (Renew ns ∷ h) ≡ 0
renewed_by w t zero ns h = refl
renewed_by w t (suc n) ns h = let rest = renewed_by w (suc t) n ns h in omega arith

paused_by : (w : Weight) (t n : ℕ) (report : PauseReport) (h : List Item) → counted_by w t n (Pause report ∷ h) ≡ counted_by w t n h
paused_by w t zero report h = refl
paused_by w t (suc n) report h = ap (λ m. counted_of w t h + m) (paused_by w (suc t) n report h)

-- all calls together are those of the threads
pub sum_of_threads : (w : Weight) (threads : ℕ) (h : List Item) → AreOfThreads threads h → counted_in w h ≡ counted_by w 1 threads h
sum_of_threads w threads [] are = sym (none_by w 1 threads)
sum_of_threads w threads (Renew ns ∷ h) are = sym (renewed_by w 1 threads ns h)
sum_of_threads w threads (Pause report ∷ h) are = sum_of_threads w threads h are ∙ sym (paused_by w 1 threads report h)
sum_of_threads w threads (Call u o r ∷ h) (before, of) =
    ap (λ n. n + w o r) (sum_of_threads w threads h before) ∙ sym (adds_once w 1 threads u o r h of.0 (let p = of.1 in omega arith))

-- ---- what is counted

-- each call for one
abbrev pub one : Weight
one o r = 1

-- each reply of a kind
abbrev pub replied : (Reply → Bool) → Weight
replied p o r = if p r then 1 else 0

-- each end
abbrev pub ending : Weight
ending o r = if is_end o then 1 else 0

-- a thread's calls are as many as its replies
length-more : (b : Bool) (rs : List Reply) (r : Reply) → length (if b then rs ++ r ∷ [] else rs) ≡ length rs + (if b then 1 else 0)
length-more true rs r = length_push rs r
length-more false rs r = omega arith

-- so its calls are counted by its replies
pub calls_counted : (t : ℕ) (h : List Item) → counted_of one t h ≡ length (replies_of t h)
calls_counted t [] = refl
calls_counted t (Renew ns ∷ h) = refl
calls_counted t (Pause report ∷ h) = calls_counted t h
calls_counted t (Call u o r ∷ h) = ap (λ n. n + (if nat_eq t u then 1 else 0)) (calls_counted t h) ∙ sym (length-more (nat_eq t u) (replies_of t h) r)

-- its replies of a kind are counted
count-more : (p : Reply → Bool) (b : Bool) (rs : List Reply) (r : Reply) → count_by p (if b then rs ++ r ∷ [] else rs) ≡ count_by p rs + (if b then (if p r then 1 else 0) else 0)
count-more p true rs r = sum_by_push (λ x. if p x then 1 else 0) rs r
count-more p false rs r = omega arith

-- so are its replies of a kind
pub replies_counted : (p : Reply → Bool) (t : ℕ) (h : List Item) → counted_of (replied p) t h ≡ count_by p (replies_of t h)
replies_counted p t [] = refl
replies_counted p t (Renew ns ∷ h) = refl
replies_counted p t (Pause report ∷ h) = replies_counted p t h
replies_counted p t (Call u o r ∷ h) =
    ap (λ n. n + (if nat_eq t u then (if p r then 1 else 0) else 0)) (replies_counted p t h) ∙ sym (count-more p (nat_eq t u) (replies_of t h) r)

-- all ends are counted
pub ends_counted : (h : List Item) → counted_in ending h ≡ ends h
ends_counted [] = refl
ends_counted (Renew ns ∷ h) = refl
ends_counted (Pause report ∷ h) = ends_counted h
ends_counted (Call t op.End r ∷ h) = let e = ends_counted h in omega arith
ends_counted (Call t o r ∷ h) = let e = ends_counted h in omega arith

-- a thread's ends are those among its calls
ends-more : (b : Bool) (os : List Op) (o : Op) → count_by is_end (if b then os ++ o ∷ [] else os) ≡ count_by is_end os + (if b then (if is_end o then 1 else 0) else 0)
ends-more true os o = sum_by_push (λ x. if is_end x then 1 else 0) os o
ends-more false os o = omega arith

-- so are its ends
pub thread_ends_counted : (t : ℕ) (h : List Item) → counted_of ending t h ≡ count_by is_end (calls_of t h)
thread_ends_counted t [] = refl
thread_ends_counted t (Renew ns ∷ h) = refl
thread_ends_counted t (Pause report ∷ h) = thread_ends_counted t h
thread_ends_counted t (Call u o r ∷ h) =
    ap (λ n. n + (if nat_eq t u then (if is_end o then 1 else 0) else 0)) (thread_ends_counted t h) ∙ sym (ends-more (nat_eq t u) (calls_of t h) o)

-- none stands among operations that are no end
is_no_end : (o : Op) → o ≢ op.End → is_end o ≡ false
is_no_end op.End other = absurd (other refl)
is_no_end o other = refl

-- so none is counted among operations
none_end : (os : List Op) → All (λ o. o ≢ op.End) os → count_by is_end os ≡ 0
none_end [] none = refl
none_end (o ∷ os) none =
    let rest : count_by is_end os ≡ 0 = none_end os (All-tail (λ o. o ≢ op.End) o os none) in
    let other : is_end o ≡ false = is_no_end o (All-head (λ o. o ≢ op.End) o os none) in
    sum_by-cons (λ x. if is_end x then 1 else 0) o os ∙ ap (λ b. (if b then 1 else 0) + count_by is_end os) other ∙ ap (λ n. 0 + n) rest

-- a thread that has done n of its operations and its end has ended where these are all
pub ends_within : (n : ℕ) (operations : List Op) → All (λ o. o ≢ op.End) operations → n ≤ length operations → count_by is_end (take n (all_of operations)) ≡ 0
ends_within n operations none few =
    ap (count_by is_end) (take-append-le n operations (op.End ∷ []) few) ∙ none_end (take n operations) (All-take (λ o. o ≢ op.End) n operations none)

-- and once where all are done
pub ends_all : (n : ℕ) (operations : List Op) → All (λ o. o ≢ op.End) operations → n ≡ length operations + 1 → count_by is_end (take n (all_of operations)) ≡ 1
ends_all n operations none all =
    let whole : take n (all_of operations) ≡ all_of operations = take_all n (all_of operations) (let many = length_push operations op.End in omega arith) in
    let sum = sum_by_push (λ x. if is_end x then 1 else 0) operations op.End in
    let before = none_end operations none in
    ap (count_by is_end) whole ∙ sum ∙ ap (λ n. n + 1) before
