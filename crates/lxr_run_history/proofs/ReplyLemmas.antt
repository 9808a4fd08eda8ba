-- No reply is the end's but that of an end, so the replies of a thread's operations can be printed.
use Rattle.std.proofs.Common.{◌≡◌, ◌≢◌, ℕ, suc, refl, ap, subst, arith, Bool, true, false, List, [], ◌∷◌, ◌++◌, length, take, nat_eq}
use Rattle.std.specs.Prelude.{Option, Some, None, slice_get, if◌then◌else◌}
use Rattle.std.specs.List.{All}
use Rattle.std.proofs.lemmas.List.{length_push}
use Rattle.std.proofs.lemmas.List.Elements.{All-cons, All-nil, All-head, All-tail}
use Rattle.lxr_layout.specs.declared.Name.{Name}
use Rattle.lxr_graph.specs.declared.Op.{Op}
use Rattle.lxr_graph.specs.declared.Op.TheVariants as op
use Rattle.lxr_graph.specs.declared.Reply.{Reply}
use Rattle.lxr_graph.specs.declared.Reply.TheVariants as reply
use Rattle.lxr_graph.specs.History.{Item, Call, Pause, Renew, calls_of, replies_of}
use Rattle.lxr_graph.specs.State.{State, object_at, refs_of, register_at, values_of}
use Rattle.lxr_graph.specs.Step.{IsReply, add_to, added, get_from, got, load_from, loaded, put_at, put_to, store_to, stored, swap_in, swapped}
use Rattle.lxr_model.specs.Legal.{IsLegalSoFar, Replies}
use Rattle.lxr_model.specs.Moments.{moment}
use Rattle.lxr_model.specs.Terms.{Terms}
use Rattle.lxr_core_invariant.specs.ThreadStates.{all_of}
use Rattle.lxr_text_print.specs.Replies.{ArePrintable, replies_text, thread_text}
use Rattle.lxr_text_print.proofs.HistoryLemmas.{is_of_its_operations}

-- ---- no operation but the end replies with the end

-- case by case of what a step does
loaded-goes_on : (s : State) (t dest : ℕ) (o : Option (Option Name)) → (loaded s t dest o).1 ≢ reply.Ended
loaded-goes_on s t dest None e = cc
loaded-goes_on s t dest (Some v) e = cc

load-goes_on : (s : State) (t dest i : ℕ) (v : Option Name) → (load_from s t dest i v).1 ≢ reply.Ended
load-goes_on s t dest i None e = cc
load-goes_on s t dest i (Some n) e = loaded-goes_on s t dest (slice_get (refs_of (object_at s.graph n)) i) e

stored-goes_on : (s : State) (n : Name) (i : ℕ) (v : Option Name) (o : Option (Option Name)) → (stored s n i v o).1 ≢ reply.Ended
stored-goes_on s n i v None e = cc
stored-goes_on s n i v (Some old) e = cc

store-goes_on : (s : State) (i : ℕ) (v : Option Name) (b : Option Name) → (store_to s i v b).1 ≢ reply.Ended
store-goes_on s i v None e = cc
store-goes_on s i v (Some n) e = stored-goes_on s n i v (slice_get (refs_of (object_at s.graph n)) i) e

swapped-goes_on : (s : State) (t dest : ℕ) (n : Name) (i : ℕ) (v : Option Name) (o : Option (Option Name)) → (swapped s t dest n i v o).1 ≢ reply.Ended
swapped-goes_on s t dest n i v None e = cc
swapped-goes_on s t dest n i v (Some old) e = cc

swap-goes_on : (s : State) (t dest i : ℕ) (v : Option Name) (b : Option Name) → (swap_in s t dest i v b).1 ≢ reply.Ended
swap-goes_on s t dest i v None e = cc
swap-goes_on s t dest i v (Some n) e = swapped-goes_on s t dest n i v (slice_get (refs_of (object_at s.graph n)) i) e

put_at-goes_on : (s : State) (n : Name) (i v : ℕ) (o : Option ℕ) → (put_at s n i v o).1 ≢ reply.Ended
put_at-goes_on s n i v None e = cc
put_at-goes_on s n i v (Some old) e = cc

put-goes_on : (s : State) (i v : ℕ) (b : Option Name) → (put_to s i v b).1 ≢ reply.Ended
put-goes_on s i v None e = cc
put-goes_on s i v (Some n) e = put_at-goes_on s n i v (slice_get (values_of (object_at s.graph n)) i) e

added-goes_on : (s : State) (n : Name) (i v : ℕ) (o : Option ℕ) → (added s n i v o).1 ≢ reply.Ended
added-goes_on s n i v None e = cc
added-goes_on s n i v (Some old) e = cc

add-goes_on : (s : State) (i v : ℕ) (b : Option Name) → (add_to s i v b).1 ≢ reply.Ended
add-goes_on s i v None e = cc
add-goes_on s i v (Some n) e = added-goes_on s n i v (slice_get (values_of (object_at s.graph n)) i) e

got-goes_on : (o : Option ℕ) → got o ≢ reply.Ended
got-goes_on None e = cc
got-goes_on (Some v) e = cc

get-goes_on : (s : State) (i : ℕ) (b : Option Name) → (get_from s i b).1 ≢ reply.Ended
get-goes_on s i None e = cc
get-goes_on s i (Some n) e = got-goes_on (slice_get (values_of (object_at s.graph n)) i) e

step-goes_on : (s : State) (t : ℕ) (o : Op) → o ≢ op.End → IsReply s t o reply.Ended → ⊥
step-goes_on s t (op.New dest shape) more e = cc
step-goes_on s t (op.Load dest base i) more e = load-goes_on s t dest i (register_at s t base) e
step-goes_on s t (op.Store base i source) more e = store-goes_on s i (register_at s t source) (register_at s t base) e
step-goes_on s t (op.Put base i v) more e = put-goes_on s i v (register_at s t base) e
step-goes_on s t (op.Get base i) more e = get-goes_on s i (register_at s t base) e
step-goes_on s t (op.Swap dest base i source) more e = swap-goes_on s t dest i (register_at s t source) (register_at s t base) e
step-goes_on s t (op.Add base i v) more e = add-goes_on s i v (register_at s t base) e
step-goes_on s t (op.Move dest source) more e = cc
step-goes_on s t (op.Nil dest) more e = cc
step-goes_on s t (op.Same left right) more e = cc
step-goes_on s t op.Pause more e = cc
step-goes_on s t op.Collect more e = cc
step-goes_on s t op.End more e = more refl

-- so it is of each call of a run
pub goes_on : (terms : Terms) (h : List Item) (t : ℕ) (o : Op) → o ≢ op.End → Replies terms h t o reply.Ended → ⊥
goes_on terms h t (op.New dest shape) more is = step-goes_on (moment terms.threads h).state t (op.New dest shape) more is
goes_on terms h t o more is = step-goes_on (moment terms.threads h).state t o more is

-- ---- the replies of a thread

-- each reply of the end is that of an end, call by call
abbrev pub EndsReply : List Op → List Reply → Type 0
EndsReply [] [] = Unit {0}
EndsReply [] (r ∷ rs) = ⊥
EndsReply (o ∷ os) [] = ⊥
EndsReply (o ∷ os) (r ∷ rs) = (o ≢ op.End → r ≢ reply.Ended) × EndsReply os rs

-- it stays with one call more
EndsReply-push : (os : List Op) (rs : List Reply) (o : Op) (r : Reply) → EndsReply os rs → (o ≢ op.End → r ≢ reply.Ended) → EndsReply (os ++ o ∷ []) (rs ++ r ∷ [])
EndsReply-push [] [] o r before here = (here, tt)
EndsReply-push [] (s ∷ rs) o r before here = absurd before
EndsReply-push (p ∷ os) [] o r before here = absurd before
EndsReply-push (p ∷ os) (s ∷ rs) o r (first, before) here = (first, EndsReply-push os rs o r before here)

EndsReply-more : (b : Bool) (os : List Op) (rs : List Reply) (o : Op) (r : Reply) → EndsReply os rs → (o ≢ op.End → r ≢ reply.Ended)
    → EndsReply (if b then os ++ o ∷ [] else os) (if b then rs ++ r ∷ [] else rs)
EndsReply-more true os rs o r before here = EndsReply-push os rs o r before here
EndsReply-more false os rs o r before here = before

-- so it is of each thread of a legal history
pub ends_reply : (terms : Terms) (t : ℕ) (h : List Item) → IsLegalSoFar terms h → EndsReply (calls_of t h) (replies_of t h)
ends_reply terms t [] legal = tt
ends_reply terms t (Renew ns ∷ h) legal = tt
ends_reply terms t (Pause report ∷ h) legal = ends_reply terms t h legal.0
ends_reply terms t (Call u o r ∷ h) legal =
    EndsReply-more (nat_eq t u) (calls_of t h) (replies_of t h) o r (ends_reply terms t h legal.0)
    (λ more e. goes_on terms h u o more (subst (Replies terms h u o) e legal.2.reply))

-- then no reply of an operation is the end's
none_ended : (os back : List Op) (rs : List Reply) → EndsReply (os ++ back) rs → All (λ o. o ≢ op.End) os → All (λ r. r ≢ reply.Ended) (take (length os) rs)
none_ended [] back rs is none = All-nil (λ r. r ≢ reply.Ended)
none_ended (o ∷ os) back [] is none = absurd is
none_ended (o ∷ os) back (r ∷ rs) (first, is) none =
    All-cons (λ r. r ≢ reply.Ended) r (take (length os) rs) (first (All-head (λ o. o ≢ op.End) o os none)) (none_ended os back rs is (All-tail (λ o. o ≢ op.End) o os none))

-- and there are as many replies as calls
as_many : (os : List Op) (rs : List Reply) → EndsReply os rs → length os ≡ length rs
as_many [] [] is = refl
as_many [] (r ∷ rs) is = absurd is
as_many (o ∷ os) [] is = absurd is
as_many (o ∷ os) (r ∷ rs) is = ap suc (as_many os rs is.1)

-- ---- the text of a thread

-- where all its operations and its end are done, its replies can be printed
pub printable : (terms : Terms) (t : ℕ) (h : List Item) (operations : List Op) (replies : List Reply) → IsLegalSoFar terms h
    → All (λ o. o ≢ op.End) operations → calls_of t h ≡ all_of operations → replies_of t h ≡ replies → ArePrintable operations replies
printable terms t h operations replies legal none calls told =
    let is : EndsReply (all_of operations) replies = subst (EndsReply (all_of operations)) told (subst (λ os. EndsReply os (replies_of t h)) calls (ends_reply terms t h legal)) in
    record {
      replied = let many = as_many (all_of operations) replies is in let one = length_push operations op.End in omega arith;
      no_end = none;
      none_ended = none_ended operations (op.End ∷ []) replies is none;
    }

-- and their text is that of the thread in the history
pub text_of_thread : (t : ℕ) (h : List Item) (operations : List Op) (replies : List Reply) → calls_of t h ≡ all_of operations → replies_of t h ≡ replies → thread_text t h ≡ replies_text t operations replies
text_of_thread t h operations replies calls told = is_of_its_operations t h operations replies calls (ap (take (length operations)) told)
