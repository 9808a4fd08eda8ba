-- The text of a thread's calls, call by call, and without its end.
use Rattle.std.proofs.Common.{◌≡◌, ℕ, refl, sym, ap, ◌∙◌, Bool, true, false, List, [], ◌∷◌, ◌++◌, length, take, arith, append_assoc, length-append, nat_eq}
use Rattle.std.specs.Prelude.{if◌then◌else◌}
use Rattle.std.proofs.lemmas.Bool.{eq-eqb}
use Rattle.std.proofs.lemmas.List.{append-nil}
use Rattle.lxr_graph.specs.declared.Op.{Op}
use Rattle.lxr_graph.specs.declared.Op.TheVariants as op
use Rattle.lxr_graph.specs.declared.Reply.{Reply}
use Rattle.lxr_graph.specs.History.{Item, Call, Pause, Renew, calls_of, replies_of}
use Rattle.lxr_text_print.specs.Replies.{call_text, calls_text, heading_text, replies_text, thread_text}

-- the end prints nothing
pub calls_text-end : (os : List Op) (rs : List Reply) → calls_text (os ++ op.End ∷ []) rs ≡ calls_text os rs
calls_text-end [] [] = refl
calls_text-end [] (r ∷ rs) = refl
calls_text-end (o ∷ os) [] = refl
calls_text-end (o ∷ os) (r ∷ rs) = ap (λ x. call_text o r ++ x) (calls_text-end os rs)

-- a reply behind the last operation prints nothing
pub calls_text-front : (os : List Op) (rs : List Reply) → calls_text os (take (length os) rs) ≡ calls_text os rs
calls_text-front [] rs = refl
calls_text-front (o ∷ os) [] = refl
calls_text-front (o ∷ os) (r ∷ rs) = ap (λ x. call_text o r ++ x) (calls_text-front os rs)

-- one call more
pub calls_text-push : (os : List Op) (rs : List Reply) (o : Op) (r : Reply) → length os ≡ length rs →
    calls_text (os ++ o ∷ []) (rs ++ r ∷ []) ≡ calls_text os rs ++ call_text o r
calls_text-push [] [] o r e = append-nil (call_text o r)
calls_text-push [] (s ∷ rs) o r e = absurd (omega arith)
calls_text-push (p ∷ os) [] o r e = absurd (omega arith)
calls_text-push (p ∷ os) (s ∷ rs) o r e = ap (λ x. call_text p s ++ x) (calls_text-push os rs o r (omega arith)) ∙ sym (append_assoc (call_text p s) (calls_text os rs) (call_text o r))

-- a call and its reply come together
length-either : (mine : Bool) (os : List Op) (rs : List Reply) (o : Op) (r : Reply) → length os ≡ length rs →
    length (if mine then os ++ o ∷ [] else os) ≡ length (if mine then rs ++ r ∷ [] else rs)
length-either true os rs o r e = omega (arith, length-append {A = Op}, length-append {A = Reply})
length-either false os rs o r e = e

-- each call of a history has its reply
pub length-calls_of : (t : ℕ) (h : List Item) → length (calls_of t h) ≡ length (replies_of t h)
length-calls_of t [] = refl
length-calls_of t (Renew ns ∷ h) = refl
length-calls_of t (Pause report ∷ h) = length-calls_of t h
length-calls_of t (Call u o r ∷ h) = length-either (nat_eq t u) (calls_of t h) (replies_of t h) o r (length-calls_of t h)

pub grows_by_calls : (t : ℕ) (o : Op) (r : Reply) (h : List Item) → thread_text t (Call t o r ∷ h) ≡ thread_text t h ++ call_text o r
grows_by_calls t o r h =
    let mine : nat_eq t t ≡ true = eq-eqb t t refl in
    rw mine (ap (λ x. heading_text t ++ x) (calls_text-push (calls_of t h) (replies_of t h) o r (length-calls_of t h))
    ∙ sym (append_assoc (heading_text t) (calls_text (calls_of t h) (replies_of t h)) (call_text o r)))

pub is_of_its_operations : (t : ℕ) (h : List Item) (os : List Op) (rs : List Reply) →
    calls_of t h ≡ os ++ op.End ∷ [] → take (length os) (replies_of t h) ≡ take (length os) rs → thread_text t h ≡ replies_text t os rs
is_of_its_operations t h os rs calls replies =
    ap (λ x. heading_text t ++ x)
    (ap (λ x. calls_text x (replies_of t h)) calls ∙ calls_text-end os (replies_of t h) ∙ sym (calls_text-front os (replies_of t h))
    ∙ ap (calls_text os) replies ∙ calls_text-front os rs)
