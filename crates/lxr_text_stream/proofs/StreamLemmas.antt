-- Bytes that are taken or written one piece after another are taken or written together.
use Rattle.std.proofs.Common.{inl, inr, ◌≡◌, ℕ, ◌+◌, ◌-◌, refl, sym, ap, List, [], ◌++◌, length, take, drop, arith, append_assoc, length-drop}
use Rattle.std.proofs.Math.Seq.{take-add, take-append-add}
use Rattle.std.proofs.lemmas.List.{append-nil, take-append-le, take_all, take_at}
use Rattle.std.proofs.lemmas.Bool.{cases_lt}
use Rattle.std.proofs.lemmas.Simd.{chunk-drop}
use Rattle.std.specs.Prelude.{Option, Some, None, IfSome}
use Rattle.lxr_text_stream.specs.Streams.{Takes, Appends, AppendsFront, IsAtEnd}

pub Appends-nil : (w : Option (List ℕ)) → Appends w w []
Appends-nil None = refl
Appends-nil (Some bytes) = ap Some (sym (append-nil bytes))

pub Appends-append : (u v w : Option (List ℕ)) (a b : List ℕ) → Appends u v a → Appends v w b → Appends u w (a ++ b)
Appends-append None v w a b p q = rw (q, p) refl
Appends-append (Some bytes) v w a b p q = rw (q, p) (ap Some (append_assoc bytes a b))

pub Takes-nil : (w : Option (List ℕ)) → Takes w w []
Takes-nil None = refl
Takes-nil (Some bytes) = refl

pub Takes-append : (u v w : Option (List ℕ)) (a b : List ℕ) → Takes u v a → Takes v w b → Takes u w (a ++ b)
Takes-append u v None a b p q = rw (p, q) refl
Takes-append u v (Some rest) a b p q = rw (p, q) (ap Some (sym (append_assoc a b rest)))

-- what was taken to the end is what was left
pub Takes-to_end : (u v : Option (List ℕ)) (bytes : List ℕ) → Takes u v bytes → IsAtEnd v → IfSome u (λ left. left ≡ bytes)
Takes-to_end u None bytes p e = rw p tt
Takes-to_end u (Some rest) bytes p e = rw (p, e) (append-nil bytes)

pub take_take : (xs : List ℕ) (at n : ℕ) → take at xs ++ take n (drop at xs) ≡ take (at + n) xs
take_take xs at n = sym (take-add at n xs)

-- `&xs[at..]`
pub slice_tail : (xs : List ℕ) (at : ℕ) → take (length xs - at) (drop at xs) ≡ drop at xs
slice_tail xs at = take_all (length xs - at) (drop at xs) (omega (arith, length-drop at xs))

-- what is left, the next bytes of it, and what is left behind them
pub take_drop : (xs : List ℕ) (at n : ℕ) → drop at xs ≡ take n (drop at xs) ++ drop (at + n) xs
take_drop xs at n = chunk-drop at n xs

-- a whole piece and then a prefix of the next are a prefix of both
pub AppendsFront-after : (u v w : Option (List ℕ)) (a b : List ℕ) → Appends u v a → AppendsFront v w b → AppendsFront u w (a ++ b)
AppendsFront-after u v w a b p q = (length a + q.0, rw (take-append-add a b q.0) (Appends-append u v w a (take q.0 b) p q.1))

-- a prefix of a piece is a prefix of the piece and what follows it
pub AppendsFront-before : (u w : Option (List ℕ)) (a b : List ℕ) → AppendsFront u w a → AppendsFront u w (a ++ b)
AppendsFront-before u w a b q =
    elim (cases_lt q.0 (length a)) [
      | inl within ↦ (q.0, rw (take-append-le q.0 a b (omega arith)) q.1)
      | inr past ↦ (length a, rw (take_at a b (length a) refl) (rw (take_all q.0 a past) at q.1))
    ]
