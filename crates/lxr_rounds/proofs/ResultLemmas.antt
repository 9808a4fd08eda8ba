-- What holds of a result, by whether it is an error.
use Rattle.std.proofs.Common.{◌≡◌, refl, subst, sym}
use Rattle.std.specs.Prelude.{Err, IfErr, IfOk, IsErrAnd, Ok, OnErr, OnOk, Result}

-- what holds of every error holds of the one that there is
pub stopped_always : {T E : Type 0} {P : E → Type 0} (r : Result T E) → ((why : E) → P why) → IfErr r P
stopped_always (Ok x) each = tt
stopped_always (Err why) each = each why

-- an error that is passed on is the one that there was
pub passed_on : {T E : Type 0} (P : E → Type 0) (r : Result T E) (why : E) → IsErrAnd r (λ e. e ≡ why) → P why → IfErr r P
passed_on P (Ok x) why is holds = tt
passed_on P (Err e) why is holds = subst P (sym is) holds

-- what holds at an error holds of the one that there is
pub told_at_err : {T E Q : Type 0} (P : E → Type 0) (r : Result T E) → OnErr r Q → ((why : E) → Q → P why) → IfErr r P
told_at_err P (Ok x) holds each = tt
told_at_err P (Err why) holds each = each why holds

-- and what it is is known there
pub at_err : {T E Q : Type 0} (P : E → Type 0) (r : Result T E) → OnErr r Q → ((why : E) → r ≡ Err why → Q → P why) → IfErr r P
at_err P (Ok x) holds each = tt
at_err P (Err why) holds each = each why refl holds

-- two facts of one answer
pub ok_both : {T E : Type 0} (P : T → Type 0) (Q : Type 0) (r : Result T E) → IfOk r P → OnOk r Q → IfOk r (λ v. P v × Q)
ok_both P Q (Ok v) here there = (here, there)
ok_both P Q (Err why) here there = tt

-- what holds either way
pub either_way : {T E : Type 0} (Q : Type 0) (r : Result T E) → IfOk r (λ v. Q) → IfErr r (λ why. Q) → Q
either_way Q (Ok v) here there = here
either_way Q (Err why) here there = there
