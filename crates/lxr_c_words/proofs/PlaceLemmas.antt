-- The object that is wanted for so many words has place for them.
use Rattle.std.proofs.Common.{ℕ, ◌+◌, ◌*◌, ◌/◌, ◌<◌, refl, arith, Bool, true, false}
use Rattle.std.specs.Prelude.{◌&&◌, IfOk, Ok, Err, if◌then◌else◌, nat_le, nat_lt}
use Rattle.lxr_graph.specs.declared.Op.TheVariants as op
use Rattle.lxr_large_model.specs.declared.LargeOp.TheVariants as large_op
use Rattle.lxr_c_base.specs.declared.codes.Code.TheVariants as code
use Rattle.lxr_c_base.specs.Requests.{big, blocks_of, new, size_of, with_number}
use Rattle.lxr_c_words.specs.Making.{HasPlaceFor}

pub place_new : (registers dest length : ℕ) → IfOk (new registers dest 0 length) (HasPlaceFor length)
place_new registers dest length = by (nat_lt dest registers)
  where
    last : (b : Bool) → IfOk (with_number (if b then Ok length else Err code.Size) (λ w. Ok (large_op.Small (op.New dest (record { refs = 0; values = w }))))) (HasPlaceFor length)
    last false = tt
    last true = (refl, refl)

    by : (b : Bool) → IfOk (with_number (if b then Ok dest else Err code.Register) (λ d. with_number (size_of 0) (λ r. with_number (size_of length) (λ w. Ok (large_op.Small (op.New d (record { refs = r; values = w }))))))) (HasPlaceFor length)
    by false = tt
    by true = last (nat_le length 1023)

pub place_big : (registers dest length : ℕ) → IfOk (big registers dest (length / 4096 + 1)) (HasPlaceFor length)
place_big registers dest length = by (nat_lt dest registers)
  where
    fits : length < 4096 * (length / 4096 + 1)
    fits = omega arith

    last : (b : Bool) → IfOk (with_number (if b then Ok (length / 4096 + 1) else Err code.Size) (λ k. Ok (large_op.Big dest k))) (HasPlaceFor length)
    last false = tt
    last true = fits

    by : (b : Bool) → IfOk (with_number (if b then Ok dest else Err code.Register) (λ d. with_number (blocks_of (length / 4096 + 1)) (λ k. Ok (large_op.Big d k)))) (HasPlaceFor length)
    by false = tt
    by true = last (nat_le 1 (length / 4096 + 1) && nat_le (length / 4096 + 1) 128)
