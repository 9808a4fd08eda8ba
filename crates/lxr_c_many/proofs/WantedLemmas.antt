-- What is wanted of a new object fits, where its numbers do.
use Rattle.std.proofs.Common.{◌≡◌, ℕ, refl, Bool, true, false, List, [], ◌∷◌, length, nat_eq}
use Rattle.std.specs.Prelude.{◌&&◌, IfOk, IsTrue, Err, Ok, if◌then◌else◌, nat_le, nat_lt, not}
use Rattle.std.specs.List.{list_all}
use Rattle.std.proofs.lemmas.Bool.{and_from, and_parts, leb-true, ltb-true}
use Rattle.lxr_c_base.specs.declared.codes.Code.TheVariants as code
use Rattle.lxr_c_base.specs.Requests.{with_number}
use Rattle.lxr_c_many.specs.Fields.{are_registers}
use Rattle.lxr_c_many.specs.Making.{IsWanted, are_sources, object_of}

-- sources are registers
pub sources_registers : (registers dest : ℕ) (sources : List ℕ) → IsTrue (are_sources registers dest sources) → IsTrue (are_registers registers sources)
sources_registers registers dest [] all = refl
sources_registers registers dest (s ∷ ss) all =
    let both = and_parts (nat_lt s registers && not (nat_eq s dest)) (list_all (λ r. nat_lt r registers && not (nat_eq r dest)) ss) all in
    let one = and_parts (nat_lt s registers) (not (nat_eq s dest)) both.0 in
    and_from (nat_lt s registers) (list_all (λ r. nat_lt r registers) ss) one.0 (sources_registers registers dest ss both.1)

pub object_fits : (registers dest : ℕ) (sources words : List ℕ) → IsTrue (are_registers registers sources) → IfOk (object_of registers dest sources words) (IsWanted registers sources words)
object_fits registers dest sources words from = by (nat_lt dest registers) (nat_le (length sources) 1023) (nat_le (length words) 1023) refl refl refl
  where
    by : (a b c : Bool) → nat_lt dest registers ≡ a → nat_le (length sources) 1023 ≡ b → nat_le (length words) 1023 ≡ c
        → IfOk (with_number (if a then Ok dest else Err code.Register) (λ d. with_number (if b then Ok (length sources) else Err code.Size) (λ r. with_number (if c then Ok (length words) else Err code.Size)
        (λ w. Ok (record { dest = d; shape = record { refs = r; values = w } }))))) (IsWanted registers sources words)
    by true true true small few many = record {
      dest = ltb-true dest registers small;
      fits = (leb-true (length sources) 1023 few, leb-true (length words) 1023 many);
      refs = refl;
      values = refl;
      from = from;
    }
    by true true false small few many = tt
    by true false c small few many = tt
    by false b c small few many = tt
