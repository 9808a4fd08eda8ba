-- What threads were asked for is counted alike from the first thread on.
use Rattle.std.proofs.Common.{◌≡◌, ℕ, zero, suc, ◌*◌, refl, arith, [], ◌∷◌}
use Rattle.std.specs.Prelude.{drop, max, take}
use Rattle.lxr_model.specs.Belongs.{Script}
use Rattle.lxr_shared_heap.specs.Heaps.{longest, most_asked_with}

pub asked_with : (first : ℕ) (script : Script) → most_asked_with first script ≡ max (longest (take first script)) (16 * longest (drop first script))
asked_with zero [] = refl
asked_with (suc first) [] = refl
asked_with zero (operations ∷ script) = let rest = asked_with zero script in grind (arith, rest)
asked_with (suc first) (operations ∷ script) = let rest = asked_with first script in grind (arith, rest)
