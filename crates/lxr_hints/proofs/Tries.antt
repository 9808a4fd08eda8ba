-- Each of the others is tried in order, until one gives a place.
use Rattle.std.proofs.Common.{◌≡◌, ℕ, ◌+◌, false, Option, Some, None, subst, add-one, sym}
use Rattle.std.specs.Prelude.{is_some}
use Rattle.lxr_layout.specs.declared.Place.{Place}
use Rattle.lxr_hints.specs.Taking.{NoneGiven}
use Rattle.lxr_hints.specs.Taking.NoneGiven.{next}

module _ {D : Type 0} (stolen : D → ℕ → Option Place → D → Type 0) where
  -- one more try gave none
  pub one_more : (before between after : D) (number : ℕ) (answer : Option Place) → NoneGiven stolen before number between → is_some answer ≡ false → stolen between number answer after → NoneGiven stolen before (number + 1) after
  one_more before between after number None none was try = subst (λ (n : ℕ). NoneGiven stolen before n after) (sym (add-one number)) (next none try)
  one_more before between after number (Some place) none was try = absurd (cc)
