-- Tests of numbers, of two things at once, and of states.
use Rattle.std.proofs.Common.{◌≡◌, ◌≢◌, ℕ, ◌<◌, ◌≤◌, ◌⊎◌, refl, inl, inr, arith, Bool, true, false}
use Rattle.std.specs.Prelude.{◌&&◌, nat_lt, if◌then◌else◌}
use Rattle.std.proofs.lemmas.Bool.Decides.{nat_tests}
use Rattle.lxr_blocks.specs.declared.states.BlockState.{BlockState}
use Rattle.lxr_blocks.specs.declared.states.BlockState.TheVariants.{Chosen, Free, Partly, Whole, World}
use Rattle.lxr_blocks.specs.States.{is_fixed}
use Rattle.lxr_invariant.specs.Lines.{is_chosen}

-- ---- numbers

pub below : (b n : ℕ) → b < n → nat_lt b n ≡ true
below b n h = grind (arith, nat_tests)

pub not_below : (b n : ℕ) → n ≤ b → nat_lt b n ≡ false
not_below b n h = grind (arith, nat_tests)

-- ---- two things at once

pub and_false : (x : Bool) → (x && false) ≡ false
and_false true = refl
and_false false = refl

pub and_true : (x : Bool) → (x && true) ≡ x
and_true true = refl
and_true false = refl

pub both : (x y : Bool) → (x && y) ≡ true → (x ≡ true) × (y ≡ true)
both true true is = (refl, refl)
both true false is = absurd (let e : false ≡ true = is in cc)
both false y is = absurd (let e : false ≡ true = is in cc)

pub one_at_most : (x : Bool) → (if x then 1 else 0) ≤ 1
one_at_most true = omega arith
one_at_most false = omega arith

pub told : (x : Bool) → (x ≡ true) ⊎ (x ≡ false)
told true = inl refl
told false = inr refl

-- ---- states

pub unchosen : (s : BlockState) → s ≢ Chosen → is_chosen s ≡ false
unchosen Free other = refl
unchosen Partly other = refl
unchosen Whole other = refl
unchosen Chosen other = absurd (other refl)
unchosen World other = refl

pub unfixed : (s : BlockState) → s ≢ Chosen → s ≢ World → is_fixed s ≡ false
unfixed Free c w = refl
unfixed Partly c w = refl
unfixed Whole c w = refl
unfixed Chosen c w = absurd (c refl)
unfixed World c w = absurd (w refl)
