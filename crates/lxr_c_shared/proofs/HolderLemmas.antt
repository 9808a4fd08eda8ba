-- What a call comes to at what a program has, where it has something.
use Rattle.std.proofs.Common.{◌≡◌, sym, subst, Some}
use Rattle.lxr_c_shared.specs.declared.owned.Owned.{Owned}
use Rattle.lxr_c_shared.specs.Holding.{At, MayHold}

module _ {T : Type 0} (nothing : T) (does : Owned → Owned → T → Type 0) (before after : MayHold) where
  pub at_some : (x y : Owned) (answer : T) → before ≡ Some x → after ≡ Some y → does x y answer → At nothing does before after answer
  at_some x y answer had has done = subst (λ k. At nothing does k after answer) (sym had) (y, has, done)
