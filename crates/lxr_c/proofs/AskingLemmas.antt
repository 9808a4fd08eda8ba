-- An operation that was ordered by as many registers as a station tells is ordered by those that it told before.
use Rattle.std.proofs.Common.{◌≡◌, ◌∙◌, ℕ, ap, subst}
use Rattle.lxr_c_base.specs.declared.codes.Code.TheVariants as code
use Rattle.lxr_c_base.specs.Requests.{SmallRequest}
use Rattle.lxr_c_shared.specs.declared.passing.Told.{Told}
use Rattle.lxr_c_shared.specs.Holding.{At, MayHold}
use Rattle.lxr_c_shared.specs.Passing.{Operates, only, registers_in}

pub asked_by : (ask : ℕ → SmallRequest) (before mid after : MayHold) (registers : ℕ) (request : SmallRequest) (told : Told) → registers ≡ registers_in before → mid ≡ before → request ≡ ask registers
    → At (only code.NoHeap) (Operates request) mid after told → At (only code.NoHeap) (Operates (ask (registers_in before))) before after told
asked_by ask before mid after registers request told count kept is done =
    subst (λ held. At (only code.NoHeap) (Operates (ask (registers_in before))) held after told) kept
    (subst (λ q. At (only code.NoHeap) (Operates q) mid after told) (is ∙ ap ask count) done)
