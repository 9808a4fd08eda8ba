-- What a call comes to, by what the handle kept.
use Rattle.std.proofs.Common.{◌≡◌, refl, sym, subst, List, Some}
use Rattle.std.specs.Prelude.{Result, Ok}
use Rattle.lxr_large_model.specs.History.{LargeItem}
use Rattle.lxr_c_base.specs.declared.codes.Code.{Code}
use Rattle.lxr_c_heap.specs.declared.host.HostHeap.{HostHeap}
use Rattle.lxr_c_heap.specs.Hosting.{IsHostOf}
use Rattle.lxr_c_heap.specs.Keeping.{Kept}
use Rattle.lxr_c_many.specs.Calling.{Does}

module _ {R T : Type 0} (does : HostHeap → HostHeap → List LargeItem → R → T → Type 0) (before after : Kept) where
  pub does_done : (x y : HostHeap) (wanted : Result R Code) (what : R) (told : T) → before ≡ Some x → after ≡ Some y → wanted ≡ Ok what
      → ((h : List LargeItem) → IsHostOf x h → does x y h what told) → Does does before after wanted (Ok told)
  does_done x y wanted what told had has is done = subst (λ k. Does {R = R} {T = T} does k after wanted (Ok told)) (sym had)
      (subst (λ q. Does {R = R} {T = T} does (Some x) after q (Ok told)) (sym is) (y, told, has, refl, done))
