-- What may leave a deque by a rule leaves it as the deque's protocol has it: one place, and it is the first; and what is put or got is written down.
use Rattle.std.proofs.Common.{◌≡◌, ℕ, zero, suc, All, List, [], ◌∷◌, arith, sym, subst, refl}
use Rattle.std.specs.Prelude.{Option, Some, None, IfSome}
use Rattle.lxr_layout.specs.declared.Place.{Place}
use Rattle.crossbeam_deque.specs.declared.steal.Steal.{Steal}
use Rattle.crossbeam_deque.specs.declared.steal.Steal.TheVariants.{Empty, Success, Retry}
use Rattle.crossbeam_deque.specs.Steals.{MatchSteal}
use Rattle.crossbeam_deque.specs.Tasks.{Takes, Pushes}
use Rattle.lxr_hints.specs.declared.rule.Journal.{Journal}
use Rattle.lxr_hints.specs.Journals.{behind, with_got, with_put}
use Rattle.lxr_hints.specs.Rules.{MayJoin, MayLeave}

-- of one place in a list, what is known of the place
pub of_one : (taken : Place → Type 0) (place : Place) → taken place → All taken (place ∷ [])
of_one taken place is zero d within = is
of_one taken place is (suc k) d within = absurd (omega arith)

pub puts_last : (holds : List Place → Type 0) (port : ℕ) (v : Journal) (place : Place) → MayJoin holds place
    → Pushes (λ (places : List Place) (views : List Journal). holds places) port v (place ∷ []) (λ (w : Journal). w ≡ with_put v (place ∷ []))
puts_last holds port v place joins places views h at = (with_put v (place ∷ []), joins places h, refl)

pub takes_first : (holds : List Place → Type 0) (taken : Place → Type 0) (port : ℕ) (v : Journal) → MayLeave holds taken
    → Takes (λ (places : List Place) (views : List Journal). holds places) port v 1 (λ (places : List Place) (w : Journal). (w ≡ with_got v places) × All taken places)
takes_first holds taken port v leaves [] places views has few h at = absurd (omega arith)
takes_first holds taken port v leaves (place ∷ []) places views has few h at = let (rest, is) = leaves place places h in (with_got v (place ∷ []), rest, (refl, of_one taken place is))
takes_first holds taken port v leaves (place ∷ next ∷ more) places views has few h at = absurd (omega arith)

-- a place that a try gave is one that was stolen, and else nothing was
pub stolen_is : (taken : Place → Type 0) (v w : Journal) (stolen : Steal Place) (place : Option Place) (A B : Type 0) → MatchSteal stolen (place ≡ None) (place ≡ None) (λ x. place ≡ Some x)
    → MatchSteal stolen ((w ≡ v) × A) ((w ≡ v) × B) (λ x. (w ≡ with_got v (x ∷ [])) × All taken (x ∷ [])) → (w ≡ behind v place) × IfSome place taken
stolen_is taken v w Empty place A B none told = (subst (λ o. w ≡ behind v o) (sym none) told.0, subst (λ o. IfSome o taken) (sym none) tt)
stolen_is taken v w Retry place A B none told = (subst (λ o. w ≡ behind v o) (sym none) told.0, subst (λ o. IfSome o taken) (sym none) tt)
stolen_is taken v w (Success x) place A B is told = (subst (λ o. w ≡ behind v o) (sym is) told.0, subst (λ o. IfSome o taken) (sym is) (told.1 0 x (omega arith)))
