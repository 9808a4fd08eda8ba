-- The name of the object at a place is told by its header, whatever state the space is at rest for.
use Rattle.std.proofs.Common.{◌≡◌, ◌≢◌, ℕ, zero, suc, refl, sym, ap, subst, ◌∙◌}
use Rattle.std.specs.Prelude.{Option, Some, None}
use Rattle.lxr_layout.specs.declared.Header.{Header}
use Rattle.lxr_layout.specs.declared.Header.TheVariants as header
use Rattle.lxr_layout.specs.declared.Name.{Name}
use Rattle.lxr_layout.specs.declared.Place.{Place}
use Rattle.lxr_layout.specs.declared.Shape.{Shape}
use Rattle.lxr_layout.specs.Objects.{header_of}
use Rattle.lxr_layout.specs.Places.{first_word}
use Rattle.lxr_image.specs.declared.space.Space.{Space}
use Rattle.lxr_image.specs.Spaces.{tables_of}
use Rattle.lxr_invariant.specs.AbstractState.{AbstractState}
use Rattle.lxr_direct.specs.Operating.{IsPlaceOf}
use Rattle.lxr_direct.proofs.HeldLemmas.{Has, has_object, none_there}

-- the name that a header tells at a place, but not where it is that of nil
abbrev told_by : ℕ → Header → Option Name
told_by zero h = None
told_by (suc p) (header.Object n shape) = Some n
told_by (suc p) (header.Moved q) = None

told_none : (p : ℕ) (h : Header) → p ≡ 0 → told_by p h ≡ None
told_none p h e = subst (λ z. told_by z h ≡ None) (sym e) refl

told_some : (p : ℕ) (h : Header) (n : Name) (shape : Shape) → p ≢ 0 → h ≡ header.Object n shape → told_by p h ≡ Some n
told_some zero h n shape some e = absurd (some refl)
told_some (suc p) h n shape some e = ap (told_by (suc p)) e

-- the name of the object at a place
abbrev pub name_told : Space → Place → Option Name
name_told s p = told_by p.0 (header_of ((tables_of s).heap (first_word p.0)))

pub place_tells : (s : Space) (g : AbstractState) (p : Place) (v : Option Name) → IsPlaceOf s g p v → name_told s p ≡ v
place_tells s g p None is = told_none p.0 _ is.stands
place_tells s g p (Some n) is =
    let some : p.0 ≢ 0 = λ e. let none = none_there s g p (Some n) is e in absurd (cc) in
    let h : Has s g p (Some n) = has_object s g p (Some n) is some in
    told_some p.0 _ h.name _ some h.told ∙ sym h.is
