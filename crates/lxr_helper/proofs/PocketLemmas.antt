-- A pocket's last place is the one that was put in last.
use Rattle.std.proofs.Common.{◌≡◌, ◌∙◌, ◌-◌, ◌<◌, List, [], ◌∷◌, ◌++◌, length, take, arith, refl, ap, sym, subst}
use Rattle.std.specs.Prelude.{Option, Some, None, MatchOption, slice_get}
use Rattle.std.specs.List.{All}
use Rattle.std.proofs.lemmas.List.{length-append, length-take}
use Rattle.std.proofs.lemmas.List.Elements.{All-append, All-cons, All-nil, All-take}
use Rattle.std.proofs.lemmas.Option.{get_or_from_slice_get, slice_get_within}
use Rattle.std.proofs.Math.Seq.{take-append_seam}
use Rattle.lxr_layout.specs.declared.Place.{Place}
use Rattle.lxr_base.specs.Roomy.{Roomy, pushed}
use Rattle.lxr_helper.specs.Pockets.{IsPocket, last_of, taken_from, without_last}

-- behind some places stands one more
get_behind : (places : List Place) (place : Place) → slice_get (places ++ place ∷ []) (length places) ≡ Some place
get_behind [] place = refl
get_behind (p ∷ ps) place = get_behind ps place

places_before : (places : List Place) (place : Place) → length (places ++ place ∷ []) - 1 ≡ length places
places_before places place = omega (arith, length-append places (place ∷ []))

pub last_pushed : (places : List Place) (place : Place) → last_of (places ++ place ∷ []) ≡ Some place
last_pushed places place = ap (λ n. slice_get (places ++ place ∷ []) n) (places_before places place) ∙ get_behind places place

pub without_pushed : (places : List Place) (place : Place) → without_last (places ++ place ∷ []) ≡ places
without_pushed places place = ap (λ n. take n (places ++ place ∷ [])) (places_before places place) ∙ take-append_seam places (place ∷ [])

pub taken_pushed : (pocket : Roomy Place) (place : Place) → taken_from (pushed pocket place) ≡ pocket
taken_pushed pocket place = ap (λ places. record pocket { items = places }) (without_pushed pocket.items place)

-- what `pop` takes out is the last place, and what it leaves is the pocket without it
abbrev pub IsPopped : Roomy Place → Roomy Place → Option Place → Type 0
IsPopped before left item = MatchOption item ((before.items ≡ []) × (left ≡ before)) (λ place. before ≡ pushed left place)

taken_none : (pocket : Roomy Place) → pocket.items ≡ [] → taken_from pocket ≡ pocket
taken_none pocket e = subst (λ places. record pocket { items = without_last places } ≡ record pocket { items = places }) (sym e) refl

pub popped : (before left : Roomy Place) (item : Option Place) → IsPopped before left item
    → (item ≡ last_of before.items) × (left ≡ taken_from before)
popped before left None h = (sym (ap last_of h.0), h.1 ∙ sym (taken_none before h.0))
popped before left (Some place) h =
    (sym (ap (λ (pocket : Roomy Place). last_of pocket.items) h ∙ last_pushed left.items place), sym (ap taken_from h ∙ taken_pushed left place))

-- either a pocket is empty, or it has a last place
pub data FromEnd : List Place → Type 0 where
  is_empty : FromEnd []
  has_last : (places : List Place) (place : Place) → FromEnd (places ++ place ∷ [])

from_end_with : (p : Place) (ps : List Place) → FromEnd ps → FromEnd (p ∷ ps)
from_end_with p [] is_empty = has_last [] p
from_end_with p _ (has_last places place) = has_last (p ∷ places) place

pub from_end : (places : List Place) → FromEnd places
from_end [] = is_empty
from_end (p ∷ ps) = from_end_with p ps (from_end ps)

-- the last of some places is one of them
pub last_holds : (P : Place → Type 0) (places : List Place) (place : Place) → All P places → last_of places ≡ Some place → P place
last_holds P places place all e =
    subst P (get_or_from_slice_get places (length places - 1) place place e) (all (length places - 1) place (slice_get_within places (length places - 1) place e))

-- where there is a last place, a place fewer is left without it
pub fewer_left : (places : List Place) (place : Place) → last_of places ≡ Some place → length (without_last places) < length places
fewer_left places place e = omega (arith, length-take (length places - 1) places, slice_get_within places (length places - 1) place e)

-- what holds of each place holds of those that are left, and of those with a further one
pub all_left : (P : Place → Type 0) (places : List Place) → All P places → All P (without_last places)
all_left P places all = All-take P (length places - 1) places all

pub all_pushed : (P : Place → Type 0) (places : List Place) (place : Place) → All P places → P place → All P (places ++ place ∷ [])
all_pushed P places place all holds = All-append P places (place ∷ []) all (All-cons P place [] holds (All-nil P))

-- a pocket stays one
pub taken_is : (pocket : Roomy Place) → IsPocket pocket → IsPocket (taken_from pocket)
taken_is pocket is = record { room = is.room; few = omega (arith, length-take (length pocket.items - 1) pocket.items, is.few) }

pub pushed_is : (pocket : Roomy Place) (place : Place) → IsPocket pocket → length pocket.items < 64 → IsPocket (pushed pocket place)
pushed_is pocket place is room = record { room = is.room; few = omega (arith, length-append pocket.items (place ∷ [])) }
