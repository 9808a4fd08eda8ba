-- What a word refers to is a place of the heap, and the object that a header tells of lies in the heap.
use Rattle.std.proofs.Common.{◌≡◌, ℕ, ◌+◌, ◌/◌, ◌%◌, ◌^◌, ◌≤◌, Bool, true, false, arith, refl, sym, subst}
use Rattle.std.specs.Prelude.{nat_le, if◌then◌else◌, Some, None}
use Rattle.lxr_layout.specs.declared.Place.{Place}
use Rattle.lxr_layout.specs.declared.Shape.{Shape}
use Rattle.lxr_layout.specs.declared.Header.TheVariants.{Object, Moved}
use Rattle.lxr_layout.specs.declared.limits.Regions.{Regions}
use Rattle.lxr_layout.specs.Objects.{word_count}
use Rattle.lxr_layout.specs.Places.{first_word}
use Rattle.lxr_helper.specs.Words.{InHeap, IsObject, is_in_heap, references_in, references_told, referent_in}

referent_by : (r : Regions) (word : ℕ) (place : Place) (b : Bool) → is_in_heap r word ≡ b → (if b then Some (record { 0 = word }) else None) ≡ Some place → InHeap r place
referent_by r word place true e is =
    let at : place ≡ record { 0 = word } = cc in
    subst (InHeap r) (sym at) (grind arith, grind arith)
referent_by r word place false e is = absurd (cc)

pub referent_within : (r : Regions) (word : ℕ) (place : Place) → referent_in r word ≡ Some place → InHeap r place
referent_within r word place e = referent_by r word place (is_in_heap r word) refl e

-- an object with no reference lies in the heap
pub empty_object : (r : Regions) (place : Place) → InHeap r place → IsObject r place 0
empty_object r place within = record { in_heap = within; few = omega arith; within = omega arith }

shape_by : (r : Regions) (place : Place) (shape : Shape) → InHeap r place → shape.refs ≤ 1023 → (b : Bool) → nat_le (first_word place.0 + word_count shape) r.counts ≡ b
    → IsObject r place (if b then shape.refs else 0)
shape_by r place shape within few true e =
    let lies : first_word place.0 + word_count shape ≤ r.counts = grind arith in
    record { in_heap = within; few = few; within = omega arith }
shape_by r place shape within few false e = empty_object r place within

header_by : (r : Regions) (place : Place) (word : ℕ) → InHeap r place → (b : Bool)
    → IsObject r place (references_told r place (if b then Moved (record { 0 = word % 2 ^ 32 })
    else Object
    (record { thread = word / 2 ^ 52 % 2 ^ 8; serial = word / 2 ^ 20 % 2 ^ 32 })
    (record { refs = word / 2 ^ 10 % 2 ^ 10; values = word % 2 ^ 10 })))
header_by r place word within true = empty_object r place within
header_by r place word within false = shape_by r place (record { refs = word / 2 ^ 10 % 2 ^ 10; values = word % 2 ^ 10 }) within (omega arith) (nat_le (first_word place.0 + word_count (record { refs = word / 2 ^ 10 % 2 ^ 10; values = word % 2 ^ 10 })) r.counts) refl

pub header_object : (r : Regions) (place : Place) (word : ℕ) → InHeap r place → IsObject r place (references_in r place word)
header_object r place word within = header_by r place word within (nat_le (2 ^ 63) word)
