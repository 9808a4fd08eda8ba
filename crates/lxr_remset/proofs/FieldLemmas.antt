-- A reference of an object that lies whole in the heap may be remembered.
use Rattle.std.proofs.Common.{ℕ, ◌<◌, ◌≤◌, arith}
use Rattle.lxr_layout.specs.declared.limits.Limits.{Limits}
use Rattle.lxr_layout.specs.declared.Name.{Name}
use Rattle.lxr_layout.specs.declared.Place.{Place}
use Rattle.lxr_layout.specs.declared.Shape.{Shape}
use Rattle.lxr_image.specs.Tables.{Tables}
use Rattle.lxr_image.specs.Reads.{StandsWhole, granule_of}
use Rattle.lxr_remset.specs.Remembering.{IsField}

pub field_of_object : (l : Limits) (t : Tables) (p : Place) (n : Name) (s : Shape) (i : ℕ) → 1 ≤ p.0 → StandsWhole t l.blocks (granule_of p.0) n s → i < s.refs → IsField l p i
field_of_object l t p n s i placed whole index =
    let in_heap = whole.in_heap in
    let few = whole.shape.0 in
    record { placed = placed; index = omega arith; in_heap = omega arith }
