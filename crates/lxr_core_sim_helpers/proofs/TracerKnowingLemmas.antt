-- What an epoch says of the words that a tracer reads: a header tells of an object that lies in the heap, and a reference is nil or a
-- place of the heap. And the heap has as many blocks, and the remembered set the room, as its limits say.
use Rattle.std.proofs.Common.{◌≡◌, ℕ, ◌+◌, ◌*◌, ◌/◌, ◌≤◌, Bool, true, false, arith, refl, ap, ◌∙◌}
use Rattle.std.specs.Prelude.{Some, None, ◌&&◌, nat_le, if◌then◌else◌}
use Rattle.lxr_layout.specs.declared.Name.{Name}
use Rattle.lxr_layout.specs.declared.Place.{Place}
use Rattle.lxr_layout.specs.declared.limits.Limits.{Limits}
use Rattle.lxr_layout.specs.declared.limits.Regions.{Regions}
use Rattle.lxr_layout.specs.Objects.{word_count}
use Rattle.lxr_layout.specs.Places.{first_word}
use Rattle.lxr_layout.specs.Spaces.{regions_of}
use Rattle.lxr_image.specs.Tables.{Tables}
use Rattle.lxr_model.specs.Moments.{Moment}
use Rattle.lxr_trace.specs.Words.{heap_blocks, remember_room}
use Rattle.lxr_helper.specs.Words.{references_in, references_told, referent_in}
use Rattle.lxr_core_invariant.specs.Counted.{IsInHeap}
use Rattle.lxr_core_inv_trace.proofs.ScansGroundLemmas.{IsObjectAt}

-- what ends in the heap is told to
ends_in : (word most counts : ℕ) → word ≤ most → counts ≡ most → nat_le word counts ≡ true
ends_in word most counts within e = let h : word ≤ counts = omega (arith, within, e) in grind (arith, h)

-- the header of an object tells how many references it has
pub references_are : (l : Limits) (r : Regions) (t : Tables) (m : Moment) (at : Name → ℕ) (place : Place) (there : IsObjectAt l t m at place.0) → r ≡ regions_of l
    → references_in r place (t.heap (first_word place.0)) ≡ there.shape.refs
references_are l r t m at place there is =
    let counts : r.counts ≡ 4096 * l.blocks = ap (λ x. x.counts) is ∙ omega arith in
    ap (references_told r place) there.told
    ∙ ap (λ c. if c then there.shape.refs else 0) (ends_in (first_word place.0 + word_count there.shape) (4096 * l.blocks) r.counts there.in_heap counts)

-- the heap has as many blocks as the limits say
pub blocks_are : (l : Limits) (r : Regions) → r ≡ regions_of l → heap_blocks r ≡ l.blocks
blocks_are l r is = ap heap_blocks is ∙ omega arith

-- the table of remembered entries has room for as many as the limits say
pub room_is : (l : Limits) (r : Regions) → r ≡ regions_of l → remember_room r ≡ l.remember
room_is l r is = ap remember_room is ∙ omega arith
