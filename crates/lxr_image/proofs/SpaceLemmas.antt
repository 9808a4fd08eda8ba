-- Calls on the words of a space, one after another.
use Rattle.std.proofs.Common.{◌≡◌, ◌∙◌, ap, subst, sym}
use Rattle.lxr_layout.specs.Spaces.{AreLimits, all_regions, region_begin}
use Rattle.lxr_image.specs.declared.space.Space.{Space}
use Rattle.lxr_image.specs.Tables.{Tables}
use Rattle.lxr_image.specs.Spaces.{IsSpace, Turns, tables_of}

-- the limits stay
pub same_limits : (a b : Space) (t : Tables) → Turns a b t → b.limits ≡ a.limits
same_limits a b t is = ap (λ s. s.limits) is.rest

-- a space of the same limits and as many words is one
pub space_alike : (a b : Space) → b.limits ≡ a.limits → (tables_of b).size ≡ (tables_of a).size → IsSpace a → IsSpace b
space_alike a b limits size is = record { limits = subst AreLimits (sym limits) is.limits; size = size ∙ is.size ∙ ap (λ l. region_begin l all_regions) (sym limits) }

-- a space stays one
pub still_space : (a b : Space) (t : Tables) → IsSpace a → Turns a b t → t.size ≡ (tables_of a).size → IsSpace b
still_space a b t space is size = space_alike a b (same_limits a b t is) (ap (λ x. x.size) is.tables ∙ size) space

-- two calls are one change
pub turns_then : (a b c : Space) (t u : Tables) → Turns a b t → Turns b c u → Turns a c u
turns_then a b c t u first second = record {
  tables = second.tables;
  rest = second.rest ∙ ap {A = Space} (λ s. record s { words = c.words }) first.rest;
}
