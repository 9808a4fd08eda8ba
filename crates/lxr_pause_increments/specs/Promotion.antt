-- One count raised, and one object promoted, on the tables.
use Rattle.std.specs.Prelude.{◌≡◌, ℕ, ◌==◌, ◌&&◌, not, Bool, List, [], ◌∷◌, ◌++◌, if◌then◌else◌}
use Rattle.lxr_layout.specs.declared.Name.{Name}
use Rattle.lxr_layout.specs.declared.Place.{Place}
use Rattle.lxr_layout.specs.declared.Shape.{Shape}
use Rattle.lxr_layout.specs.declared.TheConstants.{STUCK}
use Rattle.lxr_base.specs.Roomy.{pushed}
use Rattle.lxr_graph.specs.Listing.{with_name}
use Rattle.lxr_tables.specs.Counts.{raised_count}
use Rattle.lxr_image.specs.declared.space.Space.{Space}
use Rattle.lxr_image.specs.Tables.{Tables, changed}
use Rattle.lxr_image.specs.Spaces.{tables_of}
use Rattle.lxr_image.specs.Reads.{granule_of}
use Rattle.lxr_pause_promote.specs.Promotion.{Promotes}

-- the tables with a count raised
abbrev pub with_raised : Tables → ℕ → Tables
with_raised t granule = record t { counts = changed t.counts granule (raised_count (t.counts granule)) }

-- a count that isn't STUCK is STUCK once it is raised
abbrev pub fills : ℕ → Bool
fills count = not (count == STUCK) && (raised_count count == STUCK)

-- the names that are reported as stuck once a count is raised that is n's
abbrev pub stuck_with : List Name → ℕ → Name → List Name
stuck_with names count n = if fills count then (names ++ n ∷ []) else names

-- the count of n's object at a place is raised, and n is reported where the count reaches STUCK
pub record RaisesAt (before after : Space) (p : ℕ) (n : Name) : Type 0 where
  pub tables : tables_of after ≡ with_raised (tables_of before) (granule_of p)
  pub rest : after ≡ record before {
    words = after.words;
    report = record before.report {
      stuck = record before.report.stuck { items = stuck_with before.report.stuck.items ((tables_of before).counts (granule_of p)) n };
    };
  }

-- n's new object of a shape at place p is promoted and reported, stands at place q, and waits in the worklist
pub record TakesIn (before after : Space) (p q : Place) (n : Name) (shape : Shape) : Type 0 where
  pub promoted : Space
  pub promotes : Promotes before promoted p q n shape
  pub rest : after ≡ record promoted {
    work = pushed promoted.work q;
    report = record promoted.report { promoted = with_name promoted.report.promoted n };
  }
