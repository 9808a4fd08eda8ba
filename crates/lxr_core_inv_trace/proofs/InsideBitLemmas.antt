-- Bits that helpers set keep marks inside where what is marked, made gray or claimed is inside, and none of it is garbage.
use Rattle.std.proofs.Common.{◌≡◌, ℕ, inl, inr, ◌⊎◌, Bool, false, IsTrue}
use Rattle.std.specs.Prelude.{Option, Some, None}
use Rattle.lxr_layout.specs.declared.Name.{Name}
use Rattle.lxr_graph.specs.Names.{has}
use Rattle.lxr_image.specs.Tables.{Tables}
use Rattle.lxr_image.specs.Reads.{granule_of}
use Rattle.lxr_model.specs.Moments.{Moment, Trace}
use Rattle.lxr_model_counting.specs.Garbage.{IsGarbageOf}
use Rattle.lxr_invariant.specs.Counting.{is_done}
use Rattle.lxr_invariant.specs.Tracing.{IsInSnapshot, MarksStayInside}
use Rattle.lxr_core_access.specs.declared.Access.{Access}
use Rattle.lxr_core_access.specs.Accesses.{done_to}

-- the tables after an access, where there is one
abbrev pub after_access : Tables → Option Access → Tables
after_access t None = t
after_access t (Some access) = done_to t access

-- a bit of a table is set now that was set before, or is that of the granule of this place, if there is one
abbrev pub IsSetBy : (ℕ → Bool) → Option ℕ → ℕ → Type 0
IsSetBy before place k = IsTrue (before k) ⊎ ((p : ℕ) × (place ≡ Some p) × (k ≡ granule_of p))

-- a step sets at most the mark of one place and the gray bit of another
pub record SetsBits (t u : Tables) (marked grayed : Option ℕ) : Type 0 where
  pub marks : (k : ℕ) → IsTrue (u.marks k) → IsSetBy t.marks marked k
  pub stay_marked : (k : ℕ) → IsTrue (t.marks k) → IsTrue (u.marks k)
  pub grays : (k : ℕ) → IsTrue (u.grays k) → IsSetBy t.grays grayed k

-- whatever unreclaimed object begins at the granule of a place is inside
abbrev pub IsInsideAt : Moment → (Name → ℕ) → Trace → ℕ → Type 0
IsInsideAt m at trace place = (n : Name) → IsTrue (has m.unreclaimed n) → granule_of (at n) ≡ granule_of place → IsInSnapshot m trace n

-- what is marked, made gray and done by a step is inside, and garbage isn't done
pub record SetsInside (u : Tables) (m : Moment) (at : Name → ℕ) (trace : Trace) (marked grayed : Option ℕ) : Type 0 where
  pub marked_inside : (p : ℕ) → marked ≡ Some p → IsInsideAt m at trace p
  pub grayed_inside : (p : ℕ) → grayed ≡ Some p → IsInsideAt m at trace p
  pub dones : (n : Name) → IsTrue (has m.unreclaimed n) → IsTrue (is_done u at n) → IsInSnapshot m trace n
  pub undone : (n : Name) → IsGarbageOf trace n → is_done u at n ≡ false

pub bits_inside : (t u : Tables) (m : Moment) (at : Name → ℕ) (trace : Trace) (marked grayed : Option ℕ) → SetsBits t u marked grayed → SetsInside u m at trace marked grayed
    → MarksStayInside t m at trace → MarksStayInside u m at trace
bits_inside t u m at trace marked grayed sets inside is = record {
  marks = λ n h k. elim (sets.marks (granule_of (at n)) k) [ inl q ↦ is.marks n h q | inr q ↦ inside.marked_inside q.0 q.1 n h q.2 ];
  grays = λ n h k. elim (sets.grays (granule_of (at n)) k) [ inl q ↦ is.grays n h q | inr q ↦ inside.grayed_inside q.0 q.1 n h q.2 ];
  dones = inside.dones;
  members = λ n h. elim (is.members n h) [ inl old ↦ inl old | inr q ↦ inr (q.0, sets.stay_marked (granule_of (at n)) q.1) ];
  referred = is.referred;
  garbage = λ n g.
      let stays = is.garbage n g in
      record { member = stays.member; dropped = stays.dropped; undone = inside.undone n g; references = stays.references; referred = stays.referred };
}
