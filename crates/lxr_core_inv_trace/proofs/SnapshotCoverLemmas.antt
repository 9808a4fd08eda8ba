-- One helper makes a step: what has to be shown of its step, so that the snapshot stays covered.
use Rattle.std.proofs.Common.{◌≡◌, ℕ, ◌≤◌, ap, ◌∙◌, inl, inr, ◌⊎◌, arith, false, List, IsTrue}
use Rattle.std.specs.Prelude.{Option, Some, None, slice_get}
use Rattle.lxr_layout.specs.declared.LogEntry.{LogEntry}
use Rattle.lxr_layout.specs.declared.Name.{Name}
use Rattle.lxr_graph.specs.Names.{has}
use Rattle.lxr_image.specs.Tables.{Tables}
use Rattle.lxr_image.specs.Reads.{granule_of}
use Rattle.lxr_model.specs.Moments.{Moment, Trace}
use Rattle.lxr_model_counting.proofs.DistinctLemmas.{tested}
use Rattle.lxr_invariant.specs.Counting.{is_done}
use Rattle.lxr_invariant.specs.Standing.{word_of_field}
use Rattle.lxr_invariant.specs.Tracing.{IsGray, IsMarked}
use Rattle.lxr_core_access.specs.declared.Access.{Access}
use Rattle.lxr_core_access.specs.Accesses.{done_to}
use Rattle.lxr_core_access.specs.Decrementers.{Decrementing, MakesGray}
use Rattle.lxr_core_access.specs.Tracers.{Tracing}
use Rattle.lxr_core_invariant.specs.Covered.{IsCoveredBy, IsCoveredIn, IsFound, IsHandledLater, IsInHand, IsScannedLater, SeesTrace, WaitsIn}
use Rattle.lxr_core_inv_trace.proofs.SnapshotFindLemmas.{HeldThen, HoldsNow}

-- what a dead object's reference held at the last pause is gray, or will be
abbrev pub IsHandled : Tables → (Name → ℕ) → List Decrementing → Name → Name → ℕ → Type 0
IsHandled t at ds n v i = IsGray t at v ⊎ IsHandledLater ds (at n) i ⊎ ((k : ℕ) × (refs : ℕ) × (slice_get ds k ≡ Some (MakesGray (at n) refs i (at v))))

-- a reference isn't scanned; isn't handled
abbrev pub IsUnscanned : Tables → (Name → ℕ) → List Tracing → Name → ℕ → Type 0
IsUnscanned t at ts n i = (t.marks (granule_of (at n)) ≡ false) ⊎ IsScannedLater ts (at n) i

abbrev pub IsUnhandled : Tables → (Name → ℕ) → List Decrementing → Name → ℕ → Type 0
IsUnhandled t at ds n i = (is_done t at n ≡ false) ⊎ IsHandledLater ds (at n) i

-- What has to be shown of a helper's step: t, ds and ts are the tables and what decrementers and tracers are about to do before it, u, es and us
-- after it. Bits that are set stay; what is in hand stays so, or is gray; and a reference that isn't scanned, or isn't handled, stays so, or
-- what it holds comes into hand.
pub record KeepsCover (m : Moment) (at : Name → ℕ) (t u : Tables) (ds es : List Decrementing) (ts us : List Tracing) : Type 0 where
  pub grays : (n : Name) → IsGray t at n → IsGray u at n
  pub marks : (n : Name) → IsMarked t at n → IsMarked u at n
  pub unlogged : u.unlogged ≡ t.unlogged
  pub hand : (n : Name) → IsTrue (has m.unreclaimed n) → IsInHand ds ts (at n) → IsGray u at n ⊎ IsInHand es us (at n)
  pub unscanned : (n v : Name) (i : ℕ) → IsTrue (has m.unreclaimed n) → HoldsNow m n i v → IsUnscanned t at ts n i → IsUnscanned u at us n i ⊎ IsInHand es us (at v)
  pub unhandled : (n v : Name) (i : ℕ) → IsTrue (has m.unreclaimed n) → HoldsNow m n i v → IsUnhandled t at ds n i → IsUnhandled u at es n i ⊎ IsInHand es us (at v)
  pub handled : (n v : Name) (i : ℕ) → IsTrue (has m.unreclaimed n) → HeldThen m n i v → (IsTrue (is_done t at n) → IsHandled t at ds n v i) → IsTrue (is_done u at n) → IsHandled u at es n v i
  pub seen : ((k : ℕ) (d : Decrementing) → slice_get ds k ≡ Some d → SeesTrace d) → (k : ℕ) (d : Decrementing) → slice_get es k ≡ Some d → SeesTrace d

module _ (m : Moment) (at : Name → ℕ) (entries : List LogEntry) (t u : Tables) (ds es : List Decrementing) (ts us : List Tracing) (keeps : KeepsCover m at t u ds es ts us) where
  -- what is found stays so
  found_on : (n : Name) → IsTrue (has m.unreclaimed n) → IsFound t at entries ds ts n → IsFound u at entries es us n
  found_on n h (inl gray) = inl (keeps.grays n gray)
  found_on n h (inr (inl marked)) = inr (inl (keeps.marks n marked))
  found_on n h (inr (inr (inl old))) = inr (inr (inl old))
  found_on n h (inr (inr (inr hand))) = elim (keeps.hand n h hand) [ inl gray ↦ inl gray | inr still ↦ inr (inr (inr still)) ]

  covered_on : (n : Name) → IsCoveredIn t m at entries ds ts n → IsCoveredIn u m at entries es us n
  covered_on n (inl reclaimed) = inl reclaimed
  covered_on n (inr found) = inr (found.0, found_on n found.0 found.1)

  -- what is in hand is covered, whether it is unreclaimed or not
  in_hand_covered : (n : Name) → IsInHand es us (at n) → IsCoveredIn u m at entries es us n
  in_hand_covered n hand = elim (tested (has m.unreclaimed n)) [ inl h ↦ inr (h, inr (inr (inr hand))) | inr none ↦ inl none ]

  -- a reference that waits goes on waiting, or what it holds comes into hand
  waits_on : (n v : Name) (i : ℕ) → WaitsIn t m at ds ts n i v → IsCoveredIn u m at entries es us v ⊎ WaitsIn u m at es us n i v
  waits_on n v i waits = elim (keeps.unscanned n v i waits.member waits.holds waits.unscanned) [
    | inr hand ↦ inl (in_hand_covered v hand)
    | inl unscanned ↦ elim (keeps.unhandled n v i waits.member waits.holds waits.unhandled) [
      | inr hand ↦ inl (in_hand_covered v hand)
      | inl unhandled ↦ inr (record {
        member = waits.member;
        unscanned = unscanned;
        unhandled = unhandled;
        unlogged = ap (λ f. f (word_of_field at n i)) keeps.unlogged ∙ waits.unlogged;
        holds = waits.holds;
      })
    ]
  ]

  -- so the snapshot stays covered
  pub cover_on : (trace : Trace) → IsCoveredBy t m at entries ds ts trace → IsCoveredBy u m at entries es us trace
  cover_on trace is = record {
    world = covered_on _ is.world;
    registers = λ n holds. covered_on n (is.registers n holds);
    references = λ n v i reached held. elim (is.references n v i reached held) [ inl covered ↦ inl (covered_on v covered) | inr waits ↦ waits_on n v i waits ];
    handled = λ n v i h done held. keeps.handled n v i h held (λ before. is.handled n v i h before held) done;
    seen = keeps.seen is.seen;
  }

-- ---- one helper among the others

-- where a helper goes on: what it is at is at a place from a number on, and stays so, or it has what it read in hand
abbrev pub GoesOn : Option (ℕ × ℕ) → Option ℕ → ℕ → ℕ → ℕ → Type 0
GoesOn from hand place i referent = ((next : ℕ) × (from ≡ Some (place, next)) × (next ≤ i)) ⊎ (hand ≡ Some referent)

-- the tables after an access, where there is one
abbrev pub after_access : Tables → Option Access → Tables
after_access t None = t
after_access t (Some access) = done_to t access

-- a place is told by its granule
pub place_by_granule : (p q : ℕ) → 1 ≤ p → 1 ≤ q → granule_of p ≡ granule_of q → p ≡ q
place_by_granule p q some_p some_q e = omega arith
