-- One mutator makes a step: a reference that waits holds what it held and has its unlogged bit, or what it held is an old value in a log.
use Rattle.std.proofs.Common.{◌≡◌, ℕ, sym, ap, subst, ◌∙◌, inl, inr, ◌⊎◌, Bool, List, IsTrue}
use Rattle.std.specs.Prelude.{Some}
use Rattle.lxr_layout.specs.declared.LogEntry.{LogEntry}
use Rattle.lxr_layout.specs.declared.Name.{Name}
use Rattle.lxr_graph.specs.Names.{has}
use Rattle.lxr_graph.specs.State.{State}
use Rattle.lxr_image.specs.Tables.{Tables}
use Rattle.lxr_image.specs.Reads.{granule_of}
use Rattle.lxr_model.specs.Moments.{Field, Moment, Trace}
use Rattle.lxr_model_counting.specs.Following.{FollowsPause}
use Rattle.lxr_model_counting.proofs.DistinctLemmas.{tested}
use Rattle.lxr_invariant.specs.Standing.{word_of_field}
use Rattle.lxr_invariant.specs.Tracing.{IsOldValue}
use Rattle.lxr_core_access.specs.Decrementers.{Decrementing, MakesGray}
use Rattle.lxr_core_access.specs.Tracers.{Tracing}
use Rattle.lxr_core_invariant.specs.Covered.{IsCoveredBy, IsCoveredIn, IsFound, IsHandledLater, IsInHand, IsScannedLater, WaitsIn}
use Rattle.lxr_core_inv_trace.proofs.SnapshotFindLemmas.{HeldThen, HoldsNow}
use Rattle.lxr_core_inv_trace.proofs.SnapshotCoverLemmas.{IsHandled}

-- the moment with another state, other names made and other fields stored to
abbrev pub turned : Moment → State → List Name → List Field → Moment
turned m st made ws = record m { state = st; made = made; written = ws }

-- A mutator's step leaves marks, grays and dones, the places of what is unreclaimed and all old values. A reference that has its unlogged
-- bit still has it and holds what it held, or what it held is an old value now.
pub record MutatorKeeps (t u : Tables) (m : Moment) (st : State) (at to : Name → ℕ) (entries after : List LogEntry) : Type 0 where
  pub marks : u.marks ≡ t.marks
  pub grays : u.grays ≡ t.grays
  pub dones : u.dones ≡ t.dones
  pub places : (n : Name) → IsTrue (has m.unreclaimed n) → to n ≡ at n
  pub old : (p : ℕ) → IsOldValue entries p → IsOldValue after p
  pub waits : (n v : Name) (i : ℕ) → IsTrue (has m.unreclaimed n) → IsTrue (t.unlogged (word_of_field at n i)) → HoldsNow m n i v
      → (IsTrue (u.unlogged (word_of_field at n i)) × HoldsNow (record m { state = st }) n i v) ⊎ IsOldValue after (at v)

module _ (t u : Tables) (m : Moment) (st : State) (made : List Name) (ws : List Field) (at to : Name → ℕ) (entries after : List LogEntry) (ds : List Decrementing) (ts : List Tracing)
    (follows : FollowsPause m) (keeps : MutatorKeeps t u m st at to entries after) where
  abbrev k : Moment
  k = turned m st made ws

  -- bits stay at the granules of what is unreclaimed
  bit_on : (f g : ℕ → Bool) (n : Name) → g ≡ f → IsTrue (has m.unreclaimed n) → g (granule_of (to n)) ≡ f (granule_of (at n))
  bit_on f g n same h = ap (λ z. z (granule_of (to n))) same ∙ ap (λ p. f (granule_of p)) (keeps.places n h)

  hand_on : (n : Name) → IsTrue (has m.unreclaimed n) → IsInHand ds ts (at n) → IsInHand ds ts (to n)
  hand_on n h hand = subst (IsInHand ds ts) (sym (keeps.places n h)) hand

  -- what is found stays so
  found_on : (n : Name) → IsTrue (has m.unreclaimed n) → IsFound t at entries ds ts n → IsFound u to after ds ts n
  found_on n h (inl gray) = inl (bit_on t.grays u.grays n keeps.grays h ∙ gray)
  found_on n h (inr (inl marked)) = inr (inl (bit_on t.marks u.marks n keeps.marks h ∙ marked))
  found_on n h (inr (inr (inl old))) = inr (inr (inl (subst (IsOldValue after) (sym (keeps.places n h)) (keeps.old (at n) old))))
  found_on n h (inr (inr (inr hand))) = inr (inr (inr (hand_on n h hand)))

  covered_on : (n : Name) → IsCoveredIn t m at entries ds ts n → IsCoveredIn u k to after ds ts n
  covered_on n (inl reclaimed) = inl reclaimed
  covered_on n (inr found) = inr (found.0, found_on n found.0 found.1)

  -- an old value is covered, whether it is unreclaimed or not
  old_covered : (n : Name) → IsOldValue after (at n) → IsCoveredIn u k to after ds ts n
  old_covered n old = elim (tested (has m.unreclaimed n)) [ inl h ↦ inr (h, inr (inr (inl (subst (IsOldValue after) (sym (keeps.places n h)) old)))) | inr none ↦ inl none ]

  waits_on : (n v : Name) (i : ℕ) → WaitsIn t m at ds ts n i v → IsCoveredIn u k to after ds ts v ⊎ WaitsIn u k to ds ts n i v
  waits_on n v i waits =
      let h = waits.member in
      let place : at n ≡ to n = sym (keeps.places n h) in
      elim (keeps.waits n v i h waits.unlogged waits.holds) [
        | inr old ↦ inl (old_covered v old)
        | inl still ↦ inr (record {
          member = h;
          unscanned = elim waits.unscanned [ inl clear ↦ inl (bit_on t.marks u.marks n keeps.marks h ∙ clear) | inr later ↦ inr (subst (λ p. IsScannedLater ts p i) place later) ];
          unhandled = elim waits.unhandled [ inl clear ↦ inl (bit_on t.dones u.dones n keeps.dones h ∙ clear) | inr later ↦ inr (subst (λ p. IsHandledLater ds p i) place later) ];
          unlogged = ap (λ p. u.unlogged (word_of_field (λ x. p) n i)) (keeps.places n h) ∙ still.0;
          holds = still.1;
        })
      ]

  -- what dead objects referred to is unreclaimed, so it stands where it stood
  handled_on : (n v : Name) (i : ℕ) → IsTrue (has m.unreclaimed n) → HeldThen m n i v → IsHandled t at ds n v i → IsHandled u to ds n v i
  handled_on n v i h held (inl gray) = inl (bit_on t.grays u.grays v keeps.grays (follows.closed n v h (i, held)) ∙ gray)
  handled_on n v i h held (inr (inl later)) = inr (inl (subst (λ p. IsHandledLater ds p i) (sym (keeps.places n h)) later))
  handled_on n v i h held (inr (inr (j, refs, there))) =
      inr (inr (j, refs, there ∙ ap (λ p. Some (MakesGray p refs i (at v))) (sym (keeps.places n h)) ∙ ap (λ p. Some (MakesGray (to n) refs i p)) (sym (keeps.places v (follows.closed n v h (i, held))))))

  -- so the snapshot stays covered
  pub turn_keeps_cover : (trace : Trace) → IsCoveredBy t m at entries ds ts trace → IsCoveredBy u k to after ds ts trace
  turn_keeps_cover trace is = record {
    world = covered_on _ is.world;
    registers = λ n holds. covered_on n (is.registers n holds);
    references = λ n v i reached held. elim (is.references n v i reached held) [ inl covered ↦ inl (covered_on v covered) | inr waits ↦ waits_on n v i waits ];
    handled = λ n v i h done held. handled_on n v i h held (is.handled n v i h (sym (bit_on t.dones u.dones n keeps.dones h) ∙ done) held);
    seen = is.seen;
  }
