-- The steps of evacuation, one after another.
use Rattle.std.proofs.Common.{◌≡◌, ℕ, ◌*◌, ◌≤◌, refl, sym, ap, subst, ◌∙◌, inl, arith, Bool, false, List, [], length}
use Rattle.std.specs.Prelude.{◌↔◌, IsTrue}
use Rattle.lxr_layout.specs.declared.Name.{Name}
use Rattle.lxr_layout.specs.declared.Place.{Place}
use Rattle.lxr_layout.specs.declared.TheConstants.{GRANULES_IN_BLOCK}
use Rattle.lxr_image.specs.declared.space.Space.{Space}
use Rattle.lxr_image.specs.Tables.{Tables}
use Rattle.lxr_image.specs.Spaces.{tables_of}
use Rattle.lxr_image.specs.Image.{ArePlacesOf}
use Rattle.lxr_model.specs.Moments.{Moment}
use Rattle.lxr_invariant.specs.Standing.{word_of_field}
use Rattle.lxr_invariant.specs.Tracing.{HasOverflowed}
use Rattle.lxr_evac_moving.specs.declared.evacuating.Evacuated.{Evacuated}
use Rattle.lxr_evac_moving.specs.Evacuation.{CanEvacuate, EvacuatesChosen, evacuated_of}
use Rattle.lxr_evac_moving.specs.Stages.{AreFixed, EvacuationStage, IsEvacuating, granules, kept_names, moved_names}
use Rattle.lxr_evac_moving.specs.Steps.{CanFix, CanMove, FixesAll, IsClearing, MovesAll, cleared_to, last_stage}
use Rattle.lxr_evac_moving.proofs.BeginLemmas.{began}
use Rattle.lxr_evac_moving.proofs.EndLemmas.{evacuated, overflowed_keeps}
use Rattle.lxr_evac_moving.proofs.StageLemmas.{place_some, same_limits}

-- none was moved, and so many were kept
abbrev pub none_moved : ℕ → Evacuated
none_moved count = record { moved = 0; kept = count }

-- the set has overflowed, and so many objects were counted
pub keeps_all : (s : Space) (m : Moment) (at : Name → ℕ) (count : ℕ) → CanEvacuate s m at → HasOverflowed s.limits (tables_of s) → count ≤ granules s → count ≡ length (kept_names m (last_stage s at at))
    → (at' : Name → ℕ) × (moved : List Name) × (kept : List Name) × EvacuatesChosen s s m at at' moved kept × (none_moved count ≡ evacuated_of moved kept)
keeps_all s m at count can full few is = (
  at,
  [],
  kept_names m (last_stage s at at),
  overflowed_keeps s m at can full (λ n in_n. (place_some s m _ (began s m at can).evacuating n (at n) in_n (inl refl)).2) (omega (arith, few, is)),
  λ i. record { moved = 0; kept = is i },
)

-- what is fixed stays so where the heap does, whatever is cleared
still_fixed : (t u : Tables) (m : Moment) (st : EvacuationStage) (end : ℕ) → u.heap ≡ t.heap → AreFixed t m st → AreFixed u m (cleared_to st end)
still_fixed t u m st end heap fixed n i in_n within =
    let x = fixed n i in_n within in
    record { member = x.member; within = x.within; holds = ap (λ h. h (word_of_field st.now n i)) heap ∙ x.holds }

-- a register's list changes no table
abbrev with_registers : Space → List Place → Space
with_registers s items = record s { registers = record s.registers { items = items } }

abbrev with_deferred : Space → List Place → Space
with_deferred s items = record s { deferred = record s.deferred { items = items } }

abbrev with_bits : Tables → Tables → Tables
with_bits t u = record t { starts = u.starts; marks = u.marks; grays = u.grays; counts = u.counts; unlogged = u.unlogged }

module _ (a b c d e g : Space) (m : Moment) (at now : Name → ℕ) (result : Evacuated) (whole : ¬ HasOverflowed a.limits (tables_of a)) (moves : MovesAll a b m at now result) where
  abbrev st : EvacuationStage
  st = last_stage a at now

  module _ (fixes : FixesAll c m st) (registers : ArePlacesOf now d.registers.items m.state.registers) (with_them : d ≡ with_registers c d.registers.items) (is : IsEvacuating e m st)
      (deferred : ArePlacesOf now e.deferred.items m.last.registers) (with_those : e ≡ with_deferred d e.deferred.items) where
    tables_same : tables_of e ≡ tables_of c
    tables_same = ap tables_of with_those ∙ ap tables_of with_them

    heap_granules : granules a ≡ granules e
    heap_granules = ap (λ l. GRANULES_IN_BLOCK * l.blocks) (sym (same_limits e m st is))

    pub all_done : IsClearing g m st (granules e) → tables_of g ≡ with_bits (tables_of e) (tables_of g) → g ≡ record e { words = g.words }
        → (at' : Name → ℕ) × (moved : List Name) × (kept : List Name) × EvacuatesChosen a g m at at' moved kept × (result ≡ evacuated_of moved kept)
    all_done cleared tables rest =
        let end : ℕ = granules e in
        let limits : g.limits ≡ e.limits = ap (λ s. s.limits) rest in
        let same : granules e ≡ granules g = ap (λ l. GRANULES_IN_BLOCK * l.blocks) (sym limits) in
        let heap : (tables_of g).heap ≡ (tables_of c).heap = ap (λ t. t.heap) tables ∙ ap (λ t. t.heap) tables_same in
        let few = moves.few in
        let answer = moves.answer in
        let moved_are : result.moved ≡ length (moved_names m st) = ap (λ (x : Evacuated). x.moved) answer in
        let kept_are : result.kept ≡ length (kept_names m st) = ap (λ (x : Evacuated). x.kept) answer in (
          now,
          moved_names m st,
          kept_names m st,
          evacuated g m (cleared_to st end) cleared.evacuating (heap_granules ∙ same) same (still_fixed (tables_of c) (tables_of g) m st end heap fixes.fixed)
              (subst (λ xs. ArePlacesOf now xs m.state.registers) (sym (ap (λ s. s.registers.items) rest ∙ ap (λ s. s.registers.items) with_those)) registers)
              (subst (λ xs. ArePlacesOf now xs m.last.registers) (sym (ap (λ s. s.deferred.items) rest)) deferred) (omega (arith, few, moved_are, kept_are)) whole,
          answer,
        )

-- ---- what each step asks, by what those before it have done

-- the test of the set tells that it has not overflowed
pub can_move : (s : Space) (m : Moment) (at : Name → ℕ) (full : Bool) → CanEvacuate s m at → IsTrue full ↔ HasOverflowed s.limits (tables_of s) → full ≡ false → CanMove s m at
can_move s m at full can told clear = record { can = can; whole = λ over. let set = told.1 over in cc }

module _ (a b c d e : Space) (result : Evacuated) (moves : (m : Moment) (at : Name → ℕ) → CanMove a m at → (now : Name → ℕ) × MovesAll a b m at now result) where
  -- the stage that objects were moved to
  abbrev pub moved_stage : (m : Moment) (at : Name → ℕ) → CanMove a m at → EvacuationStage
  moved_stage m at can = last_stage a at (moves m at can).0

  pub then_fix : (m : Moment) (at : Name → ℕ) (can : CanMove a m at) → CanFix b m (moved_stage m at can)
  then_fix m at can = let x = moves m at can in record { evacuating = x.1.evacuating; uncleared = refl; whole = can.whole }

  module _ (fixes : (m : Moment) (st : EvacuationStage) → CanFix b m st → FixesAll c m st) where
    pub then_registers : (m : Moment) (at : Name → ℕ) (can : CanMove a m at) → IsEvacuating c m (moved_stage m at can)
    then_registers m at can = (fixes m (moved_stage m at can) (then_fix m at can)).evacuating

    module _ (registers : (m : Moment) (st : EvacuationStage) → IsEvacuating c m st → IsEvacuating d m st × ArePlacesOf st.now d.registers.items m.state.registers) (with_them : d ≡ with_registers c d.registers.items) where
      pub then_deferred : (m : Moment) (at : Name → ℕ) (can : CanMove a m at) → IsEvacuating d m (moved_stage m at can)
      then_deferred m at can = (registers m (moved_stage m at can) (then_registers m at can)).0

      module _ (deferred : (m : Moment) (st : EvacuationStage) → IsEvacuating d m st → IsEvacuating e m st × ArePlacesOf st.now e.deferred.items m.last.registers) (with_those : e ≡ with_deferred d e.deferred.items) where
        pub then_clear : (m : Moment) (at : Name → ℕ) (can : CanMove a m at) → IsClearing e m (moved_stage m at can) 0
        then_clear m at can =
            let is = (deferred m (moved_stage m at can) (then_deferred m at can)).0 in
            record { evacuating = is; looked = ap (λ l. GRANULES_IN_BLOCK * l.blocks) (sym (same_limits e m (moved_stage m at can) is)) }

        pub then_done : (g : Space) → ((m : Moment) (st : EvacuationStage) → IsClearing e m st 0 → IsClearing g m st (granules e)) → tables_of g ≡ with_bits (tables_of e) (tables_of g) → g ≡ record e { words = g.words }
            → (m : Moment) (at : Name → ℕ) → CanMove a m at → (at' : Name → ℕ) × (moved : List Name) × (kept : List Name) × EvacuatesChosen a g m at at' moved kept × (result ≡ evacuated_of moved kept)
        then_done g clears tables rest m at can =
            let st : EvacuationStage = moved_stage m at can in
            all_done a b c d e g m at st.now result can.whole (moves m at can).1 (fixes m st (then_fix m at can)) (registers m st (then_registers m at can)).1 with_them (deferred m st (then_deferred m at can)).0
            (deferred m st (then_deferred m at can)).1 with_those (clears m st (then_clear m at can)) tables rest
