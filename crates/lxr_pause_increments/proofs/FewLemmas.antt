-- No more references are remembered than are raised, and these are far fewer than the cursor can count.
use Rattle.std.proofs.Common.{◌≡◌, ℕ, ◌+◌, ◌*◌, ◌-◌, ◌≤◌, refl, ap, ◌∙◌, arith, Bool, true, false, cond, List, [], ◌∷◌, ◌++◌, IsTrue, length}
use Rattle.std.specs.Prelude.{not, Option, None, Some}
use Rattle.std.proofs.Math.Nat.{mul-le-mul}
use Rattle.std.proofs.lemmas.Bool.{or_left, or_right}
use Rattle.std.proofs.lemmas.List.{length-map, length-reverse}
use Rattle.std.proofs.lemmas.List.Sums.{sum_by-cons}
use Rattle.std.proofs.lemmas.List.Sorted.{length_permutation}
use Rattle.lxr_layout.specs.declared.Name.{Name}
use Rattle.lxr_layout.specs.declared.TheConstants.{REMEMBERED_CURSOR}
use Rattle.lxr_base.specs.Roomy.{Roomy}
use Rattle.lxr_layout.specs.declared.Place.{Place}
use Rattle.lxr_graph.specs.Names.{has, same_name, without}
use Rattle.lxr_graph.specs.State.{Graph, object_at, refs_of}
use Rattle.lxr_graph.proofs.NameSets.{same_itself, without_parts}
use Rattle.lxr_image.specs.declared.space.Space.{Space}
use Rattle.lxr_image.specs.Spaces.{tables_of}
use Rattle.lxr_model.specs.Moments.{Moment, Trace}
use Rattle.lxr_model.specs.References.{reference_slots}
use Rattle.lxr_model_counting.specs.Distinct.{IsDistinct}
use Rattle.lxr_invariant.specs.Standing.{entry_of}
use Rattle.lxr_invariant.proofs.EntryLemmas.{passing_few}
use Rattle.lxr_invariant.proofs.NameLemmas.{in_second}
use Rattle.lxr_remset.specs.Remembering.{CanRemember}
use Rattle.lxr_pause_increments.specs.Accounted.{IsAccounted, IsFew, Raisings, stage_with_held}
use Rattle.lxr_pause_increments.specs.Entering.{CanEnter}
use Rattle.lxr_pause_increments.specs.Increments.{IncrementStage, IsIncrementing}
use Rattle.lxr_pause_increments.proofs.OrderLemmas.{same_out, slots_popped}
use Rattle.lxr_pause_increments.proofs.RoomLemmas.{granules}
use Rattle.lxr_pause_increments.proofs.StageLemmas.{all_made}

-- ---- what is raised

-- what is promoted and out of the worklist has as many references
slots_out : (m : Moment) (st : IncrementStage) (held : Option Name) (q : ℕ) → reference_slots m.state.graph (without (stage_with_held m st held q).promoted (stage_with_held m st held q).work) ≡ reference_slots m.state.graph (without st.promoted st.work)
slots_out m st None q = refl
slots_out m st (Some o) q = ap (reference_slots m.state.graph) (same_out m st o q)

-- what is held is raised: so much more is asked for, or so much less is pending
pub few_held : (s now : Space) (m : Moment) (st : IncrementStage) (held : Option Name) (q written pending more rest : ℕ) → (stage_with_held m st held q).found ≡ st.found
    → (tables_of now).cursors REMEMBERED_CURSOR + rest + written ≤ (tables_of s).cursors REMEMBERED_CURSOR + pending + more → more ≤ length m.written → IsFew s m st written pending → IsFew now m (stage_with_held m st held q) more rest
few_held s now m st held q written pending more rest found step within few = record {
  cursor =
      let a = few.cursor in
      let b : (tables_of (stage_with_held m st held q).found).cursors REMEMBERED_CURSOR ≡ (tables_of st.found).cursors REMEMBERED_CURSOR = ap {A = Space} (λ x. (tables_of x).cursors REMEMBERED_CURSOR) found in
      let c = slots_out m st held q in
      omega (arith, a, b, c, step);
  within = within;
}

-- one is taken out of the worklist, and its references are pending
pub few_popped : (s : Space) (w : Roomy Place) (m : Moment) (st : IncrementStage) (ws : List Name) (u : Name) (written : ℕ) → st.work ≡ ws ++ u ∷ [] → IsDistinct st.promoted → IsTrue (has st.promoted u) → has ws u ≡ false
    → IsFew s m st written 0 → IsFew (record s { work = w }) m (record st { work = ws }) written (length (refs_of (object_at m.state.graph u)) - 0)
few_popped s w m st ws u written is d promoted absent few = record {
  cursor =
      let a = few.cursor in
      let b = slots_popped m.state.graph st.promoted ws u d promoted absent in
      let c : reference_slots m.state.graph (without st.promoted st.work) ≡ reference_slots m.state.graph (without st.promoted (ws ++ u ∷ [])) = ap (λ x. reference_slots m.state.graph (without st.promoted x)) is in
      omega (arith, a, b, c);
  within = few.within;
}

-- ---- how few that is

slots_within : (g : Graph) (ns : List Name) → ((n : Name) → IsTrue (has ns n) → length (refs_of (object_at g n)) ≤ 1023) → reference_slots g ns ≤ 1023 * length ns
slots_within g [] each = omega arith
slots_within g (n ∷ ns) each =
    let more = sum_by-cons (λ u. length (refs_of (object_at g u))) n ns in
    let here = each n (or_left (same_name n n) (has ns n) (same_itself n)) in
    let rest = slots_within g ns (λ u h. each u (or_right (same_name u n) (has ns u) h)) in
    omega (arith, more, here, rest)

fewer_without : (ps ws : List Name) → length (without ps ws) ≤ length ps
fewer_without [] ws = omega arith
fewer_without (p ∷ ps) ws = let rest = fewer_without ps ws in by (has ws p) rest
  where
    by : (b : Bool) → length (without ps ws) ≤ length ps → length (cond (not b) (p ∷ without ps ws) (without ps ws)) ≤ length (p ∷ ps)
    by true rest = omega (arith, rest)
    by false rest = omega (arith, rest)

module _ (s : Space) (m : Moment) (at : Name → ℕ) (st : IncrementStage) (is : IsIncrementing s m at st) where
  -- a promoted object has at most 1,023 references
  few_refs : (n : Name) → IsTrue (has st.promoted n) → length (refs_of (object_at m.state.graph n)) ≤ 1023
  few_refs n h =
      let x = is.moving.stands n (in_second m.unreclaimed m.made n (all_made s m at st is n h)) in
      let size : length (refs_of (object_at m.state.graph n)) ≡ length x.0.refs = ap (λ z. length (refs_of z)) x.1 in
      let few = x.2.whole.shape.0 in
      omega (arith, size, few)

  few_promoted : length st.promoted ≤ granules s
  few_promoted =
      let many = ap length is.reported ∙ length-reverse st.promoted in
      let room = is.lists.promoted in
      let all = passing_few (tables_of s).starts (granules s) in
      omega (arith, many, room, all)

  few_slots : reference_slots m.state.graph (without st.promoted st.work) ≤ 1023 * granules s
  few_slots =
      let a = slots_within m.state.graph (without st.promoted st.work) (λ n h. few_refs n (without_parts st.promoted st.work n h).0) in
      let b = fewer_without st.promoted st.work in
      let c = few_promoted in
      omega (arith, a, b, c)

  few_written : length m.written ≤ 255 * 65536
  few_written =
      let as_many : length s.logged.items ≡ length m.written = logged_as_many in
      let few = is.few_logs in
      let most = mul-le-mul is.space.limits.threads.1 is.space.limits.log.1 in
      omega (arith, as_many, few, most)
    where
      logged_as_many : length s.logged.items ≡ length m.written
      logged_as_many = length_permutation _ s.logged.items is.logs ∙ length-map m.written (entry_of m at)

-- so the cursor can count one more
pub can_enter : (s : Space) (m : Moment) (at : Name → ℕ) (st : IncrementStage) (base pending : Raisings) (open_fields : Name → ℕ → Type 0) → IsAccounted s m at st base pending open_fields → CanEnter m.trace (tables_of s)
can_enter s m at st base pending open_fields is = by m.trace is.incrementing.might_remember
  where
    by : (trace : Option Trace) → CanRemember trace (tables_of st.found) → CanEnter trace (tables_of s)
    by None can = tt
    by (Some trace) can =
        let few = is.few.cursor in
        let written = is.few.within in
        let fields = few_written s m at st is.incrementing in
        let slots = few_slots s m at st is.incrementing in
        let blocks = is.incrementing.space.limits.blocks.1 in
        omega (arith, few, can, written, fields, slots, blocks)
