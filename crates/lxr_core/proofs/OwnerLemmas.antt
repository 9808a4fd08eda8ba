-- As an epoch opens no granule has two owners: listed runs and blocks share no line, and no object lies on a free line.
use Rattle.std.proofs.Common.{◌≡◌, ◌≢◌, ℕ, ◌+◌, ◌-◌, ◌*◌, ◌/◌, ◌<◌, ◌≤◌, refl, sym, ap, subst, ◌∙◌, inl, inr, arith, true, false, List}
use Rattle.std.specs.Prelude.{IsTrue}
use Rattle.std.proofs.lemmas.Bool.{cases_order}
use Rattle.lxr_layout.specs.declared.TheConstants.{GRANULES_IN_BLOCK, LINES_IN_BLOCK}
use Rattle.lxr_layout.specs.declared.Name.{Name}
use Rattle.lxr_layout.specs.declared.runs.Run.{Run}
use Rattle.lxr_graph.specs.Names.{same_name}
use Rattle.lxr_graph.specs.State.{Graph, Object}
use Rattle.lxr_graph.proofs.NameSets.{same_names}
use Rattle.lxr_image.specs.Tables.{Tables}
use Rattle.lxr_image.specs.Image.{AreApart, IsImage}
use Rattle.lxr_blocks.specs.Lines.{IsFreeRun, is_free}
use Rattle.lxr_alloc.specs.Spans.{block_span, run_span}
use Rattle.lxr_invariant.specs.AbstractState.{members}
use Rattle.lxr_invariant.specs.Lines.{Covers, KeepLines}
use Rattle.lxr_invariant.specs.Listed.{AreApartRuns, IsListed, whole_block}
use Rattle.lxr_core_access.specs.Decrementers.{Decrementing}
use Rattle.lxr_core_access.specs.Tracers.{Tracing}
use Rattle.lxr_core_invariant.specs.ThreadStates.{Stage, ThreadState}
use Rattle.lxr_core_invariant.specs.EpochStates.{Beginning, limits_of, moment_of, opening_tables}
use Rattle.lxr_core_invariant.specs.Events.{Source, span_from}
use Rattle.lxr_core_invariant.specs.Events as source
use Rattle.lxr_core_invariant.specs.Drawn.{HasGranule, IsOfBlock, IsOfHand, IsOfMaking, IsOfMember, IsOfRun, Owner, Owns, UndrawnRun, UndrawnBlock, InHand, InSpan, InMaking, OfMember}
use Rattle.lxr_core.proofs.StartingLemmas.{AllStart, Starts, StartsIn, anew, over, opening_epoch_state}

-- ---- granules of runs and blocks

-- a granule of a free run lies on a free line
run_free : (t : Tables) (blocks : ℕ) (r : Run) (g : ℕ) → IsFreeRun t blocks r → HasGranule (run_span r) g → IsTrue (is_free t (g / 16))
run_free t blocks r g free of =
    let first = of.first in let behind = of.behind in
    let low : r.line ≤ g / 16 - LINES_IN_BLOCK * r.block = omega (arith, first, behind) in
    let high : g / 16 - LINES_IN_BLOCK * r.block < r.line + r.lines = omega (arith, first, behind) in
    let line : LINES_IN_BLOCK * r.block + (g / 16 - LINES_IN_BLOCK * r.block) ≡ g / 16 = omega (arith, first, behind) in
    subst (λ n. IsTrue (is_free t n)) line (free.free (g / 16 - LINES_IN_BLOCK * r.block) low high)

-- the granules of a block are those of the run of all its lines
of_whole : (block g : ℕ) → HasGranule (block_span block) g → HasGranule (run_span (whole_block block)) g
of_whole block g of = let first = of.first in let behind = of.behind in record { first = omega (arith, first); behind = omega (arith, behind) }

-- a granule of a run lies in its block
in_its_block : (r : Run) (g : ℕ) → r.line + r.lines ≤ LINES_IN_BLOCK → HasGranule (run_span r) g → g / GRANULES_IN_BLOCK ≡ r.block
in_its_block r g within of = let first = of.first in let behind = of.behind in omega (arith, first, behind, within)

-- no granule is of two runs that are apart
runs_part : (q r : Run) (g : ℕ) → q.line + q.lines ≤ LINES_IN_BLOCK → r.line + r.lines ≤ LINES_IN_BLOCK → AreApartRuns q r → HasGranule (run_span q) g → HasGranule (run_span r) g → ⊥
runs_part q r g in_q in_r (inl differ) of_q of_r = differ (sym (in_its_block q g in_q of_q) ∙ in_its_block r g in_r of_r)
runs_part q r g in_q in_r (inr (inl before)) of_q of_r =
    let same : q.block ≡ r.block = sym (in_its_block q g in_q of_q) ∙ in_its_block r g in_r of_r in
    let behind = of_q.behind in let first = of_r.first in omega (arith, same, behind, first, before)
runs_part q r g in_q in_r (inr (inr before)) of_q of_r =
    let same : q.block ≡ r.block = sym (in_its_block q g in_q of_q) ∙ in_its_block r g in_r of_r in
    let behind = of_r.behind in let first = of_q.first in omega (arith, same, behind, first, before)

-- no granule is of two objects that are apart
objects_part : (graph : Graph) (at : Name → ℕ) (m n : Name) (a b : Object) (g : ℕ) → AreApart at m a n b → Covers graph at m a g → Covers graph at n b g → ⊥
objects_part graph at m n a b g (inl before) c d = let behind = c.behind in let first = d.first in omega (arith, behind, first, before)
objects_part graph at m n a b g (inr before) c d = let behind = d.behind in let first = c.first in omega (arith, behind, first, before)

-- ---- owners

-- nobody has drawn anything
no_hand : (b : Beginning) (v : ThreadState) (stage : Stage) (g : ℕ) → StartsIn v stage → IsOfHand b stage g → ⊥
no_hand b v stage g (anew _) of = of
no_hand b v stage g (over _) of = of

-- nobody makes an object
no_making : (v : ThreadState) (stage : Stage) (g : ℕ) → StartsIn v stage → IsOfMaking stage g → ⊥
no_making v stage g (anew _) of = of
no_making v stage g (over _) of = of

-- spans are empty
no_span : (b : Beginning) (i : ℕ) (v : ThreadState) (from : Source) (g : ℕ) → Starts b i v → HasGranule (span_from from v.spans) g → ⊥
no_span b i v source.Current g starts of = let behind = of.behind in let e = ap (λ z. z.current.end) starts.spans in omega (arith, behind, e)
no_span b i v source.Overflow g starts of = let behind = of.behind in let e = ap (λ z. z.overflow.end) starts.spans in omega (arith, behind, e)

-- of an epoch that opens with these thread states
module _ (b : Beginning) (thread_states : List ThreadState) (ds : List Decrementing) (ts : List Tracing) (listed : IsListed b.space) (starts : AllStart b thread_states)
    (image : IsImage (opening_tables b) (limits_of b).blocks b.abstract_state.at (moment_of b (opening_epoch_state b thread_states ds ts)).state.graph (members (moment_of b (opening_epoch_state b thread_states ds ts))))
    (lines : KeepLines (opening_tables b) (moment_of b (opening_epoch_state b thread_states ds ts)).state.graph b.abstract_state.at (members (moment_of b (opening_epoch_state b thread_states ds ts)))) where
  -- an object lies on no free line
  no_object : (n : Name) (g : ℕ) → IsOfMember b (opening_epoch_state b thread_states ds ts) n g → IsTrue (is_free (opening_tables b) (g / 16)) → ⊥
  no_object n g of free = let kept = lines n of.object g of.member of.covers in let bad : true ≡ false = sym free ∙ kept in cc

  -- a granule is of one listed run
  runs_one : (g j k : ℕ) → IsOfRun b j g → IsOfRun b k g → j ≡ k
  runs_one g j k p q = elim (cases_order j k) [
    | inl same ↦ same
    | inr (inl less) ↦ absurd (runs_part p.run q.run g p.lists.run.run.within q.lists.run.run.within (listed.runs_apart j k p.run q.run less q.listed p.lists q.lists) p.granule q.granule)
    | inr (inr more) ↦ absurd (runs_part q.run p.run g q.lists.run.run.within p.lists.run.run.within (listed.runs_apart k j q.run p.run more p.listed q.lists p.lists) q.granule p.granule)
  ]

  -- a granule is of one block
  blocks_differ : (g j k : ℕ) → IsOfBlock b j g → IsOfBlock b k g → (opening_tables b).frees j ≢ (opening_tables b).frees k → ⊥
  blocks_differ g j k p q differ =
      let first_p = p.granule.first in let behind_p = p.granule.behind in
      let first_q = q.granule.first in let behind_q = q.granule.behind in
      differ (omega (arith, first_p, behind_p, first_q, behind_q))

  -- so it is of one listed block
  blocks_one : (g j k : ℕ) → IsOfBlock b j g → IsOfBlock b k g → j ≡ k
  blocks_one g j k p q = elim (cases_order j k) [
    | inl same ↦ same
    | inr (inl less) ↦ absurd (blocks_differ g j k p q (listed.blocks_apart j k less q.listed))
    | inr (inr more) ↦ absurd (blocks_differ g k j q p (listed.blocks_apart k j more p.listed))
  ]

  -- of no listed run and listed block at once
  run_or_block : (g j k : ℕ) → IsOfRun b j g → IsOfBlock b k g → ⊥
  run_or_block g j k p q =
      let inside = in_its_block p.run g p.lists.run.run.within p.granule in
      let first = q.granule.first in let behind = q.granule.behind in
      let block : g / GRANULES_IN_BLOCK ≡ (opening_tables b).frees k = omega (arith, first, behind) in
      listed.all_apart j k p.run p.listed q.listed p.lists (sym inside ∙ block)

  -- of no listed run and object at once
  run_or_object : (g j : ℕ) (n : Name) → IsOfRun b j g → IsOfMember b (opening_epoch_state b thread_states ds ts) n g → ⊥
  run_or_object g j n p q = no_object n g q (run_free (opening_tables b) (limits_of b).blocks p.run g p.lists.run.run p.granule)

  -- of no listed block and object at once
  block_or_object : (g k : ℕ) (n : Name) → IsOfBlock b k g → IsOfMember b (opening_epoch_state b thread_states ds ts) n g → ⊥
  block_or_object g k n p q =
      no_object n g q (run_free (opening_tables b) (limits_of b).blocks (whole_block ((opening_tables b).frees k)) g (listed.blocks k p.listed).run.run (of_whole ((opening_tables b).frees k) g p.granule))

  -- and of one object
  objects_one : (g : ℕ) (m n : Name) → IsOfMember b (opening_epoch_state b thread_states ds ts) m g → IsOfMember b (opening_epoch_state b thread_states ds ts) n g → m ≡ n
  objects_one g m n p q = elim (same_name m n) as (λ c. same_name m n ≡ c → m ≡ n) [
    | true ↦ λ e. same_names m n e
    | false ↦ λ e. absurd (objects_part (moment_of b (opening_epoch_state b thread_states ds ts)).state.graph b.abstract_state.at m n p.object q.object g
        (image.apart m n p.object q.object p.member q.member e p.covers.object q.covers.object) p.covers q.covers)
  ] refl

  -- one owner a granule
  pub one_owner : (g : ℕ) (x y : Owner) → Owns b (opening_epoch_state b thread_states ds ts) x g → Owns b (opening_epoch_state b thread_states ds ts) y g → x ≡ y
  one_owner g (UndrawnRun j) (UndrawnRun k) p q = ap UndrawnRun (runs_one g j k p.1 q.1)
  one_owner g (UndrawnRun j) (UndrawnBlock k) p q = absurd (run_or_block g j k p.1 q.1)
  one_owner g (UndrawnRun j) (OfMember n) p q = absurd (run_or_object g j n p.1 q)
  one_owner g (UndrawnBlock j) (UndrawnRun k) p q = absurd (run_or_block g k j q.1 p.1)
  one_owner g (UndrawnBlock j) (UndrawnBlock k) p q = ap UndrawnBlock (blocks_one g j k p.1 q.1)
  one_owner g (UndrawnBlock j) (OfMember n) p q = absurd (block_or_object g j n p.1 q)
  one_owner g (OfMember n) (UndrawnRun k) p q = absurd (run_or_object g k n q.1 p)
  one_owner g (OfMember n) (UndrawnBlock k) p q = absurd (block_or_object g k n q.1 p)
  one_owner g (OfMember m) (OfMember n) p q = ap OfMember (objects_one g m n p q)
  one_owner g (InHand i) y p q = absurd (no_hand b p.0 p.0.stage g (starts.each i p.0 p.1).stage p.2)
  one_owner g (InSpan i from) y p q = absurd (no_span b i p.0 from g (starts.each i p.0 p.1) p.2)
  one_owner g (InMaking i) y p q = absurd (no_making p.0 p.0.stage g (starts.each i p.0 p.1).stage p.2)
  one_owner g x (InHand i) p q = absurd (no_hand b q.0 q.0.stage g (starts.each i q.0 q.1).stage q.2)
  one_owner g x (InSpan i from) p q = absurd (no_span b i q.0 from g (starts.each i q.0 q.1) q.2)
  one_owner g x (InMaking i) p q = absurd (no_making q.0 q.0.stage g (starts.each i q.0 q.1).stage q.2)
