-- Cursors and fixed tables, event by event.
use Rattle.std.proofs.Common.{lit≤, ◌≡◌, ℕ, ◌+◌, ◌≤◌, refl, sym, ap, subst, ◌∙◌, inl, inr, ◌⊎◌, arith, cond, Bool, true, false, List, [], ◌∷◌, ◌++◌, length, nat_eq}
use Rattle.std.specs.Prelude.{Some, None, IsTrue, slice_get, slice_set}
use Rattle.std.proofs.lemmas.List.{length-append}
use Rattle.lxr_layout.specs.declared.TheConstants.{FREE_BLOCK_CURSOR, PAUSE_WORD, RUN_CURSOR}
use Rattle.lxr_layout.specs.declared.Place.{Place}
use Rattle.lxr_graph.specs.declared.Op.{Op}
use Rattle.lxr_graph.specs.declared.Reply.{Reply}
use Rattle.lxr_graph.proofs.NameSets.{not_both}
use Rattle.lxr_image.specs.Tables.{Tables}
use Rattle.lxr_invariant.proofs.EntryLemmas.{changed_other}
use Rattle.lxr_core_invariant.specs.ThreadStates.{Stage, ThreadState, Plain, AtReference, AtValue, Clears, Stores, DrewRun, HasRun, NeedsBlock, DrewBlock, HasBlock, Makes, GivesUp, Rests, Works, Names, Through}
use Rattle.lxr_core_invariant.specs.EpochStates.{Beginning, EpochState, opening_tables}
use Rattle.lxr_core_invariant.specs.Events.{Event, done_with, found_reply}
use Rattle.lxr_core_invariant.specs.Events as event
use Rattle.lxr_core_invariant.specs.Happening.{May, at_stage, happen, loaded_with}
use Rattle.lxr_core_invariant.specs.Drawn.{AreFixed, block_draws, run_draws, total}
use Rattle.lxr_core_invariant.specs.Laws.{FixedTablesAreKept, FixedTablesAreLeft, LeavesToHelpers, MutatorsLeave}
use Rattle.lxr_core_inv_memory.proofs.ThreadStateLemmas.{total_kept}

-- ---- what a mutator has drawn at most

-- its replies and draws have grown by so many at least
record Grows (v w : ThreadState) (runs blocks : ℕ) : Type 0 where
  more_runs : runs + (length v.replies + run_draws v.stage) ≤ length w.replies + run_draws w.stage
  more_blocks : blocks + (length v.replies + block_draws v.stage) ≤ length w.replies + block_draws w.stage

-- a mutator has drawn at most one run for the operation in progress
pub few_runs : (stage : Stage) → run_draws stage ≤ 1
few_runs Rests = lit≤ tt
few_runs (Works Plain) = lit≤ tt
few_runs (Works (AtReference place index)) = lit≤ tt
few_runs (Works (AtValue place refs index)) = lit≤ tt
few_runs (Works (Clears e)) = lit≤ tt
few_runs (Works (Stores place index)) = lit≤ tt
few_runs (Works (DrewRun k)) = lit≤ tt
few_runs (Works (HasRun k)) = lit≤ tt
few_runs (Works NeedsBlock) = lit≤ tt
few_runs (Works (DrewBlock k)) = lit≤ tt
few_runs (Works (HasBlock k)) = lit≤ tt
few_runs (Works (Makes place shape wiped)) = lit≤ tt
few_runs (Works (GivesUp reason)) = lit≤ tt
few_runs (Names place) = lit≤ tt
few_runs (Through reason) = lit≤ tt

-- and at most one block
pub few_blocks : (stage : Stage) → block_draws stage ≤ 1
few_blocks Rests = lit≤ tt
few_blocks (Works Plain) = lit≤ tt
few_blocks (Works (AtReference place index)) = lit≤ tt
few_blocks (Works (AtValue place refs index)) = lit≤ tt
few_blocks (Works (Clears e)) = lit≤ tt
few_blocks (Works (Stores place index)) = lit≤ tt
few_blocks (Works (DrewRun k)) = lit≤ tt
few_blocks (Works (HasRun k)) = lit≤ tt
few_blocks (Works NeedsBlock) = lit≤ tt
few_blocks (Works (DrewBlock k)) = lit≤ tt
few_blocks (Works (HasBlock k)) = lit≤ tt
few_blocks (Works (Makes place shape wiped)) = lit≤ tt
few_blocks (Works (GivesUp reason)) = lit≤ tt
few_blocks (Names place) = lit≤ tt
few_blocks (Through reason) = lit≤ tt

-- a reply more is room for the draw of its operation
grows_done : (v w : ThreadState) (r : Reply) → w.replies ≡ v.replies ++ r ∷ [] → Grows v w 0 0
grows_done v w r more =
    let one : length w.replies ≡ length v.replies + 1 = ap length more ∙ length-append v.replies (r ∷ []) in
    let runs = few_runs v.stage in
    let blocks = few_blocks v.stage in
    record { more_runs = omega (arith, one, runs); more_blocks = omega (arith, one, blocks) }

-- stages that differ by so many draws
grows_by : (v w : ThreadState) (from to : Stage) (runs blocks : ℕ) → v.stage ≡ from → w.stage ≡ to → w.replies ≡ v.replies → runs + run_draws from ≤ run_draws to → blocks + block_draws from ≤ block_draws to
    → Grows v w runs blocks
grows_by v w from to runs blocks was is same more_runs more_blocks =
    let many = ap length same in
    let runs_were = ap run_draws was in
    let runs_are = ap run_draws is in
    let blocks_were = ap block_draws was in
    let blocks_are = ap block_draws is in
    record { more_runs = omega (arith, many, runs_were, runs_are, more_runs); more_blocks = omega (arith, many, blocks_were, blocks_are, more_blocks) }

-- a stage from which another one is reached with no draw
grows : (v : ThreadState) (from to : Stage) → v.stage ≡ from → run_draws from ≤ run_draws to → block_draws from ≤ block_draws to → Grows v (at_stage v to) 0 0
grows v from to was more_runs more_blocks = grows_by v (at_stage v to) from to 0 0 was refl refl (omega (arith, more_runs)) (omega (arith, more_blocks))

-- a load or a swap that took a place has drawn nothing
grows_loaded : (v : ThreadState) (o : Op) (dest : ℕ) (p : Place) (from : Stage) → v.stage ≡ from → run_draws from ≤ run_draws (Names p.0) → block_draws from ≤ block_draws (Names p.0) → Grows v (loaded_with v o dest p) 0 0
grows_loaded v o dest p from was runs blocks =
    let held : ThreadState = record v { registers = slice_set v.registers dest p } in
    elim (nat_eq p.0 0) as (λ b. Grows v (cond b (done_with held o (found_reply o None)) (at_stage held (Names p.0))) 0 0) [
      | true ↦ grows_done v (done_with held o (found_reply o None)) (found_reply o None) refl
      | false ↦ grows_by v (at_stage held (Names p.0)) from (Names p.0) 0 0 was refl refl (omega (arith, runs)) (omega (arith, blocks))
    ]

-- ---- what mutators leave

-- each event leaves all but the heap, unlogged bits and three cursors
pub mutators_leave : MutatorsLeave
mutators_leave b s i v event.DrawsRun = record { rest = refl; cursors = λ c _ d _. changed_other s.tables.cursors RUN_CURSOR (s.tables.cursors RUN_CURSOR + 1) c d }
mutators_leave b s i v event.DrawsBlock = record { rest = refl; cursors = λ c _ _ d. changed_other s.tables.cursors FREE_BLOCK_CURSOR (s.tables.cursors FREE_BLOCK_CURSOR + 1) c d }
mutators_leave b s i v (event.Asks o r) = record { rest = refl; cursors = λ c d _ _. changed_other s.tables.cursors PAUSE_WORD 1 c d }
mutators_leave b s i v (event.Leaves reason) = record { rest = refl; cursors = λ c d _ _. changed_other s.tables.cursors PAUSE_WORD 1 c d }
mutators_leave b s i v _ = record { rest = refl; cursors = λ c _ _ _. refl }

-- ---- tables

-- tables of which no more differs than in an epoch are fixed as others are
within_fixed : (o t u : Tables) → u ≡ record t { heap = u.heap; unlogged = u.unlogged; counts = u.counts; marks = u.marks; grays = u.grays; dones = u.dones; remembered = u.remembered; cursors = u.cursors }
    → t ≡ record o { heap = t.heap; unlogged = t.unlogged; counts = t.counts; marks = t.marks; grays = t.grays; dones = t.dones; remembered = t.remembered; cursors = t.cursors }
    → u ≡ record o { heap = u.heap; unlogged = u.unlogged; counts = u.counts; marks = u.marks; grays = u.grays; dones = u.dones; remembered = u.remembered; cursors = u.cursors }
within_fixed o t u within fixed =
    within ∙ ap (λ (z : Tables). record z { heap = u.heap; unlogged = u.unlogged; counts = u.counts; marks = u.marks; grays = u.grays; dones = u.dones; remembered = u.remembered; cursors = u.cursors }) fixed

-- so are those of which fewer tables differ
fewer_differ : (t u : Tables) → LeavesToHelpers t u → u ≡ record t { heap = u.heap; unlogged = u.unlogged; counts = u.counts; marks = u.marks; grays = u.grays; dones = u.dones; remembered = u.remembered; cursors = u.cursors }
fewer_differ t u leaves = ap (λ (z : Tables). record z { heap = u.heap; unlogged = u.unlogged; counts = u.counts; marks = u.marks; grays = u.grays; dones = u.dones; remembered = u.remembered; cursors = u.cursors }) leaves.rest

-- the mutator shows another thread state, and cursors are these
fixed_after : (b : Beginning) (s u : EpochState) (i : ℕ) (v w : ThreadState) (runs blocks : ℕ) → AreFixed b s → slice_get s.thread_states i ≡ Some v → u.thread_states ≡ slice_set s.thread_states i w → LeavesToHelpers s.tables u.tables
    → (u.tables.cursors PAUSE_WORD ≡ 0) ⊎ (u.tables.cursors PAUSE_WORD ≡ 1)
    → u.tables.cursors RUN_CURSOR ≤ runs + s.tables.cursors RUN_CURSOR → u.tables.cursors FREE_BLOCK_CURSOR ≤ blocks + s.tables.cursors FREE_BLOCK_CURSOR → Grows v w runs blocks → AreFixed b u
fixed_after b s u i v w runs blocks is there thread_states leaves word more_runs more_blocks draws =
    let all_runs = is.runs in
    let all_blocks = is.blocks in
    let own_runs = draws.more_runs in
    let own_blocks = draws.more_blocks in
    record {
      tables = within_fixed (opening_tables b) s.tables u.tables (fewer_differ s.tables u.tables leaves) is.tables;
      counts = λ k e. ap (λ (t : Tables). t.counts k) leaves.rest ∙ is.counts k e;
      cursors = λ c a d e f h. leaves.cursors c a d e ∙ is.cursors c a d e f h;
      word = word;
      runs = subst (λ thread_states. u.tables.cursors RUN_CURSOR ≤ total (λ v. length v.replies + run_draws v.stage) thread_states) (sym thread_states)
          (total_grown (λ v. length v.replies + run_draws v.stage) s.thread_states i v w (u.tables.cursors RUN_CURSOR) (s.tables.cursors RUN_CURSOR) runs there all_runs more_runs own_runs);
      blocks = subst (λ thread_states. u.tables.cursors FREE_BLOCK_CURSOR ≤ total (λ v. length v.replies + block_draws v.stage) thread_states) (sym thread_states)
          (total_grown (λ v. length v.replies + block_draws v.stage) s.thread_states i v w (u.tables.cursors FREE_BLOCK_CURSOR) (s.tables.cursors FREE_BLOCK_CURSOR) blocks there all_blocks more_blocks own_blocks);
    }
  where
    total_grown : (f : ThreadState → ℕ) (thread_states : List ThreadState) (i : ℕ) (v w : ThreadState) (c d more : ℕ) → slice_get thread_states i ≡ Some v → d ≤ total f thread_states → c ≤ more + d → more + f v ≤ f w → c ≤ total f (slice_set thread_states i w)
    total_grown f thread_states i v w c d more there bound grown own = total_kept f thread_states i v w c d there (omega (arith, grown, own)) bound

-- no cursor moves
fixed_still : (b : Beginning) (s u : EpochState) (i : ℕ) (v w : ThreadState) → AreFixed b s → slice_get s.thread_states i ≡ Some v → u.thread_states ≡ slice_set s.thread_states i w
    → u.tables ≡ record s.tables { heap = u.tables.heap; unlogged = u.tables.unlogged; cursors = u.tables.cursors } → u.tables.cursors ≡ s.tables.cursors → Grows v w 0 0 → AreFixed b u
fixed_still b s u i v w is there thread_states within cursors draws =
    let runs : u.tables.cursors RUN_CURSOR ≡ s.tables.cursors RUN_CURSOR = ap (λ f. f 1) cursors in
    let blocks : u.tables.cursors FREE_BLOCK_CURSOR ≡ s.tables.cursors FREE_BLOCK_CURSOR = ap (λ f. f 3) cursors in
    fixed_after b s u i v w 0 0 is there thread_states (record { rest = within; cursors = λ c _ _ _. ap (λ f. f c) cursors }) (subst (λ f. (f 0 ≡ 0) ⊎ (f 0 ≡ 1)) (sym cursors) is.word) (omega (arith, runs)) (omega (arith, blocks)) draws

-- ---- each event

-- each event keeps cursors and fixed tables
kept : (b : Beginning) (s : EpochState) (i : ℕ) (v : ThreadState) (e : Event) → AreFixed b s → slice_get s.thread_states i ≡ Some v → May b s v e → AreFixed b (happen b s i v e)
kept b s i v event.Stays is there may = is
kept b s i v event.Obeys is there may = fixed_still b s _ i v _ is there refl refl refl (grows v _ _ may.0 (lit≤ tt) (lit≤ tt))
kept b s i v event.Begins is there may = fixed_still b s _ i v _ is there refl refl refl (grows v _ _ may.stage (lit≤ tt) (lit≤ tt))
kept b s i v event.BeginsBlock is there may = fixed_still b s _ i v _ is there refl refl refl (grows v _ _ may.0.stage (lit≤ tt) (lit≤ tt))
kept b s i v (event.Bumps from shape) is there may = fixed_still b s _ i v _ is there refl refl refl (grows_by v _ _ _ 0 0 may.begin.stage refl refl (lit≤ tt) (lit≤ tt))
kept b s i v (event.DoesAtOnce o r registers) is there may = fixed_still b s _ i v _ is there refl refl refl (grows_done v _ r refl)
kept b s i v (event.FindsReference place index) is there may = fixed_still b s _ i v _ is there refl refl refl (grows v _ _ may.reads.stage (lit≤ tt) (lit≤ tt))
kept b s i v (event.FindsValue place refs index) is there may = fixed_still b s _ i v _ is there refl refl refl (grows v _ _ may.reads.stage (lit≤ tt) (lit≤ tt))
kept b s i v (event.FindsNone o) is there may = fixed_still b s _ i v _ is there refl refl refl (grows_done v _ _ refl)
kept b s i v (event.LoadsReference o dest place index) is there may = fixed_still b s _ i v _ is there refl refl refl (grows_loaded v o dest _ (Works (AtReference place index)) may.stage (lit≤ tt) (lit≤ tt))
kept b s i v (event.TellsName o n) is there may = fixed_still b s _ i v _ is there refl refl refl (grows_done v _ _ refl)
kept b s i v (event.GetsValue o place refs index) is there may = fixed_still b s _ i v _ is there refl refl refl (grows_done v _ _ refl)
kept b s i v (event.PutsValue o place refs index value) is there may = fixed_still b s _ i v _ is there refl refl refl (grows_done v _ _ refl)
kept b s i v (event.AddsValue o place refs index value) is there may = fixed_still b s _ i v _ is there refl refl refl (grows_done v _ _ refl)
kept b s i v (event.SeesClear place index) is there may = fixed_still b s _ i v _ is there refl refl refl (grows v _ _ may.stage (lit≤ tt) (lit≤ tt))
kept b s i v (event.SeesFull place index) is there may = fixed_still b s _ i v _ is there refl refl refl (grows v _ _ may.stage (lit≤ tt) (lit≤ tt))
kept b s i v (event.LoadsOld place index) is there may = fixed_still b s _ i v _ is there refl refl refl (grows v _ _ may.stage (lit≤ tt) (lit≤ tt))
kept b s i v (event.ClearsFirst e n) is there may = fixed_still b s _ i v _ is there refl refl refl (grows_by v _ _ _ 0 0 may.clear.stage refl refl (lit≤ tt) (lit≤ tt))
kept b s i v (event.ClearsLate e) is there may = fixed_still b s _ i v _ is there refl refl refl (grows v _ _ may.stage (lit≤ tt) (lit≤ tt))
kept b s i v (event.StoresReference o place index value) is there may = fixed_still b s _ i v _ is there refl refl refl (grows_done v _ _ refl)
kept b s i v (event.SwapsReference o dest place index value) is there may =
    fixed_still b s _ i v _ is there refl refl refl (grows_loaded v o dest _ (Works (Stores place index)) may.stage (lit≤ tt) (lit≤ tt))
kept b s i v event.DrawsRun is there may =
    fixed_after b s _ i v _ 1 0 is there refl (mutators_leave b s i v event.DrawsRun) is.word (omega arith) (omega arith)
    (grows_by v _ _ _ 1 0 may.stage refl refl (lit≤ tt) (lit≤ tt))
kept b s i v event.MissesRun is there may = fixed_still b s _ i v _ is there refl refl refl (grows v _ _ may.stage (lit≤ tt) (lit≤ tt))
kept b s i v (event.SeesRun number) is there may = fixed_still b s _ i v _ is there refl refl refl (grows v _ _ may.stage (lit≤ tt) (lit≤ tt))
kept b s i v (event.TakesRun r shape) is there may = fixed_still b s _ i v _ is there refl refl refl (grows_by v _ _ _ 0 0 may.stage refl refl (lit≤ tt) (lit≤ tt))
kept b s i v event.DrawsBlock is there may =
    fixed_after b s _ i v _ 0 1 is there refl (mutators_leave b s i v event.DrawsBlock) is.word (omega arith) (omega arith)
    (grows_by v _ _ _ 0 1 may.0 refl refl (lit≤ tt) (lit≤ tt))
kept b s i v event.MissesBlock is there may = fixed_still b s _ i v _ is there refl refl refl (grows v _ _ may.stage (lit≤ tt) (lit≤ tt))
kept b s i v (event.SeesBlock number) is there may = fixed_still b s _ i v _ is there refl refl refl (grows v _ _ may.stage (lit≤ tt) (lit≤ tt))
kept b s i v (event.TakesBlock block shape) is there may = fixed_still b s _ i v _ is there refl refl refl (grows_by v _ _ _ 0 0 may.stage refl refl (lit≤ tt) (lit≤ tt))
kept b s i v (event.Wipes place shape wiped) is there may = fixed_still b s _ i v _ is there refl refl refl (grows v _ _ may.stage (lit≤ tt) (lit≤ tt))
kept b s i v (event.MakesObject o dest place shape) is there may = fixed_still b s _ i v _ is there refl refl refl (grows_done v _ _ refl)
kept b s i v (event.Asks o r) is there may =
    fixed_after b s _ i v _ 0 0 is there refl (mutators_leave b s i v (event.Asks o r)) (inr refl) (omega arith) (omega arith) (grows_done v _ r refl)
kept b s i v (event.Leaves reason) is there may =
    fixed_after b s _ i v _ 0 0 is there refl (mutators_leave b s i v (event.Leaves reason)) (inr refl) (omega arith) (omega arith)
    (grows v _ _ may (lit≤ tt) (lit≤ tt))

-- so it is in each epoch
pub fixed_tables_are_kept : FixedTablesAreKept
fixed_tables_are_kept b s i v e is there may = kept b s i v e is.fixed there may

-- ---- helpers

-- counts change where an unreclaimed object begins, and cursors of mutators stay
pub fixed_tables_are_left : FixedTablesAreLeft
fixed_tables_are_left b s u ds ts is leaves =
    let o : Tables = opening_tables b in
    let fixed = is.fixed in
    let starts : s.tables.starts ≡ o.starts = ap (λ (z : Tables). z.starts) fixed.tables in
    let runs = leaves.cursors RUN_CURSOR (λ e. absurd (omega arith)) (λ e. absurd (omega arith)) in
    let blocks = leaves.cursors FREE_BLOCK_CURSOR (λ e. absurd (omega arith)) (λ e. absurd (omega arith)) in
    let all_runs = fixed.runs in
    let all_blocks = fixed.blocks in
    record {
      tables = within_fixed o s.tables u (ap (λ (z : Tables). record z { heap = u.heap; unlogged = u.unlogged; counts = u.counts; marks = u.marks; grays = u.grays; dones = u.dones; remembered = u.remembered; cursors = u.cursors }) leaves.rest) fixed.tables;
      counts = λ k e. elim (leaves.counts k) [
        | inl same ↦ same ∙ fixed.counts k e
        | inr begins ↦ absurd (not_both (o.starts k) (subst (λ (f : ℕ → Bool). IsTrue (f k)) starts begins) e)
      ];
      cursors = λ c a d e f h. leaves.cursors c f h ∙ fixed.cursors c a d e f h;
      word = subst (λ z. (z ≡ 0) ⊎ (z ≡ 1)) (sym (leaves.cursors PAUSE_WORD (λ e. absurd (omega arith)) (λ e. absurd (omega arith)))) fixed.word;
      runs = omega (arith, runs, all_runs);
      blocks = omega (arith, blocks, all_blocks);
    }
