-- A heap between two epochs whose Free blocks have zeros for words is that of the same histories.
use Rattle.std.proofs.Common.{◌≡◌, ℕ, zero, suc, ◌+◌, ◌*◌, ◌<◌, ◌≤◌, refl, sym, ap, subst, ◌∙◌, List, Vec, Global}
use Rattle.std.specs.Prelude.{◌==◌, if◌then◌else◌, Option, Some, None}
use Rattle.lxr_layout.specs.declared.TheConstants.{FREE_BLOCK_COUNT, FREE_BLOCK_CURSOR, RUN_COUNT, RUN_CURSOR}
use Rattle.lxr_layout.specs.declared.runs.Run.{Run}
use Rattle.lxr_graph.specs.History.{Item}
use Rattle.lxr_image.specs.declared.space.Space.{Space}
use Rattle.lxr_image.specs.Settled.{free_below}
use Rattle.lxr_image.specs.Spaces.{IsSpace, Turns, tables_of}
use Rattle.lxr_image.specs.Tables.{Tables}
use Rattle.lxr_blocks.specs.States.{state_in}
use Rattle.lxr_model.specs.Belongs.{Script}
use Rattle.lxr_invariant.specs.AbstractState.{AbstractState}
use Rattle.lxr_invariant.specs.Listed.{FreeBlocksAreListed, IsListed, ListsBlock, ListsRun}
use Rattle.lxr_core.specs.declared.actors.AnyActor.{AnyActor}
use Rattle.lxr_core.specs.Actors.{mutators_in}
use Rattle.lxr_one_pause.specs.Telling.{TellsWanted}
use Rattle.lxr_placing.specs.declared.listing.ToList.{ToList}
use Rattle.lxr_placing.specs.Trimming.{StandsForTheSame, ZeroesNext, with_zeros}
use Rattle.lxr_sights.specs.Sights.{Sight}
use Rattle.lxr_rounds_history.specs.Sights.{SeesTo}
use Rattle.lxr_rounds_history.specs.Tally.{HasNumbersOf, evacuated_in}
use Rattle.lxr_rounds_invariant.specs.LoopInvariant.{HasCome, HasEvacuatedFew, IsBetweenEpochs, Task, done_of, threads_of}
use Rattle.lxr_shared_heap.specs.declared.heap.Stage.TheVariants as stage
use Rattle.lxr_shared_heap.specs.declared.settings.Settings.{Settings}
use Rattle.lxr_shared_heap.specs.declared.trimming.Trimmed.{Trimmed}
use Rattle.lxr_shared_heap.specs.declared.trimming.Trimmed.TheVariants as trimmed
use Rattle.lxr_shared_heap.specs.Heaps.{Heaped, IsHeapOf}
use Rattle.lxr_shared_heap.specs.Renewing.{ends_with_renewal}
use Rattle.lxr_shared_heap.specs.Settings.{run_of}
use Rattle.lxr_shared_heap.specs.Trimming.{Trims, trimmed_of}

-- ---- Free blocks

free_still : (t : Tables) (block n : ℕ) → free_below (with_zeros t block) n ≡ free_below t n
unfolding free_below
free_still t block zero = refl
free_still t block (suc b) = ap (λ k. k + (if t.states b == 0 then 1 else 0)) (free_still t block b)

-- as many blocks are Free
pub as_many_free : (from : ℕ) (before after : Space) (block : Option ℕ) → ZeroesNext from before after block
    → free_below (tables_of after) after.limits.blocks ≡ free_below (tables_of before) before.limits.blocks
as_many_free from before after (Some block) zeroes =
    ap (λ (s : Space). free_below (tables_of after) s.limits.blocks) zeroes.1.rest ∙ ap (λ t. free_below t before.limits.blocks) zeroes.1.tables ∙ free_still (tables_of before) block before.limits.blocks
as_many_free from before after None zeroes = ap (λ (s : Space). free_below (tables_of s) s.limits.blocks) zeroes.1

-- ---- what is listed

-- a listed run is one where the words of a block are 0, and was one
module _ (t : Tables) (block blocks : ℕ) where
  abbrev cleared : Tables
  cleared = with_zeros t block

  run_still : (k : ℕ) (r : Run) → ListsRun t blocks k r → ListsRun cleared blocks k r
  run_still k r is =
      let free = is.run.run in
      record { word = is.word; some = is.some; run = record { run = record { block = free.block; within = free.within; free = free.free }; outside = is.run.outside } }

  run_was : (k : ℕ) (r : Run) → ListsRun cleared blocks k r → ListsRun t blocks k r
  run_was k r is =
      let free = is.run.run in
      record { word = is.word; some = is.some; run = record { run = record { block = free.block; within = free.within; free = free.free }; outside = is.run.outside } }

  block_still : (k : ℕ) → ListsBlock t blocks k → ListsBlock cleared blocks k
  block_still k is =
      let free = is.run.run in
      record { block = is.block; run = record { run = record { block = free.block; within = free.within; free = free.free }; outside = is.run.outside } }

module _ (s after : Space) (block : ℕ) (turns : Turns s after (with_zeros (tables_of s) block)) where
  same : tables_of after ≡ with_zeros (tables_of s) block
  same = turns.tables

  blocks : after.limits.blocks ≡ s.limits.blocks
  blocks = ap (λ (z : Space). z.limits.blocks) turns.rest

  -- a run that is listed was listed before, and the other way round
  was : (k : ℕ) (r : Run) → ListsRun (tables_of after) after.limits.blocks k r → ListsRun (tables_of s) s.limits.blocks k r
  was k r is = run_was (tables_of s) block s.limits.blocks k r (subst (λ t. ListsRun t s.limits.blocks k r) same (subst (λ b. ListsRun (tables_of after) b k r) blocks is))

  still : (k : ℕ) (r : Run) → ListsRun (tables_of s) s.limits.blocks k r → ListsRun (tables_of after) after.limits.blocks k r
  still k r is = subst (λ b. ListsRun (tables_of after) b k r) (sym blocks) (subst (λ t. ListsRun t s.limits.blocks k r) (sym same) (run_still (tables_of s) block s.limits.blocks k r is))

  few_runs : (k : ℕ) → k < (tables_of after).cursors RUN_COUNT → k < (tables_of s).cursors RUN_COUNT
  few_runs k within = subst (λ t. k < t.cursors RUN_COUNT) same within

  few_blocks : (k : ℕ) → k < (tables_of after).cursors FREE_BLOCK_COUNT → k < (tables_of s).cursors FREE_BLOCK_COUNT
  few_blocks k within = subst (λ t. k < t.cursors FREE_BLOCK_COUNT) same within

  frees : (k : ℕ) → (tables_of after).frees k ≡ (tables_of s).frees k
  frees k = ap (λ t. t.frees k) same

  listed_zeroed : IsListed s → IsListed after
  listed_zeroed l = record {
    no_runs_drawn = ap (λ t. t.cursors RUN_CURSOR) same ∙ l.no_runs_drawn;
    no_blocks_drawn = ap (λ t. t.cursors FREE_BLOCK_CURSOR) same ∙ l.no_blocks_drawn;
    few_runs = subst (λ t. t.cursors RUN_COUNT ≤ 64 * after.limits.blocks) (sym same) (subst (λ b. (tables_of s).cursors RUN_COUNT ≤ 64 * b) (sym blocks) l.few_runs);
    few_blocks = subst (λ t. t.cursors FREE_BLOCK_COUNT ≤ after.limits.blocks) (sym same) (subst (λ b. (tables_of s).cursors FREE_BLOCK_COUNT ≤ b) (sym blocks) l.few_blocks);
    runs = λ k within. let x = l.runs k (few_runs k within) in (x.0, still k x.0 x.1);
    blocks = λ k within.
        subst (λ b. ListsBlock (tables_of after) b k) (sym blocks)
        (subst (λ t. ListsBlock t s.limits.blocks k) (sym same) (block_still (tables_of s) block s.limits.blocks k (l.blocks k (few_blocks k within))));
    runs_apart = λ j k q r less within is_q is_r. l.runs_apart j k q r less (few_runs k within) (was j q is_q) (was k r is_r);
    blocks_apart = λ j k less within e. l.blocks_apart j k less (few_blocks k within) (sym (frees j) ∙ e ∙ frees k);
    all_apart = λ j k r within within' is e. l.all_apart j k r (few_runs j within) (few_blocks k within') (was j r is) (e ∙ frees k);
    no_rest = ap (λ (z : Space). z.rest_next) turns.rest ∙ l.no_rest ∙ sym (ap (λ (z : Space). z.rest_end) turns.rest);
  }

  whole_zeroed : FreeBlocksAreListed s → FreeBlocksAreListed after
  whole_zeroed l = λ n below free.
      let x = l n (subst (λ b. n < b) blocks below) (sym (ap (λ t. state_in t n) same) ∙ free) in
      (x.0, subst (λ t. x.0 < t.cursors FREE_BLOCK_COUNT) (sym same) x.1, frees x.0 ∙ x.2)

  -- ---- between epochs

  module _ (stands : StandsForTheSame s after) (task : Task) (seen : Option (List Sight)) (actors : List AnyActor) (h : List Item) (g : AbstractState) (amid : IsBetweenEpochs task s seen actors h g) where
    come_zeroed : HasCome task after seen h g
    come_zeroed =
        let come = amid.come in
        let rest = turns.rest in
        record {
          history = come.history;
          stands = come.stands;
          safepoint = (stands.quiescent g amid.between).safepoint;
          limits = ap (λ (z : Space). z.limits) rest ∙ come.limits;
          tally = subst (λ (z : Space). HasNumbersOf (threads_of task) h z.tally) (sym rest) come.tally;
          evacuated = subst HasEvacuatedFew (sym rest) come.evacuated;
          places = come.places;
          sights = subst (λ (z : Space). SeesTo (threads_of task) h task.seen seen come.places (evacuated_in z.tally)) (sym rest) come.sights;
          kept = come.kept;
        }

    between_zeroed : IsBetweenEpochs task after seen actors h g
    between_zeroed = record {
      come = come_zeroed;
      between = stands.quiescent g amid.between;
      listed = listed_zeroed amid.listed;
      all_listed = whole_zeroed amid.all_listed;
      actors_rest = amid.actors_rest;
      served = amid.served;
      owes_none = amid.owes_none;
      few = subst (λ (z : Space). z.pauses ≤ 2 * done_of (mutators_in actors)) (sym turns.rest) amid.few;
      more = amid.more;
    }

-- ---- heaps

-- whatever history a heap between two epochs is of, it is of it with the space that stands for the same
heap_zeroed : (settings : Settings) (to_list : ToList) (s after : Space) (actors : Vec AnyActor Global) (block : ℕ) → Turns s after (with_zeros (tables_of s) block) → StandsForTheSame s after → (script : Script) (h : List Item)
    → IsHeapOf script h (record { settings = settings; stage = stage.Between s actors; to_list = to_list }) → IsHeapOf script h (record { settings = settings; stage = stage.Between after actors; to_list = to_list })
heap_zeroed settings to_list s after actors block turns stands script h is = record {
  settings = is.settings;
  threads = is.threads;
  stands = ((is.stands.0.0, between_zeroed s after block turns stands (run_of settings script) None actors.items h is.stands.0.0 is.stands.0.1), is.stands.1, is.stands.2);
  told = subst (λ (z : Space). TellsWanted (ends_with_renewal h) z.report) (sym turns.rest) is.told;
}

-- what zeros for the first Free block make of a heap between two epochs
pub trims_between : (from : ℕ) (settings : Settings) (to_list : ToList) (s after : Space) (actors : Vec AnyActor Global) (block : Option ℕ) → ZeroesNext from s after block → StandsForTheSame s after
    → Trims from (trimmed_of block) (record { settings = settings; stage = stage.Between s actors; to_list = to_list }) (record { settings = settings; stage = stage.Between after actors; to_list = to_list })
trims_between from settings to_list s after actors (Some block) zeroes stands = (
  (after, refl, zeroes),
  record { settings = refl; lists = refl; holds = λ script h is. heap_zeroed settings to_list s after actors block zeroes.1 stands script h is },
)
trims_between from settings to_list s after actors None zeroes stands = ((after, refl, zeroes), ap {A = Space} (λ z. record { settings = settings; stage = stage.Between z actors; to_list = to_list }) zeroes.1)

-- and the heap is that of the same histories, whatever has come of the wish
pub trimmed_same : (from : ℕ) (t : Trimmed) (before after : Heaped) → Trims from t before after → (script : Script) (h : List Item) → IsHeapOf script h before → IsHeapOf script h after
trimmed_same from (trimmed.Block block) before after is script h of = is.1.holds script h of
trimmed_same from trimmed.NoneFree before after is script h of = subst (IsHeapOf script h) (sym is.1) of
trimmed_same from trimmed.Within before after is script h of = subst (IsHeapOf script h) (sym is.1) of
trimmed_same from trimmed.Ended before after is script h of = subst (IsHeapOf script h) (sym is.1) of
trimmed_same from trimmed.Lost before after is script h of = subst (IsHeapOf script h) (sym is.1) of

-- the space of a heap between two epochs is an open one
pub is_space : (settings : Settings) (to_list : ToList) (s : Space) (actors : Vec AnyActor Global) (script : Script) (h : List Item) → IsHeapOf script h (record { settings = settings; stage = stage.Between s actors; to_list = to_list }) → IsSpace s
is_space settings to_list s actors script h of = of.stands.0.1.between.safepoint.holds.space
