-- The steps that draw lines for a new object.
use Rattle.std.proofs.Common.{◌≡◌, ℕ, ◌+◌, ◌-◌, ◌*◌, ◌/◌, ◌%◌, ◌^◌, ◌<◌, ◌≤◌, Bool, true, false, arith, refl, sym, subst, ap, ◌∙◌, length}
use Rattle.std.specs.Prelude.{List, IsTrue, nat_eq, nat_le, nat_lt, slice_set, if◌then◌else◌}
use Rattle.std.proofs.lemmas.Bool.{ltb-false, ltb-true}
use Rattle.lxr_layout.specs.Spaces.{regions_of}
use Rattle.lxr_layout.specs.declared.TheConstants.{FREE_BLOCK_COUNT, FREE_BLOCK_CURSOR, GRANULES_IN_BLOCK, GRANULES_IN_LINE, LINES_IN_BLOCK, MOST_BLOCKS, MOST_GRANULES, RUN_COUNT, RUN_CURSOR}
use Rattle.lxr_layout.specs.declared.Shape.{Shape}
use Rattle.lxr_layout.specs.declared.limits.Limits.{Limits}
use Rattle.lxr_layout.specs.declared.limits.Regions.{Regions}
use Rattle.lxr_layout.specs.declared.runs.Run as layout
use Rattle.lxr_layout.specs.Objects.{FitsShape, line_count, word_count}
use Rattle.lxr_layout.specs.Runs.{word_of_run}
use Rattle.lxr_base.specs.Roomy.{Roomy}
use Rattle.lxr_graph.specs.declared.Reply.{Reply}
use Rattle.lxr_alloc.specs.declared.Span.{Span}
use Rattle.lxr_alloc.specs.Spans.{FitsSpan, block_span, granule_count, run_span}
use Rattle.lxr_core_access.specs.declared.TableEntry.TheVariants.{Cursor, Free, Run}
use Rattle.lxr_core_access.specs.declared.Access.TheVariants.{Draw, Look}
use Rattle.lxr_mutator.specs.declared.phases.MutatorPhase.TheVariants as phase
use Rattle.lxr_mutator.specs.declared.phases.Stop.TheVariants as stop
use Rattle.lxr_mutator.specs.Mutating.{Mutating, op_now}
use Rattle.lxr_mutator.specs.Steps.{in_current, in_overflow, is_medium, is_run, run_in, shape_now}
use Rattle.lxr_mutator.proofs.NowLemmas.{shape_now_fits}
use Rattle.lxr_mutator.proofs.RunLemmas.{word_of_told}
use Rattle.lxr_core_invariant.specs.Events.{Current, Overflow, Source, making, source_for, with_span}
use Rattle.lxr_core_invariant.specs.Events as epoch
use Rattle.lxr_core_invariant.specs.Laws.{CursorsAreFar}
use Rattle.lxr_core_invariant.specs.EpochStates.{Beginning, EpochState, limits_of}
use Rattle.lxr_core_sim_mutator.specs.Showing.{IsMutatorOf, IsNew, thread_state_of}
use Rattle.lxr_core_sim_mutator.specs.Stepping.{ShowsAs, StepIsEvent}
use Rattle.lxr_core_sim_mutator.proofs.KeepingLemmas.{GoesOn, IsOfSpace, goes_on, of_space, to_phase, with_spans}
use Rattle.lxr_core_sim_mutator.proofs.OutcomeLemmas.{IsEventOf, IsEventTo, both, by_access, history_by, in_phase, is_le, is_lt, new_shown, none_more, of_event}
use Rattle.lxr_core_sim_mutator.proofs.KnowingLemmas.{block_count, block_listed, few_blocks, run_count, run_listed}

-- ---- runs

-- a step that draws the number of a run is an event
pub draws_run_step : CursorsAreFar → (b : Beginning) (s : EpochState) (words : List ℕ) (i : ℕ) (m : Mutating) → ShowsAs b s words i (in_phase m phase.DrawsRun) → StepIsEvent b s words i (in_phase m phase.DrawsRun)
draws_run_step far b s words i m shows =
    let n = in_phase m phase.DrawsRun in
    let goes = goes_on n shows.mutator.sound (λ e. cc) in
    let more = shows.mutator.sound.busy refl in
    let steady = shows.mutator.steady in
    let next : ℕ = s.tables.cursors RUN_CURSOR in
    by_access b s words i n (Draw RUN_CURSOR) shows refl (record { table_entry = omega arith; entry = (let below = (far b s shows.epoch).0 in omega (arith, below)) })
    (λ old told. subst (IsEventOf b s i n (Draw RUN_CURSOR)) (sym told) (record {
      accepts = refl;
      event = epoch.DrawsRun;
      may = record { stage = refl; shape = shape_now n; does = new_shown n goes steady.0; line = steady.1 };
      tables = refl;
      thread_states = refl;
      mutator = to_phase (limits_of b) n (phase.RunNumber next) goes (of_space shows.mutator) more shows.mutator.sound.phase steady;
      history = none_more _ _ n.replies.items;
      places = refl;
    }))

-- listed runs end before the free blocks
runs_end : (l : Limits) (r : Regions) (k : ℕ) → r ≡ regions_of l → k ≤ 64 * l.blocks → r.runs + k ≤ r.frees
runs_end l r k is few =
    let runs = ap (λ x. x.runs) is in let frees = ap (λ x. x.frees) is in
    omega (arith, runs, frees, few)

-- whether there is a run of that number
run_told : (b : Beginning) (s : EpochState) (words : List ℕ) (i : ℕ) (m : Mutating) (number : ℕ) (some : Bool) → ShowsAs b s words i (in_phase m (phase.RunNumber number))
    → s.tables.cursors RUN_COUNT ≤ 64 * (limits_of b).blocks → nat_lt number (s.tables.cursors RUN_COUNT) ≡ some
    → IsEventTo b s i (in_phase m (phase.RunNumber number)) (Look (Cursor RUN_COUNT)) (record m { phase = if some then phase.Run number else phase.DrawsBlock })
run_told b s words i m number true shows few e =
    let n = in_phase m (phase.RunNumber number) in
    let goes = goes_on n shows.mutator.sound (λ q. cc) in
    let listed = ltb-true number (s.tables.cursors RUN_COUNT) e in
    record {
      event = epoch.SeesRun number;
      may = record { stage = refl; listed = listed };
      tables = refl;
      thread_states = refl;
      mutator = to_phase (limits_of b) n (phase.Run number) goes (of_space shows.mutator) (shows.mutator.sound.busy refl)
          (shows.mutator.sound.phase, (let end = runs_end (limits_of b) n.regions (s.tables.cursors RUN_COUNT) shows.mutator.regions few in omega (arith, end, listed))) shows.mutator.steady;
      history = none_more _ _ n.replies.items;
      places = refl;
    }
run_told b s words i m number false shows few e =
    let n = in_phase m (phase.RunNumber number) in
    let goes = goes_on n shows.mutator.sound (λ q. cc) in
    record {
      event = epoch.MissesRun;
      may = record { number = number; stage = refl; none = ltb-false number (s.tables.cursors RUN_COUNT) e };
      tables = refl;
      thread_states = refl;
      mutator = to_phase (limits_of b) n phase.DrawsBlock goes (of_space shows.mutator) (shows.mutator.sound.busy refl) shows.mutator.sound.phase.1 shows.mutator.steady.0;
      history = none_more _ _ n.replies.items;
      places = refl;
    }

-- a step that loads how many runs are listed is an event
pub run_number_step : (b : Beginning) (s : EpochState) (words : List ℕ) (i : ℕ) (m : Mutating) (number : ℕ) → ShowsAs b s words i (in_phase m (phase.RunNumber number))
    → StepIsEvent b s words i (in_phase m (phase.RunNumber number))
run_number_step b s words i m number shows =
    let n = in_phase m (phase.RunNumber number) in
    let few = (run_count b s shows.epoch).1 in
    let count : ℕ = s.tables.cursors RUN_COUNT in
    by_access b s words i n (Look (Cursor RUN_COUNT)) shows refl (record { table_entry = omega arith; entry = tt })
    (λ old told. subst (IsEventOf b s i n (Look (Cursor RUN_COUNT))) (sym told)
    (of_event b s i n (Look (Cursor RUN_COUNT)) count (is_le (n.regions.runs + count) n.regions.frees (runs_end (limits_of b) n.regions count shows.mutator.regions few))
    (run_told b s words i m number (nat_lt number count) shows few refl)))

-- a run is read off its word
run_read : (r : layout.Run) → r.line < 2 ^ 8 → r.lines < 2 ^ 8 → run_in (word_of_run r) ≡ r
run_read r line lines =
    let block : (word_of_run r) / 2 ^ 16 ≡ r.block = omega arith in
    let first : (word_of_run r) / 2 ^ 8 % 2 ^ 8 ≡ r.line = omega arith in
    let many : (word_of_run r) % 2 ^ 8 ≡ r.lines = omega arith in
    λ j. record { block = block j; line = first j; lines = many j }

-- a run that a mutator may take for an object of one line
record MayTake (r : layout.Run) (shape : Shape) : Type 0 where
  pub block : r.block < MOST_BLOCKS
  pub some : 1 ≤ r.lines
  pub within : r.line + r.lines ≤ LINES_IN_BLOCK
  pub fits : FitsShape shape
  pub line : line_count shape ≡ 1

-- a run that may be taken passes the test of the machine
taken_test : (r : layout.Run) (shape : Shape) → MayTake r shape → IsTrue (is_run r)
taken_test r shape may = both (nat_lt r.block MOST_BLOCKS) _ (is_lt r.block MOST_BLOCKS may.block) (both (nat_le 1 r.lines) _ (is_le 1 r.lines may.some) (is_le (r.line + r.lines) LINES_IN_BLOCK may.within))

-- it has room for the object, and lies in the heap
run_room : (r : layout.Run) (shape : Shape) → MayTake r shape → FitsSpan (run_span r) shape
run_room r shape may = room r.block r.line r.lines (word_count shape) may.some may.line
  where
    room : (block line lines words : ℕ) → 1 ≤ lines → (words + 31) / 32 ≡ 1 → words / 2 ≤ GRANULES_IN_BLOCK * block + GRANULES_IN_LINE * (line + lines) - (GRANULES_IN_BLOCK * block + GRANULES_IN_LINE * line)
    room block line lines words some one = omega arith

-- a run that may be taken lies in the largest heap
run_end : (r : layout.Run) (shape : Shape) → MayTake r shape → ((run_span r).end ≤ MOST_GRANULES) × ((run_span r).next + 1 ≤ MOST_GRANULES)
run_end r shape may = low r.block r.line r.lines may.block may.some may.within
  where
    low : (block line lines : ℕ) → block < MOST_BLOCKS → 1 ≤ lines → line + lines ≤ LINES_IN_BLOCK → (GRANULES_IN_BLOCK * block + GRANULES_IN_LINE * (line + lines) ≤ MOST_GRANULES) × (GRANULES_IN_BLOCK * block + GRANULES_IN_LINE * line + 1 ≤ MOST_GRANULES)
    low block line lines there some within = (omega arith, omega arith)

-- an object is made at the front of a span that is the current one, or the overflow one, from now on
pub to_current : (l : Limits) (m : Mutating) (span : Span) → GoesOn m → IsOfSpace l m → length m.replies.items < length m.operations → IsNew m → span.end ≤ MOST_GRANULES
    → span.next + 1 ≤ MOST_GRANULES → IsMutatorOf l (in_current m (shape_now m) span)
to_current l m span goes space more new end next =
    let spans = record m.spans { current = record span { next = span.next + granule_count (shape_now m) } } in
    to_phase l (record m { spans = spans }) (phase.Wiping (record { 0 = span.next + 1 }) 1) (with_spans m spans goes (end, goes.spans.1)) space more
    ((omega arith, next), (omega arith, omega arith)) new

-- and so where the span is the overflow one
pub to_overflow : (l : Limits) (m : Mutating) (span : Span) → GoesOn m → IsOfSpace l m → length m.replies.items < length m.operations → IsNew m → span.end ≤ MOST_GRANULES
    → span.next + 1 ≤ MOST_GRANULES → IsMutatorOf l (in_overflow m (shape_now m) span)
to_overflow l m span goes space more new end next =
    let spans = record m.spans { overflow = record span { next = span.next + granule_count (shape_now m) } } in
    to_phase l (record m { spans = spans }) (phase.Wiping (record { 0 = span.next + 1 }) 1) (with_spans m spans goes (goes.spans.0, end)) space more
    ((omega arith, next), (omega arith, omega arith)) new

-- a step that loads a run, and takes it, is an event
pub run_step : (b : Beginning) (s : EpochState) (words : List ℕ) (i : ℕ) (m : Mutating) (number : ℕ) → ShowsAs b s words i (in_phase m (phase.Run number))
    → StepIsEvent b s words i (in_phase m (phase.Run number))
run_step b s words i m number shows =
    let n = in_phase m (phase.Run number) in
    let l = limits_of b in
    let is = shows.epoch in
    let goes = goes_on n shows.mutator.sound (λ e. cc) in
    let more = shows.mutator.sound.busy refl in
    let steady = shows.mutator.steady in
    let listed = (is.drawn.hands i (thread_state_of n) shows.thread_state).1 in
    let count = run_count b s is in
    let found = run_listed b s number is listed in
    let few = few_blocks b s is in
    let there = found.1 in
    let word : ℕ = s.tables.runs number in
    let read : run_in word ≡ found.0 = ap run_in there.word ∙ run_read found.0 (let within = there.within in omega (arith, within)) (let within = there.within in omega (arith, within)) in
    let may : MayTake (run_in word) (shape_now n) = subst (λ r. MayTake r (shape_now n)) (sym read) (record {
      block = (let block = there.block in omega (arith, block, few));
      some = there.some;
      within = there.within;
      fits = shape_now_fits n shows.mutator.sound;
      line = steady.1;
    }) in
    let end = run_end (run_in word) (shape_now n) may in
    by_access b s words i n (Look (Run number)) shows refl (record { table_entry = (let listed_now = count in omega (arith, listed, count.0, count.1)); entry = tt })
    (λ old told. subst (IsEventOf b s i n (Look (Run number))) (sym told) (record {
      accepts = taken_test (run_in word) (shape_now n) may;
      event = epoch.TakesRun (run_in word) (shape_now n);
      may = record {
        number = number;
        stage = refl;
        word = word_of_told word;
        in_block = (may.block, may.within);
        does = new_shown n goes steady.0;
        line = steady.1;
        fits = run_room (run_in word) (shape_now n) may;
      };
      tables = refl;
      thread_states = refl;
      mutator = to_current l n (run_span (run_in word)) goes (of_space shows.mutator) more steady.0 end.0 end.1;
      history = none_more _ _ n.replies.items;
      places = refl;
    }))

-- ---- blocks

-- a step that draws the number of a block is an event
pub draws_block_step : CursorsAreFar → (b : Beginning) (s : EpochState) (words : List ℕ) (i : ℕ) (m : Mutating) → ShowsAs b s words i (in_phase m phase.DrawsBlock)
    → StepIsEvent b s words i (in_phase m phase.DrawsBlock)
draws_block_step far b s words i m shows =
    let n = in_phase m phase.DrawsBlock in
    let goes = goes_on n shows.mutator.sound (λ e. cc) in
    let more = shows.mutator.sound.busy refl in
    let next : ℕ = s.tables.cursors FREE_BLOCK_CURSOR in
    by_access b s words i n (Draw FREE_BLOCK_CURSOR) shows refl (record { table_entry = omega arith; entry = (let below = (far b s shows.epoch).1 in omega (arith, below)) })
    (λ old told. subst (IsEventOf b s i n (Draw FREE_BLOCK_CURSOR)) (sym told) (record {
      accepts = refl;
      event = epoch.DrawsBlock;
      may = (refl, (shape_now n, new_shown n goes shows.mutator.steady));
      tables = refl;
      thread_states = refl;
      mutator = to_phase (limits_of b) n (phase.BlockNumber next) goes (of_space shows.mutator) more shows.mutator.sound.phase shows.mutator.steady;
      history = none_more _ _ n.replies.items;
      places = refl;
    }))

-- listed blocks end before the decrements
frees_end : (l : Limits) (r : Regions) (k : ℕ) → r ≡ regions_of l → k ≤ l.blocks → r.frees + k ≤ r.decs
frees_end l r k is few =
    let frees = ap (λ x. x.frees) is in let decs = ap (λ x. x.decs) is in
    omega (arith, frees, decs, few)

-- whether there is a block of that number
block_told : (b : Beginning) (s : EpochState) (words : List ℕ) (i : ℕ) (m : Mutating) (number : ℕ) (some : Bool) → ShowsAs b s words i (in_phase m (phase.BlockNumber number))
    → s.tables.cursors FREE_BLOCK_COUNT ≤ (limits_of b).blocks → nat_lt number (s.tables.cursors FREE_BLOCK_COUNT) ≡ some
    → IsEventTo b s i (in_phase m (phase.BlockNumber number)) (Look (Cursor FREE_BLOCK_COUNT)) (record m { phase = if some then phase.Block number else phase.GivingUp stop.NoRun })
block_told b s words i m number true shows few e =
    let n = in_phase m (phase.BlockNumber number) in
    let goes = goes_on n shows.mutator.sound (λ q. cc) in
    let listed = ltb-true number (s.tables.cursors FREE_BLOCK_COUNT) e in
    record {
      event = epoch.SeesBlock number;
      may = record { stage = refl; listed = listed };
      tables = refl;
      thread_states = refl;
      mutator = to_phase (limits_of b) n (phase.Block number) goes (of_space shows.mutator) (shows.mutator.sound.busy refl)
          (shows.mutator.sound.phase, (let end = frees_end (limits_of b) n.regions (s.tables.cursors FREE_BLOCK_COUNT) shows.mutator.regions few in omega (arith, end, listed))) shows.mutator.steady;
      history = none_more _ _ n.replies.items;
      places = refl;
    }
block_told b s words i m number false shows few e =
    let n = in_phase m (phase.BlockNumber number) in
    let goes = goes_on n shows.mutator.sound (λ q. cc) in
    record {
      event = epoch.MissesBlock;
      may = record { number = number; stage = refl; none = ltb-false number (s.tables.cursors FREE_BLOCK_COUNT) e; shape = shape_now n; does = new_shown n goes shows.mutator.steady };
      tables = refl;
      thread_states = refl;
      mutator = to_phase (limits_of b) n (phase.GivingUp stop.NoRun) goes (of_space shows.mutator) (shows.mutator.sound.busy refl) tt tt;
      history = none_more _ _ n.replies.items;
      places = refl;
    }

-- a step that loads how many blocks are listed is an event
pub block_number_step : (b : Beginning) (s : EpochState) (words : List ℕ) (i : ℕ) (m : Mutating) (number : ℕ) → ShowsAs b s words i (in_phase m (phase.BlockNumber number))
    → StepIsEvent b s words i (in_phase m (phase.BlockNumber number))
block_number_step b s words i m number shows =
    let n = in_phase m (phase.BlockNumber number) in
    let few = (block_count b s shows.epoch).1 in
    let count : ℕ = s.tables.cursors FREE_BLOCK_COUNT in
    by_access b s words i n (Look (Cursor FREE_BLOCK_COUNT)) shows refl (record { table_entry = omega arith; entry = tt })
    (λ old told. subst (IsEventOf b s i n (Look (Cursor FREE_BLOCK_COUNT))) (sym told)
    (of_event b s i n (Look (Cursor FREE_BLOCK_COUNT)) count (is_le (n.regions.frees + count) n.regions.decs (frees_end (limits_of b) n.regions count shows.mutator.regions few))
    (block_told b s words i m number (nat_lt number count) shows few refl)))

-- the span of a whole block, by the object's size
abbrev source_as : Bool → Source
source_as medium = if medium then Overflow else Current

-- an object of more than one line is taken from the overflow span
source_is : (shape : Shape) → source_for shape ≡ source_as (is_medium shape)
source_is shape = by (line_count shape) (nat_lt 1 (line_count shape)) (omega arith) refl
  where
    by : (lines : ℕ) (medium : Bool) → 1 ≤ lines → nat_lt 1 lines ≡ medium → (if nat_eq lines 1 then Current else Overflow) ≡ source_as medium
    by lines true some e = let no : nat_eq lines 1 ≡ false = grind (arith, e) in ap (λ c. if c then Current else Overflow) no
    by lines false some e = let yes : nat_eq lines 1 ≡ true = grind (arith, e, some) in ap (λ c. if c then Current else Overflow) yes

-- the machine that makes its object at the front of a span, by the object's size
abbrev placed_as : Mutating → Span → Bool → Mutating
placed_as m span medium = if medium then in_overflow m (shape_now m) span else in_current m (shape_now m) span

-- what it shows then
placed_shown : (m : Mutating) (span : Span) (medium : Bool) → thread_state_of (placed_as m span medium) ≡ making (thread_state_of m) (source_as medium) (with_span (source_as medium) m.spans span) (shape_now m)
placed_shown m span true = refl
placed_shown m span false = refl

-- it is a mutator of the space then
placed_kept : (l : Limits) (m : Mutating) (span : Span) (medium : Bool) → GoesOn m → IsOfSpace l m → length m.replies.items < length m.operations → IsNew m → span.end ≤ MOST_GRANULES
    → span.next + 1 ≤ MOST_GRANULES → IsMutatorOf l (placed_as m span medium)
placed_kept l m span true goes space more new end next = to_overflow l m span goes space more new end next
placed_kept l m span false goes space more new end next = to_current l m span goes space more new end next

-- and has replied to no more
placed_counts : (m : Mutating) (span : Span) (medium : Bool) → (placed_as m span medium).replies ≡ m.replies
placed_counts m span true = refl
placed_counts m span false = refl

-- a step that loads a free block, and takes it, is an event
pub block_step : (b : Beginning) (s : EpochState) (words : List ℕ) (i : ℕ) (m : Mutating) (number : ℕ) → ShowsAs b s words i (in_phase m (phase.Block number))
    → StepIsEvent b s words i (in_phase m (phase.Block number))
block_step b s words i m number shows =
    let n = in_phase m (phase.Block number) in
    let l = limits_of b in
    let is = shows.epoch in
    let goes = goes_on n shows.mutator.sound (λ e. cc) in
    let more = shows.mutator.sound.busy refl in
    let listed = (is.drawn.hands i (thread_state_of n) shows.thread_state).1 in
    let count = block_count b s is in
    let block : ℕ = s.tables.frees number in
    let there : block < l.blocks = block_listed b s number is listed in
    let few = few_blocks b s is in
    let medium : Bool = is_medium (shape_now n) in
    by_access b s words i n (Look (Free number)) shows refl (record { table_entry = omega (arith, listed, count.0, count.1); entry = tt })
    (λ old told. subst (IsEventOf b s i n (Look (Free number))) (sym told) (record {
      accepts = is_lt block MOST_BLOCKS (omega (arith, there, few));
      event = epoch.TakesBlock block (shape_now n);
      may = record { number = number; stage = refl; word = refl; does = new_shown n goes shows.mutator.steady };
      tables = refl;
      thread_states = ap (λ (f : Source). slice_set s.thread_states i (making (thread_state_of n) f (with_span f n.spans (block_span block)) (shape_now n))) (source_is (shape_now n))
          ∙ ap (slice_set s.thread_states i) (sym (placed_shown n (block_span block) medium));
      mutator = placed_kept l n (block_span block) medium goes (of_space shows.mutator) more shows.mutator.steady (omega (arith, there, few)) (omega (arith, there, few));
      history = none_more _ _ n.replies.items ∙ ap (λ (r : Roomy Reply). history_by b s n (length r.items)) (sym (placed_counts n (block_span block) medium));
      places = refl;
    }))
