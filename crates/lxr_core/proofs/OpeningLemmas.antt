-- The invariant of an epoch holds as it opens.
use Rattle.std.proofs.Common.{◌≡◌, ℕ, ◌+◌, ◌^◌, ◌<◌, ◌≤◌, refl, sym, ap, subst, ◌∙◌, inl, arith, true, false, List, [], ◌∷◌, ◌++◌, length}
use Rattle.std.specs.Prelude.{Some, IsTrue, slice_get, take, suc}
use Rattle.std.specs.List.Sorted.{IsPermutation}
use Rattle.std.proofs.lemmas.List.Sorted.{IsPermutation-refl}
use Rattle.std.proofs.lemmas.List.Concat.{flat_map-cons}
use Rattle.lxr_layout.specs.declared.TheConstants.{PAUSE_WORD}
use Rattle.lxr_layout.specs.declared.LogEntry.{LogEntry}
use Rattle.lxr_graph.specs.History.{replies_of}
use Rattle.lxr_graph.specs.Names.{has}
use Rattle.lxr_image.specs.Image.{IsImage}
use Rattle.lxr_model.specs.Belongs.{calls_since_pause, has_asked}
use Rattle.lxr_model.specs.Moments.{Field, Moment}
use Rattle.lxr_model_counting.specs.Distinct.{has_field}
use Rattle.lxr_model_counting.specs.Following.{FollowsPause}
use Rattle.lxr_invariant.specs.AbstractState.{members}
use Rattle.lxr_invariant.specs.Standing.{HasBits}
use Rattle.lxr_invariant.specs.Lines.{KeepLines, LinesAreOut}
use Rattle.lxr_invariant.proofs.EntryLemmas.{changed_other}
use Rattle.lxr_invariant.proofs.FrameLemmas.{bits_still, image_still}
use Rattle.lxr_core_access.specs.Decrementers.{Decrementing}
use Rattle.lxr_core_access.specs.Tracers.{Tracing}
use Rattle.lxr_core_invariant.specs.ThreadStates.{Stage, ThreadState, Rests, Through, Works, all_of}
use Rattle.lxr_core_invariant.specs.ThreadStates as intent
use Rattle.lxr_core_invariant.specs.EpochStates.{Beginning, IsBeginning, EpochState, limits_of, moment_of, opening_tables, same}
use Rattle.lxr_core_invariant.specs.Events.{Source, span_from}
use Rattle.lxr_core_invariant.specs.Events as source
use Rattle.lxr_core_invariant.specs.Imaged.{HoldsRegisters, IsImagedIn, IsPlacedIn, Knows}
use Rattle.lxr_core_invariant.specs.Logged.{AreBitsAndLogs, logs_of, with_cleared}
use Rattle.lxr_core_invariant.specs.Drawn.{AreFixed, Drawers, HasDrawn, IsDrawnMemory}
use Rattle.lxr_core_invariant.specs.Called.{AreCalled, AreReplies, IsWithinTurn, HasCalled, waiting_in}
use Rattle.lxr_core_invariant.specs.Epoch.{IsEpoch}
use Rattle.lxr_core_invariant.specs.Laws.{OpensWith}
use Rattle.lxr_core_inv_counts.proofs.KeepingLemmas.{opening_counts}
use Rattle.lxr_core_inv_trace.proofs.InsideKeepingLemmas.{opening_inside}
use Rattle.lxr_core_inv_trace.proofs.RememberedSafepointLemmas.{opening_remembered}
use Rattle.lxr_core_inv_trace.proofs.ScansKeepingLemmas.{opening_knowledge}
use Rattle.lxr_core_inv_trace.proofs.SnapshotSafepointLemmas.{opening_cover}
use Rattle.lxr_core.proofs.StartingLemmas.{AllRest, AllStart, Starts, StartsIn, anew, over, no_work, opening_epoch_state}
use Rattle.lxr_core.proofs.OwnerLemmas.{one_owner}

-- no field is in an empty list
no_field : {P : Type 0} (fields : List Field) (w : Field) → fields ≡ [] → IsTrue (has_field fields w) → P
no_field fields w e h = let k : false ≡ true = sym (ap (λ z. has_field z w) e) ∙ h in cc

-- ---- stages

-- nothing is known of objects
knows_at_start : (b : Beginning) (thread_states : List ThreadState) (ds : List Decrementing) (ts : List Tracing) (v : ThreadState) (stage : Stage) → StartsIn v stage
    → Knows (opening_epoch_state b thread_states ds ts).tables (moment_of b (opening_epoch_state b thread_states ds ts)) b.abstract_state.at v stage
knows_at_start b thread_states ds ts v stage (anew _) = tt
knows_at_start b thread_states ds ts v stage (over _) = tt

-- no number is drawn
abbrev none_drawn : Drawers
none_drawn = record { runs = []; blocks = [] }

-- none is in a hand
none_in_hand : (b : Beginning) (d : Drawers) (t : ℕ) (v : ThreadState) (stage : Stage) → StartsIn v stage → HasDrawn b d t stage
none_in_hand b d t v stage (anew _) = tt
none_in_hand b d t v stage (over _) = tt

-- no reply waits for a name
none_waits : (v : ThreadState) (stage : Stage) → StartsIn v stage → waiting_in stage ≡ 0
none_waits v stage (anew _) = refl
none_waits v stage (over _) = refl

-- the replies are those of the history
replies_at_start : (b : Beginning) (s : EpochState) (i : ℕ) (v : ThreadState) (stage : Stage) → Starts b i v → s.history ≡ b.history → StartsIn v stage → AreReplies b s v stage
replies_at_start b s i v stage starts e (anew _) = ap (λ h. replies_of v.thread h) e ∙ starts.replies
replies_at_start b s i v stage starts e (over _) = ap (λ h. replies_of v.thread h) e ∙ starts.replies

-- operations are left, or the end is done
turn_at_start : (b : Beginning) (s : EpochState) (i : ℕ) (v : ThreadState) (stage : Stage) → Starts b i v → StartsIn v stage → IsWithinTurn s v stage
turn_at_start b s i v stage starts (anew few) = let zero_since = starts.since in let some = starts.every.1 in (omega (arith, zero_since, some), few)
turn_at_start b s i v stage starts (over all) =
    let zero_since = starts.since in (omega (arith, zero_since), omega (arith, all), all)

-- ---- logs

-- where all logs are empty, there are no entries
no_logs : (thread_states : List ThreadState) → ((i : ℕ) (v : ThreadState) → slice_get thread_states i ≡ Some v → v.log.items ≡ []) → logs_of thread_states ≡ []
no_logs [] empty = refl
no_logs (v ∷ thread_states) empty =
    flat_map-cons (λ w. w.log.items) v thread_states ∙ (ap (λ z. z ++ logs_of thread_states) (empty 0 v refl) ∙ no_logs thread_states (λ i. empty (suc i)))

-- of an epoch that opens with these thread states, these decrementers and these tracers
module _ (b : Beginning) (thread_states : List ThreadState) (ds : List Decrementing) (ts : List Tracing) (begins : IsBeginning b) (pauses : b.space.pauses < 2 ^ 32) (starts : AllStart b thread_states) (rest : AllRest ds ts)
    (few : (t : ℕ) → calls_since_pause t b.history ≤ 1) (unasked : (t : ℕ) → has_asked t b.history ≡ false) where
  -- its epoch state
  abbrev s : EpochState
  s = opening_epoch_state b thread_states ds ts

  -- its moment
  abbrev m : Moment
  m = moment_of b s

  -- the moment of the history is that of the space
  same_moment : b.abstract_state.moment ≡ m
  same_moment = begins.moment

  -- what holds of the space holds at that moment: its image
  image : IsImage (opening_tables b) (limits_of b).blocks b.abstract_state.at m.state.graph (members m)
  image = subst (λ k. IsImage (opening_tables b) (limits_of b).blocks b.abstract_state.at k.state.graph (members k)) same_moment begins.between.safepoint.holds.image.image

  -- no line of an object is free
  lines : KeepLines (opening_tables b) m.state.graph b.abstract_state.at (members m)
  lines = subst (λ k. KeepLines (opening_tables b) k.state.graph b.abstract_state.at (members k)) same_moment begins.between.lines

  -- lines of made objects are out
  outs : LinesAreOut (opening_tables b) m.state.graph b.abstract_state.at m.made
  outs = subst (λ k. LinesAreOut (opening_tables b) k.state.graph b.abstract_state.at k.made) same_moment begins.between.safepoint.holds.lines

  -- bits tell of the objects
  bits : HasBits (opening_tables b) m b.abstract_state.at m.unreclaimed
  bits = subst (λ k. HasBits (opening_tables b) k b.abstract_state.at k.unreclaimed) same_moment begins.between.safepoint.holds.bits

  -- nothing was stored to
  unwritten : m.written ≡ []
  unwritten = sym (ap (λ k. k.written) same_moment) ∙ begins.between.unwritten

  -- it follows the last pause
  follows : FollowsPause m
  follows = subst FollowsPause same_moment begins.between.safepoint.holds.follows

  -- objects stand where they stood
  placed : IsPlacedIn b s
  placed = record {
    image = image_still (opening_tables b) s.tables (limits_of b).blocks b.abstract_state.at m.state.graph (members m) (members m) refl (λ n h. h) image;
    world = begins.between.safepoint.holds.image.world;
    unmoved = λ n h. refl;
    knows = λ i v shown. knows_at_start b thread_states ds ts v v.stage (starts.each i v shown).stage;
  }

  -- and registers hold their places
  imaged : IsImagedIn b s
  imaged = record {
    placed = placed;
    registers = λ i v shown. subst (λ k. HoldsRegisters k.state b.abstract_state.at v) same_moment (starts.each i v shown).registers;
  }

  -- bits are those of the pause, and logs are empty
  logged : AreBitsAndLogs b s
  logged = record {
    once = tt;
    fields = λ n i h. no_field [] (n, i) refl h;
    bits = bits_still (opening_tables b) s.tables (with_cleared m []) b.abstract_state.at m.unreclaimed refl refl refl refl refl
        (subst (λ w. HasBits (opening_tables b) (with_cleared m w) b.abstract_state.at m.unreclaimed) unwritten bits);
    logs = subst (IsPermutation {X = LogEntry} []) (sym (no_logs thread_states (λ i v shown. ap (λ z. z.items) (starts.each i v shown).log))) (IsPermutation-refl []);
    written = λ n i h. no_field m.written (n, i) unwritten h;
    cleared = λ n i h. no_field [] (n, i) refl h;
    loaded = λ i v e shown stage. no_work v (intent.Clears e) v.stage (starts.each i v shown).stage stage;
    stores = λ i v place index n shown stage. no_work v (intent.Stores place index) v.stage (starts.each i v shown).stage stage;
    rooms = λ i v shown.
        let log = (starts.each i v shown).log in
        let none : length v.log.items ≡ 0 = ap (λ z. length z.items) log in
        (ap (λ z. z.room) log, omega (arith, none));
  }

  -- no span has a granule
  no_spans : (i : ℕ) (v : ThreadState) (from : Source) → slice_get thread_states i ≡ Some v → (span_from from v.spans).end ≤ (span_from from v.spans).next
  no_spans i v source.Current shown = let e = ap (λ z. z.current.end) (starts.each i v shown).spans in omega (arith, e)
  no_spans i v source.Overflow shown = let e = ap (λ z. z.overflow.end) (starts.each i v shown).spans in omega (arith, e)

  -- nothing is drawn
  drawn : IsDrawnMemory b s
  drawn = record {
    drawers = none_drawn;
    numbers = record { runs = sym begins.listed.no_runs_drawn; blocks = sym begins.listed.no_blocks_drawn };
    one = one_owner b thread_states ds ts begins.listed starts image lines;
    hands = λ i v shown. none_in_hand b none_drawn (i + 1) v v.stage (starts.each i v shown).stage;
    spans = λ i v from shown. inl (no_spans i v from shown);
    makes = λ i v place shape wiped shown stage. no_work v (intent.Makes place shape wiped) v.stage (starts.each i v shown).stage stage;
    made = λ n o made there. inl (record { stood = subst (λ (k : Moment). IsTrue (has k.made n)) (sym same_moment) made; out = λ g covers. outs n o g made covers });
    used = λ k drew listed. let none = begins.listed.no_blocks_drawn in absurd (omega (arith, none, drew));
  }

  -- cursors and fixed tables are what they were, but for the pause word
  fixed : AreFixed b s
  fixed = record {
    tables = refl;
    counts = λ k unstarted. refl;
    cursors = λ c other _ _ _ _. changed_other (opening_tables b).cursors PAUSE_WORD 0 c other;
    word = inl refl;
    runs = let none = begins.listed.no_runs_drawn in omega (arith, none);
    blocks = let none = begins.listed.no_blocks_drawn in omega (arith, none);
  }

  -- each mutator has done a beginning of its operations
  called_each : (i : ℕ) (v : ThreadState) → Starts b i v → HasCalled b s v
  called_each i v is =
      let none = none_waits v v.stage is.stage in
      let zero_since = is.since in
      let one = few v.thread in
      record {
        formed = is.formed;
        endless = is.endless;
        few = is.few;
        began = is.began;
        few_began = is.few_began;
        every = is.every.0;
        before = one;
        calls = is.calls ∙ ap (λ k. take k (all_of v.operations)) (let e : length v.replies ≡ length v.replies + waiting_in v.stage = omega (arith, none) in e);
        replies = replies_at_start b s i v v.stage is refl is.stage;
        counted = omega (arith, none, zero_since);
        short = omega arith;
        asked = λ h. let k : false ≡ true = sym (unasked v.thread) ∙ h in cc;
        within_turn = turn_at_start b s i v v.stage is is.stage;
      }

  -- and all have
  called : AreCalled b s
  called = record {
    as_many = starts.as_many;
    threads = λ i v shown. (starts.each i v shown).thread;
    each = λ i v shown. called_each i v (starts.each i v shown);
    word = λ asked. let k : 0 ≡ 1 = asked in absurd (omega (arith, k));
  }

  -- it opens with tables of its beginning, and with helpers that rest
  opens_with : OpensWith b s
  opens_with = record { begins = begins; few_pauses = pauses; tables = refl; decrementers = rest.each; tracers = rest.tracers; history = refl; at = refl }

  -- all parts hold
  pub opens : IsEpoch b s
  opens = record {
    begins = begins;
    extends = same;
    lives = follows;
    image = imaged;
    logged = logged;
    counted = opening_counts b ds begins rest.each rest.few;
    scanned = opening_knowledge b s opens_with;
    covered = opening_cover b s opens_with;
    inside = opening_inside b s opens_with;
    remembered = opening_remembered b s opens_with;
    drawn = drawn;
    fixed = fixed;
    called = called;
  }
