-- Each event keeps bits and logs.
use Rattle.std.proofs.Common.{◌≡◌, ℕ, ◌+◌, ◌%◌, ◌^◌, refl, sym, ap, subst, ◌∙◌, inl, inr, Bool, true, false, List, nat_eq}
use Rattle.std.specs.Prelude.{Some, None, IsTrue, slice_get, slice_set, if◌then◌else◌}
use Rattle.lxr_layout.specs.declared.TheConstants.{FREE_BLOCK_CURSOR, PAUSE_WORD, RUN_CURSOR}
use Rattle.lxr_layout.specs.declared.LogEntry.{LogEntry}
use Rattle.lxr_layout.specs.declared.Name.{Name}
use Rattle.lxr_layout.specs.declared.Place.{Place}
use Rattle.lxr_layout.specs.Objects.{header_word}
use Rattle.lxr_layout.specs.Places.{field_word, first_word, place_in}
use Rattle.lxr_graph.specs.declared.Op.{Op}
use Rattle.lxr_graph.specs.declared.Op.TheVariants as op
use Rattle.lxr_graph.specs.declared.Reply.{Reply}
use Rattle.lxr_graph.specs.declared.Reply.TheVariants as reply
use Rattle.lxr_graph.specs.Names.{has}
use Rattle.lxr_graph.specs.State.{next_name}
use Rattle.lxr_graph.specs.Step.{state_after, step}
use Rattle.lxr_graph.proofs.NameSets.{not_both}
use Rattle.lxr_image.specs.Tables.{Tables}
use Rattle.lxr_image.specs.ImageLaws.{placed, with_heap}
use Rattle.lxr_model.specs.Moments.{Field, Moment, made_after, written_after}
use Rattle.lxr_model_counting.specs.Distinct.{has_field}
use Rattle.lxr_model_counting.proofs.DistinctLemmas.{tested}
use Rattle.lxr_core_invariant.specs.ThreadStates.{Intent, Reason, Stage, ThreadState, held, is_end, Plain, AtReference, AtValue, Clears, Stores, DrewRun, HasRun, NeedsBlock, DrewBlock, HasBlock, Makes, GivesUp, Rests, Works, Names, Through}
use Rattle.lxr_core_invariant.specs.ThreadStates as why
use Rattle.lxr_core_invariant.specs.EpochStates.{Beginning, EpochState, limits_of, moment_of}
use Rattle.lxr_core_invariant.specs.Events.{Does, Event, done_with, found_reply, stage_after, value_word}
use Rattle.lxr_core_invariant.specs.Events as event
use Rattle.lxr_core_invariant.specs.Happening.{asked_by, at_stage, entry_with, happen, intends, loaded_with, shows, stands, with_cursor, MayClearFirst, MayLoadOld}
use Rattle.lxr_core_invariant.specs.Imaged.{IsReferenceAt, Knows, KnowsReference}
use Rattle.lxr_core_invariant.specs.Logged.{AreBitsAndLogs, MayRecord}
use Rattle.lxr_core_invariant.specs.Epoch.{IsEpoch}
use Rattle.lxr_core_invariant.specs.Laws.{BitsAndLogsAreKept, RepliesAreSteps}
use Rattle.lxr_core_invariant.proofs.ActingLemmas.{acts}
use Rattle.lxr_core_inv_heap.proofs.LogsCallLemmas.{WritesNone, at_once_none, places_keep, step_keeps_refs, none_written}
use Rattle.lxr_core_inv_heap.proofs.LogsFirstLemmas.{first_keeps_logs}
use Rattle.lxr_core_inv_heap.proofs.LogsReferenceLemmas.{clear_is_cleared, old_is_read}
use Rattle.lxr_core_inv_heap.proofs.LogsStoreLemmas.{IsQuiet, IsWrite, quiet_clears, store_writes, swap_writes, write_turns}
use Rattle.lxr_core_inv_heap.proofs.LogsTurnLemmas.{HasLogs, KeepsBits, KeepsUnreclaimed, Turns, logs_for, logs_from, turns_keep_logs}

-- ---- what an epoch says of one mutator

-- bits and logs of an epoch state
abbrev pub LogsOf : Beginning → EpochState → Type 0
LogsOf b s = HasLogs s.tables (moment_of b s) s.at s.cleared s.thread_states (limits_of b).log

-- what a mutator knows in a stage
known : (b : Beginning) (s : EpochState) (i : ℕ) (v : ThreadState) (stage : Stage) → IsEpoch b s → slice_get s.thread_states i ≡ Some v → v.stage ≡ stage → Knows s.tables (moment_of b s) s.at v stage
known b s i v stage is there same = subst (Knows s.tables (moment_of b s) s.at v) same (is.image.placed.knows i v there)

-- ---- quiet events

-- a mutator in such a stage has nothing to record or store
in_quiet : (v : ThreadState) (stage : Stage) → v.stage ≡ stage → IsQuiet stage → IsQuiet v.stage
in_quiet v stage same quiet = subst IsQuiet (sym same) quiet

-- a mutator that neither had to record or store, nor has to now
quiet_turns : (b : Beginning) (s : EpochState) (v w : ThreadState) (ws : List Field) → LogsOf b s → ws ≡ (moment_of b s).written → IsQuiet v.stage → IsQuiet w.stage → w.log ≡ v.log
    → Turns (moment_of b s) s.at s.cleared ws v w
quiet_turns b s v w ws is same before after log = record {
  log = log;
  were_cleared = λ n i h. is.written n i (subst (λ z. IsTrue (has_field z (n, i))) same h);
  stay_written = λ n i h. subst (λ z. IsTrue (has_field z (n, i))) (sym same) h;
  stored = λ n i h stage. quiet_clears v.stage (Stores (s.at n) i) before stage (λ k. k);
  clears = λ e stage. quiet_clears w.stage (Clears e) after stage (λ k. k);
  stores = λ place index n stage member here. quiet_clears w.stage (Stores place index) after stage (λ k. k);
}

-- the tables keep their bits where only heap words and cursors change
same_bits : (t : Tables) (heap cursors : ℕ → ℕ) → KeepsBits t (record t { heap = heap; cursors = cursors })
same_bits t heap cursors = record { starts = refl; marks = refl; grays = refl; dones = refl; unlogged = refl }

-- objects stay where the moment and the places do
nothing_moves : (m : Moment) (at : Name → ℕ) → KeepsUnreclaimed m m.state at at
nothing_moves m at = record { places = λ n h. refl; refs = λ n h. refl }

-- an event by which no operation comes to stand in the history, and no bit is cleared
shows_keeps : (b : Beginning) (s : EpochState) (i : ℕ) (v w : ThreadState) (u : Tables) → IsEpoch b s → slice_get s.thread_states i ≡ Some v → KeepsBits s.tables u
    → Turns (moment_of b s) s.at s.cleared (moment_of b s).written v w → AreBitsAndLogs b (record (shows s i w) { tables = u })
shows_keeps b s i v w u is there same turns =
    let m : Moment = moment_of b s in
    logs_for b (record (shows s i w) { tables = u })
    (turns_keep_logs s.tables u m m.state m.made s.at s.at s.cleared m.written s.thread_states (limits_of b).log i v w is.lives same (nothing_moves m s.at) turns there (logs_from b s is.logged))

-- such an event of a mutator that has nothing to record or store
quiet_keeps : (b : Beginning) (s : EpochState) (i : ℕ) (v w : ThreadState) (u : Tables) → IsEpoch b s → slice_get s.thread_states i ≡ Some v → KeepsBits s.tables u → IsQuiet v.stage → IsQuiet w.stage → w.log ≡ v.log
    → AreBitsAndLogs b (record (shows s i w) { tables = u })
quiet_keeps b s i v w u is there same before after log =
    shows_keeps b s i v w u is there same (quiet_turns b s v w (moment_of b s).written (logs_from b s is.logged) refl before after log)

-- an event by which an operation comes to stand in the history
call_keeps : (b : Beginning) (s : EpochState) (i : ℕ) (v w : ThreadState) (o : Op) (u : Tables) (to : Name → ℕ) → IsEpoch b s → slice_get s.thread_states i ≡ Some v → KeepsBits s.tables u
    → ((n : Name) → IsTrue (has (moment_of b s).unreclaimed n) → to n ≡ s.at n)
    → Turns (moment_of b s) s.at s.cleared (written_after (moment_of b s) v.thread o (step (moment_of b s).state v.thread o).1) v w → AreBitsAndLogs b (record (stands b s i v o w u) { at = to })
call_keeps b s i v w o u to is there same places turns =
    let m : Moment = moment_of b s in
    let r : Reply = (step m.state v.thread o).1 in
    let known = acts b s i v is there in
    logs_for b (record (stands b s i v o w u) { at = to })
    (turns_keep_logs s.tables u m (state_after m.state v.thread o r) (made_after m.made r) s.at to s.cleared (written_after m v.thread o r) s.thread_states (limits_of b).log i v w is.lives same
    (record { places = places; refs = step_keeps_refs m v.thread o is.lives known.thread known.row }) turns there (logs_from b s is.logged))

-- an operation with another reply than that of a store or a swap
quiet_call : (b : Beginning) (s : EpochState) (i : ℕ) (v w : ThreadState) (o : Op) (r : Reply) (u : Tables) (to : Name → ℕ) → IsEpoch b s → slice_get s.thread_states i ≡ Some v → KeepsBits s.tables u
    → ((n : Name) → IsTrue (has (moment_of b s).unreclaimed n) → to n ≡ s.at n) → (step (moment_of b s).state v.thread o).1 ≡ r → WritesNone r → IsQuiet v.stage → IsQuiet w.stage → w.log ≡ v.log
    → AreBitsAndLogs b (record (stands b s i v o w u) { at = to })
quiet_call b s i v w o r u to is there same places replied none before after log =
    let m : Moment = moment_of b s in
    let written = ap (written_after m v.thread o) replied ∙ none_written m v.thread o r none in
    call_keeps b s i v w o u to is there same places (quiet_turns b s v w (written_after m v.thread o (step m.state v.thread o).1) (logs_from b s is.logged) written before after log)

-- ---- how a unit ends

-- a unit ends with nothing to record or store
done_quiet : (ends turns : Bool) → IsQuiet (if ends then (Through why.Ended) else (if turns then (Through why.Turns) else Rests))
done_quiet true turns = tt
done_quiet false true = tt
done_quiet false false = tt

-- so it does after each operation
after_quiet : (v : ThreadState) (o : Op) → IsQuiet (stage_after v o)
after_quiet v o = done_quiet (is_end o) (nat_eq (v.since + 1) v.every)

-- it is so where a load found nil and where it found a name
either_quiet : (nil : Bool) (x y : ThreadState) → IsQuiet x.stage → IsQuiet y.stage → IsQuiet (if nil then x else y).stage
either_quiet true x y h k = h
either_quiet false x y h k = k

-- and the log is as it was
either_log : (nil : Bool) (x y v : ThreadState) → x.log ≡ v.log → y.log ≡ v.log → (if nil then x else y).log ≡ v.log
either_log true x y v h k = h
either_log false x y v h k = k

-- who asks for a pause writes nothing
asked_none : (o : Op) (r : Reply) → asked_by o ≡ Some r → WritesNone r
asked_none op.Pause r e = let same : reply.Paused ≡ r = cc in subst WritesNone same tt
asked_none op.Collect r e = let same : reply.Collected ≡ r = cc in subst WritesNone same tt
asked_none (op.New dest shape) r e = absurd (cc)
asked_none (op.Load dest base index) r e = absurd (cc)
asked_none (op.Store base index source) r e = absurd (cc)
asked_none (op.Put base index value) r e = absurd (cc)
asked_none (op.Get base index) r e = absurd (cc)
asked_none (op.Swap dest base index source) r e = absurd (cc)
asked_none (op.Add base index value) r e = absurd (cc)
asked_none (op.Move dest source) r e = absurd (cc)
asked_none (op.Nil dest) r e = absurd (cc)
asked_none (op.Same left right) r e = absurd (cc)
asked_none op.End r e = absurd (cc)

-- ---- a mutator that is about to store, or to clear

-- two stages of storing are one
same_stores : (place index p q : ℕ) → Works (Stores place index) ≡ Works (Stores p q) → (p ≡ place) × (q ≡ index)
same_stores place index p q e =
    let intent : Stores place index ≡ Stores p q = cc in
    let place_is : place ≡ p = cc in
    let index_is : index ≡ q = cc in
    (sym place_is, sym index_is)

-- two stages of clearing are one
same_clears : (e f : LogEntry) → Works (Clears e) ≡ Works (Clears f) → e ≡ f
same_clears e f h = let intent : Clears e ≡ Clears f = cc in cc

-- to store is not to clear
store_no_clear : (place index : ℕ) (e : LogEntry) → Works (Stores place index) ≡ Works (Clears e) → ⊥
store_no_clear place index e same = absurd (let k : Stores place index ≡ Clears e = cc in cc)

-- to clear is not to store
clear_no_store : (e : LogEntry) (place index : ℕ) → Works (Clears e) ≡ Works (Stores place index) → ⊥
clear_no_store e place index same = absurd (let k : Clears e ≡ Stores place index = cc in cc)

-- it sees the bit clear, or finds it so, and goes on to store
sees_clear : (b : Beginning) (s : EpochState) (i : ℕ) (v : ThreadState) (place index : ℕ) → IsEpoch b s → slice_get s.thread_states i ≡ Some v → IsReferenceAt (moment_of b s) s.at place index
    → s.tables.unlogged (field_word place index) ≡ false → ((n : Name) (k : ℕ) → v.stage ≡ Works (Stores (s.at n) k) → ⊥)
    → AreBitsAndLogs b (shows s i (intends v (Stores place index)))
sees_clear b s i v place index is there known clear not =
    let m : Moment = moment_of b s in
    let logs = logs_from b s is.logged in
    shows_keeps b s i v (intends v (Stores place index)) s.tables is there (same_bits s.tables s.tables.heap s.tables.cursors) (record {
      log = refl;
      were_cleared = logs.written;
      stay_written = λ n k h. h;
      stored = λ n k h stage. absurd (not n k stage);
      clears = λ e stage. absurd (store_no_clear place index e stage);
      stores = λ p q n stage member here.
          let same = same_stores place index p q stage in
          subst (λ z. IsTrue (has_field s.cleared (n, z))) (sym same.1)
          (clear_is_cleared s.tables (limits_of b).blocks s.at m s.cleared place index n is.image.placed.image logs.bits known clear member (sym same.0 ∙ here));
    })

-- it loads the reference
loads_old : (b : Beginning) (s : EpochState) (i : ℕ) (v : ThreadState) (place index : ℕ) → IsEpoch b s → slice_get s.thread_states i ≡ Some v → MayLoadOld v place index
    → AreBitsAndLogs b (shows s i (intends v (Clears (entry_with s.tables place index))))
loads_old b s i v place index is there may =
    let m : Moment = moment_of b s in
    let logs = logs_from b s is.logged in
    let e : LogEntry = entry_with s.tables place index in
    let knows : KnowsReference m s.at v place index = known b s i v (Works (AtReference place index)) is there may.stage in
    let records : MayRecord m s.at s.cleared (intends v (Clears e)) e = record {
      room = may.room;
      first = λ n member here new.
          old_is_read s.tables (limits_of b).blocks s.at m place index n is.image.placed.image is.begins.between.safepoint.holds.space.limits.blocks.1 is.lives knows.stands member here
          (elim (tested (has_field m.written (n, index))) [ inl h ↦ not_both (has_field s.cleared (n, index)) (logs.written n index h) new | inr h ↦ h ]);
    } in
    shows_keeps b s i v (intends v (Clears e)) s.tables is there (same_bits s.tables s.tables.heap s.tables.cursors) (record {
      log = refl;
      were_cleared = logs.written;
      stay_written = λ n k h. h;
      stored = λ n k h stage. quiet_clears v.stage (Stores (s.at n) k) (in_quiet v (Works (AtReference place index)) may.stage tt) stage (λ z. z);
      clears = λ f stage. subst (MayRecord m s.at s.cleared (intends v (Clears e))) (same_clears e f stage) records;
      stores = λ p q n stage member here. absurd (clear_no_store e p q stage);
    })

-- it clears the bit, which was set
clears_first : (b : Beginning) (s : EpochState) (i : ℕ) (v : ThreadState) (e : LogEntry) (n : Name) → IsEpoch b s → slice_get s.thread_states i ≡ Some v → MayClearFirst b s v e n
    → AreBitsAndLogs b (happen b s i v (event.ClearsFirst e n))
clears_first b s i v e n is there may =
    let m : Moment = moment_of b s in
    let knows : KnowsReference m s.at v e.place.0 e.index = known b s i v (Works (Clears e)) is there may.clear.stage in
    logs_for b (happen b s i v (event.ClearsFirst e n)) (first_keeps_logs s.tables (limits_of b).blocks m s.at s.cleared s.thread_states (limits_of b).log i v e n (record {
      follows = is.lives;
      image = is.image.placed.image;
      is = knows.stands;
      set = may.clear.unlogged;
      member = may.member;
      here = may.place;
      stage = may.clear.stage;
      room = may.clear.room;
    }) there (logs_from b s is.logged))

-- it stores or swaps
writes_reference : (b : Beginning) (s : EpochState) (i : ℕ) (v w : ThreadState) (o : Op) (place index value base k : ℕ) → IsEpoch b s → slice_get s.thread_states i ≡ Some v → v.stage ≡ Works (Stores place index)
    → Does v o → IsWrite o (step (moment_of b s).state v.thread o).1 base k → IsQuiet w.stage → w.log ≡ v.log
    → AreBitsAndLogs b (stands b s i v o w (with_heap s.tables (field_word place index) value))
writes_reference b s i v w o place index value base k is there stage does write quiet log =
    let m : Moment = moment_of b s in
    let r : Reply = (step m.state v.thread o).1 in
    let knows : KnowsReference m s.at v place index = known b s i v (Works (Stores place index)) is there stage in
    call_keeps b s i v w o (with_heap s.tables (field_word place index) value) s.at is there (same_bits s.tables _ s.tables.cursors) (λ n h. refl)
    (write_turns s.tables (limits_of b).blocks m s.at s.cleared s.thread_states (limits_of b).log i v w place index o r base k (acts b s i v is there) knows does write stage there
    (logs_from b s is.logged) quiet log)

-- ---- a reference is taken into a register

-- a mutator that took a reference has nothing to record or store, whether it found nil or a name
taken_quiet : (v : ThreadState) (o : Op) (dest : ℕ) (p : Place) → IsQuiet (loaded_with v o dest p).stage
taken_quiet v o dest p =
    let held_view : ThreadState = record v { registers = slice_set v.registers dest p } in
    either_quiet (nat_eq p.0 0) (done_with held_view o (found_reply o None)) (at_stage held_view (Names p.0)) (after_quiet held_view o) tt

-- and its log is as it was
taken_log : (v : ThreadState) (o : Op) (dest : ℕ) (p : Place) → (loaded_with v o dest p).log ≡ v.log
taken_log v o dest p =
    let held_view : ThreadState = record v { registers = slice_set v.registers dest p } in
    either_log (nat_eq p.0 0) (done_with held_view o (found_reply o None)) (at_stage held_view (Names p.0)) v refl refl

-- ---- all events

-- each event, by what it may happen on
pub events_keep : RepliesAreSteps → BitsAndLogsAreKept
events_keep replies b s i v event.Stays is there may = is.logged
events_keep replies b s i v event.Obeys is there may =
    quiet_keeps b s i v (at_stage v (Through why.Asked)) s.tables is there (same_bits s.tables s.tables.heap s.tables.cursors) (in_quiet v Rests may.0 tt) tt refl
events_keep replies b s i v event.Begins is there may = quiet_keeps b s i v (intends v Plain) s.tables is there (same_bits s.tables s.tables.heap s.tables.cursors) (in_quiet v Rests may.stage tt) tt refl
events_keep replies b s i v event.BeginsBlock is there may =
    quiet_keeps b s i v (intends v NeedsBlock) s.tables is there (same_bits s.tables s.tables.heap s.tables.cursors) (in_quiet v Rests may.0.stage tt) tt refl
events_keep replies b s i v (event.Bumps from shape) is there may =
    quiet_keeps b s i v _ s.tables is there (same_bits s.tables s.tables.heap s.tables.cursors) (in_quiet v Rests may.begin.stage tt) tt refl
events_keep replies b s i v (event.DoesAtOnce o r registers) is there may =
    quiet_call b s i v (done_with (record v { registers = registers }) o r) o r s.tables s.at is there (same_bits s.tables s.tables.heap s.tables.cursors) (λ n h. refl)
    (replies b s i v (event.DoesAtOnce o r registers) is there may) (at_once_none v o r registers may.replies) (in_quiet v Rests may.begin.stage tt) (after_quiet v o) refl
events_keep replies b s i v (event.FindsReference place index) is there may =
    quiet_keeps b s i v (intends v (AtReference place index)) s.tables is there (same_bits s.tables s.tables.heap s.tables.cursors) (in_quiet v (Works Plain) may.reads.stage tt) tt refl
events_keep replies b s i v (event.FindsValue place refs index) is there may =
    quiet_keeps b s i v (intends v (AtValue place refs index)) s.tables is there (same_bits s.tables s.tables.heap s.tables.cursors) (in_quiet v (Works Plain) may.reads.stage tt) tt refl
events_keep replies b s i v (event.FindsNone o) is there may =
    quiet_call b s i v (done_with v o reply.Range) o reply.Range s.tables s.at is there (same_bits s.tables s.tables.heap s.tables.cursors) (λ n h. refl)
    (replies b s i v (event.FindsNone o) is there may) tt (in_quiet v (Works Plain) may.reads.stage tt) (after_quiet v o) refl
events_keep replies b s i v (event.LoadsReference o dest place index) is there may =
    let p : Place = place_in (s.tables.heap (field_word place index)) in
    let takes = replies b s i v (event.LoadsReference o dest place index) is there may in
    quiet_call b s i v (loaded_with v o dest p) o (found_reply o takes.found) s.tables s.at is there (same_bits s.tables s.tables.heap s.tables.cursors) (λ n h. refl)
    takes.replies (subst (λ z. WritesNone (found_reply z takes.found)) (sym may.loads.1) tt) (in_quiet v (Works (AtReference place index)) may.stage tt)
    (taken_quiet v o dest p) (taken_log v o dest p)
events_keep replies b s i v (event.TellsName o n) is there may =
    quiet_keeps b s i v (done_with v o (found_reply o (Some n))) s.tables is there (same_bits s.tables s.tables.heap s.tables.cursors) (in_quiet v (Names may.place) may.stage tt) (after_quiet v o) refl
events_keep replies b s i v (event.GetsValue o place refs index) is there may =
    let r : Reply = reply.Got (s.tables.heap (value_word place refs index)) in
    quiet_call b s i v (done_with v o r) o r s.tables s.at is there (same_bits s.tables s.tables.heap s.tables.cursors) (λ n h. refl)
    (replies b s i v (event.GetsValue o place refs index) is there may) tt (in_quiet v (Works (AtValue place refs index)) may.stage tt) (after_quiet v o) refl
events_keep replies b s i v (event.PutsValue o place refs index value) is there may =
    quiet_call b s i v (done_with v o reply.Put) o reply.Put (with_heap s.tables (value_word place refs index) value) s.at is there (same_bits s.tables _ s.tables.cursors) (λ n h. refl)
    (replies b s i v (event.PutsValue o place refs index value) is there may) tt (in_quiet v (Works (AtValue place refs index)) may.stage tt) (after_quiet v o) refl
events_keep replies b s i v (event.AddsValue o place refs index value) is there may =
    let at : ℕ = value_word place refs index in
    let r : Reply = reply.Added (s.tables.heap at) in
    quiet_call b s i v (done_with v o r) o r (with_heap s.tables at ((s.tables.heap at + value) % 2 ^ 64)) s.at is there (same_bits s.tables _ s.tables.cursors) (λ n h. refl)
    (replies b s i v (event.AddsValue o place refs index value) is there may) tt (in_quiet v (Works (AtValue place refs index)) may.stage tt) (after_quiet v o) refl
events_keep replies b s i v (event.SeesClear place index) is there may =
    let knows : KnowsReference (moment_of b s) s.at v place index = known b s i v (Works (AtReference place index)) is there may.stage in
    sees_clear b s i v place index is there knows.stands may.clear (λ n k stage. quiet_clears v.stage (Stores (s.at n) k) (in_quiet v (Works (AtReference place index)) may.stage tt) stage (λ z. z))
events_keep replies b s i v (event.SeesFull place index) is there may =
    quiet_keeps b s i v (intends v (GivesUp why.LogFull)) s.tables is there (same_bits s.tables s.tables.heap s.tables.cursors) (in_quiet v (Works (AtReference place index)) may.stage tt) tt refl
events_keep replies b s i v (event.LoadsOld place index) is there may = loads_old b s i v place index is there may
events_keep replies b s i v (event.ClearsFirst e n) is there may = clears_first b s i v e n is there may
events_keep replies b s i v (event.ClearsLate e) is there may =
    let knows : KnowsReference (moment_of b s) s.at v e.place.0 e.index = known b s i v (Works (Clears e)) is there may.stage in
    sees_clear b s i v e.place.0 e.index is there knows.stands may.unlogged (λ n k stage. clear_no_store e (s.at n) k (sym may.stage ∙ stage))
events_keep replies b s i v (event.StoresReference o place index value) is there may =
    let replied = replies b s i v (event.StoresReference o place index value) is there may in
    writes_reference b s i v (done_with v o reply.Stored) o place index value may.base index is there may.stage may.does (store_writes o (step (moment_of b s).state v.thread o).1 may.base index may.source may.stores replied) (after_quiet v o) refl
events_keep replies b s i v (event.SwapsReference o dest place index value) is there may =
    let p : Place = place_in (s.tables.heap (field_word place index)) in
    let takes = replies b s i v (event.SwapsReference o dest place index value) is there may in
    let replied = takes.replies ∙ ap (λ z. found_reply z takes.found) may.swaps in
    writes_reference b s i v (loaded_with v o dest p) o place index value may.base index is there may.stage may.does
    (swap_writes o (step (moment_of b s).state v.thread o).1 dest may.base index may.source takes.found may.swaps replied) (taken_quiet v o dest p) (taken_log v o dest p)
events_keep replies b s i v event.DrawsRun is there may =
    quiet_keeps b s i v (intends v (DrewRun (s.tables.cursors RUN_CURSOR))) (with_cursor s.tables RUN_CURSOR (s.tables.cursors RUN_CURSOR + 1)) is there (same_bits s.tables s.tables.heap _) (in_quiet v (Works Plain) may.stage tt) tt refl
events_keep replies b s i v event.MissesRun is there may =
    quiet_keeps b s i v (intends v NeedsBlock) s.tables is there (same_bits s.tables s.tables.heap s.tables.cursors) (in_quiet v (Works (DrewRun may.number)) may.stage tt) tt refl
events_keep replies b s i v (event.SeesRun number) is there may =
    quiet_keeps b s i v (intends v (HasRun number)) s.tables is there (same_bits s.tables s.tables.heap s.tables.cursors) (in_quiet v (Works (DrewRun number)) may.stage tt) tt refl
events_keep replies b s i v (event.TakesRun r shape) is there may =
    quiet_keeps b s i v _ s.tables is there (same_bits s.tables s.tables.heap s.tables.cursors) (in_quiet v (Works (HasRun may.number)) may.stage tt) tt refl
events_keep replies b s i v event.DrawsBlock is there may =
    quiet_keeps b s i v (intends v (DrewBlock (s.tables.cursors FREE_BLOCK_CURSOR))) (with_cursor s.tables FREE_BLOCK_CURSOR (s.tables.cursors FREE_BLOCK_CURSOR + 1)) is there (same_bits s.tables s.tables.heap _) (in_quiet v (Works NeedsBlock) may.0 tt) tt refl
events_keep replies b s i v event.MissesBlock is there may =
    quiet_keeps b s i v (intends v (GivesUp why.NoRun)) s.tables is there (same_bits s.tables s.tables.heap s.tables.cursors) (in_quiet v (Works (DrewBlock may.number)) may.stage tt) tt refl
events_keep replies b s i v (event.SeesBlock number) is there may =
    quiet_keeps b s i v (intends v (HasBlock number)) s.tables is there (same_bits s.tables s.tables.heap s.tables.cursors) (in_quiet v (Works (DrewBlock number)) may.stage tt) tt refl
events_keep replies b s i v (event.TakesBlock block shape) is there may =
    quiet_keeps b s i v _ s.tables is there (same_bits s.tables s.tables.heap s.tables.cursors) (in_quiet v (Works (HasBlock may.number)) may.stage tt) tt refl
events_keep replies b s i v (event.Wipes place shape wiped) is there may =
    quiet_keeps b s i v (intends v (Makes place shape (wiped + 1))) (with_heap s.tables (first_word place + 1 + wiped) 0) is there (same_bits s.tables _ s.tables.cursors)
    (in_quiet v (Works (Makes place shape wiped)) may.stage tt) tt refl
events_keep replies b s i v (event.MakesObject o dest place shape) is there may =
    let m : Moment = moment_of b s in
    let name : Name = next_name m.state.graph v.thread in
    let held_view : ThreadState = record v { registers = slice_set v.registers dest (record { 0 = place }) } in
    quiet_call b s i v (done_with held_view o (reply.New name)) o (reply.New name) (with_heap s.tables (first_word place) (header_word name shape)) (placed s.at name place) is there
    (same_bits s.tables _ s.tables.cursors) (places_keep m s.at v.thread place is.lives) (replies b s i v (event.MakesObject o dest place shape) is there may) tt
    (in_quiet v (Works (Makes place shape may.wiped)) may.stage tt) (after_quiet held_view o) refl
events_keep replies b s i v (event.Asks o r) is there may =
    quiet_call b s i v (done_with v o r) o r (with_cursor s.tables PAUSE_WORD 1) s.at is there (same_bits s.tables s.tables.heap _) (λ n h. refl)
    (replies b s i v (event.Asks o r) is there may) (asked_none o r may.asks) (in_quiet v (Works Plain) may.stage tt) (after_quiet v o) refl
events_keep replies b s i v (event.Leaves reason) is there may =
    quiet_keeps b s i v (at_stage v (Through reason)) (with_cursor s.tables PAUSE_WORD 1) is there (same_bits s.tables s.tables.heap _) (in_quiet v (Works (GivesUp reason)) may tt) tt refl
