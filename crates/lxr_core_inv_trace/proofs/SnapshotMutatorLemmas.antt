-- Each event of a mutator keeps the snapshot covered, where a trace runs.
use Rattle.std.proofs.Common.{◌≡◌, ℕ, refl, sym, ap, subst, ◌∙◌, inl, inr, Bool, true, false, cond, [], ◌∷◌, IsTrue, nat_eq}
use Rattle.std.specs.Prelude.{Some, None, slice_get, slice_set, if◌then◌else◌}
use Rattle.lxr_layout.specs.declared.LogEntry.{LogEntry}
use Rattle.lxr_layout.specs.declared.Name.{Name}
use Rattle.lxr_layout.specs.declared.Place.{Place}
use Rattle.lxr_layout.specs.Places.{field_word, place_in}
use Rattle.lxr_base.specs.Roomy.{pushed}
use Rattle.lxr_graph.specs.declared.Op.{Op}
use Rattle.lxr_graph.specs.declared.Op.TheVariants as op
use Rattle.lxr_graph.specs.declared.Reply.{Reply}
use Rattle.lxr_graph.specs.Names.{has, same_name}
use Rattle.lxr_graph.specs.State.{State, next_name, object_at}
use Rattle.lxr_graph.specs.Step.{state_after, step}
use Rattle.lxr_graph.proofs.NameSets.{same_names}
use Rattle.lxr_graph.proofs.RowLemmas.{next_none}
use Rattle.lxr_image.specs.Tables.{Tables}
use Rattle.lxr_image.specs.ImageLaws.{placed}
use Rattle.lxr_model.specs.Moments.{Moment, made_after, written_after}
use Rattle.lxr_model_counting.specs.Following.{FollowsPause}
use Rattle.lxr_invariant.specs.Tracing.{IsOldValue}
use Rattle.lxr_core_invariant.specs.ThreadStates.{ThreadState, Names, Stores}
use Rattle.lxr_core_invariant.specs.EpochStates.{Beginning, EpochState, moment_of}
use Rattle.lxr_core_invariant.specs.Events.{Event, done_with, found_reply}
use Rattle.lxr_core_invariant.specs.Events as event
use Rattle.lxr_core_invariant.specs.Happening.{MayClearFirst, asked_by, at_stage, happen, intends, loaded_with, shows, stands}
use Rattle.lxr_core_invariant.specs.Logged.{logs_of}
use Rattle.lxr_core_invariant.specs.Covered.{SnapshotIsCoveredIn}
use Rattle.lxr_core_invariant.specs.Epoch.{IsEpoch}
use Rattle.lxr_core_invariant.specs.Laws.{CoverIsKept}
use Rattle.lxr_core_inv_trace.proofs.SnapshotHelperLemmas.{while_runs}
use Rattle.lxr_core_inv_trace.proofs.SnapshotOldLemmas.{old_joins, old_left, old_stays}
use Rattle.lxr_core_inv_trace.proofs.SnapshotTurnLemmas.{turn_keeps_cover}
use Rattle.lxr_core_inv_trace.proofs.SnapshotStoreLemmas.{IsWaiting, WritesTo, at_once_never, call_leaves, clears_logs, none_never, store_never, swap_never}

-- ---- kinds of events

-- an event by which no operation comes to stand in the history, and no bit is cleared
shows_covers : (b : Beginning) (s : EpochState) (i : ℕ) (v w : ThreadState) (heap cursors : ℕ → ℕ) → IsEpoch b s → slice_get s.thread_states i ≡ Some v → w.log ≡ v.log
    → SnapshotIsCoveredIn b (record (shows s i w) { tables = record s.tables { heap = heap; cursors = cursors } })
shows_covers b s i v w heap cursors is shown log =
    let m : Moment = moment_of b s in
    let u : Tables = record s.tables { heap = heap; cursors = cursors } in
    while_runs b s (record (shows s i w) { tables = u }) m.trace
    (λ trace runs. turn_keeps_cover s.tables u m m.state m.made m.written s.at s.at (logs_of s.thread_states) (logs_of (slice_set s.thread_states i w)) s.decrementers s.tracers is.lives
    (record {
      marks = refl;
      grays = refl;
      dones = refl;
      places = λ n h. refl;
      old = λ p. old_stays s.thread_states i v w p shown (λ old. subst (λ z. IsOldValue z.items p) (sym log) old);
      waits = λ n o k h bit holds. inl (bit, holds);
    }) trace)
    is.covered

-- an event by which an operation comes to stand in the history
call_covers : (b : Beginning) (s : EpochState) (i : ℕ) (v w : ThreadState) (o : Op) (heap cursors : ℕ → ℕ) (to : Name → ℕ) → (is : IsEpoch b s) → (shown : slice_get s.thread_states i ≡ Some v) → w.log ≡ v.log
    → ((n : Name) → IsTrue (has (moment_of b s).unreclaimed n) → to n ≡ s.at n)
    → ((n p : Name) (k : ℕ) → IsWaiting b s i v is shown n p k → WritesTo (moment_of b s).state v.thread o n k → ⊥)
    → SnapshotIsCoveredIn b (record (stands b s i v o w (record s.tables { heap = heap; cursors = cursors })) { at = to })
call_covers b s i v w o heap cursors to is shown log places never =
    let m : Moment = moment_of b s in
    let r : Reply = (step m.state v.thread o).1 in
    let u : Tables = record s.tables { heap = heap; cursors = cursors } in
    while_runs b s (record (stands b s i v o w u) { at = to }) m.trace
    (λ trace runs. turn_keeps_cover s.tables u m (state_after m.state v.thread o r) (made_after m.made r) (written_after m v.thread o r) s.at to (logs_of s.thread_states) (logs_of (slice_set s.thread_states i w))
    s.decrementers s.tracers is.lives
    (record {
      marks = refl;
      grays = refl;
      dones = refl;
      places = places;
      old = λ p. old_stays s.thread_states i v w p shown (λ old. subst (λ z. IsOldValue z.items p) (sym log) old);
      waits = λ n p k h bit holds. let waits : IsWaiting b s i v is shown n p k = record { member = h; unlogged = bit; holds = holds } in inl (bit, call_leaves b s i v is shown o n p k waits (never n p k waits));
    }) trace)
    is.covered

-- the mutator clears a bit that was set
clears_covers : (b : Beginning) (s : EpochState) (i : ℕ) (v : ThreadState) (e : LogEntry) (n : Name) → IsEpoch b s → slice_get s.thread_states i ≡ Some v → MayClearFirst b s v e n
    → SnapshotIsCoveredIn b (happen b s i v (event.ClearsFirst e n))
clears_covers b s i v e n is shown may =
    let m : Moment = moment_of b s in
    let w : ThreadState = intends (record v { log = pushed v.log e }) (Stores e.place.0 e.index) in
    let after : EpochState = happen b s i v (event.ClearsFirst e n) in
    while_runs b s after m.trace
    (λ trace runs. turn_keeps_cover s.tables after.tables m m.state m.made m.written s.at s.at (logs_of s.thread_states) (logs_of (slice_set s.thread_states i w)) s.decrementers s.tracers is.lives
    (record {
      marks = refl;
      grays = refl;
      dones = refl;
      places = λ q h. refl;
      old = λ p. old_stays s.thread_states i v w p shown (old_left v.log.items (e ∷ []) p);
      waits = λ q o k h bit holds. elim (clears_logs b s i v is shown e n w may refl q o k (record { member = h; unlogged = bit; holds = holds })) [
        | inl still ↦ inl (still, holds)
        | inr old ↦ inr (old_joins s.thread_states i v w (s.at o) shown old)
      ];
    }) trace)
    is.covered

-- ---- nothing is written

-- an operation that is another than a store or a swap
other_never : (st : State) (t : ℕ) (o q : Op) (n : Name) (k : ℕ) → o ≡ q → (WritesTo st t q n k → ⊥) → WritesTo st t o n k → ⊥
other_never st t o q n k same other writes = other (subst (λ z. WritesTo st t z n k) same writes)

-- who asks for a pause writes nothing
asked_never : (st : State) (t : ℕ) (o : Op) (r : Reply) (n : Name) (k : ℕ) → asked_by o ≡ Some r → WritesTo st t o n k → ⊥
asked_never st t (op.Store base index source) r n k asks writes = cc
asked_never st t (op.Swap dest base index source) r n k asks writes = cc
asked_never st t o r n k asks writes = writes

-- an unreclaimed object keeps its place where the next name gets one
places_stay : (m : Moment) (at : Name → ℕ) (t p : ℕ) → FollowsPause m → (n : Name) → IsTrue (has m.unreclaimed n) → placed at (next_name m.state.graph t) p n ≡ at n
places_stay m at t p follows n member = elim (same_name n (next_name m.state.graph t)) as (λ b. same_name n (next_name m.state.graph t) ≡ b → cond b p (at n) ≡ at n) [
  | true ↦ λ k.
      let old = follows.objects n member in
      let none : None ≡ Some old.1 = sym (next_none m.state.graph t) ∙ ap (object_at m.state.graph) (sym (same_names n (next_name m.state.graph t) k)) ∙ old.3 in
      absurd (cc)
  | false ↦ λ k. refl
] refl

-- the log is as it was where a load or a swap found nil and where it found a name
either_log : (nil : Bool) (x y v : ThreadState) → x.log ≡ v.log → y.log ≡ v.log → (if nil then x else y).log ≡ v.log
either_log true x y v h k = h
either_log false x y v h k = k

taken_log : (v : ThreadState) (o : Op) (dest : ℕ) (p : Place) → (loaded_with v o dest p).log ≡ v.log
taken_log v o dest p =
    let held : ThreadState = record v { registers = slice_set v.registers dest p } in
    either_log (nat_eq p.0 0) (done_with held o (found_reply o None)) (at_stage held (Names p.0)) v refl refl

-- ---- all events

module _ (b : Beginning) (s : EpochState) (i : ℕ) (v : ThreadState) (is : IsEpoch b s) (shown : slice_get s.thread_states i ≡ Some v) where
  -- an event that changes no table
  quiet : (w : ThreadState) → w.log ≡ v.log → SnapshotIsCoveredIn b (shows s i w)
  quiet w log = shows_covers b s i v w s.tables.heap s.tables.cursors is shown log

  -- one that changes a cursor
  draws : (w : ThreadState) (cursors : ℕ → ℕ) → w.log ≡ v.log → SnapshotIsCoveredIn b (record (shows s i w) { tables = record s.tables { cursors = cursors } })
  draws w cursors log = shows_covers b s i v w s.tables.heap cursors is shown log

  -- an operation that changes no table
  call : (w : ThreadState) (o : Op) → w.log ≡ v.log → ((n p : Name) (k : ℕ) → IsWaiting b s i v is shown n p k → WritesTo (moment_of b s).state v.thread o n k → ⊥) → SnapshotIsCoveredIn b (stands b s i v o w s.tables)
  call w o log never = call_covers b s i v w o s.tables.heap s.tables.cursors s.at is shown log (λ n h. refl) never

pub cover_is_kept : CoverIsKept
cover_is_kept b s i v event.Stays is shown may = is.covered
cover_is_kept b s i v event.Obeys is shown may = quiet b s i v is shown _ refl
cover_is_kept b s i v event.Begins is shown may = quiet b s i v is shown _ refl
cover_is_kept b s i v event.BeginsBlock is shown may = quiet b s i v is shown _ refl
cover_is_kept b s i v (event.Bumps from shape) is shown may = quiet b s i v is shown _ refl
cover_is_kept b s i v (event.DoesAtOnce o r registers) is shown may = call b s i v is shown _ o refl (λ n p k waits. at_once_never b s i v is shown o r registers may n k)
cover_is_kept b s i v (event.FindsReference place index) is shown may = quiet b s i v is shown _ refl
cover_is_kept b s i v (event.FindsValue place refs index) is shown may = quiet b s i v is shown _ refl
cover_is_kept b s i v (event.FindsNone o) is shown may = call b s i v is shown _ o refl (none_never b s i v is shown o may)
cover_is_kept b s i v (event.LoadsReference o dest place index) is shown may =
    let p : Place = place_in (s.tables.heap (field_word place index)) in
    call b s i v is shown (loaded_with v o dest p) o (taken_log v o dest p)
    (λ n q k waits. other_never (moment_of b s).state v.thread o (op.Load dest may.loads.0 index) n k may.loads.1 (λ w. w))
cover_is_kept b s i v (event.TellsName o n) is shown may = quiet b s i v is shown _ refl
cover_is_kept b s i v (event.GetsValue o place refs index) is shown may =
    call b s i v is shown _ o refl (λ n q k waits. other_never (moment_of b s).state v.thread o (op.Get may.gets.0 index) n k may.gets.1 (λ w. w))
cover_is_kept b s i v (event.PutsValue o place refs index value) is shown may =
    call_covers b s i v _ o _ s.tables.cursors s.at is shown refl (λ n h. refl) (λ n q k waits. other_never (moment_of b s).state v.thread o (op.Put may.puts.0 index value) n k may.puts.1 (λ w. w))
cover_is_kept b s i v (event.AddsValue o place refs index value) is shown may =
    call_covers b s i v _ o _ s.tables.cursors s.at is shown refl (λ n h. refl) (λ n q k waits. other_never (moment_of b s).state v.thread o (op.Add may.adds.0 index value) n k may.adds.1 (λ w. w))
cover_is_kept b s i v (event.SeesClear place index) is shown may = quiet b s i v is shown _ refl
cover_is_kept b s i v (event.SeesFull place index) is shown may = quiet b s i v is shown _ refl
cover_is_kept b s i v (event.LoadsOld place index) is shown may = quiet b s i v is shown _ refl
cover_is_kept b s i v (event.ClearsFirst e n) is shown may = clears_covers b s i v e n is shown may
cover_is_kept b s i v (event.ClearsLate e) is shown may = quiet b s i v is shown _ refl
cover_is_kept b s i v (event.StoresReference o place index value) is shown may = call_covers b s i v _ o _ s.tables.cursors s.at is shown refl (λ n h. refl) (store_never b s i v is shown o place index value may)
cover_is_kept b s i v (event.SwapsReference o dest place index value) is shown may =
    let p : Place = place_in (s.tables.heap (field_word place index)) in
    call_covers b s i v (loaded_with v o dest p) o _ s.tables.cursors s.at is shown (taken_log v o dest p) (λ n h. refl) (swap_never b s i v is shown o dest place index value may)
cover_is_kept b s i v event.DrawsRun is shown may = draws b s i v is shown _ _ refl
cover_is_kept b s i v event.MissesRun is shown may = quiet b s i v is shown _ refl
cover_is_kept b s i v (event.SeesRun number) is shown may = quiet b s i v is shown _ refl
cover_is_kept b s i v (event.TakesRun r shape) is shown may = quiet b s i v is shown _ refl
cover_is_kept b s i v event.DrawsBlock is shown may = draws b s i v is shown _ _ refl
cover_is_kept b s i v event.MissesBlock is shown may = quiet b s i v is shown _ refl
cover_is_kept b s i v (event.SeesBlock number) is shown may = quiet b s i v is shown _ refl
cover_is_kept b s i v (event.TakesBlock block shape) is shown may = quiet b s i v is shown _ refl
cover_is_kept b s i v (event.Wipes place shape wiped) is shown may = shows_covers b s i v _ _ s.tables.cursors is shown refl
cover_is_kept b s i v (event.MakesObject o dest place shape) is shown may =
    call_covers b s i v _ o _ s.tables.cursors _ is shown refl (places_stay (moment_of b s) s.at v.thread place is.lives)
    (λ n q k waits. other_never (moment_of b s).state v.thread o (op.New dest shape) n k may.makes (λ w. w))
cover_is_kept b s i v (event.Asks o r) is shown may =
    call_covers b s i v _ o s.tables.heap _ s.at is shown refl (λ n h. refl) (λ n q k waits. asked_never (moment_of b s).state v.thread o r n k may.asks)
cover_is_kept b s i v (event.Leaves reason) is shown may = draws b s i v is shown _ _ refl
