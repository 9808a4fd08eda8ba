-- A trace that runs goes on as an epoch closes: lines that are handed out change neither marks nor grays nor dones, blocks that were Chosen are,
-- and no unreclaimed object overlaps a line that is handed out, so that entries of its fields stay current.
use Rattle.std.proofs.Common.{◌≡◌, ℕ, ◌+◌, ◌*◌, ◌/◌, ◌-◌, ◌<◌, ◌≤◌, refl, sym, ap, subst, ◌∙◌, inl, inr, ◌⊎◌, arith, Bool, true, false, List, length}
use Rattle.std.specs.Prelude.{Option, Some, None, IsTrue}
use Rattle.std.proofs.lemmas.Option.{slice_get_within}
use Rattle.lxr_layout.specs.declared.TheConstants.{GRANULES_IN_BLOCK, GRANULES_IN_LINE, REMEMBERED_CURSOR, WORDS_IN_LINE}
use Rattle.lxr_layout.specs.declared.limits.Limits.{Limits}
use Rattle.lxr_layout.specs.declared.LogEntry.{LogEntry}
use Rattle.lxr_layout.specs.declared.Name.{Name}
use Rattle.lxr_layout.specs.declared.Place.{Place}
use Rattle.lxr_layout.specs.Runs.{word_of_entry}
use Rattle.lxr_graph.specs.Names.{has}
use Rattle.lxr_graph.specs.State.{Graph, Object, object_at, refs_of}
use Rattle.lxr_image.specs.Tables.{Tables}
use Rattle.lxr_image.specs.Reads.{granule_of}
use Rattle.lxr_image.specs.Image.{IsImage, granules_of}
use Rattle.lxr_image.proofs.ImageLemmas.{words_cover, words_even}
use Rattle.lxr_blocks.specs.States.{KeepsState, is_fixed, state_of}
use Rattle.lxr_model.specs.Moments.{Moment, Trace, rememberable}
use Rattle.lxr_invariant.specs.AbstractState.{members}
use Rattle.lxr_invariant.specs.Lines.{Covers}
use Rattle.lxr_invariant.specs.Standing.{word_of_field}
use Rattle.lxr_invariant.specs.Tracing.{HandledAreGray, HasOverflowed, IsCovered, IsEntryWord, IsInChosen, IsRemembered, IsRememberedSoFar, IsScanned, IsToBeScanned, IsTracedBy, MarksStayInside, SnapshotIsCovered, StaysGarbage, TraceHolds, most_remembered, unscanned_slots}
use Rattle.lxr_invariant.proofs.NameLemmas.{in_first}
use Rattle.lxr_core_invariant.specs.EpochStates.{Beginning, EpochState, limits_of, moment_of, opening_tables}
use Rattle.lxr_core_invariant.specs.Logged.{logs_of}
use Rattle.lxr_core_invariant.specs.Epoch.{IsEpoch}
use Rattle.lxr_core_invariant.proofs.PauseLemmas.{HaveOnePause, one_pause}
use Rattle.lxr_core_close.specs.Safepoint.{HasClosingTrace, closed_state}

-- ---- lines that are handed out

module _ (t : Tables) (outs : ℕ → Bool) (reuse states : ℕ → ℕ) (m : Moment) (at : Name → ℕ) (entries : List LogEntry) (trace : Trace) where
  -- the tables with other lines out
  abbrev handed : Tables
  handed = record t { outs = outs; reuse = reuse; states = states }

  scanned_later : (u v : Name) (i : ℕ) → IsCovered t m at entries v ⊎ IsToBeScanned t m at u i v → IsCovered handed m at entries v ⊎ IsToBeScanned handed m at u i v
  scanned_later u v i (inl covered) = inl covered
  scanned_later u v i (inr is) = inr (record { member = is.member; unmarked = is.unmarked; undone = is.undone; holds = is.holds })

  covered_later : SnapshotIsCovered t m at entries trace → SnapshotIsCovered handed m at entries trace
  covered_later is = record {
    world = is.world;
    registers = is.registers;
    references = λ u v i reached holds. scanned_later u v i (is.references u v i reached holds);
  }

  garbage_later : (n : Name) → StaysGarbage t m at trace n → StaysGarbage handed m at trace n
  garbage_later n is = record { member = is.member; dropped = is.dropped; undone = is.undone; references = is.references; referred = is.referred }

  inside_later : MarksStayInside t m at trace → MarksStayInside handed m at trace
  inside_later is = record {
    marks = is.marks;
    grays = is.grays;
    dones = is.dones;
    members = is.members;
    referred = is.referred;
    garbage = λ n dropped. garbage_later n (is.garbage n dropped);
  }

-- ---- the remembered set

-- the lines of these objects have the reuse counters that they had
abbrev pub KeepReuse : Tables → Tables → Graph → (Name → ℕ) → List Name → Type 0
KeepReuse t u g at us = (n : Name) (o : Object) (k : ℕ) → IsTrue (has us n) → Covers g at n o k → u.reuse (k / GRANULES_IN_LINE) ≡ t.reuse (k / GRANULES_IN_LINE)

-- the granule of a reference's word is one of the object, and its line that of the word
field_granule : (p i refs values words granules : ℕ) → 1 ≤ p → i < refs → 1 + refs + values ≤ words → words ≡ 2 * granules → (p - 1 ≤ (2 * (p - 1) + 1 + i) / 2) × ((2 * (p - 1) + 1 + i) / 2 < p - 1 + granules)
field_granule p i refs values words granules some within cover even = (omega (arith, some), omega (arith, some, within, cover, even))

field_line : (w : ℕ) → w / 2 / 16 ≡ w / 32
field_line w = omega arith

module _ (l : Limits) (t u : Tables) (blocks : ℕ) (m : Moment) (at : Name → ℕ) (trace : Trace) (rest : u ≡ record t { outs = u.outs; reuse = u.reuse; states = u.states })
    (image : IsImage t blocks at m.state.graph (members m)) (reuse : KeepReuse t u m.state.graph at m.unreclaimed) (states : (b : ℕ) → KeepsState t u b) where
  -- the line of an unreclaimed object's reference has the counter that it had
  counter_stays : (n : Name) (i : ℕ) → IsTrue (has m.unreclaimed n) → i < length (refs_of (object_at m.state.graph n)) → u.reuse (word_of_field at n i / WORDS_IN_LINE) ≡ t.reuse (word_of_field at n i / WORDS_IN_LINE)
  counter_stays n i member within =
      let x = image.stands n (in_first m.unreclaimed m.made n member) in
      let o : Object = x.0 in
      let few : i < length o.refs = subst (λ z. i < length (refs_of z)) x.1 within in
      let granule = field_granule (at n) i (length o.refs) (length o.values) _ (granules_of o) x.2.placed few (words_cover o) (words_even o) in
      subst (λ line. u.reuse line ≡ t.reuse line) (field_line (word_of_field at n i)) (reuse n o (word_of_field at n i / 2) member (record { object = x.1; first = granule.0; behind = granule.1 }))

  cursor_stays : u.cursors REMEMBERED_CURSOR ≡ t.cursors REMEMBERED_CURSOR
  cursor_stays = ap (λ (z : Tables). z.cursors REMEMBERED_CURSOR) rest

  -- an entry stays current
  entry_stays : (n : Name) (i : ℕ) → IsTrue (has m.unreclaimed n) → i < length (refs_of (object_at m.state.graph n)) → IsRemembered l t at n i ⊎ HasOverflowed l t → IsRemembered l u at n i ⊎ HasOverflowed l u
  entry_stays n i member within (inl (k, drawn, room, word)) = inl (
    k,
    subst (λ z. k < z) (sym cursor_stays) drawn,
    room,
    ap (λ (z : Tables). z.remembered k) rest ∙ word ∙ ap (λ c. word_of_entry l.blocks c (record { 0 = at n }) i) (sym (counter_stays n i member within)),
  )
  entry_stays n i member within (inr over) = inr (subst (λ z. l.remember < z) (sym cursor_stays) over)

  -- a block is Chosen only where it was
  chosen_before : (n : Name) → IsInChosen u at n → IsInChosen t at n
  chosen_before n chosen =
      let block : ℕ = granule_of (at n) / GRANULES_IN_BLOCK in
      elim (states block) [
        | inl same ↦ sym (ap state_of same) ∙ chosen
        | inr (was, now) ↦ absurd (let k : true ≡ false = ap is_fixed (sym chosen) ∙ now in cc)
      ]

  marks_stay : u.marks ≡ t.marks
  marks_stay = ap (λ (z : Tables). z.marks) rest

  scanned_before : (n : Name) → IsScanned u at trace n → IsScanned t at trace n
  scanned_before n (inl marked) = inl (ap (λ f. f (granule_of (at n))) (sym marks_stay) ∙ marked)
  scanned_before n (inr promoted) = inr promoted

  -- so all stays remembered
  remembered_later : (snapshot : List Name) → IsRememberedSoFar l t m at trace snapshot → IsRememberedSoFar l u m at trace snapshot
  remembered_later snapshot is = record {
    fields = λ n v i member scanned holds unlogged chosen.
        entry_stays n i member (slice_get_within (refs_of (object_at m.state.graph n)) i (Some v) holds)
        (is.fields n v i member (scanned_before n scanned) holds (ap (λ (z : Tables). z.unlogged (word_of_field at n i)) (sym rest) ∙ unlogged) (chosen_before v chosen));
    entries = λ k below within.
        subst (λ word. (c : ℕ) × (p : Place) × (i : ℕ) × IsEntryWord l word c p i) (ap (λ (z : Tables). z.remembered k) (sym rest)) (is.entries k (subst (λ z. k < z) cursor_stays below) within);
    bound = subst (λ (z : Tables). z.cursors REMEMBERED_CURSOR + unscanned_slots z m at snapshot ≤ rememberable trace snapshot) (sym rest) is.bound;
  }

-- ---- the trace that runs

module _ (b : Beginning) (s : EpochState) (u : Tables) (is : IsEpoch b s) (closing : HasClosingTrace b s) (rest : u ≡ record s.tables { outs = u.outs; reuse = u.reuse; states = u.states })
    (reuse : KeepReuse s.tables u (moment_of b s).state.graph s.at (moment_of b s).unreclaimed) (states : (n : ℕ) → KeepsState s.tables u n) where
  abbrev m : Moment
  m = moment_of b s

  abbrev entries : List LogEntry
  entries = logs_of s.thread_states

  one : HaveOnePause b.abstract_state.moment m
  one = one_pause b s is

  trace_closes : (trace : Trace) → m.trace ≡ Some trace → TraceHolds (limits_of b) u entries (closed_state b s) trace
  trace_closes trace runs =
      let covers = closing.covers trace runs in
      let began : TraceHolds (limits_of b) (opening_tables b) b.space.logged.items b.abstract_state trace =
      subst (IsTracedBy (limits_of b) (opening_tables b) b.space.logged.items b.abstract_state) (sym one.trace ∙ runs) is.begins.between.safepoint.traced in
      record {
        snapshot = began.snapshot;
        reachable = began.reachable;
        covered = subst (λ z. SnapshotIsCovered z m s.at entries trace) (sym rest) (covered_later s.tables u.outs u.reuse u.states m s.at entries trace covers.covered);
        inside = subst (λ z. MarksStayInside z m s.at trace) (sym rest) (inside_later s.tables u.outs u.reuse u.states m s.at entries trace (closing.inside trace runs));
        handled = subst (λ z. HandledAreGray z m s.at) (sym rest) covers.handled;
        remembered = remembered_later (limits_of b) s.tables u (limits_of b).blocks m s.at trace rest is.image.placed.image reuse states began.snapshot (closing.remembered trace began.snapshot runs began.reachable);
        few = subst (λ z. rememberable trace began.snapshot ≤ most_remembered (limits_of b) * (z + 1)) (sym one.number) began.few;
      }

  traced_so_far : (trace : Option Trace) → m.trace ≡ trace → IsTracedBy (limits_of b) u entries (closed_state b s) trace
  traced_so_far None runs = tt
  traced_so_far (Some trace) runs = trace_closes trace runs

  -- what is asked of it holds at the safepoint
  pub traced_closes : IsTracedBy (limits_of b) u entries (closed_state b s) m.trace
  traced_closes = traced_so_far m.trace refl
