-- A trace that runs goes on as an object is made between two epochs: unreclaimed objects stand where they did with the references
-- that they had, their bits stay, and so do the reuse counters of their lines and the blocks that are Chosen. The new object is neither
-- unreclaimed nor garbage.
use Rattle.std.proofs.Common.{◌≡◌, ℕ, ◌+◌, ◌-◌, ◌*◌, ◌/◌, ◌<◌, ◌≤◌, refl, sym, ap, subst, ◌∙◌, inl, inr, ◌⊎◌, arith, Bool, true, false, List, length}
use Rattle.std.specs.Prelude.{Option, Some, None, IsTrue, is_some, slice_get}
use Rattle.std.proofs.lemmas.Option.{slice_get_within}
use Rattle.lxr_layout.specs.declared.TheConstants.{GRANULES_IN_BLOCK, GRANULES_IN_LINE, WORDS_IN_LINE}
use Rattle.lxr_layout.specs.declared.limits.Limits.{Limits}
use Rattle.lxr_layout.specs.declared.LogEntry.{LogEntry}
use Rattle.lxr_layout.specs.declared.Name.{Name}
use Rattle.lxr_layout.specs.declared.Shape.{Shape}
use Rattle.lxr_layout.specs.Places.{field_word}
use Rattle.lxr_layout.specs.Runs.{word_of_entry}
use Rattle.lxr_graph.specs.Names.{has}
use Rattle.lxr_graph.specs.State.{object_at, refs_of, world_name}
use Rattle.lxr_graph.proofs.NameSets.{insert_cases}
use Rattle.lxr_image.specs.Tables.{Tables}
use Rattle.lxr_image.specs.Reads.{granule_of}
use Rattle.lxr_image.specs.Image.{IsImage, granules_of}
use Rattle.lxr_image.proofs.ImageLemmas.{words_cover, words_even}
use Rattle.lxr_blocks.specs.declared.states.BlockState.TheVariants.{Chosen}
use Rattle.lxr_blocks.specs.Lines.{is_free}
use Rattle.lxr_blocks.specs.States.{KeepsState, is_fixed, state_in, state_of}
use Rattle.lxr_model.specs.Moments.{Moment, Trace}
use Rattle.lxr_model.specs.Reachable.{Refers}
use Rattle.lxr_model_counting.specs.Following.{FollowsPause, IsLive}
use Rattle.lxr_invariant.specs.AbstractState.{AbstractState, members}
use Rattle.lxr_invariant.specs.Lines.{KeepLines}
use Rattle.lxr_invariant.specs.Standing.{word_of_field}
use Rattle.lxr_invariant.specs.Tracing.{HandledAreGray, HasOverflowed, IsCovered, IsGray, IsInChosen, IsInSnapshot, IsMarked, IsOldValue, IsRemembered, IsRememberedSoFar, IsScanned, IsToBeScanned, IsTracedBy, IsYounger, MarksStayInside, SnapshotIsCovered, StaysGarbage, TraceHolds}
use Rattle.lxr_invariant.proofs.MemberLemmas.{member_refers}
use Rattle.lxr_invariant.proofs.NameLemmas.{in_first}
use Rattle.lxr_invariant.proofs.ScanLemmas.{fewer_later}
use Rattle.lxr_placing.proofs.NewLemmas.{IsBeside, moment_then, new_name, places_then}

-- the granule of a reference's word is one of the object, and its line that of the word
granule_of_field : (p i refs values words granules : ℕ) → 1 ≤ p → i < refs → 1 + refs + values ≤ words → words ≡ 2 * granules → (p - 1 ≤ field_word p i / 2) × (field_word p i / 2 < p - 1 + granules)
granule_of_field p i refs values words granules some within cover even = (omega (arith, some), omega (arith, some, within, cover, even))

line_of_word : (w : ℕ) → w / 2 / GRANULES_IN_LINE ≡ w / WORDS_IN_LINE
line_of_word w = omega arith

-- An object is made for a thread at a place: each block keeps its state, none of the others' objects moves, and a line that isn't free is
-- handed out no more often.
module _ (t : Tables) (heap : ℕ → ℕ) (outs : ℕ → Bool) (reuse states : ℕ → ℕ) (blocks : ℕ) (g : AbstractState) (thread dest p : ℕ) (shape : Shape) (entries : List LogEntry)
    (follows : FollowsPause g.moment) (image : IsImage t blocks g.at g.moment.state.graph (members g.moment)) (beside : IsBeside g thread dest p shape) (lines : KeepLines t g.moment.state.graph g.at (members g.moment))
    (keeps : (b : ℕ) → KeepsState t (record t { heap = heap; outs = outs; reuse = reuse; states = states }) b) (counters : (line : ℕ) → is_free t line ≡ false → reuse line ≡ t.reuse line) where
  abbrev tables : Tables
  tables = record t { heap = heap; outs = outs; reuse = reuse; states = states }

  abbrev m : Moment
  m = g.moment

  abbrev then : Moment
  then = moment_then g thread dest shape

  abbrev to : Name → ℕ
  to = places_then g thread p

  -- ---- unreclaimed names

  -- an unreclaimed name stands where it did, with the object that it had
  member : (n : Name) → IsTrue (has m.unreclaimed n) → IsTrue (has (members m) n)
  member n h = in_first m.unreclaimed m.made n h

  kept_at : (n : Name) → IsTrue (has m.unreclaimed n) → to n ≡ g.at n
  kept_at n h = beside.old_at n (member n h)

  same_object : (n : Name) → IsTrue (has m.unreclaimed n) → object_at then.state.graph n ≡ object_at m.state.graph n
  same_object n h = beside.old_object n (member n h)

  -- it is marked and gray where it was
  marked_still : (n : Name) → IsTrue (has m.unreclaimed n) → IsMarked t g.at n → IsMarked tables to n
  marked_still n h marked = subst (λ z. IsTrue (t.marks (granule_of z))) (sym (kept_at n h)) marked

  marked_was : (n : Name) → IsTrue (has m.unreclaimed n) → IsMarked tables to n → IsMarked t g.at n
  marked_was n h marked = subst (λ z. IsTrue (t.marks (granule_of z))) (kept_at n h) marked

  gray_still : (n : Name) → IsTrue (has m.unreclaimed n) → IsGray t g.at n → IsGray tables to n
  gray_still n h gray = subst (λ z. IsTrue (t.grays (granule_of z))) (sym (kept_at n h)) gray

  gray_was : (n : Name) → IsTrue (has m.unreclaimed n) → IsGray tables to n → IsGray t g.at n
  gray_was n h gray = subst (λ z. IsTrue (t.grays (granule_of z))) (kept_at n h) gray

  -- it refers to what it referred to
  held_was : (u n : Name) (i : ℕ) → IsTrue (has m.unreclaimed u) → slice_get (refs_of (object_at then.state.graph u)) i ≡ Some (Some n) → slice_get (refs_of (object_at m.state.graph u)) i ≡ Some (Some n)
  held_was u n i h holds = ap (λ z. slice_get (refs_of z) i) (sym (same_object u h)) ∙ holds

  referred_was : (u n : Name) → IsTrue (has m.unreclaimed u) → Refers then.state.graph u n → Refers m.state.graph u n
  referred_was u n h (i, holds) = (i, held_was u n i h holds)

  -- and is live where it was
  live_was : (n : Name) → IsTrue (has m.unreclaimed n) → IsLive then n → IsLive m n
  live_was n h (inl reached) = inl reached
  live_was n h (inr made) = elim (insert_cases (new_name g thread) m.made n made) [
    | inl e ↦ absurd (beside.unmade (subst (λ z. IsTrue (has (members m) z)) e (member n h)))
    | inr was ↦ inr was
  ]

  -- ---- the covered snapshot

  covered_still : (n : Name) → IsCovered t m g.at entries n → IsCovered tables then to entries n
  covered_still n (inl gone) = inl gone
  covered_still n (inr (inl (h, gray))) = inr (inl (h, gray_still n h gray))
  covered_still n (inr (inr (inl (h, marked)))) = inr (inr (inl (h, marked_still n h marked)))
  covered_still n (inr (inr (inr (h, old)))) = inr (inr (inr (h, subst (IsOldValue entries) (sym (kept_at n h)) old)))

  scanned_still : (u v : Name) (i : ℕ) → IsCovered t m g.at entries v ⊎ IsToBeScanned t m g.at u i v → IsCovered tables then to entries v ⊎ IsToBeScanned tables then to u i v
  scanned_still u v i (inl covered) = inl (covered_still v covered)
  scanned_still u v i (inr is) = inr (record {
    member = is.member;
    unmarked = ap (λ z. t.marks (granule_of z)) (kept_at u is.member) ∙ is.unmarked;
    undone = ap (λ z. t.dones (granule_of z)) (kept_at u is.member) ∙ is.undone;
    holds = ap (λ z. slice_get (refs_of z) i) (same_object u is.member) ∙ is.holds;
  })

  snapshot_still : (trace : Trace) → SnapshotIsCovered t m g.at entries trace → SnapshotIsCovered tables then to entries trace
  snapshot_still trace is = record {
    world = covered_still world_name is.world;
    registers = λ n held. covered_still n (is.registers n held);
    references = λ u v i reached holds. scanned_still u v i (is.references u v i reached holds);
  }

  -- what an object that is done referred to is gray
  handled_still : HandledAreGray t m g.at → HandledAreGray tables then to
  handled_still is u n h done refers = gray_still n (follows.closed u n h refers) (is u n h (subst (λ z. IsTrue (t.dones (granule_of z))) (kept_at u h) done) refers)

  -- ---- inside the snapshot

  younger_still : (trace : Trace) (n : Name) → IsTrue (has m.unreclaimed n) → IsYounger m trace n → IsYounger then trace n
  younger_still trace n h (unborn, there) = (unborn, subst (λ z. IsTrue (is_some z)) (sym (same_object n h)) there)

  inside_still : (trace : Trace) (n : Name) → IsTrue (has m.unreclaimed n) → IsInSnapshot m trace n → IsInSnapshot then trace n
  inside_still trace n h (inl reached) = inl reached
  inside_still trace n h (inr younger) = inr (younger_still trace n h younger)

  inside_was : (trace : Trace) (n : Name) → IsTrue (has m.unreclaimed n) → IsInSnapshot then trace n → IsInSnapshot m trace n
  inside_was trace n h (inl reached) = inl reached
  inside_was trace n h (inr (unborn, there)) = inr (unborn, subst (λ z. IsTrue (is_some z)) (same_object n h) there)

  garbage_still : (trace : Trace) (n : Name) → StaysGarbage t m g.at trace n → StaysGarbage tables then to trace n
  garbage_still trace n is = record {
    member = is.member;
    dropped = λ live. is.dropped (live_was n is.member live);
    undone = ap (λ z. t.dones (granule_of z)) (kept_at n is.member) ∙ is.undone;
    references = ap refs_of (same_object n is.member) ∙ is.references;
    referred = is.referred;
  }

  was_or_younger : (trace : Trace) (n : Name) → IsTrue (has m.unreclaimed n) → IsTrue (has trace.unreclaimed n) ⊎ (IsYounger m trace n × IsMarked t g.at n)
      → IsTrue (has trace.unreclaimed n) ⊎ (IsYounger then trace n × IsMarked tables to n)
  was_or_younger trace n h (inl was) = inl was
  was_or_younger trace n h (inr (younger, marked)) = inr (younger_still trace n h younger, marked_still n h marked)

  marks_still : (trace : Trace) → MarksStayInside t m g.at trace → MarksStayInside tables then to trace
  marks_still trace is = record {
    marks = λ n h marked. inside_still trace n h (is.marks n h (marked_was n h marked));
    grays = λ n h gray. inside_still trace n h (is.grays n h (gray_was n h gray));
    dones = λ n h done. inside_still trace n h (is.dones n h (subst (λ z. IsTrue (t.dones (granule_of z))) (kept_at n h) done));
    members = λ n h. was_or_younger trace n h (is.members n h);
    referred = λ u n h inside dropped. let none = is.referred u n h (inside_was trace u h inside) dropped in (none.0, λ refers. none.1 (referred_was u n h refers));
    garbage = λ n dropped. garbage_still trace n (is.garbage n dropped);
  }

  -- ---- the remembered set

  -- a member stands in a Chosen block only where it did
  chosen_was : (n : Name) → IsTrue (has (members m) n) → IsInChosen tables to n → IsInChosen t g.at n
  chosen_was n h chosen =
      let there : state_in tables (granule_of (g.at n) / GRANULES_IN_BLOCK) ≡ Chosen = subst (λ z. state_in tables (granule_of z / GRANULES_IN_BLOCK) ≡ Chosen) (beside.old_at n h) chosen in
      elim (keeps (granule_of (g.at n) / GRANULES_IN_BLOCK)) [
        | inl same ↦ sym (ap state_of same) ∙ there
        | inr (was, now) ↦ absurd (let k : true ≡ false = ap is_fixed (sym there) ∙ now in cc)
      ]

  -- what an unreclaimed object refers to is a member
  refers_to_member : (u n : Name) (i : ℕ) → IsTrue (has m.unreclaimed u) → slice_get (refs_of (object_at then.state.graph u)) i ≡ Some (Some n) → IsTrue (has (members m) n)
  refers_to_member u n i h holds =
      let (o, there, stands) = image.stands u (member u h) in
      member_refers m u n o i follows (member u h) there (ap (λ z. slice_get (refs_of z) i) (sym there) ∙ held_was u n i h holds)

  -- the line of an unreclaimed object's reference has the reuse counter that it had
  counter_still : (n : Name) (i : ℕ) → IsTrue (has m.unreclaimed n) → i < length (refs_of (object_at m.state.graph n)) → reuse (word_of_field g.at n i / WORDS_IN_LINE) ≡ t.reuse (word_of_field g.at n i / WORDS_IN_LINE)
  counter_still n i h within =
      let (o, there, stands) = image.stands n (member n h) in
      let few : i < length o.refs = subst (λ z. i < length (refs_of z)) there within in
      let granule = granule_of_field (g.at n) i (length o.refs) (length o.values) _ (granules_of o) stands.placed few (words_cover o) (words_even o) in
      subst (λ line. reuse line ≡ t.reuse line) (line_of_word (word_of_field g.at n i))
      (counters (word_of_field g.at n i / 2 / GRANULES_IN_LINE) (lines n o (word_of_field g.at n i / 2) (member n h) (record { object = there; first = granule.0; behind = granule.1 })))

  -- a field that was remembered is
  entry_still : (l : Limits) (n : Name) (i : ℕ) → IsTrue (has m.unreclaimed n) → i < length (refs_of (object_at m.state.graph n)) → IsRemembered l t g.at n i ⊎ HasOverflowed l t → IsRemembered l tables to n i ⊎ HasOverflowed l tables
  entry_still l n i h within (inl (k, drawn, room, word)) = inl (
    k,
    drawn,
    room,
    subst (λ z. t.remembered k ≡ word_of_entry l.blocks (reuse (field_word z i / WORDS_IN_LINE)) (record { 0 = z }) i) (sym (kept_at n h))
        (word ∙ ap (λ c. word_of_entry l.blocks c (record { 0 = g.at n }) i) (sym (counter_still n i h within))),
  )
  entry_still l n i h within (inr over) = inr over

  -- an unreclaimed object is scanned only where it was
  scanned_was : (trace : Trace) (n : Name) → IsTrue (has m.unreclaimed n) → IsScanned tables to trace n → IsScanned t g.at trace n
  scanned_was trace n h (inl marked) = inl (marked_was n h marked)
  scanned_was trace n h (inr promoted) = inr promoted

  -- so all stays remembered, and entries are those that there were
  remembered_still : (l : Limits) (trace : Trace) (snapshot : List Name) → IsRememberedSoFar l t m g.at trace snapshot → IsRememberedSoFar l tables then to trace snapshot
  remembered_still l trace snapshot is = record {
    fields = λ n v i h scanned holds unlogged chosen.
        let held = held_was n v i h holds in
        entry_still l n i h (slice_get_within (refs_of (object_at m.state.graph n)) i (Some v) held)
        (is.fields n v i h (scanned_was trace n h scanned) held (subst (λ z. IsTrue (t.unlogged (field_word z i))) (kept_at n h) unlogged) (chosen_was v (refers_to_member n v i h holds) chosen));
    entries = is.entries;
    bound =
        let bound = is.bound in
        let fewer = fewer_later t tables m then g.at to snapshot (λ n h unmarked. (h, sym (ap (λ p. t.marks (granule_of p)) (kept_at n h)) ∙ unmarked, refl)) in
        omega (arith, bound, fewer);
  }

  -- ---- the trace that runs

  trace_served : (l : Limits) (trace : Trace) → TraceHolds l t entries g trace → TraceHolds l tables entries (record g { moment = then; at = to }) trace
  trace_served l trace is = record {
    snapshot = is.snapshot;
    reachable = is.reachable;
    covered = snapshot_still trace is.covered;
    inside = marks_still trace is.inside;
    handled = handled_still is.handled;
    remembered = remembered_still l trace is.snapshot is.remembered;
    few = is.few;
  }

  -- what is asked of it holds once the object is made
  pub traced_served : (l : Limits) (trace : Option Trace) → IsTracedBy l t entries g trace → IsTracedBy l tables entries (record g { moment = then; at = to }) trace
  traced_served l None is = tt
  traced_served l (Some trace) is = trace_served l trace is
