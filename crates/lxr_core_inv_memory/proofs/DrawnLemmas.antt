-- Drawn memory is one maker's, event by event.
use Rattle.std.proofs.Common.{◌≡◌, ◌≢◌, ℕ, ◌+◌, ◌*◌, ◌<◌, ◌≤◌, refl, sym, ap, subst, ◌∙◌, inl, inr, arith, true, zero, suc, List, [], ◌∷◌, ◌++◌, length}
use Rattle.std.specs.Prelude.{Some, slice_get, slice_set}
use Rattle.std.proofs.lemmas.List.{length-append}
use Rattle.std.proofs.lemmas.Bool.Decides.{eqb_tells}
use Rattle.lxr_layout.specs.declared.TheConstants.{FREE_BLOCK_COUNT, FREE_BLOCK_CURSOR, GRANULES_IN_BLOCK, LINES_IN_BLOCK, PAUSE_WORD, RUN_COUNT, RUN_CURSOR}
use Rattle.lxr_layout.specs.declared.Place.{Place}
use Rattle.lxr_layout.specs.declared.Shape.{Shape}
use Rattle.lxr_layout.specs.declared.runs.Run.{Run}
use Rattle.lxr_layout.specs.Objects.{FitsShape}
use Rattle.lxr_layout.specs.Runs.{word_of_run}
use Rattle.lxr_graph.specs.declared.Op.{Op}
use Rattle.lxr_graph.specs.declared.Op.TheVariants as op
use Rattle.lxr_graph.specs.declared.Reply.{Reply}
use Rattle.lxr_image.specs.Tables.{Tables}
use Rattle.lxr_image.specs.Reads.{granule_of}
use Rattle.lxr_alloc.specs.Spans.{FitsSpan, block_span, run_span}
use Rattle.lxr_model.specs.Moments.{Field}
use Rattle.lxr_invariant.specs.Listed.{ListsRun}
use Rattle.lxr_core_invariant.specs.ThreadStates.{Stage, ThreadState, Plain, DrewRun, HasRun, NeedsBlock, DrewBlock, HasBlock, Makes, Works}
use Rattle.lxr_core_invariant.specs.EpochStates.{Beginning, EpochState, limits_of, opening_tables}
use Rattle.lxr_core_invariant.specs.Events.{Current, Does, Event, Source, WorksOn, at_once, base_of, done_with, making, source_for, span_from, with_span}
use Rattle.lxr_core_invariant.specs.Events as event
use Rattle.lxr_core_invariant.specs.Happening.{DoesNew, MayBump, MayMake, MayTakeBlock, MayTakeRun, asked_by, happen, intends, loaded_with, shows, stands, with_block, with_cursor, with_run}
use Rattle.lxr_core_invariant.specs.Drawn.{Drawers, HasDrawn, HasGranule, InHand, InSpan, IsDrawnMemory, IsHandOf, IsOfHand, IsOfMaking, MakesIn, MakesInBlock, Owns, UndrawnBlock, UndrawnRun}
use Rattle.lxr_core_invariant.specs.Epoch.{IsEpoch}
use Rattle.lxr_core_invariant.specs.Laws.{DrawnMemoryIsKept}
use Rattle.lxr_core_invariant.proofs.ShowingLemmas.{op_formed}
use Rattle.lxr_core_inv_memory.proofs.CarryLemmas.{Carries, IsNoNew, call_carries, still_carries}
use Rattle.lxr_core_inv_memory.proofs.OwnerLemmas.{AreMore, GoBack, Turns, drawn_kept, made_carried, made_in_carried, one_kept, shown_now, span_more, turns_still, used_kept}
use Rattle.lxr_core_inv_memory.proofs.QuietLemmas.{IsIdle, after_idle, idle, idle_kept, is_idle, loaded_idle, quiet_kept}
use Rattle.lxr_core_inv_memory.proofs.TakingLemmas.{shown_is, some_granule, taken_own, taken_put, taking_kept}
use Rattle.lxr_core_inv_memory.proofs.MakingLemmas.{make_kept}

-- ---- operations that aren't a `new`

-- an operation that needs no further step is no `new`
at_once_no_new : (v : ThreadState) (o : Op) (r : Reply) (registers : List Place) → at_once v o ≡ Some (r, registers) → IsNoNew o
at_once_no_new v (op.New dest shape) r registers e = absurd (cc)
at_once_no_new v o r registers e = tt

-- an operation that names a base register is no `new`
base_no_new : (o : Op) (base index : ℕ) → base_of o ≡ Some (base, index) → IsNoNew o
base_no_new (op.New dest shape) base index e = absurd (cc)
base_no_new o base index e = tt

-- an operation that works on an object is no `new`
works_no_new : (v : ThreadState) (o : Op) (place index : ℕ) → Does v o → WorksOn v place index → IsNoNew o
works_no_new v o place index does on =
    let both : Some on.now ≡ Some o = sym on.is ∙ does in
    let same : on.now ≡ o = cc in
    subst IsNoNew same (base_no_new on.now on.base index on.named)

-- an operation that asks for a pause is no `new`
asks_no_new : (o : Op) (r : Reply) → asked_by o ≡ Some r → IsNoNew o
asks_no_new (op.New dest shape) r e = absurd (cc)
asks_no_new o r e = tt

-- ---- events of a mutator that has nothing in hand

-- it stays so, and no call stands
idle_step : (b : Beginning) (s : EpochState) (i : ℕ) (v w : ThreadState) (t : Tables) (cleared : List Field) → IsEpoch b s → slice_get s.thread_states i ≡ Some v → t.cursors RUN_CURSOR ≡ s.tables.cursors RUN_CURSOR → t.cursors FREE_BLOCK_CURSOR ≡ s.tables.cursors FREE_BLOCK_CURSOR
    → is_idle v.stage ≡ true → is_idle w.stage ≡ true → w.spans ≡ v.spans → IsDrawnMemory b (record (shows s i w) { tables = t; cleared = cleared })
idle_step b s i v w t cleared is there runs blocks was rests spans =
    let u : EpochState = record (shows s i w) { tables = t; cleared = cleared } in
    let none = idle b v.stage was in
    idle_kept b s u i v w is.drawn (turns_still s u i v w there refl runs blocks) (still_carries b s t (slice_set s.thread_states i w) cleared) spans rests (record { runs = runs; blocks = blocks }) (λ k _ h. none.unused k h) none.unmade

-- it stays so, and a call stands that isn't a `new`
idle_call : (b : Beginning) (s : EpochState) (i : ℕ) (v : ThreadState) (o : Op) (w : ThreadState) (t : Tables) → IsEpoch b s → slice_get s.thread_states i ≡ Some v → IsNoNew o → t.cursors RUN_CURSOR ≡ s.tables.cursors RUN_CURSOR → t.cursors FREE_BLOCK_CURSOR ≡ s.tables.cursors FREE_BLOCK_CURSOR
    → is_idle v.stage ≡ true → is_idle w.stage ≡ true → w.spans ≡ v.spans → IsDrawnMemory b (stands b s i v o w t)
idle_call b s i v o w t is there other runs blocks was rests spans =
    let u : EpochState = stands b s i v o w t in
    let none = idle b v.stage was in
    idle_kept b s u i v w is.drawn (turns_still s u i v w there refl runs blocks) (call_carries b s i v o t (slice_set s.thread_states i w) s.cleared is there other) spans rests (record { runs = runs; blocks = blocks }) (λ k _ h. none.unused k h) none.unmade

-- so where that takes a reference into a register
taking_call : (b : Beginning) (s : EpochState) (i : ℕ) (v : ThreadState) (o : Op) (dest : ℕ) (p : Place) (t : Tables) → IsEpoch b s → slice_get s.thread_states i ≡ Some v → IsNoNew o
    → t.cursors RUN_CURSOR ≡ s.tables.cursors RUN_CURSOR → t.cursors FREE_BLOCK_CURSOR ≡ s.tables.cursors FREE_BLOCK_CURSOR → is_idle v.stage ≡ true → IsDrawnMemory b (stands b s i v o (loaded_with v o dest p) t)
taking_call b s i v o dest p t is there other runs blocks was =
    let idles = loaded_idle v o dest p in idle_call b s i v o (loaded_with v o dest p) t is there other runs blocks was idles.0 idles.1

-- ---- a number is drawn

-- those who had drawn have drawn
get_more : (ts : List ℕ) (x k t : ℕ) → slice_get ts k ≡ Some t → slice_get (ts ++ x ∷ []) k ≡ Some t
get_more [] x k t h = absurd (cc)
get_more (y ∷ ts) x zero t h = h
get_more (y ∷ ts) x (suc k) t h = get_more ts x k t h

-- the last to draw has the number behind theirs
get_last : (ts : List ℕ) (x c : ℕ) → length ts ≡ c → slice_get (ts ++ x ∷ []) c ≡ Some x
get_last ts x c many = subst (λ k. slice_get (ts ++ x ∷ []) k ≡ Some x) many (behind ts x)
  where
    behind : (ts : List ℕ) (x : ℕ) → slice_get (ts ++ x ∷ []) (length ts) ≡ Some x
    behind [] x = refl
    behind (y ∷ ts) x = behind ts x

-- and one more has drawn
one_longer : (ts : List ℕ) (x c : ℕ) → length ts ≡ c → length (ts ++ x ∷ []) ≡ c + 1
one_longer ts x c many = length-append ts (x ∷ []) ∙ ap (λ n. n + 1) many

-- the number of a run is drawn: what was of the undrawn run is in hand
run_drawn : (b : Beginning) (s : EpochState) (i : ℕ) (v : ThreadState) → IsEpoch b s → slice_get s.thread_states i ≡ Some v → v.stage ≡ Works Plain → IsDrawnMemory b (happen b s i v event.DrawsRun)
run_drawn b s i v is there stage =
    let u : EpochState = happen b s i v event.DrawsRun in
    let w : ThreadState = intends v (DrewRun (s.tables.cursors RUN_CURSOR)) in
    let none : IsIdle b v.stage = idle b v.stage (ap is_idle stage) in
    let turns : Turns s u i v w = record { shown = there; thread_states = refl; runs = omega arith; blocks = omega arith } in
    let carries : Carries b s u = still_carries b s u.tables u.thread_states s.cleared in
    let back : GoBack b s u i v w (UndrawnRun (s.tables.cursors RUN_CURSOR)) (λ x. x ≡ InHand i) = record {
      hand = λ g h. inr (refl, (omega arith, h));
      span = λ from g h. inl h;
      making = λ g h. absurd h;
      member = λ n g h. inl (carries.members n g h);
      apart = λ x y g new has_x has_y other. elim other [
        | inl e ↦ new ∙ sym e
        | inr e ↦ absurd (undrawn (s.tables.cursors RUN_CURSOR) (subst (λ z. Owns b u z g) e has_y).0)
      ];
    } in
    let d : Drawers = is.drawn.drawers in
    let e : Drawers = record d { runs = d.runs ++ (i + 1) ∷ [] } in
    let more : AreMore d e = record { runs = λ k t h. get_more d.runs (i + 1) k t h; blocks = λ k t h. h } in
    drawn_kept b s u i v w is.drawn e turns (one_kept b s u i v w (UndrawnRun (s.tables.cursors RUN_CURSOR)) (λ x. x ≡ InHand i) turns back is.drawn.one)
    (record {
      more = more;
      numbers = record { runs = one_longer d.runs (i + 1) (s.tables.cursors RUN_CURSOR) is.drawn.numbers.runs; blocks = is.drawn.numbers.blocks };
      hand = get_last d.runs (i + 1) (s.tables.cursors RUN_CURSOR) is.drawn.numbers.runs;
      spans = λ from. span_more b d e (i + 1) (span_from from v.spans) more (is.drawn.spans i v from there);
      makes = λ place shape wiped q. absurd (let k : Works (DrewRun (s.tables.cursors RUN_CURSOR)) ≡ Works (Makes place shape wiped) = q in cc);
    })
    (made_carried b d e s u more carries is.drawn.made)
    (λ k drawn listed. used_kept b s u i v w k turns (λ h. absurd (none.unused k h)) (λ h. absurd (none.unmade k h)) (λ made. inr (inr (made_in_carried b s u k carries made))) (is.drawn.used k drawn listed))
  where
    undrawn : (c : ℕ) → c + 1 ≤ c → ⊥
    undrawn c h = absurd (omega (arith, h))

-- the number of a block is drawn: what was of the undrawn block is in hand
block_drawn : (b : Beginning) (s : EpochState) (i : ℕ) (v : ThreadState) → IsEpoch b s → slice_get s.thread_states i ≡ Some v → v.stage ≡ Works NeedsBlock → IsDrawnMemory b (happen b s i v event.DrawsBlock)
block_drawn b s i v is there stage =
    let u : EpochState = happen b s i v event.DrawsBlock in
    let c : ℕ = s.tables.cursors FREE_BLOCK_CURSOR in
    let w : ThreadState = intends v (DrewBlock c) in
    let none : IsIdle b v.stage = idle b v.stage (ap is_idle stage) in
    let turns : Turns s u i v w = record { shown = there; thread_states = refl; runs = omega arith; blocks = omega arith } in
    let carries : Carries b s u = still_carries b s u.tables u.thread_states s.cleared in
    let back : GoBack b s u i v w (UndrawnBlock c) (λ x. x ≡ InHand i) = record {
      hand = λ g h. inr (refl, (omega arith, h));
      span = λ from g h. inl h;
      making = λ g h. absurd h;
      member = λ n g h. inl (carries.members n g h);
      apart = λ x y g new has_x has_y other. elim other [
        | inl e ↦ new ∙ sym e
        | inr e ↦ absurd (undrawn c (subst (λ z. Owns b u z g) e has_y).0)
      ];
    } in
    let d : Drawers = is.drawn.drawers in
    let e : Drawers = record d { blocks = d.blocks ++ (i + 1) ∷ [] } in
    let more : AreMore d e = record { runs = λ k t h. h; blocks = λ k t h. get_more d.blocks (i + 1) k t h } in
    drawn_kept b s u i v w is.drawn e turns (one_kept b s u i v w (UndrawnBlock c) (λ x. x ≡ InHand i) turns back is.drawn.one)
    (record {
      more = more;
      numbers = record { runs = is.drawn.numbers.runs; blocks = one_longer d.blocks (i + 1) c is.drawn.numbers.blocks };
      hand = get_last d.blocks (i + 1) c is.drawn.numbers.blocks;
      spans = λ from. span_more b d e (i + 1) (span_from from v.spans) more (is.drawn.spans i v from there);
      makes = λ place shape wiped q. absurd (let k : Works (DrewBlock c) ≡ Works (Makes place shape wiped) = q in cc);
    })
    (made_carried b d e s u more carries is.drawn.made)
    (λ k drawn listed. elim (eqb_tells c k) [
      | inl e ↦ inl (i, (w, shown_now s u i v w turns, e.1))
      | inr e ↦ used_kept b s u i v w k turns (λ h. absurd (none.unused k h)) (λ h. absurd (none.unmade k h)) (λ made. inr (inr (made_in_carried b s u k carries made)))
          (is.drawn.used k (below c k drawn e.1) listed)
    ])
  where
    undrawn : (c : ℕ) → c + 1 ≤ c → ⊥
    undrawn c h = absurd (omega (arith, h))

    below : (c k : ℕ) → k < c + 1 → c ≢ k → k < c
    below c k h differ = omega arith

-- ---- a number is seen, a word is wiped

-- there is a run of the number that was drawn
run_seen : (b : Beginning) (s : EpochState) (i : ℕ) (v : ThreadState) (number : ℕ) → IsEpoch b s → slice_get s.thread_states i ≡ Some v → v.stage ≡ Works (DrewRun number) → number < s.tables.cursors RUN_COUNT
    → IsDrawnMemory b (happen b s i v (event.SeesRun number))
run_seen b s i v number is there stage listed =
    let u : EpochState = happen b s i v (event.SeesRun number) in
    let w : ThreadState = intends v (HasRun number) in
    let drawn = subst (λ (z : Stage). HasDrawn b is.drawn.drawers (i + 1) z) stage (is.drawn.hands i v there) in
    let fixed = is.fixed.cursors RUN_COUNT (λ e. cc) (λ e. cc) (λ e. cc) (λ e. cc) (λ e. cc) in
    quiet_kept b s u i v w is.drawn (record {
      turns = turns_still s u i v w there refl refl refl;
      carries = still_carries b s s.tables u.thread_states s.cleared;
      spans = refl;
      hand = λ g h. subst (λ (z : Stage). IsOfHand b z g) (sym stage) h;
      making = λ g h. absurd h;
      drawn = (drawn, omega (arith, listed, fixed));
      makes = λ place shape wiped e. absurd (let k : Works (HasRun number) ≡ Works (Makes place shape wiped) = e in cc);
      still = record { runs = refl; blocks = refl };
      hand_used = λ k _ h. absurd (subst (λ (z : Stage). IsHandOf z k) stage h);
      making_used = λ k h. absurd (subst (λ (z : Stage). MakesInBlock b z k) stage h);
    })

-- there is a block of the number that was drawn
block_seen : (b : Beginning) (s : EpochState) (i : ℕ) (v : ThreadState) (number : ℕ) → IsEpoch b s → slice_get s.thread_states i ≡ Some v → v.stage ≡ Works (DrewBlock number) → number < s.tables.cursors FREE_BLOCK_COUNT
    → IsDrawnMemory b (happen b s i v (event.SeesBlock number))
block_seen b s i v number is there stage listed =
    let u : EpochState = happen b s i v (event.SeesBlock number) in
    let w : ThreadState = intends v (HasBlock number) in
    let turns : Turns s u i v w = turns_still s u i v w there refl refl refl in
    let drawn = subst (λ (z : Stage). HasDrawn b is.drawn.drawers (i + 1) z) stage (is.drawn.hands i v there) in
    let fixed = is.fixed.cursors FREE_BLOCK_COUNT (λ e. cc) (λ e. cc) (λ e. cc) (λ e. cc) (λ e. cc) in
    quiet_kept b s u i v w is.drawn (record {
      turns = turns;
      carries = still_carries b s s.tables u.thread_states s.cleared;
      spans = refl;
      hand = λ g h. subst (λ (z : Stage). IsOfHand b z g) (sym stage) h;
      making = λ g h. absurd h;
      drawn = (drawn, omega (arith, listed, fixed));
      makes = λ place shape wiped e. absurd (let k : Works (HasBlock number) ≡ Works (Makes place shape wiped) = e in cc);
      still = record { runs = refl; blocks = refl };
      hand_used = λ k _ h. inl (i, (w, shown_now s u i v w turns, subst (λ (z : Stage). IsHandOf z k) stage h));
      making_used = λ k h. absurd (subst (λ (z : Stage). MakesInBlock b z k) stage h);
    })

-- a word of the object in making is wiped
word_wiped : (b : Beginning) (s : EpochState) (i : ℕ) (v : ThreadState) (place : ℕ) (shape : Shape) (wiped : ℕ) → IsEpoch b s → slice_get s.thread_states i ≡ Some v → v.stage ≡ Works (Makes place shape wiped)
    → IsDrawnMemory b (happen b s i v (event.Wipes place shape wiped))
word_wiped b s i v place shape wiped is there stage =
    let u : EpochState = happen b s i v (event.Wipes place shape wiped) in
    let w : ThreadState = intends v (Makes place shape (wiped + 1)) in
    let turns : Turns s u i v w = turns_still s u i v w there refl refl refl in
    quiet_kept b s u i v w is.drawn (record {
      turns = turns;
      carries = still_carries b s u.tables u.thread_states s.cleared;
      spans = refl;
      hand = λ g h. absurd h;
      making = λ g h. subst (λ (z : Stage). IsOfMaking z g) (sym stage) h;
      drawn = tt;
      makes = λ other made more e.
          let both : Works (Makes place shape (wiped + 1)) ≡ Works (Makes other made more) = e in
          let same_place : place ≡ other = cc in
          let same_shape : shape ≡ made = cc in
          subst (λ z. MakesIn b is.drawn.drawers (i + 1) other z) same_shape (subst (λ z. MakesIn b is.drawn.drawers (i + 1) z shape) same_place (is.drawn.makes i v place shape wiped there stage));
      still = record { runs = refl; blocks = refl };
      hand_used = λ k _ h. absurd (subst (λ (z : Stage). IsHandOf z k) stage h);
      making_used = λ k h. inr (inl (i, (w, shown_now s u i v w turns, subst (λ (z : Stage). MakesInBlock b z k) stage h)));
    })

-- ---- an object is taken

-- the shape of a `new` in progress is one that objects may have
new_fits : (b : Beginning) (s : EpochState) (i : ℕ) (v : ThreadState) (shape : Shape) → IsEpoch b s → slice_get s.thread_states i ≡ Some v → DoesNew v shape → FitsShape shape
new_fits b s i v shape is there does = (op_formed v (op.New does.0 shape) (is.called.each i v there).formed does.1).1

-- an object is taken from a span that the mutator has
bumped : (b : Beginning) (s : EpochState) (i : ℕ) (v : ThreadState) (from : Source) (shape : Shape) → IsEpoch b s → slice_get s.thread_states i ≡ Some v → MayBump s.tables v from shape
    → IsDrawnMemory b (happen b s i v (event.Bumps from shape))
bumped b s i v from shape is there may =
    let u : EpochState = happen b s i v (event.Bumps from shape) in
    let w : ThreadState = making v from v.spans shape in
    let none : IsIdle b v.stage = idle b v.stage (ap is_idle may.begin.stage) in
    let some = some_granule shape in
    let room = may.fits.room in
    taking_kept b s u i v w from (span_from from v.spans) shape (InSpan i from) is.drawn (turns_still s u i v w there refl refl refl) (still_carries b s s.tables u.thread_states s.cleared)
    (taken_own v from shape) room (new_fits b s i v shape is there may.fits.does)
    (elim (is.drawn.spans i v from there) [ inl empty ↦ absurd (omega (arith, empty, room, some)) | inr lies ↦ lies ])
    (λ g h. (v, there, h)) (λ g h. refl) (record { runs = refl; blocks = refl }) (λ k _ h. absurd (none.unused k h)) none.unmade

-- a word tells one run, of those whose lines lie in their block
same_run : (q r : Run) → q.line + q.lines ≤ LINES_IN_BLOCK → r.line + r.lines ≤ LINES_IN_BLOCK → word_of_run q ≡ word_of_run r → q ≡ r
same_run q r low high same =
    let block : q.block ≡ r.block = omega arith in
    let line : q.line ≡ r.line = omega arith in
    let lines : q.lines ≡ r.lines = omega arith in
    λ j. record { block = block j; line = line j; lines = lines j }

-- a run in hand is taken for an object
run_taken : (b : Beginning) (s : EpochState) (i : ℕ) (v : ThreadState) (r : Run) (shape : Shape) → IsEpoch b s → slice_get s.thread_states i ≡ Some v → MayTakeRun s.tables v r shape
    → IsDrawnMemory b (happen b s i v (event.TakesRun r shape))
run_taken b s i v r shape is there may =
    let u : EpochState = happen b s i v (event.TakesRun r shape) in
    let w : ThreadState = making v Current (with_run v r).spans shape in
    let stage = may.stage in
    let number : ℕ = may.number in
    let drawn = subst (λ (z : Stage). HasDrawn b is.drawn.drawers (i + 1) z) stage (is.drawn.hands i v there) in
    let found = is.begins.listed.runs number drawn.1 in
    let word : word_of_run found.0 ≡ word_of_run r = sym found.1.word ∙ sym (ap (λ (t : Tables). t.runs number) is.fixed.tables) ∙ may.word in
    let lists : ListsRun (opening_tables b) (limits_of b).blocks number r =
    subst (λ z. ListsRun (opening_tables b) (limits_of b).blocks number z) (same_run found.0 r found.1.run.run.within may.in_block.1 word) found.1 in
    let taken = taken_put v Current (run_span r) shape in
    let turns : Turns s u i v w = turns_still s u i v w there refl refl refl in
    taking_kept b s u i v w Current (run_span r) shape (InHand i) is.drawn turns (still_carries b s s.tables u.thread_states s.cleared)
    taken may.fits (new_fits b s i v shape is there may.does)
    (inl (record { number = number; drawn = drawn.0; listed = drawn.1; run = r; lists = lists; within = (omega arith, omega arith) }))
    (λ g h. (v, there, subst (λ (z : Stage). IsOfHand b z g) (sym stage) (record { listed = drawn.1; run = r; lists = lists; granule = h })))
    (λ g h. absurd (shown_is (λ z. IsOfHand b z.stage g) s u i v w turns h))
    (record { runs = refl; blocks = refl }) (λ k _ h. absurd (subst (λ (z : Stage). IsHandOf z k) stage h)) (λ k h. absurd (subst (λ (z : Stage). MakesInBlock b z k) stage h))

-- a block has room for every object
block_room : (block : ℕ) (shape : Shape) → FitsShape shape → FitsSpan (block_span block) shape
block_room block shape fits = let refs = fits.0 in let values = fits.1 in omega (arith, refs, values)

-- a block in hand is taken for an object
block_taken : (b : Beginning) (s : EpochState) (i : ℕ) (v : ThreadState) (block : ℕ) (shape : Shape) → IsEpoch b s → slice_get s.thread_states i ≡ Some v → MayTakeBlock s.tables v block shape
    → IsDrawnMemory b (happen b s i v (event.TakesBlock block shape))
block_taken b s i v block shape is there may =
    let u : EpochState = happen b s i v (event.TakesBlock block shape) in
    let from : Source = source_for shape in
    let w : ThreadState = making v from (with_block v block shape).spans shape in
    let stage = may.stage in
    let number : ℕ = may.number in
    let drawn = subst (λ (z : Stage). HasDrawn b is.drawn.drawers (i + 1) z) stage (is.drawn.hands i v there) in
    let free : (opening_tables b).frees number ≡ block = sym (ap (λ (t : Tables). t.frees number) is.fixed.tables) ∙ may.word in
    let taken = taken_put v from (block_span block) shape in
    let turns : Turns s u i v w = turns_still s u i v w there refl refl refl in
    let fits = new_fits b s i v shape is there may.does in
    taking_kept b s u i v w from (block_span block) shape (InHand i) is.drawn turns (still_carries b s s.tables u.thread_states s.cleared)
    taken (block_room block shape fits) fits
    (inr (record { number = number; drawn = drawn.0; listed = drawn.1; within = (omega (arith, free), omega (arith, free)) }))
    (λ g h. (v, there, subst (λ (z : Stage). IsOfHand b z g) (sym stage) (record { listed = drawn.1; granule = subst (λ z. HasGranule (block_span z) g) (sym free) h })))
    (λ g h. absurd (subst (λ (z : Stage). IsOfHand b z g) taken.stage (shown_is (λ z. IsOfHand b z.stage g) s u i v w turns h)))
    (record { runs = refl; blocks = refl })
    (λ k _ h.
    let same : number ≡ k = subst (λ (z : Stage). IsHandOf z k) stage h in
    inr (inl (i, (w, shown_now s u i v w turns, subst (λ (z : Stage). MakesInBlock b z k) (sym taken.stage) (at_front ((opening_tables b).frees k) block (ap (opening_tables b).frees (sym same) ∙ free))))))
    (λ k h. absurd (subst (λ (z : Stage). MakesInBlock b z k) stage h))
  where
    at_front : (found block : ℕ) → found ≡ block → HasGranule (block_span found) (granule_of (GRANULES_IN_BLOCK * block + 1))
    at_front found block same = record { first = omega (arith, same); behind = omega (arith, same) }

-- ---- each event

-- each event keeps drawn memory one maker's
pub drawn_memory_is_kept : DrawnMemoryIsKept
drawn_memory_is_kept b s i v event.Stays is there may = is.drawn
drawn_memory_is_kept b s i v event.Obeys is there may = idle_step b s i v _ s.tables s.cleared is there refl refl (ap is_idle may.0) refl refl
drawn_memory_is_kept b s i v event.Begins is there may = idle_step b s i v _ s.tables s.cleared is there refl refl (ap is_idle may.stage) refl refl
drawn_memory_is_kept b s i v event.BeginsBlock is there may = idle_step b s i v _ s.tables s.cleared is there refl refl (ap is_idle may.0.stage) refl refl
drawn_memory_is_kept b s i v (event.Bumps from shape) is there may = bumped b s i v from shape is there may
drawn_memory_is_kept b s i v (event.DoesAtOnce o r registers) is there may =
    idle_call b s i v o _ s.tables is there (at_once_no_new v o r registers may.replies) refl refl (ap is_idle may.begin.stage) (after_idle v o) refl
drawn_memory_is_kept b s i v (event.FindsReference place index) is there may = idle_step b s i v _ s.tables s.cleared is there refl refl (ap is_idle may.reads.stage) refl refl
drawn_memory_is_kept b s i v (event.FindsValue place refs index) is there may = idle_step b s i v _ s.tables s.cleared is there refl refl (ap is_idle may.reads.stage) refl refl
drawn_memory_is_kept b s i v (event.FindsNone o) is there may =
    idle_call b s i v o _ s.tables is there (works_no_new v o may.place may.index may.reads.does may.reads.on) refl refl (ap is_idle may.reads.stage) (after_idle v o) refl
drawn_memory_is_kept b s i v (event.LoadsReference o dest place index) is there may =
    taking_call b s i v o dest _ s.tables is there (subst IsNoNew (sym may.loads.1) tt) refl refl (ap is_idle may.stage)
drawn_memory_is_kept b s i v (event.TellsName o n) is there may = idle_step b s i v _ s.tables s.cleared is there refl refl (ap is_idle may.stage) (after_idle v o) refl
drawn_memory_is_kept b s i v (event.GetsValue o place refs index) is there may =
    idle_call b s i v o _ s.tables is there (subst IsNoNew (sym may.gets.1) tt) refl refl (ap is_idle may.stage) (after_idle v o) refl
drawn_memory_is_kept b s i v (event.PutsValue o place refs index value) is there may =
    idle_call b s i v o _ _ is there (subst IsNoNew (sym may.puts.1) tt) refl refl (ap is_idle may.stage) (after_idle v o) refl
drawn_memory_is_kept b s i v (event.AddsValue o place refs index value) is there may =
    idle_call b s i v o _ _ is there (subst IsNoNew (sym may.adds.1) tt) refl refl (ap is_idle may.stage) (after_idle v o) refl
drawn_memory_is_kept b s i v (event.SeesClear place index) is there may = idle_step b s i v _ s.tables s.cleared is there refl refl (ap is_idle may.stage) refl refl
drawn_memory_is_kept b s i v (event.SeesFull place index) is there may = idle_step b s i v _ s.tables s.cleared is there refl refl (ap is_idle may.stage) refl refl
drawn_memory_is_kept b s i v (event.LoadsOld place index) is there may = idle_step b s i v _ s.tables s.cleared is there refl refl (ap is_idle may.stage) refl refl
drawn_memory_is_kept b s i v (event.ClearsFirst e n) is there may = idle_step b s i v _ _ _ is there refl refl (ap is_idle may.clear.stage) refl refl
drawn_memory_is_kept b s i v (event.ClearsLate e) is there may = idle_step b s i v _ s.tables s.cleared is there refl refl (ap is_idle may.stage) refl refl
drawn_memory_is_kept b s i v (event.StoresReference o place index value) is there may =
    idle_call b s i v o _ _ is there (subst IsNoNew (sym may.stores) tt) refl refl (ap is_idle may.stage) (after_idle v o) refl
drawn_memory_is_kept b s i v (event.SwapsReference o dest place index value) is there may =
    taking_call b s i v o dest _ _ is there (subst IsNoNew (sym may.swaps) tt) refl refl (ap is_idle may.stage)
drawn_memory_is_kept b s i v event.DrawsRun is there may = run_drawn b s i v is there may.stage
drawn_memory_is_kept b s i v event.MissesRun is there may =
    idle_kept b s (happen b s i v event.MissesRun) i v _ is.drawn (turns_still s (happen b s i v event.MissesRun) i v _ there refl refl refl) (still_carries b s s.tables _ s.cleared) refl refl (record { runs = refl; blocks = refl })
    (λ k _ h. subst (λ (z : Stage). IsHandOf z k) may.stage h) (λ k h. subst (λ (z : Stage). MakesInBlock b z k) may.stage h)
drawn_memory_is_kept b s i v (event.SeesRun number) is there may = run_seen b s i v number is there may.stage may.listed
drawn_memory_is_kept b s i v (event.TakesRun r shape) is there may = run_taken b s i v r shape is there may
drawn_memory_is_kept b s i v event.DrawsBlock is there may = block_drawn b s i v is there may.0
drawn_memory_is_kept b s i v event.MissesBlock is there may =
    idle_kept b s (happen b s i v event.MissesBlock) i v _ is.drawn (turns_still s (happen b s i v event.MissesBlock) i v _ there refl refl refl) (still_carries b s s.tables _ s.cleared) refl refl (record { runs = refl; blocks = refl })
    (λ k listed h.
    let same : may.number ≡ k = subst (λ (z : Stage). IsHandOf z k) may.stage h in
    let none = may.none in
    let fixed = is.fixed.cursors FREE_BLOCK_COUNT (λ e. cc) (λ e. cc) (λ e. cc) (λ e. cc) (λ e. cc) in
    absurd (omega (arith, same, none, fixed, listed)))
    (λ k h. subst (λ (z : Stage). MakesInBlock b z k) may.stage h)
drawn_memory_is_kept b s i v (event.SeesBlock number) is there may = block_seen b s i v number is there may.stage may.listed
drawn_memory_is_kept b s i v (event.TakesBlock block shape) is there may = block_taken b s i v block shape is there may
drawn_memory_is_kept b s i v (event.Wipes place shape wiped) is there may = word_wiped b s i v place shape wiped is there may.stage
drawn_memory_is_kept b s i v (event.MakesObject o dest place shape) is there may =
    subst (λ z. IsDrawnMemory b (happen b s i v (event.MakesObject z dest place shape))) (sym may.makes)
    (make_kept b s i v dest place shape is there (subst (λ z. MayMake v z dest place shape) may.makes may))
drawn_memory_is_kept b s i v (event.Asks o r) is there may =
    idle_call b s i v o _ (with_cursor s.tables PAUSE_WORD 1) is there (asks_no_new o r may.asks) refl refl (ap is_idle may.stage) (after_idle v o) refl
drawn_memory_is_kept b s i v (event.Leaves reason) is there may = idle_step b s i v _ (with_cursor s.tables PAUSE_WORD 1) s.cleared is there refl refl (ap is_idle may) refl refl
