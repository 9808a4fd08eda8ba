-- Once all is queued, the space holds the moment that follows.
use Rattle.std.proofs.Common.{◌≡◌, ◌≢◌, ℕ, ◌+◌, ◌<◌, nat_eq, refl, sym, ap, subst, ◌∙◌, inl, inr, arith, Bool, false, List, [], IsTrue}
use Rattle.std.proofs.lemmas.Bool.{cases_lt}
use Rattle.std.proofs.lemmas.Bool.Decides.{nat_tests}
use Rattle.std.proofs.lemmas.List.{append-nil}
use Rattle.std.proofs.lemmas.List.Sorted.{IsPermutation-refl}
use Rattle.lxr_layout.specs.declared.Name.{Name}
use Rattle.lxr_layout.specs.declared.LogEntry.{LogEntry}
use Rattle.lxr_layout.specs.declared.TheConstants.{DECREMENT_COUNT, STUCK}
use Rattle.lxr_base.specs.Roomy.{Roomy, emptied}
use Rattle.lxr_graph.specs.Names.{has, union}
use Rattle.lxr_graph.proofs.NameSets.{has-union}
use Rattle.lxr_image.specs.declared.space.Space.{Space}
use Rattle.lxr_image.specs.Registers.{HoldFew}
use Rattle.lxr_image.specs.Tables.{Tables, tables_in}
use Rattle.lxr_image.specs.Spaces.{IsSpace, Turns, tables_of}
use Rattle.lxr_image.specs.Opened.{HasRoom}
use Rattle.lxr_image.specs.Image.{IsImage}
use Rattle.lxr_image.specs.Reads.{granule_of}
use Rattle.lxr_image.proofs.SpaceLemmas.{turns_then}
use Rattle.lxr_model.specs.References.{references}
use Rattle.lxr_model.specs.Moments.{Moment}
use Rattle.lxr_model_counting.specs.Balance.{lowered}
use Rattle.lxr_model_counting.proofs.DistinctLemmas.{or_false}
use Rattle.lxr_invariant.specs.AbstractState.{members}
use Rattle.lxr_invariant.specs.Standing.{HasBits}
use Rattle.lxr_invariant.specs.Counting.{HasCounts, HasDecrements, IsUndecremented, count_at, entries_between, undone, waiting_at}
use Rattle.lxr_invariant.specs.Keeping.{KeepsListsAndCounters}
use Rattle.lxr_invariant.specs.Lines.{FreeAreUnused, HasBlocks, HasMarks, KeepsRest}
use Rattle.lxr_invariant.specs.Quiescent.{HoldsMoment}
use Rattle.lxr_invariant.specs.Raised.{IsRaised, count_raised, settled, with_promoted}
use Rattle.lxr_invariant.proofs.NameLemmas.{no_member}
use Rattle.lxr_invariant.proofs.FrameLemmas.{blocks_still, held_at_rest, image_still, marks_still, none_undone}
use Rattle.lxr_pause_queue.specs.Appending.{with_entries, with_registers}
use Rattle.lxr_pause_queue.specs.OldValues.{decrement_list}
use Rattle.lxr_pause_queue.specs.Queueing.{Queues, with_roots_deferred}
use Rattle.lxr_pause_queue.proofs.SettledLemmas.{raised_balance, settled_follows}
use Rattle.lxr_pause_queue.proofs.QueuedLemmas.{entries_cursors, entries_keep, registers_cursors, registers_keep}
use Rattle.lxr_pause_queue.proofs.ListLemmas.{all_joined}
use Rattle.lxr_pause_queue.proofs.RaisedLemmas.{AreQueued, all_queued, are_queued}

-- ---- tables that differ in the list of decrements, cursors and unlogged bits alone

abbrev appended : Tables → (ℕ → ℕ) → (ℕ → ℕ) → (ℕ → Bool) → Tables
appended t d c l = record t { decs = d; cursors = c; unlogged = l }

-- ---- the moment

module _ (s : Space) (m : Moment) (at : Name → ℕ) (promoted stuck : List Name) (is : IsRaised s m at promoted stuck)
    (d c : ℕ → ℕ) (l : ℕ → Bool) (queued : AreQueued s m at promoted stuck (appended (tables_of s) d c l)) where
  abbrev us : List Name
  us = with_promoted m promoted

  abbrev u : Tables
  u = appended (tables_of s) d c l

  abbrev then : Moment
  then = settled m promoted stuck

  waits_lowered : (o : Name) → IsTrue (has us o) → waiting_at u (at o) ≡ lowered m o
  waits_lowered o h = ap (λ from. entries_between d from (c 6) (at o)) queued.drawn ∙ queued.waits o h

  counts_below : (n : Name) → IsTrue (has us n) → has (union stuck m.stuck) n ≡ false → count_at u at n < STUCK
  counts_below n h unstuck =
      let exact = is.counts.exact n h unstuck in
      let neither = or_false (has stuck n) (has m.stuck n) (sym (has-union stuck m.stuck n) ∙ unstuck) in
      elim (cases_lt (count_raised m promoted n) STUCK) [
        | inl below ↦ subst (λ x. x < STUCK) (sym exact) below
        | inr reaches ↦
            let becomes : IsTrue (has stuck n) = (is.raised.stuck_are n).1 (record { member = h; unstuck = neither.1; reaches = reaches }) in
            let isnt = neither.0 in absurd (cc)
      ]

  pub undecremented : IsUndecremented u then at
  undecremented = record { none_done = is.none_done; none_drawn = queued.drawn; positive = is.positive }

  counts_exact : (n : Name) → IsTrue (has us n) → has (union stuck m.stuck) n ≡ false → count_at u at n ≡ references m.state (undone u at us) n + waiting_at u (at n)
  counts_exact n h unstuck =
      is.counts.exact n h unstuck ∙ raised_balance m promoted stuck n is.follows is.raised
      ∙ (λ j. references m.state (sym (none_undone u at us is.none_done) j) n + sym (waits_lowered n h) j)

  has_counts : HasCounts u then at
  has_counts = record {
    stuck = is.counts.full;
    below = counts_below;
    exact = counts_exact;
    held = λ n h unstuck. held_at_rest u then at n undecremented h (counts_exact n h unstuck);
    done = λ n h done. let none = is.none_done (granule_of (at n)) in absurd (cc);
    dead = λ n h done. let none = is.none_done (granule_of (at n)) in absurd (cc);
  }

  has_decrements : HasDecrements s.limits u then at
  has_decrements = record { fits = queued.fits; places = queued.places }

  has_bits : HasBits u then at us
  has_bits = record {
    starts = record { each = is.bits.starts.each; only = is.bits.starts.only };
    marks = is.bits.marks;
    grays = is.bits.grays;
    dones = is.bits.dones;
    unlogged = queued.unlogged;
  }

  -- the space with these words, whose logs are empty and whose roots are deferred
  module _ (words : List ℕ) (are : tables_in s.limits words ≡ u) where
    abbrev pub after : Space
    after = record s { words = words; logged = emptied s.logged }

    abbrev final : Space
    final = with_roots_deferred after

    still_room : HasRoom final
    still_room = record { registers = is.room.registers; deferred = is.room.deferred; logged = is.room.logged; work = is.room.work; report = is.room.report }

    still_space : IsSpace final
    still_space = record { limits = is.space.limits; size = ap (λ t. t.size) are ∙ is.space.size }

    image_then : IsImage (tables_of final) s.limits.blocks at m.state.graph (members then)
    image_then =
        subst (λ t. IsImage t s.limits.blocks at m.state.graph (members then)) (sym are)
        (subst (IsImage u s.limits.blocks at m.state.graph) (sym (append-nil us)) (image_still (tables_of s) u s.limits.blocks at m.state.graph us us refl (λ n h. h) is.image))

    rest_then : KeepsRest final then at
    rest_then = record {
      rest = inl is.no_rest;
      apart = λ n o k h covers. let empty = is.no_rest in elim (cases_lt k s.rest_next) [ inl below ↦ inl below | inr above ↦ inr (omega (arith, empty, above)) ];
    }

    pub holds_then : HoldsMoment final then at
    holds_then = record {
      space = still_space;
      room = still_room;
      follows = settled_follows m promoted stuck is.follows is.raised;
      image = record { image = image_then; registers = is.registers; deferred = is.registers; world = is.world };
      as_many = (is.as_many.0, is.as_many.0);
      bits = subst (λ t. HasBits t then at us) (sym are) has_bits;
      logs = IsPermutation-refl [];
      few_logs = omega arith;
      counts = subst (λ t. HasCounts t then at) (sym are) has_counts;
      decrements = subst (λ t. HasDecrements s.limits t then at) (sym are) has_decrements;
      marks = subst (λ t. HasMarks t m.state.graph at us) (sym are) (marks_still (tables_of s) u m.state.graph at us refl is.marks);
      lines = λ n o k h. no_member n h;
      unchosen = λ n h. no_member n h;
      unused = subst (λ t. FreeAreUnused t at us) (sym are) (record { objects = is.unused.objects; outs = is.unused.outs });
      blocks = subst (λ t. HasBlocks t s.limits m.trace) (sym are) (blocks_still (tables_of s) u s.limits m.trace refl queued.tracing is.blocks);
      rest = rest_then;
      no_work = is.no_work;
    }

    pub undecremented_then : IsUndecremented (tables_of after) then at
    undecremented_then = subst (λ t. IsUndecremented t then at) (sym are) undecremented

-- ---- the calls

-- nothing but the list of decrements, cursors and unlogged bits has changed
all_keep : (s : Space) → all_queued s ≡ appended (tables_of s) (all_queued s).decs (all_queued s).cursors (all_queued s).unlogged
all_keep s =
    let t = tables_of s in
    let v = with_entries t s.logged.items in
    let u = all_queued s in
    registers_keep v s.deferred.items s.registers.items ∙ ap (λ x. appended x u.decs u.cursors u.unlogged) (entries_keep t s.logged.items)

-- each other cursor stays
cursors_keep : (s : Space) (k : ℕ) → k ≢ DECREMENT_COUNT → (all_queued s).cursors k ≡ (tables_of s).cursors k
cursors_keep s k ne =
    let other : nat_eq k 6 ≡ false = grind (arith, nat_tests) in
    registers_cursors (with_entries (tables_of s) s.logged.items) s.deferred.items s.registers.items k other ∙ entries_cursors (tables_of s) s.logged.items k other

-- so lists and counters do
all_kept : (s : Space) → KeepsListsAndCounters (tables_of s) (appended (tables_of s) (all_queued s).decs (all_queued s).cursors (all_queued s).unlogged)
all_kept s = record { heap = refl; reuse = refl; runs = refl; frees = refl; remembered = refl; cursors = λ k other. cursors_keep s k }

-- entries, registers, and then the logs are emptied
pub queues : (s e r : Space) (logs : Roomy LogEntry) (m : Moment) (at : Name → ℕ) (promoted stuck : List Name) → IsRaised s m at promoted stuck → HoldFew s.deferred s.limits.threads
    → Turns s e (with_entries (tables_of s) s.logged.items) → Turns e r (with_registers (tables_of e) e.deferred.items e.registers.items) → logs ≡ emptied r.logged
    → Queues s (record r { logged = logs }) m at promoted stuck
queues s e r logs m at promoted stuck is few first second cleared =
    let u = all_queued s in
    let both = turns_then s e r (with_entries (tables_of s) s.logged.items) (with_registers (tables_of e) e.deferred.items e.registers.items) first second in
    let lists : with_registers (tables_of e) e.deferred.items e.registers.items ≡ u =
    ap (λ t. with_registers t e.deferred.items e.registers.items) first.tables
    ∙ ap (λ x. with_registers (with_entries (tables_of s) s.logged.items) x.deferred.items x.registers.items) first.rest in
    let are : tables_in s.limits r.words ≡ appended (tables_of s) u.decs u.cursors u.unlogged =
    sym (ap (λ x. tables_in x.limits r.words) both.rest) ∙ both.tables ∙ lists ∙ all_keep s in
    let queued : AreQueued s m at promoted stuck (appended (tables_of s) u.decs u.cursors u.unlogged) =
    subst (AreQueued s m at promoted stuck) (all_keep s) (are_queued s m at promoted stuck is few) in
    let empty : logs ≡ emptied s.logged = cleared ∙ ap (λ x. emptied x.logged) both.rest in
    let ends : record r { logged = logs } ≡ after s m at promoted stuck is u.decs u.cursors u.unlogged queued r.words are = λ j. record (both.rest j) { logged = empty j } in
    let final : tables_of (record r { logged = logs }) ≡ appended (tables_of s) u.decs u.cursors u.unlogged = ap tables_of ends ∙ are in
    record {
      holds = subst (λ x. HoldsMoment (with_roots_deferred x) (settled m promoted stuck) at) (sym ends) (holds_then s m at promoted stuck is u.decs u.cursors u.unlogged queued r.words are);
      undecremented = subst (λ x. IsUndecremented (tables_of x) (settled m promoted stuck) at) (sym ends) (undecremented_then s m at promoted stuck is u.decs u.cursors u.unlogged queued r.words are);
      decrements = ap (λ x. decrement_list (tables_of x)) ends ∙ ap decrement_list are ∙ all_joined (tables_of s) s.logged.items s.deferred.items s.registers.items;
      none_out = λ line. ap (λ x. (tables_of x).outs line) ends ∙ ap (λ t. t.outs line) are ∙ is.none_out line;
      keeps = subst (KeepsListsAndCounters (tables_of s)) (sym final) (all_kept s);
      tables = final ∙ sym (ap {A = Tables} (λ t. appended (tables_of s) t.decs t.cursors t.unlogged) final);
      space = ends;
    }
