-- The heap once some of the decrements are done before the pause: names that die by it join those that are gone, and blocks get the states of
-- their lines.
use Rattle.std.proofs.Common.{◌≡◌, ℕ, ◌+◌, ◌*◌, ◌/◌, ◌<◌, ◌≤◌, refl, sym, ap, subst, ◌∙◌, inl, inr, arith, Bool, false, List, [], ◌++◌, length}
use Rattle.std.specs.Prelude.{◌&&◌, IsTrue, not}
use Rattle.std.proofs.lemmas.Bool.{false_from_ne_true}
use Rattle.lxr_layout.specs.declared.Name.{Name}
use Rattle.lxr_layout.specs.declared.limits.Limits.{Limits}
use Rattle.lxr_layout.specs.declared.TheConstants.{DECREMENT_COUNT, GRANULES_IN_BLOCK, GRANULES_IN_LINE, LINES_IN_BLOCK}
use Rattle.lxr_graph.specs.Listing.{NameList}
use Rattle.lxr_graph.specs.Distinct.{IsDistinct}
use Rattle.lxr_graph.specs.Names.{has, union, without}
use Rattle.lxr_graph.specs.History.{report_of}
use Rattle.lxr_graph.specs.State.{object_at, refs_of}
use Rattle.lxr_graph.proofs.NameSets.{in_order-none, in_order-union, not_both, without_parts}
use Rattle.lxr_image.specs.declared.space.Space.{Space}
use Rattle.lxr_image.specs.Image.{IsImage}
use Rattle.lxr_image.specs.Opened.{HasReportRoom}
use Rattle.lxr_image.specs.Settled.{AreCounted}
use Rattle.lxr_image.specs.Spaces.{Turns, tables_of}
use Rattle.lxr_image.specs.Tables.{Tables}
use Rattle.lxr_blocks.specs.declared.states.BlockState.TheVariants.{Chosen}
use Rattle.lxr_blocks.specs.Lines.{are_zero, is_free}
use Rattle.lxr_blocks.specs.States.{FreeBlocksAreFree, state_in, state_of}
use Rattle.lxr_blocks.specs.Swept.{with_states_by_lines}
use Rattle.lxr_model.specs.Dead.{Dead}
use Rattle.lxr_model.specs.Moments.{Moment}
use Rattle.lxr_model.proofs.ReachableLemmas.{dead_parts}
use Rattle.lxr_model_counting.specs.Following.{FollowsPause}
use Rattle.lxr_invariant.specs.AbstractState.{leaving, members}
use Rattle.lxr_invariant.specs.Counting.{HasCounts, HasDecrements, IsUndecremented, count_at}
use Rattle.lxr_invariant.specs.Keeping.{KeepsListsAndCounters}
use Rattle.lxr_invariant.specs.Lines.{AvoidChosen, FreeAreUnused, HasBlocks, HasMarks, HasStates, KeepLines, LinesAreOut, OutsAreTaken}
use Rattle.lxr_invariant.specs.Quiescent.{HoldsMoment, IsAtRest}
use Rattle.lxr_invariant.specs.Standing.{HasBits}
use Rattle.lxr_invariant.specs.Tracing.{IsTracedBy}
use Rattle.lxr_invariant.proofs.EntryLemmas.{passing_few}
use Rattle.lxr_invariant.proofs.FrameLemmas.{bits_still, counts_still, decrements_still, image_still, marks_still, undecremented_still}
use Rattle.lxr_invariant.proofs.NameLemmas.{has_append, in_either, in_second}
use Rattle.lxr_invariant.proofs.ToldLemmas.{holds_told}
use Rattle.lxr_invariant.proofs.UnusedLemmas.{free_are_free, unused_by_lines}
use Rattle.lxr_pause_decrements.specs.declared.slices.Slice.{Slice}
use Rattle.lxr_pause_decrements.specs.declared.slices.Slice.TheVariants.{Done, Spent, Held}
use Rattle.lxr_pause_decrements.specs.Slices.{CanFinishSome, Ends, FinishesSome, references_held}
use Rattle.lxr_one_pause.specs.Settling.{survived}
use Rattle.lxr_one_pause.proofs.DistinctnessLemmas.{distinct_append}
use Rattle.lxr_one_pause.proofs.FrameLemmas.{AgreesApartFromBlocks, rest_reworded}
use Rattle.lxr_one_pause.proofs.LeftLemmas.{union_length, without_length}
use Rattle.lxr_one_pause.proofs.OrderLemmas.{has_in_order}
use Rattle.lxr_one_pause.proofs.SweepLemmas.{all_counted, lines_kept, swept_blocks, swept_free, swept_states, was_chosen}
use Rattle.lxr_large_model.specs.Full.{IsFresh}
use Rattle.lxr_large_model.specs.History.{LargeItem, large_moment}
use Rattle.lxr_heap.specs.declared.heap.Heap.{Heap}
use Rattle.lxr_heap.specs.Holding.{AreGone, IsHeapOf, StandAt, abstract_of, last_report}
use Rattle.lxr_heap.specs.Working.{WorksAt, WorksHeap}
use Rattle.lxr_heap.proofs.CallLemmas.{none_dead}
use Rattle.lxr_heap.proofs.EarlyLemmas.{dead_within, without_both}

-- ---- blocks get the states of their lines

-- A space holds the moments that it held, whatever was made since the last pause, where each object has a count.
module _ (s after : Space) (turns : Turns s after (with_states_by_lines (tables_of s) s.limits.blocks)) (m : Moment) (at : Name → ℕ) (h : HoldsMoment s m at) (positive : IsUndecremented (tables_of s) m at) where
  abbrev t : Tables
  t = tables_of s

  abbrev u : Tables
  u = with_states_by_lines t s.limits.blocks

  abbrev there : Space
  there = record s { words = after.words }

  tables_there : tables_of there ≡ u
  tables_there = subst (λ y. tables_of y ≡ u) turns.rest turns.tables

  agree : AgreesApartFromBlocks t (tables_of there)
  agree = record { states = u.states; cursors = t.cursors; tables = tables_there; drawn = refl; waiting = refl }

  holds_there : HoldsMoment there m at
  holds_there = record {
    space = record { limits = h.space.limits; size = ap (λ z. z.size) tables_there ∙ h.space.size };
    room = record { registers = h.room.registers; deferred = h.room.deferred; logged = h.room.logged; work = h.room.work; report = h.room.report };
    as_many = h.as_many;
    follows = h.follows;
    image = record {
      image = subst (λ z. IsImage z s.limits.blocks at m.state.graph (members m)) (sym tables_there) (image_still t u s.limits.blocks at m.state.graph (members m) (members m) refl (λ n k. k) h.image.image);
      registers = h.image.registers;
      deferred = h.image.deferred;
      world = h.image.world;
    };
    bits = subst (λ z. HasBits z m at m.unreclaimed) (sym tables_there) (bits_still t u m at m.unreclaimed refl refl refl refl refl h.bits);
    logs = h.logs;
    few_logs = h.few_logs;
    counts = subst (λ z. HasCounts z m at) (sym tables_there) (counts_still t u m at refl refl refl refl refl h.counts);
    decrements = subst (λ z. HasDecrements s.limits z m at) (sym tables_there) (decrements_still s.limits s.limits t u m at refl refl refl h.decrements);
    marks = subst (λ z. HasMarks z m.state.graph at m.unreclaimed) (sym tables_there) (marks_still t u m.state.graph at m.unreclaimed refl h.marks);
    lines = subst (λ z. LinesAreOut z m.state.graph at m.made) (sym tables_there) h.lines;
    unchosen = subst (λ z. AvoidChosen z at m.made) (sym tables_there) (λ n made e. h.unchosen n made (was_chosen t s.limits.blocks _ e));
    unused = subst (λ z. FreeAreUnused z at m.unreclaimed) (sym tables_there) (unused_by_lines t u at m.unreclaimed refl (swept_free t s.limits.blocks) positive.positive h.unused);
    blocks = subst (λ z. HasBlocks z s.limits m.trace) (sym tables_there) (swept_blocks t s.limits m.trace h.blocks);
    rest = record {
      rest = rest_reworded s after.words s.trace agree (λ b e. was_chosen t s.limits.blocks b (subst (λ z. state_in z b ≡ Chosen) tables_there e)) h.rest.rest;
      apart = h.rest.apart;
    };
    no_work = h.no_work;
  }

  pub holds_settled : HoldsMoment after m at
  holds_settled = subst (λ y. HoldsMoment y m at) (sym turns.rest) holds_there

  pub undecremented_settled : IsUndecremented (tables_of after) m at
  undecremented_settled = subst (λ z. IsUndecremented z m at) (sym turns.tables) (undecremented_still t u m at refl refl refl positive)

  -- no line that an object overlaps is free
  pub lines_settled : KeepLines (tables_of after) m.state.graph at (members m)
  lines_settled n o k member covers = subst (λ (z : Tables). is_free z (k / GRANULES_IN_LINE) ≡ false) (sym turns.tables) (elim (in_either m.unreclaimed m.made n member) [
    | inl old ↦ lines_kept t m.state.graph at m.unreclaimed h.marks positive.positive n o k old covers
    | inr new ↦ ap (λ b. not b && are_zero t.counts (GRANULES_IN_LINE * (k / GRANULES_IN_LINE)) GRANULES_IN_LINE) (h.lines n o k new covers)
  ])

  -- lines that are out stay so
  pub outs_settled : (ns : List Name) → OutsAreTaken t m.state.graph at ns → OutsAreTaken (tables_of after) m.state.graph at ns
  outs_settled ns outs = subst (λ z. OutsAreTaken z m.state.graph at ns) (sym turns.tables) (record {
    taken = outs.taken;
    outside = λ line out e. outs.outside line out (was_chosen t s.limits.blocks (line / LINES_IN_BLOCK) e);
  })

  pub states_settled : HasStates (tables_of after) s.limits.blocks
  states_settled = subst (λ z. HasStates z s.limits.blocks) (sym turns.tables) (swept_states t s.limits.blocks)

-- ---- names that are gone

-- names of which each is one of others are no more than these
few_among : (m : Moment) (gone : List Name) → FollowsPause m → AreGone m gone → length gone ≤ length m.unreclaimed
few_among m gone follows are =
    let once = union_length gone [] are.once (λ n h. refl) in
    let among = without_length m.unreclaimed (union gone []) follows.unreclaimed (in_order-union gone [] in_order-none)
    (λ n h. (dead_parts (are.dead n (sym (has_in_order gone n) ∙ h))).member) in
    omega (arith, once, among)

-- names that die where some are gone join these
more_gone : (m : Moment) (gone more : List Name) → AreGone m gone → IsDistinct more → ((n : Name) → IsTrue (has more n) → Dead m.last (without m.unreclaimed gone) m.stuck n) → AreGone m (gone ++ more)
more_gone m gone more are once die = record {
  once = distinct_append gone more are.once once (λ n here. false_from_ne_true (has more n) (λ there. not_both (has gone n) here (without_parts m.unreclaimed gone n (dead_parts (die n there)).member).1));
  dead = λ n h. elim (in_either gone more n h) [
    | inl old ↦ are.dead n old
    | inr new ↦ dead_within m.last m.unreclaimed m.stuck gone are.dead (die n new)
  ];
}

-- the moment without all of them
without_more : (m : Moment) (gone more : List Name) → leaving (survived m gone) (without (without m.unreclaimed gone) more) ≡ survived m (gone ++ more)
without_more m gone more = ap (leaving m) (without_both m.unreclaimed gone more (gone ++ more) (has_append gone more))

-- ---- the heap

-- The space whose report has for its dead what is gone.
abbrev pub turned_over : Heap → Space
turned_over x = record x.space { report = record x.space.report { dead = x.gone } }

module _ (x : Heap) (h : List LargeItem) (is : IsHeapOf x h) where
  abbrev m : Moment
  m = large_moment h

  -- what is gone before
  abbrev was : List Name
  was = x.gone.items

  abbrev early : Moment
  early = survived m was

  -- some of the decrements may be done
  pub can_work : CanFinishSome (turned_over x) early is.at
  can_work =
      let d = is.stands.0.safepoint.holds in
      let room = d.room.report in
      record {
        holds = holds_told x.space early is.at (turned_over x).report x.space.tally x.space.pauses
            (record { promoted = room.promoted; dead = is.room ∙ room.dead; stuck = room.stuck; swept = room.swept; told = room.told }) d;
        undecremented = is.stands.0.undecremented;
        untraced = is.untraced;
        room = (let few = few_among m was is.follows is.gone in
            let old = is.few in
            let dead = is.room in
            let all = room.dead in
            let most = passing_few (tables_of x.space).starts (GRANULES_IN_BLOCK * x.space.limits.blocks) in
            omega (arith, few, old, dead, all, most));
      }

  -- They were done, and the last pause's report was put back.
  module _ (units : ℕ) (result : Slice) (found : Space) (gone : List Name) (f : FinishesSome (turned_over x) found early is.at units result gone) where
    abbrev between : Space
    between = record found { report = x.space.report }

    abbrev then : Moment
    then = leaving early (without early.unreclaimed gone)

    abbrev list : NameList
    list = record x.gone { items = was ++ gone }

    -- so what is gone is listed behind what was
    pub gone_list : found.report.dead ≡ list
    gone_list = ap (λ (s : Space). s.report.dead) f.space

    -- with the dead of the last report put back, the report is the last one
    pub put_back : (dead : NameList) → dead ≡ x.space.report.dead → record found { report = record found.report { dead = dead } } ≡ between
    put_back dead same = ap (λ (s : Space). record found { report = record s.report { dead = dead } }) f.space ∙ ap (λ d. record found { report = record x.space.report { dead = d } }) same

    keeps : found.limits ≡ x.space.limits
    keeps = ap (λ (s : Space). s.limits) f.space

    between_is : between ≡ record x.space { words = found.words }
    between_is = ap (λ (s : Space). record s { report = x.space.report }) f.space

    pub holds : HoldsMoment between then is.at
    holds =
        let room = is.stands.0.safepoint.holds.room.report in
        let granules = ap (λ (s : Space). GRANULES_IN_BLOCK * s.limits.blocks) (sym f.space) in
        let kept = subst (HasReportRoom x.space.report) granules (record { promoted = room.promoted; dead = room.dead; stuck = room.stuck; swept = room.swept; told = room.told }) in
        holds_told found then is.at x.space.report found.tally found.pauses kept f.holds

    outs_found : OutsAreTaken (tables_of found) m.state.graph is.at m.made
    outs_found = record {
      taken = λ line out. is.stands.1.taken line (subst (λ (o : ℕ → Bool). IsTrue (o line)) f.outs out);
      outside = λ line out e. is.stands.1.outside line (subst (λ (o : ℕ → Bool). IsTrue (o line)) f.outs out) (subst (λ (z : ℕ → ℕ). state_of (z (line / LINES_IN_BLOCK)) ≡ Chosen) f.states e);
    }

    outs_members : OutsAreTaken (tables_of found) m.state.graph is.at (members then)
    outs_members = record {
      taken = λ line out. let a = outs_found.taken line out in (a.0, a.1, a.2, in_second then.unreclaimed m.made a.0 a.3, a.4, a.5);
      outside = outs_found.outside;
    }

    -- each object has a count, and what is Free has free lines alone
    pub counted : AreCounted (tables_of between)
    counted = all_counted (tables_of between) then is.at holds.bits f.undecremented

    pub free : FreeBlocksAreFree (tables_of between) between.limits.blocks
    free = free_are_free between then is.at holds

    -- ---- then blocks got the states of their lines

    module _ (after : Space) (turns : Turns between after (with_states_by_lines (tables_of found) found.limits.blocks)) where
      -- the heap then
      abbrev pub worked : Heap
      worked = record x { space = after; gone = list }

      after_is : after ≡ record x.space { words = after.words }
      after_is = turns.rest ∙ ap (λ (s : Space). record s { words = after.words }) between_is

      rests_settled : IsAtRest after (record (abstract_of x h is.at) { moment = then })
      rests_settled = record {
        safepoint = record {
          holds = holds_settled between after turns then is.at holds f.undecremented;
          numbers = record {
            pauses = ap (λ (s : Space). s.pauses) after_is ∙ is.stands.0.safepoint.numbers.pauses;
            trace = ap (λ (s : Space). s.trace) after_is ∙ is.stands.0.safepoint.numbers.trace;
            report = ap (λ (s : Space). report_of s.report) after_is ∙ is.stands.0.safepoint.numbers.report;
          };
          traced = subst (IsTracedBy after.limits (tables_of after) after.logged.items (record (abstract_of x h is.at) { moment = then })) (sym is.untraced) tt;
        };
        undecremented = undecremented_settled between after turns then is.at holds f.undecremented;
        lines = lines_settled between after turns then is.at holds f.undecremented;
        outs = outs_settled between after turns then is.at holds f.undecremented (members then) outs_members;
        states = subst (HasStates (tables_of after)) (ap (λ (s : Space). s.limits.blocks) (sym turns.rest)) (states_settled between after turns then is.at holds f.undecremented);
      }

      -- so objects stand where they stood
      pub stands_worked : StandAt worked h is.at
      stands_worked = (
        subst (λ k. IsAtRest after (record { moment = k; at = is.at; reported = last_report h })) (without_more m was gone) rests_settled,
        outs_settled between after turns then is.at holds f.undecremented m.made outs_found,
      )

      -- the tables but for the states of blocks
      tables_after : tables_of after ≡ with_states_by_lines (tables_of found) found.limits.blocks
      tables_after = turns.tables

      ends_still : (r : Slice) (lowered : ℕ) → Ends r found then is.at units lowered → Ends r after then is.at units lowered
      ends_still Done lowered ends = ap (λ (t : Tables). t.cursors DECREMENT_COUNT) tables_after ∙ ends
      ends_still Spent lowered ends = ((λ none. ends.0 (sym (ap (λ (t : Tables). t.cursors DECREMENT_COUNT) tables_after) ∙ none)), ends.1)
      ends_still Held lowered (some, held) =
          let k = held.0 in
          let n = held.1 in
          let back = held.2 in (
            some,
            (
              k,
              n,
              record {
                last = ap (λ (t : Tables). t.cursors DECREMENT_COUNT) tables_after ∙ back.last;
                member = back.member;
                entry = ap (λ (t : Tables). t.decs k) tables_after ∙ back.entry;
                count = ap (λ (t : Tables). count_at t is.at n) tables_after ∙ back.count;
                full = subst (λ (l : Limits). l.threads * (l.log + l.registers) < k + length (refs_of (object_at m.last.graph n))) (ap (λ (s : Space). s.limits) (sym turns.rest)) back.full;
              },
            ),
          )

      pub works : WorksAt x worked h is.at units result
      works = record {
        gone = gone;
        more = refl;
        lowered = f.lowers.0;
        lowers = record {
          few = f.lowers.1.few;
          waiting = ap (λ (t : Tables). t.cursors DECREMENT_COUNT + f.lowers.0) tables_after ∙ f.lowers.1.waiting;
          entries = λ k low. ap (λ (t : Tables). t.decs k) tables_after ∙ f.lowers.1.entries k low;
          ends = ends_still result f.lowers.0 f.lowers.1.ends;
        };
        stands = stands_worked;
      }

      keeps_after : KeepsListsAndCounters (tables_of x.space) (tables_of after)
      keeps_after = subst (KeepsListsAndCounters (tables_of x.space)) (sym tables_after) (record {
        heap = f.keeps.heap;
        reuse = f.keeps.reuse;
        runs = f.keeps.runs;
        frees = f.keeps.frees;
        remembered = f.keeps.remembered;
        cursors = f.keeps.cursors;
      })

      -- where a pause is fresh nothing dies, so nothing waits then either
      still_drained : IsFresh h → (tables_of after).cursors DECREMENT_COUNT ≡ 0
      still_drained fresh =
          let none = none_more fresh in
          let none_held = ap (references_held m.last.graph) none in
          let waiting = f.lowers.1.waiting in
          let drained = is.drained fresh in
          let same = ap (λ (t : Tables). t.cursors DECREMENT_COUNT) tables_after in
          let zero : references_held m.last.graph [] ≡ 0 = refl in
          omega (arith, none_held, waiting, drained, same, zero)
        where
          none_more : IsFresh h → gone ≡ []
          none_more fresh = none_dead x h is fresh gone (λ n here. dead_within m.last m.unreclaimed m.stuck was is.gone.dead (f.dead n here))

      pub works_heap : ((at : Name → ℕ) → StandAt x h at → WorksAt x worked h at units result) → WorksHeap x worked h units result
      works_heap each = record {
        works = each;
        keeps = keeps_after;
        outs = ap (λ (t : Tables). t.outs) tables_after ∙ f.outs;
        heap = λ i. record x { space = after_is i; gone = list };
        holds = subst (λ (s : Space). IsHeapOf (record x { space = s; gone = list }) h) (sym after_is) (record {
          legal = is.legal;
          at = is.at;
          stands = subst (λ (s : Space). StandAt (record x { space = s; gone = list }) h is.at) after_is stands_worked;
          gone = more_gone m was gone is.gone f.once f.dead;
          room = is.room;
          follows = is.follows;
          few = is.few;
          untraced = is.untraced;
          limits = is.limits;
          log = is.log;
          tally = is.tally;
          state = is.state;
          world = is.world;
          next = is.next;
          counts = is.counts;
          names = is.names;
          bodies = is.bodies;
          apart = is.apart;
          fresh = is.fresh;
          collected = is.collected;
          drained = λ f. ap (λ (s : Space). (tables_of s).cursors DECREMENT_COUNT) (sym after_is) ∙ still_drained f;
        });
      }
