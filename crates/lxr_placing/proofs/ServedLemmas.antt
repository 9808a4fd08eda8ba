-- A space at rest is so once an object is made for a thread.
use Rattle.std.proofs.Common.{◌≡◌, ◌≢◌, ℕ, ◌+◌, ◌-◌, ◌*◌, ◌/◌, ◌^◌, ◌<◌, ◌≤◌, ◌⊎◌, refl, sym, ap, subst, ◌∙◌, inl, inr, arith, false, List, ◌∷◌, length}
use Rattle.std.specs.Prelude.{Some, IsTrue, slice_set}
use Rattle.std.specs.List.Sorted.{IsPermutation}
use Rattle.std.proofs.lemmas.List.{length-map, length-set}
use Rattle.std.proofs.lemmas.Bool.{or_left, or_right}
use Rattle.lxr_layout.specs.declared.Name.{Name}
use Rattle.lxr_layout.specs.declared.Place.{Place}
use Rattle.lxr_layout.specs.declared.Shape.{Shape}
use Rattle.lxr_layout.specs.declared.TheConstants.{GRANULES_IN_BLOCK, GRANULES_IN_LINE, LINES_IN_BLOCK, REGISTERS, STUCK}
use Rattle.lxr_layout.specs.Objects.{FitsShape}
use Rattle.lxr_graph.specs.declared.Op.TheVariants as op
use Rattle.lxr_graph.specs.declared.Reply.TheVariants as reply
use Rattle.lxr_graph.specs.State.{Graph, Object, refs_of, register_index, world_name}
use Rattle.lxr_graph.specs.Step.{fresh}
use Rattle.lxr_graph.specs.Names.{has, same_name}
use Rattle.lxr_graph.proofs.NameSets.{insert_cases, not_both, same_itself}
use Rattle.lxr_image.specs.declared.space.Space.{Space}
use Rattle.lxr_image.specs.Tables.{Tables, tables_in}
use Rattle.lxr_image.specs.Spaces.{tables_of}
use Rattle.lxr_image.specs.Reads.{IsName, granule_of}
use Rattle.lxr_image.specs.Image.{ArePlacesOf, IsImage, granules_of, place_word}
use Rattle.lxr_image.specs.ImageLaws.{placed}
use Rattle.lxr_image.proofs.ImageLemmas.{places_still, register_keeps_places}
use Rattle.lxr_image.proofs.NewLemmas.{new_keeps_image, placed_here}
use Rattle.lxr_blocks.specs.declared.states.BlockState.TheVariants.{Chosen}
use Rattle.lxr_blocks.specs.Lines.{is_free}
use Rattle.lxr_blocks.specs.Kept.{IsAmong, IsPlacedBeside}
use Rattle.lxr_blocks.specs.States.{state_in}
use Rattle.lxr_blocks.specs.Handing.{handed_out}
use Rattle.lxr_blocks.specs.Listing.{TurnsWithRest}
use Rattle.lxr_blocks.specs.Placing.{IsFull, IsPlaced, IsRest, first_granule, granule_count, with_object}
use Rattle.lxr_model.specs.Reachable.{held, the_world}
use Rattle.lxr_model.specs.Moments.{Moment, after_call}
use Rattle.lxr_model.specs.References.{references}
use Rattle.lxr_model_counting.specs.Following.{FollowsPause}
use Rattle.lxr_model_counting.proofs.FollowingLemmas.{call_follows}
use Rattle.lxr_invariant.specs.AbstractState.{AbstractState, members}
use Rattle.lxr_invariant.specs.Standing.{HasBits}
use Rattle.lxr_invariant.specs.Counting.{HasCounts, HasDecrements, IsUndecremented, listed_at, undone, waiting_at}
use Rattle.lxr_invariant.specs.Lines.{AvoidChosen, Covers, HasBlocks, HasMarks, HasStates, KeepLines, KeepsRest, LinesAreOut, OutsAreTaken, FreeAreUnused}
use Rattle.lxr_invariant.specs.Tracing.{IsTracedBy}
use Rattle.lxr_invariant.specs.Quiescent.{HoldsMoment, IsAtRest}
use Rattle.lxr_invariant.proofs.NameLemmas.{in_first, in_second, live_member}
use Rattle.lxr_invariant.proofs.FrameLemmas.{rest_still}
use Rattle.lxr_invariant.proofs.BlockLemmas.{blocks_kept, still_not}
use Rattle.lxr_invariant.proofs.MemberLemmas.{member_refers, undone_all}
use Rattle.lxr_invariant.proofs.RestLemmas.{entries_stay}
use Rattle.lxr_placing.specs.Placing.{IsServable, IsServed, IsServedFrom}
use Rattle.lxr_placing.proofs.PlacingLemmas.{IsTakenIn, counter_stays, has_room, placed_apart, placed_states}
use Rattle.lxr_placing.proofs.NewLemmas.{IsBeside, covers_after, covers_before, graph_then, is_beside, moment_then, new_name, own_covers, places_then, size_fresh}
use Rattle.lxr_placing.proofs.TraceLemmas.{traced_served}

-- ---- the whole

-- a space with these words, registers and rest beside all else as it is
abbrev pub with_rest : Space → List ℕ → List Place → ℕ → ℕ → Space
with_rest s words places next end = record s { words = words; registers = record s.registers { items = places }; rest_next = next; rest_end = end }

-- a line of which an object has a granule lies in the object's block
block_of_line : (a c k line : ℕ) → a / GRANULES_IN_BLOCK ≡ (a + c - 1) / GRANULES_IN_BLOCK → a ≤ k → k < a + c → k / GRANULES_IN_LINE ≡ line → a / GRANULES_IN_BLOCK ≡ line / LINES_IN_BLOCK
block_of_line a c k line same low high of_line = omega arith

-- the tables with the heap, the lines that are out, the reuse counters and the states of blocks that another space has
abbrev with_placed : Tables → Space → Tables
with_placed t after = record t { heap = (tables_of after).heap; outs = (tables_of after).outs; reuse = (tables_of after).reuse; states = (tables_of after).states }

-- An object is made for a thread at a place of a space at rest, beside all that stands there.
module _ (space after : Space) (g : AbstractState) (thread dest : ℕ) (place : Place) (shape : Shape) (is : IsAtRest space g) (row : thread < length g.moment.state.graph) (fits : FitsShape shape) (name : IsName (new_name g thread))
    (follows : FollowsPause (moment_then g thread dest shape)) (placed : IsPlacedBeside space after (IsTakenIn g) (new_name g thread) shape place) (by_lines : HasStates (tables_of after) space.limits.blocks) where
  abbrev p : ℕ
  p = place.0

  -- the tables then: those of the space after it, which has no other tables changed
  abbrev tables : Tables
  tables = with_placed (tables_of space) after

  same : tables_in space.limits after.words ≡ tables
  same = ap tables_of (sym placed.space) ∙ placed.tables

  abbrev then : Moment
  then = moment_then g thread dest shape

  -- the members stand beside the new object
  beside : IsBeside g thread dest p shape
  beside = is_beside g thread dest p shape row (λ q h. let a = is.safepoint.holds.image.image.stands q h in (a.0, a.1))

  -- an unreclaimed name stands where it did
  kept_at : (q : Name) → IsTrue (has g.moment.unreclaimed q) → places_then g thread p q ≡ g.at q
  kept_at q h = beside.old_at q (in_first g.moment.unreclaimed g.moment.made q h)

  -- what was made since the last pause was a member
  before : (q : Name) → IsTrue (has g.moment.made q) → IsTrue (has (members g.moment) q)
  before q h = in_second g.moment.unreclaimed g.moment.made q h

  -- a granule of the new object is one of those that it was placed on
  own_among : (m : Name) (o : Object) (k : ℕ) → m ≡ new_name g thread → Covers (graph_then g thread shape) (places_then g thread p) m o k → IsAmong (granule_of p) (granule_count shape) k
  own_among m o k e covers = own_covers g thread dest p shape m o k beside e covers

  -- each line of an object made since the last pause is out
  lines_out : LinesAreOut tables (graph_then g thread shape) (places_then g thread p) then.made
  lines_out m o k member covers = elim (insert_cases (new_name g thread) g.moment.made m member) [
    | inl e ↦ (placed.outs (k / GRANULES_IN_LINE)).1 (inr (k, own_among m o k e covers, refl))
    | inr h ↦ (placed.outs (k / GRANULES_IN_LINE)).1 (inl (is.safepoint.holds.lines m o k h (covers_before g thread dest p shape m o k beside (before m h) covers)))
  ]

  -- a granule of a member was one of a member, or is one of the new object
  taken_then : (m : Name) (o : Object) (k : ℕ) → IsTrue (has (members then) m) → Covers (graph_then g thread shape) (places_then g thread p) m o k → IsTakenIn g k ⊎ IsAmong (granule_of p) (granule_count shape) k
  taken_then m o k member covers = elim (beside.member m member) [
    | inl e ↦ inr (own_among m o k e covers)
    | inr h ↦ inl (m, o, h, covers_before g thread dest p shape m o k beside h covers)
  ]

  -- no line that an object overlaps is free
  lines_kept : KeepLines tables (graph_then g thread shape) (places_then g thread p) (members then)
  lines_kept m o k member covers = subst (λ t. is_free t (k / GRANULES_IN_LINE) ≡ false) placed.tables (placed.kept.lines k (taken_then m o k member covers))

  -- the heap is the image of the graph with the new object
  image_served : IsImage tables space.limits.blocks (places_then g thread p) (graph_then g thread shape) (members then)
  image_served =
      let m : Moment = g.moment in
      let n : Name = new_name g thread in
      let image = new_keeps_image (tables_of space) tables space.limits.blocks g.at m.state.graph (members m) thread shape p is.safepoint.holds.image.image row fits name
      (λ q a i in_m has_a e. beside.unmade (member_refers m q n a i is.safepoint.holds.follows in_m has_a e)) (has_room space after g n shape place placed)
      (record { header = placed.written.header; zeros = placed.written.zeros; others = placed.written.others }) in
      let among : (q : Name) → IsTrue (has (members then) q) → IsTrue (has (n ∷ members m) q) = λ q h. elim (beside.member q h) [
        | inl e ↦ or_left (same_name q n) (has (members m) q) (ap (λ z. same_name z n) e ∙ same_itself n)
        | inr k ↦ or_right (same_name q n) (has (members m) q) k
      ] in
      record {
        stands = λ q h. image.stands q (among q h);
        apart = λ q r a b hq hr. image.apart q r a b (among q hq) (among r hr);
      }

  -- counts stay, and so do the marks of lines
  marks_served : HasMarks tables (graph_then g thread shape) (places_then g thread p) g.moment.unreclaimed
  marks_served =
      let m : Moment = g.moment in
      let is_member : (q : Name) → IsTrue (has m.unreclaimed q) → IsTrue (has (members m) q) = λ q h. in_first m.unreclaimed m.made q h in
      record {
        marked = λ q o k h there mark. is.safepoint.holds.marks.marked q o k h (sym (beside.old_object q (is_member q h)) ∙ there) (record {
          begins = mark.begins;
          behind = subst (λ z. granule_of z < k) (kept_at q h) mark.behind;
          within = subst (λ z. k < granule_of z + granules_of o) (kept_at q h) mark.within;
        });
        elsewhere = λ k none bare. is.safepoint.holds.marks.elsewhere k (λ q h e. none q h (ap granule_of (kept_at q h) ∙ e))
            (λ q o h there mark. bare q o h (beside.old_object q (is_member q h) ∙ there) (record {
              begins = mark.begins;
              behind = subst (λ z. granule_of z < k) (sym (kept_at q h)) mark.behind;
              within = subst (λ z. k < granule_of z + granules_of o) (sym (kept_at q h)) mark.within;
            }));
      }

  -- and what they say of unreclaimed objects
  counts_served : HasCounts tables then (places_then g thread p)
  counts_served =
      let m : Moment = g.moment in
      let t : Tables = tables_of space in
      let to : Name → ℕ = places_then g thread p in
      let old = is.safepoint.holds.counts in
      record {
        stuck = λ q h stuck. ap (λ z. t.counts (granule_of z)) (kept_at q h) ∙ old.stuck q h stuck;
        below = λ q h loose. subst (λ z. t.counts (granule_of z) < STUCK) (sym (kept_at q h)) (old.below q h loose);
        exact = λ q h loose. ap (λ z. t.counts (granule_of z)) (kept_at q h) ∙ old.exact q h loose
            ∙ ap (λ z. references m.last z q + waiting_at t (g.at q)) (undone_all t g.at to m.unreclaimed is.undecremented.none_done)
            ∙ ap (λ z. references m.last (undone t to m.unreclaimed) q + waiting_at t z) (sym (kept_at q h));
        held = λ q h loose. subst (λ z. references m.last m.unreclaimed q + listed_at t z ≢ 0) (sym (kept_at q h)) (old.held q h loose);
        done = λ q h done. absurd (not_both (t.dones (granule_of (to q))) done (is.undecremented.none_done (granule_of (to q))));
        dead = λ q h done. absurd (not_both (t.dones (granule_of (to q))) done (is.undecremented.none_done (granule_of (to q))));
      }

  -- bits stay, and tell of the same objects
  bits_served : HasBits tables then (places_then g thread p) g.moment.unreclaimed
  bits_served =
      let m : Moment = g.moment in
      let t : Tables = tables_of space in
      let is_member : (q : Name) → IsTrue (has m.unreclaimed q) → IsTrue (has (members m) q) = λ q h. in_first m.unreclaimed m.made q h in
      let bits = is.safepoint.holds.bits in
      record {
        starts = record {
          each = λ q h. subst (λ z. IsTrue (t.starts (granule_of z))) (sym (kept_at q h)) (bits.starts.each q h);
          only = λ k start. let a = bits.starts.only k start in (a.0, a.1, ap granule_of (kept_at a.0 a.1) ∙ a.2);
        };
        marks = bits.marks;
        grays = bits.grays;
        dones = bits.dones;
        unlogged = λ w. (
          λ bit. let a = (bits.unlogged w).0 bit in (
            a.0,
            a.1,
            record {
              member = a.2.member;
              index = subst (λ z. a.1 < length (refs_of z)) (sym (beside.old_object a.0 (is_member a.0 a.2.member))) a.2.index;
              unwritten = a.2.unwritten;
              word = a.2.word ∙ ap (λ z. 2 * (z - 1) + 1 + a.1) (sym (kept_at a.0 a.2.member));
            },
          ),
          λ a. (bits.unlogged w).1 (
            a.0,
            a.1,
            record {
              member = a.2.member;
              index = subst (λ z. a.1 < length (refs_of z)) (beside.old_object a.0 (is_member a.0 a.2.member)) a.2.index;
              unwritten = a.2.unwritten;
              word = a.2.word ∙ ap (λ z. 2 * (z - 1) + 1 + a.1) (kept_at a.0 a.2.member);
            },
          ),
        );
      }

  -- the block of the new object isn't Chosen
  own_unchosen : state_in tables (granule_of p / GRANULES_IN_BLOCK) ≢ Chosen
  own_unchosen = still_not (tables_of space) tables (granule_of p / GRANULES_IN_BLOCK) Chosen refl (placed.states (granule_of p / GRANULES_IN_BLOCK)) placed.unchosen

  -- each line that is out is overlapped by an object that was there, or by the new one
  outs_served : OutsAreTaken tables (graph_then g thread shape) (places_then g thread p) (members then)
  outs_served =
      let n : Name = new_name g thread in
      let here : places_then g thread p n ≡ p = placed_here g.at n p in
      record {
        taken = λ line out. elim ((placed.outs line).0 out) [
          | inl was ↦
              let a = is.outs.taken line was in
              (a.0, a.1, a.2, beside.old_member a.0 a.3, covers_after g thread dest p shape a.0 a.1 a.2 beside a.3 a.4, a.5)
          | inr (k, own, of_line) ↦ (
            n,
            fresh shape,
            k,
            beside.own_member,
            record {
              object = beside.own_object;
              first = subst (λ z. granule_of z ≤ k) (sym here) own.0;
              behind = subst (λ z. k < granule_of z + granules_of (fresh shape)) (sym here) (subst (λ z. k < granule_of p + z) (sym (size_fresh shape)) own.1);
            },
            of_line,
          )
        ];
        outside = λ line out. elim ((placed.outs line).0 out) [
          | inl was ↦ still_not (tables_of space) tables (line / LINES_IN_BLOCK) Chosen refl (placed.states (line / LINES_IN_BLOCK)) (is.outs.outside line was)
          | inr (k, own, of_line) ↦ subst (λ z. state_in tables z ≢ Chosen) (block_of_line (granule_of p) (granule_count shape) k line placed.in_block own.0 own.1 of_line) own_unchosen
        ];
      }

  -- no object made since the last pause lies in a Chosen block
  made_unchosen : AvoidChosen tables (places_then g thread p) then.made
  made_unchosen q member = elim (insert_cases (new_name g thread) g.moment.made q member) [
    | inl e ↦ subst (λ z. state_in tables (granule_of z / GRANULES_IN_BLOCK) ≢ Chosen) (sym (ap (places_then g thread p) e ∙ placed_here g.at (new_name g thread) p)) own_unchosen
    | inr was ↦ subst (λ z. state_in tables (granule_of z / GRANULES_IN_BLOCK) ≢ Chosen) (sym (beside.old_at q (before q was)))
        (still_not (tables_of space) tables (granule_of (g.at q) / GRANULES_IN_BLOCK) Chosen refl (placed.states (granule_of (g.at q) / GRANULES_IN_BLOCK)) (is.safepoint.holds.unchosen q was))
  ]

  -- blocks that are Free are unused still
  unused_served : FreeAreUnused tables (places_then g thread p) g.moment.unreclaimed
  unused_served =
      let d = is.safepoint.holds in
      record {
        objects = λ q h free. d.unused.objects q h (placed.free (granule_of (g.at q) / GRANULES_IN_BLOCK) (ap (λ z. state_in tables (granule_of z / GRANULES_IN_BLOCK)) (sym (kept_at q h)) ∙ free)).0;
        outs = λ line out free. let was = placed.free (line / LINES_IN_BLOCK) free in d.unused.outs line (was.1 line refl out) was.0;
      }

  -- no decrementer has worked
  undecremented_served : IsUndecremented tables then (places_then g thread p)
  undecremented_served = record {
    none_done = is.undecremented.none_done;
    none_drawn = is.undecremented.none_drawn;
    positive = λ q h e. is.undecremented.positive q h (ap (λ z. (tables_of space).counts (granule_of z)) (sym (kept_at q h)) ∙ e);
  }

  -- what a register held stands where it did, and the thread's register holds the new object
  registers_served : ArePlacesOf (places_then g thread p) (slice_set space.registers.items (register_index thread dest) place) then.state.registers
  registers_served =
      let m : Moment = g.moment in
      let d = is.safepoint.holds in
      let to : Name → ℕ = places_then g thread p in
      let old : ArePlacesOf to space.registers.items m.state.registers =
      d.image.registers ∙ places_still g.at to m.state.registers (λ i q e. beside.old_at q (live_member m q d.follows (d.follows.held q (i, e)))) in
      register_keeps_places to space.registers.items m.state.registers (register_index thread dest) place (Some (new_name g thread)) old (sym (placed_here g.at (new_name g thread) p))

  -- what a deferred register holds stands where it did
  deferred_served : ArePlacesOf (places_then g thread p) space.deferred.items g.moment.last.registers
  deferred_served =
      is.safepoint.holds.image.deferred
      ∙ places_still g.at (places_then g thread p) g.moment.last.registers (λ i q e. kept_at q (is.safepoint.holds.follows.kept q (held (i, e))))

  -- the space then: the thread's register holds the place besides
  abbrev served : Space
  served = with_rest space after.words (slice_set space.registers.items (register_index thread dest) place) after.rest_next after.rest_end

  -- nothing stands in what is left of the lines that were placed on last
  rest_served : KeepsRest served then (places_then g thread p)
  rest_served = record {
    rest = rest_still (record space { words = after.words; rest_next = after.rest_next; rest_end = after.rest_end }) served refl refl refl refl refl (subst IsRest placed.space placed.rest);
    apart = λ q o k member covers. placed.kept.rest k (taken_then q o k member covers);
  }

  -- the space holds the moment then
  holds_served : HoldsMoment served then (places_then g thread p)
  holds_served =
      let m : Moment = g.moment in
      let to : Name → ℕ = places_then g thread p in
      let h : Graph = graph_then g thread shape in
      let d = is.safepoint.holds in
      record {
        space = record { limits = d.space.limits; size = ap (λ z. z.size) same ∙ d.space.size };
        room = record { registers = d.room.registers; deferred = d.room.deferred; logged = d.room.logged; work = d.room.work; report = d.room.report };
        as_many = (length-set space.registers.items (register_index thread dest) place ∙ d.as_many.0, d.as_many.1);
        follows = follows;
        image = record {
          image = subst (λ z. IsImage z space.limits.blocks to h (members then)) (sym same) image_served;
          registers = registers_served;
          deferred = deferred_served;
          world = kept_at world_name (d.follows.kept world_name the_world) ∙ d.image.world;
        };
        bits = subst (λ z. HasBits z then to m.unreclaimed) (sym same) bits_served;
        logs = subst (λ es. IsPermutation es space.logged.items) (sym (entries_stay m then g.at to refl d.follows kept_at)) d.logs;
        few_logs = d.few_logs;
        counts = subst (λ z. HasCounts z then to) (sym same) counts_served;
        decrements = subst (λ z. HasDecrements space.limits z then to) (sym same) (record {
          fits = d.decrements.fits;
          places = λ i low. let a = d.decrements.places i low in (a.0, a.1, a.2 ∙ sym (kept_at a.0 a.1));
        });
        marks = subst (λ z. HasMarks z h to m.unreclaimed) (sym same) marks_served;
        lines = subst (λ z. LinesAreOut z h to then.made) (sym same) lines_out;
        unchosen = subst (λ z. AvoidChosen z to then.made) (sym same) made_unchosen;
        unused = subst (λ z. FreeAreUnused z to m.unreclaimed) (sym same) unused_served;
        blocks = subst (λ z. HasBlocks z space.limits m.trace) (sym same) (blocks_kept (tables_of space) tables space.limits m.trace placed.states refl d.blocks);
        rest = rest_served;
        no_work = d.no_work;
      }

  -- it is at rest
  pub rests_served : IsAtRest served (record g { moment = then; at = places_then g thread p })
  rests_served =
      let to : Name → ℕ = places_then g thread p in
      let h : Graph = graph_then g thread shape in
      let d = is.safepoint.holds in
      let numbers = is.safepoint.numbers in
      record {
        safepoint = record {
          holds = holds_served;
          numbers = record { pauses = numbers.pauses; trace = numbers.trace; report = numbers.report };
          traced = subst (λ z. IsTracedBy space.limits z space.logged.items (record g { moment = then; at = to }) g.moment.trace) (sym same)
              (traced_served (tables_of space) tables.heap tables.outs tables.reuse tables.states space.limits.blocks g thread dest p shape space.logged.items d.follows d.image.image beside is.lines placed.states
              (counter_stays space after g (new_name g thread) shape place placed d.rest.rest) space.limits g.moment.trace is.safepoint.traced);
        };
        undecremented = subst (λ z. IsUndecremented z then to) (sym same) undecremented_served;
        lines = subst (λ z. KeepLines z h to (members then)) (sym same) lines_kept;
        outs = subst (λ z. OutsAreTaken z h to (members then)) (sym same) outs_served;
        states = subst (λ z. HasStates z space.limits.blocks) (sym same) (subst (λ z. HasStates z space.limits.blocks) placed.tables by_lines);
      }

-- ---- an object was placed, and a register holds it

-- the graph has a row for each thread
pub row_of_thread : (s : Space) (g : AbstractState) (thread : ℕ) → IsAtRest s g → 1 ≤ thread → thread ≤ s.limits.threads → thread < length g.moment.state.graph
row_of_thread s g thread is some within =
    let d = is.safepoint.holds in
    let registers = g.moment.state.registers in
    let long : length s.registers.items ≡ length registers =
    sym (length-map s.registers.items (λ p. p.0)) ∙ ap length d.image.registers ∙ length-map registers (place_word g.at) in
    let many = d.as_many.0 in
    let rows = d.follows.registers in
    omega (arith, long, many, rows)

-- a space in which registers hold these places
abbrev pub with_places : Space → List Place → Space
with_places space places = record space { registers = record space.registers { items = places } }

-- so the space is at rest where an object was placed and a register holds it
placed_rests : (before after : Space) (g : AbstractState) (thread dest : ℕ) (shape : Shape) (p : Place) → IsAtRest before g → (1 ≤ thread) × (thread ≤ before.limits.threads) → dest < REGISTERS
    → FitsShape shape → IsName (new_name g thread) → IsPlaced before after (new_name g thread) shape p
    → IsAtRest (with_places after (slice_set after.registers.items (register_index thread dest) p)) (record g { moment = moment_then g thread dest shape; at = places_then g thread p.0 })
placed_rests before after g thread dest shape p is within small fits name at_place =
    let n : Name = new_name g thread in
    let placed : IsPlacedBeside before after (IsTakenIn g) n shape p = placed_apart before after g n shape p is fits at_place in
    let row = row_of_thread before g thread is within.0 within.1 in
    let follows = call_follows g.moment thread (op.New dest shape) (reply.New n) is.safepoint.holds.follows (small, fits) (refl, row, within.0) in
    let by_lines = placed_states before after n shape p at_place is.states in
    subst (λ z. IsAtRest z (record g { moment = moment_then g thread dest shape; at = places_then g thread p.0 }))
    (sym (ap (λ z. with_places z (slice_set z.registers.items (register_index thread dest) p)) placed.space))
    (rests_served before after g thread dest p shape is row fits name follows placed by_lines)

-- a thread's number and a serial of 32 bits make a name
is_name : (name : Name) (threads : ℕ) → name.thread ≤ threads → threads ≤ 255 → name.serial < 2 ^ 32 → IsName name
is_name name threads within few serial = record { thread = omega arith; serial = serial }

-- so it is whatever the space stood for
placed_serves : (before after : Space) (name : Name) (dest : ℕ) (shape : Shape) (p : Place) → (1 ≤ name.thread) × (name.thread ≤ before.limits.threads) → dest < REGISTERS → FitsShape shape → name.serial < 2 ^ 32
    → IsPlaced before after name shape p → (g : AbstractState) → IsServable before g name
    → IsServedFrom (with_places after (slice_set after.registers.items (register_index name.thread dest) p)) g name dest shape p
placed_serves before after name dest shape p within small fits serial at_place g is =
    let last : Space = with_places after (slice_set after.registers.items (register_index name.thread dest) p) in
    let named = is_name name before.limits.threads within.1 is.rests.safepoint.holds.space.limits.threads.1 serial in
    let rests = placed_rests before after g name.thread dest shape p is.rests within small fits (subst IsName is.next named) (subst (λ z. IsPlaced before after z shape p) is.next at_place) in
    record {
      reply = ap reply.New (sym is.next);
      rests = subst (λ z. IsAtRest last (record g { moment = after_call g.moment name.thread (op.New dest shape) (reply.New z); at = placed g.at z p.0 })) (sym is.next) rests;
    }

-- ---- a `new` is served

-- nothing but the words, what registers hold and the rest has changed
abbrev pub KeepsOthers : Space → Space → Type 0
KeepsOthers before after = after ≡ record before {
  words = after.words;
  registers = record before.registers { items = after.registers.items };
  rest_next = after.rest_next;
  rest_end = after.rest_end;
}

-- where words and the rest have turned, nothing else has once registers hold these places
turned_keeps : (before after : Space) (t : Tables) (next end : ℕ) (places : List Place) → TurnsWithRest before after t next end → KeepsOthers before (with_places after places)
turned_keeps before after t next end places changes =
    let next_is : next ≡ after.rest_next = sym (ap (λ z. z.rest_next) changes.rest) in
    let end_is : end ≡ after.rest_end = sym (ap (λ z. z.rest_end) changes.rest) in
    ap (λ z. with_places z places) changes.rest
    ∙ (λ i. record before { words = after.words; registers = record before.registers { items = places }; rest_next = next_is i; rest_end = end_is i })

-- so it is where an object was placed
placed_keeps : (before after : Space) (name : Name) (shape : Shape) (p : Place) (places : List Place) → IsPlaced before after name shape p → KeepsOthers before (with_places after places)
placed_keeps before after name shape p places (inl q) =
    turned_keeps before after (with_object (tables_of before) before.rest_next name shape) (before.rest_next + granule_count shape) before.rest_end places q.changes
placed_keeps before after name shape p places (inr (r, q)) =
    turned_keeps before after (with_object (handed_out (tables_of before) r) (first_granule r) name shape) (first_granule r + granule_count shape) (first_granule r + GRANULES_IN_LINE * r.lines) places q.changes

-- and where a `new` was served
pub served_keeps : (before after : Space) (name : Name) (dest : ℕ) (shape : Shape) (p : Place) → IsServed before after name dest shape p → KeepsOthers before after
served_keeps before after name dest shape p served = subst (KeepsOthers before) (sym served.held)
    (placed_keeps before served.middle name shape p (slice_set served.middle.registers.items (register_index name.thread dest) p) served.placed)

-- the `new` whose object was placed is served
pub placed_is_served : (before after : Space) (name : Name) (dest : ℕ) (shape : Shape) (p : Place) → (1 ≤ name.thread) × (name.thread ≤ before.limits.threads) → dest < REGISTERS → FitsShape shape → name.serial < 2 ^ 32
    → (IsFull before shape → ⊥) → IsPlaced before after name shape p
    → IsServed before (with_places after (slice_set after.registers.items (register_index name.thread dest) p)) name dest shape p
placed_is_served before after name dest shape p within small fits serial room at_place = record {
  room = room;
  middle = after;
  placed = at_place;
  held = refl;
  abstract_state = placed_serves before after name dest shape p within small fits serial at_place;
}
