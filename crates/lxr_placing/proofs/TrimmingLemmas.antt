-- A space whose Free blocks have zeros for words stands for what it stood for.
use Rattle.std.proofs.Common.{◌≡◌, ◌≢◌, ℕ, ◌+◌, ◌-◌, ◌*◌, ◌/◌, ◌<◌, ◌≤◌, refl, sym, ap, subst, ◌∙◌, inl, inr, ◌⊎◌, arith, cond, List, length}
use Rattle.std.specs.Prelude.{IsTrue, Option, Some, None}
use Rattle.std.proofs.lemmas.Bool.Decides.{eqb_tells, nat_tests}
use Rattle.lxr_layout.specs.declared.TheConstants.{GRANULES_IN_BLOCK, WORDS_IN_BLOCK}
use Rattle.lxr_layout.specs.declared.limits.Limits.{Limits}
use Rattle.lxr_layout.specs.declared.LogEntry.{LogEntry}
use Rattle.lxr_layout.specs.declared.Name.{Name}
use Rattle.lxr_layout.specs.Objects.{word_count}
use Rattle.lxr_layout.specs.Places.{first_word}
use Rattle.lxr_graph.specs.History.{report_of}
use Rattle.lxr_graph.specs.Names.{has}
use Rattle.lxr_graph.specs.State.{Object, object_at, shape_of}
use Rattle.lxr_image.specs.declared.space.Space.{Space}
use Rattle.lxr_image.specs.Image.{ArePlacesOf, IsImage, granules_of}
use Rattle.lxr_image.specs.Opened.{HasRoom}
use Rattle.lxr_image.specs.Reads.{granule_of}
use Rattle.lxr_image.specs.Spaces.{BlockIsZero, Turns, tables_of}
use Rattle.lxr_image.specs.Tables.{Tables, changed}
use Rattle.lxr_image.proofs.ImageLemmas.{stands_on, words_even}
use Rattle.lxr_image.proofs.SpaceLemmas.{still_space}
use Rattle.lxr_blocks.specs.declared.states.BlockState.TheVariants.{Free}
use Rattle.lxr_blocks.specs.States.{state_in}
use Rattle.lxr_blocks.proofs.HandingLemmas.{zeroed}
use Rattle.lxr_model.specs.Moments.{Moment, Trace}
use Rattle.lxr_invariant.specs.AbstractState.{AbstractState, members}
use Rattle.lxr_invariant.specs.Standing.{AreLogged, HasBits}
use Rattle.lxr_invariant.specs.Counting.{HasCounts, HasDecrements, IsUndecremented}
use Rattle.lxr_invariant.specs.Lines.{AvoidChosen, FreeAreUnused, HasBlocks, HasMarks, HasStates, KeepLines, LinesAreOut, OutsAreTaken}
use Rattle.lxr_invariant.specs.Tracing.{IsCovered, IsToBeScanned, IsTracedBy, StaysGarbage, TraceHolds}
use Rattle.lxr_invariant.specs.Quiescent.{HoldsMoment, IsAtSafepoint}
use Rattle.lxr_invariant.proofs.NameLemmas.{in_either}
use Rattle.lxr_invariant.proofs.FrameLemmas.{AreAsMany, bits_still, blocks_still, counts_still, decrements_still, marks_still, rest_left, undecremented_still}
use Rattle.lxr_invariant.proofs.UnusedLemmas.{out_used, unused_still}
use Rattle.lxr_placing.specs.Trimming.{StandsForTheSame, with_zeros}

-- ---- one word after another

begun : (t : Tables) (first : ℕ) → t ≡ zeroed t first first
begun t first = λ i. record t { heap = λ w. none w i }
  where
    none : (w : ℕ) → t.heap w ≡ (zeroed t first first).heap w
    none w = grind (arith, nat_tests)

one_more : (t : Tables) (first at : ℕ) → first ≤ at → record (zeroed t first at) { heap = changed (zeroed t first at).heap at 0 } ≡ zeroed t first (at + 1)
one_more t first at from = λ i. record t { heap = λ w. same w i }
  where
    same : (w : ℕ) → changed (zeroed t first at).heap at 0 w ≡ (zeroed t first (at + 1)).heap w
    same w = grind (arith, nat_tests)

whole_block : (t : Tables) (block : ℕ) → zeroed t (WORDS_IN_BLOCK * block) (WORDS_IN_BLOCK * block + WORDS_IN_BLOCK) ≡ with_zeros t block
whole_block t block = λ i. record t { heap = λ w. same w i }
  where
    same : (w : ℕ) → (zeroed t (WORDS_IN_BLOCK * block) (WORDS_IN_BLOCK * block + WORDS_IN_BLOCK)).heap w ≡ (with_zeros t block).heap w
    same w = grind (arith, nat_tests)

-- nothing is zeroed as yet
pub zeroes_none : (s : Space) (first : ℕ) → Turns s s (zeroed (tables_of s) first first)
zeroes_none s first = record { tables = begun (tables_of s) first; rest = refl }

-- one word more is
pub zeroes_more : (s between after : Space) (first at : ℕ) → first ≤ at → Turns s between (zeroed (tables_of s) first at)
    → Turns between after (record (tables_of between) { heap = changed (tables_of between).heap at 0 }) → Turns s after (zeroed (tables_of s) first (at + 1))
zeroes_more s between after first at from so_far one = record {
  tables = one.tables ∙ ap (λ (t : Tables). record t { heap = changed t.heap at 0 }) so_far.tables ∙ one_more (tables_of s) first at from;
  rest = one.rest ∙ ap (λ (z : Space). record z { words = after.words }) so_far.rest;
}

-- all words of a block are
pub zeroes_block : (s after : Space) (block : ℕ) → Turns s after (zeroed (tables_of s) (WORDS_IN_BLOCK * block) (WORDS_IN_BLOCK * block + WORDS_IN_BLOCK)) → Turns s after (with_zeros (tables_of s) block)
zeroes_block s after block turns = subst (Turns s after) (whole_block (tables_of s) block) turns

-- a block of which all are needs no write
pub zeroes_blank : (s : Space) (block : ℕ) → block < s.limits.blocks → BlockIsZero s block → Turns s s (with_zeros (tables_of s) block)
zeroes_blank s block below zeros = record { tables = λ i. record (tables_of s) { heap = λ w. same w i }; rest = refl }
  where
    inside : (w blocks : ℕ) → w / WORDS_IN_BLOCK ≡ block → block < blocks → w < WORDS_IN_BLOCK * blocks
    inside w blocks here low = omega arith

    same : (w : ℕ) → (tables_of s).heap w ≡ (with_zeros (tables_of s) block).heap w
    same w = elim (eqb_tells (w / WORDS_IN_BLOCK) block) [
      | inl e ↦ zeros w (inside w s.limits.blocks e.1 below) e.1 ∙ sym (ap (λ b. cond b 0 ((tables_of s).heap w)) e.0)
      | inr e ↦ sym (ap (λ b. cond b 0 ((tables_of s).heap w)) e.0)
    ]

-- a word that is 0 may be left
unwritten : (t : Tables) (at : ℕ) → t.heap at ≡ 0 → t ≡ record t { heap = changed t.heap at 0 }
unwritten t at zero = λ i. record t { heap = λ w. same w i }
  where
    same : (w : ℕ) → t.heap w ≡ changed t.heap at 0 w
    same w = elim (eqb_tells w at) [
      | inl e ↦ ap t.heap e.1 ∙ zero ∙ sym (ap (λ b. cond b 0 (t.heap w)) e.0)
      | inr e ↦ sym (ap (λ b. cond b 0 (t.heap w)) e.0)
    ]

pub zero_left : (s : Space) (at : ℕ) → (tables_of s).heap at ≡ 0 → Turns s s (record (tables_of s) { heap = changed (tables_of s).heap at 0 })
zero_left s at zero = record { tables = unwritten (tables_of s) at zero; rest = refl }

-- ---- objects

module _ (s : Space) (m : Moment) (at : Name → ℕ) (holds : HoldsMoment s m at) where
  -- no object that stands in the heap begins in a Free block
  begins_used : (n : Name) → IsTrue (has (members m) n) → state_in (tables_of s) (granule_of (at n) / GRANULES_IN_BLOCK) ≢ Free
  begins_used n member = elim (in_either m.unreclaimed m.made n member) [
    | inl old ↦ holds.unused.objects n old
    | inr new ↦
        let x = holds.image.image.stands n member in
        out_used (tables_of s) (granule_of (at n)) holds.unused.outs (holds.lines n x.0 (granule_of (at n)) new (record { object = x.1; first = omega arith; behind = begins (granule_of (at n)) x.0 }))
  ]
    where
      begins : (first : ℕ) (o : Object) → first < first + granules_of o
      begins first o = omega arith

  -- so none has a word of one
  outside : (n : Name) (o : Object) (block i : ℕ) → IsTrue (has (members m) n) → object_at m.state.graph n ≡ Some o → state_in (tables_of s) block ≡ Free → i < word_count (shape_of o)
      → (first_word (at n) + i) / WORDS_IN_BLOCK ≢ block
  outside n o block i member there free within here =
      let x = holds.image.image.stands n member in
      let same : x.0 ≡ o = (let both : Some x.0 ≡ Some o = sym x.1 ∙ there in cc) in
      let whole = x.2.whole.in_block in
      let below : i < 2 * granules_of x.0 = subst (λ z. i < z) (words_even x.0) (subst (λ z. i < word_count (shape_of z)) (sym same) within) in
      begins_used n member (ap (state_in (tables_of s)) (sym (in_one (granule_of (at n)) (granules_of x.0) i whole below) ∙ here) ∙ free)
    where
      in_one : (g count i : ℕ) → g / GRANULES_IN_BLOCK ≡ (g + count - 1) / GRANULES_IN_BLOCK → i < 2 * count → (2 * g + i) / WORDS_IN_BLOCK ≡ g / GRANULES_IN_BLOCK
      in_one g count i whole within = omega arith

  -- the image stays where the words of a Free block become 0
  pub image_stays : (block : ℕ) → state_in (tables_of s) block ≡ Free → IsImage (with_zeros (tables_of s) block) s.limits.blocks at m.state.graph (members m)
  image_stays block free = record {
    stands = λ n member.
        let x = holds.image.image.stands n member in
        (x.0, x.1, stands_on (tables_of s) (with_zeros (tables_of s) block) s.limits.blocks at at n x.0 (λ i within. kept n x.0 i member x.1 within) refl (λ i r e. refl) x.2);
    apart = holds.image.image.apart;
  }
    where
      kept : (n : Name) (o : Object) (i : ℕ) → IsTrue (has (members m) n) → object_at m.state.graph n ≡ Some o → i < word_count (shape_of o) → (with_zeros (tables_of s) block).heap (first_word (at n) + i) ≡ (tables_of s).heap (first_word (at n) + i)
      kept n o i member there within = elim (eqb_tells ((first_word (at n) + i) / WORDS_IN_BLOCK) block) [
        | inl e ↦ absurd (outside n o block i member there free within e.1)
        | inr e ↦ ap (λ b. cond b 0 ((tables_of s).heap (first_word (at n) + i))) e.0
      ]

-- ---- the trace that runs

module _ (l : Limits) (t : Tables) (block : ℕ) (entries : List LogEntry) (g : AbstractState) where
  abbrev after_zeros : Tables
  after_zeros = with_zeros t block

  scanned_zeroed : (u v : Name) (i : ℕ) → IsCovered t g.moment g.at entries v ⊎ IsToBeScanned t g.moment g.at u i v → IsCovered after_zeros g.moment g.at entries v ⊎ IsToBeScanned after_zeros g.moment g.at u i v
  scanned_zeroed u v i (inl covered) = inl covered
  scanned_zeroed u v i (inr is) = inr (record { member = is.member; unmarked = is.unmarked; undone = is.undone; holds = is.holds })

  garbage_zeroed : (trace : Trace) (n : Name) → StaysGarbage t g.moment g.at trace n → StaysGarbage after_zeros g.moment g.at trace n
  garbage_zeroed trace n is = record { member = is.member; dropped = is.dropped; undone = is.undone; references = is.references; referred = is.referred }

  trace_zeroed : (trace : Trace) → TraceHolds l t entries g trace → TraceHolds l after_zeros entries g trace
  trace_zeroed trace is = record {
    snapshot = is.snapshot;
    reachable = is.reachable;
    covered = record {
      world = is.covered.world;
      registers = is.covered.registers;
      references = λ u v i reached holds. scanned_zeroed u v i (is.covered.references u v i reached holds);
    };
    inside = record {
      marks = is.inside.marks;
      grays = is.inside.grays;
      dones = is.inside.dones;
      members = is.inside.members;
      referred = is.inside.referred;
      garbage = λ n dropped. garbage_zeroed trace n (is.inside.garbage n dropped);
    };
    handled = is.handled;
    remembered = record { fields = is.remembered.fields; entries = is.remembered.entries; bound = is.remembered.bound };
    few = is.few;
  }

  -- a trace reads no word of the heap
  pub traced_zeroed : (trace : Option Trace) → IsTracedBy l t entries g trace → IsTracedBy l after_zeros entries g trace
  traced_zeroed None is = tt
  traced_zeroed (Some trace) is = trace_zeroed trace is

-- ---- spaces

module _ (s after : Space) (block : ℕ) (free : state_in (tables_of s) block ≡ Free) (turns : Turns s after (with_zeros (tables_of s) block)) where
  abbrev then : Tables
  then = with_zeros (tables_of s) block

  limits : after.limits ≡ s.limits
  limits = ap (λ z. z.limits) turns.rest

  holds_zeroed : (m : Moment) (at : Name → ℕ) → HoldsMoment s m at → HoldsMoment after m at
  holds_zeroed m at is =
      let same = turns.tables in
      let rest = turns.rest in
      record {
        space = still_space s after then is.space turns refl;
        room = subst HasRoom (sym rest) (record { registers = is.room.registers; deferred = is.room.deferred; logged = is.room.logged; work = is.room.work; report = is.room.report });
        as_many = subst AreAsMany (sym rest) is.as_many;
        follows = is.follows;
        image = record {
          image = subst (λ l. IsImage (tables_of after) l.blocks at m.state.graph (members m)) (sym limits)
              (subst (λ t. IsImage t s.limits.blocks at m.state.graph (members m)) (sym same) (image_stays s m at is block free));
          registers = subst (λ z. ArePlacesOf at z.registers.items m.state.registers) (sym rest) is.image.registers;
          deferred = subst (λ z. ArePlacesOf at z.deferred.items m.last.registers) (sym rest) is.image.deferred;
          world = is.image.world;
        };
        bits = subst (λ t. HasBits t m at m.unreclaimed) (sym same) (bits_still (tables_of s) then m at m.unreclaimed refl refl refl refl refl is.bits);
        logs = subst (λ z. AreLogged m at z.logged.items) (sym rest) is.logs;
        few_logs = subst (λ z. length z.logged.items ≤ z.limits.threads * z.limits.log) (sym rest) is.few_logs;
        counts = subst (λ t. HasCounts t m at) (sym same) (counts_still (tables_of s) then m at refl refl refl refl refl is.counts);
        decrements = subst (λ t. HasDecrements after.limits t m at) (sym same) (decrements_still s.limits after.limits (tables_of s) then m at limits refl refl is.decrements);
        marks = subst (λ t. HasMarks t m.state.graph at m.unreclaimed) (sym same) (marks_still (tables_of s) then m.state.graph at m.unreclaimed refl is.marks);
        lines = subst (λ t. LinesAreOut t m.state.graph at m.made) (sym same) is.lines;
        unchosen = subst (λ t. AvoidChosen t at m.made) (sym same) is.unchosen;
        unused = subst (λ t. FreeAreUnused t at m.unreclaimed) (sym same) (unused_still (tables_of s) then at m.unreclaimed m.unreclaimed refl refl (λ n h. h) is.unused);
        blocks = subst (λ l. HasBlocks (tables_of after) l m.trace) (sym limits) (subst (λ t. HasBlocks t s.limits m.trace) (sym same) (blocks_still (tables_of s) then s.limits m.trace refl refl is.blocks));
        rest = rest_left s after m at m.unreclaimed (λ n h. h) (ap (λ z. z.rest_next) rest) (ap (λ z. z.rest_end) rest) limits (ap (λ t. t.outs) same) (ap (λ t. t.states) same) is.rest;
        no_work = ap (λ z. z.work.items) rest ∙ is.no_work;
      }

  safepoint_zeroed : (g : AbstractState) → IsAtSafepoint s g → IsAtSafepoint after g
  safepoint_zeroed g is = record {
    holds = holds_zeroed g.moment g.at is.holds;
    numbers = record {
      pauses = ap (λ z. z.pauses) turns.rest ∙ is.numbers.pauses;
      trace = ap (λ z. z.trace) turns.rest ∙ is.numbers.trace;
      report = ap (λ z. report_of z.report) turns.rest ∙ is.numbers.report;
    };
    traced = subst (λ z. IsTracedBy z.limits (tables_of after) z.logged.items g g.moment.trace) (sym turns.rest)
        (subst (λ t. IsTracedBy s.limits t s.logged.items g g.moment.trace) (sym turns.tables) (traced_zeroed s.limits (tables_of s) block s.logged.items g g.moment.trace is.traced));
  }

  undecremented_zeroed : (g : AbstractState) → IsUndecremented (tables_of s) g.moment g.at → IsUndecremented (tables_of after) g.moment g.at
  undecremented_zeroed g is = subst (λ t. IsUndecremented t g.moment g.at) (sym turns.tables) (undecremented_still (tables_of s) then g.moment g.at refl refl refl is)

  lines_zeroed : (g : AbstractState) → KeepLines (tables_of s) g.moment.state.graph g.at (members g.moment) → KeepLines (tables_of after) g.moment.state.graph g.at (members g.moment)
  lines_zeroed g is = subst (λ t. KeepLines t g.moment.state.graph g.at (members g.moment)) (sym turns.tables) is

  outs_zeroed : (g : AbstractState) → OutsAreTaken (tables_of s) g.moment.state.graph g.at (members g.moment) → OutsAreTaken (tables_of after) g.moment.state.graph g.at (members g.moment)
  outs_zeroed g is = subst (λ t. OutsAreTaken t g.moment.state.graph g.at (members g.moment)) (sym turns.tables) (record { taken = is.taken; outside = is.outside })

  states_zeroed : HasStates (tables_of s) s.limits.blocks → HasStates (tables_of after) after.limits.blocks
  states_zeroed is = subst (λ l. HasStates (tables_of after) l.blocks) (sym limits) (subst (λ t. HasStates t s.limits.blocks) (sym turns.tables) is)

  pub zeroed_stands : StandsForTheSame s after
  zeroed_stands = record {
    rests = λ g is. record {
      safepoint = safepoint_zeroed g is.safepoint;
      undecremented = undecremented_zeroed g is.undecremented;
      lines = lines_zeroed g is.lines;
      outs = outs_zeroed g is.outs;
      states = states_zeroed is.states;
    };
    quiescent = λ g is. record {
      safepoint = safepoint_zeroed g is.safepoint;
      unwritten = is.unwritten;
      undecremented = undecremented_zeroed g is.undecremented;
      lines = lines_zeroed g is.lines;
      outs = outs_zeroed g is.outs;
      states = states_zeroed is.states;
    };
  }
