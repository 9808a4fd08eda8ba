-- At the end of an epoch, with all that mutators drew handed out, a space is at a safepoint before a pause.
use Rattle.std.proofs.Common.{◌≡◌, ◌≢◌, ℕ, ◌+◌, ◌-◌, ◌*◌, ◌/◌, ◌<◌, ◌≤◌, refl, sym, ap, subst, ◌∙◌, inl, inr, ◌⊎◌, arith, Bool, false, List, length}
use Rattle.std.specs.Prelude.{Option, IsTrue}
use Rattle.std.specs.Option.{option_map}
use Rattle.std.proofs.lemmas.Bool.{false_from_ne_true}
use Rattle.std.proofs.lemmas.Bool.Decides.{leb_tells}
use Rattle.std.proofs.lemmas.List.{length-map}
use Rattle.lxr_layout.specs.declared.TheConstants.{DECREMENT_COUNT, DECREMENT_CURSOR, FREE_BLOCK_COUNT, GRANULES_IN_BLOCK, GRANULES_IN_LINE, LINES_IN_BLOCK, REGISTERS, RUN_COUNT, TRACING_WORD}
use Rattle.lxr_layout.specs.declared.limits.Limits.{Limits}
use Rattle.lxr_layout.specs.declared.LogEntry.{LogEntry}
use Rattle.lxr_layout.specs.declared.Place.{Place}
use Rattle.lxr_layout.specs.Spaces.{AreLimits, all_regions, region_begin}
use Rattle.lxr_graph.specs.Names.{has}
use Rattle.lxr_graph.specs.State.{Object}
use Rattle.lxr_graph.proofs.NameSets.{not_both}
use Rattle.lxr_image.specs.declared.space.Space.{Space}
use Rattle.lxr_image.specs.declared.space.Tally.{Tally}
use Rattle.lxr_base.specs.Roomy.{Roomy}
use Rattle.lxr_image.specs.Registers.{Registers}
use Rattle.lxr_image.specs.Tables.{Tables, tables_in}
use Rattle.lxr_image.specs.Spaces.{IsSpace, tables_of}
use Rattle.lxr_image.specs.Reads.{granule_of}
use Rattle.lxr_image.specs.Image.{ArePlacesOf, granules_of, place_word}
use Rattle.lxr_image.proofs.ImageLemmas.{places_still}
use Rattle.lxr_blocks.specs.declared.states.BlockState.TheVariants.{Chosen}
use Rattle.lxr_blocks.specs.Lines.{is_free}
use Rattle.lxr_blocks.specs.States.{KeepsState, is_fixed, state_in, state_of, KeepsFree}
use Rattle.lxr_model.specs.Moments.{Moment, Trace}
use Rattle.lxr_model.specs.Reachable.{held}
use Rattle.lxr_invariant.specs.AbstractState.{members}
use Rattle.lxr_invariant.specs.Lines.{AvoidChosen, HasBlocks, HasMarks, LinesAreOut}
use Rattle.lxr_invariant.specs.Quiescent.{HoldsMoment}
use Rattle.lxr_invariant.proofs.FrameLemmas.{bits_still, blocks_still, counts_still, decrements_still, image_still, marks_still}
use Rattle.lxr_invariant.proofs.BlockLemmas.{blocks_kept, still_not}
use Rattle.lxr_invariant.proofs.NameLemmas.{in_first, in_second}
use Rattle.lxr_invariant.proofs.PlaceLemmas.{marks_stay}
use Rattle.lxr_core_invariant.specs.EpochStates.{Beginning, EpochState, limits_of, moment_of, opening_tables}
use Rattle.lxr_core_invariant.specs.Logged.{logs_of}
use Rattle.lxr_core_invariant.specs.Drawn.{IsDrawnMemory, LieInDrawn}
use Rattle.lxr_core_invariant.specs.Epoch.{IsEpoch}
use Rattle.lxr_core_invariant.specs.Laws.{HasClosingCounts, HasClosingLogs}
use Rattle.lxr_core_close.specs.HandingOut.{AreHandedOut, AreLater, DrawnIsOut, IsDrawnLine, drawn_blocks, drawn_runs}
use Rattle.lxr_core_close.specs.Safepoint.{ClosingReachesSafepoint, DrawnMayBeHandedOut, DrawnWasFree, HasClosingTrace, HasCollected, IsClosed, registers_of}
use Rattle.lxr_core_close.proofs.HandingLemmas.{drawn_is_out, keeps_state, listed_was_free, still_out, keeps_free}
use Rattle.lxr_core_invariant.proofs.DrawnLemmas.{block_below, run_below}
use Rattle.lxr_core_invariant.proofs.PauseLemmas.{one_pause, unmoved}
use Rattle.lxr_core_close.proofs.ListLemmas.{few_entries, registers_are_places}
use Rattle.lxr_core_close.proofs.StillLemmas.{marks_unmoved, same_size}
use Rattle.lxr_core_close.proofs.TraceLemmas.{KeepReuse, traced_closes}
use Rattle.lxr_blocks.proofs.FreeLemmas.{free_joined, free_same}

-- ---- the end of an epoch

-- what had no count as the epoch opened has none: objects had counts then, and elsewhere counts stay
still_uncounted : (b : Beginning) (s : EpochState) (k : ℕ) → IsEpoch b s → (opening_tables b).counts k ≡ 0 → s.tables.counts k ≡ 0
still_uncounted b s k is none =
    let between = is.begins.between in
    let bare : (opening_tables b).starts k ≡ false = false_from_ne_true ((opening_tables b).starts k) (λ start.
    let begins = between.safepoint.holds.bits.starts.only k start in
    between.undecremented.positive begins.0 begins.1 (ap (opening_tables b).counts begins.2 ∙ none)) in
    is.fixed.counts k bare ∙ none

-- the tables are later than those that were listed
later : (b : Beginning) (s : EpochState) → IsEpoch b s → AreLater (tables_of b.space) s.tables
later b s is = record {
  rest = is.fixed.tables;
  uncounted = λ k none. still_uncounted b s k is none;
  runs = is.fixed.cursors RUN_COUNT (λ e. absurd (omega arith)) (λ e. absurd (omega arith)) (λ e. absurd (omega arith)) (λ e. absurd (omega arith)) (λ e. absurd (omega arith));
  frees = is.fixed.cursors FREE_BLOCK_COUNT (λ e. absurd (omega arith)) (λ e. absurd (omega arith)) (λ e. absurd (omega arith)) (λ e. absurd (omega arith)) (λ e. absurd (omega arith));
}

-- a drawn line was free as it was listed, and objects keep their lines
pub drawn_was_free : DrawnWasFree
drawn_was_free b s space line is tables drawn =
    let free = listed_was_free b.space (tables_of space) line is.begins.listed (subst (AreLater (tables_of b.space)) (sym tables) (later b s is)) drawn in
    record {
      free = free;
      untaken = λ taken. not_both (is_free (opening_tables b) line) free (subst (λ z. is_free (opening_tables b) z ≡ false) taken.5 (is.begins.between.lines taken.0 taken.1 taken.2 taken.3 taken.4));
    }

-- the space is one, with the lists of the opening
pub drawn_may_be_handed_out : DrawnMayBeHandedOut
drawn_may_be_handed_out b s now is has =
    let opened : IsSpace b.space = is.begins.between.safepoint.holds.space in
    let limits : now.limits ≡ b.space.limits = ap (λ (z : Space). z.limits) has.rest in
    record {
      lists = is.begins.listed;
      space = record {
        limits = subst AreLimits (sym limits) opened.limits;
        size = ap (λ (z : Tables). z.size) has.tables ∙ ap (λ (z : Tables). z.size) is.fixed.tables ∙ opened.size ∙ ap (λ (l : Limits). region_begin l all_regions) (sym limits);
      };
      limits = limits;
      tables = subst (AreLater (tables_of b.space)) (sym has.tables) (later b s is);
    }

-- ---- lines and blocks

-- the lines that were drawn in an epoch
abbrev pub drawn_in : Beginning → EpochState → ℕ → Type 0
drawn_in b s = IsDrawnLine (opening_tables b) (limits_of b).blocks (drawn_runs s.tables) (drawn_blocks s.tables)

-- they are handed out
abbrev pub DrawnAreOut : Beginning → EpochState → Tables → Type 0
DrawnAreOut b s u = AreHandedOut (drawn_in b s) s.tables u

-- a granule of an object that lies in what was drawn is one of a line that is handed out
drawn_out : (b : Beginning) (s : EpochState) (u : Tables) (first end k : ℕ) → DrawnAreOut b s u → AreLater (opening_tables b) s.tables
    → (is : IsDrawnMemory b s) (t : ℕ) → LieInDrawn b is.drawers t first end → first ≤ k → k < end → IsTrue (u.outs (k / 16))
drawn_out b s u first end k hands late is t (inl run) low high =
    let from = run.within.0 in let to = run.within.1 in let small = run_below b s is run.number t run.drawn in let listed = run.listed in let same = late.runs in
    drawn_is_out (drawn_in b s) s.tables u (k / 16) hands (inl (record {
      number = run.number;
      drawn = omega (arith, small, listed, same);
      run = run.run;
      lists = run.lists;
      line = record { first = omega (arith, from, low); behind = omega (arith, to, high) };
    }))
drawn_out b s u first end k hands late is t (inr block) low high =
    let from = block.within.0 in let to = block.within.1 in let small = block_below b s is block.number t block.drawn in let listed = block.listed in let same = late.frees in
    drawn_is_out (drawn_in b s) s.tables u (k / 16) hands (inr (record {
      number = block.number;
      drawn = omega (arith, small, listed, same);
      line = record { first = omega (arith, from, low); behind = omega (arith, to, high) };
    }))

-- what was made lies on lines that are out
lines_out : (b : Beginning) (s : EpochState) (u : Tables) → IsEpoch b s → DrawnAreOut b s u
    → LinesAreOut u (moment_of b s).state.graph s.at (moment_of b s).made
lines_out b s u is hands n o k member covers = elim (is.drawn.made n o member covers.object) [
  | inl served ↦ still_out (drawn_in b s) s.tables u (k / 16) hands (subst (λ (f : ℕ → Bool). IsTrue (f (k / 16))) (sym (ap (λ (z : Tables). z.outs) is.fixed.tables)) (served.out k covers))
  | inr lies ↦ drawn_out b s u (granule_of (s.at n)) (granule_of (s.at n) + granules_of o) k hands (later b s is) is.drawn n.thread lies covers.first covers.behind
]

-- each block has the state that it had as the epoch opened, or neither that one nor its own is Chosen or World
states_kept : (b : Beginning) (s : EpochState) (u : Tables) → IsEpoch b s → DrawnAreOut b s u → (n : ℕ) → KeepsState (opening_tables b) u n
states_kept b s u is hands n =
    subst (λ (f : ℕ → ℕ). (u.states n ≡ f n) ⊎ ((is_fixed (state_of (f n)) ≡ false) × (is_fixed (state_in u n) ≡ false))) (ap (λ (z : Tables). z.states) is.fixed.tables)
    (keeps_state (drawn_in b s) s.tables u n hands)

-- a block that is Free was so as the epoch opened, and no line of it was handed out
free_kept : (b : Beginning) (s : EpochState) (u : Tables) → IsEpoch b s → DrawnAreOut b s u → KeepsFree (opening_tables b) u
free_kept b s u is hands = free_joined (opening_tables b) s.tables u
    (free_same (opening_tables b) s.tables (ap (λ (z : Tables). z.states) is.fixed.tables) (ap (λ (z : Tables). z.outs) is.fixed.tables)) (keeps_free (drawn_in b s) s.tables u hands)

-- what begins within a run of a block, or within a block, begins in the block
in_run : (g granules block line lines : ℕ) → GRANULES_IN_BLOCK * block + GRANULES_IN_LINE * line ≤ g → g + granules ≤ GRANULES_IN_BLOCK * block + GRANULES_IN_LINE * (line + lines) → line + lines ≤ LINES_IN_BLOCK → 1 ≤ granules
    → g / GRANULES_IN_BLOCK ≡ block
in_run g granules block line lines low high within some = omega arith

in_block : (g granules block : ℕ) → GRANULES_IN_BLOCK * block ≤ g → g + granules ≤ GRANULES_IN_BLOCK * (block + 1) → 1 ≤ granules → g / GRANULES_IN_BLOCK ≡ block
in_block g granules block low high some = omega arith

some_granules : (o : Object) → 1 ≤ granules_of o
some_granules o = omega arith

-- what was made lay outside the blocks that were Chosen as the epoch opened: it was served before, or lies in what was listed
made_outside : (b : Beginning) (s : EpochState) → IsEpoch b s → AvoidChosen (opening_tables b) s.at (moment_of b s).made
made_outside b s is n member =
    let x = is.image.placed.image.stands n (in_second (moment_of b s).unreclaimed (moment_of b s).made n member) in
    let some = some_granules x.0 in
    elim (is.drawn.made n x.0 member x.1) [
      | inl served ↦
          let before : Moment = b.abstract_state.moment in
          subst (λ p. state_in (opening_tables b) (granule_of p / GRANULES_IN_BLOCK) ≢ Chosen) (sym (is.image.placed.unmoved n (in_second before.unreclaimed before.made n served.stood)))
          (is.begins.between.safepoint.holds.unchosen n served.stood)
      | inr (inl run) ↦
          subst (λ c. state_in (opening_tables b) c ≢ Chosen) (sym (in_run (granule_of (s.at n)) (granules_of x.0) run.run.block run.run.line run.run.lines run.within.0 run.within.1 run.lists.run.run.within some)) run.lists.run.outside
      | inr (inr block) ↦
          subst (λ c. state_in (opening_tables b) c ≢ Chosen) (sym (in_block (granule_of (s.at n)) (granules_of x.0) ((opening_tables b).frees block.number) block.within.0 block.within.1 some))
          (is.begins.listed.blocks block.number block.listed).run.outside
    ]

-- so it does now
unchosen : (b : Beginning) (s : EpochState) (u : Tables) → IsEpoch b s → DrawnAreOut b s u → AvoidChosen u s.at (moment_of b s).made
unchosen b s u is hands n member = still_not (opening_tables b) u (granule_of (s.at n) / GRANULES_IN_BLOCK) Chosen refl (states_kept b s u is hands (granule_of (s.at n) / GRANULES_IN_BLOCK)) (made_outside b s is n member)

-- no unreclaimed object overlaps a line that is handed out: such a line was free as the epoch opened
reuse_kept : (b : Beginning) (s : EpochState) (u : Tables) → IsEpoch b s → DrawnAreOut b s u → KeepReuse s.tables u (moment_of b s).state.graph s.at (moment_of b s).unreclaimed
reuse_kept b s u is hands n o k member covers = elim (hands.lines_are (k / GRANULES_IN_LINE)) [
  | inr left ↦ left.reuse
  | inl handed ↦
      let before : Moment = b.abstract_state.moment in
      let one = one_pause b s is in
      let in_n : IsTrue (has before.unreclaimed n) = subst (λ us. IsTrue (has us n)) one.unreclaimed member in
      let sized = same_size before (moment_of b s) n o is.begins.between.safepoint.holds.follows is.lives one.last in_n member covers.object in
      let there = unmoved b s is n in_n in
      let free = listed_was_free b.space s.tables (k / GRANULES_IN_LINE) is.begins.listed (later b s is) handed.drawn in
      let low = covers.first in
      let high = covers.behind in
      let size = sized.2 in
      absurd (not_both (is_free (opening_tables b) (k / GRANULES_IN_LINE)) free
      (is.begins.between.lines n sized.0 k (in_first before.unreclaimed before.made n in_n) (record { object = sized.1; first = omega (arith, low, there); behind = omega (arith, high, there, size) })))
]

-- ---- registers and logs

-- there are 256 registers for each mutator, in the model too
model_registers : (b : Beginning) (s : EpochState) → IsEpoch b s → length (moment_of b s).state.registers ≡ REGISTERS * (limits_of b).threads
model_registers b s is =
    let opened = is.begins.between.safepoint.holds in
    let one = one_pause b s is in
    let words : length b.space.registers.items ≡ length b.abstract_state.moment.state.registers =
    sym (length-map b.space.registers.items (λ (p : Place). p.0)) ∙ ap length opened.image.registers ∙ length-map b.abstract_state.moment.state.registers (place_word b.abstract_state.at) in
    as_many (length b.space.registers.items) (length b.abstract_state.moment.state.registers) (length (moment_of b s).state.registers) (length b.abstract_state.moment.state.graph) (length b.abstract_state.moment.last.graph)
    (length (moment_of b s).state.graph) (limits_of b).threads opened.as_many.0 words opened.follows.registers opened.follows.rows is.lives.registers (is.lives.rows ∙ ap (λ z. length z.graph) one.last)
  where
    as_many : (words before now rows last rows_now threads : ℕ) → words ≡ REGISTERS * threads → words ≡ before → before ≡ REGISTERS * (rows - 1) → rows ≡ last → now ≡ REGISTERS * (rows_now - 1) → rows_now ≡ last → now ≡ REGISTERS * threads
    as_many words before now rows last rows_now threads a c d e f g = omega arith

-- the registers of mutators are places of what the model's hold
registers_held : (b : Beginning) (s : EpochState) → IsEpoch b s → ArePlacesOf s.at (registers_of s.thread_states) (moment_of b s).state.registers
registers_held b s is =
    registers_are_places s.at (moment_of b s).state s.thread_states (model_registers b s is ∙ ap (λ z. REGISTERS * z) (sym is.called.as_many)) is.called.threads is.image.registers

-- so they are as many
registers_many : (b : Beginning) (s : EpochState) → IsEpoch b s → length (registers_of s.thread_states) ≡ REGISTERS * (limits_of b).threads
registers_many b s is =
    sym (length-map (registers_of s.thread_states) (λ (p : Place). p.0)) ∙ ap length (registers_held b s is) ∙ length-map (moment_of b s).state.registers (place_word s.at) ∙ model_registers b s is

-- all logs fit into the list of entries
logs_fit : (b : Beginning) (s : EpochState) → IsEpoch b s → length (logs_of s.thread_states) ≤ (limits_of b).threads * (limits_of b).log
logs_fit b s is =
    subst (λ z. length (logs_of s.thread_states) ≤ z * (limits_of b).log) is.called.as_many
    (few_entries (limits_of b).log s.thread_states (λ i v h. let room = is.logged.rooms i v h in subst (λ z. length v.log.items ≤ z) room.0 room.1))

-- ---- the safepoint

-- the space of these words and this tally that has the registers and the logs of all mutators
abbrev pub closed_space : Beginning → EpochState → List ℕ → Tally → Space
closed_space b s words tally = record b.space {
  words = words;
  registers = record { items = registers_of s.thread_states; width = b.space.registers.width };
  logged = record { items = logs_of s.thread_states; room = b.space.logged.room };
  tally = tally;
}

-- deferred registers are those of the last pause
deferred_held : (b : Beginning) (s : EpochState) → IsEpoch b s → ArePlacesOf s.at b.space.deferred.items (moment_of b s).last.registers
deferred_held b s is =
    let opened = is.begins.between.safepoint.holds in
    subst (λ z. ArePlacesOf s.at b.space.deferred.items z.registers) (sym (one_pause b s is).last)
    (opened.image.deferred ∙ places_still b.abstract_state.at s.at b.abstract_state.moment.last.registers (λ i n e. unmoved b s is n (opened.follows.kept n (held (i, e)))))

-- the closed space holds the moment to which the history has led
holds_closed : (b : Beginning) (s : EpochState) (words : List ℕ) (tally : Tally) → IsEpoch b s → HasClosingLogs b s → HasClosingCounts b s → DrawnAreOut b s (tables_in (limits_of b) words)
    → HoldsMoment (closed_space b s words tally) (moment_of b s) s.at
holds_closed b s words tally is closing counted hands =
    let o : Tables = opening_tables b in
    let t : Tables = s.tables in
    let u : Tables = tables_in (limits_of b) words in
    let m : Moment = moment_of b s in
    let opened = is.begins.between.safepoint.holds in
    let one = one_pause b s is in
    let still = unmoved b s is in
    let late = is.fixed.tables in
    let counts : u.counts ≡ t.counts = ap (λ (z : Tables). z.counts) hands.rest in
    let dones : u.dones ≡ t.dones = ap (λ (z : Tables). z.dones) hands.rest in
    let decs : u.decs ≡ t.decs = ap (λ (z : Tables). z.decs) hands.rest in
    let cursors : u.cursors ≡ t.cursors = ap (λ (z : Tables). z.cursors) hands.rest in
    let drawn : u.cursors DECREMENT_CURSOR ≡ t.cursors DECREMENT_CURSOR = ap (λ f. f 5) cursors in
    let waiting : u.cursors DECREMENT_COUNT ≡ t.cursors DECREMENT_COUNT = ap (λ f. f 6) cursors in
    let before : Moment = b.abstract_state.moment in
    let bare : HasMarks t before.state.graph b.abstract_state.at before.unreclaimed =
    marks_stay o t (limits_of b).blocks b.abstract_state.at before.state.graph (members before) before.unreclaimed opened.image.image (λ n h. in_first before.unreclaimed before.made n h) opened.bits.starts is.fixed.counts opened.marks in
    let marked = marks_unmoved t before m b.abstract_state.at s.at opened.follows is.lives one still bare in
    let blocks : HasBlocks t (limits_of b) b.abstract_state.moment.trace =
    blocks_still o t (limits_of b) b.abstract_state.moment.trace (ap (λ (z : Tables). z.states) late)
    (is.fixed.cursors TRACING_WORD (λ e. absurd (omega arith)) (λ e. absurd (omega arith)) (λ e. absurd (omega arith)) (λ e. absurd (omega arith)) (λ e. absurd (omega arith))) opened.blocks in
    record {
      space = record { limits = opened.space.limits; size = ap (λ (z : Tables). z.size) hands.rest ∙ ap (λ (z : Tables). z.size) late ∙ opened.space.size };
      room = record { registers = opened.room.registers; deferred = opened.room.deferred; logged = opened.room.logged; work = opened.room.work; report = opened.room.report };
      as_many = (registers_many b s is, opened.as_many.1);
      follows = is.lives;
      image = record {
        image = image_still t u (limits_of b).blocks s.at m.state.graph (members m) (members m) (ap (λ (z : Tables). z.heap) hands.rest) (λ n h. h) is.image.placed.image;
        registers = registers_held b s is;
        deferred = deferred_held b s is;
        world = is.image.placed.world;
      };
      bits = bits_still t u m s.at m.unreclaimed (ap (λ (z : Tables). z.starts) hands.rest) (ap (λ (z : Tables). z.marks) hands.rest) (ap (λ (z : Tables). z.grays) hands.rest)
          (ap (λ (z : Tables). z.dones) hands.rest) (ap (λ (z : Tables). z.unlogged) hands.rest) closing.bits;
      logs = closing.logs;
      few_logs = logs_fit b s is;
      counts = counts_still t u m s.at counts dones decs drawn waiting counted.counts;
      decrements = decrements_still (limits_of b) (limits_of b) t u m s.at refl decs waiting counted.decrements;
      marks = marks_still t u m.state.graph s.at m.unreclaimed counts marked;
      lines = lines_out b s u is hands;
      unchosen = unchosen b s u is hands;
      unused = record {
        objects = λ n member free. opened.unused.objects n (subst (λ us. IsTrue (has us n)) one.unreclaimed member)
            (ap (λ p. state_in o (granule_of p / GRANULES_IN_BLOCK)) (sym (still n (subst (λ us. IsTrue (has us n)) one.unreclaimed member))) ∙ (free_kept b s u is hands (granule_of (s.at n) / GRANULES_IN_BLOCK) free).0);
        outs = λ line out free. let was = free_kept b s u is hands (line / LINES_IN_BLOCK) free in opened.unused.outs line (was.1 line refl out) was.0;
      };
      blocks = subst (λ (z : Option Trace). HasBlocks u (limits_of b) z) (sym one.trace) (blocks_kept t u (limits_of b) b.abstract_state.moment.trace (λ c. keeps_state (drawn_in b s) t u c hands) (ap (λ f. f 8) cursors) blocks);
      rest = record {
        rest = inl is.begins.listed.no_rest;
        apart = λ n o k member covers. elim (leb_tells b.space.rest_end k) [ inl c ↦ inr c.1 | inr c ↦ let low = c.1 in let none = is.begins.listed.no_rest in inl (omega (arith, low, none)) ];
      };
      no_work = opened.no_work;
    }

-- the closed space is at a safepoint before a pause
is_at_safepoint : (b : Beginning) (s : EpochState) (words : List ℕ) (tally : Tally) → IsEpoch b s → HasClosingLogs b s → HasClosingCounts b s → HasClosingTrace b s → DrawnAreOut b s (tables_in (limits_of b) words)
    → IsClosed b s (closed_space b s words tally)
is_at_safepoint b s words tally is closing counted runs hands =
    let numbers = is.begins.between.safepoint.numbers in
    let one = one_pause b s is in
    record {
      safepoint = record {
        holds = holds_closed b s words tally is closing counted hands;
        numbers = record {
          pauses = numbers.pauses ∙ sym one.number;
          trace = numbers.trace ∙ ap (λ z. option_map (λ (trace : Trace). trace.began) z) (sym one.trace);
          report = numbers.report;
        };
        traced = traced_closes b s (tables_in (limits_of b) words) is runs hands.rest (reuse_kept b s (tables_in (limits_of b) words) is hands)
            (λ n. keeps_state (drawn_in b s) s.tables (tables_in (limits_of b) words) n hands);
      };
      states = states_kept b s (tables_in (limits_of b) words) is hands;
    }

-- the space is the closed one of its words
is_closed : (b : Beginning) (s : EpochState) (now after : Space) → HasCollected b s now → DrawnIsOut b.space now after → after ≡ closed_space b s after.words now.tally
is_closed b s now after has out =
    out.rest ∙ ap (λ z. with_words z after.words) has.rest ∙ ap (λ r. collected r now.logged) has.registers ∙ ap (λ l. collected (record { items = registers_of s.thread_states; width = b.space.registers.width }) l) has.logged
  where
    with_words : Space → List ℕ → Space
    with_words z words = record z { words = words }

    collected : Registers → Roomy LogEntry → Space
    collected registers logged = record b.space { words = after.words; registers = registers; logged = logged; tally = now.tally }

-- so the space is at a safepoint before a pause
pub closing_reaches_safepoint : ClosingReachesSafepoint
closing_reaches_safepoint b s now after is closing counted runs has out =
    let same = is_closed b s now after has out in
    let hands : DrawnAreOut b s (tables_of after) = subst (λ z. AreHandedOut (IsDrawnLine (opening_tables b) (limits_of b).blocks (drawn_runs z) (drawn_blocks z)) z (tables_of after)) has.tables out.hands in
    subst (IsClosed b s) (sym same) (is_at_safepoint b s after.words now.tally is closing counted runs (subst (DrawnAreOut b s) (ap tables_of same) hands))
