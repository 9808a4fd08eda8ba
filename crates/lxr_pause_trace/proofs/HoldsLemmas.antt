-- What a space holds reads marks and grays only as bits at objects, and nothing of the remembered set: with other ones it holds the same moment.
use Rattle.std.proofs.Common.{◌≡◌, ℕ, ◌*◌, ◌≤◌, sym, ap, subst, ◌∙◌, length}
use Rattle.std.specs.Prelude.{IsTrue}
use Rattle.lxr_layout.specs.declared.Name.{Name}
use Rattle.lxr_layout.specs.declared.TheConstants.{DECREMENT_COUNT, DECREMENT_CURSOR, TRACING_WORD}
use Rattle.lxr_layout.specs.Spaces.{AreLimits, all_regions, region_begin}
use Rattle.lxr_graph.specs.Names.{has}
use Rattle.lxr_image.specs.declared.space.Space.{Space}
use Rattle.lxr_image.specs.Spaces.{tables_of}
use Rattle.lxr_image.specs.Tables.{Tables}
use Rattle.lxr_image.specs.Opened.{HasRoom}
use Rattle.lxr_model.specs.Moments.{Moment}
use Rattle.lxr_invariant.specs.Standing.{AreLogged, HasBits}
use Rattle.lxr_invariant.specs.Lines.{HasBlocks}
use Rattle.lxr_invariant.specs.Quiescent.{HoldsMoment}
use Rattle.lxr_invariant.proofs.FrameLemmas.{AreAsMany, blocks_still, counts_still, decrements_still, imaged_left, marks_still, out_still, rest_left, unchosen_still}
use Rattle.lxr_invariant.proofs.UnusedLemmas.{unused_still}
use Rattle.lxr_pause_trace.proofs.EnteringLemmas.{with_found_of}

-- bits with other marks and grays, which stand at objects
bits_remarked : (t u : Tables) (m : Moment) (at : Name → ℕ) → u ≡ with_found_of t u
    → ((k : ℕ) → IsTrue (u.marks k) → IsTrue (t.starts k)) → ((k : ℕ) → IsTrue (u.grays k) → IsTrue (t.starts k)) → HasBits t m at m.unreclaimed → HasBits u m at m.unreclaimed
bits_remarked t u m at same marks grays is = subst (λ x. HasBits x m at m.unreclaimed) (sym same) (record {
  starts = record { each = is.starts.each; only = is.starts.only };
  marks = marks;
  grays = grays;
  dones = is.dones;
  unlogged = is.unlogged;
})

-- so a space with other marks, grays and remembered references holds the same moment
pub holds_remarked : (s after : Space) (m : Moment) (at : Name → ℕ) → after ≡ record s { words = after.words }
    → tables_of after ≡ with_found_of (tables_of s) (tables_of after)
    → ((k : ℕ) → IsTrue ((tables_of after).marks k) → IsTrue ((tables_of s).starts k)) → ((k : ℕ) → IsTrue ((tables_of after).grays k) → IsTrue ((tables_of s).starts k))
    → HoldsMoment s m at → HoldsMoment after m at
holds_remarked s after m at same tables marks grays is =
    let t : Tables = tables_of s in
    let u : Tables = tables_of after in
    let limits : after.limits ≡ s.limits = ap (λ z. z.limits) same in
    let itself : (n : Name) → IsTrue (has m.unreclaimed n) → IsTrue (has m.unreclaimed n) = λ n h. h in
    let counts : u.counts ≡ t.counts = ap (λ z. z.counts) tables in
    let outs : u.outs ≡ t.outs = ap (λ z. z.outs) tables in
    let states : u.states ≡ t.states = ap (λ z. z.states) tables in
    let decs : u.decs ≡ t.decs = ap (λ z. z.decs) tables in
    let drawn : u.cursors DECREMENT_CURSOR ≡ t.cursors DECREMENT_CURSOR = ap (λ z. z.cursors DECREMENT_CURSOR) tables in
    let waiting : u.cursors DECREMENT_COUNT ≡ t.cursors DECREMENT_COUNT = ap (λ z. z.cursors DECREMENT_COUNT) tables in
    let tracing : u.cursors TRACING_WORD ≡ t.cursors TRACING_WORD = ap (λ z. z.cursors TRACING_WORD) tables in
    record {
      space = record { limits = subst AreLimits (sym limits) is.space.limits; size = ap (λ z. z.size) tables ∙ is.space.size ∙ ap (λ l. region_begin l all_regions) (sym limits) };
      room = subst HasRoom (sym same) (record {
        registers = is.room.registers;
        deferred = is.room.deferred;
        logged = is.room.logged;
        work = is.room.work;
        report = is.room.report;
      });
      as_many = subst AreAsMany (sym same) is.as_many;
      follows = is.follows;
      image = imaged_left s after m at m.unreclaimed itself (ap (λ z. z.heap) tables) limits (ap (λ z. z.registers) same) (ap (λ z. z.deferred) same) is.image;
      bits = bits_remarked t u m at tables marks grays is.bits;
      logs = subst (λ l. AreLogged m at l.items) (sym (ap (λ z. z.logged) same)) is.logs;
      few_logs = subst (λ z. length z.logged.items ≤ z.limits.threads * z.limits.log) (sym same) is.few_logs;
      counts = counts_still t u m at counts (ap (λ z. z.dones) tables) decs drawn waiting is.counts;
      decrements = decrements_still s.limits after.limits t u m at limits decs waiting is.decrements;
      marks = marks_still t u m.state.graph at m.unreclaimed counts is.marks;
      lines = out_still t u m.state.graph at m.made outs is.lines;
      unchosen = unchosen_still t u at m.made states is.unchosen;
      unused = unused_still t u at m.unreclaimed m.unreclaimed states outs itself is.unused;
      blocks = subst (λ l. HasBlocks u l m.trace) (sym limits) (blocks_still t u s.limits m.trace states tracing is.blocks);
      rest = rest_left s after m at m.unreclaimed itself (ap (λ z. z.rest_next) same) (ap (λ z. z.rest_end) same) limits outs states is.rest;
      no_work = ap (λ z. z.work.items) same ∙ is.no_work;
    }
