-- Which tables each part of what holds between epochs reads: where those stay, so does the part.
use Rattle.std.proofs.Common.{◌≡◌, ◌≢◌, ℕ, zero, suc, ◌+◌, ◌*◌, ◌/◌, ◌<◌, ◌≤◌, refl, sym, ap, subst, ◌∙◌, inl, inr, arith, false, cond, List, [], ◌∷◌, ◌++◌, IsTrue, length, ◌-◌}
use Rattle.std.specs.Prelude.{◌&&◌, not, filter, Option, Some, None}
use Rattle.lxr_layout.specs.declared.Name.{Name}
use Rattle.lxr_layout.specs.declared.limits.Limits.{Limits}
use Rattle.lxr_layout.specs.declared.TheConstants.{DECREMENT_COUNT, DECREMENT_CURSOR, GRANULES_IN_BLOCK, GRANULES_IN_LINE, REGISTERS, STUCK, TRACING_WORD}
use Rattle.lxr_layout.specs.Places.{first_word}
use Rattle.lxr_layout.specs.Spaces.{AreLimits, all_regions, region_begin}
use Rattle.lxr_graph.specs.Names.{has}
use Rattle.lxr_graph.specs.State.{Graph}
use Rattle.lxr_image.specs.declared.space.Space.{Space}
use Rattle.lxr_image.specs.Tables.{Tables}
use Rattle.lxr_image.specs.Spaces.{tables_of}
use Rattle.lxr_image.specs.Reads.{granule_of}
use Rattle.lxr_image.specs.Image.{ArePlacesOf, IsImage}
use Rattle.lxr_image.specs.Opened.{HasRoom}
use Rattle.lxr_image.proofs.ImageLemmas.{stands_on}
use Rattle.lxr_blocks.specs.Lines.{are_zero}
use Rattle.lxr_blocks.specs.States.{state_in, state_of}
use Rattle.lxr_blocks.specs.Placing.{IsRest}
use Rattle.lxr_model.specs.Moments.{Moment, Trace}
use Rattle.lxr_model.specs.References.{references}
use Rattle.lxr_invariant.specs.AbstractState.{leaving, members}
use Rattle.lxr_invariant.specs.Standing.{AreLogged, HasBits, IsImaged}
use Rattle.lxr_invariant.specs.Counting.{HasCounts, HasDecrements, IsUndecremented, count_at, entries_between, listed_at, undone, waiting_at}
use Rattle.lxr_invariant.specs.Lines.{AvoidChosen, ChosenNeedTrace, HasBlocks, HasMarks, KeepLines, KeepsRest, LinesAreOut, chosen_count, is_chosen}
use Rattle.lxr_invariant.specs.Quiescent.{HoldsMoment}
use Rattle.lxr_invariant.proofs.NameLemmas.{in_longer}
use Rattle.lxr_invariant.proofs.UnusedLemmas.{unused_still}

-- ---- the heap

-- the image of fewer objects, where the heap stays
pub image_still : (t u : Tables) (blocks : ℕ) (at : Name → ℕ) (g : Graph) (ms ns : List Name) → u.heap ≡ t.heap → ((n : Name) → IsTrue (has ns n) → IsTrue (has ms n))
    → IsImage t blocks at g ms → IsImage u blocks at g ns
image_still t u blocks at g ms ns e sub is = record {
  stands = λ n h. let a = is.stands n (sub n h) in (a.0, a.1, stands_on t u blocks at at n a.0 (λ i h. ap (λ f. f (first_word (at n) + i)) e) refl (λ i r k. refl) a.2);
  apart = λ m n a b in_m in_n. is.apart m n a b (sub m in_m) (sub n in_n);
}

-- ---- bits, marks and lines

pub bits_still : (t u : Tables) (m : Moment) (at : Name → ℕ) (us : List Name) → u.starts ≡ t.starts → u.marks ≡ t.marks → u.grays ≡ t.grays → u.dones ≡ t.dones → u.unlogged ≡ t.unlogged
    → HasBits t m at us → HasBits u m at us
bits_still t u m at us starts marks grays dones unlogged is = record {
  starts = record {
    each = λ n h. ap (λ f. f (granule_of (at n))) starts ∙ is.starts.each n h;
    only = λ g h. is.starts.only g (sym (ap (λ f. f g) starts) ∙ h);
  };
  marks = λ k h. ap (λ f. f k) starts ∙ is.marks k (sym (ap (λ f. f k) marks) ∙ h);
  grays = λ k h. ap (λ f. f k) starts ∙ is.grays k (sym (ap (λ f. f k) grays) ∙ h);
  dones = λ k h. ap (λ f. f k) starts ∙ is.dones k (sym (ap (λ f. f k) dones) ∙ h);
  unlogged = λ w. (λ h. (is.unlogged w).0 (sym (ap (λ f. f w) unlogged) ∙ h), λ h. ap (λ f. f w) unlogged ∙ (is.unlogged w).1 h);
}

pub marks_still : (t u : Tables) (g : Graph) (at : Name → ℕ) (us : List Name) → u.counts ≡ t.counts → HasMarks t g at us → HasMarks u g at us
marks_still t u g at us counts is = record {
  marked = λ n o k h e mark. ap (λ f. f k) counts ∙ is.marked n o k h e mark;
  elsewhere = λ k nobody nothing. ap (λ f. f k) counts ∙ is.elsewhere k nobody nothing;
}

pub out_still : (t u : Tables) (g : Graph) (at : Name → ℕ) (ns : List Name) → u.outs ≡ t.outs → LinesAreOut t g at ns → LinesAreOut u g at ns
out_still t u g at ns outs is n o k h c = ap (λ f. f (k / GRANULES_IN_LINE)) outs ∙ is n o k h c

-- what lies on lines that are out keeps them
pub out_kept : (t : Tables) (g : Graph) (at : Name → ℕ) (ns : List Name) → LinesAreOut t g at ns → KeepLines t g at ns
out_kept t g at ns is n o k h c = ap (λ b. not b && are_zero t.counts (GRANULES_IN_LINE * (k / GRANULES_IN_LINE)) GRANULES_IN_LINE) (is n o k h c)

pub unchosen_still : (t u : Tables) (at : Name → ℕ) (ns : List Name) → u.states ≡ t.states → AvoidChosen t at ns → AvoidChosen u at ns
unchosen_still t u at ns states is n h e = is n h (sym (ap (λ f. state_of (f (granule_of (at n) / GRANULES_IN_BLOCK))) states) ∙ e)

-- where the same blocks are Chosen, they are as many
pub chosen_same : (t u : Tables) (n : ℕ) → ((b : ℕ) → b < n → is_chosen (state_in u b) ≡ is_chosen (state_in t b)) → chosen_count u n ≡ chosen_count t n
chosen_same t u zero same = refl
chosen_same t u (suc b) same =
    ap (λ c. cond c 1 0 + chosen_count u b) (same b (omega arith))
    ∙ ap (λ z. cond (is_chosen (state_in t b)) 1 0 + z) (chosen_same t u b (λ k below. same k (omega (arith, below))))

pub chosen_still : (t u : Tables) (n : ℕ) → u.states ≡ t.states → chosen_count u n ≡ chosen_count t n
chosen_still t u n states = chosen_same t u n (λ b below. ap (λ f. is_chosen (state_of (f b))) states)

pub need_same : (t u : Tables) (blocks : ℕ) (trace : Option Trace) → chosen_count u blocks ≡ chosen_count t blocks → ChosenNeedTrace t blocks trace → ChosenNeedTrace u blocks trace
need_same t u blocks None same is = same ∙ is
need_same t u blocks (Some trace) same is = is

pub blocks_still : (t u : Tables) (l : Limits) (trace : Option Trace) → u.states ≡ t.states → u.cursors TRACING_WORD ≡ t.cursors TRACING_WORD → HasBlocks t l trace → HasBlocks u l trace
blocks_still t u l trace states tracing is = record {
  world = ap (λ f. state_of (f 0)) states ∙ is.world;
  others = λ b from below e. is.others b from below (sym (ap (λ f. state_of (f b)) states) ∙ e);
  few = subst (λ n. n ≤ l.evacuate) (sym (chosen_still t u l.blocks states)) is.few;
  chosen = need_same t u l.blocks trace (chosen_still t u l.blocks states) is.chosen;
  tracing = tracing ∙ is.tracing;
}

-- the rest of the lines, which also depends on two numbers and the limits of a space
pub rest_still : (s after : Space) → after.rest_next ≡ s.rest_next → after.rest_end ≡ s.rest_end → after.limits ≡ s.limits
    → (tables_of after).outs ≡ (tables_of s).outs → (tables_of after).states ≡ (tables_of s).states → IsRest s → IsRest after
rest_still s after next end limits outs states (inl e) = inl (next ∙ e ∙ sym end)
rest_still s after next end limits outs states (inr is) =
    let some = is.some in
    let in_heap = is.in_heap in
    let blocks = ap (λ l. l.blocks) limits in
    inr (record {
      some = omega (arith, some, next, end);
      in_heap = omega (arith, in_heap, end, blocks);
      in_line = ap (λ n. n / GRANULES_IN_LINE) next ∙ is.in_line ∙ sym (ap (λ n. (n - 1) / GRANULES_IN_LINE) end);
      out = ap (λ f. f (after.rest_next / GRANULES_IN_LINE)) outs ∙ ap (λ n. (tables_of s).outs (n / GRANULES_IN_LINE)) next ∙ is.out;
      outside = λ e. is.outside (sym (ap (λ f. state_of (f (after.rest_next / GRANULES_IN_BLOCK))) states ∙ ap (λ n. state_in (tables_of s) (n / GRANULES_IN_BLOCK)) next) ∙ e);
    })

-- ---- counts

-- where nothing is done, all names count
pub none_undone : (t : Tables) (at : Name → ℕ) (us : List Name) → ((k : ℕ) → t.dones k ≡ false) → undone t at us ≡ us
none_undone t at [] none = refl
none_undone t at (u ∷ us) none =
    ap (λ b. cond (not b) (u ∷ undone t at us) (undone t at us)) (none (granule_of (at u))) ∙ ap (λ xs. u ∷ xs) (none_undone t at us none)

-- where nothing is done or drawn, each count that is not 0 tells of a reference or of an entry in the list of decrements
pub held_at_rest : (t : Tables) (m : Moment) (at : Name → ℕ) (n : Name) → IsUndecremented t m at → IsTrue (has m.unreclaimed n)
    → count_at t at n ≡ references m.last (undone t at m.unreclaimed) n + waiting_at t (at n) → references m.last m.unreclaimed n + listed_at t (at n) ≢ 0
held_at_rest t m at n is h exact none =
    let all = ap (λ us. references m.last us n) (none_undone t at m.unreclaimed is.none_done) in
    let listed = ap (λ k. entries_between t.decs k (t.cursors DECREMENT_COUNT) (at n)) is.none_drawn in
    is.positive n h (omega (arith, exact, all, listed, none))

pub counts_still : (t u : Tables) (m : Moment) (at : Name → ℕ) → u.counts ≡ t.counts → u.dones ≡ t.dones → u.decs ≡ t.decs → u.cursors DECREMENT_CURSOR ≡ t.cursors DECREMENT_CURSOR → u.cursors DECREMENT_COUNT ≡ t.cursors DECREMENT_COUNT
    → HasCounts t m at → HasCounts u m at
counts_still t u m at counts dones decs drawn waiting is = record {
  stuck = λ n h k. ap (λ f. f (granule_of (at n))) counts ∙ is.stuck n h k;
  below = λ n h k. subst (λ f. f (granule_of (at n)) < STUCK) (sym counts) (is.below n h k);
  exact = λ n h k. ap (λ f. f (granule_of (at n))) counts ∙ is.exact n h k
      ∙ ap (λ f. references m.last (filter (λ x. not (f (granule_of (at x)))) m.unreclaimed) n + waiting_at t (at n)) (sym dones)
      ∙ ap (λ w. references m.last (undone u at m.unreclaimed) n + w) (sym (waiting_still t u (at n) decs drawn waiting));
  held = λ n h k none. is.held n h k (ap (λ w. references m.last m.unreclaimed n + w) (sym (listed_still (at n))) ∙ none);
  done = λ n h k. ap (λ f. f (granule_of (at n))) counts ∙ is.done n h (sym (ap (λ f. f (granule_of (at n))) dones) ∙ k);
  dead = λ n h k. is.dead n h (sym (ap (λ f. f (granule_of (at n))) dones) ∙ k);
}
  where
    listed_still : (p : ℕ) → listed_at u p ≡ listed_at t p
    listed_still p = ap (λ f. entries_between f 0 (u.cursors DECREMENT_COUNT) p) decs ∙ ap (λ n. entries_between t.decs 0 n p) waiting

    waiting_still : (t u : Tables) (p : ℕ) → u.decs ≡ t.decs → u.cursors DECREMENT_CURSOR ≡ t.cursors DECREMENT_CURSOR → u.cursors DECREMENT_COUNT ≡ t.cursors DECREMENT_COUNT → waiting_at u p ≡ waiting_at t p
    waiting_still t u p decs drawn waiting =
        ap (λ f. entries_between f (u.cursors DECREMENT_CURSOR) (u.cursors DECREMENT_COUNT) p) decs ∙ ap (λ n. entries_between t.decs n (u.cursors DECREMENT_COUNT) p) drawn ∙ ap (λ n. entries_between t.decs (t.cursors DECREMENT_CURSOR) n p) waiting

pub decrements_still : (k l : Limits) (t u : Tables) (m : Moment) (at : Name → ℕ) → l ≡ k → u.decs ≡ t.decs → u.cursors DECREMENT_COUNT ≡ t.cursors DECREMENT_COUNT → HasDecrements k t m at → HasDecrements l u m at
decrements_still k l t u m at limits decs waiting is = record {
  fits = subst (λ z. u.cursors DECREMENT_COUNT ≤ z.threads * (z.log + z.registers)) (sym limits) (subst (λ n. n ≤ k.threads * (k.log + k.registers)) (sym waiting) is.fits);
  places = λ i h. let x = is.places i (subst (λ n. i < n) waiting h) in (x.0, x.1, ap (λ f. f i) decs ∙ x.2);
}

pub undecremented_still : (t u : Tables) (m : Moment) (at : Name → ℕ) → u.dones ≡ t.dones → u.counts ≡ t.counts → u.cursors DECREMENT_CURSOR ≡ t.cursors DECREMENT_CURSOR → IsUndecremented t m at → IsUndecremented u m at
undecremented_still t u m at dones counts drawn is = record {
  none_done = λ k. ap (λ f. f k) dones ∙ is.none_done k;
  none_drawn = drawn ∙ is.none_drawn;
  positive = λ n h e. is.positive n h (sym (ap (λ f. f (granule_of (at n))) counts) ∙ e);
}

-- ---- spaces

-- there are as many registers as there are threads for
abbrev pub AreAsMany : Space → Type 0
AreAsMany s = (length s.registers.items ≡ REGISTERS * s.limits.threads) × (length s.deferred.items ≡ REGISTERS * s.limits.threads)

-- the rest of the lines that were placed on last stays apart from what is left
pub rest_left : (s after : Space) (m : Moment) (at : Name → ℕ) (vs : List Name) → ((n : Name) → IsTrue (has vs n) → IsTrue (has m.unreclaimed n))
    → after.rest_next ≡ s.rest_next → after.rest_end ≡ s.rest_end → after.limits ≡ s.limits
    → (tables_of after).outs ≡ (tables_of s).outs → (tables_of after).states ≡ (tables_of s).states → KeepsRest s m at → KeepsRest after (leaving m vs) at
rest_left s after m at vs sub next end limits outs states is = record {
  rest = rest_still s after next end limits outs states is.rest;
  apart = λ n o k h c. elim (is.apart n o k (in_longer vs m.unreclaimed m.made n sub h) c) [
    | inl a ↦ inl (subst (λ z. k < z) (sym next) a)
    | inr b ↦ inr (subst (λ z. z ≤ k) (sym end) b)
  ];
}

pub imaged_left : (s after : Space) (m : Moment) (at : Name → ℕ) (vs : List Name) → ((n : Name) → IsTrue (has vs n) → IsTrue (has m.unreclaimed n))
    → (tables_of after).heap ≡ (tables_of s).heap → after.limits ≡ s.limits → after.registers ≡ s.registers → after.deferred ≡ s.deferred → IsImaged s m at → IsImaged after (leaving m vs) at
imaged_left s after m at vs sub heap limits registers deferred is = record {
  image = subst (λ l. IsImage (tables_of after) l.blocks at m.state.graph (vs ++ m.made)) (sym limits)
      (image_still (tables_of s) (tables_of after) s.limits.blocks at m.state.graph (members m) (vs ++ m.made) heap (λ n h. in_longer vs m.unreclaimed m.made n sub h) is.image);
  registers = subst (λ r. ArePlacesOf at r.items m.state.registers) (sym registers) is.registers;
  deferred = subst (λ r. ArePlacesOf at r.items m.last.registers) (sym deferred) is.deferred;
  world = is.world;
}

-- two tables agree on all that a moment reads: on all but the reuse counters, the tables of runs, free blocks and remembered
-- entries, and the cursors of those
pub record AgreeOnMoments (t u : Tables) : Type 0 where
  pub size : u.size ≡ t.size
  pub heap : u.heap ≡ t.heap
  pub counts : u.counts ≡ t.counts
  pub starts : u.starts ≡ t.starts
  pub marks : u.marks ≡ t.marks
  pub grays : u.grays ≡ t.grays
  pub dones : u.dones ≡ t.dones
  pub unlogged : u.unlogged ≡ t.unlogged
  pub outs : u.outs ≡ t.outs
  pub states : u.states ≡ t.states
  pub decs : u.decs ≡ t.decs
  pub drawn : u.cursors DECREMENT_CURSOR ≡ t.cursors DECREMENT_CURSOR
  pub waiting : u.cursors DECREMENT_COUNT ≡ t.cursors DECREMENT_COUNT
  pub tracing : u.cursors TRACING_WORD ≡ t.cursors TRACING_WORD

-- a space whose tables agree with another's holds the same moment
pub holds_still : (s after : Space) (m : Moment) (at : Name → ℕ) → after ≡ record s { words = after.words } → AgreeOnMoments (tables_of s) (tables_of after) → HoldsMoment s m at → HoldsMoment after m at
holds_still s after m at same agree is =
    let t : Tables = tables_of s in
    let u : Tables = tables_of after in
    let limits : after.limits ≡ s.limits = ap (λ z. z.limits) same in
    let logged : after.logged ≡ s.logged = ap (λ z. z.logged) same in
    let itself : (n : Name) → IsTrue (has m.unreclaimed n) → IsTrue (has m.unreclaimed n) = λ n h. h in
    record {
      space = record { limits = subst AreLimits (sym limits) is.space.limits; size = agree.size ∙ is.space.size ∙ ap (λ l. region_begin l all_regions) (sym limits) };
      room = subst HasRoom (sym same) (record {
        registers = is.room.registers;
        deferred = is.room.deferred;
        logged = is.room.logged;
        work = is.room.work;
        report = is.room.report;
      });
      as_many = subst AreAsMany (sym same) is.as_many;
      follows = is.follows;
      image = imaged_left s after m at m.unreclaimed itself agree.heap limits (ap (λ z. z.registers) same) (ap (λ z. z.deferred) same) is.image;
      bits = bits_still t u m at m.unreclaimed agree.starts agree.marks agree.grays agree.dones agree.unlogged is.bits;
      logs = subst (λ l. AreLogged m at l.items) (sym logged) is.logs;
      few_logs = subst (λ z. length z.logged.items ≤ z.limits.threads * z.limits.log) (sym same) is.few_logs;
      counts = counts_still t u m at agree.counts agree.dones agree.decs agree.drawn agree.waiting is.counts;
      decrements = decrements_still s.limits after.limits t u m at limits agree.decs agree.waiting is.decrements;
      marks = marks_still t u m.state.graph at m.unreclaimed agree.counts is.marks;
      lines = out_still t u m.state.graph at m.made agree.outs is.lines;
      unchosen = unchosen_still t u at m.made agree.states is.unchosen;
      unused = unused_still t u at m.unreclaimed m.unreclaimed agree.states agree.outs itself is.unused;
      blocks = subst (λ l. HasBlocks u l m.trace) (sym limits) (blocks_still t u s.limits m.trace agree.states agree.tracing is.blocks);
      rest = rest_left s after m at m.unreclaimed itself (ap (λ z. z.rest_next) same) (ap (λ z. z.rest_end) same) limits agree.outs agree.states is.rest;
      no_work = ap (λ z. z.work.items) same ∙ is.no_work;
    }
