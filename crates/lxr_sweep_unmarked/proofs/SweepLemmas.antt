-- Where nothing waits any more, what is left holds the moment without what was swept and what died by it.
use Rattle.std.proofs.Common.{◌≡◌, ◌≢◌, ℕ, ◌+◌, ◌*◌, ◌≤◌, refl, sym, ap, subst, ◌∙◌, inl, inr, arith, Bool, false, List, [], ◌++◌, IsTrue, length}
use Rattle.std.specs.Prelude.{◌↔◌, Option, Some, None, reverse}
use Rattle.std.proofs.lemmas.Bool.{false_from_ne_true}
use Rattle.lxr_layout.specs.declared.TheConstants.{DECREMENT_COUNT, DECREMENT_CURSOR, GRANULES_IN_BLOCK, TRACING_WORD}
use Rattle.lxr_layout.specs.declared.Name.{Name}
use Rattle.lxr_layout.specs.declared.Place.{Place}
use Rattle.lxr_base.specs.Roomy.{Roomy, emptied}
use Rattle.lxr_graph.specs.Listing.{NameList, with_names}
use Rattle.lxr_graph.specs.Names.{has, same_name, without}
use Rattle.lxr_graph.proofs.NameSets.{in_without, not_both, same_names, without_parts}
use Rattle.lxr_image.specs.declared.space.Space.{Space}
use Rattle.lxr_image.specs.Tables.{Tables}
use Rattle.lxr_image.specs.Spaces.{tables_of}
use Rattle.lxr_image.specs.Reads.{granule_of}
use Rattle.lxr_image.specs.Opened.{HasRoom}
use Rattle.lxr_model.specs.Dead.{Dead}
use Rattle.lxr_model.specs.Moments.{Moment, Trace}
use Rattle.lxr_model.specs.References.{references}
use Rattle.lxr_model.proofs.ReachableLemmas.{dead_parts}
use Rattle.lxr_model_counting.specs.Lowering.{IsOver}
use Rattle.lxr_model_counting.proofs.DistinctLemmas.{tested, without_same}
use Rattle.lxr_model_counting.proofs.LoweringLemmas.{over}
use Rattle.lxr_invariant.specs.AbstractState.{leaving}
use Rattle.lxr_invariant.specs.Standing.{AreLogged, HasBits, IsImaged}
use Rattle.lxr_invariant.specs.Counting.{HasCounts, IsUndecremented, count_at, entries_between, is_done, undone, waiting_at}
use Rattle.lxr_invariant.specs.Lines.{HasBlocks, HasMarks, KeepsRest}
use Rattle.lxr_invariant.specs.Quiescent.{HoldsMoment}
use Rattle.lxr_invariant.proofs.FrameLemmas.{AreAsMany, blocks_still, held_at_rest, imaged_left, none_undone, out_still, rest_left, unchosen_still}
use Rattle.lxr_invariant.proofs.KeepingLemmas.{keeps_both as lists_both}
use Rattle.lxr_invariant.proofs.NameLemmas.{in_either, in_first, in_second}
use Rattle.lxr_pause_decrements.specs.Cascade.{CascadeStage, Keeps, waits, with_lists}
use Rattle.lxr_pause_decrements.specs.Finishing.{FinishesGrays}
use Rattle.lxr_pause_decrements.specs.Wipe.{LosesBits}
use Rattle.lxr_pause_decrements.proofs.CascadeLemmas.{granules_differ, has_reversed}
use Rattle.lxr_pause_decrements.proofs.GrayLemmas.{grays_end}
use Rattle.lxr_pause_decrements.proofs.WipeLemmas.{loses_same}
use Rattle.lxr_sweep_unmarked.specs.Clearing.{IsClearing, clearing}
use Rattle.lxr_sweep_unmarked.specs.Releasing.{IsReleasing, cascade_of, lowered_to}
use Rattle.lxr_sweep_unmarked.specs.Sweeping.{SweepsGrays, SweepsUnmarked, swept_moment}
use Rattle.lxr_sweep_unmarked.proofs.ClearingLemmas.{ground_of}
use Rattle.lxr_sweep_unmarked.proofs.FollowLemmas.{SweptAre, swept_follows}
use Rattle.lxr_sweep_unmarked.proofs.ReleaseBeginLemmas.{bits_then, releasing, swept_are}
use Rattle.lxr_invariant.proofs.UnusedLemmas.{unused_still}

-- ---- bits, one change after another

-- no object of one list begins where one of the other does
abbrev pub BeginApart : (Name → ℕ) → List Name → List Name → Type 0
BeginApart at xs ys = (x y : Name) → IsTrue (has xs x) → IsTrue (has ys y) → granule_of (at y) ≢ granule_of (at x)

loses_then : (f g h : ℕ → Bool) (at : Name → ℕ) (xs ys : List Name) → BeginApart at xs ys → LosesBits f g at xs → LosesBits g h at ys → LosesBits f h at (xs ++ ys)
loses_then f g h at xs ys apart first second = record {
  reclaimed = λ n there. elim (in_either xs ys n there) [
    | inl x ↦ second.others (granule_of (at n)) (λ y in_y. apart n y x in_y) ∙ first.reclaimed n x
    | inr y ↦ second.reclaimed n y
  ];
  others = λ k nobody. second.others k (λ n in_y. nobody n (in_second xs ys n in_y)) ∙ first.others k (λ n in_x. nobody n (in_first xs ys n in_x));
}

-- grays, where what died made gray what it referred to
grays_then : (trace : Option Trace) (f g h : ℕ → Bool) (m : Moment) (at : Name → ℕ) (swept gone : List Name) → ((x : Name) → IsTrue (has swept x) → IsTrue (has m.unreclaimed x))
    → BeginApart at swept (without m.unreclaimed swept) → BeginApart at swept gone → LosesBits f g at swept → FinishesGrays trace g h (leaving m (without m.unreclaimed swept)) at gone → SweepsGrays trace f h m at swept gone
grays_then None f g h m at swept gone members apart apart_gone first second = loses_then f g h at swept gone apart_gone first second
grays_then (Some trace) f g h m at swept gone members apart apart_gone first second = record {
  left = λ n left_n.
      let parts = without_parts (without m.unreclaimed swept) gone n left_n in
      let same : g (granule_of (at n)) ≡ f (granule_of (at n)) = first.others (granule_of (at n)) (λ x in_x e. apart x n in_x parts.0 (sym e)) in
      let is = second.left n left_n in (
        (λ now. elim (is.0 now) [ inl old ↦ inl (sym same ∙ old) | inr by ↦ inr by ]),
        (λ was. is.1 (elim was [ inl old ↦ inl (same ∙ old) | inr by ↦ inr by ])),
      );
  reclaimed = λ n there. elim (in_either swept gone n there) [
    | inl x ↦ second.others (granule_of (at n)) (λ y in_y. apart n y x in_y) ∙ first.reclaimed n x
    | inr y ↦ second.reclaimed n y
  ];
  others = λ k nobody. second.others k (λ y in_y. nobody y (without_parts m.unreclaimed swept y in_y).0) ∙ first.others k (λ x in_x. nobody x (members x in_x));
}

-- nothing is listed
none_entries : (f : ℕ → ℕ) (from n p : ℕ) → n ≡ 0 → entries_between f from n p ≡ 0
none_entries f from n p none = ap (λ z. entries_between f from z p) none

-- ---- the space

-- the space with other words, another worklist, and other swept and dead names in its report
abbrev swept_space : Space → List ℕ → Roomy Place → NameList → NameList → Space
swept_space s words work swept dead = record s { words = words; work = work; report = record s.report { swept = swept; dead = dead } }

room_stays : (s : Space) (words : List ℕ) (swept dead : List Name) → HasRoom s → HasRoom (swept_space s words s.work (with_names s.report.swept swept) (with_names s.report.dead dead))
room_stays s words swept dead is = record {
  registers = is.registers;
  deferred = is.deferred;
  logged = is.logged;
  work = is.work;
  report = record {
    promoted = is.report.promoted;
    dead = is.report.dead;
    stuck = is.report.stuck;
    swept = is.report.swept;
    told = is.report.told;
  };
}

module _ (s b c : Space) (m : Moment) (at : Name → ℕ) (swept : List Name) (is : IsClearing b (clearing s m at swept (GRANULES_IN_BLOCK * s.limits.blocks))) (gone : List Name)
    (done : IsReleasing c (lowered_to (releasing s b m at swept) gone [] (λ o. 0))) (keeps : Keeps b c) where
  abbrev names : List Name
  names = reverse swept

  abbrev died : List Name
  died = reverse gone

  abbrev us : List Name
  us = without m.unreclaimed names

  abbrev vs : List Name
  vs = without us died

  abbrev t : Tables
  t = tables_of s

  abbrev u : Tables
  u = tables_of c

  -- the space in the end: its worklist is emptied
  abbrev after : Space
  after = record c { work = emptied c.work }

  abbrev stage : CascadeStage
  stage = cascade_of (lowered_to (releasing s b m at swept) gone [] (λ o. 0))

  are : SweptAre s m at names
  are = swept_are s b m at swept is

  cursors : u.cursors ≡ t.cursors
  cursors = keeps.cursors ∙ is.cursors

  none_listed : u.cursors DECREMENT_COUNT ≡ 0
  none_listed = ap (λ f. f DECREMENT_COUNT) cursors ∙ is.can.empty

  limits : c.limits ≡ s.limits
  limits = ap (λ z. z.limits) keeps.leaves.rest ∙ ap (λ z. z.limits) is.rest

  none_waits : (n : Name) → waits u stage n ≡ 0
  none_waits n = let listed : waiting_at u (at n) ≡ 0 = none_entries u.decs (u.cursors DECREMENT_CURSOR) (u.cursors DECREMENT_COUNT) (at n) none_listed in omega (arith, listed)

  -- nothing without a count is left
  empty : IsOver us m.stuck gone (count_at u at)
  empty n in_n loose none = done.stage.cascade.seen n in_n loose refl none

  -- exactly the dead of what is left are gone
  gone_are : (n : Name) → IsTrue (has gone n) ↔ Dead m.last us m.stuck n
  gone_are = over m.last us m.stuck gone (count_at u at) (waits u stage) done.stage.cascade.lowered none_waits empty

  died_are : (n : Name) → IsTrue (has died n) ↔ Dead m.last us m.stuck n
  died_are n = let e = has_reversed gone n in (λ h. (gone_are n).0 (sym e ∙ h), λ d. e ∙ (gone_are n).1 d)

  same_then : without us gone ≡ vs
  same_then = without_same us gone died (λ n. sym (has_reversed gone n))

  in_left : (n : Name) → IsTrue (has vs n) → IsTrue (has us n)
  in_left n h = (without_parts us died n h).0

  in_all : (n : Name) → IsTrue (has vs n) → IsTrue (has m.unreclaimed n)
  in_all n h = (without_parts m.unreclaimed names n (in_left n h)).0

  -- ---- what is left of it

  same_space : after ≡ swept_space s c.words s.work (with_names s.report.swept names) (with_names s.report.dead died)
  same_space =
      let room : c.work.room ≡ s.work.room = keeps.leaves.work_room ∙ ap (λ z. z.work.room) is.rest in
      let work : emptied c.work ≡ s.work = λ i. record { items = sym is.can.holds.no_work i; room = room i } in
      let b_dead : b.report.dead ≡ s.report.dead = ap (λ z. z.report.dead) is.rest in
      let items : c.report.dead.items ≡ s.report.dead.items ++ died = done.stage.cascade.remains.reported ∙ ap (λ d. d.items ++ died) b_dead in
      let dead_room : c.report.dead.room ≡ s.report.dead.room = keeps.leaves.dead_room ∙ ap (λ d. d.room) b_dead in
      let dead_listed : c.report.dead.listed ≡ s.report.dead.listed = keeps.leaves.dead_listed ∙ ap (λ d. d.listed) b_dead in
      let dead : c.report.dead ≡ with_names s.report.dead died = λ i. record { items = items i; room = dead_room i; listed = dead_listed i } in
      ap {A = Space} (λ z. record z { work = emptied c.work }) keeps.leaves.rest
      ∙ ap {A = Space} (λ z. with_lists z c.words (emptied c.work) c.report.dead) is.rest
      ∙ ap {A = Roomy Place} (λ w. swept_space s c.words w (with_names s.report.swept names) c.report.dead) work
      ∙ ap {A = NameList} (λ d. swept_space s c.words s.work (with_names s.report.swept names) d) dead

  stays : (n : Name) → IsTrue (has us n) → has (without m.stuck names) n ≡ false → has m.stuck n ≡ false
  stays n in_n loose = false_from_ne_true (has m.stuck n) (λ k. not_both _ (in_without m.stuck names n k (λ q. not_both (has names n) q (without_parts m.unreclaimed names n in_n).1)) loose)

  undecremented_left : IsUndecremented u (swept_moment m names died) at
  undecremented_left = record {
    none_done = done.stage.cascade.none_done;
    none_drawn = ap (λ f. f DECREMENT_CURSOR) cursors ∙ is.can.undecremented.none_drawn;
    positive = λ n h z.
        let parts = without_parts us died n h in
        elim (tested (has m.stuck n)) [
          | inl k ↦ let e = done.stage.cascade.remains.stuck n parts.0 k in omega (arith, e, z)
          | inr k ↦ not_both (has died n) (has_reversed gone n ∙ empty n parts.0 k z) parts.1
        ];
  }

  exact_left : (n : Name) → IsTrue (has vs n) → has (without m.stuck names) n ≡ false → count_at u at n ≡ references m.last (undone u at vs) n + waiting_at u (at n)
  exact_left n h k =
      let e = done.stage.cascade.lowered.exact n (in_left n h) (stays n (in_left n h) k) in
      let none = none_waits n in
      let listed : waiting_at u (at n) ≡ 0 = none_entries u.decs (u.cursors DECREMENT_CURSOR) (u.cursors DECREMENT_COUNT) (at n) none_listed in
      let q = ap (λ z. references m.last z n) (none_undone u at vs done.stage.cascade.none_done) in
      let same = ap (λ z. references m.last z n) same_then in
      omega (arith, e, none, listed, q, same)

  counts_left : HasCounts u (swept_moment m names died) at
  counts_left = record {
    stuck = λ n h k. done.stage.cascade.remains.stuck n (in_left n h) (without_parts m.stuck names n k).0;
    below = λ n h k. done.stage.cascade.remains.below n (in_left n h) (stays n (in_left n h) k);
    exact = exact_left;
    held = λ n h k. held_at_rest u (swept_moment m names died) at n undecremented_left h (exact_left n h k);
    done = λ n h k. not_both (is_done u at n) k (done.stage.cascade.none_done (granule_of (at n)));
    dead = λ n h k. not_both (is_done u at n) k (done.stage.cascade.none_done (granule_of (at n)));
  }

  image_left : IsImaged after (swept_moment m names died) at
  image_left =
      let x = imaged_left s after m at vs in_all (keeps.leaves.tables.keeps.heap ∙ is.stay.keeps.heap) limits (ap (λ z. z.registers) same_space) (ap (λ z. z.deferred) same_space) is.can.holds.image in
      record { image = x.image; registers = x.registers; deferred = x.deferred; world = x.world }

  outs : u.outs ≡ t.outs
  outs = keeps.leaves.tables.outs ∙ is.stay.outs

  states : u.states ≡ t.states
  states = keeps.leaves.tables.states ∙ is.stay.states

  rest_stays : KeepsRest after (swept_moment m names died) at
  rest_stays =
      let x = rest_left s after m at vs in_all (ap (λ z. z.rest_next) same_space) (ap (λ z. z.rest_end) same_space) limits outs states is.can.holds.rest in
      record { rest = x.rest; apart = x.apart }

  holds_left : HoldsMoment after (swept_moment m names died) at
  holds_left =
      let old = is.can.holds in
      let logged : c.logged ≡ s.logged = ap (λ z. z.logged) same_space in
      record {
        space = record { limits = done.stage.space.limits; size = done.stage.space.size };
        room = subst HasRoom (sym same_space) (room_stays s c.words names died old.room);
        as_many = subst AreAsMany (sym same_space) old.as_many;
        follows = swept_follows s m at is.can names are died died_are;
        image = image_left;
        bits = bits_then u (leaving m us) at vs (without m.stuck names) vs (subst (HasBits u (leaving m us) at) same_then done.stage.cascade.remains.bits);
        logs = subst (λ l. AreLogged m at l.items) (sym logged) old.logs;
        few_logs = let f = old.few_logs in let l = ap (λ z. length z.items) logged in subst (λ z. length c.logged.items ≤ z.threads * z.log) (sym limits) (omega (arith, f, l));
        counts = counts_left;
        decrements = record { fits = omega (arith, none_listed); places = λ k h. absurd (omega (arith, h, none_listed)) };
        marks = subst (HasMarks u m.state.graph at) same_then done.stage.cascade.remains.marks;
        lines = out_still t u m.state.graph at m.made outs old.lines;
        unchosen = unchosen_still t u at m.made states old.unchosen;
        unused = unused_still t u at m.unreclaimed vs states outs in_all old.unused;
        blocks = subst (λ l. HasBlocks u l m.trace) (sym limits) (blocks_still t u s.limits m.trace states (ap (λ f. f TRACING_WORD) cursors) old.blocks);
        rest = rest_stays;
        no_work = refl;
      }

  -- ---- bits

  apart : BeginApart at names us
  apart x y in_x in_y =
      let parts = without_parts m.unreclaimed names y in_y in
      let other : same_name y x ≡ false = elim (tested (same_name y x)) [ inl k ↦ not_both (has names x) in_x (sym (ap (has names) (same_names y x k)) ∙ parts.1) | inr k ↦ k ] in
      granules_differ t.heap s.limits.blocks m at (ground_of s m at is.can.holds is.can.settled) y x parts.0 ((are x).0 in_x).0 other

  apart_died : BeginApart at names died
  apart_died x y in_x in_y = apart x y in_x (dead_parts ((died_are y).0 in_y)).member

  marks_left : LosesBits t.marks u.marks at (names ++ died)
  marks_left = loses_then t.marks (tables_of b).marks u.marks at names died apart_died (loses_same t.marks (tables_of b).marks at swept names (has_reversed swept) is.lost_marks)
      (loses_same (tables_of b).marks u.marks at gone died (has_reversed gone) done.stage.cascade.remains.lost_marks)

  grays_left : SweepsGrays m.trace t.grays u.grays m at names died
  grays_left = grays_then m.trace t.grays (tables_of b).grays u.grays m at names died (λ x h. ((are x).0 h).0) apart apart_died
      (loses_same t.grays (tables_of b).grays at swept names (has_reversed swept) is.lost_grays)
      (grays_end m.trace (tables_of b).grays u.grays (leaving m us) at gone died [] (λ o. 0) (has_reversed gone) same_then refl (λ o. refl) gone_are done.stage.cascade.grays)

  -- ---- all of it

  pub swept_all : SweepsUnmarked s after m at names died
  swept_all = record {
    swept_are = are;
    swept_once = is.once;
    dead = λ n. subst (λ z. IsTrue (has died n) ↔ Dead z us m.stuck n) is.can.settled.same (died_are n);
    dead_once = done.stage.cascade.remains.once;
    holds = holds_left;
    undecremented = undecremented_left;
    empty = none_listed;
    keeps = lists_both t (tables_of b) u is.stay.keeps keeps.leaves.tables.keeps;
    marks = marks_left;
    grays = grays_left;
    decs = keeps.leaves.tables.decs ∙ is.stay.decs;
    states = states;
    outs = outs;
    space = same_space;
  }
