-- References of one promoted object after another are raised, and the worklist is emptied.
use Rattle.std.proofs.Common.{◌≡◌, ℕ, ◌+◌, ◌-◌, ◌<◌, ◌≤◌, refl, sym, ap, subst, ◌∙◌, inl, inr, ◌⊎◌, arith, false, List, [], ◌∷◌, ◌++◌, IsTrue, length, length-append}
use Rattle.std.specs.Prelude.{Option, None, map, slice_index_or}
use Rattle.std.proofs.lemmas.Bool.{or_left}
use Rattle.std.proofs.lemmas.Bool.Decides.{eqb_tells}
use Rattle.std.proofs.lemmas.Option.{slice_get-get_or}
use Rattle.lxr_layout.specs.declared.Name.{Name}
use Rattle.lxr_layout.specs.declared.Place.{Place}
use Rattle.lxr_base.specs.Roomy.{Roomy, pushed}
use Rattle.lxr_graph.specs.Names.{has, same_name}
use Rattle.lxr_graph.proofs.NameSets.{has-union, same_names}
use Rattle.lxr_image.specs.declared.space.Space.{Space}
use Rattle.lxr_image.specs.Spaces.{tables_of}
use Rattle.lxr_model.specs.Moments.{Moment}
use Rattle.lxr_model_counting.specs.Distinct.{IsDistinct}
use Rattle.lxr_model_counting.proofs.DistinctLemmas.{tested}
use Rattle.lxr_invariant.specs.Counting.{occurrences_from}
use Rattle.lxr_invariant.specs.Raised.{with_promoted}
use Rattle.lxr_invariant.specs.Standing.{place_of}
use Rattle.lxr_invariant.proofs.NameLemmas.{has_last, map_empty, occurrences_end, occurrences_step, split_last}
use Rattle.lxr_pause_increments.specs.Increments.{IncrementStage, IsIncrementing, RaisingLeaves, StaysRemembered, first_stage}
use Rattle.lxr_pause_increments.specs.Accounted.{GoesOn, HasEnteredOnce, IsEven, IsFieldRaised, IsPassed, IsScanning, Raisings, Settles, references_at, stage_with_held}
use Rattle.lxr_pause_increments.specs.Steps.{EntersField}
use Rattle.lxr_pause_increments.proofs.FrameLemmas.{leaves_spread, tables_same}
use Rattle.lxr_pause_increments.proofs.FixedLemmas.{LeavesMoving, fixed_left, moving_left, register_left}
use Rattle.lxr_pause_increments.proofs.HeldLemmas.{goes_none, still_placed, still_promoted, was_promoted}
use Rattle.lxr_pause_increments.proofs.RememberedLemmas.{raised_on, stays_both, stays_left, stays_none}
use Rattle.lxr_pause_increments.proofs.DrawnLemmas.{at_most_one, fixed_raised, maybe_drawn, none_drawn, not_written, passed_on, still_out}
use Rattle.lxr_pause_increments.proofs.FewLemmas.{few_held, few_popped}
use Rattle.lxr_pause_increments.proofs.OrderLemmas.{accounts_held, accounts_popped, accounts_same, distinct_last, has_before, has_other}

-- ---- references of one object

module _ (s now : Space) (p i : ℕ) (m : Moment) (at : Name → ℕ) (st : IncrementStage) (u : Name) (base : Raisings) (w : ℕ) (is : IsScanning s p i m at st u base) (within : i < length (references_at m u)) (fixes : EntersField s now m at st u i w) where
  abbrev ref : Option Name
  ref = slice_index_or (references_at m u) i None

  abbrev later : IncrementStage
  later = stage_with_held m st ref w

  known : IsTrue (has (with_promoted m st.promoted) u)
  known = has-union st.promoted m.unreclaimed u ∙ or_left (has st.promoted u) (has m.unreclaimed u) is.promoted

  -- one reference more is raised
  open_less : (v : Name) (j : ℕ) → IsTrue (has later.promoted v) → has later.work v ≡ false → j < length (references_at m v) → IsFieldRaised now m later v j ⊎ ((v ≡ u) × (i + 1 ≤ j))
  open_less v j promoted out below =
      let was = was_promoted m st ref w v promoted out in
      elim (is.accounted.raised v j was.0 was.1 below) [
        | inl raised ↦ inl (raised_on s now m st later v j fixes.goes_on raised)
        | inr open_one ↦ elim (eqb_tells j i) [
          | inl e ↦ inl (subst (λ z. IsFieldRaised now m later z j) (sym open_one.0) (subst (λ z. IsFieldRaised now m later u z) (sym e.1) fixes.raised))
          | inr e ↦ inr (open_one.0, (let from = open_one.1 in let ne = e.1 in omega (arith, from, ne)))
        ]
      ]

  -- a number was drawn for it, if for any
  entered_more : HasEnteredOnce now m later base.written (λ v j. (v ≡ u) × (i + 1 ≤ j))
  entered_more = maybe_drawn s now m st later fixes.goes_on.remembered fixes.goes_on.found (IsPassed m st base.written (λ v j. (v ≡ u) × (i ≤ j))) (IsPassed m later base.written (λ v j. (v ≡ u) × (i + 1 ≤ j)))
      (passed_on m st ref w base.written base.written (λ v j. (v ≡ u) × (i ≤ j)) (λ v j. (v ≡ u) × (i + 1 ≤ j)) (λ v j h. (h.0, let past = h.1 in omega (arith, past))) (λ f h. h))
      u i (fixed_raised now m later u i fixes.raised.fixed (inl (still_promoted m st ref w u is.promoted)))
      (inl (still_promoted m st ref w u is.promoted, still_out m st ref w u is.promoted is.out, λ h. let past = h.1 in omega (arith, past)))
      still_open fixes.drawn is.accounted.entered
    where
      still_open : ¬ IsPassed m st base.written (λ v j. (v ≡ u) × (i ≤ j)) u i
      still_open (inl passed) = passed.2 (refl, omega arith)
      still_open (inr passed) = not_written s m at st u i is.accounted.incrementing is.promoted passed.0

  -- a reference was raised: the next is to be
  pub scanned_more : IsScanning now p (i + 1) m at later u base
  scanned_more = record {
    accounted = record {
      incrementing = fixes.incrementing;
      accounts = accounts_held m st ref w base.times (occurrences_from (references_at m u) i) base.times (occurrences_from (references_at m u) (i + 1)) is.accounted.accounts
          (λ o. let k = occurrences_step (references_at m u) i ref o (slice_get-get_or (references_at m u) i None within) in omega (arith, k));
      few = few_held s now m st ref w base.fields (length (references_at m u) - i) base.fields (length (references_at m u) - (i + 1)) fixes.goes_on.found (let more = at_most_one s now m later.now (u, i) fixes.drawn in omega (arith, more, within))
          is.accounted.few.within is.accounted.few;
      entered = entered_more;
      raised = open_less;
    };
    promoted = still_promoted m st ref w u is.promoted;
    out = still_out m st ref w u is.promoted is.out;
    stands = is.stands ∙ sym (still_placed m st ref w u is.accounted.incrementing.follows known);
  }

-- all are raised
pub scanned_all : (s : Space) (p i : ℕ) (m : Moment) (at : Name → ℕ) (st : IncrementStage) (u : Name) (base : Raisings) → i ≡ length (references_at m u) → IsScanning s p i m at st u base → IsEven s m at st base
scanned_all s p i m at st u base end is = record {
  incrementing = is.accounted.incrementing;
  accounts = accounts_same m st base.times (occurrences_from (references_at m u) i) base.times (λ o. 0) (λ o. refl)
      (λ o. sym (ap (λ z. occurrences_from (references_at m u) z o) end ∙ occurrences_end (references_at m u) o)) is.accounted.accounts;
  few = record { cursor = let few = is.accounted.few.cursor in omega (arith, few); within = is.accounted.few.within };
  entered = none_drawn s s m st st (stays_none s m st) refl (IsPassed m st base.written (λ v j. (v ≡ u) × (i ≤ j))) (IsPassed m st base.written (λ v j. ⊥))
      (λ v j passed. elim passed [ inl was ↦ inl (was.0, was.1, λ none. none) | inr was ↦ inr was ]) refl is.accounted.entered;
  raised = λ v j promoted out below. elim (is.accounted.raised v j promoted out below) [
    | inl raised ↦ inl raised
    | inr open_one ↦ absurd (
        let longer : length (references_at m v) ≡ length (references_at m u) = ap (λ z. length (references_at m z)) open_one.0 in
        let from = open_one.1 in
        omega (arith, below, longer, from, end))
  ];
}

-- ---- the worklist

-- a space with another worklist has the same places
relisted : (s : Space) (w : Roomy Place) → LeavesMoving s (record s { work = w })
relisted s w = record { limits = refl; heap = refl; outs = refl; reuse = refl; states = refl; counts = λ k some. some; registers = refl; deferred = refl; rest = (refl, refl) }

popped_stays : (s : Space) (w : Roomy Place) (m : Moment) (st : IncrementStage) (ws : List Name) → StaysRemembered s (record s { work = w }) m st (record st { work = ws })
popped_stays s w m st ws = stays_left s (record s { work = w }) m st (record st { work = ws }) (record { promoted = refl; now = refl }) (record { limits = refl; remembered = refl; cursor = refl }) refl refl

-- the stage with the last of the worklist taken out
popped_incrementing : (s : Space) (w : Roomy Place) (m : Moment) (at : Name → ℕ) (st : IncrementStage) (ws : List Name) (u : Name) → w.room ≡ s.work.room → length w.items ≤ length s.work.items
    → w.items ≡ map (place_of st.now) ws → st.work ≡ ws ++ u ∷ [] → IsIncrementing s m at st → IsIncrementing (record s { work = w }) m at (record st { work = ws })
popped_incrementing s w m at st ws u room fewer items is r = record {
  space = record { limits = r.space.limits; size = r.space.size };
  room = record { registers = r.room.registers; deferred = r.room.deferred; logged = r.room.logged; work = room ∙ r.room.work; report = r.room.report };
  as_many = r.as_many;
  follows = r.follows;
  moving = moving_left s (record s { work = w }) st.found m at st.now st.promoted (relisted s w) r.moving;
  growth = r.growth;
  once_promoted = r.once_promoted;
  work_promoted = λ n h. r.work_promoted n (ap (λ z. has z n) is ∙ has_before ws u n h);
  once_work = (distinct_last ws u (subst (λ z. IsDistinct z) is r.once_work)).0;
  bits = r.bits;
  marks = r.marks;
  counts = record {
    stuck = r.counts.stuck;
    exact = r.counts.exact;
    positive = r.counts.positive;
    unraised = r.counts.unraised;
    reported = λ n. (
      λ h. let full = (r.counts.reported n).0 h in record { member = full.member; unstuck = full.unstuck; reaches = full.reaches },
      λ full. (r.counts.reported n).1 (record { member = full.member; unstuck = full.unstuck; reaches = full.reaches }),
    );
    reported_once = r.counts.reported_once;
  };
  logs = r.logs;
  few_logs = r.few_logs;
  none_done = r.none_done;
  blocks = r.blocks;
  decrements = r.decrements;
  might_remember = r.might_remember;
  remembered = stays_both st.found s (record s { work = w }) m (first_stage at st.found) st (record st { work = ws }) r.remembered (popped_stays s w m st ws);
  reported = r.reported;
  worklist = items;
  lists = record { promoted = r.lists.promoted; work = let a = r.lists.work in omega (arith, a, fewer); stuck = r.lists.stuck };
}

-- what was fixed stays so
pub popped_goes_on : (s : Space) (w : Roomy Place) (m : Moment) (st : IncrementStage) (ws : List Name) → GoesOn s (record s { work = w }) m st (record st { work = ws })
popped_goes_on s w m st ws = record {
  found = refl;
  fields = fixed_left s (record s { work = w }) m st (record st { work = ws }) (record { promoted = refl; now = refl }) refl;
  registers = register_left s (record s { work = w }) m st (record st { work = ws }) (record { promoted = refl; now = refl }) refl;
  remembered = popped_stays s w m st ws;
}

-- the last of the worklist is taken out: its references are to be raised
pub record IsPopped (s : Space) (w : Roomy Place) (p : Place) (m : Moment) (at : Name → ℕ) (st : IncrementStage) (base : Raisings) : Type 0 where
  pub rest : List Name
  pub name : Name
  pub scanning : IsScanning (record s { work = w }) p.0 0 m at (record st { work = rest }) name base
  pub goes_on : GoesOn s (record s { work = w }) m st (record st { work = rest })

pub popped : (s : Space) (w : Roomy Place) (p : Place) (m : Moment) (at : Name → ℕ) (st : IncrementStage) (base : Raisings) → IsEven s m at st base → s.work ≡ pushed w p → IsPopped s w p m at st base
popped s w p m at st base is work =
    let items : s.work.items ≡ w.items ++ p ∷ [] = ap (λ z. z.items) work in
    let x = split_last (place_of st.now) st.work w.items p (sym items ∙ is.incrementing.worklist) in
    let room : w.room ≡ s.work.room = sym (ap (λ z. z.room) work) in
    let longer : length s.work.items ≡ length w.items + 1 = ap length items ∙ length-append w.items (p ∷ []) in
    let in_work : IsTrue (has st.work x.1) = ap (λ z. has z x.1) x.2 ∙ has_last x.0 x.1 in
    let promoted : IsTrue (has st.promoted x.1) = is.incrementing.work_promoted x.1 in_work in
    let absent : has x.0 x.1 ≡ false = (distinct_last x.0 x.1 (subst (λ z. IsDistinct z) x.2 is.incrementing.once_work)).1 in
    let goes_on = popped_goes_on s w m st x.0 in
    record {
      rest = x.0;
      name = x.1;
      scanning = record {
        accounted = record {
          incrementing = popped_incrementing s w m at st x.0 x.1 room (omega (arith, longer)) x.3 x.2 is.incrementing;
          accounts = accounts_popped m st x.0 x.1 base.times x.2 is.incrementing.once_promoted promoted absent is.accounts;
          few = few_popped s w m st x.0 x.1 base.fields x.2 is.incrementing.once_promoted promoted absent is.few;
          entered = none_drawn s (record s { work = w }) m st (record st { work = x.0 }) (popped_stays s w m st x.0) refl (IsPassed m st base.written (λ v j. ⊥))
              (IsPassed m (record st { work = x.0 }) base.written (λ v j. (v ≡ x.1) × (0 ≤ j)))
              (λ v j passed. elim passed [ inl was ↦ inl (was.0, before st.work x.0 x.1 v x.2 was.1, λ h. other st.work x.1 v in_work was.1 h.0) | inr was ↦ inr was ]) refl is.entered;
          raised = λ v j in_promoted out below. elim (tested (same_name v x.1)) [
            | inl k ↦ inr (same_names v x.1 k, omega arith)
            | inr k ↦ elim (is.raised v j in_promoted (ap (λ z. has z v) x.2 ∙ has_other x.0 x.1 v k ∙ out) below) [
              | inl raised ↦ inl (raised_on s (record s { work = w }) m st (record st { work = x.0 }) v j goes_on raised)
              | inr none ↦ absurd none
            ]
          ];
        };
        promoted = promoted;
        out = absent;
        stands = ap (λ z. z.0) x.4;
      };
      goes_on = goes_on;
    }
  where
    -- what isn't in a list isn't in its front, nor is it one of it
    before : (all ws : List Name) (u v : Name) → all ≡ ws ++ u ∷ [] → has all v ≡ false → has ws v ≡ false
    before all ws u v same out = elim (tested (has ws v)) [ inl there ↦ absurd (let now = ap (λ z. has z v) same ∙ has_before ws u v there in cc) | inr none ↦ none ]

    other : (all : List Name) (u v : Name) → IsTrue (has all u) → has all v ≡ false → v ≡ u → ⊥
    other all u v there out same = let now : has all v ≡ has all u = ap (has all) same in cc

pub popped_leaves : (s : Space) (w : Roomy Place) (p : Place) → s.work ≡ pushed w p → RaisingLeaves s (record s { work = w })
popped_leaves s w p work =
    let kept : w ≡ record s.work { items = w.items } = sym (ap {A = Roomy Place} (λ z. record z { items = w.items }) work) in
    leaves_spread s (record s { work = w }) s.words s.registers.items w.items s.report.promoted.items s.report.stuck.items s.rest_next s.rest_end (λ i. record s { work = kept i })
    (tables_same (tables_of s) (tables_of s) refl)

-- an empty worklist, as `pop` leaves it
pub emptied : (s : Space) (w : Roomy Place) (m : Moment) (at : Name → ℕ) (st : IncrementStage) (base : Raisings) → s.work.items ≡ [] → w ≡ s.work → IsEven s m at st base → Settles s (record s { work = w }) m at st base
emptied s w m at st base empty same is = (
  st,
  record {
    accounted = subst (λ x. IsEven (record s { work = x }) m at st base) (sym same) is;
    no_work = map_empty (place_of st.now) st.work (sym empty ∙ is.incrementing.worklist);
  },
  subst (λ x. GoesOn s (record s { work = x }) m st st) (sym same) (goes_none s m st),
)
