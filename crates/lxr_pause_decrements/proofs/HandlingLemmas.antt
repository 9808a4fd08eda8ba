-- What decrementers have handled goes without a further lowering: it is dead, and its references no longer count.
use Rattle.std.proofs.Common.{◌≡◌, ℕ, zero, suc, ◌+◌, ◌*◌, ◌<◌, ◌≤◌, refl, sym, ap, subst, ◌∙◌, inl, inr, arith, Bool, true, false, cond, List, [], ◌∷◌, ◌++◌, IsTrue, length, nat_eq, nat_le}
use Rattle.std.specs.Prelude.{not, ◌&&◌, ◌||◌, Some, filter, map, min, reverse}
use Rattle.std.proofs.lemmas.List.{length-map, length-reverse, reverse-append}
use Rattle.std.proofs.lemmas.Bool.{and_right, or_cases, or_left, or_right}
use Rattle.std.proofs.lemmas.Bool.Decides.{eqb_tells, leb_tells, nat_tests}
use Rattle.lxr_base.specs.Roomy.{Roomy, pushed}
use Rattle.lxr_graph.specs.Listing.{NameList, with_name}
use Rattle.lxr_layout.specs.declared.TheConstants.{DECREMENT_COUNT, DECREMENT_CURSOR, GRANULES_IN_BLOCK}
use Rattle.lxr_layout.specs.declared.Name.{Name}
use Rattle.lxr_layout.specs.declared.Place.{Place}
use Rattle.lxr_layout.specs.declared.limits.Limits.{Limits}
use Rattle.lxr_graph.specs.Names.{has, same_name, without}
use Rattle.lxr_graph.specs.State.{Graph, Object, object_at, refs_of, shape_of}
use Rattle.lxr_graph.proofs.NameSets.{not_both, same_itself, same_names}
use Rattle.lxr_image.specs.declared.space.Space.{Space}
use Rattle.lxr_image.specs.Tables.{Tables, changed}
use Rattle.lxr_image.specs.Spaces.{tables_of}
use Rattle.lxr_image.specs.Reads.{granule_of}
use Rattle.lxr_model.specs.Moments.{Moment}
use Rattle.lxr_model.specs.References.{occurrences, references, references_from}
use Rattle.lxr_model.proofs.ReachableLemmas.{dead_parts}
use Rattle.lxr_model_counting.proofs.DistinctLemmas.{tested}
use Rattle.lxr_invariant.specs.Counting.{count_at, entries_between, is_done, passing, undone, waiting_at}
use Rattle.lxr_invariant.specs.Standing.{place_of}
use Rattle.lxr_invariant.proofs.EntryLemmas.{changed_here, changed_other, passing_few}
use Rattle.lxr_invariant.proofs.FrameLemmas.{none_undone}
use Rattle.lxr_invariant.proofs.NameLemmas.{no_member}
use Rattle.lxr_pause_decrements.specs.Cascade.{Cascade, CascadeStage, Handling, IsHandling, IsSeeking, Remains, drawn_from, kept, later, seeking}
use Rattle.lxr_blocks.specs.Clearing.{without_object}
use Rattle.lxr_pause_decrements.proofs.CascadeLemmas.{append_nothing, bare, bare_uncounted, count_stays, granules_differ, has_reversed, places_more, refs_reversed, remains_fall, remains_still, written_other}
use Rattle.lxr_pause_decrements.proofs.GrayLemmas.{BeginsAlone, grays_handled, handled_on}

-- ---- the names that still count

filtered_head : (q : Name → Bool) (u : Name) (xs : List Name) (b : Bool) → filter q (cond b (u ∷ xs) xs) ≡ cond (b && q u) (u ∷ filter q xs) (filter q xs)
filtered_head q u xs true = refl
filtered_head q u xs false = refl

-- two tests one after another let through what two others do
filtered_same : (p q f g : Name → Bool) (us : List Name) → ((n : Name) → IsTrue (has us n) → (p n && q n) ≡ (f n && g n)) → filter q (filter p us) ≡ filter g (filter f us)
filtered_same p q f g [] same = refl
filtered_same p q f g (u ∷ us) same =
    let here = same u (or_left (same_name u u) (has us u) (same_itself u)) in
    let rest = filtered_same p q f g us (λ n h. same n (or_right (same_name n u) (has us n) h)) in
    filtered_head q u (filter p us) (p u) ∙ ap (λ b. cond b (u ∷ filter q (filter p us)) (filter q (filter p us))) here
    ∙ ap (λ xs. cond (f u && g u) (u ∷ xs) xs) rest ∙ sym (filtered_head g u (filter f us) (f u))

-- the tables once r, which is done, is reclaimed
abbrev pub without_done : Tables → (Name → ℕ) → Name → Object → Tables
without_done t at r o = record (without_object t (at r) (shape_of o)) { dones = changed t.dones (granule_of (at r)) false }

module _ (l : Limits) (t : Tables) (w : Roomy Place) (d : NameList) (st : CascadeStage) (r : Name) (ro : Object) (is : Handling l t w d st) (in_r : IsTrue (has st.moment.unreclaimed r))
    (not_gone : has st.gone r ≡ false) (done : IsTrue (is_done t st.at r)) (has_ro : object_at st.moment.state.graph r ≡ Some ro) where
  abbrev m : Moment
  m = st.moment

  abbrev g : ℕ
  g = granule_of (st.at r)

  -- the tables once it isn't done
  abbrev undone_there : Tables
  undone_there = record t { dones = changed t.dones g false }

  none : count_at t st.at r ≡ 0
  none = is.done_zero r in_r done

  same_tables : without_done t st.at r ro ≡ bare undone_there st.at r ro
  same_tables = bare_uncounted undone_there st.at r ro none

  -- where it isn't done, what is left is as before
  left_undone : Remains l undone_there d st
  left_undone = record {
    ground = is.remains.ground;
    stuck = is.remains.stuck;
    below = is.remains.below;
    bits = record {
      starts = record { each = is.remains.bits.starts.each; only = is.remains.bits.starts.only };
      marks = is.remains.bits.marks;
      grays = is.remains.bits.grays;
      dones = λ k h. elim (eqb_tells k g) [
        | inl q ↦ not_both (changed t.dones g false k) h (changed_here t.dones g false k q.1)
        | inr q ↦ is.remains.bits.dones k (sym (changed_other t.dones g false k q.1) ∙ h)
      ];
      unlogged = is.remains.bits.unlogged;
    };
    marks = record { marked = is.remains.marks.marked; elsewhere = is.remains.marks.elsewhere };
    unused = is.remains.unused;
    lost_marks = is.remains.lost_marks;
    tracing = is.remains.tracing;
    decrements = record { fits = is.remains.decrements.fits; places = is.remains.decrements.places };
    once = is.remains.once;
    reported = is.remains.reported;
    fewer = is.remains.fewer;
    dead_room = is.remains.dead_room;
  }

  -- the same names still count
  undone_stays : undone (without_done t st.at r ro) st.at (without m.unreclaimed (r ∷ st.gone)) ≡ undone t st.at (kept st)
  undone_stays = filtered_same (λ n. not (has (r ∷ st.gone) n)) (λ n. not (is_done (without_done t st.at r ro) st.at n)) (λ n. not (has st.gone n)) (λ n. not (is_done t st.at n)) m.unreclaimed
      (λ n in_n. elim (tested (same_name n r)) [
        | inl k ↦
            let out : (not (has (r ∷ st.gone) n) && not (is_done (without_done t st.at r ro) st.at n)) ≡ false = ap (λ b. not (b || has st.gone n) && not (is_done (without_done t st.at r ro) st.at n)) k in
            let was : not (is_done t st.at n) ≡ false = ap not (ap (is_done t st.at) (same_names n r k) ∙ done) in
            out ∙ sym (and_right (not (has st.gone n)) (not (is_done t st.at n)) was)
        | inr k ↦
            ap (λ b. not (b || has st.gone n) && not (is_done (without_done t st.at r ro) st.at n)) k
            ∙ ap (λ b. not (has st.gone n) && not b) (written_other t.heap l.blocks m st.at is.remains.ground t.dones false n r in_n in_r k)
      ])

  count_then : (n : Name) → IsTrue (has m.unreclaimed n) → count_at (without_done t st.at r ro) st.at n ≡ count_at t st.at n
  count_then n in_n = ap (λ z. count_at z st.at n) same_tables ∙ count_stays t.heap l.blocks m st.at is.remains.ground undone_there r ro in_r has_ro none n in_n

  done_before : (n : Name) → IsTrue (is_done (without_done t st.at r ro) st.at n) → IsTrue (is_done t st.at n)
  done_before n h = elim (eqb_tells (granule_of (st.at n)) g) [
    | inl q ↦ not_both (changed t.dones g false (granule_of (st.at n))) h (changed_here t.dones g false (granule_of (st.at n)) q.1)
    | inr q ↦ sym (changed_other t.dones g false (granule_of (st.at n)) q.1) ∙ h
  ]

  -- r is reclaimed
  pub handled : Handling l (without_done t st.at r ro) (pushed w (place_of st.at r)) (with_name d r) (later st (r ∷ st.gone) st.work st.extra)
  handled = record {
    remains = subst (λ z. Remains l z (with_name d r) (later st (r ∷ st.gone) st.work st.extra)) (sym same_tables)
        (remains_fall l undone_there d st r st.work st.extra ro left_undone in_r not_gone unstuck (changed_here t.dones g false g refl) has_ro);
    exact = λ n in_n loose. count_then n in_n ∙ is.exact n in_n loose ∙ ap (λ us. references m.last us n + waiting_at t (st.at n)) (sym undone_stays);
    held = is.held;
    dead = λ n h. elim (or_cases (same_name n r) (has st.gone n) h) [
      | inl k ↦ let e : n ≡ r = same_names n r k in is.done_dead n (ap (has m.unreclaimed) e ∙ in_r) (ap (is_done t st.at) e ∙ done)
      | inr k ↦ is.dead n k
    ];
    zero = λ n h. elim (or_cases (same_name n r) (has st.gone n) h) [
      | inl k ↦ ap (count_at (without_done t st.at r ro) st.at) (same_names n r k) ∙ count_then r in_r ∙ none
      | inr k ↦ count_then n (dead_parts (is.dead n k)).member ∙ is.zero n k
    ];
    done_dead = λ n in_n h. is.done_dead n in_n (done_before n h);
    done_zero = λ n in_n h. count_then n in_n ∙ is.done_zero n in_n (done_before n h);
    grays = grays_handled m.trace st.was.grays t m st.at st.gone st.ungrayed r is.grays is.handled in_r done alone;
    handled = handled_on m.trace t (without_done t st.at r ro) m st.at st.gone r is.handled refl done_before is.remains.ground.closed alone;
    places = ap (λ xs. xs ++ place_of st.at r ∷ []) is.places ∙ sym (places_more st.at (reverse st.gone) r) ∙ ap (map (place_of st.at)) (sym (reverse-append (r ∷ []) st.gone));
    between = is.between;
    work_room = is.work_room;
  }
    where
      unstuck : has m.stuck r ≡ false
      unstuck = (dead_parts (is.done_dead r in_r done)).unstuck

      alone : BeginsAlone m st.at r
      alone n in_n other = granules_differ t.heap l.blocks m st.at is.remains.ground n r in_n in_r other

-- ---- all is reclaimed

-- what an object of one of these names refers to is among their references
refs_has : (g : Graph) (us : List Name) (u o : Name) → IsTrue (has us u) → occurrences (refs_of (object_at g u)) o ≤ references_from g us o
refs_has g [] u o h = no_member u h
refs_has g (x ∷ us) u o h = elim (or_cases (same_name u x) (has us u) h) [
  | inl k ↦ let e = ap (λ z. occurrences (refs_of (object_at g z)) o) (same_names u x k) in omega (arith, e)
  | inr k ↦ let e = refs_has g us u o k in omega (arith, e)
]

-- what neither those that are gone nor those that are left refer to, none does
refs_none : (g : Graph) (us gone : List Name) (o : Name) → references_from g (without us gone) o ≡ 0 → references_from g gone o ≡ 0 → references_from g us o ≡ 0
refs_none g [] gone o left went = refl
refs_none g (u ∷ us) gone o left went = elim (tested (has gone u)) [
  | inl k ↦
      let split : references_from g (cond (not true) (u ∷ without us gone) (without us gone)) o ≡ 0 = ap (λ b. references_from g (cond (not b) (u ∷ without us gone) (without us gone)) o) (sym k) ∙ left in
      let rest = refs_none g us gone o split went in
      let here = refs_has g gone u o k in
      omega (arith, rest, here, went)
  | inr k ↦
      let split : references_from g (cond (not false) (u ∷ without us gone) (without us gone)) o ≡ 0 = ap (λ b. references_from g (cond (not b) (u ∷ without us gone) (without us gone)) o) (sym k) ∙ left in
      let both : occurrences (refs_of (object_at g u)) o + references_from g (without us gone) o ≡ 0 = split in
      let rest = refs_none g us gone o (omega (arith, both)) went in
      omega (arith, rest, both)
]

-- where a name stands neither among the drawn entries of the list nor among the others, it does not stand there at all
pub listed_none : (f : ℕ → ℕ) (drawn n p : ℕ) → entries_between f 0 (min drawn n) p ≡ 0 → entries_between f drawn n p ≡ 0 → entries_between f 0 n p ≡ 0
listed_none f drawn zero p before behind = refl
listed_none f drawn (suc n) p before behind = elim (leb_tells drawn n) [
  | inl c ↦
      let some = c.1 in
      let here : nat_le drawn n ≡ true = c.0 in
      let all : min drawn (suc n) ≡ drawn = omega (arith, some) in
      let fewer : min drawn n ≡ drawn = omega (arith, some) in
      let head : cond (true && nat_eq (f n) p) 1 0 + entries_between f drawn n p ≡ 0 = ap (λ b. cond (b && nat_eq (f n) p) 1 0 + entries_between f drawn n p) (sym here) ∙ behind in
      let rest = listed_none f drawn n p (ap (λ z. entries_between f 0 z p) (fewer ∙ sym all) ∙ before) (omega (arith, head)) in
      let least : nat_le 0 n ≡ true = grind (arith, nat_tests) in
      let first : entries_between f 0 (suc n) p ≡ cond (true && nat_eq (f n) p) 1 0 + entries_between f 0 n p = ap (λ b. cond (b && nat_eq (f n) p) 1 0 + entries_between f 0 n p) least in
      omega (arith, first, head, rest)
  | inr c ↦
      let few = c.1 in
      let all : min drawn (suc n) ≡ suc n = omega (arith, few) in
      ap (λ z. entries_between f 0 z p) (sym all) ∙ before
]

-- where nothing is done, exactly what is in the list waits, and what has no count and is left is to be looked at
pub handled_all : (l : Limits) (t : Tables) (w : Roomy Place) (d : NameList) (st : CascadeStage) → Handling l t w d st → ((k : ℕ) → t.dones k ≡ false)
    → Cascade l t w d (seeking (later st st.gone [] (λ o. 0)) (reverse st.gone) (λ o. drawn_from t 0 (st.at o)))
handled_all l t w d st is none =
    let m : Moment = st.moment in
    let exact : (n : Name) → IsTrue (has m.unreclaimed n) → has m.stuck n ≡ false → count_at t st.at n ≡ references m.last (kept st) n + waiting_at t (st.at n) =
    λ n in_n loose. let e = is.exact n in_n loose in let k = ap (λ us. references m.last us n) (none_undone t st.at (kept st) none) in omega (arith, e, k) in
    record {
      remains = remains_still l t d st (map (place_of st.at) (reverse st.gone)) [] (λ o. 0) st.ungrayed (λ o. references_from m.last.graph (reverse st.gone) o + drawn_from t 0 (st.at o)) is.remains;
      lowered = record {
        dead = is.dead;
        zero = is.zero;
        exact = λ n in_n loose. let e = exact n in_n loose in omega (arith, e);
      };
      seen = λ n in_n loose passed zero.
          let e = exact n in_n loose in
          let turned = refs_reversed m.last.graph st.gone n in
          let refs = refs_none m.last.graph m.unreclaimed st.gone n (omega (arith, e, zero)) (omega (arith, passed, turned)) in
          let listed = listed_none t.decs (t.cursors DECREMENT_CURSOR) (t.cursors DECREMENT_COUNT) (st.at n) (omega (arith, passed)) (omega (arith, e, zero)) in
          absurd (is.held n in_n loose (omega (arith, e, zero, refs, listed)));
      none_done = none;
      grays = is.grays;
      work = is.places ∙ append_nothing (map (place_of st.at) (reverse st.gone));
      work_gone = λ n h. absurd (cc);
      work_room =
          let fewer = is.remains.fewer in
          let few = passing_few st.was.starts (GRANULES_IN_BLOCK * l.blocks) in
          let room = is.work_room in
          let long = ap length is.places ∙ length-map (reverse st.gone) (place_of st.at) ∙ length-reverse st.gone in
          omega (arith, fewer, few, room, long);
    }

-- there is room for one more place in the worklist while an object is left
pub handling_room : (l : Limits) (t : Tables) (w : Roomy Place) (d : NameList) (st : CascadeStage) → Handling l t w d st → 1 ≤ passing t.starts (GRANULES_IN_BLOCK * l.blocks) → length w.items < w.room
handling_room l t w d st is some =
    let fewer = is.remains.fewer in
    let few = passing_few st.was.starts (GRANULES_IN_BLOCK * l.blocks) in
    let room = is.work_room in
    let long = ap length is.places ∙ length-map (reverse st.gone) (place_of st.at) ∙ length-reverse st.gone in
    omega (arith, fewer, few, room, long, some)

-- ---- at spaces

-- a stage is one of the limits, the tables and the lists alone
pub same_handling : (l m : Limits) (t u : Tables) (w x : Roomy Place) (d e : NameList) (st : CascadeStage) → m ≡ l → u ≡ t → x ≡ w → e ≡ d → Handling l t w d st → Handling m u x e st
same_handling l m t u w x d e st a b c f is =
    subst (λ z. Handling m u x z st) (sym f) (subst (λ z. Handling m u z d st) (sym c) (subst (λ z. Handling m z w d st) (sym b) (subst (λ z. Handling z t w d st) (sym a) is)))

-- all that was handled is reclaimed, and its places lie in the worklist
pub all_handled : (s : Space) (st : CascadeStage) → IsHandling s st → ((k : ℕ) → (tables_of s).dones k ≡ false)
    → IsSeeking s (later st st.gone [] (λ o. 0)) (reverse st.gone) (λ o. drawn_from (tables_of s) 0 (st.at o))
all_handled s st is none = record {
  stage = record { space = is.space; cascade = handled_all s.limits (tables_of s) s.work s.report.dead st is.handling none };
  work = refl;
  between = is.handling.between;
  extra = λ o. refl;
  dead = λ n h. is.handling.dead n (sym (has_reversed st.gone n) ∙ h);
}
