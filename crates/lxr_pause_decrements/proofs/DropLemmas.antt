-- What was dropped is looked for where decrementers lowered: where that is done, what has no count is gone.
use Rattle.std.proofs.Common.{◌≡◌, ◌≢◌, ℕ, zero, suc, ◌+◌, ◌-◌, ◌*◌, ◌<◌, ◌≤◌, refl, sym, ap, subst, ◌∙◌, inl, inr, arith, Bool, true, false, cond, List, [], ◌∷◌, ◌++◌, IsTrue, length, length-append, nat_eq, nat_le}
use Rattle.std.specs.Prelude.{◌&&◌, ◌==◌, Option, Some, None, map, slice_get}
use Rattle.std.proofs.lemmas.Bool.{and_parts, or_left}
use Rattle.std.proofs.lemmas.Bool.Decides.{leb_tells, nat_tests}
use Rattle.std.proofs.lemmas.List.{length-map}
use Rattle.lxr_base.specs.Roomy.{pushed}
use Rattle.lxr_graph.specs.Listing.{with_name}
use Rattle.lxr_layout.specs.declared.TheConstants.{DECREMENT_COUNT, DECREMENT_CURSOR, GRANULES_IN_BLOCK, MOST_GRANULES}
use Rattle.lxr_layout.specs.declared.Name.{Name}
use Rattle.lxr_layout.specs.declared.Place.{Place}
use Rattle.lxr_layout.specs.Places.{IsPlace}
use Rattle.lxr_graph.specs.Names.{has, same_name}
use Rattle.lxr_graph.specs.State.{Object, shape_of}
use Rattle.lxr_graph.proofs.NameSets.{in_without, not_both, same_names, without_parts}
use Rattle.lxr_image.specs.declared.space.Space.{Space}
use Rattle.lxr_image.specs.Tables.{Tables}
use Rattle.lxr_image.specs.Spaces.{tables_of}
use Rattle.lxr_image.specs.Reads.{granule_of}
use Rattle.lxr_image.specs.Image.{place_word}
use Rattle.lxr_image.specs.Settled.{AreCounted}
use Rattle.lxr_image.proofs.SpaceLemmas.{space_alike}
use Rattle.lxr_model.specs.Dead.{Dead}
use Rattle.lxr_model.specs.Moments.{Moment}
use Rattle.lxr_model.specs.References.{references_from}
use Rattle.lxr_model.proofs.ReachableLemmas.{dead_parts}
use Rattle.lxr_model_counting.specs.Lowering.{IsOver}
use Rattle.lxr_model_counting.proofs.DistinctLemmas.{tested}
use Rattle.lxr_model_counting.proofs.LoweringLemmas.{over}
use Rattle.lxr_invariant.specs.Counting.{count_at, entries_between, occurrences_from, waiting_at}
use Rattle.lxr_invariant.specs.Standing.{place_of}
use Rattle.lxr_invariant.proofs.NameLemmas.{has_last, has_more, occurrences_end, occurrences_step, split_last}
use Rattle.lxr_invariant.proofs.EntryLemmas.{equal_numbers, passing_cleared, same_number}
use Rattle.lxr_pause_decrements.specs.Cascade.{Cascade, CascadeStage, Drains, IsAt, IsBetween, IsEmptied, IsFinished, IsOpening, IsSeeking, Keeps, LooksAt, LooksFrom, LooksThrough, Reclaims, drawn_count, drawn_from, held_by, later, looking, seeking, waits}
use Rattle.lxr_blocks.specs.Clearing.{without_object}
use Rattle.lxr_pause_decrements.proofs.CascadeLemmas.{append_nothing, IsPlaced, bare, bare_uncounted, dropped, granules_differ, in_heap, looked, placed, refs_more, remains_still, same_parts}
use Rattle.lxr_pause_decrements.proofs.DrainLemmas.{entry_once, field_read, none_between, still_tables}

-- ---- one object is looked at

module _ (s : Space) (p : Place) (floor : ℕ) (st : CascadeStage) (r : Name) (rest : Name → ℕ) (is : LooksAt s p.0 floor st r rest) where
  abbrev t : Tables
  t = tables_of s

  abbrev m : Moment
  m = st.moment

  -- its place is in the heap
  pub look_place : IsPlace p × (p.0 ≤ GRANULES_IN_BLOCK * s.limits.blocks)
  look_place =
      let h = in_heap t.heap s.limits.blocks m st.at is.looking.stage.cascade.remains.ground r is.member in
      let e = is.stands in
      let b = is.looking.stage.space.limits.blocks in
      (let k : (1 ≤ p.0) × (p.0 ≤ MOST_GRANULES) = (omega (arith, e, h.0), omega (arith, e, h.1, h.0, b.1)) in k, omega (arith, e, h.0, h.1))

  -- what begins there, if anything does, is its object
  there_left : IsTrue (t.starts (granule_of p.0)) → has st.gone r ≡ false
  there_left start =
      let x = is.looking.stage.cascade.remains.bits.starts.only (granule_of p.0) start in
      let parts = without_parts m.unreclaimed st.gone x.0 x.1 in
      elim (tested (same_name x.0 r)) [
        | inl k ↦ ap (has st.gone) (sym (same_names x.0 r k)) ∙ parts.1
        | inr k ↦ absurd (granules_differ t.heap s.limits.blocks m st.at is.looking.stage.cascade.remains.ground x.0 r parts.0 is.member k (x.2 ∙ ap granule_of is.stands))
      ]

  -- it has no count, and is left
  abbrev pub IsThere : Type 0
  IsThere = IsTrue (t.starts (granule_of p.0)) × (count_at t st.at r ≡ 0) × (has st.gone r ≡ false)

  pub is_there : (found : Bool) → found ≡ (t.starts (granule_of p.0) && t.counts (granule_of p.0) == 0) → IsTrue found → IsThere
  is_there found told so =
      let parts = and_parts (t.starts (granule_of p.0)) (t.counts (granule_of p.0) == 0) (sym told ∙ so) in
      (parts.0, ap (λ z. t.counts (granule_of z)) (sym is.stands) ∙ equal_numbers (t.counts (granule_of p.0)) 0 parts.1, there_left parts.0)

  -- else it has a count or is gone, and no more is to be done
  pub not_there : (found : Bool) → found ≡ (t.starts (granule_of p.0) && t.counts (granule_of p.0) == 0) → found ≡ false → Drains s (looking st rest)
  not_there found told nothing = (
    st.gone,
    subst (λ ws. IsAt s (later (looking st rest) st.gone ws st.extra)) is.looking.work
        (record {
          space = is.looking.stage.space;
          cascade = looked s.limits t s.work s.report.dead st r rest is.looking.stage.cascade is.taken (λ none. elim (tested (has st.gone r)) [
            | inl k ↦ k
            | inr k ↦
                let start : t.starts (granule_of p.0) ≡ true = ap (λ z. t.starts (granule_of z)) is.stands
                ∙ is.looking.stage.cascade.remains.bits.starts.each r (in_without m.unreclaimed st.gone r is.member (λ h. not_both (has st.gone r) h k)) in
                let zero : (t.counts (granule_of p.0) == 0) ≡ true = same_number (t.counts (granule_of p.0)) 0 (ap (λ z. t.counts (granule_of z)) is.stands ∙ none) in
                not_both (t.starts (granule_of p.0) && t.counts (granule_of p.0) == 0) (ap (λ b. b && t.counts (granule_of p.0) == 0) start ∙ zero) (sym told ∙ nothing)
          ]);
        }),
  )

  -- its object
  pub look_object : Object
  look_object = (is.looking.stage.cascade.remains.ground.stands r is.member).0

  pub look_placed : IsPlaced t s.limits.blocks r look_object p.0
  unfolding look_object
  look_placed = placed t.heap s.limits.blocks m st.at is.looking.stage.cascade.remains.ground t refl r is.member p.0 is.stands

  -- there is room for it in the lists
  pub look_room : IsTrue (t.starts (granule_of p.0)) → (length s.work.items < s.work.room) × (length s.report.dead.items < s.report.dead.room)
  look_room start =
      let within = look_placed.place.1 in
      let fewer = passing_cleared t.starts (granule_of p.0) (GRANULES_IN_BLOCK * s.limits.blocks) start within in
      let work = is.looking.stage.cascade.work_room in
      let dead = is.looking.stage.cascade.remains.dead_room in
      (omega (arith, fewer, work), omega (arith, fewer, dead))

  -- it is reclaimed, and what it referred to waits
  pub look_reclaimed : (e : Space) → IsThere → Reclaims s e p r (shape_of look_object)
      → IsAt e (looking (later st (r ∷ st.gone) (st.work ++ r ∷ []) st.extra) rest)
  unfolding look_object
  look_reclaimed e there re =
      let o = is.looking.stage.cascade.remains.ground.stands r is.member in
      let ro : Object = o.0 in
      let limits : e.limits ≡ s.limits = ap (λ z. z.limits) re.rest in
      let tables : tables_of e ≡ bare t st.at r ro = re.tables ∙ ap (λ q. without_object t q (shape_of ro)) is.stands ∙ bare_uncounted t st.at r ro there.1 in
      let same_place : p ≡ place_of st.at r = λ i. record { 0 = is.stands i } in
      let work : e.work ≡ pushed s.work (place_of st.at r) = ap (λ z. z.work) re.rest ∙ ap (pushed s.work) same_place in
      let dead : e.report.dead ≡ with_name s.report.dead r = ap (λ z. z.report.dead) re.rest in
      record {
        space = space_alike s e limits (ap (λ z. z.size) re.tables) is.looking.stage.space;
        cascade = same_parts s.limits e.limits _ (tables_of e) _ e.work _ e.report.dead (looking (later st (r ∷ st.gone) (st.work ++ r ∷ []) st.extra) rest) limits tables work dead
            (dropped s.limits t s.work s.report.dead st r ro rest is.looking.stage.cascade is.member there.2 there.1 is.taken o.1);
      }

-- ---- the references of a handled object

-- a reference that is nil is nothing to look at
nil_step : (s : Space) (p : Place) (i floor : ℕ) (st : CascadeStage) (r : Name) (rest : Name → ℕ) (ref : Option Name) → LooksFrom s p.0 i floor st r rest → slice_get (held_by st r) i ≡ Some ref
    → place_word st.at ref ≡ 0 → Drains s (looking st (λ o. rest o + occurrences_from (held_by st r) (i + 1) o))
nil_step s p i floor st r rest None is e zero_word =
    let next : Name → ℕ = λ o. rest o + occurrences_from (held_by st r) (i + 1) o in
    let each : (o : Name) → st.unseen o ≡ next o = λ o. let k = occurrences_step (held_by st r) i None o e in let x = is.unseen o in omega (arith, k, x) in
    let same : st.unseen ≡ next = λ j o. each o j in
    (st.gone, subst (λ f. IsAt s (later (looking st f) st.gone [] st.extra)) same (subst (λ ws. IsAt s (later st st.gone ws st.extra)) is.looking.work is.looking.stage))
nil_step s p i floor st r rest (Some n) is e zero_word =
    let ground = is.looking.stage.cascade.remains.ground in
    let h = (in_heap (tables_of s).heap s.limits.blocks st.moment st.at ground n (ground.closed r n is.field.member (i, e))).0 in
    absurd (omega (arith, h, zero_word))

pub nil_look : (s : Space) (p : Place) (i floor word : ℕ) (st : CascadeStage) (r : Name) (rest : Name → ℕ) → LooksFrom s p.0 i floor st r rest
    → word ≡ 0 → word ≡ (tables_of s).heap (2 * (p.0 - 1) + 1 + i) → Drains s (looking st (λ o. rest o + occurrences_from (held_by st r) (i + 1) o))
nil_look s p i floor word st r rest is zero_word reads =
    let g = field_read s p i word st r is.looking.stage is.field reads in
    nil_step s p i floor st r rest g.0 is g.1 (sym g.2 ∙ zero_word)

-- what another holds is to be looked at
held_step : (s : Space) (p : Place) (i floor word : ℕ) (st : CascadeStage) (r : Name) (rest : Name → ℕ) (ref : Option Name) → LooksFrom s p.0 i floor st r rest → slice_get (held_by st r) i ≡ Some ref
    → word ≢ 0 → word ≡ place_word st.at ref → (n : Name) × LooksAt s word floor st n (λ o. rest o + occurrences_from (held_by st r) (i + 1) o)
held_step s p i floor word st r rest None is e some_word reads = absurd (some_word reads)
held_step s p i floor word st r rest (Some n) is e some_word reads = (
  n,
  record {
    looking = is.looking;
    member = is.looking.stage.cascade.remains.ground.closed r n is.field.member (i, e);
    stands = reads;
    taken = λ o in_o. let k = occurrences_step (held_by st r) i (Some n) o e in let x = is.unseen o in omega (arith, k, x);
  },
)

pub held_look : (s : Space) (p : Place) (i floor word : ℕ) (st : CascadeStage) (r : Name) (rest : Name → ℕ) → LooksFrom s p.0 i floor st r rest
    → word ≢ 0 → word ≡ (tables_of s).heap (2 * (p.0 - 1) + 1 + i) → (n : Name) × LooksAt s word floor st n (λ o. rest o + occurrences_from (held_by st r) (i + 1) o)
held_look s p i floor word st r rest is some_word reads =
    let g = field_read s p i word st r is.looking.stage is.field reads in
    held_step s p i floor word st r rest g.0 is g.1 some_word g.2

-- before the first reference
pub look_begins : (s : Space) (p floor : ℕ) (st : CascadeStage) (r : Name) (rest : Name → ℕ) → LooksThrough s p floor st r rest → Drains s (looking st (λ o. rest o + occurrences_from (held_by st r) 0 o))
look_begins s p floor st r rest is =
    let same : st.unseen ≡ λ o. rest o + occurrences_from (held_by st r) 0 o = λ j o. is.unseen o j in
    (st.gone, subst (λ f. IsAt s (later (looking st f) st.gone [] st.extra)) same (subst (λ ws. IsAt s (later st st.gone ws st.extra)) is.looking.work is.looking.stage))

-- at each
pub look_goes_on : (s now : Space) (p i floor : ℕ) (st : CascadeStage) (r : Name) (rest : Name → ℕ) → LooksThrough s p floor st r rest → i < length (held_by st r)
    → (drains : Drains now (looking st (λ o. rest o + occurrences_from (held_by st r) i o)))
    → LooksFrom now p i floor (later (looking st (λ o. rest o + occurrences_from (held_by st r) i o)) drains.0 [] st.extra) r rest
look_goes_on s now p i floor st r rest is within (gone, at) = record {
  looking = record { stage = at; work = refl; under = is.looking.under; between = is.looking.between };
  field = record { member = (dead_parts is.dead).member; dead = is.dead; stands = is.stands; index = within };
  unseen = λ o. refl;
}

-- behind the last
pub look_ends : (now : Space) (i : ℕ) (st : CascadeStage) (r : Name) (rest : Name → ℕ) → i ≡ length (held_by st r)
    → Drains now (looking st (λ o. rest o + occurrences_from (held_by st r) i o)) → Drains now (looking st rest)
look_ends now i st r rest e (gone, at) =
    let each : (o : Name) → rest o + occurrences_from (held_by st r) i o ≡ rest o = λ o. let k = ap (λ z. occurrences_from (held_by st r) z o) e ∙ occurrences_end (held_by st r) o in omega (arith, k) in
    let same : (λ o. rest o + occurrences_from (held_by st r) i o) ≡ rest = λ j o. each o j in
    (gone, subst (λ f. IsAt now (later (looking st f) gone [] st.extra)) same at)

-- ---- the drawn entries of the list

-- the first entry from a number on, and those behind it
entry_first : (f : ℕ → ℕ) (k n p : ℕ) → k < n → entries_between f k n p ≡ cond (nat_eq (f k) p) 1 0 + entries_between f (k + 1) n p
entry_first f k zero p within = absurd (omega (arith, within))
entry_first f k (suc n) p within =
    let here : nat_le k n ≡ true = grind (arith, nat_tests) in
    let head : entries_between f k (suc n) p ≡ cond (nat_eq (f n) p) 1 0 + entries_between f k n p = ap (λ b. cond (b && nat_eq (f n) p) 1 0 + entries_between f k n p) here in
    elim (leb_tells n k) [
      | inl c ↦
          let last = c.1 in
          let same : n ≡ k = omega (arith, last, within) in
          let none = none_between f k n p last in
          let past = none_between f (k + 1) (suc n) p (omega (arith, last)) in
          let number : Bool → ℕ = λ b. cond b 1 0 in
          let entry = ap (λ z. number (nat_eq (f z) p)) same in
          omega (arith, head, none, past, entry)
      | inr c ↦
          let more = c.1 in
          let rest = entry_first f k n p more in
          let there : nat_le (k + 1) n ≡ true = grind (arith, nat_tests) in
          let tail : entries_between f (k + 1) (suc n) p ≡ cond (nat_eq (f n) p) 1 0 + entries_between f (k + 1) n p = ap (λ b. cond (b && nat_eq (f n) p) 1 0 + entries_between f (k + 1) n p) there in
          omega (arith, head, rest, tail)
    ]

-- the stage at which the drawn entries from a number on are to be looked at
abbrev pub from_entry : Tables → CascadeStage → List Name → ℕ → CascadeStage
from_entry t st handled k = seeking st handled (λ o. drawn_from t k (st.at o))

-- at first all are
pub drawn_begins : (s : Space) (st : CascadeStage) (handled : List Name) (drawn : Name → ℕ) → IsSeeking s st handled drawn → (gone : List Name) × IsAt s (seeking (later st gone [] (λ o. 0)) handled drawn)
drawn_begins s st handled drawn is =
    let none : st.extra ≡ λ o. 0 = λ j o. is.extra o j in
    (st.gone, subst (λ f. IsAt s (seeking (later st st.gone [] f) handled drawn)) none (subst (λ ws. IsAt s (seeking (later st st.gone ws st.extra) handled drawn)) is.work is.stage))

-- nothing lies in the worklist but places of handled names
pub sought_floor : (s : Space) (st : CascadeStage) (handled : List Name) (drawn : Name → ℕ) → IsSeeking s st handled drawn → length (map (place_of st.at) handled) ≡ length s.work.items
sought_floor s st handled drawn is =
    let items = ap length is.stage.cascade.work ∙ length-append (map (place_of st.at) handled) (map (place_of st.at) st.work) in
    let none : length (map (place_of st.at) st.work) ≡ 0 = ap (λ ws. length (map (place_of st.at) ws)) is.work in
    omega (arith, items, none)

-- the object of the next entry is to be looked at
pub entry_look : (s now : Space) (k floor : ℕ) (st : CascadeStage) (gone handled : List Name) → IsBetween st → length (map (place_of st.at) handled) ≡ floor → Keeps s now → k < drawn_count (tables_of s)
    → IsAt now (from_entry (tables_of s) (later st gone [] (λ o. 0)) handled k)
    → (r : Name) × LooksAt now ((tables_of now).decs k) floor (from_entry (tables_of s) (later st gone [] (λ o. 0)) handled k) r
    (λ o. references_from st.moment.last.graph handled o + drawn_from (tables_of s) (k + 1) (st.at o))
entry_look s now k floor st gone handled between under keeps within at =
    let t : Tables = tables_of s in
    let is = at.cascade.remains in
    let count : (tables_of now).cursors DECREMENT_COUNT ≡ t.cursors DECREMENT_COUNT = ap (λ f. f DECREMENT_COUNT) keeps.cursors in
    let x = is.decrements.places k (omega (arith, within, count)) in
    let entry : t.decs k ≡ st.at x.0 = ap (λ f. f k) (sym keeps.leaves.tables.decs) ∙ x.2 in (
      x.0,
      record {
        looking = record { stage = at; work = refl; under = under; between = between };
        member = x.1;
        stands = x.2;
        taken = λ o in_o.
            let first = entry_first t.decs k (drawn_count t) (st.at o) within in
            let one = entry_once (tables_of now).heap now.limits.blocks st.moment st.at is.ground (t.decs k) x.0 x.1 entry o in_o in
            omega (arith, first, one);
      },
    )

-- a place in the list is small, and its number too
pub entry_small : (s : Space) (place : ℕ) (floor : ℕ) (st : CascadeStage) (r : Name) (rest : Name → ℕ) → LooksAt s place floor st r rest → place ≤ MOST_GRANULES
entry_small s place floor st r rest is =
    let h = in_heap (tables_of s).heap s.limits.blocks st.moment st.at is.looking.stage.cascade.remains.ground r is.member in
    let e = is.stands in
    let b = is.looking.stage.space.limits.blocks in
    omega (arith, e, h.0, h.1, b.1)

-- at last none is
pub drawn_ends : (s now : Space) (k : ℕ) (st : CascadeStage) (gone handled : List Name) (drawn : Name → ℕ) → IsSeeking s st handled drawn → drawn_count (tables_of s) ≤ k
    → IsAt now (from_entry (tables_of s) (later st gone [] (λ o. 0)) handled k) → IsSeeking now (later st gone [] (λ o. 0)) handled (λ o. 0)
drawn_ends s now k st gone handled drawn is past at =
    let t : Tables = tables_of s in
    let none : (λ o. drawn_from t k (st.at o)) ≡ λ o. 0 = λ j o. none_between t.decs k (drawn_count t) (st.at o) past j in
    record {
      stage = subst (λ f. IsAt now (seeking (later st gone [] (λ o. 0)) handled f)) none at;
      work = refl;
      between = is.between;
      extra = λ o. refl;
      dead = is.dead;
    }

-- ---- what the handled objects referred to

-- the stage at which the last of them is taken out of the worklist
abbrev pub taken_out : CascadeStage → List Name → List Name → List Name → CascadeStage
taken_out st gone handled ms = looking (seeking (later st gone [] (λ o. 0)) ms (λ o. 0)) (λ o. references_from st.moment.last.graph handled o + 0)

-- the last handled name, whose references are looked at next
pub record IsLast (now : Space) (place : ℕ) (st : CascadeStage) (gone handled ms : List Name) (r : Name) : Type 0 where
  pub through : LooksThrough now place (length now.work.items) (taken_out st gone handled ms) r (λ o. references_from st.moment.last.graph ms o + 0)
  pub last : handled ≡ ms ++ r ∷ []
  pub dead : (n : Name) → IsTrue (has ms n) → Dead st.moment.last st.moment.unreclaimed st.moment.stuck n

pub last_handled : (s now : Space) (p : Place) (st : CascadeStage) (gone handled : List Name) → IsSeeking s (later st gone [] (λ o. 0)) handled (λ o. 0)
    → s.work ≡ pushed now.work p → now ≡ record s { work = now.work } → (ms : List Name) × (r : Name) × IsLast now p.0 st gone handled ms r
last_handled s now p st gone handled is work rest =
    let c = is.stage.cascade in
    let items : s.work.items ≡ now.work.items ++ p ∷ [] = ap (λ z. z.items) work in
    let room : now.work.room ≡ s.work.room = sym (ap (λ z. z.room) work) in
    let longer : length s.work.items ≡ length now.work.items + 1 = ap length items ∙ length-append now.work.items (p ∷ []) in
    let x = split_last (place_of st.at) handled now.work.items p (sym items ∙ c.work ∙ sym (append_nothing (map (place_of st.at) handled))) in
    let limits : now.limits ≡ s.limits = ap (λ z. z.limits) rest in
    let dead : now.report.dead ≡ s.report.dead = ap (λ z. z.report.dead) rest in
    let tables = still_tables s now rest in
    let st2 : CascadeStage = taken_out st gone handled x.0 in
    let cascade : Cascade s.limits (tables_of s) now.work s.report.dead st2 = record {
      remains = remains_still s.limits (tables_of s) s.report.dead (seeking (later st gone [] (λ o. 0)) handled (λ o. 0)) (map (place_of st.at) x.0) [] (λ o. 0) st.ungrayed
          (λ o. references_from st.moment.last.graph handled o + 0) c.remains;
      lowered = record { dead = c.lowered.dead; zero = c.lowered.zero; exact = c.lowered.exact };
      seen = c.seen;
      none_done = c.none_done;
      grays = c.grays;
      work = x.3 ∙ append_nothing (map (place_of st.at) x.0);
      work_gone = c.work_gone;
      work_room = let k = c.work_room in omega (arith, k, longer, room);
    } in (
      x.0,
      x.1,
      record {
        through = record {
          looking = record {
            stage = record {
              space = space_alike s now limits (ap (λ z. z.size) tables) is.stage.space;
              cascade = same_parts s.limits now.limits (tables_of s) (tables_of now) now.work now.work s.report.dead now.report.dead st2 limits tables refl dead cascade;
            };
            work = refl;
            under = sym (ap length x.3);
            between = is.between;
          };
          dead = is.dead x.1 (ap (λ z. has z x.1) x.2 ∙ has_last x.0 x.1);
          stands = ap (λ z. z.0) x.4;
          unseen = λ o.
              let more = refs_more st.moment.last.graph x.0 x.1 o in
              let all = ap (λ z. references_from st.moment.last.graph z o) x.2 in
              omega (arith, more, all);
        };
        last = x.2;
        dead = λ n h. is.dead n (ap (λ z. has z n) x.2 ∙ has_more x.0 x.1 n ∙ or_left (has x.0 n) (same_name n x.1) h);
      },
    )

-- once they are looked at, those of the others are left
pub last_looked : (now after : Space) (place : ℕ) (st : CascadeStage) (gone handled ms : List Name) (r : Name) → IsBetween st → IsLast now place st gone handled ms r
    → (drains : Drains after (looking (taken_out st gone handled ms) (λ o. references_from st.moment.last.graph ms o + 0))) → IsSeeking after (later st drains.0 [] (λ o. 0)) ms (λ o. 0)
last_looked now after place st gone handled ms r between is (gone2, at) = record { stage = at; work = refl; between = between; extra = λ o. refl; dead = is.dead }

-- one place fewer lies in the worklist then
pub fewer_places : (s after : Space) (st ut : CascadeStage) (handled ms : List Name) (r : Name) (drawn other : Name → ℕ) → IsSeeking s st handled drawn → IsSeeking after ut ms other → handled ≡ ms ++ r ∷ []
    → length after.work.items < length s.work.items
fewer_places s after st ut handled ms r drawn other is then last =
    let before = sought_floor s st handled drawn is in
    let behind = sought_floor after ut ms other then in
    let a = length-map handled (place_of st.at) in
    let b = length-map ms (place_of ut.at) in
    let more = ap length last ∙ length-append ms (r ∷ []) in
    omega (arith, before, behind, a, b, more)

-- where the worklist is empty, all are looked at
pub all_looked : (s : Space) (st : CascadeStage) (gone handled : List Name) → IsSeeking s (later st gone [] (λ o. 0)) handled (λ o. 0) → length s.work.items ≤ 0
    → IsOpening s (seeking (later st gone [] (λ o. 0)) [] (λ o. 0))
all_looked s st gone handled is short =
    let places = sought_floor s (later st gone [] (λ o. 0)) handled (λ o. 0) is in
    let few = length-map handled (place_of st.at) in
    let none : handled ≡ [] = empty handled (omega (arith, places, few, short)) in
    record {
      stage = subst (λ hs. IsAt s (seeking (later st gone [] (λ o. 0)) hs (λ o. 0))) none is.stage;
      work = refl;
      under = refl;
      between = is.between;
      extra = λ o. refl;
      unseen = λ o. refl;
    }
  where
    empty : (ns : List Name) → length ns ≡ 0 → ns ≡ []
    empty [] e = refl
    empty (n ∷ ns) e = absurd (omega (arith, e))

-- ---- the end

-- where nothing waits and no name is to be looked at, exactly the dead are gone
pub finished : (s : Space) (st : CascadeStage) → IsEmptied s st → IsFinished s st
finished s st is =
    let t : Tables = tables_of s in
    let c = is.opening.stage.cascade in
    let empty : IsOver st.moment.unreclaimed st.moment.stuck st.gone (count_at t st.at) = λ n in_n loose none. c.seen n in_n loose (is.opening.unseen n) none in
    record {
      emptied = is;
      empty = empty;
      gone = over st.moment.last st.moment.unreclaimed st.moment.stuck st.gone (count_at t st.at) (waits t st) c.lowered
          (λ n.
          let listed : waiting_at t (st.at n) ≡ 0 = ap (λ z. entries_between t.decs (t.cursors DECREMENT_CURSOR) z (st.at n)) is.waiting in
          let worked : references_from st.moment.last.graph st.work n ≡ 0 = ap (λ z. references_from st.moment.last.graph z n) is.opening.work in
          let other = is.opening.extra n in
          omega (arith, listed, worked, other))
          empty;
    }

-- and each object that is left has a count
pub starts_counted : (s : Space) (st : CascadeStage) → IsFinished s st → AreCounted (tables_of s)
starts_counted s st is g start none =
    let left = is.emptied.opening.stage.cascade.remains in
    let x = left.bits.starts.only g start in
    let parts = without_parts st.moment.unreclaimed st.gone x.0 x.1 in
    let zero : count_at (tables_of s) st.at x.0 ≡ 0 = ap (tables_of s).counts x.2 ∙ none in
    elim (tested (has st.moment.stuck x.0)) [
      | inl k ↦ let e = left.stuck x.0 parts.0 k in absurd (omega (arith, e, zero))
      | inr k ↦ not_both (has st.gone x.0) (is.empty x.0 parts.0 k zero) parts.1
    ]
