-- A reference of a swept object is lowered where its object still begins; where it doesn't, that was swept too, and nothing waits.
use Rattle.std.proofs.Common.{◌≡◌, ℕ, zero, suc, ◌+◌, ◌-◌, ◌*◌, ◌<◌, ◌≤◌, refl, sym, ap, subst, ◌∙◌, inl, inr, arith, List, [], ◌∷◌, ◌++◌, IsTrue, length, length-append, drop}
use Rattle.std.specs.Prelude.{Option, Some, None, map, slice_get}
use Rattle.std.proofs.lemmas.Bool.{or_left, or_right}
use Rattle.std.proofs.lemmas.List.{length-map}
use Rattle.lxr_layout.specs.declared.TheConstants.{GRANULES_IN_BLOCK, MOST_GRANULES, WORDS_IN_BLOCK}
use Rattle.lxr_layout.specs.declared.Name.{Name}
use Rattle.lxr_layout.specs.declared.Place.{Place}
use Rattle.lxr_layout.specs.declared.Shape.{Shape}
use Rattle.lxr_layout.specs.declared.limits.Limits.{Limits}
use Rattle.lxr_layout.specs.Places.{first_word}
use Rattle.lxr_base.specs.Roomy.{Roomy}
use Rattle.lxr_graph.specs.Listing.{NameList}
use Rattle.lxr_graph.specs.Names.{has, same_name}
use Rattle.lxr_graph.specs.State.{Graph, object_at, refs_of, shape_of}
use Rattle.lxr_graph.proofs.NameSets.{same_itself, same_names, without_parts}
use Rattle.lxr_image.specs.declared.space.Space.{Space}
use Rattle.lxr_image.specs.Tables.{Tables}
use Rattle.lxr_image.specs.Spaces.{tables_of}
use Rattle.lxr_image.specs.Reads.{granule_of}
use Rattle.lxr_image.specs.Image.{place_word}
use Rattle.lxr_model.specs.References.{occurrences, references_from}
use Rattle.lxr_model_counting.proofs.DistinctLemmas.{tested}
use Rattle.lxr_model_counting.proofs.LoweringLemmas.{lowered_still, once_other}
use Rattle.lxr_invariant.specs.Counting.{count_at, occurrences_from}
use Rattle.lxr_invariant.specs.Standing.{place_of}
use Rattle.lxr_invariant.proofs.NameLemmas.{occurrences_end, occurrences_step}
use Rattle.lxr_pause_decrements.specs.Cascade.{Cascade, CascadeStage, Draining, Ground, IsAt, IsHeader, Keeps, Waiting, later, waits}
use Rattle.lxr_pause_decrements.proofs.CascadeLemmas.{counted, counted_left, granules_differ, in_heap, remains_still}
use Rattle.lxr_sweep_unmarked.specs.Releasing.{AllAreLeft, FieldIsLeft, IsReleasing, ObjectIsLeft, ReachesSwept, ReleaseStage, cascade_of, left_from, lowered_to, references_of, unswept}

-- ---- stages

-- what waits for names that aren't there may be left out
extra_apart : (l : Limits) (t : Tables) (w : Roomy Place) (d : NameList) (st : CascadeStage) (other : Name → ℕ) → ((o : Name) → IsTrue (has st.moment.unreclaimed o) → other o ≡ st.extra o) → Cascade l t w d st
    → Cascade l t w d (later st st.gone st.work other)
extra_apart l t w d st other same is = record {
  remains = remains_still l t d st st.under st.work other st.ungrayed st.unseen is.remains;
  lowered = lowered_still st.moment.last st.moment.unreclaimed st.moment.stuck st.gone (count_at t st.at) (count_at t st.at) (waits t st) (waits t (later st st.gone st.work other))
      (λ o in_o. refl) (λ o in_o. let e = same o in_o in omega (arith, e)) is.lowered;
  seen = is.seen;
  none_done = is.none_done;
  grays = is.grays;
  work = is.work;
  work_gone = is.work_gone;
  work_room = is.work_room;
}

-- a step of the decrements leaves swept objects their words
pub released_still : (a b : Space) (st : ReleaseStage) (gone work : List Name) (extra : Name → ℕ) → Keeps a b → IsReleasing a st → IsAt b (later (cascade_of st) gone work extra) → IsReleasing b (lowered_to st gone work extra)
released_still a b st gone work extra keeps is at =
    let heap : (tables_of b).heap ≡ (tables_of a).heap = keeps.leaves.tables.keeps.heap in
    let limits : b.limits ≡ a.limits = ap (λ z. z.limits) keeps.leaves.rest in
    record {
      stage = at;
      ground = subst (λ l. Ground (tables_of b).heap l.blocks st.moment st.at) (sym limits) (subst (λ h. Ground h a.limits.blocks st.moment st.at) (sym heap) is.ground);
      members = is.members;
      fields = λ n i r swept e. ap (λ h. h (first_word (st.at n) + 1 + i)) heap ∙ is.fields n i r swept e;
    }

-- the same stage, where what waits is told otherwise
pub waits_same : (s : Space) (st : ReleaseStage) (f g : Name → ℕ) → ((o : Name) → f o ≡ g o) → ReachesSwept s st f → ReachesSwept s st g
waits_same s st f g e (gone, work, is) = let same : f ≡ g = λ i o. e o i in (gone, work, subst (λ z. IsReleasing s (lowered_to st gone work z)) same is)

-- ---- one reference

got : (rs : List (Option Name)) (i : ℕ) → i < length rs → (ref : Option Name) × (slice_get rs i ≡ Some ref)
got [] i h = absurd (omega arith)
got (r ∷ rs) zero h = (r, refl)
got (r ∷ rs) (suc i) h = got rs i (omega arith)

module _ (s : Space) (p : Place) (i : ℕ) (st : ReleaseStage) (r : Name) (rest : Name → ℕ) (is : FieldIsLeft s p.0 i st r rest) where
  abbrev t : Tables
  t = tables_of s

  abbrev blocks : ℕ
  blocks = s.limits.blocks

  abbrev then : Name → ℕ
  then o = rest o + occurrences_from (references_of st r) (i + 1) o

  in_r : IsTrue (has st.moment.unreclaimed r)
  in_r = is.stage.members r is.swept

  -- the word of the reference lies in the heap
  pub left_place : (1 ≤ p.0) × (p.0 ≤ MOST_GRANULES) × (2 * (p.0 - 1) + 1 + i < WORDS_IN_BLOCK * blocks) × (i < 1024)
  left_place =
      let a = is.stage.ground.stands r in_r in
      let f = a.2.fits in
      let q = a.2.placed in
      let k = a.2.shape.0 in
      let e = is.stands in
      let h = is.index in
      let b = is.stage.stage.space.limits.blocks in
      let n = a.3 in
      (omega (arith, q, e), omega (arith, f, e, b.1), omega (arith, f, q, e, n, h), omega (arith, k, n, h))

  -- it holds a place, or nil
  left_word : (ref : Option Name) → slice_get (references_of st r) i ≡ Some ref → t.heap (2 * (p.0 - 1) + 1 + i) ≡ place_word st.at ref
  left_word ref e = ap (λ z. t.heap (2 * (z - 1) + 1 + i)) is.stands ∙ is.stage.fields r i ref is.swept e

  word_small : (ref : Option Name) → slice_get (references_of st r) i ≡ Some ref → place_word st.at ref ≤ GRANULES_IN_BLOCK * blocks
  word_small None e = omega arith
  word_small (Some n) e =
      let h = in_heap t.heap blocks st.moment st.at is.stage.ground n (is.stage.ground.closed r n in_r (i, e)) in
      omega (arith, h)

  pub left_small : (word : ℕ) → word ≡ t.heap (2 * (p.0 - 1) + 1 + i) → word ≤ GRANULES_IN_BLOCK * blocks
  left_small word e =
      let g = got (references_of st r) i is.index in
      let w = left_word g.0 g.1 in
      let small = word_small g.0 g.1 in
      omega (arith, e, w, small)

  -- a name that was swept waits for nothing
  passed_over : ((o : Name) → IsTrue (has (unswept st) o) → then o ≡ st.extra o) → ReachesSwept s st then
  passed_over same = (
    st.gone,
    st.work,
    record {
      stage = record { space = is.stage.stage.space; cascade = extra_apart s.limits t s.work s.report.dead (cascade_of st) then same is.stage.stage.cascade };
      ground = is.stage.ground;
      members = is.stage.members;
      fields = is.stage.fields;
    },
  )

  -- where an object begins at the place that the reference holds, its name waits once more
  waits_there : (ref : Option Name) → slice_get (references_of st r) i ≡ Some ref → 1 ≤ place_word st.at ref → IsTrue (t.starts (granule_of (place_word st.at ref)))
      → (n : Name) × Waiting s (place_word st.at ref) (cascade_of st) n then
  waits_there None e some start = absurd (omega (arith, some))
  waits_there (Some n) e some start =
      let in_n = is.stage.ground.closed r n in_r (i, e) in
      let x = is.stage.stage.cascade.remains.bits.starts.only (granule_of (st.at n)) start in
      let in_x = (without_parts (unswept st) st.gone x.0 x.1).0 in
      let x_is : x.0 ≡ n = elim (tested (same_name x.0 n)) [
        | inl k ↦ same_names x.0 n k
        | inr k ↦ absurd (granules_differ t.heap blocks st.moment st.at is.stage.ground x.0 n (without_parts st.moment.unreclaimed st.swept x.0 in_x).0 in_n k x.2)
      ] in (
        n,
        record {
          stage = is.stage.stage;
          member = subst (λ z. IsTrue (has (unswept st) z)) x_is in_x;
          stands = refl;
          taken = λ o. let k = occurrences_step (references_of st r) i (Some n) o e in let z = is.extra o in omega (arith, k, z);
        },
      )

  pub left_waits : (word : ℕ) → word ≡ t.heap (2 * (p.0 - 1) + 1 + i) → (1 ≤ word) × IsTrue (t.starts (granule_of word)) → (n : Name) × Waiting s word (cascade_of st) n then
  left_waits word e (some, start) =
      let g = got (references_of st r) i is.index in
      let same : word ≡ place_word st.at g.0 = e ∙ left_word g.0 g.1 in
      let x = waits_there g.0 g.1 (omega (arith, some, same)) (ap (λ z. t.starts (granule_of z)) (sym same) ∙ start) in
      (x.0, subst (λ z. Waiting s z (cascade_of st) x.0 then) (sym same) x.1)

  -- where none does, nothing that is left waits
  none_there : (ref : Option Name) → slice_get (references_of st r) i ≡ Some ref → ((1 ≤ place_word st.at ref) × IsTrue (t.starts (granule_of (place_word st.at ref))) → ⊥) → ReachesSwept s st then
  none_there None e none = passed_over (λ o in_o. let k = occurrences_step (references_of st r) i None o e in let z = is.extra o in omega (arith, k, z))
  none_there (Some n) e none =
      let c : CascadeStage = cascade_of st in
      let in_n = is.stage.ground.closed r n in_r (i, e) in
      let placed = (in_heap t.heap blocks st.moment st.at is.stage.ground n in_n).0 in
      passed_over (λ o in_o.
      let k = occurrences_step (references_of st r) i (Some n) o e in
      let z = is.extra o in
      elim (tested (same_name o n)) [
        | inl q ↦
            let o_is : o ≡ n = same_names o n q in
            let member : IsTrue (has (unswept st) n) = subst (λ y. IsTrue (has (unswept st) y)) o_is in_o in
            let cascade = is.stage.stage.cascade in
            let some = counted s.limits t s.work s.report.dead c n then cascade member
            (λ y. let k = occurrences_step (references_of st r) i (Some n) y e in let z = is.extra y in omega (arith, k, z)) in
            let left_n = (counted_left s.limits t s.work s.report.dead c n cascade member some).1 in
            absurd (none (placed, cascade.remains.bits.starts.each n left_n))
        | inr q ↦ let other = once_other o n q in omega (arith, k, z, other)
      ])

  pub left_none : (word : ℕ) → word ≡ t.heap (2 * (p.0 - 1) + 1 + i) → ((1 ≤ word) × IsTrue (t.starts (granule_of word)) → ⊥) → ReachesSwept s st then
  left_none word e none =
      let g = got (references_of st r) i is.index in
      let same : word ≡ place_word st.at g.0 = e ∙ left_word g.0 g.1 in
      none_there g.0 g.1 (λ h. none (let some = h.0 in omega (arith, some, same), ap (λ z. t.starts (granule_of z)) same ∙ h.1))

-- ---- one object

module _ (s : Space) (p : Place) (st : ReleaseStage) (r : Name) (rest : Name → ℕ) (is : ObjectIsLeft s p.0 st r rest) where
  pub object_place : (1 ≤ p.0) × (p.0 ≤ MOST_GRANULES) × (p.0 ≤ GRANULES_IN_BLOCK * s.limits.blocks)
  object_place =
      let h = in_heap (tables_of s).heap s.limits.blocks st.moment st.at is.stage.ground r (is.stage.members r is.swept) in
      let e = is.stands in
      let b = is.stage.stage.space.limits.blocks in
      (omega (arith, e, h.0), omega (arith, e, h.1, h.0, b.1), omega (arith, e, h.1, h.0))

  pub object_header : (shape : Shape) × IsHeader (tables_of s) p.0 r shape × (shape.refs ≡ length (references_of st r))
  object_header =
      let a = is.stage.ground.stands r (is.stage.members r is.swept) in (
        shape_of a.0,
        record {
          name = a.2.name;
          fits = a.2.shape;
          header = ap (λ z. (tables_of s).heap (2 * (z - 1))) is.stands ∙ a.2.header;
        },
        sym a.3,
      )

  pub object_begins : ReachesSwept s st (λ o. rest o + occurrences_from (references_of st r) 0 o)
  object_begins = waits_same s st st.extra _ is.extra (st.gone, st.work, is.stage)

  pub object_goes_on : (now : Space) (i : ℕ) → i < length (references_of st r) → (reaches : ReachesSwept now st (λ o. rest o + occurrences_from (references_of st r) i o))
      → FieldIsLeft now p.0 i (lowered_to st reaches.0 reaches.1 (λ o. rest o + occurrences_from (references_of st r) i o)) r rest
  object_goes_on now i h (gone, work, at) = record { stage = at; swept = is.swept; stands = is.stands; index = h; extra = λ o. refl }

pub object_ends : (now : Space) (i : ℕ) (st : ReleaseStage) (r : Name) (rest : Name → ℕ) → i ≡ length (references_of st r)
    → ReachesSwept now st (λ o. rest o + occurrences_from (references_of st r) i o) → ReachesSwept now st rest
object_ends now i st r rest e reaches = waits_same now st _ rest (λ o. let k = occurrences_end (references_of st r) o in let q = ap (λ z. occurrences_from (references_of st r) z o) e in omega (arith, k, q)) reaches

-- ---- all objects

-- the name of a number
pub numbered : (ns : List Name) (i : ℕ) → i < length ns → (r : Name) × (slice_get ns i ≡ Some r)
numbered [] i h = absurd (omega arith)
numbered (n ∷ ns) zero h = (n, refl)
numbered (n ∷ ns) (suc i) h = numbered ns i (omega arith)

numbered_has : (ns : List Name) (i : ℕ) (r : Name) → slice_get ns i ≡ Some r → IsTrue (has ns r)
numbered_has [] i r e = absurd (cc)
numbered_has (n ∷ ns) zero r e = let k : n ≡ r = cc in or_left (same_name r n) (has ns r) (ap (same_name r) k ∙ same_itself r)
numbered_has (n ∷ ns) (suc i) r e = or_right (same_name r n) (has ns r) (numbered_has ns i r e)

-- its place among the places, whatever lies behind them
numbered_place : (at : Name → ℕ) (ns : List Name) (more : List Place) (i : ℕ) (r : Name) → slice_get ns i ≡ Some r → slice_get (map (place_of at) ns ++ more) i ≡ Some (place_of at r)
numbered_place at [] more i r e = absurd (cc)
numbered_place at (n ∷ ns) more zero r e = let k : n ≡ r = cc in ap (λ z. Some (place_of at z)) k
numbered_place at (n ∷ ns) more (suc i) r e = numbered_place at ns more i r e

-- its references wait before those of the next
dropped_one : (g : Graph) (ns : List Name) (i : ℕ) (r o : Name) → slice_get ns i ≡ Some r
    → references_from g (drop i ns) o ≡ references_from g (drop (suc i) ns) o + occurrences (refs_of (object_at g r)) o
dropped_one g [] i r o e = absurd (cc)
dropped_one g (n ∷ ns) zero r o e =
    let k : n ≡ r = cc in
    let q = ap (λ z. occurrences (refs_of (object_at g z)) o) k in
    let whole : references_from g (drop 0 ns) o ≡ references_from g ns o = refl in
    omega (arith, q, whole)
dropped_one g (n ∷ ns) (suc i) r o e = dropped_one g ns i r o e

pub dropped_all : (g : Graph) (ns : List Name) (o : Name) → references_from g (drop (length ns) ns) o ≡ 0
dropped_all g [] o = refl
dropped_all g (n ∷ ns) o = dropped_all g ns o

-- the swept object of a number is left
pub object_is_left : (now : Space) (i : ℕ) (place : Place) (st : ReleaseStage) (reaches : ReachesSwept now st (left_from st i)) → i < length st.swept
    → slice_get now.work.items i ≡ Some place → (r : Name) × ObjectIsLeft now place.0 (lowered_to st reaches.0 reaches.1 (left_from st i)) r (left_from st (i + 1))
object_is_left now i place st (gone, work, is) within read =
    let x = numbered st.swept i within in
    let there = numbered_place st.at st.swept (map (place_of st.at) work) i x.0 x.1 in
    let same : Some place ≡ Some (place_of st.at x.0) = sym read ∙ ap (λ z. slice_get z i) is.stage.cascade.work ∙ there in
    let place_is : place ≡ place_of st.at x.0 = cc in
    let next : suc i ≡ i + 1 = omega arith in (
      x.0,
      record {
        stage = is;
        swept = numbered_has st.swept i x.0 x.1;
        stands = ap (λ z. z.0) place_is;
        extra = λ o. dropped_one st.moment.last.graph st.swept i x.0 o x.1 ∙ ap (λ z. references_from st.moment.last.graph (drop z st.swept) o + occurrences (references_of st x.0) o) next;
      },
    )

-- the places of swept objects are in the worklist
pub swept_are_listed : (now : Space) (i : ℕ) (st : ReleaseStage) (rest : Name → ℕ) → ReachesSwept now st rest → i < length st.swept → i < length now.work.items
swept_are_listed now i st rest (gone, work, is) within =
    let items = ap length is.stage.cascade.work in
    let both = length-append (map (place_of st.at) st.swept) (map (place_of st.at) work) in
    let long = length-map st.swept (place_of st.at) in
    omega (arith, items, both, long, within)

-- as many as the worklist has
pub listed_all : (s : Space) (st : ReleaseStage) → AllAreLeft s st → length s.work.items ≡ length st.swept
listed_all s st is =
    let items = ap length is.stage.stage.cascade.work in
    let both = length-append (map (place_of st.at) st.swept) (map (place_of st.at) st.work) in
    let long = length-map st.swept (place_of st.at) in
    let none : length (map (place_of st.at) st.work) ≡ 0 = ap (λ z. length (map (place_of st.at) z)) is.no_work in
    omega (arith, items, both, long, none)

pub all_begin : (s : Space) (st : ReleaseStage) → AllAreLeft s st → ReachesSwept s st (left_from st 0)
all_begin s st is = waits_same s st st.extra (left_from st 0) is.extra (st.gone, st.work, is.stage)

-- behind the last one nothing waits
pub all_end : (s now : Space) (i : ℕ) (st : ReleaseStage) → AllAreLeft s st → i ≡ length s.work.items → ReachesSwept now st (left_from st i) → ReachesSwept now st (λ o. 0)
all_end s now i st is e reaches =
    let long : i ≡ length st.swept = e ∙ listed_all s st is in
    waits_same now st (left_from st i) (λ o. 0) (λ o. ap (λ z. left_from st z o) long ∙ dropped_all st.moment.last.graph st.swept o) reaches

-- what lies under the worklist is what is swept
pub under_all : (s now : Space) (floor : ℕ) (st : ReleaseStage) → AllAreLeft s st → floor ≡ length s.work.items → (reaches : ReachesSwept now st (λ o. 0))
    → Draining now floor (cascade_of (lowered_to st reaches.0 reaches.1 (λ o. 0)))
under_all s now floor st is e (gone, work, at) = record { stage = at.stage; under = length-map st.swept (place_of st.at) ∙ sym (listed_all s st is) ∙ sym e; between = λ o. refl }
