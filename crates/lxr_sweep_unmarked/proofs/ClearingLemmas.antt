-- Taking one unmarked object out takes out its name alone: what is left keeps its bits, marks and counts.
use Rattle.std.proofs.Common.{◌≡◌, ◌≢◌, ℕ, ◌+◌, ◌*◌, ◌<◌, refl, sym, ap, subst, ◌∙◌, inl, inr, arith, true, false, List, [], ◌∷◌, ◌++◌, IsTrue, length, length-append, ◌/◌}
use Rattle.std.specs.Prelude.{Option, Some, map, not, reverse, slice_get}
use Rattle.std.proofs.lemmas.List.{length-map, length-reverse, reverse-append}
use Rattle.std.proofs.lemmas.Bool.{and_from, and_parts, not-true, not_from_false, or_cases, or_left, or_right}
use Rattle.std.proofs.lemmas.Bool.Decides.{leb_tells}
use Rattle.lxr_layout.specs.declared.TheConstants.{GRANULES_IN_BLOCK, MOST_GRANULES}
use Rattle.lxr_layout.specs.declared.Name.{Name}
use Rattle.lxr_layout.specs.declared.Place.{Place}
use Rattle.lxr_layout.specs.declared.Shape.{Shape}
use Rattle.lxr_layout.specs.Places.{first_word}
use Rattle.lxr_image.proofs.SpaceLemmas.{space_alike}
use Rattle.lxr_base.specs.Roomy.{Roomy, extended, pushed}
use Rattle.lxr_graph.specs.Listing.{NameList, with_name, with_names}
use Rattle.lxr_graph.specs.Names.{has, same_name, without}
use Rattle.lxr_graph.specs.State.{Object, object_at, refs_of, shape_of}
use Rattle.lxr_graph.proofs.NameSets.{in_without, not_both, same_names, without_parts}
use Rattle.lxr_image.specs.declared.space.Space.{Space}
use Rattle.lxr_image.specs.Tables.{Tables, changed}
use Rattle.lxr_image.specs.Spaces.{tables_of}
use Rattle.lxr_image.specs.Reads.{granule_of}
use Rattle.lxr_image.specs.Image.{place_word}
use Rattle.lxr_image_search.specs.declared.Wanted.TheVariants.{Unmarked}
use Rattle.lxr_image_search.specs.Search.{IsNextWanted, NoneWanted, AvoidsFree}
use Rattle.lxr_model.specs.Moments.{Moment}
use Rattle.lxr_model.specs.References.{references_from}
use Rattle.lxr_model.proofs.ReachableLemmas.{dead_parts}
use Rattle.lxr_model_counting.specs.Distinct.{IsDistinct}
use Rattle.lxr_model_counting.proofs.DistinctLemmas.{in_order_distinct, tested}
use Rattle.lxr_model_counting.proofs.LoweringLemmas.{refs_out, without_none}
use Rattle.lxr_invariant.specs.Counting.{count_at, passing}
use Rattle.lxr_invariant.specs.Lines.{HasMarks}
use Rattle.lxr_invariant.specs.Quiescent.{HoldsMoment}
use Rattle.lxr_invariant.specs.Settled.{IsSettled}
use Rattle.lxr_invariant.specs.Standing.{HasBits, place_of}
use Rattle.lxr_invariant.proofs.EntryLemmas.{passing_cleared, passing_few}
use Rattle.lxr_invariant.proofs.NameLemmas.{distinct_more, in_first, no_member}
use Rattle.lxr_pause_decrements.specs.Cascade.{Ground, TablesStay}
use Rattle.lxr_pause_decrements.specs.Wipe.{LosesBits}
use Rattle.lxr_pause_decrements.proofs.CascadeLemmas.{BeginsAt, IsPlaced, append_group, append_nothing, bare, bits_fall, count_bare, granules_differ, has_reversed, in_heap, marks_fall, placed, places_more, written_other}
use Rattle.lxr_pause_decrements.proofs.LeftLemmas.{still_left}
use Rattle.lxr_pause_decrements.proofs.WipeLemmas.{loses_more, loses_none}
use Rattle.lxr_sweep_unmarked.specs.Clearing.{ClearingStage, IsClearing, TakesOut, UnmarkedAt, cleared_too, clearing, with_swept}
use Rattle.lxr_blocks.specs.Clearing.{without_counted}
use Rattle.lxr_sweep_unmarked.specs.Sweeping.{CanSweep}
use Rattle.lxr_blocks.specs.States.{state_in, state_of}

-- ---- what the heap holds

-- each reference of an unreclaimed object is what it was at the last pause
pub field_there : (s : Space) (m : Moment) (at : Name → ℕ) → HoldsMoment s m at → IsSettled m → (n : Name) (i : ℕ) (r : Option Name) → IsTrue (has m.unreclaimed n)
    → slice_get (refs_of (object_at m.last.graph n)) i ≡ Some r → (tables_of s).heap (first_word (at n) + 1 + i) ≡ place_word at r
field_there s m at is settled n i r in_n e =
    let a = is.image.image.stands n (in_first m.unreclaimed m.made n in_n) in
    a.2.refs i r (ap (λ z. slice_get (refs_of z) i) (sym a.1) ∙ ap (λ z. slice_get (refs_of (object_at z.graph n)) i) (sym settled.same) ∙ e)

pub ground_of : (s : Space) (m : Moment) (at : Name → ℕ) → HoldsMoment s m at → IsSettled m → Ground (tables_of s).heap s.limits.blocks m at
ground_of s m at is settled =
    let image = is.image.image in
    let follows = is.follows in
    record {
      distinct = in_order_distinct m.unreclaimed follows.unreclaimed;
      stands = λ n in_n.
          let a = image.stands n (in_first m.unreclaimed m.made n in_n) in
          let last : length (refs_of (object_at m.last.graph n)) ≡ length (refs_of (object_at m.state.graph n)) = ap (λ z. length (refs_of (object_at z.graph n))) settled.same in
          (a.0, a.1, record { placed = a.2.placed; name = a.2.whole.name; shape = a.2.whole.shape; header = a.2.whole.header; fits = a.2.whole.in_heap }, last ∙ ap (λ z. length (refs_of z)) a.1);
      fields = λ n i r d e. field_there s m at is settled n i r (dead_parts d).member e;
      apart = λ x y a b in_x in_y. image.apart x y a b (in_first m.unreclaimed m.made x in_x) (in_first m.unreclaimed m.made y in_y);
      closed = follows.closed;
    }

pub clearing_limits : (s : Space) (st : ClearingStage) → IsClearing s st → s.limits ≡ st.was.limits
clearing_limits s st is = ap (λ z. z.limits) is.rest

-- what isn't marked stands outside blocks that are Free
pub clearing_used : (s : Space) (st : ClearingStage) → IsClearing s st → AvoidsFree (tables_of s) Unmarked
clearing_used s st is k wanted free =
    let start = (and_parts ((tables_of s).starts k) (not ((tables_of s).marks k)) wanted).0 in
    let x = is.bits.starts.only k start in
    is.can.holds.unused.objects x.0 (without_parts st.moment.unreclaimed st.swept x.0 x.1).0
    (sym (ap (λ f. state_of (f (granule_of (st.at x.0) / GRANULES_IN_BLOCK))) is.stay.states) ∙ ap (λ z. state_in (tables_of s) (z / GRANULES_IN_BLOCK)) x.2 ∙ free)

pub clearing_ground : (s : Space) (st : ClearingStage) → IsClearing s st → Ground (tables_of s).heap st.was.limits.blocks st.moment st.at
clearing_ground s st is = subst (λ h. Ground h st.was.limits.blocks st.moment st.at) (sym is.stay.keeps.heap) (ground_of st.was st.moment st.at is.can.holds is.can.settled)

-- ---- the first stage

extended_none : {A : Type 0} (l : Roomy A) → l ≡ extended l []
extended_none {A = A} l = ap {A = List A} (λ z. record l { items = z }) (append_nothing l.items)

with_no_names : (l : NameList) → l ≡ with_names l []
with_no_names l = ap {A = List Name} (λ ns. record l { items = ns }) (append_nothing l.items)

pub first_clearing : (s : Space) (m : Moment) (at : Name → ℕ) → CanSweep s m at → IsClearing s (clearing s m at [] 0)
first_clearing s m at can =
    let all = without_none m.unreclaimed in
    record {
      can = can;
      space = can.holds.space;
      stay = record { keeps = record { heap = refl; reuse = refl; runs = refl; frees = refl; remembered = refl; cursors = λ k h j. refl }; decs = refl; outs = refl; states = refl };
      cursors = refl;
      dones = refl;
      bits = subst (HasBits (tables_of s) m at) (sym all) can.holds.bits;
      marks = subst (HasMarks (tables_of s) m.state.graph at) (sym all) can.holds.marks;
      counts = λ n h. refl;
      lost_marks = loses_none (tables_of s).marks at;
      lost_grays = loses_none (tables_of s).grays at;
      unmarked = λ n h. no_member n h;
      found = λ n in_n un below. absurd (omega (arith, below));
      once = tt;
      references = λ o. let e = ap (λ us. references_from m.last.graph us o) all in omega (arith, e);
      fewer = omega arith;
      rest = ap (λ w. with_swept s s.words w s.report.swept) (extended_none s.work) ∙ ap (λ r. with_swept s s.words (extended s.work []) r) (with_no_names s.report.swept);
    }

-- ---- one object

module _ (s : Space) (granule : ℕ) (st : ClearingStage) (h : UnmarkedAt s granule st) where
  abbrev now : Tables
  now = tables_of s

  -- the name at the granule
  pub unmarked_name : (r : Name) × BeginsAt st.moment st.at st.swept granule r
  unmarked_name =
      let x = h.stage.bits.starts.only granule h.start in
      let a = without_parts st.moment.unreclaimed st.swept x.0 x.1 in
      let inside = in_heap now.heap st.was.limits.blocks st.moment st.at (clearing_ground s st h.stage) x.0 a.0 in
      let e = x.2 in
      (x.0, record { member = a.0; left = a.1; place = omega (arith, e, inside.0); granule = e })

  pub unmarked_object : Object
  unmarked_object = ((clearing_ground s st h.stage).stands unmarked_name.0 unmarked_name.1.member).0

  pub unmarked_stands : object_at st.moment.state.graph unmarked_name.0 ≡ Some unmarked_object
  unfolding unmarked_object
  unmarked_stands = ((clearing_ground s st h.stage).stands unmarked_name.0 unmarked_name.1.member).1

  pub unmarked_placed : (p : Place) → p.0 ≡ granule + 1 → IsPlaced now s.limits.blocks unmarked_name.0 unmarked_object p.0
  unfolding unmarked_object
  unmarked_placed p stands =
      subst (λ l. IsPlaced now l.blocks unmarked_name.0 unmarked_object p.0) (sym (clearing_limits s st h.stage))
      (placed now.heap st.was.limits.blocks st.moment st.at (clearing_ground s st h.stage) now refl unmarked_name.0 unmarked_name.1.member p.0 (stands ∙ unmarked_name.1.place))

  -- it lies in the heap
  pub unmarked_fits : (granule < GRANULES_IN_BLOCK * st.was.limits.blocks) × (granule < MOST_GRANULES)
  unmarked_fits =
      let inside = in_heap now.heap st.was.limits.blocks st.moment st.at (clearing_ground s st h.stage) unmarked_name.0 unmarked_name.1.member in
      let same = unmarked_name.1.granule in
      let few = h.stage.can.holds.space.limits.blocks in
      (omega (arith, inside.1, same), omega (arith, inside.1, same, few.1))

  -- there is room for it in the lists
  pub unmarked_room : (length s.work.items < s.work.room) × (length s.report.swept.items < s.report.swept.room)
  unmarked_room =
      let end : ℕ = GRANULES_IN_BLOCK * st.was.limits.blocks in
      let names : List Name = reverse st.swept in
      let fewer = passing_cleared now.starts granule end h.start unmarked_fits.0 in
      let all = h.stage.fewer in
      let few = passing_few (tables_of st.was).starts end in
      let long = length-reverse st.swept in
      let work : s.work ≡ extended st.was.work (map (place_of st.at) names) = ap (λ z. z.work) h.stage.rest in
      let swept : s.report.swept ≡ with_names st.was.report.swept names = ap (λ z. z.report.swept) h.stage.rest in
      let worked = length-append st.was.work.items (map (place_of st.at) names) in
      let none : length st.was.work.items ≡ 0 = ap length h.stage.can.holds.no_work in
      let as_many = length-map names (place_of st.at) in
      let room = h.stage.can.holds.room.work in
      let reported = length-append st.was.report.swept.items names in
      let free = h.stage.can.swept_room in (
        subst (λ w. length w.items < w.room) (sym work) (omega (arith, fewer, all, few, long, worked, none, as_many, room)),
        subst (λ w. length w.items < w.room) (sym swept) (omega (arith, fewer, all, long, reported, free)),
      )

-- no swept object begins where one begins that isn't swept
swept_elsewhere : (s : Space) (st : ClearingStage) → IsClearing s st → (r : Name) → IsTrue (has st.moment.unreclaimed r) → has st.swept r ≡ false
    → (n : Name) → IsTrue (has st.swept n) → granule_of (st.at n) ≢ granule_of (st.at r)
swept_elsewhere s st is r in_r not_swept n h =
    let other : same_name n r ≡ false = elim (tested (same_name n r)) [ inl k ↦ not_both (has st.swept n) h (ap (has st.swept) (same_names n r k) ∙ not_swept) | inr k ↦ k ] in
    granules_differ (tables_of s).heap st.was.limits.blocks st.moment st.at (clearing_ground s st is) n r (is.unmarked n h).0 in_r other

-- what isn't swept is marked as it was
mark_before : (s : Space) (st : ClearingStage) → IsClearing s st → (r : Name) → IsTrue (has st.moment.unreclaimed r) → has st.swept r ≡ false
    → (tables_of s).marks (granule_of (st.at r)) ≡ (tables_of st.was).marks (granule_of (st.at r))
mark_before s st is r in_r not_swept = is.lost_marks.others (granule_of (st.at r)) (swept_elsewhere s st is r in_r not_swept)

-- a list that grows by one
extended_more : {A : Type 0} (l : Roomy A) (xs ys : List A) (x : A) → xs ++ x ∷ [] ≡ ys → pushed (extended l xs) x ≡ extended l ys
extended_more {A = A} l xs ys x e = ap {A = List A} (λ z. record l { items = z }) (sym (append_group l.items xs (x ∷ [])) ∙ ap (λ z. l.items ++ z) e)

names_more : (l : NameList) (ns ms : List Name) (n : Name) → ns ++ n ∷ [] ≡ ms → with_name (with_names l ns) n ≡ with_names l ms
names_more l ns ms n e = ap {A = List Name} (λ z. record l { items = z }) (sym (append_group l.items ns (n ∷ [])) ∙ ap (λ z. l.items ++ z) e)

taken_stay : (t u v : Tables) (p : ℕ) (shape : Shape) → TablesStay t u → v ≡ without_counted u p shape → TablesStay t v
taken_stay t u v p shape stay e = record {
  keeps = record {
    heap = ap (λ z. z.heap) e ∙ stay.keeps.heap;
    reuse = ap (λ z. z.reuse) e ∙ stay.keeps.reuse;
    runs = ap (λ z. z.runs) e ∙ stay.keeps.runs;
    frees = ap (λ z. z.frees) e ∙ stay.keeps.frees;
    remembered = ap (λ z. z.remembered) e ∙ stay.keeps.remembered;
    cursors = λ k h j. ap (λ z. z.cursors k) e ∙ stay.keeps.cursors k h j;
  };
  decs = ap (λ z. z.decs) e ∙ stay.decs;
  outs = ap (λ z. z.outs) e ∙ stay.outs;
  states = ap (λ z. z.states) e ∙ stay.states;
}

module _ (a e : Space) (p : Place) (granule : ℕ) (st : ClearingStage) (h : UnmarkedAt a granule st) (stands : p.0 ≡ granule + 1) (r : Name) (begins : BeginsAt st.moment st.at st.swept granule r)
    (ro : Object) (has_ro : object_at st.moment.state.graph r ≡ Some ro) (takes : TakesOut a e p r (shape_of ro)) where
  abbrev m : Moment
  m = st.moment

  abbrev t : Tables
  t = tables_of a

  abbrev g : ℕ
  g = granule_of (st.at r)

  abbrev granules : ℕ
  granules = GRANULES_IN_BLOCK * st.was.limits.blocks

  ground : Ground t.heap st.was.limits.blocks m st.at
  ground = clearing_ground a st h.stage

  at_r : p.0 ≡ st.at r
  at_r = stands ∙ begins.place

  same_place : p ≡ place_of st.at r
  same_place = λ i. record { 0 = at_r i }

  tables : tables_of e ≡ bare t st.at r ro
  tables = takes.tables ∙ ap (λ q. without_counted t q (shape_of ro)) at_r

  reversed : reverse st.swept ++ r ∷ [] ≡ reverse (r ∷ st.swept)
  reversed = sym (reverse-append (r ∷ []) st.swept)

  work_more : map (place_of st.at) (reverse st.swept) ++ p ∷ [] ≡ map (place_of st.at) (reverse (r ∷ st.swept))
  work_more = ap (λ z. map (place_of st.at) (reverse st.swept) ++ z ∷ []) same_place ∙ sym (places_more st.at (reverse st.swept) r) ∙ ap (map (place_of st.at)) reversed

  fewer_starts : passing (tables_of e).starts granules + 1 ≡ passing t.starts granules
  fewer_starts =
      let inside = in_heap t.heap st.was.limits.blocks m st.at ground r begins.member in
      let starts : (tables_of e).starts ≡ changed t.starts g false = ap (λ z. z.starts) tables in
      let start : t.starts g ≡ true = ap t.starts begins.granule ∙ h.start in
      let cleared = passing_cleared t.starts g granules start inside.1 in
      let same = ap (λ f. passing f granules) starts in
      omega (arith, cleared, same)

  -- the object is taken out
  pub taken_out : IsClearing e (cleared_too st r)
  taken_out = record {
    can = h.stage.can;
    space = space_alike a e (ap (λ z. z.limits) takes.rest) (ap (λ z. z.size) takes.tables) h.stage.space;
    stay = taken_stay (tables_of st.was) t (tables_of e) p.0 (shape_of ro) h.stage.stay takes.tables;
    cursors = ap (λ z. z.cursors) takes.tables ∙ h.stage.cursors;
    dones = ap (λ z. z.dones) takes.tables ∙ h.stage.dones;
    bits = subst (λ z. HasBits z m st.at (without m.unreclaimed (r ∷ st.swept))) (sym tables)
        (bits_fall t.heap st.was.limits.blocks m st.at ground t r st.swept ro begins.member has_ro (ap (λ f. f g) h.stage.dones ∙ h.stage.can.undecremented.none_done g) h.stage.bits);
    marks = subst (λ z. HasMarks z m.state.graph st.at (without m.unreclaimed (r ∷ st.swept))) (sym tables)
        (marks_fall t.heap st.was.limits.blocks m st.at ground t r st.swept ro begins.member has_ro h.stage.marks);
    counts = λ n left.
        let l = still_left m.unreclaimed st.swept r n left in
        ap (λ z. count_at z st.at n) tables ∙ count_bare t.heap st.was.limits.blocks m st.at ground t r ro begins.member has_ro n l.member
        ∙ written_other t.heap st.was.limits.blocks m st.at ground t.counts 0 n r l.member begins.member l.other ∙ h.stage.counts n l.before;
    lost_marks = subst (λ z. LosesBits (tables_of st.was).marks z.marks st.at (r ∷ st.swept)) (sym tables) (loses_more (tables_of st.was).marks t.marks st.at st.swept r h.stage.lost_marks);
    lost_grays = subst (λ z. LosesBits (tables_of st.was).grays z.grays st.at (r ∷ st.swept)) (sym tables) (loses_more (tables_of st.was).grays t.grays st.at st.swept r h.stage.lost_grays);
    unmarked = λ n swept. elim (or_cases (same_name n r) (has st.swept n) swept) [
      | inl k ↦
          let n_is : n ≡ r = same_names n r k in (
            ap (has m.unreclaimed) n_is ∙ begins.member,
            ap (λ z. (tables_of st.was).marks (granule_of (st.at z))) n_is ∙ sym (mark_before a st h.stage r begins.member begins.left) ∙ ap t.marks begins.granule ∙ h.unmarked,
          )
      | inr k ↦ h.stage.unmarked n k
    ];
    found = λ n in_n un below. elim (tested (same_name n r)) [
      | inl k ↦ or_left (same_name n r) (has st.swept n) k
      | inr k ↦
          let apart = granules_differ t.heap st.was.limits.blocks m st.at ground n r in_n begins.member k in
          let here = begins.granule in
          let come = h.come in
          or_right (same_name n r) (has st.swept n) (h.stage.found n in_n un (omega (arith, below, apart, here, come)))
    ];
    once = subst IsDistinct reversed (distinct_more (reverse st.swept) r h.stage.once (has_reversed st.swept r ∙ begins.left));
    references = λ o.
        let all = h.stage.references o in
        let out = refs_out m.last.graph o r m.unreclaimed st.swept ground.distinct begins.member begins.left in
        omega (arith, all, out);
    fewer = let all = h.stage.fewer in let one = fewer_starts in omega (arith, all, one);
    rest = takes.rest ∙ ap {A = Space} (λ z. with_swept z e.words (pushed z.work p) (with_name z.report.swept r)) h.stage.rest
        ∙ ap (λ w. with_swept st.was e.words w (with_name (with_names st.was.report.swept (reverse st.swept)) r)) (extended_more st.was.work (map (place_of st.at) (reverse st.swept)) (map (place_of st.at) (reverse (r ∷ st.swept))) p work_more)
        ∙ ap (λ x. with_swept st.was e.words (extended st.was.work (map (place_of st.at) (reverse (r ∷ st.swept)))) x) (names_more st.was.report.swept (reverse st.swept) (reverse (r ∷ st.swept)) r reversed);
  }

-- ---- the pass

-- a pass that finds no unmarked object further on leaves none behind it
pub found_on : (s was : Space) (m : Moment) (at : Name → ℕ) (swept : List Name) (from to : ℕ) → NoneWanted (tables_of s) Unmarked from to → IsClearing s (clearing was m at swept from) → IsClearing s (clearing was m at swept to)
found_on s was m at swept from to nothing is = record {
  can = is.can;
  space = is.space;
  stay = is.stay;
  cursors = is.cursors;
  dones = is.dones;
  bits = is.bits;
  marks = is.marks;
  counts = is.counts;
  lost_marks = is.lost_marks;
  lost_grays = is.lost_grays;
  unmarked = is.unmarked;
  found = λ n in_n un below. elim (leb_tells from (granule_of (at n))) [
    | inr c ↦ is.found n in_n un c.1
    | inl c ↦ elim (tested (has swept n)) [
      | inl k ↦ k
      | inr k ↦
          let start = is.bits.starts.each n (in_without m.unreclaimed swept n in_n (λ q. not_both (has swept n) q k)) in
          let mark = mark_before s (clearing was m at swept from) is n in_n k ∙ un in
          not_both _ (and_from ((tables_of s).starts (granule_of (at n))) _ start (not_from_false ((tables_of s).marks (granule_of (at n))) mark)) (nothing (granule_of (at n)) c.1 below)
    ]
  ];
  once = is.once;
  references = is.references;
  fewer = is.fewer;
  rest = is.rest;
}

-- the object that a pass finds next
pub unmarked_next : (s was : Space) (m : Moment) (at : Name → ℕ) (swept : List Name) (from end granule : ℕ) → IsNextWanted (tables_of s) Unmarked from end granule → IsClearing s (clearing was m at swept from)
    → UnmarkedAt s granule (clearing was m at swept granule)
unmarked_next s was m at swept from end granule next is =
    let parts = and_parts ((tables_of s).starts granule) (not ((tables_of s).marks granule)) next.is in
    record { stage = found_on s was m at swept from granule next.passed is; come = refl; start = parts.0; unmarked = not-true ((tables_of s).marks granule) parts.1 }
