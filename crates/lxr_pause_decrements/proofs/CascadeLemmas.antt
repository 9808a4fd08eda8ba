-- One lowering on the tables is one lowering of the names.
use Rattle.std.proofs.Common.{◌≡◌, ◌≢◌, ℕ, ◌+◌, ◌-◌, ◌*◌, ◌/◌, ◌<◌, ◌≤◌, refl, sym, ap, subst, ◌∙◌, inl, inr, ◌⊎◌, arith, Bool, true, false, cond, List, [], ◌∷◌, ◌++◌, IsTrue, length, length-append, nat_eq}
use Rattle.std.specs.Prelude.{◌||◌, map, reverse, Some}
use Rattle.std.proofs.lemmas.List.{reverse-append}
use Rattle.std.proofs.lemmas.Bool.{or_cases, or_left, or_right}
use Rattle.std.proofs.lemmas.Bool.Decides.{eqb_tells}
use Rattle.lxr_layout.specs.declared.Name.{Name}
use Rattle.lxr_layout.specs.declared.Place.{Place}
use Rattle.lxr_layout.specs.declared.limits.Limits.{Limits}
use Rattle.lxr_layout.specs.declared.TheConstants.{GRANULES_IN_BLOCK, STUCK, TRACING_WORD}
use Rattle.lxr_layout.specs.Objects.{word_count}
use Rattle.lxr_layout.specs.Places.{first_word}
use Rattle.lxr_base.specs.Roomy.{Roomy, pushed}
use Rattle.lxr_graph.specs.Listing.{NameList, with_name}
use Rattle.lxr_graph.specs.Names.{has, same_name, without}
use Rattle.lxr_graph.specs.State.{Object, Graph, object_at, refs_of, shape_of}
use Rattle.lxr_graph.proofs.NameSets.{same_itself, same_names, not_both, without_parts, in_without}
use Rattle.lxr_tables.specs.Counts.{lowered_count, lowered_of}
use Rattle.lxr_tables.specs.declared.counts.Lowered.TheVariants.{Stuck, Zero, Now}
use Rattle.lxr_image.specs.Tables.{Tables, changed}
use Rattle.lxr_image.specs.Reads.{granule_of, is_tracing}
use Rattle.lxr_image.specs.Image.{granules_of}
use Rattle.lxr_model.specs.Dead.{Dead}
use Rattle.lxr_model.specs.Moments.{Moment}
use Rattle.lxr_model.specs.Reachable.{Refers}
use Rattle.lxr_model.specs.References.{occurrences, references_from}
use Rattle.lxr_model.proofs.ReachableLemmas.{dead_parts}
use Rattle.lxr_model_counting.specs.Distinct.{IsDistinct}
use Rattle.lxr_model_counting.specs.Lowering.{IsLowered, LoweredAt, TakenFrom, once}
use Rattle.lxr_model_counting.proofs.DistinctLemmas.{tested}
use Rattle.lxr_model_counting.proofs.LoweringLemmas.{drops, lowered_still, lowers, once_other, once_same, stuck_stays}
use Rattle.lxr_invariant.specs.Counting.{HasDecrements, count_at}
use Rattle.lxr_invariant.specs.Lines.{HasMarks, IsMarkOf}
use Rattle.lxr_blocks.specs.Lines.{line_behind, next_line}
use Rattle.lxr_invariant.specs.Standing.{HasBits, IsUnwritten, place_of, word_of_field}
use Rattle.lxr_invariant.proofs.NameLemmas.{distinct_more, has_more}
use Rattle.lxr_invariant.proofs.EntryLemmas.{changed_here, changed_other, passing_cleared, unlike_number}
use Rattle.lxr_invariant.proofs.PlaceLemmas.{line_mark, mark_line, same_object}
use Rattle.lxr_invariant.proofs.FrameLemmas.{bits_still, marks_still}
use Rattle.lxr_pause_decrements.specs.Cascade.{Cascade, CascadeStage, Ground, IsHeader, Remains, grayed_if, graying, kept, later, looking, waits}
use Rattle.lxr_blocks.specs.Clearing.{without_counted, without_object}
use Rattle.lxr_pause_decrements.proofs.GrayLemmas.{gray_starts, grays_fall, grays_step}
use Rattle.lxr_pause_decrements.proofs.LeftLemmas.{left_still, still_left}
use Rattle.lxr_pause_decrements.proofs.WipeLemmas.{loses_more, wipe_cases, wiped_in, wiped_out}
use Rattle.lxr_blocks.proofs.ClearingLemmas.{cleared_in, cleared_out, range_cases}

-- ---- places

-- two members at one granule are one
pub granules_differ : (heap : ℕ → ℕ) (blocks : ℕ) (m : Moment) (at : Name → ℕ) → Ground heap blocks m at → (o r : Name) → IsTrue (has m.unreclaimed o) → IsTrue (has m.unreclaimed r)
    → same_name o r ≡ false → granule_of (at o) ≢ granule_of (at r)
granules_differ heap blocks m at ground o r in_o in_r ne e =
    let a = ground.stands o in_o in
    let b = ground.stands r in_r in
    elim (ground.apart o r a.0 b.0 in_o in_r ne a.1 b.1) [
      | inl h ↦ absurd (omega (arith, h, e))
      | inr h ↦ absurd (omega (arith, h, e))
    ]

-- an entry of r is written: what another member reads, and what r reads
pub written_other : {A : Type 0} (heap : ℕ → ℕ) (blocks : ℕ) (m : Moment) (at : Name → ℕ) → Ground heap blocks m at → (f : ℕ → A) (v : A) (o r : Name) → IsTrue (has m.unreclaimed o)
    → IsTrue (has m.unreclaimed r) → same_name o r ≡ false → changed f (granule_of (at r)) v (granule_of (at o)) ≡ f (granule_of (at o))
written_other heap blocks m at ground f v o r in_o in_r ne = changed_other f (granule_of (at r)) v (granule_of (at o)) (granules_differ heap blocks m at ground o r in_o in_r ne)

pub written_same : {A : Type 0} (at : Name → ℕ) (f : ℕ → A) (v : A) (o r : Name) → same_name o r ≡ true → changed f (granule_of (at r)) v (granule_of (at o)) ≡ v
written_same at f v o r e =
    let k : granule_of (at o) ≡ granule_of (at r) = ap (λ z. granule_of (at z)) (same_names o r e) in
    ap (λ z. changed f (granule_of (at r)) v z) k ∙ changed_here f (granule_of (at r)) v (granule_of (at r)) refl

-- an entry written with what it was
rewritten : {A : Type 0} (f : ℕ → A) (g : ℕ) (v : A) → v ≡ f g → (k : ℕ) → changed f g v k ≡ f k
rewritten f g v is k = elim (eqb_tells k g) [
  | inl q ↦ ap (λ b. cond b v (f k)) q.0 ∙ is ∙ ap f (sym q.1)
  | inr q ↦ ap (λ b. cond b v (f k)) q.0
]

-- ---- lists

pub refs_more : (g : Graph) (ns : List Name) (r o : Name) → references_from g (ns ++ r ∷ []) o ≡ references_from g ns o + occurrences (refs_of (object_at g r)) o
refs_more g [] r o = omega arith
refs_more g (n ∷ ns) r o = let e = refs_more g ns r o in omega (arith, e)

-- in the other order they are as many
pub refs_reversed : (g : Graph) (ns : List Name) (o : Name) → references_from g (reverse ns) o ≡ references_from g ns o
refs_reversed g [] o = refl
refs_reversed g (n ∷ ns) o =
    let last = ap (λ z. references_from g z o) (reverse-append (n ∷ []) ns) in
    let more = refs_more g (reverse ns) n o in
    let rest = refs_reversed g ns o in
    omega (arith, last, more, rest)

pub places_more : (at : Name → ℕ) (ns : List Name) (r : Name) → map (place_of at) (ns ++ r ∷ []) ≡ map (place_of at) ns ++ place_of at r ∷ []
places_more at [] r = refl
places_more at (n ∷ ns) r = ap (λ xs. place_of at n ∷ xs) (places_more at ns r)

pub append_nothing : {A : Type 0} (xs : List A) → xs ≡ xs ++ []
append_nothing [] = refl
append_nothing (x ∷ xs) = ap (λ ys. x ∷ ys) (append_nothing xs)

pub append_group : {A : Type 0} (xs ys zs : List A) → xs ++ (ys ++ zs) ≡ (xs ++ ys) ++ zs
append_group [] ys zs = refl
append_group (x ∷ xs) ys zs = ap (λ r. x ∷ r) (append_group xs ys zs)

or_flip : (a b : Bool) → (a || b) ≡ (b || a)
or_flip true true = refl
or_flip true false = refl
or_flip false true = refl
or_flip false false = refl

-- names in the other order are the same names
pub has_reversed : (ns : List Name) (n : Name) → has (reverse ns) n ≡ has ns n
has_reversed [] n = refl
has_reversed (x ∷ ns) n =
    ap (λ z. has z n) (reverse-append (x ∷ []) ns) ∙ has_more (reverse ns) x n ∙ ap (λ b. b || same_name n x) (has_reversed ns n) ∙ or_flip (has ns n) (same_name n x)

-- ---- one lowering

pub in_heap : (heap : ℕ → ℕ) (blocks : ℕ) (m : Moment) (at : Name → ℕ) → Ground heap blocks m at → (r : Name) → IsTrue (has m.unreclaimed r) → (1 ≤ at r) × (granule_of (at r) < GRANULES_IN_BLOCK * blocks)
in_heap heap blocks m at ground r in_r = let a = ground.stands r in_r in let p = a.2.placed in let f = a.2.fits in (p, omega (arith, p, f))

lowered_at : (heap : ℕ → ℕ) (blocks : ℕ) (m : Moment) (at : Name → ℕ) → Ground heap blocks m at → (t : Tables) (v : ℕ) (r : Name) → IsTrue (has m.unreclaimed r) → v ≡ count_at t at r - 1
    → LoweredAt m.unreclaimed (count_at t at) r (count_at (record t { counts = changed t.counts (granule_of (at r)) v }) at)
lowered_at heap blocks m at ground t v r in_r is o in_o = elim (tested (same_name o r)) [
  | inl k ↦
      let a = written_same at t.counts v o r k in
      let c : count_at t at o ≡ count_at t at r = ap (count_at t at) (same_names o r k) in
      let n = once_same o r k in
      omega (arith, a, c, n, is)
  | inr k ↦
      let a = written_other heap blocks m at ground t.counts v o r in_o in_r k in
      let n = once_other o r k in
      omega (arith, a, n)
]

-- what stands at the place of an unreclaimed name: its header, and all its granules in the heap
pub record IsPlaced (u : Tables) (blocks : ℕ) (r : Name) (o : Object) (p : ℕ) : Type 0 where
  pub place : (1 ≤ p) × (granule_of p < GRANULES_IN_BLOCK * blocks)
  pub header : IsHeader u p r (shape_of o)
  pub fits : p - 1 + word_count (shape_of o) / 2 ≤ GRANULES_IN_BLOCK * blocks

pub placed : (heap : ℕ → ℕ) (blocks : ℕ) (m : Moment) (at : Name → ℕ) → (ground : Ground heap blocks m at) → (u : Tables) → u.heap ≡ heap → (r : Name) → (in_r : IsTrue (has m.unreclaimed r))
    → (p : ℕ) → p ≡ at r → IsPlaced u blocks r (ground.stands r in_r).0 p
placed heap blocks m at ground u same r in_r p stands =
    let a = ground.stands r in_r in
    let h = in_heap heap blocks m at ground r in_r in
    let f = a.2.fits in
    record {
      place = (omega (arith, stands, h.0), omega (arith, stands, h.1));
      header = record { name = a.2.name; fits = a.2.shape; header = ap (λ k. k (first_word p)) same ∙ ap (λ z. heap (first_word z)) stands ∙ a.2.header };
      fits = omega (arith, f, stands);
    }

-- the unreclaimed name whose object begins at a granule
pub record BeginsAt (m : Moment) (at : Name → ℕ) (gone : List Name) (k : ℕ) (r : Name) : Type 0 where
  pub member : IsTrue (has m.unreclaimed r)
  pub left : has gone r ≡ false
  pub place : k + 1 ≡ at r
  pub granule : granule_of (at r) ≡ k

pub started : (l : Limits) (t : Tables) (d : NameList) (st : CascadeStage) (granule : ℕ) → Remains l t d st → IsTrue (t.starts granule) → (r : Name) × BeginsAt st.moment st.at st.gone granule r
started l t d st granule is start =
    let x = is.bits.starts.only granule start in
    let a = without_parts st.moment.unreclaimed st.gone x.0 x.1 in
    let h = in_heap t.heap l.blocks st.moment st.at is.ground x.0 a.0 in
    let e = x.2 in
    (x.0, record { member = a.0; left = a.1; place = omega (arith, e, h.0); granule = e })

-- the waiting names without r
taken_out : (t : Tables) (st : CascadeStage) (r : Name) (rest : Name → ℕ) → TakenFrom st.extra r rest → TakenFrom (waits t st) r (waits t (later st st.gone st.work rest))
taken_out t st r rest taken o = let e = taken o in omega (arith, e)

-- what waits can be lowered
pub counted : (l : Limits) (t : Tables) (w : Roomy Place) (d : NameList) (st : CascadeStage) (r : Name) (rest : Name → ℕ) → Cascade l t w d st → IsTrue (has st.moment.unreclaimed r)
    → TakenFrom st.extra r rest → 1 ≤ count_at t st.at r
counted l t w d st r rest is in_r taken = elim (tested (has st.moment.stuck r)) [
  | inl k ↦ let e = is.remains.stuck r in_r k in omega (arith, e)
  | inr k ↦ let e = is.lowered.exact r in_r k in let t = taken r in let n = once_same r r (same_itself r) in omega (arith, e, t, n)
]

-- what has a count isn't gone
pub counted_left : (l : Limits) (t : Tables) (w : Roomy Place) (d : NameList) (st : CascadeStage) (r : Name) → Cascade l t w d st → IsTrue (has st.moment.unreclaimed r) → 1 ≤ count_at t st.at r
    → (has st.gone r ≡ false) × IsTrue (has (kept st) r)
counted_left l t w d st r is in_r some =
    let not_gone : IsTrue (has st.gone r) → ⊥ = λ k. let z = is.lowered.zero r k in omega (arith, z, some) in
    (elim (tested (has st.gone r)) [ inl k ↦ absurd (not_gone k) | inr k ↦ k ], in_without st.moment.unreclaimed st.gone r in_r not_gone)

below_other : (heap : ℕ → ℕ) (blocks : ℕ) (m : Moment) (at : Name → ℕ) → Ground heap blocks m at → (t : Tables) (v : ℕ) (r : Name) → IsTrue (has m.unreclaimed r) → v < STUCK
    → ((n : Name) → IsTrue (has m.unreclaimed n) → has m.stuck n ≡ false → count_at t at n < STUCK)
    → (n : Name) → IsTrue (has m.unreclaimed n) → has m.stuck n ≡ false → count_at (record t { counts = changed t.counts (granule_of (at r)) v }) at n < STUCK
below_other heap blocks m at ground t v r in_r small before n in_n unstuck = elim (tested (same_name n r)) [
  | inl k ↦ let a = written_same at t.counts v n r k in omega (arith, a, small)
  | inr k ↦ let a = written_other heap blocks m at ground t.counts v n r in_n in_r k in let b = before n in_n unstuck in omega (arith, a, b)
]

stuck_other : (heap : ℕ → ℕ) (blocks : ℕ) (m : Moment) (at : Name → ℕ) → Ground heap blocks m at → (t : Tables) (v : ℕ) (r : Name) → IsTrue (has m.unreclaimed r) → has m.stuck r ≡ false
    → ((n : Name) → IsTrue (has m.unreclaimed n) → IsTrue (has m.stuck n) → count_at t at n ≡ STUCK)
    → (n : Name) → IsTrue (has m.unreclaimed n) → IsTrue (has m.stuck n) → count_at (record t { counts = changed t.counts (granule_of (at r)) v }) at n ≡ STUCK
stuck_other heap blocks m at ground t v r in_r unstuck before n in_n is_stuck = elim (tested (same_name n r)) [
  | inl k ↦ not_both (has m.stuck n) is_stuck (ap (has m.stuck) (same_names n r k) ∙ unstuck)
  | inr k ↦ written_other heap blocks m at ground t.counts v n r in_n in_r k ∙ before n in_n is_stuck
]

-- no object begins at another's mark, nor at its own
mark_apart : (heap : ℕ → ℕ) (blocks : ℕ) (m : Moment) (at : Name → ℕ) → Ground heap blocks m at → (n r : Name) (o : Object) (g : ℕ) → IsTrue (has m.unreclaimed n) → IsTrue (has m.unreclaimed r)
    → object_at m.state.graph n ≡ Some o → IsMarkOf at n o g → granule_of (at r) ≢ g
mark_apart heap blocks m at ground n r o g in_n in_r has_o mark e =
    let b = ground.stands r in_r in
    let behind = mark.behind in
    let within = mark.within in
    elim (tested (same_name r n)) [
      | inl k ↦ let q : at r ≡ at n = ap at (same_names r n k) in absurd (omega (arith, q, behind, e))
      | inr k ↦ elim (ground.apart r n b.0 o in_r in_n k b.1 has_o) [ inl h ↦ absurd (omega (arith, h, behind, e)) | inr h ↦ absurd (omega (arith, h, within, e)) ]
    ]

-- two members share no mark
marks_apart : (heap : ℕ → ℕ) (blocks : ℕ) (m : Moment) (at : Name → ℕ) → Ground heap blocks m at → (n r : Name) (o q : Object) (g : ℕ) → IsTrue (has m.unreclaimed n) → IsTrue (has m.unreclaimed r)
    → same_name n r ≡ false → object_at m.state.graph n ≡ Some o → object_at m.state.graph r ≡ Some q → IsMarkOf at n o g → IsMarkOf at r q g → ⊥
marks_apart heap blocks m at ground n r o q g in_n in_r ne has_o has_q a b =
    let a1 = a.behind in let a2 = a.within in let b1 = b.behind in let b2 = b.within in
    elim (ground.apart n r o q in_n in_r ne has_o has_q) [ inl h ↦ omega (arith, h, a2, b1) | inr h ↦ omega (arith, h, b2, a1) ]

-- marks stay where the count of a member that is left is written
marks_other : (heap : ℕ → ℕ) (blocks : ℕ) (m : Moment) (at : Name → ℕ) → Ground heap blocks m at → (t : Tables) (v : ℕ) (r : Name) (gone : List Name) → IsTrue (has m.unreclaimed r)
    → IsTrue (has (without m.unreclaimed gone) r) → HasMarks t m.state.graph at (without m.unreclaimed gone)
    → HasMarks (record t { counts = changed t.counts (granule_of (at r)) v }) m.state.graph at (without m.unreclaimed gone)
marks_other heap blocks m at ground t v r gone in_r left_r is = record {
  marked = λ n o g left_n has_o mark.
      changed_other t.counts (granule_of (at r)) v g (λ e. mark_apart heap blocks m at ground n r o g (without_parts m.unreclaimed gone n left_n).0 in_r has_o mark (sym e)) ∙ is.marked n o g left_n has_o mark;
  elsewhere = λ g nobody nothing. changed_other t.counts (granule_of (at r)) v g (λ e. nobody r left_r (sym e)) ∙ is.elsewhere g nobody nothing;
}

-- what is left, at another stage at which the same names are gone
pub remains_still : (l : Limits) (t : Tables) (d : NameList) (st : CascadeStage) (under : List Place) (work : List Name) (extra ungrayed unseen : Name → ℕ) → Remains l t d st
    → Remains l t d (record st { under = under; work = work; extra = extra; ungrayed = ungrayed; unseen = unseen })
remains_still l t d st under work extra ungrayed unseen is = record {
  ground = is.ground;
  stuck = is.stuck;
  below = is.below;
  bits = is.bits;
  marks = is.marks;
  unused = is.unused;
  lost_marks = is.lost_marks;
  tracing = is.tracing;
  decrements = is.decrements;
  once = is.once;
  reported = is.reported;
  fewer = is.fewer;
  dead_room = is.dead_room;
}

-- the tables with another list of decrements
abbrev pub with_list : Tables → (ℕ → ℕ) → (ℕ → ℕ) → Tables
with_list t decs cursors = record t { decs = decs; cursors = cursors }

-- where the list of decrements is another one, and as much waits in it and beside it
pub listed_else : (l : Limits) (t : Tables) (w : Roomy Place) (d : NameList) (st : CascadeStage) (decs cursors : ℕ → ℕ) (extra : Name → ℕ) → Cascade l t w d st → cursors TRACING_WORD ≡ t.cursors TRACING_WORD
    → HasDecrements l (with_list t decs cursors) st.moment st.at
    → ((o : Name) → IsTrue (has st.moment.unreclaimed o) → waits (with_list t decs cursors) (later st st.gone st.work extra) o ≡ waits t st o)
    → Cascade l (with_list t decs cursors) w d (later st st.gone st.work extra)
listed_else l t w d st decs cursors extra is tracing decrements waiting =
    let m : Moment = st.moment in
    let u : Tables = with_list t decs cursors in
    record {
      remains = remains_still l u d st st.under st.work extra st.ungrayed st.unseen (record {
        ground = is.remains.ground;
        stuck = is.remains.stuck;
        below = is.remains.below;
        bits = bits_still t u m st.at (kept st) refl refl refl refl refl is.remains.bits;
        marks = marks_still t u m.state.graph st.at (kept st) refl is.remains.marks;
        unused = is.remains.unused;
        lost_marks = is.remains.lost_marks;
        tracing = tracing ∙ is.remains.tracing;
        decrements = decrements;
        once = is.remains.once;
        reported = is.remains.reported;
        fewer = is.remains.fewer;
        dead_room = is.remains.dead_room;
      });
      lowered = lowered_still m.last m.unreclaimed m.stuck st.gone (count_at t st.at) (count_at u st.at) (waits t st) (waits u (later st st.gone st.work extra)) (λ o _. refl) waiting is.lowered;
      seen = is.seen;
      none_done = is.none_done;
      grays = is.grays;
      work = is.work;
      work_gone = is.work_gone;
      work_room = is.work_room;
    }

-- a count that stays above zero
pub sinks : (l : Limits) (t : Tables) (w : Roomy Place) (d : NameList) (st : CascadeStage) (r : Name) (rest : Name → ℕ) (v : ℕ) → Cascade l t w d st → IsTrue (has st.moment.unreclaimed r)
    → TakenFrom st.extra r rest → has st.moment.stuck r ≡ false → 2 ≤ count_at t st.at r → v ≡ count_at t st.at r - 1
    → Cascade l (record t { counts = changed t.counts (granule_of (st.at r)) v }) w d (later st st.gone st.work rest)
sinks l t w d st r rest v is in_r taken unstuck two v_is =
    let m : Moment = st.moment in
    let t2 : Tables = record t { counts = changed t.counts (granule_of (st.at r)) v } in
    let ground = is.remains.ground in
    let b = is.remains.below r in_r unstuck in
    record {
      remains = record {
        ground = ground;
        stuck = stuck_other t.heap l.blocks m st.at ground t v r in_r unstuck is.remains.stuck;
        below = below_other t.heap l.blocks m st.at ground t v r in_r (omega (arith, b, v_is)) is.remains.below;
        bits = bits_still t t2 m st.at (kept st) refl refl refl refl refl is.remains.bits;
        marks = marks_other t.heap l.blocks m st.at ground t v r st.gone in_r (counted_left l t w d st r is in_r (omega (arith, two))).1 is.remains.marks;
        unused = is.remains.unused;
        lost_marks = is.remains.lost_marks;
        tracing = is.remains.tracing;
        decrements = record { fits = is.remains.decrements.fits; places = is.remains.decrements.places };
        once = is.remains.once;
        reported = is.remains.reported;
        fewer = is.remains.fewer;
        dead_room = is.remains.dead_room;
      };
      lowered = lowers m.last m.unreclaimed m.stuck st.gone (count_at t st.at) (waits t st)
          (count_at t2 st.at) (waits t (later st st.gone st.work rest)) r is.lowered (omega (arith, two))
          (taken_out t st r rest taken) (lowered_at t.heap l.blocks m st.at ground t v r in_r v_is);
      seen = λ n in_n loose before none. elim (tested (same_name n r)) [
        | inl k ↦ let here = written_same st.at t.counts v n r k in absurd (omega (arith, here, none, two, v_is))
        | inr k ↦ is.seen n in_n loose before (sym (written_other t.heap l.blocks m st.at ground t.counts v n r in_n in_r k) ∙ none)
      ];
      none_done = is.none_done;
      grays = is.grays;
      work = is.work;
      work_gone = is.work_gone;
      work_room = is.work_room;
    }

-- ---- an object goes

-- a member's references are outside the words of another's
logs_apart : (heap : ℕ → ℕ) (blocks : ℕ) (m : Moment) (at : Name → ℕ) → Ground heap blocks m at → (n r : Name) (q : Object) (i : ℕ) → IsTrue (has m.unreclaimed n) → IsTrue (has m.unreclaimed r)
    → same_name n r ≡ false → object_at m.state.graph r ≡ Some q → i < length (refs_of (object_at m.state.graph n))
    → (word_of_field at n i < first_word (at r) + 1) ⊎ (first_word (at r) + 1 + length q.refs ≤ word_of_field at n i)
logs_apart heap blocks m at ground n r q i in_n in_r ne has_q h =
    let a = ground.stands n in_n in
    let pn = a.2.placed in
    let pr = (ground.stands r in_r).2.placed in
    let e : length (refs_of (object_at m.state.graph n)) ≡ length a.0.refs = ap (λ z. length (refs_of z)) a.1 in
    elim (ground.apart n r a.0 q in_n in_r ne a.1 has_q) [ inl k ↦ inl (omega (arith, k, h, e, pn, pr)) | inr k ↦ inr (omega (arith, k, h, e, pn, pr)) ]

-- the tables without r's object, whose count is 0
abbrev pub bare : Tables → (Name → ℕ) → Name → Object → Tables
bare t at r o = without_counted t (at r) (shape_of o)

-- a bit that was only at start bits
stays_only : (starts f : ℕ → Bool) (g : ℕ) → ((k : ℕ) → IsTrue (f k) → IsTrue (starts k)) → (k : ℕ) → IsTrue (changed f g false k) → IsTrue (changed starts g false k)
stays_only starts f g is k h = elim (eqb_tells k g) [
  | inl q ↦ not_both (changed f g false k) h (ap (λ b. cond b false (f k)) q.0)
  | inr q ↦ ap (λ b. cond b false (starts k)) q.0 ∙ is k (sym (ap (λ b. cond b false (f k)) q.0) ∙ h)
]

-- no claim lies at a start bit that is cleared
dones_only : (starts dones : ℕ → Bool) (g : ℕ) → dones g ≡ false → ((k : ℕ) → IsTrue (dones k) → IsTrue (starts k)) → (k : ℕ) → IsTrue (dones k) → IsTrue (changed starts g false k)
dones_only starts dones g none is k h = elim (eqb_tells k g) [
  | inl q ↦ not_both (dones k) h (ap dones q.1 ∙ none)
  | inr q ↦ ap (λ b. cond b false (starts k)) q.0 ∙ is k h
]

unlogged_on : (heap : ℕ → ℕ) (blocks : ℕ) (m : Moment) (at : Name → ℕ) → Ground heap blocks m at → (t : Tables) (r : Name) (gone : List Name) (ro : Object) → IsTrue (has m.unreclaimed r)
    → object_at m.state.graph r ≡ Some ro → HasBits t m at (without m.unreclaimed gone) → (x : ℕ) → IsTrue ((bare t at r ro).unlogged x) → IsUnwritten m at (without m.unreclaimed (r ∷ gone)) x
unlogged_on heap blocks m at ground t r gone ro in_r has_ro is x on = elim (range_cases (first_word (at r) + 1) (first_word (at r) + 1 + length ro.refs) x) [
  | inl k ↦ not_both ((bare t at r ro).unlogged x) on (cleared_in t.unlogged (first_word (at r) + 1) (first_word (at r) + 1 + length ro.refs) x k.0 k.1)
  | inr k ↦
      let old = (is.unlogged x).0 (sym (cleared_out t.unlogged (first_word (at r) + 1) (first_word (at r) + 1 + length ro.refs) x k) ∙ on) in
      let other : same_name old.0 r ≡ false = elim (tested (same_name old.0 r)) [
        | inl q ↦
            let n_is : old.0 ≡ r = same_names old.0 r q in
            let p_is : at old.0 ≡ at r = ap at n_is in
            let long : length (refs_of (object_at m.state.graph old.0)) ≡ length ro.refs = ap (λ z. length (refs_of (object_at m.state.graph z))) n_is ∙ ap (λ z. length (refs_of z)) has_ro in
            absurd (out_of_range (at old.0) (at r) (length (refs_of (object_at m.state.graph old.0))) (length ro.refs) old.1 x p_is long old.2.index old.2.word k)
        | inr q ↦ q
      ] in
      (old.0, old.1, record { member = left_still m.unreclaimed gone r old.0 old.2.member other; index = old.2.index; unwritten = old.2.unwritten; word = old.2.word })
]
  where
    out_of_range : (p q n m i x : ℕ) → p ≡ q → n ≡ m → i < n → x ≡ first_word p + 1 + i → (x < first_word q + 1) ⊎ (first_word q + 1 + m ≤ x) → ⊥
    out_of_range p q n m i x e f h is (inl k) = omega arith
    out_of_range p q n m i x e f h is (inr k) = omega arith

unlogged_back : (heap : ℕ → ℕ) (blocks : ℕ) (m : Moment) (at : Name → ℕ) → Ground heap blocks m at → (t : Tables) (r : Name) (gone : List Name) (ro : Object) → IsTrue (has m.unreclaimed r)
    → object_at m.state.graph r ≡ Some ro → HasBits t m at (without m.unreclaimed gone) → (x : ℕ) → IsUnwritten m at (without m.unreclaimed (r ∷ gone)) x → IsTrue ((bare t at r ro).unlogged x)
unlogged_back heap blocks m at ground t r gone ro in_r has_ro is x (n, i, u) =
    let l = still_left m.unreclaimed gone r n u.member in
    let out = logs_apart heap blocks m at ground n r ro i l.member in_r l.other has_ro u.index in
    ap (λ z. (bare t at r ro).unlogged z) u.word ∙ cleared_out t.unlogged (first_word (at r) + 1) (first_word (at r) + 1 + length ro.refs) (word_of_field at n i) out
    ∙ (is.unlogged (word_of_field at n i)).1 (n, i, record { member = l.before; index = u.index; unwritten = u.unwritten; word = refl })

-- the bits of what is left without r
pub bits_fall : (heap : ℕ → ℕ) (blocks : ℕ) (m : Moment) (at : Name → ℕ) → Ground heap blocks m at → (t : Tables) (r : Name) (gone : List Name) (ro : Object) → IsTrue (has m.unreclaimed r)
    → object_at m.state.graph r ≡ Some ro → t.dones (granule_of (at r)) ≡ false → HasBits t m at (without m.unreclaimed gone) → HasBits (bare t at r ro) m at (without m.unreclaimed (r ∷ gone))
bits_fall heap blocks m at ground t r gone ro in_r has_ro not_done is =
    let g : ℕ = granule_of (at r) in
    record {
      starts = record {
        each = λ n h.
            let l = still_left m.unreclaimed gone r n h in
            written_other heap blocks m at ground t.starts false n r l.member in_r l.other ∙ is.starts.each n l.before;
        only = λ k on. elim (eqb_tells k g) [
          | inl q ↦ not_both (changed t.starts g false k) on (ap (λ b. cond b false (t.starts k)) q.0)
          | inr q ↦
              let x = is.starts.only k (sym (ap (λ b. cond b false (t.starts k)) q.0) ∙ on) in (
                x.0,
                left_still m.unreclaimed gone r x.0 x.1 (elim (tested (same_name x.0 r)) [
                  | inl z ↦ absurd (q.1 (sym x.2 ∙ ap (λ y. granule_of (at y)) (same_names x.0 r z)))
                  | inr z ↦ z
                ]),
                x.2,
              )
        ];
      };
      marks = stays_only t.starts t.marks g is.marks;
      grays = stays_only t.starts t.grays g is.grays;
      dones = dones_only t.starts t.dones g not_done is.dones;
      unlogged = λ x. (unlogged_on heap blocks m at ground t r gone ro in_r has_ro is x, unlogged_back heap blocks m at ground t r gone ro in_r has_ro is x);
    }

-- the marks of what is left without r
pub marks_fall : (heap : ℕ → ℕ) (blocks : ℕ) (m : Moment) (at : Name → ℕ) → Ground heap blocks m at → (t : Tables) (r : Name) (gone : List Name) (ro : Object) → IsTrue (has m.unreclaimed r)
    → object_at m.state.graph r ≡ Some ro → HasMarks t m.state.graph at (without m.unreclaimed gone) → HasMarks (bare t at r ro) m.state.graph at (without m.unreclaimed (r ∷ gone))
marks_fall heap blocks m at ground t r gone ro in_r has_ro is =
    let g : ℕ = granule_of (at r) in
    let a : ℕ = next_line g in
    let b : ℕ = line_behind g (granules_of ro) in
    let lows : ℕ → ℕ = changed t.counts g 0 in
    record {
      marked = λ n o h left_n has_o mark.
          let l = still_left m.unreclaimed gone r n left_n in
          wiped_out lows a b h (λ k. marks_apart heap blocks m at ground n r o ro h l.member in_r l.other has_o has_ro mark (line_mark at r ro h k))
          ∙ changed_other t.counts g 0 h (λ e. mark_apart heap blocks m at ground n r o h l.member in_r has_o mark (sym e)) ∙ is.marked n o h l.before has_o mark;
      elsewhere = λ h nobody nothing. elim (wipe_cases a b h) [
        | inl k ↦ wiped_in lows a b h k
        | inr k ↦ wiped_out lows a b h k ∙ (elim (eqb_tells h g) [
          | inl q ↦ ap (λ c. cond c 0 (t.counts h)) q.0
          | inr q ↦ ap (λ c. cond c 0 (t.counts h)) q.0 ∙ is.elsewhere h
              (λ n left_n. elim (tested (same_name n r)) [
                | inl z ↦ λ e. q.1 (sym e ∙ ap (λ y. granule_of (at y)) (same_names n r z))
                | inr z ↦ nobody n (left_still m.unreclaimed gone r n left_n z)
              ])
              (λ n o left_n has_o mark. elim (tested (same_name n r)) [
                | inl z ↦
                    let n_is : n ≡ r = same_names n r z in
                    let o_is : o ≡ ro = same_object m.state.graph r o ro (sym (ap (object_at m.state.graph) n_is) ∙ has_o) has_ro in
                    k (mark_line at r ro h (subst (λ y. IsMarkOf at y ro h) n_is (subst (λ y. IsMarkOf at n y h) o_is mark)))
                | inr z ↦ nothing n o (left_still m.unreclaimed gone r n left_n z) has_o mark
              ])
        ])
      ];
    }

-- the counts of what was unreclaimed stay but for r's
pub count_bare : (heap : ℕ → ℕ) (blocks : ℕ) (m : Moment) (at : Name → ℕ) → Ground heap blocks m at → (t : Tables) (r : Name) (ro : Object) → IsTrue (has m.unreclaimed r)
    → object_at m.state.graph r ≡ Some ro → (n : Name) → IsTrue (has m.unreclaimed n) → count_at (bare t at r ro) at n ≡ changed t.counts (granule_of (at r)) 0 (granule_of (at n))
count_bare heap blocks m at ground t r ro in_r has_ro n in_n =
    let g : ℕ = granule_of (at r) in
    wiped_out (changed t.counts g 0) (next_line g) (line_behind g (granules_of ro)) (granule_of (at n))
    (λ k. mark_apart heap blocks m at ground r n ro (granule_of (at n)) in_r in_n has_ro (line_mark at r ro (granule_of (at n)) k) refl)

-- where it had none, they all stay
pub count_stays : (heap : ℕ → ℕ) (blocks : ℕ) (m : Moment) (at : Name → ℕ) → Ground heap blocks m at → (t : Tables) (r : Name) (ro : Object) → IsTrue (has m.unreclaimed r)
    → object_at m.state.graph r ≡ Some ro → count_at t at r ≡ 0 → (n : Name) → IsTrue (has m.unreclaimed n) → count_at (bare t at r ro) at n ≡ count_at t at n
count_stays heap blocks m at ground t r ro in_r has_ro none n in_n =
    count_bare heap blocks m at ground t r ro in_r has_ro n in_n ∙ rewritten t.counts (granule_of (at r)) 0 (sym none) (granule_of (at n))

-- and its own is cleared already
pub bare_uncounted : (t : Tables) (at : Name → ℕ) (r : Name) (o : Object) → count_at t at r ≡ 0 → without_object t (at r) (shape_of o) ≡ bare t at r o
bare_uncounted t at r o none =
    let same : t.counts ≡ changed t.counts (granule_of (at r)) 0 = λ i k. sym (rewritten t.counts (granule_of (at r)) 0 (sym none) k) i in
    ap (λ z. without_object (record t { counts = z }) (at r) (shape_of o)) same

-- r goes: what is left without it
pub remains_fall : (l : Limits) (t : Tables) (d : NameList) (st : CascadeStage) (r : Name) (work : List Name) (extra : Name → ℕ) (ro : Object) → Remains l t d st
    → IsTrue (has st.moment.unreclaimed r) → has st.gone r ≡ false → has st.moment.stuck r ≡ false → t.dones (granule_of (st.at r)) ≡ false → object_at st.moment.state.graph r ≡ Some ro
    → Remains l (bare t st.at r ro) (with_name d r) (later st (r ∷ st.gone) work extra)
remains_fall l t d st r work extra ro is in_r not_gone unstuck not_done has_ro =
    let m : Moment = st.moment in
    let g : ℕ = granule_of (st.at r) in
    let left_r : IsTrue (has (kept st) r) = in_without m.unreclaimed st.gone r in_r (λ k. not_both (has st.gone r) k not_gone) in
    let within = in_heap t.heap l.blocks m st.at is.ground r in_r in
    let fewer = passing_cleared t.starts g (GRANULES_IN_BLOCK * l.blocks) (is.bits.starts.each r left_r) within.1 in
    let unwiped = count_bare t.heap l.blocks m st.at is.ground t r ro in_r has_ro in
    record {
      ground = is.ground;
      stuck = λ n in_n k. unwiped n in_n ∙ stuck_other t.heap l.blocks m st.at is.ground t 0 r in_r unstuck is.stuck n in_n k;
      below = λ n in_n k. let e = unwiped n in_n in let z = below_other t.heap l.blocks m st.at is.ground t 0 r in_r (omega arith) is.below n in_n k in omega (arith, e, z);
      bits = bits_fall t.heap l.blocks m st.at is.ground t r st.gone ro in_r has_ro not_done is.bits;
      marks = marks_fall t.heap l.blocks m st.at is.ground t r st.gone ro in_r has_ro is.marks;
      unused = is.unused;
      lost_marks = loses_more st.was.marks t.marks st.at st.gone r is.lost_marks;
      tracing = is.tracing;
      decrements = record { fits = is.decrements.fits; places = is.decrements.places };
      once = subst IsDistinct (sym (reverse-append (r ∷ []) st.gone)) (distinct_more (reverse st.gone) r is.once (has_reversed st.gone r ∙ not_gone));
      reported = ap (λ xs. xs ++ r ∷ []) is.reported ∙ sym (append_group st.before (reverse st.gone) (r ∷ [])) ∙ ap (λ z. st.before ++ z) (sym (reverse-append (r ∷ []) st.gone));
      fewer = let k = is.fewer in omega (arith, k, fewer);
      dead_room = let k = is.dead_room in let z = length-append d.items (r ∷ []) in omega (arith, k, z, fewer);
    }

-- r goes and waits in the worklist, where its count is lowered already
goes : (l : Limits) (t : Tables) (w : Roomy Place) (d : NameList) (st : CascadeStage) (r : Name) (rest : Name → ℕ) (ro : Object) (unseen : Name → ℕ) → Cascade l t w d st
    → IsTrue (has st.moment.unreclaimed r) → has st.gone r ≡ false → has st.moment.stuck r ≡ false → object_at st.moment.state.graph r ≡ Some ro
    → IsLowered st.moment.last st.moment.unreclaimed st.moment.stuck st.gone (count_at (bare t st.at r ro) st.at) (waits t (later st st.gone st.work rest))
    → ((n : Name) → IsTrue (has st.moment.unreclaimed n) → same_name n r ≡ false → unseen n ≡ 0 → st.unseen n ≡ 0)
    → Cascade l (bare t st.at r ro) (pushed w (place_of st.at r)) (with_name d r) (looking (later st (r ∷ st.gone) (st.work ++ r ∷ []) rest) unseen)
goes l t w d st r rest ro unseen is in_r not_gone unstuck has_ro lowered before =
    let m : Moment = st.moment in
    let g : ℕ = granule_of (st.at r) in
    let ground = is.remains.ground in
    let t2 : Tables = bare t st.at r ro in
    let within = in_heap t.heap l.blocks m st.at ground r in_r in
    let left_r : IsTrue (has (kept st) r) = in_without m.unreclaimed st.gone r in_r (λ k. not_both (has st.gone r) k not_gone) in
    let fewer = passing_cleared t.starts g (GRANULES_IN_BLOCK * l.blocks) (is.remains.bits.starts.each r left_r) within.1 in
    let unwiped = count_bare t.heap l.blocks m st.at ground t r ro in_r has_ro in
    let cleared_r : count_at t2 st.at r ≡ 0 = unwiped r in_r ∙ written_same st.at t.counts 0 r r (same_itself r) in
    record {
      remains = remains_still l t2 (with_name d r) (later st (r ∷ st.gone) (st.work ++ r ∷ []) rest) st.under (st.work ++ r ∷ []) rest st.ungrayed unseen
          (remains_fall l t d st r (st.work ++ r ∷ []) rest ro is.remains in_r not_gone unstuck (is.none_done g) has_ro);
      lowered = drops m.last m.unreclaimed m.stuck st.gone (count_at t2 st.at) (waits t (later st st.gone st.work rest)) (waits t (later st (r ∷ st.gone) (st.work ++ r ∷ []) rest)) r
          lowered ground.distinct in_r unstuck not_gone cleared_r (λ o. let e = refs_more m.last.graph st.work r o in omega (arith, e));
      seen = λ n in_n loose passed none. elim (tested (same_name n r)) [
        | inl k ↦ or_left (same_name n r) (has st.gone n) k
        | inr k ↦ or_right (same_name n r) (has st.gone n) (is.seen n in_n loose (before n in_n k passed)
            (sym (written_other t.heap l.blocks m st.at ground t.counts 0 n r in_n in_r k) ∙ sym (unwiped n in_n) ∙ none))
      ];
      none_done = is.none_done;
      grays = grays_fall m.trace st.was.grays t.grays m st.at st.gone st.work st.ungrayed r is.grays in_r (λ n in_n other. granules_differ t.heap l.blocks m st.at ground n r in_n in_r other);
      work = ap (λ xs. xs ++ place_of st.at r ∷ []) is.work ∙ sym (append_group st.under (map (place_of st.at) st.work) (place_of st.at r ∷ [])) ∙ ap (λ xs. st.under ++ xs) (sym (places_more st.at st.work r));
      work_gone = λ n h. elim (or_cases (has st.work n) (same_name n r) (sym (has_more st.work r n) ∙ h)) [
        | inl k ↦ or_right (same_name n r) (has st.gone n) (is.work_gone n k)
        | inr k ↦ or_left (same_name n r) (has st.gone n) k
      ];
      work_room = let k = is.work_room in let z = length-append w.items (place_of st.at r ∷ []) in omega (arith, k, z, fewer);
    }

-- the last count goes
pub falls : (l : Limits) (t : Tables) (w : Roomy Place) (d : NameList) (st : CascadeStage) (r : Name) (rest : Name → ℕ) (ro : Object) → Cascade l t w d st → IsTrue (has st.moment.unreclaimed r)
    → TakenFrom st.extra r rest → has st.moment.stuck r ≡ false → count_at t st.at r ≡ 1 → object_at st.moment.state.graph r ≡ Some ro
    → Cascade l (bare t st.at r ro) (pushed w (place_of st.at r)) (with_name d r) (later st (r ∷ st.gone) (st.work ++ r ∷ []) rest)
falls l t w d st r rest ro is in_r taken unstuck one has_ro =
    let m : Moment = st.moment in
    let ground = is.remains.ground in
    let not_gone = (counted_left l t w d st r is in_r (omega (arith, one))).0 in
    goes l t w d st r rest ro st.unseen is in_r not_gone unstuck has_ro
    (lowers m.last m.unreclaimed m.stuck st.gone (count_at t st.at) (waits t st) (count_at (bare t st.at r ro) st.at) (waits t (later st st.gone st.work rest)) r is.lowered (omega (arith, one))
    (taken_out t st r rest taken)
    (λ o in_o. count_bare t.heap l.blocks m st.at ground t r ro in_r has_ro o in_o ∙ lowered_at t.heap l.blocks m st.at ground t 0 r in_r (omega (arith, one)) o in_o))
    (λ n in_n other passed. passed)

-- an object without a count goes where it is looked at
pub dropped : (l : Limits) (t : Tables) (w : Roomy Place) (d : NameList) (st : CascadeStage) (r : Name) (ro : Object) (unseen : Name → ℕ) → Cascade l t w d st → IsTrue (has st.moment.unreclaimed r)
    → has st.gone r ≡ false → count_at t st.at r ≡ 0 → ((n : Name) → IsTrue (has st.moment.unreclaimed n) → st.unseen n ≡ once n r + unseen n) → object_at st.moment.state.graph r ≡ Some ro
    → Cascade l (bare t st.at r ro) (pushed w (place_of st.at r)) (with_name d r) (looking (later st (r ∷ st.gone) (st.work ++ r ∷ []) st.extra) unseen)
dropped l t w d st r ro unseen is in_r not_gone none taken has_ro =
    let m : Moment = st.moment in
    let ground = is.remains.ground in
    let unstuck : has m.stuck r ≡ false = elim (tested (has m.stuck r)) [ inl k ↦ absurd (let e = is.remains.stuck r in_r k in omega (arith, e, none)) | inr k ↦ k ] in
    goes l t w d st r st.extra ro unseen is in_r not_gone unstuck has_ro
    (lowered_still m.last m.unreclaimed m.stuck st.gone (count_at t st.at) (count_at (bare t st.at r ro) st.at) (waits t st) (waits t (later st st.gone st.work st.extra))
    (count_stays t.heap l.blocks m st.at ground t r ro in_r has_ro none) (λ o in_o. refl) is.lowered)
    (λ n in_n other passed. let all = taken n in_n in let apart = once_other n r other in omega (arith, all, apart, passed))

-- nothing goes where what is looked at has a count or is gone
pub looked : (l : Limits) (t : Tables) (w : Roomy Place) (d : NameList) (st : CascadeStage) (r : Name) (unseen : Name → ℕ) → Cascade l t w d st
    → ((n : Name) → IsTrue (has st.moment.unreclaimed n) → st.unseen n ≡ once n r + unseen n) → (count_at t st.at r ≡ 0 → IsTrue (has st.gone r)) → Cascade l t w d (looking st unseen)
looked l t w d st r unseen is taken gone = record {
  remains = remains_still l t d st st.under st.work st.extra st.ungrayed unseen is.remains;
  lowered = is.lowered;
  seen = λ n in_n loose passed none. elim (tested (same_name n r)) [
    | inl k ↦ let e : n ≡ r = same_names n r k in ap (has st.gone) e ∙ gone (ap (count_at t st.at) (sym e) ∙ none)
    | inr k ↦ is.seen n in_n loose (let all = taken n in_n in let apart = once_other n r k in omega (arith, all, apart, passed)) none
  ];
  none_done = is.none_done;
  grays = is.grays;
  work = is.work;
  work_gone = is.work_gone;
  work_room = is.work_room;
}

-- what the dead r referred to is made gray, if a trace runs
pub made_gray : (l : Limits) (t : Tables) (w : Roomy Place) (d : NameList) (st : CascadeStage) (tracing : Bool) (h : Name → ℕ) (r n : Name) → Cascade l t w d st
    → tracing ≡ is_tracing t → Dead st.moment.last st.moment.unreclaimed st.moment.stuck r → Refers st.moment.last.graph r n → IsTrue (has (kept st) n)
    → ((o : Name) → st.ungrayed o ≡ once o n + h o) → Cascade l (record t { grays = grayed_if tracing t.grays (granule_of (st.at n)) }) w d (graying st h)
made_gray l t w d st tracing h r n is told was_dead refers left taken =
    let m : Moment = st.moment in
    let u : Tables = record t { grays = grayed_if tracing t.grays (granule_of (st.at n)) } in
    let in_n = (without_parts m.unreclaimed st.gone n left).0 in
    record {
      remains = record {
        ground = is.remains.ground;
        stuck = is.remains.stuck;
        below = is.remains.below;
        bits = record {
          starts = record { each = is.remains.bits.starts.each; only = is.remains.bits.starts.only };
          marks = is.remains.bits.marks;
          grays = gray_starts tracing t.starts t.grays (granule_of (st.at n)) (is.remains.bits.starts.each n left) is.remains.bits.grays;
          dones = is.remains.bits.dones;
          unlogged = is.remains.bits.unlogged;
        };
        marks = record { marked = is.remains.marks.marked; elsewhere = is.remains.marks.elsewhere };
        unused = is.remains.unused;
        lost_marks = is.remains.lost_marks;
        tracing = is.remains.tracing;
        decrements = record { fits = is.remains.decrements.fits; places = is.remains.decrements.places };
        once = is.remains.once;
        reported = is.remains.reported;
        fewer = is.remains.fewer;
        dead_room = is.remains.dead_room;
      };
      lowered = record { dead = is.lowered.dead; zero = is.lowered.zero; exact = is.lowered.exact };
      seen = is.seen;
      none_done = is.none_done;
      grays = grays_step m.trace tracing st.was.grays t.grays m st.at st.gone st.work st.ungrayed h r n (told ∙ ap (λ k. nat_eq k 1) is.remains.tracing) is.grays was_dead refers left
          (λ x in_x other. granules_differ t.heap l.blocks m st.at is.remains.ground x n in_x in_n other) (λ x went. (dead_parts (is.lowered.dead x went)).member) taken;
      work = is.work;
      work_gone = is.work_gone;
      work_room = is.work_room;
    }

-- ---- every lowering but the last

is_stuck : (l : Limits) (t : Tables) (w : Roomy Place) (d : NameList) (st : CascadeStage) (r : Name) (rest : Name → ℕ) → Cascade l t w d st → TakenFrom st.extra r rest
    → IsTrue (has st.moment.stuck r) → Cascade l t w d (later st st.gone st.work rest)
is_stuck l t w d st r rest is taken stuck_r = record {
  remains = remains_still l t d st st.under st.work rest st.ungrayed st.unseen is.remains;
  lowered = stuck_stays st.moment.last st.moment.unreclaimed st.moment.stuck st.gone (count_at t st.at) (waits t st) (waits t (later st st.gone st.work rest)) r is.lowered stuck_r (taken_out t st r rest taken);
  seen = is.seen;
  none_done = is.none_done;
  grays = is.grays;
  work = is.work;
  work_gone = is.work_gone;
  work_room = is.work_room;
}

-- what an answer tells of the count
pub zero_means : (n : ℕ) → Zero ≡ lowered_of n → n ≡ 1
zero_means n e = elim (eqb_tells n STUCK) [
  | inl q ↦ absurd (let k : lowered_of n ≡ Stuck = ap (λ b. cond b Stuck (cond (nat_eq n 1) Zero (Now (n - 1)))) q.0 in cc)
  | inr q ↦ elim (eqb_tells n 1) [
    | inl u ↦ u.1
    | inr u ↦ absurd (let k : lowered_of n ≡ Now (n - 1) = ap (λ b. cond b Stuck (cond (nat_eq n 1) Zero (Now (n - 1)))) q.0 ∙ ap (λ b. cond b Zero (Now (n - 1))) u.0 in cc)
  ]
]

not_zero_means : (n : ℕ) → (lowered_of n ≡ Zero → ⊥) → n ≢ 1
not_zero_means n h e = h (ap lowered_of e)

to_less : (n : ℕ) → n < STUCK → lowered_count n ≡ n - 1
to_less n h = ap (λ b. cond b STUCK (n - 1)) (unlike_number n STUCK (λ e. omega arith))

pub goes_on : (l : Limits) (t : Tables) (w : Roomy Place) (d : NameList) (st : CascadeStage) (r : Name) (rest : Name → ℕ) → Cascade l t w d st → IsTrue (has st.moment.unreclaimed r)
    → TakenFrom st.extra r rest → (lowered_of (count_at t st.at r) ≡ Zero → ⊥)
    → Cascade l (record t { counts = changed t.counts (granule_of (st.at r)) (lowered_count (count_at t st.at r)) }) w d (later st st.gone st.work rest)
goes_on l t w d st r rest is in_r taken more = elim (tested (has st.moment.stuck r)) [
  | inl k ↦
      let e : lowered_count (count_at t st.at r) ≡ count_at t st.at r = ap lowered_count (is.remains.stuck r in_r k) ∙ sym (is.remains.stuck r in_r k) in
      let same : changed t.counts (granule_of (st.at r)) (lowered_count (count_at t st.at r)) ≡ t.counts = λ i z. rewritten t.counts (granule_of (st.at r)) (lowered_count (count_at t st.at r)) e z i in
      subst (λ z. Cascade l (record t { counts = z }) w d (later st st.gone st.work rest)) (sym same) (is_stuck l t w d st r rest is taken k)
  | inr k ↦
      let c = counted l t w d st r rest is in_r taken in
      let b = is.remains.below r in_r k in
      let n = not_zero_means (count_at t st.at r) more in
      sinks l t w d st r rest (lowered_count (count_at t st.at r)) is in_r taken k (omega (arith, c, n)) (to_less (count_at t st.at r) b)
]

-- a name of which the last count goes isn't stuck
pub last_unstuck : (l : Limits) (t : Tables) (w : Roomy Place) (d : NameList) (st : CascadeStage) (r : Name) → Cascade l t w d st → IsTrue (has st.moment.unreclaimed r) → count_at t st.at r ≡ 1
    → has st.moment.stuck r ≡ false
last_unstuck l t w d st r is in_r one = elim (tested (has st.moment.stuck r)) [ inl k ↦ absurd (let e = is.remains.stuck r in_r k in omega (arith, e, one)) | inr k ↦ k ]

pub same_parts : (l m : Limits) (t u : Tables) (w x : Roomy Place) (d e : NameList) (st : CascadeStage) → m ≡ l → u ≡ t → x ≡ w → e ≡ d → Cascade l t w d st → Cascade m u x e st
same_parts l m t u w x d e st a b c f is =
    subst (λ z. Cascade m u x z st) (sym f) (subst (λ z. Cascade m u z d st) (sym c) (subst (λ z. Cascade m z w d st) (sym b) (subst (λ z. Cascade z t w d st) (sym a) is)))
