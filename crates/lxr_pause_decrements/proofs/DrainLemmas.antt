-- The loops of the decrements: references of one object, the worklist, the list.
use Rattle.std.proofs.Common.{◌≡◌, ◌≢◌, ℕ, zero, suc, ◌+◌, ◌-◌, ◌*◌, ◌<◌, ◌≤◌, refl, sym, ap, subst, ◌∙◌, inl, inr, ◌^◌, arith, Bool, cond, List, [], ◌∷◌, ◌++◌, IsTrue, length, length-append, nat_eq, nat_le, false, true}
use Rattle.std.specs.Prelude.{◌&&◌, Option, Some, None, map, slice_get}
use Rattle.std.proofs.lemmas.Bool.{or_left, or_right}
use Rattle.std.proofs.lemmas.Bool.Decides.{nat_tests}
use Rattle.lxr_layout.specs.declared.TheConstants.{DECREMENT_COUNT, DECREMENT_CURSOR, GRANULES_IN_BLOCK, MOST_GRANULES, REGISTERS, TRACING_WORD, WORDS_IN_BLOCK}
use Rattle.lxr_layout.specs.declared.Name.{Name}
use Rattle.lxr_layout.specs.declared.Place.{Place}
use Rattle.lxr_layout.specs.declared.Shape.{Shape}
use Rattle.lxr_base.specs.Roomy.{pushed}
use Rattle.lxr_graph.specs.Names.{has, same_name}
use Rattle.lxr_graph.specs.State.{shape_of}
use Rattle.lxr_graph.proofs.NameSets.{same_itself, same_names}
use Rattle.lxr_image.specs.declared.space.Space.{Space}
use Rattle.lxr_image.specs.Tables.{Tables, changed}
use Rattle.lxr_image.specs.Spaces.{IsSpace, Turns, tables_of}
use Rattle.lxr_image.specs.Reads.{granule_of, is_tracing}
use Rattle.lxr_image.specs.Image.{place_word}
use Rattle.lxr_image.proofs.SpaceLemmas.{same_limits, space_alike, still_space}
use Rattle.lxr_model.specs.Dead.{Dead}
use Rattle.lxr_model.specs.Moments.{Moment}
use Rattle.lxr_model.specs.References.{occurrences, references_from}
use Rattle.lxr_model.proofs.ReachableLemmas.{dead_parts}
use Rattle.lxr_model_counting.specs.Lowering.{once}
use Rattle.lxr_model_counting.proofs.DistinctLemmas.{tested}
use Rattle.lxr_model_counting.proofs.LoweringLemmas.{lowered_still, once_other, once_same}
use Rattle.lxr_invariant.specs.Counting.{count_at, entries_between, occurrences_from, passing, waiting_at}
use Rattle.lxr_invariant.specs.Standing.{place_of}
use Rattle.lxr_invariant.proofs.NameLemmas.{has_more, occurrences_end, occurrences_step, split_last}
use Rattle.lxr_invariant.proofs.EntryLemmas.{changed_here, changed_other, same_number, unlike_number}
use Rattle.lxr_invariant.proofs.KeepingLemmas.{keeps_same}
use Rattle.lxr_pause_decrements.specs.Cascade.{Cascade, CascadeStage, Drains, FieldWaits, Ground, HasField, IsAt, IsBetween, IsEmptied, IsHeader, IsOpening, Keeps, Leaves, Reaches, Releasing, Waiting, grayed_if, graying, held_by, later, to_do, waits, with_length, with_lists}
use Rattle.lxr_pause_decrements.proofs.GrayLemmas.{grays_pop}
use Rattle.lxr_pause_decrements.proofs.CascadeLemmas.{counted, counted_left, granules_differ, in_heap, listed_else, made_gray, refs_more, remains_still, same_parts}
use Rattle.lxr_pause_decrements.proofs.SpaceLemmas.{leaves_by, turned_leaves}

-- ---- references from a number on

got : (rs : List (Option Name)) (i : ℕ) → i < length rs → (ref : Option Name) × (slice_get rs i ≡ Some ref)
got [] i h = absurd (omega arith)
got (r ∷ rs) zero h = (r, refl)
got (r ∷ rs) (suc i) h = got rs i (omega arith)

-- ---- stages

extra_same : (s : Space) (st : CascadeStage) (f g : Name → ℕ) → ((o : Name) → f o ≡ g o) → Reaches s st f → Reaches s st g
extra_same s st f g e (gone, work, at) = let same : f ≡ g = λ i o. e o i in (gone, work, subst (λ z. IsAt s (later st gone work z)) same at)

pub ungrayed_same : (s : Space) (st : CascadeStage) (rest f g : Name → ℕ) → ((o : Name) → f o ≡ g o) → Reaches s (graying st f) rest → Reaches s (graying st g) rest
ungrayed_same s st rest f g e reaches = let same : f ≡ g = λ i o. e o i in subst (λ z. Reaches s (graying st z) rest) same reaches

-- ---- one object's references

released_dead : (s : Space) (p : ℕ) (st : CascadeStage) (r : Name) (rest : Name → ℕ) → Releasing s p st r rest
    → IsTrue (has st.moment.unreclaimed r) × Dead st.moment.last st.moment.unreclaimed st.moment.stuck r
released_dead s p st r rest re =
    let d = re.stage.cascade.lowered.dead r re.gone in
    ((dead_parts d).member, d)

-- a member stands at its place, which is in the heap
pub member_place : (s : Space) (place : ℕ) (st : CascadeStage) (r : Name) → IsSpace s → Ground (tables_of s).heap s.limits.blocks st.moment st.at → IsTrue (has st.moment.unreclaimed r) → place ≡ st.at r
    → (1 ≤ place) × (place ≤ MOST_GRANULES) × (place ≤ GRANULES_IN_BLOCK * s.limits.blocks)
member_place s place st r space ground in_r e =
    let h = in_heap (tables_of s).heap s.limits.blocks st.moment st.at ground r in_r in
    let b = space.limits.blocks in
    (omega (arith, e, h.0), omega (arith, e, h.1, h.0, b.1), omega (arith, e, h.1, h.0))

pub object_place : (s : Space) (p : Place) (st : CascadeStage) (r : Name) → IsAt s st → IsTrue (has st.moment.unreclaimed r) → p.0 ≡ st.at r
    → (1 ≤ p.0) × (p.0 ≤ MOST_GRANULES) × (p.0 ≤ GRANULES_IN_BLOCK * s.limits.blocks)
object_place s p st r at in_r e = member_place s p.0 st r at.space at.cascade.remains.ground in_r e

-- and its header tells how many references it had at the last pause
pub member_header : (s : Space) (place : ℕ) (st : CascadeStage) (r : Name) → Ground (tables_of s).heap s.limits.blocks st.moment st.at → IsTrue (has st.moment.unreclaimed r) → place ≡ st.at r
    → (shape : Shape) × IsHeader (tables_of s) place r shape × (shape.refs ≡ length (held_by st r))
member_header s place st r ground in_r e =
    let a = ground.stands r in_r in (
      shape_of a.0,
      record {
        name = a.2.name;
        fits = a.2.shape;
        header = ap (λ z. (tables_of s).heap (2 * (z - 1))) e ∙ a.2.header;
      },
      sym a.3,
    )

pub object_header : (s : Space) (p : Place) (st : CascadeStage) (r : Name) → IsAt s st → IsTrue (has st.moment.unreclaimed r) → p.0 ≡ st.at r
    → (shape : Shape) × IsHeader (tables_of s) p.0 r shape × (shape.refs ≡ length (held_by st r))
object_header s p st r at in_r e = member_header s p.0 st r at.cascade.remains.ground in_r e

pub released_place : (s : Space) (p : Place) (st : CascadeStage) (r : Name) (rest : Name → ℕ) → Releasing s p.0 st r rest → (1 ≤ p.0) × (p.0 ≤ MOST_GRANULES) × (p.0 ≤ GRANULES_IN_BLOCK * s.limits.blocks)
released_place s p st r rest re = object_place s p st r re.stage (released_dead s p.0 st r rest re).0 re.stands

pub released_header : (s : Space) (p : Place) (st : CascadeStage) (r : Name) (rest : Name → ℕ) → Releasing s p.0 st r rest
    → (shape : Shape) × IsHeader (tables_of s) p.0 r shape × (shape.refs ≡ length (held_by st r))
released_header s p st r rest re = object_header s p st r re.stage (released_dead s p.0 st r rest re).0 re.stands

-- the words of the references lie in the heap
pub member_field : (s : Space) (place i : ℕ) (st : CascadeStage) (r : Name) → IsSpace s → Ground (tables_of s).heap s.limits.blocks st.moment st.at → HasField place i st r
    → (1 ≤ place) × (place ≤ MOST_GRANULES) × (2 * (place - 1) + 1 + i < WORDS_IN_BLOCK * s.limits.blocks) × (i < 1024)
member_field s place i st r space ground field =
    let a = ground.stands r field.member in
    let f = a.2.fits in
    let q = a.2.placed in
    let k = a.2.shape.0 in
    let e = field.stands in
    let h = field.index in
    let b = space.limits.blocks in
    let n = a.3 in
    (omega (arith, q, e), omega (arith, f, e, b.1), omega (arith, f, q, e, n, h), omega (arith, k, n, h))

pub field_place : (s : Space) (p : Place) (i : ℕ) (st : CascadeStage) (r : Name) → IsAt s st → HasField p.0 i st r
    → (1 ≤ p.0) × (p.0 ≤ MOST_GRANULES) × (2 * (p.0 - 1) + 1 + i < WORDS_IN_BLOCK * s.limits.blocks) × (i < 1024)
field_place s p i st r at field = member_field s p.0 i st r at.space at.cascade.remains.ground field

-- what a reference holds
pub member_reads : (s : Space) (place i word : ℕ) (st : CascadeStage) (r : Name) → Ground (tables_of s).heap s.limits.blocks st.moment st.at → HasField place i st r → word ≡ (tables_of s).heap (2 * (place - 1) + 1 + i)
    → (ref : Option Name) × (slice_get (held_by st r) i ≡ Some ref) × (word ≡ place_word st.at ref)
member_reads s place i word st r ground field is =
    let g = got (held_by st r) i field.index in
    (g.0, g.1, is ∙ ap (λ z. (tables_of s).heap (2 * (z - 1) + 1 + i)) field.stands ∙ ground.fields r i g.0 field.dead g.1)

pub field_read : (s : Space) (p : Place) (i word : ℕ) (st : CascadeStage) (r : Name) → IsAt s st → HasField p.0 i st r → word ≡ (tables_of s).heap (2 * (p.0 - 1) + 1 + i)
    → (ref : Option Name) × (slice_get (held_by st r) i ≡ Some ref) × (word ≡ place_word st.at ref)
field_read s p i word st r at field is = member_reads s p.0 i word st r at.cascade.remains.ground field is

-- the stage once reference i of r is lowered
abbrev pub next_field : CascadeStage → Name → ℕ → CascadeStage
next_field st r i = graying st (λ o. occurrences_from (held_by st r) (i + 1) o)

-- a reference that is nil waits for nothing
nil_step : (s : Space) (p : Place) (i : ℕ) (st : CascadeStage) (r : Name) (rest : Name → ℕ) (ref : Option Name) → slice_get (held_by st r) i ≡ Some ref → FieldWaits s p.0 i st r rest
    → place_word st.at ref ≡ 0 → Reaches s (next_field st r i) (λ o. rest o + occurrences_from (held_by st r) (i + 1) o)
nil_step s p i st r rest None e w zero_word =
    ungrayed_same s st _ st.ungrayed _ (λ o. let k = occurrences_step (held_by st r) i None o e in let x = w.ungrayed o in omega (arith, k, x))
    (extra_same s st st.extra _ (λ o. let k = occurrences_step (held_by st r) i None o e in let x = w.extra o in omega (arith, k, x)) (st.gone, st.work, w.stage))
nil_step s p i st r rest (Some n) e w zero_word =
    let member : IsTrue (has st.moment.unreclaimed n) = w.stage.cascade.remains.ground.closed r n w.field.member (i, e) in
    let h = (in_heap (tables_of s).heap s.limits.blocks st.moment st.at w.stage.cascade.remains.ground n member).0 in
    absurd (omega (arith, h, zero_word))

pub nil_reference : (s : Space) (p : Place) (i word : ℕ) (st : CascadeStage) (r : Name) (rest : Name → ℕ) → FieldWaits s p.0 i st r rest
    → word ≡ 0 → word ≡ (tables_of s).heap (2 * (p.0 - 1) + 1 + i) → Reaches s (next_field st r i) (λ o. rest o + occurrences_from (held_by st r) (i + 1) o)
nil_reference s p i word st r rest w zero_word is =
    let g = field_read s p i word st r w.stage w.field is in
    nil_step s p i st r rest g.0 g.1 w (sym g.2 ∙ zero_word)

-- a reference that isn't nil waits
held_step : (s : Space) (p : Place) (i word : ℕ) (st : CascadeStage) (r : Name) (rest : Name → ℕ) (ref : Option Name) → slice_get (held_by st r) i ≡ Some ref → FieldWaits s p.0 i st r rest
    → word ≢ 0 → word ≡ place_word st.at ref → (n : Name) × Waiting s word st n (λ o. rest o + occurrences_from (held_by st r) (i + 1) o)
held_step s p i word st r rest None e w some_word is = absurd (some_word is)
held_step s p i word st r rest (Some n) e w some_word is = (
  n,
  record {
    stage = w.stage;
    member = w.stage.cascade.remains.ground.closed r n w.field.member (i, e);
    stands = is;
    taken = λ o. let k = occurrences_step (held_by st r) i (Some n) o e in let x = w.extra o in omega (arith, k, x);
  },
)

pub held_reference : (s : Space) (p : Place) (i word : ℕ) (st : CascadeStage) (r : Name) (rest : Name → ℕ) → FieldWaits s p.0 i st r rest
    → word ≢ 0 → word ≡ (tables_of s).heap (2 * (p.0 - 1) + 1 + i) → (n : Name) × Waiting s word st n (λ o. rest o + occurrences_from (held_by st r) (i + 1) o)
held_reference s p i word st r rest w some_word is =
    let g = field_read s p i word st r w.stage w.field is in
    held_step s p i word st r rest g.0 g.1 w some_word g.2

-- ---- what it holds is made gray

-- the tables with one more gray bit, if a trace runs
abbrev pub with_gray : Tables → Bool → ℕ → Tables
with_gray t tracing g = record t { grays = grayed_if tracing t.grays g }

gray_step : (s b : Space) (p : Place) (i word : ℕ) (tracing : Bool) (st : CascadeStage) (r : Name) (rest : Name → ℕ) (ref : Option Name) → slice_get (held_by st r) i ≡ Some ref
    → FieldWaits s p.0 i st r rest → word ≢ 0 → word ≡ place_word st.at ref → tracing ≡ is_tracing (tables_of s) → Turns s b (with_gray (tables_of s) tracing (word - 1))
    → (n : Name) × Waiting b word (next_field st r i) n (λ o. rest o + occurrences_from (held_by st r) (i + 1) o)
gray_step s b p i word tracing st r rest None e w some_word is told turns = absurd (some_word is)
gray_step s b p i word tracing st r rest (Some n) e w some_word is told turns =
    let c = w.stage.cascade in
    let t : Tables = tables_of s in
    let member : IsTrue (has st.moment.unreclaimed n) = c.remains.ground.closed r n w.field.member (i, e) in
    let taken : (o : Name) → st.extra o ≡ once o n + (rest o + occurrences_from (held_by st r) (i + 1) o) =
    λ o. let k = occurrences_step (held_by st r) i (Some n) o e in let x = w.extra o in omega (arith, k, x) in
    let left = (counted_left s.limits t s.work s.report.dead st n c member (counted s.limits t s.work s.report.dead st n _ c member taken)).1 in
    let grays : tables_of b ≡ with_gray t tracing (granule_of (st.at n)) = turns.tables ∙ ap (λ z. with_gray t tracing (z - 1)) is in (
      n,
      record {
        stage = record {
          space = still_space s b _ w.stage.space turns refl;
          cascade = same_parts s.limits b.limits _ (tables_of b) _ b.work _ b.report.dead (next_field st r i) (same_limits s b _ turns) grays (ap (λ z. z.work) turns.rest) (ap (λ z. z.report.dead) turns.rest)
              (made_gray s.limits t s.work s.report.dead st tracing _ r n c told w.field.dead (i, e) left
              (λ o. let k = occurrences_step (held_by st r) i (Some n) o e in let x = w.ungrayed o in omega (arith, k, x)));
        };
        member = member;
        stands = is;
        taken = taken;
      },
    )

pub gray_reference : (s b : Space) (p : Place) (i word : ℕ) (tracing : Bool) (st : CascadeStage) (r : Name) (rest : Name → ℕ) → FieldWaits s p.0 i st r rest
    → word ≢ 0 → word ≡ (tables_of s).heap (2 * (p.0 - 1) + 1 + i) → tracing ≡ is_tracing (tables_of s) → Turns s b (with_gray (tables_of s) tracing (word - 1))
    → (n : Name) × Waiting b word (next_field st r i) n (λ o. rest o + occurrences_from (held_by st r) (i + 1) o)
gray_reference s b p i word tracing st r rest w some_word is told turns =
    let g = field_read s p i word st r w.stage w.field is in
    gray_step s b p i word tracing st r rest g.0 g.1 w some_word g.2 told turns

pub grayed_keeps : (s b : Space) (tracing : Bool) (g : ℕ) → Turns s b (with_gray (tables_of s) tracing g) → Keeps s b
grayed_keeps s b tracing g turns = record {
  leaves = turned_leaves s b _ turns (record { keeps = record { heap = refl; reuse = refl; runs = refl; frees = refl; remembered = refl; cursors = λ k h j. refl }; decs = refl; outs = refl; states = refl });
  cursors = ap (λ t. t.cursors) turns.tables;
}

pub grayed_to_do : (s b : Space) (tracing : Bool) (g : ℕ) → Turns s b (with_gray (tables_of s) tracing g) → to_do b ≡ to_do s
grayed_to_do s b tracing g turns =
    let l = same_limits s b _ turns in
    let n : passing (tables_of b).starts (GRANULES_IN_BLOCK * b.limits.blocks) ≡ passing (tables_of s).starts (GRANULES_IN_BLOCK * s.limits.blocks) =
    ap (λ z. passing (tables_of b).starts (GRANULES_IN_BLOCK * z.blocks)) l ∙ ap (λ z. passing z.starts (GRANULES_IN_BLOCK * s.limits.blocks)) turns.tables in
    let m : length b.work.items ≡ length s.work.items = ap (λ z. length z.work.items) turns.rest in
    omega (arith, n, m)

-- ---- the loop over one object's references

pub begins : (s : Space) (p : ℕ) (st : CascadeStage) (r : Name) (rest : Name → ℕ) → Releasing s p st r rest
    → Reaches s (graying st (λ o. occurrences_from (held_by st r) 0 o)) (λ o. rest o + occurrences_from (held_by st r) 0 o)
begins s p st r rest re = ungrayed_same s st _ st.ungrayed _ re.ungrayed (extra_same s st st.extra _ re.extra (st.gone, st.work, re.stage))

pub field_waits : (s now : Space) (p i : ℕ) (st : CascadeStage) (r : Name) (rest : Name → ℕ) → Releasing s p st r rest → i < length (held_by st r)
    → (reaches : Reaches now (graying st (λ o. occurrences_from (held_by st r) i o)) (λ o. rest o + occurrences_from (held_by st r) i o))
    → FieldWaits now p i (later (graying st (λ o. occurrences_from (held_by st r) i o)) reaches.0 reaches.1 (λ o. rest o + occurrences_from (held_by st r) i o)) r rest
field_waits s now p i st r rest re h (gone, work, at) =
    let d = released_dead s p st r rest re in
    record { stage = at; field = record { member = d.0; dead = d.1; stands = re.stands; index = h }; extra = λ o. refl; ungrayed = λ o. refl }

pub ends : (now : Space) (i : ℕ) (st : CascadeStage) (r : Name) (rest : Name → ℕ) → i ≡ length (held_by st r)
    → Reaches now (graying st (λ o. occurrences_from (held_by st r) i o)) (λ o. rest o + occurrences_from (held_by st r) i o) → Reaches now (graying st (λ o. 0)) rest
ends now i st r rest e reaches =
    let none : (o : Name) → occurrences_from (held_by st r) i o ≡ 0 = λ o. ap (λ z. occurrences_from (held_by st r) z o) e ∙ occurrences_end (held_by st r) o in
    ungrayed_same now st rest (λ o. occurrences_from (held_by st r) i o) (λ o. 0) none
    (extra_same now (graying st (λ o. occurrences_from (held_by st r) i o)) _ rest (λ o. let k = none o in omega (arith, k)) reaches)

-- ---- the worklist

-- the tables of a space of which the worklist changed
pub still_tables : (s now : Space) → now ≡ record s { work = now.work } → tables_of now ≡ tables_of s
still_tables s now rest = ap (λ z. tables_of z) rest

-- the last of what lies above others
split_above : (f : Name → Place) (under : List Place) (ns : List Name) (xs : List Place) (p : Place) → length under ≤ length xs → xs ++ p ∷ [] ≡ under ++ map f ns
    → (ms : List Name) × (r : Name) × (ns ≡ ms ++ r ∷ []) × (xs ≡ under ++ map f ms) × (p ≡ f r)
split_above f [] ns xs p long e = split_last f ns xs p e
split_above f (u ∷ under) ns [] p long e = absurd (omega (arith, long))
split_above f (u ∷ under) ns (x ∷ xs) p long e =
    let head : x ≡ u = cc in
    let tail : xs ++ p ∷ [] ≡ under ++ map f ns = cc in
    let s = split_above f under ns xs p (omega (arith, long)) tail in
    (s.0, s.1, s.2, (let k = s.3 in cc), s.4)

-- above others nothing lies
none_above : (f : Name → Place) (under : List Place) (ns : List Name) (xs : List Place) → length xs ≤ length under → xs ≡ under ++ map f ns → ns ≡ []
none_above f under [] xs short e = refl
none_above f under (n ∷ ns) xs short e = let long = ap length e ∙ length-append under (f n ∷ map f ns) in absurd (omega (arith, long, short))

-- the stage at which r is taken out of the worklist
abbrev pub released : CascadeStage → List Name → Name → CascadeStage
released st work r = graying (later st st.gone work (λ o. st.extra o + occurrences (held_by st r) o)) (λ o. occurrences (held_by st r) o)

-- the last of the worklist is taken out
pub popped : (s now : Space) (p : Place) (st : CascadeStage) → IsAt s st → IsBetween st → length st.under ≤ length now.work.items → s.work ≡ pushed now.work p → now ≡ record s { work = now.work }
    → (ms : List Name) × (r : Name) × Releasing now p.0 (released st ms r) r st.extra
popped s now p st at between above work rest =
    let is = at.cascade in
    let m : Moment = st.moment in
    let items : s.work.items ≡ now.work.items ++ p ∷ [] = ap (λ z. z.items) work in
    let x = split_above (place_of st.at) st.under st.work now.work.items p above (sym items ∙ is.work) in
    let r_there : IsTrue (has st.work x.1) = ap (λ z. has z x.1) x.2 ∙ has_more x.0 x.1 x.1 ∙ or_right (has x.0 x.1) (same_name x.1 x.1) (same_itself x.1) in
    let limits : now.limits ≡ s.limits = ap (λ z. z.limits) rest in
    let dead : now.report.dead ≡ s.report.dead = ap (λ z. z.report.dead) rest in
    let room : now.work.room ≡ s.work.room = sym (ap (λ z. z.room) work) in
    let longer : length s.work.items ≡ length now.work.items + 1 = ap length items ∙ length-append now.work.items (p ∷ []) in
    let st2 : CascadeStage = released st x.0 x.1 in
    let cascade : Cascade s.limits (tables_of s) now.work s.report.dead st2 = record {
      remains = remains_still s.limits (tables_of s) s.report.dead st st.under x.0 (λ o. st.extra o + occurrences (held_by st x.1) o) (λ o. occurrences (held_by st x.1) o) st.unseen is.remains;
      lowered = lowered_still m.last m.unreclaimed m.stuck st.gone (count_at (tables_of s) st.at) (count_at (tables_of s) st.at) (waits (tables_of s) st) (waits (tables_of s) st2) (λ o _. refl)
          (λ o _. let k = refs_more m.last.graph x.0 x.1 o in let q : references_from m.last.graph st.work o ≡ references_from m.last.graph (x.0 ++ x.1 ∷ []) o = ap (λ z. references_from m.last.graph z o) x.2 in omega (arith, k, q)) is.lowered;
      seen = is.seen;
      none_done = is.none_done;
      grays = grays_pop m.trace st.was.grays (tables_of s).grays m st.at st.gone st.work x.0 st.ungrayed x.1 x.2 between is.grays;
      work = x.3;
      work_gone = λ n h. is.work_gone n (ap (λ z. has z n) x.2 ∙ has_more x.0 x.1 n ∙ or_left (has x.0 n) (same_name n x.1) h);
      work_room = let k = is.work_room in omega (arith, k, room, longer);
    } in
    let tables = still_tables s now rest in (
      x.0,
      x.1,
      record {
        stage = record {
          space = space_alike s now limits (ap (λ z. z.size) tables) at.space;
          cascade = same_parts s.limits now.limits (tables_of s) (tables_of now) now.work now.work s.report.dead now.report.dead st2 limits tables refl dead cascade;
        };
        gone = is.work_gone x.1 r_there;
        stands = ap (λ z. z.0) x.4;
        extra = λ o. refl;
        ungrayed = λ o. refl;
      },
    )

-- what is left to do is one less when one is taken out of the worklist
pub popped_to_do : (s now : Space) (p : Place) → s.work ≡ pushed now.work p → now ≡ record s { work = now.work } → to_do now + 1 ≡ to_do s
popped_to_do s now p work rest =
    let items : s.work.items ≡ now.work.items ++ p ∷ [] = ap (λ z. z.items) work in
    let longer : length s.work.items ≡ length now.work.items + 1 = ap length items ∙ length-append now.work.items (p ∷ []) in
    let same : passing (tables_of now).starts (GRANULES_IN_BLOCK * now.limits.blocks) ≡ passing (tables_of s).starts (GRANULES_IN_BLOCK * s.limits.blocks) = ap (λ z. passing (tables_of z).starts (GRANULES_IN_BLOCK * z.limits.blocks)) rest in
    omega (arith, longer, same)

pub popped_leaves : (s now : Space) (p : Place) → s.work ≡ pushed now.work p → now ≡ record s { work = now.work } → Leaves s now
popped_leaves s now p work rest =
    let tables = still_tables s now rest in
    let words : now.words ≡ s.words = ap (λ z. z.words) rest in
    leaves_by s now now.work s.report.dead (rest ∙ ap {A = List ℕ} (λ w. with_lists s w now.work s.report.dead) (sym words)) (sym (ap (λ z. z.room) work)) refl
    (record {
      keeps = keeps_same (tables_of s) (tables_of now) tables;
      decs = ap (λ t. t.decs) tables;
      outs = ap (λ t. t.outs) tables;
      states = ap (λ t. t.states) tables;
    })

pub popped_cursors : (s now : Space) → now ≡ record s { work = now.work } → (tables_of now).cursors ≡ (tables_of s).cursors
popped_cursors s now rest = ap (λ t. t.cursors) (still_tables s now rest)

-- a worklist with nothing above what isn't the decrements' to take
pub emptied : (s : Space) (st : CascadeStage) → length s.work.items ≤ length st.under → Reaches s st st.extra → Drains s st
emptied s st short (gone, work, at) =
    let none : work ≡ [] = none_above (place_of st.at) st.under work s.work.items short at.cascade.work in
    (gone, subst (λ z. IsAt s (later st gone z st.extra)) none at)

-- ---- the list of decrements

-- the last entry of a list, where it isn't drawn, and those before it
pub waiting_more : (t : Tables) (n p : ℕ) → t.cursors DECREMENT_CURSOR ≤ n → t.cursors DECREMENT_COUNT ≡ suc n → waiting_at t p ≡ cond (nat_eq (t.decs n) p) 1 0 + waiting_at (with_length t n) p
waiting_more t n p undrawn some =
    let c : ℕ = t.cursors DECREMENT_CURSOR in
    let here : nat_le c n ≡ true = grind (arith, nat_tests) in
    let head : entries_between t.decs c (suc n) p ≡ cond (nat_eq (t.decs n) p) 1 0 + entries_between t.decs c n p = ap (λ b. cond (b && nat_eq (t.decs n) p) 1 0 + entries_between t.decs c n p) here in
    let drawn : changed t.cursors DECREMENT_COUNT n 5 ≡ c = changed_other t.cursors DECREMENT_COUNT n 5 (λ e. omega arith) in
    let long : changed t.cursors DECREMENT_COUNT n 6 ≡ n = changed_here t.cursors DECREMENT_COUNT n 6 refl in
    let tail : waiting_at (with_length t n) p ≡ entries_between t.decs c n p = ap (λ z. entries_between t.decs z (changed t.cursors DECREMENT_COUNT n 6) p) drawn ∙ ap (λ z. entries_between t.decs c z p) long in
    ap (λ z. entries_between t.decs c z p) some ∙ head ∙ ap (λ z. cond (nat_eq (t.decs n) p) 1 0 + z) (sym tail)

-- an entry that is the place of r is an entry of r, and of no other member
pub entry_once : (heap : ℕ → ℕ) (blocks : ℕ) (m : Moment) (at : Name → ℕ) → Ground heap blocks m at → (p : ℕ) (r : Name) → IsTrue (has m.unreclaimed r) → p ≡ at r
    → (o : Name) → IsTrue (has m.unreclaimed o) → cond (nat_eq p (at o)) 1 0 ≡ once o r
entry_once heap blocks m at ground p r in_r stands o in_o =
    let number : Bool → ℕ = λ b. cond b 1 0 in
    elim (tested (same_name o r)) [
      | inl k ↦
          let e : p ≡ at o = stands ∙ sym (ap at (same_names o r k)) in
          ap number (ap (λ z. nat_eq z (at o)) e ∙ same_number (at o) (at o) refl) ∙ sym (once_same o r k)
      | inr k ↦
          let ne = granules_differ heap blocks m at ground o r in_o in_r k in
          ap number (unlike_number p (at o) (λ q. ne (ap granule_of (sym q ∙ stands)))) ∙ sym (once_other o r k)
    ]

-- the last of the list is taken out
pub last_taken : (s now : Space) (st : CascadeStage) (n : ℕ) → IsAt s st → (tables_of s).cursors DECREMENT_CURSOR ≤ n → (tables_of s).cursors DECREMENT_COUNT ≡ suc n → Turns s now (with_length (tables_of s) n)
    → (r : Name) × Waiting now ((tables_of s).decs n) (later st st.gone st.work (λ o. st.extra o + once o r)) r st.extra
last_taken s now st n at undrawn some turns =
    let t : Tables = tables_of s in
    let is = at.cascade in
    let m : Moment = st.moment in
    let x = is.remains.decrements.places n (omega (arith, some)) in
    let st2 : CascadeStage = later st st.gone st.work (λ o. st.extra o + once o x.0) in
    let t2 : Tables = with_length t n in
    let shorter : t2.cursors DECREMENT_COUNT ≡ n = changed_here t.cursors DECREMENT_COUNT n 6 refl in
    let cascade : Cascade s.limits t2 s.work s.report.dead st2 =
    listed_else s.limits t s.work s.report.dead st t.decs t2.cursors (λ o. st.extra o + once o x.0) is (changed_other t.cursors DECREMENT_COUNT n TRACING_WORD (λ e. omega arith))
    (record {
      fits = let d = is.remains.decrements.fits in omega (arith, d, some, shorter);
      places = λ k h. is.remains.decrements.places k (omega (arith, h, some, shorter));
    })
    (λ o in_o.
    let q = waiting_more t n (st.at o) undrawn some in
    let k = entry_once t.heap s.limits.blocks m st.at is.remains.ground (t.decs n) x.0 x.1 x.2 o in_o in
    omega (arith, q, k)) in (
      x.0,
      record {
        stage = record {
          space = still_space s now t2 at.space turns refl;
          cascade = same_parts s.limits now.limits t2 (tables_of now) s.work now.work s.report.dead now.report.dead st2 (same_limits s now t2 turns) turns.tables (ap (λ z. z.work) turns.rest) (ap (λ z. z.report.dead) turns.rest) cascade;
        };
        member = x.1;
        stands = x.2;
        taken = λ o. omega arith;
      },
    )

-- the last decrement is the place of an object, which is small
pub last_place : (s : Space) (st : CascadeStage) (n : ℕ) → IsAt s st → (tables_of s).cursors DECREMENT_COUNT ≡ suc n → (tables_of s).decs n ≤ MOST_GRANULES
last_place s st n at some =
    let x = at.cascade.remains.decrements.places n (omega (arith, some)) in
    let h = in_heap (tables_of s).heap s.limits.blocks st.moment st.at at.cascade.remains.ground x.0 x.1 in
    let e = x.2 in
    let b = at.space.limits.blocks in
    omega (arith, e, h.0, h.1, b.1)

-- the list has room for its entries
pub list_fits : (s : Space) (st : CascadeStage) → IsAt s st → ((tables_of s).cursors DECREMENT_COUNT ≤ s.limits.threads * (s.limits.log + s.limits.registers)) × ((tables_of s).cursors DECREMENT_COUNT < 2 ^ 32)
list_fits s st at =
    let f = at.cascade.remains.decrements.fits in
    let a = at.space.limits.threads in
    let b = at.space.limits.log in
    let c = at.space.limits.registers in
    (f, small s.limits.threads s.limits.log s.limits.registers ((tables_of s).cursors DECREMENT_COUNT) a.1 b.1 c.1 f)
  where
    small : (x y z n : ℕ) → x ≤ 255 → y ≤ 65536 → z ≤ REGISTERS → n ≤ x * (y + z) → n < 2 ^ 32
    small x y z n hx hy hz h = grind arith

pub taken_leaves : (s now : Space) (n : ℕ) → Turns s now (with_length (tables_of s) n) → Leaves s now
taken_leaves s now n turns = turned_leaves s now (with_length (tables_of s) n) turns
    (record {
      keeps = record { heap = refl; reuse = refl; runs = refl; frees = refl; remembered = refl; cursors = λ k h ne. changed_other (tables_of s).cursors DECREMENT_COUNT n k ne };
      decs = refl;
      outs = refl;
      states = refl;
    })

pub taken_drawn : (s now : Space) (n : ℕ) → Turns s now (with_length (tables_of s) n) → (tables_of now).cursors DECREMENT_CURSOR ≡ (tables_of s).cursors DECREMENT_CURSOR
taken_drawn s now n turns = ap (λ t. t.cursors DECREMENT_CURSOR) turns.tables ∙ changed_other (tables_of s).cursors DECREMENT_COUNT n 5 (λ e. omega arith)

pub taken_length : (s now : Space) (n : ℕ) → Turns s now (with_length (tables_of s) n) → (tables_of now).cursors DECREMENT_COUNT ≡ n
taken_length s now n turns = ap (λ t. t.cursors DECREMENT_COUNT) turns.tables ∙ changed_here (tables_of s).cursors DECREMENT_COUNT n 6 refl

-- a list of which nothing waits
pub none_between : (f : ℕ → ℕ) (from n p : ℕ) → n ≤ from → entries_between f from n p ≡ 0
none_between f from zero p past = refl
none_between f from (suc n) p past =
    let over : nat_le from n ≡ false = grind (arith, nat_tests) in
    let before = none_between f from n p (omega (arith, past)) in
    let head : entries_between f from (suc n) p ≡ 0 + entries_between f from n p = ap (λ b. cond (b && nat_eq (f n) p) 1 0 + entries_between f from n p) over in
    omega (arith, head, before)

-- the tables with an empty list
abbrev pub with_none : Tables → Tables
with_none t = record t { cursors = changed (changed t.cursors DECREMENT_CURSOR 0) DECREMENT_COUNT 0 }

none_drawn : (t : Tables) → (with_none t).cursors DECREMENT_CURSOR ≡ 0
none_drawn t = changed_other (changed t.cursors DECREMENT_CURSOR 0) DECREMENT_COUNT 0 5 (λ e. omega arith) ∙ changed_here t.cursors DECREMENT_CURSOR 0 5 refl

none_traced : (t : Tables) → (with_none t).cursors TRACING_WORD ≡ t.cursors TRACING_WORD
none_traced t = changed_other (changed t.cursors DECREMENT_CURSOR 0) DECREMENT_COUNT 0 8 (λ e. omega arith) ∙ changed_other t.cursors DECREMENT_CURSOR 0 8 (λ e. omega arith)

none_waits : (t : Tables) → (with_none t).cursors DECREMENT_COUNT ≡ 0
none_waits t = changed_here (changed t.cursors DECREMENT_CURSOR 0) DECREMENT_COUNT 0 6 refl

-- it is emptied
pub list_emptied : (s now : Space) (st : CascadeStage) → IsOpening s st → (tables_of s).cursors DECREMENT_COUNT ≤ (tables_of s).cursors DECREMENT_CURSOR → Turns s now (with_none (tables_of s)) → IsEmptied now st
list_emptied s now st is past turns =
    let t : Tables = tables_of s in
    let t2 : Tables = with_none t in
    let m : Moment = st.moment in
    let c = is.stage.cascade in
    let waiting = none_waits t in
    let cascade : Cascade s.limits t2 s.work s.report.dead st =
    listed_else s.limits t s.work s.report.dead st t.decs t2.cursors st.extra c (none_traced t) (record { fits = omega (arith, waiting); places = λ k h. absurd (omega (arith, h, waiting)) })
    (λ o _.
    let before = none_between t.decs (t.cursors DECREMENT_CURSOR) (t.cursors DECREMENT_COUNT) (st.at o) past in
    let after = none_between t.decs (t2.cursors DECREMENT_CURSOR) (t2.cursors DECREMENT_COUNT) (st.at o) (omega (arith, waiting)) in
    omega (arith, before, after)) in
    record {
      opening = record {
        stage = record {
          space = still_space s now t2 is.stage.space turns refl;
          cascade = same_parts s.limits now.limits t2 (tables_of now) s.work now.work s.report.dead now.report.dead st (same_limits s now t2 turns) turns.tables (ap (λ z. z.work) turns.rest) (ap (λ z. z.report.dead) turns.rest) cascade;
        };
        work = is.work;
        under = is.under;
        between = is.between;
        extra = is.extra;
        unseen = is.unseen;
      };
      drawn = ap (λ z. z.cursors DECREMENT_CURSOR) turns.tables ∙ none_drawn t;
      waiting = ap (λ z. z.cursors DECREMENT_COUNT) turns.tables ∙ waiting;
    }

pub emptied_leaves : (s now : Space) → Turns s now (with_none (tables_of s)) → Leaves s now
emptied_leaves s now turns = turned_leaves s now (with_none (tables_of s)) turns
    (record {
      keeps = record {
        heap = refl;
        reuse = refl;
        runs = refl;
        frees = refl;
        remembered = refl;
        cursors = λ k other ne. changed_other (changed (tables_of s).cursors DECREMENT_CURSOR 0) DECREMENT_COUNT 0 k ne ∙ changed_other (tables_of s).cursors DECREMENT_CURSOR 0 k other;
      };
      decs = refl;
      outs = refl;
      states = refl;
    })

-- two writes of cursors are one call
pub both_cursors : (a b c : Space) → Turns a b (record (tables_of a) { cursors = changed (tables_of a).cursors DECREMENT_CURSOR 0 })
    → Turns b c (record (tables_of b) { cursors = changed (tables_of b).cursors DECREMENT_COUNT 0 }) → Turns a c (with_none (tables_of a))
both_cursors a b c first second = record {
  tables = second.tables ∙ ap {A = Tables} (λ t. record t { cursors = changed t.cursors DECREMENT_COUNT 0 }) first.tables;
  rest = second.rest ∙ ap {A = Space} (λ s. record s { words = c.words }) first.rest;
}

-- ---- the list of decrements is done

pub opened : (s : Space) (st : CascadeStage) → IsOpening s st → (gone : List Name) × IsAt s (later st gone [] (λ o. 0))
opened s st is =
    let none : st.extra ≡ λ o. 0 = λ i o. is.extra o i in
    (st.gone, subst (λ z. IsAt s (later st st.gone [] z)) none (subst (λ z. IsAt s (later st st.gone z st.extra)) is.work is.stage))
