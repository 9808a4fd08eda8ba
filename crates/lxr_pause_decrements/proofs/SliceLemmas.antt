-- One unit of a slice: the last decrement is taken out of the list, and what its object refers to is put there where it dies.
use Rattle.std.proofs.Common.{◌≡◌, ◌≢◌, ℕ, zero, suc, ◌+◌, ◌-◌, ◌*◌, ◌/◌, ◌<◌, ◌≤◌, refl, sym, ap, subst, ◌∙◌, inl, inr, arith, Bool, cond, List, [], ◌∷◌, ◌++◌, IsTrue, length, length-append, nat_eq, nat_le, false, true, drop}
use Rattle.std.specs.Prelude.{◌&&◌, ◌↔◌, Option, Some, None, count_by, is_some, slice_get}
use Rattle.std.proofs.lemmas.Bool.{or_left}
use Rattle.std.proofs.lemmas.Bool.Decides.{eqb_tells, leb_tells, nat_tests}
use Rattle.std.proofs.lemmas.List.Sums.{sum_by-cons, sum_by-drop_more}
use Rattle.std.proofs.lemmas.Option.{get_or_from_slice_get, slice_get_within}
use Rattle.lxr_layout.specs.declared.TheConstants.{DECREMENT_COUNT, DECREMENT_CURSOR, GRANULES_IN_BLOCK, MOST_GRANULES, TRACING_WORD, WORDS_IN_BLOCK}
use Rattle.lxr_layout.specs.declared.Name.{Name}
use Rattle.lxr_layout.specs.declared.Place.{Place}
use Rattle.lxr_layout.specs.declared.Shape.{Shape}
use Rattle.lxr_layout.specs.Objects.{word_count}
use Rattle.lxr_base.specs.Roomy.{pushed}
use Rattle.lxr_graph.specs.Names.{has, same_name}
use Rattle.lxr_graph.specs.State.{object_at, refs_of}
use Rattle.lxr_graph.proofs.NameSets.{not_both, same_itself, without_parts}
use Rattle.lxr_tables.specs.Counts.{lowered_of}
use Rattle.lxr_tables.specs.declared.counts.Lowered.TheVariants.{Zero}
use Rattle.lxr_image.specs.declared.space.Space.{Space}
use Rattle.lxr_image.specs.Tables.{Tables, changed}
use Rattle.lxr_image.specs.Spaces.{Turns, tables_of}
use Rattle.lxr_image.specs.Reads.{granule_of}
use Rattle.lxr_image.specs.Image.{place_word}
use Rattle.lxr_image.proofs.SpaceLemmas.{same_limits, space_alike, still_space}
use Rattle.lxr_model.specs.Moments.{Moment}
use Rattle.lxr_model.specs.References.{occurrences}
use Rattle.lxr_model.proofs.ReachableLemmas.{dead_parts}
use Rattle.lxr_model_counting.specs.Lowering.{once}
use Rattle.lxr_model_counting.proofs.DistinctLemmas.{tested}
use Rattle.lxr_model_counting.proofs.LoweringLemmas.{lowered_still}
use Rattle.lxr_invariant.specs.Counting.{count_at, entries_between, occurrences_from, waiting_at}
use Rattle.lxr_invariant.proofs.NameLemmas.{has_more, occurrences_end, occurrences_step}
use Rattle.lxr_invariant.proofs.EntryLemmas.{changed_here, changed_other, equal_numbers, same_number}
use Rattle.lxr_invariant.proofs.KeepingLemmas.{keeps_both as lists_both, keeps_same}
use Rattle.std.proofs.Math.Seq.{drop-length}
use Rattle.lxr_pause_decrements.specs.Cascade.{Buries, Cascade, CascadeStage, Ground, HasField, IsAt, IsHeader, Leaves, Reclaims, Waiting, held_by, later, waits, with_length, with_lists}
use Rattle.lxr_pause_decrements.specs.Steps.{TakesLast}
use Rattle.lxr_pause_decrements.specs.SliceSteps.{Appends, IsHeldBack, IsSliced, LeavesBesideList, QueuesFrom, SlicedBy, StaysBesideList, with_entry}
use Rattle.lxr_pause_decrements.proofs.CascadeLemmas.{counted_left, in_heap, listed_else, refs_more, remains_still, same_parts}
use Rattle.lxr_pause_decrements.proofs.GrayLemmas.{grays_untraced}
use Rattle.lxr_pause_decrements.proofs.SpaceLemmas.{buried_keeps, fell_at, leaves_both, leaves_then, lowered_keeps, placed_there, room_left, shape_there, was_one, went_on_at, with_lowered}
use Rattle.lxr_pause_decrements.proofs.DrainLemmas.{entry_once, member_field, member_header, member_place, member_reads, waiting_more}

-- ---- the last entry

-- the last entry is the place of an object
pub record IsLast (s : Space) (st : CascadeStage) (k : ℕ) (r : Name) : Type 0 where
  pub member : IsTrue (has st.moment.unreclaimed r)
  pub stands : (tables_of s).decs k ≡ st.at r
  pub place : (1 ≤ (tables_of s).decs k) × ((tables_of s).decs k ≤ MOST_GRANULES) × ((tables_of s).decs k ≤ GRANULES_IN_BLOCK * s.limits.blocks)

pub last_entry : (s : Space) (st : CascadeStage) (k : ℕ) → IsAt s st → (tables_of s).cursors DECREMENT_COUNT ≡ k + 1 → (r : Name) × IsLast s st k r
last_entry s st k at long =
    let x = at.cascade.remains.decrements.places k (omega (arith, long)) in
    (x.0, record { member = x.1; stands = x.2; place = member_place s ((tables_of s).decs k) st x.0 at.space at.cascade.remains.ground x.1 x.2 })

-- how many references its header tells
slots_of : (s : Space) (st : CascadeStage) (p slots : ℕ) (r : Name) → Ground (tables_of s).heap s.limits.blocks st.moment st.at → IsTrue (has st.moment.unreclaimed r) → p ≡ st.at r
    → ((n : Name) (shape : Shape) → IsHeader (tables_of s) p n shape → slots ≡ shape.refs) → slots ≡ length (held_by st r)
slots_of s st p slots r ground in_r stands told =
    let h = member_header s p st r ground in_r stands in
    told r h.0 h.1 ∙ h.2

-- where its count is 1 and its references don't fit, it waits for the pause
pub is_held : (s : Space) (st : CascadeStage) (k slots : ℕ) → IsAt s st → (tables_of s).cursors DECREMENT_COUNT ≡ k + 1
    → ((n : Name) (shape : Shape) → IsHeader (tables_of s) ((tables_of s).decs k) n shape → slots ≡ shape.refs)
    → (tables_of s).counts (granule_of ((tables_of s).decs k)) ≡ 1 → s.limits.threads * (s.limits.log + s.limits.registers) < k + slots → IsHeldBack s st
is_held s st k slots at long told one full =
    let x = last_entry s st k at long in
    let e = slots_of s st ((tables_of s).decs k) slots x.0 at.cascade.remains.ground x.1.member x.1.stands told in
    let count : count_at (tables_of s) st.at x.0 ≡ 1 = ap (λ z. (tables_of s).counts (granule_of z)) (sym x.1.stands) ∙ one in (
      k,
      x.0,
      record {
        last = long;
        member = (counted_left s.limits (tables_of s) s.work s.report.dead st x.0 at.cascade x.1.member (omega (arith, count))).1;
        entry = x.1.stands;
        count = count;
        full = omega (arith, full, e);
      },
    )

-- and only there
pub held_means : (s : Space) (st : CascadeStage) (k slots : ℕ) → IsAt s st → (tables_of s).cursors DECREMENT_COUNT ≡ k + 1
    → ((n : Name) (shape : Shape) → IsHeader (tables_of s) ((tables_of s).decs k) n shape → slots ≡ shape.refs) → IsHeldBack s st
    → ((tables_of s).counts (granule_of ((tables_of s).decs k)) ≡ 1) × (s.limits.threads * (s.limits.log + s.limits.registers) < k + slots)
held_means s st k slots at long told (j, n, held) =
    let last = held.last in
    let same : j ≡ k = omega (arith, last, long) in
    let entry : (tables_of s).decs k ≡ st.at n = ap (tables_of s).decs (sym same) ∙ held.entry in
    let e = slots_of s st ((tables_of s).decs k) slots n at.cascade.remains.ground (without_parts st.moment.unreclaimed st.gone n held.member).0 entry told in
    let full = held.full in
    (ap (λ z. (tables_of s).counts (granule_of z)) entry ∙ held.count, omega (arith, full, e, same))

-- ---- one object dies

-- its last count went, and all that it refers to waits
pub buried : (a b e : Space) (p : Place) (st : CascadeStage) (r : Name) (rest : Name → ℕ) → st.moment.trace ≡ None → (w : Waiting a p.0 st r rest) → Zero ≡ lowered_of ((tables_of a).counts (granule_of p.0))
    → Turns a b (with_lowered (tables_of a) (granule_of p.0)) → Buries b e p r (shape_there a p st r rest w)
    → IsAt e (later st (r ∷ st.gone) st.work (λ o. rest o + occurrences (held_by st r) o))
buried a b e p st r rest untraced w last turns buries =
    let x : Space = record e { work = pushed e.work p } in
    let re : Reclaims b x p r (shape_there a p st r rest w) = record { tables = buries.tables; rest = ap {A = Space} (λ s. record s { work = pushed s.work p }) buries.rest } in
    let at = fell_at a b x p st r rest w last turns re in
    let c = at.cascade in
    let m : Moment = st.moment in
    let t : Tables = tables_of e in
    let st1 : CascadeStage = later st (r ∷ st.gone) (st.work ++ r ∷ []) rest in
    let more : Name → ℕ = λ o. rest o + occurrences (held_by st r) o in
    let st2 : CascadeStage = later st (r ∷ st.gone) st.work more in
    let work : e.work ≡ a.work = ap (λ s. s.work) buries.rest ∙ ap (λ s. s.work) turns.rest in
    record {
      space = space_alike x e refl refl at.space;
      cascade = record {
        remains = remains_still e.limits t e.report.dead st1 st.under st.work more st.ungrayed st.unseen c.remains;
        lowered = lowered_still m.last m.unreclaimed m.stuck (r ∷ st.gone) (count_at t st.at) (count_at t st.at) (waits t st1) (waits t st2) (λ o _. refl)
            (λ o _. let k = refs_more m.last.graph st.work r o in omega (arith, k)) c.lowered;
        seen = c.seen;
        none_done = c.none_done;
        grays = grays_untraced m.trace st.was.grays t.grays m st.at (r ∷ st.gone) (st.work ++ r ∷ []) st.work st.ungrayed untraced c.grays;
        work = ap (λ z. z.items) work ∙ w.stage.cascade.work;
        work_gone = λ n h. c.work_gone n (has_more st.work r n ∙ or_left (has st.work n) (same_name n r) h);
        work_room = let k = c.work_room in let l = length-append e.work.items (p ∷ []) in omega (arith, k, l);
      };
    }

-- ---- its references are put into the list

-- entries behind the first so many are nothing to these
first_entries_still : (f : ℕ → ℕ) (n v from k p : ℕ) → k ≤ n → entries_between (changed f n v) from k p ≡ entries_between f from k p
first_entries_still f n v from zero p within = refl
first_entries_still f n v from (suc k) p within =
    let here = changed_other f n v k (λ e. omega (arith, e, within)) in
    ap (λ z. cond (nat_le from k && nat_eq z p) 1 0 + entries_between (changed f n v) from k p) here
    ∙ ap (λ z. cond (nat_le from k && nat_eq (f k) p) 1 0 + z) (first_entries_still f n v from k p (omega (arith, within)))

-- one more entry waits
entry_waits : (t : Tables) (q p : ℕ) → t.cursors DECREMENT_CURSOR ≤ t.cursors DECREMENT_COUNT → waiting_at (with_entry t q) p ≡ cond (nat_eq q p) 1 0 + waiting_at t p
entry_waits t q p undrawn =
    let n : ℕ = t.cursors DECREMENT_COUNT in
    let u : Tables = with_entry t q in
    let drawn : u.cursors DECREMENT_CURSOR ≡ t.cursors DECREMENT_CURSOR = changed_other t.cursors DECREMENT_COUNT (n + 1) DECREMENT_CURSOR (λ e. omega arith) in
    let long : u.cursors DECREMENT_COUNT ≡ n + 1 = changed_here t.cursors DECREMENT_COUNT (n + 1) DECREMENT_COUNT refl in
    let here : u.decs n ≡ q = changed_here t.decs n q n refl in
    let v : Tables = with_length u n in
    let more = waiting_more u n p (omega (arith, drawn, undrawn)) (omega (arith, long)) in
    let drawn_then : v.cursors DECREMENT_CURSOR ≡ t.cursors DECREMENT_CURSOR = changed_other u.cursors DECREMENT_COUNT n DECREMENT_CURSOR (λ e. omega arith) ∙ drawn in
    let long_then : v.cursors DECREMENT_COUNT ≡ n = changed_here u.cursors DECREMENT_COUNT n DECREMENT_COUNT refl in
    let rest : waiting_at v p ≡ waiting_at t p =
    ap (λ z. entries_between u.decs z (v.cursors DECREMENT_COUNT) p) drawn_then ∙ ap (λ z. entries_between u.decs (t.cursors DECREMENT_CURSOR) z p) long_then
    ∙ first_entries_still t.decs n q (t.cursors DECREMENT_CURSOR) n p (omega arith) in
    more ∙ ap (λ z. cond (nat_eq z p) 1 0 + waiting_at v p) here ∙ ap (λ z. cond (nat_eq q p) 1 0 + z) rest

-- an entry that isn't drawn waits
pub entry_waits_there : (f : ℕ → ℕ) (from k n p : ℕ) → from ≤ k → k < n → f k ≡ p → 1 ≤ entries_between f from n p
entry_waits_there f from k zero p low below is = absurd (omega (arith, below))
entry_waits_there f from k (suc n) p low below is = elim (tested (nat_eq k n)) [
  | inl e ↦
      let here : k ≡ n = equal_numbers k n e in
      let undrawn : nat_le from n ≡ true = grind (arith, nat_tests, low, here) in
      let same : nat_eq (f n) p ≡ true = same_number (f n) p (ap f (sym here) ∙ is) in
      let one : ◌≡◌ {A = ℕ} (cond (nat_le from n && nat_eq (f n) p) 1 0) 1 = λ i. cond (undrawn i && same i) 1 0 in
      omega (arith, one)
  | inr e ↦
      let apart : k ≢ n = λ q. not_both (nat_eq k n) (same_number k n q) e in
      let before = entry_waits_there f from k n p low (omega (arith, below, apart)) is in
      omega (arith, before)
]

-- how many of the references are still to be put there
held_step : (rs : List (Option Name)) (i : ℕ) (ref : Option Name) → slice_get rs i ≡ Some ref → count_by is_some (drop i rs) ≡ cond (is_some ref) 1 0 + count_by is_some (drop (i + 1) rs)
held_step rs i ref e =
    sum_by-drop_more (λ r. cond (is_some r) 1 0) rs i ref (slice_get_within rs i ref e)
    ∙ ap (λ z. cond (is_some z) 1 0 + count_by is_some (drop (i + 1) rs)) (get_or_from_slice_get rs i ref ref e)

held_end : (rs : List (Option Name)) → count_by is_some (drop (length rs) rs) ≡ 0
held_end rs = ap (count_by is_some) (drop-length rs)

extra_alike : (s : Space) (st : CascadeStage) (f g : Name → ℕ) → ((o : Name) → f o ≡ g o) → IsAt s (later st st.gone st.work f) → IsAt s (later st st.gone st.work g)
extra_alike s st f g e at = let same : f ≡ g = λ i o. e o i in subst (λ z. IsAt s (later st st.gone st.work z)) same at

-- r's object is dead and has a reference number i
pub queued_field : (s : Space) (place i : ℕ) (st : CascadeStage) (r : Name) (all : ℕ) → QueuesFrom s place i st r all → i < length (held_by st r) → HasField place i st r
queued_field s place i st r all q below =
    let d = q.stage.cascade.lowered.dead r q.gone in
    record { member = (dead_parts d).member; dead = d; stands = q.stands; index = below }

-- it stands at a place of the heap
queued_member : (s : Space) (place : ℕ) (st : CascadeStage) (r : Name) (all : ℕ) → QueuesFrom s place 0 st r all → IsTrue (has st.moment.unreclaimed r)
queued_member s place st r all q = (dead_parts (q.stage.cascade.lowered.dead r q.gone)).member

pub queued_there : (s : Space) (place : ℕ) (st : CascadeStage) (r : Name) (all : ℕ) → QueuesFrom s place 0 st r all
    → (1 ≤ place) × (place ≤ MOST_GRANULES) × (place ≤ GRANULES_IN_BLOCK * s.limits.blocks)
queued_there s place st r all q = member_place s place st r q.stage.space q.stage.cascade.remains.ground (queued_member s place st r all q) q.stands

-- and its header tells how many references it has
pub queued_header : (s : Space) (place slots : ℕ) (st : CascadeStage) (r : Name) (all : ℕ) → QueuesFrom s place 0 st r all
    → ((n : Name) (shape : Shape) → IsHeader (tables_of s) place n shape → slots ≡ shape.refs) → slots ≡ length (held_by st r)
queued_header s place slots st r all q told = slots_of s st place slots r q.stage.cascade.remains.ground (queued_member s place st r all q) q.stands told

-- the word of its reference lies in the heap
pub queued_place : (s : Space) (place i : ℕ) (st : CascadeStage) (r : Name) (all : ℕ) → QueuesFrom s place i st r all → i < length (held_by st r)
    → (1 ≤ place) × (place ≤ MOST_GRANULES) × (2 * (place - 1) + 1 + i < WORDS_IN_BLOCK * s.limits.blocks) × (i < 1024)
queued_place s place i st r all q below = member_field s place i st r q.stage.space q.stage.cascade.remains.ground (queued_field s place i st r all q below)

-- nil is left out
queued_none : (s : Space) (place i : ℕ) (st : CascadeStage) (r : Name) (all : ℕ) → QueuesFrom s place i st r all → slice_get (held_by st r) i ≡ Some None → QueuesFrom s place (i + 1) st r all
queued_none s place i st r all q e =
    let room = q.room in
    let adds = q.total in
    let step = held_step (held_by st r) i None e in
    record {
      stage = extra_alike s st (λ o. occurrences_from (held_by st r) i o) (λ o. occurrences_from (held_by st r) (i + 1) o) (λ o. let k = occurrences_step (held_by st r) i None o e in omega (arith, k)) q.stage;
      gone = q.gone;
      stands = q.stands;
      drawn = q.drawn;
      room = omega (arith, room);
      total = omega (arith, adds, step);
    }

-- what isn't nil is put there
queued_one : (s b : Space) (place i : ℕ) (st : CascadeStage) (r n : Name) (all : ℕ) → QueuesFrom s place i st r all → slice_get (held_by st r) i ≡ Some (Some n) → i < length (held_by st r)
    → Turns s b (with_entry (tables_of s) (st.at n)) → QueuesFrom b place (i + 1) st r all
queued_one s b place i st r n all q e below turns =
    let t : Tables = tables_of s in
    let long : ℕ = t.cursors DECREMENT_COUNT in
    let t2 : Tables = with_entry t (st.at n) in
    let m : Moment = st.moment in
    let is = q.stage.cascade in
    let st1 : CascadeStage = later st st.gone st.work (λ o. occurrences_from (held_by st r) i o) in
    let rest : Name → ℕ = λ o. occurrences_from (held_by st r) (i + 1) o in
    let st2 : CascadeStage = later st st.gone st.work rest in
    let in_r : IsTrue (has m.unreclaimed r) = (queued_field s place i st r all q below).member in
    let in_n : IsTrue (has m.unreclaimed n) = is.remains.ground.closed r n in_r (i, e) in
    let room = q.room in
    let adds = q.total in
    let drawn = q.drawn in
    let step = held_step (held_by st r) i (Some n) e in
    let longer : t2.cursors DECREMENT_COUNT ≡ long + 1 = changed_here t.cursors DECREMENT_COUNT (long + 1) DECREMENT_COUNT refl in
    let long_then : (tables_of b).cursors DECREMENT_COUNT ≡ long + 1 = ap (λ z. z.cursors DECREMENT_COUNT) turns.tables ∙ longer in
    let limits = same_limits s b t2 turns in
    let cascade : Cascade s.limits t2 s.work s.report.dead st2 =
    listed_else s.limits t s.work s.report.dead st1 t2.decs t2.cursors rest is (changed_other t.cursors DECREMENT_COUNT (long + 1) TRACING_WORD (λ k. omega arith))
    (record {
      fits = omega (arith, room, longer, below);
      places = λ k h. elim (tested (nat_eq k long)) [
        | inl j ↦ (n, in_n, changed_here t.decs long (st.at n) k (equal_numbers k long j))
        | inr j ↦
            let x = is.remains.decrements.places k (grind (arith, nat_tests)) in
            (x.0, x.1, changed_other t.decs long (st.at n) k (λ z. not_both (nat_eq k long) (same_number k long z) j) ∙ x.2)
      ];
    })
    (λ o in_o.
    let x = entry_waits t (st.at n) (st.at o) (omega (arith, drawn)) in
    let y = entry_once t.heap s.limits.blocks m st.at is.remains.ground (st.at n) n in_n refl o in_o in
    let z = occurrences_step (held_by st r) i (Some n) o e in
    omega (arith, x, y, z)) in
    record {
      stage = record {
        space = still_space s b t2 q.stage.space turns refl;
        cascade = same_parts s.limits b.limits t2 (tables_of b) s.work b.work s.report.dead b.report.dead st2 limits turns.tables (ap (λ z. z.work) turns.rest) (ap (λ z. z.report.dead) turns.rest) cascade;
      };
      gone = q.gone;
      stands = q.stands;
      drawn = ap (λ z. z.cursors DECREMENT_CURSOR) turns.tables ∙ changed_other t.cursors DECREMENT_COUNT (long + 1) DECREMENT_CURSOR (λ k. omega arith) ∙ drawn;
      room = subst (λ l. (tables_of b).cursors DECREMENT_COUNT + length (held_by st r) ≤ l.threads * (l.log + l.registers) + (i + 1)) (sym limits) (omega (arith, long_then, room));
      total = omega (arith, long_then, adds, step);
    }

-- ---- what a reference holds

pub nil_queued : (s : Space) (place i word : ℕ) (st : CascadeStage) (r : Name) (all : ℕ) → QueuesFrom s place i st r all → i < length (held_by st r)
    → word ≡ 0 → word ≡ (tables_of s).heap (2 * (place - 1) + 1 + i) → QueuesFrom s place (i + 1) st r all
nil_queued s place i word st r all q below nil is =
    let field = queued_field s place i st r all q below in
    let x = member_reads s place i word st r q.stage.cascade.remains.ground field is in
    none (x.0) x.1 (sym x.2 ∙ nil)
  where
    none : (ref : Option Name) → slice_get (held_by st r) i ≡ Some ref → place_word st.at ref ≡ 0 → QueuesFrom s place (i + 1) st r all
    none None e zero_word = queued_none s place i st r all q e
    none (Some n) e zero_word =
        let ground = q.stage.cascade.remains.ground in
        let in_n : IsTrue (has st.moment.unreclaimed n) = ground.closed r n (queued_field s place i st r all q below).member (i, e) in
        let h = (in_heap (tables_of s).heap s.limits.blocks st.moment st.at ground n in_n).0 in
        absurd (omega (arith, h, zero_word))

pub word_queued : (s b : Space) (place i word : ℕ) (st : CascadeStage) (r : Name) (all : ℕ) → QueuesFrom s place i st r all → i < length (held_by st r)
    → word ≢ 0 → word ≡ (tables_of s).heap (2 * (place - 1) + 1 + i) → Turns s b (with_entry (tables_of s) word) → QueuesFrom b place (i + 1) st r all
word_queued s b place i word st r all q below some_word is turns =
    let field = queued_field s place i st r all q below in
    let x = member_reads s place i word st r q.stage.cascade.remains.ground field is in
    held (x.0) x.1 x.2
  where
    held : (ref : Option Name) → slice_get (held_by st r) i ≡ Some ref → word ≡ place_word st.at ref → QueuesFrom b place (i + 1) st r all
    held None e same = absurd (some_word same)
    held (Some n) e same = queued_one s b place i st r n all q e below (subst (λ z. Turns s b (with_entry (tables_of s) z)) same turns)

-- there is room for one more
pub room_for : (s : Space) (place i : ℕ) (st : CascadeStage) (r : Name) (all : ℕ) → QueuesFrom s place i st r all → i < length (held_by st r)
    → (tables_of s).cursors DECREMENT_COUNT < s.limits.threads * (s.limits.log + s.limits.registers)
room_for s place i st r all q below = let room = q.room in omega (arith, room, below)

-- ---- what is left as it was

pub beside_none : (a : Space) → LeavesBesideList a a
beside_none a = record { tables = record { keeps = keeps_same (tables_of a) (tables_of a) refl; outs = refl; states = refl }; rest = refl; work_room = refl; dead_room = refl; dead_listed = refl }

stays_both : (t u v : Tables) → StaysBesideList t u → StaysBesideList u v → StaysBesideList t v
stays_both t u v x y = record { keeps = lists_both t u v x.keeps y.keeps; outs = y.outs ∙ x.outs; states = y.states ∙ x.states }

pub beside_both : (a b c : Space) → LeavesBesideList a b → LeavesBesideList b c → LeavesBesideList a c
beside_both a b c x y = leaves_then StaysBesideList a b c (stays_both (tables_of a) (tables_of b) (tables_of c)) x y

pub beside : (a b : Space) → Leaves a b → LeavesBesideList a b
beside a b leaves = record {
  tables = record { keeps = leaves.tables.keeps; outs = leaves.tables.outs; states = leaves.tables.states };
  rest = leaves.rest;
  work_room = leaves.work_room;
  dead_room = leaves.dead_room;
  dead_listed = leaves.dead_listed;
}

-- an entry is put at the end of the list
pub entry_beside : (a b : Space) (p : ℕ) → Turns a b (with_entry (tables_of a) p) → LeavesBesideList a b
entry_beside a b p turns =
    let t : Tables = tables_of a in
    let stay : StaysBesideList t (with_entry t p) = record {
      keeps = record { heap = refl; reuse = refl; runs = refl; frees = refl; remembered = refl; cursors = λ k h ne. changed_other t.cursors DECREMENT_COUNT (t.cursors DECREMENT_COUNT + 1) k ne };
      outs = refl;
      states = refl;
    } in
    record {
      tables = subst (StaysBesideList t) (sym turns.tables) stay;
      rest = turns.rest ∙ ap {A = Space} (λ s. with_lists a b.words s.work s.report.dead) (sym turns.rest);
      work_room = ap (λ s. s.work.room) turns.rest;
      dead_room = ap (λ s. s.report.dead.room) turns.rest;
      dead_listed = ap (λ s. s.report.dead.listed) turns.rest;
    }

-- ---- the list grows at its end

pub appends_none : (t : Tables) → Appends t t
appends_none t = record { longer = omega arith; entries = λ k h. refl }

pub appends_both : (t u v : Tables) → Appends t u → Appends u v → Appends t v
appends_both t u v x y =
    let first = x.longer in
    let next = y.longer in
    record { longer = omega (arith, first, next); entries = λ k h. y.entries k (omega (arith, h, first)) ∙ x.entries k h }

pub entry_appends : (a b : Space) (p : ℕ) → Turns a b (with_entry (tables_of a) p) → Appends (tables_of a) (tables_of b)
entry_appends a b p turns =
    let t : Tables = tables_of a in
    let long : (tables_of b).cursors DECREMENT_COUNT ≡ t.cursors DECREMENT_COUNT + 1 =
    ap (λ z. z.cursors DECREMENT_COUNT) turns.tables ∙ changed_here t.cursors DECREMENT_COUNT (t.cursors DECREMENT_COUNT + 1) DECREMENT_COUNT refl in
    record {
      longer = omega (arith, long);
      entries = λ k h. ap (λ z. z.decs k) turns.tables ∙ changed_other t.decs (t.cursors DECREMENT_COUNT) p k (λ e. omega (arith, e, h));
    }

-- ---- one unit

abbrev pub emptied_stage : CascadeStage → List Name → CascadeStage
emptied_stage st gone = later st gone [] (λ o. 0)

-- nothing waits but in the list
rested : (s : Space) (st : CascadeStage) (gone work : List Name) (extra more : Name → ℕ) → work ≡ [] → ((o : Name) → extra o ≡ more o) → IsAt s (later st gone work extra) → IsAt s (later st gone [] more)
rested s st gone work extra more none same at =
    let e : extra ≡ more = λ i o. same o i in
    subst (λ z. IsAt s (later st gone [] z)) e (subst (λ z. IsAt s (later st gone z extra)) none at)

sliced_at : (s b : Space) (st : CascadeStage) (gone : List Name) → IsSliced s st → IsAt b (emptied_stage st gone) → (tables_of b).cursors DECREMENT_CURSOR ≡ 0 → IsSliced b (emptied_stage st gone)
sliced_at s b st gone is at drawn = record {
  opening = record { stage = at; work = refl; under = is.opening.under; between = is.opening.between; extra = λ o. refl; unseen = is.opening.unseen };
  drawn = drawn;
  untraced = is.untraced;
}

-- the last entry is taken out of the list
pub record TakesEntry (s a : Space) (place : Place) (st : CascadeStage) (r : Name) : Type 0 where
  pub sliced : IsSliced s st
  pub waiting : Waiting a place.0 (later st st.gone st.work (λ o. st.extra o + once o r)) r st.extra
  pub fewer : (tables_of a).cursors DECREMENT_COUNT + 1 ≡ (tables_of s).cursors DECREMENT_COUNT
  pub entry : place.0 ≡ (tables_of s).decs ((tables_of a).cursors DECREMENT_COUNT)
  pub drawn : (tables_of a).cursors DECREMENT_CURSOR ≡ (tables_of s).cursors DECREMENT_CURSOR
  pub turns : Turns s a (with_length (tables_of s) ((tables_of a).cursors DECREMENT_COUNT))

pub takes_entry : (s a : Space) (place : Place) (st : CascadeStage) → IsSliced s st → TakesLast s a place.0 → (tables_of a).cursors DECREMENT_COUNT + 1 ≡ (tables_of s).cursors DECREMENT_COUNT
    → place.0 ≡ (tables_of s).decs ((tables_of a).cursors DECREMENT_COUNT) → (tables_of a).cursors DECREMENT_CURSOR ≡ (tables_of s).cursors DECREMENT_CURSOR
    → Turns s a (with_length (tables_of s) ((tables_of a).cursors DECREMENT_COUNT)) → (r : Name) × TakesEntry s a place st r
takes_entry s a place st sliced taken fewer entry drawn turns =
    let x = taken st sliced.opening.stage in
    (x.0, record { sliced = sliced; waiting = x.1; fewer = fewer; entry = entry; drawn = drawn; turns = turns })

-- the shape of its object
abbrev pub shape_taken : (s a : Space) (place : Place) (st : CascadeStage) (r : Name) → TakesEntry s a place st r → Shape
shape_taken s a place st r takes = shape_there a place (later st st.gone st.work (λ o. st.extra o + once o r)) r st.extra takes.waiting

-- its object stands at the place, also once its count is lowered
pub entry_header : (s a b : Space) (place : Place) (st : CascadeStage) (r : Name) → (takes : TakesEntry s a place st r) → Turns a b (with_lowered (tables_of a) (granule_of place.0))
    → IsHeader (tables_of b) place.0 r (shape_taken s a place st r takes) × (granule_of place.0 + word_count (shape_taken s a place st r takes) / 2 ≤ GRANULES_IN_BLOCK * b.limits.blocks)
entry_header s a b place st r takes turns =
    let h = placed_there a b (with_lowered (tables_of a) (granule_of place.0)) place (later st st.gone st.work (λ o. st.extra o + once o r)) r st.extra takes.waiting turns refl in
    (h.header, h.fits)

-- where its last count went, there is room to report it
pub entry_room : (s a b : Space) (place : Place) (st : CascadeStage) (r : Name) → TakesEntry s a place st r → Turns a b (with_lowered (tables_of a) (granule_of place.0))
    → Zero ≡ lowered_of ((tables_of a).counts (granule_of place.0)) → length b.report.dead.items < b.report.dead.room
entry_room s a b place st r takes turns last =
    let room = (room_left a place (later st st.gone st.work (λ o. st.extra o + once o r)) r st.extra takes.waiting last).1 in
    subst (λ z. length z.report.dead.items < z.report.dead.room) (sym turns.rest) room

-- where another entry of its object waits, or a reference to it is left, or it is stuck, it stays
pub unit_stays : (s a b : Space) (place : Place) (st : CascadeStage) (r : Name) → TakesEntry s a place st r → (lowered_of ((tables_of a).counts (granule_of place.0)) ≡ Zero → ⊥)
    → Turns a b (with_lowered (tables_of a) (granule_of place.0)) → SlicedBy s b st st.gone 1
unit_stays s a b place st r takes more turns =
    let is = takes.sliced in
    let at = went_on_at a b place (later st st.gone st.work (λ o. st.extra o + once o r)) r st.extra takes.waiting more turns in
    let fewer = takes.fewer in
    let long : (tables_of b).cursors DECREMENT_COUNT ≡ (tables_of a).cursors DECREMENT_COUNT = ap (λ t. t.cursors DECREMENT_COUNT) turns.tables in
    record {
      sliced = sliced_at s b st st.gone is (rested b st st.gone st.work st.extra (λ o. 0) is.opening.work is.opening.extra at) (ap (λ t. t.cursors DECREMENT_CURSOR) turns.tables ∙ takes.drawn ∙ is.drawn);
      waiting = omega (arith, fewer, long);
      more = omega arith;
      entries = λ k h. ap (λ t. t.decs k) turns.tables ∙ ap (λ t. t.decs k) takes.turns.tables;
    }

-- where its last count goes, its references fit into the list, since it isn't held back
entry_fits : (s a : Space) (place : Place) (st : CascadeStage) (r : Name) → TakesEntry s a place st r → ¬ IsHeldBack s st → (tables_of a).counts (granule_of place.0) ≡ 1
    → (tables_of a).cursors DECREMENT_COUNT + length (held_by st r) ≤ s.limits.threads * (s.limits.log + s.limits.registers)
entry_fits s a place st r takes free one =
    let k : ℕ = (tables_of a).cursors DECREMENT_COUNT in
    let most : ℕ = s.limits.threads * (s.limits.log + s.limits.registers) in
    let is = takes.sliced.opening.stage in
    let fewer = takes.fewer in
    let entry : (tables_of s).decs k ≡ st.at r = sym takes.entry ∙ takes.waiting.stands in
    let count : count_at (tables_of s) st.at r ≡ 1 =
    ap (λ z. (tables_of s).counts (granule_of z)) (sym takes.waiting.stands) ∙ sym (ap (λ t. t.counts (granule_of place.0)) takes.turns.tables) ∙ one in
    elim (leb_tells (k + length (held_by st r)) most) [
      | inl h ↦ h.1
      | inr h ↦
          let full = h.1 in
          absurd (free (
            k,
            r,
            record {
              last = omega (arith, fewer);
              member = (counted_left s.limits (tables_of s) s.work s.report.dead st r is.cascade takes.waiting.member (omega (arith, count))).1;
              entry = entry;
              count = count;
              full = omega (arith, full);
            },
          ))
    ]

-- then it is gone, and its references are to be put into the list
pub unit_dies : (s a b e : Space) (place : Place) (st : CascadeStage) (r : Name) → (takes : TakesEntry s a place st r) → ¬ IsHeldBack s st → Zero ≡ lowered_of ((tables_of a).counts (granule_of place.0))
    → Turns a b (with_lowered (tables_of a) (granule_of place.0)) → Buries b e place r (shape_taken s a place st r takes)
    → QueuesFrom e place.0 0 (emptied_stage st (r ∷ st.gone)) r ((tables_of a).cursors DECREMENT_COUNT + count_by is_some (held_by st r))
unit_dies s a b e place st r takes free last turns buries =
    let is = takes.sliced in
    let st1 : CascadeStage = later st st.gone st.work (λ o. st.extra o + once o r) in
    let w = takes.waiting in
    let one = was_one a place st1 r st.extra w last in
    let here : (tables_of a).counts (granule_of place.0) ≡ 1 = ap (λ z. (tables_of a).counts (granule_of z)) w.stands ∙ one in
    let at = buried a b e place st1 r st.extra is.untraced w last turns buries in
    let fits = entry_fits s a place st r takes free here in
    let long : (tables_of e).cursors DECREMENT_COUNT ≡ (tables_of a).cursors DECREMENT_COUNT = ap (λ t. t.cursors DECREMENT_COUNT) buries.tables ∙ ap (λ t. t.cursors DECREMENT_COUNT) turns.tables in
    let limits : e.limits ≡ s.limits = ap (λ z. z.limits) buries.rest ∙ ap (λ z. z.limits) turns.rest ∙ ap (λ z. z.limits) takes.turns.rest in
    record {
      stage = rested e st (r ∷ st.gone) st.work (λ o. st.extra o + occurrences (held_by st r) o) (λ o. occurrences_from (held_by st r) 0 o) is.opening.work (λ o. let k = is.opening.extra o in omega (arith, k)) at;
      gone = or_left (same_name r r) (has st.gone r) (same_itself r);
      stands = w.stands;
      drawn = ap (λ t. t.cursors DECREMENT_CURSOR) buries.tables ∙ ap (λ t. t.cursors DECREMENT_CURSOR) turns.tables ∙ takes.drawn ∙ is.drawn;
      room = subst (λ l. (tables_of e).cursors DECREMENT_COUNT + length (held_by st r) ≤ l.threads * (l.log + l.registers) + 0) (sym limits) (omega (arith, long, fits));
      total = omega (arith, long);
    }

-- and they are there
pub unit_queued : (s a b e f : Space) (place : Place) (st : CascadeStage) (r : Name) → (takes : TakesEntry s a place st r) → Turns a b (with_lowered (tables_of a) (granule_of place.0))
    → Buries b e place r (shape_taken s a place st r takes) → Appends (tables_of e) (tables_of f)
    → QueuesFrom f place.0 (length (held_by st r)) (emptied_stage st (r ∷ st.gone)) r ((tables_of a).cursors DECREMENT_COUNT + count_by is_some (held_by st r)) → SlicedBy s f st (r ∷ st.gone) 1
unit_queued s a b e f place st r takes turns buries appends q =
    let long : (tables_of e).cursors DECREMENT_COUNT ≡ (tables_of a).cursors DECREMENT_COUNT = ap (λ t. t.cursors DECREMENT_COUNT) buries.tables ∙ ap (λ t. t.cursors DECREMENT_COUNT) turns.tables in
    let fewer = takes.fewer in
    let adds = q.total in
    let none = held_end (held_by st r) in
    let more = sum_by-cons (λ n. count_by is_some (refs_of (object_at st.moment.last.graph n))) r st.gone in
    record {
      sliced = sliced_at s f st (r ∷ st.gone) takes.sliced
          (extra_alike f (emptied_stage st (r ∷ st.gone)) (λ o. occurrences_from (held_by st r) (length (held_by st r)) o) (λ o. 0) (occurrences_end (held_by st r)) q.stage) q.drawn;
      waiting = omega (arith, fewer, adds, none, more);
      more = omega (arith, more);
      entries = λ k h.
          appends.entries k (omega (arith, h, fewer, long)) ∙ ap (λ t. t.decs k) buries.tables ∙ ap (λ t. t.decs k) turns.tables ∙ ap (λ t. t.decs k) takes.turns.tables;
    }

-- what a unit leaves
pub unit_stays_beside : (s a b : Space) (place : Place) (st : CascadeStage) (r : Name) → TakesEntry s a place st r → Leaves s a → Turns a b (with_lowered (tables_of a) (granule_of place.0)) → LeavesBesideList s b
unit_stays_beside s a b place st r takes leaves turns = beside s b (leaves_both s a b leaves (lowered_keeps a b (granule_of place.0) turns).leaves)

pub unit_dies_beside : (s a b e f : Space) (place : Place) (st : CascadeStage) (r : Name) → (takes : TakesEntry s a place st r) → Leaves s a → Turns a b (with_lowered (tables_of a) (granule_of place.0))
    → Buries b e place r (shape_taken s a place st r takes) → LeavesBesideList e f → LeavesBesideList s f
unit_dies_beside s a b e f place st r takes leaves turns buries queued =
    beside_both s e f
    (beside_both s b e (unit_stays_beside s a b place st r takes leaves turns) (beside b e (buried_keeps b e place r (shape_taken s a place st r takes) buries).leaves)) queued

-- ---- one unit after another

pub sliced_first : (s : Space) (st : CascadeStage) → IsSliced s st → SlicedBy s s st st.gone 0
sliced_first s st is = record {
  sliced = sliced_at s s st st.gone is (rested s st st.gone st.work st.extra (λ o. 0) is.opening.work is.opening.extra is.opening.stage) is.drawn;
  waiting = omega arith;
  more = omega arith;
  entries = λ k h. refl;
}

pub sliced_next : (a b c : Space) (st : CascadeStage) (gone more : List Name) (lowered : ℕ) → SlicedBy a b st gone lowered → SlicedBy b c (emptied_stage st gone) more 1 → SlicedBy a c st more (lowered + 1)
sliced_next a b c st gone more lowered first next =
    let x = first.waiting in
    let y = next.waiting in
    let held = first.more in
    let further = next.more in
    record {
      sliced = next.sliced;
      waiting = omega (arith, x, y);
      more = omega (arith, held, further);
      entries = λ k h. next.entries k (omega (arith, h, x, held)) ∙ first.entries k (omega (arith, h));
    }

-- what an answer tells of the list
pub none_waits : (n : ℕ) (waiting : Bool) → IsTrue waiting ↔ (n ≢ 0) → waiting ≡ false → n ≡ 0
none_waits n waiting tells none = elim (eqb_tells n 0) [ inl q ↦ q.1 | inr q ↦ not_both waiting (tells.1 q.1) none ]
