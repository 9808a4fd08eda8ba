-- The lemmas on tables, at the spaces that the calls leave.
use Rattle.std.proofs.Common.{◌≡◌, ◌≢◌, ℕ, ◌+◌, ◌*◌, ◌<◌, ◌≤◌, refl, sym, ap, subst, ◌∙◌, arith, true, false, [], ◌∷◌, ◌++◌, length, length-append}
use Rattle.lxr_layout.specs.declared.TheConstants.{GRANULES_IN_BLOCK, MOST_GRANULES}
use Rattle.lxr_layout.specs.declared.Name.{Name}
use Rattle.lxr_layout.specs.declared.Place.{Place}
use Rattle.lxr_layout.specs.declared.Shape.{Shape}
use Rattle.lxr_layout.specs.Places.{IsPlace}
use Rattle.lxr_base.specs.Roomy.{Roomy, pushed}
use Rattle.lxr_graph.specs.Listing.{NameList, with_name}
use Rattle.lxr_graph.specs.State.{shape_of}
use Rattle.lxr_tables.specs.Counts.{lowered_count, lowered_of}
use Rattle.lxr_tables.specs.declared.counts.Lowered.TheVariants.{Zero}
use Rattle.lxr_image.specs.declared.space.Space.{Space}
use Rattle.lxr_image.specs.Tables.{Tables, changed}
use Rattle.lxr_image.specs.Spaces.{IsSpace, Turns, tables_of}
use Rattle.lxr_image.specs.Reads.{granule_of}
use Rattle.lxr_image.proofs.SpaceLemmas.{same_limits, space_alike, still_space}
use Rattle.lxr_invariant.specs.Counting.{count_at, passing}
use Rattle.lxr_invariant.specs.Standing.{place_of}
use Rattle.lxr_invariant.proofs.EntryLemmas.{passing_cleared}
use Rattle.lxr_invariant.proofs.KeepingLemmas.{keeps_both as lists_both, keeps_same}
use Rattle.lxr_pause_decrements.specs.Cascade.{Buries, CascadeStage, IsAt, Keeps, Leaves, LeavesBy, Reaches, Reclaims, TablesStay, Waiting, later, to_do, with_lists}
use Rattle.lxr_blocks.specs.Clearing.{without_object}
use Rattle.lxr_pause_decrements.proofs.CascadeLemmas.{IsPlaced, bare, counted, counted_left, falls, goes_on, in_heap, last_unstuck, placed, same_parts, zero_means}

-- ---- what is left as it was

pub leaves_by : (a e : Space) (w : Roomy Place) (d : NameList) → e ≡ with_lists a e.words w d → w.room ≡ a.work.room → d ≡ record a.report.dead { items = d.items }
    → TablesStay (tables_of a) (tables_of e) → Leaves a e
leaves_by a e w d rest work_room dead tables = record {
  tables = tables;
  rest = rest ∙ ap {A = Space} (λ s. with_lists a e.words s.work s.report.dead) (sym rest);
  work_room = ap (λ s. s.work.room) rest ∙ work_room;
  dead_room = ap (λ s. s.report.dead.room) rest ∙ ap (λ (l : NameList). l.room) dead;
  dead_listed = ap (λ s. s.report.dead.listed) rest ∙ ap (λ (l : NameList). l.listed) dead;
}

pub leaves_none : (a : Space) → Leaves a a
leaves_none a = record { tables = record { keeps = keeps_same (tables_of a) (tables_of a) refl; decs = refl; outs = refl; states = refl }; rest = refl; work_room = refl; dead_room = refl; dead_listed = refl }

pub tables_both : (t u v : Tables) → TablesStay t u → TablesStay u v → TablesStay t v
tables_both t u v x y = record {
  keeps = lists_both t u v x.keeps y.keeps;
  decs = y.decs ∙ x.decs;
  outs = y.outs ∙ x.outs;
  states = y.states ∙ x.states;
}

-- what one step leaves and the next does
pub leaves_then : (Stay : Tables → Tables → Type 0) (a b c : Space) → (Stay (tables_of a) (tables_of b) → Stay (tables_of b) (tables_of c) → Stay (tables_of a) (tables_of c))
    → LeavesBy Stay a b → LeavesBy Stay b c → LeavesBy Stay a c
leaves_then Stay a b c both x y = record {
  tables = both x.tables y.tables;
  rest = y.rest ∙ ap {A = Space} (λ s. with_lists s c.words c.work c.report.dead) x.rest;
  work_room = y.work_room ∙ x.work_room;
  dead_room = y.dead_room ∙ x.dead_room;
  dead_listed = y.dead_listed ∙ x.dead_listed;
}

pub leaves_both : (a b c : Space) → Leaves a b → Leaves b c → Leaves a c
leaves_both a b c x y = leaves_then TablesStay a b c (tables_both (tables_of a) (tables_of b) (tables_of c)) x y

pub keeps_none : (a : Space) → Keeps a a
keeps_none a = record { leaves = leaves_none a; cursors = refl }

pub keeps_both : (a b c : Space) → Keeps a b → Keeps b c → Keeps a c
keeps_both a b c x y = record { leaves = leaves_both a b c x.leaves y.leaves; cursors = y.cursors ∙ x.cursors }

-- a call that writes none of the tables that stay
pub turned_leaves : (a b : Space) (t : Tables) → Turns a b t → TablesStay (tables_of a) t → Leaves a b
turned_leaves a b t turns stay =
    leaves_by a b a.work a.report.dead turns.rest refl refl (subst (TablesStay (tables_of a)) (sym turns.tables) stay)

-- the tables with a count lowered
abbrev pub with_lowered : Tables → ℕ → Tables
with_lowered t g = record t { counts = changed t.counts g (lowered_count (t.counts g)) }

pub lowered_keeps : (a b : Space) (g : ℕ) → Turns a b (with_lowered (tables_of a) g) → Keeps a b
lowered_keeps a b g turns = record {
  leaves = turned_leaves a b _ turns (record { keeps = record { heap = refl; reuse = refl; runs = refl; frees = refl; remembered = refl; cursors = λ k h j. refl }; decs = refl; outs = refl; states = refl });
  cursors = ap (λ t. t.cursors) turns.tables;
}

-- an object's tables go
pub without_leaves : (t : Tables) (p : ℕ) (shape : Shape) → TablesStay t (without_object t p shape)
without_leaves t p shape = record { keeps = record { heap = refl; reuse = refl; runs = refl; frees = refl; remembered = refl; cursors = λ k h j. refl }; decs = refl; outs = refl; states = refl }

pub reclaimed_keeps : (a b : Space) (p : Place) (n : Name) (shape : Shape) → Reclaims a b p n shape → Keeps a b
reclaimed_keeps a b p n shape re = record {
  leaves = leaves_by a b (pushed a.work p) (with_name a.report.dead n) re.rest refl refl (subst (TablesStay (tables_of a)) (sym re.tables) (without_leaves (tables_of a) p.0 shape));
  cursors = ap (λ t. t.cursors) re.tables;
}

pub buried_keeps : (a b : Space) (p : Place) (n : Name) (shape : Shape) → Buries a b p n shape → Keeps a b
buried_keeps a b p n shape buries = record {
  leaves = leaves_by a b a.work (with_name a.report.dead n) buries.rest refl refl (subst (TablesStay (tables_of a)) (sym buries.tables) (without_leaves (tables_of a) p.0 shape));
  cursors = ap (λ t. t.cursors) buries.tables;
}

pub reclaimed_space : (a b : Space) (p : Place) (n : Name) (shape : Shape) → Reclaims a b p n shape → IsSpace a → IsSpace b
reclaimed_space a b p n shape re is = space_alike a b (ap (λ s. s.limits) re.rest) (ap (λ z. z.size) re.tables) is

-- ---- what waits at a place

pub at_place : (s : Space) (p : Place) (st : CascadeStage) (r : Name) (rest : Name → ℕ) → Waiting s p.0 st r rest → (IsPlace p) × (granule_of p.0 < GRANULES_IN_BLOCK * s.limits.blocks) × (p ≡ place_of st.at r)
at_place s p st r rest w =
    let h = in_heap (tables_of s).heap s.limits.blocks st.moment st.at w.stage.cascade.remains.ground r w.member in
    let e = w.stands in
    let b = w.stage.space.limits.blocks in
    (let k : (1 ≤ p.0) × (p.0 ≤ MOST_GRANULES) = (omega (arith, e, h.0), omega (arith, e, h.1, h.0, b.1)) in k, omega (arith, e, h.1), λ i. record { 0 = e i })

-- a place that waits is small
pub waiting_place : (s : Space) (p : ℕ) (st : CascadeStage) (r : Name) (rest : Name → ℕ) → Waiting s p st r rest → p ≤ MOST_GRANULES
waiting_place s p st r rest w =
    let h = in_heap (tables_of s).heap s.limits.blocks st.moment st.at w.stage.cascade.remains.ground r w.member in
    let e = w.stands in
    let b = w.stage.space.limits.blocks in
    omega (arith, e, h.1, h.0, b.1)

-- the shape of r's object
abbrev pub shape_there : (s : Space) (p : Place) (st : CascadeStage) (r : Name) (rest : Name → ℕ) → Waiting s p.0 st r rest → Shape
shape_there s p st r rest w = shape_of (w.stage.cascade.remains.ground.stands r w.member).0

-- r stands at its place, also after a call that leaves the heap
pub placed_there : (s b : Space) (t : Tables) (p : Place) (st : CascadeStage) (r : Name) (rest : Name → ℕ) → (w : Waiting s p.0 st r rest) → Turns s b t → t.heap ≡ (tables_of s).heap
    → IsPlaced (tables_of b) b.limits.blocks r (w.stage.cascade.remains.ground.stands r w.member).0 p.0
placed_there s b t p st r rest w turns same =
    subst (λ l. IsPlaced (tables_of b) l.blocks r (w.stage.cascade.remains.ground.stands r w.member).0 p.0) (sym (same_limits s b t turns))
    (placed (tables_of s).heap s.limits.blocks st.moment st.at w.stage.cascade.remains.ground (tables_of b) (ap (λ z. z.heap) turns.tables ∙ same) r w.member p.0 w.stands)

-- ---- the count is lowered

-- the answer tells that the count was 1
pub was_one : (a : Space) (p : Place) (st : CascadeStage) (r : Name) (rest : Name → ℕ) → Waiting a p.0 st r rest → Zero ≡ lowered_of ((tables_of a).counts (granule_of p.0)) → count_at (tables_of a) st.at r ≡ 1
was_one a p st r rest w zero = ap (λ z. (tables_of a).counts (granule_of z)) (sym w.stands) ∙ zero_means ((tables_of a).counts (granule_of p.0)) zero

-- the last count went
pub fell_at : (a b e : Space) (p : Place) (st : CascadeStage) (r : Name) (rest : Name → ℕ) → (w : Waiting a p.0 st r rest) → Zero ≡ lowered_of ((tables_of a).counts (granule_of p.0))
    → Turns a b (with_lowered (tables_of a) (granule_of p.0)) → Reclaims b e p r (shape_there a p st r rest w) → IsAt e (later st (r ∷ st.gone) (st.work ++ r ∷ []) rest)
fell_at a b e p st r rest w zero turns re =
    let t : Tables = tables_of a in
    let l : e.limits ≡ a.limits = ap (λ s. s.limits) re.rest ∙ same_limits a b _ turns in
    let at = at_place a p st r rest w in
    let one = was_one a p st r rest w zero in
    let gone : lowered_count (t.counts (granule_of p.0)) ≡ 0 = ap lowered_count (zero_means (t.counts (granule_of p.0)) zero) in
    let o = w.stage.cascade.remains.ground.stands r w.member in
    let cut : Tables → Tables = λ z. without_object z p.0 (shape_of o.0) in
    let lower : ℕ → ℕ → Tables = λ n z. without_object (record t { counts = changed t.counts (granule_of n) z }) n (shape_of o.0) in
    let tables : tables_of e ≡ bare t st.at r o.0 = re.tables ∙ ap cut turns.tables ∙ ap (lower p.0) gone ∙ ap (λ z. lower z 0) w.stands in
    let work : e.work ≡ pushed a.work (place_of st.at r) = ap (λ s. s.work) re.rest ∙ ap (λ s. pushed s.work p) turns.rest ∙ ap (pushed a.work) at.2 in
    let dead : e.report.dead ≡ with_name a.report.dead r = ap (λ s. s.report.dead) re.rest ∙ ap (λ s. with_name s.report.dead r) turns.rest in
    record {
      space = reclaimed_space b e p r (shape_there a p st r rest w) re (still_space a b _ w.stage.space turns refl);
      cascade = same_parts a.limits e.limits _ (tables_of e) _ e.work _ e.report.dead (later st (r ∷ st.gone) (st.work ++ r ∷ []) rest) l tables work dead
          (falls a.limits t a.work a.report.dead st r rest o.0 w.stage.cascade w.member w.taken (last_unstuck a.limits t a.work a.report.dead st r w.stage.cascade w.member one) one o.1);
    }

pub fell : (a b e : Space) (p : Place) (st : CascadeStage) (r : Name) (rest : Name → ℕ) → (w : Waiting a p.0 st r rest) → Zero ≡ lowered_of ((tables_of a).counts (granule_of p.0))
    → Turns a b (with_lowered (tables_of a) (granule_of p.0)) → Reclaims b e p r (shape_there a p st r rest w) → Reaches e st rest
fell a b e p st r rest w zero turns re = (r ∷ st.gone, st.work ++ r ∷ [], fell_at a b e p st r rest w zero turns re)

-- some count is left
pub went_on_at : (a b : Space) (p : Place) (st : CascadeStage) (r : Name) (rest : Name → ℕ) → Waiting a p.0 st r rest → (lowered_of ((tables_of a).counts (granule_of p.0)) ≡ Zero → ⊥)
    → Turns a b (with_lowered (tables_of a) (granule_of p.0)) → IsAt b (later st st.gone st.work rest)
went_on_at a b p st r rest w more turns =
    let t : Tables = tables_of a in
    let l = same_limits a b _ turns in
    let tables : tables_of b ≡ with_lowered t (granule_of (st.at r)) = turns.tables ∙ ap (λ z. with_lowered t (granule_of z)) w.stands in
    record {
      space = still_space a b _ w.stage.space turns refl;
      cascade = same_parts a.limits b.limits _ (tables_of b) _ b.work _ b.report.dead (later st st.gone st.work rest) l tables (ap (λ s. s.work) turns.rest) (ap (λ s. s.report.dead) turns.rest)
          (goes_on a.limits t a.work a.report.dead st r rest w.stage.cascade w.member w.taken (λ z. more (ap (λ q. lowered_of (t.counts (granule_of q))) w.stands ∙ z)));
    }

pub went_on : (a b : Space) (p : Place) (st : CascadeStage) (r : Name) (rest : Name → ℕ) → Waiting a p.0 st r rest → (lowered_of ((tables_of a).counts (granule_of p.0)) ≡ Zero → ⊥)
    → Turns a b (with_lowered (tables_of a) (granule_of p.0)) → Reaches b st rest
went_on a b p st r rest w more turns = (st.gone, st.work, went_on_at a b p st r rest w more turns)

-- the start bit that goes is one of those that were counted
fewer_starts : (a : Space) (p : Place) (st : CascadeStage) (r : Name) (rest : Name → ℕ) → Waiting a p.0 st r rest → Zero ≡ lowered_of ((tables_of a).counts (granule_of p.0))
    → passing (changed (tables_of a).starts (granule_of p.0) false) (GRANULES_IN_BLOCK * a.limits.blocks) + 1 ≡ passing (tables_of a).starts (GRANULES_IN_BLOCK * a.limits.blocks)
fewer_starts a p st r rest w zero =
    let t : Tables = tables_of a in
    let one = was_one a p st r rest w zero in
    let left_r = counted_left a.limits t a.work a.report.dead st r w.stage.cascade w.member (omega (arith, one)) in
    let started : t.starts (granule_of p.0) ≡ true = ap (λ z. t.starts (granule_of z)) w.stands ∙ w.stage.cascade.remains.bits.starts.each r left_r.1 in
    passing_cleared t.starts (granule_of p.0) (GRANULES_IN_BLOCK * a.limits.blocks) started (at_place a p st r rest w).1

-- what is left to do is as much as before: one object fewer to reclaim, one more in the worklist
pub fell_to_do : (a b e : Space) (p : Place) (st : CascadeStage) (r : Name) (rest : Name → ℕ) → (w : Waiting a p.0 st r rest) → Zero ≡ lowered_of ((tables_of a).counts (granule_of p.0))
    → Turns a b (with_lowered (tables_of a) (granule_of p.0)) → Reclaims b e p r (shape_there a p st r rest w) → to_do e ≡ to_do a
fell_to_do a b e p st r rest w zero turns re =
    let t : Tables = tables_of a in
    let l : e.limits ≡ a.limits = ap (λ s. s.limits) re.rest ∙ same_limits a b _ turns in
    let fewer = fewer_starts a p st r rest w zero in
    let starts : (tables_of e).starts ≡ changed t.starts (granule_of p.0) false =
    ap (λ z. z.starts) re.tables ∙ ap (λ z. changed z.starts (granule_of p.0) false) turns.tables in
    let n : passing (tables_of e).starts (GRANULES_IN_BLOCK * e.limits.blocks) ≡ passing (changed t.starts (granule_of p.0) false) (GRANULES_IN_BLOCK * a.limits.blocks) =
    ap (λ z. passing (tables_of e).starts (GRANULES_IN_BLOCK * z.blocks)) l ∙ ap (λ z. passing z (GRANULES_IN_BLOCK * a.limits.blocks)) starts in
    let work : e.work.items ≡ a.work.items ++ p ∷ [] = ap (λ s. s.work.items) re.rest ∙ ap (λ s. s.work.items ++ p ∷ []) turns.rest in
    let m : length e.work.items ≡ length a.work.items + 1 = ap length work ∙ length-append a.work.items (p ∷ []) in
    omega (arith, n, m, fewer)

pub went_to_do : (a b : Space) (g : ℕ) → Turns a b (with_lowered (tables_of a) g) → to_do b ≡ to_do a
went_to_do a b g turns =
    let l = same_limits a b _ turns in
    let n : passing (tables_of b).starts (GRANULES_IN_BLOCK * b.limits.blocks) ≡ passing (tables_of a).starts (GRANULES_IN_BLOCK * a.limits.blocks) =
    ap (λ z. passing (tables_of b).starts (GRANULES_IN_BLOCK * z.blocks)) l ∙ ap (λ z. passing z.starts (GRANULES_IN_BLOCK * a.limits.blocks)) turns.tables in
    let m : length b.work.items ≡ length a.work.items = ap (λ s. length s.work.items) turns.rest in
    omega (arith, n, m)

-- before the last count goes there is room
pub room_left : (a : Space) (p : Place) (st : CascadeStage) (r : Name) (rest : Name → ℕ) → Waiting a p.0 st r rest → Zero ≡ lowered_of ((tables_of a).counts (granule_of p.0))
    → (length a.work.items < a.work.room) × (length a.report.dead.items < a.report.dead.room)
room_left a p st r rest w zero =
    let fewer = fewer_starts a p st r rest w zero in
    let x = w.stage.cascade.work_room in
    let y = w.stage.cascade.remains.dead_room in
    (omega (arith, fewer, x), omega (arith, fewer, y))

-- what waits can be lowered
pub can_lower : (a : Space) (p : Place) (st : CascadeStage) (r : Name) (rest : Name → ℕ) → Waiting a p.0 st r rest → (tables_of a).counts (granule_of p.0) ≢ 0
can_lower a p st r rest w none =
    let c = counted a.limits (tables_of a) a.work a.report.dead st r rest w.stage.cascade w.member w.taken in
    let e = ap (λ z. (tables_of a).counts (granule_of z)) w.stands in
    omega (arith, c, e, none)
