-- An object that was copied takes its bits and its count over: it is moved.
use Rattle.std.proofs.Common.{◌≡◌, ◌≢◌, ℕ, ◌+◌, ◌/◌, ◌%◌, ◌^◌, ◌<◌, ◌≤◌, refl, sym, ap, subst, ◌∙◌, inl, inr, ◌⊎◌, arith, false, cond, length}
use Rattle.std.specs.Prelude.{◌↔◌, ◌&&◌, not, IsTrue}
use Rattle.lxr_layout.specs.declared.Name.{Name}
use Rattle.lxr_layout.specs.declared.Place.{Place}
use Rattle.lxr_layout.specs.declared.Shape.{Shape}
use Rattle.lxr_layout.specs.declared.TheConstants.{GRANULES_IN_LINE}
use Rattle.lxr_layout.specs.Objects.{word_count}
use Rattle.lxr_layout.specs.Places.{first_word}
use Rattle.lxr_image.proofs.SpaceLemmas.{space_alike}
use Rattle.lxr_graph.specs.Names.{same_name}
use Rattle.lxr_graph.specs.State.{shape_of}
use Rattle.lxr_image.specs.declared.space.Space.{Space}
use Rattle.lxr_image.specs.Tables.{Tables, changed}
use Rattle.lxr_image.specs.Spaces.{Turns, tables_of}
use Rattle.lxr_image.specs.Reads.{granule_of}
use Rattle.lxr_image.specs.ImageLaws.{placed}
use Rattle.lxr_image.proofs.NewLemmas.{placed_here, placed_other}
use Rattle.lxr_blocks.specs.Kept.{IsAmong, IsKeptGranule, KeepsGranules}
use Rattle.lxr_blocks.specs.Placing.{granule_count}
use Rattle.lxr_blocks.specs.States.{KeepsState}
use Rattle.lxr_model.specs.Moments.{Moment}
use Rattle.lxr_blocks.specs.Lines.{line_behind, next_line}
use Rattle.lxr_invariant.proofs.EntryLemmas.{changed_cases}
use Rattle.lxr_pause_promote.specs.Copying.{Evacuates, StandsAt}
use Rattle.lxr_pause_promote.proofs.CopyLemmas.{StandsBeside, evacuated_beside}
use Rattle.lxr_pause_promote.proofs.FewerLemmas.{HasFewerLines, evacuated_fewer, fewer_both, granules_kept, marked_grows, turns_fewer, was_open_run}
use Rattle.lxr_pause_promote.proofs.PlacedLemmas.{KeepsLinesAndBlocks, keeps_fewer, still_rest}
use Rattle.lxr_pause_promote.proofs.TableLemmas.{stands_after}
use Rattle.lxr_evac_moving.specs.Stages.{EvacuationStage, IsMovingAway, IsTaken, granules, kept_names}
use Rattle.lxr_evac_moving.specs.Steps.{ComesBehind, IsNextChosen, with_taken_over}
use Rattle.lxr_evac_moving.proofs.BitsLemmas.{bits_then}
use Rattle.lxr_evac_moving.proofs.FullLemmas.{copied_full, still_full}
use Rattle.lxr_evac_moving.proofs.LookedLemmas.{kept_one_more, kept_same, looked_to, moved_one_more, moved_same}
use Rattle.lxr_evac_moving.proofs.MovedLemmas.{IsMovedTo, moving_then}
use Rattle.lxr_evac_moving.proofs.StepLemmas.{next_kept, next_object, tells_stood}
use Rattle.lxr_blocks.proofs.FreeLemmas.{free_joined, free_same}

-- ---- a copy takes bits and a count over

-- a call that leaves heap, lines and blocks leaves where a copy stands
turned_beside : (before copied after : Space) (t rest : Tables) (taken : ℕ → Type 0) (p q : Place) (n : Name) (shape : Shape) → StandsBeside before copied (tables_of before) taken p q n shape
    → Turns copied after t → t.heap ≡ (tables_of copied).heap → t.outs ≡ (tables_of copied).outs → t.reuse ≡ (tables_of copied).reuse → t.states ≡ (tables_of copied).states → t.size ≡ (tables_of copied).size
    → HasFewerLines copied after → (tables_of after ≡ record rest { heap = (tables_of after).heap; outs = (tables_of after).outs; reuse = (tables_of after).reuse; states = (tables_of after).states })
    → StandsBeside before after rest taken p q n shape
turned_beside before copied after t rest taken p q n shape beside turns heap outs reuse states size fewer tables =
    let b : Tables = tables_of before in
    let limits : after.limits ≡ copied.limits = ap (λ s. s.limits) turns.rest in
    let heap_now : (tables_of after).heap ≡ (tables_of copied).heap = ap (λ x. x.heap) turns.tables ∙ heap in
    let outs_now : (tables_of after).outs ≡ (tables_of copied).outs = ap (λ x. x.outs) turns.tables ∙ outs in
    let reuse_now : (tables_of after).reuse ≡ (tables_of copied).reuse = ap (λ x. x.reuse) turns.tables ∙ reuse in
    let states_now : (tables_of after).states ≡ (tables_of copied).states = ap (λ x. x.states) turns.tables ∙ states in
    let next : after.rest_next ≡ copied.rest_next = ap (λ s. s.rest_next) turns.rest in
    let end : after.rest_end ≡ copied.rest_end = ap (λ s. s.rest_end) turns.rest in
    let same : KeepsLinesAndBlocks copied after = record { blocks = ap (λ l. l.blocks) limits; rest_next = next; rest_end = end; outs = outs_now; states = states_now } in
    record {
      stands = stands_after copied after q n shape (space_alike copied after limits (ap (λ x. x.size) turns.tables ∙ size) beside.stands.space) limits heap_now beside.stands;
      apart = beside.apart;
      elsewhere = beside.elsewhere;
      onto = beside.onto;
      unchosen = beside.unchosen;
      words = λ i some within. ap (λ f. f (first_word q.0 + i)) heap_now ∙ beside.words i some within;
      moved = ap (λ f. f (first_word p.0)) heap_now ∙ beside.moved;
      others = λ w other out. ap (λ f. f w) heap_now ∙ beside.others w other out;
      outs = λ l. subst (λ f. IsTrue (f l) ↔ (IsTrue (b.outs l) ⊎ ((k : ℕ) × IsAmong (granule_of q.0) (granule_count shape) k × (k / GRANULES_IN_LINE ≡ l)))) (sym outs_now) (beside.outs l);
      reuse = λ l. ap (λ f. f l) reuse_now ∙ beside.reuse l ∙ ap (λ f. cond (f l && not (b.outs l)) ((b.reuse l + 1) % 2 ^ 32) (b.reuse l)) (sym outs_now);
      states = λ k. subst (λ f. KeepsState b (record (tables_of copied) { states = f }) k) (sym states_now) (beside.states k);
      free = free_joined b (tables_of copied) (tables_of after) beside.free (free_same (tables_of copied) (tables_of after) states_now outs_now);
      tables = tables;
      space = turns.rest
          ∙ ap (λ (x : Space). record x { words = after.words }) beside.space
          ∙ ap (λ (x : Space). record before { words = after.words; rest_next = x.rest_next; rest_end = x.rest_end }) (sym turns.rest);
      is_rest = still_rest copied after same beside.is_rest;
      kept = granules_kept copied after (λ k. taken k ⊎ IsAmong (granule_of q.0) (granule_count shape) k) fewer.grows next end beside.kept;
    }

-- a count that is taken over isn't 0, so lines only become fewer
pub taken_fewer : (a b : Space) (p q : ℕ) (shape : Shape) → (tables_of a).counts (granule_of p) ≢ 0 → Turns a b (with_taken_over (tables_of a) p q shape) → HasFewerLines a b
taken_fewer a b p q shape positive turns = turns_fewer a b (with_taken_over (tables_of a) p q shape) turns refl refl (λ k some.
    marked_grows (changed (tables_of a).counts (granule_of q) ((tables_of a).counts (granule_of p))) (next_line (granule_of q)) (line_behind (granule_of q) (word_count shape / 2)) k
    (λ none. elim (changed_cases (tables_of a).counts (granule_of q) ((tables_of a).counts (granule_of p)) k) [ inl here ↦ positive (sym here.1 ∙ none) | inr other ↦ some (sym other.1 ∙ none) ]))

-- the tables then, by those before the copy
taken_tables : (a b c : Space) (p q : ℕ) (shape : Shape) → tables_of b ≡ record (tables_of a) { heap = (tables_of b).heap; outs = (tables_of b).outs; reuse = (tables_of b).reuse; states = (tables_of b).states }
    → Turns b c (with_taken_over (tables_of b) p q shape)
    → tables_of c ≡ record (with_taken_over (tables_of a) p q shape) { heap = (tables_of c).heap; outs = (tables_of c).outs; reuse = (tables_of c).reuse; states = (tables_of c).states }
taken_tables a b c p q shape copied turns =
    turns.tables
    ∙ ap (λ (x : Tables). with_taken_over x p q shape) copied
    ∙ ap (λ (x : Tables). record (with_taken_over (tables_of a) p q shape) { heap = x.heap; outs = x.outs; reuse = x.reuse; states = x.states }) (sym turns.tables)

module _ (a : Space) (m : Moment) (st : EvacuationStage) (is : IsMovingAway a m st) (k : ℕ) (next : IsNextChosen (tables_of a) st.looked (granules a) k) where
  abbrev o : Name
  o = (next_object a m st is k next).name

  abbrev shape : Shape
  shape = shape_of (next_object a m st is k next).object

  -- ---- it is copied

  module _ (b : Space) (q : Place) (evacuates : Evacuates a b (record { 0 = k + 1 }) q o shape) where
    pub copied_fewer : HasFewerLines a b
    copied_fewer =
        let kept = next_kept a m st is k next in
        evacuated_fewer a b (record { 0 = k + 1 }) q o shape kept.rest kept.stands.whole.shape evacuates

    copied_beside : (taken : ℕ → Type 0) → KeepsGranules a taken → StandsBeside a b (tables_of a) taken (record { 0 = k + 1 }) q o shape
    copied_beside taken kept = evacuated_beside a b taken (record { 0 = k + 1 }) q o shape (next_kept a m st is k next) kept evacuates

    -- it stands at its new place
    pub copied_stands : StandsAt b q o shape
    copied_stands = (copied_beside (IsTaken m st) is.evacuating.lines.kept).stands

    -- its count isn't 0
    pub copied_count : (tables_of b).counts (granule_of (k + 1)) ≢ 0
    copied_count none =
        let x = next_object a m st is k next in
        let same : (tables_of b).counts ≡ (tables_of a).counts = ap (λ t. t.counts) (copied_beside (IsTaken m st) is.evacuating.lines.kept).tables in
        is.evacuating.can.undecremented.positive x.name x.member (
        sym (is.evacuating.bits.counts x.name (st.now x.name) x.member (inl refl))
        ∙ ap (λ p. (tables_of a).counts (granule_of p)) (x.still ∙ x.place)
        ∙ sym (ap (λ f. f (granule_of (k + 1))) same) ∙ none)

    module _ (c : Space) (turns : Turns b c (with_taken_over (tables_of b) (k + 1) q.0 shape)) where
      then_fewer : HasFewerLines b c
      then_fewer = taken_fewer b c (k + 1) q.0 shape copied_count turns

      then_beside : (taken : ℕ → Type 0) → KeepsGranules a taken → StandsBeside a c (with_taken_over (tables_of a) (k + 1) q.0 shape) taken (record { 0 = k + 1 }) q o shape
      then_beside taken kept =
          let beside = copied_beside taken kept in
          turned_beside a b c (with_taken_over (tables_of b) (k + 1) q.0 shape) (with_taken_over (tables_of a) (k + 1) q.0 shape) taken (record { 0 = k + 1 }) q o shape beside turns refl refl refl refl refl then_fewer
          (taken_tables a b c (k + 1) q.0 shape beside.tables turns)

      pub is_moved : IsMovedTo a c m st o q (next_object a m st is k next).object
      is_moved =
          let x = next_object a m st is k next in
          record {
            moving = is;
            member = x.member;
            is = x.is;
            still = x.still;
            unlooked = let place = x.place in let reached = next.reached in omega (arith, place, reached);
            chosen = x.chosen;
            beside = subst (λ p. StandsBeside a c (with_taken_over (tables_of a) p q.0 shape) (IsTaken m st) (record { 0 = p }) q o shape) (sym x.place) (then_beside (IsTaken m st) is.evacuating.lines.kept);
            grows = (fewer_both a b c copied_fewer then_fewer).grows;
            full = λ w full. still_full b c w (ap (λ s. s.rest_next) turns.rest) (ap (λ s. s.rest_end) turns.rest) (λ r run. was_open_run b c r then_fewer run)
                (copied_full a b (record { 0 = k + 1 }) q o shape w is.evacuating.lines.rest (next_kept a m st is k next).stands.whole.shape evacuates full);
          }

      -- the stage then
      abbrev pub moved_stage : EvacuationStage
      moved_stage = looked_to st (k + 1) (placed st.now o q.0)

      same_granule : granule_of (st.at o) ≡ k
      same_granule = let place = (next_object a m st is k next).place in omega (arith, place)

      others_same : (n : Name) → same_name n o ≡ false → placed st.now o q.0 n ≡ st.now n
      others_same n differ = placed_other st.now o q.0 n differ

      has_moved : placed st.now o q.0 o ≢ st.at o
      has_moved e = is_moved.beside.elsewhere (granule_of (st.at o)) (omega arith, few) (subst (λ p. granule_of p ≤ granule_of (st.at o)) there (omega arith), subst (λ p. granule_of (st.at o) < granule_of p + granule_count shape) there few)
        where
          there : st.at o ≡ q.0
          there = sym e ∙ placed_here st.now o q.0

          few : granule_of (st.at o) < granule_of (st.at o) + granule_count shape
          few = omega arith

      kept_still : kept_names m moved_stage ≡ kept_names m st
      kept_still =
          let x = next_object a m st is k next in
          kept_same (tables_of a) m st (tells_stood a m st is) k o (placed st.now o q.0) next.reached next.passed next.is x.member same_granule others_same has_moved x.still

      -- it has moved, and no more were kept
      pub one_moved : ComesBehind m st moved_stage (k + 1) 1 0
      one_moved =
          let x = next_object a m st is k next in
          record {
            found = refl;
            at = refl;
            looked_at = refl;
            moved_more = moved_one_more (tables_of a) m st (tells_stood a m st is) k o (placed st.now o q.0) next.reached next.passed next.is x.member same_granule others_same has_moved x.still;
            kept_more = let same = ap length kept_still in omega (arith, same);
          }

      pub moved_then : IsMovingAway c m moved_stage
      moved_then = subst (λ g. IsMovingAway c m (looked_to st (g + 1) (placed st.now o q.0))) same_granule
          (moving_then a c m st o q (next_object a m st is k next).object is_moved (bits_then a c m st o q (next_object a m st is k next).object is_moved)
          (subst (λ g. kept_names m (looked_to st (g + 1) (placed st.now o q.0)) ≡ kept_names m st) (sym same_granule) kept_still)
          (keeps_fewer c (λ g. IsKeptGranule st.found g ⊎ IsAmong (granule_of q.0) (granule_count shape) g) (IsKeptGranule st.found) (λ g h. inl h) (then_beside (IsKeptGranule st.found) is.kept_before).kept))

  -- ---- it is kept

  -- one more was kept, and no more have moved
  pub one_kept : ComesBehind m st (looked_to st (k + 1) st.now) (k + 1) 0 1
  one_kept =
      let x = next_object a m st is k next in
      let there : granule_of (st.at x.name) ≡ k = let place = x.place in omega (arith, place) in
      record {
        found = refl;
        at = refl;
        looked_at = refl;
        moved_more = let same = ap length (moved_same (tables_of a) m st (tells_stood a m st is) k x.name st.now next.reached next.passed next.is x.member there (λ n differ. refl) x.still x.still) in omega (arith, same);
        kept_more = kept_one_more (tables_of a) m st (tells_stood a m st is) k x.name st.now next.reached next.passed next.is x.member there (λ n differ. refl) x.still x.still;
      }
