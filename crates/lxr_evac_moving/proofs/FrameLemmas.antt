-- What a step leaves of a stage that moves nothing: it may write heap words and registers, and clear bits and counts of places.
use Rattle.std.proofs.Common.{◌≡◌, ◌≢◌, ℕ, ◌+◌, ◌*◌, ◌%◌, ◌^◌, sym, ap, subst, ◌∙◌, Bool, length}
use Rattle.std.specs.Prelude.{◌↔◌, ◌⊎◌, ◌&&◌, not, if◌then◌else◌, IsTrue}
use Rattle.lxr_layout.specs.declared.runs.Run.{Run}
use Rattle.lxr_graph.specs.State.{shape_of}
use Rattle.lxr_image.specs.declared.space.Space.{Space}
use Rattle.lxr_image.specs.Tables.{Tables}
use Rattle.lxr_image.specs.Spaces.{IsSpace, Turns, tables_of}
use Rattle.lxr_blocks.specs.Kept.{KeepsGranules}
use Rattle.lxr_blocks.specs.States.{IsOpenRun}
use Rattle.lxr_model.specs.Moments.{Moment}
use Rattle.lxr_invariant.specs.Copied.{HasCopy}
use Rattle.lxr_invariant.proofs.FrameLemmas.{rest_still}
use Rattle.lxr_pause_promote.proofs.FewerLemmas.{Grows, granules_kept, open_before, states_joined, states_same}
use Rattle.lxr_evac_moving.proofs.FullLemmas.{still_full}
use Rattle.lxr_layout.specs.Places.{first_word}
use Rattle.lxr_image.specs.Reads.{granule_of}
use Rattle.lxr_pause_promote.specs.Either.{HoldEither, HoldsEither}
use Rattle.lxr_evac_moving.specs.Stages.{AreMovedApart, EvacuationStage, HasBitsAndCounts, HasHeap, HasLines, IsEvacuating, IsTaken, moved_names, with_changed_tables, with_changes}
use Rattle.lxr_evac_moving.specs.Steps.{cleared_to}
use Rattle.lxr_blocks.proofs.FreeLemmas.{free_joined, free_same}

-- ---- which tables and which parts of a space have changed

pub tables_follow : (found a b : Tables) → a ≡ with_changed_tables found a → b ≡ with_changed_tables a b → b ≡ with_changed_tables found b
tables_follow found a b before after = after ∙ ap (λ x. with_changed_tables x b) before

pub changes_follow : (found a b : Space) → a ≡ with_changes found a → b ≡ with_changes a b → b ≡ with_changes found b
changes_follow found a b before after = after ∙ ap (λ x. with_changes x b) before

-- a call on words alone
pub turned_tables : (a b : Space) (t : Tables) → Turns a b t → t ≡ with_changed_tables (tables_of a) t → tables_of b ≡ with_changed_tables (tables_of a) (tables_of b)
turned_tables a b t turns same = subst (λ x. x ≡ with_changed_tables (tables_of a) x) (sym turns.tables) same

pub turned_changes : (a b : Space) (t : Tables) → Turns a b t → b ≡ with_changes a b
turned_changes a b t turns = turns.rest ∙ ap (λ x. with_changes a x) (sym turns.rest)

-- ---- lines and blocks

-- no line has become out or ceased to be so, and no block has changed its state
pub record KeepsOuts (a b : Space) : Type 0 where
  pub limits : b.limits ≡ a.limits
  pub outs : (tables_of b).outs ≡ (tables_of a).outs
  pub reuse : (tables_of b).reuse ≡ (tables_of a).reuse
  pub states : (tables_of b).states ≡ (tables_of a).states
  pub rest_next : b.rest_next ≡ a.rest_next
  pub rest_end : b.rest_end ≡ a.rest_end

-- so it is with a call on words alone that leaves these tables
pub turned_outs : (a b : Space) (t : Tables) → Turns a b t → t.outs ≡ (tables_of a).outs → t.reuse ≡ (tables_of a).reuse → t.states ≡ (tables_of a).states → KeepsOuts a b
turned_outs a b t turns outs reuse states = record {
  limits = ap (λ (s : Space). s.limits) turns.rest;
  outs = ap (λ x. x.outs) turns.tables ∙ outs;
  reuse = ap (λ x. x.reuse) turns.tables ∙ reuse;
  states = ap (λ x. x.states) turns.tables ∙ states;
  rest_next = ap (λ (s : Space). s.rest_next) turns.rest;
  rest_end = ap (λ (s : Space). s.rest_end) turns.rest;
}

-- how often a line was handed out, by which lines are out
abbrev handed_since : Tables → (ℕ → Bool) → ℕ → ℕ
handed_since t outs line = if outs line && not (t.outs line) then ((t.reuse line + 1) % 2 ^ 32) else t.reuse line

module _ (a b : Space) (m : Moment) (st : EvacuationStage) (keeps : KeepsOuts a b) where
  -- where more is cleared, fewer granules are to be kept
  pub lines_with : (end : ℕ) → KeepsGranules b (IsTaken m (cleared_to st end)) → ((q : Run) → IsOpenRun (tables_of b) b.limits.blocks q → IsOpenRun (tables_of a) a.limits.blocks q)
      → HasLines a m st → HasLines b m (cleared_to st end)
  lines_with end kept before is = record {
    rest = rest_still a b keeps.rest_next keeps.rest_end keeps.limits keeps.outs keeps.states is.rest;
    kept = kept;
    outs = λ line. subst (λ f. IsTrue (f line) ↔ (IsTrue ((tables_of st.found).outs line) ⊎ HasCopy m.state.graph st.at st.now (moved_names m st) line)) (sym keeps.outs) (is.outs line);
    reuse = λ line. ap (λ f. f line) keeps.reuse ∙ is.reuse line ∙ ap (λ f. handed_since (tables_of st.found) f line) (sym keeps.outs);
    states = λ k. states_joined (tables_of st.found) (tables_of a) (tables_of b) k (is.states k) (states_same (tables_of a) (tables_of b) k keeps.states);
    free = free_joined (tables_of st.found) (tables_of a) (tables_of b) is.free (free_same (tables_of a) (tables_of b) keeps.states keeps.outs);
    wanting = λ n o kept_is has_o. still_full a b (shape_of o) keeps.rest_next keeps.rest_end before (is.wanting n o kept_is has_o);
  }

  -- where counts stay, so do lines
  pub lines_same : (tables_of b).counts ≡ (tables_of a).counts → HasLines a m st → HasLines b m st
  lines_same counts is =
      let grows : Grows (tables_of a) (tables_of b) = record {
        outs = λ line out. subst (λ f. IsTrue (f line)) (sym keeps.outs) out;
        counts = λ k some. subst (λ f. f k ≢ 0) (sym counts) some;
      } in
      lines_with st.cleared (granules_kept a b (IsTaken m st) grows keeps.rest_next keeps.rest_end is.kept) (λ q run.
      open_before (tables_of a) (tables_of b) a.limits.blocks q grows (states_same (tables_of a) (tables_of b) q.block keeps.states)
      (subst (λ l. IsOpenRun (tables_of b) l.blocks q) keeps.limits run)) is

-- ---- a stage

-- what is told anew of a stage
pub record StaysEvacuating (b : Space) (m : Moment) (st : EvacuationStage) : Type 0 where
  pub space : IsSpace b
  pub heap : HasHeap (tables_of b) b.limits.blocks m st
  pub bits : HasBitsAndCounts (tables_of b) m st
  pub lines : HasLines b m st
  pub registers : HoldEither st.at st.now b.registers.items m.state.registers
  pub deferred : HoldEither st.at st.now b.deferred.items m.last.registers

-- where objects stand is the same, whatever is cleared
pub apart_cleared : (m : Moment) (st : EvacuationStage) (end : ℕ) → AreMovedApart m st → AreMovedApart m (cleared_to st end)
apart_cleared m st end is = record { moved = is.moved; away = is.away; onto = is.onto; own = is.own; apart = is.apart }

pub evacuating_with : (a b : Space) (m : Moment) (st : EvacuationStage) (end : ℕ) → IsEvacuating a m st → tables_of b ≡ with_changed_tables (tables_of a) (tables_of b) → b ≡ with_changes a b
    → StaysEvacuating b m (cleared_to st end) → IsEvacuating b m (cleared_to st end)
evacuating_with a b m st end is tables changes stays = record {
  can = is.can;
  space = stays.space;
  apart = apart_cleared m st end is.apart;
  heap = stays.heap;
  bits = stays.bits;
  lines = stays.lines;
  registers = stays.registers;
  deferred = stays.deferred;
  tables = tables_follow (tables_of st.found) (tables_of a) (tables_of b) is.tables tables;
  changes = changes_follow st.found a b is.changes changes;
}

-- ---- the heap

pub heap_same : (t u : Tables) (blocks : ℕ) (m : Moment) (st : EvacuationStage) (end : ℕ) → u.heap ≡ t.heap → HasHeap t blocks m st → HasHeap u blocks m (cleared_to st end)
heap_same t u blocks m st end heap is = record {
  stands = λ n member. let x = is.stands n member in (
    x.0,
    x.1,
    record {
      placed = x.2.placed;
      whole = record { name = x.2.whole.name; shape = x.2.whole.shape; header = ap (λ h. h (2 * granule_of (st.now n))) heap ∙ x.2.whole.header; in_heap = x.2.whole.in_heap; in_block = x.2.whole.in_block };
      refs = λ i r e. subst (λ h. HoldsEither st.at st.now (h (first_word (st.now n) + 1 + i)) r) (sym heap) (x.2.refs i r e);
      values = λ i v e. ap (λ h. h (first_word (st.now n) + 1 + length x.0.refs + i)) heap ∙ x.2.values i v e;
    },
  );
  left_behind = λ n moved. ap (λ h. h (first_word (st.at n))) heap ∙ is.left_behind n moved;
  others = λ w new unfixed. ap (λ h. h w) heap ∙ is.others w new unfixed;
}

-- ---- bits and counts

pub bits_same : (t u : Tables) (m : Moment) (st : EvacuationStage) → u.starts ≡ t.starts → u.marks ≡ t.marks → u.grays ≡ t.grays → u.counts ≡ t.counts → u.unlogged ≡ t.unlogged → HasBitsAndCounts t m st → HasBitsAndCounts u m st
bits_same t u m st starts marks grays counts unlogged is = record {
  starts = λ n p member place. ap (λ f. f (granule_of p)) starts ∙ is.starts n p member place;
  starts_only = λ k h. is.starts_only k (sym (ap (λ f. f k) starts) ∙ h);
  marks = λ n p member place. ap (λ f. f (granule_of p)) marks ∙ is.marks n p member place;
  marks_only = λ k h. ap (λ f. f k) starts ∙ is.marks_only k (sym (ap (λ f. f k) marks) ∙ h);
  grays = λ n p member place. ap (λ f. f (granule_of p)) grays ∙ is.grays n p member place;
  grays_only = λ k h. ap (λ f. f k) starts ∙ is.grays_only k (sym (ap (λ f. f k) grays) ∙ h);
  counts = λ n p member place. ap (λ f. f (granule_of p)) counts ∙ is.counts n p member place;
  lines = λ k mark. ap (λ f. f k) counts ∙ is.lines k mark;
  counts_only = λ k nobody nothing. ap (λ f. f k) counts ∙ is.counts_only k nobody nothing;
  unlogged = λ w. (λ h. (is.unlogged w).0 (sym (ap (λ f. f w) unlogged) ∙ h), λ h. ap (λ f. f w) unlogged ∙ (is.unlogged w).1 h);
}
