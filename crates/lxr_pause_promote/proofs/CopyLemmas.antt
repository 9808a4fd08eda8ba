-- What holds once an object was copied, and once it was promoted, beside whatever granules were kept.
use Rattle.std.proofs.Common.{◌≡◌, ◌≢◌, ℕ, ◌+◌, ◌*◌, ◌%◌, ◌/◌, ◌^◌, ◌<◌, ◌≤◌, ◌⊎◌, refl, sym, ap, subst, ◌∙◌, inl, inr, arith, cond}
use Rattle.std.specs.Prelude.{◌↔◌, ◌&&◌, not, IsTrue, if◌then◌else◌}
use Rattle.lxr_layout.specs.declared.TheConstants.{GRANULES_IN_BLOCK, GRANULES_IN_LINE, WORDS_IN_BLOCK}
use Rattle.lxr_layout.specs.declared.Name.{Name}
use Rattle.lxr_layout.specs.declared.Place.{Place}
use Rattle.lxr_layout.specs.declared.Shape.{Shape}
use Rattle.lxr_layout.specs.Objects.{moved_word, word_count}
use Rattle.lxr_layout.specs.Places.{first_word}
use Rattle.lxr_image.proofs.SpaceLemmas.{space_alike}
use Rattle.lxr_image.specs.declared.space.Space.{Space}
use Rattle.lxr_image.specs.Tables.{Tables, changed}
use Rattle.lxr_image.specs.Spaces.{Turns, tables_of}
use Rattle.lxr_image.specs.Reads.{granule_of}
use Rattle.lxr_blocks.specs.declared.states.BlockState.TheVariants.{Chosen}
use Rattle.lxr_blocks.specs.Kept.{IsAmong, IsOpenGranule, IsPlacedBeside, KeepsGranules}
use Rattle.lxr_blocks.specs.Placing.{IsFull, IsPlaced, IsRest, granule_count}
use Rattle.lxr_blocks.specs.States.{KeepsFree, KeepsState, state_in}
use Rattle.lxr_blocks.proofs.BesideLemmas.{placed_beside}
use Rattle.lxr_blocks.proofs.FreeLemmas.{free_joined, free_same}
use Rattle.lxr_blocks.proofs.HandingLemmas.{header_some}
use Rattle.lxr_blocks.specs.Lines.{line_behind, next_line}
use Rattle.lxr_pause_promote.specs.Copying.{Evacuates, IsUsedRow, StandsAt, StandsKept, with_copy, with_words}
use Rattle.lxr_pause_promote.specs.Promotion.{Promotes, marked_between, with_promotion}
use Rattle.lxr_pause_promote.proofs.PlacedLemmas.{KeepsLinesAndBlocks, keeps_both, keeps_fewer, keeps_state, marked_zero, still_kept, still_rest}
use Rattle.lxr_pause_promote.proofs.TableLemmas.{stands_after}
use Rattle.lxr_pause_promote.proofs.WordLemmas.{elsewhere_copied, moved_there, ranges_apart, word_copied, word_left}

-- n's object of a shape, which stood at place p, stands at place q, where neither what was kept nor the object itself stood. `rest` are
-- the tables as they are but for the heap, and for which lines are out, how often each was handed out, and states of blocks.
pub record StandsBeside (before after : Space) (rest : Tables) (taken : ℕ → Type 0) (p q : Place) (n : Name) (shape : Shape) : Type 0 where
  pub stands : StandsAt after q n shape
  pub apart : (k : ℕ) → taken k → ¬ IsAmong (granule_of q.0) (granule_count shape) k
  pub elsewhere : (k : ℕ) → IsAmong (granule_of p.0) (granule_count shape) k → ¬ IsAmong (granule_of q.0) (granule_count shape) k
  pub onto : (k : ℕ) → IsAmong (granule_of q.0) (granule_count shape) k → IsOpenGranule before k
  pub unchosen : state_in (tables_of before) (granule_of q.0 / GRANULES_IN_BLOCK) ≢ Chosen
  -- the heap: the words behind the header, the word that p has now, and all other words
  pub words : (i : ℕ) → 1 ≤ i → i < word_count shape → (tables_of after).heap (first_word q.0 + i) ≡ (tables_of before).heap (first_word p.0 + i)
  pub moved : (tables_of after).heap (first_word p.0) ≡ moved_word q.0
  pub others : (w : ℕ) → w ≢ first_word p.0 → (w < first_word q.0) ⊎ (first_word q.0 + word_count shape ≤ w) → (tables_of after).heap w ≡ (tables_of before).heap w
  -- lines and blocks
  pub outs : (line : ℕ) → IsTrue ((tables_of after).outs line)
      ↔ (IsTrue ((tables_of before).outs line) ⊎ ((k : ℕ) × IsAmong (granule_of q.0) (granule_count shape) k × (k / GRANULES_IN_LINE ≡ line)))
  pub reuse : (line : ℕ) → (tables_of after).reuse line
      ≡ if (tables_of after).outs line && not ((tables_of before).outs line) then (((tables_of before).reuse line + 1) % 2 ^ 32) else (tables_of before).reuse line
  pub states : (b : ℕ) → KeepsState (tables_of before) (tables_of after) b
  pub free : KeepsFree (tables_of before) (tables_of after)
  -- all else
  pub tables : tables_of after ≡ record rest { heap = (tables_of after).heap; outs = (tables_of after).outs; reuse = (tables_of after).reuse; states = (tables_of after).states }
  pub space : after ≡ record before { words = after.words; rest_next = after.rest_next; rest_end = after.rest_end }
  pub is_rest : IsRest after
  pub kept : KeepsGranules after (λ k. taken k ⊎ IsAmong (granule_of q.0) (granule_count shape) k)

-- ---- an object that was copied

-- where it is placed, with its own granules kept too
placed_apart : (before middle : Space) (taken : ℕ → Type 0) (p q : Place) (n : Name) (shape : Shape) → StandsKept before p n shape → KeepsGranules before taken → IsPlaced before middle n shape q
    → IsPlacedBeside before middle (λ k. taken k ⊎ IsAmong (granule_of p.0) (granule_count shape) k) n shape q
placed_apart before middle taken p q n shape is kept placed =
    placed_beside before middle (λ k. taken k ⊎ IsAmong (granule_of p.0) (granule_count shape) k) n shape q is.rest is.stands.whole.shape
    (keeps_both before taken (IsAmong (granule_of p.0) (granule_count shape)) kept is.kept) placed

-- neither object has a word of the other
words_apart : (before middle : Space) (taken : ℕ → Type 0) (p q : Place) (n : Name) (shape : Shape) → StandsKept before p n shape
    → IsPlacedBeside before middle (λ k. taken k ⊎ IsAmong (granule_of p.0) (granule_count shape) k) n shape q
    → (first_word p.0 + word_count shape ≤ first_word q.0) ⊎ (first_word q.0 + word_count shape ≤ first_word p.0)
words_apart before middle taken p q n shape is placed =
    let some : 1 ≤ granule_count shape = omega arith in
    elim (ranges_apart (granule_of p.0) (granule_count shape) (granule_of q.0) (granule_count shape) some some (λ k here. placed.apart k (inr here))) [
      | inl h ↦ inl (omega (arith, h))
      | inr h ↦ inr (omega (arith, h))
    ]

-- the space after a copy has no table changed but those in which an object is placed
copied_tables : (before middle after : Space) (taken : ℕ → Type 0) (p q : Place) (n : Name) (shape : Shape) → IsPlacedBeside before middle taken n shape q
    → Turns middle after (with_copy (tables_of middle) p.0 q.0 shape)
    → tables_of after ≡ record (tables_of before) { heap = (tables_of after).heap; outs = (tables_of after).outs; reuse = (tables_of after).reuse; states = (tables_of after).states }
copied_tables before middle after taken p q n shape placed turns =
    turns.tables
    ∙ ap (λ (x : Tables). record x { heap = (with_copy (tables_of middle) p.0 q.0 shape).heap }) placed.tables
    ∙ ap (λ (x : Tables). record (tables_of before) { heap = x.heap; outs = x.outs; reuse = x.reuse; states = x.states }) (sym turns.tables)

-- nor anything beside its words but the rest of the lines that were placed on last
copied_space : (before middle after : Space) (t : Tables) → middle ≡ record before { words = middle.words; rest_next = middle.rest_next; rest_end = middle.rest_end } → Turns middle after t
    → after ≡ record before { words = after.words; rest_next = after.rest_next; rest_end = after.rest_end }
copied_space before middle after t placed turns =
    turns.rest
    ∙ ap (λ (x : Space). record x { words = after.words }) placed
    ∙ ap (λ (x : Space). record before { words = after.words; rest_next = x.rest_next; rest_end = x.rest_end }) (sym turns.rest)

-- a call that changes neither out bits nor states keeps them and the rest
keeps_lines : (a b : Space) (t : Tables) → Turns a b t → t.outs ≡ (tables_of a).outs → t.states ≡ (tables_of a).states → KeepsLinesAndBlocks a b
keeps_lines a b t turns outs states = record {
  blocks = ap (λ s. s.limits.blocks) turns.rest;
  rest_next = ap (λ s. s.rest_next) turns.rest;
  rest_end = ap (λ s. s.rest_end) turns.rest;
  outs = ap (λ x. x.outs) turns.tables ∙ outs;
  states = ap (λ x. x.states) turns.tables ∙ states;
}

-- the header of the copy
copied_stands : (before middle after : Space) (taken : ℕ → Type 0) (p q : Place) (n : Name) (shape : Shape) → StandsKept before p n shape
    → IsPlacedBeside before middle (λ k. taken k ⊎ IsAmong (granule_of p.0) (granule_count shape) k) n shape q → Turns middle after (with_copy (tables_of middle) p.0 q.0 shape) → StandsAt after q n shape
copied_stands before middle after taken p q n shape is placed turns =
    let t : Tables = tables_of middle in
    let some : 1 ≤ granule_count shape = omega arith in
    let space = copied_space before middle after (with_copy t p.0 q.0 shape) placed.space turns in
    let tables = copied_tables before middle after (λ k. taken k ⊎ IsAmong (granule_of p.0) (granule_count shape) k) p q n shape placed turns in
    let limits : after.limits ≡ before.limits = ap (λ s. s.limits) space in
    let elsewhere : first_word q.0 ≢ first_word p.0 = λ e. elim (words_apart before middle taken p q n shape is placed) [ inl h ↦ omega (arith, h, some) | inr h ↦ omega (arith, h, some) ] in
    record {
      space = space_alike before after limits (ap (λ x. x.size) tables) is.stands.space;
      placed = placed.placed;
      whole = record {
        name = is.stands.whole.name;
        shape = is.stands.whole.shape;
        header = ap (λ x. x.heap (first_word q.0)) turns.tables ∙ elsewhere_copied t p.0 q.0 (first_word q.0) shape elsewhere
            ∙ word_left t (first_word p.0) (first_word q.0) (word_count shape) (first_word q.0) (inl (omega arith)) ∙ placed.written.header;
        in_heap = subst (λ l. granule_of q.0 + granule_count shape ≤ GRANULES_IN_BLOCK * l.blocks) (sym limits) placed.in_heap;
        in_block = placed.in_block;
      };
    }

-- its further words
copied_words : (before middle after : Space) (taken : ℕ → Type 0) (p q : Place) (n : Name) (shape : Shape) → StandsKept before p n shape
    → IsPlacedBeside before middle (λ k. taken k ⊎ IsAmong (granule_of p.0) (granule_count shape) k) n shape q → Turns middle after (with_copy (tables_of middle) p.0 q.0 shape)
    → (i : ℕ) → 1 ≤ i → i < word_count shape → (tables_of after).heap (first_word q.0 + i) ≡ (tables_of before).heap (first_word p.0 + i)
copied_words before middle after taken p q n shape is placed turns i some within =
    let t : Tables = tables_of middle in
    let apart = words_apart before middle taken p q n shape is placed in
    let elsewhere : first_word q.0 + i ≢ first_word p.0 = λ e. elim apart [ inl h ↦ omega (arith, h) | inr h ↦ omega (arith, h) ] in
    ap (λ x. x.heap (first_word q.0 + i)) turns.tables ∙ elsewhere_copied t p.0 q.0 (first_word q.0 + i) shape elsewhere
    ∙ word_copied t (first_word p.0) (first_word q.0) (word_count shape) i some within
    ∙ placed.written.others (first_word p.0 + i) (elim apart [ inl h ↦ inl (omega (arith, h)) | inr h ↦ inr (omega (arith, h)) ])

-- and all words outside
copied_others : (before middle after : Space) (taken : ℕ → Type 0) (p q : Place) (n : Name) (shape : Shape) → IsPlacedBeside before middle taken n shape q
    → Turns middle after (with_copy (tables_of middle) p.0 q.0 shape)
    → (w : ℕ) → w ≢ first_word p.0 → (w < first_word q.0) ⊎ (first_word q.0 + word_count shape ≤ w) → (tables_of after).heap w ≡ (tables_of before).heap w
copied_others before middle after taken p q n shape placed turns w other out =
    let t : Tables = tables_of middle in
    ap (λ x. x.heap w) turns.tables ∙ elsewhere_copied t p.0 q.0 w shape other
    ∙ word_left t (first_word p.0) (first_word q.0) (word_count shape) w (elim out [ inl h ↦ inl (omega (arith, h)) | inr h ↦ inr h ])
    ∙ placed.written.others w out

copied_beside : (before middle after : Space) (taken : ℕ → Type 0) (p q : Place) (n : Name) (shape : Shape) → StandsKept before p n shape
    → IsPlacedBeside before middle (λ k. taken k ⊎ IsAmong (granule_of p.0) (granule_count shape) k) n shape q → Turns middle after (with_copy (tables_of middle) p.0 q.0 shape)
    → StandsBeside before after (tables_of before) taken p q n shape
copied_beside before middle after taken p q n shape is placed turns =
    let t : Tables = tables_of before in
    let all : ℕ → Type 0 = λ k. taken k ⊎ IsAmong (granule_of p.0) (granule_count shape) k in
    let same = keeps_lines middle after (with_copy (tables_of middle) p.0 q.0 shape) turns refl refl in
    let counts : (tables_of after).counts ≡ (tables_of middle).counts = ap (λ x. x.counts) turns.tables in
    let reuse : (tables_of after).reuse ≡ (tables_of middle).reuse = ap (λ x. x.reuse) turns.tables in
    let kept = still_kept middle after (λ k. all k ⊎ IsAmong (granule_of q.0) (granule_count shape) k) same (λ k zero. sym (ap (λ f. f k) counts) ∙ zero) placed.kept in
    record {
      stands = copied_stands before middle after taken p q n shape is placed turns;
      apart = λ k has. placed.apart k (inl has);
      elsewhere = λ k has. placed.apart k (inr has);
      onto = placed.onto;
      unchosen = placed.unchosen;
      words = copied_words before middle after taken p q n shape is placed turns;
      moved = ap (λ x. x.heap (first_word p.0)) turns.tables ∙ moved_there (tables_of middle) p.0 q.0 shape;
      others = copied_others before middle after all p q n shape placed turns;
      outs = λ l. subst (λ f. IsTrue (f l) ↔ (IsTrue (t.outs l) ⊎ ((k : ℕ) × IsAmong (granule_of q.0) (granule_count shape) k × (k / GRANULES_IN_LINE ≡ l)))) (sym same.outs) (placed.outs l);
      reuse = λ l. ap (λ f. f l) reuse ∙ placed.reuse l ∙ ap (λ f. cond (f l && not (t.outs l)) ((t.reuse l + 1) % 2 ^ 32) (t.reuse l)) (sym same.outs);
      states = λ b. subst (λ f. KeepsState t (record (tables_of middle) { states = f }) b) (sym same.states) (placed.states b);
      free = free_joined t (tables_of middle) (tables_of after) placed.free (free_same (tables_of middle) (tables_of after) same.states same.outs);
      tables = copied_tables before middle after all p q n shape placed turns;
      space = copied_space before middle after (with_copy (tables_of middle) p.0 q.0 shape) placed.space turns;
      is_rest = still_rest middle after same placed.rest;
      kept = keeps_fewer after (λ k. all k ⊎ IsAmong (granule_of q.0) (granule_count shape) k) (λ k. taken k ⊎ IsAmong (granule_of q.0) (granule_count shape) k)
          (λ k has. elim has [ inl h ↦ inl (inl h) | inr h ↦ inr h ]) kept;
    }

pub evacuated_beside : (before after : Space) (taken : ℕ → Type 0) (p q : Place) (n : Name) (shape : Shape) → StandsKept before p n shape → KeepsGranules before taken → Evacuates before after p q n shape
    → StandsBeside before after (tables_of before) taken p q n shape
evacuated_beside before after taken p q n shape is kept evacuates =
    copied_beside before evacuates.middle after taken p q n shape is (placed_apart before evacuates.middle taken p q n shape is kept evacuates.placed) evacuates.turns

-- it isn't where it was
pub evacuated_elsewhere : (before after : Space) (p q : Place) (n : Name) (shape : Shape) → StandsKept before p n shape → Evacuates before after p q n shape → q.0 ≢ p.0
evacuated_elsewhere before after p q n shape is evacuates same =
    let some : 1 ≤ granule_count shape = omega arith in
    let beside = evacuated_beside before after (IsAmong (granule_of p.0) (granule_count shape)) p q n shape is is.kept evacuates in
    beside.elsewhere (granule_of p.0) (omega arith, omega arith) (omega arith, omega arith)

-- ---- the calls that copy it

-- both objects lie in the heap, and neither has a word of the other
pub copy_has_room : (before middle : Space) (p q : Place) (n : Name) (shape : Shape) → StandsKept before p n shape → IsPlaced before middle n shape q
    → (first_word p.0 + word_count shape ≤ WORDS_IN_BLOCK * middle.limits.blocks) × ((first_word p.0 + word_count shape ≤ first_word q.0) ⊎ (first_word q.0 + word_count shape ≤ first_word p.0))
copy_has_room before middle p q n shape is placed =
    let apart = placed_apart before middle (IsAmong (granule_of p.0) (granule_count shape)) p q n shape is is.kept placed in
    let blocks : middle.limits.blocks ≡ before.limits.blocks = ap (λ s. s.limits.blocks) apart.space in
    let heap = is.stands.whole.in_heap in
    (omega (arith, blocks, heap), words_apart before middle (IsAmong (granule_of p.0) (granule_count shape)) p q n shape is apart)

-- where there are fields, both headers tell that the objects' words lie in blocks in use
pub copy_is_used : (before middle : Space) (p q : Place) (n : Name) (shape : Shape) → StandsKept before p n shape → IsPlaced before middle n shape q → 2 < word_count shape
    → IsUsedRow (tables_of middle) (first_word p.0) (word_count shape) × IsUsedRow (tables_of middle) (first_word q.0) (word_count shape)
copy_is_used before middle p q n shape is placed fields =
    let beside = placed_apart before middle (IsAmong (granule_of p.0) (granule_count shape)) p q n shape is is.kept placed in
    let apart = words_apart before middle (IsAmong (granule_of p.0) (granule_count shape)) p q n shape is beside in
    let there = beside.written.others (first_word p.0) (elim apart [ inl h ↦ inl (omega (arith, h, fields)) | inr h ↦ inr h ]) in
    let old = is.stands.whole.in_block in let new = beside.in_block in (
      record { some = header_some _ n shape (there ∙ is.stands.whole.header) fields; in_block = omega (arith, old, fields) },
      record { some = header_some _ n shape beside.written.header fields; in_block = omega (arith, new, fields) },
    )

-- words are copied, and the one at the old place written
pub evacuated_turns : (a b c : Space) (p q : Place) (shape : Shape) → Turns a b (with_words (tables_of a) (first_word p.0) (first_word q.0) (word_count shape))
    → Turns b c (record (tables_of b) { heap = changed (tables_of b).heap (first_word p.0) (moved_word q.0) }) → Turns a c (with_copy (tables_of a) p.0 q.0 shape)
evacuated_turns a b c p q shape words moved = record {
  tables = moved.tables ∙ ap (λ (t : Tables). record t { heap = changed t.heap (first_word p.0) (moved_word q.0) }) words.tables;
  rest = moved.rest ∙ ap (λ (s : Space). record s { words = c.words }) words.rest;
}

-- ---- an object that was promoted: it was copied, or it is where it was

-- a promotion changes neither what is kept nor the rest
promotion_keeps : (a b : Space) (q : Place) (shape : Shape) → Turns a b (with_promotion (tables_of a) q.0 shape) → KeepsLinesAndBlocks a b
promotion_keeps a b q shape turns = keeps_lines a b (with_promotion (tables_of a) q.0 shape) turns refl refl

promotion_kept : (a b : Space) (taken : ℕ → Type 0) (q : Place) (shape : Shape) → Turns a b (with_promotion (tables_of a) q.0 shape) → KeepsGranules a taken → KeepsGranules b taken
promotion_kept a b taken q shape turns =
    let counts : (tables_of b).counts ≡ marked_between (tables_of a).counts (next_line (granule_of q.0)) (line_behind (granule_of q.0) (word_count shape / 2)) = ap (λ x. x.counts) turns.tables in
    still_kept a b taken (promotion_keeps a b q shape turns)
    (λ k zero. marked_zero (tables_of a).counts (next_line (granule_of q.0)) (line_behind (granule_of q.0) (word_count shape / 2)) k (sym (ap (λ f. f k) counts) ∙ zero))

promotion_stands : (a b : Space) (q : Place) (n : Name) (shape : Shape) → Turns a b (with_promotion (tables_of a) q.0 shape) → StandsAt a q n shape → StandsAt b q n shape
promotion_stands a b q n shape turns is =
    let limits : b.limits ≡ a.limits = ap (λ s. s.limits) turns.rest in
    stands_after a b q n shape (space_alike a b limits (ap (λ x. x.size) turns.tables) is.space) limits (ap (λ x. x.heap) turns.tables) is

-- a copy is promoted
promoted_copy : (before copied after : Space) (taken : ℕ → Type 0) (p q : Place) (n : Name) (shape : Shape) → StandsBeside before copied (tables_of before) taken p q n shape
    → Turns copied after (with_promotion (tables_of copied) q.0 shape) → StandsBeside before after (with_promotion (tables_of before) q.0 shape) taken p q n shape
promoted_copy before copied after taken p q n shape beside turns =
    let t : Tables = tables_of before in
    let same = promotion_keeps copied after q shape turns in
    let heap : (tables_of after).heap ≡ (tables_of copied).heap = ap (λ x. x.heap) turns.tables in
    let reuse : (tables_of after).reuse ≡ (tables_of copied).reuse = ap (λ x. x.reuse) turns.tables in
    record {
      stands = promotion_stands copied after q n shape turns beside.stands;
      apart = beside.apart;
      elsewhere = beside.elsewhere;
      onto = beside.onto;
      unchosen = beside.unchosen;
      words = λ i some within. ap (λ f. f (first_word q.0 + i)) heap ∙ beside.words i some within;
      moved = ap (λ f. f (first_word p.0)) heap ∙ beside.moved;
      others = λ w other out. ap (λ f. f w) heap ∙ beside.others w other out;
      outs = λ l. subst (λ f. IsTrue (f l) ↔ (IsTrue (t.outs l) ⊎ ((k : ℕ) × IsAmong (granule_of q.0) (granule_count shape) k × (k / GRANULES_IN_LINE ≡ l)))) (sym same.outs) (beside.outs l);
      reuse = λ l. ap (λ f. f l) reuse ∙ beside.reuse l ∙ ap (λ f. cond (f l && not (t.outs l)) ((t.reuse l + 1) % 2 ^ 32) (t.reuse l)) (sym same.outs);
      states = λ b. subst (λ f. KeepsState t (record (tables_of copied) { states = f }) b) (sym same.states) (beside.states b);
      free = free_joined t (tables_of copied) (tables_of after) beside.free (free_same (tables_of copied) (tables_of after) same.states same.outs);
      tables = turns.tables
          ∙ ap (λ (x : Tables). with_promotion x q.0 shape) beside.tables
          ∙ ap (λ (x : Tables). record (with_promotion t q.0 shape) { heap = x.heap; outs = x.outs; reuse = x.reuse; states = x.states }) (sym turns.tables);
      space = copied_space before copied after (with_promotion (tables_of copied) q.0 shape) beside.space turns;
      is_rest = still_rest copied after same beside.is_rest;
      kept = promotion_kept copied after (λ k. taken k ⊎ IsAmong (granule_of q.0) (granule_count shape) k) q shape turns beside.kept;
    }

pub promoted_beside : (before after : Space) (taken : ℕ → Type 0) (p q : Place) (n : Name) (shape : Shape) → StandsKept before p n shape → KeepsGranules before taken → Promotes before after p q n shape
    → (IsFull before shape × (q ≡ p) × Turns before after (with_promotion (tables_of before) p.0 shape)) ⊎ StandsBeside before after (with_promotion (tables_of before) q.0 shape) taken p q n shape
promoted_beside before after taken p q n shape is kept (inl there) = inl (there.full, there.place, there.turns)
promoted_beside before after taken p q n shape is kept (inr copy) =
    inr (promoted_copy before copy.copied after taken p q n shape (evacuated_beside before copy.copied taken p q n shape is kept copy.evacuates) copy.turns)

-- Either way this holds of it.
pub record IsPromoted (before after : Space) (taken : ℕ → Type 0) (p q : Place) (n : Name) (shape : Shape) : Type 0 where
  pub stands : StandsAt after q n shape
  pub words : (i : ℕ) → 1 ≤ i → i < word_count shape → (tables_of after).heap (first_word q.0 + i) ≡ (tables_of before).heap (first_word p.0 + i)
  pub others : (w : ℕ) → w ≢ first_word p.0 → (w < first_word q.0) ⊎ (first_word q.0 + word_count shape ≤ w) → (tables_of after).heap w ≡ (tables_of before).heap w
  pub states : (b : ℕ) → KeepsState (tables_of before) (tables_of after) b
  pub tables : tables_of after ≡ record (with_promotion (tables_of before) q.0 shape) { heap = (tables_of after).heap; outs = (tables_of after).outs; reuse = (tables_of after).reuse; states = (tables_of after).states }
  pub space : after ≡ record before { words = after.words; rest_next = after.rest_next; rest_end = after.rest_end }
  pub is_rest : IsRest after
  pub kept : KeepsGranules after (λ k. taken k ⊎ IsAmong (granule_of q.0) (granule_count shape) k)

promoted_there : (before after : Space) (taken : ℕ → Type 0) (p : Place) (n : Name) (shape : Shape) → StandsKept before p n shape → KeepsGranules before taken
    → Turns before after (with_promotion (tables_of before) p.0 shape) → IsPromoted before after taken p p n shape
promoted_there before after taken p n shape is kept turns =
    let same = promotion_keeps before after p shape turns in
    let heap : (tables_of after).heap ≡ (tables_of before).heap = ap (λ x. x.heap) turns.tables in
    record {
      stands = promotion_stands before after p n shape turns is.stands;
      words = λ i some within. ap (λ f. f (first_word p.0 + i)) heap;
      others = λ w other out. ap (λ f. f w) heap;
      states = λ b. keeps_state before after b same;
      tables = turns.tables ∙ ap (λ (x : Tables). record (with_promotion (tables_of before) p.0 shape) { heap = x.heap; outs = x.outs; reuse = x.reuse; states = x.states }) (sym turns.tables);
      space = turns.rest ∙ ap (λ (x : Space). record before { words = after.words; rest_next = x.rest_next; rest_end = x.rest_end }) (sym turns.rest);
      is_rest = still_rest before after same is.rest;
      kept = promotion_kept before after (λ k. taken k ⊎ IsAmong (granule_of p.0) (granule_count shape) k) p shape turns
          (keeps_both before taken (IsAmong (granule_of p.0) (granule_count shape)) kept is.kept);
    }

pub is_promoted : (before after : Space) (taken : ℕ → Type 0) (p q : Place) (n : Name) (shape : Shape) → StandsKept before p n shape → KeepsGranules before taken → Promotes before after p q n shape
    → IsPromoted before after taken p q n shape
is_promoted before after taken p q n shape is kept promotes = elim (promoted_beside before after taken p q n shape is kept promotes) [
  | inl there ↦ subst (λ z. IsPromoted before after taken p z n shape) (sym there.1) (promoted_there before after taken p n shape is kept there.2)
  | inr copy ↦ record {
    stands = copy.stands;
    words = copy.words;
    others = copy.others;
    states = copy.states;
    tables = copy.tables;
    space = copy.space;
    is_rest = copy.is_rest;
    kept = copy.kept;
  }
]
