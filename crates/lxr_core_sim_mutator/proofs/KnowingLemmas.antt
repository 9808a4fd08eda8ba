-- What an epoch says of the words that a mutator's steps act on.
use Rattle.std.proofs.Common.{◌≡◌, ℕ, ◌+◌, ◌-◌, ◌*◌, ◌/◌, ◌%◌, ◌^◌, ◌<◌, ◌≤◌, Bool, true, false, arith, refl, sym, subst, ap, ◌∙◌, inl, inr, length}
use Rattle.std.specs.Prelude.{Option, Some, None, IsTrue, nat_le, nat_lt, if◌then◌else◌}
use Rattle.lxr_layout.specs.declared.TheConstants.{FREE_BLOCK_COUNT, GRANULES_IN_BLOCK, GRANULES_IN_LINE, LINES_IN_BLOCK, MOST_BLOCKS, MOST_GRANULES, RUN_COUNT, WORDS_IN_BLOCK}
use Rattle.lxr_layout.specs.declared.Header.{Header}
use Rattle.lxr_layout.specs.declared.Header.TheVariants as header
use Rattle.lxr_layout.specs.declared.Name.{Name}
use Rattle.lxr_layout.specs.declared.Shape.{Shape}
use Rattle.lxr_layout.specs.declared.runs.Run.{Run}
use Rattle.lxr_layout.specs.Objects.{FitsShape, word_count}
use Rattle.lxr_layout.specs.Places.{field_word, first_word}
use Rattle.lxr_layout.specs.Runs.{word_of_run}
use Rattle.lxr_graph.specs.Names.{has}
use Rattle.lxr_graph.specs.State.{Object, object_at, shape_of}
use Rattle.lxr_graph.proofs.RowLemmas.{slice_get-there}
use Rattle.lxr_image.specs.Image.{IsImage, Stands, place_word}
use Rattle.lxr_image.specs.Tables.{Tables}
use Rattle.lxr_image.proofs.ImageLemmas.{member_stands}
use Rattle.lxr_model.specs.Moments.{Moment}
use Rattle.lxr_invariant.specs.AbstractState.{members}
use Rattle.lxr_core_invariant.specs.EpochStates.{Beginning, EpochState, limits_of, moment_of, opening_tables}
use Rattle.lxr_core_invariant.specs.Events.{TellsObject, value_word}
use Rattle.lxr_core_invariant.specs.Imaged.{IsReferenceAt, IsValueAt}
use Rattle.lxr_core_invariant.specs.Drawn.{Drawers, MakesIn}
use Rattle.lxr_core_invariant.specs.Epoch.{IsEpoch}
use Rattle.lxr_core_invariant.proofs.HeldLemmas.{IsHeld, reference_held}
use Rattle.lxr_core_invariant.proofs.TellingLemmas.{told_there}

-- the heap has no more blocks than the largest one
pub few_blocks : (b : Beginning) (s : EpochState) → IsEpoch b s → (limits_of b).blocks ≤ MOST_BLOCKS
few_blocks b s is = is.begins.between.safepoint.holds.space.limits.blocks.1

-- ---- objects

-- a place of the largest heap
low_place : (t : Tables) (blocks : ℕ) (at : Name → ℕ) (n : Name) (o : Object) → Stands t blocks at n o → blocks ≤ MOST_BLOCKS → at n ≤ MOST_GRANULES
low_place t blocks at n o st few = let low = st.whole.in_heap in let some = st.placed in omega (arith, low, some, few)

-- what a word that a reference holds says: nil or a place
pub low_word : (t : Tables) (blocks : ℕ) (at : Name → ℕ) (m : Moment) (v : Option Name) → IsImage t blocks at m.state.graph (members m) → blocks ≤ MOST_BLOCKS → IsHeld m v → place_word at v ≤ MOST_GRANULES
low_word t blocks at m None image few held = omega arith
low_word t blocks at m (Some n) image few held = let a = image.stands n held in low_place t blocks at n a.0 a.2 few

-- the header at a member's place
pub record HasHeader (t : Tables) (blocks place : ℕ) (n : Name) (s : Shape) : Type 0 where
  pub placed : (1 ≤ place) × (place ≤ MOST_GRANULES)
  pub fits : FitsShape s
  pub told : TellsObject (t.heap (first_word place)) n s
  pub within : first_word place + word_count s ≤ WORDS_IN_BLOCK * blocks
  pub word : first_word place < WORDS_IN_BLOCK * blocks

-- an object that lies in the granules of the heap lies in its words
whole_words : (place g words blocks : ℕ) → 1 ≤ place → g ≡ words / 2 → place - 1 + g ≤ GRANULES_IN_BLOCK * blocks → words ≡ words / 2 * 2 → 1 ≤ words
    → (2 * (place - 1) + words ≤ WORDS_IN_BLOCK * blocks) × (2 * (place - 1) < WORDS_IN_BLOCK * blocks)
whole_words place g words blocks some half in_heap even one = (omega arith, omega arith)

-- a member's header stands at its place
pub header_there : (t : Tables) (blocks : ℕ) (at : Name → ℕ) (m : Moment) (n : Name) (o : Object) (place : ℕ) → IsImage t blocks at m.state.graph (members m) → blocks ≤ MOST_BLOCKS
    → IsTrue (has (members m) n) → object_at m.state.graph n ≡ Some o → place ≡ at n → HasHeader t blocks place n (shape_of o)
header_there t blocks at m n o place image few member is stands =
    let st = member_stands t blocks at m.state.graph (members m) n o image member is in
    let low = low_place t blocks at n o st few in
    let some = st.placed in
    let words = whole_words (at n) (word_count (shape_of o) / 2) (word_count (shape_of o)) blocks st.placed refl st.whole.in_heap (omega arith) (omega arith) in
    record {
      placed = (omega (arith, some, stands), omega (arith, low, stands));
      fits = st.whole.shape;
      told = subst (λ p. TellsObject (t.heap (first_word p)) n (shape_of o)) (sym stands) (told_there t blocks at m.state.graph (members m) n o image member is);
      within = subst (λ p. first_word p + word_count (shape_of o) ≤ WORDS_IN_BLOCK * blocks) (sym stands) words.0;
      word = subst (λ p. first_word p < WORDS_IN_BLOCK * blocks) (sym stands) words.1;
    }

-- a header word by its bit 63
abbrev header_by : Bool → ℕ → Header
header_by moved word =
    if moved
    then header.Moved (record { 0 = word % 2 ^ 32 })
    else header.Object (record { thread = word / 2 ^ 52 % 2 ^ 8; serial = word / 2 ^ 20 % 2 ^ 32 }) (record { refs = word / 2 ^ 10 % 2 ^ 10; values = word % 2 ^ 10 })

-- a word with bit 63 tells of no object
no_moved : (word : ℕ) (n : Name) (s : Shape) (moved : Bool) → nat_le (2 ^ 63) word ≡ moved → header_by moved word ≡ header.Object n s → IsTrue (nat_lt word (2 ^ 63))
no_moved word n s true e told = absurd (cc)
no_moved word n s false e told = grind (arith, e)

-- a word that tells of an object has no bit 63
pub told_is_header : (word : ℕ) (n : Name) (s : Shape) → TellsObject word n s → IsTrue (nat_lt word (2 ^ 63))
told_is_header word n s told = no_moved word n s (nat_le (2 ^ 63) word) refl told

-- the word of a reference that a mutator works on, and what it holds
pub record HasReference (t : Tables) (blocks place index : ℕ) : Type 0 where
  pub within : field_word place index < WORDS_IN_BLOCK * blocks
  pub low : t.heap (field_word place index) ≤ MOST_GRANULES
  pub some : 1 ≤ place

-- a reference lies within its object
inside : (first words index refs values end : ℕ) → words ≡ (1 + refs + values + 1) / 2 * 2 → index < refs → first + words ≤ end → first + 1 + index < end
inside first words index refs values end is within h = omega arith

-- a data word lies within its object
inside_values : (first words index refs values end : ℕ) → words ≡ (1 + refs + values + 1) / 2 * 2 → index < values → first + words ≤ end → first + 1 + refs + index < end
inside_values first words index refs values end is within h = omega arith

-- the word of a reference at a place lies in the heap, and holds nil or a place
pub reference_there : (b : Beginning) (s : EpochState) (place index : ℕ) → IsEpoch b s → IsReferenceAt (moment_of b s) s.at place index → HasReference s.tables (limits_of b).blocks place index
reference_there b s place index is at =
    let m = moment_of b s in
    let few = few_blocks b s is in
    let image = is.image.placed.image in
    let head = header_there s.tables (limits_of b).blocks s.at m at.name at.object place image few at.member at.is at.stands in
    let held = slice_get-there at.object.refs index at.within in
    let st = member_stands s.tables (limits_of b).blocks s.at m.state.graph (members m) at.name at.object image at.member at.is in
    let word = st.refs index held.0 held.1 in
    let low = low_word s.tables (limits_of b).blocks s.at m held.0 image few (reference_held m at.name at.object index held.0 is.lives at.member at.is held.1) in
    record {
      within = inside (first_word place) (word_count (shape_of at.object)) index (length at.object.refs) (length at.object.values) (WORDS_IN_BLOCK * (limits_of b).blocks) refl at.within head.within;
      low = subst (λ p. s.tables.heap (field_word p index) ≤ MOST_GRANULES) (sym at.stands) (subst (λ x. x ≤ MOST_GRANULES) (sym word) low);
      some = head.placed.0;
    }

-- the word of a data word that a mutator works on
pub value_there : (b : Beginning) (s : EpochState) (place refs index : ℕ) → IsEpoch b s → IsValueAt (moment_of b s) s.at place refs index
    → value_word place refs index < WORDS_IN_BLOCK * (limits_of b).blocks
value_there b s place refs index is at =
    let m = moment_of b s in
    let head = header_there s.tables (limits_of b).blocks s.at m at.name at.object place is.image.placed.image (few_blocks b s is) at.member at.is at.stands in
    subst (λ r. value_word place r index < WORDS_IN_BLOCK * (limits_of b).blocks) (sym at.refs_are)
    (inside_values (first_word place) (word_count (shape_of at.object)) index (length at.object.refs) (length at.object.values) (WORDS_IN_BLOCK * (limits_of b).blocks) refl at.within head.within)

-- ---- what is drawn

-- how many runs, and how many blocks, are listed
pub run_count : (b : Beginning) (s : EpochState) → IsEpoch b s → (s.tables.cursors RUN_COUNT ≡ (opening_tables b).cursors RUN_COUNT) × (s.tables.cursors RUN_COUNT ≤ 64 * (limits_of b).blocks)
run_count b s is =
    let e = is.fixed.cursors RUN_COUNT (λ q. absurd (omega arith)) (λ q. absurd (omega arith)) (λ q. absurd (omega arith)) (λ q. absurd (omega arith)) (λ q. absurd (omega arith)) in
    let few = is.begins.listed.few_runs in (e, omega (arith, e, few))

-- so it is of blocks
pub block_count : (b : Beginning) (s : EpochState) → IsEpoch b s → (s.tables.cursors FREE_BLOCK_COUNT ≡ (opening_tables b).cursors FREE_BLOCK_COUNT) × (s.tables.cursors FREE_BLOCK_COUNT ≤ (limits_of b).blocks)
block_count b s is =
    let e = is.fixed.cursors FREE_BLOCK_COUNT (λ q. absurd (omega arith)) (λ q. absurd (omega arith)) (λ q. absurd (omega arith)) (λ q. absurd (omega arith)) (λ q. absurd (omega arith)) in
    let few = is.begins.listed.few_blocks in (e, omega (arith, e, few))

-- a listed run is one of its block, and a listed block one of the heap
pub record HasListedRun (t : Tables) (blocks k : ℕ) (r : Run) : Type 0 where
  pub word : t.runs k ≡ word_of_run r
  pub some : 1 ≤ r.lines
  pub block : r.block < blocks
  pub within : r.line + r.lines ≤ LINES_IN_BLOCK

-- a listed run lies in a block of the heap
pub run_listed : (b : Beginning) (s : EpochState) (k : ℕ) → IsEpoch b s → k < (opening_tables b).cursors RUN_COUNT → (r : Run) × HasListedRun s.tables (limits_of b).blocks k r
run_listed b s k is listed =
    let found = is.begins.listed.runs k listed in (
      found.0,
      record {
        word = ap (λ t. t.runs k) is.fixed.tables ∙ found.1.word;
        some = found.1.some;
        block = found.1.run.run.block;
        within = found.1.run.run.within;
      },
    )

-- a listed block is one of the heap
pub block_listed : (b : Beginning) (s : EpochState) (k : ℕ) → IsEpoch b s → k < (opening_tables b).cursors FREE_BLOCK_COUNT → s.tables.frees k < (limits_of b).blocks
block_listed b s k is listed =
    subst (λ x. x < (limits_of b).blocks) (sym (ap (λ t. t.frees k) is.fixed.tables)) (is.begins.listed.blocks k listed).block

-- an object that is being made lies in the heap
pub making_there : {d : Drawers} {t : ℕ} (b : Beginning) (s : EpochState) (place : ℕ) (shape : Shape) → IsEpoch b s → MakesIn b d t place shape → first_word place + word_count shape ≤ WORDS_IN_BLOCK * (limits_of b).blocks
making_there b s place shape is makes =
    let even : word_count shape ≡ word_count shape / 2 * 2 = omega arith in
    let some = makes.placed in
    elim makes.drawn [
      | inl run ↦
          let lists = run.lists in
          let block = lists.run.run.block in let lines = lists.run.run.within in let end = run.within.1 in
          in_run place (word_count shape) run.run.block (run.run.line + run.run.lines) (limits_of b).blocks some even block lines end
      | inr free ↦
          let block = (is.begins.listed.blocks free.number free.listed).block in let end = free.within.1 in
          in_run place (word_count shape) ((opening_tables b).frees free.number) LINES_IN_BLOCK (limits_of b).blocks some even block (omega arith) (omega (arith, end))
    ]
  where
    in_run : (place words block lines blocks : ℕ) → 1 ≤ place → words ≡ words / 2 * 2 → block < blocks → lines ≤ LINES_IN_BLOCK → place - 1 + words / 2 ≤ GRANULES_IN_BLOCK * block + GRANULES_IN_LINE * lines
        → 2 * (place - 1) + words ≤ WORDS_IN_BLOCK * blocks
    in_run place words block lines blocks some even there low end = omega arith
