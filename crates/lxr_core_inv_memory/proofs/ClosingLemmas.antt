-- How far cursors may be, and how many objects there are where each listed block is drawn.
use Rattle.std.proofs.Common.{◌≡◌, ◌≢◌, ℕ, zero, suc, ◌+◌, ◌*◌, ◌/◌, ◌^◌, ◌<◌, ◌≤◌, refl, sym, ap, subst, ◌∙◌, inl, inr, ◌⊎◌, arith, false, List, length}
use Rattle.std.specs.Prelude.{IsTrue}
use Rattle.std.proofs.lemmas.Bool.{false_from_ne_true}
use Rattle.std.proofs.lemmas.List.{length-append}
use Rattle.lxr_layout.specs.declared.TheConstants.{FREE_BLOCK_COUNT, FREE_BLOCK_CURSOR, GRANULES_IN_BLOCK, LINES_IN_BLOCK, RUN_CURSOR}
use Rattle.lxr_layout.specs.declared.Name.{Name}
use Rattle.lxr_graph.specs.History.{Item}
use Rattle.lxr_graph.specs.Names.{has}
use Rattle.lxr_graph.specs.State.{world_name}
use Rattle.lxr_image.specs.Tables.{Tables}
use Rattle.lxr_image.specs.Reads.{granule_of}
use Rattle.lxr_blocks.specs.declared.states.BlockState.{BlockState}
use Rattle.lxr_blocks.specs.declared.states.BlockState.TheVariants.{Chosen, Free, Partly, Whole, World}
use Rattle.lxr_blocks.specs.Lines.{free_in}
use Rattle.lxr_blocks.specs.States.{is_fixed, state_in}
use Rattle.lxr_blocks.proofs.LineLemmas.{all_free_state}
use Rattle.lxr_model.specs.Moments.{Moment, moment}
use Rattle.lxr_model.proofs.HistoryLemmas.{made_old}
use Rattle.lxr_invariant.specs.AbstractState.{members}
use Rattle.lxr_invariant.specs.Listed.{FreeBlocksAreListed}
use Rattle.lxr_invariant.proofs.NameLemmas.{in_either, in_first, in_second}
use Rattle.lxr_full.proofs.TakenLines.{all_or_one}
use Rattle.lxr_full.proofs.RoomLemmas.{member_takes, pigeonhole, begins_in_block, told_free}
use Rattle.lxr_alloc.specs.declared.TheConstants.{MOST_OPERATIONS}
use Rattle.lxr_core_invariant.specs.ThreadStates.{Stage, ThreadState, GivesUp, Rests, Works, Names, Through}
use Rattle.lxr_core_invariant.specs.EpochStates.{Beginning, Extends, EpochState, same, called, limits_of, moment_of, opening_tables}
use Rattle.lxr_core_invariant.specs.Drawn.{HasMadeInBlock, IsHandOf, IsUsed, MakesInBlock, block_draws, run_draws, total}
use Rattle.lxr_core_invariant.specs.Called.{IsWithinTurn}
use Rattle.lxr_core_invariant.specs.Epoch.{AreResting, IsEpoch, IsResting}
use Rattle.lxr_core_invariant.specs.Laws.{AllBlocksAreTaken, CursorsAreFar}
use Rattle.lxr_core_inv_memory.proofs.ThreadStateLemmas.{total_bound}
use Rattle.lxr_core_inv_memory.proofs.FixedLemmas.{few_blocks, few_runs}

-- ---- cursors

-- a mutator has no more replies than operations and its end
few_replies : (s : EpochState) (v : ThreadState) (stage : Stage) → IsWithinTurn s v stage → length v.replies ≤ length v.operations + 1
few_replies s v Rests on = let few = on.1 in omega (arith, few)
few_replies s v (Works (GivesUp reason)) on = let few = on.1 in omega (arith, few)
few_replies s v (Works intent) on = let few = on.1 in omega (arith, few)
few_replies s v (Names place) on = let few = on.1 in omega (arith, few)
few_replies s v (Through reason) on = let few = on.1 in omega (arith, few)

-- so its replies and a draw are few
draws_bound : (b : Beginning) (s : EpochState) (draws : Stage → ℕ) → IsEpoch b s → ((stage : Stage) → draws stage ≤ 1) → total (λ v. length v.replies + draws v.stage) s.thread_states ≤ length s.thread_states * (MOST_OPERATIONS + 2)
draws_bound b s draws is one = total_bound (λ v. length v.replies + draws v.stage) s.thread_states (MOST_OPERATIONS + 2) (λ i v there.
    let called = is.called.each i v there in
    let replies = few_replies s v v.stage called.within_turn in
    let few = called.few in
    let draw = one v.stage in
    omega (arith, replies, few, draw))

-- few threads with few replies leave a cursor far below 2^63
far : (cursor sum thread_states threads : ℕ) → cursor ≤ sum → sum ≤ thread_states * (MOST_OPERATIONS + 2) → thread_states ≡ threads → threads ≤ 255 → cursor < 2 ^ 63
far cursor sum thread_states threads a b c d = omega (arith, a, b, c, d)

-- the cursors of runs and of blocks stay below 2^63
pub cursors_are_far : CursorsAreFar
cursors_are_far b s is =
    let many = is.called.as_many in
    let threads = is.begins.between.safepoint.holds.space.limits.threads.1 in (
      far (s.tables.cursors RUN_CURSOR) _ (length s.thread_states) (limits_of b).threads is.fixed.runs (draws_bound b s run_draws is few_runs) many threads,
      far (s.tables.cursors FREE_BLOCK_CURSOR) _ (length s.thread_states) (limits_of b).threads is.fixed.blocks (draws_bound b s block_draws is few_blocks) many threads,
    )

-- ---- what was a member is one

-- a member at one moment of an epoch is one at each later moment
member_stays : (threads every : ℕ) (h k : List Item) (n : Name) → Extends threads every h k → IsTrue (has (members (moment threads h)) n) → IsTrue (has (members (moment threads k)) n)
member_stays threads every h k n (same) member = member
member_stays threads every h k n (called l t o r before call) member =
    let m : Moment = moment threads l in
    elim (in_either m.unreclaimed m.made n (member_stays threads every h l n before member)) [
      | inl old ↦ in_first m.unreclaimed _ n old
      | inr made ↦ in_second m.unreclaimed _ n (made_old m.made r n made)
    ]

-- ---- a block that isn't Free has an object

-- a state that is neither Chosen nor World may change with free lines
unfixed : (state : BlockState) → state ≢ Chosen → state ≢ World → is_fixed state ≡ false
unfixed Free not_chosen not_world = refl
unfixed Partly not_chosen not_world = refl
unfixed Whole not_chosen not_world = refl
unfixed Chosen not_chosen not_world = absurd (not_chosen refl)
unfixed World not_chosen not_world = absurd (not_world refl)

-- a block has a member's object, or it is Free
abbrev HasObjectIn : Beginning → EpochState → ℕ → Type 0
HasObjectIn b s n = (x : Name) × IsTrue (has (members (moment_of b s)) x) × (granule_of (s.at x) / GRANULES_IN_BLOCK ≡ n)

-- what began in a block as the epoch opened does so now
began_in : (b : Beginning) (s : EpochState) (n : ℕ) → IsEpoch b s → (x : Name) → IsTrue (has (members b.abstract_state.moment) x) → granule_of (b.abstract_state.at x) / GRANULES_IN_BLOCK ≡ n → HasObjectIn b s n
began_in b s n is x member began = (
  x,
  member_stays (limits_of b).threads b.every b.history s.history x is.extends (subst (λ m. IsTrue (has (members m) x)) is.begins.moment member),
  ap (λ p. granule_of p / GRANULES_IN_BLOCK) (is.image.placed.unmoved x member) ∙ began,
)

-- behind the world's block, a block that isn't Chosen is Free as the epoch opens or has an object
free_or_taken : (b : Beginning) (s : EpochState) (n : ℕ) → IsEpoch b s → 1 ≤ n → n < (limits_of b).blocks → state_in (opening_tables b) n ≢ Chosen → (state_in (opening_tables b) n ≡ Free) ⊎ HasObjectIn b s n
free_or_taken b s n is some below not_chosen =
    let between = is.begins.between in
    let holds = between.safepoint.holds in
    let t : Tables = opening_tables b in
    let by_lines = between.states n below (unfixed (state_in t n) not_chosen (holds.blocks.others n some below)) in
    elim (all_or_one (λ i. IsTrue (free_in t n i)) LINES_IN_BLOCK (told_free t n)) [
      | inl free ↦ inl (by_lines ∙ sym (all_free_state t n free))
      | inr x ↦
          let taken = member_takes b.space b.abstract_state holds between.outs (LINES_IN_BLOCK * n + x.0) (false_from_ne_true (free_in t n x.0) x.2) in
          let began = begins_in_block t (limits_of b).blocks b.abstract_state.moment.state.graph b.abstract_state.at (members b.abstract_state.moment) n x.0 holds.image.image x.1 taken in
          inr (began_in b s n is began.0 began.1 began.2)
    ]

-- ---- a Free block has an object by now

-- who rests has no block in hand
no_hand : (stage : Stage) (k : ℕ) → IsResting stage → IsHandOf stage k → ⊥
no_hand Rests k rests hand = hand
no_hand (Through why) k rests hand = hand
no_hand (Works intent) k rests hand = rests
no_hand (Names place) k rests hand = rests

-- who rests makes no object
no_making : (b : Beginning) (stage : Stage) (k : ℕ) → IsResting stage → MakesInBlock b stage k → ⊥
no_making b Rests k rests making = making
no_making b (Through why) k rests making = making
no_making b (Works intent) k rests making = rests
no_making b (Names place) k rests making = rests

-- a granule between a block's first and the next block's is of the block
block_at : (g found n : ℕ) → GRANULES_IN_BLOCK * found ≤ g → g < GRANULES_IN_BLOCK * (found + 1) → found ≡ n → g / GRANULES_IN_BLOCK ≡ n
block_at g found n low high same_block = omega arith

-- what was made in a listed block is a member's object there
made_in : (b : Beginning) (s : EpochState) (k n : ℕ) → (opening_tables b).frees k ≡ n → HasMadeInBlock b s k → HasObjectIn b s n
made_in b s k n found made = (
  made.name,
  in_second (moment_of b s).unreclaimed (moment_of b s).made made.name made.made,
  block_at (granule_of (s.at made.name)) ((opening_tables b).frees k) n made.granule.first made.granule.behind found,
)

-- a drawn block has an object where all mutators rest
used_has : (b : Beginning) (s : EpochState) (k n : ℕ) → AreResting s → (opening_tables b).frees k ≡ n → IsUsed b s k → HasObjectIn b s n
used_has b s k n rest found (inl x) = absurd (no_hand x.1.0.stage k (rest x.0 x.1.0 x.1.1) x.1.2)
used_has b s k n rest found (inr (inl x)) = absurd (no_making b x.1.0.stage k (rest x.0 x.1.0 x.1.1) x.1.2)
used_has b s k n rest found (inr (inr made)) = made_in b s k n found made

-- ---- each block

-- each block that isn't Chosen has an object where all rest and each listed block is drawn
block_has : (b : Beginning) (s : EpochState) → IsEpoch b s → FreeBlocksAreListed b.space → AreResting s → s.tables.cursors FREE_BLOCK_COUNT ≤ s.tables.cursors FREE_BLOCK_CURSOR → (n : ℕ) → n < (limits_of b).blocks → state_in (opening_tables b) n ≢ Chosen
    → HasObjectIn b s n
block_has b s is whole rest drawn zero below unchosen = (
  world_name,
  in_first (moment_of b s).unreclaimed (moment_of b s).made world_name (is.lives.stuck world_name is.lives.world),
  (let place = is.image.placed.world in omega (arith, place)),
)
block_has b s is whole rest drawn (suc n) below unchosen = elim (free_or_taken b s (suc n) is (omega arith) below unchosen) [
  | inr taken ↦ taken
  | inl free ↦
      let k = whole (suc n) below free in
      let fixed = is.fixed.cursors FREE_BLOCK_COUNT (λ e. cc) (λ e. cc) (λ e. cc) (λ e. cc) (λ e. cc) in
      let listed = k.1 in
      used_has b s k.0 (suc n) rest k.2 (is.drawn.used k.0 (omega (arith, listed, fixed, drawn)) listed)
]

-- so objects are at least as many as such blocks, and no more are Chosen than may be
pub all_blocks_are_taken : AllBlocksAreTaken
all_blocks_are_taken b s is whole rest drawn =
    let many = pigeonhole (opening_tables b) (λ n. granule_of (s.at n) / GRANULES_IN_BLOCK) (members (moment_of b s)) (limits_of b).blocks (block_has b s is whole rest drawn) in
    let few = is.begins.between.safepoint.holds.blocks.few in
    let sum = length-append (moment_of b s).unreclaimed (moment_of b s).made in
    omega (arith, many, few, sum)
