use Rattle.std.proofs.Common.{◌≡◌, ◌≢◌, ℕ, ◌-◌, ◌<◌, ◌≤◌, ◌++◌, ap, arith, length, length-append, refl, subst, sym}
use Rattle.lxr_image.specs.Settled.{StandsByLines}
use Rattle.lxr_image.specs.Spaces.{tables_of}
use Rattle.lxr_image.proofs.SpaceLemmas.{still_space}
use Rattle.lxr_blocks.specs.Listing.{block_frees, joined, numbers_from, with_frees}
use Rattle.lxr_blocks.specs.States.{AreFreeBlocks, state_in}
use Rattle.lxr_blocks.specs.declared.states.BlockState.TheVariants.{Free}
use Rattle.lxr_blocks.proofs.InTurnLemmas.{frees_more, frees_none, frees_step, stands_where_listed, stood_where_listed}
use Rattle.lxr_blocks.proofs.ListingLemmas.{joined_none, length_numbers}
use Rattle.lxr_blocks.proofs.in_turn.list_frees.Goals as goal

pub loop-at-init : goal.loop-at-init
loop-at-init c =
    let none = joined_none (block_frees (tables_of c.args.space.now)) in
    record {
      space = c.requires;
      turns = frees_none c.args.space.now (joined (block_frees (tables_of c.args.space.now)) 0) none;
      frees = sym (ap length none);
      room = omega arith;
      within = omega arith;
      noted = omega arith;
      known = λ b over below. absurd (omega (arith, below));
    }

pub next_noted-noted-requires-clause-known : goal.next_noted-noted-requires-clause-known
next_noted-noted-requires-clause-known c b over below =
    let before = c.loop-at.invariant in
    stands_where_listed c.args.space.now c.loop-at.space (joined (block_frees (tables_of c.args.space.now)) c.loop-at.at) b before.turns (before.known b over below)

pub loop-at-preserved : goal.loop-at-preserved
loop-at-preserved c =
    let s = c.args.space.now in let t = tables_of s in
    let before = c.loop-at.invariant in
    let at = c.loop-at.at in let noted = c.next_noted-noted.result in let first = c.next_maybe_free-first.result in let end = c.end_of_free-end.result in let next = c.min-at.result in
    let same : c.loop-at.space.limits.blocks ≡ s.limits.blocks = ap (λ z. z.limits.blocks) before.turns.rest in
    let stands = c.next_noted-noted.ensures in let maybe = c.next_maybe_free-first.ensures in let behind = c.end_of_free-end.ensures in let numbered = c.list_between-frees.ensures in
    let least = c.min-at.ensures in
    let known : (b : ℕ) → at ≤ b → b < noted → StandsByLines t b = λ b over below.
    stood_where_listed s c.loop-at.space (joined (block_frees t) at) b before.turns (stands.known b over below) in
    let used : (b : ℕ) → at ≤ b → b < first → state_in t b ≢ Free = subst (λ u. (b : ℕ) → at ≤ b → b < first → state_in u b ≢ Free) before.turns.tables maybe.used in
    let free : AreFreeBlocks t first end = subst (λ u. AreFreeBlocks u first end) before.turns.tables behind.free in
    let last : end < c.loop-at.space.limits.blocks → state_in t end ≢ Free = subst (λ u. end < c.loop-at.space.limits.blocks → state_in u end ≢ Free) before.turns.tables behind.used in
    let from = maybe.range in let to = behind.range in let ahead = stands.range in let room = before.room in let frees = before.frees in let told = numbered.count in
    let past : (b : ℕ) → end ≤ b → b < next → state_in t b ≢ Free = λ b over below.
    subst (λ n. state_in t n ≢ Free) (let z : end ≡ b = omega (arith, over, below, least) in z) (last (omega (arith, over, below, least, same))) in
    let all : joined (block_frees t) at ++ numbers_from first (end - first) ≡ joined (block_frees t) next =
    frees_step t at first end next from.0 used to.0 free (omega (arith, least, to, same)) past in
    let many = length-append (joined (block_frees t) at) (numbers_from first (end - first)) in
    let len = length_numbers first (end - first) in
    let sum = ap length all in
    record {
      space = still_space c.loop-at.space c.list_between-frees.new.space (with_frees (tables_of c.loop-at.space) c.loop-at.frees (numbers_from first (end - first))) before.space numbered.frees refl;
      turns = frees_more s c.loop-at.space c.list_between-frees.new.space c.loop-at.frees (joined (block_frees t) at) (numbers_from first (end - first)) (joined (block_frees t) next) before.turns before.frees all numbered.frees;
      frees = omega (arith, many, len, sum, frees, told);
      room = omega (arith, told, room, from, to, least, same);
      within = omega (arith, least);
      noted = omega (arith, ahead, same);
      known = λ b over below. known b (omega (arith, over, least, from, to, same)) below;
    }
