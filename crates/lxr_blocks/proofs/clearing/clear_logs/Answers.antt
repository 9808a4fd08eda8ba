use Rattle.std.proofs.Common.{◌≡◌, ℕ, ◌+◌, ◌-◌, ◌*◌, ◌/◌, ◌%◌, ◌≤◌, refl, sym, ◌∙◌, arith, subst}
use Rattle.lxr_image.specs.Spaces.{Turns, tables_of}
use Rattle.lxr_image.specs.Tables.{Tables}
use Rattle.lxr_image.proofs.SpaceLemmas.{turns_then}
use Rattle.lxr_blocks.specs.Clearing.{clear_between}
use Rattle.lxr_blocks.proofs.ClearingLemmas.{cleared_from_none, cleared_on}
use Rattle.lxr_blocks.proofs.clearing.clear_logs.Goals as goal

pub loop-from-init : goal.loop-from-init
loop-from-init c =
    let t : Tables = tables_of c.args.space.now in
    record {
      turns = subst (λ f. Turns c.args.space.now c.args.space.now (record t { unlogged = f })) (λ j k. sym (cleared_from_none t.unlogged c.args.at k) j) (record { tables = refl; rest = refl });
      reached = omega arith;
      within = omega arith;
    }

pub loop-from-preserved : goal.loop-from-preserved
loop-from-preserved c =
    let t : Tables = tables_of c.args.space.now in
    let before = c.loop-from.invariant in
    let from : ℕ = c.loop-from.from in
    let end : ℕ = c.min-end.result in
    let is_min = c.min-end.ensures in
    let more = c.loop-from-test.true in
    let up : from ≤ end = omega (arith, is_min, more) in
    let first_is : 64 * (from / 64) + from % 64 ≡ from = omega arith in
    let end_is : 64 * (from / 64) + (end - (from - from % 64)) ≡ end = omega (arith, is_min, more) in
    record {
      turns = turns_then c.args.space.now c.loop-from.space c.clear_logs_in.new.space _ _ before.turns
          (subst (Turns c.loop-from.space c.clear_logs_in.new.space)
          ((λ j. record (before.turns.tables j) { unlogged = clear_between (before.turns.tables j).unlogged (first_is j) (end_is j) })
          ∙ (λ j. record t { unlogged = λ k. cleared_on t.unlogged c.args.at from end k before.reached up j }))
          c.clear_logs_in.ensures);
      reached = let r = before.reached in omega (arith, r, up);
      within = omega (arith, is_min);
    }

pub returns : goal.returns
returns c =
    let t : Tables = tables_of c.args.space.now in
    let before = c.loop-from.invariant in
    let within = before.within in
    let done = c.loop-from-test.false in
    let count = c.from.ensures in
    let all : c.loop-from.from ≡ c.args.at + c.args.count = omega (arith, within, done, count) in
    subst (λ x. Turns c.args.space.now c.loop-from.space (record t { unlogged = clear_between t.unlogged c.args.at x })) all before.turns
