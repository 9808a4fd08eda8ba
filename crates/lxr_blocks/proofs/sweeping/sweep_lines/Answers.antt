use Rattle.std.proofs.Common.{◌≡◌, ◌+◌, ap, arith, refl, subst}
use Rattle.lxr_image.specs.Spaces.{Turns, tables_of}
use Rattle.lxr_image.proofs.SpaceLemmas.{still_space}
use Rattle.lxr_blocks.specs.States.{with_state_by_lines}
use Rattle.lxr_blocks.specs.Swept.{with_states_by_lines}
use Rattle.lxr_blocks.proofs.SweptLemmas.{more_swept, none_swept, passed_swept}
use Rattle.lxr_blocks.proofs.sweeping.sweep_lines.Goals as goal

pub loop-block-init : goal.loop-block-init
loop-block-init c =
    let s = c.args.space.now in let t = tables_of s in
    let next = c.next_noted-block.ensures in
    record {
      space = c.requires;
      turns = record {
        tables = passed_swept t t 0 c.next_noted-block.result (none_swept t) (omega arith) (λ k from within. next.passed k (omega arith) within);
        rest = refl;
      };
      within = next.range.1;
    }

pub next_noted-block-requires-in-loop-block : goal.next_noted-block-requires-in-loop-block
next_noted-block-requires-in-loop-block c =
    let turned = ap (λ z. z.limits.blocks) c.renew_state.ensures.rest in let below = c.loop-block-test.true in omega (arith, turned, below)

pub loop-block-preserved : goal.loop-block-preserved
loop-block-preserved c =
    let s = c.args.space.now in let t = tables_of s in
    let before = c.loop-block.invariant in
    let block = c.loop-block.block in
    let swept = c.renew_state.new.space in
    let one : Turns s swept (with_states_by_lines t (block + 1)) = more_swept s c.loop-block.space swept block before.turns c.renew_state.ensures in
    let last : swept.limits.blocks ≡ s.limits.blocks = ap (λ z. z.limits.blocks) one.rest in
    let next = c.next_noted-block-in-loop-block.ensures in
    let end = next.range.1 in
    record {
      space = still_space c.loop-block.space swept (with_state_by_lines (tables_of c.loop-block.space) block) before.space c.renew_state.ensures refl;
      turns = record {
        tables = passed_swept t (tables_of swept) (block + 1) c.next_noted-block-in-loop-block.result one.tables next.range.0 (λ k from within. next.passed k from within);
        rest = one.rest;
      };
      within = omega (arith, end, last);
    }

pub returns-clause-states : goal.returns-clause-states
returns-clause-states c =
    let before = c.loop-block.invariant in
    let within = before.within in let past = c.loop-block-test.false in
    let same = ap (λ z. z.limits.blocks) before.turns.rest in
    let end : c.loop-block.block ≡ c.args.space.now.limits.blocks = omega (arith, within, past, same) in
    subst (λ n. Turns c.args.space.now c.loop-block.space (with_states_by_lines (tables_of c.args.space.now) n)) end before.turns
