use Rattle.std.proofs.Common.{arith}
use Rattle.std.specs.Prelude.{reverse}
use Rattle.lxr_layout.specs.declared.TheConstants.{DECREMENT_COUNT}
use Rattle.lxr_graph.proofs.NameSets.{not_both}
use Rattle.lxr_image.specs.Spaces.{tables_of}
use Rattle.lxr_pause_decrements.specs.declared.slices.Slice.TheVariants.{Done, Spent, Held}
use Rattle.lxr_pause_decrements.proofs.BridgeLemmas.{finishes_some, sliced_opening}
use Rattle.lxr_pause_decrements.proofs.SliceLemmas.{beside_both, beside_none, emptied_stage, none_waits, sliced_first, sliced_next}
use Rattle.lxr_pause_decrements.proofs.slices.finish_some.Goals as goal

pub loop-init : goal.loop-init
loop-init c = record { sliced = λ st is. (st.gone, sliced_first c.args.space.now st is); leaves = beside_none c.args.space.now }

pub is_waiting-requires : goal.is_waiting-requires
is_waiting-requires c =
    let x = c.loop.invariant.sliced _ (sliced_opening c.args.space.now c.requires.0 c.requires.1 c.requires.2) in
    x.1.sliced.opening.stage.space

pub returns-then-not-is_waiting : goal.returns-then-not-is_waiting
returns-then-not-is_waiting c = λ m at can.
    let x = c.loop.invariant.sliced _ (sliced_opening c.args.space.now m at can) in
    let none = none_waits ((tables_of c.loop.space).cursors DECREMENT_COUNT) c.is_waiting.result c.is_waiting.ensures c.if-not-is_waiting.true in
    let more = c.loop-test.true in
    (reverse x.0, finishes_some c.args.space.now c.loop.space m at c.args.units Done x.0 c.loop.counter can x.1 c.loop.invariant.leaves (omega (arith, more)) none)

pub is_held_back-requires-clause-stage : goal.is_held_back-requires-clause-stage
is_held_back-requires-clause-stage c =
    let x = c.loop.invariant.sliced _ (sliced_opening c.args.space.now c.requires.0 c.requires.1 c.requires.2) in
    (_, x.1.sliced)

pub returns-then-is_held_back : goal.returns-then-is_held_back
returns-then-is_held_back c = λ m at can.
    let x = c.loop.invariant.sliced _ (sliced_opening c.args.space.now m at can) in
    let held = (c.is_held_back.ensures _ x.1.sliced).0 c.if-is_held_back.true in
    let more = c.loop-test.true in
    (reverse x.0, finishes_some c.args.space.now c.loop.space m at c.args.units Held x.0 c.loop.counter can x.1 c.loop.invariant.leaves (omega (arith, more)) (omega (arith, more), held))

pub lower_last-requires : goal.lower_last-requires
lower_last-requires c =
    let x = c.loop.invariant.sliced _ (sliced_opening c.args.space.now c.requires.0 c.requires.1 c.requires.2) in
    (_, x.1.sliced, c.is_waiting.ensures.0 c.if-not-is_waiting.false, λ held. not_both c.is_held_back.result ((c.is_held_back.ensures _ x.1.sliced).1 held) c.if-is_held_back.false)

pub loop-preserved : goal.loop-preserved
loop-preserved c = record {
  sliced = λ st is.
      let x = c.loop.invariant.sliced st is in
      let y = c.lower_last.ensures.lowers (emptied_stage st x.0) x.1.sliced (λ held. not_both c.is_held_back.result ((c.is_held_back.ensures _ x.1.sliced).1 held) c.if-is_held_back.false) in
      (y.0, sliced_next c.args.space.now c.loop.space c.lower_last.new.space st x.0 y.0 c.loop.counter x.1 y.1);
  leaves = beside_both c.args.space.now c.loop.space c.lower_last.new.space c.loop.invariant.leaves c.lower_last.ensures.leaves;
}

pub is_waiting-requires-2 : goal.is_waiting-requires-2
is_waiting-requires-2 c =
    let x = c.loop.invariant.sliced _ (sliced_opening c.args.space.now c.requires.0 c.requires.1 c.requires.2) in
    x.1.sliced.opening.stage.space

pub returns-then-is_waiting : goal.returns-then-is_waiting
returns-then-is_waiting c = λ m at can.
    let x = c.loop.invariant.sliced _ (sliced_opening c.args.space.now m at can) in
    let most = c.loop.auto.counter-end in
    let done = c.loop-test.false in
    (reverse x.0, finishes_some c.args.space.now c.loop.space m at c.args.units Spent x.0 c.loop.counter can x.1 c.loop.invariant.leaves (omega (arith, most, done)) (c.is_waiting-2.ensures.0 c.if-is_waiting.true, omega (arith, most, done)))

pub returns-else-is_waiting : goal.returns-else-is_waiting
returns-else-is_waiting c = λ m at can.
    let x = c.loop.invariant.sliced _ (sliced_opening c.args.space.now m at can) in
    let none = none_waits ((tables_of c.loop.space).cursors DECREMENT_COUNT) c.is_waiting-2.result c.is_waiting-2.ensures c.if-is_waiting.false in
    let most = c.loop.auto.counter-end in
    let done = c.loop-test.false in
    (reverse x.0, finishes_some c.args.space.now c.loop.space m at c.args.units Done x.0 c.loop.counter can x.1 c.loop.invariant.leaves (omega (arith, most, done)) none)
