use Rattle.std.proofs.Common.{◌*◌, ◌≤◌, arith}
use Rattle.test_space.proofs.remembering.is_current_with.Goals as goal

pub is_current-requires-clause-entry : goal.is_current-requires-clause-entry
is_current-requires-clause-entry c =
    let blocks = c.requires.limits.blocks in
    let heap : 4096 * 1 ≤ 4096 * c.args.space.now.limits.blocks = omega arith in
    (c.args.counter, record { 0 = 33 }, 2, record { is = c.entry_word.ensures; entry = record { heap = blocks.1; counter = omega arith; place = (omega arith, omega arith); index = omega arith }; in_heap = omega arith })
