use Rattle.lxr_one_pause.proofs.SettlingLemmas.{at', can_finish, can_raise, gone, is_raised, left, registers_as_many, registers_width, settles}
use Rattle.lxr_one_pause.proofs.counting.settle_counts.Goals as goal

-- src/counting.rt:17:5
pub finish_decrements-requires : goal.finish_decrements-requires
finish_decrements-requires c =
    (c.requires.0.moment, c.requires.0.at, can_finish c.args.space.now c.begin_report.new.space c.requires.0 c.requires.1 c.begin_report.ensures)

-- src/counting.rt:18:5
pub increments-requires : goal.increments-requires
increments-requires c = (
  left c.args.space.now c.begin_report.new.space c.requires.0 c.requires.1 c.begin_report.ensures c.finish_decrements.new.space c.finish_decrements.ensures,
  c.requires.0.at,
  can_raise c.args.space.now c.begin_report.new.space c.requires.0 c.requires.1 c.begin_report.ensures c.finish_decrements.new.space c.finish_decrements.ensures,
)

-- src/counting.rt:19:5
pub queue_decrements-requires : goal.queue_decrements-requires
queue_decrements-requires c = (
  left c.args.space.now c.begin_report.new.space c.requires.0 c.requires.1 c.begin_report.ensures c.finish_decrements.new.space c.finish_decrements.ensures,
  at' c.args.space.now c.begin_report.new.space c.requires.0 c.requires.1 c.begin_report.ensures c.finish_decrements.new.space c.finish_decrements.ensures c.increments.new.space c.increments.ensures,
  c.increments.new.space.report.promoted.items,
  c.increments.new.space.report.stuck.items,
  is_raised c.args.space.now c.begin_report.new.space c.requires.0 c.requires.1 c.begin_report.ensures c.finish_decrements.new.space c.finish_decrements.ensures c.increments.new.space c.increments.ensures,
)

-- src/counting.rt:20:5
pub defer_roots-requires-clause-as_many : goal.defer_roots-requires-clause-as_many
defer_roots-requires-clause-as_many c =
    registers_as_many c.args.space.now c.begin_report.new.space c.requires.0 c.requires.1 c.begin_report.ensures c.finish_decrements.new.space c.finish_decrements.ensures c.increments.new.space c.increments.ensures
    c.queue_decrements.new.space c.queue_decrements.ensures

-- src/counting.rt:20:5
pub defer_roots-requires-clause-width : goal.defer_roots-requires-clause-width
defer_roots-requires-clause-width c =
    registers_width c.args.space.now c.begin_report.new.space c.requires.0 c.requires.1 c.begin_report.ensures c.finish_decrements.new.space c.finish_decrements.ensures c.increments.new.space c.increments.ensures
    c.queue_decrements.new.space c.queue_decrements.ensures

-- src/counting.rt:12:1
pub returns : goal.returns
returns c g can = (
  at' c.args.space.now c.begin_report.new.space g can c.begin_report.ensures c.finish_decrements.new.space c.finish_decrements.ensures c.increments.new.space c.increments.ensures,
  gone c.args.space.now c.begin_report.new.space g can c.begin_report.ensures c.finish_decrements.new.space c.finish_decrements.ensures,
  settles c.args.space.now c.begin_report.new.space g can c.begin_report.ensures c.finish_decrements.new.space c.finish_decrements.ensures c.increments.new.space c.increments.ensures
      c.queue_decrements.new.space c.queue_decrements.ensures c.defer_roots.new.space c.defer_roots.ensures,
)
