use Rattle.std.proofs.Common.{arith}
use Rattle.lxr_text_script.specs.Reading.{lists_in}
use Rattle.lxr_run_loop.proofs.OpeningLemmas.{all_made}
use Rattle.lxr_run_loop.proofs.opening.make_actors.Goals as goal

pub add_helpers-requires-clause-room : goal.add_helpers-requires-clause-room
add_helpers-requires-clause-room c = let room = c.in_ok-actors.ensures.room in let is = c.from.ensures in omega arith

pub returns : goal.returns
returns c = all_made c.args.limits c.args.every c.args.workers (lists_in c.args.script) c.in_ok-actors.actors.items c.add_helpers.new.actors.items c.in_ok-actors.ensures.made c.in_ok-add_helpers.ensures
