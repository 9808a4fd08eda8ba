use Rattle.std.proofs.Common.{◌≡◌, ◌++◌, ◌∷◌, [], map}
use Rattle.std.proofs.lemmas.List.{map_push}
use Rattle.lxr_text_script.proofs.Rounds.{thread_more, threads_done, load_fits}
use Rattle.lxr_text_script.proofs.load.make_load.Goals as goal

pub loop-made-preserved : goal.loop-made-preserved
loop-made-preserved c =
    let more : map (λ operations. operations.items) c.push.new.self.items ≡ map (λ operations. operations.items) c.loop-made.lists.items ++ c.in_ok-operations.operations.items ∷ [] = rw c.in_ok-push.ensures.items (map_push _ c.loop-made.lists.items c.in_ok-operations.operations) in
    rw more (thread_more _ c.in_ok-operations.operations.items c.args.seed c.args.rounds c.args.threads c.loop-made.made _ c.loop-made-test.true c.in_ok-operations.ensures c.loop-made.invariant)

pub returns-clause-operations : goal.returns-clause-operations
returns-clause-operations c = rw c.from_vec.ensures (threads_done _ c.args.seed c.args.rounds c.args.threads c.loop-made.made _ c.loop-made-test.false c.loop-made.invariant)

pub returns-clause-limits : goal.returns-clause-limits
returns-clause-limits c =
    let same = threads_done _ c.args.seed c.args.rounds c.args.threads c.loop-made.made _ c.loop-made-test.false c.loop-made.invariant in
    rw (c.from_vec.ensures, same) (load_fits c.args.seed c.args.threads c.args.rounds c.requires.threads.0 c.requires.threads.1 c.requires.rounds.1)
