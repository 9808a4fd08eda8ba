use Rattle.std.proofs.Common.{arith}
use Rattle.lxr_run_threads.proofs.DealingLemmas.{none_more}
use Rattle.lxr_run_threads.proofs.dealing.Dealing.prepare.Goals as goal

pub loop-own-preserved : goal.loop-own-preserved
loop-own-preserved c =
    let before = c.loop-own.invariant in
    let more = c.push_reserved.ensures.len in
    let fewer = c.in-Some.ensures.len in
    record {
      count = let count = before.count in omega arith;
      room = let room = before.room in let same = c.push_reserved.ensures.capacity in omega arith;
      empty = none_more c.loop-own.hands.items c.push_reserved.new.self.items _ c.push_reserved.ensures.items before.empty c.in_ok-passes.ensures.items;
    }
