use Rattle.std.proofs.Common.{arith, ◌+◌, ◌-◌, ◌/◌, get_or}
use Rattle.std.proofs.lemmas.Option.{slice_get-get_or}
use Rattle.lxr_large_bodies.proofs.Sorted.{halves_lower, halves_upper, nobody}
use Rattle.lxr_large_bodies.proofs.entries.position.Goals as goal

pub loop-from-preserved-then-rank-wanted : goal.loop-from-preserved-then-rank-wanted
loop-from-preserved-then-rank-wanted c =
    let less = c.loop-from-test.true in
    let within = c.loop-from.invariant.within in
    let at = c.loop-from.from + (c.loop-from.end - c.loop-from.from) / 2 in
    let number = c.rank.ensures.number in
    let test = c.if-rank-wanted.true in
    halves_upper c.args.entries.now c.rank-wanted.result c.loop-from.from c.loop-from.end at (get_or c.args.entries.now at nobody) c.requires (omega arith) (omega (arith, less)) (slice_get-get_or c.args.entries.now at nobody (omega (arith, less, within))) (rw number at test) c.loop-from.invariant

pub loop-from-preserved : goal.loop-from-preserved
loop-from-preserved c =
    let less = c.loop-from-test.true in
    let within = c.loop-from.invariant.within in
    let at = c.loop-from.from + (c.loop-from.end - c.loop-from.from) / 2 in
    let number = c.rank.ensures.number in
    let test = c.if-rank-wanted.false in
    halves_lower c.args.entries.now c.rank-wanted.result c.loop-from.from c.loop-from.end at (get_or c.args.entries.now at nobody) c.requires (omega arith) (omega (arith, less)) (slice_get-get_or c.args.entries.now at nobody (omega (arith, less, within))) (rw number at test) c.loop-from.invariant
