use Rattle.std.proofs.Common.{arith}
use Rattle.lxr_evac_moving.proofs.EntryLemmas.{all_entries_fixed, number_below, number_end}
use Rattle.lxr_evac_moving.proofs.references.fix_references.Goals as goal

pub loop-number-init : goal.loop-number-init
loop-number-init c = λ m st can. record { evacuating = can.evacuating; uncleared = can.uncleared; fixed = λ n i member within told. let below = told.1 in absurd (omega (arith, below)) }

pub fix_entry-requires : goal.fix_entry-requires
fix_entry-requires c =
    let r = c.requires in
    let before = c.loop-number.invariant r.0 r.1 r.2 in
    let h = number_below c.args.space.now c.loop-number.space r.0 r.1 c.loop-number.number c.entry_count-number-end.result r.2 before.evacuating c.entry_count-number-end.ensures c.loop-number-test.true in
    (r.0, r.1, before, h.0, h.1)

pub loop-number-preserved : goal.loop-number-preserved
loop-number-preserved c = λ m st can. c.fix_entry.ensures m st (c.loop-number.invariant m st can)

pub returns : goal.returns
returns c = λ m st can.
    let before = c.loop-number.invariant m st can in
    record {
      evacuating = before.evacuating;
      fixed = all_entries_fixed c.loop-number.space m st c.loop-number.number before can.whole (number_end c.args.space.now c.loop-number.space m st c.loop-number.number c.entry_count-number-end.result can before.evacuating
          c.entry_count-number-end.ensures c.loop-number-test.false);
    }
