use Rattle.std.proofs.Common.{◌∙◌, length, get_or}
use Rattle.std.proofs.lemmas.Option.{get_or_from_slice_get, slice_get-get_or}
use Rattle.lxr_large_bodies.proofs.Sorted.{nobody}
use Rattle.lxr_large_bodies.proofs.Views.{free_before, taken_first, taken_next}
use Rattle.lxr_large_bodies.proofs.entries.take_all.Goals as goal

pub loop-entry-init : goal.loop-entry-init
loop-entry-init c = record {
  as_many = c.fill.ensures.len;
  taken = taken_first c.fill.new.self (length c.args.taken.now) (c.fill.ensures.after (λ y same. same));
}

pub take_run-requires-clause-free : goal.take_run-requires-clause-free
take_run-requires-clause-free c =
    let is = slice_get-get_or c.args.entries.now c.loop-entry.entry-index nobody c.loop-entry-test.true in
    λ k from below. c.loop-entry.invariant.taken.each k ∙ free_before c.args.entries.now c.loop-entry.entry-index k _ c.requires.sorted is from below

pub loop-entry-preserved : goal.loop-entry-preserved
loop-entry-preserved c =
    let is = slice_get-get_or c.args.entries.now c.loop-entry.entry-index nobody c.loop-entry-test.true in
    let e = get_or c.args.entries.now c.loop-entry.entry-index nobody in
    record {
      as_many = c.take_run.ensures.as_many ∙ c.loop-entry.invariant.as_many;
      taken = taken_next c.loop-entry.taken c.take_run.new.taken c.args.entries.now c.loop-entry.entry-index e is c.loop-entry-test.true (get_or_from_slice_get c.args.entries.now c.loop-entry.entry-index e e is) c.take_run.ensures c.loop-entry.invariant.taken;
    }
