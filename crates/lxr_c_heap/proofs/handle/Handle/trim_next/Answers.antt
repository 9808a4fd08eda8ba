use Rattle.std.proofs.Common.{ap, refl, Some, subst, sym}
use Rattle.std.proofs.lemmas.Option.{same_Some}
use Rattle.lxr_c_heap.specs.Hosting.{IsServing, registers_in}
use Rattle.lxr_c_heap.specs.Trimming.{Trims}
use Rattle.lxr_c_heap.proofs.RegisterLemmas.{still_counted}
use Rattle.lxr_c_heap.proofs.TrimmingLemmas.{trims_done}
use Rattle.lxr_c_heap.proofs.handle.Handle.trim_next.Goals as goal

pub trim_next-requires : goal.trim_next-requires
trim_next-requires c = record { serving = c.args.self.now.serving c.lend.result.now c.lend.ensures.heap }

pub invariant_of-self-clause-counted : goal.invariant_of-self-clause-counted
invariant_of-self-clause-counted c =
    let x = c.lend.result.now in
    still_counted c.args.self.now.block.value x c.trim_next.new.self _ c.args.self.now.counted c.lend.ensures.heap (ap registers_in c.trim_next.ensures.trims.rest)

pub invariant_of-self-clause-serving : goal.invariant_of-self-clause-serving
invariant_of-self-clause-serving c = λ x is. subst IsServing (same_Some c.trim_next.new.self x is) c.trim_next.ensures.serving

pub returns : goal.returns
returns c =
    let x = c.lend.result.now in
    subst (Trims c.args.from c.args.self.now.block.value (Some c.trim_next.new.self)) (sym c.told_block.ensures)
    (trims_done c.args.from c.args.self.now.block.value (Some c.trim_next.new.self) x c.trim_next.new.self c.trim_next.result c.lend.ensures.heap refl c.trim_next.ensures.trims)
