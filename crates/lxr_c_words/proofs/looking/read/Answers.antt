use Rattle.std.proofs.Common.{◌∙◌, ap, refl, sym, Some}
use mathlib.Core.Logic.{∥∥₁_elim, ∥∥₁_prop}
use Rattle.lxr_c_base.specs.Requests.{register_of}
use Rattle.lxr_c_heap.specs.Keeping.{registers_kept}
use Rattle.lxr_c_heap.proofs.CallLemmas.{looks_seen}
use Rattle.lxr_c_heap.proofs.RegisterLemmas.{still_counted}
use Rattle.lxr_c_words.specs.Looking.{SeesWords}
use Rattle.lxr_c_words.proofs.looking.read.Goals as goal

pub read_words-requires : goal.read_words-requires
read_words-requires c = record { holds = ∥∥₁_elim (c.args.handle.now.serving c.lend.result.now c.lend.ensures.heap).holds ∥∥₁_prop (λ of. ∣ (of.0, of.1.heap) ∣₁) }

pub invariant_of-handle-clause-counted : goal.invariant_of-handle-clause-counted
invariant_of-handle-clause-counted c = still_counted c.args.handle.now.block.value c.lend.result.now c.lend.result.now _ c.args.handle.now.counted c.lend.ensures.heap refl

pub invariant_of-handle-clause-serving : goal.invariant_of-handle-clause-serving
invariant_of-handle-clause-serving c = λ x is. c.args.handle.now.serving x (c.lend.ensures.heap ∙ is)

pub returns-clause-reads : goal.returns-clause-reads
returns-clause-reads c =
    looks_seen (SeesWords c.args.first c.args.words.now c.read_words.new.into) c.args.handle.now.block.value (Some c.lend.result.now) c.lend.result.now (register_of (registers_kept c.args.handle.now.block.value) c.args.base) c.in_ok-base.base c.read_words.result
    c.lend.ensures.heap refl (sym (ap (λ n. register_of n c.args.base) c.registers.ensures.counted) ∙ sym c.register_of.ensures.asked ∙ c.in_ok-base.was) c.read_words.ensures
