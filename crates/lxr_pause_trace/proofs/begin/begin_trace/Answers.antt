use Rattle.std.proofs.Common.{◌∙◌, ap, inl, inr}
use Rattle.lxr_invariant.proofs.UnusedLemmas.{starts_used}
use Rattle.lxr_pause_trace.proofs.TraceLemmas.{registers_place, registers_placed, trace_begun}
use Rattle.lxr_pause_trace.proofs.begin.begin_trace.Goals as goal

pub clear_all-requires : goal.clear_all-requires
clear_all-requires c =
    let holds = c.requires.2.holds in
    let used = starts_used c.args.space.now c.requires.0 c.requires.1 holds in
    record { space = holds.space; free = λ k some. used k (elim some [ inl mark ↦ holds.bits.marks k mark | inr gray ↦ holds.bits.grays k gray ]) }

pub shade_registers-requires-clause-places : goal.shade_registers-requires-clause-places
shade_registers-requires-clause-places c =
    registers_placed c.args.space.now c.set_gray.new.self (ap (λ z. z.limits) c.set_gray.ensures.rest ∙ ap (λ z. z.limits) c.clear_all.ensures.rest)
    (ap (λ z. z.registers) c.set_gray.ensures.rest ∙ ap (λ z. z.registers) c.clear_all.ensures.rest)
    (registers_place c.args.space.now c.requires.0 c.requires.1 c.requires.2)

pub returns : goal.returns
returns c = λ m at can. trace_begun c.args.space.now m at can c.clear_all.new.space c.set_gray.new.self c.shade_registers.new.space c.clear_all.ensures c.set_gray.ensures c.shade_registers.ensures
