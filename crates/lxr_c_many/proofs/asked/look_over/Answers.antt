use Rattle.std.proofs.Common.{refl, sym, subst, inl, inr, arith}
use Rattle.std.specs.Prelude.{Ok, Err}
use Rattle.std.proofs.lemmas.List.{drop_all, drop_more}
use Rattle.lxr_c_many.specs.Applying.{AllAsk}
use Rattle.lxr_c_many.proofs.asked.look_over.Goals as goal

pub loop-entry-init : goal.loop-entry-init
loop-entry-init c = λ answer all. all

pub loop-entry-preserved : goal.loop-entry-preserved
loop-entry-preserved c = λ answer rest.
    c.loop-entry.invariant answer (subst (λ es. AllAsk c.args.registers es answer) (sym (drop_more c.args.entries.now c.loop-entry.entry-index (record { op = 0; a = 0; b = 0; c = 0; word = 0 }) (omega arith)))
    (inl (c.in-Ok.ensures.asks, rest)))

pub returns-in-Err : goal.returns-in-Err
returns-in-Err c =
    c.loop-entry.invariant (Err c.in-Err.code) (subst (λ es. AllAsk c.args.registers es (Err c.in-Err.code)) (sym (drop_more c.args.entries.now c.loop-entry.entry-index (record { op = 0; a = 0; b = 0; c = 0; word = 0 }) (omega arith)))
    (inr (c.in-Err.code, c.in-Err.ensures.refused, refl)))

pub returns : goal.returns
returns c = c.loop-entry.invariant (Ok tt) (subst (λ es. AllAsk c.args.registers es (Ok tt)) (sym (drop_all c.loop-entry.entry-index c.args.entries.now c.loop-entry-test.false)) refl)
