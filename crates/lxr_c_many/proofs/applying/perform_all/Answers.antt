use Rattle.std.proofs.Common.{◌+◌, ◌<◌, ◌∙◌, ap, refl, sym, subst, arith, [], ◌∷◌, ◌++◌, length, get_or, set}
use Rattle.std.proofs.lemmas.List.{length_push}
use Rattle.lxr_c_base.specs.declared.codes.Code.TheVariants as code
use Rattle.lxr_c_heap.specs.Hosting.{registers_in}
use Rattle.lxr_c_many.specs.declared.asked.Operation.{Operation}
use Rattle.lxr_c_many.specs.Applying.{Applies, Asks, PerformsEntry, all_told, with_told}
use Rattle.lxr_c_many.proofs.ApplyLemmas.{asks_at, ends, entry_host, goes_more, goes_none, none_told, stops, told_long, told_next, untold_at}
use Rattle.lxr_c_many.proofs.applying.perform_all.Goals as goal

abbrev zero_entry : Operation
zero_entry = record { op = 0; a = 0; b = 0; c = 0; word = 0 }

pub loop-i-init : goal.loop-i-init
loop-i-init c = record {
  serving = c.requires.serving;
  registers = refl;
  told = [];
  entries = sym (none_told c.args.entries.now);
  long = refl;
  goes = λ h is. (h, is, goes_none c.args.heap.now h c.args.entries.now);
}

pub perform_at-requires-clause-asks : goal.perform_at-requires-clause-asks
perform_at-requires-clause-asks c =
    let inv = c.loop-i.invariant in
    let same = ap length inv.entries ∙ told_long c.args.entries.now inv.told in
    let few = inv.long in
    subst (λ n. Asks n (get_or c.loop-i.entries c.loop-i.i zero_entry)) (sym inv.registers)
    (subst (Asks (registers_in c.args.heap.now)) (sym (ap (λ zs. get_or zs c.loop-i.i zero_entry) inv.entries ∙ untold_at c.args.entries.now inv.told c.loop-i.i zero_entry (omega (arith, few))))
    (asks_at (registers_in c.args.heap.now) c.args.entries.now c.loop-i.i zero_entry c.requires.ask (omega (arith, same))))

pub loop-i-preserved : goal.loop-i-preserved
loop-i-preserved c =
    let inv = c.loop-i.invariant in
    let es = c.args.entries.now in
    let i = c.loop-i.i in
    let long = ap length inv.entries ∙ told_long es inv.told in
    let few = inv.long in
    let within : i < length es = omega (arith, long) in
    let old = ap (λ zs. get_or zs i zero_entry) inv.entries ∙ untold_at es inv.told i zero_entry (omega (arith, few)) in
    let (t, told, new, performs) = c.perform_at.ensures.performs in
    record {
      serving = c.perform_at.ensures.serving;
      registers = c.perform_at.ensures.registers ∙ inv.registers;
      told = inv.told ++ t ∷ [];
      entries = ap (λ zs. set zs i c.perform_at.new.entry) inv.entries ∙ ap (λ e. set (all_told es inv.told) i e) (new ∙ ap (λ e. with_told e t) old) ∙ told_next es inv.told i zero_entry t few within;
      long = length_push inv.told t ∙ ap (λ n. n + 1) few;
      goes = λ h is.
          let (k, host, goes) = inv.goes h is in
          let (j, done) = performs k host in
          let entry = subst (λ e. PerformsEntry c.loop-i.heap k e c.perform_at.new.heap j t) old done in
          (j, entry_host c.loop-i.heap c.perform_at.new.heap k j (get_or es i zero_entry) t host entry, goes_more c.args.heap.now h es i inv.told c.loop-i.heap k goes zero_entry c.perform_at.new.heap j t within entry (sym told ∙ c.in-Done.is));
    }

pub returns-in_default-clause-applies : goal.returns-in_default-clause-applies
returns-in_default-clause-applies c =
    let inv = c.loop-i.invariant in
    let es = c.args.entries.now in
    let i = c.loop-i.i in
    let long = ap length inv.entries ∙ told_long es inv.told in
    let few = inv.long in
    let within : i < length es = omega (arith, long) in
    let old = ap (λ zs. get_or zs i zero_entry) inv.entries ∙ untold_at es inv.told i zero_entry (omega (arith, few)) in
    let (t, told, new, performs) = c.perform_at.ensures.performs in (
      inv.told ++ t ∷ [],
      ap (λ zs. set zs i c.perform_at.new.entry) inv.entries ∙ ap (λ e. set (all_told es inv.told) i e) (new ∙ ap (λ e. with_told e t) old) ∙ told_next es inv.told i zero_entry t few within,
      λ h is.
          let (k, host, goes) = inv.goes h is in
          let (j, done) = performs k host in
          let entry = subst (λ e. PerformsEntry c.loop-i.heap k e c.perform_at.new.heap j t) old done in (
            j,
            subst (λ q. Applies c.args.heap.now h es c.perform_at.new.heap j (inv.told ++ t ∷ []) (record { code = q; done = i })) (sym told)
                (stops c.args.heap.now h es i inv.told c.loop-i.heap k goes zero_entry c.perform_at.new.heap j t within entry (λ done. c.in_default.not-Done (told ∙ done))),
          ),
    )

pub returns-clause-applies : goal.returns-clause-applies
returns-clause-applies c =
    let inv = c.loop-i.invariant in
    let es = c.args.entries.now in
    let long = ap length inv.entries ∙ told_long es inv.told in (
      inv.told,
      inv.entries,
      λ h is.
          let (k, host, goes) = inv.goes h is in
          (k, subst (λ n. Applies c.args.heap.now h es c.loop-i.heap k inv.told (record { code = code.Done; done = n })) (omega arith) (ends c.args.heap.now h es c.loop-i.i inv.told c.loop-i.heap k goes (omega (arith, long)))),
    )
