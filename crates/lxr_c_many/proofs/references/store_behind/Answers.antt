use Rattle.std.proofs.Common.{◌∙◌, ◌+◌, ap, arith, length, subst, sym}
use Rattle.std.specs.Prelude.{option_map}
use Rattle.std.specs.Coded.{le_prop}
use mathlib.Core.Logic.{∥∥₁_elim, ∥∥₁_prop}
use Rattle.lxr_large_model.specs.History.{large_state}
use Rattle.lxr_c_many.specs.Fields.{store_of}
use Rattle.lxr_c_many.specs.Following.{Follows, newest_first}
use Rattle.lxr_c_many.specs.Steps.{MayBeStored}
use Rattle.lxr_c_many.proofs.FieldLemmas.{references_shaped, shape_of_references}
use Rattle.lxr_c_many.proofs.references.store_behind.Goals as goal

pub unreachable-requires : goal.unreachable-requires
unreachable-requires c = ∥∥₁_elim c.requires.ready (λ x y. absurd x) (λ of.
    let (h, is, may) = of in
    references_shaped (large_state h) c.args.base _ may.there (sym (ap (option_map (λ object. object.base.shape)) c.in-None.is) ∙ c.look_up.ensures.shape h is))

pub store_all-requires-clause-base : goal.store_all-requires-clause-base
store_all-requires-clause-base c = let base = c.requires.base in let same = c.in-Some.ensures.known.1 in omega (arith, base, same)

pub store_all-requires-clause-there : goal.store_all-requires-clause-there
store_all-requires-clause-there c = ∥∥₁_elim c.requires.ready le_prop (λ of.
    let (h, is, may) = of in
    shape_of_references (large_state h) c.args.base (c.args.first + length c.args.sources.now) c.in-Some.object.base.shape may.there (sym (ap (option_map (λ object. object.base.shape)) c.in-Some.is) ∙ c.look_up.ensures.shape h is))

pub store_all-requires-clause-ready : goal.store_all-requires-clause-ready
store_all-requires-clause-ready c = ∥∥₁_elim c.requires.ready ∥∥₁_prop (λ of.
    let (h, is, may) = of in
    ∣ (h, is, subst (λ base. MayBeStored c.args.heap.now.heap h base c.args.first (length c.args.sources.now)) (sym c.in-Some.ensures.known.1) may) ∣₁)

pub returns-clause-follows : goal.returns-clause-follows
returns-clause-follows c = λ h is may.
    let same = c.in-Some.ensures.known.1 in
    subst (λ base. Follows c.args.heap.now h c.store_all.new.heap (newest_first (store_of base) c.args.first c.args.sources.now)) same
    (c.store_all.ensures.follows h is (subst (λ base. MayBeStored c.args.heap.now.heap h base c.args.first (length c.args.sources.now)) (sym same) may))
