use Rattle.std.proofs.Common.{subst, sym, [], ◌∷◌}
use Rattle.lxr_c_base.specs.declared.codes.Code.TheVariants.{Done}
use Rattle.lxr_c_arrays.specs.declared.reaching.Access.{Access}
use Rattle.lxr_c_arrays.specs.Operations.{load_of, nil_of}
use Rattle.lxr_c_arrays.specs.Plans.{touching}
use Rattle.lxr_c_arrays.specs.Running.{InPlan}
use Rattle.lxr_c_arrays.proofs.reaching.try_touch_through.Goals as goal

pub returns-in-Load-clause-plan : goal.returns-in-Load-clause-plan
returns-in-Load-clause-plan c = λ e.
    subst (λ (a : Access). InPlan c.args.heap.now (record { steps = load_of c.args.part c.args.root.register c.args.at ∷ touching a c.args.other c.args.part c.args.index ∷ []; last = nil_of c.args.part ∷ [] }) c.try_load_through.new.heap Done)
    (sym c.in-Load.is) (c.try_load_through.ensures.plan e)

pub returns-in-Store-clause-plan : goal.returns-in-Store-clause-plan
returns-in-Store-clause-plan c = λ e.
    subst (λ (a : Access). InPlan c.args.heap.now (record { steps = load_of c.args.part c.args.root.register c.args.at ∷ touching a c.args.other c.args.part c.args.index ∷ []; last = nil_of c.args.part ∷ [] }) c.try_store_through.new.heap Done)
    (sym c.in-Store.is) (c.try_store_through.ensures.plan e)
