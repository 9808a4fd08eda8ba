use Rattle.std.proofs.Common.{subst, sym, ◌∷◌, [], ◌<◌, ◌/◌}
use Rattle.lxr_c_base.specs.declared.codes.Code.TheVariants.{Done}
use Rattle.lxr_c_heap.specs.Hosting.{all_registers_in}
use Rattle.lxr_c_heap.specs.declared.host.HostHeap.{HostHeap}
use Rattle.lxr_c_arrays.specs.declared.side.Side.TheVariants.{Parts}
use Rattle.lxr_c_arrays.specs.declared.side.TheConstants.{PART}
use Rattle.lxr_c_arrays.specs.Operations.{load_of, nil_of}
use Rattle.lxr_c_arrays.specs.Plans.{IsPair, reaching, touching}
use Rattle.lxr_c_arrays.specs.Running.{InPlan, SameRegisters}
use Rattle.lxr_c_arrays.proofs.reaching.reach_part.Goals as goal

pub try_touch_through-requires-clause-registers : goal.try_touch_through-requires-clause-registers
try_touch_through-requires-clause-registers c = (c.requires.pair.1, subst (λ r. r < all_registers_in c.args.heap.now) (sym c.requires.register) c.requires.pair.0, c.requires.part)

pub returns-then-try_touch_through-clause-plan : goal.returns-then-try_touch_through-clause-plan
returns-then-try_touch_through-clause-plan c =
    let x = c.args.heap.now in
    let y = c.try_touch_through.new.heap in
    let own = c.args.part in
    let plan = c.try_touch_through.ensures.plan c.if-try_touch_through.true in
    subst (λ n. InPlan x (record { steps = load_of own c.args.pair.array (c.args.index / PART) ∷ touching c.args.access c.args.pair.other own n ∷ []; last = nil_of own ∷ [] }) y Done) c.index_in-within.ensures
    (subst (λ n. InPlan x (record { steps = load_of own c.args.pair.array n ∷ touching c.args.access c.args.pair.other own c.index_in-within.result ∷ []; last = nil_of own ∷ [] }) y Done) c.part_number-at.ensures
    (subst (λ r. InPlan x (record { steps = load_of own r c.part_number-at.result ∷ touching c.args.access c.args.pair.other own c.index_in-within.result ∷ []; last = nil_of own ∷ [] }) y Done) c.requires.register plan))

pub reach_aside-requires-clause-serving : goal.reach_aside-requires-clause-serving
reach_aside-requires-clause-serving c = c.try_touch_through.ensures.serving

pub reach_aside-requires-clause-pair : goal.reach_aside-requires-clause-pair
reach_aside-requires-clause-pair c = subst (λ n. IsPair n c.args.pair) (sym c.try_touch_through.ensures.same.all) c.requires.pair

pub reach_aside-requires-clause-part : goal.reach_aside-requires-clause-part
reach_aside-requires-clause-part c = subst (λ n. c.args.part < n) (sym c.try_touch_through.ensures.same.all) c.requires.part

pub returns-clause-plan : goal.returns-clause-plan
returns-clause-plan c =
    subst (λ (x : HostHeap). InPlan x (reaching c.args.access c.args.pair c.args.index (Parts c.args.pair.array c.args.part)) c.reach_aside.new.heap c.reach_aside.result) (c.try_touch_through.ensures.unchanged c.if-try_touch_through.false)
    c.reach_aside.ensures.plan

pub returns-clause-same : goal.returns-clause-same
returns-clause-same c =
    subst (λ (x : HostHeap). SameRegisters x c.reach_aside.new.heap) (c.try_touch_through.ensures.unchanged c.if-try_touch_through.false) c.reach_aside.ensures.same
