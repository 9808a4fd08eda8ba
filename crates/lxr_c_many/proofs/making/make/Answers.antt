use Rattle.std.proofs.Common.{◌∷◌, ◌∙◌, arith, subst, sym}
use Rattle.std.specs.Prelude.{IsTrue}
use mathlib.Core.Logic.{∥∥₁_elim, ∥∥₁_prop}
use Rattle.lxr_large_model.specs.History.{Called}
use Rattle.lxr_c_heap.specs.Hosting.{all_registers_in, registers_in}
use Rattle.lxr_c_heap.proofs.OperationLemmas.{making_more}
use Rattle.lxr_c_heap.proofs.RegisterLemmas.{few_registers, named_few}
use Rattle.lxr_c_many.specs.Fields.{are_registers}
use Rattle.lxr_c_many.specs.Making.{new_of}
use Rattle.lxr_c_many.proofs.MakingLemmas.{filled, made_object, made_same, none_filled}
use Rattle.lxr_c_many.proofs.making.make.Goals as goal

pub make-reply-requires-clause-op : goal.make-reply-requires-clause-op
make-reply-requires-clause-op c =
    let x = c.args.heap.now in
    making_more (registers_in x) (all_registers_in x) (new_of c.args.wanted) (named_few x c.requires.serving.holds) ((c.requires.wanted.dest, c.requires.wanted.fits), tt)

pub returns-then-not-makes_one-clause-makes : goal.returns-then-not-makes_one-clause-makes
returns-then-not-makes_one-clause-makes c = λ h is.
    let makes = c.make-reply.ensures.makes h is in
    record {
      made = c.make-reply.new.self;
      makes = makes;
      fills = none_filled c.args.wanted c.args.sources.now c.args.words.now c.make-reply.new.self (Called (new_of c.args.wanted) c.make-reply.result ∷ makes.acts.history) c.make-reply.result (sym c.makes_one.ensures ∙ c.if-not-makes_one.true);
    }

pub returns-then-not-makes_one-clause-registers : goal.returns-then-not-makes_one-clause-registers
returns-then-not-makes_one-clause-registers c = made_same c.args.wanted c.args.heap.now c.make-reply.new.self c.make-reply.result c.requires.serving.holds c.make-reply.ensures.makes

pub fill-requires-clause-dest : goal.fill-requires-clause-dest
fill-requires-clause-dest c =
    let same = made_same c.args.wanted c.args.heap.now c.make-reply.new.self c.make-reply.result c.requires.serving.holds c.make-reply.ensures.makes in
    let dest = c.requires.wanted.dest in
    omega (arith, same, dest)

pub fill-requires-clause-few : goal.fill-requires-clause-few
fill-requires-clause-few c =
    let refs = c.requires.wanted.refs in
    let values = c.requires.wanted.values in
    let fits = c.requires.wanted.fits in
    (omega (arith, refs, fits.0), omega (arith, values, fits.1))

pub fill-requires-clause-sources : goal.fill-requires-clause-sources
fill-requires-clause-sources c =
    let same = made_same c.args.wanted c.args.heap.now c.make-reply.new.self c.make-reply.result c.requires.serving.holds c.make-reply.ensures.makes in
    subst (λ n. IsTrue (are_registers n c.args.sources.now)) (sym same) c.requires.wanted.from

pub fill-requires-clause-young : goal.fill-requires-clause-young
fill-requires-clause-young c = ∥∥₁_elim c.requires.serving.holds ∥∥₁_prop (λ of.
    let made = made_object (registers_in c.args.heap.now) c.args.sources.now c.args.words.now c.args.wanted c.args.heap.now c.make-reply.new.self of.0 c.make-reply.result (few_registers c.args.heap.now c.requires.serving.holds) c.requires.wanted of.1 (sym c.makes_one.ensures ∙ c.if-not-makes_one.false) (c.make-reply.ensures.makes of.0 of.1) in
    ∣ (_, made.holds, made.young) ∣₁)

pub returns-clause-registers : goal.returns-clause-registers
returns-clause-registers c = c.fill.ensures.registers ∙ made_same c.args.wanted c.args.heap.now c.make-reply.new.self c.make-reply.result c.requires.serving.holds c.make-reply.ensures.makes

pub returns-clause-makes : goal.returns-clause-makes
returns-clause-makes c = λ h is.
    let makes = c.make-reply.ensures.makes h is in
    let k = Called (new_of c.args.wanted) c.make-reply.result ∷ makes.acts.history in
    let made = made_object (registers_in c.args.heap.now) c.args.sources.now c.args.words.now c.args.wanted c.args.heap.now c.make-reply.new.self h c.make-reply.result (few_registers c.args.heap.now c.requires.serving.holds) c.requires.wanted is (sym c.makes_one.ensures ∙ c.if-not-makes_one.false) makes in
    record {
      made = c.make-reply.new.self;
      makes = makes;
      fills = filled c.args.wanted c.args.sources.now c.args.words.now c.make-reply.new.self c.fill.new.heap k c.make-reply.result (sym c.makes_one.ensures ∙ c.if-not-makes_one.false) (c.fill.ensures.follows k made.holds);
    }
