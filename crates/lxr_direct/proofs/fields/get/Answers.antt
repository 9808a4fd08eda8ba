use Rattle.std.proofs.Common.{subst, sym, arith}
use Rattle.lxr_graph.specs.declared.Op.TheVariants as op
use Rattle.lxr_graph.specs.declared.Reply.TheVariants as reply
use Rattle.lxr_direct.specs.Operating.{IsBase, IsDone}
use Rattle.lxr_direct.proofs.FieldLemmas.{get_done, get_of_nil, get_past}
use Rattle.lxr_direct.proofs.fields.get.Goals as goal

pub returns-in_default : goal.returns-in_default
returns-in_default c = λ g serial may. get_of_nil c.args.space.now g c.args.thread serial may c.args.base c.args.index (subst (IsBase g c.args.thread c.args.base) c.in_default.is (c.base_of.ensures.holds g serial may))

pub returns-then-object-index : goal.returns-then-object-index
returns-then-object-index c = λ g serial may.
    let at = subst (IsBase g c.args.thread c.args.base) c.in-Some.is (c.base_of.ensures.holds g serial may) in
    get_past c.args.space.now g c.args.thread serial may c.args.base c.in-Some.object at.0 at.1 c.args.index c.if-object-index.true

pub data_word-requires : goal.data_word-requires
data_word-requires c = (c.base_of.ensures.inside c.in-Some.object c.in-Some.is).place

pub used_word-requires-clause-at : goal.used_word-requires-clause-at
used_word-requires-clause-at c =
    let inside = (c.base_of.ensures.inside c.in-Some.object c.in-Some.is).words in
    let low = c.if-object-index.false in
    let word = c.data_word.ensures in
    omega (arith, inside, low, word)

pub returns : goal.returns
returns c = λ g serial may.
    let at = subst (IsBase g c.args.thread c.args.base) c.in-Some.is (c.base_of.ensures.holds g serial may) in
    let space = c.args.space.now in
    subst (λ z. IsDone space space g c.args.thread (op.Get c.args.base c.args.index) (reply.Got z)) (sym c.used_word.ensures)
    (get_done space g c.args.thread serial may c.args.base c.in-Some.object at.0 at.1 c.args.index c.data_word.result c.if-object-index.false c.data_word.ensures)

pub used_word-requires-clause-used : goal.used_word-requires-clause-used
used_word-requires-clause-used c =
    let low = c.if-object-index.false in
    let word = c.data_word.ensures in
    (c.base_of.ensures.inside c.in-Some.object c.in-Some.is).used c.data_word.result (omega (arith, word)) (omega (arith, low, word))
