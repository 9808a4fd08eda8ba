use Rattle.std.proofs.Common.{subst, sym, arith}
use Rattle.std.proofs.lemmas.Bool.{iff_false}
use Rattle.lxr_graph.specs.declared.Op.TheVariants as op
use Rattle.lxr_graph.specs.declared.Reply.TheVariants as reply
use Rattle.lxr_direct.specs.Operating.{IsBase, IsDone}
use Rattle.lxr_direct.proofs.FieldLemmas.{get_done, get_of_nil, get_past}
use Rattle.lxr_direct.proofs.trying.try_get.Goals as goal

pub returns-in_default-clause-misses : goal.returns-in_default-clause-misses
returns-in_default-clause-misses c = λ g serial may.
    (reply.Bad, tt, get_of_nil c.args.space.now g c.args.thread serial may c.args.base c.args.index (subst (IsBase g c.args.thread c.args.base) c.in_default.is (c.base_of.ensures.holds g serial may)))

pub returns-then-not-has_field-clause-misses : goal.returns-then-not-has_field-clause-misses
returns-then-not-has_field-clause-misses c = λ g serial may.
    let at = subst (IsBase g c.args.thread c.args.base) c.in-Some.is (c.base_of.ensures.holds g serial may) in
    let past = iff_false c.has_field.ensures.there c.if-not-has_field.true in
    (reply.Range, tt, get_past c.args.space.now g c.args.thread serial may c.args.base c.in-Some.object at.0 at.1 c.args.index (omega (arith, past)))

pub data_word-requires : goal.data_word-requires
data_word-requires c = (c.base_of.ensures.inside c.in-Some.object c.in-Some.is).place

pub used_word-requires-clause-at : goal.used_word-requires-clause-at
used_word-requires-clause-at c =
    let inside = (c.base_of.ensures.inside c.in-Some.object c.in-Some.is).words in
    let low = c.has_field.ensures.there.0 c.if-not-has_field.false in
    let word = c.data_word.ensures in
    omega (arith, inside, low, word)

pub returns-clause-got : goal.returns-clause-got
returns-clause-got c = λ g serial may.
    let at = subst (IsBase g c.args.thread c.args.base) c.in-Some.is (c.base_of.ensures.holds g serial may) in
    let low = c.has_field.ensures.there.0 c.if-not-has_field.false in
    let space = c.args.space.now in
    subst (λ z. IsDone space space g c.args.thread (op.Get c.args.base c.args.index) (reply.Got z)) (sym c.used_word.ensures)
    (get_done space g c.args.thread serial may c.args.base c.in-Some.object at.0 at.1 c.args.index c.data_word.result low c.data_word.ensures)

pub used_word-requires-clause-used : goal.used_word-requires-clause-used
used_word-requires-clause-used c =
    let low = c.has_field.ensures.there.0 c.if-not-has_field.false in
    let word = c.data_word.ensures in
    (c.base_of.ensures.inside c.in-Some.object c.in-Some.is).used c.data_word.result (omega (arith, word)) (omega (arith, low, word))
