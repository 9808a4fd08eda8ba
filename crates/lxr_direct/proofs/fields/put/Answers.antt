use Rattle.std.proofs.Common.{subst, arith}
use Rattle.lxr_direct.specs.Operating.{IsBase}
use Rattle.lxr_direct.proofs.FieldLemmas.{put_done, put_of_nil, put_past}
use Rattle.lxr_direct.proofs.fields.put.Goals as goal

pub returns-in_default : goal.returns-in_default
returns-in_default c = λ g serial may.
    put_of_nil c.args.space.now g c.args.thread serial may c.args.base c.args.index c.args.value (subst (IsBase g c.args.thread c.args.base) c.in_default.is (c.base_of.ensures.holds g serial may))

pub returns-then-object-index : goal.returns-then-object-index
returns-then-object-index c = λ g serial may.
    let at = subst (IsBase g c.args.thread c.args.base) c.in-Some.is (c.base_of.ensures.holds g serial may) in
    put_past c.args.space.now g c.args.thread serial may c.args.base c.in-Some.object at.0 at.1 c.args.index c.args.value c.if-object-index.true

pub data_word-requires : goal.data_word-requires
data_word-requires c = (c.base_of.ensures.inside c.in-Some.object c.in-Some.is).place

pub put_used-requires-clause-at : goal.put_used-requires-clause-at
put_used-requires-clause-at c =
    let inside = (c.base_of.ensures.inside c.in-Some.object c.in-Some.is).words in
    let low = c.if-object-index.false in
    let word = c.data_word.ensures in
    omega (arith, inside, low, word)

pub returns : goal.returns
returns c = λ g serial may.
    let at = subst (IsBase g c.args.thread c.args.base) c.in-Some.is (c.base_of.ensures.holds g serial may) in
    put_done c.args.space.now g c.args.thread serial may c.args.base c.in-Some.object at.0 at.1 c.args.index c.args.value c.data_word.result c.put_used.new.self c.ranges.base.fits c.if-object-index.false
    c.data_word.ensures c.put_used.ensures

pub put_used-requires-clause-used : goal.put_used-requires-clause-used
put_used-requires-clause-used c =
    let low = c.if-object-index.false in
    let word = c.data_word.ensures in
    (c.base_of.ensures.inside c.in-Some.object c.in-Some.is).used c.data_word.result (omega (arith, word)) (omega (arith, low, word))
