use Rattle.std.proofs.Common.{◌≡◌, ◌+◌, sym, ap, subst, ◌∙◌, cond, true, false}
use Rattle.std.specs.Prelude.{None, Some}
use Rattle.lxr_large_bodies.specs.Bodies.{Held, overwritten, with_words}
use Rattle.lxr_heap.specs.declared.bulk.BodyReply.TheVariants as body_reply
use Rattle.lxr_heap.specs.Bulk.{WritesWords, fresh_behind}
use Rattle.lxr_heap.specs.Holding.{abstract_of}
use Rattle.lxr_heap.proofs.BulkLemmas.{base_is, writes_done, writes_nil, writes_past}
use Rattle.lxr_heap.proofs.HeapLemmas.{may_operate}
use Rattle.lxr_heap.proofs.bulk.write.Goals as goal

pub name_in-requires : goal.name_in-requires
name_in-requires c = let (h, is) = c.requires.holds in record { state = (abstract_of c.args.heap.now h is.at, c.args.heap.now.made + 1, may_operate c.args.heap.now h is) }

pub returns-in_default : goal.returns-in_default
returns-in_default c = λ h is.
    let x = c.args.heap.now in
    writes_nil x h is c.args.base c.args.index c.args.from.now (base_is x h is c.args.base None (sym c.in_default.is ∙ c.name_in.ensures (abstract_of x h is.at) (x.made + 1) (may_operate x h is)))

pub returns-then-not-write : goal.returns-then-not-write
returns-then-not-write c = λ h is.
    let x = c.args.heap.now in
    let there = base_is x h is c.args.base (Some c.in-Some.name) (sym c.in-Some.is ∙ c.name_in.ensures (abstract_of x h is.at) (x.made + 1) (may_operate x h is)) in
    let found : c.write.result ≡ false = c.if-not-write.true in
    let same : c.write.new.self ≡ x.bodies = c.write.ensures.written ∙ ap (λ t. cond t (record x.bodies { bodies = with_words x.bodies.bodies c.in-Some.name (overwritten c.args.index c.args.from.now) }) x.bodies) found in
    subst (λ (b : Held). WritesWords x (record x { bodies = b }) h c.args.base c.args.index c.args.from.now body_reply.Range) (sym same)
    (writes_past x h is c.args.base c.args.index c.args.from.now c.in-Some.name there (sym c.write.ensures.found ∙ found))

pub returns : goal.returns
returns c = λ h is.
    let x = c.args.heap.now in
    let there = base_is x h is c.args.base (Some c.in-Some.name) (sym c.in-Some.is ∙ c.name_in.ensures (abstract_of x h is.at) (x.made + 1) (may_operate x h is)) in
    let found : c.write.result ≡ true = c.if-not-write.false in
    let written : c.write.new.self ≡ record x.bodies { bodies = with_words x.bodies.bodies c.in-Some.name (overwritten c.args.index c.args.from.now) } =
    c.write.ensures.written ∙ ap (λ t. cond t (record x.bodies { bodies = with_words x.bodies.bodies c.in-Some.name (overwritten c.args.index c.args.from.now) }) x.bodies) found in
    subst (λ f. WritesWords x (record x { bodies = c.write.new.self; fresh = f }) h c.args.base c.args.index c.args.from.now body_reply.Done) (sym c.fresh_behind-heap.ensures)
    (subst (λ (b : Held). WritesWords x (record x { bodies = b; fresh = fresh_behind x.fresh c.args.from.now }) h c.args.base c.args.index c.args.from.now body_reply.Done) (sym written)
    (writes_done x h is c.args.base c.args.index c.args.from.now c.in-Some.name c.requires.base there (sym c.write.ensures.found ∙ found)))
