use Rattle.std.proofs.Common.{sym, ap, subst, ◌∙◌, arith}
use Rattle.lxr_image.specs.Tables.{changed}
use Rattle.lxr_image.specs.Spaces.{Turns, tables_of}
use Rattle.lxr_direct.specs.Operating.{IsBase}
use Rattle.lxr_direct.specs.Recording.{Records}
use Rattle.lxr_direct.proofs.FieldLemmas.{past_to_record, recorded_limits, recorded_space, recorded_used, store_done, store_of_nil, store_past, to_record}
use Rattle.lxr_direct.proofs.fields.store.Goals as goal

pub returns-in_default : goal.returns-in_default
returns-in_default c = λ g serial may.
    let none = subst (IsBase g c.args.thread c.args.base) c.in_default.is (c.base_of.ensures.holds g serial may) in (
      store_of_nil c.args.space.now g c.args.thread serial may c.args.base c.args.index c.args.source none,
      λ no. no,
      λ full. let e = sym none ∙ full.0.held in absurd (cc),
    )

pub returns-then-object-index : goal.returns-then-object-index
returns-then-object-index c = λ g serial may.
    let at = subst (IsBase g c.args.thread c.args.base) c.in-Some.is (c.base_of.ensures.holds g serial may) in (
      store_past c.args.space.now g c.args.thread serial may c.args.base c.in-Some.object at.0 at.1 c.args.index c.args.source c.if-object-index.true,
      λ no. no,
      λ full. past_to_record c.args.space.now g c.args.thread serial may c.args.base c.in-Some.object at.0 at.1 c.args.index c.if-object-index.true full.0,
    )

pub record_old-requires-clause-place : goal.record_old-requires-clause-place
record_old-requires-clause-place c = (c.base_of.ensures.inside c.in-Some.object c.in-Some.is).place

pub record_old-requires-clause-field : goal.record_old-requires-clause-field
record_old-requires-clause-field c =
    let inside = (c.base_of.ensures.inside c.in-Some.object c.in-Some.is).words in
    let low = c.if-object-index.false in
    omega (arith, inside, low)

pub returns-then-not-record_old : goal.returns-then-not-record_old
returns-then-not-record_old c = λ g serial may.
    let at = subst (IsBase g c.args.thread c.args.base) c.in-Some.is (c.base_of.ensures.holds g serial may) in
    let records = subst (Records c.args.space.now c.record_old.new.space c.in-Some.object.place c.args.index) c.if-not-record_old.true c.record_old.ensures in
    ((to_record c.args.space.now g c.args.thread serial may c.args.base c.in-Some.object at.0 at.1 c.args.index c.if-object-index.false records.0, records.1), records.2)

pub field_word-requires : goal.field_word-requires
field_word-requires c = (c.base_of.ensures.inside c.in-Some.object c.in-Some.is).place

pub put_used-requires-clause-space : goal.put_used-requires-clause-space
put_used-requires-clause-space c =
    let (g, serial, may) = c.requires.state in
    recorded_space c.args.space.now c.record_old.new.space c.in-Some.object.place c.args.index
    (subst (Records c.args.space.now c.record_old.new.space c.in-Some.object.place c.args.index) c.if-not-record_old.false c.record_old.ensures) may.rests.safepoint.holds.space

pub put_used-requires-clause-at : goal.put_used-requires-clause-at
put_used-requires-clause-at c =
    let inside = (c.base_of.ensures.inside c.in-Some.object c.in-Some.is).words in
    let low = c.if-object-index.false in
    let word = c.field_word.ensures in
    let limits = recorded_limits c.args.space.now c.record_old.new.space c.in-Some.object.place c.args.index
    (subst (Records c.args.space.now c.record_old.new.space c.in-Some.object.place c.args.index) c.if-not-record_old.false c.record_old.ensures) in
    let blocks = ap (λ z. z.blocks) limits in
    omega (arith, inside, low, word, blocks)

pub returns : goal.returns
returns c = λ g serial may.
    let at = subst (IsBase g c.args.thread c.args.base) c.in-Some.is (c.base_of.ensures.holds g serial may) in
    let mid = c.record_old.new.space in
    let records = subst (Records c.args.space.now mid c.in-Some.object.place c.args.index) c.if-not-record_old.false c.record_old.ensures in
    let turns = subst (λ z. Turns mid c.put_used.new.self (record (tables_of mid) { heap = changed (tables_of mid).heap z c.held-value.result.0 })) c.field_word.ensures
    (subst (λ z. Turns mid c.put_used.new.self (record (tables_of mid) { heap = changed (tables_of mid).heap c.field_word.result z })) c.from.ensures c.put_used.ensures) in
    let done = store_done c.args.space.now g c.args.thread serial may c.args.base c.in-Some.object at.0 at.1 c.args.index c.args.source c.held-value.result (c.ranges.base.fits, c.ranges.source.fits) c.if-object-index.false
    c.held-value.ensures mid c.put_used.new.self records turns in
    (done.0, (λ no. no), done.1)

pub record_old-requires-clause-used : goal.record_old-requires-clause-used
record_old-requires-clause-used c =
    let low = c.if-object-index.false in
    (c.base_of.ensures.inside c.in-Some.object c.in-Some.is).used _ (omega arith) (omega (arith, low))

pub put_used-requires-clause-used : goal.put_used-requires-clause-used
put_used-requires-clause-used c =
    let low = c.if-object-index.false in
    let word = c.field_word.ensures in
    recorded_used c.args.space.now c.record_old.new.space c.in-Some.object.place c.args.index c.field_word.result
    (subst (Records c.args.space.now c.record_old.new.space c.in-Some.object.place c.args.index) c.if-not-record_old.false c.record_old.ensures)
    ((c.base_of.ensures.inside c.in-Some.object c.in-Some.is).used c.field_word.result (omega (arith, word)) (omega (arith, low, word)))
