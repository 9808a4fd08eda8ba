use Rattle.std.proofs.Common.{◌∙◌, ap, inl, inr, subst, sym, arith}
use Rattle.std.proofs.lemmas.Bool.{iff_false}
use Rattle.lxr_graph.specs.declared.Reply.TheVariants as reply
use Rattle.lxr_image.specs.Tables.{changed}
use Rattle.lxr_image.specs.Spaces.{Turns, tables_of}
use Rattle.lxr_direct.specs.Operating.{IsBase}
use Rattle.lxr_direct.proofs.FieldLemmas.{none_to_record, store_done_clear, store_of_nil, store_past, to_record}
use Rattle.lxr_direct.proofs.trying.try_store.Goals as goal

pub returns-in_default-clause-aside : goal.returns-in_default-clause-aside
returns-in_default-clause-aside c = λ e g serial may.
    inl (reply.Bad, tt, store_of_nil c.args.space.now g c.args.thread serial may c.args.base c.args.index c.args.source (subst (IsBase g c.args.thread c.args.base) c.in_default.is (c.base_of.ensures.holds g serial may)))

pub returns-then-not-has_field-clause-aside : goal.returns-then-not-has_field-clause-aside
returns-then-not-has_field-clause-aside c = λ e g serial may.
    let at = subst (IsBase g c.args.thread c.args.base) c.in-Some.is (c.base_of.ensures.holds g serial may) in
    let past = iff_false c.has_field.ensures.there c.if-not-has_field.true in
    inl (reply.Range, tt, store_past c.args.space.now g c.args.thread serial may c.args.base c.in-Some.object at.0 at.1 c.args.index c.args.source (omega (arith, past)))

pub field_word-at-requires : goal.field_word-at-requires
field_word-at-requires c = (c.base_of.ensures.inside c.in-Some.object c.in-Some.is).place

pub has_unlogged-requires-clause-at : goal.has_unlogged-requires-clause-at
has_unlogged-requires-clause-at c =
    let inside = (c.base_of.ensures.inside c.in-Some.object c.in-Some.is).words in
    let low = c.has_field.ensures.there.0 c.if-not-has_field.false in
    let word = c.field_word-at.ensures in
    omega (arith, inside, low, word)

pub returns-then-has_unlogged-clause-aside : goal.returns-then-has_unlogged-clause-aside
returns-then-has_unlogged-clause-aside c = λ e g serial may.
    let at = subst (IsBase g c.args.thread c.args.base) c.in-Some.is (c.base_of.ensures.holds g serial may) in
    let low = c.has_field.ensures.there.0 c.if-not-has_field.false in
    inr (to_record c.args.space.now g c.args.thread serial may c.args.base c.in-Some.object at.0 at.1 c.args.index low
    (ap (tables_of c.args.space.now).unlogged (sym c.field_word-at.ensures) ∙ sym c.has_unlogged.ensures ∙ c.if-has_unlogged.true))

pub put_used-requires-clause-at : goal.put_used-requires-clause-at
put_used-requires-clause-at c =
    let inside = (c.base_of.ensures.inside c.in-Some.object c.in-Some.is).words in
    let low = c.has_field.ensures.there.0 c.if-not-has_field.false in
    let word = c.field_word-at.ensures in
    omega (arith, inside, low, word)

pub put_used-requires-clause-used : goal.put_used-requires-clause-used
put_used-requires-clause-used c =
    let low = c.has_field.ensures.there.0 c.if-not-has_field.false in
    let word = c.field_word-at.ensures in
    (c.base_of.ensures.inside c.in-Some.object c.in-Some.is).used c.field_word-at.result (omega (arith, word)) (omega (arith, low, word))

pub returns-clause-stored : goal.returns-clause-stored
returns-clause-stored c = λ e g serial may.
    let s = c.args.space.now in
    let t = c.args.thread in
    let object = c.in-Some.object in
    let at = subst (IsBase g t c.args.base) c.in-Some.is (c.base_of.ensures.holds g serial may) in
    let low = c.has_field.ensures.there.0 c.if-not-has_field.false in
    let clear = ap (tables_of s).unlogged (sym c.field_word-at.ensures) ∙ sym c.has_unlogged.ensures ∙ c.if-has_unlogged.false in
    let turns = subst (λ z. Turns s c.put_used.new.self (record (tables_of s) { heap = changed (tables_of s).heap z c.held-value.result.0 })) c.field_word-at.ensures
    (subst (λ z. Turns s c.put_used.new.self (record (tables_of s) { heap = changed (tables_of s).heap c.field_word-at.result z })) c.from.ensures c.put_used.ensures) in (
      store_done_clear s g t serial may c.args.base object at.0 at.1 c.args.index c.args.source c.held-value.result (c.ranges.base.fits, c.ranges.source.fits) low c.held-value.ensures c.put_used.new.self clear turns,
      λ no. no,
      λ full. none_to_record s g t serial may c.args.base object at.0 at.1 c.args.index low clear full.0,
    )
