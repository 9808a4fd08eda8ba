use Rattle.std.proofs.Common.{ap, subst, arith}
use Rattle.lxr_layout.specs.Places.{field_word}
use Rattle.lxr_image.specs.Tables.{changed}
use Rattle.lxr_image.specs.Spaces.{Turns, tables_of}
use Rattle.lxr_direct.proofs.FieldLemmas.{none_to_record, store_done_clear}
use Rattle.lxr_direct.proofs.KnownLemmas.{known_inside, known_stands, written_known}
use Rattle.lxr_direct.proofs.known.store_young.Goals as goal

pub field_word-requires : goal.field_word-requires
field_word-requires c = let (g, serial, may) = c.requires.state in (known_inside c.args.space.now g c.args.thread serial may c.args.object c.requires.known).place

pub put_used-requires-clause-at : goal.put_used-requires-clause-at
put_used-requires-clause-at c =
    let (g, serial, may) = c.requires.state in
    let inside = (known_inside c.args.space.now g c.args.thread serial may c.args.object c.requires.known).words in
    let low = c.requires.index in
    let word = c.field_word.ensures in
    omega (arith, inside, low, word)

pub returns-clause-done : goal.returns-clause-done
returns-clause-done c = λ g serial may.
    let object = c.args.object in
    let s = c.args.space.now in
    let turns = subst (λ z. Turns s c.put_used.new.self (record (tables_of s) { heap = changed (tables_of s).heap z c.held-value.result.0 })) c.field_word.ensures
    (subst (λ z. Turns s c.put_used.new.self (record (tables_of s) { heap = changed (tables_of s).heap c.field_word.result z })) c.from.ensures c.put_used.ensures) in
    let at = known_stands s g c.args.thread serial may object c.requires.known in (
      store_done_clear s g c.args.thread serial may object.register object.base c.requires.known.name at c.args.index c.args.source c.held-value.result (c.requires.known.register, c.ranges.source.fits) c.requires.index c.held-value.ensures
          c.put_used.new.self c.requires.clear turns,
      λ no. no,
      λ full. none_to_record s g c.args.thread serial may object.register object.base c.requires.known.name at c.args.index c.requires.index c.requires.clear full.0,
    )

pub returns-clause-known : goal.returns-clause-known
returns-clause-known c =
    let word = c.field_word.ensures in
    written_known c.args.space.now c.put_used.new.self c.args.thread c.field_word.result c.from.result c.args.object (omega (arith, word)) c.put_used.ensures c.requires.known

pub returns-clause-unlogged : goal.returns-clause-unlogged
returns-clause-unlogged c = λ i. ap (λ z. z.unlogged (field_word c.args.object.base.place.0 i)) c.put_used.ensures.tables

pub put_used-requires-clause-used : goal.put_used-requires-clause-used
put_used-requires-clause-used c =
    let (g, serial, may) = c.requires.state in
    let low = c.requires.index in
    let word = c.field_word.ensures in
    (known_inside c.args.space.now g c.args.thread serial may c.args.object c.requires.known).used c.field_word.result (omega (arith, word)) (omega (arith, low, word))
