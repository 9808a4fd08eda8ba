use Rattle.std.proofs.Common.{sym, ap, subst, arith}
use Rattle.lxr_image.specs.Tables.{changed}
use Rattle.lxr_image.specs.Spaces.{Turns, tables_of}
use Rattle.lxr_direct.specs.Known.{IsKnown}
use Rattle.lxr_direct.specs.Recording.{Records}
use Rattle.lxr_direct.proofs.FieldLemmas.{recorded_limits, recorded_space, recorded_used, store_done, to_record}
use Rattle.lxr_direct.proofs.KnownLemmas.{known_inside, known_stands, recorded_known, written_known}
use Rattle.lxr_direct.proofs.known.store_to.Goals as goal

pub record_old-requires-clause-place : goal.record_old-requires-clause-place
record_old-requires-clause-place c = let (g, serial, may) = c.requires.state in (known_inside c.args.space.now g c.args.thread serial may c.args.object c.requires.known).place

pub record_old-requires-clause-field : goal.record_old-requires-clause-field
record_old-requires-clause-field c =
    let (g, serial, may) = c.requires.state in
    let inside = (known_inside c.args.space.now g c.args.thread serial may c.args.object c.requires.known).words in
    let low = c.requires.index in
    omega (arith, inside, low)

pub returns-then-not-record_old-clause-done : goal.returns-then-not-record_old-clause-done
returns-then-not-record_old-clause-done c = λ g serial may.
    let object = c.args.object in
    let records = subst (Records c.args.space.now c.record_old.new.space object.base.place c.args.index) c.if-not-record_old.true c.record_old.ensures in
    let at = known_stands c.args.space.now g c.args.thread serial may object c.requires.known in
    ((to_record c.args.space.now g c.args.thread serial may object.register object.base c.requires.known.name at c.args.index c.requires.index records.0, records.1), records.2)

pub returns-then-not-record_old-clause-known : goal.returns-then-not-record_old-clause-known
returns-then-not-record_old-clause-known c =
    let records = subst (Records c.args.space.now c.record_old.new.space c.args.object.base.place c.args.index) c.if-not-record_old.true c.record_old.ensures in
    subst (λ s. IsKnown s c.args.thread c.args.object) (sym records.2) c.requires.known

pub field_word-requires : goal.field_word-requires
field_word-requires c = let (g, serial, may) = c.requires.state in (known_inside c.args.space.now g c.args.thread serial may c.args.object c.requires.known).place

pub put_used-requires-clause-space : goal.put_used-requires-clause-space
put_used-requires-clause-space c =
    let (g, serial, may) = c.requires.state in
    recorded_space c.args.space.now c.record_old.new.space c.args.object.base.place c.args.index
    (subst (Records c.args.space.now c.record_old.new.space c.args.object.base.place c.args.index) c.if-not-record_old.false c.record_old.ensures) may.rests.safepoint.holds.space

pub put_used-requires-clause-at : goal.put_used-requires-clause-at
put_used-requires-clause-at c =
    let (g, serial, may) = c.requires.state in
    let inside = (known_inside c.args.space.now g c.args.thread serial may c.args.object c.requires.known).words in
    let low = c.requires.index in
    let word = c.field_word.ensures in
    let limits = recorded_limits c.args.space.now c.record_old.new.space c.args.object.base.place c.args.index
    (subst (Records c.args.space.now c.record_old.new.space c.args.object.base.place c.args.index) c.if-not-record_old.false c.record_old.ensures) in
    let blocks = ap (λ z. z.blocks) limits in
    omega (arith, inside, low, word, blocks)

pub returns-clause-done : goal.returns-clause-done
returns-clause-done c = λ g serial may.
    let object = c.args.object in
    let at = known_stands c.args.space.now g c.args.thread serial may object c.requires.known in
    let mid = c.record_old.new.space in
    let records = subst (Records c.args.space.now mid object.base.place c.args.index) c.if-not-record_old.false c.record_old.ensures in
    let turns = subst (λ z. Turns mid c.put_used.new.self (record (tables_of mid) { heap = changed (tables_of mid).heap z c.held-value.result.0 })) c.field_word.ensures
    (subst (λ z. Turns mid c.put_used.new.self (record (tables_of mid) { heap = changed (tables_of mid).heap c.field_word.result z })) c.from.ensures c.put_used.ensures) in
    let done = store_done c.args.space.now g c.args.thread serial may object.register object.base c.requires.known.name at c.args.index c.args.source c.held-value.result (c.requires.known.register, c.ranges.source.fits) c.requires.index
    c.held-value.ensures mid c.put_used.new.self records turns in
    (done.0, (λ no. no), done.1)

pub returns-clause-known : goal.returns-clause-known
returns-clause-known c =
    let object = c.args.object in
    let mid = c.record_old.new.space in
    let records = subst (Records c.args.space.now mid object.base.place c.args.index) c.if-not-record_old.false c.record_old.ensures in
    let word = c.field_word.ensures in
    written_known mid c.put_used.new.self c.args.thread c.field_word.result c.from.result object (omega (arith, word)) c.put_used.ensures
    (recorded_known c.args.space.now mid c.args.thread c.args.index object records c.requires.known)

pub record_old-requires-clause-used : goal.record_old-requires-clause-used
record_old-requires-clause-used c =
    let (g, serial, may) = c.requires.state in
    let low = c.requires.index in
    (known_inside c.args.space.now g c.args.thread serial may c.args.object c.requires.known).used _ (omega arith) (omega (arith, low))

pub put_used-requires-clause-used : goal.put_used-requires-clause-used
put_used-requires-clause-used c =
    let (g, serial, may) = c.requires.state in
    let low = c.requires.index in
    let word = c.field_word.ensures in
    recorded_used c.args.space.now c.record_old.new.space c.args.object.base.place c.args.index c.field_word.result
    (subst (Records c.args.space.now c.record_old.new.space c.args.object.base.place c.args.index) c.if-not-record_old.false c.record_old.ensures)
    ((known_inside c.args.space.now g c.args.thread serial may c.args.object c.requires.known).used c.field_word.result (omega (arith, word)) (omega (arith, low, word)))
