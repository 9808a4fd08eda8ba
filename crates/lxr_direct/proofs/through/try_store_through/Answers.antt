use Rattle.std.proofs.Common.{◌≡◌, ◌∙◌, refl, ap, inr, subst, sym, arith}
use Rattle.std.specs.Prelude.{Some, slice_get}
use Rattle.lxr_layout.specs.Registers.{nil}
use Rattle.lxr_graph.specs.State.{register_index}
use Rattle.lxr_image.specs.Tables.{changed}
use Rattle.lxr_image.specs.Spaces.{Turns, tables_of}
use Rattle.lxr_direct.proofs.ThroughLemmas.{stores_through}
use Rattle.lxr_direct.proofs.through.try_store_through.Goals as goal

pub returns-then-has_unlogged-clause-aside : goal.returns-then-has_unlogged-clause-aside
returns-then-has_unlogged-clause-aside c = λ e.
    inr (inr (c.in-Some.part, c.in-Some.ensures.refers.0, ap (tables_of c.args.space.now).unlogged (sym c.field_word-word.ensures) ∙ sym c.has_unlogged.ensures ∙ c.if-has_unlogged.true))

pub put_used-requires-clause-at : goal.put_used-requires-clause-at
put_used-requires-clause-at c =
    let inside = (c.in-Some.ensures.inside c.in-Some.part refl).words in
    let low = c.in-Some.ensures.refers.1 in
    let word = c.field_word-word.ensures in
    omega (arith, inside, low, word)

pub put_used-requires-clause-used : goal.put_used-requires-clause-used
put_used-requires-clause-used c =
    let low = c.in-Some.ensures.refers.1 in
    let word = c.field_word-word.ensures in
    (c.in-Some.ensures.inside c.in-Some.part refl).used c.field_word-word.result (omega (arith, word)) (omega (arith, low, word))

pub returns-clause-stored : goal.returns-clause-stored
returns-clause-stored c = λ e.
    let s = c.args.space.now in
    let t = c.args.thread in
    let zero : c.held.result.0 ≡ 0 = c.if-held-ne0.false in
    let place : c.held.result ≡ nil = λ i. record { 0 = zero i } in
    let free : slice_get s.registers.items (register_index t c.args.own) ≡ Some nil = c.held.ensures ∙ ap Some place in
    let clear = ap (tables_of s).unlogged (sym c.field_word-word.ensures) ∙ sym c.has_unlogged.ensures ∙ c.if-has_unlogged.false in
    let turns = subst (λ z. Turns s c.put_used.new.self (record (tables_of s) { heap = changed (tables_of s).heap z c.held-value.result.0 })) c.field_word-word.ensures
    (subst (λ z. Turns s c.put_used.new.self (record (tables_of s) { heap = changed (tables_of s).heap c.field_word-word.result z })) c.from.ensures c.put_used.ensures) in
    stores_through s t c.args.own c.args.at c.args.object c.in-Some.part c.requires.known c.in-Some.ensures.refers.0 c.ranges.own.fits free c.args.source c.args.index c.held-value.result c.ranges.source.fits c.requires.apart
    c.in-Some.ensures.refers.1 c.held-value.ensures clear c.put_used.new.self turns
