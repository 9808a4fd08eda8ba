use Rattle.std.proofs.Common.{◌≡◌, ◌∙◌, refl, ap, arith}
use Rattle.std.specs.Prelude.{Some, slice_get, slice_set}
use Rattle.lxr_layout.specs.Registers.{nil}
use Rattle.lxr_graph.specs.State.{register_index}
use Rattle.lxr_direct.specs.Operating.{with_places}
use Rattle.lxr_direct.proofs.ThroughLemmas.{loads_through}
use Rattle.lxr_direct.proofs.through.try_load_through.Goals as goal

pub reference_at-found-requires-clause-used : goal.reference_at-found-requires-clause-used
reference_at-found-requires-clause-used c =
    let low = c.in-Some.ensures.refers.1 in
    (c.in-Some.ensures.inside c.in-Some.part refl).used _ (omega arith) (omega (arith, low))

pub returns-clause-loaded : goal.returns-clause-loaded
returns-clause-loaded c = λ e.
    let s = c.args.space.now in
    let t = c.args.thread in
    let zero : c.held.result.0 ≡ 0 = c.if-held-ne0.false in
    let place : c.held.result ≡ nil = λ i. record { 0 = zero i } in
    let free : slice_get s.registers.items (register_index t c.args.own) ≡ Some nil = c.held.ensures ∙ ap Some place in
    loads_through s t c.args.own c.args.at c.args.object c.in-Some.part c.requires.known c.in-Some.ensures.refers.0 c.ranges.own.fits free c.args.dest c.args.index c.ranges.dest.fits c.requires.apart
    c.in-Some.ensures.refers.1 c.hold.new.space (c.hold.ensures ∙ ap (λ p. with_places s (slice_set s.registers.items (register_index t c.args.dest) p)) c.reference_at-found.ensures)
