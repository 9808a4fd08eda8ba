use Rattle.std.proofs.Common.{subst, sym, arith}
use Rattle.std.specs.Prelude.{slice_set}
use Rattle.lxr_graph.specs.declared.Op.TheVariants as op
use Rattle.lxr_graph.specs.declared.Reply.TheVariants as reply
use Rattle.lxr_graph.specs.State.{register_index}
use Rattle.lxr_direct.specs.Known.{IsKnown, referred}
use Rattle.lxr_direct.specs.Operating.{IsDone, with_places}
use Rattle.lxr_direct.proofs.FieldLemmas.{load_done}
use Rattle.lxr_direct.proofs.KnownLemmas.{known_inside, known_referred, known_stands, placed_known}
use Rattle.lxr_direct.proofs.known.load_from.Goals as goal

pub reference_at-found-requires-clause-place : goal.reference_at-found-requires-clause-place
reference_at-found-requires-clause-place c = let (g, serial, may) = c.requires.state in (known_inside c.args.space.now g c.args.thread serial may c.args.object c.requires.known).place

pub reference_at-found-requires-clause-field : goal.reference_at-found-requires-clause-field
reference_at-found-requires-clause-field c =
    let (g, serial, may) = c.requires.state in
    let inside = (known_inside c.args.space.now g c.args.thread serial may c.args.object c.requires.known).words in
    let low = c.requires.index in
    omega (arith, inside, low)

pub returns-clause-done : goal.returns-clause-done
returns-clause-done c = λ g serial may.
    let before = c.args.space.now in
    let object = c.args.object in
    let t = c.args.thread in
    let o = op.Load c.args.dest object.register c.args.index in
    let r = reply.Loaded (referred g.moment.state t object.register c.args.index) in
    subst (λ s. IsDone before s g t o r) (sym c.hold.ensures)
    (subst (λ p. IsDone before (with_places before (slice_set before.registers.items (register_index t c.args.dest) p)) g t o r) (sym c.reference_at-found.ensures)
    (load_done before g t serial may object.register object.base c.requires.known.name (known_stands before g t serial may object c.requires.known) c.args.dest c.args.index (referred g.moment.state t object.register c.args.index)
    (c.ranges.dest.fits, c.requires.known.register) c.requires.index (sym (known_referred before g t serial may object c.requires.known c.args.index))))

pub returns-clause-known : goal.returns-clause-known
returns-clause-known c = λ apart.
    subst (λ s. IsKnown s c.args.thread c.args.object) (sym c.hold.ensures) (placed_known c.args.space.now c.args.thread c.args.dest c.reference_at-found.result c.args.object apart c.requires.known)

pub reference_at-found-requires-clause-used : goal.reference_at-found-requires-clause-used
reference_at-found-requires-clause-used c =
    let (g, serial, may) = c.requires.state in
    let low = c.requires.index in
    (known_inside c.args.space.now g c.args.thread serial may c.args.object c.requires.known).used _ (omega arith) (omega (arith, low))
