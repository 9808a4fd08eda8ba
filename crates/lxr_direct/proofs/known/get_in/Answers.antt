use Rattle.std.proofs.Common.{subst, sym, arith}
use Rattle.lxr_graph.specs.declared.Op.TheVariants as op
use Rattle.lxr_graph.specs.declared.Reply.TheVariants as reply
use Rattle.lxr_direct.specs.Operating.{IsDone}
use Rattle.lxr_direct.proofs.FieldLemmas.{get_done}
use Rattle.lxr_direct.proofs.KnownLemmas.{known_inside, known_stands}
use Rattle.lxr_direct.proofs.known.get_in.Goals as goal

pub data_word-requires : goal.data_word-requires
data_word-requires c = let (t, (g, serial, may), known) = c.requires.known in (known_inside c.args.space.now g t serial may c.args.object known).place

pub used_word-requires-clause-space : goal.used_word-requires-clause-space
used_word-requires-clause-space c = let (t, (g, serial, may), known) = c.requires.known in may.rests.safepoint.holds.space

pub used_word-requires-clause-at : goal.used_word-requires-clause-at
used_word-requires-clause-at c =
    let (t, (g, serial, may), known) = c.requires.known in
    let inside = (known_inside c.args.space.now g t serial may c.args.object known).words in
    let low = c.requires.index in
    let word = c.data_word.ensures in
    omega (arith, inside, low, word)

pub returns : goal.returns
returns c = λ g t serial may known.
    let space = c.args.space.now in
    let object = c.args.object in
    subst (λ z. IsDone space space g t (op.Get object.register c.args.index) (reply.Got z)) (sym c.used_word.ensures)
    (get_done space g t serial may object.register object.base known.name (known_stands space g t serial may object known) c.args.index c.data_word.result c.requires.index c.data_word.ensures)

pub used_word-requires-clause-used : goal.used_word-requires-clause-used
used_word-requires-clause-used c =
    let (t, (g, serial, may), known) = c.requires.known in
    let low = c.requires.index in
    let word = c.data_word.ensures in
    (known_inside c.args.space.now g t serial may c.args.object known).used c.data_word.result (omega (arith, word)) (omega (arith, low, word))
