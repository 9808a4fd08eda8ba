use Rattle.std.proofs.Common.{arith}
use Rattle.lxr_direct.proofs.FieldLemmas.{put_done}
use Rattle.lxr_direct.proofs.KnownLemmas.{known_inside, known_stands, written_known}
use Rattle.lxr_direct.proofs.known.put_in.Goals as goal

pub data_word-requires : goal.data_word-requires
data_word-requires c = let (t, (g, serial, may), known) = c.requires.known in (known_inside c.args.space.now g t serial may c.args.object known).place

pub put_used-requires-clause-space : goal.put_used-requires-clause-space
put_used-requires-clause-space c = let (t, (g, serial, may), known) = c.requires.known in may.rests.safepoint.holds.space

pub put_used-requires-clause-at : goal.put_used-requires-clause-at
put_used-requires-clause-at c =
    let (t, (g, serial, may), known) = c.requires.known in
    let inside = (known_inside c.args.space.now g t serial may c.args.object known).words in
    let low = c.requires.index in
    let word = c.data_word.ensures in
    omega (arith, inside, low, word)

pub returns-clause-done : goal.returns-clause-done
returns-clause-done c = λ g t serial may known.
    let space = c.args.space.now in
    let object = c.args.object in
    put_done space g t serial may object.register object.base known.name (known_stands space g t serial may object known) c.args.index c.args.value c.data_word.result c.put_used.new.self known.register c.requires.index
    c.data_word.ensures c.put_used.ensures

pub returns-clause-known : goal.returns-clause-known
returns-clause-known c = λ t known.
    let word = c.data_word.ensures in
    written_known c.args.space.now c.put_used.new.self t c.data_word.result c.args.value c.args.object (omega (arith, word)) c.put_used.ensures known

pub put_used-requires-clause-used : goal.put_used-requires-clause-used
put_used-requires-clause-used c =
    let (t, (g, serial, may), known) = c.requires.known in
    let low = c.requires.index in
    let word = c.data_word.ensures in
    (known_inside c.args.space.now g t serial may c.args.object known).used c.data_word.result (omega (arith, word)) (omega (arith, low, word))
