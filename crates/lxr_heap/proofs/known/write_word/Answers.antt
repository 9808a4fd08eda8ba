use Rattle.std.proofs.Common.{◌+◌}
use Rattle.lxr_heap.specs.Holding.{abstract_of}
use Rattle.lxr_heap.proofs.HeapLemmas.{may_operate, standing}
use Rattle.lxr_heap.proofs.KnownLemmas.{put_replied}
use Rattle.lxr_heap.proofs.known.write_word.Goals as goal

pub put_in-requires-clause-known : goal.put_in-requires-clause-known
put_in-requires-clause-known c = let (h, is) = c.requires.holds in (1, (abstract_of c.args.heap.now h is.at, c.args.heap.now.made + 1, may_operate c.args.heap.now h is), c.requires.known)

pub returns-clause-replied : goal.returns-clause-replied
returns-clause-replied c = λ h is.
    let x = c.args.heap.now in
    put_replied x h is c.put_in.new.space c.args.object.register c.args.index c.args.value c.requires.register
    (λ at stands. c.put_in.ensures.done (abstract_of x h at) 1 (x.made + 1) (may_operate x h (standing x h is at stands)) c.requires.known)

pub returns-clause-known : goal.returns-clause-known
returns-clause-known c = c.put_in.ensures.known 1 c.requires.known
