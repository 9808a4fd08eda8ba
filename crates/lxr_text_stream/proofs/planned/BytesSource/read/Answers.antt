use Rattle.std.proofs.Common.{◌≡◌, ◌+◌, ◌++◌, Some, drop, arith, ap, length-drop, ◌∙◌, sym}
use Rattle.lxr_text_stream.proofs.StreamLemmas.{slice_tail, take_drop}
use Rattle.lxr_text_stream.proofs.planned.BytesSource.read.Goals as goal

pub returns-clause-reads : goal.returns-clause-reads
returns-clause-reads c =
    let bytes = c.self.inside.bytes.items in
    let at = c.self.inside.at in
    let n = c.copy_front-n.result in
    let copied = rw (c.deref.ensures.value, slice_tail bytes at) at c.copy_front-n.ensures.copied in
    let count = rw (c.deref.ensures.value, slice_tail bytes at) at c.copy_front-n.ensures.count in
    let was : c.args.self.now.left ≡ drop at bytes = sym (ap (λ v. v.left) c.self.view_is) in
    (omega (arith, count, length-drop at bytes), omega (arith, count), ap Some (was ∙ take_drop bytes at n ∙ ap (λ xs. xs ++ drop (at + n) bytes) (sym copied)))
