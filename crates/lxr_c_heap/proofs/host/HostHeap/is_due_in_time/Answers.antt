use Rattle.std.proofs.Common.{◌↔◌, ◌∙◌, subst, sym, true≢false}
use Rattle.std.proofs.lemmas.Bool.{iff_false}
use Rattle.std.specs.Prelude.{IsTrue}
use Rattle.lxr_c_heap.specs.Pacing.{IsReached}
use Rattle.lxr_c_heap.proofs.host.HostHeap.is_due_in_time.Goals as goal

pub returns-then-has_no_slice : goal.returns-then-has_no_slice
returns-then-has_no_slice c = λ h is.
    let reached = subst (λ n. IsTrue c.is_reached.result ↔ IsReached c.args.self.now.limit n) is.bytes c.is_reached.ensures in
    (λ due. (c.has_no_slice.ensures.0 c.if-has_no_slice.true, reached.0 due), λ due. reached.1 due.1)

pub returns-else-has_no_slice : goal.returns-else-has_no_slice
returns-else-has_no_slice c = λ h is. (λ due. absurd (true≢false (sym due ∙ c.if-has_no_slice.false)), λ due. absurd (iff_false c.has_no_slice.ensures c.if-has_no_slice.false due.0))
