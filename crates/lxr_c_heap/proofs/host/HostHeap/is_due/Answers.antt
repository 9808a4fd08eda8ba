use Rattle.std.proofs.Common.{subst, sym, inl, inr}
use Rattle.std.proofs.lemmas.Bool.{iff_false}
use Rattle.lxr_c_heap.specs.Pacing.{IsReached}
use Rattle.lxr_c_heap.proofs.host.HostHeap.is_due.Goals as goal

pub returns-then-is_reached : goal.returns-then-is_reached
returns-then-is_reached c = λ h is. (λ due. inl (subst (IsReached c.args.self.now.brink) is.bytes (c.is_reached.ensures.0 c.if-is_reached.true)), λ due. c.if-is_reached.true)

pub returns-else-is_reached : goal.returns-else-is_reached
returns-else-is_reached c = λ h is.
    let waited = c.is_due_in_time.ensures h is in (
      λ due. inr (waited.0 due),
      λ due. elim due [
        | inl over ↦ absurd (iff_false c.is_reached.ensures c.if-is_reached.false (subst (IsReached c.args.self.now.brink) (sym is.bytes) over))
        | inr in-time ↦ waited.1 in-time
      ],
    )
