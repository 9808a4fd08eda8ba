use Rattle.std.proofs.Common.{◌≡◌, ◌+◌, ◌*◌, ◌≤◌, length, ap, arith, ◌∙◌}
use Rattle.lxr_layout.specs.declared.TheConstants.{REGISTERS}
use Rattle.lxr_layout.specs.Registers.{held_at}
use Rattle.lxr_image.specs.Registers.{row_in, with_row}
use Rattle.lxr_image.proofs.RegisterLemmas.{copy_more, held-row, length-row}
use Rattle.lxr_image.proofs.registers.RegisterFile.copy_from.Goals as goal

within : (c : goal.After-in_use) → REGISTERS * c.loop-thread.thread + REGISTERS ≤ length c.args.others.now.items
within c =
    let many = c.self.invariant.many in
    let seen : length c.self.inside.places.items ≡ length c.args.self.now.items = ap (λ s. length s.items) c.self.view_is in
    omega arith

pub put_row-requires-clause-row : goal.put_row-requires-clause-row
put_row-requires-clause-row c = ap length c.row.ensures ∙ length-row c.args.others.now.items c.loop-thread.thread (within c)

pub put_row-requires-clause-others : goal.put_row-requires-clause-others
put_row-requires-clause-others c k from few =
    ap (λ z. held_at z k) c.row.ensures ∙ held-row c.args.others.now.items c.loop-thread.thread k few ∙ c.in_use.ensures.others (REGISTERS * c.loop-thread.thread + k) (omega arith) (omega arith)

pub loop-thread-preserved : goal.loop-thread-preserved
loop-thread-preserved c = record {
  items = ap (λ s. s.items) c.put_row.ensures
      ∙ ap (with_row c.loop-thread.self.items c.loop-thread.thread) c.row.ensures
      ∙ ap (λ z. with_row z c.loop-thread.thread (row_in c.args.others.now.items c.loop-thread.thread)) c.loop-thread.invariant.items
      ∙ copy_more c.args.others.now.items c.args.self.now.items c.loop-thread.thread c.requires.as_many (let many = c.self.invariant.many in let seen : length c.self.inside.places.items ≡ length c.args.self.now.items = ap (λ s. length s.items) c.self.view_is in omega arith);
  width = ap (λ s. s.width) c.put_row.ensures ∙ c.loop-thread.invariant.width;
}
