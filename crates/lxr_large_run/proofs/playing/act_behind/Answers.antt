use Rattle.std.proofs.Common.{◌∙◌, inl, inr, subst, sym, true≢false}
use Rattle.lxr_heap.specs.Acting.{Acts}
use Rattle.lxr_large_run.proofs.playing.act_behind.Goals as goal

pub unreachable-requires : goal.unreachable-requires
unreachable-requires c =
    let (h, w) = c.requires.ready in
    elim c.in-Room.is [
      | inl room ↦
          let came = subst (Acts c.args.heap.now c.act.new.self h c.args.op) room (c.act.ensures h w.holds) in
          true≢false (sym (w.fresh came.0) ∙ came.1)
      | inr log ↦
          let came = subst (Acts c.args.heap.now c.act.new.self h c.args.op) log (c.act.ensures h w.holds) in
          w.logs came.0
    ]

pub returns : goal.returns
returns c = λ h w. subst (Acts c.args.heap.now c.act.new.self h c.args.op) c.in-Replied.is (c.act.ensures h w.holds)
