use Rattle.std.proofs.Common.{◌≡◌, ◌∙◌, ◌+◌, sym, ap, length}
use Rattle.lxr_large_bodies.specs.Bodies.{Held, blocks_held}
use Rattle.lxr_large_bodies.specs.Blocks.{taken_count}
use Rattle.lxr_large_bodies.proofs.Views.{blocks_all}
use Rattle.lxr_large_bodies.proofs.bodies.Bodies.free_blocks.Goals as goal

pub returns : goal.returns
returns c =
    let count : c.free_count.result + taken_count c.self.inside.taken.items ≡ length c.self.inside.taken.items = rw c.deref.ensures.value at c.free_count.ensures in
    let held : blocks_held c.args.self.now.bodies ≡ taken_count c.self.inside.taken.items =
    ap (λ (h : Held). blocks_held h.bodies) (sym c.self.view_is) ∙ blocks_all c.self.inside.words.items c.self.inside.entries.items ∙ sym c.self.invariant.taken.count in
    ap (λ k. c.free_count.result + k) held ∙ count ∙ ap (λ (h : Held). h.blocks) c.self.view_is
