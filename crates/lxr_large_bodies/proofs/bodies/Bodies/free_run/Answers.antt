use Rattle.std.proofs.Common.{◌+◌, ◌≤◌, ℕ, length}
use Rattle.std.specs.Prelude.{IfNone, IfSome}
use Rattle.lxr_large_bodies.specs.Blocks.{AreFree}
use Rattle.lxr_large_bodies.proofs.Views.{no_run_seen, some_run_seen}
use Rattle.lxr_large_bodies.proofs.bodies.Bodies.free_run.Goals as goal

pub returns-clause-none : goal.returns-clause-none
returns-clause-none c =
    let none : IfNone c.free_run.result ((first : ℕ) → first + c.args.blocks ≤ length c.self.inside.taken.items → AreFree c.self.inside.taken.items first c.args.blocks → ⊥) =
    rw c.deref.ensures.value at c.free_run.ensures.none in
    no_run_seen c.args.self.now c.self.inside.words.items c.self.inside.entries.items c.self.inside.taken.items c.free_run.result c.args.blocks c.self.view_is c.self.invariant.taken none

pub returns-clause-run : goal.returns-clause-run
returns-clause-run c =
    let run : IfSome c.free_run.result (λ first. (first + c.args.blocks ≤ length c.self.inside.taken.items) × AreFree c.self.inside.taken.items first c.args.blocks) =
    rw c.deref.ensures.value at c.free_run.ensures.run in
    some_run_seen c.args.self.now c.self.inside.words.items c.self.inside.entries.items c.self.inside.taken.items c.free_run.result c.args.blocks c.self.view_is c.self.invariant.taken run
