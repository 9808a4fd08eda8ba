use Rattle.std.proofs.Common.{◌≡◌, ◌∙◌, sym, ap}
use Rattle.std.specs.Prelude.{Some, None}
use Rattle.lxr_large_bodies.specs.Bodies.{Held, blocks_in, body_of}
use Rattle.lxr_large_bodies.specs.Entries.{entry_of}
use Rattle.lxr_large_bodies.proofs.Views.{blocks_found, blocks_of}
use Rattle.lxr_large_bodies.proofs.bodies.Bodies.blocks_of.Goals as goal

pub returns-in-None : goal.returns-in-None
returns-in-None c =
    let found : None ≡ entry_of c.self.inside.entries.items c.args.name = rw c.deref.ensures.value at c.in-None.ensures in
    ap blocks_of found ∙ sym (blocks_found c.self.inside.words.items c.self.inside.entries.items c.args.name) ∙ ap (λ (h : Held). blocks_in (body_of h.bodies c.args.name)) c.self.view_is

pub returns-in-Some : goal.returns-in-Some
returns-in-Some c =
    let found : Some c.in-Some.entry ≡ entry_of c.self.inside.entries.items c.args.name = rw c.deref.ensures.value at c.in-Some.ensures in
    ap blocks_of found ∙ sym (blocks_found c.self.inside.words.items c.self.inside.entries.items c.args.name) ∙ ap (λ (h : Held). blocks_in (body_of h.bodies c.args.name)) c.self.view_is
