use Rattle.std.proofs.Common.{◌≡◌, ◌∙◌, sym, Some, None, arith, length, refl}
use Rattle.std.proofs.lemmas.Option.{slice_get_read}
use Rattle.lxr_large_bodies.specs.Entries.{entry_of, start_in}
use Rattle.lxr_large_bodies.proofs.Views.{range_within, word_is}
use Rattle.lxr_large_bodies.proofs.bodies.Bodies.word.Goals as goal

pub returns-in_err-at : goal.returns-in_err-at
returns-in_err-at c =
    let found : None ≡ start_in (entry_of c.self.inside.entries.items c.args.name) c.args.index 1 = rw c.deref.ensures.value at c.in_err-at.ensures in
    c.from_residual.ensures ∙ sym (word_is c.args.self.now _ c.self.inside.words.items c.self.inside.entries.items c.args.name c.args.index None c.self.view_is found)

pub index-requires : goal.index-requires
index-requires c =
    let found : Some c.in_ok-at.at ≡ start_in (entry_of c.self.inside.entries.items c.args.name) c.args.index 1 = rw c.deref.ensures.value at c.in_ok-at.ensures in
    let within = range_within c.self.inside.entries.items c.args.name c.args.index 1 c.in_ok-at.at _ c.self.invariant.written found in
    omega (arith, within)

pub returns : goal.returns
returns c =
    let found : Some c.in_ok-at.at ≡ start_in (entry_of c.self.inside.entries.items c.args.name) c.args.index 1 = rw c.deref.ensures.value at c.in_ok-at.ensures in
    let within = range_within c.self.inside.entries.items c.args.name c.args.index 1 c.in_ok-at.at _ c.self.invariant.written found in
    sym (word_is c.args.self.now _ c.self.inside.words.items c.self.inside.entries.items c.args.name c.args.index (Some c.in_ok-at.at) c.self.view_is found
    ∙ slice_get_read c.self.inside.words.items (length c.self.inside.words.items) c.in_ok-at.at c.index.result.now refl (omega (arith, within)) c.index.ensures)
