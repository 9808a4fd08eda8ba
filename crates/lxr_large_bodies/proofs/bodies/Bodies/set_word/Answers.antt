use Rattle.std.proofs.Common.{◌≡◌, ◌∙◌, sym, ap, Some, None, Option, ℕ, arith}
use Rattle.std.specs.Option.{is_some}
use Rattle.std.proofs.lemmas.Option.{slice_get-get_or}
use Rattle.lxr_large_bodies.specs.Entries.{entry_of, start_in}
use Rattle.lxr_large_bodies.proofs.Views.{range_within, set_view, word_is}
use Rattle.lxr_large_bodies.proofs.bodies.Bodies.set_word.Goals as goal

pub index_mut-requires : goal.index_mut-requires
index_mut-requires c =
    let found : Some c.in-Some.at ≡ start_in (entry_of c.self.inside.entries.items c.args.name) c.args.index 1 = rw c.deref.ensures.value at c.in-Some.ensures in
    let within = range_within c.self.inside.entries.items c.args.name c.args.index 1 c.in-Some.at _ c.self.invariant.written found in
    omega (arith, within)

pub returns-in-None-clause-found : goal.returns-in-None-clause-found
returns-in-None-clause-found c =
    let found : None ≡ start_in (entry_of c.self.inside.entries.items c.args.name) c.args.index 1 = rw c.deref.ensures.value at c.in-None.ensures in
    sym (ap (λ (w : Option ℕ). is_some w) (word_is c.args.self.now _ c.self.inside.words.items c.self.inside.entries.items c.args.name c.args.index None c.self.view_is found))

pub returns-in-Some-clause-found : goal.returns-in-Some-clause-found
returns-in-Some-clause-found c =
    let found : Some c.in-Some.at ≡ start_in (entry_of c.self.inside.entries.items c.args.name) c.args.index 1 = rw c.deref.ensures.value at c.in-Some.ensures in
    let within = range_within c.self.inside.entries.items c.args.name c.args.index 1 c.in-Some.at _ c.self.invariant.written found in
    sym (ap (λ (w : Option ℕ). is_some w) (word_is c.args.self.now _ c.self.inside.words.items c.self.inside.entries.items c.args.name c.args.index (Some c.in-Some.at) c.self.view_is found
    ∙ slice_get-get_or c.self.inside.words.items c.in-Some.at 0 (omega (arith, within))))

pub returns-in-Some-clause-written : goal.returns-in-Some-clause-written
returns-in-Some-clause-written c =
    let found : Some c.in-Some.at ≡ start_in (entry_of c.self.inside.entries.items c.args.name) c.args.index 1 = rw c.deref.ensures.value at c.in-Some.ensures in
    set_view c.args.self.now _ c.self.inside.words.items c.self.inside.entries.items c.args.name c.args.index c.in-Some.at c.args.value c.self.view_is found c.self.invariant.sorted c.self.invariant.written
