use Rattle.std.proofs.Common.{◌≡◌, ◌∙◌, sym, ap, Some, None, Option, List, ℕ, length, take, drop, unwrap_or}
use Rattle.std.specs.Option.{is_some}
use Rattle.lxr_large_bodies.specs.Entries.{entry_of, start_in}
use Rattle.lxr_large_bodies.proofs.Views.{range_is, range_within}
use Rattle.lxr_large_bodies.proofs.bodies.Bodies.read.Goals as goal

pub read_at-requires : goal.read_at-requires
read_at-requires c =
    let found : Some c.in-Some.at ≡ start_in (entry_of c.self.inside.entries.items c.args.name) c.args.index (length c.args.into.now) = rw c.deref.ensures.value at c.in-Some.ensures in
    rw c.deref-in-Some.ensures.value (range_within c.self.inside.entries.items c.args.name c.args.index (length c.args.into.now) c.in-Some.at _ c.self.invariant.written found)

pub returns-in-None-clause-found : goal.returns-in-None-clause-found
returns-in-None-clause-found c =
    let found : None ≡ start_in (entry_of c.self.inside.entries.items c.args.name) c.args.index (length c.args.into.now) = rw c.deref.ensures.value at c.in-None.ensures in
    sym (ap (λ (w : Option (List ℕ)). is_some w) (range_is c.args.self.now _ c.self.inside.words.items c.self.inside.entries.items c.args.name c.args.index (length c.args.into.now) None c.self.view_is found))

pub returns-in-None-clause-read : goal.returns-in-None-clause-read
returns-in-None-clause-read c =
    let found : None ≡ start_in (entry_of c.self.inside.entries.items c.args.name) c.args.index (length c.args.into.now) = rw c.deref.ensures.value at c.in-None.ensures in
    sym (ap (λ (w : Option (List ℕ)). unwrap_or w c.args.into.now) (range_is c.args.self.now _ c.self.inside.words.items c.self.inside.entries.items c.args.name c.args.index (length c.args.into.now) None c.self.view_is found))

pub returns-in-Some-clause-found : goal.returns-in-Some-clause-found
returns-in-Some-clause-found c =
    let found : Some c.in-Some.at ≡ start_in (entry_of c.self.inside.entries.items c.args.name) c.args.index (length c.args.into.now) = rw c.deref.ensures.value at c.in-Some.ensures in
    sym (ap (λ (w : Option (List ℕ)). is_some w) (range_is c.args.self.now _ c.self.inside.words.items c.self.inside.entries.items c.args.name c.args.index (length c.args.into.now) (Some c.in-Some.at) c.self.view_is found))

pub returns-in-Some-clause-read : goal.returns-in-Some-clause-read
returns-in-Some-clause-read c =
    let found : Some c.in-Some.at ≡ start_in (entry_of c.self.inside.entries.items c.args.name) c.args.index (length c.args.into.now) = rw c.deref.ensures.value at c.in-Some.ensures in
    c.read_at.ensures ∙ ap (λ (ws : List ℕ). take (length c.args.into.now) (drop c.in-Some.at ws)) c.deref-in-Some.ensures.value
    ∙ sym (ap (λ (w : Option (List ℕ)). unwrap_or w c.args.into.now) (range_is c.args.self.now _ c.self.inside.words.items c.self.inside.entries.items c.args.name c.args.index (length c.args.into.now) (Some c.in-Some.at) c.self.view_is found))
