use Rattle.std.proofs.Common.{◌≡◌, sym, ap, Some, None, Option, List, ℕ, length, arith}
use Rattle.std.specs.Option.{is_some}
use Rattle.lxr_large_bodies.specs.Entries.{entry_of, start_in}
use Rattle.lxr_large_bodies.proofs.Views.{range_is, range_within, still_written, write_view}
use Rattle.lxr_large_bodies.proofs.Words.{spliced_length}
use Rattle.lxr_large_bodies.proofs.bodies.Bodies.write.Goals as goal

pub write_at-requires : goal.write_at-requires
write_at-requires c =
    let found : Some c.in-Some.at ≡ start_in (entry_of c.self.inside.entries.items c.args.name) c.args.index (length c.args.from.now) = rw c.deref.ensures.value at c.in-Some.ensures in
    range_within c.self.inside.entries.items c.args.name c.args.index (length c.args.from.now) c.in-Some.at _ c.self.invariant.written found

pub returns-in-None-clause-found : goal.returns-in-None-clause-found
returns-in-None-clause-found c =
    let found : None ≡ start_in (entry_of c.self.inside.entries.items c.args.name) c.args.index (length c.args.from.now) = rw c.deref.ensures.value at c.in-None.ensures in
    sym (ap (λ (w : Option (List ℕ)). is_some w) (range_is c.args.self.now _ c.self.inside.words.items c.self.inside.entries.items c.args.name c.args.index (length c.args.from.now) None c.self.view_is found))

pub returns-in-Some-clause-found : goal.returns-in-Some-clause-found
returns-in-Some-clause-found c =
    let found : Some c.in-Some.at ≡ start_in (entry_of c.self.inside.entries.items c.args.name) c.args.index (length c.args.from.now) = rw c.deref.ensures.value at c.in-Some.ensures in
    sym (ap (λ (w : Option (List ℕ)). is_some w) (range_is c.args.self.now _ c.self.inside.words.items c.self.inside.entries.items c.args.name c.args.index (length c.args.from.now) (Some c.in-Some.at) c.self.view_is found))

pub returns-in-Some-clause-written : goal.returns-in-Some-clause-written
returns-in-Some-clause-written c =
    let found : Some c.in-Some.at ≡ start_in (entry_of c.self.inside.entries.items c.args.name) c.args.index (length c.args.from.now) = rw c.deref.ensures.value at c.in-Some.ensures in
    rw c.write_at.ensures.items (write_view c.args.self.now _ c.self.inside.words.items c.self.inside.entries.items c.args.name c.args.index c.in-Some.at c.args.from.now c.self.view_is found c.self.invariant.sorted c.self.invariant.written)

pub invariant_of-self : goal.invariant_of-self
invariant_of-self c =
    let found : Some c.in-Some.at ≡ start_in (entry_of c.self.inside.entries.items c.args.name) c.args.index (length c.args.from.now) = rw c.deref.ensures.value at c.in-Some.ensures in
    let within = range_within c.self.inside.entries.items c.args.name c.args.index (length c.args.from.now) c.in-Some.at _ c.self.invariant.written found in
    let same = spliced_length c.self.inside.words.items c.in-Some.at c.args.from.now within in
    let capacity = c.write_at.ensures.capacity in
    let was = c.self.invariant in
    let roomy = was.roomy_words in
    let fits = was.fits in
    rw (c.write_at.ensures.items) (record {
      few = was.few;
      sorted = was.sorted;
      within = was.within;
      taken = was.taken;
      written = still_written _ _ c.self.inside.entries.items (omega (arith, same)) was.written;
      roomy = was.roomy;
      roomy_words = omega (arith, roomy, capacity);
      fits = omega (arith, same, fits);
    })
