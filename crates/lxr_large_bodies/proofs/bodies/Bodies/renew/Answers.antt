use Rattle.std.proofs.Common.{◌≡◌, ◌∙◌, ap, sym, subst, IsTrue, List, length, map}
use Rattle.std.specs.List.{AllByRecursion}
use Rattle.std.proofs.lemmas.List.{length-map}
use Rattle.lxr_graph.specs.Names.{has}
use Rattle.lxr_large_bodies.specs.declared.entries.Entry.{Entry}
use Rattle.lxr_large_bodies.specs.Bodies.{AreAmong, Body, Held, renamed}
use Rattle.lxr_large_bodies.specs.Entries.{body_at, renamed_entry}
use Rattle.lxr_large_bodies.proofs.Renaming.{bodies_renamed, counted_entries, sorted_renamed, taken_renamed, within_renamed, written_renamed}
use Rattle.lxr_large_bodies.proofs.Views.{written_back}
use Rattle.lxr_large_bodies.proofs.bodies.Bodies.renew.Goals as goal

pub rename-requires-clause-among : goal.rename-requires-clause-among
rename-requires-clause-among c =
    let was = subst (AreAmong c.args.counts.now) (sym (ap (λ (h : Held). h.bodies) c.self.view_is)) c.requires.among in
    rw c.deref_mut.ensures.value (counted_entries c.args.counts.now c.self.inside.words.items c.self.inside.entries.items was)

pub invariant_of-self : goal.invariant_of-self
invariant_of-self c =
    let (ns, are) = c.requires.counts in
    let es = c.self.inside.entries.items in
    let was = subst (AreAmong c.args.counts.now) (sym (ap (λ (h : Held). h.bodies) c.self.view_is)) c.requires.among in
    let left = subst (λ us. AllByRecursion (λ (e : Entry). IsTrue (has us e.name)) es) are.names (counted_entries c.args.counts.now c.self.inside.words.items es was) in
    let many = ap length (c.rename.ensures ns are) ∙ length-map c.deref_mut.result.now (renamed_entry ns) ∙ c.deref_mut.ensures.len in
    let new = written_back c.self.inside.entries.len c.rename.new.entries es many ∙ c.rename.ensures ns are ∙ ap (λ (z : List Entry). map (renamed_entry ns) z) c.deref_mut.ensures.value in
    let old = c.self.invariant in
    rw new (record {
      few = old.few;
      sorted = sorted_renamed c.args.counts.now ns are es left old.sorted;
      within = within_renamed c.args.counts.now ns are (length c.self.inside.taken.items) es old.within;
      taken = taken_renamed c.args.counts.now ns are c.self.inside.taken.items es old.taken;
      written = written_renamed c.args.counts.now ns are (length c.self.inside.words.items) es old.written;
      roomy = old.roomy;
      roomy_words = old.roomy_words;
      fits = old.fits;
    })

pub returns : goal.returns
returns c = λ ns are.
    let es = c.self.inside.entries.items in
    let many = ap length (c.rename.ensures ns are) ∙ length-map c.deref_mut.result.now (renamed_entry ns) ∙ c.deref_mut.ensures.len in
    let new = written_back c.self.inside.entries.len c.rename.new.entries es many ∙ c.rename.ensures ns are ∙ ap (λ (z : List Entry). map (renamed_entry ns) z) c.deref_mut.ensures.value in
    let bodies = ap (λ (z : List Entry). map (body_at c.self.inside.words.items) z) new ∙ bodies_renamed c.args.counts.now ns are c.self.inside.words.items es ∙ ap (λ (h : Held). map (renamed ns) h.bodies) c.self.view_is in
    let blocks = ap (λ (h : Held). h.blocks) c.self.view_is in
    λ i. record { blocks = blocks i; bodies = bodies i }
