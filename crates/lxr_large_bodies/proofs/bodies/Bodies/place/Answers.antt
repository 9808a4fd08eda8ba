use Rattle.std.proofs.Common.{◌≡◌, ◌∙◌, sym, ap, None, List, ◌*◌, ◌+◌, ◌≤◌, length, arith, map}
use Rattle.lxr_large_bodies.specs.declared.entries.Entry.{Entry}
use Rattle.lxr_large_bodies.specs.Bodies.{Held, body_of}
use Rattle.lxr_large_bodies.specs.Blocks.{TakesRun}
use Rattle.lxr_large_bodies.specs.Entries.{body_at}
use Rattle.lxr_large_bodies.proofs.Sorted.{inserted_all, inserted_sorted}
use Rattle.lxr_large_bodies.proofs.Views.{entry_for, fits_on, held_by, new_entry, placed_is, room_left, run_told, still_written, taken_inserted, written_back}
use Rattle.lxr_large_bodies.proofs.bodies.Bodies.place.Goals as goal

pub take_run-requires-clause-free : goal.take_run-requires-clause-free
take_run-requires-clause-free c =
    let (within, free) = run_told c.args.self.now c.self.inside.words.items c.self.inside.entries.items c.self.inside.taken.items c.args.first c.args.blocks c.self.view_is c.self.invariant.taken c.requires.run in
    rw c.deref_mut.ensures.value free

pub insert-requires-clause-room : goal.insert-requires-clause-room
insert-requires-clause-room c =
    let (within, free) = run_told c.args.self.now c.self.inside.words.items c.self.inside.entries.items c.self.inside.taken.items c.args.first c.args.blocks c.self.view_is c.self.invariant.taken c.requires.run in
    let few = room_left c.self.inside.taken.items c.self.inside.entries.items c.args.first c.args.blocks c.requires.blocks.0 within c.self.invariant.sorted c.self.invariant.taken free in
    let roomy = c.self.invariant.roomy in
    omega (arith, few, roomy)

pub invariant_of-self : goal.invariant_of-self
invariant_of-self c =
    let (within, free) = run_told c.args.self.now c.self.inside.words.items c.self.inside.entries.items c.self.inside.taken.items c.args.first c.args.blocks c.self.view_is c.self.invariant.taken c.requires.run in
    let takes : TakesRun c.self.inside.taken.items c.take_run.new.taken c.args.first c.args.blocks = rw c.deref_mut.ensures.value at c.take_run.ensures in
    let none : body_of (map (body_at c.self.inside.words.items) c.self.inside.entries.items) c.args.name ≡ None = ap (λ (h : Held). body_of h.bodies c.args.name) c.self.view_is ∙ c.requires.name in
    let is_new = new_entry c.self.inside.words.items c.self.inside.entries.items c.self.inside.taken.items c.args.name c.args.first c.args.blocks c.insert.ensures.serial c.requires.blocks.0 c.self.invariant.sorted c.self.invariant.taken free none in
    let e = entry_for c.args.name c.args.first c.args.blocks in
    let was = c.self.invariant in
    let same = takes.as_many in
    let few = was.few in
    let roomy = was.roomy in
    let roomy_words = was.roomy_words in
    let fits = was.fits in
    let capacity = c.insert.ensures.capacity in
    let word_capacity = c.clear_blocks.ensures.capacity in
    let cleared = c.clear_blocks.ensures.cleared in
    let longer = cleared.longer in
    let reaches = cleared.reaches in
    let back = written_back c.self.inside.taken.len c.take_run.new.taken c.self.inside.taken.items (same ∙ sym (ap length c.deref_mut.ensures.value) ∙ c.deref_mut.ensures.len) in
    rw (back, c.insert.ensures.items) (record {
      few = omega (arith, same, few);
      sorted = inserted_sorted c.self.inside.entries.items e is_new was.sorted;
      within = inserted_all (λ e. e.first + e.blocks ≤ length c.take_run.new.taken) c.self.inside.entries.items e (omega (arith, same, within)) (rw same was.within);
      taken = taken_inserted c.self.inside.taken.items c.take_run.new.taken c.self.inside.entries.items e takes was.taken;
      written = inserted_all (λ e. 4096 * (e.first + e.blocks) ≤ length c.clear_blocks.new.words.items) c.self.inside.entries.items e reaches (still_written _ _ c.self.inside.entries.items longer was.written);
      roomy = omega (arith, same, roomy, capacity);
      roomy_words = omega (arith, same, roomy_words, word_capacity);
      fits = fits_on (length c.self.inside.words.items) (length c.clear_blocks.new.words.items) (4096 * (c.args.first + c.args.blocks)) (4096 * length c.take_run.new.taken) cleared.fits (omega (arith, fits, same)) (omega (arith, within, same));
    })

pub returns : goal.returns
returns c =
    let (within, free) = run_told c.args.self.now c.self.inside.words.items c.self.inside.entries.items c.self.inside.taken.items c.args.first c.args.blocks c.self.view_is c.self.invariant.taken c.requires.run in
    let takes : TakesRun c.self.inside.taken.items c.take_run.new.taken c.args.first c.args.blocks = rw c.deref_mut.ensures.value at c.take_run.ensures in
    let none : body_of (map (body_at c.self.inside.words.items) c.self.inside.entries.items) c.args.name ≡ None = ap (λ (h : Held). body_of h.bodies c.args.name) c.self.view_is ∙ c.requires.name in
    let is_new = new_entry c.self.inside.words.items c.self.inside.entries.items c.self.inside.taken.items c.args.name c.args.first c.args.blocks c.insert.ensures.serial c.requires.blocks.0 c.self.invariant.sorted c.self.invariant.taken free none in
    let same = takes.as_many in
    let back = written_back c.self.inside.taken.len c.take_run.new.taken c.self.inside.taken.items (same ∙ sym (ap length c.deref_mut.ensures.value) ∙ c.deref_mut.ensures.len) in
    let many = ap length back ∙ same in
    let bodies = ap (λ (es : List Entry). map (body_at c.clear_blocks.new.words.items) es) c.insert.ensures.items in
    let left : _ ≡ held_by (length c.self.inside.taken.items) c.clear_blocks.new.words.items _ = λ i. record { blocks = many i; bodies = bodies i } in
    left ∙ placed_is c.args.self.now (length c.self.inside.taken.items) c.self.inside.words.items c.clear_blocks.new.words.items c.self.inside.entries.items c.args.name c.args.first c.args.blocks c.self.view_is c.clear_blocks.ensures.cleared c.self.invariant.written is_new
