use Rattle.std.proofs.Common.{◌≡◌, ◌∙◌, ◌∷◌}
use Rattle.lxr_tables.specs.Counts.{lowered_of}
use Rattle.lxr_tables.specs.declared.counts.Lowered.TheVariants.{Zero}
use Rattle.lxr_image.specs.Spaces.{Turns, tables_of}
use Rattle.lxr_image.specs.Reads.{granule_of}
use Rattle.lxr_pause_decrements.proofs.SpaceLemmas.{with_lowered}
use Rattle.lxr_pause_decrements.proofs.SliceLemmas.{entry_header, entry_room, takes_entry, unit_dies, unit_dies_beside, unit_queued, unit_stays, unit_stays_beside}
use Rattle.lxr_pause_decrements.proofs.slices.lower_last.Goals as goal

pub bury-requires-clause-header : goal.bury-requires-clause-header
bury-requires-clause-header c =
    let e = c.take_decrement-place.ensures in
    let a = c.take_decrement-place.new.space in
    let place = c.take_decrement-place.result in
    let st = c.requires.0 in
    let x = takes_entry c.args.space.now a place st c.requires.1 e.taken e.fewer e.place e.drawn e.turns in
    let turns : Turns a c.lower_count.new.self (with_lowered (tables_of a) (granule_of place.0)) = rw c.granule_of.ensures at c.lower_count.ensures.tables in
    let h = entry_header c.args.space.now a c.lower_count.new.self place st x.0 x.1 turns in
    (x.0, _, h.0, h.1)

pub bury-requires-clause-dead : goal.bury-requires-clause-dead
bury-requires-clause-dead c =
    let e = c.take_decrement-place.ensures in
    let a = c.take_decrement-place.new.space in
    let place = c.take_decrement-place.result in
    let st = c.requires.0 in
    let x = takes_entry c.args.space.now a place st c.requires.1 e.taken e.fewer e.place e.drawn e.turns in
    let turns : Turns a c.lower_count.new.self (with_lowered (tables_of a) (granule_of place.0)) = rw c.granule_of.ensures at c.lower_count.ensures.tables in
    let last : Zero ≡ lowered_of ((tables_of a).counts (granule_of place.0)) = rw c.granule_of.ensures at c.in-Zero.ensures.answer in
    entry_room c.args.space.now a c.lower_count.new.self place st x.0 x.1 turns last

pub queue_references-requires : goal.queue_references-requires
queue_references-requires c =
    let e = c.take_decrement-place.ensures in
    let a = c.take_decrement-place.new.space in
    let place = c.take_decrement-place.result in
    let st = c.requires.0 in
    let x = takes_entry c.args.space.now a place st c.requires.1 e.taken e.fewer e.place e.drawn e.turns in
    let turns : Turns a c.lower_count.new.self (with_lowered (tables_of a) (granule_of place.0)) = rw c.granule_of.ensures at c.lower_count.ensures.tables in
    let last : Zero ≡ lowered_of ((tables_of a).counts (granule_of place.0)) = rw c.granule_of.ensures at c.in-Zero.ensures.answer in
    let h = entry_header c.args.space.now a c.lower_count.new.self place st x.0 x.1 turns in
    (_, x.0, _, unit_dies c.args.space.now a c.lower_count.new.self c.bury.new.space place st x.0 x.1 c.requires.3 last turns (c.bury.ensures x.0 _ h.0))

pub returns-in-Zero-clause-lowers : goal.returns-in-Zero-clause-lowers
returns-in-Zero-clause-lowers c = λ st sliced free.
    let e = c.take_decrement-place.ensures in
    let a = c.take_decrement-place.new.space in
    let place = c.take_decrement-place.result in
    let x = takes_entry c.args.space.now a place st sliced e.taken e.fewer e.place e.drawn e.turns in
    let turns : Turns a c.lower_count.new.self (with_lowered (tables_of a) (granule_of place.0)) = rw c.granule_of.ensures at c.lower_count.ensures.tables in
    let last : Zero ≡ lowered_of ((tables_of a).counts (granule_of place.0)) = rw c.granule_of.ensures at c.in-Zero.ensures.answer in
    let h = entry_header c.args.space.now a c.lower_count.new.self place st x.0 x.1 turns in
    let buries = c.bury.ensures x.0 _ h.0 in
    let q = unit_dies c.args.space.now a c.lower_count.new.self c.bury.new.space place st x.0 x.1 free last turns buries in (
      x.0 ∷ st.gone,
      unit_queued c.args.space.now a c.lower_count.new.self c.bury.new.space c.queue_references.new.space place st x.0 x.1 turns buries c.queue_references.ensures.appends (c.queue_references.ensures.queues _ x.0 _ q),
    )

pub returns-in-Zero-clause-leaves : goal.returns-in-Zero-clause-leaves
returns-in-Zero-clause-leaves c =
    let e = c.take_decrement-place.ensures in
    let a = c.take_decrement-place.new.space in
    let place = c.take_decrement-place.result in
    let st = c.requires.0 in
    let x = takes_entry c.args.space.now a place st c.requires.1 e.taken e.fewer e.place e.drawn e.turns in
    let turns : Turns a c.lower_count.new.self (with_lowered (tables_of a) (granule_of place.0)) = rw c.granule_of.ensures at c.lower_count.ensures.tables in
    let h = entry_header c.args.space.now a c.lower_count.new.self place st x.0 x.1 turns in
    unit_dies_beside c.args.space.now a c.lower_count.new.self c.bury.new.space c.queue_references.new.space place st x.0 x.1 e.leaves turns (c.bury.ensures x.0 _ h.0) c.queue_references.ensures.leaves

pub returns-in_default : goal.returns-in_default
returns-in_default c =
    let e = c.take_decrement-place.ensures in
    let a = c.take_decrement-place.new.space in
    let place = c.take_decrement-place.result in
    let turns : Turns a c.lower_count.new.self (with_lowered (tables_of a) (granule_of place.0)) = rw c.granule_of.ensures at c.lower_count.ensures.tables in
    record {
      lowers = λ st sliced free.
          let x = takes_entry c.args.space.now a place st sliced e.taken e.fewer e.place e.drawn e.turns in
          (st.gone, unit_stays c.args.space.now a c.lower_count.new.self place st x.0 x.1 (λ z. c.in_default.not-Zero (rw c.granule_of.ensures at c.lower_count.ensures.answer ∙ z)) turns);
      leaves =
          let x = takes_entry c.args.space.now a place c.requires.0 c.requires.1 e.taken e.fewer e.place e.drawn e.turns in
          unit_stays_beside c.args.space.now a c.lower_count.new.self place c.requires.0 x.0 x.1 e.leaves turns;
    }
