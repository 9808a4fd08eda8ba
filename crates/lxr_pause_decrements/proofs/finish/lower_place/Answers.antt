use Rattle.std.proofs.Common.{◌<◌, subst, refl, sym, ◌∙◌, length}
use Rattle.lxr_pause_decrements.proofs.SpaceLemmas.{placed_there, fell, went_on, fell_to_do, went_to_do, room_left, can_lower, lowered_keeps, reclaimed_keeps, keeps_both}
use Rattle.lxr_pause_decrements.proofs.finish.lower_place.Goals as goal

pub lower_count-requires-clause-counted : goal.lower_count-requires-clause-counted
lower_count-requires-clause-counted c = rw c.granule_of.ensures (can_lower c.args.space.now c.args.place c.requires.0 c.requires.1 c.requires.2 c.requires.3)

pub reclaim-requires-clause-header : goal.reclaim-requires-clause-header
reclaim-requires-clause-header c =
    let h = placed_there c.args.space.now c.lower_count.new.self _ c.args.place c.requires.0 c.requires.1 c.requires.2 c.requires.3 (rw c.granule_of.ensures at c.lower_count.ensures.tables) refl in
    (c.requires.1, _, h.header, h.fits)

pub reclaim-requires-clause-work : goal.reclaim-requires-clause-work
reclaim-requires-clause-work c =
    subst (λ s. length s.work.items < s.work.room) (sym c.lower_count.ensures.tables.rest)
    (room_left c.args.space.now c.args.place c.requires.0 c.requires.1 c.requires.2 c.requires.3 (rw c.granule_of.ensures at c.in-Zero.ensures.answer)).0

pub reclaim-requires-clause-dead : goal.reclaim-requires-clause-dead
reclaim-requires-clause-dead c =
    subst (λ s. length s.report.dead.items < s.report.dead.room) (sym c.lower_count.ensures.tables.rest)
    (room_left c.args.space.now c.args.place c.requires.0 c.requires.1 c.requires.2 c.requires.3 (rw c.granule_of.ensures at c.in-Zero.ensures.answer)).1

pub returns-in-Zero-clause-reaches : goal.returns-in-Zero-clause-reaches
returns-in-Zero-clause-reaches c = λ st r rest w.
    let h = placed_there c.args.space.now c.lower_count.new.self _ c.args.place st r rest w (rw c.granule_of.ensures at c.lower_count.ensures.tables) refl in
    fell c.args.space.now c.lower_count.new.self c.reclaim.new.space c.args.place st r rest w (rw c.granule_of.ensures at c.in-Zero.ensures.answer) (rw c.granule_of.ensures at c.lower_count.ensures.tables) (c.reclaim.ensures r _ h.header)

pub returns-in-Zero-clause-to_do : goal.returns-in-Zero-clause-to_do
returns-in-Zero-clause-to_do c =
    let h = placed_there c.args.space.now c.lower_count.new.self _ c.args.place c.requires.0 c.requires.1 c.requires.2 c.requires.3 (rw c.granule_of.ensures at c.lower_count.ensures.tables) refl in
    fell_to_do c.args.space.now c.lower_count.new.self c.reclaim.new.space c.args.place c.requires.0 c.requires.1 c.requires.2 c.requires.3 (rw c.granule_of.ensures at c.in-Zero.ensures.answer) (rw c.granule_of.ensures at c.lower_count.ensures.tables) (c.reclaim.ensures c.requires.1 _ h.header)

pub returns-in-Zero-clause-keeps : goal.returns-in-Zero-clause-keeps
returns-in-Zero-clause-keeps c =
    let h = placed_there c.args.space.now c.lower_count.new.self _ c.args.place c.requires.0 c.requires.1 c.requires.2 c.requires.3 (rw c.granule_of.ensures at c.lower_count.ensures.tables) refl in
    keeps_both c.args.space.now c.lower_count.new.self c.reclaim.new.space
    (lowered_keeps c.args.space.now c.lower_count.new.self _ (rw c.granule_of.ensures at c.lower_count.ensures.tables))
    (reclaimed_keeps c.lower_count.new.self c.reclaim.new.space c.args.place c.requires.1 _ (c.reclaim.ensures c.requires.1 _ h.header))

pub returns-in_default : goal.returns-in_default
returns-in_default c = record {
  reaches = λ st r rest w. went_on c.args.space.now c.lower_count.new.self c.args.place st r rest w (λ z. c.in_default.not-Zero (rw c.granule_of.ensures at c.lower_count.ensures.answer ∙ z)) (rw c.granule_of.ensures at c.lower_count.ensures.tables);
  to_do = went_to_do c.args.space.now c.lower_count.new.self _ (rw c.granule_of.ensures at c.lower_count.ensures.tables);
  keeps = lowered_keeps c.args.space.now c.lower_count.new.self _ (rw c.granule_of.ensures at c.lower_count.ensures.tables);
}
