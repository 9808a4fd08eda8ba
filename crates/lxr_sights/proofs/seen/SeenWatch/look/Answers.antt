use Rattle.lxr_sights.specs.Copies.{IsSpare}
use Rattle.lxr_sights.proofs.CopyLemmas.{left_are, room_is_left, spare_has_room, spare_has_words, taken_is}
use Rattle.lxr_sights.proofs.seen.SeenWatch.look.Goals as goal

pub copy_space-requires-clause-words : goal.copy_space-requires-clause-words
copy_space-requires-clause-words c = spare_has_words c.self.inside.limits c.in-Some.copy c.args.space.now
    (taken_is (IsSpare c.self.inside.limits) c.self.inside.spare c.pop.new.self c.in-Some.copy c.in-Some.ensures c.self.invariant.spare)
    (c.fits.ensures.0 c.if-not-fits.false)

pub copy_space-requires-clause-room : goal.copy_space-requires-clause-room
copy_space-requires-clause-room c = spare_has_room c.self.inside.limits c.in-Some.copy c.args.space.now
    (taken_is (IsSpare c.self.inside.limits) c.self.inside.spare c.pop.new.self c.in-Some.copy c.in-Some.ensures c.self.invariant.spare)
    (c.fits.ensures.0 c.if-not-fits.false)

pub invariant_of-self-in-Some : goal.invariant_of-self-in-Some
invariant_of-self-in-Some c = record {
  limits = c.self.invariant.limits;
  spare = left_are (IsSpare c.self.inside.limits) c.self.inside.spare c.pop.new.self c.in-Some.copy c.in-Some.ensures c.self.invariant.spare;
  room = room_is_left c.self.inside.kept c.push.new.self c.self.inside.spare c.pop.new.self c.in-Some.copy c.copy_space.new.to c.push.ensures c.in-Some.ensures c.self.invariant.room;
}
