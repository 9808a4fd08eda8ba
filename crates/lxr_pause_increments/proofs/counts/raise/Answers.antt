use Rattle.lxr_pause_increments.proofs.SettleLemmas.{found_leaves, found_left, found_raised, found_room, found_stands}
use Rattle.lxr_pause_increments.proofs.ShortLemmas.{raised_short}
use Rattle.lxr_pause_increments.proofs.counts.raise.Goals as goal

pub raise_at-requires-clause-stands : goal.raise_at-requires-clause-stands
raise_at-requires-clause-stands c =
    let r = c.requires.may in
    let x = found_stands c.args.space.now c.settle-now.new.space r.0 r.1 r.2 r.3 c.args.place.0 c.settle-now.result r.4 r.5 (c.settle-now.ensures.finds r.0 r.1 r.2 r.3 r.4 r.5) in
    (r.3, x.0, x.1)

pub raise_at-requires-clause-room : goal.raise_at-requires-clause-room
raise_at-requires-clause-room c =
    let r = c.requires.may in
    found_room c.args.space.now c.settle-now.new.space r.0 r.1 r.2 r.3 c.args.place.0 c.settle-now.result r.4 r.5 (c.settle-now.ensures.finds r.0 r.1 r.2 r.3 r.4 r.5)

pub returns-clause-raises : goal.returns-clause-raises
returns-clause-raises c = λ m at st o is may.
    let found = c.settle-now.ensures.finds m at st o is may in
    let x = found_stands c.args.space.now c.settle-now.new.space m at st o c.args.place.0 c.settle-now.result is may found in
    found_raised c.args.space.now c.settle-now.new.space m at st o c.args.place.0 c.settle-now.result is may c.raise_at.new.space (c.raise_at.ensures o x.0 x.1) found

pub returns-clause-left : goal.returns-clause-left
returns-clause-left c =
    let r = c.requires.may in
    let found = c.settle-now.ensures.finds r.0 r.1 r.2 r.3 r.4 r.5 in
    let x = found_stands c.args.space.now c.settle-now.new.space r.0 r.1 r.2 r.3 c.args.place.0 c.settle-now.result r.4 r.5 found in
    found_left c.args.space.now c.settle-now.new.space r.0 r.1 r.2 r.3 c.args.place.0 c.settle-now.result r.4 r.5 c.raise_at.new.space (c.raise_at.ensures r.3 x.0 x.1) found

pub returns-clause-leaves : goal.returns-clause-leaves
returns-clause-leaves c =
    let r = c.requires.may in
    let found = c.settle-now.ensures.finds r.0 r.1 r.2 r.3 r.4 r.5 in
    let x = found_stands c.args.space.now c.settle-now.new.space r.0 r.1 r.2 r.3 c.args.place.0 c.settle-now.result r.4 r.5 found in
    found_leaves c.args.space.now c.settle-now.new.space r.0 r.1 r.2 r.3 c.args.place.0 c.settle-now.result r.4 r.5 c.raise_at.new.space (c.raise_at.ensures r.3 x.0 x.1) found

pub returns-clause-short : goal.returns-clause-short
returns-clause-short c =
    let r = c.requires.may in
    let x = found_stands c.args.space.now c.settle-now.new.space r.0 r.1 r.2 r.3 c.args.place.0 c.settle-now.result r.4 r.5 (c.settle-now.ensures.finds r.0 r.1 r.2 r.3 r.4 r.5) in
    raised_short c.settle-now.new.space c.raise_at.new.space c.settle-now.result.0 r.3 c.settle-now.new.shortage (c.raise_at.ensures r.3 x.0 x.1) c.settle-now.ensures.short
