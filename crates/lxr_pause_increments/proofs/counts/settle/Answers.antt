use Rattle.std.proofs.Common.{◌∙◌, ap, arith, inl, inr, sym}
use Rattle.lxr_layout.specs.Objects.{header_of}
use Rattle.lxr_image.specs.Spaces.{tables_of}
use Rattle.lxr_pause_increments.proofs.SettleLemmas.{begins_there, is_new_there, moved_there, new_room, new_stands, settled_granule, settled_place, taken_there}
use Rattle.lxr_pause_increments.proofs.counts.settle.Goals as goal

pub returns-then-has_start-clause-finds : goal.returns-then-has_start-clause-finds
returns-then-has_start-clause-finds c = λ m at st o is may. inl (begins_there c.args.space.now m at st o c.args.place is may (sym c.if-has_start.true ∙ rw c.granule_of.ensures at c.has_start.ensures))

pub granule_of-requires : goal.granule_of-requires
granule_of-requires c =
    let r = c.requires.may in
    let some = (settled_granule c.args.space.now r.0 r.1 r.2 r.3 c.args.place r.4 r.5).0 in
    omega (arith, some)

pub has_start-requires-clause-granule : goal.has_start-requires-clause-granule
has_start-requires-clause-granule c =
    let r = c.requires.may in
    let within = (settled_granule c.args.space.now r.0 r.1 r.2 r.3 c.args.place r.4 r.5).1 in
    let granule = c.granule_of.ensures in
    omega (arith, within, granule)

pub word_of-requires : goal.word_of-requires
word_of-requires c = let r = c.requires.may in (settled_place c.args.space.now r.0 r.1 r.2 r.3 c.args.place r.4 r.5).0

pub heap_word-requires-clause-at : goal.heap_word-requires-clause-at
heap_word-requires-clause-at c =
    let r = c.requires.may in
    let within = (settled_place c.args.space.now r.0 r.1 r.2 r.3 c.args.place r.4 r.5).1 in
    let e = c.word_of.ensures in
    omega (arith, within, e)

pub take_in-requires-clause-stands : goal.take_in-requires-clause-stands
take_in-requires-clause-stands c =
    let r = c.requires.may in
    let header = sym c.in-Object.is ∙ c.unpack.ensures ∙ ap header_of (c.heap_word.ensures ∙ ap (tables_of c.args.space.now).heap c.word_of.ensures) in
    let x = is_new_there c.args.space.now r.0 r.1 r.2 r.3 c.args.place r.4 r.5 c.in-Object.name _ (sym c.if-has_start.false ∙ rw c.granule_of.ensures at c.has_start.ensures) header in
    (r.3, _, new_stands c.args.space.now r.0 r.1 r.2 r.3 c.args.place r.4 r.5 x.0)

pub take_in-requires-clause-promoted : goal.take_in-requires-clause-promoted
take_in-requires-clause-promoted c = let r = c.requires.may in (new_room c.args.space.now r.0 r.1 r.2 r.3 c.args.place r.4 r.5 (sym c.if-has_start.false ∙ rw c.granule_of.ensures at c.has_start.ensures)).0

pub take_in-requires-clause-work : goal.take_in-requires-clause-work
take_in-requires-clause-work c = let r = c.requires.may in (new_room c.args.space.now r.0 r.1 r.2 r.3 c.args.place r.4 r.5 (sym c.if-has_start.false ∙ rw c.granule_of.ensures at c.has_start.ensures)).1

pub returns-in-Moved-clause-finds : goal.returns-in-Moved-clause-finds
returns-in-Moved-clause-finds c = λ m at st o is may.
    let header = sym c.in-Moved.is ∙ c.unpack.ensures ∙ ap header_of (c.heap_word.ensures ∙ ap (tables_of c.args.space.now).heap c.word_of.ensures) in
    inl (moved_there c.args.space.now m at st o c.args.place is may c.in-Moved.now (sym c.if-has_start.false ∙ rw c.granule_of.ensures at c.has_start.ensures) header)

pub returns-in-Object-clause-finds : goal.returns-in-Object-clause-finds
returns-in-Object-clause-finds c = λ m at st o is may.
    let header = sym c.in-Object.is ∙ c.unpack.ensures ∙ ap header_of (c.heap_word.ensures ∙ ap (tables_of c.args.space.now).heap c.word_of.ensures) in
    let x = is_new_there c.args.space.now m at st o c.args.place is may c.in-Object.name _ (sym c.if-has_start.false ∙ rw c.granule_of.ensures at c.has_start.ensures) header in
    inr (taken_there c.args.space.now m at st o c.args.place is may c.take_in.new.space c.take_in.result x.0
    (c.take_in.ensures.takes o _ (new_stands c.args.space.now m at st o c.args.place is may x.0) x.1))
