use Rattle.std.proofs.Common.{◌∙◌, [], ◌∷◌, ap, subst, sym}
use Rattle.lxr_image.specs.Spaces.{Turns, tables_of}
use Rattle.lxr_pause_decrements.proofs.SpaceLemmas.{keeps_none}
use Rattle.lxr_pause_decrements.proofs.HandledLemmas.{found, found_placed, found_reclaimed, found_room, one_added, one_fewer, one_keeps, one_undone, some_none, without_bit}
use Rattle.lxr_pause_decrements.proofs.handled.reclaim_handled.Goals as goal

pub reclaim-requires-clause-header : goal.reclaim-requires-clause-header
reclaim-requires-clause-header c =
    let s = c.args.space.now in
    let done = ap (tables_of s).dones (sym c.granule_of-granule.ensures) ∙ sym c.has_done.ensures ∙ c.if-has_done.true in
    let turns = subst (λ g. Turns s c.clear_done.new.self (without_bit (tables_of s) g)) c.granule_of-granule.ensures c.clear_done.ensures in
    let h = found_placed s c.args.place c.requires.stage.0 c.requires.stage.1 c.requires.place done c.clear_done.new.self turns in
    (_, _, h.header, h.fits)

pub reclaim-requires-clause-work : goal.reclaim-requires-clause-work
reclaim-requires-clause-work c =
    let s = c.args.space.now in
    let done = ap (tables_of s).dones (sym c.granule_of-granule.ensures) ∙ sym c.has_done.ensures ∙ c.if-has_done.true in
    let turns = subst (λ g. Turns s c.clear_done.new.self (without_bit (tables_of s) g)) c.granule_of-granule.ensures c.clear_done.ensures in
    (found_room s c.args.place c.requires.stage.0 c.requires.stage.1 c.requires.place done c.clear_done.new.self turns c.requires.heap).0

pub reclaim-requires-clause-dead : goal.reclaim-requires-clause-dead
reclaim-requires-clause-dead c =
    let s = c.args.space.now in
    let done = ap (tables_of s).dones (sym c.granule_of-granule.ensures) ∙ sym c.has_done.ensures ∙ c.if-has_done.true in
    let turns = subst (λ g. Turns s c.clear_done.new.self (without_bit (tables_of s) g)) c.granule_of-granule.ensures c.clear_done.ensures in
    (found_room s c.args.place c.requires.stage.0 c.requires.stage.1 c.requires.place done c.clear_done.new.self turns c.requires.heap).1

pub returns-then-has_done-clause-reclaims : goal.returns-then-has_done-clause-reclaims
returns-then-has_done-clause-reclaims c =
    let s = c.args.space.now in
    let b = c.clear_done.new.self in
    let done = ap (tables_of s).dones (sym c.granule_of-granule.ensures) ∙ sym c.has_done.ensures ∙ c.if-has_done.true in
    let turns = subst (λ g. Turns s b (without_bit (tables_of s) g)) c.granule_of-granule.ensures c.clear_done.ensures in
    let h = found_placed s c.args.place c.requires.stage.0 c.requires.stage.1 c.requires.place done b turns in
    let re = c.reclaim.ensures _ _ h.header in
    record {
      stage = λ st is.
          let k = found_placed s c.args.place st is c.requires.place done b turns in
          ((found s c.args.place st is c.requires.place done).0 ∷ st.gone, found_reclaimed s c.args.place st is c.requires.place done b c.reclaim.new.space turns (c.reclaim.ensures _ _ k.header));
      added = (c.args.place ∷ [], one_added s b c.reclaim.new.space c.args.place _ _ turns re);
      dones = one_fewer s b c.reclaim.new.space c.args.place _ _ turns re;
    }

pub returns-then-has_done-clause-undone : goal.returns-then-has_done-clause-undone
returns-then-has_done-clause-undone c =
    let s = c.args.space.now in
    let b = c.clear_done.new.self in
    let done = ap (tables_of s).dones (sym c.granule_of-granule.ensures) ∙ sym c.has_done.ensures ∙ c.if-has_done.true in
    let turns = subst (λ g. Turns s b (without_bit (tables_of s) g)) c.granule_of-granule.ensures c.clear_done.ensures in
    let h = found_placed s c.args.place c.requires.stage.0 c.requires.stage.1 c.requires.place done b turns in
    one_undone s b c.reclaim.new.space c.args.place _ _ turns (c.reclaim.ensures _ _ h.header)

pub returns-then-has_done-clause-keeps : goal.returns-then-has_done-clause-keeps
returns-then-has_done-clause-keeps c =
    let s = c.args.space.now in
    let b = c.clear_done.new.self in
    let done = ap (tables_of s).dones (sym c.granule_of-granule.ensures) ∙ sym c.has_done.ensures ∙ c.if-has_done.true in
    let turns = subst (λ g. Turns s b (without_bit (tables_of s) g)) c.granule_of-granule.ensures c.clear_done.ensures in
    let h = found_placed s c.args.place c.requires.stage.0 c.requires.stage.1 c.requires.place done b turns in
    one_keeps s b c.reclaim.new.space c.args.place _ _ turns (c.reclaim.ensures _ _ h.header)

pub returns-else-has_done-clause-reclaims : goal.returns-else-has_done-clause-reclaims
returns-else-has_done-clause-reclaims c = some_none c.args.space.now

pub returns-else-has_done-clause-undone : goal.returns-else-has_done-clause-undone
returns-else-has_done-clause-undone c =
    ap (tables_of c.args.space.now).dones (sym c.granule_of-granule.ensures) ∙ sym c.has_done.ensures ∙ c.if-has_done.false

pub returns-else-has_done-clause-keeps : goal.returns-else-has_done-clause-keeps
returns-else-has_done-clause-keeps c = keeps_none c.args.space.now
