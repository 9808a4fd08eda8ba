use Rattle.std.proofs.Common.{◌≡◌, List, length, sym, subst}
use Rattle.lxr_graph.specs.declared.Item.{Item}
use Rattle.lxr_run_replay.specs.Recording.{HasRoom, recorded}
use Rattle.lxr_run_replay.proofs.RecordLemmas.{noted}
use Rattle.lxr_run_replay.proofs.replaying.advance.Goals as goal

pub note-requires : goal.note-requires
note-requires g c =
    subst (λ (xs : List Item). HasRoom c.args.calls.now (length xs))
    (sym (noted c.args.words.now c.args.actor.now c.step.new.words c.step.new.actor c.placed_by-placed.result c.step.ensures.done c.placed_by-placed.ensures.count c.placed_by-placed.ensures.sound)) c.requires.room

pub returns-clause-calls : goal.returns-clause-calls
returns-clause-calls g c =
    subst (λ (xs : List Item). c.note.new.self ≡ recorded c.args.calls.now xs)
    (noted c.args.words.now c.args.actor.now c.step.new.words c.step.new.actor c.placed_by-placed.result c.step.ensures.done c.placed_by-placed.ensures.count c.placed_by-placed.ensures.sound) c.note.ensures
