use Rattle.std.proofs.Common.{ap, ◌∙◌, sym, arith}
use Rattle.std.proofs.lemmas.Option.{get_or_from_slice_get, slice_get_within}
use Rattle.lxr_large_bodies.specs.declared.entries.Entry.{Entry}
use Rattle.lxr_large_bodies.specs.Bodies.{rank_of}
use Rattle.lxr_large_bodies.proofs.Sorted.{none_at, nobody}
use Rattle.lxr_large_bodies.proofs.entries.index_of.Goals as goal
use Rattle.lxr_large_bodies.proofs.entries.index_of.Goals.{else-at-entries-via-then-at-entries+else-rank, else-at-entries-via-else-at-entries}

pub returns-else-at-entries-clause-none : goal.returns-else-at-entries-clause-none
returns-else-at-entries-clause-none c = none_at c.args.entries.now c.args.name c.position-at.result c.requires c.position-at.ensures.bound
    (λ e is. elim c.else-at-entries.branch [
      | else-at-entries-via-then-at-entries+else-rank w ↦ λ equal. w.if-rank.false (w.rank.ensures.number ∙ ap (λ (e : Entry). rank_of e.name) (get_or_from_slice_get c.args.entries.now c.position-at.result e nobody is) ∙ equal ∙ sym w.rank-then-at-entries.ensures.number)
      | else-at-entries-via-else-at-entries w ↦ λ equal. let within = slice_get_within c.args.entries.now c.position-at.result e is in let beyond = w.if-at-entries.false in absurd (omega (arith, within, beyond))
    ])
