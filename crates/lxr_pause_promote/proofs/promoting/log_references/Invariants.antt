use Rattle.lxr_image.specs.Spaces.{IsSpace, Turns, tables_of}
use Rattle.lxr_pause_promote.specs.Promotion.{with_unlogged}
use Rattle.lxr_pause_promote.proofs.promoting.log_references.Given as goal

abbrev pub invariant-loop-at : goal.invariant-loop-at
invariant-loop-at l = record { space : IsSpace l.space; turns : Turns l.initial.space l.space (with_unlogged (tables_of l.initial.space) l.first l.at) }
