use Rattle.lxr_image.specs.Spaces.{IsSpace, Turns, tables_of}
use Rattle.lxr_pause_promote.specs.Copying.{with_words}
use Rattle.lxr_pause_promote.proofs.copying.copy_words.Given as goal

abbrev pub invariant-loop-behind : goal.invariant-loop-behind
invariant-loop-behind l = record { space : IsSpace l.space; turns : Turns l.fn.space l.space (with_words (tables_of l.fn.space) l.from l.to l.behind) }
