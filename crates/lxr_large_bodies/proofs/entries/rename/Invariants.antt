use Rattle.std.proofs.Common.{◌≡◌, List}
use Rattle.lxr_layout.specs.declared.Name.{Name}
use Rattle.lxr_large_model.specs.Renewing.{AreCounted}
use Rattle.lxr_large_bodies.specs.Entries.{renamed_entry}
use Rattle.lxr_large_bodies.proofs.Renaming.{renamed_first}
use Rattle.lxr_large_bodies.proofs.entries.rename.Given as goal

abbrev pub invariant-loop-at : goal.invariant-loop-at
invariant-loop-at l = (ns : List Name) → AreCounted l.counts ns → l.entries ≡ renamed_first l.at (renamed_entry ns) l.fn.entries
