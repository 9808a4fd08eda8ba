-- A load or a store through a reference of an object that was looked up: three operations in a row, by way of a register that is nil before and after.
use Rattle.std.specs.Prelude.{◌≡◌, ℕ}
use Rattle.lxr_graph.specs.declared.Op.TheVariants as op
use Rattle.lxr_heap.specs.declared.heap.Heap.{Heap}
use Rattle.lxr_heap.specs.Trying.{Does}

-- register `own` gets reference i of what `root` holds, `dest` gets reference j of that, and `own` becomes nil
pub record LoadsThrough (before after : Heap) (dest root i j own : ℕ) : Type 0 where
  pub entered : Heap
  pub loaded : Heap
  pub enters : Does before entered (op.Load own root i)
  pub loads : Does entered loaded (op.Load dest own j)
  pub leaves : Does loaded after (op.Nil own)

-- Register `own` gets reference i of what `root` holds, reference j of that becomes what `source` holds, and `own` becomes nil. As many objects and
-- pauses were made before the store as before all.
pub record StoresThrough (before after : Heap) (root i j source own : ℕ) : Type 0 where
  pub entered : Heap
  pub stored : Heap
  pub enters : Does before entered (op.Load own root i)
  pub stores : Does entered stored (op.Store own j source)
  pub leaves : Does stored after (op.Nil own)
  pub made : entered.made ≡ before.made
  pub pauses : entered.space.pauses ≡ before.space.pauses
