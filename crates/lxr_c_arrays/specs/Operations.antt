-- The operations of which a call on an array is made.
use Rattle.std.specs.Prelude.{ℕ}
use Rattle.lxr_graph.specs.declared.Op.TheVariants as op
use Rattle.lxr_large_model.specs.declared.LargeOp.TheVariants as large_op
use Rattle.lxr_c_many.specs.declared.asked.Asked.{Asked}
use Rattle.lxr_c_many.specs.declared.asked.Asked.TheVariants as asked

-- a register gets a new object with so many references and data words
abbrev pub new_of : ℕ → ℕ → ℕ → Asked
new_of dest refs values = asked.Make (large_op.Small (op.New dest (record { refs = refs; values = values })))

-- a register gets reference `index` of what `base` holds
abbrev pub load_of : ℕ → ℕ → ℕ → Asked
load_of dest base index = asked.Reply (large_op.Small (op.Load dest base index))

-- reference `index` of what `base` holds becomes what `source` holds
abbrev pub store_of : ℕ → ℕ → ℕ → Asked
store_of base index source = asked.Store (large_op.Small (op.Store base index source))

-- data word `index` of what `base` holds becomes this word
abbrev pub put_of : ℕ → ℕ → ℕ → Asked
put_of base index value = asked.Reply (large_op.Small (op.Put base index value))

-- a register gets what another one holds
abbrev pub move_of : ℕ → ℕ → Asked
move_of dest source = asked.Reply (large_op.Small (op.Move dest source))

-- a register becomes nil
abbrev pub nil_of : ℕ → Asked
nil_of dest = asked.Reply (large_op.Small (op.Nil dest))
