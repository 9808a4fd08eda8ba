-- Whether an operation is well formed, as a test.
use Rattle.std.specs.Prelude.{ℕ, Bool, true, ◌&&◌, nat_le, nat_lt}
use Rattle.lxr_layout.specs.declared.Shape.{Shape}
use Rattle.lxr_graph.specs.declared.Op.{Op}
use Rattle.lxr_graph.specs.declared.Op.TheVariants as op

-- at most 1,023 references and at most 1,023 data words
abbrev pub fits_shape : Shape → Bool
fits_shape shape = nat_le shape.refs 1023 && nat_le shape.values 1023

-- an operation names the first so many registers alone, and its shape fits
abbrev pub is_formed_for : ℕ → Op → Bool
is_formed_for n (op.New dest shape) = nat_lt dest n && fits_shape shape
is_formed_for n (op.Load dest base index) = nat_lt dest n && nat_lt base n
is_formed_for n (op.Store base index source) = nat_lt base n && nat_lt source n
is_formed_for n (op.Put base index value) = nat_lt base n
is_formed_for n (op.Get base index) = nat_lt base n
is_formed_for n (op.Swap dest base index source) = nat_lt dest n && (nat_lt base n && nat_lt source n)
is_formed_for n (op.Add base index value) = nat_lt base n
is_formed_for n (op.Move dest source) = nat_lt dest n && nat_lt source n
is_formed_for n (op.Nil dest) = nat_lt dest n
is_formed_for n (op.Same left right) = nat_lt left n && nat_lt right n
is_formed_for n op.Pause = true
is_formed_for n op.Collect = true
is_formed_for n op.End = true
