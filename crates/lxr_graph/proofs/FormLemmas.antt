-- The test of an operation's form decides whether it is formed so, and what is formed for fewer registers is so for more.
use Rattle.std.proofs.Common.{◌<◌, ◌≤◌, ℕ, arith, refl}
use Rattle.std.specs.Prelude.{◌&&◌, Decides, nat_le, nat_lt}
use Rattle.std.proofs.lemmas.Bool.{leb-true, le-leb}
use Rattle.std.proofs.lemmas.Bool.Decides.{Decides-and, Decides-ltb}
use Rattle.lxr_layout.specs.declared.Shape.{Shape}
use Rattle.lxr_layout.specs.Objects.{FitsShape}
use Rattle.lxr_graph.specs.declared.Op.{Op}
use Rattle.lxr_graph.specs.declared.Op.TheVariants as op
use Rattle.lxr_graph.specs.Forms.{fits_shape, is_formed_for}
use Rattle.lxr_graph.specs.Step.{IsFormedFor}

at_most : (a b : ℕ) → Decides (nat_le a b) (a ≤ b)
at_most a b = (leb-true a b, le-leb a b)

register : (n r : ℕ) → Decides (nat_lt r n) (r < n)
register n r = Decides-ltb r n

registers : (n r s : ℕ) → Decides (nat_lt r n && nat_lt s n) ((r < n) × (s < n))
registers n r s = Decides-and (nat_lt r n) (nat_lt s n) (register n r) (register n s)

shape_fits : (shape : Shape) → Decides (fits_shape shape) (FitsShape shape)
shape_fits shape = Decides-and (nat_le shape.refs 1023) (nat_le shape.values 1023) (at_most shape.refs 1023) (at_most shape.values 1023)

pub formed_for : (n : ℕ) (o : Op) → Decides (is_formed_for n o) (IsFormedFor n o)
formed_for n (op.New dest shape) = Decides-and (nat_lt dest n) (fits_shape shape) (register n dest) (shape_fits shape)
formed_for n (op.Load dest base index) = registers n dest base
formed_for n (op.Store base index source) = registers n base source
formed_for n (op.Put base index value) = register n base
formed_for n (op.Get base index) = register n base
formed_for n (op.Swap dest base index source) =
    let all = Decides-and (nat_lt dest n) (nat_lt base n && nat_lt source n) (register n dest) (registers n base source) in
    (λ e. let h = all.0 e in (h.0, h.1.0, h.1.1), λ h. all.1 (h.0, (h.1, h.2)))
formed_for n (op.Add base index value) = register n base
formed_for n (op.Move dest source) = registers n dest source
formed_for n (op.Nil dest) = register n dest
formed_for n (op.Same left right) = registers n left right
formed_for n op.Pause = (λ e. tt, λ h. refl)
formed_for n op.Collect = (λ e. tt, λ h. refl)
formed_for n op.End = (λ e. tt, λ h. refl)

-- an operation for fewer registers is one for more
pub formed_more : (m n : ℕ) (o : Op) → m ≤ n → IsFormedFor m o → IsFormedFor n o
formed_more m n (op.New dest shape) le is = let d = is.0 in (omega (arith, d, le), is.1)
formed_more m n (op.Load dest base index) le is = let d = is.0 in let b = is.1 in (omega (arith, d, le), omega (arith, b, le))
formed_more m n (op.Store base index source) le is = let d = is.0 in let b = is.1 in (omega (arith, d, le), omega (arith, b, le))
formed_more m n (op.Put base index value) le is = omega (arith, is, le)
formed_more m n (op.Get base index) le is = omega (arith, is, le)
formed_more m n (op.Swap dest base index source) le is = let d = is.0 in let b = is.1 in let c = is.2 in (omega (arith, d, le), omega (arith, b, le), omega (arith, c, le))
formed_more m n (op.Add base index value) le is = omega (arith, is, le)
formed_more m n (op.Move dest source) le is = let d = is.0 in let b = is.1 in (omega (arith, d, le), omega (arith, b, le))
formed_more m n (op.Nil dest) le is = omega (arith, is, le)
formed_more m n (op.Same left right) le is = let d = is.0 in let b = is.1 in (omega (arith, d, le), omega (arith, b, le))
formed_more m n op.Pause le is = tt
formed_more m n op.Collect le is = tt
formed_more m n op.End le is = tt
