-- Reading operations one after the other, as a loop does: what was read before stands in front of what is still read.
use Rattle.std.proofs.Common.{◌≡◌, ℕ, ◌+◌, true, false, List, [], ◌∷◌, ◌++◌, length, Ok, Err, refl, sym, ap, ◌∙◌, arith, codes, length-append}
use Rattle.std.proofs.lemmas.List.{append-nil}
use Rattle.lxr_text_script.specs.declared.fault.ScriptFault.{ScriptFault}
use Rattle.lxr_text_script.specs.declared.fault.ScriptFault.TheVariants as fault
use Rattle.lxr_text_script.specs.declared.lines.Scanner.{Scanner}
use Rattle.lxr_text_script.specs.Lines.{Line}
use Rattle.lxr_text_script.specs.Scanner.{IsSmall, end_left, items_left}
use Rattle.lxr_text_script.specs.Operations.{Read, ◌>>=◌}
use Rattle.lxr_text_script.specs.Reading.{are}
use Rattle.lxr_text_script.proofs.Loops.{regroup, with_front}
use Rattle.lxr_large_model.specs.declared.LargeOp.{LargeOp}
use Rattle.lxr_large_text.specs.Reading.{next_operation, operations_of}

-- the operations so far, in front of those that are left, are those of the script
pub record ReadsOn (old new : Scanner) (front : List LargeOp) : Type 0 where
  pub small : IsSmall new
  pub last : end_left new ≡ end_left old
  pub read : with_front front (operations_of (end_left old) (length front) (items_left new)) ≡ operations_of (end_left old) 0 (items_left old)

pub one_more : (end : ℕ) (front : List LargeOp) (items others : List Line) (line : Line) (o : LargeOp) (total : Read (List LargeOp × List Line)) → items ≡ line ∷ others
    → are line.words (codes "end" ∷ []) ≡ false → next_operation (length front) line ≡ Ok o
    → with_front front (operations_of end (length front) items) ≡ total → with_front (front ++ o ∷ []) (operations_of end (length (front ++ o ∷ [])) others) ≡ total
unfolding operations_of
one_more end front items others line o total first not_end reads so_far =
    let longer : length (front ++ o ∷ []) ≡ length front + 1 = simp length-append (omega arith) in
    let one : with_front front (operations_of end (length front) items) ≡ with_front (front ++ o ∷ []) (operations_of end (length front + 1) others) = rw (first, not_end, reads) (regroup front o (operations_of end (length front + 1) others)) in
    rw longer (sym one ∙ so_far)

pub at_fault : (end : ℕ) (front : List LargeOp) (items others : List Line) (line : Line) (f : ScriptFault) (total : Read (List LargeOp × List Line)) → items ≡ line ∷ others
    → are line.words (codes "end" ∷ []) ≡ false → next_operation (length front) line ≡ Err f
    → with_front front (operations_of end (length front) items) ≡ total → total ≡ Err f
unfolding operations_of
at_fault end front items others line f total first not_end reads so_far =
    let one : with_front front (operations_of end (length front) items) ≡ Err f = rw (first, not_end, reads) refl in
    sym so_far ∙ one

pub at_end : (end : ℕ) (front : List LargeOp) (items others : List Line) (line : Line) (total : Read (List LargeOp × List Line)) → items ≡ line ∷ others
    → are line.words (codes "end" ∷ []) ≡ true
    → with_front front (operations_of end (length front) items) ≡ total → total ≡ Ok (front, others)
unfolding operations_of
at_end end front items others line total first is_end so_far =
    let one : with_front front (operations_of end (length front) items) ≡ Ok (front, others) = rw (first, is_end) (ap (λ (os : List LargeOp). Ok (os, others)) (append-nil front)) in
    sym so_far ∙ one

pub without_end : (end : ℕ) (front : List LargeOp) (items : List Line) (total : Read (List LargeOp × List Line)) → items ≡ []
    → with_front front (operations_of end (length front) items) ≡ total → total ≡ Err (fault.NoEnd end)
unfolding operations_of
without_end end front items total none so_far =
    let one : with_front front (operations_of end (length front) items) ≡ Err (fault.NoEnd end) = rw none refl in
    sym so_far ∙ one
