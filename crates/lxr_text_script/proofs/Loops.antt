-- Reading one after the other, as a loop does: what was read before stands in front of what is still read.
use Rattle.std.proofs.Common.{◌≡◌, ℕ, suc, ◌+◌, ◌-◌, ◌<◌, ◌≤◌, true, false, List, [], ◌∷◌, ◌++◌, length, Ok, Err, refl, sym, ap, ◌∙◌, arith, append_assoc, codes, length-append}
use Rattle.std.proofs.lemmas.List.{append-nil}
use Rattle.lxr_graph.specs.declared.Op.{Op}
use Rattle.lxr_text_script.specs.declared.fault.ScriptFault.{ScriptFault}
use Rattle.lxr_text_script.specs.declared.fault.ScriptFault.TheVariants as fault
use Rattle.lxr_text_script.specs.declared.fault.ScriptError.{ScriptError}
use Rattle.lxr_text_script.specs.declared.fault.ScriptError.TheVariants as error
use Rattle.lxr_text_script.specs.declared.Version.{Version}
use Rattle.lxr_text_script.specs.declared.lines.Scanner.{Scanner}
use Rattle.lxr_text_script.specs.Lines.{Line}
use Rattle.lxr_text_script.specs.Scanner.{IsSmall, end_left, items_left}
use Rattle.lxr_text_script.specs.Operations.{Read, ◌>>=◌}
use Rattle.lxr_text_script.specs.Reading.{Fails, are, bodies_of, next_operation, opening_of, operations_of}

-- what was read before, and what is still read
abbrev pub with_front : {A : Type 0} → List A → Read (List A × List Line) → Read (List A × List Line)
with_front front read = read >>= λ x. Ok (front ++ x.0, x.1)

pub regroup : {A : Type 0} (front : List A) (o : A) (read : Read (List A × List Line)) → with_front front (read >>= λ x. Ok (o ∷ x.0, x.1)) ≡ with_front (front ++ o ∷ []) read
regroup front o (Ok x) = ap (λ (os : List _). Ok (os, x.1)) (simp append_assoc)
regroup front o (Err f) = refl

-- a fault of a part is the fault of the whole, and memory that runs out in a part does in the whole
pub carried : {Y B : Type 0} (e : ScriptError) (read : Read Y) (total : Read B) → Fails e read → ((f : ScriptFault) → read ≡ Err f → total ≡ Err f) → Fails e total
carried (error.Fault f) read total fails goes = goes f fails
carried error.Memory read total fails goes = tt

-- the operations so far, in front of those that are left, are those of the thread
pub record ReadsOn (version : Version) (old new : Scanner) (front : List Op) : Type 0 where
  pub small : IsSmall new
  pub last : end_left new ≡ end_left old
  pub read : with_front front (operations_of version (end_left old) (length front) (items_left new)) ≡ operations_of version (end_left old) 0 (items_left old)

pub one_more : (version : Version) (end : ℕ) (front : List Op) (items others : List Line) (line : Line) (o : Op) (total : Read (List Op × List Line)) → items ≡ line ∷ others
    → are line.words (codes "end" ∷ []) ≡ false → next_operation version (length front) line ≡ Ok o
    → with_front front (operations_of version end (length front) items) ≡ total → with_front (front ++ o ∷ []) (operations_of version end (length (front ++ o ∷ [])) others) ≡ total
unfolding operations_of
one_more version end front items others line o total first not_end reads so_far =
    let longer : length (front ++ o ∷ []) ≡ length front + 1 = simp length-append (omega arith) in
    let one : with_front front (operations_of version end (length front) items) ≡ with_front (front ++ o ∷ []) (operations_of version end (length front + 1) others) = rw (first, not_end, reads) (regroup front o (operations_of version end (length front + 1) others)) in
    rw longer (sym one ∙ so_far)

pub at_fault : (version : Version) (end : ℕ) (front : List Op) (items others : List Line) (line : Line) (f : ScriptFault) (total : Read (List Op × List Line)) → items ≡ line ∷ others
    → are line.words (codes "end" ∷ []) ≡ false → next_operation version (length front) line ≡ Err f
    → with_front front (operations_of version end (length front) items) ≡ total → total ≡ Err f
unfolding operations_of
at_fault version end front items others line f total first not_end reads so_far =
    let one : with_front front (operations_of version end (length front) items) ≡ Err f = rw (first, not_end, reads) refl in
    sym so_far ∙ one

pub at_end : (version : Version) (end : ℕ) (front : List Op) (items others : List Line) (line : Line) (total : Read (List Op × List Line)) → items ≡ line ∷ others
    → are line.words (codes "end" ∷ []) ≡ true
    → with_front front (operations_of version end (length front) items) ≡ total → total ≡ Ok (front, others)
unfolding operations_of
at_end version end front items others line total first is_end so_far =
    let one : with_front front (operations_of version end (length front) items) ≡ Ok (front, others) = rw (first, is_end) (ap (λ (os : List Op). Ok (os, others)) (append-nil front)) in
    sym so_far ∙ one

pub without_end : (version : Version) (end : ℕ) (front : List Op) (items : List Line) (total : Read (List Op × List Line)) → items ≡ []
    → with_front front (operations_of version end (length front) items) ≡ total → total ≡ Err (fault.NoEnd end)
unfolding operations_of
without_end version end front items total none so_far =
    let one : with_front front (operations_of version end (length front) items) ≡ Err (fault.NoEnd end) = rw none refl in
    sym so_far ∙ one

-- the threads so far, in front of those that are left, are those of the script
pub record ThreadsOn (version : Version) (old new : Scanner) (count done : ℕ) (front : List (List Op)) : Type 0 where
  pub small : IsSmall new
  pub last : end_left new ≡ end_left old
  pub so_far : length front ≡ done
  pub read : with_front front (bodies_of version (end_left old) (count - done) (done + 1) (items_left new)) ≡ bodies_of version (end_left old) count 1 (items_left old)

pub body_more : (version : Version) (end count done : ℕ) (front : List (List Op)) (items body others : List Line) (thread : List Op) (total : Read (List (List Op) × List Line)) → done < count
    → opening_of end (done + 1) items ≡ Ok body → operations_of version end 0 body ≡ Ok (thread, others)
    → with_front front (bodies_of version end (count - done) (done + 1) items) ≡ total → with_front (front ++ thread ∷ []) (bodies_of version end (count - (done + 1)) (done + 1 + 1) others) ≡ total
unfolding bodies_of
body_more version end count done front items body others thread total lt opens reads so_far =
    let k : count - done ≡ suc (count - (done + 1)) = omega arith in
    let one : with_front front (bodies_of version end (count - done) (done + 1) items) ≡ with_front (front ++ thread ∷ []) (bodies_of version end (count - (done + 1)) (done + 1 + 1) others) = rw (k, opens, reads) (regroup front thread (bodies_of version end (count - (done + 1)) (done + 1 + 1) others)) in
    sym one ∙ so_far

pub no_opening : (version : Version) (end count done : ℕ) (front : List (List Op)) (items : List Line) (f : ScriptFault) (total : Read (List (List Op) × List Line)) → done < count
    → opening_of end (done + 1) items ≡ Err f
    → with_front front (bodies_of version end (count - done) (done + 1) items) ≡ total → total ≡ Err f
unfolding bodies_of
no_opening version end count done front items f total lt opens so_far =
    let k : count - done ≡ suc (count - (done + 1)) = omega arith in
    let one : with_front front (bodies_of version end (count - done) (done + 1) items) ≡ Err f = rw (k, opens) refl in
    sym so_far ∙ one

pub no_body : (version : Version) (end count done : ℕ) (front : List (List Op)) (items body : List Line) (f : ScriptFault) (total : Read (List (List Op) × List Line)) → done < count
    → opening_of end (done + 1) items ≡ Ok body → operations_of version end 0 body ≡ Err f
    → with_front front (bodies_of version end (count - done) (done + 1) items) ≡ total → total ≡ Err f
unfolding bodies_of
no_body version end count done front items body f total lt opens reads so_far =
    let k : count - done ≡ suc (count - (done + 1)) = omega arith in
    let one : with_front front (bodies_of version end (count - done) (done + 1) items) ≡ Err f = rw (k, opens, reads) refl in
    sym so_far ∙ one

pub all_bodies : (version : Version) (end count done : ℕ) (front : List (List Op)) (items : List Line) (total : Read (List (List Op) × List Line)) → count ≤ done
    → with_front front (bodies_of version end (count - done) (done + 1) items) ≡ total → total ≡ Ok (front, items)
unfolding bodies_of
all_bodies version end count done front items total le so_far =
    let k : count - done ≡ 0 = omega arith in
    let one : with_front front (bodies_of version end (count - done) (done + 1) items) ≡ Ok (front, items) = rw k (ap (λ (ts : List (List Op)). Ok (ts, items)) (append-nil front)) in
    sym so_far ∙ one
