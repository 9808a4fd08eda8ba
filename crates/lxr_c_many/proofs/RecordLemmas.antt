-- What stores have to record: one entry for each reference that wasn't stored to since the last pause, and none for another.
use Rattle.std.proofs.Common.{◌≡◌, ℕ, zero, suc, ◌+◌, ◌≤◌, ◌∙◌, refl, sym, ap, subst, arith, inl, inr, true≢false, Bool, true, false, Option, Some, None, List, ◌∷◌, length}
use Rattle.std.specs.Prelude.{◌&&◌, IsTrue, if◌then◌else◌, not}
use Rattle.std.proofs.lemmas.Bool.{and_from, and_parts, cases_lt, not-true}
use Rattle.lxr_layout.specs.declared.Name.{Name}
use Rattle.lxr_graph.specs.declared.Op.TheVariants as op
use Rattle.lxr_graph.specs.declared.Reply.TheVariants as reply
use Rattle.lxr_graph.specs.Names.{has}
use Rattle.lxr_graph.specs.State.{register_at}
use Rattle.lxr_model.specs.Moments.{Field, Moment, after_call, written_with}
use Rattle.lxr_model_counting.specs.Distinct.{has_field}
use Rattle.lxr_model_counting.proofs.StoreLemmas.{written_old}
use Rattle.lxr_blocks.specs.Masks.{one_if}
use Rattle.lxr_direct.specs.Operating.{IsToRecord}
use Rattle.lxr_c_many.specs.Recording.{is_to_record, to_record}

-- ---- one reference

-- one for each, and so at most one
pub one_more : (a b : Bool) → (a ≡ true → b ≡ true) → one_if a ≤ one_if b
one_more true true so = omega arith
one_more true false so = absurd (true≢false (sym (so refl)))
one_more false true so = omega arith
one_more false false so = omega arith

pub one_at_most : (a : Bool) → one_if a ≤ 1
one_at_most true = omega arith
one_at_most false = omega arith

-- the test says what it says
pub record_tested : (m : Moment) (base i : ℕ) → IsToRecord m 1 base i → IsTrue (is_to_record m (register_at m.state 1 base) i)
record_tested m base i is =
    subst (λ v. IsTrue (is_to_record m v i)) (sym is.held) (and_from (has m.unreclaimed is.name) (not (has_field m.written (is.name, i))) is.unreclaimed (ap not is.unwritten))

-- ---- so many

pub as_many : (m : Moment) (v : Option Name) (first count : ℕ) → to_record m v first count ≤ count
as_many m v first zero = omega arith
as_many m v first (suc count) = let rest = as_many m v first count in let one = one_at_most (is_to_record m v (first + count)) in omega (arith, rest, one)

pub fewer : (m : Moment) (v : Option Name) (first count i : ℕ) → i ≤ count → to_record m v first i ≤ to_record m v first count
fewer m v first zero i few = let none : i ≡ 0 = omega (arith, few) in subst (λ k. to_record m v first k ≤ 0) (sym none) (omega arith)
fewer m v first (suc count) i few = elim (cases_lt count i) [
  | inl over ↦ let same : i ≡ suc count = omega (arith, over, few) in subst (λ k. to_record m v first i ≤ to_record m v first k) same (omega arith)
  | inr within ↦ let rest = fewer m v first count i within in omega (arith, rest)
]

pub one_further : (m : Moment) (v : Option Name) (first i : ℕ) → to_record m v first (i + 1) ≡ to_record m v first i + one_if (is_to_record m v (first + i))
one_further m v first i = let next : i + 1 ≡ suc i = omega arith in ap (to_record m v first) next

-- ---- behind a store

-- the references that were stored to are one more where it was recorded
written_by : (ws : List Field) (w : Field) (a b : Bool) → length (if a then (if b then ws else w ∷ ws) else ws) ≡ length ws + one_if (a && not b)
written_by ws w true true = omega arith
written_by ws w true false = omega arith
written_by ws w false true = omega arith
written_by ws w false false = omega arith

written_long : (m : Moment) (v : Option Name) (i : ℕ) → length (written_with m.unreclaimed m.written v i) ≡ length m.written + one_if (is_to_record m v i)
written_long m None i = omega arith
written_long m (Some n) i = written_by m.written (n, i) (has m.unreclaimed n) (has_field m.written (n, i))

pub stored_long : (m : Moment) (base i source : ℕ) → length (after_call m 1 (op.Store base i source) reply.Stored).written ≡ length m.written + one_if (is_to_record m (register_at m.state 1 base) i)
stored_long m base i source = written_long m (register_at m.state 1 base) i

-- what has to be recorded then had to be before
module _ (m : Moment) (base i source : ℕ) where
  abbrev k : Moment
  k = after_call m 1 (op.Store base i source) reply.Stored

  still_by : (n : Name) (j : ℕ) (b : Bool) → has_field m.written (n, j) ≡ b → (has m.unreclaimed n ≡ true) × (not (has_field k.written (n, j)) ≡ true) → IsTrue (is_to_record m (Some n) j)
  still_by n j true e parts = absurd (true≢false (sym (written_old m 1 (op.Store base i source) reply.Stored n j e) ∙ not-true (has_field k.written (n, j)) parts.1))
  still_by n j false e parts = and_from (has m.unreclaimed n) (not (has_field m.written (n, j))) parts.0 (ap not e)

  pub still_to_record : (j : ℕ) (v : Option Name) → IsTrue (is_to_record k v j) → IsTrue (is_to_record m v j)
  still_to_record j None is = is
  still_to_record j (Some n) is = still_by n j (has_field m.written (n, j)) refl (and_parts (has m.unreclaimed n) (not (has_field k.written (n, j))) is)
