-- A step adds no row and at most one object: each case of a step writes one row, which is as long as before or, for a
-- new object, longer by one.
use Rattle.std.proofs.Common.{◌≡◌, ◌≢◌, ℕ, zero, suc, ◌+◌, ◌≤◌, refl, arith, List, [], ◌∷◌, ◌++◌, length, length-append, ap}
use Rattle.std.proofs.lemmas.List.{length-set}
use Rattle.std.specs.Prelude.{Option, Some, None, slice_set}
use Rattle.lxr_layout.specs.declared.Name.{Name}
use Rattle.lxr_graph.specs.declared.Op.TheVariants as op
use Rattle.lxr_graph.specs.State.{Object, State, Graph, object_at, row_of, with_reference, with_reference_at, with_value, with_value_at, register_at, index_in_row}
use Rattle.lxr_graph.specs.Step.{stored, swapped, swap_in, loaded, load_from, store_to, put_to, put_at, get_from, added, add_to, fresh}
use Rattle.lxr_graph.specs.Laws.{KeepsRows, StepKeepsRows}

other_row : (g : Graph) (t : ℕ) (r : List Object) (u : ℕ) → u ≢ t → row_of (slice_set g t r) u ≡ row_of g u
other_row [] t r u d = refl
other_row (q ∷ g) zero r zero d = absurd (d refl)
other_row (q ∷ g) zero r (suc u) d = refl
other_row (q ∷ g) (suc t) r zero d = refl
other_row (q ∷ g) (suc t) r (suc u) d = other_row g t r u (λ e. d (ap suc e))

own_row : (g : Graph) (t : ℕ) (r : List Object) → length (row_of g t) ≤ length r → length r ≤ length (row_of g t) + 1
    → (length (row_of g t) ≤ length (row_of (slice_set g t r) t)) × (length (row_of (slice_set g t r) t) ≤ length (row_of g t) + 1)
own_row [] t r low high = (omega arith, omega arith)
own_row (q ∷ g) zero r low high = (low, high)
own_row (q ∷ g) (suc t) r low high = own_row g t r low high

-- each row is as long as before where the row that is written is
pub same_lengths : (g : Graph) (t : ℕ) (r : List Object) (u : ℕ) → length r ≡ length (row_of g t) → length (row_of (slice_set g t r) u) ≡ length (row_of g u)
same_lengths [] t r u h = refl
same_lengths (q ∷ g) zero r zero h = h
same_lengths (q ∷ g) zero r (suc u) h = refl
same_lengths (q ∷ g) (suc t) r zero h = refl
same_lengths (q ∷ g) (suc t) r (suc u) h = same_lengths g t r u h

unchanged : (s : State) (t : ℕ) (rs : List (Option Name)) → KeepsRows s t (record s { registers = rs })
unchanged s t rs = record { rows = refl; others = λ u d. refl; none_lost = omega arith; one_made = omega arith }

written : (s : State) (t u : ℕ) (r : List Object) (rs : List (Option Name)) → length r ≡ length (row_of s.graph u)
    → KeepsRows s t (record { graph = slice_set s.graph u r; registers = rs })
written s t u r rs h =
    let own = same_lengths s.graph u r t h in
    record { rows = length-set _ _ _; others = λ v d. same_lengths s.graph u r v h; none_lost = omega (arith, own); one_made = omega (arith, own) }

pushed : (s : State) (t : ℕ) (o : Object) (rs : List (Option Name)) → KeepsRows s t (record { graph = slice_set s.graph t (row_of s.graph t ++ o ∷ []); registers = rs })
pushed s t o rs =
    let longer = length-append (row_of s.graph t) (o ∷ []) in
    let own = own_row s.graph t (row_of s.graph t ++ o ∷ []) (omega (arith, longer)) (omega (arith, longer)) in
    record { rows = length-set _ _ _; others = λ u d. ap length (other_row s.graph t (row_of s.graph t ++ o ∷ []) u d); none_lost = own.0; one_made = own.1 }

pub length-with_reference_at : (row : List Object) (at i : ℕ) (v : Option Name) (o : Option Object) → length (with_reference_at row at i v o) ≡ length row
length-with_reference_at row at i v None = refl
length-with_reference_at row at i v (Some o) = length-set _ _ _

pub length-with_value_at : (row : List Object) (at i v : ℕ) (o : Option Object) → length (with_value_at row at i v o) ≡ length row
length-with_value_at row at i v None = refl
length-with_value_at row at i v (Some o) = length-set _ _ _

-- one reference of an object changes, and maybe registers; one data word changes
reference_rows : (s : State) (t i : ℕ) (n : Name) (v : Option Name) (rs : List (Option Name))
    → KeepsRows s t (record { graph = with_reference s.graph n i v (object_at s.graph n); registers = rs })
reference_rows s t i n v rs =
    written s t n.thread (with_reference_at (row_of s.graph n.thread) (index_in_row n) i v (object_at s.graph n)) rs
    (length-with_reference_at (row_of s.graph n.thread) (index_in_row n) i v (object_at s.graph n))

value_rows : (s : State) (t i : ℕ) (n : Name) (v : ℕ) → KeepsRows s t (record s { graph = with_value s.graph n i v (object_at s.graph n) })
value_rows s t i n v =
    written s t n.thread (with_value_at (row_of s.graph n.thread) (index_in_row n) i v (object_at s.graph n)) s.registers
    (length-with_value_at (row_of s.graph n.thread) (index_in_row n) i v (object_at s.graph n))

-- ---- the cases of a step

loaded_rows : (s : State) (t dest : ℕ) (found : Option (Option Name)) → KeepsRows s t (loaded s t dest found).0
loaded_rows s t dest None = unchanged s t s.registers
loaded_rows s t dest (Some v) = unchanged s t _

load_rows : (s : State) (t dest i : ℕ) (b : Option Name) → KeepsRows s t (load_from s t dest i b).0
load_rows s t dest i None = unchanged s t s.registers
load_rows s t dest i (Some n) = loaded_rows s t dest _

stored_rows : (s : State) (t i : ℕ) (n : Name) (v : Option Name) (found : Option (Option Name)) → KeepsRows s t (stored s n i v found).0
stored_rows s t i n v None = unchanged s t s.registers
stored_rows s t i n v (Some old) = reference_rows s t i n v s.registers

store_rows : (s : State) (t i : ℕ) (v b : Option Name) → KeepsRows s t (store_to s i v b).0
store_rows s t i v None = unchanged s t s.registers
store_rows s t i v (Some n) = stored_rows s t i n v _

swapped_rows : (s : State) (t dest i : ℕ) (n : Name) (v : Option Name) (found : Option (Option Name)) → KeepsRows s t (swapped s t dest n i v found).0
swapped_rows s t dest i n v None = unchanged s t s.registers
swapped_rows s t dest i n v (Some old) = reference_rows s t i n v _

swap_rows : (s : State) (t dest i : ℕ) (v b : Option Name) → KeepsRows s t (swap_in s t dest i v b).0
swap_rows s t dest i v None = unchanged s t s.registers
swap_rows s t dest i v (Some n) = swapped_rows s t dest i n v _

put_at_rows : (s : State) (t i : ℕ) (n : Name) (v : ℕ) (found : Option ℕ) → KeepsRows s t (put_at s n i v found).0
put_at_rows s t i n v None = unchanged s t s.registers
put_at_rows s t i n v (Some old) = value_rows s t i n v

put_rows : (s : State) (t i v : ℕ) (b : Option Name) → KeepsRows s t (put_to s i v b).0
put_rows s t i v None = unchanged s t s.registers
put_rows s t i v (Some n) = put_at_rows s t i n v _

added_rows : (s : State) (t i : ℕ) (n : Name) (v : ℕ) (found : Option ℕ) → KeepsRows s t (added s n i v found).0
added_rows s t i n v None = unchanged s t s.registers
added_rows s t i n v (Some old) = value_rows s t i n _

add_rows : (s : State) (t i v : ℕ) (b : Option Name) → KeepsRows s t (add_to s i v b).0
add_rows s t i v None = unchanged s t s.registers
add_rows s t i v (Some n) = added_rows s t i n v _

get_rows : (s : State) (t i : ℕ) (b : Option Name) → KeepsRows s t (get_from s i b).0
get_rows s t i None = unchanged s t s.registers
get_rows s t i (Some n) = unchanged s t s.registers

pub step_rows : StepKeepsRows
step_rows s t (op.New dest shape) = pushed s t (fresh shape) _
step_rows s t (op.Load dest base index) = load_rows s t dest index (register_at s t base)
step_rows s t (op.Store base index source) = store_rows s t index (register_at s t source) (register_at s t base)
step_rows s t (op.Put base index value) = put_rows s t index value (register_at s t base)
step_rows s t (op.Get base index) = get_rows s t index (register_at s t base)
step_rows s t (op.Swap dest base index source) = swap_rows s t dest index (register_at s t source) (register_at s t base)
step_rows s t (op.Add base index value) = add_rows s t index value (register_at s t base)
step_rows s t (op.Move dest source) = unchanged s t _
step_rows s t (op.Nil dest) = unchanged s t _
step_rows s t (op.Same left right) = unchanged s t s.registers
step_rows s t op.Pause = unchanged s t s.registers
step_rows s t op.Collect = unchanged s t s.registers
step_rows s t op.End = unchanged s t _
