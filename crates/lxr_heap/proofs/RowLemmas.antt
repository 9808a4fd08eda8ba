-- What an operation of the first version does to the thread's row: only a `new` makes an object, and its reply says so.
use Rattle.std.proofs.Common.{◌≡◌, ℕ, zero, suc, ◌<◌, ◌⊎◌, inl, inr, refl, ap, ◌∙◌, List, [], ◌∷◌, ◌++◌, length, length-append, length-set}
use Rattle.std.specs.Prelude.{Option, Some, None, slice_get, slice_set}
use Rattle.lxr_layout.specs.declared.Name.{Name}
use Rattle.lxr_layout.specs.declared.Shape.{Shape}
use Rattle.lxr_graph.specs.declared.Op.{Op}
use Rattle.lxr_graph.specs.declared.Op.TheVariants as op
use Rattle.lxr_graph.specs.declared.Reply.{Reply}
use Rattle.lxr_graph.specs.declared.Reply.TheVariants as reply
use Rattle.lxr_graph.specs.State.{Graph, Object, State, index_in_row, next_name, object_at, refs_of, register_at, row_of, values_of, with_reference_at, with_value_at}
use Rattle.lxr_graph.specs.Step.{fresh, get_from, got, load_from, loaded, make, put_at, put_to, step, store_to, stored}
use Rattle.lxr_graph.proofs.RowLemmas.{row_of-set}
use Rattle.lxr_model.specs.Moments.{made_after}
use Rattle.lxr_direct.specs.Operating.{IsOfFirstVersion}
use Rattle.lxr_heap.specs.Holding.{made_with}

-- Each row is as long as it was plus what the reply tells of; and a reply that tells of a new object names the thread's next one.
pub record Counts (s : State) (p : State × Reply) : Type 0 where
  pub length : length (row_of p.0.graph 1) ≡ made_with (length (row_of s.graph 1)) p.1
  pub made : (ms : List Name) → (made_after ms p.1 ≡ ms) ⊎ (made_after ms p.1 ≡ made_after ms (reply.New (next_name s.graph 1)))

-- each row is as long as before where the row that is written is
same_lengths : (g : Graph) (t : ℕ) (r : List Object) (u : ℕ) → length r ≡ length (row_of g t) → length (row_of (slice_set g t r) u) ≡ length (row_of g u)
same_lengths [] t r u h = refl
same_lengths (q ∷ g) zero r zero h = h
same_lengths (q ∷ g) zero r (suc u) h = refl
same_lengths (q ∷ g) (suc t) r zero h = refl
same_lengths (q ∷ g) (suc t) r (suc u) h = same_lengths g t r u h

reference_length : (row : List Object) (at i : ℕ) (v : Option Name) (o : Option Object) → length (with_reference_at row at i v o) ≡ length row
reference_length row at i v None = refl
reference_length row at i v (Some o) = length-set _ _ _

value_length : (row : List Object) (at i v : ℕ) (o : Option Object) → length (with_value_at row at i v o) ≡ length row
value_length row at i v None = refl
value_length row at i v (Some o) = length-set _ _ _

loaded_counts : (s : State) (dest : ℕ) (found : Option (Option Name)) → Counts s (loaded s 1 dest found)
loaded_counts s dest None = record { length = refl; made = λ ms. inl refl }
loaded_counts s dest (Some v) = record { length = refl; made = λ ms. inl refl }

load_counts : (s : State) (dest i : ℕ) (base : Option Name) → Counts s (load_from s 1 dest i base)
load_counts s dest i None = record { length = refl; made = λ ms. inl refl }
load_counts s dest i (Some n) = loaded_counts s dest (slice_get (refs_of (object_at s.graph n)) i)

stored_counts : (s : State) (n : Name) (i : ℕ) (held : Option Name) (found : Option (Option Name)) → Counts s (stored s n i held found)
stored_counts s n i held None = record { length = refl; made = λ ms. inl refl }
stored_counts s n i held (Some old) = record {
  length = same_lengths s.graph n.thread (with_reference_at (row_of s.graph n.thread) (index_in_row n) i held (object_at s.graph n)) 1 (reference_length (row_of s.graph n.thread) (index_in_row n) i held (object_at s.graph n));
  made = λ ms. inl refl;
}

store_counts : (s : State) (i : ℕ) (held base : Option Name) → Counts s (store_to s i held base)
store_counts s i held None = record { length = refl; made = λ ms. inl refl }
store_counts s i held (Some n) = stored_counts s n i held (slice_get (refs_of (object_at s.graph n)) i)

put_counts : (s : State) (n : Name) (i value : ℕ) (found : Option ℕ) → Counts s (put_at s n i value found)
put_counts s n i value None = record { length = refl; made = λ ms. inl refl }
put_counts s n i value (Some old) = record {
  length = same_lengths s.graph n.thread (with_value_at (row_of s.graph n.thread) (index_in_row n) i value (object_at s.graph n)) 1 (value_length (row_of s.graph n.thread) (index_in_row n) i value (object_at s.graph n));
  made = λ ms. inl refl;
}

put_to_counts : (s : State) (i value : ℕ) (base : Option Name) → Counts s (put_to s i value base)
put_to_counts s i value None = record { length = refl; made = λ ms. inl refl }
put_to_counts s i value (Some n) = put_counts s n i value (slice_get (values_of (object_at s.graph n)) i)

got_counts : (s : State) (found : Option ℕ) → Counts s (s, got found)
got_counts s None = record { length = refl; made = λ ms. inl refl }
got_counts s (Some v) = record { length = refl; made = λ ms. inl refl }

get_counts : (s : State) (i : ℕ) (base : Option Name) → Counts s (get_from s i base)
get_counts s i None = record { length = refl; made = λ ms. inl refl }
get_counts s i (Some n) = got_counts s (slice_get (values_of (object_at s.graph n)) i)

-- an object joins the row
pub make_counts : (s : State) (dest : ℕ) (shape : Shape) → 1 < length s.graph → Counts s (make s 1 dest (fresh shape) (next_name s.graph 1))
make_counts s dest shape there = record {
  length = ap length (row_of-set s.graph 1 (row_of s.graph 1 ++ fresh shape ∷ []) 1 there) ∙ length-append (row_of s.graph 1) (fresh shape ∷ []);
  made = λ ms. inr refl;
}

pub step_counts : (s : State) (o : Op) → 1 < length s.graph → IsOfFirstVersion o → Counts s (step s 1 o)
step_counts s (op.New dest shape) there first = make_counts s dest shape there
step_counts s (op.Load dest base index) there first = load_counts s dest index (register_at s 1 base)
step_counts s (op.Store base index source) there first = store_counts s index (register_at s 1 source) (register_at s 1 base)
step_counts s (op.Put base index value) there first = put_to_counts s index value (register_at s 1 base)
step_counts s (op.Get base index) there first = get_counts s index (register_at s 1 base)
step_counts s (op.Swap dest base index source) there first = absurd first
step_counts s (op.Add base index value) there first = absurd first
step_counts s (op.Move dest source) there first = record { length = refl; made = λ ms. inl refl }
step_counts s (op.Nil dest) there first = record { length = refl; made = λ ms. inl refl }
step_counts s (op.Same left right) there first = record { length = refl; made = λ ms. inl refl }
step_counts s op.Pause there first = record { length = refl; made = λ ms. inl refl }
step_counts s op.Collect there first = record { length = refl; made = λ ms. inl refl }
step_counts s op.End there first = record { length = refl; made = λ ms. inl refl }
