-- Objects stay modest: few references, and data words below 2^64. What a step replies is then said as an output has it.
use Rattle.std.proofs.Common.{◌≡◌, ℕ, ◌+◌, ◌%◌, ◌^◌, ◌<◌, ◌≤◌, refl, sym, subst, ◌∙◌, inl, inr, Bool, true, false, cond, length, arith, codes, decimal}
use Rattle.std.specs.Prelude.{Option, Some, None, slice_get, slice_set}
use Rattle.std.proofs.lemmas.Bool.{or_left, or_right}
use Rattle.std.proofs.lemmas.List.{length-replicate, length-set}
use Rattle.lxr_layout.specs.declared.Name.{Name}
use Rattle.lxr_layout.specs.declared.Shape.{Shape}
use Rattle.lxr_graph.specs.declared.Op.{Op}
use Rattle.lxr_graph.specs.declared.Op.TheVariants as op
use Rattle.lxr_graph.specs.declared.Reply.TheVariants as reply
use Rattle.lxr_graph.specs.Names.{same_name, same_held}
use Rattle.lxr_graph.specs.State.{Object, State, Graph, object_at, refs_of, values_of, with_new, next_name, with_reference, with_value, register_at}
use Rattle.lxr_graph.specs.Step.{fresh, step, stored, loaded, load_from, store_to, swapped, swap_in, put_to, put_at, get_from, got, added, add_to}
use Rattle.lxr_graph.proofs.RowLemmas.{object_at-with_new, object_at-with_reference, object_at-with_value}
use Rattle.lxr_model.specs.Reachable.{Reachable, held, referred}
use Rattle.lxr_model.proofs.StepLemmas.{gets-replicate, gets-set, register_held}
use Rattle.lxr_text_print.specs.Lines.{name_text}
use Rattle.lxr_text_print.specs.Replies.{answer_of}
use Rattle.lxr_text_script.specs.Lines.{Text}
use Rattle.lxr_text_script.proofs.Canonical.{plain_number}
use Rattle.lxr_text_script.proofs.Plain.{is_plain}
use Rattle.lxr_judge_output.specs.Words.{is_datum, is_made, is_reference, is_reply, is_told}
use Rattle.lxr_judge_output.proofs.PrintedLemmas.{decimal_numeral}
use Rattle.lxr_judge.proofs.FormedLemmas.{IsSmallName, IsSaid, name_is, plain_name}

-- ---- objects

pub record IsModest (o : Object) : Type 0 where
  pub refs : length o.refs ≤ 1023
  pub values : (i v : ℕ) → slice_get o.values i ≡ Some v → v < 2 ^ 64

abbrev pub AreModest : Graph → Type 0
AreModest g = (n : Name) (o : Object) → object_at g n ≡ Some o → IsModest o

-- what an operation puts into an object is so
abbrev pub PutsFew : Op → Type 0
PutsFew (op.New dest shape) = shape.refs ≤ 1023
PutsFew (op.Put base index value) = value < 2 ^ 64
PutsFew o = Unit {0}

-- one object changes
one_object : (g g' : Graph) (b : Name) (o : Object) → ((n : Name) → object_at g' n ≡ cond (same_name n b) (Some o) (object_at g n)) → IsModest o → AreModest g → AreModest g'
one_object g g' b o looked modest all n a is =
    elim (same_name n b) as (λ t. same_name n b ≡ t → cond t (Some o) (object_at g n) ≡ Some a → IsModest a) [
      | true ↦ λ same e. subst IsModest (same_some o a e) modest
      | false ↦ λ other e. all n a e
    ] refl (sym (looked n) ∙ is)
  where
    same_some : (x y : Object) → Some x ≡ Some y → x ≡ y
    same_some x y e = cc

with_value_modest : (o : Object) (i v : ℕ) → v < 2 ^ 64 → IsModest o → IsModest (record o { values = slice_set o.values i v })
with_value_modest o i v small modest = record {
  refs = modest.refs;
  values = λ j w at. elim (gets-set o.values i v w (j, at)) [ inl old ↦ modest.values old.0 w old.1 | inr new ↦ subst (λ (x : ℕ). x < 2 ^ 64) new small ];
}

with_reference_modest : (o : Object) (i : ℕ) (v : Option Name) → IsModest o → IsModest (record o { refs = slice_set o.refs i v })
with_reference_modest o i v modest = record { refs = let e = length-set o.refs i v in let few = modest.refs in omega (arith, e, few); values = modest.values }

fresh_modest : (shape : Shape) → shape.refs ≤ 1023 → IsModest (fresh shape)
fresh_modest shape few = record {
  refs = let e = length-replicate shape.refs (let nil : Option Name = None in nil) in omega (arith, e, few);
  values = λ i v at. let zero_is : 0 ≡ v = gets-replicate shape.values 0 v (i, at) in omega (arith, zero_is);
}

referenced : (g : Graph) (b : Name) (i : ℕ) (v : Option Name) (at : Option Object) → object_at g b ≡ at → (old : Option Name) → slice_get (refs_of at) i ≡ Some old → AreModest g → AreModest (with_reference g b i v at)
referenced g b i v None is old e all = absurd (cc)
referenced g b i v (Some o) is old e all = one_object g (with_reference g b i v (Some o)) b (record o { refs = slice_set o.refs i v }) (λ n. object_at-with_reference g b i v o n is) (with_reference_modest o i v (all b o is)) all

valued : (g : Graph) (b : Name) (i v : ℕ) (at : Option Object) → object_at g b ≡ at → (old : ℕ) → slice_get (values_of at) i ≡ Some old → v < 2 ^ 64 → AreModest g → AreModest (with_value g b i v at)
valued g b i v None is old e small all = absurd (cc)
valued g b i v (Some o) is old e small all = one_object g (with_value g b i v (Some o)) b (record o { values = slice_set o.values i v }) (λ n. object_at-with_value g b i v o n is) (with_value_modest o i v small (all b o is)) all

-- ---- the cases of a step

loaded_modest : (s : State) (t dest : ℕ) (found : Option (Option Name)) → AreModest s.graph → AreModest (loaded s t dest found).0.graph
loaded_modest s t dest None all = all
loaded_modest s t dest (Some v) all = all

load_modest : (s : State) (t dest i : ℕ) (b : Option Name) → AreModest s.graph → AreModest (load_from s t dest i b).0.graph
load_modest s t dest i None all = all
load_modest s t dest i (Some b) all = loaded_modest s t dest (slice_get (refs_of (object_at s.graph b)) i) all

stored_modest : (s : State) (i : ℕ) (b : Name) (v : Option Name) (found : Option (Option Name)) → slice_get (refs_of (object_at s.graph b)) i ≡ found → AreModest s.graph → AreModest (stored s b i v found).0.graph
stored_modest s i b v None e all = all
stored_modest s i b v (Some old) e all = referenced s.graph b i v (object_at s.graph b) refl old e all

store_modest : (s : State) (i : ℕ) (v b : Option Name) → AreModest s.graph → AreModest (store_to s i v b).0.graph
store_modest s i v None all = all
store_modest s i v (Some b) all = stored_modest s i b v (slice_get (refs_of (object_at s.graph b)) i) refl all

swapped_modest : (s : State) (t dest i : ℕ) (b : Name) (v : Option Name) (found : Option (Option Name)) → slice_get (refs_of (object_at s.graph b)) i ≡ found → AreModest s.graph → AreModest (swapped s t dest b i v found).0.graph
swapped_modest s t dest i b v None e all = all
swapped_modest s t dest i b v (Some old) e all = referenced s.graph b i v (object_at s.graph b) refl old e all

swap_modest : (s : State) (t dest i : ℕ) (v b : Option Name) → AreModest s.graph → AreModest (swap_in s t dest i v b).0.graph
swap_modest s t dest i v None all = all
swap_modest s t dest i v (Some b) all = swapped_modest s t dest i b v (slice_get (refs_of (object_at s.graph b)) i) refl all

put_at_modest : (s : State) (b : Name) (i v : ℕ) (found : Option ℕ) → slice_get (values_of (object_at s.graph b)) i ≡ found → v < 2 ^ 64 → AreModest s.graph → AreModest (put_at s b i v found).0.graph
put_at_modest s b i v None e small all = all
put_at_modest s b i v (Some old) e small all = valued s.graph b i v (object_at s.graph b) refl old e small all

put_modest : (s : State) (i v : ℕ) (b : Option Name) → v < 2 ^ 64 → AreModest s.graph → AreModest (put_to s i v b).0.graph
put_modest s i v None small all = all
put_modest s i v (Some b) small all = put_at_modest s b i v (slice_get (values_of (object_at s.graph b)) i) refl small all

added_modest : (s : State) (b : Name) (i v : ℕ) (found : Option ℕ) → slice_get (values_of (object_at s.graph b)) i ≡ found → AreModest s.graph → AreModest (added s b i v found).0.graph
added_modest s b i v None e all = all
added_modest s b i v (Some old) e all = valued s.graph b i ((old + v) % 2 ^ 64) (object_at s.graph b) refl old e (omega arith) all

add_modest : (s : State) (i v : ℕ) (b : Option Name) → AreModest s.graph → AreModest (add_to s i v b).0.graph
add_modest s i v None all = all
add_modest s i v (Some b) all = added_modest s b i v (slice_get (values_of (object_at s.graph b)) i) refl all

get_modest : (s : State) (i : ℕ) (b : Option Name) → AreModest s.graph → AreModest (get_from s i b).0.graph
get_modest s i None all = all
get_modest s i (Some b) all = all

pub step_modest : (s : State) (t : ℕ) (o : Op) → t < length s.graph → PutsFew o → AreModest s.graph → AreModest (step s t o).0.graph
step_modest s t (op.New dest shape) there few all = one_object s.graph (with_new s.graph t (fresh shape)) (next_name s.graph t) (fresh shape) (λ n. object_at-with_new s.graph t (fresh shape) n there) (fresh_modest shape few) all
step_modest s t (op.Load dest base index) there few all = load_modest s t dest index (register_at s t base) all
step_modest s t (op.Store base index source) there few all = store_modest s index (register_at s t source) (register_at s t base) all
step_modest s t (op.Put base index value) there few all = put_modest s index value (register_at s t base) few all
step_modest s t (op.Get base index) there few all = get_modest s index (register_at s t base) all
step_modest s t (op.Swap dest base index source) there few all = swap_modest s t dest index (register_at s t source) (register_at s t base) all
step_modest s t (op.Add base index value) there few all = add_modest s index value (register_at s t base) all
step_modest s t o there few all = all

-- ---- what is replied

-- what is reachable has a small name, and so has the next object of a thread
pub record CanSay (s : State) (t : ℕ) : Type 0 where
  pub reachable : (n : Name) → Reachable s n → IsSmallName n
  pub next : IsSmallName (next_name s.graph t)
  pub modest : AreModest s.graph

-- a word may be the answer where a test of answers passes, and it is plain
abbrev Passes : (Text → Bool) → Text → Type 0
Passes test answer = (test answer ≡ true) × (is_plain answer ≡ true)

bad_reference : Passes is_reference (codes "bad")
bad_reference = (or_right _ _ refl, refl)

range_reference : Passes is_reference (codes "range")
range_reference = (or_right _ _ refl, refl)

nil_reference : Passes is_reference (codes "nil")
nil_reference = (or_left _ _ (or_right _ _ refl), refl)

name_reference : (n : Name) → IsSmallName n → Passes is_reference (name_text n)
name_reference n small = (or_left _ _ (or_left _ _ (name_is n small)), plain_name n small)

bad_datum : Passes is_datum (codes "bad")
bad_datum = (or_right _ _ refl, refl)

range_datum : Passes is_datum (codes "range")
range_datum = (or_right _ _ refl, refl)

number_datum : (v : ℕ) → v < 2 ^ 64 → Passes is_datum (decimal v)
number_datum v small = (or_left _ _ (decimal_numeral v small), plain_number v small)

name_made : (n : Name) → IsSmallName n → Passes is_made (name_text n)
name_made n small = (or_left _ _ (name_is n small), plain_name n small)

full_made : Passes is_made (codes "full")
full_made = (or_right _ _ refl, refl)

same_told : (b : Bool) → Passes is_told (answer_of (reply.Same b))
same_told true = (refl, refl)
same_told false = (refl, refl)

store_said : (s : State) (i : ℕ) (v b : Option Name) → Passes (is_reply (codes "store")) (answer_of (store_to s i v b).1)
unfolding is_reply
store_said s i v None = (refl, refl)
store_said s i v (Some b) = elim (slice_get (refs_of (object_at s.graph b)) i) as (λ found. Passes (is_reply (codes "store")) (answer_of (stored s b i v found).1)) [ None ↦ (refl, refl) | Some old ↦ (refl, refl) ]

put_said : (s : State) (i v : ℕ) (b : Option Name) → Passes (is_reply (codes "put")) (answer_of (put_to s i v b).1)
unfolding is_reply
put_said s i v None = (refl, refl)
put_said s i v (Some b) = elim (slice_get (values_of (object_at s.graph b)) i) as (λ found. Passes (is_reply (codes "put")) (answer_of (put_at s b i v found).1)) [ None ↦ (refl, refl) | Some old ↦ (refl, refl) ]

loaded_said : (s : State) (t dest : ℕ) (found : Option (Option Name)) → ((n : Name) → found ≡ Some (Some n) → IsSmallName n) → Passes is_reference (answer_of (loaded s t dest found).1)
loaded_said s t dest None small = range_reference
loaded_said s t dest (Some None) small = nil_reference
loaded_said s t dest (Some (Some n)) small = name_reference n (small n refl)

swapped_said : (s : State) (t dest i : ℕ) (b : Name) (v : Option Name) (found : Option (Option Name)) → ((n : Name) → found ≡ Some (Some n) → IsSmallName n) → Passes is_reference (answer_of (swapped s t dest b i v found).1)
swapped_said s t dest i b v None small = range_reference
swapped_said s t dest i b v (Some None) small = nil_reference
swapped_said s t dest i b v (Some (Some n)) small = name_reference n (small n refl)

got_said : (found : Option ℕ) → ((v : ℕ) → found ≡ Some v → v < 2 ^ 64) → Passes is_datum (answer_of (got found))
got_said None small = range_datum
got_said (Some v) small = number_datum v (small v refl)

added_said : (s : State) (b : Name) (i v : ℕ) (found : Option ℕ) → ((w : ℕ) → found ≡ Some w → w < 2 ^ 64) → Passes is_datum (answer_of (added s b i v found).1)
added_said s b i v None small = range_datum
added_said s b i v (Some old) small = number_datum old (small old refl)

module _ (s : State) (t : ℕ) (can : CanSay s t) where
  -- what an object refers to that a register holds
  found_small : (base : ℕ) (b : Name) (i : ℕ) → register_at s t base ≡ Some b → (n : Name) → slice_get (refs_of (object_at s.graph b)) i ≡ Some (Some n) → IsSmallName n
  found_small base b i is n at = can.reachable n (referred (held (register_held s t base b is)) (i, at))

  data_small : (b : Name) (i v : ℕ) → slice_get (values_of (object_at s.graph b)) i ≡ Some v → v < 2 ^ 64
  data_small b i v at = look (object_at s.graph b) refl at
    where
      look : (found : Option Object) → object_at s.graph b ≡ found → slice_get (values_of found) i ≡ Some v → v < 2 ^ 64
      look None is e = absurd (cc)
      look (Some o) is e = (can.modest b o is).values i v e

  load_said : (dest base i : ℕ) (b : Option Name) → register_at s t base ≡ b → Passes is_reference (answer_of (load_from s t dest i b).1)
  load_said dest base i None is = bad_reference
  load_said dest base i (Some b) is = loaded_said s t dest (slice_get (refs_of (object_at s.graph b)) i) (found_small base b i is)

  swap_said : (dest base i : ℕ) (v b : Option Name) → register_at s t base ≡ b → Passes is_reference (answer_of (swap_in s t dest i v b).1)
  swap_said dest base i v None is = bad_reference
  swap_said dest base i v (Some b) is = swapped_said s t dest i b v (slice_get (refs_of (object_at s.graph b)) i) (found_small base b i is)

  get_said : (i : ℕ) (b : Option Name) → Passes is_datum (answer_of (get_from s i b).1)
  get_said i None = bad_datum
  get_said i (Some b) = got_said (slice_get (values_of (object_at s.graph b)) i) (data_small b i)

  add_said : (i v : ℕ) (b : Option Name) → Passes is_datum (answer_of (add_to s i v b).1)
  add_said i v None = bad_datum
  add_said i v (Some b) = added_said s b i v (slice_get (values_of (object_at s.graph b)) i) (data_small b i)

  pub step_said : (o : Op) → IsSaid o (step s t o).1
  unfolding is_reply
  step_said (op.New dest shape) = name_made (next_name s.graph t) can.next
  step_said (op.Load dest base index) = load_said dest base index (register_at s t base) refl
  step_said (op.Store base index source) = store_said s index (register_at s t source) (register_at s t base)
  step_said (op.Put base index value) = put_said s index value (register_at s t base)
  step_said (op.Get base index) = get_said index (register_at s t base)
  step_said (op.Swap dest base index source) = swap_said dest base index (register_at s t source) (register_at s t base) refl
  step_said (op.Add base index value) = add_said index value (register_at s t base)
  step_said (op.Move dest source) = (refl, refl)
  step_said (op.Nil dest) = (refl, refl)
  step_said (op.Same left right) = same_told (same_held (register_at s t left) (register_at s t right))
  step_said op.Pause = (refl, refl)
  step_said op.Collect = (refl, refl)
  step_said op.End = tt

-- a `new` may find no room
pub full_said : (dest : ℕ) (shape : Shape) → IsSaid (op.New dest shape) reply.Full
unfolding is_reply
full_said dest shape = full_made
