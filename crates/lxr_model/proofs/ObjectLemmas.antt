-- A step loses no object, the name that it makes had none, and it changes no object that isn't reachable: what it
-- writes to, a register holds.
use Rattle.std.proofs.Common.{◌≡◌, ℕ, ◌+◌, ◌%◌, ◌^◌, ◌<◌, refl, sym, ap, subst, ◌∙◌, inl, inr, Bool, cond, List, IsTrue, length}
use Rattle.std.specs.Prelude.{Option, Some, None, is_some, slice_get, slice_set}
use Rattle.std.proofs.lemmas.Bool.{cond_both, cond-false, false_from_ne_true}
use Rattle.lxr_layout.specs.declared.Name.{Name}
use Rattle.lxr_layout.specs.declared.Shape.{Shape}
use Rattle.lxr_graph.specs.declared.Op.{Op}
use Rattle.lxr_graph.specs.declared.Op.TheVariants as op
use Rattle.lxr_graph.specs.declared.Reply.{Reply}
use Rattle.lxr_graph.specs.declared.Reply.TheVariants as reply
use Rattle.lxr_graph.specs.Names.{same_name}
use Rattle.lxr_graph.specs.State.{Object, State, Graph, HasObject, object_at, refs_of, values_of, with_new, next_name, with_reference, with_value, register_at}
use Rattle.lxr_graph.specs.Step.{fresh, step, stored, loaded, load_from, store_to, swapped, swap_in, put_to, put_at, get_from, got, added, add_to, make}
use Rattle.lxr_graph.proofs.RowLemmas.{object_at-with_new, object_at-with_reference, object_at-with_value, next_none}
use Rattle.lxr_graph.proofs.NameSets.{same_itself, same_names}
use Rattle.lxr_model.specs.Reachable.{Reachable, held}
use Rattle.lxr_model.specs.Laws.{StepKeepsObjects, UnreachableStays}
use Rattle.lxr_model.proofs.StepLemmas.{register_held, step_reaches}

pub record StepFacts (s : State) (p : State × Reply) : Type 0 where
  pub stays : (n : Name) → HasObject s.graph n → HasObject p.0.graph n
  pub new : (n : Name) → p.1 ≡ reply.New n → (object_at s.graph n ≡ None) × HasObject p.0.graph n
  pub same : (n : Name) → HasObject s.graph n → ¬ Reachable s n → object_at p.0.graph n ≡ object_at s.graph n

pub no_object : (g : Graph) (n : Name) → object_at g n ≡ None → HasObject g n → ⊥
no_object g n e h = let k = rw e at h in cc

some_cond : {X : Type 0} (b : Bool) (x : X) (o : Option X) → IsTrue (is_some o) → IsTrue (is_some (cond b (Some x) o))
some_cond b x o h = cond_both b (Some x) o (λ y. IsTrue (is_some y)) (λ e. refl) (λ e. h)

other_cond : {X : Type 0} (b : Bool) (x o : X) → (IsTrue b → ⊥) → cond b x o ≡ o
other_cond b x o h = cond-false b x o (false_from_ne_true b h)

-- the graph stays
still : (s : State) (rs : List (Option Name)) (r : Reply) → ((n : Name) → r ≡ reply.New n → ⊥) → StepFacts s (record { graph = s.graph; registers = rs }, r)
still s rs r never = record { stays = λ n h. h; new = λ n e. absurd (never n e); same = λ n h u. refl }

loaded_facts : (s : State) (t dest : ℕ) (found : Option (Option Name)) → StepFacts s (loaded s t dest found)
loaded_facts s t dest None = still s _ _ (λ n e. cc)
loaded_facts s t dest (Some v) = still s _ _ (λ n e. cc)

load_facts : (s : State) (t dest i : ℕ) (b : Option Name) → StepFacts s (load_from s t dest i b)
load_facts s t dest i None = still s _ _ (λ n e. cc)
load_facts s t dest i (Some b) = loaded_facts s t dest _

-- the object of b, which is reachable, changes, and maybe registers
changed : (s : State) (b : Name) → Reachable s b → (g' : Graph) (rs : List (Option Name)) (o : Object) (r : Reply) → ((n : Name) → r ≡ reply.New n → ⊥)
    → ((n : Name) → object_at g' n ≡ cond (same_name n b) (Some o) (object_at s.graph n)) → StepFacts s (record { graph = g'; registers = rs }, r)
changed s b rb g' rs o r never looked = record {
  stays = λ n h. rw (looked n) (some_cond (same_name n b) o (object_at s.graph n) h);
  new = λ n e. absurd (never n e);
  same = λ n h u. looked n ∙ other_cond (same_name n b) (Some o) (object_at s.graph n) (λ e. u (subst (Reachable s) (sym (same_names n b e)) rb));
}

reference_facts : (s : State) (i : ℕ) (b : Name) (v : Option Name) (rs : List (Option Name)) (r : Reply) → ((n : Name) → r ≡ reply.New n → ⊥) → Reachable s b
    → (at : Option Object) → object_at s.graph b ≡ at → (old : Option Name) → slice_get (refs_of at) i ≡ Some old
    → StepFacts s (record { graph = with_reference s.graph b i v at; registers = rs }, r)
reference_facts s i b v rs r never rb None is old e = absurd (cc)
reference_facts s i b v rs r never rb (Some o) is old e =
    changed s b rb (with_reference s.graph b i v (Some o)) rs (record o { refs = slice_set o.refs i v }) r never (λ n. object_at-with_reference s.graph b i v o n is)

value_facts : (s : State) (i v : ℕ) (b : Name) (r : Reply) → ((n : Name) → r ≡ reply.New n → ⊥) → Reachable s b
    → (at : Option Object) → object_at s.graph b ≡ at → (old : ℕ) → slice_get (values_of at) i ≡ Some old
    → StepFacts s (record s { graph = with_value s.graph b i v at }, r)
value_facts s i v b r never rb None is old e = absurd (cc)
value_facts s i v b r never rb (Some o) is old e =
    changed s b rb (with_value s.graph b i v (Some o)) s.registers (record o { values = slice_set o.values i v }) r never (λ n. object_at-with_value s.graph b i v o n is)

stored_facts : (s : State) (i : ℕ) (b : Name) (v : Option Name) → Reachable s b
    → (found : Option (Option Name)) → slice_get (refs_of (object_at s.graph b)) i ≡ found → StepFacts s (stored s b i v found)
stored_facts s i b v rb None e = still s _ _ (λ n e. cc)
stored_facts s i b v rb (Some old) e = reference_facts s i b v s.registers reply.Stored (λ n e. cc) rb (object_at s.graph b) refl old e

store_facts : (s : State) (t base i : ℕ) (v b : Option Name) → register_at s t base ≡ b → StepFacts s (store_to s i v b)
store_facts s t base i v None e = still s _ _ (λ n e. cc)
store_facts s t base i v (Some b) e = stored_facts s i b v (held (register_held s t base b e)) _ refl

swapped_facts : (s : State) (t dest i : ℕ) (b : Name) (v : Option Name) → Reachable s b
    → (found : Option (Option Name)) → slice_get (refs_of (object_at s.graph b)) i ≡ found → StepFacts s (swapped s t dest b i v found)
swapped_facts s t dest i b v rb None e = still s _ _ (λ n e. cc)
swapped_facts s t dest i b v rb (Some old) e = reference_facts s i b v _ (reply.Swapped old) (λ n e. cc) rb (object_at s.graph b) refl old e

swap_facts : (s : State) (t dest base i : ℕ) (v b : Option Name) → register_at s t base ≡ b → StepFacts s (swap_in s t dest i v b)
swap_facts s t dest base i v None e = still s _ _ (λ n e. cc)
swap_facts s t dest base i v (Some b) e = swapped_facts s t dest i b v (held (register_held s t base b e)) _ refl

put_at_facts : (s : State) (i v : ℕ) (b : Name) → Reachable s b
    → (found : Option ℕ) → slice_get (values_of (object_at s.graph b)) i ≡ found → StepFacts s (put_at s b i v found)
put_at_facts s i v b rb None e = still s _ _ (λ n e. cc)
put_at_facts s i v b rb (Some old) e = value_facts s i v b reply.Put (λ n e. cc) rb (object_at s.graph b) refl old e

put_facts : (s : State) (t base i v : ℕ) (b : Option Name) → register_at s t base ≡ b → StepFacts s (put_to s i v b)
put_facts s t base i v None e = still s _ _ (λ n e. cc)
put_facts s t base i v (Some b) e = put_at_facts s i v b (held (register_held s t base b e)) _ refl

added_facts : (s : State) (i v : ℕ) (b : Name) → Reachable s b
    → (found : Option ℕ) → slice_get (values_of (object_at s.graph b)) i ≡ found → StepFacts s (added s b i v found)
added_facts s i v b rb None e = still s _ _ (λ n e. cc)
added_facts s i v b rb (Some old) e = value_facts s i ((old + v) % 2 ^ 64) b (reply.Added old) (λ n e. cc) rb (object_at s.graph b) refl old e

add_facts : (s : State) (t base i v : ℕ) (b : Option Name) → register_at s t base ≡ b → StepFacts s (add_to s i v b)
add_facts s t base i v None e = still s _ _ (λ n e. cc)
add_facts s t base i v (Some b) e = added_facts s i v b (held (register_held s t base b e)) _ refl

got_new : (o : Option ℕ) (n : Name) → got o ≡ reply.New n → ⊥
got_new None n e = cc
got_new (Some v) n e = cc

get_facts : (s : State) (i : ℕ) (b : Option Name) → StepFacts s (get_from s i b)
get_facts s i None = still s _ _ (λ n e. cc)
get_facts s i (Some b) = still s _ _ (got_new (slice_get (values_of (object_at s.graph b)) i))

make_facts : (s : State) (t dest : ℕ) (shape : Shape) → t < length s.graph → StepFacts s (make s t dest (fresh shape) (next_name s.graph t))
make_facts s t dest shape h = record {
  stays = λ n k. rw (object_at-with_new s.graph t (fresh shape) n h) (some_cond (same_name n (next_name s.graph t)) _ (object_at s.graph n) k);
  new = λ n e.
      let is : next_name s.graph t ≡ n = cc in
      subst (λ x. (object_at s.graph x ≡ None) × HasObject (with_new s.graph t (fresh shape)) x) is
      (next_none s.graph t, rw (object_at-with_new s.graph t (fresh shape) (next_name s.graph t) h, same_itself (next_name s.graph t)) refl);
  same = λ n k u.
      object_at-with_new s.graph t (fresh shape) n h
      ∙ other_cond (same_name n (next_name s.graph t)) (Some (fresh shape)) (object_at s.graph n)
      (λ e. no_object s.graph n (ap (object_at s.graph) (same_names n (next_name s.graph t) e) ∙ next_none s.graph t) k);
}

pub step_facts : (s : State) (t : ℕ) (o : Op) → t < length s.graph → StepFacts s (step s t o)
step_facts s t (op.New dest shape) h = make_facts s t dest shape h
step_facts s t (op.Load dest base index) h = load_facts s t dest index (register_at s t base)
step_facts s t (op.Store base index source) h = store_facts s t base index (register_at s t source) _ refl
step_facts s t (op.Put base index value) h = put_facts s t base index value _ refl
step_facts s t (op.Get base index) h = get_facts s index (register_at s t base)
step_facts s t (op.Swap dest base index source) h = swap_facts s t dest base index (register_at s t source) _ refl
step_facts s t (op.Add base index value) h = add_facts s t base index value _ refl
step_facts s t (op.Move dest source) h = still s _ _ (λ n e. cc)
step_facts s t (op.Nil dest) h = still s _ _ (λ n e. cc)
step_facts s t (op.Same left right) h = still s _ _ (λ n e. cc)
step_facts s t op.Pause h = still s _ _ (λ n e. cc)
step_facts s t op.Collect h = still s _ _ (λ n e. cc)
step_facts s t op.End h = still s _ _ (λ n e. cc)

pub keeps_objects : StepKeepsObjects
keeps_objects s t o h n =
    let facts = step_facts s t o h in
    (facts.stays n, λ e. (no_object s.graph n (facts.new n e).0, (facts.new n e).1))

pub unreachable_stays : UnreachableStays
unreachable_stays s t o h n k u =
    let facts = step_facts s t o h in
    (λ r. elim (step_reaches s t o h n r) [ inl q ↦ u q | inr e ↦ no_object s.graph n (facts.new n e).0 k ], facts.same n k u)
