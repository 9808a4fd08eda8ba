-- A step keeps the shape of each object and the number of registers, and changes no reference but that of a store or a swap.
use Rattle.std.proofs.Common.{◌≡◌, ℕ, ◌+◌, ◌-◌, ◌*◌, ◌%◌, ◌^◌, ◌<◌, ◌≤◌, refl, sym, ap, subst, ◌∙◌, inl, inr, ◌⊎◌, arith, Bool, true, false, cond, List, ◌++◌, IsTrue, nat_eq, length, take, drop}
use Rattle.std.specs.Prelude.{Option, Some, None, is_some, slice_get, slice_set, replicate}
use Rattle.std.proofs.lemmas.List.{length-set, length-take, length-drop, length-append}
use Rattle.std.proofs.lemmas.Option.{slice_get_within}
use Rattle.lxr_layout.specs.declared.TheConstants.{REGISTERS}
use Rattle.lxr_layout.specs.declared.Name.{Name}
use Rattle.lxr_layout.specs.declared.Shape.{Shape}
use Rattle.lxr_graph.specs.declared.Op.{Op}
use Rattle.lxr_graph.specs.declared.Op.TheVariants as op
use Rattle.lxr_graph.specs.declared.Reply.{Reply}
use Rattle.lxr_graph.specs.declared.Reply.TheVariants as reply
use Rattle.lxr_graph.specs.Names.{same_name, has}
use Rattle.lxr_graph.specs.State.{Object, State, Graph, HasObject, object_at, refs_of, values_of, with_new, next_name, with_reference, with_value, register_at, register_index}
use Rattle.lxr_graph.specs.Step.{fresh, step, stored, loaded, load_from, store_to, swapped, swap_in, put_to, put_at, get_from, added, add_to, make, cleared}
use Rattle.lxr_graph.proofs.RowLemmas.{object_at-with_new, object_at-with_reference, object_at-with_value, next_none, slice_get-set}
use Rattle.lxr_graph.proofs.NameSets.{same_names}
use Rattle.lxr_model.specs.Reachable.{Holds}
use Rattle.lxr_model.specs.Moments.{Moment, written_with, written_after, with_field}
use Rattle.lxr_model.proofs.StepLemmas.{register_held}
use Rattle.lxr_model.proofs.ObjectLemmas.{no_object}
use Rattle.lxr_model_counting.specs.Distinct.{has_field, AreDistinctFields}
use Rattle.lxr_model_counting.specs.Following.{HasShapeOf}
use Rattle.lxr_model_counting.proofs.DistinctLemmas.{tested, with_field_new, with_field_old, with_field_split, with_field_distinct}

-- a call that replied so wrote reference i of n
abbrev pub WritesField : State → ℕ → Op → Reply → Name → ℕ → Type 0
WritesField s t (op.Store base index source) reply.Stored n i = (register_at s t base ≡ Some n) × (index ≡ i)
WritesField s t (op.Swap dest base index source) (reply.Swapped old) n i = (register_at s t base ≡ Some n) × (index ≡ i)
WritesField s t _ _ n i = ⊥

pub record StepKeeps (s : State) (t : ℕ) (o : Op) (p : State × Reply) : Type 0 where
  pub shapes : (n : Name) (b : Object) → object_at s.graph n ≡ Some b → (c : Object) × (object_at p.0.graph n ≡ Some c) × HasShapeOf c b
  pub fields : (n : Name) (i : ℕ) → HasObject s.graph n → (slice_get (refs_of (object_at p.0.graph n)) i ≡ slice_get (refs_of (object_at s.graph n)) i) ⊎ WritesField s t o p.1 n i
  pub inside : (n : Name) (i : ℕ) → WritesField s t o p.1 n i → Holds s n × (i < length (refs_of (object_at s.graph n)))
  pub registers : length p.0.registers ≡ length s.registers

pub same_shape : (b : Object) → HasShapeOf b b
same_shape b = record { refs = refl; values = refl }

pub shape_through : (a b c : Object) → HasShapeOf c b → HasShapeOf b a → HasShapeOf c a
shape_through a b c h k = record { refs = h.refs ∙ k.refs; values = h.values ∙ k.values }

-- the graph stays
still : (s : State) (t : ℕ) (o : Op) (rs : List (Option Name)) (r : Reply) → length rs ≡ length s.registers → ((n : Name) (i : ℕ) → WritesField s t o r n i → ⊥)
    → StepKeeps s t o (record { graph = s.graph; registers = rs }, r)
still s t o rs r many never = record { shapes = λ n b e. (b, e, same_shape b); fields = λ n i h. inl refl; inside = λ n i w. absurd (never n i w); registers = many }

-- the object of one name is another of its shape
changed_shapes : (g g' : Graph) (b : Name) (o o' : Object) → object_at g b ≡ Some o → HasShapeOf o' o → ((n : Name) → object_at g' n ≡ cond (same_name n b) (Some o') (object_at g n))
    → (n : Name) (a : Object) → object_at g n ≡ Some a → (c : Object) × (object_at g' n ≡ Some c) × HasShapeOf c a
changed_shapes g g' b o o' is shape looked n a e = elim (tested (same_name n b)) [
  | inl k ↦
      let q : Some o ≡ Some a = sym is ∙ sym (ap (object_at g) (same_names n b k)) ∙ e in
      let same : o ≡ a = cc in
      (o', looked n ∙ ap (λ x. cond x (Some o') (object_at g n)) k, subst (HasShapeOf o') same shape)
  | inr k ↦ (a, looked n ∙ ap (λ x. cond x (Some o') (object_at g n)) k ∙ e, same_shape a)
]

-- ---- the cases of a step

loaded_keeps : (s : State) (t dest : ℕ) (o : Op) (found : Option (Option Name)) → ((r : Reply) (n : Name) (i : ℕ) → WritesField s t o r n i → ⊥) → StepKeeps s t o (loaded s t dest found)
loaded_keeps s t dest o None never = still s t o _ _ refl (never reply.Range)
loaded_keeps s t dest o (Some v) never = still s t o _ _ (length-set _ _ _) (never (reply.Loaded v))

load_keeps : (s : State) (t dest i : ℕ) (o : Op) (b : Option Name) → ((r : Reply) (n : Name) (i : ℕ) → WritesField s t o r n i → ⊥) → StepKeeps s t o (load_from s t dest i b)
load_keeps s t dest i o None never = still s t o _ _ refl (never reply.Bad)
load_keeps s t dest i o (Some b) never = loaded_keeps s t dest o _ never

store_fields : (g : Graph) (b : Name) (i : ℕ) (v old : Option Name) (o : Object) → object_at g b ≡ Some o → slice_get o.refs i ≡ Some old
    → (n : Name) (j : ℕ) → (slice_get (refs_of (object_at (with_reference g b i v (Some o)) n)) j ≡ slice_get (refs_of (object_at g n)) j) ⊎ ((n ≡ b) × (i ≡ j))
store_fields g b i v old o is e n j =
    let looked = object_at-with_reference g b i v o n is in
    let o' : Object = record o { refs = slice_set o.refs i v } in
    let at : (k : Bool) → same_name n b ≡ k → object_at (with_reference g b i v (Some o)) n ≡ cond k (Some o') (object_at g n) = λ k q. looked ∙ ap (λ x. cond x (Some o') (object_at g n)) q in
    elim (tested (same_name n b)) [
      | inr k ↦ inl (ap (λ x. slice_get (refs_of x) j) (at false k))
      | inl k ↦ elim (tested (nat_eq j i)) [
        | inl d ↦ inr (same_names n b k, (let same : i ≡ j = grind (arith, d) in same))
        | inr d ↦
            let within = slice_get_within o.refs i old e in
            inl (ap (λ x. slice_get (refs_of x) j) (at true k) ∙ slice_get-set o.refs i v j within ∙ ap (λ x. cond x (Some v) (slice_get o.refs j)) d
            ∙ sym (ap (λ x. slice_get (refs_of x) j) (ap (object_at g) (same_names n b k) ∙ is)))
      ]
    ]

-- a call whose reply says that it wrote reference i of what the base register holds, and maybe a register
reference_keeps : (s : State) (t base i : ℕ) (v : Option Name) (b : Name) (rs : List (Option Name)) (o : Op) (r : Reply) → register_at s t base ≡ Some b
    → ((n : Name) (j : ℕ) → (register_at s t base ≡ Some n) × (i ≡ j) → WritesField s t o r n j)
    → ((n : Name) (j : ℕ) → WritesField s t o r n j → (register_at s t base ≡ Some n) × (i ≡ j))
    → length rs ≡ length s.registers
    → (at : Option Object) → object_at s.graph b ≡ at → (old : Option Name) → slice_get (refs_of at) i ≡ Some old
    → StepKeeps s t o (record { graph = with_reference s.graph b i v at; registers = rs }, r)
reference_keeps s t base i v b rs o r reg to from many None is old e = absurd (cc)
reference_keeps s t base i v b rs o r reg to from many (Some a) is old e = record {
  shapes = changed_shapes s.graph (with_reference s.graph b i v (Some a)) b a (record a { refs = slice_set a.refs i v }) is
      (record { refs = length-set _ _ _; values = refl }) (λ n. object_at-with_reference s.graph b i v a n is);
  fields = λ n j h. elim (store_fields s.graph b i v old a is e n j) [ inl q ↦ inl q | inr q ↦ inr (to n j (reg ∙ ap Some (sym q.0), q.1)) ];
  inside = λ n j w.
      let p = from n j w in
      let k : Some b ≡ Some n = sym reg ∙ p.0 in
      let same : b ≡ n = cc in (
        register_held s t base n p.0,
        subst (λ z. z < length (refs_of (object_at s.graph n))) p.1 (slice_get_within (refs_of (object_at s.graph n)) i old (ap (λ x. slice_get (refs_of x) i) (sym (ap (object_at s.graph) same) ∙ is) ∙ e)),
      );
  registers = many;
}

stored_keeps : (s : State) (t base i source : ℕ) (b : Name) → register_at s t base ≡ Some b
    → (found : Option (Option Name)) → slice_get (refs_of (object_at s.graph b)) i ≡ found → StepKeeps s t (op.Store base i source) (stored s b i (register_at s t source) found)
stored_keeps s t base i source b reg None e = still s t (op.Store base i source) _ _ refl (λ n j w. w)
stored_keeps s t base i source b reg (Some old) e =
    reference_keeps s t base i (register_at s t source) b s.registers (op.Store base i source) reply.Stored reg (λ n j w. w) (λ n j w. w) refl (object_at s.graph b) refl old e

store_keeps : (s : State) (t base i source : ℕ) (b : Option Name) → register_at s t base ≡ b → StepKeeps s t (op.Store base i source) (store_to s i (register_at s t source) b)
store_keeps s t base i source None e = still s t (op.Store base i source) _ _ refl (λ n j w. w)
store_keeps s t base i source (Some b) e = stored_keeps s t base i source b e _ refl

swapped_keeps : (s : State) (t dest base i source : ℕ) (b : Name) → register_at s t base ≡ Some b
    → (found : Option (Option Name)) → slice_get (refs_of (object_at s.graph b)) i ≡ found
    → StepKeeps s t (op.Swap dest base i source) (swapped s t dest b i (register_at s t source) found)
swapped_keeps s t dest base i source b reg None e = still s t (op.Swap dest base i source) _ _ refl (λ n j w. w)
swapped_keeps s t dest base i source b reg (Some old) e =
    reference_keeps s t base i (register_at s t source) b (slice_set s.registers (register_index t dest) old) (op.Swap dest base i source) (reply.Swapped old) reg
    (λ n j w. w) (λ n j w. w) (length-set _ _ _) (object_at s.graph b) refl old e

swap_keeps : (s : State) (t dest base i source : ℕ) (b : Option Name) → register_at s t base ≡ b
    → StepKeeps s t (op.Swap dest base i source) (swap_in s t dest i (register_at s t source) b)
swap_keeps s t dest base i source None e = still s t (op.Swap dest base i source) _ _ refl (λ n j w. w)
swap_keeps s t dest base i source (Some b) e = swapped_keeps s t dest base i source b e _ refl

-- a call that changes a data word
value_keeps : (s : State) (t i v : ℕ) (b : Name) (o : Op) (r : Reply) → ((n : Name) (j : ℕ) → WritesField s t o r n j → ⊥)
    → (at : Option Object) → object_at s.graph b ≡ at → (old : ℕ) → slice_get (values_of at) i ≡ Some old
    → StepKeeps s t o (record s { graph = with_value s.graph b i v at }, r)
value_keeps s t i v b o r never None is old e = absurd (cc)
value_keeps s t i v b o r never (Some a) is old e =
    let a' : Object = record a { values = slice_set a.values i v } in
    let looked : (n : Name) → object_at (with_value s.graph b i v (Some a)) n ≡ cond (same_name n b) (Some a') (object_at s.graph n) = λ n. object_at-with_value s.graph b i v a n is in
    record {
      shapes = changed_shapes s.graph (with_value s.graph b i v (Some a)) b a a' is (record { refs = refl; values = length-set _ _ _ }) looked;
      fields = λ n j h. inl (elim (tested (same_name n b)) [
        | inl k ↦ ap (λ x. slice_get (refs_of x) j) (looked n ∙ ap (λ x. cond x (Some a') (object_at s.graph n)) k) ∙ sym (ap (λ x. slice_get (refs_of x) j) (ap (object_at s.graph) (same_names n b k) ∙ is))
        | inr k ↦ ap (λ x. slice_get (refs_of x) j) (looked n ∙ ap (λ x. cond x (Some a') (object_at s.graph n)) k)
      ]);
      inside = λ n j w. absurd (never n j w);
      registers = refl;
    }

put_at_keeps : (s : State) (t base i v : ℕ) (b : Name)
    → (found : Option ℕ) → slice_get (values_of (object_at s.graph b)) i ≡ found → StepKeeps s t (op.Put base i v) (put_at s b i v found)
put_at_keeps s t base i v b None e = still s t (op.Put base i v) _ _ refl (λ n j w. w)
put_at_keeps s t base i v b (Some old) e = value_keeps s t i v b (op.Put base i v) reply.Put (λ n j w. w) (object_at s.graph b) refl old e

put_keeps : (s : State) (t base i v : ℕ) (b : Option Name) → StepKeeps s t (op.Put base i v) (put_to s i v b)
put_keeps s t base i v None = still s t (op.Put base i v) _ _ refl (λ n j w. w)
put_keeps s t base i v (Some b) = put_at_keeps s t base i v b _ refl

added_keeps : (s : State) (t base i v : ℕ) (b : Name)
    → (found : Option ℕ) → slice_get (values_of (object_at s.graph b)) i ≡ found → StepKeeps s t (op.Add base i v) (added s b i v found)
added_keeps s t base i v b None e = still s t (op.Add base i v) _ _ refl (λ n j w. w)
added_keeps s t base i v b (Some old) e =
    value_keeps s t i ((old + v) % 2 ^ 64) b (op.Add base i v) (reply.Added old) (λ n j w. w) (object_at s.graph b) refl old e

add_keeps : (s : State) (t base i v : ℕ) (b : Option Name) → StepKeeps s t (op.Add base i v) (add_to s i v b)
add_keeps s t base i v None = still s t (op.Add base i v) _ _ refl (λ n j w. w)
add_keeps s t base i v (Some b) = added_keeps s t base i v b _ refl

get_keeps : (s : State) (t base i : ℕ) (b : Option Name) → StepKeeps s t (op.Get base i) (get_from s i b)
get_keeps s t base i None = still s t (op.Get base i) _ _ refl (λ n j w. w)
get_keeps s t base i (Some b) = still s t (op.Get base i) _ _ refl (λ n j w. w)

make_keeps : (s : State) (t dest : ℕ) (shape : Shape) → t < length s.graph → StepKeeps s t (op.New dest shape) (make s t dest (fresh shape) (next_name s.graph t))
make_keeps s t dest shape h =
    let n' : Name = next_name s.graph t in
    let other : (n : Name) → HasObject s.graph n → object_at (with_new s.graph t (fresh shape)) n ≡ object_at s.graph n = λ n there.
    object_at-with_new s.graph t (fresh shape) n h ∙ elim (tested (same_name n n')) [
      | inl k ↦ absurd (no_object s.graph n (ap (object_at s.graph) (same_names n n' k) ∙ next_none s.graph t) there)
      | inr k ↦ ap (λ x. cond x (Some (fresh shape)) (object_at s.graph n)) k
    ] in
    record {
      shapes = λ n b e. (b, other n (ap is_some e) ∙ e, same_shape b);
      fields = λ n i there. inl (ap (λ x. slice_get (refs_of x) i) (other n there));
      inside = λ n i w. absurd w;
      registers = length-set _ _ _;
    }

length-cleared : (rs : List (Option Name)) (t : ℕ) → REGISTERS * (t - 1) + REGISTERS ≤ length rs → length (cleared rs t) ≡ length rs
length-cleared rs t room =
    let a = length-append (take (REGISTERS * (t - 1)) rs ++ replicate REGISTERS None) (drop (REGISTERS * (t - 1) + REGISTERS) rs) in
    let b = length-append (take (REGISTERS * (t - 1)) rs) (replicate REGISTERS None) in
    let c = length-take (REGISTERS * (t - 1)) rs in
    let d = length-drop (REGISTERS * (t - 1) + REGISTERS) rs in
    omega (arith, a, b, c, d)

pub step_keeps : (s : State) (t : ℕ) (o : Op) → t < length s.graph → REGISTERS * (t - 1) + REGISTERS ≤ length s.registers → StepKeeps s t o (step s t o)
step_keeps s t (op.New dest shape) h room = make_keeps s t dest shape h
step_keeps s t (op.Load dest base index) h room = load_keeps s t dest index (op.Load dest base index) (register_at s t base) (λ r n j w. w)
step_keeps s t (op.Store base index source) h room = store_keeps s t base index source _ refl
step_keeps s t (op.Put base index value) h room = put_keeps s t base index value (register_at s t base)
step_keeps s t (op.Get base index) h room = get_keeps s t base index (register_at s t base)
step_keeps s t (op.Swap dest base index source) h room = swap_keeps s t dest base index source _ refl
step_keeps s t (op.Add base index value) h room = add_keeps s t base index value (register_at s t base)
step_keeps s t (op.Move dest source) h room = still s t (op.Move dest source) _ _ (length-set _ _ _) (λ n j w. w)
step_keeps s t (op.Nil dest) h room = still s t (op.Nil dest) _ _ (length-set _ _ _) (λ n j w. w)
step_keeps s t (op.Same left right) h room = still s t (op.Same left right) _ _ refl (λ n j w. w)
step_keeps s t op.Pause h room = still s t op.Pause _ _ refl (λ n j w. w)
step_keeps s t op.Collect h room = still s t op.Collect _ _ refl (λ n j w. w)
step_keeps s t op.End h room = still s t op.End _ _ (length-cleared s.registers t room) (λ n j w. w)

-- ---- the written fields after a call

with_split : (us : List Name) (ws : List (Name × ℕ)) (b : Option Name) (index : ℕ) (n : Name) (i : ℕ) → IsTrue (has_field (written_with us ws b index) (n, i))
    → IsTrue (has_field ws (n, i)) ⊎ (IsTrue (has us n) × (b ≡ Some n) × (index ≡ i))
with_split us ws None index n i h = inl h
with_split us ws (Some q) index n i h =
    elim (has us q) as (λ k. has us q ≡ k → IsTrue (has_field (cond k (with_field ws (q, index)) ws) (n, i)) → IsTrue (has_field ws (n, i)) ⊎ (IsTrue (has us n) × (Some q ≡ Some n) × (index ≡ i))) [
      | true ↦ λ there f. elim (with_field_split ws (q, index) (n, i) f) [
        | inl e ↦ inr (ap (λ w. has us w.0) e ∙ there, ap (λ w. Some w.0) (sym e), ap (λ w. w.1) (sym e))
        | inr k ↦ inl k
      ]
      | false ↦ λ there f. inl f
    ] refl h

with_there : (us : List Name) (ws : List (Name × ℕ)) (b : Option Name) (index : ℕ) (n : Name) (i : ℕ) → IsTrue (has us n) → b ≡ Some n → index ≡ i → IsTrue (has_field (written_with us ws b index) (n, i))
with_there us ws b index n i h e k =
    subst (λ x. IsTrue (has_field (written_with us ws x index) (n, i))) (sym e)
    (subst (λ x. IsTrue (has_field (cond x (with_field ws (n, index)) ws) (n, i))) (sym h)
    (subst (λ j. IsTrue (has_field (with_field ws (n, index)) (n, j))) k (with_field_new ws (n, index))))

with_old : (us : List Name) (ws : List (Name × ℕ)) (b : Option Name) (index : ℕ) (n : Name) (i : ℕ) → IsTrue (has_field ws (n, i)) → IsTrue (has_field (written_with us ws b index) (n, i))
with_old us ws None index n i h = h
with_old us ws (Some q) index n i h = elim (has us q) as (λ k. IsTrue (has_field (cond k (with_field ws (q, index)) ws) (n, i))) [
  | true ↦ with_field_old ws (q, index) (n, i) h
  | false ↦ h
]

with_distinct : (us : List Name) (ws : List (Name × ℕ)) (b : Option Name) (index : ℕ) → AreDistinctFields ws → AreDistinctFields (written_with us ws b index)
with_distinct us ws None index d = d
with_distinct us ws (Some q) index d = elim (has us q) as (λ k. AreDistinctFields (cond k (with_field ws (q, index)) ws)) [
  | true ↦ with_field_distinct ws (q, index) d
  | false ↦ d
]

-- a field that is written after a call was so before, or the call wrote it
pub written_split : (m : Moment) (t : ℕ) (o : Op) (r : Reply) (n : Name) (i : ℕ) → IsTrue (has_field (written_after m t o r) (n, i))
    → IsTrue (has_field m.written (n, i)) ⊎ (IsTrue (has m.unreclaimed n) × WritesField m.state t o r n i)
written_split m t (op.Store base index source) reply.Stored n i h = elim (with_split m.unreclaimed m.written (register_at m.state t base) index n i h) [
  | inl k ↦ inl k
  | inr k ↦ inr (k.0, (k.1, k.2))
]
written_split m t (op.Swap dest base index source) (reply.Swapped old) n i h = elim (with_split m.unreclaimed m.written (register_at m.state t base) index n i h) [
  | inl k ↦ inl k
  | inr k ↦ inr (k.0, (k.1, k.2))
]
written_split m t o r n i h = inl h

pub written_there : (m : Moment) (t : ℕ) (o : Op) (r : Reply) (n : Name) (i : ℕ) → IsTrue (has m.unreclaimed n) → WritesField m.state t o r n i → IsTrue (has_field (written_after m t o r) (n, i))
written_there m t (op.Store base index source) reply.Stored n i h w = with_there m.unreclaimed m.written (register_at m.state t base) index n i h w.0 w.1
written_there m t (op.Swap dest base index source) (reply.Swapped old) n i h w = with_there m.unreclaimed m.written (register_at m.state t base) index n i h w.0 w.1
written_there m t o r n i h w = absurd w

pub written_old : (m : Moment) (t : ℕ) (o : Op) (r : Reply) (n : Name) (i : ℕ) → IsTrue (has_field m.written (n, i)) → IsTrue (has_field (written_after m t o r) (n, i))
written_old m t (op.Store base index source) reply.Stored n i h = with_old m.unreclaimed m.written (register_at m.state t base) index n i h
written_old m t (op.Swap dest base index source) (reply.Swapped old) n i h = with_old m.unreclaimed m.written (register_at m.state t base) index n i h
written_old m t o r n i h = h

pub written_distinct : (m : Moment) (t : ℕ) (o : Op) (r : Reply) → AreDistinctFields m.written → AreDistinctFields (written_after m t o r)
written_distinct m t (op.Store base index source) reply.Stored d = with_distinct m.unreclaimed m.written (register_at m.state t base) index d
written_distinct m t (op.Swap dest base index source) (reply.Swapped old) d = with_distinct m.unreclaimed m.written (register_at m.state t base) index d
written_distinct m t o r d = d
