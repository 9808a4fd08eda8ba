-- A step makes nothing reachable but the new name: registers and references get only what a register held, what a
-- reachable object referred to, or the new name, whose object refers to nothing.
use Rattle.std.proofs.Common.{◌≡◌, ℕ, zero, suc, ◌+◌, ◌-◌, ◌*◌, ◌%◌, ◌^◌, ◌<◌, refl, sym, ap, subst, ◌∙◌, inl, inr, ◌⊎◌, true, false, cond, List, [], ◌∷◌, ◌++◌, length, take, drop}
use Rattle.std.specs.Prelude.{Option, Some, None, slice_get, slice_set, slice_index_or, replicate}
use Rattle.lxr_layout.specs.declared.TheConstants.{REGISTERS}
use Rattle.lxr_layout.specs.declared.Name.{Name}
use Rattle.lxr_layout.specs.declared.Shape.{Shape}
use Rattle.lxr_graph.specs.declared.Op.TheVariants as op
use Rattle.lxr_graph.specs.declared.Reply.TheVariants as reply
use Rattle.lxr_graph.specs.Names.{same_name}
use Rattle.lxr_graph.specs.State.{Object, State, Graph, object_at, refs_of, values_of, with_new, next_name, with_reference, with_value, register_at, register_index, with_register}
use Rattle.lxr_graph.specs.Step.{fresh, stored, loaded, load_from, store_to, swapped, swap_in, put_to, put_at, get_from, added, add_to, make, cleared}
use Rattle.lxr_graph.proofs.RowLemmas.{object_at-with_new, object_at-with_reference, object_at-with_value, next_none}
use Rattle.lxr_graph.proofs.NameSets.{same_names}
use Rattle.lxr_model.specs.Reachable.{Reachable, the_world, held, referred, Refers, Holds}
use Rattle.lxr_model.specs.Laws.{StepReachesNewName, StepStoresTheReachable}

-- ---- what lists have

-- a list has x at some index
abbrev pub Gets : {X : Type 0} → List X → X → Type 0
Gets xs x = (i : ℕ) × (slice_get xs i ≡ Some x)

pub gets-set : {X : Type 0} (xs : List X) (k : ℕ) (v x : X) → Gets (slice_set xs k v) x → Gets xs x ⊎ (v ≡ x)
gets-set [] k v x (i, e) = inl (i, e)
gets-set (y ∷ ys) zero v x (zero, e) = inr (cc)
gets-set (y ∷ ys) zero v x (suc i, e) = inl (suc i, e)
gets-set (y ∷ ys) (suc k) v x (zero, e) = inl (zero, e)
gets-set (y ∷ ys) (suc k) v x (suc i, e) = elim (gets-set ys k v x (i, e)) [ inl g ↦ inl (suc g.0, g.1) | inr q ↦ inr q ]

pub gets-append : {X : Type 0} (xs ys : List X) (x : X) → Gets (xs ++ ys) x → Gets xs x ⊎ Gets ys x
gets-append [] ys x g = inr g
gets-append (y ∷ xs) ys x (zero, e) = inl (zero, e)
gets-append (y ∷ xs) ys x (suc i, e) = elim (gets-append xs ys x (i, e)) [ inl g ↦ inl (suc g.0, g.1) | inr q ↦ inr q ]

pub gets-take : {X : Type 0} (n : ℕ) (xs : List X) (x : X) → Gets (take n xs) x → Gets xs x
gets-take zero [] x g = g
gets-take (suc n) [] x g = g
gets-take zero (y ∷ xs) x (i, e) = absurd (cc)
gets-take (suc n) (y ∷ xs) x (zero, e) = (zero, e)
gets-take (suc n) (y ∷ xs) x (suc i, e) = let g = gets-take n xs x (i, e) in (suc g.0, g.1)

pub gets-drop : {X : Type 0} (n : ℕ) (xs : List X) (x : X) → Gets (drop n xs) x → Gets xs x
gets-drop zero [] x g = g
gets-drop (suc n) [] x g = g
gets-drop zero (y ∷ xs) x g = g
gets-drop (suc n) (y ∷ xs) x g = let h = gets-drop n xs x g in (suc h.0, h.1)

pub gets-replicate : {X : Type 0} (n : ℕ) (y x : X) → Gets (replicate n y) x → y ≡ x
gets-replicate zero y x (i, e) = absurd (cc)
gets-replicate (suc n) y x (zero, e) = cc
gets-replicate (suc n) y x (suc i, e) = gets-replicate n y x (i, e)

-- ---- registers

get_held : (rs : List (Option Name)) (p : ℕ) (n : Name) → slice_index_or rs p None ≡ Some n → slice_get rs p ≡ Some (Some n)
get_held [] p n e = absurd (cc)
get_held (x ∷ rs) zero n e = ap Some e
get_held (x ∷ rs) (suc p) n e = get_held rs p n e

-- what a register holds is held
pub register_held : (s : State) (t r : ℕ) (n : Name) → register_at s t r ≡ Some n → Holds s n
register_held s t r n e = (register_index t r, get_held s.registers (register_index t r) n e)

-- ---- where registers and references grow by no more, so does what is reachable

reach_step : (s s' : State) (new : Name)
    → ((n : Name) → Holds s' n → Reachable s n ⊎ (n ≡ new))
    → ((m n : Name) → Refers s'.graph m n → Refers s.graph m n ⊎ Reachable s n)
    → ((n : Name) → Refers s.graph new n → ⊥)
    → (n : Name) → Reachable s' n → Reachable s n ⊎ (n ≡ new)
reach_step s s' new registers references none n the_world = inl the_world
reach_step s s' new registers references none n (held h) = registers n h
reach_step s s' new registers references none n (referred {m = m} r f) =
    elim (references m n f) [
      | inr q ↦ inl q
      | inl q ↦ elim (reach_step s s' new registers references none m r) [
        | inl p ↦ inl (referred p q)
        | inr e ↦ absurd (none n (subst (λ x. Refers s.graph x n) e q))
      ]
    ]

-- nothing is reachable in the second state that isn't in the first
abbrev Keeps : State → State → Type 0
Keeps s s' = (n : Name) → Reachable s' n → Reachable s n

reach_same : (s s' : State) → ((n : Name) → Holds s' n → Reachable s n) → ((m n : Name) → Refers s'.graph m n → Refers s.graph m n ⊎ Reachable s n) → Keeps s s'
reach_same s s' registers references n the_world = the_world
reach_same s s' registers references n (held h) = registers n h
reach_same s s' registers references n (referred {m = m} r f) =
    elim (references m n f) [ inr q ↦ q | inl q ↦ referred (reach_same s s' registers references m r) q ]

-- ---- the cases of a step

keeps_register : (s : State) (t r : ℕ) (v : Option Name) → ((m : Name) → v ≡ Some m → Reachable s m) → Keeps s (with_register s t r v)
keeps_register s t r v from = reach_same s (with_register s t r v)
    (λ n h. elim (gets-set s.registers (register_index t r) v (Some n) h) [ inl g ↦ held g | inr e ↦ from n e ])
    (λ m n f. inl f)

keeps_loaded : (s : State) (t dest i : ℕ) (b : Name) → Reachable s b → (found : Option (Option Name)) → slice_get (refs_of (object_at s.graph b)) i ≡ found → Keeps s (loaded s t dest found).0
keeps_loaded s t dest i b rb None e n r = r
keeps_loaded s t dest i b rb (Some v) e n r = keeps_register s t dest v (λ m q. referred rb (i, e ∙ ap Some q)) n r

keeps_load : (s : State) (t dest base i : ℕ) (b : Option Name) → register_at s t base ≡ b → Keeps s (load_from s t dest i b).0
keeps_load s t dest base i None e n r = r
keeps_load s t dest base i (Some b) e n r = keeps_loaded s t dest i b (held (register_held s t base b e)) _ refl n r

-- the references of the second state are those of the first, or to what is reachable there
abbrev RefersNoMore : State → State → Type 0
RefersNoMore s s' = (m n : Name) → Refers s'.graph m n → Refers s.graph m n ⊎ Reachable s n

keeps_graph : (s : State) (g' : Graph) → RefersNoMore s (record s { graph = g' }) → Keeps s (record s { graph = g' })
keeps_graph s g' references = reach_same s (record s { graph = g' }) (λ n h. held h) references

refers_changed : (g : Graph) (b : Name) (i : ℕ) (v : Option Name) (o : Object) → object_at g b ≡ Some o
    → (m n : Name) → Refers (with_reference g b i v (Some o)) m n → Refers g m n ⊎ (v ≡ Some n)
refers_changed g b i v o is m n (j, e) =
    let looked = object_at-with_reference g b i v o m is in
    let at : slice_get (refs_of (cond (same_name m b) (Some (record o { refs = slice_set o.refs i v })) (object_at g m))) j ≡ Some (Some n) = rw looked at e in
    elim (same_name m b) as (λ t. same_name m b ≡ t → slice_get (refs_of (cond t (Some (record o { refs = slice_set o.refs i v })) (object_at g m))) j ≡ Some (Some n) → Refers g m n ⊎ (v ≡ Some n)) [
      | true ↦ λ same k. elim (gets-set o.refs i v (Some n) (j, k)) [
        | inl h ↦ inl (h.0, ap (λ x. slice_get (refs_of (object_at g x)) h.0) (same_names m b same) ∙ ap (λ x. slice_get (refs_of x) h.0) is ∙ h.1)
        | inr q ↦ inr q
      ]
      | false ↦ λ other k. inl (j, k)
    ] refl at

refers_stored : (s : State) (i : ℕ) (b : Name) (v : Option Name) → ((m : Name) → v ≡ Some m → Reachable s m) → (at : Option Object) → object_at s.graph b ≡ at
    → (old : Option Name) → slice_get (refs_of at) i ≡ Some old → RefersNoMore s (record s { graph = with_reference s.graph b i v at })
refers_stored s i b v from None is old e m n f = absurd (cc)
refers_stored s i b v from (Some o) is old e m n f = elim (refers_changed s.graph b i v o is m n f) [ inl g ↦ inl g | inr q ↦ inr (from n q) ]

stored_refers : (s : State) (i : ℕ) (b : Name) (v : Option Name) → ((m : Name) → v ≡ Some m → Reachable s m)
    → (found : Option (Option Name)) → slice_get (refs_of (object_at s.graph b)) i ≡ found → RefersNoMore s (stored s b i v found).0
stored_refers s i b v from None e m n f = inl f
stored_refers s i b v from (Some old) e m n f = refers_stored s i b v from (object_at s.graph b) refl old e m n f

keeps_stored : (s : State) (i : ℕ) (b : Name) (v : Option Name) → ((m : Name) → v ≡ Some m → Reachable s m)
    → (found : Option (Option Name)) → slice_get (refs_of (object_at s.graph b)) i ≡ found → Keeps s (stored s b i v found).0
keeps_stored s i b v from None e n r = r
keeps_stored s i b v from (Some old) e n r = keeps_graph s (with_reference s.graph b i v (object_at s.graph b)) (stored_refers s i b v from (Some old) e) n r

store_refers : (s : State) (t i source : ℕ) (b : Option Name) → RefersNoMore s (store_to s i (register_at s t source) b).0
store_refers s t i source None m n f = inl f
store_refers s t i source (Some b) m n f = stored_refers s i b (register_at s t source) (λ m q. held (register_held s t source m q)) _ refl m n f

keeps_store : (s : State) (t i source : ℕ) (b : Option Name) → Keeps s (store_to s i (register_at s t source) b).0
keeps_store s t i source None n r = r
keeps_store s t i source (Some b) n r =
    keeps_stored s i b (register_at s t source) (λ m q. held (register_held s t source m q)) _ refl n r

swapped_refers : (s : State) (t dest i : ℕ) (b : Name) (v : Option Name) → ((m : Name) → v ≡ Some m → Reachable s m)
    → (found : Option (Option Name)) → slice_get (refs_of (object_at s.graph b)) i ≡ found → RefersNoMore s (swapped s t dest b i v found).0
swapped_refers s t dest i b v from None e m n f = inl f
swapped_refers s t dest i b v from (Some old) e m n f = refers_stored s i b v from (object_at s.graph b) refl old e m n f

-- the register gets what a reachable object referred to, and its reference what a register held
keeps_swapped : (s : State) (t dest i : ℕ) (b : Name) (v : Option Name) → ((m : Name) → v ≡ Some m → Reachable s m) → Reachable s b
    → (found : Option (Option Name)) → slice_get (refs_of (object_at s.graph b)) i ≡ found → Keeps s (swapped s t dest b i v found).0
keeps_swapped s t dest i b v from rb None e n r = r
keeps_swapped s t dest i b v from rb (Some old) e n r = reach_same s (swapped s t dest b i v (Some old)).0
    (λ m h. elim (gets-set s.registers (register_index t dest) old (Some m) h) [ inl g ↦ held g | inr q ↦ referred rb (i, e ∙ ap Some q) ])
    (swapped_refers s t dest i b v from (Some old) e)
    n r

swap_refers : (s : State) (t dest i source : ℕ) (b : Option Name) → RefersNoMore s (swap_in s t dest i (register_at s t source) b).0
swap_refers s t dest i source None m n f = inl f
swap_refers s t dest i source (Some b) m n f = swapped_refers s t dest i b (register_at s t source) (λ m q. held (register_held s t source m q)) _ refl m n f

keeps_swap : (s : State) (t dest base i source : ℕ) (b : Option Name) → register_at s t base ≡ b → Keeps s (swap_in s t dest i (register_at s t source) b).0
keeps_swap s t dest base i source None e n r = r
keeps_swap s t dest base i source (Some b) e n r =
    keeps_swapped s t dest i b (register_at s t source) (λ m q. held (register_held s t source m q)) (held (register_held s t base b e)) _ refl n r

refers_value : (g : Graph) (b : Name) (i v : ℕ) (o : Object) → object_at g b ≡ Some o
    → (m n : Name) → Refers (with_value g b i v (Some o)) m n → Refers g m n
refers_value g b i v o is m n (j, e) =
    let looked = object_at-with_value g b i v o m is in
    let at : slice_get (refs_of (cond (same_name m b) (Some (record o { values = slice_set o.values i v })) (object_at g m))) j ≡ Some (Some n) = rw looked at e in
    elim (same_name m b) as (λ t. same_name m b ≡ t → slice_get (refs_of (cond t (Some (record o { values = slice_set o.values i v })) (object_at g m))) j ≡ Some (Some n) → Refers g m n) [
      | true ↦ λ same k. (j, ap (λ x. slice_get (refs_of (object_at g x)) j) (same_names m b same) ∙ ap (λ x. slice_get (refs_of x) j) is ∙ k)
      | false ↦ λ other k. (j, k)
    ] refl at

refers_put : (s : State) (i v : ℕ) (b : Name) → (at : Option Object) → object_at s.graph b ≡ at → (old : ℕ) → slice_get (values_of at) i ≡ Some old
    → RefersNoMore s (record s { graph = with_value s.graph b i v at })
refers_put s i v b None is old e m n f = absurd (cc)
refers_put s i v b (Some o) is old e m n f = inl (refers_value s.graph b i v o is m n f)

put_at_refers : (s : State) (i v : ℕ) (b : Name) → (found : Option ℕ) → slice_get (values_of (object_at s.graph b)) i ≡ found → RefersNoMore s (put_at s b i v found).0
put_at_refers s i v b None e m n f = inl f
put_at_refers s i v b (Some old) e m n f = refers_put s i v b (object_at s.graph b) refl old e m n f

keeps_put_at : (s : State) (i v : ℕ) (b : Name) → (found : Option ℕ) → slice_get (values_of (object_at s.graph b)) i ≡ found → Keeps s (put_at s b i v found).0
keeps_put_at s i v b None e n r = r
keeps_put_at s i v b (Some old) e n r = keeps_graph s (with_value s.graph b i v (object_at s.graph b)) (put_at_refers s i v b (Some old) e) n r

put_refers : (s : State) (i v : ℕ) (b : Option Name) → RefersNoMore s (put_to s i v b).0
put_refers s i v None m n f = inl f
put_refers s i v (Some b) m n f = put_at_refers s i v b _ refl m n f

keeps_put : (s : State) (i v : ℕ) (b : Option Name) → Keeps s (put_to s i v b).0
keeps_put s i v None n r = r
keeps_put s i v (Some b) n r = keeps_put_at s i v b _ refl n r

-- an `add` writes as a `put` of the sum
added_refers : (s : State) (i v : ℕ) (b : Name) → (found : Option ℕ) → slice_get (values_of (object_at s.graph b)) i ≡ found → RefersNoMore s (added s b i v found).0
added_refers s i v b None e m n f = inl f
added_refers s i v b (Some old) e m n f = put_at_refers s i ((old + v) % 2 ^ 64) b (Some old) e m n f

keeps_added : (s : State) (i v : ℕ) (b : Name) → (found : Option ℕ) → slice_get (values_of (object_at s.graph b)) i ≡ found → Keeps s (added s b i v found).0
keeps_added s i v b None e n r = r
keeps_added s i v b (Some old) e n r = keeps_put_at s i ((old + v) % 2 ^ 64) b (Some old) e n r

add_refers : (s : State) (i v : ℕ) (b : Option Name) → RefersNoMore s (add_to s i v b).0
add_refers s i v None m n f = inl f
add_refers s i v (Some b) m n f = added_refers s i v b _ refl m n f

keeps_add : (s : State) (i v : ℕ) (b : Option Name) → Keeps s (add_to s i v b).0
keeps_add s i v None n r = r
keeps_add s i v (Some b) n r = keeps_added s i v b _ refl n r

keeps_get : (s : State) (i : ℕ) (b : Option Name) → Keeps s (get_from s i b).0
keeps_get s i None n r = r
keeps_get s i (Some b) n r = r

refers_new : (g : Graph) (t : ℕ) (shape : Shape) → t < length g → (m n : Name) → Refers (with_new g t (fresh shape)) m n → Refers g m n
refers_new g t shape h m n (j, e) =
    let looked = object_at-with_new g t (fresh shape) m h in
    let at : slice_get (refs_of (cond (same_name m (next_name g t)) (Some (fresh shape)) (object_at g m))) j ≡ Some (Some n) = rw looked at e in
    elim (same_name m (next_name g t)) as (λ t'. slice_get (refs_of (cond t' (Some (fresh shape)) (object_at g m))) j ≡ Some (Some n) → Refers g m n) [
      | true ↦ λ k. let nil : None ≡ Some n = gets-replicate shape.refs None (Some n) (j, k) in absurd (cc)
      | false ↦ λ k. (j, k)
    ] at

no_next : (g : Graph) (t : ℕ) (n : Name) → Refers g (next_name g t) n → ⊥
no_next g t n (i, e) = let a = next_none g t in let f : slice_get (refs_of None) i ≡ Some (Some n) = rw a at e in cc

keeps_make : (s : State) (t dest : ℕ) (shape : Shape) → t < length s.graph → (n : Name) → Reachable (make s t dest (fresh shape) (next_name s.graph t)).0 n → Reachable s n ⊎ (n ≡ next_name s.graph t)
keeps_make s t dest shape h = reach_step s (with_register (record s { graph = with_new s.graph t (fresh shape) }) t dest (Some (next_name s.graph t))) (next_name s.graph t)
    (λ n g. elim (gets-set s.registers (register_index t dest) (Some (next_name s.graph t)) (Some n) g) [ inl k ↦ inl (held k) | inr e ↦ inr (cc) ])
    (λ m n f. inl (refers_new s.graph t shape h m n f))
    (no_next s.graph t)

held_cleared : (rs : List (Option Name)) (t : ℕ) (n : Name) → Gets (cleared rs t) (Some n) → Gets rs (Some n)
held_cleared rs t n g =
    elim (gets-append (take (REGISTERS * (t - 1)) rs ++ replicate REGISTERS None) (drop (REGISTERS * (t - 1) + REGISTERS) rs) (Some n) g) [
      | inl h ↦ elim (gets-append (take (REGISTERS * (t - 1)) rs) (replicate REGISTERS None) (Some n) h) [
        | inl k ↦ gets-take (REGISTERS * (t - 1)) rs (Some n) k
        | inr k ↦ let nil : None ≡ Some n = gets-replicate REGISTERS None (Some n) k in absurd (cc)
      ]
      | inr h ↦ gets-drop (REGISTERS * (t - 1) + REGISTERS) rs (Some n) h
    ]

pub step_reaches : StepReachesNewName
step_reaches s t (op.New dest shape) h n r = elim (keeps_make s t dest shape h n r) [ inl q ↦ inl q | inr e ↦ inr (ap reply.New (sym e)) ]
step_reaches s t (op.Load dest base index) h n r = inl (keeps_load s t dest base index _ refl n r)
step_reaches s t (op.Store base index source) h n r = inl (keeps_store s t index source (register_at s t base) n r)
step_reaches s t (op.Put base index value) h n r = inl (keeps_put s index value (register_at s t base) n r)
step_reaches s t (op.Get base index) h n r = inl (keeps_get s index (register_at s t base) n r)
step_reaches s t (op.Swap dest base index source) h n r = inl (keeps_swap s t dest base index source _ refl n r)
step_reaches s t (op.Add base index value) h n r = inl (keeps_add s index value (register_at s t base) n r)
step_reaches s t (op.Move dest source) h n r = inl (keeps_register s t dest (register_at s t source) (λ m q. held (register_held s t source m q)) n r)
step_reaches s t (op.Nil dest) h n r = inl (keeps_register s t dest None (λ m q. absurd (cc)) n r)
step_reaches s t (op.Same left right) h n r = inl r
step_reaches s t op.Pause h n r = inl r
step_reaches s t op.Collect h n r = inl r
step_reaches s t op.End h n r = inl (reach_same s (record s { registers = cleared s.registers t }) (λ n g. held (held_cleared s.registers t n g)) (λ m n f. inl f) n r)

-- ---- references

loaded_refers : (s : State) (t dest : ℕ) (found : Option (Option Name)) → RefersNoMore s (loaded s t dest found).0
loaded_refers s t dest None m n f = inl f
loaded_refers s t dest (Some v) m n f = inl f

load_refers : (s : State) (t dest i : ℕ) (b : Option Name) → RefersNoMore s (load_from s t dest i b).0
load_refers s t dest i None m n f = inl f
load_refers s t dest i (Some b) m n f = loaded_refers s t dest _ m n f

get_refers : (s : State) (i : ℕ) (b : Option Name) → RefersNoMore s (get_from s i b).0
get_refers s i None m n f = inl f
get_refers s i (Some b) m n f = inl f

pub step_refers : StepStoresTheReachable
step_refers s t (op.New dest shape) h m n f = inl (refers_new s.graph t shape h m n f)
step_refers s t (op.Load dest base index) h m n f = load_refers s t dest index (register_at s t base) m n f
step_refers s t (op.Store base index source) h m n f = store_refers s t index source (register_at s t base) m n f
step_refers s t (op.Put base index value) h m n f = put_refers s index value (register_at s t base) m n f
step_refers s t (op.Get base index) h m n f = get_refers s index (register_at s t base) m n f
step_refers s t (op.Swap dest base index source) h m n f = swap_refers s t dest index source (register_at s t base) m n f
step_refers s t (op.Add base index value) h m n f = add_refers s index value (register_at s t base) m n f
step_refers s t (op.Move dest source) h m n f = inl f
step_refers s t (op.Nil dest) h m n f = inl f
step_refers s t (op.Same left right) h m n f = inl f
step_refers s t op.Pause h m n f = inl f
step_refers s t op.Collect h m n f = inl f
step_refers s t op.End h m n f = inl f
