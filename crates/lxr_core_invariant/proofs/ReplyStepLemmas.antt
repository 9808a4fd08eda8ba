-- One step of a thread, by what its registers and objects are.
use Rattle.std.proofs.Common.{◌≡◌, ℕ, ◌+◌, ◌%◌, ◌^◌, ◌<◌, ◌≤◌, ap, ◌∙◌, length, get_or}
use Rattle.std.specs.Prelude.{Option, Some, None, slice_get}
use Rattle.std.proofs.lemmas.Option.{slice_get-get_or, slice_get_past}
use Rattle.lxr_layout.specs.declared.Name.{Name}
use Rattle.lxr_graph.specs.declared.Op.TheVariants as op
use Rattle.lxr_graph.specs.declared.Reply.TheVariants as reply
use Rattle.lxr_graph.specs.State.{Object, State, object_at, refs_of, values_of, register_at, with_register, with_reference, with_value}
use Rattle.lxr_graph.specs.Step.{step, add_to, added, get_from, got, load_from, loaded, put_at, put_to, store_to, stored, swap_in, swapped}

-- a load: of nil, past the references, and of a reference
pub load_bad : (s : State) (t dest base i : ℕ) → register_at s t base ≡ None → step s t (op.Load dest base i) ≡ (s, reply.Bad)
load_bad s t dest base i e = ap (load_from s t dest i) e

pub load_range : (s : State) (t dest base i : ℕ) (n : Name) (o : Object) → register_at s t base ≡ Some n → object_at s.graph n ≡ Some o → length o.refs ≤ i
    → step s t (op.Load dest base i) ≡ (s, reply.Range)
load_range s t dest base i n o held there past =
    ap (load_from s t dest i) held ∙ ap (λ z. loaded s t dest (slice_get (refs_of z) i)) there ∙ ap (loaded s t dest) (slice_get_past o.refs i past)

pub load_ok : (s : State) (t dest base i : ℕ) (n : Name) (o : Object) → register_at s t base ≡ Some n → object_at s.graph n ≡ Some o → i < length o.refs
    → step s t (op.Load dest base i) ≡ (with_register s t dest (get_or o.refs i None), reply.Loaded (get_or o.refs i None))
load_ok s t dest base i n o held there within =
    ap (load_from s t dest i) held ∙ ap (λ z. loaded s t dest (slice_get (refs_of z) i)) there ∙ ap (loaded s t dest) (slice_get-get_or o.refs i None within)

-- a store: to nil, past the references, and to a reference
pub store_bad : (s : State) (t base i source : ℕ) → register_at s t base ≡ None → step s t (op.Store base i source) ≡ (s, reply.Bad)
store_bad s t base i source e = ap (store_to s i (register_at s t source)) e

pub store_range : (s : State) (t base i source : ℕ) (n : Name) (o : Object) → register_at s t base ≡ Some n → object_at s.graph n ≡ Some o → length o.refs ≤ i
    → step s t (op.Store base i source) ≡ (s, reply.Range)
store_range s t base i source n o held there past =
    let v : Option Name = register_at s t source in
    ap (store_to s i v) held ∙ ap (λ z. stored s n i v (slice_get (refs_of z) i)) there ∙ ap (stored s n i v) (slice_get_past o.refs i past)

pub store_ok : (s : State) (t base i source : ℕ) (n : Name) (o : Object) → register_at s t base ≡ Some n → object_at s.graph n ≡ Some o → i < length o.refs
    → step s t (op.Store base i source) ≡ (record s { graph = with_reference s.graph n i (register_at s t source) (Some o) }, reply.Stored)
store_ok s t base i source n o held there within =
    let v : Option Name = register_at s t source in
    ap (store_to s i v) held ∙ ap (λ z. stored s n i v (slice_get (refs_of z) i)) there ∙ ap (stored s n i v) (slice_get-get_or o.refs i None within)
    ∙ ap (λ z. (record s { graph = with_reference s.graph n i v z }, reply.Stored)) there

-- a swap: at nil, past the references, and of a reference
pub swap_bad : (s : State) (t dest base i source : ℕ) → register_at s t base ≡ None → step s t (op.Swap dest base i source) ≡ (s, reply.Bad)
swap_bad s t dest base i source e = ap (swap_in s t dest i (register_at s t source)) e

pub swap_range : (s : State) (t dest base i source : ℕ) (n : Name) (o : Object) → register_at s t base ≡ Some n → object_at s.graph n ≡ Some o → length o.refs ≤ i
    → step s t (op.Swap dest base i source) ≡ (s, reply.Range)
swap_range s t dest base i source n o held there past =
    let v : Option Name = register_at s t source in
    ap (swap_in s t dest i v) held ∙ ap (λ z. swapped s t dest n i v (slice_get (refs_of z) i)) there ∙ ap (swapped s t dest n i v) (slice_get_past o.refs i past)

pub swap_ok : (s : State) (t dest base i source : ℕ) (n : Name) (o : Object) → register_at s t base ≡ Some n → object_at s.graph n ≡ Some o → i < length o.refs
    → step s t (op.Swap dest base i source)
    ≡ (with_register (record s { graph = with_reference s.graph n i (register_at s t source) (Some o) }) t dest (get_or o.refs i None), reply.Swapped (get_or o.refs i None))
swap_ok s t dest base i source n o held there within =
    let v : Option Name = register_at s t source in
    let old : Option Name = get_or o.refs i None in
    ap (swap_in s t dest i v) held ∙ ap (λ z. swapped s t dest n i v (slice_get (refs_of z) i)) there ∙ ap (swapped s t dest n i v) (slice_get-get_or o.refs i None within)
    ∙ ap (λ z. (with_register (record s { graph = with_reference s.graph n i v z }) t dest old, reply.Swapped old)) there

-- a put: to nil, past the data words, and to a data word
pub put_bad : (s : State) (t base i v : ℕ) → register_at s t base ≡ None → step s t (op.Put base i v) ≡ (s, reply.Bad)
put_bad s t base i v e = ap (put_to s i v) e

pub put_range : (s : State) (t base i v : ℕ) (n : Name) (o : Object) → register_at s t base ≡ Some n → object_at s.graph n ≡ Some o → length o.values ≤ i
    → step s t (op.Put base i v) ≡ (s, reply.Range)
put_range s t base i v n o held there past =
    ap (put_to s i v) held ∙ ap (λ z. put_at s n i v (slice_get (values_of z) i)) there ∙ ap (put_at s n i v) (slice_get_past o.values i past)

pub put_ok : (s : State) (t base i v : ℕ) (n : Name) (o : Object) → register_at s t base ≡ Some n → object_at s.graph n ≡ Some o → i < length o.values
    → step s t (op.Put base i v) ≡ (record s { graph = with_value s.graph n i v (Some o) }, reply.Put)
put_ok s t base i v n o held there within =
    ap (put_to s i v) held ∙ ap (λ z. put_at s n i v (slice_get (values_of z) i)) there ∙ ap (put_at s n i v) (slice_get-get_or o.values i 0 within)
    ∙ ap (λ z. (record s { graph = with_value s.graph n i v z }, reply.Put)) there

-- an add: to nil, past the data words, and to a data word
pub add_bad : (s : State) (t base i v : ℕ) → register_at s t base ≡ None → step s t (op.Add base i v) ≡ (s, reply.Bad)
add_bad s t base i v e = ap (add_to s i v) e

pub add_range : (s : State) (t base i v : ℕ) (n : Name) (o : Object) → register_at s t base ≡ Some n → object_at s.graph n ≡ Some o → length o.values ≤ i
    → step s t (op.Add base i v) ≡ (s, reply.Range)
add_range s t base i v n o held there past =
    ap (add_to s i v) held ∙ ap (λ z. added s n i v (slice_get (values_of z) i)) there ∙ ap (added s n i v) (slice_get_past o.values i past)

pub add_ok : (s : State) (t base i v : ℕ) (n : Name) (o : Object) → register_at s t base ≡ Some n → object_at s.graph n ≡ Some o → i < length o.values
    → step s t (op.Add base i v) ≡ (record s { graph = with_value s.graph n i ((get_or o.values i 0 + v) % 2 ^ 64) (Some o) }, reply.Added (get_or o.values i 0))
add_ok s t base i v n o held there within =
    let old : ℕ = get_or o.values i 0 in
    ap (add_to s i v) held ∙ ap (λ z. added s n i v (slice_get (values_of z) i)) there ∙ ap (added s n i v) (slice_get-get_or o.values i 0 within)
    ∙ ap (λ z. (record s { graph = with_value s.graph n i ((old + v) % 2 ^ 64) z }, reply.Added old)) there

-- a get: of nil, past the data words, and of a data word
pub get_bad : (s : State) (t base i : ℕ) → register_at s t base ≡ None → step s t (op.Get base i) ≡ (s, reply.Bad)
get_bad s t base i e = ap (get_from s i) e

pub get_range : (s : State) (t base i : ℕ) (n : Name) (o : Object) → register_at s t base ≡ Some n → object_at s.graph n ≡ Some o → length o.values ≤ i
    → step s t (op.Get base i) ≡ (s, reply.Range)
get_range s t base i n o held there past =
    ap (get_from s i) held ∙ ap (λ z. (s, got (slice_get (values_of z) i))) there ∙ ap (λ z. (s, got z)) (slice_get_past o.values i past)

pub get_ok : (s : State) (t base i : ℕ) (n : Name) (o : Object) → register_at s t base ≡ Some n → object_at s.graph n ≡ Some o → i < length o.values
    → step s t (op.Get base i) ≡ (s, reply.Got (get_or o.values i 0))
get_ok s t base i n o held there within =
    ap (get_from s i) held ∙ ap (λ z. (s, got (slice_get (values_of z) i))) there ∙ ap (λ z. (s, got z)) (slice_get-get_or o.values i 0 within)
