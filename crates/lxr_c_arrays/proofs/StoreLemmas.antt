-- A store to an element replaces the element.
use Rattle.std.proofs.Common.{◌≡◌, ◌≢◌, ℕ, ◌<◌, ◌∙◌, refl, sym, ap, subst, arith, cond, inl, inr, false, Option, Some, None, List, [], ◌∷◌, length, map}
use Rattle.std.specs.Prelude.{min, option_map, slice_get, slice_set, unwrap_or}
use Rattle.std.proofs.lemmas.Bool.{cases_Bool}
use Rattle.std.proofs.lemmas.List.{get_or-set_same, length-map, length-set}
use Rattle.std.proofs.lemmas.Option.{same_Some, slice_get-get_or, slice_get_within}
use Rattle.lxr_layout.specs.declared.Name.{Name}
use Rattle.lxr_graph.specs.declared.Op.TheVariants as op
use Rattle.lxr_graph.specs.State.{Object, object_at, refs_of, register_at, values_of, with_reference}
use Rattle.lxr_graph.specs.Step.{store_to, stored}
use Rattle.lxr_graph.specs.Names.{same_name}
use Rattle.lxr_graph.proofs.NameSets.{same_itself, same_names}
use Rattle.lxr_graph.proofs.RowLemmas.{object_at-with_reference}
use Rattle.lxr_large_model.specs.declared.LargeOp.TheVariants as large_op
use Rattle.lxr_large_model.specs.declared.LargeReply.TheVariants as large_reply
use Rattle.lxr_large_model.specs.History.{LargeItem, large_state}
use Rattle.lxr_large_model.specs.State.{LargeState}
use Rattle.lxr_large_model.specs.Step.{large_step}
use Rattle.lxr_c_base.specs.Codes.{code_of}
use Rattle.lxr_c_base.specs.Requests.{index_of}
use Rattle.lxr_c_base.specs.declared.codes.Code.TheVariants as code
use Rattle.lxr_c_heap.specs.declared.host.HostHeap.{HostHeap}
use Rattle.lxr_c_heap.specs.declared.host.TheConstants.{ENDS}
use Rattle.lxr_c_heap.specs.Hosting.{IsHostOf}
use Rattle.lxr_c_many.specs.Fields.{references_in, words_in}
use Rattle.lxr_c_many.specs.declared.applying.Told.{Told}
use Rattle.lxr_c_many.specs.declared.asked.Asked.{Asked}
use Rattle.lxr_c_many.proofs.ApplyLemmas.{performs_host}
use Rattle.lxr_c_arrays.specs.Elements.{StoresReplaceElements, as_named, elements_at, elements_of, with_names}
use Rattle.lxr_c_arrays.specs.Operations.{store_of}
use Rattle.lxr_c_arrays.specs.Plans.{first_own, planned, storing}
use Rattle.lxr_c_arrays.specs.Running.{Carries, Runs}
use Rattle.lxr_c_arrays.specs.Sides.{root_length, side_by}
use Rattle.lxr_c_arrays.proofs.ElementLemmas.{few_registers, small_index}
use Rattle.lxr_c_arrays.proofs.ReachLemmas.{apart_named, own_named}
use Rattle.lxr_c_arrays.proofs.SettleLemmas.{Settled, paused_state, settling}

-- ---- one store

-- a reference was there, and was replaced
pub record SetReference (s u : LargeState) (base i source : ℕ) : Type 0 where
  pub name : Name
  pub object : Object
  pub held : register_at s.small 1 base ≡ Some name
  pub there : object_at s.small.graph name ≡ Some object
  pub within : i < length object.refs
  pub after : u ≡ record s { small = record s.small { graph = with_reference s.small.graph name i (register_at s.small 1 source) (Some object) } }

store_done : (s : LargeState) (base i source : ℕ) → code_of (large_step s (large_op.Small (op.Store base i source))).1 ≡ code.Done → SetReference s (large_step s (large_op.Small (op.Store base i source))).0 base i source
store_done s base i source = at_held (register_at s.small 1 base) refl
  where
    v : Option Name
    v = register_at s.small 1 source

    at_held : (held : Option Name) → register_at s.small 1 base ≡ held → code_of (large_reply.Small (store_to s.small i v held).1) ≡ code.Done → SetReference s (record s { small = (store_to s.small i v held).0 }) base i source
    at_held None e told = absurd (cc)
    at_held (Some n) e told = at_object (object_at s.small.graph n) refl
      where
        at_object : (o : Option Object) → object_at s.small.graph n ≡ o → SetReference s (record s { small = (store_to s.small i v (Some n)).0 }) base i source
        at_object None there = absurd (let failed : code_of (large_reply.Small (stored s.small n i v (slice_get (refs_of None) i)).1) ≡ code.Done = subst (λ z. code_of (large_reply.Small (stored s.small n i v (slice_get (refs_of z) i)).1) ≡ code.Done) there told in cc)
        at_object (Some o) there = at_found (slice_get o.refs i) refl
          where
            found_is : slice_get (refs_of (object_at s.small.graph n)) i ≡ slice_get o.refs i
            found_is = ap (λ z. slice_get (refs_of z) i) there

            at_found : (found : Option (Option Name)) → slice_get o.refs i ≡ found → SetReference s (record s { small = (store_to s.small i v (Some n)).0 }) base i source
            at_found None f = absurd (let failed : code_of (large_reply.Small (stored s.small n i v None).1) ≡ code.Done = subst (λ z. code_of (large_reply.Small (stored s.small n i v z).1) ≡ code.Done) (found_is ∙ f) told in cc)
            at_found (Some old) f = record {
              name = n;
              object = o;
              held = e;
              there = there;
              within = slice_get_within o.refs i old f;
              after = ap (λ z. record s { small = (stored s.small n i v z).0 }) (found_is ∙ f) ∙ ap (λ z. record s { small = record s.small { graph = with_reference s.small.graph n i v z } }) there;
            }

-- the first operation of a run was a store, after settling, and the others follow
pub record StoresFirst (h : List LargeItem) (base i source : ℕ) (ops : List Asked) (y : HostHeap) (k : List LargeItem) : Type 0 where
  pub heap : HostHeap
  pub history : List LargeItem
  pub before : LargeState
  pub host : IsHostOf heap history
  pub settled : Settled (large_state h) before
  pub set : SetReference before (large_state history) base i source
  pub rest : Runs heap history ops y k code.Done

pub store_first : (x y : HostHeap) (h k : List LargeItem) (base i source : ℕ) (ops : List Asked) → IsHostOf x h → Runs x h (store_of base i source ∷ ops) y k code.Done → StoresFirst h base i source ops y k
store_first x y h k base i source ops is (m, j, t, (r, stores, left, told), inl (done, rest)) =
    let b = stores.acts.history in
    let step : (large_step (large_state b) (large_op.Small (op.Store base i source))).1 ≡ r = stores.acts.replies.heap.holds.legal.1.reply in
    record {
      heap = m;
      history = j;
      before = large_state b;
      host = performs_host x m h j (store_of base i source) t is (r, stores, left, told);
      settled = subst (Settled (large_state h)) (sym (paused_state (large_op.Small (op.Store base i source)) stores.settled stores.acts.middle stores.history b stores.acts.pauses)) (settling ENDS x stores.settled h stores.history stores.settles);
      set = subst (λ l. SetReference (large_state b) (large_state l) base i source) (sym left)
          (store_done (large_state b) base i source (ap code_of step ∙ sym (ap (λ (u : Told). u.code) told) ∙ done));
      rest = rest;
    }
store_first x y h k base i source ops is (m, j, t, performs, inr (failed, same, left, told)) = absurd (failed (sym told))

-- ---- a whole array

-- what a list of references is that has these under new names
named_refs : (f : Option Name → Option Name) (v : Option (List (Option Name))) (refs : List (Option Name)) → option_map (map f) v ≡ Some refs → (rs : List (Option Name)) × (v ≡ Some rs) × (map f rs ≡ refs)
named_refs f None refs same = absurd (cc)
named_refs f (Some rs) refs same = (rs, refl, same_Some (map f rs) refs same)

-- and whose they are
pub held_refs : (s : LargeState) (v : Option Name) (rs : List (Option Name)) → option_map (λ n. refs_of (object_at s.small.graph n)) v ≡ Some rs → (n : Name) × (v ≡ Some n) × (refs_of (object_at s.small.graph n) ≡ rs)
held_refs s None rs same = absurd (cc)
held_refs s (Some n) rs same = (n, refl, same_Some (refs_of (object_at s.small.graph n)) rs same)

-- names that differ aren't the same
pub unlike : (m n : Name) → m ≢ n → same_name m n ≡ false
unlike m n apart = elim (cases_Bool (same_name m n)) [
  | inl same ↦ absurd (apart (same_names m n same))
  | inr other ↦ other
]

-- a root is told by data words
pub root_by : (s u : LargeState) (base : ℕ) → words_in u base ≡ words_in s base → root_length u base ≡ root_length s base
root_by s u base same = ap (λ ws. option_map (λ w. min w 1046529) (slice_get (unwrap_or ws []) 0)) same

-- the elements of what is no root
pub whole_elements : (s : LargeState) (base : ℕ) (rs : List (Option Name)) → root_length s base ≡ None → references_in s base ≡ Some rs → elements_at s base ≡ Some rs
whole_elements s base rs none refs =
    ap (λ root. option_map (λ vs. elements_of s.small.graph vs root) (references_in s base)) none ∙ ap (option_map (λ vs. elements_of s.small.graph vs None)) refs

module _ (s b : LargeState) (base i source : ℕ) (settled : Settled s b) (u : LargeState) (set : SetReference b u base i source) where
  abbrev pub v : Option Name
  v = register_at b.small 1 source

  abbrev pub changed : Object
  changed = record set.object { refs = slice_set set.object.refs i v }

  pub held_now : register_at u.small 1 base ≡ Some set.name
  held_now = ap (λ (z : LargeState). register_at z.small 1 base) set.after ∙ set.held

  pub object_now : (n : Name) → object_at u.small.graph n ≡ cond (same_name n set.name) (Some changed) (object_at b.small.graph n)
  object_now n = ap (λ (z : LargeState). object_at z.small.graph n) set.after ∙ object_at-with_reference b.small.graph set.name i v set.object n set.there

  pub changed_now : object_at u.small.graph set.name ≡ Some changed
  changed_now = object_now set.name ∙ ap (λ c. cond c (Some changed) (object_at b.small.graph set.name)) (same_itself set.name)

  -- the object keeps its data words
  pub words_now : words_in u base ≡ words_in s base
  words_now =
      ap (option_map (λ n. values_of (object_at u.small.graph n))) held_now ∙ ap (λ o. Some (values_of o)) changed_now
      ∙ sym (ap (option_map (λ n. values_of (object_at b.small.graph n))) set.held ∙ ap (λ o. Some (values_of o)) set.there)
      ∙ settled.words base

  pub references_now : references_in u base ≡ Some (slice_set set.object.refs i v)
  references_now = ap (option_map (λ n. refs_of (object_at u.small.graph n))) held_now ∙ ap (λ o. Some (refs_of o)) changed_now

  references_before : references_in b base ≡ Some set.object.refs
  references_before = ap (option_map (λ n. refs_of (object_at b.small.graph n))) set.held ∙ ap (λ o. Some (refs_of o)) set.there

  pub references_were : (rs : List (Option Name)) × (references_in s base ≡ Some rs) × (map (as_named settled.names) rs ≡ set.object.refs)
  references_were = named_refs (as_named settled.names) (references_in s base) set.object.refs (sym (settled.references base) ∙ references_before)

  pub registers_now : (r : ℕ) → register_at u.small 1 r ≡ as_named settled.names (register_at s.small 1 r)
  registers_now r = ap (λ (z : LargeState). register_at z.small 1 r) set.after ∙ settled.registers r

  pub others_now : (n : Name) → n ≢ set.name → object_at u.small.graph n ≡ object_at (with_names settled.names s).small.graph n
  others_now n apart = object_now n ∙ ap (λ c. cond c (Some changed) (object_at b.small.graph n)) (unlike n set.name apart) ∙ ap (λ (z : LargeState). object_at z.small.graph n) settled.state

  -- an object that a register held beside it keeps its references and data words
  pub beside : (n : Name) (v : Option Name) → v ≢ register_at b.small 1 base → v ≡ Some n → object_at u.small.graph n ≡ object_at b.small.graph n
  beside n v apart is =
      let other : n ≢ set.name = λ e. apart (is ∙ ap (λ q. Some q) e ∙ sym set.held) in
      object_now n ∙ ap (λ c. cond c (Some changed) (object_at b.small.graph n)) (unlike n set.name other)

  pub references_beside : (r : ℕ) → register_at b.small 1 r ≢ register_at b.small 1 base → references_in u r ≡ option_map (map (as_named settled.names)) (references_in s r)
  references_beside r apart = ap (λ (z : LargeState). option_map (λ n. refs_of (object_at u.small.graph n)) (register_at z.small 1 r)) set.after ∙ at_held (register_at b.small 1 r) refl ∙ settled.references r
    where
      at_held : (v : Option Name) → register_at b.small 1 r ≡ v → option_map (λ n. refs_of (object_at u.small.graph n)) (register_at b.small 1 r) ≡ option_map (λ n. refs_of (object_at b.small.graph n)) (register_at b.small 1 r)
      at_held None e = ap (option_map (λ n. refs_of (object_at u.small.graph n))) e ∙ sym (ap (option_map (λ n. refs_of (object_at b.small.graph n))) e)
      at_held (Some n) e =
          ap (option_map (λ n. refs_of (object_at u.small.graph n))) e ∙ ap (λ o. Some (refs_of o)) (beside n (register_at b.small 1 r) apart e)
          ∙ sym (ap (option_map (λ n. refs_of (object_at b.small.graph n))) e)

  pub words_beside : (r : ℕ) → register_at b.small 1 r ≢ register_at b.small 1 base → words_in u r ≡ words_in s r
  words_beside r apart = ap (λ (z : LargeState). option_map (λ n. values_of (object_at u.small.graph n)) (register_at z.small 1 r)) set.after ∙ at_held (register_at b.small 1 r) refl ∙ settled.words r
    where
      at_held : (v : Option Name) → register_at b.small 1 r ≡ v → option_map (λ n. values_of (object_at u.small.graph n)) (register_at b.small 1 r) ≡ option_map (λ n. values_of (object_at b.small.graph n)) (register_at b.small 1 r)
      at_held None e = ap (option_map (λ n. values_of (object_at u.small.graph n))) e ∙ sym (ap (option_map (λ n. values_of (object_at b.small.graph n))) e)
      at_held (Some n) e =
          ap (option_map (λ n. values_of (object_at u.small.graph n))) e ∙ ap (λ o. Some (values_of o)) (beside n (register_at b.small 1 r) apart e)
          ∙ sym (ap (option_map (λ n. values_of (object_at b.small.graph n))) e)

  -- the reference is what the source held
  pub reference_set : slice_get (refs_of (object_at u.small.graph set.name)) i ≡ Some (as_named settled.names (register_at s.small 1 source))
  reference_set =
      let long = length-set set.object.refs i v in
      let within = set.within in
      ap (λ o. slice_get (refs_of o) i) changed_now
      ∙ slice_get-get_or (slice_set set.object.refs i v) i None (omega (arith, long, within))
      ∙ ap (λ q. Some q) (get_or-set_same set.object.refs i v None set.within ∙ settled.registers source)

  pub bodies_now : u.large ≡ (with_names settled.names s).large
  bodies_now = ap (λ (z : LargeState). z.large) set.after ∙ ap (λ (z : LargeState). z.large) settled.state

pub stores_replace_elements : StoresReplaceElements
stores_replace_elements x y h index pair is (array, other) none carried =
    let (m, j, k, ran, ended) = subst (λ root. Carries x y h (planned (storing pair index) (side_by root (first_own x) pair.array index)) code.Done) none carried in
    let s : LargeState = large_state h in
    let first = store_first x m h j pair.array (index_of index) pair.other [] is ran in
    let b = first.before in
    let u : LargeState = large_state first.history in
    let f = as_named first.settled.names in
    let refs = first.set.object.refs in
    let were = references_were s b pair.array (index_of index) pair.other first.settled u first.set in
    let rs = were.0 in
    let long : length refs ≡ length rs = sym (ap length were.2) ∙ length-map rs f in
    let others : (r : ℕ) → register_at s.small 1 r ≢ register_at s.small 1 pair.array → references_in u r ≡ option_map (map f) (references_in s r) =
    λ r differs. references_beside s b pair.array (index_of index) pair.other first.settled u first.set r (λ e. differs (first.settled.apart r pair.array e)) in
    let inside = first.set.within in
    let whose = held_refs s (register_at s.small 1 pair.array) rs were.1 in
    let few = few_registers x h is in
    let as_many = ap length whose.2 in
    let small : index_of index ≡ index = small_index x h pair.array index whose.0 is (omega (arith, few, array)) whose.1 (omega (arith, as_many, long, inside)) in
    let elements_were : elements_at s pair.array ≡ Some rs = whole_elements s pair.array rs none were.1 in
    let root_now : root_length u pair.array ≡ None = root_by s u pair.array (words_now s b pair.array (index_of index) pair.other first.settled u first.set) ∙ none in
    let now = references_now s b pair.array (index_of index) pair.other first.settled u first.set in (
      first.history,
      subst (λ (z : HostHeap). IsHostOf z first.history) (sym (ended.0 ∙ first.rest.0)) first.host,
      record {
        there = let all = ap (λ (es : Option (List (Option Name))). length (unwrap_or es [])) elements_were in omega (arith, all, long, inside, small);
        names = first.settled.names;
        elements = whole_elements u pair.array (slice_set refs (index_of index) (register_at b.small 1 pair.other)) root_now now
            ∙ ap (λ vs. Some (slice_set vs (index_of index) (register_at b.small 1 pair.other))) (sym were.2)
            ∙ ap (λ i. Some (slice_set (map f rs) i (register_at b.small 1 pair.other))) small
            ∙ ap (λ v. Some (slice_set (map f rs) index v)) (first.settled.registers pair.other)
            ∙ sym (ap (option_map (λ es. slice_set (map f es) index (f (register_at s.small 1 pair.other)))) elements_were);
        held = λ r less. registers_now s b pair.array (index_of index) pair.other first.settled u first.set r;
        objects = λ n apart. others_now s b pair.array (index_of index) pair.other first.settled u first.set n (λ e. apart (ap (λ q. Some q) e ∙ sym first.set.held ∙ first.settled.registers pair.array));
        own = λ r less beside was. own_named s b u first.settled r (registers_now s b pair.array (index_of index) pair.other first.settled u first.set r) (others r beside) was;
        apart = λ q r less few beside differs are. apart_named s b u first.settled q r (others q beside) (registers_now s b pair.array (index_of index) pair.other first.settled u first.set r) (others r differs) are;
        bodies = bodies_now s b pair.array (index_of index) pair.other first.settled u first.set;
      },
    )
