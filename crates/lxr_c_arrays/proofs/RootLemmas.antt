-- A new root has nils.
use Rattle.std.proofs.Common.{◌≡◌, ◌≢◌, ℕ, zero, suc, ◌+◌, ◌-◌, ◌*◌, ◌/◌, ◌%◌, ◌<◌, ◌≤◌, ◌⊎◌, ◌∙◌, refl, sym, ap, subst, arith, cond, inl, inr, Option, Some, None, List, [], ◌∷◌, ◌++◌, length, map}
use Rattle.std.specs.Prelude.{IsTrue, is_some, min, option_map, replicate, slice_get, slice_index_or, slice_set, unwrap_or, if◌then◌else◌, Ok}
use Rattle.std.proofs.lemmas.Bool.{cases_eq, cases_lt, eq-eqb, lt-leb, ne_eqb}
use Rattle.std.proofs.lemmas.List.{get_or-replicate, get_or_past, length-map, length-replicate, length-set, map-id}
use Rattle.std.proofs.lemmas.Option.{get_or_from_slice_get, same_Some, slice_get-get_or, slice_get-map, slice_get_within}
use Rattle.lxr_layout.specs.declared.Name.{Name}
use Rattle.lxr_layout.specs.declared.Shape.{Shape}
use Rattle.lxr_layout.specs.declared.TheConstants.{REGISTERS}
use Rattle.lxr_graph.specs.Names.{same_name}
use Rattle.lxr_graph.specs.Renewing.{renewed_held}
use Rattle.lxr_graph.specs.State.{HasObject, Object, object_at, refs_of, register_at, values_of, with_register, with_value}
use Rattle.lxr_graph.specs.Step.{fresh, put_at, put_to}
use Rattle.lxr_graph.proofs.RowLemmas.{object_at-with_value, slice_get-set}
use Rattle.lxr_graph.proofs.NameSets.{same_itself}
use Rattle.lxr_large_model.specs.State.{LargeState}
use Rattle.lxr_c_heap.specs.declared.own.OwnRegisters.{OwnRegisters}
use Rattle.lxr_c_arrays.specs.Elements.{AreApart, HasMadeRoot, HasOwnParts, NewRootsHaveNils, as_named, as_renamed, element_in, elements_at, elements_of, part_at, part_of, references_of, with_renewals}
use Rattle.lxr_c_arrays.specs.Plans.{IsNewArray, own_nil, part_length, part_steps, parts_plan, root_steps}
use Rattle.lxr_c_arrays.proofs.NewLemmas.{AreThere, GotObject, make_first, new_apart, new_held, new_object, next, nil_at, old_object, old_register, reached_old}
use Rattle.lxr_c_arrays.proofs.FillLemmas.{named_lists, named_with, renewals_with, renewed_bodies}
use Rattle.lxr_c_arrays.proofs.ReachLemmas.{ReachApart, apart_named, apart_over, apart_roots, apart_settled, found_at, own_named, own_over, reached_over}
use Rattle.lxr_c_arrays.proofs.SettleLemmas.{IsReachedBy, Settled, named_object, same_references}
use Rattle.lxr_c_arrays.proofs.StoreLemmas.{SetReference, changed_now, held_now, object_now, store_first, unlike}
use Rattle.std.specs.List.{range_with_len}
use Rattle.lxr_graph.specs.declared.Op.TheVariants as op
use Rattle.lxr_large_model.specs.declared.LargeOp.TheVariants as large_op
use Rattle.lxr_large_model.specs.History.{LargeItem, large_state}
use Rattle.lxr_large_model.specs.Step.{large_step}
use Rattle.lxr_c_base.specs.declared.codes.Code.TheVariants as code
use Rattle.lxr_c_heap.specs.declared.host.HostHeap.{HostHeap}
use Rattle.lxr_c_heap.specs.Hosting.{IsHostOf, own_in, registers_in}
use Rattle.lxr_c_many.specs.Fields.{references_in, words_in}
use Rattle.lxr_c_many.specs.declared.asked.Asked.{Asked}
use Rattle.lxr_c_many.proofs.ApplyLemmas.{performs_host}
use Rattle.lxr_c_many.proofs.MakingLemmas.{all_registers}
use Rattle.lxr_c_arrays.specs.declared.making.NewArray.{NewArray}
use Rattle.lxr_c_arrays.specs.Operations.{move_of, new_of, nil_of, put_of, store_of}
use Rattle.lxr_c_arrays.specs.Running.{Carries, Runs, in_turn}
use Rattle.lxr_c_arrays.specs.Sides.{root_length}
use Rattle.lxr_c_arrays.proofs.ElementLemmas.{changed_register, few_registers, nil_last, other_register}
use Rattle.lxr_c_arrays.proofs.PlanLemmas.{own_first, own_second, own_there}
use Rattle.lxr_c_arrays.proofs.RunLemmas.{runs_apart, runs_host}

-- ---- an object of nils

nils_named : (ns : List Name) (n : ℕ) → map (renewed_held ns) (replicate n None) ≡ replicate n None
nils_named ns zero = refl
nils_named ns (suc n) = ap (λ vs. None ∷ vs) (nils_named ns n)

fresh_named : (names : Option (List Name)) (shape : Shape) → named_object names (fresh shape) ≡ fresh shape
fresh_named None shape = refl
fresh_named (Some ns) shape = ap (λ vs. record { refs = vs; values = replicate shape.values 0 }) (nils_named ns shape.refs)

values_named : (names : Option (List Name)) (o : Object) → (named_object names o).values ≡ o.values
values_named None o = refl
values_named (Some ns) o = refl

refs_named : (names : Option (List Name)) (o : Object) → (named_object names o).refs ≡ map (as_named names) o.refs
refs_named None o = sym (map-id o.refs)
refs_named (Some ns) o = refl

-- ---- the parts so far

abbrev part_shape : ℕ → ℕ → Shape
part_shape elements k = record { refs = part_length elements k; values = 0 }

-- a reference of the root refers to part k
abbrev HasPart : ℕ → LargeState → Object → ℕ → Type 0
HasPart elements u o k = (p : Name) × (slice_get o.refs k ≡ Some (Some p)) × (object_at u.small.graph p ≡ Some (fresh (part_shape elements k)))

-- so many parts of a root were made
record Parts (own : OwnRegisters) (elements total n : ℕ) (u : LargeState) : Type 0 where
  pub root : Name
  pub object : Object
  pub held : register_at u.small 1 own.first ≡ Some root
  pub there : object_at u.small.graph root ≡ Some object
  pub values : object.values ≡ elements ∷ []
  pub long : length object.refs ≡ total
  pub parts : (k : ℕ) → k < n → HasPart elements u object k
  pub distinct : (i j : ℕ) (p : Name) → i < n → j < n → slice_get object.refs i ≡ Some (Some p) → slice_get object.refs j ≡ Some (Some p) → i ≡ j

-- a register holds a part
abbrev HoldsPart : LargeState → ℕ → Shape → Type 0
HoldsPart u dest shape = (q : Name) × (register_at u.small 1 dest ≡ Some q) × (object_at u.small.graph q ≡ Some (fresh shape))

module _ (own : OwnRegisters) (elements total n : ℕ) where
  parts_settled : (u b : LargeState) → Parts own elements total n u → Settled u b → Parts own elements total n b
  parts_settled u b had settled =
      let names = settled.names in
      let (m, named, now) = settled.object own.first had.root had.object had.held had.there in
      record {
        root = m;
        object = named_object names had.object;
        held = settled.registers own.first ∙ ap (as_named names) had.held ∙ named;
        there = now;
        values = values_named names had.object ∙ had.values;
        long = ap length (refs_named names had.object) ∙ length-map had.object.refs (as_named names) ∙ had.long;
        parts = λ k less.
            let (p, read, found) = had.parts k less in
            let (q, called, here) = settled.part own.first k had.root p had.object (fresh (part_shape elements k)) had.held had.there read found in (
              q,
              now_read k ∙ ap (option_map (as_named names)) read ∙ ap (λ v. Some v) called,
              here ∙ ap (λ o. Some o) (fresh_named names (part_shape elements k)),
            );
        distinct = λ i j p less few one two.
            let (a, read_a, found_a) = had.parts i less in
            let (c, read_c, found_c) = had.parts j few in
            let is_a : as_named names (Some a) ≡ Some p = same_Some _ _ (sym (ap (option_map (as_named names)) read_a) ∙ sym (now_read i) ∙ one) in
            let is_c : as_named names (Some c) ≡ Some p = same_Some _ _ (sym (ap (option_map (as_named names)) read_c) ∙ sym (now_read j) ∙ two) in
            let same : a ≡ c = settled.one a c (own.first, part_reached i a read_a) (own.first, part_reached j c read_c) (is_a ∙ sym is_c) in
            had.distinct i j a less few read_a (read_c ∙ ap (λ q. Some (Some q)) (sym same));
      }
    where
      now_read : (k : ℕ) → slice_get (named_object settled.names had.object).refs k ≡ option_map (as_named settled.names) (slice_get had.object.refs k)
      now_read k = ap (λ vs. slice_get vs k) (refs_named settled.names had.object) ∙ slice_get-map (as_named settled.names) had.object.refs k

      part_reached : (k : ℕ) (q : Name) → slice_get had.object.refs k ≡ Some (Some q) → IsReachedBy u own.first q
      part_reached k q read = inr (had.root, k, had.held, ap (λ o. slice_get (refs_of o) k) had.there ∙ read)

  held_settled : (u b : LargeState) (dest : ℕ) (shape : Shape) → HoldsPart u dest shape → Settled u b → HoldsPart b dest shape
  held_settled u b dest shape (q, held, there) settled =
      let (m, named, now) = settled.object dest q (fresh shape) held there in
      (m, settled.registers dest ∙ ap (as_named settled.names) held ∙ named, now ∙ ap (λ o. Some o) (fresh_named settled.names shape))

  is_there : (u : LargeState) (m : Name) (o : Object) → object_at u.small.graph m ≡ Some o → HasObject u.small.graph m
  is_there u m o there = subst (λ v. IsTrue (is_some v)) (sym there) refl

  parts_new : (b w : LargeState) (shape : Shape) → own.first ≢ own.second → Parts own elements total n b → GotObject b w own.second shape → Parts own elements total n w
  parts_new b w shape apart had made = record {
    root = had.root;
    object = had.object;
    held = old_register b w own.second shape made own.first apart ∙ had.held;
    there = old_object b w own.second shape made had.root (is_there b had.root had.object had.there) ∙ had.there;
    values = had.values;
    long = had.long;
    parts = λ k less.
        let (p, read, found) = had.parts k less in
        (p, read, old_object b w own.second shape made p (is_there b p (fresh (part_shape elements k)) found) ∙ found);
    distinct = had.distinct;
  }

  part_stored : (u b w : LargeState) → n < total → ReachApart b own.first own.second → Parts own elements total n b → HoldsPart b own.second (part_shape elements n) → (settled : Settled u b)
      → SetReference b w own.first n own.second → Parts own elements total (suc n) w
  part_stored u b w less beside had (q, held, there) settled set =
      let kept : (p : Name) (k : ℕ) → object_at b.small.graph p ≡ Some (fresh (part_shape elements k)) → object_at w.small.graph p ≡ Some (fresh (part_shape elements k)) =
      λ p k found.
      let apart : p ≢ set.name = λ e.
      let one : fresh (part_shape elements k) ≡ had.object = same_Some (fresh (part_shape elements k)) had.object (sym found ∙ ap (object_at b.small.graph) (e ∙ root_is) ∙ had.there) in
      let none : [] ≡ elements ∷ [] = ap (λ (o : Object). o.values) one ∙ had.values in
      absurd (cc) in
      object_now u b own.first n own.second settled w set p ∙ ap (λ c. cond c (Some (record set.object { refs = slice_set refs n v })) (object_at b.small.graph p)) (unlike p set.name apart) ∙ found in
      record {
        root = set.name;
        object = record set.object { refs = slice_set refs n v };
        held = held_now u b own.first n own.second settled w set;
        there = changed_now u b own.first n own.second settled w set;
        values = ap (λ (o : Object). o.values) object_is ∙ had.values;
        long = length-set refs n v ∙ ap (λ (o : Object). length o.refs) object_is ∙ had.long;
        parts = λ k few. elim (cases_eq k n) [
          | inl same ↦ subst (HasPart elements w (record set.object { refs = slice_set refs n v })) (sym same)
              (q, last_read ∙ ap (λ z. Some z) held, kept q n there)
          | inr differs ↦
              let (p, read, found) = had.parts k (omega (arith, few, differs)) in
              (p, kept_read k differs ∙ ap (λ (o : Object). slice_get o.refs k) object_is ∙ read, kept p k found)
        ];
        distinct = λ i j p below few one two. elim (cases_eq i n) [
          | inl last ↦ elim (cases_eq j n) [
            | inl same ↦ last ∙ sym same
            | inr differs ↦ absurd (once p j differs (subst (λ k. slice_get (slice_set refs n v) k ≡ Some (Some p)) last one) two)
          ]
          | inr other ↦ elim (cases_eq j n) [
            | inl last ↦ absurd (once p i other (subst (λ k. slice_get (slice_set refs n v) k ≡ Some (Some p)) last two) one)
            | inr differs ↦ had.distinct i j p (omega (arith, below, other)) (omega (arith, few, differs)) (was_read i p other one) (was_read j p differs two)
          ]
        ];
      }
    where
      v : Option Name
      v = register_at b.small 1 own.second

      refs : List (Option Name)
      refs = set.object.refs

      root_is : set.name ≡ had.root
      root_is = same_Some set.name had.root (sym set.held ∙ had.held)

      object_is : set.object ≡ had.object
      object_is = same_Some set.object had.object (sym set.there ∙ ap (object_at b.small.graph) root_is ∙ had.there)

      kept_read : (k : ℕ) → k ≢ n → slice_get (slice_set refs n v) k ≡ slice_get refs k
      kept_read k differs = slice_get-set refs n v k set.within ∙ ap (λ c. cond c (Some v) (slice_get refs k)) (ne_eqb k n differs)

      last_read : slice_get (slice_set refs n v) n ≡ Some v
      last_read = slice_get-set refs n v n set.within ∙ ap (λ c. cond c (Some v) (slice_get refs n)) (eq-eqb n n refl)

      was_read : (k : ℕ) (p : Name) → k ≢ n → slice_get (slice_set refs n v) k ≡ Some (Some p) → slice_get had.object.refs k ≡ Some (Some p)
      was_read k p differs read = ap (λ (o : Object). slice_get o.refs k) (sym object_is) ∙ sym (kept_read k differs) ∙ read

      -- the part that was stored is none of the earlier ones
      once : (p : Name) (k : ℕ) → k ≢ n → slice_get (slice_set refs n v) n ≡ Some (Some p) → slice_get (slice_set refs n v) k ≡ Some (Some p) → ⊥
      once p k differs last read =
          beside p (inr (set.name, k, set.held, ap (λ o. slice_get (refs_of o) k) set.there ∙ sym (kept_read k differs) ∙ read)) (inl (same_Some v (Some p) (sym last_read ∙ last)))

-- ---- what else there is

-- What the host's registers hold is as it was, and what it refers to too, by the names of the renewals.
record Beside (registers : ℕ) (s u : LargeState) : Type 0 where
  pub renewals : List (List Name)
  pub held : (r : ℕ) → r < registers → register_at u.small 1 r ≡ as_renamed renewals (register_at s.small 1 r)
  pub references : (r : ℕ) → r < registers → references_in u r ≡ option_map (map (as_renamed renewals)) (references_in s r)
  pub words : (r : ℕ) → r < registers → words_in u r ≡ words_in s r
  pub own : (r : ℕ) → r < registers → HasOwnParts s r → HasOwnParts u r
  pub pairs : (q r : ℕ) → q < registers → r < registers → AreApart s q r → AreApart u q r
  pub bodies : u.large ≡ (with_renewals renewals s).large

-- and they reach neither the root nor what it refers to
abbrev IsApart : ℕ → ℕ → LargeState → Type 0
IsApart registers root u = (r : ℕ) → r < registers → ReachApart u r root

beside_same : (registers : ℕ) (s : LargeState) → Beside registers s s
beside_same registers s = record { renewals = []; held = λ r less. refl; references = λ r less. same_references (references_in s r); words = λ r less. refl; own = λ r less was. was; pairs = λ q r less few are. are; bodies = refl }

beside_settled : (registers : ℕ) (s u b : LargeState) → Beside registers s u → Settled u b → Beside registers s b
beside_settled registers s u b rest settled =
    let names = settled.names in
    record {
      renewals = renewals_with names rest.renewals;
      held = λ r less. settled.registers r ∙ ap (as_named names) (rest.held r less) ∙ named_with names rest.renewals (register_at s.small 1 r);
      references = λ r less. settled.references r ∙ ap (option_map (map (as_named names))) (rest.references r less) ∙ named_lists names rest.renewals (references_in s r);
      words = λ r less. settled.words r ∙ rest.words r less;
      own = λ r less was. own_named u b b settled r (settled.registers r) (settled.references r) (rest.own r less was);
      pairs = λ q r less few are. apart_named u b b settled q r (settled.references q) (settled.registers r) (settled.references r) (rest.pairs q r less few are);
      bodies = ap (λ (z : LargeState). z.large) settled.state ∙ renewed_bodies names rest.renewals s u rest.bodies;
    }

-- what a register refers to is as it was where the register is, and the object
same_fields : {A : Type 0} (f : Option Object → A) (u w : LargeState) (r : ℕ) → register_at w.small 1 r ≡ register_at u.small 1 r
    → ((n : Name) → register_at u.small 1 r ≡ Some n → object_at w.small.graph n ≡ object_at u.small.graph n)
    → option_map (λ n. f (object_at w.small.graph n)) (register_at w.small 1 r) ≡ option_map (λ n. f (object_at u.small.graph n)) (register_at u.small 1 r)
same_fields {A} f u w r same objects = ap (option_map (λ n. f (object_at w.small.graph n))) same ∙ at_held (register_at u.small 1 r) refl
  where
    at_held : (v : Option Name) → register_at u.small 1 r ≡ v → option_map (λ n. f (object_at w.small.graph n)) (register_at u.small 1 r) ≡ option_map (λ n. f (object_at u.small.graph n)) (register_at u.small 1 r)
    at_held None e = ap (option_map (λ n. f (object_at w.small.graph n))) e ∙ sym (ap (option_map (λ n. f (object_at u.small.graph n))) e)
    at_held (Some n) e = ap (option_map (λ m. f (object_at w.small.graph m))) e ∙ ap (λ o. Some (f o)) (objects n e) ∙ sym (ap (option_map (λ m. f (object_at u.small.graph m))) e)

beside_over : (registers : ℕ) (s u w : LargeState) → Beside registers s u → ((r : ℕ) → r < registers → register_at w.small 1 r ≡ register_at u.small 1 r)
    → ((r : ℕ) (n : Name) → r < registers → register_at u.small 1 r ≡ Some n → object_at w.small.graph n ≡ object_at u.small.graph n) → w.large ≡ u.large → Beside registers s w
beside_over registers s u w rest same objects bodies = record {
  renewals = rest.renewals;
  held = λ r less. same r less ∙ rest.held r less;
  references = λ r less. same_fields refs_of u w r (same r less) (λ n e. objects r n less e) ∙ rest.references r less;
  words = λ r less. same_fields values_of u w r (same r less) (λ n e. objects r n less e) ∙ rest.words r less;
  own = λ r less was. own_over u w r (same r less) (same_fields refs_of u w r (same r less) (λ n e. objects r n less e)) (rest.own r less was);
  pairs = λ q r less few are. apart_over u w q r (same_fields refs_of u w q (same q less) (λ n e. objects q n less e)) (same r few) (same_fields refs_of u w r (same r few) (λ n e. objects r n few e)) (rest.pairs q r less few are);
  bodies = bodies ∙ rest.bodies;
}

-- an object was made, in a register of the library's own
beside_new : (registers dest : ℕ) (s b w : LargeState) (shape : Shape) → registers ≤ dest → AreThere b → Beside registers s b → GotObject b w dest shape → Beside registers s w
beside_new registers dest s b w shape more there rest made =
    beside_over registers s b w rest (λ r less. old_register b w dest shape made r (λ e. omega (arith, e, less, more))) (λ r n less e. old_object b w dest shape made n (there n (r, inl e)))
    (ap (λ (z : LargeState). z.large) made.after)

-- a reference was stored, of an object that none of the host's registers hold
beside_stored : (registers root i source : ℕ) (s u b w : LargeState) → IsApart registers root b → Beside registers s b → (settled : Settled u b) → SetReference b w root i source → Beside registers s w
beside_stored registers root i source s u b w apart rest settled set =
    beside_over registers s b w rest (λ r less. ap (λ (z : LargeState). register_at z.small 1 r) set.after)
    (λ r n less e.
    let other : n ≢ set.name = λ same. apart r less n (inl e) (inl (set.held ∙ ap (λ q. Some q) (sym same))) in
    object_now u b root i source settled w set n
    ∙ ap (λ c. cond c (Some (record set.object { refs = slice_set set.object.refs i (register_at b.small 1 source) })) (object_at b.small.graph n)) (unlike n set.name other))
    (ap (λ (z : LargeState). z.large) set.after)

-- ---- what is reached after a store

module _ (u b w : LargeState) (root i source : ℕ) (settled : Settled u b) (set : SetReference b w root i source) where
  -- another register reaches what it reached
  reached_beside : (r : ℕ) (n : Name) → ReachApart b r root → IsReachedBy w r n → IsReachedBy b r n
  reached_beside r n apart = reached_over b w r r n (ap (λ (z : LargeState). register_at z.small 1 r) set.after) (λ m held. ap refs_of (kept m held))
    where
      kept : (m : Name) → register_at b.small 1 r ≡ Some m → object_at w.small.graph m ≡ object_at b.small.graph m
      kept m held =
          object_now u b root i source settled w set m
          ∙ ap (λ c. cond c (Some (record set.object { refs = slice_set set.object.refs i (register_at b.small 1 source) })) (object_at b.small.graph m))
          (unlike m set.name (λ same. apart m (inl held) (inl (set.held ∙ ap (λ q. Some q) (sym same)))))

  -- and this one what it reached, or what was stored
  reached_stored : (n : Name) → IsReachedBy w root n → IsReachedBy b root n ⊎ (register_at b.small 1 source ≡ Some n)
  reached_stored n (inl held) = inl (inl (sym (ap (λ (z : LargeState). register_at z.small 1 root) set.after) ∙ held))
  reached_stored n (inr (m, j, held, read)) = at_index (cases_eq j i)
    where
      v : Option Name
      v = register_at b.small 1 source

      same : m ≡ set.name
      same = same_Some m set.name (sym held ∙ held_now u b root i source settled w set)

      now : slice_get (slice_set set.object.refs i v) j ≡ Some (Some n)
      now = ap (λ o. slice_get (refs_of o) j) (sym (changed_now u b root i source settled w set)) ∙ ap (λ q. slice_get (refs_of (object_at w.small.graph q)) j) (sym same) ∙ read

      at_index : (j ≡ i) ⊎ (j ≢ i) → IsReachedBy b root n ⊎ (v ≡ Some n)
      at_index (inl last) =
          inr (same_Some v (Some n) (sym (slice_get-set set.object.refs i v j set.within ∙ ap (λ c. cond c (Some v) (slice_get set.object.refs j)) (eq-eqb j i last)) ∙ now))
      at_index (inr differs) =
          inl (inr (set.name, j, set.held, ap (λ o. slice_get (refs_of o) j) set.there ∙ sym (slice_get-set set.object.refs i v j set.within ∙ ap (λ c. cond c (Some v) (slice_get set.object.refs j)) (ne_eqb j i differs)) ∙ now))

  apart_stored : (r : ℕ) → ReachApart b r root → ReachApart b r source → ReachApart w r root
  apart_stored r beside new n one two = elim (reached_stored n two) [
    | inl had ↦ beside n (reached_beside r n beside one) had
    | inr stored ↦ new n (reached_beside r n beside one) (inl stored)
  ]

-- ---- the operations

put_is : (s : LargeState) (base value word : ℕ) (root : Name) (o : Object) → register_at s.small 1 base ≡ Some root → object_at s.small.graph root ≡ Some o → slice_get o.values 0 ≡ Some word
    → (large_step s (large_op.Small (op.Put base 0 value))).0 ≡ record s { small = record s.small { graph = with_value s.small.graph root 0 value (Some o) } }
put_is s base value word root o held there read =
    ap (λ q. record s { small = (put_to s.small 0 value q).0 }) held
    ∙ ap (λ q. record s { small = (put_at s.small root 0 value q).0 }) (ap (λ p. slice_get (values_of p) 0) there ∙ read)
    ∙ ap (λ p. record s { small = record s.small { graph = with_value s.small.graph root 0 value p } }) there

put_last : (x y : HostHeap) (h k : List LargeItem) (base value : ℕ) → IsHostOf x h → Runs x h (put_of base 0 value ∷ []) y k code.Done
    → IsHostOf y k × (large_state k ≡ (large_step (large_state h) (large_op.Small (op.Put base 0 value))).0)
put_last x y h k base value is (m, j, t, (r, replies, left, told), inl (done, (same, behind, end))) =
    let host : IsHostOf m j = performs_host x m h j (put_of base 0 value) t is (r, replies, left, told) in
    (subst (IsHostOf y) (sym behind) (subst (λ (z : HostHeap). IsHostOf z j) (sym same) host), ap large_state behind ∙ ap large_state left)
put_last x y h k base value is (m, j, t, performs, inr (failed, same, left, told)) = absurd (failed (sym told))

move_last : (x y : HostHeap) (h k : List LargeItem) (dest source : ℕ) → IsHostOf x h → Runs x h (move_of dest source ∷ []) y k code.Done
    → IsHostOf y k × (large_state k ≡ record (large_state h) { small = with_register (large_state h).small 1 dest (register_at (large_state h).small 1 source) })
move_last x y h k dest source is (m, j, t, (r, replies, left, told), inl (done, (same, behind, end))) =
    let host : IsHostOf m j = performs_host x m h j (move_of dest source) t is (r, replies, left, told) in
    (subst (IsHostOf y) (sym behind) (subst (λ (z : HostHeap). IsHostOf z j) (sym same) host), ap large_state behind ∙ ap large_state left)
move_last x y h k dest source is (m, j, t, performs, inr (failed, same, left, told)) = absurd (failed (sym told))

module _ (own : OwnRegisters) (elements total : ℕ) (apart : own.first ≢ own.second) (few : own.first < REGISTERS) (room : own.second < REGISTERS) where
  -- so many parts were made, and what else there is is as it was
  abbrev HasParts : ℕ → LargeState → ℕ → LargeState → Type 0
  HasParts registers s n u = Parts own elements total n u × Beside registers s u × IsApart registers own.first u

  part_rounds : (registers : ℕ) (s : LargeState) (x y : HostHeap) (h k : List LargeItem) (n : ℕ) → registers ≤ own.second → IsHostOf x h → n ≤ total → HasParts registers s 0 (large_state h)
      → Runs x h (in_turn (part_steps own elements) n) y k code.Done → HasParts registers s n (large_state k)
  part_rounds registers s x y h k zero more is within had (same, left, done) = subst (λ l. HasParts registers s 0 (large_state l)) (sym left) had
  part_rounds registers s x y h k (suc n) more is within had ran =
      let (m, j, before, last) = runs_apart x y h k (in_turn (part_steps own elements) n) (part_steps own elements n) ran in
      let (parts, beside, apart_before) = part_rounds registers s x m h j n more is (omega (arith, within)) had before in
      let host = runs_host x m h j (in_turn (part_steps own elements) n) code.Done is before in
      let new = make_first m y j k own.second (part_length elements n) 0 (store_of own.first n own.second ∷ []) host last in
      let shape : Shape = part_shape elements n in
      let b = new.before in
      let w : LargeState = large_state new.history in
      let made = parts_new own elements total n b w shape apart (parts_settled own elements total n (large_state j) b parts new.settled) new.made in
      let one = store_first new.heap y new.history k own.first n own.second [] new.host new.rest in
      let c = one.before in
      let v : LargeState = large_state one.history in
      let part = held_settled own elements total n w c own.second shape (next b w own.second shape new.made, new_held b w own.second shape new.made room, new_object b w own.second shape new.made) one.settled in
      let second_apart : (r : ℕ) → r < registers → r ≢ own.second = λ r less e. omega (arith, e, less, more) in
      let kept = beside_settled registers s w c (beside_new registers own.second s b w shape more new.there (beside_settled registers s (large_state j) b beside new.settled) new.made) one.settled in
      let apart_now : IsApart registers own.first c = λ r less.
      apart_settled w c one.settled r own.first
      (λ q to from. apart_settled (large_state j) b new.settled r own.first (apart_before r less) q (reached_old b w own.second shape new.made r q (second_apart r less) new.there to) (reached_old b w own.second shape new.made own.first q apart new.there from)) in
      let new_now : (r : ℕ) → r ≢ own.second → ReachApart c r own.second = λ r differs. apart_settled w c one.settled r own.second (new_apart b w own.second shape new.made room new.there r differs) in
      subst (λ l. HasParts registers s (suc n) (large_state l)) (sym one.rest.1) (
        part_stored own elements total n w c v (omega (arith, within)) (new_now own.first apart) (parts_settled own elements total n w c made one.settled) part one.settled one.set,
        beside_stored registers own.first n own.second s w c v apart_now kept one.settled one.set,
        λ r less. apart_stored w c v own.first n own.second one.settled one.set r (apart_now r less) (new_now r (second_apart r less)),
      )

  root_begun : (registers : ℕ) (x y : HostHeap) (h k : List LargeItem) → registers ≤ own.first → IsHostOf x h → Runs x h (new_of own.first total 1 ∷ put_of own.first 0 elements ∷ []) y k code.Done
      → HasParts registers (large_state h) 0 (large_state k)
  root_begun registers x y h k more is ran =
      let shape : Shape = record { refs = total; values = 1 } in
      let new = make_first x y h k own.first total 1 (put_of own.first 0 elements ∷ []) is ran in
      let b = new.before in
      let w : LargeState = large_state new.history in
      let put = put_last new.heap y new.history k own.first elements new.host new.rest in
      let root = next b w own.first shape new.made in
      let held = new_held b w own.first shape new.made few in
      let there = new_object b w own.first shape new.made in
      let after = put.1 ∙ put_is w own.first elements 0 root (fresh shape) held there refl in
      let changed : Object = record (fresh shape) { values = elements ∷ [] } in
      let register_is : (r : ℕ) → register_at (large_state k).small 1 r ≡ register_at w.small 1 r = λ r. ap (λ (z : LargeState). register_at z.small 1 r) after in
      let object_is : (n : Name) → object_at (large_state k).small.graph n ≡ cond (same_name n root) (Some changed) (object_at w.small.graph n) =
      λ n. ap (λ (z : LargeState). object_at z.small.graph n) after ∙ object_at-with_value w.small.graph root 0 elements (fresh shape) n there in
      let first_apart : (r : ℕ) → r < registers → r ≢ own.first = λ r less e. omega (arith, e, less, more) in
      let apart_new : IsApart registers own.first w = λ r less. new_apart b w own.first shape new.made few new.there r (first_apart r less) in
      let unlike_root : (r : ℕ) (n : Name) → r < registers → register_at w.small 1 r ≡ Some n → object_at (large_state k).small.graph n ≡ object_at w.small.graph n =
      λ r n less e. object_is n ∙ ap (λ c. cond c (Some changed) (object_at w.small.graph n)) (unlike n root (λ same. apart_new r less n (inl e) (inl (held ∙ ap (λ q. Some q) (sym same))))) in
      let now : object_at (large_state k).small.graph root ≡ Some changed = object_is root ∙ ap (λ c. cond c (Some changed) (object_at w.small.graph root)) (same_itself root) in
      let same_root : (m : Name) → register_at w.small 1 own.first ≡ Some m → refs_of (object_at (large_state k).small.graph m) ≡ refs_of (object_at w.small.graph m) =
      λ m e. subst (λ q. refs_of (object_at (large_state k).small.graph q) ≡ refs_of (object_at w.small.graph q)) (same_Some root m (sym held ∙ e)) (ap refs_of now ∙ sym (ap refs_of there)) in
      let s : LargeState = large_state h in (
        record {
          root = root;
          object = changed;
          held = register_is own.first ∙ held;
          there = now;
          values = refl;
          long = length-replicate total None;
          parts = λ k less. absurd (omega (arith, less));
          distinct = λ i j p less. absurd (omega (arith, less));
        },
        beside_over registers s w (large_state k) (beside_new registers own.first s b w shape more new.there (beside_settled registers s s b (beside_same registers s) new.settled) new.made)
            (λ r less. register_is r)
            unlike_root
            (ap (λ (z : LargeState). z.large) after),
        λ r less n one two. apart_new r less n (reached_over w (large_state k) r r n (register_is r) (λ m e. ap refs_of (unlike_root r m less e)) one) (reached_over w (large_state k) own.first own.first n (register_is own.first) same_root two),
      )

-- ---- the elements

map_nils : (f : ℕ → Option Name) → ((i : ℕ) → f i ≡ None) → (a n : ℕ) → map f (range_with_len a n) ≡ replicate n None
map_nils f nils a zero = refl
map_nils f nils a (suc n) = ap (λ v. v ∷ map f (range_with_len (a + 1) n)) (nils a) ∙ ap (λ vs. None ∷ vs) (map_nils f nils (a + 1) n)

element_nil : (own : OwnRegisters) (elements total : ℕ) (u : LargeState) (parts : Parts own elements total total u) (i : ℕ) → element_in u.small.graph parts.object.refs i ≡ None
element_nil own elements total u parts i =
    let refs = parts.object.refs in
    let long = parts.long in
    elim (cases_lt (i / 1023) (length refs)) [
      | inl less ↦
          let (p, read, found) = parts.parts (i / 1023) (omega (arith, less, long)) in
          ap (λ v. slice_index_or (references_of u.small.graph v) (i % 1023) None) (get_or_from_slice_get refs (i / 1023) (Some p) None read)
          ∙ ap (λ o. slice_index_or (refs_of o) (i % 1023) None) found ∙ nil_at (part_length elements (i / 1023)) (i % 1023)
      | inr over ↦ ap (λ v. slice_index_or (references_of u.small.graph v) (i % 1023) None) (get_or_past refs (i / 1023) None over) ∙ get_or_past [] (i % 1023) None (omega arith)
    ]

root_nils : (own : OwnRegisters) (elements dest : ℕ) (u w : LargeState) (parts : Parts own elements ((elements + 1023 - 1) / 1023) ((elements + 1023 - 1) / 1023) u) → elements ≤ 1046529
    → w.small.graph ≡ u.small.graph → register_at w.small 1 dest ≡ Some parts.root → elements_at w dest ≡ Some (replicate elements None)
root_nils own elements dest u w parts most same held =
    let refs = parts.object.refs in
    let long = parts.long in
    let there : object_at w.small.graph parts.root ≡ Some parts.object = ap (λ g. object_at g parts.root) same ∙ parts.there in
    let references : references_in w dest ≡ Some refs = ap (option_map (λ n. refs_of (object_at w.small.graph n))) held ∙ ap (λ o. Some (refs_of o)) there in
    let words : words_in w dest ≡ Some (elements ∷ []) = ap (option_map (λ n. values_of (object_at w.small.graph n))) held ∙ ap (λ o. Some (values_of o)) there ∙ ap (λ vs. Some vs) parts.values in
    let small : min elements 1046529 ≡ elements = omega (arith, most) in
    let root : root_length w dest ≡ Some elements = ap (λ ws. option_map (λ n. min n 1046529) (slice_get (unwrap_or ws []) 0)) words ∙ ap (λ n. Some n) small in
    let all : min elements (1023 * length refs) ≡ elements = omega (arith, long) in
    ap (λ r. option_map (λ vs. elements_of w.small.graph vs r) (references_in w dest)) root ∙ ap (option_map (λ vs. elements_of w.small.graph vs (Some elements))) references
    ∙ ap (λ g. Some (elements_of g refs (Some elements))) same
    ∙ ap (λ vs. Some vs) (map_nils (element_in u.small.graph refs) (element_nil own elements ((elements + 1023 - 1) / 1023) u parts) 0 (min elements (1023 * length refs)) ∙ ap (λ n. replicate n None) all)

-- the register refers to its parts
root_refs : (own : OwnRegisters) (elements total dest : ℕ) (u w : LargeState) (parts : Parts own elements total total u) → w.small.graph ≡ u.small.graph → register_at w.small 1 dest ≡ register_at u.small 1 own.first
    → references_in w dest ≡ Some parts.object.refs
root_refs own elements total dest u w parts same held =
    ap (option_map (λ n. refs_of (object_at w.small.graph n))) (held ∙ parts.held) ∙ ap (λ g. Some (refs_of (object_at g parts.root))) same ∙ ap (λ o. Some (refs_of o)) parts.there

-- each of them has its place
root_places : (own : OwnRegisters) (elements dest : ℕ) (u w : LargeState) → Parts own elements ((elements + 1023 - 1) / 1023) ((elements + 1023 - 1) / 1023) u → w.small.graph ≡ u.small.graph
    → register_at w.small 1 dest ≡ register_at u.small 1 own.first → (i : ℕ) → i < elements → slice_get (references_of w.small.graph (part_at w dest i)) (i % 1023) ≡ Some None
root_places own elements dest u w parts same held i less =
    let refs = parts.object.refs in
    let n : ℕ = part_length elements (i / 1023) in
    let nils : List (Option Name) = replicate n None in
    let (p, read, found) = parts.parts (i / 1023) (omega (arith, less)) in
    let part : part_at w dest i ≡ Some p = ap (λ v. slice_index_or (unwrap_or v []) (i / 1023) None) (root_refs own elements ((elements + 1023 - 1) / 1023) dest u w parts same held)
    ∙ get_or_from_slice_get refs (i / 1023) (Some p) None read in
    let within : i % 1023 < n = omega (arith, less) in
    let long : length nils ≡ n = length-replicate n None in
    ap (λ v. slice_get (references_of w.small.graph v) (i % 1023)) part ∙ ap (λ g. slice_get (refs_of (object_at g p)) (i % 1023)) same ∙ ap (λ o. slice_get (refs_of o) (i % 1023)) found
    ∙ slice_get-get_or nils (i % 1023) None (omega (arith, within, long)) ∙ ap (λ v. Some v) (get_or-replicate n (i % 1023) None None within)

-- its parts are its own
root_own : (own : OwnRegisters) (elements total dest : ℕ) (u w : LargeState) → Parts own elements total total u → w.small.graph ≡ u.small.graph
    → register_at w.small 1 dest ≡ register_at u.small 1 own.first → HasOwnParts w dest
root_own own elements total dest u w parts same held = record {
  distinct = λ i j n one two.
      let (less, read) = part_read i n one in
      let (few, found) = part_read j n two in
      parts.distinct i j n less few read found;
  apart = λ i n one root.
      let (less, read) = part_read i n one in
      let (p, is, there) = parts.parts i less in
      let same_part : n ≡ p = same_Some n p (same_Some (Some n) (Some p) (sym read ∙ is)) in
      let same_root : parts.root ≡ n = same_Some parts.root n (sym parts.held ∙ sym held ∙ root) in
      let object : fresh (part_shape elements i) ≡ parts.object = same_Some _ _ (sym there ∙ ap (object_at u.small.graph) (sym same_part ∙ sym same_root) ∙ parts.there) in
      let none : [] ≡ elements ∷ [] = ap (λ (o : Object). o.values) object ∙ parts.values in
      absurd (cc);
}
  where
    part_read : (i : ℕ) (n : Name) → part_of w dest i ≡ Some n → (i < total) × (slice_get parts.object.refs i ≡ Some (Some n))
    part_read i n one =
        let read = found_at parts.object.refs i n (ap (λ v. slice_index_or (unwrap_or v []) i None) (sym (root_refs own elements total dest u w parts same held)) ∙ one) in
        let long = parts.long in
        let within = slice_get_within parts.object.refs i (Some n) read in
        (omega (arith, within, long), read)

-- ---- the call

rooted : (x m y : HostHeap) (h j k : List LargeItem) (wanted : NewArray) (own : OwnRegisters) → IsHostOf x h → IsNewArray (registers_in x) wanted → own_in x ≡ Some own
    → Runs x h (root_steps own wanted.length ++ move_of wanted.dest own.first ∷ []) m j code.Done → Runs m j (own_nil own) y k code.Done
    → (l : List LargeItem) × IsHostOf y l × HasMadeRoot (registers_in x) wanted (large_state h) (large_state l)
rooted x m y h j k wanted own is (small, most) has ran ended =
    let few = few_registers x h is in
    let one = own_first x own has in
    let two = own_second x own has in
    let (a, b) = own_there x own has in
    let total : ℕ = (wanted.length + 1023 - 1) / 1023 in
    let begin : List Asked = new_of own.first total 1 ∷ put_of own.first 0 wanted.length ∷ [] in
    let turns : List Asked = in_turn (part_steps own wanted.length) total in
    let (m1, j1, made, moved) = runs_apart x m h j (begin ++ turns) (move_of wanted.dest own.first ∷ []) ran in
    let (m2, j2, begun, rounds) = runs_apart x m1 h j1 begin turns made in
    let host2 = runs_host x m2 h j2 begin code.Done is begun in
    let host1 = runs_host x m1 h j1 (begin ++ turns) code.Done is made in
    let differ : own.first ≢ own.second = λ e. omega (arith, e, one, two) in
    let low : own.first < REGISTERS = omega (arith, few, a) in
    let high : own.second < REGISTERS = omega (arith, few, b) in
    let (parts, beside, apart) =
    part_rounds own wanted.length total differ low high (registers_in x) (large_state h) m2 m1 j2 j1 total (omega (arith, two)) host2 (omega arith)
    (root_begun own wanted.length total differ low high (registers_in x) x m2 h j2 (omega (arith, one)) is begun) rounds in
    let move = move_last m1 m j1 j wanted.dest own.first host1 moved in
    let (p, l, before, last) = runs_apart m y j k (nil_of own.first ∷ []) (nil_of own.second ∷ []) ended in
    let once = nil_last m p j l own.first move.0 before in
    let twice = nil_last p y l k own.second once.0 last in
    let u : LargeState = large_state j1 in
    let w1 : LargeState = record u { small = with_register u.small 1 wanted.dest (register_at u.small 1 own.first) } in
    let w2 : LargeState = record w1 { small = with_register w1.small 1 own.first None } in
    let w : LargeState = record w2 { small = with_register w2.small 1 own.second None } in
    let is_w : large_state k ≡ w = twice.1 ∙ ap (λ (z : LargeState). record z { small = with_register z.small 1 own.second None }) (once.1 ∙ ap (λ (z : LargeState). record z { small = with_register z.small 1 own.first None }) move.1) in
    let no_first : wanted.dest ≢ own.first = λ e. omega (arith, e, one, small) in
    let no_second : wanted.dest ≢ own.second = λ e. omega (arith, e, two, small) in
    let held : register_at w.small 1 wanted.dest ≡ Some parts.root =
    other_register w2.small own.second wanted.dest None no_second ∙ other_register w1.small own.first wanted.dest None no_first
    ∙ changed_register u.small wanted.dest (register_at u.small 1 own.first) (all_registers m1.heap j1 host1.heap) (omega (arith, few, small)) ∙ parts.held in
    let same : (r : ℕ) → r < registers_in x → r ≢ wanted.dest → register_at w.small 1 r ≡ register_at u.small 1 r =
    λ r less other.
    other_register w2.small own.second r None (λ e. omega (arith, e, two, less)) ∙ other_register w1.small own.first r None (λ e. omega (arith, e, one, less))
    ∙ other_register u.small wanted.dest r (register_at u.small 1 own.first) other in
    let clear : (r : ℕ) → r < registers_in x → r ≢ wanted.dest → ReachApart w r wanted.dest =
    λ r less other n one two. apart r less n (reached_over u w r r n (same r less other) (λ m e. refl) one) (reached_over u w wanted.dest own.first n (held ∙ sym parts.held) (λ m e. refl) two) in (
      k,
      twice.0,
      subst (HasMadeRoot (registers_in x) wanted (large_state h)) (sym is_w) (record {
        elements = root_nils own wanted.length wanted.dest u w parts most refl held;
        places = root_places own wanted.length wanted.dest u w parts refl (held ∙ sym parts.held);
        renewals = beside.renewals;
        held = λ r less other. same r less other ∙ beside.held r less;
        references = λ r less other. same_fields refs_of u w r (same r less other) (λ n e. refl) ∙ beside.references r less;
        words = λ r less other. same_fields values_of u w r (same r less other) (λ n e. refl) ∙ beside.words r less;
        own = root_own own wanted.length total wanted.dest u w parts refl (held ∙ sym parts.held);
        apart = λ r less other. let none = clear r less other in (apart_roots w wanted.dest r (λ n one two. none n two one), apart_roots w r wanted.dest none);
        others = λ r less other was. own_over u w r (same r less other) (same_fields refs_of u w r (same r less other) (λ n e. refl)) (beside.own r less was);
        pairs = λ q r less few other differs are. apart_over u w q r (same_fields refs_of u w q (same q less other) (λ n e. refl)) (same r few differs) (same_fields refs_of u w r (same r few differs) (λ n e. refl)) (beside.pairs q r less few are);
        bodies = beside.bodies;
      }),
    )

pub new_roots_have_nils : NewRootsHaveNils
new_roots_have_nils x y h wanted is fits large carried =
    at_own (own_in x) refl (subst (λ b. Carries x y h (if b then Ok (record { steps = new_of wanted.dest wanted.length 0 ∷ []; last = [] }) else parts_plan (own_in x) wanted) code.Done) (lt-leb wanted.length 1023 large) carried)
  where
    at_own : (own : Option OwnRegisters) → own_in x ≡ own → Carries x y h (parts_plan own wanted) code.Done → (l : List LargeItem) × IsHostOf y l × HasMadeRoot (registers_in x) wanted (large_state h) (large_state l)
    at_own None none (told, same) = absurd (cc)
    at_own (Some own) there (m, j, k, ran, ended) = rooted x m y h j k wanted own is fits there ran ended
