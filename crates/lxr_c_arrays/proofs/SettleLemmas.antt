-- What settling leaves of what registers hold: the same, by new names where names were renewed.
use Rattle.std.proofs.Common.{◌≡◌, ℕ, ◌∙◌, refl, sym, ap, subst, inl, inr, Bool, Option, Some, None, List, [], ◌∷◌, ◌++◌, map}
use Rattle.std.proofs.Math.ListN.{get_or-map}
use Rattle.std.proofs.lemmas.List.{append-nil, map-id}
use Rattle.std.proofs.lemmas.Option.{same_Some}
use Rattle.std.specs.Prelude.{◌⊎◌, IsTrue, filter, option_map, slice_get}
use Rattle.lxr_layout.specs.declared.Name.{Name}
use Rattle.lxr_graph.specs.Names.{AreInOrder, has}
use Rattle.lxr_graph.specs.Renewing.{renewed_graph, renewed_name, renewed_held, renewed_object}
use Rattle.lxr_graph.specs.State.{Object, State, object_at, refs_of, register_at, register_index, values_of, world_name}
use Rattle.lxr_invariant.specs.AbstractState.{members}
use Rattle.lxr_core_invariant.proofs.HeldLemmas.{IsHeld, in_register, reference_held}
use Rattle.lxr_renew.proofs.NameLemmas.{one_to_one}
use Rattle.lxr_renew.proofs.StateLemmas.{object_renewed, refs_renewed}
use Rattle.lxr_large_model.specs.declared.LargeOp.{LargeOp}
use Rattle.lxr_large_model.specs.History.{LargeItem, Renewed, large_moment, large_state}
use Rattle.lxr_large_model.specs.Renewing.{renewed_body}
use Rattle.lxr_large_model.specs.State.{Large, LargeState}
use Rattle.lxr_heap.specs.declared.heap.Heap.{Heap}
use Rattle.lxr_heap.specs.Holding.{IsHeapOf}
use Rattle.lxr_c_heap.specs.declared.host.Ends.{Ends}
use Rattle.lxr_c_heap.specs.declared.host.HostHeap.{HostHeap}
use Rattle.lxr_c_heap.specs.Hosting.{IsDue, PausesFor, PausesWhere, SettlesAt, Turns, behind_pause, exceeds_room}
use Rattle.lxr_c_many.specs.Fields.{references_in, words_in}
use Rattle.lxr_c_arrays.specs.Elements.{CanReach, as_named, by_reference, by_register, references_of, with_names, words_of}

-- an object, with its references by new names where names were renewed
abbrev pub named_object : Option (List Name) → Object → Object
named_object None o = o
named_object (Some ns) o = record { refs = map (renewed_held ns) o.refs; values = o.values }

-- a state has an object under the name that another name has become
abbrev pub HasNamed : Option (List Name) → LargeState → Name → Object → Type 0
HasNamed names b n o = (m : Name) × (as_named names (Some n) ≡ Some m) × (object_at b.small.graph m ≡ Some (named_object names o))

-- a register holds a name, or what it refers to refers to it
abbrev pub IsReachedBy : LargeState → ℕ → Name → Type 0
IsReachedBy s r q = (register_at s.small 1 r ≡ Some q) ⊎ ((n : Name) × (i : ℕ) × (register_at s.small 1 r ≡ Some n) × (slice_get (refs_of (object_at s.small.graph n)) i ≡ Some (Some q)))

-- some register does
abbrev pub IsReached : LargeState → Name → Type 0
IsReached s q = (r : ℕ) × IsReachedBy s r q

-- A state has what another one has, by new names where names were renewed.
pub record Settled (s b : LargeState) : Type 0 where
  pub names : Option (List Name)
  pub state : b ≡ with_names names s
  pub registers : (r : ℕ) → register_at b.small 1 r ≡ as_named names (register_at s.small 1 r)
  pub references : (r : ℕ) → references_in b r ≡ option_map (map (as_named names)) (references_in s r)
  pub words : (r : ℕ) → words_in b r ≡ words_in s r
  pub object : (r : ℕ) (n : Name) (o : Object) → register_at s.small 1 r ≡ Some n → object_at s.small.graph n ≡ Some o → HasNamed names b n o
  pub part : (r i : ℕ) (n q : Name) (o p : Object) → register_at s.small 1 r ≡ Some n → object_at s.small.graph n ≡ Some o → slice_get o.refs i ≡ Some (Some q) → object_at s.small.graph q ≡ Some p → HasNamed names b q p
  pub apart : (q r : ℕ) → register_at b.small 1 q ≡ register_at b.small 1 r → register_at s.small 1 q ≡ register_at s.small 1 r
  pub one : (m n : Name) → IsReached s m → IsReached s n → as_named names (Some m) ≡ as_named names (Some n) → m ≡ n
  pub refs : (q : Name) → IsReached s q → references_of b.small.graph (as_named names (Some q)) ≡ map (as_named names) (references_of s.small.graph (Some q))
  pub one_reached : (j k : ℕ) (m n : Name) → CanReach j s m → CanReach k s n → as_named names (Some m) ≡ as_named names (Some n) → m ≡ n
  pub refs_reached : (k : ℕ) (n : Name) → CanReach k s n → references_of b.small.graph (as_named names (Some n)) ≡ map (as_named names) (references_of s.small.graph (Some n))
  pub words_reached : (k : ℕ) (n : Name) → CanReach k s n → words_of b.small.graph (as_named names (Some n)) ≡ words_of s.small.graph (Some n)

pub same_references : (v : Option (List (Option Name))) → v ≡ option_map (map (λ (q : Option Name). q)) v
same_references None = refl
same_references (Some vs) = ap Some (sym (map-id vs))

pub settled_same : (s : LargeState) → Settled s s
settled_same s = record { names = None; state = refl; registers = λ r. refl; references = λ r. same_references (references_in s r); words = λ r. refl; object = λ r n o held there. (n, refl, there); part = λ r i n q o p held there read found. (q, refl, found); apart = λ q r same. same; one = λ m n there here e. same_Some m n e; refs = λ q there. sym (map-id (references_of s.small.graph (Some q))); one_reached = λ j k m n there here e. same_Some m n e; refs_reached = λ k n there. sym (map-id (references_of s.small.graph (Some n))); words_reached = λ k n there. refl }

module _ (x y : Heap) (h : List LargeItem) (ns : List Name) (is : IsHeapOf x h) (after : IsHeapOf y (Renewed ns ∷ h)) where
  order : AreInOrder (world_name ∷ ns)
  order = subst AreInOrder after.legal.1.names is.follows.unreclaimed

  -- a member is left
  member_left : (n : Name) → IsTrue (has (members (large_moment h)) n) → IsTrue (has (world_name ∷ ns) n)
  member_left n member =
      let none_made : (large_moment h).made ≡ [] = (is.collected after.legal.1.fresh).made in
      subst (λ us. IsTrue (has us n))
      (ap (λ us. us ++ (large_moment h).made) after.legal.1.names ∙ ap (λ made. (world_name ∷ ns) ++ made) none_made ∙ append-nil (world_name ∷ ns)) member

  -- what a register holds is one
  member_held : (r : ℕ) (n : Name) → register_at (large_state h).small 1 r ≡ Some n → IsTrue (has (members (large_moment h)) n)
  member_held r n e =
      let held : register_at (large_moment h).state 1 r ≡ Some n = ap (λ (s : State). register_at s 1 r) is.state ∙ e in
      subst (IsHeld (large_moment h)) held (in_register (large_moment h) 1 r is.follows)

  left : (r : ℕ) (n : Name) → register_at (large_state h).small 1 r ≡ Some n → IsTrue (has (world_name ∷ ns) n)
  left r n e = member_left n (member_held r n e)

  -- a member's object is there under the new name
  object_anew : (n : Name) (o : Object) → IsTrue (has (world_name ∷ ns) n) → object_at (large_state h).small.graph n ≡ Some o → HasNamed (Some ns) (large_state (Renewed ns ∷ h)) n o
  object_anew n o has there = (renewed_name ns n, refl, object_renewed ns order 1 (large_state h).small.graph n has ∙ ap (λ q. Some (renewed_object ns q)) there)

  part_left : (r i : ℕ) (n q : Name) (o : Object) → register_at (large_state h).small 1 r ≡ Some n → object_at (large_state h).small.graph n ≡ Some o → slice_get o.refs i ≡ Some (Some q) → IsTrue (has (world_name ∷ ns) q)
  part_left r i n q o held there read =
      member_left q (reference_held (large_moment h) n o i (Some q) is.follows (member_held r n held) (ap (λ (s : State). object_at s.graph n) is.state ∙ there) read)

  register_renewed : (r : ℕ) → register_at (large_state (Renewed ns ∷ h)).small 1 r ≡ renewed_held ns (register_at (large_state h).small 1 r)
  register_renewed r = get_or-map (renewed_held ns) (large_state h).small.registers (register_index 1 r) None

  references_renewed : (r : ℕ) → references_in (large_state (Renewed ns ∷ h)) r ≡ option_map (map (renewed_held ns)) (references_in (large_state h) r)
  references_renewed r = at_held (register_at (large_state h).small 1 r) refl
    where
      at_held : (v : Option Name) → register_at (large_state h).small 1 r ≡ v → references_in (large_state (Renewed ns ∷ h)) r ≡ option_map (map (renewed_held ns)) (option_map (λ n. refs_of (object_at (large_state h).small.graph n)) v)
      at_held None e = ap (option_map (λ n. refs_of (object_at (large_state (Renewed ns ∷ h)).small.graph n))) (register_renewed r ∙ ap (renewed_held ns) e)
      at_held (Some n) e =
          ap (option_map (λ m. refs_of (object_at (large_state (Renewed ns ∷ h)).small.graph m))) (register_renewed r ∙ ap (renewed_held ns) e)
          ∙ ap (λ o. Some (refs_of o)) (object_renewed ns order 1 (large_state h).small.graph n (left r n e))

  words_renewed : (r : ℕ) → words_in (large_state (Renewed ns ∷ h)) r ≡ words_in (large_state h) r
  words_renewed r = at_held (register_at (large_state h).small 1 r) refl ∙ refl
    where
      at_held : (v : Option Name) → register_at (large_state h).small 1 r ≡ v → words_in (large_state (Renewed ns ∷ h)) r ≡ words_in (large_state h) r
      at_held None e = ap (option_map (λ n. values_of (object_at (large_state (Renewed ns ∷ h)).small.graph n))) (register_renewed r ∙ ap (renewed_held ns) e)
          ∙ sym (ap (option_map (λ n. values_of (object_at (large_state h).small.graph n))) e)
      at_held (Some n) e =
          ap (option_map (λ m. values_of (object_at (large_state (Renewed ns ∷ h)).small.graph m))) (register_renewed r ∙ ap (renewed_held ns) e)
          ∙ ap (λ o. Some (values_of o)) (object_renewed ns order 1 (large_state h).small.graph n (left r n e))
          ∙ sym (ap (option_map (λ m. values_of (object_at (large_state h).small.graph m))) e)

  -- registers that held different names do so
  apart_renewed : (q r : ℕ) → register_at (large_state (Renewed ns ∷ h)).small 1 q ≡ register_at (large_state (Renewed ns ∷ h)).small 1 r → register_at (large_state h).small 1 q ≡ register_at (large_state h).small 1 r
  apart_renewed q r same = at_held (register_at (large_state h).small 1 q) (register_at (large_state h).small 1 r) refl refl (sym (register_renewed q) ∙ same ∙ register_renewed r)
    where
      at_held : (v w : Option Name) → register_at (large_state h).small 1 q ≡ v → register_at (large_state h).small 1 r ≡ w → renewed_held ns (register_at (large_state h).small 1 q) ≡ renewed_held ns (register_at (large_state h).small 1 r)
          → register_at (large_state h).small 1 q ≡ register_at (large_state h).small 1 r
      at_held None None e f now = e ∙ sym f
      at_held None (Some n) e f now = let other : renewed_held ns None ≡ renewed_held ns (Some n) = sym (ap (renewed_held ns) e) ∙ now ∙ ap (renewed_held ns) f in absurd (cc)
      at_held (Some m) None e f now = let other : renewed_held ns (Some m) ≡ renewed_held ns None = sym (ap (renewed_held ns) e) ∙ now ∙ ap (renewed_held ns) f in absurd (cc)
      at_held (Some m) (Some n) e f now =
          let other : renewed_held ns (Some m) ≡ renewed_held ns (Some n) = sym (ap (renewed_held ns) e) ∙ now ∙ ap (renewed_held ns) f in
          e ∙ ap (λ a. Some a) (one_to_one ns order m n (left q m e) (left r n f) (same_Some (renewed_name ns m) (renewed_name ns n) other)) ∙ sym f

  reached_left : (q : Name) → IsReached (large_state h) q → IsTrue (has (world_name ∷ ns) q)
  reached_left q (r, inl held) = left r q held
  reached_left q (r, inr (n, i, held, there)) = at_object (object_at (large_state h).small.graph n) refl
    where
      at_object : (o : Option Object) → object_at (large_state h).small.graph n ≡ o → IsTrue (has (world_name ∷ ns) q)
      at_object None none = absurd (let nowhere : slice_get (refs_of None) i ≡ Some (Some q) = subst (λ o. slice_get (refs_of o) i ≡ Some (Some q)) none there in cc)
      at_object (Some o) found = part_left r i n q o held found (subst (λ o. slice_get (refs_of o) i ≡ Some (Some q)) found there)

  -- so is all that registers can reach
  member_reached : (k : ℕ) (n : Name) → CanReach k (large_state h) n → IsTrue (has (members (large_moment h)) n)
  member_reached k q (by_register r n less held) = member_held r n held
  member_reached k q (by_reference m n i reach read) = at_object (object_at (large_state h).small.graph m) refl (member_reached k m reach)
    where
      at_object : (o : Option Object) → object_at (large_state h).small.graph m ≡ o → IsTrue (has (members (large_moment h)) m) → IsTrue (has (members (large_moment h)) n)
      at_object None none member = absurd (let nowhere : slice_get (refs_of None) i ≡ Some (Some n) = subst (λ o. slice_get (refs_of o) i ≡ Some (Some n)) none read in cc)
      at_object (Some o) found member =
          reference_held (large_moment h) m o i (Some n) is.follows member (ap (λ (s : State). object_at s.graph m) is.state ∙ found) (subst (λ o. slice_get (refs_of o) i ≡ Some (Some n)) found read)

  all_left : (k : ℕ) (n : Name) → CanReach k (large_state h) n → IsTrue (has (world_name ∷ ns) n)
  all_left k n reach = member_left n (member_reached k n reach)

  pub settled_anew : Settled (large_state h) (large_state (Renewed ns ∷ h))
  settled_anew = record { names = Some ns; state = refl; registers = register_renewed; references = references_renewed; words = words_renewed; object = λ r n o held there. object_anew n o (left r n held) there; part = λ r i n q o p held there read found. object_anew q p (part_left r i n q o held there read) found; apart = apart_renewed; one = λ m n there here e. one_to_one ns order m n (reached_left m there) (reached_left n here) (same_Some (renewed_name ns m) (renewed_name ns n) e); refs = λ q there. refs_renewed ns order 1 (large_state h).small.graph q (reached_left q there); one_reached = λ j k m n there here e. one_to_one ns order m n (all_left j m there) (all_left k n here) (same_Some (renewed_name ns m) (renewed_name ns n) e); refs_reached = λ k n there. refs_renewed ns order 1 (large_state h).small.graph n (all_left k n there); words_reached = λ k n there. ap values_of (object_renewed ns order 1 (large_state h).small.graph n (all_left k n there)) }

-- so it is where a heap settles
pub settling : (ends : Ends) (x y : HostHeap) (h k : List LargeItem) → SettlesAt ends x h y k → Settled (large_state h) (large_state k)
settling ends x y h k (inl (there, m, paused, renewed)) =
    subst (λ z. Settled (large_state h) (large_state z)) (sym renewed.history)
    (settled_anew m.heap y.heap (behind_pause m h) renewed.heap.names paused.heap.holds renewed.heap.holds)
settling ends x y h k (inr (none, left, same)) = subst (λ z. Settled (large_state h) (large_state z)) (sym same) (settled_same (large_state h))

-- and a pause that an operation needs leaves the state
pub paused_state : (o : LargeOp) (x y : HostHeap) (h k : List LargeItem) → PausesFor o x h y k → large_state k ≡ large_state h
paused_state o x y h k (inl (collect, needs, pauses, same)) = ap large_state same
paused_state o x y h k (inr (none, left, same)) = ap large_state same

-- so does one that is made where there is a cause
pub where_state : (cause : Type 0) (collect : Bool) (x y : HostHeap) (h k : List LargeItem) → PausesWhere cause collect x h y k → large_state k ≡ large_state h
where_state cause collect x y h k (inl (caused, pauses, same)) = ap large_state same
where_state cause collect x y h k (inr (none, left, same)) = ap large_state same

-- so do the slice and the pause that are due before an object is made
pub turned_state : (x y : HostHeap) (h : List LargeItem) → (turns : Turns x h y) → large_state turns.history ≡ large_state h
turned_state x y h turns = where_state (IsDue turns.worked h) (exceeds_room turns.worked) turns.worked y h turns.history turns.pauses

-- names go by what objects and bodies there are
pub named_objects : (names : Option (List Name)) (s u : LargeState) → u.small.graph ≡ s.small.graph → (with_names names u).small.graph ≡ (with_names names s).small.graph
named_objects None s u same = same
named_objects (Some ns) s u same = ap (renewed_graph 1 ns) same

pub named_bodies : (names : Option (List Name)) (s u : LargeState) → u.large ≡ s.large → (with_names names u).large ≡ (with_names names s).large
named_bodies None s u same = same
named_bodies (Some ns) s u same = ap (λ ls. map (renewed_body ns) (filter (λ (l : Large). has ns l.name) ls)) same
