-- The graph under new names: it has the objects of the names that are left, refers as it did, and counts as many references to each.
use Rattle.std.proofs.Common.{◌≡◌, ℕ, zero, suc, ◌+◌, ◌-◌, refl, sym, ap, subst, ◌∙◌, inl, inr, arith, true, cond, List, [], ◌∷◌, IsTrue, length, map, nat_le}
use Rattle.std.specs.Prelude.{Option, Some, None, replicate, slice_get}
use Rattle.std.proofs.lemmas.List.{length-map}
use Rattle.lxr_layout.specs.declared.Name.{Name}
use Rattle.lxr_graph.specs.Names.{AreInOrder, has, same_held}
use Rattle.lxr_graph.specs.State.{Graph, Object, State, object_at, refs_of, shape_of, world_name}
use Rattle.lxr_model.specs.Moments.{Moment}
use Rattle.lxr_model.specs.Reachable.{Holds, Reachable, Refers, held, referred, the_world}
use Rattle.lxr_model.specs.References.{occurrences, references, references_from}
use Rattle.lxr_model.proofs.ReachableLemmas.{reachable_within}
use Rattle.lxr_model_counting.proofs.DistinctLemmas.{first_has, has_split, later_has}
use Rattle.lxr_graph.specs.Renewing.{renewed_graph, renewed_held, renewed_name, renewed_object, renewed_state, serial_in}
use Rattle.lxr_graph.proofs.RowLemmas.{slice_get-mapped}
use Rattle.lxr_large_model.proofs.SerialLemmas.{serial_some, serial_tells}
use Rattle.lxr_renew.proofs.NameLemmas.{has_map, map_has, renewed_one, same_held_renewed}

-- the moment of a pause since which nothing was done
abbrev pub still : State → ℕ → List Name → List Name → Moment
still s number us stuck = record { state = s; last = s; number = number; unreclaimed = us; stuck = stuck; trace = None; made = []; written = [] }

-- ---- lists that are mapped

pub get_map : {A B : Type 0} (f : A → B) (xs : List A) (i : ℕ) (x : A) → slice_get xs i ≡ Some x → slice_get (map f xs) i ≡ Some (f x)
get_map f [] i x e = cc
get_map f (y ∷ ys) zero x e = let same : y ≡ x = cc in ap (λ z. Some (f z)) same
get_map f (y ∷ ys) (suc i) x e = get_map f ys i x e

-- what holds a name holds the new name of one
pub held_get : (ns : List Name) (rs : List (Option Name)) (i : ℕ) (n : Name) → slice_get (map (renewed_held ns) rs) i ≡ Some (Some n) → (v : Name) × (slice_get rs i ≡ Some (Some v)) × (n ≡ renewed_name ns v)
held_get ns rs i n e = let x = slice_get-mapped (renewed_held ns) rs i (Some n) e in by_held x.0 x.1 x.2
  where
    by_held : (r : Option Name) → slice_get rs i ≡ Some r → Some n ≡ renewed_held ns r → (v : Name) × (slice_get rs i ≡ Some (Some v)) × (n ≡ renewed_name ns v)
    by_held None there is = absurd (cc)
    by_held (Some v) there is = (v, there, cc)

-- ---- objects

object_of : (g : Graph) (row : List Object) (n : Name) (k : ℕ) (o : Object) → slice_get row k ≡ Some o → n ≡ record { thread = 1; serial = k + 1 } → (first : List Object) (rest : List (List Object)) → g ≡ first ∷ row ∷ rest → object_at g n ≡ Some o
object_of g row n k o there is first rest rows =
    ap (object_at g) is
    ∙ ap (λ z. object_at z (record { thread = 1; serial = k + 1 })) rows
    ∙ from_row
  where
    from_row : object_at (first ∷ row ∷ rest) (record { thread = 1; serial = k + 1 }) ≡ Some o
    from_row = let one : k + 1 - 1 ≡ k = omega arith in let le : nat_le 1 (k + 1) ≡ true = grind arith in ap (λ b. cond b (slice_get row (k + 1 - 1)) None) le ∙ ap (slice_get row) one ∙ there

module _ (ns : List Name) (order : AreInOrder (world_name ∷ ns)) where
  abbrev rn : Name → Name
  rn = renewed_name ns

  -- the object of a new name is that of the old one, with its references renamed
  pub object_renewed : (threads : ℕ) (g : Graph) (n : Name) → IsTrue (has (world_name ∷ ns) n) → object_at (renewed_graph threads ns g) (rn n) ≡ Some (renewed_object ns (object_at g n))
  object_renewed threads g n h = elim (has_split world_name ns n h) [
    | inl e ↦ ap (λ q. object_at (renewed_graph threads ns g) (rn q)) e ∙ ap (λ q. Some (renewed_object ns (object_at g q))) (sym e)
    | inr k ↦
        let some = serial_some ns n in
        let at : serial_in ns n ≡ serial_in ns n - 1 + 1 = omega (arith, some) in
        object_of (renewed_graph threads ns g) (map (λ q. renewed_object ns (object_at g q)) ns) (rn n) (serial_in ns n - 1) (renewed_object ns (object_at g n))
        (get_map (λ q. renewed_object ns (object_at g q)) ns (serial_in ns n - 1) n (serial_tells ns n k).1)
        (renewed_one ns order n k ∙ ap (λ i. record { thread = 1; serial = i }) at) (renewed_object ns (object_at g world_name) ∷ []) (replicate (threads - 1) []) refl
  ]

  pub refs_renewed : (threads : ℕ) (g : Graph) (n : Name) → IsTrue (has (world_name ∷ ns) n) → refs_of (object_at (renewed_graph threads ns g) (rn n)) ≡ map (renewed_held ns) (refs_of (object_at g n))
  refs_renewed threads g n h = ap refs_of (object_renewed threads g n h)

  pub shape_renewed : (o : Object) → shape_of (renewed_object ns (Some o)) ≡ shape_of o
  shape_renewed o = ap (λ k. record { refs = k; values = length o.values }) (length-map o.refs (renewed_held ns))

  -- ---- a state whose names that are left hold and refer to one another alone

  pub record IsLeft (s : State) : Type 0 where
    pub held : (n : Name) → Holds s n → IsTrue (has (world_name ∷ ns) n)
    pub referred : (u n : Name) → IsTrue (has (world_name ∷ ns) u) → Refers s.graph u n → IsTrue (has (world_name ∷ ns) n)

  abbrev new_names : List Name
  new_names = map rn (world_name ∷ ns)

  -- what registers hold
  pub held_renewed : (threads : ℕ) (s : State) → IsLeft s → (n : Name) → Holds (renewed_state threads ns s) n → IsTrue (has new_names n)
  held_renewed threads s left n (i, e) =
      let x = held_get ns s.registers i n e in
      subst (λ q. IsTrue (has new_names q)) (sym x.2) (has_map rn (world_name ∷ ns) x.0 (left.held x.0 (i, x.1)))

  -- what a new name refers to
  pub refers_renewed : (threads : ℕ) (s : State) (u n : Name) → IsTrue (has (world_name ∷ ns) u) → Refers (renewed_state threads ns s).graph (rn u) n → (v : Name) × Refers s.graph u v × (n ≡ rn v)
  refers_renewed threads s u n h (i, e) =
      let x = held_get ns (refs_of (object_at s.graph u)) i n (sym (ap (λ z. slice_get z i) (refs_renewed threads s.graph u h)) ∙ e) in
      (x.0, (i, x.1), x.2)

  pub referred_renewed : (threads : ℕ) (s : State) → IsLeft s → (u n : Name) → IsTrue (has new_names u) → Refers (renewed_state threads ns s).graph u n → IsTrue (has new_names n)
  referred_renewed threads s left u n h refers =
      let w = map_has rn (world_name ∷ ns) u h in
      let x = refers_renewed threads s w.0 n w.1 (subst (λ q. Refers (renewed_state threads ns s).graph q n) w.2 refers) in
      subst (λ q. IsTrue (has new_names q)) (sym x.2) (has_map rn (world_name ∷ ns) x.0 (left.referred w.0 x.0 w.1 x.1))

  pub reachable_renewed : (threads : ℕ) (s : State) → IsLeft s → (n : Name) → Reachable (renewed_state threads ns s) n → IsTrue (has new_names n)
  reachable_renewed threads s left n reached = reachable_within (renewed_state threads ns s) (has new_names) (record { world = first_has world_name (map rn ns); registers = held_renewed threads s left; references = referred_renewed threads s left }) n reached

  -- what was reachable is so under its new name
  pub reachable_still : (threads : ℕ) (s : State) → IsLeft s → ((n : Name) → Reachable s n → IsTrue (has (world_name ∷ ns) n)) → (n : Name) → Reachable s n → Reachable (renewed_state threads ns s) (rn n)
  reachable_still threads s left within n the_world = the_world
  reachable_still threads s left within n (held (i, e)) = held (i, get_map (renewed_held ns) s.registers i (Some n) e)
  reachable_still threads s left within n (referred {m = m} reached (i, e)) =
      referred (reachable_still threads s left within m reached)
      (i, ap (λ z. slice_get z i) (refs_renewed threads s.graph m (within m reached)) ∙ get_map (renewed_held ns) (refs_of (object_at s.graph m)) i (Some n) e)

  -- ---- references, counted

  occurrences_renewed : (rs : List (Option Name)) (o : Name) → IsTrue (has (world_name ∷ ns) o) → ((i : ℕ) (v : Name) → slice_get rs i ≡ Some (Some v) → IsTrue (has (world_name ∷ ns) v))
      → occurrences (map (renewed_held ns) rs) (rn o) ≡ occurrences rs o
  occurrences_renewed [] o h among = refl
  occurrences_renewed (r ∷ rs) o h among =
      ap (λ b. cond b 1 0 + occurrences (map (renewed_held ns) rs) (rn o)) (same_held_renewed ns order o r h (λ v e. among 0 v (ap Some e)))
      ∙ ap (λ k. cond (same_held (Some o) r) 1 0 + k) (occurrences_renewed rs o h (λ i v e. among (suc i) v e))

  references_renewed_from : (threads : ℕ) (s : State) → IsLeft s → (us : List Name) (o : Name) → IsTrue (has (world_name ∷ ns) o) → ((n : Name) → IsTrue (has us n) → IsTrue (has (world_name ∷ ns) n))
      → references_from (renewed_graph threads ns s.graph) (map rn us) (rn o) ≡ references_from s.graph us o
  references_renewed_from threads s left [] o h among = refl
  references_renewed_from threads s left (u ∷ us) o h among =
      let in_u = among u (first_has u us) in
      let here = ap (λ z. occurrences z (rn o)) (refs_renewed threads s.graph u in_u) ∙ occurrences_renewed (refs_of (object_at s.graph u)) o h (λ i v e. left.referred u v in_u (i, e)) in
      let rest = references_renewed_from threads s left us o h (λ n k. among n (later_has u us n k)) in
      omega (arith, here, rest)

  -- as many references hold a new name as held the old one
  pub references_renewed : (threads : ℕ) (s : State) → IsLeft s → (o : Name) → IsTrue (has (world_name ∷ ns) o) → references (renewed_state threads ns s) new_names (rn o) ≡ references s (world_name ∷ ns) o
  references_renewed threads s left o h =
      let from = references_renewed_from threads s left (world_name ∷ ns) o h (λ n k. k) in
      let registers = occurrences_renewed s.registers o h (λ i v e. left.held v (i, e)) in
      omega (arith, from, registers)
