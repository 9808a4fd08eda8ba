-- The heap is the image of the graph under new names: headers are written, and all else of an object is where it was.
use Rattle.std.proofs.Common.{◌≡◌, ◌≢◌, ℕ, suc, ◌+◌, ◌/◌, ◌^◌, ◌<◌, ◌≤◌, refl, sym, ap, subst, ◌∙◌, inl, inr, ◌⊎◌, arith, true, false, List, [], ◌∷◌, ◌++◌, IsTrue, length, map}
use Rattle.std.specs.Prelude.{Option, Some, None, slice_get}
use Rattle.std.proofs.lemmas.List.{length-map}
use Rattle.std.proofs.lemmas.Option.{slice_get_within}
use Rattle.lxr_layout.specs.declared.Name.{Name}
use Rattle.lxr_layout.specs.declared.Place.{Place}
use Rattle.lxr_layout.specs.declared.Shape.{Shape}
use Rattle.lxr_layout.specs.Objects.{header_word, word_count}
use Rattle.lxr_layout.specs.Places.{first_word}
use Rattle.lxr_graph.specs.Names.{AreInOrder, has, same_name}
use Rattle.lxr_graph.specs.State.{Graph, Object, State, object_at, refs_of, shape_of, world_name}
use Rattle.lxr_graph.proofs.NameSets.{same_names}
use Rattle.lxr_image.specs.Tables.{Tables}
use Rattle.lxr_image.specs.Reads.{IsName, StandsWhole, granule_of}
use Rattle.lxr_image.specs.Image.{AreApart, ArePlacesOf, IsImage, Stands, granules_of, place_word}
use Rattle.lxr_image.proofs.ImageLemmas.{words_cover, words_even}
use Rattle.lxr_model_counting.proofs.DistinctLemmas.{tested}
use Rattle.lxr_invariant.proofs.NameLemmas.{in_either, in_first, no_member}
use Rattle.lxr_invariant.proofs.PlaceLemmas.{same_object}
use Rattle.lxr_graph.specs.Renewing.{renewed_graph, renewed_held, renewed_name, renewed_object, renewed_state}
use Rattle.lxr_graph.proofs.RowLemmas.{slice_get-mapped}
use Rattle.lxr_renew.proofs.NameLemmas.{map_has, old_name, old_of_renewed, renewed_serial, same_renewed}
use Rattle.lxr_renew.proofs.StateLemmas.{IsLeft, object_renewed, shape_renewed}

-- the tables with another heap
abbrev pub with_heads : Tables → (ℕ → ℕ) → Tables
with_heads t heap = record t { heap = heap }

-- the place of a new name is that of the old one
abbrev pub renewed_at : List Name → (Name → ℕ) → Name → ℕ
renewed_at ns at n = at (old_name ns n)

-- objects of these names and of the world, whose headers alone are written
pub record WritesHeads (t : Tables) (heap : ℕ → ℕ) (g : Graph) (at : Name → ℕ) (ns : List Name) : Type 0 where
  pub heads : (n : Name) (o : Object) → IsTrue (has (world_name ∷ ns) n) → object_at g n ≡ Some o → heap (first_word (at n)) ≡ header_word (renewed_name ns n) (shape_of o)
  pub others : (word : ℕ) → ((n : Name) → IsTrue (has (world_name ∷ ns) n) → word ≢ first_word (at n)) → heap word ≡ t.heap word

module _ (threads : ℕ) (t : Tables) (heap : ℕ → ℕ) (blocks : ℕ) (s : State) (at : Name → ℕ) (ns : List Name) (order : AreInOrder (world_name ∷ ns)) (left : IsLeft ns order s) (few : length ns < 2 ^ 32)
    (image : IsImage t blocks at s.graph ((world_name ∷ ns) ++ [])) (writes : WritesHeads t heap s.graph at ns) where
  abbrev us : List Name
  us = world_name ∷ ns

  abbrev rn : Name → Name
  rn = renewed_name ns

  abbrev at' : Name → ℕ
  at' = renewed_at ns at

  abbrev g' : Graph
  g' = renewed_graph threads ns s.graph

  pub place : (n : Name) → IsTrue (has us n) → at' (rn n) ≡ at n
  place n h = ap at (old_of_renewed ns order n h)

  pub granules_same : (o : Object) → granules_of (renewed_object ns (Some o)) ≡ granules_of o
  granules_same o = ap (λ (z : Shape). word_count z / 2) (shape_renewed ns order o)

  -- what a reference or a register holds stands where it stood
  pub place_held : (r : Option Name) → ((v : Name) → r ≡ Some v → IsTrue (has us v)) → place_word at' (renewed_held ns r) ≡ place_word at r
  place_held None among = refl
  place_held (Some v) among = place v (among v refl)

  -- ---- objects, by their new names

  -- a new name, with the old one and the object of both
  pub record IsOf (n' : Name) : Type 0 where
    pub name : Name
    pub member : IsTrue (has us name)
    pub named : n' ≡ rn name
    pub object : Object
    pub is : object_at s.graph name ≡ Some object
    pub is_renewed : object_at g' n' ≡ Some (renewed_object ns (Some object))
    pub place_is : at' n' ≡ at name

  pub is_of : (n' : Name) → IsTrue (has (map rn us) n') → IsOf n'
  is_of n' h =
      let x = map_has rn us n' h in
      let a = image.stands x.0 (in_first us [] x.0 x.1) in
      record {
        name = x.0;
        member = x.1;
        named = x.2;
        object = a.0;
        is = a.1;
        is_renewed = ap (object_at g') x.2 ∙ object_renewed ns order threads s.graph x.0 x.1 ∙ ap (λ o. Some (renewed_object ns o)) a.1;
        place_is = ap at' x.2 ∙ place x.0 x.1;
      }

  pub renewed_is : (n' : Name) (o' : Object) (x : IsOf n') → object_at g' n' ≡ Some o' → renewed_object ns (Some x.object) ≡ o'
  renewed_is n' o' x e = same_object g' n' (renewed_object ns (Some x.object)) o' x.is_renewed e

  pub granules_are : (n' : Name) (o' : Object) (x : IsOf n') → object_at g' n' ≡ Some o' → granules_of o' ≡ granules_of x.object
  granules_are n' o' x e = ap granules_of (sym (renewed_is n' o' x e)) ∙ granules_same x.object

  -- ---- where they stand

  -- a further word of an object is no header
  no_head : (n : Name) (o : Object) → IsTrue (has us n) → object_at s.graph n ≡ Some o → (word : ℕ) → first_word (at n) < word → word < first_word (at n) + word_count (shape_of o) → heap word ≡ t.heap word
  no_head n o h e word behind within = writes.others word (λ m in_m same. other m in_m same (tested (same_name m n)))
    where
      other : (m : Name) → IsTrue (has us m) → word ≡ first_word (at m) → (same_name m n ≡ true) ⊎ (same_name m n ≡ false) → ⊥
      other m in_m same (inl q) = let p = ap at (same_names m n q) in absurd (omega (arith, p, same, behind))
      other m in_m same (inr q) =
          let a = image.stands m (in_first us [] m in_m) in
          let even = words_even o in
          elim (image.apart m n a.0 o (in_first us [] m in_m) (in_first us [] n h) q a.1 e) [
            | inl before ↦ absurd (omega (arith, before, same, behind))
            | inr after ↦ absurd (omega (arith, after, same, within, even))
          ]

  is_name : (n : Name) → IsTrue (has us n) → IsName (rn n)
  is_name n h = let k = renewed_serial ns order n h in let thread = k.0 in let serial = k.1 in record { thread = omega (arith, thread); serial = omega (arith, serial, few) }

  -- an object under its new name, at its place
  stands_renewed : (n : Name) (o : Object) → IsTrue (has us n) → object_at s.graph n ≡ Some o → Stands t blocks at n o → Stands (with_heads t heap) blocks at' (rn n) (renewed_object ns (Some o))
  stands_renewed n o h e stands =
      let p = place n h in
      let shape = shape_renewed ns order o in
      let cover = words_cover o in
      let long : length (map (renewed_held ns) o.refs) ≡ length o.refs = length-map o.refs (renewed_held ns) in
      record {
        placed = subst (λ k. 1 ≤ k) (sym p) stands.placed;
        whole = subst (λ k. StandsWhole (with_heads t heap) blocks (granule_of k) (rn n) (shape_of (renewed_object ns (Some o)))) (sym p)
            (subst (StandsWhole (with_heads t heap) blocks (granule_of (at n)) (rn n)) (sym shape) (record {
              name = is_name n h;
              shape = stands.whole.shape;
              header = writes.heads n o h e;
              in_heap = stands.whole.in_heap;
              in_block = stands.whole.in_block;
            }));
        refs = λ i r' k.
            let x = slice_get-mapped (renewed_held ns) o.refs i r' k in
            let within = slice_get_within o.refs i x.0 x.1 in
            let among : (v : Name) → x.0 ≡ Some v → IsTrue (has us v) = λ v held. left.referred n v h (i, ap (λ z. slice_get (refs_of z) i) e ∙ x.1 ∙ ap Some held) in
            ap (λ k. heap (first_word k + 1 + i)) p
            ∙ no_head n o h e (first_word (at n) + 1 + i) (omega arith) (omega (arith, within, cover))
            ∙ stands.refs i x.0 x.1 ∙ sym (place_held x.0 among) ∙ ap (place_word at') (sym x.2);
        values = λ i v k.
            let within = slice_get_within o.values i v k in
            ap (λ k. heap (first_word k + 1 + length (map (renewed_held ns) o.refs) + i)) p
            ∙ ap (λ k. heap (first_word (at n) + 1 + k + i)) long
            ∙ no_head n o h e (first_word (at n) + 1 + length o.refs + i) (omega arith) (omega (arith, within, cover))
            ∙ stands.values i v k;
      }

  apart_renewed : (m' n' : Name) (a' b' : Object) → IsTrue (has (map rn us) m') → IsTrue (has (map rn us) n') → same_name m' n' ≡ false → object_at g' m' ≡ Some a' → object_at g' n' ≡ Some b' → AreApart at' m' a' n' b'
  apart_renewed m' n' a' b' in_m in_n other e f =
      let x = is_of m' in_m in
      let y = is_of n' in_n in
      let before : same_name x.name y.name ≡ false = sym (same_renewed ns order x.name y.name x.member y.member) ∙ sym (λ i. same_name (x.named i) (y.named i)) ∙ other in
      let a = granules_are m' a' x e in
      let b = granules_are n' b' y f in
      let p = x.place_is in
      let q = y.place_is in
      elim (image.apart x.name y.name x.object y.object (in_first us [] x.name x.member) (in_first us [] y.name y.member) before x.is y.is) [
        | inl k ↦ inl (omega (arith, k, a, b, p, q))
        | inr k ↦ inr (omega (arith, k, a, b, p, q))
      ]

  only_first : (n' : Name) → IsTrue (has (map rn us ++ []) n') → IsTrue (has (map rn us) n')
  only_first n' h = elim (in_either (map rn us) [] n' h) [ inl k ↦ k | inr k ↦ no_member n' k ]

  pub image_renewed : IsImage (with_heads t heap) blocks at' g' (map rn us ++ [])
  image_renewed = record {
    stands = λ n' h.
        let x = map_has rn us n' (only_first n' h) in
        let a = image.stands x.0 (in_first us [] x.0 x.1) in
        subst (λ q. (o : Object) × (object_at g' q ≡ Some o) × Stands (with_heads t heap) blocks at' q o) (sym x.2)
        (renewed_object ns (Some a.0), object_renewed ns order threads s.graph x.0 x.1 ∙ ap (λ o. Some (renewed_object ns o)) a.1, stands_renewed x.0 a.0 x.1 a.1 a.2);
    apart = λ m n a b in_m in_n. apart_renewed m n a b (only_first m in_m) (only_first n in_n);
  }

  -- registers hold what they held
  places_renewed_on : (held : List (Option Name)) → ((i : ℕ) (v : Name) → slice_get held i ≡ Some (Some v) → IsTrue (has us v)) → map (place_word at') (map (renewed_held ns) held) ≡ map (place_word at) held
  places_renewed_on [] among = refl
  places_renewed_on (r ∷ rs) among = λ i. place_held r (λ v e. among 0 v (ap Some e)) i ∷ places_renewed_on rs (λ k v e. among (k + 1) v (ap (λ z. slice_get (r ∷ rs) z) (next k) ∙ e)) i
    where
      next : (k : ℕ) → k + 1 ≡ suc k
      next k = omega arith

  pub places_renewed : (places : List Place) → ArePlacesOf at places s.registers → ArePlacesOf at' places (renewed_state threads ns s).registers
  places_renewed places are = are ∙ sym (places_renewed_on s.registers (λ i v e. left.held v (i, e)))
