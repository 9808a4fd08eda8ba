-- A heap word that is written changes at most the one object that it belongs to.
use Rattle.std.proofs.Common.{◌≡◌, ◌≢◌, ℕ, ◌+◌, ◌*◌, ◌/◌, ◌<◌, ◌≤◌, refl, sym, ap, subst, ◌∙◌, inl, inr, ◌⊎◌, arith, true, false, cond, suc, List, [], ◌∷◌, length, nat_eq}
use Rattle.std.specs.Prelude.{Option, Some, None, IsTrue, slice_get, slice_set, map}
use Rattle.std.proofs.Math.ListN.{length-set}
use Rattle.std.proofs.lemmas.List.{map-set}
use Rattle.std.proofs.lemmas.Option.{slice_get_within}
use Rattle.lxr_layout.specs.declared.Name.{Name}
use Rattle.lxr_layout.specs.declared.Place.{Place}
use Rattle.lxr_layout.specs.Objects.{word_count}
use Rattle.lxr_layout.specs.Places.{first_word}
use Rattle.lxr_graph.specs.State.{Object, Graph, object_at, shape_of, with_reference, with_value}
use Rattle.lxr_graph.specs.Names.{has, same_name}
use Rattle.lxr_graph.proofs.RowLemmas.{object_at-with_reference, object_at-with_value, set_cases}
use Rattle.lxr_graph.proofs.NameSets.{same_names}
use Rattle.lxr_image.specs.Tables.{Tables, changed}
use Rattle.lxr_image.specs.Reads.{StandsWhole, granule_of}
use Rattle.lxr_image.specs.Image.{AreApart, IsImage, Stands, granules_of, place_word}
use Rattle.lxr_image.specs.ImageLaws.{ImageStandsWhole, OutsideKeepsImage, PutKeepsImage, RegisterKeepsPlaces, StoreKeepsImage, with_heap}

-- ---- one word

pub not_at : (f : ℕ → ℕ) (k v j : ℕ) → j ≢ k → changed f k v j ≡ f j
not_at f k v j ne = let e : nat_eq j k ≡ false = grind arith in ap (λ b. cond b v (f j)) e

pub just_at : (f : ℕ → ℕ) (k v j : ℕ) → j ≡ k → changed f k v j ≡ v
just_at f k v j e = let q : nat_eq j k ≡ true = grind arith in ap (λ b. cond b v (f j)) q

-- an object's header, references and data are within its words
pub words_cover : (o : Object) → 1 + length o.refs + length o.values ≤ word_count (shape_of o)
words_cover o = omega arith

-- an object's words are those of its granules
pub words_even : (o : Object) → word_count (shape_of o) ≡ 2 * granules_of o
words_even o = omega arith

-- an object stands where its words are as they were, under a map that agrees on what it holds
pub stands_on : (t u : Tables) (blocks : ℕ) (at to : Name → ℕ) (m : Name) (a : Object) → ((i : ℕ) → i < word_count (shape_of a) → u.heap (first_word (at m) + i) ≡ t.heap (first_word (at m) + i))
    → to m ≡ at m → ((i : ℕ) (r : Option Name) → slice_get a.refs i ≡ Some r → place_word to r ≡ place_word at r) → Stands t blocks at m a → Stands u blocks to m a
stands_on t u blocks at to m a same place holds is =
    let cover = words_cover a in
    let first : first_word (at m) + 0 ≡ first_word (at m) = omega arith in
    let stays : (i : ℕ) → i < word_count (shape_of a) → u.heap (first_word (to m) + i) ≡ t.heap (first_word (at m) + i) = λ i h. ap (λ p. u.heap (first_word p + i)) place ∙ same i h in
    record {
      placed = subst (λ p. 1 ≤ p) (sym place) is.placed;
      whole = subst (λ p. StandsWhole u blocks (granule_of p) m (shape_of a)) (sym place) (record {
        name = is.whole.name;
        shape = is.whole.shape;
        header = sym (ap u.heap first) ∙ same 0 (omega arith) ∙ ap t.heap first ∙ is.whole.header;
        in_heap = is.whole.in_heap;
        in_block = is.whole.in_block;
      });
      refs = λ i r e.
          let within = slice_get_within a.refs i r e in
          let there = stays (1 + i) (omega arith) in
          let one : (p : ℕ) → first_word p + (1 + i) ≡ first_word p + 1 + i = λ p. omega arith in
          sym (ap u.heap (one (to m))) ∙ there ∙ ap t.heap (one (at m)) ∙ is.refs i r e ∙ sym (holds i r e);
      values = λ i v e.
          let within = slice_get_within a.values i v e in
          let there = stays (1 + length a.refs + i) (omega arith) in
          let one : (p : ℕ) → first_word p + (1 + length a.refs + i) ≡ first_word p + 1 + length a.refs + i = λ p. omega arith in
          sym (ap u.heap (one (to m))) ∙ there ∙ ap t.heap (one (at m)) ∙ is.values i v e;
    }

-- a write outside an object's words leaves it standing
stays : (t : Tables) (blocks : ℕ) (at : Name → ℕ) (m : Name) (a : Object) (k v : ℕ) → (k < first_word (at m)) ⊎ (first_word (at m) + word_count (shape_of a) ≤ k)
    → Stands t blocks at m a → Stands (with_heap t k v) blocks at m a
stays t blocks at m a k v out is =
    stands_on t (with_heap t k v) blocks at at m a (λ i h. not_at t.heap k v (first_word (at m) + i) (λ e. elim out [ inl q ↦ omega arith | inr q ↦ omega arith ])) refl (λ i r e. refl) is

pub outside_keeps_image : OutsideKeepsImage
outside_keeps_image t blocks at g ms k v is out = record {
  stands = λ n member. let a = is.stands n member in (a.0, a.1, stays t blocks at n a.0 k v (out n a.0 member a.1) a.2);
  apart = is.apart;
}

-- ---- one object

-- the object with one reference changed stands
stored_stands : (t : Tables) (blocks : ℕ) (at : Name → ℕ) (n : Name) (o : Object) (i : ℕ) (v : Option Name) → i < length o.refs → Stands t blocks at n o
    → Stands (with_heap t (first_word (at n) + 1 + i) (place_word at v)) blocks at n (record o { refs = slice_set o.refs i v })
stored_stands t blocks at n o i v h is =
    let k : ℕ = first_word (at n) + 1 + i in
    let shape : shape_of o ≡ shape_of (record o { refs = slice_set o.refs i v }) = λ j. record { refs = sym (length-set o.refs i v) j; values = length o.values } in
    record {
      placed = is.placed;
      whole = subst (StandsWhole (with_heap t k (place_word at v)) blocks (granule_of (at n)) n) shape (record {
        name = is.whole.name;
        shape = is.whole.shape;
        header = not_at t.heap k (place_word at v) (first_word (at n)) (λ e. omega arith) ∙ is.whole.header;
        in_heap = is.whole.in_heap;
        in_block = is.whole.in_block;
      });
      refs = λ j x e. elim (set_cases o.refs i v j x h e) [
        | inl q ↦ just_at t.heap k (place_word at v) (first_word (at n) + 1 + j) (let z = q.0 in omega arith) ∙ ap (place_word at) q.1
        | inr q ↦ not_at t.heap k (place_word at v) (first_word (at n) + 1 + j) (λ w. q.0 (omega arith)) ∙ is.refs j x q.1
      ];
      values = λ j x e.
          let len = length-set o.refs i v in
          not_at t.heap k (place_word at v) (first_word (at n) + 1 + length (slice_set o.refs i v) + j) (λ w. omega arith)
          ∙ ap (λ z. t.heap (first_word (at n) + 1 + z + j)) len ∙ is.values j x e;
    }

-- the object with one data word changed stands
put_stands : (t : Tables) (blocks : ℕ) (at : Name → ℕ) (n : Name) (o : Object) (i v : ℕ) → i < length o.values → Stands t blocks at n o
    → Stands (with_heap t (first_word (at n) + 1 + length o.refs + i) v) blocks at n (record o { values = slice_set o.values i v })
put_stands t blocks at n o i v h is =
    let k : ℕ = first_word (at n) + 1 + length o.refs + i in
    let shape : shape_of o ≡ shape_of (record o { values = slice_set o.values i v }) = λ j. record { refs = length o.refs; values = sym (length-set o.values i v) j } in
    record {
      placed = is.placed;
      whole = subst (StandsWhole (with_heap t k v) blocks (granule_of (at n)) n) shape (record {
        name = is.whole.name;
        shape = is.whole.shape;
        header = not_at t.heap k v (first_word (at n)) (λ e. omega arith) ∙ is.whole.header;
        in_heap = is.whole.in_heap;
        in_block = is.whole.in_block;
      });
      refs = λ j x e. let within = slice_get_within o.refs j x e in not_at t.heap k v (first_word (at n) + 1 + j) (λ w. omega arith) ∙ is.refs j x e;
      values = λ j x e. elim (set_cases o.values i v j x h e) [
        | inl q ↦ just_at t.heap k v (first_word (at n) + 1 + length o.refs + j) (let z = q.0 in omega arith) ∙ q.1
        | inr q ↦ not_at t.heap k v (first_word (at n) + 1 + length o.refs + j) (λ w. q.0 (omega arith)) ∙ is.values j x q.1
      ];
    }

-- ---- one object among the members

-- in the graph after the write, a name is the one that was written or has the object that it had
abbrev pub Rewrites : Graph → Graph → Name → Object → Type 0
Rewrites g h n b = (m : Name) → ((m ≡ n) × (object_at h m ≡ Some b)) ⊎ ((same_name m n ≡ false) × (object_at h m ≡ object_at g m))

pub rewrites : (g h : Graph) (n : Name) (b : Object) → ((m : Name) → object_at h m ≡ cond (same_name m n) (Some b) (object_at g m)) → Rewrites g h n b
rewrites g h n b is m = elim (same_name m n) as (λ c. same_name m n ≡ c → object_at h m ≡ cond c (Some b) (object_at g m) → ((m ≡ n) × (object_at h m ≡ Some b)) ⊎ ((same_name m n ≡ false) × (object_at h m ≡ object_at g m))) [
  | true ↦ λ k q. inl (same_names m n k, q)
  | false ↦ λ k q. inr (k, q)
] refl (is m)

-- the object that a name had, of as many granules
before : (g h : Graph) (n : Name) (o b : Object) → Rewrites g h n b → object_at g n ≡ Some o → granules_of b ≡ granules_of o → (m : Name) (a : Object) → object_at h m ≡ Some a
    → (c : Object) × (object_at g m ≡ Some c) × (granules_of a ≡ granules_of c)
before g h n o b which has_o size m a e = elim (which m) [
  | inl q ↦ (o, ap (object_at g) q.0 ∙ has_o, let k : Some a ≡ Some b = sym e ∙ q.1 in let s : a ≡ b = cc in ap granules_of s ∙ size)
  | inr q ↦ (a, sym q.1 ∙ e, refl)
]

-- a word of n's is outside every other object
apart_word : (at : Name → ℕ) (m n : Name) (a o : Object) (i : ℕ) → 1 ≤ at m → 1 ≤ at n → i < word_count (shape_of o) → AreApart at m a n o
    → (first_word (at n) + i < first_word (at m)) ⊎ (first_word (at m) + word_count (shape_of a) ≤ first_word (at n) + i)
apart_word at m n a o i pm pn h apart = let e = words_even a in let f = words_even o in elim apart [ inl q ↦ inr (omega arith) | inr q ↦ inl (omega arith) ]

-- a word of a member is written, and the member stands as another object of its size
member_written : (t : Tables) (blocks : ℕ) (at : Name → ℕ) (g h : Graph) (ms : List Name) (n : Name) (o b : Object) (i v : ℕ) → IsImage t blocks at g ms → IsTrue (has ms n) → object_at g n ≡ Some o
    → Rewrites g h n b → granules_of b ≡ granules_of o → i < word_count (shape_of o) → Stands (with_heap t (first_word (at n) + i) v) blocks at n b
    → IsImage (with_heap t (first_word (at n) + i) v) blocks at h ms
member_written t blocks at g h ms n o b i v is member has_o which size within stands =
    let ns = is.stands n member in
    let same : Some ns.0 ≡ Some o = sym ns.1 ∙ has_o in
    let same_o : ns.0 ≡ o = cc in
    let n_is : Stands t blocks at n o = subst (Stands t blocks at n) same_o ns.2 in
    let k : ℕ = first_word (at n) + i in
    record {
      stands = λ m in_m. elim (which m) [
        | inl q ↦ (b, q.1, subst (λ z. Stands (with_heap t k v) blocks at z b) (sym q.0) stands)
        | inr q ↦
            let a = is.stands m in_m in
            (a.0, q.1 ∙ a.1, stays t blocks at m a.0 k v (apart_word at m n a.0 o i a.2.placed n_is.placed within (is.apart m n a.0 o in_m member q.0 a.1 has_o)) a.2)
      ];
      apart = λ l m a c in_l in_m differ e f.
          let x = before g h n o b which has_o size l a e in
          let y = before g h n o b which has_o size m c f in
          let p = x.2 in
          let q = y.2 in
          elim (is.apart l m x.0 y.0 in_l in_m differ x.1 y.1) [ inl z ↦ inl (omega (arith, z, p)) | inr z ↦ inr (omega (arith, z, q)) ];
    }

-- the member that is there stands
pub member_stands : (t : Tables) (blocks : ℕ) (at : Name → ℕ) (g : Graph) (ms : List Name) (n : Name) (o : Object) → IsImage t blocks at g ms → IsTrue (has ms n) → object_at g n ≡ Some o → Stands t blocks at n o
member_stands t blocks at g ms n o is member has_o =
    let ns = is.stands n member in
    let same : Some ns.0 ≡ Some o = sym ns.1 ∙ has_o in
    let same_o : ns.0 ≡ o = cc in
    subst (Stands t blocks at n) same_o ns.2

pub store_keeps_image : StoreKeepsImage
store_keeps_image t blocks at g ms n o i v is member has_o h =
    let cover = words_cover o in
    let b : Object = record o { refs = slice_set o.refs i v } in
    let size : granules_of b ≡ granules_of o = ap (λ z. word_count (record { refs = z; values = length o.values }) / 2) (length-set o.refs i v) in
    let at_i : first_word (at n) + (1 + i) ≡ first_word (at n) + 1 + i = omega arith in
    subst (λ k. IsImage (with_heap t k (place_word at v)) blocks at (with_reference g n i v (Some o)) ms) at_i
    (member_written t blocks at g (with_reference g n i v (Some o)) ms n o b (1 + i) (place_word at v) is member has_o
    (rewrites g (with_reference g n i v (Some o)) n b (λ m. object_at-with_reference g n i v o m has_o)) size (omega arith)
    (subst (λ k. Stands (with_heap t k (place_word at v)) blocks at n b) (sym at_i) (stored_stands t blocks at n o i v h (member_stands t blocks at g ms n o is member has_o))))

pub put_keeps_image : PutKeepsImage
put_keeps_image t blocks at g ms n o i v is member has_o h =
    let cover = words_cover o in
    let b : Object = record o { values = slice_set o.values i v } in
    let size : granules_of b ≡ granules_of o = ap (λ z. word_count (record { refs = length o.refs; values = z }) / 2) (length-set o.values i v) in
    let at_i : first_word (at n) + (1 + length o.refs + i) ≡ first_word (at n) + 1 + length o.refs + i = omega arith in
    subst (λ k. IsImage (with_heap t k v) blocks at (with_value g n i v (Some o)) ms) at_i
    (member_written t blocks at g (with_value g n i v (Some o)) ms n o b (1 + length o.refs + i) v is member has_o
    (rewrites g (with_value g n i v (Some o)) n b (λ m. object_at-with_value g n i v o m has_o)) size (omega arith)
    (subst (λ k. Stands (with_heap t k v) blocks at n b) (sym at_i) (put_stands t blocks at n o i v h (member_stands t blocks at g ms n o is member has_o))))

-- ---- registers

pub register_keeps_places : RegisterKeepsPlaces
register_keeps_places at places held i p v is e =
    map-set (λ (q : Place). q.0) places i p ∙ ap (λ xs. slice_set xs i p.0) is ∙ ap (slice_set (map (place_word at) held) i) e ∙ sym (map-set (place_word at) held i v)

-- ---- start bits

pub starts_stand_whole : ImageStandsWhole
starts_stand_whole t blocks at g us ms is starts within g' start =
    let u = starts.only g' start in
    let a = is.stands u.0 (within u.0 u.1) in
    (u.0, shape_of a.0, subst (λ k. StandsWhole t blocks k u.0 (shape_of a.0)) u.2 a.2.whole)

-- ---- places under another map

-- what is held has the places that it had where another map agrees on it
pub places_still : (at to : Name → ℕ) (vs : List (Option Name)) → ((i : ℕ) (n : Name) → slice_get vs i ≡ Some (Some n) → to n ≡ at n) → map (place_word at) vs ≡ map (place_word to) vs
places_still at to [] each = refl
places_still at to (None ∷ vs) each = ap (λ z. 0 ∷ z) (places_still at to vs (λ i n e. each (suc i) n e))
places_still at to (Some n ∷ vs) each =
    ap (λ z. z ∷ map (place_word at) vs) (sym (each 0 n refl)) ∙ ap (λ z. to n ∷ z) (places_still at to vs (λ i m e. each (suc i) m e))
