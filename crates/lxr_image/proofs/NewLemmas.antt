-- A new object that is written on free room stands there, and all members stand as they did.
use Rattle.std.proofs.Common.{◌≡◌, ℕ, zero, suc, ◌+◌, ◌-◌, ◌*◌, ◌/◌, ◌<◌, ◌≤◌, refl, sym, ap, subst, ◌∙◌, inl, inr, ◌⊎◌, arith, true, false, cond, List, ◌∷◌, length, replicate}
use Rattle.std.specs.Prelude.{◌||◌, Option, Some, None, IsTrue, slice_get}
use Rattle.std.proofs.lemmas.List.{length-replicate}
use Rattle.std.proofs.lemmas.Option.{slice_get_within}
use Rattle.lxr_layout.specs.declared.TheConstants.{GRANULES_IN_BLOCK}
use Rattle.lxr_layout.specs.declared.Name.{Name}
use Rattle.lxr_layout.specs.declared.Shape.{Shape}
use Rattle.lxr_layout.specs.Objects.{FitsShape, word_count}
use Rattle.lxr_layout.specs.Places.{first_word}
use Rattle.lxr_graph.specs.State.{Object, Graph, next_name, object_at, shape_of, with_new}
use Rattle.lxr_graph.specs.Step.{fresh}
use Rattle.lxr_graph.specs.Names.{has, same_name}
use Rattle.lxr_graph.proofs.RowLemmas.{object_at-with_new}
use Rattle.lxr_graph.proofs.NameSets.{same_itself, same_names}
use Rattle.lxr_image.specs.Tables.{Tables}
use Rattle.lxr_image.specs.Reads.{IsName, StandsWhole, granule_of}
use Rattle.lxr_image.specs.Image.{AreApart, Stands, granules_of, place_word}
use Rattle.lxr_image.specs.ImageLaws.{IsUnheld, NewKeepsImage, WritesNew, placed}
use Rattle.lxr_image.proofs.ImageLemmas.{Rewrites, rewrites, stands_on, words_even}

-- what a list of one value has
pub same_value : {X : Type 0} (n : ℕ) (x y : X) (i : ℕ) → slice_get (replicate n x) i ≡ Some y → y ≡ x
same_value zero x y i e = cc
same_value (suc n) x y zero e = let k : Some x ≡ Some y = e in cc
same_value (suc n) x y (suc i) e = same_value n x y i e

shape_fresh : (s : Shape) → shape_of (fresh s) ≡ s
shape_fresh s = λ j. record { refs = length-replicate {A = Option Name} s.refs None j; values = length-replicate {A = ℕ} s.values 0 j }

-- ---- places

pub placed_here : (at : Name → ℕ) (n : Name) (p : ℕ) → placed at n p n ≡ p
placed_here at n p = ap (λ b. cond b p (at n)) (same_itself n)

pub placed_other : (at : Name → ℕ) (n : Name) (p : ℕ) (m : Name) → same_name m n ≡ false → placed at n p m ≡ at m
placed_other at n p m differ = ap (λ b. cond b p (at m)) differ

-- what a member's reference holds stays where it is
held_stays : (at : Name → ℕ) (g : Graph) (ms : List Name) (n : Name) (p : ℕ) (m : Name) (a : Object) → IsUnheld g ms n → IsTrue (has ms m) → object_at g m ≡ Some a
    → (i : ℕ) (r : Option Name) → slice_get a.refs i ≡ Some r → place_word (placed at n p) r ≡ place_word at r
held_stays at g ms n p m a unheld member has_a i None e = refl
held_stays at g ms n p m a unheld member has_a i (Some w) e = elim (same_name w n) as (λ b. same_name w n ≡ b → cond b p (at w) ≡ at w) [
  | true ↦ λ k. absurd (unheld m a i member has_a (e ∙ ap (λ z. Some (Some z)) (same_names w n k)))
  | false ↦ λ k. refl
] refl

-- ---- the new object

new_stands : (t u : Tables) (blocks : ℕ) (to : Name → ℕ) (n : Name) (p : ℕ) (s : Shape) → to n ≡ p → 1 ≤ p → granule_of p + word_count s / 2 ≤ GRANULES_IN_BLOCK * blocks
    → granule_of p / GRANULES_IN_BLOCK ≡ (granule_of p + word_count s / 2 - 1) / GRANULES_IN_BLOCK → FitsShape s → IsName n → WritesNew t u p n s → Stands u blocks to n (fresh s)
new_stands t u blocks to n p s there first in_heap in_block fits name writes =
    let refs : length (fresh s).refs ≡ s.refs = length-replicate {A = Option Name} s.refs None in
    let values : length (fresh s).values ≡ s.values = length-replicate {A = ℕ} s.values 0 in
    record {
      placed = subst (λ q. 1 ≤ q) (sym there) first;
      whole = subst (λ q. StandsWhole u blocks (granule_of q) n (shape_of (fresh s))) (sym there) (subst (StandsWhole u blocks (granule_of p) n) (sym (shape_fresh s)) (record {
        name = name;
        shape = fits;
        header = writes.header;
        in_heap = in_heap;
        in_block = in_block;
      }));
      refs = λ i r e.
          let within = slice_get_within (fresh s).refs i r e in
          let nil : place_word to r ≡ 0 = ap (place_word to) (same_value s.refs None r i e) in
          ap (λ q. u.heap (first_word q + 1 + i)) there ∙ writes.zeros i (omega arith) ∙ sym nil;
      values = λ i v e.
          let within = slice_get_within (fresh s).values i v e in
          let at_i : first_word p + 1 + length (fresh s).refs + i ≡ first_word p + 1 + (s.refs + i) = omega arith in
          ap (λ q. u.heap (first_word q + 1 + length (fresh s).refs + i)) there ∙ ap u.heap at_i ∙ writes.zeros (s.refs + i) (omega arith) ∙ sym (same_value s.values 0 v i e);
    }

-- ---- the members

-- a member's words are as they were
untouched : (t u : Tables) (at : Name → ℕ) (n m : Name) (a : Object) (p : ℕ) (s : Shape) → 1 ≤ p → 1 ≤ at m → WritesNew t u p n s
    → (granule_of (at m) + granules_of a ≤ granule_of p) ⊎ (granule_of p + word_count s / 2 ≤ granule_of (at m))
    → (i : ℕ) → i < word_count (shape_of a) → u.heap (first_word (at m) + i) ≡ t.heap (first_word (at m) + i)
untouched t u at n m a p s first placed writes apart i h =
    let even = words_even a in
    writes.others (first_word (at m) + i) (elim apart [ inl q ↦ inl (omega arith) | inr q ↦ inr (omega arith) ])

-- a member of the old ones
old_member : (ms : List Name) (n m : Name) → IsTrue (has (n ∷ ms) m) → same_name m n ≡ false → IsTrue (has ms m)
old_member ms n m member differ = subst (λ b. IsTrue (b || has ms m)) differ member

-- an old object keeps its object
same_object : (g h : Graph) (m : Name) (a : Object) → object_at h m ≡ object_at g m → object_at h m ≡ Some a → object_at g m ≡ Some a
same_object g h m a same e = sym same ∙ e

-- two objects that are apart at their places are apart at equal ones
apart_at : (at to : Name → ℕ) (l m : Name) (a b : Object) (x y : ℕ) → to l ≡ x → to m ≡ y → (granule_of x + granules_of a ≤ granule_of y) ⊎ (granule_of y + granules_of b ≤ granule_of x) → AreApart to l a m b
apart_at at to l m a b x y e f apart = elim apart [ inl q ↦ inl (omega (arith, q, e, f)) | inr q ↦ inr (omega (arith, q, e, f)) ]

pub new_keeps_image : NewKeepsImage
new_keeps_image t u blocks at g ms thread s p is row fits name unheld room writes =
    let n : Name = next_name g thread in
    let h : Graph = with_new g thread (fresh s) in
    let to : Name → ℕ = placed at n p in
    let which : Rewrites g h n (fresh s) = rewrites g h n (fresh s) (λ m. object_at-with_new g thread (fresh s) m row) in
    let size : granules_of (fresh s) ≡ word_count s / 2 = ap (λ z. word_count z / 2) (shape_fresh s) in
    let fresh_is = λ (m : Name) (a : Object) (q : object_at h m ≡ Some (fresh s)) (e : object_at h m ≡ Some a). let k : Some a ≡ Some (fresh s) = sym e ∙ q in let r : a ≡ fresh s = cc in r in
    record {
      stands = λ m in_m. elim (which m) [
        | inl q ↦ (fresh s, q.1, subst (λ z. Stands u blocks to z (fresh s)) (sym q.0) (new_stands t u blocks to n p s (placed_here at n p) room.placed room.in_heap room.in_block fits name writes))
        | inr q ↦
            let member = old_member ms n m in_m q.0 in
            let a = is.stands m member in (
              a.0,
              q.1 ∙ a.1,
              stands_on t u blocks at to m a.0 (untouched t u at n m a.0 p s room.placed a.2.placed writes (room.free m a.0 member a.1)) (placed_other at n p m q.0)
                  (held_stays at g ms n p m a.0 unheld member a.1) a.2,
            )
      ];
      apart = λ l m a b in_l in_m differ e f. elim (which l) [
        | inl x ↦ elim (which m) [
          | inl y ↦ absurd (let k : true ≡ false = sym (same_itself m) ∙ ap (λ z. same_name z m) (y.0 ∙ sym x.0) ∙ differ in cc)
          | inr y ↦
              let b_is = same_object g h m b y.1 f in
              let member = old_member ms n m in_m y.0 in
              let l_size : granules_of a ≡ word_count s / 2 = ap granules_of (fresh_is l a x.1 e) ∙ size in
              apart_at at to l m a b p (at m) (ap to x.0 ∙ placed_here at n p) (placed_other at n p m y.0)
              (elim (room.free m b member b_is) [ inl q ↦ inr q | inr q ↦ inl (omega (arith, q, l_size)) ])
        ]
        | inr x ↦ elim (which m) [
          | inl y ↦
              let a_is = same_object g h l a x.1 e in
              let member = old_member ms n l in_l x.0 in
              let m_size : granules_of b ≡ word_count s / 2 = ap granules_of (fresh_is m b y.1 f) ∙ size in
              apart_at at to l m a b (at l) p (placed_other at n p l x.0) (ap to y.0 ∙ placed_here at n p)
              (elim (room.free l a member a_is) [ inl q ↦ inl q | inr q ↦ inr (omega (arith, q, m_size)) ])
          | inr y ↦ apart_at at to l m a b (at l) (at m) (placed_other at n p l x.0) (placed_other at n p m y.0)
              (is.apart l m a b (old_member ms n l in_l x.0) (old_member ms n m in_m y.0) differ (same_object g h l a x.1 e) (same_object g h m b y.1 f))
        ]
      ];
    }
