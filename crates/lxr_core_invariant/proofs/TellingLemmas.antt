-- What the words at a member's place tell: its header says its name and shape, and no other member has its place.
use Rattle.std.proofs.Common.{◌≡◌, ◌≢◌, ℕ, ◌^◌, ◌<◌, ◌≤◌, refl, sym, ap, ◌∙◌, inl, inr, arith, true, false, List, nat_eq}
use Rattle.std.specs.Prelude.{Option, Some, None, IsTrue}
use Rattle.lxr_layout.specs.declared.TheConstants.{MOST_BLOCKS}
use Rattle.lxr_layout.specs.declared.Name.{Name}
use Rattle.lxr_layout.specs.declared.Shape.{Shape}
use Rattle.lxr_layout.specs.declared.Header.TheVariants as header
use Rattle.lxr_layout.specs.Objects.{header_of}
use Rattle.lxr_layout.specs.Places.{first_word}
use Rattle.lxr_graph.specs.Names.{has, same_held, same_name}
use Rattle.lxr_graph.specs.State.{Graph, Object, object_at, shape_of}
use Rattle.lxr_graph.proofs.NameSets.{same_names}
use Rattle.lxr_image.specs.Tables.{Tables}
use Rattle.lxr_image.specs.Image.{IsImage, place_word}
use Rattle.lxr_image.proofs.ReadLemmas.{header_unpacked}
use Rattle.lxr_image.proofs.ImageLemmas.{member_stands}
use Rattle.lxr_model.specs.Moments.{Moment}
use Rattle.lxr_invariant.specs.AbstractState.{members}
use Rattle.lxr_invariant.proofs.EntryLemmas.{same_number, unlike_number}
use Rattle.lxr_core_invariant.specs.Events.{TellsObject}
use Rattle.lxr_core_invariant.proofs.HeldLemmas.{IsHeld}

-- places count from one
nothing_below : (p : ℕ) → 1 ≤ p → p ≢ 0
nothing_below p some e = omega arith

-- what its header tells
pub told_there : (t : Tables) (blocks : ℕ) (at : Name → ℕ) (g : Graph) (ms : List Name) (n : Name) (o : Object) → IsImage t blocks at g ms → IsTrue (has ms n) → object_at g n ≡ Some o
    → TellsObject (t.heap (first_word (at n))) n (shape_of o)
told_there t blocks at g ms n o image member there =
    let st = member_stands t blocks at g ms n o image member there in
    ap header_of st.whole.header ∙ header_unpacked n (shape_of o) st.whole.name st.whole.shape

-- and nothing else is told there
pub told_is : (t : Tables) (blocks : ℕ) (at : Name → ℕ) (g : Graph) (ms : List Name) (n m : Name) (o : Object) (s : Shape) (p : ℕ) → IsImage t blocks at g ms → IsTrue (has ms n) → object_at g n ≡ Some o
    → p ≡ at n → TellsObject (t.heap (first_word p)) m s → (m ≡ n) × (s ≡ shape_of o)
told_is t blocks at g ms n m o s p image member there place told =
    let e : header.Object m s ≡ header.Object n (shape_of o) =
    sym told ∙ ap (λ z. header_of (t.heap (first_word z))) place ∙ told_there t blocks at g ms n o image member there in
    (cc, cc)

-- no place is nil
pub placed_there : (t : Tables) (blocks : ℕ) (at : Name → ℕ) (g : Graph) (ms : List Name) (n : Name) → IsImage t blocks at g ms → IsTrue (has ms n) → at n ≢ 0
placed_there t blocks at g ms n image member = nothing_below (at n) (image.stands n member).2.placed

-- places are small numbers
pub small_place : (t : Tables) (blocks : ℕ) (at : Name → ℕ) (m : Moment) (v : Option Name) → IsImage t blocks at m.state.graph (members m) → blocks ≤ MOST_BLOCKS → IsHeld m v → place_word at v < 2 ^ 32
small_place t blocks at m None image few held = omega arith
small_place t blocks at m (Some n) image few held =
    let st = (image.stands n held).2 in
    let low = st.whole.in_heap in let some = st.placed in
    omega (arith, low, some, few)

-- two members have two places
different_places : (t : Tables) (blocks : ℕ) (at : Name → ℕ) (g : Graph) (ms : List Name) (n m : Name) → IsImage t blocks at g ms → IsTrue (has ms n) → IsTrue (has ms m) → same_name n m ≡ false → at n ≢ at m
different_places t blocks at g ms n m image in_n in_m differ e =
    let a = image.stands n in_n in
    let b = image.stands m in_m in
    let st = a.2.placed in
    elim (image.apart n m a.0 b.0 in_n in_m differ a.1 b.1) [ inl q ↦ omega (arith, q, e, st) | inr q ↦ omega (arith, q, e, st) ]

-- members with one place are one
pub one_place : (t : Tables) (blocks : ℕ) (at : Name → ℕ) (g : Graph) (ms : List Name) (n m : Name) → IsImage t blocks at g ms → IsTrue (has ms n) → IsTrue (has ms m) → at n ≡ at m → n ≡ m
one_place t blocks at g ms n m image in_n in_m e = elim (same_name n m) as (λ b. same_name n m ≡ b → n ≡ m) [
  | true ↦ λ k. same_names n m k
  | false ↦ λ k. absurd (different_places t blocks at g ms n m image in_n in_m k e)
] refl

-- what is held is the same where the places are
pub same_by_place : (t : Tables) (blocks : ℕ) (at : Name → ℕ) (m : Moment) (v w : Option Name) (p q : ℕ) → IsImage t blocks at m.state.graph (members m) → IsHeld m v → IsHeld m w
    → p ≡ place_word at v → q ≡ place_word at w → same_held v w ≡ nat_eq p q
same_by_place t blocks at m None None p q image hv hw e f = sym (same_number p q (e ∙ sym f))
same_by_place t blocks at m None (Some b) p q image hv hw e f =
    sym (unlike_number p q (λ k. placed_there t blocks at m.state.graph (members m) b image hw (sym f ∙ sym k ∙ e)))
same_by_place t blocks at m (Some a) None p q image hv hw e f =
    sym (unlike_number p q (λ k. placed_there t blocks at m.state.graph (members m) a image hv (sym e ∙ k ∙ f)))
same_by_place t blocks at m (Some a) (Some b) p q image hv hw e f = elim (same_name a b) as (λ c. same_name a b ≡ c → c ≡ nat_eq p q) [
  | true ↦ λ k. sym (same_number p q (e ∙ ap at (same_names a b k) ∙ sym f))
  | false ↦ λ k. sym (unlike_number p q (λ y. different_places t blocks at m.state.graph (members m) a b image hv hw k (sym e ∙ y ∙ f)))
] refl
