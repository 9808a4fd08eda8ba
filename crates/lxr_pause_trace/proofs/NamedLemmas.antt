-- Places and names tell the same story: where counting is done, unreclaimed objects refer to each other as their places do, and
-- what is left to mark by places is what is to be marked by names.
use Rattle.std.proofs.Common.{◌≡◌, ℕ, ◌≤◌, refl, sym, ap, subst, ◌∙◌, inl, inr, arith, true, false, cond, nat_le}
use Rattle.std.specs.Prelude.{◌&&◌, Option, Some, None, IsTrue, slice_get}
use Rattle.std.specs.Option.{option_map}
use Rattle.std.proofs.lemmas.Bool.{and_parts}
use Rattle.lxr_layout.specs.declared.Name.{Name}
use Rattle.lxr_layout.specs.Objects.{header_of}
use Rattle.lxr_layout.specs.Places.{first_word}
use Rattle.lxr_graph.specs.Names.{has, same_name}
use Rattle.lxr_graph.specs.State.{Object, object_at, refs_of, world_name}
use Rattle.lxr_graph.proofs.NameSets.{same_names}
use Rattle.lxr_image.specs.declared.space.Space.{Space}
use Rattle.lxr_image.specs.Spaces.{tables_of}
use Rattle.lxr_image.specs.Tables.{Tables}
use Rattle.lxr_image.specs.Image.{place_word}
use Rattle.lxr_image.specs.ImageLaws.{IsReadOff}
use Rattle.lxr_image.specs.Reads.{field_at, field_in, granule_of}
use Rattle.lxr_image.proofs.ImageLemmas.{starts_stand_whole}
use Rattle.lxr_image.proofs.ReadLemmas.{image_is_read}
use Rattle.lxr_model.specs.Moments.{Moment}
use Rattle.lxr_model.specs.Reachable.{Refers}
use Rattle.lxr_model_counting.proofs.DistinctLemmas.{tested}
use Rattle.lxr_invariant.specs.AbstractState.{members}
use Rattle.lxr_invariant.specs.Tracing.{IsRoot, IsToBeMarked}
use Rattle.lxr_invariant.specs.Tracing as named
use Rattle.lxr_invariant.proofs.NameLemmas.{in_first}
use Rattle.lxr_invariant.proofs.PlaceLemmas.{granules_differ}
use Rattle.lxr_pause_trace.specs.Marking.{IsLeft, IsTraceable, RefersAt}
use Rattle.lxr_pause_trace.specs.Marking as placed
use Rattle.lxr_pause_trace.specs.Tracing.{CanTrace}
use Rattle.lxr_invariant.proofs.UnusedLemmas.{starts_used}

-- where something is read by a header, a start bit stands
start_of : (t : Tables) (p i q : ℕ) → field_at t p i ≡ Some q → (1 ≤ p) × IsTrue (t.starts (granule_of p))
start_of t p i q e = elim (tested (nat_le 1 p && t.starts (granule_of p))) [
  | inl k ↦ let both = and_parts (nat_le 1 p) (t.starts (granule_of p)) k in (first p both.0, both.1)
  | inr k ↦ absurd (let none : None ≡ Some q = sym (nothing k) ∙ e in cc)
]
  where
    first : (p : ℕ) → nat_le 1 p ≡ true → 1 ≤ p
    first p h = grind (arith, h)

    nothing : (nat_le 1 p && t.starts (granule_of p)) ≡ false → field_at t p i ≡ None
    nothing k = ap (λ b. field_in t p i (cond b (Some (header_of (t.heap (first_word p)))) None)) k

module _ (s : Space) (m : Moment) (at : Name → ℕ) (can : CanTrace s m at) where
  abbrev pub t : Tables
  t = tables_of s

  member : (n : Name) → IsTrue (has m.unreclaimed n) → IsTrue (has (members m) n)
  member n h = in_first m.unreclaimed m.made n h

  pub name_placed : (n : Name) → IsTrue (has m.unreclaimed n) → 1 ≤ at n
  name_placed n h = (can.holds.image.image.stands n (member n h)).2.placed

  -- names at one granule are one
  pub same_place : (n o : Name) → IsTrue (has m.unreclaimed n) → IsTrue (has m.unreclaimed o) → granule_of (at n) ≡ granule_of (at o) → n ≡ o
  same_place n o in_n in_o e = elim (tested (same_name n o)) [
    | inl k ↦ same_names n o k
    | inr k ↦ absurd (granules_differ t s.limits.blocks at m.state.graph (members m) can.holds.image.image n o (member n in_n) (member o in_o) k e)
  ]

  -- the name whose object begins at a place
  pub name_at : (p : ℕ) → 1 ≤ p → IsTrue (t.starts (granule_of p)) → (n : Name) × IsTrue (has m.unreclaimed n) × (at n ≡ p)
  name_at p some start =
      let x = can.holds.bits.starts.only (granule_of p) start in
      let here = x.2 in
      let there = name_placed x.0 x.1 in
      (x.0, x.1, omega (arith, some, here, there))

  -- what is read of an unreclaimed object
  pub read_off : (n : Name) → IsTrue (has m.unreclaimed n) → (o : Object) × (object_at m.state.graph n ≡ Some o) × IsReadOff t (at n) at n o
  read_off n h =
      let a = can.holds.image.image.stands n (member n h) in
      (a.0, a.1, image_is_read t s.limits.blocks at m.state.graph m.unreclaimed (members m) n a.0 can.holds.image.image can.holds.bits.starts h (member n h) a.1)

  -- what an unreclaimed object refers to is unreclaimed
  pub refers_kept : (u n : Name) → IsTrue (has m.unreclaimed u) → Refers m.state.graph u n → IsTrue (has m.unreclaimed n)
  refers_kept u n h refers = can.holds.follows.closed u n h (subst (λ x. Refers x.graph u n) (sym can.settled.same) refers)

  -- ---- references by names and by places

  pub held_placed : (u n : Name) (i : ℕ) → IsTrue (has m.unreclaimed u) → slice_get (refs_of (object_at m.state.graph u)) i ≡ Some (Some n) → field_at t (at u) i ≡ Some (at n)
  held_placed u n i h held =
      let o = read_off u h in
      let got : slice_get o.0.refs i ≡ Some (Some n) = sym (ap (λ x. slice_get (refs_of x) i) o.1) ∙ held in
      o.2.fields i ∙ ap (option_map (place_word at)) got

  pub refers_placed : (u n : Name) → IsTrue (has m.unreclaimed u) → Refers m.state.graph u n → RefersAt t (at u) (at n)
  refers_placed u n h refers = (name_placed n (refers_kept u n h refers), refers.0, held_placed u n refers.0 h refers.1)

  held_word : (r : Option (Option Name)) (q : ℕ) → 1 ≤ q → option_map (place_word at) r ≡ Some q → (n : Name) × (r ≡ Some (Some n)) × (at n ≡ q)
  held_word None q some e = absurd (cc)
  held_word (Some None) q some e = absurd (let k : 0 ≡ q = cc in omega (arith, k, some))
  held_word (Some (Some n)) q some e = (n, refl, cc)

  pub held_named : (u : Name) (i q : ℕ) → IsTrue (has m.unreclaimed u) → 1 ≤ q → field_at t (at u) i ≡ Some q
      → (n : Name) × (slice_get (refs_of (object_at m.state.graph u)) i ≡ Some (Some n)) × (at n ≡ q)
  held_named u i q h some holds =
      let o = read_off u h in
      let x = held_word (slice_get o.0.refs i) q some (sym (o.2.fields i) ∙ holds) in
      (x.0, ap (λ z. slice_get (refs_of z) i) o.1 ∙ x.1, x.2)

  pub refers_named : (u : Name) (q : ℕ) → IsTrue (has m.unreclaimed u) → RefersAt t (at u) q → (n : Name) × Refers m.state.graph u n × (at n ≡ q)
  refers_named u q h refers = let x = held_named u refers.1 q h refers.0 refers.2 in (x.0, (refers.1, x.1), x.2)

  -- ---- a trace can go by places

  pub traceable : IsTraceable t s.limits.blocks
  traceable = record {
    whole = starts_stand_whole t s.limits.blocks at m.state.graph m.unreclaimed (members m) can.holds.image.image can.holds.bits.starts (λ n h. member n h);
    closed = λ p q refers.
        let begins = start_of t p refers.1 q refers.2 in
        let u = name_at p begins.0 begins.1 in
        let v = refers_named u.0 q u.1 (subst (λ z. RefersAt t z q) (sym u.2) refers) in
        subst (λ z. IsTrue (t.starts (granule_of z))) v.2 (can.holds.bits.starts.each v.0 (refers_kept u.0 v.0 u.1 v.1));
    grays = can.holds.bits.grays;
    used = starts_used s m at can.holds;
  }

  -- ---- what is left to mark

  pub to_be_kept : (n : Name) → IsToBeMarked t m at n → IsTrue (has m.unreclaimed n)
  to_be_kept n (named.gray _ h unmarked g) = h
  to_be_kept n (named.referred u _ is refers unmarked) = refers_kept u n (to_be_kept u is) refers

  pub to_be_left : (n : Name) → IsToBeMarked t m at n → IsLeft t (at n)
  to_be_left n (named.gray _ h unmarked g) = placed.gray (at n) (name_placed n h) g unmarked
  to_be_left n (named.referred u _ is refers unmarked) = placed.referred (at u) (at n) (to_be_left u is) (refers_placed u n (to_be_kept u is) refers) unmarked

  pub left_named : (p : ℕ) → IsLeft t p → (n : Name) × IsToBeMarked t m at n × (at n ≡ p)
  left_named p (placed.gray _ some g unmarked) =
      let x = name_at p some (can.holds.bits.grays (granule_of p) g) in
      (x.0, named.gray x.0 x.1 (ap (λ z. t.marks (granule_of z)) x.2 ∙ unmarked) (ap (λ z. t.grays (granule_of z)) x.2 ∙ g), x.2)
  left_named q (placed.referred p _ left refers unmarked) =
      let u = left_named p left in
      let v = refers_named u.0 q (to_be_kept u.0 u.1) (subst (λ z. RefersAt t z q) (sym u.2) refers) in
      (v.0, named.referred u.0 v.0 u.1 v.1 (ap (λ z. t.marks (granule_of z)) v.2 ∙ unmarked), v.2)

  -- ---- roots

  pub root_kept : (n : Name) → IsRoot m.state n → IsTrue (has m.unreclaimed n)
  root_kept n (inl world) = subst (λ z. IsTrue (has m.unreclaimed z)) (sym world) (can.holds.follows.stuck world_name can.holds.follows.world)
  root_kept n (inr holds) = elim (can.holds.follows.held n holds) [
    | inl reached ↦ can.holds.follows.kept n reached
    | inr made ↦ absurd (let none : has m.made n ≡ false = ap (λ z. has z n) can.settled.none_made in cc)
  ]
