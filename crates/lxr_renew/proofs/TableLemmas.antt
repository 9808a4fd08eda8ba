-- Bits, counts, marks and lines are those of the same objects under their new names.
use Rattle.std.proofs.Common.{◌≡◌, ◌≢◌, ℕ, ◌+◌, ◌/◌, ◌^◌, ◌<◌, ◌≤◌, refl, sym, ap, subst, ◌∙◌, inl, inr, ◌⊎◌, arith, false, List, [], ◌∷◌, ◌++◌, IsTrue, length, map}
use Rattle.std.specs.Prelude.{Some}
use Rattle.std.proofs.lemmas.Bool.{false_from_ne_true}
use Rattle.std.proofs.lemmas.List.{length-map}
use Rattle.lxr_layout.specs.declared.Name.{Name}
use Rattle.lxr_layout.specs.declared.TheConstants.{GRANULES_IN_BLOCK, STUCK}
use Rattle.lxr_layout.specs.declared.limits.Limits.{Limits}
use Rattle.lxr_layout.specs.Places.{field_word}
use Rattle.lxr_graph.specs.Names.{AreInOrder, has}
use Rattle.lxr_graph.specs.State.{Graph, Object, State, object_at, refs_of, world_name}
use Rattle.lxr_graph.proofs.NameSets.{not_both}
use Rattle.lxr_image.specs.declared.space.Space.{Space}
use Rattle.lxr_image.specs.Tables.{Tables}
use Rattle.lxr_image.specs.Reads.{granule_of}
use Rattle.lxr_image.specs.Image.{IsImage}
use Rattle.lxr_blocks.specs.declared.states.BlockState.TheVariants.{Free}
use Rattle.lxr_blocks.specs.States.{state_in}
use Rattle.lxr_model.specs.Moments.{Moment}
use Rattle.lxr_model.specs.References.{references}
use Rattle.lxr_invariant.specs.Counting.{HasCounts, HasDecrements, IsUndecremented, count_at, listed_at, undone, waiting_at}
use Rattle.lxr_invariant.specs.Lines.{Covers, FreeAreUnused, HasMarks, IsMarkOf, IsTakenBy, KeepLines, OutsAreTaken}
use Rattle.lxr_invariant.specs.Standing.{HasBits, IsUnwritten}
use Rattle.lxr_invariant.proofs.FrameLemmas.{none_undone}
use Rattle.lxr_invariant.proofs.NameLemmas.{in_either, in_first, no_member}
use Rattle.lxr_graph.specs.Renewing.{renewed_graph, renewed_held, renewed_name, renewed_object, renewed_state}
use Rattle.lxr_renew.proofs.NameLemmas.{has_map, map_has, one_to_one}
use Rattle.lxr_renew.proofs.StateLemmas.{IsLeft, object_renewed, references_renewed, refs_renewed, still}
use Rattle.lxr_renew.proofs.ImageLemmas.{IsOf, WritesHeads, granules_are, granules_same, is_of, place, renewed_at, with_heads}

module _ (threads : ℕ) (t : Tables) (heap : ℕ → ℕ) (blocks : ℕ) (s : State) (at : Name → ℕ) (ns : List Name) (order : AreInOrder (world_name ∷ ns)) (left : IsLeft ns order s) (few : length ns < 2 ^ 32)
    (image : IsImage t blocks at s.graph ((world_name ∷ ns) ++ [])) (writes : WritesHeads t heap s.graph at ns) (number : ℕ) (stuck : List Name)
    (stuck_left : (n : Name) → IsTrue (has stuck n) → IsTrue (has (world_name ∷ ns) n)) where
  abbrev us : List Name
  us = world_name ∷ ns

  abbrev rn : Name → Name
  rn = renewed_name ns

  abbrev at' : Name → ℕ
  at' = renewed_at ns at

  abbrev g' : Graph
  g' = renewed_graph threads ns s.graph

  abbrev u : Tables
  u = with_heads t heap

  abbrev m : Moment
  m = still s number us stuck

  abbrev m' : Moment
  m' = still (renewed_state threads ns s) 0 (map rn us) (map rn stuck)

  of_new : (n' : Name) → IsTrue (has (map rn us) n') → IsOf threads t heap blocks s at ns order left few image writes n'
  of_new n' h = is_of threads t heap blocks s at ns order left few image writes n' h

  place_new : (n : Name) → IsTrue (has us n) → at' (rn n) ≡ at n
  place_new n h = place threads t heap blocks s at ns order left few image writes n h

  in_new : (n : Name) → IsTrue (has us n) → IsTrue (has (map rn us) (rn n))
  in_new n h = has_map rn us n h

  -- ---- bits

  pub bits_renewed : HasBits t m at us → HasBits u m' at' (map rn us)
  bits_renewed is = record {
    starts = record {
      each = λ n h. let x = of_new n h in subst (λ k. IsTrue (t.starts (granule_of k))) (sym x.place_is) (is.starts.each x.name x.member);
      only = λ k start. let x = is.starts.only k start in (rn x.0, in_new x.0 x.1, ap granule_of (place_new x.0 x.1) ∙ x.2);
    };
    marks = is.marks;
    grays = is.grays;
    dones = is.dones;
    unlogged = λ w. (λ set. forth w ((is.unlogged w).0 set), λ unwritten. (is.unlogged w).1 (back w unwritten));
  }
    where
      forth : (w : ℕ) → IsUnwritten m at us w → IsUnwritten m' at' (map rn us) w
      forth w (n, i, a) =
          let index = a.index in
          let long = ap length (refs_renewed ns order threads s.graph n a.member) ∙ length-map (refs_of (object_at s.graph n)) (renewed_held ns) in (
            rn n,
            i,
            record {
              member = in_new n a.member;
              index = omega (arith, index, long);
              unwritten = refl;
              word = a.word ∙ ap (λ p. field_word p i) (sym (place_new n a.member));
            },
          )

      back : (w : ℕ) → IsUnwritten m' at' (map rn us) w → IsUnwritten m at us w
      back w (n', i, a) =
          let x = of_new n' a.member in
          let index = a.index in
          let long = ap (λ q. length (refs_of (object_at g' q))) x.named ∙ ap length (refs_renewed ns order threads s.graph x.name x.member) ∙ length-map (refs_of (object_at s.graph x.name)) (renewed_held ns) in (
            x.name,
            i,
            record {
              member = x.member;
              index = omega (arith, index, long);
              unwritten = refl;
              word = a.word ∙ ap (λ p. field_word p i) x.place_is;
            },
          )

  -- ---- counts

  count_same : (n' : Name) → (h : IsTrue (has (map rn us) n')) → count_at u at' n' ≡ count_at t at (of_new n' h).name
  count_same n' h = ap (λ p. t.counts (granule_of p)) (of_new n' h).place_is

  stuck_old : (n' : Name) → (h : IsTrue (has (map rn us) n')) → IsTrue (has (map rn stuck) n') → IsTrue (has stuck (of_new n' h).name)
  stuck_old n' h k =
      let x = of_new n' h in
      let y = map_has rn stuck n' k in
      subst (λ q. IsTrue (has stuck q)) (sym (one_to_one ns order x.name y.0 x.member (stuck_left y.0 y.1) (sym x.named ∙ y.2))) y.1

  unstuck_old : (n' : Name) → (h : IsTrue (has (map rn us) n')) → has (map rn stuck) n' ≡ false → has stuck (of_new n' h).name ≡ false
  unstuck_old n' h none =
      let x = of_new n' h in
      false_from_ne_true (has stuck x.name) (λ k. not_both (has (map rn stuck) n') (subst (λ q. IsTrue (has (map rn stuck) q)) (sym x.named) (has_map rn stuck x.name k)) none)

  pub counts_renewed : ((k : ℕ) → t.dones k ≡ false) → HasCounts t m at → HasCounts u m' at'
  counts_renewed none is = record {
    stuck = λ n h k. count_same n h ∙ is.stuck (of_new n h).name (of_new n h).member (stuck_old n h k);
    below = λ n h k. subst (λ c. c < STUCK) (sym (count_same n h)) (is.below (of_new n h).name (of_new n h).member (unstuck_old n h k));
    exact = λ n h k.
        let x = of_new n h in
        let all : undone t at us ≡ us = none_undone t at us none in
        let all' : undone u at' (map rn us) ≡ map rn us = none_undone u at' (map rn us) none in
        count_same n h ∙ is.exact x.name x.member (unstuck_old n h k)
        ∙ ap (λ qs. references s qs x.name + waiting_at t (at x.name)) all
        ∙ ap (λ c. c + waiting_at t (at x.name)) (sym (references_renewed ns order threads s left x.name x.member))
        ∙ ap (λ q. references (renewed_state threads ns s) (map rn us) q + waiting_at t (at x.name)) (sym x.named)
        ∙ ap (λ p. references (renewed_state threads ns s) (map rn us) n + waiting_at t p) (sym x.place_is)
        ∙ ap (λ qs. references (renewed_state threads ns s) qs n + waiting_at u (at' n)) (sym all');
    held = λ n h k empty.
        let x = of_new n h in
        is.held x.name x.member (unstuck_old n h k) (
        ap (λ c. c + listed_at t (at x.name)) (sym (references_renewed ns order threads s left x.name x.member))
        ∙ ap (λ q. references (renewed_state threads ns s) (map rn us) q + listed_at t (at x.name)) (sym x.named)
        ∙ ap (λ p. references (renewed_state threads ns s) (map rn us) n + listed_at t p) (sym x.place_is) ∙ empty);
    done = λ n h k. not_both (t.dones (granule_of (at' n))) k (none (granule_of (at' n)));
    dead = λ n h k. not_both (t.dones (granule_of (at' n))) k (none (granule_of (at' n)));
  }

  pub decrements_renewed : (l : Limits) → HasDecrements l t m at → HasDecrements l u m' at'
  decrements_renewed l is = record {
    fits = is.fits;
    places = λ k below. let x = is.places k below in (rn x.0, in_new x.0 x.1, x.2 ∙ sym (place_new x.0 x.1));
  }

  pub undecremented_renewed : IsUndecremented t m at → IsUndecremented u m' at'
  undecremented_renewed is = record {
    none_done = is.none_done;
    none_drawn = is.none_drawn;
    positive = λ n h zero. is.positive (of_new n h).name (of_new n h).member (sym (count_same n h) ∙ zero);
  }

  -- ---- marks and lines

  mark_old : (n' : Name) (o' : Object) (k : ℕ) → (h : IsTrue (has (map rn us) n')) → object_at g' n' ≡ Some o' → IsMarkOf at' n' o' k → IsMarkOf at (of_new n' h).name (of_new n' h).object k
  mark_old n' o' k h e mark =
      let x = of_new n' h in
      let a = granules_are threads t heap blocks s at ns order left few image writes n' o' x e in
      let p = x.place_is in
      let behind = mark.behind in
      let within = mark.within in
      record { begins = mark.begins; behind = omega (arith, behind, p); within = omega (arith, within, p, a) }

  mark_new : (n : Name) (o : Object) (k : ℕ) → IsTrue (has us n) → IsMarkOf at n o k → IsMarkOf at' (rn n) (renewed_object ns (Some o)) k
  mark_new n o k h mark =
      let a = granules_same threads t heap blocks s at ns order left few image writes o in
      let p = place_new n h in
      let behind = mark.behind in
      let within = mark.within in
      record { begins = mark.begins; behind = omega (arith, behind, p); within = omega (arith, within, p, a) }

  object_new : (n : Name) (o : Object) → IsTrue (has us n) → object_at s.graph n ≡ Some o → object_at g' (rn n) ≡ Some (renewed_object ns (Some o))
  object_new n o h e = object_renewed ns order threads s.graph n h ∙ ap (λ z. Some (renewed_object ns z)) e

  pub marks_renewed : HasMarks t s.graph at us → HasMarks u g' at' (map rn us)
  marks_renewed is = record {
    marked = λ n o k h e mark. is.marked (of_new n h).name (of_new n h).object k (of_new n h).member (of_new n h).is (mark_old n o k h e mark);
    elsewhere = λ k nobody nothing. is.elsewhere k
        (λ n h same. nobody (rn n) (in_new n h) (ap granule_of (place_new n h) ∙ same))
        (λ n o h e mark. nothing (rn n) (renewed_object ns (Some o)) (in_new n h) (object_new n o h e) (mark_new n o k h mark));
  }

  covers_old : (n' : Name) (o' : Object) (k : ℕ) → (h : IsTrue (has (map rn us) n')) → Covers g' at' n' o' k → Covers s.graph at (of_new n' h).name (of_new n' h).object k
  covers_old n' o' k h c =
      let x = of_new n' h in
      let a = granules_are threads t heap blocks s at ns order left few image writes n' o' x c.object in
      let p = x.place_is in
      let first = c.first in
      let behind = c.behind in
      record { object = x.is; first = omega (arith, first, p); behind = omega (arith, behind, p, a) }

  covers_new : (n : Name) (o : Object) (k : ℕ) → IsTrue (has us n) → Covers s.graph at n o k → Covers g' at' (rn n) (renewed_object ns (Some o)) k
  covers_new n o k h c =
      let a = granules_same threads t heap blocks s at ns order left few image writes o in
      let p = place_new n h in
      let first = c.first in
      let behind = c.behind in
      record { object = object_new n o h c.object; first = omega (arith, first, p); behind = omega (arith, behind, p, a) }

  old_member : (n' : Name) → IsTrue (has (map rn us ++ []) n') → IsTrue (has (map rn us) n')
  old_member n' h = elim (in_either (map rn us) [] n' h) [ inl k ↦ k | inr k ↦ no_member n' k ]

  only_left : (n : Name) → IsTrue (has (us ++ []) n) → IsTrue (has us n)
  only_left n h = elim (in_either us [] n h) [ inl k ↦ k | inr k ↦ no_member n k ]

  pub lines_renewed : KeepLines t s.graph at (us ++ []) → KeepLines u g' at' (map rn us ++ [])
  lines_renewed is n o k h c = let k' = old_member n h in is (of_new n k').name (of_new n k').object k (in_first us [] (of_new n k').name (of_new n k').member) (covers_old n o k k' c)

  pub outs_renewed : OutsAreTaken t s.graph at (us ++ []) → OutsAreTaken u g' at' (map rn us ++ [])
  outs_renewed is = record {
    taken = λ line out. taken_new line (is.taken line out);
    outside = is.outside;
  }
    where
      taken_new : (line : ℕ) → IsTakenBy s.graph at (us ++ []) line → IsTakenBy g' at' (map rn us ++ []) line
      taken_new line (n, o, k, h, c, e) = let h' = only_left n h in (rn n, renewed_object ns (Some o), k, in_first (map rn us) [] (rn n) (in_new n h'), covers_new n o k h' c, e)

  pub unused_renewed : FreeAreUnused t at us → FreeAreUnused u at' (map rn us)
  unused_renewed is = record {
    objects = λ n h. subst (λ p. state_in t (granule_of p / GRANULES_IN_BLOCK) ≢ Free) (sym (of_new n h).place_is) (is.objects (of_new n h).name (of_new n h).member);
    outs = is.outs;
  }

  pub rest_renewed : (x y : Space) → y.rest_next ≡ x.rest_next → y.rest_end ≡ x.rest_end
      → ((n : Name) (o : Object) (k : ℕ) → IsTrue (has (us ++ []) n) → Covers s.graph at n o k → (k < x.rest_next) ⊎ (x.rest_end ≤ k))
      → (n : Name) (o : Object) (k : ℕ) → IsTrue (has (map rn us ++ []) n) → Covers g' at' n o k → (k < y.rest_next) ⊎ (y.rest_end ≤ k)
  rest_renewed x y next end apart n o k h c =
      let h' = old_member n h in
      elim (apart (of_new n h').name (of_new n h').object k (in_first us [] (of_new n h').name (of_new n h').member) (covers_old n o k h' c)) [
        | inl a ↦ inl (subst (λ z. k < z) (sym next) a)
        | inr b ↦ inr (subst (λ z. z ≤ k) (sym end) b)
      ]
