-- A claim takes over what the dead object refers to: its references pass from those that count into the claimer's hand.
use Rattle.std.proofs.Common.{◌≡◌, ℕ, ◌+◌, refl, sym, ap, subst, ◌∙◌, inl, inr, ◌⊎◌, arith, true, false, List, IsTrue}
use Rattle.std.specs.Prelude.{Some, slice_get, slice_set}
use Rattle.lxr_layout.specs.declared.limits.Limits.{Limits}
use Rattle.lxr_layout.specs.declared.Name.{Name}
use Rattle.lxr_graph.specs.Names.{has, same_name}
use Rattle.lxr_graph.specs.State.{object_at, refs_of}
use Rattle.lxr_graph.proofs.NameSets.{not_both}
use Rattle.lxr_image.specs.Tables.{Tables}
use Rattle.lxr_image.specs.Reads.{granule_of}
use Rattle.lxr_model.specs.Dead.{Dead}
use Rattle.lxr_model.specs.Moments.{Moment}
use Rattle.lxr_model.specs.References.{occurrences, references}
use Rattle.lxr_model_counting.proofs.DistinctLemmas.{in_order_distinct}
use Rattle.lxr_invariant.specs.Counting.{count_at, is_done, undone}
use Rattle.lxr_invariant.proofs.EntryLemmas.{changed_cases, changed_here, changed_other}
use Rattle.lxr_core_access.specs.declared.Access.TheVariants as access
use Rattle.lxr_core_access.specs.Accesses.{done_to}
use Rattle.lxr_core_access.specs.Decrementers.{Decrementing, Handling, Entry, References, Claims, ReadsHeader, AsksTracing, ReadsReference, MakesGray, AsksLowered, Lowers}
use Rattle.lxr_core_invariant.specs.Counted.{AreCounted, IsDoneAt, KnowsCounts, KnowsHandling, handled_by, in_hand, place_handled, references_at}
use Rattle.lxr_core_inv_counts.proofs.HandLemmas.{undone_claimed}
use Rattle.lxr_core_inv_counts.proofs.GroundLemmas.{IsGround}
use Rattle.lxr_core_inv_counts.proofs.TurnLemmas.{moved}
use Rattle.lxr_core_inv_counts.proofs.FactLemmas.{differ, one_granule, refs_there, uncounted_dead}

module _ (l : Limits) (t : Tables) (ds : List Decrementing) (m : Moment) (at : Name → ℕ) (ground : IsGround l t m at) (was : AreCounted l.blocks t ds m at)
    (i place : ℕ) (shows : slice_get ds i ≡ Some (Claims place)) (clear : t.dones (granule_of place) ≡ false) where
  abbrev claimed : Tables
  claimed = done_to t (access.SetDone (granule_of place))

  knows : KnowsCounts l.blocks t m at (Claims place)
  knows = was.knows i (Claims place) shows

  abbrev name : Name
  name = knows.stands.name

  member : IsTrue (has m.unreclaimed name)
  member = knows.stands.member

  here : granule_of place ≡ granule_of (at name)
  here = ap granule_of knows.stands.stands

  zero_there : count_at t at name ≡ 0
  zero_there = ap t.counts (sym here) ∙ knows.zero

  set_there : is_done claimed at name ≡ true
  set_there = changed_here t.dones (granule_of place) true (granule_of (at name)) (sym here)

  others_stay : (x : Name) → IsTrue (has m.unreclaimed x) → same_name x name ≡ false → is_done claimed at x ≡ is_done t at x
  others_stay x in_x other = changed_other t.dones (granule_of place) true (granule_of (at x)) (λ e. differ l t ds m at ground was x name in_x member other (e ∙ here))

  -- what was done is done, and what is done now besides is the object that is claimed
  done_cases : (n : Name) → IsTrue (has m.unreclaimed n) → IsTrue (is_done claimed at n) → IsTrue (is_done t at n) ⊎ (n ≡ name)
  done_cases n in_n done = elim (changed_cases t.dones (granule_of place) true (granule_of (at n))) [
    | inl q ↦ inr (one_granule l t ds m at ground was n name in_n member (q.0 ∙ here))
    | inr q ↦ inl (sym q.1 ∙ done)
  ]

  -- its references pass from those that count into hand
  passes : (n : Name) → references m.last (undone t at m.unreclaimed) n ≡ in_hand t m at (ReadsHeader place) n + references m.last (undone claimed at m.unreclaimed) n
  passes n =
      let a = undone_claimed m.last.graph t claimed at m.unreclaimed name n (in_order_distinct m.unreclaimed ground.follows.unreclaimed) member (ap t.dones (sym here) ∙ clear) set_there others_stay in
      let b : occurrences (references_at m at place) n ≡ occurrences (refs_of (object_at m.last.graph name)) n = ap (λ rs. occurrences rs n) (refs_there l t ds m at ground was place name member knows.stands.stands) in
      omega (arith, a, b)

  -- who handles an object has it done
  done_at : (p : ℕ) → IsDoneAt t m at p → p ≡ place → t.dones (granule_of place) ≡ true
  done_at p is e = ap (λ q. t.dones (granule_of q)) (sym e ∙ is.stands) ∙ is.done

  handling_done : (handling : Handling) → KnowsHandling t m at handling → place_handled handling ≡ Some place → t.dones (granule_of place) ≡ true
  handling_done Entry known by = absurd (cc)
  handling_done (References p refs next traced) known by = done_at p known.0.done (cc)

  handles_done : (f : Decrementing) → KnowsCounts l.blocks t m at f → handled_by f ≡ Some place → t.dones (granule_of place) ≡ true
  handles_done (ReadsHeader p) known by = done_at p known (cc)
  handles_done (AsksTracing p refs) known by = done_at p known.done (cc)
  handles_done (ReadsReference p refs index traced) known by = done_at p known.0.done (cc)
  handles_done (MakesGray p refs index referent) known by = done_at p known.0.done (cc)
  handles_done (AsksLowered referent handling) known by = handling_done handling known.1 by
  handles_done (Lowers referent handling) known by = handling_done handling known.1 by
  handles_done _ known by = absurd (cc)

  pub claim_counted : AreCounted l.blocks claimed (slice_set ds i (ReadsHeader place)) m at
  claim_counted = moved l.blocks t claimed ds m at i (Claims place) (ReadsHeader place) was shows (record {
    keeps = record { zeros = λ k z. z; dones = λ k z. elim (changed_cases t.dones (granule_of place) true k) [ inl q ↦ q.1 | inr q ↦ q.1 ∙ z ]; number = refl };
    decs = refl;
    stuck = λ n h k. refl;
    balanced = λ n h k. record { falls = omega arith; balance = let p = passes n in omega (arith, p) };
    done = λ n h k. elim (done_cases n h k) [ inl q ↦ was.done n h q | inr q ↦ ap (count_at t at) q ∙ zero_there ];
    dead = λ n h k. elim (done_cases n h k) [ inl q ↦ was.dead n h q | inr q ↦ subst (Dead m.last m.unreclaimed m.stuck) (sym q) (uncounted_dead l t ds m at ground was name member zero_there) ];
    handler = λ j f p there by_f by_e.
        let same : place ≡ p = cc in
        not_both (t.dones (granule_of place)) (handles_done f (was.knows j f there) (by_f ∙ ap Some (sym same))) clear;
    cursor = omega arith;
    draws = λ k e. absurd (cc);
    drawn = inl (omega arith);
    own = record { name = name; member = member; stands = knows.stands.stands; done = set_there };
  })
