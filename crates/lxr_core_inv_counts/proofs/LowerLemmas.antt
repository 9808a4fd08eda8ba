-- A decrement in hand is made by lowering a count, which is neither 0 nor stuck.
use Rattle.std.proofs.Common.{◌≡◌, ◌≢◌, ℕ, ◌+◌, ◌-◌, refl, sym, ap, subst, ◌∙◌, inl, inr, arith, true, false, List, IsTrue}
use Rattle.std.specs.Prelude.{Some, slice_get, slice_set}
use Rattle.lxr_layout.specs.declared.limits.Limits.{Limits}
use Rattle.lxr_layout.specs.declared.Name.{Name}
use Rattle.lxr_graph.specs.Names.{has, same_name}
use Rattle.lxr_graph.proofs.NameSets.{not_both, same_names}
use Rattle.lxr_image.specs.Tables.{Tables}
use Rattle.lxr_image.specs.Reads.{granule_of}
use Rattle.lxr_model.specs.Moments.{Moment}
use Rattle.lxr_model_counting.proofs.DistinctLemmas.{tested}
use Rattle.lxr_invariant.specs.Counting.{count_at}
use Rattle.lxr_invariant.proofs.EntryLemmas.{changed_cases, changed_here, changed_other, one_if}
use Rattle.lxr_core_access.specs.declared.Access.TheVariants as access
use Rattle.lxr_core_access.specs.Accesses.{done_to}
use Rattle.lxr_core_access.specs.Decrementers.{Decrementing, Handling, handled_next, Lowers}
use Rattle.lxr_core_invariant.specs.Counted.{AreCounted, KnowsCounts}
use Rattle.lxr_core_inv_counts.proofs.GroundLemmas.{IsGround}
use Rattle.lxr_core_inv_counts.proofs.TurnLemmas.{IsBalanced, KeepsKnown, handling_kept, moved}
use Rattle.lxr_core_inv_counts.proofs.FactLemmas.{differ, one_is}
use Rattle.lxr_core_inv_counts.proofs.LookLemmas.{counted_some, next_is}

module _ (l : Limits) (t : Tables) (ds : List Decrementing) (m : Moment) (at : Name → ℕ) (ground : IsGround l t m at) (was : AreCounted l.blocks t ds m at)
    (i referent : ℕ) (handling : Handling) (shows : slice_get ds i ≡ Some (Lowers referent handling)) where
  abbrev lowered : Tables
  lowered = done_to t (access.LowerCount (granule_of referent))

  knows : KnowsCounts l.blocks t m at (Lowers referent handling)
  knows = was.knows i (Lowers referent handling) shows

  abbrev name : Name
  name = knows.0.name

  member : IsTrue (has m.unreclaimed name)
  member = knows.0.member

  here : granule_of referent ≡ granule_of (at name)
  here = ap granule_of knows.0.stands

  -- its count isn't 0, since a decrement of it is in hand
  some : t.counts (granule_of referent) ≢ 0
  some = counted_some l t ds m at ground was i (Lowers referent handling) referent handling shows (λ n. refl) (record { name = name; member = member; stands = knows.0.stands })

  -- its count falls by one, and no other does
  others_stay : (n : Name) → IsTrue (has m.unreclaimed n) → same_name n name ≡ false → count_at lowered at n ≡ count_at t at n
  others_stay n h other = changed_other t.counts (granule_of referent) (t.counts (granule_of referent) - 1) (granule_of (at n)) (λ e. differ l t ds m at ground was n name h member other (e ∙ here))

  one_less : (n : Name) → same_name n name ≡ true → count_at lowered at n + 1 ≡ count_at t at n
  one_less n k =
      let there : granule_of (at n) ≡ granule_of referent = ap (λ z. granule_of (at z)) (same_names n name k) ∙ sym here in
      let a = changed_here t.counts (granule_of referent) (t.counts (granule_of referent) - 1) (granule_of (at n)) there in
      let b : count_at t at n ≡ t.counts (granule_of referent) = ap t.counts there in
      let c = some in
      omega (arith, a, b, c)

  -- the name whose count is lowered isn't stuck
  stuck_other : (n : Name) → IsTrue (has m.stuck n) → same_name n name ≡ false
  stuck_other n stuck = elim (tested (same_name n name)) [ inl k ↦ not_both (has m.stuck name) (subst (λ z. IsTrue (has m.stuck z)) (same_names n name k) stuck) knows.0.unstuck | inr k ↦ k ]

  -- as a decrement of it goes out of hand
  balanced : (n : Name) → IsTrue (has m.unreclaimed n) → has m.stuck n ≡ false → IsBalanced t lowered m at (Lowers referent handling) (handled_next handling) n
  balanced n h loose =
      let one = one_is l t ds m at ground was referent name n member h knows.0.stands in
      let next = (next_is l.blocks t m at handling knows.1).hand n in
      elim (tested (same_name n name)) [
        | inl k ↦ let a = one_less n k in let b = ap one_if k in record { falls = omega (arith, a); balance = omega (arith, a, b, one, next) }
        | inr k ↦ let a = others_stay n h k in let b = ap one_if k in record { falls = omega (arith, a); balance = omega (arith, a, b, one, next) }
      ]

  keeps : KeepsKnown t lowered
  keeps = record {
    zeros = λ k z. elim (changed_cases t.counts (granule_of referent) (t.counts (granule_of referent) - 1) k) [ inl q ↦ absurd (some (ap t.counts (sym q.0) ∙ z)) | inr q ↦ q.1 ∙ z ];
    dones = λ k z. z;
    number = refl;
  }

  pub lower_counted : AreCounted l.blocks lowered (slice_set ds i (handled_next handling)) m at
  lower_counted =
      let next = next_is l.blocks lowered m at handling (handling_kept t lowered m at handling keeps knows.1) in
      moved l.blocks t lowered ds m at i (Lowers referent handling) (handled_next handling) was shows (record {
        keeps = keeps;
        decs = refl;
        stuck = λ n h k. others_stay n h (stuck_other n k);
        balanced = balanced;
        done = λ n h k. keeps.zeros (granule_of (at n)) (was.done n h k);
        dead = was.dead;
        handler = λ j f p there by_f by_e. was.one_handler j i f (Lowers referent handling) p there shows by_f (next.handled p by_e);
        cursor = omega arith;
        draws = λ k e. absurd (next.draws_none k e);
        drawn = inl (let soon = next.soon in omega (arith, soon));
        own = next.own;
      })
