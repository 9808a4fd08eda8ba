-- A reference is remembered where what it holds stands in a Chosen block, and else all stays.
use Rattle.std.proofs.Common.{◌≡◌, ℕ, ◌*◌, ◌/◌, ◌<◌, refl, sym, ap, subst, ◌∙◌, inl, inr, arith, Bool, cond, true, false}
use Rattle.std.specs.Prelude.{Some, slice_get}
use Rattle.lxr_layout.specs.declared.TheConstants.{GRANULES_IN_BLOCK, REMEMBERED_CURSOR}
use Rattle.lxr_layout.specs.declared.limits.Limits.{Limits}
use Rattle.lxr_layout.specs.declared.Name.{Name}
use Rattle.lxr_layout.specs.declared.Place.{Place}
use Rattle.lxr_layout.specs.Spaces.{AreLimits}
use Rattle.lxr_graph.specs.State.{object_at, refs_of}
use Rattle.lxr_image.specs.Tables.{Tables}
use Rattle.lxr_image.specs.Reads.{granule_of}
use Rattle.lxr_image.specs.Spaces.{AreWithin}
use Rattle.lxr_blocks.specs.declared.states.BlockState.{BlockState}
use Rattle.lxr_blocks.specs.declared.states.BlockState.TheVariants.{Chosen, Free, Partly, Whole, World}
use Rattle.lxr_blocks.specs.States.{state_in}
use Rattle.lxr_model.specs.Moments.{Moment}
use Rattle.lxr_invariant.specs.Lines.{NoneChosen, is_chosen}
use Rattle.lxr_invariant.specs.Standing.{place_of}
use Rattle.lxr_invariant.specs.Tracing.{IsInChosen, IsRemembered}
use Rattle.lxr_invariant.proofs.BlockLemmas.{none_counted}
use Rattle.lxr_remset.specs.Remembering.{ChosenAreRemembered, IsField, KeepsSet, Remembers, is_in_chosen, remembering, remembering_chosen}
use Rattle.lxr_remset.proofs.SetLemmas.{new_entry, remembering_keeps_set}

-- ---- states

pub chosen_told : (s : BlockState) → is_chosen s ≡ true → s ≡ Chosen
chosen_told Free is = absurd (cc)
chosen_told Partly is = absurd (cc)
chosen_told Whole is = absurd (cc)
chosen_told Chosen is = refl
chosen_told World is = absurd (cc)

-- ---- one reference

module _ (l : Limits) (t : Tables) (p : Place) (i : ℕ) (held : Place) where
  pub where_chosen : is_in_chosen t held ≡ true → remembering_chosen l t p i held ≡ remembering l t p i
  where_chosen is = ap (λ b. cond b (remembering l t p i) t) is

  pub where_not : is_in_chosen t held ≡ false → remembering_chosen l t p i held ≡ t
  where_not is = ap (λ b. cond b (remembering l t p i) t) is

module _ (l : Limits) (t : Tables) (m : Moment) (at : Name → ℕ) (n v : Name) (i : ℕ) (limits : AreLimits l) (within : AreWithin t) (field : IsField l (place_of at n) i)
    (inside : granule_of (at v) < GRANULES_IN_BLOCK * l.blocks) (holds : slice_get (refs_of (object_at m.state.graph n)) i ≡ Some (Some v)) where
  keeps : KeepsSet l t (remembering l t (place_of at n) i) at n i
  keeps = remembering_keeps_set l t at n i limits within field

  -- the block of what is held is one of the heap, so not each is unchosen
  not_none : is_in_chosen t (place_of at v) ≡ true → NoneChosen t l.blocks → ⊥
  not_none is none = none_counted t l.blocks (granule_of (at v) / GRANULES_IN_BLOCK) none (omega (arith, inside)) (chosen_told (state_in t (granule_of (at v) / GRANULES_IN_BLOCK)) is)

  entered : is_in_chosen t (place_of at v) ≡ true → Remembers l t (remembering l t (place_of at n) i) m at at (λ o j. (o ≡ n) × (j ≡ i))
  entered is = record {
    fields = λ o w j one held chosen. elim keeps.field [
      | inl there ↦ inl (at_one o j one there)
      | inr full ↦ inr full
    ];
    only = λ k from below room.
        let drawn : k ≡ t.cursors REMEMBERED_CURSOR = omega (arith, from, below) in
        record {
          holder = n;
          held = v;
          index = i;
          one = (refl, refl);
          holds = holds;
          chosen = chosen_told (state_in t (granule_of (at v) / GRANULES_IN_BLOCK)) is;
          entry = ap (remembering l t (place_of at n) i).remembered drawn ∙ new_entry l t (place_of at n) i (omega (arith, drawn, room));
        };
    kept = λ o j r member held. keeps.others o j;
    full = keeps.full;
    entries = keeps.entries;
    idle = λ none. absurd (not_none is none);
  }
    where
      at_one : (o : Name) (j : ℕ) → (o ≡ n) × (j ≡ i) → IsRemembered l (remembering l t (place_of at n) i) at n i → IsRemembered l (remembering l t (place_of at n) i) at o j
      at_one o j one there =
          subst (λ x. IsRemembered l (remembering l t (place_of at n) i) at x j) (sym one.0) (subst (λ x. IsRemembered l (remembering l t (place_of at n) i) at n x) (sym one.1) there)

  left : is_in_chosen t (place_of at v) ≡ false → Remembers l t t m at at (λ o j. (o ≡ n) × (j ≡ i))
  left is = record {
    fields = λ o w j one held chosen. absurd (not_chosen o w j one held chosen);
    only = λ k from below. absurd (omega (arith, from, below));
    kept = λ o j r member held there. there;
    full = λ full. full;
    entries = λ are. are;
    idle = λ none. (refl, refl);
  }
    where
      not_chosen : (o w : Name) (j : ℕ) → (o ≡ n) × (j ≡ i) → slice_get (refs_of (object_at m.state.graph o)) j ≡ Some (Some w) → IsInChosen t at w → ⊥
      not_chosen o w j one held chosen =
          let here : slice_get (refs_of (object_at m.state.graph n)) i ≡ Some (Some w) = (λ k. slice_get (refs_of (object_at m.state.graph (sym one.0 k))) (sym one.1 k)) ∙ held in
          let same : Some (Some v) ≡ Some (Some w) = sym holds ∙ here in
          let names : v ≡ w = cc in
          let set : is_in_chosen t (place_of at v) ≡ true = ap (λ x. is_chosen (state_in t (granule_of (at x) / GRANULES_IN_BLOCK))) names ∙ ap is_chosen chosen in
          cc

pub chosen_are_remembered : ChosenAreRemembered
chosen_are_remembered l t m at n v i limits within field inside holds = by (is_in_chosen t (place_of at v)) refl
  where
    by : (b : Bool) → is_in_chosen t (place_of at v) ≡ b → Remembers l t (remembering_chosen l t (place_of at n) i (place_of at v)) m at at (λ o j. (o ≡ n) × (j ≡ i))
    by true is =
        subst (λ u. Remembers l t u m at at (λ o j. (o ≡ n) × (j ≡ i))) (sym (where_chosen l t (place_of at n) i (place_of at v) is)) (entered l t m at n v i limits within field inside holds is)
    by false is =
        subst (λ u. Remembers l t u m at at (λ o j. (o ≡ n) × (j ≡ i))) (sym (where_not l t (place_of at n) i (place_of at v) is)) (left l t m at n v i limits within field inside holds is)
