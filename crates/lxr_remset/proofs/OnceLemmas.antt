-- What holds of references for which numbers of the remembered set were drawn holds of each of them.
use Rattle.std.proofs.Common.{◌≡◌, ℕ, ◌+◌, ◌/◌, ◌<◌, sym, ap, subst, ◌∙◌, inl, inr, List, [], ◌∷◌, IsTrue, length}
use Rattle.lxr_layout.specs.declared.TheConstants.{GRANULES_IN_BLOCK, WORDS_IN_LINE}
use Rattle.lxr_layout.specs.Runs.{word_of_entry}
use Rattle.lxr_layout.specs.declared.limits.Limits.{Limits}
use Rattle.lxr_layout.specs.declared.Name.{Name}
use Rattle.lxr_image.specs.Tables.{Tables}
use Rattle.lxr_image.specs.Reads.{granule_of}
use Rattle.lxr_blocks.specs.States.{state_of}
use Rattle.lxr_invariant.specs.Standing.{place_of, word_of_field}
use Rattle.lxr_model.specs.Moments.{Field, Moment}
use Rattle.lxr_model_counting.specs.Distinct.{AreDistinctFields, has_field}
use Rattle.lxr_model_counting.proofs.DistinctLemmas.{field_split}
use Rattle.lxr_remset.specs.Remembering.{AreEntered, LeadsIntoChosen}

module _ (l : Limits) (t : Tables) (m : Moment) (now : Name → ℕ) (IsOne : Name → ℕ → Type 0) (from : ℕ) where
  pub entered_one : (fields : List Field) (w : Field) → AreEntered l t m now IsOne from fields → IsTrue (has_field fields w) → IsOne w.0 w.1
  entered_one [] w are h = absurd (cc)
  entered_one (f ∷ fields) w are h = elim (field_split f fields w h) [
    | inl e ↦ subst (λ z. IsOne z.0 z.1) (sym e) are.0
    | inr later ↦ entered_one fields w are.4 later
  ]

  pub entered_leads : (fields : List Field) (w : Field) → AreEntered l t m now IsOne from fields → IsTrue (has_field fields w) → LeadsIntoChosen t m now w.0 w.1
  entered_leads [] w are h = absurd (cc)
  entered_leads (f ∷ fields) w are h = elim (field_split f fields w h) [
    | inl e ↦ subst (λ z. LeadsIntoChosen t m now z.0 z.1) (sym e) are.1
    | inr later ↦ entered_leads fields w are.4 later
  ]

  pub entered_distinct : (fields : List Field) → AreEntered l t m now IsOne from fields → AreDistinctFields fields
  entered_distinct [] are = tt
  entered_distinct (f ∷ fields) are = (are.2, entered_distinct fields are.4)

  -- what is meant of them may be said less exactly
  pub entered_as : (IsOther : Name → ℕ → Type 0) (fields : List Field) → ((n : Name) (i : ℕ) → IsOne n i → IsOther n i) → AreEntered l t m now IsOne from fields → AreEntered l t m now IsOther from fields
  entered_as IsOther [] so are = tt
  entered_as IsOther (f ∷ fields) so are = (so f.0 f.1 are.0, are.1, are.2, are.3, entered_as IsOther fields so are.4)

-- where entries, counters of lines and states stay, so does what was drawn
pub entered_alike : (l k : Limits) (t u : Tables) (m : Moment) (now : Name → ℕ) (IsOne : Name → ℕ → Type 0) (from : ℕ) (fields : List Field) → k ≡ l → u.remembered ≡ t.remembered → u.reuse ≡ t.reuse → u.states ≡ t.states
    → AreEntered l t m now IsOne from fields → AreEntered k u m now IsOne from fields
entered_alike l k t u m now IsOne from [] limits remembered reuse states are = tt
entered_alike l k t u m now IsOne from (f ∷ fields) limits remembered reuse states are = (
  are.0,
  record { held = are.1.held; holds = are.1.holds; chosen = ap (λ g. state_of (g (granule_of (now are.1.held) / GRANULES_IN_BLOCK))) states ∙ are.1.chosen },
  are.2,
  λ room.
      ap (λ g. g (from + length fields)) remembered ∙ are.3 (subst (λ z. from + length fields < z.remember) limits room)
      ∙ ap (λ g. word_of_entry l.blocks (g (word_of_field now f.0 f.1 / WORDS_IN_LINE)) (place_of now f.0) f.1) (sym reuse)
      ∙ ap (λ (z : Limits). word_of_entry z.blocks (u.reuse (word_of_field now f.0 f.1 / WORDS_IN_LINE)) (place_of now f.0) f.1) (sym limits),
  entered_alike l k t u m now IsOne from fields limits remembered reuse states are.4,
)
