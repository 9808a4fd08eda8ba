-- How many numbers of the remembered set a pause draws. What increments and a trace that is finished enter leads into blocks that were Chosen as the pause
-- began: what is promoted stands in none, and all else stands where it stood.
use Rattle.std.proofs.Common.{◌≡◌, ℕ, ◌/◌, subst, ◌∙◌, inl, inr, false, List}
use Rattle.std.specs.Prelude.{Some, slice_get}
use Rattle.std.proofs.lemmas.Bool.{false_from_ne_true}
use Rattle.lxr_layout.specs.declared.limits.Limits.{Limits}
use Rattle.lxr_layout.specs.declared.Name.{Name}
use Rattle.lxr_layout.specs.declared.TheConstants.{GRANULES_IN_BLOCK}
use Rattle.lxr_graph.specs.declared.report.Kind.{Kind}
use Rattle.lxr_graph.specs.declared.report.Kind.TheVariants as kind
use Rattle.lxr_graph.specs.Names.{has}
use Rattle.lxr_graph.specs.State.{object_at, refs_of}
use Rattle.lxr_graph.specs.History.{PauseReport}
use Rattle.lxr_image.specs.declared.space.Space.{Space}
use Rattle.lxr_image.specs.Tables.{Tables}
use Rattle.lxr_image.specs.Reads.{granule_of}
use Rattle.lxr_image.specs.Spaces.{tables_of}
use Rattle.lxr_blocks.specs.declared.states.BlockState.TheVariants.{Chosen}
use Rattle.lxr_blocks.specs.States.{KeepsState, state_in}
use Rattle.lxr_model.specs.Moments.{Field, Moment}
use Rattle.lxr_model.specs.Reports.{PauseParts}
use Rattle.lxr_invariant.specs.AbstractState.{AbstractState}
use Rattle.lxr_invariant.specs.Lines.{AvoidChosen}
use Rattle.lxr_remset.specs.Remembering.{AreEntered, LeadsIntoChosen}
use Rattle.lxr_remset.proofs.OnceLemmas.{entered_distinct, entered_leads, entered_one}
use Rattle.lxr_one_pause.specs.Pausing.{AreIntoChosen, DrawsByKind, DrawsFor, IsToRaise, WasLeftToMark}
use Rattle.lxr_one_pause.proofs.BlocksLemmas.{chosen_before}

-- a reference that leads into a Chosen block once objects are promoted did so before
leads_back : (t u : Tables) (m then : Moment) (at to : Name → ℕ) (promoted : List Name) (n : Name) (i : ℕ) → then.state.graph ≡ m.state.graph → ((b : ℕ) → KeepsState t u b) → AvoidChosen u to promoted
    → ((v : Name) → has promoted v ≡ false → to v ≡ at v) → LeadsIntoChosen u then to n i → LeadsIntoChosen t m at n i
leads_back t u m then at to promoted n i same states unchosen others leads =
    let old : has promoted leads.held ≡ false = false_from_ne_true (has promoted leads.held) (λ p. unchosen leads.held p leads.chosen) in
    record {
      held = leads.held;
      holds = subst (λ g. slice_get (refs_of (object_at g n)) i ≡ Some (Some leads.held)) same leads.holds;
      chosen = subst (λ p. state_in t (granule_of p / GRANULES_IN_BLOCK) ≡ Chosen) (others leads.held old)
          (chosen_before t u (granule_of (to leads.held) / GRANULES_IN_BLOCK) (states (granule_of (to leads.held) / GRANULES_IN_BLOCK)) leads.chosen);
    }

-- so do the references for which numbers were drawn
pub into_chosen : (l : Limits) (s : Space) (g : AbstractState) (u : Tables) (then : Moment) (to : Name → ℕ) (promoted : List Name) (IsOne IsOther : Name → ℕ → Type 0) (from : ℕ) (fields : List Field) → then.state.graph ≡ g.moment.state.graph
    → ((b : ℕ) → KeepsState (tables_of s) u b) → AvoidChosen u to promoted → ((v : Name) → has promoted v ≡ false → to v ≡ g.at v) → ((n : Name) (i : ℕ) → IsOne n i → IsOther n i)
    → AreEntered l u then to IsOne from fields → AreIntoChosen s g IsOther fields
into_chosen l s g u then to promoted IsOne IsOther from fields same states unchosen others so are = record {
  once = entered_distinct l u then to IsOne from fields are;
  each = λ n i h. (
    so n i (entered_one l u then to IsOne from fields (n, i) are h),
    leads_back (tables_of s) u g.moment then g.at to promoted n i same states unchosen others (entered_leads l u then to IsOne from fields (n, i) are h),
  );
}

-- what is meant of them may be said in other words
into_chosen_as : (s : Space) (g : AbstractState) (IsOne IsOther : Name → ℕ → Type 0) (fields : List Field) → ((n : Name) (i : ℕ) → IsOne n i → IsOther n i) → AreIntoChosen s g IsOne fields → AreIntoChosen s g IsOther fields
into_chosen_as s g IsOne IsOther fields so are = record { once = are.once; each = λ n i h. let x = are.each n i h in (so n i x.0, x.1) }

draws_as : (s : Space) (g : AbstractState) (IsOne IsOther : Name → ℕ → Type 0) (first end : ℕ) → ((n : Name) (i : ℕ) → IsOne n i → IsOther n i) → DrawsFor s g IsOne first end → DrawsFor s g IsOther first end
draws_as s g IsOne IsOther first end so draws = record { entered = draws.entered; are = into_chosen_as s g IsOne IsOther draws.entered so draws.are; drawn = draws.drawn }

-- numbers that were drawn are, whatever the order of names
module _ (s : Space) (g : AbstractState) (parts ordered : PauseParts) (r told : PauseReport) (promoted : (n : Name) → has told.promoted n ≡ has r.promoted n) (swept : (n : Name) → has told.swept n ≡ has r.swept n)
    (first : (n : Name) → has ordered.first_dead n ≡ has parts.first_dead n) (second : (n : Name) → has ordered.second_dead n ≡ has parts.second_dead n) where
  raised_then : (n : Name) (i : ℕ) → IsToRaise g r n i → IsToRaise g told n i
  raised_then n i (inl h) = inl (promoted n ∙ h)
  raised_then n i (inr h) = inr h

  left_then : (n : Name) → WasLeftToMark s g parts r n → WasLeftToMark s g ordered told n
  left_then n was = record { member = was.member; unmarked = was.unmarked; first = first n ∙ was.first; second = second n ∙ was.second; unswept = swept n ∙ was.unswept }

  pub draws_told : (k : Kind) (from to : ℕ) → DrawsByKind k s g parts r from to → DrawsByKind k s g ordered told from to
  draws_told kind.Plain from to draws = draws_as s g (IsToRaise g r) (IsToRaise g told) from to raised_then draws
  draws_told kind.Begin from to draws = draws
  draws_told (kind.End j) from to (between, raised, scanned) = (
    between,
    draws_as s g (IsToRaise g r) (IsToRaise g told) from between raised_then raised,
    draws_as s g (λ n i. WasLeftToMark s g parts r n) (λ n i. WasLeftToMark s g ordered told n) between to (λ n i was. left_then n was) scanned,
  )
  draws_told kind.Collect from to draws = draws_as s g (IsToRaise g r) (IsToRaise g told) from to raised_then draws
