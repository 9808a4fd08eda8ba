-- A whole unit, from its first step on: what is left of a unit in each phase makes the whole, together with the step of that phase.
use Rattle.std.proofs.Common.{◌≡◌, ◌∙◌, ℕ, Bool, true, false, List, [], ◌∷◌, ◌++◌, refl, ap, sym, subst}
use Rattle.std.specs.Prelude.{◌&&◌, if◌then◌else◌, IsSome, Option, Some, None}
use Rattle.lxr_layout.specs.declared.Place.{Place}
use Rattle.lxr_layout.specs.declared.limits.Regions.{Regions}
use Rattle.lxr_base.specs.Roomy.{Roomy, pushed}
use Rattle.lxr_actor.specs.declared.Action.{Action}
use Rattle.lxr_helper.specs.declared.states.HelperState.{HelperState}
use Rattle.lxr_helper.specs.Looks.{start_look}
use Rattle.lxr_helper.specs.Pockets.{last_of, without_last}
use Rattle.lxr_helper.specs.Units.{Runs, Told, told}
use Rattle.lxr_helper.specs.Units as run
use Rattle.lxr_helper.specs.Words.{has_bit}
use Rattle.lxr_helper.specs.Helpers.{Work, action, after, after_in, begun, goes_to, helper_machine, in_phase, led, looks_on, tries_next}
use Rattle.lxr_helper.specs.HelperLaws.{EndsByRules, IsLawful, UnitsEndByRules}
use Rattle.lxr_helper.specs.HelperUnits.{ClaimsObject, DoesUnit, NeedsNoWork}
use Rattle.lxr_helper.specs.HelperUnits as unit
use Rattle.lxr_helper.proofs.HelperLemmas.{begun_regions, unfinished}
use Rattle.lxr_helper.proofs.PocketLemmas.{FromEnd, is_empty, has_last, from_end, last_pushed, without_pushed}

module _ {P E : Type 0} (w : Work P E) (asking : Regions → Place → Action) (is_needed : Place → ℕ → Bool) (claim : Regions → Place → Action)
    (Handles : Regions → Place → Roomy Place → List Told → Roomy Place → E → Type 0) (Turns : Regions → Roomy Place → List Told → Roomy Place → E → Type 0) where
  -- whole units
  abbrev pub Does : Regions → Roomy Place → List Told → Roomy Place → E → Type 0
  Does r pocket ts pocket' how = DoesUnit asking is_needed claim r (Handles r) (Turns r) pocket ts pocket' how

  -- the rest of a unit that began with this pocket ends by the rules
  pub record Finishes (r : Regions) (pocket : Roomy Place) (ts : List Told) (h' : HelperState P E) : Type 0 where
    pub how : E
    pub end : h'.end ≡ Some how
    pub does : Does r pocket ts h'.pocket how

  -- a place that needs no work is given up before the rest
  gives_up : (r : Regions) (pocket : Roomy Place) (place : Place) (first others : List Told) (h' : HelperState P E) → NeedsNoWork asking is_needed claim r place first → Finishes r pocket others h'
      → Finishes r (pushed pocket place) (first ++ others) h'
  gives_up r pocket place first others h' needs rest = record {
    how = rest.how;
    end = rest.end;
    does = unit.gives_up pocket h'.pocket place first others rest.how needs rest.does;
  }

  -- the steps ts are the rest of the unit of a helper in this phase, whatever it found before
  module _ (Rest : HelperState P E → P → List Told → HelperState P E → Type 0) where
    -- what is left of a helper's unit
    abbrev pub RestOf : HelperState P E → List Told → HelperState P E → Type 0
    RestOf h ts h' = Rest h h.phase ts h'

    -- a unit that begins with a place, or with none, makes a whole
    module _ (asked : (h : HelperState P E) (place : Place) (ts : List Told) (h' : HelperState P E) → Rest h (w.question (Some place)) ts h' → Finishes h.regions (pushed h.pocket place) ts h')
        (turned : (h : HelperState P E) (ts : List Told) (h' : HelperState P E) → h.pocket.items ≡ [] → Rest h (w.question None) ts h' → Finishes h.regions h.pocket ts h') where
      -- a unit that looks on does what a unit of its pocket does
      looks_by : (h : HelperState P E) (places : List Place) → FromEnd places → (ts : List Told) (h' : HelperState P E)
          → Rest (record h { pocket = record h.pocket { items = without_last places }; phase = w.question (last_of places) }) (w.question (last_of places)) ts h'
          → Finishes h.regions (record h.pocket { items = places }) ts h'
      looks_by h _ is_empty ts h' rest = turned (record h { pocket = record h.pocket { items = [] }; phase = w.question None }) ts h' refl rest
      looks_by h _ (has_last places place) ts h' rest =
          let left : List Place = without_last (places ++ place ∷ []) in
          let at : Rest (record h { pocket = record h.pocket { items = left }; phase = w.question (Some place) }) (w.question (Some place)) ts h' =
          subst (λ item. Rest (record h { pocket = record h.pocket { items = left }; phase = w.question item }) (w.question item) ts h') (last_pushed places place) rest in
          subst (λ (items : List Place). Finishes h.regions (pushed (record h.pocket { items = items }) place) ts h') (without_pushed places place)
          (asked (record h { pocket = record h.pocket { items = left }; phase = w.question (Some place) }) place ts h' at)

      pub looks_finish : (h : HelperState P E) (ts : List Told) (h' : HelperState P E) → RestOf (looks_on w h) ts h' → Finishes h.regions h.pocket ts h'
      looks_finish h ts h' rest = looks_by h h.pocket.items (from_end h.pocket.items) ts h' rest

      -- once the start bit was looked at, by whether work is needed and what the bit was
      pub start_by : (h : HelperState P E) (place : Place) (p : P) (a s : ℕ) (ts : List Told) (h' : HelperState P E) → (x b : Bool) → is_needed place a ≡ x → has_bit place s ≡ b
          → (is_needed place a ≡ true → has_bit place s ≡ true → Rest (in_phase w h p) p ts h' → Finishes h.regions (pushed h.pocket place) (told (asking h.regions place) a ∷ told (start_look h.regions place) s ∷ ts) h')
          → RestOf (led w h (if x && b then goes_to p else tries_next)) ts h'
          → Finishes h.regions (pushed h.pocket place) (told (asking h.regions place) a ∷ told (start_look h.regions place) s ∷ ts) h'
      start_by h place p a s ts h' true true needed start on rest = on needed start rest
      start_by h place p a s ts h' true false needed start on rest =
          gives_up h.regions h.pocket place (told (asking h.regions place) a ∷ told (start_look h.regions place) s ∷ []) ts h' (unit.unstarted a s start) (looks_finish h ts h' rest)
      start_by h place p a s ts h' false b needed start on rest =
          gives_up h.regions h.pocket place (told (asking h.regions place) a ∷ told (start_look h.regions place) s ∷ []) ts h' (unit.unneeded a s needed) (looks_finish h ts h' rest)

      -- once the bit that claims was set, by what it was
      pub claim_by : (h : HelperState P E) (place : Place) (p : P) (a s b : ℕ) (ts : List Told) (h' : HelperState P E) → is_needed place a ≡ true → has_bit place s ≡ true
          → (was : Bool) → has_bit place b ≡ was
          → (Rest (in_phase w h p) p ts h' → (how : E) × (h'.end ≡ Some how) × Handles h.regions place h.pocket ts h'.pocket how)
          → RestOf (led w h (if was then tries_next else goes_to p)) ts h'
          → Finishes h.regions (pushed h.pocket place) (told (asking h.regions place) a ∷ told (start_look h.regions place) s ∷ told (claim h.regions place) b ∷ ts) h'
      claim_by h place p a s b ts h' needed start true e on rest =
          gives_up h.regions h.pocket place (told (asking h.regions place) a ∷ told (start_look h.regions place) s ∷ told (claim h.regions place) b ∷ []) ts h'
          (unit.claimed_before a s b needed start e) (looks_finish h ts h' rest)
      claim_by h place p a s b ts h' needed start false e on rest =
          let (how, end, handles) = on rest in
          record {
            how = how;
            end = end;
            does = unit.handles h.pocket h'.pocket place (told (asking h.regions place) a ∷ told (start_look h.regions place) s ∷ told (claim h.regions place) b ∷ []) ts how
                (unit.claims a s b needed start e) handles;
          }

      -- ---- runs

      -- the step of each phase comes before what is left after it, and one that rests has nothing left
      module _ (law : IsLawful w) (before : (h : HelperState P E) (p : P) (act : Action) (word : ℕ) (ts : List Told) (h' : HelperState P E) → w.action h.regions p ≡ Some act
          → RestOf (after_in w h p word) ts h' → Rest h p (told act word ∷ ts) h') (through : (h : HelperState P E) → Rest h w.resting [] h) where
        rests_through : (h : HelperState P E) → w.rests h.phase ≡ true → RestOf h [] h
        rests_through h e = subst (λ p. Rest h p [] h) (sym (law.one_rest h.phase e)) (through h)

        -- its next step is that of the unit that it has begun
        begun_does : (h : HelperState P E) (act : Action) → action w h ≡ Some act → w.action (begun w h).regions (begun w h).phase ≡ Some act
        begun_does h act does = ap (λ r. w.action r (begun w h).phase) (begun_regions w h) ∙ (sym (unfinished w h (subst IsSome (sym does) refl)) ∙ does)

        -- what a helper that has begun does from here on is the rest of its unit
        begun_rest : (h h' : HelperState P E) (ts : List Told) → Runs (helper_machine w) h ts h' → RestOf (begun w h) ts h'
        begun_rest h _ _ (run.ends _ act word does rests) =
            before (begun w h) (begun w h).phase act word [] (after w h word) (begun_does h act does) (rests_through (after w h word) rests)
        begun_rest h h' _ (run.goes_on _ _ act word ts does busy runs) =
            let on = begun_rest (after w h word) h' ts runs in
            before (begun w h) (begun w h).phase act word ts h' (begun_does h act does)
            (subst (λ b. RestOf (if b then looks_on w (after w h word) else after w h word) ts h') busy on)

        -- each unit ends by the rules
        pub end_by_rules : UnitsEndByRules w Does
        end_by_rules h h' ts rests runs =
            let rest = begun_rest h h' ts runs in
            let whole = looks_finish h ts h' (subst (λ b. RestOf (if b then looks_on w h else h) ts h') rests rest) in
            record { how = whole.how; end = whole.end; does = whole.does }
