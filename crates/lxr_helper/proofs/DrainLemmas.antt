-- A unit that finds nothing has gone through its whole pocket: a helper turns to anything else only once its pocket is empty.
use Rattle.std.proofs.Common.{◌≡◌, ℕ, Bool, true, false, List, [], refl, ap, sym, subst}
use Rattle.std.specs.Prelude.{if◌then◌else◌, Option, Some, None}
use Rattle.lxr_layout.specs.declared.Place.{Place}
use Rattle.lxr_layout.specs.declared.limits.Regions.{Regions}
use Rattle.lxr_helper.specs.declared.states.HelperState.{HelperState}
use Rattle.lxr_helper.specs.Pockets.{last_of, taken_from, without_last}
use Rattle.lxr_helper.specs.Helpers.{Outcome, Work, action, after, begun, ends, goes_to, keeping, led, looks_on, tries_next}
use Rattle.lxr_helper.specs.HelperLaws.{IsInUnit, IsLawful}
use Rattle.lxr_helper.proofs.HelperLemmas.{begun_busy, finished_by_rule}
use Rattle.lxr_helper.proofs.PocketLemmas.{FromEnd, from_end, has_last, is_empty, last_pushed}

-- ---- pockets

none_left : (places : List Place) → FromEnd places → last_of places ≡ None → without_last places ≡ []
none_left places is_empty none = refl
none_left places (has_last before last) none = absurd (let some = last_pushed before last in cc)

-- a pocket without a last place is empty
taken_none : (places : List Place) → last_of places ≡ None → without_last places ≡ []
taken_none places none = none_left places (from_end places) none

-- ---- what holds of a helper in its unit and behind it

-- in some phases a helper has turned to what isn't in its pocket
module _ {P E : Type 0} (w : Work P E) (law : IsLawful w) (turned : P → Bool) where
  -- where it has turned, or rests and has found nothing, its pocket is empty
  pub record Drained (h : HelperState P E) : Type 0 where
    pub turned_on : turned h.phase ≡ true → h.pocket.items ≡ []
    pub found : w.rests h.phase ≡ true → h.end ≡ Some w.nothing → h.pocket.items ≡ []

  -- this doesn't lead to turning, nor to an end with nothing
  abbrev pub StaysWithin : Outcome P E → Type 0
  StaysWithin (goes_to p) = turned p ≡ false
  StaysWithin tries_next = Unit {0}
  StaysWithin (ends how) = w.is_nothing how ≡ false

  -- it turns only where there is no place to go on with, and puts none into its pocket then
  pub record TurnsByRule : Type 0 where
    pub rests : turned w.resting ≡ false
    pub asks : (place : Place) → turned (w.question (Some place)) ≡ false
    pub stays : (r : Regions) (p : P) (word : ℕ) → w.rests p ≡ false → turned p ≡ false → StaysWithin (w.leads r p word)
    pub keeps : (p : P) (word : ℕ) → turned p ≡ true → w.keeps p word ≡ None

  pub empty_drained : (h : HelperState P E) → h.pocket.items ≡ [] → Drained h
  empty_drained h none = record { turned_on = λ e. none; found = λ e f. none }

  led_empty : (h : HelperState P E) (o : Outcome P E) → h.pocket.items ≡ [] → (led w h o).pocket.items ≡ []
  led_empty h (goes_to p) none = none
  led_empty h tries_next none = ap without_last none
  led_empty h (ends how) none = none

  module _ (rule : TurnsByRule) where
    question_turns : (h : HelperState P E) (item : Option Place) → last_of h.pocket.items ≡ item → turned (w.question item) ≡ true → without_last h.pocket.items ≡ []
    question_turns h None none e = taken_none h.pocket.items none
    question_turns h (Some place) some e = absurd (let asks = rule.asks place in cc)

    looks_on_turns : (h : HelperState P E) → turned (looks_on w h).phase ≡ true → (looks_on w h).pocket.items ≡ []
    looks_on_turns h e = question_turns h (last_of h.pocket.items) refl e

    begun_turns_by : (h : HelperState P E) (b : Bool) → w.rests h.phase ≡ b → (w.rests h.phase ≡ false → Drained h) → turned (if b then looks_on w h else h).phase ≡ true
        → (if b then looks_on w h else h).pocket.items ≡ []
    begun_turns_by h true rests before e = looks_on_turns h e
    begun_turns_by h false rests before e = (before rests).turned_on e

    led_drained : (h : HelperState P E) (o : Outcome P E) → IsInUnit w o → StaysWithin o → Drained (led w h o)
    led_drained h (goes_to p) busy within = record { turned_on = λ e. absurd (cc); found = λ e f. absurd (cc) }
    led_drained h tries_next busy within = record { turned_on = looks_on_turns h; found = λ e f. absurd (let asks = law.asks (last_of h.pocket.items) in cc) }
    led_drained h (ends how) busy within =
        record { turned_on = λ e. absurd (let rests = rule.rests in cc); found = λ e f. absurd (let nothing = law.nothing in let same : how ≡ w.nothing = cc in cc) }

    after_by : (b : HelperState P E) (word : ℕ) (t : Bool) → w.rests b.phase ≡ false → turned b.phase ≡ t → (turned b.phase ≡ true → b.pocket.items ≡ [])
        → Drained (led w (keeping w b (w.keeps b.phase word)) (w.leads b.regions b.phase word))
    after_by b word true busy e none =
        let kept : keeping w b (w.keeps b.phase word) ≡ b = ap (keeping w b) (rule.keeps b.phase word e) in
        subst (λ x. Drained (led w x (w.leads b.regions b.phase word))) (sym kept)
        (empty_drained (led w b (w.leads b.regions b.phase word)) (led_empty b (w.leads b.regions b.phase word) (none e)))
    after_by b word false busy e none =
        led_drained (keeping w b (w.keeps b.phase word)) (w.leads b.regions b.phase word) (law.in_unit b.regions b.phase word busy) (rule.stays b.regions b.phase word busy e)

    -- so it is after each step
    pub after_drained : (h : HelperState P E) (word : ℕ) → (w.rests h.phase ≡ false → Drained h) → Drained (after w h word)
    after_drained h word before =
        let b = begun w h in
        after_by b word (turned b.phase) (begun_busy w law h) refl (begun_turns_by h (w.rests h.phase) refl before)

    -- a finished helper's pocket is empty
    pub finished_drained : (h : HelperState P E) → action w h ≡ None → Drained h
    finished_drained h none = empty_drained h (((finished_by_rule w law).finished h).0 none).no_place
