-- Whatever their work, helpers stay what they are, come nearer to the end of their unit with each step, and are finished by one rule.
use Rattle.std.proofs.Common.{◌≡◌, ◌∙◌, ℕ, ◌+◌, ◌<◌, ◌≤◌, Bool, true, false, List, [], ◌∷◌, ◌++◌, length, arith, refl, ap, sym, subst}
use Rattle.std.specs.Prelude.{◌&&◌, nat_eq, nat_lt, if◌then◌else◌, IsSome, Option, Some, None}
use Rattle.std.proofs.lemmas.List.{length-append}
use Rattle.std.proofs.lemmas.List.Elements.{All-nil}
use Rattle.lxr_layout.specs.declared.Place.{Place}
use Rattle.lxr_layout.specs.declared.limits.Limits.{Limits}
use Rattle.lxr_layout.specs.declared.limits.Regions.{Regions}
use Rattle.lxr_base.specs.Roomy.{pushed}
use Rattle.lxr_actor.specs.declared.Action.{Action}
use Rattle.lxr_actor.specs.Machine.{to_go}
use Rattle.lxr_helper.specs.declared.states.HelperState.{HelperState}
use Rattle.lxr_helper.specs.Pockets.{has_room, kept, last_of, taken_from}
use Rattle.lxr_helper.specs.Words.{InHeap, is_in_heap}
use Rattle.lxr_helper.specs.Helpers.{IsHelper, Outcome, Work, action, after, after_in, again, begun, ends, found_nothing, goes_to, helper_machine, in_phase, is_finished, keeping, led, left, looks_on, offered, through, tries_next}
use Rattle.lxr_helper.specs.HelperLaws.{FinishedByRule, IsFinished, IsInUnit, IsLawful, MayLead, StaysSo, UnitsAreShort}
use Rattle.lxr_helper.proofs.IndexLemmas.{have_indexes}
use Rattle.lxr_helper.proofs.PocketLemmas.{all_left, all_pushed, fewer_left, last_holds, pushed_is, taken_is}

-- what holds of either holds of the one that is taken
pub either : {X : Type 0} (Q : X → Type 0) (b : Bool) (x y : X) → (b ≡ true → Q x) → (b ≡ false → Q y) → Q (if b then x else y)
either Q true x y first second = first refl
either Q false x y first second = second refl

module _ {P E : Type 0} (w : Work P E) where
  -- ---- its space

  led_regions : (h : HelperState P E) (o : Outcome P E) → (led w h o).regions ≡ h.regions
  led_regions h (goes_to p) = refl
  led_regions h tries_next = refl
  led_regions h (ends how) = refl

  keeping_regions : (h : HelperState P E) (place : Option Place) → (keeping w h place).regions ≡ h.regions
  keeping_regions h None = refl
  keeping_regions h (Some place) = refl

  begun_regions_by : (h : HelperState P E) (b : Bool) → (if b then looks_on w h else h).regions ≡ h.regions
  begun_regions_by h true = refl
  begun_regions_by h false = refl

  pub begun_regions : (h : HelperState P E) → (begun w h).regions ≡ h.regions
  begun_regions h = begun_regions_by h (w.rests h.phase)

  after_regions : (h : HelperState P E) (word : ℕ) → (after w h word).regions ≡ h.regions
  after_regions h word =
      let b = begun w h in
      led_regions (keeping w b (w.keeps b.phase word)) (w.leads b.regions b.phase word) ∙ (keeping_regions b (w.keeps b.phase word) ∙ begun_regions h)

  -- ---- its phase, where a place is offered

  -- what an offer leads to, and whether it is taken
  abbrev offered_if : HelperState P E → Place → Bool → HelperState P E × Bool
  offered_if h place taken = if taken then (record h { pocket = pushed h.pocket place }, true) else (h, false)

  -- a place that is offered leaves the phase
  offered_rests_by : (h : HelperState P E) (place : Place) (taken : Bool) → w.rests (offered_if h place taken).0.phase ≡ w.rests h.phase
  offered_rests_by h place true = refl
  offered_rests_by h place false = refl

  pub offered_rests : (h : HelperState P E) (place : Place) → w.rests (offered w h place).0.phase ≡ w.rests h.phase
  offered_rests h place = offered_rests_by h place (is_in_heap h.regions place.0 && has_room h.pocket)

  -- ---- its next step

  same_by : (act : Option Action) (finished : Bool) → IsSome (if finished then None else act) → (if finished then None else act) ≡ act
  same_by act true some = absurd (cc)
  same_by act false some = refl

  -- a next step, where there is one, is that of the unit that has begun
  pub unfinished : (h : HelperState P E) → IsSome (action w h) → action w h ≡ w.action h.regions (begun w h).phase
  unfinished h some = same_by (w.action h.regions (begun w h).phase) (is_finished w h) some

  module _ (law : IsLawful w) where
    -- ---- the next step

    begun_busy_by : (h : HelperState P E) (b : Bool) → w.rests h.phase ≡ b → w.rests (if b then looks_on w h else h).phase ≡ false
    begun_busy_by h true e = law.asks (last_of h.pocket.items)
    begun_busy_by h false e = e

    -- a unit that begins is in progress then
    pub begun_busy : (h : HelperState P E) → w.rests (begun w h).phase ≡ false
    begun_busy h = begun_busy_by h (w.rests h.phase) refl

    some_by : (act : Option Action) (finished : Bool) → IsSome act → finished ≡ false → IsSome (if finished then None else act)
    some_by act true some e = absurd (cc)
    some_by act false some e = some

    -- a unit that has begun has a next step
    begun_acts : (h : HelperState P E) → IsSome (w.action h.regions (begun w h).phase)
    begun_acts h = law.acts h.regions (begun w h).phase (begun_busy h)

    goes_on : (h : HelperState P E) → is_finished w h ≡ false → IsSome (action w h)
    goes_on h e = some_by (w.action h.regions (begun w h).phase) (is_finished w h) (begun_acts h) e

    none_by : (act : Option Action) (finished : Bool) → IsSome act → (if finished then None else act) ≡ None → finished ≡ true
    none_by act true some e = refl
    none_by None false some e = absurd (cc)
    none_by (Some act) false some e = absurd (cc)

    -- ---- the test

    end_by : (end : Option E) → found_nothing w end ≡ true → end ≡ Some w.nothing
    end_by None e = absurd (cc)
    end_by (Some how) e = ap Some (law.one_nothing how e)

    empty_by : (places : List Place) → nat_eq (length places) 0 ≡ true → places ≡ []
    empty_by [] e = refl
    empty_by (place ∷ places) e = absurd (grind arith)

    all_three : (a b c : Bool) → (a && (b && c)) ≡ true → (a ≡ true) × (b ≡ true) × (c ≡ true)
    all_three true true c e = (refl, refl, e)
    all_three true false c e = absurd (cc)
    all_three false b c e = absurd (cc)

    finished_is : (h : HelperState P E) → is_finished w h ≡ true → IsFinished w h
    finished_is h e =
        let tests = all_three (w.rests h.phase) (found_nothing w h.end) (nat_eq (length h.pocket.items) 0) e in
        record { rests = law.one_rest h.phase tests.0; found_nothing = end_by h.end tests.1; no_place = empty_by h.pocket.items tests.2 }

    -- the test finds each that is finished
    test_finds : (h : HelperState P E) → IsFinished w h → is_finished w h ≡ true
    test_finds h is =
        ap (λ p. w.rests p && (found_nothing w h.end && nat_eq (length h.pocket.items) 0)) is.rests
        ∙ (ap (λ b. b && (found_nothing w h.end && nat_eq (length h.pocket.items) 0)) law.resting
        ∙ (ap (λ end. found_nothing w end && nat_eq (length h.pocket.items) 0) is.found_nothing
        ∙ (ap (λ b. b && nat_eq (length h.pocket.items) 0) law.nothing ∙ ap (λ (places : List Place). nat_eq (length places) 0) is.no_place)))

    finished_none : (h : HelperState P E) → IsFinished w h → action w h ≡ None
    finished_none h is = ap (λ finished. if finished then None else w.action h.regions (begun w h).phase) (test_finds h is)

    none_finished : (h : HelperState P E) → action w h ≡ None → IsFinished w h
    none_finished h none = finished_is h (none_by (w.action h.regions (begun w h).phase) (is_finished w h) (begun_acts h) none)

    -- ---- offers

    -- a pocket with a place isn't empty
    test_fails : (rests nothing : Bool) (places : List Place) (place : Place) → (rests && (nothing && nat_eq (length (places ++ place ∷ [])) 0)) ≡ false
    test_fails false nothing places place = refl
    test_fails true false places place = refl
    test_fails true true places place = let more = length-append places (place ∷ []) in grind arith

    taken_by : (h : HelperState P E) (place : Place) (taken : Bool) → (offered_if h place taken).1 ≡ true → IsSome (action w (offered_if h place taken).0)
    taken_by h place true e = goes_on (offered_if h place true).0 (test_fails (w.rests h.phase) (found_nothing w h.end) h.pocket.items place)
    taken_by h place false e = absurd (cc)

    refused_by : (h : HelperState P E) (place : Place) (taken : Bool) → (offered_if h place taken).1 ≡ false → (offered_if h place taken).0 ≡ h
    refused_by h place true e = absurd (cc)
    refused_by h place false e = refl

    nothing_yet : (rests : Bool) → (rests && false) ≡ false
    nothing_yet true = refl
    nothing_yet false = refl

    pub finished_by_rule : FinishedByRule w
    finished_by_rule = record {
      finished = λ h. (none_finished h, finished_none h);
      taken = λ h place. taken_by h place (is_in_heap h.regions place.0 && has_room h.pocket);
      refused = λ h place. refused_by h place (is_in_heap h.regions place.0 && has_room h.pocket);
      again = λ h. goes_on (again w h) (nothing_yet (w.rests w.resting));
    }

    -- ---- ends

    led_tells : (h : HelperState P E) (o : Outcome P E) → IsInUnit w o → w.rests (led w h o).phase ≡ true → IsSome (led w h o).end
    led_tells h (goes_to p) busy rests = absurd (cc)
    led_tells h tries_next busy rests = absurd (let asks = law.asks (last_of h.pocket.items) in cc)
    led_tells h (ends how) busy rests = refl

    -- a step that leads to rest tells how the unit ended
    pub after_tells : (h : HelperState P E) (word : ℕ) → w.rests (after w h word).phase ≡ true → IsSome (after w h word).end
    after_tells h word rests =
        let b = begun w h in
        led_tells (keeping w b (w.keeps b.phase word)) (w.leads b.regions b.phase word) (law.in_unit b.regions b.phase word (begun_busy h)) rests

    -- ---- what holds of it

    question_may : (h : HelperState P E) (item : Option Place) → IsHelper w h → last_of h.pocket.items ≡ item → w.may h.regions (w.question item)
    question_may h None is e = law.may_turn h.regions
    question_may h (Some place) is e = law.may_ask h.regions place (last_holds (InHeap h.regions) h.pocket.items place is.places e)

    looks_on_stays : (h : HelperState P E) → IsHelper w h → IsHelper w (looks_on w h)
    looks_on_stays h is = record {
      indexes = is.indexes;
      pocket = taken_is h.pocket is.pocket;
      places = all_left (InHeap h.regions) h.pocket.items is.places;
      phase = question_may h (last_of h.pocket.items) is refl;
    }

    begun_stays_by : (h : HelperState P E) (b : Bool) → IsHelper w h → IsHelper w (if b then looks_on w h else h)
    begun_stays_by h true is = looks_on_stays h is
    begun_stays_by h false is = is

    pub begun_stays : (h : HelperState P E) → IsHelper w h → IsHelper w (begun w h)
    begun_stays h is = begun_stays_by h (w.rests h.phase) is

    -- with a further place in its pocket, for which there is room
    pushed_stays : (h : HelperState P E) (place : Place) → IsHelper w h → InHeap h.regions place → length h.pocket.items < 64 → IsHelper w (record h { pocket = pushed h.pocket place })
    pushed_stays h place is within room = record {
      indexes = is.indexes;
      pocket = pushed_is h.pocket place is.pocket room;
      places = all_pushed (InHeap h.regions) h.pocket.items place is.places within;
      phase = is.phase;
    }

    kept_by : (h : HelperState P E) (place : Place) → IsHelper w h → InHeap h.regions place → (b : Bool) → nat_lt (length h.pocket.items) 64 ≡ b
        → IsHelper w (record h { pocket = if b then pushed h.pocket place else h.pocket })
    kept_by h place is within true e = pushed_stays h place is within (grind arith)
    kept_by h place is within false e = is

    keeping_stays : (h : HelperState P E) (item : Option Place) → IsHelper w h → ((place : Place) → item ≡ Some place → InHeap h.regions place) → IsHelper w (keeping w h item)
    keeping_stays h None is within = is
    keeping_stays h (Some place) is within = kept_by h place is (within place refl) (has_room h.pocket) refl

    led_stays : (h : HelperState P E) (n most : ℕ) (o : Outcome P E) → IsHelper w h → MayLead w h.regions n most o → IsHelper w (led w h o)
    led_stays h n most (goes_to p) is may = record { indexes = is.indexes; pocket = is.pocket; places = is.places; phase = may.0 }
    led_stays h n most tries_next is may = looks_on_stays h is
    led_stays h n most (ends how) is may = record { indexes = is.indexes; pocket = is.pocket; places = is.places; phase = law.may_rest h.regions }

    -- where the step of a unit that has begun leads
    begun_leads : (h : HelperState P E) (word : ℕ) → IsHelper w h → let b = begun w h in
        MayLead w b.regions (length (keeping w b (w.keeps b.phase word)).pocket.items) (w.left (length b.pocket.items) b.phase) (w.leads b.regions b.phase word)
    begun_leads h word is =
        let b = begun w h in
        let so = begun_stays h is in
        law.leads b.regions b.phase word (length b.pocket.items) (length (keeping w b (w.keeps b.phase word)).pocket.items) so.indexes so.phase (begun_busy h)
        (λ none. ap (λ item. length (keeping w b item).pocket.items) none)

    after_stays : (h : HelperState P E) (word : ℕ) → IsHelper w h → IsHelper w (after w h word)
    after_stays h word is =
        let b = begun w h in
        let so = begun_stays h is in
        let k = keeping w b (w.keeps b.phase word) in
        let n = length k.pocket.items in
        let most = w.left (length b.pocket.items) b.phase in
        led_stays k n most (w.leads b.regions b.phase word) (keeping_stays b (w.keeps b.phase word) so (λ place e. law.keeps b.regions b.phase word place so.phase e))
        (subst (λ r. MayLead w r n most (w.leads b.regions b.phase word)) (sym (keeping_regions b (w.keeps b.phase word))) (begun_leads h word is))

    abbrev LeavesOne : HelperState P E × Bool → Type 0
    LeavesOne to = IsHelper w to.0

    offered_by : (h : HelperState P E) (place : Place) → IsHelper w h → (a b : Bool) → is_in_heap h.regions place.0 ≡ a → has_room h.pocket ≡ b
        → LeavesOne (if a && b then (record h { pocket = pushed h.pocket place }, true) else (h, false))
    offered_by h place is true true e f = pushed_stays h place is (grind arith, grind arith) (grind arith)
    offered_by h place is true false e f = is
    offered_by h place is false b e f = is

    -- what holds of each helper holds of it from the first on
    pub stay_so : StaysSo w
    stay_so = record {
      regions = after_regions;
      first = λ l are. record {
        indexes = have_indexes l are;
        pocket = record { room = refl; few = omega arith };
        places = All-nil _;
        phase = law.may_rest _;
      };
      again = λ h is. record {
        indexes = is.indexes;
        pocket = record { room = is.pocket.room; few = omega arith };
        places = All-nil (InHeap h.regions);
        phase = law.may_rest h.regions;
      };
      after = after_stays;
      offered = λ h place is. offered_by h place is (is_in_heap h.regions place.0) (has_room h.pocket) refl refl;
      spared = λ h is. let so = looks_on_stays h is in record { indexes = is.indexes; pocket = so.pocket; places = so.places; phase = is.phase };
    }

    -- ---- steps that are left

    looks_by : (h : HelperState P E) (item : Option Place) → last_of h.pocket.items ≡ item
        → w.left (length (taken_from h.pocket).items) (w.question item) ≤ w.left (length h.pocket.items) w.resting
    looks_by h None e = law.turn_nearer (length h.pocket.items) (length (taken_from h.pocket).items)
    looks_by h (Some place) e = law.ask_nearer (length h.pocket.items) (length (taken_from h.pocket).items) place (fewer_left h.pocket.items place e)

    -- a unit that looks on has no more steps left than its pocket asks for
    looks_left : (h : HelperState P E) → left w (looks_on w h) ≤ w.left (length h.pocket.items) w.resting
    looks_left h = looks_by h (last_of h.pocket.items) refl

    -- what is left to go is at most what is left
    go_by : (h : HelperState P E) (b : Bool) → (if b then 0 else left w h) ≤ left w h
    go_by h true = omega arith
    go_by h false = omega arith

    go_left : (h : HelperState P E) → to_go (helper_machine w) h ≤ left w h
    go_left h = go_by h (w.rests h.phase)

    led_nearer : (h : HelperState P E) (r : Regions) (most : ℕ) (o : Outcome P E) → MayLead w r (length h.pocket.items) most o → to_go (helper_machine w) (led w h o) < most
    led_nearer h r most (goes_to p) may = omega (arith, go_left (in_phase w h p), may.1)
    led_nearer h r most tries_next may = omega (arith, go_left (looks_on w h), looks_left h, may)
    led_nearer h r most (ends how) may = subst (λ b. (if b then 0 else left w (through w h how)) < most) (sym law.resting) may

    begun_left_by : (h : HelperState P E) (b : Bool) → w.rests h.phase ≡ b → left w (if b then looks_on w h else h) ≤ left w h
    begun_left_by h true e = subst (λ p. left w (looks_on w h) ≤ w.left (length h.pocket.items) p) (sym (law.one_rest h.phase e)) (looks_left h)
    begun_left_by h false e = omega arith

    pub nearer : (h : HelperState P E) (word : ℕ) → IsHelper w h → to_go (helper_machine w) (after w h word) < left w h
    nearer h word is =
        let b = begun w h in
        omega (arith, led_nearer (keeping w b (w.keeps b.phase word)) b.regions (left w b) (w.leads b.regions b.phase word) (begun_leads h word is), begun_left_by h (w.rests h.phase) refl)

    pub units_short : UnitsAreShort w
    units_short h is = law.few h.regions h.phase (length h.pocket.items) is.pocket.few is.phase
