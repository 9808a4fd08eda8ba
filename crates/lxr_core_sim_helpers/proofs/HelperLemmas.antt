-- A helper's step is the access of what it is about to do: the word that it finds tells of the access's entry, and by that it goes where
-- the tables lead. Hints change its pocket alone.
use Rattle.std.proofs.Common.{◌≡◌, ◌≢◌, ℕ, ◌<◌, ◌≤◌, Bool, true, false, arith, refl, sym, subst, ap, ◌∙◌, List, length}
use Rattle.std.specs.Prelude.{◌&&◌, if◌then◌else◌, IsSome, Option, Some, None, nat_eq, nat_lt, slice_get, slice_index}
use Rattle.lxr_layout.specs.declared.Place.{Place}
use Rattle.lxr_layout.specs.declared.limits.Limits.{Limits}
use Rattle.lxr_layout.specs.declared.limits.Regions.{Regions}
use Rattle.lxr_layout.specs.Spaces.{regions_of}
use Rattle.lxr_image.specs.Tables.{tables_in}
use Rattle.lxr_actor.specs.declared.Action.{Action}
use Rattle.lxr_actor.specs.Run.{acted}
use Rattle.lxr_helper.specs.declared.states.HelperState.{HelperState}
use Rattle.lxr_helper.specs.Pockets.{has_room, last_of}
use Rattle.lxr_helper.specs.Words.{InHeap, is_in_heap}
use Rattle.lxr_helper.specs.Helpers.{Work, action, after_in, begun, helper_machine, in_phase, looks_on, spared}
use Rattle.lxr_helper.specs.HelperLaws.{IsLawful}
use Rattle.lxr_helper.proofs.HelperLemmas.{stay_so, unfinished}
use Rattle.lxr_helper.proofs.PocketLemmas.{last_holds}
use Rattle.lxr_core_access.specs.declared.Access.{Access}
use Rattle.lxr_core_access.specs.Accesses.{MayBeDone, Tells, action_of, done_to, table_entry_of}
use Rattle.lxr_core_access.proofs.AccessLemmas.{access_done, regions_are}
use Rattle.lxr_core_invariant.specs.EpochStates.{Beginning, EpochState, limits_of}
use Rattle.lxr_core_invariant.specs.Epoch.{IsEpoch}
use Rattle.lxr_core_sim_helpers.specs.HelperStepping.{HelperStepIs, HelperStepsAreEvents, HintsChangeNothing, IsHelperOf, ShowsHelper, shown_of}

-- an action is that of its option
same_action : (a c : Action) → Some a ≡ Some c → a ≡ c
same_action a c e = cc

module _ {P E X : Type 0} (w : Work P E) (shown_in : P → X) where
  -- ---- steps

  module _ (access_in : Beginning → X → Option Access) (Goes : Beginning → EpochState → X → X → Type 0) where
    -- In a phase the machine does an access, by the regions of the space, and goes where the tables lead, whatever else its word tells.
    pub record Leads (b : Beginning) (s : EpochState) (h : HelperState P E) (p : P) : Type 0 where
      pub access : Access
      pub next : X
      pub acts : (r : Regions) → r ≡ regions_of (limits_of b) → w.action r p ≡ Some (action_of r access)
      pub access_is : access_in b (shown_in p) ≡ Some access
      pub goes : Goes b s (shown_in p) next
      pub leads : (old : ℕ) → Tells s.tables (table_entry_of access) old → shown_of w shown_in (after_in w h p old) ≡ next

    -- An access may happen where it is that of what the helper attempts, and may be done then.
    module _ (law : IsLawful w) (shown : EpochState → List X) (May : Beginning → EpochState → ℕ → Access → X → Type 0) (Attempts : Beginning → X → X → Type 0)
        (may_happen : (b : Beginning) (s : EpochState) (i : ℕ) (access : Access) (before about after : X) → slice_get (shown s) i ≡ Some before → Attempts b before about
        → access_in b about ≡ Some access → Goes b s about after → May b s i access after)
        (may_be_done : (b : Beginning) (s : EpochState) (i : ℕ) (access : Access) (after : X) → IsEpoch b s → May b s i access after → MayBeDone (limits_of b) s.tables access) where
      -- a step goes where its phase leads
      by_phase : (b : Beginning) (s : EpochState) (words : List ℕ) (i : ℕ) (h : HelperState P E) → ShowsHelper w shown_in shown May b s words i h → IsSome (action w h)
          → Attempts b (shown_of w shown_in h) (shown_of w shown_in (begun w h)) → Leads b s (begun w h) (begun w h).phase → HelperStepIs w shown_in shown May b s words i h
      by_phase b s words i h shows some attempts to =
          let l = limits_of b in
          let m = helper_machine w in
          let act : Action = action_of h.regions to.access in
          let old : ℕ = slice_index words act.word in
          let acts : action w h ≡ Some act = unfinished w h some ∙ to.acts h.regions shows.helper.regions in
          let may : May b s i to.access to.next = may_happen b s i to.access (shown_of w shown_in h) (shown_of w shown_in (begun w h)) to.next shows.shows attempts to.access_is to.goes in
          let done = access_done l h.regions words (regions_are l h.regions shows.helper.regions) shows.size to.access
          (subst (λ t. MayBeDone l t to.access) shows.tables (may_be_done b s i to.access to.next shows.epoch may)) in
          let leads = to.leads old (subst (λ t. Tells t (table_entry_of to.access) old) (sym shows.tables) done.told) in
          let stays = stay_so w law in
          record {
            fits = λ a e. subst (λ x. x.word < length words) (same_action act a (sym acts ∙ e)) done.within;
            access = to.access;
            may = subst (λ x. May b s i to.access (shown_of w shown_in (acted m words h x).1)) (sym acts) (subst (May b s i to.access) (sym leads) may);
            size = subst (λ x. length (acted m words h x).0 ≡ length words) (sym acts) done.size;
            tables = subst (λ x. done_to s.tables to.access ≡ tables_in l (acted m words h x).0) (sym acts) (ap (λ t. done_to t to.access) shows.tables ∙ sym done.tables);
            helper = subst (λ x. IsHelperOf w shown_in l (acted m words h x).1) (sym acts) (record {
              sound = stays.after h old shows.helper.sound;
              regions = stays.regions h old ∙ shows.helper.regions;
            });
          }

      -- ---- what is tried

      -- A unit begins with what is tried: a place of the heap, or what it turns to where the pocket has none.
      module _ (Try : Beginning → X → Type 0) (begins : (b : Beginning) (x : X) → Try b x → Attempts b (shown_in w.resting) x) (goes_on : (b : Beginning) (x : X) → Attempts b x x)
          (try_place : (b : Beginning) (r : Regions) (place : Place) → r ≡ regions_of (limits_of b) → InHeap r place → Try b (shown_in (w.question (Some place))))
          (try_none : (b : Beginning) → Try b (shown_in (w.question None))) where
        tried : (b : Beginning) (h : HelperState P E) (item : Option Place) → IsHelperOf w shown_in (limits_of b) h → last_of h.pocket.items ≡ item → Try b (shown_in (w.question item))
        tried b h None is e = try_none b
        tried b h (Some place) is e = try_place b h.regions place is.regions (last_holds (InHeap h.regions) h.pocket.items place is.sound.places e)

        -- so a helper looks on
        pub tries : (b : Beginning) (h : HelperState P E) → IsHelperOf w shown_in (limits_of b) h → Try b (shown_of w shown_in (looks_on w h))
        tries b h is = tried b h (last_of h.pocket.items) is refl

        -- Each step is an event where each phase leads so, and so does what a unit begins with.
        module _ (first : (b : Beginning) (s : EpochState) (h : HelperState P E) (item : Option Place) → Leads b s (in_phase w (spared w h).0 (w.question item)) (w.question item))
            (leads : (b : Beginning) (s : EpochState) (words : List ℕ) (i : ℕ) (h : HelperState P E) (p : P) → ShowsHelper w shown_in shown May b s words i (in_phase w h p) → w.rests p ≡ false
            → Leads b s (in_phase w h p) p) where
          each_by : (b : Beginning) (s : EpochState) (words : List ℕ) (i : ℕ) (h : HelperState P E) (c : Bool) → w.rests h.phase ≡ c → ShowsHelper w shown_in shown May b s words i h → IsSome (action w h)
              → HelperStepIs w shown_in shown May b s words i h
          each_by b s words i h true e shows some =
              by_phase b s words i h shows some
              (subst (λ c. Attempts b (shown_of w shown_in h) (shown_of w shown_in (if c then looks_on w h else h))) (sym e)
              (subst (λ p. Attempts b (shown_in p) (shown_of w shown_in (looks_on w h))) (sym (law.one_rest h.phase e)) (begins b (shown_of w shown_in (looks_on w h)) (tries b h shows.helper))))
              (subst (λ c. Leads b s (if c then looks_on w h else h) (if c then looks_on w h else h).phase) (sym e) (first b s h (last_of h.pocket.items)))
          each_by b s words i h false e shows some =
              by_phase b s words i h shows some
              (subst (λ c. Attempts b (shown_of w shown_in h) (shown_of w shown_in (if c then looks_on w h else h))) (sym e) (goes_on b (shown_of w shown_in h)))
              (subst (λ c. Leads b s (if c then looks_on w h else h) (if c then looks_on w h else h).phase) (sym e) (leads b s words i h h.phase shows e))

          -- each step
          pub each_step : HelperStepsAreEvents w shown_in shown May
          each_step b s words i h shows some = each_by b s words i h (w.rests h.phase) refl shows some

  -- ---- hints

  -- a helper that has taken a place, or has not
  abbrev having : HelperState P E → HelperState P E → Bool → HelperState P E × Bool
  having taken h takes = if takes then (taken, true) else (h, false)

  -- has the regions of both
  same_regions : (l : Limits) (taken h : HelperState P E) (takes : Bool) → taken.regions ≡ regions_of l → h.regions ≡ regions_of l → (having taken h takes).0.regions ≡ regions_of l
  same_regions l taken h true is same = is
  same_regions l taken h false is same = same

  -- and is about to do what both are
  same_phase : (taken h : HelperState P E) (takes : Bool) → shown_of w shown_in taken ≡ shown_of w shown_in h → shown_of w shown_in (having taken h takes).0 ≡ shown_of w shown_in h
  same_phase taken h true same = same
  same_phase taken h false same = refl

  -- the law
  pub hints_stay : IsLawful w → HintsChangeNothing w shown_in
  hints_stay law l h is = let stays = stay_so w law in record {
    offered = λ place. (
      record { sound = stays.offered h place is.sound; regions = same_regions l _ h (is_in_heap h.regions place.0 && has_room h.pocket) is.regions is.regions },
      same_phase _ h (is_in_heap h.regions place.0 && has_room h.pocket) refl,
    );
    spared = (record { sound = stays.spared h is.sound; regions = is.regions }, refl);
    again = record { sound = stays.again h is.sound; regions = is.regions };
  }

-- ---- what tests tell

pub is_zero : (n : ℕ) → nat_eq n 0 ≡ true → n ≡ 0
is_zero n e = grind (arith, e)

pub is_not_zero : (n : ℕ) → nat_eq n 0 ≡ false → n ≢ 0
is_not_zero n e = grind (arith, e)

pub is_less : (a b : ℕ) → nat_lt a b ≡ true → a < b
is_less a b e = grind (arith, e)

pub is_from : (a b : ℕ) → nat_lt a b ≡ false → b ≤ a
is_from a b e = grind (arith, e)
