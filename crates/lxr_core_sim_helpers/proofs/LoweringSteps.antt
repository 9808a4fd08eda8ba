-- The steps that lower a count: one that is 0 or stuck is left as it is.
use Rattle.std.proofs.Common.{◌≡◌, ℕ, Bool, true, false, arith, refl, ap, ◌∙◌}
use Rattle.std.specs.Prelude.{◌||◌, nat_eq, if◌then◌else◌}
use Rattle.lxr_layout.specs.declared.TheConstants.{STUCK}
use Rattle.lxr_layout.specs.declared.Place.{Place}
use Rattle.lxr_image.specs.Tables.{Tables}
use Rattle.lxr_image.specs.Reads.{granule_of}
use Rattle.lxr_helper.specs.Helpers.{goes_to, keeping}
use Rattle.lxr_decrement.specs.declared.phases.DecrementerPhase.TheVariants as phase
use Rattle.lxr_decrement.specs.declared.phases.Handling as machine
use Rattle.lxr_decrement.specs.Decrementing.{DecrementerState}
use Rattle.lxr_decrement.specs.Steps.{counted, decrementer_work, handled, keeps_in}
use Rattle.lxr_core_access.specs.declared.TableEntry.TheVariants as table_entry
use Rattle.lxr_core_access.specs.declared.Access.TheVariants as access
use Rattle.lxr_core_access.specs.Decrementers.{Decrementing, DecrementerGoes, handled_next}
use Rattle.lxr_core_access.specs.Decrementers as goes
use Rattle.lxr_core_invariant.specs.EpochStates.{Beginning, EpochState, limits_of}
use Rattle.lxr_core_sim_helpers.specs.DecrementerShowing.{decrementing_of, handling_of}
use Rattle.lxr_core_sim_helpers.proofs.HelperLemmas.{is_not_zero, is_zero}
use Rattle.lxr_core_sim_helpers.proofs.DecrementerOutcomeLemmas.{Leads, handled_shown, led}

-- what it is about to do once it has looked at a count, by whether that is 0 or stuck
abbrev asked_next : Place → machine.Handling → Bool → Decrementing
asked_next referent handling true = handled_next (handling_of handling)
asked_next referent handling false = goes.Lowers referent.0 (handling_of handling)

-- the tables lead there
asked_goes : (blocks : ℕ) (t : Tables) (referent : Place) (handling : machine.Handling) (zero stuck : Bool)
    → nat_eq (t.counts (granule_of referent.0)) 0 ≡ zero → nat_eq (t.counts (granule_of referent.0)) STUCK ≡ stuck
    → DecrementerGoes blocks t (goes.AsksLowered referent.0 (handling_of handling)) (asked_next referent handling (zero || stuck))
asked_goes blocks t referent handling true stuck z k = goes.keeps_zero referent.0 (handling_of handling) (is_zero (t.counts (granule_of referent.0)) z)
asked_goes blocks t referent handling false true z k = goes.keeps_stuck referent.0 (handling_of handling) (grind (arith, k))
asked_goes blocks t referent handling false false z k =
    goes.asks_lowered referent.0 (handling_of handling) (is_not_zero (t.counts (granule_of referent.0)) z) (grind (arith, k))

-- so does the machine
asked_shown : (d : DecrementerState) (referent : Place) (handling : machine.Handling) (kept : Bool)
    → decrementing_of (led d (if kept then handled handling else goes_to (phase.Lowers referent handling))) ≡ asked_next referent handling kept
asked_shown d referent handling true = handled_shown d handling
asked_shown d referent handling false = refl

module _ (b : Beginning) (s : EpochState) (d : DecrementerState) (referent : Place) (handling : machine.Handling) where
  -- it looks at the count
  pub asks_lowered : Leads b s d (phase.AsksLowered referent handling)
  asks_lowered =
      let count : ℕ = s.tables.counts (granule_of referent.0) in
      record {
        access = access.Look (table_entry.Count (granule_of referent.0));
        next = asked_next referent handling (nat_eq count 0 || nat_eq count STUCK);
        acts = λ r _. refl;
        access_is = refl;
        goes = asked_goes (limits_of b).blocks s.tables referent handling (nat_eq count 0) (nat_eq count STUCK) refl refl;
        leads = λ old told. ap (λ (c : ℕ). decrementing_of (led d (counted referent handling c))) told ∙ asked_shown d referent handling (nat_eq count 0 || nat_eq count STUCK);
      }

  -- it lowers the count
  pub lowers : Leads b s d (phase.Lowers referent handling)
  lowers = record {
    access = access.LowerCount (granule_of referent.0);
    next = handled_next (handling_of handling);
    acts = λ r _. refl;
    access_is = refl;
    goes = goes.lowers referent.0 (handling_of handling);
    leads = λ old told. handled_shown (keeping decrementer_work d (keeps_in (phase.Lowers referent handling) old)) handling;
  }
