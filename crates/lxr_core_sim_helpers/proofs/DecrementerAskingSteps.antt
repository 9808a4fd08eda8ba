-- The steps that ask whether the object at a place needs work: a place that needs none is given up for what is tried next.
use Rattle.std.proofs.Common.{◌≡◌, ℕ, Bool, true, false, refl, ap}
use Rattle.std.specs.Prelude.{◌&&◌, nat_eq, if◌then◌else◌}
use Rattle.lxr_layout.specs.declared.Place.{Place}
use Rattle.lxr_helper.specs.Words.{granule_of}
use Rattle.lxr_helper.specs.Helpers.{goes_to, tries_next}
use Rattle.lxr_decrement.specs.declared.phases.DecrementerPhase.TheVariants as phase
use Rattle.lxr_decrement.specs.Decrementing.{DecrementerState}
use Rattle.lxr_core_access.specs.declared.TableEntry.TheVariants as table_entry
use Rattle.lxr_core_access.specs.declared.Access.TheVariants as access
use Rattle.lxr_core_access.specs.Decrementers.{Decrementing, DecrementerGoes, IsTry, AsksStart, Claims, ReadsHeader}
use Rattle.lxr_core_access.specs.Decrementers as goes
use Rattle.lxr_core_invariant.specs.EpochStates.{Beginning, EpochState, limits_of}
use Rattle.lxr_core_sim_helpers.specs.DecrementerShowing.{decrementing_of}
use Rattle.lxr_core_sim_helpers.proofs.DecrementerOutcomeLemmas.{Leads, led, looks_on}

-- it looks at the count
pub asks_count : (b : Beginning) (s : EpochState) (d : DecrementerState) (place : Place) → Leads b s d (phase.AsksCount place)
asks_count b s d place = record {
  access = access.Look (table_entry.Count (granule_of place));
  next = AsksStart place.0 (nat_eq (s.tables.counts (granule_of place)) 0);
  acts = λ r _. refl;
  access_is = refl;
  goes = goes.asks_count place.0;
  leads = λ old told. ap (λ (c : ℕ). AsksStart place.0 (nat_eq c 0)) told;
}

module _ (b : Beginning) (s : EpochState) (d : DecrementerState) (place : Place) (try : IsTry (limits_of b).blocks (decrementing_of (looks_on d))) where
  -- it has looked at the start bit, by whether the count was 0 and what the bit was
  abbrev started : Bool → Bool → Decrementing
  started uncounted bit = decrementing_of (led d (if uncounted && bit then goes_to (phase.Claims place) else tries_next))

  started_goes : (uncounted bit : Bool) → s.tables.starts (granule_of place) ≡ bit → DecrementerGoes (limits_of b).blocks s.tables (AsksStart place.0 uncounted) (started uncounted bit)
  started_goes true true e = goes.started place.0 e
  started_goes true false e = goes.unstarted place.0 true (decrementing_of (looks_on d)) e try
  started_goes false bit e = goes.counted place.0 (decrementing_of (looks_on d)) try

  -- it looks at the start bit
  pub asks_start : (uncounted : Bool) → Leads b s d (phase.AsksStart place uncounted)
  asks_start uncounted = record {
    access = access.Look (table_entry.Start (granule_of place));
    next = started uncounted (s.tables.starts (granule_of place));
    acts = λ r _. refl;
    access_is = refl;
    goes = started_goes uncounted (s.tables.starts (granule_of place)) refl;
    leads = λ old told. ap (started uncounted) told;
  }

  -- it has claimed the object by its done bit, by what that was
  abbrev claimed : Bool → Decrementing
  claimed bit = decrementing_of (led d (if bit then tries_next else goes_to (phase.ReadsHeader place)))

  claimed_goes : (bit : Bool) → s.tables.dones (granule_of place) ≡ bit → DecrementerGoes (limits_of b).blocks s.tables (goes.Claims place.0) (claimed bit)
  claimed_goes true e = goes.claimed_before place.0 (decrementing_of (looks_on d)) e try
  claimed_goes false e = goes.claims place.0 e

  -- it claims the object
  pub claims : Leads b s d (phase.Claims place)
  claims = record {
    access = access.SetDone (granule_of place);
    next = claimed (s.tables.dones (granule_of place));
    acts = λ r _. refl;
    access_is = refl;
    goes = claimed_goes (s.tables.dones (granule_of place)) refl;
    leads = λ old told. ap claimed told;
  }
