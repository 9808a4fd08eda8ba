-- The steps that ask whether the object at a place needs work: a place that needs none is given up for what is tried next.
use Rattle.std.proofs.Common.{◌≡◌, Bool, true, false, refl, ap}
use Rattle.std.specs.Prelude.{◌&&◌, if◌then◌else◌}
use Rattle.lxr_layout.specs.declared.Place.{Place}
use Rattle.lxr_layout.specs.declared.TheConstants.{TRACING_WORD}
use Rattle.lxr_helper.specs.Words.{granule_of}
use Rattle.lxr_helper.specs.Helpers.{goes_to, tries_next}
use Rattle.lxr_trace.specs.declared.phases.TracerPhase.TheVariants as phase
use Rattle.lxr_trace.specs.Tracing.{TracerState}
use Rattle.lxr_core_access.specs.declared.TableEntry.TheVariants as table_entry
use Rattle.lxr_core_access.specs.declared.Access.TheVariants as access
use Rattle.lxr_core_access.specs.Tracers.{Tracing, TracerGoes, IsTry, AsksObject, Rests}
use Rattle.lxr_core_access.specs.Tracers as goes
use Rattle.lxr_core_invariant.specs.EpochStates.{Beginning, EpochState, limits_of}
use Rattle.lxr_core_sim_helpers.specs.TracerShowing.{tracing_of}
use Rattle.lxr_core_sim_helpers.proofs.TracerOutcomeLemmas.{Leads, led, looks_on}

-- it looks at the gray bit
pub asks_gray : (b : Beginning) (s : EpochState) (d : TracerState) (place : Place) → Leads b s d (phase.AsksGray place)
asks_gray b s d place = record {
  access = access.Look (table_entry.Gray (granule_of place));
  next = AsksObject place.0 (s.tables.grays (granule_of place));
  acts = λ r _. refl;
  access_is = refl;
  goes = goes.asks_gray place.0;
  leads = λ old told. ap (AsksObject place.0) told;
}

-- no place of its pocket needs work: it looks at the tracing word, whatever that is
pub finds_nothing : (b : Beginning) (s : EpochState) (d : TracerState) → Leads b s d phase.FindsNothing
finds_nothing b s d = record { access = access.Look (table_entry.Cursor TRACING_WORD); next = Rests; acts = λ r _. refl; access_is = refl; goes = goes.finds_nothing; leads = λ old told. refl }

module _ (b : Beginning) (s : EpochState) (d : TracerState) (place : Place) (try : IsTry (limits_of b).blocks (tracing_of (looks_on d))) where
  -- it has looked at the start bit, by whether the object was gray and what the bit was
  abbrev started : Bool → Bool → Tracing
  started gray bit = tracing_of (led d (if gray && bit then goes_to (phase.Marks place) else tries_next))

  started_goes : (gray bit : Bool) → s.tables.starts (granule_of place) ≡ bit → TracerGoes (limits_of b).blocks (limits_of b).remember s.tables (AsksObject place.0 gray) (started gray bit)
  started_goes true true e = goes.is_object place.0 e
  started_goes true false e = goes.is_none place.0 true (tracing_of (looks_on d)) e try
  started_goes false bit e = goes.is_white place.0 (tracing_of (looks_on d)) try

  -- it looks at the start bit
  pub asks_object : (gray : Bool) → Leads b s d (phase.AsksObject place gray)
  asks_object gray = record {
    access = access.Look (table_entry.Start (granule_of place));
    next = started gray (s.tables.starts (granule_of place));
    acts = λ r _. refl;
    access_is = refl;
    goes = started_goes gray (s.tables.starts (granule_of place)) refl;
    leads = λ old told. ap (started gray) told;
  }

  -- it has marked the object, by what its mark was
  abbrev marked : Bool → Tracing
  marked bit = tracing_of (led d (if bit then tries_next else goes_to (phase.ReadsShape place)))

  marked_goes : (bit : Bool) → s.tables.marks (granule_of place) ≡ bit → TracerGoes (limits_of b).blocks (limits_of b).remember s.tables (goes.Marks place.0) (marked bit)
  marked_goes true e = goes.marked_before place.0 (tracing_of (looks_on d)) e try
  marked_goes false e = goes.marks place.0 e

  -- it marks the object
  pub marks : Leads b s d (phase.Marks place)
  marks = record {
    access = access.SetMark (granule_of place);
    next = marked (s.tables.marks (granule_of place));
    acts = λ r _. refl;
    access_is = refl;
    goes = marked_goes (s.tables.marks (granule_of place)) refl;
    leads = λ old told. ap marked told;
  }
