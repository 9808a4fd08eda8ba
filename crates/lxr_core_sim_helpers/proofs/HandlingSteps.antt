-- The steps that handle a dead object: its header tells how many references it has, and each of them is nil or the place of an
-- unreclaimed object.
use Rattle.std.proofs.Common.{◌≡◌, ◌≢◌, ℕ, ◌+◌, Bool, true, false, refl, ap, ◌∙◌}
use Rattle.std.specs.Prelude.{Option, Some, nat_eq, slice_get}
use Rattle.lxr_layout.specs.declared.TheConstants.{TRACING_WORD}
use Rattle.lxr_layout.specs.declared.Name.{Name}
use Rattle.lxr_layout.specs.declared.Place.{Place}
use Rattle.lxr_layout.specs.Spaces.{regions_of}
use Rattle.lxr_layout.specs.Places.{field_word, first_word}
use Rattle.lxr_image.specs.Tables.{Tables}
use Rattle.lxr_image.specs.Reads.{granule_of}
use Rattle.lxr_model.specs.Moments.{Moment}
use Rattle.lxr_helper.specs.Words.{references_in, referent_in}
use Rattle.lxr_decrement.specs.declared.phases.DecrementerPhase.TheVariants as phase
use Rattle.lxr_decrement.specs.declared.phases.Handling.TheVariants as handled
use Rattle.lxr_decrement.specs.Decrementing.{DecrementerState}
use Rattle.lxr_decrement.specs.Steps.{referred}
use Rattle.lxr_core_access.specs.declared.Access.{Access}
use Rattle.lxr_core_access.specs.declared.TableEntry.TheVariants as table_entry
use Rattle.lxr_core_access.specs.declared.Access.TheVariants as access
use Rattle.lxr_core_access.specs.Decrementers.{Decrementing, DecrementerGoes, References, AsksTracing, AsksLowered, MakesGray, handled_next}
use Rattle.lxr_core_access.specs.Decrementers as goes
use Rattle.lxr_core_invariant.specs.EpochStates.{Beginning, EpochState, limits_of}
use Rattle.lxr_core_invariant.specs.Counted.{IsDoneAt, KnowsCounts, StandsAt}
use Rattle.lxr_core_invariant.specs.Decremented.{MayDecrement}
use Rattle.lxr_core_invariant.specs.Epoch.{IsEpoch}
use Rattle.lxr_core_sim_helpers.specs.DecrementerShowing.{decrementing_of}
use Rattle.lxr_core_sim_helpers.proofs.HelperLemmas.{is_not_zero, is_zero}
use Rattle.lxr_core_sim_helpers.proofs.HelperKnowingLemmas.{nil_told, place_told}
use Rattle.lxr_core_sim_helpers.proofs.DecrementerOutcomeLemmas.{Leads, handled_shown, led}
use Rattle.lxr_core_sim_helpers.proofs.DecrementerKnowingLemmas.{header_there, known_next, started_there}

-- it looks at the header of an object that is done
pub reads_header : (b : Beginning) (s : EpochState) (d : DecrementerState) (place : Place) → IsEpoch b s → d.regions ≡ regions_of (limits_of b)
    → IsDoneAt s.tables b.abstract_state.moment b.abstract_state.at place.0 → Leads b s d (phase.ReadsHeader place)
reads_header b s d place is regions done =
    let head = header_there b s d.regions place is regions (started_there b s place.0 is (record { name = done.name; member = done.member; stands = done.stands })) in
    record {
      access = access.Look (table_entry.Heap (first_word place.0));
      next = AsksTracing place.0 head.shape.refs;
      acts = λ r _. refl;
      access_is = refl;
      goes = goes.reads_header place.0 head.name head.shape head.told;
      leads = λ old told. ap (λ (word : ℕ). AsksTracing place.0 (references_in d.regions place word)) told ∙ ap (AsksTracing place.0) head.refs;
    }

-- it looks at the tracing word
pub asks_tracing : (b : Beginning) (s : EpochState) (d : DecrementerState) (place : Place) (refs : ℕ) → Leads b s d (phase.AsksTracing place refs)
asks_tracing b s d place refs = record {
  access = access.Look (table_entry.Cursor TRACING_WORD);
  next = handled_next (References place.0 refs 0 (nat_eq (s.tables.cursors TRACING_WORD) 1));
  acts = λ r _. refl;
  access_is = refl;
  goes = goes.asks_tracing place.0 refs;
  leads = λ old told. handled_shown d (handled.References place refs 0 (nat_eq old 1)) ∙ ap (λ (word : ℕ). handled_next (References place.0 refs 0 (nat_eq word 1))) told;
}

-- it makes an object gray
pub makes_gray : (b : Beginning) (s : EpochState) (d : DecrementerState) (place : Place) (refs index : ℕ) (referent : Place) → Leads b s d (phase.MakesGray place refs index referent)
makes_gray b s d place refs index referent = record {
  access = access.SetGray (granule_of referent.0);
  next = AsksLowered referent.0 (References place.0 refs (index + 1) true);
  acts = λ r _. refl;
  access_is = refl;
  goes = goes.makes_gray place.0 refs index referent.0;
  leads = λ old told. refl;
}

-- ---- references

-- what it is about to do once it has read a reference that isn't nil
abbrev read_next : ℕ → ℕ → ℕ → Bool → ℕ → Decrementing
read_next place refs index true word = MakesGray place refs index word
read_next place refs index false word = AsksLowered word (References place refs (index + 1) false)

-- the tables lead there
read_goes : (blocks : ℕ) (t : Tables) (place refs index : ℕ) (traced : Bool) → t.heap (field_word place index) ≢ 0
    → DecrementerGoes blocks t (goes.ReadsReference place refs index traced) (read_next place refs index traced (t.heap (field_word place index)))
read_goes blocks t place refs index true some = goes.reads_traced place refs index some
read_goes blocks t place refs index false some = goes.reads_untraced place refs index some

-- so does the machine, where it is told the place of the reference
read_shown : (d : DecrementerState) (place : Place) (refs index : ℕ) (traced : Bool) (word : ℕ)
    → decrementing_of (led d (referred place refs index traced (Some (record { 0 = word })))) ≡ read_next place.0 refs index traced word
read_shown d place refs index true word = refl
read_shown d place refs index false word = refl

-- it knows then that an unreclaimed object stands there
read_stands : (blocks : ℕ) (t : Tables) (m : Moment) (at : Name → ℕ) (place refs index : ℕ) (traced : Bool) (word : ℕ) → KnowsCounts blocks t m at (read_next place refs index traced word)
    → StandsAt m at word
read_stands blocks t m at place refs index true word (handled, holds) = record { name = holds.held; member = holds.member; stands = holds.stands }
read_stands blocks t m at place refs index false word (stands, handled) = stands

module _ (b : Beginning) (s : EpochState) (i : ℕ) (d : DecrementerState) (place : Place) (refs index : ℕ) (traced : Bool) where
  -- the word that it reads, and the look at it
  abbrev word : ℕ
  word = s.tables.heap (field_word place.0 index)

  abbrev look : Access
  look = access.Look (table_entry.Heap (field_word place.0 index))

  -- a nil reference is done with
  reads_nil : word ≡ 0 → Leads b s d (phase.ReadsReference place refs index traced)
  reads_nil nil = record {
    access = look;
    next = handled_next (References place.0 refs (index + 1) traced);
    acts = λ r _. refl;
    access_is = refl;
    goes = goes.reads_nil place.0 refs index traced nil;
    leads = λ old told. ap (λ (w : ℕ). decrementing_of (led d (referred place refs index traced (referent_in d.regions w)))) (told ∙ nil)
        ∙ ap (λ (r : Option Place). decrementing_of (led d (referred place refs index traced r))) (nil_told d.regions)
        ∙ handled_shown d (handled.References place refs (index + 1) traced);
  }

  -- what another refers to is next
  reads_some : IsEpoch b s → d.regions ≡ regions_of (limits_of b) → slice_get s.decrementers i ≡ Some (goes.ReadsReference place.0 refs index traced) → word ≢ 0
      → Leads b s d (phase.ReadsReference place refs index traced)
  reads_some is regions shows some =
      let l = limits_of b in
      let next : Decrementing = read_next place.0 refs index traced word in
      let leads = read_goes l.blocks s.tables place.0 refs index traced some in
      let may : MayDecrement b s i look next = record {
        before = goes.ReadsReference place.0 refs index traced;
        shows = shows;
        steps = record { about = goes.ReadsReference place.0 refs index traced; attempts = goes.goes_on _; access_is = refl; goes = leads };
      } in
      let stands = read_stands l.blocks s.tables b.abstract_state.moment b.abstract_state.at place.0 refs index traced word (known_next b s i look next is may) in
      let there = place_told l d.regions word regions (started_there b s word is stands).in_heap in
      record {
        access = look;
        next = next;
        acts = λ r _. refl;
        access_is = refl;
        goes = leads;
        leads = λ old told. ap (λ (w : ℕ). decrementing_of (led d (referred place refs index traced (referent_in d.regions w)))) told
            ∙ ap (λ (r : Option Place). decrementing_of (led d (referred place refs index traced r))) there
            ∙ read_shown d place refs index traced word;
      }

  -- it reads a reference
  pub reads_reference : IsEpoch b s → d.regions ≡ regions_of (limits_of b) → slice_get s.decrementers i ≡ Some (goes.ReadsReference place.0 refs index traced)
      → Leads b s d (phase.ReadsReference place refs index traced)
  reads_reference is regions shows = elim (nat_eq word 0) as (λ c. nat_eq word 0 ≡ c → Leads b s d (phase.ReadsReference place refs index traced)) [
    | true ↦ λ e. reads_nil (is_zero word e)
    | false ↦ λ e. reads_some is regions shows (is_not_zero word e)
  ] refl
