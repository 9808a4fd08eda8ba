-- The steps that scan a marked object: its header tells how many references it has, and each of them is nil or a place of the heap. Where what
-- one refers to is in a Chosen block, the reference is entered in the remembered set, while that has room.
use Rattle.std.proofs.Common.{◌≡◌, ◌≢◌, ℕ, ◌+◌, ◌/◌, Bool, true, false, refl, sym, ap, ◌∙◌, inl, inr, arith}
use Rattle.std.specs.Prelude.{Option, Some, nat_eq, nat_lt, if◌then◌else◌}
use Rattle.lxr_layout.specs.declared.TheConstants.{GRANULES_IN_BLOCK, REMEMBERED_CURSOR, WORDS_IN_LINE}
use Rattle.lxr_layout.specs.declared.Place.{Place}
use Rattle.lxr_layout.specs.Spaces.{regions_of}
use Rattle.lxr_layout.specs.Places.{field_word, first_word}
use Rattle.lxr_layout.specs.Runs.{word_of_entry}
use Rattle.lxr_image.specs.Reads.{granule_of}
use Rattle.lxr_helper.specs.Words.{has_bit, references_in, referent_in}
use Rattle.lxr_helper.specs.Helpers.{goes_to}
use Rattle.lxr_trace.specs.declared.phases.Scan.{Scan}
use Rattle.lxr_trace.specs.declared.phases.TracerPhase.TheVariants as phase
use Rattle.lxr_trace.specs.Tracing.{TracerState}
use Rattle.lxr_trace.specs.Words.{is_chosen}
use Rattle.lxr_trace.specs.Steps.{drawn, referred, scan_from_first, scanned}
use Rattle.lxr_invariant.proofs.BlockLemmas.{other_number}
use Rattle.lxr_invariant.proofs.EntryLemmas.{equal_numbers}
use Rattle.lxr_core_access.specs.declared.TableEntry.TheVariants as table_entry
use Rattle.lxr_core_access.specs.declared.Access.{Access}
use Rattle.lxr_core_access.specs.declared.Access.TheVariants as access
use Rattle.lxr_core_access.specs.Accesses.{action_of}
use Rattle.lxr_core_access.specs.Tracers.{Tracing, TracerGoes, AsksBlock, AsksReferent, DrawsNumber, Enters, GraysReferent, ReadsReuse, scanned_next}
use Rattle.lxr_core_access.specs.Tracers as goes
use Rattle.lxr_core_invariant.specs.EpochStates.{Beginning, EpochState, limits_of}
use Rattle.lxr_core_invariant.specs.Counted.{IsInHeap, StandsAt}
use Rattle.lxr_core_invariant.specs.Traced.{IsScannedAt}
use Rattle.lxr_core_invariant.specs.Epoch.{IsEpoch}
use Rattle.lxr_core_inv_trace.proofs.ScansGroundLemmas.{ground_of}
use Rattle.lxr_core_sim_helpers.specs.TracerShowing.{tracing_of}
use Rattle.lxr_core_sim_helpers.proofs.HelperLemmas.{is_from, is_less, is_not_zero, is_zero}
use Rattle.lxr_core_sim_helpers.proofs.HelperKnowingLemmas.{nil_told, place_told}
use Rattle.lxr_core_sim_helpers.proofs.TracerOutcomeLemmas.{Leads, at_shown, led, scanned_shown}
use Rattle.lxr_core_sim_helpers.proofs.TracerKnowingLemmas.{blocks_are, references_are, room_is}

-- it looks at the header of an object that it has marked
pub reads_shape : (b : Beginning) (s : EpochState) (d : TracerState) (place : Place) → IsEpoch b s → d.regions ≡ regions_of (limits_of b)
    → StandsAt b.abstract_state.moment b.abstract_state.at place.0 → Leads b s d (phase.ReadsShape place)
reads_shape b s d place is regions stands =
    let there = (ground_of b s is).object place.0 stands in
    let refs = references_are (limits_of b) d.regions s.tables b.abstract_state.moment b.abstract_state.at place there regions in
    record {
      access = access.Look (table_entry.Heap (first_word place.0));
      next = scanned_next place.0 there.shape.refs 0;
      acts = λ r _. refl;
      access_is = refl;
      goes = goes.reads_shape place.0 there.name there.shape there.told;
      leads = λ old told. at_shown d (scan_from_first place (references_in d.regions place old))
          ∙ ap (λ (word : ℕ). scanned_next place.0 (references_in d.regions place word) 0) told
          ∙ ap (λ (n : ℕ). scanned_next place.0 n 0) refs;
    }

-- ---- references

module _ (b : Beginning) (s : EpochState) (d : TracerState) (scan : Scan) where
  -- the word that it reads
  abbrev word : ℕ
  word = s.tables.heap (field_word scan.place.0 scan.index)

  -- a nil reference is done with
  scans_nil : word ≡ 0 → Leads b s d (phase.Scans scan)
  scans_nil nil = record {
    access = access.Look (table_entry.Heap (field_word scan.place.0 scan.index));
    next = scanned_next scan.place.0 scan.refs (scan.index + 1);
    acts = λ r _. refl;
    access_is = refl;
    goes = goes.scans_nil scan.place.0 scan.refs scan.index nil;
    leads = λ old told. ap (λ (w : ℕ). tracing_of (led d (referred scan (referent_in d.regions w)))) (told ∙ nil)
        ∙ ap (λ (r : Option Place). tracing_of (led d (referred scan r))) (nil_told d.regions)
        ∙ scanned_shown d scan;
  }

  -- what another refers to is asked for next
  scans_some : d.regions ≡ regions_of (limits_of b) → word ≢ 0 → IsInHeap (limits_of b).blocks word → Leads b s d (phase.Scans scan)
  scans_some regions some low = record {
    access = access.Look (table_entry.Heap (field_word scan.place.0 scan.index));
    next = AsksReferent scan.place.0 scan.refs scan.index word;
    acts = λ r _. refl;
    access_is = refl;
    goes = goes.scans scan.place.0 scan.refs scan.index some;
    leads = λ old told. ap (λ (w : ℕ). tracing_of (led d (referred scan (referent_in d.regions w)))) told
        ∙ ap (λ (r : Option Place). tracing_of (led d (referred scan r))) (place_told (limits_of b) d.regions word regions low);
  }

  -- it reads a reference
  pub scans : IsEpoch b s → d.regions ≡ regions_of (limits_of b)
      → IsScannedAt s.tables b.abstract_state.moment b.abstract_state.at scan.place.0 scan.refs scan.index → Leads b s d (phase.Scans scan)
  scans is regions knows =
      let there = (ground_of b s is).object scan.place.0 knows.stands in
      let as_many = knows.refs_are ∙ sym there.refs in
      let within = knows.within in
      let reads = there.reads scan.index (omega (arith, as_many, within)) in
      elim (nat_eq word 0) as (λ c. nat_eq word 0 ≡ c → Leads b s d (phase.Scans scan)) [
        | true ↦ λ e. scans_nil (is_zero word e)
        | false ↦ λ e. scans_some regions (is_not_zero word e) (elim reads [ inl nil ↦ absurd (is_not_zero word e nil) | inr low ↦ low ])
      ] refl

-- ---- what is referred to

module _ (b : Beginning) (s : EpochState) (d : TracerState) (scan : Scan) (referent : Place) where
  -- what it is about to do once it has looked at the start bit
  abbrev found_next : Bool → Tracing
  found_next true = GraysReferent scan.place.0 scan.refs scan.index referent.0
  found_next false = scanned_next scan.place.0 scan.refs (scan.index + 1)

  -- the tables lead there, and so does the machine
  found_goes : (bit : Bool) → s.tables.starts (granule_of referent.0) ≡ bit
      → TracerGoes (limits_of b).blocks (limits_of b).remember s.tables (AsksReferent scan.place.0 scan.refs scan.index referent.0) (found_next bit)
  found_goes true e = goes.finds_object scan.place.0 scan.refs scan.index referent.0 e
  found_goes false e = goes.finds_young scan.place.0 scan.refs scan.index referent.0 e

  found_shown : (bit : Bool) → tracing_of (led d (if bit then goes_to (phase.GraysReferent scan referent) else scanned scan)) ≡ found_next bit
  found_shown true = refl
  found_shown false = scanned_shown d scan

  -- it looks at the start bit
  pub asks_referent : Leads b s d (phase.AsksReferent scan referent)
  asks_referent = record {
    access = access.Look (table_entry.Start (granule_of referent.0));
    next = found_next (s.tables.starts (granule_of referent.0));
    acts = λ r _. refl;
    access_is = refl;
    goes = found_goes (s.tables.starts (granule_of referent.0)) refl;
    leads = λ old told. found_shown (has_bit referent old) ∙ ap found_next told;
  }

  -- it makes the object gray
  pub grays_referent : Leads b s d (phase.GraysReferent scan referent)
  grays_referent = record {
    access = access.SetGray (granule_of referent.0);
    next = AsksBlock scan.place.0 scan.refs scan.index referent.0;
    acts = λ r _. refl;
    access_is = refl;
    goes = goes.grays scan.place.0 scan.refs scan.index referent.0;
    leads = λ old told. refl;
  }

  -- what it is about to do once it has looked at the state of the object's block
  abbrev block_next : Bool → Tracing
  block_next true = ReadsReuse scan.place.0 scan.refs scan.index
  block_next false = scanned_next scan.place.0 scan.refs (scan.index + 1)

  abbrev state : ℕ
  state = s.tables.states (granule_of referent.0 / GRANULES_IN_BLOCK)

  block_goes : (chosen : Bool) → is_chosen state ≡ chosen → TracerGoes (limits_of b).blocks (limits_of b).remember s.tables (AsksBlock scan.place.0 scan.refs scan.index referent.0) (block_next chosen)
  block_goes true e = goes.is_chosen scan.place.0 scan.refs scan.index referent.0 (equal_numbers state 3 e)
  block_goes false e = goes.is_other scan.place.0 scan.refs scan.index referent.0 (other_number state 3 e)

  block_shown : (chosen : Bool) → tracing_of (led d (if chosen then goes_to (phase.ReadsReuse scan) else scanned scan)) ≡ block_next chosen
  block_shown true = refl
  block_shown false = scanned_shown d scan

  -- it looks at the state of the object's block
  pub asks_block : Leads b s d (phase.AsksBlock scan referent)
  asks_block = record {
    access = access.Look (table_entry.State (granule_of referent.0 / GRANULES_IN_BLOCK));
    next = block_next (is_chosen state);
    acts = λ r _. refl;
    access_is = refl;
    goes = block_goes (is_chosen state) refl;
    leads = λ old told. block_shown (is_chosen old) ∙ ap (λ w. block_next (is_chosen w)) told;
  }

-- ---- the remembered set

module _ (b : Beginning) (s : EpochState) (d : TracerState) (scan : Scan) where
  -- it reads the reuse counter of the field's line
  pub reads_reuse : Leads b s d (phase.ReadsReuse scan)
  reads_reuse = record {
    access = access.Look (table_entry.Reuse (field_word scan.place.0 scan.index / WORDS_IN_LINE));
    next = DrawsNumber scan.place.0 scan.refs scan.index (s.tables.reuse (field_word scan.place.0 scan.index / WORDS_IN_LINE));
    acts = λ r _. refl;
    access_is = refl;
    goes = goes.reads_reuse scan.place.0 scan.refs scan.index;
    leads = λ old told. ap (DrawsNumber scan.place.0 scan.refs scan.index) told;
  }

  -- the number that it draws
  abbrev number : ℕ
  number = s.tables.cursors REMEMBERED_CURSOR

  -- what it is about to do then, by whether the set has room for it
  abbrev drawn_next : ℕ → Bool → Tracing
  drawn_next counter true = Enters scan.place.0 scan.refs scan.index counter number
  drawn_next counter false = scanned_next scan.place.0 scan.refs (scan.index + 1)

  drawn_goes : (counter : ℕ) (room : Bool) → nat_lt number (limits_of b).remember ≡ room
      → TracerGoes (limits_of b).blocks (limits_of b).remember s.tables (DrawsNumber scan.place.0 scan.refs scan.index counter) (drawn_next counter room)
  drawn_goes counter true e = goes.has_room scan.place.0 scan.refs scan.index counter (is_less number (limits_of b).remember e)
  drawn_goes counter false e = goes.is_full scan.place.0 scan.refs scan.index counter (is_from number (limits_of b).remember e)

  drawn_shown : (counter : ℕ) (room : Bool) → tracing_of (led d (if room then goes_to (phase.Enters scan counter number) else scanned (record scan { overflowed = true }))) ≡ drawn_next counter room
  drawn_shown counter true = refl
  drawn_shown counter false = scanned_shown d (record scan { overflowed = true })

  -- it draws a number
  pub draws_number : (counter : ℕ) → d.regions ≡ regions_of (limits_of b) → Leads b s d (phase.DrawsNumber scan counter)
  draws_number counter regions = record {
    access = access.Draw REMEMBERED_CURSOR;
    next = drawn_next counter (nat_lt number (limits_of b).remember);
    acts = λ r _. refl;
    access_is = refl;
    goes = drawn_goes counter (nat_lt number (limits_of b).remember) refl;
    leads = λ old told. ap (λ w. tracing_of (led d (drawn d.regions scan counter w))) told
        ∙ ap (λ room. tracing_of (led d (if nat_lt number room then goes_to (phase.Enters scan counter number) else scanned (record scan { overflowed = true })))) (room_is (limits_of b) d.regions regions)
        ∙ drawn_shown counter (nat_lt number (limits_of b).remember);
  }

  -- the entry as it is written in a heap of so many blocks
  abbrev entry : ℕ → ℕ → ℕ → Access
  entry counter number blocks = access.PutRemembered number (word_of_entry blocks counter (record { 0 = scan.place.0 }) scan.index)

  -- it writes the entry
  pub enters : (counter number : ℕ) → Leads b s d (phase.Enters scan counter number)
  enters counter number = record {
    access = entry counter number (limits_of b).blocks;
    next = scanned_next scan.place.0 scan.refs (scan.index + 1);
    acts = λ r regions. ap (λ blocks. Some (action_of r (entry counter number blocks))) (blocks_are (limits_of b) r regions);
    access_is = refl;
    goes = goes.enters scan.place.0 scan.refs scan.index counter number;
    leads = λ old told. scanned_shown d scan;
  }
