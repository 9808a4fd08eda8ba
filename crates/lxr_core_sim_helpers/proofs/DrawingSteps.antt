-- The steps that draw an entry of the list of decrements: the list lies in its table, and each entry is the place of an unreclaimed
-- object.
use Rattle.std.proofs.Common.{◌≡◌, ℕ, ◌<◌, Bool, true, false, refl, ap, ◌∙◌}
use Rattle.std.specs.Prelude.{Option, nat_lt, if◌then◌else◌}
use Rattle.lxr_layout.specs.declared.TheConstants.{DECREMENT_COUNT, DECREMENT_CURSOR}
use Rattle.lxr_layout.specs.declared.Place.{Place}
use Rattle.lxr_layout.specs.Spaces.{regions_of}
use Rattle.lxr_image.specs.Tables.{Tables}
use Rattle.lxr_helper.specs.Words.{referent_in}
use Rattle.lxr_helper.specs.Helpers.{ends, goes_to}
use Rattle.lxr_decrement.specs.declared.phases.DecEnd.TheVariants.{Nothing}
use Rattle.lxr_decrement.specs.declared.phases.DecrementerPhase.TheVariants as phase
use Rattle.lxr_decrement.specs.Decrementing.{DecrementerState}
use Rattle.lxr_decrement.specs.Words.{listed_in}
use Rattle.lxr_decrement.specs.Steps.{compared, drawn, entered}
use Rattle.lxr_core_access.specs.declared.TableEntry.TheVariants as table_entry
use Rattle.lxr_core_access.specs.declared.Access.TheVariants as access
use Rattle.lxr_core_access.specs.Decrementers.{Decrementing, DecrementerGoes, AsksLowered, AsksNumber, Entry, ReadsEntry, Rests}
use Rattle.lxr_core_access.specs.Decrementers as goes
use Rattle.lxr_core_invariant.specs.EpochStates.{Beginning, EpochState, limits_of}
use Rattle.lxr_core_invariant.specs.Epoch.{IsEpoch}
use Rattle.lxr_core_inv_counts.proofs.GroundLemmas.{ground_of}
use Rattle.lxr_core_sim_helpers.specs.DecrementerShowing.{decrementing_of}
use Rattle.lxr_core_sim_helpers.proofs.HelperLemmas.{is_from, is_less}
use Rattle.lxr_core_sim_helpers.proofs.HelperKnowingLemmas.{place_told}
use Rattle.lxr_core_sim_helpers.proofs.DecrementerOutcomeLemmas.{Leads, led}
use Rattle.lxr_core_sim_helpers.proofs.DecrementerKnowingLemmas.{list_told, started_there}

-- it looks at the cursor of decrements
pub asks_cursor : (b : Beginning) (s : EpochState) (d : DecrementerState) → Leads b s d phase.AsksCursor
asks_cursor b s d = record {
  access = access.Look (table_entry.Cursor DECREMENT_CURSOR);
  next = AsksNumber (s.tables.cursors DECREMENT_CURSOR);
  acts = λ r _. refl;
  access_is = refl;
  goes = goes.asks_cursor;
  leads = λ old told. ap AsksNumber told;
}

-- ---- a number is drawn where there are more

-- it has looked at the number of decrements, by whether the cursor is below it
abbrev compared_next : ℕ → Bool → Decrementing
compared_next count true = goes.Draws count
compared_next count false = Rests

compared_goes : (blocks : ℕ) (t : Tables) (cursor : ℕ) (more : Bool) → nat_lt cursor (t.cursors DECREMENT_COUNT) ≡ more
    → DecrementerGoes blocks t (AsksNumber cursor) (compared_next (t.cursors DECREMENT_COUNT) more)
compared_goes blocks t cursor true e = goes.finds_some cursor (is_less cursor (t.cursors DECREMENT_COUNT) e)
compared_goes blocks t cursor false e = goes.finds_none cursor (is_from cursor (t.cursors DECREMENT_COUNT) e)

compared_shown : (d : DecrementerState) (count : ℕ) (more : Bool) → decrementing_of (led d (if more then goes_to (phase.Draws count) else ends Nothing)) ≡ compared_next count more
compared_shown d count true = refl
compared_shown d count false = refl

-- it looks at the number of decrements
pub asks_number : (b : Beginning) (s : EpochState) (d : DecrementerState) (cursor : ℕ) → IsEpoch b s → d.regions ≡ regions_of (limits_of b) → Leads b s d (phase.AsksNumber cursor)
asks_number b s d cursor is regions =
    let count : ℕ = s.tables.cursors DECREMENT_COUNT in
    record {
      access = access.Look (table_entry.Cursor DECREMENT_COUNT);
      next = compared_next count (nat_lt cursor count);
      acts = λ r _. refl;
      access_is = refl;
      goes = compared_goes (limits_of b).blocks s.tables cursor (nat_lt cursor count) refl;
      leads = λ old told. ap (λ (word : ℕ). decrementing_of (led d (compared cursor (listed_in d.regions word)))) told
          ∙ ap (λ (listed : ℕ). decrementing_of (led d (compared cursor listed))) (list_told b s d.regions is regions)
          ∙ compared_shown d count (nat_lt cursor count);
    }

-- it has drawn a number, by whether that is below the number of decrements
abbrev drawn_next : ℕ → Bool → Decrementing
drawn_next number true = ReadsEntry number
drawn_next number false = Rests

drawn_goes : (blocks : ℕ) (t : Tables) (count : ℕ) (more : Bool) → nat_lt (t.cursors DECREMENT_CURSOR) count ≡ more
    → DecrementerGoes blocks t (goes.Draws count) (drawn_next (t.cursors DECREMENT_CURSOR) more)
drawn_goes blocks t count true e = goes.draws count (is_less (t.cursors DECREMENT_CURSOR) count e)
drawn_goes blocks t count false e = goes.draws_none count (is_from (t.cursors DECREMENT_CURSOR) count e)

drawn_shown : (d : DecrementerState) (number : ℕ) (more : Bool) → decrementing_of (led d (if more then goes_to (phase.ReadsEntry number) else ends Nothing)) ≡ drawn_next number more
drawn_shown d number true = refl
drawn_shown d number false = refl

-- it draws a number
pub draws : (b : Beginning) (s : EpochState) (d : DecrementerState) (count : ℕ) → Leads b s d (phase.Draws count)
draws b s d count =
    let cursor : ℕ = s.tables.cursors DECREMENT_CURSOR in
    record {
      access = access.Draw DECREMENT_CURSOR;
      next = drawn_next cursor (nat_lt cursor count);
      acts = λ r _. refl;
      access_is = refl;
      goes = drawn_goes (limits_of b).blocks s.tables count (nat_lt cursor count) refl;
      leads = λ old told. ap (λ (number : ℕ). decrementing_of (led d (drawn count number))) told ∙ drawn_shown d cursor (nat_lt cursor count);
    }

-- it reads the entry of a number that it has drawn
pub reads_entry : (b : Beginning) (s : EpochState) (d : DecrementerState) (number : ℕ) → IsEpoch b s → d.regions ≡ regions_of (limits_of b) → number < s.tables.cursors DECREMENT_COUNT
    → Leads b s d (phase.ReadsEntry number)
reads_entry b s d number is regions drawn =
    let l = limits_of b in
    let word : ℕ = s.tables.decs number in
    let entry = (ground_of b s is).decrements.places number drawn in
    let there = place_told l d.regions word regions (started_there b s word is (record { name = entry.0; member = entry.1; stands = entry.2 })).in_heap in
    record {
      access = access.Look (table_entry.Decrement number);
      next = AsksLowered word Entry;
      acts = λ r _. refl;
      access_is = refl;
      goes = goes.reads_entry number;
      leads = λ old told. ap (λ (w : ℕ). decrementing_of (led d (entered (referent_in d.regions w)))) told ∙ ap (λ (r : Option Place). decrementing_of (led d (entered r))) there;
    }
