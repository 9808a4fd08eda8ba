-- How many slots are touched, each law the contract of a function with an empty body.
use Rattle.std.specs.Prelude.{◌≡◌, ◌≢◌, ℕ, ◌+◌, ◌-◌, ◌≤◌}
use Rattle.lxr_layout.specs.declared.limits.Limits.{Limits}
use Rattle.lxr_layout.specs.declared.runs.Run.{Run}
use Rattle.lxr_image.specs.Tables.{Tables}
use Rattle.lxr_image.specs.Opened.{opened_tables}
use Rattle.lxr_blocks.specs.declared.states.BlockState.TheVariants.{Chosen}
use Rattle.lxr_blocks.specs.Lines.{IsFreeRun}
use Rattle.lxr_blocks.specs.States.{IsOpenRun, state_in}
use Rattle.lxr_blocks.specs.Handing.{handed_out}
use Rattle.lxr_model.specs.Full.{slots_in, slots_touched}
use Rattle.lxr_invariant.specs.Lines.{chosen_count}
use Rattle.lxr_full.specs.Touched.{touched_slots}

-- in an opened space no slot is touched
abbrev pub OpenedTouchesNone : Type 0
OpenedTouchesNone = (limits : Limits) (k : ℕ) → touched_slots (opened_tables limits) limits.blocks k ≡ 0

-- handing out a run touches no more slots than so many lines in a row overlap
abbrev pub HandingOutTouchesFew : Type 0
HandingOutTouchesFew = (t : Tables) (blocks k : ℕ) (r : Run) → 1 ≤ k → IsFreeRun t blocks r
    → touched_slots (handed_out t r) blocks k ≤ touched_slots t blocks k + slots_touched k r.lines

-- which slots are touched is read off the counts and what is handed out, and off no other table
abbrev pub TouchedReadsLines : Type 0
TouchedReadsLines = (t u : Tables) (blocks k : ℕ) → ((n : ℕ) → t.outs n ≡ u.outs n) → ((g : ℕ) → t.counts g ≡ u.counts g)
    → touched_slots t blocks k ≡ touched_slots u blocks k

-- Where no free lines in a row outside Chosen blocks are k or more, all slots of k lines in these blocks are touched: each that
-- isn't has k free lines. Block 0, which has fewer slots, is one of them.
abbrev pub NoRunTouchesAll : Type 0
NoRunTouchesAll = (t : Tables) (blocks k : ℕ) → 1 ≤ blocks → state_in t 0 ≢ Chosen → ((q : Run) → IsOpenRun t blocks q → k ≤ q.lines → ⊥)
    → slots_in k (blocks - chosen_count t blocks - 1) ≤ touched_slots t blocks k
