-- When the unreclaimed objects may be counted, what counting them reports, and what is told of them.
use Rattle.std.specs.Prelude.{◌≡◌, ℕ, map}
use Rattle.lxr_layout.specs.declared.Name.{Name}
use Rattle.lxr_layout.specs.declared.TheConstants.{DECREMENT_COUNT}
use Rattle.lxr_graph.specs.declared.report.Count.{Count}
use Rattle.lxr_image.specs.declared.space.Space.{Space}
use Rattle.lxr_image.specs.Spaces.{tables_of}
use Rattle.lxr_model.specs.Moments.{Moment}
use Rattle.lxr_model.specs.Reports.{count_entry}
use Rattle.lxr_invariant.specs.Counting.{IsUndecremented}
use Rattle.lxr_invariant.specs.Quiescent.{HoldsMoment}
use Rattle.lxr_invariant.specs.Settled.{IsSettled}
use Rattle.lxr_pause_queue.specs.Entries.{standing_entry, with_told}

-- The space holds a moment at which counting is done and no decrement waits.
pub record CanCount (s : Space) (m : Moment) (at : Name → ℕ) : Type 0 where
  pub holds : HoldsMoment s m at
  pub settled : IsSettled m
  pub undecremented : IsUndecremented (tables_of s) m at
  pub empty : (tables_of s).cursors DECREMENT_COUNT ≡ 0

-- The report has each unreclaimed object with its references, or none where it is stuck, in the order of names. Nothing
-- else has changed.
pub record CountsUnreclaimed (before after : Space) (m : Moment) : Type 0 where
  pub counts : after.report.counts.items ≡ map (count_entry m.state m.unreclaimed m.stuck) m.unreclaimed
  pub space : after ≡ record before { report = record before.report { counts = record before.report.counts { items = after.report.counts.items } } }

-- What was told has each unreclaimed object, in the order of names, with what the table of counts says of it: where they may be counted,
-- that is its references, or none where it is stuck; else decrements may still wait. Nothing else has changed.
pub record ListsCounts (before after : Space) (m : Moment) (at : Name → ℕ) : Type 0 where
  pub names : map (λ (entry : Count). entry.name) after.report.told.items ≡ m.unreclaimed
  pub entries : after.report.told.items ≡ map (standing_entry (tables_of before) at) m.unreclaimed
  pub counts : CanCount before m at → after.report.told.items ≡ map (count_entry m.state m.unreclaimed m.stuck) m.unreclaimed
  pub space : after ≡ with_told before after.report.told.items
