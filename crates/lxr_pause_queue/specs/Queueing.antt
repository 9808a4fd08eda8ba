-- What queueing the decrements of old values does.
use Rattle.std.specs.Prelude.{◌≡◌, ℕ, false, [], ◌++◌, List}
use Rattle.lxr_layout.specs.declared.Name.{Name}
use Rattle.lxr_image.specs.declared.space.Space.{Space}
use Rattle.lxr_image.specs.Spaces.{tables_of}
use Rattle.lxr_model.specs.Moments.{Moment}
use Rattle.lxr_invariant.specs.Counting.{IsUndecremented}
use Rattle.lxr_invariant.specs.Keeping.{KeepsListsAndCounters}
use Rattle.lxr_invariant.specs.Quiescent.{HoldsMoment}
use Rattle.lxr_invariant.specs.Raised.{settled}
use Rattle.lxr_pause_queue.specs.OldValues.{decrement_list, old_values}

-- the space once the registers of now are the deferred ones
abbrev pub with_roots_deferred : Space → Space
with_roots_deferred s = record s { deferred = record s.deferred { items = s.registers.items } }

-- The old values of logged references and of changed registers stand in the list of decrements behind what was there, the
-- references are unlogged again and the logs empty: once roots are deferred, the space holds the moment that follows, and
-- still no line is out. Lists and counters stay, and of all tables only the list of decrements with its length and unlogged bits
-- have changed. Nothing else has changed.
pub record Queues (before after : Space) (m : Moment) (at : Name → ℕ) (promoted stuck : List Name) : Type 0 where
  pub holds : HoldsMoment (with_roots_deferred after) (settled m promoted stuck) at
  pub undecremented : IsUndecremented (tables_of after) (settled m promoted stuck) at
  pub decrements : decrement_list (tables_of after) ≡ decrement_list (tables_of before) ++ old_values before
  pub none_out : (line : ℕ) → (tables_of after).outs line ≡ false
  pub keeps : KeepsListsAndCounters (tables_of before) (tables_of after)
  pub tables : tables_of after ≡ record (tables_of before) { decs = (tables_of after).decs; cursors = (tables_of after).cursors; unlogged = (tables_of after).unlogged }
  pub space : after ≡ record before { words = after.words; logged = record before.logged { items = [] } }
