-- What holds of a space at a safepoint, where a pause may be made, and what holds of it between epochs.
use Rattle.std.specs.Prelude.{◌≡◌, ℕ, ◌*◌, ◌≤◌, [], length}
use Rattle.std.specs.Option.{option_map}
use Rattle.lxr_layout.specs.declared.TheConstants.{REGISTERS}
use Rattle.lxr_layout.specs.declared.Name.{Name}
use Rattle.lxr_graph.specs.History.{report_of}
use Rattle.lxr_image.specs.declared.space.Space.{Space}
use Rattle.lxr_image.specs.Spaces.{IsSpace, tables_of}
use Rattle.lxr_image.specs.Opened.{HasRoom}
use Rattle.lxr_model.specs.Moments.{Moment, Trace}
use Rattle.lxr_model_counting.specs.Following.{FollowsPause}
use Rattle.lxr_invariant.specs.AbstractState.{AbstractState, members}
use Rattle.lxr_invariant.specs.Standing.{AreLogged, HasBits, IsImaged}
use Rattle.lxr_invariant.specs.Counting.{HasCounts, HasDecrements, IsUndecremented}
use Rattle.lxr_invariant.specs.Lines.{AvoidChosen, FreeAreUnused, HasBlocks, HasMarks, HasStates, KeepLines, KeepsRest, LinesAreOut, OutsAreTaken}
use Rattle.lxr_invariant.specs.Tracing.{IsTracedBy}

-- The heap and its tables hold a moment: what holds before a pause, and also between its steps. The limits are allowed ones.
pub record HoldsMoment (s : Space) (m : Moment) (at : Name → ℕ) : Type 0 where
  pub space : IsSpace s
  pub room : HasRoom s
  pub as_many : (length s.registers.items ≡ REGISTERS * s.limits.threads) × (length s.deferred.items ≡ REGISTERS * s.limits.threads)
  pub follows : FollowsPause m
  pub image : IsImaged s m at
  pub bits : HasBits (tables_of s) m at m.unreclaimed
  pub logs : AreLogged m at s.logged.items
  pub few_logs : length s.logged.items ≤ s.limits.threads * s.limits.log
  pub counts : HasCounts (tables_of s) m at
  pub decrements : HasDecrements s.limits (tables_of s) m at
  pub marks : HasMarks (tables_of s) m.state.graph at m.unreclaimed
  pub lines : LinesAreOut (tables_of s) m.state.graph at m.made
  pub unchosen : AvoidChosen (tables_of s) at m.made
  pub unused : FreeAreUnused (tables_of s) at m.unreclaimed
  pub blocks : HasBlocks (tables_of s) s.limits m.trace
  pub rest : KeepsRest s m at
  pub no_work : s.work.items ≡ []

-- the numbers and the report are those of the last pause
pub record HasNumbers (s : Space) (g : AbstractState) : Type 0 where
  pub pauses : s.pauses ≡ g.moment.number
  pub trace : s.trace ≡ option_map (λ (trace : Trace). trace.began) g.moment.trace
  pub report : report_of s.report ≡ g.reported

-- At a safepoint: threads rest, their logs are in `logged`, and the lines that they drew are handed out.
pub record IsAtSafepoint (s : Space) (g : AbstractState) : Type 0 where
  pub holds : HoldsMoment s g.moment g.at
  pub numbers : HasNumbers s g
  pub traced : IsTracedBy s.limits (tables_of s) s.logged.items g g.moment.trace

-- At rest: a safepoint after which only whole operations stand since the last pause. No decrementer has worked, no line that an
-- object overlaps is free, each line that is out is overlapped, and blocks have the states of their lines.
pub record IsAtRest (s : Space) (g : AbstractState) : Type 0 where
  pub safepoint : IsAtSafepoint s g
  pub undecremented : IsUndecremented (tables_of s) g.moment g.at
  pub lines : KeepLines (tables_of s) g.moment.state.graph g.at (members g.moment)
  pub outs : OutsAreTaken (tables_of s) g.moment.state.graph g.at (members g.moment)
  pub states : HasStates (tables_of s) s.limits.blocks

-- Between epochs, and right after a pause: a safepoint at which no reference was written since the last pause. No decrementer has
-- worked, no line that an object overlaps is free, each line that is out is overlapped, and blocks have the states of
-- their lines.
pub record IsQuiescent (s : Space) (g : AbstractState) : Type 0 where
  pub safepoint : IsAtSafepoint s g
  pub unwritten : g.moment.written ≡ []
  pub undecremented : IsUndecremented (tables_of s) g.moment g.at
  pub lines : KeepLines (tables_of s) g.moment.state.graph g.at (members g.moment)
  pub outs : OutsAreTaken (tables_of s) g.moment.state.graph g.at (members g.moment)
  pub states : HasStates (tables_of s) s.limits.blocks
