-- The settings of a heap: their ranges, and what its rounds go by.
use Rattle.std.specs.Prelude.{ℕ, ◌/◌, ◌≤◌, true, None, nat_lt, if◌then◌else◌}
use Rattle.lxr_layout.specs.declared.TheConstants.{LEAST_REGISTERS, REGISTERS}
use Rattle.lxr_layout.specs.declared.limits.Limits.{Limits}
use Rattle.lxr_model.specs.Belongs.{Script}
use Rattle.lxr_placing.specs.declared.listing.ToList.{ToList}
use Rattle.lxr_placing.specs.declared.listing.ToList.TheVariants.{All, InTurn}
use Rattle.lxr_rounds_history.specs.Left.{plan_limits}
use Rattle.lxr_rounds_history.specs.Plan.{Plan}
use Rattle.lxr_rounds_invariant.specs.LoopInvariant.{Task}
use Rattle.lxr_shared_heap.specs.declared.settings.Settings.{Settings}
use Rattle.lxr_shared_heap.specs.declared.settings.TheConstants.{LEAST_LISTED}

-- a number is at least 1 and at most so much
abbrev pub IsInRange : ℕ → ℕ → Type 0
IsInRange number most = (1 ≤ number) × (number ≤ most)

-- each number is in its range
pub record AreSettings (settings : Settings) : Type 0 where
  pub blocks : IsInRange settings.blocks 65536
  pub mutators : IsInRange settings.mutators 255
  pub helpers : IsInRange settings.helpers 8
  pub log : IsInRange settings.log 65536
  pub remember : IsInRange settings.remember 1048576
  pub registers : (LEAST_REGISTERS ≤ settings.registers) × (settings.registers ≤ REGISTERS)
  pub evacuate : settings.evacuate ≤ settings.blocks / 8
  pub every : IsInRange settings.every 1048576
  pub trace : settings.trace ≤ 1000000
  pub within : IsInRange settings.within 1000000
  pub runs : LEAST_LISTED ≤ settings.runs

-- what rounds with these settings go by
abbrev pub plan_in : Settings → Plan
plan_in settings = record {
  blocks = settings.blocks;
  evacuate = settings.evacuate;
  log = settings.log;
  remember = settings.remember;
  registers = settings.registers;
  every = settings.every;
  trace = settings.trace;
  within = settings.within;
  workers = settings.helpers;
}

-- the limits of the space
abbrev pub limits_in : Settings → Limits
limits_in settings = plan_limits (plan_in settings) settings.mutators

-- which runs are listed after the first pause: all in a heap of 1,024 blocks at most, and else as many as the settings say, in turn from the first
-- block on
abbrev pub listed_first : Settings → ToList
listed_first settings = if nat_lt 1024 settings.blocks then InTurn settings.runs 0 else All

-- rounds with these settings whose mutators were asked for this so far; names may be renewed
abbrev pub run_of : Settings → Script → Task
run_of settings script = record { plan = plan_in settings; renews = true; names = settings.names; script = script; seen = None }
