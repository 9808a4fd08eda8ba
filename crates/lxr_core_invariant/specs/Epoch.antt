-- What holds after every step of every schedule of an epoch.
use Rattle.std.specs.Prelude.{◌≡◌, ℕ, ⊤, Some, slice_get}
use Rattle.lxr_model_counting.specs.Following.{FollowsPause}
use Rattle.lxr_core_access.specs.Decrementers.{Decrementing}
use Rattle.lxr_core_access.specs.Decrementers as decrementing
use Rattle.lxr_core_access.specs.Tracers.{Tracing}
use Rattle.lxr_core_access.specs.Tracers as tracing
use Rattle.lxr_core_invariant.specs.ThreadStates.{Rests, Stage, ThreadState, Through}
use Rattle.lxr_core_invariant.specs.EpochStates.{Beginning, Extends, IsBeginning, EpochState, limits_of, moment_of}
use Rattle.lxr_core_invariant.specs.Imaged.{IsImagedIn}
use Rattle.lxr_core_invariant.specs.Logged.{AreBitsAndLogs}
use Rattle.lxr_core_invariant.specs.Counted.{AreCountedIn}
use Rattle.lxr_core_invariant.specs.Traced.{AreScannedIn}
use Rattle.lxr_core_invariant.specs.Covered.{SnapshotIsCoveredIn}
use Rattle.lxr_core_invariant.specs.Inside.{MarksStayInsideIn}
use Rattle.lxr_core_invariant.specs.Remembered.{AreRememberedIn}
use Rattle.lxr_core_invariant.specs.Drawn.{AreFixed, IsDrawnMemory}
use Rattle.lxr_core_invariant.specs.Called.{AreCalled}

pub record IsEpoch (b : Beginning) (s : EpochState) : Type 0 where
  pub begins : IsBeginning b
  pub extends : Extends (limits_of b).threads b.every b.history s.history
  -- live names stay inside, and all else that holds of a state since its last pause
  pub lives : FollowsPause (moment_of b s)
  -- the image in the epoch
  pub image : IsImagedIn b s
  -- unlogged bits and logs
  pub logged : AreBitsAndLogs b s
  -- counts and pending decrements
  pub counted : AreCountedIn b s
  -- what tracers know
  pub scanned : AreScannedIn b s
  -- the snapshot is covered
  pub covered : SnapshotIsCoveredIn b s
  -- marks stay inside the snapshot
  pub inside : MarksStayInsideIn b s
  -- remembered so far
  pub remembered : AreRememberedIn b s
  -- drawn memory is one maker's
  pub drawn : IsDrawnMemory b s
  -- cursors and fixed tables
  pub fixed : AreFixed b s
  -- the history and the replies
  pub called : AreCalled b s

-- it rests: it is between two units, or through
abbrev pub IsResting : Stage → Type 0
IsResting Rests = ⊤
IsResting (Through why) = ⊤
IsResting _ = ⊥

-- all decrementers are between two units
abbrev pub DecrementersRest : EpochState → Type 0
DecrementersRest s = (i : ℕ) (d : Decrementing) → slice_get s.decrementers i ≡ Some d → d ≡ decrementing.Rests

-- all tracers are between two units
abbrev pub TracersRest : EpochState → Type 0
TracersRest s = (i : ℕ) (d : Tracing) → slice_get s.tracers i ≡ Some d → d ≡ tracing.Rests

-- all mutators rest
abbrev pub AreResting : EpochState → Type 0
AreResting s = (i : ℕ) (v : ThreadState) → slice_get s.thread_states i ≡ Some v → IsResting v.stage
