-- Streams in memory, whose calls fail as planned.
use Rattle.std.specs.Prelude.{◌≡◌, ℕ, ◌↔◌, Bool, if◌then◌else◌, List, IsTrue, Contains}
use Rattle.lxr_text_stream.specs.Streams.{raised}

-- the calls that are to fail, by their numbers from 1, and how many calls there were and how many of them failed
pub record Planned : Type 0 where
  pub fails : List ℕ
  pub calls : ℕ
  pub faults : ℕ

-- before the first call
abbrev pub planned : List ℕ → Planned
planned fails = record { fails = fails; calls = 0; faults = 0 }

-- after one call more, which failed or did not
abbrev pub after_call : Planned → Bool → Planned
after_call p failed = record p { calls = raised p.calls; faults = if failed then raised p.faults else p.faults }

-- one call: it failed exactly where its number is planned, and it is counted
pub record IsCall (before after : Planned) (failed : Bool) : Type 0 where
  pub as_planned : IsTrue failed ↔ Contains before.fails (raised before.calls)
  pub counted : after ≡ after_call before failed

-- a source in memory: the bytes that are left, and the plan
pub record Input : Type 0 where
  pub left : List ℕ
  pub plan : Planned

-- a sink in memory: the bytes that are written, and the plan
pub record Output : Type 0 where
  pub written : List ℕ
  pub plan : Planned
