-- The ranges of the options that words ask for.
use Rattle.std.specs.Prelude.{ℕ, ◌^◌, ◌<◌, ◌≤◌, ⊤, Option, IfSome}
use Rattle.lxr_words.specs.declared.Command.{Command}
use Rattle.lxr_words.specs.declared.Command.TheVariants.{Judge, Large, Load, Map, Order, Run}
use Rattle.lxr_words.specs.declared.Options.{Options}

-- the seed of a command is below 2^64
abbrev pub IsCommand : Command → Type 0
IsCommand Run = ⊤
IsCommand Map = ⊤
IsCommand Large = ⊤
IsCommand Order = ⊤
IsCommand Judge = ⊤
IsCommand (Load seed) = seed < 2 ^ 64

-- each option has a number in its range
pub record AreInRange (options : Options) : Type 0 where
  pub command : IsCommand options.command
  pub blocks : (1 ≤ options.blocks) × (options.blocks ≤ 1024)
  pub workers : (1 ≤ options.workers) × (options.workers ≤ 8)
  pub every : (1 ≤ options.every) × (options.every ≤ 1048576)
  pub log : (1 ≤ options.log) × (options.log ≤ 65536)
  pub trace : (1 ≤ options.trace) × (options.trace ≤ 1000000)
  pub within : (1 ≤ options.within) × (options.within ≤ 1000000)
  pub remember : (1 ≤ options.remember) × (options.remember ≤ 1048576)
  pub replay : IfSome options.replay (λ x. x < 2 ^ 64)
  pub threads : (1 ≤ options.threads) × (options.threads ≤ 16)
  pub rounds : (1 ≤ options.rounds) × (options.rounds ≤ 100000)
  pub bodies : (1 ≤ options.bodies) × (options.bodies ≤ 1024)
