-- Runs by the options of the command line: what they go by, and their histories.
use Rattle.std.specs.Prelude.{◌/◌, false, List}
use Rattle.lxr_graph.specs.History.{Item}
use Rattle.lxr_model.specs.Terms.{Terms}
use Rattle.lxr_model.specs.Belongs.{Script}
use Rattle.lxr_text_script.specs.declared.TheConstants.{SCRIPT_REGISTERS}
use Rattle.lxr_words.specs.declared.Options.{Options}
use Rattle.lxr_rounds_history.specs.Plan.{Plan}
use Rattle.lxr_rounds_history.specs.Histories.{IsHistoryWith, script_terms_with}

-- what a run with these options goes by
abbrev pub plan_of : Options → Plan
plan_of options = record {
  blocks = options.blocks;
  evacuate = options.blocks / 8;
  log = options.log;
  remember = options.remember;
  registers = SCRIPT_REGISTERS;
  every = options.every;
  trace = options.trace;
  within = options.within;
  workers = options.workers;
}

-- the terms of a script: names are never renewed
abbrev pub script_terms : Options → Script → Terms
script_terms options script = script_terms_with false (plan_of options) script

-- a whole history of a script
abbrev pub IsHistoryOf : Options → Script → List Item → Type 0
IsHistoryOf options script h = IsHistoryWith false (plan_of options) script h
