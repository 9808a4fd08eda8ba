-- Histories with pauses: their terms, and when they are whole. Their items stand newest first.
use Rattle.std.specs.Prelude.{ℕ, Bool, List, length}
use Rattle.lxr_graph.specs.History.{Item}
use Rattle.lxr_model.specs.Terms.{Terms}
use Rattle.lxr_model.specs.Legal.{IsLegal}
use Rattle.lxr_model.specs.Belongs.{Belongs, Script}
use Rattle.lxr_rounds_history.specs.Plan.{Plan}

-- so many threads, by this plan, where names may be renewed or not
abbrev pub plan_terms : Bool → Plan → ℕ → Terms
plan_terms renews plan threads = record {
  threads = threads;
  registers = plan.registers;
  blocks = plan.blocks;
  evacuate = plan.evacuate;
  every = plan.every;
  log = plan.log;
  trace = plan.trace;
  within = plan.within;
  renews = renews;
}

-- the terms for what threads are asked for
abbrev pub script_terms_with : Bool → Plan → Script → Terms
script_terms_with renews plan script = plan_terms renews plan (length script)

-- a whole history of what threads were asked for: it is legal and belongs to that
pub record IsHistoryWith (renews : Bool) (plan : Plan) (script : Script) (h : List Item) : Type 0 where
  pub legal : IsLegal (script_terms_with renews plan script) h
  pub belongs : Belongs (script_terms_with renews plan script) script h
