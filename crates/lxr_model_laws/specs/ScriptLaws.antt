-- Scripts that grow: what a thread is asked for needs not be known before it is done.
use Rattle.std.specs.Prelude.{◌≡◌, ℕ, ◌≤◌, ⊤, List, [], ◌∷◌, ◌++◌, length}
use Rattle.lxr_graph.specs.declared.Op.{Op}
use Rattle.lxr_graph.specs.History.{Item, calls_of}
use Rattle.lxr_model.specs.Belongs.{IsHistorySoFar, Script, operations_of}
use Rattle.lxr_model.specs.Terms.{Terms}

-- A script goes on from another: each thread is asked for what it was asked for, and maybe for more behind that.
abbrev pub GoesOn : Script → Script → Type 0
GoesOn [] [] = ⊤
GoesOn (asked ∷ script) (asked' ∷ script') = ((more : List Op) × (asked' ≡ asked ++ more)) × GoesOn script script'
GoesOn script script' = ⊥

-- a thread that has done all its operations and its end is asked for nothing more
abbrev pub EndedAreAskedNoMore : Script → Script → List Item → Type 0
EndedAreAskedNoMore script script' h = (t : ℕ) → 1 ≤ t → t ≤ length script → calls_of t h ≡ operations_of script t → operations_of script' t ≡ operations_of script t

-- A history so far of a script is one of each script that goes on from it, where threads that have ended are asked for nothing more. So a
-- script is at each moment the list of all that was asked so far.
abbrev pub ScriptsMayGrow : Type 0
ScriptsMayGrow = (terms : Terms) (script script' : Script) (h : List Item) → GoesOn script script' → EndedAreAskedNoMore script script' h → IsHistorySoFar terms script h → IsHistorySoFar terms script' h
