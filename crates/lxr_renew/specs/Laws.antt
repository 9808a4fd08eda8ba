-- Laws of renewed names, each the contract of a function with an empty body.
use Rattle.std.specs.Prelude.{◌≡◌, ℕ, ◌≤◌, true, Some, None, List, [], ◌∷◌, IsTrue}
use Rattle.lxr_layout.specs.declared.Name.{Name}
use Rattle.lxr_graph.specs.Names.{AreInOrder, has}
use Rattle.lxr_graph.specs.History.{Item, Renew}
use Rattle.lxr_graph.specs.State.{Graph, Object, State, object_at, world, world_name}
use Rattle.lxr_graph.specs.Renewing.{renewed_graph, renewed_name, renewed_object, renewed_state}
use Rattle.lxr_model.specs.Legal.{IsLegal, IsLegalSoFar}
use Rattle.lxr_model.specs.Moments.{moment}
use Rattle.lxr_model.specs.Renewing.{IsBehindDraining, IsStart}
use Rattle.lxr_model.specs.Terms.{Terms}

-- no two objects that are left get the same name
abbrev pub NamesAreOneToOne : Type 0
NamesAreOneToOne = (ns : List Name) → AreInOrder (world_name ∷ ns) → (a b : Name) → IsTrue (has (world_name ∷ ns) a) → IsTrue (has (world_name ∷ ns) b)
    → renewed_name ns a ≡ renewed_name ns b → a ≡ b

-- the object of a name is found under its new name, with its references renamed
abbrev pub ObjectsAreRenamed : Type 0
ObjectsAreRenamed = (ns : List Name) → AreInOrder (world_name ∷ ns) → (threads : ℕ) (g : Graph) (n : Name) → IsTrue (has (world_name ∷ ns) n)
    → object_at (renewed_graph threads ns g) (renewed_name ns n) ≡ Some (renewed_object ns (object_at g n))

-- ---- histories

-- after a draining pause of a legal history a history may begin with what all that is left becomes
abbrev pub RenewalsAreSound : Type 0
RenewalsAreSound =
    (terms : Terms) (h : List Item) (ns : List Name) → 1 ≤ terms.threads → IsLegalSoFar terms h → IsBehindDraining h
    → (moment terms.threads h).unreclaimed ≡ world_name ∷ ns → IsStart terms.threads (moment terms.threads (Renew ns ∷ h))

-- so where terms allow it and no trace runs, all that is left may be renewed there
abbrev pub RenewalsAreLegal : Type 0
RenewalsAreLegal =
    (terms : Terms) (h : List Item) (ns : List Name) → 1 ≤ terms.threads → terms.renews ≡ true → IsLegal terms h → IsBehindDraining h
    → (moment terms.threads h).trace ≡ None → (moment terms.threads h).unreclaimed ≡ world_name ∷ ns → IsLegal terms (Renew ns ∷ h)

-- ---- a small example

-- the name of the thread's object of a serial
abbrev pub made : ℕ → Name
made serial = record { thread = 1; serial = serial }

-- an object that refers to another one, and has one data word
abbrev pub referring : Name → ℕ → Object
referring n value = record { refs = Some n ∷ None ∷ []; values = value ∷ [] }

-- an object without references, with one data word
abbrev pub plain : ℕ → Object
plain value = record { refs = []; values = value ∷ [] }

-- Three objects were made. The second is held by a register and refers to the third; the first is unreachable.
abbrev pub three_made : State
three_made = record {
  graph = (world ∷ []) ∷ (plain 5 ∷ referring (made 3) 6 ∷ plain 7 ∷ []) ∷ [];
  registers = Some world_name ∷ None ∷ Some (made 2) ∷ [];
}

-- Once names are renewed, the second is 1.1 and the third 1.2.
abbrev pub two_left : State
two_left = record {
  graph = (world ∷ []) ∷ (referring (made 2) 6 ∷ plain 7 ∷ []) ∷ [];
  registers = Some world_name ∷ None ∷ Some (made 1) ∷ [];
}

abbrev pub ExampleIsRenewed : Type 0
ExampleIsRenewed = renewed_state 1 (made 2 ∷ made 3 ∷ []) three_made ≡ two_left
