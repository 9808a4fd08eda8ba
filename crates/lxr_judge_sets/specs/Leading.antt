-- What names lead to, and what a search finds of it. A search may find only some names, its candidates.
use Rattle.std.specs.Prelude.{◌≡◌, ◌↔◌, ◌&&◌, ◌||◌, Bool, Option, Some, List, ◌++◌, IsTrue}
use Rattle.std.specs.List.{list_any}
use Rattle.lxr_layout.specs.declared.Name.{Name}
use Rattle.lxr_graph.specs.Names.{has, same_held}
use Rattle.lxr_graph.specs.State.{Graph, object_at, refs_of}
use Rattle.lxr_model.specs.Reachable.{Refers}

-- The least set with these names and the candidates to which its members refer.
pub data LeadTo (g : Graph) (may : Name → Bool) (begun : List Name) : Name → Type 0 where
  begins : {n : Name} → IsTrue (has begun n) → LeadTo g may begun n
  refers_on : {m n : Name} → LeadTo g may begun m → Refers g m n → IsTrue (may n) → LeadTo g may begun n

-- a list goes on from where another ends
abbrev pub GoesOn : List Name → List Name → Type 0
GoesOn before after = (more : List Name) × (after ≡ before ++ more)

-- of what these references hold, the candidates are found, and nothing else
pub record Finds (may : Name → Bool) (before : List Name) (held : List (Option Name)) (after : List Name) : Type 0 where
  pub goes_on : GoesOn before after
  pub found : (n : Name) → has after n ≡ (has before n || (may n && list_any (same_held (Some n)) held))

-- one of these names' objects refers to n
abbrev pub any_refers : Graph → List Name → Name → Bool
any_refers g ms n = list_any (λ m. list_any (same_held (Some n)) (refs_of (object_at g m))) ms

-- of what these names' objects refer to, the candidates are found, and nothing else
pub record FindsFrom (g : Graph) (may : Name → Bool) (before from after : List Name) : Type 0 where
  pub goes_on : GoesOn before after
  pub found : (n : Name) → has after n ≡ (has before n || (may n && any_refers g from n))

-- what the names found before lead to is found, and nothing else
abbrev pub FindsAll : Graph → (Name → Bool) → List Name → List Name → Type 0
FindsAll g may before after = (n : Name) → IsTrue (has after n) ↔ LeadTo g may before n
