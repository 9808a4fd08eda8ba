-- The dead and the promoted, as least sets.
use Rattle.std.specs.Prelude.{◌≡◌, Bool, false, List, IsTrue}
use Rattle.lxr_layout.specs.declared.Name.{Name}
use Rattle.lxr_graph.specs.Names.{has}
use Rattle.lxr_graph.specs.State.{State}
use Rattle.lxr_model.specs.Reachable.{Holds, Refers}

-- The least set within U of unstuck names that no register holds and whose references from U all come from the set:
-- what is left without a reference when dead objects, one after another, let go of what they refer to.
pub data Dead (s : State) (us stuck : List Name) : Name → Type 0 where
  dead : {o : Name} → IsTrue (has us o) → has stuck o ≡ false → (Holds s o → ⊥)
      → ((u : Name) → IsTrue (has us u) → Refers s.graph u o → Dead s us stuck u) → Dead s us stuck o

-- a set has each unstuck member of U that no register holds and to which only its members refer from U
abbrev pub IsClosedUnderDeath : State → List Name → List Name → (Name → Bool) → Type 0
IsClosedUnderDeath s us stuck p =
    (o : Name) → IsTrue (has us o) → has stuck o ≡ false → (Holds s o → ⊥)
    → ((u : Name) → IsTrue (has us u) → Refers s.graph u o → IsTrue (p u)) → IsTrue (p o)

-- The least set of names made since the last pause that a register, a reference of a kept member of U or a reference of
-- a member of this set holds.
pub data Promoted (s : State) (kept made : List Name) : Name → Type 0 where
  by_register : {n : Name} → IsTrue (has made n) → Holds s n → Promoted s kept made n
  by_kept : (u : Name) {n : Name} → IsTrue (has made n) → IsTrue (has kept u) → Refers s.graph u n → Promoted s kept made n
  by_promoted : {m n : Name} → IsTrue (has made n) → Promoted s kept made m → Refers s.graph m n → Promoted s kept made n

-- a set has each name made since the last pause that a register, a kept member of U or a member of the set holds
pub record IsClosedUnderPromotion (s : State) (kept made : List Name) (p : Name → Bool) : Type 0 where
  pub registers : (n : Name) → IsTrue (has made n) → Holds s n → IsTrue (p n)
  pub members : (u n : Name) → IsTrue (has made n) → IsTrue (has kept u) → Refers s.graph u n → IsTrue (p n)
  pub promoted : (m n : Name) → IsTrue (has made n) → IsTrue (p m) → Refers s.graph m n → IsTrue (p n)
