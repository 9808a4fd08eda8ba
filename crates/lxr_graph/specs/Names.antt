-- Names: when two are the same, their order, and lists of names as sets.
use Rattle.std.specs.Prelude.{◌↔◌, Bool, true, false, not, ◌&&◌, nat_eq, if◌then◌else◌, Option, Some, None, List, [], ◌∷◌, IsTrue, filter}
use Rattle.std.specs.List.{list_any}
use Rattle.std.specs.List.Sorted.{IsStrictlySortedBy}
use Rattle.std.specs.Ordering.{nat_cmp, ordering_then, is_lt}
use Rattle.std.specs.declared.cmp.Ordering.{Ordering}
use Rattle.lxr_layout.specs.declared.Name.{Name}

-- the same thread and the same serial
abbrev pub same_name : Name → Name → Bool
same_name a b = nat_eq a.thread b.thread && nat_eq a.serial b.serial

-- both nil, or both the same name
abbrev pub same_held : Option Name → Option Name → Bool
same_held None None = true
same_held None (Some b) = false
same_held (Some a) None = false
same_held (Some a) (Some b) = same_name a b

-- names are ordered by thread, and those of one thread by serial
abbrev pub name_order : Name → Name → Ordering
name_order a b = ordering_then (nat_cmp a.thread b.thread) (nat_cmp a.serial b.serial)

-- names stand in order, each once
abbrev pub AreInOrder : List Name → Type 0
AreInOrder = IsStrictlySortedBy name_order

-- a list of names has n
abbrev pub has : List Name → Name → Bool
has ns n = list_any (same_name n) ns

-- the names of the first list that aren't in the second
abbrev pub without : List Name → List Name → List Name
without ns out = filter (λ n. not (has out n)) ns

-- a name put into a list in order, where it isn't there yet
abbrev pub insert_name : Name → List Name → List Name
insert_name n [] = n ∷ []
insert_name n (m ∷ ms) =
    if is_lt (name_order m n) then m ∷ insert_name n ms
    else if same_name n m then m ∷ ms
    else n ∷ m ∷ ms

-- the names of both lists, each once and in order where both lists are so
abbrev pub union : List Name → List Name → List Name
union [] ms = ms
union (n ∷ ns) ms = insert_name n (union ns ms)

-- the names of which P holds, each once and in order
pub record IsSetOf (ns : List Name) (P : Name → Type 0) : Type 0 where
  pub in_order : AreInOrder ns
  pub members : (n : Name) → IsTrue (has ns n) ↔ P n
