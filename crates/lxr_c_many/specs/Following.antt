-- Operations that are done one after another on a heap, with no pause between them.
use Rattle.std.specs.Prelude.{◌≡◌, ℕ, ◌+◌, List, [], ◌∷◌, ◌++◌}
use Rattle.lxr_large_model.specs.History.{LargeItem, Called, Paused, Renewed}
use Rattle.lxr_c_heap.specs.declared.host.HostHeap.{HostHeap}
use Rattle.lxr_c_heap.specs.Hosting.{Replies}

-- These items, the newest first, are calls that were done one after another on a heap x of history h, and led to y. So each reply is the model's, y
-- is the heap of that history with them in front, and no pause stands between.
abbrev pub Follows : HostHeap → List LargeItem → HostHeap → List LargeItem → Type 0
Follows x h y [] = y ≡ x
Follows x h y (Called o r ∷ new) = (m : HostHeap) × Follows x h m new × Replies m y (new ++ h) o r
Follows x h y (Paused report ∷ new) = ⊥
Follows x h y (Renewed ns ∷ new) = ⊥

-- an item for each of some things, which are numbered from an index on: the newest first
abbrev pub newest_first : {A : Type 0} → (ℕ → A → LargeItem) → ℕ → List A → List LargeItem
newest_first item i [] = []
newest_first item i (x ∷ xs) = newest_first item (i + 1) xs ++ item i x ∷ []
