-- What the text of a history's calls obeys.
use Rattle.std.specs.Prelude.{◌≡◌, ℕ, List, [], ◌∷◌, ◌++◌, length, take}
use Rattle.lxr_graph.specs.declared.Op.{Op}
use Rattle.lxr_graph.specs.declared.Op.TheVariants as op
use Rattle.lxr_graph.specs.declared.Reply.{Reply}
use Rattle.lxr_graph.specs.History.{Item, Call, calls_of, replies_of}
use Rattle.lxr_text_print.specs.Replies.{call_text, replies_text, thread_text}

-- a call of the thread adds its line at the end
abbrev pub GrowsByCalls : Type 0
GrowsByCalls = (t : ℕ) (o : Op) (r : Reply) (h : List Item) → thread_text t (Call t o r ∷ h) ≡ thread_text t h ++ call_text o r

-- where a thread's calls are operations and then its end, its text is that of the operations and of their replies,
-- whatever stands behind those
abbrev pub IsOfItsOperations : Type 0
IsOfItsOperations = (t : ℕ) (h : List Item) (os : List Op) (rs : List Reply) →
    calls_of t h ≡ os ++ op.End ∷ [] → take (length os) (replies_of t h) ≡ take (length os) rs → thread_text t h ≡ replies_text t os rs
