-- The text of a thread's replies: the line `thread T`, and a line for each operation but the end.
use Rattle.std.specs.Prelude.{◌≢◌, ℕ, ◌≤◌, true, false, Some, None, List, [], ◌∷◌, ◌++◌, All, length, take, flat_map, codes, decimal}
use Rattle.std.specs.List.{zip}
use Rattle.lxr_graph.specs.declared.Op.{Op}
use Rattle.lxr_graph.specs.declared.Op.TheVariants as op
use Rattle.lxr_graph.specs.declared.Reply.{Reply}
use Rattle.lxr_graph.specs.declared.Reply.TheVariants as reply
use Rattle.lxr_graph.specs.History.{Item, calls_of, replies_of}
use Rattle.lxr_text_print.specs.Lines.{line, name_text}

-- the word of an operation; the end has none
abbrev pub word_of : Op → List ℕ
word_of (op.New dest shape) = codes "new"
word_of (op.Load dest base index) = codes "load"
word_of (op.Store base index source) = codes "store"
word_of (op.Put base index value) = codes "put"
word_of (op.Get base index) = codes "get"
word_of (op.Swap dest base index source) = codes "swap"
word_of (op.Add base index value) = codes "add"
word_of (op.Move dest source) = codes "move"
word_of (op.Nil dest) = codes "nil"
word_of (op.Same left right) = codes "same"
word_of op.Pause = codes "pause"
word_of op.Collect = codes "collect"
word_of op.End = []

-- the word of a reply; that of the end is empty
abbrev pub answer_of : Reply → List ℕ
answer_of (reply.New name) = name_text name
answer_of reply.Full = codes "full"
answer_of (reply.Loaded None) = codes "nil"
answer_of (reply.Loaded (Some name)) = name_text name
answer_of reply.Stored = codes "ok"
answer_of (reply.Swapped None) = codes "nil"
answer_of (reply.Swapped (Some name)) = name_text name
answer_of reply.Put = codes "ok"
answer_of (reply.Got value) = decimal value
answer_of (reply.Added value) = decimal value
answer_of reply.Moved = codes "ok"
answer_of reply.Cleared = codes "ok"
answer_of (reply.Same true) = codes "yes"
answer_of (reply.Same false) = codes "no"
answer_of reply.Paused = codes "ok"
answer_of reply.Collected = codes "ok"
answer_of reply.Ended = []
answer_of reply.Bad = codes "bad"
answer_of reply.Range = codes "range"

-- the line of an operation and its reply; the end prints nothing
abbrev pub call_text : Op → Reply → List ℕ
call_text op.End r = []
call_text o r = line (word_of o ∷ answer_of r ∷ [])

-- the lines of operations and their replies, in order; a reply behind the last operation prints nothing
abbrev pub calls_text : List Op → List Reply → List ℕ
calls_text os rs = flat_map (λ c. call_text c.0 c.1) (zip os rs)

-- the line before a thread's replies
unfoldable pub heading_text : ℕ → List ℕ
heading_text t = line (codes "thread" ∷ decimal t ∷ [])

-- the text of a thread's operations and replies
abbrev pub replies_text : ℕ → List Op → List Reply → List ℕ
replies_text t os rs = heading_text t ++ calls_text os rs

-- the text of thread t's calls in a history
abbrev pub thread_text : ℕ → List Item → List ℕ
thread_text t h = replies_text t (calls_of t h) (replies_of t h)

-- each operation has a reply, and neither is of the end
pub record ArePrintable (os : List Op) (rs : List Reply) : Type 0 where
  pub replied : length os ≤ length rs
  pub no_end : All (λ o. o ≢ op.End) os
  pub none_ended : All (λ r. r ≢ reply.Ended) (take (length os) rs)
