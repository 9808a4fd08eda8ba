-- The text of the replies on a heap with large objects: the line `thread 1`, and a line for each operation.
use Rattle.std.specs.Prelude.{◌≢◌, ℕ, ◌≤◌, List, [], ◌∷◌, ◌++◌, All, length, flat_map, codes, decimal}
use Rattle.std.specs.List.{zip}
use Rattle.lxr_graph.specs.declared.Op.TheVariants as op
use Rattle.lxr_text_print.specs.Lines.{line, name_text}
use Rattle.lxr_text_print.specs.Replies.{answer_of, heading_text, word_of}
use Rattle.lxr_large_model.specs.declared.LargeOp.{LargeOp}
use Rattle.lxr_large_model.specs.declared.LargeOp.TheVariants as large_op
use Rattle.lxr_large_model.specs.declared.LargeReply.{LargeReply}
use Rattle.lxr_large_model.specs.declared.LargeReply.TheVariants as large_reply

-- the word of an operation
abbrev pub large_word : LargeOp → List ℕ
large_word (large_op.Small o) = word_of o
large_word (large_op.Big dest blocks) = codes "big"
large_word (large_op.BigPut base index value) = codes "bput"
large_word (large_op.BigGet base index) = codes "bget"

-- the word of a reply
abbrev pub large_answer : LargeReply → List ℕ
large_answer (large_reply.Small r) = answer_of r
large_answer (large_reply.Big n) = name_text n
large_answer large_reply.Full = codes "full"
large_answer large_reply.Put = codes "ok"
large_answer (large_reply.Got value) = decimal value
large_answer large_reply.Bad = codes "bad"
large_answer large_reply.Range = codes "range"

-- the line of an operation and its reply
abbrev pub one_text : LargeOp → LargeReply → List ℕ
one_text o r = line (large_word o ∷ large_answer r ∷ [])

-- the lines of operations and their replies, in order; a reply behind the last operation prints nothing
abbrev pub lines_text : List LargeOp → List LargeReply → List ℕ
lines_text os rs = flat_map (λ c. one_text c.0 c.1) (zip os rs)

-- the text of operations and their replies
abbrev pub large_text : List LargeOp → List LargeReply → List ℕ
large_text os rs = heading_text 1 ++ lines_text os rs

-- the operation isn't the end of the thread, which has no word
abbrev pub IsNoEnd : LargeOp → Type 0
IsNoEnd (large_op.Small o) = o ≢ op.End
IsNoEnd o = Unit {0}

-- each operation has a reply, and none is the end
pub record AreLargePrintable (os : List LargeOp) (rs : List LargeReply) : Type 0 where
  pub replied : length os ≤ length rs
  pub no_end : All IsNoEnd os
