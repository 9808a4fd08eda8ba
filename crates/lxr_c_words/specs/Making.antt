-- An object that is made for so many words.
use Rattle.std.specs.Prelude.{◌≡◌, ℕ, ◌+◌, ◌*◌, ◌/◌, ◌<◌, nat_le, if◌then◌else◌, Option, None, Some, List, ◌∷◌, replicate}
use Rattle.lxr_layout.specs.declared.TheConstants.{WORDS_IN_BLOCK}
use Rattle.lxr_layout.specs.declared.fields.TheConstants.{MOST_FIELDS}
use Rattle.lxr_graph.specs.declared.Op.TheVariants as op
use Rattle.lxr_graph.specs.declared.Reply.TheVariants as reply
use Rattle.lxr_large_model.specs.declared.LargeOp.{LargeOp}
use Rattle.lxr_large_model.specs.declared.LargeOp.TheVariants as large_op
use Rattle.lxr_large_model.specs.declared.LargeReply.{LargeReply}
use Rattle.lxr_large_model.specs.declared.LargeReply.TheVariants as large_reply
use Rattle.lxr_large_model.specs.History.{LargeItem, Called, large_state}
use Rattle.lxr_c_base.specs.Requests.{Request, big, new}
use Rattle.lxr_c_heap.specs.declared.host.HostHeap.{HostHeap}
use Rattle.lxr_c_heap.specs.Hosting.{Makes, Replies}
use Rattle.lxr_c_words.specs.Words.{words_at}

-- The object that is wanted for so many words: one of so many data words and no reference, and beyond 1,023 of them a large one, whose body has
-- room for one word more.
abbrev pub words_wanted : ℕ → ℕ → ℕ → Request
words_wanted registers dest length = if nat_le length MOST_FIELDS then new registers dest 0 length else big registers dest (length / WORDS_IN_BLOCK + 1)

-- the register that holds a new object with a body, where an operation made one
abbrev pub body_made : LargeOp → LargeReply → Option ℕ
body_made (large_op.Big dest blocks) (large_reply.Big n) = Some dest
body_made o r = None

-- The first word of a new body becomes the number of its words: one put, done. Nothing is done where no body was made.
abbrev pub Counts : ℕ → Option ℕ → HostHeap → List LargeItem → HostHeap → Type 0
Counts length None m k y = y ≡ m
Counts length (Some dest) m k y = Replies m y k (large_op.BigPut dest 0 length) large_reply.Put

-- the history with that put
abbrev pub with_count : ℕ → Option ℕ → List LargeItem → List LargeItem
with_count length None h = h
with_count length (Some dest) h = Called (large_op.BigPut dest 0 length) large_reply.Put ∷ h

-- the register that holds a new object, where an operation made one
abbrev pub object_made : LargeOp → LargeReply → Option ℕ
object_made (large_op.Small (op.New dest shape)) (large_reply.Small (reply.New n)) = Some dest
object_made (large_op.Big dest blocks) (large_reply.Big n) = Some dest
object_made o r = None

-- an operation makes an object that has place for so many words
abbrev pub HasPlaceFor : ℕ → LargeOp → Type 0
HasPlaceFor length (large_op.Small (op.New dest shape)) = (shape.refs ≡ 0) × (shape.values ≡ length)
HasPlaceFor length (large_op.Big dest blocks) = length < WORDS_IN_BLOCK * blocks
HasPlaceFor length o = ⊥

-- An object was made for so many words, after the pauses that this needs, or refused as full; and the number of words is in the body that it has
-- for them. All of them are 0.
pub record MakesWords (length : ℕ) (x y : HostHeap) (h : List LargeItem) (o : LargeOp) (r : LargeReply) : Type 0 where
  pub made : HostHeap
  pub makes : Makes x made h o r
  pub counts : Counts length (body_made o r) made (Called o r ∷ makes.acts.history) y
  pub zeros : (dest : ℕ) → object_made o r ≡ Some dest → words_at (large_state (with_count length (body_made o r) (Called o r ∷ makes.acts.history))) dest ≡ Some (replicate length 0)
