-- Words of a body that are read or written in a row.
use Rattle.std.specs.Prelude.{◌≡◌, ◌≢◌, ℕ, ◌+◌, ◌==◌, nat_le, Bool, false, Option, Some, None, List, [], ◌∷◌, if◌then◌else◌, is_some, length, take, drop}
use Rattle.lxr_layout.specs.declared.Name.{Name}
use Rattle.lxr_graph.specs.State.{register_at}
use Rattle.lxr_large_model.specs.declared.LargeOp.TheVariants as large_op
use Rattle.lxr_large_model.specs.declared.LargeReply.TheVariants as large_reply
use Rattle.lxr_large_model.specs.History.{LargeItem, Called, large_state}
use Rattle.lxr_large_model.specs.State.{LargeState, body_of}
use Rattle.lxr_heap.specs.declared.heap.Heap.{Heap}
use Rattle.lxr_heap.specs.declared.bulk.BodyReply.{BodyReply}
use Rattle.lxr_heap.specs.declared.bulk.BodyReply.TheVariants as body_reply
use Rattle.lxr_heap.specs.Holding.{IsHeapOf, StayInBlocks, terms_of}

-- so many words from one of an index on, where there is a body that has them all
abbrev pub words_from : Option (List ℕ) → ℕ → ℕ → Option (List ℕ)
words_from None i count = None
words_from (Some words) i count = if nat_le (i + count) (length words) then Some (take count (drop i words)) else None

-- such words of the body of what is held
abbrev pub words_held : LargeState → Option Name → ℕ → ℕ → Option (List ℕ)
words_held s None i count = None
words_held s (Some n) i count = words_from (body_of s.large n) i count

-- what reading or writing so many words comes to, by what the base register holds
abbrev pub bulk_reply : LargeState → Option Name → ℕ → ℕ → BodyReply
bulk_reply s None i count = body_reply.Bad
bulk_reply s (Some n) i count = if is_some (words_from (body_of s.large n) i count) then body_reply.Done else body_reply.Range

-- what the base register of a bulk call holds
abbrev pub base_held : List LargeItem → ℕ → Option Name
base_held h base = register_at (large_state h).small 1 base

-- a history with one `bput` for each of these words, in order, from an index on
abbrev pub with_puts : List LargeItem → ℕ → ℕ → List ℕ → List LargeItem
with_puts h base i [] = h
with_puts h base i (w ∷ ws) = with_puts (Called (large_op.BigPut base i w) large_reply.Put ∷ h) base (i + 1) ws

-- whether a pause is fresh behind words that were written: where it was before, and there were none
abbrev pub fresh_behind : Bool → List ℕ → Bool
fresh_behind fresh words = if length words == 0 then fresh else false

-- the history with what a bulk write did: one `bput` for each word, or nothing
abbrev pub with_written : BodyReply → List LargeItem → ℕ → ℕ → List ℕ → List LargeItem
with_written body_reply.Done h base i words = with_puts h base i words
with_written body_reply.Bad h base i words = h
with_written body_reply.Range h base i words = h

-- Words were written to the body of what the base register holds, all or none: the heap is that of the history with one `bput` for each of them. So it
-- was done exactly where all of these are replied `ok`. Where it wasn't, nothing has changed; and nothing is made or gone, no body moves, and the
-- space of objects is as it was.
pub record WritesWords (before after : Heap) (h : List LargeItem) (base i : ℕ) (words : List ℕ) (r : BodyReply) : Type 0 where
  pub reply : r ≡ bulk_reply (large_state h) (base_held h base) i (length words)
  pub holds : IsHeapOf after (with_written r h base i words)
  pub unchanged : r ≢ body_reply.Done → after ≡ before
  pub made : after.made ≡ before.made
  pub space : after.space ≡ before.space
  pub gone : after.gone ≡ before.gone
  pub stay : StayInBlocks before.bodies.bodies after.bodies.bodies
  pub terms : terms_of after ≡ terms_of before
