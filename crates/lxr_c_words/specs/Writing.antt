-- What calls do that write words.
use Rattle.std.specs.Prelude.{◌≡◌, ◌≢◌, ℕ, ◌+◌, None, Some, Option, List, ◌++◌, length, option_map}
use Rattle.lxr_layout.specs.declared.Name.{Name}
use Rattle.lxr_graph.specs.State.{register_at}
use Rattle.lxr_large_model.specs.History.{LargeItem, large_state}
use Rattle.lxr_large_model.specs.State.{LargeState, body_of}
use Rattle.lxr_large_bodies.specs.Bodies.{overwritten}
use Rattle.lxr_heap.specs.declared.bulk.BodyReply.{BodyReply}
use Rattle.lxr_heap.specs.declared.bulk.BodyReply.TheVariants as body_reply
use Rattle.lxr_heap.specs.Bulk.{WritesWords, with_puts}
use Rattle.lxr_c_heap.specs.declared.host.HostHeap.{HostHeap}
use Rattle.lxr_c_many.specs.Fields.{comes_to, put_of}
use Rattle.lxr_c_many.specs.Following.{Follows, newest_first}
use Rattle.lxr_c_words.specs.Words.{words_at}

-- the body of what is held, where there is one
abbrev pub body_held : LargeState → Option Name → Option (List ℕ)
body_held s None = None
body_held s (Some n) = body_of s.large n

-- One put for each of these words was done, in order: of data words, or of words of the body, where word i stands behind the one that says how many
-- there are.
abbrev pub PutsEach : Option (List ℕ) → ℕ → List ℕ → HostHeap → HostHeap → List LargeItem → ℕ → Type 0
PutsEach None first words x y h base = Follows x h y (newest_first (put_of base) first words)
PutsEach (Some body) first words x y h base = WritesWords x.heap y.heap h base (first + 1) words body_reply.Done × (y ≡ record x { heap = y.heap })

-- the history with these puts
abbrev pub history_with : Option (List ℕ) → List LargeItem → ℕ → ℕ → List ℕ → List LargeItem
history_with None h base first words = newest_first (put_of base) first words ++ h
history_with (Some body) h base first words = with_puts h base (first + 1) words

-- Words were written from an index on, all or none: then they stand over those that the object had there, and all others are as they were.
pub record Writes (first : ℕ) (words : List ℕ) (x y : HostHeap) (h : List LargeItem) (base : ℕ) (r : BodyReply) : Type 0 where
  pub reply : r ≡ comes_to (words_at (large_state h) base) first (length words)
  pub unchanged : r ≢ body_reply.Done → y ≡ x
  pub puts : r ≡ body_reply.Done → PutsEach (body_held (large_state h) (register_at (large_state h).small 1 base)) first words x y h base
  pub after : r ≡ body_reply.Done
      → words_at (large_state (history_with (body_held (large_state h) (register_at (large_state h).small 1 base)) h base first words)) base ≡ option_map (overwritten first words) (words_at (large_state h) base)
