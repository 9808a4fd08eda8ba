-- What calls tell that only look at words. No history has them.
use Rattle.std.specs.Prelude.{◌≡◌, ℕ, Option, List, length, option_map, unwrap_or}
use Rattle.lxr_large_model.specs.History.{LargeItem, large_state}
use Rattle.lxr_large_model.specs.State.{LargeState}
use Rattle.lxr_heap.specs.declared.bulk.BodyReply.{BodyReply}
use Rattle.lxr_heap.specs.Bulk.{words_from}
use Rattle.lxr_c_heap.specs.declared.host.HostHeap.{HostHeap}
use Rattle.lxr_c_many.specs.Fields.{comes_to}
use Rattle.lxr_c_words.specs.Words.{words_at}

-- how many words an object has; nothing of nil
abbrev pub SeesLength : HostHeap → List LargeItem → ℕ → Option ℕ → Type 0
SeesLength x h base count = count ≡ option_map length (words_at (large_state h) base)

-- as many words as there is place for were read from an index on, all or none
pub record ReadsWords (first : ℕ) (old new : List ℕ) (s : LargeState) (base : ℕ) (r : BodyReply) : Type 0 where
  pub reply : r ≡ comes_to (words_at s base) first (length old)
  pub read : new ≡ unwrap_or (words_from (words_at s base) first (length old)) old

-- so they were of a heap
abbrev pub SeesWords : ℕ → List ℕ → List ℕ → HostHeap → List LargeItem → ℕ → BodyReply → Type 0
SeesWords first old new x h base r = ReadsWords first old new (large_state h) base r
