-- What each call of many does at a handle.
use Rattle.std.specs.Prelude.{◌≡◌, ◌≢◌, ◌≤◌, ℕ, false, None, Some, Result, Ok, Err, List, length, unwrap_or}
use Rattle.lxr_large_model.specs.History.{LargeItem, large_state}
use Rattle.lxr_heap.specs.declared.bulk.BodyReply.{BodyReply}
use Rattle.lxr_heap.specs.declared.bulk.BodyReply.TheVariants as body_reply
use Rattle.lxr_heap.specs.Bulk.{words_from}
use Rattle.lxr_c_base.specs.declared.codes.Code.{Code}
use Rattle.lxr_c_base.specs.declared.codes.Code.TheVariants as code
use Rattle.lxr_c_heap.specs.declared.host.HostHeap.{HostHeap}
use Rattle.lxr_c_heap.specs.Hosting.{IsHostOf, PausesWhere, Settles}
use Rattle.lxr_c_heap.specs.Keeping.{Kept}
use Rattle.lxr_c_many.specs.Fields.{comes_to, load_of, put_of, references_in, store_of, words_in}
use Rattle.lxr_c_many.specs.Following.{Follows, newest_first}
use Rattle.lxr_c_many.specs.Recording.{LogIsShort}

-- Something was asked for: the handle has no heap, or the numbers don't fit, or this was done on its heap, whatever history that is of.
abbrev pub Does : {R T : Type 0} → (HostHeap → HostHeap → List LargeItem → R → T → Type 0) → Kept → Kept → Result R Code → Result T Code → Type 0
Does does None after wanted answer = (answer ≡ Err code.NoHeap) × (after ≡ None)
Does does (Some x) after (Err e) answer = (answer ≡ Err e) × (after ≡ Some x)
Does {R} {T} does (Some x) after (Ok what) answer = (y : HostHeap) × (told : T) × (after ≡ Some y) × (answer ≡ Ok told) × ((h : List LargeItem) → IsHostOf x h → does x y h what told)

-- ---- data words

-- as many data words as there is place for were read from an index on, all or none
abbrev pub SeesFields : ℕ → List ℕ → List ℕ → HostHeap → List LargeItem → ℕ → BodyReply → Type 0
SeesFields first old new x h base r =
    (r ≡ comes_to (words_in (large_state h) base) first (length old)) × (new ≡ unwrap_or (words_from (words_in (large_state h) base) first (length old)) old)

-- Data words were written from an index on, all or none: so many puts in order, each done.
pub record PutsWords (first : ℕ) (words : List ℕ) (x y : HostHeap) (h : List LargeItem) (base : ℕ) (r : BodyReply) : Type 0 where
  pub reply : r ≡ comes_to (words_in (large_state h) base) first (length words)
  pub unchanged : r ≢ body_reply.Done → y ≡ x
  pub follows : r ≡ body_reply.Done → Follows x h y (newest_first (put_of base) first words)

-- ---- references

-- References from an index on were loaded, all or none: so many loads in order, each done. Each register got what the object referred to before the
-- first.
pub record LoadsReferences (first : ℕ) (targets : List ℕ) (x y : HostHeap) (h : List LargeItem) (base : ℕ) (r : BodyReply) : Type 0 where
  pub reply : r ≡ comes_to (references_in (large_state h) base) first (length targets)
  pub unchanged : r ≢ body_reply.Done → y ≡ x
  pub follows : r ≡ body_reply.Done → Follows x h y (newest_first (load_of (large_state h) base) first targets)

-- So many stores in order, each done: the heap settles before them, and a plain pause is made exactly where the log has no room for what they record.
pub record StoresAll (first : ℕ) (sources : List ℕ) (x y : HostHeap) (h : List LargeItem) (base : ℕ) : Type 0 where
  pub settled : HostHeap
  pub settled_history : List LargeItem
  pub settles : Settles x h settled settled_history
  pub paused : HostHeap
  pub paused_history : List LargeItem
  pub pauses : PausesWhere (LogIsShort settled.heap settled_history base first (length sources)) false settled settled_history paused paused_history
  pub follows : Follows paused paused_history y (newest_first (store_of base) first sources)

-- References from an index on were stored to, all or none. Where there are none to be stored, nothing has changed.
pub record StoresReferences (first : ℕ) (sources : List ℕ) (x y : HostHeap) (h : List LargeItem) (base : ℕ) (r : BodyReply) : Type 0 where
  pub reply : r ≡ comes_to (references_in (large_state h) base) first (length sources)
  pub unchanged : r ≢ body_reply.Done → y ≡ x
  pub none : length sources ≡ 0 → y ≡ x
  pub stores : r ≡ body_reply.Done → 1 ≤ length sources → StoresAll first sources x y h base
