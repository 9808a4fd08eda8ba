-- What calls tell that only look at a heap, or go over words of a body in a row.
use Rattle.std.specs.Prelude.{◌≡◌, ℕ, ◌*◌, ◌-◌, ◌↔◌, ◌==◌, Bool, if◌then◌else◌, IsTrue, Option, None, Some, option_map, List, length, unwrap_or, Result, Ok, Err}
use Rattle.lxr_layout.specs.declared.Shape.{Shape}
use Rattle.lxr_layout.specs.declared.TheConstants.{DECREMENT_COUNT}
use Rattle.lxr_graph.specs.declared.Reply.TheVariants as reply
use Rattle.lxr_graph.specs.State.{register_at}
use Rattle.lxr_image.specs.Spaces.{tables_of}
use Rattle.lxr_blocks.specs.Listing.{listed_frees}
use Rattle.lxr_large_model.specs.declared.LargeOp.{LargeOp}
use Rattle.lxr_large_model.specs.declared.LargeReply.{LargeReply}
use Rattle.lxr_large_model.specs.declared.LargeReply.TheVariants as large_reply
use Rattle.lxr_large_model.specs.Full.{kept_names}
use Rattle.lxr_large_model.specs.History.{LargeItem, large_moment, large_state}
use Rattle.lxr_large_model.specs.Step.{IsLargeReply}
use Rattle.lxr_large_bodies.specs.Bodies.{blocks_held}
use Rattle.lxr_heap.specs.declared.bulk.BodyReply.{BodyReply}
use Rattle.lxr_heap.specs.declared.bulk.BodyReply.TheVariants as body_reply
use Rattle.lxr_heap.specs.Bulk.{WritesWords, base_held, bulk_reply, words_held}
use Rattle.lxr_heap.specs.Holding.{IsHeapOf}
use Rattle.lxr_heap.specs.Looking.{shape_held}
use Rattle.lxr_c_base.specs.declared.codes.Code.{Code}
use Rattle.lxr_c_base.specs.declared.codes.Code.TheVariants as code
use Rattle.lxr_c_base.specs.Codes.{Answer, answered, flag, written_over}
use Rattle.lxr_c_base.specs.Requests.{Request}
use Rattle.lxr_c_heap.specs.declared.counts.Counted.{Counted}
use Rattle.lxr_c_heap.specs.declared.counts.Counted.TheVariants as counted
use Rattle.lxr_c_heap.specs.declared.host.HostHeap.{HostHeap}
use Rattle.lxr_c_heap.specs.Keeping.{Kept}

-- Something was looked at: the handle has no heap, or what is wanted isn't there, or this holds of what was seen, whatever history the heap is of.
-- Nothing has changed.
abbrev pub Looks : {R T : Type 0} → (HostHeap → List LargeItem → R → T → Type 0) → Kept → Kept → Result R Code → Result T Code → Type 0
Looks sees None after wanted answer = (answer ≡ Err code.NoHeap) × (after ≡ None)
Looks sees (Some x) after (Err e) answer = (answer ≡ Err e) × (after ≡ Some x)
Looks {R} {T} sees (Some x) after (Ok what) answer = (after ≡ Some x) × (seen : T) × (answer ≡ Ok seen) × ((h : List LargeItem) → IsHeapOf x.heap h → sees x h what seen)

-- ---- operations that only look

-- The reply is that of a step of the model. No history has the operation: the heap is of the histories that it was of.
abbrev pub SeesReply : HostHeap → List LargeItem → LargeOp → LargeReply → Type 0
SeesReply x h o r = IsLargeReply (large_state h) o r

-- the word that a reply tells
abbrev pub word_in : Answer → Option ℕ
word_in (Ok (large_reply.Small (reply.Got v))) = Some v
word_in (Ok (large_reply.Got v)) = Some v
word_in answer = None

-- whether two registers hold the same, where a reply tells it
abbrev pub same_in : Answer → Option Bool
same_in (Ok (large_reply.Small (reply.Same b))) = Some b
same_in answer = None

-- the same as a number of the program's
abbrev pub same_flag : Answer → Option ℕ
same_flag answer = option_map flag (same_in answer)

-- A look was asked for, and the program gets the number of its answer, and what it tells in a place of its own, which stays as it was where it
-- tells nothing.
abbrev pub Tells : (Answer → Option ℕ) → Kept → Kept → Request → ℕ → ℕ → ℕ → Type 0
Tells told before after request result old new = (answer : Answer) × Looks SeesReply before after request answer × (result ≡ answered answer) × (new ≡ written_over old (told answer))

-- ---- registers and shapes

-- whether a register is nil
abbrev pub SeesNil : HostHeap → List LargeItem → ℕ → Bool → Type 0
SeesNil x h register nil = IsTrue nil ↔ (register_at (large_state h).small 1 register ≡ None)

-- the shape of the object that a register holds, and how many blocks its body has; nothing of nil
abbrev pub SeesShape : HostHeap → List LargeItem → ℕ → Option (Shape × ℕ) → Type 0
SeesShape x h base shape = shape ≡ shape_held (large_state h) (register_at (large_state h).small 1 base)

-- ---- words of a body in a row

-- as many words as there is place for were read from one of an index on, all or none
abbrev pub SeesWords : ℕ → List ℕ → List ℕ → HostHeap → List LargeItem → ℕ → BodyReply → Type 0
SeesWords i old new x h base r =
    (r ≡ bulk_reply (large_state h) (base_held h base) i (length old)) × (new ≡ unwrap_or (words_held (large_state h) (base_held h base) i (length old)) old)

-- Words were to be written from one of an index on, all or none.
abbrev pub Writes : Kept → Kept → Result ℕ Code → ℕ → List ℕ → Result BodyReply Code → Type 0
Writes None after base i words answer = (answer ≡ Err code.NoHeap) × (after ≡ None)
Writes (Some x) after (Err e) i words answer = (answer ≡ Err e) × (after ≡ Some x)
Writes (Some x) after (Ok base) i words answer =
    (y : HostHeap) × (r : BodyReply) × (after ≡ Some y) × (answer ≡ Ok r) × (y ≡ record x { heap = y.heap }) × ((h : List LargeItem) → IsHeapOf x.heap h → WritesWords x.heap y.heap h base i words r)

-- the code of what it came to
abbrev pub bulk_code : Result BodyReply Code → Code
bulk_code (Ok body_reply.Done) = code.Done
bulk_code (Ok body_reply.Bad) = code.Nil
bulk_code (Ok body_reply.Range) = code.Index
bulk_code (Err e) = e

-- ---- counts

-- what is counted by this number of the program's
abbrev pub counted_by : ℕ → Result Counted Code
counted_by n =
    if n == 0 then Ok counted.Pauses
    else (if n == 1 then Ok counted.Promoted
    else (if n == 2 then Ok counted.Dead
    else (if n == 3 then Ok counted.Stuck
    else (if n == 4 then Ok counted.Swept
    else (if n == 5 then Ok counted.Live
    else (if n == 6 then Ok counted.FreeBlocks
    else (if n == 7 then Ok counted.FreeBodyBytes
    else (if n == 13 then Ok counted.Room
    else (if n == 14 then Ok counted.Waiting
    else Err code.What)))))))))

-- What is counted: pauses since the heap was opened; names of each list of the last report; objects that aren't reclaimed, without the world; Free
-- blocks; the bytes of the blocks for bodies that no body has; the blocks of the room, as it was set last; and entries of the list of decrements.
abbrev pub Counts : HostHeap → List LargeItem → Counted → ℕ → Type 0
Counts x h counted.Pauses n = n ≡ x.pauses
Counts x h counted.Promoted n = n ≡ length x.heap.space.report.promoted.items
Counts x h counted.Dead n = n ≡ length x.heap.space.report.dead.items
Counts x h counted.Stuck n = n ≡ length x.heap.space.report.stuck.items
Counts x h counted.Swept n = n ≡ length x.heap.space.report.swept.items
Counts x h counted.Live n = n ≡ length (kept_names (large_moment h))
Counts x h counted.FreeBlocks n = n ≡ length (listed_frees (tables_of x.heap.space) x.heap.space.limits.blocks)
Counts x h counted.FreeBodyBytes n = n ≡ 32768 * (x.heap.bodies.blocks - blocks_held x.heap.bodies.bodies)
Counts x h counted.Room n = n ≡ x.room.blocks
Counts x h counted.Waiting n = n ≡ (tables_of x.heap.space).cursors DECREMENT_COUNT

-- ---- what the program gets

-- what was told of an object: NIL where there is none
abbrev pub of_object : {T : Type 0} → Result (Option T) Code → Result T Code
of_object (Ok None) = Err code.Nil
of_object (Ok (Some s)) = Ok s
of_object (Err e) = Err e
