-- A list of operations that are done in turn.
use Rattle.std.specs.Prelude.{◌≡◌, ◌≢◌, ℕ, ◌+◌, ◌==◌, ◌⊎◌, ⊤, if◌then◌else◌, Bool, Option, None, Some, Result, Ok, Err, List, [], ◌∷◌}
use Rattle.lxr_graph.specs.declared.Reply.TheVariants as reply
use Rattle.lxr_large_model.specs.declared.LargeOp.{LargeOp}
use Rattle.lxr_large_model.specs.declared.LargeReply.{LargeReply}
use Rattle.lxr_large_model.specs.declared.LargeReply.TheVariants as large_reply
use Rattle.lxr_large_model.specs.History.{LargeItem, Called, large_state}
use Rattle.lxr_large_model.specs.Step.{IsLargeReply}
use Rattle.lxr_heap.specs.Looking.{IsLook}
use Rattle.lxr_c_base.specs.declared.codes.Code.{Code}
use Rattle.lxr_c_base.specs.declared.codes.Code.TheVariants as code
use Rattle.lxr_c_base.specs.Codes.{code_of, flag, written_over}
use Rattle.lxr_c_base.specs.Requests as asking
use Rattle.lxr_c_base.specs.Requests.{IsMaking, IsQuiet, IsStoring, Request}
use Rattle.lxr_c_heap.specs.declared.host.HostHeap.{HostHeap}
use Rattle.lxr_c_heap.specs.Hosting.{IsHostOf, Makes, Replies, Stores, registers_in}
use Rattle.lxr_c_heap.specs.Keeping.{Kept}
use Rattle.lxr_c_heap.specs.Looking.{SeesNil}
use Rattle.lxr_c_many.specs.declared.asked.Asked.{Asked}
use Rattle.lxr_c_many.specs.declared.asked.Asked.TheVariants as asked
use Rattle.lxr_c_many.specs.declared.asked.Operation.{Operation}
use Rattle.lxr_c_many.specs.declared.applying.Applied.{Applied}
use Rattle.lxr_c_many.specs.declared.applying.Told.{Told}

-- ---- entries

-- a request of one kind, or the code of what is wrong with its numbers
abbrev pub as_asked : (LargeOp → Asked) → Request → Result Asked Code
as_asked kind (Ok o) = Ok (kind o)
as_asked kind (Err e) = Err e

-- a register of which it is asked whether it is nil, or the code of what is wrong with its number
abbrev pub as_nil : Result ℕ Code → Result Asked Code
as_nil (Ok register) = Ok (asked.IsNil register)
as_nil (Err e) = Err e

-- so with this number
abbrev pub nil_asked : ℕ → ℕ → Result Asked Code
nil_asked registers register = as_nil (asking.register_of registers register)

-- what an entry asks for, by the number of the operation, or the code of what is wrong with its numbers, where there are so many registers
abbrev pub asked_of : ℕ → Operation → Result Asked Code
asked_of registers e =
    if e.op == 0 then as_asked asked.Make (asking.new registers e.a e.b e.c)
    else (if e.op == 1 then as_asked asked.Reply (asking.load registers e.a e.b e.c)
    else (if e.op == 2 then as_asked asked.Store (asking.store registers e.a e.b e.c)
    else (if e.op == 3 then as_asked asked.See (asking.get registers e.a e.b)
    else (if e.op == 4 then as_asked asked.Reply (asking.put registers e.a e.b e.word)
    else (if e.op == 5 then as_asked asked.See (asking.same registers e.a e.b)
    else (if e.op == 6 then as_asked asked.Reply (asking.copy registers e.a e.b)
    else (if e.op == 7 then as_asked asked.Reply (asking.nil registers e.a)
    else (if e.op == 8 then nil_asked registers e.a
    else Err code.What))))))))

-- what may be asked for: an operation of its kind, with registers, a shape and indexes as there are
abbrev pub MayBeAsked : ℕ → Asked → Type 0
MayBeAsked registers (asked.Make o) = IsMaking registers o
MayBeAsked registers (asked.Store o) = IsStoring registers o
MayBeAsked registers (asked.Reply o) = IsQuiet registers o
MayBeAsked registers (asked.See o) = IsLook o
MayBeAsked registers (asked.IsNil register) = ⊤

-- an entry asks for something
abbrev pub Asks : ℕ → Operation → Type 0
Asks registers e = (a : Asked) × (asked_of registers e ≡ Ok a)

-- all entries ask for something; or this is the code of the first that doesn't
abbrev pub AllAsk : ℕ → List Operation → Result (Unit {0}) Code → Type 0
AllAsk registers [] answer = answer ≡ Ok tt
AllAsk registers (e ∷ es) answer = (Asks registers e × AllAsk registers es answer) ⊎ ((c : Code) × (asked_of registers e ≡ Err c) × (answer ≡ Err c))

-- ---- one operation

-- the word that a reply tells, if it does
abbrev pub word_of : LargeReply → Option ℕ
word_of (large_reply.Small (reply.Got v)) = Some v
word_of (large_reply.Small (reply.Same b)) = Some (flag b)
word_of r = None

-- what a reply tells
abbrev pub told_by : LargeReply → Told
told_by r = record { code = code_of r; word = word_of r }

-- What is asked for was done, as the call of its name does it: y and k are the heap and its history after it.
abbrev pub Performs : HostHeap → List LargeItem → Asked → HostHeap → List LargeItem → Told → Type 0
Performs x h (asked.Make o) y k told = (r : LargeReply) × (makes : Makes x y h o r) × (k ≡ Called o r ∷ makes.acts.history) × (told ≡ told_by r)
Performs x h (asked.Store o) y k told = (r : LargeReply) × (stores : Stores x y h o r) × (k ≡ Called o r ∷ stores.acts.history) × (told ≡ told_by r)
Performs x h (asked.Reply o) y k told = (r : LargeReply) × Replies x y h o r × (k ≡ Called o r ∷ h) × (told ≡ told_by r)
Performs x h (asked.See o) y k told = (r : LargeReply) × IsLargeReply (large_state h) o r × (y ≡ x) × (k ≡ h) × (told ≡ told_by r)
Performs x h (asked.IsNil register) y k told = (nil : Bool) × SeesNil x h register nil × (y ≡ x) × (k ≡ h) × (told ≡ record { code = code.Done; word = Some (flag nil) })

-- so was what an entry asks for
abbrev pub PerformsEntry : HostHeap → List LargeItem → Operation → HostHeap → List LargeItem → Told → Type 0
PerformsEntry x h e y k told = (a : Asked) × (asked_of (registers_in x) e ≡ Ok a) × Performs x h a y k told

-- the entry with the word that its operation told
abbrev pub with_told : Operation → Told → Operation
with_told e told = record e { word = written_over e.word told.word }

-- What an entry asks for was done, of whatever history the heap is: f is the entry after it, with the word that was told, and this is the code.
abbrev pub PerformsAt : HostHeap → Operation → HostHeap → Operation → Code → Type 0
PerformsAt x e y f code =
    (told : Told) × (code ≡ told.code) × (f ≡ with_told e told) × ((h : List LargeItem) → IsHostOf x h → (k : List LargeItem) × PerformsEntry x h e y k told)

-- ---- operations in turn

-- Entries were done in turn, up to the first whose code isn't that of success: what each told, the code of the last, and how many were done with
-- success.
abbrev pub Applies : HostHeap → List LargeItem → List Operation → HostHeap → List LargeItem → List Told → Applied → Type 0
Applies x h [] y k told applied = (y ≡ x) × (k ≡ h) × (told ≡ []) × (applied ≡ record { code = code.Done; done = 0 })
Applies x h (e ∷ es) y k told applied =
    (m : HostHeap) × (j : List LargeItem) × (t : Told) × (ts : List Told) × PerformsEntry x h e m j t × (told ≡ t ∷ ts)
    × (((t.code ≡ code.Done) × (rest : Applied) × Applies m j es y k ts rest × (applied ≡ record { code = rest.code; done = rest.done + 1 }))
    ⊎ ((t.code ≢ code.Done) × (y ≡ m) × (k ≡ j) × (ts ≡ []) × (applied ≡ record { code = t.code; done = 0 })))

-- the entries with the words that were told in front: those behind them are as they were
abbrev pub all_told : List Operation → List Told → List Operation
all_told [] ts = []
all_told (e ∷ es) [] = e ∷ es
all_told (e ∷ es) (t ∷ ts) = with_told e t ∷ all_told es ts

-- Entries were to be done in turn: the handle has no heap, or the numbers of one don't fit and none was done, or they were. The entries have the
-- words that were told.
abbrev pub AppliesAll : Kept → Kept → List Operation → List Operation → Result Applied Code → Type 0
AppliesAll None after entries new answer = (answer ≡ Err code.NoHeap) × (after ≡ None) × (new ≡ entries)
AppliesAll (Some x) after entries new (Err c) = AllAsk (registers_in x) entries (Err c) × (after ≡ Some x) × (new ≡ entries)
AppliesAll (Some x) after entries new (Ok applied) =
    AllAsk (registers_in x) entries (Ok tt) × (y : HostHeap) × (told : List Told) × (after ≡ Some y) × (new ≡ all_told entries told)
    × ((h : List LargeItem) → IsHostOf x h → (k : List LargeItem) × Applies x h entries y k told applied)

-- ---- what the program gets

-- the code of a list of operations
abbrev pub applied_code : Result Applied Code → Code
applied_code (Ok applied) = applied.code
applied_code (Err e) = e

-- how many were done with success
abbrev pub applied_count : Result Applied Code → ℕ
applied_count (Ok applied) = applied.done
applied_count (Err e) = 0
