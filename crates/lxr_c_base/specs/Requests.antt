-- The operation that a call asks for, by the numbers that a program in C gives. Each heap has so many registers that may be named, the first ones.
use Rattle.std.specs.Prelude.{ℕ, ◌&&◌, nat_le, nat_lt, if◌then◌else◌, Result, Ok, Err}
use Rattle.lxr_graph.specs.declared.Op.{Op}
use Rattle.lxr_graph.specs.declared.Op.TheVariants as op
use Rattle.lxr_large_model.specs.declared.LargeOp.{LargeOp}
use Rattle.lxr_large_model.specs.declared.LargeOp.TheVariants as large_op
use Rattle.lxr_large_model.specs.declared.TheConstants.{MOST_BODY_BLOCKS}
use Rattle.lxr_heap.specs.Acting.{MayBeCalled}
use Rattle.lxr_c_base.specs.declared.codes.Code.{Code}
use Rattle.lxr_c_base.specs.declared.codes.Code.TheVariants as code

-- an operation that a heap may be called with, or the code of what is wrong with the numbers
abbrev pub Request : Type 0
Request = Result LargeOp Code

-- ---- numbers

-- the register of a number, where there are so many
abbrev pub register_of : ℕ → ℕ → Result ℕ Code
register_of registers r = if nat_lt r registers then Ok r else Err code.Register

-- How many registers are to stay in use, where there are so many. The first has the world at the opening, so at least that one is.
abbrev pub in_use_of : ℕ → ℕ → Result ℕ Code
in_use_of registers count = if nat_le 1 count && nat_le count registers then Ok count else Err code.Register

-- so many references, or data words: an object has at most 1,023 of each
abbrev pub size_of : ℕ → Result ℕ Code
size_of n = if nat_le n 1023 then Ok n else Err code.Size

-- so many blocks of a body
abbrev pub blocks_of : ℕ → Result ℕ Code
blocks_of n = if nat_le 1 n && nat_le n MOST_BODY_BLOCKS then Ok n else Err code.Size

-- The index that an operation has for one that was given. An object has at most 1,023 references and data words, so from 65,535 on all indexes
-- find the same, which is nothing.
abbrev pub index_of : ℕ → ℕ
index_of i = if nat_lt i 65536 then i else 65535

-- what follows of a number that fits, or the code of what is wrong with it
abbrev pub with_number : {T : Type 0} → Result ℕ Code → (ℕ → Result T Code) → Result T Code
with_number (Ok n) next = next n
with_number (Err e) next = Err e

-- ---- calls

-- a new object in register `dest`, with so many references and data words
abbrev pub new : ℕ → ℕ → ℕ → ℕ → Request
new registers dest refs words =
    with_number (register_of registers dest) (λ d. with_number (size_of refs) (λ r. with_number (size_of words) (λ w. Ok (large_op.Small (op.New d (record { refs = r; values = w }))))))

-- a new large object in register `dest`, whose body has so many blocks
abbrev pub big : ℕ → ℕ → ℕ → Request
big registers dest blocks = with_number (register_of registers dest) (λ d. with_number (blocks_of blocks) (λ b. Ok (large_op.Big d b)))

-- reference `index` of what `base` holds becomes what `source` holds
abbrev pub store : ℕ → ℕ → ℕ → ℕ → Request
store registers base index source = with_number (register_of registers base) (λ b. with_number (register_of registers source) (λ s. Ok (large_op.Small (op.Store b (index_of index) s))))

-- register `dest` gets reference `index` of what `base` holds
abbrev pub load : ℕ → ℕ → ℕ → ℕ → Request
load registers dest base index = with_number (register_of registers dest) (λ d. with_number (register_of registers base) (λ b. Ok (large_op.Small (op.Load d b (index_of index)))))

-- data word `index` of what `base` holds is read
abbrev pub get : ℕ → ℕ → ℕ → Request
get registers base index = with_number (register_of registers base) (λ b. Ok (large_op.Small (op.Get b (index_of index))))

-- data word `index` of what `base` holds becomes `value`
abbrev pub put : ℕ → ℕ → ℕ → ℕ → Request
put registers base index value = with_number (register_of registers base) (λ b. Ok (large_op.Small (op.Put b (index_of index) value)))

-- whether two registers hold the same
abbrev pub same : ℕ → ℕ → ℕ → Request
same registers left right = with_number (register_of registers left) (λ l. with_number (register_of registers right) (λ r. Ok (large_op.Small (op.Same l r))))

-- register `dest` gets what `source` holds
abbrev pub copy : ℕ → ℕ → ℕ → Request
copy registers dest source = with_number (register_of registers dest) (λ d. with_number (register_of registers source) (λ s. Ok (large_op.Small (op.Move d s))))

-- register `dest` becomes nil
abbrev pub nil : ℕ → ℕ → Request
nil registers dest = with_number (register_of registers dest) (λ d. Ok (large_op.Small (op.Nil d)))

-- word `index` of the body of what `base` holds is read
abbrev pub big_get : ℕ → ℕ → ℕ → Request
big_get registers base index = with_number (register_of registers base) (λ b. Ok (large_op.BigGet b index))

-- word `index` of the body of what `base` holds becomes `value`
abbrev pub big_put : ℕ → ℕ → ℕ → ℕ → Request
big_put registers base index value = with_number (register_of registers base) (λ b. Ok (large_op.BigPut b index value))

-- ---- calls of a station

-- an operation on small objects, or the code of what is wrong with the numbers
abbrev pub SmallRequest : Type 0
SmallRequest = Result Op Code

-- the operation on small objects that is asked for; a station has none on large ones
abbrev pub small_of : Request → SmallRequest
small_of (Ok (large_op.Small o)) = Ok o
small_of (Ok o) = Err code.Size
small_of (Err e) = Err e

-- reference `index` of what `base` holds becomes what `source` holds, and register `dest` gets what it was
abbrev pub swap : ℕ → ℕ → ℕ → ℕ → ℕ → SmallRequest
swap registers dest base index source =
    with_number (register_of registers dest) (λ d. with_number (register_of registers base) (λ b. with_number (register_of registers source) (λ s. Ok (op.Swap d b (index_of index) s))))

-- `value` is added to data word `index` of what `base` holds
abbrev pub add : ℕ → ℕ → ℕ → ℕ → SmallRequest
add registers base index value = with_number (register_of registers base) (λ b. Ok (op.Add b (index_of index) value))

-- ---- which pauses an operation may want

-- an operation that makes an object
abbrev pub IsMaking : ℕ → LargeOp → Type 0
IsMaking registers (large_op.Small (op.New dest shape)) = MayBeCalled registers (large_op.Small (op.New dest shape))
IsMaking registers (large_op.Big dest blocks) = MayBeCalled registers (large_op.Big dest blocks)
IsMaking registers o = ⊥

-- a store of a reference
abbrev pub IsStoring : ℕ → LargeOp → Type 0
IsStoring registers (large_op.Small (op.Store base index source)) = MayBeCalled registers (large_op.Small (op.Store base index source))
IsStoring registers o = ⊥

-- an operation that makes no object and stores no reference, and so finds room whatever the heap holds
abbrev pub IsQuiet : ℕ → LargeOp → Type 0
IsQuiet registers (large_op.Small (op.New dest shape)) = ⊥
IsQuiet registers (large_op.Small (op.Store base index source)) = ⊥
IsQuiet registers (large_op.Big dest blocks) = ⊥
IsQuiet registers o = MayBeCalled registers o
