-- A new object that is made with all that it holds.
use Rattle.std.specs.Prelude.{◌≡◌, ℕ, ◌==◌, ◌<◌, ◌&&◌, nat_lt, not, if◌then◌else◌, Bool, true, false, IsTrue, Result, Ok, Err, List, ◌∷◌, ◌++◌, length}
use Rattle.std.specs.List.{list_all}
use Rattle.lxr_layout.specs.Objects.{FitsShape}
use Rattle.lxr_graph.specs.declared.Op.TheVariants as op
use Rattle.lxr_graph.specs.declared.Reply.TheVariants as reply
use Rattle.lxr_large_model.specs.declared.LargeOp.{LargeOp}
use Rattle.lxr_large_model.specs.declared.LargeOp.TheVariants as large_op
use Rattle.lxr_large_model.specs.declared.LargeReply.{LargeReply}
use Rattle.lxr_large_model.specs.declared.LargeReply.TheVariants as large_reply
use Rattle.lxr_large_model.specs.History.{LargeItem, Called}
use Rattle.lxr_c_base.specs.declared.codes.Code.{Code}
use Rattle.lxr_c_base.specs.declared.codes.Code.TheVariants as code
use Rattle.lxr_c_base.specs.Requests.{register_of, size_of, with_number}
use Rattle.lxr_c_heap.specs.declared.host.HostHeap.{HostHeap}
use Rattle.lxr_c_heap.specs.Hosting.{Makes}
use Rattle.lxr_c_many.specs.declared.making.Wanted.{Wanted}
use Rattle.lxr_c_many.specs.Fields.{are_registers, put_of, store_of}
use Rattle.lxr_c_many.specs.Following.{Follows, newest_first}

-- these are registers, where there are so many, and none is that of the new object
abbrev pub are_sources : ℕ → ℕ → List ℕ → Bool
are_sources registers dest sources = list_all (λ s. nat_lt s registers && not (s == dest)) sources

-- the object that is wanted in a register, with a reference for each source and a data word for each of these
abbrev pub object_of : ℕ → ℕ → List ℕ → List ℕ → Result Wanted Code
object_of registers dest sources words =
    with_number (register_of registers dest) (λ d. with_number (size_of (length sources)) (λ r. with_number (size_of (length words)) (λ w. Ok (record { dest = d; shape = record { refs = r; values = w } }))))

-- the object that is wanted, or the code of what is wrong with the numbers: registers first, then sizes
abbrev pub wanted_of : ℕ → ℕ → List ℕ → List ℕ → Result Wanted Code
wanted_of registers dest sources words = if are_sources registers dest sources then object_of registers dest sources words else Err code.Register

-- the operation that makes it
abbrev pub new_of : Wanted → LargeOp
new_of wanted = large_op.Small (op.New wanted.dest wanted.shape)

-- whether a reply tells of an object that was made
abbrev pub makes_one : LargeReply → Bool
makes_one (large_reply.Small (reply.New n)) = true
makes_one r = false

-- What is done behind the operation that makes an object, on a heap m of history k: its references are stored and then its words are put, in order,
-- each done; nothing where no object was made.
abbrev pub Fills : Wanted → List ℕ → List ℕ → HostHeap → List LargeItem → HostHeap → LargeReply → Type 0
Fills wanted sources words m k y (large_reply.Small (reply.New n)) = Follows m k y (newest_first (put_of wanted.dest) 0 words ++ newest_first (store_of wanted.dest) 0 sources)
Fills wanted sources words m k y r = y ≡ m

-- An object was made as the operation makes it, after the pauses that this needs, and then filled. Where that is refused as full, no object was made.
pub record MakesWith (sources words : List ℕ) (x y : HostHeap) (h : List LargeItem) (wanted : Wanted) (r : LargeReply) : Type 0 where
  pub made : HostHeap
  pub makes : Makes x made h (new_of wanted) r
  pub fills : Fills wanted sources words made (Called (new_of wanted) r ∷ makes.acts.history) y r

-- an object is wanted as so many registers, its references and its words allow it
pub record IsWanted (registers : ℕ) (sources words : List ℕ) (wanted : Wanted) : Type 0 where
  pub dest : wanted.dest < registers
  pub fits : FitsShape wanted.shape
  pub refs : wanted.shape.refs ≡ length sources
  pub values : wanted.shape.values ≡ length words
  pub from : IsTrue (are_registers registers sources)
