-- A load or a store through a reference of an object that was looked up: three operations in a row, by way of a register that is nil before and after.
use Rattle.std.specs.Prelude.{◌≡◌, ◌≢◌, ℕ, ◌<◌, ◌≤◌, true, Option, Some, slice_get}
use Rattle.lxr_layout.specs.declared.Header.TheVariants as header
use Rattle.lxr_layout.specs.declared.Name.{Name}
use Rattle.lxr_layout.specs.Objects.{header_of}
use Rattle.lxr_layout.specs.Places.{field_word, first_word, place_in}
use Rattle.lxr_layout.specs.Registers.{nil}
use Rattle.lxr_graph.specs.declared.Op.{Op}
use Rattle.lxr_graph.specs.declared.Op.TheVariants as op
use Rattle.lxr_graph.specs.declared.Reply.{Reply}
use Rattle.lxr_graph.specs.declared.Reply.TheVariants as reply
use Rattle.lxr_graph.specs.State.{register_index}
use Rattle.lxr_image.specs.declared.space.Space.{Space}
use Rattle.lxr_image.specs.Spaces.{tables_of}
use Rattle.lxr_invariant.specs.AbstractState.{AbstractState}
use Rattle.lxr_direct.specs.declared.reading.Base.{Base}
use Rattle.lxr_direct.specs.declared.known.HeldObject.{HeldObject}
use Rattle.lxr_direct.specs.declared.Operated.TheVariants as came
use Rattle.lxr_direct.specs.Operating.{IsDone, KeepsBeside, MayOperate, Operates}
use Rattle.lxr_direct.specs.Recording.{is_unlogged}

-- ---- what a reference refers to

-- reference i of an object refers to an object that stands at a place, whose header has its shape
pub record Refers (s : Space) (object : HeldObject) (i : ℕ) (base : Base) : Type 0 where
  pub index : i < object.base.shape.refs
  pub place : base.place ≡ place_in ((tables_of s).heap (field_word object.base.place.0 i))
  pub some : base.place.0 ≢ 0
  pub name : Name
  pub header : header_of ((tables_of s).heap (first_word base.place.0)) ≡ header.Object name base.shape

-- there is no reference j of what reference i of an object refers to: that is nil, or has too few, or the object itself has
abbrev pub LacksThrough : Space → HeldObject → ℕ → ℕ → Type 0
LacksThrough s object i j = (base : Base) → Refers s object i base → base.shape.refs ≤ j

-- reference j of what reference i of an object refers to has to be recorded before it is stored to: its unlogged bit is set
abbrev pub IsUnloggedThrough : Space → HeldObject → ℕ → ℕ → Type 0
IsUnloggedThrough s object i j = (base : Base) × Refers s object i base × (is_unlogged s base.place j ≡ true)

-- a register of thread t isn't nil
abbrev pub IsInUse : Space → ℕ → ℕ → Type 0
IsInUse s t register = slice_get s.registers.items (register_index t register) ≢ Some nil

-- ---- three operations

-- an operation is done, whatever state the space is at rest for
abbrev pub IsDoneThere : Space → Space → ℕ → Op → Reply → Type 0
IsDoneThere before after t o r = (g : AbstractState) (serial : ℕ) → MayOperate before g t serial → IsDone before after g t o r

-- so is a store, which finds its log with room
abbrev pub IsStoredThere : Space → Space → ℕ → ℕ → ℕ → ℕ → Type 0
IsStoredThere before after t base i source = (g : AbstractState) (serial : ℕ) → MayOperate before g t serial → Operates before after g t (op.Store base i source) (came.Replied reply.Stored)

-- register `own` gets reference i of what `root` holds, `dest` gets reference j of that, and `own` becomes nil
pub record LoadsThrough (before after : Space) (t dest root i j own : ℕ) : Type 0 where
  pub entered : Space
  pub loaded : Space
  pub part : Option Name
  pub element : Option Name
  pub keeps : KeepsBeside before entered × KeepsBeside before loaded
  pub enters : IsDoneThere before entered t (op.Load own root i) (reply.Loaded part)
  pub loads : IsDoneThere entered loaded t (op.Load dest own j) (reply.Loaded element)
  pub leaves : IsDoneThere loaded after t (op.Nil own) reply.Cleared

-- register `own` gets reference i of what `root` holds, reference j of that becomes what `source` holds, and `own` becomes nil
pub record StoresThrough (before after : Space) (t root i j source own : ℕ) : Type 0 where
  pub entered : Space
  pub stored : Space
  pub part : Option Name
  pub keeps : KeepsBeside before entered × KeepsBeside before stored
  pub enters : IsDoneThere before entered t (op.Load own root i) (reply.Loaded part)
  pub stores : IsStoredThere entered stored t own j source
  pub leaves : IsDoneThere stored after t (op.Nil own) reply.Cleared
