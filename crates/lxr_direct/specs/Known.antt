-- An object that was looked up: a register holds it, and its place and its shape are known.
use Rattle.std.specs.Prelude.{◌≡◌, ◌≢◌, ℕ, ◌<◌, Bool, true, false, [], Option, None, Some, option_map, slice_get, slice_index_or, unwrap_or}
use Rattle.lxr_layout.specs.declared.TheConstants.{REGISTERS}
use Rattle.lxr_layout.specs.declared.Header.TheVariants as header
use Rattle.lxr_layout.specs.declared.Name.{Name}
use Rattle.lxr_layout.specs.Objects.{header_of}
use Rattle.lxr_layout.specs.Places.{first_word}
use Rattle.lxr_graph.specs.declared.Reply.TheVariants as reply
use Rattle.lxr_graph.specs.State.{State, object_at, refs_of, register_at, register_index}
use Rattle.lxr_image.specs.declared.space.Space.{Space}
use Rattle.lxr_image.specs.Spaces.{tables_of}
use Rattle.lxr_direct.specs.declared.reading.Base.{Base}
use Rattle.lxr_direct.specs.declared.known.HeldObject.{HeldObject}
use Rattle.lxr_direct.specs.declared.Operated.{Operated}
use Rattle.lxr_direct.specs.declared.Operated.TheVariants as came

-- The object's register, one of the 256 of thread t, holds its place, and the header there has its shape.
pub record IsKnown (s : Space) (t : ℕ) (object : HeldObject) : Type 0 where
  pub register : object.register < REGISTERS
  pub held : slice_get s.registers.items (register_index t object.register) ≡ Some object.base.place
  pub some : object.base.place.0 ≢ 0
  pub name : Name
  pub header : header_of ((tables_of s).heap (first_word object.base.place.0)) ≡ header.Object name object.base.shape

-- what reference i of the object refers to that a register of thread t holds
abbrev pub referred : State → ℕ → ℕ → ℕ → Option Name
referred st t register i = slice_index_or (unwrap_or (option_map (λ n. refs_of (object_at st.graph n)) (register_at st t register)) []) i None

-- what comes of a store to a reference that is there: it is done, or it finds the log full
abbrev pub stored_if : Bool → Operated
stored_if true = came.Replied reply.Stored
stored_if false = came.LogFull

-- where an object that was looked up stands, and its shape
abbrev pub base_in : Option HeldObject → Option Base
base_in = option_map (λ object. object.base)
