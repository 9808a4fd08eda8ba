-- An array as its object has it: whole, or in parts of a root. Which of its elements there are, and the operations that reach one.
use Rattle.std.specs.Prelude.{ℕ, ◌+◌, ◌-◌, ◌*◌, ◌/◌, ◌%◌, ◌<◌, ◌==◌, ⊤, nat_le, min, if◌then◌else◌, Bool, Option, None, Some, option_map, slice_get, unwrap_or, Result, Ok, Err, List, [], ◌∷◌, ◌++◌, length}
use Rattle.lxr_large_model.specs.State.{LargeState}
use Rattle.lxr_c_base.specs.declared.codes.Code.{Code}
use Rattle.lxr_c_base.specs.declared.codes.Code.TheVariants as code
use Rattle.lxr_c_base.specs.Requests.{index_of}
use Rattle.lxr_c_many.specs.declared.asked.Asked.{Asked}
use Rattle.lxr_c_many.specs.Fields.{references_in, words_in}
use Rattle.lxr_c_arrays.specs.declared.side.Side.{Side}
use Rattle.lxr_c_arrays.specs.declared.side.Side.TheVariants as side
use Rattle.lxr_c_arrays.specs.declared.side.TheConstants.{MOST_ELEMENTS, PART}
use Rattle.lxr_c_arrays.specs.Operations.{load_of, nil_of, store_of}
use Rattle.lxr_c_arrays.specs.Running.{in_turn}

-- ---- lengths

-- How many elements the array has whose root a register holds: the first data word of the root tells it. None where it is no root: the object has no
-- data word, or the register is nil.
abbrev pub root_length : LargeState → ℕ → Option ℕ
root_length s base = option_map (λ w. min w MOST_ELEMENTS) (slice_get (unwrap_or (words_in s base) []) 0)

-- how many references the object has that a register holds; none where it is nil
abbrev pub references_held : LargeState → ℕ → Option ℕ
references_held s base = option_map length (references_in s base)

-- the elements of an object, by its references and its length as a root: of a root no more than its parts can have
abbrev pub length_by : Option ℕ → Option ℕ → Option ℕ
length_by None root = None
length_by (Some references) None = Some references
length_by (Some references) (Some elements) = Some (min elements (PART * references))

-- how many elements the array has that a register holds
abbrev pub array_length : LargeState → ℕ → Option ℕ
array_length s base = length_by (references_held s base) (root_length s base)

-- ---- sides

-- a whole array, where it has elements up to an end
abbrev pub whole_side : ℕ → ℕ → ℕ → Result Side Code
whole_side elements array end = if nat_le end elements then Ok (side.Whole array) else Err code.Index

-- a root of parts, where it has elements up to an end, with the part at hand in a register of the library's own, which the heap may not have
abbrev pub parts_side : ℕ → Option ℕ → ℕ → ℕ → Result Side Code
parts_side elements None array end = Err code.Register
parts_side elements (Some part) array end = if nat_le end elements then Ok (side.Parts array part) else Err code.Index

-- the array that a register holds, of which one element is meant: where it is whole, the operation tells whether it is there
abbrev pub side_by : Option ℕ → Option ℕ → ℕ → ℕ → Result Side Code
side_by None part array index = Ok (side.Whole array)
side_by (Some elements) part array index = parts_side elements part array (index + 1)

abbrev pub side_of : LargeState → Option ℕ → ℕ → ℕ → Result Side Code
side_of s part array index = side_by (root_length s array) part array index

-- the array of an object with so many references, of which elements up to an end are meant
abbrev pub range_by : ℕ → Option ℕ → Option ℕ → ℕ → ℕ → Result Side Code
range_by references None part array end = whole_side references array end
range_by references (Some elements) part array end = parts_side (min elements (PART * references)) part array end

abbrev pub range_held : Option ℕ → Option ℕ → Option ℕ → ℕ → ℕ → Result Side Code
range_held None root part array end = Err code.Nil
range_held (Some references) root part array end = range_by references root part array end

-- the array that a register holds, of which so many elements from one on are meant
abbrev pub range_of : LargeState → Option ℕ → ℕ → ℕ → ℕ → Result Side Code
range_of s part array first count = range_held (references_held s array) (root_length s array) part array (first + count)

-- ---- elements

-- the register of the object of which an element is a reference, once its part is at hand
abbrev pub holder : Side → ℕ
holder (side.Whole array) = array
holder (side.Parts root part) = part

-- which of its references an element is
abbrev pub index_at : Side → ℕ → ℕ
index_at (side.Whole array) i = index_of i
index_at (side.Parts root part) i = i % PART

-- the part of an element is taken in hand
abbrev pub enter_steps : Side → ℕ → List Asked
enter_steps (side.Whole array) i = []
enter_steps (side.Parts root part) i = load_of part root (i / PART) ∷ []

-- so it is where it has to be
abbrev pub entering : Side → Bool → ℕ → List Asked
entering s enters i = if enters then enter_steps s i else []

-- a register gets an element
abbrev pub load_steps : Side → ℕ → ℕ → List Asked
load_steps s dest i = enter_steps s i ++ load_of dest (holder s) (index_at s i) ∷ []

-- an element becomes what a register holds; its part is at hand, or is taken in hand
abbrev pub store_steps : Side → Bool → ℕ → ℕ → List Asked
store_steps s enters i source = entering s enters i ++ store_of (holder s) (index_at s i) source ∷ []

-- the last operation of a call: no part stays at hand
abbrev pub last_of : Side → List Asked
last_of (side.Whole array) = []
last_of (side.Parts root part) = nil_of part ∷ []

-- ---- all parts are there

-- the last element that is meant of a part, where the last one of all is `end`
abbrev pub last_in : ℕ → ℕ → ℕ
last_in part end = if part == end / PART then end % PART else PART - 1

-- a part is taken in hand, and the last element that is meant of it is loaded: so both are there
abbrev pub part_checks : ℕ → ℕ → ℕ → ℕ → List Asked
part_checks root part n end = load_of part root n ∷ load_of part part (last_in n end) ∷ []

-- so with the part of a round, from that of the first element on
abbrev pub check_steps : ℕ → ℕ → ℕ → ℕ → ℕ → List Asked
check_steps root part first end n = part_checks root part (first / PART + n) end

-- how many parts there are from that of the first element to that of the last
abbrev pub parts_between : ℕ → ℕ → ℕ
parts_between first end = end / PART + 1 - first / PART

-- so with each part of so many elements from one on
abbrev pub checks : Side → ℕ → ℕ → List Asked
checks (side.Whole array) first count = []
checks (side.Parts root part) first count = if count == 0 then [] else in_turn (check_steps root part first (first + count - 1)) (parts_between first (first + count - 1))

-- ---- what may be asked for

-- its registers are there
abbrev pub IsSide : ℕ → Side → Type 0
IsSide registers (side.Whole array) = array < registers
IsSide registers (side.Parts root part) = (root < registers) × (part < registers)

-- an index that an element may have
abbrev pub HasIndex : Side → ℕ → Type 0
HasIndex (side.Whole array) i = ⊤
HasIndex (side.Parts root part) i = i < MOST_ELEMENTS
