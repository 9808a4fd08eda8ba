-- What each call on arrays does, by the numbers that a program gives and what the heap has.
use Rattle.std.specs.Prelude.{◌≡◌, ℕ, ◌+◌, ◌-◌, ◌*◌, ◌/◌, ◌%◌, ◌<◌, ◌≤◌, ◌==◌, ◌||◌, nat_le, nat_lt, min, if◌then◌else◌, Bool, Option, None, Some, option_map, false, Result, Ok, Err, List, [], ◌∷◌, ◌++◌}
use Rattle.lxr_large_model.specs.History.{LargeItem, large_state}
use Rattle.lxr_large_model.specs.State.{LargeState}
use Rattle.lxr_c_base.specs.declared.codes.Code.{Code}
use Rattle.lxr_c_base.specs.declared.codes.Code.TheVariants as code
use Rattle.lxr_c_base.specs.Requests.{register_of, with_number}
use Rattle.lxr_c_heap.specs.declared.host.HostHeap.{HostHeap}
use Rattle.lxr_c_heap.specs.declared.own.OwnRegisters.{OwnRegisters}
use Rattle.lxr_c_heap.specs.Hosting.{own_in}
use Rattle.lxr_c_many.specs.declared.asked.Asked.{Asked}
use Rattle.lxr_c_arrays.specs.declared.copying.Copying.{Copying}
use Rattle.lxr_c_arrays.specs.declared.making.NewArray.{NewArray}
use Rattle.lxr_c_arrays.specs.declared.reaching.Access.{Access}
use Rattle.lxr_c_arrays.specs.declared.reaching.Access.TheVariants as access
use Rattle.lxr_c_arrays.specs.declared.side.Side.{Side}
use Rattle.lxr_c_arrays.specs.declared.side.TheConstants.{MOST_ELEMENTS, PART}
use Rattle.lxr_c_arrays.specs.declared.registers.Pair.{Pair}
use Rattle.lxr_c_arrays.specs.Operations.{load_of, move_of, new_of, nil_of, put_of, store_of}
use Rattle.lxr_c_arrays.specs.Running.{Carries, Plan, in_turn}
use Rattle.lxr_c_arrays.specs.Sides.{IsSide, array_length, checks, enter_steps, holder, index_at, last_of, load_steps, range_of, side_of, store_steps}

-- ---- numbers

-- the register of an array and the other one of a call, where there are so many
abbrev pub pair_of : ℕ → ℕ → ℕ → Result Pair Code
pair_of registers array other = with_number (register_of registers array) (λ a. with_number (register_of registers other) (λ o. Ok (record { array = a; other = o })))

-- a new array of so many elements in a register
abbrev pub new_array : ℕ → ℕ → ℕ → Result NewArray Code
new_array registers dest elements = with_number (register_of registers dest) (λ d. if nat_le elements MOST_ELEMENTS then Ok (record { dest = d; length = elements }) else Err code.Size)

-- the first of the library's own registers, where there are any
abbrev pub first_own : HostHeap → Option ℕ
first_own x = option_map (λ (own : OwnRegisters). own.first) (own_in x)

-- what follows of an array that is there, or the code of what is wrong
abbrev pub with_side : {T : Type 0} → Result Side Code → (Side → Result T Code) → Result T Code
with_side (Ok s) next = next s
with_side (Err e) next = Err e

-- what is done with what is there, or the code of what is wrong
abbrev pub planned : {A : Type 0} → (A → Plan) → Result A Code → Result Plan Code
planned plan (Ok a) = Ok (plan a)
planned plan (Err e) = Err e

-- they are there, where there are so many
abbrev pub IsPair : ℕ → Pair → Type 0
IsPair registers pair = (pair.array < registers) × (pair.other < registers)

-- ---- length

-- how many elements the array has that a register holds; nothing of nil
abbrev pub SeesLength : HostHeap → List LargeItem → ℕ → Option ℕ → Type 0
SeesLength x h base elements = elements ≡ array_length (large_state h) base

-- ---- one element

-- an element that is a reference of what `base` holds is loaded to the other register, or becomes what that holds
abbrev pub touching : Access → ℕ → ℕ → ℕ → Asked
touching access.Load other base i = load_of other base i
touching access.Store other base i = store_of base i other

-- so with an element of an array, whose part is taken in hand before, and let go of then
abbrev pub reaching : Access → Pair → ℕ → Side → Plan
reaching what pair index a = record { steps = enter_steps a index ++ touching what pair.other (holder a) (index_at a index) ∷ []; last = last_of a }

abbrev pub reach_plan : Access → HostHeap → LargeState → ℕ → Pair → Result Plan Code
reach_plan what x s index pair = planned (reaching what pair index) (side_of s (first_own x) pair.array index)

-- the other register gets an element
abbrev pub loading : Pair → ℕ → Side → Plan
loading = reaching access.Load

abbrev pub load_plan : HostHeap → LargeState → ℕ → Pair → Result Plan Code
load_plan = reach_plan access.Load

-- an element becomes what the other register holds
abbrev pub storing : Pair → ℕ → Side → Plan
storing = reaching access.Store

abbrev pub store_plan : HostHeap → LargeState → ℕ → Pair → Result Plan Code
store_plan = reach_plan access.Store

-- ---- a new array

-- it is one as so many registers allow it
abbrev pub IsNewArray : ℕ → NewArray → Type 0
IsNewArray registers wanted = (wanted.dest < registers) × (wanted.length ≤ MOST_ELEMENTS)

-- the library's own registers are there
abbrev pub IsOwn : ℕ → OwnRegisters → Type 0
IsOwn registers own = (own.first < registers) × (own.second < registers)

-- how many parts so many elements have
abbrev pub parts_of : ℕ → ℕ
parts_of elements = (elements + PART - 1) / PART

-- how many elements a part has: all of them, but the last what is left
abbrev pub part_length : ℕ → ℕ → ℕ
part_length elements n = min PART (elements - PART * n)

-- a part is made, and stands in the root
abbrev pub part_steps : OwnRegisters → ℕ → ℕ → List Asked
part_steps own elements n = new_of own.second (part_length elements n) 0 ∷ store_of own.first n own.second ∷ []

-- a root with its length is made, and then each part
abbrev pub root_steps : OwnRegisters → ℕ → List Asked
root_steps own elements = (new_of own.first (parts_of elements) 1 ∷ put_of own.first 0 elements ∷ []) ++ in_turn (part_steps own elements) (parts_of elements)

-- the library's registers are nil
abbrev pub own_nil : OwnRegisters → List Asked
own_nil own = nil_of own.first ∷ nil_of own.second ∷ []

-- a root is made in the library's registers, and the host's register gets it once it is whole
abbrev pub making : NewArray → OwnRegisters → Plan
making wanted own = record { steps = root_steps own wanted.length ++ move_of wanted.dest own.first ∷ []; last = own_nil own }

abbrev pub parts_plan : Option OwnRegisters → NewArray → Result Plan Code
parts_plan None wanted = Err code.Register
parts_plan (Some own) wanted = Ok (making wanted own)

-- a small array is one object
abbrev pub new_plan : HostHeap → NewArray → Result Plan Code
new_plan x wanted = if nat_le wanted.length PART then Ok (record { steps = new_of wanted.dest wanted.length 0 ∷ []; last = [] }) else parts_plan (own_in x) wanted

-- ---- many elements

-- the part of an element that is stored to is taken in hand where the round is the first, or the element the first of its part that is met
abbrev pub enters : Bool → ℕ → ℕ → Bool
enters up n i = (n == 0) || (i % PART == (if up then PART - 1 else 0))

-- the element of a round of a fill
abbrev pub fill_steps : Side → ℕ → ℕ → ℕ → List Asked
fill_steps a first source n = store_steps a (enters false n (first + n)) (first + n) source

-- so many elements from one on become what the other register holds, once all parts are there
abbrev pub filling : Pair → ℕ → ℕ → Side → Plan
filling pair first count a = record { steps = checks a first count ++ in_turn (fill_steps a first pair.other) count; last = last_of a }

abbrev pub fill_plan : HostHeap → LargeState → ℕ → ℕ → Pair → Result Plan Code
fill_plan x s first count pair = planned (filling pair first count) (range_of s (first_own x) pair.array first count)

-- which element a round of a copy copies: the last first where the elements are moved up
abbrev pub round_of : Bool → ℕ → ℕ → ℕ
round_of up count n = if up then count - 1 - n else n

-- an element is loaded and stored
abbrev pub copy_step : Copying → ℕ → ℕ → Bool → List Asked
copy_step c j i enters = load_steps c.from c.element j ++ store_steps c.to enters i c.element

-- the element of a round of a copy
abbrev pub copy_steps : Copying → ℕ → List Asked
copy_steps c n =
    copy_step c (c.first + round_of (nat_lt c.first c.at) c.count n) (c.at + round_of (nat_lt c.first c.at) c.count n) (enters (nat_lt c.first c.at) n (c.at + round_of (nat_lt c.first c.at) c.count n))

-- all parts of both arrays are there
abbrev pub check_copy : Copying → List Asked
check_copy c = checks c.to c.at c.count ++ checks c.from c.first c.count

-- So many elements of an array become those of another, or of the same: each is what it was before the first is stored, since they are taken from
-- the end on where they are moved up. All parts are there before that.
abbrev pub copy_checked : Copying → List Asked
copy_checked c = check_copy c ++ in_turn (copy_steps c) c.count

-- what is to be copied, with the part of the one array at hand in the first register of the library's own, and the element, and its part, in the
-- second
abbrev pub copying_by : OwnRegisters → ℕ → ℕ → ℕ → Result Side Code → Result Side Code → Result Copying Code
copying_by own at first count to from = with_side to (λ t. with_side from (λ f. Ok (record { to = t; at = at; from = f; first = first; count = count; element = own.second })))

abbrev pub copying_of : LargeState → OwnRegisters → Pair → ℕ → ℕ → ℕ → Result Copying Code
copying_of s own pair at first count = copying_by own at first count (range_of s (Some own.first) pair.array at count) (range_of s (Some own.second) pair.other first count)

abbrev pub copying : OwnRegisters → Copying → Plan
copying own c = record { steps = copy_checked c; last = own_nil own }

abbrev pub copy_by : Option OwnRegisters → LargeState → ℕ → ℕ → ℕ → Pair → Result Plan Code
copy_by None s at first count pair = Err code.Register
copy_by (Some own) s at first count pair = planned (copying own) (copying_of s own pair at first count)

-- so many elements of the other array, from `first` on, become those of the array from `at` on
abbrev pub copy_plan : HostHeap → LargeState → ℕ → ℕ → ℕ → Pair → Result Plan Code
copy_plan x s at first count pair = copy_by (own_in x) s at first count pair

-- its registers and its elements are there
pub record IsCopying (registers : ℕ) (c : Copying) : Type 0 where
  pub to : IsSide registers c.to
  pub from : IsSide registers c.from
  pub element : c.element < registers
  pub stored : c.at + c.count ≤ MOST_ELEMENTS
  pub loaded : c.first + c.count ≤ MOST_ELEMENTS

-- ---- calls

abbrev pub MakesArray : HostHeap → HostHeap → List LargeItem → NewArray → Code → Type 0
MakesArray x y h wanted told = Carries x y h (new_plan x wanted) told

abbrev pub MakesInParts : HostHeap → HostHeap → List LargeItem → NewArray → Code → Type 0
MakesInParts x y h wanted told = Carries x y h (parts_plan (own_in x) wanted) told

abbrev pub ReachesElement : Access → ℕ → HostHeap → HostHeap → List LargeItem → Pair → Code → Type 0
ReachesElement what index x y h pair told = Carries x y h (reach_plan what x (large_state h) index pair) told

abbrev pub LoadsElement : ℕ → HostHeap → HostHeap → List LargeItem → Pair → Code → Type 0
LoadsElement = ReachesElement access.Load

abbrev pub StoresElement : ℕ → HostHeap → HostHeap → List LargeItem → Pair → Code → Type 0
StoresElement = ReachesElement access.Store

abbrev pub FillsElements : ℕ → ℕ → HostHeap → HostHeap → List LargeItem → Pair → Code → Type 0
FillsElements first count x y h pair told = Carries x y h (fill_plan x (large_state h) first count pair) told

abbrev pub CopiesElements : ℕ → ℕ → ℕ → HostHeap → HostHeap → List LargeItem → Pair → Code → Type 0
CopiesElements at first count x y h pair told = Carries x y h (copy_plan x (large_state h) at first count pair) told

-- ---- what the program gets

-- the code of a call: that of its steps, or of what is wrong with its numbers
abbrev pub code_told : Result Code Code → Code
code_told (Ok c) = c
code_told (Err e) = e

-- the length that was told: NIL where there is no object
abbrev pub length_told : Result (Option ℕ) Code → Result ℕ Code
length_told (Ok None) = Err code.Nil
length_told (Ok (Some n)) = Ok n
length_told (Err e) = Err e
