-- The elements of an array, as a program sees them, and what a call on one element makes of them.
use Rattle.std.specs.Prelude.{◌≡◌, ◌≢◌, ℕ, ◌+◌, ◌*◌, ◌/◌, ◌%◌, ◌<◌, ◌≤◌, ◌⊎◌, min, map, option_map, slice_get, slice_index_or, slice_set, replicate, unwrap_or, Option, None, Some, List, [], ◌∷◌, length}
use Rattle.std.specs.List.{range_with_len}
use Rattle.lxr_layout.specs.declared.Name.{Name}
use Rattle.lxr_graph.specs.State.{Graph, HasObject, object_at, refs_of, register_at, values_of}
use Rattle.lxr_large_model.specs.History.{LargeItem, large_state}
use Rattle.lxr_graph.specs.Renewing.{renewed_held}
use Rattle.lxr_large_model.specs.Renewing.{renewed_large}
use Rattle.lxr_large_model.specs.State.{LargeState}
use Rattle.lxr_c_base.specs.declared.codes.Code.{Code}
use Rattle.lxr_c_base.specs.declared.codes.Code.TheVariants as code
use Rattle.lxr_c_heap.specs.declared.host.HostHeap.{HostHeap}
use Rattle.lxr_c_heap.specs.Hosting.{IsHostOf, registers_in}
use Rattle.lxr_c_many.specs.Fields.{references_in, words_in}
use Rattle.lxr_c_arrays.specs.declared.making.NewArray.{NewArray}
use Rattle.lxr_c_arrays.specs.declared.registers.Pair.{Pair}
use Rattle.lxr_c_arrays.specs.declared.side.TheConstants.{PART}
use Rattle.lxr_c_arrays.specs.Plans.{IsPair, IsNewArray, CopiesElements, FillsElements, LoadsElement, MakesArray, StoresElement}
use Rattle.lxr_c_arrays.specs.Sides.{array_length, root_length}

-- ---- elements

-- the references of what is referred to; none of nil
abbrev pub references_of : Graph → Option Name → List (Option Name)
references_of g None = []
references_of g (Some n) = refs_of (object_at g n)

-- element i of a root with these parts: reference i mod 1,023 of part i / 1,023, and nil where that isn't there
abbrev pub element_in : Graph → List (Option Name) → ℕ → Option Name
element_in g parts i = slice_index_or (references_of g (slice_index_or parts (i / PART) None)) (i % PART) None

-- The elements of an object with these references, by its length as a root: of an object without data words its references, and of a root those of
-- its parts one after another, up to its length.
abbrev pub elements_of : Graph → List (Option Name) → Option ℕ → List (Option Name)
elements_of g references None = references
elements_of g parts (Some elements) = map (element_in g parts) (range_with_len 0 (min elements (PART * length parts)))

-- the elements of the array that a register holds; none where it is nil
abbrev pub elements_at : LargeState → ℕ → Option (List (Option Name))
elements_at s base = option_map (λ references. elements_of s.small.graph references (root_length s base)) (references_in s base)

-- one of them, where it is there
abbrev pub element_at : LargeState → ℕ → ℕ → Option (Option Name)
element_at s base i = slice_get (unwrap_or (elements_at s base) []) i

-- ---- parts

-- part number p of the root that a register holds
abbrev pub part_of : LargeState → ℕ → ℕ → Option Name
part_of s base p = slice_index_or (unwrap_or (references_in s base) []) p None

-- the part of an element of a root
abbrev pub part_at : LargeState → ℕ → ℕ → Option Name
part_at s base i = part_of s base (i / PART)

-- The parts of a root are its own, as those are that were made with it: no two of them are one object, and none is the root.
pub record HasOwnParts (s : LargeState) (base : ℕ) : Type 0 where
  pub distinct : (p q : ℕ) (n : Name) → part_of s base p ≡ Some n → part_of s base q ≡ Some n → p ≡ q
  pub apart : (p : ℕ) (n : Name) → part_of s base p ≡ Some n → register_at s.small 1 base ≢ Some n

-- a register refers to an object that is no part of a root
abbrev pub IsNoPart : LargeState → ℕ → ℕ → Type 0
IsNoPart s base r = (p : ℕ) (n : Name) → part_of s base p ≡ Some n → register_at s.small 1 r ≢ Some n

-- the parts of a root are no objects of another array in parts: neither its root nor a part of it
pub record AreApart (s : LargeState) (to from : ℕ) : Type 0 where
  pub root : IsNoPart s to from
  pub parts : (p q : ℕ) (n : Name) → part_of s to p ≡ Some n → part_of s from q ≢ Some n

-- ---- length

-- an array is as long as it has elements
abbrev pub LengthCountsElements : Type 0
LengthCountsElements = (s : LargeState) (base : ℕ) → array_length s base ≡ option_map length (elements_at s base)

-- ---- loads

-- An element was loaded, from state s to u: the other register holds it, each other one that the host may name holds what it held, and each object
-- and body is as it was.
pub record HasLoaded (registers index : ℕ) (pair : Pair) (s u : LargeState) : Type 0 where
  pub element : element_at s pair.array index ≡ Some (register_at u.small 1 pair.other)
  pub others : (r : ℕ) → r < registers → r ≢ pair.other → register_at u.small 1 r ≡ register_at s.small 1 r
  pub objects : u.small.graph ≡ s.small.graph
  pub bodies : u.large ≡ s.large

-- a load that tells success has loaded an element of the array
abbrev pub LoadsGiveElements : Type 0
LoadsGiveElements =
    (x y : HostHeap) (h : List LargeItem) (index : ℕ) (pair : Pair) → IsHostOf x h → IsPair (registers_in x) pair → LoadsElement index x y h pair code.Done
    → (k : List LargeItem) × IsHostOf y k × HasLoaded (registers_in x) index pair (large_state h) (large_state k)

-- ---- stores

-- the state, with the names that are left renewed where they were
abbrev pub with_names : Option (List Name) → LargeState → LargeState
with_names None s = s
with_names (Some ns) s = renewed_large ns s

-- so with what a register or a reference holds
abbrev pub as_named : Option (List Name) → Option Name → Option Name
as_named None = λ v. v
as_named (Some ns) = renewed_held ns

-- An element of a whole array was stored to, from state s to u. Its elements are those that it had, but for this one, which is what the other
-- register held; each register that the host may name holds what it held, and each other object and each body is as it was. Parts that were another
-- root's own are so still, and roots that were apart. Where the heap renewed its names on the way, all that is so by the new names.
pub record HasStored (registers index : ℕ) (pair : Pair) (s u : LargeState) : Type 0 where
  pub there : index < length (unwrap_or (elements_at s pair.array) [])
  pub names : Option (List Name)
  pub elements : elements_at u pair.array ≡ option_map (λ es. slice_set (map (as_named names) es) index (as_named names (register_at s.small 1 pair.other))) (elements_at s pair.array)
  pub held : (r : ℕ) → r < registers → register_at u.small 1 r ≡ as_named names (register_at s.small 1 r)
  pub objects : (n : Name) → Some n ≢ as_named names (register_at s.small 1 pair.array) → object_at u.small.graph n ≡ object_at (with_names names s).small.graph n
  pub own : (r : ℕ) → r < registers → register_at s.small 1 r ≢ register_at s.small 1 pair.array → HasOwnParts s r → HasOwnParts u r
  pub apart : (q r : ℕ) → q < registers → r < registers → register_at s.small 1 q ≢ register_at s.small 1 pair.array → register_at s.small 1 r ≢ register_at s.small 1 pair.array → AreApart s q r → AreApart u q r
  pub bodies : u.large ≡ (with_names names s).large

-- a store to a whole array that tells success has replaced the element
abbrev pub StoresReplaceElements : Type 0
StoresReplaceElements =
    (x y : HostHeap) (h : List LargeItem) (index : ℕ) (pair : Pair) → IsHostOf x h → IsPair (registers_in x) pair → root_length (large_state h) pair.array ≡ None → StoresElement index x y h pair code.Done
    → (k : List LargeItem) × IsHostOf y k × HasStored (registers_in x) index pair (large_state h) (large_state k)

-- An element of a root was stored to, from state s to u: it is what the other register held, and its part has what it had, but for this reference;
-- each register that the host may name holds what it held, and each object but the part, and each body, is as it was. Each root whose parts were its
-- own, and which isn't that part, has its own still, and two that were apart are so still. Where the heap renewed its names on the way, all that is
-- so by the new names.
pub record HasStoredInPart (registers index : ℕ) (pair : Pair) (s u : LargeState) : Type 0 where
  pub names : Option (List Name)
  pub element : element_at u pair.array index ≡ Some (as_named names (register_at s.small 1 pair.other))
  pub part : references_of u.small.graph (as_named names (part_at s pair.array index))
      ≡ slice_set (map (as_named names) (references_of s.small.graph (part_at s pair.array index))) (index % PART) (as_named names (register_at s.small 1 pair.other))
  pub held : (r : ℕ) → r < registers → register_at u.small 1 r ≡ as_named names (register_at s.small 1 r)
  pub objects : (n : Name) → Some n ≢ as_named names (part_at s pair.array index) → object_at u.small.graph n ≡ object_at (with_names names s).small.graph n
  pub own : (r : ℕ) → r < registers → register_at s.small 1 r ≢ part_at s pair.array index → HasOwnParts s r → HasOwnParts u r
  pub apart : (q r : ℕ) → q < registers → r < registers → register_at s.small 1 q ≢ part_at s pair.array index → register_at s.small 1 r ≢ part_at s pair.array index → AreApart s q r → AreApart u q r
  pub bodies : u.large ≡ (with_names names s).large

-- a store to a root that tells success has stored to the part of the element, where the root isn't that part itself
abbrev pub StoresReachParts : Type 0
StoresReachParts =
    (x y : HostHeap) (h : List LargeItem) (index elements : ℕ) (pair : Pair) → IsHostOf x h → IsPair (registers_in x) pair → root_length (large_state h) pair.array ≡ Some elements
    → register_at (large_state h).small 1 pair.array ≢ part_at (large_state h) pair.array index → StoresElement index x y h pair code.Done
    → (k : List LargeItem) × IsHostOf y k × HasStoredInPart (registers_in x) index pair (large_state h) (large_state k)

-- ---- new arrays

-- An array was made, from state s to u: its elements are nil, each other register that the host may name holds what it held, and each object that
-- there was and each body is as it was. Parts that were a root's own are so still, and roots that were apart. Where the heap renewed its names on the
-- way, all that is so by the new names.
pub record HasMade (registers : ℕ) (wanted : NewArray) (s u : LargeState) : Type 0 where
  pub elements : elements_at u wanted.dest ≡ Some (replicate wanted.length None)
  pub names : Option (List Name)
  pub held : (r : ℕ) → r < registers → r ≢ wanted.dest → register_at u.small 1 r ≡ as_named names (register_at s.small 1 r)
  pub objects : (n : Name) → HasObject (with_names names s).small.graph n → object_at u.small.graph n ≡ object_at (with_names names s).small.graph n
  pub own : (r : ℕ) → r < registers → r ≢ wanted.dest → HasOwnParts s r → HasOwnParts u r
  pub apart : (q r : ℕ) → q < registers → r < registers → q ≢ wanted.dest → r ≢ wanted.dest → AreApart s q r → AreApart u q r
  pub bodies : u.large ≡ (with_names names s).large

-- a call that makes an array of up to 1,023 elements, and tells success, has made it
abbrev pub NewElementsAreNil : Type 0
NewElementsAreNil =
    (x y : HostHeap) (h : List LargeItem) (wanted : NewArray) → IsHostOf x h → IsNewArray (registers_in x) wanted → wanted.length ≤ PART → MakesArray x y h wanted code.Done
    → (k : List LargeItem) × IsHostOf y k × HasMade (registers_in x) wanted (large_state h) (large_state k)

-- ---- many elements

-- what a register or a reference holds after these renewals of names, the last of them first
abbrev pub as_renamed : List (List Name) → Option Name → Option Name
as_renamed [] v = v
as_renamed (ns ∷ earlier) v = renewed_held ns (as_renamed earlier v)

-- so with a state
abbrev pub with_renewals : List (List Name) → LargeState → LargeState
with_renewals [] s = s
with_renewals (ns ∷ earlier) s = renewed_large ns (with_renewals earlier s)

-- What is left, from state s to u, where elements of one array were replaced: each register that the host may name holds what it held, and each body
-- is as it was. What a register refers to, where that isn't the array, has the references and data words that it had, and the elements, where the
-- array is no part of it; parts that were its own are so still, and roots that were apart. All that is so by the names of the renewals.
pub record HasLeft (registers array : ℕ) (renewals : List (List Name)) (s u : LargeState) : Type 0 where
  pub held : (r : ℕ) → r < registers → register_at u.small 1 r ≡ as_renamed renewals (register_at s.small 1 r)
  pub references : (r : ℕ) → r < registers → register_at s.small 1 r ≢ register_at s.small 1 array → references_in u r ≡ option_map (map (as_renamed renewals)) (references_in s r)
  pub words : (r : ℕ) → r < registers → register_at s.small 1 r ≢ register_at s.small 1 array → words_in u r ≡ words_in s r
  pub elements : (r i : ℕ) → r < registers → register_at s.small 1 r ≢ register_at s.small 1 array → IsNoPart s r array → element_at u r i ≡ option_map (as_renamed renewals) (element_at s r i)
  pub own : (r : ℕ) → r < registers → register_at s.small 1 r ≢ register_at s.small 1 array → HasOwnParts s r → HasOwnParts u r
  pub apart : (q r : ℕ) → q < registers → r < registers → register_at s.small 1 q ≢ register_at s.small 1 array → register_at s.small 1 r ≢ register_at s.small 1 array → AreApart s q r → AreApart u q r
  pub bodies : u.large ≡ (with_renewals renewals s).large

-- So many elements of a whole array from one on were filled, from state s to u: they are what the other register held, and each other element is what
-- it was. Where the heap renewed its names on the way, all that is so by the new names.
pub record HasFilled (registers first count : ℕ) (pair : Pair) (s u : LargeState) : Type 0 where
  pub renewals : List (List Name)
  pub there : first + count ≤ length (unwrap_or (elements_at s pair.array) [])
  pub filled : (i : ℕ) → first ≤ i → i < first + count → element_at u pair.array i ≡ Some (as_renamed renewals (register_at s.small 1 pair.other))
  pub others : (i : ℕ) → (i < first) ⊎ (first + count ≤ i) → element_at u pair.array i ≡ option_map (as_renamed renewals) (element_at s pair.array i)
  pub left : HasLeft registers pair.array renewals s u

-- a fill of a whole array that tells success has filled the elements
abbrev pub FillsReplaceElements : Type 0
FillsReplaceElements =
    (x y : HostHeap) (h : List LargeItem) (first count : ℕ) (pair : Pair) → IsHostOf x h → IsPair (registers_in x) pair → root_length (large_state h) pair.array ≡ None
    → FillsElements first count x y h pair code.Done → (k : List LargeItem) × IsHostOf y k × HasFilled (registers_in x) first count pair (large_state h) (large_state k)

-- So many elements of a root from one on were filled, from state s to u: they are what the other register held, and each other element is what it
-- was. Each register that the host may name holds what it held, what it refers to has the references and data words that it had, where that is no
-- part of the root, and each body is as it was. Each root whose parts were its own, and which is no part of this one, has its own still; so do two
-- that were apart stay apart, and one that was apart from this one has the elements that it had. Where the heap renewed its names on the way, all that
-- is so by the new names.
pub record HasFilledParts (registers first count : ℕ) (pair : Pair) (s u : LargeState) : Type 0 where
  pub renewals : List (List Name)
  pub there : first + count ≤ length (unwrap_or (elements_at s pair.array) [])
  pub filled : (i : ℕ) → first ≤ i → i < first + count → element_at u pair.array i ≡ Some (as_renamed renewals (register_at s.small 1 pair.other))
  pub others : (i : ℕ) → (i < first) ⊎ (first + count ≤ i) → element_at u pair.array i ≡ option_map (as_renamed renewals) (element_at s pair.array i)
  pub held : (r : ℕ) → r < registers → register_at u.small 1 r ≡ as_renamed renewals (register_at s.small 1 r)
  pub references : (r : ℕ) → r < registers → IsNoPart s pair.array r → references_in u r ≡ option_map (map (as_renamed renewals)) (references_in s r)
  pub words : (r : ℕ) → r < registers → IsNoPart s pair.array r → words_in u r ≡ words_in s r
  pub own : (r : ℕ) → r < registers → IsNoPart s pair.array r → HasOwnParts s r → HasOwnParts u r
  pub roots : (r all i : ℕ) → r < registers → root_length s r ≡ Some all → AreApart s pair.array r → element_at u r i ≡ option_map (as_renamed renewals) (element_at s r i)
  pub apart : (q r : ℕ) → q < registers → r < registers → IsNoPart s pair.array q → IsNoPart s pair.array r → AreApart s q r → AreApart u q r
  pub bodies : u.large ≡ (with_renewals renewals s).large

-- a fill of a root whose parts are its own, and that tells success, has filled the elements
abbrev pub FillsReachParts : Type 0
FillsReachParts =
    (x y : HostHeap) (h : List LargeItem) (first count elements : ℕ) (pair : Pair) → IsHostOf x h → IsPair (registers_in x) pair → root_length (large_state h) pair.array ≡ Some elements
    → HasOwnParts (large_state h) pair.array → FillsElements first count x y h pair code.Done
    → (k : List LargeItem) × IsHostOf y k × HasFilledParts (registers_in x) first count pair (large_state h) (large_state k)

-- So many elements of an array, from `first` on, were copied to a whole one, which it may be itself, from `at` on, from state s to u: each is what
-- that one had before, also where the ranges overlap, and each other element is what it was. Where the heap renewed its names on the way, all that is
-- so by the new names.
pub record HasCopied (registers at first count : ℕ) (pair : Pair) (s u : LargeState) : Type 0 where
  pub renewals : List (List Name)
  pub there : at + count ≤ length (unwrap_or (elements_at s pair.array) [])
  pub from : first + count ≤ length (unwrap_or (elements_at s pair.other) [])
  pub copied : (i : ℕ) → i < count → element_at u pair.array (at + i) ≡ option_map (as_renamed renewals) (element_at s pair.other (first + i))
  pub others : (i : ℕ) → (i < at) ⊎ (at + count ≤ i) → element_at u pair.array i ≡ option_map (as_renamed renewals) (element_at s pair.array i)
  pub left : HasLeft registers pair.array renewals s u

-- a copy to a whole array, from a whole one as well or from a root of which it is no part, has copied the elements where it tells success
abbrev pub CopiesReplaceElements : Type 0
CopiesReplaceElements =
    (x y : HostHeap) (h : List LargeItem) (at first count : ℕ) (pair : Pair) → IsHostOf x h → IsPair (registers_in x) pair
    → root_length (large_state h) pair.array ≡ None → (root_length (large_state h) pair.other ≡ None) ⊎ IsNoPart (large_state h) pair.other pair.array → CopiesElements at first count x y h pair code.Done
    → (k : List LargeItem) × IsHostOf y k × HasCopied (registers_in x) at first count pair (large_state h) (large_state k)

-- So many elements of one root, from `first` on, were copied to another, or to itself, from `at` on, from state s to u: each is what that one had
-- before, also where the ranges overlap, and each other element is what it was. The rest is as for a fill.
pub record HasCopiedParts (registers at first count : ℕ) (pair : Pair) (s u : LargeState) : Type 0 where
  pub renewals : List (List Name)
  pub there : at + count ≤ length (unwrap_or (elements_at s pair.array) [])
  pub from : first + count ≤ length (unwrap_or (elements_at s pair.other) [])
  pub copied : (i : ℕ) → i < count → element_at u pair.array (at + i) ≡ option_map (as_renamed renewals) (element_at s pair.other (first + i))
  pub others : (i : ℕ) → (i < at) ⊎ (at + count ≤ i) → element_at u pair.array i ≡ option_map (as_renamed renewals) (element_at s pair.array i)
  pub held : (r : ℕ) → r < registers → register_at u.small 1 r ≡ as_renamed renewals (register_at s.small 1 r)
  pub references : (r : ℕ) → r < registers → IsNoPart s pair.array r → references_in u r ≡ option_map (map (as_renamed renewals)) (references_in s r)
  pub words : (r : ℕ) → r < registers → IsNoPart s pair.array r → words_in u r ≡ words_in s r
  pub own : (r : ℕ) → r < registers → IsNoPart s pair.array r → HasOwnParts s r → HasOwnParts u r
  pub roots : (r all i : ℕ) → r < registers → root_length s r ≡ Some all → AreApart s pair.array r → element_at u r i ≡ option_map (as_renamed renewals) (element_at s r i)
  pub apart : (q r : ℕ) → q < registers → r < registers → IsNoPart s pair.array q → IsNoPart s pair.array r → AreApart s q r → AreApart u q r
  pub bodies : u.large ≡ (with_renewals renewals s).large

-- a copy between roots, which are one or apart, and of which the parts of the one that is written to are its own, has copied the elements where it
-- tells success
abbrev pub CopiesReachParts : Type 0
CopiesReachParts =
    (x y : HostHeap) (h : List LargeItem) (at first count elements others : ℕ) (pair : Pair) → IsHostOf x h → IsPair (registers_in x) pair
    → root_length (large_state h) pair.array ≡ Some elements → root_length (large_state h) pair.other ≡ Some others → HasOwnParts (large_state h) pair.array
    → (register_at (large_state h).small 1 pair.other ≡ register_at (large_state h).small 1 pair.array) ⊎ AreApart (large_state h) pair.array pair.other
    → CopiesElements at first count x y h pair code.Done
    → (k : List LargeItem) × IsHostOf y k × HasCopiedParts (registers_in x) at first count pair (large_state h) (large_state k)

-- a copy from an object to a root, whose parts are its own and none of them that object, has copied the elements where it tells success
abbrev pub CopiesEnterParts : Type 0
CopiesEnterParts =
    (x y : HostHeap) (h : List LargeItem) (at first count elements : ℕ) (pair : Pair) → IsHostOf x h → IsPair (registers_in x) pair
    → root_length (large_state h) pair.array ≡ Some elements → root_length (large_state h) pair.other ≡ None → HasOwnParts (large_state h) pair.array → IsNoPart (large_state h) pair.array pair.other
    → CopiesElements at first count x y h pair code.Done → (k : List LargeItem) × IsHostOf y k × HasCopiedParts (registers_in x) at first count pair (large_state h) (large_state k)

-- ---- new roots

-- A root was made, from state s to u: its elements are nil, each of them has its place in a part, its parts are its own, and they are apart from each
-- root that another register holds, as that one's are from it. Each other register that the host may name holds what it held, what that refers to has
-- the references and data words that it had, where its parts were its own they are so still, so are two roots apart that were, and each body is as it
-- was. All that is so by the names of the renewals.
pub record HasMadeRoot (registers : ℕ) (wanted : NewArray) (s u : LargeState) : Type 0 where
  pub elements : elements_at u wanted.dest ≡ Some (replicate wanted.length None)
  pub places : (i : ℕ) → i < wanted.length → slice_get (references_of u.small.graph (part_at u wanted.dest i)) (i % PART) ≡ Some None
  pub own : HasOwnParts u wanted.dest
  pub apart : (r : ℕ) → r < registers → r ≢ wanted.dest → AreApart u wanted.dest r × AreApart u r wanted.dest
  pub others : (r : ℕ) → r < registers → r ≢ wanted.dest → HasOwnParts s r → HasOwnParts u r
  pub pairs : (q r : ℕ) → q < registers → r < registers → q ≢ wanted.dest → r ≢ wanted.dest → AreApart s q r → AreApart u q r
  pub renewals : List (List Name)
  pub held : (r : ℕ) → r < registers → r ≢ wanted.dest → register_at u.small 1 r ≡ as_renamed renewals (register_at s.small 1 r)
  pub references : (r : ℕ) → r < registers → r ≢ wanted.dest → references_in u r ≡ option_map (map (as_renamed renewals)) (references_in s r)
  pub words : (r : ℕ) → r < registers → r ≢ wanted.dest → words_in u r ≡ words_in s r
  pub bodies : u.large ≡ (with_renewals renewals s).large

-- a call that makes an array of more than 1,023 elements, and tells success, has made it
abbrev pub NewRootsHaveNils : Type 0
NewRootsHaveNils =
    (x y : HostHeap) (h : List LargeItem) (wanted : NewArray) → IsHostOf x h → IsNewArray (registers_in x) wanted → PART < wanted.length → MakesArray x y h wanted code.Done
    → (k : List LargeItem) × IsHostOf y k × HasMadeRoot (registers_in x) wanted (large_state h) (large_state k)

-- ---- what stays, whatever a call tells

-- Each register that the host may name, but one that a call gives something, holds what it held, and each body is as it was, from state s to u. All
-- that is so by the names of the renewals.
pub record HasKept (registers : ℕ) (given : Option ℕ) (s u : LargeState) : Type 0 where
  pub renewals : List (List Name)
  pub held : (r : ℕ) → r < registers → Some r ≢ given → register_at u.small 1 r ≡ as_renamed renewals (register_at s.small 1 r)
  pub bodies : u.large ≡ (with_renewals renewals s).large

-- after a call
abbrev pub KeepsRegisters : HostHeap → List LargeItem → HostHeap → Option ℕ → Type 0
KeepsRegisters x h y given = (k : List LargeItem) × IsHostOf y k × HasKept (registers_in x) given (large_state h) (large_state k)

-- the register that a call gives something, where it tells success
abbrev pub given_by : Code → ℕ → Option ℕ
given_by code.Done dest = Some dest
given_by c dest = None

-- so it is at each call on arrays, whole or in parts, whatever it tells: one that makes an array or loads gives a register something where it tells
-- success, and no other does
pub record ArraysKeepRegisters : Type 0 where
  pub made : (x y : HostHeap) (h : List LargeItem) (wanted : NewArray) (told : Code) → IsHostOf x h → IsNewArray (registers_in x) wanted → MakesArray x y h wanted told → KeepsRegisters x h y (given_by told wanted.dest)
  pub loaded : (x y : HostHeap) (h : List LargeItem) (index : ℕ) (pair : Pair) (told : Code) → IsHostOf x h → IsPair (registers_in x) pair → LoadsElement index x y h pair told → KeepsRegisters x h y (given_by told pair.other)
  pub stored : (x y : HostHeap) (h : List LargeItem) (index : ℕ) (pair : Pair) (told : Code) → IsHostOf x h → IsPair (registers_in x) pair → StoresElement index x y h pair told → KeepsRegisters x h y None
  pub filled : (x y : HostHeap) (h : List LargeItem) (first count : ℕ) (pair : Pair) (told : Code) → IsHostOf x h → IsPair (registers_in x) pair → FillsElements first count x y h pair told → KeepsRegisters x h y None
  pub copied : (x y : HostHeap) (h : List LargeItem) (at first count : ℕ) (pair : Pair) (told : Code) → IsHostOf x h → IsPair (registers_in x) pair → CopiesElements at first count x y h pair told → KeepsRegisters x h y None

-- ---- what the host can reach

-- what a register that the host may name holds, and what an object that it can reach refers to
pub data CanReach (registers : ℕ) (s : LargeState) : Name → Type 0 where
  by_register : (r : ℕ) (n : Name) → r < registers → register_at s.small 1 r ≡ Some n → CanReach registers s n
  by_reference : (m n : Name) (i : ℕ) → CanReach registers s m → slice_get (references_of s.small.graph (Some m)) i ≡ Some (Some n) → CanReach registers s n

-- the data words of what is referred to; none of nil
abbrev pub words_of : Graph → Option Name → List ℕ
words_of g None = []
words_of g (Some n) = values_of (object_at g n)

-- Each register that the host may name, but one that a call gives something, holds what it held, each object that the host could reach has the
-- references and data words that it had, and each body is as it was, from state s to u. What that register was given is a new object: none that the
-- host could reach. All that is so by the names of the renewals.
pub record HasKeptReached (registers : ℕ) (given : Option ℕ) (s u : LargeState) : Type 0 where
  pub renewals : List (List Name)
  pub held : (r : ℕ) → r < registers → Some r ≢ given → register_at u.small 1 r ≡ as_renamed renewals (register_at s.small 1 r)
  pub references : (n : Name) → CanReach registers s n → references_of u.small.graph (as_renamed renewals (Some n)) ≡ map (as_renamed renewals) (references_of s.small.graph (Some n))
  pub words : (n : Name) → CanReach registers s n → words_of u.small.graph (as_renamed renewals (Some n)) ≡ words_of s.small.graph (Some n)
  pub new : (r : ℕ) (n : Name) → given ≡ Some r → CanReach registers s n → as_renamed renewals (Some n) ≢ register_at u.small 1 r
  pub bodies : u.large ≡ (with_renewals renewals s).large

-- so it is at each call that makes an array, whatever it tells: also where there is no room for all of it
abbrev pub NewKeepsReached : Type 0
NewKeepsReached =
    (x y : HostHeap) (h : List LargeItem) (wanted : NewArray) (told : Code) → IsHostOf x h → IsNewArray (registers_in x) wanted → MakesArray x y h wanted told
    → (k : List LargeItem) × IsHostOf y k × HasKeptReached (registers_in x) (given_by told wanted.dest) (large_state h) (large_state k)

-- ---- all or nothing

-- A fill of a whole array, and a copy between whole ones, that tells another code than that of success has changed nothing: its numbers didn't fit.
pub record WholeCallsDoAll : Type 0 where
  pub filled : (x y : HostHeap) (h : List LargeItem) (first count : ℕ) (pair : Pair) (told : Code) → IsHostOf x h → IsPair (registers_in x) pair → root_length (large_state h) pair.array ≡ None
      → FillsElements first count x y h pair told → told ≢ code.Done → y ≡ x
  pub copied : (x y : HostHeap) (h : List LargeItem) (at first count : ℕ) (pair : Pair) (told : Code) → IsHostOf x h → IsPair (registers_in x) pair → root_length (large_state h) pair.array ≡ None
      → root_length (large_state h) pair.other ≡ None → CopiesElements at first count x y h pair told → told ≢ code.Done → y ≡ x
