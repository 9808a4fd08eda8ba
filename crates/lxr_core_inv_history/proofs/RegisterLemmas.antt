-- Registers after a step: those of the thread that did it, and those of others.
use Rattle.std.proofs.Common.{◌≡◌, ◌≢◌, ℕ, ◌+◌, ◌-◌, ◌*◌, ◌<◌, ◌≤◌, refl, sym, ap, ◌∙◌, inl, inr, arith, List, length, get_or, ◌++◌, take, drop, append_assoc}
use Rattle.std.specs.Prelude.{Option, Some, None, replicate, slice_get, slice_set}
use Rattle.std.proofs.lemmas.Bool.Decides.{eqb_tells, leb_tells}
use Rattle.std.proofs.lemmas.Grind.{get_or-set_at}
use Rattle.std.proofs.lemmas.List.{get_or-append_right, get_or-drop, get_or-replicate, get_or-set_other, get_or-take, get_or_append_left, length-set, length-take-le}
use Rattle.lxr_layout.specs.declared.TheConstants.{REGISTERS}
use Rattle.lxr_layout.specs.declared.Name.{Name}
use Rattle.lxr_layout.specs.declared.Place.{Place}
use Rattle.lxr_layout.specs.Registers.{nil}
use Rattle.lxr_graph.specs.declared.Op.{Op}
use Rattle.lxr_graph.specs.declared.Op.TheVariants as op
use Rattle.lxr_graph.specs.State.{State, object_at, refs_of, values_of, register_at, register_index, with_register}
use Rattle.lxr_graph.specs.Step.{IsWellFormed, add_to, added, cleared, get_from, load_from, loaded, put_at, put_to, step, store_to, stored, swap_in, swapped}
use Rattle.lxr_image.specs.Image.{place_word}
use Rattle.lxr_core_invariant.specs.ThreadStates.{ThreadState}
use Rattle.lxr_core_invariant.specs.Imaged.{HoldsRegisters}

-- ---- one register

-- registers of two threads are two
index_apart : (t u r q : ℕ) → 1 ≤ t → 1 ≤ u → t ≢ u → r < REGISTERS → q < REGISTERS → register_index u q ≢ register_index t r
index_apart t u r q ht hu ne hr hq e = ne (omega arith)

-- two registers of one thread
own_apart : (t r q : ℕ) → q ≢ r → register_index t q ≢ register_index t r
own_apart t r q ne e = ne (omega arith)

-- a register of a thread is one of all registers
register_there : (t r rows n : ℕ) → 1 ≤ t → t < rows → r < REGISTERS → n ≡ REGISTERS * (rows - 1) → register_index t r < n
register_there t r rows n ht row hr e = omega arith

-- another thread's register isn't set
set_other : (s : State) (t u r q : ℕ) (v : Option Name) → 1 ≤ t → 1 ≤ u → t ≢ u → r < REGISTERS → q < REGISTERS → register_at (with_register s t r v) u q ≡ register_at s u q
set_other s t u r q v ht hu ne hr hq = get_or-set_other s.registers (register_index t r) (register_index u q) v None (index_apart t u r q ht hu ne hr hq)

-- nor is another one of the thread
set_beside : (s : State) (t r q : ℕ) (v : Option Name) → q ≢ r → register_at (with_register s t r v) t q ≡ register_at s t q
set_beside s t r q v ne = get_or-set_other s.registers (register_index t r) (register_index t q) v None (own_apart t r q ne)

-- the register that is set holds what it is set to
set_here : (s : State) (t r q : ℕ) (v : Option Name) → q ≡ r → register_index t r < length s.registers → register_at (with_register s t r v) t q ≡ v
set_here s t r q v e there = get_or-set_at s.registers (register_index t r) (register_index t q) v None (ap (register_index t) e) there

-- ---- all registers of a thread

-- what is kept before cleared entries, they, and what is kept behind
grouped : (rs : List (Option Name)) (k j : ℕ) → get_or (take k rs ++ replicate REGISTERS None ++ drop (k + REGISTERS) rs) j None ≡ get_or (take k rs ++ (replicate REGISTERS None ++ drop (k + REGISTERS) rs)) j None
grouped rs k j = ap (λ z. get_or z j None) (append_assoc (take k rs) (replicate REGISTERS None) (drop (k + REGISTERS) rs))

-- 256 entries that are cleared are nil
cleared_inside : (rs : List (Option Name)) (k j : ℕ) → k + REGISTERS ≤ length rs → k ≤ j → j < k + REGISTERS → get_or (take k rs ++ replicate REGISTERS None ++ drop (k + REGISTERS) rs) j None ≡ None
cleared_inside rs k j long low high =
    let front : length (take k rs) ≡ k = length-take-le k rs (omega arith) in
    grouped rs k j ∙ get_or-append_right (take k rs) (replicate REGISTERS None ++ drop (k + REGISTERS) rs) k j None front low
    ∙ get_or_append_left (replicate REGISTERS None) (drop (k + REGISTERS) rs) None (j - k) (omega arith)
    ∙ get_or-replicate REGISTERS (j - k) None None (omega arith)

-- those before them stay
cleared_before : (rs : List (Option Name)) (k j : ℕ) → k + REGISTERS ≤ length rs → j < k → get_or (take k rs ++ replicate REGISTERS None ++ drop (k + REGISTERS) rs) j None ≡ get_or rs j None
cleared_before rs k j long low =
    let front : length (take k rs) ≡ k = length-take-le k rs (omega arith) in
    grouped rs k j ∙ get_or_append_left (take k rs) (replicate REGISTERS None ++ drop (k + REGISTERS) rs) None j (omega (arith, front)) ∙ get_or-take k rs j None low

-- and those behind them
cleared_behind : (rs : List (Option Name)) (k j : ℕ) → k + REGISTERS ≤ length rs → k + REGISTERS ≤ j → get_or (take k rs ++ replicate REGISTERS None ++ drop (k + REGISTERS) rs) j None ≡ get_or rs j None
cleared_behind rs k j long high =
    let front : length (take k rs) ≡ k = length-take-le k rs (omega arith) in
    let there : k + REGISTERS + (j - k - REGISTERS) ≡ j = omega arith in
    grouped rs k j ∙ get_or-append_right (take k rs) (replicate REGISTERS None ++ drop (k + REGISTERS) rs) k j None front (omega arith)
    ∙ get_or-append_right (replicate REGISTERS None) (drop (k + REGISTERS) rs) REGISTERS (j - k) None refl (omega arith)
    ∙ get_or-drop (k + REGISTERS) rs (j - k - REGISTERS) None
    ∙ ap (λ z. get_or rs z None) there

-- the end of a thread clears its registers
cleared_own : (s : State) (t q rows : ℕ) → 1 ≤ t → t < rows → q < REGISTERS → length s.registers ≡ REGISTERS * (rows - 1) → register_at (record s { registers = cleared s.registers t }) t q ≡ None
cleared_own s t q rows ht row hq e = cleared_inside s.registers (REGISTERS * (t - 1)) (register_index t q) (omega arith) (omega arith) (omega arith)

-- and no other ones
cleared_other : (s : State) (t u q rows : ℕ) → 1 ≤ t → 1 ≤ u → t ≢ u → t < rows → q < REGISTERS → length s.registers ≡ REGISTERS * (rows - 1) → register_at (record s { registers = cleared s.registers t }) u q ≡ register_at s u q
cleared_other s t u q rows ht hu ne row hq e =
    elim (leb_tells t u) [
      | inl h ↦ let low = h.1 in cleared_behind s.registers (REGISTERS * (t - 1)) (register_index u q) (omega arith) (omega arith)
      | inr h ↦ let high = h.1 in cleared_before s.registers (REGISTERS * (t - 1)) (register_index u q) (omega arith) (omega arith)
    ]

-- ---- a step changes registers of its own thread alone

-- a load sets a register of its own thread
loaded_other : (s : State) (t u dest q : ℕ) (found : Option (Option Name)) → 1 ≤ t → 1 ≤ u → t ≢ u → dest < REGISTERS → q < REGISTERS → register_at (loaded s t dest found).0 u q ≡ register_at s u q
loaded_other s t u dest q None ht hu ne hd hq = refl
loaded_other s t u dest q (Some v) ht hu ne hd hq = set_other s t u dest q v ht hu ne hd hq

-- or none
load_other : (s : State) (t u dest i q : ℕ) (base : Option Name) → 1 ≤ t → 1 ≤ u → t ≢ u → dest < REGISTERS → q < REGISTERS → register_at (load_from s t dest i base).0 u q ≡ register_at s u q
load_other s t u dest i q None ht hu ne hd hq = refl
load_other s t u dest i q (Some n) ht hu ne hd hq = loaded_other s t u dest q (slice_get (refs_of (object_at s.graph n)) i) ht hu ne hd hq

-- a store changes no register
stored_registers : (s : State) (n : Name) (i : ℕ) (v : Option Name) (found : Option (Option Name)) → (stored s n i v found).0.registers ≡ s.registers
stored_registers s n i v None = refl
stored_registers s n i v (Some old) = refl

-- whatever its base
store_registers : (s : State) (i : ℕ) (v base : Option Name) → (store_to s i v base).0.registers ≡ s.registers
store_registers s i v None = refl
store_registers s i v (Some n) = stored_registers s n i v (slice_get (refs_of (object_at s.graph n)) i)

-- a swap sets a register of its own thread
swapped_other : (s : State) (t u dest : ℕ) (n : Name) (i q : ℕ) (v : Option Name) (found : Option (Option Name)) → 1 ≤ t → 1 ≤ u → t ≢ u → dest < REGISTERS → q < REGISTERS → register_at (swapped s t dest n i v found).0 u q ≡ register_at s u q
swapped_other s t u dest n i q v None ht hu ne hd hq = refl
swapped_other s t u dest n i q v (Some old) ht hu ne hd hq = set_other s t u dest q old ht hu ne hd hq

-- or none
swap_other : (s : State) (t u dest i q : ℕ) (v base : Option Name) → 1 ≤ t → 1 ≤ u → t ≢ u → dest < REGISTERS → q < REGISTERS → register_at (swap_in s t dest i v base).0 u q ≡ register_at s u q
swap_other s t u dest i q v None ht hu ne hd hq = refl
swap_other s t u dest i q v (Some n) ht hu ne hd hq = swapped_other s t u dest n i q v (slice_get (refs_of (object_at s.graph n)) i) ht hu ne hd hq

-- a put changes no register
put_at_registers : (s : State) (n : Name) (i v : ℕ) (found : Option ℕ) → (put_at s n i v found).0.registers ≡ s.registers
put_at_registers s n i v None = refl
put_at_registers s n i v (Some old) = refl

-- whatever its base
put_registers : (s : State) (i v : ℕ) (base : Option Name) → (put_to s i v base).0.registers ≡ s.registers
put_registers s i v None = refl
put_registers s i v (Some n) = put_at_registers s n i v (slice_get (values_of (object_at s.graph n)) i)

-- nor does an add
added_registers : (s : State) (n : Name) (i v : ℕ) (found : Option ℕ) → (added s n i v found).0.registers ≡ s.registers
added_registers s n i v None = refl
added_registers s n i v (Some old) = refl

-- whatever its base
add_registers : (s : State) (i v : ℕ) (base : Option Name) → (add_to s i v base).0.registers ≡ s.registers
add_registers s i v None = refl
add_registers s i v (Some n) = added_registers s n i v (slice_get (values_of (object_at s.graph n)) i)

-- nor does a get
get_registers : (s : State) (i : ℕ) (base : Option Name) → (get_from s i base).0.registers ≡ s.registers
get_registers s i None = refl
get_registers s i (Some n) = refl

-- the registers of another thread stay
pub step_other : (s : State) (t u q rows : ℕ) (o : Op) → IsWellFormed o → 1 ≤ t → 1 ≤ u → t ≢ u → t < rows → q < REGISTERS → length s.registers ≡ REGISTERS * (rows - 1) → register_at (step s t o).0 u q ≡ register_at s u q
step_other s t u q rows (op.New dest shape) formed ht hu ne row hq e = set_other s t u dest q _ ht hu ne formed.0 hq
step_other s t u q rows (op.Load dest base i) formed ht hu ne row hq e = load_other s t u dest i q (register_at s t base) ht hu ne formed.0 hq
step_other s t u q rows (op.Store base i source) formed ht hu ne row hq e = ap (λ z. get_or z (register_index u q) None) (store_registers s i (register_at s t source) (register_at s t base))
step_other s t u q rows (op.Put base i v) formed ht hu ne row hq e = ap (λ z. get_or z (register_index u q) None) (put_registers s i v (register_at s t base))
step_other s t u q rows (op.Get base i) formed ht hu ne row hq e = ap (λ z. get_or z (register_index u q) None) (get_registers s i (register_at s t base))
step_other s t u q rows (op.Swap dest base i source) formed ht hu ne row hq e = swap_other s t u dest i q (register_at s t source) (register_at s t base) ht hu ne formed.0 hq
step_other s t u q rows (op.Add base i v) formed ht hu ne row hq e = ap (λ z. get_or z (register_index u q) None) (add_registers s i v (register_at s t base))
step_other s t u q rows (op.Move dest source) formed ht hu ne row hq e = set_other s t u dest q (register_at s t source) ht hu ne formed.0 hq
step_other s t u q rows (op.Nil dest) formed ht hu ne row hq e = set_other s t u dest q None ht hu ne formed hq
step_other s t u q rows (op.Same left right) formed ht hu ne row hq e = refl
step_other s t u q rows op.Pause formed ht hu ne row hq e = refl
step_other s t u q rows op.Collect formed ht hu ne row hq e = refl
step_other s t u q rows op.End formed ht hu ne row hq e = cleared_other s t u q rows ht hu ne row hq e

-- ---- what a thread state holds

-- a register that is set holds the place of what the model's holds
pub set_holds : (s : State) (at : Name → ℕ) (v : ThreadState) (dest rows : ℕ) (p : Place) (w : Option Name) → HoldsRegisters s at v → 1 ≤ v.thread → v.thread < rows → length s.registers ≡ REGISTERS * (rows - 1) → dest < REGISTERS
    → p.0 ≡ place_word at w → HoldsRegisters (with_register s v.thread dest w) at (record v { registers = slice_set v.registers dest p })
set_holds s at v dest rows p w holds ht row e small place =
    record {
      as_many = length-set v.registers dest p ∙ holds.as_many;
      places = λ r within. elim (eqb_tells r dest) [
        | inl q ↦
            ap (λ (z : Place). z.0) (get_or-set_at v.registers dest r p nil q.1 (let long = holds.as_many in omega (arith, long, small))) ∙ place
            ∙ ap (place_word at) (sym (set_here s v.thread dest r w q.1 (register_there v.thread dest rows (length s.registers) ht row small e)))
        | inr q ↦
            ap (λ (z : Place). z.0) (get_or-set_other v.registers dest r p nil q.1) ∙ holds.places r within ∙ ap (place_word at) (sym (set_beside s v.thread dest r w q.1))
      ];
    }

-- cleared registers are nil
pub cleared_holds : (s : State) (at : Name → ℕ) (v : ThreadState) (rows : ℕ) → 1 ≤ v.thread → v.thread < rows → length s.registers ≡ REGISTERS * (rows - 1)
    → HoldsRegisters (record s { registers = cleared s.registers v.thread }) at (record v { registers = replicate REGISTERS nil })
cleared_holds s at v rows ht row e =
    record {
      as_many = refl;
      places = λ r within. ap (λ (z : Place). z.0) (get_or-replicate REGISTERS r nil nil within) ∙ ap (place_word at) (sym (cleared_own s v.thread r rows ht row within e));
    }

-- what a thread state holds is of its registers and its thread alone
pub holds_by : (s : State) (at : Name → ℕ) (v w : ThreadState) → HoldsRegisters s at v → w.registers ≡ v.registers → w.thread ≡ v.thread → HoldsRegisters s at w
holds_by s at v w holds registers thread =
    record {
      as_many = ap length registers ∙ holds.as_many;
      places = λ r within. ap (λ z. (get_or z r nil).0) registers ∙ holds.places r within ∙ ap (λ z. place_word at (register_at s z r)) (sym thread);
    }
