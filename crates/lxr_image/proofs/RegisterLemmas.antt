-- A row among the registers of all threads: what it holds, and what all hold once one row was replaced. Beyond the registers in use all are
-- nil, so that a row is replaced by writing as many as were or are in use.
use Rattle.std.proofs.Common.{◌≡◌, ℕ, zero, suc, ◌+◌, ◌-◌, ◌*◌, ◌%◌, ◌<◌, ◌≤◌, refl, sym, ap, subst, ◌∙◌, inl, inr, arith, List, [], ◌∷◌, ◌++◌, length, take, drop, set, get_or, replicate, length-append}
use Rattle.std.specs.Prelude.{None, map}
use Rattle.std.specs.List.{All}
use Rattle.std.proofs.Math.Seq.{paste, take-add}
use Rattle.std.proofs.lemmas.List.{append_assoc, drop-drop, ext_get_or, get_or_append_left, get_or-append_right, get_or-drop, get_or_past, nil_from_length, take_at, take-take, drop_at, get_or-replicate, get_or-set_other, get_or-set_same, get_or-take, length-drop, length-map, length-replicate, length-set, length-take-le, map-append, take-append-drop}
use Rattle.std.proofs.lemmas.Slice.{put_mid-paste}
use borrow.Rule.Slice.PartMut.{put_mid}
use Rattle.std.proofs.lemmas.List.Elements.{All-replicate, All-set}
use Rattle.std.proofs.lemmas.Bool.{cases_lt, cases_order}
use Rattle.lxr_layout.specs.declared.TheConstants.{REGISTERS}
use Rattle.lxr_layout.specs.declared.Place.{Place}
use Rattle.lxr_layout.specs.Registers.{AreNil, held_at, nil}
use Rattle.lxr_graph.specs.State.{opening_registers, opening_row}
use Rattle.lxr_graph.proofs.OpeningLemmas.{length-opening}
use Rattle.lxr_image.specs.declared.registers.RegisterFile.TheInside.{Inside}
use Rattle.lxr_image.specs.Opened.{opening_place}
use Rattle.lxr_image.specs.Registers.{AreInUse, holding, row_in, with_row}

-- ---- a row among all

pub length-row : (places : List Place) (t : ℕ) → REGISTERS * t + REGISTERS ≤ length places → length (row_in places t) ≡ REGISTERS
length-row places t within = length-take-le REGISTERS (drop (REGISTERS * t) places) (let left = length-drop (REGISTERS * t) places in omega arith)

pub held-row : (places : List Place) (t k : ℕ) → k < REGISTERS → held_at (row_in places t) k ≡ held_at places (REGISTERS * t + k)
held-row places t k few = get_or-take REGISTERS (drop (REGISTERS * t) places) k nil few ∙ get_or-drop (REGISTERS * t) places k nil

-- ---- all, with another row in place of one

length-before : (places : List Place) (t : ℕ) → REGISTERS * t + REGISTERS ≤ length places → length (take (REGISTERS * t) places) ≡ REGISTERS * t
length-before places t within = length-take-le (REGISTERS * t) places (omega arith)

length-through : (places row : List Place) (t : ℕ) → REGISTERS * t + REGISTERS ≤ length places → length row ≡ REGISTERS
    → length (take (REGISTERS * t) places ++ row) ≡ REGISTERS * t + REGISTERS
length-through places row t within long =
    let before = length-before places t within in
    let both = length-append (take (REGISTERS * t) places) row in
    omega (arith, before, both)

pub length-with_row : (places row : List Place) (t : ℕ) → REGISTERS * t + REGISTERS ≤ length places → length row ≡ REGISTERS
    → length (with_row places t row) ≡ length places
length-with_row places row t within long =
    let through = length-through places row t within long in
    let all = length-append (take (REGISTERS * t) places ++ row) (drop (REGISTERS * t + REGISTERS) places) in
    let left = length-drop (REGISTERS * t + REGISTERS) places in
    omega (arith, through, all, left)

-- the registers of that thread hold what the row holds
pub held-in_row : (places row : List Place) (t k : ℕ) → REGISTERS * t + REGISTERS ≤ length places → length row ≡ REGISTERS → k < REGISTERS
    → held_at (with_row places t row) (REGISTERS * t + k) ≡ held_at row k
held-in_row places row t k within long few =
    let through = length-through places row t within long in
    get_or_append_left (take (REGISTERS * t) places ++ row) (drop (REGISTERS * t + REGISTERS) places) nil (REGISTERS * t + k) (omega (arith, through))
    ∙ get_or-append_right (take (REGISTERS * t) places) row (REGISTERS * t) (REGISTERS * t + k) nil (length-before places t within) (omega arith)
    ∙ ap (held_at row) (let same : REGISTERS * t + k - REGISTERS * t ≡ k = omega arith in same)

-- those of all others hold what they held
pub held-before_row : (places row : List Place) (t k : ℕ) → REGISTERS * t + REGISTERS ≤ length places → length row ≡ REGISTERS → k < REGISTERS * t
    → held_at (with_row places t row) k ≡ held_at places k
held-before_row places row t k within long before =
    let through = length-through places row t within long in
    get_or_append_left (take (REGISTERS * t) places ++ row) (drop (REGISTERS * t + REGISTERS) places) nil k (omega (arith, through))
    ∙ get_or_append_left (take (REGISTERS * t) places) row nil k (let many = length-before places t within in omega (arith, many))
    ∙ get_or-take (REGISTERS * t) places k nil before

pub held-after_row : (places row : List Place) (t k : ℕ) → REGISTERS * t + REGISTERS ≤ length places → length row ≡ REGISTERS → REGISTERS * t + REGISTERS ≤ k
    → held_at (with_row places t row) k ≡ held_at places k
held-after_row places row t k within long after =
    get_or-append_right (take (REGISTERS * t) places ++ row) (drop (REGISTERS * t + REGISTERS) places) (REGISTERS * t + REGISTERS) k nil (length-through places row t within long) after
    ∙ get_or-drop (REGISTERS * t + REGISTERS) places (k - (REGISTERS * t + REGISTERS)) nil
    ∙ ap (held_at places) (let same : REGISTERS * t + REGISTERS + (k - (REGISTERS * t + REGISTERS)) ≡ k = omega arith in same)

-- a row is replaced by writing as many as were or are in use
pub row_put : (places row : List Place) (t many : ℕ) → REGISTERS * t + REGISTERS ≤ length places → length row ≡ REGISTERS → many ≤ REGISTERS
    → AreNil places (REGISTERS * t + many) (REGISTERS * t + REGISTERS) → AreNil row many REGISTERS
    → paste places (REGISTERS * t) row many ≡ with_row places t row
row_put places row t many within long few nil_there nil_here =
    ap (λ z. take from places ++ take many row ++ z) cut
    ∙ sym (append_assoc (take from places ++ take many row) (drop many row) after)
    ∙ ap (λ z. z ++ after) (append_assoc (take from places) (take many row) (drop many row) ∙ ap (λ z. take from places ++ z) (take-append-drop many row))
  where
    from : ℕ
    from = REGISTERS * t

    rest : List Place
    rest = drop (from + many) places

    after : List Place
    after = drop (from + REGISTERS) places

    -- the registers that are not written to: as many as the row has there
    ends : List Place
    ends = take (REGISTERS - many) rest

    long_ends : length ends ≡ REGISTERS - many
    long_ends = let long_rest = length-drop (from + many) places in length-take-le (REGISTERS - many) rest (omega (arith, long_rest))

    both_nil : (i : ℕ) → i < length ends → held_at ends i ≡ held_at (drop many row) i
    both_nil i below =
        get_or-take (REGISTERS - many) rest i nil (omega (arith, long_ends))
        ∙ get_or-drop (from + many) places i nil
        ∙ nil_there (from + many + i) (omega arith) (omega (arith, long_ends))
        ∙ sym (get_or-drop many row i nil ∙ nil_here (many + i) (omega arith) (omega (arith, long_ends)))

    same_ends : ends ≡ drop many row
    same_ends = let long_here = length-drop many row in ext_get_or nil ends (drop many row) (omega (arith, long_ends, long_here)) both_nil

    left : drop (REGISTERS - many) rest ≡ after
    left = drop-drop (REGISTERS - many) (from + many) places ∙ ap (λ n. drop n places) (let same : from + many + (REGISTERS - many) ≡ from + REGISTERS = omega arith in same)

    cut : rest ≡ drop many row ++ after
    cut = sym (take-append-drop (REGISTERS - many) rest) ∙ ap (λ z. z ++ drop (REGISTERS - many) rest) same_ends ∙ ap (λ z. drop many row ++ z) left

-- so it stands where that part is written over
pub row_written : (old was part row : List Place) (t k many : ℕ) → REGISTERS * t + REGISTERS ≤ length old → length row ≡ REGISTERS → many ≤ REGISTERS
    → AreNil old (REGISTERS * t + many) (REGISTERS * t + REGISTERS) → AreNil row many REGISTERS → was ≡ old → part ≡ take many row → k ≡ many
    → put_mid (REGISTERS * t) k was part ≡ with_row old t row
row_written old was part row t k many within long few nil_there nil_here was_old is_part is_many =
    let from : ℕ = REGISTERS * t in
    put_mid-paste from k was part (take many row) many is_part (sym is_many) (sym (length-take-le many row (omega arith)))
    ∙ ap (λ z. paste z from (take many row) many) was_old
    ∙ ap (λ z. take from old ++ z ++ drop (from + many) old) (take-take many many row (omega arith))
    ∙ row_put old row t many within long few nil_there nil_here

-- ---- what is known of the fields

-- the others of each row are nil where one row is replaced, with how many of it are in use
put_others : (places row : List Place) (uses : List ℕ) (t n thread : ℕ) → REGISTERS * t + REGISTERS ≤ length places → length row ≡ REGISTERS → t < length uses
    → AreNil row n REGISTERS → AreNil places (REGISTERS * thread + get_or uses thread 0) (REGISTERS * thread + REGISTERS)
    → AreNil (with_row places t row) (REGISTERS * thread + get_or (set uses t n) thread 0) (REGISTERS * thread + REGISTERS)
put_others places row uses t n thread within long counted nil_row others k from end = elim (cases_order thread t) [
  | inl same ↦
      let here : get_or (set uses t n) thread 0 ≡ n = ap (λ z. get_or (set uses t n) z 0) same ∙ get_or-set_same uses t n 0 counted in
      let at : REGISTERS * t + (k - REGISTERS * t) ≡ k = omega arith in
      ap (held_at (with_row places t row)) (sym at) ∙ held-in_row places row t (k - REGISTERS * t) within long (omega arith) ∙ nil_row (k - REGISTERS * t) (omega (arith, here)) (omega arith)
  | inr (inl lower) ↦
      let there : get_or (set uses t n) thread 0 ≡ get_or uses thread 0 = get_or-set_other uses t thread n 0 (λ e. omega arith) in
      held-before_row places row t k within long (omega arith) ∙ others k (omega (arith, there)) end
  | inr (inr higher) ↦
      let there : get_or (set uses t n) thread 0 ≡ get_or uses thread 0 = get_or-set_other uses t thread n 0 (λ e. omega arith) in
      held-after_row places row t k within long (omega arith) ∙ others k (omega (arith, there)) end
]

pub put_in_use : (before after : Inside) (t n : ℕ) (row : List Place) → AreInUse before → REGISTERS * t + REGISTERS ≤ length before.places.items → length row ≡ REGISTERS
    → n ≤ before.width → AreNil row n REGISTERS
    → after.places.items ≡ with_row before.places.items t row → after.in_use.items ≡ set before.in_use.items t n → after.width ≡ before.width → AreInUse after
put_in_use before after t n row is within long few nil_row places in_use width =
    let old : List Place = before.places.items in
    let uses : List ℕ = before.in_use.items in
    let as_many = is.many in
    let many_uses : length after.in_use.items ≡ length uses = ap length in_use ∙ length-set uses t n in
    let many_places : length after.places.items ≡ length old = ap length places ∙ length-with_row old row t within long in
    record {
      many = many_places ∙ is.many ∙ ap (λ z. REGISTERS * z) (sym many_uses);
      width = subst (λ z. z ≤ REGISTERS) (sym width) is.width;
      few = subst (λ z. All (λ u. u ≤ z) after.in_use.items) (sym width) (subst (All (λ u. u ≤ before.width)) (sym in_use) (All-set (λ u. u ≤ before.width) uses t n few is.few));
      others = λ thread. subst (λ z. AreNil z (REGISTERS * thread + get_or after.in_use.items thread 0) (REGISTERS * thread + REGISTERS)) (sym places)
          (subst (λ z. AreNil (with_row old t row) (REGISTERS * thread + get_or z thread 0) (REGISTERS * thread + REGISTERS)) (sym in_use)
          (put_others old row uses t n thread within long (omega arith) nil_row (is.others thread)));
    }

-- ---- as they are opened

nil_held : (n k : ℕ) → held_at (map opening_place (replicate n None)) k ≡ nil
nil_held zero k = refl
nil_held (suc n) zero = refl
nil_held (suc n) (suc k) = nil_held n k

nil_in_row : (k : ℕ) → 0 < k → held_at (map opening_place opening_row) k ≡ nil
nil_in_row zero some = absurd (omega arith)
nil_in_row (suc k) some = nil_held (REGISTERS - 1) k

-- all but the first register of each thread are nil
nil_opening : (threads k : ℕ) → 0 < k % REGISTERS → held_at (map opening_place (opening_registers threads)) k ≡ nil
nil_opening zero k other = refl
nil_opening (suc t) k other =
    let before : List Place = map opening_place (opening_registers t) in
    let long : length before ≡ REGISTERS * t = length-map (opening_registers t) opening_place ∙ length-opening t in
    ap (λ z. held_at z k) (map-append opening_place (opening_registers t) opening_row)
    ∙ elim (cases_lt k (REGISTERS * t)) [
      | inl below ↦ get_or_append_left before (map opening_place opening_row) nil k (omega (arith, long)) ∙ nil_opening t k other
      | inr past ↦ get_or-append_right before (map opening_place opening_row) (REGISTERS * t) k nil long past ∙ nil_in_row (k - REGISTERS * t) (omega arith)
    ]

opening_others : (threads thread : ℕ)
    → AreNil (map opening_place (opening_registers threads)) (REGISTERS * thread + get_or (replicate threads 1) thread 0) (REGISTERS * thread + REGISTERS)
opening_others threads thread k from end = elim (cases_lt thread threads) [
  | inl there ↦ let one : get_or (replicate threads 1) thread 0 ≡ 1 = get_or-replicate {A = ℕ} threads thread 1 0 there in nil_opening threads k (omega (arith, one))
  | inr past ↦
      let long = length-map (opening_registers threads) opening_place ∙ length-opening threads in
      get_or_past (map opening_place (opening_registers threads)) k nil (omega (arith, long))
]

pub opening_in_use : (r : Inside) (threads : ℕ) → 1 ≤ r.width → r.width ≤ REGISTERS → r.places.items ≡ map opening_place (opening_registers threads) → r.in_use.items ≡ replicate threads 1 → AreInUse r
opening_in_use r threads some width places in_use = record {
  many = ap length places ∙ length-map (opening_registers threads) opening_place ∙ length-opening threads ∙ ap (λ z. REGISTERS * z) (sym (ap length in_use ∙ length-replicate threads 1));
  width = width;
  few = subst (All (λ u. u ≤ r.width)) (sym in_use) (All-replicate (λ u. u ≤ r.width) threads 1 some);
  others = λ thread. subst (λ z. AreNil z (REGISTERS * thread + get_or r.in_use.items thread 0) (REGISTERS * thread + REGISTERS)) (sym places)
      (subst (λ z. AreNil (map opening_place (opening_registers threads)) (REGISTERS * thread + get_or z thread 0) (REGISTERS * thread + REGISTERS)) (sym in_use) (opening_others threads thread));
}

-- ---- how many hold something

holding-append : (xs ys : List Place) → holding (xs ++ ys) ≡ holding xs + holding ys
holding-append [] ys = omega arith
holding-append (x ∷ xs) ys = let rest = holding-append xs ys in omega (arith, rest)

-- no more than stand before the first from which on all are nil
holding_few : (xs : List Place) (n : ℕ) → AreNil xs n (length xs) → holding xs ≤ n
holding_few [] n others = omega arith
holding_few (x ∷ xs) zero others =
    let first : x ≡ nil = others 0 (omega arith) (omega arith) in
    let rest = holding_few xs 0 (λ k from end. others (suc k) (omega arith) (omega arith)) in
    subst (λ z. holding (z ∷ xs) ≤ 0) (sym first) (omega (arith, rest))
holding_few (x ∷ xs) (suc n) others =
    let rest = holding_few xs n (λ k from end. others (suc k) (omega arith) (omega arith)) in
    grind (arith, rest)

holding_rows : (places : List Place) (uses : List ℕ) (width : ℕ) → length places ≡ REGISTERS * length uses → All (λ u. u ≤ width) uses
    → ((thread : ℕ) → AreNil places (REGISTERS * thread + get_or uses thread 0) (REGISTERS * thread + REGISTERS)) → holding places ≤ length uses * width
holding_rows places [] width many few others = subst (λ z. holding z ≤ 0 * width) (sym (nil_from_length places many)) (omega arith)
holding_rows places (u ∷ uses) width many few others =
    let first : List Place = take REGISTERS places in
    let rest : List Place = drop REGISTERS places in
    let long : length first ≡ REGISTERS = length-take-le REGISTERS places (omega arith) in
    let left : length rest ≡ length places - REGISTERS = length-drop REGISTERS places in
    let in_first : holding first ≤ u = holding_few first u (λ k from end. get_or-take REGISTERS places k nil (omega arith) ∙ others 0 k (omega arith) (omega arith)) in
    let nil_rest = λ (thread k : ℕ) (from : REGISTERS * thread + get_or uses thread 0 ≤ k) (end : k < REGISTERS * thread + REGISTERS). get_or-drop REGISTERS places k nil ∙ others (suc thread) (REGISTERS + k) (omega arith) (omega arith) in
    let in_rest : holding rest ≤ length uses * width = holding_rows rest uses width (omega arith) (λ k d below. few (suc k) d (omega arith)) nil_rest in
    let here : u ≤ width = few 0 0 (omega arith) in
    let both : holding places ≡ holding first + holding rest = ap holding (sym (take-append-drop REGISTERS places)) ∙ holding-append first rest in
    omega arith

pub hold_few : (r : Inside) (threads : ℕ) → AreInUse r → length r.places.items ≡ REGISTERS * threads → holding r.places.items ≤ threads * r.width
hold_few r threads is many =
    let as_many = is.many in
    let counted : length r.in_use.items ≡ threads = omega arith in
    subst (λ z. holding r.places.items ≤ z * r.width) counted (holding_rows r.places.items r.in_use.items r.width is.many is.few is.others)

-- ---- one row after another is copied

-- the rows before one are copied, and then that one
pub copy_more : (from to : List Place) (t : ℕ) → length to ≡ length from → REGISTERS * t + REGISTERS ≤ length from
    → with_row (take (REGISTERS * t) from ++ drop (REGISTERS * t) to) t (row_in from t) ≡ take (REGISTERS * (t + 1)) from ++ drop (REGISTERS * (t + 1)) to
copy_more from to t same within =
    ap (λ z. z ++ row_in from t ++ drop (at + REGISTERS) both) (take_at (take at from) (drop at to) at long)
    ∙ ap (λ z. take at from ++ row_in from t ++ z) back
    ∙ ap (λ z. z ++ drop (at + REGISTERS) to) (sym (take-add at REGISTERS from))
    ∙ ap (λ n. take n from ++ drop n to) (let next : at + REGISTERS ≡ REGISTERS * (t + 1) = omega arith in next)
  where
    at : ℕ
    at = REGISTERS * t

    both : List Place
    both = take at from ++ drop at to

    long : length (take at from) ≡ at
    long = length-take-le at from (omega arith)

    back : drop (at + REGISTERS) both ≡ drop (at + REGISTERS) to
    back = sym (drop-drop REGISTERS at both) ∙ ap (drop REGISTERS) (drop_at (take at from) (drop at to) at long) ∙ drop-drop REGISTERS at to
