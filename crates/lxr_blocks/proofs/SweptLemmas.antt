-- Blocks swept one after another are swept all.
use Rattle.std.proofs.Common.{◌≡◌, ◌≢◌, ℕ, zero, suc, ◌+◌, ◌<◌, ◌≤◌, refl, sym, ap, subst, ◌∙◌, inl, inr, arith, Bool, true, false}
use Rattle.std.specs.Prelude.{◌==◌, nat_eq, nat_lt, not, ◌&&◌, if◌then◌else◌}
use Rattle.std.proofs.lemmas.Bool.Decides.{eqb_tells, leb_tells, nat_tests}
use Rattle.lxr_image.specs.declared.space.Space.{Space}
use Rattle.lxr_image.specs.Settled.{StandsByLines}
use Rattle.lxr_image.specs.Tables.{Tables, changed}
use Rattle.lxr_image.specs.Spaces.{Turns, tables_of}
use Rattle.lxr_image.proofs.SpaceLemmas.{turns_then}
use Rattle.lxr_blocks.specs.declared.states.BlockState.{BlockState}
use Rattle.lxr_blocks.specs.declared.states.BlockState.TheVariants.{Free, Partly, Whole, Chosen, World}
use Rattle.lxr_blocks.specs.Lines.{free_in}
use Rattle.lxr_blocks.specs.States.{FreeIsFree, is_fixed, state_by_lines, state_in, state_number, state_of, with_state_by_lines}
use Rattle.lxr_blocks.specs.Swept.{SweptIsByLines, with_states_by_lines}
use Rattle.lxr_blocks.proofs.KnownLemmas.{free_told}
use Rattle.lxr_blocks.proofs.LineLemmas.{all_free_state, free_or_not, none_free_state, some_free_state}
use Rattle.lxr_blocks.proofs.MaskLemmas.{not_true}

-- the state of a block, where a test says whether it is renewed
abbrev chosen_state : Tables → ℕ → Bool → ℕ
chosen_state t b renewed = if renewed then state_number (state_by_lines t b) else t.states b

below : (b n : ℕ) → b < n → nat_lt b n ≡ true
below b n h = grind (arith, nat_tests)

not_below : (b n : ℕ) → n ≤ b → nat_lt b n ≡ false
not_below b n h = grind (arith, nat_tests)

-- ---- one block more

none_at : (t : Tables) (i : ℕ) → t.states i ≡ (with_states_by_lines t 0).states i
none_at t i = sym (ap (λ x. chosen_state t i (x && not (is_fixed (state_in t i)))) (not_below i 0 (omega arith)))

pub none_swept : (t : Tables) → t ≡ with_states_by_lines t 0
none_swept t = ap (λ f. record t { states = f }) (λ j i. none_at t i j)

-- the states after block b, where a test says whether its state is fixed
abbrev stepped : Tables → ℕ → Bool → ℕ → ℕ
stepped t b fixed = if fixed then (with_states_by_lines t b).states else (changed (with_states_by_lines t b).states b (state_number (state_by_lines t b)))

here : (t : Tables) (b : ℕ) (fixed : Bool) → stepped t b fixed b ≡ chosen_state t b (not fixed)
here t b true = ap (λ x. chosen_state t b (x && not (is_fixed (state_in t b)))) (not_below b b (omega arith))
here t b false = ap (λ x. if x then state_number (state_by_lines t b) else (with_states_by_lines t b).states b) (let e : nat_eq b b ≡ true = grind (arith, nat_tests) in e)

elsewhere : (t : Tables) (b i : ℕ) (fixed : Bool) → nat_eq i b ≡ false → stepped t b fixed i ≡ (with_states_by_lines t b).states i
elsewhere t b i true other = refl
elsewhere t b i false other = ap (λ x. if x then state_number (state_by_lines t b) else (with_states_by_lines t b).states i) other

more_at : (t : Tables) (b i : ℕ) → stepped t b (is_fixed (state_in t b)) i ≡ (with_states_by_lines t (b + 1)).states i
more_at t b i = elim (eqb_tells i b) [
  | inl e ↦ subst (λ k. stepped t b (is_fixed (state_in t b)) k ≡ (with_states_by_lines t (b + 1)).states k) (sym e.1)
      (here t b (is_fixed (state_in t b)) ∙ sym (ap (λ x. chosen_state t b (x && not (is_fixed (state_in t b)))) (below b (b + 1) (omega arith))))
  | inr e ↦ let ne = e.1 in
      elsewhere t b i (is_fixed (state_in t b)) e.0
      ∙ ap (λ x. chosen_state t i (x && not (is_fixed (state_in t i)))) (let same : nat_lt i b ≡ nat_lt i (b + 1) = grind (arith, nat_tests) in same)
]

state_before : (t : Tables) (b : ℕ) → state_in (with_states_by_lines t b) b ≡ state_in t b
state_before t b = ap state_of (ap (λ x. chosen_state t b (x && not (is_fixed (state_in t b)))) (not_below b b (omega arith)))

-- one block more is swept
pub one_more : (t : Tables) (b : ℕ) → with_state_by_lines (with_states_by_lines t b) b ≡ with_states_by_lines t (b + 1)
one_more t b =
    ap (λ s. record t { states = stepped t b (is_fixed s) }) (state_before t b)
    ∙ ap (λ f. record t { states = f }) (λ j i. more_at t b i j)

pub more_swept : (a b c : Space) (block : ℕ) → Turns a b (with_states_by_lines (tables_of a) block) → Turns b c (with_state_by_lines (tables_of b) block)
    → Turns a c (with_states_by_lines (tables_of a) (block + 1))
more_swept a b c block first second =
    subst (Turns a c)
    (ap (λ u. with_state_by_lines u block) first.tables ∙ one_more (tables_of a) block)
    (turns_then a b c (with_states_by_lines (tables_of a) block) (with_state_by_lines (tables_of b) block) first second)

-- the number of Free
pub zero_of_free : (n : ℕ) → state_of n ≡ Free → n ≡ 0
zero_of_free n is = elim (eqb_tells n 0) [
  | inl z ↦ z.1
  | inr z ↦ absurd (other (n == 1) (n == 2) (n == 3) (sym (ap (λ b. if b then Free else (if n == 1 then Partly else (if n == 2 then Whole else (if n == 3 then Chosen else World)))) z.0) ∙ is))
]
  where
    other : (a b c : Bool) → (if a then Partly else (if b then Whole else (if c then Chosen else World))) ≢ Free
    other true b c is = cc
    other false true c is = cc
    other false false true is = cc
    other false false false is = cc

-- ---- blocks that are passed

-- a block has the state of its lines, unless it is Chosen or World
abbrev HasStateByLines : Tables → ℕ → Type 0
HasStateByLines t b = is_fixed (state_in t b) ≡ false → t.states b ≡ state_number (state_by_lines t b)

-- a state beyond 2 is fixed
fixed_beyond : (n : ℕ) → 3 ≤ n → is_fixed (state_of n) ≡ true
fixed_beyond n beyond =
    let zero : (n == 0) ≡ false = grind (arith, nat_tests) in let one : (n == 1) ≡ false = grind (arith, nat_tests) in let two : (n == 2) ≡ false = grind (arith, nat_tests) in
    (λ i. is_fixed (if zero i then Free else (if one i then Partly else (if two i then Whole else (if n == 3 then Chosen else World))))) ∙ fixed (n == 3)
  where
    fixed : (b : Bool) → is_fixed (if b then Chosen else World) ≡ true
    fixed true = refl
    fixed false = refl

-- and no other
beyond_fixed : (n : ℕ) → is_fixed (state_of n) ≡ true → 3 ≤ n
beyond_fixed zero is = absurd (let no : false ≡ true = is in cc)
beyond_fixed (suc zero) is = absurd (let no : false ≡ true = is in cc)
beyond_fixed (suc (suc zero)) is = absurd (let no : false ≡ true = is in cc)
beyond_fixed (suc (suc (suc n))) is = omega arith

has_state : (t : Tables) (b : ℕ) → StandsByLines t b → HasStateByLines t b
has_state t b (inl fixed) free = absurd (let yes = fixed_beyond (t.states b) fixed in let no : true ≡ false = sym yes ∙ free in cc)
has_state t b (inr (inl (is, all))) free = is ∙ ap state_number (all_free_state t b (λ i within. (free_told t b i).0 (all i within)))
has_state t b (inr (inr (inl (is, some, taken)))) free =
    is ∙ ap state_number (some_free_state t b some.0 taken.0 some.1 ((free_told t b some.0).0 some.2) taken.1 (not_true (free_in t b taken.0) (λ yes. taken.2 ((free_told t b taken.0).1 yes))))
has_state t b (inr (inr (inr (is, none)))) free =
    is ∙ ap state_number (none_free_state t b (λ i within. not_true (free_in t b i) (λ yes. none i within ((free_told t b i).1 yes))))

stands : (t : Tables) (b : ℕ) → HasStateByLines t b → StandsByLines t b
stands t b has = elim (is_fixed (state_in t b)) as (λ x. is_fixed (state_in t b) ≡ x → StandsByLines t b) [
  | true ↦ λ e. inl (beyond_fixed (t.states b) e)
  | false ↦ λ e. elim (free_or_not t b) [
    | inl all ↦ inr (inl (has e ∙ ap state_number all.0, λ i within. (free_told t b i).1 (all.1 i within)))
    | inr (inl part) ↦ inr (inr (inl (
      has e ∙ ap state_number part.0,
      (part.1.0, part.1.1, (free_told t b part.1.0).1 part.1.2),
      (part.2.0, part.2.1, λ is. let no : true ≡ false = sym ((free_told t b part.2.0).0 is) ∙ part.2.2 in cc),
    )))
    | inr (inr none) ↦ inr (inr (inr (has e ∙ ap state_number none.0, λ i within is. let no : true ≡ false = sym ((free_told t b i).0 is) ∙ none.1 i within in cc)))
  ]
] refl

-- a block that was swept has the state of its lines
renewed_has : (t : Tables) (b : ℕ) (fixed : Bool) → is_fixed (state_in t b) ≡ fixed → HasStateByLines (record t { states = if fixed then t.states else (changed t.states b (state_number (state_by_lines t b))) }) b
renewed_has t b true is free = absurd (let no : true ≡ false = sym is ∙ free in cc)
renewed_has t b false is free = ap (λ x. if x then state_number (state_by_lines t b) else t.states b) (let e : nat_eq b b ≡ true = grind (arith, nat_tests) in e)

pub renewed_stands : (t : Tables) (b : ℕ) → StandsByLines (with_state_by_lines t b) b
renewed_stands t b = stands (with_state_by_lines t b) b (renewed_has t b (is_fixed (state_in t b)) refl)

-- a block that has its state already is as if it were swept
state_kept : (t : Tables) (b : ℕ) → HasStateByLines t b → (fixed : Bool) → is_fixed (state_in t b) ≡ fixed → t.states b ≡ chosen_state t b (not fixed)
state_kept t b has true is = refl
state_kept t b has false is = has is

kept_at : (t : Tables) (b c i : ℕ) → b ≤ c → ((k : ℕ) → b ≤ k → k < c → HasStateByLines t k) → (with_states_by_lines t b).states i ≡ (with_states_by_lines t c).states i
kept_at t b c i order has = elim (leb_tells b i) [
  | inl k ↦ elim (leb_tells c i) [
    | inl m ↦ ap (λ x. chosen_state t i (x && not (is_fixed (state_in t i)))) (not_below i b k.1 ∙ sym (not_below i c m.1))
    | inr m ↦
        ap (λ x. chosen_state t i (x && not (is_fixed (state_in t i)))) (not_below i b k.1)
        ∙ state_kept t i (has i k.1 m.1) (is_fixed (state_in t i)) refl
        ∙ sym (ap (λ x. chosen_state t i (x && not (is_fixed (state_in t i)))) (below i c m.1))
  ]
  | inr k ↦ let less = k.1 in
      ap (λ x. chosen_state t i (x && not (is_fixed (state_in t i)))) (below i b k.1 ∙ sym (below i c (omega arith)))
]

-- blocks that have the states of their lines may be passed
pub passed_swept : (t u : Tables) (b c : ℕ) → u ≡ with_states_by_lines t b → b ≤ c → ((k : ℕ) → b ≤ k → k < c → StandsByLines u k) → u ≡ with_states_by_lines t c
passed_swept t u b c is order passed = is ∙ ap (λ f. record t { states = f }) (λ j i. kept_at t b c i order has j)
  where
    has : (k : ℕ) → b ≤ k → k < c → HasStateByLines t k
    has k from within =
        subst (λ x. is_fixed (state_of (chosen_state t k (x && not (is_fixed (state_in t k))))) ≡ false → chosen_state t k (x && not (is_fixed (state_in t k))) ≡ state_number (state_by_lines t k))
        (not_below k b from) (subst (λ x. HasStateByLines x k) is (has_state u k (passed k from within)))

-- a block that comes next in a sweep is Free only where all its lines are
pub sound_still : (t u : Tables) (b : ℕ) → u ≡ with_states_by_lines t b → FreeIsFree t b → FreeIsFree u b
sound_still t u b is sound = subst (λ x. FreeIsFree x b) (sym is) (λ free. sound (sym (state_before t b) ∙ free))

-- ---- what a sweep means

-- a state is read as it was written
pub read_back : (s : BlockState) → state_of (state_number s) ≡ s
read_back Free = refl
read_back Partly = refl
read_back Whole = refl
read_back Chosen = refl
read_back World = refl

not_fixed : (s : BlockState) → s ≢ Chosen → s ≢ World → is_fixed s ≡ false
not_fixed Free c w = refl
not_fixed Partly c w = refl
not_fixed Whole c w = refl
not_fixed Chosen c w = absurd (c refl)
not_fixed World c w = absurd (w refl)

renewed_there : (t : Tables) (blocks b : ℕ) → b < blocks → is_fixed (state_in t b) ≡ false → state_in (with_states_by_lines t blocks) b ≡ state_by_lines t b
renewed_there t blocks b within free =
    ap (λ x. state_of (chosen_state t b (x && not (is_fixed (state_in t b))))) (below b blocks within)
    ∙ ap (λ x. state_of (chosen_state t b (not x))) free
    ∙ read_back (state_by_lines t b)

and_false : (x : Bool) → (x && false) ≡ false
and_false true = refl
and_false false = refl

fixed_stays : (t : Tables) (blocks b : ℕ) → is_fixed (state_in t b) ≡ true → (with_states_by_lines t blocks).states b ≡ t.states b
fixed_stays t blocks b fixed =
    ap (λ x. chosen_state t b (nat_lt b blocks && not x)) fixed ∙ ap (chosen_state t b) (and_false (nat_lt b blocks))

pub swept_is_by_lines : SweptIsByLines
swept_is_by_lines t blocks = record {
  by_lines = λ b within chosen world. renewed_there t blocks b within (not_fixed (state_in t b) chosen world);
  lines = λ b. refl;
  chosen = λ b is. ap state_of (fixed_stays t blocks b (ap is_fixed is)) ∙ is;
  world = λ b is. ap state_of (fixed_stays t blocks b (ap is_fixed is)) ∙ is;
  past = λ b past. ap (λ x. chosen_state t b (x && not (is_fixed (state_in t b)))) (not_below b blocks past);
}
