-- The registers and the logs of all mutators as one list each.
use Rattle.std.proofs.Common.{◌≡◌, ℕ, suc, ◌+◌, ◌-◌, ◌*◌, ◌<◌, ◌≤◌, refl, sym, ap, subst, ◌∙◌, inl, inr, arith, List, [], ◌∷◌, length, map, get_or, length-append}
use Rattle.std.specs.Prelude.{Some, None, slice_get}
use Rattle.std.proofs.lemmas.Bool.Decides.{leb_tells}
use Rattle.std.proofs.lemmas.Grind.{same_number_lists}
use Rattle.std.proofs.lemmas.Option.{slice_get_within}
use Rattle.std.proofs.lemmas.List.{get_or_append_left, get_or-append_right, get_or-map, length-map}
use Rattle.lxr_layout.specs.declared.TheConstants.{REGISTERS}
use Rattle.lxr_layout.specs.declared.Name.{Name}
use Rattle.lxr_layout.specs.declared.Place.{Place}
use Rattle.lxr_layout.specs.Registers.{nil}
use Rattle.lxr_graph.specs.State.{State}
use Rattle.lxr_image.specs.Image.{ArePlacesOf, place_word}
use Rattle.lxr_core_invariant.specs.ThreadStates.{ThreadState, held}
use Rattle.lxr_core_invariant.specs.Logged.{logs_of}
use Rattle.lxr_core_invariant.specs.Imaged.{HoldsRegisters}
use Rattle.lxr_core_close.specs.Safepoint.{registers_of}

-- ---- registers

-- the numbers of places
abbrev pub words_of : List Place → List ℕ
words_of places = map (λ (p : Place). p.0) places

-- 256 numbers of a list from 256 times one on are those of this thread state's registers
pub record StandAt (words : List ℕ) (i : ℕ) (v : ThreadState) : Type 0 where
  pub as_many : length v.registers ≡ REGISTERS
  pub each : (r : ℕ) → r < REGISTERS → (held v r).0 ≡ get_or words (REGISTERS * i + r) 0

-- these thread states stand one behind the other, from one on
abbrev pub StandFrom : List ℕ → ℕ → List ThreadState → Type 0
StandFrom words from thread_states = (i : ℕ) (v : ThreadState) → slice_get thread_states i ≡ Some v → StandAt words (from + i) v

-- 256 registers of each
pub register_count : (words : List ℕ) (from : ℕ) (thread_states : List ThreadState) → StandFrom words from thread_states → length (registers_of thread_states) ≡ REGISTERS * length thread_states
register_count words from [] each = refl
register_count words from (v ∷ thread_states) each =
    let here = (each 0 v refl).as_many in
    let rest = register_count words (from + 1) thread_states (λ i w h. subst (λ z. StandAt words z w) (let e : from + suc i ≡ (from + 1) + i = omega arith in e) (each (suc i) w h)) in
    omega (arith, length-append v.registers (registers_of thread_states), here, rest)

-- a number of the list is that of the register
pub register_word : (words : List ℕ) (from : ℕ) (thread_states : List ThreadState) (k : ℕ) → StandFrom words from thread_states → k < REGISTERS * length thread_states → (get_or (registers_of thread_states) k nil).0 ≡ get_or words (REGISTERS * from + k) 0
register_word words from [] k each small = absurd (omega arith)
register_word words from (v ∷ thread_states) k each small =
    let first = each 0 v refl in
    let as_many = first.as_many in
    elim (leb_tells REGISTERS k) [
      | inr c ↦
          let low = c.1 in
          let at : REGISTERS * (from + 0) + k ≡ REGISTERS * from + k = omega arith in
          ap (λ (p : Place). p.0) (get_or_append_left v.registers (registers_of thread_states) nil k (omega (arith, low, as_many)))
          ∙ first.each k low ∙ ap (λ z. get_or words z 0) at
      | inl c ↦
          let high = c.1 in
          let at : REGISTERS * (from + 1) + (k - REGISTERS) ≡ REGISTERS * from + k = omega (arith, high) in
          ap (λ (p : Place). p.0) (get_or-append_right v.registers (registers_of thread_states) REGISTERS k nil as_many high)
          ∙ register_word words (from + 1) thread_states (k - REGISTERS) (λ i w h. subst (λ z. StandAt words z w) (let e : from + suc i ≡ (from + 1) + i = omega arith in e) (each (suc i) w h)) (omega (arith, small, high))
          ∙ ap (λ z. get_or words z 0) at
    ]

-- the registers of all mutators are places of what the model's hold
pub registers_are_places : (at : Name → ℕ) (st : State) (thread_states : List ThreadState) → length st.registers ≡ REGISTERS * length thread_states → ((i : ℕ) (v : ThreadState) → slice_get thread_states i ≡ Some v → v.thread ≡ i + 1)
    → ((i : ℕ) (v : ThreadState) → slice_get thread_states i ≡ Some v → HoldsRegisters st at v) → ArePlacesOf at (registers_of thread_states) st.registers
registers_are_places at st thread_states many threads each =
    same_number_lists (words_of (registers_of thread_states)) words (length-map (registers_of thread_states) (λ (p : Place). p.0) ∙ count ∙ sym (length-map st.registers (place_word at) ∙ many)) (λ k small.
    let low : k < REGISTERS * length thread_states = omega (arith, small, length-map (registers_of thread_states) (λ (p : Place). p.0), count) in
    let at_k : REGISTERS * 0 + k ≡ k = omega arith in
    get_or-map (λ (p : Place). p.0) (registers_of thread_states) k nil 0 (omega (arith, low, count)) ∙ register_word words 0 thread_states k stand low ∙ ap (λ z. get_or words z 0) at_k)
  where
    words : List ℕ
    words = map (place_word at) st.registers

    stand_at : (i : ℕ) (v : ThreadState) → slice_get thread_states i ≡ Some v → i < length thread_states → StandAt words (0 + i) v
    stand_at i v h small =
        let holds = each i v h in
        let thread = threads i v h in
        record {
          as_many = holds.as_many;
          each = λ r low.
              let index : REGISTERS * (v.thread - 1) + r ≡ REGISTERS * (0 + i) + r = omega (arith, thread) in
              holds.places r low ∙ ap (λ z. place_word at (get_or st.registers z None)) index
              ∙ sym (get_or-map (place_word at) st.registers (REGISTERS * (0 + i) + r) None 0 (omega (arith, many, small, low)));
        }

    stand : StandFrom words 0 thread_states
    stand i v h = stand_at i v h (slice_get_within thread_states i v h)

    count : length (registers_of thread_states) ≡ REGISTERS * length thread_states
    count = register_count words 0 thread_states stand

-- ---- logs

-- where no log has more entries than fit, all together have no more than that for each
pub few_entries : (most : ℕ) (thread_states : List ThreadState) → ((i : ℕ) (v : ThreadState) → slice_get thread_states i ≡ Some v → length v.log.items ≤ most) → length (logs_of thread_states) ≤ length thread_states * most
few_entries most [] each = omega arith
few_entries most (v ∷ thread_states) each =
    let here = each 0 v refl in
    let rest = few_entries most thread_states (λ i w h. each (suc i) w h) in
    let more : suc (length thread_states) * most ≡ length thread_states * most + most = suc_times (length thread_states) most in
    omega (arith, length-append v.log.items (logs_of thread_states), here, rest, more)
  where
    suc_times : (a b : ℕ) → suc a * b ≡ a * b + b
    suc_times a b = grind arith
