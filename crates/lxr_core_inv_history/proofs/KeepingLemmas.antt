-- After each event every mutator's registers hold what those of the model do.
use Rattle.std.proofs.Common.{◌≡◌, ◌≢◌, ℕ, ◌+◌, refl, sym, ap, subst, ◌∙◌, inl, inr, arith, true, false, cond, List, length, nat_eq}
use Rattle.std.specs.Prelude.{Some, None, IsTrue, slice_get, slice_set}
use Rattle.lxr_layout.specs.Places.{field_word, place_in}
use Rattle.lxr_layout.specs.declared.Name.{Name}
use Rattle.lxr_layout.specs.declared.Place.{Place}
use Rattle.lxr_graph.specs.declared.Op.{Op}
use Rattle.lxr_graph.specs.declared.Reply.{Reply}
use Rattle.lxr_graph.specs.declared.Reply.TheVariants as reply
use Rattle.lxr_graph.specs.Names.{has}
use Rattle.lxr_graph.specs.State.{State, next_name}
use Rattle.lxr_graph.specs.Step.{state_after, step}
use Rattle.lxr_model_counting.proofs.ReplyLemmas.{state_after_step}
use Rattle.lxr_image.specs.Image.{place_word}
use Rattle.lxr_image.specs.ImageLaws.{placed}
use Rattle.lxr_invariant.specs.AbstractState.{members}
use Rattle.lxr_core_invariant.specs.ThreadStates.{Names, ThreadState}
use Rattle.lxr_core_invariant.specs.EpochStates.{Beginning, EpochState, limits_of, moment_of}
use Rattle.lxr_core_invariant.specs.Events.{Does, done_with, found_reply}
use Rattle.lxr_core_invariant.specs.Events as event
use Rattle.lxr_core_invariant.specs.Happening.{at_stage, loaded_with}
use Rattle.lxr_core_invariant.specs.Imaged.{HoldsRegisters}
use Rattle.lxr_core_invariant.specs.Epoch.{IsEpoch}
use Rattle.lxr_core_invariant.specs.Laws.{RegistersAreKept}
use Rattle.lxr_core_invariant.proofs.ShowingLemmas.{op_formed, shown_cases}
use Rattle.lxr_core_invariant.proofs.ActingLemmas.{acts}
use Rattle.lxr_core_inv_history.proofs.RegisterLemmas.{holds_by, step_other}
use Rattle.lxr_core_inv_history.proofs.AnswerLemmas.{Answers}
use Rattle.lxr_core_inv_history.proofs.ObjectLemmas.{Takes}
use Rattle.lxr_core_inv_history.proofs.MakingLemmas.{holds_at, members_stay}
use Rattle.lxr_core_inv_history.proofs.ReplyLemmas.{adds_value, asks, done_at_once, found_none, gets_value, loads_reference, makes_object, puts_value, stores_reference, swaps_reference}

-- where the history stays, so does what registers hold
quiet : (b : Beginning) (s : EpochState) (i : ℕ) (v w : ThreadState) → IsEpoch b s → slice_get s.thread_states i ≡ Some v → w.registers ≡ v.registers → w.thread ≡ v.thread
    → (j : ℕ) (u : ThreadState) → slice_get (slice_set s.thread_states i w) j ≡ Some u → HoldsRegisters (moment_of b s).state s.at u
quiet b s i v w is shown registers thread j u now = elim (shown_cases s.thread_states i v w j u shown now) [
  | inl q ↦ subst (HoldsRegisters (moment_of b s).state s.at) (sym q.1) (holds_by (moment_of b s).state s.at v w (is.image.registers i v shown) registers thread)
  | inr q ↦ is.image.registers j u q.1
]

-- threads of two mutators are two
threads_apart : (i j t u : ℕ) → t ≡ i + 1 → u ≡ j + 1 → j ≢ i → t ≢ u
threads_apart i j t u e f ne k = ne (omega arith)

-- an operation leaves what the registers of other mutators hold
others_stay : (b : Beginning) (s : EpochState) (i : ℕ) (v : ThreadState) (o : Op) (to : Name → ℕ) → IsEpoch b s → slice_get s.thread_states i ≡ Some v → Does v o
    → ((n : Name) → IsTrue (has (members (moment_of b s)) n) → to n ≡ s.at n) → (j : ℕ) (u : ThreadState) → j ≢ i → slice_get s.thread_states j ≡ Some u
    → HoldsRegisters (step (moment_of b s).state v.thread o).0 to u
others_stay b s i v o to is shown does stay j u ne now =
    let st : State = (moment_of b s).state in
    let known = acts b s i v is shown in
    let other = acts b s j u is now in
    let before = holds_at s.tables (limits_of b).blocks s.at to (moment_of b s) u other stay in
    let apart = threads_apart i j v.thread u.thread (is.called.threads i v shown) (is.called.threads j u now) ne in
    record {
      as_many = before.as_many;
      places = λ r within. before.places r within
          ∙ ap (place_word to) (sym (step_other st v.thread u.thread r (length st.graph) o (op_formed v o known.formed does) known.thread other.thread apart known.row within is.lives.registers));
    }

-- where an operation stands in the history, registers hold what those of the state after its step do
stood : (b : Beginning) (s : EpochState) (i : ℕ) (v w : ThreadState) (o : Op) (r : Reply) (registers : List Place) (to : Name → ℕ) → IsEpoch b s → slice_get s.thread_states i ≡ Some v → Does v o
    → ((n : Name) → IsTrue (has (members (moment_of b s)) n) → to n ≡ s.at n) → Answers to (moment_of b s) v o r registers → w.registers ≡ registers → w.thread ≡ v.thread
    → (j : ℕ) (u : ThreadState) → slice_get (slice_set s.thread_states i w) j ≡ Some u
    → HoldsRegisters (state_after (moment_of b s).state v.thread o (step (moment_of b s).state v.thread o).1) to u
stood b s i v w o r registers to is shown does stay answers same thread j u now =
    subst (λ z. HoldsRegisters z to u) (sym (state_after_step (moment_of b s).state v.thread o)) (elim (shown_cases s.thread_states i v w j u shown now) [
      | inl q ↦ subst (HoldsRegisters (step (moment_of b s).state v.thread o).0 to) (sym q.1)
          (holds_by (step (moment_of b s).state v.thread o).0 to (record v { registers = registers }) w answers.holds same thread)
      | inr q ↦ others_stay b s i v o to is shown does stay j u q.0 q.1
    ])

-- a load or a swap that has a name to tell has set its register already
loaded_registers : (v : ThreadState) (o : Op) (dest : ℕ) (p : Place) → (loaded_with v o dest p).registers ≡ slice_set v.registers dest p
loaded_registers v o dest p = elim (nat_eq p.0 0) as (λ b. (cond b (done_with (record v { registers = slice_set v.registers dest p }) o (found_reply o None))
    (at_stage (record v { registers = slice_set v.registers dest p }) (Names p.0))).registers ≡ slice_set v.registers dest p) [ true ↦ refl | false ↦ refl ]

-- and is of the same thread
loaded_thread : (v : ThreadState) (o : Op) (dest : ℕ) (p : Place) → (loaded_with v o dest p).thread ≡ v.thread
loaded_thread v o dest p = elim (nat_eq p.0 0) as (λ b. (cond b (done_with (record v { registers = slice_set v.registers dest p }) o (found_reply o None))
    (at_stage (record v { registers = slice_set v.registers dest p }) (Names p.0))).thread ≡ v.thread) [ true ↦ refl | false ↦ refl ]

-- what is taken into a register is what the model takes
taken : (b : Beginning) (s : EpochState) (i : ℕ) (v : ThreadState) (o : Op) (dest place index : ℕ) → IsEpoch b s → slice_get s.thread_states i ≡ Some v → Does v o → Takes s.tables s.at (moment_of b s) v o dest place index
    → (j : ℕ) (u : ThreadState) → slice_get (slice_set s.thread_states i (loaded_with v o dest (place_in (s.tables.heap (field_word place index))))) j ≡ Some u
    → HoldsRegisters (state_after (moment_of b s).state v.thread o (step (moment_of b s).state v.thread o).1) s.at u
taken b s i v o dest place index is shown does takes j u now =
    let p : Place = place_in (s.tables.heap (field_word place index)) in
    stood b s i v (loaded_with v o dest p) o (found_reply o takes.found) (slice_set v.registers dest p) s.at is shown does (λ n member. refl) takes.answers (loaded_registers v o dest p) (loaded_thread v o dest p) j u now

-- every event leaves mutators with the registers of the model
pub registers_are_kept : RegistersAreKept
registers_are_kept b s i v event.Stays is shown may j u now = is.image.registers j u now
registers_are_kept b s i v event.Obeys is shown may j u now = quiet b s i v _ is shown refl refl j u now
registers_are_kept b s i v event.Begins is shown may j u now = quiet b s i v _ is shown refl refl j u now
registers_are_kept b s i v event.BeginsBlock is shown may j u now = quiet b s i v _ is shown refl refl j u now
registers_are_kept b s i v (event.Bumps from shape) is shown may j u now = quiet b s i v _ is shown refl refl j u now
registers_are_kept b s i v (event.DoesAtOnce o r registers) is shown may j u now =
    stood b s i v (done_with (record v { registers = registers }) o r) o r registers s.at is shown may.does (λ n member. refl) (done_at_once b s i v o r registers is shown may) refl refl j u now
registers_are_kept b s i v (event.FindsReference place index) is shown may j u now = quiet b s i v _ is shown refl refl j u now
registers_are_kept b s i v (event.FindsValue place refs index) is shown may j u now = quiet b s i v _ is shown refl refl j u now
registers_are_kept b s i v (event.FindsNone o) is shown may j u now =
    stood b s i v (done_with v o reply.Range) o reply.Range v.registers s.at is shown may.reads.does (λ n member. refl) (found_none b s i v o is shown may) refl refl j u now
registers_are_kept b s i v (event.LoadsReference o dest place index) is shown may j u now =
    taken b s i v o dest place index is shown may.does (loads_reference b s i v o dest place index is shown may) j u now
registers_are_kept b s i v (event.TellsName o n) is shown may j u now = quiet b s i v _ is shown refl refl j u now
registers_are_kept b s i v (event.GetsValue o place refs index) is shown may j u now =
    stood b s i v _ o _ v.registers s.at is shown may.does (λ n member. refl) (gets_value b s i v o place refs index is shown may) refl refl j u now
registers_are_kept b s i v (event.PutsValue o place refs index value) is shown may j u now =
    stood b s i v (done_with v o reply.Put) o reply.Put v.registers s.at is shown may.does (λ n member. refl) (puts_value b s i v o place refs index value is shown may) refl refl j u now
registers_are_kept b s i v (event.AddsValue o place refs index value) is shown may j u now =
    stood b s i v _ o _ v.registers s.at is shown may.does (λ n member. refl) (adds_value b s i v o place refs index value is shown may) refl refl j u now
registers_are_kept b s i v (event.SeesClear place index) is shown may j u now = quiet b s i v _ is shown refl refl j u now
registers_are_kept b s i v (event.SeesFull place index) is shown may j u now = quiet b s i v _ is shown refl refl j u now
registers_are_kept b s i v (event.LoadsOld place index) is shown may j u now = quiet b s i v _ is shown refl refl j u now
registers_are_kept b s i v (event.ClearsFirst e n) is shown may j u now = quiet b s i v _ is shown refl refl j u now
registers_are_kept b s i v (event.ClearsLate e) is shown may j u now = quiet b s i v _ is shown refl refl j u now
registers_are_kept b s i v (event.StoresReference o place index value) is shown may j u now =
    stood b s i v (done_with v o reply.Stored) o reply.Stored v.registers s.at is shown may.does (λ n member. refl) (stores_reference b s i v o place index value is shown may) refl refl j u now
registers_are_kept b s i v (event.SwapsReference o dest place index value) is shown may j u now =
    taken b s i v o dest place index is shown may.does (swaps_reference b s i v o dest place index value is shown may) j u now
registers_are_kept b s i v event.DrawsRun is shown may j u now = quiet b s i v _ is shown refl refl j u now
registers_are_kept b s i v event.MissesRun is shown may j u now = quiet b s i v _ is shown refl refl j u now
registers_are_kept b s i v (event.SeesRun number) is shown may j u now = quiet b s i v _ is shown refl refl j u now
registers_are_kept b s i v (event.TakesRun r shape) is shown may j u now = quiet b s i v _ is shown refl refl j u now
registers_are_kept b s i v event.DrawsBlock is shown may j u now = quiet b s i v _ is shown refl refl j u now
registers_are_kept b s i v event.MissesBlock is shown may j u now = quiet b s i v _ is shown refl refl j u now
registers_are_kept b s i v (event.SeesBlock number) is shown may j u now = quiet b s i v _ is shown refl refl j u now
registers_are_kept b s i v (event.TakesBlock block shape) is shown may j u now = quiet b s i v _ is shown refl refl j u now
registers_are_kept b s i v (event.Wipes place shape wiped) is shown may j u now = quiet b s i v _ is shown refl refl j u now
registers_are_kept b s i v (event.MakesObject o dest place shape) is shown may j u now =
    stood b s i v (done_with (record v { registers = slice_set v.registers dest (record { 0 = place }) }) o (reply.New (next_name (moment_of b s).state.graph v.thread))) o
    (reply.New (next_name (moment_of b s).state.graph v.thread)) (slice_set v.registers dest (record { 0 = place })) (placed s.at (next_name (moment_of b s).state.graph v.thread) place) is shown may.does
    (λ n member. members_stay s.tables (limits_of b).blocks s.at (moment_of b s) v place n (acts b s i v is shown) member) (makes_object b s i v o dest place shape is shown may) refl refl j u now
registers_are_kept b s i v (event.Asks o r) is shown may j u now =
    stood b s i v (done_with v o r) o r v.registers s.at is shown may.does (λ n member. refl) (asks b s i v o r is shown may) refl refl j u now
registers_are_kept b s i v (event.Leaves reason) is shown may j u now = quiet b s i v _ is shown refl refl j u now
