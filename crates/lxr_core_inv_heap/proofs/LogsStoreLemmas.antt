-- What a store to a reference, or a swap, does once its bit is clear: the reference is written, and its mutator no longer is about to write it.
use Rattle.std.proofs.Common.{◌≡◌, ℕ, refl, sym, ap, subst, ◌∙◌, inl, inr, List}
use Rattle.std.specs.Prelude.{Option, Some, IsTrue, slice_get}
use Rattle.lxr_layout.specs.declared.Name.{Name}
use Rattle.lxr_graph.specs.declared.Op.{Op}
use Rattle.lxr_graph.specs.declared.Op.TheVariants as op
use Rattle.lxr_graph.specs.declared.Reply.{Reply}
use Rattle.lxr_graph.specs.declared.Reply.TheVariants as reply
use Rattle.lxr_graph.specs.State.{State, register_at}
use Rattle.lxr_image.specs.Tables.{Tables}
use Rattle.lxr_model.specs.Moments.{Field, Moment, written_after}
use Rattle.lxr_model_counting.specs.Distinct.{has_field}
use Rattle.lxr_model_counting.proofs.StoreLemmas.{WritesField, written_old, written_split, written_there}
use Rattle.lxr_invariant.specs.AbstractState.{members}
use Rattle.lxr_invariant.proofs.NameLemmas.{in_first}
use Rattle.lxr_core_invariant.specs.ThreadStates.{Intent, Stage, ThreadState, Clears, Stores, Works}
use Rattle.lxr_core_invariant.specs.Events.{Does, base_of}
use Rattle.lxr_core_invariant.specs.Imaged.{KnowsReference}
use Rattle.lxr_core_invariant.proofs.ActingLemmas.{Acts, base_held, same_pair}
use Rattle.lxr_core_invariant.proofs.TellingLemmas.{one_place}
use Rattle.lxr_core_inv_heap.proofs.LogsTurnLemmas.{HasLogs, Turns}

-- ---- stages

-- a mutator that intends this neither has an entry to record nor is about to store or swap
abbrev pub IsQuietBy : Intent → Type 0
IsQuietBy (Clears e) = ⊥
IsQuietBy (Stores place index) = ⊥
IsQuietBy _ = Unit {0}

-- and so in a stage
abbrev pub IsQuiet : Stage → Type 0
IsQuiet (Works intent) = IsQuietBy intent
IsQuiet _ = Unit {0}

-- such a stage is none that records or stores
pub quiet_clears : {P : Type 0} (stage : Stage) (intent : Intent) → IsQuiet stage → stage ≡ Works intent → (IsQuietBy intent → ⊥) → P
quiet_clears stage intent quiet same not = absurd (not (subst IsQuiet same quiet))

-- ---- what is written

-- an operation that replied so wrote this reference of what its base register holds, and no other
pub record IsWrite (o : Op) (r : Reply) (base index : ℕ) : Type 0 where
  pub named : base_of o ≡ Some (base, index)
  pub told : (s : State) (t : ℕ) (n : Name) (i : ℕ) → WritesField s t o r n i → (register_at s t base ≡ Some n) × (index ≡ i)
  pub writes : (s : State) (t : ℕ) (n : Name) (i : ℕ) → register_at s t base ≡ Some n → index ≡ i → WritesField s t o r n i

-- a store that replied ok
pub store_writes : (o : Op) (r : Reply) (base index source : ℕ) → o ≡ op.Store base index source → r ≡ reply.Stored → IsWrite o r base index
store_writes o r base index source e f =
    subst (λ (z : Op × Reply). IsWrite z.0 z.1 base index) (λ j. (sym e j, sym f j)) (record { named = refl; told = λ s t n i w. w; writes = λ s t n i h k. (h, k) })

-- a swap that replied with what it found
pub swap_writes : (o : Op) (r : Reply) (dest base index source : ℕ) (found : Option Name) → o ≡ op.Swap dest base index source → r ≡ reply.Swapped found → IsWrite o r base index
swap_writes o r dest base index source found e f =
    subst (λ (z : Op × Reply). IsWrite z.0 z.1 base index) (λ j. (sym e j, sym f j)) (record { named = refl; told = λ s t n i w. w; writes = λ s t n i h k. (h, k) })

-- ---- what it turns to

-- what was about to be written is written
pub write_turns : (t : Tables) (blocks : ℕ) (m : Moment) (at : Name → ℕ) (cleared : List Field) (thread_states : List ThreadState) (room i : ℕ) (v w : ThreadState) (place index : ℕ) (o : Op) (r : Reply) (base k : ℕ)
    → Acts t blocks at m v → KnowsReference m at v place index → Does v o → IsWrite o r base k → v.stage ≡ Works (Stores place index) → slice_get thread_states i ≡ Some v
    → HasLogs t m at cleared thread_states room → IsQuiet w.stage → w.log ≡ v.log → Turns m at cleared (written_after m v.thread o r) v w
write_turns t blocks m at cleared thread_states room i v w place index o r base k acts knows does write stage there is quiet log =
    let own = base_held t blocks at m v o place index acts does knows.on in
    let n : Name = own.name in
    let named = same_pair base k own.base index (sym write.named ∙ own.named) in
    let holds : register_at m.state v.thread base ≡ Some n = ap (register_at m.state v.thread) named.0 ∙ own.holds in
    record {
      log = log;
      were_cleared = λ q j h. elim (written_split m v.thread o r q j h) [
        | inl old ↦ is.written q j old
        | inr new ↦
            let told = write.told m.state v.thread q j new.1 in
            let both : Some n ≡ Some q = sym holds ∙ told.0 in
            let same : n ≡ q = cc in
            subst (λ z. IsTrue (has_field cleared (q, z))) (sym named.1 ∙ told.1) (is.thread_states_tell.stores i v place index q there stage new.0 (own.stands ∙ ap at same))
      ];
      stay_written = λ q j h. written_old m v.thread o r q j h;
      stored = λ q j h stage_too.
          let kept = (is.fields q j h).0 in
          let works : Works (Stores place index) ≡ Works (Stores (at q) j) = sym stage ∙ stage_too in
          let intent : Stores place index ≡ Stores (at q) j = cc in
          let place_is : place ≡ at q = cc in
          let index_is : index ≡ j = cc in
          let same : n ≡ q = one_place t blocks at m.state.graph (members m) n q acts.image own.member (in_first m.unreclaimed m.made q kept) (sym own.stands ∙ place_is) in
          written_there m v.thread o r q j kept (write.writes m.state v.thread q j (holds ∙ ap Some same) (named.1 ∙ index_is));
      clears = λ e now. quiet_clears w.stage (Clears e) quiet now (λ h. h);
      stores = λ p j q now member here. quiet_clears w.stage (Stores p j) quiet now (λ h. h);
    }
