-- No step moves a store to another reference, so what exists of its words exists at each step.
use Rattle.std.proofs.Common.{◌≡◌, ℕ, ◌<◌, refl, sym, subst, ◌∙◌, arith, List, [], ◌∷◌, length}
use Rattle.std.specs.Prelude.{Option, Some, None, slice_get}
use Rattle.std.specs.List.{All}
use Rattle.std.proofs.lemmas.List.Elements.{All-set}
use Rattle.lxr_tables.specs.Entries.{all_but}
use Rattle.lxr_layout.specs.declared.limits.Regions.{Regions}
use Rattle.lxr_actor.specs.declared.Action.{Action}
use Rattle.lxr_actor.specs.declared.Kindred.TheVariants.{Load, And}
use Rattle.lxr_actor.specs.declared.Core.{Core}
use Rattle.lxr_actor.specs.declared.Event.{Event}
use Rattle.lxr_actor.specs.declared.Event.TheVariants.{Step, Give, Out, Order}
use Rattle.lxr_actor.specs.Change.{changed}
use Rattle.lxr_actor.specs.Run.{acted, of_event, change, happened, event, FitsAt, AlwaysFits}
use Rattle.lxr_actor.proofs.Runs.{run-lengths, always-fits}
use Rattle.lxr_barrier.specs.declared.machines.LastStep.{LastStep}
use Rattle.lxr_barrier.specs.declared.machines.LastStep.TheVariants as last_step
use Rattle.lxr_barrier.specs.declared.machines.StorePhase.{StorePhase}
use Rattle.lxr_barrier.specs.declared.machines.StorePhase.TheVariants.{Begun, Unlogged, Loaded, Logged, Ended}
use Rattle.lxr_barrier.specs.Storing.{Storing, action_in, last_kind, next_action, bit_number, bit_word, target}
use Rattle.lxr_barrier.specs.Storers.{Logging, storer_machine}
use Rattle.lxr_barrier.specs.Unlogged.{HasBits, IsStoreIn}
use Rattle.lxr_barrier.proofs.ViewLemmas.{all_at}

-- both kinds of last step leave the value in the word
pub last_change : (last : LastStep) (old value : ℕ) → changed (last_kind last) old value ≡ value
last_change last_step.Store old value = refl
last_change last_step.Swap old value = refl

-- no step moves a store to another reference
pub record IsSameStore (s t : Storing) : Type 0 where
  pub bits : t.unlogged ≡ s.unlogged
  pub target : target t ≡ target s

acted_same : (words : List ℕ) (s : Logging) (o : Option Action) → IsSameStore s.store (acted storer_machine words s o).1.store
acted_same words s None = record { bits = refl; target = refl }
acted_same words s (Some act) = record { bits = refl; target = refl }

pub change_same : (e : Event) (words : List ℕ) (s : Logging) → IsSameStore s.store (change storer_machine e words s).1.store
change_same (Step n) words s = acted_same words s (next_action s.store)
change_same (Give n p) words s = record { bits = refl; target = refl }
change_same (Out n) words s = record { bits = refl; target = refl }
change_same (Order n o) words s = record { bits = refl; target = refl }

-- the words of a storer exist
abbrev pub HasWords : List ℕ → Logging → Type 0
HasWords words s = (bit_word s.store < length words) × (target s.store < length words)

abbrev pub AllHaveWords : Core Logging → Type 0
AllHaveWords core = All (HasWords core.words) core.actors

happened_words : (core : Core Logging) (e : Event) (o : Option Logging) → slice_get core.actors (of_event e) ≡ o → AllHaveWords core → All (HasWords core.words) (happened storer_machine core e o).actors
happened_words core e None at h = h
happened_words core e (Some s) at h =
    let same = change_same e core.words s in
    let has = all_at (HasWords core.words) core.actors (of_event e) s at h in
    All-set (HasWords core.words) core.actors (of_event e) _ (omega arith, omega arith) h

words_kept : (core : Core Logging) (e : Event) → AllHaveWords core → AllHaveWords (event storer_machine core e)
words_kept core e h =
    subst (λ n. All (λ s. (bit_word s.store < n) × (target s.store < n)) (event storer_machine core e).actors) (sym (run-lengths storer_machine core (e ∷ [])).0)
    (happened_words core e (slice_get core.actors (of_event e)) refl h)

word_exists : (words : List ℕ) (s : Storing) (p : StorePhase) → bit_word s < length words → target s < length words → (act : Action) → action_in s p ≡ Some act → act.word < length words
word_exists words s Begun b t act e = subst (λ (a : Action). a.word < length words) (let q : record { kind = Load; word = bit_word s; operand = 0 } ≡ act = cc in q) b
word_exists words s Unlogged b t act e = subst (λ (a : Action). a.word < length words) (let q : record { kind = Load; word = target s; operand = 0 } ≡ act = cc in q) t
word_exists words s (Loaded old) b t act e = subst (λ (a : Action). a.word < length words) (let q : record { kind = And; word = bit_word s; operand = all_but (bit_number s) } ≡ act = cc in q) b
word_exists words s Logged b t act e = subst (λ (a : Action). a.word < length words) (let q : record { kind = last_kind s.last; word = target s; operand = s.value.0 } ≡ act = cc in q) t
word_exists words s (Ended how) b t act e = absurd (cc)

fits_at : (core : Core Logging) (number : ℕ) → AllHaveWords core → FitsAt storer_machine core number
fits_at core number h s at act e = let has = all_at (HasWords core.words) core.actors number s at h in word_exists core.words s.store s.store.phase has.0 has.1 act e

-- where the words of all storers exist, each step of each schedule fits
pub storers_fit : (core : Core Logging) → AllHaveWords core → AlwaysFits storer_machine core
storers_fit core h = always-fits storer_machine AllHaveWords words_kept fits_at core h

pub same_bits : (r : Regions) (words words' : List ℕ) → length words' ≡ length words → HasBits r words → HasBits r words'
same_bits r words words' same has = record { behind = has.behind; exist = λ at lt. let e = has.exist at lt in omega arith }

pub same_store_in : (r : Regions) (s t : Storing) → IsSameStore s t → IsStoreIn r s → IsStoreIn r t
same_store_in r s t same is = record { bits = same.bits ∙ is.bits; heap = subst (λ n. n < r.counts) (sym same.target) is.heap }
