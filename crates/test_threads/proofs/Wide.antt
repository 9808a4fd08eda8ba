-- The words that repeaters name are there in every core.
use Rattle.std.proofs.Common.{◌≡◌, ℕ, ◌+◌, ◌<◌, Bool, true, false, if◌then◌else◌, [], ◌∷◌, length, Option, Some, None, refl, ap, arith}
use Rattle.lxr_actor.specs.declared.Action.{Action}
use Rattle.lxr_actor.specs.declared.Core.{Core}
use Rattle.lxr_actor.specs.Machine.{Machine}
use Rattle.lxr_actor.specs.Run.{AlwaysFits}
use Rattle.lxr_actor.proofs.Runs.{run-lengths, always-fits}
use Rattle.test_threads.specs.declared.repeater.Repeater.{Repeater}
use Rattle.test_threads.specs.Repeating.{repeating}

-- words below a number that all next steps name
pub wide-fits : {A : Type 0} (m : Machine A) (wide : ℕ) → ((a : A) (act : Action) → m.action a ≡ Some act → act.word < wide) → (core : Core A) → wide < length core.words + 1 → AlwaysFits m core
wide-fits m wide names core enough =
    always-fits m (λ (c : Core _). wide < length c.words + 1)
    (λ c e h. let same = (run-lengths m c (e ∷ [])).0 in omega arith)
    (λ c number h a at act is. let word = names a act is in omega arith)
    core enough

abbrev word_of : Option Action → ℕ
word_of None = 0
word_of (Some act) = act.word

one-word : (b : Bool) (a act : Action) → a.word ≡ 0 → (if b then None else Some a) ≡ Some act → act.word < 1
one-word true a act zero e = let h : 0 ≡ act.word = ap word_of e in omega arith
one-word false a act zero e = let h : a.word ≡ act.word = ap word_of e in omega arith

pub repeaters-fit : (core : Core Repeater) → 0 < length core.words → AlwaysFits repeating core
repeaters-fit core h = wide-fits repeating 1 (λ a act is. one-word _ _ act refl is) core (omega arith)
