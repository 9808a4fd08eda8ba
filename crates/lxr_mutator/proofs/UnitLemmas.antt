-- What is known of the steps so far by the phase that they led to, and so of a unit's end by its last step.
use Rattle.std.proofs.Common.{◌≡◌, ℕ, ◌+◌, ◌<◌, ◌≤◌, ◌⊎◌, Bool, true, false, refl, sym, ap, subst, ◌∙◌, List, [], ◌∷◌, ◌++◌, Some, inl, inr}
use Rattle.std.specs.Prelude.{IsTrue, nat_le, if◌then◌else◌}
use Rattle.std.proofs.lemmas.List.{append_assoc}
use Rattle.std.proofs.lemmas.Bool.Decides.{leb_tells}
use Rattle.lxr_mutator.specs.declared.phases.MutEnd.TheVariants as ends
use Rattle.lxr_mutator.specs.declared.phases.MutatorPhase.{MutatorPhase}
use Rattle.lxr_mutator.specs.declared.phases.MutatorPhase.TheVariants as phase
use Rattle.lxr_mutator.specs.declared.phases.Stop.TheVariants as stop
use Rattle.lxr_mutator.specs.Mutating.{Mutating, op_now, rests_in}
use Rattle.lxr_mutator.specs.Steps.{accepts_in, after, done_with, is_medium, shape_now}
use Rattle.lxr_mutator.specs.Laws.{IsLogFull, IsPastRuns, StepsByRule}
use Rattle.lxr_mutator.specs.Laws.StepsByRule.{does_one, finds_asked, finds_end, gave_up, goes_on, stands_still}
use Rattle.lxr_mutator.specs.Units.{EndsByRules, GoesOn, IsLogFullIn, IsPastBlocksIn, MayDrawBlock, UnitsEndByRules, led}
use Rattle.lxr_mutator.proofs.RuleLemmas.{block_number_by, give_up_by_rules, run_number_by}
use Rattle.lxr_mutator.proofs.StepLemmas.{stays, step_by_rule}

-- behind one more step
pub led_more : (m : Mutating) (front : List ℕ) (old : ℕ) → led m (front ++ old ∷ []) ≡ after (led m front) old
led_more m [] old = refl
led_more m (first ∷ front) old = led_more (after m first) front old

-- a number was drawn from the cursor of runs in the last of these steps
record DrewRun (m : Mutating) (front : List ℕ) (number : ℕ) : Type 0 where
  before : List ℕ
  is : front ≡ before ++ number ∷ []
  draws : (led m before).phase ≡ phase.DrawsRun

-- or from that of free blocks
record DrewBlock (m : Mutating) (front : List ℕ) (number : ℕ) : Type 0 where
  before : List ℕ
  is : front ≡ before ++ number ∷ []
  draws : (led m before).phase ≡ phase.DrawsBlock
  may : MayDrawBlock m before

-- what is known of the steps so far, which have led to this phase
abbrev Knows : Mutating → List ℕ → MutatorPhase → Type 0
Knows m front phase.Ready = front ≡ []
Knows m front phase.Finished = ⊥
Knows m front (phase.RunNumber number) = DrewRun m front number
Knows m front phase.DrawsBlock = MayDrawBlock m front
Knows m front (phase.BlockNumber number) = DrewBlock m front number
Knows m front (phase.GivingUp stop.NoRun) = IsPastBlocksIn m front
Knows m front (phase.GivingUp stop.LogFull) = IsLogFullIn m front
Knows m front p = Unit {0}

-- the steps so far of a unit
record Way (m : Mutating) (front : List ℕ) (x : Mutating) : Type 0 where
  is : led m front ≡ x
  since : x.since ≡ m.since
  every : x.every ≡ m.every
  knows : Knows m front x.phase

-- one more word, and another
pub two_more : (before : List ℕ) (a b : ℕ) → (before ++ a ∷ []) ++ b ∷ [] ≡ before ++ a ∷ b ∷ []
two_more before a b = append_assoc before (a ∷ []) (b ∷ [])

-- of the steps so far of a unit, which led to x, and of one more
module _ (m : Mutating) (front : List ℕ) (x : Mutating) (old : ℕ) (way : Way m front x) where
  known : (p : MutatorPhase) → x.phase ≡ p → Knows m front p
  known p is = subst (Knows m front) is way.knows

  led_to : (p : MutatorPhase) → x.phase ≡ p → (led m front).phase ≡ p
  led_to p is = ap (λ (y : Mutating). y.phase) way.is ∙ is

  may_draw : IsPastRuns x old ⊎ ((x.phase ≡ phase.Ready) × IsTrue (is_medium (shape_now x))) → MayDrawBlock m (front ++ old ∷ [])
  may_draw (inl (number, is, past)) =
      let drew = known (phase.RunNumber number) is in
      inr (record { before = drew.before; number = number; count = old; is = ap (λ (ws : List ℕ). ws ++ old ∷ []) drew.is ∙ two_more drew.before number old; draws = drew.draws; past = past })
  may_draw (inr (ready, medium)) =
      let none : front ≡ [] = known phase.Ready ready in
      let here : m ≡ x = ap (led m) (sym none) ∙ way.is in
      inl (subst (λ (y : Mutating). IsTrue (is_medium (shape_now y))) (sym here) medium)

  -- what is known once it has led to a phase at which it doesn't rest
  knows_more : (p : MutatorPhase) → (after x old).phase ≡ p → rests_in p ≡ false → Knows m (front ++ old ∷ []) p
  knows_more phase.Ready is on = absurd (cc)
  knows_more phase.Finished is on = absurd (cc)
  knows_more (phase.RunNumber number) is on =
      let (draws, same) = run_number_by x old number (accepts_in x x.phase old) is in
      record { before = front; is = ap (λ (n : ℕ). front ++ n ∷ []) (sym same); draws = led_to phase.DrawsRun draws }
  knows_more phase.DrawsBlock is on = may_draw ((give_up_by_rules x old).draws_block is)
  knows_more (phase.BlockNumber number) is on =
      let (draws, same) = block_number_by x old number (accepts_in x x.phase old) is in
      record { before = front; is = ap (λ (n : ℕ). front ++ n ∷ []) (sym same); draws = led_to phase.DrawsBlock draws; may = known phase.DrawsBlock draws }
  knows_more (phase.GivingUp stop.NoRun) is on =
      let (number, at, past) = (give_up_by_rules x old).finds stop.NoRun is in
      let drew = known (phase.BlockNumber number) at in
      record { before = drew.before; number = number; count = old; is = ap (λ (ws : List ℕ). ws ++ old ∷ []) drew.is ∙ two_more drew.before number old; draws = drew.draws; past = past; may = drew.may }
  knows_more (phase.GivingUp stop.LogFull) is on =
      record { before = front; old = old; is = refl; full = subst (λ (y : Mutating). IsLogFull y old) (sym way.is) ((give_up_by_rules x old).finds stop.LogFull is) }
  knows_more (phase.Base base) is on = tt
  knows_more (phase.Reference base) is on = tt
  knows_more (phase.Referent place) is on = tt
  knows_more (phase.Datum base refs) is on = tt
  knows_more (phase.Putting base refs) is on = tt
  knows_more (phase.Adding base refs) is on = tt
  knows_more (phase.Storing store) is on = tt
  knows_more phase.DrawsRun is on = tt
  knows_more (phase.Run number) is on = tt
  knows_more (phase.Block number) is on = tt
  knows_more (phase.Wiping place next) is on = tt
  knows_more (phase.Heading place) is on = tt
  knows_more phase.Asking is on = tt

  -- an operation that is done is the last of its turns, or not
  done_ends : (to : Mutating) (how : Bool) → to.since ≡ x.since + 1 → (r : _) → to.end ≡ Some (if how then ends.Turns else ends.OpDone r) → ((how ≡ true) × (x.every ≤ to.since)) ⊎ ((how ≡ false) × (to.since < x.every))
      → EndsByRules m (front ++ old ∷ []) to
  done_ends to how since r end (inl (is, last)) = record {
    how = ends.Turns;
    end = end ∙ ap (λ b. Some (if b then ends.Turns else ends.OpDone r)) is;
    cause = (since ∙ ap (λ n. n + 1) way.since, subst (λ n. n ≤ to.since) way.every last);
  }
  done_ends to how since r end (inr (is, more)) = record {
    how = ends.OpDone r;
    end = end ∙ ap (λ b. Some (if b then ends.Turns else ends.OpDone r)) is;
    cause = (since ∙ ap (λ n. n + 1) way.since, subst (λ n. to.since < n) way.every more);
  }

  -- how its last step ends it
  last_step : (to : Mutating) → StepsByRule x old to → rests_in to.phase ≡ true → EndsByRules m (front ++ old ∷ []) to
  last_step to (goes_on log registers spans p busy) rest = absurd (cc)
  last_step to (finds_asked ready is) rest =
      let none : front ≡ [] = known phase.Ready ready in
      record { how = ends.Asked; end = refl; cause = ap (λ (ws : List ℕ). ws ++ old ∷ []) none ∙ ap (λ n. n ∷ []) is }
  last_step to (finds_end ready unasked is) rest =
      let none : front ≡ [] = known phase.Ready ready in
      let here : m ≡ x = ap (led m) (sym none) ∙ way.is in
      record { how = ends.Ended; end = refl; cause = (ap op_now here ∙ is, old, unasked, ap (λ (ws : List ℕ). ws ++ old ∷ []) none) }
  last_step to (gave_up stop.NoRun is) rest = record { how = ends.NoRun; end = refl; cause = (front, old, refl, known (phase.GivingUp stop.NoRun) is) }
  last_step to (gave_up stop.LogFull is) rest = record { how = ends.LogFull; end = refl; cause = (front, old, refl, known (phase.GivingUp stop.LogFull) is) }
  last_step to (does_one log registers r) rest =
      done_ends (done_with (record x { log = log; registers = registers }) r) (nat_le x.every (x.since + 1)) refl r refl (leb_tells x.every (x.since + 1))
  last_step to (stands_still is) rest = absurd (known phase.Finished is)

  -- the steps so far, with one more
  way_more : rests_in (after x old).phase ≡ false → Way m (front ++ old ∷ []) (after x old)
  way_more on =
      let (since, every) = stays x old (after x old) (step_by_rule x old) on in
      record {
        is = led_more m front old ∙ ap (λ (y : Mutating). after y old) way.is;
        since = since ∙ way.since;
        every = every ∙ way.every;
        knows = knows_more (after x old).phase refl on;
      }

-- step by step to the end
ends_from : (m : Mutating) (olds front : List ℕ) (x : Mutating) (old : ℕ) → Way m front x → GoesOn (after x old) olds → EndsByRules m (front ++ old ∷ olds) (led (after x old) olds)
ends_from m [] front x old way rest = last_step m front x old way (after x old) (step_by_rule x old) rest
ends_from m (next ∷ olds) front x old way (on, goes) =
    subst (λ (ws : List ℕ). EndsByRules m ws (led (after x old) (next ∷ olds))) (append_assoc front (old ∷ []) (next ∷ olds))
    (ends_from m olds (front ++ old ∷ []) (after x old) next (way_more m front x old way on) goes)

-- so each unit ends by rules
pub units_end : UnitsEndByRules
units_end m [] is = absurd is
units_end m (old ∷ olds) (ready, goes) = ends_from m olds [] m old (record { is = refl; since = refl; every = refl; knows = subst (Knows m []) (sym ready) refl }) goes
