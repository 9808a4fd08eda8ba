-- Each cause has its end: the state that a unit has come to behind its steps tells what its last step does.
use Rattle.std.proofs.Common.{◌≡◌, ◌≢◌, ℕ, ◌+◌, ◌<◌, ◌≤◌, Bool, true, false, refl, sym, ap, subst, ◌∙◌, arith, List, [], ◌∷◌, ◌++◌, length, Some, inl, inr}
use Rattle.std.specs.Prelude.{nat_eq, nat_le, nat_lt, if◌then◌else◌}
use Rattle.std.proofs.lemmas.List.{length-append}
use Rattle.std.proofs.lemmas.Bool.Decides.{eqb_tells, leb_tells}
use borrow.Author.Tests.{ltb-true}
use Rattle.lxr_graph.specs.declared.Op.TheVariants as op
use Rattle.lxr_layout.specs.declared.TheConstants.{MOST_GRANULES}
use Rattle.lxr_barrier.specs.Storing.{log_after, store_after}
use Rattle.lxr_barrier.proofs.EndLemmas.{full_swaps_nothing}
use Rattle.lxr_mutator.specs.declared.phases.MutEnd.TheVariants as ends
use Rattle.lxr_mutator.specs.declared.phases.MutatorPhase.TheVariants as phase
use Rattle.lxr_mutator.specs.declared.phases.Stop.{Stop}
use Rattle.lxr_mutator.specs.declared.phases.Stop.TheVariants as stop
use Rattle.lxr_mutator.specs.Mutating.{Mutating, op_now, rests_in}
use Rattle.lxr_mutator.specs.Steps.{accepts_in, after, after_in, done_with, end_by, finished, next_in, started, stored}
use Rattle.lxr_graph.specs.declared.Reply.TheVariants as reply
use Rattle.lxr_mutator.specs.Laws.{IsLogFull, StepsByRule}
use Rattle.lxr_mutator.specs.Laws.StepsByRule.{does_one, finds_asked, finds_end, gave_up, goes_on, stands_still}
use Rattle.lxr_mutator.specs.Units.{CausesEndUnits, GoesOn, IsCause, IsPastBlocksIn, IsUnit, led}
use Rattle.lxr_mutator.proofs.RuleLemmas.{give_up_by_rules}
use Rattle.lxr_mutator.proofs.StepLemmas.{done_rests, stays, step_by_rule}

-- behind some steps, and then others
led_both : (m : Mutating) (front olds : List ℕ) → led m (front ++ olds) ≡ led (led m front) olds
led_both m [] olds = refl
led_both m (old ∷ front) olds = led_both (after m old) front olds

-- before its last step it doesn't rest, but where that is the first
on_at : (m : Mutating) (front : List ℕ) (last : ℕ) → GoesOn m (front ++ last ∷ []) → rests_in (led m front).phase ≡ false
on_at m [] last goes = goes.0
on_at m (old ∷ front) last goes = on_at (after m old) front last goes.1

unit_on : (m : Mutating) (front : List ℕ) (last : ℕ) → 0 < length front → IsUnit m (front ++ last ∷ []) → rests_in (led m front).phase ≡ false
unit_on m [] last some is = absurd (omega arith)
unit_on m (old ∷ front) last some is = on_at (after m old) front last is.1

-- a unit that gives up ends so
gives_up_so : (m : Mutating) (olds before : List ℕ) (asked : ℕ) (why : Stop) → olds ≡ before ++ asked ∷ [] → (led m before).phase ≡ phase.GivingUp why → (led m olds).end ≡ Some (end_by why)
gives_up_so m olds before asked why is at = ap (λ (ws : List ℕ). (led m ws).end) is ∙ ap (λ (y : Mutating). y.end) (led_both m before (asked ∷ [])) ∙ (give_up_by_rules (led m before) asked).ends why at

-- a number past the free blocks, and a unit that goes on: it gives up
past_blocks : (y : Mutating) (number count : ℕ) → y.phase ≡ phase.BlockNumber number → count ≤ number → rests_in (after y count).phase ≡ false → (after y count).phase ≡ phase.GivingUp stop.NoRun
past_blocks y number count is past on = ap (λ p. (next_in y p count).phase) is ∙ by (accepts_in y (phase.BlockNumber number) count) (ap (λ p. rests_in (next_in y p count).phase) (sym is) ∙ on) ∙ over_by (nat_lt number count) refl
  where
    by : (b : Bool) → rests_in (if b then after_in y (phase.BlockNumber number) count else done_with y reply.Bad).phase ≡ false
        → (if b then after_in y (phase.BlockNumber number) count else done_with y reply.Bad).phase ≡ (if nat_lt number count then phase.Block number else phase.GivingUp stop.NoRun)
    by true goes = refl
    by false goes = (let rest = done_rests (nat_le y.every (y.since + 1)) in absurd (cc))

    over_by : (b : Bool) → nat_lt number count ≡ b → (if b then phase.Block number else phase.GivingUp stop.NoRun) ≡ phase.GivingUp stop.NoRun
    over_by true e = (let less = ltb-true number count e in absurd (omega (arith, less, past)))
    over_by false e = refl

found_no_run : (m : Mutating) (before : List ℕ) (asked : ℕ) → IsUnit m (before ++ asked ∷ []) → IsPastBlocksIn m before → (led m before).phase ≡ phase.GivingUp stop.NoRun
found_no_run m before asked unit is =
    let x = led m is.before in
    let drawn : (after x is.number).phase ≡ phase.BlockNumber is.number = ap (λ p. (next_in x p is.number).phase) is.draws in
    let here : led m before ≡ after (after x is.number) is.count = ap (led m) is.is ∙ led_both m is.before (is.number ∷ is.count ∷ []) in
    let many = ap length is.is ∙ length-append is.before (is.number ∷ is.count ∷ []) in
    let on = unit_on m before asked (omega (arith, many)) unit in
    ap (λ (y : Mutating). y.phase) here ∙ past_blocks (after x is.number) is.number is.count drawn is.past (ap (λ (y : Mutating). rests_in y.phase) (sym here) ∙ on)

-- a store that finds the log full
found_full : (x : Mutating) (old : ℕ) → IsLogFull x old → (after x old).phase ≡ phase.GivingUp stop.LogFull
found_full x old (s, is, end) =
    ap (λ p. (next_in x p old).phase) is
    ∙ ap (λ b. (if (if b then nat_le old (MOST_GRANULES) else true) then after_in x (phase.Storing s) old else done_with x reply.Bad).phase) (full_swaps_nothing s x.log old end)
    ∙ ap (λ e. (stored x (store_after s x.log old) (log_after s x.log old) e).phase) end

-- the last of its turns
module _ (m x : Mutating) (old : ℕ) (since : x.since ≡ m.since) (every : x.every ≡ m.every) (more : x.phase ≢ phase.Finished) where
  last_turn : (to : Mutating) → StepsByRule x old to → rests_in to.phase ≡ true → to.since ≡ m.since + 1 → m.every ≤ to.since → to.end ≡ Some ends.Turns
  last_turn to (goes_on log registers spans p busy) rest one last = absurd (cc)
  last_turn to (finds_asked ready is) rest one last = absurd (omega (arith, one, since))
  last_turn to (finds_end ready unasked is) rest one last = absurd (omega (arith, one, since))
  last_turn to (gave_up why is) rest one last = absurd (omega (arith, one, since))
  last_turn to (does_one log registers r) rest one last = elim (leb_tells x.every (x.since + 1)) [
    | inl q ↦ ap (λ b. Some (if b then ends.Turns else ends.OpDone r)) q.0
    | inr q ↦ (let less = q.1 in absurd (omega (arith, less, every, last)))
  ]
  last_turn to (stands_still is) rest one last = absurd (more is)

-- step by step to the last
turns_from : (m : Mutating) (olds : List ℕ) (x : Mutating) (old : ℕ) → x.since ≡ m.since → x.every ≡ m.every → x.phase ≢ phase.Finished → GoesOn (after x old) olds
    → (led (after x old) olds).since ≡ m.since + 1 → m.every ≤ (led (after x old) olds).since → (led (after x old) olds).end ≡ Some ends.Turns
turns_from m [] x old since every more rest one last = last_turn m x old since every more (after x old) (step_by_rule x old) rest one last
turns_from m (next ∷ olds) x old since every more (on, goes) one last =
    let (still, same) = stays x old (after x old) (step_by_rule x old) on in
    turns_from m olds (after x old) next (still ∙ since) (same ∙ every) (λ e. (let rest : rests_in (after x old).phase ≡ true = ap rests_in e in cc)) goes one last

turns_so : (m : Mutating) (olds : List ℕ) → IsUnit m olds → IsCause m olds (led m olds) ends.Turns → (led m olds).end ≡ Some ends.Turns
turns_so m [] is cause = absurd is
turns_so m (old ∷ olds) (ready, goes) (one, last) = turns_from m olds m old refl refl (λ e. (let at : phase.Ready ≡ phase.Finished = sym ready ∙ e in cc)) goes one last

-- the first step finds that a pause is asked for, or the thread's end
first_step : (m : Mutating) (olds : List ℕ) (old : ℕ) → IsUnit m olds → olds ≡ old ∷ [] → (led m olds).end ≡ (if nat_eq old 1 then finished m ends.Asked else started m (op_now m)).end
first_step m [] old is single = absurd is
first_step m (first ∷ olds) old (ready, goes) single = ap (λ (ws : List ℕ). (led m ws).end) single ∙ ap (λ p. (next_in m p old).end) ready

asked_so : (m : Mutating) (olds : List ℕ) → IsUnit m olds → olds ≡ 1 ∷ [] → (led m olds).end ≡ Some ends.Asked
asked_so m olds is single = first_step m olds 1 is single

ended_so : (m : Mutating) (olds : List ℕ) (pause : ℕ) → IsUnit m olds → op_now m ≡ op.End → pause ≢ 1 → olds ≡ pause ∷ [] → (led m olds).end ≡ Some ends.Ended
ended_so m olds pause is last unasked single =
    let so : (if nat_eq pause 1 then finished m ends.Asked else started m (op_now m)).end ≡ Some ends.Ended = elim (eqb_tells pause 1) [
      | inl q ↦ absurd (unasked q.1)
      | inr q ↦ ap (λ (b : Bool). (if b then finished m ends.Asked else started m (op_now m)).end) q.0 ∙ ap (λ o. (started m o).end) last
    ] in
    first_step m olds pause is single ∙ so

-- so each cause has its end
pub causes_end : CausesEndUnits
causes_end m olds unit = record {
  no_run = λ (before, asked, is, past). gives_up_so m olds before asked stop.NoRun is (found_no_run m before asked (subst (IsUnit m) is unit) past);
  log_full = λ (before, asked, is, full).
      gives_up_so m olds before asked stop.LogFull is
      (ap (λ (ws : List ℕ). (led m ws).phase) full.is ∙ ap (λ (y : Mutating). y.phase) (led_both m full.before (full.old ∷ [])) ∙ found_full (led m full.before) full.old full.full);
  asked = λ single. asked_so m olds unit single;
  turns = λ cause. turns_so m olds unit cause;
  ended = λ (last, pause, unasked, single). ended_so m olds pause unit last unasked single;
}
