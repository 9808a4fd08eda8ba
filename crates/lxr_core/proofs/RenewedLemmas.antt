-- A mutator that rests for a history rests after a renewal of names too, once it begins anew: with no calls, no replies, and its thread's objects.
use Rattle.std.proofs.Common.{◌≡◌, ◌≢◌, ℕ, ◌≤◌, arith, Bool, false, true, refl, ◌∙◌, sym, inr, List, [], ◌∷◌, length, length-drop}
use Rattle.std.specs.Prelude.{Some}
use Rattle.std.proofs.lemmas.List.Elements.{All-drop}
use Rattle.lxr_layout.specs.declared.TheConstants.{MOST_GRANULES}
use Rattle.lxr_layout.specs.declared.limits.Limits.{Limits}
use Rattle.lxr_layout.specs.declared.Name.{Name}
use Rattle.lxr_graph.specs.History.{Item, Renew}
use Rattle.lxr_mutator.specs.declared.phases.MutEnd.TheVariants as ends
use Rattle.lxr_mutator.specs.declared.phases.MutatorPhase.{MutatorPhase}
use Rattle.lxr_mutator.specs.declared.phases.MutatorPhase.TheVariants as phase
use Rattle.lxr_mutator.specs.Mutating.{IsWaiting, Mutating, rests_in}
use Rattle.lxr_mutator.specs.Mutators.{IsMutator, IsOperation, MayBeIn, renewed}
use Rattle.lxr_mutator.specs.Naming.{all_told_as}
use Rattle.lxr_core_invariant.specs.EpochStates.{objects_before}
use Rattle.lxr_core_sim_mutator.specs.Showing.{IsSteadyIn}
use Rattle.lxr_core.specs.Resting.{RestsAfter}

module _ (m : Mutating) (before : ℕ) where
  -- at rest nothing is said of its operation
  still_in : (p : MutatorPhase) → rests_in p ≡ true → MayBeIn (renewed m before) p
  still_in phase.Ready rests = tt
  still_in phase.Finished rests = tt
  still_in p rests = absurd (cc)

  -- and where no `new` waits it keeps nothing of one
  still_steady : (p : MutatorPhase) → rests_in p ≡ true → m.end ≢ Some ends.NoRun → IsSteadyIn m p → IsSteadyIn (renewed m before) p
  still_steady phase.Ready rests none steady = (steady.0, λ waits. absurd (none waits))
  still_steady phase.Finished rests none steady = λ waits. absurd (none waits)
  still_steady p rests none steady = absurd (cc)

  -- it is a mutator again
  pub renewed_is : IsMutator m → rests_in m.phase ≡ true → m.end ≢ Some ends.NoRun → before ≤ MOST_GRANULES → IsMutator (renewed m before)
  renewed_is is rests none few_before =
      let fewer = length-drop (length m.replies.items) m.operations in
      let few = is.setup.few in let room = is.setup.room in
      record {
        setup = record {
          thread = is.setup.thread;
          width = is.setup.width;
          operations = All-drop (IsOperation m.width) (length m.replies.items) m.operations is.setup.operations;
          few = omega (arith, fewer, few);
          room = omega (arith, fewer, room);
          most = is.setup.most;
          indexes = is.setup.indexes;
          every = is.setup.every;
          before = few_before;
        };
        registers = is.registers;
        spans = is.spans;
        few_replies = omega arith;
        replies = inr (omega arith);
        busy = λ e. (let k : true ≡ false = sym rests ∙ e in absurd (cc));
        waits = λ e. absurd (none e);
        since = is.since;
        phase = still_in m.phase rests;
      }

-- no replies are told as none
none_told : (c : Bool) → all_told_as c [] ≡ []
none_told true = refl
none_told false = refl

-- it rests after the renewal
pub renewed_rests : (l : Limits) (turns : ℕ) (h : List Item) (ns : List Name) (t before : ℕ) (m : Mutating) → RestsAfter l turns h t m → ¬ IsWaiting m → m.end ≢ Some ends.Ended → before ≤ MOST_GRANULES
    → before ≡ objects_before t (Renew ns ∷ h) → RestsAfter l turns (Renew ns ∷ h) t (renewed m before)
renewed_rests l turns h ns t before m is idle goes_on few counts =
    let none : m.end ≢ Some ends.NoRun = λ e. idle (e, is.rests) in
    record {
      mutator = record {
        sound = renewed_is m before is.mutator.sound is.rests none few;
        regions = is.mutator.regions;
        width = is.mutator.width;
        steady = still_steady m before m.phase is.rests none is.mutator.steady;
      };
      thread = is.thread;
      every = is.every;
      log = is.log;
      spans = is.spans;
      rests = is.rests;
      calls = refl;
      replies = none_told m.names;
      unnamed = is.unnamed;
      began = counts;
      ended = λ e. absurd (goes_on e);
    }
