-- What a served `new` does to a space: but for the words, the registers, the rest and the number of `new`s all stays.
use Rattle.std.proofs.Common.{◌≡◌, ℕ, ◌+◌, sym, ap, subst, ◌∙◌, arith}
use Rattle.std.specs.Prelude.{Some}
use Rattle.lxr_layout.specs.declared.Name.{Name}
use Rattle.lxr_layout.specs.declared.Place.{Place}
use Rattle.lxr_layout.specs.declared.Shape.{Shape}
use Rattle.lxr_graph.specs.declared.Op.TheVariants as op
use Rattle.lxr_graph.specs.declared.Reply.TheVariants as reply
use Rattle.lxr_graph.specs.State.{next_name as name_of_next}
use Rattle.lxr_graph.specs.Step.{IsReply}
use Rattle.lxr_image.specs.declared.space.Space.{Space}
use Rattle.lxr_image.specs.declared.space.Tally.{Tally}
use Rattle.lxr_invariant.specs.AbstractState.{AbstractState}
use Rattle.lxr_invariant.specs.Quiescent.{IsQuiescent}
use Rattle.lxr_invariant.proofs.RestLemmas.{quiescent_rests, rests_quiescent}
use Rattle.lxr_invariant.proofs.ToldLemmas.{holds_told}
use Rattle.lxr_placing.specs.Placing.{IsServed, IsServedFrom, served_abstract_state}
use Rattle.lxr_placing.proofs.ServedLemmas.{KeepsOthers, served_keeps}
use Rattle.lxr_mutator.specs.declared.phases.Waiting.{Waiting}
use Rattle.lxr_mutator.specs.Mutating.{Mutating, next_name, op_now, waiting_by}
use Rattle.lxr_serve.specs.Answering.{ServesNew}
use Rattle.lxr_serve.proofs.MutatorLemmas.{waits_for}

-- what holds between epochs doesn't read the tally
quiescent_tallied : (s : Space) (g : AbstractState) (tally : Tally) → IsQuiescent s g → IsQuiescent (record s { tally = tally }) g
quiescent_tallied s g tally between = record {
  safepoint = record {
    holds = holds_told s g.moment g.at s.report tally s.pauses between.safepoint.holds.room.report between.safepoint.holds;
    numbers = record { pauses = between.safepoint.numbers.pauses; trace = between.safepoint.numbers.trace; report = between.safepoint.numbers.report };
    traced = between.safepoint.traced;
  };
  unwritten = between.unwritten;
  undecremented = between.undecremented;
  lines = between.lines;
  outs = between.outs;
  states = between.states;
}

-- nothing but the words, what registers hold, the rest and the number of `new`s has changed
abbrev pub KeepsAllElse : Space → Space → Type 0
KeepsAllElse before after = after ≡ record before {
  words = after.words;
  registers = record before.registers { items = after.registers.items };
  rest_next = after.rest_next;
  rest_end = after.rest_end;
  tally = record before.tally { news = after.tally.news };
}

-- so it is over two steps
pub keeps_on : (before middle after : Space) → KeepsAllElse before middle → KeepsAllElse middle after → KeepsAllElse before after
keeps_on before middle after first second =
    second ∙ ap (λ (s : Space). record s {
      words = after.words;
      registers = record s.registers { items = after.registers.items };
      rest_next = after.rest_next;
      rest_end = after.rest_end;
      tally = record s.tally { news = after.tally.news };
    }) first

-- so it is where a `new` was served, and one more is counted
pub serves_keeps : (before after : Space) (m m' : Mutating) (w : Waiting) → ServesNew before after m m' w → KeepsAllElse before after
serves_keeps before after m m' w makes =
    let others : KeepsOthers before makes.middle = served_keeps before makes.middle (next_name m) w.dest w.shape makes.place makes.served in
    subst (KeepsAllElse before) (sym makes.counted) (ap (λ (s : Space). record s { tally = record s.tally { news = makes.middle.tally.news + 1 } }) others)

pub serves_one : (before after : Space) (m m' : Mutating) (w : Waiting) → ServesNew before after m m' w → after.tally.news ≡ before.tally.news + 1
serves_one before after m m' w makes =
    let others : KeepsOthers before makes.middle = served_keeps before makes.middle (next_name m) w.dest w.shape makes.place makes.served in
    ap (λ (s : Space). s.tally.news) makes.counted ∙ ap (λ (s : Space). s.tally.news + 1) others

-- What a served `new` comes to: its reply is that of a step of the model, and the space is between epochs for the state after it.
pub record IsNewServed (before after : Space) (g : AbstractState) (name : Name) (dest : ℕ) (shape : Shape) (place : Place) : Type 0 where
  pub replied : IsReply g.moment.state name.thread (op.New dest shape) (reply.New name)
  pub between : IsQuiescent after (served_abstract_state g name dest shape place)
  pub others : KeepsAllElse before after
  pub news : after.tally.news ≡ before.tally.news + 1

-- a space between epochs stands for an abstract state in which a name is the next one of its thread
pub record IsServableBetween (s : Space) (g : AbstractState) (name : Name) : Type 0 where
  pub between : IsQuiescent s g
  pub next : name ≡ name_of_next g.moment.state.graph name.thread

-- so it is whatever state the space stands for, where the mutator names its object as the state does
pub new_served : (before after : Space) (m m' : Mutating) (w : Waiting) (dest : ℕ) (shape : Shape) (g : AbstractState) → IsServableBetween before g (next_name m) → waiting_by m m.end ≡ Some w → op_now m ≡ op.New dest shape
    → (makes : ServesNew before after m m' w) → IsNewServed before after g (next_name m) dest shape makes.place
new_served before after m m' w dest shape g may waits is makes =
    let mid : Space = makes.middle in
    let w_is : w ≡ record { dest = dest; shape = shape } = waits_for m w dest shape waits is in
    let made : IsServed before mid (next_name m) dest shape makes.place = subst (λ (x : Waiting). IsServed before mid (next_name m) x.dest x.shape makes.place) w_is makes.served in
    let from : IsServedFrom mid g (next_name m) dest shape makes.place = made.abstract_state g (record { rests = quiescent_rests before g may.between; next = may.next }) in
    let to : AbstractState = served_abstract_state g (next_name m) dest shape makes.place in record {
      replied = from.reply;
      between = subst (λ (s : Space). IsQuiescent s to) (sym makes.counted) (quiescent_tallied mid to (record mid.tally { news = mid.tally.news + 1 }) (rests_quiescent mid to from.rests may.between.unwritten));
      others = serves_keeps before after m m' w makes;
      news = serves_one before after m m' w makes;
    }
