use Rattle.std.proofs.Common.{◌+◌, ◌∙◌, false, refl, inl, inr, arith}
use Rattle.std.proofs.lemmas.Bool.{iff_false}
use mathlib.Core.Logic.{∥∥₁_elim, ∥∥₁_prop}
use Rattle.lxr_c_heap.specs.declared.host.TheConstants.{ENDS}
use Rattle.lxr_c_heap.specs.Hosting.{behind_pause, registers_in}
use Rattle.lxr_c_heap.proofs.PacingLemmas.{paused_host}
use Rattle.lxr_c_heap.proofs.RegisterLemmas.{known, paused_keeps, settled_keeps}
use Rattle.lxr_c_heap.proofs.RoomLemmas.{paused_room, settled_holds, weaker_room}
use Rattle.lxr_c_many.proofs.LogLemmas.{long_may, paused_may, references_few, settled_references}
use Rattle.lxr_c_many.proofs.log.pause_for_stores.Goals as goal

pub settle-requires-clause-ends : goal.settle-requires-clause-ends
settle-requires-clause-ends c = record { made = omega arith; pauses = omega arith }

pub log_is_short-requires-clause-there : goal.log_is_short-requires-clause-there
log_is_short-requires-clause-there c = ∥∥₁_elim c.requires.serving.holds ∥∥₁_prop (λ of.
    let (k, settled) = c.settle.ensures.settled of.0 of.1.heap in
    ∣ (k, (settled_holds ENDS c.args.heap.now c.settle.new.self of.0 k of.1 settled).heap, settled_references ENDS c.args.heap.now c.settle.new.self of.0 k c.args.base (c.args.first + c.args.count) settled (c.requires.there of.0 of.1)) ∣₁)

pub returns-then-not-log_is_short-clause-pauses : goal.returns-then-not-log_is_short-clause-pauses
returns-then-not-log_is_short-clause-pauses c = λ h is.
    let (k, settled) = c.settle.ensures.settled h is.heap in
    let holds = settled_holds ENDS c.args.heap.now c.settle.new.self h k is settled in
    let has = settled_references ENDS c.args.heap.now c.settle.new.self h k c.args.base (c.args.first + c.args.count) settled (c.requires.there h is) in
    let long = iff_false (c.log_is_short.ensures k holds.heap has) c.if-not-log_is_short.true in
    record {
      settled = c.settle.new.self;
      settled_history = k;
      settles = settled;
      history = k;
      pauses = inr (long, refl, refl);
      holds = holds;
      ready = long_may c.settle.new.self.heap k c.args.base c.args.first c.args.count long has;
    }

pub returns-then-not-log_is_short-clause-registers : goal.returns-then-not-log_is_short-clause-registers
returns-then-not-log_is_short-clause-registers c =
    let x = c.args.heap.now in
    known x (registers_in c.settle.new.self) (registers_in x) c.requires.serving.holds (λ h is.
    let (k, settled) = c.settle.ensures.settled h is.heap in
    settled_keeps ENDS x c.settle.new.self h k settled)

pub returns-then-not-log_is_short-clause-serving : goal.returns-then-not-log_is_short-clause-serving
returns-then-not-log_is_short-clause-serving c = weaker_room 2 3 c.settle.new.self c.settle.ensures.room (omega arith) (omega arith)

pub pause-requires : goal.pause-requires
pause-requires c = record { number = let few = c.settle.ensures.room.paused in omega (arith, few) }

pub returns-clause-pauses : goal.returns-clause-pauses
returns-clause-pauses c = λ h is.
    let (k, settled) = c.settle.ensures.settled h is.heap in
    let holds = settled_holds ENDS c.args.heap.now c.settle.new.self h k is settled in
    let has = settled_references ENDS c.args.heap.now c.settle.new.self h k c.args.base (c.args.first + c.args.count) settled (c.requires.there h is) in
    let paused = c.pause.ensures k holds.heap in
    record {
      settled = c.settle.new.self;
      settled_history = k;
      settles = settled;
      history = behind_pause c.pause.new.self k;
      pauses = inl ((c.log_is_short.ensures k holds.heap has).0 c.if-not-log_is_short.false, paused, refl);
      holds = paused_host c.settle.new.self c.pause.new.self k false holds paused;
      ready = paused_may c.pause.new.self k c.args.base c.args.first c.args.count paused.heap.holds (references_few c.settle.new.self.heap k holds.heap c.args.base (c.args.first + c.args.count) c.ranges.base.fits has) has;
    }

pub returns-clause-registers : goal.returns-clause-registers
returns-clause-registers c =
    let x = c.args.heap.now in
    known x (registers_in c.pause.new.self) (registers_in x) c.requires.serving.holds (λ h is.
    let (k, settled) = c.settle.ensures.settled h is.heap in
    paused_keeps c.settle.new.self c.pause.new.self k false (c.pause.ensures k (settled_holds ENDS x c.settle.new.self h k is settled).heap) ∙ settled_keeps ENDS x c.settle.new.self h k settled)

pub returns-clause-serving : goal.returns-clause-serving
returns-clause-serving c = weaker_room 2 2 c.pause.new.self (paused_room 2 2 c.settle.new.self c.pause.new.self false c.settle.ensures.room c.pause.ensures) (omega arith) (omega arith)
