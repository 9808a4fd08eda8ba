use Rattle.std.proofs.Common.{◌≡◌, ◌<◌, arith, length, refl, subst, ◌∙◌, ap, take}
use Rattle.std.proofs.lemmas.List.{take_all}
use Rattle.std.proofs.lemmas.Option.{slice_get_read}
use Rattle.lxr_text_print.proofs.PageLemmas.{OnErr-always}
use Rattle.lxr_text_stream.specs.Streams.{Appends}
use Rattle.lxr_text_stream.proofs.StreamLemmas.{Appends-nil}
use Rattle.lxr_run_loop.proofs.PrintLemmas.{front_printed, one_more_printed, text_in}
use Rattle.lxr_run_loop.proofs.printing.print_threads.Goals as goal

pub loop-number-init : goal.loop-number-init
loop-number-init g c = record { text = Appends-nil (g.O.Sink.written c.args.output.now); faults = omega arith }

pub print_actor-requires : goal.print_actor-requires
print_actor-requires g c =
    let below : c.loop-number.number < length c.args.actors.now = omega arith in
    c.requires c.loop-number.number c.index-actors-number.result
    (slice_get_read c.args.actors.now (length c.args.actors.now) c.loop-number.number c.index-actors-number.result refl below c.index-actors-number.is)

pub returns-in_err-print_actor-clause-err : goal.returns-in_err-print_actor-clause-err
returns-in_err-print_actor-clause-err g c =
    let below : c.loop-number.number < length c.args.actors.now = omega arith in
    OnErr-always c.from_residual.result
    (front_printed (g.O.Sink.written c.args.output.now) (g.O.Sink.written c.loop-number.output) (g.O.Sink.written c.print_actor.new.output) c.args.actors.now c.loop-number.number
    c.index-actors-number.result below c.index-actors-number.is c.loop-number.invariant.text c.in_err-print_actor.ensures.err)

pub loop-number-preserved : goal.loop-number-preserved
loop-number-preserved g c =
    let below : c.loop-number.number < length c.args.actors.now = omega arith in
    record {
      text = one_more_printed (g.O.Sink.written c.args.output.now) (g.O.Sink.written c.loop-number.output) (g.O.Sink.written c.print_actor.new.output) c.args.actors.now c.loop-number.number
          c.index-actors-number.result below c.index-actors-number.is c.loop-number.invariant.text c.in_ok-print_actor.ensures.ok;
      faults = let before = c.loop-number.invariant.faults in let after = c.print_actor.ensures.faults in omega arith;
    }

pub returns-clause-ok : goal.returns-clause-ok
returns-clause-ok g c =
    let all : c.loop-number.number ≡ length c.args.actors.now = omega arith in
    subst (λ z. Appends (g.O.Sink.written c.args.output.now) (g.O.Sink.written c.loop-number.output) (text_in z)) (ap (λ n. take n c.args.actors.now) all ∙ take_all (length c.args.actors.now) c.args.actors.now (omega arith))
    c.loop-number.invariant.text
