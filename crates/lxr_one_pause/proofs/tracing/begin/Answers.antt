use Rattle.std.proofs.Common.{ap, subst, sym, ◌∙◌}
use Rattle.std.specs.Prelude.{Some}
use Rattle.lxr_image.specs.declared.space.Space.{Space}
use Rattle.lxr_image.specs.Settled.{AreCounted}
use Rattle.lxr_image.specs.Spaces.{tables_of}
use Rattle.lxr_one_pause.specs.Tracing.{SetsTrace, drained}
use Rattle.lxr_invariant.proofs.UnusedLemmas.{free_are_free}
use Rattle.lxr_one_pause.proofs.SweepLemmas.{all_counted}
use Rattle.lxr_one_pause.proofs.TracingLemmas.{can_finish, can_trace}
use Rattle.lxr_one_pause.proofs.tracing.begin.Goals as goal

pub finish_decrements-requires : goal.finish_decrements-requires
finish_decrements-requires c = (c.requires.0.moment, c.requires.0.at, can_finish c.args.space.now c.requires.0 c.requires.1.drains)

pub begin_trace-requires : goal.begin_trace-requires
begin_trace-requires c =
    let g = c.requires.0 in
    let can = c.requires.1.drains in
    let f = c.finish_decrements.ensures g.moment g.at (can_finish c.args.space.now g can) in
    (drained g f.0, g.at, can_trace c.args.space.now g can c.finish_decrements.new.space f.0 f.1)

pub settle_lines-requires : goal.settle_lines-requires
settle_lines-requires c =
    let g = c.requires.0 in
    let can = c.requires.1.drains in
    let f = c.finish_decrements.ensures g.moment g.at (can_finish c.args.space.now g can) in
    let begins = c.begin_trace.ensures (drained g f.0) g.at (can_trace c.args.space.now g can c.finish_decrements.new.space f.0 f.1) in
    record {
      space = begins.holds.space;
      free = free_are_free c.begin_trace.new.space (drained g f.0) g.at begins.holds;
      counted = subst AreCounted (sym begins.tables) (all_counted (tables_of c.finish_decrements.new.space) (drained g f.0) g.at f.1.holds.bits f.1.undecremented);
    }

pub returns : goal.returns
returns c g can =
    let f = c.finish_decrements.ensures g.moment g.at (can_finish c.args.space.now g can.drains) in
    let b = c.begin_trace.ensures (drained g f.0) g.at (can_trace c.args.space.now g can.drains c.finish_decrements.new.space f.0 f.1) in
    record {
      gone = f.0;
      found = c.finish_decrements.new.space;
      begun = c.begin_trace.new.space;
      swept = c.settle_lines.new.space;
      chosen = c.choose_blocks.new.space;
      finishes = f.1;
      begins = b;
      sweeps = c.settle_lines.ensures.states;
      chooses = c.choose_blocks.ensures.tables;
      sets = subst (λ n. SetsTrace c.choose_blocks.new.space c.set_trace.new.space (Some n))
          (ap (λ (x : Space). x.report.number) c.choose_blocks.ensures.tables.rest
          ∙ ap (λ (x : Space). x.report.number) c.settle_lines.ensures.states.rest
          ∙ ap (λ (x : Space). x.report.number) b.space
          ∙ ap (λ (x : Space). x.report.number) f.1.space)
          c.set_trace.ensures;
    }
