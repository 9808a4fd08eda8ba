use Rattle.std.proofs.Common.{◌≡◌, ◌∙◌, ap, false, inl, subst, sym}
use Rattle.lxr_layout.specs.Objects.{word_count}
use Rattle.lxr_alloc.specs.declared.Spans.{Spans}
use Rattle.lxr_alloc.specs.Spans.{FitsSpan, run_span}
use Rattle.lxr_mutator.specs.Mutating.{Mutating, rests_in}
use Rattle.lxr_mutator.specs.Steps.{in_current, shape_now}
use Rattle.lxr_mutator.specs.Mutators.{IsMutator}
use Rattle.lxr_mutator.specs.Seen.{seen}
use Rattle.lxr_mutator.proofs.RunLemmas.{one_line_fits, run_in_block}
use Rattle.lxr_mutator.proofs.PlacedLemmas.{placed_is_mutator, run_filled, run_in_heap}
use Rattle.lxr_mutator.proofs.mutator.Mutator.place_in_run.Goals as goal

pub take_run-requires : goal.take_run-requires
take_run-requires c = run_in_block c.args.run c.requires.run

pub place_drawn-place-requires-clause-fits : goal.place_drawn-place-requires-clause-fits
place_drawn-place-requires-clause-fits c =
    inl (c.take_run.ensures.fits c.shape-shape.result
    (one_line_fits c.args.run c.shape-shape.result (shape_now c.args.self.now) c.requires.run c.shape-shape.ensures.shape c.requires.needs.0))

pub invariant_of-self : goal.invariant_of-self
invariant_of-self c =
    let m = seen c.self.inside in
    let room = c.take_run.ensures.fits c.shape-shape.result
    (one_line_fits c.args.run c.shape-shape.result (shape_now c.args.self.now) c.requires.run c.shape-shape.ensures.shape c.requires.needs.0) in
    let span = run_span c.args.run in
    let has : FitsSpan span c.shape-shape.result = subst (λ (s : Spans). FitsSpan s.current c.shape-shape.result) c.take_run.ensures.run room in
    let at = c.place_drawn-place.ensures.current room in
    let busy = subst (λ (x : Mutating). rests_in x.phase ≡ false) (sym c.self.view_is) c.requires.turn in
    record {
      sound = subst IsMutator (sym (run_filled m c.take_run.new.self c.place_drawn-place.new.spans c.shape-shape.result span c.place_drawn-place.result c.take_run.ensures.run at.0 at.1))
          (placed_is_mutator m c.shape-shape.result span c.self.invariant.sound busy has (run_in_heap c.args.run (run_in_block c.args.run c.requires.run)));
      few = c.self.invariant.few;
      others = c.self.invariant.others;
      tally = c.self.invariant.tally;
      words = c.words_of-self-inside.ensures ∙ ap word_count c.shape-shape.ensures.shape ∙ ap (λ x. word_count (shape_now x)) (sym c.self.view_is);
    }

pub returns : goal.returns
returns c =
    let m = seen c.self.inside in
    let room = c.take_run.ensures.fits c.shape-shape.result
    (one_line_fits c.args.run c.shape-shape.result (shape_now c.args.self.now) c.requires.run c.shape-shape.ensures.shape c.requires.needs.0) in
    let at = c.place_drawn-place.ensures.current room in
    run_filled m c.take_run.new.self c.place_drawn-place.new.spans c.shape-shape.result (run_span c.args.run) c.place_drawn-place.result c.take_run.ensures.run at.0 at.1
    ∙ ap (λ s. in_current m s (run_span c.args.run)) c.shape-shape.ensures.shape
    ∙ ap (λ x. in_current x (shape_now c.args.self.now) (run_span c.args.run)) c.self.view_is
