-- What becomes of a mutator that has placed an object.
use Rattle.std.proofs.Common.{◌≡◌, ◌≤◌, false, arith, refl, sym, subst, inr}
use Rattle.lxr_layout.specs.declared.TheConstants.{MOST_GRANULES}
use Rattle.lxr_layout.specs.declared.Place.{Place}
use Rattle.lxr_layout.specs.declared.Run.{Run}
use Rattle.lxr_layout.specs.declared.Shape.{Shape}
use Rattle.lxr_layout.specs.Places.{IsPlace}
use Rattle.lxr_alloc.specs.declared.Span.{Span}
use Rattle.lxr_alloc.specs.declared.Spans.{Spans}
use Rattle.lxr_alloc.specs.Spans.{FitsSpan, IsInBlock, front_of, run_span, taken_from}
use Rattle.lxr_mutator.specs.declared.phases.MutatorPhase.TheVariants as phase
use Rattle.lxr_mutator.specs.Mutating.{Mutating, rests_in}
use Rattle.lxr_mutator.specs.Steps.{in_current}
use Rattle.lxr_mutator.specs.Mutators.{IsMutator}

-- the front of a span with room that ends in the heap is a place
pub front_is_place : (span : Span) (shape : Shape) → FitsSpan span shape → span.end ≤ MOST_GRANULES → IsPlace (front_of span)
front_is_place span shape room within = omega arith

-- a run ends in the heap
pub run_in_heap : (r : Run) → IsInBlock r → (run_span r).end ≤ MOST_GRANULES
run_in_heap r h = omega arith

-- the spans and the place are those of an object at the front of this span, which is current
pub run_filled : (m : Mutating) (taken after : Spans) (shape : Shape) (span : Span) (place : Place)
    → taken ≡ record m.spans { current = span }
    → place ≡ front_of taken.current
    → after ≡ record taken { current = taken_from taken.current shape }
    → record m { spans = after; phase = phase.Wiping place 1 } ≡ in_current m shape span
run_filled m taken after shape span place t p a =
    subst (λ (s : Spans). record m { spans = s; phase = phase.Wiping place 1 } ≡ in_current m shape span) (sym a)
    (subst (λ (q : Place). record m { spans = record taken { current = taken_from taken.current shape }; phase = phase.Wiping q 1 } ≡ in_current m shape span) (sym p)
    (subst (λ (s : Spans). record m { spans = record s { current = taken_from s.current shape }; phase = phase.Wiping (front_of s.current) 1 } ≡ in_current m shape span) (sym t) refl))

-- with an object placed, it is a mutator still
pub placed_is_mutator : (m : Mutating) (shape : Shape) (span : Span) → IsMutator m → rests_in m.phase ≡ false → FitsSpan span shape → span.end ≤ MOST_GRANULES → IsMutator (in_current m shape span)
placed_is_mutator m shape span is busy room within = record {
  setup = is.setup;
  registers = is.registers;
  spans = (within, is.spans.1);
  few_replies = is.few_replies;
  replies = inr (let n = is.busy busy in omega arith);
  busy = λ e. is.busy busy;
  waits = is.waits;
  since = λ e. is.since (λ f. let c : rests_in phase.Finished ≡ false = subst (λ p. rests_in p ≡ false) f busy in absurd (cc));
  phase = (front_is_place span shape room within, (omega arith, omega arith));
}
