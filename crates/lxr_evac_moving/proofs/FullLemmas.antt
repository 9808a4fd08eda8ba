-- A space that had no room for an object has none while lines only become fewer: what an object that is placed leaves of its lines is less than
-- a line, and where no line is open, nothing new is left.
use Rattle.std.proofs.Common.{◌≡◌, ◌+◌, ◌*◌, ◌<◌, sym, ap, subst, inl, inr, arith}
use Rattle.std.proofs.lemmas.Bool.Decides.{leb_tells}
use Rattle.lxr_layout.specs.declared.Name.{Name}
use Rattle.lxr_layout.specs.declared.Place.{Place}
use Rattle.lxr_layout.specs.declared.Shape.{Shape}
use Rattle.lxr_layout.specs.declared.TheConstants.{GRANULES_IN_LINE}
use Rattle.lxr_layout.specs.declared.runs.Run.{Run}
use Rattle.lxr_layout.specs.Objects.{FitsShape, line_count}
use Rattle.lxr_image.specs.declared.space.Space.{Space}
use Rattle.lxr_image.specs.Spaces.{tables_of}
use Rattle.lxr_blocks.specs.Placing.{IsFull, IsPlaced, IsRest, first_granule, granule_count}
use Rattle.lxr_blocks.specs.States.{IsOpenRun}
use Rattle.lxr_pause_promote.specs.Copying.{Evacuates}
use Rattle.lxr_pause_promote.proofs.FewerLemmas.{evacuated_fewer, placed_fewer, was_open_run}

-- where the rest is the same
pub still_full : (a b : Space) (w : Shape) → b.rest_next ≡ a.rest_next → b.rest_end ≡ a.rest_end → ((q : Run) → IsOpenRun (tables_of b) b.limits.blocks q → IsOpenRun (tables_of a) a.limits.blocks q) → IsFull a w → IsFull b w
still_full a b w next end opened full = let short = full.rest in record { rest = omega (arith, short, next, end); lines = λ q run long. full.lines q (opened q run) long }

-- where an object is placed
pub placed_full : (a b : Space) (n : Name) (s w : Shape) (p : Place) → IsRest a → FitsShape s → IsPlaced a b n s p → IsFull a w → IsFull b w
placed_full a b n s w p rest fits placed full = record {
  rest = elim placed [
    | inl in_rest ↦
        let next : b.rest_next ≡ a.rest_next + granule_count s = ap (λ (x : Space). x.rest_next) in_rest.changes.rest in
        let end : b.rest_end ≡ a.rest_end = ap (λ (x : Space). x.rest_end) in_rest.changes.rest in
        let short = full.rest in
        omega (arith, next, end, short)
    | inr on ↦
        let r = on.0 in
        let next : b.rest_next ≡ first_granule r + granule_count s = ap (λ (x : Space). x.rest_next) on.1.changes.rest in
        let end : b.rest_end ≡ first_granule r + GRANULES_IN_LINE * r.lines = ap (λ (x : Space). x.rest_end) on.1.changes.rest in
        let many = on.1.run.lines_are in
        elim (leb_tells (line_count w) r.lines) [
          | inl long ↦ absurd (full.lines r on.1.run.run long.1)
          | inr short ↦ let few = short.1 in omega (arith, next, end, many, few)
        ]
  ];
  lines = λ q run long. full.lines q (was_open_run a b q (placed_fewer a b n s p rest fits placed) run) long;
}

-- where one is copied
pub copied_full : (a b : Space) (p q : Place) (n : Name) (s w : Shape) → IsRest a → FitsShape s → Evacuates a b p q n s → IsFull a w → IsFull b w
copied_full a b p q n s w rest fits evacuates full =
    let middle = placed_full a evacuates.middle n s w q rest fits evacuates.placed full in
    record {
      rest = subst (λ (x : Space). x.rest_end < x.rest_next + granule_count w) (sym evacuates.turns.rest) middle.rest;
      lines = λ r run long. full.lines r (was_open_run a b r (evacuated_fewer a b p q n s rest fits evacuates) run) long;
    }
