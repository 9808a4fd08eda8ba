use Rattle.std.proofs.Common.{◌≡◌, ℕ, ◌+◌, ◌-◌, ◌∙◌, arith, ap, sym, subst, ◌<◌, IsTrue, nat_lt}
use Rattle.std.proofs.lemmas.Bool.Decides.{nat_tests}
use Rattle.lxr_layout.specs.declared.Name.{Name}
use Rattle.lxr_layout.specs.declared.Shape.{Shape}
use Rattle.lxr_image.specs.Spaces.{tables_of}
use Rattle.lxr_image.specs.Reads.{granule_of}
use Rattle.lxr_pause_decrements.specs.Cascade.{IsHeader}
use Rattle.lxr_invariant.proofs.EntryLemmas.{equal_numbers}
use Rattle.lxr_pause_decrements.proofs.SliceLemmas.{held_means, is_held, last_entry}
use Rattle.lxr_pause_decrements.proofs.slices.is_held_back.Goals as goal

-- the list has an entry before its end
long : (count last : ℕ) → last ≡ count → (count ≡ 0 → ⊥) → count ≡ last - 1 + 1
long count last e some = omega (arith, e, some)

below_of : {a b : ℕ} → IsTrue (nat_lt a b) → a < b
below_of h = grind (arith, nat_tests, h)

of_below : {a b : ℕ} → a < b → IsTrue (nat_lt a b)
of_below h = grind (arith, nat_tests, h)

pub overflow_cast-place : goal.overflow_cast-place
overflow_cast-place c =
    let l = long _ _ c.cursor-last.ensures c.requires.waiting in
    let p = (last_entry c.args.space.now c.requires.stage.0 (c.cursor-last.result - 1) c.requires.stage.1.opening.stage l).1.place in
    let e = c.decrement_at.ensures in
    omega (arith, p.1, e)

pub granule_of-requires : goal.granule_of-requires
granule_of-requires c =
    let l = long _ _ c.cursor-last.ensures c.requires.waiting in
    let p = (last_entry c.args.space.now c.requires.stage.0 (c.cursor-last.result - 1) c.requires.stage.1.opening.stage l).1.place in
    let e = c.decrement_at.ensures in
    omega (arith, p.0, e)

pub count-requires-clause-granule : goal.count-requires-clause-granule
count-requires-clause-granule c =
    let l = long _ _ c.cursor-last.ensures c.requires.waiting in
    let p = (last_entry c.args.space.now c.requires.stage.0 (c.cursor-last.result - 1) c.requires.stage.1.opening.stage l).1.place in
    let e = c.decrement_at.ensures in
    let g = c.granule_of.ensures in
    omega (arith, p.0, p.2, e, g)

pub reference_slots-requires-clause-place : goal.reference_slots-requires-clause-place
reference_slots-requires-clause-place c =
    let l = long _ _ c.cursor-last.ensures c.requires.waiting in
    let p = (last_entry c.args.space.now c.requires.stage.0 (c.cursor-last.result - 1) c.requires.stage.1.opening.stage l).1.place in
    let e = c.decrement_at.ensures in
    (omega (arith, p.0, e), omega (arith, p.1, e))

pub reference_slots-requires-clause-heap : goal.reference_slots-requires-clause-heap
reference_slots-requires-clause-heap c =
    let l = long _ _ c.cursor-last.ensures c.requires.waiting in
    let p = (last_entry c.args.space.now c.requires.stage.0 (c.cursor-last.result - 1) c.requires.stage.1.opening.stage l).1.place in
    let e = c.decrement_at.ensures in
    omega (arith, p.2, e)

pub returns-then-count-eq1 : goal.returns-then-count-eq1
returns-then-count-eq1 c = λ st is.
    let l = long _ _ c.cursor-last.ensures c.requires.waiting in
    let k : ℕ = c.cursor-last.result - 1 in
    let told : (n : Name) (shape : Shape) → IsHeader (tables_of c.args.space.now) ((tables_of c.args.space.now).decs k) n shape → c.reference_slots.result ≡ shape.refs =
    λ n shape h. c.reference_slots.ensures n shape (subst (λ z. IsHeader (tables_of c.args.space.now) z n shape) (sym c.decrement_at.ensures) h) in
    let one : (tables_of c.args.space.now).counts (granule_of ((tables_of c.args.space.now).decs k)) ≡ 1 =
    ap (λ z. (tables_of c.args.space.now).counts (granule_of z)) (sym c.decrement_at.ensures) ∙ ap (tables_of c.args.space.now).counts (sym c.granule_of.ensures) ∙ sym c.count.ensures.value ∙ c.if-count-eq1.true in
    let room = c.list_room.ensures in
    let from = c.from.ensures in (
      λ h.
          let below = below_of h in
          is_held c.args.space.now st k c.reference_slots.result is.opening.stage l told one (omega (arith, below, room, from)),
      λ held.
          let full = (held_means c.args.space.now st k c.reference_slots.result is.opening.stage l told held).1 in
          of_below (omega (arith, full, room, from)),
    )

pub returns-else-count-eq1 : goal.returns-else-count-eq1
returns-else-count-eq1 c = λ st is.
    let k : ℕ = c.cursor-last.result - 1 in
    let apart = c.if-count-eq1.false in (
      λ h. absurd (apart (equal_numbers c.count.result 1 h)),
      λ held.
          let j = held.2 in
          let last = j.last in
          let e = c.cursor-last.ensures in
          let same : held.0 ≡ k = omega (arith, last, e) in
          absurd (apart (c.count.ensures.value ∙ ap (tables_of c.args.space.now).counts c.granule_of.ensures ∙ ap (λ z. (tables_of c.args.space.now).counts (granule_of z)) (c.decrement_at.ensures ∙ ap (tables_of c.args.space.now).decs (sym same) ∙ j.entry) ∙ j.count)),
    )
