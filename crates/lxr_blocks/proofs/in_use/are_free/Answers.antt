use Rattle.std.proofs.Common.{◌≡◌, ap, sym, ◌∙◌, inl, inr, arith}
use Rattle.std.specs.Int.Bits.{bit_or}
use Rattle.std.proofs.lemmas.Bool.Decides.{eqb_tells}
use Rattle.std.proofs.lemmas.Nat.{le_or_l, le_or_r}
use Rattle.lxr_image.specs.Spaces.{tables_of}
use Rattle.lxr_blocks.specs.States.{state_of}
use Rattle.lxr_blocks.proofs.SweptLemmas.{zero_of_free}
use Rattle.lxr_blocks.proofs.in_use.are_free.Goals as goal

pub returns-then-states-ne0 : goal.returns-then-states-ne0
returns-then-states-ne0 c = (
  (λ no. absurd (cc no)),
  (λ all. absurd (c.if-states-ne0.true (c.state_word-states.ensures ∙ zero_of_free ((tables_of c.args.space.now).states c.args.first) (all c.args.first (omega arith) (omega arith))))),
)

pub loop-block-init : goal.loop-block-init
loop-block-init c = (
  (λ none b from within. let same : b ≡ c.args.first = omega (arith, from, within) in ap (λ k. state_of ((tables_of c.args.space.now).states k)) same ∙ ap state_of (sym c.state_word-states.ensures ∙ none)),
  (λ _. let zero = c.if-states-ne0.false in omega (arith, zero)),
)

pub loop-block-preserved : goal.loop-block-preserved
loop-block-preserved c =
    let t = tables_of c.args.space.now in
    let states = c.loop-block.states in
    let word = c.state_word-states-in-loop-block.result in
    let before = c.loop-block.invariant in
    let left = le_or_l states word in
    let right = le_or_r states word in (
      (λ none b from within. elim (eqb_tells b c.loop-block.block) [
        | inl e ↦ ap state_of (ap t.states e.1 ∙ sym c.state_word-states-in-loop-block.ensures ∙ (let zero : word ≡ 0 = omega (arith, right, none) in zero))
        | inr e ↦ let other = e.1 in before.0 (omega (arith, left, none)) b from (omega (arith, within, other))
      ]),
      (λ all.
          let old : states ≡ 0 = before.1 (λ b from within. all b from (omega (arith, within))) in
          let new : word ≡ 0 = c.state_word-states-in-loop-block.ensures ∙ zero_of_free (t.states c.loop-block.block) (all c.loop-block.block (omega arith) (omega arith)) in
          ap (λ x. bit_or x word) old ∙ ap (bit_or 0) new),
    )
