use Rattle.std.proofs.Common.{◌≡◌, ◌+◌, ◌-◌, ◌*◌, ◌^◌, ◌<◌, ◌∙◌, ℕ, ap, arith, inl, inr, subst}
use Rattle.std.specs.Prelude.{◌↔◌, IsBitSet, slice_index}
use Rattle.std.proofs.lemmas.Bool.Decides.{leb_tells}
use Rattle.lxr_tables.specs.declared.lanes.TheConstants.{LANES}
use Rattle.lxr_tables.proofs.BitLemmas.{TellsOf}
use Rattle.lxr_tables.proofs.LanesLemmas.{more_lanes}
use Rattle.lxr_tables.proofs.lanes.zero_words.Goals as goal

pub loop-group-preserved : goal.loop-group-preserved
loop-group-preserved g c =
    let words = g.W.Words.words_of c.args.words.now in
    let first = c.args.first in
    let at = LANES * c.loop-group.group in
    let before = c.loop-group.invariant in
    let test = c.loop-group-test.true in
    let told = c.zeros_of.ensures in
    let place : (i : ℕ) → c.word_at.result + i ≡ first + (at + i) = λ i. let is = c.word_at.ensures in omega (arith, is) in
    let lanes : TellsOf (λ i. slice_index words (first + (at + i)) ≡ 0) LANES c.zeros_of.result = λ i within.
    subst (λ x. IsBitSet c.zeros_of.result i ↔ (x ≡ 0)) (c.lanes_at.ensures.words i within ∙ ap (slice_index words) (place i)) (told.told i within) in
    let more = more_lanes (λ i. slice_index words (first + i) ≡ 0) c.loop-group.group c.loop-group.zeros c.zeros_of.result (omega (arith, test)) before.fit told.within before.told lanes in
    record {
      fit = more.0;
      told = more.1;
      range = λ i within. elim (leb_tells at i) [
        | inl behind ↦
            let from = behind.1 in
            let here : c.word_at.result + (i - at) ≡ first + i = let is = c.word_at.ensures in omega (arith, is, from) in
            subst (λ k. slice_index words k < 2 ^ 64) here (c.lanes_at.ensures.range (i - at) (omega (arith, within, from)))
        | inr ahead ↦ before.range i ahead.1
      ];
    }
