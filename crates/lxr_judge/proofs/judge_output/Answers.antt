use Rattle.std.proofs.Common.{ℕ, ◌≡◌, ◌+◌, inl, inr, arith, ap, sym, subst, refl, ◌∙◌, List, [], Some, length}
use Rattle.std.specs.Prelude.{slice_get}
use Rattle.lxr_graph.specs.declared.Item as ordered
use Rattle.lxr_judge_output.specs.Gathering.{gathered_in, texts_in}
use Rattle.lxr_judge.specs.Evidence.{Evidence, evidence_of}
use Rattle.lxr_judge.specs.Verdicts.{IsGood, FailsFirst, LacksEnd}
use Rattle.lxr_judge.proofs.TryLemmas.{passed_more, fails_here, good_here, lacks_here}
use Rattle.lxr_judge.proofs.judge_output.Goals as goal

pub loop-at-init : goal.loop-at-init
loop-at-init c = record {
  history = [];
  keeps = c.in_ok-judging.ensures c.new-sources.result (ap (λ (e : Evidence). e.terms.threads) c.new-sources.ensures ∙ sym c.requires.threads);
  pass = tt;
  count = refl;
}

pub loop-at-preserved : goal.loop-at-preserved
loop-at-preserved c =
    let at = subst (λ (items : List ordered.Item). slice_get items c.loop-at.at ≡ Some c.at.result) (sym (ap (λ (e : Evidence). e.order) c.new-sources.ensures)) c.at.ensures in
    passed_more c.new-sources.result c.loop-at.judging c.take.new.self c.loop-at.at c.at.result c.in_ok-passes.passes c.if-not-passes.false at c.loop-at.invariant c.in_ok-passes.ensures

pub returns-then-not-passes : goal.returns-then-not-passes
returns-then-not-passes c =
    let at = subst (λ (items : List ordered.Item). slice_get items c.loop-at.at ≡ Some c.at.result) (sym (ap (λ (e : Evidence). e.order) c.new-sources.ensures)) c.at.ensures in
    inl (subst (λ (e : Evidence). FailsFirst e (c.loop-at.at + 1)) c.new-sources.ensures
    (fails_here c.new-sources.result c.loop-at.judging c.take.new.self c.loop-at.at c.at.result c.in_ok-passes.passes c.if-not-passes.true at c.loop-at.invariant c.in_ok-passes.ensures))

pub returns-then-is_whole : goal.returns-then-is_whole
returns-then-is_whole c =
    let order = ap (λ (e : Evidence). length e.order) c.new-sources.ensures in
    let count = c.len-at-end.ensures in
    let least = c.loop-at-test.false in
    let most = c.loop-at.auto.at-end in
    subst IsGood c.new-sources.ensures (good_here c.new-sources.result c.loop-at.judging c.loop-at.at c.is_whole.result (omega (arith, order, count, least, most)) c.if-is_whole.true c.loop-at.invariant c.is_whole.ensures)

pub returns : goal.returns
returns c =
    let order = ap (λ (e : Evidence). length e.order) c.new-sources.ensures in
    let count = c.len-at-end.ensures in
    let least = c.loop-at-test.false in
    let most = c.loop-at.auto.at-end in
    let E = evidence_of c.args.case.now c.args.terms.now (texts_in c.args.case.now.output.items (gathered_in c.args.output.now)) in
    let lacks = lacks_here c.new-sources.result c.loop-at.judging c.loop-at.at c.is_whole.result (omega (arith, order, count, least, most)) c.if-is_whole.false c.loop-at.invariant c.is_whole.ensures in
    inr (subst (λ (n : ℕ). LacksEnd E (n + 1)) (sym c.len.ensures) (subst (λ (e : Evidence). LacksEnd e (length e.order + 1)) c.new-sources.ensures lacks))
