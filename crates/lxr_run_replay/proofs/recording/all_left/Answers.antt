use Rattle.std.proofs.Common.{◌≡◌, ℕ, ◌+◌, suc, ◌<◌, List, [], ◌∷◌, ◌++◌, arith, sym, ap, ◌∙◌, get_or, length, take}
use Rattle.std.proofs.Math.Seq.{take-suc}
use Rattle.std.proofs.lemmas.List.{take_all}
use Rattle.lxr_core.specs.declared.actors.AnyActor.{AnyActor}
use Rattle.lxr_run_replay.specs.Recording.{all_left, left_to_place}
use Rattle.lxr_run_replay.proofs.recording.all_left.Goals as goal

-- what actors and one more have left
left_both : (actors : List AnyActor) (a : AnyActor) → all_left (actors ++ a ∷ []) ≡ all_left actors + left_to_place a
left_both [] a = omega arith
left_both (x ∷ actors) a = let rest = left_both actors a in omega (arith, rest)

left_more : (actors : List AnyActor) (n count one : ℕ) (a : AnyActor) → n < length actors → a ≡ get_or actors n a → count ≡ all_left (take n actors) → one ≡ left_to_place a → count + one ≡ all_left (take (n + 1) actors)
left_more actors n count one a below is counted of_one =
    let next : n + 1 ≡ suc n = omega arith in
    let more : take (n + 1) actors ≡ take n actors ++ a ∷ [] = ap (λ (k : ℕ). take k actors) next ∙ (take-suc actors n a below ∙ ap (λ (b : AnyActor). take n actors ++ b ∷ []) (sym is)) in
    let all : all_left (take (n + 1) actors) ≡ all_left (take n actors) + left_to_place a = ap all_left more ∙ left_both (take n actors) a in
    omega (arith, all, counted, of_one)

pub loop-number-preserved : goal.loop-number-preserved
loop-number-preserved c = record {
  left = left_more c.args.actors.now c.loop-number.number c.loop-number.count c.left_to_place-count.result c.index-actors-number.result c.loop-number-test.true c.index-actors-number.is c.loop-number.invariant.left c.left_to_place-count.ensures.left;
  few = let few = c.loop-number.invariant.few in let one = c.left_to_place-count.ensures.few in omega (arith, few, one);
}

pub returns-clause-left : goal.returns-clause-left
returns-clause-left c =
    let many = c.loop-number.auto.number-end in
    c.loop-number.invariant.left ∙ ap all_left (take_all c.loop-number.number c.args.actors.now (omega (arith, c.loop-number-test.false)))
