use Rattle.std.proofs.Common.{◌≡◌, ℕ, ◌+◌, suc, ◌<◌, List, [], ◌∷◌, ◌++◌, arith, sym, ap, ◌∙◌, get_or, length, take, length-append}
use Rattle.std.proofs.Math.Seq.{take-suc}
use Rattle.lxr_core.specs.declared.actors.AnyActor.{AnyActor}
use Rattle.lxr_core.specs.Actors.{mutators_in}
use Rattle.lxr_core.proofs.OrderLemmas.{mutators_few, mutators_of_both}
use Rattle.lxr_run_replay.proofs.replaying.mutators_among.Goals as goal

-- the mutators of one actor more
counted_more : (actors : List AnyActor) (n count one : ℕ) (a : AnyActor) → n < length actors → a ≡ get_or actors n a → count ≡ length (mutators_in (take n actors)) → one ≡ length (mutators_in (a ∷ []))
    → count + one ≡ length (mutators_in (take (n + 1) actors))
counted_more actors n count one a below is counted of_one =
    let next : n + 1 ≡ suc n = omega arith in
    let both : length (mutators_in (take n actors ++ a ∷ [])) ≡ length (mutators_in (take n actors)) + length (mutators_in (a ∷ [])) =
    ap length (mutators_of_both (take n actors) (a ∷ [])) ∙ length-append (mutators_in (take n actors)) (mutators_in (a ∷ [])) in
    let more : take (n + 1) actors ≡ take n actors ++ a ∷ [] = ap (λ (k : ℕ). take k actors) next ∙ (take-suc actors n a below ∙ ap (λ (b : AnyActor). take n actors ++ b ∷ []) (sym is)) in
    let all : length (mutators_in (take (n + 1) actors)) ≡ length (mutators_in (take n actors ++ a ∷ [])) = ap (λ (z : List AnyActor). length (mutators_in z)) more in
    omega arith

pub overflow_add-count : goal.overflow_add-count
overflow_add-count c =
    let few = mutators_few c.args.actors.now (c.loop-number.number + 1) in
    let most = c.requires in
    let more = counted_more c.args.actors.now c.loop-number.number c.loop-number.count c.count_mutator-count.result c.index-actors-number.result c.loop-number-test.true c.index-actors-number.is c.loop-number.invariant c.count_mutator-count.ensures in
    omega arith

pub loop-number-preserved : goal.loop-number-preserved
loop-number-preserved c =
    counted_more c.args.actors.now c.loop-number.number c.loop-number.count c.count_mutator-count.result c.index-actors-number.result c.loop-number-test.true c.index-actors-number.is c.loop-number.invariant c.count_mutator-count.ensures
