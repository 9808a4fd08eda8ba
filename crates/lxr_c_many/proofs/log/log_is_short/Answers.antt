use Rattle.std.proofs.Common.{◌≡◌, ◌+◌, ◌*◌, ◌≤◌, ◌∙◌, ap, sym, arith, length, true, false}
use mathlib.Core.Logic.{∥∥₁_elim}
use Rattle.std.specs.Prelude.{IsTrue}
use Rattle.std.specs.Coded.{le_prop}
use Rattle.lxr_graph.specs.State.{register_at}
use Rattle.lxr_image.specs.declared.space.Space.{Space}
use Rattle.lxr_large_model.specs.History.{large_moment}
use Rattle.lxr_heap.proofs.WantingLemmas.{log_room}
use Rattle.lxr_c_many.specs.Recording.{to_record}
use Rattle.lxr_c_many.proofs.LogLemmas.{to_record_few}
use Rattle.lxr_c_many.proofs.StoringLemmas.{log_fits, log_long}
use Rattle.lxr_c_many.proofs.log.log_is_short.Goals as goal

pub overflow_add-logged : goal.overflow_add-logged
overflow_add-logged c =
    let long : length c.args.heap.now.space.logged.items ≤ 65536 =
    ∥∥₁_elim c.requires.there le_prop (λ of. let few = log_fits c.args.heap.now of.0 of.1 in let same = log_long c.args.heap.now of.0 of.1 in let most = of.1.stands.0.safepoint.holds.space.limits.log.1 in omega (arith, few, same, most)) in
    let logged = c.len-logged.ensures ∙ ap (λ (s : Space). length s.logged.items) c.space-space.ensures in
    let count = c.from.ensures in
    let few = c.requires.few in
    omega (arith, long, logged, count, few)

pub returns-then-logged-from : goal.returns-then-logged-from
returns-then-logged-from c = λ h is has.
    let x = c.args.heap.now in
    let few = to_record_few (large_moment h) (register_at (large_moment h).state 1 c.args.base) c.args.first c.args.count in
    let most : c.most_logged.result ≡ x.space.limits.log = c.most_logged.ensures ∙ ap (λ (s : Space). s.limits.threads * s.limits.log) c.space-space.ensures ∙ (log_room x h is).0 in
    let logged : c.len-logged.result ≡ length (large_moment h).written = c.len-logged.ensures ∙ ap (λ (s : Space). length s.logged.items) c.space-space.ensures ∙ log_long x h is in
    let count = c.from.ensures in
    (λ no. absurd (cc), λ short. absurd (omega (arith, few, most, logged, count, short)))
