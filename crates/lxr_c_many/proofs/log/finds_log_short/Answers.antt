use Rattle.std.proofs.Common.{◌≡◌, ◌+◌, ◌*◌, ◌<◌, ◌≤◌, ◌∙◌, ap, sym, subst, arith, length, nat_lt, ℕ, Some}
use mathlib.Core.Logic.{∥∥₁_elim}
use Rattle.std.specs.Prelude.{slice_get}
use Rattle.std.specs.Coded.{le_prop}
use Rattle.std.proofs.Math.Nat.{ℕ_set}
use Rattle.std.proofs.lemmas.Bool.{lt-ltb, ltb-true}
use Rattle.lxr_layout.specs.declared.Place.{Place}
use Rattle.lxr_layout.specs.declared.TheConstants.{WORDS_IN_BLOCK}
use Rattle.lxr_layout.specs.Places.{field_word}
use Rattle.lxr_graph.specs.State.{register_at}
use Rattle.lxr_image.specs.declared.space.Space.{Space}
use Rattle.lxr_image.specs.Spaces.{IsSpace, tables_of}
use Rattle.lxr_large_model.specs.History.{large_moment}
use Rattle.lxr_heap.proofs.WantingLemmas.{log_room}
use Rattle.lxr_c_many.specs.Recording.{to_record, unlogged_bits}
use Rattle.lxr_c_many.proofs.LogLemmas.{bits_few, counted, lies_inside, registers_many, stands_at_place}
use Rattle.lxr_c_many.proofs.StoringLemmas.{log_fits, log_long}
use Rattle.lxr_c_many.proofs.log.finds_log_short.Goals as goal

pub at-place-requires : goal.at-place-requires
at-place-requires c =
    subst (λ (s : Space). c.from.result < length s.registers.items) (sym c.space-space.ensures)
    (subst (λ i. i < length c.args.heap.now.space.registers.items) (sym c.from.ensures) (∥∥₁_elim c.requires.there le_prop (λ of. registers_many c.args.heap.now of.0 of.1 c.args.base c.ranges.base.fits)))

pub count_to_record-requires-clause-space : goal.count_to_record-requires-clause-space
count_to_record-requires-clause-space c =
    subst IsSpace (sym c.space-space.ensures) (∥∥₁_elim c.requires.there (hlevel (le_prop, ℕ_set)) (λ of. of.1.stands.0.safepoint.holds.space))

-- the place that the base register has
placed : (s x : Space) (i base : ℕ) (place : Place) → s ≡ x → i ≡ base → slice_get s.registers.items i ≡ Some place → slice_get x.registers.items base ≡ Some place
placed s x i base place same is there = subst (λ (z : Space). slice_get z.registers.items base ≡ Some place) same (subst (λ k. slice_get s.registers.items k ≡ Some place) is there)

pub count_to_record-requires-clause-place : goal.count_to_record-requires-clause-place
count_to_record-requires-clause-place c =
    ∥∥₁_elim c.requires.there (hlevel le_prop) (λ of. stands_at_place c.args.heap.now of.0 of.1 c.args.base (c.args.first + c.args.count) of.2 c.at-place.result (placed c.space-space.result.now c.args.heap.now.space c.from.result c.args.base c.at-place.result c.space-space.ensures c.from.ensures c.at-place.ensures))

pub count_to_record-requires-clause-inside : goal.count_to_record-requires-clause-inside
count_to_record-requires-clause-inside c =
    subst (λ (s : Space). field_word c.at-place.result.0 (c.args.first + c.args.count) ≤ WORDS_IN_BLOCK * s.limits.blocks) (sym c.space-space.ensures)
    (∥∥₁_elim c.requires.there le_prop (λ of. lies_inside c.args.heap.now of.0 of.1 c.args.base (c.args.first + c.args.count) of.2 c.at-place.result (placed c.space-space.result.now c.args.heap.now.space c.from.result c.args.base c.at-place.result c.space-space.ensures c.from.ensures c.at-place.ensures)))

pub overflow_add-result : goal.overflow_add-result
overflow_add-result c =
    let long : length c.args.heap.now.space.logged.items ≤ 65536 =
    ∥∥₁_elim c.requires.there le_prop (λ of. let few = log_fits c.args.heap.now of.0 of.1 in let same = log_long c.args.heap.now of.0 of.1 in let most = of.1.stands.0.safepoint.holds.space.limits.log.1 in omega (arith, few, same, most)) in
    let logged = c.len.ensures ∙ ap (λ (s : Space). length s.logged.items) c.space-space.ensures in
    let bits = bits_few (tables_of c.space-space.result.now).unlogged c.at-place.result.0 c.args.first c.args.count in
    let found = c.from-wanted.ensures ∙ c.count_to_record.ensures in
    let few = c.requires.few in
    omega (arith, long, logged, bits, found, few)

pub returns : goal.returns
returns c = λ h is has.
    let x = c.args.heap.now in
    let written = length (large_moment h).written in
    let wanted = to_record (large_moment h) (register_at (large_moment h).state 1 c.args.base) c.args.first c.args.count in
    let most : c.most_logged.result ≡ x.space.limits.log =
    c.most_logged.ensures ∙ ap (λ (s : Space). s.limits.threads * s.limits.log) c.space-space.ensures ∙ (log_room x h is).0 in
    let logged : c.len.result ≡ written = c.len.ensures ∙ ap (λ (s : Space). length s.logged.items) c.space-space.ensures ∙ log_long x h is in
    let found : c.from-wanted.result ≡ wanted =
    c.from-wanted.ensures ∙ c.count_to_record.ensures ∙ ap (λ (s : Space). unlogged_bits (tables_of s).unlogged c.at-place.result.0 c.args.first c.args.count) c.space-space.ensures
    ∙ counted x h is c.args.base (c.args.first + c.args.count) has c.at-place.result (placed c.space-space.result.now c.args.heap.now.space c.from.result c.args.base c.at-place.result c.space-space.ensures c.from.ensures c.at-place.ensures) c.args.first c.args.count (omega arith) in
    let same : nat_lt c.most_logged.result (c.len.result + c.from-wanted.result) ≡ nat_lt x.space.limits.log (written + wanted) =
    ap (λ n. nat_lt n (c.len.result + c.from-wanted.result)) most ∙ ap (λ n. nat_lt x.space.limits.log (n + c.from-wanted.result)) logged ∙ ap (λ n. nat_lt x.space.limits.log (written + n)) found in
    (λ test. ltb-true x.space.limits.log (written + wanted) (sym same ∙ test), λ short. same ∙ lt-ltb x.space.limits.log (written + wanted) short)
