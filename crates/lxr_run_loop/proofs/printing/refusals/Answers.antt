use Rattle.std.proofs.Common.{◌≡◌, ◌+◌, ◌<◌, ◌∙◌, ap, arith, get_or, length, refl, take}
use Rattle.std.specs.Prelude.{sum_by}
use Rattle.std.proofs.lemmas.List.{take_all}
use Rattle.std.proofs.lemmas.List.Sums.{sum_by-take-le, sum_by_more}
use Rattle.std.proofs.lemmas.Option.{slice_get_read}
use Rattle.lxr_run_loop.specs.Summing.{refusals_by}
use Rattle.lxr_run_loop.proofs.SummingLemmas.{none_counted}
use Rattle.lxr_run_loop.proofs.printing.refusals.Goals as goal

pub loop-number-init : goal.loop-number-init
loop-number-init c = none_counted refusals_by c.args.actors.now

pub refusals_by-count-requires : goal.refusals_by-count-requires
refusals_by-count-requires c =
    let below : c.loop-number.number < length c.args.actors.now = omega arith in
    c.requires.kept c.loop-number.number c.index-actors-number.result
    (slice_get_read c.args.actors.now (length c.args.actors.now) c.loop-number.number c.index-actors-number.result refl below c.index-actors-number.is)

pub overflow_add-count : goal.overflow_add-count
overflow_add-count c =
    let below : c.loop-number.number < length c.args.actors.now = omega arith in
    let so_far = c.loop-number.invariant in
    let more = sum_by_more refusals_by c.args.actors.now c.loop-number.number c.index-actors-number.result below in
    let within = sum_by-take-le refusals_by c.args.actors.now (c.loop-number.number + 1) in
    let here : c.refusals_by-count.result ≡ refusals_by (get_or c.args.actors.now c.loop-number.number c.index-actors-number.result) = c.refusals_by-count.ensures ∙ ap refusals_by c.index-actors-number.is in
    let fits = c.requires.fits in
    omega arith

pub loop-number-preserved : goal.loop-number-preserved
loop-number-preserved c =
    let below : c.loop-number.number < length c.args.actors.now = omega arith in
    let so_far = c.loop-number.invariant in
    let more = sum_by_more refusals_by c.args.actors.now c.loop-number.number c.index-actors-number.result below in
    let here : c.refusals_by-count.result ≡ refusals_by (get_or c.args.actors.now c.loop-number.number c.index-actors-number.result) = c.refusals_by-count.ensures ∙ ap refusals_by c.index-actors-number.is in
    omega arith

pub returns : goal.returns
returns c =
    let all : c.loop-number.number ≡ length c.args.actors.now = omega arith in
    c.loop-number.invariant ∙ ap (λ n. sum_by refusals_by (take n c.args.actors.now)) all ∙ ap (sum_by refusals_by) (take_all (length c.args.actors.now) c.args.actors.now (omega arith))
