use Rattle.std.proofs.Common.{arith, sym, ◌∙◌, ◌+◌, ◌-◌, ◌/◌, get_or, map}
use Rattle.std.proofs.lemmas.List.{length-map}
use Rattle.lxr_large_model.specs.Renewing.{counted_name}
use Rattle.lxr_large_model.proofs.SerialLemmas.{below_is_before, halves_lower, halves_meet, halves_upper, name_at, no_count}
use Rattle.lxr_large_model.proofs.renewing.place_among.Goals as goal

pub loop-from-preserved-then-lt : goal.loop-from-preserved-then-lt
loop-from-preserved-then-lt c =
    let less = c.loop-from-test.true in
    let within = c.loop-from.invariant.within in
    let long = length-map c.args.counts.now counted_name in
    let at = c.loop-from.from + (c.loop-from.end - c.loop-from.from) / 2 in
    let test = sym (below_is_before (get_or c.args.counts.now at no_count).name c.args.name) ∙ sym c.lt.ensures ∙ c.if-lt.true in
    halves_upper (map counted_name c.args.counts.now) c.args.name c.loop-from.from c.loop-from.end at (get_or c.args.counts.now at no_count).name c.requires.order (omega arith) (omega (arith, less))
    (name_at c.args.counts.now at (omega (arith, less, within, long))) test c.loop-from.invariant

pub loop-from-preserved : goal.loop-from-preserved
loop-from-preserved c =
    let less = c.loop-from-test.true in
    let within = c.loop-from.invariant.within in
    let long = length-map c.args.counts.now counted_name in
    let at = c.loop-from.from + (c.loop-from.end - c.loop-from.from) / 2 in
    let test = sym (below_is_before (get_or c.args.counts.now at no_count).name c.args.name) ∙ sym c.lt.ensures ∙ c.if-lt.false in
    halves_lower (map counted_name c.args.counts.now) c.args.name c.loop-from.from c.loop-from.end at (get_or c.args.counts.now at no_count).name c.requires.order (omega arith) (omega (arith, less))
    (name_at c.args.counts.now at (omega (arith, less, within, long))) test c.loop-from.invariant

pub returns : goal.returns
returns c =
    let met = c.loop-from-test.false in
    halves_meet (map counted_name c.args.counts.now) c.args.name c.loop-from.from c.loop-from.end c.requires.order c.requires.among (omega (arith, met)) c.loop-from.invariant
