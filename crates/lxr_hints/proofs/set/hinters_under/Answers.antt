use Rattle.std.proofs.Common.{◌≡◌, ◌<◌, Some, ap, sym, ◌∙◌, arith, List, length, map}
use Rattle.std.specs.Prelude.{slice_get}
use Rattle.std.proofs.lemmas.Option.{slice_get-get_or, slice_get_within}
use Rattle.lxr_hints.specs.Joined.{others_of, own_deque}
use Rattle.lxr_hints.specs.Taking.{Hinting}
use Rattle.lxr_hints.specs.declared.shared.Shared.{Shared}
use Rattle.lxr_hints.proofs.Ways.{as_many, joined_more, pushes_stay}
use Rattle.lxr_hints.proofs.set.hinters_under.Goals as goal

pub loop-number-preserved : goal.loop-number-preserved
loop-number-preserved g c =
    let set = c.loop-number.set.items in
    let number = c.loop-number.number in
    let old = c.index_mut-hinter.result.now in
    let count = as_many set c.from-count.result c.loop-number.invariant.fresh in
    let within : number < length set = omega arith in
    let was : slice_get set number ≡ Some old = slice_get-get_or _ _ _ within ∙ ap Some (sym c.index_mut-hinter.ensures.value) in
    let new : Hinting (Shared g.row.H.Denot) = record { deques = record { own = c.hinter.inside.deques.own; ways = c.in_ok-ways.ways }; pushes = c.hinter.inside.pushes } in
    let lead = c.in_ok-ways.ensures.others ∙ ap (λ (hs : List (Hinting (Shared g.row.H.Denot))). others_of number (map own_deque hs)) c.as_slice.ensures.value in
    record {
      fresh = pushes_stay set number old new was (ap (λ (h : Hinting (Shared g.row.H.Denot)). h.pushes) c.hinter.view_is) ∙ c.loop-number.invariant.fresh;
      joined = joined_more set number old new was (ap own_deque c.hinter.view_is) lead c.loop-number.invariant.joined;
    }

pub returns-clause-joined : goal.returns-clause-joined
returns-clause-joined g c number h at =
    let set = c.loop-number.set.items in
    let within = slice_get_within set number h at in
    let count = as_many set c.from-count.result c.loop-number.invariant.fresh in
    c.loop-number.invariant.joined number h (omega arith) at
