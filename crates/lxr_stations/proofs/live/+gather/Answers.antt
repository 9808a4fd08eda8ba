use Rattle.std.proofs.Common.{rules, arith, ◌≡◌, ◌<◌, inl, inr, length, subst, sym}
use Rattle.std.specs.Arc.{arc_value}
use Rattle.lxr_stations.specs.Gathering.{IsUnclosed, actors_in}
use Rattle.lxr_stations.specs.Homes.{IsPassAt}
use Rattle.lxr_stations.specs.Arriving.{AreArrivalsOf}
use Rattle.lxr_stations.specs.Stations.{Housed, table_of}
use Rattle.lxr_stations.specs.Wanting.{IsPauseWanted}
use Rattle.lxr_stations.proofs.HomeLemmas.{err_by, gathered_all, gathered_more, left_same, ok_by, one_pass, unclosed_last, unclosed_more, unwanted_last, unwanted_less}
use Rattle.lxr_stations.proofs.live.+gather.Goals as goal

pub returns-then-number-count-clause-all : goal.returns-then-number-count-clause-all
returns-then-number-count-clause-all t c =
    let many : c.args.number ≡ length (arc_value c.args.shared).opening.actors = search rules in
    ok_by c.unshare.result (λ _ is. (
      is.0,
      gathered_all (arc_value c.args.shared) c.args.number c.args.arrivals.now c.args.passes.now.items many c.requires.handed
          (subst (λ ps. IsPauseWanted (actors_in ps)) c.deref-then-number-count.ensures.value is.1),
    )) c.unshare.ensures.last

pub returns-then-number-count-clause-why : goal.returns-then-number-count-clause-why
returns-then-number-count-clause-why t c =
    let many : c.args.number ≡ length (arc_value c.args.shared).opening.actors = search rules in
    err_by c.unshare.result (λ kept is. elim is [
      | inl (unwanted, _) ↦ subst (IsUnclosed (length (arc_value c.args.shared).opening.actors) c.args.number c.args.arrivals.now) (sym unwanted) (unclosed_last (arc_value c.args.shared) c.args.number c.args.arrivals.now many c.requires.handed)
      | inr (shared, _) ↦ subst (IsUnclosed (length (arc_value c.args.shared).opening.actors) c.args.number c.args.arrivals.now) (sym shared) tt
    ]) c.unshare.ensures.why

pub returns-then-number-count-clause-unwanted : goal.returns-then-number-count-clause-unwanted
returns-then-number-count-clause-unwanted t c =
    err_by c.unshare.result (λ kept is unwanted. elim is [
      | inl (_, quiet) ↦ unwanted_last (length (arc_value c.args.shared).opening.actors) c.args.number c.args.arrivals.now c.args.passes.now.items
          (λ wanted. quiet (subst (λ ps. IsPauseWanted (actors_in ps)) (sym c.deref-then-number-count.ensures.value) wanted))
      | inr (shared, _) ↦ absurd (cc)
    ]) c.unshare.ensures.why

pub returns-then-number-count-clause-wanted : goal.returns-then-number-count-clause-wanted
returns-then-number-count-clause-wanted t c =
    let many : c.args.number ≡ length (arc_value c.args.shared).opening.actors = search rules in
    err_by c.unshare.result (λ kept is shared. elim is [
      | inl (unwanted, _) ↦ absurd (cc)
      | inr (_, wanted) ↦ (
        c.args.passes.now.items,
        gathered_all (arc_value c.args.shared) c.args.number c.args.arrivals.now c.args.passes.now.items many c.requires.handed
            (subst (λ ps. IsPauseWanted (actors_in ps)) c.deref-then-number-count.ensures.value wanted),
      )
    ]) c.unshare.ensures.why

pub take_pass-requires-clause-handed : goal.take_pass-requires-clause-handed
take_pass-requires-clause-handed t c = subst (λ e. AreArrivalsOf e c.args.arrivals.now) (sym c.deref-2.ensures) c.requires.handed

pub gather-requires : goal.gather-requires
gather-requires t c = (search rules, (search rules, (search rules, (search rules, left_same (arc_value c.args.shared) c.args.arrivals.now c.take_pass.new.arrivals c.args.number c.in-Some.ensures.left c.requires.handed))))

pub returns-in-Ok-clause-all : goal.returns-in-Ok-clause-all
returns-in-Ok-clause-all t c =
    let before = c.args.passes.now in
    let ok = before.ok in
    let taken : length before.items ≡ c.args.number = (let is = c.requires.taken in omega arith) in (
      c.in-Ok.ensures.all.0,
      gathered_more (arc_value c.args.shared) c.args.number c.args.arrivals.now c.take_pass.new.arrivals before.items c.push_reserved.new.self.items c.gather.new.passes.items c.in-Some.pass c.push_reserved.ensures.items taken
          (subst (λ (e : Housed). IsPassAt (table_of e) c.args.number c.in-Some.pass) c.deref-2.ensures c.in-Some.ensures.pass) c.in-Some.ensures.left
          (λ s at. one_pass c.in-Some.pass s.pass (c.in-Some.ensures.handed s at)) c.in-Some.ensures.come_home c.in-Ok.ensures.all.1,
    )

pub returns-in-Some-pop-clause-why : goal.returns-in-Some-pop-clause-why
returns-in-Some-pop-clause-why t c =
    unclosed_more (length (arc_value c.args.shared).opening.actors) c.args.number c.args.arrivals.now c.take_pass.new.arrivals c.args.passes.now.items c.push_reserved.new.self.items c.in-Some.pass c.in-Err.why c.push_reserved.ensures.items
    c.in-Some.ensures.left (λ s at. one_pass c.in-Some.pass s.pass (c.in-Some.ensures.handed s at)) (λ is. (c.in-Err.ensures.unwanted is).none_wants) c.in-Err.ensures.why

pub returns-in-Some-pop-clause-unwanted : goal.returns-in-Some-pop-clause-unwanted
returns-in-Some-pop-clause-unwanted t c = λ is.
    let few : c.args.number < length (arc_value c.args.shared).opening.actors = search rules in
    unwanted_less (length (arc_value c.args.shared).opening.actors) c.args.number c.args.arrivals.now c.take_pass.new.arrivals c.args.passes.now.items c.push_reserved.new.self.items c.in-Some.pass few c.push_reserved.ensures.items
    c.in-Some.ensures.left (λ s at. one_pass c.in-Some.pass s.pass (c.in-Some.ensures.handed s at)) (c.in-Err.ensures.unwanted is)

pub returns-in-Some-pop-clause-wanted : goal.returns-in-Some-pop-clause-wanted
returns-in-Some-pop-clause-wanted t c = λ is.
    let before = c.args.passes.now in
    let ok = before.ok in
    let taken : length before.items ≡ c.args.number = (let is = c.requires.taken in omega arith) in
    let (after, gathered) = c.in-Err.ensures.wanted is in (
      after,
      gathered_more (arc_value c.args.shared) c.args.number c.args.arrivals.now c.take_pass.new.arrivals before.items c.push_reserved.new.self.items after c.in-Some.pass c.push_reserved.ensures.items taken
          (subst (λ (e : Housed). IsPassAt (table_of e) c.args.number c.in-Some.pass) c.deref-2.ensures c.in-Some.ensures.pass) c.in-Some.ensures.left
          (λ s at. one_pass c.in-Some.pass s.pass (c.in-Some.ensures.handed s at)) c.in-Some.ensures.come_home gathered,
    )
