use Rattle.std.proofs.Common.{rules, ap, sym, ⊎_elim}
use Rattle.lxr_actor.specs.Change.{changed}
use Rattle.lxr_actor.specs.declared.Kindred.{Kindred}
use Rattle.lxr_shared_passes.proofs.Keeps.{advances}
use Rattle.lxr_shared_passes.proofs.seated.perform.Goals as goal

pub load-requires : goal.load-requires
load-requires g c = (
  search rules,
  search rules,
  advances _ _ _ _ _ _ c.args.number c.requires.next.0 _ c.args.action _ (ap (λ z. z.0) c.requires.next.1) c.requires.next.2 (λ n. ap (λ (k : Kindred). changed k n c.args.action.operand) (sym c.in-Load.is)),
)

pub swap-requires : goal.swap-requires
swap-requires g c = (
  search rules,
  search rules,
  advances _ _ _ _ _ _ c.args.number c.requires.next.0 _ c.args.action _ (ap (λ z. z.0) c.requires.next.1) c.requires.next.2 (λ n. ⊎_elim (λ e. ap (λ (k : Kindred). changed k n c.args.action.operand) (sym e)) (λ e. ap (λ (k : Kindred). changed k n c.args.action.operand) (sym e)) c.in-Store.is),
)

pub fetch_or-requires : goal.fetch_or-requires
fetch_or-requires g c = (
  search rules,
  search rules,
  advances _ _ _ _ _ _ c.args.number c.requires.next.0 _ c.args.action _ (ap (λ z. z.0) c.requires.next.1) c.requires.next.2 (λ n. ap (λ (k : Kindred). changed k n c.args.action.operand) (sym c.in-Or.is)),
)

pub fetch_and-requires : goal.fetch_and-requires
fetch_and-requires g c = (
  search rules,
  search rules,
  advances _ _ _ _ _ _ c.args.number c.requires.next.0 _ c.args.action _ (ap (λ z. z.0) c.requires.next.1) c.requires.next.2 (λ n. ap (λ (k : Kindred). changed k n c.args.action.operand) (sym c.in-And.is)),
)

pub fetch_add-requires : goal.fetch_add-requires
fetch_add-requires g c = (
  search rules,
  search rules,
  advances _ _ _ _ _ _ c.args.number c.requires.next.0 _ c.args.action _ (ap (λ z. z.0) c.requires.next.1) c.requires.next.2 (λ n. ap (λ (k : Kindred). changed k n c.args.action.operand) (sym c.in-Add.is)),
)

pub fetch_sub-requires : goal.fetch_sub-requires
fetch_sub-requires g c = (
  search rules,
  search rules,
  advances _ _ _ _ _ _ c.args.number c.requires.next.0 _ c.args.action _ (ap (λ z. z.0) c.requires.next.1) c.requires.next.2 (λ n. ap (λ (k : Kindred). changed k n c.args.action.operand) (sym c.in-Sub.is)),
)
