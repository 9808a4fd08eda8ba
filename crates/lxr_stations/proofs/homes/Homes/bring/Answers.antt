use Rattle.std.proofs.Common.{rules, ◌∙◌, ◌∷◌, Some, ap}
use Rattle.atomic_table.specs.Table.{rest}
use Rattle.lxr_stations.specs.declared.homes.Note.TheVariants as note
use Rattle.lxr_stations.proofs.HomeLemmas.{brings}
use Rattle.lxr_stations.proofs.homes.Homes.bring.Goals as goal

pub store-requires : goal.store-requires
store-requires c =
    let away = c.requires.absence in
    let number = c.args.absence.number in
    let held = c.args.absence.seat.me in (
      search rules,
      search rules,
      brings c.args.self.now.table.shared.key _ _ _ _ away.taken c.args.pass
          (c.exchange.ensures.3 ∙ ap (λ v. (v, (number, Some c.args.pass) ∷ rest held.1)) away.tells ∙ ap (λ l. (note.Took away.taken, (number, Some c.args.pass) ∷ rest l)) away.place) away.within c.requires.pass away.goes_on,
    )
