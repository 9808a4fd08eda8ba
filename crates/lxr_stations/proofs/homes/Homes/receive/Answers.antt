use Rattle.std.proofs.Common.{◌∙◌, ◌∷◌, Some, ap, sym}
use Rattle.atomic_table.specs.Table.{rest}
use Rattle.lxr_stations.proofs.homes.Homes.receive.Goals as goal

pub exchange-requires : goal.exchange-requires
exchange-requires c =
    let (within, table, p, place, tells) = c.requires in
    (table, (Some p, place ∙ ap (λ l. (c.args.number, Some p) ∷ rest l) (sym place)))
