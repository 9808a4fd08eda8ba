use Rattle.std.proofs.Common.{rules}
use Rattle.std.proofs.lemmas.Fn.{filter_same}
use Rattle.lxr_large_bodies.specs.Entries.{is_settled}
use Rattle.lxr_large_bodies.proofs.entries.drop_unsettled.Goals as goal

pub returns-clause-items : goal.returns-clause-items
returns-clause-items c = filter_same _ is_settled _ (λ x b f' k. search rules) _ _ c.retain.ensures.filtered
