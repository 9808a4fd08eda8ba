use Rattle.std.proofs.Common.{◌∙◌, sym}
use Rattle.lxr_c_shared.proofs.OpeningLemmas.{opened_by}
use Rattle.lxr_c_shared.proofs.sharing.open.Goals as goal

pub returns-in-Some-clause-opened : goal.returns-in-Some-clause-opened
returns-in-Some-clause-opened c = opened_by c.open.result c.args.wishes.now c.in-Some.settings (sym c.settings_of.ensures ∙ c.in-Some.is) c.open.ensures.opened
