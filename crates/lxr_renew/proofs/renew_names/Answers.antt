use Rattle.lxr_renew.proofs.RestLemmas.{renews_names}
use Rattle.lxr_renew.proofs.renew_names.Goals as goal

pub returns : goal.returns
returns c = λ g ns may. renews_names c.args.space.now c.renew_heads.new.space g ns may (c.renew_heads.ensures g ns may)
