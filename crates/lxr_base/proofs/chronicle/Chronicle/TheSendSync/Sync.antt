-- A chronicle owns nothing, so threads may share it.
use denote.RattleType.{RattleType}
use denote.Param.Send.{IsSync, cell_keyless}
use denote.Memory.{part_of, raw_all}
use Rattle.lxr_base.specs.contracts.chronicle.Chronicle.{the_row}

pub sync : (A : RattleType) → IsSync A → IsSync (the_row A)
unfolding part_of
sync A a = record { shared = λ d b o κ. λ q vs. (cell_keyless q (raw_all (the_row A).mir) vs b o, ((λ _. (tt, ((λ _. (tt, tt)), tt))), tt)) }
