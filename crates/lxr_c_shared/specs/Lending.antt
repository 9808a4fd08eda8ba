-- What is held after it was lent.
use Rattle.std.specs.Prelude.{Some}
use Rattle.std.specs.Borrow.{Fml, Lends, MutBor}
use Rattle.lxr_c_shared.specs.declared.held.Held.{Held}
use Rattle.lxr_c_shared.specs.declared.owned.Owned.{Owned}
use Rattle.lxr_c_shared.specs.contracts.held.Held as held
use Rattle.lxr_c_shared.specs.contracts.owned.Owned as owned

-- the same address with this heap or station
abbrev pub with_owned : Held → Owned → Held
with_owned h x = record h { value = Some x }

-- what holds it ends with what was left of what was lent
abbrev pub LendsOwned : MutBor Held → MutBor Owned → Fml
LendsOwned h lent = Lends held.the_row owned.the_row h lent (with_owned h.now)
