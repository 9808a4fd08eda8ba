-- A heap that was opened with settings is one that was opened by the wishes that they come of.
use Rattle.std.proofs.Common.{◌≡◌, Some}
use Rattle.std.specs.Prelude.{Result, Ok, Err, IfOk}
use Rattle.lxr_shared_heap.specs.declared.heap.Refused.{Refused}
use Rattle.lxr_shared_heap.specs.declared.settings.Settings.{Settings}
use Rattle.lxr_shared_heap.specs.Heaps.{Heaped, IsOpened}
use Rattle.lxr_c_shared.specs.declared.settings.Wishes.{Wishes}
use Rattle.lxr_c_shared.specs.Sharing.{IsOpenedBy, settings_of}

pub opened_by : (r : Result Heaped Refused) (w : Wishes) (s : Settings) → settings_of w ≡ Some s → IfOk r (λ x. IsOpened s x) → IfOk r (λ x. IsOpenedBy x w)
opened_by (Ok x) w s is opened = (s, is, opened)
opened_by (Err e) w s is opened = opened
