-- Behind a pause that an operation wanted it wants none: a fresh pause stands before it, and the log is empty.
use Rattle.std.proofs.Common.{◌≡◌, ◌*◌, ◌≤◌, ◌∙◌, ap, refl, arith, Bool, true, false, List, [], ◌∷◌, length}
use Rattle.lxr_layout.specs.declared.limits.Limits.{Limits}
use Rattle.lxr_graph.specs.declared.Op.TheVariants as op
use Rattle.lxr_graph.specs.History.{report_of}
use Rattle.lxr_model.specs.Moments.{Moment}
use Rattle.lxr_full.proofs.RoomLemmas.{log_is_written}
use Rattle.lxr_large_model.specs.declared.LargeOp.{LargeOp}
use Rattle.lxr_large_model.specs.declared.LargeOp.TheVariants as large_op
use Rattle.lxr_large_model.specs.History.{LargeItem, Paused, large_moment}
use Rattle.lxr_heap.specs.declared.heap.Heap.{Heap}
use Rattle.lxr_heap.specs.Acting.{FindsNoLog, FindsNoPlace, WantsNoPause, WantsPause}
use Rattle.lxr_heap.specs.Holding.{IsHeapOf, abstract_of}
use Rattle.lxr_heap.specs.Pausing.{PausesHeap}

-- ---- the log

-- it has as many entries as the limits say, which are some
pub log_room : (x : Heap) (h : List LargeItem) → IsHeapOf x h → (x.space.limits.threads * x.space.limits.log ≡ x.space.limits.log) × (1 ≤ x.space.limits.log)
log_room x h is = (one, let some = is.log in omega (arith, some))
  where
    one : x.space.limits.threads * x.space.limits.log ≡ x.space.limits.log
    one = let single = ap (λ (l : Limits). l.threads) is.limits in ap (λ k. k * x.space.limits.log) single ∙ (let sum : 1 * x.space.limits.log ≡ x.space.limits.log = omega arith in sum)

pub logged_are : (x : Heap) (h : List LargeItem) → (is : IsHeapOf x h) → length (large_moment h).written ≡ length x.space.logged.items
logged_are x h is = log_is_written x.space (abstract_of x h is.at) is.stands.0.safepoint

-- ---- behind a pause that was wanted

no_log : (x : Heap) (h : List LargeItem) → IsHeapOf x h → (large_moment h).written ≡ [] → (o : LargeOp) → FindsNoLog x (large_moment h) o → ⊥
no_log x h is none (large_op.Small (op.Store base i source)) log =
    let full = log.1 in
    let (all, some) = log_room x h is in
    let same = logged_are x h is in
    let zero = ap length none in
    absurd (omega (arith, full, all, some, same, zero))
no_log x h is none o log = absurd log

-- what finds no room in the log makes nothing
log_no_place : (x y : Heap) (m : Moment) (o : LargeOp) → FindsNoLog x m o → FindsNoPlace y o → ⊥
log_no_place x y m (large_op.Small (op.New dest shape)) log place = log
log_no_place x y m (large_op.Big dest blocks) log place = log
log_no_place x y m o log place = place

-- behind a pause that collects nothing wants a pause
fresh_wants_none : (x y : Heap) (h : List LargeItem) (o : LargeOp) → PausesHeap x y h true → WantsNoPause y (Paused (report_of y.space.report) ∷ h) o
fresh_wants_none x y h o paused = record {
  holds = paused.holds;
  fresh = λ place. paused.holds.fresh.1 paused.kind;
  logs = no_log y (Paused (report_of y.space.report) ∷ h) paused.holds refl o;
}

-- nor does a store behind a plain one
plain_wants_none : (x y : Heap) (h : List LargeItem) (o : LargeOp) → FindsNoLog x (large_moment h) o → PausesHeap x y h false → WantsNoPause y (Paused (report_of y.space.report) ∷ h) o
plain_wants_none x y h o log paused = record {
  holds = paused.holds;
  fresh = λ place. absurd (log_no_place x y (large_moment h) o log place);
  logs = no_log y (Paused (report_of y.space.report) ∷ h) paused.holds refl o;
}

-- and behind it the operation wants none
pub wanted_wants_none : (x y : Heap) (h : List LargeItem) (o : LargeOp) (collect : Bool) → WantsPause x h o collect → PausesHeap x y h collect → WantsNoPause y (Paused (report_of y.space.report) ∷ h) o
wanted_wants_none x y h o true none paused = fresh_wants_none x y h o paused
wanted_wants_none x y h o false log paused = plain_wants_none x y h o log paused
