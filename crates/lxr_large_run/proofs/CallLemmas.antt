-- What a script may call a heap with, and a pause whose names are listed and whose counts are told.
use Rattle.std.proofs.Common.{◌≡◌, ◌∙◌, refl, sym, ap, subst, arith, Bool, true, false, List, [], ◌∷◌, Some, None}
use Rattle.std.specs.Prelude.{◌&&◌, IsTrue, if◌then◌else◌, not}
use Rattle.lxr_graph.specs.declared.Op.{Op}
use Rattle.lxr_graph.specs.declared.Op.TheVariants as op
use Rattle.lxr_graph.specs.declared.report.Count.{Count}
use Rattle.lxr_graph.specs.declared.report.Kind.{Kind}
use Rattle.lxr_graph.specs.declared.report.Kind.TheVariants as kind
use Rattle.lxr_graph.specs.declared.report.Report.{Report}
use Rattle.lxr_graph.specs.History.{HasToldCounts, HasToldNames, PauseReport, report_of}
use Rattle.lxr_graph.specs.Telling.{with_names_told}
use Rattle.lxr_text_script.specs.declared.TheConstants.{SCRIPT_REGISTERS}
use Rattle.lxr_text_script.specs.declared.Version.TheVariants.{One}
use Rattle.lxr_text_script.specs.Spelling.{operation_version}
use Rattle.lxr_text_print.specs.Reports.{is_plain}
use Rattle.lxr_direct.specs.Operating.{IsOfFirstVersion}
use Rattle.lxr_one_pause.specs.Telling.{with_retold}
use Rattle.lxr_large_model.specs.declared.LargeOp.{LargeOp}
use Rattle.lxr_large_model.specs.declared.LargeOp.TheVariants as large_op
use Rattle.lxr_large_model.specs.History.{LargeItem, Paused, large_moment}
use Rattle.lxr_large_model.specs.Pauses.{AsksFor}
use Rattle.lxr_large_text.specs.Limits.{IsLargeOperation}
use Rattle.lxr_heap.specs.declared.heap.Heap.{Heap}
use Rattle.lxr_heap.specs.Acting.{MayBeCalled}
use Rattle.lxr_heap.specs.Holding.{IsHeapOf, StayInBlocks, StayInPlace, terms_of}
use Rattle.lxr_heap.specs.Pausing.{PausesHeap, kind_asked}
use Rattle.lxr_heap.specs.Telling.{TellsHeap, TellsNames}
use Rattle.lxr_heap.proofs.NumberLemmas.{paused_pauses}
use Rattle.lxr_heap.proofs.SameLemmas.{stands_retold}
use Rattle.lxr_large_run.specs.Asking.{asked_by}
use Rattle.lxr_large_run.specs.Playing.{TellsPrinted}

-- ---- what may be called

first_version : (o : Op) → operation_version o ≡ One → IsOfFirstVersion o
first_version (op.Swap dest base index source) is = absurd (cc)
first_version (op.Add base index value) is = absurd (cc)
first_version o is = tt

-- an operation of a script
pub may_be_called : (o : LargeOp) → IsLargeOperation o → MayBeCalled SCRIPT_REGISTERS o
may_be_called (large_op.Small o) is = (is.well_formed, first_version o is.first)
may_be_called (large_op.Big dest blocks) is = is.well_formed
may_be_called (large_op.BigPut base index value) is = is.well_formed
may_be_called (large_op.BigGet base index) is = is.well_formed

-- ---- the pause that an operation asks for

pub asks_for : (o : LargeOp) (collect : Bool) → asked_by o ≡ Some collect → AsksFor o (kind_asked collect)
asks_for (large_op.Small op.Pause) true is = absurd (cc)
asks_for (large_op.Small op.Pause) false is = refl
asks_for (large_op.Small op.Collect) true is = refl
asks_for (large_op.Small op.Collect) false is = absurd (cc)
asks_for (large_op.Small op.End) true is = refl
asks_for (large_op.Small op.End) false is = absurd (cc)
asks_for o collect is = absurd (cc)

pub asks_none : (o : LargeOp) → asked_by o ≡ None → (k : Kind) → AsksFor o k → ⊥
asks_none (large_op.Small op.Pause) is k asks = absurd (cc)
asks_none (large_op.Small op.Collect) is k asks = absurd (cc)
asks_none (large_op.Small op.End) is k asks = absurd (cc)
asks_none o is k asks = asks

-- ---- a pause whose names are listed, and whose counts are told

-- after a pause of which something was told the heap is the one after the pause
retold_pauses : (x y z : Heap) (by : Report) (h : List LargeItem) (collect : Bool) → PausesHeap x y h collect → IsHeapOf z (Paused (report_of y.space.report) ∷ h)
    → z ≡ record y { space = with_retold y.space by } → PausesHeap x z h collect
retold_pauses x y z by h collect paused holds is = record {
  kind = ap (λ (w : Heap). w.space.report.kind) is ∙ paused.kind;
  holds = subst (λ (r : PauseReport). IsHeapOf z (Paused r ∷ h)) (sym (ap (λ (w : Heap). report_of w.space.report) is)) holds;
  made = ap (λ (w : Heap). w.made) is ∙ paused.made;
  gone = ap (λ (w : Heap). w.gone.items) is ∙ paused.gone;
  placed = subst (λ (w : Heap). StayInPlace x w h (Paused (report_of w.space.report) ∷ h) (large_moment h).unreclaimed) (sym is)
      (λ at stands.
      let (at', there, same) = paused.placed at stands in
      let k = Paused (report_of y.space.report) ∷ h in
      (at', stands_retold y k by k (record { moment = refl; state = refl; reported = refl; fresh = (λ f. f, λ f. f) }) at' there, same));
  stay = subst (λ (w : Heap). StayInBlocks x.bodies.bodies w.bodies.bodies) (sym is) paused.stay;
  terms = ap terms_of is ∙ paused.terms;
  log = ap (λ (z : Heap). z.space.limits.log) is ∙ paused.log;
}

-- so it is after one whose names were listed
pub listed_pauses : (x y z : Heap) (h : List LargeItem) (collect : Bool) → PausesHeap x y h collect → TellsNames y z (Paused (report_of y.space.report) ∷ h) → PausesHeap x z h collect
listed_pauses x y z h collect paused lists = retold_pauses x y z (with_names_told y.space.report) h collect paused lists.holds lists.heap

-- and after one whose counts were told
pub told_pauses : (x y z : Heap) (h : List LargeItem) (collect : Bool) → PausesHeap x y h collect → TellsHeap y z (Paused (report_of y.space.report) ∷ h) → PausesHeap x z h collect
told_pauses x y z h collect paused tells =
    let by : Report = record y.space.report { told = record y.space.report.told { items = z.space.report.told.items } } in
    retold_pauses x y z by h collect paused tells.holds tells.heap

-- what can be read of names stays as counts are told
pub names_stay : (y z : Heap) (h : List LargeItem) → TellsHeap y z h → HasToldNames y.space.report → HasToldNames z.space.report
names_stay y z h tells names = subst (λ (w : Heap). HasToldNames w.space.report) (sym tells.heap) record {
  promoted = names.promoted;
  dead = names.dead;
  stuck = names.stuck;
  swept = names.swept;
}

-- and one that collected has told what it counted
pub told_counts : (x y z : Heap) (h : List LargeItem) → IsHeapOf x h → PausesHeap x y h true → TellsHeap y z (Paused (report_of y.space.report) ∷ h) → HasToldCounts z.space.report
told_counts x y z h is paused tells = let one = paused_pauses x y h true is paused in tells.told paused.kind (omega (arith, one))

-- a pause is plain unless it collects
not_plain : (collect : Bool) (k : Kind) → k ≡ kind_asked collect → not (is_plain k) ≡ collect
not_plain true k is = ap (λ q. not (is_plain q)) is
not_plain false k is = ap (λ q. not (is_plain q)) is

-- the counts of a report, where they are printed
abbrev printed : Report → Bool → List Count
printed r asked = if asked then r.counts.items else []

-- a pause that collected and whose counts were told tells what is printed
pub tells_asked : (x y z : Heap) (h : List LargeItem) → IsHeapOf x h → PausesHeap x y h true → TellsHeap y z (Paused (report_of y.space.report) ∷ h) → TellsPrinted true z.space.report
tells_asked x y z h is paused tells =
    let kind : z.space.report.kind ≡ kind_asked true = ap (λ (w : Heap). w.space.report.kind) tells.heap ∙ paused.kind in
    told_counts x y z h is paused tells ∙ sym (ap (printed z.space.report) (not_plain true z.space.report.kind kind))

-- and one that tells nothing does where nothing is asked for, or it doesn't collect
pub tells_none : (x y : Heap) (h : List LargeItem) (collect counts : Bool) → PausesHeap x y h collect → y.space.report.told.items ≡ [] → (counts && collect) ≡ false → TellsPrinted counts y.space.report
tells_none x y h collect counts paused none unasked =
    none ∙ sym (ap (λ b. printed y.space.report (counts && b)) (not_plain collect y.space.report.kind paused.kind) ∙ ap (printed y.space.report) unasked)

-- before the first pause nothing is told
pub tells_no_pause : (counts : Bool) (r : Report) → r.told.items ≡ [] → r.kind ≡ kind.Plain → TellsPrinted counts r
tells_no_pause true r none plain = none ∙ sym (ap (λ k. printed r (not (is_plain k))) plain)
tells_no_pause false r none plain = none

-- where the counts are told that are printed, the report may be printed
pub may_print : (y : Heap) (r : Report) (counts : Bool) → r ≡ y.space.report → TellsPrinted counts y.space.report → IsTrue (counts && not (is_plain r.kind)) → HasToldCounts r
may_print y r counts is tells asked =
    let same : TellsPrinted counts r = subst (TellsPrinted counts) (sym is) tells in
    same ∙ ap (printed r) asked
