use Rattle.std.proofs.Common.{◌≡◌, ℕ, sym, ap, subst, ◌∙◌, List}
use Rattle.lxr_layout.specs.declared.Name.{Name}
use Rattle.lxr_graph.specs.Listing.{NameList}
use Rattle.lxr_image.specs.declared.space.Space.{Space}
use Rattle.lxr_image.specs.Settled.{AreCounted}
use Rattle.lxr_image.specs.Spaces.{IsSpace, Turns, tables_of}
use Rattle.lxr_blocks.specs.States.{FreeBlocksAreFree}
use Rattle.lxr_blocks.specs.Swept.{with_states_by_lines}
use Rattle.lxr_model.specs.Moments.{Moment}
use Rattle.lxr_pause_decrements.specs.declared.slices.Slice.{Slice}
use Rattle.lxr_pause_decrements.specs.Slices.{CanFinishSome, FinishesSome}
use Rattle.lxr_one_pause.specs.Settling.{survived}
use Rattle.lxr_large_model.specs.History.{LargeItem, large_moment}
use Rattle.lxr_heap.specs.declared.heap.Heap.{Heap}
use Rattle.lxr_heap.specs.Holding.{IsHeapOf, StandAt}
use Rattle.lxr_heap.specs.Working.{WorksAt, WorksHeap}
use Rattle.lxr_heap.proofs.HeapLemmas.{standing}
use Rattle.lxr_heap.proofs.WorkingLemmas.{can_work, counted, free, gone_list, holds, put_back, turned_over, works, works_heap}
use Rattle.lxr_heap.proofs.working.work.Goals as goal

-- the space with another list of the dead
abbrev with_dead : Space → NameList → Space
with_dead s dead = record s { report = record s.report { dead = dead } }

-- what comes of some of the decrements, where they may be done
abbrev Comes : Heap → Space → ℕ → Slice → NameList → Type 0
Comes x found units result dead = (h : List LargeItem) (is : IsHeapOf x h) → (gone : List Name) × FinishesSome (with_dead x.space dead) found (survived (large_moment h) x.gone.items) is.at units result gone

-- they may be done, and were
done : (x : Heap) (found : Space) (units : ℕ) (result : Slice) (dead : NameList) → dead ≡ x.gone
    → (((m : Moment) (at : Name → ℕ) → CanFinishSome (with_dead x.space dead) m at → (gone : List Name) × FinishesSome (with_dead x.space dead) found m at units result gone)) → Comes x found units result x.gone
done x found units result dead same finishes h is =
    subst (λ d. (gone : List Name) × FinishesSome (with_dead x.space d) found (survived (large_moment h) x.gone.items) is.at units result gone) same
    (finishes (survived (large_moment h) x.gone.items) is.at (subst (λ d. CanFinishSome (with_dead x.space d) (survived (large_moment h) x.gone.items) is.at) (sym same) (can_work x h is)))

pub finish_some-slice-requires : goal.finish_some-slice-requires
finish_some-slice-requires c =
    let (h, is) = c.requires.holds in
    let x = c.args.heap.now in
    (survived (large_moment h) x.gone.items, is.at, subst (λ d. CanFinishSome (with_dead x.space d) (survived (large_moment h) x.gone.items) is.at) (sym c.swap.ensures.x_after) (can_work x h is))

pub settle_lines-requires-clause-space : goal.settle_lines-requires-clause-space
settle_lines-requires-clause-space c =
    let (h, is) = c.requires.holds in
    let x = c.args.heap.now in
    let found = c.finish_some-slice.new.space in
    let (gone, f) = done x found c.args.units c.finish_some-slice.result c.swap.new.x c.swap.ensures.x_after c.finish_some-slice.ensures h is in
    subst IsSpace (sym (put_back x h is c.args.units c.finish_some-slice.result found gone f c.swap-2.new.y (c.swap-2.ensures.y_after ∙ c.swap.ensures.y_after))) (holds x h is c.args.units c.finish_some-slice.result found gone f).space

pub settle_lines-requires-clause-free : goal.settle_lines-requires-clause-free
settle_lines-requires-clause-free c =
    let (h, is) = c.requires.holds in
    let x = c.args.heap.now in
    let found = c.finish_some-slice.new.space in
    let (gone, f) = done x found c.args.units c.finish_some-slice.result c.swap.new.x c.swap.ensures.x_after c.finish_some-slice.ensures h is in
    free x h is c.args.units c.finish_some-slice.result found gone f

pub settle_lines-requires-clause-counted : goal.settle_lines-requires-clause-counted
settle_lines-requires-clause-counted c =
    let (h, is) = c.requires.holds in
    let x = c.args.heap.now in
    let found = c.finish_some-slice.new.space in
    let (gone, f) = done x found c.args.units c.finish_some-slice.result c.swap.new.x c.swap.ensures.x_after c.finish_some-slice.ensures h is in
    counted x h is c.args.units c.finish_some-slice.result found gone f

pub returns : goal.returns
returns c = λ h is.
    let x = c.args.heap.now in
    let found = c.finish_some-slice.new.space in
    let units = c.args.units in
    let result = c.finish_some-slice.result in
    let after = c.settle_lines.new.space in
    let finished = done x found units result c.swap.new.x c.swap.ensures.x_after c.finish_some-slice.ensures in
    let turns : (k : IsHeapOf x h) → Turns (record found { report = x.space.report }) after (with_states_by_lines (tables_of found) found.limits.blocks) = λ k.
    let (gone, f) = finished h k in
    subst (λ s. Turns s after (with_states_by_lines (tables_of found) found.limits.blocks)) (put_back x h k units result found gone f c.swap-2.new.y (c.swap-2.ensures.y_after ∙ c.swap.ensures.y_after)) c.settle_lines.ensures.states in
    let (gone, f) = finished h is in
    let list = gone_list x h is units result found gone f in
    let each : (at : Name → ℕ) → StandAt x h at → WorksAt x (record x { space = after; gone = found.report.dead }) h at units result = λ at stands.
    let here = standing x h is at stands in
    let (more, g) = finished h here in
    subst (λ l. WorksAt x (record x { space = after; gone = l }) h at units result) (sym (gone_list x h here units result found more g)) (works x h here units result found more g after (turns here)) in
    subst (λ l. WorksHeap x (record x { space = after; gone = l }) h units result) (sym (c.swap-2.ensures.x_after))
    (subst (λ l. ((at : Name → ℕ) → StandAt x h at → WorksAt x (record x { space = after; gone = l }) h at units result) → WorksHeap x (record x { space = after; gone = l }) h units result) (sym list)
    (works_heap x h is units result found gone f after (turns is)) each)
