-- What follows where no room is left for a new object, each law the contract of a function with an empty body.
use Rattle.std.specs.Prelude.{◌≡◌, ◌≢◌, ◌+◌, ◌-◌, ◌≤◌, ◌↔◌, Some, List, [], ◌∷◌, IsTrue, length}
use Rattle.lxr_layout.specs.declared.Name.{Name}
use Rattle.lxr_layout.specs.declared.Shape.{Shape}
use Rattle.lxr_layout.specs.Objects.{FitsShape, line_count}
use Rattle.lxr_graph.specs.Names.{IsSetOf, has, union, without}
use Rattle.lxr_graph.specs.State.{Graph, Object, object_at, world, world_name}
use Rattle.lxr_graph.specs.History.{Item}
use Rattle.lxr_image.specs.declared.space.Space.{Space}
use Rattle.lxr_image.specs.Spaces.{tables_of}
use Rattle.lxr_blocks.specs.Placing.{IsFull}
use Rattle.lxr_model.specs.Reachable.{Reachable}
use Rattle.lxr_model.specs.Terms.{Terms}
use Rattle.lxr_model.specs.Moments.{moment}
use Rattle.lxr_model.specs.Legal.{IsLegalSoFar}
use Rattle.lxr_model.specs.Full.{LeaveNoRun}
use Rattle.lxr_model_counting.specs.Following.{HasShapeOf}
use Rattle.lxr_invariant.specs.AbstractState.{AbstractState}
use Rattle.lxr_invariant.specs.Lines.{NoneChosen}
use Rattle.lxr_invariant.specs.Quiescent.{IsAtSafepoint, IsQuiescent}

-- Where no room is left between epochs, each block that isn't Chosen has an object. So objects are at least as many as these blocks, and at most as
-- many blocks are Chosen as `evacuate` of the limits says: an eighth of all, or fewer.
abbrev pub RoomlessBlocksAreTaken : Type 0
RoomlessBlocksAreTaken = (s : Space) (g : AbstractState) (shape : Shape) → IsQuiescent s g → FitsShape shape → IsFull s shape
    → s.limits.blocks - s.limits.evacuate ≤ length g.moment.unreclaimed + length g.moment.made

-- the world has the 64 references of the opening, and no data
abbrev pub HasWorld : Graph → Type 0
HasWorld g = (o : Object) × (object_at g world_name ≡ Some o) × HasShapeOf o world

-- so it is after each legal history
abbrev pub WorldKeepsShape : Type 0
WorldKeepsShape = (terms : Terms) (h : List Item) → IsLegalSoFar terms h → HasWorld (moment terms.threads h).state.graph

-- Where no room is left between epochs, the objects that are unreclaimed or made since the last pause, but for the world, can
-- leave no run outside the blocks that may be Chosen, as many as `evacuate` of the limits says: an eighth of all, or fewer.
abbrev pub WaitingMayCollect : Type 0
WaitingMayCollect = (s : Space) (g : AbstractState) (shape : Shape) → IsQuiescent s g → HasWorld g.moment.state.graph → FitsShape shape → IsFull s shape
    → LeaveNoRun g.moment.state.graph (without (union g.moment.made g.moment.unreclaimed) (world_name ∷ [])) (s.limits.blocks - s.limits.evacuate) (line_count shape)

-- Where no room is left right after a pause, no block is Chosen and exactly what is reachable is unreclaimed, the reachable
-- objects but the world can leave no run.
abbrev pub CollectedFullLeavesNoRun : Type 0
CollectedFullLeavesNoRun = (s : Space) (g : AbstractState) (shape : Shape) → IsQuiescent s g → g.moment.made ≡ [] → NoneChosen (tables_of s) s.limits.blocks
    → ((n : Name) → IsTrue (has g.moment.unreclaimed n) ↔ Reachable g.moment.state n) → HasWorld g.moment.state.graph → IsFull s shape
    → (ns : List Name) × IsSetOf ns (λ o. Reachable g.moment.state o × (o ≢ world_name))
    × LeaveNoRun g.moment.state.graph ns s.limits.blocks (line_count shape)

-- the log has as many entries as fields were written since the last pause
abbrev pub LogIsWritten : Type 0
LogIsWritten = (s : Space) (g : AbstractState) → IsAtSafepoint s g → length g.moment.written ≡ length s.logged.items
