-- Legal histories: each call is a step, each pause gives its report, each kind stands where it may, and names are renewed where they may be.
-- Items stand newest first, so what an item asks of those before it is asked of the rest of the list.
use Rattle.std.specs.Prelude.{◌≡◌, ℕ, ◌-◌, ◌≤◌, List, [], ◌∷◌}
use Rattle.lxr_layout.specs.Objects.{line_count}
use Rattle.lxr_graph.specs.declared.Op.{Op}
use Rattle.lxr_graph.specs.declared.Op.TheVariants as op
use Rattle.lxr_graph.specs.declared.Reply.{Reply}
use Rattle.lxr_graph.specs.declared.Reply.TheVariants as reply
use Rattle.lxr_graph.specs.declared.report.Kind.TheVariants as kind
use Rattle.lxr_graph.specs.Names.{without, union}
use Rattle.lxr_graph.specs.State.{world_name}
use Rattle.lxr_graph.specs.Step.{IsFormedFor, IsReply}
use Rattle.lxr_graph.specs.History.{PauseReport, Item, Call, Pause, Renew}
use Rattle.lxr_model.specs.Terms.{Terms}
use Rattle.lxr_model.specs.Moments.{moment, state_at}
use Rattle.lxr_model.specs.Reports.{IsReport}
use Rattle.lxr_model.specs.Renewing.{IsRenewal}
use Rattle.lxr_model.specs.Kinds.{MustCollect, MayStand}
use Rattle.lxr_model.specs.Full.{LeaveNoRun, MayBeFull}

-- the reply of a call after h: that of a step, or `full` of a `new` where that may be
abbrev pub Replies : Terms → List Item → ℕ → Op → Reply → Type 0
Replies terms h t (op.New dest shape) reply.Full = MayBeFull terms h shape
Replies terms h t o r = IsReply (state_at terms h) t o r

-- a call after h: of a thread that there is, whose operation names registers that it has, and a shape that there is
pub record IsCall (terms : Terms) (h : List Item) (t : ℕ) (o : Op) (r : Reply) : Type 0 where
  pub thread : (1 ≤ t) × (t ≤ terms.threads)
  pub operation : IsFormedFor terms.registers o
  pub reply : Replies terms h t o r

-- a pause after h
pub record IsPause (terms : Terms) (h : List Item) (report : PauseReport) : Type 0 where
  pub stands : MayStand terms h (moment terms.threads h) report.number report.kind
  pub reports : IsReport (moment terms.threads h) report

-- a pause after h collects though neither a thread asked for it nor all have ended: it stands for a waiting `new`
abbrev pub StandsForWaiting : Terms → List Item → PauseReport → Type 0
StandsForWaiting terms h report = (report.kind ≡ kind.Collect) × ¬ MustCollect terms h

-- The item behind a pause that stands for a waiting `new`, which came after h: that `new`, for which the objects that
-- were unreclaimed or made, but for the world, could leave no run outside the blocks that may be chosen for evacuation.
abbrev pub IsWaitedFor : Terms → List Item → Item → Type 0
IsWaitedFor terms h (Call t (op.New dest shape) r) =
    let m = moment terms.threads h in
    LeaveNoRun m.state.graph (without (union m.made m.unreclaimed) (world_name ∷ [])) (terms.blocks - terms.evacuate) (line_count shape)
IsWaitedFor terms h _ = ⊥

-- item x may come right behind the newest item of a history
abbrev pub KeepsPromise : Terms → List Item → Item → Type 0
KeepsPromise terms (Pause report ∷ h) x = StandsForWaiting terms h report → IsWaitedFor terms h x
KeepsPromise terms _ x = Unit {0}

-- item x may come after h
abbrev pub MayFollow : Terms → List Item → Item → Type 0
MayFollow terms h (Call t o r) = IsCall terms h t o r
MayFollow terms h (Pause report) = IsPause terms h report
MayFollow terms h (Renew ns) = IsRenewal terms h ns

-- legal as far as it goes: nothing is asked of calls that would come later
abbrev pub IsLegalSoFar : Terms → List Item → Type 0
IsLegalSoFar terms [] = Unit {0}
IsLegalSoFar terms (x ∷ h) = IsLegalSoFar terms h × KeepsPromise terms h x × MayFollow terms h x

-- no pause stands at the end for a `new` that never came
abbrev pub OwesNoCall : Terms → List Item → Type 0
OwesNoCall terms (Pause report ∷ h) = ¬ StandsForWaiting terms h report
OwesNoCall terms _ = Unit {0}

-- a legal history
abbrev pub IsLegal : Terms → List Item → Type 0
IsLegal terms h = IsLegalSoFar terms h × OwesNoCall terms h
