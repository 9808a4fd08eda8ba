-- What a history says where no room is left for a `new` that waits: right after a collecting pause it may be refused; else a pause has
-- a cause, and may collect for it.
use Rattle.std.proofs.Common.{◌≡◌, ◌≢◌, ℕ, ◌+◌, ◌-◌, ◌≤◌, ◌↔◌, refl, sym, ap, subst, ◌∙◌, inl, inr, Bool, List, [], ◌∷◌, length}
use Rattle.std.specs.Prelude.{Some, None, IsTrue}
use Rattle.lxr_layout.specs.declared.Name.{Name}
use Rattle.lxr_layout.specs.declared.Shape.{Shape}
use Rattle.lxr_layout.specs.Objects.{FitsShape, line_count}
use Rattle.lxr_layout.specs.declared.limits.Limits.{Limits}
use Rattle.lxr_graph.specs.Names.{IsSetOf, has, union, without}
use Rattle.lxr_graph.specs.State.{world_name}
use Rattle.lxr_graph.specs.declared.Op.TheVariants as op
use Rattle.lxr_graph.specs.declared.Reply.{Reply}
use Rattle.lxr_graph.specs.declared.Reply.TheVariants as reply
use Rattle.lxr_graph.specs.History.{Item, Call, Pause, Renew}
use Rattle.lxr_image.specs.declared.space.Space.{Space}
use Rattle.lxr_image.specs.Spaces.{tables_of}
use Rattle.lxr_blocks.specs.Placing.{IsFull}
use Rattle.lxr_model.specs.Moments.{Moment, moment, trace_after}
use Rattle.lxr_model.specs.Full.{IsRightAfterCollecting, LeaveNoRun}
use Rattle.lxr_model.specs.Reachable.{Reachable}
use Rattle.lxr_model.specs.Legal.{IsLegalSoFar, IsWaitedFor, Replies}
use Rattle.lxr_model.specs.Belongs.{HasCause, Script, is_new, next_operation}
use Rattle.lxr_invariant.specs.AbstractState.{AbstractState}
use Rattle.lxr_invariant.specs.Lines.{ChosenNeedTrace, NoneChosen}
use Rattle.lxr_invariant.specs.Quiescent.{IsQuiescent}
use Rattle.lxr_full.specs.Room.{HasWorld}
use Rattle.lxr_model.proofs.CollectLemmas.{refused_keep}
use Rattle.lxr_full.proofs.RoomLemmas.{collected_full_leaves_no_run, roomless_blocks_are_taken, waiting_may_collect}
use Rattle.lxr_full.proofs.WorldLemmas.{world_keeps_shape}
use Rattle.lxr_rounds_history.specs.Plan.{Plan}
use Rattle.lxr_rounds_history.specs.Histories.{script_terms_with}
use Rattle.lxr_rounds_history.specs.Left.{plan_limits}

-- right after a collecting pause nothing is made yet
pub none_made : (threads : ℕ) (h : List Item) → IsRightAfterCollecting h → (moment threads h).made ≡ []
none_made threads [] after = absurd after
none_made threads (Renew ns ∷ h) after = absurd after
none_made threads (Pause report ∷ h) after = refl
none_made threads (Call t (op.New dest shape) reply.Full ∷ h) after = none_made threads h after
none_made threads (Call t o r ∷ h) after = absurd after

-- nor does a trace run
untraced : (threads : ℕ) (h : List Item) → IsRightAfterCollecting h → (moment threads h).trace ≡ None
untraced threads [] after = absurd after
untraced threads (Renew ns ∷ h) after = absurd after
untraced threads (Pause report ∷ h) after = ap (trace_after (moment threads h) report) after
untraced threads (Call t (op.New dest shape) reply.Full ∷ h) after = untraced threads h after
untraced threads (Call t o r ∷ h) after = absurd after

-- so no block is Chosen then
pub none_chosen : (threads : ℕ) (h : List Item) (s : Space) (g : AbstractState) → IsRightAfterCollecting h → IsQuiescent s g → g.moment ≡ moment threads h → NoneChosen (tables_of s) s.limits.blocks
none_chosen threads h s g after between is =
    subst (ChosenNeedTrace (tables_of s) s.limits.blocks) (ap (λ (m : Moment). m.trace) is ∙ untraced threads h after) between.safepoint.holds.blocks.chosen

-- a `new` that finds no room right after a collecting pause may be refused
pub may_be_refused : (renews : Bool) (plan : Plan) (script : Script) (h : List Item) (s : Space) (g : AbstractState) (t dest : ℕ) (shape : Shape) → IsLegalSoFar (script_terms_with renews plan script) h
    → IsRightAfterCollecting h → IsQuiescent s g → g.moment ≡ moment (length script) h → s.limits.blocks ≡ plan.blocks → IsFull s shape
    → Replies (script_terms_with renews plan script) h t (op.New dest shape) reply.Full
may_be_refused renews plan script h s g t dest shape legal after between is blocks full =
    let world : HasWorld (moment (length script) h).state.graph = world_keeps_shape (script_terms_with renews plan script) h legal in
    let reached : (n : Name) → IsTrue (has (moment (length script) h).unreclaimed n) ↔ Reachable (moment (length script) h).state n = refused_keep (script_terms_with renews plan script) h legal after in
    let (ns, set, none) = collected_full_leaves_no_run s g shape between (ap (λ (m : Moment). m.made) is ∙ none_made (length script) h after)
    (none_chosen (length script) h s g after between is)
    (subst (λ (m : Moment). (n : Name) → IsTrue (has m.unreclaimed n) ↔ Reachable m.state n) (sym is) reached)
    (subst (λ (m : Moment). HasWorld m.state.graph) (sym is) world) full in (
      after,
      ns,
      subst (λ (m : Moment). IsSetOf ns (λ o. Reachable m.state o × (o ≢ world_name))) is set,
      subst (λ (m : Moment). LeaveNoRun m.state.graph ns plan.blocks (line_count shape)) is
          (subst (λ b. LeaveNoRun g.moment.state.graph ns b (line_count shape)) blocks none),
    )

-- for one that finds none a collecting pause may stand, behind which it comes
pub is_waited_for : (renews : Bool) (plan : Plan) (script : Script) (h : List Item) (s : Space) (g : AbstractState) (t dest : ℕ) (shape : Shape) (r : Reply) → IsLegalSoFar (script_terms_with renews plan script) h
    → IsQuiescent s g → g.moment ≡ moment (length script) h → s.limits ≡ plan_limits plan (length script) → FitsShape shape → IsFull s shape → IsWaitedFor (script_terms_with renews plan script) h (Call t (op.New dest shape) r)
is_waited_for renews plan script h s g t dest shape r legal between is limits fits full =
    let world : HasWorld (moment (length script) h).state.graph = world_keeps_shape (script_terms_with renews plan script) h legal in
    let taken : LeaveNoRun g.moment.state.graph (without (union g.moment.made g.moment.unreclaimed) (world_name ∷ [])) (s.limits.blocks - s.limits.evacuate) (line_count shape) =
    waiting_may_collect s g shape between (subst (λ (m : Moment). HasWorld m.state.graph) (sym is) world) fits full in
    subst (λ (m : Moment). LeaveNoRun m.state.graph (without (union m.made m.unreclaimed) (world_name ∷ [])) (plan.blocks - plan.evacuate) (line_count shape)) is
    (subst (λ (l : Limits). LeaveNoRun g.moment.state.graph (without (union g.moment.made g.moment.unreclaimed) (world_name ∷ [])) (l.blocks - l.evacuate) (line_count shape)) limits taken)

-- and one that finds none is a cause of a pause
pub room_cause : (renews : Bool) (plan : Plan) (script : Script) (h : List Item) (s : Space) (g : AbstractState) (t dest : ℕ) (shape : Shape) → 1 ≤ t → t ≤ length script
    → next_operation script t h ≡ Some (op.New dest shape) → IsQuiescent s g → g.moment ≡ moment (length script) h → s.limits ≡ plan_limits plan (length script) → FitsShape shape → IsFull s shape
    → HasCause (script_terms_with renews plan script) script h
room_cause renews plan script h s g t dest shape low high next between is limits fits full =
    let taken : s.limits.blocks - s.limits.evacuate ≤ length g.moment.unreclaimed + length g.moment.made = roomless_blocks_are_taken s g shape between fits full in
    let here : s.limits.blocks - s.limits.evacuate ≤ length (moment (length script) h).unreclaimed + length (moment (length script) h).made =
    subst (λ (m : Moment). s.limits.blocks - s.limits.evacuate ≤ length m.unreclaimed + length m.made) is taken in
    inr (t, low, high, inr (inr (inl (subst (λ x. IsTrue (is_new x)) (sym next) refl, subst (λ (l : Limits). l.blocks - l.evacuate ≤ length (moment (length script) h).unreclaimed + length (moment (length script) h).made) limits here))))
