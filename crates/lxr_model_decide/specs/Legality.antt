-- Whether a history in which names are never renewed is legal, computed: what may stand is tested item by item, and its replies and reports are computed
-- again.
use Rattle.std.specs.Prelude.{◌≡◌, ℕ, ◌+◌, ◌-◌, ◌%◌, Bool, true, false, not, ◌&&◌, ◌||◌, nat_eq, nat_lt, nat_le, Option, Some, None, List, [], ◌∷◌, IsTrue}
use Rattle.lxr_layout.specs.declared.Name.{Name}
use Rattle.lxr_layout.specs.declared.Shape.{Shape}
use Rattle.lxr_layout.specs.Objects.{line_count}
use Rattle.lxr_graph.specs.declared.Op.{Op}
use Rattle.lxr_graph.specs.declared.Op.TheVariants as op
use Rattle.lxr_graph.specs.declared.Reply.{Reply}
use Rattle.lxr_graph.specs.declared.Reply.TheVariants as reply
use Rattle.lxr_graph.specs.declared.report.Kind.{Kind}
use Rattle.lxr_graph.specs.declared.report.Kind.TheVariants as kind
use Rattle.lxr_graph.specs.Names.{without, union}
use Rattle.lxr_graph.specs.State.{Graph, world_name}
use Rattle.lxr_graph.specs.Forms.{is_formed_for}
use Rattle.lxr_graph.specs.Step.{step}
use Rattle.lxr_graph.specs.History.{PauseReport, Item, Call, Pause, Renew}
use Rattle.lxr_model.specs.Terms.{Terms}
use Rattle.lxr_model.specs.Moments.{Trace, Moment, moment}
use Rattle.lxr_model.specs.Kinds.{collect_called, ends}
use Rattle.lxr_model.specs.Full.{slots_in, slots_taken}
use Rattle.lxr_model_decide.specs.Sets.{reachable_names}
use Rattle.lxr_model_decide.specs.Reports.{report_at}

-- ---- where a kind may stand

-- a thread called `collect` since the last pause, or all threads have ended
abbrev pub must_collect : Terms → List Item → Bool
must_collect terms h = collect_called h || nat_eq (ends h) terms.threads

-- there is a last pause, and nothing but `new` calls stands behind it
abbrev pub only_news_since_pause : List Item → Bool
only_news_since_pause [] = false
only_news_since_pause (Renew ns ∷ h) = false
only_news_since_pause (Pause report ∷ h) = true
only_news_since_pause (Call t (op.New dest shape) r ∷ h) = only_news_since_pause h
only_news_since_pause (Call t _ r ∷ h) = false

-- a collecting pause may stand, as far as what stands before it tells
abbrev pub may_collect : Terms → List Item → Bool
may_collect terms h = must_collect terms h || only_news_since_pause h

-- the trace that began at pause j runs
abbrev pub is_running : ℕ → Option Trace → Bool
is_running j None = false
is_running j (Some trace) = nat_eq trace.began j

-- a trace is due at pause k, or any may begin one, and none runs
abbrev pub may_begin : Terms → ℕ → Option Trace → Bool
may_begin terms k None = nat_eq terms.trace 0 || nat_eq (k % terms.trace) 0
may_begin terms k (Some trace) = false

-- neither must a trace begin at pause k nor must the one that runs end there
abbrev pub needs_no_trace : Terms → ℕ → Option Trace → Bool
needs_no_trace terms k None = nat_eq terms.trace 0 || not (nat_eq (k % terms.trace) 0)
needs_no_trace terms k (Some trace) = nat_lt k (trace.began + terms.within)

-- pause k may be of this kind after h, where this trace runs
abbrev pub may_stand : Terms → List Item → Option Trace → ℕ → Kind → Bool
may_stand terms h trace k kind.Collect = may_collect terms h
may_stand terms h trace k (kind.End j) = not (must_collect terms h) && is_running j trace
may_stand terms h trace k kind.Begin = not (must_collect terms h) && may_begin terms k trace
may_stand terms h trace k kind.Plain = not (must_collect terms h) && needs_no_trace terms k trace

-- ---- calls

-- these objects can leave no run of k lines in so many blocks
abbrev pub leave_no_run : Graph → List Name → ℕ → ℕ → Bool
leave_no_run g ns blocks k = nat_le (slots_in k (blocks - 1)) (slots_taken g k ns)

-- the kind is that of a collecting pause
abbrev pub is_collect : Kind → Bool
is_collect kind.Collect = true
is_collect _ = false

-- the last pause collected, and nothing but `new full` stands behind it
abbrev pub is_right_after_collecting : List Item → Bool
is_right_after_collecting [] = false
is_right_after_collecting (Renew ns ∷ h) = false
is_right_after_collecting (Pause report ∷ h) = is_collect report.kind
is_right_after_collecting (Call t (op.New dest shape) reply.Full ∷ h) = is_right_after_collecting h
is_right_after_collecting (Call t _ _ ∷ h) = false

-- a `new` of this shape may reply `full` after h, which leads to m
abbrev pub may_be_full : Terms → List Item → Moment → Shape → Bool
may_be_full terms h m shape =
    is_right_after_collecting h
    && leave_no_run m.state.graph (without (reachable_names m.state) (world_name ∷ [])) terms.blocks (line_count shape)

-- a call may reply so after h, which leads to m, as far as its step doesn't tell
abbrev pub may_reply : Terms → List Item → Moment → Op → Reply → Bool
may_reply terms h m (op.New dest shape) reply.Full = may_be_full terms h m shape
may_reply terms h m o r = true

-- ---- a `new` that was waited for

-- a pause collects though no thread asked for it and not all have ended
abbrev pub stands_for_waiting : Terms → List Item → PauseReport → Bool
stands_for_waiting terms h report = is_collect report.kind && not (must_collect terms h)

-- the `new` behind a pause that stands for it, which came after a history that leads to m
abbrev pub is_waited_for : Terms → Moment → Item → Bool
is_waited_for terms m (Call t (op.New dest shape) r) =
    leave_no_run m.state.graph (without (union m.made m.unreclaimed) (world_name ∷ [])) (terms.blocks - terms.evacuate) (line_count shape)
is_waited_for terms m _ = false

-- an item may come right behind the newest of a history
abbrev pub keeps_promise : Terms → List Item → Item → Bool
keeps_promise terms (Pause report ∷ h) x = not (stands_for_waiting terms h report) || is_waited_for terms (moment terms.threads h) x
keeps_promise terms _ x = true

-- no pause stands at the end for a `new` that never came
abbrev pub owes_no_call : Terms → List Item → Bool
owes_no_call terms (Pause report ∷ h) = not (stands_for_waiting terms h report)
owes_no_call terms _ = true

-- ---- histories

-- an item may come after h, which leads to m, whatever it replies or reports
abbrev pub may_follow : Terms → List Item → Moment → Item → Bool
may_follow terms h m (Call t o r) = (nat_le 1 t && nat_le t terms.threads) && (is_formed_for terms.registers o && may_reply terms h m o r)
may_follow terms h m (Pause report) = may_stand terms h m.trace report.number report.kind
may_follow terms h m (Renew ns) = false

-- all items may stand where they do
abbrev pub all_may_stand : Terms → List Item → Bool
all_may_stand terms [] = true
all_may_stand terms (x ∷ h) = all_may_stand terms h && (keeps_promise terms h x && may_follow terms h (moment terms.threads h) x)

-- the reply of a call: that of a step, but for a `full`, which stays
abbrev pub reply_again : Moment → ℕ → Op → Reply → Reply
reply_again m t (op.New dest shape) reply.Full = reply.Full
reply_again m t o r = (step m.state t o).1

-- an item with its reply or report computed again from the moment before it
abbrev pub item_again : Moment → Item → Item
item_again m (Call t o r) = Call t o (reply_again m t o r)
item_again m (Pause report) = Pause (report_at m report.kind)
item_again m (Renew ns) = Renew ns

-- all items computed again
abbrev pub again : Terms → List Item → List Item
again terms [] = []
again terms (x ∷ h) = item_again (moment terms.threads h) x ∷ again terms h

-- what is found by computing: all items may stand, no call is owed, and all comes out the same again
pub record IsFoundLegal (terms : Terms) (h : List Item) : Type 0 where
  pub stand : IsTrue (all_may_stand terms h)
  pub owes : IsTrue (owes_no_call terms h)
  pub same : again terms h ≡ h
