-- Where each kind of pause may stand and where it must.
use Rattle.std.specs.Prelude.{◌≡◌, ◌≢◌, ℕ, suc, ◌+◌, ◌%◌, ◌<◌, ◌⊎◌, Bool, true, false, Option, Some, None, List, [], ◌∷◌, IsTrue}
use Rattle.lxr_graph.specs.declared.Op.TheVariants as op
use Rattle.lxr_graph.specs.declared.report.Kind.{Kind}
use Rattle.lxr_graph.specs.declared.report.Kind.TheVariants as kind
use Rattle.lxr_graph.specs.History.{Item, Call, Pause, Renew}
use Rattle.lxr_model.specs.Terms.{Terms}
use Rattle.lxr_model.specs.Moments.{Trace, Moment}

-- `collect` was called since the last pause
abbrev pub collect_called : List Item → Bool
collect_called [] = false
collect_called (Renew ns ∷ h) = false
collect_called (Pause report ∷ h) = false
collect_called (Call t op.Collect r ∷ h) = true
collect_called (Call t _ r ∷ h) = collect_called h

-- how many threads have ended since names were last renewed
abbrev pub ends : List Item → ℕ
ends [] = 0
ends (Renew ns ∷ h) = 0
ends (Pause report ∷ h) = ends h
ends (Call t op.End r ∷ h) = suc (ends h)
ends (Call t _ r ∷ h) = ends h

-- a collecting pause must stand: a thread asked for it, or all threads have ended
abbrev pub MustCollect : Terms → List Item → Type 0
MustCollect terms h = IsTrue (collect_called h) ⊎ (ends h ≡ terms.threads)

-- there is a last pause, and nothing but `new` calls stands behind it
abbrev pub OnlyNewsSincePause : List Item → Type 0
OnlyNewsSincePause [] = ⊥
OnlyNewsSincePause (Renew ns ∷ h) = ⊥
OnlyNewsSincePause (Pause report ∷ h) = Unit {0}
OnlyNewsSincePause (Call t (op.New dest shape) r ∷ h) = OnlyNewsSincePause h
OnlyNewsSincePause (Call t _ r ∷ h) = ⊥

-- a collecting pause may stand, as far as what stands before it tells: it must, or it stands for a waiting `new`, of which more is
-- asked in what follows
abbrev pub MayCollect : Terms → List Item → Type 0
MayCollect terms h = MustCollect terms h ⊎ OnlyNewsSincePause h

-- the trace that began at pause j runs
abbrev pub IsRunning : ℕ → Option Trace → Type 0
IsRunning j None = ⊥
IsRunning j (Some trace) = trace.began ≡ j

-- a trace may begin at pause k, where none runs: at each multiple of a number, or at any pause where the terms leave it free, by 0
abbrev pub MayBegin : Terms → ℕ → Type 0
MayBegin terms k = (terms.trace ≡ 0) ⊎ (k % terms.trace ≡ 0)

-- neither must a trace begin at pause k nor must the one that runs end there; where the terms leave it free none ever must begin
abbrev pub NeedsNoTrace : Terms → ℕ → Option Trace → Type 0
NeedsNoTrace terms k None = (terms.trace ≡ 0) ⊎ (k % terms.trace ≢ 0)
NeedsNoTrace terms k (Some trace) = k < trace.began + terms.within

-- pause k may be of this kind, after h, which leads to m
abbrev pub MayStand : Terms → List Item → Moment → ℕ → Kind → Type 0
MayStand terms h m k kind.Collect = MayCollect terms h
MayStand terms h m k (kind.End j) = ¬ MustCollect terms h × IsRunning j m.trace
MayStand terms h m k kind.Begin = ¬ MustCollect terms h × (m.trace ≡ None) × MayBegin terms k
MayStand terms h m k kind.Plain = ¬ MustCollect terms h × NeedsNoTrace terms k m.trace
