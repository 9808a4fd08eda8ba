-- What an observer was told in two goes it was told in one.
use Rattle.std.proofs.Common.{ℕ, List}
use Rattle.lxr_graph.specs.History.{Item, PauseReport}
use Rattle.lxr_core.specs.declared.actors.AnyActor.{AnyActor}
use Rattle.lxr_rounds.specs.Observing.{Fails, Tells, answers, nothing, pause}

module _ {O S : Type 0} (began : O → List AnyActor → O → Type 0) (served : O → ℕ → List AnyActor → O → Type 0) (told : O → S → PauseReport → O → S → Type 0) (o o' : O) (w w' : S) (h k : List Item)
    (first : Tells began served told o w h o' w' k) where
  pub tells_on : (o'' : O) (w'' : S) (l : List Item) → Tells began served told o' w' k o'' w'' l → Tells began served told o w h o'' w'' l
  tells_on o'' w'' l (nothing) = first
  tells_on o'' w'' l (pause o1 o2 w1 w2 m report before here) = pause o1 o2 w1 w2 m report (tells_on o1 w1 m before) here
  tells_on o'' w'' l (answers o1 o2 o3 w1 m n actors actors' space space' before begun were here) = answers o1 o2 o3 w1 m n actors actors' space space' (tells_on o1 w1 m before) begun were here

  -- so it is where it failed in the second
  pub fails_on : {E : Type 0} (failed : O → S → PauseReport → E → S → Type 0) (w'' : S) (why : E) (l : List Item) (report : PauseReport) → Fails began served told failed o' w' k why w'' l report → Fails began served told failed o w h why w'' l report
  fails_on failed w'' why l report fails = record { observer = fails.observer; output = fails.output; tells = tells_on fails.observer fails.output l fails.tells; fails = fails.fails }
