-- What playing a script with large objects leaves: its whole text and the space, or a prefix of a text.
use Rattle.std.specs.Prelude.{◌≡◌, ◌≤◌, ◌+◌, ◌⊎◌, ◌↔◌, ℕ, Option, List, [], IsTrue, length}
use Rattle.lxr_layout.specs.declared.Name.{Name}
use Rattle.lxr_graph.specs.Names.{has}
use Rattle.lxr_image.specs.declared.space.Space.{Space}
use Rattle.lxr_image.specs.Opened.{no_tally}
use Rattle.lxr_text_stream.specs.Streams.{Appends, AppendsFront}
use Rattle.lxr_model.specs.Reachable.{Reachable}
use Rattle.lxr_invariant.specs.Quiescent.{IsQuiescent}
use Rattle.lxr_large_model.specs.Full.{LargeTerms}
use Rattle.lxr_large_model.specs.History.{LargeItem, large_moment, large_state}
use Rattle.lxr_large_model.specs.Pauses.{most_logged}
use Rattle.lxr_large_text.specs.Limits.{IsLargeScript}
use Rattle.lxr_heap.specs.Holding.{IsOpenedHeap, abstract_after, limits_of}
use Rattle.lxr_large_text.specs.Histories.{IsLargeHistory}
use Rattle.lxr_large_text.specs.Texts.{large_run_text}
use Rattle.lxr_large_run.specs.declared.LargeRun.{LargeRun}
use Rattle.lxr_large_run.specs.Playing.{IsCutEarly, LargeTask, TellsPrinted, script_sizes}

-- A run that is ready: its heap has no history yet, of the sizes of a script's, its script is one that can be read, and there is room for each
-- reply.
pub record IsReady (run : LargeRun) (blocks bodies : ℕ) : Type 0 where
  pub opened : IsOpenedHeap run.heap (script_sizes blocks bodies)
  pub script : IsLargeScript run.operations.items
  pub none : run.replies.items ≡ []
  pub room : length run.operations.items + 1 ≤ run.replies.room

-- The space that a whole history leaves: between pauses it stands for what the history led to, with objects at some places; and exactly what
-- can be reached is unreclaimed.
pub record IsLeftByLarge (terms : LargeTerms) (h : List LargeItem) (space : Space) : Type 0 where
  pub at : Name → ℕ
  pub between : IsQuiescent space (abstract_after h at)
  pub limits : space.limits ≡ limits_of terms.blocks terms.registers most_logged
  pub tally : space.tally ≡ record no_tally { pauses = space.pauses }
  pub state : (large_moment h).state ≡ (large_state h).small
  pub reachable : (n : Name) → IsTrue (has (large_moment h).unreclaimed n) ↔ Reachable (large_moment h).state n

-- A script was played to its end: the text of one history of it was written, and the space is left by it, with the counts of its last pause told
-- where they are printed.
pub record IsPlayed (task : LargeTask) (written : Option (List ℕ)) (space : Space) : Type 0 where
  pub history : List LargeItem
  pub is_of : IsLargeHistory task.terms task.operations history
  pub text : Appends task.written written (large_run_text task.counts task.operations history)
  pub space_left : IsLeftByLarge task.terms history space
  pub told : TellsPrinted task.counts space.report

-- Playing was cut off as the replies were printed: a prefix of the text of a whole history was written.
pub record IsCutLate (task : LargeTask) (written : Option (List ℕ)) : Type 0 where
  pub history : List LargeItem
  pub is_of : IsLargeHistory task.terms task.operations history
  pub text_front : AppendsFront task.written written (large_run_text task.counts task.operations history)

-- it was cut off at a report, or at the replies
abbrev pub IsCutOff : LargeTask → Option (List ℕ) → Type 0
IsCutOff task written = IsCutEarly task written ⊎ IsCutLate task written
