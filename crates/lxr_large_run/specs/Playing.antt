-- How far a script with large objects was played: what holds between its operations, and right after a call.
use Rattle.std.specs.Prelude.{◌≡◌, ℕ, ◌+◌, ◌*◌, ◌≤◌, ◌&&◌, not, Bool, Option, List, [], ◌∷◌, ◌++◌, length}
use Rattle.lxr_graph.specs.declared.report.Report.{Report}
use Rattle.lxr_text_script.specs.declared.TheConstants.{SCRIPT_REGISTERS}
use Rattle.lxr_text_stream.specs.Streams.{Appends, AppendsFront}
use Rattle.lxr_text_print.specs.Reports.{is_plain}
use Rattle.lxr_one_pause.specs.Telling.{TellsWanted}
use Rattle.lxr_large_model.specs.declared.LargeOp.{LargeOp}
use Rattle.lxr_large_model.specs.declared.LargeReply.{LargeReply}
use Rattle.lxr_large_model.specs.Full.{LargeTerms}
use Rattle.lxr_large_model.specs.History.{LargeItem, Called}
use Rattle.lxr_large_model.specs.Pauses.{PausesHaveCauses, most_logged}
use Rattle.lxr_large_text.specs.Limits.{IsLargeScript}
use Rattle.lxr_heap.specs.declared.heap.Heap.{Heap}
use Rattle.lxr_heap.specs.declared.opening.Sizes.{Sizes}
use Rattle.lxr_heap.specs.Holding.{IsHeapOf, terms_of}
use Rattle.lxr_large_text.specs.Histories.{EndsAtPause, IsLargeSoFar, called_in, replied_in, with_end}
use Rattle.lxr_large_text.specs.Texts.{large_reports_text}
use Rattle.lxr_heap.specs.Acting.{WantsPause}

-- what a script is played on: so many blocks, so many for bodies, and the registers of scripts
abbrev pub large_terms : ℕ → ℕ → LargeTerms
large_terms blocks bodies = record { blocks = blocks; bodies = bodies; registers = SCRIPT_REGISTERS }

-- the sizes of the heap that a script is played on: it records as many stores between two pauses as its histories have at most
abbrev pub script_sizes : ℕ → ℕ → Sizes
script_sizes blocks bodies = record { blocks = blocks; bodies = bodies; registers = SCRIPT_REGISTERS; log = most_logged }

-- What playing begins with: how many blocks there are, whether counts are printed, the operations of the script, and what was written before it,
-- where it is told.
pub record LargeTask : Type 0 where
  pub terms : LargeTerms
  pub counts : Bool
  pub operations : List LargeOp
  pub written : Option (List ℕ)

-- A report tells its counts where they are printed: where they are asked for, and the pause isn't plain. Else it tells none.
abbrev pub TellsPrinted : Bool → Report → Type 0
TellsPrinted counts r = TellsWanted (counts && not (is_plain r.kind)) r

-- The script was played up to these operations: the heap is that of a history whose calls are those before them, nothing is owed to it, its
-- replies are kept, its reports were written, and the last one tells the counts that are printed. Two pauses at most were made for each call, and one
-- object, and nothing dies before its pause.
pub record IsPlaying (task : LargeTask) (rest : List LargeOp) (x : Heap) (written : Option (List ℕ)) (kept : List LargeReply) (h : List LargeItem) : Type 0 where
  pub script : IsLargeScript task.operations
  pub holds : IsHeapOf x h
  pub terms : terms_of x ≡ task.terms
  pub log : x.space.limits.log ≡ most_logged
  pub registers : task.terms.registers ≡ SCRIPT_REGISTERS
  pub calls : called_in h ++ rest ≡ with_end task.operations
  pub causes : PausesHaveCauses task.terms [] h
  pub replies : replied_in h ≡ kept
  pub text : Appends task.written written (large_reports_text task.counts h)
  pub told : TellsPrinted task.counts x.space.report
  pub pauses : x.space.pauses ≤ 2 * length kept
  pub made : x.made ≤ length kept
  pub none_gone : x.gone.items ≡ []

-- An operation has just come, with this reply, behind a history k and before these operations: what it asks for is still owed, and its reply
-- isn't kept yet.
pub record HasCome (task : LargeTask) (o : LargeOp) (rest : List LargeOp) (r : LargeReply) (x : Heap) (written : Option (List ℕ)) (kept : List LargeReply) (k : List LargeItem) : Type 0 where
  pub script : IsLargeScript task.operations
  pub holds : IsHeapOf x (Called o r ∷ k)
  pub terms : terms_of x ≡ task.terms
  pub log : x.space.limits.log ≡ most_logged
  pub registers : task.terms.registers ≡ SCRIPT_REGISTERS
  pub calls : called_in k ++ o ∷ rest ≡ with_end task.operations
  pub causes : PausesHaveCauses task.terms (Called o r ∷ []) k
  pub replies : replied_in k ≡ kept
  pub text : Appends task.written written (large_reports_text task.counts k)
  pub told : TellsPrinted task.counts x.space.report
  pub pauses : x.space.pauses ≤ 2 * length kept + 1
  pub made : x.made ≤ length kept + 1
  pub none_gone : x.gone.items ≡ []

-- a task with these counts was played up to this operation
abbrev pub SomeIsPlaying : Bool → LargeOp → Heap → Option (List ℕ) → List LargeReply → Type 0
SomeIsPlaying counts o x written replies = (task : LargeTask) × (task.counts ≡ counts) × (rest : List LargeOp) × (h : List LargeItem) × IsPlaying task (o ∷ rest) x written replies h

-- so it was, and the operation wants a pause before it
abbrev pub SomeWantsPause : Bool → LargeOp → Bool → Heap → Option (List ℕ) → List LargeReply → Type 0
SomeWantsPause counts o collect x written replies = (task : LargeTask) × (task.counts ≡ counts) × (rest : List LargeOp) × (h : List LargeItem) × IsPlaying task (o ∷ rest) x written replies h × WantsPause x h o collect

-- Playing was cut off as a report was printed: a prefix of the reports of a history so far was written.
pub record IsCutEarly (task : LargeTask) (written : Option (List ℕ)) : Type 0 where
  pub history : List LargeItem
  pub so_far : IsLargeSoFar task.terms task.operations history
  pub at_pause : EndsAtPause history
  pub text_front : AppendsFront task.written written (large_reports_text task.counts history)
