-- What is told pause by pause grows by the reports of pauses alone, in front of which nothing was told.
use Rattle.std.proofs.Common.{◌≡◌, ℕ, refl, ◌∙◌, Bool, List, [], ◌∷◌, ◌++◌}
use Rattle.lxr_graph.specs.declared.Op.{Op}
use Rattle.lxr_graph.specs.declared.Reply.{Reply}
use Rattle.lxr_graph.specs.History.{Item, Call, Pause, PauseReport}
use Rattle.lxr_words.specs.declared.Command.{Command}
use Rattle.lxr_words.specs.declared.Command.TheVariants.{Judge, Large, Load, Map, Order, Run}
use Rattle.lxr_core_invariant.specs.EpochStates.{Extends, called, same}
use Rattle.lxr_run_history.specs.Sums.{totals_of}
use Rattle.lxr_run_history.specs.Texts.{told_by, told_report}

-- nothing is told at first
pub told_none : (command : Command) (counts : Bool) → told_by command counts [] ≡ []
told_none Run counts = refl
told_none Map counts = refl
told_none Order counts = refl
told_none Judge counts = refl
told_none Large counts = refl
told_none (Load seed) counts = refl

-- nor of a call
pub told_call : (command : Command) (counts : Bool) (t : ℕ) (o : Op) (r : Reply) (h : List Item) → told_by command counts (Call t o r ∷ h) ≡ told_by command counts h
told_call Run counts t o r h = refl
told_call Map counts t o r h = refl
told_call Order counts t o r h = refl
told_call Judge counts t o r h = refl
told_call Large counts t o r h = refl
told_call (Load seed) counts t o r h = refl

-- a report stands behind what was told before
pub told_pause : (command : Command) (counts : Bool) (h : List Item) (report : PauseReport) → told_by command counts (Pause report ∷ h) ≡ told_by command counts h ++ told_report command counts report
told_pause Run counts h report = refl
told_pause Map counts h report = refl
told_pause Order counts h report = refl
told_pause Judge counts h report = refl
told_pause Large counts h report = refl
told_pause (Load seed) counts h report = refl

-- ---- by calls alone

-- nothing more is told
pub told_extends : (command : Command) (counts : Bool) (threads every : ℕ) (h k : List Item) → Extends threads every h k → told_by command counts k ≡ told_by command counts h
told_extends command counts threads every h k (same) = refl
told_extends command counts threads every h k (called l t o r before is) = told_call command counts t o r l ∙ told_extends command counts threads every h l before

-- and the totals of the reports stay
pub totals_extend : (threads every : ℕ) (h k : List Item) → Extends threads every h k → totals_of k ≡ totals_of h
totals_extend threads every h k (same) = refl
totals_extend threads every h k (called l t o r before is) = totals_extend threads every h l before
