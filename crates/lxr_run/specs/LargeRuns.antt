-- What a run of a script with large objects leaves, at its end or where it was cut off. Nothing looks at its pauses.
use Rattle.std.specs.Prelude.{◌≡◌, List, []}
use Rattle.lxr_large_model.specs.declared.LargeOp.{LargeOp}
use Rattle.lxr_large_run.specs.Played.{IsCutOff, IsPlayed}
use Rattle.lxr_large_run.specs.Playing.{LargeTask, large_terms}
use Rattle.lxr_words.specs.declared.Options.{Options}
use Rattle.lxr_run.specs.Runs.{Run}
use Rattle.lxr_run.specs.Script.{WasAskedLarge}

-- what playing begins with
abbrev pub large_task_of : {I O W : Type 0} → Run I O W → Options → List LargeOp → LargeTask
large_task_of run options operations = record {
  terms = large_terms options.blocks options.bodies;
  counts = options.counts;
  operations = operations;
  written = run.output.bytes run.output.before;
}

-- The script was played to its end: the text of one history of it was written, and the space of the objects is left by that.
pub record IsLargeDone {I O W : Type 0} (run : Run I O W) : Type 0 where
  pub options : Options
  pub operations : List LargeOp
  pub asked : WasAskedLarge run.words run.input options operations
  pub played : IsPlayed (large_task_of run options operations) (run.output.bytes run.output.after) run.space
  pub unseen : run.watch.after ≡ run.watch.before

-- Playing was cut off: a prefix of the text of a history was written, whole or up to a pause, and there is no space.
pub record IsLargeCutOff {I O W : Type 0} (run : Run I O W) : Type 0 where
  pub options : Options
  pub operations : List LargeOp
  pub asked : WasAskedLarge run.words run.input options operations
  pub cut_off : IsCutOff (large_task_of run options operations) (run.output.bytes run.output.after)
  pub unseen : run.watch.after ≡ run.watch.before
  pub space : run.space.words ≡ []
