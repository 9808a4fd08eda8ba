use Rattle.std.proofs.Common.{◌<◌, ◌≤◌, ◌++◌, length, take}
use Rattle.std.specs.Prelude.{flat_map}
use Rattle.lxr_text_print.specs.declared.pages.TheConstants.{PAGE}
use Rattle.lxr_text_print.specs.Pages.{Moves}
use Rattle.lxr_text_print.proofs.TextLemmas.{names_front}
use Rattle.lxr_text_print.specs.Lines.{spaced_name}
use Rattle.lxr_text_print.proofs.pauses.put_names.Given as goal

abbrev pub invariant-loop-name : goal.invariant-loop-name
invariant-loop-name g l =
    record {
      moved : Moves (g.O.Sink.written l.fn.output) (g.O.Sink.written l.output)
          ((l.fn.page ++ names_front l.label (length l.names.items)) ++ flat_map spaced_name (take l.name-index l.names.items)) l.page;
      room : length l.page < PAGE;
      faults : g.O.Sink.faults l.fn.output ≤ g.O.Sink.faults l.output;
    }
