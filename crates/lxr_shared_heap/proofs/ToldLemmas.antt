-- A run whose space lists what is left stays between two epochs.
use Rattle.std.proofs.Common.{List}
use Rattle.std.specs.Prelude.{Option}
use Rattle.lxr_graph.specs.declared.report.Count.{Count}
use Rattle.lxr_graph.specs.History.{Item}
use Rattle.lxr_image.specs.declared.space.Space.{Space}
use Rattle.lxr_invariant.specs.AbstractState.{AbstractState}
use Rattle.lxr_pause_queue.specs.Entries.{with_told}
use Rattle.lxr_core.specs.declared.actors.AnyActor.{AnyActor}
use Rattle.lxr_one_pause.proofs.TellingLemmas.{quiescent_told}
use Rattle.lxr_sights.specs.Sights.{Sight}
use Rattle.lxr_rounds_invariant.specs.LoopInvariant.{IsBetweenEpochs, Task}
use Rattle.lxr_rounds.proofs.TellingLemmas.{come_retold}

pub between_told : (task : Task) (space : Space) (seen : Option (List Sight)) (actors : List AnyActor) (h : List Item) (g : AbstractState) (told : List Count) → IsBetweenEpochs task space seen actors h g
    → IsBetweenEpochs task (with_told space told) seen actors h g
between_told task space seen actors h g told amid =
    let listed = amid.listed in
    record {
      come = come_retold task space seen h g (with_told space told).report amid.come;
      between = quiescent_told space g told amid.between;
      listed = record {
        no_runs_drawn = listed.no_runs_drawn;
        no_blocks_drawn = listed.no_blocks_drawn;
        few_runs = listed.few_runs;
        few_blocks = listed.few_blocks;
        runs = listed.runs;
        blocks = listed.blocks;
        runs_apart = listed.runs_apart;
        blocks_apart = listed.blocks_apart;
        all_apart = listed.all_apart;
        no_rest = listed.no_rest;
      };
      all_listed = amid.all_listed;
      actors_rest = amid.actors_rest;
      served = amid.served;
      owes_none = amid.owes_none;
      few = amid.few;
      more = amid.more;
    }
