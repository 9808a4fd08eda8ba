use Rattle.std.proofs.Common.{◌≡◌, ◌+◌, ◌*◌, ◌^◌, ◌<◌, ℕ}
use Rattle.std.specs.Prelude.{slice_index}
use Rattle.lxr_tables.specs.declared.lanes.TheConstants.{LANES}
use Rattle.lxr_tables.proofs.BitLemmas.{TellsOf}
use Rattle.lxr_tables.proofs.lanes.zero_words.Given as goal

abbrev pub invariant-loop-group : goal.invariant-loop-group
invariant-loop-group g l =
    record {
      fit : l.zeros < 2 ^ (LANES * l.group);
      told : TellsOf (λ i. slice_index (g.W.Words.words_of l.words) (l.first + i) ≡ 0) (LANES * l.group) l.zeros;
      range : (i : ℕ) → i < LANES * l.group → slice_index (g.W.Words.words_of l.words) (l.first + i) < 2 ^ 64;
    }
