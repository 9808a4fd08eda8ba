use Rattle.std.proofs.Common.{◌≡◌, ℕ, ◌-◌, ◌<◌, ◌≤◌, length}
use Rattle.lxr_image.specs.Settled.{StandsByLines}
use Rattle.lxr_image.specs.Spaces.{IsSpace, Turns, tables_of}
use Rattle.lxr_blocks.specs.Listing.{block_frees, joined, with_frees}
use Rattle.lxr_blocks.proofs.in_turn.list_frees.Given as goal

abbrev pub invariant-loop-at : goal.invariant-loop-at
invariant-loop-at l = record {
  space : IsSpace l.space;
  turns : Turns l.initial.space l.space (with_frees (tables_of l.initial.space) 0 (joined (block_frees (tables_of l.initial.space)) l.at));
  frees : l.frees ≡ length (joined (block_frees (tables_of l.initial.space)) l.at);
  room : l.frees ≤ l.at;
  within : l.at ≤ l.initial.space.limits.blocks;
  noted : l.noted ≤ l.initial.space.limits.blocks;
  known : (b : ℕ) → l.at ≤ b → b < l.noted → StandsByLines (tables_of l.initial.space) b;
}

abbrev pub decreases-loop-at : goal.decreases-loop-at
decreases-loop-at l = l.initial.space.limits.blocks - l.at
