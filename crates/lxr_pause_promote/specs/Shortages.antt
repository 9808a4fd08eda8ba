-- What is known of lines that are wanting.
use Rattle.std.specs.Prelude.{◌<◌}
use Rattle.lxr_layout.specs.declared.runs.Run.{Run}
use Rattle.lxr_image.specs.declared.space.Space.{Space}
use Rattle.lxr_image.specs.Spaces.{tables_of}
use Rattle.lxr_blocks.specs.States.{IsOpenRun}
use Rattle.lxr_pause_promote.specs.declared.shortage.Shortage.{Shortage}

-- no free lines in a row outside Chosen blocks are so many as are known to be wanting
abbrev pub IsShortage : Space → Shortage → Type 0
IsShortage s shortage = (q : Run) → IsOpenRun (tables_of s) s.limits.blocks q → q.lines < shortage.lines
