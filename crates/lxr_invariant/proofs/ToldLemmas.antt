-- What holds of a space at a moment reads neither its report nor its tally nor the number of pauses.
use Rattle.std.proofs.Common.{ℕ, ◌*◌, refl}
use Rattle.lxr_layout.specs.declared.TheConstants.{GRANULES_IN_BLOCK}
use Rattle.lxr_layout.specs.declared.Name.{Name}
use Rattle.lxr_graph.specs.declared.report.Report.{Report}
use Rattle.lxr_image.specs.declared.space.Space.{Space}
use Rattle.lxr_image.specs.declared.space.Tally.{Tally}
use Rattle.lxr_image.specs.Opened.{HasReportRoom}
use Rattle.lxr_model.specs.Moments.{Moment}
use Rattle.lxr_invariant.specs.Quiescent.{HoldsMoment}
use Rattle.lxr_invariant.proofs.FrameLemmas.{rest_still}

-- the space with another report, tally and number of pauses
abbrev pub with_report_and_tally : Space → Report → Tally → ℕ → Space
with_report_and_tally s r tally pauses = record s { report = r; tally = tally; pauses = pauses }

-- where the report has room, such a space holds the moments that the space holds
pub holds_told : (s : Space) (m : Moment) (at : Name → ℕ) (r : Report) (tally : Tally) (pauses : ℕ) → HasReportRoom r (GRANULES_IN_BLOCK * s.limits.blocks) → HoldsMoment s m at
    → HoldsMoment (with_report_and_tally s r tally pauses) m at
holds_told s m at r tally pauses room h = record {
  space = record { limits = h.space.limits; size = h.space.size };
  room = record { registers = h.room.registers; deferred = h.room.deferred; logged = h.room.logged; work = h.room.work; report = room };
  as_many = h.as_many;
  follows = h.follows;
  image = record { image = h.image.image; registers = h.image.registers; deferred = h.image.deferred; world = h.image.world };
  bits = h.bits;
  logs = h.logs;
  few_logs = h.few_logs;
  counts = h.counts;
  decrements = h.decrements;
  marks = h.marks;
  lines = h.lines;
  unchosen = h.unchosen;
  unused = h.unused;
  blocks = h.blocks;
  rest = record { rest = rest_still s (with_report_and_tally s r tally pauses) refl refl refl refl refl h.rest.rest; apart = h.rest.apart };
  no_work = h.no_work;
}
