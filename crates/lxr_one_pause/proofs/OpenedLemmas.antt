-- An opened space may pause: it holds the opening moment, and no pause was made.
use Rattle.std.proofs.Common.{◌≡◌, refl, ap, arith}
use Rattle.lxr_graph.specs.History.{report_of}
use Rattle.lxr_image.specs.declared.space.Tally.{Tally}
use Rattle.lxr_image.specs.Image.{opening_at}
use Rattle.lxr_model.specs.Moments.{opening_moment}
use Rattle.lxr_pause_decrements.proofs.OpenedLemmas.{opened_can_finish}
use Rattle.lxr_one_pause.specs.Opened.{OpenedCanPause}

pub opened_can_pause : OpenedCanPause
opened_can_pause s l limits opened =
    let can = opened_can_finish s l limits opened in
    let none = opened.pauses in
    let uncounted : s.tally.pauses ≡ 0 = ap (λ (t : Tally). t.pauses) opened.tally in
    let none_moved : s.tally.moved ≡ 0 = ap (λ (t : Tally). t.moved) opened.tally in
    let none_kept : s.tally.kept ≡ 0 = ap (λ (t : Tally). t.kept) opened.tally in (
      record { moment = opening_moment l.threads; at = opening_at; reported = report_of s.report },
      record {
        safepoint = record { holds = can.holds; numbers = record { pauses = opened.pauses; trace = opened.trace; report = refl }; traced = tt };
        objects = tt;
        counted = (omega (arith, none), omega (arith, uncounted));
        evacuated = (omega (arith, none_moved), omega (arith, none_kept));
      },
    )
