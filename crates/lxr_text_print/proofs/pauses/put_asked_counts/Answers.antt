use Rattle.std.proofs.Common.{◌≡◌, ◌∙◌, [], ap, refl, sym, Bool, true, false}
use Rattle.std.proofs.lemmas.List.{append-nil}
use Rattle.std.specs.Prelude.{◌&&◌, IsTrue, flat_map, not}
use Rattle.lxr_graph.specs.declared.report.Report.{Report}
use Rattle.lxr_graph.specs.History.{HasToldCounts, PauseReport, report_of}
use Rattle.lxr_text_print.specs.Reports.{count_text, counts_text, is_plain}
use Rattle.lxr_text_print.proofs.PageLemmas.{Moves-none}
use Rattle.lxr_text_print.proofs.pauses.put_asked_counts.Goals as goal
use Rattle.lxr_text_print.proofs.pauses.put_asked_counts.Goals.{else-asked-via-then-asked+else-has_counts, else-asked-via-else-asked}

-- where counts are asked for and the pause has them, they are those that were told
shown : (asked : Bool) (r : Report) → (IsTrue (asked && not (is_plain r.kind)) → HasToldCounts r) → asked ≡ true → not (is_plain r.kind) ≡ true
    → counts_text asked (report_of r) ≡ flat_map count_text r.told.items
unfolding counts_text
shown asked r told a p =
    let both : IsTrue (asked && not (is_plain r.kind)) = rw (a, p) refl in
    rw (a, p) (ap (flat_map count_text) (sym (told both)))

-- where they aren't asked for
not_asked : (asked : Bool) (r : PauseReport) → asked ≡ false → counts_text asked r ≡ []
unfolding counts_text
not_asked asked r a = rw a refl

-- where the pause has none
plain : (asked : Bool) (r : PauseReport) → not (is_plain r.kind) ≡ false → counts_text asked r ≡ []
unfolding counts_text
plain true r p = rw p refl
plain false r p = refl

pub returns-then-has_counts-clause-ok : goal.returns-then-has_counts-clause-ok
returns-then-has_counts-clause-ok g c =
    rw (shown c.args.asked c.args.report.now c.requires.told c.if-asked.true (sym c.has_counts.ensures ∙ c.if-has_counts.true)) c.put_counts.ensures.ok

pub returns-then-has_counts-clause-err : goal.returns-then-has_counts-clause-err
returns-then-has_counts-clause-err g c =
    rw (shown c.args.asked c.args.report.now c.requires.told c.if-asked.true (sym c.has_counts.ensures ∙ c.if-has_counts.true)) c.put_counts.ensures.err

pub returns-else-asked-clause-ok : goal.returns-else-asked-clause-ok
returns-else-asked-clause-ok g c =
    let none : counts_text c.args.asked (report_of c.args.report.now) ≡ [] =
    elim c.else-asked.branch [
      | else-asked-via-then-asked+else-has_counts w ↦ plain c.args.asked (report_of c.args.report.now) (sym w.has_counts.ensures ∙ w.if-has_counts.false)
      | else-asked-via-else-asked w ↦ not_asked c.args.asked (report_of c.args.report.now) w.if-asked.false
    ] in
    rw (none, append-nil c.args.page.now) (Moves-none (g.O.Sink.written c.args.output.now) c.args.page.now)
