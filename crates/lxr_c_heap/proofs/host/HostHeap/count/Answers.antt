use Rattle.std.proofs.Common.{◌∙◌, refl, sym, ap, subst, length}
use Rattle.lxr_c_heap.specs.Looking.{Counts}
use Rattle.lxr_c_heap.proofs.host.HostHeap.count.Goals as goal

pub returns-in-Pauses : goal.returns-in-Pauses
returns-in-Pauses c = λ h is. subst (λ w. Counts c.args.self.now h w c.args.self.now.pauses) (sym c.in-Pauses.is) refl

pub returns-in-Promoted : goal.returns-in-Promoted
returns-in-Promoted c = λ h is. subst (λ w. Counts c.args.self.now h w c.len.result) (sym c.in-Promoted.is) (c.len.ensures ∙ ap (λ r. length r.promoted.items) c.report-report.ensures)

pub returns-in-Dead : goal.returns-in-Dead
returns-in-Dead c = λ h is. subst (λ w. Counts c.args.self.now h w c.len-in-Dead.result) (sym c.in-Dead.is) (c.len-in-Dead.ensures ∙ ap (λ r. length r.dead.items) c.report-report.ensures)

pub returns-in-Stuck : goal.returns-in-Stuck
returns-in-Stuck c = λ h is. subst (λ w. Counts c.args.self.now h w c.len-in-Stuck.result) (sym c.in-Stuck.is) (c.len-in-Stuck.ensures ∙ ap (λ r. length r.stuck.items) c.report-report.ensures)

pub returns-in-Swept : goal.returns-in-Swept
returns-in-Swept c = λ h is. subst (λ w. Counts c.args.self.now h w c.len-in-Swept.result) (sym c.in-Swept.is) (c.len-in-Swept.ensures ∙ ap (λ r. length r.swept.items) c.report-report.ensures)
