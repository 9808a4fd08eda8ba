use Rattle.std.proofs.Common.{◌≡◌, ℕ, ◌∙◌, ap, subst, sym, length}
use Rattle.std.specs.Prelude.{slice_index, slice_set}
use Rattle.lxr_tables.specs.Counts.{lowered_count, lowered_of}
use Rattle.lxr_tables.specs.Entries.{counts_from}
use Rattle.lxr_image.specs.Tables.{changed, tables_in}
use Rattle.lxr_image.proofs.TableLaws.{count_fits}
use Rattle.lxr_image.proofs.WriteLemmas.{count_at, count_known, count_put}
use Rattle.lxr_image.proofs.words.HeapWords.lower_count.Goals as goal

pub lower_four-lowered-requires-clause-counted : goal.lower_four-lowered-requires-clause-counted
lower_four-lowered-requires-clause-counted c = λ none. c.requires.counted (subst (λ ws. (tables_in c.args.limits ws).counts c.args.granule ≡ 0) c.self.view_is
    (sym (count_at c.args.limits c.self.inside.plain c.args.granule c.regions-base.result.counts (ap (λ r. r.counts) c.regions-base.ensures) c.requires.granule) ∙ none))

-- the count before
abbrev before : goal.After-note_count → ℕ
before c = (tables_in c.args.limits c.self.inside.plain).counts c.args.granule

read : (c : goal.After-note_count) → slice_index (counts_from c.self.inside.plain c.regions-base.result.counts) c.args.granule ≡ before c
read c = count_at c.args.limits c.self.inside.plain c.args.granule c.regions-base.result.counts (ap (λ r. r.counts) c.regions-base.ensures) c.requires.granule

written : (c : goal.After-note_count) → tables_in c.args.limits c.lower_four-lowered.new.words ≡ record (tables_in c.args.limits c.self.inside.plain) { counts = changed (tables_in c.args.limits c.self.inside.plain).counts c.args.granule (lowered_count (before c)) }
written c = count_put c.args.limits c.self.inside.plain c.lower_four-lowered.new.words c.args.granule (lowered_count (before c)) c.regions-base.result.counts (ap (λ r. r.counts) c.regions-base.ensures) (ap length c.self.view_is ∙ c.requires.size) c.requires.granule
    (c.lower_four-lowered.ensures.table ∙ ap (λ n. slice_set (counts_from c.self.inside.plain c.regions-base.result.counts) c.args.granule (lowered_count n)) (read c)) c.lower_four-lowered.ensures.others

pub invariant_of-self : goal.invariant_of-self
invariant_of-self c =
    let told = c.change_of-old.ensures (before c) (λ none. c.requires.counted (subst (λ ws. (tables_in c.args.limits ws).counts c.args.granule ≡ 0) c.self.view_is none)) (count_fits c.args.limits c.self.inside.plain c.args.granule)
    (c.lower_four-lowered.ensures.answer ∙ ap lowered_of (read c)) in
    count_known c.self.inside.settled c.note_count.new.self c.args.limits c.self.inside.plain c.lower_four-lowered.new.words c.note_count.ensures.blocks c.args.granule c.change_of-old.result.0 c.change_of-old.result.1 c.note_count.ensures.knows (sym told.0)
    (written c ∙ ap (λ n. record (tables_in c.args.limits c.self.inside.plain) { counts = changed (tables_in c.args.limits c.self.inside.plain).counts c.args.granule n }) (sym told.1)) c.self.invariant

pub returns-clause-answer : goal.returns-clause-answer
returns-clause-answer c = c.lower_four-lowered.ensures.answer ∙ ap lowered_of (read c ∙ ap (λ ws. (tables_in c.args.limits ws).counts c.args.granule) c.self.view_is)

pub returns-clause-tables : goal.returns-clause-tables
returns-clause-tables c = written c ∙ ap (λ ws. record (tables_in c.args.limits ws) { counts = changed (tables_in c.args.limits ws).counts c.args.granule (lowered_count ((tables_in c.args.limits ws).counts c.args.granule)) }) c.self.view_is
