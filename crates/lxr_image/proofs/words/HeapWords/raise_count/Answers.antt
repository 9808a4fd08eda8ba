use Rattle.std.proofs.Common.{◌≡◌, ◌∙◌, ap, sym, length}
use Rattle.lxr_image.specs.Tables.{changed, tables_in}
use Rattle.lxr_image.proofs.WriteLemmas.{count_at, count_known, count_put}
use Rattle.lxr_image.proofs.words.HeapWords.raise_count.Goals as goal

read : (c : goal.After-note_count) → c.raise_four-raised.result.old ≡ (tables_in c.args.limits c.self.inside.plain).counts c.args.granule
read c = c.raise_four-raised.ensures.old ∙ count_at c.args.limits c.self.inside.plain c.args.granule c.regions-base.result.counts (ap (λ r. r.counts) c.regions-base.ensures) c.requires.granule

written : (c : goal.After-note_count) → tables_in c.args.limits c.raise_four-raised.new.words ≡ record (tables_in c.args.limits c.self.inside.plain) { counts = changed (tables_in c.args.limits c.self.inside.plain).counts c.args.granule c.raise_four-raised.result.now }
written c = count_put c.args.limits c.self.inside.plain c.raise_four-raised.new.words c.args.granule c.raise_four-raised.result.now c.regions-base.result.counts (ap (λ r. r.counts) c.regions-base.ensures) (ap length c.self.view_is ∙ c.requires.size) c.requires.granule
    c.raise_four-raised.ensures.table c.raise_four-raised.ensures.others

pub invariant_of-self : goal.invariant_of-self
invariant_of-self c =
    count_known c.self.inside.settled c.note_count.new.self c.args.limits c.self.inside.plain c.raise_four-raised.new.words c.note_count.ensures.blocks c.args.granule c.raise_four-raised.result.old c.raise_four-raised.result.now c.note_count.ensures.knows (sym (read c)) (written c) c.self.invariant

pub returns-clause-old : goal.returns-clause-old
returns-clause-old c = read c ∙ ap (λ ws. (tables_in c.args.limits ws).counts c.args.granule) c.self.view_is

pub returns-clause-tables : goal.returns-clause-tables
returns-clause-tables c = written c ∙ ap (λ ws. record (tables_in c.args.limits ws) { counts = changed (tables_in c.args.limits ws).counts c.args.granule c.raise_four-raised.result.now }) c.self.view_is
