use Rattle.std.proofs.Common.{◌≡◌, ◌∙◌, ap, refl, length}
use Rattle.lxr_image.specs.Tables.{changed, tables_in}
use Rattle.lxr_image.proofs.WriteLemmas.{count_put, put_count_known}
use Rattle.lxr_image.proofs.words.HeapWords.set_count.Goals as goal

written : (c : goal.After-set_four) → tables_in c.args.limits c.set_four.new.words ≡ record (tables_in c.args.limits c.self.inside.plain) { counts = changed (tables_in c.args.limits c.self.inside.plain).counts c.args.granule c.args.count }
written c = count_put c.args.limits c.self.inside.plain c.set_four.new.words c.args.granule c.args.count c.regions-base.result.counts (ap (λ r. r.counts) c.regions-base.ensures) (ap length c.self.view_is ∙ c.requires.size) c.requires.granule
    c.set_four.ensures.table c.set_four.ensures.others

pub invariant_of-self : goal.invariant_of-self
invariant_of-self c = put_count_known c.self.inside.settled c.note_in.new.self c.args.limits c.self.inside.plain c.set_four.new.words c.note_in.ensures.blocks _ c.args.granule c.args.count refl c.note_in.ensures.knows (written c) c.self.invariant

pub returns : goal.returns
returns c = written c ∙ ap (λ ws. record (tables_in c.args.limits ws) { counts = changed (tables_in c.args.limits ws).counts c.args.granule c.args.count }) c.self.view_is
