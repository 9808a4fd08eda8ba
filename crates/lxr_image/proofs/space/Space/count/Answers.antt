use Rattle.std.proofs.Common.{◌+◌, ◌/◌, ◌<◌, ◌∙◌, ap, subst, sym, length, drop}
use Rattle.std.specs.Prelude.{slice_index}
use Rattle.lxr_layout.specs.declared.TheConstants.{COUNT_BITS}
use Rattle.lxr_tables.specs.declared.counts.TheConstants.{COUNTS_IN_WORD}
use Rattle.lxr_tables.specs.Entries.{table}
use Rattle.lxr_image.proofs.TableLaws.{count_read, count_within}
use Rattle.lxr_image.proofs.space.Space.count.Goals as goal

pub four-requires : goal.four-requires
four-requires c = subst (λ b. b + c.args.granule / COUNTS_IN_WORD < length c.args.self.now.words) (sym c.counts_begin-base.ensures)
    (count_within c.args.self.now.limits c.args.self.now.words c.args.granule c.requires.space.size c.requires.granule)

pub returns-clause-value : goal.returns-clause-value
returns-clause-value c =
    c.four.ensures.value ∙ ap (λ b. slice_index (table COUNT_BITS COUNTS_IN_WORD (drop b c.args.self.now.words)) c.args.granule) c.counts_begin-base.ensures
    ∙ count_read c.args.self.now.limits c.args.self.now.words c.args.granule c.requires.granule
