use Rattle.std.proofs.Common.{◌≡◌, ◌+◌, ◌∙◌, ap, length}
use Rattle.lxr_tables.specs.Words.{overwritten}
use Rattle.lxr_image.specs.Runs.{with_runs}
use Rattle.lxr_image.specs.Tables.{tables_in}
use Rattle.lxr_image.proofs.RunTableLemmas.{runs_written}
use Rattle.lxr_image.proofs.WriteLemmas.{run_words_known, size_is}
use Rattle.lxr_image.proofs.words.HeapWords.put_runs.Goals as goal

-- so many entries of the run table have changed
written : (c : goal.After-set_all) → tables_in c.args.limits c.set_all.new.self ≡ with_runs (tables_in c.args.limits c.self.inside.plain) c.args.at c.args.words.now
written c = ap (tables_in c.args.limits) (c.set_all.ensures ∙ ap (λ b. overwritten c.self.inside.plain (b + c.args.at) c.args.words.now) c.begin.ensures)
    ∙ runs_written c.args.limits c.self.inside.plain c.args.words.now c.args.at (size_is c.args.limits c.self.inside.plain ∙ ap length c.self.view_is ∙ c.requires.size) c.requires.at

pub invariant_of-self : goal.invariant_of-self
invariant_of-self c = run_words_known c.self.inside.settled c.keep_known.new.self c.args.limits c.self.inside.plain c.set_all.new.self c.keep_known.ensures.blocks c.args.at c.args.words.now c.keep_known.ensures.knows (written c) c.self.invariant

pub returns : goal.returns
returns c = written c ∙ ap (λ words. with_runs (tables_in c.args.limits words) c.args.at c.args.words.now) c.self.view_is
