use Rattle.std.proofs.Common.{refl}
use Rattle.std.specs.Prelude.{slice_set}
use Rattle.lxr_image.specs.Settled.{of_blocks}
use Rattle.lxr_image.specs.Tables.{tables_in}
use Rattle.lxr_image.proofs.PlaceLemmas.{for_blocks}
use Rattle.lxr_image.proofs.SettledLemmas.{same_known}
use Rattle.lxr_image.proofs.settled.Settled.note_place.Goals as goal

pub returns-in-Nothing : goal.returns-in-Nothing
returns-in-Nothing c = record {
  blocks = refl;
  knows = λ words value k. same_known c.args.self.now (tables_in (of_blocks c.args.self.now.blocks) words) (tables_in (of_blocks c.args.self.now.blocks) (slice_set words c.args.at value)) k (c.in-Nothing.ensures words value);
}

pub returns-in-Counts : goal.returns-in-Counts
returns-in-Counts c = record {
  blocks = c.note.ensures.blocks;
  knows = λ words value k. for_blocks c.args.self.now c.note.new.self (slice_set words c.args.at value) c.note.ensures.blocks
      (c.note.ensures.knows (tables_in (of_blocks c.args.self.now.blocks) words) (tables_in (of_blocks c.args.self.now.blocks) (slice_set words c.args.at value)) k (c.in-Counts.ensures words value));
}

pub returns-in-Lines : goal.returns-in-Lines
returns-in-Lines c = record {
  blocks = c.forget.ensures.blocks;
  knows = λ words value k. for_blocks c.args.self.now c.forget.new.self (slice_set words c.args.at value) c.forget.ensures.blocks
      (c.forget.ensures.knows (tables_in (of_blocks c.args.self.now.blocks) words) (tables_in (of_blocks c.args.self.now.blocks) (slice_set words c.args.at value)) k);
}
