use Rattle.lxr_image.specs.Spaces.{tables_of}
use Rattle.lxr_blocks.specs.Listing.{listed_frees, listed_runs}
use Rattle.lxr_blocks.proofs.ListingLemmas.{begun_lists}
use Rattle.lxr_blocks.proofs.listing.list_runs.Goals as goal

pub returns-clause-lists : goal.returns-clause-lists
returns-clause-lists c =
    let s = c.args.space.now in let t = tables_of s in
    begun_lists s c.list_all-runs.new.space c.begin_lists.new.space (listed_runs t s.limits.blocks) (listed_frees t s.limits.blocks) _ _ c.list_all-runs.ensures.lists c.list_all-runs.ensures.runs c.list_all-runs.ensures.frees c.begin_lists.ensures
