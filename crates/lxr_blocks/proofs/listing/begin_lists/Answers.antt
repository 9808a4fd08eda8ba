use Rattle.std.proofs.Common.{ap}
use Rattle.lxr_image.specs.declared.space.Space.{Space}
use Rattle.lxr_blocks.proofs.ListingLemmas.{counts_set}
use Rattle.lxr_blocks.proofs.listing.begin_lists.Goals as goal

pub returns : goal.returns
returns c =
    let all = counts_set c.args.space.now c.put_cursor.new.self c.put_cursor-2.new.self c.put_cursor-3.new.self c.put_cursor-4.new.self c.from.result c.from-2.result c.args.runs c.args.frees c.from.ensures c.from-2.ensures
    c.put_cursor.ensures c.put_cursor-2.ensures c.put_cursor-3.ensures c.put_cursor-4.ensures in
    record { tables = all.tables; rest = ap {A = Space} (λ s. record s { rest_next = 0; rest_end = 0 }) all.rest }
