use Rattle.std.proofs.Common.{◌+◌, ◌∙◌, ap, arith}
use Rattle.std.specs.Prelude.{slice_index, slice_set}
use Rattle.std.specs.Mem.Slots.{slots_items}
use Rattle.std.proofs.lemmas.List.Edits.{paste_more}
use Rattle.lxr_tables.proofs.pages.Pages.put_all.Goals as goal

pub loop-offset-preserved : goal.loop-offset-preserved
loop-offset-preserved g c =
    let before = c.loop-offset.invariant in
    let row = slots_items c.args.row.now in let values = c.args.values.now in
    let at = c.args.at in let offset = c.loop-offset.offset in
    let within = c.requires.within in let less = c.loop-offset-test.true in
    record {
      paged = c.put.ensures.paged;
      words = c.put.ensures.words
          ∙ ap (λ xs. slice_set xs (at + offset) (slice_index values offset)) before.words
          ∙ paste_more row at values offset 0 (omega (arith, within, less)) less;
      places = record { start = c.put.ensures.places.start ∙ before.places.start; count = c.put.ensures.places.count ∙ before.places.count };
    }
