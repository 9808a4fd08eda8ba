use Rattle.std.proofs.Common.{Some, ap, refl, sym, ◌∙◌}
use Rattle.std.proofs.lemmas.Option.{slice_get-get_or}
use Rattle.lxr_hints.proofs.shared.SharedDeques.steal.Goals as goal

pub returns-clause-stolen : goal.returns-clause-stolen
returns-clause-stolen g c = record {
  way = c.index_mut.result.now;
  was = slice_get-get_or _ _ _ c.requires.number ∙ ap Some (sym c.index_mut.ensures.value);
  behind = c.steal.new.self;
  is = refl;
  stolen = c.steal.ensures.stolen;
  own = refl;
}
