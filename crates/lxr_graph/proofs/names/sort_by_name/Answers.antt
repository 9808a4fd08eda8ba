use Rattle.std.proofs.Common.{rules}
use Rattle.std.proofs.lemmas.List.Sorted.{IsPermutation-trans, answers_always}
use Rattle.std.specs.Ordering.{is_lt}
use Rattle.lxr_graph.specs.Names.{name_order}
use Rattle.lxr_graph.proofs.NameLemmas.{names_rank, sorted_items}
use Rattle.lxr_graph.proofs.names.sort_by_name.Goals as goal

pub returns-clause-permutation : goal.returns-clause-permutation
returns-clause-permutation g c = IsPermutation-trans _ _ _ c.turn_upwards.ensures.permutation c.sort_unstable_by.ensures.permutation

pub returns-clause-order : goal.returns-clause-order
returns-clause-order g c =
    let name_of = g.T.Named.name_of in
    let sort = c.sort_unstable_by.ensures in
    let both = IsPermutation-trans _ _ _ c.turn_upwards.ensures.permutation sort.permutation in
    sorted_items name_of c.args.list.now.items c.sort_unstable_by.new.self.items c.requires both
    (sort.sorted (λ a b. is_lt (name_order (name_of a) (name_of b))) (names_rank name_of) (answers_always _ _ _ (λ f a r g h. search rules)))
