use Rattle.std.proofs.Common.{◌≡◌, ◌∙◌, ap, arith, length, subst, List, ℕ}
use Rattle.lxr_layout.specs.declared.limits.Limits.{Limits}
use Rattle.lxr_image.specs.declared.space.Space.{Space}
use Rattle.lxr_image.specs.Spaces.{Turns, tables_of}
use Rattle.lxr_blocks.specs.InTurn.{round_from, runs_from}
use Rattle.lxr_blocks.specs.Listing.{listed_frees, with_frees}
use Rattle.lxr_blocks.proofs.InTurnLemmas.{both_listed}
use Rattle.lxr_blocks.proofs.ListingLemmas.{begun_lists}
use Rattle.lxr_blocks.proofs.in_turn.list_in_turn.Goals as goal

pub returns-clause-lists : goal.returns-clause-lists
returns-clause-lists c =
    let s = c.args.space.now in let t = tables_of s in let blocks = s.limits.blocks in
    let then = c.list_round-passed.new.space in
    let round = c.list_round-passed.ensures in let numbered = c.list_frees-frees.ensures in
    let passed = c.list_round-passed.result.0 in
    let limits : then.limits ≡ s.limits = ap (λ (z : Space). z.limits) round.runs.rest in
    let frees_are : listed_frees (tables_of then) then.limits.blocks ≡ listed_frees t blocks = (λ j. listed_frees (round.runs.tables j) (limits j).blocks) in
    let frees : Turns then c.list_frees-frees.new.space (with_frees (tables_of then) 0 (listed_frees t blocks)) =
    subst (λ (ys : List ℕ). Turns then c.list_frees-frees.new.space (with_frees (tables_of then) 0 ys)) frees_are numbered.frees in
    let lists = begun_lists s c.list_frees-frees.new.space c.begin_lists.new.space (runs_from t blocks c.args.from passed) (listed_frees t blocks) c.list_round-passed.result.1 c.list_frees-frees.result
    (both_listed s then c.list_frees-frees.new.space (runs_from t blocks c.args.from passed) (listed_frees t blocks) round.runs frees) round.count (numbered.count ∙ ap length frees_are) c.begin_lists.ensures in
    let same = round.count in let few = round.few in (
      passed,
      record {
        lists = lists;
        once = round.once;
        few = omega (arith, same, few);
        full = λ less. let full = round.full less in omega (arith, same, full);
      },
      c.block_after.ensures.around ∙ ap (λ (l : Limits). round_from l.blocks c.args.from passed) (ap (λ (z : Space). z.limits) lists.rest),
    )
