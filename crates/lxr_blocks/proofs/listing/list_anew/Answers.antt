use Rattle.std.proofs.Common.{◌+◌, ◌∙◌, ap, arith, length, refl, subst, sym, take}
use Rattle.std.proofs.lemmas.List.{length-take-le}
use Rattle.lxr_image.specs.Runs.{with_runs}
use Rattle.lxr_image.specs.Settled.{AreRunsOfFree}
use Rattle.lxr_image.specs.Spaces.{Turns, tables_of}
use Rattle.lxr_image.proofs.WriteLemmas.{runs_moved}
use Rattle.lxr_blocks.specs.Listing.{run_words}
use Rattle.lxr_blocks.proofs.KnownLemmas.{runs_are_told, runs_of_mask}
use Rattle.lxr_blocks.proofs.listing.list_anew.Goals as goal

pub keep_runs-requires : goal.keep_runs-requires
keep_runs-requires c =
    let t = tables_of c.args.space.now in
    let words = c.find_runs-many.ensures.runs ∙ runs_of_mask t c.args.block c.free_mask.result c.free_mask.ensures in
    let found = take c.find_runs-many.result c.find_runs-many.new.words in
    subst (λ u. AreRunsOfFree found u c.args.block) (sym c.put_runs.ensures.tables)
    (runs_moved t (with_runs t c.args.first found) c.args.block found (record { counts = λ g. refl; starts = λ g. refl; outs = λ line. refl; states = λ b. refl })
    (subst (λ ws. AreRunsOfFree ws t c.args.block) (sym words) (runs_are_told t c.args.block)))

pub returns-clause-runs : goal.returns-clause-runs
returns-clause-runs c =
    let t = tables_of c.args.space.now in let same = c.keep_runs.ensures in
    let words = c.find_runs-many.ensures.runs ∙ runs_of_mask t c.args.block c.free_mask.result c.free_mask.ensures in
    subst (λ s. Turns c.args.space.now s (with_runs t c.args.first (run_words t c.args.block))) (sym same)
    (subst (λ ws. Turns c.args.space.now c.put_runs.new.self (with_runs t c.args.first ws)) words c.put_runs.ensures)

pub returns-clause-count : goal.returns-clause-count
returns-clause-count c =
    let t = tables_of c.args.space.now in
    let words = c.find_runs-many.ensures.runs ∙ runs_of_mask t c.args.block c.free_mask.result c.free_mask.ensures in
    let most = c.find_runs-many.ensures.most in
    let long = c.find_runs-many.array_long in
    let many = length-take-le c.find_runs-many.result c.find_runs-many.new.words (omega (arith, most, long)) in
    ap (λ n. c.args.first + n) (sym many ∙ ap length words)
