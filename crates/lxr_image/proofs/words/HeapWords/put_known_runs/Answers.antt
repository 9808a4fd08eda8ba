use Rattle.std.proofs.Common.{◌≡◌, ◌+◌, ◌*◌, ◌<◌, ◌≤◌, ◌∙◌, ap, arith, length, refl, subst, sym}
use Rattle.std.specs.Prelude.{slice_index}
use Rattle.lxr_layout.specs.Spaces.{region_begin, region_sizes, runs_region}
use Rattle.lxr_tables.specs.Words.{overwritten}
use Rattle.lxr_image.specs.Runs.{with_runs}
use Rattle.lxr_image.specs.Settled.{AreRunsOfFree}
use Rattle.lxr_image.specs.Tables.{tables_in}
use Rattle.lxr_image.proofs.RunTableLemmas.{runs_within, runs_written}
use Rattle.lxr_image.proofs.SettledLemmas.{same_known}
use Rattle.lxr_image.proofs.WriteLemmas.{kept_words, run_words_known, runs_few, size_is}
use Rattle.lxr_image.proofs.words.HeapWords.put_known_runs.Goals as goal

pub set_all-requires : goal.set_all-requires
set_all-requires c =
    let words = c.in_ok-words.words.now in let plain = c.self.inside.plain in let l = c.args.limits in
    let told = kept_words c.self.inside.settled l plain words c.args.block c.in_ok-words.ensures.blocks.0 c.in_ok-words.ensures.words c.self.invariant in
    let most = runs_few words (tables_in l plain) c.args.block told in
    let first = c.requires.at in let block = c.in_ok-words.ensures.blocks.1 in
    let within : c.args.at + length words ≤ slice_index (region_sizes l) runs_region = omega (arith, most, first, block) in
    let room = runs_within l plain (c.args.at + length words) (size_is l plain ∙ ap length c.self.view_is ∙ c.requires.size) within in
    let begin : c.begin.result ≡ region_begin l runs_region = c.begin.ensures in
    omega (arith, room, begin)

told : (c : goal.After-set_all) → AreRunsOfFree c.in_ok-words.words.now (tables_in c.args.limits c.self.inside.plain) c.args.block
told c = kept_words c.self.inside.settled c.args.limits c.self.inside.plain c.in_ok-words.words.now c.args.block c.in_ok-words.ensures.blocks.0 c.in_ok-words.ensures.words c.self.invariant

few : (c : goal.After-set_all) → length c.in_ok-words.words.now ≤ 64
few c = runs_few c.in_ok-words.words.now (tables_in c.args.limits c.self.inside.plain) c.args.block (told c)

pub overflow_cast-result : goal.overflow_cast-result
overflow_cast-result c = let most = few c in omega (arith, most)

-- so many entries of the run table have changed
written : (c : goal.After-set_all) → tables_in c.args.limits c.set_all.new.self ≡ with_runs (tables_in c.args.limits c.self.inside.plain) c.args.at c.in_ok-words.words.now
written c =
    let most = few c in let first = c.requires.at in let block = c.in_ok-words.ensures.blocks.1 in
    ap (tables_in c.args.limits) (c.set_all.ensures ∙ ap (λ b. overwritten c.self.inside.plain (b + c.args.at) c.in_ok-words.words.now) c.begin.ensures)
    ∙ runs_written c.args.limits c.self.inside.plain c.in_ok-words.words.now c.args.at (size_is c.args.limits c.self.inside.plain ∙ ap length c.self.view_is ∙ c.requires.size) (omega (arith, most, first, block))

pub invariant_of-self : goal.invariant_of-self
invariant_of-self c =
    run_words_known c.self.inside.settled c.self.inside.settled c.args.limits c.self.inside.plain c.set_all.new.self refl c.args.at c.in_ok-words.words.now
    (λ t u k same. same_known c.self.inside.settled t u k (same (sym c.in_ok-words.ensures.blocks.0))) (written c) c.self.invariant

pub returns-clause-some : goal.returns-clause-some
returns-clause-some c = (
  c.in_ok-words.words.now,
  subst (λ ws. AreRunsOfFree c.in_ok-words.words.now (tables_in c.args.limits ws) c.args.block) c.self.view_is (told c),
  refl,
  written c ∙ ap (λ ws. with_runs (tables_in c.args.limits ws) c.args.at c.in_ok-words.words.now) c.self.view_is,
)
