use Rattle.std.proofs.Common.{◌≡◌, ◌*◌, ◌/◌, ◌%◌, ◌^◌, ◌∙◌, sym, lit<, arith, eq-eqb, drop}
use Rattle.std.specs.Prelude.{slice_index}
use Rattle.std.specs.Int.Bits.{bit_and}
use Rattle.std.proofs.lemmas.Nat.Bits.{shr_and_one}
use borrow.Author.Tests.{eqb-true}
use Rattle.lxr_tables.specs.Entries.{table}
use Rattle.lxr_tables.proofs.EntryLemmas.{read_at}
use Rattle.lxr_tables.proofs.bits.bit.Goals as goal

pub returns : goal.returns
returns g c =
    let at : c.args.index % 64 ≡ 1 * (c.args.index % 64) = omega arith in
    let entry : bit_and (c.get-word.result / 2 ^ (c.args.index % 64)) 1 ≡ slice_index (table 1 64 (drop c.args.base (g.W.Words.words_of c.args.words.now))) c.args.index =
    shr_and_one c.get-word.result (c.args.index % 64)
    ∙ read_at 1 64 c.args.base c.args.index (g.W.Words.words_of c.args.words.now) _ _ _ (lit< tt) c.requires c.word_at.ensures c.get-word.ensures at in
    (λ is. sym entry ∙ omega (arith, eqb-true, is), λ is. eq-eqb _ _ (entry ∙ is))
