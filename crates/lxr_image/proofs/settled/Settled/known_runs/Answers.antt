use Rattle.std.proofs.Common.{◌≡◌, ◌∙◌, [], ap, eq-eqb, length, subst, sym, true≢false}
use Rattle.std.specs.Prelude.{slice_index_or}
use Rattle.lxr_image.specs.Settled.{AreRunsOfFree}
use Rattle.lxr_image.proofs.SettledLemmas.{runs_known}
use Rattle.lxr_image.proofs.settled.Settled.known_runs.Goals as goal

pub returns-clause-words : goal.returns-clause-words
returns-clause-words c t known =
    let s = c.args.self.now in
    let (blocks, is, trusted) = c.knows_free.ensures c.if-not-knows_free.false in
    let words : c.of-words.result.now ≡ slice_index_or s.runs c.args.block [] = c.of-words.ensures in
    subst (λ ws. AreRunsOfFree ws t c.args.block) (sym words) (runs_known s t c.args.block is trusted (λ none. absurd (true≢false (sym (eq-eqb (length c.of-words.result.now) 0 (ap length (words ∙ none))) ∙ sym c.is_empty.ensures ∙ c.if-is_empty.false))) known)
