-- The whole text of a history is cut into its own lines, and so it is judged good in the history's own order.
use Rattle.std.proofs.Common.{◌≡◌, List, Some, length, refl, sym, ap, subst, ◌∙◌}
use Rattle.std.specs.Prelude.{Option}
use Rattle.lxr_graph.specs.History.{Item}
use Rattle.lxr_text_script.specs.Lines.{Text}
use Rattle.lxr_text_script.specs.Reading.{threads_in}
use Rattle.lxr_judge_output.specs.Form.{Gathered, output_read}
use Rattle.lxr_case.specs.declared.Case.{Case}
use Rattle.lxr_case.specs.declared.Terms as given
use Rattle.lxr_judge.specs.declared.verdict.Verdict.TheVariants as verdict
use Rattle.lxr_judge.specs.Evidence.{evidence_of, terms_of}
use Rattle.lxr_judge.specs.Verdicts.{IsVerdict, IsVerdictBy}
use Rattle.lxr_judge.specs.Laws.{IsOwnCase, OwnOutputIsGood}
use Rattle.lxr_judge.proofs.OneLemmas.{verdicts_one}
use Rattle.lxr_judge.proofs.OwnLemmas.{IsOwn, own_good}
use Rattle.lxr_judge.proofs.PartLemmas.{IsWhole}
use Rattle.lxr_judge.proofs.SmallLemmas.{whole_small}
use Rattle.lxr_judge.proofs.TextLemmas.{gathered_lines, gathered_of, text_read}

own_yes : (case : Case) (terms : given.Terms) (h : List Item) → IsOwnCase case terms.counts h → IsWhole (terms_of (length (threads_in case.script)) terms) (threads_in case.script) h
    → output_read terms.counts (length (threads_in case.script)) case.output.items ≡ Some (gathered_of terms.counts (length (threads_in case.script)) h) → IsVerdict case terms verdict.Yes
own_yes case terms h own whole read =
    let threads = length (threads_in case.script) in
    let g = gathered_of terms.counts threads h in
    let lines = gathered_lines terms.counts threads h in
    let its : IsOwn (evidence_of case terms g) h = record { order = own.order; count = lines.count; reports = lines.reports; replies = lines.replies } in
    subst (λ (found : Option (Gathered Text)). IsVerdictBy case terms found verdict.Yes) (sym read) (own_good (evidence_of case terms g) h whole its)

pub own_output_good : OwnOutputIsGood
own_output_good case terms h fits short own legal belongs v =
    let threads = length (threads_in case.script) in
    let whole : IsWhole (terms_of threads terms) (threads_in case.script) h = record { fits = fits; threads = refl; never = refl; legal = legal; belongs = belongs } in
    let small = whole_small (terms_of threads terms) (threads_in case.script) h whole short in
    let read = ap (output_read terms.counts threads) own.output ∙ text_read terms.counts threads h fits.least fits.greatest small in
    let yes = own_yes case terms h own whole read in
    (λ is. verdicts_one case terms v verdict.Yes is yes, λ same. subst (IsVerdict case terms) (sym same) yes)
