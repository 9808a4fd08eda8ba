-- The options are accepted just where the texts that were found are fine and their options go together, and `--` is never accepted.
use Rattle.std.proofs.Common.{◌∙◌, sym, map}
use Rattle.std.specs.Borrow.{Bor}
use Rattle.clap.specs.Matches.{first_value, found_of}
use Rattle.lxr_words.specs.Number.{Text}
use Rattle.lxr_words.specs.Options.{Answers, options_by, options_in}
use Rattle.lxr_words.proofs.MeaningLemmas.{answers_fine, answers_wrong, clear_words, dashes_say, passed_on}
use Rattle.lxr_words.proofs.reading.read_options.Goals as goal

pub returns-then-has_dashes-clause-answers : goal.returns-then-has_dashes-clause-answers
returns-then-has_dashes-clause-answers c =
    dashes_say c.args.command (map (λ (word : Bor Text). word.now) c.args.words.now) (clear_words c.args.words.now _ (sym c.has_dashes.ensures ∙ c.if-has_dashes.true))

pub returns-in_err-options-clause-answers : goal.returns-in_err-options-clause-answers
returns-in_err-options-clause-answers c =
    let words = map (λ (word : Bor Text). word.now) c.args.words.now in
    passed_on (Answers (options_in c.args.command words)) c.from_residual-in_err-options.result c.in_err-options.field-0.0 c.from_residual-in_err-options.ensures.1
    (answers_wrong c.args.command words (found_of c.in_ok-matches.matches)
    (options_by (first_value (found_of c.in_ok-matches.matches)) c.get_flag-counts.result c.get_flag-stand.result c.args.command) c.in_ok-matches.ensures c.in_err-options.field-0.0 c.in_err-options.ensures.value)

pub returns-clause-answers : goal.returns-clause-answers
returns-clause-answers c =
    answers_fine c.args.command (map (λ (word : Bor Text). word.now) c.args.words.now) (found_of c.in_ok-matches.matches) c.get_flag-counts.result c.get_flag-stand.result
    (record { none = c.get_flag-counts.ensures.none; yes = c.get_flag-counts.ensures.value; no = c.get_flag-counts.ensures.other })
    (record { none = c.get_flag-stand.ensures.none; yes = c.get_flag-stand.ensures.value; no = c.get_flag-stand.ensures.other })
    c.in_ok-matches.ensures c.in_ok-options.options c.in_ok-options.ensures.value c.agreeing.result c.agreeing.ensures.answers
