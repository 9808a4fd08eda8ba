-- What `clap` takes holds what the words say, and what it refuses is refused.
use Rattle.std.proofs.Common.{◌≡◌, ◌∙◌, ap, sym, subst, map, List, inl, inr, Err, true}
use Rattle.std.specs.Borrow.{Bor}
use Rattle.clap.specs.Faults.{fault_of, is_simple_and_free}
use Rattle.clap.specs.Simple.{HasMatchesOf, app_of}
use Rattle.lxr_words.specs.Number.{Text}
use Rattle.lxr_words.specs.Options.{table_of}
use Rattle.lxr_words.specs.Arguments.{Finds, app_for}
use Rattle.lxr_words.proofs.MeaningLemmas.{clear_words, found_holds, has_fault, refused_says, simple_is, title}
use Rattle.lxr_words.proofs.Walks.{no_dashes}
use Rattle.lxr_words.proofs.arguments.matches_among.Goals as goal

pub returns-in-Ok-try_get_matches_from : goal.returns-in-Ok-try_get_matches_from
returns-in-Ok-try_get_matches_from c =
    let app_is : app_of c.in-Ok.arguments ≡ app_for title (table_of c.args.command) = c.in-Ok.ensures in
    let words : List Text = map (λ (word : Bor Text). word.now) c.args.words.now in
    let clear : no_dashes words ≡ true = clear_words c.args.words.now _ c.requires in
    found_holds c.args.command words c.in-Ok-try_get_matches_from.matches clear
    (sym (ap (λ a. fault_of a words) app_is) ∙ c.in-Ok-try_get_matches_from.ensures.kinds (ap is_simple_and_free app_is ∙ simple_is c.args.command))
    (subst (λ a. HasMatchesOf a words c.in-Ok-try_get_matches_from.matches) app_is c.in-Ok-try_get_matches_from.ensures.matches)

pub returns-in-Err : goal.returns-in-Err
returns-in-Err c =
    let app_is : app_of c.in-Ok.arguments ≡ app_for title (table_of c.args.command) = c.in-Ok.ensures in
    let words : List Text = map (λ (word : Bor Text). word.now) c.args.words.now in
    let clear : no_dashes words ≡ true = clear_words c.args.words.now _ c.requires in
    elim c.word_error.ensures [
      | inl w ↦ subst (λ e. Finds c.args.command words (Err e)) (sym w.1) tt
      | inr w ↦ subst (λ e. Finds c.args.command words (Err e)) (sym w.1)
          (refused_says c.args.command words clear (λ none.
          has_fault (fault_of (app_of c.in-Ok.arguments) words) c.in-Err.error (c.in-Err.ensures.kinds (ap is_simple_and_free app_is ∙ simple_is c.args.command))
          (λ memory. w.0 (c.kind.ensures ∙ memory)) (ap (λ a. fault_of a words) app_is ∙ none)))
    ]
