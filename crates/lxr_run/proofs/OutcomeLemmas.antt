-- What the ways in which a run ends come to: its loop's outcome is the run's, and the status follows from what is told.
use Rattle.std.proofs.Common.{inl, inr, ◌≡◌, ◌∙◌, ℕ, true, false, refl, sym, ap, subst, List, []}
use Rattle.std.specs.Prelude.{◌⊎◌, IsTrue, Some, IfErr, IsErr, IsErrAnd, Ok, Err, Result}
use Rattle.lxr_text_script.specs.Reading.{reading_of}
use Rattle.lxr_text_script.specs.declared.fault.ScriptFault.{ScriptFault}
use Rattle.lxr_text_stream.specs.declared.transfer.WriteError.{WriteError}
use Rattle.lxr_text_stream.specs.declared.transfer.WriteError.TheVariants as write_error
use Rattle.lxr_model.specs.Belongs.{Script}
use Rattle.lxr_model.proofs.CollectLemmas.{last_reachable}
use Rattle.lxr_words.specs.declared.Command.{Command}
use Rattle.lxr_words.specs.declared.Command.TheVariants.{Judge, Large, Load, Map, Order, Run as CommandRun}
use Rattle.lxr_words.specs.declared.Options.{Options}
use Rattle.lxr_words.specs.declared.WordFault.{WordFault}
use Rattle.lxr_words.specs.Options.{reading_of as words_read, thread_commands}
use Rattle.lxr_run_history.specs.Run.{script_terms}
use Rattle.lxr_large_model.specs.declared.LargeOp.{LargeOp}
use Rattle.lxr_large_text.specs.Reading.{large_reading_of}
use Rattle.lxr_large_run.specs.Played.{IsCutOff as PlayingWasCutOff, IsPlayed}
use Rattle.lxr_run_loop.specs.Printed.{IsCutShort, IsPrinted}
use Rattle.lxr_run.specs.Causes.{stop_of_write}
use Rattle.lxr_run.specs.Runs.{HasFailed, Run, Stream}
use Rattle.lxr_run.specs.Judgings.{IsPartlyJudged}
use Rattle.lxr_run.specs.LargeRuns.{IsLargeCutOff, large_task_of}
use Rattle.lxr_run.specs.Script.{AsksForThreads, AsksInVain, AsksToJudge, HasCause, IsCaseGivenBy, IsGivenBy, IsLargeGivenBy, IsNoScriptFor, WasAsked, WasAskedLarge, WasAskedToJudge}
use Rattle.lxr_run.specs.Replayed.{IsReplayed, task_of}
use Rattle.lxr_run.specs.Outcome.{ComesOrFails, HasEnded, HasStopped, IsCutOff, IsDone, IsRefused, IsToldBy, status_of}
use Rattle.lxr_run.specs.declared.Status.{Status}
use Rattle.lxr_run.specs.declared.Status.TheVariants as status
use Rattle.lxr_run.specs.declared.refusal.Refusal.{Refusal}
use Rattle.lxr_run.specs.declared.refusal.Refusal.TheVariants as refusal
use Rattle.lxr_run.specs.declared.attempt.Stop.{Stop}
use Rattle.lxr_case.specs.Reading.{IsCaseOf}
use Rattle.lxr_case.specs.declared.Case.{Case}
use Rattle.lxr_run.proofs.CaseLemmas.{case_right}
use Rattle.lxr_run.proofs.InputLemmas.{accepted_short, if_err, large_accepted_short, read_right}

-- ---- the outcome of the loop

pub done_by : {I O W : Type 0} (run : Run I O W) (options : Options) (script : Script) → WasAsked run.words run.input options script
    → IsPrinted (task_of run options script) run.space (run.output.bytes run.output.after) (run.watch.seen run.watch.after) → IsDone run
done_by run options script asked printed = inl (record {
  options = options;
  script = script;
  history = printed.history;
  asked = asked;
  is_of = printed.run;
  text = printed.text;
  space_left = printed.space_left;
  sights = printed.sights;
  reachable = last_reachable (script_terms options script) script printed.history printed.run.legal printed.run.belongs;
})

pub replayed_by : {I O W : Type 0} (run : Run I O W) (options : Options) (script : Script) → WasAsked run.words run.input options script
    → IsPrinted (task_of run options script) run.space (run.output.bytes run.output.after) (run.watch.seen run.watch.after) → IsReplayed run
replayed_by run options script asked printed = record {
  options = options;
  script = script;
  history = printed.history;
  last = printed.last;
  asked = asked;
  is_of = printed.run;
  text = printed.text;
  drawn = printed.drawn;
}

pub stopped_by : {I O W : Type 0} (run : Run I O W) (options : Options) (script : Script) (why : WriteError) → WasAsked run.words run.input options script
    → (why ≡ write_error.Fault → HasFailed run.output) → IsCutShort why (task_of run options script) run.space (run.output.bytes run.output.after) (run.watch.seen run.watch.after) → HasStopped (stop_of_write why) run
stopped_by run options script write_error.Fault asked failed (inl (h, cut)) =
    (failed refl, inl (record { options = options; script = script; history = h; asked = asked; so_far = cut.history; text_front = cut.text_front; space_left = cut.left; sights = cut.sights }))
stopped_by run options script write_error.Fault asked failed (inr cut) =
    (failed refl, inr (inl (record { options = options; script = script; history = cut.history; asked = asked; is_of = cut.run; text_front = cut.text_front; space_left = cut.space_left; sights = cut.sights })))
stopped_by run options script write_error.Memory asked failed (inl (inl (h, cut))) =
    inr (refl, inl (inl (record { options = options; script = script; history = h; asked = asked; so_far = cut.history; text_front = cut.text_front; space_left = cut.left; sights = cut.sights })))
stopped_by run options script write_error.Memory asked failed (inl (inr (h, lost))) =
    inr (refl, inr (record { options = options; script = script; history = h; asked = asked; so_far = lost.history; text = lost.text; gone = lost.gone; evacuated = lost.evacuated; sights = lost.sights }))
stopped_by run options script write_error.Memory asked failed (inr cut) =
    inr (refl, inl (inr (inl (record { options = options; script = script; history = cut.history; asked = asked; is_of = cut.run; text_front = cut.text_front; space_left = cut.space_left; sights = cut.sights }))))

-- the same of the answer that it leads to
pub stopped_at : {I O W : Type 0} (run : Run I O W) (options : Options) (script : Script) (why : WriteError) (answer : Result (Unit {0}) Stop) → (IsErr answer × IsErrAnd answer (λ stop. stop ≡ stop_of_write why))
    → WasAsked run.words run.input options script → (why ≡ write_error.Fault → HasFailed run.output) → IsCutShort why (task_of run options script) run.space (run.output.bytes run.output.after) (run.watch.seen run.watch.after)
    → IfErr answer (λ stop. HasStopped stop run)
stopped_at run options script why answer known asked failed cut =
    if_err answer (λ stop. stop ≡ stop_of_write why) (λ stop. HasStopped stop run) known.1 (λ stop is. subst (λ z. HasStopped z run) (sym is) (stopped_by run options script why asked failed cut))

-- ---- the outcome of playing

-- words that ask for a run of threads have no script with large objects
pub not_for_threads : {I : Type 0} (words : List (List ℕ)) (input : Stream I) (options : Options) (operations : List LargeOp) → WasAskedLarge words input options operations → AsksForThreads words → ⊥
not_for_threads words input options operations asked (options', accepted', threads) = go options.command (subst (λ (o : Options). IsTrue (thread_commands o.command)) same threads) asked.given
  where
    same : options' ≡ options
    same = let accepted = asked.accepted in cc

    go : (command : Command) → IsTrue (thread_commands command) → IsLargeGivenBy command input operations → ⊥
    go CommandRun is given = given
    go Map is given = given
    go Order is given = given
    go Judge is given = given
    go Large is given = let e : false ≡ true = is in absurd (cc)
    go (Load seed) is given = given

pub done_by_playing : {I O W : Type 0} (run : Run I O W) (options : Options) (operations : List LargeOp) → WasAskedLarge run.words run.input options operations
    → IsPlayed (large_task_of run options operations) (run.output.bytes run.output.after) run.space → run.watch.after ≡ run.watch.before → IsDone run
done_by_playing run options operations asked played unseen = inr (inl (record { options = options; operations = operations; asked = asked; played = played; unseen = unseen }))

stopped_by_playing : {I O W : Type 0} (run : Run I O W) (why : WriteError) → (why ≡ write_error.Fault → HasFailed run.output) → IsLargeCutOff run → HasStopped (stop_of_write why) run
stopped_by_playing run write_error.Fault failed cut = (failed refl, inr (inr (inl cut)))
stopped_by_playing run write_error.Memory failed cut = inr (refl, inl (inr (inr (inl cut))))

-- the same of the answer that it leads to
pub stopped_at_playing : {I O W : Type 0} (run : Run I O W) (options : Options) (operations : List LargeOp) (why : WriteError) (answer : Result (Unit {0}) Stop) → (IsErr answer × IsErrAnd answer (λ stop. stop ≡ stop_of_write why))
    → WasAskedLarge run.words run.input options operations → (why ≡ write_error.Fault → HasFailed run.output)
    → PlayingWasCutOff (large_task_of run options operations) (run.output.bytes run.output.after) → run.watch.after ≡ run.watch.before → run.space.words ≡ []
    → IfErr answer (λ stop. HasStopped stop run)
stopped_at_playing run options operations why answer known asked failed cut unseen gone =
    if_err answer (λ stop. stop ≡ stop_of_write why) (λ stop. HasStopped stop run) known.1
    (λ stop is. subst (λ z. HasStopped z run) (sym is) (stopped_by_playing run why failed
    (record { options = options; operations = operations; asked = asked; cut_off = cut; unseen = unseen; space = gone })))

-- ---- the outcome of judging

-- words that ask for a run of threads have no case
pub not_for_cases : {I : Type 0} (words : List (List ℕ)) (input : Stream I) (options : Options) (case : Case) → WasAskedToJudge words input options case → AsksForThreads words → ⊥
not_for_cases words input options case asked (options', accepted', threads) = go options.command (subst (λ (o : Options). IsTrue (thread_commands o.command)) same threads) asked.given
  where
    same : options' ≡ options
    same = let accepted = asked.accepted in cc

    go : (command : Command) → IsTrue (thread_commands command) → IsCaseGivenBy command input case → ⊥
    go CommandRun is given = given
    go Map is given = given
    go Order is given = given
    go Judge is given = let e : false ≡ true = is in absurd (cc)
    go Large is given = given
    go (Load seed) is given = given

stopped_by_judging : {I O W : Type 0} (run : Run I O W) (why : WriteError) → (why ≡ write_error.Fault → HasFailed run.output) → IsPartlyJudged run → HasStopped (stop_of_write why) run
stopped_by_judging run write_error.Fault failed cut = (failed refl, inr (inr (inr cut)))
stopped_by_judging run write_error.Memory failed cut = inr (refl, inl (inr (inr (inr cut))))

-- the same of the answer that it leads to
pub stopped_at_judging : {I O W : Type 0} (run : Run I O W) (why : WriteError) (answer : Result (Unit {0}) Stop) → (IsErr answer × IsErrAnd answer (λ stop. stop ≡ stop_of_write why))
    → (why ≡ write_error.Fault → HasFailed run.output) → IsPartlyJudged run → IfErr answer (λ stop. HasStopped stop run)
stopped_at_judging run why answer known failed cut =
    if_err answer (λ stop. stop ≡ stop_of_write why) (λ stop. HasStopped stop run) known.1 (λ stop is. subst (λ z. HasStopped z run) (sym is) (stopped_by_judging run why failed cut))

-- ---- the status of a refusal

pub ended_by : {I O W E : Type 0} (run : Run I O W) (errors : Stream E) (why : Refusal) (ended : Status) → IsRefused why run → IsToldBy why errors ended → HasEnded run errors ended
ended_by run errors (refusal.Words wrong) ended refused (inl (is, line)) = subst (HasEnded run errors) (sym is) (wrong, record { refused = refused; line = line })
ended_by run errors (refusal.Script wrong) ended refused (inl (is, line)) = subst (HasEnded run errors) (sym is) (refusal.Script wrong, refl, record { refused = refused; line = line })
ended_by run errors refusal.CaseParts ended refused (inl (is, line)) = subst (HasEnded run errors) (sym is) (refusal.CaseParts, refl, record { refused = refused; line = line })
ended_by run errors (refusal.CaseItem item) ended refused (inl (is, line)) = subst (HasEnded run errors) (sym is) (refusal.CaseItem item, refl, record { refused = refused; line = line })
ended_by run errors refusal.ReadFault ended refused (inl (is, line)) = subst (HasEnded run errors) (sym is) (record { refused = refused; line = line })
ended_by run errors refusal.Memory ended refused (inl (is, line)) = subst (HasEnded run errors) (sym is) (inl (record { refused = refused; line = line }))
ended_by run errors why ended refused (inr (inl (is, failed, front))) = subst (HasEnded run errors) (sym is) (inr (failed, record { why = why; refused = refused; line_front = front }))
ended_by run errors why ended refused (inr (inr (is, front))) = subst (HasEnded run errors) (sym is) (inr (record { why = why; refused = refused; line_front = front }))

-- ---- what is wrong is refused

-- a run was asked for with its script, of either sort, or a verdict on a case
abbrev Asked : {I : Type 0} → List (List ℕ) → Stream I → Type 0
Asked words input = ((options : Options) × (script : Script) × WasAsked words input options script)
    ⊎ ((options : Options) × (operations : List LargeOp) × WasAskedLarge words input options operations)
    ⊎ ((options : Options) × (case : Case) × WasAskedToJudge words input options case)

asked_done : {I O W : Type 0} (run : Run I O W) → IsDone run → Asked run.words run.input
asked_done run (inl done) = inl (done.options, done.script, done.asked)
asked_done run (inr (inl done)) = inr (inl (done.options, done.operations, done.asked))
asked_done run (inr (inr done)) = inr (inr (done.options, done.case, done.asked))

asked_of : {I O W : Type 0} (run : Run I O W) → IsCutOff run → Asked run.words run.input
asked_of run (inl cut) = inl (cut.options, cut.script, cut.asked)
asked_of run (inr (inl cut)) = inl (cut.options, cut.script, cut.asked)
asked_of run (inr (inr (inl cut))) = inr (inl (cut.options, cut.operations, cut.asked))
asked_of run (inr (inr (inr cut))) = inr (inr (cut.options, cut.case, cut.asked))

-- so its words aren't wrong
not_wrong : {I : Type 0} (words : List (List ℕ)) (input : Stream I) (wrong : WordFault) → words_read words ≡ Err wrong → Asked words input → ⊥
not_wrong words input wrong is (inl (options, script, asked)) = let accepted = asked.accepted in cc
not_wrong words input wrong is (inr (inl (options, operations, asked))) = let accepted = asked.accepted in cc
not_wrong words input wrong is (inr (inr (options, case, asked))) = let accepted = asked.accepted in cc

-- nor those of one that was asked for in vain
not_in_vain : {I : Type 0} (why : Refusal) (words : List (List ℕ)) (input : Stream I) (wrong : WordFault) → words_read words ≡ Err wrong → AsksInVain why words input → ⊥
not_in_vain why words input wrong is (options, accepted, none) = cc

-- nor those of one whose input was refused
not_refused_input : {I : Type 0} (why : Refusal) (words : List (List ℕ)) (input : Stream I) (wrong : WordFault) → words_read words ≡ Err wrong → status_of why ≡ status.Script → HasCause why words input → ⊥
not_refused_input (refusal.Words other) words input wrong is s cause = let e : status.Words ≡ status.Script = s in absurd (cc)
not_refused_input (refusal.Script other) words input wrong is s cause = not_in_vain (refusal.Script other) words input wrong is cause
not_refused_input refusal.CaseParts words input wrong is s cause = not_in_vain refusal.CaseParts words input wrong is cause
not_refused_input (refusal.CaseItem line) words input wrong is s cause = not_in_vain (refusal.CaseItem line) words input wrong is cause
not_refused_input refusal.ReadFault words input wrong is s cause = let e : status.ReadFault ≡ status.Script = s in absurd (cc)
not_refused_input refusal.Memory words input wrong is s cause = let e : status.Memory ≡ status.Script = s in absurd (cc)

pub words_told : {I O W E : Type 0} (run : Run I O W) (errors : Stream E) (ended : Status) → HasEnded run errors ended → (wrong : WordFault) → words_read run.words ≡ Err wrong → ComesOrFails status.Words errors ended
words_told run errors status.Done (done, untold) wrong is = absurd (not_wrong run.words run.input wrong is (asked_done run done))
words_told run errors status.Words told wrong is = inl refl
words_told run errors status.Script (why, s, told) wrong is = go told.refused
  where
    go : IsRefused why run → ComesOrFails status.Words errors status.Script
    go (inl (cause, nothing)) = absurd (not_refused_input why run.words run.input wrong is s cause)
    go (inr (e, rest)) = let other : status.Memory ≡ status.Script = ap status_of (sym e) ∙ s in absurd (cc)
words_told run errors status.ReadFault told wrong is = go told.refused
  where
    go : IsRefused refusal.ReadFault run → ComesOrFails status.Words errors status.ReadFault
    go (inl (cause, nothing)) = absurd (not_in_vain refusal.ReadFault run.words run.input wrong is cause)
    go (inr (e, rest)) = absurd (cc)
words_told run errors status.WriteFault (inl (failed, cut, untold)) wrong is = absurd (not_wrong run.words run.input wrong is (asked_of run cut))
words_told run errors status.WriteFault (inr (failed, told)) wrong is = inr (inr (refl, failed))
words_told run errors status.Memory told wrong is = inr (inl refl)

-- a script of threads that was read is right
given_right : {I : Type 0} (command : Command) (options : Options) (input : Stream I) (script : Script) (bytes : List ℕ) (wrong : ScriptFault) → IsGivenBy command options input script
    → input.bytes input.before ≡ Some bytes → IsNoScriptFor command bytes wrong → ⊥
given_right CommandRun options input script bytes wrong given told noscript = read_right reading_of accepted_short input script bytes wrong given told noscript
given_right Map options input script bytes wrong given told noscript = read_right reading_of accepted_short input script bytes wrong given told noscript
given_right Order options input script bytes wrong given told noscript = read_right reading_of accepted_short input script bytes wrong given told noscript
given_right Judge options input script bytes wrong given told noscript = given
given_right Large options input script bytes wrong given told noscript = given
given_right (Load seed) options input script bytes wrong given told noscript = noscript

-- so is one with large objects
large_given_right : {I : Type 0} (command : Command) (input : Stream I) (operations : List LargeOp) (bytes : List ℕ) (wrong : ScriptFault) → IsLargeGivenBy command input operations
    → input.bytes input.before ≡ Some bytes → IsNoScriptFor command bytes wrong → ⊥
large_given_right CommandRun input operations bytes wrong given told noscript = given
large_given_right Map input operations bytes wrong given told noscript = given
large_given_right Order input operations bytes wrong given told noscript = given
large_given_right Judge input operations bytes wrong given told noscript = given
large_given_right Large input operations bytes wrong given told noscript = read_right large_reading_of large_accepted_short input operations bytes wrong given told noscript
large_given_right (Load seed) input operations bytes wrong given told noscript = given

-- a case has no wrong script of a command
case_given_right : {I : Type 0} (command : Command) (input : Stream I) (case : Case) (bytes : List ℕ) (wrong : ScriptFault) → IsCaseGivenBy command input case → IsNoScriptFor command bytes wrong → ⊥
case_given_right CommandRun input case bytes wrong given noscript = given
case_given_right Map input case bytes wrong given noscript = given
case_given_right Order input case bytes wrong given noscript = given
case_given_right Judge input case bytes wrong given noscript = noscript
case_given_right Large input case bytes wrong given noscript = given
case_given_right (Load seed) input case bytes wrong given noscript = given

-- In the following, the words are accepted, and the bytes are no script for their command.
module _ {I : Type 0} (words : List (List ℕ)) (input : Stream I) (options : Options) (accepted : words_read words ≡ Ok options) (bytes : List ℕ) (wrong : ScriptFault)
    (told : input.bytes input.before ≡ Some bytes) (noscript : IsNoScriptFor options.command bytes wrong) where
  not_refused : Asked words input → ⊥
  not_refused (inl (options', script, asked)) =
      let accepted' = asked.accepted in
      let same : options' ≡ options = cc in
      given_right options.command options input script bytes wrong (subst (λ z. IsGivenBy z.command z input script) same asked.given) told noscript
  not_refused (inr (inl (options', operations, asked))) =
      let accepted' = asked.accepted in
      let same : options' ≡ options = cc in
      large_given_right options.command input operations bytes wrong (subst (λ z. IsLargeGivenBy z.command input operations) same asked.given) told noscript
  not_refused (inr (inr (options', case, asked))) =
      let accepted' = asked.accepted in
      let same : options' ≡ options = cc in
      case_given_right options.command input case bytes wrong (subst (λ z. IsCaseGivenBy z.command input case) same asked.given) noscript

pub script_told : {I O W E : Type 0} (run : Run I O W) (errors : Stream E) (ended : Status) → HasEnded run errors ended → (options : Options) (bytes : List ℕ) (wrong : ScriptFault)
    → words_read run.words ≡ Ok options → run.input.bytes run.input.before ≡ Some bytes → IsNoScriptFor options.command bytes wrong → (ended ≡ status.ReadFault) ⊎ ComesOrFails status.Script errors ended
script_told run errors status.Done (done, untold) options bytes wrong accepted is noscript = absurd (not_refused run.words run.input options accepted bytes wrong is noscript (asked_done run done))
script_told run errors status.Words (w, told) options bytes wrong accepted is noscript = go told.refused
  where
    go : IsRefused (refusal.Words w) run → (status.Words ≡ status.ReadFault) ⊎ ComesOrFails status.Script errors status.Words
    go (inl (cause, nothing)) = absurd (cc)
    go (inr (e, rest)) = absurd (cc)
script_told run errors status.Script told options bytes wrong accepted is noscript = inr (inl refl)
script_told run errors status.ReadFault told options bytes wrong accepted is noscript = inl refl
script_told run errors status.WriteFault (inl (failed, cut, untold)) options bytes wrong accepted is noscript = absurd (not_refused run.words run.input options accepted bytes wrong is noscript (asked_of run cut))
script_told run errors status.WriteFault (inr (failed, told)) options bytes wrong accepted is noscript = inr (inr (inr (refl, failed)))
script_told run errors status.Memory told options bytes wrong accepted is noscript = inr (inr (inl refl))

-- In the following, the words ask for a case to be judged, and the bytes are none.
module _ {I : Type 0} (words : List (List ℕ)) (input : Stream I) (asks : AsksToJudge words) (bytes : List ℕ) (told : input.bytes input.before ≡ Some bytes) (none : (case : Case) → ¬ IsCaseOf bytes case) where
  judges : (options : Options) → words_read words ≡ Ok options → options.command ≡ Judge
  judges options accepted = let (options', accepted', is) = asks in let same : options ≡ options' = cc in ap (λ (o : Options). o.command) same ∙ is

  not_judged : Asked words input → ⊥
  not_judged (inl (options, script, asked)) = subst (λ c. IsGivenBy c options input script) (judges options asked.accepted) asked.given
  not_judged (inr (inl (options, operations, asked))) = subst (λ c. IsLargeGivenBy c input operations) (judges options asked.accepted) asked.given
  not_judged (inr (inr (options, case, asked))) = case_right input case bytes (subst (λ c. IsCaseGivenBy c input case) (judges options asked.accepted) asked.given) told none

pub case_told : {I O W E : Type 0} (run : Run I O W) (errors : Stream E) (ended : Status) → HasEnded run errors ended → (bytes : List ℕ) → AsksToJudge run.words → run.input.bytes run.input.before ≡ Some bytes
    → ((case : Case) → ¬ IsCaseOf bytes case) → (ended ≡ status.ReadFault) ⊎ ComesOrFails status.Script errors ended
case_told run errors status.Done (done, untold) bytes asks is none = absurd (not_judged run.words run.input asks bytes is none (asked_done run done))
case_told run errors status.Words (w, told) bytes asks is none = go told.refused
  where
    go : IsRefused (refusal.Words w) run → (status.Words ≡ status.ReadFault) ⊎ ComesOrFails status.Script errors status.Words
    go (inl (cause, nothing)) = let (options, accepted, judges) = asks in absurd (cc)
    go (inr (e, rest)) = absurd (cc)
case_told run errors status.Script told bytes asks is none = inr (inl refl)
case_told run errors status.ReadFault told bytes asks is none = inl refl
case_told run errors status.WriteFault (inl (failed, cut, untold)) bytes asks is none = absurd (not_judged run.words run.input asks bytes is none (asked_of run cut))
case_told run errors status.WriteFault (inr (failed, told)) bytes asks is none = inr (inr (inr (refl, failed)))
case_told run errors status.Memory told bytes asks is none = inr (inr (inl refl))
