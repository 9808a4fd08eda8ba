-- The text of a history whose numbers are small is an output, of which exactly the history's own lines are gathered.
use Rattle.std.proofs.Common.{◌≡◌, ℕ, zero, suc, ◌+◌, ◌-◌, ◌^◌, ◌<◌, ◌≤◌, inl, inr, Bool, true, false, List, [], ◌∷◌, ◌++◌, Some, length, map, refl, sym, ap, subst, ◌∙◌, arith, codes, decimal, nat_eq, append_assoc, append-nil}
use Rattle.std.specs.Prelude.{slice_get, if◌then◌else◌}
use Rattle.std.specs.Option.{option_map}
use Rattle.std.proofs.lemmas.Bool.{and_from, cases_eq, cond-true, cond-false, eq-eqb, ne_eqb}
use Rattle.std.proofs.lemmas.List.{length-map, length_push, map-append, map_push}
use Rattle.std.proofs.lemmas.Option.{slice_get-map}
use Rattle.lxr_graph.specs.declared.Op.{Op}
use Rattle.lxr_graph.specs.declared.Op.TheVariants as op
use Rattle.lxr_graph.specs.declared.Reply.{Reply}
use Rattle.lxr_graph.specs.History.{PauseReport, Item, Call, Pause, Renew}
use Rattle.lxr_graph.proofs.RowLemmas.{slice_get-push}
use Rattle.lxr_text_script.specs.Lines.{Text}
use Rattle.lxr_text_script.specs.Spelling.{joined}
use Rattle.lxr_text_script.specs.Spelling as script
use Rattle.lxr_text_script.proofs.Canonical.{plain_number}
use Rattle.lxr_text_print.specs.Replies.{word_of, answer_of, call_text, heading_text, thread_text}
use Rattle.lxr_text_print.specs.Reports.{report_text}
use Rattle.lxr_text_print.specs.Histories.{reports_text, threads_text, history_text}
use Rattle.lxr_text_print.proofs.HistoryLemmas.{grows_by_calls}
use Rattle.lxr_judge_output.specs.Form.{Gathered, no_lines, nothing_gathered, output_read}
use Rattle.lxr_judge_output.proofs.PrintedLemmas.{decimal_number}
use Rattle.lxr_judge_output.proofs.ReadingLemmas.{IsNumbered, ReadsReports, ReadsThreads, first_thread, next_thread, nothing_read, reply_read, report_read, report_words, threads_read, with_report, with_thread}
use Rattle.lxr_judge.specs.Evidence.{group}
use Rattle.lxr_judge.specs.Taking.{text_of}
use Rattle.lxr_judge.proofs.FormedLemmas.{AreSmall, IsSaid, report_formed, report_words_are, words_of_report}
use Rattle.lxr_judge.proofs.GatheredLemmas.{HasGroups, no_groups, one_group}
use Rattle.lxr_judge.proofs.OwnLemmas.{call_lines, ended, replied_lines, reports_of}

-- ---- reports

-- the lines of a report
abbrev pub printed_lines : Bool → PauseReport → List Text
printed_lines counts report = map joined (report_words (words_of_report counts report))

abbrev pub gathered_reports : Bool → List Item → Gathered Text
gathered_reports counts [] = nothing_gathered
gathered_reports counts (Renew ns ∷ h) = nothing_gathered
gathered_reports counts (Call t o r ∷ h) = gathered_reports counts h
gathered_reports counts (Pause report ∷ h) = with_report (gathered_reports counts h) (words_of_report counts report)

reports_read : (counts : Bool) (threads : ℕ) (h : List Item) → AreSmall h → ReadsReports counts threads (reports_text counts h) (gathered_reports counts h)
reports_read counts threads [] small = nothing_read counts threads
reports_read counts threads (Renew ns ∷ h) small = nothing_read counts threads
reports_read counts threads (Call t o r ∷ h) small = reports_read counts threads h small.0
reports_read counts threads (Pause report ∷ h) small =
    let g = gathered_reports counts h in
    let words = words_of_report counts report in
    subst (λ (text : Text). ReadsReports counts threads (reports_text counts h ++ text) (with_report g words)) (sym (report_words_are counts report))
    (report_read counts threads (reports_text counts h) g words (reports_read counts threads h small.0) (report_formed counts report small.1))

-- each report has its lines
reports_grouped : (counts : Bool) (h : List Item) → HasGroups (gathered_reports counts h).reports (map (printed_lines counts) (reports_of h))
reports_grouped counts [] = no_groups
reports_grouped counts (Renew ns ∷ h) = no_groups
reports_grouped counts (Call t o r ∷ h) = reports_grouped counts h
reports_grouped counts (Pause report ∷ h) =
    rw (map_push (printed_lines counts) (reports_of h) report) (one_group (gathered_reports counts h).reports (map (printed_lines counts) (reports_of h)) (printed_lines counts report) (reports_grouped counts h))

no_replies : (counts : Bool) (h : List Item) → (gathered_reports counts h).replies ≡ no_lines
no_replies counts [] = refl
no_replies counts (Renew ns ∷ h) = refl
no_replies counts (Call t o r ∷ h) = no_replies counts h
no_replies counts (Pause report ∷ h) = no_replies counts h

-- lines with their line feeds, as the text that they were cut from
lines_text : (lines : List (List Text)) → script.text_of lines ≡ text_of (map joined lines)
lines_text [] = refl
lines_text (ws ∷ lines) = ap (λ (rest : Text). joined ws ++ 10 ∷ rest) (lines_text lines) ∙ sym (append_assoc (joined ws) (codes "\n") (text_of (map joined lines)))

report_lines_are : (counts : Bool) (report : PauseReport) → report_text counts report ≡ text_of (printed_lines counts report)
report_lines_are counts report = report_words_are counts report ∙ lines_text (report_words (words_of_report counts report))

-- ---- replies

-- the line of an operation and its reply; the end has none
abbrev pub said : Op → Reply → List Text
said op.End r = []
said o r = joined (word_of o ∷ answer_of r ∷ []) ∷ []

-- the lines of thread t's replies
abbrev pub said_lines : ℕ → List Item → List Text
said_lines t [] = []
said_lines t (Renew ns ∷ h) = []
said_lines t (Pause report ∷ h) = said_lines t h
said_lines t (Call u o r ∷ h) = if nat_eq t u then said_lines t h ++ said o r else said_lines t h

said_ended : (o : Op) (r : Reply) → map ended (said o r) ≡ call_lines o r
said_ended op.End r = refl
said_ended o r = refl

-- with their line feeds they are the lines that are printed
said_replied : (t : ℕ) (h : List Item) → map ended (said_lines t h) ≡ replied_lines t h
said_replied t [] = refl
said_replied t (Renew ns ∷ h) = refl
said_replied t (Pause report ∷ h) = said_replied t h
said_replied t (Call u o r ∷ h) = elim (nat_eq t u) as (λ b. map ended (if b then said_lines t h ++ said o r else said_lines t h) ≡ (if b then replied_lines t h ++ call_lines o r else replied_lines t h)) [
  | true ↦ map-append ended (said_lines t h) (said o r) ∙ (λ i. said_replied t h i ++ said_ended o r i)
  | false ↦ said_replied t h
]

module _ (counts : Bool) (threads t : ℕ) (g : Gathered Text) where
  -- a call of the thread is read
  call_read : (text : Text) (ls : List Text) (o : Op) (r : Reply) → IsSaid o r → ReadsThreads counts threads t text (with_thread g ls) → ReadsThreads counts threads t (text ++ call_text o r) (with_thread g (ls ++ said o r))
  call_read text ls op.End r is reads = rw (append-nil text, append-nil ls) reads
  call_read text ls o r is reads = reply_read counts threads t text g ls (word_of o) (answer_of r ∷ []) reads is.0 (and_from _ _ refl (and_from _ _ is.1 refl))

  -- all its calls are
  thread_read : (text : Text) (h : List Item) → AreSmall h → ReadsThreads counts threads t (text ++ heading_text t) (with_thread g []) → ReadsThreads counts threads t (text ++ thread_text t h) (with_thread g (said_lines t h))
  thread_read text [] small reads = rw (append-nil (heading_text t)) reads
  thread_read text (Renew ns ∷ h) small reads = rw (append-nil (heading_text t)) reads
  thread_read text (Pause report ∷ h) small reads = thread_read text h small.0 reads
  thread_read text (Call u o r ∷ h) small reads =
      let before = thread_read text h small.0 reads in
      let Reads : ℕ → Type 0 = λ v. ReadsThreads counts threads t (text ++ thread_text t (Call v o r ∷ h)) (with_thread g (said_lines t (Call v o r ∷ h))) in
      elim (cases_eq t u) [
        | inl mine ↦
            let here : nat_eq t t ≡ true = eq-eqb t t refl in
            let line = call_read (text ++ thread_text t h) (said_lines t h) o r small.1 before in
            let own : ReadsThreads counts threads t (text ++ thread_text t (Call t o r ∷ h)) (with_thread g (said_lines t h ++ said o r)) =
            subst (λ (all : Text). ReadsThreads counts threads t all (with_thread g (said_lines t h ++ said o r))) (append_assoc text (thread_text t h) (call_text o r) ∙ ap (λ (own : Text). text ++ own) (sym (grows_by_calls t o r h))) line in
            subst Reads mine (subst (λ (ls : List Text). ReadsThreads counts threads t (text ++ thread_text t (Call t o r ∷ h)) (with_thread g ls)) (sym (cond-true (nat_eq t t) (said_lines t h ++ said o r) (said_lines t h) here)) own)
        | inr other ↦ rw (ne_eqb t u other) before
      ]

-- ---- all threads

abbrev pub gathered_threads : Gathered Text → ℕ → List Item → Gathered Text
gathered_threads g zero h = g
gathered_threads g (suc t) h = with_thread (gathered_threads g t h) (said_lines (suc t) h)

heading_is : (t : ℕ) → script.text_of ((codes "thread" ∷ decimal t ∷ []) ∷ []) ≡ heading_text t
unfolding heading_text
heading_is t = refl

numbered : (t : ℕ) → t < 2 ^ 64 → IsNumbered t (decimal t ∷ [])
numbered t small = record { single = decimal_number t small; plain = and_from _ _ (plain_number t small) refl }

first_read : (counts : Bool) (threads : ℕ) (h : List Item) → AreSmall h → ReadsThreads counts threads 1 (reports_text counts h ++ thread_text 1 h) (with_thread (gathered_reports counts h) (said_lines 1 h))
first_read counts threads h small =
    let g = gathered_reports counts h in
    let heading = first_thread counts threads (reports_text counts h) g (decimal 1 ∷ []) (reports_read counts threads h small) (numbered 1 (omega arith)) in
    thread_read counts threads 1 g (reports_text counts h) h small (subst (λ (text : Text). ReadsThreads counts threads 1 (reports_text counts h ++ text) (with_thread g [])) (heading_is 1) heading)

next_read : (counts : Bool) (threads t : ℕ) (text : Text) (g : Gathered Text) (h : List Item) → t < threads → threads ≤ 16 → AreSmall h → ReadsThreads counts threads t text g
    → ReadsThreads counts threads (suc t) (text ++ thread_text (suc t) h) (with_thread g (said_lines (suc t) h))
next_read counts threads t text g h more few small reads =
    let same : t + 1 ≡ suc t = omega arith in
    let heading = subst (λ (n : ℕ). IsNumbered n (decimal n ∷ []) → ReadsThreads counts threads n (text ++ script.text_of ((codes "thread" ∷ decimal n ∷ []) ∷ [])) (with_thread g [])) same (next_thread counts threads t text g (decimal (t + 1) ∷ []) reads more) in
    thread_read counts threads (suc t) g text h small
    (subst (λ (line : Text). ReadsThreads counts threads (suc t) (text ++ line) (with_thread g [])) (heading_is (suc t)) (heading (numbered (suc t) (omega (arith, more, few)))))

all_read : (counts : Bool) (threads n : ℕ) (h : List Item) → suc n ≤ threads → threads ≤ 16 → AreSmall h
    → ReadsThreads counts threads (suc n) (reports_text counts h ++ threads_text (suc n) h) (gathered_threads (gathered_reports counts h) (suc n) h)
all_read counts threads zero h more few small = first_read counts threads h small
all_read counts threads (suc n) h more few small =
    let g = gathered_threads (gathered_reports counts h) (suc n) h in
    subst (λ (text : Text). ReadsThreads counts threads (suc (suc n)) text (with_thread g (said_lines (suc (suc n)) h))) (append_assoc (reports_text counts h) (threads_text (suc n) h) (thread_text (suc (suc n)) h))
    (next_read counts threads (suc n) (reports_text counts h ++ threads_text (suc n) h) g h more few small (all_read counts threads n h (omega (arith, more)) few small))

-- what is gathered of a history's text
abbrev pub gathered_of : Bool → ℕ → List Item → Gathered Text
gathered_of counts threads h = gathered_threads (gathered_reports counts h) threads h

pub text_read : (counts : Bool) (threads : ℕ) (h : List Item) → 1 ≤ threads → threads ≤ 16 → AreSmall h → output_read counts threads (history_text counts threads h) ≡ Some (gathered_of counts threads h)
text_read counts zero h some few small = absurd (omega (arith, some))
text_read counts (suc n) h some few small = threads_read counts (suc n) (history_text counts (suc n) h) (gathered_of counts (suc n) h) (all_read counts (suc n) n h (omega arith) few small)

-- ---- what is gathered

reports_kept : (g : Gathered Text) (n : ℕ) (h : List Item) → (gathered_threads g n h).reports ≡ g.reports
reports_kept g zero h = refl
reports_kept g (suc n) h = reports_kept g n h

-- the lines of each thread's replies
abbrev thread_groups : ℕ → List Item → List (List Text)
thread_groups zero h = []
thread_groups (suc t) h = thread_groups t h ++ said_lines (suc t) h ∷ []

groups_count : (n : ℕ) (h : List Item) → length (thread_groups n h) ≡ n
groups_count zero h = refl
groups_count (suc n) h = let size = length_push (thread_groups n h) (said_lines (suc n) h) in let before = groups_count n h in omega (arith, size, before)

group_at : (n t : ℕ) (h : List Item) → t < n → slice_get (thread_groups n h) t ≡ Some (said_lines (suc t) h)
group_at zero t h lt = absurd (omega (arith, lt))
group_at (suc n) t h lt =
    let size = groups_count n h in
    let at = slice_get-push (thread_groups n h) (said_lines (suc n) h) t in
    elim (cases_eq t (length (thread_groups n h))) [
      | inl last ↦ at ∙ (cond-true (nat_eq t (length (thread_groups n h))) (Some (said_lines (suc n) h)) (slice_get (thread_groups n h) t) (eq-eqb t (length (thread_groups n h)) last) ∙ ap (λ (k : ℕ). Some (said_lines (suc k) h)) (let e : n ≡ t = omega (arith, last, size) in e))
      | inr other ↦ at ∙ (cond-false (nat_eq t (length (thread_groups n h))) (Some (said_lines (suc n) h)) (slice_get (thread_groups n h) t) (ne_eqb t (length (thread_groups n h)) other) ∙ group_at n t h (omega (arith, lt, size, other)))
    ]

threads_grouped : (g : Gathered Text) (n : ℕ) (h : List Item) → g.replies ≡ no_lines → HasGroups (gathered_threads g n h).replies (thread_groups n h)
threads_grouped g zero h none = rw none no_groups
threads_grouped g (suc n) h none = one_group (gathered_threads g n h).replies (thread_groups n h) (said_lines (suc n) h) (threads_grouped g n h none)

-- each report has its lines, and so have the replies of each thread
pub record HasLines (counts : Bool) (threads : ℕ) (h : List Item) (g : Gathered Text) : Type 0 where
  pub count : length g.reports.starts ≡ length (reports_of h)
  pub reports : (i : ℕ) (report : PauseReport) → slice_get (reports_of h) i ≡ Some report → report_text counts report ≡ text_of (group g.reports i)
  pub replies : (t : ℕ) → 1 ≤ t → t ≤ threads → map ended (group g.replies (t - 1)) ≡ replied_lines t h

pub gathered_lines : (counts : Bool) (threads : ℕ) (h : List Item) → HasLines counts threads h (gathered_of counts threads h)
gathered_lines counts threads h =
    let g = gathered_reports counts h in
    let reports : HasGroups (gathered_of counts threads h).reports (map (printed_lines counts) (reports_of h)) = rw (reports_kept g threads h) (reports_grouped counts h) in
    let replies = threads_grouped g threads h (no_replies counts h) in
    record {
      count = reports.count ∙ length-map (reports_of h) (printed_lines counts);
      reports = λ i report at.
          let there : slice_get (map (printed_lines counts) (reports_of h)) i ≡ Some (printed_lines counts report) = slice_get-map (printed_lines counts) (reports_of h) i ∙ ap (option_map (printed_lines counts)) at in
          report_lines_are counts report ∙ ap text_of (sym (reports.each i (printed_lines counts report) there));
      replies = λ t low high.
          let back : suc (t - 1) ≡ t = omega (arith, low) in
          let there : slice_get (thread_groups threads h) (t - 1) ≡ Some (said_lines t h) = group_at threads (t - 1) h (omega (arith, low, high)) ∙ ap (λ (k : ℕ). Some (said_lines k h)) back in
          ap (map ended) (replies.each (t - 1) (said_lines t h) there) ∙ said_replied t h;
    }
