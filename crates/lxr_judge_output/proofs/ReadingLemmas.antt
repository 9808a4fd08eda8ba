-- Reports and replies by their words: where they have the form, they are read one behind the other, and gathered in groups.
use Rattle.std.proofs.Common.{◌≡◌, ℕ, ◌+◌, ◌<◌, Bool, true, false, ◌&&◌, cond, List, [], ◌∷◌, ◌++◌, Some, None, length, map, refl, sym, ap, subst, ◌∙◌, codes, nat_lt, append_assoc, append-nil}
use Rattle.std.specs.Prelude.{Option}
use Rattle.std.specs.Option.{option_map_or}
use Rattle.std.proofs.lemmas.Bool.{cond-true, cond-false, lt-ltb, eq-eqb}
use Rattle.lxr_text_script.specs.Lines.{Text}
use Rattle.lxr_text_script.specs.Spelling.{joined, text_of}
use Rattle.lxr_text_script.proofs.Plain.{are_plain, is_plain}
use Rattle.lxr_judge_output.specs.declared.lines.Sort.{Sort}
use Rattle.lxr_judge_output.specs.declared.lines.Sort.TheVariants as sort
use Rattle.lxr_judge_output.specs.declared.places.Place.{Place}
use Rattle.lxr_judge_output.specs.declared.places.Place.TheVariants as place
use Rattle.lxr_judge_output.specs.declared.places.LineKind.{LineKind}
use Rattle.lxr_judge_output.specs.declared.places.LineKind.TheVariants as line_kind
use Rattle.lxr_judge_output.specs.Form as form
use Rattle.lxr_judge_output.specs.Form.{Grouped, Gathered, kind_at, kind_if, pause_or_first, place_behind, place_behind_names, with_line, opened, added, nothing_gathered, output_read}
use Rattle.lxr_judge_output.specs.Lines.{numbered_sort, sort_of, are_counted_names, is_counted_name, is_count, is_number, is_heading, is_single, single_of, replies}
use Rattle.lxr_judge_output.specs.Words.{is_reply}
use Rattle.lxr_judge_output.proofs.LeadingLemmas.{LeadsTo, leads_on, line_leads, stays, whole_read}

-- ---- groups

-- lines with one more group, of these lines
abbrev pub with_group : {T : Type 0} → Grouped T → List T → Grouped T
with_group g ls = record { lines = g.lines ++ ls; starts = g.starts ++ length g.lines ∷ [] }

-- one line more of the last group
added_group : {T : Type 0} (g : Grouped T) (ls : List T) (l : T) → added (with_group g ls) l ≡ with_group g (ls ++ l ∷ [])
added_group g ls l = ap (λ (lines : List _). record { lines = lines; starts = g.starts ++ length g.lines ∷ [] }) (append_assoc g.lines ls (l ∷ []))

opened_group : {T : Type 0} (g : Grouped T) → opened g ≡ with_group g []
opened_group g = ap (λ (lines : List _). record { lines = lines; starts = g.starts ++ length g.lines ∷ [] }) (sym (append-nil g.lines))

-- ---- a report

-- whether counts stand behind the names
abbrev pub has_counts : Bool → Sort → Bool
has_counts counts sort.Plain = false
has_counts counts sort.Begin = counts
has_counts counts sort.End = counts
has_counts counts sort.Collect = counts

-- a report by the words behind the first of each line
pub record ReportWords : Type 0 where
  pub sort : Sort
  pub pause : List Text
  pub promoted : List Text
  pub dead : List Text
  pub stuck : List Text
  pub swept : List Text
  pub counted : List (List Text)

-- the lines of counts by their words, and all lines
abbrev pub count_words : List (List Text) → List (List Text)
count_words [] = []
count_words (ws ∷ counted) = (codes "count" ∷ ws) ∷ count_words counted

abbrev pub lines_behind : ReportWords → List (List Text)
lines_behind r = (codes "promoted" ∷ r.promoted) ∷ (codes "dead" ∷ r.dead) ∷ (codes "stuck" ∷ r.stuck) ∷ (codes "swept" ∷ r.swept) ∷ count_words r.counted

abbrev pub report_words : ReportWords → List (List Text)
report_words r = (codes "pause" ∷ r.pause) ∷ lines_behind r

-- a list of names has the form
pub record AreNames (ws : List Text) : Type 0 where
  pub names : are_counted_names ws ≡ true
  pub plain : are_plain ws ≡ true

abbrev pub AreCounts : List (List Text) → Type 0
AreCounts [] = Unit {0}
AreCounts (ws ∷ counted) = (is_counted_name ws ≡ true) × (are_plain ws ≡ true) × AreCounts counted

-- a report has the form
pub record HasForm (counts : Bool) (r : ReportWords) : Type 0 where
  pub pause : numbered_sort r.pause ≡ Some r.sort
  pub plain : are_plain r.pause ≡ true
  pub promoted : AreNames r.promoted
  pub dead : AreNames r.dead
  pub stuck : AreNames r.stuck
  pub swept : AreNames r.swept
  pub counted : AreCounts r.counted
  pub only : has_counts counts r.sort ≡ false → r.counted ≡ []

-- what is gathered with more lines of the last report
abbrev more_lines : Gathered Text → List (List Text) → Gathered Text
more_lines g lines = record g { reports = record { lines = g.reports.lines ++ map joined lines; starts = g.reports.starts } }

no_more : (g : Gathered Text) → more_lines g [] ≡ g
no_more g = ap (λ (lines : List Text). record g { reports = record { lines = lines; starts = g.reports.starts } }) (append-nil g.reports.lines)

one_more : (g : Gathered Text) (line : List Text) (lines : List (List Text)) → more_lines (more_lines g (line ∷ [])) lines ≡ more_lines g (line ∷ lines)
one_more g line lines = ap (λ (all : List Text). record g { reports = record { lines = all; starts = g.reports.starts } }) (append_assoc g.reports.lines (joined line ∷ []) (map joined lines))

module _ (counts : Bool) (threads : ℕ) where
  -- a line of the report, and then more of them
  line_and : (p q r : Place) (g : Gathered Text) (word : Text) (ws : List Text) (kind : LineKind) (lines : List (List Text)) → are_plain (word ∷ ws) ≡ true → kind_at threads p (word ∷ ws) ≡ Some kind
      → place_behind counts p kind ≡ q → with_line g (joined (word ∷ ws)) kind ≡ more_lines g ((word ∷ ws) ∷ [])
      → LeadsTo counts threads q (more_lines g ((word ∷ ws) ∷ [])) (text_of lines) r (more_lines (more_lines g ((word ∷ ws) ∷ [])) lines)
      → LeadsTo counts threads p g (text_of ((word ∷ ws) ∷ lines)) r (more_lines g ((word ∷ ws) ∷ lines))
  line_and p q r g word ws kind lines plain is next joins more =
      let all = more_lines g ((word ∷ ws) ∷ lines) in
      let ends : LeadsTo counts threads q (more_lines g ((word ∷ ws) ∷ [])) (text_of lines) r all =
      subst (λ (k : Gathered Text). LeadsTo counts threads q (more_lines g ((word ∷ ws) ∷ [])) (text_of lines) r k) (one_more g (word ∷ ws) lines) more in
      let from : LeadsTo counts threads (place_behind counts p kind) (with_line g (joined (word ∷ ws)) kind) (text_of lines) r all =
      rw (next, joins) ends in
      line_leads counts threads p r g all word ws kind (text_of lines) plain is from

  nothing_more : (p : Place) (g : Gathered Text) → LeadsTo counts threads p g [] p (more_lines g [])
  nothing_more p g = subst (λ (k : Gathered Text). LeadsTo counts threads p g [] p k) (sym (no_more g)) (stays counts threads p g)

  counts_lead : (g : Gathered Text) (counted : List (List Text)) → AreCounts counted → LeadsTo counts threads place.Counts g (text_of (count_words counted)) place.Counts (more_lines g (count_words counted))
  counts_lead g [] are = nothing_more place.Counts g
  counts_lead g (ws ∷ counted) are =
      line_and place.Counts place.Counts place.Counts g (codes "count") ws line_kind.Count (count_words counted) are.1 (rw are.0 refl) refl refl
      (counts_lead (more_lines g ((codes "count" ∷ ws) ∷ [])) counted are.2)

  counted_by : (b : Bool) (g : Gathered Text) (counted : List (List Text)) → AreCounts counted → (b ≡ false → counted ≡ [])
      → LeadsTo counts threads (cond b place.Counts place.Between) g (text_of (count_words counted)) (cond b place.Counts place.Between) (more_lines g (count_words counted))
  counted_by true g counted are only = counts_lead g counted are
  counted_by false g counted are only = rw (only refl) (nothing_more place.Between g)

  -- behind the last list of names
  counted_lead : (g : Gathered Text) (s : Sort) (counted : List (List Text)) → AreCounts counted → (has_counts counts s ≡ false → counted ≡ [])
      → LeadsTo counts threads (place_behind_names counts s) g (text_of (count_words counted)) (place_behind_names counts s) (more_lines g (count_words counted))
  counted_lead g sort.Plain counted are only = counted_by false g counted are only
  counted_lead g sort.Begin counted are only = counted_by counts g counted are only
  counted_lead g sort.End counted are only = counted_by counts g counted are only
  counted_lead g sort.Collect counted are only = counted_by counts g counted are only

  -- behind the line of the pause
  names_lead : (g : Gathered Text) (r : ReportWords) → HasForm counts r
      → LeadsTo counts threads (place.Promoted r.sort) g (text_of (lines_behind r)) (place_behind_names counts r.sort) (more_lines g (lines_behind r))
  names_lead g r form =
      let end = place_behind_names counts r.sort in
      let behind_stuck = (codes "swept" ∷ r.swept) ∷ count_words r.counted in
      let behind_dead = (codes "stuck" ∷ r.stuck) ∷ behind_stuck in
      let behind_promoted = (codes "dead" ∷ r.dead) ∷ behind_dead in
      let one = more_lines g ((codes "promoted" ∷ r.promoted) ∷ []) in
      let two = more_lines one ((codes "dead" ∷ r.dead) ∷ []) in
      let three = more_lines two ((codes "stuck" ∷ r.stuck) ∷ []) in
      let four = more_lines three ((codes "swept" ∷ r.swept) ∷ []) in
      let counted = counted_lead four r.sort r.counted form.counted form.only in
      let swept = line_and (place.Swept r.sort) end end three (codes "swept") r.swept line_kind.Names (count_words r.counted) form.swept.plain (ap (kind_if line_kind.Names) form.swept.names) refl refl counted in
      let stuck = line_and (place.Stuck r.sort) (place.Swept r.sort) end two (codes "stuck") r.stuck line_kind.Names behind_stuck form.stuck.plain (ap (kind_if line_kind.Names) form.stuck.names) refl refl swept in
      let dead = line_and (place.Dead r.sort) (place.Stuck r.sort) end one (codes "dead") r.dead line_kind.Names behind_dead form.dead.plain (ap (kind_if line_kind.Names) form.dead.names) refl refl stuck in
      line_and (place.Promoted r.sort) (place.Dead r.sort) end g (codes "promoted") r.promoted line_kind.Names behind_promoted form.promoted.plain (ap (kind_if line_kind.Names) form.promoted.names) refl refl dead

-- ---- reports

-- a pause's line, or else that of thread 1, is read at this place
abbrev IsOpen : ℕ → Place → Type 0
IsOpen threads p = (ws : List Text) → is_count ws ≡ false → kind_at threads p ws ≡ pause_or_first (sort_of ws) ws

between_open : (threads : ℕ) → IsOpen threads place.Between
between_open threads ws other = refl

counts_open : (threads : ℕ) → IsOpen threads place.Counts
counts_open threads ws other = rw other refl

either_open : (counts : Bool) (threads : ℕ) → IsOpen threads (cond counts place.Counts place.Between)
either_open true threads = counts_open threads
either_open false threads = between_open threads

behind_open : (counts : Bool) (threads : ℕ) (s : Sort) → IsOpen threads (place_behind_names counts s)
behind_open counts threads sort.Plain = between_open threads
behind_open counts threads sort.Begin = either_open counts threads
behind_open counts threads sort.End = either_open counts threads
behind_open counts threads sort.Collect = either_open counts threads

-- the text is that of reports, of which so much is gathered
pub record ReadsReports (counts : Bool) (threads : ℕ) (text : Text) (g : Gathered Text) : Type 0 where
  pub stop : Place
  pub is_open : IsOpen threads stop
  pub leads : LeadsTo counts threads place.Between nothing_gathered text stop g

pub nothing_read : (counts : Bool) (threads : ℕ) → ReadsReports counts threads [] nothing_gathered
nothing_read counts threads = record { stop = place.Between; is_open = between_open threads; leads = stays counts threads place.Between nothing_gathered }

-- what is gathered with a report
abbrev pub with_report : Gathered Text → ReportWords → Gathered Text
with_report g r = record g { sorts = g.sorts ++ r.sort ∷ []; reports = with_group g.reports (map joined (report_words r)) }

-- one report more
pub report_read : (counts : Bool) (threads : ℕ) (text : Text) (g : Gathered Text) (r : ReportWords) → ReadsReports counts threads text g → HasForm counts r
    → ReadsReports counts threads (text ++ text_of (report_words r)) (with_report g r)
report_read counts threads text g r reads form =
    let end = place_behind_names counts r.sort in
    let first = with_line g (joined (codes "pause" ∷ r.pause)) (line_kind.Pause r.sort) in
    let at : kind_at threads reads.stop (codes "pause" ∷ r.pause) ≡ Some (line_kind.Pause r.sort) =
    reads.is_open (codes "pause" ∷ r.pause) refl ∙ ap (λ (s : Option Sort). pause_or_first s (codes "pause" ∷ r.pause)) form.pause in
    let joins : more_lines first (lines_behind r) ≡ with_report g r =
    ap (λ (lines : List Text). record g { sorts = g.sorts ++ r.sort ∷ []; reports = record { lines = lines; starts = g.reports.starts ++ length g.reports.lines ∷ [] } }) (append_assoc g.reports.lines (joined (codes "pause" ∷ r.pause) ∷ []) (map joined (lines_behind r))) in
    let line = line_leads counts threads reads.stop end g (more_lines first (lines_behind r)) (codes "pause") r.pause (line_kind.Pause r.sort) (text_of (lines_behind r)) form.plain at (names_lead counts threads first r form) in
    record {
      stop = end;
      is_open = behind_open counts threads r.sort;
      leads = leads_on counts threads place.Between reads.stop end nothing_gathered g (with_report g r) text (text_of (report_words r)) reads.leads
          (subst (λ (k : Gathered Text). LeadsTo counts threads reads.stop g (text_of (report_words r)) end k) joins line);
    }

-- ---- replies

-- the text is that of all reports and of the first threads, of which so much is gathered
pub record ReadsThreads (counts : Bool) (threads t : ℕ) (text : Text) (g : Gathered Text) : Type 0 where
  pub leads : LeadsTo counts threads place.Between nothing_gathered text (place.Replies t) g

-- the words behind `thread` are this number
pub record IsNumbered (t : ℕ) (ws : List Text) : Type 0 where
  pub single : is_single (is_number t) ws ≡ true
  pub plain : are_plain ws ≡ true

-- what is gathered with one more thread, and with one more line of its replies
abbrev pub with_thread : Gathered Text → List Text → Gathered Text
with_thread g ls = record g { replies = with_group g.replies ls }

heading_leads : (counts : Bool) (threads t : ℕ) (text : Text) (g : Gathered Text) (ws : List Text) (p : Place) → LeadsTo counts threads place.Between nothing_gathered text p g → IsNumbered t ws
    → kind_at threads p (codes "thread" ∷ ws) ≡ Some (line_kind.Thread t) → ReadsThreads counts threads t (text ++ text_of ((codes "thread" ∷ ws) ∷ [])) (with_thread g [])
heading_leads counts threads t text g ws p leads numbered at = record {
  leads =
      let last = record g { replies = opened g.replies } in
      let line = line_leads counts threads p (place.Replies t) g last (codes "thread") ws (line_kind.Thread t) [] numbered.plain at (stays counts threads (place.Replies t) last) in
      leads_on counts threads place.Between p (place.Replies t) nothing_gathered g (with_thread g []) text (text_of ((codes "thread" ∷ ws) ∷ [])) leads
      (subst (λ (k : Grouped Text). LeadsTo counts threads p g (text_of ((codes "thread" ∷ ws) ∷ [])) (place.Replies t) (record g { replies = k })) (opened_group g.replies) line);
}

-- the line of thread 1 stands behind the reports
pub first_thread : (counts : Bool) (threads : ℕ) (text : Text) (g : Gathered Text) (ws : List Text) → ReadsReports counts threads text g → IsNumbered 1 ws
    → ReadsThreads counts threads 1 (text ++ text_of ((codes "thread" ∷ ws) ∷ [])) (with_thread g [])
first_thread counts threads text g ws reads numbered =
    heading_leads counts threads 1 text g ws reads.stop reads.leads numbered (reads.is_open (codes "thread" ∷ ws) refl ∙ ap (kind_if (line_kind.Thread 1)) numbered.single)

-- and that of the next one behind the replies of a thread
no_answer : (answer : Option Text) → option_map_or (is_reply (codes "thread")) answer false ≡ false
unfolding is_reply
no_answer None = refl
no_answer (Some answer) = refl

pub next_thread : (counts : Bool) (threads t : ℕ) (text : Text) (g : Gathered Text) (ws : List Text) → ReadsThreads counts threads t text g → t < threads → IsNumbered (t + 1) ws
    → ReadsThreads counts threads (t + 1) (text ++ text_of ((codes "thread" ∷ ws) ∷ [])) (with_thread g [])
next_thread counts threads t text g ws reads more numbered =
    let words = codes "thread" ∷ ws in
    let no_reply : replies words ≡ false = no_answer (single_of ws) in
    let heading : kind_if (line_kind.Thread (t + 1)) (is_heading (t + 1) words) ≡ Some (line_kind.Thread (t + 1)) = ap (kind_if (line_kind.Thread (t + 1))) numbered.single in
    heading_leads counts threads (t + 1) text g ws (place.Replies t) reads.leads numbered
    (cond-false (replies words) (Some line_kind.Reply) (form.next_thread threads t words) no_reply ∙ (cond-true (nat_lt t threads) (kind_if (line_kind.Thread (t + 1)) (is_heading (t + 1) words)) None (lt-ltb t threads more) ∙ heading))

-- a line of replies
pub reply_read : (counts : Bool) (threads t : ℕ) (text : Text) (g : Gathered Text) (ls : List Text) (word : Text) (ws : List Text) → ReadsThreads counts threads t text (with_thread g ls) → replies (word ∷ ws) ≡ true → are_plain (word ∷ ws) ≡ true
    → ReadsThreads counts threads t (text ++ text_of ((word ∷ ws) ∷ [])) (with_thread g (ls ++ joined (word ∷ ws) ∷ []))
reply_read counts threads t text g ls word ws reads is plain = record {
  leads =
      let words = word ∷ ws in
      let line = joined words in
      let with_one = with_line (with_thread g ls) line line_kind.Reply in
      let at : kind_at threads (place.Replies t) words ≡ Some line_kind.Reply = cond-true (replies words) (Some line_kind.Reply) (form.next_thread threads t words) is in
      let leads = line_leads counts threads (place.Replies t) (place.Replies t) (with_thread g ls) with_one word ws line_kind.Reply [] plain at (stays counts threads (place.Replies t) with_one) in
      leads_on counts threads place.Between (place.Replies t) (place.Replies t) nothing_gathered (with_thread g ls) (with_thread g (ls ++ line ∷ [])) text (text_of (words ∷ [])) reads.leads
      (subst (λ (k : Grouped Text). LeadsTo counts threads (place.Replies t) (with_thread g ls) (text_of (words ∷ [])) (place.Replies t) (record g { replies = k })) (added_group g.replies ls line) leads);
}

-- where all threads are read, the text is an output
pub threads_read : (counts : Bool) (threads : ℕ) (text : Text) (g : Gathered Text) → ReadsThreads counts threads threads text g → output_read counts threads text ≡ Some g
threads_read counts threads text g reads = whole_read counts threads (place.Replies threads) g text reads.leads (eq-eqb threads threads refl)
