-- The report of a pause and the replies to calls have the form of an output, where their numbers are small enough to be printed digit by
-- digit.
use Rattle.std.proofs.Common.{◌≡◌, ℕ, ◌<◌, ◌≤◌, ◌^◌, Bool, true, false, not, ◌&&◌, List, [], ◌∷◌, ◌++◌, Some, None, length, map, refl, sym, ap, ◌∙◌, arith, codes, decimal, ltb, append_assoc}
use Rattle.std.specs.Prelude.{Option, flat_map, if◌then◌else◌}
use Rattle.std.specs.List.{list_all}
use Rattle.std.proofs.lemmas.Bool.{and_parts, and_from, or_left, or_right}
use Rattle.std.proofs.lemmas.List.{length-map}
use Rattle.lxr_layout.specs.declared.Name.{Name}
use Rattle.lxr_graph.specs.declared.Op.{Op}
use Rattle.lxr_graph.specs.declared.Op.TheVariants as op
use Rattle.lxr_graph.specs.declared.Reply.{Reply}
use Rattle.lxr_graph.specs.declared.report.Count.{Count}
use Rattle.lxr_graph.specs.declared.report.Kind.{Kind}
use Rattle.lxr_graph.specs.declared.report.Kind.TheVariants as kind
use Rattle.lxr_graph.specs.History.{PauseReport, Item, Call, Pause, Renew}
use Rattle.lxr_text_script.specs.Lines.{Text}
use Rattle.lxr_text_script.specs.Spelling.{joined, text_of}
use Rattle.lxr_text_script.proofs.Canonical.{plain_number}
use Rattle.lxr_text_script.proofs.Plain.{are_high, are_plain, is_plain, plain_high}
use Rattle.lxr_text_print.specs.Lines.{words, line, name_text}
use Rattle.lxr_text_print.specs.Replies.{word_of, answer_of}
use Rattle.lxr_text_print.specs.Reports.{kind_words, pause_text, names_text, count_word, count_text, counts_text, report_text}
use Rattle.lxr_text_print.specs.Reports as printed
use Rattle.lxr_judge_output.specs.declared.lines.Sort.{Sort}
use Rattle.lxr_judge_output.specs.declared.lines.Sort.TheVariants as sort
use Rattle.lxr_judge_output.specs.Lines.{numbered_sort, is_counted_name}
use Rattle.lxr_judge_output.specs.Words.{is_name, is_reply}
use Rattle.lxr_judge_output.proofs.PrintedLemmas.{decimal_name, decimal_number, decimal_numeral}
use Rattle.lxr_judge_output.proofs.ReadingLemmas.{ReportWords, AreNames, AreCounts, HasForm, has_counts, count_words, report_words}

-- ---- numbers that are small enough

-- a number is printed digit by digit
abbrev pub IsSmall : ℕ → Type 0
IsSmall n = n < 2 ^ 64

pub record IsSmallName (n : Name) : Type 0 where
  pub thread : n.thread ≤ 16
  pub serial : n.serial < 2 ^ 32

abbrev pub AreSmallNames : List Name → Type 0
AreSmallNames [] = Unit {0}
AreSmallNames (n ∷ ns) = IsSmallName n × AreSmallNames ns

-- so few names that their number is small
pub record IsSmallList (ns : List Name) : Type 0 where
  pub names : AreSmallNames ns
  pub count : IsSmall (length ns)

abbrev pub IsSmallKind : Kind → Type 0
IsSmallKind (kind.End j) = IsSmall j
IsSmallKind k = Unit {0}

abbrev pub IsSmallWord : Option ℕ → Type 0
IsSmallWord None = Unit {0}
IsSmallWord (Some n) = IsSmall n

abbrev pub AreSmallCounts : List Count → Type 0
AreSmallCounts [] = Unit {0}
AreSmallCounts (c ∷ cs) = IsSmallName c.name × IsSmallWord c.count × AreSmallCounts cs

pub record IsSmallReport (r : PauseReport) : Type 0 where
  pub number : IsSmall r.number
  pub kind : IsSmallKind r.kind
  pub promoted : IsSmallList r.promoted
  pub dead : IsSmallList r.dead
  pub stuck : IsSmallList r.stuck
  pub swept : IsSmallList r.swept
  pub counts : AreSmallCounts r.counts

-- an operation may have this reply, as they are printed; the end prints nothing
abbrev pub IsSaid : Op → Reply → Type 0
IsSaid op.End r = Unit {0}
IsSaid o r = (is_reply (word_of o) (answer_of r) ≡ true) × (is_plain (answer_of r) ≡ true)

-- all that is printed of a history's items is so
abbrev pub AreSmall : List Item → Type 0
AreSmall [] = Unit {0}
AreSmall (Renew ns ∷ h) = Unit {0}
AreSmall (Call t o r ∷ h) = AreSmall h × IsSaid o r
AreSmall (Pause report ∷ h) = AreSmall h × IsSmallReport report

-- ---- words

high_both : (xs ys : Text) → are_high xs ≡ true → are_high ys ≡ true → are_high (xs ++ ys) ≡ true
high_both [] ys a b = b
high_both (x ∷ xs) ys a b = let parts = and_parts (ltb 35 x) (are_high xs) a in and_from _ _ parts.0 (high_both xs ys parts.1 b)

-- a plain word with high bytes behind it is plain
plain_both : (xs ys : Text) → is_plain xs ≡ true → are_high ys ≡ true → is_plain (xs ++ ys) ≡ true
plain_both [] ys a b = cc
plain_both (x ∷ xs) ys a b = high_both (x ∷ xs) ys a b

pub plain_name : (n : Name) → IsSmallName n → is_plain (name_text n) ≡ true
plain_name n small =
    let low : IsSmall n.thread = let t = small.thread in omega (arith, t) in
    let few : IsSmall n.serial = let s = small.serial in omega (arith, s) in
    plain_both (decimal n.thread) (codes "." ++ decimal n.serial) (plain_number n.thread low) (plain_high (decimal n.serial) (plain_number n.serial few))

pub name_is : (n : Name) → IsSmallName n → is_name (name_text n) ≡ true
name_is n small = let t = small.thread in let s = small.serial in decimal_name n.thread n.serial (omega (arith, t)) (omega (arith, s))

names_plain : (ns : List Name) → AreSmallNames ns → are_plain (map name_text ns) ≡ true
names_plain [] small = refl
names_plain (n ∷ ns) small = and_from _ _ (plain_name n small.0) (names_plain ns small.1)

names_are : (ns : List Name) → AreSmallNames ns → list_all is_name (map name_text ns) ≡ true
names_are [] small = refl
names_are (n ∷ ns) small = and_from _ _ (name_is n small.0) (names_are ns small.1)

-- ---- a report by its words

abbrev pub sort_of_kind : Kind → Sort
sort_of_kind kind.Plain = sort.Plain
sort_of_kind kind.Begin = sort.Begin
sort_of_kind (kind.End j) = sort.End
sort_of_kind kind.Collect = sort.Collect

abbrev pub listed_words : List Name → List Text
listed_words ns = decimal (length ns) ∷ map name_text ns

abbrev pub counted_words : Count → List Text
counted_words c = name_text c.name ∷ count_word c.count ∷ []

abbrev pub printed_counts : Bool → PauseReport → List Count
printed_counts asked r = if asked && not (printed.is_plain r.kind) then r.counts else []

abbrev pub words_of_report : Bool → PauseReport → ReportWords
words_of_report asked r = record {
  sort = sort_of_kind r.kind;
  pause = decimal r.number ∷ kind_words r.kind;
  promoted = listed_words r.promoted;
  dead = listed_words r.dead;
  stuck = listed_words r.stuck;
  swept = listed_words r.swept;
  counted = map counted_words (printed_counts asked r);
}

-- ---- it has the form

sort_is : (number : ℕ) (k : Kind) → IsSmall number → IsSmallKind k → numbered_sort (decimal number ∷ kind_words k) ≡ Some (sort_of_kind k)
sort_is number kind.Plain small fits = rw (decimal_numeral number small) refl
sort_is number kind.Begin small fits = rw (decimal_numeral number small) refl
sort_is number (kind.End j) small fits = rw (decimal_numeral number small, decimal_numeral j fits) refl
sort_is number kind.Collect small fits = rw (decimal_numeral number small) refl

pause_plain : (number : ℕ) (k : Kind) → IsSmall number → IsSmallKind k → are_plain (decimal number ∷ kind_words k) ≡ true
pause_plain number kind.Plain small fits = rw (plain_number number small) refl
pause_plain number kind.Begin small fits = rw (plain_number number small) refl
pause_plain number (kind.End j) small fits = rw (plain_number number small, plain_number j fits) refl
pause_plain number kind.Collect small fits = rw (plain_number number small) refl

list_formed : (ns : List Name) → IsSmallList ns → AreNames (listed_words ns)
list_formed ns small = record {
  names = and_from _ _ (names_are ns small.names) (rw (length-map ns name_text) (decimal_number (length ns) small.count));
  plain = and_from _ _ (plain_number (length ns) small.count) (names_plain ns small.names);
}

count_formed : (c : Count) → IsSmallName c.name → (word : Option ℕ) → IsSmallWord word → (is_counted_name (name_text c.name ∷ count_word word ∷ []) ≡ true) × (are_plain (name_text c.name ∷ count_word word ∷ []) ≡ true)
count_formed c small None fits = (and_from _ _ (name_is c.name small) (or_right _ _ refl), rw (plain_name c.name small) refl)
count_formed c small (Some n) fits = (and_from _ _ (name_is c.name small) (or_left _ _ (decimal_numeral n fits)), rw (plain_name c.name small, plain_number n fits) refl)

counts_formed : (cs : List Count) → AreSmallCounts cs → AreCounts (map counted_words cs)
counts_formed [] small = tt
counts_formed (c ∷ cs) small = let is = count_formed c small.0 c.count small.1 in (is.0, is.1, counts_formed cs small.2)

some_counted : (b : Bool) (cs : List Count) → AreSmallCounts cs → AreCounts (map counted_words (if b then cs else []))
some_counted true cs small = counts_formed cs small
some_counted false cs small = tt

none_counted : (asked : Bool) (k : Kind) (cs : List Count) → has_counts asked (sort_of_kind k) ≡ false → map counted_words (if asked && not (printed.is_plain k) then cs else []) ≡ []
none_counted true kind.Plain cs e = refl
none_counted false kind.Plain cs e = refl
none_counted false kind.Begin cs e = refl
none_counted false (kind.End j) cs e = refl
none_counted false kind.Collect cs e = refl
none_counted true kind.Begin cs e = cc
none_counted true (kind.End j) cs e = cc
none_counted true kind.Collect cs e = cc

pub report_formed : (asked : Bool) (r : PauseReport) → IsSmallReport r → HasForm asked (words_of_report asked r)
report_formed asked r small = record {
  pause = sort_is r.number r.kind small.number small.kind;
  plain = pause_plain r.number r.kind small.number small.kind;
  promoted = list_formed r.promoted small.promoted;
  dead = list_formed r.dead small.dead;
  stuck = list_formed r.stuck small.stuck;
  swept = list_formed r.swept small.swept;
  counted = some_counted (asked && not (printed.is_plain r.kind)) r.counts small.counts;
  only = none_counted asked r.kind r.counts;
}

-- ---- its text

joined_words : (ws : List Text) → joined ws ≡ words ws
joined_words [] = refl
joined_words (w ∷ []) = refl
joined_words (w ∷ next ∷ ws) = ap (λ (rest : Text). w ++ 32 ∷ rest) (joined_words (next ∷ ws))

-- a line, with what stands behind it
line_text : (ws : List Text) (rest more : Text) → rest ≡ more → line ws ++ rest ≡ joined ws ++ 10 ∷ more
line_text ws rest more same = append_assoc (words ws) (codes "\n") rest ∙ (λ i. sym (joined_words ws) i ++ 10 ∷ same i)

counts_are : (cs : List Count) → flat_map count_text cs ≡ text_of (count_words (map counted_words cs))
unfolding count_text
counts_are [] = refl
counts_are (c ∷ cs) = line_text (codes "count" ∷ counted_words c) (flat_map count_text cs) (text_of (count_words (map counted_words cs))) (counts_are cs)

asked_counts : (b : Bool) (cs : List Count) → (if b then flat_map count_text cs else []) ≡ text_of (count_words (map counted_words (if b then cs else [])))
asked_counts true cs = counts_are cs
asked_counts false cs = refl

pause_line : {rest more : Text} (number : ℕ) (k : Kind) → rest ≡ more → pause_text number k ++ rest ≡ joined (codes "pause" ∷ decimal number ∷ kind_words k) ++ 10 ∷ more
unfolding pause_text
pause_line {rest} {more} number k same = line_text (codes "pause" ∷ decimal number ∷ kind_words k) rest more same

names_line : {rest more : Text} (label : Text) (ns : List Name) → rest ≡ more → names_text label ns ++ rest ≡ joined (label ∷ listed_words ns) ++ 10 ∷ more
unfolding names_text
names_line {rest} {more} label ns same = line_text (label ∷ listed_words ns) rest more same

counted_lines : (asked : Bool) (r : PauseReport) → counts_text asked r ≡ text_of (count_words (map counted_words (printed_counts asked r)))
unfolding counts_text
counted_lines asked r = asked_counts (asked && not (printed.is_plain r.kind)) r.counts

six_parts : (a b c d e f : Text) → a ++ b ++ c ++ d ++ e ++ f ≡ a ++ (b ++ (c ++ (d ++ (e ++ f))))
six_parts a b c d e f = simp append_assoc

pub report_words_are : (asked : Bool) (r : PauseReport) → report_text asked r ≡ text_of (report_words (words_of_report asked r))
report_words_are asked r =
    let swept = names_line (codes "swept") r.swept (counted_lines asked r) in
    let stuck = names_line (codes "stuck") r.stuck swept in
    let dead = names_line (codes "dead") r.dead stuck in
    let promoted = names_line (codes "promoted") r.promoted dead in
    six_parts (pause_text r.number r.kind) (names_text (codes "promoted") r.promoted) (names_text (codes "dead") r.dead) (names_text (codes "stuck") r.stuck) (names_text (codes "swept") r.swept) (counts_text asked r)
    ∙ pause_line r.number r.kind promoted
