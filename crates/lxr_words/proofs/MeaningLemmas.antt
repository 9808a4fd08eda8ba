-- From what `clap` finds to what the words say.
use Rattle.std.proofs.Common.{◌≡◌, ◌∙◌, ◌&&◌, ◌⊎◌, Bool, cond, not, true, false, refl, sym, ap, ap₂, subst, List, [], map, Option, Some, None, Result, Ok, Err, find, option_map, option_and_then, is_some, codes, inl, inr, true≢false}
use Rattle.std.specs.Prelude.{IsErrAnd}
use Rattle.std.specs.List.{list_all, list_any}
use Rattle.std.specs.Str.{bytes_eq}
use Rattle.clap.specs.Kinds.{HasKind, IsAmong, Kinds}
use Rattle.clap.specs.Faults.{fault_of, is_simple_and_free}
use Rattle.clap.specs.Matches.{first_value, found_of, one_text}
use Rattle.clap.specs.Simple.{HasMatchesOf, is_simple, matches_of}
use Rattle.clap.specs.Walk.{Row, first_of, nothing_held, one_of, row_text, rows_of, walk_from}
use Rattle.clap.specs.Values.{kind_of}
use Rattle.clap.specs.declared.error.Error.{Error}
use Rattle.clap.specs.declared.error.kind.ErrorKind.TheVariants.{OutOfMemory}
use Rattle.std.specs.Borrow.{Bor}
use Rattle.lxr_words.specs.declared.WordError.{WordError}
use Rattle.clap.specs.declared.parser.matches.ArgMatches.{ArgMatches}
use Rattle.clap.specs.declared.parser.matches.Found.{Found}
use Rattle.clap.proofs.WalkLemmas.{first_value-rows, list_any-map, one_text-rows}
use Rattle.lxr_words.specs.Number.{Text}
use Rattle.lxr_words.specs.Settings.{Settings, Table, dashes, settings_in, is_accepted, is_set, option_named, text_of, each_once}
use Rattle.lxr_words.specs.Options.{Answers, accepted, agreeing, options_by, options_from, options_in, table_of}
use Rattle.lxr_words.specs.Arguments.{ReadsIfFine, all_fine, number_options}
use Rattle.lxr_words.specs.Arguments.{FlagReads, Holds, app_for}
use Rattle.lxr_words.specs.declared.Command.{Command}
use Rattle.lxr_words.specs.declared.Command.TheVariants as command
use Rattle.lxr_words.specs.declared.Options.{Options}
use Rattle.lxr_words.specs.declared.WordFault.TheVariants as fault
use Rattle.lxr_words.proofs.Lists.{list_any-find}
use Rattle.std.proofs.Math.Bool.{and-false}
use Rattle.std.proofs.lemmas.Bool.{and_parts}
use Rattle.lxr_words.proofs.Matches.{fault_is, flag_is, flag_text, matches_are, no_default, not_flag, row_given, text_is}
use Rattle.lxr_words.proofs.Accepted.{is_own, is_within, right_within, absent, all_sound, dashes_refused, flag_says, is_right, right_accepted, sound, wrong_one}
use Rattle.lxr_words.proofs.Walks.{Refused, Taken, end_rows, ending, no_dashes, reads, refuses, rows_for, row_for}

abbrev pub title : Text
title = codes "lxr"

-- ---- the tables

named_all : (which : Command) → option_named (table_of which) [] ≡ None
named_all command.Run = refl
named_all command.Map = refl
named_all command.Large = refl
named_all command.Order = refl
named_all command.Judge = refl
named_all (command.Load seed) = refl

pub simple_is : (which : Command) → is_simple_and_free (app_for title (table_of which)) ≡ true
simple_is command.Run = refl
simple_is command.Map = refl
simple_is command.Large = refl
simple_is command.Order = refl
simple_is command.Judge = refl
simple_is (command.Load seed) = refl

plain : (which : Command) (n : Text) → bytes_eq (codes "counts") n ≡ false → bytes_eq (codes "stand") n ≡ false → list_all (not_flag n) (table_of which) ≡ true
plain command.Run n c s = ap₂ (λ x y. not x && (not y && true)) s c
plain command.Map n c s = ap₂ (λ x y. not x && (not y && true)) s c
plain command.Large n c s = ap (λ b. not b && true) c
plain command.Order n c s = ap₂ (λ x y. not x && (not y && true)) s c
plain command.Judge n c s = ap (λ b. not b && true) c
plain (command.Load seed) n c s = ap (λ b. not b && true) s

owns : (which : Command) → list_all (is_own (table_of which)) number_options ≡ true
owns command.Run = refl
owns command.Map = refl
owns command.Large = refl
owns command.Order = refl
owns command.Judge = refl
owns (command.Load seed) = refl

within : (which : Command) → list_all (is_within (table_of which) number_options) (table_of which) ≡ true
within command.Run = refl
within command.Map = refl
within command.Large = refl
within command.Order = refl
within command.Judge = refl
within (command.Load seed) = refl

-- ---- texts

same_fine : (f h : Text → Option Text) → ((n : Text) → bytes_eq (codes "counts") n ≡ false → bytes_eq (codes "stand") n ≡ false → f n ≡ h n) → all_fine f ≡ all_fine h
same_fine f h e = rw (
  e (codes "blocks") refl refl,
  e (codes "workers") refl refl,
  e (codes "every") refl refl,
  e (codes "log") refl refl,
  e (codes "trace") refl refl,
  e (codes "within") refl refl,
  e (codes "remember") refl refl,
  e (codes "replay") refl refl,
  e (codes "threads") refl refl,
  e (codes "rounds") refl refl,
  e (codes "bodies") refl refl,
) refl

same_options : (f h : Text → Option Text) (b s : Bool) (which : Command) → ((n : Text) → bytes_eq (codes "counts") n ≡ false → bytes_eq (codes "stand") n ≡ false → f n ≡ h n)
    → options_by f b s which ≡ options_by h b s which
same_options f h b s which e = rw (
  e (codes "blocks") refl refl,
  e (codes "workers") refl refl,
  e (codes "every") refl refl,
  e (codes "log") refl refl,
  e (codes "trace") refl refl,
  e (codes "within") refl refl,
  e (codes "remember") refl refl,
  e (codes "replay") refl refl,
  e (codes "threads") refl refl,
  e (codes "rounds") refl refl,
  e (codes "bodies") refl refl,
) refl

-- ---- the flags

module _ (flag : Text) (words : List Text) (g : Settings) (found : Found) (b : Bool) (says : FlagReads (one_text found flag) b) where
  flag_known : (t : Table) → option_named t flag ≡ Some (record { name = flag; range = None }) → list_all (sound t) g ≡ true
      → rows_of found ≡ matches_of (app_for title t) words → end_rows title t (walk_from nothing_held) words ≡ rows_for g → b ≡ is_set flag g
  flag_known t own good rows end =
      let is : one_text found flag ≡ Some (flag_text (is_set flag g))
      = one_text-rows found flag ∙ ap (one_of flag) rows ∙ flag_is title t words g flag end own (λ x e. flag_says t flag x g own good e) in
      go (is_set flag g) is
    where
      go : (given : Bool) → one_text found flag ≡ Some (flag_text given) → b ≡ given
      go true e = says.yes e
      go false e = says.no e

  flag_absent : (t : Table) → option_named t flag ≡ None → list_all (not_flag flag) t ≡ true → list_all (sound t) g ≡ true
      → rows_of found ≡ matches_of (app_for title t) words → end_rows title t (walk_from nothing_held) words ≡ rows_for g → b ≡ is_set flag g
  flag_absent t own none good rows end =
      let no_entry : find (λ p. bytes_eq p.0 flag) g ≡ None = absent t flag g own good in
      let is : one_text found flag ≡ None
      = one_text-rows found flag ∙ ap (one_of flag) (rows ∙ matches_are title t words)
      ∙ ap (option_and_then row_text) (no_default flag t none (end_rows title t (walk_from nothing_held) words) ∙ ap (find (λ (r : Row). bytes_eq r.id flag)) end ∙ row_given flag g ∙ ap (option_map row_for) no_entry) in
      says.none is ∙ sym (list_any-find (λ (p : Text × Text). bytes_eq p.0 flag) g ∙ ap is_some no_entry)

module _ (words : List Text) (g : Settings) (found : Found) (b : Bool) where
  counts_right : (which : Command) → FlagReads (one_text found (codes "counts")) b → list_all (sound (table_of which)) g ≡ true → rows_of found ≡ matches_of (app_for title (table_of which)) words
      → end_rows title (table_of which) (walk_from nothing_held) words ≡ rows_for g → b ≡ is_set (codes "counts") g
  counts_right command.Run says good rows end = flag_known (codes "counts") words g found b says (table_of command.Run) refl good rows end
  counts_right command.Map says good rows end = flag_known (codes "counts") words g found b says (table_of command.Map) refl good rows end
  counts_right command.Large says good rows end = flag_known (codes "counts") words g found b says (table_of command.Large) refl good rows end
  counts_right command.Order says good rows end = flag_known (codes "counts") words g found b says (table_of command.Order) refl good rows end
  counts_right command.Judge says good rows end = flag_known (codes "counts") words g found b says (table_of command.Judge) refl good rows end
  counts_right (command.Load seed) says good rows end = flag_absent (codes "counts") words g found b says (table_of (command.Load seed)) refl refl good rows end

  stand_right : (which : Command) → FlagReads (one_text found (codes "stand")) b → list_all (sound (table_of which)) g ≡ true → rows_of found ≡ matches_of (app_for title (table_of which)) words
      → end_rows title (table_of which) (walk_from nothing_held) words ≡ rows_for g → b ≡ is_set (codes "stand") g
  stand_right command.Run says good rows end = flag_known (codes "stand") words g found b says (table_of command.Run) refl good rows end
  stand_right command.Map says good rows end = flag_known (codes "stand") words g found b says (table_of command.Map) refl good rows end
  stand_right command.Large says good rows end = flag_absent (codes "stand") words g found b says (table_of command.Large) refl refl good rows end
  stand_right command.Order says good rows end = flag_known (codes "stand") words g found b says (table_of command.Order) refl good rows end
  stand_right command.Judge says good rows end = flag_absent (codes "stand") words g found b says (table_of command.Judge) refl refl good rows end
  stand_right (command.Load seed) says good rows end = flag_known (codes "stand") words g found b says (table_of (command.Load seed)) refl good rows end

-- ---- answers

refused_given : (which : Command) (o : Option Settings) → ((g : Settings) → o ≡ Some g → is_accepted (table_of which) g ≡ false) → accepted which o ≡ Err fault.Options
refused_given which None h = refl
refused_given which (Some g) h = ap (λ b. cond b (agreeing (options_from which g)) (Err fault.Options)) (h g refl)

refused_kinds : (kinds : Kinds) → refuses kinds ≡ true → kinds ≡ [] → ⊥
refused_kinds kinds e f = true≢false (sym e ∙ ap refuses f)

-- the matches that `clap` finds hold what the words say
pub found_holds : (which : Command) (words : List Text) (m : ArgMatches) → no_dashes words ≡ true → fault_of (app_for title (table_of which)) words ≡ []
    → HasMatchesOf (app_for title (table_of which)) words m → Holds which words (found_of m)
found_holds which words m clear no_fault matches = go (reads title (table_of which) (named_all which) words clear)
  where
    t : Table
    t = table_of which

    rows : rows_of (found_of m) ≡ matches_of (app_for title (table_of which)) words
    rows = (matches ((and_parts (is_simple (app_for title (table_of which))) _ (simple_is which)).0)).0

    go : Taken title (table_of which) (ending title (table_of which) (walk_from nothing_held) words) (end_rows title (table_of which) (walk_from nothing_held) words) [] (settings_in (table_of which) words None)
        ⊎ Refused title (table_of which) (ending title (table_of which) (walk_from nothing_held) words) [] (settings_in (table_of which) words None) → Holds which words (found_of m)
    go (inr r) = absurd (refused_kinds _ r.kinds_are (sym (fault_is title (table_of which) words) ∙ no_fault))
    go (inl y) =
        let g : Settings = y.more in
        let good : list_all (sound (table_of which)) g ≡ true = all_sound (table_of which) words None g tt y.read_is in
        let texts : (n : Text) → bytes_eq (codes "counts") n ≡ false → bytes_eq (codes "stand") n ≡ false → first_value (found_of m) n ≡ text_of n g
        = λ n c s. first_value-rows (found_of m) n ∙ ap (first_of n) rows ∙ text_is title (table_of which) words g n y.rows_are (plain which n c s) in
        let fine_is : all_fine (first_value (found_of m)) ≡ list_all (is_right g) number_options = same_fine (first_value (found_of m)) (λ n. text_of n g) texts in
        record {
          fine = λ e b s says stands.
              let accept : is_accepted (table_of which) g ≡ true = right_accepted (table_of which) g good y.once (right_within (table_of which) g number_options (table_of which) (within which) (sym fine_is ∙ e)) in
              ap (accepted which) y.read_is
              ∙ ap (λ x. cond x (agreeing (options_from which g)) (Err fault.Options)) accept
              ∙ ap agreeing (ap (λ x. options_by (λ n. text_of n g) x (is_set (codes "stand") g) which) (sym (counts_right words g (found_of m) b which says good rows y.rows_are))
              ∙ ap (λ x. options_by (λ n. text_of n g) b x which) (sym (stand_right words g (found_of m) s which stands good rows y.rows_are))
              ∙ sym (same_options (first_value (found_of m)) (λ n. text_of n g) b s which texts));
          wrong = λ e.
              let refuse : is_accepted (table_of which) g ≡ false = wrong_one (table_of which) g good number_options (owns which) (sym fine_is ∙ e) in
              ap (accepted which) y.read_is ∙ ap (λ x. cond x (agreeing (options_from which g)) (Err fault.Options)) refuse;
        }

-- words that `clap` refuses are not accepted
pub refused_says : (which : Command) (words : List Text) → no_dashes words ≡ true → (fault_of (app_for title (table_of which)) words ≡ [] → ⊥) → options_in which words ≡ Err fault.Options
refused_says which words clear some_fault = go (reads title (table_of which) (named_all which) words clear)
  where
    go : Taken title (table_of which) (ending title (table_of which) (walk_from nothing_held) words) (end_rows title (table_of which) (walk_from nothing_held) words) [] (settings_in (table_of which) words None)
        ⊎ Refused title (table_of which) (ending title (table_of which) (walk_from nothing_held) words) [] (settings_in (table_of which) words None) → options_in which words ≡ Err fault.Options
    go (inl y) = absurd (some_fault (fault_is title (table_of which) words ∙ y.kinds_are))
    go (inr r) = refused_given which (settings_in (table_of which) words None) r.not_accepted

-- `--` is never accepted
pub dashes_say : (which : Command) (words : List Text) → no_dashes words ≡ false → options_in which words ≡ Err fault.Options
dashes_say which words e = refused_given which (settings_in (table_of which) words None)
    (λ g f. ap (λ b. each_once g && b) (dashes_refused (table_of which) (named_all which) words None g tt e f) ∙ and-false _)

pub clear_words : (words : List (Bor Text)) (b : Bool) → list_any (λ word. bytes_eq word.now dashes) words ≡ b → no_dashes (map (λ word. word.now) words) ≡ not b
clear_words words b e = ap not (sym (list_any-map (λ w. bytes_eq w dashes) (λ (word : Bor Text). word.now) words) ∙ e)

-- an error of a kind that is not memory's stands for a fault
pub has_fault : (kinds : Kinds) (e : Error) → HasKind kinds e → (kind_of e ≡ OutOfMemory → ⊥) → kinds ≡ [] → ⊥
has_fault kinds e (inl memory) other none = other memory
has_fault kinds e (inr among) other none = subst (IsAmong (kind_of e)) none among

-- texts that are fine are answered by their options, where these go together
pub answers_fine : (which : Command) (words : List Text) (found : Found) (b s : Bool) → FlagReads (one_text found (codes "counts")) b → FlagReads (one_text found (codes "stand")) s → Holds which words found
    → (o : Options) → ReadsIfFine (all_fine (first_value found)) (options_by (first_value found) b s which) (Ok o)
    → (r : Result Options WordError) → Answers (agreeing o) r → Answers (options_in which words) r
answers_fine which words found b s says stands h o w r a = subst (λ x. Answers x r) (sym (h.fine w.0 b s says stands ∙ ap agreeing (sym w.1))) a

-- texts that aren't are refused
pub answers_wrong : (which : Command) (words : List Text) (found : Found) (x : Options) → Holds which words found
    → (e : WordError) → ReadsIfFine (all_fine (first_value found)) x (Err e) → Answers (options_in which words) (Err e)
answers_wrong which words found x h e w = subst (λ z. Answers (options_in which words) (Err z)) (sym w.1) (h.wrong w.0)

-- an error that is passed on is answered as the one that there was
pub passed_on : (P : Result Options WordError → Type 0) (r : Result Options WordError) (e : WordError) → IsErrAnd r (λ x. x ≡ e) → P (Err e) → P r
passed_on P (Ok o) e is holds = absurd is
passed_on P (Err x) e is holds = subst (λ z. P (Err z)) (sym is) holds
