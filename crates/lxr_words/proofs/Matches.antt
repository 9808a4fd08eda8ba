-- What a parse of a table's command gives, with the defaults that come in after the walk.
use Rattle.std.proofs.Common.{◌≡◌, ◌∙◌, ◌&&◌, ◌||◌, ◌++◌, ℕ, Bool, cond, not, true, false, refl, sym, ap, ap₂, List, [], ◌∷◌, map, Option, Some, None, find, option_map, is_some, codes, true≢false, fold, slice_get, option_and_then, if◌then◌else◌}
use Rattle.std.specs.List.{list_all, list_any}
use Rattle.std.specs.Str.{bytes_eq}
use Rattle.clap.specs.Kinds.{Kinds, or_else, check_kinds}
use Rattle.clap.specs.Walk.{Row, Rule, at_row, first_of, has_row, more_values, nothing_held, one_of, row_text, walk, walk_from, with_default, rows_after, with_values}
use Rattle.clap.specs.Faults.{check_fault, default_fault, defaults_fault, fault_of, settle_fault, walk_fault, built_fault}
use Rattle.clap.specs.Takes.{is_given as row_is_given}
use Rattle.clap.specs.Simple.{App, Shape, built, filled, filled_from, matches_of, names_of}
use Rattle.clap.specs.declared.builder.value_parser.Reading.TheVariants.{AsWritten}
use Rattle.clap.specs.declared.parser.matches.ValueSource.TheVariants.{DefaultValue}
use Rattle.clap.proofs.FaultLemmas.{leaf_fault}
use Rattle.lxr_words.specs.Number.{Text}
use Rattle.lxr_words.specs.Settings.{Settings, KnownOption, Table, is_set, option_named, text_of}
use Rattle.lxr_words.specs.Arguments.{app_for, argument_rule, rule_for}
use Rattle.std.proofs.lemmas.Bool.{and_parts, not-true}
use Rattle.std.proofs.Math.Bool.{or-true}
use Rattle.lxr_words.proofs.Lists.{find-map, list_any-find, same_text}
use Rattle.lxr_words.proofs.Rules.{built_for, built_rules, shape_for}
use Rattle.lxr_words.proofs.Walks.{end_rows, ending, or_else_nil, row_for, rows_for}

-- ---- the command as built

one_filled : (r : Option (ℕ × ℕ)) (n : Text) (i : ℕ) (rest : List Rule) → filled_from i (argument_rule r n ∷ rest) ≡ filled (argument_rule r n) ∷ filled_from i rest
one_filled None n i rest = refl
one_filled (Some r) n i rest = refl

filled_is : (t : Table) (i : ℕ) → filled_from i (map rule_for t) ≡ built_rules t
filled_is [] i = refl
filled_is (k ∷ t) i = one_filled k.range k.name i (map rule_for t) ∙ ap (λ rs. built_for k ∷ rs) (filled_is t i)

pub built_is : (title : Text) (t : Table) → built (app_for title t) ≡ record { top = shape_for title (built_rules t); subs = [] }
built_is title t = let f : List Rule → App = λ rs. record { top = shape_for title rs; subs = [] } in ap f (filled_is t 1)

-- ---- after the walk there is no fault

abbrev no_kinds : Kinds
no_kinds = []

no_default_fault : (r : Option (ℕ × ℕ)) (n : Text) (rows : List Row) → default_fault rows (filled (argument_rule r n)) ≡ []
no_default_fault (Some r) n rows = rw (or-true (has_row n rows)) refl
no_default_fault None n rows = go (has_row n rows || false)
  where
    go : (b : Bool) → cond b no_kinds no_kinds ≡ no_kinds
    go true = refl
    go false = refl

defaults_none : (t : Table) (rows : List Row) → defaults_fault rows (built_rules t) ≡ []
unfolding defaults_fault
defaults_none [] rows = refl
defaults_none (k ∷ t) rows =
    ap (λ f. or_else f (defaults_fault (with_default rows (built_for k)) (built_rules t))) (no_default_fault k.range k.name rows)
    ∙ defaults_none t (with_default rows (built_for k))

one_not_required : (r : Option (ℕ × ℕ)) (n : Text) (rows : List Row) → ((filled (argument_rule r n)).required && not (row_is_given (filled (argument_rule r n)).id rows)) ≡ false
one_not_required None n rows = refl
one_not_required (Some r) n rows = refl

none_required : (t : Table) (rows : List Row) → list_any (λ (a : Rule). a.required && not (row_is_given a.id rows)) (built_rules t) ≡ false
none_required [] rows = refl
none_required (k ∷ t) rows =
    ap (λ b. b || list_any (λ (a : Rule). a.required && not (row_is_given a.id rows)) (built_rules t)) (one_not_required k.range k.name rows)
    ∙ none_required t rows

check_none : (title : Text) (t : Table) (rows : List Row) → check_fault (shape_for title (built_rules t)) rows false ≡ []
check_none title t rows = ap (λ b. check_kinds false false b) (none_required t rows)

pub fault_is : (title : Text) (t : Table) (words : List Text) → fault_of (app_for title t) words ≡ ending title t (walk_from nothing_held) words
fault_is title t words =
    let s : Shape = shape_for title (built_rules t) in
    ap (λ a. built_fault a nothing_held words) (built_is title t)
    ∙ leaf_fault (record { top = s; subs = [] }) nothing_held words refl
    ∙ ap₂ (λ d k. or_else (walk_fault s [] (walk_from nothing_held) words) (or_else (settle_fault (built_rules t) false (walk (built_rules t) [] nothing_held words).held) (or_else d k)))
    (defaults_none t _) (check_none title t _)
    ∙ ap (or_else (walk_fault s [] (walk_from nothing_held) words)) (or_else_nil _)

pub matches_are : (title : Text) (t : Table) (words : List Text) → matches_of (app_for title t) words ≡ fold with_default (end_rows title t (walk_from nothing_held) words) (built_rules t)
matches_are title t words = ap (λ (a : App). rows_after a.top.rules (names_of a) words) (built_is title t)

-- ---- defaults

abbrev row_of_id : Text → List Row → Option Row
row_of_id n rows = find (λ r. bytes_eq r.id n) rows

abbrev default_row : Text → Row
default_row n = record {
  id = n;
  values = codes "false" ∷ [];
  count = None;
  source = Some DefaultValue;
  reading = AsWritten;
}

find_more : (n : Text) (rows more : List Row) → row_of_id n (rows ++ more) ≡ elim (row_of_id n rows) [ Some r ↦ Some r | None ↦ row_of_id n more ]
find_more n [] more = refl
find_more n (r ∷ rows) more = go (bytes_eq r.id n) (find_more n rows more)
  where
    go : (b : Bool) → row_of_id n (rows ++ more) ≡ elim (row_of_id n rows) [ Some x ↦ Some x | None ↦ row_of_id n more ]
        → cond b (Some r) (row_of_id n (rows ++ more)) ≡ elim (cond b (Some r) (row_of_id n rows)) [ Some x ↦ Some x | None ↦ row_of_id n more ]
    go true e = refl
    go false e = e

at_missing : (n : Text) (change : Row → List Row) (missing : List Row) (rows : List Row) → has_row n rows ≡ false → at_row n change missing rows ≡ rows ++ missing
at_missing n change missing [] e = refl
at_missing n change missing (r ∷ rows) e = go (bytes_eq r.id n) refl (at_missing n change missing rows)
  where
    go : (b : Bool) → bytes_eq r.id n ≡ b → (has_row n rows ≡ false → at_row n change missing rows ≡ rows ++ missing) → at_row n change missing (r ∷ rows) ≡ r ∷ (rows ++ missing)
    go true q ih = absurd (true≢false (ap (λ b. b || has_row n rows) (sym q) ∙ e))
    go false q ih = ap (λ b. cond b (change r ++ rows) (r ∷ at_row n change missing rows)) q ∙ ap (λ rs. r ∷ rs) (ih (ap (λ b. b || has_row n rows) (sym q) ∙ e))

-- the argument adds nothing, or the default of a flag that has no row
data Added (rows : List Row) (r : Option (ℕ × ℕ)) (n : Text) : Type 0 where
  nothing : with_default rows (filled (argument_rule r n)) ≡ rows → (r ≡ None → has_row n rows ≡ true) → Added rows r n
  default : r ≡ None → with_default rows (filled (argument_rule r n)) ≡ rows ++ default_row n ∷ [] → Added rows r n

adds : (rows : List Row) (r : Option (ℕ × ℕ)) (n : Text) → Added rows r n
adds rows (Some r) n = nothing (go (has_row n rows)) (λ e. absurd (true≢false (ap is_some e)))
  where
    go : (b : Bool) → cond b rows rows ≡ rows
    go true = refl
    go false = refl
adds rows None n = go (has_row n rows) refl
  where
    go : (b : Bool) → has_row n rows ≡ b → Added rows None n
    go true e = nothing (ap (λ b. cond b rows (with_values n AsWritten DefaultValue (codes "false" ∷ []) rows)) e) (λ _. e)
    go false e = default refl (ap (λ b. cond b rows (with_values n AsWritten DefaultValue (codes "false" ∷ []) rows)) e ∙ at_missing n (more_values DefaultValue (codes "false" ∷ [])) (default_row n ∷ []) rows e)

-- a row that is there stays
stays : (n : Text) (x : Row) (t : Table) (rows : List Row) → row_of_id n rows ≡ Some x → row_of_id n (fold with_default rows (built_rules t)) ≡ Some x
stays n x [] rows e = e
stays n x (k ∷ t) rows e = stays n x t (with_default rows (built_for k)) (go (adds rows k.range k.name))
  where
    go : Added rows k.range k.name → row_of_id n (with_default rows (built_for k)) ≡ Some x
    go (nothing f h) = ap (row_of_id n) f ∙ e
    go (default h f) = ap (row_of_id n) f ∙ find_more n rows (default_row k.name ∷ []) ∙ ap (λ o. elim o [ Some y ↦ Some y | None ↦ row_of_id n (default_row k.name ∷ []) ]) e

abbrev pub not_flag : Text → KnownOption → Bool
not_flag n k = is_some k.range || not (bytes_eq k.name n)

-- an option that is no flag gets no row
pub no_default : (n : Text) (t : Table) → list_all (not_flag n) t ≡ true → (rows : List Row) → row_of_id n (fold with_default rows (built_rules t)) ≡ row_of_id n rows
no_default n [] e rows = refl
no_default n (k ∷ t) e rows =
    no_default n t ((and_parts (not_flag n k) _ e).1) (with_default rows (built_for k)) ∙ go (adds rows k.range k.name)
  where
    other : k.range ≡ None → bytes_eq k.name n ≡ false
    other h = not-true (bytes_eq k.name n) (ap (λ o. is_some o || not (bytes_eq k.name n)) (sym h) ∙ (and_parts (not_flag n k) (list_all (not_flag n) t) e).0)

    same : (o : Option Row) → elim o [ Some x ↦ Some x | None ↦ None ] ≡ o
    same None = refl
    same (Some x) = refl

    go : Added rows k.range k.name → row_of_id n (with_default rows (built_for k)) ≡ row_of_id n rows
    go (nothing f h) = ap (row_of_id n) f
    go (default h f) = ap (row_of_id n) f ∙ find_more n rows (default_row k.name ∷ [])
        ∙ ap (λ b. elim (row_of_id n rows) [ Some x ↦ Some x | None ↦ cond b (Some (default_row k.name)) None ]) (other h) ∙ same (row_of_id n rows)

-- a flag that is not given gets its default
flag_default : (n : Text) (t : Table) → option_named t n ≡ Some (record { name = n; range = None }) → (rows : List Row) → row_of_id n rows ≡ None
    → row_of_id n (fold with_default rows (built_rules t)) ≡ Some (default_row n)
flag_default n [] e rows none = absurd (true≢false (ap is_some (sym e)))
flag_default n (k ∷ t) e rows none = go (bytes_eq k.name n) refl (adds rows k.range k.name) (flag_default n t)
  where
    Ends : Type 0
    Ends = row_of_id n (fold with_default (with_default rows (built_for k)) (built_rules t)) ≡ Some (default_row n)

    go : (b : Bool) → bytes_eq k.name n ≡ b → Added rows k.range k.name → (option_named t n ≡ Some (record { name = n; range = None }) → (rs : List Row) → row_of_id n rs ≡ None
        → row_of_id n (fold with_default rs (built_rules t)) ≡ Some (default_row n))
        → row_of_id n (fold with_default (with_default rows (built_for k)) (built_rules t)) ≡ Some (default_row n)
    go true q (nothing f h) ih =
        let is : Some k ≡ Some (record { name = n; range = None }) = ap (λ b. cond b (Some k) (option_named t n)) (sym q) ∙ e in
        let flag_is : k.range ≡ None = ap (λ (o : Option KnownOption). option_and_then (λ (x : KnownOption). x.range) o) is in
        let row : has_row k.name rows ≡ true = h flag_is in
        let same : has_row n rows ≡ true = ap (λ m. has_row m rows) (sym (same_text k.name n q)) ∙ row in
        absurd (true≢false (sym same ∙ list_any-find (λ (r : Row). bytes_eq r.id n) rows ∙ ap is_some none))
    go true q (default h f) ih =
        let name_is : k.name ≡ n = same_text k.name n q in
        stays n (default_row n) t (with_default rows (built_for k))
        (ap (row_of_id n) f ∙ find_more n rows (default_row k.name ∷ []) ∙ ap (λ o. elim o [ Some y ↦ Some y | None ↦ row_of_id n (default_row k.name ∷ []) ]) none
        ∙ ap (λ b. cond b (Some (default_row k.name)) None) q ∙ ap (λ m. Some (default_row m)) name_is)
    go false q (nothing f h) ih = ih (ap (λ b. cond b (Some k) (option_named t n)) (sym q) ∙ e) (with_default rows (built_for k)) (ap (row_of_id n) f ∙ none)
    go false q (default h f) ih = ih (ap (λ b. cond b (Some k) (option_named t n)) (sym q) ∙ e) (with_default rows (built_for k))
        (ap (row_of_id n) f ∙ find_more n rows (default_row k.name ∷ []) ∙ ap (λ o. elim o [ Some y ↦ Some y | None ↦ row_of_id n (default_row k.name ∷ []) ]) none
        ∙ ap (λ b. cond b (Some (default_row k.name)) None) q)

-- ---- what the getters read

pub row_given : (n : Text) (g : Settings) → row_of_id n (rows_for g) ≡ option_map row_for (find (λ p. bytes_eq p.0 n) g)
row_given n g = find-map row_for (λ (r : Row). bytes_eq r.id n) (λ p. bytes_eq p.0 n) (λ p. refl) g

first_row : (o : Option (Text × Text)) → option_and_then (λ (r : Row). slice_get r.values 0) (option_map row_for o) ≡ option_map (λ p. p.1) o
first_row None = refl
first_row (Some p) = refl

-- the first value of an option with a number is its text
pub text_is : (title : Text) (t : Table) (words : List Text) (g : Settings) (n : Text) → end_rows title t (walk_from nothing_held) words ≡ rows_for g → list_all (not_flag n) t ≡ true
    → first_of n (matches_of (app_for title t) words) ≡ text_of n g
text_is title t words g n e plain =
    ap (first_of n) (matches_are title t words)
    ∙ ap (option_and_then (λ (r : Row). slice_get r.values 0)) (no_default n t plain (end_rows title t (walk_from nothing_held) words) ∙ ap (row_of_id n) e ∙ row_given n g)
    ∙ first_row (find (λ p. bytes_eq p.0 n) g)

abbrev pub flag_text : Bool → Text
flag_text b = if b then codes "true" else codes "false"

-- a flag reads as whether it is given
pub flag_is : (title : Text) (t : Table) (words : List Text) (g : Settings) (n : Text) → end_rows title t (walk_from nothing_held) words ≡ rows_for g
    → option_named t n ≡ Some (record { name = n; range = None }) → ((x : Text) → text_of n g ≡ Some x → x ≡ codes "true")
    → one_of n (matches_of (app_for title t) words) ≡ Some (flag_text (is_set n g))
flag_is title t words g n e own whole_text = ap (one_of n) (matches_are title t words ∙ ap (λ rows. fold with_default rows (built_rules t)) e)
    ∙ go (find (λ p. bytes_eq p.0 n) g) refl ∙ ap (λ b. Some (flag_text b)) (sym (list_any-find (λ (p : Text × Text). bytes_eq p.0 n) g))
  where
    go : (o : Option (Text × Text)) → find (λ p. bytes_eq p.0 n) g ≡ o → one_of n (fold with_default (rows_for g) (built_rules t)) ≡ Some (flag_text (is_some o))
    go None f = ap (option_and_then row_text) (flag_default n t own (rows_for g) (row_given n g ∙ ap (option_map row_for) f))
    go (Some p) f = ap (option_and_then row_text) (stays n (row_for p) t (rows_for g) (row_given n g ∙ ap (option_map row_for) f))
        ∙ ap Some (whole_text p.1 (ap (option_map (λ q. q.1)) f))
