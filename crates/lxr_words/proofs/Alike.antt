-- The two spellings of a number are read alike. Where an option waits for its value, both are read as
-- that value, and neither is a number; so what is compared is the settings that fit.
use Rattle.std.proofs.Common.{◌≡◌, ◌≢◌, ◌∙◌, ◌&&◌, ◌||◌, ◌++◌, ℕ, Bool, cond, true, false, refl, sym, ap, ap₂, List, [], ◌∷◌, Option, Some, None, option_and_then, is_some, Result, Ok, Err, codes, true≢false}
use Rattle.std.specs.List.{list_all, list_any}
use Rattle.std.specs.Str.{bytes_eq}
use Rattle.lxr_words.specs.Grammar.{joined_word, name_word}
use Rattle.lxr_words.specs.Number.{Text, is_number, value_of}
use Rattle.lxr_words.specs.Options.{accepted, agreeing, load_in, options_from, options_in, reading_of, table_of}
use Rattle.lxr_words.specs.Settings.{KnownOption, Settings, Table, Word, after_word, each_once, fits, is_equals, opens, option_named, settings_in, stray, whole, with_setting, word_for, word_of}
use Rattle.lxr_words.specs.declared.Command.{Command}
use Rattle.lxr_words.specs.declared.Command.TheVariants.{Judge, Large, Load, Map, Order, Run}
use Rattle.lxr_words.specs.declared.Options.{Options}
use Rattle.lxr_words.specs.declared.WordFault.{WordFault}
use Rattle.lxr_words.specs.declared.WordFault.TheVariants as fault
use Rattle.lxr_words.proofs.Accepted.{GoodWord, Waiting, good_word, passes_at}
use Rattle.std.proofs.Math.Bool.{and-false}
use Rattle.lxr_words.proofs.Lists.{hyphen_no_number, same_text}
use Rattle.lxr_words.proofs.Rules.{hyphen_no_fit, named}
use Rattle.lxr_words.proofs.Spellings.{joined_word_is, name_word_is}

-- every flag of the table is one of two
abbrev is_number_or_flag : KnownOption → Bool
is_number_or_flag k = is_some k.range || (bytes_eq k.name (codes "counts") || bytes_eq k.name (codes "stand"))

two_flags : (command : Command) → list_all is_number_or_flag (table_of command) ≡ true
two_flags Run = refl
two_flags Map = refl
two_flags Large = refl
two_flags Order = refl
two_flags Judge = refl
two_flags (Load seed) = refl

-- the settings, if each of them fits
abbrev fitting : Table → Option Settings → Option Settings
fitting t read = option_and_then (λ s. cond (list_all (fits t) s) (Some s) None) read

fitting-with_setting : (t : Table) (n x : Text) (read : Option Settings)
    → fitting t (with_setting n x read) ≡ cond (fits t (n, x)) (with_setting n x (fitting t read)) None
fitting-with_setting t n x None = go (fits t (n, x))
  where
    go : (b : Bool) → None ≡ cond b (with_setting n x None) None
    go true = refl
    go false = refl
fitting-with_setting t n x (Some s) = go (fits t (n, x)) (list_all (fits t) s)
  where
    go : (b c : Bool) → cond (b && c) (Some ((n, x) ∷ s)) None ≡ cond b (with_setting n x (cond c (Some s) None)) None
    go true true = refl
    go true false = refl
    go false c = refl

accepts_fitting : (command : Command) (read : Option Settings) → accepted command read ≡ accepted command (fitting (table_of command) read)
accepts_fitting command None = refl
accepts_fitting command (Some s) = go (list_all (fits (table_of command)) s) refl
  where
    go : (b : Bool) → list_all (fits (table_of command)) s ≡ b → accepted command (Some s) ≡ accepted command (cond b (Some s) None)
    go true e = refl
    go false e = ap (λ b. cond b (agreeing (options_from command s)) (Err fault.Options)) (ap (λ b. each_once s && b) e ∙ and-false (each_once s))

module _ (name value : Text) (after : List Text) (free : list_any is_equals name ≡ false) (other : name ≢ codes "counts") (unlike : name ≢ codes "stand") where
  -- the rest of the words in the one spelling and in the other
  abbrev apart : List Text
  apart = name_word name ∷ value ∷ after

  abbrev joined : List Text
  joined = joined_word name value ∷ after

  no_number_apart : is_number (name_word name) ≡ false
  no_number_apart = hyphen_no_number (name_word name) (45 ∷ name) refl

  no_number_joined : is_number (joined_word name value) ≡ false
  no_number_joined = hyphen_no_number (joined_word name value) (45 ∷ (name ++ 61 ∷ value)) refl

  module _ (command : Command) where
    abbrev t : Table
    t = table_of command

    no_flag : (k : KnownOption) → option_named t name ≡ Some k → k.range ≡ None → ⊥
    no_flag k e none = by (bytes_eq k.name (codes "counts")) refl (bytes_eq k.name (codes "stand")) refl
      where
        by : (c : Bool) → bytes_eq k.name (codes "counts") ≡ c → (s : Bool) → bytes_eq k.name (codes "stand") ≡ s → ⊥
        by true p s q = other (sym (named t name k e) ∙ same_text k.name (codes "counts") p)
        by false p true q = unlike (sym (named t name k e) ∙ same_text k.name (codes "stand") q)
        by false p false q =
            true≢false (sym (passes_at t is_number_or_flag t name k e (two_flags command))
            ∙ ap (λ r. is_some r || (bytes_eq k.name (codes "counts") || bytes_eq k.name (codes "stand"))) none
            ∙ ap₂ (λ c s. c || s) p q)

    -- where no option waits
    same_here : settings_in t apart None ≡ settings_in t joined None
    same_here =
        ap (λ w. after_word w (settings_in t (value ∷ after))) (name_word_is t name free) ∙ go (option_named t name) refl
        ∙ ap (λ w. after_word w (settings_in t after)) (sym (joined_word_is t name value free))
      where
        ranged : (k : KnownOption) → option_named t name ≡ Some k → (r : Option (ℕ × ℕ)) → k.range ≡ r
            → after_word (word_for (Some (record { name = k.name; range = r })) None) (settings_in t (value ∷ after))
            ≡ after_word (word_for (Some (record { name = k.name; range = r })) (Some value)) (settings_in t after)
        ranged k e (Some r) q = refl
        ranged k e None q = absurd (no_flag k e q)

        go : (o : Option KnownOption) → option_named t name ≡ o
            → after_word (word_for o None) (settings_in t (value ∷ after)) ≡ after_word (word_for o (Some value)) (settings_in t after)
        go None e = refl
        go (Some k) e = ranged k e k.range refl

    not_fitting : (n x : Text) (read : Option Settings) → fits t (n, x) ≡ false → fitting t (with_setting n x read) ≡ None
    not_fitting n x read e = fitting-with_setting t n x read ∙ ap (λ b. cond b (with_setting n x (fitting t read)) None) e

    same_with : (n x : Text) (a b : Option Settings) → fitting t a ≡ fitting t b → fitting t (with_setting n x a) ≡ fitting t (with_setting n x b)
    same_with n x a b e =
        fitting-with_setting t n x a ∙ ap (λ o. cond (fits t (n, x)) (with_setting n x o) None) e ∙ sym (fitting-with_setting t n x b)

    same_fitting : (before : List Text) (w : Option Text) → Waiting t w → fitting t (settings_in t (before ++ apart) w) ≡ fitting t (settings_in t (before ++ joined) w)
    same_fitting [] None h = ap (fitting t) same_here
    same_fitting [] (Some n) h =
        not_fitting n (name_word name) (settings_in t (value ∷ after) None) (hyphen_no_fit t n (name_word name) (45 ∷ name) h.0 h.1 refl)
        ∙ sym (not_fitting n (joined_word name value) (settings_in t after None) (hyphen_no_fit t n (joined_word name value) (45 ∷ (name ++ 61 ∷ value)) h.0 h.1 refl))
    same_fitting (word ∷ before) (Some n) h = same_with n word _ _ (same_fitting before None tt)
    same_fitting (word ∷ before) None h = go (word_of t word) (good_word t word) (same_fitting before)
      where
        go : (w : Word) → GoodWord t w → ((v : Option Text) → Waiting t v → fitting t (settings_in t (before ++ apart) v) ≡ fitting t (settings_in t (before ++ joined) v))
            → fitting t (after_word w (settings_in t (before ++ apart))) ≡ fitting t (after_word w (settings_in t (before ++ joined)))
        go (whole n x) good ih = same_with n x _ _ (ih None tt)
        go (opens n) good ih = ih (Some n) good
        go stray good ih = refl

    same_options : (before : List Text) → options_in command (before ++ apart) ≡ options_in command (before ++ joined)
    same_options before =
        accepts_fitting command (settings_in t (before ++ apart) None) ∙ ap (accepted command) (same_fitting before None tt)
        ∙ sym (accepts_fitting command (settings_in t (before ++ joined) None))

  same_load : (before : List Text) → load_in (before ++ apart) ≡ load_in (before ++ joined)
  same_load [] =
      ap (λ b. cond b (options_in (Load (value_of (name_word name))) (value ∷ after)) (Err fault.Seed)) no_number_apart
      ∙ sym (ap (λ b. cond b (options_in (Load (value_of (joined_word name value))) after) (Err fault.Seed)) no_number_joined)
  same_load (seed ∷ before) = ap (λ r. cond (is_number seed) r (Err fault.Seed)) (same_options (Load (value_of seed)) before)

  -- what is read by the first word
  abbrev by_word : Text → (r m b o j l : Result Options WordFault) → Result Options WordFault
  by_word word r m b o j l =
      cond (bytes_eq word (codes "run")) r
      (cond (bytes_eq word (codes "map")) m (cond (bytes_eq word (codes "large")) b (cond (bytes_eq word (codes "order")) o (cond (bytes_eq word (codes "judge")) j (cond (bytes_eq word (codes "load")) l (Err fault.Command))))))

  pub same_reading : (before : List Text) → reading_of (before ++ apart) ≡ reading_of (before ++ joined)
  same_reading [] = refl
  same_reading (word ∷ before) =
      ap₂ (λ r m. by_word word r m (options_in Large (before ++ apart)) (options_in Order (before ++ apart)) (options_in Judge (before ++ apart)) (load_in (before ++ apart))) (same_options Run before) (same_options Map before)
      ∙ ap₂ (λ b o. by_word word (options_in Run (before ++ joined)) (options_in Map (before ++ joined)) b o (options_in Judge (before ++ apart)) (load_in (before ++ apart))) (same_options Large before) (same_options Order before)
      ∙ ap₂ (λ j l. by_word word (options_in Run (before ++ joined)) (options_in Map (before ++ joined)) (options_in Large (before ++ joined)) (options_in Order (before ++ joined)) j l) (same_options Judge before) (same_load before)
