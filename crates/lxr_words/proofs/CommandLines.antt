-- The words are accepted exactly where they are a command line of the grammar.
use Rattle.std.proofs.Common.{◌≡◌, ◌∙◌, Bool, cond, not, true, false, refl, sym, ap, subst, List, [], ◌∷◌, Option, Some, None, Result, Ok, Err, codes, true≢false, is_ok}
use Rattle.std.specs.List.{list_all, list_any}
use Rattle.std.specs.Str.{bytes_eq}
use Rattle.lxr_words.specs.Grammar.{CommandLine, SpellsOptions, judge, large, load, map, order, run}
use Rattle.lxr_words.specs.Number.{Text, is_number, value_of}
use Rattle.lxr_words.specs.Options.{accepted, agree, agreeing, load_in, options_from, options_in, reading_of, table_of}
use Rattle.lxr_words.specs.Settings.{Settings, is_accepted, is_equals, settings_in}
use Rattle.lxr_words.specs.declared.Command.{Command}
use Rattle.lxr_words.specs.declared.Command.TheVariants.{Judge, Large, Load, Map, Order, Run}
use Rattle.lxr_words.specs.declared.Options.{Options}
use Rattle.lxr_words.specs.declared.WordFault.{WordFault}
use Rattle.lxr_words.specs.declared.WordFault.TheVariants as fault
use Rattle.lxr_words.proofs.Lists.{same_text}
use Rattle.lxr_words.proofs.Spellings.{read_is_spelt, spelt_is_read}

-- no name of an option has a `=`
pub plain_names : (command : Command) → list_all (λ k. not (list_any is_equals k.name)) (table_of command) ≡ true
plain_names Run = refl
plain_names Map = refl
plain_names Large = refl
plain_names Order = refl
plain_names Judge = refl
plain_names (Load seed) = refl

-- ---- the options of a command

spelt_options : (command : Command) (words : List Text) (options : Options) → SpellsOptions command words options → options_in command words ≡ Ok options
spelt_options command words options h =
    ap (accepted command) (spelt_is_read (table_of command) (plain_names command) words h.settings h.spelt)
    ∙ ap (λ b. cond b (agreeing (options_from command h.settings)) (Err fault.Options)) h.accepted
    ∙ ap agreeing (sym h.options_are)
    ∙ ap (λ b. cond b (Ok options) (Err fault.Options)) h.together

options_spelt : (command : Command) (words : List Text) (options : Options) → options_in command words ≡ Ok options → SpellsOptions command words options
options_spelt command words options e = go (settings_in (table_of command) words None) refl
  where
    go : (o : Option Settings) → settings_in (table_of command) words None ≡ o → SpellsOptions command words options
    go None q = absurd (true≢false (sym (ap is_ok (ap (accepted command) (sym q) ∙ e))))
    go (Some settings) q = at (is_accepted (table_of command) settings) refl
      where
        said : accepted command (Some settings) ≡ Ok options
        said = ap (accepted command) (sym q) ∙ e

        at : (b : Bool) → is_accepted (table_of command) settings ≡ b → SpellsOptions command words options
        at false f = absurd (true≢false (sym (ap is_ok (ap (λ b. cond b (agreeing (options_from command settings)) (Err fault.Options)) (sym f) ∙ said))))
        at true f = go_together (agree (options_from command settings)) refl
          where
            answered : agreeing (options_from command settings) ≡ Ok options
            answered = ap (λ b. cond b (agreeing (options_from command settings)) (Err fault.Options)) (sym f) ∙ said

            go_together : (b : Bool) → agree (options_from command settings) ≡ b → SpellsOptions command words options
            go_together false a = absurd (true≢false (sym (ap is_ok (ap (λ b. cond b (Ok (options_from command settings)) (Err fault.Options)) (sym a) ∙ answered))))
            go_together true a =
                let same : Ok (options_from command settings) ≡ Ok options = ap (λ b. cond b (Ok (options_from command settings)) (Err fault.Options)) (sym a) ∙ answered in
                let are : options ≡ options_from command settings = cc in
                record {
                  settings = settings;
                  spelt = read_is_spelt (table_of command) words settings q;
                  accepted = f;
                  options_are = are;
                  together = ap agree are ∙ a;
                }

-- ---- the whole line

pub line_is_read : (words : List Text) (options : Options) → CommandLine words options → reading_of words ≡ Ok options
line_is_read _ _ (run words options h) = spelt_options Run words options h
line_is_read _ _ (map words options h) = spelt_options Map words options h
line_is_read _ _ (large words options h) = spelt_options Large words options h
line_is_read _ _ (order words options h) = spelt_options Order words options h
line_is_read _ _ (judge words options h) = spelt_options Judge words options h
line_is_read _ _ (load seed words options n h) =
    ap (λ b. cond b (options_in (Load (value_of seed)) words) (Err fault.Seed)) n ∙ spelt_options (Load (value_of seed)) words options h

-- the words after `load`
load_is_line : (words : List Text) (options : Options) → load_in words ≡ Ok options → CommandLine (codes "load" ∷ words) options
load_is_line [] options e = absurd (true≢false (sym (ap is_ok e)))
load_is_line (seed ∷ words) options e = go (is_number seed) refl
  where
    go : (b : Bool) → is_number seed ≡ b → CommandLine (codes "load" ∷ seed ∷ words) options
    go false q = absurd (true≢false (sym (ap is_ok (ap (λ b. cond b (options_in (Load (value_of seed)) words) (Err fault.Seed)) (sym q) ∙ e))))
    go true q = load seed words options q
        (options_spelt (Load (value_of seed)) words options (ap (λ b. cond b (options_in (Load (value_of seed)) words) (Err fault.Seed)) (sym q) ∙ e))

abbrev with_command : (r m b o j l : Bool) → List Text → Result Options WordFault
with_command r m b o j l words =
    cond r (options_in Run words) (cond m (options_in Map words) (cond b (options_in Large words) (cond o (options_in Order words) (cond j (options_in Judge words) (cond l (load_in words) (Err fault.Command))))))

pub read_is_line : (words : List Text) (options : Options) → reading_of words ≡ Ok options → CommandLine words options
read_is_line [] options e = absurd (true≢false (sym (ap is_ok e)))
read_is_line (word ∷ words) options e = go (bytes_eq word (codes "run")) refl (bytes_eq word (codes "map")) refl (bytes_eq word (codes "large")) refl
    (bytes_eq word (codes "order")) refl (bytes_eq word (codes "judge")) refl (bytes_eq word (codes "load")) refl e
  where
    go : (r : Bool) → bytes_eq word (codes "run") ≡ r → (m : Bool) → bytes_eq word (codes "map") ≡ m → (b : Bool) → bytes_eq word (codes "large") ≡ b
        → (o : Bool) → bytes_eq word (codes "order") ≡ o → (j : Bool) → bytes_eq word (codes "judge") ≡ j → (l : Bool) → bytes_eq word (codes "load") ≡ l
        → with_command r m b o j l words ≡ Ok options → CommandLine (word ∷ words) options
    go true p m q b g o i j n l f e = subst (λ w. CommandLine (w ∷ words) options) (sym (same_text word (codes "run") p)) (run words options (options_spelt Run words options e))
    go false p true q b g o i j n l f e = subst (λ w. CommandLine (w ∷ words) options) (sym (same_text word (codes "map") q)) (map words options (options_spelt Map words options e))
    go false p false q true g o i j n l f e = subst (λ w. CommandLine (w ∷ words) options) (sym (same_text word (codes "large") g)) (large words options (options_spelt Large words options e))
    go false p false q false g true i j n l f e = subst (λ w. CommandLine (w ∷ words) options) (sym (same_text word (codes "order") i)) (order words options (options_spelt Order words options e))
    go false p false q false g false i true n l f e = subst (λ w. CommandLine (w ∷ words) options) (sym (same_text word (codes "judge") n)) (judge words options (options_spelt Judge words options e))
    go false p false q false g false i false n true f e = subst (λ w. CommandLine (w ∷ words) options) (sym (same_text word (codes "load") f)) (load_is_line words options e)
    go false p false q false g false i false n false f e = absurd (true≢false (sym (ap is_ok e)))
