-- The words that give settings are the words that the grammar spells. The heart is that a word is read
-- as an option exactly where it is one of the three spellings.
use Rattle.std.proofs.Common.{◌≡◌, ◌≢◌, ◌∙◌, ◌||◌, ◌++◌, ◌<◌, ℕ, zero, suc, Bool, cond, not, true, false, refl, sym, ap, ap₂, subst, List, [], ◌∷◌, Option, Some, None, is_some, codes, true≢false, arith, length, get_or}
use Rattle.std.specs.List.{after_first, list_all, list_any}
use Rattle.std.proofs.lemmas.Bool.{not-true}
use Rattle.clap.proofs.CutLemmas.{Lacks, after_first-at, before_first-Lacks, before_first-at, list_any-at}
use Rattle.lxr_words.specs.Grammar.{IsFlag, Spells, TakesNumber, alone, apart, joined, joined_word, name_word, nothing}
use Rattle.lxr_words.specs.Number.{Text}
use Rattle.lxr_words.specs.Settings.{KnownOption, Settings, Table, Word, after_dashes, after_word, dashes, is_equals, name_in, opens, option_named, settings_in, stray, value_in, whole, with_setting, word_after, word_for, word_of}
use Rattle.lxr_words.proofs.Accepted.{passes_at}
use Rattle.lxr_words.proofs.Lists.{with_first}
use Rattle.lxr_words.proofs.Rules.{named}

-- ---- the first `=`

lacks : (body : Text) → list_any is_equals body ≡ false → Lacks 61 body
lacks [] e = λ i h f. absurd (omega (arith, h))
lacks (c ∷ body) e = go (is_equals c) refl (lacks body)
  where
    go : (b : Bool) → is_equals c ≡ b → (list_any is_equals body ≡ false → Lacks 61 body) → Lacks 61 (c ∷ body)
    go true q ih = absurd (true≢false (ap (λ b. b || list_any is_equals body) (sym q) ∙ e))
    go false q ih = λ i h f. at i h f
      where
        at : (i : ℕ) → i < length (c ∷ body) → get_or (c ∷ body) i 0 ≢ 61
        at zero h f = absurd (true≢false (sym (ap is_equals f) ∙ q))
        at (suc i) h f = ih (ap (λ b. b || list_any is_equals body) (sym q) ∙ e) i (omega (arith, h)) f

-- a text with a `=` is what stands before the first, that sign, and the rest
record Cut (body : Text) : Type 0 where
  before : Text
  after : Text
  free : list_any is_equals before ≡ false
  body_is : body ≡ before ++ 61 ∷ after

cut : (body : Text) → list_any is_equals body ≡ true → Cut body
cut [] e = absurd (true≢false (sym e))
cut (c ∷ body) e = go (is_equals c) refl (cut body)
  where
    go : (b : Bool) → is_equals c ≡ b → (list_any is_equals body ≡ true → Cut body) → Cut (c ∷ body)
    go true q ih =
        let code : c ≡ 61 = grind (arith, q) in
        record { before = []; after = body; free = refl; body_is = ap (λ x. x ∷ body) code }
    go false q ih =
        let rest : Cut body = ih (ap (λ b. b || list_any is_equals body) (sym q) ∙ e) in
        record {
          before = c ∷ rest.before;
          after = rest.after;
          free = ap (λ b. b || list_any is_equals rest.before) q ∙ rest.free;
          body_is = ap (λ x. c ∷ x) rest.body_is;
        }

-- a name without `=`, alone and before a value
name_alone : (name : Text) → list_any is_equals name ≡ false → name_in name ≡ name
name_alone name e = before_first-Lacks 61 name (lacks name e)

value_alone : (name : Text) → list_any is_equals name ≡ false → value_in name ≡ None
value_alone name e = ap (λ b. cond b (Some (after_first is_equals name)) None) e

name_joined : (name value : Text) → list_any is_equals name ≡ false → name_in (name ++ 61 ∷ value) ≡ name
name_joined name value e = before_first-at 61 name value (lacks name e)

value_joined : (name value : Text) → list_any is_equals name ≡ false → value_in (name ++ 61 ∷ value) ≡ Some value
value_joined name value e =
    ap (λ b. cond b (Some (after_first is_equals (name ++ 61 ∷ value))) None) (list_any-at 61 name value)
    ∙ ap Some (after_first-at 61 name value (lacks name e))

-- a spelling's word, of a name without `=`, by what the table has of that name
pub name_word_is : (t : Table) (name : Text) → list_any is_equals name ≡ false → word_of t (name_word name) ≡ word_for (option_named t name) None
name_word_is t name e = ap₂ (λ n v. word_for (option_named t n) v) (name_alone name e) (value_alone name e)

pub joined_word_is : (t : Table) (name value : Text) → list_any is_equals name ≡ false → word_of t (joined_word name value) ≡ word_for (option_named t name) (Some value)
joined_word_is t name value e = ap₂ (λ n v. word_for (option_named t n) v) (name_joined name value e) (value_joined name value e)

-- a body is its name, or its name, a `=` and its value
only_name : (body : Text) → value_in body ≡ None → body ≡ name_in body
only_name body e = go (list_any is_equals body) refl
  where
    go : (b : Bool) → list_any is_equals body ≡ b → body ≡ name_in body
    go true q = absurd (true≢false (ap is_some (ap (λ b. cond b (Some (after_first is_equals body)) None) (sym q) ∙ e)))
    go false q = sym (name_alone body q)

name_and_value : (body value : Text) → value_in body ≡ Some value → body ≡ name_in body ++ 61 ∷ value
name_and_value body value e = go (list_any is_equals body) refl
  where
    go : (b : Bool) → list_any is_equals body ≡ b → body ≡ name_in body ++ 61 ∷ value
    go false q = absurd (true≢false (sym (ap is_some (ap (λ b. cond b (Some (after_first is_equals body)) None) (sym q) ∙ e))))
    go true q =
        let at : Cut body = cut body q in
        let name_is : name_in body ≡ at.before = ap name_in at.body_is ∙ name_joined at.before at.after at.free in
        let some_is : Some at.after ≡ Some value = sym (value_joined at.before at.after at.free) ∙ ap value_in (sym at.body_is) ∙ e in
        let value_is : at.after ≡ value = cc in
        at.body_is ∙ ap (λ n. n ++ 61 ∷ at.after) (sym name_is) ∙ ap (λ v. name_in body ++ 61 ∷ v) value_is

-- a word that has something after two hyphens is these and that
begins : (word body : Text) → after_dashes word ≡ Some body → word ≡ dashes ++ body
begins [] body e = absurd (true≢false (ap is_some (sym e)))
begins (a ∷ []) body e = grind (arith, e)
begins (a ∷ b ∷ rest) body e = grind (arith, e)

module _ (t : Table) (plain : list_all (λ k. not (list_any is_equals k.name)) t ≡ true) where
  free_name : (name : Text) (k : KnownOption) → option_named t name ≡ Some k → list_any is_equals name ≡ false
  free_name name k e = not-true (list_any is_equals name)
      (ap (λ n. not (list_any is_equals n)) (sym (named t name k e)) ∙ passes_at t (λ j. not (list_any is_equals j.name)) t name k e plain)

  -- ---- from a spelling to the word that is read

  opens_word : (name : Text) → TakesNumber t name → word_of t (name_word name) ≡ opens name
  opens_word name h = name_word_is t name (free_name name _ h.1) ∙ ap (λ o. word_for o None) h.1

  flag_word : (name : Text) → IsFlag t name → word_of t (name_word name) ≡ whole name (codes "true")
  flag_word name h = name_word_is t name (free_name name _ h) ∙ ap (λ o. word_for o None) h

  whole_word : (name value : Text) → TakesNumber t name → word_of t (joined_word name value) ≡ whole name value
  whole_word name value h = joined_word_is t name value (free_name name _ h.1) ∙ ap (λ o. word_for o (Some value)) h.1

  -- what is spelt is read
  pub spelt_is_read : (words : List Text) (settings : Settings) → Spells t words settings → settings_in t words None ≡ Some settings
  spelt_is_read _ _ nothing = refl
  spelt_is_read _ _ (apart name value words settings h rest) =
      ap (λ w. after_word w (settings_in t (value ∷ words))) (opens_word name h) ∙ ap (with_setting name value) (spelt_is_read words settings rest)
  spelt_is_read _ _ (joined name value words settings h rest) =
      ap (λ w. after_word w (settings_in t words)) (whole_word name value h) ∙ ap (with_setting name value) (spelt_is_read words settings rest)
  spelt_is_read _ _ (alone name words settings h rest) =
      ap (λ w. after_word w (settings_in t words)) (flag_word name h) ∙ ap (with_setting name (codes "true")) (spelt_is_read words settings rest)

-- ---- from the word that is read to its spelling

data SpeltAs (t : Table) (word : Text) : Word → Type 0 where
  as_joined : (name value : Text) → TakesNumber t name → word ≡ joined_word name value → SpeltAs t word (whole name value)
  as_flag : (name : Text) → IsFlag t name → word ≡ name_word name → SpeltAs t word (whole name (codes "true"))
  as_opening : (name : Text) → TakesNumber t name → word ≡ name_word name → SpeltAs t word (opens name)
  as_stray : SpeltAs t word stray

module _ (t : Table) where
  word_spelt : (word : Text) → SpeltAs t word (word_of t word)
  word_spelt word = go (after_dashes word) refl
    where
      known_is : (body : Text) (k : KnownOption) → option_named t (name_in body) ≡ Some k → (r : Option (ℕ × ℕ)) → k.range ≡ r → option_named t (name_in body) ≡ Some (record { name = name_in body; range = r })
      known_is body k e r q =
          e ∙ ap (λ n. Some (record { name = n; range = k.range })) (named t (name_in body) k e)
          ∙ ap (λ x. Some (record { name = name_in body; range = x })) q

      valued : (body : Text) → word ≡ dashes ++ body → (v : Option Text) → value_in body ≡ v → (k : KnownOption) → option_named t (name_in body) ≡ Some k
          → (r : Option (ℕ × ℕ)) → k.range ≡ r → SpeltAs t word (word_for (Some (record { name = name_in body; range = r })) v)
      valued body w None f k e (Some r) q = as_opening (name_in body) (r, known_is body k e (Some r) q) (w ∙ ap (λ x. dashes ++ x) (only_name body f))
      valued body w None f k e None q = as_flag (name_in body) (known_is body k e None q) (w ∙ ap (λ x. dashes ++ x) (only_name body f))
      valued body w (Some v) f k e (Some r) q = as_joined (name_in body) v (r, known_is body k e (Some r) q) (w ∙ ap (λ x. dashes ++ x) (name_and_value body v f))
      valued body w (Some v) f k e None q = as_stray

      with_known : (body : Text) → word ≡ dashes ++ body → (ko : Option KnownOption) → option_named t (name_in body) ≡ ko → SpeltAs t word (word_for ko (value_in body))
      with_known body w None e = as_stray
      with_known body w (Some k) e = subst (λ n. SpeltAs t word (word_for (Some (record { name = n; range = k.range })) (value_in body)))
          (sym (named t (name_in body) k e)) (valued body w (value_in body) refl k e k.range refl)

      go : (o : Option Text) → after_dashes word ≡ o → SpeltAs t word (word_after t o)
      go None e = as_stray
      go (Some body) e = with_known body (begins word body e) (option_named t (name_in body)) refl

  -- what is read is spelt, also after a name that waits for its value
  reads_spelt : (words : List Text) → ((s : Settings) → settings_in t words None ≡ Some s → Spells t words s)
      × ((name : Text) → TakesNumber t name → (s : Settings) → settings_in t words (Some name) ≡ Some s → Spells t (name_word name ∷ words) s)
  reads_spelt [] = (
    (λ s e. let is : [] ≡ s = cc in subst (Spells t []) is nothing),
    (λ name h s e. absurd (true≢false (ap is_some (sym e)))),
  )
  reads_spelt (word ∷ rest) = go (reads_spelt rest)
    where
      Both : Type 0
      Both = ((s : Settings) → settings_in t rest None ≡ Some s → Spells t rest s)
          × ((name : Text) → TakesNumber t name → (s : Settings) → settings_in t rest (Some name) ≡ Some s → Spells t (name_word name ∷ rest) s)

      first : Both → (s : Settings) (w : Word) → SpeltAs t word w → after_word w (settings_in t rest) ≡ Some s → Spells t (word ∷ rest) s
      first ih s _ (as_joined name value h is) e =
          let m : (m : Settings) × (settings_in t rest None ≡ Some m) × (s ≡ (name, value) ∷ m) = with_first name value (settings_in t rest None) s e in
          subst (λ w. Spells t (w ∷ rest) s) (sym is) (subst (Spells t (joined_word name value ∷ rest)) (sym m.2) (joined name value rest m.0 h (ih.0 m.0 m.1)))
      first ih s _ (as_flag name h is) e =
          let m : (m : Settings) × (settings_in t rest None ≡ Some m) × (s ≡ (name, codes "true") ∷ m) = with_first name (codes "true") (settings_in t rest None) s e in
          subst (λ w. Spells t (w ∷ rest) s) (sym is) (subst (Spells t (name_word name ∷ rest)) (sym m.2) (alone name rest m.0 h (ih.0 m.0 m.1)))
      first ih s _ (as_opening name h is) e = subst (λ w. Spells t (w ∷ rest) s) (sym is) (ih.1 name h s e)
      first ih s _ as_stray e = absurd (true≢false (ap is_some (sym e)))

      go : Both → ((s : Settings) → settings_in t (word ∷ rest) None ≡ Some s → Spells t (word ∷ rest) s)
          × ((name : Text) → TakesNumber t name → (s : Settings) → settings_in t (word ∷ rest) (Some name) ≡ Some s → Spells t (name_word name ∷ word ∷ rest) s)
      go ih = (
        (λ s e. first ih s (word_of t word) (word_spelt word) e),
        (λ name h s e.
            let m : (m : Settings) × (settings_in t rest None ≡ Some m) × (s ≡ (name, word) ∷ m) = with_first name word (settings_in t rest None) s e in
            subst (Spells t (name_word name ∷ word ∷ rest)) (sym m.2) (apart name word rest m.0 h (ih.0 m.0 m.1))),
      )

  pub read_is_spelt : (words : List Text) (settings : Settings) → settings_in t words None ≡ Some settings → Spells t words settings
  read_is_spelt words = (reads_spelt words).0
