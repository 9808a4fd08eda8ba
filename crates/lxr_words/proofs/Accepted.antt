-- What holds of the options that words give, and how their acceptance is one test for each option of
-- the table.
use Rattle.std.proofs.Common.{◌≡◌, ◌∙◌, ◌&&◌, ◌||◌, ℕ, Bool, cond, not, true, false, refl, sym, ap, ap₂, List, [], ◌∷◌, Option, Some, None, find, option_map, is_some, codes, true≢false}
use Rattle.std.specs.List.{list_all, list_any}
use Rattle.std.specs.Option.{option_map_or}
use Rattle.std.specs.Str.{bytes_eq}
use Rattle.lxr_words.specs.Grammar.{TakesNumber}
use Rattle.lxr_words.specs.Number.{Text}
use Rattle.lxr_words.specs.Settings.{Settings, KnownOption, Table, Word, after_dashes, after_word, dashes, each_once, fits, settings_in, is_accepted, is_set, is_in, option_named, name_in, opens, stray, value_in, text_of, whole, word_after, word_of, word_for}
use Rattle.std.proofs.Math.Bool.{and-false}
use Rattle.std.proofs.lemmas.Bool.{and_parts}
use Rattle.lxr_words.proofs.Lists.{eq_refl, same_text, with_first}
use Rattle.lxr_words.proofs.Rules.{known_itself, named, option_is, same_option}
use Rattle.lxr_words.proofs.Walks.{no_dashes}

given_text : (n x : Text) (g : Settings) → text_of n g ≡ Some x → is_set n g ≡ true
given_text n x [] e = absurd (true≢false (ap is_some (sym e)))
given_text n x (p ∷ g) e = go (bytes_eq p.0 n) refl (given_text n x g)
  where
    go : (b : Bool) → bytes_eq p.0 n ≡ b → (text_of n g ≡ Some x → is_set n g ≡ true) → (bytes_eq p.0 n || is_set n g) ≡ true
    go true f ih = ap (λ b. b || is_set n g) f
    go false f ih = ap (λ b. b || is_set n g) f ∙ ih (ap (λ b. option_map (λ (q : Text × Text). q.1) (cond b (Some p) (find (λ q. bytes_eq q.0 n) g))) (sym f) ∙ e)

-- ---- each option that is given is one of the table, and a flag has the text `true`

abbrev sound_text : Option (ℕ × ℕ) → Text → Bool
sound_text None x = bytes_eq x (codes "true")
sound_text (Some r) x = true

-- the option's text, if it is given, is in its range
abbrev pub is_right : Settings → KnownOption → Bool
is_right g k = option_map_or (is_in k.range) (text_of k.name g) true

any_text : (o : Option Text) → option_map_or (is_in None) o true ≡ true
any_text None = refl
any_text (Some x) = refl

module _ (t : Table) where
  abbrev pub sound : Text × Text → Bool
  sound p = option_map_or (λ (k : KnownOption). sound_text k.range p.1) (option_named t p.0) false

  abbrev pub GoodWord : Word → Type 0
  GoodWord (whole n x) = sound (n, x) ≡ true
  GoodWord (opens n) = TakesNumber t n
  GoodWord stray = Unit {0}

  good_known : (ko : Option KnownOption) (v : Option Text) → ((k : KnownOption) → ko ≡ Some k → option_named t k.name ≡ Some k) → GoodWord (word_for ko v)
  good_known None v own = tt
  good_known (Some k) v own = go k.range v (own k refl)
    where
      go : (r : Option (ℕ × ℕ)) (v : Option Text) → option_named t k.name ≡ Some (record { name = k.name; range = r }) → GoodWord (word_for (Some (record { name = k.name; range = r })) v)
      go (Some r) (Some x) e = ap (λ o. option_map_or (λ (j : KnownOption). sound_text j.range x) o false) e
      go (Some r) None e = (r, e)
      go None (Some x) e = tt
      go None None e = ap (λ o. option_map_or (λ (j : KnownOption). sound_text j.range (codes "true")) o false) e

  good_after : (o : Option Text) → GoodWord (word_after t o)
  good_after None = tt
  good_after (Some rest) = good_known (option_named t (name_in rest)) (value_in rest) (λ k e. known_itself t (name_in rest) k e)

  pub good_word : (word : Text) → GoodWord (word_of t word)
  good_word word = good_after (after_dashes word)

  abbrev pub Waiting : Option Text → Type 0
  Waiting None = Unit {0}
  Waiting (Some n) = TakesNumber t n

  pub all_sound : (words : List Text) (w : Option Text) (g : Settings) → Waiting w → settings_in t words w ≡ Some g → list_all sound g ≡ true
  all_sound [] None g h e = let is : g ≡ [] = cc in ap (list_all sound) is
  all_sound [] (Some n) g h e = absurd (true≢false (ap is_some (sym e)))
  all_sound (word ∷ rest) (Some n) g h e =
      let w : (m : Settings) × (settings_in t rest None ≡ Some m) × (g ≡ (n, word) ∷ m) = with_first n word (settings_in t rest None) g e in
      ap (list_all sound) w.2 ∙ ap₂ (λ a b. a && b) (ap (λ o. option_map_or (λ (k : KnownOption). sound_text k.range word) o false) h.1) (all_sound rest None w.0 tt w.1)
  all_sound (word ∷ rest) None g h e = go (word_of t word) (good_word word) e (all_sound rest)
    where
      go : (w : Word) → GoodWord w → after_word w (settings_in t rest) ≡ Some g → ((v : Option Text) (m : Settings) → Waiting v → settings_in t rest v ≡ Some m → list_all sound m ≡ true) → list_all sound g ≡ true
      go (whole n x) good q ih =
          let w : (m : Settings) × (settings_in t rest None ≡ Some m) × (g ≡ (n, x) ∷ m) = with_first n x (settings_in t rest None) g q in
          ap (list_all sound) w.2 ∙ ap₂ (λ a b. a && b) good (ih None w.0 tt w.1)
      go (opens n) good q ih = ih (Some n) g good q
      go stray good q ih = absurd (true≢false (ap is_some (sym q)))

  -- ---- a word `--` is never accepted

  dashes_no_fit : (n : Text) → TakesNumber t n → fits t (n, dashes) ≡ false
  dashes_no_fit n h = ap (λ o. option_map_or (λ (k : KnownOption). is_in k.range dashes) o false) h.1

  pub dashes_refused : option_named t [] ≡ None → (words : List Text) (w : Option Text) (g : Settings) → Waiting w → no_dashes words ≡ false → settings_in t words w ≡ Some g → list_all (fits t) g ≡ false
  dashes_refused named_all [] w g h d e = absurd (true≢false d)
  dashes_refused named_all (word ∷ rest) (Some n) g h d e = go (bytes_eq word dashes) refl (dashes_refused named_all rest None)
    where
      go : (b : Bool) → bytes_eq word dashes ≡ b → ((m : Settings) → Unit {0} → no_dashes rest ≡ false → settings_in t rest None ≡ Some m → list_all (fits t) m ≡ false) → list_all (fits t) g ≡ false
      go true q ih =
          let w : (m : Settings) × (settings_in t rest None ≡ Some m) × (g ≡ (n, word) ∷ m) = with_first n word (settings_in t rest None) g e in
          ap (list_all (fits t)) w.2 ∙ ap (λ x. fits t (n, x) && list_all (fits t) w.0) (same_text word dashes q) ∙ ap (λ b. b && list_all (fits t) w.0) (dashes_no_fit n h)
      go false q ih =
          let w : (m : Settings) × (settings_in t rest None ≡ Some m) × (g ≡ (n, word) ∷ m) = with_first n word (settings_in t rest None) g e in
          let later : no_dashes rest ≡ false = ap (λ b. not (b || list_any (λ x. bytes_eq x dashes) rest)) (sym q) ∙ d in
          ap (list_all (fits t)) w.2 ∙ ap (λ b. fits t (n, word) && b) (ih w.0 tt later w.1) ∙ and-false _
  dashes_refused named_all (word ∷ rest) None g h d e = go (bytes_eq word dashes) refl (word_of t word) refl (good_word word) (dashes_refused named_all rest)
    where
      go : (b : Bool) → bytes_eq word dashes ≡ b → (v : Word) → word_of t word ≡ v → GoodWord v
          → ((w : Option Text) (m : Settings) → Waiting w → no_dashes rest ≡ false → settings_in t rest w ≡ Some m → list_all (fits t) m ≡ false) → list_all (fits t) g ≡ false
      go true q v f good ih =
          let nothing : word_of t word ≡ stray = ap (word_of t) (same_text word dashes q) ∙ ap (λ ko. word_for ko None) named_all in
          let none : settings_in t (word ∷ rest) None ≡ None = ap (λ x. after_word x (settings_in t rest)) nothing in
          absurd (true≢false (ap is_some (sym e ∙ none)))
      go false q (whole n x) f good ih =
          let w : (m : Settings) × (settings_in t rest None ≡ Some m) × (g ≡ (n, x) ∷ m) = with_first n x (settings_in t rest None) g (ap (λ y. after_word y (settings_in t rest)) (sym f) ∙ e) in
          let later : no_dashes rest ≡ false = ap (λ b. not (b || list_any (λ y. bytes_eq y dashes) rest)) (sym q) ∙ d in
          ap (list_all (fits t)) w.2 ∙ ap (λ b. fits t (n, x) && b) (ih None w.0 tt later w.1) ∙ and-false _
      go false q (opens n) f good ih =
          let later : no_dashes rest ≡ false = ap (λ b. not (b || list_any (λ y. bytes_eq y dashes) rest)) (sym q) ∙ d in
          ih (Some n) g good later (ap (λ y. after_word y (settings_in t rest)) (sym f) ∙ e)
      go false q stray f good ih = absurd (true≢false (ap is_some (sym e ∙ ap (λ y. after_word y (settings_in t rest)) f)))

  -- ---- acceptance, option by option

  some_text : (n x : Text) (g : Settings) → text_of n g ≡ Some x → (p : Text × Text) × (find (λ q. bytes_eq q.0 n) g ≡ Some p) × (p.1 ≡ x)
  some_text n x g e = go (find (λ q. bytes_eq q.0 n) g) refl
    where
      go : (o : Option (Text × Text)) → find (λ q. bytes_eq q.0 n) g ≡ o → (p : Text × Text) × (find (λ q. bytes_eq q.0 n) g ≡ Some p) × (p.1 ≡ x)
      go None f = absurd (true≢false (ap is_some (sym e ∙ ap (option_map (λ q. q.1)) f)))
      go (Some p) f =
          let is : Some p.1 ≡ Some x = ap (option_map (λ q. q.1)) (sym f) ∙ e in
          (p, f, (cc))

  pub found_passes : (test : Text × Text → Bool) (n : Text) (g : Settings) (p : Text × Text) → find (λ q. bytes_eq q.0 n) g ≡ Some p → list_all test g ≡ true → (p.0 ≡ n) × (test p ≡ true)
  found_passes test n [] p e all = absurd (true≢false (ap is_some (sym e)))
  found_passes test n (q ∷ g) p e all = go (bytes_eq q.0 n) refl (found_passes test n g p)
    where
      go : (b : Bool) → bytes_eq q.0 n ≡ b → (find (λ z. bytes_eq z.0 n) g ≡ Some p → list_all test g ≡ true → (p.0 ≡ n) × (test p ≡ true)) → (p.0 ≡ n) × (test p ≡ true)
      go true f ih =
          let some_is : Some q ≡ Some p = ap (λ b. cond b (Some q) (find (λ z. bytes_eq z.0 n) g)) (sym f) ∙ e in
          let is : q ≡ p = cc in
          (ap (λ (z : Text × Text). z.0) (sym is) ∙ same_text q.0 n f, ap test (sym is) ∙ (and_parts (test q) (list_all test g) all).0)
      go false f ih = ih (ap (λ b. cond b (Some q) (find (λ z. bytes_eq z.0 n) g)) (sym f) ∙ e) ((and_parts (test q) (list_all test g) all).1)

  -- a text out of range: the options are not accepted
  pub wrong_refused : (k : KnownOption) (g : Settings) → option_named t k.name ≡ Some k → is_right g k ≡ false → is_accepted t g ≡ false
  wrong_refused k g own e = go (text_of k.name g) refl (list_all (fits t) g) refl
    where
      go : (o : Option Text) → text_of k.name g ≡ o → (b : Bool) → list_all (fits t) g ≡ b → is_accepted t g ≡ false
      go None f b h = absurd (true≢false (ap (λ o. option_map_or (is_in k.range) o true) (sym f) ∙ e))
      go (Some x) f false h = ap (λ b. each_once g && b) h ∙ and-false _
      go (Some x) f true h =
          let p : (p : Text × Text) × (find (λ q. bytes_eq q.0 k.name) g ≡ Some p) × (p.1 ≡ x) = some_text k.name x g f in
          let ok : (p.0.0 ≡ k.name) × (fits t p.0 ≡ true) = found_passes (fits t) k.name g p.0 p.1 h in
          let here : fits t p.0 ≡ is_in k.range x = ap₂ (λ m y. option_map_or (λ (j : KnownOption). is_in j.range y) (option_named t m) false) ok.0 p.2 ∙ ap (λ o. option_map_or (λ (j : KnownOption). is_in j.range x) o false) own in
          absurd (true≢false (sym ok.1 ∙ here ∙ ap (λ o. option_map_or (is_in k.range) o true) (sym f) ∙ e))

  pub passes_at : (test : KnownOption → Bool) (s : Table) (n : Text) (k : KnownOption) → option_named s n ≡ Some k → list_all test s ≡ true → test k ≡ true
  passes_at test [] n k e all = absurd (true≢false (ap is_some (sym e)))
  passes_at test (j ∷ s) n k e all = go (bytes_eq j.name n) refl (passes_at test s n k)
    where
      go : (b : Bool) → bytes_eq j.name n ≡ b → (option_named s n ≡ Some k → list_all test s ≡ true → test k ≡ true) → test k ≡ true
      go true f ih =
          let some_is : Some j ≡ Some k = ap (λ b. cond b (Some j) (option_named s n)) (sym f) ∙ e in
          let is : j ≡ k = cc in
          ap test (sym is) ∙ (and_parts (test j) (list_all test s) all).0
      go false f ih = ih (ap (λ b. cond b (Some j) (option_named s n)) (sym f) ∙ e) ((and_parts (test j) (list_all test s) all).1)

  -- the options h, of which g holds each under its name, fit
  all_fit : (g h : Settings) → list_all (is_right g) t ≡ true → list_all sound h ≡ true → each_once h ≡ true
      → ((n x : Text) → text_of n h ≡ Some x → text_of n g ≡ Some x) → list_all (fits t) h ≡ true
  all_fit g [] right good once same = refl
  all_fit g (p ∷ h) right good once same =
      ap₂ (λ a b. a && b) (here (option_named t p.0) refl)
      (all_fit g h right ((and_parts (sound p) (list_all sound h) good).1) ((and_parts (not (is_set p.0 h)) (each_once h) once).1) later)
    where
      here : (ko : Option KnownOption) → option_named t p.0 ≡ ko → fits t p ≡ true
      here None e = absurd (true≢false (sym ((and_parts (sound p) (list_all sound h) good).0) ∙ ap (λ o. option_map_or (λ (k : KnownOption). sound_text k.range p.1) o false) e))
      here (Some k) e =
          let right_at : is_right g k ≡ true = passes_at (is_right g) t p.0 k e right in
          let name_is : k.name ≡ p.0 = named t p.0 k e in
          let first : text_of p.0 (p ∷ h) ≡ Some p.1 = ap (λ b. option_map (λ (q : Text × Text). q.1) (cond b (Some p) (find (λ q. bytes_eq q.0 p.0) h))) (eq_refl p.0) in
          let text : text_of k.name g ≡ Some p.1 = ap (λ n. text_of n g) name_is ∙ same p.0 p.1 first in
          ap (λ o. option_map_or (λ (j : KnownOption). is_in j.range p.1) o false) e ∙ ap (λ o. option_map_or (is_in k.range) o true) (sym text) ∙ right_at

      later : (n x : Text) → text_of n h ≡ Some x → text_of n g ≡ Some x
      later n x e = go (bytes_eq p.0 n) refl
        where
          go : (b : Bool) → bytes_eq p.0 n ≡ b → text_of n g ≡ Some x
          go false f = same n x (ap (λ b. option_map (λ (q : Text × Text). q.1) (cond b (Some p) (find (λ q. bytes_eq q.0 n) h))) f ∙ e)
          go true f =
              let is : is_set n h ≡ true = given_text n x h e in
              let alone : not (is_set p.0 h) ≡ true = (and_parts (not (is_set p.0 h)) (each_once h) once).0 in
              absurd (true≢false (sym alone ∙ ap not (ap (λ m. is_set m h) (same_text p.0 n f) ∙ is)))

  -- each option of the table is right: the options are accepted
  pub right_accepted : (g : Settings) → list_all sound g ≡ true → each_once g ≡ true → list_all (is_right g) t ≡ true → is_accepted t g ≡ true
  right_accepted g good once right = ap₂ (λ a b. a && b) once (all_fit g g right good once (λ n x e. e))

  -- an option that the table lacks is not given
  pub absent : (n : Text) (g : Settings) → option_named t n ≡ None → list_all sound g ≡ true → find (λ p. bytes_eq p.0 n) g ≡ None
  absent n g e good = go (find (λ p. bytes_eq p.0 n) g) refl
    where
      go : (o : Option (Text × Text)) → find (λ p. bytes_eq p.0 n) g ≡ o → find (λ p. bytes_eq p.0 n) g ≡ None
      go None f = f
      go (Some p) f =
          let w : (p.0 ≡ n) × (sound p ≡ true) = found_passes sound n g p f good in
          absurd (true≢false (sym w.1 ∙ ap (λ m. option_map_or (λ (k : KnownOption). sound_text k.range p.1) (option_named t m) false) w.0 ∙ ap (λ o. option_map_or (λ (k : KnownOption). sound_text k.range p.1) o false) e))

  -- a flag that is given has the text `true`
  pub flag_says : (n x : Text) (g : Settings) → option_named t n ≡ Some (record { name = n; range = None }) → list_all sound g ≡ true → text_of n g ≡ Some x → x ≡ codes "true"
  flag_says n x g e good f =
      let p : (p : Text × Text) × (find (λ q. bytes_eq q.0 n) g ≡ Some p) × (p.1 ≡ x) = some_text n x g f in
      let w : (p.0.0 ≡ n) × (sound p.0 ≡ true) = found_passes sound n g p.0 p.1 good in
      let says : bytes_eq p.0.1 (codes "true") ≡ true = sym (ap (λ m. option_map_or (λ (k : KnownOption). sound_text k.range p.0.1) (option_named t m) false) w.0 ∙ ap (λ o. option_map_or (λ (k : KnownOption). sound_text k.range p.0.1) o false) e) ∙ w.1 in
      sym p.2 ∙ same_text p.0.1 (codes "true") says

  -- the table has that option, or none of its name
  abbrev pub is_own : KnownOption → Bool
  is_own k = option_map_or (same_option k) (option_named t k.name) true

  one_wrong : (g : Settings) (k : KnownOption) → list_all sound g ≡ true → is_own k ≡ true → is_right g k ≡ false → is_accepted t g ≡ false
  one_wrong g k good own e = go (option_named t k.name) refl
    where
      go : (o : Option KnownOption) → option_named t k.name ≡ o → is_accepted t g ≡ false
      go None none = absurd (true≢false (ap (λ o. option_map_or (is_in k.range) (option_map (λ (p : Text × Text). p.1) o) true) (sym (absent k.name g none good)) ∙ e))
      go (Some j) f =
          let same : k ≡ j = option_is k j (sym (ap (λ o. option_map_or (same_option k) o true) f) ∙ own) in
          wrong_refused k g (f ∙ ap Some (sym same)) e

  -- an option of s that is not right is refused
  pub wrong_one : (g : Settings) → list_all sound g ≡ true → (s : Table) → list_all is_own s ≡ true → list_all (is_right g) s ≡ false → is_accepted t g ≡ false
  wrong_one g good [] own e = absurd (true≢false e)
  wrong_one g good (k ∷ s) own e = go (is_right g k) refl (wrong_one g good s)
    where
      go : (b : Bool) → is_right g k ≡ b → (list_all is_own s ≡ true → list_all (is_right g) s ≡ false → is_accepted t g ≡ false) → is_accepted t g ≡ false
      go true q ih = ih (and_parts (is_own k) (list_all is_own s) own).1 (ap (λ b. b && list_all (is_right g) s) (sym q) ∙ e)
      go false q ih = one_wrong g k good (and_parts (is_own k) (list_all is_own s) own).0 q

  -- an option with a number is one of s
  abbrev pub is_within : Table → KnownOption → Bool
  is_within s k = not (is_some k.range) || option_map_or (same_option k) (option_named s k.name) false

  one_right : (g : Settings) (s : Table) (k : KnownOption) → is_within s k ≡ true → list_all (is_right g) s ≡ true → is_right g k ≡ true
  one_right g s k h right = go k.range refl
    where
      go : (r : Option (ℕ × ℕ)) → k.range ≡ r → is_right g k ≡ true
      go None e = ap (λ r. option_map_or (is_in r) (text_of k.name g) true) e ∙ any_text (text_of k.name g)
      go (Some r) e = at (option_named s k.name) refl
        where
          at : (o : Option KnownOption) → option_named s k.name ≡ o → is_right g k ≡ true
          at None f = absurd (true≢false (sym h ∙ ap₂ (λ x y. not (is_some x) || option_map_or (same_option k) y false) e f))
          at (Some j) f =
              let same : k ≡ j = option_is k j (sym (ap₂ (λ x y. not (is_some x) || option_map_or (same_option k) y false) e f) ∙ h) in
              passes_at (is_right g) s k.name k (f ∙ ap Some (sym same)) right

  pub right_within : (g : Settings) (s u : Table) → list_all (is_within s) u ≡ true → list_all (is_right g) s ≡ true → list_all (is_right g) u ≡ true
  right_within g s [] h right = refl
  right_within g s (k ∷ u) h right =
      let both = and_parts (is_within s k) (list_all (is_within s) u) h in
      ap₂ (λ a b. a && b) (one_right g s k both.0 right) (right_within g s u both.1 right)
