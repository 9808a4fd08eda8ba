-- Lemmas on tests, texts and lists of options that know nothing of `clap`.
use Rattle.std.proofs.Common.{◌≡◌, ◌∙◌, ◌&&◌, ◌||◌, ◌++◌, Bool, not, true, false, refl, sym, ap, arith, List, [], ◌∷◌, cond, find, map, option_map, Option, None, Some, is_some, true≢false}
use Rattle.std.specs.List.{list_all, list_any}
use Rattle.std.specs.Str.{bytes_eq}
use Rattle.std.proofs.Math.Bool.{and-false, or-false, or-true}
use Rattle.std.proofs.lemmas.Bool.{and_parts}
use Rattle.std.proofs.lemmas.List.Folds.{list_all-append, list_any-append}
use Rattle.std.proofs.lemmas.Slice.Eq.{bytes_eq-Decides}
use Rattle.lxr_words.specs.Number.{Text, is_number}
use Rattle.clap.specs.Lexer.{strip_byte}
use Rattle.lxr_words.specs.Settings.{Settings, each_once, is_set, with_setting}

pub same_text : (x y : Text) → bytes_eq x y ≡ true → x ≡ y
same_text x y e = (bytes_eq-Decides x y).0 e

pub text_same : (x y : Text) → x ≡ y → bytes_eq x y ≡ true
text_same x y e = (bytes_eq-Decides x y).1 e

pub eq_refl : (x : Text) → bytes_eq x x ≡ true
eq_refl x = text_same x x refl

pub eq_sym : (x y : Text) → bytes_eq x y ≡ bytes_eq y x
eq_sym x y = go (bytes_eq x y) (bytes_eq y x) refl refl
  where
    go : (a b : Bool) → bytes_eq x y ≡ a → bytes_eq y x ≡ b → a ≡ b
    go true true p q = refl
    go false false p q = refl
    go true false p q = absurd (true≢false (sym (text_same y x (sym (same_text x y p))) ∙ q))
    go false true p q = absurd (true≢false (sym (text_same x y (sym (same_text y x q))) ∙ p))

-- ---- options that are given

-- a name that is given already is given twice
pub twice : (name x : Text) (g more : Settings) → is_set name g ≡ true → each_once (g ++ (name, x) ∷ more) ≡ false
twice name x [] more e = absurd (true≢false (sym e))
twice name x (p ∷ g) more e = go (bytes_eq p.0 name) refl (twice name x g more)
  where
    go : (b : Bool) → bytes_eq p.0 name ≡ b → (is_set name g ≡ true → each_once (g ++ (name, x) ∷ more) ≡ false) → each_once (p ∷ (g ++ (name, x) ∷ more)) ≡ false
    go true q ih =
        let here : is_set p.0 (g ++ (name, x) ∷ more) ≡ true = list_any-append (λ q. bytes_eq q.0 p.0) g ((name, x) ∷ more) ∙ ap (λ b. is_set p.0 g || (b || is_set p.0 more)) (eq_sym name p.0 ∙ q) ∙ or-true (is_set p.0 g) in
        ap (λ b. not b && each_once (g ++ (name, x) ∷ more)) here
    go false q ih =
        let later : is_set name g ≡ true = ap (λ b. b || is_set name g) (sym q) ∙ e in
        ap (λ b. not (is_set p.0 (g ++ (name, x) ∷ more)) && b) (ih later) ∙ and-false _

-- one more option, of a name that is not given, leaves each given once
pub once_more : (name x : Text) (g : Settings) → each_once g ≡ true → is_set name g ≡ false → each_once (g ++ (name, x) ∷ []) ≡ true
once_more name x [] e n = refl
once_more name x (p ∷ g) e n = go (bytes_eq p.0 name) refl (once_more name x g)
  where
    go : (b : Bool) → bytes_eq p.0 name ≡ b → (each_once g ≡ true → is_set name g ≡ false → each_once (g ++ (name, x) ∷ []) ≡ true) → each_once (p ∷ (g ++ (name, x) ∷ [])) ≡ true
    go true q ih = absurd (true≢false (ap (λ b. b || is_set name g) (sym q) ∙ n))
    go false q ih =
        let apart : is_set p.0 (g ++ (name, x) ∷ []) ≡ is_set p.0 g = list_any-append (λ q. bytes_eq q.0 p.0) g ((name, x) ∷ []) ∙ ap (λ b. is_set p.0 g || (b || false)) (eq_sym name p.0 ∙ q) ∙ or-false _ in
        let rest : is_set name g ≡ false = ap (λ b. b || is_set name g) (sym q) ∙ n in
        let now : not (is_set p.0 g) ≡ true = (and_parts _ (each_once g) e).0 in
        let later : each_once g ≡ true = (and_parts (not (is_set p.0 g)) _ e).1 in
        ap (λ b. not b && each_once (g ++ (name, x) ∷ [])) apart ∙ ap (λ b. b && each_once (g ++ (name, x) ∷ [])) now ∙ ih later rest

pub all_fails : {X : Type 0} (p : X → Bool) (xs : List X) (x : X) (ys : List X) → p x ≡ false → list_all p (xs ++ x ∷ ys) ≡ false
all_fails p xs x ys e = list_all-append p xs (x ∷ ys) ∙ ap (λ b. list_all p xs && (b && list_all p ys)) e ∙ and-false (list_all p xs)

-- a test passes somewhere just where it finds something
pub list_any-find : {X : Type 0} (p : X → Bool) (xs : List X) → list_any p xs ≡ is_some (find p xs)
list_any-find p [] = refl
list_any-find p (x ∷ xs) = go (p x) (list_any-find p xs)
  where
    go : (b : Bool) → list_any p xs ≡ is_some (find p xs) → (b || list_any p xs) ≡ is_some (cond b (Some x) (find p xs))
    go true e = refl
    go false e = e

-- what is found among the images is the image of what is found
pub find-map : {X Y : Type 0} (f : X → Y) (p : Y → Bool) (q : X → Bool) → ((x : X) → p (f x) ≡ q x) → (xs : List X) → find p (map f xs) ≡ option_map f (find q xs)
find-map f p q same [] = refl
find-map f p q same (x ∷ xs) = ap (λ b. cond b (Some (f x)) (find p (map f xs))) (same x) ∙ go (q x) (find-map f p q same xs)
  where
    go : (b : Bool) → find p (map f xs) ≡ option_map f (find q xs) → cond b (Some (f x)) (find p (map f xs)) ≡ option_map f (cond b (Some x) (find q xs))
    go true e = refl
    go false e = e

-- ---- numbers

-- a text that begins with a hyphen is no number
pub hyphen_no_number : (word rest : Text) → strip_byte 45 word ≡ Some rest → is_number word ≡ false
hyphen_no_number [] rest e = absurd (true≢false (ap (λ o. is_some o) (sym e)))
hyphen_no_number (c ∷ cs) rest e = grind (arith)

-- what is read with one setting more, is what is read and that setting
pub with_first : (n x : Text) (read : Option Settings) (more : Settings) → with_setting n x read ≡ Some more → (m : Settings) × (read ≡ Some m) × (more ≡ (n, x) ∷ m)
with_first n x None more e = absurd (true≢false (ap is_some (sym e)))
with_first n x (Some m) more e =
    let is : more ≡ (n, x) ∷ m = cc in
    (m, refl, is)
