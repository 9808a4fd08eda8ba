-- The arguments of a built command for a table, and what `clap` finds among them.
use Rattle.std.proofs.Common.{◌≡◌, ◌∙◌, ◌&&◌, ℕ, Bool, cond, not, true, false, refl, sym, ap, ap₂, List, [], ◌∷◌, map, Option, Some, None, find, option_map, is_some, arith, nat_le, true≢false}
use Rattle.std.specs.Option.{option_map_or}
use Rattle.std.specs.Prelude.{option_and_then, nat_eq}
use Rattle.std.specs.Str.{bytes_eq}
use Rattle.clap.specs.Lexer.{long_of, long_of_rest, strip_byte}
use Rattle.clap.specs.Walk.{Rule, arg_by_id, arg_by_index, arg_by_long, arg_by_short, has_long, has_short}
use Rattle.clap.specs.Simple.{Shape, filled, new_shape}
use Rattle.lxr_words.specs.Number.{Text, value_of}
use Rattle.lxr_words.specs.Settings.{KnownOption, Table, Word, after_dashes, fits, is_in, option_named, stray, value_in, word_after, word_of, word_for}
use Rattle.lxr_words.specs.Arguments.{argument_rule}
use Rattle.std.proofs.Math.Bool.{or-false}
use Rattle.std.proofs.lemmas.Bool.{and_parts, eqb-true}
use Rattle.lxr_words.proofs.Lists.{find-map, hyphen_no_number, same_text}

abbrev pub built_for : KnownOption → Rule
built_for k = filled (argument_rule k.range k.name)

abbrev pub built_rules : Table → List Rule
built_rules table = map built_for table

abbrev pub shape_for : Text → List Rule → Shape
shape_for name rules = record (new_shape name) {
  rules = rules;
  no_binary_name = true;
  disable_help_flag = true;
  disable_help_subcommand = true;
  is_built = true;
}

long_test : (r : Option (ℕ × ℕ)) (n name : Text) → (not (is_some (filled (argument_rule r n)).index) && has_long (filled (argument_rule r n)) name) ≡ bytes_eq n name
long_test None n name = or-false _
long_test (Some r) n name = or-false _

id_test : (r : Option (ℕ × ℕ)) (n id : Text) → bytes_eq (filled (argument_rule r n)).id id ≡ bytes_eq n id
id_test None n id = refl
id_test (Some r) n id = refl

short_test : (r : Option (ℕ × ℕ)) (n : Text) (x : ℕ) → (not (is_some (filled (argument_rule r n)).index) && has_short (filled (argument_rule r n)) x) ≡ false
short_test None n x = refl
short_test (Some r) n x = refl

index_test : (r : Option (ℕ × ℕ)) (n : Text) (i : ℕ) → option_map_or (λ k. nat_eq k i) (filled (argument_rule r n)).index false ≡ false
index_test None n i = refl
index_test (Some r) n i = refl

none_passes : {X : Type 0} (xs : List X) → find (λ _. false) xs ≡ None
none_passes [] = refl
none_passes (x ∷ xs) = none_passes xs

pub by_long : (t : Table) (name : Text) (o : Option KnownOption) → option_named t name ≡ o → arg_by_long (built_rules t) name ≡ option_map built_for o
by_long t name o e = find-map built_for (λ a. not (is_some a.index) && has_long a name) (λ k. bytes_eq k.name name) (λ k. long_test k.range k.name name) t ∙ ap (option_map built_for) e

pub by_id : (t : Table) (id : Text) (o : Option KnownOption) → option_named t id ≡ o → arg_by_id (built_rules t) id ≡ option_map built_for o
by_id t id o e = find-map built_for (λ a. bytes_eq a.id id) (λ k. bytes_eq k.name id) (λ k. id_test k.range k.name id) t ∙ ap (option_map built_for) e

pub no_short : (t : Table) (x : ℕ) → arg_by_short (built_rules t) x ≡ None
no_short t x = find-map built_for (λ a. not (is_some a.index) && has_short a x) (λ _. false) (λ k. short_test k.range k.name x) t ∙ ap (option_map built_for) (none_passes t)

pub no_place : (t : Table) (i : ℕ) → arg_by_index (built_rules t) i ≡ None
no_place t i = find-map built_for (λ a. option_map_or (λ k. nat_eq k i) a.index false) (λ _. false) (λ k. index_test k.range k.name i) t ∙ ap (option_map built_for) (none_passes t)

-- an option that is found by a name has that name
pub named : (t : Table) (name : Text) (k : KnownOption) → option_named t name ≡ Some k → k.name ≡ name
named [] name k e = cc
named (x ∷ t) name k e = go (bytes_eq x.name name) refl (named t name k)
  where
    go : (b : Bool) → bytes_eq x.name name ≡ b → (option_named t name ≡ Some k → k.name ≡ name) → k.name ≡ name
    go true q ih =
        let is : Some x ≡ Some k = ap (λ b. cond b (Some x) (option_named t name)) (sym q) ∙ e in
        let same : x.name ≡ name = same_text x.name name q in
        let k_is : x ≡ k = cc in
        ap (λ (y : KnownOption). y.name) (sym k_is) ∙ same
    go false q ih = ih (ap (λ b. cond b (Some x) (option_named t name)) (sym q) ∙ e)

pub known_itself : (t : Table) (name : Text) (k : KnownOption) → option_named t name ≡ Some k → option_named t k.name ≡ Some k
known_itself t name k e = ap (option_named t) (named t name k e) ∙ e

-- ---- options that are the same

abbrev same_range : Option (ℕ × ℕ) → Option (ℕ × ℕ) → Bool
same_range None None = true
same_range None (Some s) = false
same_range (Some r) None = false
same_range (Some r) (Some s) = nat_eq r.0 s.0 && nat_eq r.1 s.1

abbrev pub same_option : KnownOption → KnownOption → Bool
same_option k j = bytes_eq k.name j.name && same_range k.range j.range

range_is : (r s : Option (ℕ × ℕ)) → same_range r s ≡ true → r ≡ s
range_is None None e = refl
range_is None (Some s) e = absurd (true≢false (sym e))
range_is (Some r) None e = absurd (true≢false (sym e))
range_is (Some r) (Some s) e =
    let p = and_parts (nat_eq r.0 s.0) (nat_eq r.1 s.1) e in
    ap₂ (λ x y. Some (x, y)) (eqb-true r.0 s.0 p.0) (eqb-true r.1 s.1 p.1)

pub option_is : (k j : KnownOption) → same_option k j ≡ true → k ≡ j
option_is k j e =
    let p = and_parts (bytes_eq k.name j.name) (same_range k.range j.range) e in
    let option : Text → Option (ℕ × ℕ) → KnownOption = λ n r. record { name = n; range = r } in
    ap₂ option (same_text k.name j.name p.0) (range_is k.range j.range p.1)

-- ---- words

abbrev pub from_long : Table → Option (Text × Option Text) → Word
from_long t None = stray
from_long t (Some p) = word_for (option_named t p.0) p.1

from_rest : (t : Table) → option_named t [] ≡ None → (o : Option Text) → word_after t o ≡ from_long t (option_and_then long_of_rest o)
from_rest t e None = refl
from_rest t e (Some []) = ap (λ k. word_for k (value_in [])) e
from_rest t e (Some (x ∷ xs)) = refl

-- what follows two hyphens is what follows a hyphen, twice
after_two : (word : Text) → after_dashes word ≡ option_and_then (strip_byte 45) (strip_byte 45 word)
after_two [] = refl
after_two (a ∷ []) = grind arith
after_two (a ∷ b ∷ rest) = grind arith

-- a word is what `clap` splits it into
pub word_is : (t : Table) → option_named t [] ≡ None → (word : Text) → word_of t word ≡ from_long t (long_of word)
word_is t e word = ap (word_after t) (after_two word) ∙ from_rest t e (option_and_then (strip_byte 45) (strip_byte 45 word))

-- a word that begins with a hyphen is no number, so it does not fit
pub hyphen_no_fit : (t : Table) (n word rest : Text) (r : ℕ × ℕ) → option_named t n ≡ Some (record { name = n; range = Some r }) → strip_byte 45 word ≡ Some rest → fits t (n, word) ≡ false
hyphen_no_fit t n word rest r e f =
    ap (λ o. option_map_or (λ (k : KnownOption). is_in k.range word) o false) e
    ∙ ap (λ b. b && (nat_le r.0 (value_of word) && nat_le (value_of word) r.1)) (hyphen_no_number word rest f)
