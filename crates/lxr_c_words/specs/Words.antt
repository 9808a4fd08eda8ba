-- The words of an object that a program takes as one row of any length.
use Rattle.std.specs.Prelude.{◌≡◌, ℕ, ◌*◌, ◌≤◌, Option, None, Some, List, [], ◌∷◌, length, option_map, take}
use Rattle.lxr_layout.specs.declared.Name.{Name}
use Rattle.lxr_layout.specs.declared.TheConstants.{WORDS_IN_BLOCK}
use Rattle.lxr_graph.specs.State.{object_at, register_at, values_of}
use Rattle.lxr_large_model.specs.declared.TheConstants.{MOST_BODY_BLOCKS}
use Rattle.lxr_large_model.specs.State.{LargeState, body_of}
use Rattle.lxr_c_words.specs.declared.form.Form.{Form}
use Rattle.lxr_c_words.specs.declared.form.Form.TheVariants as form

-- the words of a body: its first word says how many of the others are these, and where it says more than there are, all of them are
abbrev pub words_in_body : List ℕ → List ℕ
words_in_body [] = []
words_in_body (count ∷ words) = take count words

-- the words of an object by its data words and its body: those of the body where it has one, and else its data words
abbrev pub words_of : List ℕ → Option (List ℕ) → List ℕ
words_of values None = values
words_of values (Some body) = words_in_body body

-- the words of what a register holds; none where it is nil
abbrev pub words_at : LargeState → ℕ → Option (List ℕ)
words_at s base = option_map (λ n. words_of (values_of (object_at s.small.graph n)) (body_of s.large n)) (register_at s.small 1 base)

-- how an object holds its words, and how many there are
abbrev pub form_of : List ℕ → Option (List ℕ) → Form
form_of values None = form.Data (length values)
form_of values (Some body) = form.Body (length (words_in_body body))

-- how what a register holds does; none where it is nil
abbrev pub form_at : LargeState → ℕ → Option Form
form_at s base = option_map (λ n. form_of (values_of (object_at s.small.graph n)) (body_of s.large n)) (register_at s.small 1 base)

-- how many words an object has that holds them so
abbrev pub length_in : Form → ℕ
length_in (form.Data count) = count
length_in (form.Body count) = count

-- what a register holds has a body of so many blocks
pub record HasBody (s : LargeState) (base blocks : ℕ) : Type 0 where
  pub name : Name
  pub held : register_at s.small 1 base ≡ Some name
  pub words : List ℕ
  pub body : body_of s.large name ≡ Some words
  pub long : length words ≡ WORDS_IN_BLOCK * blocks
  pub some : 1 ≤ blocks
  pub few : blocks ≤ MOST_BODY_BLOCKS
