-- Reading an order line by line: what the lines so far said, in front of those that are left.
use Rattle.std.proofs.Common.{◌≡◌, ℕ, ◌+◌, ◌<◌, ◌≤◌, inl, inr, true, false, List, [], ◌∷◌, ◌++◌, Some, None, length, refl, sym, ap, ◌∙◌, arith, append_assoc, append-nil}
use Rattle.std.specs.Str.Lines.{lines}
use Rattle.std.proofs.lemmas.Bool.{cond-true, cond-false}
use Rattle.std.proofs.lemmas.List.{map_push}
use Rattle.lxr_text_script.specs.Lines.{Text, Line, text_line, words_of}
use Rattle.lxr_graph.specs.declared.Item.{Item}
use Rattle.lxr_case.specs.Items.{item_of, has_words, worded_from, SayItems, ReadsLine, IsFirstWithoutItem}

-- the lines so far said these items, and what is left has these lines
pub record ReadSoFar (threads : ℕ) (text rest : Text) (number : ℕ) (items : List Item) : Type 0 where
  pub small : number + length rest ≤ length text + 1
  pub done : List Line
  pub cut : worded_from 1 text ≡ done ++ worded_from number rest
  pub said : SayItems threads done items

pub opening : (threads : ℕ) (text : Text) → ReadSoFar threads text text 1 []
opening threads text = record { small = omega arith; done = []; cut = refl; said = refl }

-- a line without words is passed over
passed_over : (n : ℕ) (text line rest : Text) → lines text ≡ line ∷ lines rest → has_words (words_of line) ≡ false → worded_from n text ≡ worded_from (n + 1) rest
passed_over n text line rest cut none = rw cut (cond-false (has_words (words_of line)) _ _ none)

-- a line with words is the first
comes_first : (n : ℕ) (text line rest : Text) → lines text ≡ line ∷ lines rest → has_words (words_of line) ≡ true → worded_from n text ≡ text_line n line ∷ worded_from (n + 1) rest
comes_first n text line rest cut some = rw cut (cond-true (has_words (words_of line)) _ _ some)

-- what says an item has a word
worded : (threads : ℕ) (words : List Text) (x : Item) → item_of threads words ≡ Some x → has_words words ≡ true
worded threads [] x e = cc
worded threads (word ∷ words) x e = refl

pub more : (threads : ℕ) (text rest line behind : Text) (number : ℕ) (old new : List Item) → lines rest ≡ line ∷ lines behind → length behind < length rest
    → ReadsLine threads (words_of line) old new → ReadSoFar threads text rest number old → ReadSoFar threads text behind (number + 1) new
more threads text rest line behind number old new cut shorter reads so_far = elim reads [
  | inl none ↦ record {
    small = omega (arith, so_far.small);
    done = so_far.done;
    cut = so_far.cut ∙ ap (λ (ls : List Line). so_far.done ++ ls) (passed_over number rest line behind cut (rw none.0 refl));
    said = rw none.1 so_far.said;
  }
  | inr some ↦ record {
    small = omega (arith, so_far.small);
    done = so_far.done ++ text_line number line ∷ [];
    cut = so_far.cut ∙ (ap (λ (ls : List Line). so_far.done ++ ls) (comes_first number rest line behind cut (worded threads (words_of line) some.0 some.1)) ∙ sym (append_assoc so_far.done (text_line number line ∷ []) (worded_from (number + 1) behind)));
    said = rw some.2 (map_push (λ (l : Line). item_of threads l.words) so_far.done (text_line number line) ∙ (rw (so_far.said, some.1) (sym (map_push Some old some.0))));
  }
]

pub refused : (threads : ℕ) (text rest line behind : Text) (number : ℕ) (items : List Item) → lines rest ≡ line ∷ lines behind → has_words (words_of line) ≡ true
    → item_of threads (words_of line) ≡ None → ReadSoFar threads text rest number items → IsFirstWithoutItem threads (worded_from 1 text) number
refused threads text rest line behind number items cut some none so_far = record {
  before = so_far.done;
  line = text_line number line;
  after = worded_from (number + 1) behind;
  items = items;
  stand = so_far.cut ∙ ap (λ (ls : List Line). so_far.done ++ ls) (comes_first number rest line behind cut some);
  said = so_far.said;
  none = none;
  number = refl;
}

-- at the end all lines are read
pub over : (threads : ℕ) (text rest : Text) (number : ℕ) (items : List Item) → length rest ≡ 0 → ReadSoFar threads text rest number items → SayItems threads (worded_from 1 text) items
over threads text [] number items none so_far = rw (so_far.cut, append-nil so_far.done) so_far.said
over threads text (b ∷ rest) number items none so_far = absurd (omega arith)
