-- Reading an output line by line: what is left is read from where the lines so far lead to.
use Rattle.std.proofs.Common.{◌≡◌, ℕ, ◌+◌, ◌-◌, ◌<◌, ◌≤◌, Bool, true, false, ◌&&◌, eqb, cond, List, [], ◌∷◌, Some, None, length, take, drop, refl, sym, ap, ◌∙◌, arith, position, nat_eq, option_and_then, length-drop}
use Rattle.std.specs.List.{slice_split, onto_first, position_or_len}
use Rattle.std.proofs.lemmas.List.Splits.{slice_split_first}
use Rattle.std.proofs.lemmas.List.{map_push, drop-drop, length-map}
use Rattle.lxr_text_script.specs.Lines.{Text}
use Rattle.lxr_text_script.proofs.Cutting.{found_at, nowhere, one_part}
use Rattle.lxr_judge_output.specs.declared.places.Place.{Place}
use Rattle.lxr_judge_output.specs.declared.places.Place.TheVariants as place
use Rattle.lxr_judge_output.specs.declared.places.LineKind.{LineKind}
use Rattle.lxr_judge_output.specs.declared.places.LineKind.TheVariants as line_kind
use Rattle.lxr_judge_output.specs.declared.gathering.Piece.{Piece}
use Rattle.lxr_judge_output.specs.Form.{Gathered, kind_at, place_behind, with_line, nothing_gathered, is_last, parts_read, whole, output_read}
use Rattle.lxr_judge_output.specs.declared.gathering.Reading.{Reading}
use Rattle.lxr_judge_output.specs.Gathering.{TakesLine, gathered_in, piece_in, texts_in}
use Rattle.lxr_judge_output.specs.Lines.{fields_of}

-- a line joins its group whether it is told by its text or by where it stands
pub line_joins : (text : Text) (g : Gathered Piece) (line : Piece) (kind : LineKind) → texts_in text (with_line g line kind) ≡ with_line (texts_in text g) (piece_in text line) kind
line_joins text g line (line_kind.Pause s) = rw (map_push (piece_in text) g.reports.lines line, length-map) refl
line_joins text g line line_kind.Names = rw (map_push (piece_in text) g.reports.lines line) refl
line_joins text g line line_kind.Count = rw (map_push (piece_in text) g.reports.lines line) refl
line_joins text g line (line_kind.Thread t) = rw length-map refl
line_joins text g line line_kind.Reply = rw (map_push (piece_in text) g.replies.lines line) refl

-- the first of the parts of what is left takes a byte more, and is a part
onto : (counts : Bool) (threads : ℕ) (p : Place) (g : Gathered Text) (line : Text) (x : ℕ) (parts : List Text)
    → parts_read counts threads p g (line ∷ onto_first x parts) ≡ option_and_then (λ kind. parts_read counts threads (place_behind counts p kind) (with_line g line kind) (onto_first x parts)) (kind_at threads p (fields_of line))
unfolding parts_read
onto counts threads p g line x [] = refl
onto counts threads p g line x (part ∷ parts) = refl

-- a part that others follow is a line
pub more_parts : (counts : Bool) (threads : ℕ) (p : Place) (g : Gathered Text) (line rest : Text)
    → parts_read counts threads p g (line ∷ slice_split (λ b. nat_eq b 10) rest) ≡ option_and_then (λ kind. parts_read counts threads (place_behind counts p kind) (with_line g line kind) (slice_split (λ b. nat_eq b 10) rest)) (kind_at threads p (fields_of line))
unfolding parts_read
more_parts counts threads p g line [] = refl
more_parts counts threads p g line (x ∷ xs) = elim (nat_eq x 10) as (λ v. parts_read counts threads p g (line ∷ cond v ([] ∷ slice_split (λ b. nat_eq b 10) xs) (onto_first x (slice_split (λ b. nat_eq b 10) xs))) ≡ option_and_then (λ kind. parts_read counts threads (place_behind counts p kind) (with_line g line kind) (cond v ([] ∷ slice_split (λ b. nat_eq b 10) xs) (onto_first x (slice_split (λ b. nat_eq b 10) xs)))) (kind_at threads p (fields_of line))) [
  | true ↦ refl
  | false ↦ onto counts threads p g line x (slice_split (λ b. nat_eq b 10) xs)
]

-- the first line of what is left is read
pub one_line : (counts : Bool) (threads : ℕ) (p : Place) (g : Gathered Text) (rest : Text) (end : ℕ) → position (λ b. nat_eq b 10) rest ≡ Some end
    → parts_read counts threads p g (slice_split (λ b. nat_eq b 10) rest) ≡ option_and_then (λ kind. parts_read counts threads (place_behind counts p kind) (with_line g (take end rest) kind) (slice_split (λ b. nat_eq b 10) (drop (end + 1) rest))) (kind_at threads p (fields_of (take end rest)))
one_line counts threads p g rest end e =
    let is = found_at (λ b. nat_eq b 10) rest end e in
    let inside : position_or_len (λ b. nat_eq b 10) rest < length rest = omega (arith, is.0, is.1) in
    let cut = rw is.0 at (slice_split_first (λ b. nat_eq b 10) rest 0 inside) in
    rw cut (more_parts counts threads p g (take end rest) (drop (end + 1) rest))

-- what has no line feed is the last part
pub last_part : (counts : Bool) (threads : ℕ) (p : Place) (g : Gathered Text) (rest : Text) → position (λ b. nat_eq b 10) rest ≡ None
    → parts_read counts threads p g (slice_split (λ b. nat_eq b 10) rest) ≡ whole threads p g rest
unfolding parts_read
last_part counts threads p g rest e = rw (one_part (λ b. nat_eq b 10) rest (nowhere (λ b. nat_eq b 10) rest e)) refl

-- The lines before a place are gathered, and what is left is read from there as the whole.
pub record ReadsOn (counts : Bool) (threads : ℕ) (text : Text) (p : Place) (g : Gathered Text) (from : ℕ) : Type 0 where
  pub inside : from ≤ length text
  pub reads : parts_read counts threads p g (slice_split (λ b. nat_eq b 10) (drop from text)) ≡ output_read counts threads text

opens : (counts : Bool) (threads : ℕ) (text : Text) → ReadsOn counts threads text place.Between nothing_gathered 0
unfolding output_read
opens counts threads text = record { inside = omega arith; reads = refl }

pub opens_at : (counts : Bool) (threads : ℕ) (text : Text) (g : Gathered Piece) → g ≡ nothing_gathered → ReadsOn counts threads text place.Between (texts_in text g) 0
opens_at counts threads text g none = rw none (opens counts threads text)

-- a line that may stand there is taken
pub line_taken : (counts : Bool) (threads : ℕ) (text : Text) (p : Place) (g : Gathered Piece) (from end : ℕ) (kind : LineKind) → position (λ b. nat_eq b 10) (drop from text) ≡ Some end
    → kind_at threads p (fields_of (piece_in text (record { from = from; to = from + end }))) ≡ Some kind → ReadsOn counts threads text p (texts_in text g) from
    → ReadsOn counts threads text (place_behind counts p kind) (texts_in text (with_line g (record { from = from; to = from + end }) kind)) (from + end + 1)
line_taken counts threads text p g from end kind e is on =
    let at = found_at (λ b. nat_eq b 10) (drop from text) end e in
    let short : length (drop from text) ≡ length text - from = length-drop from text in
    let line : Piece = record { from = from; to = from + end } in
    let back : from + end - from ≡ end = omega arith in
    let same : piece_in text line ≡ take end (drop from text) = ap (λ (n : ℕ). take n (drop from text)) back in
    let there : kind_at threads p (fields_of (take end (drop from text))) ≡ Some kind = rw same at is in
    let rest : drop (end + 1) (drop from text) ≡ drop (from + end + 1) text = drop-drop (end + 1) from text ∙ ap (λ (n : ℕ). drop n text) (omega arith) in
    let step = one_line counts threads p (texts_in text g) (drop from text) end e in
    let next : parts_read counts threads p (texts_in text g) (slice_split (λ b. nat_eq b 10) (drop from text)) ≡ parts_read counts threads (place_behind counts p kind) (with_line (texts_in text g) (take end (drop from text)) kind) (slice_split (λ b. nat_eq b 10) (drop (end + 1) (drop from text))) = rw there at step in
    let joins : texts_in text (with_line g line kind) ≡ with_line (texts_in text g) (take end (drop from text)) kind = line_joins text g line kind ∙ ap (λ (l : Text). with_line (texts_in text g) l kind) same in
    record {
      inside = omega (arith, at.1, short, on.inside);
      reads = rw (joins, sym rest) (sym next ∙ on.reads);
    }

-- a line that may not stand there is the end of it
pub line_refused : (counts : Bool) (threads : ℕ) (text : Text) (p : Place) (g : Gathered Text) (from end : ℕ) → position (λ b. nat_eq b 10) (drop from text) ≡ Some end
    → kind_at threads p (fields_of (piece_in text (record { from = from; to = from + end }))) ≡ None → ReadsOn counts threads text p g from → output_read counts threads text ≡ None
line_refused counts threads text p g from end e is on =
    let back : from + end - from ≡ end = omega arith in
    let there : kind_at threads p (fields_of (take end (drop from text))) ≡ None = rw back at is in
    let step = one_line counts threads p g (drop from text) end e in
    let next : parts_read counts threads p g (slice_split (λ b. nat_eq b 10) (drop from text)) ≡ None = rw there at step in
    sym on.reads ∙ next

-- behind the last line feed
pub last_read : (counts : Bool) (threads : ℕ) (text : Text) (p : Place) (g : Gathered Text) (from : ℕ) → position (λ b. nat_eq b 10) (drop from text) ≡ None → ReadsOn counts threads text p g from
    → output_read counts threads text ≡ whole threads p g (drop from text)
last_read counts threads text p g from e on = sym on.reads ∙ last_part counts threads p g (drop from text) e

-- a test of what is left, and of the place, tells whether all was read
pub all_read : (counts : Bool) (threads : ℕ) (text : Text) (p : Place) (g : Gathered Text) (from : ℕ) (answer : Bool) → position (λ b. nat_eq b 10) (drop from text) ≡ None → ReadsOn counts threads text p g from
    → answer ≡ (eqb (length text - from) 0 && is_last threads p) → output_read counts threads text ≡ cond answer (Some g) None
all_read counts threads text p g from answer e on is =
    last_read counts threads text p g from e on ∙ rw (length-drop from text, is) refl

-- the same, told in other words
as_well : (counts : Bool) (threads : ℕ) (text : Text) (p q : Place) (g h : Gathered Piece) (from : ℕ) → p ≡ q → g ≡ h → ReadsOn counts threads text q (texts_in text h) from → ReadsOn counts threads text p (texts_in text g) from
as_well counts threads text p q g h from same_place same_lines on = rw (same_place, same_lines) on

-- what was said of a line that was taken, or refused
pub taken_on : (counts : Bool) (threads : ℕ) (text : Text) (old new : Reading) (from end : ℕ) (taken : Bool) → taken ≡ true → position (λ b. nat_eq b 10) (drop from text) ≡ Some end
    → TakesLine counts threads (fields_of (piece_in text (record { from = from; to = from + end }))) (record { from = from; to = from + end }) old new taken
    → ReadsOn counts threads text old.place (texts_in text (gathered_in old.output)) from → ReadsOn counts threads text new.place (texts_in text (gathered_in new.output)) (from + end + 1)
taken_on counts threads text old new from end true holds e t on = as_well counts threads text new.place (place_behind counts old.place t.0) (gathered_in new.output) (with_line (gathered_in old.output) (record { from = from; to = from + end }) t.0) (from + end + 1) t.2 t.3
    (line_taken counts threads text old.place (gathered_in old.output) from end t.0 e t.1 on)
taken_on counts threads text old new from end false holds e t on = cc

pub refused_on : (counts : Bool) (threads : ℕ) (text : Text) (old new : Reading) (from end : ℕ) (taken : Bool) → taken ≡ false → position (λ b. nat_eq b 10) (drop from text) ≡ Some end
    → TakesLine counts threads (fields_of (piece_in text (record { from = from; to = from + end }))) (record { from = from; to = from + end }) old new taken
    → ReadsOn counts threads text old.place (texts_in text (gathered_in old.output)) from → output_read counts threads text ≡ None
refused_on counts threads text old new from end true fails e t on = cc
refused_on counts threads text old new from end false fails e t on = line_refused counts threads text old.place (texts_in text (gathered_in old.output)) from end e t on
