-- Where a text leads: from a place, with so much gathered, to the place behind it. Plain lines lead on one by one.
use Rattle.std.proofs.Common.{◌≡◌, ℕ, Bool, true, ◌&&◌, eqb, cond, List, [], ◌∷◌, ◌++◌, Some, None, length, refl, sym, ap, ◌∙◌, codes, nat_eq, option_and_then, append_assoc, append-nil}
use Rattle.std.specs.List.{slice_split}
use Rattle.lxr_text_script.specs.Lines.{Text}
use Rattle.lxr_text_script.specs.Spelling.{joined}
use Rattle.lxr_text_script.proofs.Plain.{are_plain, line_off}
use Rattle.lxr_judge_output.specs.declared.places.Place.{Place}
use Rattle.lxr_judge_output.specs.declared.places.Place.TheVariants as place
use Rattle.lxr_judge_output.specs.declared.places.LineKind.{LineKind}
use Rattle.lxr_judge_output.specs.Form.{Gathered, kind_at, place_behind, with_line, nothing_gathered, is_last, parts_read, output_read}
use Rattle.lxr_judge_output.specs.Lines.{fields_of}
use Rattle.lxr_judge_output.proofs.FormLemmas.{more_parts}
use Rattle.lxr_judge_output.proofs.PrintedLemmas.{fields_are}

-- what follows the text is read from place q, with k gathered, as the whole is from place p with g
abbrev pub LeadsTo : Bool → ℕ → Place → Gathered Text → Text → Place → Gathered Text → Type 0
LeadsTo counts threads p g text q k =
    (rest : Text) → parts_read counts threads p g (slice_split (λ b. nat_eq b 10) (text ++ rest)) ≡ parts_read counts threads q k (slice_split (λ b. nat_eq b 10) rest)

pub stays : (counts : Bool) (threads : ℕ) (p : Place) (g : Gathered Text) → LeadsTo counts threads p g [] p g
stays counts threads p g rest = refl

pub leads_on : (counts : Bool) (threads : ℕ) (p q r : Place) (g k l : Gathered Text) (front behind : Text) → LeadsTo counts threads p g front q k → LeadsTo counts threads q k behind r l
    → LeadsTo counts threads p g (front ++ behind) r l
leads_on counts threads p q r g k l front behind first second rest =
    ap (λ (text : Text). parts_read counts threads p g (slice_split (λ b. nat_eq b 10) text)) (append_assoc front behind rest) ∙ (first (behind ++ rest) ∙ second rest)

-- a line of plain words that may stand there, and then what leads on from behind it
pub line_leads : (counts : Bool) (threads : ℕ) (p r : Place) (g l : Gathered Text) (word : Text) (words : List Text) (kind : LineKind) (behind : Text) → are_plain (word ∷ words) ≡ true
    → kind_at threads p (word ∷ words) ≡ Some kind → LeadsTo counts threads (place_behind counts p kind) (with_line g (joined (word ∷ words)) kind) behind r l
    → LeadsTo counts threads p g (joined (word ∷ words) ++ 10 ∷ behind) r l
line_leads counts threads p r g l word words kind behind plain is more rest =
    let line = joined (word ∷ words) in
    let cut = line_off (word ∷ words) (behind ++ rest) plain in
    let here : kind_at threads p (fields_of line) ≡ Some kind = ap (kind_at threads p) (fields_are word words plain) ∙ is in
    let onwards : LineKind → _ = λ kind. parts_read counts threads (place_behind counts p kind) (with_line g line kind) (slice_split (λ b. nat_eq b 10) (behind ++ rest)) in
    ap (λ (text : Text). parts_read counts threads p g (slice_split (λ b. nat_eq b 10) text)) (append_assoc line (10 ∷ behind) rest)
    ∙ (ap (parts_read counts threads p g) cut ∙ (more_parts counts threads p g line (behind ++ rest) ∙ (ap (option_and_then onwards) here ∙ more rest)))

-- a text that leads to the end of the last thread's replies is an output, of which this is gathered
pub whole_read : (counts : Bool) (threads : ℕ) (q : Place) (k : Gathered Text) (text : Text) → LeadsTo counts threads place.Between nothing_gathered text q k → is_last threads q ≡ true
    → output_read counts threads text ≡ Some k
unfolding output_read parts_read
whole_read counts threads q k text leads last =
    ap (λ (t : Text). parts_read counts threads place.Between nothing_gathered (slice_split (λ b. nat_eq b 10) t)) (sym (append-nil text)) ∙ (leads [] ∙ ap (λ (b : Bool). cond b (Some k) None) last)
