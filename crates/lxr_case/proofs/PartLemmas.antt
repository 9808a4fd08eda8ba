-- Where a line stands in a text: within it, and no two dividing lines overlap.
use Rattle.std.proofs.Common.{◌≡◌, ◌≢◌, ℕ, zero, suc, ◌+◌, ◌-◌, ◌<◌, ◌≤◌, inl, inr, Bool, IsTrue, List, Some, length, take, drop, get_or, refl, sym, ap, ◌∙◌, arith, length-take, length-drop}
use Rattle.std.specs.Str.{bytes_eq}
use Rattle.std.proofs.lemmas.Bool.{cases_lt}
use Rattle.std.proofs.lemmas.List.{get_or-take, get_or-drop, take_all}
use Rattle.std.proofs.lemmas.Option.{slice_get_within, slice_get-get_or}
use Rattle.std.proofs.lemmas.Slice.Eq.{bytes_eq-Decides}
use Rattle.lxr_text_script.specs.Lines.{Text}
use Rattle.lxr_case.specs.Parts.{BeginsLine, IsLineAt, IsDivided, output_line, order_line}

-- a line that isn't empty stands within the text
pub within : (line text : Text) (at : ℕ) → 0 < length line → IsLineAt line text at → at + length line ≤ length text
within line text at some stands =
    let same : length (take (length line) (drop at text)) ≡ length line = ap length stands.bytes in
    let n : length (take (length line) (drop at text)) ≡ length (take (length line) (drop at text)) = refl in
    omega (arith, simp (length-take, length-drop) at same)

-- no byte of the line before an output but its last is a line feed
no_feed : (k : ℕ) → k < 9 → get_or output_line k 0 ≢ 10
no_feed zero lt e = omega (arith, e)
no_feed (suc zero) lt e = omega (arith, e)
no_feed (suc (suc zero)) lt e = omega (arith, e)
no_feed (suc (suc (suc zero))) lt e = omega (arith, e)
no_feed (suc (suc (suc (suc zero)))) lt e = omega (arith, e)
no_feed (suc (suc (suc (suc (suc zero))))) lt e = omega (arith, e)
no_feed (suc (suc (suc (suc (suc (suc zero)))))) lt e = omega (arith, e)
no_feed (suc (suc (suc (suc (suc (suc (suc zero))))))) lt e = omega (arith, e)
no_feed (suc (suc (suc (suc (suc (suc (suc (suc zero)))))))) lt e = omega (arith, e)
no_feed (suc (suc (suc (suc (suc (suc (suc (suc (suc k))))))))) lt e = absurd (omega (arith, lt))

-- the byte before a line that doesn't begin the text is a line feed
feed_before : (text : Text) (at : ℕ) → 0 < at → BeginsLine text at → (get_or text (at - 1) 0 ≡ 10) × (at - 1 < length text)
feed_before text at some begins = elim begins [
  | inl none ↦ absurd (omega (arith, none))
  | inr feed ↦
      let inside = slice_get_within text (at - 1) 10 feed in
      let both : Some (get_or text (at - 1) 0) ≡ Some 10 = sym (slice_get-get_or text (at - 1) 0 inside) ∙ feed in
      (cc, inside)
]

-- so the line before an order begins behind the line before an output
pub apart : (bytes : Text) (output order : ℕ) → IsDivided bytes output order → output + 10 ≤ order
apart bytes output order divided = elim (cases_lt order (output + 10)) [
  | inr le ↦ le
  | inl lt ↦
      let feed = feed_before bytes order (omega (arith, divided.in_order)) divided.order_stands.stands.begins in
      let k : order - 1 - output < 9 = omega (arith, lt, divided.in_order) in
      let at : output + (order - 1 - output) ≡ order - 1 = omega (arith, divided.in_order) in
      let byte : get_or output_line (order - 1 - output) 0 ≡ 10 = sym (ap (λ (xs : List ℕ). get_or xs (order - 1 - output) 0) divided.output_stands.stands.bytes) ∙ (get_or-take 10 (drop output bytes) (order - 1 - output) 0 (omega (arith, k)) ∙ (get_or-drop output bytes (order - 1 - output) 0 ∙ (rw at feed.0))) in
      absurd (no_feed (order - 1 - output) k byte)
]

-- what a test of the bytes there tells of a line that begins there
pub line_at : (line text : Text) (at : ℕ) (answer : Bool) → at ≤ length text → BeginsLine text at → answer ≡ bytes_eq line (take (length line) (take (length text - at) (drop at text)))
    → (IsTrue answer → IsLineAt line text at) × (IsLineAt line text at → IsTrue answer)
line_at line text at answer inside begins is =
    let rest : take (length text - at) (drop at text) ≡ drop at text = take_all _ _ (simp length-drop (omega arith)) in
    let e : answer ≡ bytes_eq line (take (length line) (drop at text)) = is ∙ ap (λ (xs : List ℕ). bytes_eq line (take (length line) xs)) rest in
    let decides = bytes_eq-Decides line (take (length line) (drop at text)) in
    (λ h. record { begins = begins; bytes = sym (decides.0 (sym e ∙ h)) }, λ stands. e ∙ decides.1 (sym stands.bytes))

-- the line before an order ends within the bytes
pub order_ends : (bytes : Text) (output order : ℕ) → IsDivided bytes output order → order + 9 ≤ length bytes
order_ends bytes output order divided = within order_line bytes order (omega arith) divided.order_stands.stands
