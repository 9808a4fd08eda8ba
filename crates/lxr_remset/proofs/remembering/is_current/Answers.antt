use Rattle.std.proofs.Common.{◌≡◌, ◌↔◌, ◌/◌, ℕ, sym, ap, subst, ◌∙◌, arith, eq-eqb, eqb-true}
use Rattle.std.specs.Prelude.{IsTrue, nat_eq}
use Rattle.lxr_layout.specs.declared.TheConstants.{WORDS_IN_LINE}
use Rattle.lxr_layout.specs.declared.Place.{Place}
use Rattle.lxr_layout.specs.Places.{IsPlace, field_word}
use Rattle.lxr_layout.specs.Runs.{kept_counter}
use Rattle.lxr_layout.proofs.EntryLemmas.{kept_alike}
use Rattle.lxr_image.specs.Spaces.{tables_of}
use Rattle.lxr_remset.specs.Remembering.{line_of_field}
use Rattle.lxr_remset.proofs.SetLemmas.{line_in_heap}
use Rattle.lxr_remset.proofs.remembering.is_current.Goals as goal

pub field_word-requires : goal.field_word-requires
field_word-requires c =
    let e = c.requires.entry in
    subst (λ (a : ℕ × Place × ℕ). IsPlace a.1) (sym (c.entry_of-counter.ensures e.0 e.1 e.2 e.3.entry e.3.is)) (e.3.entry.place.0, let fits = e.3.entry.place.1 in omega (arith, fits))

pub reuse-now-requires-clause-line : goal.reuse-now-requires-clause-line
reuse-now-requires-clause-line c =
    let e = c.requires.entry in
    line_in_heap c.args.space.now.limits e.1 e.2 c.field_word.result e.3.in_heap
    (c.field_word.ensures ∙ ap (λ (a : ℕ × Place × ℕ). field_word a.1.0 a.2) (c.entry_of-counter.ensures e.0 e.1 e.2 e.3.entry e.3.is))

-- what is kept of the counters is told equal exactly where it is, at the parts of the entry
told : (blocks : ℕ) (reuse : ℕ → ℕ) (answer : ℕ × Place × ℕ) (counter : ℕ) (place : Place) (index word read kept : ℕ) → answer ≡ (kept_counter blocks counter, place, index)
    → word ≡ field_word answer.1.0 answer.2 → read ≡ reuse (word / WORDS_IN_LINE) → kept ≡ kept_counter blocks read
    → IsTrue (nat_eq answer.0 kept) ↔ (kept_counter blocks counter ≡ kept_counter blocks (reuse (line_of_field place index)))
told blocks reuse answer counter place index word read kept is at reads keeps =
    let first : answer.0 ≡ kept_counter blocks counter = ap (λ (a : ℕ × Place × ℕ). a.0) is in
    let line : read ≡ reuse (line_of_field place index) = reads ∙ ap (λ (w : ℕ). reuse (w / WORDS_IN_LINE)) (at ∙ ap (λ (a : ℕ × Place × ℕ). field_word a.1.0 a.2) is) in
    let now : kept ≡ kept_counter blocks (reuse (line_of_field place index)) = keeps ∙ kept_alike blocks read (reuse (line_of_field place index)) line in
    (λ yes. sym first ∙ eqb-true answer.0 kept yes ∙ now, λ same. eq-eqb answer.0 kept (first ∙ same ∙ sym now))

pub returns : goal.returns
returns c counter place index is =
    told _ (tables_of c.args.space.now).reuse c.entry_of-counter.result counter place index c.field_word.result c.reuse-now.result c.kept_counter.result
    (c.entry_of-counter.ensures counter place index is.entry is.is) c.field_word.ensures c.reuse-now.ensures c.kept_counter.ensures
