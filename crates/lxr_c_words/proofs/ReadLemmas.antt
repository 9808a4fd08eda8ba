-- Words of a body that are read or written are those of its object.
use Rattle.std.proofs.Common.{◌≡◌, ℕ, ◌+◌, ◌<◌, ◌≤◌, ◌∙◌, sym, ap, arith, Some, None, List, length, take, drop}
use Rattle.std.specs.Prelude.{if◌then◌else◌, is_some, unwrap_or}
use Rattle.std.proofs.lemmas.Bool.{le-leb, lt-leb}
use Rattle.lxr_graph.specs.State.{register_at}
use Rattle.lxr_large_model.specs.State.{LargeState}
use Rattle.lxr_heap.specs.declared.bulk.BodyReply.{BodyReply}
use Rattle.lxr_heap.specs.declared.bulk.BodyReply.TheVariants as body_reply
use Rattle.lxr_heap.specs.Bulk.{bulk_reply, words_from, words_held}
use Rattle.lxr_c_many.specs.Fields.{comes_to, words_in}
use Rattle.lxr_c_words.specs.Looking.{ReadsWords}
use Rattle.lxr_c_words.specs.Words.{words_at, words_in_body}
use Rattle.lxr_c_words.proofs.FormLemmas.{IsInBody, IsInData, words_of_body}
use Rattle.lxr_c_words.proofs.RowLemmas.{row_in_body, words_there}

module _ (s : LargeState) (base count first n : ℕ) (of : IsInBody s base count) where
  -- past the last there are none
  pub past : count < first + n → body_reply.Range ≡ comes_to (words_at s base) first n
  past over =
      let counted = of.counted in
      sym (ap (λ ws. comes_to ws first n) (words_of_body s base count of)
      ∙ ap (λ b. if b then body_reply.Done else body_reply.Range) (lt-leb (first + n) (length (words_in_body of.body)) (omega (arith, over, counted))))

  pub past_words : count < first + n → words_from (words_at s base) first n ≡ None
  past_words over =
      let counted = of.counted in
      ap (λ ws. words_from ws first n) (words_of_body s base count of)
      ∙ ap (λ b. if b then Some (take n (drop first (words_in_body of.body))) else None) (lt-leb (first + n) (length (words_in_body of.body)) (omega (arith, over, counted)))

  -- up to it they are words of the body, one further on
  pub there_words : first + n ≤ count → words_held s (register_at s.small 1 base) (first + 1) n ≡ words_from (words_at s base) first n
  there_words within =
      let counted = of.counted in
      ap (λ v. words_held s v (first + 1) n) of.held
      ∙ ap (λ b. words_from b (first + 1) n) of.found
      ∙ row_in_body of.body first n of.some (omega (arith, within, counted))
      ∙ sym (ap (λ ws. words_from ws first n) (words_of_body s base count of))

  pub there : first + n ≤ count → bulk_reply s (register_at s.small 1 base) (first + 1) n ≡ body_reply.Done
  there within =
      let counted = of.counted in
      ap (λ v. bulk_reply s v (first + 1) n) of.held
      ∙ ap (λ b. if is_some (words_from b (first + 1) n) then body_reply.Done else body_reply.Range) of.found
      ∙ ap (λ ws. if is_some ws then body_reply.Done else body_reply.Range) (row_in_body of.body first n of.some (omega (arith, within, counted)) ∙ words_there (words_in_body of.body) first n (omega (arith, within, counted)))

  pub all_there : first + n ≤ count → comes_to (words_at s base) first n ≡ body_reply.Done
  all_there within =
      let counted = of.counted in
      ap (λ ws. comes_to ws first n) (words_of_body s base count of)
      ∙ ap (λ b. if b then body_reply.Done else body_reply.Range) (le-leb (first + n) (length (words_in_body of.body)) (omega (arith, within, counted)))

-- nothing is read of nil
pub reads_nil : (s : LargeState) (base first : ℕ) (old : List ℕ) → words_at s base ≡ None → ReadsWords first old old s base body_reply.Bad
reads_nil s base first old none = record {
  reply = sym (ap (λ ws. comes_to ws first (length old)) none);
  read = sym (ap (λ ws. unwrap_or (words_from ws first (length old)) old) none);
}

-- nor past the last word of a body
pub reads_past : (s : LargeState) (base count first : ℕ) (old : List ℕ) → IsInBody s base count → count < first + length old → ReadsWords first old old s base body_reply.Range
reads_past s base count first old of over = record {
  reply = past s base count first (length old) of over;
  read = sym (ap (λ ws. unwrap_or ws old) (past_words s base count first (length old) of over));
}

-- words of a body that are read, from one further on
pub reads_there : (s : LargeState) (base count first : ℕ) (old new : List ℕ) (r : BodyReply) → IsInBody s base count → first + length old ≤ count → r ≡ bulk_reply s (register_at s.small 1 base) (first + 1) (length old)
    → new ≡ unwrap_or (words_held s (register_at s.small 1 base) (first + 1) (length old)) old → ReadsWords first old new s base r
reads_there s base count first old new r of within reply read = record {
  reply = reply ∙ there s base count first (length old) of within ∙ sym (all_there s base count first (length old) of within);
  read = read ∙ ap (λ ws. unwrap_or ws old) (there_words s base count first (length old) of within);
}

-- data words that are read
pub reads_data : (s : LargeState) (base first : ℕ) (old new : List ℕ) (r : BodyReply) → IsInData s base → (r ≡ comes_to (words_in s base) first (length old)) × (new ≡ unwrap_or (words_from (words_in s base) first (length old)) old) → ReadsWords first old new s base r
reads_data s base first old new r of read = record {
  reply = read.0 ∙ sym (ap (λ ws. comes_to ws first (length old)) of.words);
  read = read.1 ∙ sym (ap (λ ws. unwrap_or (words_from ws first (length old)) old) of.words);
}
