-- Words that are written are those of the object, by its form.
use Rattle.std.proofs.Common.{◌≡◌, ℕ, ◌+◌, ◌<◌, ◌≤◌, ◌∙◌, refl, sym, ap, subst, None, List, length}
use Rattle.std.specs.Prelude.{option_map}
use Rattle.lxr_large_model.specs.History.{LargeItem, large_state}
use Rattle.lxr_large_bodies.specs.Bodies.{overwritten}
use Rattle.lxr_heap.specs.declared.bulk.BodyReply.{BodyReply}
use Rattle.lxr_heap.specs.declared.bulk.BodyReply.TheVariants as body_reply
use Rattle.lxr_heap.specs.Bulk.{WritesWords}
use Rattle.lxr_c_heap.specs.declared.host.HostHeap.{HostHeap}
use Rattle.lxr_c_many.specs.Calling.{PutsWords}
use Rattle.lxr_c_many.specs.Fields.{comes_to}
use Rattle.lxr_c_words.specs.Words.{words_at}
use Rattle.lxr_c_words.specs.Writing.{PutsEach, Writes, history_with, body_held}
use Rattle.lxr_c_words.proofs.AfterLemmas.{after_body, after_data}
use Rattle.lxr_c_words.proofs.FormLemmas.{IsInBody, IsInData}
use Rattle.lxr_c_words.proofs.ReadLemmas.{all_there, past, there}

-- nothing is written to nil
pub writes_nil : (x : HostHeap) (h : List LargeItem) (base first : ℕ) (words : List ℕ) → words_at (large_state h) base ≡ None → Writes first words x x h base body_reply.Bad
writes_nil x h base first words none = record {
  reply = sym (ap (λ ws. comes_to ws first (length words)) none);
  unchanged = λ other. refl;
  puts = λ done. absurd (cc);
  after = λ done. absurd (cc);
}

-- nor past the last word of a body
pub writes_past : (x : HostHeap) (h : List LargeItem) (base count first : ℕ) (words : List ℕ) → IsInBody (large_state h) base count → count < first + length words → Writes first words x x h base body_reply.Range
writes_past x h base count first words of over = record {
  reply = past (large_state h) base count first (length words) of over;
  unchanged = λ other. refl;
  puts = λ done. absurd (cc);
  after = λ done. absurd (cc);
}

-- words of a body that are written, from one further on
pub writes_there : (x y : HostHeap) (h : List LargeItem) (base count first : ℕ) (words : List ℕ) (r : BodyReply) → IsInBody (large_state h) base count → first + length words ≤ count
    → WritesWords x.heap y.heap h base (first + 1) words r → y ≡ record x { heap = y.heap } → Writes first words x y h base r
writes_there x y h base count first words r of within written rest =
    let done : r ≡ body_reply.Done = written.reply ∙ there (large_state h) base count first (length words) of within in
    record {
      reply = done ∙ sym (all_there (large_state h) base count first (length words) of within);
      unchanged = λ other. absurd (other done);
      puts = λ e. subst (λ b. PutsEach b first words x y h base) (sym (ap (body_held (large_state h)) of.held ∙ of.found)) (subst (WritesWords x.heap y.heap h base (first + 1) words) done written, rest);
      after = λ e. subst (λ b. words_at (large_state (history_with b h base first words)) base ≡ option_map (overwritten first words) (words_at (large_state h) base)) (sym (ap (body_held (large_state h)) of.held ∙ of.found))
          (after_body h base count first words of within);
    }

-- data words that are written
pub writes_data : (x y : HostHeap) (h : List LargeItem) (base first : ℕ) (words : List ℕ) (r : BodyReply) → IsInData (large_state h) base → PutsWords first words x y h base r → Writes first words x y h base r
writes_data x y h base first words r of puts = record {
  reply = puts.reply ∙ sym (ap (λ ws. comes_to ws first (length words)) of.words);
  unchanged = puts.unchanged;
  puts = λ done. subst (λ b. PutsEach b first words x y h base) (sym of.none) (puts.follows done);
  after = λ done. subst (λ b. words_at (large_state (history_with b h base first words)) base ≡ option_map (overwritten first words) (words_at (large_state h) base)) (sym of.none)
      (after_data h base first words of (ap (λ ws. comes_to ws first (length words)) of.words ∙ sym puts.reply ∙ done));
}
