use Rattle.std.proofs.Common.{◌≡◌, ℕ, ◌-◌, ◌*◌, ◌∙◌, sym, ap, arith, List, [], ◌∷◌, length, None, Some}
use Rattle.std.specs.Prelude.{if◌then◌else◌, min, option_map, slice_index_or, unwrap_or}
use Rattle.std.proofs.lemmas.Bool.{le-leb}
use Rattle.std.proofs.lemmas.List.{length-take}
use Rattle.lxr_graph.specs.State.{object_at, register_at, values_of}
use Rattle.lxr_large_model.specs.History.{large_state}
use Rattle.lxr_large_model.specs.State.{LargeState, body_of}
use Rattle.lxr_heap.specs.Bulk.{words_from, words_held}
use Rattle.lxr_c_words.specs.declared.form.Form.TheVariants as form
use Rattle.lxr_c_words.specs.Words.{HasBody, form_at, form_of}
use Rattle.lxr_c_words.proofs.form.count_in_body.Goals as goal

-- a body has as many words as its first one says, or all others
counted : (s : LargeState) (base blocks count : ℕ) (told : List ℕ) → HasBody s base blocks → told ≡ unwrap_or (words_held s (register_at s.small 1 base) 0 1) (0 ∷ [])
    → count ≡ min (slice_index_or told 0 0) (4096 * blocks - 1) → Some (form.Body count) ≡ form_at s base
counted s base blocks count told there read least = by there.words there.body there.long
  where
    by : (words : List ℕ) → body_of s.large there.name ≡ Some words → length words ≡ 4096 * blocks → Some (form.Body count) ≡ form_at s base
    by [] body long = let some = there.some in absurd (omega (arith, long, some))
    by (w ∷ ws) body long =
        let first : told ≡ w ∷ [] =
        read ∙ ap (λ v. unwrap_or (words_held s v 0 1) (0 ∷ [])) there.held ∙ ap (λ b. unwrap_or (words_from b 0 1) (0 ∷ [])) body
        ∙ ap (λ fits. unwrap_or (if fits then Some (w ∷ []) else None) (0 ∷ [])) (le-leb 1 (length (w ∷ ws)) (omega arith)) in
        let others : 4096 * blocks - 1 ≡ length ws = omega (arith, long) in
        ap (λ k. Some (form.Body k)) (least ∙ ap (λ t. min (slice_index_or t 0 0) (4096 * blocks - 1)) first ∙ ap (min w) others ∙ sym (length-take w ws))
        ∙ sym (ap (λ b. Some (form_of (values_of (object_at s.small.graph there.name)) b)) body)
        ∙ sym (ap (option_map (λ n. form_of (values_of (object_at s.small.graph n)) (body_of s.large n))) there.held)

pub returns-clause-counted : goal.returns-clause-counted
returns-clause-counted c = λ h is.
    counted (large_state h) c.args.base c.args.blocks c.min.result c.read.new.into (c.requires.there h is) (c.read.ensures.words h is)
    (c.min.ensures ∙ ap (λ k. min (slice_index_or c.read.new.into 0 0) (k - 1)) (ap (λ a. a * c.from-2.result) c.from.ensures ∙ ap (λ b. 4096 * b) c.from-2.ensures))
