-- A reply keeps an agenda one: a script's lists go on with it, and a live thread has no operation without a reply after it.
use Rattle.std.proofs.Common.{◌≡◌, ◌∙◌, ◌+◌, ◌-◌, ◌<◌, List, [], ◌∷◌, ◌++◌, arith, ap, refl, sym, length, length-append}
use Rattle.std.specs.Prelude.{Option, Some, None, slice_get, slice_index_or}
use Rattle.std.proofs.lemmas.List.{get_or_push}
use Rattle.std.proofs.lemmas.Option.{slice_get-get_or}
use Rattle.lxr_base.specs.Roomy.{Roomy, pushed}
use Rattle.lxr_graph.specs.declared.Op.{Op}
use Rattle.lxr_graph.specs.declared.Op.TheVariants as op
use Rattle.lxr_graph.specs.declared.Reply.{Reply}
use Rattle.lxr_mutator.specs.declared.agenda.Kept.{Kept}
use Rattle.lxr_mutator.specs.Agendas.{IsKeptIn}
use Rattle.lxr_mutator.specs.Dialogues.{Dialogue, op_at_hand, with_reply}
use Rattle.lxr_mutator.specs.Keeping.{kept_with, next_kept}

-- the last of some things
pub last_at : {X : Type 0} (all xs : List X) (x : X) → all ≡ xs ++ x ∷ [] → slice_get all (length all - 1) ≡ Some x
last_at all xs x e =
    let size : length all ≡ length xs + 1 = ap length e ∙ length-append xs (x ∷ []) in
    let before : length all - 1 ≡ length xs = omega (arith, size) in
    ap (slice_get all) before ∙ slice_get-get_or all (length xs) x (omega (arith, size)) ∙ ap Some (ap (λ l. slice_index_or l (length xs) x) e ∙ get_or_push xs x x (length xs) refl)

module _ (d : Dialogue) (r : Reply) where
  -- the operation whose turn it is then, if there is one
  pub next_is : (kept : Option Kept) (o : Op) → IsKeptIn d kept → length (d.replies.items ++ r ∷ []) < length d.operations → next_kept kept o ≡ op_at_hand (with_reply d r)
  next_is (Some k) o is undone =
      let more = length-append d.replies.items (r ∷ []) in
      ap (λ (os : List Op). slice_index_or os (length k.replies.items + 1) op.End) is.operations
      ∙ ap (λ (rs : Roomy Reply). slice_index_or d.operations (length rs.items + 1) op.End) is.replies
      ∙ ap (λ n. slice_index_or d.operations n op.End) (sym more)
  next_is None o is undone =
      let more = length-append d.replies.items (r ∷ []) in
      let one = is.one in
      absurd (omega (arith, more, one, undone))

  -- the lists go on with the reply
  pub stays_kept : (kept : Option Kept) → IsKeptIn d kept → IsKeptIn (with_reply d r) (kept_with kept r)
  stays_kept (Some k) is = record { operations = is.operations; replies = ap (λ (rs : Roomy Reply). pushed rs r) is.replies; whole = is.whole }
  stays_kept None is =
      let more = length-append d.replies.items (r ∷ []) in
      let one = is.one in
      record { room = is.room; one = omega (arith, more, one) }
