-- Each body has whole blocks, 1 to 128, after every legal history.
use Rattle.std.proofs.Common.{◌≡◌, ℕ, ◌*◌, ◌≤◌, ◌∙◌, subst, cond, true, false, Option, Some, None, List, [], ◌∷◌, ◌++◌, length}
use Rattle.std.specs.Prelude.{if◌then◌else◌, filter, map, slice_set}
use Rattle.std.specs.List.{AllByRecursion}
use Rattle.std.proofs.lemmas.List.{length-replicate, length-set}
use Rattle.lxr_layout.specs.declared.Name.{Name}
use Rattle.lxr_graph.specs.Names.{has, same_name}
use Rattle.lxr_graph.specs.State.{register_at}
use Rattle.lxr_graph.specs.declared.Op.TheVariants as op
use Rattle.lxr_graph.specs.declared.Reply.TheVariants as reply
use Rattle.lxr_large_model.specs.declared.TheConstants.{MOST_BODY_BLOCKS}
use Rattle.lxr_large_model.specs.declared.LargeOp.{LargeOp}
use Rattle.lxr_large_model.specs.declared.LargeOp.TheVariants as large_op
use Rattle.lxr_large_model.specs.declared.LargeReply.{LargeReply}
use Rattle.lxr_large_model.specs.declared.LargeReply.TheVariants as large_reply
use Rattle.lxr_large_model.specs.Full.{LargeTerms}
use Rattle.lxr_large_model.specs.History.{LargeItem, Called, Paused, Renewed, large_state}
use Rattle.lxr_large_model.specs.Pauses.{IsLegalLarge}
use Rattle.lxr_large_model.specs.Renewing.{renewed_body}
use Rattle.lxr_large_model.specs.State.{Large, LargeState, body_of, with_body}
use Rattle.lxr_large_model.specs.Step.{IsLargeOpFor, large_after, large_step, put_at, put_to, word_in}

-- so many words are those of whole blocks, 1 to 128
pub record AreWholeBlocks (words : List ℕ) : Type 0 where
  pub blocks : ℕ
  pub some : 1 ≤ blocks
  pub few : blocks ≤ MOST_BODY_BLOCKS
  pub long : length words ≡ 4096 * blocks

-- a body has such words
abbrev pub IsWholeBody : Large → Type 0
IsWholeBody l = AreWholeBlocks l.words

whole_append : (ls : List Large) (l : Large) → AllByRecursion IsWholeBody ls → IsWholeBody l → AllByRecursion IsWholeBody (ls ++ l ∷ [])
whole_append [] l all one = (one, tt)
whole_append (k ∷ ks) l all one = (all.0, whole_append ks l all.1 one)

whole_changed : (n : Name) (i v : ℕ) (ls : List Large) → AllByRecursion IsWholeBody ls → AllByRecursion IsWholeBody (with_body ls n (λ words. slice_set words i v))
whole_changed n i v [] all = tt
whole_changed n i v (l ∷ ls) all = (one, whole_changed n i v ls all.1)
  where
    one : IsWholeBody (if same_name n l.name then (record l { words = slice_set l.words i v }) else l)
    one = elim (same_name n l.name) as (λ c. IsWholeBody (if c then (record l { words = slice_set l.words i v }) else l)) [
      | true ↦ record { blocks = all.0.blocks; some = all.0.some; few = all.0.few; long = length-set l.words i v ∙ all.0.long }
      | false ↦ all.0
    ]

whole_renamed : (ns : List Name) (ls : List Large) → AllByRecursion IsWholeBody ls → AllByRecursion IsWholeBody (map (renewed_body ns) (filter (λ (l : Large). has ns l.name) ls))
whole_renamed ns [] all = tt
whole_renamed ns (l ∷ ls) all =
    elim (has ns l.name) as (λ c. AllByRecursion IsWholeBody (map (renewed_body ns) (cond c (l ∷ filter (λ (l : Large). has ns l.name) ls) (filter (λ (l : Large). has ns l.name) ls)))) [
      | true ↦ (all.0, whole_renamed ns ls all.1)
      | false ↦ whole_renamed ns ls all.1
    ]

whole_put : (s : LargeState) (i v : ℕ) (base : Option Name) → AllByRecursion IsWholeBody s.large → AllByRecursion IsWholeBody (put_to s i v base).0.large
whole_put s i v None all = all
whole_put s i v (Some n) all = by (word_in (body_of s.large n) i)
  where
    by : (found : Option ℕ) → AllByRecursion IsWholeBody (put_at s n i v found).0.large
    by None = all
    by (Some old) = whole_changed n i v s.large all

whole_step : (s : LargeState) (registers : ℕ) (o : LargeOp) → IsLargeOpFor registers o → AllByRecursion IsWholeBody s.large → AllByRecursion IsWholeBody (large_step s o).0.large
whole_step s registers (large_op.Small o) may all = all
whole_step s registers (large_op.Big dest blocks) may all =
    whole_append s.large _ all (record { blocks = blocks; some = may.1; few = may.2; long = length-replicate {A = ℕ} (4096 * blocks) 0 })
whole_step s registers (large_op.BigPut base i v) may all = whole_put s i v (register_at s.small 1 base) all
whole_step s registers (large_op.BigGet base i) may all = all

whole_call : (s : LargeState) (registers : ℕ) (o : LargeOp) (r : LargeReply) → IsLargeOpFor registers o → AllByRecursion IsWholeBody s.large → AllByRecursion IsWholeBody (large_after s o r).large
whole_call s registers (large_op.Small (op.New dest shape)) (large_reply.Small reply.Full) may all = all
whole_call s registers (large_op.Big dest blocks) large_reply.Full may all = all
whole_call s registers o r may all = whole_step s registers o may all

whole_bodies : (terms : LargeTerms) (h : List LargeItem) → IsLegalLarge terms h → AllByRecursion IsWholeBody (large_state h).large
whole_bodies terms [] legal = tt
whole_bodies terms (Called o r ∷ h) legal = whole_call (large_state h) terms.registers o r legal.1.operation (whole_bodies terms h legal.0)
whole_bodies terms (Paused report ∷ h) legal = whole_bodies terms h legal.0
whole_bodies terms (Renewed ns ∷ h) legal = whole_renamed ns (large_state h).large (whole_bodies terms h legal.0)

whole_found : (ls : List Large) (n : Name) (words : List ℕ) → AllByRecursion IsWholeBody ls → body_of ls n ≡ Some words → AreWholeBlocks words
whole_found [] n words all found = absurd (cc)
whole_found (l ∷ ls) n words all found = elim (same_name n l.name) as (λ c. cond c (Some l.words) (body_of ls n) ≡ Some words → AreWholeBlocks words) [
  | true ↦ λ e. let is : l.words ≡ words = cc in subst AreWholeBlocks is all.0
  | false ↦ λ e. whole_found ls n words all.1 e
] found

-- so the words of a body that a name has are those of whole blocks
pub whole_body : (terms : LargeTerms) (h : List LargeItem) (n : Name) (words : List ℕ) → IsLegalLarge terms h → body_of (large_state h).large n ≡ Some words → AreWholeBlocks words
whole_body terms h n words legal found = whole_found (large_state h).large n words (whole_bodies terms h legal) found
