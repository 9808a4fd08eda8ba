-- Members of an image at one granule are one.
use Rattle.std.proofs.Common.{◌≡◌, ℕ, ◌/◌, ◌<◌, ◌≤◌, sym, ap, subst, ◌∙◌, inl, inr, List, IsTrue}
use Rattle.lxr_layout.specs.declared.limits.Limits.{Limits}
use Rattle.lxr_layout.specs.declared.Name.{Name}
use Rattle.lxr_layout.specs.declared.TheConstants.{REMEMBERED_CURSOR, WORDS_IN_LINE}
use Rattle.lxr_layout.specs.Runs.{word_of_entry}
use Rattle.lxr_graph.specs.Names.{has, same_name}
use Rattle.lxr_graph.specs.State.{Graph}
use Rattle.lxr_graph.proofs.NameSets.{same_names}
use Rattle.lxr_image.specs.Tables.{Tables}
use Rattle.lxr_image.specs.Reads.{granule_of}
use Rattle.lxr_image.specs.Image.{IsImage}
use Rattle.lxr_model_counting.proofs.DistinctLemmas.{tested}
use Rattle.lxr_invariant.specs.Standing.{word_of_field}
use Rattle.lxr_invariant.specs.Tracing.{IsRemembered}
use Rattle.lxr_invariant.proofs.PlaceLemmas.{granules_differ}

module _ (t : Tables) (blocks : ℕ) (at : Name → ℕ) (g : Graph) (ms : List Name) (image : IsImage t blocks at g ms) where
  pub one_name : (n o : Name) → IsTrue (has ms n) → IsTrue (has ms o) → granule_of (at n) ≡ granule_of (at o) → n ≡ o
  one_name n o in_n in_o e = elim (tested (same_name n o)) [
    | inl q ↦ same_names n o q
    | inr q ↦ absurd (granules_differ t blocks at g ms image n o in_n in_o q e)
  ]

  pub is_placed : (n : Name) → IsTrue (has ms n) → 1 ≤ at n
  is_placed n member = (image.stands n member).2.placed

-- what is remembered stays so where the remembered entries, their cursor and the reuse counters do
pub remembered_still : (l : Limits) (t u : Tables) (at : Name → ℕ) (n : Name) (i : ℕ) → u.remembered ≡ t.remembered → u.reuse ≡ t.reuse → u.cursors REMEMBERED_CURSOR ≡ t.cursors REMEMBERED_CURSOR
    → IsRemembered l t at n i → IsRemembered l u at n i
remembered_still l t u at n i remembered reuse cursor (k, drawn, within, is) = (
  k,
  subst (λ z. k < z) (sym cursor) drawn,
  within,
  ap (λ f. f k) remembered ∙ is ∙ ap (λ f. word_of_entry l.blocks (f (word_of_field at n i / WORDS_IN_LINE)) (record { 0 = at n }) i) (sym reuse),
)
