-- What is kept by one step and by the next is kept by both.
use Rattle.std.proofs.Common.{◌≡◌, refl, ap, ◌∙◌}
use Rattle.lxr_image.specs.Tables.{Tables}
use Rattle.lxr_invariant.specs.Keeping.{KeepsLists, KeepsListsAndCounters}

pub keeps_same : (t u : Tables) → u ≡ t → KeepsListsAndCounters t u
keeps_same t u e = record {
  heap = ap (λ x. x.heap) e;
  reuse = ap (λ x. x.reuse) e;
  runs = ap (λ x. x.runs) e;
  frees = ap (λ x. x.frees) e;
  remembered = ap (λ x. x.remembered) e;
  cursors = λ k h j. ap (λ x. x.cursors k) e;
}

pub keeps_both : (t u v : Tables) → KeepsListsAndCounters t u → KeepsListsAndCounters u v → KeepsListsAndCounters t v
keeps_both t u v x y = record {
  heap = y.heap ∙ x.heap;
  reuse = y.reuse ∙ x.reuse;
  runs = y.runs ∙ x.runs;
  frees = y.frees ∙ x.frees;
  remembered = y.remembered ∙ x.remembered;
  cursors = λ k h j. y.cursors k h j ∙ x.cursors k h j;
}

-- where lists alone are kept between two steps that keep counters too, lists are kept
pub keeps_lists : (t u v w : Tables) → KeepsListsAndCounters t u → KeepsLists u v → KeepsListsAndCounters v w → KeepsLists t w
keeps_lists t u v w first middle last = record {
  heap = refl;
  reuse = refl;
  runs = last.runs ∙ middle.runs ∙ first.runs;
  frees = last.frees ∙ middle.frees ∙ first.frees;
  remembered = last.remembered ∙ middle.remembered ∙ first.remembered;
  cursors = λ k a b. last.cursors k a b ∙ middle.cursors k a b ∙ first.cursors k a b;
}
