-- When the names of what is left of a heap may be renewed, and what that does to a space.
use Rattle.std.specs.Prelude.{◌≡◌, ◌≢◌, ℕ, ◌+◌, None, List, ◌∷◌, IsTrue, length}
use Rattle.lxr_layout.specs.declared.Name.{Name}
use Rattle.lxr_layout.specs.Places.{first_word}
use Rattle.lxr_graph.specs.Names.{has}
use Rattle.lxr_graph.specs.State.{world_name}
use Rattle.lxr_image.specs.declared.space.Space.{Space}
use Rattle.lxr_image.specs.Spaces.{tables_of}
use Rattle.lxr_image.specs.Opened.{no_tally}
use Rattle.lxr_invariant.specs.AbstractState.{AbstractState}
use Rattle.lxr_invariant.specs.Quiescent.{IsAtRest}
use Rattle.lxr_invariant.specs.Settled.{IsSettled}
use Rattle.lxr_graph.specs.Renewing.{renewed_name}
use Rattle.lxr_model.specs.Moments.{renewed_moment}
use Rattle.lxr_large_model.specs.Renewing.{AreCounted}

-- The names of what is left may be renewed, which are these and the world's: the space is at rest, and the graph has a row for each of its
-- threads and the world's; nothing was done since the last pause, no trace runs, and what is left was told since.
pub record MayRenew (s : Space) (g : AbstractState) (ns : List Name) : Type 0 where
  pub rests : IsAtRest s g
  pub rows : length g.moment.state.graph ≡ s.limits.threads + 1
  pub settled : IsSettled g.moment
  pub untraced : g.moment.trace ≡ None
  pub names : g.moment.unreclaimed ≡ world_name ∷ ns
  pub told : AreCounted s.report.told.items ns

-- Names were renewed: the space is at rest for the moment with its names renewed, each object stands where it stood, and nothing but words and
-- numbers has changed, which begin anew. No table but the heap has changed, and of that the headers of what is left alone.
pub record Renews (before after : Space) (g : AbstractState) (ns : List Name) : Type 0 where
  pub at : Name → ℕ
  pub stay : (n : Name) → IsTrue (has g.moment.unreclaimed n) → at (renewed_name ns n) ≡ g.at n
  pub rests : IsAtRest after (record { moment = renewed_moment before.limits.threads ns g.moment; at = at; reported = g.reported })
  pub space : after ≡ record before { words = after.words; tally = no_tally; pauses = 0 }
  pub tables : tables_of after ≡ record (tables_of before) { heap = (tables_of after).heap }
  pub others : (word : ℕ) → ((n : Name) → IsTrue (has g.moment.unreclaimed n) → word ≢ first_word (g.at n))
      → (tables_of after).heap word ≡ (tables_of before).heap word
