use Rattle.std.proofs.Common.{◌≡◌, ℕ, subst, inl, inr}
use Rattle.std.specs.Prelude.{◌⊎◌}
use Rattle.lxr_image.specs.declared.tables.WordTable.{WordTable}
use Rattle.lxr_image.specs.declared.tables.WordTable.TheVariants.{Heap, Runs, Frees, Decrements, Remembered, Cursors}
use Rattle.lxr_image.specs.Settled.{SameLines, WordTouches}
use Rattle.lxr_image.specs.Tables.{Tables}
use Rattle.lxr_image.proofs.settled.Settled.note_word.Goals as goal

-- these tables tell nothing of lines
tells_nothing : (table : WordTable) (block : ℕ) (t u : Tables) → (table ≡ Heap) ⊎ (table ≡ Runs) ⊎ (table ≡ Frees) ⊎ (table ≡ Decrements) ⊎ (table ≡ Remembered) ⊎ (table ≡ Cursors) → WordTouches table block t u → SameLines t u
tells_nothing table block t u (inl is) touches = subst (λ x. WordTouches x block t u) is touches
tells_nothing table block t u (inr (inl is)) touches = subst (λ x. WordTouches x block t u) is touches
tells_nothing table block t u (inr (inr (inl is))) touches = subst (λ x. WordTouches x block t u) is touches
tells_nothing table block t u (inr (inr (inr (inl is)))) touches = subst (λ x. WordTouches x block t u) is touches
tells_nothing table block t u (inr (inr (inr (inr (inl is))))) touches = subst (λ x. WordTouches x block t u) is touches
tells_nothing table block t u (inr (inr (inr (inr (inr is))))) touches = subst (λ x. WordTouches x block t u) is touches

pub returns-in-States-clause-knows : goal.returns-in-States-clause-knows
returns-in-States-clause-knows c t u k touches = c.note_in.ensures.knows t u k (λ same. subst (λ x. WordTouches x c.args.block t u) c.in-States.is (touches same))

pub returns-in-Heap : goal.returns-in-Heap
returns-in-Heap c = record {
  blocks = c.keep_known.ensures.blocks;
  knows = λ t u k touches. c.keep_known.ensures.knows t u k (λ same. tells_nothing c.args.table c.args.block t u c.in-Heap.is (touches same));
}
