use Rattle.std.proofs.Common.{◌≡◌, ℕ, subst, refl, inl, inr}
use Rattle.std.specs.Prelude.{◌⊎◌}
use Rattle.lxr_image.specs.declared.tables.BitTable.{BitTable}
use Rattle.lxr_image.specs.declared.tables.BitTable.TheVariants.{Marks, Grays, Dones, Unlogged}
use Rattle.lxr_image.specs.Settled.{BitTouches, SameLines}
use Rattle.lxr_image.specs.Tables.{Tables}
use Rattle.lxr_image.proofs.SettledLemmas.{same_known}
use Rattle.lxr_image.proofs.settled.Settled.note_bit.Goals as goal

-- these tables tell nothing of lines
tells_nothing : (table : BitTable) (block : ℕ) (t u : Tables) → (table ≡ Marks) ⊎ (table ≡ Grays) ⊎ (table ≡ Dones) ⊎ (table ≡ Unlogged) → BitTouches table block t u → SameLines t u
tells_nothing table block t u (inl is) touches = subst (λ x. BitTouches x block t u) is touches
tells_nothing table block t u (inr (inl is)) touches = subst (λ x. BitTouches x block t u) is touches
tells_nothing table block t u (inr (inr (inl is))) touches = subst (λ x. BitTouches x block t u) is touches
tells_nothing table block t u (inr (inr (inr is))) touches = subst (λ x. BitTouches x block t u) is touches

pub returns-then-blocks-self-clause-knows : goal.returns-then-blocks-self-clause-knows
returns-then-blocks-self-clause-knows c t u k touches = c.forget.ensures.knows t u k

pub returns-in-Marks : goal.returns-in-Marks
returns-in-Marks c = record { blocks = refl; knows = λ t u k touches. same_known c.args.self.now t u k (tells_nothing c.args.table c.args.block t u c.in-Marks.is (touches c.if-blocks-self.false)) }
