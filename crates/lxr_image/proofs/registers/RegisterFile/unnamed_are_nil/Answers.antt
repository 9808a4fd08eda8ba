use Rattle.std.proofs.Common.{ℕ, ◌≤◌, arith, inl, inr, subst, List, length}
use Rattle.std.specs.Prelude.{slice_index_or}
use Rattle.std.specs.List.{All}
use Rattle.std.proofs.lemmas.Bool.Decides.{leb_tells}
use Rattle.std.proofs.lemmas.List.Elements.{All-get_or}
use Rattle.std.proofs.Math.ListN.{get_or-eq_default}
use Rattle.lxr_image.specs.Registers.{UnnamedAreNil}
use Rattle.lxr_image.proofs.registers.RegisterFile.unnamed_are_nil.Goals as goal

-- no thread has more in use than it may name
pub in_use_few : (width : ℕ) (in_use : List ℕ) (thread : ℕ) → All (λ n. n ≤ width) in_use → slice_index_or in_use thread 0 ≤ width
in_use_few width in_use thread few = elim (leb_tells (length in_use) thread) [
  | inl past ↦ let none = get_or-eq_default in_use 0 past.1 in omega (arith, none)
  | inr inside ↦ let low = inside.1 in All-get_or (λ n. n ≤ width) in_use thread 0 (omega (arith, low)) few
]

pub returns : goal.returns
returns c = subst UnnamedAreNil c.self.view_is (λ thread k low high.
    let few = in_use_few c.self.inside.width c.self.inside.in_use.items thread c.self.invariant.few in
    c.self.invariant.others thread k (omega (arith, few, low)) high)
