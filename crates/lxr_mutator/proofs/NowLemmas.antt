-- The operation whose turn it is names registers that it may, and a shape that fits.
use Rattle.std.proofs.Common.{◌≡◌, ℕ, zero, suc, ◌<◌, ◌≤◌, List, [], ◌∷◌, arith, subst, true, false, refl}
use Rattle.std.specs.Prelude.{None, slice_index_or}
use Rattle.std.specs.List.{All}
use Rattle.std.proofs.lemmas.List.Elements.{All-head, All-tail}
use Rattle.lxr_layout.specs.declared.TheConstants.{GRANULES_IN_BLOCK}
use Rattle.lxr_layout.specs.Objects.{FitsShape, word_count}
use Rattle.lxr_layout.specs.declared.Shape.{Shape}
use Rattle.lxr_graph.specs.declared.Op.{Op}
use Rattle.lxr_graph.specs.declared.Op.TheVariants as op
use Rattle.lxr_graph.specs.Step.{IsFormedFor}
use Rattle.lxr_barrier.specs.Storing.{Storing, end_of}
use Rattle.lxr_mutator.specs.declared.phases.MutatorPhase.{MutatorPhase}
use Rattle.lxr_mutator.specs.declared.phases.MutatorPhase.TheVariants as phase
use Rattle.lxr_mutator.specs.Operating.{dest_of, shape_made}
use Rattle.lxr_mutator.specs.Mutating.{Mutating, op_now, rests_in, wipes_in}
use Rattle.lxr_mutator.specs.Steps.{shape_now}
use Rattle.lxr_mutator.specs.Seen.{AreWords}
use Rattle.lxr_mutator.specs.Mutators.{IsMutator, IsOperation, MayBeIn}

-- at each index there is an operation that is formed for so many registers, or else the end
formed_at : (width : ℕ) (ops : List Op) (i : ℕ) → All (IsOperation width) ops → IsFormedFor width (slice_index_or ops i op.End)
formed_at width [] i all = tt
formed_at width (o ∷ os) zero all = (All-head (IsOperation width) o os all).0
formed_at width (o ∷ os) (suc i) all = formed_at width os i (All-tail (IsOperation width) o os all)

-- it names registers that the mutator may name alone, and its shape fits
pub formed_now : (m : Mutating) → IsMutator m → IsFormedFor m.width (op_now m)
formed_now m is = formed_at m.width m.operations _ is.setup.operations

-- the register that it sets is one of these
pub dest_named : (width : ℕ) (o : Op) → 1 ≤ width → IsFormedFor width o → dest_of o < width
dest_named width (op.New dest shape) some is = is.0
dest_named width (op.Load dest base index) some is = is.0
dest_named width (op.Swap dest base index source) some is = is.0
dest_named width o some is = some

pub dest_now : (m : Mutating) → IsMutator m → dest_of (op_now m) < m.width
dest_now m is = dest_named m.width (op_now m) is.setup.width.0 (formed_now m is)

-- the shape that it makes fits
pub shape_fits : (width : ℕ) (o : Op) → IsFormedFor width o → FitsShape (shape_made o)
shape_fits width (op.New dest shape) is = is.1
shape_fits width o is = (omega arith, omega arith)

pub shape_now_fits : (m : Mutating) → IsMutator m → FitsShape (shape_now m)
shape_now_fits m is = shape_fits m.width (op_now m) (formed_now m is)

-- a shape that fits has at most 2,048 words
words_bound : (s : Shape) → FitsShape s → word_count s ≤ GRANULES_IN_BLOCK
words_bound s fits = omega arith

-- which has at most 2,048 words
pub few_words : (m : Mutating) → IsMutator m → word_count (shape_now m) ≤ GRANULES_IN_BLOCK
few_words m is = words_bound (shape_now m) (shape_now_fits m is)

-- a store in progress has not ended
pub store_goes_on : (m : Mutating) (s : Storing) → IsMutator m → m.phase ≡ phase.Storing s → end_of s ≡ None
store_goes_on m s is e = let h : MayBeIn m (phase.Storing s) = subst (MayBeIn m) e is.phase in h.1

-- in a phase that wipes nothing any number of words will do
pub unwiped : (words : ℕ) (s : Shape) (p : MutatorPhase) → wipes_in p ≡ false → AreWords words s p
unwiped words s (phase.Wiping place next) h = absurd (cc)
unwiped words s p h = tt

-- and so it will between units
pub unwiped_between : (words : ℕ) (s : Shape) (p : MutatorPhase) → rests_in p ≡ true → AreWords words s p
unwiped_between words s (phase.Wiping place next) h = absurd (cc)
unwiped_between words s p h = tt

-- in any phase the words of the shape itself will do
pub whole_words : (s : Shape) (p : MutatorPhase) → AreWords (word_count s) s p
whole_words s (phase.Wiping place next) = refl
whole_words s p = tt
