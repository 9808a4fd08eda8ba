-- The words that a mutator writes to: those of the object that it makes are no other maker's and no member's.
use Rattle.std.proofs.Common.{◌≡◌, ℕ, ◌+◌, ◌-◌, ◌*◌, ◌/◌, ◌<◌, ◌≤◌, sym, ap, subst, ◌∙◌, inl, inr, arith}
use Rattle.std.specs.Prelude.{Option, Some, None, IsTrue, slice_get}
use Rattle.std.proofs.lemmas.Bool.Decides.{eqb_tells}
use Rattle.lxr_layout.specs.declared.Name.{Name}
use Rattle.lxr_layout.specs.declared.Shape.{Shape}
use Rattle.lxr_layout.specs.Objects.{word_count}
use Rattle.lxr_layout.specs.Places.{first_word}
use Rattle.lxr_graph.specs.Names.{has}
use Rattle.lxr_graph.specs.State.{Object, object_at, shape_of}
use Rattle.lxr_image.specs.Tables.{Tables}
use Rattle.lxr_image.specs.Reads.{granule_of}
use Rattle.lxr_image.specs.ImageLaws.{with_heap}
use Rattle.lxr_image.proofs.ImageLemmas.{just_at, not_at}
use Rattle.lxr_alloc.specs.Spans.{granule_count}
use Rattle.lxr_invariant.specs.AbstractState.{members}
use Rattle.lxr_core_invariant.specs.ThreadStates.{Stage, ThreadState, Makes, Works}
use Rattle.lxr_core_invariant.specs.EpochStates.{Beginning, EpochState, moment_of}
use Rattle.lxr_core_invariant.specs.Drawn.{InMaking, IsDrawnMemory, IsOfMaking, OfMember, Owner, Owns, UndrawnRun, UndrawnBlock, InHand, InSpan}
use Rattle.lxr_core_inv_heap.proofs.ImageKnowLemmas.{KeepsWiped}

-- ---- words of an object

-- a word of an object of a shape at a place
pub record IsWordOf (place : ℕ) (shape : Shape) (word : ℕ) : Type 0 where
  pub first : first_word place ≤ word
  pub behind : word < first_word place + word_count shape

-- a word behind the first one lies in a granule behind the first one
in_granules : (p c w x : ℕ) → 1 ≤ p → w ≡ 2 * c → 2 * (p - 1) ≤ x → x < 2 * (p - 1) + w → (p - 1 ≤ x / 2) × (x / 2 < p - 1 + c)
in_granules p c w x some even first behind = (omega arith, omega arith)

-- a granule has two words
pub words_even : (s : Shape) → word_count s ≡ 2 * granule_count s
words_even s = omega arith

-- the granule of a word of an object is one of the object's
granule_of_word : (place : ℕ) (shape : Shape) (word : ℕ) → 1 ≤ place → IsWordOf place shape word → (granule_of place ≤ word / 2) × (word / 2 < granule_of place + granule_count shape)
granule_of_word place shape word some is = in_granules place (granule_count shape) (word_count shape) word some (words_even shape) is.first is.behind

-- ---- owners

-- the maker of an owner
abbrev maker_of : Owner → Option ℕ
maker_of (InMaking i) = Some i
maker_of (UndrawnRun k) = None
maker_of (UndrawnBlock k) = None
maker_of (InHand i) = None
maker_of (InSpan i from) = None
maker_of (OfMember n) = None

-- one owner is one maker
one_maker : (i j : ℕ) → InMaking i ≡ InMaking j → i ≡ j
one_maker i j e = let k : Some i ≡ Some j = ap maker_of e in cc

-- a maker owns no member
no_maker : (i : ℕ) (n : Name) → InMaking i ≡ OfMember n → ⊥
no_maker i n e = let k : Some i ≡ None = ap maker_of e in absurd (cc)

-- a mutator makes an object at a place
pub record MakesAt (s : EpochState) (i place : ℕ) (shape : Shape) : Type 0 where
  pub thread_state : ThreadState
  pub shows : slice_get s.thread_states i ≡ Some thread_state
  pub wiped : ℕ
  pub stage : thread_state.stage ≡ Works (Makes place shape wiped)

-- the maker owns each word of its object
owned_by_maker : (b : Beginning) (s : EpochState) (i place : ℕ) (shape : Shape) (word : ℕ) → 1 ≤ place → MakesAt s i place shape → IsWordOf place shape word → Owns b s (InMaking i) (word / 2)
owned_by_maker b s i place shape word some makes is = (makes.thread_state, makes.shows, subst (λ z. IsOfMaking z (word / 2)) (sym makes.stage) (granule_of_word place shape word some is))

-- a member owns each word of its object
owned_by_member : (b : Beginning) (s : EpochState) (n : Name) (o : Object) (word : ℕ) → IsTrue (has (members (moment_of b s)) n) → object_at (moment_of b s).state.graph n ≡ Some o → 1 ≤ s.at n
    → IsWordOf (s.at n) (shape_of o) word → Owns b s (OfMember n) (word / 2)
owned_by_member b s n o word member there some is =
    let g = granule_of_word (s.at n) (shape_of o) word some is in
    record { member = member; object = o; covers = record { object = there; first = g.0; behind = g.1 } }

-- no word is two makers'
pub makers_apart : (b : Beginning) (s : EpochState) (i j p q : ℕ) (a c : Shape) (word : ℕ) → IsDrawnMemory b s → MakesAt s i p a → MakesAt s j q c → IsWordOf p a word → IsWordOf q c word → i ≡ j
makers_apart b s i j p q a c word drawn mi mj wi wj =
    let some_p = (drawn.makes i mi.thread_state p a mi.wiped mi.shows mi.stage).placed in
    let some_q = (drawn.makes j mj.thread_state q c mj.wiped mj.shows mj.stage).placed in
    one_maker i j (drawn.one (word / 2) (InMaking i) (InMaking j) (owned_by_maker b s i p a word some_p mi wi) (owned_by_maker b s j q c word some_q mj wj))

-- no word is a maker's and a member's
pub maker_apart : (b : Beginning) (s : EpochState) (i p : ℕ) (a : Shape) (n : Name) (o : Object) (word : ℕ) → IsDrawnMemory b s → MakesAt s i p a → IsTrue (has (members (moment_of b s)) n)
    → object_at (moment_of b s).state.graph n ≡ Some o → 1 ≤ s.at n → IsWordOf p a word → IsWordOf (s.at n) (shape_of o) word → ⊥
maker_apart b s i p a n o word drawn makes member there some wi wn =
    let some_p = (drawn.makes i makes.thread_state p a makes.wiped makes.shows makes.stage).placed in
    no_maker i n (drawn.one (word / 2) (InMaking i) (OfMember n) (owned_by_maker b s i p a word some_p makes wi) (owned_by_member b s n o word member there some wn))

-- ---- wiped words

-- a wiped word is one of the object
wiped_word : (place : ℕ) (shape : Shape) (wiped k : ℕ) → wiped + 1 ≤ word_count shape → k < wiped → IsWordOf place shape (first_word place + 1 + k)
wiped_word place shape wiped k within h = record { first = omega arith; behind = omega arith }

-- a write to a word that isn't one of the object's leaves it wiped
pub wiped_beside : (t : Tables) (word value : ℕ) (stage : Stage) → ((place : ℕ) (shape : Shape) (wiped : ℕ) → stage ≡ Works (Makes place shape wiped) → IsWordOf place shape word → ⊥) → KeepsWiped t (with_heap t word value) stage
wiped_beside t word value stage beside place shape wiped e is = record {
  within = is.within;
  zeros = λ k h. not_at t.heap word value (first_word place + 1 + k) (λ q. beside place shape wiped e (subst (IsWordOf place shape) q (wiped_word place shape wiped k is.within h))) ∙ is.zeros k h;
}

-- a 0 leaves all that is wiped so
pub zero_written : (t : Tables) (word k : ℕ) → t.heap k ≡ 0 → (with_heap t word 0).heap k ≡ 0
zero_written t word k e = elim (eqb_tells k word) [
  | inl q ↦ just_at t.heap word 0 k q.1
  | inr q ↦ not_at t.heap word 0 k q.1 ∙ e
]

-- all wiped words stay so where a 0 is written
pub wiped_still : (t : Tables) (word : ℕ) (stage : Stage) → KeepsWiped t (with_heap t word 0) stage
wiped_still t word stage place shape wiped e is = record { within = is.within; zeros = λ k h. zero_written t word (first_word place + 1 + k) (is.zeros k h) }
