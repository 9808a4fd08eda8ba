-- What is known of a name that is raised: whether it is promoted already, and the next stage.
use Rattle.std.proofs.Common.{◌≡◌, ℕ, ◌+◌, refl, sym, ap, ◌∙◌, inl, inr, arith, Bool, true, false, cond, List, [], ◌∷◌, ◌++◌}
use Rattle.std.specs.Prelude.{◌||◌, ◌&&◌, not, IsTrue}
use Rattle.std.proofs.lemmas.Bool.{or_right}
use Rattle.lxr_layout.specs.declared.Name.{Name}
use Rattle.lxr_graph.specs.Names.{has, same_name}
use Rattle.lxr_graph.proofs.NameSets.{has-union, same_itself, union_cases}
use Rattle.lxr_image.specs.declared.space.Space.{Space}
use Rattle.lxr_image.specs.ImageLaws.{placed}
use Rattle.lxr_model.specs.Moments.{Moment}
use Rattle.lxr_model.specs.References.{references}
use Rattle.lxr_model_counting.specs.Distinct.{has_field}
use Rattle.lxr_model_counting.specs.Following.{FollowsPause}
use Rattle.lxr_model_counting.specs.Lowering.{once}
use Rattle.lxr_model_counting.proofs.DistinctLemmas.{or_false, tested}
use Rattle.lxr_model_counting.proofs.LoweringLemmas.{once_other, once_same}
use Rattle.lxr_model_counting.proofs.RaisingLemmas.{growth_made}
use Rattle.lxr_invariant.specs.AbstractState.{members}
use Rattle.lxr_invariant.specs.Raised.{with_promoted}
use Rattle.lxr_invariant.proofs.NameLemmas.{in_either}
use Rattle.lxr_pause_increments.specs.Increments.{IsIncrementing, IncrementStage, is_unpromoted, stage_with, count_so_far}
use Rattle.lxr_pause_increments.proofs.MovingLemmas.{AreMade}

-- ---- names that are known

-- what is stuck is known
pub stuck_known : (m : Moment) (promoted : List Name) → FollowsPause m → (n : Name) → IsTrue (has m.stuck n) → IsTrue (has (with_promoted m promoted) n)
stuck_known m promoted follows n h = has-union promoted m.unreclaimed n ∙ or_right (has promoted n) (has m.unreclaimed n) (follows.stuck n h)

-- what is promoted was made since the last pause
pub all_made : (s : Space) (m : Moment) (at : Name → ℕ) (st : IncrementStage) → IsIncrementing s m at st → AreMade m st.promoted
all_made s m at st is n h = growth_made m.state m.unreclaimed m.made st.promoted is.growth n h

-- nothing was stored to a reference of a new object that counts
pub made_unwritten : (m : Moment) → FollowsPause m → (o : Name) → IsTrue (has m.made o) → (i : ℕ) → has_field m.written (o, i) ≡ false
made_unwritten m follows o made i = elim (tested (has_field m.written (o, i))) [
  | inl k ↦ absurd (let a = (follows.written o i k).0 in let b = follows.apart o made in cc)
  | inr k ↦ k
]

-- ---- the name that is raised

and_false : (a : Bool) → (a && false) ≡ false
and_false true = refl
and_false false = refl

-- it is no new object to be promoted where it is known
pub known_promoted : (m : Moment) (st : IncrementStage) (o : Name) → FollowsPause m → IsTrue (has (with_promoted m st.promoted) o) → is_unpromoted m st o ≡ false
known_promoted m st o follows known = elim (union_cases st.promoted m.unreclaimed o known) [
  | inl k ↦ ap (λ b. has m.made o && not b) k ∙ and_false (has m.made o)
  | inr k ↦ elim (tested (has m.made o)) [
    | inl h ↦ absurd (let a = follows.apart o h in cc)
    | inr h ↦ ap (λ b. b && not (has st.promoted o)) h
  ]
]

-- a member that isn't known is a new object to be promoted
pub record IsFound (m : Moment) (st : IncrementStage) (o : Name) : Type 0 where
  pub made : IsTrue (has m.made o)
  pub unpromoted : has st.promoted o ≡ false
  pub test : is_unpromoted m st o ≡ true

pub unknown_found : (m : Moment) (st : IncrementStage) (o : Name) → IsTrue (has (members m) o) → has (with_promoted m st.promoted) o ≡ false → IsFound m st o
unknown_found m st o member unknown =
    let parts = or_false (has st.promoted o) (has m.unreclaimed o) (sym (has-union st.promoted m.unreclaimed o) ∙ unknown) in
    elim (in_either m.unreclaimed m.made o member) [
      | inl k ↦ absurd (let a = parts.1 in cc)
      | inr k ↦ record { made = k; unpromoted = parts.0; test = (λ i. k i && not (parts.0 i)) }
    ]

-- ---- the next stage

-- a name that is known is raised
abbrev pub raised_again : IncrementStage → Name → IncrementStage
raised_again st o = record st { added = λ n. once n o + st.added n }

-- a new object is promoted and raised, and stands at a place
abbrev pub raised_first : IncrementStage → Name → ℕ → IncrementStage
raised_first st o q = record { promoted = o ∷ st.promoted; work = st.work ++ o ∷ []; added = λ n. once n o + st.added n; now = placed st.now o q; found = st.found }

abbrev next_of : IncrementStage → Name → ℕ → Bool → IncrementStage
next_of st o q b = record {
  promoted = cond b (o ∷ st.promoted) st.promoted;
  work = cond b (st.work ++ o ∷ []) st.work;
  added = λ n. once n o + st.added n;
  now = cond b (placed st.now o q) st.now;
  found = st.found;
}

pub stage_again : (m : Moment) (st : IncrementStage) (o : Name) (q : ℕ) → is_unpromoted m st o ≡ false → stage_with m st o q ≡ raised_again st o
stage_again m st o q e = ap (next_of st o q) e

pub stage_first : (m : Moment) (st : IncrementStage) (o : Name) (q : ℕ) → is_unpromoted m st o ≡ true → stage_with m st o q ≡ raised_first st o q
stage_first m st o q e = ap (next_of st o q) e

-- how often each name was raised then
pub again_here : (m : Moment) (st : IncrementStage) (o : Name) → count_so_far m (raised_again st o) o ≡ count_so_far m st o + 1
again_here m st o = let e = once_same o o (same_itself o) in more (cond (has st.promoted o) 0 (references m.last m.unreclaimed o)) (st.added o) (once o o) e
  where
    more : (x y z : ℕ) → z ≡ 1 → x + (z + y) ≡ x + y + 1
    more x y z e = omega arith

pub again_other : (m : Moment) (st : IncrementStage) (o n : Name) → same_name n o ≡ false → count_so_far m (raised_again st o) n ≡ count_so_far m st n
again_other m st o n ne = ap (λ z. cond (has st.promoted n) 0 (references m.last m.unreclaimed n) + (z + st.added n)) (once_other n o ne)
    ∙ none (cond (has st.promoted n) 0 (references m.last m.unreclaimed n)) (st.added n)
  where
    none : (x y : ℕ) → x + (0 + y) ≡ x + y
    none x y = omega arith

pub first_here : (m : Moment) (st : IncrementStage) (o : Name) (q : ℕ) → st.added o ≡ 0 → count_so_far m (raised_first st o q) o ≡ 1
first_here m st o q zero =
    (λ i. cond (same_itself o i || has st.promoted o) 0 (references m.last m.unreclaimed o) + (once_same o o (same_itself o) i + zero i))

pub first_other : (m : Moment) (st : IncrementStage) (o : Name) (q : ℕ) (n : Name) → same_name n o ≡ false → count_so_far m (raised_first st o q) n ≡ count_so_far m st n
first_other m st o q n ne =
    ap (λ b. cond (b || has st.promoted n) 0 (references m.last m.unreclaimed n) + (once n o + st.added n)) ne ∙ again_other m st o n ne

-- the known names with a new one
pub first_joined : (m : Moment) (st : IncrementStage) (o n : Name) → has (with_promoted m (o ∷ st.promoted)) n ≡ (same_name n o || has (with_promoted m st.promoted) n)
first_joined m st o n =
    has-union (o ∷ st.promoted) m.unreclaimed n ∙ or_group (same_name n o) (has st.promoted n) (has m.unreclaimed n)
    ∙ ap (λ b. same_name n o || b) (sym (has-union st.promoted m.unreclaimed n))
  where
    or_group : (a b c : Bool) → ((a || b) || c) ≡ (a || (b || c))
    or_group true b c = refl
    or_group false b c = refl
