-- Bodies never move: one that was held and still is has the blocks that it had, whatever was done to it or to others.
use Rattle.std.proofs.Common.{◌≡◌, ℕ, refl, sym, ap, subst, ◌∙◌, Bool, true, false, cond, List, [], ◌∷◌, map, filter, Option, Some, None}
use Rattle.std.specs.Prelude.{IsTrue, nat_lt}
use Rattle.std.specs.List.{AllByRecursion}
use Rattle.lxr_layout.specs.declared.Name.{Name}
use Rattle.lxr_graph.specs.Names.{same_name}
use Rattle.lxr_graph.specs.History.{PauseReport}
use Rattle.lxr_graph.proofs.NameSets.{same_names}
use Rattle.lxr_large_bodies.specs.Bodies.{Body, body_of, changed_at, left_by, rank_of, settled, stays, with_placed, with_words}
use Rattle.lxr_heap.specs.Holding.{AreApart, IsOther, StayInBlocks}

-- two bodies have the same blocks
abbrev HasBlocksOf : Body → Body → Type 0
HasBlocksOf a b = (b.first ≡ a.first) × (b.blocks ≡ a.blocks)

one_body : (found : Option Body) (a b : Body) → found ≡ Some a → found ≡ Some b → HasBlocksOf a b
one_body found a b was now = let e : Some a ≡ Some b = sym was ∙ now in let same : a ≡ b = cc in (ap (λ (c : Body). c.first) (sym same), ap (λ (c : Body). c.blocks) (sym same))

-- where nothing is done
pub stay_same : (bs : List Body) → StayInBlocks bs bs
stay_same bs n a b was now = one_body (body_of bs n) a b was now

-- a body of a name that has none joins the others
placed_elsewhere : (bs : List Body) (b : Body) (n : Name) → same_name n b.name ≡ false → body_of (with_placed bs b) n ≡ body_of bs n
placed_elsewhere [] b n other = ap (λ c. cond c (Some b) None) other
placed_elsewhere (c ∷ cs) b n other = elim (nat_lt (rank_of c.name) (rank_of b.name)) as (λ t. body_of (cond t (c ∷ with_placed cs b) (b ∷ c ∷ cs)) n ≡ body_of (c ∷ cs) n) [
  | true ↦ ap (λ found. cond (same_name n c.name) (Some c) found) (placed_elsewhere cs b n other)
  | false ↦ ap (λ t. cond t (Some b) (body_of (c ∷ cs) n)) other
]

pub stay_placed : (bs : List Body) (b : Body) → body_of bs b.name ≡ None → StayInBlocks bs (with_placed bs b)
stay_placed bs b none n a c was now = one_body (body_of bs n) a c was (sym (placed_elsewhere bs b n (other (same_name n b.name) refl)) ∙ now)
  where
    other : (t : Bool) → same_name n b.name ≡ t → same_name n b.name ≡ false
    other true e = let e' : Some a ≡ None = sym was ∙ ap (body_of bs) (same_names n b.name e) ∙ none in absurd (cc)
    other false e = e

-- words of one change
changed_name : (n : Name) (change : List ℕ → List ℕ) (b : Body) → (changed_at n change b).name ≡ b.name
changed_name n change b = elim (same_name n b.name) as (λ c. (cond c (record b { words = change b.words }) b).name ≡ b.name) [ true ↦ refl | false ↦ refl ]

changed_blocks : (n : Name) (change : List ℕ → List ℕ) (b : Body) → HasBlocksOf b (changed_at n change b)
changed_blocks n change b = elim (same_name n b.name) as (λ c. HasBlocksOf b (cond c (record b { words = change b.words }) b)) [ true ↦ (refl, refl) | false ↦ (refl, refl) ]

pub stay_changed : (n : Name) (change : List ℕ → List ℕ) (bs : List Body) → StayInBlocks bs (with_words bs n change)
stay_changed n change [] m a b was now = let none : None ≡ Some a = was in absurd (cc)
stay_changed n change (c ∷ cs) m a b was now = by (stay_changed n change cs m a b) (same_name m c.name) refl
  where
    named : same_name m (changed_at n change c).name ≡ same_name m c.name
    named = ap (same_name m) (changed_name n change c)

    by : (body_of cs m ≡ Some a → body_of (with_words cs n change) m ≡ Some b → HasBlocksOf a b) → (t : Bool) → same_name m c.name ≡ t → HasBlocksOf a b
    by rest true e =
        let was_c : Some c ≡ Some a = sym (ap (λ t. cond t (Some c) (body_of cs m)) e) ∙ was in
        let now_c : Some (changed_at n change c) ≡ Some b = sym (ap (λ t. cond t (Some (changed_at n change c)) (body_of (with_words cs n change) m)) (named ∙ e)) ∙ now in
        let same_a : c ≡ a = cc in
        let same_b : changed_at n change c ≡ b = cc in
        subst (λ q. HasBlocksOf q b) same_a (subst (HasBlocksOf c) same_b (changed_blocks n change c))
    by rest false e =
        rest (sym (ap (λ t. cond t (Some c) (body_of cs m)) e) ∙ was)
        (sym (ap (λ t. cond t (Some (changed_at n change c)) (body_of (with_words cs n change) m)) (named ∙ e)) ∙ now)

-- a pause leaves some of them
-- a name of which all others differ has no body among them
nobody : (c : Body) (bs : List Body) → AllByRecursion (IsOther c) bs → (n : Name) → IsTrue (same_name n c.name) → body_of bs n ≡ None
nobody c [] all n is = refl
nobody c (d ∷ ds) all n is =
    let same : n ≡ c.name = same_names n c.name is in
    ap (λ t. cond t (Some d) (body_of ds n)) (ap (λ q. same_name q d.name) same ∙ all.0.named) ∙ nobody c ds all.1 n is

-- nor among those that a pause leaves of them
nobody_left : (r : PauseReport) (bs : List Body) (n : Name) → body_of bs n ≡ None → body_of (left_by r bs) n ≡ None
nobody_left r [] n none = refl
nobody_left r (d ∷ ds) n none = by (nobody_left r ds n) (same_name n d.name) refl
  where
    by : (body_of ds n ≡ None → body_of (left_by r ds) n ≡ None) → (t : Bool) → same_name n d.name ≡ t → body_of (left_by r (d ∷ ds)) n ≡ None
    by rest true e = let some : Some d ≡ None = sym (ap (λ t. cond t (Some d) (body_of ds n)) e) ∙ none in absurd (cc)
    by rest false e = elim (stays r d) as (λ c. body_of (map settled (cond c (d ∷ filter (stays r) ds) (filter (stays r) ds))) n ≡ None) [
      | true ↦ ap (λ t. cond t (Some (settled d)) (body_of (left_by r ds) n)) e ∙ rest (sym (ap (λ t. cond t (Some d) (body_of ds n)) e) ∙ none)
      | false ↦ rest (sym (ap (λ t. cond t (Some d) (body_of ds n)) e) ∙ none)
    ]

-- the body of a name that a pause finds first
abbrev first_left : PauseReport → Body → List Body → Bool → List Body
first_left r c cs t = map settled (cond t (c ∷ filter (stays r) cs) (filter (stays r) cs))

-- what is left of it has its blocks
own_left : (r : PauseReport) (c : Body) (cs : List Body) (n : Name) (b : Body) → same_name n c.name ≡ true → body_of (left_by r cs) n ≡ None → body_of (left_by r (c ∷ cs)) n ≡ Some b → (t : Bool) → stays r c ≡ t → HasBlocksOf c b
own_left r c cs n b e gone now true stay =
    let there : body_of (left_by r (c ∷ cs)) n ≡ Some (settled c) = ap (λ t. body_of (first_left r c cs t) n) stay ∙ ap (λ t. cond t (Some (settled c)) (body_of (left_by r cs) n)) e in
    one_body (body_of (left_by r (c ∷ cs)) n) (settled c) b there now
own_left r c cs n b e gone now false goes =
    let none : body_of (left_by r (c ∷ cs)) n ≡ None = ap (λ t. body_of (first_left r c cs t) n) goes ∙ gone in
    let some : None ≡ Some b = sym none ∙ now in
    absurd (cc)

-- another name's is among the others
other_left : (r : PauseReport) (c : Body) (cs : List Body) (n : Name) → same_name n c.name ≡ false → (t : Bool) → stays r c ≡ t → body_of (left_by r (c ∷ cs)) n ≡ body_of (left_by r cs) n
other_left r c cs n e true stay = ap (λ t. body_of (first_left r c cs t) n) stay ∙ ap (λ t. cond t (Some (settled c)) (body_of (left_by r cs) n)) e
other_left r c cs n e false goes = ap (λ t. body_of (first_left r c cs t) n) goes

pub stay_left : (r : PauseReport) (blocks : ℕ) (bs : List Body) → AreApart blocks bs → StayInBlocks bs (left_by r bs)
stay_left r blocks [] apart n a b was now = let none : None ≡ Some a = was in absurd (cc)
stay_left r blocks (c ∷ cs) apart n a b was now = by (stay_left r blocks cs apart.2 n a b) (same_name n c.name) refl
  where
    by : (body_of cs n ≡ Some a → body_of (left_by r cs) n ≡ Some b → HasBlocksOf a b) → (t : Bool) → same_name n c.name ≡ t → HasBlocksOf a b
    by rest true e =
        let was_c : Some c ≡ Some a = sym (ap (λ t. cond t (Some c) (body_of cs n)) e) ∙ was in
        let same_a : c ≡ a = cc in
        subst (λ q. HasBlocksOf q b) same_a (own_left r c cs n b e (nobody_left r cs n (nobody c cs apart.1 n e)) now (stays r c) refl)
    by rest false e = rest (sym (ap (λ t. cond t (Some c) (body_of cs n)) e) ∙ was) (sym (other_left r c cs n e (stays r c) refl) ∙ now)
