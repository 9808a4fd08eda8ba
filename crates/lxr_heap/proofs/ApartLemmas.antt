-- Bodies stay whole and apart: a new one stands in a run that none had, and words that change stay as many.
use Rattle.std.proofs.Common.{◌≡◌, ℕ, ◌+◌, ◌*◌, ◌<◌, ◌≤◌, refl, sym, ap, subst, ◌∙◌, inl, inr, ◌⊎◌, arith, true, false, cond, List, [], ◌∷◌, ◌++◌, filter, map, length-set, ltb}
use Rattle.std.specs.Prelude.{◌&&◌, ◌||◌, slice_set}
use Rattle.std.specs.List.{AllByRecursion, list_any}
use Rattle.std.proofs.lemmas.Bool.{le-leb, lt-ltb}
use Rattle.std.proofs.lemmas.Bool.Decides.{leb_tells}
use Rattle.std.proofs.lemmas.List.{length-replicate}
use Rattle.lxr_layout.specs.declared.Name.{Name}
use Rattle.lxr_graph.specs.Names.{same_name}
use Rattle.lxr_graph.specs.History.{PauseReport}
use Rattle.lxr_large_bodies.specs.Bodies.{Body, Held, IsFreeRun, changed_at, fresh, left_by, rank_of, settled, stays, takes, with_placed, with_words}
use Rattle.lxr_heap.specs.Holding.{AreApart, IsOther, IsWhole}
use Rattle.lxr_heap.proofs.BodyLemmas.{placed_last}

-- ---- words that change

changed_whole : (blocks : ℕ) (n : Name) (i v : ℕ) (b : Body) → IsWhole blocks b → IsWhole blocks (changed_at n (λ words. slice_set words i v) b)
changed_whole blocks n i v b whole = elim (same_name n b.name) as (λ c. IsWhole blocks (cond c (record b { words = slice_set b.words i v }) b)) [
  | true ↦ record { words = length-set b.words i v ∙ whole.words; some = whole.some; within = whole.within }
  | false ↦ whole
]

changed_other : (n : Name) (i v : ℕ) (a b : Body) → IsOther a b → IsOther a (changed_at n (λ words. slice_set words i v) b)
changed_other n i v a b other = elim (same_name n b.name) as (λ c. IsOther a (cond c (record b { words = slice_set b.words i v }) b)) [
  | true ↦ record { named = other.named; apart = other.apart }
  | false ↦ other
]

changed_first : (n : Name) (i v : ℕ) (a b : Body) → IsOther a b → IsOther (changed_at n (λ words. slice_set words i v) a) b
changed_first n i v a b other = elim (same_name n a.name) as (λ c. IsOther (cond c (record a { words = slice_set a.words i v }) a) b) [
  | true ↦ record { named = other.named; apart = other.apart }
  | false ↦ other
]

changed_others : (n : Name) (i v : ℕ) (a : Body) (bs : List Body) → AllByRecursion (IsOther a) bs → AllByRecursion (IsOther (changed_at n (λ words. slice_set words i v) a)) (with_words bs n (λ words. slice_set words i v))
changed_others n i v a [] all = tt
changed_others n i v a (b ∷ bs) all =
    (changed_other n i v (changed_at n (λ words. slice_set words i v) a) b (changed_first n i v a b all.0), changed_others n i v a bs all.1)

pub changed_apart : (blocks : ℕ) (n : Name) (i v : ℕ) (bs : List Body) → AreApart blocks bs → AreApart blocks (with_words bs n (λ words. slice_set words i v))
changed_apart blocks n i v [] apart = tt
changed_apart blocks n i v (b ∷ bs) apart = (changed_whole blocks n i v b apart.0, changed_others n i v b bs apart.1, changed_apart blocks n i v bs apart.2)

-- ---- pauses

left_others : (r : PauseReport) (a : Body) (bs : List Body) → AllByRecursion (IsOther a) bs → AllByRecursion (IsOther (settled a)) (left_by r bs)
left_others r a [] all = tt
left_others r a (b ∷ bs) all = elim (stays r b) as (λ c. AllByRecursion (IsOther (settled a)) (map settled (cond c (b ∷ filter (stays r) bs) (filter (stays r) bs)))) [
  | true ↦ (record { named = all.0.named; apart = all.0.apart }, left_others r a bs all.1)
  | false ↦ left_others r a bs all.1
]

pub left_apart : (r : PauseReport) (blocks : ℕ) (bs : List Body) → AreApart blocks bs → AreApart blocks (left_by r bs)
left_apart r blocks [] apart = tt
left_apart r blocks (b ∷ bs) apart = elim (stays r b) as (λ c. AreApart blocks (map settled (cond c (b ∷ filter (stays r) bs) (filter (stays r) bs)))) [
  | true ↦ (record { words = apart.0.words; some = apart.0.some; within = apart.0.within }, left_others r b bs apart.1, left_apart r blocks bs apart.2)
  | false ↦ left_apart r blocks bs apart.2
]

-- ---- a body that is placed

-- a body that has none of so many blocks from one on stands before or behind them
beside : (b : Body) (first blocks : ℕ) → 1 ≤ blocks → 1 ≤ b.blocks → ((k : ℕ) → first ≤ k → k < first + blocks → takes k b ≡ false) → (b.first + b.blocks ≤ first) ⊎ (first + blocks ≤ b.first)
beside b first blocks some many free = elim (leb_tells first b.first) [
  | inl low ↦ elim (leb_tells (first + blocks) b.first) [
    | inl behind ↦ inr behind.1
    | inr not_behind ↦
        let le = low.1 in
        let lt = not_behind.1 in
        let own : takes b.first b ≡ true = taken b.first b (omega arith) (omega (arith, many)) in
        let no = free b.first le (omega (arith, lt)) in
        absurd (cc)
  ]
  | inr high ↦ elim (leb_tells (b.first + b.blocks) first) [
    | inl before ↦ inl before.1
    | inr not_before ↦
        let lt = high.1 in
        let more = not_before.1 in
        let own : takes first b ≡ true = taken first b (omega (arith, lt)) (omega (arith, more)) in
        let no = free first (omega arith) (omega (arith, some)) in
        absurd (cc)
  ]
]
  where
    taken : (k : ℕ) (b : Body) → b.first ≤ k → k < b.first + b.blocks → takes k b ≡ true
    taken k b low high = ap (λ c. c && ltb k (b.first + b.blocks)) (le-leb _ _ low) ∙ lt-ltb _ _ high

free_head : (k : ℕ) (b : Body) (bs : List Body) → list_any (takes k) (b ∷ bs) ≡ false → takes k b ≡ false
free_head k b bs none = elim (takes k b) as (λ c. takes k b ≡ c → (c || list_any (takes k) bs) ≡ false → takes k b ≡ false) [ true ↦ λ is no. absurd (cc) | false ↦ λ is no. is ] refl none

free_tail : (k : ℕ) (b : Body) (bs : List Body) → list_any (takes k) (b ∷ bs) ≡ false → list_any (takes k) bs ≡ false
free_tail k b bs none = elim (takes k b) as (λ c. (c || list_any (takes k) bs) ≡ false → list_any (takes k) bs ≡ false) [ true ↦ λ no. absurd (cc) | false ↦ λ no. no ] none

all_before : (total : ℕ) (n : Name) (first blocks : ℕ) (bs : List Body) → 1 ≤ blocks → AreApart total bs → AllByRecursion (λ (c : Body). same_name c.name n ≡ false) bs
    → ((k : ℕ) → first ≤ k → k < first + blocks → list_any (takes k) bs ≡ false) → AllByRecursion (λ c. IsOther c (fresh n first blocks)) bs
all_before total n first blocks [] some apart names free = tt
all_before total n first blocks (b ∷ bs) some apart names free = (
  record { named = names.0; apart = beside b first blocks some apart.0.some (λ k low high. free_head k b bs (free k low high)) },
  all_before total n first blocks bs some apart.2 names.1 (λ k low high. free_tail k b bs (free k low high)),
)

appended_others : (a b : Body) (bs : List Body) → AllByRecursion (IsOther a) bs → IsOther a b → AllByRecursion (IsOther a) (bs ++ b ∷ [])
appended_others a b [] all other = (other, tt)
appended_others a b (c ∷ cs) all other = (all.0, appended_others a b cs all.1 other)

appended : (total : ℕ) (b : Body) (bs : List Body) → IsWhole total b → AreApart total bs → AllByRecursion (λ c. IsOther c b) bs → AreApart total (bs ++ b ∷ [])
appended total b [] whole apart before = (whole, tt, tt)
appended total b (c ∷ cs) whole apart before = (apart.0, appended_others c b cs apart.1 before.0, appended total b cs whole apart.2 before.1)

pub placed_apart : (held : Held) (n : Name) (first blocks : ℕ) → 1 ≤ blocks → AreApart held.blocks held.bodies → AllByRecursion (λ (c : Body). same_name c.name n ≡ false) held.bodies
    → AllByRecursion (λ (c : Body). rank_of c.name < rank_of n) held.bodies → IsFreeRun held first blocks → AreApart held.blocks (with_placed held.bodies (fresh n first blocks))
placed_apart held n first blocks some apart names ranks run =
    subst (AreApart held.blocks) (sym (placed_last (fresh n first blocks) held.bodies ranks))
    (appended held.blocks (fresh n first blocks) held.bodies
    (record { words = length-replicate (4096 * blocks) 0; some = some; within = run.within })
    apart (all_before held.blocks n first blocks held.bodies some apart names run.free))
