-- Which bodies are held: exactly those of the names that are kept, whatever is done to them. A name is kept by two tests, whether it was unreclaimed
-- after the last pause and whether it was made since.
use Rattle.std.proofs.Common.{◌≡◌, ℕ, ◌<◌, refl, sym, ap, subst, ◌∙◌, Bool, true, false, cond, not, ◌&&◌, ◌||◌, List, [], ◌∷◌, ◌++◌, map, filter, Option, Some, None, ltb}
use Rattle.std.proofs.lemmas.Bool.{lt-ltb}
use Rattle.std.specs.List.{AllByRecursion}
use Rattle.lxr_layout.specs.declared.Name.{Name}
use Rattle.lxr_graph.specs.Names.{has, insert_name, same_name, union, without}
use Rattle.lxr_graph.specs.History.{PauseReport}
use Rattle.lxr_graph.proofs.NameSets.{has-union, has-without, same_itself, same_names}
use Rattle.lxr_model.specs.Moments.{Moment, unreclaimed_after}
use Rattle.lxr_large_model.specs.State.{Large, body_of as large_of, changed_at as large_changed, with_body}
use Rattle.lxr_large_model.specs.Step.{word_in as word_of}
use Rattle.lxr_large_bodies.specs.Bodies.{Body, body_of, changed_at, fresh, left_by, rank_of, settled, stays, with_placed, with_words, word_at, word_in}
use Rattle.lxr_large_bodies.specs.Kept.{Kept, is_kept, kept_of, to_keep}

-- ---- names that are kept by two tests

-- a large name as a body
abbrev pub as_kept : Bool → Large → Kept
as_kept young l = record { name = l.name; words = l.words; young = young }

-- the large names that one of two tests tells, young where the second does
abbrev pub kept_by : (Name → Bool) → (Name → Bool) → List Large → List Kept
kept_by old young [] = []
kept_by old young (l ∷ ls) = cond (old l.name || young l.name) (as_kept (young l.name) l ∷ kept_by old young ls) (kept_by old young ls)

pub by_tests : (m : Moment) (ls : List Large) → map (to_keep m) (filter (is_kept m) ls) ≡ kept_by (has m.unreclaimed) (has m.made) ls
by_tests m [] = refl
by_tests m (l ∷ ls) = elim (is_kept m l) as (λ b. map (to_keep m) (cond b (l ∷ filter (is_kept m) ls) (filter (is_kept m) ls)) ≡ cond b (to_keep m l ∷ kept_by (has m.unreclaimed) (has m.made) ls) (kept_by (has m.unreclaimed) (has m.made) ls)) [
  | true ↦ ap (λ ks. to_keep m l ∷ ks) (by_tests m ls)
  | false ↦ by_tests m ls
]

-- the second test may say otherwise of other names
pub kept_still : (old young young' : Name → Bool) (ls : List Large) → AllByRecursion (λ l. young' l.name ≡ young l.name) ls → kept_by old young' ls ≡ kept_by old young ls
kept_still old young young' [] all = refl
kept_still old young young' (l ∷ ls) all =
    λ i. cond (old l.name || all.0 i) (as_kept (all.0 i) l ∷ kept_still old young young' ls all.1 i) (kept_still old young young' ls all.1 i)

-- one more name
pub kept_more : (old young : Name → Bool) (ls : List Large) (l : Large) → young l.name ≡ true → kept_by old young (ls ++ l ∷ []) ≡ kept_by old young ls ++ as_kept true l ∷ []
kept_more old young [] l is = elim (old l.name) as (λ b. cond (b || young l.name) (as_kept (young l.name) l ∷ []) [] ≡ as_kept true l ∷ []) [
  | true ↦ ap (λ b. as_kept b l ∷ []) is
  | false ↦ ap (λ b. cond b (as_kept b l ∷ []) []) is
]
kept_more old young (k ∷ ks) l is = elim (old k.name || young k.name) as (λ b. cond b (as_kept (young k.name) k ∷ kept_by old young (ks ++ l ∷ [])) (kept_by old young (ks ++ l ∷ []))
    ≡ cond b (as_kept (young k.name) k ∷ kept_by old young ks) (kept_by old young ks) ++ as_kept true l ∷ []) [
      | true ↦ ap (λ xs. as_kept (young k.name) k ∷ xs) (kept_more old young ks l is)
      | false ↦ kept_more old young ks l is
    ]

-- ---- facts of names

-- what holds of all large names holds of those that are kept
pub all_kept : (P : Name → Type 0) (old young : Name → Bool) (ls : List Large) → AllByRecursion (λ l. P l.name) ls → AllByRecursion (λ k. P k.name) (kept_by old young ls)
all_kept P old young [] all = tt
all_kept P old young (l ∷ ls) all = elim (old l.name || young l.name) as (λ b. AllByRecursion (λ k. P k.name) (cond b (as_kept (young l.name) l ∷ kept_by old young ls) (kept_by old young ls))) [
  | true ↦ (all.0, all_kept P old young ls all.1)
  | false ↦ all_kept P old young ls all.1
]

pub all_held : (P : Name → Type 0) (bs : List Body) → AllByRecursion (λ (k : Kept). P k.name) (map kept_of bs) → AllByRecursion (λ (b : Body). P b.name) bs
all_held P [] all = tt
all_held P (b ∷ bs) all = (all.0, all_held P bs all.1)

-- what holds of all large names holds of all bodies
pub held_names : (P : Name → Type 0) (m : Moment) (bs : List Body) (ls : List Large) → map kept_of bs ≡ map (to_keep m) (filter (is_kept m) ls) → AllByRecursion (λ (l : Large). P l.name) ls → AllByRecursion (λ (b : Body). P b.name) bs
held_names P m bs ls are all =
    all_held P bs (subst (AllByRecursion (λ (k : Kept). P k.name)) (sym (are ∙ by_tests m ls)) (all_kept P (has m.unreclaimed) (has m.made) ls all))

-- each kept name passes one of the tests
kept_pass : (old young : Name → Bool) (ls : List Large) → AllByRecursion (λ (k : Kept). (old k.name || young k.name) ≡ true) (kept_by old young ls)
kept_pass old young [] = tt
kept_pass old young (l ∷ ls) = elim (old l.name || young l.name) as (λ c. (old l.name || young l.name) ≡ c → AllByRecursion (λ (k : Kept). (old k.name || young k.name) ≡ true) (cond c (as_kept (young l.name) l ∷ kept_by old young ls) (kept_by old young ls))) [
  | true ↦ λ e. (e, kept_pass old young ls)
  | false ↦ λ e. kept_pass old young ls
] refl

-- so each body's name is kept
pub held_pass : (m : Moment) (bs : List Body) (ls : List Large) → map kept_of bs ≡ map (to_keep m) (filter (is_kept m) ls) → AllByRecursion (λ (b : Body). (has m.unreclaimed b.name || has m.made b.name) ≡ true) bs
held_pass m bs ls are =
    all_held (λ q. (has m.unreclaimed q || has m.made q) ≡ true) bs
    (subst (AllByRecursion (λ (k : Kept). (has m.unreclaimed k.name || has m.made k.name) ≡ true)) (sym (are ∙ by_tests m ls)) (kept_pass (has m.unreclaimed) (has m.made) ls))

-- ---- words

-- the words of a name, where it is kept
abbrev pub words_kept : List Kept → Name → Option (List ℕ)
words_kept [] n = None
words_kept (k ∷ ks) n = cond (same_name n k.name) (Some k.words) (words_kept ks n)

abbrev pub words_of : Option Body → Option (List ℕ)
words_of None = None
words_of (Some b) = Some b.words

words_held : (bs : List Body) (n : Name) → words_of (body_of bs n) ≡ words_kept (map kept_of bs) n
words_held [] n = refl
words_held (b ∷ bs) n = elim (same_name n b.name) as (λ c. words_of (cond c (Some b) (body_of bs n)) ≡ cond c (Some b.words) (words_kept (map kept_of bs) n)) [
  | true ↦ refl
  | false ↦ words_held bs n
]

words_large : (old young : Name → Bool) (n : Name) (ls : List Large) → (old n || young n) ≡ true → words_kept (kept_by old young ls) n ≡ large_of ls n
words_large old young n [] is = refl
words_large old young n (l ∷ ls) is = elim (same_name n l.name) as (λ c. same_name n l.name ≡ c → words_kept (kept_by old young (l ∷ ls)) n ≡ cond c (Some l.words) (large_of ls n)) [
  | true ↦ λ same.
      let kept : (old l.name || young l.name) ≡ true = subst (λ q. (old q || young q) ≡ true) (same_names n l.name same) is in
      ap (λ c. words_kept (cond c (as_kept (young l.name) l ∷ kept_by old young ls) (kept_by old young ls)) n) kept ∙ ap (λ c. cond c (Some l.words) (words_kept (kept_by old young ls) n)) same
  | false ↦ λ other. elim (old l.name || young l.name) as (λ c. words_kept (cond c (as_kept (young l.name) l ∷ kept_by old young ls) (kept_by old young ls)) n ≡ large_of ls n) [
    | true ↦ ap (λ c. cond c (Some l.words) (words_kept (kept_by old young ls) n)) other ∙ words_large old young n ls is
    | false ↦ words_large old young n ls is
  ]
] refl

word_held : (b : Option Body) (i : ℕ) → word_in b i ≡ word_of (words_of b) i
word_held None i = refl
word_held (Some b) i = refl

-- the words of the body of a kept name
pub words_same : (m : Moment) (bs : List Body) (ls : List Large) (n : Name) → map kept_of bs ≡ map (to_keep m) (filter (is_kept m) ls) → (has m.unreclaimed n || has m.made n) ≡ true → words_of (body_of bs n) ≡ large_of ls n
words_same m bs ls n are is = words_held bs n ∙ ap (λ ks. words_kept ks n) (are ∙ by_tests m ls) ∙ words_large (has m.unreclaimed) (has m.made) n ls is

-- a word of it
pub word_same : (m : Moment) (bs : List Body) (ls : List Large) (n : Name) (i : ℕ) → map kept_of bs ≡ map (to_keep m) (filter (is_kept m) ls) → (has m.unreclaimed n || has m.made n) ≡ true
    → word_at bs n i ≡ word_of (large_of ls n) i
word_same m bs ls n i are is =
    word_held (body_of bs n) i ∙ ap (λ ws. word_of ws i) (words_same m bs ls n are is)

-- ---- words that change

-- a kept body whose words are changed where it is that of a name
abbrev kept_changed : Name → (List ℕ → List ℕ) → Kept → Kept
kept_changed n change k = cond (same_name n k.name) (record k { words = change k.words }) k

head_held : (n : Name) (change : List ℕ → List ℕ) (b : Body) → kept_of (changed_at n change b) ≡ kept_changed n change (kept_of b)
head_held n change b = elim (same_name n b.name) as (λ c. kept_of (cond c (record b { words = change b.words }) b) ≡ cond c (record (kept_of b) { words = change b.words }) (kept_of b)) [ true ↦ refl | false ↦ refl ]

changed_held : (n : Name) (change : List ℕ → List ℕ) (bs : List Body) → map kept_of (with_words bs n change) ≡ map (kept_changed n change) (map kept_of bs)
changed_held n change [] = refl
changed_held n change (b ∷ bs) = λ i. head_held n change b i ∷ changed_held n change bs i

head_name : (n : Name) (change : List ℕ → List ℕ) (l : Large) → (large_changed n change l).name ≡ l.name
head_name n change l = elim (same_name n l.name) as (λ c. (cond c (record l { words = change l.words }) l).name ≡ l.name) [ true ↦ refl | false ↦ refl ]

head_large : (n : Name) (change : List ℕ → List ℕ) (young : Bool) (l : Large) → as_kept young (large_changed n change l) ≡ kept_changed n change (as_kept young l)
head_large n change young l = elim (same_name n l.name) as (λ c. as_kept young (cond c (record l { words = change l.words }) l) ≡ cond c (record (as_kept young l) { words = change l.words }) (as_kept young l)) [ true ↦ refl | false ↦ refl ]

changed_large : (old young : Name → Bool) (n : Name) (change : List ℕ → List ℕ) (ls : List Large) → kept_by old young (with_body ls n change) ≡ map (kept_changed n change) (kept_by old young ls)
changed_large old young n change [] = refl
changed_large old young n change (l ∷ ls) =
    let named = head_name n change l in
    (λ i. cond (old (named i) || young (named i)) (as_kept (young (named i)) (large_changed n change l) ∷ kept_by old young (with_body ls n change)) (kept_by old young (with_body ls n change)))
    ∙ elim (old l.name || young l.name) as (λ c. cond c (as_kept (young l.name) (large_changed n change l) ∷ kept_by old young (with_body ls n change)) (kept_by old young (with_body ls n change))
    ≡ map (kept_changed n change) (cond c (as_kept (young l.name) l ∷ kept_by old young ls) (kept_by old young ls))) [
      | true ↦ λ i. head_large n change (young l.name) l i ∷ changed_large old young n change ls i
      | false ↦ changed_large old young n change ls
    ]

-- the words of one name change
pub held_changed : (m : Moment) (n : Name) (change : List ℕ → List ℕ) (bs : List Body) (ls : List Large) → map kept_of bs ≡ map (to_keep m) (filter (is_kept m) ls)
    → map kept_of (with_words bs n change) ≡ map (to_keep m) (filter (is_kept m) (with_body ls n change))
held_changed m n change bs ls are =
    changed_held n change bs ∙ ap (map (kept_changed n change)) (are ∙ by_tests m ls) ∙ sym (changed_large (has m.unreclaimed) (has m.made) n change ls) ∙ sym (by_tests m (with_body ls n change))

-- ---- a body that is placed

-- one behind all others in the order of names stands at the end
pub placed_last : (b : Body) (bs : List Body) → AllByRecursion (λ (c : Body). rank_of c.name < rank_of b.name) bs → with_placed bs b ≡ bs ++ b ∷ []
placed_last b [] all = refl
placed_last b (c ∷ cs) all = let below = all.0 in let first : ltb (rank_of c.name) (rank_of b.name) ≡ true = lt-ltb _ _ below in ap (λ t. cond t (c ∷ with_placed cs b) (b ∷ c ∷ cs)) first ∙ ap (λ xs. c ∷ xs) (placed_last b cs all.1)

map_append : (bs : List Body) (b : Body) → map kept_of (bs ++ b ∷ []) ≡ map kept_of bs ++ kept_of b ∷ []
map_append [] b = refl
map_append (c ∷ cs) b = ap (λ ks. kept_of c ∷ ks) (map_append cs b)

-- a name that was made says nothing of others
pub made_still : (n : Name) (ms : List Name) (ls : List Large) → AllByRecursion (λ (l : Large). same_name l.name n ≡ false) ls → AllByRecursion (λ (l : Large). has (insert_name n ms) l.name ≡ has ms l.name) ls
made_still n ms [] all = tt
made_still n ms (l ∷ ls) all = (has-union (n ∷ []) ms l.name ∙ ap (λ b. (b || false) || has ms l.name) all.0, made_still n ms ls all.1)

-- the same bodies are held after a name was made that isn't large
pub held_still : (m k : Moment) (bs : List Body) (ls : List Large) → k.unreclaimed ≡ m.unreclaimed → AllByRecursion (λ (l : Large). has k.made l.name ≡ has m.made l.name) ls
    → map kept_of bs ≡ map (to_keep m) (filter (is_kept m) ls) → map kept_of bs ≡ map (to_keep k) (filter (is_kept k) ls)
held_still m k bs ls same young are =
    are ∙ by_tests m ls ∙ sym (kept_still (has m.unreclaimed) (has m.made) (has k.made) ls young) ∙ sym (ap (λ us. kept_by (has us) (has k.made) ls) same) ∙ sym (by_tests k ls)

-- a new body is held
pub held_more : (m k : Moment) (bs : List Body) (ls : List Large) (n : Name) (first blocks : ℕ) (words : List ℕ) → k.unreclaimed ≡ m.unreclaimed → k.made ≡ insert_name n m.made
    → AllByRecursion (λ (l : Large). (rank_of l.name < rank_of n) × (same_name l.name n ≡ false)) ls → (fresh n first blocks).words ≡ words
    → map kept_of bs ≡ map (to_keep m) (filter (is_kept m) ls)
    → map kept_of (with_placed bs (fresh n first blocks)) ≡ map (to_keep k) (filter (is_kept k) (ls ++ record { name = n; words = words } ∷ []))
held_more m k bs ls n first blocks words same made others zeros are =
    let b = fresh n first blocks in
    let l : Large = record { name = n; words = words } in
    let is_new : has k.made n ≡ true = ap (λ ns. has ns n) made ∙ has-union (n ∷ []) m.made n ∙ ap (λ b. (b || false) || has m.made n) (same_itself n) in
    let last = placed_last b bs (held_names (λ q. rank_of q < rank_of n) m bs ls are (firsts ls others)) in
    let still : AllByRecursion (λ (l : Large). has k.made l.name ≡ has m.made l.name) ls = subst (λ ns. AllByRecursion (λ (l : Large). has ns l.name ≡ has m.made l.name) ls) (sym made) (made_still n m.made ls (seconds ls others)) in
    ap (map kept_of) last ∙ map_append bs b ∙ (λ i. (are ∙ by_tests m ls) i ++ record { name = n; words = zeros i; young = true } ∷ [])
    ∙ ap (λ ks. ks ++ as_kept true l ∷ []) (sym (kept_still (has m.unreclaimed) (has m.made) (has k.made) ls still))
    ∙ sym (kept_more (has m.unreclaimed) (has k.made) ls l is_new) ∙ sym (ap (λ us. kept_by (has us) (has k.made) (ls ++ l ∷ [])) same) ∙ sym (by_tests k (ls ++ l ∷ []))
  where
    firsts : (ls : List Large) → AllByRecursion (λ (l : Large). (rank_of l.name < rank_of n) × (same_name l.name n ≡ false)) ls → AllByRecursion (λ (l : Large). rank_of l.name < rank_of n) ls
    firsts [] all = tt
    firsts (l ∷ ls) all = (all.0.0, firsts ls all.1)

    seconds : (ls : List Large) → AllByRecursion (λ (l : Large). (rank_of l.name < rank_of n) × (same_name l.name n ≡ false)) ls → AllByRecursion (λ (l : Large). same_name l.name n ≡ false) ls
    seconds [] all = tt
    seconds (l ∷ ls) all = (all.0.1, seconds ls all.1)

-- ---- pauses

-- a pause leaves a body, by what the report tells of its name and whether it is young
abbrev stays_by : PauseReport → Name → Bool → Bool
stays_by r n young = not (has r.swept n) && (not (has r.dead n) && (has r.promoted n || not young))

-- what a pause leaves of kept bodies
abbrev settled_by : PauseReport → List Kept → List Kept
settled_by r [] = []
settled_by r (k ∷ ks) = cond (stays_by r k.name k.young) (record k { young = false } ∷ settled_by r ks) (settled_by r ks)

left_held : (r : PauseReport) (bs : List Body) → map kept_of (left_by r bs) ≡ settled_by r (map kept_of bs)
left_held r [] = refl
left_held r (b ∷ bs) = elim (stays r b) as (λ c. map kept_of (map settled (cond c (b ∷ filter (stays r) bs) (filter (stays r) bs))) ≡ cond c (record (kept_of b) { young = false } ∷ settled_by r (map kept_of bs)) (settled_by r (map kept_of bs))) [
  | true ↦ ap (λ ks. record (kept_of b) { young = false } ∷ ks) (left_held r bs)
  | false ↦ left_held r bs
]

-- What a pause keeps of a name: by whether it was promoted, old, young, dead and swept. What is promoted is young, and nothing young is old.
one_name : (promoted old young dead swept : Bool) → (promoted ≡ true → young ≡ true) → (young ≡ true → old ≡ false)
    → cond (old || young) (not swept && (not dead && (promoted || not young))) false ≡ ((((promoted || old) && not dead) && not swept) || false)
one_name true true true dead swept first second = let no : true ≡ false = second refl in absurd (cc)
one_name true true false dead swept first second = let no : false ≡ true = first refl in absurd (cc)
one_name true false false dead swept first second = let no : false ≡ true = first refl in absurd (cc)
one_name false true true dead swept first second = let no : true ≡ false = second refl in absurd (cc)
one_name true false true true true first second = refl
one_name true false true true false first second = refl
one_name true false true false true first second = refl
one_name true false true false false first second = refl
one_name false true false true true first second = refl
one_name false true false true false first second = refl
one_name false true false false true first second = refl
one_name false true false false false first second = refl
one_name false false true true true first second = refl
one_name false false true true false first second = refl
one_name false false true false true first second = refl
one_name false false true false false first second = refl
one_name false false false true true first second = refl
one_name false false false true false first second = refl
one_name false false false false true first second = refl
one_name false false false false false first second = refl

settle_head : (r : PauseReport) (c : Bool) (k : Kept) (ks : List Kept) → settled_by r (cond c (k ∷ ks) ks) ≡ cond (cond c (stays_by r k.name k.young) false) (record k { young = false } ∷ settled_by r ks) (settled_by r ks)
settle_head r true k ks = refl
settle_head r false k ks = refl

-- which names are unreclaimed after a pause
old_after : (m : Moment) (r : PauseReport) (n : Name) → has (unreclaimed_after m r) n ≡ (((has r.promoted n || has m.unreclaimed n) && not (has r.dead n)) && not (has r.swept n))
old_after m r n =
    has-without (without (union r.promoted m.unreclaimed) r.dead) r.swept n
    ∙ ap (λ b. b && not (has r.swept n)) (has-without (union r.promoted m.unreclaimed) r.dead n ∙ ap (λ b. b && not (has r.dead n)) (has-union r.promoted m.unreclaimed n))

settled_kept : (m : Moment) (r : PauseReport) (ls : List Large) → ((n : Name) → has r.promoted n ≡ true → has m.made n ≡ true) → ((n : Name) → has m.made n ≡ true → has m.unreclaimed n ≡ false)
    → settled_by r (kept_by (has m.unreclaimed) (has m.made) ls) ≡ kept_by (has (unreclaimed_after m r)) (has []) ls
settled_kept m r [] young apart = refl
settled_kept m r (l ∷ ls) young apart =
    let n = l.name in
    let one : cond (has m.unreclaimed n || has m.made n) (stays_by r n (has m.made n)) false ≡ (has (unreclaimed_after m r) n || false) =
    one_name (has r.promoted n) (has m.unreclaimed n) (has m.made n) (has r.dead n) (has r.swept n) (young n) (apart n) ∙ sym (ap (λ b. b || false) (old_after m r n)) in
    settle_head r (has m.unreclaimed n || has m.made n) (as_kept (has m.made n) l) (kept_by (has m.unreclaimed) (has m.made) ls)
    ∙ (λ i. cond (one i) (as_kept false l ∷ settled_kept m r ls young apart i) (settled_kept m r ls young apart i))

-- what is held after a pause
pub held_paused : (m k : Moment) (r : PauseReport) (bs : List Body) (ls : List Large) → k.unreclaimed ≡ unreclaimed_after m r → k.made ≡ [] → ((n : Name) → has r.promoted n ≡ true → has m.made n ≡ true)
    → ((n : Name) → has m.made n ≡ true → has m.unreclaimed n ≡ false) → map kept_of bs ≡ map (to_keep m) (filter (is_kept m) ls) → map kept_of (left_by r bs) ≡ map (to_keep k) (filter (is_kept k) ls)
held_paused m k r bs ls old none young apart are =
    left_held r bs ∙ ap (settled_by r) (are ∙ by_tests m ls) ∙ settled_kept m r ls young apart
    ∙ (λ i. kept_by (has (sym old i)) (has (sym none i)) ls) ∙ sym (by_tests k ls)
