-- Entries in order of names: what is found by halves, and what an entry that is put in its place changes.
use Rattle.std.proofs.Common.{◌≡◌, ◌≢◌, ℕ, zero, suc, ◌+◌, ◌^◌, ◌<◌, ◌≤◌, ◌⊎◌, inl, inr, refl, sym, ap, ◌∙◌, arith, Bool, true, false, cond, List, [], ◌∷◌, ◌++◌, length, set, take, drop, map, filter, Option, Some, None, ltb, ◌||◌, subst}
use Rattle.std.specs.Prelude.{slice_get}
use Rattle.std.specs.List.{AllByRecursion}
use Rattle.std.proofs.lemmas.Bool.{lt-ltb, ltb-true}
use Rattle.lxr_layout.specs.declared.Name.{Name}
use Rattle.lxr_graph.specs.Names.{has, same_name}
use Rattle.lxr_graph.proofs.NameSets.{same_names}
use Rattle.lxr_large_bodies.specs.declared.entries.Entry.{Entry}
use Rattle.lxr_large_bodies.specs.Bodies.{rank_of}
use Rattle.lxr_large_bodies.specs.Entries.{AreSorted, ComesBefore, IsEntry, IsLowerBound, entry_of, inserted, settled_where}

-- ---- lists

pub all_filter : {X : Type 0} (P : X → Type 0) (test : X → Bool) (xs : List X) → AllByRecursion P xs → AllByRecursion P (filter test xs)
all_filter P test [] all = tt
all_filter P test (x ∷ xs) all = elim (test x) as (λ b. AllByRecursion P (cond b (x ∷ filter test xs) (filter test xs))) [
  | true ↦ (all.0, all_filter P test xs all.1)
  | false ↦ all_filter P test xs all.1
]

pub all_weaken : {X : Type 0} (P Q : X → Type 0) → ((x : X) → P x → Q x) → (xs : List X) → AllByRecursion P xs → AllByRecursion Q xs
all_weaken P Q more [] all = tt
all_weaken P Q more (x ∷ xs) all = (more x all.0, all_weaken P Q more xs all.1)

pub all_get : {X : Type 0} (P : X → Type 0) (xs : List X) (k : ℕ) (x : X) → AllByRecursion P xs → slice_get xs k ≡ Some x → P x
all_get P [] k x all e = cc
all_get P (y ∷ ys) zero x all e = let same : y ≡ x = cc in subst P same all.0
all_get P (y ∷ ys) (suc k) x all e = all_get P ys k x all.1 e

-- what is read past all entries
abbrev pub nobody : Entry
nobody = record { name = record { thread = 0; serial = 0 }; first = 0; blocks = 0; settled = false }

-- ---- names by rank

pub rank_apart : (n m : Name) → rank_of n ≢ rank_of m → same_name n m ≡ false
rank_apart n m other = grind arith

pub rank_same : (n m : Name) → n.serial < 2 ^ 32 → m.serial < 2 ^ 32 → rank_of n ≡ rank_of m → same_name n m ≡ true
rank_same n m few few' same =
    let serial : n.serial ≡ m.serial = omega (arith, few, few', same) in
    let thread : n.thread ≡ m.thread = omega (arith, few, few', same) in
    grind arith

pub same_rank : (n m : Name) → same_name n m ≡ true → rank_of n ≡ rank_of m
same_rank n m same = ap rank_of (same_names n m same)

-- ---- entries in order

pub sorted_get : (es : List Entry) (i j : ℕ) (e f : Entry) → AreSorted es → i < j → slice_get es i ≡ Some e → slice_get es j ≡ Some f → ComesBefore e f
sorted_get [] i j e f sorted lt p q = cc
sorted_get (x ∷ xs) zero zero e f sorted lt p q = absurd (omega (arith, lt))
sorted_get (x ∷ xs) zero (suc j) e f sorted lt p q = let same : x ≡ e = cc in subst (λ x. ComesBefore x f) same (all_get (ComesBefore x) xs j f sorted.1 q)
sorted_get (x ∷ xs) (suc i) zero e f sorted lt p q = absurd (omega (arith, lt))
sorted_get (x ∷ xs) (suc i) (suc j) e f sorted lt p q = sorted_get xs i j e f sorted.2 (omega (arith, lt)) p q

pub sorted_entry : (es : List Entry) (k : ℕ) (e : Entry) → AreSorted es → slice_get es k ≡ Some e → IsEntry e
sorted_entry [] k e sorted p = cc
sorted_entry (x ∷ xs) zero e sorted p = let same : x ≡ e = cc in subst IsEntry same sorted.0
sorted_entry (x ∷ xs) (suc k) e sorted p = sorted_entry xs k e sorted.2 p

pub sorted_filter : (test : Entry → Bool) (es : List Entry) → AreSorted es → AreSorted (filter test es)
sorted_filter test [] sorted = tt
sorted_filter test (x ∷ xs) sorted = elim (test x) as (λ b. AreSorted (cond b (x ∷ filter test xs) (filter test xs))) [
  | true ↦ (sorted.0, all_filter (ComesBefore x) test xs sorted.1, sorted_filter test xs sorted.2)
  | false ↦ sorted_filter test xs sorted.2
]

before_where : (ns : List Name) (value : Bool) (e : Entry) (es : List Entry) → AllByRecursion (ComesBefore e) es → AllByRecursion (ComesBefore (settled_where ns value e)) (map (settled_where ns value) es)
before_where ns value e [] all = tt
before_where ns value e (f ∷ fs) all = (record { before = all.0.before; apart = all.0.apart }, before_where ns value e fs all.1)

pub sorted_where : (ns : List Name) (value : Bool) (es : List Entry) → AreSorted es → AreSorted (map (settled_where ns value) es)
sorted_where ns value [] sorted = tt
sorted_where ns value (e ∷ es) sorted = (record { serial = sorted.0.serial; some = sorted.0.some }, before_where ns value e es sorted.1, sorted_where ns value es sorted.2)

-- ---- found by halves

-- of the entries below one index all stand before a rank, and of those from another on none does
pub record Halves (es : List Entry) (rank from end : ℕ) : Type 0 where
  pub upwards : from ≤ end
  pub within : end ≤ length es
  pub below : (k : ℕ) (e : Entry) → k < from → slice_get es k ≡ Some e → rank_of e.name < rank
  pub above : (k : ℕ) (e : Entry) → end ≤ k → slice_get es k ≡ Some e → rank ≤ rank_of e.name

ordered : (k at : ℕ) → (k < at) ⊎ ((k ≡ at) ⊎ (at < k))
ordered k at = grind arith

pub halves_first : (es : List Entry) (rank : ℕ) → Halves es rank 0 (length es)
halves_first es rank = record {
  upwards = omega arith;
  within = omega arith;
  below = λ k e lt p. absurd (omega (arith, lt));
  above = λ k e le p. absurd (past es k e le p);
}
  where
    past : (es : List Entry) (k : ℕ) (e : Entry) → length es ≤ k → slice_get es k ≡ Some e → ⊥
    past [] k e le p = cc
    past (x ∷ xs) zero e le p = absurd (omega (arith, le))
    past (x ∷ xs) (suc k) e le p = past xs k e (omega (arith, le)) p

pub halves_upper : (es : List Entry) (rank from end middle : ℕ) (x : Entry) → AreSorted es → from ≤ middle → middle < end → slice_get es middle ≡ Some x → rank_of x.name < rank
    → Halves es rank from end → Halves es rank (middle + 1) end
halves_upper es rank from end middle x sorted le lt is less so_far = record {
  upwards = omega (arith, lt);
  within = so_far.within;
  below = λ k e under p. below k e p (ordered k middle) under;
  above = so_far.above;
}
  where
    below : (k : ℕ) (e : Entry) → slice_get es k ≡ Some e → (k < middle) ⊎ ((k ≡ middle) ⊎ (middle < k)) → k < middle + 1 → rank_of e.name < rank
    below k e p (inl earlier) under = let step = (sorted_get es k middle e x sorted earlier p is).before in omega (arith, step, less)
    below k e p (inr (inl same)) under = let equal : e ≡ x = cc in subst (λ e. rank_of e.name < rank) (sym equal) less
    below k e p (inr (inr later)) under = absurd (omega (arith, later, under))

pub halves_lower : (es : List Entry) (rank from end middle : ℕ) (x : Entry) → AreSorted es → from ≤ middle → middle < end → slice_get es middle ≡ Some x → rank ≤ rank_of x.name
    → Halves es rank from end → Halves es rank from middle
halves_lower es rank from end middle x sorted le lt is more so_far =
    let within = so_far.within in
    record {
      upwards = le;
      within = omega (arith, lt, within);
      below = so_far.below;
      above = λ k e from_here p. above k e p (ordered k middle) from_here;
    }
  where
    above : (k : ℕ) (e : Entry) → slice_get es k ≡ Some e → (k < middle) ⊎ ((k ≡ middle) ⊎ (middle < k)) → middle ≤ k → rank ≤ rank_of e.name
    above k e p (inl earlier) from_here = absurd (omega (arith, earlier, from_here))
    above k e p (inr (inl same)) from_here = let equal : e ≡ x = cc in subst (λ e. rank ≤ rank_of e.name) (sym equal) more
    above k e p (inr (inr later)) from_here = let step = (sorted_get es middle k x e sorted later is p).before in omega (arith, step, more)

pub halves_bound : (es : List Entry) (rank from end : ℕ) → end ≤ from → Halves es rank from end → IsLowerBound es rank from
halves_bound es rank from end met so_far =
    let upwards = so_far.upwards in
    let within = so_far.within in
    record {
      within = omega (arith, upwards, within, met);
      below = so_far.below;
      above = λ k e le p. so_far.above k e (omega (arith, le, met)) p;
    }

-- ---- the entry of a name

pub entry_at : (es : List Entry) (n : Name) (at : ℕ) (e : Entry) → n.serial < 2 ^ 32 → AreSorted es → IsLowerBound es (rank_of n) at → slice_get es at ≡ Some e → rank_of e.name ≡ rank_of n → entry_of es n ≡ Some e
entry_at es n at e few sorted bound is same = find es at (rank_same n e.name few (sorted_entry es at e sorted is).serial (sym same)) is (λ k f lt p. bound.below k f lt p)
  where
    find : (es : List Entry) (at : ℕ) → same_name n e.name ≡ true → slice_get es at ≡ Some e → ((k : ℕ) (f : Entry) → k < at → slice_get es k ≡ Some f → rank_of f.name < rank_of n) → entry_of es n ≡ Some e
    find [] at hit is below = cc
    find (x ∷ xs) zero hit is below = let equal : x ≡ e = cc in rw (equal, hit) refl
    find (x ∷ xs) (suc at) hit is below =
        let less = below 0 x (omega arith) refl in
        let miss = rank_apart n x.name (λ equal. absurd (omega (arith, less, equal))) in
        rw miss (find xs at hit is (λ k f lt p. below (suc k) f (omega (arith, lt)) p))

pub no_entry : (es : List Entry) (n : Name) → ((k : ℕ) (f : Entry) → slice_get es k ≡ Some f → rank_of f.name ≢ rank_of n) → entry_of es n ≡ None
no_entry [] n none = refl
no_entry (x ∷ xs) n none =
    let miss = rank_apart n x.name (λ equal. none 0 x refl (sym equal)) in
    rw miss (no_entry xs n (λ k f p. none (suc k) f p))

-- none of the name where the first that doesn't stand before it is of another
pub none_at : (es : List Entry) (n : Name) (at : ℕ) → AreSorted es → IsLowerBound es (rank_of n) at → ((e : Entry) → slice_get es at ≡ Some e → rank_of e.name ≢ rank_of n)
    → (k : ℕ) (f : Entry) → slice_get es k ≡ Some f → rank_of f.name ≢ rank_of n
none_at es n at sorted bound other k f p equal = cases (ordered k at)
  where
    beyond : (at' : Option Entry) → slice_get es at ≡ at' → at < k → ⊥
    beyond None miss later = gap es at k f miss later p
      where
        gap : (es : List Entry) (at k : ℕ) (f : Entry) → slice_get es at ≡ None → at < k → slice_get es k ≡ Some f → ⊥
        gap [] at k f miss later p = cc
        gap (x ∷ xs) zero k f miss later p = cc
        gap (x ∷ xs) (suc at) zero f miss later p = absurd (omega (arith, later))
        gap (x ∷ xs) (suc at) (suc k) f miss later p = gap xs at k f miss (omega (arith, later)) p
    beyond (Some e) is later =
        let step = (sorted_get es at k e f sorted later is p).before in
        let least = bound.above at e (omega arith) is in
        absurd (omega (arith, step, least, equal))

    cases : (k < at) ⊎ ((k ≡ at) ⊎ (at < k)) → ⊥
    cases (inl earlier) = let less = bound.below k f earlier p in absurd (omega (arith, less, equal))
    cases (inr (inl same)) = other f (ap (slice_get es) (sym same) ∙ p) equal
    cases (inr (inr later)) = beyond (slice_get es at) refl later

-- what holds of all entries holds of that of a name
pub all_found : (P : Entry → Type 0) (es : List Entry) (n : Name) (e : Entry) → AllByRecursion P es → entry_of es n ≡ Some e → P e
all_found P [] n e all found = cc
all_found P (x ∷ xs) n e all found = elim (same_name n x.name) as (λ b. cond b (Some x) (entry_of xs n) ≡ Some e → P e) [
  | true ↦ λ is. let same : x ≡ e = cc in subst P same all.0
  | false ↦ λ is. all_found P xs n e all.1 is
] found

-- ---- an entry in its place

pub inserted_at : (es : List Entry) (e : Entry) (at : ℕ) → IsLowerBound es (rank_of e.name) at → inserted es e ≡ take at es ++ e ∷ drop at es
inserted_at [] e zero bound = refl
inserted_at [] e (suc at) bound = let le = bound.within in absurd (omega (arith, le))
inserted_at (x ∷ xs) e zero bound =
    let le = bound.above 0 x (omega arith) refl in
    let miss : ltb (rank_of x.name) (rank_of e.name) ≡ false = grind (arith, le) in
    rw miss refl
inserted_at (x ∷ xs) e (suc at) bound =
    let lt = bound.below 0 x (omega arith) refl in
    let le = bound.within in
    rw (lt-ltb (rank_of x.name) (rank_of e.name) lt) (ap (λ (ys : List Entry). x ∷ ys) (inserted_at xs e at (record {
      within = omega (arith, le);
      below = λ k f under p. bound.below (suc k) f (omega (arith, under)) p;
      above = λ k f over p. bound.above (suc k) f (omega (arith, over)) p;
    })))

pub inserted_all : (P : Entry → Type 0) (es : List Entry) (e : Entry) → P e → AllByRecursion P es → AllByRecursion P (inserted es e)
inserted_all P [] e one all = (one, tt)
inserted_all P (x ∷ xs) e one all = elim (ltb (rank_of x.name) (rank_of e.name)) as (λ b. AllByRecursion P (cond b (x ∷ inserted xs e) (e ∷ x ∷ xs))) [
  | true ↦ (all.0, inserted_all P xs e one all.1)
  | false ↦ (one, all)
]

-- an entry shares no block with another
abbrev pub LieApart : Entry → Entry → Type 0
LieApart e f = (e.first + e.blocks ≤ f.first) ⊎ (f.first + f.blocks ≤ e.first)

pub apart_turned : (e f : Entry) → LieApart e f → LieApart f e
apart_turned e f (inl le) = inr le
apart_turned e f (inr le) = inl le

-- an entry whose name none has, and whose blocks none has
pub record IsNewEntry (es : List Entry) (e : Entry) : Type 0 where
  pub entry : IsEntry e
  pub other : AllByRecursion (λ f. rank_of f.name ≢ rank_of e.name) es
  pub apart : AllByRecursion (λ f. LieApart f e) es

all_behind : (e : Entry) (x : Entry) (xs : List Entry) → rank_of e.name < rank_of x.name → AllByRecursion (ComesBefore x) xs → AllByRecursion (λ f. LieApart f e) xs → AllByRecursion (ComesBefore e) xs
all_behind e x [] lt sorted apart = tt
all_behind e x (y ∷ ys) lt sorted apart = let step = sorted.0.before in (record { before = omega (arith, lt, step); apart = apart_turned y e apart.0 }, all_behind e x ys lt sorted.1 apart.1)

pub inserted_sorted : (es : List Entry) (e : Entry) → IsNewEntry es e → AreSorted es → AreSorted (inserted es e)
inserted_sorted [] e new sorted = (new.entry, tt, tt)
inserted_sorted (x ∷ xs) e new sorted = elim (ltb (rank_of x.name) (rank_of e.name)) as (λ b. ltb (rank_of x.name) (rank_of e.name) ≡ b → AreSorted (cond b (x ∷ inserted xs e) (e ∷ x ∷ xs))) [
  | true ↦ λ is. (
    sorted.0,
    inserted_all (ComesBefore x) xs e (record { before = ltb-true _ _ is; apart = new.apart.0 }) sorted.1,
    inserted_sorted xs e (record { entry = new.entry; other = new.other.1; apart = new.apart.1 }) sorted.2,
  )
  | false ↦ λ is.
      let other = new.other.0 in
      let lt : rank_of e.name < rank_of x.name = grind (arith, is, other) in
      (new.entry, (record { before = lt; apart = apart_turned x e new.apart.0 }, all_behind e x xs lt sorted.1 new.apart.1), sorted)
] refl

-- ---- settling

settled_other : (n : Name) (value : Bool) (e : Entry) → same_name e.name n ≡ false → settled_where (n ∷ []) value e ≡ e
settled_other n value e miss = rw miss refl

settled_same : (n : Name) (value : Bool) (e : Entry) → same_name e.name n ≡ true → settled_where (n ∷ []) value e ≡ record e { settled = value }
settled_same n value e hit = rw hit refl

pub settle_none : (es : List Entry) (n : Name) (value : Bool) → ((k : ℕ) (f : Entry) → slice_get es k ≡ Some f → rank_of f.name ≢ rank_of n) → map (settled_where (n ∷ []) value) es ≡ es
settle_none [] n value none = refl
settle_none (x ∷ xs) n value none =
    let head = settled_other n value x (rank_apart x.name n (none 0 x refl)) in
    let tail = settle_none xs n value (λ k f p. none (suc k) f p) in
    rw (head, tail) refl

pub settle_at : (es : List Entry) (n : Name) (value : Bool) (at : ℕ) (e : Entry) → n.serial < 2 ^ 32 → AreSorted es → slice_get es at ≡ Some e → rank_of e.name ≡ rank_of n
    → set es at (record e { settled = value }) ≡ map (settled_where (n ∷ []) value) es
settle_at [] n value at e few sorted is same = cc
settle_at (x ∷ xs) n value zero e few sorted is same =
    let equal : x ≡ e = cc in
    let hit = rank_same e.name n (subst IsEntry equal sorted.0).serial few same in
    let tail = settle_none xs n value (λ k f p. let step = (all_get (ComesBefore x) xs k f sorted.1 p).before in λ hit. absurd (omega (arith, step, hit, same, ap (λ (e : Entry). rank_of e.name) equal))) in
    rw (equal, settled_same n value e hit, tail) refl
settle_at (x ∷ xs) n value (suc at) e few sorted is same =
    let step = (all_get (ComesBefore x) xs at e sorted.1 is).before in
    let head = settled_other n value x (rank_apart x.name n (λ hit. absurd (omega (arith, step, hit, same)))) in
    rw (head, sym (settle_at xs n value at e few sorted.2 is same)) refl

chosen : (a b value old : Bool) → cond (a || b) value old ≡ cond b value (cond (a || false) value old)
chosen true true value old = refl
chosen true false value old = refl
chosen false true value old = refl
chosen false false value old = refl

pub settle_more : (n : Name) (ns : List Name) (value : Bool) (es : List Entry) → map (settled_where ns value) (map (settled_where (n ∷ []) value) es) ≡ map (settled_where (n ∷ ns) value) es
settle_more n ns value [] = refl
settle_more n ns value (e ∷ es) =
    let one : settled_where ns value (settled_where (n ∷ []) value e) ≡ settled_where (n ∷ ns) value e = ap (λ (s : Bool). record e { settled = s }) (sym (chosen (same_name e.name n) (has ns e.name) value e.settled)) in
    rw (one, settle_more n ns value es) refl

pub settle_nobody : (value : Bool) (es : List Entry) → map (settled_where [] value) es ≡ es
settle_nobody value [] = refl
settle_nobody value (e ∷ es) = ap (λ (fs : List Entry). e ∷ fs) (settle_nobody value es)
