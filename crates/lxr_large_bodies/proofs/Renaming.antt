-- Entries keep their order under new names, and stand for the bodies under new names.
use Rattle.std.proofs.Common.{◌≡◌, ℕ, zero, suc, ◌+◌, ◌-◌, ◌*◌, ◌^◌, ◌<◌, ◌≤◌, inl, inr, ◌⊎◌, refl, sym, ap, subst, ◌∙◌, arith, Bool, List, [], ◌∷◌, IsTrue, length, get_or, set, map, Some}
use Rattle.std.specs.Prelude.{◌||◌, slice_get}
use Rattle.std.specs.List.{AllByRecursion, list_any}
use Rattle.std.specs.declared.cmp.Ordering.TheVariants.{Less}
use Rattle.std.proofs.lemmas.Bool.Decides.{nat_tests}
use Rattle.lxr_layout.specs.declared.Name.{Name}
use Rattle.lxr_graph.specs.declared.report.Count.{Count}
use Rattle.lxr_graph.specs.Names.{AreInOrder, has, name_order}
use Rattle.lxr_graph.specs.State.{world_name}
use Rattle.lxr_graph.specs.Renewing.{renewed_name, serial_in}
use Rattle.lxr_large_model.specs.Renewing.{AreCounted, counted_name}
use Rattle.lxr_large_model.proofs.SerialLemmas.{first_is_world, other_is_renewed, serial_less, serial_some, serial_tells}
use Rattle.lxr_large_bodies.specs.declared.entries.Entry.{Entry}
use Rattle.lxr_large_bodies.specs.Blocks.{AreTaken, AreWithin, block_count, covers}
use Rattle.lxr_large_bodies.specs.Bodies.{Body, rank_of, renamed}
use Rattle.lxr_large_bodies.specs.Entries.{AreSorted, ComesBefore, IsEntry, body_at, renamed_entry}
use Rattle.lxr_large_bodies.proofs.Sorted.{nobody}

-- ---- one entry after another

-- the first entries under new names
abbrev pub renamed_first : ℕ → (Entry → Entry) → List Entry → List Entry
renamed_first zero f es = es
renamed_first (suc k) f [] = []
renamed_first (suc k) f (e ∷ es) = f e ∷ renamed_first k f es

pub first_length : (k : ℕ) (f : Entry → Entry) (es : List Entry) → length (renamed_first k f es) ≡ length es
first_length zero f es = refl
first_length (suc k) f [] = refl
first_length (suc k) f (e ∷ es) = ap suc (first_length k f es)

-- the next one is what it was
pub next_same : (k : ℕ) (f : Entry → Entry) (es : List Entry) → get_or (renamed_first k f es) k nobody ≡ get_or es k nobody
next_same zero f es = refl
next_same (suc k) f [] = refl
next_same (suc k) f (e ∷ es) = next_same k f es

pub next_renamed : (k : ℕ) (f : Entry → Entry) (es : List Entry) → k < length es → set (renamed_first k f es) k (f (get_or es k nobody)) ≡ renamed_first (suc k) f es
next_renamed zero f [] lt = absurd (omega (arith, lt))
next_renamed zero f (e ∷ es) lt = refl
next_renamed (suc k) f [] lt = absurd (omega (arith, lt))
next_renamed (suc k) f (e ∷ es) lt = ap (λ z. f e ∷ z) (next_renamed k f es (omega (arith, lt)))

pub all_renamed : (k : ℕ) (f : Entry → Entry) (es : List Entry) → length es ≤ k → renamed_first k f es ≡ map f es
all_renamed zero f [] le = refl
all_renamed zero f (e ∷ es) le = absurd (omega (arith, le))
all_renamed (suc k) f [] le = refl
all_renamed (suc k) f (e ∷ es) le = ap (λ z. f e ∷ z) (all_renamed k f es (omega (arith, le)))

pub all_get_or : (P : Entry → Type 0) (es : List Entry) (k : ℕ) → k < length es → AllByRecursion P es → P (get_or es k nobody)
all_get_or P [] k lt all = absurd (omega (arith, lt))
all_get_or P (e ∷ es) zero lt all = all.0
all_get_or P (e ∷ es) (suc k) lt all = all_get_or P es k (omega (arith, lt)) all.1

-- ---- order

-- a name of lower rank comes before the other
before_by_rank : (a b : Name) → a.serial < 2 ^ 32 → b.serial < 2 ^ 32 → rank_of a < rank_of b → name_order a b ≡ Less
before_by_rank a b h k lt = grind (arith, nat_tests)

-- A new name's rank is where the old one stands among all; the world's is 0.
record RankIs (ns : List Name) (n : Name) : Type 0 where
  rank : ((serial_in (world_name ∷ ns) n ≡ 1) × (rank_of (renewed_name ns n) ≡ 0)) ⊎ ((2 ≤ serial_in (world_name ∷ ns) n) × (rank_of (renewed_name ns n) ≡ serial_in (world_name ∷ ns) n - 1 + 2 ^ 32))
  serial : (renewed_name ns n).serial < 2 ^ 32

rank_is : (ns : List Name) (n : Name) → length ns < 2 ^ 32 → IsTrue (has (world_name ∷ ns) n) → RankIs ns n
rank_is ns n few h = by_place (serial_in (world_name ∷ ns) n) refl
  where
    by_place : (at : ℕ) → at ≡ serial_in (world_name ∷ ns) n → RankIs ns n
    by_place zero e = let some = serial_some (world_name ∷ ns) n in absurd (omega (arith, e, some))
    by_place (suc zero) e =
        let there : Some world_name ≡ Some n = ap (λ i. slice_get (world_name ∷ ns) (i - 1)) e ∙ (serial_tells (world_name ∷ ns) n h).1 in
        let is : world_name ≡ n = cc in
        let same : renewed_name ns n ≡ world_name = first_is_world ns n e ∙ sym is in
        record { rank = inl (sym e, ap rank_of same); serial = subst (λ (q : Name). q.serial < 2 ^ 32) (sym same) (omega arith) }
    by_place (suc (suc at)) e =
        let le = (serial_tells (world_name ∷ ns) n h).0 in
        let new : renewed_name ns n ≡ record { thread = 1; serial = suc at } = other_is_renewed ns n (suc at) (omega arith) (omega (arith, e)) in
        record {
          rank = inr (omega (arith, e), (let k = ap rank_of new in omega (arith, k, e)));
          serial = subst (λ (q : Name). q.serial < 2 ^ 32) (sym new) (omega (arith, le, e, few));
        }

-- new names stand in the order of the old ones
rank_less : (ns : List Name) (a b : Name) → AreInOrder (world_name ∷ ns) → length ns < 2 ^ 32 → a.serial < 2 ^ 32 → b.serial < 2 ^ 32 → IsTrue (has (world_name ∷ ns) a) → IsTrue (has (world_name ∷ ns) b)
    → rank_of a < rank_of b → rank_of (renewed_name ns a) < rank_of (renewed_name ns b)
rank_less ns a b o few h k in_a in_b lt =
    let less = serial_less (world_name ∷ ns) a b o in_a in_b (before_by_rank a b h k lt) in
    elim (rank_is ns a few in_a).rank [
      | inl first ↦ elim (rank_is ns b few in_b).rank [
        | inl same ↦ let p = first.0 in let q = same.0 in absurd (omega (arith, p, q, less))
        | inr later ↦ let p = first.1 in let q = later.1 in omega (arith, p, q)
      ]
      | inr later ↦ elim (rank_is ns b few in_b).rank [
        | inl first ↦ let p = later.0 in let q = first.0 in absurd (omega (arith, p, q, less))
        | inr more ↦ let p = later.1 in let q = more.1 in let some = later.0 in omega (arith, p, q, less, some)
      ]
    ]

-- ---- entries and bodies

-- the entries are those of names that are left
abbrev pub AreLeft : List Name → List Entry → Type 0
AreLeft ns es = AllByRecursion (λ (e : Entry). IsTrue (has (world_name ∷ ns) e.name)) es

module _ (counts : List Count) (ns : List Name) (are : AreCounted counts ns) where
  before_renamed : (e : Entry) (es : List Entry) → IsEntry e → AreSorted es → IsTrue (has (world_name ∷ ns) e.name) → AreLeft ns es → AllByRecursion (ComesBefore e) es → AllByRecursion (ComesBefore (renamed_entry ns e)) (map (renamed_entry ns) es)
  before_renamed e [] entry sorted h left all = tt
  before_renamed e (f ∷ fs) entry sorted h left all = (
    record { before = rank_less ns e.name f.name are.order are.few entry.serial sorted.0.serial h left.0 all.0.before; apart = all.0.apart },
    before_renamed e fs entry sorted.2 h left.1 all.1,
  )

  pub sorted_renamed : (es : List Entry) → AreLeft ns es → AreSorted es → AreSorted (map (renamed_entry ns) es)
  sorted_renamed [] left sorted = tt
  sorted_renamed (e ∷ es) left sorted = (
    record { serial = (rank_is ns e.name are.few left.0).serial; some = sorted.0.some },
    before_renamed e es sorted.0 sorted.2 left.0 left.1 sorted.1,
    sorted_renamed es left.1 sorted.2,
  )

  pub within_renamed : (blocks : ℕ) (es : List Entry) → AreWithin blocks es → AreWithin blocks (map (renamed_entry ns) es)
  within_renamed blocks [] all = tt
  within_renamed blocks (e ∷ es) all = (all.0, within_renamed blocks es all.1)

  pub written_renamed : (words : ℕ) (es : List Entry) → AllByRecursion (λ (e : Entry). 4096 * (e.first + e.blocks) ≤ words) es → AllByRecursion (λ (e : Entry). 4096 * (e.first + e.blocks) ≤ words) (map (renamed_entry ns) es)
  written_renamed words [] all = tt
  written_renamed words (e ∷ es) all = (all.0, written_renamed words es all.1)

  covered_renamed : (k : ℕ) (es : List Entry) → list_any (covers k) (map (renamed_entry ns) es) ≡ list_any (covers k) es
  covered_renamed k [] = refl
  covered_renamed k (e ∷ es) = ap (λ b. covers k e || b) (covered_renamed k es)

  blocks_renamed : (es : List Entry) → block_count (map (renamed_entry ns) es) ≡ block_count es
  blocks_renamed [] = refl
  blocks_renamed (e ∷ es) = ap (λ n. e.blocks + n) (blocks_renamed es)

  pub taken_renamed : (taken : List Bool) (es : List Entry) → AreTaken taken es → AreTaken taken (map (renamed_entry ns) es)
  taken_renamed taken es is = record { each = λ k. is.each k ∙ sym (covered_renamed k es); count = is.count ∙ sym (blocks_renamed es) }

  pub bodies_renamed : (words : List ℕ) (es : List Entry) → map (body_at words) (map (renamed_entry ns) es) ≡ map (renamed ns) (map (body_at words) es)
  bodies_renamed words [] = refl
  bodies_renamed words (e ∷ es) = ap (λ bs. renamed ns (body_at words e) ∷ bs) (bodies_renamed words es)

-- bodies of names that are counted are kept by entries of such names
pub counted_entries : (counts : List Count) (words : List ℕ) (es : List Entry) → AllByRecursion (λ (b : Body). IsTrue (has (map counted_name counts) b.name)) (map (body_at words) es)
    → AllByRecursion (λ (e : Entry). IsTrue (has (map counted_name counts) e.name)) es
counted_entries counts words [] all = tt
counted_entries counts words (e ∷ es) all = (all.0, counted_entries counts words es all.1)

-- ---- the next one

pub renamed_next : (ns : List Name) (at : ℕ) (es old : List Entry) (n : Name) → es ≡ renamed_first at (renamed_entry ns) old → at < length old → n ≡ renewed_name ns (get_or es at nobody).name
    → set es at (record (get_or es at nobody) { name = n }) ≡ renamed_first (at + 1) (renamed_entry ns) old
renamed_next ns at es old n is lt new =
    let same : get_or es at nobody ≡ get_or old at nobody = ap (λ z. get_or z at nobody) is ∙ next_same at (renamed_entry ns) old in
    let one : record (get_or es at nobody) { name = n } ≡ renamed_entry ns (get_or old at nobody) =
    λ i. record (same i) { name = (new ∙ ap (λ (e : Entry). renewed_name ns e.name) same) i } in
    let later : suc at ≡ at + 1 = omega arith in
    (λ i. set (is i) at (one i)) ∙ next_renamed at (renamed_entry ns) old lt ∙ ap (λ k. renamed_first k (renamed_entry ns) old) later
