-- What decrementers have in hand, as sums over them, and the sums that counts are made of: each changes at one decrementer, one
-- entry or one name alone.
use Rattle.std.proofs.Common.{◌≡◌, ℕ, zero, suc, ◌+◌, ◌<◌, ◌≤◌, refl, sym, ap, subst, ◌∙◌, inl, inr, arith, Bool, true, false, cond, List, [], ◌∷◌, IsTrue, length, nat_eq}
use Rattle.std.specs.Prelude.{◌&&◌, ◌==◌, nat_le, nat_lt, not, Some, slice_get, slice_set}
use Rattle.std.proofs.lemmas.Bool.Decides.{eqb_tells}
use Rattle.lxr_layout.specs.declared.Name.{Name}
use Rattle.lxr_graph.specs.Names.{has, same_name}
use Rattle.lxr_graph.specs.State.{Graph, object_at, refs_of}
use Rattle.lxr_graph.proofs.NameSets.{not_both, same_itself, same_names}
use Rattle.lxr_image.specs.Tables.{Tables}
use Rattle.lxr_model.specs.Moments.{Moment}
use Rattle.lxr_model.specs.References.{occurrences, references_from}
use Rattle.lxr_model_counting.specs.Distinct.{IsDistinct}
use Rattle.lxr_model_counting.proofs.DistinctLemmas.{first_has, has_split, later_has, tested}
use Rattle.lxr_invariant.specs.Counting.{entries_between, is_done, undone}
use Rattle.lxr_invariant.proofs.EntryLemmas.{one_if}
use Rattle.lxr_core_access.specs.Decrementers.{Decrementing, Rests, AsksCount, AsksStart, Claims, ReadsHeader, AsksTracing, ReadsReference, MakesGray, AsksLowered, Lowers, AsksCursor, AsksNumber, Draws, ReadsEntry}
use Rattle.lxr_core_invariant.specs.Counted.{draws_soon, in_hand, in_hands, soon_drawn}

-- ---- all decrementers

-- one decrementer has other decrements in hand
pub hands_set : (t : Tables) (m : Moment) (at : Name → ℕ) (ds : List Decrementing) (i : ℕ) (d e : Decrementing) (o : Name) → slice_get ds i ≡ Some d
    → in_hands t m at (slice_set ds i e) o + in_hand t m at d o ≡ in_hands t m at ds o + in_hand t m at e o
hands_set t m at [] i d e o shows = absurd (cc)
hands_set t m at (x ∷ ds) zero d e o shows = let q : x ≡ d = cc in let k = ap (λ z. in_hand t m at z o) q in omega (arith, k)
hands_set t m at (x ∷ ds) (suc i) d e o shows = let k = hands_set t m at ds i d e o shows in omega (arith, k)

-- what one has in hand is among what all have
pub hand_in_hands : (t : Tables) (m : Moment) (at : Name → ℕ) (ds : List Decrementing) (i : ℕ) (d : Decrementing) (o : Name) → slice_get ds i ≡ Some d
    → in_hand t m at d o ≤ in_hands t m at ds o
hand_in_hands t m at [] i d o shows = absurd (cc)
hand_in_hands t m at (x ∷ ds) zero d o shows = let q : x ≡ d = cc in let k = ap (λ z. in_hand t m at z o) q in omega (arith, k)
hand_in_hands t m at (x ∷ ds) (suc i) d o shows = let k = hand_in_hands t m at ds i d o shows in omega (arith, k)

-- of the tables, what is in hand reads the list of decrements alone
pub hand_still : (t u : Tables) (m : Moment) (at : Name → ℕ) (d : Decrementing) (o : Name) → u.decs ≡ t.decs → in_hand u m at d o ≡ in_hand t m at d o
hand_still t u m at Rests o decs = refl
hand_still t u m at (AsksCount place) o decs = refl
hand_still t u m at (AsksStart place uncounted) o decs = refl
hand_still t u m at (Claims place) o decs = refl
hand_still t u m at (ReadsHeader place) o decs = refl
hand_still t u m at (AsksTracing place refs) o decs = refl
hand_still t u m at (ReadsReference place refs index traced) o decs = refl
hand_still t u m at (MakesGray place refs index referent) o decs = refl
hand_still t u m at (AsksLowered referent handling) o decs = refl
hand_still t u m at (Lowers referent handling) o decs = refl
hand_still t u m at AsksCursor o decs = refl
hand_still t u m at (AsksNumber cursor) o decs = refl
hand_still t u m at (Draws count) o decs = refl
hand_still t u m at (ReadsEntry number) o decs = ap (λ f. cond (nat_eq (f number) (at o)) 1 0) decs

pub hands_still : (t u : Tables) (m : Moment) (at : Name → ℕ) (ds : List Decrementing) (o : Name) → u.decs ≡ t.decs → in_hands u m at ds o ≡ in_hands t m at ds o
hands_still t u m at [] o decs = refl
hands_still t u m at (d ∷ ds) o decs = let a = hand_still t u m at d o decs in let b = hands_still t u m at ds o decs in omega (arith, a, b)

-- between two units nothing is in hand
pub hands_rest : (t : Tables) (m : Moment) (at : Name → ℕ) (ds : List Decrementing) (o : Name) → ((i : ℕ) (d : Decrementing) → slice_get ds i ≡ Some d → d ≡ Rests) → in_hands t m at ds o ≡ 0
hands_rest t m at [] o rest = refl
hands_rest t m at (d ∷ ds) o rest =
    let a : in_hand t m at d o ≡ 0 = ap (λ z. in_hand t m at z o) (rest 0 d refl) in
    let b = hands_rest t m at ds o (λ i e k. rest (suc i) e k) in
    omega (arith, a, b)

-- ---- who draws soon

pub soon_set : (count : ℕ) (ds : List Decrementing) (i : ℕ) (d e : Decrementing) → slice_get ds i ≡ Some d → soon_drawn count (slice_set ds i e) + draws_soon count d ≡ soon_drawn count ds + draws_soon count e
soon_set count [] i d e shows = absurd (cc)
soon_set count (x ∷ ds) zero d e shows = let q : x ≡ d = cc in let k = ap (draws_soon count) q in omega (arith, k)
soon_set count (x ∷ ds) (suc i) d e shows = let k = soon_set count ds i d e shows in omega (arith, k)

soon_one : (count : ℕ) (d : Decrementing) → draws_soon count d ≤ 1
soon_one count (AsksNumber cursor) = elim (nat_lt cursor count) as (λ b. cond b 1 0 ≤ 1) [ true ↦ omega arith | false ↦ omega arith ]
soon_one count (Draws seen) = omega arith
soon_one count Rests = omega arith
soon_one count (AsksCount place) = omega arith
soon_one count (AsksStart place uncounted) = omega arith
soon_one count (Claims place) = omega arith
soon_one count (ReadsHeader place) = omega arith
soon_one count (AsksTracing place refs) = omega arith
soon_one count (ReadsReference place refs index traced) = omega arith
soon_one count (MakesGray place refs index referent) = omega arith
soon_one count (AsksLowered referent handling) = omega arith
soon_one count (Lowers referent handling) = omega arith
soon_one count AsksCursor = omega arith
soon_one count (ReadsEntry number) = omega arith

-- each draws soon at most once
pub soon_few : (count : ℕ) (ds : List Decrementing) → soon_drawn count ds ≤ length ds
soon_few count [] = omega arith
soon_few count (d ∷ ds) = let a = soon_one count d in let b = soon_few count ds in omega (arith, a, b)

pub soon_at : (count : ℕ) (ds : List Decrementing) (i : ℕ) (d : Decrementing) → slice_get ds i ≡ Some d → draws_soon count d ≤ soon_drawn count ds
soon_at count [] i d shows = absurd (cc)
soon_at count (x ∷ ds) zero d shows = let q : x ≡ d = cc in let k = ap (draws_soon count) q in omega (arith, k)
soon_at count (x ∷ ds) (suc i) d shows = let k = soon_at count ds i d shows in omega (arith, k)

pub soon_rest : (count : ℕ) (ds : List Decrementing) → ((i : ℕ) (d : Decrementing) → slice_get ds i ≡ Some d → d ≡ Rests) → soon_drawn count ds ≡ 0
soon_rest count [] rest = refl
soon_rest count (d ∷ ds) rest =
    let a : draws_soon count d ≡ 0 = ap (draws_soon count) (rest 0 d refl) in
    let b = soon_rest count ds (λ i e k. rest (suc i) e k) in
    omega (arith, a, b)

-- ---- the list of decrements

-- from its end on nothing waits
pub none_between : (f : ℕ → ℕ) (from n p : ℕ) → n ≤ from → entries_between f from n p ≡ 0
none_between f from zero p past = refl
none_between f from (suc k) p past =
    let rest = none_between f from k p (omega arith) in
    let here : nat_le from k ≡ false = grind (arith, past) in
    let none : one_if (nat_le from k && (f k == p)) ≡ 0 = ap (λ b. one_if (b && (f k == p))) here in
    omega (arith, rest, none)

-- the first entry that waits, and the others
pub first_between : (f : ℕ → ℕ) (from n p : ℕ) → from < n → entries_between f from n p ≡ one_if (f from == p) + entries_between f (from + 1) n p
first_between f from zero p within = absurd (omega arith)
first_between f from (suc k) p within = elim (eqb_tells k from) [
  | inl q ↦
      let same = q.1 in
      let a : nat_le from k ≡ true = grind (arith, same) in
      let b : nat_le (from + 1) k ≡ false = grind (arith, same) in
      let c : one_if (nat_le from k && (f k == p)) ≡ one_if (f k == p) = ap (λ z. one_if (z && (f k == p))) a in
      let d : one_if (nat_le (from + 1) k && (f k == p)) ≡ 0 = ap (λ z. one_if (z && (f k == p))) b in
      let e : one_if (f k == p) ≡ one_if (f from == p) = ap (λ z. one_if (f z == p)) same in
      let x = none_between f from k p (omega (arith, same)) in
      let y = none_between f (from + 1) k p (omega (arith, same)) in
      omega (arith, c, d, e, x, y)
  | inr q ↦
      let differ = q.1 in
      let less : from < k = omega (arith, within, differ) in
      let a : nat_le from k ≡ true = grind (arith, less) in
      let b : nat_le (from + 1) k ≡ true = grind (arith, less) in
      let c : one_if (nat_le from k && (f k == p)) ≡ one_if (nat_le (from + 1) k && (f k == p)) = ap (λ z. one_if (z && (f k == p))) (a ∙ sym b) in
      let rest = first_between f from k p less in
      omega (arith, c, rest)
]

-- ---- references of what isn't done

-- the names of a list without a further one are those that count as before
undone_same : (t u : Tables) (at : Name → ℕ) (us : List Name) → ((x : Name) → IsTrue (has us x) → is_done u at x ≡ is_done t at x) → undone u at us ≡ undone t at us
undone_same t u at [] same = refl
undone_same t u at (x ∷ us) same =
    ap (λ b. cond (not b) (x ∷ undone u at us) (undone u at us)) (same x (first_has x us))
    ∙ ap (λ ys. cond (not (is_done t at x)) (x ∷ ys) ys) (undone_same t u at us (λ y h. same y (later_has x us y h)))

refs_kept : (g : Graph) (o x : Name) (done : Bool) (ns : List Name) → references_from g (cond (not done) (x ∷ ns) ns) o ≡ cond done 0 (occurrences (refs_of (object_at g x)) o) + references_from g ns o
refs_kept g o x true ns = omega arith
refs_kept g o x false ns = refl

-- What is done from now on takes its references out.
pub undone_claimed : (g : Graph) (t u : Tables) (at : Name → ℕ) (us : List Name) (n o : Name) → IsDistinct us → IsTrue (has us n) → is_done t at n ≡ false → is_done u at n ≡ true
    → ((x : Name) → IsTrue (has us x) → same_name x n ≡ false → is_done u at x ≡ is_done t at x)
    → references_from g (undone t at us) o ≡ occurrences (refs_of (object_at g n)) o + references_from g (undone u at us) o
undone_claimed g t u at [] n o distinct member clear set others = absurd (cc)
undone_claimed g t u at (x ∷ us) n o distinct member clear set others =
    let a = refs_kept g o x (is_done t at x) (undone t at us) in
    let b = refs_kept g o x (is_done u at x) (undone u at us) in
    elim (tested (same_name x n)) [
      | inl k ↦
          let same : x ≡ n = same_names x n k in
          let rest = ap (λ ys. references_from g ys o) (undone_same t u at us (λ y h. others y (later_has x us y h) (apart y h same))) in
          let c : cond (is_done t at x) 0 (occurrences (refs_of (object_at g x)) o) ≡ occurrences (refs_of (object_at g n)) o =
          ap (λ z. cond (is_done t at z) 0 (occurrences (refs_of (object_at g z)) o)) same ∙ ap (λ z. cond z 0 (occurrences (refs_of (object_at g n)) o)) clear in
          let d : cond (is_done u at x) 0 (occurrences (refs_of (object_at g x)) o) ≡ 0 =
          ap (λ z. cond (is_done u at z) 0 (occurrences (refs_of (object_at g x)) o)) same ∙ ap (λ z. cond z 0 (occurrences (refs_of (object_at g x)) o)) set in
          omega (arith, a, b, c, d, rest)
      | inr k ↦
          let there : IsTrue (has us n) = elim (has_split x us n member) [ inl e ↦ not_both (same_name x n) (subst (λ z. IsTrue (same_name x z)) (sym e) (same_itself x)) k | inr h ↦ h ] in
          let rest = undone_claimed g t u at us n o distinct.1 there clear set (λ y h. others y (later_has x us y h)) in
          let c : cond (is_done u at x) 0 (occurrences (refs_of (object_at g x)) o) ≡ cond (is_done t at x) 0 (occurrences (refs_of (object_at g x)) o) =
          ap (λ z. cond z 0 (occurrences (refs_of (object_at g x)) o)) (others x (first_has x us) k) in
          omega (arith, a, b, c, rest)
    ]
  where
    -- a further name of the list is another
    apart : (y : Name) → IsTrue (has us y) → x ≡ n → same_name y n ≡ false
    apart y h same = elim (tested (same_name y n)) [
      | inl k ↦ not_both (has us x) (subst (λ z. IsTrue (has us z)) (same_names y n k ∙ sym same) h) distinct.0
      | inr k ↦ k
    ]
