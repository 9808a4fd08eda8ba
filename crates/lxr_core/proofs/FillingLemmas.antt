-- The places of what is to be scanned between two granules: each once and all of them. An empty pocket takes them in order until it is
-- full.
use Rattle.std.proofs.Common.{◌≡◌, ℕ, zero, suc, ◌+◌, ◌-◌, ◌<◌, ◌≤◌, refl, ap, subst, ◌∙◌, inl, inr, arith, Bool, true, false, List, [], ◌∷◌, ◌++◌}
use Rattle.std.specs.Prelude.{Some, IsTrue, if◌then◌else◌, slice_get}
use Rattle.std.proofs.lemmas.Bool.Decides.{leb_tells}
use Rattle.std.proofs.lemmas.List.{append-nil}
use Rattle.lxr_layout.specs.Places.{place_at}
use Rattle.lxr_layout.specs.declared.Place.{Place}
use Rattle.lxr_image.specs.Tables.{Tables}
use Rattle.lxr_image_search.specs.declared.Wanted.TheVariants.{ToScan}
use Rattle.lxr_image_search.specs.Search.{IsNextWanted, NoneWanted, is_wanted}
use Rattle.lxr_core.specs.Filling.{places_between, places_of}

-- ---- places of so many granules

-- the first granule's place stands before those of the rest, where it is to be scanned
abbrev first_of : Tables → ℕ → ℕ → Bool → List Place
first_of t from count is = if is then place_at from ∷ places_of t (from + 1) count else places_of t (from + 1) count

-- those of further granules stand behind
pub places_more : (t : Tables) (from n m : ℕ) → places_of t from (n + m) ≡ places_of t from n ++ places_of t (from + n) m
places_more t from zero m = ap (places_of t from) (let e : 0 + m ≡ m = omega arith in e) ∙ ap (λ k. places_of t k m) (let e : from ≡ from + 0 = omega arith in e)
places_more t from (suc n) m =
    let rest = places_more t (from + 1) n m ∙ ap (λ k. places_of t (from + 1) n ++ places_of t k m) (let e : from + 1 + n ≡ from + suc n = omega arith in e) in
    ap (places_of t from) (let e : suc n + m ≡ suc (n + m) = omega arith in e) ∙ by_first (is_wanted t ToScan from) rest
  where
    by_first : (is : Bool) → places_of t (from + 1) (n + m) ≡ places_of t (from + 1) n ++ places_of t (from + suc n) m → first_of t from (n + m) is ≡ first_of t from n is ++ places_of t (from + suc n) m
    by_first true rest = ap (λ z. place_at from ∷ z) rest
    by_first false rest = rest

-- where none is to be scanned there are none
pub places_none : (t : Tables) (from n : ℕ) → NoneWanted t ToScan from (from + n) → places_of t from n ≡ []
places_none t from zero none = refl
places_none t from (suc n) none =
    ap (first_of t from n) (none from (omega arith) (omega arith)) ∙ places_none t (from + 1) n (λ k low high. none k (omega (arith, low)) (omega (arith, high)))

-- each is the place of one of these granules, which is to be scanned
pub record IsPlaceFrom (t : Tables) (from n : ℕ) (place : Place) : Type 0 where
  pub granule : ℕ
  pub is : place ≡ place_at granule
  pub low : from ≤ granule
  pub high : granule < from + n
  pub scan : IsTrue (is_wanted t ToScan granule)

pub each_place : (t : Tables) (from n i : ℕ) (place : Place) → slice_get (places_of t from n) i ≡ Some place → IsPlaceFrom t from n place
each_place t from zero i place there = absurd (cc)
each_place t from (suc n) i place there = by_first (is_wanted t ToScan from) i refl (λ k at. each_place t (from + 1) n k place at) there
  where
    later : IsPlaceFrom t (from + 1) n place → IsPlaceFrom t from (suc n) place
    later is = let low = is.low in let high = is.high in record { granule = is.granule; is = is.is; low = omega (arith, low); high = omega (arith, high); scan = is.scan }

    by_first : (is : Bool) (i : ℕ) → is_wanted t ToScan from ≡ is → ((k : ℕ) → slice_get (places_of t (from + 1) n) k ≡ Some place → IsPlaceFrom t (from + 1) n place) → slice_get (first_of t from n is) i ≡ Some place
        → IsPlaceFrom t from (suc n) place
    by_first true zero is behind there = record { granule = from; is = cc; low = omega arith; high = omega arith; scan = is }
    by_first true (suc i) is behind there = later (behind i there)
    by_first false i is behind there = later (behind i there)

-- none stands twice
pub place_once : (t : Tables) (from n i j : ℕ) (place : Place) → slice_get (places_of t from n) i ≡ Some place → slice_get (places_of t from n) j ≡ Some place → i ≡ j
place_once t from zero i j place here there = absurd (cc)
place_once t from (suc n) i j place here there = by_first (is_wanted t ToScan from) i j (λ x y p q. place_once t (from + 1) n x y place p q) here there
  where
    not_first : {P : Type 0} (k : ℕ) → Some (place_at from) ≡ Some place → slice_get (places_of t (from + 1) n) k ≡ Some place → P
    not_first k e there =
        let is = each_place t (from + 1) n k place there in
        let same : place_at from ≡ place = cc in
        let low = is.low in
        let number : from + 1 ≡ is.granule + 1 = ap (λ (p : Place). p.0) (same ∙ is.is) in
        absurd (omega (arith, low, number))

    by_first : (is : Bool) (i j : ℕ) → ((x y : ℕ) → slice_get (places_of t (from + 1) n) x ≡ Some place → slice_get (places_of t (from + 1) n) y ≡ Some place → x ≡ y)
        → slice_get (first_of t from n is) i ≡ Some place → slice_get (first_of t from n is) j ≡ Some place → i ≡ j
    by_first true zero zero rest here there = refl
    by_first true zero (suc j) rest here there = not_first j here there
    by_first true (suc i) zero rest here there = not_first i there here
    by_first true (suc i) (suc j) rest here there = ap suc (rest i j here there)
    by_first false i j rest here there = rest i j here there

-- all stand there
pub place_stands : (t : Tables) (from n k : ℕ) → from ≤ k → k < from + n → IsTrue (is_wanted t ToScan k) → (i : ℕ) × (slice_get (places_of t from n) i ≡ Some (place_at k))
place_stands t from zero k low high scan = absurd (omega (arith, low, high))
place_stands t from (suc n) k low high scan = elim (leb_tells (from + 1) k) [
  | inl c ↦ behind (is_wanted t ToScan from) (place_stands t (from + 1) n k c.1 (omega (arith, high)) scan)
  | inr c ↦
      let less = c.1 in
      let same : from ≡ k = omega (arith, low, less) in
      let is : is_wanted t ToScan from ≡ true = ap (is_wanted t ToScan) same ∙ scan in
      (0, ap (λ b. slice_get (first_of t from n b) 0) is ∙ ap (λ z. Some (place_at z)) same)
]
  where
    behind : (is : Bool) → (i : ℕ) × (slice_get (places_of t (from + 1) n) i ≡ Some (place_at k)) → (i : ℕ) × (slice_get (first_of t from n is) i ≡ Some (place_at k))
    behind true (i, there) = (suc i, there)
    behind false (i, there) = (i, there)

-- ---- between two granules

pub between_more : (t : Tables) (from at to : ℕ) → from ≤ at → at ≤ to → places_between t from to ≡ places_between t from at ++ places_between t at to
between_more t from at to low high =
    let sum : to - from ≡ (at - from) + (to - at) = omega (arith, low, high) in
    let middle : from + (at - from) ≡ at = omega (arith, low) in
    ap (places_of t from) sum ∙ places_more t from (at - from) (to - at) ∙ ap (λ k. places_between t from at ++ places_of t k (to - at)) middle

pub between_none : (t : Tables) (from to : ℕ) → from ≤ to → NoneWanted t ToScan from to → places_between t from to ≡ []
between_none t from to low none = places_none t from (to - from) (subst (NoneWanted t ToScan from) (let e : to ≡ from + (to - from) = omega (arith, low) in e) none)

-- one more
pub between_next : (t : Tables) (from at end granule : ℕ) → from ≤ at → IsNextWanted t ToScan at end granule → places_between t from (granule + 1) ≡ places_between t from at ++ place_at granule ∷ []
between_next t from at end granule low next =
    let reached = next.reached in
    let one : granule + 1 - granule ≡ 1 = omega arith in
    between_more t from at (granule + 1) low (omega (arith, reached))
    ∙ ap (λ z. places_between t from at ++ z)
    (between_more t at granule (granule + 1) reached (omega arith)
    ∙ ap (λ z. z ++ places_between t granule (granule + 1)) (between_none t at granule reached next.passed)
    ∙ ap (places_of t granule) one
    ∙ ap (first_of t granule 0) next.is)

-- and none, up to the next
pub between_up_to : (t : Tables) (from at to : ℕ) → from ≤ at → at ≤ to → NoneWanted t ToScan at to → places_between t from to ≡ places_between t from at
between_up_to t from at to low high none =
    between_more t from at to low high ∙ ap (λ z. places_between t from at ++ z) (between_none t at to high none) ∙ append-nil (places_between t from at)
