-- Places and names: a place of the image is that of one name, so old values are queued as often as names are to be lowered.
use Rattle.std.proofs.Common.{◌≡◌, ◌≢◌, ℕ, zero, suc, ◌+◌, ◌≤◌, refl, sym, ap, ◌∙◌, inl, inr, arith, Bool, true, false, cond, List, [], ◌∷◌, IsTrue, nat_eq, map}
use Rattle.std.specs.Prelude.{◌||◌, ◌&&◌, not, Option, None, Some, count_by, slice_get, slice_index_or}
use Rattle.std.specs.List.{AllByRecursion, list_any, zip}
use Rattle.std.proofs.lemmas.Bool.Decides.{nat_tests}
use Rattle.std.proofs.lemmas.List.Sums.{sum_by-cons}
use Rattle.lxr_layout.specs.declared.Name.{Name}
use Rattle.lxr_layout.specs.declared.LogEntry.{LogEntry}
use Rattle.lxr_layout.specs.declared.Place.{Place}
use Rattle.lxr_graph.specs.Names.{has, same_held, same_name}
use Rattle.lxr_graph.specs.State.{Graph, object_at, refs_of}
use Rattle.lxr_graph.proofs.NameSets.{same_names}
use Rattle.lxr_image.specs.Tables.{Tables}
use Rattle.lxr_image.specs.Image.{ArePlacesOf, IsImage, place_word}
use Rattle.lxr_image.specs.Reads.{granule_of}
use Rattle.lxr_model.specs.Moments.{Field, Moment}
use Rattle.lxr_model.specs.Reports.{field_holds}
use Rattle.lxr_model_counting.specs.Balance.{newly_dropped}
use Rattle.lxr_model_counting.specs.Distinct.{has_field}
use Rattle.lxr_model_counting.proofs.BalanceLemmas.{count_mapped}
use Rattle.lxr_model_counting.proofs.DistinctLemmas.{first_field, later_field, tested}
use Rattle.lxr_invariant.specs.Standing.{AreLogged, entry_of}
use Rattle.lxr_invariant.proofs.PlaceLemmas.{granules_differ}
use Rattle.lxr_pause_queue.specs.Appending.{dropped}
use Rattle.lxr_pause_queue.proofs.QueuedLemmas.{dropped_at}

-- ---- one name at a place

-- members of an image with one place are one
pub one_name : (t : Tables) (blocks : ℕ) (at : Name → ℕ) (g : Graph) (us : List Name) → IsImage t blocks at g us → (n o : Name) → IsTrue (has us n) → IsTrue (has us o) → at n ≡ at o → same_name n o ≡ true
one_name t blocks at g us image n o hn ho e = elim (tested (same_name n o)) [
  | inl same ↦ same
  | inr differ ↦ absurd (granules_differ t blocks at g us image n o hn ho differ (ap granule_of e))
]

-- what is held, if it is a name, is one of these
abbrev pub IsOf : List Name → Option Name → Type 0
IsOf us r = (x : Name) → r ≡ Some x → IsTrue (has us x)

-- a place of what is held is that of a member exactly where the member is held
pub same_place : (t : Tables) (blocks : ℕ) (at : Name → ℕ) (g : Graph) (us : List Name) → IsImage t blocks at g us → (o : Name) (r : Option Name) → IsTrue (has us o) → IsOf us r
    → nat_eq (place_word at r) (at o) ≡ same_held (Some o) r
same_place t blocks at g us image o None ho of = let placed = (image.stands o ho).2.placed in grind (arith, nat_tests)
same_place t blocks at g us image o (Some x) ho of = elim (tested (same_name o x)) [
  | inl same ↦
      let e : at x ≡ at o = ap at (sym (same_names o x same)) in
      let k : nat_eq (at x) (at o) ≡ true = grind (arith, nat_tests) in k ∙ sym same
  | inr differ ↦
      let ne : at o ≢ at x = λ e. let same = one_name t blocks at g us image o x ho (of x refl) e in cc in
      let k : nat_eq (at x) (at o) ≡ false = grind (arith, nat_tests) in k ∙ sym differ
]

-- ---- fields

pub index_held : (rs : List (Option Name)) (i : ℕ) (n : Name) → slice_index_or rs i None ≡ Some n → slice_get rs i ≡ Some (Some n)
index_held [] i n e = absurd (cc)
index_held (r ∷ rs) zero n e = ap Some e
index_held (r ∷ rs) (suc i) n e = index_held rs i n e

-- what holds of each field of a list
pub each_field : (P : Field → Type 0) (ws : List Field) → ((w : Field) → IsTrue (has_field ws w) → P w) → AllByRecursion P ws
each_field P [] h = tt
each_field P (w ∷ ws) h = (h w (first_field w ws), each_field P ws (λ v k. h v (later_field w ws v k)))

pub each_mapped : {X Y : Type 0} (f : X → Y) (P : Y → Type 0) (xs : List X) → AllByRecursion (λ x. P (f x)) xs → AllByRecursion P (map f xs)
each_mapped f P [] h = tt
each_mapped f P (x ∷ xs) h = (h.0, each_mapped f P xs h.1)

count_same : {X : Type 0} (p q : X → Bool) (xs : List X) → AllByRecursion (λ x. p x ≡ q x) xs → count_by p xs ≡ count_by q xs
count_same p q [] h = refl
count_same p q (x ∷ xs) h =
    sum_by-cons (λ y. cond (p y) 1 0) x xs
    ∙ (λ j. cond (h.0 j) 1 0 + count_same p q xs h.1 j)
    ∙ sym (sum_by-cons (λ y. cond (q y) 1 0) x xs)

pub any_mapped : {X Y : Type 0} (f : X → Y) (p : Y → Bool) (xs : List X) → list_any p (map f xs) ≡ list_any (λ x. p (f x)) xs
any_mapped f p [] = refl
any_mapped f p (x ∷ xs) = ap (λ b. p (f x) || b) (any_mapped f p xs)

-- what the written fields held
abbrev pub old_value : Moment → Field → Option Name
old_value m w = slice_index_or (refs_of (object_at m.last.graph w.0)) w.1 None

-- the entries of logs whose old value is a member's place are as many as the written fields that held the member
pub entries_count : (t : Tables) (blocks : ℕ) (m : Moment) (at : Name → ℕ) (g : Graph) (us : List Name) (entries : List LogEntry) → IsImage t blocks at g us → AreLogged m at entries
    → ((w : Field) → IsTrue (has_field m.written w) → IsOf us (old_value m w)) → (o : Name) → IsTrue (has us o)
    → count_by (λ e. nat_eq e.old.0 (at o)) entries ≡ count_by (field_holds m.last.graph o) m.written
entries_count t blocks m at g us entries image logged of o ho =
    count_mapped (entry_of m at) (λ (e : LogEntry). nat_eq e.old.0 (at o)) m.written entries logged
    ∙ count_same (λ w. nat_eq (place_word at (old_value m w)) (at o)) (field_holds m.last.graph o) m.written
    (each_field (λ w. nat_eq (place_word at (old_value m w)) (at o) ≡ field_holds m.last.graph o w) m.written (λ w h. same_place t blocks at g us image o (old_value m w) ho (of w h)))

-- ---- registers

-- what holds of each held name holds at each register
pub each_held : (us : List Name) (rs : List (Option Name)) → ((p : ℕ) (n : Name) → slice_get rs p ≡ Some (Some n) → IsTrue (has us n)) → AllByRecursion (IsOf us) rs
each_held us [] h = tt
each_held us (r ∷ rs) h = (λ x e. h 0 x (ap Some e), each_held us rs (λ p n e. h (suc p) n e))

same_value : (b n p : ℕ) → 1 ≤ p → nat_eq b n ≡ true → nat_eq 0 p ≡ (nat_eq b p && not (nat_eq n p))
same_value b n p some e = grind (arith, nat_tests)

other_value : (b n p : ℕ) → nat_eq b n ≡ false → nat_eq b p ≡ (nat_eq b p && not (nat_eq n p))
other_value b n p e = grind (arith, nat_tests)

one_register : (b n p : ℕ) → 1 ≤ p → nat_eq (cond (nat_eq b n) 0 b) p ≡ (nat_eq b p && not (nat_eq n p))
one_register b n p some = elim (nat_eq b n) as (λ x. nat_eq b n ≡ x → nat_eq (cond x 0 b) p ≡ (nat_eq b p && not (nat_eq n p))) [
  | true ↦ λ e. same_value b n p some e
  | false ↦ λ e. other_value b n p e
] refl

-- the places that are queued for registers are as many as the registers that held the member and hold it no more
pub registers_count : (t : Tables) (blocks : ℕ) (at : Name → ℕ) (g : Graph) (us : List Name) → IsImage t blocks at g us → (o : Name) → IsTrue (has us o)
    → (befores nows : List Place) (was now : List (Option Name)) → ArePlacesOf at befores was → ArePlacesOf at nows now → AllByRecursion (IsOf us) was → AllByRecursion (IsOf us) now
    → dropped_at (at o) befores nows ≡ newly_dropped was now o
registers_count t blocks at g us image o ho [] nows [] now e f of_was of_now = refl
registers_count t blocks at g us image o ho [] nows (x ∷ was) now e f of_was of_now = absurd (cc)
registers_count t blocks at g us image o ho (b ∷ befores) nows [] now e f of_was of_now = absurd (cc)
registers_count t blocks at g us image o ho (b ∷ befores) [] (x ∷ was) [] e f of_was of_now = refl
registers_count t blocks at g us image o ho (b ∷ befores) [] (x ∷ was) (y ∷ now) e f of_was of_now = absurd (cc)
registers_count t blocks at g us image o ho (b ∷ befores) (n ∷ nows) (x ∷ was) [] e f of_was of_now = absurd (cc)
registers_count t blocks at g us image o ho (b ∷ befores) (n ∷ nows) (x ∷ was) (y ∷ now) e f of_was of_now =
    let was_here : b.0 ≡ place_word at x = cc in
    let now_here : n.0 ≡ place_word at y = cc in
    let was_rest : ArePlacesOf at befores was = cc in
    let now_rest : ArePlacesOf at nows now = cc in
    let placed = (image.stands o ho).2.placed in
    let held_was : nat_eq b.0 (at o) ≡ same_held (Some o) x = ap (λ p. nat_eq p (at o)) was_here ∙ same_place t blocks at g us image o x ho of_was.0 in
    let held_now : nat_eq n.0 (at o) ≡ same_held (Some o) y = ap (λ p. nat_eq p (at o)) now_here ∙ same_place t blocks at g us image o y ho of_now.0 in
    let here : nat_eq (dropped b n) (at o) ≡ (same_held (Some o) x && not (same_held (Some o) y)) =
    one_register b.0 n.0 (at o) placed ∙ (λ j. held_was j && not (held_now j)) in
    (λ j. cond (here j) 1 0 + registers_count t blocks at g us image o ho befores nows was now was_rest now_rest of_was.1 of_now.1 j)
    ∙ sym (sum_by-cons (λ (p : Option Name × Option Name). cond (same_held (Some o) p.0 && not (same_held (Some o) p.1)) 1 0) (x, y) (zip was now))

-- a place that a register has is that of a member
pub each_place : (at : Name → ℕ) (us : List Name) (places : List Place) (held : List (Option Name)) → ArePlacesOf at places held → AllByRecursion (IsOf us) held
    → AllByRecursion (λ b. b.0 ≢ 0 → (n : Name) × IsTrue (has us n) × (b.0 ≡ at n)) places
each_place at us [] held e of = tt
each_place at us (b ∷ places) [] e of = absurd (cc)
each_place at us (b ∷ places) (None ∷ held) e of = (λ ne. absurd (ne (let z : b.0 ≡ 0 = cc in z)), each_place at us places held (let r : ArePlacesOf at places held = cc in r) of.1)
each_place at us (b ∷ places) (Some x ∷ held) e of = (λ ne. (x, of.0 x refl, let z : b.0 ≡ at x = cc in z), each_place at us places held (let r : ArePlacesOf at places held = cc in r) of.1)
