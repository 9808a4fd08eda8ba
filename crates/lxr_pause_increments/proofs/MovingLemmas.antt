-- Where objects stand while promoted ones are copied: no two reach into one another, and a start bit tells an object that is known,
-- and stands there, from a new one and from a copied one.
use Rattle.std.proofs.Common.{◌≡◌, ◌≢◌, ℕ, ◌+◌, ◌*◌, ◌^◌, ◌<◌, ◌≤◌, refl, sym, ap, subst, ◌∙◌, inl, inr, ◌⊎◌, arith, true, false, List}
use Rattle.std.specs.Prelude.{Some, IsTrue}
use Rattle.lxr_layout.specs.declared.Header.TheVariants.{Moved, Object as AnObject}
use Rattle.lxr_layout.specs.declared.Name.{Name}
use Rattle.lxr_layout.specs.declared.TheConstants.{GRANULES_IN_BLOCK}
use Rattle.lxr_layout.specs.Objects.{header_of}
use Rattle.lxr_layout.specs.Places.{first_word}
use Rattle.lxr_graph.specs.Names.{has, same_name}
use Rattle.lxr_graph.specs.State.{Object, object_at, shape_of}
use Rattle.lxr_graph.proofs.NameSets.{has-union, same_itself, same_names, union_cases}
use Rattle.lxr_image.specs.declared.space.Space.{Space}
use Rattle.lxr_image.specs.Spaces.{IsSpace, tables_of}
use Rattle.lxr_image.specs.Reads.{StandsWhole, granule_of}
use Rattle.lxr_image.specs.Image.{AreApart, StartsAre, granules_of}
use Rattle.lxr_image.proofs.ReadLemmas.{header_unpacked}
use Rattle.lxr_blocks.specs.Kept.{IsAmong}
use Rattle.lxr_model.specs.Moments.{Moment}
use Rattle.lxr_model_counting.proofs.DistinctLemmas.{or_false, tested}
use Rattle.lxr_invariant.specs.AbstractState.{members}
use Rattle.lxr_invariant.specs.Lines.{IsMarkOf}
use Rattle.lxr_invariant.specs.Raised.{with_promoted}
use Rattle.lxr_invariant.specs.Standing.{place_of}
use Rattle.lxr_invariant.proofs.NameLemmas.{in_either, in_first, in_second}
use Rattle.lxr_invariant.proofs.PlaceLemmas.{same_object}
use Rattle.lxr_pause_promote.specs.Copying.{StandsAt, StandsKept}
use Rattle.lxr_pause_promote.specs.Either.{IsPlaceOf}
use Rattle.lxr_pause_promote.proofs.EitherLemmas.{moved_unpacked, some_granules}
use Rattle.lxr_pause_increments.specs.Moving.{IsMoving, IsTaken}

-- promoted names were made since the last pause
abbrev pub AreMade : Moment → List Name → Type 0
AreMade m ps = (n : Name) → IsTrue (has ps n) → IsTrue (has m.made n)

-- a new object that isn't promoted yet stands at a place
pub record IsNewAt (s : Space) (m : Moment) (at now : Name → ℕ) (ps : List Name) (n : Name) (p : ℕ) : Type 0 where
  pub made : IsTrue (has m.made n)
  pub unpromoted : has ps n ≡ false
  pub unknown : has (with_promoted m ps) n ≡ false
  pub place : p ≡ at n
  pub still : now n ≡ at n
  pub object : Object
  pub is : object_at m.state.graph n ≡ Some object
  pub header : header_of ((tables_of s).heap (first_word p)) ≡ AnObject n (shape_of object)

-- a promoted object stood at a place, and its header tells where its copy stands
pub record IsMovedAt (s : Space) (m : Moment) (at now : Name → ℕ) (ps : List Name) (n : Name) (p : ℕ) : Type 0 where
  pub promoted : IsTrue (has ps n)
  pub known : IsTrue (has (with_promoted m ps) n)
  pub place : p ≡ at n
  pub moved : now n ≢ at n
  pub header : header_of ((tables_of s).heap (first_word p)) ≡ Moved (place_of now n)

-- an unreclaimed object stands where it stood
pub unreclaimed_still : (s found : Space) (m : Moment) (at now : Name → ℕ) (ps : List Name) → IsMoving s found m at now ps → AreMade m ps
    → ((n : Name) → IsTrue (has m.made n) → has m.unreclaimed n ≡ false) → (n : Name) → IsTrue (has m.unreclaimed n) → now n ≡ at n
unreclaimed_still s found m at now ps is made apart n kept = is.others n (elim (tested (has ps n)) [
  | inl k ↦ absurd (let a = apart n (made n k) in cc)
  | inr k ↦ k
])

-- what is known stands in the heap
pub known_member : (m : Moment) (ps : List Name) → AreMade m ps → (n : Name) → IsTrue (has (with_promoted m ps) n) → IsTrue (has (members m) n)
known_member m ps made n known = elim (union_cases ps m.unreclaimed n known) [
  | inl k ↦ in_second m.unreclaimed m.made n (made n k)
  | inr k ↦ in_first m.unreclaimed m.made n k
]

module _ (s found : Space) (m : Moment) (at now : Name → ℕ) (ps : List Name) (is : IsMoving s found m at now ps) where
  -- ---- places

  -- a member's object lies in the heap, wherever it is
  pub place_within : (n : Name) (o : Object) (p : ℕ) → IsTrue (has (members m) n) → object_at m.state.graph n ≡ Some o → IsPlaceOf at now n p
      → (1 ≤ p) × (granule_of p + granules_of o ≤ GRANULES_IN_BLOCK * s.limits.blocks)
  place_within n o p member has_o (inl e) = subst (λ z. (1 ≤ z) × (granule_of z + granules_of o ≤ GRANULES_IN_BLOCK * s.limits.blocks)) (sym e) (is.stood n o member has_o)
  place_within n o p member has_o (inr e) =
      let a = is.stands n member in
      let same : a.0 ≡ o = same_object m.state.graph n a.0 o a.1 has_o in
      subst (λ z. (1 ≤ z) × (granule_of z + granules_of o ≤ GRANULES_IN_BLOCK * s.limits.blocks)) (sym e)
      (a.2.placed, subst (λ x. granule_of (now n) + granules_of x ≤ GRANULES_IN_BLOCK * s.limits.blocks) same a.2.whole.in_heap)

  -- so its first granule is one of the heap, and its place a number of 32 bits
  pub place_some : (n : Name) (p : ℕ) → IsTrue (has (members m) n) → IsPlaceOf at now n p → (1 ≤ p) × (granule_of p < GRANULES_IN_BLOCK * s.limits.blocks)
  place_some n p member place =
      let a = is.stands n member in
      let within = place_within n a.0 p member a.1 place in
      let some = some_granules a.0 in
      let end = within.1 in (within.0, omega (arith, some, end))

  pub place_small : IsSpace s → (n : Name) (p : ℕ) → IsTrue (has (members m) n) → IsPlaceOf at now n p → p < 2 ^ 32
  place_small space n p member place =
      let there = (place_some n p member place).1 in
      let few = space.limits.blocks.1 in
      omega (arith, there, few)

  -- objects stand apart
  pub apart_now : (n u : Name) (a b : Object) → IsTrue (has (members m) n) → IsTrue (has (members m) u) → same_name n u ≡ false
      → object_at m.state.graph n ≡ Some a → object_at m.state.graph u ≡ Some b → AreApart now n a u b
  apart_now n u a b in_n in_u differ has_a has_b = is.apart n u a b (now n) (now u) in_n in_u has_a has_b (inr refl) (inr refl) (λ e.
      let same : n ≡ u = is.own n u (now n) in_n in_u (inr refl) (inr e) in
      let told : same_name n u ≡ true = ap (same_name n) (sym same) ∙ same_itself n in
      cc)

  -- two members at one granule are one
  pub differ_now : (n u : Name) → IsTrue (has (members m) n) → IsTrue (has (members m) u) → same_name n u ≡ false → granule_of (now n) ≢ granule_of (now u)
  differ_now n u in_n in_u differ e =
      let a = is.stands n in_n in
      let b = is.stands u in_u in
      let some_a = some_granules a.0 in
      let some_b = some_granules b.0 in
      elim (apart_now n u a.0 b.0 in_n in_u differ a.1 b.1) [ inl h ↦ omega (arith, h, e, some_a) | inr h ↦ omega (arith, h, e, some_b) ]

  -- no member begins at a mark
  pub mark_apart_now : (n r : Name) (b : Object) (k : ℕ) → IsTrue (has (members m) n) → IsTrue (has (members m) r) → object_at m.state.graph n ≡ Some b → IsMarkOf now n b k → granule_of (now r) ≢ k
  mark_apart_now n r b k in_n in_r has_b mark e =
      let behind = mark.behind in
      let within = mark.within in
      let a = is.stands r in_r in
      let some_a = some_granules a.0 in
      elim (tested (same_name r n)) [
        | inl q ↦ let p : now r ≡ now n = ap now (same_names r n q) in omega (arith, p, behind, e)
        | inr q ↦ elim (apart_now r n a.0 b in_r in_n q a.1 has_b) [ inl h ↦ omega (arith, h, behind, e, some_a) | inr h ↦ omega (arith, h, within, e) ]
      ]

  -- an object stands where it stands now, and nothing is placed on it
  pub stands_now : IsSpace s → (n : Name) (o : Object) → IsTrue (has (members m) n) → object_at m.state.graph n ≡ Some o → StandsAt s (place_of now n) n (shape_of o)
  stands_now space n o member has_o =
      let a = is.stands n member in
      let same : a.0 ≡ o = same_object m.state.graph n a.0 o a.1 has_o in
      record { space = space; placed = a.2.placed; whole = subst (λ x. StandsWhole (tables_of s) s.limits.blocks (granule_of (now n)) n (shape_of x)) same a.2.whole }

  pub stands_kept : IsSpace s → (n : Name) (o : Object) → IsTrue (has (members m) n) → object_at m.state.graph n ≡ Some o → StandsKept s (place_of now n) n (shape_of o)
  stands_kept space n o member has_o =
      let taken : (k : ℕ) → IsAmong (granule_of (now n)) (granules_of o) k → IsTaken m at now k = λ k among. record {
        name = n;
        object = o;
        place = now n;
        member = member;
        is = has_o;
        place_is = inr refl;
        among = among;
      } in
      record {
        stands = stands_now space n o member has_o;
        rest = is.rest;
        kept = record { lines = λ k among. is.kept.lines k (taken k among); rest = λ k among. is.kept.rest k (taken k among) };
      }

  -- ---- what a start bit tells

  -- a start bit stands only where a known object stands now
  pub begun : AreMade m ps → StartsAre (tables_of s) now (with_promoted m ps) → (n : Name) (p : ℕ) → IsTrue (has (members m) n) → IsPlaceOf at now n p
      → IsTrue ((tables_of s).starts (granule_of p)) → IsTrue (has (with_promoted m ps) n) × (p ≡ now n)
  begun made starts n p member place start =
      let u = starts.only (granule_of p) start in
      let in_u = known_member m ps made u.0 u.1 in
      let some_p = (place_some n p member place).0 in
      let some_u = (place_some u.0 (now u.0) in_u (inr refl)).0 in
      let there = u.2 in
      let at_p : p ≡ now u.0 = omega (arith, some_p, some_u, there) in
      let same : u.0 ≡ n = is.own u.0 n p in_u member (inr at_p) place in
      (subst (λ z. IsTrue (has (with_promoted m ps) z)) same u.1, at_p ∙ ap now same)

  -- an object that isn't known is new
  is_new : (n : Name) (p : ℕ) → IsTrue (has (members m) n) → IsPlaceOf at now n p → has (with_promoted m ps) n ≡ false → IsNewAt s m at now ps n p
  is_new n p member place unknown =
      let parts = or_false (has ps n) (has m.unreclaimed n) (sym (has-union ps m.unreclaimed n) ∙ unknown) in
      let still : now n ≡ at n = is.others n parts.0 in
      let a = is.stands n member in
      let there : p ≡ now n = elim place [ inl e ↦ e ∙ sym still | inr e ↦ e ] in
      record {
        made = elim (in_either m.unreclaimed m.made n member) [ inl k ↦ absurd (let no = parts.1 in cc) | inr k ↦ k ];
        unpromoted = parts.0;
        unknown = unknown;
        place = there ∙ still;
        still = still;
        object = a.0;
        is = a.1;
        header = ap (λ z. header_of ((tables_of s).heap (first_word z))) there ∙ ap header_of a.2.whole.header ∙ header_unpacked n (shape_of a.0) a.2.whole.name a.2.whole.shape;
      }

  -- one that is known has left a place where no start bit stands
  is_moved : AreMade m ps → IsSpace s → StartsAre (tables_of s) now (with_promoted m ps) → (n : Name) (p : ℕ) → IsTrue (has (members m) n) → IsPlaceOf at now n p
      → (tables_of s).starts (granule_of p) ≡ false → IsTrue (has (with_promoted m ps) n) → IsMovedAt s m at now ps n p
  is_moved made space starts n p member place clear known =
      let elsewhere : p ≢ now n = λ e. let start = starts.each n known in let none : (tables_of s).starts (granule_of (now n)) ≡ false = ap (λ z. (tables_of s).starts (granule_of z)) (sym e) ∙ clear in cc in
      let there : p ≡ at n = elim place [ inl e ↦ e | inr e ↦ absurd (elsewhere e) ] in
      let moved : now n ≢ at n = λ e. elsewhere (there ∙ sym e) in
      let promoted : IsTrue (has ps n) = elim (tested (has ps n)) [ inl k ↦ k | inr k ↦ absurd (moved (is.others n k)) ] in
      record {
        promoted = promoted;
        known = known;
        place = there;
        moved = moved;
        header = ap (λ z. header_of ((tables_of s).heap (first_word z))) there ∙ ap header_of (is.left_behind n promoted moved) ∙ moved_unpacked (now n) (place_small space n (now n) member (inr refl));
      }

  -- where none stands, the object is new, or was copied and has left its place
  pub unbegun : AreMade m ps → IsSpace s → StartsAre (tables_of s) now (with_promoted m ps) → (n : Name) (p : ℕ) → IsTrue (has (members m) n) → IsPlaceOf at now n p
      → (tables_of s).starts (granule_of p) ≡ false → IsNewAt s m at now ps n p ⊎ IsMovedAt s m at now ps n p
  unbegun made space starts n p member place clear = elim (tested (has (with_promoted m ps) n)) [
    | inl known ↦ inr (is_moved made space starts n p member place clear known)
    | inr unknown ↦ inl (is_new n p member place unknown)
  ]
