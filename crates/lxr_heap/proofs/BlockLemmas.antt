-- Where no run of free blocks is long enough, bodies touch each slot of so many blocks, and each body touches few of them: its blocks over the
-- slot's, rounded up, and one.
use Rattle.std.proofs.Common.{◌≡◌, ℕ, ◌+◌, ◌-◌, ◌*◌, ◌/◌, ◌<◌, ◌≤◌, refl, sym, ap, subst, ◌∙◌, inl, inr, arith, Bool, true, false, cond, List, [], ◌∷◌, ltb, leb, Option, Some, None}
use Rattle.std.specs.Prelude.{◌&&◌, ◌||◌, IsTrue, sum_by}
use Rattle.std.specs.List.{AllByRecursion, list_any}
use Rattle.std.proofs.Math.Nat.{div-mul-le_self, mul-le-mul_right}
use Rattle.std.proofs.lemmas.Bool.{and_parts, cases_Bool, lt-ltb, leb-true, ltb-true}
use Rattle.std.proofs.lemmas.List.Sums.{sum_by-cons}
use Rattle.lxr_layout.specs.declared.Name.{Name}
use Rattle.lxr_graph.specs.Names.{has, same_name}
use Rattle.lxr_graph.proofs.NameSets.{same_itself, same_names}
use Rattle.lxr_model.specs.Full.{slots_touched}
use Rattle.lxr_full.specs.Touched.{count_passing}
use Rattle.lxr_full.proofs.SlotLemmas.{counts_all, counts_in_window, counts_none, slot_in_window}
use Rattle.lxr_full.proofs.TakenLines.{all_or_one}
use Rattle.lxr_large_bodies.specs.Bodies.{Body, Held, body_of, takes}
use Rattle.lxr_heap.specs.Acting.{HasRun}
use Rattle.lxr_heap.specs.Holding.{AreApart, IsOther, IsWhole}

-- ---- bodies by name

-- what is found under a name is of that name
pub found_named : (bs : List Body) (n : Name) (b : Body) → body_of bs n ≡ Some b → same_name n b.name ≡ true
found_named [] n b found = absurd (cc)
found_named (c ∷ cs) n b found = elim (same_name n c.name) as (λ t. same_name n c.name ≡ t → cond t (Some c) (body_of cs n) ≡ Some b → same_name n b.name ≡ true) [
  | true ↦ λ same e. let is : c ≡ b = cc in subst (λ (z : Body). same_name n z.name ≡ true) is same
  | false ↦ λ other e. found_named cs n b e
] refl found

-- and is one of the bodies
pub found_all : (P : Body → Type 0) (bs : List Body) (n : Name) (b : Body) → AllByRecursion P bs → body_of bs n ≡ Some b → P b
found_all P [] n b all found = absurd (cc)
found_all P (c ∷ cs) n b all found = elim (same_name n c.name) as (λ t. cond t (Some c) (body_of cs n) ≡ Some b → P b) [
  | true ↦ λ e. let is : c ≡ b = cc in subst P is all.0
  | false ↦ λ e. found_all P cs n b all.1 e
] found

pub found_whole : (blocks : ℕ) (bs : List Body) (n : Name) (b : Body) → AreApart blocks bs → body_of bs n ≡ Some b → IsWhole blocks b
found_whole blocks [] n b apart found = absurd (cc)
found_whole blocks (c ∷ cs) n b apart found = elim (same_name n c.name) as (λ t. cond t (Some c) (body_of cs n) ≡ Some b → IsWhole blocks b) [
  | true ↦ λ e. let is : c ≡ b = cc in subst (IsWhole blocks) is apart.0
  | false ↦ λ e. found_whole blocks cs n b apart.2 e
] found

-- a body that passes a test is found under its name
pub record IsFound (bs : List Body) (p : Body → Bool) : Type 0 where
  pub name : Name
  pub body : Body
  pub found : body_of bs name ≡ Some body
  pub passes : p body ≡ true

pub one_found : (blocks : ℕ) (p : Body → Bool) (bs : List Body) → AreApart blocks bs → list_any p bs ≡ true → IsFound bs p
one_found blocks p [] apart some = absurd (cc)
one_found blocks p (b ∷ bs) apart some = elim (p b) as (λ c. p b ≡ c → (c || list_any p bs) ≡ true → IsFound (b ∷ bs) p) [
  | true ↦ λ passes e. record { name = b.name; body = b; found = ap (λ c. cond c (Some b) (body_of bs b.name)) (same_itself b.name); passes = passes }
  | false ↦ λ fails e.
      let rest = one_found blocks p bs apart.2 e in
      let other = found_all (IsOther b) bs rest.name rest.body apart.1 rest.found in
      let own : rest.name ≡ rest.body.name = same_names rest.name rest.body.name (found_named bs rest.name rest.body rest.found) in
      record {
        name = rest.name;
        body = rest.body;
        found = ap (λ c. cond c (Some b) (body_of bs rest.name)) (unlike b.name rest.name (subst (λ q. same_name b.name q ≡ false) (sym own) other.named)) ∙ rest.found;
        passes = rest.passes;
      }
] refl some
  where
    unlike : (a c : Name) → same_name a c ≡ false → same_name c a ≡ false
    unlike a c other = elim (same_name c a) as (λ t. same_name c a ≡ t → t ≡ false) [
      | true ↦ λ same. let is : c ≡ a = same_names c a same in let no : true ≡ false = sym (same_itself a) ∙ subst (λ q. same_name a q ≡ false) is other in absurd (cc)
      | false ↦ λ e. refl
    ] refl

-- ---- slots

-- a body touches slot j of k blocks
abbrev touches : ℕ → ℕ → Body → Bool
touches k j b = ltb (j * k) (b.first + b.blocks) && ltb b.first (j * k + k)

-- what was found does
abbrev touched_by : ℕ → ℕ → Option Body → Bool
touched_by k j None = false
touched_by k j (Some b) = touches k j b

-- one of the bodies of these names does
abbrev some_touches : List Body → ℕ → List Name → ℕ → Bool
some_touches bs k [] j = false
some_touches bs k (n ∷ ns) j = touched_by k j (body_of bs n) || some_touches bs k ns j

-- the slots of what was found
abbrev pub slots_by : ℕ → Option Body → ℕ
slots_by k None = 0
slots_by k (Some b) = slots_touched k b.blocks

-- one name more touches few slots more
one_more : (bs : List Body) (k q : ℕ) (n : Name) (ns : List Name) → 1 ≤ k → count_passing (some_touches bs k (n ∷ ns)) q ≤ count_passing (some_touches bs k ns) q + slots_by k (body_of bs n)
one_more bs k q n ns some = elim (body_of bs n) as (λ found. count_passing (λ j. touched_by k j found || some_touches bs k ns j) q ≤ count_passing (some_touches bs k ns) q + slots_by k found) [
  | None ↦ (counts_in_window (λ j. false || some_touches bs k ns j) (some_touches bs k ns) 0 0 q (λ j h. inl refl)).1
  | Some b ↦ (counts_in_window (λ j. touches k j b || some_touches bs k ns j) (some_touches bs k ns) ((b.first - 0) / k) (slots_touched k b.blocks) q (λ j h. elim (cases_Bool (touches k j b)) [
    | inl hit ↦
        let both = and_parts (ltb (j * k) (b.first + b.blocks)) (ltb b.first (j * k + k)) hit in
        let low = ltb-true _ _ both.0 in
        let high = ltb-true _ _ both.1 in
        inr (slot_in_window 0 b.first b.blocks k j some (omega (arith, high)) (omega (arith, low)))
    | inr miss ↦ inl (ap (λ c. c || some_touches bs k ns j) miss)
  ])).1
]

-- so these names touch few
few_touched : (bs : List Body) (k q : ℕ) (ns : List Name) → 1 ≤ k → count_passing (some_touches bs k ns) q ≤ sum_by (λ n. slots_by k (body_of bs n)) ns
few_touched bs k q [] some = let none = counts_none (λ j. false) q (λ j h. refl) in omega (arith, none)
few_touched bs k q (n ∷ ns) some =
    let one = one_more bs k q n ns some in
    let rest = few_touched bs k q ns some in
    let sum = sum_by-cons (λ n. slots_by k (body_of bs n)) n ns in
    omega (arith, one, rest, sum)

-- a slot is touched where the body of one of the names touches it
touched_here : (bs : List Body) (k j : ℕ) (ns : List Name) (n : Name) (b : Body) → IsTrue (has ns n) → body_of bs n ≡ Some b → touches k j b ≡ true → some_touches bs k ns j ≡ true
touched_here bs k j [] n b member found hit = absurd (cc)
touched_here bs k j (m ∷ ns) n b member found hit = elim (same_name n m) as (λ c. same_name n m ≡ c → (c || has ns n) ≡ true → some_touches bs k (m ∷ ns) j ≡ true) [
  | true ↦ λ same e.
      let own : touched_by k j (body_of bs m) ≡ true = ap (touched_by k j) (subst (λ q. body_of bs q ≡ Some b) (same_names n m same) found) ∙ hit in
      ap (λ c. c || some_touches bs k ns j) own
  | false ↦ λ other e. elim (touched_by k j (body_of bs m)) as (λ c. (c || some_touches bs k ns j) ≡ true) [ true ↦ refl | false ↦ touched_here bs k j ns n b e found hit ]
] refl member

-- a block of a slot that a body has is one by which it touches the slot
block_touches : (k j i : ℕ) (b : Body) → i < k → takes (j * k + i) b ≡ true → touches k j b ≡ true
block_touches k j i b within has_it =
    let both = and_parts (leb b.first (j * k + i)) (ltb (j * k + i) (b.first + b.blocks)) has_it in
    let low = leb-true _ _ both.0 in
    let high = ltb-true _ _ both.1 in
    ap (λ c. c && ltb b.first (j * k + k)) (lt-ltb _ _ (omega (arith, high))) ∙ lt-ltb _ _ (omega (arith, low, within))

-- a slot that lies within the blocks isn't a free run, so it is touched
slot_touched : (held : Held) (k j : ℕ) (ns : List Name) → ¬ HasRun held k → AreApart held.blocks held.bodies → ((n : Name) (b : Body) → body_of held.bodies n ≡ Some b → IsTrue (has ns n))
    → j * k + k ≤ held.blocks → some_touches held.bodies k ns j ≡ true
slot_touched held k j ns none apart all within =
    elim (all_or_one (λ i. list_any (takes (j * k + i)) held.bodies ≡ false) k (λ i. elim (cases_Bool (list_any (takes (j * k + i)) held.bodies)) [
      | inl hit ↦ inr (λ miss. let both : true ≡ false = sym hit ∙ miss in absurd (cc))
      | inr miss ↦ inl miss
    ])) [
      | inl free ↦ absurd (none (
        j * k,
        record {
          within = within;
          free = λ q low high.
              let same : j * k + (q - j * k) ≡ q = omega (arith, low) in
              subst (λ z. list_any (takes z) held.bodies ≡ false) same (free (q - j * k) (omega (arith, low, high)));
        },
      ))
      | inr x ↦
          let some : list_any (takes (j * k + x.0)) held.bodies ≡ true = elim (cases_Bool (list_any (takes (j * k + x.0)) held.bodies)) [ inl hit ↦ hit | inr miss ↦ absurd (x.2 miss) ] in
          let one = one_found held.blocks (takes (j * k + x.0)) held.bodies apart some in
          touched_here held.bodies k j ns one.name one.body (all one.name one.body one.found) one.found (block_touches k j x.0 one.body x.1 one.passes)
    ]

-- where no run of k blocks is free, the bodies of these names touch each slot
pub no_run_left : (held : Held) (k : ℕ) (ns : List Name) → 1 ≤ k → ¬ HasRun held k → AreApart held.blocks held.bodies → ((n : Name) (b : Body) → body_of held.bodies n ≡ Some b → IsTrue (has ns n))
    → held.blocks / k ≤ sum_by (λ n. slots_by k (body_of held.bodies n)) ns
no_run_left held k ns some none apart all =
    let each : count_passing (some_touches held.bodies k ns) (held.blocks / k) ≡ held.blocks / k = counts_all (some_touches held.bodies k ns) (held.blocks / k) (λ j below.
    slot_touched held k j ns none apart all (let up = mul-le-mul_right k below in let down = div-mul-le_self held.blocks k in omega (arith, up, down))) in
    let few = few_touched held.bodies k (held.blocks / k) ns some in
    omega (arith, each, few)

-- sums of two counts that are the same of each name are the same
pub same_sums : (f f' : Name → ℕ) (ns : List Name) → ((n : Name) → IsTrue (has ns n) → f n ≡ f' n) → sum_by f ns ≡ sum_by f' ns
same_sums f f' [] same = refl
same_sums f f' (n ∷ ns) same =
    sum_by-cons f n ns ∙ ap (λ k. k + sum_by f ns) (same n (ap (λ c. c || has ns n) (same_itself n)))
    ∙ ap (λ k. f' n + k) (same_sums f f' ns (λ q h. same q (elim (same_name q n) as (λ c. (c || has ns q) ≡ true) [ true ↦ refl | false ↦ h ]))) ∙ sym (sum_by-cons f' n ns)
