-- Names joined to a list one after another, each once.
use Rattle.std.proofs.Common.{◌≡◌, refl, sym, ap, subst, ◌∙◌, inl, inr, Bool, true, false, cond, List, [], ◌∷◌, ◌++◌, IsTrue}
use Rattle.std.specs.Prelude.{not, ◌&&◌, ◌||◌}
use Rattle.std.proofs.lemmas.Bool.{cases_Bool, or_parts, or_from, or_right, false_from_ne_true}
use Rattle.std.proofs.lemmas.List.{append-nil, append_assoc}
use Rattle.std.proofs.lemmas.List.Folds.{list_any-append}
use Rattle.lxr_layout.specs.declared.Name.{Name}
use Rattle.lxr_graph.specs.Names.{AreInOrder, has, same_name, union, without}
use Rattle.lxr_graph.specs.Distinct.{IsDistinct}
use Rattle.lxr_graph.proofs.NameSets.{has-union, has-without, in_order-union, not_both, one_list, same_itself, same_names}
use Rattle.lxr_model_counting.proofs.DistinctLemmas.{in_order_distinct, same_flip}
use Rattle.lxr_judge_sets.specs.ByName.{Cells, value_at}
use Rattle.lxr_judge_sets.specs.NameSets.{IsMarked, all_joined, joined}

-- ---- tests

pub or_nothing : (a : Bool) → (a || false) ≡ a
or_nothing true = refl
or_nothing false = refl

pub or_flip : (a b : Bool) → (a || b) ≡ (b || a)
or_flip true true = refl
or_flip true false = refl
or_flip false true = refl
or_flip false false = refl

pub or_assoc : (a b c : Bool) → ((a || b) || c) ≡ (a || (b || c))
or_assoc true b c = refl
or_assoc false b c = refl

-- ---- one name more

pub has-push : (ns : List Name) (n q : Name) → has (ns ++ n ∷ []) q ≡ (has ns q || same_name q n)
has-push ns n q = list_any-append (same_name q) ns (n ∷ []) ∙ ap (λ b. has ns q || b) (or_nothing (same_name q n))

pub has-joined : (ns : List Name) (n q : Name) → has (joined ns n) q ≡ (has ns q || same_name q n)
has-joined ns n q = elim (cases_Bool (has ns n)) [
  | inl e ↦ subst (λ b. has (cond b ns (ns ++ n ∷ [])) q ≡ (has ns q || same_name q n)) (sym e) (elim (cases_Bool (same_name q n)) [
    | inl k ↦ let there : has ns q ≡ true = ap (has ns) (same_names q n k) ∙ e in there ∙ sym (or_right (has ns q) (same_name q n) k)
    | inr k ↦ sym (ap (λ b. has ns q || b) k ∙ or_nothing (has ns q))
  ])
  | inr e ↦ subst (λ b. has (cond b ns (ns ++ n ∷ [])) q ≡ (has ns q || same_name q n)) (sym e) (has-push ns n q)
]

pub distinct-push : (ns : List Name) (n : Name) → IsDistinct ns → has ns n ≡ false → IsDistinct (ns ++ n ∷ [])
distinct-push [] n d h = (refl, tt)
distinct-push (m ∷ ns) n d h =
    let parts = or_parts (same_name n m) (has ns n) h in
    (has-push ns n m ∙ or_from (has ns m) (same_name m n) d.0 (same_flip n m parts.0), distinct-push ns n d.1 parts.1)

pub joined-new : (ns : List Name) (n : Name) → has ns n ≡ false → joined ns n ≡ ns ++ n ∷ []
joined-new ns n e = ap (λ b. cond b ns (ns ++ n ∷ [])) e

pub joined-old : (ns : List Name) (n : Name) → has ns n ≡ true → joined ns n ≡ ns
joined-old ns n e = ap (λ b. cond b ns (ns ++ n ∷ [])) e

-- the table of a set with one name more
pub marked-push : (before after : Cells Bool) (ns : List Name) (n : Name) → IsMarked before ns → has ns n ≡ false
    → ((q : Name) → value_at after q ≡ cond (same_name q n) true (value_at before q)) → IsMarked after (ns ++ n ∷ [])
marked-push before after ns n is new set = record {
  members = λ q. set q ∙ elim (cases_Bool (same_name q n)) [
    | inl e ↦ ap (λ b. cond b true (value_at before q)) e ∙ sym (has-push ns n q ∙ or_right (has ns q) (same_name q n) e)
    | inr e ↦ ap (λ b. cond b true (value_at before q)) e ∙ is.members q
        ∙ sym (has-push ns n q ∙ ap (λ b. has ns q || b) e ∙ or_nothing (has ns q))
  ];
  once = distinct-push ns n is.once new;
}

-- ---- many names more

pub has-all_joined : (ns ms : List Name) (q : Name) → has (all_joined ns ms) q ≡ (has ns q || has ms q)
has-all_joined ns [] q = sym (or_nothing (has ns q))
has-all_joined ns (m ∷ ms) q =
    has-all_joined (joined ns m) ms q ∙ ap (λ b. b || has ms q) (has-joined ns m q) ∙ or_assoc (has ns q) (same_name q m) (has ms q)

pub all_joined-push : (ns ms : List Name) (m : Name) → all_joined ns (ms ++ m ∷ []) ≡ joined (all_joined ns ms) m
all_joined-push ns [] m = refl
all_joined-push ns (x ∷ ms) m = all_joined-push (joined ns x) ms m

-- names that stand once, and none of which is there yet
all_joined-apart : (ns ms : List Name) → IsDistinct ms → ((q : Name) → IsTrue (has ms q) → has ns q ≡ false) → all_joined ns ms ≡ ns ++ ms
all_joined-apart ns [] d apart = sym (append-nil ns)
all_joined-apart ns (m ∷ ms) d apart =
    let here : IsTrue (has (m ∷ ms) m) = ap (λ b. b || has ms m) (same_itself m) in
    ap (λ xs. all_joined xs ms) (joined-new ns m (apart m here))
    ∙ all_joined-apart (ns ++ m ∷ []) ms d.1 (λ q h. has-push ns m q
    ∙ or_from (has ns q) (same_name q m) (apart q (or_right (same_name q m) (has ms q) h))
    (false_from_ne_true (same_name q m) (λ k. not_both (has ms m) (ap (has ms) (sym (same_names q m k)) ∙ h) d.0)))
    ∙ append_assoc ns (m ∷ []) ms

pub all_joined-none : (ms : List Name) → IsDistinct ms → all_joined [] ms ≡ ms
all_joined-none ms d = all_joined-apart [] ms d (λ q h. refl)

-- ---- without, and in order

distinct-cond : (b : Bool) (n : Name) (ns : List Name) → has ns n ≡ false → IsDistinct ns → IsDistinct (cond b (n ∷ ns) ns)
distinct-cond true n ns h d = (h, d)
distinct-cond false n ns h d = d

pub distinct-without : (ns out : List Name) → IsDistinct ns → IsDistinct (without ns out)
distinct-without [] out d = tt
distinct-without (n ∷ ns) out d =
    distinct-cond (not (has out n)) n (without ns out)
    (has-without ns out n ∙ ap (λ b. b && not (has out n)) d.0) (distinct-without ns out d.1)

-- the table of a set tells the same of its names in order
pub marked-in_order : (marks : Cells Bool) (ns ms : List Name) → IsMarked marks ns → AreInOrder ms → ((n : Name) → has ms n ≡ has ns n)
    → IsMarked marks ms
marked-in_order marks ns ms is ordered same = record {
  members = λ n. is.members n ∙ sym (same n);
  once = in_order_distinct ms ordered;
}

-- what has both sets' names in order is their union
pub union_is : (ns ms both : List Name) → AreInOrder ms → AreInOrder both → ((q : Name) → has both q ≡ (has ms q || has ns q))
    → both ≡ union ns ms
union_is ns ms both ordered in_order same =
    let one : (q : Name) → has both q ≡ has (union ns ms) q = λ q. same q ∙ or_flip (has ms q) (has ns q) ∙ sym (has-union ns ms q) in
    one_list both (union ns ms) in_order (in_order-union ns ms ordered) (λ q. (λ h. sym (one q) ∙ h, λ h. one q ∙ h))
