-- Names die one after another: a reference that is taken away and a name that goes keep what holds, and at the end exactly the dead are
-- gone.
use Rattle.std.proofs.Common.{◌≡◌, ℕ, ◌+◌, ◌-◌, ◌<◌, ◌≤◌, refl, sym, ap, subst, ◌∙◌, inl, inr, ◌⊎◌, arith, true, false, List, [], ◌∷◌, ◌++◌, IsTrue, length, drop}
use Rattle.std.specs.Prelude.{Option, Some, None, not, ◌&&◌, ◌↔◌, slice_get}
use Rattle.std.proofs.lemmas.Bool.{and_from, and_parts, cases_Bool, not-true, not_from_false, or_cases, or_left, or_right}
use Rattle.std.proofs.lemmas.List.{drop-append-le, length_push}
use Rattle.std.proofs.lemmas.Option.{get_or_from_slice_get, slice_get_within}
use Rattle.lxr_layout.specs.declared.Name.{Name}
use Rattle.lxr_graph.specs.Names.{has, same_name, without}
use Rattle.lxr_graph.specs.Distinct.{IsDistinct}
use Rattle.lxr_graph.specs.State.{State, object_at, refs_of}
use Rattle.lxr_graph.proofs.NameSets.{in_without, not_both, same_names, without_parts}
use Rattle.lxr_model.specs.Dead.{Dead}
use Rattle.lxr_model.specs.References.{occurrences, references, references_from}
use Rattle.lxr_model_counting.specs.Lowering.{IsLowered, once}
use Rattle.lxr_model_counting.proofs.DistinctLemmas.{without_same}
use Rattle.lxr_model_counting.proofs.LoweringLemmas.{drops, once_other, over, without_none}
use Rattle.lxr_judge_sets.specs.ByName.{Cells, value_at}
use Rattle.lxr_judge_sets.specs.NameSets.{joined}
use Rattle.lxr_judge_sets.specs.Dying.{AreCountsLeft, IsDying, waiting}
use Rattle.lxr_judge_sets.specs.declared.dying.Dying.{Dying}
use Rattle.lxr_judge_sets.proofs.NameSetLemmas.{has-push, joined-new, joined-old, or_flip}
use Rattle.lxr_judge_sets.proofs.TallyLemmas.{from_all, from_more, from_push}

-- ---- what is asked

-- only which names are gone is asked, and how often each waits
lowered_same : (s : State) (us stuck gone others : List Name) (count pending waits : Name → ℕ) → ((n : Name) → has gone n ≡ has others n)
    → ((o : Name) → pending o ≡ waits o) → IsLowered s us stuck gone count pending → IsLowered s us stuck others count waits
lowered_same s us stuck gone others count pending waits same waited is = record {
  dead = λ o h. is.dead o (same o ∙ h);
  zero = λ o h. is.zero o (same o ∙ h);
  exact = λ o in_us unstuck.
      let e = is.exact o in_us unstuck in
      let r = ap (λ xs. references s xs o) (without_same us gone others same) in
      let w = waited o in
      omega (arith, e, r, w);
}

-- fewer names may be seen
pub dying_seen : (s : State) (us stuck seen fewer : List Name) (k : ℕ) (held : List (Option Name)) (d : Dying)
    → ((o : Name) → IsTrue (has us o) → IsTrue (has fewer o) → IsTrue (has seen o))
    → IsDying s us stuck seen k held d → IsDying s us stuck fewer k held d
dying_seen s us stuck seen fewer k held d within is = record {
  once = is.once;
  mortal = is.mortal;
  within = is.within;
  lowered = is.lowered;
  over = λ o h in_us. is.over o (within o in_us h) in_us;
}

-- ---- a name goes, or stays

-- a name may die that is in U and unstuck
mortal_parts : (s : State) (us stuck seen : List Name) (k : ℕ) (held : List (Option Name)) (d : Dying) (n : Name)
    → IsDying s us stuck seen k held d
    → value_at d.mortal n ≡ true → IsTrue (has us n) × (has stuck n ≡ false)
mortal_parts s us stuck seen k held d n is may =
    let both = and_parts (has us n) (not (has stuck n)) (sym (is.mortal n) ∙ may) in
    (both.0, not-true (has stuck n) both.1)

more_waits : (s : State) (k : ℕ) (held : List (Option Name)) (gone : List Name) (n o : Name) → k ≤ length gone
    → waiting s k held gone o + occurrences (refs_of (object_at s.graph n)) o ≡ waiting s k held (gone ++ n ∷ []) o
more_waits s k held gone n o within =
    let cut : references_from s.graph (drop k (gone ++ n ∷ [])) o ≡ references_from s.graph (drop k gone ++ n ∷ []) o
    = ap (λ xs. references_from s.graph xs o) (drop-append-le k gone (n ∷ []) within) in
    let pushed = from_push s.graph (drop k gone) n o in
    omega (arith, cut, pushed)

-- a name without a count is gone
dying_goes : (s : State) (us stuck seen : List Name) (k : ℕ) (held : List (Option Name)) (d : Dying) (n : Name)
    → IsDying s us stuck seen k held d
    → value_at d.mortal n ≡ true → value_at d.counts n ≡ 0 → has d.gone n ≡ false
    → IsDying s us stuck (seen ++ n ∷ []) k held (record d { gone = d.gone ++ n ∷ [] })
dying_goes s us stuck seen k held d n is may none there =
    let at = mortal_parts s us stuck seen k held d n is may in
    let more : Name → ℕ = λ o. waiting s k held d.gone o + occurrences (refs_of (object_at s.graph n)) o in
    let dropped = drops s us stuck d.gone (value_at d.counts) (waiting s k held d.gone) more n is.lowered is.once at.0 at.1 there none
    (λ o. refl) in
    let longer = length_push d.gone n in
    let within = is.within in
    record {
      once = is.once;
      mortal = is.mortal;
      within = omega (arith, longer, within);
      lowered = lowered_same s us stuck (n ∷ d.gone) (d.gone ++ n ∷ []) (value_at d.counts) more (waiting s k held (d.gone ++ n ∷ []))
          (λ q. or_flip (same_name q n) (has d.gone q) ∙ sym (has-push d.gone n q)) (λ o. more_waits s k held d.gone n o is.within) dropped;
      over = λ o h in_us unstuck zero. elim (or_cases (has seen o) (same_name o n) (sym (has-push seen n o) ∙ h)) [
        | inl e ↦ has-push d.gone n o ∙ or_left (has d.gone o) (same_name o n) (is.over o e in_us unstuck zero)
        | inr e ↦ has-push d.gone n o ∙ or_right (has d.gone o) (same_name o n) e
      ];
    }

-- a name that is gone, one that may not die, or one with a count stays as it is
pub dying_stays : (s : State) (us stuck seen : List Name) (k : ℕ) (held : List (Option Name)) (d : Dying) (n : Name)
    → IsDying s us stuck seen k held d
    → (IsTrue (has d.gone n) ⊎ (value_at d.mortal n ≡ false) ⊎ (value_at d.counts n ≡ 0 → ⊥)) → IsDying s us stuck (seen ++ n ∷ []) k held d
dying_stays s us stuck seen k held d n is why = record {
  once = is.once;
  mortal = is.mortal;
  within = is.within;
  lowered = is.lowered;
  over = λ o h in_us unstuck zero. elim (or_cases (has seen o) (same_name o n) (sym (has-push seen n o) ∙ h)) [
    | inl e ↦ is.over o e in_us unstuck zero
    | inr e ↦
        let same : o ≡ n = same_names o n e in
        elim why [
          | inl there ↦ ap (has d.gone) same ∙ there
          | inr other ↦ elim other [
            | inl never ↦ not_both (value_at d.mortal n)
                (ap (value_at d.mortal) (sym same) ∙ is.mortal o
                ∙ and_from (has us o) (not (has stuck o)) in_us (not_from_false (has stuck o) unstuck)) never
            | inr some ↦ absurd (some (ap (value_at d.counts) (sym same) ∙ zero))
          ]
        ]
  ];
}

-- a name without a count that may die is among the gone then
pub dying_joins : (s : State) (us stuck seen : List Name) (k : ℕ) (held : List (Option Name)) (d : Dying) (n : Name) (gone : List Name)
    → IsDying s us stuck seen k held d
    → value_at d.mortal n ≡ true → value_at d.counts n ≡ 0 → gone ≡ joined d.gone n
    → IsDying s us stuck (seen ++ n ∷ []) k held (record d { gone = gone })
dying_joins s us stuck seen k held d n gone is may none joins =
    subst (λ xs. IsDying s us stuck (seen ++ n ∷ []) k held (record d { gone = xs })) (sym joins) (elim (cases_Bool (has d.gone n)) [
      | inl e ↦ subst (λ xs. IsDying s us stuck (seen ++ n ∷ []) k held (record d { gone = xs })) (sym (joined-old d.gone n e))
          (dying_stays s us stuck seen k held d n is (inl e))
      | inr e ↦ subst (λ xs. IsDying s us stuck (seen ++ n ∷ []) k held (record d { gone = xs })) (sym (joined-new d.gone n e))
          (dying_goes s us stuck seen k held d n is may none e)
    ])

-- ---- a reference is taken away

-- a reference that waited is taken from its name's count, of which nothing is known then
pub dying_lowers : (s : State) (us stuck : List Name) (k : ℕ) (held : List (Option Name)) (d : Dying) (n : Name) (counts : Cells ℕ)
    → IsDying s us stuck us k (Some n ∷ held) d → ((o : Name) → value_at counts o ≡ value_at d.counts o - once o n)
    → IsDying s us stuck (without us (n ∷ [])) k held (record d { counts = counts })
dying_lowers s us stuck k held d n counts is less = record {
  once = is.once;
  mortal = is.mortal;
  within = is.within;
  lowered = record {
    dead = is.lowered.dead;
    zero = λ o h. let z = is.lowered.zero o h in let l = less o in omega (arith, z, l);
    exact = λ o in_us unstuck. let e = is.lowered.exact o in_us unstuck in let l = less o in omega (arith, e, l);
  };
  over = λ o h in_us unstuck zero.
      let at = without_parts us (n ∷ []) o h in
      let apart : same_name o n ≡ false = elim (cases_Bool (same_name o n)) [
        | inl e ↦ not_both (has (n ∷ []) o) (or_left (same_name o n) false e) at.1
        | inr e ↦ e
      ] in
      let none = once_other o n apart in
      let l = less o in
      is.over o in_us in_us unstuck (omega (arith, none, l, zero));
}

-- each name of U is that name or another
pub all_seen : (us : List Name) (n o : Name) → IsTrue (has us o) → IsTrue (has us o) → IsTrue (has (without us (n ∷ []) ++ n ∷ []) o)
all_seen us n o in_us again = has-push (without us (n ∷ [])) n o ∙ elim (cases_Bool (same_name o n)) [
  | inl e ↦ or_right (has (without us (n ∷ [])) o) (same_name o n) e
  | inr e ↦ or_left (has (without us (n ∷ [])) o) (same_name o n)
      (in_without us (n ∷ []) o in_us (λ h. elim (or_cases (same_name o n) false h) [
        | inl k ↦ not_both (same_name o n) k e
        | inr k ↦ absurd (cc)
      ]))
]

-- a reference that is nil waits for nothing
pub dying_nil : (s : State) (us stuck seen : List Name) (k : ℕ) (held : List (Option Name)) (d : Dying)
    → IsDying s us stuck seen k (None ∷ held) d → IsDying s us stuck seen k held d
dying_nil s us stuck seen k held d is = record {
  once = is.once;
  mortal = is.mortal;
  within = is.within;
  lowered = lowered_same s us stuck d.gone d.gone (value_at d.counts) (waiting s k (None ∷ held) d.gone) (waiting s k held d.gone)
      (λ n. refl) (λ o. omega arith) is.lowered;
  over = is.over;
}

-- ---- from one of the dead to the next

-- the references of the next of the dead wait by themselves
pub dying_next : (s : State) (us stuck : List Name) (k : ℕ) (d : Dying) (n : Name) → IsDying s us stuck us k [] d
    → slice_get d.gone k ≡ Some n
    → IsDying s us stuck us (k + 1) (refs_of (object_at s.graph n)) d
dying_next s us stuck k d n is at =
    let inside : k < length d.gone = slice_get_within d.gone k n at in
    record {
      once = is.once;
      mortal = is.mortal;
      within = omega (arith, inside);
      lowered = lowered_same s us stuck d.gone d.gone (value_at d.counts) (waiting s k [] d.gone)
          (waiting s (k + 1) (refs_of (object_at s.graph n)) d.gone) (λ q. refl)
          (λ o.
          let more = from_more s.graph d.gone k n o inside in
          let same = ap (λ x. occurrences (refs_of (object_at s.graph x)) o) (get_or_from_slice_get d.gone k n n at) in
          omega (arith, more, same))
          is.lowered;
      over = is.over;
    }

-- ---- the beginning and the end

pub dying_begins : (s : State) (us stuck : List Name) (d : Dying) → IsDistinct us
    → ((o : Name) → value_at d.mortal o ≡ (has us o && not (has stuck o)))
    → ((o : Name) → value_at d.counts o ≡ references s us o) → d.gone ≡ [] → IsDying s us stuck [] 0 [] d
dying_begins s us stuck d distinct mortal counts none =
    subst (λ xs. IsDying s us stuck [] 0 [] (record d { gone = xs })) (sym none) (record {
      once = distinct;
      mortal = mortal;
      within = omega arith;
      lowered = record {
        dead = λ o h. absurd (cc);
        zero = λ o h. absurd (cc);
        exact = λ o in_us unstuck.
            let e = counts o in
            let all = ap (λ xs. references s xs o) (without_none us) in
            omega (arith, e, all);
      };
      over = λ o h. absurd (cc);
    })

none_waits : (s : State) (gone : List Name) (o : Name) → waiting s (length gone) [] gone o ≡ 0
none_waits s gone o = let e = from_all s.graph gone (length gone) o (omega arith) in omega (arith, e)

-- all that are gone are scanned: exactly the dead are gone
pub dying_ends : (s : State) (us stuck : List Name) (d : Dying) → IsDying s us stuck us (length d.gone) [] d → (o : Name)
    → IsTrue (has d.gone o) ↔ Dead s us stuck o
dying_ends s us stuck d is =
    over s us stuck d.gone (value_at d.counts) (waiting s (length d.gone) [] d.gone) is.lowered (none_waits s d.gone)
    (λ o in_us. is.over o in_us in_us)

-- and what is counted are the references of the others
pub counts_left : (s : State) (us stuck names : List Name) (d : Dying) → IsDying s us stuck us (length d.gone) [] d
    → ((n : Name) → has names n ≡ has d.gone n)
    → AreCountsLeft s us stuck names d.counts
counts_left s us stuck names d is same o in_us unstuck =
    let e = is.lowered.exact o in_us unstuck in
    let none = none_waits s d.gone o in
    let r = ap (λ xs. references s xs o) (without_same us names d.gone same) in
    omega (arith, e, none, r)
