-- Clearing a range, one entry after another, and clearing the bits of one object after another.
use Rattle.std.proofs.Common.{◌≡◌, ℕ, ◌/◌, ◌%◌, ◌<◌, ◌≤◌, refl, sym, ap, ◌∙◌, inl, inr, ◌⊎◌, arith, Bool, false, cond, List, [], ◌∷◌, nat_lt, nat_le}
use Rattle.std.specs.Prelude.{◌&&◌}
use Rattle.std.proofs.lemmas.Bool.{or_cases, or_left, or_right}
use Rattle.std.proofs.lemmas.Bool.Decides.{eqb_tells, leb_tells, nat_tests}
use Rattle.lxr_layout.specs.declared.Name.{Name}
use Rattle.lxr_layout.specs.declared.TheConstants.{GRANULES_IN_LINE}
use Rattle.lxr_graph.specs.Names.{has, same_name}
use Rattle.lxr_graph.proofs.NameSets.{same_itself, same_names}
use Rattle.lxr_image.specs.Tables.{changed}
use Rattle.lxr_image.specs.Reads.{granule_of}
use Rattle.lxr_invariant.proofs.EntryLemmas.{changed_here, changed_other}
use Rattle.lxr_invariant.proofs.PlaceLemmas.{BeginsLine}
use Rattle.lxr_pause_decrements.specs.Wipe.{LosesBits}
use Rattle.lxr_blocks.specs.Clearing.{unmarked_between}

pub wiped_in : (f : ℕ → ℕ) (a b k : ℕ) → BeginsLine a b k → unmarked_between f a b k ≡ 0
wiped_in f a b k is = let l = is.begins in let m = is.from in let n = is.below in grind (arith, nat_tests)

wiped_before : (f : ℕ → ℕ) (a b k : ℕ) → k / GRANULES_IN_LINE < a → unmarked_between f a b k ≡ f k
wiped_before f a b k h = grind (arith, nat_tests)

wiped_behind : (f : ℕ → ℕ) (a b k : ℕ) → b ≤ k / GRANULES_IN_LINE → unmarked_between f a b k ≡ f k
wiped_behind f a b k h = grind (arith, nat_tests)

pub wiped_out : (f : ℕ → ℕ) (a b k : ℕ) → (BeginsLine a b k → ⊥) → unmarked_between f a b k ≡ f k
wiped_out f a b k out = elim (eqb_tells (k % GRANULES_IN_LINE) 0) [
  | inr q ↦ ap (λ t. cond (t && (nat_le a (k / GRANULES_IN_LINE) && nat_lt (k / GRANULES_IN_LINE) b)) 0 (f k)) q.0
  | inl q ↦ elim (leb_tells a (k / GRANULES_IN_LINE)) [
    | inr p ↦ wiped_before f a b k p.1
    | inl p ↦ elim (leb_tells b (k / GRANULES_IN_LINE)) [
      | inl r ↦ wiped_behind f a b k r.1
      | inr r ↦ absurd (out (record { begins = q.1; from = p.1; below = r.1 }))
    ]
  ]
]

pub wipe_cases : (a b k : ℕ) → BeginsLine a b k ⊎ (BeginsLine a b k → ⊥)
wipe_cases a b k = elim (eqb_tells (k % GRANULES_IN_LINE) 0) [
  | inr q ↦ inr (λ is. q.1 is.begins)
  | inl q ↦ elim (leb_tells a (k / GRANULES_IN_LINE)) [
    | inr p ↦ inr (λ is. let f = is.from in let h = p.1 in absurd (omega (arith, f, h)))
    | inl p ↦ elim (leb_tells b (k / GRANULES_IN_LINE)) [
      | inl r ↦ inr (λ is. let f = is.below in let h = r.1 in absurd (omega (arith, f, h)))
      | inr r ↦ inl (record { begins = q.1; from = p.1; below = r.1 })
    ]
  ]
]

-- ---- the bits of one object after another

pub loses_none : (f : ℕ → Bool) (at : Name → ℕ) → LosesBits f f at []
loses_none f at = record { reclaimed = λ n h. absurd (cc); others = λ k nobody. refl }

pub loses_more : (before after : ℕ → Bool) (at : Name → ℕ) (gone : List Name) (r : Name) → LosesBits before after at gone
    → LosesBits before (changed after (granule_of (at r)) false) at (r ∷ gone)
loses_more before after at gone r is =
    let g : ℕ = granule_of (at r) in
    record {
      reclaimed = λ n h. elim (or_cases (same_name n r) (has gone n) h) [
        | inl k ↦ changed_here after g false (granule_of (at n)) (ap (λ z. granule_of (at z)) (same_names n r k))
        | inr k ↦ elim (eqb_tells (granule_of (at n)) g) [
          | inl q ↦ changed_here after g false (granule_of (at n)) q.1
          | inr q ↦ changed_other after g false (granule_of (at n)) q.1 ∙ is.reclaimed n k
        ]
      ];
      others = λ k nobody.
          changed_other after g false k (λ e. nobody r (or_left (same_name r r) (has gone r) (same_itself r)) (sym e))
          ∙ is.others k (λ n h. nobody n (or_right (same_name n r) (has gone n) h));
    }

-- the order of the names is nothing to it
pub loses_same : (before after : ℕ → Bool) (at : Name → ℕ) (gone names : List Name) → ((n : Name) → has names n ≡ has gone n) → LosesBits before after at gone → LosesBits before after at names
loses_same before after at gone names same is = record {
  reclaimed = λ n h. is.reclaimed n (sym (same n) ∙ h);
  others = λ k nobody. is.others k (λ n h. nobody n (same n ∙ h));
}
