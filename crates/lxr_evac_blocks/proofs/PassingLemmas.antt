-- How many of the first numbers pass a test, as that of another, and of those that go before the last one.
use Rattle.std.proofs.Common.{◌≡◌, ◌≢◌, ℕ, zero, suc, ◌+◌, ◌<◌, ◌≤◌, ◌⊎◌, refl, sym, ap, subst, ◌∙◌, inl, inr, arith, Bool, true, false}
use Rattle.std.specs.Prelude.{◌&&◌, nat_lt}
use Rattle.std.proofs.lemmas.Bool.Decides.{eqb_tells, leb_tells}
use Rattle.lxr_invariant.specs.Counting.{passing}
use Rattle.lxr_invariant.proofs.EntryLemmas.{one_if, passing_more}
use Rattle.lxr_evac_blocks.proofs.TestLemmas.{and_false, and_true, below, both, not_below, one_at_most, told}

-- tests that are alike below a number pass as often
pub passing_alike : (f g : ℕ → Bool) (n : ℕ) → ((a : ℕ) → a < n → f a ≡ g a) → passing f n ≡ passing g n
passing_alike f g zero alike = refl
passing_alike f g (suc n) alike =
    ap (λ c. c + one_if (f n)) (passing_alike f g n (λ a low. alike a (omega (arith, low)))) ∙ ap (λ x. passing g n + one_if x) (alike n (omega arith))

pub passing_none : (f : ℕ → Bool) (n : ℕ) → ((a : ℕ) → a < n → f a ≡ false) → passing f n ≡ 0
passing_none f zero none = refl
passing_none f (suc n) none =
    let before = passing_none f n (λ a low. none a (omega (arith, low))) in
    let here : one_if (f n) ≡ 0 = ap one_if (none n (omega arith)) in
    omega (arith, before, here)

-- a test that holds where one of two others does, which never both do, passes as often as they together
pub passing_either : (f g h : ℕ → Bool) (n : ℕ) → ((a : ℕ) → one_if (h a) ≡ one_if (f a) + one_if (g a)) → passing h n ≡ passing f n + passing g n
passing_either f g h zero either = refl
passing_either f g h (suc n) either = let before = passing_either f g h n either in let here = either n in omega (arith, before, here)

-- of a test that holds only below a number, only what is below it counts
pub passing_first : (f : ℕ → Bool) (b n : ℕ) → b ≤ n → passing (λ a. f a && nat_lt a b) n ≡ passing f b
passing_first f b zero within = ap (passing f) (let none : zero ≡ b = omega arith in none)
passing_first f b (suc n) within = elim (leb_tells b n) [
  | inl past ↦
      let before = passing_first f b n past.1 in
      let here : one_if (f n && nat_lt n b) ≡ 0 = ap one_if (ap (λ x. f n && x) (not_below n b past.1) ∙ and_false (f n)) in
      omega (arith, before, here)
  | inr last ↦
      let end : b ≡ suc n = (let high = last.1 in omega arith) in
      passing_alike (λ a. f a && nat_lt a b) f (suc n) (λ a low. ap (λ x. f a && x) (below a b (omega (arith, low, end))) ∙ and_true (f a)) ∙ ap (passing f) (sym end)
]

-- with more numbers, no fewer pass
pub passing_grows : (f : ℕ → Bool) (n m : ℕ) → n ≤ m → passing f n ≤ passing f m
passing_grows f n m within = subst (λ k. k ≤ passing f m) (passing_first f n m within) (passing_more (λ a. f a && nat_lt a n) f m (λ a one. (both (f a) (nat_lt a n) one).0))

-- where one test implies another but at one number, the other passes as often or once less
all_but_one : (f g : ℕ → Bool) (k n : ℕ) → ((a : ℕ) → a < n → a ≢ k → f a ≡ true → g a ≡ true) → (n ≤ k → passing f n ≤ passing g n) × (passing f n ≤ passing g n + 1)
all_but_one f g k zero implies = ((λ high. omega arith), omega arith)
all_but_one f g k (suc n) implies =
    let before = all_but_one f g k n (λ a low. implies a (omega (arith, low))) in
    elim (eqb_tells n k) [
      | inl same ↦
          let at = same.1 in
          let one = one_at_most (f n) in
          let few = before.0 (omega (arith, at)) in
          ((λ high. absurd (omega (arith, at, high))), omega (arith, one, few))
      | inr unlike ↦
          let here : one_if (f n) ≤ one_if (g n) = elim (told (f n)) [
            | inl holds ↦ let one = ap one_if holds in let too = ap one_if (implies n (omega arith) unlike.1 holds) in omega (arith, one, too)
            | inr fails ↦ let none = ap one_if fails in omega (arith, none)
          ] in
          ((λ high. let few = before.0 (omega (arith, high)) in omega (arith, here, few)), (let few = before.1 in omega (arith, here, few)))
    ]

-- ---- where numbers stand in an order

-- of the first n numbers that pass, all others go before this one
record IsLast (s : ℕ → Bool) (before : ℕ → ℕ → Bool) (n last : ℕ) : Type 0 where
  pub within : last < n
  pub passes : s last ≡ true
  pub others : (a : ℕ) → a < n → a ≢ last → s a ≡ true → before a last ≡ true

module _ (s : ℕ → Bool) (before : ℕ → ℕ → Bool) (follows : (a b c : ℕ) → before a b ≡ true → before b c ≡ true → before a c ≡ true)
    (total : (a b : ℕ) → a ≢ b → before a b ≡ false → before b a ≡ true) where
  one_more : (n last : ℕ) → s n ≡ true → IsLast s before n last → (k : ℕ) × IsLast s before (suc n) k
  one_more n last passes is = elim (told (before last n)) [
    | inl later ↦ (
      n,
      record {
        within = omega arith;
        passes = passes;
        others = λ a low unlike one. elim (eqb_tells a last) [
          | inl same ↦ ap (λ k. before k n) same.1 ∙ later
          | inr other ↦ follows a last n (is.others a (omega (arith, low, unlike)) other.1 one) later
        ];
      },
    )
    | inr earlier ↦ (
      last,
      record {
        within = (let low = is.within in omega (arith, low));
        passes = is.passes;
        others = λ a low unlike one. elim (eqb_tells a n) [
          | inl same ↦ ap (λ k. before k last) same.1 ∙ total last n (let within = is.within in λ e. absurd (omega (arith, within, e))) earlier
          | inr other ↦ is.others a (let differ = other.1 in omega (arith, low, differ)) unlike one
        ];
      },
    )
  ]

  -- none passes, or one that passes is the last
  last_of : (n : ℕ) → ((a : ℕ) → a < n → s a ≡ false) ⊎ ((last : ℕ) × IsLast s before n last)
  last_of zero = inl (λ a low. absurd (omega (arith, low)))
  last_of (suc n) = elim (told (s n)) [
    | inl passes ↦ elim (last_of n) [
      | inl none ↦ inr (
        n,
        record {
          within = omega arith;
          passes = passes;
          others = λ a low unlike one. absurd (let e : true ≡ false = sym one ∙ none a (omega (arith, low, unlike)) in cc);
        },
      )
      | inr some ↦ inr (one_more n some.0 passes some.1)
    ]
    | inr fails ↦ elim (last_of n) [
      | inl none ↦ inl (λ a low. elim (eqb_tells a n) [ inl same ↦ ap s same.1 ∙ fails | inr other ↦ none a (let differ = other.1 in omega (arith, low, differ)) ])
      | inr some ↦ inr (
        some.0,
        record {
          within = (let low = some.1.within in omega (arith, low));
          passes = some.1.passes;
          others = λ a low unlike one. elim (eqb_tells a n) [
            | inl same ↦ absurd (let e : true ≡ false = sym one ∙ ap s same.1 ∙ fails in cc)
            | inr other ↦ some.1.others a (let differ = other.1 in omega (arith, low, differ)) unlike one
          ];
        },
      )
    ]
  ]

  -- where before each that passes fewer go than so many, no more than so many pass
  pub few_pass : (n most : ℕ) → ((b : ℕ) → b < n → s b ≡ true → passing (λ a. s a && before a b) n < most) → passing s n ≤ most
  few_pass n most few = elim (last_of n) [
    | inl none ↦ let no = passing_none s n none in omega (arith, no)
    | inr some ↦
        let last = some.0 in
        let others = (all_but_one s (λ a. s a && before a last) last n (λ a low unlike one. ap (λ x. x && before a last) one ∙ some.1.others a low unlike one)).1 in
        let fewer = few last some.1.within some.1.passes in
        omega (arith, others, fewer)
  ]
