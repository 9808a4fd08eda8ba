-- From everywhere the generator comes to 0: after 2^k steps the lower k bits are as they were and the next one is turned, so of a
-- number whose lower k bits are 0 and that one 2^k steps further one has k + 1 lower bits that are 0.
use Rattle.std.proofs.Common.{◌≡◌, ℕ, zero, suc, ◌+◌, ◌*◌, ◌%◌, ◌^◌, ◌<◌, ◌≤◌, Bool, true, false, refl, arith, sym, subst, ap, ◌∙◌, lit<}
use Rattle.std.specs.Prelude.{nat_eq, if◌then◌else◌}
use Rattle.std.proofs.Math.Nat.{add-mod, mod-eq_of_lt, mod-lt, mod-mod, mul-mod_right}
use Rattle.std.proofs.lemmas.Nat.{mul-mod}
use Rattle.lxr_base.specs.Draws.{step}

-- ---- without a modulus

-- the number after so many steps, none of them reduced
abbrev pub grown : ℕ → ℕ → ℕ
grown zero x = x
grown (suc n) x = grown n (x * 6364136223846793005 + 1442695040888963407)

-- steps add up
grown-add : (n m x : ℕ) → grown (n + m) x ≡ grown m (grown n x)
grown-add zero m x = let none : 0 + m ≡ m = omega arith in ap (λ (k : ℕ). grown k x) none
grown-add (suc n) m x =
    let one_more : suc n + m ≡ suc (n + m) = omega arith in
    ap (λ (k : ℕ). grown k x) one_more ∙ grown-add n m (x * 6364136223846793005 + 1442695040888963407)

-- what p steps do, where p is a power of 2
pub record Jumps (p : ℕ) : Type 0 where
  pub scale : ℕ
  pub shift : ℕ
  pub is : (x : ℕ) → grown p x ≡ (1 + 4 * p * scale) * x + p * (1 + 2 * shift)

-- two jumps are one of twice the length
twice : (p u w x y z : ℕ) → y ≡ (1 + 4 * p * u) * x + p * (1 + 2 * w) → z ≡ (1 + 4 * p * u) * y + p * (1 + 2 * w)
    → z ≡ (1 + 4 * (p + p) * (u + 2 * p * u * u)) * x + (p + p) * (1 + 2 * (w + p * u + 2 * p * w * u))
twice p u w x y z ey ez = ez ∙ (ap (λ (v : ℕ). (1 + 4 * p * u) * v + p * (1 + 2 * w)) ey ∙ omega arith)

jumps_twice : (p : ℕ) → Jumps p → Jumps (p + p)
jumps_twice p j = record {
  scale = j.scale + 2 * p * j.scale * j.scale;
  shift = j.shift + p * j.scale + 2 * p * j.shift * j.scale;
  is = λ x. grown-add p p x ∙ twice p j.scale j.shift x (grown p x) (grown p (grown p x)) (j.is x) (j.is (grown p x));
}

jumps : (k : ℕ) → Jumps (2 ^ k)
jumps zero = record { scale = 1591034055961698251; shift = 721347520444481703; is = λ x. omega arith }
jumps (suc k) = subst Jumps (omega arith) (jumps_twice (2 ^ k) (jumps k))

-- ---- to a multiple of a power of 2

-- a number is even or odd
pub record Halves (n : ℕ) : Type 0 where
  pub half : ℕ
  pub odd : Bool
  pub is : n ≡ 2 * half + (if odd then 1 else 0)

-- fewer than p steps from y on stands a multiple of p
pub record Reaches (p y : ℕ) : Type 0 where
  pub steps : ℕ
  pub few : steps < p
  pub quotient : ℕ
  pub is : grown steps y ≡ p * quotient

halves_more : (n half : ℕ) (odd : Bool) → n ≡ 2 * half + (if odd then 1 else 0) → Halves (suc n)
halves_more n half true e = record { half = half + 1; odd = false; is = omega arith }
halves_more n half false e = record { half = half; odd = true; is = omega arith }

halves : (n : ℕ) → Halves n
halves zero = record { half = 0; odd = false; is = refl }
halves (suc n) = halves_more n (halves n).half (halves n).odd (halves n).is

-- an odd multiple of p becomes an even one by a jump
turned : (p u w x r y : ℕ) → x ≡ p * (2 * r + 1) → y ≡ (1 + 4 * p * u) * x + p * (1 + 2 * w) → y ≡ (p + p) * (r + 1 + w + 2 * p * u * (2 * r + 1))
turned p u w x r y ex ey = ey ∙ (ap (λ (v : ℕ). (1 + 4 * p * u) * v + p * (1 + 2 * w)) ex ∙ omega arith)

reaches_by : (p y half : ℕ) (odd : Bool) → Jumps p → (r : Reaches p y) → r.quotient ≡ 2 * half + (if odd then 1 else 0) → Reaches (p + p) y
reaches_by p y half true j r e = record {
  steps = r.steps + p;
  few = let few = r.few in omega arith;
  quotient = half + 1 + j.shift + 2 * p * j.scale * (2 * half + 1);
  is = grown-add r.steps p y ∙ turned p j.scale j.shift (grown r.steps y) half (grown p (grown r.steps y)) (r.is ∙ ap (λ (q : ℕ). p * q) e) (j.is (grown r.steps y));
}
reaches_by p y half false j r e = record {
  steps = r.steps;
  few = let few = r.few in omega arith;
  quotient = half;
  is = r.is ∙ (ap (λ (q : ℕ). p * q) e ∙ omega arith);
}

reaches_twice : (p y : ℕ) → Jumps p → Reaches p y → Reaches (p + p) y
reaches_twice p y j r = let h = halves r.quotient in reaches_by p y h.half h.odd j r h.is

reaches : (k y : ℕ) → Reaches (2 ^ k) y
reaches zero y = record { steps = 0; few = omega arith; quotient = y; is = omega arith }
reaches (suc k) y = subst (λ (p : ℕ). Reaches p y) (omega arith) (reaches_twice (2 ^ k) y (jumps k) (reaches k y))

-- ---- modulo 2^64

-- the generator's number after so many steps
abbrev pub after : ℕ → ℕ → ℕ
after zero x = x
after (suc n) x = after n (step x)

-- a step of what is equal modulo 2^64 is
same_step : (m a c x y : ℕ) → x % m ≡ y % m → (x * a + c) % m % m ≡ (y * a + c) % m
same_step m a c x y e =
    let product : x * a % m ≡ y * a % m = mul-mod x a m ∙ (ap (λ (r : ℕ). r * (a % m) % m) e ∙ sym (mul-mod y a m)) in
    mod-mod (x * a + c) m ∙ (add-mod (x * a) c m ∙ (ap (λ (r : ℕ). (r + c % m) % m) product ∙ sym (add-mod (y * a) c m)))

after-grown : (n x y : ℕ) → x % 2 ^ 64 ≡ y % 2 ^ 64 → after n x % 2 ^ 64 ≡ grown n y % 2 ^ 64
unfolding step
after-grown zero x y e = e
after-grown (suc n) x y e = after-grown n (step x) (y * 6364136223846793005 + 1442695040888963407) (same_step (2 ^ 64) 6364136223846793005 1442695040888963407 x y e)

step_below : (x : ℕ) → step x < 2 ^ 64
unfolding step
step_below x = mod-lt (x * 6364136223846793005 + 1442695040888963407) (lit< tt)

after_below : (n x : ℕ) → x < 2 ^ 64 → after n x < 2 ^ 64
after_below zero x below = below
after_below (suc n) x below = after_below n (step x) (step_below x)

-- Fewer than 2^64 steps behind the next number stands 0.
pub record ComesToZero (x : ℕ) : Type 0 where
  pub steps : ℕ
  pub few : steps < 2 ^ 64
  pub is : after steps (step x) ≡ 0

comes_to_zero : (x : ℕ) → ComesToZero x
comes_to_zero x =
    let r = reaches 64 (step x) in record {
      steps = r.steps;
      few = r.few;
      is = sym (mod-eq_of_lt (after_below r.steps (step x) (step_below x)))
          ∙ (after-grown r.steps (step x) (step x) refl ∙ (ap (λ (y : ℕ). y % 2 ^ 64) r.is ∙ mul-mod_right (2 ^ 64) r.quotient));
    }

-- ---- a number that falls

-- how many steps the next number is before the first 0, where at most so many are looked at
unfoldable pub until_zero : ℕ → ℕ → ℕ
until_zero zero x = 0
until_zero (suc fuel) x = if nat_eq (step x) 0 then 0 else suc (until_zero fuel (step x))

until_by : (b : Bool) (n fuel : ℕ) → n ≤ fuel → (if b then 0 else suc n) ≤ suc fuel
until_by true n fuel le = omega arith
until_by false n fuel le = omega arith

until_few : (fuel x : ℕ) → until_zero fuel x ≤ fuel
unfolding until_zero
until_few zero x = omega arith
until_few (suc fuel) x = until_by (nat_eq (step x) 0) (until_zero fuel (step x)) fuel (until_few fuel (step x))

until_same : (k fuel fuel' x : ℕ) → after k (step x) ≡ 0 → k < fuel → k < fuel' → until_zero fuel x ≡ until_zero fuel' x
unfolding until_zero
until_same k zero fuel' x e lt lt' = absurd (omega arith)
until_same k (suc fuel) zero x e lt lt' = absurd (omega arith)
until_same zero (suc fuel) (suc fuel') x e lt lt' = at_zero (nat_eq (step x) 0) (ap (λ (y : ℕ). nat_eq y 0) e)
  where
    at_zero : (b : Bool) → b ≡ true → (if b then 0 else suc (until_zero fuel (step x))) ≡ (if b then 0 else suc (until_zero fuel' (step x)))
    at_zero true e = refl
    at_zero false e = absurd (cc)
until_same (suc k) (suc fuel) (suc fuel') x e lt lt' =
    ap (λ (n : ℕ). if nat_eq (step x) 0 then 0 else suc n) (until_same k fuel fuel' (step x) e (omega arith) (omega arith))

falls_by : (k f fuel x : ℕ) → after k (step x) ≡ 0 → k < fuel → fuel ≡ suc f → nat_eq (step x) 0 ≡ false → until_zero fuel (step x) < until_zero fuel x
unfolding until_zero
falls_by k f zero x e lt is some = absurd (omega arith)
falls_by zero f (suc fuel) x e lt is some = absurd (cc)
falls_by (suc k) f (suc fuel) x e lt is some =
    let same = until_same k (suc fuel) fuel (step x) e (omega arith) (omega arith) in
    let next : until_zero (suc fuel) x ≡ suc (until_zero fuel (step x)) = ap (λ (b : Bool). if b then 0 else suc (until_zero fuel (step x))) some in
    omega arith

-- how many steps the next number is before the first 0
unfoldable pub steps_left : ℕ → ℕ
steps_left x = until_zero (2 ^ 64) x

pub steps_left_few : (x : ℕ) → steps_left x ≤ 2 ^ 64
unfolding steps_left
steps_left_few x = until_few (2 ^ 64) x

-- it falls with each step that doesn't come to 0
pub steps_left_falls : (x : ℕ) → nat_eq (step x) 0 ≡ false → steps_left (step x) < steps_left x
unfolding steps_left
steps_left_falls x some = let z = comes_to_zero x in falls_by z.steps 18446744073709551615 (2 ^ 64) x z.is z.few refl some
