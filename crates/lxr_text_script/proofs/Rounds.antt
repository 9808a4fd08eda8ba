-- Rounds one after the other, as a loop makes them, and what is made stays within the limits of a script.
use Rattle.std.proofs.Common.{◌≡◌, ℕ, zero, suc, ◌+◌, ◌-◌, ◌*◌, ◌%◌, ◌^◌, ◌<◌, ◌≤◌, List, [], ◌∷◌, ◌++◌, length, length-append, refl, sym, ap, ◌∙◌, arith, append_assoc, lit<, lit≤}
use Rattle.std.proofs.Math.Nat.{mod-lt, div-le_self}
use Rattle.std.proofs.lemmas.List.{append-nil}
use Rattle.std.proofs.lemmas.List.Elements.{All-from_recursion}
use Rattle.std.specs.List.{AllByRecursion}
use Rattle.lxr_graph.specs.declared.Op.{Op}
use Rattle.lxr_text_script.specs.Limits.{IsOperation, IsThread, IsScript}
use Rattle.lxr_base.specs.Draws.{draw, step}
use Rattle.lxr_text_script.specs.Load.{load, round, rounds, threads_from}

-- one more round
pub goes_on : (front made : List Op) (n done t x d i v : ℕ) (total : List Op) → done < n → d ≡ step x → i ≡ step d → v ≡ step i → made ≡ round t (draw d % 30) (draw i % 4) (draw v)
    → front ++ rounds (n - done) t x ≡ total → (front ++ made) ++ rounds (n - (done + 1)) t v ≡ total
unfolding rounds
goes_on front made n done t x d i v total lt is_d is_i is_v is so_far =
    let k : n - done ≡ suc (n - (done + 1)) = omega arith in
    rw (append_assoc, is, is_v, is_i, is_d) (rw k at so_far)

-- no more rounds
pub is_done : (front : List Op) (n done t x : ℕ) (total : List Op) → n ≤ done → front ++ rounds (n - done) t x ≡ total → front ≡ total
unfolding rounds
is_done front n done t x total le so_far = let k : n - done ≡ 0 = omega arith in sym (append-nil front) ∙ (rw k at so_far)

-- one more thread
pub thread_more : (front : List (List Op)) (made : List Op) (seed n count done : ℕ) (total : List (List Op)) → done < count → made ≡ rounds n (done + 1) ((seed + (done + 1)) % 2 ^ 64)
    → front ++ threads_from seed n (count - done) (done + 1) ≡ total → (front ++ made ∷ []) ++ threads_from seed n (count - (done + 1)) (done + 1 + 1) ≡ total
unfolding threads_from
thread_more front made seed n count done total lt is so_far =
    let k : count - done ≡ suc (count - (done + 1)) = omega arith in
    rw (append_assoc, is) (rw k at so_far)

-- no more threads
pub threads_done : (front : List (List Op)) (seed n count done : ℕ) (total : List (List Op)) → count ≤ done → front ++ threads_from seed n (count - done) (done + 1) ≡ total → front ≡ total
unfolding threads_from
threads_done front seed n count done total le so_far = let k : count - done ≡ 0 = omega arith in sym (append-nil front) ∙ (rw k at so_far)

all_of_both : {A : Type 0} (P : A → Type 0) (xs ys : List A) → AllByRecursion P xs → AllByRecursion P ys → AllByRecursion P (xs ++ ys)
all_of_both P [] ys px py = py
all_of_both P (x ∷ xs) ys px py = (px.0, all_of_both P xs ys px.1 py)

draw_small : (x : ℕ) → draw (step x) < 2 ^ 64
unfolding draw step
draw_small x = let small = mod-lt (x * 6364136223846793005 + 1442695040888963407) {m = 2 ^ 64} (lit< tt) in let le = div-le_self ((x * 6364136223846793005 + 1442695040888963407) % 2 ^ 64) (2 ^ 33) in omega (arith, small, le)

-- the operations of a round are operations of a script
round_fits : (t size slot value : ℕ) → t ≤ 16 → size < 30 → slot < 4 → value < 2 ^ 64 → AllByRecursion IsOperation (round t size slot value)
unfolding round
round_fits t size slot value few small own fits =
    let in_world : 4 * (t - 1) + slot ≤ 1023 = omega arith in (
      record { well_formed = (lit< tt, (lit≤ tt, omega arith)); written = tt },
      (
        record { well_formed = (lit< tt, (lit≤ tt, lit≤ tt)); written = tt },
        (
          record { well_formed = (lit< tt, lit< tt); written = lit≤ tt },
          (
            record { well_formed = (lit< tt, lit< tt); written = lit≤ tt },
            (
              record { well_formed = lit< tt; written = (lit≤ tt, fits) },
              (
                record { well_formed = (lit< tt, lit< tt); written = in_world },
                (
                  record { well_formed = (lit< tt, lit< tt); written = lit≤ tt },
                  (
                    record { well_formed = (lit< tt, lit< tt); written = lit≤ tt },
                    (
                      record { well_formed = (lit< tt, lit< tt); written = in_world },
                      (record { well_formed = lit< tt; written = lit≤ tt }, tt),
                    ),
                  ),
                ),
              ),
            ),
          ),
        ),
      ),
    )

length_round : (t size slot value : ℕ) → length (round t size slot value) ≡ 10
unfolding round
length_round t size slot value = refl

rounds_fit : (n t x : ℕ) → t ≤ 16 → (length (rounds n t x) ≡ 10 * n) × AllByRecursion IsOperation (rounds n t x)
unfolding rounds
rounds_fit zero t x few = (refl, tt)
rounds_fit (suc n) t x few =
    let first = round_fits t (draw (step x) % 30) (draw (step (step x)) % 4) (draw (step (step (step x)))) few (mod-lt (draw (step x)) {m = 30} (lit< tt)) (mod-lt (draw (step (step x))) {m = 4} (lit< tt)) (draw_small (step (step x))) in
    let others = rounds_fit n t (step (step (step x))) few in
    let ten = length_round t (draw (step x) % 30) (draw (step (step x)) % 4) (draw (step (step (step x)))) in
    (simp length-append (omega (arith, ten, others.0)), all_of_both IsOperation _ _ first others.1)

threads_fit : (seed n count t : ℕ) → t + count ≤ 17 → n ≤ 100000 → (length (threads_from seed n count t) ≡ count) × AllByRecursion IsThread (threads_from seed n count t)
unfolding threads_from
threads_fit seed n zero t few short = (refl, tt)
threads_fit seed n (suc count) t few short =
    let first = rounds_fit n t ((seed + t) % 2 ^ 64) (omega arith) in
    let others = threads_fit seed n count (t + 1) (omega arith) short in
    (ap suc others.0, (record { count = omega (arith, first.0); each = All-from_recursion IsOperation _ first.1 }, others.1))

pub load_fits : (seed threads n : ℕ) → 1 ≤ threads → threads ≤ 16 → n ≤ 100000 → IsScript (load seed threads n)
load_fits seed threads n least greatest few =
    let all = threads_fit seed n threads 1 (omega arith) few in
    record { least = omega (arith, all.0); greatest = omega (arith, all.0); each = All-from_recursion IsThread _ all.1 }
