-- The script that a seed makes: rounds of ten operations, and threads of rounds.
use Rattle.std.specs.Prelude.{ℕ, zero, suc, ◌+◌, ◌-◌, ◌*◌, ◌%◌, ◌^◌, List, [], ◌∷◌, ◌++◌}
use Rattle.lxr_layout.specs.declared.Shape.{Shape}
use Rattle.lxr_graph.specs.declared.Op.{Op}
use Rattle.lxr_graph.specs.declared.Op.TheVariants as op
use Rattle.lxr_base.specs.Draws.{draw, step}

-- the shape with so many references and data words
abbrev pub shape : ℕ → ℕ → Shape
shape refs values = record { refs = refs; values = values }

-- A round of thread t: a slot's object with its leaf, which refer to each other, is linked to the slot's last object,
-- whose own link is cut, and takes its place. Each thread has four slots of the world for its own.
unfoldable pub round : ℕ → ℕ → ℕ → ℕ → List Op
round t size slot value =
    op.New 1 (shape 2 size)
    ∷ op.New 2 (shape 1 1)
    ∷ op.Store 1 0 2
    ∷ op.Store 2 0 1
    ∷ op.Put 2 0 value
    ∷ op.Load 3 0 (4 * (t - 1) + slot)
    ∷ op.Store 1 1 3
    ∷ op.Store 3 1 15
    ∷ op.Store 0 (4 * (t - 1) + slot) 1
    ∷ op.Get 2 0
    ∷ []

-- so many rounds of thread t, where the generator stands at x; a round draws its size, its slot and its value
unfoldable pub rounds : ℕ → ℕ → ℕ → List Op
rounds zero t x = []
rounds (suc n) t x =
    let d = step x in
    let i = step d in
    let v = step i in
    round t (draw d % 30) (draw i % 4) (draw v) ++ rounds n t v

-- the operations of thread t, whose generator begins at the seed plus t
abbrev pub thread : ℕ → ℕ → ℕ → List Op
thread seed n t = rounds n t ((seed + t) % 2 ^ 64)

-- so many threads of n rounds, the first of which is thread t
unfoldable pub threads_from : ℕ → ℕ → ℕ → ℕ → List (List Op)
threads_from seed n zero t = []
threads_from seed n (suc count) t = thread seed n t ∷ threads_from seed n count (t + 1)

-- the script of a seed, for so many threads and rounds
abbrev pub load : ℕ → ℕ → ℕ → List (List Op)
load seed threads n = threads_from seed n threads 1
