use Rattle.std.proofs.Common.{◌≡◌, ◌+◌, ◌∙◌, ℕ, List, [], ◌∷◌, ap, arith}
use Rattle.std.specs.Prelude.{slice_index}
use Rattle.lxr_tables.proofs.LanesLemmas.{AreReadFrom, read_each}
use Rattle.lxr_tables.proofs.lanes.lanes_at.Goals as goal

pub returns-clause-words : goal.returns-clause-words
returns-clause-words g c i within =
    let words = g.W.Words.words_of c.args.words.now in
    let first = c.args.first in
    let row : List ℕ = c.get.result ∷ c.get-2.result ∷ c.get-3.result ∷ c.get-4.result ∷ c.get-5.result ∷ c.get-6.result ∷ c.get-7.result ∷ c.get-8.result ∷ c.get-9.result ∷ c.get-10.result ∷ c.get-11.result ∷ c.get-12.result ∷ c.get-13.result ∷ c.get-14.result ∷ c.get-15.result ∷ c.get-16.result ∷ [] in
    let start : first ≡ first + 0 = omega arith in
    let place : first + (0 + i) ≡ first + i = omega arith in
    let read : AreReadFrom words first 0 row = (c.get.ensures ∙ ap (slice_index words) start, (c.get-2.ensures, (c.get-3.ensures, (c.get-4.ensures, (c.get-5.ensures, (c.get-6.ensures, (c.get-7.ensures, (c.get-8.ensures, (c.get-9.ensures, (c.get-10.ensures, (c.get-11.ensures, (c.get-12.ensures, (c.get-13.ensures, (c.get-14.ensures, (c.get-15.ensures, (c.get-16.ensures, tt)))))))))))))))) in
    read_each words first 0 row read i within ∙ ap (slice_index words) place
