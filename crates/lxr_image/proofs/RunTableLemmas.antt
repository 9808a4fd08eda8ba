-- Words in a row that are written to the run table change so many of its entries.
use Rattle.std.proofs.Common.{◌≡◌, ℕ, suc, ◌+◌, ◌≤◌, sym, ap, ◌∙◌, arith, lit<, List, [], ◌∷◌, length}
use Rattle.std.specs.Prelude.{slice_index, slice_set}
use Rattle.std.proofs.lemmas.List.Edits.{sets, sets-eq}
use Rattle.lxr_layout.specs.declared.limits.Limits.{Limits}
use Rattle.lxr_layout.specs.Spaces.{all_regions, region_begin, region_sizes, runs_region}
use Rattle.lxr_tables.specs.Words.{overwritten}
use Rattle.lxr_image.specs.declared.tables.WordTable.TheVariants.{Runs}
use Rattle.lxr_image.specs.Runs.{with_runs}
use Rattle.lxr_image.specs.Tables.{Tables, tables_in}
use Rattle.lxr_image.proofs.RegionLemmas.{region_room}
use Rattle.lxr_image.proofs.TableLaws.{word_written}
use Rattle.lxr_image.proofs.WrittenLemmas.{written_first, written_none}

pub runs_within : (l : Limits) (ws : List ℕ) (n : ℕ) → (tables_in l ws).size ≡ region_begin l all_regions → n ≤ slice_index (region_sizes l) runs_region → region_begin l runs_region + n ≤ length ws
unfolding tables_in
runs_within l ws n size within = region_room (region_sizes l) ws runs_region n (lit< tt) within (omega arith)

-- one word after another
each_written : (l : Limits) (xs ws : List ℕ) (at : ℕ) → (tables_in l ws).size ≡ region_begin l all_regions → at + length xs ≤ slice_index (region_sizes l) runs_region
    → tables_in l (sets ws (region_begin l runs_region + at) xs) ≡ with_runs (tables_in l ws) at xs
each_written l [] ws at size within = ap (λ f. record (tables_in l ws) { runs = f }) (written_none (tables_in l ws).runs at)
each_written l (x ∷ xs) ws at size within =
    let t : Tables = tables_in l ws in
    let vs : List ℕ = slice_set ws (region_begin l runs_region + at) x in
    let one = word_written l ws Runs at x size (omega arith) in
    ap (λ n. tables_in l (sets vs n xs)) (let z : suc (region_begin l runs_region + at) ≡ region_begin l runs_region + (at + 1) = omega arith in z)
    ∙ each_written l xs vs (at + 1) (ap (λ u. u.size) one ∙ size) (omega arith)
    ∙ ap (λ u. with_runs u (at + 1) xs) one
    ∙ ap (λ f. record t { runs = f }) (written_first t.runs at x xs)

pub runs_written : (l : Limits) (ws xs : List ℕ) (at : ℕ) → (tables_in l ws).size ≡ region_begin l all_regions → at + length xs ≤ slice_index (region_sizes l) runs_region
    → tables_in l (overwritten ws (region_begin l runs_region + at) xs) ≡ with_runs (tables_in l ws) at xs
runs_written l ws xs at size within =
    let room = runs_within l ws (at + length xs) size within in
    ap (tables_in l) (sym (sets-eq xs ws (region_begin l runs_region + at) (omega (arith, room)))) ∙ each_written l xs ws at size within
