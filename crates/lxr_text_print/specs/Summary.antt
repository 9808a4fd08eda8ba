-- The text of a summary: nine numbers, each with its label.
use Rattle.std.specs.Prelude.{ℕ, List, [], ◌∷◌, ◌++◌, codes, decimal}
use Rattle.lxr_text_print.specs.declared.summary.Sums.{Sums}
use Rattle.lxr_text_print.specs.Lines.{line}

-- a number with its label
unfoldable pub sum_text : List ℕ → ℕ → List ℕ
sum_text label n = line (label ∷ decimal n ∷ [])

-- the nine lines
abbrev pub summary_text : Sums → List ℕ
summary_text s =
    sum_text (codes "threads") s.threads
    ++ sum_text (codes "operations") s.operations
    ++ sum_text (codes "pauses") s.pauses
    ++ sum_text (codes "promoted") s.promoted
    ++ sum_text (codes "dead") s.dead
    ++ sum_text (codes "swept") s.swept
    ++ sum_text (codes "stuck") s.stuck
    ++ sum_text (codes "full") s.full
    ++ sum_text (codes "live") s.live
