-- The tables once an object has its bits and its count at its new place too.
use Rattle.std.proofs.Common.{◌+◌, ◌/◌, ap, ◌∙◌, true}
use Rattle.lxr_layout.specs.declared.Place.{Place}
use Rattle.lxr_layout.specs.declared.Shape.{Shape}
use Rattle.lxr_layout.specs.Objects.{word_count}
use Rattle.lxr_layout.specs.Places.{first_word}
use Rattle.lxr_image.specs.declared.space.Space.{Space}
use Rattle.lxr_image.specs.Tables.{Tables, changed}
use Rattle.lxr_image.specs.Spaces.{Turns, tables_of}
use Rattle.lxr_image.specs.Reads.{granule_of}
use Rattle.lxr_pause_promote.specs.Promotion.{with_marks, with_unlogged}
use Rattle.lxr_evac_moving.specs.Steps.{with_gray_of, with_mark_of, with_taken_over}

-- six changes of tables take an object over
pub taken_over_turns : (a b c d e f h : Space) (p q : Place) (shape : Shape) → Turns a b (record (tables_of a) { starts = changed (tables_of a).starts (granule_of q.0) true })
    → Turns b c (with_mark_of (tables_of b) (granule_of p.0) (granule_of q.0)) → Turns c d (with_gray_of (tables_of c) (granule_of p.0) (granule_of q.0))
    → Turns d e (record (tables_of d) { counts = changed (tables_of d).counts (granule_of q.0) ((tables_of d).counts (granule_of p.0)) })
    → Turns e f (with_marks (tables_of e) (granule_of q.0) (word_count shape / 2)) → Turns f h (with_unlogged (tables_of f) (first_word q.0 + 1) (first_word q.0 + 1 + shape.refs))
    → Turns a h (with_taken_over (tables_of a) p.0 q.0 shape)
taken_over_turns a b c d e f h p q shape start mark gray count marks logs = record {
  tables = logs.tables
      ∙ ap (λ t. with_unlogged t (first_word q.0 + 1) (first_word q.0 + 1 + shape.refs))
      (marks.tables
      ∙ ap (λ t. with_marks t (granule_of q.0) (word_count shape / 2))
      (count.tables
      ∙ ap (λ (t : Tables). record t { counts = changed t.counts (granule_of q.0) (t.counts (granule_of p.0)) })
      (gray.tables ∙ ap (λ t. with_gray_of t (granule_of p.0) (granule_of q.0)) (mark.tables ∙ ap (λ t. with_mark_of t (granule_of p.0) (granule_of q.0)) start.tables))));
  rest = logs.rest
      ∙ ap (λ (s : Space). record s { words = h.words })
      (marks.rest
      ∙ ap (λ (s : Space). record s { words = f.words })
      (count.rest
      ∙ ap (λ (s : Space). record s { words = e.words })
      (gray.rest ∙ ap (λ (s : Space). record s { words = d.words }) (mark.rest ∙ ap (λ (s : Space). record s { words = c.words }) start.rest))));
}
