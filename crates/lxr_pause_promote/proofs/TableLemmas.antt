-- The tables with one object promoted where it is, and what stands in them.
use Rattle.std.proofs.Common.{◌≡◌, ◌+◌, ◌*◌, ◌/◌, ◌<◌, ◌≤◌, sym, ap, subst, ◌∙◌, arith, true}
use Rattle.lxr_layout.specs.declared.TheConstants.{GRANULES_IN_BLOCK, MOST_GRANULES, WORDS_IN_BLOCK}
use Rattle.lxr_layout.specs.declared.Name.{Name}
use Rattle.lxr_layout.specs.declared.Place.{Place}
use Rattle.lxr_layout.specs.declared.Shape.{Shape}
use Rattle.lxr_layout.specs.declared.Header.TheVariants.{Object}
use Rattle.lxr_layout.specs.Objects.{header_of, word_count}
use Rattle.lxr_layout.specs.Places.{first_word}
use Rattle.lxr_image.specs.declared.space.Space.{Space}
use Rattle.lxr_image.specs.Tables.{Tables, changed}
use Rattle.lxr_image.specs.Spaces.{IsSpace, Turns, tables_of}
use Rattle.lxr_image.specs.Reads.{granule_of}
use Rattle.lxr_image.proofs.ReadLemmas.{header_unpacked}
use Rattle.lxr_pause_promote.specs.Copying.{StandsAt}
use Rattle.lxr_pause_promote.specs.Promotion.{with_mark, with_marks, with_promotion, with_unlogged}

-- ---- spaces

pub turned_blocks : (a b : Space) (t : Tables) → Turns a b t → b.limits.blocks ≡ a.limits.blocks
turned_blocks a b t turns = ap (λ s. s.limits.blocks) turns.rest

-- ---- an object at a place

pub is_place : (s : Space) (p : Place) (n : Name) (shape : Shape) → StandsAt s p n shape → (1 ≤ p.0) × (p.0 ≤ MOST_GRANULES) × (granule_of p.0 < GRANULES_IN_BLOCK * s.limits.blocks) × (first_word p.0 < WORDS_IN_BLOCK * s.limits.blocks)
is_place s p n shape is =
    let first = is.placed in
    let heap = is.whole.in_heap in
    let few = is.space.limits.blocks.1 in
    (first, omega arith, omega arith, omega arith)

-- its words lie in the heap
pub is_within : (s : Space) (p : Place) (n : Name) (shape : Shape) → StandsAt s p n shape
    → (1 ≤ word_count shape / 2) × (granule_of p.0 + word_count shape / 2 ≤ GRANULES_IN_BLOCK * s.limits.blocks) × (first_word p.0 + 1 + shape.refs ≤ WORDS_IN_BLOCK * s.limits.blocks)
is_within s p n shape is =
    let first = is.placed in
    let heap = is.whole.in_heap in
    (omega arith, heap, omega arith)

pub header_says : (s : Space) (p : Place) (n : Name) (shape : Shape) → StandsAt s p n shape → header_of ((tables_of s).heap (first_word p.0)) ≡ Object n shape
header_says s p n shape is = ap header_of is.whole.header ∙ header_unpacked n shape is.whole.name is.whole.shape

-- it stands there after a call that leaves the heap
pub stands_after : (a b : Space) (p : Place) (n : Name) (shape : Shape) → IsSpace b → b.limits ≡ a.limits → (tables_of b).heap ≡ (tables_of a).heap → StandsAt a p n shape → StandsAt b p n shape
stands_after a b p n shape space l heap is = record {
  space = space;
  placed = is.placed;
  whole = record {
    name = is.whole.name;
    shape = is.whole.shape;
    header = ap (λ f. f (2 * granule_of p.0)) heap ∙ is.whole.header;
    in_heap = subst (λ z. granule_of p.0 + word_count shape / 2 ≤ GRANULES_IN_BLOCK * z.blocks) (sym l) is.whole.in_heap;
    in_block = is.whole.in_block;
  };
}

-- four changes of tables are a promotion
pub promoted_turns : (a b f c e : Space) (p : Place) (shape : Shape) → Turns a b (record (tables_of a) { starts = changed (tables_of a).starts (granule_of p.0) true })
    → Turns b f (with_mark (tables_of b) (granule_of p.0)) → Turns f c (with_marks (tables_of f) (granule_of p.0) (word_count shape / 2)) → Turns c e (with_unlogged (tables_of c) (first_word p.0 + 1) (first_word p.0 + 1 + shape.refs))
    → Turns a e (with_promotion (tables_of a) p.0 shape)
promoted_turns a b f c e p shape start mark marks logs = record {
  tables = logs.tables
      ∙ ap (λ t. with_unlogged t (first_word p.0 + 1) (first_word p.0 + 1 + shape.refs))
      (marks.tables ∙ ap (λ t. with_marks t (granule_of p.0) (word_count shape / 2)) (mark.tables ∙ ap (λ t. with_mark t (granule_of p.0)) start.tables));
  rest = logs.rest
      ∙ ap (λ (s : Space). record s { words = e.words })
      (marks.rest ∙ ap (λ (s : Space). record s { words = c.words }) (mark.rest ∙ ap (λ (s : Space). record s { words = f.words }) start.rest));
}
