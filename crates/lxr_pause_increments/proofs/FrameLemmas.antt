-- What raising counts, promoting objects and fixing references leave as it was.
use Rattle.std.proofs.Common.{◌≡◌, ◌≢◌, ℕ, refl, sym, ap, subst, ◌∙◌, arith, List, nat_eq}
use Rattle.lxr_layout.specs.declared.Name.{Name}
use Rattle.lxr_layout.specs.declared.Place.{Place}
use Rattle.lxr_layout.specs.declared.TheConstants.{REMEMBERED_CURSOR, TRACING_WORD}
use Rattle.lxr_image.proofs.SpaceLemmas.{space_alike}
use Rattle.lxr_image.specs.declared.space.Space.{Space}
use Rattle.lxr_image.specs.Tables.{Tables}
use Rattle.lxr_image.specs.Spaces.{IsSpace, tables_of}
use Rattle.lxr_image.specs.Opened.{HasRoom}
use Rattle.lxr_pause_increments.specs.Increments.{RaisingLeaves, RaisingLeavesTables}
use Rattle.lxr_pause_increments.specs.Traced.{marks_with}
use Rattle.lxr_pause_increments.proofs.TracedLemmas.{marks_both, marks_same}

-- ---- tables

-- the same tables
pub tables_same : (t u : Tables) → u ≡ t → RaisingLeavesTables t u
tables_same t u e = record {
  runs = ap (λ x. x.runs) e;
  frees = ap (λ x. x.frees) e;
  cursors = λ k other. ap (λ x. x.cursors k) e;
  starts = λ k h. ap (λ x. x.starts k) e ∙ h;
  marks = λ k. ap (λ x. x.marks k) e ∙ marks_same t k ∙ ap (λ x. marks_with t x.starts k) (sym e);
  grays = ap (λ x. x.grays) e;
  decs = ap (λ x. x.decs) e;
}

-- the tracing word is no cursor of the set
tracing_apart : TRACING_WORD ≢ REMEMBERED_CURSOR
tracing_apart e = omega (arith, e)

-- one step after another
pub tables_both : (t u v : Tables) → RaisingLeavesTables t u → RaisingLeavesTables u v → RaisingLeavesTables t v
tables_both t u v x y = record {
  runs = y.runs ∙ x.runs;
  frees = y.frees ∙ x.frees;
  cursors = λ k other. y.cursors k other ∙ x.cursors k other;
  starts = λ k h. y.starts k (x.starts k h);
  marks = marks_both t u v (ap (λ k. nat_eq k 1) (x.cursors TRACING_WORD tracing_apart)) x.starts y.starts x.marks y.marks;
  grays = y.grays ∙ x.grays;
  decs = y.decs ∙ x.decs;
}

-- ---- spaces

-- a space with other words, lists and rest
abbrev pub spread : Space → List ℕ → List Place → List Place → List Name → List Name → ℕ → ℕ → Space
spread a words registers work promoted stuck next end = record a {
  words = words;
  registers = record a.registers { items = registers };
  work = record a.work { items = work };
  report = record a.report {
    promoted = record a.report.promoted { items = promoted };
    stuck = record a.report.stuck { items = stuck };
  };
  rest_next = next;
  rest_end = end;
}

-- it is left but for these parts
pub leaves_spread : (a c : Space) (words : List ℕ) (registers work : List Place) (promoted stuck : List Name) (next end : ℕ) → c ≡ spread a words registers work promoted stuck next end
    → RaisingLeavesTables (tables_of a) (tables_of c) → RaisingLeaves a c
leaves_spread a c words registers work promoted stuck next end rest tables = record {
  space = rest ∙ (λ i. spread a (w i) (r i) (k i) (p i) (q i) (n i) (e i));
  tables = tables;
}
  where
    w : words ≡ c.words
    w = sym (ap (λ (s : Space). s.words) rest)

    r : registers ≡ c.registers.items
    r = sym (ap (λ (s : Space). s.registers.items) rest)

    k : work ≡ c.work.items
    k = sym (ap (λ (s : Space). s.work.items) rest)

    p : promoted ≡ c.report.promoted.items
    p = sym (ap (λ (s : Space). s.report.promoted.items) rest)

    q : stuck ≡ c.report.stuck.items
    q = sym (ap (λ (s : Space). s.report.stuck.items) rest)

    n : next ≡ c.rest_next
    n = sym (ap (λ (s : Space). s.rest_next) rest)

    e : end ≡ c.rest_end
    e = sym (ap (λ (s : Space). s.rest_end) rest)

pub leaves_none : (s : Space) → RaisingLeaves s s
leaves_none s = record { space = refl; tables = tables_same (tables_of s) (tables_of s) refl }

pub leaves_both : (a b c : Space) → RaisingLeaves a b → RaisingLeaves b c → RaisingLeaves a c
leaves_both a b c x y = record {
  space = y.space ∙ ap {A = Space} (λ s. spread s c.words c.registers.items c.work.items c.report.promoted.items c.report.stuck.items c.rest_next c.rest_end) x.space;
  tables = tables_both (tables_of a) (tables_of b) (tables_of c) x.tables y.tables;
}

pub same_limits : (a c : Space) → RaisingLeaves a c → c.limits ≡ a.limits
same_limits a c leaves = ap (λ s. s.limits) leaves.space

pub same_blocks : (a c : Space) → RaisingLeaves a c → c.limits.blocks ≡ a.limits.blocks
same_blocks a c leaves = ap (λ s. s.limits.blocks) leaves.space

pub space_stays : (a c : Space) → RaisingLeaves a c → (tables_of c).size ≡ (tables_of a).size → IsSpace a → IsSpace c
space_stays a c leaves size is = space_alike a c (same_limits a c leaves) size is

pub room_stays : (a c : Space) → RaisingLeaves a c → HasRoom a → HasRoom c
room_stays a c leaves has =
    let there : HasRoom (spread a c.words c.registers.items c.work.items c.report.promoted.items c.report.stuck.items c.rest_next c.rest_end) = record {
      registers = has.registers;
      deferred = has.deferred;
      logged = has.logged;
      work = has.work;
      report = record {
        promoted = has.report.promoted;
        dead = has.report.dead;
        stuck = has.report.stuck;
        swept = has.report.swept;
        told = has.report.told;
      };
    } in
    subst HasRoom (sym leaves.space) there
