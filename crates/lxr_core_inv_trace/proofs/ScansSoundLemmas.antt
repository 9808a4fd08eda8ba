-- Each step of a tracer finds its entry, and sets marks and grays, each where an unreclaimed object begins, or changes remembered entries.
use Rattle.std.proofs.Common.{◌≡◌, ℕ, ◌+◌, ◌-◌, ◌*◌, ◌/◌, ◌^◌, ◌<◌, ◌≤◌, refl, sym, ap, ◌∙◌, inl, inr, arith, true, List, IsTrue}
use Rattle.std.specs.Prelude.{⊤, Option, Some, None, slice_get}
use Rattle.lxr_layout.specs.declared.limits.Limits.{Limits}
use Rattle.lxr_layout.specs.declared.Name.{Name}
use Rattle.lxr_layout.specs.declared.TheConstants.{GRANULES_IN_BLOCK, REMEMBERED_CURSOR, WORDS_IN_BLOCK}
use Rattle.lxr_layout.specs.declared.Shape.{Shape}
use Rattle.lxr_layout.specs.Objects.{word_count}
use Rattle.lxr_layout.specs.Places.{field_word, first_word}
use Rattle.lxr_image.specs.Tables.{Tables}
use Rattle.lxr_image.specs.Reads.{granule_of}
use Rattle.lxr_model.specs.Moments.{Moment}
use Rattle.lxr_invariant.proofs.EntryLemmas.{changed_cases, changed_other}
use Rattle.lxr_core_access.specs.declared.Access.{Access}
use Rattle.lxr_core_access.specs.declared.Access.TheVariants as access
use Rattle.lxr_core_access.specs.declared.TableEntry.{TableEntry}
use Rattle.lxr_core_access.specs.Accesses.{IsTableEntry, MayBeDone, done_to}
use Rattle.lxr_core_access.specs.Tracers.{Tracing, tracer_access, Rests, AsksGray, AsksObject, Marks, ReadsShape, Scans, AsksReferent, GraysReferent, AsksBlock, ReadsReuse, DrawsNumber, Enters, FindsNothing}
use Rattle.lxr_core_invariant.specs.Decremented.{LeavesTables, TracerLeaves}
use Rattle.lxr_core_invariant.specs.Counted.{StandsAt}
use Rattle.lxr_core_invariant.specs.Traced.{AreScanned, IsScannedAt}
use Rattle.lxr_core_inv_trace.proofs.ScansGroundLemmas.{IsGround, block_within}
use Rattle.lxr_core_inv_trace.proofs.ScansNumberLemmas.{MayRemember}
use Rattle.lxr_core_inv_trace.proofs.ScansStepLemmas.{gray_keeps, mark_keeps}

-- an access may be done in tables, and leaves this of them
pub record IsSoundFor (l : Limits) (t : Tables) (access : Access) : Type 0 where
  pub may : MayBeDone l t access
  pub leaves : LeavesTables t (done_to t access)
  pub tracer_leaves : TracerLeaves t (done_to t access)

abbrev pub IsSoundWhere : Limits → Tables → Option Access → Type 0
IsSoundWhere l t None = ⊤
IsSoundWhere l t (Some access) = IsSoundFor l t access

-- ---- what each kind of access leaves

mark_leaves : (t : Tables) (granule : ℕ) → IsTrue (t.starts granule) → LeavesTables t (done_to t (access.SetMark granule))
mark_leaves t granule started = record {
  rest = refl;
  cursors = λ c _ _. refl;
  counts = λ k. inl refl;
  marks = λ k. elim (changed_cases t.marks granule true k) [ inl q ↦ inr (ap t.starts q.0 ∙ started) | inr q ↦ inl q.1 ];
  grays = λ k. inl refl;
  dones = λ k. inl refl;
}

gray_leaves : (t : Tables) (granule : ℕ) → IsTrue (t.starts granule) → LeavesTables t (done_to t (access.SetGray granule))
gray_leaves t granule started = record {
  rest = refl;
  cursors = λ c _ _. refl;
  counts = λ k. inl refl;
  marks = λ k. inl refl;
  grays = λ k. elim (changed_cases t.grays granule true k) [ inl q ↦ inr (ap t.starts q.0 ∙ started) | inr q ↦ inl q.1 ];
  dones = λ k. inl refl;
}

-- a look at an entry that exists
look_sound : (l : Limits) (t : Tables) (entry : TableEntry) → IsTableEntry l entry → IsSoundFor l t (access.Look entry)
look_sound l t entry exists = record {
  may = record { table_entry = exists; entry = tt };
  leaves = record { rest = refl; cursors = λ c _ _. refl; counts = λ k. inl refl; marks = λ k. inl refl; grays = λ k. inl refl; dones = λ k. inl refl };
  tracer_leaves = record { rest = refl; cursors = λ c _. refl; marks = λ k set. set; grays = λ k set. set };
}

-- a number of the remembered set that is drawn
draw_sound : (l : Limits) (t : Tables) → t.cursors REMEMBERED_CURSOR + 1 < 2 ^ 64 → IsSoundFor l t (access.Draw REMEMBERED_CURSOR)
draw_sound l t far = record {
  may = record { table_entry = omega arith; entry = far };
  leaves = record {
    rest = refl;
    cursors = λ c _ other. changed_other t.cursors REMEMBERED_CURSOR (t.cursors REMEMBERED_CURSOR + 1) c other;
    counts = λ k. inl refl;
    marks = λ k. inl refl;
    grays = λ k. inl refl;
    dones = λ k. inl refl;
  };
  tracer_leaves = record { rest = refl; cursors = λ c other. changed_other t.cursors REMEMBERED_CURSOR (t.cursors REMEMBERED_CURSOR + 1) c other; marks = λ k set. set; grays = λ k set. set };
}

-- an entry that is written
entry_sound : (l : Limits) (t : Tables) (number word : ℕ) → number < l.remember → IsSoundFor l t (access.PutRemembered number word)
entry_sound l t number word within = record {
  may = record { table_entry = within; entry = tt };
  leaves = record { rest = refl; cursors = λ c _ _. refl; counts = λ k. inl refl; marks = λ k. inl refl; grays = λ k. inl refl; dones = λ k. inl refl };
  tracer_leaves = record { rest = refl; cursors = λ c _. refl; marks = λ k set. set; grays = λ k set. set };
}

-- ---- entries that exist

-- a place of the heap has a granule there
granule_within : (blocks p : ℕ) → 1 ≤ p → p ≤ 2048 * blocks → p - 1 < 2048 * blocks
granule_within blocks p some within = omega arith

-- an object of the heap begins there, with its header and its references
begins_within : (blocks p : ℕ) (s : Shape) → 2 * (p - 1) + word_count s ≤ 4096 * blocks → p - 1 < 2048 * blocks
begins_within blocks p s within = omega arith

header_within : (blocks p : ℕ) (s : Shape) → 2 * (p - 1) + word_count s ≤ 4096 * blocks → 2 * (p - 1) < 4096 * blocks
header_within blocks p s within = omega arith

field_within : (blocks p index : ℕ) (s : Shape) → 2 * (p - 1) + word_count s ≤ 4096 * blocks → index < s.refs → 2 * (p - 1) + 1 + index < 4096 * blocks
field_within blocks p index s within less = omega arith

-- the line of a word of the heap is one of its lines
line_within : (blocks w : ℕ) → w < 4096 * blocks → w / 32 < 128 * blocks
line_within blocks w within = omega arith

module _ (l : Limits) (t : Tables) (ts : List Tracing) (m : Moment) (at : Name → ℕ) (ground : IsGround l t m at) (was : AreScanned l.blocks t ts m at) where
  -- what stands at a place begins in the heap
  granule_there : (place : ℕ) → StandsAt m at place → granule_of place < GRANULES_IN_BLOCK * l.blocks
  granule_there place stands = let x = ground.object place stands in begins_within l.blocks place x.shape x.in_heap

  word_there : (place : ℕ) → StandsAt m at place → first_word place < WORDS_IN_BLOCK * l.blocks
  word_there place stands = let x = ground.object place stands in header_within l.blocks place x.shape x.in_heap

  -- so do its references
  field_there : (place refs index : ℕ) → IsScannedAt t m at place refs index → field_word place index < WORDS_IN_BLOCK * l.blocks
  field_there place refs index is =
      let x = ground.object place is.stands in
      let as_many = is.refs_are ∙ sym x.refs in
      let within = is.within in
      field_within l.blocks place index x.shape x.in_heap (omega (arith, as_many, within))

  -- its block is one of the heap
  block_there : (place : ℕ) → StandsAt m at place → granule_of place / GRANULES_IN_BLOCK < l.blocks
  block_there place stands = let x = ground.object place stands in block_within l.blocks place x.shape x.placed x.in_heap

  -- the access of each step may be done
  pub step_sound : (i : ℕ) (d : Tracing) → slice_get ts i ≡ Some d → MayRemember l t d → IsSoundWhere l t (tracer_access l.blocks d)
  step_sound i Rests shows remembers = tt
  step_sound i (AsksGray place) shows remembers = let knows = was.knows i (AsksGray place) shows in look_sound l t _ (granule_within l.blocks place knows.0 knows.1)
  step_sound i (AsksObject place gray) shows remembers = let knows = was.knows i (AsksObject place gray) shows in look_sound l t _ (granule_within l.blocks place knows.0.0 knows.0.1)
  step_sound i (Marks place) shows remembers =
      let stands = (was.knows i (Marks place) shows).0 in
      let bits = mark_keeps t (granule_of place) in
      record {
        may = record { table_entry = granule_there place stands; entry = tt };
        leaves = mark_leaves t (granule_of place) (ground.object place stands).started;
        tracer_leaves = record { rest = refl; cursors = λ c _. refl; marks = bits.marks; grays = bits.grays };
      }
  step_sound i (ReadsShape place) shows remembers = look_sound l t _ (word_there place (was.knows i (ReadsShape place) shows).0)
  step_sound i (Scans place refs index) shows remembers = look_sound l t _ (field_there place refs index (was.knows i (Scans place refs index) shows))
  step_sound i (AsksReferent place refs index referent) shows remembers = let low = (was.knows i (AsksReferent place refs index referent) shows).1 in look_sound l t _ (granule_within l.blocks referent low.0 low.1)
  step_sound i (GraysReferent place refs index referent) shows remembers =
      let stands = (was.knows i (GraysReferent place refs index referent) shows).1 in
      let bits = gray_keeps t (granule_of referent) in
      record {
        may = record { table_entry = granule_there referent stands; entry = tt };
        leaves = gray_leaves t (granule_of referent) (ground.object referent stands).started;
        tracer_leaves = record { rest = refl; cursors = λ c _. refl; marks = bits.marks; grays = bits.grays };
      }
  step_sound i (AsksBlock place refs index referent) shows remembers = look_sound l t _ (block_there referent (was.knows i (AsksBlock place refs index referent) shows).1)
  step_sound i (ReadsReuse place refs index) shows remembers =
      look_sound l t _ (line_within l.blocks (field_word place index) (field_there place refs index (was.knows i (ReadsReuse place refs index) shows)))
  step_sound i (DrawsNumber place refs index counter) shows remembers = draw_sound l t remembers
  step_sound i (Enters place refs index counter number) shows remembers = entry_sound l t number _ remembers
  step_sound i FindsNothing shows remembers = look_sound l t _ (omega arith)
