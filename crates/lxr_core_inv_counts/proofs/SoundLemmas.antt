-- Each step of a decrementer finds its entry, leaves all but counts, grays, dones and the cursor of decrements, and clears no bit.
use Rattle.std.proofs.Common.{◌≡◌, ℕ, ◌+◌, ◌-◌, ◌*◌, ◌^◌, ◌<◌, ◌≤◌, refl, sym, ap, subst, ◌∙◌, inl, inr, arith, Bool, true, List, IsTrue, length}
use Rattle.std.specs.Prelude.{⊤, Option, Some, None, slice_get}
use Rattle.std.proofs.lemmas.Nat.{mul-le}
use Rattle.lxr_layout.specs.declared.limits.Limits.{Limits}
use Rattle.lxr_layout.specs.declared.Name.{Name}
use Rattle.lxr_layout.specs.declared.TheConstants.{DECREMENT_COUNT, DECREMENT_CURSOR, GRANULES_IN_BLOCK, REMEMBERED_CURSOR, WORDS_IN_BLOCK}
use Rattle.lxr_layout.specs.Places.{field_word, first_word}
use Rattle.lxr_graph.specs.Names.{has}
use Rattle.lxr_image.specs.Tables.{Tables, changed}
use Rattle.lxr_image.specs.Reads.{granule_of}
use Rattle.lxr_model.specs.Moments.{Moment}
use Rattle.lxr_invariant.proofs.EntryLemmas.{changed_cases, changed_other}
use Rattle.lxr_core_access.specs.declared.Access.{Access}
use Rattle.lxr_core_access.specs.declared.Access.TheVariants as access
use Rattle.lxr_core_access.specs.declared.TableEntry.{TableEntry}
use Rattle.lxr_core_access.specs.Accesses.{IsTableEntry, MayBeDone, done_to}
use Rattle.lxr_core_access.specs.Decrementers.{Decrementing, decrementer_access, Rests, AsksCount, AsksStart, Claims, ReadsHeader, AsksTracing, ReadsReference, MakesGray, AsksLowered, Lowers, AsksCursor, AsksNumber, Draws, ReadsEntry}
use Rattle.lxr_core_invariant.specs.Decremented.{DecrementerLeaves, LeavesTables}
use Rattle.lxr_core_invariant.specs.Counted.{AreCounted, IsHandledAt, StandsAt}
use Rattle.lxr_core_inv_counts.proofs.HandLemmas.{soon_at}
use Rattle.lxr_core_inv_counts.proofs.GroundLemmas.{IsGround}
use Rattle.lxr_core_inv_counts.proofs.FactLemmas.{refs_there}
use Rattle.lxr_core_inv_counts.proofs.LookLemmas.{counted_some}

-- an access may be done in tables, and leaves this of them
pub record IsSoundFor (l : Limits) (t : Tables) (access : Access) : Type 0 where
  pub may : MayBeDone l t access
  pub leaves : LeavesTables t (done_to t access)
  pub decrementer_leaves : DecrementerLeaves t (done_to t access)

abbrev pub IsSoundWhere : Limits → Tables → Option Access → Type 0
IsSoundWhere l t None = ⊤
IsSoundWhere l t (Some access) = IsSoundFor l t access

-- ---- what each kind of access leaves

look_leaves : (t : Tables) → LeavesTables t t
look_leaves t = record { rest = refl; cursors = λ c _ _. refl; counts = λ k. inl refl; marks = λ k. inl refl; grays = λ k. inl refl; dones = λ k. inl refl }

gray_leaves : (t : Tables) (granule : ℕ) → IsTrue (t.starts granule) → LeavesTables t (done_to t (access.SetGray granule))
gray_leaves t granule started = record {
  rest = refl;
  cursors = λ c _ _. refl;
  counts = λ k. inl refl;
  marks = λ k. inl refl;
  grays = λ k. elim (changed_cases t.grays granule true k) [ inl q ↦ inr (ap t.starts q.0 ∙ started) | inr q ↦ inl q.1 ];
  dones = λ k. inl refl;
}

done_leaves : (t : Tables) (granule : ℕ) → IsTrue (t.starts granule) → LeavesTables t (done_to t (access.SetDone granule))
done_leaves t granule started = record {
  rest = refl;
  cursors = λ c _ _. refl;
  counts = λ k. inl refl;
  marks = λ k. inl refl;
  grays = λ k. inl refl;
  dones = λ k. elim (changed_cases t.dones granule true k) [ inl q ↦ inr (ap t.starts q.0 ∙ started) | inr q ↦ inl q.1 ];
}

lower_leaves : (t : Tables) (granule : ℕ) → IsTrue (t.starts granule) → LeavesTables t (done_to t (access.LowerCount granule))
lower_leaves t granule started = record {
  rest = refl;
  cursors = λ c _ _. refl;
  counts = λ k. elim (changed_cases t.counts granule (t.counts granule - 1) k) [ inl q ↦ inr (ap t.starts q.0 ∙ started) | inr q ↦ inl q.1 ];
  marks = λ k. inl refl;
  grays = λ k. inl refl;
  dones = λ k. inl refl;
}

draw_leaves : (t : Tables) → LeavesTables t (done_to t (access.Draw DECREMENT_CURSOR))
draw_leaves t = record {
  rest = refl;
  cursors = λ c other _. changed_other t.cursors DECREMENT_CURSOR (t.cursors DECREMENT_CURSOR + 1) c other;
  counts = λ k. inl refl;
  marks = λ k. inl refl;
  grays = λ k. inl refl;
  dones = λ k. inl refl;
}

-- a bit that is set stays so when one is set
set_stays : (f : ℕ → Bool) (granule k : ℕ) → IsTrue (f k) → IsTrue (changed f granule true k)
set_stays f granule k set = elim (changed_cases f granule true k) [ inl q ↦ q.1 | inr q ↦ q.1 ∙ set ]

-- where no bit and no remembered entry changes, none is cleared
bits_leave : (t u : Tables) → u.marks ≡ t.marks → u.grays ≡ t.grays → u.dones ≡ t.dones → u.remembered ≡ t.remembered → u.cursors REMEMBERED_CURSOR ≡ t.cursors REMEMBERED_CURSOR → DecrementerLeaves t u
bits_leave t u marks grays dones remembered drawn = record { marks = marks; remembered = remembered; drawn = drawn; grays = λ k set. ap (λ f. f k) grays ∙ set; dones = λ k set. ap (λ f. f k) dones ∙ set }

gray_set : (t : Tables) (granule : ℕ) → DecrementerLeaves t (done_to t (access.SetGray granule))
gray_set t granule = record { marks = refl; remembered = refl; drawn = refl; grays = set_stays t.grays granule; dones = λ k set. set }

done_set : (t : Tables) (granule : ℕ) → DecrementerLeaves t (done_to t (access.SetDone granule))
done_set t granule = record { marks = refl; remembered = refl; drawn = refl; grays = λ k set. set; dones = set_stays t.dones granule }

-- a look at an entry that exists
look_sound : (l : Limits) (t : Tables) (entry : TableEntry) → IsTableEntry l entry → IsSoundFor l t (access.Look entry)
look_sound l t entry exists = record { may = record { table_entry = exists; entry = tt }; leaves = look_leaves t; decrementer_leaves = bits_leave t t refl refl refl refl refl }

-- ---- entries that exist

-- a place of the heap has a granule there
granule_within : (blocks p : ℕ) → 1 ≤ p → p ≤ 2048 * blocks → p - 1 < 2048 * blocks
granule_within blocks p some within = omega arith

begins_within : (blocks p refs : ℕ) → 2 * (p - 1) + 1 + refs ≤ 4096 * blocks → p - 1 < 2048 * blocks
begins_within blocks p refs within = omega arith

header_within : (blocks p refs : ℕ) → 2 * (p - 1) + 1 + refs ≤ 4096 * blocks → 2 * (p - 1) < 4096 * blocks
header_within blocks p refs within = omega arith

-- a cursor that is drawn from by fewer than 2 ^ 63 decrementers past a short list stays a word
cursor_within : (cursor soon own count many : ℕ) → cursor + soon ≤ count + many → own ≤ soon → own ≡ 1 → many < 2 ^ 63 → count ≤ 255 * 65792 → cursor + 1 < 2 ^ 64
cursor_within cursor soon own count many drawn among one few short = omega arith

module _ (l : Limits) (t : Tables) (ds : List Decrementing) (m : Moment) (at : Name → ℕ) (ground : IsGround l t m at) (was : AreCounted l.blocks t ds m at) where
  -- what stands at a place begins in the heap, where a start bit is
  granule_there : (place : ℕ) (n : Name) → IsTrue (has m.unreclaimed n) → place ≡ at n → granule_of place < GRANULES_IN_BLOCK * l.blocks
  granule_there place n member there = let x = ground.stands n member in subst (λ p. granule_of p < GRANULES_IN_BLOCK * l.blocks) (sym there) (begins_within l.blocks (at n) x.shape.refs x.in_heap)

  started_there : (place : ℕ) (n : Name) → IsTrue (has m.unreclaimed n) → place ≡ at n → IsTrue (t.starts (granule_of place))
  started_there place n member there = ap (λ p. t.starts (granule_of p)) there ∙ ground.starts.each n member

  word_there : (place : ℕ) (n : Name) → IsTrue (has m.unreclaimed n) → place ≡ at n → first_word place < WORDS_IN_BLOCK * l.blocks
  word_there place n member there = let x = ground.stands n member in subst (λ p. first_word p < WORDS_IN_BLOCK * l.blocks) (sym there) (header_within l.blocks (at n) x.shape.refs x.in_heap)

  -- so do its references
  field_there : (place refs index : ℕ) → IsHandledAt t m at place refs → index < refs → field_word place index < WORDS_IN_BLOCK * l.blocks
  field_there place refs index is within =
      let n : Name = is.done.name in
      let x = ground.stands n is.done.member in
      let as_many = is.refs_are ∙ ap length (refs_there l t ds m at ground was place n is.done.member is.done.stands) ∙ sym x.refs in
      let lies = x.in_heap in
      subst (λ p. field_word p index < WORDS_IN_BLOCK * l.blocks) (sym is.done.stands) (omega (arith, as_many, lies, within))

  -- the list of decrements is short
  short : t.cursors DECREMENT_COUNT ≤ 255 * 65792
  short =
      let fits = ground.decrements.fits in
      let log = ground.limits.log.1 in
      let registers = ground.limits.registers.1 in
      let most = mul-le l.threads (l.log + l.registers) 255 65792 ground.limits.threads.1 (omega (arith, log, registers)) in
      omega (arith, fits, most)

  -- the access of each step may be done
  pub step_sound : (i : ℕ) (d : Decrementing) → slice_get ds i ≡ Some d → IsSoundWhere l t (decrementer_access d)
  step_sound i Rests shows = tt
  step_sound i (AsksCount place) shows = let knows = was.knows i (AsksCount place) shows in look_sound l t _ (granule_within l.blocks place knows.0 knows.1)
  step_sound i (AsksStart place uncounted) shows = let knows = was.knows i (AsksStart place uncounted) shows in look_sound l t _ (granule_within l.blocks place knows.0.0 knows.0.1)
  step_sound i (Claims place) shows =
      let stands = (was.knows i (Claims place) shows).stands in
      record { may = record { table_entry = granule_there place stands.name stands.member stands.stands; entry = tt }; leaves = done_leaves t (granule_of place) (started_there place stands.name stands.member stands.stands); decrementer_leaves = done_set t (granule_of place) }
  step_sound i (ReadsHeader place) shows = let knows = was.knows i (ReadsHeader place) shows in look_sound l t _ (word_there place knows.name knows.member knows.stands)
  step_sound i (AsksTracing place refs) shows = look_sound l t _ (omega arith)
  step_sound i (ReadsReference place refs index traced) shows = let knows = was.knows i (ReadsReference place refs index traced) shows in look_sound l t _ (field_there place refs index knows.0 knows.1)
  step_sound i (MakesGray place refs index referent) shows =
      let held = (was.knows i (MakesGray place refs index referent) shows).1 in
      record { may = record { table_entry = granule_there referent held.held held.member held.stands; entry = tt }; leaves = gray_leaves t (granule_of referent) (started_there referent held.held held.member held.stands); decrementer_leaves = gray_set t (granule_of referent) }
  step_sound i (AsksLowered referent handling) shows = let stands = (was.knows i (AsksLowered referent handling) shows).0 in look_sound l t _ (granule_there referent stands.name stands.member stands.stands)
  step_sound i (Lowers referent handling) shows =
      let loose = (was.knows i (Lowers referent handling) shows).0 in
      let stands : StandsAt m at referent = record { name = loose.name; member = loose.member; stands = loose.stands } in
      let below = was.below loose.name loose.member loose.unstuck in
      let same = ap (λ p. t.counts (granule_of p)) loose.stands in
      record {
        may = record {
          table_entry = granule_there referent loose.name loose.member loose.stands;
          entry = (counted_some l t ds m at ground was i (Lowers referent handling) referent handling shows (λ n. refl) stands, λ e. omega (arith, below, same, e));
        };
        leaves = lower_leaves t (granule_of referent) (started_there referent loose.name loose.member loose.stands);
        decrementer_leaves = bits_leave t _ refl refl refl refl refl;
      }
  step_sound i AsksCursor shows = look_sound l t _ (omega arith)
  step_sound i (AsksNumber cursor) shows = look_sound l t _ (omega arith)
  step_sound i (Draws count) shows = record {
    may = record {
      table_entry = omega arith;
      entry = cursor_within _ _ _ _ _ was.drawn (soon_at (t.cursors DECREMENT_COUNT) ds i (Draws count) shows) refl was.few short;
    };
    leaves = draw_leaves t;
    decrementer_leaves = bits_leave t _ refl refl refl refl (changed_other t.cursors DECREMENT_CURSOR (t.cursors DECREMENT_CURSOR + 1) REMEMBERED_CURSOR (λ e. absurd (omega arith)));
  }
  step_sound i (ReadsEntry number) shows = let within = was.knows i (ReadsEntry number) shows in let fits = ground.decrements.fits in look_sound l t _ (omega (arith, within, fits))
