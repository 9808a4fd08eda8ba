-- A trace begins with exactly its roots gray, and is finished with exactly what was left marked.
use Rattle.std.proofs.Common.{◌≡◌, ℕ, zero, suc, ◌+◌, ◌*◌, ◌/◌, ◌≤◌, ◌<◌, refl, sym, ap, subst, ◌∙◌, inl, inr, ◌⊎◌, arith, true, false, List, [], ◌∷◌, length}
use Rattle.std.specs.Prelude.{not, Option, Some, None, IsTrue, map, slice_get}
use Rattle.std.specs.List.{Contains}
use Rattle.std.proofs.lemmas.Bool.Decides.{leb_tells}
use Rattle.lxr_layout.specs.declared.TheConstants.{GRANULES_IN_BLOCK, REMEMBERED_CURSOR}
use Rattle.lxr_layout.specs.declared.Name.{Name}
use Rattle.lxr_layout.specs.declared.Place.{Place}
use Rattle.lxr_graph.specs.Names.{has}
use Rattle.lxr_graph.specs.State.{world_name}
use Rattle.lxr_image.specs.declared.space.Space.{Space}
use Rattle.lxr_image.specs.Spaces.{Turns, tables_of}
use Rattle.lxr_image.specs.Tables.{Tables, changed}
use Rattle.lxr_image.specs.Image.{place_word}
use Rattle.lxr_image.specs.Reads.{field_at, granule_of}
use Rattle.lxr_image.proofs.TableLaws.{no_start_past}
use Rattle.lxr_blocks.specs.declared.states.BlockState.TheVariants.{Chosen}
use Rattle.lxr_blocks.specs.States.{state_in}
use Rattle.lxr_model.specs.Moments.{Field, Moment, Trace}
use Rattle.lxr_model_counting.specs.Distinct.{has_field}
use Rattle.lxr_model_counting.proofs.DistinctLemmas.{field_split, tested}
use Rattle.lxr_model.specs.Reachable.{Holds, Refers}
use Rattle.lxr_invariant.specs.Lines.{ChosenNeedTrace, is_chosen}
use Rattle.lxr_invariant.specs.Tracing.{IsGray, IsMarked, IsRoot, IsToBeMarked, unscanned_slots}
use Rattle.lxr_invariant.proofs.EntryLemmas.{changed_cases, changed_here, passing_few}
use Rattle.lxr_remset.specs.Remembering.{AreEntered, CanRemember, EntersOnce, HasEntryOf, Remembers, entry_now}
use Rattle.lxr_remset.proofs.ChosenLemmas.{chosen_told}
use Rattle.lxr_pause_trace.specs.Marking.{AreEnteredAt, CountsFar, HasEntryAt, HoldPlaces, IsLeft, IsMarking, IsOver, IsSeen, IsWaiting, RefersAt, ShadesRegisters, WaitOnce, granules, gray, referred, waiting_slots}
use Rattle.lxr_pause_trace.specs.Tracing.{BeginsTrace, CanFinishTrace, CanTrace, FinishesTrace, HasAllToBeMarked}
use Rattle.lxr_pause_trace.proofs.DrawnLemmas.{none_drawn}
use Rattle.lxr_pause_trace.proofs.EnteringLemmas.{found_alike, found_none, kept_still}
use Rattle.lxr_pause_trace.proofs.HoldsLemmas.{holds_remarked}
use Rattle.lxr_pause_trace.proofs.LeftLemmas.{due_start, left_start, started_place}
use Rattle.lxr_pause_trace.proofs.NamedLemmas.{held_named, held_placed, left_named, name_placed, refers_kept, refers_named, refers_placed, root_kept, same_place, to_be_kept, to_be_left, traceable}
use Rattle.lxr_pause_trace.proofs.NameSlotLemmas.{all_placed, places_of, slots_by_names}
use Rattle.lxr_pause_trace.proofs.SlotLemmas.{is_first, is_later}

-- ---- a trace is finished

-- no block is Chosen where no trace runs, and where one does the cursor is far from its end
counts_far : (t : Tables) (blocks : ℕ) (trace : Option Trace) → ChosenNeedTrace t blocks trace → CanRemember trace t → CountsFar t blocks
counts_far t blocks None none can = inl none
counts_far t blocks (Some trace) none can = inr can

-- nothing is found yet
pub opening_stage : (s : Space) (m : Moment) (at : Name → ℕ) → CanFinishTrace s m at → IsMarking s s 0
opening_stage s m at may = record {
  space = can.holds.space;
  traceable = traceable s m at can;
  far = counts_far (tables_of s) s.limits.blocks m.trace can.holds.blocks.chosen may.remembers;
  so_far = record {
    marks_kept = λ k h. h;
    marks_left = λ p some h. inl h;
    grays_kept = λ k h. h;
    grays_due = λ p some h. record { placed = some; by = inl h };
  };
  ended = λ k below. absurd (omega (arith, below));
  waiting = λ p h. absurd (no_item p (subst (λ z. Contains z p) can.holds.no_work h));
  scanned = λ p q i w some e. absurd (not_left p w);
  single = subst WaitOnce (sym can.holds.no_work) no_waiting;
  kept = kept_still s.limits (tables_of s);
  drawn = none_drawn s.limits (tables_of s) _;
  bound = λ places all. let none = ap (waiting_slots (tables_of s)) can.holds.no_work in omega (arith, none);
  room = let none : length s.work.items ≡ 0 = ap length can.holds.no_work in
      let room = can.holds.room.work in
      let few = passing_few (λ k. not ((tables_of s).marks k)) (granules s) in
      omega (arith, none, room, few);
  tables = found_none (tables_of s);
  rest = refl;
}
  where
    can : CanTrace s m at
    can = may.trace

    no_waiting : WaitOnce []
    no_waiting = tt

    no_item : (p : Place) → Contains [] p → ⊥
    no_item p h = let within = h.1 in omega (arith, within)

    left_unmarked : (p : ℕ) → IsLeft (tables_of s) p → (tables_of s).marks (granule_of p) ≡ false
    left_unmarked p (gray _ some g unmarked) = unmarked
    left_unmarked q (referred p _ left refers unmarked) = unmarked

    not_left : (p : ℕ) → IsWaiting (tables_of s) (tables_of s) p → ⊥
    not_left p w = let none = left_unmarked p w.left in let marked = w.marked in absurd (cc)

module _ (s after : Space) (m : Moment) (at : Name → ℕ) (may : CanFinishTrace s m at) (over : IsOver s after) where
  abbrev can : CanTrace s m at
  can = may.trace

  abbrev t : Tables
  t = tables_of s

  abbrev u : Tables
  u = tables_of after

  starts_same : (k : ℕ) → u.starts k ≡ t.starts k
  starts_same k = ap (λ z. z.starts k) over.stage.tables

  -- what is gray and begins below the heap's end is marked
  start_marked : (k : ℕ) → IsTrue (t.starts k) → IsTrue (u.grays k) → IsTrue (u.marks k)
  start_marked k start g = elim (leb_tells (granules after) k) [
    | inl past ↦ absurd (let none = no_start_past after.limits after.words k over.stage.space.size past.1 in let same = starts_same k in cc)
    | inr within ↦ over.stage.ended k within.1 g
  ]

  no_item : (p : Place) → Contains after.work.items p → ⊥
  no_item p h = let within = h.1 in let none : length after.work.items ≡ 0 = ap length over.no_work in omega (arith, within, none)

  -- each reference of a marked object that was left to mark is seen
  scanned_seen : (p q : ℕ) → IsLeft t p → IsTrue (u.marks (granule_of p)) → (refers : RefersAt t p q) → IsSeen s.limits u p refers.1 q
  scanned_seen p q left marked refers = elim (over.stage.scanned p q refers.1 (record { left = left; marked = marked }) refers.0 refers.2) [
    | inl waits ↦ absurd (no_item (record { 0 = p }) waits)
    | inr (inl pending) ↦ absurd pending
    | inr (inr seen) ↦ seen
  ]

  -- all that was left is marked
  left_marked : (p : ℕ) → IsLeft t p → IsTrue (u.marks (granule_of p))
  left_marked p (gray _ some g unmarked) = start_marked (granule_of p) (can.holds.bits.grays (granule_of p) g) (over.stage.so_far.grays_kept (granule_of p) g)
  left_marked q (referred p _ left refers unmarked) = (scanned_seen p q left (left_marked p left) refers).found.marked

  -- marks and grays stand at objects
  next_granule : (k : ℕ) → granule_of (k + 1) ≡ k
  next_granule k = omega arith

  marks_start : (k : ℕ) → IsTrue (u.marks k) → IsTrue (t.starts k)
  marks_start k h = elim (over.stage.so_far.marks_left (k + 1) (omega arith) (ap u.marks (next_granule k) ∙ h)) [
    | inl was ↦ can.holds.bits.marks k (ap t.marks (sym (next_granule k)) ∙ was)
    | inr left ↦ ap t.starts (sym (next_granule k)) ∙ (left_start t s.limits.blocks over.stage.traceable (k + 1) left).1
  ]

  grays_start : (k : ℕ) → IsTrue (u.grays k) → IsTrue (t.starts k)
  grays_start k h = ap t.starts (sym (next_granule k)) ∙ due_start t s.limits.blocks over.stage.traceable (k + 1) (over.stage.so_far.grays_due (k + 1) (omega arith) (ap u.grays (next_granule k) ∙ h))

  rest_same : after ≡ record s { words = after.words }
  rest_same =
      let none : after.work.items ≡ s.work.items = over.no_work ∙ sym can.holds.no_work in
      over.stage.rest ∙ (λ i. record s { words = after.words; work = record { items = none i; room = s.work.room } })

  -- ---- by names

  name_of_left : (n : Name) → IsTrue (has m.unreclaimed n) → IsLeft t (at n) → IsToBeMarked t m at n
  name_of_left n h left =
      let x = left_named s m at can (at n) left in
      subst (λ z. IsToBeMarked t m at z) (same_place s m at can x.0 n (to_be_kept s m at can x.0 x.1) h (ap granule_of x.2)) x.1

  marked_by : (n : Name) → IsTrue (has m.unreclaimed n) → IsMarked u at n → IsMarked t at n ⊎ IsToBeMarked t m at n
  marked_by n h marked = elim (over.stage.so_far.marks_left (at n) (name_placed s m at can n h) marked) [
    | inl was ↦ inl was
    | inr left ↦ inr (name_of_left n h left)
  ]

  gray_by : (n : Name) → IsTrue (has m.unreclaimed n) → IsGray u at n → IsGray t at n ⊎ ((o : Name) × IsToBeMarked t m at o × Refers m.state.graph o n)
  gray_by n h g = elim (over.stage.so_far.grays_due (at n) (name_placed s m at can n h) g).by [
    | inl was ↦ inl was
    | inr r ↦
        let x = left_named s m at can r.0 r.1 in
        let in_x = to_be_kept s m at can x.0 x.1 in
        let v = refers_named s m at can x.0 (at n) in_x (subst (λ z. RefersAt t z (at n)) (sym x.2) r.2) in
        inr (x.0, x.1, subst (Refers m.state.graph x.0) (same_place s m at can v.0 n (refers_kept s m at can x.0 v.0 in_x v.1) h (ap granule_of v.2)) v.1)
  ]

  gray_since : (n : Name) → IsGray t at n ⊎ ((o : Name) × IsToBeMarked t m at o × Refers m.state.graph o n) → IsGray u at n
  gray_since n (inl was) = over.stage.so_far.grays_kept (granule_of (at n)) was
  gray_since n (inr r) =
      let left = to_be_left s m at can r.0 r.1 in
      (scanned_seen (at r.0) (at n) left (left_marked (at r.0) left) (refers_placed s m at can r.0 n (to_be_kept s m at can r.0 r.1) r.2)).found.gray

  marked_since : (n : Name) → IsMarked t at n ⊎ IsToBeMarked t m at n → IsMarked u at n
  marked_since n (inl was) = over.stage.so_far.marks_kept (granule_of (at n)) was
  marked_since n (inr is) = left_marked (at n) (to_be_left s m at can n is)

  -- ---- what is remembered

  -- each number that was drawn has the entry of a reference of what was to be marked
  entry_by : (k : ℕ) → HasEntryAt s.limits t u (λ p i. Contains after.work.items (record { 0 = p }) ⊎ ⊥) k → HasEntryOf s.limits u m at (λ n i. IsToBeMarked t m at n) k
  entry_by k e =
      let n = left_named s m at can e.place e.scanned.left in
      let v = held_named s m at can n.0 e.index e.held (to_be_kept s m at can n.0 n.1) e.placed (ap (λ z. field_at t z e.index) n.2 ∙ e.holds) in
      record {
        holder = n.0;
        held = v.0;
        index = e.index;
        one = n.1;
        holds = v.1;
        chosen = subst (λ z. state_in u (granule_of z / GRANULES_IN_BLOCK) ≡ Chosen) (sym v.2) (chosen_told (state_in u (granule_of e.held / GRANULES_IN_BLOCK)) e.chosen);
        entry = e.entry ∙ ap (λ z. entry_now s.limits.blocks u (record { 0 = z }) e.index) (sym n.2);
      }

  remembers : Remembers s.limits t u m at at (λ n i. IsToBeMarked t m at n)
  remembers = record {
    fields = λ n v i is held chosen.
        let left = to_be_left s m at can n is in
        let member = to_be_kept s m at can n is in
        let placed = name_placed s m at can v (refers_kept s m at can n v member (i, held)) in
        (scanned_seen (at n) (at v) left (left_marked (at n) left) (placed, i, held_placed s m at can n v i member held)).remembered (ap is_chosen chosen);
    only = λ k from below room. entry_by k (over.stage.drawn.only k from below room);
    kept = λ n i held member holds there. over.stage.kept.entered (at n) i there;
    full = over.stage.kept.full;
    entries = over.stage.kept.entries;
    idle = over.stage.kept.idle;
  }

  -- the references for which numbers were drawn, by names
  record IsNamed (rs : List (ℕ × ℕ)) : Type 0 where
    pub fields : List Field
    pub are : AreEntered s.limits u m at (λ n i. IsToBeMarked t m at n) (t.cursors REMEMBERED_CURSOR) fields
    pub as_many : length fields ≡ length rs
    pub among : (w : Field) → IsTrue (has_field fields w) → Contains rs (at w.0, w.1)

  named : (rs : List (ℕ × ℕ)) → AreEnteredAt s.limits t u (λ p i. Contains after.work.items (record { 0 = p }) ⊎ ⊥) (t.cursors REMEMBERED_CURSOR) rs → IsNamed rs
  named [] are = record { fields = []; are = tt; as_many = refl; among = λ w h. absurd (cc) }
  named (r ∷ rs) are =
      let rest = named rs are.3 in
      let e = are.0 in
      let n = left_named s m at can r.0 e.scanned.left in
      let v = held_named s m at can n.0 r.1 e.held (to_be_kept s m at can n.0 n.1) e.placed (ap (λ z. field_at t z r.1) n.2 ∙ e.holds) in
      let w : Field = (n.0, r.1) in
      let here : Contains (r ∷ rs) (at n.0, r.1) = subst (λ z. Contains (r ∷ rs) (z, r.1)) (sym n.2) (is_first r rs) in
      record {
        fields = w ∷ rest.fields;
        are = (
          n.1,
          record { held = v.0; holds = v.1; chosen = subst (λ z. state_in u (granule_of z / GRANULES_IN_BLOCK) ≡ Chosen) (sym v.2) (chosen_told (state_in u (granule_of e.held / GRANULES_IN_BLOCK)) e.chosen) },
          elim (tested (has_field rest.fields w)) [
            | inl there ↦ absurd (are.1 (subst (λ z. Contains rs (z, r.1)) n.2 (rest.among w there)))
            | inr none ↦ none
          ],
          λ room. ap (λ k. u.remembered (t.cursors REMEMBERED_CURSOR + k)) rest.as_many ∙ are.2 (subst (λ k. t.cursors REMEMBERED_CURSOR + k < s.limits.remember) rest.as_many room)
              ∙ ap (λ z. entry_now s.limits.blocks u (record { 0 = z }) r.1) (sym n.2),
          rest.are,
        );
        as_many = let same = rest.as_many in omega (arith, same);
        among = λ x h. elim (field_split w rest.fields x h) [
          | inl same ↦ subst (λ z. Contains (r ∷ rs) (at z.0, z.1)) (sym same) here
          | inr later ↦ is_later r rs (at x.0, x.1) (rest.among x later)
        ];
      }

  entered : EntersOnce s.limits t u m at (λ n i. IsToBeMarked t m at n)
  entered = let x = named over.stage.drawn.entered over.stage.drawn.are in record { entered = x.fields; are = x.are; drawn = let drawn = over.stage.drawn.drawn in let same = x.as_many in omega (arith, drawn, same) }

  bound : (names : List Name) → HasAllToBeMarked t m at names → u.cursors REMEMBERED_CURSOR + unscanned_slots u m at names ≤ t.cursors REMEMBERED_CURSOR + unscanned_slots t m at names
  bound names all =
      let is = over.stage.bound (places_of m at names) (all_placed s m at can names all) in
      let now = slots_by_names s m at can u.marks names in
      let was = slots_by_names s m at can t.marks names in
      omega (arith, is, now, was)

  pub trace_finished : FinishesTrace s after m at
  trace_finished = record {
    holds = holds_remarked s after m at rest_same over.stage.tables marks_start grays_start can.holds;
    marks = λ n h. (marked_by n h, marked_since n);
    grays = λ n h. (gray_by n h, gray_since n);
    none_left = λ k g. start_marked k (grays_start k g) g;
    remembers = remembers;
    once = over.stage.drawn.once;
    entered = entered;
    bound = bound;
    tables = over.stage.tables;
    space = rest_same;
  }

-- ---- a trace begins

-- registers that stay hold places of the same heap
pub registers_placed : (s b : Space) → b.limits ≡ s.limits → b.registers ≡ s.registers → HoldPlaces s → HoldPlaces b
registers_placed s b limits registers is i p h = subst (λ l. p.0 ≤ GRANULES_IN_BLOCK * l.blocks) (sym limits) (is i p (ap (λ z. slice_get z.items i) (sym registers) ∙ h))

-- of lists that are mapped to the same, an item of one has its counterpart in the other
counterpart : {A B C : Type 0} (f : A → C) (g : B → C) (xs : List A) (ys : List B) (i : ℕ) (y : B) → map f xs ≡ map g ys → slice_get ys i ≡ Some y → (x : A) × (slice_get xs i ≡ Some x) × (f x ≡ g y) × (i < length xs)
counterpart f g xs [] i y e h = absurd (cc)
counterpart f g [] (z ∷ ys) i y e h = absurd (cc)
counterpart f g (x ∷ xs) (z ∷ ys) zero y e h = let same : f x ≡ g z = cc in let here : z ≡ y = cc in (x, refl, same ∙ ap g here, omega arith)
counterpart f g (x ∷ xs) (z ∷ ys) (suc i) y e h = let rest : map f xs ≡ map g ys = cc in let r = counterpart f g xs ys i y rest h in (r.0, r.1, r.2, let within = r.3 in omega (arith, within))

module _ (s : Space) (m : Moment) (at : Name → ℕ) (can : CanTrace s m at) where
  -- what a register holds
  register_of : (i : ℕ) (p : Place) → slice_get s.registers.items i ≡ Some p → (r : Option Name) × (slice_get m.state.registers i ≡ Some r) × (place_word at r ≡ p.0)
  register_of i p h = let x = counterpart (place_word at) (λ z. z.0) m.state.registers s.registers.items i p (sym can.holds.image.registers) h in (x.0, x.1, x.2)

  held_name : (r : Option Name) (q : ℕ) → 1 ≤ q → place_word at r ≡ q → (n : Name) × (r ≡ Some n) × (at n ≡ q)
  held_name None q some e = absurd (omega (arith, some, e))
  held_name (Some n) q some e = (n, refl, e)

  root_of : (i : ℕ) (p : Place) → slice_get s.registers.items i ≡ Some p → 1 ≤ p.0 → (n : Name) × Holds m.state n × (at n ≡ p.0)
  root_of i p h some =
      let r = register_of i p h in
      let x = held_name r.0 p.0 some r.2 in
      (x.0, (i, r.1 ∙ ap Some x.1), x.2)

  -- registers hold nil or places of the heap
  pub registers_place : HoldPlaces s
  registers_place i p h = elim (leb_tells 1 p.0) [
    | inl some ↦
        let x = root_of i p h some.1 in
        let kept = root_kept s m at can x.0 (inr x.1) in
        (started_place s p.0 can.holds.space some.1 (ap (λ z. (tables_of s).starts (granule_of z)) (sym x.2) ∙ can.holds.bits.starts.each x.0 kept)).0
    | inr none ↦ let zero_place = none.1 in omega (arith, zero_place)
  ]

  -- a root is the world's granule or what a register holds
  module _ (clear world after : Space) (clears : Turns s clear (record (tables_of s) { marks = λ k. false; grays = λ k. false }))
      (shades : Turns clear world (record (tables_of clear) { grays = changed (tables_of clear).grays 0 true })) (registers : ShadesRegisters world after (length world.registers.items)) where
    tables_are : tables_of after ≡ record (tables_of s) { marks = λ k. false; grays = (tables_of after).grays }
    tables_are = registers.tables ∙ ap {A = Tables} (λ z. record z { grays = (tables_of after).grays }) shades.tables ∙ ap {A = Tables} (λ z. record z { grays = (tables_of after).grays }) clears.tables

    pub space_is : after ≡ record s { words = after.words }
    space_is = registers.rest ∙ ap {A = Space} (λ z. record z { words = after.words }) shades.rest ∙ ap {A = Space} (λ z. record z { words = after.words }) clears.rest

    registers_same : world.registers ≡ s.registers
    registers_same = ap (λ z. z.registers) shades.rest ∙ ap (λ z. z.registers) clears.rest

    world_grays : (k : ℕ) → (tables_of world).grays k ≡ changed (λ j. false) 0 true k
    world_grays k = ap (λ z. z.grays k) shades.tables ∙ ap (λ z. changed z.grays 0 true k) clears.tables

    world_place : granule_of (at world_name) ≡ 0
    world_place = ap granule_of can.holds.image.world

    none_marked : (k : ℕ) → (tables_of after).marks k ≡ false
    none_marked k = ap (λ z. z.marks k) tables_are

    gray_root : (k : ℕ) → IsTrue ((tables_of after).grays k) → (n : Name) × IsRoot m.state n × (k ≡ granule_of (at n))
    gray_root k h = elim (registers.grays_only k h) [
      | inl g ↦ elim (changed_cases (λ j. false) 0 true k) [
        | inl q ↦ (world_name, inl refl, q.0 ∙ sym world_place)
        | inr q ↦ absurd (let none : (tables_of world).grays k ≡ false = world_grays k ∙ q.1 in cc)
      ]
      | inr held ↦
          let x = root_of held.register held.place (ap (λ z. slice_get z.items held.register) (sym registers_same) ∙ held.holds) held.placed in
          (x.0, inr x.1, held.stands ∙ ap granule_of (sym x.2))
    ]

    root_gray : (k : ℕ) (n : Name) → IsRoot m.state n → k ≡ granule_of (at n) → IsTrue ((tables_of after).grays k)
    root_gray k n (inl is) here = registers.grays_kept k (world_grays k ∙ changed_here (λ j. false) 0 true k (here ∙ ap (λ z. granule_of (at z)) is ∙ world_place))
    root_gray k n (inr holds) here =
        let x = counterpart (λ z. z.0) (place_word at) s.registers.items m.state.registers holds.0 (Some n) can.holds.image.registers holds.1 in
        let some = name_placed s m at can n (root_kept s m at can n (inr holds)) in
        let same : length world.registers.items ≡ length s.registers.items = ap (λ z. length z.items) registers_same in
        registers.grays_held k (record {
          register = holds.0;
          place = x.0;
          among = let within = x.3 in omega (arith, within, same);
          holds = ap (λ z. slice_get z.items holds.0) registers_same ∙ x.1;
          placed = let e = x.2 in omega (arith, e, some);
          stands = here ∙ ap granule_of (sym x.2);
        })

    pub trace_begun : BeginsTrace s after m at
    trace_begun = record {
      holds = holds_remarked s after m at space_is (found_alike (tables_of s) (tables_of after) tables_then) (λ k h. absurd (let none = none_marked k in cc))
          (λ k h. let x = gray_root k h in ap (tables_of s).starts x.2 ∙ can.holds.bits.starts.each x.0 (root_kept s m at can x.0 x.1)) can.holds;
      none_marked = none_marked;
      grays = λ k. (gray_root k, λ x. root_gray k x.0 x.1 x.2);
      tables = tables_then;
      space = space_is;
    }
      where
        tables_then : tables_of after ≡ record (tables_of s) { marks = (tables_of after).marks; grays = (tables_of after).grays }
        tables_then = tables_are ∙ (λ i. record (tables_of s) { marks = λ k. sym (none_marked k) i; grays = (tables_of after).grays })
