-- A full heap has an object in each block that isn't Chosen, and so at least as many objects as such blocks: names are taken out block by
-- block.
-- All objects but the world take all lines behind the world's three, so they can leave no run where none is left.
use Rattle.std.proofs.Common.{◌≡◌, ◌≢◌, ℕ, zero, suc, ◌+◌, ◌-◌, ◌*◌, ◌/◌, ◌<◌, ◌≤◌, refl, sym, ap, subst, ◌∙◌, inl, inr, ◌⊎◌, arith, Bool, true, false, nat_eq, List, [], ◌∷◌, ◌++◌, length}
use Rattle.std.specs.Prelude.{◌↔◌, Some, IsTrue, not, map, filter, if◌then◌else◌}
use Rattle.std.proofs.Math.Nat.{mul-le-mul_right}
use Rattle.std.proofs.lemmas.Bool.{cases_Bool, false_from_ne_true, or_cases, or_left, or_right}
use Rattle.std.proofs.lemmas.Bool.Decides.{nat_tests}
use Rattle.std.proofs.lemmas.List.{append-nil, length-append, length-map}
use Rattle.std.proofs.lemmas.List.Filters.{length-filter_both}
use Rattle.std.proofs.lemmas.List.Folds.{list_any-append}
use Rattle.std.proofs.lemmas.List.Sorted.{length_permutation}
use Rattle.std.proofs.lemmas.Map.Views.{any-filter_same}
use Rattle.lxr_layout.specs.declared.TheConstants.{GRANULES_IN_BLOCK, GRANULES_IN_LINE, LINES_IN_BLOCK}
use Rattle.lxr_layout.specs.declared.Name.{Name}
use Rattle.lxr_layout.specs.declared.Shape.{Shape}
use Rattle.lxr_layout.specs.Objects.{FitsShape, line_count}
use Rattle.lxr_graph.specs.State.{Graph, Object, world_name}
use Rattle.lxr_graph.specs.Names.{AreInOrder, IsSetOf, has, same_name, union, without}
use Rattle.lxr_graph.proofs.NameSets.{has_one, in_order-without, in_without, not_both, same_names, union_cases, union_left, union_right, without_parts}
use Rattle.lxr_image.specs.declared.space.Space.{Space}
use Rattle.lxr_image.specs.Tables.{Tables}
use Rattle.lxr_image.specs.Spaces.{tables_of}
use Rattle.lxr_image.specs.Reads.{granule_of}
use Rattle.lxr_image.specs.Image.{IsImage, granules_of}
use Rattle.lxr_blocks.specs.declared.states.BlockState.{BlockState}
use Rattle.lxr_blocks.specs.declared.states.BlockState.TheVariants.{Chosen, World}
use Rattle.lxr_blocks.specs.Lines.{free_in, is_free}
use Rattle.lxr_blocks.specs.States.{state_in}
use Rattle.lxr_blocks.specs.Placing.{IsFull}
use Rattle.lxr_model.specs.Full.{LeaveNoRun}
use Rattle.lxr_model.specs.Moments.{Moment}
use Rattle.lxr_model.specs.Reachable.{Reachable}
use Rattle.lxr_model_counting.proofs.DistinctLemmas.{first_has}
use Rattle.lxr_full.specs.Taken.{LinesAreTaken}
use Rattle.lxr_full.proofs.TakenLemmas.{taken_leaves_no_run}
use Rattle.lxr_invariant.specs.AbstractState.{AbstractState, members}
use Rattle.lxr_invariant.specs.Standing.{entry_of}
use Rattle.lxr_invariant.specs.Lines.{Covers, IsTakenBy, OutsAreTaken, chosen_count, is_chosen}
use Rattle.lxr_invariant.specs.Quiescent.{HoldsMoment, IsQuiescent}
use Rattle.lxr_full.specs.Room.{CollectedFullLeavesNoRun, HasWorld, LogIsWritten, RoomlessBlocksAreTaken, WaitingMayCollect}
use Rattle.lxr_full.proofs.TakenLines.{all_or_one, line_taken}

-- ---- one name a block

in_filter : (p : Name → Bool) (ns : List Name) (n : Name) → p n ≡ true → IsTrue (has ns n) → IsTrue (has (filter p ns) n)
in_filter p ns n passes h = any-filter_same (same_name n) p true (λ k e. ap p (sym (same_names n k e)) ∙ passes) ns ∙ h

some_length : (ns : List Name) (n : Name) → IsTrue (has ns n) → 1 ≤ length ns
some_length [] n h = absurd (cc)
some_length (m ∷ ns) n h = omega arith

-- a list has a name for each of the numbers below one of blocks that aren't Chosen
abbrev pub HasEach : Tables → (Name → ℕ) → List Name → ℕ → Type 0
HasEach t f ns n = (b : ℕ) → b < n → state_in t b ≢ Chosen → (x : Name) × IsTrue (has ns x) × (f x ≡ b)

-- the names of a number, and all others
abbrev of_number : (Name → ℕ) → ℕ → Name → Bool
of_number f n x = nat_eq (f x) n

abbrev of_others : (Name → ℕ) → ℕ → Name → Bool
of_others f n x = not (of_number f n x)

others_stay : (t : Tables) (f : Name → ℕ) (ns : List Name) (n : ℕ) → HasEach t f ns (n + 1) → HasEach t f (filter (of_others f n) ns) n
others_stay t f ns n all b below unchosen =
    let x = all b (omega (arith, below)) unchosen in
    let other : of_number f n x.0 ≡ false = let is = x.2 in grind (arith, nat_tests, is, below) in
    (x.0, in_filter (of_others f n) ns x.0 (ap not other) x.1, x.2)

one_goes : (t : Tables) (f : Name → ℕ) (ns : List Name) (n : ℕ) → state_in t n ≢ Chosen → HasEach t f ns (n + 1) → 1 ≤ length (filter (of_number f n) ns)
one_goes t f ns n unchosen all =
    let x = all n (omega arith) unchosen in
    let own : of_number f n x.0 ≡ true = let is = x.2 in grind (arith, nat_tests, is) in
    some_length (filter (of_number f n) ns) x.0 (in_filter (of_number f n) ns x.0 own x.1)

-- a block is Chosen, and counts as such, or isn't
chosen_or_open : (state : BlockState) → (1 ≤ (if is_chosen state then 1 else 0)) ⊎ (state ≢ Chosen)
chosen_or_open state = elim (is_chosen state) as (λ c. is_chosen state ≡ c → (1 ≤ (if c then 1 else 0)) ⊎ (state ≢ Chosen)) [
  | true ↦ λ e. inl (omega arith)
  | false ↦ λ e. inr (λ chosen. let both : false ≡ true = sym e ∙ ap is_chosen chosen in cc)
] refl

-- it has at least as many names then
pub pigeonhole : (t : Tables) (f : Name → ℕ) (ns : List Name) (n : ℕ) → HasEach t f ns n → n ≤ chosen_count t n + length ns
pigeonhole t f ns zero all = omega arith
pigeonhole t f ns (suc n) all =
    let each : HasEach t f ns (n + 1) = λ b below unchosen. all b (omega (arith, below)) unchosen in
    elim (chosen_or_open (state_in t n)) [
      | inl chosen ↦
          let rest = pigeonhole t f ns n (λ b below unchosen. all b (omega (arith, below)) unchosen) in
          omega (arith, chosen, rest)
      | inr unchosen ↦
          let some = one_goes t f ns n unchosen each in
          let rest = pigeonhole t f (filter (of_others f n) ns) n (others_stay t f ns n each) in
          let both = length-filter_both (of_number f n) (of_others f n) (λ x. refl) ns in
          omega (arith, some, rest, both)
    ]

-- ---- each block is taken

-- a free line is told by a test
pub told_free : (t : Tables) (b i : ℕ) → IsTrue (free_in t b i) ⊎ ¬ IsTrue (free_in t b i)
told_free t b i = elim (cases_Bool (free_in t b i)) [ inl free ↦ inl free | inr taken ↦ inr (λ free. let w : true ≡ false = sym free ∙ taken in cc) ]

-- an object that has a granule of a line of a block begins in that block
block_of : (first granules k b i : ℕ) → first ≤ k → k < first + granules → first / GRANULES_IN_BLOCK ≡ (first + granules - 1) / GRANULES_IN_BLOCK → k / GRANULES_IN_LINE ≡ LINES_IN_BLOCK * b + i → i < LINES_IN_BLOCK → first / GRANULES_IN_BLOCK ≡ b
block_of first granules k b i low high whole line within = omega arith

-- a whole block is long enough
whole_is_long : (shape : Shape) → FitsShape shape → line_count shape ≤ LINES_IN_BLOCK
whole_is_long shape fits = let refs = fits.0 in let values = fits.1 in omega arith

-- an object of a line of a block begins in that block
pub begins_in_block : (t : Tables) (blocks : ℕ) (g : Graph) (at : Name → ℕ) (ms : List Name) (b i : ℕ) → IsImage t blocks at g ms → i < LINES_IN_BLOCK → IsTakenBy g at ms (LINES_IN_BLOCK * b + i)
    → (n : Name) × IsTrue (has ms n) × (granule_of (at n) / GRANULES_IN_BLOCK ≡ b)
begins_in_block t blocks g at ms b i image within taken =
    let a = image.stands taken.0 taken.3 in
    let found = taken.4.object in
    let both : Some taken.1 ≡ Some a.0 = sym found ∙ a.1 in
    let same : taken.1 ≡ a.0 = cc in
    let high : taken.2 < granule_of (at taken.0) + granules_of a.0 = subst (λ o. taken.2 < granule_of (at taken.0) + granules_of o) same taken.4.behind in
    (taken.0, taken.3, block_of (granule_of (at taken.0)) (granules_of a.0) taken.2 b i taken.4.first high a.2.whole.in_block taken.5 within)

-- what is unreclaimed or made since the last pause is a member
in_members : (m : Moment) (n : Name) → IsTrue (has m.unreclaimed n) ⊎ IsTrue (has m.made n) → IsTrue (has (members m) n)
in_members m n (inl old) = list_any-append (same_name n) m.unreclaimed m.made ∙ or_left (has m.unreclaimed n) (has m.made n) old
in_members m n (inr new) = list_any-append (same_name n) m.unreclaimed m.made ∙ or_right (has m.unreclaimed n) (has m.made n) new

-- in a space that holds a moment, an object of a member overlaps a line that isn't free
pub member_takes : (s : Space) (g : AbstractState) → HoldsMoment s g.moment g.at → OutsAreTaken (tables_of s) g.moment.state.graph g.at (members g.moment) → (line : ℕ) → is_free (tables_of s) line ≡ false
    → IsTakenBy g.moment.state.graph g.at (members g.moment) line
member_takes s g holds outs =
    line_taken (tables_of s) s.limits.blocks g.moment.state.graph g.at g.moment.unreclaimed (members g.moment) holds.image.image
    (λ n h. in_members g.moment n (inl h)) holds.marks outs

block_is_taken : (s : Space) (g : AbstractState) (shape : Shape) → IsQuiescent s g → FitsShape shape → IsFull s shape → (b : ℕ) → b < s.limits.blocks → state_in (tables_of s) b ≢ Chosen
    → (n : Name) × IsTrue (has (members g.moment) n) × (granule_of (g.at n) / GRANULES_IN_BLOCK ≡ b)
block_is_taken s g shape between fits full b below unchosen =
    let holds = between.safepoint.holds in
    elim (all_or_one (λ i. IsTrue (free_in (tables_of s) b i)) LINES_IN_BLOCK (told_free (tables_of s) b)) [
      | inl free ↦ absurd (full.lines (record { block = b; line = 0; lines = LINES_IN_BLOCK })
          (record {
            run = record { block = below; within = omega arith; free = λ i low high. free i (omega (arith, high)) };
            outside = unchosen;
          })
          (whole_is_long shape fits))
      | inr x ↦ begins_in_block (tables_of s) s.limits.blocks g.moment.state.graph g.at (members g.moment) b x.0 holds.image.image x.1
          (member_takes s g holds between.outs (LINES_IN_BLOCK * b + x.0) (false_from_ne_true (free_in (tables_of s) b x.0) x.2))
    ]

pub roomless_blocks_are_taken : RoomlessBlocksAreTaken
roomless_blocks_are_taken s g shape between fits full =
    let many = pigeonhole (tables_of s) (λ n. granule_of (g.at n) / GRANULES_IN_BLOCK) (members g.moment) s.limits.blocks (block_is_taken s g shape between fits full) in
    let few = between.safepoint.holds.blocks.few in
    let sum = length-append g.moment.unreclaimed g.moment.made in
    omega (arith, many, few, sum)

-- ---- what all objects but the world take

-- the world has the lines 0 to 2 alone
world_is_low : (g : Graph) (at : Name → ℕ) (o : Object) (k line : ℕ) → HasWorld g → at world_name ≡ 1 → Covers g at world_name o k → k / GRANULES_IN_LINE ≡ line → line < 3
world_is_low g at o k line world place is same_line =
    let found = is.object in
    let both : Some o ≡ Some world.0 = sym found ∙ world.1 in
    let same : o ≡ world.0 = cc in
    let refs : length world.0.refs ≡ 64 = world.2.refs in
    let values : length world.0.values ≡ 0 = world.2.values in
    let size : granules_of world.0 ≡ 33 = omega (arith, refs, values) in
    let all : granules_of o ≡ 33 = ap granules_of same ∙ size in
    let high = is.behind in
    omega (arith, place, all, high, same_line)

not_the_world : (g : Graph) (at : Name → ℕ) (n : Name) (o : Object) (k line : ℕ) → HasWorld g → at world_name ≡ 1 → Covers g at n o k → k / GRANULES_IN_LINE ≡ line → 3 ≤ line
    → IsTrue (has (world_name ∷ []) n) → ⊥
not_the_world g at n o k line world place is same_line past one =
    let low = world_is_low g at o k line world place (subst (λ m. Covers g at m o k) (has_one world_name n one) is) same_line in
    absurd (omega (arith, low, past))

-- an object of a line has granules before its end and behind its begin
overlaps_low : (first k line : ℕ) → first ≤ k → k / GRANULES_IN_LINE ≡ line → first < GRANULES_IN_LINE * line + GRANULES_IN_LINE
overlaps_low first k line low is = omega arith

overlaps_high : (end k line : ℕ) → k < end → k / GRANULES_IN_LINE ≡ line → GRANULES_IN_LINE * line < end
overlaps_high end k line high is = omega arith

-- these are the members but the world
record AreOthers (m : Moment) (ns : List Name) : Type 0 where
  among : (n : Name) → IsTrue (has ns n) → IsTrue (has (members m) n)
  all : (n : Name) → IsTrue (has (members m) n) → (IsTrue (has (world_name ∷ []) n) → ⊥) → IsTrue (has ns n)

lines_are_taken : (s : Space) (g : AbstractState) (ns : List Name) → HoldsMoment s g.moment g.at → OutsAreTaken (tables_of s) g.moment.state.graph g.at (members g.moment) → HasWorld g.moment.state.graph → AreOthers g.moment ns
    → LinesAreTaken (tables_of s) s.limits.blocks g.at g.moment.state.graph ns
lines_are_taken s g ns holds outs world others line past in_heap taken =
    let is = member_takes s g holds outs line taken in
    let n : Name = is.0 in (
      n,
      is.1,
      others.all n is.3 (not_the_world g.moment.state.graph g.at n is.1 is.2 line world holds.image.world is.4 is.5 past),
      is.4.object,
      overlaps_low (granule_of (g.at n)) is.2 line is.4.first is.5,
      overlaps_high (granule_of (g.at n) + granules_of is.1) is.2 line is.4.behind is.5,
    )

some_lines : (shape : Shape) → 1 ≤ line_count shape
some_lines shape = omega arith

-- the world's block isn't Chosen
world_is_open : (state : BlockState) → state ≡ World → state ≢ Chosen
world_is_open state world chosen = let both : false ≡ true = sym (ap is_chosen world) ∙ ap is_chosen chosen in cc

-- where no room is left, they can leave no run outside Chosen blocks
full_leaves_no_run : (s : Space) (g : AbstractState) (shape : Shape) (ns : List Name) → HoldsMoment s g.moment g.at → OutsAreTaken (tables_of s) g.moment.state.graph g.at (members g.moment) → HasWorld g.moment.state.graph
    → IsFull s shape → AreOthers g.moment ns → LeaveNoRun g.moment.state.graph ns (s.limits.blocks - chosen_count (tables_of s) s.limits.blocks) (line_count shape)
full_leaves_no_run s g shape ns holds outs world full others =
    taken_leaves_no_run (tables_of s) s.limits.blocks g.at g.moment.state.graph (members g.moment) ns (line_count shape) (some_lines shape) holds.space.limits.blocks.0
    (world_is_open (state_in (tables_of s) 0) holds.blocks.world)
    (record { image = holds.image.image; among = others.among; lines = lines_are_taken s g ns holds outs world others })
    full.lines

-- ---- where a `new` waits

member_cases : (m : Moment) (n : Name) → IsTrue (has (members m) n) → IsTrue (has m.unreclaimed n) ⊎ IsTrue (has m.made n)
member_cases m n h = or_cases (has m.unreclaimed n) (has m.made n) (sym (list_any-append (same_name n) m.unreclaimed m.made) ∙ h)

in_union : (m : Moment) (n : Name) → IsTrue (has m.unreclaimed n) ⊎ IsTrue (has m.made n) → IsTrue (has (union m.made m.unreclaimed) n)
in_union m n (inl old) = union_right m.made m.unreclaimed n old
in_union m n (inr new) = union_left m.made m.unreclaimed n new

union_is_members : (m : Moment) (n : Name) → IsTrue (has (union m.made m.unreclaimed) n) → IsTrue (has (members m) n)
union_is_members m n h = elim (union_cases m.made m.unreclaimed n h) [ inl new ↦ in_members m n (inr new) | inr old ↦ in_members m n (inl old) ]

union_are_others : (m : Moment) → AreOthers m (without (union m.made m.unreclaimed) (world_name ∷ []))
union_are_others m = record {
  among = λ n h. union_is_members m n (without_parts (union m.made m.unreclaimed) (world_name ∷ []) n h).0;
  all = λ n h other. in_without (union m.made m.unreclaimed) (world_name ∷ []) n (in_union m n (member_cases m n h)) other;
}

-- where no room is left, all objects but the world can leave no run outside Chosen blocks
pub all_leave_no_run : (s : Space) (g : AbstractState) (shape : Shape) → HoldsMoment s g.moment g.at → OutsAreTaken (tables_of s) g.moment.state.graph g.at (members g.moment) → HasWorld g.moment.state.graph
    → IsFull s shape → LeaveNoRun g.moment.state.graph (without (union g.moment.made g.moment.unreclaimed) (world_name ∷ [])) (s.limits.blocks - chosen_count (tables_of s) s.limits.blocks) (line_count shape)
all_leave_no_run s g shape holds outs world full = full_leaves_no_run s g shape (without (union g.moment.made g.moment.unreclaimed) (world_name ∷ [])) holds outs world full (union_are_others g.moment)

pub waiting_may_collect : WaitingMayCollect
waiting_may_collect s g shape between world fits full =
    let none = all_leave_no_run s g shape between.safepoint.holds between.outs world full in
    let few = between.safepoint.holds.blocks.few in
    let more : s.limits.blocks - s.limits.evacuate - 1 ≤ s.limits.blocks - chosen_count (tables_of s) s.limits.blocks - 1 = omega (arith, few) in
    let slots = mul-le-mul_right (LINES_IN_BLOCK / line_count shape) more in
    omega (arith, none, slots)

-- ---- right after a pause

unreclaimed_member : (us made : List Name) (n : Name) → made ≡ [] → IsTrue (has (us ++ made) n) → IsTrue (has us n)
unreclaimed_member us made n none h = subst (λ ns. IsTrue (has ns n)) (ap (λ ns. us ++ ns) none ∙ append-nil us) h

unreclaimed_are_others : (m : Moment) → m.made ≡ [] → AreOthers m (without m.unreclaimed (world_name ∷ []))
unreclaimed_are_others m none_made = record {
  among = λ n h. in_members m n (inl (without_parts m.unreclaimed (world_name ∷ []) n h).0);
  all = λ n h other. in_without m.unreclaimed (world_name ∷ []) n (unreclaimed_member m.unreclaimed m.made n none_made h) other;
}

-- a name that isn't one of the world's alone isn't the world
not_world : (n : Name) → has (world_name ∷ []) n ≡ false → n ≢ world_name
not_world n other is = not_both (has (world_name ∷ []) n) (subst (λ m. IsTrue (has (world_name ∷ []) m)) (sym is) (first_has world_name [])) other

-- where exactly the reachable is unreclaimed, these are the reachable names but the world
reachable_set : (m : Moment) → AreInOrder m.unreclaimed → ((n : Name) → IsTrue (has m.unreclaimed n) ↔ Reachable m.state n)
    → IsSetOf (without m.unreclaimed (world_name ∷ [])) (λ o. Reachable m.state o × (o ≢ world_name))
reachable_set m order exactly = record {
  in_order = in_order-without m.unreclaimed (world_name ∷ []) order;
  members = λ n. (
    λ h. let both = without_parts m.unreclaimed (world_name ∷ []) n h in ((exactly n).0 both.0, not_world n both.1),
    λ is. in_without m.unreclaimed (world_name ∷ []) n ((exactly n).1 is.0) (λ one. is.1 (has_one world_name n one)),
  );
}

pub collected_full_leaves_no_run : CollectedFullLeavesNoRun
collected_full_leaves_no_run s g shape between none_made unchosen exactly world full =
    let none = full_leaves_no_run s g shape (without g.moment.unreclaimed (world_name ∷ [])) between.safepoint.holds between.outs world full (unreclaimed_are_others g.moment none_made) in
    let all : s.limits.blocks - chosen_count (tables_of s) s.limits.blocks ≡ s.limits.blocks = omega (arith, unchosen) in (
      without g.moment.unreclaimed (world_name ∷ []),
      reachable_set g.moment between.safepoint.holds.follows.unreclaimed exactly,
      subst (λ b. LeaveNoRun g.moment.state.graph (without g.moment.unreclaimed (world_name ∷ [])) b (line_count shape)) all none,
    )

-- ---- at a safepoint before a pause

pub log_is_written : LogIsWritten
log_is_written s g safepoint =
    sym (length_permutation (map (entry_of g.moment g.at) g.moment.written) s.logged.items safepoint.holds.logs ∙ length-map g.moment.written (entry_of g.moment g.at))
