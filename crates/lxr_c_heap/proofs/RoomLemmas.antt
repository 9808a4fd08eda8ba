-- Room for objects and pauses that are to come: what a pause, a renewal and an operation leave of it, and that no pause is needed behind one.
use Rattle.std.proofs.Common.{◌≡◌, ℕ, ◌+◌, ◌*◌, ◌%◌, ◌<◌, ◌≤◌, ◌∙◌, refl, sym, ap, subst, arith, true≢false, Bool, true, false, ◌^◌, List, [], ◌∷◌, ◌⊎◌, inl, inr, Option, None, Some}
use Rattle.std.proofs.lemmas.Option.{none-some}
use mathlib.Core.Bool.{Bool-set}
use Rattle.std.specs.Coded.{le_prop}
use Rattle.std.proofs.lemmas.Bool.{cases_lt}
use Rattle.std.proofs.Math.Nat.{ℕ_set}
use mathlib.Core.Logic.{∥∥₁_elim, ∥∥₁_prop}
use Rattle.std.specs.Prelude.{if◌then◌else◌, nat_le, unwrap_or}
use Rattle.lxr_layout.specs.declared.TheConstants.{REGISTERS}
use Rattle.lxr_graph.specs.declared.Op.TheVariants as op
use Rattle.lxr_large_model.specs.declared.Acted.{Acted}
use Rattle.lxr_large_model.specs.declared.Acted.TheVariants as acted
use Rattle.lxr_large_model.specs.declared.LargeOp.{LargeOp}
use Rattle.lxr_large_model.specs.declared.LargeOp.TheVariants as large_op
use Rattle.lxr_large_model.specs.declared.LargeReply.{LargeReply}
use Rattle.lxr_large_model.specs.declared.LargeReply.TheVariants as large_reply
use Rattle.lxr_large_model.specs.Full.{LargeReplies, LargeTerms}
use Rattle.lxr_large_model.specs.History.{LargeItem, Called, large_moment, large_state}
use Rattle.lxr_large_model.specs.Step.{IsLargeReply}
use Rattle.lxr_heap.specs.declared.heap.Heap.{Heap}
use Rattle.lxr_heap.specs.Acting.{IsCallable, IsReplied, WantsNoPause, WantsPause, made_by, Acts as HeapActs}
use Rattle.lxr_heap.specs.Holding.{IsHeapOf, IsOpenedHeap, terms_of}
use Rattle.lxr_heap.specs.declared.bulk.BodyReply.{BodyReply}
use Rattle.lxr_heap.specs.declared.bulk.BodyReply.TheVariants as body_reply
use Rattle.lxr_heap.specs.Bulk.{WritesWords, with_puts, with_written}
use Rattle.lxr_heap.specs.Renewing.{RenewsHeap}
use Rattle.lxr_heap.proofs.NumberLemmas.{called_makes, called_pauses, paused_pauses, pauses_are}
use Rattle.lxr_heap.proofs.WantingLemmas.{wanted_wants_none}
use Rattle.lxr_c_heap.specs.declared.host.Ends.{Ends}
use Rattle.lxr_c_heap.specs.declared.host.HostHeap.{HostHeap}
use Rattle.lxr_c_heap.specs.declared.host.Seal.{Seal}
use Rattle.lxr_c_heap.specs.declared.settings.Settings.{Settings}
use Rattle.lxr_c_heap.specs.Hosting.{Acts, HasRoom, IsAtEnd, IsDue, IsHostOf, IsOpened, IsServing, IsWithin, Needs, Pauses, PausesWhere, Replies, SettlesAt, Turns, all_registers_in, behind_pause, exceeds_room, registers_in}
use Rattle.lxr_c_heap.specs.Working.{IsSliceDue, IsTimed, Works, first_slice, limited, slice_after, sooner, turn_of, with_limit, with_work}
use Rattle.lxr_c_heap.specs.declared.working.TheConstants.{MOST_WORK}
use Rattle.lxr_pause_decrements.specs.declared.slices.Slice.{Slice}
use Rattle.lxr_c_heap.specs.declared.pacing.Pace.{Pace}
use Rattle.lxr_c_heap.specs.declared.room.Room.{Room}
use Rattle.lxr_c_heap.specs.Pacing.{IsReached, bytes_by, due_after, lesser, pace_of}
use Rattle.lxr_c_heap.specs.Rooms.{free_in, room_after, room_limit}
use Rattle.lxr_layout.specs.declared.TheConstants.{LEAST_REGISTERS}
use Rattle.lxr_c_heap.specs.declared.settings.TheConstants.{OWN_REGISTERS}
use Rattle.lxr_c_heap.specs.Settings.{AreSettings, registers_of, room_of, sizes_of, with_own, work_said}
use Rattle.lxr_c_base.specs.Requests.{IsQuiet}
use Rattle.lxr_c_heap.proofs.OperationLemmas.{quiet_makes, quiet_may}
use Rattle.lxr_c_heap.proofs.PacingLemmas.{bytes_bound, bytes_few, paused_host, quiet_bytes, renewed_host, replied_host, sliced_host, still_named, worked_host, written_bytes}

-- some history that a program's heap is of
abbrev pub SomeHistory : HostHeap → Type 0
SomeHistory x = ∥ ((h : List LargeItem) × IsHostOf x h) ∥₁

-- when slices and pauses are looked for is known where each history tells it
told_timed : {A : Type 0} (x : HostHeap) → ∥ A ∥₁ → (A → IsTimed x) → IsTimed x
told_timed x some told = (∥∥₁_elim some le_prop (λ a. (told a).0), ∥∥₁_elim some (ℕ_set _ _) (λ a. (told a).1))

-- ---- pauses

-- behind a pause no bytes were made
pub paused_none : (x y : HostHeap) (collect : Bool) → SomeHistory x → ((h : List LargeItem) → IsHeapOf x.heap h → Pauses x y h collect) → y.bytes ≤ 0
paused_none x y collect some paused = ∥∥₁_elim some le_prop (λ of. let none = ap (λ (z : HostHeap). z.bytes) (paused of.0 of.1.heap).rest in omega (arith, none))

-- and slices begin anew
pub paused_timed : (x y : HostHeap) (collect : Bool) → SomeHistory x → IsTimed x → ((h : List LargeItem) → IsHeapOf x.heap h → Pauses x y h collect) → IsTimed y
paused_timed x y collect some timed paused = told_timed y some (λ of. subst IsTimed (sym (paused of.0 of.1.heap).rest) (timed.0, refl))

-- and one less can be made
pub paused_room : (objects pauses : ℕ) (x y : HostHeap) (collect : Bool) → HasRoom objects (pauses + 1) x → ((h : List LargeItem) → IsHeapOf x.heap h → Pauses x y h collect) → HasRoom objects pauses y
paused_room objects pauses x y collect room paused = record {
  holds = ∥∥₁_elim room.holds ∥∥₁_prop (λ of. ∣ (behind_pause y of.0, paused_host x y of.0 collect of.1 (paused of.0 of.1.heap)) ∣₁);
  made = ∥∥₁_elim room.holds le_prop (λ of. let same = (paused of.0 of.1.heap).heap.made in let few = room.made in omega (arith, same, few));
  paused = ∥∥₁_elim room.holds le_prop (λ of.
      let one = paused_pauses x.heap y.heap of.0 collect of.1.heap (paused of.0 of.1.heap).heap in
      let few = room.paused in
      omega (arith, one, few));
  bytes = let none = paused_none x y collect room.holds paused in omega (arith, none);
  timed = paused_timed x y collect room.holds room.timed paused;
}

-- a pause that collects is fresh
pub paused_fresh : (x y : HostHeap) → SomeHistory x → ((h : List LargeItem) → IsHeapOf x.heap h → Pauses x y h true) → y.heap.fresh ≡ true
paused_fresh x y some paused = ∥∥₁_elim some (Bool-set _ _) (λ of. let p = (paused of.0 of.1.heap).heap in p.holds.fresh.1 p.kind)

-- it is of some history
pub paused_some : (x y : HostHeap) (collect : Bool) → SomeHistory x → ((h : List LargeItem) → IsHeapOf x.heap h → Pauses x y h collect) → SomeHistory y
paused_some x y collect some paused = ∥∥₁_elim some ∥∥₁_prop (λ of. ∣ (behind_pause y of.0, paused_host x y of.0 collect of.1 (paused of.0 of.1.heap)) ∣₁)

-- a heap that was renewed behind a pause has room
pub renewed_room : (x : HostHeap) (heap : Heap) → SomeHistory x → x.bytes ≤ 0 → IsTimed x → ((h : List LargeItem) → IsHeapOf x.heap h → RenewsHeap x.heap heap h) → HasRoom 2 3 (record x { heap = heap })
renewed_room x heap some none timed renewed = record {
  holds = ∥∥₁_elim some ∥∥₁_prop (λ of. let came = renewed of.0 of.1.heap in
      ∣ (_, renewed_host x (record x { heap = heap }) of.0 _ of.1 (record { heap = came; history = refl; rest = refl })) ∣₁);
  made = ∥∥₁_elim some le_prop (λ of. let few = (renewed of.0 of.1.heap).few in omega (arith, few));
  paused = ∥∥₁_elim some le_prop (λ of. let no = (renewed of.0 of.1.heap).pauses in omega (arith, no));
  bytes = omega (arith, none);
  timed = timed;
}

below : (a b : ℕ) → (b ≤ a → ⊥) → a < b
below a b not = elim (cases_lt a b) [ inl less ↦ less | inr over ↦ absurd (not over) ]

-- so has one that isn't at an end
pub early_room : (ends : Ends) (x : HostHeap) → IsWithin ends → IsServing x → ¬ IsAtEnd ends x → HasRoom 2 3 x
early_room ends x within serving early = record {
  holds = serving.holds;
  made =
      let end = within.made in
      let few = below x.heap.made ends.made (λ over. early (inl over)) in
      omega (arith, end, few);
  paused =
      let end = within.pauses in
      let few = below x.heap.space.pauses ends.pauses (λ over. early (inr over)) in
      omega (arith, end, few);
  bytes = serving.bytes;
  timed = serving.timed;
}

-- where it has room, it has less room too
pub weaker_room : (objects pauses : ℕ) (x : HostHeap) → HasRoom objects pauses x → 1 ≤ objects → 1 ≤ pauses → IsServing x
weaker_room objects pauses x room one some = record {
  holds = room.holds;
  made = let few = room.made in omega (arith, few, one);
  paused = let few = room.paused in omega (arith, few, some);
  bytes = room.bytes;
  timed = room.timed;
}

pub with_less : (objects pauses : ℕ) (x : HostHeap) → HasRoom objects (pauses + 1) x → HasRoom objects pauses x
with_less objects pauses x room = record { holds = room.holds; made = room.made; paused = let few = room.paused in omega (arith, few); bytes = room.bytes; timed = room.timed }

-- a slice leaves the room as it was
pub worked_room : (objects pauses : ℕ) (x y : HostHeap) (units : ℕ) (next : Option ℕ) (slice : Slice) → HasRoom objects pauses x → ((h : List LargeItem) → IsHeapOf x.heap h → Works x y h units next slice) → HasRoom objects pauses y
worked_room objects pauses x y units next slice room works = record {
  holds = ∥∥₁_elim room.holds ∥∥₁_prop (λ of. ∣ (of.0, worked_host x y of.0 units next slice of.1 (works of.0 of.1.heap)) ∣₁);
  made = ∥∥₁_elim room.holds le_prop (λ of. let same = ap (λ (z : Heap). z.made) (works of.0 of.1.heap).heap.heap in let few = room.made in omega (arith, same, few));
  paused = ∥∥₁_elim room.holds le_prop (λ of. let same = ap (λ (z : Heap). z.space.pauses) (works of.0 of.1.heap).heap.heap in let few = room.paused in omega (arith, same, few));
  bytes = ∥∥₁_elim room.holds le_prop (λ of.
      let made = ap (λ (z : Heap). z.made) (works of.0 of.1.heap).heap.heap in
      let bytes = ap (λ (z : HostHeap). z.bytes) (works of.0 of.1.heap).rest in
      let few = room.bytes in
      omega (arith, made, bytes, few));
  timed = told_timed y room.holds (λ of. subst IsTimed (sym (works of.0 of.1.heap).rest) (room.timed.0, refl));
}

-- the bytes of new objects stay far below what a number of 64 bits holds
pub bytes_far : (objects pauses : ℕ) (x : HostHeap) → HasRoom objects pauses x → x.bytes < 2 ^ 63
bytes_far objects pauses x room = let few = room.made in let all = room.bytes in omega (arith, few, all)

-- ---- what is set

-- a slice leaves the next one, and what is looked for by it
pub worked_rest : (x : HostHeap) (heap : Heap) (slice : Slice) (next left : Option ℕ) (turn : ℕ) → left ≡ slice_after slice next → turn ≡ turn_of left x.limit x.brink
    → record x { heap = heap; slice = left; turn = turn } ≡ record x { heap = heap; slice = slice_after slice next; turn = turn_of (slice_after slice next) x.limit x.brink }
worked_rest x heap slice next left turn after turned =
    ap (λ n. record x { heap = heap; slice = left; turn = n }) turned ∙ ap (λ (s : Option ℕ). record x { heap = heap; slice = s; turn = turn_of s x.limit x.brink }) after

module _ (x : HostHeap) (heap : Heap) where
  -- what a pause leaves
  abbrev left_by : Room → Option ℕ → Option ℕ → Option ℕ → ℕ → HostHeap
  left_by room limit brink slice turn = record x { heap = heap; room = room; limit = limit; brink = brink; bytes = 0; slice = slice; turn = turn; pauses = (x.pauses + 1) % 2 ^ 64 }

  abbrev left_anew : Room → Option ℕ → Option ℕ → HostHeap
  left_anew room limit brink = left_by room limit brink (first_slice x.work 0 limit) (turn_of (first_slice x.work 0 limit) limit brink)

  -- it leaves the room and the limit of the heap that it left, and slices begin anew
  pub paused_rest : (collect : Bool) (free : ℕ) (room : Room) (limit brink slice : Option ℕ) (turn : ℕ) → free ≡ free_in heap → room ≡ room_after collect x.room free → limit ≡ due_after x.pace room free
      → brink ≡ room_limit room free → slice ≡ first_slice x.work 0 limit → turn ≡ turn_of slice limit brink
      → left_by room limit brink slice turn
      ≡ left_anew (room_after collect x.room (free_in heap)) (due_after x.pace (room_after collect x.room (free_in heap)) (free_in heap)) (room_limit (room_after collect x.room (free_in heap)) (free_in heap))
  paused_rest collect free room limit brink slice turn counted after due edged sliced turned =
      let same = after ∙ ap (room_after collect x.room) counted in
      let edge = edged ∙ ap (λ (r : Room). room_limit r free) same ∙ ap (room_limit (room_after collect x.room (free_in heap))) counted in
      let far = due ∙ ap (λ (r : Room). due_after x.pace r free) same ∙ ap (due_after x.pace (room_after collect x.room (free_in heap))) counted in
      ap (left_by room limit brink slice) turned
      ∙ ap (λ (s : Option ℕ). left_by room limit brink s (turn_of s limit brink)) sliced
      ∙ ap (λ (l : Option ℕ). left_anew room l brink) far
      ∙ ap (left_anew room (due_after x.pace (room_after collect x.room (free_in heap)) (free_in heap))) edge
      ∙ ap (λ (r : Room). left_anew r (due_after x.pace (room_after collect x.room (free_in heap)) (free_in heap)) (room_limit (room_after collect x.room (free_in heap)) (free_in heap))) same

module _ (heap : Heap) (wanted : Settings) (seal : Seal) where
  -- a heap as it is opened
  abbrev opened_by : ℕ → Pace → Room → Option ℕ → Option ℕ → ℕ → Option ℕ → ℕ → HostHeap
  opened_by named pace room limit brink work slice turn = record { heap = heap; named = named; pace = pace; room = room; limit = limit; brink = brink; bytes = 0; work = work; slice = slice; turn = turn; pauses = 0; seal = seal }

  abbrev first_limit : Option ℕ
  first_limit = due_after (pace_of wanted.pace) (room_of wanted) (free_in heap)

  abbrev first_brink : Option ℕ
  first_brink = room_limit (room_of wanted) (free_in heap)

  abbrev opened_anew : ℕ → Pace → Room → Option ℕ → Option ℕ → ℕ → HostHeap
  opened_anew named pace room limit brink work = opened_by named pace room limit brink work (first_slice work 0 limit) (turn_of (first_slice work 0 limit) limit brink)

  -- a heap that was opened has its pace and its room from the first object on
  pub opened_with : (named : ℕ) (pace : Pace) (room : Room) (limit brink : Option ℕ) (work : ℕ) (slice : Option ℕ) (turn : ℕ) → IsOpenedHeap heap (sizes_of wanted)
      → named ≡ registers_of wanted → pace ≡ pace_of wanted.pace → room ≡ room_of wanted → limit ≡ due_after pace room (free_in heap) → brink ≡ room_limit room (free_in heap) → work ≡ work_said wanted → slice ≡ first_slice work 0 limit
      → turn ≡ turn_of slice limit brink → IsOpened (opened_by named pace room limit brink work slice turn) wanted
  opened_with named pace room limit brink work slice turn opened same is has within edged does sliced turned = record {
    heap = opened;
    rest = ap (opened_by named pace room limit brink work slice) turned
        ∙ ap (λ (s : Option ℕ). opened_by named pace room limit brink work s (turn_of s limit brink)) sliced
        ∙ ap (opened_anew named pace room limit brink) does
        ∙ ap (λ (b : Option ℕ). opened_anew named pace room limit b (work_said wanted)) (edged ∙ ap (λ r. room_limit r (free_in heap)) has)
        ∙ ap (λ (l : Option ℕ). opened_anew named pace room l first_brink (work_said wanted)) (within ∙ ap (λ p. due_after p room (free_in heap)) is ∙ ap (λ r. due_after (pace_of wanted.pace) r (free_in heap)) has)
        ∙ ap (λ (n : ℕ). opened_anew n pace room first_limit first_brink (work_said wanted)) same
        ∙ ap (λ (p : Pace). opened_anew (registers_of wanted) p room first_limit first_brink (work_said wanted)) is
        ∙ ap (λ (r : Room). opened_anew (registers_of wanted) (pace_of wanted.pace) r first_limit first_brink (work_said wanted)) has;
  }

-- what is set of pace, room and work changes nothing of what it serves
pub set_serves : (x : HostHeap) (pace : Pace) (room : Room) (limit brink : Option ℕ) (work : ℕ) (slice : Option ℕ) → work ≤ MOST_WORK → IsServing x
    → IsServing (record x { pace = pace; room = room; limit = limit; brink = brink; work = work; slice = slice; turn = turn_of slice limit brink })
set_serves x pace room limit brink work slice few serving = record {
  holds = ∥∥₁_elim serving.holds ∥∥₁_prop (λ of. ∣ (of.0, record { heap = of.1.heap; bytes = of.1.bytes; named = of.1.named }) ∣₁);
  made = serving.made;
  paused = serving.paused;
  bytes = serving.bytes;
  timed = (few, refl);
}

-- the limit follows the pace and the room
pub limited_serves : (x : HostHeap) (pace : Pace) (room : Room) → IsServing x → IsServing (with_limit (record x { pace = pace; room = room }))
limited_serves x pace room serving =
    set_serves x pace room (due_after pace room (free_in x.heap)) (room_limit room (free_in x.heap)) x.work (sooner x.slice (due_after pace room (free_in x.heap))) serving.timed.0 serving

-- so it is set
pub limit_set : (x : HostHeap) (free : ℕ) (limit brink slice : Option ℕ) (turn : ℕ) → free ≡ free_in x.heap → limit ≡ due_after x.pace x.room free → brink ≡ room_limit x.room free
    → slice ≡ sooner x.slice limit → turn ≡ turn_of slice limit brink → record x { limit = limit; brink = brink; slice = slice; turn = turn } ≡ with_limit x
limit_set x free limit brink slice turn counted due edged sliced turned =
    ap (λ n. record x { limit = limit; brink = brink; slice = slice; turn = n }) turned
    ∙ ap (λ (s : Option ℕ). record x { limit = limit; brink = brink; slice = s; turn = turn_of s limit brink }) sliced
    ∙ ap (λ (l : Option ℕ). limited l brink x) (due ∙ ap (due_after x.pace x.room) counted)
    ∙ ap (λ (b : Option ℕ). limited (due_after x.pace x.room (free_in x.heap)) b x) (edged ∙ ap (room_limit x.room) counted)

-- a room that grows otherwise changes nothing else
pub grown_serves : (x : HostHeap) (grow : ℕ) → IsServing x → IsServing (record x { room = record x.room { grow = grow } })
grown_serves x grow serving = record {
  holds = ∥∥₁_elim serving.holds ∥∥₁_prop (λ of. ∣ (of.0, record { heap = of.1.heap; bytes = of.1.bytes; named = of.1.named }) ∣₁);
  made = serving.made;
  paused = serving.paused;
  bytes = serving.bytes;
  timed = serving.timed;
}

-- the next slice is due by the work that is set
pub work_set : (x : HostHeap) (units : ℕ) (slice : Option ℕ) (turn : ℕ) → slice ≡ first_slice units x.bytes x.limit → turn ≡ turn_of slice x.limit x.brink → record x { work = units; slice = slice; turn = turn } ≡ with_work units x
work_set x units slice turn sliced turned =
    ap (λ n. record x { work = units; slice = slice; turn = n }) turned ∙ ap (λ (s : Option ℕ). record x { work = units; slice = s; turn = turn_of s x.limit x.brink }) sliced

-- there are as many registers as the host names
own_more : (n : ℕ) → n ≤ with_own n
own_more n = at_room (nat_le (n + OWN_REGISTERS) REGISTERS)
  where
    at_room : (b : Bool) → n ≤ (if b then n + OWN_REGISTERS else n)
    at_room true = omega arith
    at_room false = omega arith

-- a heap without a history serves
pub opened_serves : (x : HostHeap) (wanted : Settings) → AreSettings wanted → IsOpened x wanted → IsServing x
opened_serves x wanted fit opened = record {
  holds = ∣ ([], record { heap = opened.heap.holds; bytes = ap (λ (z : HostHeap). z.bytes) opened.rest; named = named }) ∣₁;
  made = let none = opened.heap.made in omega (arith, none);
  paused = let none = pauses_are x.heap [] opened.heap.holds in omega (arith, none);
  bytes = let none = ap (λ (z : HostHeap). z.bytes) opened.rest in omega (arith, none);
  timed = subst IsTimed (sym opened.rest) (fit.work, refl);
}
  where
    named : (LEAST_REGISTERS ≤ registers_in x) × (registers_in x ≤ all_registers_in x)
    named =
        let same : registers_in x ≡ registers_of wanted = ap registers_in opened.rest in
        let all : all_registers_in x ≡ with_own (registers_of wanted) = ap (λ (t : LargeTerms). t.registers) opened.heap.terms in
        let some = fit.registers.0 in
        let more = own_more (registers_of wanted) in
        (omega (arith, same, some), omega (arith, same, all, more))

-- what is behind a pause for a cause, and behind settling, is the heap of the history that is told
pub paused_holds : (cause : Type 0) (collect : Bool) (x y : HostHeap) (h k : List LargeItem) → IsHostOf x h → PausesWhere cause collect x h y k → IsHostOf y k
paused_holds cause collect x y h k is (inl (there, paused, same)) = subst (IsHostOf y) (sym same) (paused_host x y h collect is paused)
paused_holds cause collect x y h k is (inr (none, left, same)) = subst (IsHostOf y) (sym same) (subst (λ (z : HostHeap). IsHostOf z h) (sym left) is)

pub settled_holds : (ends : Ends) (x y : HostHeap) (h k : List LargeItem) → IsHostOf x h → SettlesAt ends x h y k → IsHostOf y k
settled_holds ends x y h k is (inl (there, m, paused, renewed)) = renewed_host m y (behind_pause m h) k (paused_host x m h true is paused) renewed
settled_holds ends x y h k is (inr (none, left, same)) = subst (IsHostOf y) (sym same) (subst (λ (z : HostHeap). IsHostOf z h) (sym left) is)

-- and what is behind the slice and the pause that are due
pub turned_holds : (x y : HostHeap) (h : List LargeItem) → IsHostOf x h → (turns : Turns x h y) → IsHostOf y turns.history
turned_holds x y h is turns = paused_holds (IsDue turns.worked h) (exceeds_room turns.worked) turns.worked y h turns.history (sliced_host x turns.worked h is turns.works) turns.pauses

-- ---- turns

-- fewer than the lesser of two limits reach neither
within : (a b : Option ℕ) (n : ℕ) → n < unwrap_or (lesser a b) 18446744073709551615 → (¬ IsReached a n) × (¬ IsReached b n)
within None None n less = (λ over. over, λ over. over)
within None (Some b) n less = (λ over. over, λ over. omega (arith, over, less))
within (Some a) None n less = (λ over. omega (arith, over, less), λ over. over)
within (Some a) (Some b) n less = (λ over. omega (arith, over, less), λ over. omega (arith, over, less))

-- where fewer bytes were made than what is looked for, neither a slice is due nor a pause
no_turn : (slice limit brink : Option ℕ) (n : ℕ) → n < turn_of slice limit brink → (¬ IsReached slice n) × (¬ (IsReached brink n ⊎ ((slice ≡ None) × IsReached limit n)))
no_turn None limit brink n less =
    let few = within limit brink n less in
    (λ over. over, λ due. elim due [ inl over ↦ few.1 over | inr waited ↦ few.0 waited.1 ])
no_turn (Some slice) limit brink n less =
    let few = within (Some slice) brink n less in
    (few.0, λ due. elim due [ inl over ↦ few.1 over | inr waited ↦ none-some slice (sym waited.0) ])

pub no_turn_due : (x : HostHeap) (h : List LargeItem) → IsTimed x → IsHostOf x h → x.bytes < x.turn → (¬ IsSliceDue x h) × (¬ IsDue x h)
no_turn_due x h timed is less =
    subst (λ n. (¬ IsReached x.slice n) × (¬ (IsReached x.brink n ⊎ ((x.slice ≡ None) × IsReached x.limit n)))) is.bytes
    (no_turn x.slice x.limit x.brink x.bytes (subst (λ n. x.bytes < n) timed.1 less))

-- ---- operations

-- what an operation takes has a number
pub bytes_room : (x : HostHeap) (o : LargeOp) (r : LargeReply) → IsCallable o → x.heap.made < 2 ^ 32 → x.bytes ≤ 8388608 * x.heap.made → x.bytes + bytes_by o r < 2 ^ 64
bytes_room x o r may few all = let one = bytes_few o r may in omega (arith, one, few, all)

-- it counts what it takes
replied_bytes : (x y : HostHeap) (h : List LargeItem) (o : LargeOp) (r : LargeReply) → IsCallable o → x.bytes ≤ 8388608 * x.heap.made → Replies x y h o r → y.bytes ≤ 8388608 * y.heap.made
replied_bytes x y h o r may before replies =
    let bytes = ap (λ (z : HostHeap). z.bytes) replies.rest in
    let made = replies.heap.made in
    let bound = bytes_bound o r x.heap.made may in
    omega (arith, bytes, made, bound, before)

-- an operation takes one object at most, and no pause
pub replied_room : (objects pauses : ℕ) (x y : HostHeap) (o : LargeOp) (r : LargeReply) → IsCallable o → HasRoom (objects + 1) pauses x → ∥ ((h : List LargeItem) × IsHostOf x h × Replies x y h o r) ∥₁ → HasRoom objects pauses y
replied_room objects pauses x y o r may room some = record {
  holds = ∥∥₁_elim some ∥∥₁_prop (λ of. ∣ (Called o r ∷ of.0, replied_host x y of.0 o r of.1 of.2) ∣₁);
  made = ∥∥₁_elim some le_prop (λ of.
      let one = called_makes x.heap y.heap of.0 o r of.1.heap of.2.heap.holds may in
      let few = room.made in
      omega (arith, one, few));
  paused = ∥∥₁_elim some le_prop (λ of.
      let same = called_pauses x.heap y.heap of.0 o r of.1.heap of.2.heap.holds in
      let few = room.paused in
      omega (arith, same, few));
  bytes = ∥∥₁_elim some le_prop (λ of. replied_bytes x y of.0 o r may room.bytes of.2);
  timed = told_timed y some (λ of. subst IsTimed (sym of.2.rest) room.timed);
}

-- the reply of one that makes nothing is that of a step
quiet_steps : (registers : ℕ) (terms : LargeTerms) (h : List LargeItem) (o : LargeOp) (r : LargeReply) → IsQuiet registers o → LargeReplies terms h o r → IsLargeReply (large_state h) o r
quiet_steps registers terms h (large_op.Small (op.New dest shape)) r is replies = absurd is
quiet_steps registers terms h (large_op.Big dest blocks) r is replies = absurd is
quiet_steps registers terms h o r is replies = replies

-- and so it takes no object
pub quiet_room : (x y : HostHeap) (o : LargeOp) (r : LargeReply) → IsQuiet (all_registers_in x) o → IsServing x → ((h : List LargeItem) → IsHeapOf x.heap h → Replies x y h o r) → IsServing y
quiet_room x y o r is room replies = record {
  holds = ∥∥₁_elim room.holds ∥∥₁_prop (λ of. ∣ (Called o r ∷ of.0, replied_host x y of.0 o r of.1 (replies of.0 of.1.heap)) ∣₁);
  made = ∥∥₁_elim room.holds le_prop (λ of.
      let came = (replies of.0 of.1.heap).heap in
      let step = quiet_steps (all_registers_in x) (terms_of y.heap) of.0 o r is came.holds.legal.1.reply in
      let same = came.made ∙ ap (made_by x.heap.made) (sym step) ∙ quiet_makes (all_registers_in x) (large_state of.0) o x.heap.made is in
      let few = room.made in
      omega (arith, same, few));
  paused = ∥∥₁_elim room.holds le_prop (λ of.
      let same = called_pauses x.heap y.heap of.0 o r of.1.heap (replies of.0 of.1.heap).heap.holds in
      let few = room.paused in
      omega (arith, same, few));
  bytes = ∥∥₁_elim room.holds le_prop (λ of. replied_bytes x y of.0 o r (all_registers_in x, quiet_may (all_registers_in x) o is) room.bytes (replies of.0 of.1.heap));
  timed = told_timed y room.holds (λ of. subst IsTimed (sym (replies of.0 of.1.heap).rest) room.timed);
}

-- an operation that makes nothing leaves the bytes
pub quiet_same : (x : HostHeap) (heap : Heap) (o : LargeOp) (r : LargeReply) → IsQuiet (all_registers_in x) o → record x { heap = heap } ≡ record x { heap = heap; bytes = x.bytes + bytes_by o r }
quiet_same x heap o r is = ap (λ n. record x { heap = heap; bytes = n }) (let none = quiet_bytes (all_registers_in x) o r is in omega (arith, none))

-- words that are put make no pause
puts_number : (h : List LargeItem) (base i : ℕ) (words : List ℕ) → (large_moment (with_puts h base i words)).number ≡ (large_moment h).number
puts_number h base i [] = refl
puts_number h base i (w ∷ words) = puts_number (Called (large_op.BigPut base i w) large_reply.Put ∷ h) base (i + 1) words

written_number : (r : BodyReply) (h : List LargeItem) (base i : ℕ) (words : List ℕ) → (large_moment (with_written r h base i words)).number ≡ (large_moment h).number
written_number body_reply.Done h base i words = puts_number h base i words
written_number body_reply.Bad h base i words = refl
written_number body_reply.Range h base i words = refl

-- so words that are written in a row take neither objects nor pauses
pub written_room : (x : HostHeap) (heap : Heap) (base i : ℕ) (words : List ℕ) (r : BodyReply) → IsServing x → ((h : List LargeItem) → IsHeapOf x.heap h → WritesWords x.heap heap h base i words r) → IsServing (record x { heap = heap })
written_room x heap base i words r room writes = record {
  holds = ∥∥₁_elim room.holds ∥∥₁_prop (λ of. ∣ (_, record { heap = (writes of.0 of.1.heap).holds; bytes = of.1.bytes ∙ sym (written_bytes r of.0 base i words); named = still_named x (record x { heap = heap }) refl (ap (λ (t : LargeTerms). t.registers) (writes of.0 of.1.heap).terms) of.1.named }) ∣₁);
  made = ∥∥₁_elim room.holds le_prop (λ of. let same = (writes of.0 of.1.heap).made in let few = room.made in omega (arith, same, few));
  paused = ∥∥₁_elim room.holds le_prop (λ of.
      let after = pauses_are heap (with_written r of.0 base i words) (writes of.0 of.1.heap).holds in
      let before = pauses_are x.heap of.0 of.1.heap in
      let same = written_number r of.0 base i words in
      let few = room.paused in
      omega (arith, after, before, same, few));
  bytes = ∥∥₁_elim room.holds le_prop (λ of. let same = (writes of.0 of.1.heap).made in let few = room.bytes in omega (arith, same, few));
  timed = room.timed;
}

-- what was replied to needed no pause
pub replied_needs_none : (x : HostHeap) (y : Heap) (h : List LargeItem) (o : LargeOp) (r : LargeReply) → IsReplied x.heap y h o r → (collect : Bool) → Needs x h o collect → ⊥
replied_needs_none x y h o r came true needs = true≢false (sym (came.fresh (came.refused.1 needs.0)).0 ∙ needs.1)
replied_needs_none x y h o r came false needs = came.logged needs

-- ---- an operation that asks for a pause

-- what comes of an operation that asks for a pause: one that collects, or a plain one
abbrev pub asked : Bool → Acted
asked true = acted.Room
asked false = acted.Log

-- it has changed nothing
stays : (x a : Heap) (h : List LargeItem) (o : LargeOp) (collect : Bool) → HeapActs x a h o (asked collect) → a ≡ x
stays x a h o true came = came.2
stays x a h o false came = came.1

wants : (x a : Heap) (h : List LargeItem) (o : LargeOp) (collect : Bool) → HeapActs x a h o (asked collect) → WantsPause x h o collect
wants x a h o true came = came.0
wants x a h o false came = came.0

needs : (x : HostHeap) (a : Heap) (h : List LargeItem) (o : LargeOp) (collect : Bool) → HeapActs x.heap a h o (asked collect) → Needs x h o collect
needs x a h o true came = (came.0, came.1)
needs x a h o false came = came.0

-- so the pause can be made
pub asked_number : (x : HostHeap) (a : Heap) (o : LargeOp) (collect : Bool) → HasRoom 2 2 x → ((h : List LargeItem) → IsHeapOf x.heap h → HeapActs x.heap a h o (asked collect)) → a.space.pauses + 1 < 2 ^ 32
asked_number x a o collect room acts = ∥∥₁_elim room.holds le_prop (λ of.
    let same = ap (λ (z : Heap). z.space.pauses) (stays x.heap a of.0 o collect (acts of.0 of.1.heap)) in
    let few = room.paused in
    omega (arith, same, few))

module _ (x : HostHeap) (a : Heap) (m : HostHeap) (o : LargeOp) (collect : Bool) (acts : (h : List LargeItem) → IsHeapOf x.heap h → HeapActs x.heap a h o (asked collect))
    (paused : (h : List LargeItem) → IsHeapOf a h → Pauses (record x { heap = a }) m h collect) where
  same_heap : (h : List LargeItem) → IsHeapOf x.heap h → a ≡ x.heap
  same_heap h is = stays x.heap a h o collect (acts h is)

  -- the pause was made of the heap as it was
  pub paused_same : (h : List LargeItem) → IsHeapOf x.heap h → Pauses x m h collect
  paused_same h is =
      let same = same_heap h is in
      subst (λ z. Pauses (record x { heap = z }) m h collect) same (paused h (subst (λ z. IsHeapOf z h) (sym same) is))

  -- behind it the operation wants none
  pub behind_wants_none : (h : List LargeItem) → IsHeapOf x.heap h → WantsNoPause m.heap (behind_pause m h) o
  behind_wants_none h is = wanted_wants_none x.heap m.heap h o collect (wants x.heap a h o collect (acts h is)) (paused_same h is).heap

  -- it has the registers that it had
  pub behind_registers : SomeHistory x → all_registers_in m ≡ all_registers_in x
  behind_registers some = ∥∥₁_elim some (ℕ_set _ _) (λ of. ap (λ (t : LargeTerms). t.registers) (paused_same of.0 of.1.heap).heap.terms)

  -- and is done
  pub acts_behind : (y : HostHeap) (r : LargeReply) → ((h : List LargeItem) → WantsNoPause m.heap h o → Replies m y h o r) → (h : List LargeItem) → IsHeapOf x.heap h → Acts x y h o r
  acts_behind y r replies h is = record {
    middle = m;
    history = behind_pause m h;
    pauses = inl (collect, needs x a h o collect (acts h is), paused_same h is, refl);
    replies = replies (behind_pause m h) (behind_wants_none h is);
  }

  pub some_wants_none : SomeHistory x → ∥ ((h : List LargeItem) × WantsNoPause m.heap h o) ∥₁
  some_wants_none some = ∥∥₁_elim some ∥∥₁_prop (λ of. ∣ (behind_pause m of.0, behind_wants_none of.0 of.1.heap) ∣₁)

  pub behind_room : HasRoom 2 2 x → HasRoom 2 1 m
  behind_room room = paused_room 2 1 x m collect room paused_same

  pub behind_serves : (y : HostHeap) (r : LargeReply) → IsCallable o → HasRoom 2 2 x → ((h : List LargeItem) → WantsNoPause m.heap h o → Replies m y h o r) → IsServing y
  behind_serves y r may room replies = replied_room 1 1 m y o r may (behind_room room)
      (∥∥₁_elim room.holds ∥∥₁_prop (λ of.
      ∣ (behind_pause m of.0, paused_host x m of.0 collect of.1 (paused_same of.0 of.1.heap), replies (behind_pause m of.0) (behind_wants_none of.0 of.1.heap)) ∣₁))
