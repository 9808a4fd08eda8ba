-- The heap behind a pause: no trace begins, so nothing is moved but what is promoted, and bodies stay where names do.
use Rattle.std.proofs.Common.{◌≡◌, ℕ, ◌+◌, ◌*◌, ◌%◌, ◌^◌, ◌<◌, ◌≤◌, refl, sym, ap, subst, ◌∙◌, inl, inr, arith, Bool, true, false, cond, List, [], ◌∷◌, ◌++◌, length, Option, None}
use Rattle.std.specs.Prelude.{◌↔◌, ◌&&◌, ◌||◌, IsTrue, nat_eq, not}
use Rattle.std.proofs.lemmas.Bool.{false_from_ne_true}
use Rattle.std.proofs.lemmas.List.{length-append}
use Rattle.lxr_layout.specs.declared.TheConstants.{GRANULES_IN_BLOCK}
use Rattle.lxr_layout.specs.declared.limits.Limits.{Limits}
use Rattle.lxr_layout.specs.declared.Name.{Name}
use Rattle.lxr_graph.specs.Distinct.{IsDistinct}
use Rattle.lxr_graph.specs.Names.{AreInOrder, has, without}
use Rattle.lxr_graph.specs.History.{PauseReport, report_of}
use Rattle.lxr_graph.specs.Listing.{NameList}
use Rattle.lxr_graph.specs.declared.report.Kind.{Kind}
use Rattle.lxr_graph.specs.declared.report.Kind.TheVariants as kind
use Rattle.lxr_graph.proofs.NameSets.{has-union, in_order-none, in_order-union, not_both, union_cases, without_parts}
use Rattle.lxr_image.specs.declared.space.Space.{Space}
use Rattle.lxr_image.specs.declared.space.Tally.{Tally}
use Rattle.lxr_image.specs.Opened.{no_tally}
use Rattle.lxr_image.specs.Registers.{Registers}
use Rattle.lxr_image.specs.Spaces.{tables_of}
use Rattle.lxr_model.specs.Moments.{Moment, Trace, after_pause, going_on, trace_after}
use Rattle.lxr_model.specs.Reports.{IsReport, is_draining}
use Rattle.lxr_model_counting.specs.Following.{FollowsPause}
use Rattle.lxr_model_counting.proofs.DistinctLemmas.{in_order_distinct}
use Rattle.lxr_invariant.specs.AbstractState.{AbstractState, leaving}
use Rattle.lxr_invariant.specs.Quiescent.{IsAtRest}
use Rattle.lxr_invariant.specs.Tracing.{IsTracedBy}
use Rattle.lxr_invariant.proofs.NameLemmas.{has_append, in_second, or_nothing}
use Rattle.lxr_invariant.proofs.ToldLemmas.{holds_told}
use Rattle.lxr_renew.proofs.FewLemmas.{members_few, unreclaimed_few}
use Rattle.lxr_large_model.specs.History.{LargeItem, Paused, large_moment, large_state}
use Rattle.lxr_large_model.specs.Pauses.{IsLargeKind, IsLegalLarge, most_logged}
use Rattle.lxr_large_bodies.specs.Bodies.{left_by}
use Rattle.lxr_one_pause.specs.declared.Ask.{Ask}
use Rattle.lxr_one_pause.specs.declared.Ask.TheVariants as ask
use Rattle.lxr_one_pause.specs.declared.Pace.{Pace}
use Rattle.lxr_one_pause.specs.Deciding.{kind_of}
use Rattle.lxr_one_pause.specs.Pausing.{CanPause, IsDrained, KeepsObjects, Pauses}
use Rattle.lxr_one_pause.specs.Relocating.{IsEnd}
use Rattle.lxr_one_pause.specs.Settling.{survived}
use Rattle.lxr_one_pause.proofs.DistinctnessLemmas.{distinct_append}
use Rattle.lxr_one_pause.proofs.LeftLemmas.{union_length}
use Rattle.lxr_heap.specs.declared.heap.Heap.{Heap}
use Rattle.lxr_heap.specs.Holding.{IsCollected, IsHeapOf, StandAt, abstract_of, limits_of, terms_of}
use Rattle.lxr_heap.specs.Pausing.{PausesHeap, kind_asked, with_gone}
use Rattle.lxr_heap.proofs.ApartLemmas.{left_apart}
use Rattle.lxr_heap.proofs.BodyLemmas.{held_paused}
use Rattle.lxr_heap.proofs.CountLemmas.{CountsPause, counts_paused, reclaims}
use Rattle.lxr_heap.proofs.EarlyLemmas.{nobody, none_are_gone, pause_alike, promoted_stays, whole_parts, whole_report, without_none}
use Rattle.lxr_heap.proofs.HeapLemmas.{one_thread, standing}
use Rattle.lxr_heap.proofs.MomentLemmas.{collected, good, promoted_young}
use Rattle.lxr_heap.proofs.StayLemmas.{stay_left}

-- what a pause is asked for
abbrev pub asked : Bool → Ask
asked collect = cond collect ask.Collect ask.Ordinary

-- a heap may pause
pub can_pause : (x : Heap) (h : List LargeItem) → (is : IsHeapOf x h) → x.space.pauses + 1 < 2 ^ 32 → CanPause x.space (abstract_of x h is.at)
can_pause x h is few =
    let pauses = ap (λ (t : Tally). t.pauses) is.tally in
    let moved = ap (λ (t : Tally). t.moved) is.tally in
    let kept = ap (λ (t : Tally). t.kept) is.tally in
    record {
      safepoint = is.stands.0.safepoint;
      objects = subst (KeepsObjects (large_moment h)) (sym is.untraced) tt;
      counted = (few, omega (arith, few, pauses));
      evacuated = (omega (arith, moved), omega (arith, kept));
    }

-- a pause of a space whose registers were counted again is one of the space
pub recounted : (s after : Space) (registers : Registers) (ask : Ask) (pace : Pace) → registers ≡ s.registers
    → ((g : AbstractState) → CanPause (record s { registers = registers }) g → (at' : Name → ℕ) × Pauses (record s { registers = registers }) after g at' ask pace)
    → (g : AbstractState) → CanPause s g → (at' : Name → ℕ) × Pauses s after g at' ask pace
recounted s after registers ask pace same pauses =
    subst (λ z. (g : AbstractState) → CanPause z g → (at' : Name → ℕ) × Pauses z after g at' ask pace) (ap (λ z. record s { registers = z }) same) pauses

-- a pace of 0 begins no trace
pub kind_told : (collect : Bool) (pace : Pace) (k : ℕ) (trace : Option Trace) (traced : Bool) → trace ≡ None → pace.trace ≡ 0 → kind_of (asked collect) pace k trace traced ≡ kind_asked collect
kind_told true pace k trace traced none apart = refl
kind_told false pace k trace traced none apart =
    ap (λ t. kind_of ask.Ordinary pace k t traced) none ∙ ap (λ n. cond (not (nat_eq n 0) && nat_eq (k % n) 0) kind.Begin kind.Plain) apart

-- it ends none
no_end : (collect : Bool) (k : Kind) → k ≡ kind_asked collect → IsEnd k → ⊥
no_end true k is ends = let e : kind.End ends.0 ≡ kind.Collect = sym ends.1 ∙ is in absurd (cc)
no_end false k is ends = let e : kind.End ends.0 ≡ kind.Plain = sym ends.1 ∙ is in absurd (cc)

-- nor leaves one
no_trace : (collect : Bool) (m : Moment) (r : PauseReport) → m.trace ≡ None → r.kind ≡ kind_asked collect → trace_after m r r.kind ≡ None
no_trace true m r none is = ap (trace_after m r) is
no_trace false m r none is = ap (trace_after m r) is ∙ ap (going_on m r) none

-- a pause of these kinds is one of a large heap's
large_kind : (collect : Bool) (k : Kind) → k ≡ kind_asked collect → IsLargeKind k
large_kind true k is = subst IsLargeKind (sym is) tt
large_kind false k is = subst IsLargeKind (sym is) tt

fresh_behind : (collect : Bool) (k : Kind) → k ≡ kind_asked collect → IsTrue collect ↔ (k ≡ kind.Collect)
fresh_behind true k is = (λ t. is, λ e. refl)
fresh_behind false k is = ((λ no. let e : false ≡ true = no in absurd (cc)), (λ e. let no : kind.Plain ≡ kind.Collect = sym is ∙ e in absurd (cc)))

-- the space with the names of what was gone among the dead of its report
abbrev pub with_dead : Space → List Name → Space
with_dead s gone = record s { report = record s.report { dead = with_gone s.report.dead gone } }

-- the heap behind a pause, with a list of what is gone
abbrev pub behind_pause : Heap → Space → ℕ → Bool → NameList → Heap
behind_pause x space left collect none = record x {
  space = space;
  bodies = record x.bodies { bodies = left_by (report_of space.report) x.bodies.bodies };
  gone = none;
  made_before = x.made;
  left = left;
  fresh = collect;
}

-- the pause was made, wherever objects stand
abbrev pub PausesAnywhere : Heap → List LargeItem → Space → Ask → Pace → Type 0
PausesAnywhere x h space ask pace = (at : Name → ℕ) → StandAt x h at → (at' : Name → ℕ) × Pauses x.space space (abstract_of x h at) at' ask pace

-- A pause was made where some of the dead were gone, and they are reported with the others.
module _ (x : Heap) (h : List LargeItem) (is : IsHeapOf x h) (space : Space) (collect : Bool) (pace : Pace) (apart : pace.trace ≡ 0) (at' : Name → ℕ)
    (p : Pauses x.space space (abstract_of x h is.at) at' (asked collect) pace) where
  abbrev m : Moment
  m = large_moment h

  abbrev gone : List Name
  gone = x.gone.items

  -- the moment without what was gone, and the report of the pause that was made there
  abbrev early : Moment
  early = survived m gone

  abbrev found : PauseReport
  found = report_of space.report

  -- the space with all that is reported
  abbrev told : Space
  told = with_dead space gone

  abbrev r : PauseReport
  r = report_of told.report

  order : AreInOrder r.dead
  order = in_order-union (found.dead ++ gone) [] in_order-none

  all : (n : Name) → has r.dead n ≡ (has found.dead n || has gone n)
  all n = has-union (found.dead ++ gone) [] n ∙ or_nothing (has (found.dead ++ gone) n) ∙ has_append found.dead gone n

  pub reports : IsReport m r
  reports = (whole_parts m gone is.follows is.gone found p.reports.0 p.reports.1 r.dead order all, whole_report m gone is.follows is.gone found p.reports.0 p.reports.1 r.dead order all)

  leads : after_pause m r ≡ after_pause early found
  leads = pause_alike m gone is.follows is.gone found p.reports.0 p.reports.1 r.dead order all

  -- ---- its kind

  -- the kind of the pause is the one that was asked for
  kind_was : space.report.kind ≡ kind_asked collect
  kind_was = p.kind.kind ∙ kind_told collect pace (m.number + 1) m.trace p.kind.traced is.untraced apart

  untraced_then : (after_pause m r).trace ≡ None
  untraced_then = no_trace collect m r is.untraced kind_was

  -- such a pause moves nothing out of a block
  none_moved : p.moved ≡ []
  none_moved = nobody p.moved (λ n member. no_end collect space.report.kind kind_was ((p.evacuates.moved_are.members n).0 member).0.ends)

  none_kept : p.kept ≡ []
  none_kept = nobody p.kept (λ n member. no_end collect space.report.kind kind_was ((p.evacuates.kept_are.members n).0 member).0.ends)

  -- ---- numbers

  follows_then : FollowsPause (after_pause m r)
  follows_then = subst FollowsPause (sym leads) p.between.safepoint.holds.follows

  -- the numbers of objects behind it
  pub numbers_behind : CountsPause x.left x.made_before x.made m r
  numbers_behind = counts_paused x.left x.made_before x.made m r is.follows follows_then reports (large_kind collect space.report.kind kind_was) is.counts

  -- what was gone isn't among the dead that the pause found
  apart_found : (n : Name) → IsTrue (has found.dead n) → has gone n ≡ false
  apart_found n dead =
      let were = (reclaims early found p.reports.0 p.reports.1 is.stands.0.safepoint.holds.follows (large_kind collect space.report.kind kind_was)).dead_were n dead in
      elim (union_cases found.promoted early.unreclaimed n were) [
        | inl new ↦ promoted_stays m gone is.follows is.gone found p.reports.0 p.reports.1 r.dead order all n new
        | inr old ↦ (without_parts m.unreclaimed gone n old).1
      ]

  pub once : IsDistinct (found.dead ++ gone)
  once = distinct_append found.dead gone (in_order_distinct found.dead p.reports.1.dead.in_order) is.gone.once apart_found

  keeps : space.limits ≡ x.space.limits
  keeps = ap (λ (s : Space). s.limits) p.space

  -- there is room for all of them: they are some of what was unreclaimed and of what is promoted, and of either there is one for each granule at most
  pub fits : length found.dead + length gone ≤ space.report.dead.room
  fits =
      let made = members_few x.space early is.at is.stands.0.safepoint.holds found.promoted (in_order_distinct found.promoted p.reports.1.promoted.in_order)
      (λ n new. in_second early.unreclaimed early.made n (promoted_young early found p.reports n new)) in
      let long = union_length (found.dead ++ gone) [] once (λ n h. refl) in
      let both = length-append found.dead gone in
      let few = numbers_behind.gone in
      let old = is.few in
      let left = is.counts.unreclaimed in
      let room = p.between.safepoint.holds.room.report.dead in
      let blocks = ap (λ (l : Limits). l.blocks) keeps in
      omega (arith, made, long, both, few, old, left, room, blocks)

  -- ---- places

  -- what was made since the last pause was not unreclaimed then
  old_unpromoted : (n : Name) → IsTrue (has m.unreclaimed n) → has found.promoted n ≡ false
  old_unpromoted n old = false_from_ne_true (has found.promoted n) (λ new. not_both (has m.unreclaimed n) old (is.follows.apart n (promoted_young early found p.reports n new)))

  -- with what was gone reported, the space is at rest for the moment that the whole report leads to
  rests_then : IsAtRest told (record { moment = after_pause m r; at = at'; reported = r })
  rests_then =
      let q = p.between in
      let room = q.safepoint.holds.room.report in
      subst (λ k. IsAtRest told (record { moment = k; at = at'; reported = r })) (sym leads) (record {
        safepoint = record {
          holds = holds_told space (after_pause early found) at' told.report space.tally space.pauses (record { promoted = room.promoted; dead = room.dead; stuck = room.stuck; swept = room.swept; told = room.told }) q.safepoint.holds;
          numbers = record { pauses = q.safepoint.numbers.pauses; trace = q.safepoint.numbers.trace; report = refl };
          traced = subst (IsTracedBy told.limits (tables_of told) told.logged.items (record { moment = after_pause early found; at = at'; reported = r })) (sym (ap (λ (k : Moment). k.trace) (sym leads) ∙ untraced_then)) tt;
        };
        undecremented = q.undecremented;
        lines = q.lines;
        outs = q.outs;
        states = q.states;
      })

  -- and no line is out
  none_out : (line : ℕ) → IsTrue ((tables_of told).outs line) → ⊥
  none_out line out = let copy = (p.outs line).0 out in absurd (let no : false ≡ true = subst (λ ns. IsTrue (has ns copy.name)) none_moved copy.promoted_is in cc)

  pub stands_then : (left : ℕ) (none : NameList) → none.items ≡ [] → StandAt (behind_pause x told left collect none) (Paused r ∷ h) at'
  stands_then left none empty = (
    subst (λ us. IsAtRest told (record { moment = leaving (after_pause m r) us; at = at'; reported = r }))
        (sym (ap (without (after_pause m r).unreclaimed) empty ∙ without_none (after_pause m r).unreclaimed)) rests_then,
    record { taken = λ line out. absurd (none_out line out); outside = λ line out. absurd (none_out line out) },
  )

  -- what was unreclaimed stands where it stood
  pub unmoved : (n : Name) → IsTrue (has m.unreclaimed n) → at' n ≡ is.at n
  unmoved n old = p.relocates.others n (old_unpromoted n old) (ap (λ ns. has ns n) none_moved)

  -- ---- the heap

  -- the list of what is gone has the room that the dead of the report have
  pub rooms : x.gone.room ≡ space.report.dead.room
  rooms = is.room ∙ is.stands.0.safepoint.holds.room.report.dead ∙ sym (p.between.safepoint.holds.room.report.dead ∙ ap (λ (l : Limits). 2 * (GRANULES_IN_BLOCK * l.blocks)) keeps)

  pub paused_heap : (left : ℕ) (none : NameList) → none.items ≡ [] → none.room ≡ x.gone.room → left + (length r.dead + length r.swept) ≡ x.left + length r.promoted
      → IsHeapOf (behind_pause x told left collect none) (Paused r ∷ h)
  paused_heap left none empty same left_is =
      let counted : space.pauses ≡ x.space.pauses + 1 = ap (λ (s : Space). s.pauses) p.space in
      let tally = p.tally ∙ (λ i. record (is.tally i) { pauses = (is.tally i).pauses + 1; moved = (is.tally i).moved + length (none_moved i); kept = (is.tally i).kept + length (none_kept i) }) in
      let terms : terms_of (behind_pause x told left collect none) ≡ terms_of x = λ i. record { blocks = (keeps i).blocks; bodies = x.bodies.blocks; registers = (keeps i).registers } in
      record {
        legal = subst (λ t. IsLegalLarge t (Paused r ∷ h)) (sym terms) (is.legal, record { kind = large_kind collect r.kind kind_was; reports = reports });
        at = at';
        stands = stands_then left none empty;
        gone = none_are_gone (after_pause m r) none.items empty;
        room = same ∙ rooms;
        follows = follows_then;
        few = unreclaimed_few told (after_pause m r) at' rests_then.safepoint.holds;
        untraced = untraced_then;
        limits = keeps ∙ is.limits ∙ ap (λ (l : Limits). limits_of l.blocks l.registers l.log) (sym keeps);
        log = subst (λ (l : Limits). most_logged ≤ l.log) (sym keeps) is.log;
        tally = tally ∙ ap (λ k. record no_tally { pauses = k }) (sym counted);
        state = is.state;
        world = is.world;
        next = is.next;
        counts = numbers_behind.after left left_is;
        names = is.names;
        bodies = held_paused m (after_pause m r) r x.bodies.bodies (large_state h).large refl refl (promoted_young m r reports) is.follows.apart is.bodies;
        apart = left_apart r x.bodies.blocks x.bodies.bodies is.apart;
        fresh = fresh_behind collect r.kind kind_was;
        collected = λ f. subst IsCollected (sym leads) (collected early found (good x.space (abstract_of x h is.at) is.stands.0 (one_thread x h is) is.untraced) p.reports f);
        drained = λ f. subst (λ k. IsDrained space (is_draining k)) f p.drained;
      }

pub pauses_heap : (x : Heap) (h : List LargeItem) (is : IsHeapOf x h) (space : Space) (left : ℕ) (collect : Bool) (pace : Pace) (none : NameList) → none.items ≡ [] → none.room ≡ x.gone.room → pace.trace ≡ 0
    → PausesAnywhere x h space (asked collect) pace
    → left + (length (with_dead space x.gone.items).report.dead.items + length space.report.swept.items) ≡ x.left + length space.report.promoted.items
    → PausesHeap x (behind_pause x (with_dead space x.gone.items) left collect none) h collect
pauses_heap x h is space left collect pace none empty same apart pauses left_is =
    let (at', p) = pauses is.at is.stands in
    let keeps : space.limits ≡ x.space.limits = ap (λ (s : Space). s.limits) p.space in
    record {
      kind = kind_was x h is space collect pace apart at' p;
      holds = paused_heap x h is space collect pace apart at' p left none empty same left_is;
      made = refl;
      gone = empty;
      placed = λ at stands.
          let (to, q) = pauses at stands in
          let here = standing x h is at stands in
          (to, stands_then x h here space collect pace apart to q left none empty, λ n old kept. unmoved x h here space collect pace apart to q n old);
      stay = stay_left (report_of (with_dead space x.gone.items).report) x.bodies.blocks x.bodies.bodies is.apart;
      terms = λ i. record { blocks = (keeps i).blocks; bodies = x.bodies.blocks; registers = (keeps i).registers };
      log = ap (λ (l : Limits). l.log) keeps;
    }
