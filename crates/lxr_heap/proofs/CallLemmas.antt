-- The heap behind a call: of an operation on the object graph, of a new large object, of a word of a body, and of one that was refused.
use Rattle.std.proofs.Common.{◌≡◌, ◌≢◌, ℕ, ◌+◌, ◌*◌, ◌<◌, ◌≤◌, refl, sym, ap, subst, ◌∙◌, arith, true, false, filter, List, [], ◌∷◌, ◌++◌, length, map, Some}
use Rattle.std.specs.Prelude.{◌↔◌, ◌||◌, IsTrue, if◌then◌else◌, slice_set}
use Rattle.std.specs.List.{AllByRecursion}
use Rattle.std.proofs.lemmas.List.Folds.{list_any-append}
use Rattle.lxr_layout.specs.declared.TheConstants.{GRANULES_IN_BLOCK, REGISTERS}
use Rattle.lxr_layout.specs.declared.limits.Limits.{Limits}
use Rattle.lxr_layout.specs.declared.Name.{Name}
use Rattle.lxr_layout.specs.declared.Shape.{Shape}
use Rattle.lxr_layout.specs.Objects.{FitsShape, line_count}
use Rattle.lxr_graph.specs.Names.{IsSetOf, has, same_name, without}
use Rattle.lxr_graph.proofs.FormLemmas.{formed_more}
use Rattle.lxr_graph.specs.State.{State, next_name, register_at, world_name}
use Rattle.lxr_graph.specs.Step.{IsFormedFor}
use Rattle.lxr_graph.specs.declared.Op.{Op}
use Rattle.lxr_graph.specs.declared.Op.TheVariants as op
use Rattle.lxr_graph.specs.declared.Reply.{Reply}
use Rattle.lxr_graph.specs.declared.Reply.TheVariants as reply
use Rattle.lxr_image.specs.declared.space.Space.{Space}
use Rattle.lxr_image.specs.Opened.{no_tally}
use Rattle.lxr_image.specs.Spaces.{tables_of}
use Rattle.lxr_blocks.specs.Placing.{IsFull}
use Rattle.lxr_model.specs.Dead.{Dead}
use Rattle.lxr_model.specs.Full.{LeaveNoRun}
use Rattle.lxr_model.specs.Moments.{Moment, after_call}
use Rattle.lxr_model.specs.Reachable.{Reachable}
use Rattle.lxr_model.proofs.ReachableLemmas.{dead_parts}
use Rattle.lxr_model_counting.specs.Following.{FollowsPause, IsStepReply}
use Rattle.lxr_model_counting.proofs.DeathLemmas.{live_not_dead}
use Rattle.lxr_model_counting.proofs.FollowingLemmas.{call_follows, live_reachable}
use Rattle.lxr_model_counting.proofs.ReplyLemmas.{step_reply}
use Rattle.lxr_invariant.specs.AbstractState.{AbstractState, leaving}
use Rattle.lxr_invariant.specs.Lines.{OutsAreTaken}
use Rattle.lxr_invariant.specs.Quiescent.{IsAtRest}
use Rattle.lxr_core_invariant.proofs.HeldLemmas.{IsHeld, in_register}
use Rattle.lxr_full.specs.Room.{HasWorld}
use Rattle.lxr_full.proofs.RoomLemmas.{collected_full_leaves_no_run}
use Rattle.lxr_one_pause.specs.Settling.{survived}
use Rattle.lxr_direct.specs.Operating.{IsDone, IsOfFirstVersion}
use Rattle.lxr_large_model.specs.declared.TheConstants.{MOST_BODY_BLOCKS}
use Rattle.lxr_large_model.specs.declared.LargeOp.TheVariants as large_op
use Rattle.lxr_large_model.specs.declared.LargeReply.{LargeReply}
use Rattle.lxr_large_model.specs.declared.LargeReply.TheVariants as large_reply
use Rattle.lxr_large_model.specs.Full.{AreReachable, IsFresh, LeaveNoLines, MayBeFull}
use Rattle.lxr_large_model.specs.History.{LargeItem, Called, large_moment, large_state}
use Rattle.lxr_large_model.specs.Pauses.{IsLegalLarge, most_logged}
use Rattle.lxr_large_model.specs.State.{Large, LargeState, body_of as large_of, fresh_body, handle, with_body}
use Rattle.lxr_large_model.specs.Step.{IsLargeOpFor, large_step, put_at, put_to, word_in as word_of}
use Rattle.lxr_large_bodies.specs.Bodies.{Held, IsFreeRun, fresh, rank_of, with_placed, with_words, word_at}
use Rattle.lxr_large_bodies.specs.Kept.{is_kept, kept_of, to_keep}
use Rattle.lxr_heap.specs.declared.heap.Heap.{Heap}
use Rattle.lxr_heap.specs.Holding.{IsHeapOf, IsMade, abstract_after, abstract_of, last_report, limits_of, made_with, terms_of}
use Rattle.lxr_heap.proofs.ApartLemmas.{changed_apart, placed_apart}
use Rattle.lxr_heap.proofs.BodyLemmas.{held_changed, held_more, held_names, word_same}
use Rattle.lxr_heap.proofs.CountLemmas.{counts_called}
use Rattle.lxr_heap.proofs.EarlyLemmas.{call_alike, nobody, without_none}
use Rattle.lxr_heap.proofs.HeapLemmas.{StandsFor, behind, is_step_of, keeps_beside, lower_and_other, one_thread, other_names, same_terms, stands, stepped}
use Rattle.lxr_heap.proofs.SameLemmas.{same_heap}
use Rattle.lxr_heap.proofs.MomentLemmas.{none_chosen, quiescent, one_row, two_rows}
use Rattle.lxr_heap.proofs.OutsLemmas.{outs_done}

-- `false` is no test that holds
pub stale_now : {P : Type 0} → (P → ⊥) → IsTrue false ↔ P
stale_now none = ((λ no. let both : false ≡ true = no in absurd (cc)), (λ p. absurd (none p)))

module _ (x : Heap) (h : List LargeItem) (is : IsHeapOf x h) where
  abbrev m : Moment
  m = large_moment h

  abbrev g : AbstractState
  g = abstract_of x h is.at

  rows : 1 < length m.state.graph
  rows = let two = two_rows x.space g is.stands.0 (one_thread x h is) in omega (arith, two)

  many : length m.state.registers ≡ REGISTERS
  many = one_row x.space g is.stands.0 (one_thread x h is)

  -- where the dead are gone early, the space stands for the moment after a call without them
  pub stands_then : (space : Space) (o : Op) (r : Reply) (done : IsDone x.space space g 1 o r)
      → IsAtRest space (record { moment = survived (after_call m 1 o r) x.gone.items; at = done.at; reported = last_report h }) × OutsAreTaken (tables_of space) (after_call m 1 o r).state.graph done.at (after_call m 1 o r).made
  stands_then space o r done = (
    subst (λ k. IsAtRest space (record { moment = k; at = done.at; reported = last_report h })) (call_alike m x.gone.items is.follows is.gone 1 o r) done.rests,
    outs_done x.space space g o r is.stands.0 rows many done is.stands.1,
  )

  -- and the state follows the last pause still
  follows_then : (space : Space) (o : Op) (r : Reply) → IsFormedFor x.space.limits.registers o → IsDone x.space space g 1 o r → FollowsPause (after_call m 1 o r)
  follows_then space o r formed done =
      call_follows m 1 o r is.follows (formed_more x.space.limits.registers REGISTERS o is.stands.0.safepoint.holds.space.limits.registers.1 formed)
      (subst (IsStepReply m.state 1 o) (sym done.reply) (step_reply m.state 1 o rows (omega arith)))

  -- a handle's shape fits
  handle_fits : FitsShape handle
  handle_fits = (omega arith, omega arith)

  -- ---- an operation on the object graph

  pub done_small : (space : Space) (o : Op) (r : Reply) → IsFormedFor x.space.limits.registers o → IsOfFirstVersion o → IsDone x.space space g 1 o r
      → IsHeapOf (behind x space x.bodies (made_with x.made r)) (Called (large_op.Small o) (large_reply.Small r) ∷ h)
  done_small space o r formed first done =
      let keeps = keeps_beside x.space space done.keeps in
      let terms = same_terms x space x.bodies (made_with x.made r) keeps refl in
      let st = is_step_of (terms_of x) h m o r is.state done.reply in
      let now = stepped x.made x.bodies m (large_state h) o r rows many first done.reply (stands x h is) in
      let after = subst (StandsFor (made_with x.made r) x.bodies (after_call m 1 o r)) (sym st.state) now in
      record {
        legal = subst (λ t. IsLegalLarge t (Called (large_op.Small o) (large_reply.Small r) ∷ h)) (sym terms) (is.legal, record { operation = formed; reply = st.replies });
        at = done.at;
        stands = stands_then space o r done;
        gone = record { once = is.gone.once; dead = is.gone.dead };
        room = is.room ∙ sym (ap (λ (s : Space). s.report.dead.room) done.keeps);
        follows = follows_then space o r formed done;
        few = subst (λ (l : Limits). length m.unreclaimed ≤ GRANULES_IN_BLOCK * l.blocks) (sym keeps.limits) is.few;
        untraced = is.untraced;
        limits = keeps.limits ∙ is.limits ∙ ap (λ (l : Limits). limits_of l.blocks l.registers l.log) (sym keeps.limits);
        log = subst (λ (l : Limits). most_logged ≤ l.log) (sym keeps.limits) is.log;
        tally = keeps.tally ∙ is.tally ∙ ap (λ p. record no_tally { pauses = p }) (sym keeps.pauses);
        state = after.state;
        world = after.world;
        next = after.next;
        counts = counts_called x.left x.made_before x.made m o r is.follows rows first done.reply is.counts;
        names = after.names;
        bodies = after.bodies;
        apart = is.apart;
        fresh = stale_now st.stale;
        collected = λ f. absurd (st.stale f);
        drained = λ f. absurd (st.stale f);
      }

  -- ---- a new large object

  names_append : (made : ℕ) (ls : List Large) (l : Large) → AllByRecursion (IsMade made) ls → IsMade made l → AllByRecursion (IsMade made) (ls ++ l ∷ [])
  names_append made [] l all own = (own, tt)
  names_append made (k ∷ ks) l all own = (all.0, names_append made ks l all.1 own)

  pub done_large : (space : Space) (n : Name) (dest blocks first : ℕ) → dest < x.space.limits.registers → (1 ≤ blocks) × (blocks ≤ MOST_BODY_BLOCKS) → IsFreeRun x.bodies first blocks → n ≡ record { thread = 1; serial = x.made + 1 }
      → IsDone x.space space g 1 (op.New dest handle) (reply.New n)
      → IsHeapOf (behind x space (record x.bodies { bodies = with_placed x.bodies.bodies (fresh n first blocks) }) (x.made + 1)) (Called (large_op.Big dest blocks) (large_reply.Big n) ∷ h)
  done_large space n dest blocks first small range run named done =
      let keeps = keeps_beside x.space space done.keeps in
      let s = large_state h in
      let held : Held = record x.bodies { bodies = with_placed x.bodies.bodies (fresh n first blocks) } in
      let terms = same_terms x space held (x.made + 1) keeps refl in
      let e : n ≡ next_name s.small.graph 1 = named ∙ sym is.next in
      let now = stepped x.made x.bodies m s (op.New dest handle) (reply.New n) rows many tt done.reply (stands x h is) in
      let k : Moment = after_call m 1 (op.New dest handle) (reply.New n) in
      let more = held_more m k x.bodies.bodies s.large n first blocks (fresh_body blocks) refl refl (lower_and_other x.made n s.large named is.names) refl is.bodies in
      record {
        legal = subst (λ t. IsLegalLarge t (Called (large_op.Big dest blocks) (large_reply.Big n) ∷ h)) (sym terms)
            (is.legal, record { operation = (small, range.0, range.1); reply = ap large_reply.Big (sym e) });
        at = done.at;
        stands = stands_then space (op.New dest handle) (reply.New n) done;
        gone = record { once = is.gone.once; dead = is.gone.dead };
        room = is.room ∙ sym (ap (λ (s : Space). s.report.dead.room) done.keeps);
        follows = follows_then space (op.New dest handle) (reply.New n) (small, handle_fits) done;
        few = subst (λ (l : Limits). length m.unreclaimed ≤ GRANULES_IN_BLOCK * l.blocks) (sym keeps.limits) is.few;
        untraced = is.untraced;
        limits = keeps.limits ∙ is.limits ∙ ap (λ (l : Limits). limits_of l.blocks l.registers l.log) (sym keeps.limits);
        log = subst (λ (l : Limits). most_logged ≤ l.log) (sym keeps.limits) is.log;
        tally = keeps.tally ∙ is.tally ∙ ap (λ p. record no_tally { pauses = p }) (sym keeps.pauses);
        state = now.state;
        world = now.world;
        next = now.next;
        counts = counts_called x.left x.made_before x.made m (op.New dest handle) (reply.New n) is.follows rows tt done.reply is.counts;
        names = names_append (x.made + 1) s.large (record { name = next_name s.small.graph 1; words = fresh_body blocks }) now.names
            (record { thread = refl; serial = let i = ap (λ (q : Name). q.serial) is.next in omega (arith, i) });
        bodies = subst (λ q. map kept_of held.bodies ≡ map (to_keep k) (filter (is_kept k) (s.large ++ record { name = q; words = fresh_body blocks } ∷ []))) e more;
        apart = placed_apart x.bodies n first blocks range.0 is.apart
            (held_names (λ q. same_name q n ≡ false) m x.bodies.bodies s.large is.bodies (other_names x.made n s.large named is.names))
            (held_names (λ q. rank_of q < rank_of n) m x.bodies.bodies s.large is.bodies (lower s.large (lower_and_other x.made n s.large named is.names))) run;
        fresh = stale_now (λ no. no);
        collected = λ f. absurd f;
        drained = λ f. absurd f;
      }
    where
      lower : (ls : List Large) → AllByRecursion (λ (l : Large). (rank_of l.name < rank_of n) × (same_name l.name n ≡ false)) ls → AllByRecursion (λ (l : Large). rank_of l.name < rank_of n) ls
      lower [] all = tt
      lower (l ∷ ls) all = (all.0.0, lower ls all.1)

  -- ---- words of bodies

  -- what a register holds is kept
  pub held_is_kept : (base : ℕ) (n : Name) → register_at m.state 1 base ≡ Some n → (has m.unreclaimed n || has m.made n) ≡ true
  held_is_kept base n there =
      sym (list_any-append (same_name n) m.unreclaimed m.made) ∙ subst (IsHeld m) there (in_register m 1 base is.follows)

  -- a word of its body
  pub held_word : (n : Name) (i : ℕ) → (has m.unreclaimed n || has m.made n) ≡ true → word_at x.bodies.bodies n i ≡ word_of (large_of (large_state h).large n) i
  held_word n i kept = word_same m x.bodies.bodies (large_state h).large n i is.bodies kept

  abbrev pub read_only : Heap
  read_only = behind x x.space x.bodies x.made

  pub done_get : (base i : ℕ) (r : LargeReply) → base < x.space.limits.registers → (large_step (large_state h) (large_op.BigGet base i)).1 ≡ r → IsHeapOf read_only (Called (large_op.BigGet base i) r ∷ h)
  done_get base i r small told = record {
    legal = (is.legal, record { operation = small; reply = told });
    at = is.at;
    stands = is.stands;
    gone = is.gone;
    room = is.room;
    follows = is.follows;
    few = is.few;
    untraced = is.untraced;
    limits = is.limits;
    log = is.log;
    tally = is.tally;
    state = is.state;
    world = is.world;
    next = is.next;
    counts = is.counts;
    names = is.names;
    bodies = is.bodies;
    apart = is.apart;
    fresh = stale_now (λ no. no);
    collected = λ f. absurd f;
    drained = λ f. absurd f;
  }

  -- a `bput` that changes nothing
  pub done_no_put : (base i v : ℕ) (r : LargeReply) → base < x.space.limits.registers → large_step (large_state h) (large_op.BigPut base i v) ≡ (large_state h, r) → IsHeapOf read_only (Called (large_op.BigPut base i v) r ∷ h)
  done_no_put base i v r small told =
      let same = ap (λ (p : LargeState × LargeReply). p.0) told in
      let old = subst (StandsFor x.made x.bodies m) (sym same) (stands x h is) in
      record {
        legal = (is.legal, record { operation = small; reply = ap (λ (p : LargeState × LargeReply). p.1) told });
        at = is.at;
        stands = is.stands;
        gone = is.gone;
        room = is.room;
        follows = is.follows;
        few = is.few;
        untraced = is.untraced;
        limits = is.limits;
        log = is.log;
        tally = is.tally;
        state = old.state;
        world = old.world;
        next = old.next;
        counts = is.counts;
        names = old.names;
        bodies = old.bodies;
        apart = is.apart;
        fresh = stale_now (λ no. no);
        collected = λ f. absurd f;
        drained = λ f. absurd f;
      }

  names_changed : (made : ℕ) (n : Name) (i v : ℕ) (ls : List Large) → AllByRecursion (IsMade made) ls → AllByRecursion (IsMade made) (with_body ls n (λ words. slice_set words i v))
  names_changed made n i v [] all = tt
  names_changed made n i v (l ∷ ls) all = (one, names_changed made n i v ls all.1)
    where
      one : IsMade made (if same_name n l.name then (record l { words = slice_set l.words i v }) else l)
      one = elim (same_name n l.name) as (λ c. IsMade made (if c then (record l { words = slice_set l.words i v }) else l)) [
        | true ↦ record { thread = all.0.thread; serial = all.0.serial }
        | false ↦ all.0
      ]

  pub done_put : (base i v old : ℕ) (n : Name) → base < x.space.limits.registers → register_at (large_state h).small 1 base ≡ Some n → word_of (large_of (large_state h).large n) i ≡ Some old
      → IsHeapOf (behind x x.space (record x.bodies { bodies = with_words x.bodies.bodies n (λ words. slice_set words i v) }) x.made) (Called (large_op.BigPut base i v) large_reply.Put ∷ h)
  done_put base i v old n small there word =
      let s = large_state h in
      let told : large_step s (large_op.BigPut base i v) ≡ (record s { large = with_body s.large n (λ words. slice_set words i v) }, large_reply.Put) =
      ap (put_to s i v) there ∙ ap (put_at s n i v) word in
      let held : Held = record x.bodies { bodies = with_words x.bodies.bodies n (λ words. slice_set words i v) } in
      let now : StandsFor x.made held m (record s { large = with_body s.large n (λ words. slice_set words i v) }) = record {
        state = is.state;
        world = is.world;
        next = is.next;
        names = names_changed x.made n i v s.large is.names;
        bodies = held_changed m n (λ words. slice_set words i v) x.bodies.bodies s.large is.bodies;
      } in
      let after = subst (StandsFor x.made held m) (sym (ap (λ (p : LargeState × LargeReply). p.0) told)) now in
      record {
        legal = (is.legal, record { operation = small; reply = ap (λ (p : LargeState × LargeReply). p.1) told });
        at = is.at;
        stands = is.stands;
        gone = is.gone;
        room = is.room;
        follows = is.follows;
        few = is.few;
        untraced = is.untraced;
        limits = is.limits;
        log = is.log;
        tally = is.tally;
        state = after.state;
        world = after.world;
        next = after.next;
        counts = is.counts;
        names = after.names;
        bodies = after.bodies;
        apart = changed_apart x.bodies.blocks n i v x.bodies.bodies is.apart;
        fresh = stale_now (λ no. no);
        collected = λ f. absurd f;
        drained = λ f. absurd f;
      }

  -- ---- refusals

  -- right behind a pause that collected nothing is dead, so nothing is gone
  pub none_dead : IsFresh h → (ns : List Name) → ((n : Name) → IsTrue (has ns n) → Dead m.last m.unreclaimed m.stuck n) → ns ≡ []
  none_dead f ns dead =
      let c = is.collected f in
      nobody ns (λ n here. let d = dead n here in live_not_dead m is.follows n (live_reachable m is.follows n ((c.exactly n).0 (dead_parts d).member)) d)

  pub none_gone : IsFresh h → x.gone.items ≡ []
  none_gone f = none_dead f x.gone.items is.gone.dead

  -- where nothing is gone, the space stands for all that the history leads to
  pub rests_all : x.gone.items ≡ [] → IsAtRest x.space (abstract_after h is.at)
  rests_all none = subst (λ us. IsAtRest x.space (record { moment = leaving m us; at = is.at; reported = last_report h })) (ap (without m.unreclaimed) none ∙ without_none m.unreclaimed) is.stands.0

  pub rests_whole : IsFresh h → IsAtRest x.space (abstract_after h is.at)
  rests_whole f = rests_all (none_gone f)

  -- right behind a pause that collected, what is reachable can leave no run of lines where none is left
  pub lines_full : (shape : Shape) → IsTrue x.fresh → IsFull x.space shape → (ns : List Name) × AreReachable (large_state h) ns × LeaveNoLines (terms_of x) (large_state h) ns shape
  lines_full shape fresh full =
      let f = is.fresh.0 fresh in
      let c = is.collected f in
      let all = abstract_after h is.at in
      let rests = rests_whole f in
      let (ns, set, none) = collected_full_leaves_no_run x.space all shape (quiescent x.space all rests c.written) c.made (none_chosen x.space all rests is.untraced) c.exactly
      (subst (λ (z : State). HasWorld z.graph) (sym is.state) is.world) full in (
        ns,
        subst (λ (z : State). IsSetOf ns (λ o. Reachable z o × (o ≢ world_name))) is.state set,
        subst (λ (z : State). LeaveNoRun z.graph ns x.space.limits.blocks (line_count shape)) is.state none,
      )

  pub refused_new : (dest : ℕ) (shape : Shape) → IsFormedFor x.space.limits.registers (op.New dest shape) → MayBeFull (terms_of x) h (large_op.Small (op.New dest shape))
      → IsHeapOf x (Called (large_op.Small (op.New dest shape)) (large_reply.Small reply.Full) ∷ h)
  refused_new dest shape formed may = same_heap x h is x.space.report.told.items (Called (large_op.Small (op.New dest shape)) (large_reply.Small reply.Full) ∷ h) record { moment = refl; state = refl; reported = refl; fresh = (λ f. f, λ f. f) } (is.legal, record { operation = formed; reply = may })

  pub refused_big : (dest blocks : ℕ) → IsLargeOpFor x.space.limits.registers (large_op.Big dest blocks) → MayBeFull (terms_of x) h (large_op.Big dest blocks) → IsHeapOf x (Called (large_op.Big dest blocks) large_reply.Full ∷ h)
  refused_big dest blocks formed may = same_heap x h is x.space.report.told.items (Called (large_op.Big dest blocks) large_reply.Full ∷ h) record { moment = refl; state = refl; reported = refl; fresh = (λ f. f, λ f. f) } (is.legal, record { operation = formed; reply = may })
