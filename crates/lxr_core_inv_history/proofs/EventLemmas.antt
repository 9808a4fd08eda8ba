-- Each event keeps the history and the replies.
use Rattle.std.proofs.Common.{◌≡◌, ◌≢◌, ℕ, ◌+◌, ◌<◌, ◌≤◌, refl, sym, ap, subst, ◌∙◌, inl, inr, arith, Bool, true, false, List, [], ◌∷◌, ◌++◌, IsTrue, length, length-append, take, nat_eq}
use Rattle.std.specs.Prelude.{Option, Some, None, slice_get, slice_set, if◌then◌else◌}
use Rattle.lxr_layout.specs.declared.TheConstants.{FREE_BLOCK_CURSOR, PAUSE_WORD, RUN_CURSOR}
use Rattle.lxr_layout.specs.declared.LogEntry.{LogEntry}
use Rattle.lxr_layout.specs.declared.Name.{Name}
use Rattle.lxr_layout.specs.declared.Place.{Place}
use Rattle.lxr_layout.specs.declared.Shape.{Shape}
use Rattle.lxr_layout.specs.Places.{field_word, first_word, place_in}
use Rattle.lxr_base.specs.Roomy.{Roomy, pushed}
use Rattle.lxr_graph.specs.declared.Op.{Op}
use Rattle.lxr_graph.specs.declared.Op.TheVariants as op
use Rattle.lxr_graph.specs.declared.Reply.{Reply}
use Rattle.lxr_graph.specs.declared.Reply.TheVariants as reply
use Rattle.lxr_graph.specs.History.{Call, calls_of, replies_of}
use Rattle.lxr_graph.specs.Names.{has, same_name}
use Rattle.lxr_graph.specs.State.{Object, State, next_name, object_at, refs_of, register_at}
use Rattle.lxr_graph.specs.Step.{IsReply, load_from, loaded, swap_in, swapped}
use Rattle.lxr_graph.proofs.NameSets.{not_both, same_names}
use Rattle.lxr_graph.proofs.RowLemmas.{next_none}
use Rattle.lxr_image.specs.Image.{IsImage, place_word}
use Rattle.lxr_image.specs.ImageLaws.{placed}
use Rattle.lxr_image.specs.Tables.{Tables}
use Rattle.lxr_model.specs.Belongs.{asks_for_pause, calls_since_pause, has_asked}
use Rattle.lxr_model.specs.Moments.{Moment}
use Rattle.lxr_model_counting.specs.Following.{FollowsPause}
use Rattle.lxr_invariant.specs.AbstractState.{members}
use Rattle.lxr_invariant.proofs.EntryLemmas.{equal_numbers, same_number}
use Rattle.lxr_alloc.specs.declared.Spans.{Spans}
use Rattle.lxr_alloc.specs.Spans.{front_of}
use Rattle.lxr_core_invariant.specs.ThreadStates.{Intent, Reason, Stage, ThreadState, all_of, held, is_end}
use Rattle.lxr_core_invariant.specs.ThreadStates.{Plain, AtReference, AtValue, Clears, Stores, DrewRun, HasRun, NeedsBlock, DrewBlock, HasBlock, Makes, GivesUp}
use Rattle.lxr_core_invariant.specs.ThreadStates.{Rests, Works, Names, Through}
use Rattle.lxr_core_invariant.specs.ThreadStates as why
use Rattle.lxr_core_invariant.specs.EpochStates.{Beginning, EpochState, limits_of, moment_of}
use Rattle.lxr_core_invariant.specs.Events.{Current, Does, Event, TellsObject, at_once, base_of, done_with, found_reply, making, source_for, span_from, takes_reference, value_word}
use Rattle.lxr_core_invariant.specs.Events as event
use Rattle.lxr_core_invariant.specs.Happening.{May, MayBegin, asked_by, entry_with, happen, with_block, with_call, with_run}
use Rattle.lxr_core_invariant.specs.Called.{AreReplies, IsWithinTurn, HasCalled, HasReason, IsToTell, IsWant, SetsPauseWord, uncounted, waiting_in}
use Rattle.lxr_core_invariant.specs.Drawn.{HasDrawn}
use Rattle.lxr_core_invariant.specs.Epoch.{IsEpoch}
use Rattle.lxr_core_invariant.specs.Laws.{AnswersAs, HasHistory, HistoryIsKept, RepliesAreSteps, RepliesAs}
use Rattle.lxr_core_invariant.proofs.DrawnLemmas.{block_below}
use Rattle.lxr_core_invariant.proofs.HeldLemmas.{IsHeld, in_register, reference_held}
use Rattle.lxr_core_invariant.proofs.TellingLemmas.{placed_there, told_is}
use Rattle.lxr_core_inv_history.proofs.BusyLemmas.{IsBusy, busy_resting, busy_working, others_before_end}
use Rattle.lxr_core_inv_history.proofs.StandingLemmas.{Beside, Quiet, done_by, done_history, has_stood, quiet_history, stands_history, works_history}

-- ---- a mutator goes on with its operation

-- cursors, the history and places stay
quiet_still : (s after : EpochState) → after.history ≡ s.history → after.at ≡ s.at → after.tables.cursors ≡ s.tables.cursors → Quiet s after
quiet_still s after history at cursors = record {
  history = history;
  places = λ n. ap (λ f. f n) at;
  blocks = (let e = ap (λ f. f 3) cursors in omega (arith, e), ap (λ f. f 4) cursors);
  word = λ k. ap (λ f. f 0) cursors ∙ k;
}

-- where cursors stay
still : (b : Beginning) (s after : EpochState) (i : ℕ) (v : ThreadState) (log : Roomy LogEntry) (spans : Spans) (intent : Intent) → IsEpoch b s → slice_get s.thread_states i ≡ Some v → IsBusy b s v
    → after.history ≡ s.history → after.at ≡ s.at → after.tables.cursors ≡ s.tables.cursors
    → after.thread_states ≡ slice_set s.thread_states i (record v { log = log; spans = spans; stage = Works intent }) → IsWithinTurn after (record v { log = log; spans = spans; stage = Works intent }) (Works intent)
    → HasHistory b after
still b s after i v log spans intent is shown busy history at cursors thread_states on =
    works_history b s after i v log spans intent is shown busy (quiet_still s after history at cursors) (ap (λ f. f 0) cursors) thread_states on

-- a mutator that may begin is busy
resting : (b : Beginning) (s : EpochState) (i : ℕ) (v : ThreadState) → IsEpoch b s → slice_get s.thread_states i ≡ Some v → MayBegin s.tables v → IsBusy b s v
resting b s i v is shown begin = busy_resting b s v (is.called.each i v shown) begin.stage begin.unasked

-- a mutator in an operation is busy
in_work : (b : Beginning) (s : EpochState) (i : ℕ) (v : ThreadState) (intent : Intent) → IsEpoch b s → slice_get s.thread_states i ≡ Some v → v.stage ≡ Works intent → IsBusy b s v
in_work b s i v intent is shown stage = busy_working b s v intent (is.called.each i v shown) stage

-- ---- it is through

-- it obeys where a pause is asked for
obeys : (b : Beginning) (s : EpochState) (i : ℕ) (v : ThreadState) → IsEpoch b s → slice_get s.thread_states i ≡ Some v → v.stage ≡ Rests → s.tables.cursors PAUSE_WORD ≡ 1 → HasHistory b (happen b s i v event.Obeys)
obeys b s i v is shown stage word =
    let has = is.called.each i v shown in
    let on : IsWithinTurn s v Rests = subst (IsWithinTurn s v) stage has.within_turn in
    let counted : v.since + 0 + calls_since_pause v.thread b.history ≤ calls_since_pause v.thread s.history = subst (λ z. v.since + waiting_in z + calls_since_pause v.thread b.history ≤ calls_since_pause v.thread s.history) stage has.counted in
    let short : calls_since_pause v.thread s.history ≤ v.since + 0 + calls_since_pause v.thread b.history + 0 = subst (λ z. calls_since_pause v.thread s.history ≤ v.since + waiting_in z + calls_since_pause v.thread b.history + uncounted z) stage has.short in
    quiet_history b s (happen b s i v event.Obeys) i v (record v { stage = Through why.Asked }) is shown (quiet_still s (happen b s i v event.Obeys) refl refl refl) refl refl
    (subst (λ z. SetsPauseWord s v z → IsTrue (has_asked v.thread s.history)) (sym stage) (λ k. k)) (λ set. inl set) (λ same. record {
      formed = has.formed;
      endless = has.endless;
      few = has.few;
      began = has.began;
      few_began = has.few_began;
      every = has.every;
      before = has.before;
      calls = subst (λ z. calls_of v.thread s.history ≡ take (length v.replies + waiting_in z) (all_of v.operations)) stage has.calls;
      replies = subst (AreReplies b s v) stage has.replies;
      counted = counted;
      short = short;
      asked = has.asked;
      within_turn = (omega (arith, on.0), omega (arith, on.1), (word, on.1));
    })

-- it gives up, and asks for a pause
leaves : (b : Beginning) (s : EpochState) (i : ℕ) (v : ThreadState) (reason : Reason) → IsEpoch b s → slice_get s.thread_states i ≡ Some v → v.stage ≡ Works (GivesUp reason) → HasHistory b (happen b s i v (event.Leaves reason))
leaves b s i v reason is shown stage =
    let has = is.called.each i v shown in
    let busy = in_work b s i v (GivesUp reason) is shown stage in
    let after : EpochState = happen b s i v (event.Leaves reason) in
    let on : IsWithinTurn s v (Works (GivesUp reason)) = subst (IsWithinTurn s v) stage has.within_turn in
    let quiet : Quiet s after = record { history = refl; places = λ n. refl; blocks = (omega arith, refl); word = λ k. refl } in
    let counted = busy.counted in
    let short = busy.short in
    quiet_history b s after i v (record v { stage = Through reason }) is shown quiet refl refl busy.idle (λ set. inr (wants reason on.3)) (λ same. record {
      formed = has.formed;
      endless = has.endless;
      few = has.few;
      began = has.began;
      few_began = has.few_began;
      every = has.every;
      before = has.before;
      calls = busy.calls ∙ ap (λ k. take k (all_of v.operations)) (omega arith);
      replies = busy.replies;
      counted = omega (arith, counted);
      short = short_at reason on.3 busy.short;
      asked = λ k. refl;
      within_turn = (omega (arith, on.0), omega (arith, on.1), reason_at reason on.3 on.4);
    })
  where
    wants : (reason : Reason) → IsWant reason → SetsPauseWord (happen b s i v (event.Leaves reason)) (record v { stage = Through reason }) (Through reason)
    wants why.NoRun want = tt
    wants why.LogFull want = tt
    wants why.Asked want = absurd want
    wants why.Turns want = absurd want
    wants why.Ended want = absurd want

    short_at : (reason : Reason) → IsWant reason → calls_since_pause v.thread s.history ≤ v.since + calls_since_pause v.thread b.history
        → calls_since_pause v.thread s.history ≤ v.since + 0 + calls_since_pause v.thread b.history + uncounted (Through reason)
    short_at why.NoRun want short = omega (arith, short)
    short_at why.LogFull want short = omega (arith, short)
    short_at why.Asked want short = absurd want
    short_at why.Turns want short = absurd want
    short_at why.Ended want short = absurd want

    reason_at : (reason : Reason) → IsWant reason → HasReason s v reason → HasReason (happen b s i v (event.Leaves reason)) (record v { stage = Through reason }) reason
    reason_at why.NoRun want has = has
    reason_at why.LogFull want has = has
    reason_at why.Asked want has = absurd want
    reason_at why.Turns want has = absurd want
    reason_at why.Ended want has = absurd want

-- ---- an operation stands

-- beside it nothing is done that the history tells of
beside_nothing : (b : Beginning) (s after : EpochState) (o : Op) → ((n : Name) → IsTrue (has (members (moment_of b s)) n) → after.at n ≡ s.at n) → after.tables.cursors ≡ s.tables.cursors
    → asks_for_pause o ≡ false → Beside b s after o
beside_nothing b s after o places cursors quiet = record {
  places = places;
  blocks = (ap (λ f. f 3) cursors, ap (λ f. f 4) cursors);
  word = λ k. ap (λ f. f 0) cursors ∙ k;
  set_by = λ k. inl (sym (ap (λ f. f 0) cursors) ∙ k);
  asks = λ k. absurd (cc);
}

-- an operation that needs no further step asks for no pause
at_once_asks : (v : ThreadState) (o : Op) (p : Reply × List Place) → at_once v o ≡ Some p → asks_for_pause o ≡ false
at_once_asks v op.Pause p e = absurd (cc)
at_once_asks v op.Collect p e = absurd (cc)
at_once_asks v (op.New dest shape) p e = refl
at_once_asks v (op.Load dest base index) p e = refl
at_once_asks v (op.Store base index source) p e = refl
at_once_asks v (op.Put base index value) p e = refl
at_once_asks v (op.Get base index) p e = refl
at_once_asks v (op.Swap dest base index source) p e = refl
at_once_asks v (op.Add base index value) p e = refl
at_once_asks v (op.Move dest source) p e = refl
at_once_asks v (op.Nil dest) p e = refl
at_once_asks v (op.Same left right) p e = refl
at_once_asks v op.End p e = refl

-- an operation with a base register asks for no pause
based_asks : (o : Op) (p : ℕ × ℕ) → base_of o ≡ Some p → asks_for_pause o ≡ false
based_asks op.Pause p e = absurd (cc)
based_asks op.Collect p e = absurd (cc)
based_asks (op.New dest shape) p e = refl
based_asks (op.Load dest base index) p e = refl
based_asks (op.Store base index source) p e = refl
based_asks (op.Put base index value) p e = refl
based_asks (op.Get base index) p e = refl
based_asks (op.Swap dest base index source) p e = refl
based_asks (op.Add base index value) p e = refl
based_asks (op.Move dest source) p e = refl
based_asks (op.Nil dest) p e = refl
based_asks (op.Same left right) p e = refl
based_asks op.End p e = refl

-- ---- a load or a swap

-- what is found at an index of what a base register holds
abbrev found_at : State → ℕ → Option Name → Option (Option Name)
found_at s index None = None
found_at s index (Some u) = slice_get (refs_of (object_at s.graph u)) index

-- it is nil or a member
found_held : (m : Moment) (index : ℕ) (v base : Option Name) → FollowsPause m → IsHeld m base → found_at m.state index base ≡ Some v → IsHeld m v
found_held m index v None follows member e = absurd (cc)
found_held m index v (Some u) follows member e = of_object (object_at m.state.graph u) refl e
  where
    of_object : (o : Option Object) → object_at m.state.graph u ≡ o → slice_get (refs_of o) index ≡ Some v → IsHeld m v
    of_object None there e = absurd (cc)
    of_object (Some o) there e = reference_held m u o index v follows member there e

-- a load replies by it
load_finds : (s : State) (t dest index : ℕ) (v base : Option Name) → (load_from s t dest index base).1 ≡ reply.Loaded v → found_at s index base ≡ Some v
load_finds s t dest index v None e = absurd (cc)
load_finds s t dest index v (Some u) e = by (slice_get (refs_of (object_at s.graph u)) index) e
  where
    by : (found : Option (Option Name)) → (loaded s t dest found).1 ≡ reply.Loaded v → found ≡ Some v
    by None e = absurd (cc)
    by (Some w) e = cc

-- and so does a swap
swap_finds : (s : State) (t dest index : ℕ) (held v base : Option Name) → (swap_in s t dest index held base).1 ≡ reply.Swapped v → found_at s index base ≡ Some v
swap_finds s t dest index held v None e = absurd (cc)
swap_finds s t dest index held v (Some u) e = by (slice_get (refs_of (object_at s.graph u)) index) e
  where
    by : (found : Option (Option Name)) → (swapped s t dest u index held found).1 ≡ reply.Swapped v → found ≡ Some v
    by None e = absurd (cc)
    by (Some w) e = cc

-- what either takes is nil or a member
taken_held : (m : Moment) (t : ℕ) (o : Op) (v : Option Name) → FollowsPause m → IsTrue (takes_reference o) → IsReply m.state t o (found_reply o v) → IsHeld m v
taken_held m t (op.Load dest base index) v follows takes e =
    let held : Option Name = register_at m.state t base in found_held m index v held follows (in_register m t base follows) (load_finds m.state t dest index v held e)
taken_held m t (op.Swap dest base index source) v follows takes e =
    let held : Option Name = register_at m.state t base in
    found_held m index v held follows (in_register m t base follows) (swap_finds m.state t dest index (register_at m.state t source) v held e)
taken_held m t other v follows takes e = absurd (cc)

-- neither asks for a pause, nor is it the end
taking_goes_on : (o : Op) → IsTrue (takes_reference o) → (asks_for_pause o ≡ false) × (is_end o ≡ false)
taking_goes_on (op.Load dest base index) takes = (refl, refl)
taking_goes_on (op.Swap dest base index source) takes = (refl, refl)
taking_goes_on other takes = absurd (cc)

-- the thread state of a mutator whose load or swap stands in the history and whose reply is yet to tell a name
abbrev pub naming : ThreadState → ℕ → Place → ThreadState
naming v dest p = record v { registers = slice_set v.registers dest p; stage = Names p.0 }

-- one that found an object stands, and its reply waits
takes_name : (b : Beginning) (s after : EpochState) (i : ℕ) (v : ThreadState) (o : Op) (dest : ℕ) (p : Place) (n : Name) → IsEpoch b s → slice_get s.thread_states i ≡ Some v → IsBusy b s v
    → Does v o → IsTrue (takes_reference o) → RepliesAs b s v o (found_reply o (Some n)) → p.0 ≡ s.at n
    → after.history ≡ with_call b s v o → after.thread_states ≡ slice_set s.thread_states i (naming v dest p) → after.at ≡ s.at → after.tables.cursors ≡ s.tables.cursors → HasHistory b after
takes_name b s after i v o dest p n is shown busy does takes replies place history thread_states at cursors =
    let r : Reply = found_reply o (Some n) in
    let known = is.called.each i v shown in
    let here : after.history ≡ Call v.thread o r ∷ s.history = history ∙ ap (λ z. Call v.thread o z ∷ s.history) replies in
    let stood = has_stood b s after v o r busy does here in
    let goes_on = taking_goes_on o takes in
    let asked : has_asked v.thread after.history ≡ false = stood.asked ∙ goes_on.0 in
    let member : IsTrue (has (members (moment_of b s)) n) = taken_held (moment_of b s) v.thread o (Some n) is.lives takes replies in
    let since = stood.since in
    let counted = busy.counted in
    let short = busy.short in
    let beside = beside_nothing b s after o (λ m is_member. ap (λ f. f m) at) cursors goes_on.0 in
    stands_history b s after i v (naming v dest p) o is shown busy does history thread_states refl beside (λ keeps. let stays = keeps.members n member in record {
      formed = known.formed;
      endless = known.endless;
      few = known.few;
      began = known.began;
      few_began = known.few_began;
      every = known.every;
      before = known.before;
      calls = stood.calls;
      replies = record { name = n; member = stays.0; stands = place ∙ sym stays.1; now = o; does = does; takes = takes; reply = stood.replies };
      counted = omega (arith, since, counted);
      short = omega (arith, since, short);
      asked = λ k. absurd (cc);
      within_turn = (busy.turn, others_before_end v.operations (length v.replies) o does goes_on.1, asked);
    })

-- it stands, by what it found
takes_found : (b : Beginning) (s after : EpochState) (i : ℕ) (v : ThreadState) (o : Op) (dest : ℕ) (p : Place) (found : Option Name) (nil : Bool) → IsEpoch b s → slice_get s.thread_states i ≡ Some v → IsBusy b s v
    → Does v o → IsTrue (takes_reference o) → RepliesAs b s v o (found_reply o found) → p.0 ≡ place_word s.at found → nat_eq p.0 0 ≡ nil
    → after.history ≡ with_call b s v o
    → after.thread_states ≡ slice_set s.thread_states i (if nil then (done_with (record v { registers = slice_set v.registers dest p }) o (found_reply o None)) else (naming v dest p))
    → after.at ≡ s.at → after.tables.cursors ≡ s.tables.cursors → HasHistory b after
takes_found b s after i v o dest p None true is shown busy does takes replies place is_nil history thread_states at cursors =
    done_history b s after i v (slice_set v.registers dest p) o (found_reply o None) is shown busy does replies history thread_states
    (beside_nothing b s after o (λ m is_member. ap (λ f. f m) at) cursors (taking_goes_on o takes).0)
takes_found b s after i v o dest p None false is shown busy does takes replies place is_nil history thread_states at cursors =
    absurd (not_both (nat_eq p.0 0) (same_number p.0 0 place) is_nil)
takes_found b s after i v o dest p (Some n) true is shown busy does takes replies place is_nil history thread_states at cursors =
    let member : IsTrue (has (members (moment_of b s)) n) = taken_held (moment_of b s) v.thread o (Some n) is.lives takes replies in
    absurd (placed_there s.tables (limits_of b).blocks s.at (moment_of b s).state.graph (members (moment_of b s)) n is.image.placed.image member (sym place ∙ equal_numbers p.0 0 is_nil))
takes_found b s after i v o dest p (Some n) false is shown busy does takes replies place is_nil history thread_states at cursors =
    takes_name b s after i v o dest p n is shown busy does takes replies place history thread_states at cursors

-- the reply tells the name
tells : (b : Beginning) (s : EpochState) (i : ℕ) (v : ThreadState) (o : Op) (n : Name) (place : ℕ) (shape : Shape) → IsEpoch b s → slice_get s.thread_states i ≡ Some v → v.stage ≡ Names place → Does v o
    → TellsObject (s.tables.heap (first_word place)) n shape → HasHistory b (happen b s i v (event.TellsName o n))
tells b s i v o n place shape is shown stage does told =
    let has = is.called.each i v shown in
    let after : EpochState = happen b s i v (event.TellsName o n) in
    let tell : IsToTell b s v place = subst (AreReplies b s v) stage has.replies in
    let on : IsWithinTurn s v (Names place) = subst (IsWithinTurn s v) stage has.within_turn in
    let there = is.image.placed.image.stands tell.name tell.member in
    let name : n ≡ tell.name =
    (told_is s.tables (limits_of b).blocks s.at (moment_of b s).state.graph (members (moment_of b s)) tell.name n there.0 shape place is.image.placed.image tell.member there.1 tell.stands told).0 in
    let now : tell.now ≡ o = let e : Some tell.now ≡ Some o = sym tell.does ∙ does in cc in
    let no_end : is_end o ≡ false = (taking_goes_on o (subst (λ z. IsTrue (takes_reference z)) now tell.takes)).1 in
    let reply_is : found_reply tell.now (Some tell.name) ≡ found_reply o (Some n) = ap (λ z. found_reply z (Some tell.name)) now ∙ ap (λ z. found_reply o (Some z)) (sym name) in
    let quiet = quiet_still s after refl refl refl in
    quiet_history b s after i v (done_with v o (found_reply o (Some n))) is shown quiet refl refl (subst (λ z. SetsPauseWord s v z → IsTrue (has_asked v.thread s.history)) (sym stage) (λ k. k)) (λ set. inl set)
    (λ same. told_called b s after v (found_reply o (Some n)) (is_end o) (nat_eq (v.since + 1) v.every) has
    (subst (λ z. calls_of v.thread s.history ≡ take (length v.replies + waiting_in z) (all_of v.operations)) stage has.calls)
    (tell.reply ∙ ap (λ z. v.replies ++ z ∷ []) reply_is)
    (subst (λ z. v.since + waiting_in z + calls_since_pause v.thread b.history ≤ calls_since_pause v.thread s.history) stage has.counted)
    (subst (λ z. calls_since_pause v.thread s.history ≤ v.since + waiting_in z + calls_since_pause v.thread b.history + uncounted z) stage has.short)
    on has.asked no_end refl)
  where
    told_called : (b : Beginning) (s after : EpochState) (v : ThreadState) (r : Reply) (ended last : Bool) → HasCalled b s v
        → calls_of v.thread after.history ≡ take (length v.replies + 1) (all_of v.operations) → replies_of v.thread after.history ≡ v.replies ++ r ∷ []
        → v.since + 1 + calls_since_pause v.thread b.history ≤ calls_since_pause v.thread after.history → calls_since_pause v.thread after.history ≤ v.since + 1 + calls_since_pause v.thread b.history + 0
        → (v.since < v.every) × (length v.replies < length v.operations) × (has_asked v.thread after.history ≡ false) → (IsTrue (has_asked v.thread after.history) → after.tables.cursors PAUSE_WORD ≡ 1) → ended ≡ false → nat_eq (v.since + 1) v.every ≡ last
        → HasCalled b after (done_by v v.registers r ended last)
    told_called b s after v r true last has calls replies counted short on asked ended is_last = absurd (cc)
    told_called b s after v r false true has calls replies counted short on asked ended is_last =
        let longer : length (v.replies ++ r ∷ []) ≡ length v.replies + 1 = length-append v.replies (r ∷ []) in
        let full = equal_numbers (v.since + 1) v.every is_last in
        record {
          formed = has.formed;
          endless = has.endless;
          few = has.few;
          began = has.began;
          few_began = has.few_began;
          every = has.every;
          before = has.before;
          calls = calls ∙ ap (λ w. take w (all_of v.operations)) (omega (arith, longer));
          replies = replies;
          counted = omega (arith, counted);
          short = omega (arith, short);
          asked = asked;
          within_turn = (omega (arith, on.0), omega (arith, longer, on.1), (full, omega (arith, longer, on.1)));
        }
    told_called b s after v r false false has calls replies counted short on asked ended is_last =
        let longer : length (v.replies ++ r ∷ []) ≡ length v.replies + 1 = length-append v.replies (r ∷ []) in
        let more : v.since + 1 ≢ v.every = λ e. not_both (nat_eq (v.since + 1) v.every) (same_number (v.since + 1) v.every e) is_last in
        record {
          formed = has.formed;
          endless = has.endless;
          few = has.few;
          began = has.began;
          few_began = has.few_began;
          every = has.every;
          before = has.before;
          calls = calls ∙ ap (λ w. take w (all_of v.operations)) (omega (arith, longer));
          replies = replies;
          counted = omega (arith, counted);
          short = omega (arith, short);
          asked = asked;
          within_turn = (omega (arith, on.0, more), omega (arith, longer, on.1));
        }

-- ---- a new object

-- a new name's place changes no member's
place_kept : (t : Tables) (blocks : ℕ) (at : Name → ℕ) (st : State) (ms : List Name) (thread place : ℕ) (n : Name) → IsImage t blocks at st.graph ms → IsTrue (has ms n)
    → placed at (next_name st.graph thread) place n ≡ at n
place_kept t blocks at st ms thread place n image member =
    let there = image.stands n member in
    let differ : same_name n (next_name st.graph thread) ≡ false = unless (same_name n (next_name st.graph thread)) (λ e.
    let none : object_at st.graph n ≡ None = ap (object_at st.graph) (same_names n (next_name st.graph thread) e) ∙ next_none st.graph thread in
    let both : None ≡ Some there.0 = sym none ∙ there.1 in
    cc) in
    ap (λ c. if c then place else at n) differ
  where
    unless : (c : Bool) → (IsTrue c → ⊥) → c ≡ false
    unless true never = absurd (never refl)
    unless false never = refl

-- ---- every event

-- where all parts hold and a mutator replies as the model does, the history is kept
pub history_kept : (b : Beginning) (s : EpochState) (i : ℕ) (v : ThreadState) (e : Event) → IsEpoch b s → slice_get s.thread_states i ≡ Some v → May b s v e → AnswersAs b s v e → HasHistory b (happen b s i v e)
history_kept b s i v event.Stays is shown may answers = record { extends = is.extends; lives = is.lives; called = is.called }
history_kept b s i v event.Obeys is shown may answers = obeys b s i v is shown may.0 may.1
history_kept b s i v event.Begins is shown may answers =
    let busy = resting b s i v is shown may in
    still b s (happen b s i v event.Begins) i v v.log v.spans Plain is shown busy refl refl refl refl (busy.turn, busy.left, busy.unasked)
history_kept b s i v event.BeginsBlock is shown may answers =
    let busy = resting b s i v is shown may.0 in
    still b s (happen b s i v event.BeginsBlock) i v v.log v.spans NeedsBlock is shown busy refl refl refl refl (busy.turn, busy.left, busy.unasked)
history_kept b s i v (event.Bumps from shape) is shown may answers =
    let busy = resting b s i v is shown may.begin in
    let w : ThreadState = making v from v.spans shape in
    still b s (happen b s i v (event.Bumps from shape)) i v v.log w.spans (Makes (front_of (span_from from v.spans)).0 shape 0) is shown busy refl refl refl refl (busy.turn, busy.left, busy.unasked)
history_kept b s i v (event.DoesAtOnce o r registers) is shown may answers =
    let busy = resting b s i v is shown may.begin in
    let after : EpochState = happen b s i v (event.DoesAtOnce o r registers) in
    done_history b s after i v registers o r is shown busy may.does answers refl refl (beside_nothing b s after o (λ n member. refl) refl (at_once_asks v o (r, registers) may.replies))
history_kept b s i v (event.FindsReference place index) is shown may answers =
    let busy = in_work b s i v Plain is shown may.reads.stage in
    still b s (happen b s i v (event.FindsReference place index)) i v v.log v.spans (AtReference place index) is shown busy refl refl refl refl (busy.turn, busy.left, busy.unasked)
history_kept b s i v (event.FindsValue place refs index) is shown may answers =
    let busy = in_work b s i v Plain is shown may.reads.stage in
    still b s (happen b s i v (event.FindsValue place refs index)) i v v.log v.spans (AtValue place refs index) is shown busy refl refl refl refl (busy.turn, busy.left, busy.unasked)
history_kept b s i v (event.FindsNone o) is shown may answers =
    let busy = in_work b s i v Plain is shown may.reads.stage in
    let after : EpochState = happen b s i v (event.FindsNone o) in
    let on = may.reads.on in
    let same : o ≡ on.now = let e : Some o ≡ Some on.now = sym may.reads.does ∙ on.is in cc in
    done_history b s after i v v.registers o reply.Range is shown busy may.reads.does answers refl refl
    (beside_nothing b s after o (λ n member. refl) refl (based_asks o (on.base, may.index) (ap base_of same ∙ on.named)))
history_kept b s i v (event.LoadsReference o dest place index) is shown may answers =
    let busy = in_work b s i v (AtReference place index) is shown may.stage in
    let p : Place = place_in (s.tables.heap (field_word place index)) in
    takes_found b s (happen b s i v (event.LoadsReference o dest place index)) i v o dest p answers.found (nat_eq p.0 0) is shown busy may.does (ap takes_reference may.loads.1) answers.replies answers.place_is
    refl refl refl refl refl
history_kept b s i v (event.TellsName o n) is shown may answers = tells b s i v o n may.place may.shape is shown may.stage may.does may.told
history_kept b s i v (event.GetsValue o place refs index) is shown may answers =
    let busy = in_work b s i v (AtValue place refs index) is shown may.stage in
    let after : EpochState = happen b s i v (event.GetsValue o place refs index) in
    done_history b s after i v v.registers o (reply.Got (s.tables.heap (value_word place refs index))) is shown busy may.does answers refl refl
    (beside_nothing b s after o (λ n member. refl) refl (ap asks_for_pause may.gets.1))
history_kept b s i v (event.PutsValue o place refs index value) is shown may answers =
    let busy = in_work b s i v (AtValue place refs index) is shown may.stage in
    let after : EpochState = happen b s i v (event.PutsValue o place refs index value) in
    done_history b s after i v v.registers o reply.Put is shown busy may.does answers refl refl (beside_nothing b s after o (λ n member. refl) refl (ap asks_for_pause may.puts.1))
history_kept b s i v (event.AddsValue o place refs index value) is shown may answers =
    let busy = in_work b s i v (AtValue place refs index) is shown may.stage in
    let after : EpochState = happen b s i v (event.AddsValue o place refs index value) in
    done_history b s after i v v.registers o (reply.Added (s.tables.heap (value_word place refs index))) is shown busy may.does answers refl refl
    (beside_nothing b s after o (λ n member. refl) refl (ap asks_for_pause may.adds.1))
history_kept b s i v (event.SeesClear place index) is shown may answers =
    let busy = in_work b s i v (AtReference place index) is shown may.stage in
    still b s (happen b s i v (event.SeesClear place index)) i v v.log v.spans (Stores place index) is shown busy refl refl refl refl (busy.turn, busy.left, busy.unasked)
history_kept b s i v (event.SeesFull place index) is shown may answers =
    let busy = in_work b s i v (AtReference place index) is shown may.stage in
    still b s (happen b s i v (event.SeesFull place index)) i v v.log v.spans (GivesUp why.LogFull) is shown busy refl refl refl refl (busy.turn, busy.left, busy.unasked, tt, (may.does, may.full))
history_kept b s i v (event.LoadsOld place index) is shown may answers =
    let busy = in_work b s i v (AtReference place index) is shown may.stage in
    still b s (happen b s i v (event.LoadsOld place index)) i v v.log v.spans (Clears (entry_with s.tables place index)) is shown busy refl refl refl refl (busy.turn, busy.left, busy.unasked)
history_kept b s i v (event.ClearsFirst e n) is shown may answers =
    let busy = in_work b s i v (Clears e) is shown may.clear.stage in
    still b s (happen b s i v (event.ClearsFirst e n)) i v (pushed v.log e) v.spans (Stores e.place.0 e.index) is shown busy refl refl refl refl (busy.turn, busy.left, busy.unasked)
history_kept b s i v (event.ClearsLate e) is shown may answers =
    let busy = in_work b s i v (Clears e) is shown may.stage in
    still b s (happen b s i v (event.ClearsLate e)) i v v.log v.spans (Stores e.place.0 e.index) is shown busy refl refl refl refl (busy.turn, busy.left, busy.unasked)
history_kept b s i v (event.StoresReference o place index value) is shown may answers =
    let busy = in_work b s i v (Stores place index) is shown may.stage in
    let after : EpochState = happen b s i v (event.StoresReference o place index value) in
    done_history b s after i v v.registers o reply.Stored is shown busy may.does answers refl refl (beside_nothing b s after o (λ n member. refl) refl (ap asks_for_pause may.stores))
history_kept b s i v (event.SwapsReference o dest place index value) is shown may answers =
    let busy = in_work b s i v (Stores place index) is shown may.stage in
    let p : Place = place_in (s.tables.heap (field_word place index)) in
    takes_found b s (happen b s i v (event.SwapsReference o dest place index value)) i v o dest p answers.found (nat_eq p.0 0) is shown busy may.does (ap takes_reference may.swaps) answers.replies answers.place_is
    refl refl refl refl refl
history_kept b s i v event.DrawsRun is shown may answers =
    let busy = in_work b s i v Plain is shown may.stage in
    works_history b s (happen b s i v event.DrawsRun) i v v.log v.spans (DrewRun (s.tables.cursors RUN_CURSOR)) is shown busy
    (record { history = refl; places = λ n. refl; blocks = (omega arith, refl); word = λ k. k }) refl refl (busy.turn, busy.left, busy.unasked)
history_kept b s i v event.MissesRun is shown may answers =
    let busy = in_work b s i v (DrewRun may.number) is shown may.stage in
    still b s (happen b s i v event.MissesRun) i v v.log v.spans NeedsBlock is shown busy refl refl refl refl (busy.turn, busy.left, busy.unasked)
history_kept b s i v (event.SeesRun number) is shown may answers =
    let busy = in_work b s i v (DrewRun number) is shown may.stage in
    still b s (happen b s i v (event.SeesRun number)) i v v.log v.spans (HasRun number) is shown busy refl refl refl refl (busy.turn, busy.left, busy.unasked)
history_kept b s i v (event.TakesRun r shape) is shown may answers =
    let busy = in_work b s i v (HasRun may.number) is shown may.stage in
    let w : ThreadState = making v Current (with_run v r).spans shape in
    still b s (happen b s i v (event.TakesRun r shape)) i v v.log w.spans (Makes (front_of (span_from Current (with_run v r).spans)).0 shape 0) is shown busy refl refl refl refl (busy.turn, busy.left, busy.unasked)
history_kept b s i v event.DrawsBlock is shown may answers =
    let busy = in_work b s i v NeedsBlock is shown may.0 in
    works_history b s (happen b s i v event.DrawsBlock) i v v.log v.spans (DrewBlock (s.tables.cursors FREE_BLOCK_CURSOR)) is shown busy
    (record { history = refl; places = λ n. refl; blocks = (omega arith, refl); word = λ k. k }) refl refl (busy.turn, busy.left, busy.unasked)
history_kept b s i v event.MissesBlock is shown may answers =
    let busy = in_work b s i v (DrewBlock may.number) is shown may.stage in
    let drawn : may.number < s.tables.cursors FREE_BLOCK_CURSOR = block_below b s is.drawn may.number (i + 1) (subst (HasDrawn b is.drawn.drawers (i + 1)) may.stage (is.drawn.hands i v shown)) in
    let none = may.none in
    still b s (happen b s i v event.MissesBlock) i v v.log v.spans (GivesUp why.NoRun) is shown busy refl refl refl refl
    (busy.turn, busy.left, busy.unasked, tt, ((may.shape, may.does), omega (arith, drawn, none)))
history_kept b s i v (event.SeesBlock number) is shown may answers =
    let busy = in_work b s i v (DrewBlock number) is shown may.stage in
    still b s (happen b s i v (event.SeesBlock number)) i v v.log v.spans (HasBlock number) is shown busy refl refl refl refl (busy.turn, busy.left, busy.unasked)
history_kept b s i v (event.TakesBlock block shape) is shown may answers =
    let busy = in_work b s i v (HasBlock may.number) is shown may.stage in
    let w : ThreadState = making v (source_for shape) (with_block v block shape).spans shape in
    still b s (happen b s i v (event.TakesBlock block shape)) i v v.log w.spans (Makes (front_of (span_from (source_for shape) (with_block v block shape).spans)).0 shape 0) is shown busy refl refl refl refl
    (busy.turn, busy.left, busy.unasked)
history_kept b s i v (event.Wipes place shape wiped) is shown may answers =
    let busy = in_work b s i v (Makes place shape wiped) is shown may.stage in
    still b s (happen b s i v (event.Wipes place shape wiped)) i v v.log v.spans (Makes place shape (wiped + 1)) is shown busy refl refl refl refl (busy.turn, busy.left, busy.unasked)
history_kept b s i v (event.MakesObject o dest place shape) is shown may answers =
    let busy = in_work b s i v (Makes place shape may.wiped) is shown may.stage in
    let after : EpochState = happen b s i v (event.MakesObject o dest place shape) in
    let st : State = (moment_of b s).state in
    done_history b s after i v (slice_set v.registers dest (record { 0 = place })) o (reply.New (next_name st.graph v.thread)) is shown busy may.does answers refl refl
    (beside_nothing b s after o (λ n member. place_kept s.tables (limits_of b).blocks s.at st (members (moment_of b s)) v.thread place n is.image.placed.image member) refl (ap asks_for_pause may.makes))
history_kept b s i v (event.Asks o r) is shown may answers =
    let busy = in_work b s i v Plain is shown may.stage in
    let after : EpochState = happen b s i v (event.Asks o r) in
    done_history b s after i v v.registers o r is shown busy may.does answers refl refl (record {
      places = λ n member. refl;
      blocks = (refl, refl);
      word = λ k. refl;
      set_by = λ k. inr (asked_asks o r may.asks);
      asks = λ k. refl;
    })
  where
    asked_asks : (o : Op) (r : Reply) → asked_by o ≡ Some r → IsTrue (asks_for_pause o)
    asked_asks op.Pause r e = refl
    asked_asks op.Collect r e = refl
    asked_asks (op.New dest shape) r e = absurd (cc)
    asked_asks (op.Load dest base index) r e = absurd (cc)
    asked_asks (op.Store base index source) r e = absurd (cc)
    asked_asks (op.Put base index value) r e = absurd (cc)
    asked_asks (op.Get base index) r e = absurd (cc)
    asked_asks (op.Swap dest base index source) r e = absurd (cc)
    asked_asks (op.Add base index value) r e = absurd (cc)
    asked_asks (op.Move dest source) r e = absurd (cc)
    asked_asks (op.Nil dest) r e = absurd (cc)
    asked_asks (op.Same left right) r e = absurd (cc)
    asked_asks op.End r e = absurd (cc)
history_kept b s i v (event.Leaves reason) is shown may answers = leaves b s i v reason is shown may

-- every event keeps the history, where replies are those of steps
pub history_is_kept : RepliesAreSteps → HistoryIsKept
history_is_kept replies b s i v e is shown may = history_kept b s i v e is shown may (replies b s i v e is shown may)
