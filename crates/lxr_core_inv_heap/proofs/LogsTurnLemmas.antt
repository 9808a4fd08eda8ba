-- How bits and logs go on where no bit is cleared: objects keep their places and shapes, and each log its entries.
use Rattle.std.proofs.Common.{◌≡◌, ℕ, ◌<◌, ◌≤◌, sym, ap, subst, ◌∙◌, inl, inr, ◌⊎◌, List, length, map, get_or}
use Rattle.std.specs.Prelude.{Option, Some, None, IsTrue, slice_get, slice_set, ◌↔◌}
use Rattle.std.specs.List.Sorted.{IsPermutation}
use Rattle.std.proofs.lemmas.Bool.Decides.{eqb_tells}
use Rattle.lxr_layout.specs.declared.LogEntry.{LogEntry}
use Rattle.lxr_layout.specs.declared.Name.{Name}
use Rattle.lxr_graph.specs.Names.{has}
use Rattle.lxr_graph.specs.State.{State, object_at, refs_of}
use Rattle.lxr_image.specs.Tables.{Tables}
use Rattle.lxr_image.specs.Reads.{granule_of}
use Rattle.lxr_image.specs.Image.{place_word}
use Rattle.lxr_model.specs.Moments.{Field, Moment}
use Rattle.lxr_model_counting.specs.Distinct.{AreDistinctFields, has_field}
use Rattle.lxr_model_counting.specs.Following.{FollowsPause}
use Rattle.lxr_invariant.specs.Standing.{AreLogged, HasBits, IsUnwritten, entry_of, word_of_field}
use Rattle.lxr_invariant.proofs.RestLemmas.{entries_alike, same_word}
use Rattle.lxr_core_invariant.specs.ThreadStates.{ThreadState, Clears, Stores, Works}
use Rattle.lxr_core_invariant.specs.EpochStates.{Beginning, EpochState, limits_of, moment_of}
use Rattle.lxr_core_invariant.specs.Logged.{AreBitsAndLogs, MayRecord, logs_of, with_cleared}
use Rattle.lxr_core_inv_heap.proofs.LogsThreadStateLemmas.{logs_stay, one_shown, put_other}
use Rattle.lxr_core_invariant.proofs.ShowingLemmas.{shown_cases}

-- ---- the same over tables, a moment, places, cleared fields and thread states

-- one of these mutators is about to store to a reference
pub record StoresTo (at : Name → ℕ) (thread_states : List ThreadState) (n : Name) (index : ℕ) : Type 0 where
  pub number : ℕ
  pub thread_state : ThreadState
  pub shows : slice_get thread_states number ≡ Some thread_state
  pub stage : thread_state.stage ≡ Works (Stores (at n) index)

-- what each mutator's thread state has to say
pub record ThreadStatesTell (m : Moment) (at : Name → ℕ) (cleared : List Field) (thread_states : List ThreadState) (room : ℕ) : Type 0 where
  pub loaded : (i : ℕ) (v : ThreadState) (e : LogEntry) → slice_get thread_states i ≡ Some v → v.stage ≡ Works (Clears e) → MayRecord m at cleared v e
  pub stores : (i : ℕ) (v : ThreadState) (place index : ℕ) (n : Name) → slice_get thread_states i ≡ Some v → v.stage ≡ Works (Stores place index)
      → IsTrue (has m.unreclaimed n) → place ≡ at n → IsTrue (has_field cleared (n, index))
  pub rooms : (i : ℕ) (v : ThreadState) → slice_get thread_states i ≡ Some v → (v.log.room ≡ room) × (length v.log.items ≤ v.log.room)

-- bits and logs, as an epoch keeps them
pub record HasLogs (t : Tables) (m : Moment) (at : Name → ℕ) (cleared : List Field) (thread_states : List ThreadState) (room : ℕ) : Type 0 where
  pub once : AreDistinctFields cleared
  pub fields : (n : Name) (i : ℕ) → IsTrue (has_field cleared (n, i)) → IsTrue (has m.unreclaimed n) × (i < length (refs_of (object_at m.last.graph n)))
  pub bits : HasBits t (with_cleared m cleared) at m.unreclaimed
  pub logs : AreLogged (with_cleared m cleared) at (logs_of thread_states)
  pub written : (n : Name) (i : ℕ) → IsTrue (has_field m.written (n, i)) → IsTrue (has_field cleared (n, i))
  pub cleared_are : (n : Name) (i : ℕ) → IsTrue (has_field cleared (n, i)) → IsTrue (has_field m.written (n, i)) ⊎ StoresTo at thread_states n i
  pub thread_states_tell : ThreadStatesTell m at cleared thread_states room

-- an epoch says so of its epoch state
pub logs_from : (b : Beginning) (s : EpochState) → AreBitsAndLogs b s → HasLogs s.tables (moment_of b s) s.at s.cleared s.thread_states (limits_of b).log
logs_from b s is = record {
  once = is.once;
  fields = is.fields;
  bits = is.bits;
  logs = is.logs;
  written = is.written;
  cleared_are = λ n i h. elim (is.cleared n i h) [ inl k ↦ inl k | inr k ↦ inr (record { number = k.number; thread_state = k.thread_state; shows = k.shows; stage = k.stage }) ];
  thread_states_tell = record { loaded = is.loaded; stores = is.stores; rooms = is.rooms };
}

-- what is so of an epoch state is what an epoch says
pub logs_for : (b : Beginning) (s : EpochState) → HasLogs s.tables (moment_of b s) s.at s.cleared s.thread_states (limits_of b).log → AreBitsAndLogs b s
logs_for b s is = record {
  once = is.once;
  fields = is.fields;
  bits = is.bits;
  logs = is.logs;
  written = is.written;
  cleared = λ n i h. elim (is.cleared_are n i h) [ inl k ↦ inl k | inr k ↦ inr (record { number = k.number; thread_state = k.thread_state; shows = k.shows; stage = k.stage }) ];
  loaded = is.thread_states_tell.loaded;
  stores = is.thread_states_tell.stores;
  rooms = is.thread_states_tell.rooms;
}

-- ---- what stays

-- the tables have the same bits of objects and references
pub record KeepsBits (t u : Tables) : Type 0 where
  pub starts : u.starts ≡ t.starts
  pub marks : u.marks ≡ t.marks
  pub grays : u.grays ≡ t.grays
  pub dones : u.dones ≡ t.dones
  pub unlogged : u.unlogged ≡ t.unlogged

-- the moment with another state, other names made and other fields stored to
abbrev pub turned : Moment → State → List Name → List Field → Moment
turned m st made ws = record m { state = st; made = made; written = ws }

-- unreclaimed objects keep their places and as many references as they have
pub record KeepsUnreclaimed (m : Moment) (st : State) (at to : Name → ℕ) : Type 0 where
  pub places : (n : Name) → IsTrue (has m.unreclaimed n) → to n ≡ at n
  pub refs : (n : Name) → IsTrue (has m.unreclaimed n) → length (refs_of (object_at st.graph n)) ≡ length (refs_of (object_at m.state.graph n))

-- What one mutator turns to, without clearing a bit: what is written is cleared, and what it was about to write was written.
pub record Turns (m : Moment) (at : Name → ℕ) (cleared ws : List Field) (v w : ThreadState) : Type 0 where
  pub log : w.log ≡ v.log
  pub were_cleared : (n : Name) (i : ℕ) → IsTrue (has_field ws (n, i)) → IsTrue (has_field cleared (n, i))
  pub stay_written : (n : Name) (i : ℕ) → IsTrue (has_field m.written (n, i)) → IsTrue (has_field ws (n, i))
  pub stored : (n : Name) (i : ℕ) → IsTrue (has_field cleared (n, i)) → v.stage ≡ Works (Stores (at n) i) → IsTrue (has_field ws (n, i))
  pub clears : (e : LogEntry) → w.stage ≡ Works (Clears e) → MayRecord m at cleared w e
  pub stores : (place index : ℕ) (n : Name) → w.stage ≡ Works (Stores place index) → IsTrue (has m.unreclaimed n) → place ≡ at n → IsTrue (has_field cleared (n, index))

-- ---- bits

-- the same references are not cleared
unwritten_on : (m : Moment) (st : State) (made : List Name) (at to : Name → ℕ) (cleared : List Field) (w : ℕ) → KeepsUnreclaimed m st at to
    → IsUnwritten (with_cleared m cleared) at m.unreclaimed w ↔ IsUnwritten (with_cleared (turned m st made cleared) cleared) to m.unreclaimed w
unwritten_on m st made at to cleared w keeps = (
  λ (n, i, is). (
    n,
    i,
    record {
      member = is.member;
      index = subst (λ z. i < z) (sym (keeps.refs n is.member)) is.index;
      unwritten = is.unwritten;
      word = is.word ∙ ap (λ z. word_of_field (λ x. z) n i) (sym (keeps.places n is.member));
    },
  ),
  λ (n, i, is). (
    n,
    i,
    record {
      member = is.member;
      index = subst (λ z. i < z) (keeps.refs n is.member) is.index;
      unwritten = is.unwritten;
      word = is.word ∙ ap (λ z. word_of_field (λ x. z) n i) (keeps.places n is.member);
    },
  ),
)

-- bits stay where tables keep them
bits_on : (t u : Tables) (m : Moment) (st : State) (made : List Name) (at to : Name → ℕ) (cleared : List Field) → KeepsBits t u → KeepsUnreclaimed m st at to → HasBits t (with_cleared m cleared) at m.unreclaimed
    → HasBits u (with_cleared (turned m st made cleared) cleared) to m.unreclaimed
bits_on t u m st made at to cleared same keeps is = record {
  starts = record {
    each = λ n h. ap (λ f. f (granule_of (to n))) same.starts ∙ ap (λ p. t.starts (granule_of p)) (keeps.places n h) ∙ is.starts.each n h;
    only = λ g h.
        let k = is.starts.only g (sym (ap (λ f. f g) same.starts) ∙ h) in
        (k.0, k.1, ap granule_of (keeps.places k.0 k.1) ∙ k.2);
  };
  marks = λ k h. ap (λ f. f k) same.starts ∙ is.marks k (sym (ap (λ f. f k) same.marks) ∙ h);
  grays = λ k h. ap (λ f. f k) same.starts ∙ is.grays k (sym (ap (λ f. f k) same.grays) ∙ h);
  dones = λ k h. ap (λ f. f k) same.starts ∙ is.dones k (sym (ap (λ f. f k) same.dones) ∙ h);
  unlogged = λ w.
      let on = unwritten_on m st made at to cleared w keeps in
      (λ h. on.0 ((is.unlogged w).0 (sym (ap (λ f. f w) same.unlogged) ∙ h)), λ h. ap (λ f. f w) same.unlogged ∙ (is.unlogged w).1 (on.1 h));
}

-- ---- entries

-- the entry of an unreclaimed object's field stays, since what it referred to is unreclaimed too
entry_on : (m : Moment) (st : State) (made : List Name) (ws : List Field) (at to : Name → ℕ) (n : Name) (i : ℕ) → FollowsPause m → KeepsUnreclaimed m st at to → IsTrue (has m.unreclaimed n)
    → entry_of (turned m st made ws) to (n, i) ≡ entry_of m at (n, i)
entry_on m st made ws at to n i follows keeps member =
    let rs : List (Option Name) = refs_of (object_at m.last.graph n) in
    let old = same_word at to rs i (λ q there. keeps.places q (follows.closed n q member (i, there))) in
    ap (λ z. record { place = record { 0 = z }; index = i; old = record { 0 = place_word to (get_or rs i None) } }) (keeps.places n member)
    ∙ ap (λ z. record { place = record { 0 = at n }; index = i; old = record { 0 = z } }) old

-- ---- thread states

-- a mutator may still record its entry
record_on : (m : Moment) (st : State) (made : List Name) (at to : Name → ℕ) (cleared ws : List Field) (v : ThreadState) (e : LogEntry) → FollowsPause m → KeepsUnreclaimed m st at to
    → MayRecord m at cleared v e → MayRecord (turned m st made ws) to cleared v e
record_on m st made at to cleared ws v e follows keeps may = record {
  room = may.room;
  first = λ n member place new. may.first n member (place ∙ keeps.places n member) new ∙ sym (entry_on m st made ws at to n e.index follows keeps member);
}

-- what each mutator shows stays true
thread_states_on : (m : Moment) (st : State) (made : List Name) (at to : Name → ℕ) (cleared ws : List Field) (thread_states : List ThreadState) (room i : ℕ) (v w : ThreadState) → FollowsPause m → KeepsUnreclaimed m st at to
    → Turns m at cleared ws v w → slice_get thread_states i ≡ Some v → ThreadStatesTell m at cleared thread_states room → ThreadStatesTell (turned m st made ws) to cleared (slice_set thread_states i w) room
thread_states_on m st made at to cleared ws thread_states room i v w follows keeps turns there is = record {
  loaded = λ j x e h stage. record_on m st made at to cleared ws x e follows keeps (elim (shown_cases thread_states i v w j x there h) [
    | inl q ↦ subst (λ z. MayRecord m at cleared z e) (sym q.1) (turns.clears e (ap (λ (z : ThreadState). z.stage) (sym q.1) ∙ stage))
    | inr q ↦ is.loaded j x e q.1 stage
  ]);
  stores = λ j x place index n h stage member here. elim (shown_cases thread_states i v w j x there h) [
    | inl q ↦ turns.stores place index n (ap (λ (z : ThreadState). z.stage) (sym q.1) ∙ stage) member (here ∙ keeps.places n member)
    | inr q ↦ is.stores j x place index n q.1 stage member (here ∙ keeps.places n member)
  ];
  rooms = λ j x h. elim (shown_cases thread_states i v w j x there h) [
    | inl q ↦ subst (λ z. (z.room ≡ room) × (length z.items ≤ z.room)) (sym (ap (λ (z : ThreadState). z.log) q.1 ∙ turns.log)) (is.rooms i v there)
    | inr q ↦ is.rooms j x q.1
  ];
}

-- what is cleared was stored to, or is about to be
still_stores : (m : Moment) (st : State) (at to : Name → ℕ) (cleared ws : List Field) (thread_states : List ThreadState) (i : ℕ) (v w : ThreadState) (n : Name) (k : ℕ) → KeepsUnreclaimed m st at to
    → Turns m at cleared ws v w → slice_get thread_states i ≡ Some v → IsTrue (has m.unreclaimed n) → IsTrue (has_field cleared (n, k)) → StoresTo at thread_states n k
    → IsTrue (has_field ws (n, k)) ⊎ StoresTo to (slice_set thread_states i w) n k
still_stores m st at to cleared ws thread_states i v w n k keeps turns there member h is = elim (eqb_tells is.number i) [
  | inl q ↦ inl (turns.stored n k h (ap (λ (z : ThreadState). z.stage) (sym (one_shown thread_states i is.number v is.thread_state there is.shows q.1)) ∙ is.stage))
  | inr q ↦ inr (record {
    number = is.number;
    thread_state = is.thread_state;
    shows = put_other thread_states i is.number w q.1 ∙ is.shows;
    stage = is.stage ∙ ap (λ z. Works (Stores z k)) (sym (keeps.places n member));
  })
]

-- ---- the whole

-- bits and logs stay
pub turns_keep_logs : (t u : Tables) (m : Moment) (st : State) (made : List Name) (at to : Name → ℕ) (cleared ws : List Field) (thread_states : List ThreadState) (room i : ℕ) (v w : ThreadState) → FollowsPause m → KeepsBits t u
    → KeepsUnreclaimed m st at to → Turns m at cleared ws v w → slice_get thread_states i ≡ Some v → HasLogs t m at cleared thread_states room → HasLogs u (turned m st made ws) to cleared (slice_set thread_states i w) room
turns_keep_logs t u m st made at to cleared ws thread_states room i v w follows same keeps turns there is = record {
  once = is.once;
  fields = is.fields;
  bits = bits_on t u m st made at to cleared same keeps is.bits;
  logs = subst (λ z. IsPermutation z (logs_of (slice_set thread_states i w))) (sym (entries_alike m (turned m st made ws) at to cleared (λ n k h. entry_on m st made ws at to n k follows keeps (is.fields n k h).0)))
      (subst (λ z. IsPermutation (map (entry_of m at) cleared) z) (sym (logs_stay thread_states i v w there turns.log)) is.logs);
  written = turns.were_cleared;
  cleared_are = λ n k h. elim (is.cleared_are n k h) [
    | inl q ↦ inl (turns.stay_written n k q)
    | inr q ↦ still_stores m st at to cleared ws thread_states i v w n k keeps turns there (is.fields n k h).0 h q
  ];
  thread_states_tell = thread_states_on m st made at to cleared ws thread_states room i v w follows keeps turns there is.thread_states_tell;
}
