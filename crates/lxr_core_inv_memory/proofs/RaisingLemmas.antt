-- No cursor falls: each step leaves it, draws of it, or sets the pause word, which is 0 or 1.
use Rattle.std.proofs.Common.{◌≡◌, ℕ, ◌+◌, ◌≤◌, ap, subst, inl, inr, ◌⊎◌, arith}
use Rattle.std.specs.Prelude.{⊤, Option, Some, None}
use Rattle.lxr_layout.specs.declared.TheConstants.{DECREMENT_CURSOR, FREE_BLOCK_CURSOR, PAUSE_WORD, REMEMBERED_CURSOR, RUN_CURSOR}
use Rattle.lxr_image.specs.Tables.{Tables, changed}
use Rattle.lxr_invariant.proofs.EntryLemmas.{changed_cases}
use Rattle.lxr_core_access.specs.declared.Access.{Access}
use Rattle.lxr_core_access.specs.Accesses.{done_to}
use Rattle.lxr_core_access.specs.Decrementers.{Decrementing, Rests, AsksCount, AsksStart, Claims, ReadsHeader, AsksTracing, ReadsReference, MakesGray, AsksLowered, Lowers, AsksCursor, AsksNumber, Draws, ReadsEntry, decrementer_access}
use Rattle.lxr_core_access.specs.Tracers.{Tracing, AsksGray, AsksObject, Marks, ReadsShape, Scans, AsksReferent, GraysReferent, AsksBlock, ReadsReuse, DrawsNumber, Enters, FindsNothing, tracer_access}
use Rattle.lxr_core_access.specs.Tracers as tracing
use Rattle.lxr_core_invariant.specs.ThreadStates.{ThreadState}
use Rattle.lxr_core_invariant.specs.EpochStates.{Beginning, EpochState, limits_of}
use Rattle.lxr_core_invariant.specs.Events.{Event}
use Rattle.lxr_core_invariant.specs.Events as event
use Rattle.lxr_core_invariant.specs.Happening.{happen}
use Rattle.lxr_core_invariant.specs.Laws.{CursorsDontFall, HaveNotFallen}

-- cursors that stay don't fall
still : (t : Tables) → HaveNotFallen t t
still t c = omega arith

-- nor do those of which one gets no lower number
raised : (f : ℕ → ℕ) (k value c : ℕ) → f k ≤ value → f c ≤ changed f k value c
raised f k value c up = elim (changed_cases f k value c) [
  | inl at ↦ let same = ap f at.0 in let now = at.1 in omega (arith, up, same, now)
  | inr other ↦ let now = other.1 in omega (arith, now)
]

-- a word that is 0 or 1 is at most 1
word_low : (word : ℕ) → (word ≡ 0) ⊎ (word ≡ 1) → word ≤ 1
word_low word (inl clear) = omega (arith, clear)
word_low word (inr set) = omega (arith, set)

-- each event of a mutator
mutators_raise : (b : Beginning) (s : EpochState) (i : ℕ) (v : ThreadState) (e : Event) → s.tables.cursors PAUSE_WORD ≤ 1 → HaveNotFallen s.tables (happen b s i v e).tables
mutators_raise b s i v event.Stays word = still s.tables
mutators_raise b s i v event.Obeys word = still s.tables
mutators_raise b s i v event.Begins word = still s.tables
mutators_raise b s i v event.BeginsBlock word = still s.tables
mutators_raise b s i v (event.Bumps from shape) word = still s.tables
mutators_raise b s i v (event.DoesAtOnce o r registers) word = still s.tables
mutators_raise b s i v (event.FindsReference place index) word = still s.tables
mutators_raise b s i v (event.FindsValue place refs index) word = still s.tables
mutators_raise b s i v (event.FindsNone o) word = still s.tables
mutators_raise b s i v (event.LoadsReference o dest place index) word = still s.tables
mutators_raise b s i v (event.TellsName o n) word = still s.tables
mutators_raise b s i v (event.GetsValue o place refs index) word = still s.tables
mutators_raise b s i v (event.PutsValue o place refs index value) word = still s.tables
mutators_raise b s i v (event.AddsValue o place refs index value) word = still s.tables
mutators_raise b s i v (event.SeesClear place index) word = still s.tables
mutators_raise b s i v (event.SeesFull place index) word = still s.tables
mutators_raise b s i v (event.LoadsOld place index) word = still s.tables
mutators_raise b s i v (event.ClearsFirst e n) word = still s.tables
mutators_raise b s i v (event.ClearsLate e) word = still s.tables
mutators_raise b s i v (event.StoresReference o place index value) word = still s.tables
mutators_raise b s i v (event.SwapsReference o dest place index value) word = still s.tables
mutators_raise b s i v event.DrawsRun word = λ c. raised s.tables.cursors RUN_CURSOR (s.tables.cursors RUN_CURSOR + 1) c (omega arith)
mutators_raise b s i v event.MissesRun word = still s.tables
mutators_raise b s i v (event.SeesRun number) word = still s.tables
mutators_raise b s i v (event.TakesRun r shape) word = still s.tables
mutators_raise b s i v event.DrawsBlock word = λ c. raised s.tables.cursors FREE_BLOCK_CURSOR (s.tables.cursors FREE_BLOCK_CURSOR + 1) c (omega arith)
mutators_raise b s i v event.MissesBlock word = still s.tables
mutators_raise b s i v (event.SeesBlock number) word = still s.tables
mutators_raise b s i v (event.TakesBlock block shape) word = still s.tables
mutators_raise b s i v (event.Wipes place shape wiped) word = still s.tables
mutators_raise b s i v (event.MakesObject o dest place shape) word = still s.tables
mutators_raise b s i v (event.Asks o r) word = λ c. raised s.tables.cursors PAUSE_WORD 1 c word
mutators_raise b s i v (event.Leaves reason) word = λ c. raised s.tables.cursors PAUSE_WORD 1 c word

-- no cursor falls by an access, where there is one
abbrev RaisesBy : Tables → Option Access → Type 0
RaisesBy t None = ⊤
RaisesBy t (Some access) = HaveNotFallen t (done_to t access)

-- each step of a decrementer
decrementer_raises : (t : Tables) (d : Decrementing) → RaisesBy t (decrementer_access d)
decrementer_raises t Rests = tt
decrementer_raises t (AsksCount place) = still t
decrementer_raises t (AsksStart place uncounted) = still t
decrementer_raises t (Claims place) = still t
decrementer_raises t (ReadsHeader place) = still t
decrementer_raises t (AsksTracing place refs) = still t
decrementer_raises t (ReadsReference place refs index traced) = still t
decrementer_raises t (MakesGray place refs index referent) = still t
decrementer_raises t (AsksLowered referent handling) = still t
decrementer_raises t (Lowers referent handling) = still t
decrementer_raises t AsksCursor = still t
decrementer_raises t (AsksNumber cursor) = still t
decrementer_raises t (Draws count) = λ c. raised t.cursors DECREMENT_CURSOR (t.cursors DECREMENT_CURSOR + 1) c (omega arith)
decrementer_raises t (ReadsEntry number) = still t

-- each step of a tracer
tracer_raises : (blocks : ℕ) (t : Tables) (d : Tracing) → RaisesBy t (tracer_access blocks d)
tracer_raises blocks t tracing.Rests = tt
tracer_raises blocks t (AsksGray place) = still t
tracer_raises blocks t (AsksObject place gray) = still t
tracer_raises blocks t (Marks place) = still t
tracer_raises blocks t (ReadsShape place) = still t
tracer_raises blocks t (Scans place refs index) = still t
tracer_raises blocks t (AsksReferent place refs index referent) = still t
tracer_raises blocks t (GraysReferent place refs index referent) = still t
tracer_raises blocks t (AsksBlock place refs index referent) = still t
tracer_raises blocks t (ReadsReuse place refs index) = still t
tracer_raises blocks t (DrawsNumber place refs index counter) = λ c. raised t.cursors REMEMBERED_CURSOR (t.cursors REMEMBERED_CURSOR + 1) c (omega arith)
tracer_raises blocks t (Enters place refs index counter number) = still t
tracer_raises blocks t FindsNothing = still t

-- no cursor falls
pub cursors_dont_fall : CursorsDontFall
cursors_dont_fall = record {
  mutators = λ b s i v e is may. mutators_raise b s i v e (word_low (s.tables.cursors PAUSE_WORD) is.fixed.word);
  decrementers = λ b s i access after may. subst (RaisesBy s.tables) may.steps.access_is (decrementer_raises s.tables may.steps.about);
  tracers = λ b s i access after may. subst (RaisesBy s.tables) may.steps.access_is (tracer_raises (limits_of b).blocks s.tables may.steps.about);
}
