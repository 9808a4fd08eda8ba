-- Each event leaves objects placed.
use Rattle.std.proofs.Common.{◌≡◌, ℕ, ◌+◌, ◌<◌, refl, sym, ap, subst, ◌∙◌, arith, Bool, true, false, List, ◌∷◌}
use Rattle.std.specs.Prelude.{Option, Some, None, slice_get, nat_eq, if◌then◌else◌}
use Rattle.lxr_layout.specs.Places.{field_word, place_in}
use Rattle.lxr_layout.specs.declared.TheConstants.{FREE_BLOCK_CURSOR, PAUSE_WORD, RUN_CURSOR}
use Rattle.lxr_layout.specs.declared.Place.{Place}
use Rattle.lxr_layout.specs.declared.Shape.{Shape}
use Rattle.lxr_base.specs.Roomy.{pushed}
use Rattle.lxr_graph.specs.declared.Op.{Op}
use Rattle.lxr_graph.specs.declared.Op.TheVariants as op
use Rattle.lxr_graph.specs.declared.Reply.{Reply}
use Rattle.lxr_graph.specs.declared.Reply.TheVariants as reply
use Rattle.lxr_image.specs.Tables.{Tables}
use Rattle.lxr_model.specs.Moments.{Moment}
use Rattle.lxr_invariant.specs.AbstractState.{members}
use Rattle.lxr_core_invariant.specs.ThreadStates.{Intent, ThreadState, held, op_now, Plain, AtReference, AtValue, Clears, Stores, DrewRun, HasRun, NeedsBlock, DrewBlock, HasBlock, Makes, GivesUp, Rests, Works, Names, Through}
use Rattle.lxr_core_invariant.specs.ThreadStates as why
use Rattle.lxr_core_invariant.specs.EpochStates.{Beginning, EpochState, limits_of, moment_of}
use Rattle.lxr_core_invariant.specs.Events.{Source, at_once, bad_at, done_with, found_reply, making, source_for, Current, value_word}
use Rattle.lxr_core_invariant.specs.Events as event
use Rattle.lxr_core_invariant.specs.Happening.{MayFindReference, MayFindValue, asked_by, at_stage, entry_with, happen, intends, loaded_with, with_block, with_cursor, with_logged, with_run}
use Rattle.lxr_core_invariant.specs.Imaged.{IsPlacedIn, IsWipedTo, Knows, KnowsReference, KnowsValue}
use Rattle.lxr_core_invariant.specs.Epoch.{IsEpoch}
use Rattle.lxr_core_invariant.specs.Laws.{PlacedIsKept}
use Rattle.lxr_core_invariant.proofs.TellingLemmas.{told_is}
use Rattle.lxr_core_invariant.proofs.ActingLemmas.{acts, base_held}
use Rattle.lxr_core_inv_heap.proofs.ImageKnowLemmas.{knows_done, knows_loaded, works_as}
use Rattle.lxr_core_inv_heap.proofs.ImageStayLemmas.{call_placed, leaves_objects, quiet_placed}
use Rattle.lxr_core_inv_heap.proofs.ImageWriteLemmas.{add_placed, put_placed, store_placed, swap_placed}
use Rattle.lxr_core_inv_heap.proofs.ImageMakeLemmas.{make_placed, wipe_placed}

-- ---- what is learned

-- a header that is read tells of the reference that a mutator works on
reference_found : (b : Beginning) (s : EpochState) (i : ℕ) (v : ThreadState) (place index : ℕ) → IsEpoch b s → slice_get s.thread_states i ≡ Some v → MayFindReference s.tables v place index
    → KnowsReference (moment_of b s) s.at (intends v (AtReference place index)) place index
reference_found b s i v place index is shown may =
    let m : Moment = moment_of b s in
    let reads = may.reads in
    let found = base_held s.tables (limits_of b).blocks s.at m v may.now place index (acts b s i v is shown) reads.does reads.on in
    let told = told_is s.tables (limits_of b).blocks s.at m.state.graph (members m) found.name reads.name found.object may.shape place is.image.placed.image found.member found.is found.stands reads.told in
    record {
      stands = record { name = found.name; object = found.object; member = found.member; is = found.is; stands = found.stands; within = subst (λ (z : Shape). index < z.refs) told.1 may.within };
      on = works_as v (intends v (AtReference place index)) place index refl refl reads.on;
    }

-- or of the data word
value_found : (b : Beginning) (s : EpochState) (i : ℕ) (v : ThreadState) (place refs index : ℕ) → IsEpoch b s → slice_get s.thread_states i ≡ Some v → MayFindValue s.tables v place refs index
    → KnowsValue (moment_of b s) s.at (intends v (AtValue place refs index)) place refs index
value_found b s i v place refs index is shown may =
    let m : Moment = moment_of b s in
    let reads = may.reads in
    let found = base_held s.tables (limits_of b).blocks s.at m v may.now place index (acts b s i v is shown) reads.does reads.on in
    let told = told_is s.tables (limits_of b).blocks s.at m.state.graph (members m) found.name reads.name found.object may.shape place is.image.placed.image found.member found.is found.stands reads.told in
    record {
      stands = record {
        name = found.name;
        object = found.object;
        member = found.member;
        is = found.is;
        stands = found.stands;
        refs_are = may.refs_are ∙ ap (λ (z : Shape). z.refs) told.1;
        within = subst (λ (z : Shape). index < z.values) told.1 may.within;
      };
      on = works_as v (intends v (AtValue place refs index)) place index refl refl reads.on;
    }

-- what a mutator knows of a reference it knows on where it works on the same one
known_as : (b : Beginning) (s : EpochState) (i : ℕ) (v w : ThreadState) (intent : Intent) (place index : ℕ) → IsEpoch b s → slice_get s.thread_states i ≡ Some v → v.stage ≡ Works intent
    → (Knows s.tables (moment_of b s) s.at v (Works intent) → KnowsReference (moment_of b s) s.at v place index) → op_now w ≡ op_now v → w.registers ≡ v.registers
    → KnowsReference (moment_of b s) s.at w place index
known_as b s i v w intent place index is shown stage known now registers =
    let knows = known (subst (Knows s.tables (moment_of b s) s.at v) stage (is.image.placed.knows i v shown)) in
    record { stands = knows.stands; on = works_as v w place index now registers knows.on }

-- nothing is wiped yet of an object that is to be made
nothing_wiped : (t : Tables) (place : ℕ) (shape : Shape) → IsWipedTo t place shape 0
nothing_wiped t place shape = record { within = omega arith; zeros = λ k h. absurd (omega (arith, h)) }

-- ---- replies of operations that change no object

-- a reply, where there is one, is of an operation that changed no object
abbrev leaves_in : Option (Reply × List Place) → Bool
leaves_in None = true
leaves_in (Some p) = leaves_objects p.0

-- `bad` is of one
bad_leaves : (v : ThreadState) (base : ℕ) → leaves_in (bad_at v base) ≡ true
bad_leaves v base = elim (nat_eq (held v base).0 0) as (λ c. leaves_in (if c then Some (reply.Bad, v.registers) else None) ≡ true) [ true ↦ refl | false ↦ refl ]

-- an operation that needs no further step changes no object
at_once_leaves : (v : ThreadState) (o : Op) → leaves_in (at_once v o) ≡ true
at_once_leaves v (op.New dest shape) = refl
at_once_leaves v (op.Load dest base index) = bad_leaves v base
at_once_leaves v (op.Store base index source) = bad_leaves v base
at_once_leaves v (op.Put base index value) = bad_leaves v base
at_once_leaves v (op.Get base index) = bad_leaves v base
at_once_leaves v (op.Swap dest base index source) = bad_leaves v base
at_once_leaves v (op.Add base index value) = bad_leaves v base
at_once_leaves v (op.Move dest source) = refl
at_once_leaves v (op.Nil dest) = refl
at_once_leaves v (op.Same left right) = refl
at_once_leaves v op.Pause = refl
at_once_leaves v op.Collect = refl
at_once_leaves v op.End = refl

-- a reply that is asked for is of an operation that changed no object
abbrev asked_in : Option Reply → Bool
asked_in None = true
asked_in (Some r) = leaves_objects r

-- one that asks for a pause changes none
asked_leaves : (o : Op) → asked_in (asked_by o) ≡ true
asked_leaves op.Pause = refl
asked_leaves op.Collect = refl
asked_leaves _ = refl

-- ---- all events

-- objects stay placed, whatever happens to one of the mutators
pub placed_is_kept : PlacedIsKept
placed_is_kept replies b s i v event.Stays is shown may = is.image.placed
placed_is_kept replies b s i v event.Obeys is shown may = quiet_placed b s i v (at_stage v (Through why.Asked)) s.tables s.cleared is shown refl tt
placed_is_kept replies b s i v event.Begins is shown may = quiet_placed b s i v (intends v Plain) s.tables s.cleared is shown refl tt
placed_is_kept replies b s i v event.BeginsBlock is shown may = quiet_placed b s i v (intends v NeedsBlock) s.tables s.cleared is shown refl tt
placed_is_kept replies b s i v (event.Bumps from shape) is shown may = quiet_placed b s i v (making v from v.spans shape) s.tables s.cleared is shown refl (nothing_wiped s.tables _ shape)
placed_is_kept replies b s i v (event.DoesAtOnce o r registers) is shown may =
    let w : ThreadState = record v { registers = registers } in
    call_placed b s i v (done_with w o r) o s.tables is shown refl
    (ap leaves_objects (replies b s i v (event.DoesAtOnce o r registers) is shown may) ∙ ap leaves_in (sym may.replies) ∙ at_once_leaves v o)
    (λ u m at. knows_done u m at (done_with w o r) w o)
placed_is_kept replies b s i v (event.FindsReference place index) is shown may =
    quiet_placed b s i v (intends v (AtReference place index)) s.tables s.cleared is shown refl (reference_found b s i v place index is shown may)
placed_is_kept replies b s i v (event.FindsValue place refs index) is shown may =
    quiet_placed b s i v (intends v (AtValue place refs index)) s.tables s.cleared is shown refl (value_found b s i v place refs index is shown may)
placed_is_kept replies b s i v (event.FindsNone o) is shown may =
    call_placed b s i v (done_with v o reply.Range) o s.tables is shown refl (ap leaves_objects (replies b s i v (event.FindsNone o) is shown may))
    (λ u m at. knows_done u m at (done_with v o reply.Range) v o)
placed_is_kept replies b s i v (event.LoadsReference o dest place index) is shown may =
    let p : Place = place_in (s.tables.heap (field_word place index)) in
    let takes = replies b s i v (event.LoadsReference o dest place index) is shown may in
    call_placed b s i v (loaded_with v o dest p) o s.tables is shown refl (ap leaves_objects takes.replies ∙ ap (λ z. leaves_objects (found_reply z takes.found)) may.loads.1) (λ u m at. knows_loaded u m at v o dest p)
placed_is_kept replies b s i v (event.TellsName o n) is shown may =
    let w : ThreadState = done_with v o (found_reply o (Some n)) in
    quiet_placed b s i v w s.tables s.cleared is shown refl (knows_done s.tables (moment_of b s) s.at w v o)
placed_is_kept replies b s i v (event.GetsValue o place refs index) is shown may =
    let w : ThreadState = done_with v o (reply.Got (s.tables.heap (value_word place refs index))) in
    call_placed b s i v w o s.tables is shown refl (ap leaves_objects (replies b s i v (event.GetsValue o place refs index) is shown may)) (λ u m at. knows_done u m at w v o)
placed_is_kept replies b s i v (event.PutsValue o place refs index value) is shown may =
    subst (λ z. IsPlacedIn b (happen b s i v (event.PutsValue z place refs index value))) (sym may.puts.1)
    (put_placed b s i v may.puts.0 place refs index value is shown may.stage (may.does ∙ ap Some may.puts.1))
placed_is_kept replies b s i v (event.AddsValue o place refs index value) is shown may =
    subst (λ z. IsPlacedIn b (happen b s i v (event.AddsValue z place refs index value))) (sym may.adds.1)
    (add_placed b s i v may.adds.0 place refs index value is shown may.stage (may.does ∙ ap Some may.adds.1))
placed_is_kept replies b s i v (event.SeesClear place index) is shown may =
    let w : ThreadState = intends v (Stores place index) in
    quiet_placed b s i v w s.tables s.cleared is shown refl (known_as b s i v w (AtReference place index) place index is shown may.stage (λ k. k) refl refl)
placed_is_kept replies b s i v (event.SeesFull place index) is shown may = quiet_placed b s i v (intends v (GivesUp why.LogFull)) s.tables s.cleared is shown refl tt
placed_is_kept replies b s i v (event.LoadsOld place index) is shown may =
    let w : ThreadState = intends v (Clears (entry_with s.tables place index)) in
    quiet_placed b s i v w s.tables s.cleared is shown refl (known_as b s i v w (AtReference place index) place index is shown may.stage (λ k. k) refl refl)
placed_is_kept replies b s i v (event.ClearsFirst e n) is shown may =
    let w : ThreadState = intends (record v { log = pushed v.log e }) (Stores e.place.0 e.index) in
    quiet_placed b s i v w (with_logged s.tables (field_word e.place.0 e.index)) ((n, e.index) ∷ s.cleared) is shown refl
    (known_as b s i v w (Clears e) e.place.0 e.index is shown may.clear.stage (λ k. k) refl refl)
placed_is_kept replies b s i v (event.ClearsLate e) is shown may =
    let w : ThreadState = intends v (Stores e.place.0 e.index) in
    quiet_placed b s i v w s.tables s.cleared is shown refl (known_as b s i v w (Clears e) e.place.0 e.index is shown may.stage (λ k. k) refl refl)
placed_is_kept replies b s i v (event.StoresReference o place index value) is shown may =
    subst (λ z. IsPlacedIn b (happen b s i v (event.StoresReference z place index value))) (sym may.stores)
    (subst (λ z. IsPlacedIn b (happen b s i v (event.StoresReference (op.Store may.base index may.source) place index z))) (sym may.value_is)
    (store_placed b s i v may.base may.source place index is shown may.stage (may.does ∙ ap Some may.stores)))
placed_is_kept replies b s i v (event.SwapsReference o dest place index value) is shown may =
    subst (λ z. IsPlacedIn b (happen b s i v (event.SwapsReference z dest place index value))) (sym may.swaps)
    (subst (λ z. IsPlacedIn b (happen b s i v (event.SwapsReference (op.Swap dest may.base index may.source) dest place index z))) (sym may.value_is)
    (swap_placed b s i v dest may.base may.source place index is shown may.stage (may.does ∙ ap Some may.swaps)))
placed_is_kept replies b s i v event.DrawsRun is shown may =
    quiet_placed b s i v (intends v (DrewRun (s.tables.cursors RUN_CURSOR))) (with_cursor s.tables RUN_CURSOR (s.tables.cursors RUN_CURSOR + 1)) s.cleared is shown refl tt
placed_is_kept replies b s i v event.MissesRun is shown may = quiet_placed b s i v (intends v NeedsBlock) s.tables s.cleared is shown refl tt
placed_is_kept replies b s i v (event.SeesRun number) is shown may = quiet_placed b s i v (intends v (HasRun number)) s.tables s.cleared is shown refl tt
placed_is_kept replies b s i v (event.TakesRun r shape) is shown may =
    quiet_placed b s i v (making v Current (with_run v r).spans shape) s.tables s.cleared is shown refl (nothing_wiped s.tables _ shape)
placed_is_kept replies b s i v event.DrawsBlock is shown may =
    quiet_placed b s i v (intends v (DrewBlock (s.tables.cursors FREE_BLOCK_CURSOR))) (with_cursor s.tables FREE_BLOCK_CURSOR (s.tables.cursors FREE_BLOCK_CURSOR + 1)) s.cleared is shown refl tt
placed_is_kept replies b s i v event.MissesBlock is shown may = quiet_placed b s i v (intends v (GivesUp why.NoRun)) s.tables s.cleared is shown refl tt
placed_is_kept replies b s i v (event.SeesBlock number) is shown may = quiet_placed b s i v (intends v (HasBlock number)) s.tables s.cleared is shown refl tt
placed_is_kept replies b s i v (event.TakesBlock block shape) is shown may =
    quiet_placed b s i v (making v (source_for shape) (with_block v block shape).spans shape) s.tables s.cleared is shown refl (nothing_wiped s.tables _ shape)
placed_is_kept replies b s i v (event.Wipes place shape wiped) is shown may = wipe_placed b s i v place shape wiped is shown may.stage may.more
placed_is_kept replies b s i v (event.MakesObject o dest place shape) is shown may =
    subst (λ z. IsPlacedIn b (happen b s i v (event.MakesObject z dest place shape))) (sym may.makes) (make_placed b s i v dest place shape may.wiped is shown may.stage may.all)
placed_is_kept replies b s i v (event.Asks o r) is shown may =
    call_placed b s i v (done_with v o r) o (with_cursor s.tables PAUSE_WORD 1) is shown refl
    (ap leaves_objects (replies b s i v (event.Asks o r) is shown may) ∙ ap asked_in (sym may.asks) ∙ asked_leaves o) (λ u m at. knows_done u m at (done_with v o r) v o)
placed_is_kept replies b s i v (event.Leaves reason) is shown may = quiet_placed b s i v (at_stage v (Through reason)) (with_cursor s.tables PAUSE_WORD 1) s.cleared is shown refl tt
