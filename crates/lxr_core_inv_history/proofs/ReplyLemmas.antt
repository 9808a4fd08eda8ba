-- At each event where an operation stands in the history, it is answered as the model does.
use Rattle.std.proofs.Common.{◌≡◌, ℕ, refl, sym, ap, subst, List}
use Rattle.std.specs.Prelude.{Some, slice_get, slice_set}
use Rattle.lxr_layout.specs.declared.Name.{Name}
use Rattle.lxr_layout.specs.declared.Place.{Place}
use Rattle.lxr_layout.specs.declared.Shape.{Shape}
use Rattle.lxr_graph.specs.declared.Op.{Op}
use Rattle.lxr_graph.specs.declared.Op.TheVariants as op
use Rattle.lxr_graph.specs.declared.Reply.{Reply}
use Rattle.lxr_graph.specs.declared.Reply.TheVariants as reply
use Rattle.lxr_graph.specs.State.{next_name}
use Rattle.lxr_image.specs.ImageLaws.{placed}
use Rattle.lxr_image.specs.Tables.{Tables}
use Rattle.lxr_model.specs.Moments.{Moment}
use Rattle.lxr_core_invariant.specs.ThreadStates.{AtReference, AtValue, Stage, Stores, ThreadState, Works}
use Rattle.lxr_core_invariant.specs.EpochStates.{Beginning, EpochState, limits_of, moment_of}
use Rattle.lxr_core_invariant.specs.Events.{Does, value_word}
use Rattle.lxr_core_invariant.specs.Events as event
use Rattle.lxr_core_invariant.specs.Happening.{MayAdd, MayAsk, MayDoAtOnce, MayFindNone, MayGet, MayLoad, MayMake, MayPut, MayStore, MaySwap, asked_by}
use Rattle.lxr_core_invariant.specs.Imaged.{Knows}
use Rattle.lxr_core_invariant.specs.Epoch.{IsEpoch}
use Rattle.lxr_core_invariant.specs.Laws.{RepliesAreSteps}
use Rattle.lxr_core_invariant.proofs.ShowingLemmas.{op_formed}
use Rattle.lxr_core_invariant.proofs.ActingLemmas.{Acts, acts}
use Rattle.lxr_core_inv_history.proofs.AnswerLemmas.{Answers, answers_still}
use Rattle.lxr_core_inv_history.proofs.AtOnceLemmas.{at_once_answers}
use Rattle.lxr_core_inv_history.proofs.ObjectLemmas.{Takes, add_answers, get_answers, load_answers, put_answers, range_answers, store_answers, swap_answers}
use Rattle.lxr_core_inv_history.proofs.MakingLemmas.{new_answers}

-- what a mutator knows where it is in its work
knows_at : (b : Beginning) (s : EpochState) (i : ℕ) (v : ThreadState) (stage : Stage) → IsEpoch b s → slice_get s.thread_states i ≡ Some v → v.stage ≡ stage → Knows s.tables (moment_of b s) s.at v stage
knows_at b s i v stage is shown at_stage = subst (Knows s.tables (moment_of b s) s.at v) at_stage (is.image.placed.knows i v shown)

-- it does an operation at once
pub done_at_once : (b : Beginning) (s : EpochState) (i : ℕ) (v : ThreadState) (o : Op) (r : Reply) (registers : List Place) → IsEpoch b s → slice_get s.thread_states i ≡ Some v → MayDoAtOnce s.tables v o r registers
    → Answers s.at (moment_of b s) v o r registers
done_at_once b s i v o r registers is shown may = at_once_answers s.tables (limits_of b).blocks s.at (moment_of b s) v o r registers (acts b s i v is shown) may.does may.replies

-- it finds neither a reference nor a data word
pub found_none : (b : Beginning) (s : EpochState) (i : ℕ) (v : ThreadState) (o : Op) → IsEpoch b s → slice_get s.thread_states i ≡ Some v → MayFindNone s.tables v o → Answers s.at (moment_of b s) v o reply.Range v.registers
found_none b s i v o is shown may = range_answers s.tables (limits_of b).blocks s.at (moment_of b s) v o (acts b s i v is shown) may

-- it loads a reference
pub loads_reference : (b : Beginning) (s : EpochState) (i : ℕ) (v : ThreadState) (o : Op) (dest place index : ℕ) → IsEpoch b s → slice_get s.thread_states i ≡ Some v → MayLoad v o dest place index
    → Takes s.tables s.at (moment_of b s) v o dest place index
loads_reference b s i v o dest place index is shown may =
    let e = may.loads.1 in
    subst (λ z. Takes s.tables s.at (moment_of b s) v z dest place index) (sym e)
    (load_answers s.tables (limits_of b).blocks s.at (moment_of b s) v dest may.loads.0 place index (acts b s i v is shown) (subst (Does v) e may.does)
    (knows_at b s i v (Works (AtReference place index)) is shown may.stage))

-- it gets a data word
pub gets_value : (b : Beginning) (s : EpochState) (i : ℕ) (v : ThreadState) (o : Op) (place refs index : ℕ) → IsEpoch b s → slice_get s.thread_states i ≡ Some v → MayGet v o place refs index
    → Answers s.at (moment_of b s) v o (reply.Got (s.tables.heap (value_word place refs index))) v.registers
gets_value b s i v o place refs index is shown may =
    let e = may.gets.1 in
    subst (λ z. Answers s.at (moment_of b s) v z (reply.Got (s.tables.heap (value_word place refs index))) v.registers) (sym e)
    (get_answers s.tables (limits_of b).blocks s.at (moment_of b s) v may.gets.0 place refs index (acts b s i v is shown) (subst (Does v) e may.does)
    (knows_at b s i v (Works (AtValue place refs index)) is shown may.stage))

-- it puts a data word
pub puts_value : (b : Beginning) (s : EpochState) (i : ℕ) (v : ThreadState) (o : Op) (place refs index value : ℕ) → IsEpoch b s → slice_get s.thread_states i ≡ Some v → MayPut v o place refs index value
    → Answers s.at (moment_of b s) v o reply.Put v.registers
puts_value b s i v o place refs index value is shown may =
    let e = may.puts.1 in
    subst (λ z. Answers s.at (moment_of b s) v z reply.Put v.registers) (sym e)
    (put_answers s.tables (limits_of b).blocks s.at (moment_of b s) v may.puts.0 place refs index value (acts b s i v is shown) (subst (Does v) e may.does)
    (knows_at b s i v (Works (AtValue place refs index)) is shown may.stage))

-- it adds to a data word
pub adds_value : (b : Beginning) (s : EpochState) (i : ℕ) (v : ThreadState) (o : Op) (place refs index value : ℕ) → IsEpoch b s → slice_get s.thread_states i ≡ Some v → MayAdd v o place refs index value
    → Answers s.at (moment_of b s) v o (reply.Added (s.tables.heap (value_word place refs index))) v.registers
adds_value b s i v o place refs index value is shown may =
    let e = may.adds.1 in
    subst (λ z. Answers s.at (moment_of b s) v z (reply.Added (s.tables.heap (value_word place refs index))) v.registers) (sym e)
    (add_answers s.tables (limits_of b).blocks s.at (moment_of b s) v may.adds.0 place refs index value (acts b s i v is shown) (subst (Does v) e may.does)
    (knows_at b s i v (Works (AtValue place refs index)) is shown may.stage))

-- it stores to a reference
pub stores_reference : (b : Beginning) (s : EpochState) (i : ℕ) (v : ThreadState) (o : Op) (place index value : ℕ) → IsEpoch b s → slice_get s.thread_states i ≡ Some v → MayStore v o place index value
    → Answers s.at (moment_of b s) v o reply.Stored v.registers
stores_reference b s i v o place index value is shown may =
    let e = may.stores in
    subst (λ z. Answers s.at (moment_of b s) v z reply.Stored v.registers) (sym e)
    (store_answers s.tables (limits_of b).blocks s.at (moment_of b s) v may.base place index may.source (acts b s i v is shown) (subst (Does v) e may.does)
    (knows_at b s i v (Works (Stores place index)) is shown may.stage))

-- it swaps a reference
pub swaps_reference : (b : Beginning) (s : EpochState) (i : ℕ) (v : ThreadState) (o : Op) (dest place index value : ℕ) → IsEpoch b s → slice_get s.thread_states i ≡ Some v → MaySwap v o dest place index value
    → Takes s.tables s.at (moment_of b s) v o dest place index
swaps_reference b s i v o dest place index value is shown may =
    let e = may.swaps in
    subst (λ z. Takes s.tables s.at (moment_of b s) v z dest place index) (sym e)
    (swap_answers s.tables (limits_of b).blocks s.at (moment_of b s) v dest may.base place index may.source (acts b s i v is shown) (subst (Does v) e may.does)
    (knows_at b s i v (Works (Stores place index)) is shown may.stage))

-- it makes an object, which is placed as the next of its thread
pub makes_object : (b : Beginning) (s : EpochState) (i : ℕ) (v : ThreadState) (o : Op) (dest place : ℕ) (shape : Shape) → IsEpoch b s → slice_get s.thread_states i ≡ Some v → MayMake v o dest place shape
    → Answers (placed s.at (next_name (moment_of b s).state.graph v.thread) place) (moment_of b s) v o (reply.New (next_name (moment_of b s).state.graph v.thread)) (slice_set v.registers dest (record { 0 = place }))
makes_object b s i v o dest place shape is shown may =
    let e = may.makes in
    let known = acts b s i v is shown in
    subst (λ z. Answers (placed s.at (next_name (moment_of b s).state.graph v.thread) place) (moment_of b s) v z (reply.New (next_name (moment_of b s).state.graph v.thread)) (slice_set v.registers dest (record { 0 = place })))
    (sym e) (new_answers s.tables (limits_of b).blocks s.at (moment_of b s) v dest place shape known (op_formed v (op.New dest shape) known.formed (subst (Does v) e may.does)).0)

-- an operation that asks for a pause changes nothing
asked_answers : (t : Tables) (blocks : ℕ) (at : Name → ℕ) (m : Moment) (v : ThreadState) (o : Op) (r : Reply) → Acts t blocks at m v → asked_by o ≡ Some r → Answers at m v o r v.registers
asked_answers t blocks at m v (op.New dest shape) r known e = absurd (cc)
asked_answers t blocks at m v (op.Load dest base i) r known e = absurd (cc)
asked_answers t blocks at m v (op.Store base i source) r known e = absurd (cc)
asked_answers t blocks at m v (op.Put base i value) r known e = absurd (cc)
asked_answers t blocks at m v (op.Get base i) r known e = absurd (cc)
asked_answers t blocks at m v (op.Swap dest base i source) r known e = absurd (cc)
asked_answers t blocks at m v (op.Add base i value) r known e = absurd (cc)
asked_answers t blocks at m v (op.Move dest source) r known e = absurd (cc)
asked_answers t blocks at m v (op.Nil dest) r known e = absurd (cc)
asked_answers t blocks at m v (op.Same left right) r known e = absurd (cc)
asked_answers t blocks at m v op.Pause r known e = let same : reply.Paused ≡ r = cc in answers_still t blocks at m v op.Pause r m.state known (ap (λ z. (m.state, z)) same) refl
asked_answers t blocks at m v op.Collect r known e = let same : reply.Collected ≡ r = cc in answers_still t blocks at m v op.Collect r m.state known (ap (λ z. (m.state, z)) same) refl
asked_answers t blocks at m v op.End r known e = absurd (cc)

-- it asks for a pause
pub asks : (b : Beginning) (s : EpochState) (i : ℕ) (v : ThreadState) (o : Op) (r : Reply) → IsEpoch b s → slice_get s.thread_states i ≡ Some v → MayAsk v o r → Answers s.at (moment_of b s) v o r v.registers
asks b s i v o r is shown may = asked_answers s.tables (limits_of b).blocks s.at (moment_of b s) v o r (acts b s i v is shown) may.asks

-- at every event replies are those of the model
pub replies_are_steps : RepliesAreSteps
replies_are_steps b s i v event.Stays is shown may = tt
replies_are_steps b s i v event.Obeys is shown may = tt
replies_are_steps b s i v event.Begins is shown may = tt
replies_are_steps b s i v event.BeginsBlock is shown may = tt
replies_are_steps b s i v (event.Bumps from shape) is shown may = tt
replies_are_steps b s i v (event.DoesAtOnce o r registers) is shown may = (done_at_once b s i v o r registers is shown may).reply
replies_are_steps b s i v (event.FindsReference place index) is shown may = tt
replies_are_steps b s i v (event.FindsValue place refs index) is shown may = tt
replies_are_steps b s i v (event.FindsNone o) is shown may = (found_none b s i v o is shown may).reply
replies_are_steps b s i v (event.LoadsReference o dest place index) is shown may =
    let takes = loads_reference b s i v o dest place index is shown may in record { found = takes.found; replies = takes.answers.reply; place_is = takes.place_is }
replies_are_steps b s i v (event.TellsName o n) is shown may = tt
replies_are_steps b s i v (event.GetsValue o place refs index) is shown may = (gets_value b s i v o place refs index is shown may).reply
replies_are_steps b s i v (event.PutsValue o place refs index value) is shown may = (puts_value b s i v o place refs index value is shown may).reply
replies_are_steps b s i v (event.AddsValue o place refs index value) is shown may = (adds_value b s i v o place refs index value is shown may).reply
replies_are_steps b s i v (event.SeesClear place index) is shown may = tt
replies_are_steps b s i v (event.SeesFull place index) is shown may = tt
replies_are_steps b s i v (event.LoadsOld place index) is shown may = tt
replies_are_steps b s i v (event.ClearsFirst e n) is shown may = tt
replies_are_steps b s i v (event.ClearsLate e) is shown may = tt
replies_are_steps b s i v (event.StoresReference o place index value) is shown may = (stores_reference b s i v o place index value is shown may).reply
replies_are_steps b s i v (event.SwapsReference o dest place index value) is shown may =
    let takes = swaps_reference b s i v o dest place index value is shown may in record { found = takes.found; replies = takes.answers.reply; place_is = takes.place_is }
replies_are_steps b s i v event.DrawsRun is shown may = tt
replies_are_steps b s i v event.MissesRun is shown may = tt
replies_are_steps b s i v (event.SeesRun number) is shown may = tt
replies_are_steps b s i v (event.TakesRun r shape) is shown may = tt
replies_are_steps b s i v event.DrawsBlock is shown may = tt
replies_are_steps b s i v event.MissesBlock is shown may = tt
replies_are_steps b s i v (event.SeesBlock number) is shown may = tt
replies_are_steps b s i v (event.TakesBlock block shape) is shown may = tt
replies_are_steps b s i v (event.Wipes place shape wiped) is shown may = tt
replies_are_steps b s i v (event.MakesObject o dest place shape) is shown may = (makes_object b s i v o dest place shape is shown may).reply
replies_are_steps b s i v (event.Asks o r) is shown may = (asks b s i v o r is shown may).reply
replies_are_steps b s i v (event.Leaves reason) is shown may = tt
