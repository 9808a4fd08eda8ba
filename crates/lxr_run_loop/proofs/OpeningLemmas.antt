-- A run begins between two epochs: the space is opened, and each thread has its mutator.
use Rattle.std.proofs.Common.{⊎_elim, inr, ◌≡◌, ◌≢◌, ℕ, ◌+◌, ◌*◌, ◌/◌, ◌≤◌, refl, sym, ap, subst, ◌∙◌, arith, Bool, true, false, List, [], ◌∷◌, ◌++◌, map, length, length-append}
use Rattle.std.specs.Prelude.{Option, Some, if◌then◌else◌, nat_le, replicate, slice_get}
use Rattle.std.specs.List.{All}
use Rattle.std.proofs.lemmas.List.{append-nil, length-map, map-append}
use Rattle.std.proofs.lemmas.List.Elements.{All-head, All-tail, All-weaker}
use Rattle.std.proofs.Math.Nat.{mul-le-mul}
use Rattle.lxr_alloc.specs.declared.TheConstants.{MOST_OPERATIONS}
use Rattle.lxr_layout.specs.declared.limits.Limits.{Limits}
use Rattle.lxr_layout.specs.Spaces.{AreLimits, regions_of}
use Rattle.lxr_base.specs.Roomy.{Roomy}
use Rattle.lxr_graph.specs.declared.Op.{Op}
use Rattle.lxr_graph.specs.declared.Op.TheVariants as op
use Rattle.lxr_graph.proofs.FormLemmas.{formed_more}
use Rattle.lxr_text_script.specs.declared.TheConstants.{SCRIPT_REGISTERS}
use Rattle.lxr_text_script.specs.Limits.{IsScript, IsThread, IsWritten}
use Rattle.lxr_text_script.specs.Limits as script
use Rattle.lxr_mutator.specs.Dialogues.{most_operations}
use Rattle.lxr_mutator.specs.Mutating.{Mutating}
use Rattle.lxr_mutator.specs.Mutators.{HaveIndexes, IsFull, IsMutator, IsOperation, first}
use Rattle.lxr_mutator.proofs.RegisterLemmas.{registers_cleared}
use Rattle.lxr_core.specs.declared.actors.AnyActor.{AnyActor}
use Rattle.lxr_core.specs.declared.actors.AnyActor.TheVariants as any
use Rattle.lxr_core.specs.Actors.{in_order, mutators_in}
use Rattle.lxr_core.specs.Resting.{HelpersRest}
use Rattle.lxr_core.proofs.OrderLemmas.{mutators_of_both, mutators_of_order}
use Rattle.lxr_decrement.specs.Decrementers.{first as first_decrementer}
use Rattle.lxr_trace.specs.Tracers.{first as first_tracer}
use Rattle.lxr_model.specs.Belongs.{Script}
use Rattle.lxr_words.specs.Ranges.{AreInRange}
use Rattle.lxr_image.specs.declared.space.Space.{Space}
use Rattle.lxr_image.specs.Opened.{IsOpened}
use Rattle.lxr_model.specs.Moments.{opening_moment}
use Rattle.lxr_invariant.specs.Quiescent.{IsQuiescent}
use Rattle.lxr_invariant.specs.Listed.{IsListedWhole}
use Rattle.lxr_placing.specs.Opening.{opening_abstract_state}
use Rattle.lxr_sights.specs.Sights.{Sight}
use Rattle.lxr_words.specs.declared.Command.{Command}
use Rattle.lxr_words.specs.declared.Command.TheVariants.{Order}
use Rattle.lxr_words.specs.declared.Options.{Options}
use Rattle.lxr_run_history.specs.Left.{run_limits}
use Rattle.lxr_text_stream.specs.Streams.{Appends}
use Rattle.lxr_text_stream.proofs.StreamLemmas.{Appends-nil}
use Rattle.lxr_rounds_invariant.specs.LoopInvariant.{task_limits, threads_of}
use Rattle.lxr_rounds_invariant.proofs.OpeningLemmas.{between_opened}
use Rattle.lxr_run_loop.specs.Courses.{IsCourseOf, opening_course}
use Rattle.lxr_run_loop.specs.Orders.{IsOrderOf, opening_order}
use Rattle.lxr_run_loop.specs.Drawing.{at_opening}
use Rattle.lxr_run_loop.specs.Made.{AreMade, MutatorsAreMade}
use Rattle.lxr_rounds.specs.Helpers.{HelpersStandBehind}
use Rattle.lxr_rounds.proofs.HelperLemmas.{behind_in_order, helpers_made, pushed_at}
use Rattle.lxr_run_loop.specs.Opening.{IsOpenedRun}
use Rattle.lxr_run_loop.specs.Tasks.{RunTask, rounds_of}
use Rattle.lxr_run_loop.proofs.TextLemmas.{told_none}

-- ---- a mutator as it is made

-- the words of the tables have indexes of 32 bits
indexes : (l : Limits) → AreLimits l → HaveIndexes (regions_of l)
indexes l limits =
    let log : l.log + l.registers ≤ 65792 = omega (arith, limits.log.1, limits.registers.1) in
    let decs : l.threads * (l.log + l.registers) ≤ 255 * 65792 = mul-le-mul limits.threads.1 log in
    record {
      unlogged = omega arith;
      frees = omega arith;
      decs = omega arith;
      cursors = omega arith;
    }

-- a thread of a script has no more operations than a thread of any number may have
few_by : (n : ℕ) → n ≤ script.most_operations → (is_first : Bool) → n ≤ (if is_first then MOST_OPERATIONS else MOST_OPERATIONS / 16)
few_by n few true = omega (arith, few)
few_by n few false = omega (arith, few)

pub few_written : (t n : ℕ) → n ≤ script.most_operations → n ≤ most_operations t
few_written t n few = few_by n few (nat_le t 16)

-- it keeps what holds of each mutator
first_is : (l : Limits) (every t : ℕ) (operations : List Op) → AreLimits l → (1 ≤ t) × (t ≤ l.threads) → All (IsOperation l.registers) operations → length operations ≤ script.most_operations → (1 ≤ every) × (every ≤ 1048576)
    → IsMutator (first t operations l every)
first_is l every t operations limits thread each few range = record {
  setup = record {
    thread = (thread.0, omega (arith, limits.threads.1));
    width = (let least = limits.registers.0 in omega (arith, least), limits.registers.1);
    operations = each;
    few = omega (arith, few);
    room = omega arith;
    most = let within = few_written t (length operations) few in omega (arith, within);
    indexes = indexes l limits;
    every = range;
    before = omega arith;
  };
  registers = registers_cleared l.registers;
  spans = (omega arith, omega arith);
  few_replies = omega arith;
  replies = inr (omega arith);
  busy = λ e. absurd (cc);
  waits = λ e. absurd (cc);
  since = λ e. omega arith;
  phase = tt;
}

-- ---- the threads of a script

-- the operations of a thread do not name its end
no_end : (o : Op) → script.IsOperation o → o ≢ op.End
no_end o written e = subst IsWritten e written.written

-- the operations of a thread are such as a mutator takes, which may name as many registers as those of scripts, or more
pub all_operations : (l : Limits) (operations : List Op) → AreLimits l → IsThread operations → All (IsOperation l.registers) operations
all_operations l operations limits thread =
    All-weaker script.IsOperation (IsOperation l.registers) (λ o is. (formed_more SCRIPT_REGISTERS l.registers o limits.registers.0 is.well_formed, no_end o is)) operations thread.each

-- what holds of each thread of a script holds of one in it
thread_in : (taken rest : List (Roomy Op)) (o : Roomy Op) → All IsThread (map (λ (x : Roomy Op). x.items) (taken ++ o ∷ rest)) → IsThread o.items
thread_in [] rest o each = All-head IsThread o.items (map (λ (x : Roomy Op). x.items) rest) each
thread_in (x ∷ taken) rest o each = thread_in taken rest o (All-tail IsThread x.items (map (λ (y : Roomy Op). y.items) (taken ++ o ∷ rest)) each)

-- so it holds of the next thread of a script
pub thread_of : (threads taken rest : List (Roomy Op)) (o : Roomy Op) → threads ≡ taken ++ o ∷ rest → IsScript (map (λ (x : Roomy Op). x.items) threads) → IsThread o.items
thread_of threads taken rest o split is = thread_in taken rest o (subst (λ (z : List (Roomy Op)). All IsThread (map (λ (x : Roomy Op). x.items) z)) split is.each)

-- ---- one mutator more

-- the mutators of so many threads, and that of the next
made_more : (l : Limits) (every : ℕ) (taken : List (Roomy Op)) (o : Roomy Op) (mutators : List Mutating) (m : Mutating) → MutatorsAreMade l every (map (λ (x : Roomy Op). x.items) taken) mutators
    → m ≡ first (length mutators + 1) o.items l every → IsMutator m → MutatorsAreMade l every (map (λ (x : Roomy Op). x.items) (taken ++ o ∷ [])) (mutators ++ m ∷ [])
made_more l every taken o mutators m made is sound = record {
  script =
      map-append (λ (n : Mutating). n.operations) mutators (m ∷ [])
      ∙ ap (λ (z : List (List Op)). z ++ m.operations ∷ []) made.script
      ∙ ap (λ (z : Mutating). map (λ (x : Roomy Op). x.items) taken ++ z.operations ∷ []) is
      ∙ sym (map-append (λ (x : Roomy Op). x.items) taken (o ∷ []));
  each = λ i n at.
      ⊎_elim
      (λ (before : slice_get mutators i ≡ Some n). made.each i n before)
      (λ (last : (i ≡ length mutators) × (m ≡ n)).
      subst (λ (z : Mutating). z ≡ first (i + 1) z.operations l every) last.1
      (is ∙ ap (λ k. first (k + 1) o.items l every) (sym last.0) ∙ ap (λ (z : List Op). first (i + 1) z l every) (sym (ap (λ (z : Mutating). z.operations) is))))
      (pushed_at mutators m n i at);
  sound = λ i n at.
      ⊎_elim
      (λ (before : slice_get mutators i ≡ Some n). made.sound i n before)
      (λ (last : (i ≡ length mutators) × (m ≡ n)). subst IsMutator last.1 sound)
      (pushed_at mutators m n i at);
}

-- there are as many as threads
as_many : (l : Limits) (every : ℕ) (taken : List (Roomy Op)) (mutators : List Mutating) → MutatorsAreMade l every (map (λ (x : Roomy Op). x.items) taken) mutators → length mutators ≡ length taken
as_many l every taken mutators made =
    sym (length-map mutators (λ (m : Mutating). m.operations)) ∙ ap length made.script ∙ length-map taken (λ (x : Roomy Op). x.items)

-- before there are helpers, a further mutator stands behind the others
mutator_pushed : (actors : List AnyActor) (m : Mutating) → actors ≡ in_order (mutators_in actors) [] [] → actors ++ any.Mutator m ∷ [] ≡ in_order (mutators_in actors ++ m ∷ []) [] []
mutator_pushed actors m is =
    ap (λ (z : List AnyActor). z ++ any.Mutator m ∷ []) (is ∙ append-nil (map any.Mutator (mutators_in actors)))
    ∙ (sym (map-append any.Mutator (mutators_in actors) (m ∷ [])) ∙ sym (append-nil (map any.Mutator (mutators_in actors ++ m ∷ []))))

-- then there are no helpers
mutators_alone : (actors : List AnyActor) → actors ≡ in_order (mutators_in actors) [] [] → length actors ≡ length (mutators_in actors)
mutators_alone actors is = ap length is ∙ (ap length (append-nil (map any.Mutator (mutators_in actors))) ∙ length-map (mutators_in actors) any.Mutator)

-- the mutators of so many threads of a script, and that of the next
pub made_pushed : (l : Limits) (every : ℕ) (script taken rest : List (Roomy Op)) (o : Roomy Op) (actors actors' : List AnyActor) (m : Mutating) → script ≡ taken ++ o ∷ rest
    → IsScript (map (λ (x : Roomy Op). x.items) script) → AreLimits l → l.threads ≡ length script → (1 ≤ every) × (every ≤ 1048576)
    → AreMade l every 0 0 (map (λ (x : Roomy Op). x.items) taken) actors → m ≡ first (length actors + 1) o.items l every → actors' ≡ actors ++ any.Mutator m ∷ []
    → AreMade l every 0 0 (map (λ (x : Roomy Op). x.items) (taken ++ o ∷ [])) actors'
made_pushed l every script taken rest o actors actors' m split is limits threads range made first_one pushed =
    let thread = thread_of script taken rest o split is in
    let alone = mutators_alone actors made.helpers in
    let many = as_many l every taken (mutators_in actors) made.mutators in
    let long = ap length split ∙ length-append taken (o ∷ rest) in
    let sound = first_is l every (length actors + 1) o.items limits (omega arith, omega arith) (all_operations l o.items limits thread) thread.count range in
    let one_more = made_more l every taken o (mutators_in actors) m made.mutators (first_one ∙ ap (λ n. first (n + 1) o.items l every) alone) (subst IsMutator (sym first_one) sound) in
    let mutators : mutators_in (actors ++ any.Mutator m ∷ []) ≡ mutators_in actors ++ m ∷ [] = mutators_of_both actors (any.Mutator m ∷ []) in
    subst (AreMade l every 0 0 (map (λ (x : Roomy Op). x.items) (taken ++ o ∷ []))) (sym pushed)
    (record {
      mutators = subst (MutatorsAreMade l every (map (λ (x : Roomy Op). x.items) (taken ++ o ∷ []))) (sym mutators) one_more;
      helpers = mutator_pushed actors m made.helpers ∙ ap (λ (ms : List Mutating). in_order ms [] []) (sym mutators);
    })

-- none is made at first
pub none_made : (l : Limits) (every : ℕ) → AreMade l every 0 0 [] []
none_made l every = record { mutators = record { script = refl; each = λ i m at. absurd (cc); sound = λ i m at. absurd (cc) }; helpers = refl }

-- ---- helpers behind the mutators

-- so all actors are made
pub all_made : (l : Limits) (every w : ℕ) (script : Script) (actors actors' : List AnyActor) → AreMade l every 0 0 script actors → HelpersStandBehind l w actors actors' → AreMade l every w w script actors'
all_made l every w script actors actors' made stand =
    let mutators = mutators_in actors in
    let ordered = behind_in_order l w mutators actors actors' (made.helpers ∙ append-nil (map any.Mutator mutators)) stand in
    let same : mutators_in actors' ≡ mutators = ap mutators_in ordered ∙ mutators_of_order mutators (replicate w (first_decrementer l)) (replicate w (first_tracer l)) in
    record {
      mutators = subst (MutatorsAreMade l every script) (sym same) made.mutators;
      helpers = ordered ∙ ap (λ (ms : List Mutating). in_order ms (replicate w (first_decrementer l)) (replicate w (first_tracer l))) (sym same);
    }

-- ---- the opened run

-- the limits of a run are such as a space has
run_fits : (options : Options) (script : List (Roomy Op)) → AreInRange options → IsScript (map (λ (x : Roomy Op). x.items) script) → AreLimits (run_limits options (length script))
run_fits options script ranges is =
    let many = length-map script (λ (x : Roomy Op). x.items) in
    let least = is.least in
    let greatest = is.greatest in
    record { blocks = (ranges.blocks.0, let few = ranges.blocks.1 in omega (arith, few)); threads = (omega arith, omega arith); log = ranges.log; remember = ranges.remember; registers = (omega arith, omega arith); evacuate = omega arith }

-- nothing is noted yet
none_noted : (command : Command) → IsOrderOf (opening_order command) []
none_noted Order = refl
none_noted command = tt

-- and nothing is reported
none_told : (options : Options) (space : Space) → IsCourseOf (opening_course options) space []
none_told options space = record { are = refl; few = record { promoted = omega arith; dead = omega arith; swept = omega arith; stuck = omega arith }; order = none_noted options.command }

-- between two epochs, with the empty history, before the first draw
pub opened_run : (options : Options) (script : List (Roomy Op)) (limits : Limits) (space : Space) (actors : List AnyActor) → limits ≡ run_limits options (length script)
    → AreInRange options → IsScript (map (λ (x : Roomy Op). x.items) script) → AreMade limits options.every options.workers options.workers (map (λ (x : Roomy Op). x.items) script) actors
    → IsOpened space limits → IsQuiescent space (opening_abstract_state limits.threads) → IsListedWhole space → (written : Option (List ℕ)) (seen : Option (List Sight))
    → IsOpenedRun options (map (λ (x : Roomy Op). x.items) script) space written seen actors
opened_run options script limits space actors same ranges is made opened between listed written seen =
    let task : RunTask = record { options = options; renews = false; script = map (λ (x : Roomy Op). x.items) script; written = written; seen = seen } in
    let many : length (map (λ (x : Roomy Op). x.items) script) ≡ length script = length-map script (λ (x : Roomy Op). x.items) in
    let of_task : limits ≡ task_limits (rounds_of task) = same ∙ ap (run_limits options) (sym many) in
    let threads : limits.threads ≡ threads_of (rounds_of task) = ap (λ (l : Limits). l.threads) of_task in
    let helpers = helpers_made limits options.workers options.workers actors (subst AreLimits (sym same) (run_fits options script ranges is)) made.helpers in
    let between_epochs = between_opened (rounds_of task) space (opening_abstract_state limits.threads) actors is.least
    (record {
      moment = ap opening_moment threads;
      at = refl;
      reported = refl;
      between = between;
      listed = listed.listed;
      all_listed = listed.whole;
      limits = opened.limits ∙ of_task;
      tally = opened.tally;
      pauses = opened.pauses;
    })
    (record {
      mutators = record {
        script = made.mutators.script;
        each = λ i m at. (length m.operations, made.mutators.each i m at ∙ ap (λ (l : Limits). first (i + 1) m.operations l options.every) of_task);
        sound = made.mutators.sound;
      };
      helpers = subst (λ l. HelpersRest l actors) of_task helpers.rest;
      workers = helpers.decrementers;
      tracers = helpers.tracers;
      few = ranges.workers.1;
    }) in
    ([], opening_abstract_state limits.threads, record { epochs = between_epochs; threads = is.greatest; text = subst (Appends written written) (sym (told_none options.command options.counts)) (Appends-nil written); full = λ i m at. subst IsFull (sym (made.mutators.each i m at)) (omega arith) }, at_opening space actors (subst (IsOpened space) of_task opened) (subst (λ l. AreMade l options.every options.workers options.workers task.script actors) of_task made), none_told options space)
