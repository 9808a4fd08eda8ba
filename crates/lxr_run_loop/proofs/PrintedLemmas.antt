-- What a run has written: the text of its history, once the replies that the mutators keep stand behind the reports.
use Rattle.std.proofs.Common.{Bool, true, ◌≡◌, ℕ, zero, suc, ◌+◌, ◌≤◌, refl, sym, ap, subst, ◌∙◌, List, [], ◌∷◌, ◌++◌, append_assoc, length, take, arith}
use Rattle.std.specs.Prelude.{Option, Some, Ok, Err, Result, OnOk, OnErr, slice_get}
use Rattle.std.proofs.Math.Seq.{take-suc}
use Rattle.std.proofs.lemmas.List.{append-nil, take_all}
use Rattle.std.proofs.lemmas.Option.{get_or_from_slice_get, slice_get_within}
use Rattle.lxr_text_stream.specs.Streams.{Appends, AppendsFront}
use Rattle.lxr_text_stream.proofs.StreamLemmas.{Appends-append, AppendsFront-after}
use Rattle.lxr_sights.specs.Sights.{Sight}
use Rattle.lxr_graph.specs.History.{Item}
use Rattle.lxr_graph.specs.Order.{order_of}
use Rattle.lxr_graph.specs.declared.Item as kept
use Rattle.lxr_text_print.specs.Orders.{order_text}
use Rattle.lxr_text_print.specs.Replies.{replies_text}
use Rattle.lxr_core.specs.declared.actors.AnyActor.{AnyActor}
use Rattle.lxr_core.specs.declared.actors.AnyActor.TheVariants as any
use Rattle.lxr_core.specs.Actors.{mutators_in}
use Rattle.lxr_core.specs.Ordering.{AreFull}
use Rattle.lxr_core.proofs.OrderLemmas.{mutator_at}
use Rattle.lxr_mutator.specs.Mutating.{Mutating}
use Rattle.lxr_run_loop.proofs.PrintLemmas.{text_of_both}
use Rattle.lxr_image.specs.declared.space.Space.{Space}
use Rattle.lxr_image.specs.Spaces.{tables_of}
use Rattle.lxr_image.proofs.ImageLemmas.{starts_stand_whole}
use Rattle.lxr_invariant.specs.AbstractState.{members}
use Rattle.lxr_invariant.proofs.NameLemmas.{in_first}
use Rattle.lxr_text_map.specs.Map.{CanBeMapped, map_text}
use Rattle.lxr_text_print.specs.Summary.{summary_text}
use Rattle.lxr_text_print.specs.declared.summary.Sums.{Sums}
use Rattle.lxr_words.specs.declared.Command.{Command}
use Rattle.lxr_words.specs.declared.Command.TheVariants.{Judge, Large, Load, Map, Order, Run}
use Rattle.lxr_run_history.specs.Sums.{sums_of}
use Rattle.lxr_run_history.specs.Texts.{run_text, text_by, told_by, told_text}
use Rattle.lxr_rounds_history.proofs.RoomLemmas.{none_chosen}
use Rattle.lxr_text_print.specs.Histories.{history_text, reports_text, threads_text}
use Rattle.lxr_rounds_invariant.specs.LoopInvariant as rounds
use Rattle.lxr_run_history.specs.Run.{plan_of}
use Rattle.lxr_run_loop.specs.Tasks.{HasRunAndTold, RunTask, rounds_of, script_threads}
use Rattle.lxr_rounds_invariant.proofs.ActorLemmas.{as_many, found}
use Rattle.lxr_run_loop.proofs.EndLemmas.{replies_printable, text_of_mutator}
use Rattle.lxr_run_loop.specs.declared.course.Course.{Course}
use Rattle.lxr_run_loop.specs.Drawing.{IsDrawn}
use Rattle.lxr_run_loop.specs.Printed.{IsPartlyPrinted, IsPrinted}
use Rattle.lxr_run_loop.specs.Printing.{CanBePrinted, IsPrintable, mutator_text, mutators_text}
use Rattle.lxr_run_loop.specs.Progress.{IsComplete}
use Rattle.lxr_run_loop.proofs.SummingLemmas.{last_collects}

-- ---- the text of a run

-- the text of the first mutators is that of as many threads
texts_of_run : (task : rounds.Task) (space : Space) (seen : Option (List Sight)) (actors : List AnyActor) (h : List Item) → rounds.HasRunTo task space seen actors h → task.names ≡ true
    → (n : ℕ) → n ≤ length (mutators_in actors) → mutators_text (take n (mutators_in actors)) ≡ threads_text n h
texts_of_run task space seen actors h run told zero few = ap mutators_text (take_none (mutators_in actors))
  where
    take_none : {X : Type 0} (xs : List X) → take 0 xs ≡ []
    take_none [] = refl
    take_none (x ∷ xs) = refl
texts_of_run task space seen actors h run told (suc n) few =
    let (m, at) = found (mutators_in actors) n (omega arith) in
    let before = texts_of_run task space seen actors h run told n (omega arith) in
    let thread = (run.actors_rest.mutators.rest.each n m at).thread in
    let next : n + 1 ≡ suc n = omega arith in
    let one : take (suc n) (mutators_in actors) ≡ take n (mutators_in actors) ++ m ∷ [] =
    take-suc (mutators_in actors) n m (slice_get_within (mutators_in actors) n m at) ∙ ap (λ (x : Mutating). take n (mutators_in actors) ++ x ∷ []) (get_or_from_slice_get (mutators_in actors) n m m at) in
    ap mutators_text one
    ∙ text_of_both (take n (mutators_in actors)) (m ∷ [])
    ∙ ap (λ z. mutators_text (take n (mutators_in actors)) ++ z) (append-nil (mutator_text m))
    ∙ ap (λ z. z ++ replies_text m.thread m.operations m.replies.items) before
    ∙ ap (λ t. threads_text n h ++ replies_text t m.operations m.replies.items) thread
    ∙ sym (text_of_mutator task space seen actors h run told n m at)
    ∙ ap (λ t. threads_text t h) next

-- the text of a whole history is its reports, and behind them the replies that the mutators keep
text_of_run : (counts : Bool) (task : rounds.Task) (space : Space) (seen : Option (List Sight)) (actors : List AnyActor) (h : List Item) → rounds.HasRunTo task space seen actors h → task.names ≡ true
    → reports_text counts h ++ mutators_text (mutators_in actors) ≡ history_text counts (length task.script) h
text_of_run counts task space seen actors h run told =
    ap (λ z. reports_text counts h ++ z)
    (ap mutators_text (sym (take_all (length (mutators_in actors)) (mutators_in actors) (omega arith)))
    ∙ texts_of_run task space seen actors h run told (length (mutators_in actors)) (omega arith) ∙ ap (λ n. threads_text n h) (as_many task h (mutators_in actors) run.actors_rest.mutators))

-- what can be printed of an actor
printable_by : (task : rounds.Task) (space : Space) (seen : Option (List Sight)) (actors : List AnyActor) (h : List Item) → rounds.HasRunTo task space seen actors h → task.names ≡ true
    → AreFull (mutators_in actors) → (i : ℕ) (a : AnyActor) → slice_get actors i ≡ Some a → IsPrintable a
printable_by task space seen actors h run told full i (any.Mutator m) at =
    let there = mutator_at actors i m run.actors_rest.helpers.order at in
    (full i m there, replies_printable task space seen actors h run told i m there)
printable_by task space seen actors h run told full i (any.Decrementer d) at = tt
printable_by task space seen actors h run told full i (any.Tracer d) at = tt

-- the replies of a run can be printed
pub printable : (task : RunTask) (space : Space) (written : Option (List ℕ)) (seen : Option (List Sight)) (actors : List AnyActor) (course : Course) → IsComplete task space written seen actors course → CanBePrinted actors
printable task space written seen actors course (h, run, drawn, totals, noted, full) = printable_by (rounds_of task) space seen actors h run.rounds refl full

-- its last pause collected, so no block is Chosen, and its heap can be printed
pub mappable : (task : RunTask) (space : Space) (written : Option (List ℕ)) (seen : Option (List Sight)) (actors : List AnyActor) (course : Course) → IsComplete task space written seen actors course → CanBeMapped space
mappable task space written seen actors course (h, run, drawn, totals, noted, full) =
    let (g, left) = run.rounds.left in
    let holds = left.between.safepoint.holds in
    record {
      space = holds.space;
      starts = starts_stand_whole (tables_of space) space.limits.blocks g.at g.moment.state.graph g.moment.unreclaimed (members g.moment) holds.image.image holds.bits.starts (in_first g.moment.unreclaimed g.moment.made);
      none_chosen = none_chosen (script_threads task) h space g (last_collects task.renews (plan_of task.options) task.script h run.rounds.history) left.between left.stands.moment;
    }

-- ---- by its command

-- what is printed last
abbrev pub last_by : Command → List Mutating → List kept.Item → Space → Sums → List ℕ
last_by Run mutators items space sums = mutators_text mutators
last_by Map mutators items space sums = mutators_text mutators ++ map_text space
last_by Order mutators items space sums = mutators_text mutators ++ order_text items
last_by Judge mutators items space sums = []
last_by Large mutators items space sums = []
last_by (Load seed) mutators items space sums = summary_text sums

-- the text of a run is what was told of it, and this
text_by_command : (task : RunTask) (space : Space) (written : Option (List ℕ)) (seen : Option (List Sight)) (actors : List AnyActor) (h : List Item) → HasRunAndTold task space written seen actors h
    → (command : Command) → told_by command task.options.counts h ++ last_by command (mutators_in actors) (order_of h) space (sums_of (script_threads task) h) ≡ text_by command task.options.counts (script_threads task) h space
text_by_command task space written seen actors h run Run = text_of_run task.options.counts (rounds_of task) space seen actors h run.rounds refl
text_by_command task space written seen actors h run Map =
    sym (append_assoc (reports_text task.options.counts h) (mutators_text (mutators_in actors)) (map_text space)) ∙ ap (λ z. z ++ map_text space) (text_of_run task.options.counts (rounds_of task) space seen actors h run.rounds refl)
text_by_command task space written seen actors h run Order =
    sym (append_assoc (reports_text task.options.counts h) (mutators_text (mutators_in actors)) (order_text (order_of h))) ∙ ap (λ z. z ++ order_text (order_of h)) (text_of_run task.options.counts (rounds_of task) space seen actors h run.rounds refl)
text_by_command task space written seen actors h run Judge = refl
text_by_command task space written seen actors h run Large = refl
text_by_command task space written seen actors h run (Load seed) = refl

module _ (task : RunTask) (space : Space) (written written' : Option (List ℕ)) (seen : Option (List Sight)) (actors : List AnyActor) (course : Course) (h : List Item) (run : HasRunAndTold task space written seen actors h)
    (command : Command) (is : task.options.command ≡ command) (sums : Sums) (sums_are : sums ≡ sums_of (script_threads task) h) (items : List kept.Item) (items_are : items ≡ order_of h) where
  whole_text : told_text task.options h ++ last_by command (mutators_in actors) items space sums ≡ run_text task.options (script_threads task) h space
  whole_text =
      ap (λ c. told_text task.options h ++ last_by c (mutators_in actors) items space sums) (sym is)
      ∙ ap (λ xs. told_text task.options h ++ last_by task.options.command (mutators_in actors) xs space sums) items_are
      ∙ ap (λ (x : Sums). told_text task.options h ++ last_by task.options.command (mutators_in actors) (order_of h) space x) sums_are
      ∙ text_by_command task space written seen actors h run task.options.command

  -- a run whose end was printed
  pub printed_whole : IsDrawn task h course.generator space actors → Appends written written' (last_by command (mutators_in actors) items space sums) → IsPrinted task space written' seen
  printed_whole drawn text = record {
    history = h;
    run = run.rounds.history;
    last = course.generator;
    drawn = (actors, drawn);
    text = subst (Appends task.written written') whole_text
        (Appends-append task.written written written' (told_text task.options h) (last_by command (mutators_in actors) items space sums) run.text text);
    space_left = record { left = run.rounds.left; told = run.told };
    sights = run.rounds.sights;
  }

  -- one whose end was cut off
  pub printed_front : AppendsFront written written' (last_by command (mutators_in actors) items space sums) → IsPartlyPrinted task space written' seen
  printed_front text = record {
    history = h;
    run = run.rounds.history;
    text_front = subst (AppendsFront task.written written') whole_text
        (AppendsFront-after task.written written written' (told_text task.options h) (last_by command (mutators_in actors) items space sums) run.text text);
    space_left = record { left = run.rounds.left; told = run.told };
    sights = run.rounds.sights;
  }

-- ---- results

-- what follows from a fact of an Ok
pub on_ok : {X E P Q : Type 0} → (P → Q) → (r : Result X E) → OnOk r P → OnOk r Q
on_ok f (Ok x) p = f p
on_ok f (Err e) p = tt

-- what follows from a fact of an Err
pub on_err : {X E P Q : Type 0} → (P → Q) → (r : Result X E) → OnErr r P → OnErr r Q
on_err f (Ok x) p = tt
on_err f (Err e) p = f p
