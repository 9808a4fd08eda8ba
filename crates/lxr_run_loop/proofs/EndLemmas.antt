-- The replies of a run's threads are those that their mutators keep, and so is their text.
use Rattle.std.proofs.Common.{◌≡◌, ℕ, suc, ◌+◌, sym, ap, ◌∙◌, arith, true, List, ◌++◌}
use Rattle.std.specs.Prelude.{Option, Some, slice_get}
use Rattle.lxr_graph.specs.History.{Item}
use Rattle.lxr_image.specs.declared.space.Space.{Space}
use Rattle.lxr_sights.specs.Sights.{Sight}
use Rattle.lxr_text_print.specs.Histories.{threads_text}
use Rattle.lxr_text_print.specs.Replies.{ArePrintable, replies_text, thread_text}
use Rattle.lxr_mutator.specs.Mutating.{Mutating}
use Rattle.lxr_core.specs.declared.actors.AnyActor.{AnyActor}
use Rattle.lxr_core.specs.Actors.{mutators_in}
use Rattle.lxr_run_history.proofs.ReplyLemmas.{printable, text_of_thread}
use Rattle.lxr_rounds_invariant.specs.LoopInvariant.{HasRunTo, Task, terms_of}
use Rattle.lxr_rounds_invariant.proofs.ActorLemmas.{none_end}
use Rattle.lxr_rounds_invariant.proofs.EndLemmas.{thread_of_run}

-- its replies can be printed
pub replies_printable : (task : Task) (space : Space) (seen : Option (List Sight)) (actors : List AnyActor) (h : List Item) → HasRunTo task space seen actors h → task.names ≡ true
    → (i : ℕ) (a : Mutating) → slice_get (mutators_in actors) i ≡ Some a → ArePrintable a.operations a.replies.items
replies_printable task space seen actors h run told i a at =
    let thread = thread_of_run task space seen actors h run told i a at in
    printable (terms_of task) (i + 1) h a.operations a.replies.items run.history.legal.0
    (none_end a (run.actors_rest.mutators.rest.each i a at).mutator.sound) thread.calls thread.replies

-- the text of one thread more
pub text_of_mutator : (task : Task) (space : Space) (seen : Option (List Sight)) (actors : List AnyActor) (h : List Item) → HasRunTo task space seen actors h → task.names ≡ true
    → (i : ℕ) (a : Mutating) → slice_get (mutators_in actors) i ≡ Some a
    → threads_text (i + 1) h ≡ threads_text i h ++ replies_text (i + 1) a.operations a.replies.items
text_of_mutator task space seen actors h run told i a at =
    let thread = thread_of_run task space seen actors h run told i a at in
    let next : i + 1 ≡ suc i = omega arith in
    ap (λ n. threads_text n h) next
    ∙ ap (λ n. threads_text i h ++ thread_text n h) (sym next)
    ∙ ap (λ z. threads_text i h ++ z) (text_of_thread (i + 1) h a.operations a.replies.items thread.calls thread.replies)
