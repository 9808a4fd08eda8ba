-- The text of the replies of all threads, thread by thread.
use Rattle.std.proofs.Common.{◌≡◌, ℕ, suc, ◌+◌, ◌<◌, ◌≤◌, sym, ap, subst, ◌∙◌, arith, List, [], ◌∷◌, ◌++◌, append_assoc, get_or, length, take, drop, refl}
use Rattle.std.specs.Prelude.{Option}
use Rattle.std.proofs.Math.Seq.{take-suc}
use Rattle.std.proofs.lemmas.List.{take-append-drop}
use Rattle.lxr_text_stream.specs.Streams.{Appends, AppendsFront}
use Rattle.lxr_text_stream.proofs.StreamLemmas.{Appends-append, AppendsFront-after, AppendsFront-before}
use Rattle.lxr_mutator.specs.Mutating.{Mutating}
use Rattle.lxr_core.specs.declared.actors.AnyActor.{AnyActor}
use Rattle.lxr_core.specs.Actors.{mutators_in}
use Rattle.lxr_core.proofs.OrderLemmas.{mutators_of_both}
use Rattle.lxr_run_loop.specs.Printing.{mutator_text, mutators_text}

-- the texts of some threads stand before those of others
pub text_of_both : (mutators others : List Mutating) → mutators_text (mutators ++ others) ≡ mutators_text mutators ++ mutators_text others
text_of_both [] others = refl
text_of_both (m ∷ mutators) others = ap (λ z. mutator_text m ++ z) (text_of_both mutators others) ∙ sym (append_assoc (mutator_text m) (mutators_text mutators) (mutators_text others))

-- the text of actors
abbrev pub text_in : List AnyActor → List ℕ
text_in actors = mutators_text (mutators_in actors)

actors_of_both : (actors others : List AnyActor) → text_in (actors ++ others) ≡ text_in actors ++ text_in others
actors_of_both actors others = ap mutators_text (mutators_of_both actors others) ∙ text_of_both (mutators_in actors) (mutators_in others)

-- the first actors with the next
one_more : (actors : List AnyActor) (n : ℕ) (a : AnyActor) → n < length actors → a ≡ get_or actors n a → take (n + 1) actors ≡ take n actors ++ a ∷ []
one_more actors n a below is =
    let next : n + 1 ≡ suc n = omega arith in
    ap (λ k. take k actors) next ∙ (take-suc actors n a below ∙ ap (λ (b : AnyActor). take n actors ++ b ∷ []) (sym is))

-- one more is printed
pub one_more_printed : (u v w : Option (List ℕ)) (actors : List AnyActor) (n : ℕ) (a : AnyActor) → n < length actors → a ≡ get_or actors n a → Appends u v (text_in (take n actors))
    → Appends v w (text_in (a ∷ [])) → Appends u w (text_in (take (n + 1) actors))
one_more_printed u v w actors n a below is before text =
    subst (λ (z : List AnyActor). Appends u w (text_in z)) (sym (one_more actors n a below is))
    (subst (Appends u w) (sym (actors_of_both (take n actors) (a ∷ []))) (Appends-append u v w (text_in (take n actors)) (text_in (a ∷ [])) before text))

-- a prefix of one more is a prefix of all
pub front_printed : (u v w : Option (List ℕ)) (actors : List AnyActor) (n : ℕ) (a : AnyActor) → n < length actors → a ≡ get_or actors n a → Appends u v (text_in (take n actors))
    → AppendsFront v w (text_in (a ∷ [])) → AppendsFront u w (text_in actors)
front_printed u v w actors n a below is before text =
    let here : AppendsFront u w (text_in (take n actors) ++ text_in (a ∷ [])) = AppendsFront-after u v w (text_in (take n actors)) (text_in (a ∷ [])) before text in
    let more : AppendsFront u w ((text_in (take n actors) ++ text_in (a ∷ [])) ++ text_in (drop (n + 1) actors)) = AppendsFront-before u w (text_in (take n actors) ++ text_in (a ∷ [])) (text_in (drop (n + 1) actors)) here in
    let all : text_in actors ≡ (text_in (take n actors) ++ text_in (a ∷ [])) ++ text_in (drop (n + 1) actors) =
    ap text_in (sym (take-append-drop (n + 1) actors))
    ∙ (actors_of_both (take (n + 1) actors) (drop (n + 1) actors)
    ∙ ap (λ z. z ++ text_in (drop (n + 1) actors)) (ap text_in (one_more actors n a below is) ∙ actors_of_both (take n actors) (a ∷ []))) in
    subst (AppendsFront u w) (sym all) more

-- a fault that came later came since the beginning
pub rose_later : (a b c : ℕ) → a ≤ b → b < c → a < c
rose_later a b c before rose = omega arith
