-- What stands at closing.
use Rattle.std.proofs.Common.{◌≡◌, ℕ, suc, ◌+◌, List, [], ◌∷◌, ◌++◌, map, length, get_or, All, Option, Some, refl, sym, ap, ◌∙◌, subst, arith}
use Rattle.std.specs.Prelude.{slice_get, unwrap_or}
use mathlib.Core.List.{map-append}
use Rattle.atomic_table.specs.Seated.{TableId}
use Rattle.atomic_table.specs.Table.{Me, Final, Seen}
use Rattle.lxr_actor.specs.declared.Event.{Event}
use Rattle.lxr_actor.specs.declared.Core.{Core}
use Rattle.lxr_actor.specs.Machine.{Machine}
use Rattle.lxr_actor.specs.Run.{run}
use Rattle.lxr_actor.proofs.Runs.{run-lengths}
use Rattle.lxr_shared_passes.specs.declared.rule.View.{View}
use Rattle.lxr_shared_passes.specs.Passing.{Passing, passing, dealt, Every, IsSeen, IsAt, IsEnd}
use Rattle.lxr_shared_passes.specs.Rule.{held_of, view, merged, Knows, Runs}

tail : List ℕ → List ℕ
tail [] = []
tail (x ∷ xs) = xs

pub all-middle : {X : Type 0} (P : X → Type 0) (xs : List X) (y : X) (ys : List X) → All P (xs ++ y ∷ ys) → P y
all-middle P [] y ys all = all 0 y (omega arith)
all-middle P (x ∷ xs) y ys all = all-middle P xs y ys (λ k d lt. all (suc k) d (omega arith))

module _ {A : Type 0} (id : TableId) (core : Core A) where
  abbrev numbered : ℕ → List A → List ℕ
  numbered from actors = map (λ (p : Passing A). p.number) (dealt id core from actors)

  -- one more pass is dealt
  dealt-snoc : (from : ℕ) (xs : List A) (a : A) → dealt id core from (xs ++ a ∷ []) ≡ dealt id core from xs ++ passing id core (from + length xs) a [] ∷ []
  dealt-snoc from [] a = let e : from ≡ from + 0 = omega arith in ap (λ (n : ℕ). passing id core n a [] ∷ []) e
  dealt-snoc from (x ∷ xs) a =
      let e : suc from + length xs ≡ from + suc (length xs) = omega arith in
      ap (λ ps. passing id core from x [] ∷ ps) (dealt-snoc (suc from) xs a ∙ ap (λ (n : ℕ). dealt id core (suc from) xs ++ passing id core n a [] ∷ []) e)

  pub dealt-more : (ps ps' : List (Passing A)) (p : Passing A) (taken : List A) (a : A) (id' : TableId) (core' : Core A) (n : ℕ)
      → ps' ≡ ps ++ p ∷ [] → ps ≡ dealt id core 0 taken → p ≡ passing id' core' n a [] → id' ≡ id → core' ≡ core → length taken ≡ n → ps' ≡ dealt id core 0 (taken ++ a ∷ [])
  dealt-more ps ps' p taken a id' core' n more before is same_id same_core len =
      let e : n ≡ 0 + length taken = omega arith in
      more ∙ (ap (λ l. l ++ p ∷ []) before
      ∙ (ap (λ q. dealt id core 0 taken ++ q ∷ []) (is ∙ (λ i. passing (same_id i) (same_core i) (e i) a []))
      ∙ sym (dealt-snoc 0 taken a)))

  many : (ps : List (Passing A)) (actors : List A) (from : ℕ) → map (λ (p : Passing A). p.number) ps ≡ numbered from actors → length ps ≡ length actors
  many [] [] from e = refl
  many [] (a ∷ rest) from e = let n : 0 ≡ suc (length (numbered (suc from) rest)) = ap length e in absurd (omega arith)
  many (p ∷ ps) [] from e = let n : suc (length (map (λ (p : Passing A). p.number) ps)) ≡ 0 = ap length e in absurd (omega arith)
  many (p ∷ ps) (a ∷ rest) from e = ap suc (many ps rest (suc from) (unfold tail in ap tail e))

  -- there are as many passes as actors
  pub counts-of : (ps : List (Passing A)) (actors : List A) → map (λ (p : Passing A). p.number) ps ≡ numbered 0 actors → length ps ≡ length actors
  counts-of ps actors e = many ps actors 0 e

  -- passes in order have all actors
  same-actors : (all l bs : List A) (from : ℕ) (ps : List (Passing A)) → length l ≡ length bs → ((k : ℕ) → slice_get l k ≡ slice_get all (from + k))
      → map (λ (p : Passing A). p.number) ps ≡ numbered from bs → Every (λ (p : Passing A). slice_get all p.number ≡ Some p.actor) ps → l ≡ map (λ (p : Passing A). p.actor) ps
  same-actors all [] [] from [] len same e k = refl
  same-actors all [] [] from (p ∷ ps) len same e k = let n : suc (length (map (λ (p : Passing A). p.number) ps)) ≡ 0 = ap length e in absurd (omega arith)
  same-actors all [] (a ∷ bs) from ps len same e k = absurd (omega arith)
  same-actors all (x ∷ l) [] from ps len same e k = absurd (omega arith)
  same-actors all (x ∷ l) (a ∷ bs) from [] len same e k = let n : 0 ≡ suc (length (numbered (suc from) bs)) = ap length e in absurd (omega arith)
  same-actors all (x ∷ l) (a ∷ bs) from (p ∷ ps) len same e k =
      let n : p.number ≡ from = ap (λ ns. get_or ns 0 0) e in
      let at : from + 0 ≡ p.number = omega arith in
      let is : Some x ≡ Some p.actor = same 0 ∙ (ap (slice_get all) at ∙ k.0) in
      let here : x ≡ p.actor = ap (λ (o : Option A). unwrap_or o x) is in
      ap (λ (y : A). y ∷ l) here
      ∙ ap (λ ys. p.actor ∷ ys) (same-actors all l bs (suc from) ps (omega arith) (λ j. let t : from + suc j ≡ suc from + j = omega arith in same (suc j) ∙ ap (slice_get all) t) (unfold tail in ap tail e) k.1)

-- the main seat takes one more pass in
pub gathered : {A : Type 0} (taken : List (Passing A)) (p : Passing A) (core : Core A) (a b o : Me (Unit {0}) (View A))
    → o ≡ (merged a.0 b.0, a.1) → a ≡ (view core (map held_of taken), []) → b.0.held ≡ held_of p ∷ [] → o ≡ (view core (map held_of (taken ++ p ∷ [])), [])
gathered taken p core a b o e0 e1 e2 =
    e0 ∙ (ap (λ z. (merged z.0 b.0, z.1)) e1
    ∙ (ap (λ hs. (view core (map held_of taken ++ hs), [])) e2
    ∙ ap (λ hs. (view core hs, [])) (sym (map-append held_of taken (p ∷ [])))))

-- and its actor comes behind the others
pub actors-more : {A : Type 0} (taken : List (Passing A)) (p : Passing A) (a : A) (actors actors' : List A)
    → actors' ≡ actors ++ a ∷ [] → actors ≡ map (λ (p : Passing A). p.actor) taken → a ≡ p.actor → actors' ≡ map (λ (p : Passing A). p.actor) (taken ++ p ∷ [])
actors-more taken p a actors actors' more before is =
    more ∙ (ap (λ l. l ++ a ∷ []) before
    ∙ (ap (λ b. map (λ (p : Passing _). p.actor) taken ++ b ∷ []) is
    ∙ sym (map-append (λ (p : Passing _). p.actor) taken (p ∷ []))))

module _ {A : Type 0} (m : Machine A) where
  each-known : (core start : Core A) (schedule : List Event) (ps : List (Passing A)) → Knows m start schedule (view core (map held_of ps))
      → Every (λ (p : Passing A). IsSeen schedule p.number p.seen × IsAt m start schedule p.number p.actor) ps
  each-known core start schedule [] k = tt
  each-known core start schedule (p ∷ ps) k = (k.0.1, each-known core start schedule ps k.1)

  every-0 : (schedule : List Event) (start : Core A) (ps : List (Passing A)) → Every (λ (p : Passing A). IsSeen schedule p.number p.seen × IsAt m start schedule p.number p.actor) ps → Every (λ (p : Passing A). IsSeen schedule p.number p.seen) ps
  every-0 schedule start [] k = tt
  every-0 schedule start (p ∷ ps) k = (k.0.0, every-0 schedule start ps k.1)

  every-1 : (schedule : List Event) (start : Core A) (ps : List (Passing A)) → Every (λ (p : Passing A). IsSeen schedule p.number p.seen × IsAt m start schedule p.number p.actor) ps → Every (λ (p : Passing A). IsAt m start schedule p.number p.actor) ps
  every-1 schedule start [] k = tt
  every-1 schedule start (p ∷ ps) k = (k.0.1, every-1 schedule start ps k.1)

  -- the words of the closed table are those of a schedule, and the passes have its actors
  pub ends : (start : Core A) (table : TableId) (id : ℕ) (v : View A) (ps : List (Passing A)) (words : List ℕ) (out : List A) (xs : List (Unit {0})) → v ≡ view start (map held_of ps)
      → map (λ (p : Passing A). p.number) ps ≡ map (λ (p : Passing A). p.number) (dealt table start 0 start.actors) → out ≡ map (λ (p : Passing A). p.actor) ps
      → Final (Seen (Runs m start) id v) words xs → IsEnd m start words out ps
  ends start table id v ps words out xs is order outs f =
      let r = f.1.0 in
      let c : Core A = run m start r.schedule in
      let known = each-known start start r.schedule ps (subst (Knows m start r.schedule) is (r.each id v f.1.1)) in
      let actors = same-actors table start c.actors c.actors start.actors 0 ps (run-lengths m start r.schedule).1 (λ k. let z : k ≡ 0 + k = omega arith in ap (slice_get c.actors) z) order (every-1 r.schedule start ps known) in
      (r.schedule, sym f.2 ∙ r.words, outs ∙ sym actors, every-0 r.schedule start ps known)
