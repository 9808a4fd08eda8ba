-- Each step on the table keeps the rule.
use Rattle.std.proofs.Common.{◌≡◌, ◌≢◌, ℕ, zero, suc, ◌+◌, ◌<◌, ⊎_elim, List, [], ◌∷◌, ◌++◌, length, get_or, set, Some, refl, sym, ap, ◌∙◌, subst, arith, append_assoc, append-nil}
use Rattle.std.proofs.lemmas.Option.{slice_get_within}
use Rattle.std.proofs.lemmas.List.{set-get_or}
use Rattle.std.specs.Prelude.{slice_get}
use lib.ListN.{get_elem?}
use mathlib.Core.Option.{some, some-injective, some-ne-none}
use Rattle.atomic_table.specs.Table.{Me, keeps, opening, Allows, Splits, Joins, Enters}
use Rattle.atomic_table.proofs.Lists.{at_set, at_snoc, set_else}
use Rattle.lxr_layout.specs.declared.Place.{Place}
use Rattle.lxr_graph.specs.declared.Op.{Op}
use Rattle.lxr_actor.specs.declared.Action.{Action}
use Rattle.lxr_actor.specs.declared.Core.{Core}
use Rattle.lxr_actor.specs.declared.Event.{Event}
use Rattle.lxr_actor.specs.declared.Event.TheVariants.{Step, Give, Out, Order}
use Rattle.lxr_actor.specs.Change.{changed}
use Rattle.lxr_actor.specs.Machine.{Machine}
use Rattle.lxr_actor.specs.Run.{core_of, acted, of_event, change, run}
use Rattle.lxr_actor.proofs.Runs.{slice_get-set_same, slice_get-set_other, one_if-same, one_if-other, times-append, run-snoc, event-is, run-lengths}
use Rattle.lxr_shared_passes.specs.declared.rule.Held.{Held}
use Rattle.lxr_shared_passes.specs.declared.rule.View.{View}
use Rattle.lxr_shared_passes.specs.Passing.{Every, IsSeen, IsAt}
use Rattle.lxr_shared_passes.specs.Rule.{count, held, view, one, entries, whole, without_first, only_first, merged, nobody, numbers, IsHeld, Knows, Runs, Follows, Advanced, TakesOffer, TakesOrder, GivesUp}
use Rattle.lxr_shared_passes.proofs.Places.{every-append, every-map, every-rest, every-first, count-cut, count-joined, entries-once, entries-known, places-set, places-snoc, places-two}

-- an event of another number stands behind what was seen
pub seen-more : (schedule : List Event) (number : ℕ) (seen : List Event) (e : Event) → of_event e ≢ number → IsSeen schedule number seen → IsSeen (schedule ++ e ∷ []) number seen
seen-more schedule number seen e ne is =
    let more = times-append number is.0 (e ∷ []) in
    let other = one_if-other (of_event e) number ne in
    (is.0 ++ e ∷ [], ap (λ l. l ++ e ∷ []) is.1 ∙ append_assoc seen is.0 (e ∷ []), omega arith)

module _ {A : Type 0} (m : Machine A) where
  abbrev M : Type 0
  M = Me (Unit {0}) (View A)

  -- an event of one actor leaves what views know of the others
  others-know : (core : Core A) (schedule : List Event) (e : Event) (words : List ℕ) (b : A)
      → run m core (schedule ++ e ∷ []) ≡ core_of words (set (run m core schedule).actors (of_event e) b)
      → (u : Core A) (hs : List (Held A)) → count (of_event e) (numbers hs) ≡ 0
      → Every (λ (h : Held A). (u ≡ core) × IsHeld m core schedule h) hs → Every (λ (h : Held A). (u ≡ core) × IsHeld m core (schedule ++ e ∷ []) h) hs
  others-know core schedule e words b is u [] none k = tt
  others-know core schedule e words b is u (h ∷ hs) none k =
      let ne : h.number ≢ of_event e = λ same. let one = one_if-same h.number (of_event e) same in omega arith in (
        (
          k.0.0,
          (
            seen-more schedule h.number h.seen e (λ same. ne (sym same)) k.0.1.0,
            ap (λ (c : Core A). slice_get c.actors h.number) is ∙ (slice_get-set_other (run m core schedule).actors (of_event e) h.number b ne ∙ k.0.1.1),
          ),
        ),
        others-know core schedule e words b is u hs (omega arith) k.1,
      )

  -- an event of the seat's one actor, which makes f of the word i
  moves : (start : Core A) (slots id : ℕ) (me : M) (core : Core A) (number : ℕ) (a : A) (seen : List Event) (e : Event) (i : ℕ) (f : ℕ → ℕ) (b : ℕ → A)
      → me.0 ≡ one core number a seen → of_event e ≡ number → ((ws : List ℕ) → change m e ws a ≡ (set ws i (f (get_or ws i 0)), b (get_or ws i 0)))
      → Allows (Runs m start) slots id me i f (λ n z. (z.1 ≡ me.1) × ((others : List Event) × (n ≡ get_or (run m core (seen ++ others)).words i 0) × Follows m core (held number a seen) others e (b n) z.0))
  moves start slots id me core number a seen e i f b mine own does s r wide at small =
      let v : View A = one core number a seen in
      let at' : get_elem? s.views id ≡ some v = at ∙ ap some mine in
      let known = r.each id v at' in
      let coreis : core ≡ start = known.0.0 in
      let others : List Event = known.0.1.0.0 in
      let whole_of : r.schedule ≡ seen ++ others = known.0.1.0.1 in
      let n : ℕ = get_or s.words i 0 in
      let c : Core A = run m start r.schedule in
      let longer : List Event = r.schedule ++ e ∷ [] in
      let there : slice_get c.actors number ≡ Some a = known.0.1.1 in
      let e0 = run-snoc m start r.schedule e ∙ event-is m c e a (ap (slice_get c.actors) own ∙ there) in
      let e1 : run m start longer ≡ core_of (set c.words i (f (get_or c.words i 0))) (set c.actors (of_event e) (b (get_or c.words i 0))) =
      e0 ∙ ap (λ (z : List ℕ × A). core_of z.0 (set c.actors (of_event e) z.1)) (does c.words) in
      let e2 : run m start longer ≡ core_of (set s.words i (f n)) (set c.actors (of_event e) (b n)) =
      subst (λ (ws : List ℕ). run m start longer ≡ core_of (set ws i (f (get_or ws i 0))) (set c.actors (of_event e) (b (get_or ws i 0)))) (sym r.words) e1 in
      let lt : number < length c.actors = slice_get_within c.actors number a there in
      let lt' : of_event e < length c.actors = subst (λ (k : ℕ). k < length c.actors) (sym own) lt in
      let state' : slice_get (run m start longer).actors (of_event e) ≡ Some (b n) =
      ap (λ (z : Core A). slice_get z.actors (of_event e)) e2 ∙ slice_get-set_same c.actors (of_event e) (b n) lt' in
      let state : slice_get (run m start longer).actors number ≡ Some (b n) =
      subst (λ (k : ℕ). slice_get (run m start longer).actors k ≡ Some (b n)) own state' in
      let longer_is : longer ≡ (seen ++ others) ++ e ∷ [] = ap (λ l. l ++ e ∷ []) whole_of in
      let w : View A = one core number (b n) ((seen ++ others) ++ e ∷ []) in
      let none : List Event = [] in (
        w,
        keeps,
        tt,
        record {
          schedule = longer;
          words = ap (λ (z : Core A). z.words) (sym e2);
          each = λ j u at_j. ⊎_elim
              (λ t. subst (Knows m start longer) t.1 ((coreis, ((none, longer_is ∙ sym (append-nil ((seen ++ others) ++ e ∷ [])), refl), state)), tt))
              (λ t. let two = places-two s.views j id u v number t.0 t.1 at' in
              let lt2 : number < length start.actors = subst (λ (k : ℕ). number < k) (run-lengths m start r.schedule).1 lt in
              let once = r.once number lt2 in
              let self_one = one_if-same number number refl in
              let zero : count number (numbers u.held) ≡ 0 = omega arith in
              others-know start r.schedule e (set s.words i (f n)) (b n) e2 u.core u.held (ap (λ (k : ℕ). count k (numbers u.held)) own ∙ zero) (r.each j u t.1))
              (at_set s.views id j w u at_j);
          once = λ x lt. let p = places-set s.views id v w x at' in let q = r.once x lt in omega arith;
        },
        (
          refl,
          (
            others,
            subst (λ (z : Core A × List Event). n ≡ get_or (run m z.0 z.1).words i 0) (λ t. (sym coreis t, whole_of t)) (ap (λ ws. get_or ws i 0) r.words),
            (
              known.0.1.0.2,
              subst (λ (z : Core A × List Event). IsAt m z.0 z.1 number a) (λ t. (sym coreis t, whole_of t)) there,
              subst (λ (z : Core A × List Event). IsAt m z.0 z.1 number (b n)) (λ t. (sym coreis t, longer_is t)) state,
              refl,
            ),
          ),
        ),
      )

  -- a step that does the actor's next action
  pub advances : (start : Core A) (slots id : ℕ) (me : M) (core : Core A) (number : ℕ) (a : A) (seen : List Event) (act : Action) (f : ℕ → ℕ)
      → me.0 ≡ one core number a seen → m.action a ≡ Some act → ((n : ℕ) → f n ≡ changed act.kind n act.operand)
      → Allows (Runs m start) slots id me act.word f (λ n z. (z.1 ≡ me.1) × Advanced m act.word me.0 n z.0)
  advances start slots id me core number a seen act f mine is same s r wide at small =
      let t = moves start slots id me core number a seen (Step number) act.word f (m.after a) mine refl
      (λ ws. ap (acted m ws a) is ∙ ap (λ (k : ℕ). (set ws act.word k, m.after a (get_or ws act.word 0))) (sym (same (get_or ws act.word 0)))) s r wide at small in
      (t.0, t.1, t.2, t.3, (t.4.0, subst (λ (v : View A). Advanced m act.word v (get_or s.words act.word 0) t.0) (sym mine) t.4.1))

  -- a load of word 0 at which the actor is offered a place
  pub gives : (start : Core A) (slots id : ℕ) (me : M) (core : Core A) (number : ℕ) (a : A) (seen : List Event) (place : Place)
      → me.0 ≡ one core number a seen → Allows (Runs m start) slots id me 0 (λ n. n) (λ n z. (z.1 ≡ me.1) × TakesOffer m place me.0 z.0)
  gives start slots id me core number a seen place mine s r wide at small =
      let t = moves start slots id me core number a seen (Give number place) 0 (λ n. n) (λ n. (m.offered a place).0) mine refl
      (λ ws. ap (λ (l : List ℕ). (l, (m.offered a place).0)) (sym (set-get_or ws 0 0))) s r wide at small in
      (t.0, t.1, t.2, t.3, (t.4.0, subst (λ (v : View A). TakesOffer m place v t.0) (sym mine) (t.4.1.0, t.4.1.2)))

  -- a load of word 0 at which the actor gives up a place
  pub spares : (start : Core A) (slots id : ℕ) (me : M) (core : Core A) (number : ℕ) (a : A) (seen : List Event)
      → me.0 ≡ one core number a seen → Allows (Runs m start) slots id me 0 (λ n. n) (λ n z. (z.1 ≡ me.1) × GivesUp m me.0 z.0)
  spares start slots id me core number a seen mine s r wide at small =
      let t = moves start slots id me core number a seen (Out number) 0 (λ n. n) (λ n. (m.spared a).0) mine refl
      (λ ws. ap (λ (l : List ℕ). (l, (m.spared a).0)) (sym (set-get_or ws 0 0))) s r wide at small in
      (t.0, t.1, t.2, t.3, (t.4.0, subst (λ (v : View A). GivesUp m v t.0) (sym mine) (t.4.1.0, t.4.1.2)))

  -- a load of word 0 at which the actor is ordered an operation
  pub orders : (start : Core A) (slots id : ℕ) (me : M) (core : Core A) (number : ℕ) (a : A) (seen : List Event) (op : Op)
      → me.0 ≡ one core number a seen → Allows (Runs m start) slots id me 0 (λ n. n) (λ n z. (z.1 ≡ me.1) × TakesOrder m op me.0 z.0)
  orders start slots id me core number a seen op mine s r wide at small =
      let t = moves start slots id me core number a seen (Order number op) 0 (λ n. n) (λ n. (m.ordered a op).0) mine refl
      (λ ws. ap (λ (l : List ℕ). (l, (m.ordered a op).0)) (sym (set-get_or ws 0 0))) s r wide at small in
      (t.0, t.1, t.2, t.3, (t.4.0, subst (λ (v : View A). TakesOrder m op v t.0) (sym mine) (t.4.1.0, t.4.1.2)))

  -- an actor goes to a seat of its own
  pub splits : (start : Core A) (id : ℕ) (v : View A) → Splits (Runs m start) id v (without_first v) (only_first v)
  splits start id v s r at =
      let P : View A → Type 0 = Knows m start r.schedule in
      let known = r.each id v at in record {
        schedule = r.schedule;
        words = r.words;
        each = λ j u e. ⊎_elim
            (λ t. ⊎_elim (λ q. subst P q.1 (every-rest _ v.held known)) (λ q. r.each j u q.1) (at_set s.views id j (without_first v) u t))
            (λ t. subst P t (every-first _ v.held known))
            (at_snoc (set s.views id (without_first v)) (only_first v) u j e);
        once = λ x lt. let p = places-snoc (set s.views id (without_first v)) (only_first v) x in let q = places-set s.views id v (without_first v) x at in let c = count-cut x v.held in let o = r.once x lt in omega arith;
      }

  -- the actors of a seat come back
  pub joins : (start : Core A) (id : ℕ) (v : View A) (other : ℕ) (w : View A) → v.core ≡ start → Joins (Runs m start) id v other w (merged v w) nobody
  joins start id v other w same s r at apart there =
      let P : View A → Type 0 = Knows m start r.schedule in
      let both : View A = merged v w in
      let there' : get_elem? s.views other ≡ some w = sym (set_else s.views id other both apart) ∙ there in
      let known : P v = r.each id v at in
      let known' : P w = r.each other w there' in record {
        schedule = r.schedule;
        words = r.words;
        each = λ j u e. ⊎_elim
            (λ t. subst P t.1 tt)
            (λ t. ⊎_elim
            (λ q. subst P q.1 (every-append _ v.held w.held known (every-map _ _ (λ h k. (same, k.1)) w.held known')))
            (λ q. r.each j u q.1)
            (at_set s.views id j both u t.1))
            (at_set (set s.views id both) other j nobody u e);
        once = λ x lt. let p = places-set (set s.views id both) other w nobody x there in let q = places-set s.views id v both x at in let c = count-joined x v.held w.held in let o = r.once x lt in omega arith;
      }

  -- a new seat holds nobody
  pub sits : (start : Core A) (slots : ℕ) → Enters (Runs m start) slots 0 (λ n w. w ≡ view start [])
  sits start slots s r wide small =
      let w : View A = view start [] in (
        w,
        record {
          schedule = r.schedule;
          words = r.words;
          each = λ j u e. ⊎_elim (λ t. r.each j u t) (λ t. subst (Knows m start r.schedule) t tt) (at_snoc s.views w u j e);
          once = λ x lt. let p = places-snoc s.views w x in let o = r.once x lt in omega arith;
        },
        refl,
      )

  known-first : (core : Core A) (h : Held A) → (slice_get core.actors h.number ≡ Some h.actor) × (h.seen ≡ []) → IsHeld m core [] h
  known-first core h k = (([], sym (append-nil h.seen ∙ k.1), refl), k.0)

  opened : (start : Core A) → Every (λ (h : Held A). (slice_get start.actors h.number ≡ Some h.actor) × (h.seen ≡ [])) (entries 0 start.actors)
      → (id : ℕ) (v : View A) → get_elem? (whole start ∷ []) id ≡ some v → Knows m start [] v
  opened start known zero v e = subst (Knows m start []) (some-injective (whole start) v e) (every-map _ _ (λ h k. (refl, known-first start h k)) (entries 0 start.actors) known)
  opened start known (suc id) v e = absurd (some-ne-none v (sym e))

  -- the rule holds at opening
  pub opens : (start : Core A) → Runs m start (opening start.words [] (whole start))
  opens start =
      let known = entries-known start.actors 0 start.actors (λ k. let z : k ≡ 0 + k = omega arith in ap (slice_get start.actors) z) in record {
        schedule = [];
        words = refl;
        each = opened start known;
        once = λ x lt. let o = entries-once x 0 start.actors (omega arith) (omega arith) in omega arith;
      }
