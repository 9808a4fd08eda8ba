-- The homes' rule is kept by each step, and the passes that are gathered are those of the epoch.
use Rattle.std.proofs.Common.{◌≡◌, ◌≢◌, ◌⊎◌, inl, inr, ℕ, zero, suc, ◌+◌, ◌<◌, refl, sym, ap, subst, ◌∙◌, arith, All, Option, Some, true, List, [], ◌∷◌, ◌++◌, append_assoc, length, length-append, map, set}
use Rattle.std.specs.Prelude.{Err, IfErr, IfOk, IsSome, None, Ok, Result, replicate, slice_get, slice_index, slice_set}
use Rattle.std.proofs.lemmas.List.{append-nil, get_or-set_other, length-replicate, length-set, map-append}
use Rattle.std.proofs.lemmas.List.Elements.{All-cons, All-nil}
use mathlib.Core.Logic.{dite}
use mathlib.Core.Option.{Option as Slot, none, some, some-injective}
use native.Mathlib.Decide.{ℕ_discrete}
use lib.ListN.{get_elem?}
use Rattle.atomic_table.specs.Seated.{TableId}
use Rattle.atomic_table.specs.Table.{Me, gives, keeps, opening, takes, Allows, Arrives}
use Rattle.atomic_table.proofs.Lists.{at_last, at_longer, at_set, set_else, set_here}
use Rattle.lxr_core.specs.declared.actors.AnyActor.{AnyActor}
use Rattle.lxr_shared_passes.specs.Passing.{Every, Opened, Passing, dealt}
use Rattle.lxr_core.specs.Actors.{any_machine}
use Rattle.lxr_core.specs.Closing.{AreResting}
use Rattle.lxr_core.specs.Collecting.{actor_given_up}
use Rattle.lxr_actor.specs.Run.{run}
use Rattle.lxr_actor.proofs.Runs.{run-lengths, slice_get-set_other}
use Rattle.std.proofs.lemmas.Option.{slice_get_within}
use Rattle.lxr_stations.specs.declared.live.NotClosed.{NotClosed}
use Rattle.lxr_stations.specs.declared.live.NotClosed.TheVariants as why
use Rattle.lxr_stations.specs.Gathering.{AreAll, AreGathered, HaveEndedFrom, HoldGivenUp, HoldHandedIn, IsUnclosed, IsUnwanted, actors_in}
use Rattle.lxr_stations.specs.Wanting.{AllHaveEnded, IsPauseWanted, IsUnended, SomeWants, Wants}
use Rattle.lxr_stations.specs.declared.homes.Note.{Note}
use Rattle.lxr_stations.specs.declared.homes.Note.TheVariants as note
use Rattle.lxr_stations.specs.declared.station.Arrival.{Arrival}
use Rattle.lxr_stations.specs.declared.station.Arrival.TheVariants as arrival
use Rattle.lxr_stations.specs.Arriving.{AreArrivalsOf, HasComeHome, IsHandedIn}
use Rattle.lxr_stations.specs.Homes.{AreHomes, ArePassesFrom, GoesOnFromTold, GoesOnFrom, HaveHomes, IsAtHome, IsPassAt, IsTaken, PutsBack, TakesOut, brought_in, epoch_in}
use Rattle.lxr_stations.specs.Stations.{Housed, IsStationOf, Stationed, homed_in, table_of}

-- ---- what goes on from what

-- a pass goes on from itself
pub goes_on_same : (p : Passing AnyActor) → GoesOnFrom p p
goes_on_same p = record { same = record { epoch = refl; opening = refl; number = refl }; more = []; seen = sym (append-nil p.seen) }

-- and from what one goes on from that it goes on from
pub goes_on_further : (p q r : Passing AnyActor) → GoesOnFrom p q → GoesOnFrom q r → GoesOnFrom p r
goes_on_further p q r first second = record {
  same = record { epoch = second.same.epoch ∙ first.same.epoch; opening = second.same.opening ∙ first.same.opening; number = second.same.number ∙ first.same.number };
  more = first.more ++ second.more;
  seen = second.seen ∙ ap (λ es. es ++ second.more) first.seen ∙ append_assoc p.seen first.more second.more;
}

-- ---- the rule

-- a word that reads 1 where another number was written is another word
written : (words : List ℕ) (i n k : ℕ) → k ≡ i → slice_index (set words i n) k ≡ 1 → n ≡ 1
written [] i n k here is = absurd (omega (arith, is))
written (w ∷ words) zero n zero here is = is
written (w ∷ words) zero n (suc k) here is = absurd (omega (arith, here))
written (w ∷ words) (suc i) n zero here is = absurd (omega (arith, here))
written (w ∷ words) (suc i) n (suc k) here is = written words i n k (omega (arith, here)) is

-- another word reads as it did
unwritten : (words : List ℕ) (i n k : ℕ) → k ≢ i → slice_index (set words i n) k ≡ 1 → slice_index words k ≡ 1
unwritten words i n k apart is = sym (get_or-set_other words i k n 0 apart) ∙ is

-- one seat tells something new, and all others what they told
abbrev HasTold : List Note → List Note → ℕ → Note → Type 0
HasTold views views' id told = (j : ℕ) (n : Note) → get_elem? views' j ≡ some n → ((j ≡ id) × (n ≡ told)) ⊎ ((j ≢ id) × (get_elem? views j ≡ some n))

told_by : (views : List Note) (id : ℕ) (told : Note) → HasTold views (set views id told) id told
told_by views id told j n at = elim (at_set views id j told n at) [ inl own ↦ inl (own.0, sym own.1) | inr other ↦ inr other ]

told_newly : (views : List Note) (told : Note) → HasTold views (views ++ told ∷ []) (length views) told
told_newly [] told zero n at = inl (refl, sym (some-injective told n at))
told_newly [] told (suc j) n at = absurd (cc)
told_newly (v ∷ views) told zero n at = inr ((λ same. omega (arith, same)), at)
told_newly (v ∷ views) told (suc j) n at =
    elim (told_newly views told j n at) [ inl own ↦ inl (ap suc own.0, own.1) | inr other ↦ inr ((λ same. other.0 (omega (arith, same))), other.1) ]

idle_brought : (epoch : Opened AnyActor) (p : Passing AnyActor) → ¬ (note.Brought p ≡ note.Idle epoch)
idle_brought epoch p e = cc

idle_took : (epoch : Opened AnyActor) (p : Passing AnyActor) → ¬ (note.Took p ≡ note.Idle epoch)
idle_took epoch p e = cc

brought_took : (p q : Passing AnyActor) → ¬ (note.Brought p ≡ note.Took q)
brought_took p q e = cc

took_same : (p q : Passing AnyActor) → note.Took p ≡ note.Took q → p ≡ q
took_same p q e = cc

brought_same : (p q : Passing AnyActor) → note.Brought p ≡ note.Brought q → p ≡ q
brought_same p q e = cc

-- what was told before was another's, where it isn't what is told anew
was : (views views' : List Note) (id : ℕ) (told : Note) → HasTold views views' id told → (j : ℕ) (n : Note) → ¬ (n ≡ told) → get_elem? views' j ≡ some n → (j ≢ id) × (get_elem? views j ≡ some n)
was views views' id told tells j n other at = elim (tells j n at) [ inl own ↦ absurd (other own.1) | inr before ↦ before ]

-- a home that doesn't say that its pass is there is that of one which a seat took
abbrev AreTaken : List ℕ → List Note → Type 0
AreTaken words views = (k : ℕ) → k < length words → ¬ (slice_index words k ≡ 1) → IsTaken views k

-- each seat that took a pass still tells so
abbrev StillTell : List Note → List Note → Type 0
StillTell views views' = (j : ℕ) (q : Passing AnyActor) → get_elem? views j ≡ some (note.Took q) → get_elem? views' j ≡ some (note.Took q)

-- a further seat leaves all others
still_longer : (views : List Note) (told : Note) → StillTell views (views ++ told ∷ [])
still_longer views told j q at = at_longer views (told ∷ []) j (note.Took q) at

-- where a seat that brought one home tells something new, the others tell what they told
still_set : (views : List Note) (id : ℕ) (p : Passing AnyActor) (told : Note) → get_elem? views id ≡ some (note.Brought p) → StillTell views (set views id told)
still_set views id p told brought j q at =
    set_else views id j told (λ same. brought_took p q (some-injective (note.Brought p) (note.Took q) (sym brought ∙ ap (get_elem? views) (sym same) ∙ at))) ∙ at

-- what stood somewhere was replaced
replaced : {X : Type 0} (l : List X) (i : ℕ) (a b : X) → get_elem? l i ≡ some a → get_elem? (set l i b) i ≡ some b
replaced [] i a b at = absurd (cc)
replaced (x ∷ xs) zero a b at = refl
replaced (x ∷ xs) (suc i) a b at = replaced xs i a b at

still_taken : (views views' : List Note) (k : ℕ) → StillTell views views' → IsTaken views k → IsTaken views' k
still_taken views views' k still (j, p, at, own) = (j, p, still j p at, own)

-- of another home that doesn't say so it was said that it is taken
other_taken : (words : List ℕ) (views : List Note) (i n k : ℕ) → AreTaken words views → k ≢ i → k < length (set words i n) → ¬ (slice_index (set words i n) k ≡ 1) → IsTaken views k
other_taken words views i n k are apart within away = are k (subst (λ l. k < l) (length-set words i n) within) (λ is. away (get_or-set_other words i k n 0 apart ∙ is))

-- where 0 was written and its pass was taken, its seat took it
taken_here : (words : List ℕ) (views views' : List Note) (i id : ℕ) (p : Passing AnyActor) → p.number ≡ i → get_elem? views' id ≡ some (note.Took p) → StillTell views views' → AreTaken words views → AreTaken (set words i 0) views'
taken_here words views views' i id p own told still are k within away = dite (ℕ_discrete k i)
    (λ here. (id, p, told, own ∙ sym here))
    (λ apart. still_taken views views' k still (other_taken words views i 0 k are apart within away))

-- where 0 was written and there was no pass, it was taken before
taken_before : (words : List ℕ) (views views' : List Note) (i : ℕ) → ¬ (slice_index words i ≡ 1) → StillTell views views' → AreTaken words views → AreTaken (set words i 0) views'
taken_before words views views' i none_there still are k within away = dite (ℕ_discrete k i)
    (λ here. still_taken views views' k still (are k (subst (λ l. k < l) (length-set words i 0) within) (λ is. none_there (ap (slice_index words) (sym here) ∙ is))))
    (λ apart. still_taken views views' k still (other_taken words views i 0 k are apart within away))

-- the word that was written reads so
written_one : (words : List ℕ) (i k : ℕ) → k ≡ i → k < length (set words i 1) → slice_index (set words i 1) k ≡ 1
written_one [] i k here within = absurd (omega (arith, within))
written_one (w ∷ words) zero zero here within = refl
written_one (w ∷ words) zero (suc k) here within = absurd (omega (arith, here))
written_one (w ∷ words) (suc i) zero here within = absurd (omega (arith, here))
written_one (w ∷ words) (suc i) (suc k) here within = written_one words i k (omega (arith, here)) (omega (arith, within))

-- where its pass was brought back a home says so, and the passes of the others were taken by other seats
taken_else : (words : List ℕ) (views : List Note) (i id : ℕ) (took : Passing AnyActor) (told : Note) → took.number ≡ i → get_elem? views id ≡ some (note.Took took) → AreTaken words views → AreTaken (set words i 1) (set views id told)
taken_else words views i id took told own held are k within away = dite (ℕ_discrete k i)
    (λ here. absurd (away (written_one words i k here within)))
    (λ apart. let (j, p, at, number) = other_taken words views i 1 k are apart within away in (
      j,
      p,
      set_else views id j told (λ same. apart (sym number ∙ ap (λ (x : Passing AnyActor). x.number)
          (took_same p took (some-injective (note.Took p) (note.Took took) (sym at ∙ ap (get_elem? views) same ∙ held))) ∙ own)) ∙ at,
      number,
    ))

-- of as many words of 1 each is 1
all_one : (n k : ℕ) → k < n → slice_index (replicate n 1) k ≡ 1
all_one zero k within = absurd (omega (arith, within))
all_one (suc n) zero within = refl
all_one (suc n) (suc k) within = all_one n k (omega (arith, within))

module _ (epoch : Opened AnyActor) (words : List ℕ) (homes homes' : List (Slot (Option (Passing AnyActor)))) (views views' : List Note) (i id : ℕ) (have : AreHomes epoch words homes views) where
  -- where 0 was written and nothing taken, the other homes stand
  emptied : (other : Opened AnyActor) → ¬ (slice_index words i ≡ 1) → ((j : ℕ) → j ≢ i → get_elem? homes' j ≡ get_elem? homes j) → StillTell views views' → HasTold views views' id (note.Idle other)
      → AreHomes epoch (set words i 0) homes' views'
  emptied other none_there same still tells =
      let told = was views views' id (note.Idle other) tells in record {
        at_home = λ k is. dite (ℕ_discrete k i)
            (λ here. let no = written words i 0 k here is in absurd (omega (arith, no)))
            (λ apart. let t = have.at_home k (unwritten words i 0 k apart is) in record {
              pass = t.pass;
              there = same k apart ∙ t.there;
              is = t.is;
              goes_on = λ j p at own. t.goes_on j p (told j (note.Brought p) (idle_brought other p) at).1 own;
              none_has = λ j p at own. t.none_has j p (told j (note.Took p) (idle_took other p) at).1 own;
            });
        away = taken_before words views views' i none_there still have.away;
        goes_on = λ j k p q brought took own. have.goes_on j k p q (told j (note.Brought p) (idle_brought other p) brought).1 (told k (note.Took q) (idle_took other q) took).1 own;
        alone = λ j k p q first second own. have.alone j k p q (told j (note.Took p) (idle_took other p) first).1 (told k (note.Took q) (idle_took other q) second).1 own;
      }

  -- where 0 was written and the pass was taken, its seat tells so
  taken : (h : IsAtHome epoch homes views i) → ((j : ℕ) → j ≢ i → get_elem? homes' j ≡ get_elem? homes j) → get_elem? views' id ≡ some (note.Took h.pass) → StillTell views views' → HasTold views views' id (note.Took h.pass)
      → AreHomes epoch (set words i 0) homes' views'
  taken h same at still tells =
      let own_number = h.is.number_is in
      let brought_before = λ (j : ℕ) (p : Passing AnyActor) (at : get_elem? views' j ≡ some (note.Brought p)). (was views views' id (note.Took h.pass) tells j (note.Brought p) (brought_took p h.pass) at).1 in record {
        at_home = λ k is. dite (ℕ_discrete k i)
            (λ here. let no = written words i 0 k here is in absurd (omega (arith, no)))
            (λ apart. let t = have.at_home k (unwritten words i 0 k apart is) in record {
              pass = t.pass;
              there = same k apart ∙ t.there;
              is = t.is;
              goes_on = λ j p at own. t.goes_on j p (brought_before j p at) own;
              none_has = λ j p at own. elim (tells j (note.Took p) at) [
                | inl new ↦ apart (sym own ∙ ap (λ (x : Passing AnyActor). x.number) (took_same p h.pass new.1) ∙ own_number)
                | inr before ↦ t.none_has j p before.1 own
              ];
            });
        away = taken_here words views views' i id h.pass own_number at still have.away;
        goes_on = λ j k p q brought took own. elim (tells k (note.Took q) took) [
          | inl new ↦ (let same_pass = took_same q h.pass new.1 in
              subst (GoesOnFrom p) (sym same_pass) (h.goes_on j p (brought_before j p brought) (own ∙ ap (λ (x : Passing AnyActor). x.number) same_pass ∙ own_number)))
          | inr before ↦ have.goes_on j k p q (brought_before j p brought) before.1 own
        ];
        alone = λ j k p q first second own. elim (tells j (note.Took p) first) [
          | inl new ↦ elim (tells k (note.Took q) second) [
            | inl again ↦ new.0 ∙ sym again.0
            | inr before ↦ absurd (h.none_has k q before.1 (sym own ∙ ap (λ (x : Passing AnyActor). x.number) (took_same p h.pass new.1) ∙ own_number))
          ]
          | inr earlier ↦ elim (tells k (note.Took q) second) [
            | inl again ↦ absurd (h.none_has j p earlier.1 (own ∙ ap (λ (x : Passing AnyActor). x.number) (took_same q h.pass again.1) ∙ own_number))
            | inr before ↦ have.alone j k p q earlier.1 before.1 own
          ]
        ];
      }

-- where a pass was put back that goes on from the one that was taken, it is at home with the others
filled : (epoch : Opened AnyActor) (words : List ℕ) (homes : List (Slot (Option (Passing AnyActor)))) (views : List Note) (i id : ℕ) (took p : Passing AnyActor) → i < length homes → IsPassAt epoch i p → GoesOnFrom took p
    → get_elem? views id ≡ some (note.Took took) → AreHomes epoch words homes views → AreHomes epoch (set words i 1) (set homes i (some (Some p))) (set views id (note.Brought p))
filled epoch words homes views i id took p within fits on held have =
    let tells = told_by views id (note.Brought p) in
    let number : took.number ≡ i = sym on.same.number ∙ fits.number_is in
    let took_before = λ (j : ℕ) (q : Passing AnyActor) (at : get_elem? (set views id (note.Brought p)) j ≡ some (note.Took q)). was views (set views id (note.Brought p)) id (note.Brought p) tells j (note.Took q) (λ e. brought_took p q (sym e)) at in record {
      at_home = λ k is. dite (ℕ_discrete k i)
          (λ here. record {
            pass = p;
            there = ap (get_elem? (set homes i (some (Some p)))) here ∙ set_here homes i (some (Some p)) within;
            is = subst (λ (n : ℕ). IsPassAt epoch n p) (sym here) fits;
            goes_on = λ j q at own. elim (tells j (note.Brought q) at) [
              | inl new ↦ subst (λ x. GoesOnFrom x p) (sym (brought_same q p new.1)) (goes_on_same p)
              | inr before ↦ goes_on_further q took p (have.goes_on j id q took before.1 held (own ∙ here ∙ sym number)) on
            ];
            none_has = λ j q at own. (let before = took_before j q at in before.0 (have.alone j id q took before.1 held (own ∙ here ∙ sym number)));
          })
          (λ apart. let t = have.at_home k (unwritten words i 1 k apart is) in record {
            pass = t.pass;
            there = set_else homes i k (some (Some p)) apart ∙ t.there;
            is = t.is;
            goes_on = λ j q at own. elim (tells j (note.Brought q) at) [
              | inl new ↦ absurd (apart (sym own ∙ ap (λ (x : Passing AnyActor). x.number) (brought_same q p new.1) ∙ fits.number_is))
              | inr before ↦ t.goes_on j q before.1 own
            ];
            none_has = λ j q at own. t.none_has j q (took_before j q at).1 own;
          });
      away = taken_else words views i id took (note.Brought p) number held have.away;
      goes_on = λ j k q r brought took_by own. (let before = took_before k r took_by in
          elim (tells j (note.Brought q) brought) [
            | inl new ↦ absurd (before.0 (have.alone k id r took before.1 held (sym own ∙ ap (λ (x : Passing AnyActor). x.number) (brought_same q p new.1) ∙ on.same.number)))
            | inr earlier ↦ have.goes_on j k q r earlier.1 before.1 own
          ]);
      alone = λ j k q r first second own. have.alone j k q r (took_before j q first).1 (took_before k r second).1 own;
    }

-- as they are opened, all passes are at home
all_there : (epoch : Opened AnyActor) (from : ℕ) (ps : List (Passing AnyActor)) → ArePassesFrom epoch from ps → (k : ℕ) → slice_index (replicate (length ps) 1) k ≡ 1
    → (p : Passing AnyActor) × (get_elem? (map some (map Some ps)) k ≡ some (some (Some p))) × IsPassAt epoch (from + k) p
all_there epoch from [] are k is = absurd (omega (arith, is))
all_there epoch from (p ∷ ps) are zero is = (p, refl, subst (λ (n : ℕ). IsPassAt epoch n p) (omega arith) are.0)
all_there epoch from (p ∷ ps) are (suc k) is = let t = all_there epoch (suc from) ps are.1 k is in (t.0, t.1, subst (λ (n : ℕ). IsPassAt epoch n t.0) (omega arith) t.2)

-- a homecoming is that of some station, as its seat tells
pub homed_is : (homes : TableId) (told : Note) (h : Option Stationed) → homed_in homes told ≡ h → IsSome (brought_in told) → (s : Stationed) × (h ≡ Some s) × (told ≡ note.Brought s.pass) × (homes ≡ s.homes)
homed_is homes (note.Idle epoch) h is some_pass = absurd (cc)
homed_is homes (note.Took p) h is some_pass = absurd (cc)
homed_is homes (note.Brought p) h is some_pass = (record { pass = p; homes = homes }, sym is, refl, refl)

-- one view alone tells that view alone
one_view : (v n : Note) (j : ℕ) → get_elem? (v ∷ []) j ≡ some n → n ≡ v
one_view v n zero at = sym (some-injective v n at)
one_view v n (suc j) at = absurd (cc)

-- what two are some of is one
pub one_pass : (p q : Passing AnyActor) → Some p ≡ Some q → p ≡ q
one_pass p q e = cc

-- what lies in the first place
abbrev in_first : List (ℕ × Option (Passing AnyActor)) → Option (Passing AnyActor)
in_first [] = None
in_first (x ∷ xs) = x.1

-- one place has one pass
placed_same : (i number : ℕ) (p q : Passing AnyActor) → ◌≡◌ {A = List (ℕ × Option (Passing AnyActor))} ((i, Some p) ∷ []) ((number, Some q) ∷ []) → p ≡ q
placed_same i number p q e = one_pass p q (ap in_first e)

-- a seat that brought a pass home tells of the pass's epoch
told_epoch : (epoch : Opened AnyActor) (p : Passing AnyActor) (i : ℕ) → IsPassAt epoch i p → epoch ≡ epoch_in (note.Brought p)
told_epoch epoch p i fits = λ k. record { id = sym fits.epoch_is k; opening = sym fits.opening k }

-- what it takes again is a pass of that, which goes on from the one that it brought
pub taken_again : (epoch : Opened AnyActor) (before : Note) (number : ℕ) (m : Me (Option (Passing AnyActor)) Note) (p q : Passing AnyActor) → before ≡ note.Brought p → IsPassAt epoch number p → TakesOut before number m → m.0 ≡ note.Took q
    → IsPassAt epoch number q × GoesOnFrom p q
taken_again epoch before number m p q told fits t tells =
    let same = took_same t.pass q (sym t.tells ∙ tells) in (
      subst (IsPassAt epoch number) same (subst (λ e. IsPassAt e number t.pass) (ap epoch_in told ∙ sym (told_epoch epoch p number fits)) t.is),
      subst (GoesOnFrom p) same (subst (λ n. GoesOnFromTold n t.pass) told t.goes_on),
    )

module _ (epoch : Opened AnyActor) where
  -- a new seat writes 0, and takes the pass if it was there
  pub takes_out : (slots i : ℕ) → Arrives (HaveHomes epoch) slots i (λ _. 0) (λ r m. r ≡ 1 → TakesOut (note.Idle epoch) i m)
  takes_out slots i s have many small =
      dite (ℕ_discrete (slice_index s.words i) 1)
      (λ there. let h = have.at_home i there in (
        note.Took h.pass,
        takes i (Some h.pass),
        h.there,
        taken epoch s.words s.homes (set s.homes i none) s.views (s.views ++ note.Took h.pass ∷ []) i (length s.views) have h (λ j apart. set_else s.homes i j none apart)
            (at_last s.views (note.Took h.pass) (length s.views) refl) (still_longer s.views (note.Took h.pass)) (told_newly s.views (note.Took h.pass)),
        λ _. record { pass = h.pass; place = refl; tells = refl; is = h.is; goes_on = tt },
      ))
      (λ away. (
        note.Idle epoch,
        keeps,
        tt,
        emptied epoch s.words s.homes s.homes s.views (s.views ++ note.Idle epoch ∷ []) i (length s.views) have epoch away (λ j apart. refl) (still_longer s.views (note.Idle epoch)) (told_newly s.views (note.Idle epoch)),
        λ e. absurd (away e),
      ))

  -- so does the seat that brought one home before, and the pass goes on from that one
  pub takes_again : (slots id i : ℕ) (m : Me (Option (Passing AnyActor)) Note) (p : Passing AnyActor) → m ≡ (note.Brought p, []) → IsPassAt epoch i p → Allows (HaveHomes epoch) slots id m i (λ _. 0) (λ r m'. r ≡ 1 → TakesOut m.0 i m')
  takes_again slots id i m p is fits =
      subst (λ (x : Me (Option (Passing AnyActor)) Note). Allows (HaveHomes epoch) slots id x i (λ _. 0) (λ r m'. r ≡ 1 → TakesOut x.0 i m')) (sym is)
      (λ s have many at small. dite (ℕ_discrete (slice_index s.words i) 1)
      (λ there. let h = have.at_home i there in (
        note.Took h.pass,
        takes i (Some h.pass),
        h.there,
        taken epoch s.words s.homes (set s.homes i none) s.views (set s.views id (note.Took h.pass)) i id have h (λ j apart. set_else s.homes i j none apart)
            (replaced s.views id (note.Brought p) (note.Took h.pass) at) (still_set s.views id p (note.Took h.pass) at) (told_by s.views id (note.Took h.pass)),
        λ _. record { pass = h.pass; place = refl; tells = refl; is = subst (λ e. IsPassAt e i h.pass) (told_epoch epoch p i fits) h.is; goes_on = h.goes_on id p at fits.number_is },
      ))
      (λ away. (
        note.Idle epoch,
        keeps,
        tt,
        emptied epoch s.words s.homes s.homes s.views (set s.views id (note.Idle epoch)) i id have epoch away (λ j apart. refl) (still_set s.views id p (note.Idle epoch) at) (told_by s.views id (note.Idle epoch)),
        λ e. absurd (away e),
      )))

  -- who holds a place puts a pass there that goes on from the one that was taken, and writes 1
  pub brings : (slots id i : ℕ) (m : Me (Option (Passing AnyActor)) Note) (took p : Passing AnyActor) → m ≡ (note.Took took, (i, Some p) ∷ []) → i < slots → IsPassAt epoch i p → GoesOnFrom took p
      → Allows (HaveHomes epoch) slots id m i (λ _. 1) (λ _. PutsBack m)
  brings slots id i m took p is within fits on =
      subst (λ (x : Me (Option (Passing AnyActor)) Note). Allows (HaveHomes epoch) slots id x i (λ _. 1) (λ _. PutsBack x)) (sym is)
      (λ s have many at small. (
        note.Brought p,
        gives,
        tt,
        filled epoch s.words s.homes s.views i id took p (subst (λ n. i < n) (sym many) within) fits on at have,
        λ number q same. ap (λ x. (note.Brought x, [])) (placed_same i number p q same),
      ))

  pub opens : (words : List ℕ) (places : List (Option (Passing AnyActor))) (ps : List (Passing AnyActor)) → words ≡ replicate (length ps) 1 → places ≡ map Some ps → ArePassesFrom epoch 0 ps
      → HaveHomes epoch (opening words places (note.Idle epoch))
  opens words places ps counted same are = record {
    at_home = λ k is. (let t = all_there epoch 0 ps are k (ap (λ ws. slice_index ws k) (sym counted) ∙ is) in record {
      pass = t.0;
      there = ap (λ (xs : List (Option (Passing AnyActor))). get_elem? (map some xs) k) same ∙ t.1;
      is = subst (λ (n : ℕ). IsPassAt epoch n t.0) (omega arith) t.2;
      goes_on = λ j p at own. absurd (idle_brought epoch p (one_view (note.Idle epoch) (note.Brought p) j at));
      none_has = λ j p at own. idle_took epoch p (one_view (note.Idle epoch) (note.Took p) j at);
    });
    away = λ k within away. absurd (away (ap (λ ws. slice_index ws k) counted ∙ all_one (length ps) k (subst (λ l. k < l) (ap length counted ∙ length-replicate (length ps) 1) within)));
    goes_on = λ j k p q brought took own. absurd (idle_brought epoch p (one_view (note.Idle epoch) (note.Brought p) j brought));
    alone = λ j k p q first second own. absurd (idle_took epoch p (one_view (note.Idle epoch) (note.Took p) j first));
  }

-- ---- passes in the order of their numbers

-- passes that are dealt are of their epoch, in order
dealt_on : (epoch : Opened AnyActor) (from : ℕ) (actors : List AnyActor) → ((k : ℕ) (a : AnyActor) → slice_get actors k ≡ Some a → (slice_get epoch.opening.actors (from + k) ≡ Some a) × (any_machine.rests a ≡ true))
    → ArePassesFrom epoch from (dealt epoch.id epoch.opening from actors)
dealt_on epoch from [] at = tt
dealt_on epoch from (a ∷ actors) at =
    let here = at 0 a refl in
    let first : from + 0 ≡ from = omega arith in (
      record { epoch_is = refl; opening = refl; number_is = refl; at = ap (slice_get epoch.opening.actors) (sym first) ∙ here.0; rests = here.1 },
      dealt_on epoch (suc from) actors (λ k x is. let t = at (suc k) x is in let next : suc from + k ≡ from + suc k = omega arith in (ap (slice_get epoch.opening.actors) next ∙ t.0, t.1)),
    )

pub dealt_from : (epoch : Opened AnyActor) → AreResting epoch.opening.actors → ArePassesFrom epoch 0 (dealt epoch.id epoch.opening 0 epoch.opening.actors)
dealt_from epoch rest = dealt_on epoch 0 epoch.opening.actors (λ k a is. (let same : 0 + k ≡ k = omega arith in ap (slice_get epoch.opening.actors) same ∙ is, rest k a is))

-- they are all of the epoch
pub all_of_epoch : (epoch : Opened AnyActor) (from : ℕ) (ps : List (Passing AnyActor)) → ArePassesFrom epoch from ps → All (λ (p : Passing AnyActor). p.epoch ≡ epoch.id) ps
all_of_epoch epoch from [] are = All-nil (λ (p : Passing AnyActor). p.epoch ≡ epoch.id)
all_of_epoch epoch from (p ∷ ps) are = All-cons (λ (p : Passing AnyActor). p.epoch ≡ epoch.id) p ps are.0.epoch_is (all_of_epoch epoch (suc from) ps are.1)

-- and all rest
pub all_rest : (epoch : Opened AnyActor) (from : ℕ) (ps : List (Passing AnyActor)) → ArePassesFrom epoch from ps → Every (λ (p : Passing AnyActor). any_machine.rests p.actor ≡ true) ps
all_rest epoch from [] are = tt
all_rest epoch from (p ∷ ps) are = (are.0.rests, all_rest epoch (suc from) ps are.1)

-- and have the numbers of as many that are dealt
pub same_numbers : (epoch : Opened AnyActor) (from : ℕ) (ps : List (Passing AnyActor)) (actors : List AnyActor) → length ps ≡ length actors → ArePassesFrom epoch from ps
    → map (λ (p : Passing AnyActor). p.number) ps ≡ map (λ (p : Passing AnyActor). p.number) (dealt epoch.id epoch.opening from actors)
same_numbers epoch from [] [] many are = refl
same_numbers epoch from [] (a ∷ actors) many are = absurd (omega arith)
same_numbers epoch from (p ∷ ps) [] many are = absurd (omega arith)
same_numbers epoch from (p ∷ ps) (a ∷ actors) many are =
    ap (λ n. n ∷ map (λ (p : Passing AnyActor). p.number) ps) are.0.number_is ∙ ap (λ ns. from ∷ ns) (same_numbers epoch (suc from) ps actors (omega (arith, many)) are.1)

-- ---- gathering

-- a station's number is one of the epoch's
station_within : (epoch : Housed) (number : ℕ) (s : Stationed) → IsStationOf epoch number s → number < length epoch.opening.actors
station_within epoch number s is =
    let there = run any_machine epoch.opening s.pass.seen in
    subst (λ n. number < n) (run-lengths any_machine epoch.opening s.pass.seen).1 (slice_get_within there.actors number s.pass.actor is.pass.at)

-- what stands behind others has their number, also where more stands behind it
at_end : {X : Type 0} (before : List X) (x : X) (more : List X) → slice_get ((before ++ x ∷ []) ++ more) (length before) ≡ Some x
at_end [] x more = refl
at_end (y ∷ before) x more = at_end before x more

actor_at_end : (before : List (Passing AnyActor)) (p : Passing AnyActor) → slice_get (actors_in (before ++ p ∷ [])) (length before) ≡ Some p.actor
actor_at_end [] p = refl
actor_at_end (q ∷ before) p = actor_at_end before p

actor_at_first : (before : List (Passing AnyActor)) (p : Passing AnyActor) (i : ℕ) (a : AnyActor) → slice_get (actors_in before) i ≡ Some a → slice_get (actors_in (before ++ p ∷ [])) i ≡ Some a
actor_at_first [] p i a at = absurd (cc)
actor_at_first (q ∷ before) p zero a at = at
actor_at_first (q ∷ before) p (suc i) a at = actor_at_first before p i a at

-- one more that has ended leaves all ended
ended_more : (before : List (Passing AnyActor)) (p : Passing AnyActor) → AllHaveEnded (actors_in before) → ¬ IsUnended p.actor → AllHaveEnded (actors_in (before ++ p ∷ []))
ended_more [] p ended over zero a at = let same : p.actor ≡ a = cc in subst (λ b. ¬ IsUnended b) same over
ended_more [] p ended over (suc i) a at = absurd (cc)
ended_more (q ∷ before) p ended over zero a at = ended zero a at
ended_more (q ∷ before) p ended over (suc i) a at = ended_more before p (λ j b there. ended (suc j) b there) over i a at

-- what follows from an answer's value follows where it has one, and so of its error
pub ok_by : {T E : Type 0} {P Q : T → Type 0} (r : Result T E) → ((x : T) → P x → Q x) → IfOk r P → IfOk r Q
ok_by (Ok x) follows is = follows x is
ok_by (Err e) follows is = tt

pub err_by : {T E : Type 0} {P Q : E → Type 0} (r : Result T E) → ((e : E) → P e → Q e) → IfErr r P → IfErr r Q
err_by (Ok x) follows is = tt
err_by (Err e) follows is = follows e is

-- none is left to gather
pub gathered_all : (epoch : Housed) (number : ℕ) (handed : List (Option Arrival)) (before : List (Passing AnyActor)) → number ≡ length epoch.opening.actors → AreArrivalsOf epoch handed → IsPauseWanted (actors_in before)
    → AreGathered epoch number handed before before
gathered_all epoch number handed before last arrivals wanted = record {
  passes = [];
  behind = sym (append-nil before);
  each = tt;
  all = omega (arith, last);
  handed_in = λ k s from at. let less = station_within epoch k s (arrivals k s (inl at)) in absurd (omega (arith, last, from, less));
  come_home = λ k s from at. let less = station_within epoch k s (arrivals k s (inr at)) in absurd (omega (arith, last, from, less));
  wanted = wanted;
}

-- what was taken out of one place is none in the others
left_other : (handed left : List (Option Arrival)) (number k : ℕ) (x : Arrival) → left ≡ slice_set handed number None → k ≢ number → slice_get handed k ≡ Some (Some x) → slice_get left k ≡ Some (Some x)
left_other handed left number k x rest apart at = ap (λ xs. slice_get xs k) rest ∙ slice_get-set_other handed number k None apart ∙ at

-- what is left is some of what there was
pub left_same : (epoch : Housed) (handed left : List (Option Arrival)) (number : ℕ) → left ≡ slice_set handed number None → AreArrivalsOf epoch handed → AreArrivalsOf epoch left
left_same epoch handed left number rest arrivals k s tells =
    elim tells [
      | inl at ↦ arrivals k s (inl (still handed number k (arrival.Out s) (ap (λ xs. slice_get xs k) (sym rest) ∙ at)))
      | inr at ↦ arrivals k s (inr (still handed number k (arrival.Home (Some s)) (ap (λ xs. slice_get xs k) (sym rest) ∙ at)))
    ]
  where
    still : (handed : List (Option Arrival)) (number k : ℕ) (y : Arrival) → slice_get (slice_set handed number None) k ≡ Some (Some y) → slice_get handed k ≡ Some (Some y)
    still [] number k y at = at
    still (x ∷ handed) zero zero y at = absurd (cc)
    still (x ∷ handed) zero (suc k) y at = at
    still (x ∷ handed) (suc number) zero y at = at
    still (x ∷ handed) (suc number) (suc k) y at = still handed number k y at

-- one is gathered, and then those behind it
pub gathered_more : (epoch : Housed) (number : ℕ) (handed left : List (Option Arrival)) (before with after : List (Passing AnyActor)) (p : Passing AnyActor) → with ≡ before ++ p ∷ [] → length before ≡ number → IsPassAt (table_of epoch) number p
    → left ≡ slice_set handed number None → ((s : Stationed) → IsHandedIn handed number s → p ≡ s.pass) → ((s : Stationed) → HasComeHome handed number s → GoesOnFrom s.pass p) → AreGathered epoch (number + 1) left with after
    → AreGathered epoch number handed before after
gathered_more epoch number handed left before with after p one taken is rest own home g =
    let next : number + 1 ≡ suc number = omega arith in
    let whole : after ≡ (before ++ p ∷ []) ++ g.passes = g.behind ∙ ap (λ ps. ps ++ g.passes) one in record {
      passes = p ∷ g.passes;
      behind = whole ∙ append_assoc before (p ∷ []) g.passes;
      each = (is, subst (λ n. ArePassesFrom (table_of epoch) n g.passes) next g.each);
      all = let all = g.all in omega (arith, all);
      handed_in = λ k s from at. dite (ℕ_discrete k number)
          (λ here. ap (λ ps. slice_get ps k) whole ∙ ap (slice_get ((before ++ p ∷ []) ++ g.passes)) (here ∙ sym taken) ∙ at_end before p g.passes ∙ ap Some (own s (subst (λ n. IsHandedIn handed n s) here at)))
          (λ apart. g.handed_in k s (omega (arith, from, apart)) (left_other handed left number k (arrival.Out s) rest apart at));
      come_home = λ k s from at. dite (ℕ_discrete k number)
          (λ here. (p, ap (λ ps. slice_get ps k) whole ∙ ap (slice_get ((before ++ p ∷ []) ++ g.passes)) (here ∙ sym taken) ∙ at_end before p g.passes, home s (subst (λ n. HasComeHome handed n s) here at)))
          (λ apart. g.come_home k s (omega (arith, from, apart)) (left_other handed left number k (arrival.Home (Some s)) rest apart at));
      wanted = g.wanted;
    }

-- where no pause is wanted by one more and those behind it, none is by those before and all behind
pub unwanted_less : (count number : ℕ) (handed left : List (Option Arrival)) (before with : List (Passing AnyActor)) (p : Passing AnyActor) → number < count → with ≡ before ++ p ∷ [] → left ≡ slice_set handed number None
    → ((s : Stationed) → IsHandedIn handed number s → p ≡ s.pass) → IsUnwanted count (number + 1) left with → IsUnwanted count number handed before
unwanted_less count number handed left before with p less one rest own quiet = record {
  none_wants = λ (i, a, at, wants). quiet.none_wants (subst (λ ps. SomeWants (actors_in ps)) (sym one) (i, a, actor_at_first before p i a at, wants));
  some_is_unended = λ ended all. quiet.some_is_unended
      (subst (λ ps. AllHaveEnded (actors_in ps)) (sym one) (ended_more before p ended (let (s, at, over) = all number (omega arith) less in subst (λ (q : Passing AnyActor). ¬ IsUnended q.actor) (sym (own s at)) over)))
      (λ k from few. let (s, at, over) = all k (omega (arith, from)) few in (s, left_other handed left number k (arrival.Out s) rest (λ same. absurd (omega (arith, from, same))) at, over));
}

-- where all are there and no pause is wanted by them, it isn't
pub unwanted_last : (count number : ℕ) (handed : List (Option Arrival)) (passes : List (Passing AnyActor)) → ¬ IsPauseWanted (actors_in passes) → IsUnwanted count number handed passes
unwanted_last count number handed passes quiet = record { none_wants = λ wants. quiet (inl wants); some_is_unended = λ ended all. quiet (inr ended) }

-- with no passes at hand, not all others are ended
pub unended_from : (count : ℕ) (handed : List (Option Arrival)) (passes : List (Passing AnyActor)) → passes ≡ [] → IsUnwanted count 0 handed passes → ¬ HaveEndedFrom count 0 handed
unended_from count handed passes nothing quiet = quiet.some_is_unended (subst (λ ps. AllHaveEnded (actors_in ps)) (sym nothing) (λ i a at. absurd (cc)))

-- why an epoch isn't closed from the next number on is why it isn't from this one on
pub unclosed_more : (count number : ℕ) (handed left : List (Option Arrival)) (before with : List (Passing AnyActor)) (p : Passing AnyActor) (reason : NotClosed) → with ≡ before ++ p ∷ [] → left ≡ slice_set handed number None
    → ((s : Stationed) → IsHandedIn handed number s → p ≡ s.pass) → (reason ≡ why.NotWanted → ¬ SomeWants (actors_in with)) → IsUnclosed count (number + 1) left reason → IsUnclosed count number handed reason
unclosed_more count number handed left before with p (why.Away n) one rest own quiet (from, less, kept) =
    (omega (arith, from), less, λ s at. kept s (left_other handed left number n (arrival.Out s) rest (λ same. absurd (omega (arith, from, same))) at))
unclosed_more count number handed left before with p why.NotWanted one rest own quiet is = λ k s from at. dite (ℕ_discrete k number)
    (λ here wants. quiet refl
    (length before, p.actor, ap (λ ps. slice_get (actors_in ps) (length before)) one ∙ actor_at_end before p, subst (λ (q : Passing AnyActor). Wants q.actor) (sym (own s (subst (λ n. IsHandedIn handed n s) here at))) wants))
    (λ apart. is k s (omega (arith, from, apart)) (left_other handed left number k (arrival.Out s) rest apart at))
unclosed_more count number handed left before with p why.Shared one rest own quiet is = tt

-- where all are there and no pause is wanted, no further station is handed in
pub unclosed_last : (epoch : Housed) (number : ℕ) (handed : List (Option Arrival)) → number ≡ length epoch.opening.actors → AreArrivalsOf epoch handed → IsUnclosed (length epoch.opening.actors) number handed why.NotWanted
unclosed_last epoch number handed last arrivals k s from at = let less = station_within epoch k s (arrivals k s (inl at)) in absurd (omega (arith, last, from, less))

-- from the first on, all are gathered
pub all_gathered : (epoch : Housed) (handed : List (Option Arrival)) (before after : List (Passing AnyActor)) → before ≡ [] → AreGathered epoch 0 handed before after → AreAll epoch after
all_gathered epoch handed before after nothing g =
    let same : after ≡ g.passes = g.behind ∙ ap (λ ps. ps ++ g.passes) nothing in
    subst (AreAll epoch) (sym same) (record { each = g.each; many = (let all = g.all in omega (arith, all)); wanted = subst (λ ps. IsPauseWanted (actors_in ps)) same g.wanted })

-- once they are closed, the actors that were handed in stand in their places
pub given_up_in : (handed : List (Option Arrival)) (passes : List (Passing AnyActor)) (actors : List AnyActor) → actors ≡ map actor_given_up (actors_in passes) → HoldHandedIn handed 0 passes → HoldGivenUp handed actors
given_up_in handed passes actors are hold number s at = ap (λ xs. slice_get xs number) are ∙ given_at passes number s.pass (hold number s (omega arith) at)
  where
    given_at : (ps : List (Passing AnyActor)) (n : ℕ) (p : Passing AnyActor) → slice_get ps n ≡ Some p → slice_get (map actor_given_up (actors_in ps)) n ≡ Some (actor_given_up p.actor)
    given_at [] n p at = absurd (cc)
    given_at (q ∷ ps) zero p at = let same : q ≡ p = cc in ap (λ (r : Passing AnyActor). Some (actor_given_up r.actor)) same
    given_at (q ∷ ps) (suc n) p at = given_at ps n p at

-- ---- settling

-- so many words of 1
abbrev pub ones : ℕ → List ℕ
ones n = replicate n 1

one_more : {X : Type 0} (n : ℕ) (x : X) → replicate n x ++ x ∷ [] ≡ replicate (suc n) x
one_more zero x = refl
one_more (suc n) x = ap (λ xs. x ∷ xs) (one_more n x)

-- so many passes stand in their places
abbrev pub AreSettled : List (Passing AnyActor) → List (Passing AnyActor) → List ℕ → List (Option (Passing AnyActor)) → Type 0
AreSettled passes rest words places = (before : List (Passing AnyActor)) × (passes ≡ before ++ rest) × (words ≡ ones (length before)) × (places ≡ map Some before)

-- none does at first
pub none_settled : (passes rest : List (Passing AnyActor)) (words : List ℕ) (places : List (Option (Passing AnyActor))) → words ≡ [] → places ≡ [] → rest ≡ passes → AreSettled passes rest words places
none_settled passes rest words places no_words no_places all = ([], sym all, no_words, no_places)

-- and one more
pub one_settled : (passes before rest : List (Passing AnyActor)) (p : Passing AnyActor) (words words' : List ℕ) (places places' : List (Option (Passing AnyActor))) → passes ≡ before ++ p ∷ rest
    → words ≡ ones (length before) → places ≡ map Some before → words' ≡ words ++ 1 ∷ [] → places' ≡ places ++ Some p ∷ [] → AreSettled passes rest words' places'
one_settled passes before rest p words words' places places' split counted same more placed = (
  before ++ p ∷ [],
  split ∙ sym (append_assoc before (p ∷ []) rest),
  (let one : ℕ = 1 in
      let both = length-append before (p ∷ []) in
      let long : suc (length before) ≡ length (before ++ p ∷ []) = omega (arith, both) in
      more ∙ ap (λ ns. ns ++ one ∷ []) counted ∙ one_more (length before) one ∙ ap ones long),
  placed ∙ ap (λ xs. xs ++ Some p ∷ []) same ∙ sym (map-append Some before (p ∷ [])),
)
