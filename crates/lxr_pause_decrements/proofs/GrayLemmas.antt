-- Grays while objects are reclaimed one after another: an object loses its bit as it goes, and what it referred to gets one as it is released.
use Rattle.std.proofs.Common.{◌≡◌, ◌≢◌, ℕ, zero, suc, ◌+◌, ◌≤◌, refl, sym, ap, subst, ◌∙◌, inl, inr, arith, Bool, true, false, cond, List, [], ◌∷◌, ◌++◌, IsTrue}
use Rattle.std.specs.Prelude.{◌↔◌, ◌==◌, ◌||◌, Option, Some, None, slice_get}
use Rattle.std.proofs.lemmas.Bool.{or_cases}
use Rattle.std.proofs.lemmas.Bool.Decides.{eqb_tells}
use Rattle.lxr_layout.specs.declared.Name.{Name}
use Rattle.lxr_graph.specs.Names.{has, same_held, same_name, without}
use Rattle.lxr_graph.specs.State.{object_at, refs_of}
use Rattle.lxr_graph.proofs.NameSets.{not_both, same_itself, same_names, without_parts}
use Rattle.lxr_image.specs.Tables.{Tables, changed}
use Rattle.lxr_image.specs.Reads.{granule_of}
use Rattle.lxr_model.specs.Dead.{Dead}
use Rattle.lxr_model.specs.Moments.{Moment, Trace}
use Rattle.lxr_model.specs.Reachable.{Refers}
use Rattle.lxr_model.specs.References.{occurrences}
use Rattle.lxr_model_counting.specs.Lowering.{once}
use Rattle.lxr_model_counting.proofs.DistinctLemmas.{or_false, tested}
use Rattle.lxr_model_counting.proofs.LoweringLemmas.{once_other}
use Rattle.lxr_invariant.specs.Counting.{is_done}
use Rattle.lxr_invariant.specs.Lines.{tracing_word}
use Rattle.lxr_invariant.proofs.EntryLemmas.{changed_here, changed_other}
use Rattle.lxr_invariant.proofs.NameLemmas.{has_last, has_more}
use Rattle.lxr_pause_decrements.specs.Cascade.{AreGrayed, GraysSoFar, HandledGray, grayed_if}
use Rattle.lxr_pause_decrements.specs.Finishing.{FinishesGrays, HandledAreTraced}
use Rattle.lxr_pause_decrements.specs.Wipe.{LosesBits}
use Rattle.lxr_pause_decrements.proofs.LeftLemmas.{still_left}
use Rattle.lxr_pause_decrements.proofs.WipeLemmas.{loses_more, loses_none, loses_same}

-- no other member begins where a name does
abbrev pub BeginsAlone : Moment → (Name → ℕ) → Name → Type 0
BeginsAlone m at r = (n : Name) → IsTrue (has m.unreclaimed n) → same_name n r ≡ false → granule_of (at n) ≢ granule_of (at r)

-- nothing is reclaimed yet
pub grays_none : (trace : Option Trace) (f : ℕ → Bool) (m : Moment) (at : Name → ℕ) → AreGrayed trace f f m at [] [] (λ o. 0)
grays_none None f m at = loses_none f at
grays_none (Some trace) f m at = record {
  stays = λ n left h. h;
  referred = λ n left h. inl h;
  released = λ u n h. absurd (cc);
  reclaimed = λ n h. absurd (cc);
  others = λ k nobody. refl;
}

-- ---- one goes

-- r goes, and is in the worklist then, or what it referred to is gray
goes_so_far : (before after : ℕ → Bool) (m : Moment) (at : Name → ℕ) (gone work then : List Name) (ungrayed : Name → ℕ) (r : Name) → GraysSoFar before after m at gone work ungrayed
    → IsTrue (has m.unreclaimed r) → BeginsAlone m at r → ((u : Name) → has then u ≡ false → has work u ≡ false)
    → (has then r ≡ false → (n : Name) → Refers m.last.graph r n → IsTrue (has (without m.unreclaimed (r ∷ gone)) n) → IsTrue (after (granule_of (at n))))
    → GraysSoFar before (changed after (granule_of (at r)) false) m at (r ∷ gone) then ungrayed
goes_so_far before after m at gone work then ungrayed r is in_r alone longer fresh =
    let g : ℕ = granule_of (at r) in
    let stay : (n : Name) → IsTrue (has (without m.unreclaimed (r ∷ gone)) n) → changed after g false (granule_of (at n)) ≡ after (granule_of (at n)) =
    λ n h. let l = still_left m.unreclaimed gone r n h in changed_other after g false (granule_of (at n)) (alone n l.member l.other) in
    record {
      stays = λ n h old. stay n h ∙ is.stays n (still_left m.unreclaimed gone r n h).before old;
      referred = λ n h now. is.referred n (still_left m.unreclaimed gone r n h).before (sym (stay n h) ∙ now);
      released = λ u n went out refers h. elim (or_cases (same_name u r) (has gone u) went) [
        | inl k ↦
            let e : u ≡ r = same_names u r k in
            inl (stay n h ∙ fresh (sym (ap (has then) e) ∙ out) n (subst (λ z. Refers m.last.graph z n) e refers) h)
        | inr k ↦ elim (is.released u n k (longer u out) refers (still_left m.unreclaimed gone r n h).before) [ inl x ↦ inl (stay n h ∙ x) | inr x ↦ inr x ]
      ];
      reclaimed = λ n h. elim (eqb_tells (granule_of (at n)) g) [
        | inl q ↦ changed_here after g false (granule_of (at n)) q.1
        | inr q ↦ changed_other after g false (granule_of (at n)) q.1 ∙ (elim (or_cases (same_name n r) (has gone n) h) [
          | inl k ↦ absurd (q.1 (ap (λ z. granule_of (at z)) (same_names n r k)))
          | inr k ↦ is.reclaimed n k
        ])
      ];
      others = λ k nobody. changed_other after g false k (λ e. nobody r in_r (sym e)) ∙ is.others k nobody;
    }

-- r goes into the worklist
pub grays_fall : (trace : Option Trace) (before after : ℕ → Bool) (m : Moment) (at : Name → ℕ) (gone work : List Name) (ungrayed : Name → ℕ) (r : Name)
    → AreGrayed trace before after m at gone work ungrayed → IsTrue (has m.unreclaimed r) → BeginsAlone m at r
    → AreGrayed trace before (changed after (granule_of (at r)) false) m at (r ∷ gone) (work ++ r ∷ []) ungrayed
grays_fall None before after m at gone work ungrayed r is in_r alone = loses_more before after at gone r is
grays_fall (Some trace) before after m at gone work ungrayed r is in_r alone =
    goes_so_far before after m at gone work (work ++ r ∷ []) ungrayed r is in_r alone
    (λ u out. (or_false (has work u) (same_name u r) (sym (has_more work r u) ∙ out)).0)
    (λ out n refers h. not_both (has (work ++ r ∷ []) r) (has_last work r) out)

-- r, which is done, goes: what it referred to is gray
pub grays_handled : (trace : Option Trace) (before : ℕ → Bool) (t : Tables) (m : Moment) (at : Name → ℕ) (gone : List Name) (ungrayed : Name → ℕ) (r : Name)
    → AreGrayed trace before t.grays m at gone [] ungrayed → HandledGray trace t m at gone → IsTrue (has m.unreclaimed r) → IsTrue (is_done t at r) → BeginsAlone m at r
    → AreGrayed trace before (changed t.grays (granule_of (at r)) false) m at (r ∷ gone) [] ungrayed
grays_handled None before t m at gone ungrayed r is handled in_r done alone = loses_more before t.grays at gone r is
grays_handled (Some trace) before t m at gone ungrayed r is handled in_r done alone =
    goes_so_far before t.grays m at gone [] [] ungrayed r is in_r alone (λ u out. refl)
    (λ out n refers h. handled r n in_r done refers (still_left m.unreclaimed gone r n h).kept)

-- and so is what the other done objects referred to
pub handled_on : (trace : Option Trace) (t u : Tables) (m : Moment) (at : Name → ℕ) (gone : List Name) (r : Name) → HandledGray trace t m at gone
    → u.grays ≡ changed t.grays (granule_of (at r)) false → ((n : Name) → IsTrue (is_done u at n) → IsTrue (is_done t at n))
    → ((u n : Name) → IsTrue (has m.unreclaimed u) → Refers m.last.graph u n → IsTrue (has m.unreclaimed n)) → BeginsAlone m at r → HandledGray trace u m at (r ∷ gone)
handled_on None t u m at gone r handled grays before closed alone = tt
handled_on (Some trace) t u m at gone r handled grays before closed alone = λ x n in_x done refers out.
    let kept = or_false (same_name n r) (has gone n) out in
    ap (λ f. f (granule_of (at n))) grays ∙ changed_other t.grays (granule_of (at r)) false (granule_of (at n)) (alone n (closed x n in_x refers) kept.0)
    ∙ handled x n in_x (before x done) refers kept.1

pub handled_first : (trace : Option Trace) (t : Tables) (m : Moment) (at : Name → ℕ) → HandledAreTraced t m at trace → HandledGray trace t m at []
handled_first None t m at handled = tt
handled_first (Some trace) t m at handled = λ u n in_u done refers out. handled u n in_u done refers

-- ---- one is released

-- what stands among references is counted
occurs : (rs : List (Option Name)) (i : ℕ) (n : Name) → slice_get rs i ≡ Some (Some n) → 1 ≤ occurrences rs n
occurs [] i n e = absurd (cc)
occurs (r ∷ rs) zero n e =
    let here : r ≡ Some n = cc in
    let number : Bool → ℕ = λ b. cond b 1 0 in
    let one : number (same_held (Some n) r) ≡ 1 = ap (λ z. number (same_held (Some n) z)) here ∙ ap number (same_itself n) in
    omega (arith, one)
occurs (r ∷ rs) (suc i) n e = let k = occurs rs i n e in omega (arith, k)

-- r is taken out of the worklist: all that it referred to is to be made gray
pub grays_pop : (trace : Option Trace) (before after : ℕ → Bool) (m : Moment) (at : Name → ℕ) (gone work rest : List Name) (ungrayed : Name → ℕ) (r : Name) → work ≡ rest ++ r ∷ []
    → ((o : Name) → ungrayed o ≡ 0) → AreGrayed trace before after m at gone work ungrayed
    → AreGrayed trace before after m at gone rest (λ o. occurrences (refs_of (object_at m.last.graph r)) o)
grays_pop None before after m at gone work rest ungrayed r last none is = is
grays_pop (Some trace) before after m at gone work rest ungrayed r last none is = record {
  stays = is.stays;
  referred = is.referred;
  released = λ u n went out refers h. elim (tested (same_name u r)) [
    | inl k ↦ let there = subst (λ z. Refers m.last.graph z n) (same_names u r k) refers in inr (occurs (refs_of (object_at m.last.graph r)) there.0 n there.1)
    | inr k ↦
        let away : has work u ≡ false = ap (λ z. has z u) last ∙ has_more rest r u ∙ ap (λ b. b || same_name u r) out ∙ k in
        elim (is.released u n went away refers h) [ inl x ↦ inl x | inr x ↦ absurd (let z = none n in omega (arith, x, z)) ]
  ];
  reclaimed = is.reclaimed;
  others = is.others;
}

-- n, to which the dead r referred, is made gray
makes_gray : (before after : ℕ → Bool) (m : Moment) (at : Name → ℕ) (gone work : List Name) (f h : Name → ℕ) (r n : Name) → GraysSoFar before after m at gone work f
    → Dead m.last m.unreclaimed m.stuck r → Refers m.last.graph r n → IsTrue (has (without m.unreclaimed gone) n) → BeginsAlone m at n
    → ((x : Name) → IsTrue (has gone x) → IsTrue (has m.unreclaimed x)) → ((o : Name) → f o ≡ once o n + h o)
    → GraysSoFar before (changed after (granule_of (at n)) true) m at gone work h
makes_gray before after m at gone work f h r n is was_dead refers left alone members taken =
    let g : ℕ = granule_of (at n) in
    let parts = without_parts m.unreclaimed gone n left in
    let same : (x : Name) → IsTrue (same_name x n) → granule_of (at x) ≡ g = λ x k. ap (λ z. granule_of (at z)) (same_names x n k) in
    record {
      stays = λ x in_x old. elim (eqb_tells (granule_of (at x)) g) [
        | inl q ↦ changed_here after g true (granule_of (at x)) q.1
        | inr q ↦ changed_other after g true (granule_of (at x)) q.1 ∙ is.stays x in_x old
      ];
      referred = λ x in_x now. elim (tested (same_name x n)) [
        | inl k ↦ inr (r, was_dead, subst (λ z. Refers m.last.graph r z) (sym (same_names x n k)) refers)
        | inr k ↦ is.referred x in_x (sym (changed_other after g true (granule_of (at x)) (alone x (without_parts m.unreclaimed gone x in_x).0 k)) ∙ now)
      ];
      released = λ u x went out there in_x. elim (tested (same_name x n)) [
        | inl k ↦ inl (changed_here after g true (granule_of (at x)) (same x k))
        | inr k ↦ elim (is.released u x went out there in_x) [
          | inl y ↦ inl (changed_other after g true (granule_of (at x)) (alone x (without_parts m.unreclaimed gone x in_x).0 k) ∙ y)
          | inr y ↦ inr (let t = taken x in let z = once_other x n k in omega (arith, t, z, y))
        ]
      ];
      reclaimed = λ x went. elim (tested (same_name x n)) [
        | inl k ↦ not_both (has gone x) went (ap (has gone) (same_names x n k) ∙ parts.1)
        | inr k ↦ changed_other after g true (granule_of (at x)) (alone x (members x went) k) ∙ is.reclaimed x went
      ];
      others = λ k nobody. changed_other after g true k (λ e. nobody n parts.0 (sym e)) ∙ is.others k nobody;
    }

pub grays_step : (trace : Option Trace) (tracing : Bool) (before after : ℕ → Bool) (m : Moment) (at : Name → ℕ) (gone work : List Name) (f h : Name → ℕ) (r n : Name)
    → tracing ≡ (tracing_word trace == 1) → AreGrayed trace before after m at gone work f
    → Dead m.last m.unreclaimed m.stuck r → Refers m.last.graph r n → IsTrue (has (without m.unreclaimed gone) n) → BeginsAlone m at n
    → ((x : Name) → IsTrue (has gone x) → IsTrue (has m.unreclaimed x)) → ((o : Name) → f o ≡ once o n + h o)
    → AreGrayed trace before (grayed_if tracing after (granule_of (at n))) m at gone work h
grays_step None tracing before after m at gone work f h r n told is was_dead refers left alone members taken =
    subst (λ b. LosesBits before (grayed_if b after (granule_of (at n))) at gone) (sym told) is
grays_step (Some trace) tracing before after m at gone work f h r n told is was_dead refers left alone members taken =
    subst (λ b. GraysSoFar before (grayed_if b after (granule_of (at n))) m at gone work h) (sym told)
    (makes_gray before after m at gone work f h r n is was_dead refers left alone members taken)

-- gray bits stay at start bits
pub gray_starts : (tracing : Bool) (starts grays : ℕ → Bool) (g : ℕ) → IsTrue (starts g) → ((k : ℕ) → IsTrue (grays k) → IsTrue (starts k))
    → (k : ℕ) → IsTrue (grayed_if tracing grays g k) → IsTrue (starts k)
gray_starts false starts grays g start is k h = is k h
gray_starts true starts grays g start is k h = elim (eqb_tells k g) [
  | inl q ↦ ap starts q.1 ∙ start
  | inr q ↦ is k (sym (changed_other grays g true k q.1) ∙ h)
]

-- ---- all is released

-- exactly the dead are gone, under whatever order of their names
pub grays_end : (trace : Option Trace) (before after : ℕ → Bool) (m : Moment) (at : Name → ℕ) (gone names work : List Name) (ungrayed : Name → ℕ)
    → ((n : Name) → has names n ≡ has gone n) → without m.unreclaimed gone ≡ without m.unreclaimed names → work ≡ [] → ((o : Name) → ungrayed o ≡ 0)
    → ((o : Name) → IsTrue (has gone o) ↔ Dead m.last m.unreclaimed m.stuck o)
    → AreGrayed trace before after m at gone work ungrayed → FinishesGrays trace before after m at names
grays_end None before after m at gone names work ungrayed same left empty none over is = loses_same before after at gone names same is
grays_end (Some trace) before after m at gone names work ungrayed same left empty none over is =
    let still : (n : Name) → IsTrue (has (without m.unreclaimed names) n) → IsTrue (has (without m.unreclaimed gone) n) = λ n h. subst (λ us. IsTrue (has us n)) (sym left) h in
    record {
      left = λ n h. (
        (λ now. elim (is.referred n (still n h) now) [ inl x ↦ inl x | inr x ↦ inr (x.0, same x.0 ∙ (over x.0).1 x.1, x.2) ]),
        (λ is_so. elim is_so [
          | inl x ↦ is.stays n (still n h) x
          | inr x ↦ elim (is.released x.0 n (sym (same x.0) ∙ x.1) (ap (λ z. has z x.0) empty) x.2 (still n h)) [ inl y ↦ y | inr y ↦ absurd (let z = none n in omega (arith, y, z)) ]
        ]),
      );
      reclaimed = λ n h. is.reclaimed n (sym (same n) ∙ h);
      others = is.others;
    }

-- ---- where no trace runs

-- bits were lost alone
pub grays_lost : (trace : Option Trace) (before after : ℕ → Bool) (m : Moment) (at : Name → ℕ) (gone work : List Name) (ungrayed : Name → ℕ) → trace ≡ None
    → AreGrayed trace before after m at gone work ungrayed → LosesBits before after at gone
grays_lost None before after m at gone work ungrayed none is = is
grays_lost (Some trace) before after m at gone work ungrayed none is = absurd (cc)

-- and the worklist is nothing to them
pub grays_untraced : (trace : Option Trace) (before after : ℕ → Bool) (m : Moment) (at : Name → ℕ) (gone work others : List Name) (ungrayed : Name → ℕ) → trace ≡ None
    → AreGrayed trace before after m at gone work ungrayed → AreGrayed trace before after m at gone others ungrayed
grays_untraced None before after m at gone work others ungrayed none is = is
grays_untraced (Some trace) before after m at gone work others ungrayed none is = absurd (cc)
