-- What is kept of a history stays of it with one more item.
use Rattle.std.proofs.Common.{◌≡◌, ◌≢◌, ℕ, zero, suc, ◌+◌, ◌-◌, ◌^◌, ◌<◌, ◌≤◌, inl, inr, Bool, true, false, List, [], ◌∷◌, ◌++◌, length, refl, sym, ap, subst, ◌∙◌, arith, nat_eq, nat_lt, get_or-set_same, get_or-set_other, length-set}
use Rattle.std.specs.Prelude.{◌&&◌, ◌||◌, replicate, slice_index, slice_index_or, slice_set}
use Rattle.std.proofs.lemmas.Bool.{cases_eq, cond-true, cond-false, eq-eqb, ne_eqb, cases_Bool}
use Rattle.std.proofs.lemmas.List.{length_push}
use Rattle.lxr_graph.specs.declared.Op.{Op}
use Rattle.lxr_graph.specs.declared.Op.TheVariants as op
use Rattle.lxr_graph.specs.declared.Reply.{Reply}
use Rattle.lxr_graph.specs.declared.Reply.TheVariants as reply
use Rattle.lxr_graph.specs.History.{PauseReport, Item, Call, Pause, Renew, calls_of}
use Rattle.lxr_model.specs.Terms.{Terms}
use Rattle.lxr_model.specs.Kinds.{collect_called, ends}
use Rattle.lxr_model.specs.Belongs.{asks_for_pause, has_asked, calls_since_pause}
use Rattle.lxr_model_decide.specs.Legality.{only_news_since_pause, is_right_after_collecting}
use Rattle.lxr_judge.specs.declared.progress.Progress.{Progress}
use Rattle.lxr_judge.specs.Taking.{pauses_in}
use Rattle.lxr_judge.specs.Progress.{Tells, raised, noted, called, paused}

-- ---- counts are small

pub calls_few : (t : ℕ) (h : List Item) → length (calls_of t h) ≤ length h
calls_few t [] = omega arith
calls_few t (Renew ns ∷ h) = omega arith
calls_few t (Pause report ∷ h) = omega (arith, calls_few t h)
calls_few t (Call u o r ∷ h) = elim (cases_Bool (nat_eq t u)) [
  | inl same ↦ let e = ap length (cond-true (nat_eq t u) (calls_of t h ++ o ∷ []) (calls_of t h) same) in let p = length_push (calls_of t h) o in omega (arith, e, p, calls_few t h)
  | inr other ↦ let e = ap length (cond-false (nat_eq t u) (calls_of t h ++ o ∷ []) (calls_of t h) other) in omega (arith, e, calls_few t h)
]

pub since_few : (t : ℕ) (h : List Item) → calls_since_pause t h ≤ length h
since_few t [] = omega arith
since_few t (Renew ns ∷ h) = omega arith
since_few t (Pause report ∷ h) = omega arith
since_few t (Call u o r ∷ h) = elim (cases_Bool (nat_eq t u)) [
  | inl same ↦ let e = cond-true (nat_eq t u) (suc (calls_since_pause t h)) (calls_since_pause t h) same in omega (arith, e, since_few t h)
  | inr other ↦ let e = cond-false (nat_eq t u) (suc (calls_since_pause t h)) (calls_since_pause t h) other in omega (arith, e, since_few t h)
]

pub pauses_few : (h : List Item) → pauses_in h ≤ length h
pauses_few [] = omega arith
pauses_few (Renew ns ∷ h) = omega arith
pauses_few (Pause report ∷ h) = omega (arith, pauses_few h)
pauses_few (Call t o r ∷ h) = omega (arith, pauses_few h)

pub ends_few : (h : List Item) → ends h ≤ length h
ends_few [] = omega arith
ends_few (Renew ns ∷ h) = omega arith
ends_few (Pause report ∷ h) = omega (arith, ends_few h)
ends_few (Call t op.End r ∷ h) = omega (arith, ends_few h)
ends_few (Call t o r ∷ h) = omega (arith, ends_few h)

-- a small count is raised by one
small_raised : (n m : ℕ) → n ≡ m → m + 1 < 2 ^ 32 → raised n ≡ suc m
small_raised n m same small = omega (arith, same, small)

-- ---- one operation

-- what an operation and its reply leave as it was
record SameBut (a b : Progress) : Type 0 where
  calls : a.calls ≡ b.calls
  since : a.since ≡ b.since
  asked : a.asked ≡ b.asked
  items : a.items ≡ b.items
  pauses : a.pauses ≡ b.pauses
  early : a.early ≡ b.early
  whole : a.whole ≡ b.whole

same_but : (p : Progress) (o : Op) (r : Reply) → SameBut (noted p o r) p
same_but p (op.New dest shape) r = record { calls = refl; since = refl; asked = refl; items = refl; pauses = refl; early = refl; whole = refl }
same_but p op.Collect r = record { calls = refl; since = refl; asked = refl; items = refl; pauses = refl; early = refl; whole = refl }
same_but p op.End r = record { calls = refl; since = refl; asked = refl; items = refl; pauses = refl; early = refl; whole = refl }
same_but p o r = record { calls = refl; since = refl; asked = refl; items = refl; pauses = refl; early = refl; whole = refl }

or_false : (b : Bool) → (b || false) ≡ b
or_false true = refl
or_false false = refl

or_true : (b : Bool) → (b || true) ≡ true
or_true true = refl
or_true false = refl

and_true : (b : Bool) → (b && true) ≡ b
and_true true = refl
and_true false = refl

and_false : (b : Bool) → (b && false) ≡ false
and_false true = refl
and_false false = refl

noted_ends : (p : Progress) (t : ℕ) (o : Op) (r : Reply) (h : List Item) → p.ended ≡ ends h → ends h + 1 < 2 ^ 32 → (noted p o r).ended ≡ ends (Call t o r ∷ h)
noted_ends p t (op.New dest shape) r h same small = same
noted_ends p t op.Collect r h same small = same
noted_ends p t op.End r h same small = small_raised p.ended (ends h) same small
noted_ends p t o r h same small = same

noted_collects : (p : Progress) (t : ℕ) (o : Op) (r : Reply) (h : List Item) → p.collect_called ≡ collect_called h → (noted p o r).collect_called ≡ collect_called (Call t o r ∷ h)
noted_collects p t (op.New dest shape) r h same = same
noted_collects p t op.Collect r h same = or_true p.collect_called
noted_collects p t op.End r h same = or_false p.collect_called ∙ same
noted_collects p t o r h same = or_false p.collect_called ∙ same

noted_news : (p : Progress) (t : ℕ) (o : Op) (r : Reply) (h : List Item) → p.only_news ≡ only_news_since_pause h → (noted p o r).only_news ≡ only_news_since_pause (Call t o r ∷ h)
noted_news p t (op.New dest shape) r h same = same
noted_news p t op.Collect r h same = refl
noted_news p t op.End r h same = refl
noted_news p t o r h same = refl

noted_full : (p : Progress) (t : ℕ) (o : Op) (r : Reply) (h : List Item) → p.collected ≡ is_right_after_collecting h → (noted p o r).collected ≡ is_right_after_collecting (Call t o r ∷ h)
noted_full p t (op.New dest shape) reply.Full h same = and_true p.collected ∙ same
noted_full p t (op.New dest shape) r h same = and_false p.collected
noted_full p t op.Collect r h same = refl
noted_full p t op.End r h same = refl
noted_full p t o r h same = refl

-- ---- one thread

seats_differ : (t u : ℕ) → 1 ≤ t → 1 ≤ u → (u ≡ t → ⊥) → u - 1 ≢ t - 1
seats_differ t u a b differ same = differ (omega (arith, a, b, same))

called_calls : (p : Progress) (terms : Terms) (h : List Item) (t : ℕ) (o : Op) (r : Reply) → 1 ≤ t → t ≤ 16 → length h + 1 < 2 ^ 32 → Tells terms p h
    → (u : ℕ) → 1 ≤ u → u ≤ 16 → slice_index (slice_set p.calls (t - 1) (raised (slice_index p.calls (t - 1)))) (u - 1) ≡ length (calls_of u (Call t o r ∷ h))
called_calls p terms h t o r low high short tells u from to = elim (cases_eq u t) [
  | inl same ↦
      let inside : t - 1 < length p.calls = omega (arith, low, high, tells.sizes.0) in
      let here : length (calls_of t (Call t o r ∷ h)) ≡ suc (length (calls_of t h)) =
      ap length (cond-true (nat_eq t t) (calls_of t h ++ o ∷ []) (calls_of t h) (eq-eqb t t refl)) ∙ (let e = length_push (calls_of t h) o in omega (arith, e)) in
      let few = calls_few t h in
      let P : ℕ → Type 0 = λ v. slice_index (slice_set p.calls (t - 1) (raised (slice_index p.calls (t - 1)))) (v - 1) ≡ length (calls_of v (Call t o r ∷ h)) in
      subst P (sym same) (get_or-set_same p.calls (t - 1) (raised (slice_index p.calls (t - 1))) 0 inside ∙ (small_raised (slice_index p.calls (t - 1)) (length (calls_of t h)) (tells.calls t low high) (omega (arith, short, few)) ∙ sym here))
  | inr other ↦
      get_or-set_other p.calls (t - 1) (u - 1) (raised (slice_index p.calls (t - 1))) 0 (seats_differ t u low from other)
      ∙ (tells.calls u from to ∙ sym (ap length (cond-false (nat_eq u t) (calls_of u h ++ o ∷ []) (calls_of u h) (ne_eqb u t other))))
]

called_since : (p : Progress) (terms : Terms) (h : List Item) (t : ℕ) (o : Op) (r : Reply) → 1 ≤ t → t ≤ 16 → length h + 1 < 2 ^ 32 → Tells terms p h
    → (u : ℕ) → 1 ≤ u → u ≤ 16 → slice_index (slice_set p.since (t - 1) (raised (slice_index p.since (t - 1)))) (u - 1) ≡ calls_since_pause u (Call t o r ∷ h)
called_since p terms h t o r low high short tells u from to = elim (cases_eq u t) [
  | inl same ↦
      let inside : t - 1 < length p.since = omega (arith, low, high, tells.sizes.1) in
      let here : calls_since_pause t (Call t o r ∷ h) ≡ suc (calls_since_pause t h) = cond-true (nat_eq t t) (suc (calls_since_pause t h)) (calls_since_pause t h) (eq-eqb t t refl) in
      let few = since_few t h in
      let P : ℕ → Type 0 = λ v. slice_index (slice_set p.since (t - 1) (raised (slice_index p.since (t - 1)))) (v - 1) ≡ calls_since_pause v (Call t o r ∷ h) in
      subst P (sym same) (get_or-set_same p.since (t - 1) (raised (slice_index p.since (t - 1))) 0 inside ∙ (small_raised (slice_index p.since (t - 1)) (calls_since_pause t h) (tells.since t low high) (omega (arith, short, few)) ∙ sym here))
  | inr other ↦
      get_or-set_other p.since (t - 1) (u - 1) (raised (slice_index p.since (t - 1))) 0 (seats_differ t u low from other)
      ∙ (tells.since u from to ∙ sym (cond-false (nat_eq u t) (suc (calls_since_pause u h)) (calls_since_pause u h) (ne_eqb u t other)))
]

or_turned : (a b : Bool) → (a || b) ≡ ((true && b) || a)
or_turned true true = refl
or_turned true false = refl
or_turned false true = refl
or_turned false false = refl

called_asked : (p : Progress) (terms : Terms) (h : List Item) (t : ℕ) (o : Op) (r : Reply) → 1 ≤ t → t ≤ 16 → Tells terms p h
    → (u : ℕ) → 1 ≤ u → u ≤ 16 → slice_index_or (slice_set p.asked (t - 1) (slice_index_or p.asked (t - 1) false || asks_for_pause o)) (u - 1) false ≡ has_asked u (Call t o r ∷ h)
called_asked p terms h t o r low high tells u from to = elim (cases_eq u t) [
  | inl same ↦
      let inside : t - 1 < length p.asked = omega (arith, low, high, tells.sizes.2) in
      let P : ℕ → Type 0 = λ v. slice_index_or (slice_set p.asked (t - 1) (slice_index_or p.asked (t - 1) false || asks_for_pause o)) (v - 1) false ≡ has_asked v (Call t o r ∷ h) in
      subst P (sym same) (get_or-set_same p.asked (t - 1) (slice_index_or p.asked (t - 1) false || asks_for_pause o) false inside
      ∙ (ap (λ (b : Bool). b || asks_for_pause o) (tells.asked t low high) ∙ (or_turned (has_asked t h) (asks_for_pause o) ∙ ap (λ (b : Bool). (b && asks_for_pause o) || has_asked t h) (sym (eq-eqb t t refl)))))
  | inr other ↦
      get_or-set_other p.asked (t - 1) (u - 1) (slice_index_or p.asked (t - 1) false || asks_for_pause o) false (seats_differ t u low from other)
      ∙ (tells.asked u from to ∙ ap (λ (b : Bool). (b && asks_for_pause o) || has_asked u h) (sym (ne_eqb u t other)))
]

-- ---- the whole

pub call_told : (p : Progress) (terms : Terms) (h : List Item) (t : ℕ) (o : Op) (r : Reply) → 1 ≤ t → t ≤ 16 → length h + 1 < 2 ^ 32 → Tells terms p h → Tells terms (called p t o r) (Call t o r ∷ h)
call_told p terms h t o r low high short tells =
    let q : Progress = record p {
      calls = slice_set p.calls (t - 1) (raised (slice_index p.calls (t - 1)));
      since = slice_set p.since (t - 1) (raised (slice_index p.since (t - 1)));
      asked = slice_set p.asked (t - 1) (slice_index_or p.asked (t - 1) false || asks_for_pause o);
      items = raised p.items;
      whole = false;
    } in
    let same = same_but q o r in
    record {
      sizes = (
        ap length same.calls ∙ (length-set p.calls (t - 1) (raised (slice_index p.calls (t - 1))) ∙ tells.sizes.0),
        ap length same.since ∙ (length-set p.since (t - 1) (raised (slice_index p.since (t - 1))) ∙ tells.sizes.1),
        ap length same.asked ∙ (length-set p.asked (t - 1) (slice_index_or p.asked (t - 1) false || asks_for_pause o) ∙ tells.sizes.2),
      );
      calls = λ u from to. ap (λ (xs : List ℕ). slice_index xs (u - 1)) same.calls ∙ called_calls p terms h t o r low high short tells u from to;
      since = λ u from to. ap (λ (xs : List ℕ). slice_index xs (u - 1)) same.since ∙ called_since p terms h t o r low high short tells u from to;
      asked = λ u from to. ap (λ (xs : List Bool). slice_index_or xs (u - 1) false) same.asked ∙ called_asked p terms h t o r low high tells u from to;
      items = same.items ∙ small_raised p.items (length h) tells.items short;
      pauses = same.pauses ∙ tells.pauses;
      ended = noted_ends q t o r h tells.ended (let few = ends_few h in omega (arith, few, short));
      collect_called = noted_collects q t o r h tells.collect_called;
      only_news = noted_news q t o r h tells.only_news;
      collected = noted_full q t o r h tells.collected;
      early = same.early ∙ tells.early;
      whole = same.whole;
    }

zero_at : (n k : ℕ) → slice_index (replicate n 0) k ≡ 0
zero_at zero zero = refl
zero_at zero (suc k) = refl
zero_at (suc n) zero = refl
zero_at (suc n) (suc k) = zero_at n k

false_at : (n k : ℕ) → slice_index_or (replicate n false) k false ≡ false
false_at zero zero = refl
false_at zero (suc k) = refl
false_at (suc n) zero = refl
false_at (suc n) (suc k) = false_at n k

pub pause_told : (p : Progress) (terms : Terms) (h : List Item) (report : PauseReport) → length h + 1 < 2 ^ 32 → Tells terms p h → Tells terms (paused p terms.threads report.kind) (Pause report ∷ h)
pause_told p terms h report short tells = record {
  sizes = (tells.sizes.0, refl, refl);
  calls = tells.calls;
  since = λ u from to. zero_at 16 (u - 1);
  asked = λ u from to. false_at 16 (u - 1);
  items = small_raised p.items (length h) tells.items short;
  pauses = small_raised p.pauses (pauses_in h) tells.pauses (let few = pauses_few h in omega (arith, few, short));
  ended = tells.ended;
  collect_called = refl;
  only_news = refl;
  collected = refl;
  early = ap (λ (n : ℕ). nat_lt n terms.threads) tells.ended;
  whole = ap (λ (n : ℕ). nat_eq n terms.threads && p.early) tells.ended ∙ ap (λ (b : Bool). nat_eq (ends h) terms.threads && b) tells.early;
}
