-- A mutator takes an object from the front of a span: of one that it has, or of a run or a block in its hand.
use Rattle.std.proofs.Common.{◌≡◌, ℕ, ◌+◌, ◌<◌, ◌≤◌, refl, sym, ap, subst, ◌∙◌, inl, inr, ◌⊎◌, arith}
use Rattle.lxr_layout.specs.declared.TheConstants.{FREE_BLOCK_COUNT}
use Rattle.lxr_layout.specs.declared.Shape.{Shape}
use Rattle.lxr_layout.specs.Objects.{FitsShape}
use Rattle.lxr_image.specs.Reads.{granule_of}
use Rattle.lxr_alloc.specs.declared.Span.{Span}
use Rattle.lxr_alloc.specs.declared.Spans.{Spans}
use Rattle.lxr_alloc.specs.Spans.{FitsSpan, granule_count, taken_from}
use Rattle.lxr_core_invariant.specs.ThreadStates.{ThreadState, Makes, Works}
use Rattle.lxr_core_invariant.specs.EpochStates.{Beginning, EpochState, opening_tables}
use Rattle.lxr_core_invariant.specs.Events.{Source, Current, Overflow, making, span_from, spans_after, with_span}
use Rattle.lxr_core_invariant.specs.Drawn.{Drawers, HasDrawn, HasGranule, InMaking, InSpan, IsDrawnMemory, IsHandOf, IsOfHand, IsOfMaking, IsUsed, LieInDrawn, MakesIn, MakesInBlock, Owner, Owns, Shown}
use Rattle.lxr_core_inv_memory.proofs.CarryLemmas.{Carries}
use Rattle.lxr_core_inv_memory.proofs.OwnerLemmas.{GoBack, SpanLies, StandStill, Turns, drawers_still, drawn_kept, made_carried, made_in_carried, one_kept, same_drawers, shown_split, used_kept}

-- ---- spans

-- an object is taken from the front of its span
own_span : (from : Source) (spans : Spans) (shape : Shape) → span_from from (spans_after from spans shape) ≡ taken_from (span_from from spans) shape
own_span Current spans shape = refl
own_span Overflow spans shape = refl

-- the other span stays
other_span : (from other : Source) (spans : Spans) (shape : Shape) → (other ≡ from) ⊎ (span_from other (spans_after from spans shape) ≡ span_from other spans)
other_span Current Current spans shape = inl refl
other_span Current Overflow spans shape = inr refl
other_span Overflow Current spans shape = inr refl
other_span Overflow Overflow spans shape = inl refl

-- a span that is put is there
own_put : (from : Source) (spans : Spans) (span : Span) → span_from from (with_span from spans span) ≡ span
own_put Current spans span = refl
own_put Overflow spans span = refl

-- the other span stays
other_put : (from other : Source) (spans : Spans) (span : Span) → (other ≡ from) ⊎ (span_from other (with_span from spans span) ≡ span_from other spans)
other_put Current Current spans span = inl refl
other_put Current Overflow spans span = inr refl
other_put Overflow Current spans span = inr refl
other_put Overflow Overflow spans span = inl refl

-- The thread state that makes an object at the front of a span, whose rest becomes one of its spans.
pub record IsTaken (v w : ThreadState) (from : Source) (span : Span) (shape : Shape) : Type 0 where
  pub stage : w.stage ≡ Works (Makes (span.next + 1) shape 0)
  pub own : span_from from w.spans ≡ taken_from span shape
  pub others : (other : Source) → (other ≡ from) ⊎ (span_from other w.spans ≡ span_from other v.spans)

-- an object taken from a span that the mutator has
pub taken_own : (v : ThreadState) (from : Source) (shape : Shape) → IsTaken v (making v from v.spans shape) from (span_from from v.spans) shape
taken_own v from shape = record { stage = refl; own = own_span from v.spans shape; others = λ other. other_span from other v.spans shape }

-- an object taken from a span that the mutator puts in place of its own
pub taken_put : (v : ThreadState) (from : Source) (span : Span) (shape : Shape) → IsTaken v (making v from (with_span from v.spans span) shape) from span shape
taken_put v from span shape =
    let spans : Spans = with_span from v.spans span in
    let put : span_from from spans ≡ span = own_put from v.spans span in
    record {
      stage = ap (λ (z : Span). Works (Makes (z.next + 1) shape 0)) put;
      own = own_span from spans shape ∙ ap (λ z. taken_from z shape) put;
      others = λ other. elim (other_span from other spans shape) [
        | inl e ↦ inl e
        | inr e ↦ elim (other_put from other v.spans span) [ inl k ↦ inl k | inr k ↦ inr (e ∙ k) ]
      ];
    }

-- an object takes a granule at least
pub some_granule : (shape : Shape) → 1 ≤ granule_count shape
some_granule shape = omega arith

-- ---- owners

-- the owners of what is taken: the rest of the span, and the object in making
abbrev pub IsTaker : ℕ → Source → Owner → Type 0
IsTaker i from x = (x ≡ InSpan i from) ⊎ (x ≡ InMaking i)

-- what mutator i shows
pub shown_is : (P : ThreadState → Type 0) (s u : EpochState) (i : ℕ) (v w : ThreadState) → Turns s u i v w → Shown u i P → P w
shown_is P s u i v w turns shows = elim (shown_split s u i v w turns i shows.0 shows.1) [
  | inl e ↦ subst P e.1 shows.2
  | inr e ↦ absurd (e.0 refl)
]

-- the rest of a span and the object from its front share no granule
rest_and_front : (span : Span) (shape : Shape) (g : ℕ) → HasGranule (taken_from span shape) g → IsOfMaking (Works (Makes (span.next + 1) shape 0)) g → ⊥
rest_and_front span shape g rest front = let first = rest.first in let behind = front.1 in absurd (omega (arith, first, behind))

-- the rest of a span is part of it
rest_is : (span : Span) (shape : Shape) (g : ℕ) → HasGranule (taken_from span shape) g → HasGranule span g
rest_is span shape g rest = let first = rest.first in record { first = omega (arith, first); behind = rest.behind }

-- so is the object from its front
front_is : (span : Span) (shape : Shape) (g : ℕ) → FitsSpan span shape → IsOfMaking (Works (Makes (span.next + 1) shape 0)) g → HasGranule span g
front_is span shape g room front =
    let some = some_granule shape in
    let first = front.0 in
    let behind = front.1 in
    record { first = omega (arith, first); behind = omega (arith, behind, room, some) }

-- the two takers share no granule
takers_apart : (b : Beginning) (s u : EpochState) (i : ℕ) (v w : ThreadState) (from : Source) (span : Span) (shape : Shape) (g : ℕ) → Turns s u i v w → IsTaken v w from span shape
    → Owns b u (InSpan i from) g → Owns b u (InMaking i) g → ⊥
takers_apart b s u i v w from span shape g turns taken rest front =
    let has_rest = shown_is (λ x. HasGranule (span_from from x.spans) g) s u i v w turns rest in
    let has_front = shown_is (λ x. IsOfMaking x.stage g) s u i v w turns front in
    rest_and_front span shape g (subst (λ z. HasGranule z g) taken.own has_rest) (subst (λ z. IsOfMaking z g) taken.stage has_front)

-- a granule has one taker
one_taker : (b : Beginning) (s u : EpochState) (i : ℕ) (v w : ThreadState) (from : Source) (span : Span) (shape : Shape) (x y : Owner) (g : ℕ) → Turns s u i v w → IsTaken v w from span shape
    → IsTaker i from x → Owns b u x g → Owns b u y g → IsTaker i from y → x ≡ y
one_taker b s u i v w from span shape x y g turns taken (inl e) has_x has_y (inl k) = e ∙ sym k
one_taker b s u i v w from span shape x y g turns taken (inr e) has_x has_y (inr k) = e ∙ sym k
one_taker b s u i v w from span shape x y g turns taken (inl e) has_x has_y (inr k) =
    absurd (takers_apart b s u i v w from span shape g turns taken (subst (λ z. Owns b u z g) e has_x) (subst (λ z. Owns b u z g) k has_y))
one_taker b s u i v w from span shape x y g turns taken (inr e) has_x has_y (inl k) =
    absurd (takers_apart b s u i v w from span shape g turns taken (subst (λ z. Owns b u z g) k has_y) (subst (λ z. Owns b u z g) e has_x))

-- what the takers have was of the span's owner
taking_back : (b : Beginning) (s u : EpochState) (i : ℕ) (v w : ThreadState) (from : Source) (span : Span) (shape : Shape) (source : Owner) → Turns s u i v w → Carries b s u → IsTaken v w from span shape → FitsSpan span shape
    → ((g : ℕ) → HasGranule span g → Owns b s source g) → ((g : ℕ) → Owns b u source g → source ≡ InSpan i from) → GoBack b s u i v w source (IsTaker i from)
taking_back b s u i v w from span shape source turns carries taken room owned left = record {
  hand = λ g h. absurd (subst (λ z. IsOfHand b z g) taken.stage h);
  span = λ other g h. elim (taken.others other) [
    | inl e ↦ inr (inl (ap (InSpan i) e), owned g (rest_is span shape g (subst (λ z. HasGranule z g) taken.own (subst (λ z. HasGranule (span_from z w.spans) g) e h))))
    | inr e ↦ inl (subst (λ z. HasGranule z g) e h)
  ];
  making = λ g h. inr (inr refl, owned g (front_is span shape g room (subst (λ z. IsOfMaking z g) taken.stage h)));
  member = λ n g h. inl (carries.members n g h);
  apart = λ x y g new has_x has_y other. one_taker b s u i v w from span shape x y g turns taken new has_x has_y (elim other [
    | inl is ↦ is
    | inr e ↦ inl (e ∙ left g (subst (λ z. Owns b u z g) e has_y))
  ]);
}

-- ---- the whole

-- a part of what lies in drawn memory does so too
lie_part : (b : Beginning) (d : Drawers) (t first end low high : ℕ) → first ≤ low → high ≤ end → LieInDrawn b d t first end → LieInDrawn b d t low high
lie_part b d t first end low high below above (inl is) =
    let first_in = is.within.0 in
    let end_in = is.within.1 in
    inl (record { number = is.number; drawn = is.drawn; listed = is.listed; run = is.run; lists = is.lists; within = (omega (arith, first_in, below), omega (arith, end_in, above)) })
lie_part b d t first end low high below above (inr is) =
    let first_in = is.within.0 in
    let end_in = is.within.1 in
    inr (record { number = is.number; drawn = is.drawn; listed = is.listed; within = (omega (arith, first_in, below), omega (arith, end_in, above)) })

-- so does the rest of a span
rest_lies : (b : Beginning) (d : Drawers) (t : ℕ) (span : Span) (shape : Shape) → LieInDrawn b d t span.next span.end → SpanLies b d t (taken_from span shape)
rest_lies b d t span shape lies = inr (lie_part b d t span.next span.end (span.next + granule_count shape) span.end (omega arith) (omega arith) lies)

-- and the object from its front
front_lies : (b : Beginning) (d : Drawers) (t : ℕ) (span : Span) (shape : Shape) → FitsSpan span shape → FitsShape shape → LieInDrawn b d t span.next span.end → MakesIn b d t (span.next + 1) shape
front_lies b d t span shape room fits lies =
    let some = some_granule shape in
    record {
      placed = omega arith;
      fits = fits;
      drawn = lie_part b d t span.next span.end (granule_of (span.next + 1)) (granule_of (span.next + 1) + granule_count shape) (omega arith) (omega (arith, room, some)) lies;
    }

-- an object that is taken keeps drawn memory one maker's
pub taking_kept : (b : Beginning) (s u : EpochState) (i : ℕ) (v w : ThreadState) (from : Source) (span : Span) (shape : Shape) (source : Owner) (is : IsDrawnMemory b s) → Turns s u i v w → Carries b s u
    → IsTaken v w from span shape → FitsSpan span shape → FitsShape shape → LieInDrawn b is.drawers (i + 1) span.next span.end
    → ((g : ℕ) → HasGranule span g → Owns b s source g) → ((g : ℕ) → Owns b u source g → source ≡ InSpan i from)
    → StandStill s u → ((k : ℕ) → k < (opening_tables b).cursors FREE_BLOCK_COUNT → IsHandOf v.stage k → IsUsed b u k) → ((k : ℕ) → MakesInBlock b v.stage k → ⊥) → IsDrawnMemory b u
taking_kept b s u i v w from span shape source is turns carries taken room fits lies owned left still hand_used unmade =
    let back = taking_back b s u i v w from span shape source turns carries taken room owned left in
    let d = is.drawers in
    let cursor = still.blocks in
    drawn_kept b s u i v w is d turns (one_kept b s u i v w source (IsTaker i from) turns back is.one)
    (record {
      more = same_drawers d;
      numbers = drawers_still b s u d is.numbers still;
      hand = subst (λ z. HasDrawn b d (i + 1) z) (sym taken.stage) tt;
      spans = λ other. elim (taken.others other) [
        | inl e ↦ subst (λ z. SpanLies b d (i + 1) (span_from z w.spans)) (sym e) (subst (SpanLies b d (i + 1)) (sym taken.own) (rest_lies b d (i + 1) span shape lies))
        | inr e ↦ subst (SpanLies b d (i + 1)) (sym e) (is.spans i v other turns.shown)
      ];
      makes = λ place made wiped stage.
          let both : Works (Makes (span.next + 1) shape 0) ≡ Works (Makes place made wiped) = sym taken.stage ∙ stage in
          let same_place : span.next + 1 ≡ place = cc in
          let same_shape : shape ≡ made = cc in
          subst (λ z. MakesIn b d (i + 1) place z) same_shape (subst (λ z. MakesIn b d (i + 1) z shape) same_place (front_lies b d (i + 1) span shape room fits lies));
    })
    (made_carried b d d s u (same_drawers d) carries is.made)
    (λ k drawn listed. used_kept b s u i v w k turns (hand_used k listed) (λ h. absurd (unmade k h)) (λ made. inr (inr (made_in_carried b s u k carries made)))
    (is.used k (omega (arith, drawn, cursor)) listed))
