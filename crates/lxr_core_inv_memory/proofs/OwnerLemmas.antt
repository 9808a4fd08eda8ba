-- Owners of granules from one epoch state to the next.
use Rattle.std.proofs.Common.{◌≡◌, ◌≢◌, ℕ, ◌+◌, ◌<◌, ◌≤◌, sym, ap, subst, ◌∙◌, inl, inr, ◌⊎◌, arith, List}
use Rattle.std.specs.Prelude.{Some, IsTrue, slice_get, slice_set}
use Rattle.std.proofs.lemmas.Bool.Decides.{eqb_tells}
use Rattle.lxr_layout.specs.declared.TheConstants.{FREE_BLOCK_COUNT, FREE_BLOCK_CURSOR, RUN_CURSOR}
use Rattle.lxr_layout.specs.declared.Name.{Name}
use Rattle.lxr_layout.specs.declared.Shape.{Shape}
use Rattle.lxr_graph.specs.Names.{has}
use Rattle.lxr_graph.specs.State.{Object, object_at}
use Rattle.lxr_image.specs.Image.{granules_of}
use Rattle.lxr_image.specs.Reads.{granule_of}
use Rattle.lxr_alloc.specs.declared.Span.{Span}
use Rattle.lxr_alloc.specs.Spans.{block_span}
use Rattle.lxr_core_invariant.specs.ThreadStates.{Stage, ThreadState, DrewRun, HasRun, DrewBlock, HasBlock, Makes, Works}
use Rattle.lxr_core_invariant.specs.EpochStates.{Beginning, EpochState, moment_of, opening_tables}
use Rattle.lxr_core_invariant.specs.Events.{Source, span_from}
use Rattle.lxr_core_invariant.specs.Drawn.{Drawers, HasDrawn, HasGranule, HasMadeInBlock, HaveDrawn, InHand, InMaking, InSpan, IsDrawnMemory, IsHandOf, IsOfHand, IsOfMaking, IsOfMember, IsUsed, LieInDrawn, MakesIn, MakesInBlock, OfMember, Owner, Owns, Shown, UndrawnBlock, UndrawnRun, WasServed}
use Rattle.lxr_core_invariant.proofs.ShowingLemmas.{set_elsewhere, set_here, shown_cases}
use Rattle.lxr_core_inv_memory.proofs.CarryLemmas.{Carries, covers_moved}

-- ---- mutator i shows another thread state, and no cursor has fallen

-- mutator i, which showed v, shows w, and no cursor has fallen
pub record Turns (s u : EpochState) (i : ℕ) (v w : ThreadState) : Type 0 where
  pub shown : slice_get s.thread_states i ≡ Some v
  pub thread_states : u.thread_states ≡ slice_set s.thread_states i w
  pub runs : s.tables.cursors RUN_CURSOR ≤ u.tables.cursors RUN_CURSOR
  pub blocks : s.tables.cursors FREE_BLOCK_CURSOR ≤ u.tables.cursors FREE_BLOCK_CURSOR

-- what is shown afterwards
pub shown_split : (s u : EpochState) (i : ℕ) (v w : ThreadState) → Turns s u i v w → (j : ℕ) (x : ThreadState) → slice_get u.thread_states j ≡ Some x → ((j ≡ i) × (x ≡ w)) ⊎ ((j ≢ i) × (slice_get s.thread_states j ≡ Some x))
shown_split s u i v w turns j x is = shown_cases s.thread_states i v w j x turns.shown (subst (λ thread_states. slice_get thread_states j ≡ Some x) turns.thread_states is)

-- the mutator shows its new thread state
pub shown_now : (s u : EpochState) (i : ℕ) (v w : ThreadState) → Turns s u i v w → slice_get u.thread_states i ≡ Some w
shown_now s u i v w turns = ap (λ (thread_states : List ThreadState). slice_get thread_states i) turns.thread_states ∙ set_here s.thread_states i w v turns.shown

-- each other mutator shows what it showed
pub shown_still : (s u : EpochState) (i : ℕ) (v w : ThreadState) (j : ℕ) (x : ThreadState) → Turns s u i v w → j ≢ i → slice_get s.thread_states j ≡ Some x → slice_get u.thread_states j ≡ Some x
shown_still s u i v w j x turns differ is = ap (λ (thread_states : List ThreadState). slice_get thread_states j) turns.thread_states ∙ set_elsewhere s.thread_states i j w differ ∙ is

-- what a mutator shows it showed before, or it is the one that turns
shown_back : (P : ThreadState → Type 0) (N : ℕ → Type 0) (Q : Type 0) (s u : EpochState) (i : ℕ) (v w : ThreadState) → Turns s u i v w → (P w → P v ⊎ (N i × Q)) → (j : ℕ) → Shown u j P → Shown s j P ⊎ (N j × Q)
shown_back P N Q s u i v w turns own j shows = elim (shown_split s u i v w turns j shows.0 shows.1) [
  | inl e ↦ elim (own (subst P e.1 shows.2)) [
    | inl p ↦ inl (v, subst (λ n. slice_get s.thread_states n ≡ Some v) (sym e.0) turns.shown, p)
    | inr q ↦ inr (subst N (sym e.0) q.0, q.1)
  ]
  | inr e ↦ inl (shows.0, e.1, shows.2)
]

-- what a mutator showed it shows still, or it is the one that turns
shown_on : (P : ThreadState → Type 0) (s u : EpochState) (i : ℕ) (v w : ThreadState) → Turns s u i v w → (j : ℕ) → Shown s j P → P v ⊎ Shown u j P
shown_on P s u i v w turns j shows = elim (eqb_tells j i) [
  | inl e ↦
      let both : Some shows.0 ≡ Some v = sym shows.1 ∙ ap (slice_get s.thread_states) e.1 ∙ turns.shown in
      let same : shows.0 ≡ v = cc in inl (subst P same shows.2)
  | inr e ↦ inr (shows.0, shown_still s u i v w j shows.0 turns e.1 shows.1, shows.2)
]

-- ---- owners go back

-- New owners have a granule of an owner before; the others owned theirs before. No two share one.
pub record GoBack (b : Beginning) (s u : EpochState) (i : ℕ) (v w : ThreadState) (source : Owner) (IsNew : Owner → Type 0) : Type 0 where
  pub hand : (g : ℕ) → IsOfHand b w.stage g → IsOfHand b v.stage g ⊎ (IsNew (InHand i) × Owns b s source g)
  pub span : (from : Source) (g : ℕ) → HasGranule (span_from from w.spans) g → HasGranule (span_from from v.spans) g ⊎ (IsNew (InSpan i from) × Owns b s source g)
  pub making : (g : ℕ) → IsOfMaking w.stage g → IsOfMaking v.stage g ⊎ (IsNew (InMaking i) × Owns b s source g)
  pub member : (n : Name) (g : ℕ) → IsOfMember b u n g → IsOfMember b s n g ⊎ (IsNew (OfMember n) × Owns b s source g)
  pub apart : (x y : Owner) (g : ℕ) → IsNew x → Owns b u x g → Owns b u y g → IsNew y ⊎ (y ≡ source) → x ≡ y

-- an owner owned its granule before, or is new
owned : (b : Beginning) (s u : EpochState) (i : ℕ) (v w : ThreadState) (source : Owner) (IsNew : Owner → Type 0) → Turns s u i v w → GoBack b s u i v w source IsNew
    → (x : Owner) (g : ℕ) → Owns b u x g → Owns b s x g ⊎ (IsNew x × Owns b s source g)
owned b s u i v w source IsNew turns back (UndrawnRun k) g owns = inl (let runs = turns.runs in let undrawn = owns.0 in omega (arith, runs, undrawn), owns.1)
owned b s u i v w source IsNew turns back (UndrawnBlock k) g owns = inl (let blocks = turns.blocks in let undrawn = owns.0 in omega (arith, blocks, undrawn), owns.1)
owned b s u i v w source IsNew turns back (InHand j) g owns =
    shown_back (λ x. IsOfHand b x.stage g) (λ n. IsNew (InHand n)) (Owns b s source g) s u i v w turns (back.hand g) j owns
owned b s u i v w source IsNew turns back (InSpan j from) g owns =
    shown_back (λ x. HasGranule (span_from from x.spans) g) (λ n. IsNew (InSpan n from)) (Owns b s source g) s u i v w turns (back.span from g) j owns
owned b s u i v w source IsNew turns back (InMaking j) g owns =
    shown_back (λ x. IsOfMaking x.stage g) (λ n. IsNew (InMaking n)) (Owns b s source g) s u i v w turns (back.making g) j owns
owned b s u i v w source IsNew turns back (OfMember n) g owns = back.member n g owns

-- no granule has two owners
abbrev pub HaveOne : Beginning → EpochState → Type 0
HaveOne b s = (g : ℕ) (x y : Owner) → Owns b s x g → Owns b s y g → x ≡ y

-- so no granule has two owners afterwards
pub one_kept : (b : Beginning) (s u : EpochState) (i : ℕ) (v w : ThreadState) (source : Owner) (IsNew : Owner → Type 0) → Turns s u i v w → GoBack b s u i v w source IsNew → HaveOne b s → HaveOne b u
one_kept b s u i v w source IsNew turns back one g x y has_x has_y =
    let was = owned b s u i v w source IsNew turns back in
    elim (was x g has_x) [
      | inl a ↦ elim (was y g has_y) [
        | inl c ↦ one g x y a c
        | inr c ↦ sym (back.apart y x g c.0 has_y has_x (inr (one g x source a c.1)))
      ]
      | inr a ↦ elim (was y g has_y) [
        | inl c ↦ back.apart x y g a.0 has_x has_y (inr (one g y source c a.1))
        | inr c ↦ back.apart x y g a.0 has_x has_y (inl c.0)
      ]
    ]

-- ---- the other parts

-- who drew a number before has drawn it now
pub record AreMore (d e : Drawers) : Type 0 where
  pub runs : (k t : ℕ) → slice_get d.runs k ≡ Some t → slice_get e.runs k ≡ Some t
  pub blocks : (k t : ℕ) → slice_get d.blocks k ≡ Some t → slice_get e.blocks k ≡ Some t

-- none has drawn
pub same_drawers : (d : Drawers) → AreMore d d
same_drawers d = record { runs = λ k t h. h; blocks = λ k t h. h }

-- a number in hand is of the same thread still
pub hand_more : (b : Beginning) (d e : Drawers) (t : ℕ) (stage : Stage) → AreMore d e → HasDrawn b d t stage → HasDrawn b e t stage
hand_more b d e t (Works (DrewRun k)) more is = more.runs k t is
hand_more b d e t (Works (HasRun k)) more is = (more.runs k t is.0, is.1)
hand_more b d e t (Works (DrewBlock k)) more is = more.blocks k t is
hand_more b d e t (Works (HasBlock k)) more is = (more.blocks k t is.0, is.1)
hand_more b d e t stage more is = tt

-- what lies in drawn memory does so still
pub lie_more : (b : Beginning) (d e : Drawers) (t first end : ℕ) → AreMore d e → LieInDrawn b d t first end → LieInDrawn b e t first end
lie_more b d e t first end more (inl is) = inl (record { number = is.number; drawn = more.runs is.number t is.drawn; listed = is.listed; run = is.run; lists = is.lists; within = is.within })
lie_more b d e t first end more (inr is) = inr (record { number = is.number; drawn = more.blocks is.number t is.drawn; listed = is.listed; within = is.within })

-- so does the object that a mutator makes
pub makes_more : (b : Beginning) (d e : Drawers) (t place : ℕ) (shape : Shape) → AreMore d e → MakesIn b d t place shape → MakesIn b e t place shape
makes_more b d e t place shape more is = record { placed = is.placed; fits = is.fits; drawn = lie_more b d e t _ _ more is.drawn }

-- a span is empty, or lies in what a thread has drawn
abbrev pub SpanLies : Beginning → Drawers → ℕ → Span → Type 0
SpanLies b d t span = (span.end ≤ span.next) ⊎ LieInDrawn b d t span.next span.end

-- and a span
pub span_more : (b : Beginning) (d e : Drawers) (t : ℕ) (span : Span) → AreMore d e → SpanLies b d t span → SpanLies b e t span
span_more b d e t span more (inl none) = inl none
span_more b d e t span more (inr lies) = inr (lie_more b d e t _ _ more lies)

-- where an object that was made lies
abbrev pub Lies : Beginning → Drawers → EpochState → Name → Object → Type 0
Lies b d s n o = WasServed b s n o ⊎ LieInDrawn b d n.thread (granule_of (s.at n)) (granule_of (s.at n) + granules_of o)

abbrev pub MadeLies : Beginning → Drawers → EpochState → Type 0
MadeLies b d s = (n : Name) (o : Object) → IsTrue (has (moment_of b s).made n) → object_at (moment_of b s).state.graph n ≡ Some o → Lies b d s n o

-- of an object that stands where it did and has as many granules
pub made_more : (b : Beginning) (d e : Drawers) (s u : EpochState) (n : Name) (o a : Object) → AreMore d e → u.at n ≡ s.at n → object_at (moment_of b s).state.graph n ≡ Some a → granules_of o ≡ granules_of a → Lies b d s n a → Lies b e u n o
made_more b d e s u n o a more at is size (inl served) = inl (record {
  stood = served.stood;
  out = λ g covers. served.out g (covers_moved (moment_of b s).state.graph (moment_of b u).state.graph s.at u.at n o a g at size is covers);
})
made_more b d e s u n o a more at is size (inr lies) =
    inr (subst (λ p. LieInDrawn b e n.thread (granule_of p) (granule_of p + granules_of o)) (sym at)
    (subst (λ z. LieInDrawn b e n.thread (granule_of (s.at n)) (granule_of (s.at n) + z)) (sym size) (lie_more b d e n.thread _ _ more lies)))

-- and what was made, where no object begins to stand
pub made_carried : (b : Beginning) (d e : Drawers) (s u : EpochState) → AreMore d e → Carries b s u → MadeLies b d s → MadeLies b e u
made_carried b d e s u more carries made n o h is =
    let a = carries.made n o h is in
    made_more b d e s u n o a.0 more (ap (λ (f : Name → ℕ). f n) carries.at) a.2 a.3 (made n a.0 a.1 a.2)

-- an object that was made in a drawn block is in it still
pub made_in_carried : (b : Beginning) (s u : EpochState) (k : ℕ) → Carries b s u → HasMadeInBlock b s k → HasMadeInBlock b u k
made_in_carried b s u k carries is = record {
  name = is.name;
  made = carries.makes is.name is.made;
  granule = subst (λ (f : Name → ℕ). HasGranule (block_span ((opening_tables b).frees k)) (granule_of (f is.name))) (sym carries.at) is.granule;
}

-- a drawn block is used as before, where what mutator i did with it is so
pub used_kept : (b : Beginning) (s u : EpochState) (i : ℕ) (v w : ThreadState) (k : ℕ) → Turns s u i v w → (IsHandOf v.stage k → IsUsed b u k) → (MakesInBlock b v.stage k → IsUsed b u k)
    → (HasMadeInBlock b s k → IsUsed b u k) → IsUsed b s k → IsUsed b u k
used_kept b s u i v w k turns hand making made (inl x) =
    elim (shown_on (λ y. IsHandOf y.stage k) s u i v w turns x.0 x.1) [ inl p ↦ hand p | inr shows ↦ inl (x.0, shows) ]
used_kept b s u i v w k turns hand making made (inr (inl x)) =
    elim (shown_on (λ y. MakesInBlock b y.stage k) s u i v w turns x.0 x.1) [ inl p ↦ making p | inr shows ↦ inr (inl (x.0, shows)) ]
used_kept b s u i v w k turns hand making made (inr (inr x)) = made x

-- ---- the whole

-- what holds of a mutator that has turned, and who has drawn by now
pub record HasTurned (b : Beginning) (d e : Drawers) (u : EpochState) (i : ℕ) (w : ThreadState) : Type 0 where
  pub more : AreMore d e
  pub numbers : HaveDrawn e u
  pub hand : HasDrawn b e (i + 1) w.stage
  pub spans : (from : Source) → SpanLies b e (i + 1) (span_from from w.spans)
  pub makes : (place : ℕ) (shape : Shape) (wiped : ℕ) → w.stage ≡ Works (Makes place shape wiped) → MakesIn b e (i + 1) place shape

-- drawn memory stays one maker's, part by part
pub drawn_kept : (b : Beginning) (s u : EpochState) (i : ℕ) (v w : ThreadState) (is : IsDrawnMemory b s) (e : Drawers) → Turns s u i v w → HaveOne b u → HasTurned b is.drawers e u i w → MadeLies b e u
    → ((k : ℕ) → k < u.tables.cursors FREE_BLOCK_CURSOR → k < (opening_tables b).cursors FREE_BLOCK_COUNT → IsUsed b u k) → IsDrawnMemory b u
drawn_kept b s u i v w is e turns one turned made used =
    let more = turned.more in
    record {
      drawers = e;
      numbers = turned.numbers;
      one = one;
      hands = λ j x shows. elim (shown_split s u i v w turns j x shows) [
        | inl q ↦ subst (λ n. HasDrawn b e (n + 1) x.stage) (sym q.0) (subst (λ (y : ThreadState). HasDrawn b e (i + 1) y.stage) (sym q.1) turned.hand)
        | inr q ↦ hand_more b is.drawers e (j + 1) x.stage more (is.hands j x q.1)
      ];
      spans = λ j x from shows. elim (shown_split s u i v w turns j x shows) [
        | inl q ↦ subst (λ n. SpanLies b e (n + 1) (span_from from x.spans)) (sym q.0) (subst (λ (y : ThreadState). SpanLies b e (i + 1) (span_from from y.spans)) (sym q.1) (turned.spans from))
        | inr q ↦ span_more b is.drawers e (j + 1) (span_from from x.spans) more (is.spans j x from q.1)
      ];
      makes = λ j x place shape wiped shows stage. elim (shown_split s u i v w turns j x shows) [
        | inl q ↦ subst (λ n. MakesIn b e (n + 1) place shape) (sym q.0) (turned.makes place shape wiped (ap (λ (y : ThreadState). y.stage) (sym q.1) ∙ stage))
        | inr q ↦ makes_more b is.drawers e (j + 1) place shape more (is.makes j x place shape wiped q.1 stage)
      ];
      made = made;
      used = used;
    }

-- ---- cursors that stay

-- a turn at which no cursor moves
pub turns_still : (s u : EpochState) (i : ℕ) (v w : ThreadState) → slice_get s.thread_states i ≡ Some v → u.thread_states ≡ slice_set s.thread_states i w → u.tables.cursors RUN_CURSOR ≡ s.tables.cursors RUN_CURSOR → u.tables.cursors FREE_BLOCK_CURSOR ≡ s.tables.cursors FREE_BLOCK_CURSOR → Turns s u i v w
turns_still s u i v w shown thread_states runs blocks = record { shown = shown; thread_states = thread_states; runs = omega (arith, runs); blocks = omega (arith, blocks) }

-- where no cursor moves, those who have drawn are those who had
pub record StandStill (s u : EpochState) : Type 0 where
  pub runs : u.tables.cursors RUN_CURSOR ≡ s.tables.cursors RUN_CURSOR
  pub blocks : u.tables.cursors FREE_BLOCK_CURSOR ≡ s.tables.cursors FREE_BLOCK_CURSOR

pub drawers_still : (b : Beginning) (s u : EpochState) (d : Drawers) → HaveDrawn d s → StandStill s u → HaveDrawn d u
drawers_still b s u d have still = record { runs = have.runs ∙ sym still.runs; blocks = have.blocks ∙ sym still.blocks }
