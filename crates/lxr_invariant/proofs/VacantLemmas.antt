-- An open line is one that is neither out nor overlapped by an unreclaimed object: such an object has its start bit where it begins, and a mark on
-- each further line; and no count stands elsewhere.
use Rattle.std.proofs.Common.{◌≡◌, ℕ, ◌+◌, ◌*◌, ◌/◌, ◌%◌, ◌<◌, ◌≤◌, sym, ap, subst, ◌∙◌, arith, List, true, false, inl, inr}
use Rattle.std.specs.Prelude.{◌↔◌, IsTrue, Some, slice_index}
use Rattle.std.proofs.lemmas.Bool.{false_from_ne_true}
use Rattle.std.proofs.lemmas.Bool.Decides.{leb_tells}
use Rattle.lxr_layout.specs.declared.Name.{Name}
use Rattle.lxr_layout.specs.declared.TheConstants.{GRANULES_IN_LINE, LINES_IN_BLOCK, STUCK}
use Rattle.lxr_graph.specs.Names.{has}
use Rattle.lxr_graph.specs.State.{Graph, Object, object_at}
use Rattle.lxr_image.specs.declared.space.Space.{Space}
use Rattle.lxr_image.specs.Tables.{Tables, tables_in}
use Rattle.lxr_image.specs.Spaces.{tables_of}
use Rattle.lxr_image.specs.Reads.{granule_of}
use Rattle.lxr_image.specs.Image.{IsImage, StartsAre, granules_of}
use Rattle.lxr_image.specs.Settled.{IsFreeLine, IsOpenLine, IsStateOf, KnowsBlock, SameLines, line_of, of_blocks}
use Rattle.lxr_image.proofs.SettledLemmas.{longest_alike, state_alike}
use Rattle.lxr_image.proofs.WriteLemmas.{lines_at}
use Rattle.lxr_model.specs.Moments.{Moment}
use Rattle.lxr_invariant.specs.AbstractState.{members}
use Rattle.lxr_invariant.specs.Lines.{HasMarks, IsMarkOf, IsTakenBy}
use Rattle.lxr_invariant.specs.Quiescent.{HoldsMoment}
use Rattle.lxr_invariant.specs.Raised.{IsRaised, with_promoted}
use Rattle.lxr_invariant.specs.Vacant.{IsMaskOfVacant, IsVacant, LinesAreVacant, NoneIsUncounted, OpenAreVacant, SettledAreVacant}
use Rattle.lxr_invariant.proofs.CopiedLemmas.{some_granules}
use Rattle.lxr_invariant.proofs.NameLemmas.{in_first}

-- a granule of a line, by its number in the line
in_line : (line k : ℕ) → k / GRANULES_IN_LINE ≡ line → GRANULES_IN_LINE * line + k % GRANULES_IN_LINE ≡ k
in_line line k here = omega (arith, here)

of_line : (line k : ℕ) → k < GRANULES_IN_LINE → (GRANULES_IN_LINE * line + k) / GRANULES_IN_LINE ≡ line
of_line line k small = omega arith

-- one that an object has on the line on which it begins, and one on a further line
begins_here : (line first k : ℕ) → GRANULES_IN_LINE * line ≤ first → first ≤ k → k / GRANULES_IN_LINE ≡ line → first / GRANULES_IN_LINE ≡ line
begins_here line first k from to here = omega (arith, from, to, here)

begins_before : (line last k : ℕ) → k < last → k / GRANULES_IN_LINE ≡ line → GRANULES_IN_LINE * line < last
begins_before line last k below here = omega (arith, below, here)

module _ (t : Tables) (blocks : ℕ) (at : Name → ℕ) (g : Graph) (ms us : List Name) (image : IsImage t blocks at g ms) (sub : (n : Name) → IsTrue (has us n) → IsTrue (has ms n))
    (starts : StartsAre t at us) (marks : HasMarks t g at us) where
  -- ---- open lines are vacant

  unbegun : (line k : ℕ) → IsOpenLine t line → k / GRANULES_IN_LINE ≡ line → t.starts k ≡ false
  unbegun line k is here = sym (ap t.starts (in_line line k here)) ∙ is.unbegun (k % GRANULES_IN_LINE) (omega arith)

  untaken : (line : ℕ) → IsOpenLine t line → IsTakenBy g at us line → ⊥
  untaken line is (n, o, k, member, covers, here) = elim (leb_tells (GRANULES_IN_LINE * line) (granule_of (at n))) [
    | inl e ↦
        let none = unbegun line (granule_of (at n)) is (begins_here line (granule_of (at n)) k e.1 covers.first here) in
        let q : true ≡ false = sym (starts.each n member) ∙ none in
        cc
    | inr e ↦
        let mark : IsMarkOf at n o (GRANULES_IN_LINE * line) = record { begins = omega arith; behind = e.1; within = begins_before line (granule_of (at n) + granules_of o) k covers.behind here } in
        let stuck = marks.marked n o (GRANULES_IN_LINE * line) member covers.object mark in
        let first : GRANULES_IN_LINE * line ≡ GRANULES_IN_LINE * line + 0 = omega arith in
        let q : STUCK ≡ 0 = sym stuck ∙ ap t.counts first ∙ is.free.uncounted 0 (omega arith) in
        omega (arith, q)
  ]

  -- ---- vacant lines are open

  -- where an object begins it has a granule
  begun : (line k : ℕ) (n : Name) → IsVacant t g at us line → k < GRANULES_IN_LINE → IsTrue (has us n) → granule_of (at n) ≡ GRANULES_IN_LINE * line + k → ⊥
  begun line k n is small member same =
      let x = image.stands n (sub n member) in
      let some = some_granules x.0 in
      is.untaken (n, x.0, GRANULES_IN_LINE * line + k, member, record { object = x.1; first = omega (arith, same); behind = omega (arith, same, some) }, of_line line k small)

  reached : (line k : ℕ) (n : Name) (o : Object) → IsVacant t g at us line → k < GRANULES_IN_LINE → IsTrue (has us n) → object_at g n ≡ Some o → IsMarkOf at n o (GRANULES_IN_LINE * line + k) → ⊥
  reached line k n o is small member has_o mark =
      let behind = mark.behind in
      is.untaken (n, o, GRANULES_IN_LINE * line + k, member, record { object = has_o; first = omega (arith, behind); behind = mark.within }, of_line line k small)

  vacant_open : (line : ℕ) → IsVacant t g at us line → IsOpenLine t line
  vacant_open line is = record {
    free = record {
      in_hand = is.in_hand;
      uncounted = λ k small. marks.elsewhere (GRANULES_IN_LINE * line + k) (λ n member same. begun line k n is small member same) (λ n o member has_o mark. reached line k n o is small member has_o mark);
    };
    unbegun = λ k small. false_from_ne_true (t.starts (GRANULES_IN_LINE * line + k)) (λ start.
        let x = starts.only (GRANULES_IN_LINE * line + k) start in
        begun line k x.0 is small x.1 x.2);
  }

  pub open_are_vacant : OpenAreVacant t g at us
  open_are_vacant line = ((λ is. record { in_hand = is.free.in_hand; untaken = untaken line is }), vacant_open line)

  -- ---- where none has count 0, free lines are open

  free_open : NoneIsUncounted t at us → (line : ℕ) → IsFreeLine t line → IsOpenLine t line
  free_open counted line is = record {
    free = is;
    unbegun = λ k small. false_from_ne_true (t.starts (GRANULES_IN_LINE * line + k)) (λ start.
        let x = starts.only (GRANULES_IN_LINE * line + k) start in
        counted x.0 x.1 (ap t.counts x.2 ∙ is.uncounted k small));
  }

  pub free_are_vacant : NoneIsUncounted t at us → (line : ℕ) → IsFreeLine t line ↔ IsVacant t g at us line
  free_are_vacant counted line = ((λ is. (open_are_vacant line).0 (free_open counted line is)), (λ is. (vacant_open line is).free))

-- ---- what is known

-- open lines are the same where the tables of lines are
module _ (t u : Tables) (line : ℕ) (same : SameLines t u) where
  open_there : IsOpenLine t line → IsOpenLine u line
  open_there is = record {
    free = record { in_hand = same.outs line ∙ is.free.in_hand; uncounted = λ k small. same.counts (GRANULES_IN_LINE * line + k) ∙ is.free.uncounted k small };
    unbegun = λ k small. same.starts (GRANULES_IN_LINE * line + k) ∙ is.unbegun k small;
  }

  open_here : IsOpenLine u line → IsOpenLine t line
  open_here is = record {
    free = record { in_hand = sym (same.outs line) ∙ is.free.in_hand; uncounted = λ k small. sym (same.counts (GRANULES_IN_LINE * line + k)) ∙ is.free.uncounted k small };
    unbegun = λ k small. sym (same.starts (GRANULES_IN_LINE * line + k)) ∙ is.unbegun k small;
  }

module _ (t u : Tables) (g : Graph) (at : Name → ℕ) (us : List Name) (same : SameLines t u) (vacant : OpenAreVacant t g at us) (b mask most : ℕ) (known : KnowsBlock u b mask most) where
  each : (i : ℕ) → i < LINES_IN_BLOCK → IsOpenLine u (line_of b i) ↔ IsVacant t g at us (line_of b i)
  each i low = ((λ is. (vacant (line_of b i)).0 (open_here t u (line_of b i) same is)), (λ is. open_there t u (line_of b i) same ((vacant (line_of b i)).1 is)))

  pub known_vacant : IsMaskOfVacant t g at us b mask most
  known_vacant = record {
    lines = λ i low. ((λ set. (each i low).0 ((known.lines i low).0 set)), (λ is. (known.lines i low).1 ((each i low).1 is)));
    longest = longest_alike (λ i. IsOpenLine u (line_of b i)) (λ i. IsVacant t g at us (line_of b i)) most each known.longest;
    state = subst (IsStateOf (λ i. IsVacant t g at us (line_of b i))) (same.states b)
        (state_alike (λ i. IsOpenLine u (line_of b i)) (λ i. IsVacant t g at us (line_of b i)) (u.states b) each known.state);
    whole = λ all. sym (same.states b) ∙ known.whole (λ i low. (each i low).1 (all i low));
  }

settled_are_vacant : (s : Space) (g : Graph) (at : Name → ℕ) (us : List Name) → OpenAreVacant (tables_of s) g at us → SettledAreVacant s g at us
settled_are_vacant s g at us vacant known as_many words b is =
    known_vacant (tables_of s) (tables_in (of_blocks known.blocks) s.words) g at us (lines_at s.limits s.words known.blocks (sym as_many)) vacant b
    (slice_index known.lines.items b) (slice_index known.longest b) (words.settled b is)

lines_are_vacant : (s : Space) (g : Graph) (at : Name → ℕ) (ms us : List Name) → IsImage (tables_of s) s.limits.blocks at g ms → ((n : Name) → IsTrue (has us n) → IsTrue (has ms n))
    → StartsAre (tables_of s) at us → HasMarks (tables_of s) g at us → LinesAreVacant s g at us
lines_are_vacant s g at ms us image sub starts marks =
    let vacant = open_are_vacant (tables_of s) s.limits.blocks at g ms us image sub starts marks in
    record {
      opened = vacant;
      free = free_are_vacant (tables_of s) s.limits.blocks at g ms us image sub starts marks;
      settled = settled_are_vacant s g at us vacant;
    }

pub held : (s : Space) (m : Moment) (at : Name → ℕ) → HoldsMoment s m at → LinesAreVacant s m.state.graph at m.unreclaimed
held s m at is = lines_are_vacant s m.state.graph at (members m) m.unreclaimed is.image.image (λ n h. in_first m.unreclaimed m.made n h) is.bits.starts is.marks

pub raised : (s : Space) (m : Moment) (at : Name → ℕ) (promoted stuck : List Name) → IsRaised s m at promoted stuck → LinesAreVacant s m.state.graph at (with_promoted m promoted)
raised s m at promoted stuck is = lines_are_vacant s m.state.graph at (with_promoted m promoted) (with_promoted m promoted) is.image (λ n h. h) is.bits.starts is.marks
