-- What is known of lines stays known through writes.
use Rattle.std.proofs.Common.{◌≡◌, ◌≢◌, ℕ, ◌+◌, ◌-◌, ◌*◌, ◌/◌, ◌^◌, ◌<◌, ◌≤◌, refl, sym, ap, subst, ◌∙◌, inl, inr, arith, Bool, true, false, List, [], length, replicate}
use Rattle.std.specs.Prelude.{◌↔◌, ◌⊎◌, IsTrue, slice_index, slice_index_or, slice_set}
use Rattle.std.specs.Int.{bit_at}
use Rattle.std.specs.Vec.{with_item}
use Rattle.std.proofs.lemmas.Bool.{eq-eqb, eqb-true}
use Rattle.std.proofs.lemmas.Bool.Decides.{eqb_tells}
use Rattle.std.proofs.lemmas.Nat.Bits.{bit_at_ones}
use Rattle.std.proofs.lemmas.List.{get_or-replicate, get_or-set_other, get_or-set_same, length-replicate}
use Rattle.std.proofs.Math.ListN.{length-set}
use Rattle.lxr_layout.specs.declared.TheConstants.{GRANULES_IN_BLOCK, GRANULES_IN_LINE, LINES_IN_BLOCK}
use Rattle.lxr_image.specs.declared.settled.Settled.{Settled}
use Rattle.lxr_image.specs.declared.settled.TheConstants.{NOTED}
use Rattle.lxr_image.specs.Settled.{AgreeBut, AreCounted, AreCountedIn, AreClear, AreKept, AreNoLonger, AreRunsOfFree, ChangesCount, Disturbs, HasLongest, HasNoLonger, IsFreeByLines, IsFreeLine, IsLongest, IsMaskOfFree, IsOpenLine, IsSettled, IsStateOf, KeepsOpenLines, Knows, KnowsBlock, NoneIsOut, SameLines, StandsByLines, line_of}
use Rattle.lxr_tables.proofs.BitLemmas.{one_is_set, set_is_one}
use Rattle.lxr_image.specs.Runs.{bits_of, words_of_runs}
use Rattle.lxr_image.proofs.RunLemmas.{words_alike}
use Rattle.lxr_image.specs.Tables.{Tables}

-- ---- lines

granule_in : (b i k : ℕ) → i < LINES_IN_BLOCK → k < GRANULES_IN_LINE → (GRANULES_IN_LINE * line_of b i + k) / GRANULES_IN_BLOCK ≡ b
granule_in b i k h small = omega arith

line_in : (b i : ℕ) → i < LINES_IN_BLOCK → line_of b i / LINES_IN_BLOCK ≡ b
line_in b i h = omega arith

no_bit : (b : Bool) → (IsTrue b → ⊥) → b ≡ false
no_bit true never = absurd (never refl)
no_bit false never = refl

pub state_alike : (p q : ℕ → Type 0) (s : ℕ) → ((i : ℕ) → i < LINES_IN_BLOCK → p i ↔ q i) → IsStateOf p s → IsStateOf q s
state_alike p q s same (inl others) = inl others
state_alike p q s same (inr (inl free)) = inr (inl (free.0, λ i h. (same i h).0 (free.1 i h)))
state_alike p q s same (inr (inr (inl partly))) =
    let some = partly.1 in
    let other = partly.2 in
    inr (inr (inl (partly.0, (some.0, some.1, (same some.0 some.1).0 some.2), (other.0, other.1, λ is. other.2 ((same other.0 other.1).1 is)))))
state_alike p q s same (inr (inr (inr whole))) = inr (inr (inr (whole.0, λ i h is. whole.1 i h ((same i h).1 is))))

runs_alike : (p q : ℕ → Type 0) (n m : ℕ) → ((i : ℕ) → i < LINES_IN_BLOCK → q i → p i) → n ≤ m → AreNoLonger p n → AreNoLonger q m
runs_alike p q n m from more are first many within each =
    let no_longer : many ≤ n = are first many within (λ i h. from (first + i) (omega arith) (each i h)) in
    omega arith

pub longest_alike : (p q : ℕ → Type 0) (n : ℕ) → ((i : ℕ) → i < LINES_IN_BLOCK → p i ↔ q i) → IsLongest p n → IsLongest q n
longest_alike p q n same is = (
  runs_alike p q n n (λ i h. (same i h).1) (omega arith) is.0,
  elim is.1 [
    | inl none ↦ inl none
    | inr run ↦ let within = run.1 in inr (run.0, run.1, λ i h. (same (run.0 + i) (omega (arith, within, h))).0 (run.2 i h))
  ],
)

block_alike : (t u : Tables) (b mask longest : ℕ) → ((i : ℕ) → i < LINES_IN_BLOCK → IsOpenLine t (line_of b i) ↔ IsOpenLine u (line_of b i)) → u.states b ≡ t.states b
    → KnowsBlock t b mask longest → KnowsBlock u b mask longest
block_alike t u b mask longest same state k = record {
  lines = λ i h. ((λ set. (same i h).0 ((k.lines i h).0 set)), (λ is. (k.lines i h).1 ((same i h).1 is)));
  longest = longest_alike (λ i. IsOpenLine t (line_of b i)) (λ i. IsOpenLine u (line_of b i)) longest same k.longest;
  state = subst (IsStateOf (λ i. IsOpenLine u (line_of b i))) (sym state) (state_alike (λ i. IsOpenLine t (line_of b i)) (λ i. IsOpenLine u (line_of b i)) (t.states b) same k.state);
  whole = λ all. state ∙ k.whole (λ i h. (same i h).1 (all i h));
}

open_to : (t u : Tables) (line : ℕ) → u.outs line ≡ t.outs line → ((k : ℕ) → k < GRANULES_IN_LINE → t.counts (GRANULES_IN_LINE * line + k) ≡ 0 → u.counts (GRANULES_IN_LINE * line + k) ≡ 0)
    → ((k : ℕ) → k < GRANULES_IN_LINE → u.starts (GRANULES_IN_LINE * line + k) ≡ t.starts (GRANULES_IN_LINE * line + k)) → IsOpenLine t line → IsOpenLine u line
open_to t u line outs counts starts is = record {
  free = record { in_hand = outs ∙ is.free.in_hand; uncounted = λ k h. counts k h (is.free.uncounted k h) };
  unbegun = λ k h. starts k h ∙ is.unbegun k h;
}

-- where each object of a block has a count, its free lines are its open ones
free_is_open : (t : Tables) (b i : ℕ) → i < LINES_IN_BLOCK → AreCountedIn t b → IsFreeLine t (line_of b i) → IsOpenLine t (line_of b i)
free_is_open t b i within counted free = record {
  free = free;
  unbegun = λ k h. no_bit (t.starts (GRANULES_IN_LINE * line_of b i + k)) (λ begins. counted (GRANULES_IN_LINE * line_of b i + k) (granule_in b i k within h) begins (free.uncounted k h));
}

open_as_free : (t : Tables) (b : ℕ) → AreCountedIn t b → (i : ℕ) → i < LINES_IN_BLOCK → IsOpenLine t (line_of b i) ↔ IsFreeLine t (line_of b i)
open_as_free t b counted i h = ((λ is. is.free), free_is_open t b i h counted)

free_as_open : (t : Tables) (b : ℕ) → AreCountedIn t b → (i : ℕ) → i < LINES_IN_BLOCK → IsFreeLine t (line_of b i) ↔ IsOpenLine t (line_of b i)
free_as_open t b counted i h = (free_is_open t b i h counted, (λ is. is.free))

pub block_of_free : (t : Tables) (b mask longest : ℕ) → AreCountedIn t b → IsMaskOfFree mask t b → HasLongest t b longest → StandsByLines t b → IsFreeByLines t b → KnowsBlock t b mask longest
block_of_free t b mask longest counted is runs state whole = record {
  lines = λ i h. ((λ set. free_is_open t b i h counted ((is i h).0 set)), (λ open_line. (is i h).1 open_line.free));
  longest = longest_alike (λ i. IsFreeLine t (line_of b i)) (λ i. IsOpenLine t (line_of b i)) longest (free_as_open t b counted) runs;
  state = state_alike (λ i. IsFreeLine t (line_of b i)) (λ i. IsOpenLine t (line_of b i)) (t.states b) (free_as_open t b counted) state;
  whole = λ all. whole (λ i h. (all i h).free);
}

-- ---- what changes elsewhere

stays_known : (s : Settled) (t u : Tables) → ((b : ℕ) → IsSettled s b → (i : ℕ) → i < LINES_IN_BLOCK → IsOpenLine t (line_of b i) ↔ IsOpenLine u (line_of b i)) → ((b : ℕ) → IsSettled s b → u.states b ≡ t.states b)
    → ((line : ℕ) → line / LINES_IN_BLOCK < s.blocks → IsTrue (u.outs line) → IsTrue (t.outs line) ⊎ (slice_index s.handed (line / LINES_IN_BLOCK) ≢ 0))
    → (s.counted ≡ true → (b : ℕ) → IsSettled s b → AreCountedIn t b → AreCountedIn u b) → Knows s t → Knows s u
stays_known s t u lines states outs counted k = record {
  longest_many = k.longest_many;
  handed_many = k.handed_many;
  lines_many = k.lines_many;
  kept = k.kept;
  settled = λ b is. block_alike t u b (slice_index s.lines.items b) (slice_index s.longest b) (lines b is) (states b is) (k.settled b is);
  handed = λ line within out. elim (outs line within out) [ inl was ↦ k.handed line within was | inr is ↦ is ];
  counted = λ yes b is. counted yes b is (k.counted yes b is);
  forgotten = k.forgotten;
}

open_agrees : (block : ℕ) (t u : Tables) → AgreeBut block t u → (b : ℕ) → b ≢ block → (i : ℕ) → i < LINES_IN_BLOCK → IsOpenLine t (line_of b i) ↔ IsOpenLine u (line_of b i)
open_agrees block t u agree b other i within =
    let line : ℕ = line_of b i in
    let outs : u.outs line ≡ t.outs line = agree.outs line (λ e. other (sym (line_in b i within) ∙ e)) in
    let apart : (k : ℕ) → k < GRANULES_IN_LINE → (GRANULES_IN_LINE * line + k) / GRANULES_IN_BLOCK ≢ block = λ k h e. other (sym (granule_in b i k within h) ∙ e) in (
      open_to t u line outs (λ k h none. agree.counts (GRANULES_IN_LINE * line + k) (apart k h) ∙ none) (λ k h. agree.starts (GRANULES_IN_LINE * line + k) (apart k h)),
      open_to u t line (sym outs) (λ k h none. sym (agree.counts (GRANULES_IN_LINE * line + k) (apart k h)) ∙ none) (λ k h. sym (agree.starts (GRANULES_IN_LINE * line + k) (apart k h))),
    )

counted_agrees : (block : ℕ) (t u : Tables) → AgreeBut block t u → (b : ℕ) → b ≢ block → AreCountedIn t b → AreCountedIn u b
counted_agrees block t u agree b other counted g in_b begins none =
    let apart : g / GRANULES_IN_BLOCK ≢ block = λ e. other (sym in_b ∙ e) in
    counted g in_b (subst IsTrue (agree.starts g apart) begins) (sym (agree.counts g apart) ∙ none)

-- one block changes, which isn't settled
agrees_known : (s : Settled) (block : ℕ) (t u : Tables) → ((b : ℕ) → IsSettled s b → b ≢ block)
    → ((line : ℕ) → line / LINES_IN_BLOCK ≡ block → line / LINES_IN_BLOCK < s.blocks → IsTrue (u.outs line) → IsTrue (t.outs line) ⊎ (slice_index s.handed (line / LINES_IN_BLOCK) ≢ 0))
    → AgreeBut block t u → Knows s t → Knows s u
agrees_known s block t u apart outs agree k =
    stays_known s t u (λ b is. open_agrees block t u agree b (apart b is)) (λ b is. agree.states b (apart b is))
    (λ line within out. elim (eqb_tells (line / LINES_IN_BLOCK) block) as (λ _. IsTrue (t.outs line) ⊎ (slice_index s.handed (line / LINES_IN_BLOCK) ≢ 0)) [
      | inl same ↦ outs line same.1 within out
      | inr other ↦ inl (subst IsTrue (agree.outs line other.1) out)
    ])
    (λ yes b is. counted_agrees block t u agree b (apart b is)) k

-- there is no such block
pub unnoted_known : (s : Settled) (block : ℕ) (t u : Tables) → s.blocks ≤ block → Knows s t → AgreeBut block t u → Knows s u
unnoted_known s block t u past k agree = agrees_known s block t u (λ b is e. let less = is.0 in absurd (omega arith)) (λ line here within out. absurd (omega arith)) agree k

pub same_known : (s : Settled) (t u : Tables) → Knows s t → SameLines t u → Knows s u
same_known s t u k same = unnoted_known s s.blocks t u (omega arith) k (record { counts = λ g other. same.counts g; starts = λ g other. same.starts g; outs = λ line other. same.outs line; states = λ b other. same.states b })

-- ---- a block is noted

noted_apart : (xs : List ℕ) (block b : ℕ) → block < length xs → slice_index (slice_set xs block NOTED) b < NOTED → (b ≢ block) × (slice_index (slice_set xs block NOTED) b ≡ slice_index xs b)
noted_apart xs block b within less = elim (eqb_tells b block) [
  | inl same ↦ let here : slice_index (slice_set xs block NOTED) b ≡ NOTED = ap (slice_index (slice_set xs block NOTED)) same.1 ∙ get_or-set_same xs block NOTED 0 within in absurd (omega arith)
  | inr other ↦ (other.1, get_or-set_other xs block b NOTED 0 other.1)
]

still_noted : (xs : List ℕ) (block b : ℕ) → block < length xs → slice_index xs b ≡ NOTED → slice_index (slice_set xs block NOTED) b ≡ NOTED
still_noted xs block b within is = elim (eqb_tells b block) [
  | inl same ↦ ap (slice_index (slice_set xs block NOTED)) same.1 ∙ get_or-set_same xs block NOTED 0 within
  | inr other ↦ get_or-set_other xs block b NOTED 0 other.1 ∙ is
]

abbrev with_noted : Settled → ℕ → Settled
with_noted s block = record s { longest = slice_set s.longest block NOTED }

noted : (s : Settled) (block : ℕ) (t : Tables) → block < s.blocks → Knows s t → Knows (with_noted s block) t
noted s block t within k =
    let many = k.longest_many in
    let in_list : block < length s.longest = omega arith in
    record {
      longest_many = length-set s.longest block NOTED ∙ k.longest_many;
      handed_many = k.handed_many;
      lines_many = k.lines_many;
      kept = k.kept;
      settled = λ b is.
          let (other, same) = noted_apart s.longest block b in_list is.1 in
          subst (KnowsBlock t b (slice_index s.lines.items b)) (sym same) (k.settled b (is.0, subst (λ n. n < NOTED) same is.1));
      handed = k.handed;
      counted = λ yes b is. k.counted yes b (is.0, subst (λ n. n < NOTED) (noted_apart s.longest block b in_list is.1).1 is.1);
      forgotten = λ yes b small. (still_noted s.longest block b in_list (k.forgotten yes b small).0, (k.forgotten yes b small).1);
    }

unsettled : (s : Settled) (block : ℕ) (t : Tables) → block < s.blocks → Knows s t → (b : ℕ) → IsSettled (with_noted s block) b → b ≢ block
unsettled s block t within k b is = let many = k.longest_many in (noted_apart s.longest block b (omega arith) is.1).0

pub note_known : (s : Settled) (block : ℕ) (t u : Tables) → block < s.blocks → Knows s t → Disturbs block t u → Knows (with_noted s block) u
note_known s block t u within k d = agrees_known (with_noted s block) block t u (unsettled s block t within k) (λ line here small out. inl (d.outs line here out)) d.agree (noted s block t within k)

-- ---- lines of a block may be out

one_at : (xs : List ℕ) (block b : ℕ) → block < length xs → slice_index xs b ≢ 0 → slice_index (slice_set xs block 1) b ≢ 0
one_at xs block b within is = elim (eqb_tells b block) as (λ _. slice_index (slice_set xs block 1) b ≢ 0) [
  | inl same ↦ let here : slice_index (slice_set xs block 1) b ≡ 1 = ap (slice_index (slice_set xs block 1)) same.1 ∙ get_or-set_same xs block 1 0 within in λ none. absurd (omega arith)
  | inr other ↦ λ none. is (sym (get_or-set_other xs block b 1 0 other.1) ∙ none)
]

abbrev with_handed : Settled → ℕ → Settled
with_handed s block = record s { handed = slice_set s.handed block 1 }

handed_on : (s : Settled) (block : ℕ) (t : Tables) → block < s.blocks → Knows s t → Knows (with_handed s block) t
handed_on s block t within k =
    let many = k.handed_many in
    let in_list : block < length s.handed = omega arith in
    record {
      longest_many = k.longest_many;
      handed_many = length-set s.handed block 1 ∙ k.handed_many;
      lines_many = k.lines_many;
      kept = k.kept;
      settled = k.settled;
      handed = λ line small out. one_at s.handed block (line / LINES_IN_BLOCK) in_list (k.handed line small out);
      counted = k.counted;
      forgotten = λ yes b small. ((k.forgotten yes b small).0, one_at s.handed block b in_list (k.forgotten yes b small).1);
    }

pub note_handed_known : (s : Settled) (block : ℕ) (t u : Tables) → block < s.blocks → Knows s t → AgreeBut block t u → Knows (with_handed (with_noted s block) block) u
note_handed_known s block t u within k agree =
    let many = k.handed_many in
    agrees_known (with_handed (with_noted s block) block) block t u (unsettled s block t within k)
    (λ line here small out. inr (λ none. let one : slice_index (slice_set s.handed block 1) (line / LINES_IN_BLOCK) ≡ 1 = ap (slice_index (slice_set s.handed block 1)) here ∙ get_or-set_same s.handed block 1 0 (omega arith) in absurd (omega arith)))
    agree (handed_on (with_noted s block) block t within (noted s block t within k))

-- ---- a count changes

pub count_disturbs : (granule old new : ℕ) (t u : Tables) → ChangesCount granule old new t u → Disturbs (granule / GRANULES_IN_BLOCK) t u
count_disturbs granule old new t u change = record {
  agree = record {
    counts = λ g other. change.counts g (λ e. other (ap (λ x. x / GRANULES_IN_BLOCK) e));
    starts = λ g other. change.starts g;
    outs = λ line other. change.outs line;
    states = λ b other. change.states b;
  };
  outs = λ line here out. subst IsTrue (change.outs line) out;
}

-- a count that wasn't 0 and isn't
none_before : (granule old new : ℕ) (t u : Tables) → new ≢ 0 → ChangesCount granule old new t u → (g : ℕ) → u.counts g ≡ 0 → t.counts g ≡ 0
none_before granule old new t u some change g none = elim (eqb_tells g granule) [
  | inl same ↦ absurd (some (sym change.is ∙ ap u.counts (sym same.1) ∙ none))
  | inr other ↦ sym (change.counts g other.1) ∙ none
]

none_after : (granule old new : ℕ) (t u : Tables) → old ≢ 0 → ChangesCount granule old new t u → (g : ℕ) → t.counts g ≡ 0 → u.counts g ≡ 0
none_after granule old new t u some change g none = elim (eqb_tells g granule) [
  | inl same ↦ absurd (some (sym change.was ∙ ap t.counts (sym same.1) ∙ none))
  | inr other ↦ change.counts g other.1 ∙ none
]

pub count_known : (s : Settled) (granule old new : ℕ) (t u : Tables) → old ≢ 0 → new ≢ 0 → Knows s t → ChangesCount granule old new t u → Knows s u
count_known s granule old new t u before after k change =
    stays_known s t u
    (λ b is i h. (
      open_to t u (line_of b i) (change.outs (line_of b i)) (λ j small none. none_after granule old new t u before change (GRANULES_IN_LINE * line_of b i + j) none) (λ j small. change.starts (GRANULES_IN_LINE * line_of b i + j)),
      open_to u t (line_of b i) (sym (change.outs (line_of b i))) (λ j small none. none_before granule old new t u after change (GRANULES_IN_LINE * line_of b i + j) none) (λ j small. sym (change.starts (GRANULES_IN_LINE * line_of b i + j))),
    ))
    (λ b is. change.states b) (λ line within out. inl (subst IsTrue (change.outs line) out))
    (λ yes b is counted g in_b begins none. counted g in_b (subst IsTrue (change.starts g) begins) (none_before granule old new t u after change g none)) k

-- ---- all blocks are noted

pub forgotten_known : (s : Settled) (t u : Tables) → s.forgotten ≡ true → Knows s t → Knows s u
forgotten_known s t u all_noted k =
    let none : (b : ℕ) → IsSettled s b → ⊥ = λ b is. let noted_now = (k.forgotten all_noted b is.0).0 in let less = is.1 in absurd (omega arith) in
    record {
      longest_many = k.longest_many;
      handed_many = k.handed_many;
      lines_many = k.lines_many;
      kept = k.kept;
      settled = λ b is. absurd (none b is);
      handed = λ line within out. (k.forgotten all_noted (line / LINES_IN_BLOCK) within).1;
      counted = λ trusted b is. absurd (none b is);
      forgotten = k.forgotten;
    }

abbrev pub with_all_noted : Settled → Settled
with_all_noted s = record s { longest = replicate (length s.longest) NOTED; handed = replicate (length s.handed) 1; forgotten = true }

pub forget_known : (s : Settled) (t u : Tables) → Knows s t → Knows (with_all_noted s) u
forget_known s t u k =
    let longest : (b : ℕ) → b < s.blocks → slice_index (replicate (length s.longest) NOTED) b ≡ NOTED = λ b h. let many = k.longest_many in get_or-replicate (length s.longest) b NOTED 0 (omega arith) in
    let handed : (b : ℕ) → b < s.blocks → slice_index (replicate (length s.handed) 1) b ≢ 0 = λ b h none. let many = k.handed_many in let one : slice_index (replicate (length s.handed) 1) b ≡ 1 = get_or-replicate (length s.handed) b 1 0 (omega arith) in absurd (omega arith) in
    let never : (b : ℕ) → IsSettled (with_all_noted s) b → ⊥ = λ b is. let noted_now = longest b is.0 in let less = is.1 in absurd (omega arith) in
    record {
      longest_many = length-replicate (length s.longest) NOTED ∙ k.longest_many;
      handed_many = length-replicate (length s.handed) 1 ∙ k.handed_many;
      lines_many = k.lines_many;
      kept = k.kept;
      settled = λ b is. absurd (never b is);
      handed = λ line within out. handed (line / LINES_IN_BLOCK) within;
      counted = λ trusted b is. absurd (never b is);
      forgotten = λ yes b h. (longest b h, handed b h);
    }

-- ---- a block is settled

settled_cases : (xs : List ℕ) (block v b : ℕ) → block < length xs → ((b ≡ block) × (slice_index (slice_set xs block v) b ≡ v)) ⊎ ((b ≢ block) × (slice_index (slice_set xs block v) b ≡ slice_index xs b))
settled_cases xs block v b within = elim (eqb_tells b block) [
  | inl same ↦ inl (same.1, ap (slice_index (slice_set xs block v)) same.1 ∙ get_or-set_same xs block v 0 within)
  | inr other ↦ inr (other.1, get_or-set_other xs block b v 0 other.1)
]

pub settle_known : (s v : Settled) (block mask longest : ℕ) (t : Tables) → block < s.blocks → v.blocks ≡ s.blocks → v.longest ≡ slice_set s.longest block longest → v.lines.items ≡ slice_set s.lines.items block mask
    → (AreKept s.blocks s.lines.items s.runs → AreKept s.blocks v.lines.items v.runs) → v.handed ≡ s.handed → v.counted ≡ s.counted → v.forgotten ≡ false → Knows s t → KnowsBlock t block mask longest → AreCountedIn t block → Knows v t
settle_known s v block mask longest t within blocks longest_is lines_is kept handed_is counted_is unforgotten k known all =
    let many = k.longest_many in
    let lines_many = k.lines_many in
    let long : (b : ℕ) → slice_index v.longest b ≡ slice_index (slice_set s.longest block longest) b = λ b. ap (λ xs. slice_index xs b) longest_is in
    let mask_of : (b : ℕ) → slice_index v.lines.items b ≡ slice_index (slice_set s.lines.items block mask) b = λ b. ap (λ xs. slice_index xs b) lines_is in
    let was : (b : ℕ) → b ≢ block → IsSettled v b → IsSettled s b = λ b other is. (subst (λ n. b < n) blocks is.0, subst (λ n. n < NOTED) (long b ∙ get_or-set_other s.longest block b longest 0 other) is.1) in
    record {
      longest_many = ap length longest_is ∙ length-set s.longest block longest ∙ k.longest_many ∙ sym blocks;
      handed_many = ap length handed_is ∙ k.handed_many ∙ sym blocks;
      lines_many = ap length lines_is ∙ length-set s.lines.items block mask ∙ k.lines_many ∙ sym blocks;
      kept = subst (λ n. AreKept n v.lines.items v.runs) (sym blocks) (kept k.kept);
      settled = λ b is. elim (eqb_tells b block) as (λ _. KnowsBlock t b (slice_index v.lines.items b) (slice_index v.longest b)) [
        | inl same ↦
            let m : slice_index v.lines.items b ≡ mask = mask_of b ∙ ap (slice_index (slice_set s.lines.items block mask)) same.1 ∙ get_or-set_same s.lines.items block mask 0 (omega arith) in
            let n : slice_index v.longest b ≡ longest = long b ∙ ap (slice_index (slice_set s.longest block longest)) same.1 ∙ get_or-set_same s.longest block longest 0 (omega arith) in
            subst (λ x. KnowsBlock t b x (slice_index v.longest b)) (sym m) (subst (KnowsBlock t b mask) (sym n) (subst (λ x. KnowsBlock t x mask longest) (sym same.1) known))
        | inr other ↦
            let m : slice_index v.lines.items b ≡ slice_index s.lines.items b = mask_of b ∙ get_or-set_other s.lines.items block b mask 0 other.1 in
            let n : slice_index v.longest b ≡ slice_index s.longest b = long b ∙ get_or-set_other s.longest block b longest 0 other.1 in
            subst (λ x. KnowsBlock t b x (slice_index v.longest b)) (sym m) (subst (KnowsBlock t b (slice_index s.lines.items b)) (sym n) (k.settled b (was b other.1 is)))
      ];
      handed = λ line small out. subst (λ xs. slice_index xs (line / LINES_IN_BLOCK) ≢ 0) (sym handed_is) (k.handed line (subst (λ n. line / LINES_IN_BLOCK < n) blocks small) out);
      counted = λ yes b is. elim (eqb_tells b block) as (λ _. AreCountedIn t b) [
        | inl same ↦ subst (AreCountedIn t) (sym same.1) all
        | inr other ↦ k.counted (sym counted_is ∙ yes) b (was b other.1 is)
      ];
      forgotten = λ yes. let clash : true ≡ false = sym yes ∙ unforgotten in absurd (cc);
    }

-- ---- no line of a block is out

pub none_out_known : (s : Settled) (block : ℕ) (t : Tables) → block < s.blocks → Knows s t → NoneIsOut t block → Knows (record s { handed = slice_set s.handed block 0; forgotten = false }) t
none_out_known s block t within k none = record {
  longest_many = k.longest_many;
  handed_many = length-set s.handed block 0 ∙ k.handed_many;
  lines_many = k.lines_many;
  kept = k.kept;
  settled = k.settled;
  handed = λ line small out. elim (eqb_tells (line / LINES_IN_BLOCK) block) as (λ _. slice_index (slice_set s.handed block 0) (line / LINES_IN_BLOCK) ≢ 0) [
    | inl same ↦ let clash : true ≡ false = sym out ∙ none line same.1 in absurd (cc)
    | inr other ↦ λ is. k.handed line small out (sym (get_or-set_other s.handed block (line / LINES_IN_BLOCK) 0 0 other.1) ∙ is)
  ];
  counted = k.counted;
  forgotten = λ yes. let clash : false ≡ true = yes in absurd (cc);
}

-- ---- objects have counts, or may have none

pub trust_known : (s : Settled) (t : Tables) → Knows s t → AreCounted t → Knows (record s { counted = true }) t
trust_known s t k counted = record {
  longest_many = k.longest_many;
  handed_many = k.handed_many;
  lines_many = k.lines_many;
  kept = k.kept;
  settled = k.settled;
  handed = k.handed;
  counted = λ yes b is g in_b begins. counted g begins;
  forgotten = k.forgotten;
}

pub distrust_known : (s : Settled) (t : Tables) → Knows s t → Knows (record s { counted = false }) t
distrust_known s t k = record {
  longest_many = k.longest_many;
  handed_many = k.handed_many;
  lines_many = k.lines_many;
  kept = k.kept;
  settled = k.settled;
  handed = k.handed;
  counted = λ yes. let clash : false ≡ true = yes in absurd (cc);
  forgotten = k.forgotten;
}

open_keeps : (t u : Tables) (line : ℕ) → KeepsOpenLines t u → IsOpenLine t line ↔ IsOpenLine u line
open_keeps t u line keeps = (
  (λ is. record {
    free = record { in_hand = keeps.outs line ∙ is.free.in_hand; uncounted = λ k h. keeps.counts (GRANULES_IN_LINE * line + k) (is.unbegun k h) ∙ is.free.uncounted k h };
    unbegun = λ k h. keeps.starts (GRANULES_IN_LINE * line + k) ∙ is.unbegun k h;
  }),
  (λ is.
      let unbegun : (k : ℕ) → k < GRANULES_IN_LINE → t.starts (GRANULES_IN_LINE * line + k) ≡ false = λ k h. sym (keeps.starts (GRANULES_IN_LINE * line + k)) ∙ is.unbegun k h in
      record {
        free = record { in_hand = sym (keeps.outs line) ∙ is.free.in_hand; uncounted = λ k h. sym (keeps.counts (GRANULES_IN_LINE * line + k) (unbegun k h)) ∙ is.free.uncounted k h };
        unbegun = unbegun;
      }),
)

-- an epoch has passed
pub keeps_known : (s : Settled) (t u : Tables) → Knows s t → KeepsOpenLines t u → Knows (record s { counted = false }) u
keeps_known s t u k keeps =
    stays_known (record s { counted = false }) t u (λ b is i h. open_keeps t u (line_of b i) keeps) (λ b is. keeps.states b) (λ line within out. inl (subst IsTrue (keeps.outs line) out))
    (λ yes. let clash : false ≡ true = yes in absurd (cc)) (distrust_known s t k)

-- ---- what is told

pub free_known : (s : Settled) (t : Tables) (b : ℕ) → IsSettled s b → s.counted ≡ true → Knows s t → IsMaskOfFree (slice_index s.lines.items b) t b
free_known s t b is trusted k i h =
    let told = (k.settled b is).lines i h in
    ((λ set. (told.0 set).free), (λ free. told.1 (free_is_open t b i h (k.counted trusted b is) free)))

-- the lines of a mask of free lines are the free ones
free_lines : (mask : ℕ) (t : Tables) (b : ℕ) → IsMaskOfFree mask t b → (i : ℕ) → i < LINES_IN_BLOCK → IsTrue (bits_of mask i) ↔ IsFreeLine t (line_of b i)
free_lines mask t b is i h = (
  (λ yes. (is i h).0 (one_is_set mask i (eqb-true (bit_at mask i) 1 yes))),
  (λ free. eq-eqb (bit_at mask i) 1 (set_is_one mask i ((is i h).1 free))),
)

pub runs_known : (s : Settled) (t : Tables) (b : ℕ) → IsSettled s b → s.counted ≡ true → (slice_index_or s.runs b [] ≡ [] → ⊥) → Knows s t → AreRunsOfFree (slice_index_or s.runs b []) t b
runs_known s t b is trusted some k = (
  bits_of (slice_index s.lines.items b),
  free_lines (slice_index s.lines.items b) t b (free_known s t b is trusted k),
  elim (k.kept.words b is.0) [ inl none ↦ absurd (some none) | inr words ↦ words ],
)

-- lines of which the free ones are told have the runs of the mask of the free ones
told_runs : (words : List ℕ) (mask : ℕ) (t : Tables) (b : ℕ) → IsMaskOfFree mask t b → AreRunsOfFree words t b → words ≡ words_of_runs (bits_of mask) b
told_runs words mask t b is (free, same, told) =
    told ∙ words_alike free (bits_of mask) b (λ i h. let own = free_lines mask t b is i h in let its = same i h in ((λ yes. own.1 (its.0 yes)), (λ yes. its.1 (own.0 yes))))

pub kept_known : (s : Settled) (t : Tables) (block : ℕ) (words kept : List ℕ) → IsSettled s block → s.counted ≡ true → AreRunsOfFree words t block → (kept ≡ words) ⊎ (kept ≡ []) → Knows s t
    → Knows (record s { runs = slice_set s.runs block kept }) t
kept_known s t block words kept is trusted told held k =
    let many = k.kept.many in let within = is.0 in
    record {
      longest_many = k.longest_many;
      handed_many = k.handed_many;
      lines_many = k.lines_many;
      kept = record {
        many = length-set s.runs block kept ∙ k.kept.many;
        words = λ b h. elim (eqb_tells b block) as (λ _. (slice_index_or (slice_set s.runs block kept) b [] ≡ []) ⊎ (slice_index_or (slice_set s.runs block kept) b [] ≡ words_of_runs (bits_of (slice_index s.lines.items b)) b)) [
          | inl same ↦
              let here : slice_index_or (slice_set s.runs block kept) b [] ≡ kept = ap (λ n. slice_index_or (slice_set s.runs block kept) n []) same.1 ∙ get_or-set_same s.runs block kept [] (omega arith) in
              elim held [
                | inl all ↦ inr (here ∙ all ∙ told_runs words (slice_index s.lines.items block) t block (free_known s t block is trusted k) told ∙ ap (λ n. words_of_runs (bits_of (slice_index s.lines.items n)) n) (sym same.1))
                | inr none ↦ inl (here ∙ none)
              ]
          | inr other ↦
              let there : slice_index_or (slice_set s.runs block kept) b [] ≡ slice_index_or s.runs b [] = get_or-set_other s.runs block b kept [] other.1 in
              elim (k.kept.words b h) [ inl none ↦ inl (there ∙ none) | inr all ↦ inr (there ∙ all) ]
        ];
      };
      settled = k.settled;
      handed = k.handed;
      counted = k.counted;
      forgotten = k.forgotten;
    }

pub stands_known : (s : Settled) (t : Tables) (b : ℕ) → IsSettled s b → s.counted ≡ true → Knows s t → StandsByLines t b
stands_known s t b is trusted k = state_alike (λ i. IsOpenLine t (line_of b i)) (λ i. IsFreeLine t (line_of b i)) (t.states b) (open_as_free t b (k.counted trusted b is)) (k.settled b is).state

pub longest_known : (s : Settled) (t : Tables) (b n : ℕ) → IsSettled s b → s.counted ≡ true → slice_index s.longest b ≤ n → Knows s t → HasNoLonger t b n
longest_known s t b n is trusted small k =
    runs_alike (λ i. IsOpenLine t (line_of b i)) (λ i. IsFreeLine t (line_of b i)) (slice_index s.longest b) n (λ i h. free_is_open t b i h (k.counted trusted b is)) small (k.settled b is).longest.0

pub none_known : (s : Settled) (t : Tables) (b : ℕ) → b < s.blocks → slice_index s.handed b ≡ 0 → Knows s t → NoneIsOut t b
none_known s t b within zero k line in_b = no_bit (t.outs line) (λ out. k.handed line (subst (λ n. n < s.blocks) (sym in_b) within) out (ap (slice_index s.handed) in_b ∙ zero))

-- ---- words that are all 0

clear_line : (t : Tables) (line : ℕ) → AreClear t → IsOpenLine t line
clear_line t line clear = record { free = record { in_hand = clear.outs line; uncounted = λ k h. clear.counts (GRANULES_IN_LINE * line + k) }; unbegun = λ k h. clear.starts (GRANULES_IN_LINE * line + k) }

clear_block : (t : Tables) (b : ℕ) → AreClear t → KnowsBlock t b (2 ^ 128 - 1) 128
clear_block t b clear = record {
  lines = λ i h. ((λ set. clear_line t (line_of b i) clear), (λ is. one_is_set (2 ^ 128 - 1) i (bit_at_ones 128 i h)));
  longest = ((λ first many within each. omega (arith, within)), inr (0, omega arith, λ i h. clear_line t (line_of b (0 + i)) clear));
  state = inr (inl (clear.states b, λ i h. clear_line t (line_of b i) clear));
  whole = λ all. clear.states b;
}

pub clear_known : (s : Settled) (t : Tables) → s.longest ≡ replicate s.blocks 128 → s.handed ≡ replicate s.blocks 0 → s.lines.items ≡ replicate s.blocks (2 ^ 128 - 1) → s.runs ≡ replicate s.blocks [] → s.forgotten ≡ false → AreClear t → Knows s t
clear_known s t longest handed lines runs unforgotten clear = record {
  longest_many = ap length longest ∙ length-replicate s.blocks 128;
  handed_many = ap length handed ∙ length-replicate s.blocks 0;
  lines_many = ap length lines ∙ length-replicate s.blocks (2 ^ 128 - 1);
  kept = record { many = ap length runs ∙ length-replicate s.blocks []; words = λ b h. inl (ap (λ xs. slice_index_or xs b []) runs ∙ get_or-replicate s.blocks b [] [] h) };
  settled = λ b is.
      let mask : slice_index s.lines.items b ≡ 2 ^ 128 - 1 = ap (λ xs. slice_index xs b) lines ∙ get_or-replicate s.blocks b (2 ^ 128 - 1) 0 is.0 in
      let most : slice_index s.longest b ≡ 128 = ap (λ xs. slice_index xs b) longest ∙ get_or-replicate s.blocks b 128 0 is.0 in
      subst (λ x. KnowsBlock t b x (slice_index s.longest b)) (sym mask) (subst (KnowsBlock t b (2 ^ 128 - 1)) (sym most) (clear_block t b clear));
  handed = λ line within out. let clash : true ≡ false = sym out ∙ clear.outs line in absurd (cc);
  counted = λ yes b is g in_b begins. let clash : true ≡ false = sym begins ∙ clear.starts g in absurd (cc);
  forgotten = λ yes. let clash : true ≡ false = sym yes ∙ unforgotten in absurd (cc);
}
