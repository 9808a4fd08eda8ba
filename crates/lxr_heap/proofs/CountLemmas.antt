-- How many objects there are: the numbers that a heap keeps follow its calls and pauses.
use Rattle.std.proofs.Common.{◌≡◌, ℕ, ◌+◌, ◌<◌, ◌≤◌, refl, sym, ap, subst, ◌∙◌, inl, inr, ◌⊎◌, arith, Bool, true, false, [], ◌∷◌, length}
use Rattle.std.specs.Prelude.{IsTrue}
use Rattle.std.proofs.lemmas.Bool.{false_from_ne_true}
use Rattle.lxr_layout.specs.declared.Name.{Name}
use Rattle.lxr_graph.specs.Names.{AreInOrder, has, insert_name, union, without}
use Rattle.lxr_graph.specs.History.{PauseReport}
use Rattle.lxr_graph.specs.State.{State, next_name, world_name}
use Rattle.lxr_graph.specs.Step.{step}
use Rattle.lxr_graph.specs.declared.Op.{Op}
use Rattle.lxr_graph.specs.declared.Reply.{Reply}
use Rattle.lxr_graph.specs.declared.Reply.TheVariants as reply
use Rattle.lxr_graph.specs.declared.report.Kind.{Kind}
use Rattle.lxr_graph.specs.declared.report.Kind.TheVariants as kind
use Rattle.lxr_graph.proofs.NameSets.{has_one, in_order-none, in_order-one, in_order-union, not_both, union_cases, union_right, without_parts}
use Rattle.lxr_graph.proofs.RowLemmas.{next_none}
use Rattle.lxr_model.specs.Moments.{Moment, after_call, after_pause, made_after, unreclaimed_after}
use Rattle.lxr_model.specs.Reports.{AreDrained, IsReport, IsReportWith, IsSwept, PauseParts, is_draining, kept_names as kept_by}
use Rattle.lxr_model.proofs.DrainLemmas.{kept_all}
use Rattle.lxr_model.proofs.ObjectLemmas.{no_object}
use Rattle.lxr_model.proofs.ReachableLemmas.{dead_parts, promoted_made}
use Rattle.lxr_model_counting.specs.Following.{FollowsPause}
use Rattle.lxr_model_counting.proofs.DistinctLemmas.{in_order_distinct}
use Rattle.lxr_one_pause.proofs.LeftLemmas.{Reclaims, insert_length, left_length, union_length, without_length}
use Rattle.lxr_large_model.specs.Full.{kept_names}
use Rattle.lxr_large_model.specs.Pauses.{IsLargeKind}
use Rattle.lxr_direct.specs.Operating.{IsOfFirstVersion}
use Rattle.lxr_heap.specs.Holding.{CountsObjects, made_with}
use Rattle.lxr_heap.proofs.RowLemmas.{step_counts}

-- ---- what is kept

-- the world is unreclaimed, and nothing unreclaimed was made since the last pause
world_kept : (m : Moment) → FollowsPause m → IsTrue (has m.unreclaimed world_name)
world_kept m follows = follows.stuck world_name follows.world

all_length : (m : Moment) → FollowsPause m → length (union m.made m.unreclaimed) ≡ length m.made + length m.unreclaimed
all_length m follows = union_length m.made m.unreclaimed (in_order_distinct m.made follows.made) follows.apart

-- the objects that are kept are those that the last pause left and those that were made since
pub kept_length : (left made_before made : ℕ) (m : Moment) → FollowsPause m → CountsObjects left made_before made m → length (kept_names m) + made_before ≡ left + made
kept_length left made_before made m follows counts =
    let all = all_length m follows in
    let out = without_length (union m.made m.unreclaimed) (world_name ∷ []) (in_order-union m.made m.unreclaimed follows.unreclaimed) (in_order-one world_name)
    (λ n h. subst (λ q. IsTrue (has (union m.made m.unreclaimed) q)) (sym (has_one world_name n h)) (union_right m.made m.unreclaimed world_name (world_kept m follows))) in
    let one : length (world_name ∷ []) ≡ 1 = refl in
    let unreclaimed = counts.unreclaimed in
    let young = counts.young in
    omega (arith, all, out, one, unreclaimed, young)

-- ---- a call

-- a name that is made wasn't made before
unmade : (m : Moment) → FollowsPause m → has m.made (next_name m.state.graph 1) ≡ false
unmade m follows = false_from_ne_true (has m.made (next_name m.state.graph 1)) (λ h. no_object m.state.graph (next_name m.state.graph 1) (next_none m.state.graph 1) (follows.young (next_name m.state.graph 1) h).1)

-- an object more was made
pub counts_made : (left made_before made : ℕ) (m k : Moment) → FollowsPause m → k.unreclaimed ≡ m.unreclaimed → k.made ≡ insert_name (next_name m.state.graph 1) m.made → CountsObjects left made_before made m
    → CountsObjects left made_before (made + 1) k
counts_made left made_before made m k follows same more counts =
    let long = ap length more ∙ insert_length (next_name m.state.graph 1) m.made (unmade m follows) in
    let young = counts.young in
    record { unreclaimed = counts.unreclaimed ∙ sym (ap length same); few = counts.few; young = omega (arith, long, young) }

-- none was made
counts_same : (left made_before made : ℕ) (m k : Moment) → k.unreclaimed ≡ m.unreclaimed → k.made ≡ m.made → CountsObjects left made_before made m → CountsObjects left made_before made k
counts_same left made_before made m k same none counts = record {
  unreclaimed = counts.unreclaimed ∙ sym (ap length same);
  few = counts.few;
  young = ap (λ ns. made_before + length ns) none ∙ counts.young;
}

-- the name of a reply of a step is the next one
reply_next : (s : State) (o : Op) (n : Name) → 1 < length s.graph → IsOfFirstVersion o → reply.New n ≡ (step s 1 o).1 → n ≡ next_name s.graph 1
reply_next s o n rows first told = elim ((step_counts s o rows first).made []) [
  | inl none ↦ let no : n ∷ [] ≡ [] = ap (made_after []) told ∙ none in absurd (cc)
  | inr one ↦ let e : n ∷ [] ≡ next_name s.graph 1 ∷ [] = ap (made_after []) told ∙ one in cc
]

-- a step that replied
pub counts_called : (left made_before made : ℕ) (m : Moment) (o : Op) (r : Reply) → FollowsPause m → 1 < length m.state.graph → IsOfFirstVersion o → r ≡ (step m.state 1 o).1 → CountsObjects left made_before made m
    → CountsObjects left made_before (made_with made r) (after_call m 1 o r)
counts_called left made_before made m o (reply.New n) follows rows first told counts =
    counts_made left made_before made m (after_call m 1 o (reply.New n)) follows refl (ap (λ q. insert_name q m.made) (reply_next m.state o n rows first told)) counts
counts_called left made_before made m o reply.Full follows rows first told counts = counts_same left made_before made m (after_call m 1 o reply.Full) refl refl counts
counts_called left made_before made m o r follows rows first told counts = counts_same left made_before made m (after_call m 1 o r) refl refl counts

-- ---- a pause

module _ (m : Moment) (r : PauseReport) (parts : PauseParts) (is : IsReportWith m parts r) (follows : FollowsPause m) where
  -- what is swept is what counting left
  swept_left : (k : Kind) → IsLargeKind k → IsSwept m (without (kept_by m parts r) parts.second_dead) r.swept k → (n : Name) → IsTrue (has r.swept n) → IsTrue (has (without (kept_by m parts r) parts.second_dead) n)
  swept_left kind.Plain large swept n h = let no : false ≡ true = subst (λ ns. IsTrue (has ns n)) swept h in absurd (cc)
  swept_left kind.Begin large swept n h = absurd large
  swept_left (kind.End j) large swept n h = absurd large
  swept_left kind.Collect large swept n h = ((swept.members n).0 h).0

  swept_order : (k : Kind) → IsLargeKind k → IsSwept m (without (kept_by m parts r) parts.second_dead) r.swept k → AreInOrder r.swept
  swept_order kind.Plain large none = subst AreInOrder (sym none) in_order-none
  swept_order kind.Begin large none = absurd large
  swept_order (kind.End j) large ends = absurd large
  swept_order kind.Collect large set = set.in_order

  -- what died first was unreclaimed, and isn't kept
  first_gone : (n : Name) → IsTrue (has parts.first_dead n) → IsTrue (has (kept_by m parts r) n) → ⊥
  first_gone n dead kept = elim (union_cases r.promoted (without m.unreclaimed parts.first_dead) n kept) [
    | inl p ↦ not_both (has m.unreclaimed n) (dead_parts ((is.first_dead.members n).0 dead)).member (follows.apart n (promoted_made ((is.promoted.members n).0 p)))
    | inr q ↦ not_both (has parts.first_dead n) dead (without_parts m.unreclaimed parts.first_dead n q).1
  ]

  -- what died second or third was kept; and what died second was counted, and what died third is what the sweep left
  drained_kept : (b : Bool) → AreDrained m parts r b → (n : Name) → IsTrue (has parts.second_dead n) ⊎ IsTrue (has parts.third_dead n) → IsTrue (has (kept_by m parts r) n)
  drained_kept false drained n (inl h) = let no : false ≡ true = subst (λ ns. IsTrue (has ns n)) drained.0 h in absurd (cc)
  drained_kept false drained n (inr h) = let no : false ≡ true = subst (λ ns. IsTrue (has ns n)) drained.1 h in absurd (cc)
  drained_kept true drained n (inl h) = (dead_parts ((drained.0.members n).0 h)).member
  drained_kept true drained n (inr h) =
      (without_parts (kept_by m parts r) parts.second_dead n (without_parts (without (kept_by m parts r) parts.second_dead) r.swept n (dead_parts ((drained.1.members n).0 h)).member).0).0

  third_unswept : (b : Bool) → AreDrained m parts r b → (n : Name) → IsTrue (has parts.third_dead n) → has r.swept n ≡ false
  third_unswept false drained n h = let no : false ≡ true = subst (λ ns. IsTrue (has ns n)) drained.1 h in absurd (cc)
  third_unswept true drained n h = (without_parts (without (kept_by m parts r) parts.second_dead) r.swept n (dead_parts ((drained.1.members n).0 h)).member).1

  -- nothing is both dead and swept, and all of it was unreclaimed or is promoted
  pub reclaims : IsLargeKind r.kind → Reclaims m r
  reclaims large = record {
    unreclaimed = follows.unreclaimed;
    promoted = is.promoted.in_order;
    dead = is.dead.in_order;
    swept = swept_order r.kind large is.swept;
    new = λ n h. follows.apart n (promoted_made ((is.promoted.members n).0 h));
    dead_were = λ n h. elim ((is.dead.members n).0 h) [
      | inl one ↦ union_right r.promoted m.unreclaimed n (dead_parts ((is.first_dead.members n).0 one)).member
      | inr later ↦ kept_all m r parts is n (drained_kept (is_draining r.kind) is.drained n later)
    ];
    swept_were = λ n h. kept_all m r parts is n (without_parts (kept_by m parts r) parts.second_dead n (swept_left r.kind large is.swept n h)).0;
    once = λ n h. false_from_ne_true (has r.swept n) (λ s.
        let left = without_parts (kept_by m parts r) parts.second_dead n (swept_left r.kind large is.swept n s) in
        elim ((is.dead.members n).0 h) [
          | inl one ↦ first_gone n one left.0
          | inr (inl two) ↦ not_both (has parts.second_dead n) two left.1
          | inr (inr three) ↦ not_both (has r.swept n) s (third_unswept (is_draining r.kind) is.drained n three)
        ]);
  }

-- The numbers behind a pause: what it promoted is among what was made, and what it reclaimed among what was left and what it promoted.
pub record CountsPause (left made_before made : ℕ) (m : Moment) (r : PauseReport) : Type 0 where
  pub promoted : made_before + length r.promoted ≤ made
  pub gone : length r.dead + length r.swept ≤ left + length r.promoted
  pub after : (now : ℕ) → now + (length r.dead + length r.swept) ≡ left + length r.promoted → CountsObjects now made made (after_pause m r)

pub counts_paused : (left made_before made : ℕ) (m : Moment) (r : PauseReport) → FollowsPause m → FollowsPause (after_pause m r) → IsReport m r → IsLargeKind r.kind → CountsObjects left made_before made m
    → CountsPause left made_before made m r
counts_paused left made_before made m r follows then is large counts =
    let some = without_length m.made r.promoted follows.made is.1.promoted.in_order (λ n h. promoted_made ((is.1.promoted.members n).0 h)) in
    let gone = reclaims m r is.0 is.1 follows large in
    let behind = left_length m r gone in
    let unreclaimed = counts.unreclaimed in
    let young = counts.young in
    let few = counts.few in
    -- the world is left
    let rest = without_length (unreclaimed_after m r) (world_name ∷ []) then.unreclaimed (in_order-one world_name) (λ n h. subst (λ q. IsTrue (has (unreclaimed_after m r) q)) (sym (has_one world_name n h)) (world_kept (after_pause m r) then)) in
    let one : length (world_name ∷ []) ≡ 1 = refl in
    record {
      promoted = omega (arith, some, young);
      gone = omega (arith, behind, unreclaimed, rest, one);
      after = λ now is. record { unreclaimed = omega (arith, behind, unreclaimed, rest, one, is); few = omega (arith, some, young, few, is); young = omega arith };
    }
