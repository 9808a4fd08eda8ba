-- What a space at rest for one thread says of its moment, and what a pause that collects leaves: exactly what is reachable.
use Rattle.std.proofs.Common.{◌≡◌, ◌*◌, refl, sym, ap, subst, ◌∙◌, inl, inr, arith, List, [], length}
use Rattle.std.specs.Prelude.{None, is_some, IsTrue}
use Rattle.std.proofs.lemmas.List.{length-map}
use Rattle.lxr_layout.specs.declared.TheConstants.{REGISTERS}
use Rattle.lxr_layout.specs.declared.Name.{Name}
use Rattle.lxr_graph.specs.Names.{has, union, without}
use Rattle.lxr_graph.proofs.NameSets.{in_without, union_cases, union_left, union_right, without_parts}
use Rattle.lxr_graph.specs.History.{PauseReport}
use Rattle.lxr_graph.specs.declared.report.Kind.TheVariants as kind
use Rattle.lxr_image.specs.declared.space.Space.{Space}
use Rattle.lxr_image.specs.Spaces.{tables_of}
use Rattle.lxr_image.specs.Image.{place_word}
use Rattle.lxr_model.specs.Moments.{Moment, after_pause, unreclaimed_after}
use Rattle.lxr_model.specs.Reachable.{Reachable}
use Rattle.lxr_model.specs.Reports.{IsReport}
use Rattle.lxr_model.proofs.CollectLemmas.{collected_reachable}
use Rattle.lxr_model.proofs.HistoryLemmas.{GoodAt, RunningGood, dead_gone, reachable_kept, swept_gone}
use Rattle.lxr_model.proofs.ObjectLemmas.{no_object}
use Rattle.lxr_model.proofs.ReachableLemmas.{promoted_made}
use Rattle.lxr_model_counting.proofs.FollowingLemmas.{live_reachable}
use Rattle.lxr_invariant.specs.AbstractState.{AbstractState}
use Rattle.lxr_invariant.specs.Lines.{ChosenNeedTrace, NoneChosen}
use Rattle.lxr_invariant.specs.Quiescent.{IsAtRest, IsQuiescent}
use Rattle.lxr_heap.specs.Holding.{IsCollected}

module _ (s : Space) (g : AbstractState) (rests : IsAtRest s g) where
  -- as many registers as 256 a thread
  registers_many : length g.moment.state.registers ≡ REGISTERS * s.limits.threads
  registers_many =
      let d = rests.safepoint.holds in
      sym (length-map g.moment.state.registers (place_word g.at)) ∙ sym (ap length d.image.registers) ∙ length-map s.registers.items (λ p. p.0) ∙ d.as_many.0

  -- the world's row and that of the one thread
  pub two_rows : s.limits.threads ≡ 1 → length g.moment.state.graph ≡ 2
  two_rows one =
      let many = registers_many in
      let rows = rests.safepoint.holds.follows.registers in
      omega (arith, one, many, rows)

  pub one_row : s.limits.threads ≡ 1 → length g.moment.state.registers ≡ REGISTERS
  one_row one = let many = registers_many in omega (arith, one, many)

  -- where no trace runs, what holds of each moment of a legal history holds of this one
  pub good : s.limits.threads ≡ 1 → g.moment.trace ≡ None → GoodAt 1 g.moment
  good one untraced =
      let f = rests.safepoint.holds.follows in
      record {
        world_stuck = f.world;
        within = f.kept;
        kept = λ n h. let a = f.objects n h in subst (λ o. IsTrue (is_some o)) (sym a.2) refl;
        grows = f.grows;
        young = λ n h. (λ k. no_object g.moment.last.graph n (f.young n h).0 k, (f.young n h).1);
        reach = λ n r. live_reachable g.moment f n r;
        running = subst (λ t. RunningGood t g.moment.state) (sym untraced) tt;
        rows = two_rows one;
      }

  -- nor is a block Chosen
  pub none_chosen : g.moment.trace ≡ None → NoneChosen (tables_of s) s.limits.blocks
  none_chosen untraced = subst (ChosenNeedTrace (tables_of s) s.limits.blocks) untraced rests.safepoint.holds.blocks.chosen

  -- where no reference was stored to, it is quiescent
  pub quiescent : g.moment.written ≡ [] → IsQuiescent s g
  quiescent none = record { safepoint = rests.safepoint; unwritten = none; undecremented = rests.undecremented; lines = rests.lines; outs = rests.outs; states = rests.states }

-- a quiescent space rests
pub at_rest : (s : Space) (g : AbstractState) → IsQuiescent s g → IsAtRest s g
at_rest s g q = record { safepoint = q.safepoint; undecremented = q.undecremented; lines = q.lines; outs = q.outs; states = q.states }

-- what is promoted was made since the last pause
pub promoted_young : (m : Moment) (r : PauseReport) → IsReport m r → (n : Name) → IsTrue (has r.promoted n) → IsTrue (has m.made n)
promoted_young m r is n h = promoted_made ((is.1.promoted.members n).0 h)

-- what is promoted or one of some unreclaimed names is one of all of them
old_or_promoted : (m : Moment) (r : PauseReport) (kept : List Name) (n : Name) → ((q : Name) → IsTrue (has kept q) → IsTrue (has m.unreclaimed q)) → IsTrue (has (union r.promoted kept) n) → IsTrue (has (union r.promoted m.unreclaimed) n)
old_or_promoted m r kept n among h = elim (union_cases r.promoted kept n h) [
  | inl q ↦ union_left r.promoted m.unreclaimed n q
  | inr q ↦ union_right r.promoted m.unreclaimed n (among n q)
]

-- a pause leaves what is reachable
stays_left : (m : Moment) (r : PauseReport) → (is : IsReport m r) → GoodAt 1 m → (n : Name) → Reachable m.state n → IsTrue (has (union r.promoted m.unreclaimed) n) → IsTrue (has (unreclaimed_after m r) n)
stays_left m r is good n reached member =
    in_without (without (union r.promoted m.unreclaimed) r.dead) r.swept n
    (in_without (union r.promoted m.unreclaimed) r.dead n member (λ d. dead_gone 1 m r is.0 is.1 good n d reached))
    (λ d. swept_gone 1 m r is.0 is.1 good n d reached)

-- behind a pause that collects exactly what is reachable is unreclaimed
pub collected : (m : Moment) (r : PauseReport) → GoodAt 1 m → IsReport m r → r.kind ≡ kind.Collect → IsCollected (after_pause m r)
collected m r good is collects = record {
  made = refl;
  written = refl;
  exactly = λ n. (
    λ h. collected_reachable m r is.0 is.1 (reachable_kept 1 m r is.0 is.1 good) collects n h,
    λ reached. stays_left m r is good n reached (old_or_promoted m r (without m.unreclaimed is.0.first_dead) n (λ q h. (without_parts m.unreclaimed is.0.first_dead q h).0) (reachable_kept 1 m r is.0 is.1 good n reached)),
  );
}
