-- What the last pause left is told: the heap stays that of its history, and where a pause is fresh, its counts are told.
use Rattle.std.proofs.Common.{◌≡◌, ℕ, ◌≤◌, refl, sym, ap, subst, ◌∙◌, arith, List, [], ◌∷◌, map}
use Rattle.lxr_layout.specs.declared.Name.{Name}
use Rattle.lxr_graph.specs.declared.Op.TheVariants as op
use Rattle.lxr_graph.specs.declared.Reply.TheVariants as reply
use Rattle.lxr_graph.specs.declared.report.Count.{Count}
use Rattle.lxr_graph.specs.declared.report.Report.{Report}
use Rattle.lxr_graph.specs.History.{HasToldNames, PauseReport, report_of}
use Rattle.lxr_graph.specs.Telling.{HasListsInOrder, with_names_told}
use Rattle.lxr_graph.proofs.NameSets.{in_order-none}
use Rattle.lxr_image.specs.declared.space.Space.{Space}
use Rattle.lxr_model.specs.Moments.{Moment}
use Rattle.lxr_model.specs.Reports.{AreCounts, count_entry, is_draining}
use Rattle.lxr_invariant.specs.Quiescent.{HoldsMoment}
use Rattle.lxr_invariant.specs.Settled.{IsSettled}
use Rattle.lxr_pause_queue.specs.Counting.{CanCount, ListsCounts}
use Rattle.lxr_model_laws.proofs.ReportLemmas.{reports_in_order}
use Rattle.lxr_one_pause.specs.Settling.{survived}
use Rattle.lxr_one_pause.proofs.TellingLemmas.{counts_reported}
use Rattle.lxr_graph.specs.Renewing.{renewed_state}
use Rattle.lxr_large_model.specs.declared.LargeOp.TheVariants as large_op
use Rattle.lxr_large_model.specs.declared.LargeReply.TheVariants as large_reply
use Rattle.lxr_large_model.specs.Full.{IsFresh, LargeTerms}
use Rattle.lxr_large_model.specs.History.{LargeItem, Called, Paused, Renewed, large_moment}
use Rattle.lxr_large_model.specs.Pauses.{IsLegalLarge}
use Rattle.lxr_heap.specs.declared.heap.Heap.{Heap}
use Rattle.lxr_heap.specs.Holding.{IsHeapOf, last_report, terms_of}
use Rattle.lxr_heap.specs.Telling.{TellsHeap, TellsNames}
use Rattle.lxr_heap.proofs.CallLemmas.{rests_whole}
use Rattle.lxr_heap.proofs.SameLemmas.{retold_heap, same_heap}

-- ---- the counts of the last pause

-- the counts of what is unreclaimed at a moment
abbrev counts_at : Moment → List Count
counts_at m = map (count_entry m.state m.unreclaimed m.stuck) m.unreclaimed

-- the last pause counted what is unreclaimed, unless names were renewed since
counts_left : (terms : LargeTerms) (h : List LargeItem) → IsLegalLarge terms h → IsFresh h → 1 ≤ (large_moment h).number → (last_report h).counts ≡ counts_at (large_moment h)
counts_left terms [] legal fresh some = absurd fresh
counts_left terms (Paused report ∷ h) legal fresh some = counts_reported (large_moment h) report (subst (λ k. AreCounts (large_moment h) report (is_draining k)) fresh legal.1.reports.1.counts)
counts_left terms (Renewed ns ∷ h) legal fresh some = absurd (omega (arith, some))
counts_left terms (Called (large_op.Small (op.New dest shape)) (large_reply.Small reply.Full) ∷ h) legal fresh some = counts_left terms h legal.0 fresh some
counts_left terms (Called (large_op.Big dest blocks) large_reply.Full ∷ h) legal fresh some = counts_left terms h legal.0 fresh some
counts_left terms (Called o r ∷ h) legal fresh some = absurd fresh

-- ---- its names

-- a history leads to a report whose names stand in order
reported_in_order : (terms : LargeTerms) (h : List LargeItem) → IsLegalLarge terms h → HasListsInOrder (last_report h)
reported_in_order terms [] legal = record { promoted = in_order-none; dead = in_order-none; stuck = in_order-none; swept = in_order-none }
reported_in_order terms (Paused report ∷ h) legal = reports_in_order (large_moment h) report legal.1.reports
reported_in_order terms (Renewed ns ∷ h) legal = reported_in_order terms h legal.0
reported_in_order terms (Called o r ∷ h) legal = reported_in_order terms h legal.0

-- ---- the heap

-- where a pause is fresh, the state is that of the last pause
pub same_state : (h : List LargeItem) → IsFresh h → (large_moment h).last ≡ (large_moment h).state
same_state [] fresh = absurd fresh
same_state (Paused report ∷ h) fresh = refl
same_state (Renewed ns ∷ h) fresh = ap (renewed_state 1 ns) (same_state h fresh)
same_state (Called (large_op.Small (op.New dest shape)) (large_reply.Small reply.Full) ∷ h) fresh = same_state h fresh
same_state (Called (large_op.Big dest blocks) large_reply.Full ∷ h) fresh = same_state h fresh
same_state (Called o r ∷ h) fresh = absurd fresh

module _ (x : Heap) (h : List LargeItem) (is : IsHeapOf x h) where
  abbrev m : Moment
  m = large_moment h

  -- nothing was done since
  pub settled : IsFresh h → IsSettled m
  settled f = record { same = same_state h f; none_made = (is.collected f).made; none_written = (is.collected f).written }

  -- so counts may be told there
  can_count : IsFresh h → CanCount x.space m is.at
  can_count f = let rests = rests_whole x h is f in record { holds = rests.safepoint.holds; settled = settled f; undecremented = rests.undecremented; empty = is.drained f }

  pub tells_heap : (space : Space) → ((m : Moment) (at : Name → ℕ) → HoldsMoment x.space m at → ListsCounts x.space space m at) → TellsHeap x (record x { space = space }) h
  tells_heap space lists =
      let told = space.report.told.items in
      let tells = lists (survived m x.gone.items) is.at is.stands.0.safepoint.holds in
      let counts : IsFresh h → told ≡ counts_at m = λ f. (lists m is.at (rests_whole x h is f).safepoint.holds).counts (can_count f) in
      record {
        holds = subst (λ (s : Space). IsHeapOf (record x { space = s }) h) (sym tells.space) (same_heap x h is told h record { moment = refl; state = refl; reported = refl; fresh = (λ f. f, λ f. f) } is.legal);
        names = tells.names;
        entries = λ at holds. (lists (survived m x.gone.items) at holds).entries;
        counts = counts;
        told = λ f some.
            let number = is.stands.0.safepoint.numbers.pauses in
            counts f
            ∙ sym (counts_left (terms_of x) h is.legal f (omega (arith, number, some)))
            ∙ sym (ap (λ (r : PauseReport). r.counts) is.stands.0.safepoint.numbers.report)
            ∙ sym (ap (λ (s : Space). s.report.counts.items) tells.space);
        heap = ap {A = Space} (λ s. record x { space = s }) tells.space;
      }

  -- the names of its last report stand in order
  pub in_order : HasListsInOrder (report_of x.space.report)
  in_order = subst HasListsInOrder (sym is.stands.0.safepoint.numbers.report) (reported_in_order (terms_of x) h is.legal)

  pub tells_names : (report : Report) → report ≡ with_names_told x.space.report → TellsNames x (record x { space = record x.space { report = report } }) h
  tells_names report told = record {
    holds = subst (λ (r : Report). IsHeapOf (record x { space = record x.space { report = r } }) h) (sym told)
        (retold_heap x h is (with_names_told x.space.report) h record { moment = refl; state = refl; reported = refl; fresh = (λ f. f, λ f. f) } is.legal);
    told = subst HasToldNames (sym told) (record { promoted = refl; dead = refl; stuck = refl; swept = refl });
    heap = ap {A = Report} (λ r. record x { space = record x.space { report = r } }) told;
  }
