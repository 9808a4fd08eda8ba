-- Why each near miss is none: what is dead isn't reachable, a moment gives one report of a kind, a collecting pause needs
-- somebody who asks or waits, and an operation names the first registers alone. Behind the last end one pause stands at most.
use Rattle.std.proofs.Common.{◌≡◌, ℕ, ◌⊎◌, inl, inr, refl, ap, arith, false, List, [], ◌∷◌, IsTrue}
use Rattle.std.specs.Prelude.{reverse}
use Rattle.lxr_layout.specs.declared.Name.{Name}
use Rattle.lxr_graph.specs.declared.report.Kind.TheVariants as kind
use Rattle.lxr_graph.specs.History.{Pause}
use Rattle.lxr_model.specs.Moments.{moment, state_at}
use Rattle.lxr_model.proofs.HistoryLemmas.{reclaimed_unreachable}
use Rattle.lxr_model.proofs.CollectLemmas.{whole_so_far}
use Rattle.lxr_model_laws.proofs.ReportLemmas.{report_determined}
use Rattle.lxr_model_decide.specs.Reports.{report_at}
use Rattle.lxr_model_decide.proofs.SetLemmas.{reachable_right}
use Rattle.lxr_model_decide.proofs.PartLemmas.{reports_right}
use Rattle.lxr_model_decide.proofs.LegalityLemmas.{legal_by_tests, legal_so_far}
use Rattle.lxr_model_decide.proofs.BelongingLemmas.{belongs_by_tests}
use Rattle.lxr_model_decide.specs.ExampleWords.{usual_terms, made}
use Rattle.lxr_model_decide.specs.NearMisses.{kept_run, kept_is_dead, ReachableIsNotDead, cycle_left, cycle_is_dead, CycleIsNotDead, paused, UnaskedCollectIsRefused, made_one, moves_beyond, RegisterBeyondIsRefused, ended_run, one_more, OnePauseBehindTheLastEnd}

pub reachable_is_not_dead : ReachableIsNotDead
reachable_is_not_dead = record {
  before = legal_so_far usual_terms (reverse kept_run) refl refl;
  refused = λ legal. reclaimed_unreachable usual_terms (reverse kept_run) kept_is_dead legal (made 1) (inl refl)
      (((reachable_right (state_at usual_terms (reverse kept_run))).members (made 1)).0 refl);
}

some_are_none : {n : Name} {ns : List Name} → n ∷ ns ≡ [] → ⊥
some_are_none e = cc

pub cycle_is_not_dead : CycleIsNotDead
cycle_is_not_dead = record {
  before = legal_so_far usual_terms (reverse cycle_left) refl refl;
  refused = λ legal.
      let m = moment 1 (reverse cycle_left) in
      some_are_none (ap (λ r. r.dead) (report_determined m cycle_is_dead (report_at m kind.Plain) legal.2.reports (reports_right m kind.Plain tt) refl));
}

-- no thread called `collect`, one has not ended, and no `new` waits
nobody_asks : (IsTrue false ⊎ ◌≡◌ {A = ℕ} 0 1) ⊎ ⊥ → ⊥
nobody_asks (inl (inl e)) = absurd (cc)
nobody_asks (inl (inr e)) = absurd (cc)
nobody_asks (inr e) = e

pub unasked_collect_is_refused : UnaskedCollectIsRefused
unasked_collect_is_refused = record { before = legal_so_far usual_terms (reverse paused) refl refl; refused = λ legal. nobody_asks legal.2.stands }

pub register_beyond_is_refused : RegisterBeyondIsRefused
register_beyond_is_refused = (
  record { before = legal_so_far usual_terms (reverse made_one) refl refl; refused = λ legal. let few = legal.2.operation.0 in absurd (omega (arith, few)) },
  legal_so_far (record usual_terms { registers = 21 }) (moves_beyond ∷ reverse made_one) refl refl,
)

-- the history up to the pause is a whole one, and so one so far
pub one_pause_behind_the_last_end : OnePauseBehindTheLastEnd
one_pause_behind_the_last_end = record {
  before = whole_so_far usual_terms ([] ∷ []) (reverse ended_run)
      (legal_by_tests usual_terms (reverse ended_run) (record { stand = refl; owes = refl; same = refl }))
      (belongs_by_tests usual_terms ([] ∷ []) (reverse ended_run) (record { calls = refl; pauses = refl }));
  legal = legal_so_far usual_terms (Pause one_more ∷ reverse ended_run) refl refl;
  refused = λ belongs. let early = belongs.early in absurd (omega arith);
}
