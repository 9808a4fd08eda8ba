-- What stays through an epoch: the last pause, the places of what was unreclaimed then, and what tables tell of both.
use Rattle.std.proofs.Common.{◌≡◌, ℕ, ◌+◌, ◌<◌, refl, sym, ap, subst, ◌∙◌, cond, false, List, [], ◌∷◌}
use Rattle.std.specs.Prelude.{not, IsTrue}
use Rattle.std.proofs.lemmas.Bool.{or_left, or_right}
use Rattle.lxr_layout.specs.declared.limits.Limits.{Limits}
use Rattle.lxr_layout.specs.declared.Name.{Name}
use Rattle.lxr_layout.specs.declared.TheConstants.{STUCK}
use Rattle.lxr_graph.specs.History.{Item}
use Rattle.lxr_graph.specs.Names.{has, same_name}
use Rattle.lxr_graph.proofs.NameSets.{same_itself}
use Rattle.lxr_image.specs.Tables.{Tables}
use Rattle.lxr_image.specs.Reads.{granule_of}
use Rattle.lxr_model.specs.Dead.{Dead}
use Rattle.lxr_model.specs.Moments.{Moment, moment}
use Rattle.lxr_model.specs.References.{references}
use Rattle.lxr_invariant.specs.Counting.{HasCounts, HasDecrements, listed_at, undone, waiting_at}
use Rattle.lxr_invariant.proofs.NameLemmas.{in_first}
use Rattle.lxr_core_invariant.specs.EpochStates.{Beginning, EpochState, Extends, same, called, limits_of, moment_of}
use Rattle.lxr_core_invariant.specs.Epoch.{IsEpoch}

-- ---- the last pause

-- two moments since one pause
pub record HaveOnePause (m k : Moment) : Type 0 where
  pub last : k.last ≡ m.last
  pub number : k.number ≡ m.number
  pub unreclaimed : k.unreclaimed ≡ m.unreclaimed
  pub stuck : k.stuck ≡ m.stuck
  pub trace : k.trace ≡ m.trace

-- calls leave the last pause
pub pause_stays : (threads every : ℕ) (h k : List Item) → Extends threads every h k → HaveOnePause (moment threads h) (moment threads k)
pause_stays threads every h k (same) = record { last = refl; number = refl; unreclaimed = refl; stuck = refl; trace = refl }
pause_stays threads every h k (called j t o r before is) =
    let rest = pause_stays threads every h j before in
    record { last = rest.last; number = rest.number; unreclaimed = rest.unreclaimed; stuck = rest.stuck; trace = rest.trace }

-- the last pause is that of the beginning
pub one_pause : (b : Beginning) (s : EpochState) → IsEpoch b s → HaveOnePause b.abstract_state.moment (moment_of b s)
one_pause b s is = subst (λ (m : Moment). HaveOnePause m (moment_of b s)) (sym is.begins.moment) (pause_stays (limits_of b).threads b.every b.history s.history is.extends)

-- so is what was dead there
pub dead_stays : (m k : Moment) (n : Name) → HaveOnePause m k → Dead m.last m.unreclaimed m.stuck n → Dead k.last k.unreclaimed k.stuck n
dead_stays m k n one dead =
    subst (λ z. Dead k.last k.unreclaimed z n) (sym one.stuck) (subst (λ z. Dead k.last z m.stuck n) (sym one.unreclaimed) (subst (λ z. Dead z m.unreclaimed m.stuck n) (sym one.last) dead))

-- ---- places

-- what stands where it did
abbrev pub AreUnmoved : List Name → (Name → ℕ) → (Name → ℕ) → Type 0
AreUnmoved us at to = (n : Name) → IsTrue (has us n) → to n ≡ at n

-- what is unreclaimed does
pub unmoved : (b : Beginning) (s : EpochState) → IsEpoch b s → AreUnmoved b.abstract_state.moment.unreclaimed b.abstract_state.at s.at
unmoved b s is n h = is.image.placed.unmoved n (in_first b.abstract_state.moment.unreclaimed b.abstract_state.moment.made n h)

-- ---- counts and decrements

-- what is undone is so at the same places
undone_unmoved : (t : Tables) (at to : Name → ℕ) (us : List Name) → AreUnmoved us at to → undone t at us ≡ undone t to us
undone_unmoved t at to [] still = refl
undone_unmoved t at to (u ∷ us) still =
    ap (λ p. cond (not (t.dones (granule_of p))) (u ∷ undone t at us) (undone t at us)) (sym (still u (or_left (same_name u u) (has us u) (same_itself u))))
    ∙ ap (λ ns. cond (not (t.dones (granule_of (to u)))) (u ∷ ns) ns) (undone_unmoved t at to us (λ n h. still n (or_right (same_name n u) (has us n) h)))

-- counts are those of what stands where it did
pub counts_unmoved : (t : Tables) (m k : Moment) (at to : Name → ℕ) → HaveOnePause m k → AreUnmoved m.unreclaimed at to → HasCounts t m at → HasCounts t k to
counts_unmoved t m k at to one still is =
    let in_m : (n : Name) → IsTrue (has k.unreclaimed n) → IsTrue (has m.unreclaimed n) = λ n h. subst (λ z. IsTrue (has z n)) one.unreclaimed h in
    let loose : (n : Name) → has k.stuck n ≡ false → has m.stuck n ≡ false = λ n h. subst (λ z. has z n ≡ false) one.stuck h in
    record {
      stuck = λ n h stuck. ap (λ z. t.counts (granule_of z)) (still n (in_m n h)) ∙ is.stuck n (in_m n h) (subst (λ z. IsTrue (has z n)) one.stuck stuck);
      below = λ n h l. subst (λ z. t.counts (granule_of z) < STUCK) (sym (still n (in_m n h))) (is.below n (in_m n h) (loose n l));
      exact = λ n h l. ap (λ z. t.counts (granule_of z)) (still n (in_m n h)) ∙ is.exact n (in_m n h) (loose n l)
          ∙ ap (λ z. references m.last z n + waiting_at t (at n)) (undone_unmoved t at to m.unreclaimed still)
          ∙ ap (λ z. references m.last (undone t to m.unreclaimed) n + waiting_at t z) (sym (still n (in_m n h)))
          ∙ ap (λ z. references z (undone t to m.unreclaimed) n + waiting_at t (to n)) (sym one.last)
          ∙ ap (λ z. references k.last (undone t to z) n + waiting_at t (to n)) (sym one.unreclaimed);
      held = λ n h l none. is.held n (in_m n h) (loose n l) (
          ap (λ z. references m.last m.unreclaimed n + listed_at t z) (sym (still n (in_m n h)))
          ∙ ap (λ z. references z m.unreclaimed n + listed_at t (to n)) (sym one.last)
          ∙ ap (λ z. references k.last z n + listed_at t (to n)) (sym one.unreclaimed) ∙ none);
      done = λ n h done. ap (λ z. t.counts (granule_of z)) (still n (in_m n h)) ∙ is.done n (in_m n h) (subst (λ z. IsTrue (t.dones (granule_of z))) (still n (in_m n h)) done);
      dead = λ n h done. dead_stays m k n one (is.dead n (in_m n h) (subst (λ z. IsTrue (t.dones (granule_of z))) (still n (in_m n h)) done));
    }

-- so are decrements that wait
pub decrements_unmoved : (l : Limits) (t : Tables) (m k : Moment) (at to : Name → ℕ) → HaveOnePause m k → AreUnmoved m.unreclaimed at to → HasDecrements l t m at → HasDecrements l t k to
decrements_unmoved l t m k at to one still is = record {
  fits = is.fits;
  places = λ i low. let a = is.places i low in (a.0, subst (λ z. IsTrue (has z a.0)) (sym one.unreclaimed) a.1, a.2 ∙ sym (still a.0 a.1));
}
