-- A member to which only dead names refer is dead, and where no member without references is left, all dead are gone; and the
-- dead at the last pause are apart from what is live.
use Rattle.std.proofs.Common.{◌≡◌, ◌≢◌, ℕ, refl, ◌∙◌, inl, inr, Bool, true, false, List, IsTrue, ◌↔◌}
use Rattle.std.proofs.lemmas.Bool.{false_from_ne_true}
use Rattle.lxr_layout.specs.declared.Name.{Name}
use Rattle.lxr_graph.specs.Names.{has, without}
use Rattle.lxr_graph.specs.State.{State}
use Rattle.lxr_graph.proofs.NameSets.{without_parts, in_without, in_order-without, not_both}
use Rattle.lxr_model.specs.Reachable.{Refers}
use Rattle.lxr_model.specs.Dead.{Dead, dead}
use Rattle.lxr_model.specs.References.{references}
use Rattle.lxr_model.specs.Moments.{Moment}
use Rattle.lxr_model.proofs.ReachableLemmas.{dead_parts, dead_apart}
use Rattle.lxr_model.proofs.CountLemmas.{references_zero, references_none}
use Rattle.lxr_model_counting.specs.Distinct.{has_field}
use Rattle.lxr_model_counting.specs.Following.{FollowsPause, IsLive}
use Rattle.lxr_model_counting.specs.Laws.{DeathLeavesTheLiving}

-- ---- one after another

-- what the names that are left don't refer to is dead, where what is gone is dead
pub unreferred_dead : (s : State) (us stuck gone : List Name) → ((u : Name) → IsTrue (has gone u) → Dead s us stuck u)
    → (o : Name) → IsTrue (has us o) → has stuck o ≡ false → references s (without us gone) o ≡ 0 → Dead s us stuck o
unreferred_dead s us stuck gone each o member unstuck zero =
    let none = references_zero s (without us gone) o zero in
    dead member unstuck none.0 (λ u in_u f. elim (has gone u) as (λ b. has gone u ≡ b → Dead s us stuck u) [
      | true ↦ λ e. each u e
      | false ↦ λ e. absurd (none.1 u (in_without us gone u in_u (λ k. not_both (has gone u) k e)) f)
    ] refl)

-- where each unstuck member that is left is referred to, what is dead is gone
pub over_dead : (s : State) (us stuck gone : List Name) → ((o : Name) → IsTrue (has us o) → has stuck o ≡ false → has gone o ≡ false → references s (without us gone) o ≢ 0)
    → (o : Name) → Dead s us stuck o → (b : Bool) → has gone o ≡ b → IsTrue (has gone o)
over_dead s us stuck gone over o d true e = e
over_dead s us stuck gone over o (dead member unstuck unheld each) false e =
    absurd (over o member unstuck e
    (references_none s (without us gone) o unheld (λ u in_w f.
    let at = without_parts us gone u in_w in
    not_both (has gone u) (over_dead s us stuck gone over u (each u at.0 f) (has gone u) refl) at.1)))

-- death hangs on which names are stuck, and not on their order
pub dead_by_names : (s : State) (us stuck others : List Name) → ((n : Name) → has others n ≡ has stuck n) → {o : Name} → Dead s us stuck o → Dead s us others o
dead_by_names s us stuck others same (dead member unstuck unheld each) =
    dead member (same _ ∙ unstuck) unheld (λ u in_u f. dead_by_names s us stuck others same (each u in_u f))

-- ---- the living

-- the names of a list are the dead at the last pause
abbrev pub AreTheDead : Moment → List Name → Type 0
AreTheDead m gone = (n : Name) → IsTrue (has gone n) ↔ Dead m.last m.unreclaimed m.stuck n

pub live_not_dead : (m : Moment) → FollowsPause m → (n : Name) → IsLive m n → Dead m.last m.unreclaimed m.stuck n → ⊥
live_not_dead m follows n (inl r) d = dead_apart m.last m.unreclaimed m.stuck follows.kept follows.world n d r
live_not_dead m follows n (inr h) d = not_both (has m.unreclaimed n) (dead_parts d).member (follows.apart n h)

-- no reference of a dead object was stored to since the last pause
pub dead_unwritten : (m : Moment) (n : Name) (i : ℕ) → FollowsPause m → Dead m.last m.unreclaimed m.stuck n → has_field m.written (n, i) ≡ false
dead_unwritten m n i follows d = false_from_ne_true (has_field m.written (n, i)) (λ k. live_not_dead m follows n (inl (follows.written n i k).1) d)

pub live_not_gone : (m : Moment) (gone : List Name) → FollowsPause m → AreTheDead m gone → (n : Name) → IsLive m n → IsTrue (has gone n) → ⊥
live_not_gone m gone follows are n live h = live_not_dead m follows n live ((are n).0 h)

-- what is left referred only to what is left
pub left_closed : (m : Moment) (gone : List Name) → FollowsPause m → AreTheDead m gone
    → (u n : Name) → IsTrue (has (without m.unreclaimed gone) u) → Refers m.last.graph u n → IsTrue (has (without m.unreclaimed gone) n)
left_closed m gone follows are u n h f =
    let at = without_parts m.unreclaimed gone u h in
    in_without m.unreclaimed gone n (follows.closed u n at.0 f) (λ k. not_both (has gone u) ((are u).1 ((dead_parts ((are n).0 k)).each u at.0 f)) at.1)

pub left_follows : (m : Moment) (gone : List Name) → FollowsPause m → AreTheDead m gone → FollowsPause (record m { unreclaimed = without m.unreclaimed gone })
left_follows m gone follows are =
    let within : (n : Name) → IsTrue (has (without m.unreclaimed gone) n) → IsTrue (has m.unreclaimed n) = λ n h. (without_parts m.unreclaimed gone n h).0 in
    let stays : (n : Name) → IsLive m n → IsTrue (has m.unreclaimed n) → IsTrue (has (without m.unreclaimed gone) n) = λ n l h. in_without m.unreclaimed gone n h (live_not_gone m gone follows are n l) in
    record {
      unreclaimed = in_order-without m.unreclaimed gone follows.unreclaimed;
      made = follows.made;
      apart = λ n h. false_from_ne_true (has (without m.unreclaimed gone) n) (λ k. not_both (has m.unreclaimed n) (within n k) (follows.apart n h));
      kept = λ n r. stays n (inl r) (follows.kept n r);
      closed = left_closed m gone follows are;
      world = follows.world;
      stuck = λ n h. in_without m.unreclaimed gone n (follows.stuck n h) (λ k. not_both (has m.stuck n) h (dead_parts ((are n).0 k)).unstuck);
      held = follows.held;
      referred = follows.referred;
      grows = follows.grows;
      objects = λ n h. follows.objects n (within n h);
      young = follows.young;
      unreached = λ n h. follows.unreached n (within n h);
      unwritten = λ n i h. follows.unwritten n i (within n h);
      written_once = follows.written_once;
      written = λ n i h. let w = follows.written n i h in (stays n (inl w.1) w.0, w.1, w.2);
      rows = follows.rows;
      registers = follows.registers;
      registers_were = follows.registers_were;
    }

pub death_leaves : DeathLeavesTheLiving
death_leaves m gone follows are = record {
  live = λ n l. false_from_ne_true (has gone n) (live_not_gone m gone follows are n l);
  closed = left_closed m gone follows are;
  follows = left_follows m gone follows are;
}
