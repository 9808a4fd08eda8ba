-- What a watch has seen once it has looked twice more.
use Rattle.std.proofs.Common.{◌≡◌, ℕ, refl, sym, ap, ◌∙◌, List, [], ◌∷◌, ◌++◌, append_assoc}
use Rattle.std.specs.Prelude.{Option, Some, None}
use Rattle.std.proofs.lemmas.List.{append-nil}
use Rattle.lxr_layout.specs.declared.Name.{Name}
use Rattle.lxr_graph.specs.declared.Op.{Op}
use Rattle.lxr_graph.specs.declared.Reply.{Reply}
use Rattle.lxr_graph.specs.History.{Item, Call, Pause, PauseReport}
use Rattle.lxr_image.specs.Image.{opening_at}
use Rattle.lxr_sights.specs.Sights.{Looks, Sight}
use Rattle.lxr_core_invariant.specs.EpochStates.{Extends, same, called}
use Rattle.lxr_image.specs.declared.space.Tally.{Tally}
use Rattle.lxr_rounds_history.specs.Sights.{HasSeen, SeesPause, SeesTo}
use Rattle.lxr_rounds_history.specs.Tally.{Evacuated, evacuated_in, none_evacuated}

-- before the first pause nothing is seen
seen_none : (seen : Option (List Sight)) → HasSeen seen seen []
seen_none None = tt
seen_none (Some sights) = sym (append-nil sights)

pub sees_none : (threads : ℕ) (seen : Option (List Sight)) → SeesTo threads [] seen seen opening_at none_evacuated
sees_none threads seen = record { sights = []; pauses = (refl, refl, refl); told = seen_none seen }

-- a call isn't seen
pub sees_call : (threads : ℕ) (h : List Item) (t : ℕ) (o : Op) (r : Reply) (before seen : Option (List Sight)) (places : Name → ℕ) (evacuated : Evacuated) → SeesTo threads h before seen places evacuated
    → SeesTo threads (Call t o r ∷ h) before seen places evacuated
sees_call threads h t o r before seen places evacuated sees = record { sights = sees.sights; pauses = sees.pauses; told = sees.told }

-- so an epoch isn't
pub sees_epoch : (threads every : ℕ) (h k : List Item) (before seen : Option (List Sight)) (places : Name → ℕ) (evacuated : Evacuated) → Extends threads every h k → SeesTo threads h before seen places evacuated
    → SeesTo threads k before seen places evacuated
sees_epoch threads every h k before seen places evacuated (same) sees = sees
sees_epoch threads every h k before seen places evacuated (called l t o r front is) sees = sees_call threads l t o r before seen places evacuated (sees_epoch threads every h l before seen places evacuated front sees)

-- two looks more
seen_twice : (before seen amid after : Option (List Sight)) (sights : List Sight) (safepoint last : Sight) → HasSeen before seen sights → Looks seen amid safepoint → Looks amid after last
    → HasSeen before after (sights ++ safepoint ∷ last ∷ [])
seen_twice before seen amid None sights safepoint last had first second = tt
seen_twice before seen None (Some after) sights safepoint last had first second = absurd second
seen_twice before None (Some amid) (Some after) sights safepoint last had first second = absurd first
seen_twice None (Some seen) (Some amid) (Some after) sights safepoint last had first second = absurd had
seen_twice (Some before) (Some seen) (Some amid) (Some after) sights safepoint last had first second = grown before sights seen amid after safepoint last had first second
  where
    grown : (u s v w x : List Sight) (a b : Sight) → v ≡ u ++ s → w ≡ v ++ a ∷ [] → x ≡ w ++ b ∷ [] → x ≡ u ++ (s ++ a ∷ b ∷ [])
    grown u s v w x a b e f k = k ∙ ap (λ z. z ++ b ∷ []) (f ∙ ap (λ z. z ++ a ∷ []) e) ∙ simp append_assoc

-- a pause is seen by the looks at its safepoint and behind it
pub sees_pause : (threads : ℕ) (h : List Item) (report : PauseReport) (before seen amid after : Option (List Sight)) (safepoint last : Sight) (places places' : Name → ℕ)
    → SeesTo threads h before seen places (evacuated_in safepoint.tally) → Looks seen amid safepoint → Looks amid after last → SeesPause threads h report safepoint last places places'
    → SeesTo threads (Pause report ∷ h) before after places' (evacuated_in last.tally)
sees_pause threads h report before seen amid after safepoint last places places' sees first second pause = record {
  sights = sees.sights ++ safepoint ∷ last ∷ [];
  pauses = (sees.sights, safepoint, last, places, refl, sees.pauses, pause, refl);
  told = seen_twice before seen amid after sees.sights safepoint last sees.told first second;
}

-- a tally that counts as many moved and kept objects
pub same_evacuated : (t u : Tally) → u.moved ≡ t.moved → u.kept ≡ t.kept → evacuated_in u ≡ evacuated_in t
same_evacuated t u moved kept = ap (λ n. evacuated_in (record u { moved = n })) moved ∙ ap (λ n. evacuated_in (record u { moved = t.moved; kept = n })) kept
