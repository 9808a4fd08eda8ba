-- What raising changes beside placing leaves what is known of lines that are wanting.
use Rattle.std.proofs.Common.{ℕ, ap, sym, ◌∙◌}
use Rattle.lxr_layout.specs.declared.Name.{Name}
use Rattle.lxr_image.specs.declared.space.Space.{Space}
use Rattle.lxr_image.specs.Spaces.{tables_of}
use Rattle.lxr_pause_promote.specs.declared.shortage.Shortage.{Shortage}
use Rattle.lxr_pause_promote.specs.Shortages.{IsShortage}
use Rattle.lxr_pause_promote.proofs.FewerLemmas.{states_same, still_short}
use Rattle.lxr_pause_increments.specs.Promotion.{RaisesAt}
use Rattle.lxr_pause_increments.proofs.ChangedLemmas.{ChangesHeld}
use Rattle.lxr_pause_increments.proofs.IncrementLemmas.{raised_still}

-- a count is raised
pub raised_short : (a b : Space) (p : ℕ) (o : Name) (shortage : Shortage) → RaisesAt a b p o → IsShortage a shortage → IsShortage b shortage
raised_short a b p o shortage raised short =
    let still = raised_still a b p o raised in
    still_short a b shortage (record {
      blocks = ap (λ l. l.blocks) still.limits;
      grows = record { outs = λ line out. ap (λ f. f line) still.outs ∙ out; counts = still.counts };
      states = λ k. states_same (tables_of a) (tables_of b) k still.states;
    }) short

-- a reference is written or remembered
pub changed_short : (b c : Space) (shortage : Shortage) → ChangesHeld b c → IsShortage b shortage → IsShortage c shortage
changed_short b c shortage changes short = still_short b c shortage (record {
  blocks = ap (λ s. s.limits.blocks) changes.space;
  grows = record {
    outs = λ line out. ap (λ t. t.outs line) changes.tables ∙ out;
    counts = λ k some none. some (sym (ap (λ t. t.counts k) changes.tables) ∙ none);
  };
  states = λ k. states_same (tables_of b) (tables_of c) k (ap (λ t. t.states) changes.tables);
}) short
