-- Objects that move on where a step moves none.
use Rattle.std.proofs.Common.{◌≡◌, ◌≢◌, ℕ, ◌+◌, ◌*◌, ◌/◌, ◌%◌, ◌^◌, ◌≤◌, refl, sym, ap, subst, ◌∙◌, Bool, List}
use Rattle.std.specs.Prelude.{◌↔◌, ◌⊎◌, ◌&&◌, not, if◌then◌else◌, Some, IsTrue}
use Rattle.lxr_layout.specs.declared.Name.{Name}
use Rattle.lxr_layout.specs.declared.TheConstants.{GRANULES_IN_BLOCK}
use Rattle.lxr_layout.specs.Objects.{moved_word}
use Rattle.lxr_layout.specs.Places.{first_word}
use Rattle.lxr_graph.specs.Names.{has}
use Rattle.lxr_graph.specs.State.{Object, object_at}
use Rattle.lxr_image.specs.declared.space.Space.{Space}
use Rattle.lxr_image.specs.Tables.{Tables}
use Rattle.lxr_image.specs.Spaces.{tables_of}
use Rattle.lxr_image.specs.Reads.{granule_of}
use Rattle.lxr_image.specs.Image.{ArePlacesOf, granules_of}
use Rattle.lxr_blocks.specs.declared.states.BlockState.TheVariants.{Chosen}
use Rattle.lxr_blocks.specs.Kept.{IsKeptGranule}
use Rattle.lxr_blocks.proofs.FreeLemmas.{free_joined, free_same}
use Rattle.lxr_model.specs.Moments.{Field, Moment}
use Rattle.lxr_model_counting.specs.Distinct.{has_field}
use Rattle.lxr_invariant.specs.AbstractState.{members}
use Rattle.lxr_invariant.specs.Copied.{HasCopy, HasWord}
use Rattle.lxr_invariant.specs.Standing.{word_of_field}
use Rattle.lxr_invariant.proofs.BlockLemmas.{still_not}
use Rattle.lxr_invariant.proofs.FrameLemmas.{rest_still}
use Rattle.lxr_pause_promote.specs.Either.{HoldEither, StandsNow}
use Rattle.lxr_pause_promote.proofs.FewerLemmas.{HasFewerLines, granules_kept, states_joined, states_same, was_open_run}
use Rattle.lxr_pause_increments.specs.Moving.{IsMoving}

-- what a step leaves where it moves nothing
pub record KeepsPlaces (a b : Space) : Type 0 where
  pub limits : b.limits ≡ a.limits
  pub outs : (tables_of b).outs ≡ (tables_of a).outs
  pub reuse : (tables_of b).reuse ≡ (tables_of a).reuse
  pub states : (tables_of b).states ≡ (tables_of a).states
  pub counts : (k : ℕ) → (tables_of a).counts k ≢ 0 → (tables_of b).counts k ≢ 0
  pub deferred : b.deferred.items ≡ a.deferred.items
  pub rest : (b.rest_next ≡ a.rest_next) × (b.rest_end ≡ a.rest_end)

-- what is to be shown anew
pub record StaysMoving (b found : Space) (m : Moment) (at now : Name → ℕ) (ps : List Name) : Type 0 where
  pub stands : (n : Name) → IsTrue (has (members m) n) → (o : Object) × (object_at m.state.graph n ≡ Some o) × StandsNow (tables_of b) b.limits.blocks at now n o
  pub left_behind : (n : Name) → IsTrue (has ps n) → now n ≢ at n → (tables_of b).heap (first_word (at n)) ≡ moved_word (now n)
  pub registers : HoldEither at now b.registers.items m.state.registers
  pub heap : (w : ℕ) → ((n : Name) → IsTrue (has ps n) → now n ≢ at n → w ≢ first_word (at n)) → ((n : Name) → IsTrue (has ps n) → ¬ HasWord m.state.graph now n w)
      → ((field : Field) → IsTrue (has_field m.written field) → w ≢ word_of_field at field.0 field.1) → (tables_of b).heap w ≡ (tables_of found).heap w

pub fewer_with : (a b : Space) → KeepsPlaces a b → HasFewerLines a b
fewer_with a b keeps = record {
  blocks = ap (λ l. l.blocks) keeps.limits;
  grows = record { outs = λ line out. subst (λ f. IsTrue (f line)) (sym keeps.outs) out; counts = keeps.counts };
  states = λ k. states_same (tables_of a) (tables_of b) k keeps.states;
}

-- how often a line was handed out, by which lines are out
abbrev handed_since : Tables → (ℕ → Bool) → ℕ → ℕ
handed_since t outs line = if outs line && not (t.outs line) then ((t.reuse line + 1) % 2 ^ 32) else t.reuse line

pub moving_with : (a b found : Space) (m : Moment) (at now : Name → ℕ) (ps : List Name) → KeepsPlaces a b → StaysMoving b found m at now ps → IsMoving a found m at now ps → IsMoving b found m at now ps
moving_with a b found m at now ps keeps stays is =
    let fewer = fewer_with a b keeps in
    record {
      stands = stays.stands;
      others = is.others;
      left_behind = stays.left_behind;
      stood = λ n o member has_o. subst (λ z. (1 ≤ at n) × (granule_of (at n) + granules_of o ≤ GRANULES_IN_BLOCK * z)) (sym fewer.blocks) (is.stood n o member has_o);
      own = is.own;
      apart = is.apart;
      rest = rest_still a b keeps.rest.0 keeps.rest.1 keeps.limits keeps.outs keeps.states is.rest;
      kept = granules_kept a b _ fewer.grows keeps.rest.0 keeps.rest.1 is.kept;
      kept_before = granules_kept a b (IsKeptGranule found) fewer.grows keeps.rest.0 keeps.rest.1 is.kept_before;
      onto = is.onto;
      registers = stays.registers;
      deferred = subst (λ x. ArePlacesOf at x m.last.registers) (sym keeps.deferred) is.deferred;
      world = is.world;
      outs = λ line. subst (λ f. IsTrue (f line) ↔ (IsTrue ((tables_of found).outs line) ⊎ HasCopy m.state.graph at now ps line)) (sym keeps.outs) (is.outs line);
      reuse = λ line. ap (λ f. f line) keeps.reuse ∙ is.reuse line ∙ ap (λ f. handed_since (tables_of found) f line) (sym keeps.outs);
      heap = stays.heap;
      states = λ k. states_joined (tables_of found) (tables_of a) (tables_of b) k (is.states k) (fewer.states k);
      free = free_joined (tables_of found) (tables_of a) (tables_of b) is.free (free_same (tables_of a) (tables_of b) keeps.states keeps.outs);
      unchosen = λ n made. still_not (tables_of a) (tables_of b) (granule_of (now n) / GRANULES_IN_BLOCK) Chosen refl (fewer.states (granule_of (now n) / GRANULES_IN_BLOCK)) (is.unchosen n made);
      stay = λ n o q promoted still has_o run. is.stay n o q promoted still has_o (was_open_run a b q fewer run);
    }
