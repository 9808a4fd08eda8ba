-- A heap whose Free blocks have zeros for words is that of the same histories.
use Rattle.std.proofs.Common.{◌≡◌, ℕ, sym, ap, subst, ◌∙◌, List}
use Rattle.std.specs.Prelude.{Option, Some, None}
use Rattle.lxr_layout.specs.declared.Name.{Name}
use Rattle.lxr_layout.specs.declared.TheConstants.{DECREMENT_COUNT}
use Rattle.lxr_graph.specs.State.{Graph}
use Rattle.lxr_image.specs.declared.space.Space.{Space}
use Rattle.lxr_image.specs.Spaces.{tables_of}
use Rattle.lxr_invariant.specs.Lines.{OutsAreTaken}
use Rattle.lxr_large_model.specs.History.{LargeItem, large_moment}
use Rattle.lxr_placing.specs.Trimming.{StandsForTheSame, ZeroesNext}
use Rattle.lxr_heap.specs.declared.heap.Heap.{Heap}
use Rattle.lxr_heap.specs.Holding.{IsHeapOf, StandAt}
use Rattle.lxr_heap.specs.Trimming.{TrimsHeap}

-- the heap with other words
abbrev with_words : Heap → List ℕ → Heap
with_words x words = record x { space = record x.space { words = words } }

-- it is that of a history where its space stands for the same and as many decrements wait
other_words : (x : Heap) (words : List ℕ) (h : List LargeItem) (is : IsHeapOf x h) → StandAt (with_words x words) h is.at
    → (tables_of (with_words x words).space).cursors DECREMENT_COUNT ≡ (tables_of x.space).cursors DECREMENT_COUNT → IsHeapOf (with_words x words) h
other_words x words h is stands waiting = record {
  legal = is.legal;
  at = is.at;
  stands = stands;
  gone = is.gone;
  room = is.room;
  follows = is.follows;
  few = is.few;
  untraced = is.untraced;
  limits = is.limits;
  log = is.log;
  tally = is.tally;
  state = is.state;
  world = is.world;
  next = is.next;
  counts = is.counts;
  names = is.names;
  bodies = is.bodies;
  apart = is.apart;
  fresh = is.fresh;
  collected = is.collected;
  drained = λ f. waiting ∙ is.drained f;
}

-- nothing but words has changed, and none of the list of decrements
only_words : (from : ℕ) (before after : Space) (block : Option ℕ) → ZeroesNext from before after block
    → (after ≡ record before { words = after.words }) × ((tables_of after).cursors DECREMENT_COUNT ≡ (tables_of before).cursors DECREMENT_COUNT)
only_words from before after (Some block) zeroes = (zeroes.1.rest, ap (λ t. t.cursors DECREMENT_COUNT) zeroes.1.tables)
only_words from before after None zeroes = (zeroes.1 ∙ ap {A = Space} (λ s. record before { words = s.words }) (sym zeroes.1), ap (λ s. (tables_of s).cursors DECREMENT_COUNT) zeroes.1)

-- lines that are out stay so: a Free block isn't changed but for its words
outs_stay : (from : ℕ) (before after : Space) (block : Option ℕ) → ZeroesNext from before after block → (g : Graph) (at : Name → ℕ) (ns : List Name) → OutsAreTaken (tables_of before) g at ns
    → OutsAreTaken (tables_of after) g at ns
outs_stay from before after (Some block) zeroes g at ns outs = subst (λ t. OutsAreTaken t g at ns) (sym zeroes.1.tables) (record { taken = outs.taken; outside = outs.outside })
outs_stay from before after None zeroes g at ns outs = subst (λ s. OutsAreTaken (tables_of s) g at ns) (sym zeroes.1) outs

pub trims : (from : ℕ) (x : Heap) (after : Space) (block : Option ℕ) → ZeroesNext from x.space after block → StandsForTheSame x.space after → TrimsHeap from x (record x { space = after }) block
trims from x after block zeroes same =
    let only = only_words from x.space after block zeroes in
    record {
      zeroes = zeroes;
      rest = ap (λ s. record x { space = s }) only.0;
      holds = λ h is. subst (λ s. IsHeapOf (record x { space = s }) h) (sym only.0)
          (other_words x after.words h is (subst (λ s. StandAt (record x { space = s }) h is.at) only.0 (same.rests _ is.stands.0, outs_stay from x.space after block zeroes (large_moment h).state.graph is.at (large_moment h).made is.stands.1)) (ap (λ s. (tables_of s).cursors DECREMENT_COUNT) (sym only.0) ∙ only.1));
    }
