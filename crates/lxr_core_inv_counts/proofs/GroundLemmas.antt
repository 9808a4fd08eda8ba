-- What decrementers find below them while mutators work: unreclaimed objects stand where they stood, what is dead holds what it held at
-- the last pause, and the list of decrements is the opening's.
use Rattle.std.proofs.Common.{◌≡◌, ℕ, ◌+◌, ◌-◌, ◌*◌, ◌≤◌, refl, sym, ap, subst, ◌∙◌, arith, IsTrue, length}
use Rattle.std.specs.Prelude.{Option, Some, None, slice_get}
use Rattle.lxr_layout.specs.declared.limits.Limits.{Limits}
use Rattle.lxr_layout.specs.declared.Name.{Name}
use Rattle.lxr_layout.specs.declared.Shape.{Shape}
use Rattle.lxr_layout.specs.declared.TheConstants.{DECREMENT_COUNT, WORDS_IN_BLOCK}
use Rattle.lxr_layout.specs.Places.{field_word, first_word}
use Rattle.lxr_layout.specs.Spaces.{AreLimits}
use Rattle.lxr_graph.specs.Names.{has}
use Rattle.lxr_graph.specs.State.{Object, object_at, refs_of, shape_of}
use Rattle.lxr_image.specs.Tables.{Tables}
use Rattle.lxr_image.specs.Reads.{granule_of}
use Rattle.lxr_image.specs.Image.{StartsAre, granules_of, place_word}
use Rattle.lxr_image.proofs.ImageLemmas.{words_cover, words_even}
use Rattle.lxr_model.specs.Dead.{Dead}
use Rattle.lxr_model.specs.Moments.{Moment}
use Rattle.lxr_model.proofs.ReachableLemmas.{dead_parts}
use Rattle.lxr_model_counting.specs.Following.{FollowsPause}
use Rattle.lxr_model_counting.proofs.DeathLemmas.{dead_unwritten}
use Rattle.lxr_invariant.specs.AbstractState.{members}
use Rattle.lxr_invariant.specs.Counting.{HasDecrements, entries_between, listed_at}
use Rattle.lxr_invariant.proofs.FrameLemmas.{decrements_still}
use Rattle.lxr_invariant.proofs.NameLemmas.{in_first}
use Rattle.lxr_core_invariant.specs.EpochStates.{Beginning, EpochState, limits_of, moment_of, opening_tables}
use Rattle.lxr_core_invariant.specs.Events.{TellsObject}
use Rattle.lxr_core_invariant.specs.Epoch.{IsEpoch}
use Rattle.lxr_core_invariant.proofs.PauseLemmas.{AreUnmoved, dead_stays, HaveOnePause, one_pause, unmoved}
use Rattle.lxr_core_invariant.proofs.TellingLemmas.{one_place, told_there}

-- an unreclaimed object: its header tells how many references it had at the last pause, and those lie in the heap
pub record StandsIn (l : Limits) (t : Tables) (m : Moment) (at : Name → ℕ) (n : Name) : Type 0 where
  pub placed : 1 ≤ at n
  pub shape : Shape
  pub told : TellsObject (t.heap (first_word (at n))) n shape
  pub refs : shape.refs ≡ length (refs_of (object_at m.last.graph n))
  pub in_heap : first_word (at n) + 1 + shape.refs ≤ WORDS_IN_BLOCK * l.blocks

-- What decrementers find below them.
pub record IsGround (l : Limits) (t : Tables) (m : Moment) (at : Name → ℕ) : Type 0 where
  pub limits : AreLimits l
  pub follows : FollowsPause m
  pub stands : (n : Name) → IsTrue (has m.unreclaimed n) → StandsIn l t m at n
  pub one : (n o : Name) → IsTrue (has m.unreclaimed n) → IsTrue (has m.unreclaimed o) → at n ≡ at o → n ≡ o
  pub starts : StartsAre t at m.unreclaimed
  pub fields : (n : Name) (i : ℕ) (r : Option Name) → Dead m.last m.unreclaimed m.stuck n → slice_get (refs_of (object_at m.last.graph n)) i ≡ Some r → t.heap (field_word (at n) i) ≡ place_word at r
  pub decrements : HasDecrements l t m at

-- ---- in an epoch

module _ (b : Beginning) (s : EpochState) (is : IsEpoch b s) where
  abbrev was : Moment
  was = b.abstract_state.moment

  abbrev now : Moment
  now = moment_of b s

  abbrev stood : Name → ℕ
  stood = b.abstract_state.at

  pause : HaveOnePause was now
  pause = one_pause b s is

  pub member_now : (n : Name) → IsTrue (has was.unreclaimed n) → IsTrue (has now.unreclaimed n)
  member_now n h = subst (λ z. IsTrue (has z n)) (sym pause.unreclaimed) h

  still : AreUnmoved was.unreclaimed stood s.at
  still = unmoved b s is

  in_heap : (blocks p refs values words granules : ℕ) → 1 ≤ p → 1 + refs + values ≤ words → words ≡ 2 * granules → p - 1 + granules ≤ 2048 * blocks → 2 * (p - 1) + 1 + refs ≤ 4096 * blocks
  in_heap blocks p refs values words granules placed cover even within = omega arith

  stands_in : (n : Name) → IsTrue (has was.unreclaimed n) → StandsIn (limits_of b) s.tables was stood n
  stands_in n h =
      let m : Moment = now in
      let member = in_first m.unreclaimed m.made n (member_now n h) in
      let x = is.image.placed.image.stands n member in
      let o : Object = x.0 in
      let shaped = is.lives.objects n (member_now n h) in
      let last : length (refs_of (object_at was.last.graph n)) ≡ length shaped.0.refs = ap (λ z. length (refs_of (object_at z.graph n))) (sym pause.last) ∙ ap (λ z. length (refs_of z)) shaped.2 in
      let same : length shaped.1.refs ≡ length o.refs = ap (λ z. length (refs_of z)) (sym shaped.3 ∙ x.1) in
      let there = still n h in
      subst (λ p. (1 ≤ p) × TellsObject (s.tables.heap (first_word p)) n (shape_of o) × (first_word p + 1 + length o.refs ≤ WORDS_IN_BLOCK * (limits_of b).blocks) → StandsIn (limits_of b) s.tables was stood n) (sym there)
      (λ q. record { placed = q.0; shape = shape_of o; told = q.1; refs = sym (last ∙ sym shaped.4.refs ∙ same); in_heap = q.2 }) (
        x.2.placed,
        told_there s.tables (limits_of b).blocks s.at m.state.graph (members m) n o is.image.placed.image member x.1,
        in_heap (limits_of b).blocks (s.at n) (length o.refs) (length o.values) _ (granules_of o) x.2.placed (words_cover o) (words_even o) x.2.whole.in_heap,
      )

  -- the place of what a reference held at the last pause
  word_was : (r : Option Name) → ((v : Name) → r ≡ Some v → IsTrue (has was.unreclaimed v)) → place_word s.at r ≡ place_word stood r
  word_was None member = refl
  word_was (Some v) member = still v (member v refl)

  -- a dead object holds what it held
  dead_fields : (n : Name) (i : ℕ) (r : Option Name) → Dead was.last was.unreclaimed was.stuck n → slice_get (refs_of (object_at was.last.graph n)) i ≡ Some r
      → s.tables.heap (field_word (stood n) i) ≡ place_word stood r
  dead_fields n i r d held =
      let m : Moment = now in
      let h = (dead_parts d).member in
      let x = is.image.placed.image.stands n (in_first m.unreclaimed m.made n (member_now n h)) in
      let dead_now = dead_stays was m n pause d in
      let read : slice_get x.0.refs i ≡ Some r =
      ap (λ z. slice_get (refs_of z) i) (sym x.1) ∙ is.lives.unwritten n i (member_now n h) (dead_unwritten m n i is.lives dead_now)
      ∙ ap (λ z. slice_get (refs_of (object_at z.graph n)) i) pause.last ∙ held in
      ap (λ p. s.tables.heap (field_word p i)) (sym (still n h)) ∙ x.2.refs i r read
      ∙ word_was r (λ v e. is.begins.between.safepoint.holds.follows.closed n v h (i, held ∙ ap Some e))

  -- the list of decrements is the opening's
  same_number : s.tables.cursors DECREMENT_COUNT ≡ (opening_tables b).cursors DECREMENT_COUNT
  same_number = is.fixed.cursors DECREMENT_COUNT (λ e. omega arith) (λ e. omega arith) (λ e. omega arith) (λ e. omega arith) (λ e. omega arith)

  listed : HasDecrements (limits_of b) s.tables was stood
  listed = decrements_still (limits_of b) (limits_of b) _ s.tables was stood refl (ap (λ z. z.decs) is.fixed.tables) same_number is.begins.between.safepoint.holds.decrements

  -- so is how often a place stands in it
  pub same_listed : (p : ℕ) → listed_at s.tables p ≡ listed_at (opening_tables b) p
  same_listed p =
      ap (λ z. entries_between z.decs 0 (s.tables.cursors DECREMENT_COUNT) p) is.fixed.tables
      ∙ ap (λ n. entries_between (opening_tables b).decs 0 n p) same_number

  pub ground_of : IsGround (limits_of b) s.tables was stood
  ground_of = record {
    limits = is.begins.between.safepoint.holds.space.limits;
    follows = is.begins.between.safepoint.holds.follows;
    stands = stands_in;
    one = λ n o in_n in_o e. one_place s.tables (limits_of b).blocks s.at now.state.graph (members now) n o is.image.placed.image
        (in_first now.unreclaimed now.made n (member_now n in_n)) (in_first now.unreclaimed now.made o (member_now o in_o)) (still n in_n ∙ e ∙ sym (still o in_o));
    starts = record {
      each = λ n h. ap (λ p. s.tables.starts (granule_of p)) (sym (still n h)) ∙ is.logged.bits.starts.each n (member_now n h);
      only = λ g h. let x = is.logged.bits.starts.only g h in let q = subst (λ z. IsTrue (has z x.0)) pause.unreclaimed x.1 in (x.0, q, ap granule_of (sym (still x.0 q)) ∙ x.2);
    };
    fields = dead_fields;
    decrements = listed;
  }
