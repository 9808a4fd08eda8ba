-- What tracers find below them while mutators work: an unreclaimed object stands where it stood, and each of its references is nil or the
-- place of an object, whatever was stored to it.
use Rattle.std.proofs.Common.{◌≡◌, ℕ, ◌+◌, ◌-◌, ◌*◌, ◌/◌, ◌<◌, ◌≤◌, refl, sym, ap, subst, ◌∙◌, inl, inr, ◌⊎◌, arith, IsTrue, length, get_or}
use Rattle.std.specs.Prelude.{Option, Some, None, slice_get}
use Rattle.std.proofs.lemmas.Option.{slice_get-get_or}
use Rattle.lxr_layout.specs.declared.limits.Limits.{Limits}
use Rattle.lxr_layout.specs.declared.Name.{Name}
use Rattle.lxr_layout.specs.declared.Shape.{Shape}
use Rattle.lxr_layout.specs.declared.TheConstants.{GRANULES_IN_BLOCK, WORDS_IN_BLOCK}
use Rattle.lxr_layout.specs.Objects.{word_count}
use Rattle.lxr_layout.specs.Places.{field_word, first_word}
use Rattle.lxr_graph.specs.Names.{has}
use Rattle.lxr_graph.specs.State.{Object, object_at, shape_of}
use Rattle.lxr_image.specs.Tables.{Tables}
use Rattle.lxr_image.specs.Reads.{granule_of}
use Rattle.lxr_image.specs.Image.{IsImage, Stands, granules_of, place_word}
use Rattle.lxr_image.proofs.ImageLemmas.{words_cover, words_even}
use Rattle.lxr_model.specs.Moments.{Moment}
use Rattle.lxr_invariant.specs.AbstractState.{members}
use Rattle.lxr_invariant.proofs.NameLemmas.{in_first}
use Rattle.lxr_core_invariant.specs.EpochStates.{Beginning, EpochState, limits_of, moment_of}
use Rattle.lxr_core_invariant.specs.Events.{TellsObject}
use Rattle.lxr_core_invariant.specs.Counted.{IsInHeap, StandsAt, references_at}
use Rattle.lxr_core_invariant.specs.Epoch.{IsEpoch}
use Rattle.lxr_core_invariant.proofs.HeldLemmas.{IsHeld, reference_held}
use Rattle.lxr_core_invariant.proofs.PauseLemmas.{unmoved}
use Rattle.lxr_core_invariant.proofs.TellingLemmas.{told_is}
use Rattle.lxr_core_inv_counts.proofs.GroundLemmas as counts
use Rattle.lxr_core_inv_counts.proofs.FactLemmas.{refs_there, stands_at}

-- a word of a reference is nil, or a place of the heap
abbrev pub IsReferenceWord : ℕ → ℕ → Type 0
IsReferenceWord blocks word = (word ≡ 0) ⊎ IsInHeap blocks word

-- An unreclaimed object at a place: its start bit is set, its header tells how many references it had at the last pause, and it lies
-- in the heap.
pub record IsObjectAt (l : Limits) (t : Tables) (m : Moment) (at : Name → ℕ) (place : ℕ) : Type 0 where
  pub placed : 1 ≤ place
  pub started : IsTrue (t.starts (granule_of place))
  pub name : Name
  pub shape : Shape
  pub told : TellsObject (t.heap (first_word place)) name shape
  pub refs : shape.refs ≡ length (references_at m at place)
  pub in_heap : first_word place + word_count shape ≤ WORDS_IN_BLOCK * l.blocks
  pub reads : (index : ℕ) → index < shape.refs → IsReferenceWord l.blocks (t.heap (field_word place index))

-- What tracers find below them: unreclaimed objects, each where a start bit is set.
pub record IsGround (l : Limits) (t : Tables) (m : Moment) (at : Name → ℕ) : Type 0 where
  pub object : (place : ℕ) → StandsAt m at place → IsObjectAt l t m at place
  pub starts : (place : ℕ) → 1 ≤ place → IsTrue (t.starts (granule_of place)) → StandsAt m at place

-- ---- places of the heap

-- an object that lies in the heap begins in it
begins_in : (blocks p refs values words granules : ℕ) → 1 ≤ p → 1 + refs + values ≤ words → words ≡ 2 * granules → p - 1 + granules ≤ GRANULES_IN_BLOCK * blocks → p ≤ GRANULES_IN_BLOCK * blocks
begins_in blocks p refs values words granules some cover even within = omega arith

-- its granule is of one of the heap's blocks
pub block_within : (blocks p : ℕ) (s : Shape) → 1 ≤ p → 2 * (p - 1) + word_count s ≤ 4096 * blocks → (p - 1) / 2048 < blocks
block_within blocks p s some within = omega arith

-- an object whose granules lie in the heap has its words there
lies_in : (blocks p words granules : ℕ) → 1 ≤ p → words ≡ 2 * granules → p - 1 + granules ≤ GRANULES_IN_BLOCK * blocks → 2 * (p - 1) + words ≤ WORDS_IN_BLOCK * blocks
lies_in blocks p words granules some even within = omega arith

-- a member's object stands at a place of the heap
member_in : (t : Tables) (blocks : ℕ) (at : Name → ℕ) (n : Name) (o : Object) → Stands t blocks at n o → IsInHeap blocks (at n)
member_in t blocks at n o stands = (stands.placed, begins_in blocks (at n) (length o.refs) (length o.values) _ (granules_of o) stands.placed (words_cover o) (words_even o) stands.whole.in_heap)

-- the word of what is held is nil, or a place of the heap
held_word : (t : Tables) (blocks : ℕ) (at : Name → ℕ) (m : Moment) (v : Option Name) → IsImage t blocks at m.state.graph (members m) → IsHeld m v → IsReferenceWord blocks (place_word at v)
held_word t blocks at m None image held = inl refl
held_word t blocks at m (Some n) image held = let x = image.stands n held in inr (member_in t blocks at n x.0 x.2)

-- ---- in an epoch

module _ (b : Beginning) (s : EpochState) (is : IsEpoch b s) where
  abbrev was : Moment
  was = b.abstract_state.moment

  abbrev now : Moment
  now = moment_of b s

  abbrev stood : Name → ℕ
  stood = b.abstract_state.at

  ground : counts.IsGround (limits_of b) s.tables was stood
  ground = counts.ground_of b s is

  -- what is unreclaimed stands where it did, and what it holds now is nil or a member
  object_there : (n : Name) (o : Object) → IsTrue (has was.unreclaimed n) → object_at now.state.graph n ≡ Some o → Stands s.tables (limits_of b).blocks s.at n o → s.at n ≡ stood n
      → IsObjectAt (limits_of b) s.tables was stood (stood n)
  object_there n o member is_o stands here =
      let image = is.image.placed.image in
      let member_now = in_first now.unreclaimed now.made n (counts.member_now b s is n member) in
      let x = ground.stands n member in
      let refs = refs_there (limits_of b) s.tables s.decrementers was stood ground is.counted (stood n) n member refl in
      let same : x.shape ≡ shape_of o = (told_is s.tables (limits_of b).blocks s.at now.state.graph (members now) n n o x.shape (stood n) image member_now is_o (sym here) x.told).1 in
      let count : x.shape.refs ≡ length o.refs = ap (λ (z : Shape). z.refs) same in
      record {
        placed = x.placed;
        started = ground.starts.each n member;
        name = n;
        shape = x.shape;
        told = x.told;
        refs = x.refs ∙ ap length (sym refs);
        in_heap = lies_in (limits_of b).blocks (stood n) (word_count x.shape) (granules_of o) x.placed (ap word_count same ∙ words_even o)
            (subst (λ p. granule_of p + granules_of o ≤ GRANULES_IN_BLOCK * (limits_of b).blocks) here stands.whole.in_heap);
        reads = λ index within.
            let v : Option Name = get_or o.refs index None in
            let read : slice_get o.refs index ≡ Some v = slice_get-get_or o.refs index None (omega (arith, count, within)) in
            let word : s.tables.heap (field_word (stood n) index) ≡ place_word s.at v = ap (λ p. s.tables.heap (field_word p index)) (sym here) ∙ stands.refs index v read in
            subst (IsReferenceWord (limits_of b).blocks) (sym word)
            (held_word s.tables (limits_of b).blocks s.at now v image (reference_held now n o index v is.lives member_now is_o read));
      }

  -- so it is of what stands at a place
  objects : (place : ℕ) → StandsAt was stood place → IsObjectAt (limits_of b) s.tables was stood place
  objects place there =
      let n : Name = there.name in
      let x = is.image.placed.image.stands n (in_first now.unreclaimed now.made n (counts.member_now b s is n there.member)) in
      subst (IsObjectAt (limits_of b) s.tables was stood) (sym there.stands) (object_there n x.0 there.member x.1 x.2 (unmoved b s is n there.member))

  -- so this is what tracers find
  pub ground_of : IsGround (limits_of b) s.tables was stood
  ground_of = record {
    object = objects;
    starts = λ place some started. stands_at (limits_of b) s.tables s.decrementers was stood ground is.counted place some started;
  }
