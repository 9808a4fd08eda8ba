-- Operations on fields: of nil, past the fields that there are, and of a field that is there.
use Rattle.std.proofs.Common.{◌≡◌, ℕ, ◌+◌, ◌*◌, ◌%◌, ◌^◌, ◌<◌, ◌≤◌, refl, sym, ap, subst, ◌∙◌, inl, inr, arith, Bool, true, false, List, [], ◌∷◌, ◌++◌, length, map, get_or, cond}
use Rattle.std.specs.Prelude.{Option, Some, None, IsTrue, slice_get, slice_set}
use Rattle.std.specs.List.Sorted.{IsPermutation}
use Rattle.std.proofs.Math.ListN.{length-set}
use Rattle.std.proofs.lemmas.Bool.Decides.{leb_tells}
use Rattle.std.proofs.lemmas.Option.{slice_get-get_or}
use Rattle.std.proofs.lemmas.List.{length-append}
use Rattle.std.proofs.lemmas.List.Sorted.{IsPermutation-append_comm, IsPermutation-append_right, IsPermutation-trans}
use Rattle.lxr_layout.specs.declared.TheConstants.{REGISTERS, WORDS_IN_BLOCK}
use Rattle.lxr_layout.specs.declared.LogEntry.{LogEntry}
use Rattle.lxr_layout.specs.declared.Name.{Name}
use Rattle.lxr_layout.specs.declared.Place.{Place}
use Rattle.lxr_layout.specs.Places.{field_word, first_word, place_in}
use Rattle.lxr_graph.specs.declared.Op.{Op}
use Rattle.lxr_graph.specs.declared.Op.TheVariants as op
use Rattle.lxr_graph.specs.declared.Reply.{Reply}
use Rattle.lxr_graph.specs.declared.Reply.TheVariants as reply
use Rattle.lxr_graph.specs.Names.{has}
use Rattle.lxr_graph.specs.State.{Graph, Object, State, object_at, refs_of, register_at, register_index, shape_of, with_reference, with_value}
use Rattle.lxr_graph.specs.Step.{step}
use Rattle.lxr_graph.proofs.RowLemmas.{object_at-with_reference, object_at-with_value}
use Rattle.lxr_image.specs.declared.space.Space.{Space}
use Rattle.lxr_image.specs.Tables.{Tables, changed, tables_in}
use Rattle.lxr_image.specs.Spaces.{IsInUsedBlock, IsSpace, Turns, tables_of}
use Rattle.lxr_image.specs.Image.{IsImage, Stands, place_word}
use Rattle.lxr_image.specs.ImageLaws.{with_heap}
use Rattle.lxr_image.proofs.ImageLemmas.{Rewrites, put_keeps_image, rewrites, store_keeps_image, member_stands}
use Rattle.lxr_image.proofs.SpaceLemmas.{space_alike}
use Rattle.lxr_model.specs.Moments.{Field, Moment, after_call, with_field, written_with}
use Rattle.lxr_model_counting.specs.Distinct.{has_field}
use Rattle.lxr_model_counting.specs.Following.{FollowsPause}
use Rattle.lxr_invariant.specs.AbstractState.{AbstractState, members}
use Rattle.lxr_invariant.specs.Standing.{AreLogged, HasBits, entry_of}
use Rattle.lxr_invariant.proofs.FrameLemmas.{bits_still, image_still}
use Rattle.lxr_core_invariant.specs.Imaged.{IsReferenceAt}
use Rattle.lxr_core_invariant.proofs.HeldLemmas.{reference_held}
use Rattle.lxr_core_invariant.proofs.TellingLemmas.{small_place}
use Rattle.lxr_core_invariant.proofs.ReplyStepLemmas.{get_bad, get_ok, get_range, load_bad, load_ok, load_range, put_bad, put_ok, put_range, store_bad, store_ok, store_range}
use Rattle.lxr_core_inv_heap.proofs.LogsReferenceLemmas.{clear_is_cleared, cleared_bits, old_is_read, set_is_uncleared}
use Rattle.lxr_direct.specs.declared.reading.Base.{Base}
use Rattle.lxr_direct.specs.Operating.{IsDone, IsPlaceOf, IsToRecord, LogIsFull, MayOperate, StandsAt, with_places}
use Rattle.lxr_direct.specs.Recording.{IsRecorded, Records, entry_now, is_unlogged}
use Rattle.lxr_direct.proofs.DoneLemmas.{bits_turned, done_turned, done_unchanged}
use Rattle.lxr_direct.proofs.HeldLemmas.{held_member, register_place}
use Rattle.lxr_direct.proofs.RegisterLemmas.{follows_call, register_turned, row_there}
use Rattle.lxr_direct.proofs.TurnedLemmas.{IsTurned, KeepsShapes, turned, turned_space}

-- recording leaves a space of the same limits
pub recorded_limits : (s mid : Space) (place : Place) (i : ℕ) → Records s mid place i true → mid.limits ≡ s.limits
recorded_limits s mid place i (inl (clear, same)) = ap (λ z. z.limits) same
recorded_limits s mid place i (inr is) = ap (λ z. z.limits) is.rest

pub recorded_space : (s mid : Space) (place : Place) (i : ℕ) → Records s mid place i true → IsSpace s → IsSpace mid
recorded_space s mid place i (inl (clear, same)) space = subst IsSpace (sym same) space
recorded_space s mid place i (inr is) space = space_alike s mid (ap (λ z. z.limits) is.rest) (ap (λ z. z.size) is.tables) space

-- and blocks that are in use
pub recorded_used : (s mid : Space) (place : Place) (i w : ℕ) → Records s mid place i true → IsInUsedBlock s w → IsInUsedBlock mid w
recorded_used s mid place i w (inl (clear, same)) used = subst (λ z. IsInUsedBlock z w) (sym same) used
recorded_used s mid place i w (inr is) used = record {
  other = used.other;
  there = subst (λ z. used.other < WORDS_IN_BLOCK * z) (sym (ap (λ (z : Space). z.limits.blocks) is.rest)) used.there;
  block = used.block;
  some = λ zero. used.some (sym (ap (λ (z : Tables). z.heap used.other) is.tables) ∙ zero);
}

-- a step replies so, by a thread that there is
stepped : (s : Space) (g : AbstractState) (t serial : ℕ) (o : Op) (r : Reply) → MayOperate s g t serial → (step g.moment.state t o).1 ≡ r → ((step g.moment.state t o).1 ≡ r) × (t < length g.moment.state.graph) × (1 ≤ t)
stepped s g t serial o r may replies = let row = row_there s g t serial may in (replies, row.0, row.1)

module _ (s : Space) (g : AbstractState) (t serial : ℕ) (may : MayOperate s g t serial) where
  abbrev m : Moment
  m = g.moment

  abbrev tables : Tables
  tables = tables_of s

  abbrev heap_is : Type 0
  heap_is = IsImage tables s.limits.blocks g.at m.state.graph (members m)

  image : IsImage tables s.limits.blocks g.at m.state.graph (members m)
  image = may.rests.safepoint.holds.image.image

  follows : FollowsPause m
  follows = may.rests.safepoint.holds.follows

  -- ---- nothing is done

  pub load_of_nil : (dest base i : ℕ) → register_at m.state t base ≡ None → IsDone s s g t (op.Load dest base i) reply.Bad
  load_of_nil dest base i none =
      let step_is = load_bad m.state t dest base i none in
      done_unchanged s g t serial (op.Load dest base i) reply.Bad (λ after kept. kept) may (ap (λ (p : State × Reply). record m { state = p.0 }) step_is) (sym (ap (λ p. p.1) step_is))

  pub store_of_nil : (base i source : ℕ) → register_at m.state t base ≡ None → IsDone s s g t (op.Store base i source) reply.Bad
  store_of_nil base i source none =
      let step_is = store_bad m.state t base i source none in
      done_unchanged s g t serial (op.Store base i source) reply.Bad (λ after kept. kept) may (ap (λ (p : State × Reply). record m { state = p.0 }) step_is) (sym (ap (λ p. p.1) step_is))

  pub put_of_nil : (base i v : ℕ) → register_at m.state t base ≡ None → IsDone s s g t (op.Put base i v) reply.Bad
  put_of_nil base i v none =
      let step_is = put_bad m.state t base i v none in
      done_unchanged s g t serial (op.Put base i v) reply.Bad (λ after kept. kept) may (ap (λ (p : State × Reply). record m { state = p.0 }) step_is) (sym (ap (λ p. p.1) step_is))

  pub get_of_nil : (base i : ℕ) → register_at m.state t base ≡ None → IsDone s s g t (op.Get base i) reply.Bad
  get_of_nil base i none =
      let step_is = get_bad m.state t base i none in
      done_unchanged s g t serial (op.Get base i) reply.Bad (λ after kept. kept) may (ap (λ (p : State × Reply). record m { state = p.0 }) step_is) (sym (ap (λ p. p.1) step_is))

  module _ (register : ℕ) (base : Base) (n : Name) (at : StandsAt g base.place (register_at m.state t register) n base.shape) where
    abbrev o : Object
    o = at.object

    refs_are : base.shape.refs ≡ length o.refs
    refs_are = ap (λ z. z.refs) at.shaped

    values_are : base.shape.values ≡ length o.values
    values_are = ap (λ z. z.values) at.shaped

    pub load_past : (dest i : ℕ) → base.shape.refs ≤ i → IsDone s s g t (op.Load dest register i) reply.Range
    load_past dest i past =
        let step_is = load_range m.state t dest register i n o at.is at.there (subst (λ z. z ≤ i) refs_are past) in
        done_unchanged s g t serial (op.Load dest register i) reply.Range (λ after kept. kept) may (ap (λ (p : State × Reply). record m { state = p.0 }) step_is) (sym (ap (λ p. p.1) step_is))

    pub store_past : (i source : ℕ) → base.shape.refs ≤ i → IsDone s s g t (op.Store register i source) reply.Range
    store_past i source past =
        let step_is = store_range m.state t register i source n o at.is at.there (subst (λ z. z ≤ i) refs_are past) in
        done_unchanged s g t serial (op.Store register i source) reply.Range (λ after kept. kept) may (ap (λ (p : State × Reply). record m { state = p.0 }) step_is) (sym (ap (λ p. p.1) step_is))

    pub put_past : (i v : ℕ) → base.shape.values ≤ i → IsDone s s g t (op.Put register i v) reply.Range
    put_past i v past =
        let step_is = put_range m.state t register i v n o at.is at.there (subst (λ z. z ≤ i) values_are past) in
        done_unchanged s g t serial (op.Put register i v) reply.Range (λ after kept. kept) may (ap (λ (p : State × Reply). record m { state = p.0 }) step_is) (sym (ap (λ p. p.1) step_is))

    pub get_past : (i : ℕ) → base.shape.values ≤ i → IsDone s s g t (op.Get register i) reply.Range
    get_past i past =
        let step_is = get_range m.state t register i n o at.is at.there (subst (λ z. z ≤ i) values_are past) in
        done_unchanged s g t serial (op.Get register i) reply.Range (λ after kept. kept) may (ap (λ (p : State × Reply). record m { state = p.0 }) step_is) (sym (ap (λ p. p.1) step_is))

    -- ---- a field is read

    whole : Stands tables s.limits.blocks g.at n o
    whole = member_stands tables s.limits.blocks g.at m.state.graph (members m) n o image at.member at.there

    -- the place in a reference is that of what it refers to
    small_word : (p : ℕ) → p < 2 ^ 32 → p % 2 ^ 32 ≡ p
    small_word p h = omega arith

    abbrev pub referred : ℕ → Option Name
    referred i = get_or o.refs i None

    abbrev found : ℕ → Place
    found i = place_in (tables.heap (field_word base.place.0 i))

    pub reference_placed : (i : ℕ) → i < base.shape.refs → IsPlaceOf s g (found i) (referred i)
    reference_placed i within =
        let there = slice_get-get_or o.refs i None (subst (λ z. i < z) refs_are within) in
        let held = reference_held m n o i (referred i) follows at.member at.there there in
        let word : tables.heap (field_word base.place.0 i) ≡ place_word g.at (referred i) = ap (λ z. tables.heap (field_word z i)) at.stands ∙ whole.refs i (referred i) there in
        record {
          rests = may.rests;
          member = held_member g (referred i) held;
          stands = ap (λ z. z % 2 ^ 32) word ∙ small_word (place_word g.at (referred i)) (small_place tables s.limits.blocks g.at m (referred i) image may.rests.safepoint.holds.space.limits.blocks.1 held);
        }

    pub load_done : (dest i : ℕ) (r : Option Name) → (dest < REGISTERS) × (register < REGISTERS) → i < base.shape.refs → r ≡ referred i
        → IsDone s (with_places s (slice_set s.registers.items (register_index t dest) (found i))) g t (op.Load dest register i) (reply.Loaded r)
    load_done dest i r small within is =
        let step_is = load_ok m.state t dest register i n o at.is at.there (subst (λ z. i < z) refs_are within) in
        let replies : (step m.state t (op.Load dest register i)).1 ≡ reply.Loaded r = ap (λ p. p.1) step_is ∙ ap reply.Loaded (sym is) in
        register_turned s g t serial dest (op.Load dest register i) (reply.Loaded r) (found i) (referred i) (λ after kept. kept) may small (stepped s g t serial (op.Load dest register i) (reply.Loaded r) may replies)
        (ap (λ (p : State × Reply). record m { state = p.0 }) step_is) (sym replies) (reference_placed i within).stands

    pub get_done : (i w : ℕ) → i < base.shape.values → w ≡ first_word base.place.0 + 1 + base.shape.refs + i → IsDone s s g t (op.Get register i) (reply.Got (tables.heap w))
    get_done i w within is =
        let inside = subst (λ z. i < z) values_are within in
        let step_is = get_ok m.state t register i n o at.is at.there inside in
        let word : tables.heap w ≡ get_or o.values i 0 =
        ap tables.heap (is ∙ ap (λ z. first_word z + 1 + base.shape.refs + i) at.stands ∙ ap (λ z. first_word (g.at n) + 1 + z + i) refs_are)
        ∙ whole.values i (get_or o.values i 0) (slice_get-get_or o.values i 0 inside) in
        done_unchanged s g t serial (op.Get register i) (reply.Got (tables.heap w)) (λ after kept. kept) may (ap (λ (p : State × Reply). record m { state = p.0 }) step_is)
        (ap reply.Got word ∙ sym (ap (λ p. p.1) step_is))

    -- ---- a field is written

    -- members keep their shapes where one object is written
    written_shapes : (h : Graph) (b : Object) → Rewrites m.state.graph h n b → shape_of b ≡ shape_of o → KeepsShapes m.state.graph h (members m)
    written_shapes h b which shape q p member there = elim (which q) [
      | inl e ↦ (b, e.1, let same : Some o ≡ Some p = sym at.there ∙ sym (ap (object_at m.state.graph) e.0) ∙ there in let same_o : o ≡ p = cc in shape ∙ ap shape_of same_o)
      | inr e ↦ (p, e.1 ∙ there, refl)
    ]

    pub put_done : (i v w : ℕ) (after : Space) → register < REGISTERS → i < base.shape.values → w ≡ first_word base.place.0 + 1 + base.shape.refs + i → Turns s after (record tables { heap = changed tables.heap w v })
        → IsDone s after g t (op.Put register i v) reply.Put
    put_done i v w after small within is turns =
        let inside = subst (λ z. i < z) values_are within in
        let step_is = put_ok m.state t register i v n o at.is at.there inside in
        let h : Graph = with_value m.state.graph n i v (Some o) in
        let st : State = record m.state { graph = h } in
        let b : Object = record o { values = slice_set o.values i v } in
        let moment : after_call m t (op.Put register i v) reply.Put ≡ turned m st m.written = ap (λ (p : State × Reply). record m { state = p.0 }) step_is in
        let replies : (step m.state t (op.Put register i v)).1 ≡ reply.Put = ap (λ p. p.1) step_is in
        let which : Rewrites m.state.graph h n b = rewrites m.state.graph h n b (λ q. object_at-with_value m.state.graph n i v o q at.there) in
        let shapes = written_shapes h b which (λ j. record { refs = length o.refs; values = length-set o.values i v j }) in
        let word : first_word (g.at n) + 1 + length o.refs + i ≡ w = sym (is ∙ ap (λ z. first_word z + 1 + base.shape.refs + i) at.stands ∙ ap (λ z. first_word (g.at n) + 1 + z + i) refs_are) in
        let kept = subst (λ z. IsImage (with_heap tables z v) s.limits.blocks g.at h (members m)) word (put_keeps_image tables s.limits.blocks g.at m.state.graph (members m) n o i v image at.member at.there inside) in
        let same : tables_of (record s { words = after.words }) ≡ record tables { heap = changed tables.heap w v } = ap tables_of (sym turns.rest) ∙ turns.tables in
        subst (λ z. IsDone s z g t (op.Put register i v) reply.Put) (sym turns.rest)
        (done_turned s g t serial (op.Put register i v) reply.Put st m.written after.words s.registers.items s.logged.items (λ after kept. kept) may moment (sym replies) (record {
          tables = same ∙ (λ j. record tables { heap = (sym same j).heap; unlogged = (sym same j).unlogged });
          follows = subst FollowsPause moment (follows_call s g t serial (op.Put register i v) reply.Put may small (stepped s g t serial (op.Put register i v) reply.Put may replies));
          shapes = shapes;
          image = subst (λ z. IsImage z s.limits.blocks g.at h (members m)) (sym same) kept;
          registers = may.rests.safepoint.holds.image.registers;
          many = refl;
          bits = subst (λ z. HasBits z (turned m st m.written) g.at m.unreclaimed) (sym same)
              (bits_still tables (record tables { heap = changed tables.heap w v }) (turned m st m.written) g.at m.unreclaimed refl refl refl refl refl
              (bits_turned tables tables s.limits.blocks m g.at st m.written image shapes may.rests.safepoint.holds.bits));
          logs = may.rests.safepoint.holds.logs;
          few = may.rests.safepoint.holds.few_logs;
        }))

    -- ---- a reference is stored to

    -- the word of a reference that is there
    stands_at : (i : ℕ) → i < base.shape.refs → IsReferenceAt m g.at base.place.0 i
    stands_at i within = record { name = n; object = o; member = at.member; is = at.there; stands = at.stands; within = subst (λ z. i < z) refs_are within }

    bits_are : HasBits tables m g.at m.unreclaimed
    bits_are = may.rests.safepoint.holds.bits

    -- where its bit is set, it has to be recorded
    pub to_record : (i : ℕ) → i < base.shape.refs → is_unlogged s base.place i ≡ true → IsToRecord m t register i
    to_record i within set =
        let two = set_is_uncleared tables s.limits.blocks g.at m m.written base.place.0 i n image bits_are (stands_at i within) set at.member at.stands in
        record { name = n; held = at.is; unreclaimed = two.0; within = subst (λ z. i < length (refs_of z)) (sym at.there) (subst (λ z. i < z) refs_are within); unwritten = two.1 }

    -- and where it isn't, it hasn't
    pub none_to_record : (i : ℕ) → i < base.shape.refs → is_unlogged s base.place i ≡ false → IsToRecord m t register i → ⊥
    none_to_record i within clear is =
        let same : Some is.name ≡ Some n = sym is.held ∙ at.is in
        let name : is.name ≡ n = cc in
        let written = clear_is_cleared tables s.limits.blocks g.at m m.written base.place.0 i n image bits_are (stands_at i within) clear (subst (λ z. IsTrue (has m.unreclaimed z)) name is.unreclaimed) at.stands in
        let none : has_field m.written (n, i) ≡ false = subst (λ z. has_field m.written (z, i) ≡ false) name is.unwritten in
        let e : true ≡ false = sym written ∙ none in
        absurd (cc)

    -- past its references there is nothing to record
    pub past_to_record : (i : ℕ) → base.shape.refs ≤ i → IsToRecord m t register i → ⊥
    past_to_record i past is =
        let same : Some is.name ≡ Some n = sym is.held ∙ at.is in
        let name : is.name ≡ n = cc in
        let low = subst (λ z. i < length (refs_of z)) (ap (object_at m.state.graph) name ∙ at.there) is.within in
        let refs = refs_are in
        omega (arith, past, low, refs)

    -- what the references stored to are then, where the register holds the object
    written_now : (i : ℕ) → written_with m.unreclaimed m.written (register_at m.state t register) i ≡ cond (has m.unreclaimed n) (with_field m.written (n, i)) m.written
    written_now i = ap (λ z. written_with m.unreclaimed m.written z i) at.is

    -- those that there were, where its bit is clear
    written_same : (i : ℕ) → i < base.shape.refs → is_unlogged s base.place i ≡ false → written_with m.unreclaimed m.written (register_at m.state t register) i ≡ m.written
    written_same i within clear = written_now i ∙ elim (has m.unreclaimed n) as (λ b. has m.unreclaimed n ≡ b → cond b (with_field m.written (n, i)) m.written ≡ m.written) [
      | false ↦ λ e. refl
      | true ↦ λ e. ap (λ b. cond b m.written ((n, i) ∷ m.written)) (clear_is_cleared tables s.limits.blocks g.at m m.written base.place.0 i n image bits_are (stands_at i within) clear e at.stands)
    ] refl

    -- and this one besides, where it is set
    written_more : (i : ℕ) (is : IsToRecord m t register i) → written_with m.unreclaimed m.written (register_at m.state t register) i ≡ (n, i) ∷ m.written
    written_more i is =
        let same : Some is.name ≡ Some n = sym is.held ∙ at.is in
        let name : is.name ≡ n = cc in
        written_now i ∙ ap (λ b. cond b (with_field m.written (n, i)) m.written) (subst (λ z. IsTrue (has m.unreclaimed z)) name is.unreclaimed)
        ∙ ap (λ b. cond b m.written ((n, i) ∷ m.written)) (subst (λ z. has_field m.written (z, i) ≡ false) name is.unwritten)

    module _ (i source : ℕ) (p : Place) (small : (register < REGISTERS) × (source < REGISTERS)) (within : i < base.shape.refs) (there : slice_get s.registers.items (register_index t source) ≡ Some p) where
      abbrev v : Option Name
      v = register_at m.state t source

      abbrev h : Graph
      h = with_reference m.state.graph n i v (Some o)

      abbrev st : State
      st = record m.state { graph = h }

      abbrev b : Object
      b = record o { refs = slice_set o.refs i v }

      abbrev w : ℕ
      w = field_word base.place.0 i

      inside : i < length o.refs
      inside = subst (λ z. i < z) refs_are within

      step_is : step m.state t (op.Store register i source) ≡ (st, reply.Stored)
      step_is = store_ok m.state t register i source n o at.is at.there inside

      replies : (step m.state t (op.Store register i source)).1 ≡ reply.Stored
      replies = ap (λ p. p.1) step_is

      moment_then : (ws : List Field) → written_with m.unreclaimed m.written (register_at m.state t register) i ≡ ws → after_call m t (op.Store register i source) reply.Stored ≡ turned m st ws
      moment_then ws e =
          ap (λ (p : State × Reply). record m { state = p.0; written = written_with m.unreclaimed m.written (register_at m.state t register) i }) step_is ∙ ap (λ z. record m { state = st; written = z }) e

      shapes : KeepsShapes m.state.graph h (members m)
      shapes = written_shapes h b (rewrites m.state.graph h n b (λ q. object_at-with_reference m.state.graph n i v o q at.there)) (λ j. record { refs = length-set o.refs i v j; values = length o.values })

      kept : IsImage (with_heap tables w p.0) s.limits.blocks g.at h (members m)
      kept =
          subst (λ z. IsImage (with_heap tables w z) s.limits.blocks g.at h (members m)) (sym (register_place s g t serial source p may there))
          (subst (λ z. IsImage (with_heap tables (first_word z + 1 + i) (place_word g.at v)) s.limits.blocks g.at h (members m)) (sym at.stands)
          (store_keeps_image tables s.limits.blocks g.at m.state.graph (members m) n o i v image at.member at.there inside))

      -- the space has these words and entries then
      module _ (words : List ℕ) (entries : List LogEntry) (ws : List Field) (unlogged : ℕ → Bool) (same : tables_in s.limits words ≡ record tables { heap = changed tables.heap w p.0; unlogged = unlogged })
          (written_is : written_with m.unreclaimed m.written (register_at m.state t register) i ≡ ws) (bits : HasBits (record tables { unlogged = unlogged }) (record m { written = ws }) g.at m.unreclaimed)
          (logs : AreLogged (record m { written = ws }) g.at entries) (few : length entries ≤ s.limits.threads * s.limits.log) where
        abbrev then : Tables
        then = record tables { heap = changed tables.heap w p.0; unlogged = unlogged }

        stored_turned : IsTurned s m g.at st ws words s.registers.items entries
        stored_turned = record {
          tables = same ∙ (λ j. record tables { heap = (sym same j).heap; unlogged = (sym same j).unlogged });
          follows = subst FollowsPause (moment_then ws written_is)
              (follows_call s g t serial (op.Store register i source) reply.Stored may small (stepped s g t serial (op.Store register i source) reply.Stored may replies));
          shapes = shapes;
          image = subst (λ z. IsImage z s.limits.blocks g.at h (members m)) (sym same) (image_still (with_heap tables w p.0) then s.limits.blocks g.at h (members m) (members m) refl (λ q k. k) kept);
          registers = may.rests.safepoint.holds.image.registers;
          many = refl;
          bits = subst (λ z. HasBits z (turned m st ws) g.at m.unreclaimed) (sym same)
              (bits_still (record tables { unlogged = unlogged }) then (turned m st ws) g.at m.unreclaimed refl refl refl refl refl
              (bits_turned tables (record tables { unlogged = unlogged }) s.limits.blocks m g.at st ws image shapes bits));
          logs = logs;
          few = few;
        }

        stored_done : IsDone s (turned_space s words s.registers.items entries) g t (op.Store register i source) reply.Stored
        stored_done = done_turned s g t serial (op.Store register i source) reply.Stored st ws words s.registers.items entries (λ after kept. kept) may (moment_then ws written_is) (sym replies) stored_turned

      -- the store of a reference that needs no entry
      pub store_done_clear : (after : Space) → is_unlogged s base.place i ≡ false → Turns s after (record tables { heap = changed tables.heap w p.0 }) → IsDone s after g t (op.Store register i source) reply.Stored
      store_done_clear after clear turns =
          subst (λ z. IsDone s z g t (op.Store register i source) reply.Stored) (sym turns.rest)
          (stored_done after.words s.logged.items m.written tables.unlogged (ap tables_of (sym turns.rest) ∙ turns.tables) (written_same i within clear) bits_are may.rests.safepoint.holds.logs
          may.rests.safepoint.holds.few_logs)

      -- the store of one that is recorded
      pub store_done_recorded : (mid after : Space) → IsRecorded s mid base.place i → Turns mid after (record (tables_of mid) { heap = changed (tables_of mid).heap w p.0 })
          → IsDone s after g t (op.Store register i source) reply.Stored
      store_done_recorded mid after is turns =
          let entry : LogEntry = entry_now s base.place i in
          let entries : List LogEntry = s.logged.items ++ entry ∷ [] in
          let to = to_record i within is.unlogged in
          let unlogged : ℕ → Bool = changed tables.unlogged w false in
          let rest : after ≡ turned_space s after.words s.registers.items entries = turns.rest ∙ ap (λ (z : Space). record z { words = after.words }) is.rest in
          let same : tables_of after ≡ record tables { heap = changed tables.heap w p.0; unlogged = unlogged } = turns.tables ∙ ap (λ (z : Tables). record z { heap = changed z.heap w p.0 }) is.tables in
          let name : to.name ≡ n = (let e : Some to.name ≡ Some n = sym to.held ∙ at.is in cc) in
          let unreclaimed = subst (λ z. IsTrue (has m.unreclaimed z)) name to.unreclaimed in
          let unwritten : has_field m.written (n, i) ≡ false = subst (λ z. has_field m.written (z, i) ≡ false) name to.unwritten in
          let bits = cleared_bits tables s.limits.blocks g.at m m.written base.place.0 i n image bits_are (stands_at i within) unreclaimed at.stands in
          let entry_is : entry ≡ entry_of m g.at (n, i) =
          old_is_read tables s.limits.blocks g.at m base.place.0 i n image may.rests.safepoint.holds.space.limits.blocks.1 follows (stands_at i within) unreclaimed at.stands unwritten in
          let xs : List LogEntry = map (entry_of m g.at) m.written in
          let logs : IsPermutation (entry_of m g.at (n, i) ∷ xs) entries =
          subst (λ e. IsPermutation (e ∷ xs) entries) entry_is
          (IsPermutation-trans (entry ∷ xs) (entry ∷ s.logged.items) entries (IsPermutation-append_right (entry ∷ []) xs s.logged.items may.rests.safepoint.holds.logs)
          (IsPermutation-append_comm (entry ∷ []) s.logged.items)) in
          let most = may.rests.safepoint.holds.few_logs in
          let longer = length-append s.logged.items (entry ∷ []) in
          subst (λ z. IsDone s z g t (op.Store register i source) reply.Stored) (sym rest)
          (stored_done after.words entries ((n, i) ∷ m.written) unlogged (ap tables_of (sym rest) ∙ same) (written_more i to) bits logs (few_more (length entries) (length s.logged.items) (s.limits.threads * s.limits.log) longer is.room))
        where
          few_more : (l k most : ℕ) → l ≡ k + 1 → (most ≤ k → ⊥) → l ≤ most
          few_more l k most e room = elim (leb_tells l most) [ inl a ↦ a.1 | inr a ↦ absurd (room (let c = a.1 in omega (arith, e, c))) ]

      -- the store of a reference that may be stored to, whether it was recorded or not
      pub store_done : (mid after : Space) → Records s mid base.place i true → Turns mid after (record (tables_of mid) { heap = changed (tables_of mid).heap w p.0 })
          → IsDone s after g t (op.Store register i source) reply.Stored × (IsToRecord m t register i × LogIsFull s → ⊥)
      store_done mid after (inl (clear, same)) turns = (
        store_done_clear after clear (subst (λ (z : Space). Turns z after (record (tables_of z) { heap = changed (tables_of z).heap w p.0 })) same turns),
        λ full. none_to_record i within clear full.0,
      )
      store_done mid after (inr is) turns = (store_done_recorded mid after is turns, λ full. is.room full.1)
