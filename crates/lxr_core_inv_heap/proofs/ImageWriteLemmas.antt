-- A store and a swap, a put and an add: one word of a member's object is written, in the heap and in the model.
use Rattle.std.proofs.Common.{◌≡◌, ℕ, ◌+◌, ◌%◌, ◌^◌, ◌<◌, ◌≤◌, refl, sym, ap, subst, ◌∙◌, inl, inr, arith, ◌++◌, get_or, length}
use Rattle.std.specs.Prelude.{Option, Some, None, IsTrue, slice_get, slice_set}
use Rattle.std.proofs.Math.ListN.{length-set}
use Rattle.lxr_layout.specs.declared.Name.{Name}
use Rattle.lxr_layout.specs.declared.Place.{Place}
use Rattle.lxr_layout.specs.Places.{field_word, first_word, place_in}
use Rattle.lxr_graph.specs.declared.Op.{Op}
use Rattle.lxr_graph.specs.declared.Op.TheVariants as op
use Rattle.lxr_graph.specs.declared.Reply.{Reply}
use Rattle.lxr_graph.specs.declared.Reply.TheVariants as reply
use Rattle.lxr_graph.specs.Names.{has}
use Rattle.lxr_graph.specs.State.{Graph, Object, State, object_at, register_at, shape_of, with_reference, with_register, with_value}
use Rattle.lxr_graph.specs.Step.{step}
use Rattle.lxr_graph.proofs.RowLemmas.{object_at-with_reference, object_at-with_value}
use Rattle.lxr_image.specs.Tables.{Tables}
use Rattle.lxr_image.specs.Image.{IsImage, place_word}
use Rattle.lxr_image.specs.ImageLaws.{with_heap}
use Rattle.lxr_image.proofs.ImageLemmas.{Rewrites, put_keeps_image, rewrites, store_keeps_image, words_cover, member_stands}
use Rattle.lxr_model.specs.Moments.{Moment, made_after}
use Rattle.lxr_invariant.specs.AbstractState.{members}
use Rattle.lxr_core_invariant.specs.ThreadStates.{ThreadState, AtValue, Stores, Works, held}
use Rattle.lxr_core_invariant.specs.EpochStates.{Beginning, EpochState, limits_of, moment_of}
use Rattle.lxr_core_invariant.specs.Epoch.{IsEpoch}
use Rattle.lxr_core_invariant.specs.Events.{Does, done_with, value_word}
use Rattle.lxr_core_invariant.specs.Events as event
use Rattle.lxr_core_invariant.specs.Happening.{happen, loaded_with, stands}
use Rattle.lxr_core_invariant.specs.Imaged.{IsPlacedIn, Knows}
use Rattle.lxr_core_invariant.proofs.ShowingLemmas.{op_formed}
use Rattle.lxr_core_invariant.proofs.ActingLemmas.{IsReferenceBase, IsValueBase, acts, base_holds, reference_base, value_base}
use Rattle.lxr_core_invariant.proofs.ReplyStepLemmas.{add_ok, put_ok, store_ok, swap_ok}
use Rattle.lxr_core_invariant.proofs.ReadLemmas.{value_read}
use Rattle.lxr_core_inv_heap.proofs.ImageKnowLemmas.{KeepsMembers, knows_done, knows_loaded, still_placed}
use Rattle.lxr_core_inv_heap.proofs.ImageStayLemmas.{next_moment, next_state, opening_member, world_member}
use Rattle.lxr_core_inv_heap.proofs.ImageWordLemmas.{IsWordOf, maker_apart, wiped_beside}

-- ---- one member's object is another of its shape

-- members keep their shapes
rewritten_kept : (m k : Moment) (at : Name → ℕ) (n : Name) (o c : Object) → object_at m.state.graph n ≡ Some o → Rewrites m.state.graph k.state.graph n c → shape_of c ≡ shape_of o → members k ≡ members m
    → KeepsMembers m k at at
rewritten_kept m k at n o c there which shape names = record {
  member = λ q h. subst (λ ns. IsTrue (has ns q)) (sym names) h;
  place = λ q h. refl;
  object = λ q p h e. elim (which q) [
    | inl r ↦ (c, r.1, let s : Some o ≡ Some p = sym there ∙ sym (ap (object_at m.state.graph) r.0) ∙ e in let same_o : o ≡ p = cc in shape ∙ ap shape_of same_o)
    | inr r ↦ (p, r.1 ∙ e, refl)
  ];
}

-- A word of a member's object was written: the image is kept, and the object has its shape.
pub record Writes (b : Beginning) (s : EpochState) (k : Moment) (word value : ℕ) : Type 0 where
  pub name : Name
  pub object : Object
  pub other : Object
  pub member : IsTrue (has (members (moment_of b s)) name)
  pub there : object_at (moment_of b s).state.graph name ≡ Some object
  pub which : Rewrites (moment_of b s).state.graph k.state.graph name other
  pub shape : shape_of other ≡ shape_of object
  pub names : members k ≡ members (moment_of b s)
  pub word_is : IsWordOf (s.at name) (shape_of object) word
  pub image : IsImage (with_heap s.tables word value) (limits_of b).blocks s.at k.state.graph (members k)

-- objects stay placed by an operation that writes a word
written_placed : (b : Beginning) (s : EpochState) (i : ℕ) (v w : ThreadState) (o : Op) (word value : ℕ) → IsEpoch b s → slice_get s.thread_states i ≡ Some v → Writes b s (next_moment (moment_of b s) v.thread o) word value
    → ((u : Tables) (m : Moment) (at : Name → ℕ) → Knows u m at w w.stage) → IsPlacedIn b (stands b s i v o w (with_heap s.tables word value))
written_placed b s i v w o word value is shown writes knows =
    let m : Moment = moment_of b s in
    let k : Moment = next_moment m v.thread o in
    let placed = member_stands s.tables (limits_of b).blocks s.at m.state.graph (members m) writes.name writes.object is.image.placed.image writes.member writes.there in
    still_placed b s (stands b s i v o w (with_heap s.tables word value)) i v w is.image.placed shown (world_member m is.lives) (opening_member b s is) writes.image
    (rewritten_kept m k s.at writes.name writes.object writes.other writes.there writes.which writes.shape writes.names)
    (λ j u differ shows. wiped_beside s.tables word value u.stage (λ place shape wiped stage within.
    maker_apart b s j place shape writes.name writes.object word is.drawn (record { thread_state = u; shows = shows; wiped = wiped; stage = stage }) writes.member writes.there placed.placed within writes.word_is))
    (knows (with_heap s.tables word value) k s.at) refl

-- what the step of an operation does to objects: the graph is this one, and it makes none
record LeadsTo (m : Moment) (t : ℕ) (o : Op) (g : Graph) : Type 0 where
  graph : (step m.state t o).0.graph ≡ g
  none : made_after m.made (step m.state t o).1 ≡ m.made

-- so it does where it leads to a state with this graph, and its reply makes none
leads_to : (m : Moment) (t : ℕ) (o : Op) (st : State) (r : Reply) → step m.state t o ≡ (st, r) → made_after m.made r ≡ m.made → LeadsTo m t o st.graph
leads_to m t o st r steps none = record { graph = ap (λ p. p.0.graph) steps; none = ap (λ p. made_after m.made p.1) steps ∙ none }

-- the graph and the members of the moment once its operation stands
next_is : (m : Moment) (t : ℕ) (o : Op) (g : Graph) → LeadsTo m t o g → ((next_moment m t o).state.graph ≡ g) × (members (next_moment m t o) ≡ members m)
next_is m t o g leads = (ap (λ (z : State). z.graph) (next_state m t o) ∙ leads.graph, ap (λ ns. m.unreclaimed ++ ns) leads.none)

-- the image of this graph and these members is that of the moment
image_is : (m k : Moment) (t : Tables) (blocks : ℕ) (at : Name → ℕ) (g : Graph) → k.state.graph ≡ g → members k ≡ members m → IsImage t blocks at g (members m) → IsImage t blocks at k.state.graph (members k)
image_is m k t blocks at g graph names image = subst (λ ns. IsImage t blocks at k.state.graph ns) (sym names) (subst (λ h. IsImage t blocks at h (members m)) (sym graph) image)

-- ---- a store and a swap

-- a reference's word is one of the object's
reference_within : (n i refs values words : ℕ) → i < refs → 1 + refs + values ≤ words → (n ≤ n + 1 + i) × (n + 1 + i < n + words)
reference_within n i refs values words h cover = (omega arith, omega arith)

-- an operation that writes what is held to a reference of its base writes a word of a member
reference_is_written : (b : Beginning) (s : EpochState) (v : ThreadState) (o : Op) (place index value : ℕ) (stored : Option Name) → IsEpoch b s → (found : IsReferenceBase s.at (moment_of b s) v o place index)
    → value ≡ place_word s.at stored → LeadsTo (moment_of b s) v.thread o (with_reference (moment_of b s).state.graph found.of.name index stored (Some found.of.object))
    → Writes b s (next_moment (moment_of b s) v.thread o) (field_word place index) value
reference_is_written b s v o place index value stored is found value_is leads =
    let m : Moment = moment_of b s in
    let g : Graph = m.state.graph in
    let k : Moment = next_moment m v.thread o in
    let n : Name = found.of.name in
    let object : Object = found.of.object in
    let there = found.of.is in
    let after : Graph = with_reference g n index stored (Some object) in
    let next = next_is m v.thread o after leads in
    let other : Object = record object { refs = slice_set object.refs index stored } in
    let at_n : first_word (s.at n) + 1 + index ≡ field_word place index = ap (λ p. first_word p + 1 + index) (sym found.of.stands) in
    let words = reference_within (first_word (s.at n)) index (length object.refs) (length object.values) _ found.within (words_cover object) in
    let image = store_keeps_image s.tables (limits_of b).blocks s.at g (members m) n object index stored is.image.placed.image found.of.member there found.within in
    record {
      name = n;
      object = object;
      other = other;
      member = found.of.member;
      there = there;
      which = subst (λ h. Rewrites g h n other) (sym next.0) (rewrites g after n other (λ q. object_at-with_reference g n index stored object q there));
      shape = λ j. record { refs = length-set object.refs index stored j; values = length object.values };
      names = next.1;
      word_is = subst (IsWordOf (s.at n) (shape_of object)) at_n (record { first = words.0; behind = words.1 });
      image = image_is m k (with_heap s.tables (field_word place index) value) (limits_of b).blocks s.at after next.0 next.1
          (subst (λ z. IsImage (with_heap s.tables (field_word place index) z) (limits_of b).blocks s.at after (members m)) (sym value_is)
          (subst (λ z. IsImage (with_heap s.tables z (place_word s.at stored)) (limits_of b).blocks s.at after (members m)) at_n image));
    }

-- the reference that a mutator is about to write
about_to_write : (b : Beginning) (s : EpochState) (i : ℕ) (v : ThreadState) (o : Op) (place index : ℕ) → IsEpoch b s → slice_get s.thread_states i ≡ Some v → v.stage ≡ Works (Stores place index) → Does v o
    → IsReferenceBase s.at (moment_of b s) v o place index
about_to_write b s i v o place index is shown stage does =
    reference_base s.tables (limits_of b).blocks s.at (moment_of b s) v o place index (acts b s i v is shown) does (subst (Knows s.tables (moment_of b s) s.at v) stage (is.image.placed.knows i v shown))

-- objects stay placed by a store
pub store_placed : (b : Beginning) (s : EpochState) (i : ℕ) (v : ThreadState) (base source place index : ℕ) → IsEpoch b s → slice_get s.thread_states i ≡ Some v → v.stage ≡ Works (Stores place index)
    → Does v (op.Store base index source)
    → IsPlacedIn b (stands b s i v (op.Store base index source) (done_with v (op.Store base index source) reply.Stored) (with_heap s.tables (field_word place index) (held v source).0))
store_placed b s i v base source place index is shown stage does =
    let o : Op = op.Store base index source in
    let m : Moment = moment_of b s in
    let known = acts b s i v is shown in
    let found = about_to_write b s i v o place index is shown stage does in
    let stored : Option Name = register_at m.state v.thread source in
    let leads = leads_to m v.thread o (record m.state { graph = with_reference m.state.graph found.of.name index stored (Some found.of.object) }) reply.Stored
    (store_ok m.state v.thread base index source found.of.name found.of.object (base_holds s.at m v o place index base found.of refl) found.of.is found.within) refl in
    written_placed b s i v (done_with v o reply.Stored) o (field_word place index) (held v source).0 is shown
    (reference_is_written b s v o place index (held v source).0 stored is found (known.holds.places source (op_formed v o known.formed does).1) leads)
    (λ u m at. knows_done u m at (done_with v o reply.Stored) v o)

-- and by a swap
pub swap_placed : (b : Beginning) (s : EpochState) (i : ℕ) (v : ThreadState) (dest base source place index : ℕ) → IsEpoch b s → slice_get s.thread_states i ≡ Some v → v.stage ≡ Works (Stores place index)
    → Does v (op.Swap dest base index source)
    → IsPlacedIn b (happen b s i v (event.SwapsReference (op.Swap dest base index source) dest place index (held v source).0))
swap_placed b s i v dest base source place index is shown stage does =
    let o : Op = op.Swap dest base index source in
    let m : Moment = moment_of b s in
    let known = acts b s i v is shown in
    let found = about_to_write b s i v o place index is shown stage does in
    let stored : Option Name = register_at m.state v.thread source in
    let old : Option Name = get_or found.of.object.refs index None in
    let leads = leads_to m v.thread o (with_register (record m.state { graph = with_reference m.state.graph found.of.name index stored (Some found.of.object) }) v.thread dest old) (reply.Swapped old)
    (swap_ok m.state v.thread dest base index source found.of.name found.of.object (base_holds s.at m v o place index base found.of refl) found.of.is found.within) refl in
    let p : Place = place_in (s.tables.heap (field_word place index)) in
    written_placed b s i v (loaded_with v o dest p) o (field_word place index) (held v source).0 is shown
    (reference_is_written b s v o place index (held v source).0 stored is found (known.holds.places source (op_formed v o known.formed does).2) leads)
    (λ u m at. knows_loaded u m at v o dest p)

-- ---- a put and an add

-- a data word is one of the object's
value_within : (n i refs values words : ℕ) → i < values → 1 + refs + values ≤ words → (n ≤ n + 1 + refs + i) × (n + 1 + refs + i < n + words)
value_within n i refs values words h cover = (omega arith, omega arith)

-- an operation that writes a data word of its base writes a word of a member
value_is_written : (b : Beginning) (s : EpochState) (v : ThreadState) (o : Op) (place refs index value : ℕ) → IsEpoch b s → (found : IsValueBase s.at (moment_of b s) v o place refs index)
    → LeadsTo (moment_of b s) v.thread o (with_value (moment_of b s).state.graph found.of.name index value (Some found.of.object))
    → Writes b s (next_moment (moment_of b s) v.thread o) (value_word place refs index) value
value_is_written b s v o place refs index value is found leads =
    let m : Moment = moment_of b s in
    let g : Graph = m.state.graph in
    let k : Moment = next_moment m v.thread o in
    let n : Name = found.of.name in
    let object : Object = found.of.object in
    let there = found.of.is in
    let after : Graph = with_value g n index value (Some object) in
    let next = next_is m v.thread o after leads in
    let other : Object = record object { values = slice_set object.values index value } in
    let at_n : first_word (s.at n) + 1 + length object.refs + index ≡ value_word place refs index =
    ap (λ p. first_word p + 1 + length object.refs + index) (sym found.of.stands) ∙ ap (λ z. first_word place + 1 + z + index) (sym found.refs_are) in
    let words = value_within (first_word (s.at n)) index (length object.refs) (length object.values) _ found.within (words_cover object) in
    let image = put_keeps_image s.tables (limits_of b).blocks s.at g (members m) n object index value is.image.placed.image found.of.member there found.within in
    record {
      name = n;
      object = object;
      other = other;
      member = found.of.member;
      there = there;
      which = subst (λ h. Rewrites g h n other) (sym next.0) (rewrites g after n other (λ q. object_at-with_value g n index value object q there));
      shape = λ j. record { refs = length object.refs; values = length-set object.values index value j };
      names = next.1;
      word_is = subst (IsWordOf (s.at n) (shape_of object)) at_n (record { first = words.0; behind = words.1 });
      image = image_is m k (with_heap s.tables (value_word place refs index) value) (limits_of b).blocks s.at after next.0 next.1
          (subst (λ z. IsImage (with_heap s.tables z value) (limits_of b).blocks s.at after (members m)) at_n image);
    }

-- the data word that a mutator is about to write
about_to_put : (b : Beginning) (s : EpochState) (i : ℕ) (v : ThreadState) (o : Op) (place refs index : ℕ) → IsEpoch b s → slice_get s.thread_states i ≡ Some v → v.stage ≡ Works (AtValue place refs index) → Does v o
    → IsValueBase s.at (moment_of b s) v o place refs index
about_to_put b s i v o place refs index is shown stage does =
    value_base s.tables (limits_of b).blocks s.at (moment_of b s) v o place refs index (acts b s i v is shown) does (subst (Knows s.tables (moment_of b s) s.at v) stage (is.image.placed.knows i v shown))

-- objects stay placed by a put
pub put_placed : (b : Beginning) (s : EpochState) (i : ℕ) (v : ThreadState) (base place refs index value : ℕ) → IsEpoch b s → slice_get s.thread_states i ≡ Some v → v.stage ≡ Works (AtValue place refs index)
    → Does v (op.Put base index value)
    → IsPlacedIn b (stands b s i v (op.Put base index value) (done_with v (op.Put base index value) reply.Put) (with_heap s.tables (value_word place refs index) value))
put_placed b s i v base place refs index value is shown stage does =
    let o : Op = op.Put base index value in
    let m : Moment = moment_of b s in
    let found = about_to_put b s i v o place refs index is shown stage does in
    let leads = leads_to m v.thread o (record m.state { graph = with_value m.state.graph found.of.name index value (Some found.of.object) }) reply.Put
    (put_ok m.state v.thread base index value found.of.name found.of.object (base_holds s.at m v o place index base found.of refl) found.of.is found.within) refl in
    written_placed b s i v (done_with v o reply.Put) o (value_word place refs index) value is shown (value_is_written b s v o place refs index value is found leads)
    (λ u m at. knows_done u m at (done_with v o reply.Put) v o)

-- and by an add
pub add_placed : (b : Beginning) (s : EpochState) (i : ℕ) (v : ThreadState) (base place refs index value : ℕ) → IsEpoch b s → slice_get s.thread_states i ≡ Some v → v.stage ≡ Works (AtValue place refs index)
    → Does v (op.Add base index value) → IsPlacedIn b (happen b s i v (event.AddsValue (op.Add base index value) place refs index value))
add_placed b s i v base place refs index value is shown stage does =
    let o : Op = op.Add base index value in
    let m : Moment = moment_of b s in
    let known = acts b s i v is shown in
    let found = about_to_put b s i v o place refs index is shown stage does in
    let old : ℕ = s.tables.heap (value_word place refs index) in
    let read = value_read s.tables (limits_of b).blocks s.at m v o place refs index known found in
    let sum : ℕ = (old + value) % 2 ^ 64 in
    let leads = leads_to m v.thread o (record m.state { graph = with_value m.state.graph found.of.name index sum (Some found.of.object) }) (reply.Added old)
    (add_ok m.state v.thread base index value found.of.name found.of.object (base_holds s.at m v o place index base found.of refl) found.of.is found.within
    ∙ ap (λ z. (record m.state { graph = with_value m.state.graph found.of.name index ((z + value) % 2 ^ 64) (Some found.of.object) }, reply.Added z)) (sym read)) refl in
    written_placed b s i v (done_with v o (reply.Added old)) o (value_word place refs index) sum is shown (value_is_written b s v o place refs index sum is found leads)
    (λ u m at. knows_done u m at (done_with v o (reply.Added old)) v o)
