-- What helpers find below them while mutators work: what is unreclaimed stands where it stood at the last pause, a reference's word is the
-- place of what it holds, and what is dead holds what it held at the last pause.
use Rattle.std.proofs.Common.{◌≡◌, ◌≢◌, ℕ, ◌≤◌, refl, sym, ap, subst, ◌∙◌, arith, IsTrue, length}
use Rattle.std.specs.Prelude.{Some, slice_get}
use Rattle.lxr_layout.specs.declared.Name.{Name}
use Rattle.lxr_layout.specs.declared.Shape.{Shape}
use Rattle.lxr_layout.specs.declared.TheConstants.{TRACING_WORD}
use Rattle.lxr_layout.specs.Places.{field_word, first_word}
use Rattle.lxr_graph.specs.Names.{has}
use Rattle.lxr_graph.specs.State.{object_at, refs_of}
use Rattle.lxr_image.specs.Tables.{Tables}
use Rattle.lxr_image.specs.Reads.{granule_of}
use Rattle.lxr_model.specs.Moments.{Moment, Trace}
use Rattle.lxr_model_counting.proofs.DeathLemmas.{dead_unwritten}
use Rattle.lxr_invariant.specs.AbstractState.{members}
use Rattle.lxr_invariant.specs.Counting.{is_done}
use Rattle.lxr_invariant.specs.Lines.{tracing_word}
use Rattle.lxr_invariant.proofs.MemberLemmas.{member_refers}
use Rattle.lxr_invariant.proofs.NameLemmas.{in_first}
use Rattle.lxr_core_invariant.specs.EpochStates.{Beginning, EpochState, limits_of, moment_of}
use Rattle.lxr_core_invariant.specs.Events.{TellsObject}
use Rattle.lxr_core_invariant.specs.Counted.{StandsAt, references_at}
use Rattle.lxr_core_invariant.specs.Epoch.{IsEpoch}
use Rattle.lxr_core_invariant.proofs.PauseLemmas.{AreUnmoved, HaveOnePause, dead_stays, one_pause, unmoved}
use Rattle.lxr_core_invariant.proofs.TellingLemmas.{one_place, placed_there, told_is}
use Rattle.lxr_core_invariant.proofs.FieldLemmas.{name_found}

-- a reference of an object holds a name's object now; at the last pause
abbrev pub HoldsNow : Moment → Name → ℕ → Name → Type 0
HoldsNow m n i v = slice_get (refs_of (object_at m.state.graph n)) i ≡ Some (Some v)

abbrev pub HeldThen : Moment → Name → ℕ → Name → Type 0
HeldThen m n i v = slice_get (refs_of (object_at m.last.graph n)) i ≡ Some (Some v)

-- a heap word is the place of an object
pub record IsPlaceAt (at : Name → ℕ) (word : ℕ) (v : Name) : Type 0 where
  pub is : word ≡ at v
  pub some : word ≢ 0

-- What helpers find, by the moment and the places now; what they know speaks of those of the epoch's beginning. An unreclaimed object begins at
-- a place where a start bit is, and has as many references as it had and as its header tells.
pub record HelpersFind (t : Tables) (was : Moment) (stood : Name → ℕ) (m : Moment) (at : Name → ℕ) : Type 0 where
  pub placed : (n : Name) → IsTrue (has m.unreclaimed n) → 1 ≤ at n
  pub started : (n : Name) → IsTrue (has m.unreclaimed n) → IsTrue (t.starts (granule_of (at n)))
  pub some : (place : ℕ) → StandsAt was stood place → 1 ≤ place
  pub refs : (n : Name) → IsTrue (has m.unreclaimed n) → length (references_at was stood (at n)) ≡ length (refs_of (object_at m.state.graph n))
  pub told : (n o : Name) (shape : Shape) → IsTrue (has m.unreclaimed n) → TellsObject (t.heap (first_word (at n))) o shape → shape.refs ≡ length (refs_of (object_at m.state.graph n))
  pub word : (n v : Name) (i : ℕ) → IsTrue (has m.unreclaimed n) → HoldsNow m n i v → IsPlaceAt at (t.heap (field_word (at n) i)) v
  pub dead : (n v : Name) (i : ℕ) → IsTrue (has m.unreclaimed n) → IsTrue (is_done t at n) → HeldThen m n i v → HoldsNow m n i v
  pub tracing : (trace : Trace) → m.trace ≡ Some trace → t.cursors TRACING_WORD ≡ 1

module _ (b : Beginning) (s : EpochState) (is : IsEpoch b s) where
  abbrev was : Moment
  was = b.abstract_state.moment

  abbrev stood : Name → ℕ
  stood = b.abstract_state.at

  abbrev m : Moment
  m = moment_of b s

  pause : HaveOnePause was m
  pause = one_pause b s is

  still : AreUnmoved was.unreclaimed stood s.at
  still = unmoved b s is

  then : (n : Name) → IsTrue (has m.unreclaimed n) → IsTrue (has was.unreclaimed n)
  then n h = subst (λ z. IsTrue (has z n)) pause.unreclaimed h

  now : (n : Name) → IsTrue (has was.unreclaimed n) → IsTrue (has m.unreclaimed n)
  now n h = subst (λ z. IsTrue (has z n)) (sym pause.unreclaimed) h

  member : (n : Name) → IsTrue (has m.unreclaimed n) → IsTrue (has (members m) n)
  member n h = in_first m.unreclaimed m.made n h

  placed_now : (n : Name) → IsTrue (has m.unreclaimed n) → 1 ≤ s.at n
  placed_now n h = (is.image.placed.image.stands n (member n h)).2.placed

  -- two unreclaimed objects stood at two places
  one_then : (n o : Name) → IsTrue (has was.unreclaimed n) → IsTrue (has was.unreclaimed o) → stood n ≡ stood o → n ≡ o
  one_then n o in_n in_o e =
      one_place s.tables (limits_of b).blocks s.at m.state.graph (members m) n o is.image.placed.image (member n (now n in_n)) (member o (now o in_o)) (still n in_n ∙ e ∙ sym (still o in_o))

  -- the references that the object at a place had are as many as it has
  as_many : (n : Name) → IsTrue (has m.unreclaimed n) → length (references_at was stood (s.at n)) ≡ length (refs_of (object_at m.state.graph n))
  as_many n h =
      let in_n = then n h in
      let name = name_found stood was.unreclaimed n (s.at n) in_n (λ x k e. one_then x n k in_n e) (still n in_n) in
      let shaped = is.lives.objects n h in
      ap (λ z. length (refs_of (object_at was.last.graph z))) name ∙ ap (λ z. length (refs_of (object_at z.graph n))) (sym pause.last)
      ∙ ap (λ z. length (refs_of z)) shaped.2 ∙ sym shaped.4.refs ∙ sym (ap (λ z. length (refs_of z)) shaped.3)

  -- its header tells how many
  told_now : (n o : Name) (shape : Shape) → IsTrue (has m.unreclaimed n) → TellsObject (s.tables.heap (first_word (s.at n))) o shape → shape.refs ≡ length (refs_of (object_at m.state.graph n))
  told_now n o shape h told =
      let x = is.image.placed.image.stands n (member n h) in
      let same = told_is s.tables (limits_of b).blocks s.at m.state.graph (members m) n o x.0 shape (s.at n) is.image.placed.image (member n h) x.1 refl told in
      ap (λ (z : Shape). z.refs) same.1 ∙ sym (ap (λ z. length (refs_of z)) x.1)

  -- what a reference holds is a member, and its word that one's place
  word_now : (n v : Name) (i : ℕ) → IsTrue (has m.unreclaimed n) → HoldsNow m n i v → IsPlaceAt s.at (s.tables.heap (field_word (s.at n) i)) v
  word_now n v i h holds =
      let x = is.image.placed.image.stands n (member n h) in
      let read : slice_get x.0.refs i ≡ Some (Some v) = ap (λ z. slice_get (refs_of z) i) (sym x.1) ∙ holds in
      let word = x.2.refs i (Some v) read in
      let in_v = member_refers m n v x.0 i is.lives (member n h) x.1 read in
      record { is = word; some = λ e. placed_there s.tables (limits_of b).blocks s.at m.state.graph (members m) v is.image.placed.image in_v (sym word ∙ e) }

  -- what is done is dead, so it was not stored to
  dead_now : (n v : Name) (i : ℕ) → IsTrue (has m.unreclaimed n) → IsTrue (is_done s.tables s.at n) → HeldThen m n i v → HoldsNow m n i v
  dead_now n v i h done held =
      let in_n = then n h in
      let d = is.counted.dead n in_n (ap (λ p. s.tables.dones (granule_of p)) (sym (still n in_n)) ∙ done) in
      is.lives.unwritten n i h (dead_unwritten m n i is.lives (dead_stays was m n pause d)) ∙ held

  -- the tracing word tells of the trace that runs
  tracing_now : (trace : Trace) → m.trace ≡ Some trace → s.tables.cursors TRACING_WORD ≡ 1
  tracing_now trace runs =
      is.fixed.cursors TRACING_WORD (λ e. absurd (omega arith)) (λ e. absurd (omega arith)) (λ e. absurd (omega arith)) (λ e. absurd (omega arith)) (λ e. absurd (omega arith))
      ∙ is.begins.between.safepoint.holds.blocks.tracing ∙ ap tracing_word (sym pause.trace ∙ runs)

  pub helpers_find : HelpersFind s.tables was stood m s.at
  helpers_find = record {
    placed = placed_now;
    started = λ n h. is.logged.bits.starts.each n h;
    some = λ place stands. subst (λ p. 1 ≤ p) (still stands.name stands.member ∙ sym stands.stands) (placed_now stands.name (now stands.name stands.member));
    refs = as_many;
    told = told_now;
    word = word_now;
    dead = dead_now;
    tracing = tracing_now;
  }
