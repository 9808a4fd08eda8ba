-- A space at rest stays so where fields of members are written and registers hold other names: objects keep their places and shapes, and
-- what tells of fields and of the log is known of the state then.
use Rattle.std.proofs.Common.{◌≡◌, ℕ, ◌+◌, ◌*◌, ◌/◌, ◌<◌, ◌≤◌, refl, sym, ap, subst, ◌∙◌, List, length}
use Rattle.std.specs.Prelude.{Some, None, IsTrue}
use Rattle.lxr_layout.specs.declared.LogEntry.{LogEntry}
use Rattle.lxr_layout.specs.declared.Name.{Name}
use Rattle.lxr_layout.specs.declared.Place.{Place}
use Rattle.lxr_layout.specs.Objects.{word_count}
use Rattle.lxr_graph.specs.Names.{has}
use Rattle.lxr_graph.specs.State.{Graph, Object, State, object_at, shape_of}
use Rattle.lxr_image.specs.declared.space.Space.{Space}
use Rattle.lxr_image.specs.Tables.{Tables, tables_in}
use Rattle.lxr_image.specs.Spaces.{tables_of}
use Rattle.lxr_image.specs.Reads.{granule_of}
use Rattle.lxr_image.specs.Image.{ArePlacesOf, IsImage, granules_of}
use Rattle.lxr_model.specs.Moments.{Field, Moment}
use Rattle.lxr_model_counting.specs.Following.{FollowsPause}
use Rattle.lxr_invariant.specs.AbstractState.{AbstractState, members}
use Rattle.lxr_invariant.specs.Standing.{AreLogged, HasBits}
use Rattle.lxr_invariant.specs.Counting.{HasCounts, HasDecrements, IsUndecremented}
use Rattle.lxr_invariant.specs.Lines.{AvoidChosen, Covers, FreeAreUnused, HasBlocks, HasMarks, HasStates, KeepLines, KeepsRest, LinesAreOut, OutsAreTaken}
use Rattle.lxr_invariant.specs.Tracing.{IsTracedBy}
use Rattle.lxr_invariant.specs.Quiescent.{HoldsMoment, IsAtRest}
use Rattle.lxr_invariant.proofs.FrameLemmas.{rest_still}
use Rattle.lxr_invariant.proofs.NameLemmas.{in_first, in_second}

-- these names' objects have in the one graph the shapes that they have in the other
abbrev pub KeepsShapes : Graph → Graph → List Name → Type 0
KeepsShapes g h ns = (n : Name) (o : Object) → IsTrue (has ns n) → object_at g n ≡ Some o → (p : Object) × (object_at h n ≡ Some p) × (shape_of p ≡ shape_of o)

-- the moment with another state and other references stored to
abbrev pub turned : Moment → State → List Field → Moment
turned m st ws = record m { state = st; written = ws }

-- the space with other words, registers and entries
abbrev pub turned_space : Space → List ℕ → List Place → List LogEntry → Space
turned_space s words places entries = record s { words = words; registers = record s.registers { items = places }; logged = record s.logged { items = entries } }

-- what is known of the state then
pub record IsTurned (s : Space) (m : Moment) (at : Name → ℕ) (st : State) (ws : List Field) (words : List ℕ) (places : List Place) (entries : List LogEntry) : Type 0 where
  pub tables : tables_in s.limits words ≡ record (tables_of s) { heap = (tables_in s.limits words).heap; unlogged = (tables_in s.limits words).unlogged }
  pub follows : FollowsPause (turned m st ws)
  pub shapes : KeepsShapes m.state.graph st.graph (members m)
  pub image : IsImage (tables_in s.limits words) s.limits.blocks at st.graph (members m)
  pub registers : ArePlacesOf at places st.registers
  pub many : length places ≡ length s.registers.items
  pub bits : HasBits (tables_in s.limits words) (turned m st ws) at m.unreclaimed
  pub logs : AreLogged (turned m st ws) at entries
  pub few : length entries ≤ s.limits.threads * s.limits.log

-- granules of an object of this shape
same_size : (p o : Object) → shape_of p ≡ shape_of o → granules_of o ≡ granules_of p
same_size p o e = ap (λ z. word_count z / 2) (sym e)

module _ (s : Space) (g : AbstractState) (st : State) (ws : List Field) (words : List ℕ) (places : List Place) (entries : List LogEntry) (is : IsAtRest s g) (untraced : g.moment.trace ≡ None)
    (now : IsTurned s g.moment g.at st ws words places entries) where
  abbrev m : Moment
  m = g.moment

  abbrev then : Moment
  then = turned g.moment st ws

  abbrev after : Space
  after = turned_space s words places entries

  abbrev tables : Tables
  tables = record (tables_of s) { heap = (tables_in s.limits words).heap; unlogged = (tables_in s.limits words).unlogged }

  -- a member that has an object now had one of its shape
  had : (n : Name) (p : Object) → IsTrue (has (members m) n) → object_at st.graph n ≡ Some p → (o : Object) × (object_at m.state.graph n ≡ Some o) × (shape_of p ≡ shape_of o)
  had n p member there =
      let a = is.safepoint.holds.image.image.stands n member in
      let b = now.shapes n a.0 member a.1 in
      let same : Some b.0 ≡ Some p = sym b.1 ∙ there in
      let same_p : b.0 ≡ p = cc in
      (a.0, a.1, ap shape_of (sym same_p) ∙ b.2)

  -- a granule that it has now it had
  covered : (n : Name) (p : Object) (k : ℕ) → IsTrue (has (members m) n) → Covers st.graph g.at n p k → (o : Object) × Covers m.state.graph g.at n o k
  covered n p k member covers =
      let a = had n p member covers.object in
      (a.0, record { object = a.1; first = covers.first; behind = subst (λ z. k < granule_of (g.at n) + z) (sym (same_size p a.0 a.2)) covers.behind })

  -- and one that it had it has
  covers_still : (n : Name) (o : Object) (k : ℕ) → IsTrue (has (members m) n) → Covers m.state.graph g.at n o k → (p : Object) × Covers st.graph g.at n p k
  covers_still n o k member covers =
      let b = now.shapes n o member covers.object in
      (b.0, record { object = b.1; first = covers.first; behind = subst (λ z. k < granule_of (g.at n) + z) (same_size b.0 o b.2) covers.behind })

  in_old : (n : Name) → IsTrue (has m.unreclaimed n) → IsTrue (has (members m) n)
  in_old n h = in_first m.unreclaimed m.made n h

  in_new : (n : Name) → IsTrue (has m.made n) → IsTrue (has (members m) n)
  in_new n h = in_second m.unreclaimed m.made n h

  counts_then : HasCounts tables then g.at
  counts_then =
      let c = is.safepoint.holds.counts in
      record { stuck = c.stuck; below = c.below; exact = c.exact; held = c.held; done = c.done; dead = c.dead }

  decrements_then : HasDecrements s.limits tables then g.at
  decrements_then = let d = is.safepoint.holds.decrements in record { fits = d.fits; places = d.places }

  marks_then : HasMarks tables st.graph g.at m.unreclaimed
  marks_then =
      let k = is.safepoint.holds.marks in
      record {
        marked = λ n p j h there mark.
            let a = had n p (in_old n h) there in
            k.marked n a.0 j h a.1 (record { begins = mark.begins; behind = mark.behind; within = subst (λ z. j < granule_of (g.at n) + z) (sym (same_size p a.0 a.2)) mark.within });
        elsewhere = λ j none bare. k.elsewhere j none (λ n o h there mark.
            let b = now.shapes n o (in_old n h) there in
            bare n b.0 h b.1 (record { begins = mark.begins; behind = mark.behind; within = subst (λ z. j < granule_of (g.at n) + z) (same_size b.0 o b.2) mark.within }));
      }

  lines_then : LinesAreOut tables st.graph g.at m.made
  lines_then n p k h covers = let a = covered n p k (in_new n h) covers in is.safepoint.holds.lines n a.0 k h a.1

  unused_then : FreeAreUnused tables g.at m.unreclaimed
  unused_then = let u = is.safepoint.holds.unused in record { objects = u.objects; outs = u.outs }

  blocks_then : HasBlocks tables s.limits m.trace
  blocks_then = let b = is.safepoint.holds.blocks in record { world = b.world; others = b.others; few = b.few; chosen = b.chosen; tracing = b.tracing }

  rest_then : KeepsRest after then g.at
  rest_then = record {
    rest = rest_still s after refl refl refl (ap (λ t. t.outs) now.tables) (ap (λ t. t.states) now.tables) is.safepoint.holds.rest.rest;
    apart = λ n p k member covers. let a = covered n p k member covers in is.safepoint.holds.rest.apart n a.0 k member a.1;
  }

  holds_then : HoldsMoment after then g.at
  holds_then =
      let d = is.safepoint.holds in
      let same = now.tables in
      record {
        space = record { limits = d.space.limits; size = ap (λ z. z.size) same ∙ d.space.size };
        room = record { registers = d.room.registers; deferred = d.room.deferred; logged = d.room.logged; work = d.room.work; report = d.room.report };
        as_many = (now.many ∙ d.as_many.0, d.as_many.1);
        follows = now.follows;
        image = record { image = now.image; registers = now.registers; deferred = d.image.deferred; world = d.image.world };
        bits = now.bits;
        logs = now.logs;
        few_logs = now.few;
        counts = subst (λ z. HasCounts z then g.at) (sym same) counts_then;
        decrements = subst (λ z. HasDecrements s.limits z then g.at) (sym same) decrements_then;
        marks = subst (λ z. HasMarks z st.graph g.at m.unreclaimed) (sym same) marks_then;
        lines = subst (λ z. LinesAreOut z st.graph g.at m.made) (sym same) lines_then;
        unchosen = subst (λ z. AvoidChosen z g.at m.made) (sym same) d.unchosen;
        unused = subst (λ z. FreeAreUnused z g.at m.unreclaimed) (sym same) unused_then;
        blocks = subst (λ z. HasBlocks z s.limits m.trace) (sym same) blocks_then;
        rest = rest_then;
        no_work = d.no_work;
      }

  outs_then : OutsAreTaken tables st.graph g.at (members m)
  outs_then = record {
    taken = λ line out.
        let a = is.outs.taken line out in
        let b = covers_still a.0 a.1 a.2 a.3 a.4 in
        (a.0, b.0, a.2, a.3, b.1, a.5);
    outside = is.outs.outside;
  }

  -- so the space is at rest for the state then
  pub rests_turned : IsAtRest after (record g { moment = then })
  rests_turned =
      let numbers = is.safepoint.numbers in
      let same = now.tables in
      record {
        safepoint = record {
          holds = holds_then;
          numbers = record { pauses = numbers.pauses; trace = numbers.trace; report = numbers.report };
          traced = subst (λ z. IsTracedBy s.limits (tables_of after) entries (record g { moment = then }) z) (sym untraced) tt;
        };
        undecremented = subst (λ z. IsUndecremented z then g.at) (sym same) (record { none_done = is.undecremented.none_done; none_drawn = is.undecremented.none_drawn; positive = is.undecremented.positive });
        lines = subst (λ z. KeepLines z st.graph g.at (members m)) (sym same) (λ n p k member covers. let a = covered n p k member covers in is.lines n a.0 k member a.1);
        outs = subst (λ z. OutsAreTaken z st.graph g.at (members m)) (sym same) outs_then;
        states = subst (λ z. HasStates z s.limits.blocks) (sym same) is.states;
      }
