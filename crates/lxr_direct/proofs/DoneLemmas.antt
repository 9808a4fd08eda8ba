-- An operation is done once the space is at rest for the state after it.
use Rattle.std.proofs.Common.{◌≡◌, ℕ, ◌<◌, refl, sym, ap, subst, ◌∙◌, List, length}
use Rattle.std.specs.Prelude.{Option, IsTrue}
use Rattle.lxr_layout.specs.declared.LogEntry.{LogEntry}
use Rattle.lxr_layout.specs.declared.Name.{Name}
use Rattle.lxr_layout.specs.declared.Place.{Place}
use Rattle.lxr_graph.specs.declared.Op.{Op}
use Rattle.lxr_graph.specs.declared.Reply.{Reply}
use Rattle.lxr_graph.specs.Names.{has}
use Rattle.lxr_graph.specs.State.{State, object_at, refs_of}
use Rattle.lxr_graph.specs.Step.{step}
use Rattle.lxr_image.specs.declared.space.Space.{Space}
use Rattle.lxr_image.specs.Tables.{Tables}
use Rattle.lxr_image.specs.Spaces.{tables_of}
use Rattle.lxr_image.specs.Image.{ArePlacesOf, IsImage}
use Rattle.lxr_model.specs.Moments.{Field, Moment, after_call}
use Rattle.lxr_model_counting.specs.Following.{FollowsPause}
use Rattle.lxr_invariant.specs.AbstractState.{AbstractState, members}
use Rattle.lxr_invariant.specs.Quiescent.{IsAtRest}
use Rattle.lxr_invariant.specs.Standing.{HasBits}
use Rattle.lxr_invariant.proofs.NameLemmas.{in_first}
use Rattle.lxr_direct.specs.Operating.{IsDone, KeepsTables, Leaves, MayOperate}
use Rattle.lxr_direct.proofs.TurnedLemmas.{IsTurned, KeepsShapes, rests_turned, turned, turned_space}

-- ---- what the moment after a call is

-- An operation makes no object: where the tables keep all but heap words and unlogged bits, it leaves what it is to leave.
abbrev pub MakesNothing : Space → AbstractState → ℕ → Op → Type 0
MakesNothing s g t o = (after : Space) → KeepsTables (tables_of s) (tables_of after) → Leaves s after g.moment.state t o

-- done, by the space that has turned
pub done_turned : (s : Space) (g : AbstractState) (t serial : ℕ) (o : Op) (r : Reply) (st : State) (ws : List Field) (words : List ℕ) (places : List Place) (entries : List LogEntry)
    → MakesNothing s g t o → MayOperate s g t serial
    → after_call g.moment t o r ≡ turned g.moment st ws → r ≡ (step g.moment.state t o).1 → IsTurned s g.moment g.at st ws words places entries → IsDone s (turned_space s words places entries) g t o r
done_turned s g t serial o r st ws words places entries leaves may moment reply now = record {
  reply = reply;
  at = g.at;
  stay = λ n h. refl;
  rests = subst (λ m. IsAtRest (turned_space s words places entries) (record g { moment = m })) (sym moment) (rests_turned s g st ws words places entries may.rests may.untraced now);
  keeps = refl;
  leaves = leaves (turned_space s words places entries) now.tables;
}

-- done, where nothing has changed
pub done_unchanged : (s : Space) (g : AbstractState) (t serial : ℕ) (o : Op) (r : Reply) → MakesNothing s g t o → MayOperate s g t serial
    → after_call g.moment t o r ≡ g.moment → r ≡ (step g.moment.state t o).1 → IsDone s s g t o r
done_unchanged s g t serial o r leaves may moment reply = record {
  reply = reply;
  at = g.at;
  stay = λ n h. refl;
  rests = subst (λ m. IsAtRest s (record g { moment = m })) (sym moment) may.rests;
  keeps = refl;
  leaves = leaves s refl;
}

-- ---- bits

-- references of unreclaimed objects are as many as they were
same_refs : (m : Moment) (st : State) (n : Name) (blocks : ℕ) (t : Tables) (at : Name → ℕ) → IsImage t blocks at m.state.graph (members m) → KeepsShapes m.state.graph st.graph (members m) → IsTrue (has (members m) n)
    → length (refs_of (object_at st.graph n)) ≡ length (refs_of (object_at m.state.graph n))
same_refs m st n blocks t at image shapes member =
    let a = image.stands n member in
    let b = shapes n a.0 member a.1 in
    ap (λ z. length (refs_of z)) b.1 ∙ ap (λ z. z.refs) b.2 ∙ sym (ap (λ z. length (refs_of z)) a.1)

-- bits of objects and references tell of the same where objects keep their shapes
pub bits_turned : (t u : Tables) (blocks : ℕ) (m : Moment) (at : Name → ℕ) (st : State) (ws : List Field) → IsImage t blocks at m.state.graph (members m) → KeepsShapes m.state.graph st.graph (members m)
    → HasBits u (record m { written = ws }) at m.unreclaimed → HasBits u (turned m st ws) at m.unreclaimed
bits_turned t u blocks m at st ws image shapes bits = record {
  starts = record { each = bits.starts.each; only = bits.starts.only };
  marks = bits.marks;
  grays = bits.grays;
  dones = bits.dones;
  unlogged = λ w. (
    λ set. let a = (bits.unlogged w).0 set in (
      a.0,
      a.1,
      record {
        member = a.2.member;
        index = subst (λ z. a.1 < z) (sym (same_refs m st a.0 blocks t at image shapes (in_first m.unreclaimed m.made a.0 a.2.member))) a.2.index;
        unwritten = a.2.unwritten;
        word = a.2.word;
      },
    ),
    λ a. (bits.unlogged w).1 (
      a.0,
      a.1,
      record {
        member = a.2.member;
        index = subst (λ z. a.1 < z) (same_refs m st a.0 blocks t at image shapes (in_first m.unreclaimed m.made a.0 a.2.member)) a.2.index;
        unwritten = a.2.unwritten;
        word = a.2.word;
      },
    ),
  );
}

-- ---- registers

-- the state with other registers
abbrev pub holding : State → List (Option Name) → State
holding st rs = record st { registers = rs }

-- registers alone hold other names
pub registers_turned : (s : Space) (g : AbstractState) (t serial : ℕ) (held : List (Option Name)) (places : List Place) → MayOperate s g t serial → FollowsPause (turned g.moment (holding g.moment.state held) g.moment.written)
    → ArePlacesOf g.at places held → length places ≡ length s.registers.items
    → IsTurned s g.moment g.at (holding g.moment.state held) g.moment.written s.words places s.logged.items
registers_turned s g t serial held places may follows are many =
    let d = may.rests.safepoint.holds in
    record {
      tables = refl;
      follows = follows;
      shapes = λ n o h there. (o, there, refl);
      image = d.image.image;
      registers = are;
      many = many;
      bits = bits_turned (tables_of s) (tables_of s) s.limits.blocks g.moment g.at (holding g.moment.state held) g.moment.written d.image.image (λ n o h there. (o, there, refl)) d.bits;
      logs = d.logs;
      few = d.few_logs;
    }
