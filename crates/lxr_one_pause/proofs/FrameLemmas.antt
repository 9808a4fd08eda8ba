-- What holds of a space between the steps of a pause stays with another number, another order of stuck names, another trace and other
-- states of blocks, where nothing was made.
use Rattle.std.proofs.Common.{◌≡◌, ℕ, ◌/◌, refl, sym, ap, subst, ◌∙◌, inl, inr, List, [], IsTrue}
use Rattle.std.specs.Prelude.{Option}
use Rattle.lxr_layout.specs.declared.TheConstants.{DECREMENT_COUNT, DECREMENT_CURSOR, GRANULES_IN_BLOCK, GRANULES_IN_LINE}
use Rattle.lxr_layout.specs.declared.Name.{Name}
use Rattle.lxr_graph.specs.declared.report.Kind.{Kind}
use Rattle.lxr_graph.specs.declared.report.Report.{Report}
use Rattle.lxr_graph.specs.Names.{has}
use Rattle.lxr_graph.specs.State.{world_name}
use Rattle.lxr_image.specs.declared.space.Space.{Space}
use Rattle.lxr_image.specs.Opened.{HasReportRoom}
use Rattle.lxr_image.specs.Tables.{Tables}
use Rattle.lxr_image.specs.Spaces.{IsSpace, tables_of}
use Rattle.lxr_image.specs.Image.{IsImage}
use Rattle.lxr_blocks.specs.declared.states.BlockState.TheVariants.{Chosen}
use Rattle.lxr_blocks.specs.Placing.{IsRest}
use Rattle.lxr_blocks.specs.States.{state_in}
use Rattle.lxr_model.specs.Moments.{Moment, Trace}
use Rattle.lxr_model_counting.specs.Following.{FollowsPause}
use Rattle.lxr_model_counting.proofs.DeathLemmas.{dead_by_names}
use Rattle.lxr_invariant.specs.AbstractState.{members}
use Rattle.lxr_invariant.specs.Counting.{HasCounts, HasDecrements, IsUndecremented}
use Rattle.lxr_invariant.specs.Lines.{HasBlocks, HasMarks, FreeAreUnused}
use Rattle.lxr_invariant.specs.Standing.{HasBits, IsUnwritten}
use Rattle.lxr_invariant.specs.Quiescent.{HoldsMoment}
use Rattle.lxr_invariant.proofs.FrameLemmas.{bits_still, counts_still, decrements_still, image_still, marks_still, undecremented_still}
use Rattle.lxr_invariant.proofs.ToldLemmas.{holds_told}
use Rattle.lxr_one_pause.specs.Steps.{begun, with_names_in_order}

-- ---- the report

-- the reports of a pause have the room that they had
pub begun_room : (r : Report) (k granules : ℕ) → HasReportRoom r granules → HasReportRoom (begun r k) granules
begun_room r k granules h = record { promoted = h.promoted; dead = h.dead; stuck = h.stuck; swept = h.swept; told = h.told }

pub ordered_room : (r : Report) (granules : ℕ) → HasReportRoom r granules → HasReportRoom (with_names_in_order r) granules
ordered_room r granules h = record { promoted = h.promoted; dead = h.dead; stuck = h.stuck; swept = h.swept; told = h.told }

-- ---- another number, order of stuck names and trace

pub nobody : {P : Type 0} (ns : List Name) (n : Name) → ns ≡ [] → IsTrue (has ns n) → P
nobody ns n e h = let k : IsTrue (has [] n) = subst (λ xs. IsTrue (has xs n)) e h in absurd (cc)

module _ (m : Moment) (number : ℕ) (stuck : List Name) (trace : Option Trace) where
  abbrev pub renumbered : Moment
  renumbered = record m { number = number; stuck = stuck; trace = trace }

  module _ (same : (n : Name) → has stuck n ≡ has m.stuck n) where
    pub follows_renumbered : FollowsPause m → FollowsPause renumbered
    follows_renumbered f = record {
      unreclaimed = f.unreclaimed;
      made = f.made;
      apart = f.apart;
      kept = f.kept;
      closed = f.closed;
      world = same world_name ∙ f.world;
      stuck = λ n k. f.stuck n (sym (same n) ∙ k);
      held = f.held;
      referred = f.referred;
      grows = f.grows;
      objects = f.objects;
      young = f.young;
      unreached = f.unreached;
      unwritten = f.unwritten;
      written_once = f.written_once;
      written = f.written;
      rows = f.rows;
      registers = f.registers;
      registers_were = f.registers_were;
    }

    unwritten_there : (at : Name → ℕ) (us : List Name) (w : ℕ) → IsUnwritten m at us w → IsUnwritten renumbered at us w
    unwritten_there at us w u = (u.0, u.1, record { member = u.2.member; index = u.2.index; unwritten = u.2.unwritten; word = u.2.word })

    unwritten_back : (at : Name → ℕ) (us : List Name) (w : ℕ) → IsUnwritten renumbered at us w → IsUnwritten m at us w
    unwritten_back at us w u = (u.0, u.1, record { member = u.2.member; index = u.2.index; unwritten = u.2.unwritten; word = u.2.word })

    pub bits_renumbered : (t : Tables) (at : Name → ℕ) → HasBits t m at m.unreclaimed → HasBits t renumbered at m.unreclaimed
    bits_renumbered t at h = record {
      starts = h.starts;
      marks = h.marks;
      grays = h.grays;
      dones = h.dones;
      unlogged = λ w. ((λ b. unwritten_there at m.unreclaimed w ((h.unlogged w).0 b)), (λ u. (h.unlogged w).1 (unwritten_back at m.unreclaimed w u)));
    }

    pub counts_renumbered : (t : Tables) (at : Name → ℕ) → HasCounts t m at → HasCounts t renumbered at
    counts_renumbered t at h = record {
      stuck = λ n k q. h.stuck n k (sym (same n) ∙ q);
      below = λ n k q. h.below n k (sym (same n) ∙ q);
      exact = λ n k q. h.exact n k (sym (same n) ∙ q);
      held = λ n k q. h.held n k (sym (same n) ∙ q);
      done = h.done;
      dead = λ n k d. dead_by_names m.last m.unreclaimed m.stuck stuck same (h.dead n k d);
    }

    pub undecremented_renumbered : (t : Tables) (at : Name → ℕ) → IsUndecremented t m at → IsUndecremented t renumbered at
    undecremented_renumbered t at u = record { none_done = u.none_done; none_drawn = u.none_drawn; positive = u.positive }

-- ---- other states of blocks, and another tracing word

-- the tables agree in all that a moment asks for but the states of blocks and the tracing word
pub record AgreesApartFromBlocks (t u : Tables) : Type 0 where
  pub states : ℕ → ℕ
  pub cursors : ℕ → ℕ
  pub tables : u ≡ record t { states = states; cursors = cursors }
  pub drawn : cursors DECREMENT_CURSOR ≡ t.cursors DECREMENT_CURSOR
  pub waiting : cursors DECREMENT_COUNT ≡ t.cursors DECREMENT_COUNT

-- what is left of lines stays so where no block has become Chosen
pub rest_reworded : (s : Space) (words : List ℕ) (began : Option ℕ) → AgreesApartFromBlocks (tables_of s) (tables_of (record s { words = words; trace = began }))
    → ((b : ℕ) → state_in (tables_of (record s { words = words; trace = began })) b ≡ Chosen → state_in (tables_of s) b ≡ Chosen) → IsRest s → IsRest (record s { words = words; trace = began })
rest_reworded s words began agree chosen (inl none) = inl none
rest_reworded s words began agree chosen (inr is) = inr (record {
  some = is.some;
  in_heap = is.in_heap;
  in_line = is.in_line;
  out = ap (λ z. z.outs (s.rest_next / GRANULES_IN_LINE)) agree.tables ∙ is.out;
  outside = λ e. is.outside (chosen (s.rest_next / GRANULES_IN_BLOCK) e);
})

module _ (s : Space) (words : List ℕ) (began : Option ℕ) (m : Moment) (number : ℕ) (stuck : List Name) (trace : Option Trace) (at : Name → ℕ) where
  abbrev pub reworded : Space
  reworded = record s { words = words; trace = began }

  abbrev then : Moment
  then = renumbered m number stuck trace

  module _ (agree : AgreesApartFromBlocks (tables_of s) (tables_of reworded)) (same : (n : Name) → has stuck n ≡ has m.stuck n) where
    abbrev t : Tables
    t = tables_of s

    abbrev u : Tables
    u = record t { states = agree.states; cursors = agree.cursors }

    pub size_reworded : IsSpace s → IsSpace reworded
    size_reworded space = record { limits = space.limits; size = ap (λ z. z.size) agree.tables ∙ space.size }

    pub holds_reworded : m.made ≡ [] → IsRest reworded → HasBlocks (tables_of reworded) s.limits trace → FreeAreUnused (tables_of reworded) at m.unreclaimed → HoldsMoment s m at → HoldsMoment reworded then at
    holds_reworded none_made rest blocks unused h = record {
      space = size_reworded h.space;
      room = record { registers = h.room.registers; deferred = h.room.deferred; logged = h.room.logged; work = h.room.work; report = h.room.report };
      as_many = h.as_many;
      follows = follows_renumbered m number stuck trace same h.follows;
      image = record {
        image = subst (λ z. IsImage z s.limits.blocks at m.state.graph (members m)) (sym agree.tables) (image_still t u s.limits.blocks at m.state.graph (members m) (members m) refl (λ n k. k) h.image.image);
        registers = h.image.registers;
        deferred = h.image.deferred;
        world = h.image.world;
      };
      bits = subst (λ z. HasBits z then at m.unreclaimed) (sym agree.tables) (bits_renumbered m number stuck trace same u at (bits_still t u m at m.unreclaimed refl refl refl refl refl h.bits));
      logs = h.logs;
      few_logs = h.few_logs;
      counts = subst (λ z. HasCounts z then at) (sym agree.tables) (counts_renumbered m number stuck trace same u at (counts_still t u m at refl refl refl agree.drawn agree.waiting h.counts));
      decrements = subst (λ z. HasDecrements s.limits z then at) (sym agree.tables)
          (let d = decrements_still s.limits s.limits t u m at refl refl agree.waiting h.decrements in record { fits = d.fits; places = d.places });
      marks = subst (λ z. HasMarks z m.state.graph at m.unreclaimed) (sym agree.tables) (marks_still t u m.state.graph at m.unreclaimed refl h.marks);
      lines = λ n o k made. nobody m.made n none_made made;
      unchosen = λ n made. nobody m.made n none_made made;
      unused = unused;
      blocks = blocks;
      rest = record { rest = rest; apart = h.rest.apart };
      no_work = h.no_work;
    }

    pub undecremented_reworded : IsUndecremented t m at → IsUndecremented (tables_of reworded) then at
    undecremented_reworded h = subst (λ z. IsUndecremented z then at) (sym agree.tables)
        (undecremented_renumbered m number stuck trace same u at (undecremented_still t u m at refl refl agree.drawn h))

-- ---- spaces whose words stay

pub holds_renumbered : (s : Space) (m : Moment) (number : ℕ) (stuck : List Name) (trace : Option Trace) (at : Name → ℕ) → ((n : Name) → has stuck n ≡ has m.stuck n)
    → m.made ≡ [] → HasBlocks (tables_of s) s.limits trace → HoldsMoment s m at → HoldsMoment s (renumbered m number stuck trace) at
holds_renumbered s m number stuck trace at same none_made blocks h =
    holds_reworded s s.words s.trace m number stuck trace at
    (record { states = (tables_of s).states; cursors = (tables_of s).cursors; tables = refl; drawn = refl; waiting = refl }) same none_made h.rest.rest blocks h.unused h

-- ---- spaces with other words and another trace

-- a space whose words and trace alone are others, and whose tables agree
pub record IsReworded (c x : Space) (began : Option ℕ) : Type 0 where
  pub same : x ≡ record c { words = x.words; trace = began }
  pub agree : AgreesApartFromBlocks (tables_of c) (tables_of x)

module _ (c x : Space) (began : Option ℕ) (is : IsReworded c x began) where
  abbrev there : Space
  there = record c { words = x.words; trace = began }

  agree_there : AgreesApartFromBlocks (tables_of c) (tables_of there)
  agree_there = subst (λ y. AgreesApartFromBlocks (tables_of c) (tables_of y)) is.same is.agree

  pub holds_then : (m : Moment) (trace : Option Trace) (at : Name → ℕ) → m.made ≡ [] → IsRest x → HasBlocks (tables_of x) c.limits trace → FreeAreUnused (tables_of x) at m.unreclaimed → HoldsMoment c m at
      → HoldsMoment x (record m { trace = trace }) at
  holds_then m trace at none_made rest blocks unused h = subst (λ y. HoldsMoment y (record m { trace = trace }) at) (sym is.same)
      (holds_reworded c x.words began m m.number m.stuck trace at agree_there (λ n. refl) none_made (subst IsRest is.same rest) (subst (λ y. HasBlocks (tables_of y) c.limits trace) is.same blocks) (subst (λ y. FreeAreUnused (tables_of y) at m.unreclaimed) is.same unused) h)

  pub rest_then : ((b : ℕ) → state_in (tables_of x) b ≡ Chosen → state_in (tables_of c) b ≡ Chosen) → IsRest c → IsRest x
  rest_then chosen rest = subst IsRest (sym is.same)
      (rest_reworded c x.words began agree_there (λ b e. chosen b (subst (λ y. state_in (tables_of y) b ≡ Chosen) (sym is.same) e)) rest)

  pub undecremented_then : (m : Moment) (trace : Option Trace) (at : Name → ℕ) → IsUndecremented (tables_of c) m at → IsUndecremented (tables_of x) (record m { trace = trace }) at
  undecremented_then m trace at h = subst (λ y. IsUndecremented (tables_of y) (record m { trace = trace }) at) (sym is.same)
      (undecremented_reworded c x.words began m m.number m.stuck trace at agree_there (λ n. refl) h)

-- the report may have another kind
pub holds_of_kind : (s : Space) (m : Moment) (at : Name → ℕ) (k : Kind) → HoldsMoment s m at → HoldsMoment (record s { report = record s.report { kind = k } }) m at
holds_of_kind s m at k h = holds_told s m at (record s.report { kind = k }) s.tally s.pauses
    (record { promoted = h.room.report.promoted; dead = h.room.report.dead; stuck = h.room.report.stuck; swept = h.room.report.swept; told = h.room.report.told }) h
